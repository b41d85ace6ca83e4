-- The messages in the scenes of wrong trains are safe, computed.
use Rattle.std.proofs.Common.{ℤ, ◌*◌, ◌<◌, ◌==◌, ◌∙◌, ◌≡◌, ◌≤◌, ◌⊎◌, ap, arith, Bool, false, if◌then◌else◌, inl, inr}
use Rattle.std.proofs.Common.{int_lt, ltb-true, None, pos, refl, Some, subst, sym, true, ℕ}
use Rattle.std.proofs.lemmas.Bool.{cases_lt}
use Rattle.std.proofs.lemmas.Bool.Decides.{eqb_tells}
use Rattle.std.proofs.lemmas.Option.{none-some, same_Some}
use Rattle.law_outside.specs.Outside.{front_end, is_in, IsSafeOutside, may_run_over, Stretch}
use Rattle.law_outside.specs.Scenes.{granted, line, seen_of, side_by_side}
use Rattle.law_promises.proofs.Spans.{in_parts, no_later}
use Rattle.law_promises.specs.Arrival.Meeting.{Extent, is_over, IsTruthful, IsWithin}
use Rattle.law_promises.specs.Arrival.Scenes.{in_1, in_2, moved_on, two_trains}
use Rattle.rbc_spec.proofs.Places.{ends_rise}
use Rattle.rbc_spec.specs.Line.{end, start as line_start}
use Rattle.rbc_spec.specs.Maps.{has}
use Rattle.rbc_spec.specs.Place.{extent}
use Rattle.rbc_spec.specs.SectionRuns.{longest, within}
use Rattle.rbc_spec.specs.Sections.{is_on}

-- # The messages in the scenes of wrong trains are safe as a whole.

-- a stretch of the track, from its rear end in decimetres to its end in metres
abbrev from_to : (rear end since : ℕ) → Stretch
from_to rear e since = record { track = 0; rear = pos rear; end = e; since = since; asked = None }

-- the sections after `low` to `last`
between : (x : Stretch) (low last rear s : ℕ) → x.track ≡ 0 → x.rear ≡ pos rear → x.end ≡ end line last
    → is_on line 0 low ≡ true → is_on line 0 last ≡ true → 10 * end line low ≤ rear → is_in line s x ≡ true
    → (low < s) × (s ≤ last)
between x low last rear s track rears ends on_low on_last le is =
    let p = in_parts line x s is in
    let on : is_on line 0 s ≡ true = subst (λ (k : ℕ). is_on line k s ≡ true) track p.on in
    let past = ltb-true rear (10 * end line s) (sym (ap (λ (r : ℤ). int_lt r (pos (10 * end line s))) rears)
    ∙ p.past) in (
      elim (cases_lt low s) [
        | inl more ↦ more
        | inr less ↦ absurd (let up = ends_rise line 0 s low on on_low less in omega (arith, up, past, le))
      ],
      no_later line 0 s last on on_last (let before = p.before in omega (arith, before, ends)),
    )

end_0 : end line 0 ≡ 1000
unfolding end line_start
end_0 = refl

end_1 : end line 1 ≡ 2000
unfolding end line_start
end_1 = refl

end_2 : end line 2 ≡ 3000
unfolding end line_start
end_2 = refl

end_3 : end line 3 ≡ 4000
unfolding end line_start
end_3 = refl

-- ## The train that moves on

moved_1 : (seen_of moved_on).stretch 1 ≡ Some (from_to 33900 4000 4)
unfolding within longest line_start end extent front_end seen_of
moved_1 = refl

moved_2 : (seen_of moved_on).stretch 2 ≡ Some (from_to 23900 3000 1)
unfolding within longest line_start end extent front_end seen_of
moved_2 = refl

moved_other : (t : ℕ) → (t == 1) ≡ false → (t == 2) ≡ false → (seen_of moved_on).stretch t ≡ None
unfolding within longest line_start end extent front_end seen_of
moved_other t one two = rw (one, two) refl

-- only train 1 runs over section 3, and train 2 over section 2
moved_runs : (t s : ℕ) → may_run_over line (seen_of moved_on) t s ≡ true → ((t ≡ 1) × (s ≡ 3)) ⊎ ((t ≡ 2) × (s ≡ 2))
moved_runs t s is = elim (eqb_tells t 1) [
  | inl h ↦
      inl (
        h.1,
        let b = first (sym (ap (has (is_in line s)) moved_1)
            ∙ sym (ap (λ (u : ℕ). may_run_over line (seen_of moved_on) u s) (h.1)) ∙ is) in
            let low = b.0 in let high = b.1 in
            omega (arith, low, high),
      )
  | inr h ↦ elim (eqb_tells t 2) [
    | inl g ↦
        inr (
          g.1,
          let b = second (sym (ap (has (is_in line s)) moved_2)
              ∙ sym (ap (λ (u : ℕ). may_run_over line (seen_of moved_on) u s) (g.1)) ∙ is) in let low = b.0 in
              let high = b.1 in omega (arith, low, high),
        )
    | inr g ↦ absurd (none_runs (sym (ap (has (is_in line s)) (moved_other t (h.0) (g.0))) ∙ is))
  ]
]
  where
    first : is_in line s (from_to 33900 4000 4) ≡ true → (2 < s) × (s ≤ 3)
    first = between (from_to 33900 4000 4) 2 3 33900 s refl refl (sym end_3) refl refl
        (let e = end_2 in omega (arith, e))

    second : is_in line s (from_to 23900 3000 1) ≡ true → (1 < s) × (s ≤ 2)
    second = between (from_to 23900 3000 1) 1 2 23900 s refl refl (sym end_2) refl refl
        (let e = end_1 in omega (arith, e))

    none_runs : ◌≡◌ {A = Bool} false true → ⊥
    none_runs is = cc

moved_released_2 : (seen_of moved_on).released 2 ≡ true
unfolding within longest line_start end extent front_end seen_of
moved_released_2 = refl

moved_released_3 : (seen_of moved_on).released 3 ≡ true
unfolding within longest line_start end extent front_end seen_of
moved_released_3 = refl

moved_founded : (seen_of moved_on).stray ≡ false
unfolding within longest line_start end extent front_end seen_of
moved_founded = refl

pub moved_is_safe : IsSafeOutside line (seen_of moved_on)
moved_is_safe =
    record {
      one_train = λ t u s one two. by_trains t u s (moved_runs t s one) (moved_runs u s two);
      released = λ t s is. by_section t s (moved_runs t s is);
      founded = moved_founded;
    }
  where
    by_trains : (t u s : ℕ) → ((t ≡ 1) × (s ≡ 3)) ⊎ ((t ≡ 2) × (s ≡ 2)) → ((u ≡ 1) × (s ≡ 3))
        ⊎ ((u ≡ 2) × (s ≡ 2)) → t ≡ u
    by_trains t u s (inl a) (inl b) = a.0 ∙ sym b.0
    by_trains t u s (inr a) (inr b) = a.0 ∙ sym b.0
    by_trains t u s (inl a) (inr b) = absurd (let one = a.1 in let two = b.1 in omega (arith, one, two))
    by_trains t u s (inr a) (inl b) = absurd (let one = a.1 in let two = b.1 in omega (arith, one, two))

    by_section : (t s : ℕ) → ((t ≡ 1) × (s ≡ 3)) ⊎ ((t ≡ 2) × (s ≡ 2)) → (seen_of moved_on).released s ≡ true
    by_section t s (inl a) = ap (λ (e : ℕ). (seen_of moved_on).released e) a.1 ∙ moved_released_3
    by_section t s (inr a) = ap (λ (e : ℕ). (seen_of moved_on).released e) a.1 ∙ moved_released_2

-- ## The train that grants

granted_1 : (seen_of granted).stretch 1
    ≡ Some (record {
      track = 0;
      rear = pos 13900;
      end = 3000;
      since = 2;
      asked = Some (record { centre = 0; stamp = 5; end = 3000 });
    })
unfolding within longest line_start end extent front_end seen_of
granted_1 = refl

granted_other : (t : ℕ) → (t == 1) ≡ false → (seen_of granted).stretch t ≡ None
unfolding within longest line_start end extent front_end seen_of
granted_other t one = rw one refl

granted_runs : (t s : ℕ) → may_run_over line (seen_of granted) t s ≡ true → (t ≡ 1) × ((s ≡ 1) ⊎ (s ≡ 2))
granted_runs t s is = elim (eqb_tells t 1) [
  | inl h ↦ (
    h.1,
    let b = over (sym (ap (has (is_in line s)) granted_1)
        ∙ sym (ap (λ (u : ℕ). may_run_over line (seen_of granted) u s) (h.1)) ∙ is) in by_two b.0 b.1,
  )
  | inr h ↦ absurd (none_runs (sym (ap (has (is_in line s)) (granted_other t (h.0))) ∙ is))
]
  where
    over : is_in line s
        (record {
          track = 0;
          rear = pos 13900;
          end = 3000;
          since = 2;
          asked = Some (record { centre = 0; stamp = 5; end = 3000 });
        }) ≡ true → (0 < s) × (s ≤ 2)
    over = between
        (record {
          track = 0;
          rear = pos 13900;
          end = 3000;
          since = 2;
          asked = Some (record { centre = 0; stamp = 5; end = 3000 });
        }) 0 2 13900 s refl refl (sym end_2) refl refl
        (let e = end_0 in omega (arith, e))

    by_two : 0 < s → s ≤ 2 → (s ≡ 1) ⊎ (s ≡ 2)
    by_two low high = elim (cases_lt s 2) [
      | inl lt ↦ inl (omega (arith, low, lt))
      | inr le ↦ inr (omega (arith, high, le))
    ]

    none_runs : ◌≡◌ {A = Bool} false true → ⊥
    none_runs is = cc

granted_released_1 : (seen_of granted).released 1 ≡ true
unfolding within longest line_start end extent front_end seen_of
granted_released_1 = refl

granted_released_2 : (seen_of granted).released 2 ≡ true
unfolding within longest line_start end extent front_end seen_of
granted_released_2 = refl

granted_founded : (seen_of granted).stray ≡ false
unfolding within longest line_start end extent front_end seen_of
granted_founded = refl

pub granted_is_safe : IsSafeOutside line (seen_of granted)
granted_is_safe =
    record {
      one_train = λ t u s one two. (granted_runs t s one).0 ∙ sym (granted_runs u s two).0;
      released = λ t s is. by_section s (granted_runs t s is).1;
      founded = granted_founded;
    }
  where
    by_section : (s : ℕ) → (s ≡ 1) ⊎ (s ≡ 2) → (seen_of granted).released s ≡ true
    by_section s (inl a) = ap (λ (e : ℕ). (seen_of granted).released e) a ∙ granted_released_1
    by_section s (inr a) = ap (λ (e : ℕ). (seen_of granted).released e) a ∙ granted_released_2

-- # The positions of two trains, and the stretches by which they run, computed.

pub first_over : is_over line 1 in_1 ≡ true
unfolding within longest line_start end
first_over = refl

pub second_over : is_over line 2 in_2 ≡ true
unfolding within longest line_start end
second_over = refl

pub not_over : is_over line 2 in_1 ≡ false
unfolding within longest line_start end
not_over = refl

first_stretch : (seen_of side_by_side).stretch 1
    ≡ Some (record { track = 0; rear = pos 13900; end = 2000; since = 2; asked = None })
unfolding within longest line_start end extent front_end seen_of
first_stretch = refl

second_stretch : (seen_of side_by_side).stretch 2
    ≡ Some (record { track = 0; rear = pos 23900; end = 3000; since = 1; asked = None })
unfolding within longest line_start end extent front_end seen_of
second_stretch = refl

within_first : (e : Extent) → Some in_1 ≡ Some e → (x : Stretch)
    × ((seen_of side_by_side).stretch 1 ≡ Some x) × IsWithin x e
within_first e is = (
  _,
  first_stretch,
  subst (IsWithin (record { track = 0; rear = pos 13900; end = 2000; since = 2; asked = None }))
      (same_Some in_1 e is) (record { track = refl; rear = refl; front = (omega arith) }),
)

within_second : (e : Extent) → Some in_2 ≡ Some e → (x : Stretch)
    × ((seen_of side_by_side).stretch 2 ≡ Some x) × IsWithin x e
within_second e is = (
  _,
  second_stretch,
  subst (IsWithin (record { track = 0; rear = pos 23900; end = 3000; since = 1; asked = None }))
      (same_Some in_2 e is) (record { track = refl; rear = refl; front = (omega arith) }),
)

pub both_within : IsTruthful (seen_of side_by_side) (two_trains in_1 in_2)
both_within t e is = elim (eqb_tells t 1) [
  | inl h ↦ subst (λ (u : ℕ). (x : Stretch) × ((seen_of side_by_side).stretch u ≡ Some x) × IsWithin x e) (sym (h.1))
      (within_first e (sym (ap (λ (b : Bool). if b then Some in_1 else if t == 2 then Some in_2 else None) (h.0)) ∙ is))
  | inr h ↦ elim (eqb_tells t 2) [
    | inl g ↦ subst (λ (u : ℕ). (x : Stretch) × ((seen_of side_by_side).stretch u ≡ Some x) × IsWithin x e) (sym (g.1))
        (within_second e (sym (ap (λ (b : Bool). if b then Some in_1 else if t == 2 then Some in_2 else None) (h.0)
        ∙ ap (λ (b : Bool). if b then Some in_2 else None) (g.0)) ∙ is))
    | inr g ↦
        absurd (none-some e (sym (ap (λ (b : Bool). if b then Some in_1 else if t == 2 then Some in_2 else None) (h.0)
        ∙ ap (λ (b : Bool). if b then Some in_2 else None) (g.0)) ∙ is))
  ]
]

pub passed_is_not : IsTruthful (seen_of side_by_side) (two_trains in_2 in_2) → ⊥
passed_is_not h =
    let w = h 1 in_2 refl in
    let same = same_Some _ w.0 (sym first_stretch ∙ w.1) in
    let front = subst (λ (x : Stretch). IsWithin x in_2) (sym same) w.2 in
    let le : 26200 ≤ 10 * 2000 = front.front in
    omega (arith, le)
