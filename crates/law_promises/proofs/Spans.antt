-- How far a train may run, and the sections that are given to it.
use Rattle.std.proofs.Common.{ℤ, ◌&&◌, ◌*◌, ◌+◌, ◌-◌, ◌<◌, ◌∙◌, ◌≡◌, ◌≤◌, arith, Bool, false, inl, inr, int_le, int_lt}
use Rattle.std.proofs.Common.{le-leb, leb-true, length, lt-ltb, ltb-true, max, min, nat_lt, negsuc, None, pos, refl}
use Rattle.std.proofs.Common.{subst, sym, true, ℕ}
use Rattle.std.proofs.lemmas.Bool.{and_from, and_parts, cases_lt, ltb-false}
use Rattle.law_outside.specs.Outside.{is_in, Stretch}
use Rattle.rbc_spec.proofs.Lists.{each_at}
use Rattle.rbc_spec.proofs.Places.{end_of, ends_before, section_on, start_is}
use Rattle.rbc_spec.proofs.Runs.{within_from, within_true}
use Rattle.rbc_spec.specs.Line.{end, IsLine, Line, Section, start}
use Rattle.rbc_spec.specs.SectionRuns.{next_after, SectionRun, within}
use Rattle.rbc_spec.specs.Sections.{is_on}

-- the end of the stretch is the end of a section of its track
pub record Ends (line : Line) (x : Stretch) : Type 0 where
  pub last : ℕ
  pub on : is_on line x.track last ≡ true
  pub is : x.end ≡ end line last

-- The train may run only over sections of its hand, which is a run on the track. No section between its rear end and
-- its hand is of another train.
pub record Spans (line : Line) (g : ℕ → Bool) (x : Stretch) : Type 0 where
  pub ends : Ends line x
  pub over : (s : ℕ) → is_in line s x ≡ true → g s ≡ true
  pub on : (s : ℕ) → g s ≡ true → is_on line x.track s ≡ true
  pub between : (s m e : ℕ) → s ≤ m → m ≤ e → g s ≡ true → g e ≡ true → g m ≡ true
  pub in_rear : (s e : ℕ) → s ≤ e → g e ≡ true → is_on line x.track s ≡ true
      → int_lt x.rear (pos (10 * end line s)) ≡ true → g s ≡ true

-- ## Numbers

pub rear_later : (a b : ℤ) (n : ℕ) → int_lt a b ≡ true → int_lt b (pos n) ≡ true → int_lt a (pos n) ≡ true
rear_later (pos a) (pos b) n one two = lt-ltb a n (omega (arith, ltb-true a b one, ltb-true b n two))
rear_later (pos a) (negsuc b) n one two = cc
rear_later (negsuc a) b n one two = refl

pub rear_other : (a b : ℤ) (n : ℕ) → int_lt a b ≡ false → int_lt a (pos n) ≡ true → int_lt b (pos n) ≡ true
rear_other (pos a) (pos b) n one two = lt-ltb b n (omega (arith, ltb-false a b one, ltb-true a n two))
rear_other (pos a) (negsuc b) n one two = refl
rear_other (negsuc a) (pos b) n one two = cc
rear_other (negsuc a) (negsuc b) n one two = refl

pub not_in_rear : (r : ℤ) (a : ℕ) → int_le (pos a) r ≡ true → int_lt r (pos a) ≡ true → ⊥
not_in_rear (pos r) a one two = let low = leb-true a r one in let high = ltb-true r a two in omega (arith, low, high)
not_in_rear (negsuc r) a one two = cc

pub rear_up : (r : ℤ) (a b : ℕ) → a ≤ b → int_le (pos b) r ≡ true → int_le (pos a) r ≡ true
rear_up (pos r) a b le one = le-leb a r (omega (arith, leb-true b r one))
rear_up (negsuc r) a b le one = cc

pub lt_up : (r : ℤ) (a b : ℕ) → a ≤ b → int_lt r (pos a) ≡ true → int_lt r (pos b) ≡ true
lt_up (pos r) a b le one = lt-ltb r b (omega (arith, ltb-true r a one, le))
lt_up (negsuc r) a b le one = refl

-- ## Sections in a stretch

pub record IsIn (line : Line) (x : Stretch) (s : ℕ) : Type 0 where
  pub on : is_on line x.track s ≡ true
  pub before : start line s < x.end
  pub past : int_lt x.rear (pos (10 * end line s)) ≡ true

pub in_parts : (line : Line) (x : Stretch) (s : ℕ) → is_in line s x ≡ true → IsIn line x s
in_parts line x s h =
    let both = and_parts (is_on line x.track s && nat_lt (start line s) x.end)
    (int_lt x.rear (pos (10 * end line s))) h in
    let front = and_parts (is_on line x.track s) (nat_lt (start line s) x.end) both.0 in
    record { on = front.0; before = ltb-true (start line s) x.end front.1; past = both.1 }

pub in_from : (line : Line) (x : Stretch) (s : ℕ) → IsIn line x s → is_in line s x ≡ true
in_from line x s h =
    and_from (is_on line x.track s && nat_lt (start line s) x.end) (int_lt x.rear (pos (10 * end line s)))
    (and_from (is_on line x.track s) (nat_lt (start line s) x.end) h.on (lt-ltb (start line s) x.end h.before)) h.past

-- a section that starts before the end of another section of the track is not later
pub no_later : (line : Line) (track s e : ℕ) → is_on line track s ≡ true → is_on line track e ≡ true
    → start line s < end line e → s ≤ e
no_later line track s e one two lt = elim (cases_lt e s) [
  | inl more ↦ absurd (let no : ⊥ = omega (arith, ends_before line track e s two one more, lt) in no)
  | inr le ↦ le
]

-- a section is not empty
pub some_metres : (line : Line) → IsLine line → (track s : ℕ) → is_on line track s ≡ true → start line s < end line s
some_metres line ok track s on =
    let p = section_on line track s on in
    let fits = each_at (λ (q : Section). (q.track < length line.tracks) × (100 ≤ q.metres) × (q.metres ≤ 2000)
    × (q.home < length line.centres) × (q.balise ≤ 16382)) line.sections s p.0 ok.ranges.sections p.1.at in
    omega (arith, start_is line track s p.0 p.1, end_of line track s p.0 p.1, fits.1)

-- ## Changes of a hand

module _ (line : Line) (g : ℕ → Bool) (x : Stretch) (old : Spans line g x) where
  -- the rear end is later, and only sections in rear of it are taken back
  pub trimmed : (k : ℕ → Bool) (new : Stretch) → new.track ≡ x.track → new.end ≡ x.end
      → ((n : ℕ) → int_lt new.rear (pos n) ≡ true → int_lt x.rear (pos n) ≡ true)
      → ((s : ℕ) → k s ≡ true → g s ≡ true)
      → ((s : ℕ) → g s ≡ true → int_lt new.rear (pos (10 * end line s)) ≡ true → k s ≡ true)
      → ((s m : ℕ) → s ≤ m → k s ≡ true → g m ≡ true → k m ≡ true) → Spans line k new
  trimmed k new track ends later less keeps up = record {
    ends = record { last = old.ends.last; on = on_new old.ends.last old.ends.on; is = ends ∙ old.ends.is };
    over = λ s is. let h = in_parts line new s is in
        keeps s (old.over s
        (in_from line x s
        (record {
          on = on_old s h.on;
          before = subst (λ (n : ℕ). start line s < n) ends h.before;
          past = later (10 * end line s) h.past;
        }))) h.past;
    on = λ s is. on_new s (old.on s (less s is));
    between = λ s m e from to one two. up s m from one (old.between s m e from to (less s one) (less e two));
    in_rear =
        λ s e le two on past. keeps s (old.in_rear s e le (less e two) (on_old s on) (later (10 * end line s) past))
        past;
  }
    where
      on_new : (s : ℕ) → is_on line x.track s ≡ true → is_on line new.track s ≡ true
      on_new s on = subst (λ (n : ℕ). is_on line n s ≡ true) (sym track) on

      on_old : (s : ℕ) → is_on line new.track s ≡ true → is_on line x.track s ≡ true
      on_old s on = subst (λ (n : ℕ). is_on line n s ≡ true) track on

  -- the end is at most that of a section, and the sections in advance of that are taken back
  pub cut_back : (k : ℕ → Bool) (last : ℕ) → is_on line x.track last ≡ true
      → ((s : ℕ) → k s ≡ true → (g s ≡ true) × (s ≤ last)) → ((s : ℕ) → g s ≡ true → s ≤ last → k s ≡ true)
      → Spans line k (record x { end = min x.end (end line last) })
  cut_back k last on less keeps = record {
    ends = elim (cases_lt x.end (end line last)) [
      | inl lt ↦ record { last = old.ends.last; on = old.ends.on; is = (omega (arith, lt, old.ends.is)) }
      | inr le ↦ record { last = last; on = on; is = (omega (arith, le)) }
    ];
    over = λ s is. let h = in_parts line (record x { end = min x.end (end line last) }) s is in let before = h.before in
        keeps s (old.over s (in_from line x s (record { on = h.on; before = omega (arith, before); past = h.past })))
        (no_later line x.track s last h.on on (omega (arith, before)));
    on = λ s is. old.on s (less s is).0;
    between = λ s m e from to one two. keeps m (old.between s m e from to (less s one).0 (less e two).0)
        (let le = (less e two).1 in omega (arith, le, to));
    in_rear = λ s e le two on past. keeps s (old.in_rear s e le (less e two).0 on past) (let low = (less e two).1 in
        omega (arith, low, le));
  }

  -- the hand is extended by a run that follows it at once
  pub lengthened : (k : ℕ → Bool) (hand : SectionRun) (count since : ℕ) → ((s : ℕ) → g s ≡ within hand s)
      → ((s : ℕ) → k s ≡ within (record { first = hand.first; count = hand.count + count }) s)
      → (s : ℕ) → g s ≡ true → ((s : ℕ) → within (record { first = next_after hand; count = count }) s ≡ true
      → is_on line x.track s ≡ true)
      → Spans line k
      (record x { end = max x.end (end line (next_after hand + count - 1)); since = since; asked = None })
  lengthened k hand count since is_hand is_longer one there on_more = record {
    ends = elim (cases_lt x.end (end line last)) [
      | inl lt ↦ record { last = last; on = on_all last last_in; is = (omega (arith, lt)) }
      | inr le ↦ record { last = old.ends.last; on = old.ends.on; is = (omega (arith, le, old.ends.is)) }
    ];
    over = λ s is. let h = in_parts line new s is in let before = h.before in elim (cases_lt (start line s) x.end) [
      | inl early ↦ let p = within_true hand s (sym (is_hand s)
          ∙ old.over s (in_from line x s (record { on = h.on; before = early; past = h.past }))) in
          is_in_longer s p.0 (let b = p.1 in omega (arith, b))
      | inr late ↦
          all_in_rear s last (no_later line x.track s last h.on (on_all last last_in) (omega (arith, before, late)))
          last_in h.on h.past
    ];
    on = on_all;
    between = λ s m e from to a b. let low = ends_of s a in let high = ends_of e b in
        is_in_longer m (let l = low.0 in omega (arith, from, l)) (let r = high.1 in omega (arith, to, r));
    in_rear = all_in_rear;
  }
    where
      last : ℕ
      last = next_after hand + count - 1

      new : Stretch
      new = record x { end = max x.end (end line last); since = since; asked = None }

      longer : SectionRun
      longer = record { first = hand.first; count = hand.count + count }

      some : (hand.first ≤ one) × (one < hand.first + hand.count)
      some = within_true hand one (sym (is_hand one) ∙ there)

      first_given : g hand.first ≡ true
      first_given = is_hand hand.first ∙ within_from hand hand.first (omega arith) (let a = some.0 in
          let b = some.1 in omega (arith, a, b))

      ends_of : (s : ℕ) → k s ≡ true → (hand.first ≤ s) × (s < hand.first + (hand.count + count))
      ends_of s is = within_true longer s (sym (is_longer s) ∙ is)

      is_in_longer : (s : ℕ) → hand.first ≤ s → s < hand.first + (hand.count + count) → k s ≡ true
      is_in_longer s low high = is_longer s ∙ within_from longer s low high

      last_in : k last ≡ true
      last_in = is_in_longer last (let a = some.0 in let b = some.1 in omega (arith, a, b)) (let a = some.0 in
          let b = some.1 in omega (arith, a, b))

      on_all : (s : ℕ) → k s ≡ true → is_on line x.track s ≡ true
      on_all s is = let h = ends_of s is in elim (cases_lt s (hand.first + hand.count)) [
        | inl low ↦ old.on s (is_hand s ∙ within_from hand s h.0 low)
        | inr high ↦
            on_more s (within_from (record { first = next_after hand; count = count }) s high
            (let b = h.1 in omega (arith, b)))
      ]

      all_in_rear : (s e : ℕ) → s ≤ e → k e ≡ true → is_on line x.track s ≡ true
          → int_lt x.rear (pos (10 * end line s)) ≡ true → k s ≡ true
      all_in_rear s e le is on past = let h = ends_of e is in elim (cases_lt s hand.first) [
        | inl low ↦ let p = within_true hand s (sym (is_hand s)
            ∙ old.in_rear s hand.first (omega (arith, low)) first_given on past) in
            is_in_longer s p.0 (let b = p.1 in omega (arith, b))
        | inr high ↦ is_in_longer s high (let b = h.1 in omega (arith, b, le))
      ]
