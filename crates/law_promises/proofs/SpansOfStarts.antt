-- The span of a start, and spans that are less.
use Rattle.std.proofs.Common.{ℤ, ◌*◌, ◌-◌, ◌<◌, ◌∙◌, ◌≡◌, ◌≤◌, ◌⊎◌, ap, arith, Bool, false, if◌then◌else◌, inl, inr}
use Rattle.std.proofs.Common.{int_lt, max, None, Option, pos, refl, Some, subst, sym, true, ℕ}
use Rattle.std.proofs.lemmas.Bool.{cases_lt}
use Rattle.std.specs.Option.{option_map_or}
use Rattle.law_base.proofs.LocalLemmas.Homes.{fit_covers, IsFit}
use Rattle.law_outside.specs.Outside.{cleared, is_in, Stretch, up_to}
use Rattle.law_promises.proofs.Spans.{Ends, in_from, in_parts, no_later, rear_later, Spans}
use Rattle.rbc_spec.proofs.Places.{covers_from, covers_parts, covers_run, IsCovered, starts_rise}
use Rattle.rbc_spec.proofs.Runs.{within_from, within_true}
use Rattle.rbc_spec.specs.Line.{end, IsLine, Line, start}
use Rattle.rbc_spec.specs.Place.{covered, covers, Place}
use Rattle.rbc_spec.specs.SectionRuns.{next_after, within}
use Rattle.rbc_spec.specs.Sections.{is_on}

-- ## A start

module _ (line : Line) (ok : IsLine line) (place : Place) (fit : IsFit line place) where
  abbrev pub last_covered : ℕ
  last_covered = next_after (covered line place) - 1

  covered_is : (s : ℕ) → within (covered line place) s ≡ covers line place s
  covered_is s = covers_run line place s ok

  pub last_is : covers line place last_covered ≡ true
  last_is =
      let one = fit_covers line place fit in
      let h = within_true (covered line place) one.0 (covered_is one.0 ∙ one.1) in
      let a = h.0 in let b = h.1 in
      sym (covered_is last_covered) ∙ within_from (covered line place) last_covered
      (omega (arith, a, b)) (omega (arith, a, b))

  abbrev pub first_stretch : ℕ → Stretch
  first_stretch since =
      record { track = place.track; rear = pos fit.rear; end = end line last_covered; since = since; asked = None }

  last_at : IsCovered line place last_covered
  last_at = covers_parts line place last_covered last_is

  -- the given sections from the place's rear end on
  from_there : (g : ℕ → Bool) → ((s : ℕ) → covers line place s ≡ true → g s ≡ true)
      → ((s m e : ℕ) → s ≤ m → m ≤ e → g s ≡ true → g e ≡ true → g m ≡ true)
      → (s e : ℕ) → s ≤ e → g e ≡ true → is_on line place.track s ≡ true
      → int_lt (pos fit.rear) (pos (10 * end line s)) ≡ true → g s ≡ true
  from_there g all between s e le two there past = elim (cases_lt last_covered s) [
    | inl more ↦ between last_covered s e (omega (arith, more)) le (all last_covered last_is) two
    | inr less ↦ all s (covers_from line place s (record {
      on = there;
      begins = let b = last_at.begins in
          omega (arith, starts_rise line place.track s last_covered there last_at.on less, b);
      ends = ap (λ (o : Option ℤ). option_map_or (λ rear. int_lt rear (pos (10 * end line s))) o false) fit.rear_is
          ∙ past;
    }))
  ]

  -- a stretch of the sections that the place covers, which are given with those in advance
  pub begun_spans : (g : ℕ → Bool) (since : ℕ) → ((s : ℕ) → covers line place s ≡ true → g s ≡ true)
      → ((s : ℕ) → g s ≡ true → is_on line place.track s ≡ true)
      → ((s m e : ℕ) → s ≤ m → m ≤ e → g s ≡ true → g e ≡ true → g m ≡ true) → Spans line g (first_stretch since)
  begun_spans g since all on between = record {
    ends = record { last = last_covered; on = last_at.on; is = refl };
    over = λ s is. let h = in_parts line (first_stretch since) s is in
        from_there g all between s last_covered (no_later line place.track s last_covered h.on last_at.on h.before)
        (all last_covered last_is) h.on h.past;
    on = on;
    between = between;
    in_rear = from_there g all between;
  }

  -- a train that goes on from a place within its hand, over its old stretch and the sections that the place covers
  pub goes_on_spans : (g : ℕ → Bool) (x : Stretch) (old : Spans line g x) (since : ℕ) (rear : ℤ)
      → g old.ends.last ≡ true → x.track ≡ place.track → ((s : ℕ) → covers line place s ≡ true → g s ≡ true)
      → ((n : ℕ) → int_lt rear (pos n) ≡ true → (int_lt x.rear (pos n) ≡ true) ⊎ (int_lt (pos fit.rear) (pos n) ≡ true))
      → Spans line g
      (record {
        track = place.track;
        rear = rear;
        end = max x.end (end line last_covered);
        since = since;
        asked = None;
      })
  goes_on_spans g x old since rear last_given same all either = record {
    ends = elim (cases_lt x.end (end line last_covered)) [
      | inl lt ↦ record { last = last_covered; on = last_at.on; is = (omega (arith, lt)) }
      | inr le ↦
          record { last = old.ends.last; on = on_new old.ends.last old.ends.on; is = (omega (arith, le, old.ends.is)) }
    ];
    over = λ s is. let h = in_parts line new s is in let before = h.before in elim (cases_lt (start line s) x.end) [
      | inl early ↦ somewhere s old.ends.last
          (no_later line place.track s old.ends.last h.on (on_new old.ends.last old.ends.on)
          (subst (λ (n : ℕ). start line s < n) old.ends.is early)) last_given h.on h.past
      | inr late ↦ somewhere s last_covered
          (no_later line place.track s last_covered h.on last_at.on (omega (arith, before, late)))
          (all last_covered last_is) h.on h.past
    ];
    on = λ s so. on_new s (old.on s so);
    between = old.between;
    in_rear = somewhere;
  }
    where
      new : Stretch
      new = record {
        track = place.track;
        rear = rear;
        end = max x.end (end line last_covered);
        since = since;
        asked = None;
      }

      on_new : (s : ℕ) → is_on line x.track s ≡ true → is_on line place.track s ≡ true
      on_new s on = subst (λ (k : ℕ). is_on line k s ≡ true) same on

      somewhere : (s e : ℕ) → s ≤ e → g e ≡ true → is_on line place.track s ≡ true
          → int_lt rear (pos (10 * end line s)) ≡ true → g s ≡ true
      somewhere s e le two on past = elim (either (10 * end line s) past) [
        | inl before ↦ old.in_rear s e le two (subst (λ (k : ℕ). is_on line k s ≡ true) (sym same) on) before
        | inr there ↦ from_there g all old.between s e le two on there
      ]

-- ## A stretch that is less

-- the messages stay, and no section is added
pub record IsLess (line : Line) (x y : Stretch) : Type 0 where
  pub track : y.track ≡ x.track
  pub since : y.since ≡ x.since
  pub asked : y.asked ≡ x.asked
  pub ends : Ends line x → Ends line y
  pub over : (s : ℕ) → is_in line s y ≡ true → is_in line s x ≡ true
  pub past : (n : ℕ) → int_lt y.rear (pos n) ≡ true → int_lt x.rear (pos n) ≡ true

module _ (line : Line) where
  pub less_itself : (x : Stretch) → IsLess line x x
  less_itself x =
      record { track = refl; since = refl; asked = refl; ends = λ e. e; over = λ s is. is; past = λ n is. is }

  pub less_then : (x y z : Stretch) → IsLess line x y → IsLess line y z → IsLess line x z
  less_then x y z one two = record {
    track = two.track ∙ one.track;
    since = two.since ∙ one.since;
    asked = two.asked ∙ one.asked;
    ends = λ e. two.ends (one.ends e);
    over = λ s is. one.over s (two.over s is);
    past = λ n is. one.past n (two.past n is);
  }

  -- no hand changes
  pub spans_less : (g : ℕ → Bool) (x y : Stretch) → IsLess line x y → Spans line g x → Spans line g y
  spans_less g x y less old = record {
    ends = less.ends old.ends;
    over = λ s is. old.over s (less.over s is);
    on = λ s so. subst (λ (n : ℕ). is_on line n s ≡ true) (sym less.track) (old.on s so);
    between = old.between;
    in_rear = λ s e le two on past. old.in_rear s e le two (subst (λ (n : ℕ). is_on line n s ≡ true) less.track on)
        (less.past (10 * end line s) past);
  }

  pub cleared_less : (place : Place) (x : Stretch) → IsLess line x (cleared place x)
  cleared_less place x = by_rear place.rear
    where
      by_later : (rear : ℤ) (b : Bool) → int_lt x.rear rear ≡ b
          → IsLess line x (if b then record x { rear = rear } else x)
      by_later rear false is = less_itself x
      by_later rear true is = record {
        track = refl;
        since = refl;
        asked = refl;
        ends = λ e. record { last = e.last; on = e.on; is = e.is };
        over = λ s yes. let h = in_parts line (record x { rear = rear }) s yes in
            in_from line x s
            (record { on = h.on; before = h.before; past = rear_later x.rear rear (10 * end line s) is h.past });
        past = λ n past. rear_later x.rear rear n is past;
      }

      by_rear : (o : Option ℤ)
          → IsLess line x (option_map_or (λ rear. if int_lt x.rear rear then record x { rear = rear } else x) o x)
      by_rear None = less_itself x
      by_rear (Some rear) = by_later rear (int_lt x.rear rear) refl

  pub up_to_less : (x : Stretch) (last : ℕ) → is_on line x.track last ≡ true → IsLess line x (up_to x (end line last))
  up_to_less x last on = record {
    track = refl;
    since = refl;
    asked = refl;
    ends = λ e. elim (cases_lt x.end (end line last)) [
      | inl lt ↦ record { last = e.last; on = e.on; is = (let is = e.is in omega (arith, lt, is)) }
      | inr le ↦ record { last = last; on = on; is = (omega (arith, le)) }
    ];
    over = λ s yes. let h = in_parts line (up_to x (end line last)) s yes in let before = h.before in
        in_from line x s (record { on = h.on; before = omega (arith, before); past = h.past });
    past = λ n past. past;
  }
