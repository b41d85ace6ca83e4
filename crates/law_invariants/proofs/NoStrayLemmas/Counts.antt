-- The questions and answers on the way, counted frame by frame.
use Rattle.std.proofs.Common.{[], ◌&&◌, ◌+◌, ◌<◌, ◌==◌, ◌∙◌, ◌∷◌, ◌≡◌, ap, arith, Bool, false, if◌then◌else◌, is_some}
use Rattle.std.proofs.Common.{List, ltb-true, map, ne_eqb, None, Option, refl, Some, sym, true, ℕ}
use Rattle.std.specs.List.{count_by}
use Rattle.law_base.proofs.CountingLemmas.Places.{placed_parts}
use Rattle.law_base.proofs.CountingLemmas.Sums.{sum_only, sum_plus, sum_same, sum_zero}
use Rattle.law_base.specs.Counting.Network.{way}
use Rattle.law_base.specs.Counting.Resource.{allowed, carried}
use Rattle.law_base.specs.Counting.Sums.{one_if, sum_below, sum_links}
use Rattle.law_invariants.proofs.FlowLemmas.Lists.{count_added, count_more, flat_sum, itself}
use Rattle.law_invariants.proofs.FlowLemmas.Seats.{way_is}
use Rattle.law_invariants.specs.Flow.Flow.{centre_count, flow_of}
use Rattle.law_invariants.specs.NoStray.Questions.{frames_from, frames_to, IsAnswered, IsAskedOnce, LeavesNone}
use Rattle.law_invariants.specs.NoUnasked.Asked.{answers, asks, OfRight, Question, questions, stands}
use Rattle.rbc_spec.specs.Frame.{Frame}
use Rattle.rbc_spec.specs.Line.{is_centre, Line}
use Rattle.rbc_spec.specs.Place.{Place}
use Rattle.rbc_spec.specs.World as world
use Rattle.rbc_spec.specs.World.{World}

abbrev counted_if : Bool → ℕ → ℕ
counted_if b n = if b then n else 0

one_more : (test here : Bool) (n : ℕ) → one_if (test && here) + counted_if here n ≡ counted_if here (one_if test + n)
one_more true true n = refl
one_more true false n = refl
one_more false true n = refl
one_more false false n = refl

no_number : (b : Bool) → counted_if b 0 ≡ 0
no_number true = refl
no_number false = refl

module _ (line : Line) (w : World) (x : Question) (c : ℕ) where
  in_frames : (a b : ℕ) (fs : List Frame) → carried (questions x c) a b (map (λ (f : Frame). f.body) fs)
      ≡ counted_if (a == c) (count_by (λ (f : Frame). asks x f.body) fs)
      + counted_if (b == c) (count_by (λ (f : Frame). answers x f.body) fs)
  unfolding carried
  in_frames a b [] = omega (arith, no_number (a == c), no_number (b == c))
  in_frames a b (f ∷ fs) = omega (
    arith,
    in_frames a b fs,
    one_more (asks x f.body) (a == c) (count_by (λ (g : Frame). asks x g.body) fs),
    one_more (answers x f.body) (b == c) (count_by (λ (g : Frame). answers x g.body) fs),
    ap (counted_if (a == c)) (count_more (λ (g : Frame). asks x g.body) f fs),
    ap (counted_if (b == c)) (count_more (λ (g : Frame). answers x g.body) f fs),
  )

  module _ (small : c < centre_count line) where
    from_c : count_by (λ (f : Frame). asks x f.body) (frames_from line w c)
        ≡ sum_below (centre_count line) (λ b. count_by (λ (f : Frame). asks x f.body) (world.way w c b))
    from_c = flat_sum (count_by (λ (f : Frame). asks x f.body)) (count_added (λ (f : Frame). asks x f.body))
        (λ b. world.way w c b) (centre_count line)

    to_c : count_by (λ (f : Frame). answers x f.body) (frames_to line w c)
        ≡ sum_below (centre_count line) (λ a. count_by (λ (f : Frame). answers x f.body) (world.way w a c))
    to_c = flat_sum (count_by (λ (f : Frame). answers x f.body)) (count_added (λ (f : Frame). answers x f.body))
        (λ a. world.way w a c) (centre_count line)

    -- of the links from a
    row : (a : ℕ) → sum_below (centre_count line) (λ b. carried (questions x c) a b (way (flow_of w) a b))
        ≡ counted_if (a == c)
        (sum_below (centre_count line) (λ b. count_by (λ (f : Frame). asks x f.body) (world.way w a b)))
        + count_by (λ (f : Frame). answers x f.body) (world.way w a c)
    row a = omega (
      arith,
      sum_same (centre_count line) (λ b. carried (questions x c) a b (way (flow_of w) a b))
          (λ b. counted_if (a == c) (count_by (λ (f : Frame). asks x f.body) (world.way w a b))
          + counted_if (b == c) (count_by (λ (f : Frame). answers x f.body) (world.way w a b)))
          (λ b at. ap (carried (questions x c) a b) (way_is w a b) ∙ in_frames a b (world.way w a b)),
      sum_plus (centre_count line)
          (λ b. counted_if (a == c) (count_by (λ (f : Frame). asks x f.body) (world.way w a b)))
          (λ b. counted_if (b == c) (count_by (λ (f : Frame). answers x f.body) (world.way w a b))),
      of_row (a == c),
      sum_only (centre_count line)
          (λ b. counted_if (b == c) (count_by (λ (f : Frame). answers x f.body) (world.way w a b))) c small
          (λ b at apart. ap (λ z. counted_if z (count_by (λ (f : Frame). answers x f.body) (world.way w a b)))
          (ne_eqb b c apart)),
      ap (λ z. counted_if z (count_by (λ (f : Frame). answers x f.body) (world.way w a c))) (itself c),
    )
      where
        of_row : (z : Bool)
            → sum_below (centre_count line)
            (λ b. counted_if z (count_by (λ (f : Frame). asks x f.body) (world.way w a b)))
            ≡ counted_if z
            (sum_below (centre_count line) (λ b. count_by (λ (f : Frame). asks x f.body) (world.way w a b)))
        of_row true = refl
        of_row false = sum_zero (centre_count line) (λ b. 0) (λ b at. refl)

    on_links : sum_links (centre_count line) (λ a b. carried (questions x c) a b (way (flow_of w) a b))
        ≡ count_by (λ (f : Frame). asks x f.body) (frames_from line w c)
        + count_by (λ (f : Frame). answers x f.body) (frames_to line w c)
    unfolding sum_links
    on_links = omega (
      arith,
      sum_same (centre_count line) (λ a. sum_below (centre_count line)
          (λ b. carried (questions x c) a b (way (flow_of w) a b)))
          (λ a. counted_if (a == c)
          (sum_below (centre_count line) (λ b. count_by (λ (f : Frame). asks x f.body) (world.way w a b)))
          + count_by (λ (f : Frame). answers x f.body) (world.way w a c)) (λ a at. row a),
      sum_plus (centre_count line)
          (λ a. counted_if (a == c)
          (sum_below (centre_count line) (λ b. count_by (λ (f : Frame). asks x f.body) (world.way w a b))))
          (λ a. count_by (λ (f : Frame). answers x f.body) (world.way w a c)),
      sum_only (centre_count line)
          (λ a. counted_if (a == c)
          (sum_below (centre_count line) (λ b. count_by (λ (f : Frame). asks x f.body) (world.way w a b)))) c small
          (λ a at apart.
          ap (λ z. counted_if z
          (sum_below (centre_count line) (λ b. count_by (λ (f : Frame). asks x f.body) (world.way w a b))))
          (ne_eqb a c apart)),
      ap (λ z. counted_if z
          (sum_below (centre_count line) (λ b. count_by (λ (f : Frame). asks x f.body) (world.way w c b)))) (itself c),
      from_c,
      to_c,
    )

    stand_here : allowed (questions x c) (centre_count line) (flow_of w) ≡ one_if (stands x (w.at c))
    unfolding allowed
    stand_here = sum_only (centre_count line) (λ h. one_if ((h == c) && stands x (w.at h))) c small
        (λ h at apart. ap (λ z. one_if (z && stands x (w.at h))) (ne_eqb h c apart))
        ∙ ap (λ z. one_if (z && stands x (w.at c))) (itself c)

    pub asked_once : LeavesNone line (flow_of w) → IsAskedOnce line w c x
    asked_once old = record {
      once = omega (
        arith,
        on_links,
        stand_here,
        placed_parts (questions x c) (centre_count line) (flow_of w),
        sum_zero (centre_count line) (λ h. 0) (λ h at. refl),
        (old.questions x c).law,
      );
    }

pub is_answered : (line : Line) (w : World) → LeavesNone line (flow_of w) → IsAnswered line w
is_answered line w old = record {
  questions = λ c x to. asked_once line w x c (ltb-true c (centre_count line) to) old;
  waits = old.waits;
}

-- if nothing is on the way from a centre or to it, it has all its answers, and no start waits there
module _ (line : Line) (w : World) (so : IsAnswered line w) (c : ℕ) (to : is_centre line c ≡ true)
    (none_from : frames_from line w c ≡ []) (none_to : frames_to line w c ≡ []) where
  pub none_stands : (x : Question) → stands x (w.at c) ≡ false
  none_stands x =
      by_count (stands x (w.at c))
      (omega (
        arith,
        (so.questions c x to).once,
        ap (count_by (λ (f : Frame). asks x f.body)) none_from,
        ap (count_by (λ (f : Frame). answers x f.body)) none_to,
      ))
    where
      by_count : (z : Bool) → one_if z ≡ 0 → z ≡ false
      by_count true is = absurd (omega (arith, is))
      by_count false is = refl

  pub none_waits : (t : ℕ) → (w.at c).wait t ≡ None
  none_waits t = by_wait ((w.at c).wait t) refl
    where
      by_wait : (o : Option Place) → (w.at c).wait t ≡ o → o ≡ None
      by_wait None at = refl
      by_wait (Some place) at = absurd (let wrong : true ≡ false = sym ((so.waits c).each t (ap is_some at))
          ∙ none_stands (OfRight t) in cc)
