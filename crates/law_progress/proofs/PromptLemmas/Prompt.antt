-- In a prompt schedule each pending question between centres is answered in time.
use Rattle.std.proofs.Common.{⊎_elim, ◌&&◌, ◌*◌, ◌+◌, ◌<◌, ◌==◌, ◌∙◌, ◌≡◌, ◌≢◌, ◌≤◌, ap, arith, Bool, eq-eqb, false}
use Rattle.std.proofs.Common.{length, ltb-true, not, slice_get, Some, subst, suc, sym, true, zero, ℕ}
use Rattle.std.proofs.lemmas.Bool.{and_parts, cases_lt}
use Rattle.std.proofs.Math.Nat.{mul-le-mul_left}
use Rattle.std.specs.List.{count_by}
use Rattle.law_base.specs.Counting.Network.{EachOnTheWay}
use Rattle.law_base.specs.Counting.Network as net
use Rattle.law_base.specs.Counting.Sums.{one_if}
use Rattle.law_invariants.proofs.FlowLemmas.Seats.{way_is}
use Rattle.law_invariants.proofs.NoStrayLemmas.Counts.{is_answered}
use Rattle.law_invariants.proofs.NoStrayLemmas.Worlds.{IsReachedSo}
use Rattle.law_invariants.specs.Flow.Flow.{centre_count, flow_of}
use Rattle.law_invariants.specs.NoStray.Questions.{frames_from, frames_to, IsBodyKnown}
use Rattle.law_invariants.specs.NoUnasked.Asked.{answers, asks, IsBodyAsked, Question, stands}
use Rattle.law_invariants.specs.Ranges.Stays.{IsFrameInRange, IsReadInRange}
use Rattle.law_progress.proofs.PromptLemmas.Asked.{asked_there, from_asked_begins, from_asked_step, IsFromAsked}
use Rattle.law_progress.proofs.PromptLemmas.Asked.{one_asked}
use Rattle.law_progress.proofs.PromptLemmas.Lists.{get_drop, got_body, Passes, some_list}
use Rattle.law_progress.proofs.PromptLemmas.Queue.{by_result, in_range, known}
use Rattle.law_progress.proofs.PromptLemmas.Soon.{answer_ends, question_ends, Soon}
use Rattle.law_progress.specs.Fair.Schedule.{world_after}
use Rattle.law_progress.specs.Prompt.Answering.{answer_time, is_asked_of, IsAnsweredSoon, IsPrompt}
use Rattle.rbc_spec.proofs.Lists.{each_at}
use Rattle.rbc_spec.specs.Frame.{Body, Frame}
use Rattle.rbc_spec.specs.Line.{is_centre, IsLine, Line}
use Rattle.rbc_spec.specs.World.{Event, way, World}

module _ (line : Line) (ok : IsLine line) (schedule : ℕ → Event) (ranges : (n : ℕ) → IsReadInRange (schedule n)) where
  abbrev At : ℕ → World
  At n = world_after line schedule n

  abbrev reached : (n : ℕ) → IsReachedSo line (At n)
  reached n = known line ok schedule ranges n

  from_asked : (n : ℕ) → EachOnTheWay (IsFromAsked line) (flow_of (At n))
  unfolding world_after
  from_asked zero = from_asked_begins line
  from_asked (suc n) = on (from_asked n)
    where
      on : EachOnTheWay (IsFromAsked line) (flow_of (At n)) → EachOnTheWay (IsFromAsked line) (flow_of (At (suc n)))
      on old = by_result line ok schedule ranges (λ v. EachOnTheWay (IsFromAsked line) (flow_of v)) n old
          (λ answer new is. from_asked_step line ok (At n) (reached n) old (schedule n) answer new is)

  -- a property of each body on the way
  known_body : (P : ℕ → ℕ → Body → Type 0) (n a b i : ℕ) (f : Frame) → EachOnTheWay P (flow_of (At n))
      → slice_get (way (At n) a b) i ≡ Some f → P a b f.body
  known_body P n a b i f each got = each_at (P a b) (net.way (flow_of (At n)) a b) i f.body (each.each a b)
      (ap (λ fs. slice_get fs i) (way_is (At n) a b) ∙ got_body (way (At n) a b) i f got)

  unequal : (p q : Bool) (a b : ℕ) → (p && not (a == b)) ≡ true → a ≢ b
  unequal p q a b linked same = let parts = and_parts p (not (a == b)) linked in
      let wrong : false ≡ true = sym (ap not (eq-eqb a b same)) ∙ parts.1 in cc

  apart : (n a b i : ℕ) (f : Frame) → slice_get (way (At n) a b) i ≡ Some f → a ≢ b
  apart n a b i f got = unequal (is_centre line a && is_centre line b) true a b
      (each_at (IsFrameInRange line a b) (((At n).at a).sent b) (((At n).at b).taken a + i) f
      ((in_range line ok schedule ranges n).sent a b)
      (sym (get_drop (((At n).at b).taken a) (((At n).at a).sent b) i) ∙ got)).linked

  module _ (k : ℕ) (prompt : IsPrompt line schedule k) (c d : ℕ) (x : Question) (to : is_centre line c ≡ true)
      (asked : is_asked_of line d x ≡ true) (n : ℕ) (pending : stands x ((At n).at c) ≡ true) where
    abbrev Within : ℕ → Type 0
    Within most = Soon line ok schedule ranges k prompt c d x n most

    by_question : (b : ℕ) × (b < centre_count line) × Passes (λ (f : Frame). asks x f.body) (way (At n) c b)
        → Within (answer_time (At n) k c d)
    by_question (b, small, it) = question_ends line ok schedule ranges k prompt c d x n it.i it.frame
        (subst (λ e. slice_get (way (At n) c e) it.i ≡ Some it.frame) there it.got) it.passes
      where
        there : b ≡ d
        there = one_asked line b d x (asked_there line c b x it.frame.body it.passes
            (known_body (IsBodyKnown line) n c b it.i it.frame (reached n).answered.bodies it.got)
            (known_body (IsBodyAsked line) n c b it.i it.frame (reached n).asked.bodies it.got)) asked

    by_answer : (a : ℕ) × (a < centre_count line) × Passes (λ (f : Frame). answers x f.body) (way (At n) a c)
        → Within (answer_time (At n) k c d)
    by_answer (a, small, it) = longer (answer_ends line ok schedule ranges k prompt c d x n it.i it.frame
        (subst (λ e. slice_get (way (At n) e c) it.i ≡ Some it.frame) there it.got) it.passes)
      where
        there : a ≡ d
        there = one_asked line a d x ((known_body (IsFromAsked line) n a c it.i it.frame (from_asked n) it.got).law x
            it.passes (ltb-true c (centre_count line) to) (apart n a c it.i it.frame it.got)) asked

        longer : Within (k * length (way (At n) d c)) → Within (answer_time (At n) k c d)
        longer soon = record {
          at = soon.at;
          late = soon.late;
          soon = omega (
            arith,
            soon.soon,
            mul-le-mul_left {m = length (way (At n) d c)}
                {n = length (way (At n) d c) + 3 * (k * length (way (At n) c d))} k (omega arith),
          );
          ends = soon.ends;
        }

    one_there : 1 ≤ count_by (λ (f : Frame). asks x f.body) (frames_from line (At n) c)
        + count_by (λ (f : Frame). answers x f.body) (frames_to line (At n) c)
    one_there = omega (
      arith,
      ((is_answered line (At n) (reached n).answered).questions c x to).once,
      ap one_if pending,
    )

    answered_soon : Within (answer_time (At n) k c d)
    answered_soon = ⊎_elim
        (λ (some : 0 < count_by (λ (f : Frame). asks x f.body) (frames_from line (At n) c)).
        by_question (some_list (λ (f : Frame). asks x f.body) (λ b. way (At n) c b) (centre_count line) some))
        (λ (none : count_by (λ (f : Frame). asks x f.body) (frames_from line (At n) c) ≤ 0).
        by_answer (some_list (λ (f : Frame). answers x f.body) (λ a. way (At n) a c) (centre_count line)
        (omega (arith, none, one_there))))
        (cases_lt 0 (count_by (λ (f : Frame). asks x f.body) (frames_from line (At n) c)))

    pub is_answered_soon : IsAnsweredSoon line schedule k n c d x
    is_answered_soon = record {
      at = answered_soon.at;
      late = answered_soon.late;
      soon = answered_soon.soon;
      ends = answered_soon.ends;
    }
