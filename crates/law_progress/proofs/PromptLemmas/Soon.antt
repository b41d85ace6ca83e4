-- In a prompt schedule each question between centres is answered in time.
use Rattle.std.proofs.Common.{[], ⊎_elim, ◌++◌, ◌*◌, ◌+◌, ◌-◌, ◌<◌, ◌∙◌, ◌∷◌, ◌≡◌, ◌≤◌, ◌⊎◌, ap, arith}
use Rattle.std.proofs.Common.{false, inl, inr, length, List, slice_get, Some, suc}
use Rattle.std.proofs.Common.{sym, true, ℕ}
use Rattle.std.proofs.Math.Nat.{mul-le-mul_left}
use Rattle.std.proofs.lemmas.List.{length-drop, length-map}
use Rattle.law_invariants.proofs.NoStrayLemmas.Worlds.{frame_due, IsReachedSo}
use Rattle.law_invariants.specs.NoStray.Due.{IsFrameDue}
use Rattle.law_invariants.specs.NoUnasked.Asked.{answers, asks, Question, stands}
use Rattle.law_invariants.specs.Ranges.Stays.{IsReadInRange}
use Rattle.law_progress.proofs.PromptLemmas.Answers.{ends_question, puts_answer}
use Rattle.law_progress.proofs.PromptLemmas.Lists.{get_drop, got_last, got_small}
use Rattle.law_progress.proofs.PromptLemmas.Links.{takes_got}
use Rattle.law_progress.proofs.PromptLemmas.Queue.{TakesAt, known, link_at, more_to, up_to, wider}
use Rattle.law_progress.proofs.PromptLemmas.Within.{IsTakenWithin, frame_is, taken_in_time}
use Rattle.law_progress.specs.Fair.Schedule.{world_after}
use Rattle.law_progress.specs.Prompt.Answering.{answer_time, IsHeldUp, IsPrompt, IsTakenSoon, PutsAnswer}
use Rattle.rbc_spec.specs.Frame.{Frame}
use Rattle.rbc_spec.specs.Line.{IsLine, Line}
use Rattle.rbc_spec.specs.Step as centre
use Rattle.rbc_spec.specs.Step.{taken}
use Rattle.rbc_spec.specs.World.{Event, way, World}

module _ (line : Line) (ok : IsLine line) (schedule : ℕ → Event) (ranges : (n : ℕ) → IsReadInRange (schedule n)) where
  abbrev At : ℕ → World
  At n = world_after line schedule n

  abbrev Taken : ℕ → ℕ → ℕ → ℕ
  Taken a b n = ((At n).at b).taken a

  abbrev Sent : ℕ → ℕ → ℕ → List Frame
  Sent a b n = ((At n).at a).sent b

  abbrev reached : (n : ℕ) → IsReachedSo line (At n)
  reached n = known line ok schedule ranges n

  counted : (a b n : ℕ) → Taken a b n ≤ length (Sent a b n)
  counted a b n =
      omega (arith, (reached n).sound.flow.counted.counts a b, length-map (Sent a b n) (λ (f : Frame). f.body))

  -- the frame that is taken is due
  due_at : (a b n : ℕ) (it : TakesAt line ok schedule ranges a b n) → IsFrameDue line (At n) a b it.takes.frame
  due_at a b n it = frame_due line ok (At n) (reached n).sound (reached n).asked (reached n).answered a b
      (Taken a b n + 1) it.takes.frame it.takes.head.sent it.takes.head.next

  -- each frame on the way is taken in time
  pub is_taken_soon : (k : ℕ) → IsPrompt line schedule k → (n a b i : ℕ) → i < length (way (At n) a b)
      → IsTakenSoon line schedule k n a b i
  is_taken_soon k prompt n a b i small = by_end (taken_in_time line ok schedule ranges a b k prompt (i + 1) n
      (suc (Taken a b n + i)) (omega arith) (omega arith)
      (omega (arith, small, length-drop (Taken a b n) (Sent a b n))))
    where
      by_end : IsHeldUp line schedule n (n + k * (i + 1)) a b
          ⊎ IsTakenWithin line ok schedule ranges a b n (n + k * (i + 1)) (suc (Taken a b n + i))
          → IsTakenSoon line schedule k n a b i
      by_end (inl stops) =
          record { at = n + k * (i + 1); late = omega arith; soon = omega arith; ends = inr stops }
      by_end (inr it) = record {
        at = suc it.at;
        late = omega (arith, it.late);
        soon = omega (arith, it.soon);
        ends = inl (omega (arith, it.takes.takes.one_more, it.number_is));
      }

  module _ (k : ℕ) (prompt : IsPrompt line schedule k) (c d : ℕ) (x : Question) where
    abbrev Ends : ℕ → ℕ → Type 0
    Ends n m = (stands x ((At m).at c) ≡ false) ⊎ (IsHeldUp line schedule n m c d ⊎ IsHeldUp line schedule n m d c)

    -- in at most this many events
    pub record Soon (n most : ℕ) : Type 0 where
      pub at : ℕ
      pub late : n ≤ at
      pub soon : at ≤ n + most
      pub ends : Ends n at

    -- ## The answer is on the way

    pub answer_ends : (p i : ℕ) (g : Frame) → slice_get (way (At p) d c) i ≡ Some g → answers x g.body ≡ true
        → Soon p (k * length (way (At p) d c))
    answer_ends p i g got is = by_end (taken_in_time line ok schedule ranges d c k prompt (length (way (At p) d c)) p
        (suc (Taken d c p + i)) (omega arith) (omega (arith, small))
        (omega (arith, small, length-drop (Taken d c p) (Sent d c p))))
      where
        small : i < length (way (At p) d c)
        small = got_small (way (At p) d c) i g got

        by_end : IsHeldUp line schedule p (p + k * length (way (At p) d c)) d c
            ⊎ IsTakenWithin line ok schedule ranges d c p (p + k * length (way (At p) d c)) (suc (Taken d c p + i))
            → Soon p (k * length (way (At p) d c))
        by_end (inl stops) = record {
          at = p + k * length (way (At p) d c);
          late = omega arith;
          soon = omega arith;
          ends = inr (inr stops);
        }
        by_end (inr it) = record {
          at = suc it.at;
          late = omega (arith, it.late);
          soon = omega (arith, it.soon);
          ends = inl (ap (stands x) it.takes.takes.left ∙ ends_question line d c ((At it.at).at c) it.takes.takes.frame
              it.takes.takes.head.next (due_at d c it.at it.takes).known (due_at d c it.at it.takes).due x
              (ap (λ (f : Frame). answers x f.body) same ∙ is));
        }
          where
            place : Taken d c p + i ≡ Taken d c it.at
            place = omega (arith, it.number_is)

            same : it.takes.takes.frame ≡ g
            same = frame_is line ok schedule ranges d c p it.at it.late it.takes g
                (ap (slice_get (Sent d c p)) (sym place) ∙ sym (get_drop (Taken d c p) (Sent d c p) i) ∙ got)

    -- ## The question is on the way

    abbrev Out : ℕ → ℕ
    Out n = k * length (way (At n) c d)

    -- the answer that the delivery puts on the way
    module _ (n at : ℕ) (later : n ≤ at) (soon : at < n + Out n) (it : TakesAt line ok schedule ranges c d at)
        (is : asks x it.takes.frame.body ≡ true) where
      sends : PutsAnswer x ((taken line d (centre.Deliver c it.takes.frame) ((At at).at d)).0.frames c)
      sends = puts_answer line c d ((At at).at d) it.takes.frame it.takes.head.next (due_at c d at it).known
          (due_at c d at it).due x is

      sent_is : Sent d c (suc at) ≡ Sent d c at ++ sends.frame ∷ []
      sent_is = it.takes.sent_is c ∙ ap (λ fs. Sent d c at ++ fs) sends.alone

      taken_few : Taken d c (suc at) ≤ length (Sent d c at)
      taken_few = ⊎_elim
          (λ (same : Taken d c (suc at) ≡ Taken d c at). omega (arith, same, counted d c at))
          (λ (other : TakesAt line ok schedule ranges d c at). omega (
            arith,
            other.takes.one_more,
            got_small (Sent d c at) (Taken d c at) other.takes.frame
                (takes_got line (At at) d c (schedule at) other.answer (At (suc at)) other.takes),
          ))
          (link_at line ok schedule ranges d c at)

      place : Taken d c (suc at) + (length (Sent d c at) - Taken d c (suc at)) ≡ length (Sent d c at)
      place = omega (arith, taken_few)

      -- the answer, in its queue
      got : slice_get (way (At (suc at)) d c) (length (Sent d c at) - Taken d c (suc at)) ≡ Some sends.frame
      got = get_drop (Taken d c (suc at)) (Sent d c (suc at)) (length (Sent d c at) - Taken d c (suc at))
          ∙ ap (slice_get (Sent d c (suc at))) place
          ∙ ap (λ fs. slice_get fs (length (Sent d c at))) sent_is
          ∙ got_last (Sent d c at) sends.frame

      few_back : length (way (At (suc at)) d c) ≤ length (way (At n) d c) + 3 * Out n
      few_back = omega (
        arith,
        soon,
        later,
        length-drop (Taken d c (suc at)) (Sent d c (suc at)),
        length-drop (Taken d c n) (Sent d c n),
        up_to line ok schedule ranges d c n (suc at) (omega (arith, later)),
        (more_to line ok schedule ranges d c n (suc at) (omega (arith, later))).1,
      )

      back : Soon n (answer_time (At n) k c d)
      back = let it = answer_ends (suc at) (length (Sent d c at) - Taken d c (suc at)) sends.frame got
          sends.answers_it in
          record {
            at = it.at;
            late = omega (arith, it.late, later);
            soon = omega (arith, it.soon, soon, mul-le-mul_left k few_back);
            ends = by_end it.at it.ends;
          }
        where
          by_end : (m : ℕ) → Ends (suc at) m → Ends n m
          by_end m (inl done) = inl done
          by_end m (inr (inl stops)) = inr (inl (wider line ok schedule ranges c d (suc at) m n m (omega (arith, later))
              (omega arith) stops))
          by_end m (inr (inr stops)) = inr (inr (wider line ok schedule ranges d c (suc at) m n m (omega (arith, later))
              (omega arith) stops))

    pub question_ends : (n i : ℕ) (f : Frame) → slice_get (way (At n) c d) i ≡ Some f → asks x f.body ≡ true
        → Soon n (answer_time (At n) k c d)
    question_ends n i f got is = by_end (taken_in_time line ok schedule ranges c d k prompt (length (way (At n) c d)) n
        (suc (Taken c d n + i)) (omega arith) (omega (arith, small))
        (omega (arith, small, length-drop (Taken c d n) (Sent c d n))))
      where
        small : i < length (way (At n) c d)
        small = got_small (way (At n) c d) i f got

        by_end : IsHeldUp line schedule n (n + Out n) c d
            ⊎ IsTakenWithin line ok schedule ranges c d n (n + Out n) (suc (Taken c d n + i))
            → Soon n (answer_time (At n) k c d)
        by_end (inl stops) = record {
          at = n + Out n;
          late = omega arith;
          soon = omega arith;
          ends = inr (inl stops);
        }
        by_end (inr it) = back n it.at it.late it.soon it.takes (ap (λ (g : Frame). asks x g.body) same ∙ is)
          where
            place : Taken c d n + i ≡ Taken c d it.at
            place = omega (arith, it.number_is)

            same : it.takes.takes.frame ≡ f
            same = frame_is line ok schedule ranges c d n it.at it.late it.takes f
                (ap (slice_get (Sent c d n)) (sym place) ∙ sym (get_drop (Taken c d n) (Sent c d n) i) ∙ got)
