-- The position at which a frame on the way is taken.
use Rattle.std.proofs.Common.{⊎_elim, ◌*◌, ◌+◌, ◌<◌, ◌∙◌, ◌≡◌, ◌≤◌, ◌⊎◌, arith, inl, inr, length, List, slice_get}
use Rattle.std.proofs.Common.{Some, subst, suc, sym, zero, ℕ}
use Rattle.std.proofs.lemmas.Bool.{cases_lt}
use Rattle.std.proofs.lemmas.Option.{same_Some}
use Rattle.law_invariants.specs.Ranges.Stays.{IsReadInRange}
use Rattle.law_progress.proofs.PromptLemmas.Links.{takes_got}
use Rattle.law_progress.proofs.PromptLemmas.Queue.{link_at, reach, stays_to, TakesAt}
use Rattle.law_progress.specs.Fair.Schedule.{world_after}
use Rattle.law_progress.specs.Prompt.Answering.{IsHeldUp, IsPrompt}
use Rattle.rbc_spec.specs.Frame.{Frame}
use Rattle.rbc_spec.specs.Line.{IsLine, Line}
use Rattle.rbc_spec.specs.World.{Event, World}

module _ (line : Line) (ok : IsLine line) (schedule : ℕ → Event) (ranges : (n : ℕ) → IsReadInRange (schedule n))
    (a b : ℕ) where
  abbrev At : ℕ → World
  At n = world_after line schedule n

  abbrev Taken : ℕ → ℕ
  Taken n = ((At n).at b).taken a

  abbrev Sent : ℕ → List Frame
  Sent n = ((At n).at a).sent b

  abbrev Stops : ℕ → ℕ → Type 0
  Stops n m = IsHeldUp line schedule n m a b

  -- the position at which the frame of a number is taken
  pub record IsTakenWithin (n m number : ℕ) : Type 0 where
    pub at : ℕ
    pub late : n ≤ at
    pub soon : at < m
    pub takes : TakesAt line ok schedule ranges a b at
    pub number_is : Taken at + 1 ≡ number

  pub crossed : (d n number : ℕ) → Taken n < number → number ≤ Taken (d + n) → IsTakenWithin n (d + n) number
  crossed zero n number before done = let here : 0 + n ≡ n = omega arith in
      absurd (let same : number ≤ Taken n = subst (λ m. number ≤ Taken m) here done in omega (arith, before, same))
  crossed (suc d) n number before done = by_link
      (λ missing. crossed d (suc n) number missing (subst (λ m. number ≤ Taken m) there done))
      (link_at line ok schedule ranges a b n)
    where
      there : suc d + n ≡ d + suc n
      there = omega arith

      on : IsTakenWithin (suc n) (d + suc n) number → IsTakenWithin n (suc d + n) number
      on it = record {
        at = it.at;
        late = omega (arith, it.late);
        soon = omega (arith, it.soon);
        takes = it.takes;
        number_is = it.number_is;
      }

      by_link : (Taken (suc n) < number → IsTakenWithin (suc n) (d + suc n) number)
          → (Taken (suc n) ≡ Taken n) ⊎ TakesAt line ok schedule ranges a b n → IsTakenWithin n (suc d + n) number
      by_link later (inl same) = on (later (omega (arith, same, before)))
      by_link later (inr it) = ⊎_elim
          (λ (missing : Taken n + 1 < number). on (later (omega (arith, it.takes.one_more, missing))))
          (λ (here : number ≤ Taken n + 1). record {
            at = n;
            late = omega arith;
            soon = omega arith;
            takes = it;
            number_is = omega (arith, here, before);
          })
          (cases_lt (Taken n + 1) number)

  -- each frame that was sent is taken in time, or a delivery is refused
  pub taken_in_time : (k : ℕ) → IsPrompt line schedule k → (d n number : ℕ) → Taken n < number
      → number ≤ Taken n + d → number ≤ length (Sent n)
      → Stops n (n + k * d) ⊎ IsTakenWithin n (n + k * d) number
  taken_in_time k prompt d n number before near sent =
      by_end (reach line ok schedule ranges a b k prompt d n number near sent)
    where
      there : k * d + n ≡ n + k * d
      there = omega arith

      by_end : Stops n (n + k * d) ⊎ (number ≤ Taken (n + k * d))
          → Stops n (n + k * d) ⊎ IsTakenWithin n (n + k * d) number
      by_end (inl it) = inl it
      by_end (inr done) = inr (subst (λ m. IsTakenWithin n m number) there
          (crossed (k * d) n number before (subst (λ m. number ≤ Taken m) (sym there) done)))

  -- the frame that is taken is the one that was sent under that number
  pub frame_is : (n at : ℕ) → n ≤ at → (it : TakesAt line ok schedule ranges a b at) → (f : Frame)
      → slice_get (Sent n) (Taken at) ≡ Some f → it.takes.frame ≡ f
  frame_is n at later it f is = same_Some it.takes.frame f
      (sym (takes_got line (At at) a b (schedule at) it.answer (At (suc at)) it.takes)
      ∙ stays_to line ok schedule ranges a b n at (Taken at) f later is)
