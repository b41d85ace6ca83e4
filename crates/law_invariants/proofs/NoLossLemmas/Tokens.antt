-- The amount outside a section's home and the amount taken at home are together the amount of tokens.
use Rattle.std.proofs.Common.{[], ◌&&◌, ◌+◌, ◌∙◌, ◌∷◌, ◌≡◌, arith, Bool, false, List, None, not, Option, refl, Some}
use Rattle.std.proofs.Common.{sym, true, ℕ}
use Rattle.law_base.proofs.CountingLemmas.Resource.{carried_more, carried_none}
use Rattle.law_base.proofs.CountingLemmas.Sums.{sum_same}
use Rattle.law_base.specs.Counting.Resource.{carried, sent_by}
use Rattle.law_base.specs.Counting.Sums.{one_if}
use Rattle.law_base.specs.Local.Local.{hand_has}
use Rattle.law_invariants.proofs.NoCopyLemmas.Steps.{step_exact}
use Rattle.law_invariants.proofs.NoLossLemmas.Outside.{outside_exact}
use Rattle.law_invariants.proofs.NoLossLemmas.Rights.{none_stray, outside, outside_kept, ready_to_count}
use Rattle.law_invariants.proofs.SoundLemmas.Events.{stays_sound}
use Rattle.law_invariants.specs.Flow.Counts.{pool_has, tokens, wait_has}
use Rattle.law_invariants.specs.Flow.Flow.{centre_count}
use Rattle.law_invariants.specs.Flow.Sound.{IsCentreSound}
use Rattle.law_invariants.specs.NoCopy.Steps.{came_by, came_to, done, IsExactStep}
use Rattle.law_invariants.specs.NoLoss.Keeps.{BringsNoStray, HasRightOnce}
use Rattle.law_invariants.specs.Sound.Stays.{IsInRange}
use Rattle.rbc_spec.specs.Centre.{Centre, Entry, is_out_for, is_taken_for, is_used_for, Mission, Open, Out, Shut, Taken}
use Rattle.rbc_spec.specs.Frame.{Body}
use Rattle.rbc_spec.specs.Line.{is_home, IsLine, Line}
use Rattle.rbc_spec.specs.Outcome as outcome
use Rattle.rbc_spec.specs.Outcome.{Early, Next, NoLink, Old}
use Rattle.rbc_spec.specs.SectionRuns.{within}
use Rattle.rbc_spec.specs.Step.{Deliver, Event, link_answer, Set, stamp_of, state_after, Train, Unset}

-- frames have the same inside
same_carried : (line : Line) (t s a b : ℕ) (fs : List Body)
    → carried (tokens line t s) a b fs ≡ carried (outside line t s) a b fs
same_carried line t s a b [] = omega (arith, carried_none (tokens line t s) a b, carried_none (outside line t s) a b)
same_carried line t s a b (f ∷ fs) =
    omega (
      arith,
      carried_more (tokens line t s) a b f fs,
      carried_more (outside line t s) a b f fs,
      same_carried line t s a b fs,
    )

same_sent : (line : Line) (t s c : ℕ) (frames : ℕ → List Body)
    → sent_by (tokens line t s) (centre_count line) c frames ≡ sent_by (outside line t s) (centre_count line) c frames
unfolding sent_by
same_sent line t s c frames = sum_same (centre_count line) (λ d. carried (tokens line t s) c d (frames d))
    (λ d. carried (outside line t s) c d (frames d)) (λ d at. same_carried line t s c d (frames d))

same_came : (line : Line) (t s c : ℕ) (k : Centre) (event : Event)
    → came_to line c k event (tokens line t s) ≡ came_to line c k event (outside line t s)
same_came line t s c k (Train m) = refl
same_came line t s c k (Set u) = refl
same_came line t s c k (Unset u) = refl
same_came line t s c k (Deliver d f) = by_answer (link_answer line c k d f)
  where
    by_answer : (answer : outcome.Taken) → came_by c d f answer (tokens line t s)
        ≡ came_by c d f answer (outside line t s)
    by_answer Next = refl
    by_answer Old = refl
    by_answer Early = refl
    by_answer NoLink = refl

-- an entry in use for the train is taken, or out
used_parts : (t : ℕ) (e : Entry) → one_if (is_used_for t e) ≡ one_if (is_out_for t e) + one_if (is_taken_for t e)
used_parts t Shut = refl
used_parts t Open = refl
used_parts t (Taken u) = omega arith
used_parts t (Out u) = omega arith

-- the amount taken at home
abbrev at_home : Line → ℕ → ℕ → ℕ → Centre → ℕ
at_home line c t s k = one_if (is_home line c s && is_taken_for t (k.book s))

cap_parts : (line : Line) (c t s : ℕ) (k : Centre) → (tokens line t s).cap c k
    ≡ (outside line t s).cap c k + at_home line c t s k
cap_parts line c t s k = by_home (is_home line c s)
  where
    by_home : (h : Bool) → one_if (h && is_used_for t (k.book s)) ≡ one_if (h && is_out_for t (k.book s))
        + one_if (h && is_taken_for t (k.book s))
    by_home true = used_parts t (k.book s)
    by_home false = refl

not_there : (b h : Bool) → (b ≡ true → h ≡ true) → h ≡ false → one_if b ≡ 0
not_there true h is away = absurd (let wrong : true ≡ false = sym (is refl) ∙ away in cc)
not_there false h is away = refl

held_parts : (line : Line) (c t s : ℕ) (k : Centre) → IsCentreSound line c k
    → (tokens line t s).held c k ≡ (outside line t s).held c k + at_home line c t s k
held_parts line c t s k sound = by_home (is_home line c s) refl
  where
    away : (o : Option Mission) → k.mission t ≡ o → is_home line c s ≡ true → one_if (pool_has o s) ≡ 0
    away None at home = refl
    away (Some m) at home = in_pool (within m.pool s) refl
      where
        in_pool : (b : Bool) → within m.pool s ≡ b → one_if b ≡ 0
        in_pool true is = absurd (let wrong : true ≡ false = sym home ∙ (sound.mission t m at).pool_away s is in cc)
        in_pool false is = refl

    by_home : (h : Bool) → is_home line c s ≡ h
        → (one_if (wait_has line (k.wait t) s) + one_if (hand_has (k.mission t) s)) + one_if (pool_has (k.mission t) s)
        ≡ (one_if (not h && hand_has (k.mission t) s) + one_if (not h && pool_has (k.mission t) s))
        + one_if (h && is_taken_for t (k.book s))
    by_home true home = omega (arith, sound.claims s t home, away (k.mission t) refl home)
    by_home false foreign =
        omega (arith, not_there (wait_has line (k.wait t) s) (is_home line c s) (sound.wait_home t s) foreign)

pub no_token_lost : (line : Line) → IsLine line → (c t s : ℕ) (k : Centre) (event : Event) → IsInRange event
    → IsCentreSound line c k → HasRightOnce k → BringsNoStray line c k event
    → IsExactStep (tokens line t s) line c k event
no_token_lost line ok c t s k event range sound once due = record {
  law = omega (
    arith,
    (step_exact line c (outside_kept line c t s) (outside_exact line ok c t s) k event sound
        (ready_to_count line ok c (outside_kept line c t s) k sound once) refl
        (none_stray line ok c (outside_kept line c t s) (outside_exact line ok c t s)
        (stamp_of k event) k event due)).law,
    same_came line t s c k event,
    same_sent line t s c (done line c k event).reply.frames,
    held_parts line c t s k sound,
    cap_parts line c t s k,
    held_parts line c t s new (stays_sound line ok c k event range sound).centre,
    cap_parts line c t s new,
  );
}
  where
    new : Centre
    new = state_after (stamp_of k event) k (done line c k event)
