-- No step makes a right or a token, and each step of a sound centre is fair.
use Rattle.std.proofs.Common.{[], ⊎_elim, ◌&&◌, ◌<◌, ◌||◌, ◌∙◌, ◌∷◌, ◌≡◌, ◌≢◌, ◌≤◌, ap, arith, Bool, false}
use Rattle.std.proofs.Common.{if◌then◌else◌, None, not, Option, refl, Some, sym, true, ℕ}
use Rattle.std.proofs.lemmas.Bool.{cases_eq}
use Rattle.std.specs.Option.{option_map_or}
use Rattle.law_base.proofs.CountingLemmas.Resource.{carried_more, carried_none, sent_none}
use Rattle.law_base.proofs.CountingLemmas.Sums.{put_other, put_same, sum_zero}
use Rattle.law_base.proofs.LocalLemmas.Entries.{unused_out}
use Rattle.law_base.proofs.LocalLemmas.Worlds.{is_ordered}
use Rattle.law_base.specs.Counting.Resource.{carried, sent_by}
use Rattle.law_base.specs.Walk.Trains.{train_of}
use Rattle.law_invariants.proofs.NoCopyLemmas.Borders.{fair_propose_if}
use Rattle.law_invariants.proofs.NoCopyLemmas.Frames.{AllWaitHome, fair_received}
use Rattle.law_invariants.proofs.NoCopyLemmas.Leaving.{Makes}
use Rattle.law_invariants.proofs.NoCopyLemmas.Messages.{AllFollow, fair_answered}
use Rattle.law_invariants.proofs.NoCopyLemmas.Ready.{Ready, ready_again}
use Rattle.law_invariants.proofs.NoCopyLemmas.Rights.{rights_counted, rights_ready, rights_tally}
use Rattle.law_invariants.proofs.NoCopyLemmas.Tally.{eased, Fair, fair_both, fair_if, fair_plain, fair_rest, fair_then}
use Rattle.law_invariants.proofs.NoCopyLemmas.Tally.{IsTally, Tally}
use Rattle.law_invariants.proofs.NoCopyLemmas.Tokens.{tokens_counted, tokens_ready, tokens_tally}
use Rattle.law_invariants.specs.Flow.Counts.{wait_has}
use Rattle.law_invariants.specs.Flow.Flow.{centre_count}
use Rattle.law_invariants.specs.Flow.Keeping.{IsFairAct}
use Rattle.law_invariants.specs.Flow.Sound.{IsCentreSound}
use Rattle.law_invariants.specs.NoCopy.Steps.{came_by, came_to, done, IsExactStep, IsFairStep}
use Rattle.law_invariants.specs.NoCopy.Stray.{has_place_for, is_looked_for, is_plain}
use Rattle.rbc_spec.specs.Acts.{◌>>◌, become, hear, rest}
use Rattle.rbc_spec.specs.Centre.{Centre, Entry, is_unused, Open, Out, Shut, Taken}
use Rattle.rbc_spec.specs.Frame.{Announce, AskRight, Body, Cancel, Frame, GiveRight, RefuseRight, ReturnRight, RouteAsk}
use Rattle.rbc_spec.specs.Frame.{RouteInfo, RouteReturn, RouteWithdraw, TakingOver, Yield}
use Rattle.rbc_spec.specs.Line.{is_home, is_linked, IsLine, Line}
use Rattle.rbc_spec.specs.Links.{is_train, received}
use Rattle.rbc_spec.specs.Maps.{put}
use Rattle.rbc_spec.specs.Message.{TrainMessage}
use Rattle.rbc_spec.specs.Outcome as outcome
use Rattle.rbc_spec.specs.Outcome.{Asked, Done, Early, Next, NoLink, NotHome, Old, Reason}
use Rattle.rbc_spec.specs.Rules.{answered, tell}
use Rattle.rbc_spec.specs.Step as step
use Rattle.rbc_spec.specs.Step.{Deliver, Effect, Event, hear_and_answer, link_answer, make, Set, set, stamp_of}
use Rattle.rbc_spec.specs.Step.{state_after, taken_by, ticked, Train, Unset, unset, wished, withdraw}

-- # A set and an unset make nothing, and lose nothing.

module _ (line : Line) (c : ℕ) (y : Tally) (is : IsTally line c y) where
  -- each other centre gets the request; nothing is inside
  fair_withdraw : (t s : ℕ) (k : Centre) → Makes line c y is k (withdraw line c t s k)
  unfolding sent_by
  fair_withdraw t s k = record { law = omega (arith, none_sent); back = λ so. omega (arith, none_sent) }
    where
      none_carried : (d : ℕ) (b : Bool) → carried y.res c d (if b then RouteWithdraw t s ∷ [] else []) ≡ 0
      none_carried d true =
          omega (
            arith,
            carried_more y.res c d (RouteWithdraw t s) [],
            carried_none y.res c d,
            is.plain c d (RouteWithdraw t s) refl,
          )
      none_carried d false = carried_none y.res c d

      none_sent : sent_by y.res (centre_count line) c (withdraw line c t s k).frames ≡ 0
      none_sent =
          sum_zero (centre_count line)
          (λ d. carried y.res c d (if is_linked line c d then RouteWithdraw t s ∷ [] else []))
          (λ d at. none_carried d (is_linked line c d))

  fair_wished : (s : ℕ) (e : Entry) (k : Centre) → Makes line c y is k (wished line c s e k)
  fair_wished s Shut k = fair_rest line c y k
  fair_wished s Open k = fair_rest line c y k
  fair_wished s (Taken t) k = fair_propose_if line c y is t s k
  fair_wished s (Out t) k = fair_withdraw t s k

  fair_make : (s : ℕ) (e : Entry) (k : Centre) → is_unused e ≡ true → is_unused (k.book s) ≡ true
      → Makes line c y is k (make s e false k)
  fair_make s e k same unused = record {
    law = omega (arith, sent_none y.res (centre_count line) c, still (is.unused (k.book s) e unused));
    back = λ so.
        omega (
          arith,
          sent_none y.res (centre_count line) c,
          still_back ((is.back so).here e (k.book s) (unused_out y.train e same)
              (unused_out y.train (k.book s) unused)),
        );
  }
    where
      still : y.entry (k.book s) ≤ y.entry e → y.entry (k.book y.section) ≤ y.entry (put k.book s e y.section)
      still less = ⊎_elim
          (λ (here : y.section ≡ s).
          omega (
            arith,
            less,
            ap (λ z. y.entry (put k.book s e z)) here
                ∙ ap y.entry (put_same k.book s e),
            ap (λ z. y.entry (k.book z)) here,
          ))
          (λ (other : y.section ≢ s). omega (arith, ap y.entry (put_other k.book s e y.section other)))
          (cases_eq y.section s)

      still_back : y.entry e ≤ y.entry (k.book s) → y.entry (put k.book s e y.section) ≤ y.entry (k.book y.section)
      still_back less = ⊎_elim
          (λ (here : y.section ≡ s).
          omega (
            arith,
            less,
            ap (λ z. y.entry (put k.book s e z)) here
                ∙ ap y.entry (put_same k.book s e),
            ap (λ z. y.entry (k.book z)) here,
          ))
          (λ (other : y.section ≢ s). omega (arith, ap y.entry (put_other k.book s e y.section other)))
          (cases_eq y.section s)

  pub fair_section_set : (s : ℕ) (k : Centre) → Makes line c y is k (set line c s k)
  fair_section_set s k = fair_if line c y (not (is_home line c s)) k (tell (NotHome s) k) _
      (λ so. fair_plain line c y k (tell (NotHome s) k) refl refl refl)
      (λ so. fair_both line c y (become (λ j. record j { wish = put j.wish s false }))
      ((if is_unused (k.book s) then make s Open false else rest) >> tell (Done s)) k
      (fair_plain line c y k _ refl refl refl)
      (fair_both line c y (if is_unused (k.book s) then make s Open false else rest) (tell (Done s)) _
      (made (is_unused (k.book s)) refl) (fair_plain line c y _ (tell (Done s) _) refl refl refl)))
    where
      made : (b : Bool) → is_unused (k.book s) ≡ b
          → Makes line c y is (become (λ j. record j { wish = put j.wish s false }) k).state
          ((if b then make s Open false else rest) (become (λ j. record j { wish = put j.wish s false }) k).state)
      made true unused = fair_make s Open (become (λ j. record j { wish = put j.wish s false }) k).state refl unused
      made false used = fair_rest line c y (become (λ j. record j { wish = put j.wish s false }) k).state

  pub fair_section_unset : (s : ℕ) (k : Centre) → Makes line c y is k (unset line c s k)
  fair_section_unset s k = fair_if line c y (not (is_home line c s)) k (tell (NotHome s) k) _
      (λ so. fair_plain line c y k (tell (NotHome s) k) refl refl refl) (λ so. by_use (is_unused (k.book s)) refl)
    where
      by_use : (b : Bool) → is_unused (k.book s) ≡ b
          → Makes line c y is k
          ((if b then (make s Shut false >> tell (Done s)) else
          ((become (λ j. record j { wish = put j.wish s true }) >> tell (Asked s))
          >> wished line c s (k.book s))) k)
      by_use true unused = fair_both line c y (make s Shut false) (tell (Done s)) k (fair_make s Shut k refl unused)
          (fair_plain line c y _ (tell (Done s) _) refl refl refl)
      by_use false used = fair_both line c y (become (λ j. record j { wish = put j.wish s true }) >> tell (Asked s))
          (wished line c s (k.book s)) k
          (fair_both line c y (become (λ j. record j { wish = put j.wish s true })) (tell (Asked s)) k
          (fair_plain line c y k _ refl refl refl) (fair_plain line c y _ (tell (Asked s) _) refl refl refl))
          (fair_wished s (k.book s) _)

-- # No step makes more than arrived.

-- whether a frame can be taken does not depend on the clock and on the counts of taken frames
pub same_place : (line : Line) (c d stamp : ℕ) (taken : ℕ → ℕ) (k : Centre) (body : Body)
    → has_place_for line c d k body ≡ has_place_for line c d (record k { clock = stamp; taken = taken }) body
same_place line c d stamp taken k (AskRight t) = refl
same_place line c d stamp taken k (GiveRight t) = refl
same_place line c d stamp taken k (RefuseRight t) = refl
same_place line c d stamp taken k (ReturnRight t) = refl
same_place line c d stamp taken k (RouteAsk t first most) = refl
same_place line c d stamp taken k (RouteInfo t r) = refl
same_place line c d stamp taken k (RouteWithdraw t s) = refl
same_place line c d stamp taken k (RouteReturn t r) = refl
same_place line c d stamp taken k (Announce number t track) = refl
same_place line c d stamp taken k (Cancel number t) = refl
same_place line c d stamp taken k (TakingOver number t) = refl
same_place line c d stamp taken k (Yield number t heard has_data is_ended place hand) = refl

module _ (line : Line) (c : ℕ) (y : Tally) (is : IsTally line c y) where
  message_fair : (m : TrainMessage) (k : Centre) → AllFollow line c y is k → Ready line c y k → (o : Option Reason)
      → Makes line c y is k
      (option_map_or {U = Effect} (λ why. record { reply = rest k; link = None; silence = Some why }) o
      (record { reply = hear_and_answer line c m k; link = None; silence = None })).reply
  message_fair m k follows ready (Some why) = fair_rest line c y k
  message_fair m k follows ready None = fair_both line c y (hear m) (answered line c m m.body) k
      (fair_plain line c y k (hear m k) refl refl refl)
      (fair_answered line c y is m m.body (hear m k).state follows
      (ready_again line c y k (hear m k).state refl refl refl ready))

  -- If losses are counted: a frame that is the next of its link is from another centre of the line, and is looked for.
  abbrev pub IsDueBy : ℕ → Frame → Centre → outcome.Taken → Type 0
  IsDueBy d f k answer = y.exact ≡ true → answer ≡ Next → ((d < centre_count line) × (c ≢ d))
      × (is_looked_for line c d k f.body ≡ true)

  frame_fair : (d : ℕ) (f : Frame) (k : Centre) → AllWaitHome line c y is k → Ready line c y k
      → (answer : outcome.Taken) → IsDueBy d f k answer
      → Fair line c y k (came_by c d f answer y.res) 0 (taken_by line c d f answer k)
  frame_fair d f k home ready Next due = eased line c y (y.res.inside d c f.body) 0 k (taken_by line c d f Next k)
      (omega arith) (λ so. omega arith)
      (fair_then line c y (become (λ j. record j { taken = put j.taken d f.number })) (received line c d f.body) k
      (fair_plain line c y k _ refl refl refl)
      (fair_received line c y is d f.body next home (ready_again line c y k next refl refl refl ready)
      (λ so. (due so refl).0)
      (λ so here. ap (λ b. is_plain f.body || (is_train line (train_of f.body) && b))
      (sym (same_place line c d k.clock (put k.taken d f.number) k f.body)) ∙ (due so refl).1)))
    where
      next : Centre
      next = (become (λ j. record j { taken = put j.taken d f.number }) k).state
  frame_fair d f k home ready Old due = fair_rest line c y k
  frame_fair d f k home ready Early due = fair_rest line c y k
  frame_fair d f k home ready NoLink due = fair_rest line c y k

  -- the event brings no stray frame
  abbrev pub BringsNoStray : Centre → Event → Type 0
  BringsNoStray k (Deliver d f) = IsDueBy d f k (link_answer line c k d f)
  BringsNoStray k event = Unit {0}

  event_fair : (event : Event) (k : Centre) → AllFollow line c y is k → AllWaitHome line c y is k
      → Ready line c y k → BringsNoStray k event
      → Fair line c y k (came_to line c k event y.res) 0 (step.effect line c k event).reply
  event_fair (Train m) k follows home ready due = message_fair m k follows ready (step.silence line c k m)
  event_fair (Set s) k follows home ready due = fair_section_set line c y is s k
  event_fair (Unset s) k follows home ready due = fair_section_unset line c y is s k
  event_fair (Deliver d f) k follows home ready due = frame_fair d f k home ready (link_answer line c k d f) due

  -- the clock is not counted
  same_came : (event : Event) (stamp : ℕ) (k : Centre) → came_to line c (ticked stamp k) event y.res
      ≡ came_to line c k event y.res
  same_came (Train m) stamp k = refl
  same_came (Set s) stamp k = refl
  same_came (Unset s) stamp k = refl
  same_came (Deliver d f) stamp k = refl

  module _ (k : Centre) (event : Event) (sound : IsCentreSound line c k) (ready : Ready line c y k) where
    abbrev pub now : Centre
    now = ticked (stamp_of k event) k

    fair : BringsNoStray now event
        → Fair line c y now (came_to line c now event y.res) 0 (step.effect line c now event).reply
    fair due = event_fair event now (λ t m stands. (sound.mission t m stands).pool_follows)
        (λ t place waits covers. sound.wait_home t y.section (ap (λ o. wait_has line o y.section) waits ∙ covers))
        (ready_again line c y k now refl refl refl ready) due

    none_brought : y.exact ≡ false → (e : Event) → BringsNoStray now e
    none_brought unlike (Deliver d f) = λ so. absurd (let wrong : true ≡ false = sym so ∙ unlike in cc)
    none_brought unlike (Train m) = record {}
    none_brought unlike (Set s) = record {}
    none_brought unlike (Unset s) = record {}

    pub step_fair : y.exact ≡ false → IsFairStep y.res line c k event
    step_fair unlike = record {
      law = omega (
        arith,
        (fair (none_brought unlike event)).law,
        same_came event (stamp_of k event) k,
        is.held k,
        is.cap k,
        is.held (state_after (stamp_of k event) k (done line c k event)),
        is.cap (state_after (stamp_of k event) k (done line c k event)),
      );
    }

    pub step_exact : y.exact ≡ true → BringsNoStray now event → IsExactStep y.res line c k event
    step_exact so due = record {
      law = omega (
        arith,
        (fair due).law,
        (fair due).back so,
        same_came event (stamp_of k event) k,
        is.held k,
        is.cap k,
        is.held (state_after (stamp_of k event) k (done line c k event)),
        is.cap (state_after (stamp_of k event) k (done line c k event)),
      );
    }

-- # Each step of a sound centre is fair.

pub step_is_fair : (line : Line) (c : ℕ) (k : Centre) (event : Event) → IsLine line → IsCentreSound line c k
    → IsFairAct line c k (came_to line c k event) (state_after (stamp_of k event) k (done line c k event))
    (done line c k event).reply.frames
step_is_fair line c k event ok sound = record {
  rights = λ t. step_fair line c (rights_tally line c t) (rights_counted line c t) k event sound
      (rights_ready line c t k) refl;
  tokens = λ t s. step_fair line c (tokens_tally line c t s) (tokens_counted line (is_ordered line ok) c t s) k event
      sound (tokens_ready line (is_ordered line ok) c t s k) refl;
}
