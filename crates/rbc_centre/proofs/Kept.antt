-- The invariants of a centre.
use Rattle.std.proofs.Common.{◌*◌, ◌+◌, ◌-◌, ◌<◌, ◌∙◌, ◌≡◌, ◌≢◌, ◌≤◌, All, arith, length, List, None, set, slice_get}
use Rattle.std.proofs.Common.{Some, subst, sym, ℕ}
use Rattle.std.proofs.Math.ListN.{length-set}
use Rattle.std.proofs.Math.Logic.{∥∥₁_elim, ∥∥₁_map, ∥∥₁_map₂}
use Rattle.std.proofs.Props.{props}
use Rattle.std.specs.Coded.{le_prop}
use Rattle.law_base.proofs.LocalLemmas.Worlds.{is_ordered}
use Rattle.law_base.specs.Local.Local.{IsOrdered}
use Rattle.law_invariants.proofs.RangesLemmas.Steps.{stays_in_range}
use Rattle.law_invariants.proofs.SoundLemmas.Events.{stays_sound}
use Rattle.law_invariants.proofs.SoundLemmas.Worlds.{range_hand}
use Rattle.law_invariants.specs.Flow.Sound.{IsCentreSound}
use Rattle.law_invariants.specs.Ranges.Ranges.{HasEventRanges, HasStateRanges, IsSentInRange}
use Rattle.law_invariants.specs.Sound.Stays.{IsInRange}
use Rattle.rbc_book.specs.Book.{is_own, Pages}
use Rattle.rbc_centre.proofs.SentFrames.{each_frame_after}
use Rattle.rbc_centre.proofs.States.{each_after, each_train_after, number_within}
use Rattle.rbc_centre.proofs.Steps.{stands_kept}
use Rattle.rbc_centre.specs.declared.centre.Centre.{Centre as CentreCode}
use Rattle.rbc_centre.specs.declared.desk.Desk.{Desk}
use Rattle.rbc_centre.specs.Kept.{AreLinks, AreTrains, IsCentre}
use Rattle.rbc_centre.specs.Posts.{MayPost}
use Rattle.rbc_centre.specs.Ranges.{AreSent-prop}
use Rattle.rbc_centre.specs.State.{IsOfTrain, stands_for}
use Rattle.rbc_centre.specs.States.{state_of}
use Rattle.rbc_link.specs.declared.link.Link.{Link}
use Rattle.rbc_link.specs.declared.sent.Sent.{Sent}
use Rattle.rbc_link.specs.Links.{has_link, KeepsLinks, sent_to}
use Rattle.rbc_link.specs.Outgoing.{frames_by}
use Rattle.rbc_link.specs.Posted.{HasPosted}
use Rattle.rbc_linkmsg.specs.Bodies.{body_of}
use Rattle.rbc_linkmsg.specs.declared.body.Body.{Body}
use Rattle.rbc_session.specs.Sessions.{Records}
use Rattle.rbc_spec.proofs.Lists.{on_line}
use Rattle.rbc_spec.proofs.Runs.{within_from}
use Rattle.rbc_spec.specs.Centre as centre
use Rattle.rbc_spec.specs.Centre.{Mission}
use Rattle.rbc_spec.specs.Frame.{Body as BodySent, HasFrameRanges, last_stamp}
use Rattle.rbc_spec.specs.Line.{IsLine, Line, train_number}
use Rattle.rbc_spec.specs.Outcome.{Outcome}
use Rattle.rbc_spec.specs.Step as step
use Rattle.rbc_spec.specs.Step.{Deliver, Event, Set, Train, Unset}
use Rattle.rbc_train.specs.declared.train.TrainState.{TrainState}
use Rattle.rbc_train.specs.rbc_mission.Supervisions.{HasRouteForm}

-- ## The line

pub ordered_line : (line : Line) → ∥ IsLine line ∥₁ → IsOrdered line
ordered_line line rules = let one : IsProp (IsOrdered line) = hlevel props in ∥∥₁_elim rules one (is_ordered line)

few_sections : (line : Line) → ∥ IsLine line ∥₁ → length line.sections ≤ 512
few_sections line rules = ∥∥₁_elim rules le_prop (λ ok. ok.limits.sections)

-- ## A mission

module _ (line : Line) (c : ℕ) (k : centre.Centre) (rules : ∥ IsLine line ∥₁) (sound : IsCentreSound line c k)
    (ranged : ∥ HasStateRanges line c k ∥₁) (t : ℕ) (m : Mission) (at : k.mission t ≡ Some m) where
  pub route_form : HasRouteForm m
  route_form =
      let hand = (sound.mission t m at).hand in
      let last = m.hand.first + m.hand.count - 1 in
      let some : 1 ≤ m.hand.count = hand.some in
      let low = on_line line m.place.track last
      (hand.on_track last (within_from m.hand last (omega (arith, some)) (omega (arith, some)))) in
      let few = few_sections line rules in
      record {
        some = hand.some;
        most = hand.few;
        numbers = omega (arith, some, low, few);
        few = ∥∥₁_elim ranged le_prop (λ r. (r.mission t m at).pool);
      }

-- ## The links and the trains

-- links that differ only in room and in the counts of taken frames
pub links_still : (line : Line) (c : ℕ) (old new : List (Link Body)) → length new ≡ length old
    → ((d : ℕ) → has_link new d ≡ has_link old d) → ((d : ℕ) → sent_to new d ≡ sent_to old d)
    → AreLinks line c old → AreLinks line c new
links_still line c old new count linked same are = record {
  count = count ∙ are.count;
  linked = λ d. linked d ∙ are.linked d;
  frames =
      ∥∥₁_map are.frames (λ each d. subst (λ (fs : List (Sent Body)). All HasFrameRanges (frames_by body_of fs))
      (sym (same d)) (each d));
}

-- links on which bodies went that may be posted
pub links_posted : (line : Line) (c stamp : ℕ) (bodies : ℕ → List BodySent) (old new : List (Link Body)) → 1 ≤ stamp
    → stamp ≤ last_stamp → ((d : ℕ) → MayPost old d (bodies d))
    → HasPosted body_of stamp bodies old new → AreLinks line c old → AreLinks line c new
links_posted line c stamp bodies old new low high may posted are = record {
  count = posted.count ∙ are.count;
  linked = λ d. posted.linked d ∙ are.linked d;
  frames = ∥∥₁_map are.frames (each_frame_after stamp bodies old new low high may posted);
}

-- trains of which none has changed
pub trains_still : (line : Line) (c before clock : ℕ) (sessions : Records) (states : List TrainState) → before ≤ clock
    → AreTrains line c before sessions states → AreTrains line c clock sessions states
trains_still line c before clock sessions states later are = record {
  count = are.count;
  each = are.each;
  said = λ j p at. let early = are.said j p at in omega (arith, early, later);
}

-- trains of which one has changed
pub trains_set : (line : Line) (c before clock : ℕ) (old new : Records) (states : List TrainState) (t i : ℕ)
    (p q : TrainState) → before < clock → train_number line t ≡ Some i → slice_get states i ≡ Some p
    → q.said ≤ p.said + 2 → IsOfTrain line c new t i q
    → ((u j : ℕ) (r : TrainState) → u ≢ t → IsOfTrain line c old u j r → IsOfTrain line c new u j r)
    → AreTrains line c before old states → AreTrains line c clock new (set states i q)
trains_set line c before clock old new states t i p q later number at few here others are =
    let within = number_within line states t i number are.count in
    record {
      count = length-set states i q ∙ are.count;
      each =
          each_train_after (IsOfTrain line c new) line states t i q within number here
          (λ u j r apart at_u found. others u j r apart (are.each u j r at_u found));
      said = let had = are.said i p at in
          each_after (λ j r. r.said ≤ 2 * clock) states i q within (omega (arith, had, few, later))
          (λ j r apart found. let early = are.said j r found in omega (arith, early, later));
    }

-- ## A step

-- an event in its ranges has a hand in its range
hand_range : (line : Line) (c : ℕ) (event : Event) → HasEventRanges line c event → IsInRange event
hand_range line c (Train m) ranges = tt
hand_range line c (Set s) ranges = tt
hand_range line c (Unset s) ranges = tt
hand_range line c (Deliver d f) ranges = range_hand f.body ranges

-- a step that is not refused leaves a centre
module _ (k : CentreCode) (event : Event) (clock : ℕ) (book : Pages) (desk : Desk) (sessions : Records)
    (links : List (Link Body)) (states : List TrainState) (outcome : Outcome)
    (is : (outcome, stands_for k.line k.number clock book desk links states)
    ≡ step.taken k.line k.number event (state_of k))
    (allowed : step.refusal k.line k.number (state_of k) event ≡ None)
    (ranges : HasEventRanges k.line k.number event) where
  abbrev left : centre.Centre
  left = stands_for k.line k.number clock book desk links states

  sound_left : IsCentreSound k.line k.number left
  sound_left =
      let one : IsProp (IsCentreSound k.line k.number left) = hlevel props in
      ∥∥₁_elim k.rules.line_rules one
      (λ ok. subst (λ (p : Outcome × centre.Centre). IsCentreSound k.line k.number p.1) (sym is)
      (stays_sound k.line ok k.number (state_of k) event (hand_range k.line k.number event ranges)
      k.rules.sound).centre)

  pub left_by : ((s : ℕ) → is_own book s ≡ is_own k.book s) → length desk.registrar ≡ length k.desk.registrar
      → AreLinks k.line k.number links → AreTrains k.line k.number clock sessions states
      → IsCentre k.line k.number clock book desk sessions links states
  left_by homes count all_links all_trains = record {
    line_rules = k.rules.line_rules;
    of_line = k.rules.of_line;
    own_sections = λ s. homes s ∙ k.rules.own_sections s;
    each_right = count ∙ k.rules.each_right;
    all_links = all_links;
    all_trains = all_trains;
    sound = sound_left;
    ranged =
        ∥∥₁_map₂ k.rules.line_rules k.rules.ranged
        (λ ok old. subst (λ (p : Outcome × centre.Centre). HasStateRanges k.line k.number p.1) (sym is)
        (stays_in_range k.line ok k.number (state_of k) event ranges old allowed).centre);
  }

-- more room changes nothing, and so do other records of the same sessions
pub with_room : (k : CentreCode) (sessions : Records) (links : List (Link Body)) → KeepsLinks k.links links
    → ((t i : ℕ) (p : TrainState) → IsOfTrain k.line k.number k.sessions t i p
    → IsOfTrain k.line k.number sessions t i p)
    → IsCentre k.line k.number k.clock k.book k.desk sessions links k.trains.items
with_room k sessions links keeps each =
    let is = stands_kept k.line k.number k.clock k.book k.desk k.links links k.trains.items keeps in
    record {
      line_rules = k.rules.line_rules;
      of_line = k.rules.of_line;
      own_sections = k.rules.own_sections;
      each_right = k.rules.each_right;
      all_links = links_still k.line k.number k.links links keeps.count keeps.linked keeps.sent k.rules.all_links;
      all_trains = record {
        count = k.rules.all_trains.count;
        each = λ t i p number at. each t i p (k.rules.all_trains.each t i p number at);
        said = k.rules.all_trains.said;
      };
      sound = subst (IsCentreSound k.line k.number) (sym is) k.rules.sound;
      ranged = subst (λ (x : centre.Centre). ∥ HasStateRanges k.line k.number x ∥₁) (sym is) k.rules.ranged;
    }

-- its frames are sent on links, and each field has its range
pub sent_in : (line : Line) (c : ℕ) (k : centre.Centre) (event : Event) → ∥ IsLine line ∥₁
    → step.refusal line c k event ≡ None → HasEventRanges line c event → ∥ HasStateRanges line c k ∥₁
    → (d : ℕ)
    → All (IsSentInRange line c d) ((step.effect line c (step.ticked (step.stamp_of k event) k) event).reply.frames d)
sent_in line c k event rules allowed ranges ranged d =
    let one : IsProp (All (IsSentInRange line c d)
    ((step.effect line c (step.ticked (step.stamp_of k event) k) event).reply.frames d)) = AreSent-prop line c d _ in
    ∥∥₁_elim rules one (λ ok. ∥∥₁_elim ranged one
    (λ old. (stays_in_range line ok c k event ranges old allowed).bodies d))
