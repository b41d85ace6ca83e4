-- Each message that changes a mission, and reports of other trains.
use Rattle.std.proofs.Common.{[], ◌&&◌, ◌*◌, ◌-◌, ◌==◌, ◌∙◌, ◌∷◌, ◌≡◌, ap, append_assoc, Bool, false, is_none, List}
use Rattle.std.proofs.Common.{nat_le, None, not, Option, refl, slice_get, Some, subst, sym, true, ℕ}
use Rattle.std.proofs.lemmas.Bool.{and_parts, not-false}
use Rattle.std.proofs.Math.Bool.{and-true}
use Rattle.std.specs.List.{find}
use Rattle.std.specs.Option.{option_map_or}
use Rattle.law_base.proofs.RulesLemmas.Places.{placed_on}
use Rattle.law_invariants.proofs.FlowLemmas.Shown.{heard_then}
use Rattle.law_invariants.specs.Flow.Flow.{Flow}
use Rattle.law_invariants.specs.Flow.Leads.{LeadsHeard, replied}
use Rattle.law_invariants.specs.Flow.Shows.{Shows}
use Rattle.law_invariants.specs.Flow.Sound.{IsFlowSound}
use Rattle.law_refinement.proofs.MissionsLemmas.CutMessages.{granted_answers}
use Rattle.law_refinement.proofs.MissionsLemmas.Ends.{end_answers}
use Rattle.law_refinement.proofs.MissionsLemmas.Grants.{request_answers}
use Rattle.law_refinement.proofs.MissionsLemmas.Heard.{heard_first, shows_then, sound_then, state_then}
use Rattle.law_refinement.proofs.MissionsLemmas.Reports.{report_answers, unsupervised}
use Rattle.law_refinement.specs.Missions.Parts.{at_border_then, border_of, extend, IsInParts, IsOwnStep, IsWhole}
use Rattle.law_refinement.specs.Missions.Parts.{LeadsOnward, of_train, own_end, own_granted, own_report, own_request}
use Rattle.rbc_spec.proofs.Lists.{none_passes, put_there, there_is}
use Rattle.rbc_spec.proofs.Worlds.{alike_then, then_alike}
use Rattle.rbc_spec.specs.Acts.{◌>>◌, Act, hear, rest}
use Rattle.rbc_spec.specs.Centre.{Centre, is_closed, is_up, Mission, Phase, Proposal}
use Rattle.rbc_spec.specs.Line.{end, is_centre, IsLine, Line}
use Rattle.rbc_spec.specs.LineCentre.{hears, is_at, LineMission, LineState, nothing}
use Rattle.rbc_spec.specs.Maps.{has}
use Rattle.rbc_spec.specs.Message.{EndOfMission, is_stale, Report, Request, ShorteningGranted, TrainMessage}
use Rattle.rbc_spec.specs.Outcome.{ForeignEngine, NoPlace, NoSession, NotSupervised, Reason, reasons_of, StaleStamp}
use Rattle.rbc_spec.specs.Outcome.{Unasked, WrongPhase}
use Rattle.rbc_spec.specs.Place.{has_room, Place, place_on, Position}
use Rattle.rbc_spec.specs.Rules.{extended_by, extension, grant, request}
use Rattle.rbc_spec.specs.Run as run
use Rattle.rbc_spec.specs.Run.{has_front_at, listened, may_listen, Steps}
use Rattle.rbc_spec.specs.SectionRuns.{next_after}
use Rattle.rbc_spec.specs.Step.{hear_and_answer, holds, is_awaited, may_request, mission_has, silence, ticked}

-- # Each message that changes a mission is recorded, and its own part is the own step of the one line centre. Its
-- answer
-- is that part and the acts after it.

-- ## Messages that are not silent

pub not_for : (line : Line) (c : ℕ) (k : Centre) (m : TrainMessage) (n : ℕ) (why : Reason) → silence line c k m ≡ None
    → slice_get (reasons_of m.body) n ≡ Some why → holds line c k m why ≡ false
not_for line c k m n why none at = none_passes (holds line c k m) (reasons_of m.body) n why none at

module _ (line : Line) (c t_train t : ℕ) (k : Centre) where
  pub supervised_end : (position : Position) → silence line c k (of_train t_train t (EndOfMission position)) ≡ None
      → (m : Mission) × (k.mission t ≡ Some m)
  supervised_end position none =
      there_is (k.mission t) (not_for line c k (of_train t_train t (EndOfMission position)) 4 NotSupervised none refl)

  -- a granted shortening answers a request
  pub asked : (stamp : ℕ) (position : Position)
      → silence line c k (of_train t_train t (ShorteningGranted stamp position)) ≡ None → (m : Mission)
      × (k.mission t ≡ Some m) × (p : Proposal) × (m.proposal ≡ Some p)
  asked stamp position none =
      let at = there_is (k.mission t) (not_for line c k (of_train t_train t (ShorteningGranted stamp position)) 4
      NotSupervised none refl) in
      let answers : has (λ (p : Proposal). p.stamp == stamp) (at.0).proposal ≡ true =
      sym (ap (mission_has (λ n. has (λ p. p.stamp == stamp) n.proposal)) at.1)
      ∙ not-false (mission_has (λ n. has (λ p. p.stamp == stamp) n.proposal) (k.mission t))
      (not_for line c k (of_train t_train t (ShorteningGranted stamp position)) 5 Unasked none refl) in
      let stands = by_proposal (at.0).proposal answers in
      (at.0, at.1, stands.0, stands.1)
    where
      by_proposal : (o : Option Proposal) → has (λ (p : Proposal). p.stamp == stamp) o ≡ true
          → (p : Proposal) × (o ≡ Some p)
      by_proposal None is = cc
      by_proposal (Some p) is = (p, refl)

  -- a request has its place, and room for the hand
  pub record Placed (position : Position) : Type 0 where
    pub m : Mission
    pub at : k.mission t ≡ Some m
    pub place : Place
    pub on : place_on line m.place.track position ≡ Some place
    pub near : has_room line place (end line (next_after m.hand - 1)) ≡ true

  pub has_place_for : (position : Position) → silence line c k (of_train t_train t (Request position)) ≡ None
      → Placed position
  has_place_for position none =
      let at = there_is (k.mission t) (not_for line c k (of_train t_train t (Request position)) 4
      NotSupervised none refl) in
      let fails : not (may_request line at.0 position) ≡ false =
      sym (ap (mission_has (λ n. not (may_request line n position))) at.1)
      ∙ not_for line c k (of_train t_train t (Request position)) 8 NoPlace none refl in
      by_place at.0 at.1 (place_on line (at.0).place.track position) refl
      (not-false (may_request line at.0 position) fails)
    where
      by_place : (m : Mission) → k.mission t ≡ Some m → (o : Option Place) → place_on line m.place.track position ≡ o
          → option_map_or (λ place. nat_le place.front (10 * end line (next_after m.hand - 1))
          && has_room line place (end line (next_after m.hand - 1))) o false ≡ true → Placed position
      by_place m at None on passes = cc
      by_place m at (Some place) on passes =
          record {
            m = m;
            at = at;
            place = place;
            on = on;
            near = (and_parts (nat_le place.front (10 * end line (next_after m.hand - 1)))
                (has_room line place (end line (next_after m.hand - 1))) passes).1;
          }

-- ## The own step

module _ (line : Line) (ok : IsLine line) (c t_train t : ℕ) (position : Position) where
  -- a fact of the centre before the message is recorded holds after that
  then_at : (w : Flow) (stamp : ℕ) (m : TrainMessage) (n : Mission) → (w.at c).mission t ≡ Some n
      → ((replied w c (hear m (ticked stamp (w.at c)))).at c).mission t ≡ Some n
  then_at w stamp m n at = ap (λ (x : Centre). x.mission t) (state_then w c (hear m (ticked stamp (w.at c)))) ∙ at

  pub report_is_own : IsOwnStep line c (of_train t_train t (Report position)) (own_report line c t position)
  report_is_own w v stamp sound sees to none = let m = of_train t_train t (Report position) in
      heard_first line w sound v sees c to stamp m (own_report line c t position)
      (report_answers line ok (replied w c (hear m (ticked stamp (w.at c))))
      (sound_then line w sound v sees c to stamp m) (hears c m v) (shows_then line w sound v sees c to stamp m)
      c to t_train t position)

  pub end_is_own : IsOwnStep line c (of_train t_train t (EndOfMission position)) (own_end line c t position)
  end_is_own w v stamp sound sees to none = let m = of_train t_train t (EndOfMission position) in
      let here = supervised_end line c t_train t (ticked stamp (w.at c)) position none in
      heard_first line w sound v sees c to stamp m (own_end line c t position)
      (end_answers line ok (replied w c (hear m (ticked stamp (w.at c)))) (sound_then line w sound v sees c to stamp m)
      (hears c m v) (shows_then line w sound v sees c to stamp m) c to t_train t position
      here.0 (then_at w stamp m here.0 here.1))

  pub granted_is_own : (proposal : ℕ) → IsOwnStep line c (of_train t_train t (ShorteningGranted proposal position))
      (own_granted line c t position)
  granted_is_own proposal w v stamp sound sees to none = let m =
      of_train t_train t (ShorteningGranted proposal position) in
      let here = asked line c t_train t (ticked stamp (w.at c)) proposal position none in
      heard_first line w sound v sees c to stamp m (own_granted line c t position)
      (granted_answers line ok (replied w c (hear m (ticked stamp (w.at c))))
      (sound_then line w sound v sees c to stamp m) (hears c m v) (shows_then line w sound v sees c to stamp m) c to
      t_train t proposal position
      here.0 (then_at w stamp m here.0 here.1) here.2 here.3)

  pub request_is_own : IsOwnStep line c (of_train t_train t (Request position)) (own_request line c t position)
  request_is_own w v stamp sound sees to none = let m = of_train t_train t (Request position) in
      let here = has_place_for line c t_train t (ticked stamp (w.at c)) position none in
      heard_first line w sound v sees c to stamp m (own_request line c t position)
      (request_answers line ok (replied w c (hear m (ticked stamp (w.at c))))
      (sound_then line w sound v sees c to stamp m) (hears c m v) (shows_then line w sound v sees c to stamp m)
      c to t_train t position
      here.m (then_at w stamp m here.m here.at) here.place here.on here.near)

-- ## In parts

pub then_then : (a b d : Act) (k : Centre) → ((a >> b) >> d) k ≡ (a >> (b >> d)) k
unfolding ◌>>◌
then_then a b d k = λ i. record {
  state = (d (b (a k).state).state).state;
  frames = λ e. append_assoc ((a k).frames e) ((b (a k).state).frames e) ((d (b (a k).state).state).frames e) i;
  sayings = append_assoc (a k).sayings (b (a k).state).sayings (d (b (a k).state).state).sayings i;
  words = append_assoc (a k).words (b (a k).state).words (d (b (a k).state).state).words i;
}

-- an act after the recorded message that is two acts
in_two : (m : TrainMessage) (whole own later : Act) (k : Centre)
    → whole (hear m k).state ≡ (own >> later) (hear m k).state → (hear m >> whole) k ≡ ((hear m >> own) >> later) k
in_two m whole own later k same = then_alike (hear m) whole (own >> later) k same ∙ sym (then_then (hear m) own later k)

grant_parts : (line : Line) (c t : ℕ) (m : Mission) (k : Centre)
    → grant line c t m k ≡ (extend line c t m >> border_of line c t m.place.track) k
unfolding ◌>>◌
grant_parts line c t m k = refl

extended_so : (line : Line) (c t : ℕ) (m : Mission) (k : Centre)
    → (extend line c t m k).state.mission t ≡ Some (extended_by (extension line c k m) m)
unfolding ◌>>◌
extended_so line c t m k = put_there k.mission t (Some (extended_by (extension line c k m) m))

module _ (line : Line) (c t_train t : ℕ) (position : Position) where
  pub report_is_whole : IsWhole line c (of_train t_train t (Report position)) (own_report line c t position)
  report_is_whole k none = refl

  pub end_is_whole : IsWhole line c (of_train t_train t (EndOfMission position)) (own_end line c t position)
  end_is_whole k none = refl

  pub granted_is_whole : (stamp : ℕ) → IsWhole line c (of_train t_train t (ShorteningGranted stamp position))
      (own_granted line c t position)
  granted_is_whole stamp k none = refl

  pub request_in_parts : IsInParts line c (of_train t_train t (Request position)) (own_request line c t position)
      (at_border_then line c t position)
  request_in_parts k none =
      let m = of_train t_train t (Request position) in
      let here = has_place_for line c t_train t k position none in
      in_two m (request line c t position) (own_request line c t position) (at_border_then line c t position) k
      (both_so (hear m k).state here.m here.at here.place here.on)
    where
      both_so : (j : Centre) (n : Mission) → j.mission t ≡ Some n → (place : Place)
          → place_on line n.place.track position ≡ Some place
          → request line c t position j ≡ (own_request line c t position >> at_border_then line c t position) j
      both_so j n at place on =
          ap (λ (o : Option Mission). option_map_or
          (λ x. option_map_or (λ p. grant line c t (record x { place = p }))
          (place_on line x.place.track position) rest j) o (rest j)) at
          ∙ ap (λ (o : Option Place). option_map_or (λ p. grant line c t (record n { place = p })) o rest j) on
          ∙ grant_parts line c t placed j
          ∙ then_alike (extend line c t placed) (border_of line c t place.track)
          (at_border_then line c t position) j (sym border)
          ∙ sym (alike_then (own_request line c t position) (extend line c t placed)
          (at_border_then line c t position) j
          (ap (λ (o : Option Mission). option_map_or
          (λ x. option_map_or (λ p. extend line c t (record x { place = p }))
          (place_on line x.place.track position) rest j) o (rest j)) at
          ∙ ap (λ (o : Option Place). option_map_or (λ p. extend line c t (record n { place = p })) o rest j) on))
        where
          placed : Mission
          placed = record n { place = place }

          left : Centre
          left = (extend line c t placed j).state

          border : at_border_then line c t position left ≡ border_of line c t place.track left
          border = ap (λ (o : Option Mission). option_map_or
              (λ x. option_map_or (λ p. border_of line c t p.track) (place_on line x.place.track position) rest left) o
              (rest left)) (extended_so line c t placed j)
              ∙ ap (λ (o : Option Place). option_map_or (λ p. border_of line c t p.track) o rest left)
              (ap (λ track. place_on line track position) (placed_on line n.place.track position place on).track_is
              ∙ on)

-- ## The whole answer

-- an own step, and the acts after it
pub whole_is_heard : (line : Line) (c : ℕ) (m : TrainMessage) (own later : Act) → IsOwnStep line c m own
    → IsInParts line c m own later → LeadsOnward line c later
    → (w : Flow) (v : LineState) (stamp : ℕ) → IsFlowSound line w → Shows line w v → is_centre line c ≡ true
    → silence line c (ticked stamp (w.at c)) m ≡ None
    → LeadsHeard line w c m (hear_and_answer line c m (ticked stamp (w.at c))) v
whole_is_heard line c m own later is parts leads w v stamp sound sees to none =
    let k = ticked stamp (w.at c) in
    let one = is w v stamp sound sees to none in
    subst (λ r. LeadsHeard line w c m r v) (sym (parts k none)) (heard_then line w c m k v (hear m >> own) later one
    (leads (replied w c ((hear m >> own) k)) one.mid ((hear m >> own) k).state one.sound one.shows
    (state_then w c ((hear m >> own) k))))

-- # A report that this centre answers of a train that it does not supervise: the one line centre listens.

-- the fifth item is found if it passes and none before it does
fifth_found : {X : Type 0} (test : X → Bool) (a b d e f : X) (xs : List X) → test a ≡ false → test b ≡ false
    → test d ≡ false → test e ≡ false → test f ≡ true → find test (a ∷ b ∷ d ∷ e ∷ f ∷ xs) ≡ Some f
fifth_found test a b d e f xs one two three four five = rw one (rw two (rw three (rw four (rw five refl))))

-- a train without a supervisor is awaited, if that is not a reason of silence
awaited_so : (a b : Bool) → a ≡ true → (a && not b) ≡ false → b ≡ true
awaited_so true true is fails = refl
awaited_so true false is fails = sym fails
awaited_so false b is fails = cc

module _ (line : Line) (ok : IsLine line) (w : Flow) (sound : IsFlowSound line w) (v : LineState)
    (sees : Shows line w v) (c : ℕ) (to : is_centre line c ≡ true) (t_train t stamp : ℕ) (position : Position)
    (none : (w.at c).mission t ≡ None) (heard : silence line c (ticked stamp (w.at c))
    (of_train t_train t (Report position)) ≡ None) where
  abbrev m : TrainMessage
  m = of_train t_train t (Report position)

  abbrev k : Centre
  k = ticked stamp (w.at c)

  awaited : is_awaited line c k t position ≡ true
  awaited = awaited_so (is_none ((w.at c).mission t)) (is_awaited line c k t position) (ap is_none none)
      (not_for line c k m 4 NotSupervised heard refl)

  second_of : (a b : Bool) → (a && b) ≡ true → b ≡ true
  second_of true b is = is
  second_of false b is = cc

  silent_for : run.silence line v c m ≡ Some NotSupervised
  silent_for = fifth_found (run.holds line v c m m.body) ForeignEngine StaleStamp NoSession WrongPhase
      NotSupervised (NoPlace ∷ [])
      (not_for line c k m 0 ForeignEngine heard refl)
      (ap (is_stale t_train) (sees.heard t c) ∙ not_for line c k m 1 StaleStamp heard refl)
      (ap is_closed (sees.phase t c) ∙ not_for line c k m 2 NoSession heard refl)
      (ap (λ (phase : Phase). not (is_up phase)) (sees.phase t c) ∙ not_for line c k m 3 WrongPhase heard refl)
      (ap not (ap (λ (test : LineMission → Bool). has test (v.mission t)) (λ i n. and-true (is_at c n.supervisor) i)
      ∙ unsupervised line ok w sound v sees c t to none))

  pub listens : Steps line v c m nothing (hears c m v) None
  listens = listened (ap (may_listen line c m.body) silent_for
      ∙ second_of _ (has_front_at line c position) awaited) refl refl refl
