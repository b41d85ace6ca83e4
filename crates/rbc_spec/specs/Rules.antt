-- The rules of a centre: the acts with which it answers each event.
use Rattle.std.specs.Option.{option_map_or}
use Rattle.std.specs.Prelude.{[], if◌then◌else◌, ◌&&◌, ◌*◌, ◌+◌, ◌-◌, ◌==◌, ◌||◌, ◌∷◌, Bool, false, is_none, nat_le}
use Rattle.std.specs.Prelude.{nat_lt, None, not, option_map, Some, true, ℕ}
use Rattle.rbc_spec.specs.Acts.{◌>>◌, Act, announce, ask_route, become, begun, booked, cancel, change_mission, close}
use Rattle.rbc_spec.specs.Acts.{freed, leave, part_at, rest, return_pool, say, send, set_mission, where_so}
use Rattle.rbc_spec.specs.Acts.{with_mission, with_some}
use Rattle.rbc_spec.specs.Centre.{Centre, Closed, Expectation, is_free, is_open, is_registrar_of, is_taken_for, Mission}
use Rattle.rbc_spec.specs.Centre.{Opened, Phase, Proposal, Taken, Up}
use Rattle.rbc_spec.specs.Frame.{AskRight, TakingOver}
use Rattle.rbc_spec.specs.Line.{end, is_centre, is_home, Line, next_centre, registrar, start}
use Rattle.rbc_spec.specs.Maps.{has, put}
use Rattle.rbc_spec.specs.Message.{Authority, DataAcknowledged, EndOfMission, InitiationOfSession, Report, Request}
use Rattle.rbc_spec.specs.Message.{SessionEstablished, ShorteningGranted, ShorteningRejected, StartOfMission}
use Rattle.rbc_spec.specs.Message.{SystemVersion, TerminationAcknowledged, TerminationOfSession, TrainAccepted}
use Rattle.rbc_spec.specs.Message.{TrainBody, TrainData, TrainMessage, TrainRejected, unknown_group}
use Rattle.rbc_spec.specs.Outcome.{Word}
use Rattle.rbc_spec.specs.Place.{covered, fit_place, group_start, has_room, is_cleared, Place, place_on, Position}
use Rattle.rbc_spec.specs.SectionRuns.{all_of, is_empty, joined, longest, most_in_hand, next_after, no_run, part_before}
use Rattle.rbc_spec.specs.SectionRuns.{part_from, passing, SectionRun, within}
use Rattle.rbc_spec.specs.Sections.{is_on}

-- a reply to the interlocking
abbrev pub tell : Word → Act
tell word k = record { state = k; frames = λ d. []; sayings = []; words = word ∷ [] }

-- one act if the test holds of the state, else the other
abbrev pub choose : (Centre → Bool) → Act → Act → Act
choose test yes_act no_act k = if test k then yes_act k else no_act k

-- ## Sessions (3.5.3, 3.5.5)

-- a waiting start of mission is dropped, and its sections are given back
-- Rules: SE-4
abbrev pub drop_wait : Line → ℕ → ℕ → Act
drop_wait line c t = with_some (λ k. k.wait t) (λ place.
    freed line c (is_taken_for t) (covered line place) >> become (λ k. record k { wait = put k.wait t None }))

abbrev pub set_phase : ℕ → Phase → Act
set_phase t phase = become (λ k. record k { phase = put k.phase t phase })

-- Closes a session. A pending request to shorten and a waiting start of mission end with it.
-- Rules: SE-4, SE-5
abbrev pub close_session : Line → ℕ → ℕ → Act
close_session line c t =
    (set_phase t Closed >> change_mission t (λ m. record m { proposal = None })) >> drop_wait line c t

-- ## Start of mission (5.4)

abbrev pub accept : ℕ → Act
accept t = say t unknown_group TrainAccepted

abbrev pub reject : ℕ → Act
reject t = say t unknown_group TrainRejected

-- A start of mission of a train that has a mission here. If its place covers only sections of the hand, the mission
-- goes on from that place, and the train must send its train data again. Else the train is rejected.
-- Rules: SM-4
abbrev pub restart : Line → ℕ → Place → Mission → Act
restart line t place m =
    if all_of (within m.hand) (covered line place)
    then (change_mission t (λ n. record n { place = place; has_data = false; is_ended = false; proposal = None })
    >> accept t)
    else reject t

-- the mission begins; the sections of its place are in use for the train already
abbrev pub begin : Line → ℕ → Place → Act
begin line t place = set_mission t (Some (begun line place)) >> accept t

-- a start at the registrar: the mission takes the right, if that is here, and else the train is rejected
-- Rules: SM-6
abbrev pub start_here : Line → ℕ → Place → Act
start_here line t place =
    choose (λ k. k.has_right t)
    ((booked is_open (Taken t) (covered line place) >> become (λ k. record k { has_right = put k.has_right t false }))
    >> begin line t place)
    (reject t)

-- a start at another centre: its sections are taken, and it waits for the right, for which the registrar is asked once
-- Rules: SM-7
abbrev pub start_waiting : Line → ℕ → Place → Act
start_waiting line t place =
    (booked is_open (Taken t) (covered line place) >> become (λ k. record k { wait = put k.wait t (Some place) }))
    >> where_so (λ k. not (k.has_asked t))
    (option_map_or (λ r. send r (AskRight t)) (registrar line t) rest
    >> become (λ k. record k { has_asked = put k.has_asked t true }))

-- Rules: SM-5
abbrev pub start_new : Line → ℕ → ℕ → Place → Act
start_new line c t place =
    choose (λ k. all_of (is_free line c k) (covered line place))
    (if is_registrar_of line c t then start_here line t place else start_waiting line t place)
    (reject t)

-- Rules: SM-2, SM-3
abbrev pub start_mission : Line → ℕ → ℕ → Bool → Position → Act
start_mission line c t is_valid position k =
    option_map_or
    (λ place. option_map_or (λ m. restart line t place m k) (k.mission t) (start_new line c t place k))
    (fit_place line is_valid position)
    (reject t k)

-- ## Request (3.8)

-- L_ENDSECTION of an authority for the hand, in metres from the group of the mission's place
-- Rules: MA-5
abbrev pub authority : Line → Mission → ℕ
authority line m = end line (next_after m.hand - 1) - group_start line m.place

-- a section may extend the hand if it is on the track, free here or in the pool, and ends within the range of
-- L_ENDSECTION
-- Rules: MA-2, MA-3
abbrev pub may_follow : Line → ℕ → Centre → Mission → ℕ → Bool
may_follow line c k m s =
    (is_on line m.place.track s && (is_free line c k s || within m.pool s)) && has_room line m.place (end line s)

-- the longest run of sections in advance of the hand that may extend it, within the room that the hand has
-- Rules: MA-1, MA-3
abbrev pub extension : Line → ℕ → Centre → Mission → SectionRun
extension line c k m =
    record {
      first = next_after m.hand;
      count = longest (may_follow line c k m) (next_after m.hand) (most_in_hand - m.hand.count);
    }

-- the mission with the extended hand; sections of the run leave the pool
-- Rules: MA-4
abbrev pub extended_by : SectionRun → Mission → Mission
extended_by r m =
    record m { hand = joined m.hand r; pool = if is_empty m.pool then m.pool else part_from (next_after r) m.pool }

-- announces a handover to centre d, if none is pending and the hand has a section of home d
-- Rules: HO-1
abbrev pub announce_if_due : Line → ℕ → ℕ → Act
announce_if_due line t d = with_mission t (λ m.
    where_so (λ k. is_none m.handing && not (is_empty (part_at line d m.place.track m.hand)))
    (announce line t m.place.group d m))

-- Asks for more sections if the section in advance of the hand is on the track and of home d. Besides, the hand has
-- room, the pool is empty, and no request for sections is pending.
-- Rules: RT-1
abbrev pub ask_route_if_due : Line → ℕ → ℕ → Act
ask_route_if_due line t d = with_mission t (λ m. where_so
    (λ k. ((is_home line d (next_after m.hand) && is_on line m.place.track (next_after m.hand))
    && nat_lt m.hand.count most_in_hand) && (is_empty m.pool && is_none (k.route_ask t)))
    (ask_route t d m))

-- the acts at the border to centre d, after an extension
abbrev pub at_border : Line → ℕ → ℕ → ℕ → Act
at_border line c t d = announce_if_due line t d >> ask_route_if_due line t d

-- Rules: MA-5
abbrev pub grant : Line → ℕ → ℕ → Mission → Act
grant line c t m k =
    let r = extension line c k m in
    let n = extended_by r m in
    (((booked is_open (Taken t) r >> set_mission t (Some n)) >> say t m.place.group (Authority (authority line n)))
    >> option_map_or (at_border line c t) (next_centre line c m.place.track) rest) k

-- Rules: MA-1
abbrev pub request : Line → ℕ → ℕ → Position → Act
request line c t position = with_mission t (λ m.
    option_map_or (λ place. grant line c t (record m { place = place })) (place_on line m.place.track position) rest)

-- ## Report (3.6.5)

-- the first sections of the hand that the train has cleared
-- Rules: PR-2
abbrev pub cleared : Line → Place → Mission → SectionRun
cleared line place m = record { first = m.hand.first; count = passing (is_cleared line place) m.hand }

-- The mission gets the new place, and the cleared sections leave the hand. If all sections of the hand are cleared, the
-- mission is closed.
-- Rules: PR-1, PR-2, PR-4
abbrev pub clear : Line → ℕ → ℕ → Mission → Place → Act
clear line c t m place =
    let r = cleared line place m in
    if r.count == m.hand.count
    then (leave line c t m.place.track (joined m.hand m.pool) >> close line c t m)
    else (leave line c t m.place.track r
    >> set_mission t (Some (record m { place = place; hand = part_from (next_after r) m.hand })))

abbrev pub report_here : Line → ℕ → ℕ → Position → Mission → Act
report_here line c t position m = option_map_or (clear line c t m) (place_on line m.place.track position) rest

abbrev pub taking : Expectation → Expectation
taking e = record e { is_taking = true }

-- reports TakingOver to each centre that has announced the train and has not had this report yet
-- Rules: PR-5
abbrev pub take_over : Line → ℕ → Act
take_over line t k =
    let is_new : ℕ → Bool = λ d. is_centre line d && has (λ e. not e.is_taking) (k.expects d t) in
    record {
      state = record k {
        expects = λ d. if is_new d then put (k.expects d) t (option_map taking (k.expects d t))
            else k.expects d;
      };
      frames = λ d. option_map_or (λ e. if is_new d then TakingOver e.number t ∷ [] else []) (k.expects d t) [];
      sayings = [];
      words = [];
    }

-- Rules: PR-1
abbrev pub report : Line → ℕ → ℕ → Position → Act
report line c t position k =
    option_map_or (λ m. report_here line c t position m k) (k.mission t) (take_over line t k)

-- ## Shortening (3.8.6)

-- Cuts the hand after the last section that is kept, and takes all of the pool off. If no section is kept, the mission
-- is closed. A handover is cancelled if the hand has no section of its accepting centre left.
-- Rules: CS-4, CS-5
abbrev pub cut : Line → ℕ → ℕ → ℕ → Mission → Act
cut line c t last_kept m =
    let tail = part_from (last_kept + 1) m.hand in
    let kept = record m { hand = part_before (last_kept + 1) m.hand; pool = no_run; proposal = None } in
    leave line c t m.place.track (joined tail m.pool)
    >> (if tail.count == m.hand.count then close line c t m
    else (set_mission t (Some kept)
    >> option_map_or (λ h. if is_empty (part_at line h.to m.place.track kept.hand) then cancel t kept
    else rest) m.handing rest))

-- The train has granted the shortening. The hand is cut if the reported front is not past the proposed end.
-- Rules: CS-3, CS-4, CS-6
abbrev pub granted : Line → ℕ → ℕ → Position → Mission → Proposal → Act
granted line c t position m p =
    change_mission t (λ n. record n { proposal = None })
    >> option_map_or
    (λ place. if nat_le place.front (10 * end line p.last_kept) then cut line c t p.last_kept m else rest)
    (place_on line m.place.track position) rest

-- Rules: CS-3
abbrev pub answer_granted : Line → ℕ → ℕ → Position → Act
answer_granted line c t position = with_mission t (λ m. with_some (λ k. m.proposal) (granted line c t position m))

-- ## End of mission (5.5)

-- how many of the first sections of the hand start before the front
abbrev pub reached : Line → Place → Mission → ℕ
reached line place m = passing (λ s. nat_lt (10 * start line s) place.front) m.hand

-- cuts the sections of the hand that start at the front or past it, if the train has reached the hand
-- Rules: EM-2
abbrev pub cut_ahead : Line → ℕ → ℕ → Mission → Place → Act
cut_ahead line c t m place =
    let n = reached line place m in
    if (n == 0) || (n == m.hand.count) then rest else cut line c t (m.hand.first + n - 1) m

-- a train that ends its mission at standstill will not use the sections ahead of it
-- Rules: EM-2
abbrev pub stand_still : Line → ℕ → ℕ → Position → Mission → Act
stand_still line c t position m =
    if position.v_train == 0 then option_map_or (cut_ahead line c t m) (place_on line m.place.track position) rest
    else rest

-- Rules: EM-1, EM-3
abbrev pub end_mission : Line → ℕ → ℕ → Position → Act
end_mission line c t position =
    (with_mission t (report_here line c t position)
    >> with_mission t (stand_still line c t position))
    >> with_mission t (λ m. return_pool line c t m
    >> change_mission t (λ n. record n { is_ended = true; proposal = None }))

-- ## The answer to each message of a train

-- Rules: SE-1, SE-2, SE-3, TD-1, MA-1, CS-6
abbrev pub answered : Line → ℕ → TrainMessage → TrainBody → Act
answered line c m (TrainData position) =
    change_mission m.nid_engine (λ n. record n { has_data = true })
    >> say m.nid_engine unknown_group (DataAcknowledged m.t_train)
answered line c m (Request position) = request line c m.nid_engine position
answered line c m (Report position) = report line c m.nid_engine position
answered line c m (ShorteningGranted stamp position) = answer_granted line c m.nid_engine position
answered line c m (ShorteningRejected stamp position) = change_mission m.nid_engine (λ n. record n { proposal = None })
answered line c m (EndOfMission position) = end_mission line c m.nid_engine position
answered line c m InitiationOfSession =
    (close_session line c m.nid_engine >> set_phase m.nid_engine Opened) >> say m.nid_engine unknown_group SystemVersion
answered line c m TerminationOfSession =
    close_session line c m.nid_engine >> say m.nid_engine unknown_group TerminationAcknowledged
answered line c m (StartOfMission is_valid position) = start_mission line c m.nid_engine is_valid position
answered line c m SessionEstablished = set_phase m.nid_engine Up
