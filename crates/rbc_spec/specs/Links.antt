-- The rules for a frame that is the next of its link. A frame has no effect if its body names an engine, section, track
-- or group that is not of the line. Nor has it one if no rule below gives it one.
use Rattle.std.specs.List.{find, range_with_len}
use Rattle.std.specs.Option.{option_map_or}
use Rattle.std.specs.Prelude.{if◌then◌else◌, ◌&&◌, ◌*◌, ◌==◌, Bool, false, is_none, is_some, length, max, nat_le}
use Rattle.std.specs.Prelude.{nat_lt, None, not, Option, Some, ℕ}
use Rattle.rbc_spec.specs.Acts.{◌>>◌, Act, become, booked, change_mission, end_order, freed, propose_if_so, rest}
use Rattle.rbc_spec.specs.Acts.{return_right, returned, send, set_mission, where_so, with_mission, with_some, yield}
use Rattle.rbc_spec.specs.Centre.{Centre, Expectation, is_expected, is_free, is_open, is_out_for, is_registrar_of}
use Rattle.rbc_spec.specs.Centre.{Mission, Out, Taken, uses_some}
use Rattle.rbc_spec.specs.Frame.{Announce, AskRight, Body, Cancel, carried_place, GiveRight, RefuseRight, ReturnRight}
use Rattle.rbc_spec.specs.Frame.{RouteAsk, RouteInfo, RouteReturn, RouteWithdraw, TakingOver, Yield}
use Rattle.rbc_spec.specs.Line.{is_home, Line, next_centre, section, section_of_group, train_number}
use Rattle.rbc_spec.specs.Maps.{has, put, put_pair}
use Rattle.rbc_spec.specs.Place.{group_start, Place}
use Rattle.rbc_spec.specs.Rules.{begin, choose, drop_wait, reject}
use Rattle.rbc_spec.specs.SectionRuns.{all_of, is_empty, longest, next_after, no_run, part_before, part_from}
use Rattle.rbc_spec.specs.SectionRuns.{SectionRun, within}
use Rattle.rbc_spec.specs.Sections.{is_on, is_on_track}

-- the run is of sections of the line, all on one track
abbrev pub is_of_line : Line → SectionRun → Bool
is_of_line line r = has (λ p. is_on_track line p.track r) (section line r.first)

-- ## Rights (profile)

-- the registrar gives the right if it has it, and refuses it if not
-- Rules: RG-2
abbrev pub right_asked : Line → ℕ → ℕ → ℕ → Act
right_asked line c d t = where_so (λ k. is_registrar_of line c t)
    (choose (λ k. k.has_right t)
    (become (λ k. record k { has_right = put k.has_right t false }) >> send d (GiveRight t))
    (send d (RefuseRight t)))

abbrev pub answered_ask : ℕ → Act
answered_ask t = become (λ k. record k { has_asked = put k.has_asked t false })

-- The right that was asked for arrives. If a start waits and the train has no mission here, the start becomes a
-- mission. Else the right goes back to its registrar.
-- Rules: RG-3, RG-4
abbrev pub right_given : Line → ℕ → ℕ → Act
right_given line c t = where_so (λ k. k.has_asked t) (answered_ask t >> choose
    (λ k. is_some (k.wait t) && is_none (k.mission t))
    (with_some (λ k. k.wait t) (λ place. become (λ k. record k { wait = put k.wait t None }) >> begin line t place))
    (return_right line c t))

-- Rules: RG-3, RG-5
abbrev pub right_refused : Line → ℕ → ℕ → Act
right_refused line c t =
    where_so (λ k. k.has_asked t)
    (answered_ask t >> where_so (λ k. is_some (k.wait t)) (drop_wait line c t >> reject t))

-- the registrar gets the right back, unless the right is there already, or in a mission there
-- Rules: RG-6
abbrev pub right_returned : Line → ℕ → ℕ → Act
right_returned line c t =
    where_so (λ k. is_registrar_of line c t && (not (k.has_right t) && is_none (k.mission t))) (return_right line c t)

-- ## Route Related Information

-- the sections that can be lent: the longest run of free home sections from `first` on, on one track, at most `most`
-- Rules: RT-2
abbrev pub lendable : Line → ℕ → Centre → ℕ → ℕ → SectionRun
lendable line c k first most =
    record {
      first = first;
      count = longest (λ s. is_free line c k s && has (λ p. is_on line p.track s) (section line first)) first most;
    }

-- Rules: RT-2
abbrev pub route_asked : Line → ℕ → ℕ → ℕ → ℕ → ℕ → Act
route_asked line c d t first most k =
    let r = lendable line c k first most in
    (where_so (λ j. is_some (section line first)) (booked is_open (Out t) r >> send d (RouteInfo t r))) k

-- the mission can use lent sections: they follow its hand at once, on its track, it is not ended, and its pool is empty
-- Rules: RT-4
abbrev pub is_wanted : Line → SectionRun → Mission → Bool
is_wanted line r m =
    ((r.first == next_after m.hand) && is_on line m.place.track r.first) && (not m.is_ended && is_empty m.pool)

-- The answer to the pending request for these sections, all of them of the sender's home. The mission's pool becomes
-- these sections, if the mission can use them; else they are returned.
-- Rules: RT-3, RT-4
abbrev pub route_told : Line → ℕ → ℕ → ℕ → SectionRun → Act
route_told line c d t r = where_so
    (λ k. (has (λ first. first == r.first) (k.route_ask t) && (is_of_line line r && is_home line d r.first))
    && all_of (is_home line d) r)
    (become (λ k. record k { route_ask = put k.route_ask t None })
    >> choose (λ k. has (is_wanted line r) (k.mission t))
    (change_mission t (λ m. record m { pool = r }))
    (if is_empty r then rest else send d (RouteReturn t r)))

-- The interlocking of another centre wishes a lent section back. If the section is in the pool, the pool is returned
-- from that section on. Else a request to shorten the hand is sent, if it may be.
-- Rules: IL-8, RT-5
abbrev pub route_withdrawn : Line → ℕ → ℕ → ℕ → Act
route_withdrawn line c t s = with_mission t (λ m.
    if within m.pool s
    then (returned line c t m.place.track (part_from s m.pool)
    >> change_mission t (λ n. record n { pool = part_before s n.pool }))
    else propose_if_so line t s)

-- Lent sections are returned and given back. If this centre then has nothing more of the train and does not expect it,
-- the train is ordered to end the session.
-- Rules: IL-8, RT-6, RT-7
abbrev pub route_returned : Line → ℕ → ℕ → SectionRun → Act
route_returned line c t r =
    freed line c (is_out_for t) r
    >> where_so (λ k. not (uses_some line c k t)
    && ((is_none (k.mission t) && is_none (k.wait t)) && not (is_expected line k t))) (end_order line c t)

-- ## Handover

abbrev pub expect : ℕ → ℕ → Option Expectation → Act
expect d t e = become (λ k. record k { expects = put_pair k.expects d t e })

-- Rules: HO-3
abbrev pub announced : ℕ → ℕ → ℕ → Act
announced d number t =
    where_so (λ k. is_none (k.expects d t)) (expect d t (Some (record { number = number; is_taking = false })))

abbrev pub is_under : ℕ → Option Expectation → Bool
is_under number e = has (λ x. x.number == number) e

-- Rules: HO-4
abbrev pub cancelled : ℕ → ℕ → ℕ → Act
cancelled d number t = where_so (λ k. is_under number (k.expects d t)) (expect d t None)

-- the handover of this number to centre d: the supervision is yielded
-- Rules: HO-5
abbrev pub taking_over : Line → ℕ → ℕ → ℕ → ℕ → Act
taking_over line c d number t = with_mission t (λ m. with_some (λ k. m.handing) (λ h.
    where_so (λ k. (h.number == number) && (h.to == d)) (yield line c t m h)))

-- A section of a yielded hand is valid if it is an own section that is out for the train. A section of another home is
-- valid unless its home is the centre after this one.
-- Rules: HO-9
abbrev pub may_arrive : Line → ℕ → Centre → ℕ → ℕ → ℕ → Bool
may_arrive line c k t track s =
    if is_home line c s then is_out_for t (k.book s)
    else has (λ p. not (has (λ n. n == p.home) (next_centre line c track))) (section line s)

-- A Yield is accepted if all of this holds. Its number is that of the announced handover, and this centre has replied
-- that it takes over. Neither a mission nor the right of the train is here. The hand is a run of sections on the track
-- of the place, each of them valid. The place's group is on that track, and not in advance of its front.
-- Rules: HO-9, HO-13
abbrev pub may_take : Line → ℕ → Centre → ℕ → ℕ → ℕ → Place → SectionRun → Bool
may_take line c k d number t place hand =
    (has (λ e. (e.number == number) && e.is_taking) (k.expects d t) && (is_none (k.mission t) && not (k.has_right t)))
    && ((is_on_track line place.track hand && has (is_on line place.track) (section_of_group line place.group))
    && (nat_le (10 * group_start line place) place.front && all_of (may_arrive line c k t place.track) hand))

-- Takes the mission over. Own sections of the hand are in use here again, and the mission goes on. The later of both
-- stamps of the train is kept, and the expectation ends. Then a request to shorten is sent for the first own section of
-- the hand that is wished back.
-- Rules: HO-10, HO-11, HO-12
abbrev pub take_mission : Line → ℕ → ℕ → ℕ → ℕ → Mission → Act
take_mission line c d t heard m =
    ((booked (is_out_for t) (Taken t) m.hand >> set_mission t (Some m))
    >> (become (λ k. record k { heard = put k.heard t (Some (option_map_or (max heard) (k.heard t) heard)) })
    >> expect d t None))
    >> with_some (λ k. find (λ s. is_home line c s && k.wish s) (range_with_len m.hand.first m.hand.count))
    (propose_if_so line t)

-- a Yield with this place: the mission is taken over, if the Yield is accepted
abbrev pub yielded : Line → ℕ → ℕ → ℕ → ℕ → SectionRun → ℕ → Bool → Bool → Place → Act
yielded line c d number t hand heard has_data is_ended place = where_so (λ k. may_take line c k d number t place hand)
    (take_mission line c d t heard
    (record {
      place = place;
      hand = hand;
      pool = no_run;
      has_data = has_data;
      is_ended = is_ended;
      proposal = None;
      handing = None;
    }))

-- ## A frame from centre d at centre c

abbrev pub is_train : Line → ℕ → Bool
is_train line t = is_some (train_number line t)

abbrev pub of_train : Line → ℕ → Act → Act
of_train line t act = if is_train line t then act else rest

-- Rules: LK-2
abbrev pub received : Line → ℕ → ℕ → Body → Act
received line c d (AskRight t) = of_train line t (right_asked line c d t)
received line c d (GiveRight t) = of_train line t (right_given line c t)
received line c d (RefuseRight t) = of_train line t (right_refused line c t)
received line c d (ReturnRight t) = of_train line t (right_returned line c t)
received line c d (RouteAsk t first most) = of_train line t (route_asked line c d t first most)
received line c d (RouteInfo t r) = of_train line t (route_told line c d t r)
received line c d (RouteWithdraw t s) =
    of_train line t (if is_some (section line s) then route_withdrawn line c t s else rest)
received line c d (RouteReturn t r) =
    of_train line t (if all_of (λ s. is_some (section line s)) r then route_returned line c t r else rest)
received line c d (Announce number t track) =
    of_train line t (if nat_lt track (length line.tracks) then announced d number t else rest)
received line c d (Cancel number t) = of_train line t (cancelled d number t)
received line c d (TakingOver number t) = of_train line t (taking_over line c d number t)
received line c d (Yield number t heard has_data is_ended place hand) =
    of_train line t (option_map_or (yielded line c d number t hand heard has_data is_ended) (carried_place place) rest)
