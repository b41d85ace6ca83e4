-- Wrong rules. Each is an act as the rules have it, but for one part.
use Rattle.std.specs.List.{find, range_with_len}
use Rattle.std.specs.Option.{option_map_or}
use Rattle.std.specs.Prelude.{◌&&◌, Bool, false, if◌then◌else◌, is_none, is_some, min, None, not, Some, true, ℕ}
use Rattle.rbc_spec.specs.Acts.{◌>>◌, Act, become, booked, end_order, freed, part_at, propose_if_so, rest, returned}
use Rattle.rbc_spec.specs.Acts.{send, set_mission, where_so, with_mission, with_some}
use Rattle.rbc_spec.specs.Centre.{Centre, Entry, Handing, is_expected, is_open, is_out_for, is_taken_for, is_unused}
use Rattle.rbc_spec.specs.Centre.{Mission, Open, Out, Shut, Taken, uses_some}
use Rattle.rbc_spec.specs.Frame.{AskRight, RouteInfo, Yield, yielded_place}
use Rattle.rbc_spec.specs.Line.{is_home, Line, registrar, section}
use Rattle.rbc_spec.specs.Links.{expect}
use Rattle.rbc_spec.specs.Maps.{has, put}
use Rattle.rbc_spec.specs.Outcome.{Done, NotHome}
use Rattle.rbc_spec.specs.Place.{covered, Place}
use Rattle.rbc_spec.specs.Rules.{begin, tell}
use Rattle.rbc_spec.specs.SectionRuns.{is_empty, longest, SectionRun}
use Rattle.rbc_spec.specs.Sections.{is_on}
use Rattle.rbc_spec.specs.Step.{make, wished}

-- ## Sections that are lent

abbrev pub is_there : Entry → Bool
is_there Open = true
is_there (Out t) = true
is_there e = false

abbrev pub lendable_again : Line → ℕ → Centre → ℕ → ℕ → SectionRun
lendable_again line c k first most =
    record {
      first = first;
      count = longest (λ s. (is_home line c s && is_there (k.book s))
          && has (λ p. is_on line p.track s) (section line first)) first most;
    }

-- as `route_asked`, but a section that is out is lent again
abbrev pub lending_again : Line → ℕ → ℕ → ℕ → ℕ → ℕ → Act
lending_again line c d t first most k =
    let r = lendable_again line c k first most in
    (where_so (λ j. is_some (section line first)) (booked is_there (Out t) r >> send d (RouteInfo t r))) k

-- as `unset`, but a section in use is shut at once, while its user gets the request
abbrev pub shutting_at_once : Line → ℕ → ℕ → Act
shutting_at_once line c s k =
    if not (is_home line c s) then tell (NotHome s) k
    else (if is_unused (k.book s) then (make s Shut false >> tell (Done s))
    else ((wished line c s (k.book s) >> make s Shut false) >> tell (Done s))) k

-- as `route_returned`, but all sections that are out for the train are given back with the returned ones
abbrev pub giving_back_all : Line → ℕ → ℕ → SectionRun → Act
giving_back_all line c t r =
    freed line c (is_out_for t) (record { first = 0; count = 512 })
    >> where_so (λ k. not (uses_some line c k t)
    && ((is_none (k.mission t) && is_none (k.wait t)) && not (is_expected line k t))) (end_order line c t)

-- as `return_pool`, but the pool stays
abbrev pub keeping_pool : Line → ℕ → ℕ → Mission → Act
keeping_pool line c t mission = returned line c t mission.place.track mission.pool

-- ## Rights and missions

-- as `start_waiting`, but the mission begins while the right is asked for
abbrev pub starting_at_once : Line → ℕ → Place → Act
starting_at_once line t place =
    (booked is_open (Taken t) (covered line place) >> begin line t place)
    >> where_so (λ k. not (k.has_asked t))
    (option_map_or (λ r. send r (AskRight t)) (registrar line t) rest
    >> become (λ k. record k { has_asked = put k.has_asked t true }))

-- as `yield`, but the mission goes on here
abbrev pub keeping_yield : Line → ℕ → ℕ → Mission → Handing → Act
keeping_yield line c t m h k =
    (((returned line c t m.place.track m.pool >> booked (is_taken_for t) (Out t) m.hand)
    >> send h.to (Yield h.number t (option_map_or (λ n. n) (k.heard t) 0) m.has_data m.is_ended
    (yielded_place m.place) m.hand))
    >> (if is_empty (part_at line c m.place.track m.hand) then end_order line c t else rest)) k

-- as `take_mission`, but the older of both stamps is kept
abbrev pub keeping_older : Line → ℕ → ℕ → ℕ → ℕ → Mission → Act
keeping_older line c d t heard m =
    ((booked (is_out_for t) (Taken t) m.hand >> set_mission t (Some m))
    >> (become (λ k. record k { heard = put k.heard t (Some (option_map_or (min heard) (k.heard t) heard)) })
    >> expect d t None))
    >> with_some (λ k. find (λ s. is_home line c s && k.wish s) (range_with_len m.hand.first m.hand.count))
    (propose_if_so line t)

-- as `cancelled`, but for every number
abbrev pub cancelling_any : ℕ → ℕ → ℕ → Act
cancelling_any d number t = where_so (λ k. is_some (k.expects d t)) (expect d t None)

-- ## Handing over, by one rule or another

-- the mission of the train is handed over by a rule, if it has announced a handover
abbrev pub handed_over_by : (Mission → Handing → Act) → ℕ → Act
handed_over_by rule t = with_mission t (λ m. with_some (λ k. m.handing) (rule m))

-- the pool of the train's mission is returned by a rule
abbrev pub sent_home_by : (Mission → Act) → ℕ → Act
sent_home_by rule t = with_mission t rule
