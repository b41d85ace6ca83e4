-- The effect of a frame is a walk, an answer, or both.
use Rattle.std.proofs.Common.{◌&&◌, ◌≡◌, arith, Bool, false, if◌then◌else◌, is_none, is_some, max, None, not, Option}
use Rattle.std.proofs.Common.{Some, true, ℕ}
use Rattle.std.specs.List.{find, range_with_len}
use Rattle.std.specs.Option.{option_map_or}
use Rattle.law_base.proofs.WalkLemmas.Acts.{end_order_walks, propose_if_walks, return_right_walks}
use Rattle.law_base.proofs.WalkLemmas.Causes.{Came, comes, has_place_for_route, less_pool, May, no_more, one_more}
use Rattle.law_base.proofs.WalkLemmas.Causes.{said_before}
use Rattle.law_base.proofs.WalkLemmas.Moves.{Answer, books, both, by_bool, changes, either, expects, frees, hears}
use Rattle.law_base.proofs.WalkLemmas.Moves.{joined, resting, returns, sets, step, Walk, Walks, when, with}
use Rattle.law_base.specs.Walk.Trains.{train_of}
use Rattle.rbc_spec.specs.Acts.{◌>>◌, Act, become, booked, change_mission, end_order, freed, propose_if_so, Reply, rest}
use Rattle.rbc_spec.specs.Acts.{return_right, returned, set_mission, with_some}
use Rattle.rbc_spec.specs.Centre.{Centre, Handing, is_expected, is_out_for, is_registrar_of, Mission, Taken, uses_some}
use Rattle.rbc_spec.specs.Frame.{Announce, AskRight, Body, Cancel, carried_place, GiveRight, RefuseRight, RouteAsk}
use Rattle.rbc_spec.specs.Frame.{RouteInfo, RouteReturn, TakingOver, Yield, YieldedPlace}
use Rattle.rbc_spec.specs.Line.{is_home, Line, section}
use Rattle.rbc_spec.specs.Links.{announced, cancelled, expect, is_train, is_under, may_take, right_returned}
use Rattle.rbc_spec.specs.Links.{route_returned, route_withdrawn, take_mission, yielded}
use Rattle.rbc_spec.specs.Maps.{put}
use Rattle.rbc_spec.specs.Place.{Place}
use Rattle.rbc_spec.specs.SectionRuns.{no_run, part_before, part_from, SectionRun, within}

-- ## Frames that neither ask nor answer

module _ (line : Line) (c d : ℕ) (may : May) (was : Centre) (t : ℕ) (its : may.train ≡ Some t) where
  abbrev pub Goes : Act → Type 0
  Goes act = Walks line c may was act

  pub returned_walks : Goes (right_returned line c t)
  returned_walks = when line c may was (λ k. is_registrar_of line c t && (not (k.has_right t) && is_none (k.mission t)))
      (return_right line c t) (return_right_walks line c may was t its)

  pub withdrawn_walks : (s : ℕ) → Goes (route_withdrawn line c t s)
  withdrawn_walks s = with line c may was (λ k. k.mission t)
      (λ m. if within m.pool s then (returned line c t m.place.track (part_from s m.pool)
      >> change_mission t (λ n. record n { pool = part_before s n.pool })) else propose_if_so line t s)
      (λ k m has. either line c may was (within m.pool s) (returned line c t m.place.track (part_from s m.pool)
      >> change_mission t (λ n. record n { pool = part_before s n.pool })) (propose_if_so line t s) k
      (λ pooled. joined (returned line c t m.place.track (part_from s m.pool))
      (change_mission t (λ n. record n { pool = part_before s n.pool })) k
      (step line c may was (returns t m.place.track (part_from s m.pool) m k its has (omega arith)))
      (step line c may was (changes t (λ n. record n { pool = part_before s n.pool }) _ (less_pool s))))
      (λ other. propose_if_walks line c may was t s k))

  pub home_walks : may.speaks ≡ true → (r : SectionRun) → Goes (route_returned line c t r)
  home_walks so r = both line c may was (freed line c (is_out_for t) r) _
      (λ k. step line c may was (frees (is_out_for t) r k so))
      (when line c may was (λ k. not (uses_some line c k t)
      && ((is_none (k.mission t) && is_none (k.wait t)) && not (is_expected line k t))) (end_order line c t)
      (end_order_walks line c may was t))

  pub announced_walks : may.expects ≡ true → (number track : ℕ) → may.cause ≡ Came d (Announce number t track)
      → Goes (announced d number t)
  announced_walks so number track came =
      when line c may was (λ k. is_none (k.expects d t))
      (expect d t (Some (record { number = number; is_taking = false })))
      (λ k. step line c may was (expects d t (Some (record { number = number; is_taking = false })) k so
      (one_more number track came)))

  pub cancelled_walks : may.expects ≡ true → (number : ℕ) → Goes (cancelled d number t)
  cancelled_walks so number = when line c may was (λ k. is_under number (k.expects d t)) (expect d t None)
      (λ k. step line c may was (expects d t None k so no_more))

  pub yielded_walks : may.expects ≡ true
      → (number : ℕ) (hand : SectionRun) (heard : ℕ) (has_data is_ended : Bool) (carried : YieldedPlace) (place : Place)
      → may.cause ≡ Came d (Yield number t heard has_data is_ended carried hand) → carried_place carried ≡ Some place
      → Walk line c may was was (yielded line c d number t hand heard has_data is_ended place was)
  yielded_walks so number hand heard has_data is_ended carried place came placed =
      let m : Mission =
      record {
        place = place;
        hand = hand;
        pool = no_run;
        has_data = has_data;
        is_ended = is_ended;
        proposal = None;
        handing = None;
      } in
      by_bool line c may was (may_take line c was d number t place hand)
      (take_mission line c d t heard m was) (rest was) was
      (λ taken. both line c may was _
      (with_some (λ k. find (λ s. is_home line c s && k.wish s) (range_with_len hand.first hand.count))
      (propose_if_so line t))
      (both line c may was (booked (is_out_for t) (Taken t) hand >> set_mission t (Some m))
      (become (λ k. record k { heard = put k.heard t (Some (option_map_or (max heard) (k.heard t) heard)) })
      >> expect d t None)
      (both line c may was (booked (is_out_for t) (Taken t) hand) (set_mission t (Some m))
      (λ k. step line c may was (books (is_out_for t) t hand k))
      (λ k. step line c may was
      (sets t (Some m) k (comes d number heard carried place hand has_data is_ended so taken came placed))))
      (both line c may was
      (become (λ k. record k { heard = put k.heard t (Some (option_map_or (max heard) (k.heard t) heard)) }))
      (expect d t None)
      (λ k. step line c may was (hears t (Some (option_map_or (max heard) (k.heard t) heard)) k
      (said_before d number heard has_data is_ended carried hand came)))
      (λ k. step line c may was (expects d t None k so no_more))))
      (with line c may was (λ k. find (λ s. is_home line c s && k.wish s) (range_with_len hand.first hand.count))
      (propose_if_so line t) (λ k s found. propose_if_walks line c may was t s k)) was)
      (λ left. resting line c may was was)

-- ## Frames that ask or answer

-- the body asks a question or answers one
abbrev pub is_question : Body → Bool
is_question (AskRight t) = true
is_question (GiveRight t) = true
is_question (RefuseRight t) = true
is_question (RouteAsk t first most) = true
is_question (RouteInfo t r) = true
is_question body = false

-- a frame may cause replies to the interlocking if it returns sections, or drops a waiting start
abbrev pub frame_speaks : Body → Bool
frame_speaks (RefuseRight t) = true
frame_speaks (RouteReturn t r) = true
frame_speaks body = false

-- a frame of the handing-over centre may change the expectation of a train
abbrev pub frame_expects : Body → Bool
frame_expects (Announce number t track) = true
frame_expects (Cancel number t) = true
frame_expects (Yield number t heard has_data is_ended place hand) = true
frame_expects body = false

-- a frame of the centre that takes over may have the handover to it yielded
abbrev pub frame_yields : ℕ → Body → Option Handing
frame_yields d (TakingOver number t) = Some (record { number = number; to = d })
frame_yields d body = None

abbrev pub frame_may : ℕ → Body → May
frame_may d body =
    record {
      announces = false;
      speaks = frame_speaks body;
      expects = frame_expects body;
      train = Some (train_of body);
      yields = frame_yields d body;
      cause = Came d body;
    }

-- why an arriving question or answer has no effect
pub data Idle (line : Line) (c d : ℕ) (was : Centre) : Body → Type 0 where
  no_registrar : (t : ℕ) → is_registrar_of line c t ≡ false → Idle line c d was (AskRight t)
  not_asked : (t : ℕ) → was.has_asked t ≡ false → Idle line c d was (GiveRight t)
  not_refused : (t : ℕ) → was.has_asked t ≡ false → Idle line c d was (RefuseRight t)
  no_section : (t first most : ℕ) → is_some (section line first) ≡ false → Idle line c d was (RouteAsk t first most)
  no_place : (t : ℕ) (r : SectionRun) → has_place_for_route line d r (was.route_ask t) ≡ false
      → Idle line c d was (RouteInfo t r)

-- The effect of a frame. It is nothing for a train that is not of the line, or for an answer without a question. Else
-- it is an answer and a walk, or only a walk.
pub data Taking (line : Line) (c d : ℕ) (was : Centre) (body : Body) : Reply → Type 0 where
  foreign : is_train line (train_of body) ≡ false → Taking line c d was body (rest was)
  idle : Idle line c d was body → Taking line c d was body (rest was)
  walks : (q : Reply) → is_train line (train_of body) ≡ true → is_question body ≡ false
      → Walk line c (frame_may d body) was was q → Taking line c d was body q
  answers : (q : Reply) → is_train line (train_of body) ≡ true → Answer line c (frame_may d body) was d body q
      → Taking line c d was body q
  answers_then : (a b : Act) → is_train line (train_of body) ≡ true
      → Answer line c (frame_may d body) was d body (a was)
      → Walk line c (frame_may d body) was (a was).state (b (a was).state)
      → Taking line c d was body ((a >> b) was)
