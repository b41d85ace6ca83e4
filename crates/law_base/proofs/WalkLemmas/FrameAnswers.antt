-- Frames that ask or answer.
use Rattle.std.proofs.Common.{[], ◌&&◌, ◌++◌, ◌∙◌, ◌≡◌, ap, Bool, false, if◌then◌else◌, is_none, is_some, length}
use Rattle.std.proofs.Common.{nat_lt, None, Option, refl, Some, true, ℕ}
use Rattle.std.proofs.lemmas.Bool.{and_parts}
use Rattle.std.specs.Option.{option_map_or}
use Rattle.law_base.proofs.WalkLemmas.Acts.{begin_walks, reject_walks, return_right_walks, taking_over_walks}
use Rattle.law_base.proofs.WalkLemmas.Causes.{goes_home, has_place_for_route, May, pools, waited}
use Rattle.law_base.proofs.WalkLemmas.Frames.{announced_walks, answers, answers_then, cancelled_walks, foreign}
use Rattle.law_base.proofs.WalkLemmas.Frames.{frame_may, home_walks, idle, is_question, no_place, no_registrar}
use Rattle.law_base.proofs.WalkLemmas.Frames.{no_section, not_asked, not_refused, returned_walks, Taking, walks}
use Rattle.law_base.proofs.WalkLemmas.Frames.{withdrawn_walks, yielded_walks}
use Rattle.law_base.proofs.WalkLemmas.Moves.{Answer, begins_at, branch, by_bool, changes, Closed, drops, gives}
use Rattle.law_base.proofs.WalkLemmas.Moves.{lends_some, not_needed, nothing_waits, of_walk, refuses, resting, rests}
use Rattle.law_base.proofs.WalkLemmas.Moves.{sends, step, told, Walk, Walks}
use Rattle.law_base.specs.Walk.Trains.{train_of}
use Rattle.rbc_spec.proofs.Lists.{none_is, put_there}
use Rattle.rbc_spec.specs.Acts.{◌>>◌, Act, become, change_mission, freed, Reply, rest, return_right, send}
use Rattle.rbc_spec.specs.Centre.{Centre, is_registrar_of, is_taken_for}
use Rattle.rbc_spec.specs.Frame.{Announce, AskRight, Body, Cancel, carried_place, GiveRight, RefuseRight, ReturnRight}
use Rattle.rbc_spec.specs.Frame.{RouteAsk, RouteInfo, RouteReturn, RouteWithdraw, TakingOver, Yield}
use Rattle.rbc_spec.specs.Line.{is_home, Line, section}
use Rattle.rbc_spec.specs.Links.{announced, answered_ask, is_train, is_wanted, of_train, received, right_asked}
use Rattle.rbc_spec.specs.Links.{right_given, right_refused, route_asked, route_returned, route_told, route_withdrawn}
use Rattle.rbc_spec.specs.Links.{yielded}
use Rattle.rbc_spec.specs.Maps.{has, put}
use Rattle.rbc_spec.specs.Place.{covered, Place}
use Rattle.rbc_spec.specs.Rules.{begin, choose, reject}
use Rattle.rbc_spec.specs.SectionRuns.{all_of, is_empty, SectionRun}

-- a property of each small move, of each answer, and of two consecutive acts holds of the whole effect
pub of_taking : (line : Line) (c d : ℕ) (was : Centre) (body : Body) (P : Centre → Reply → Type 0)
    → Closed line c (frame_may d body) was P → ((q : Reply) → Answer line c (frame_may d body) was d body q → P was q)
    → (q : Reply) → Taking line c d was body q → P was q
of_taking line c d was body P closed answered _ (foreign away) = closed.moves was (rest was) (rests was)
of_taking line c d was body P closed answered _ (idle why) = closed.moves was (rest was) (rests was)
of_taking line c d was body P closed answered _ (walks q known none walk) =
    of_walk line c (frame_may d body) was P closed was q walk
of_taking line c d was body P closed answered _ (answers q known answer) = answered q answer
of_taking line c d was body P closed answered _ (answers_then a b known answer walk) =
    closed.joins a b was (answered (a was) answer)
    (of_walk line c (frame_may d body) was P closed (a was).state (b (a was).state) walk)

module _ (line : Line) (c d : ℕ) (was : Centre) where
  of_train_taking : (body : Body) (act : Act)
      → (is_train line (train_of body) ≡ true → Taking line c d was body (act was))
      → Taking line c d was body (of_train line (train_of body) act was)
  of_train_taking body act taking = by_train (is_train line (train_of body)) refl
    where
      by_train : (b : Bool) → is_train line (train_of body) ≡ b
          → Taking line c d was body ((if b then act else rest) was)
      by_train true known = taking known
      by_train false away = foreign away

  taking_if : (body : Body) (b : Bool) (f g : Reply) → (b ≡ true → Taking line c d was body f)
      → (b ≡ false → Taking line c d was body g) → Taking line c d was body (if b then f else g)
  taking_if body true f g one other = one refl
  taking_if body false f g one other = other refl

  pub asked_taking : (t : ℕ) → is_train line t ≡ true → Taking line c d was (AskRight t) (right_asked line c d t was)
  unfolding ◌>>◌
  asked_taking t known = taking_if (AskRight t) (is_registrar_of line c t) _ (rest was)
      (λ here. taking_if (AskRight t) (was.has_right t) _ (send d (RefuseRight t) was)
      (λ has. answers _ known (gives t here has)) (λ none. answers _ known (refuses t here)))
      (λ away. idle (no_registrar t away))

  given_taking : (t : ℕ) → is_train line t ≡ true → Taking line c d was (GiveRight t) (right_given line c t was)
  unfolding ◌>>◌
  given_taking t known = taking_if (GiveRight t) (was.has_asked t) _ (rest was)
      (λ asked. by_start asked (was.wait t) refl (is_none (was.mission t)) refl) (λ none. idle (not_asked t none))
    where
      answered : Centre
      answered = (answered_ask t was).state

      ends : Act
      ends = become (λ j. record j { has_asked = put j.has_asked t false; wait = put j.wait t None })

      starts : Option Place → Reply
      starts o =
          option_map_or (λ place. (become (λ k. record k { wait = put k.wait t None }) >> begin line t place) answered)
          o (rest answered)

      chosen_of : Option Place → Bool → Act
      chosen_of o b j = if is_some o && b then starts o else return_right line c t j

      returns_it : was.has_asked t ≡ true → (is_some (was.wait t) && is_none (was.mission t)) ≡ false
          → Taking line c d was (GiveRight t) ((answered_ask t >> return_right line c t) was)
      returns_it asked none = answers_then (answered_ask t) (return_right line c t) known (not_needed t asked none)
          (return_right_walks line c (frame_may d (GiveRight t)) was t refl answered)

      by_start : was.has_asked t ≡ true → (o : Option Place) → was.wait t ≡ o → (b : Bool) → is_none (was.mission t) ≡ b
          → Taking line c d was (GiveRight t) ((answered_ask t >> chosen_of o b) was)
      by_start asked None waits b at = returns_it asked (ap (λ z. is_some z && is_none (was.mission t)) waits)
      by_start asked (Some place) waits false at =
          returns_it asked (ap (λ z. is_some z && is_none (was.mission t)) waits ∙ at)
      by_start asked (Some place) waits true at =
          answers_then ends (begin line t place) known (begins_at t place asked waits (none_is (was.mission t) at))
          (begin_walks line c (frame_may d (GiveRight t)) was t place (waited waits) (ends was).state
          (none_is (was.mission t) at))

  refused_taking : (t : ℕ) → is_train line t ≡ true → Taking line c d was (RefuseRight t) (right_refused line c t was)
  unfolding ◌>>◌
  refused_taking t known = taking_if (RefuseRight t) (was.has_asked t) _ (rest was)
      (λ asked. by_wait asked (was.wait t) refl) (λ none. idle (not_refused t none))
    where
      answered : Centre
      answered = (answered_ask t was).state

      -- the sections of a start that is dropped are given back
      ends : Place → Act
      ends place j = record {
        state = record (freed line c (is_taken_for t) (covered line place) j).state
            { has_asked = put j.has_asked t false; wait = put j.wait t None };
        frames = λ e. [];
        sayings = [];
        words = (freed line c (is_taken_for t) (covered line place) j).words ++ [];
      }

      drops_of : Option Place → Act
      drops_of o j =
          option_map_or (λ place. (freed line c (is_taken_for t) (covered line place)
          >> become (λ k. record k { wait = put k.wait t None })) j) o (rest j)

      by_wait : was.has_asked t ≡ true → (o : Option Place) → was.wait t ≡ o
          → Taking line c d was (RefuseRight t)
          ((answered_ask t >> (λ j. if is_some o then (drops_of o >> reject t) j else rest j)) was)
      by_wait asked None waits = answers _ known (nothing_waits t asked waits)
      by_wait asked (Some place) waits = answers_then (ends place) (reject t) known (drops t place refl asked waits)
          (reject_walks line c (frame_may d (RefuseRight t)) was t (ends place was).state)

  lent_taking : (t first most : ℕ) → is_train line t ≡ true
      → Taking line c d was (RouteAsk t first most) (route_asked line c d t first most was)
  unfolding ◌>>◌
  lent_taking t first most known = taking_if (RouteAsk t first most) (is_some (section line first)) _ (rest was)
      (λ there. answers _ known (lends_some t first most there)) (λ none. idle (no_section t first most none))

  -- after the end of the question, the lent sections are put into the pool or returned
  told_taking : (t : ℕ) (r : SectionRun) → is_train line t ≡ true
      → Taking line c d was (RouteInfo t r) (route_told line c d t r was)
  told_taking t r known = taking_if (RouteInfo t r) (has_place_for_route line d r (was.route_ask t)) _ (rest was)
      (λ so. answers_then (become (λ j. record j { route_ask = put j.route_ask t None }))
      (choose (λ j. has (is_wanted line r) (j.mission t)) (change_mission t (λ m. record m { pool = r }))
      (if is_empty r then rest else send d (RouteReturn t r))) known (told t r so)
      (by_bool line c may was (has (is_wanted line r) (was.mission t))
      (change_mission t (λ m. record m { pool = r }) ended)
      ((if is_empty r then rest else send d (RouteReturn t r)) ended) ended
      (λ wanted. step line c may was (changes t (λ m. record m { pool = r }) ended
      (pools d r (put_there was.route_ask t None) refl wanted)))
      (λ unwanted. by_empty so (is_empty r) refl)))
      (λ away. idle (no_place t r away))
    where
      may : May
      may = frame_may d (RouteInfo t r)

      ended : Centre
      ended = record was { route_ask = put was.route_ask t None }

      by_empty : has_place_for_route line d r (was.route_ask t) ≡ true → (b : Bool) → is_empty r ≡ b
          → Walk line c may was ended ((if b then rest else send d (RouteReturn t r)) ended)
      by_empty so true none = resting line c may was ended
      by_empty so false some =
          step line c may was
          (sends d (RouteReturn t r) ended
          (goes_home t r refl some (and_parts _ (all_of (is_home line d) r) so).1 refl))

  -- ## A frame

  of_walks : (body : Body) (act : Act) → is_question body ≡ false → Walk line c (frame_may d body) was was (act was)
      → Taking line c d was body (of_train line (train_of body) act was)
  of_walks body act none walk = of_train_taking body act (λ known. walks (act was) known none walk)

  so_or_rests : (body : Body) (b : Bool) (act : Act) → Walks line c (frame_may d body) was act
      → Walk line c (frame_may d body) was was ((if b then act else rest) was)
  so_or_rests body b act walk = branch line c (frame_may d body) was b act rest walk
      (resting line c (frame_may d body) was) was

  pub received_taking : (body : Body) → Taking line c d was body (received line c d body was)
  received_taking (AskRight t) = of_train_taking (AskRight t) _ (asked_taking t)
  received_taking (GiveRight t) = of_train_taking (GiveRight t) _ (given_taking t)
  received_taking (RefuseRight t) = of_train_taking (RefuseRight t) _ (refused_taking t)
  received_taking (ReturnRight t) =
      of_walks (ReturnRight t) _ refl (returned_walks line c d (frame_may d (ReturnRight t)) was t refl was)
  received_taking (RouteAsk t first most) = of_train_taking (RouteAsk t first most) _ (lent_taking t first most)
  received_taking (RouteInfo t r) = of_train_taking (RouteInfo t r) _ (told_taking t r)
  received_taking (RouteWithdraw t s) =
      of_walks (RouteWithdraw t s) _ refl (so_or_rests (RouteWithdraw t s) (is_some (section line s))
      (route_withdrawn line c t s) (withdrawn_walks line c d (frame_may d (RouteWithdraw t s)) was t refl s))
  received_taking (RouteReturn t r) =
      of_walks (RouteReturn t r) _ refl (so_or_rests (RouteReturn t r) (all_of (λ s. is_some (section line s)) r)
      (route_returned line c t r) (home_walks line c d (frame_may d (RouteReturn t r)) was t refl refl r))
  received_taking (Announce number t track) =
      of_walks (Announce number t track) _ refl
      (so_or_rests (Announce number t track) (nat_lt track (length line.tracks)) (announced d number t)
      (announced_walks line c d (frame_may d (Announce number t track)) was t refl refl number track refl))
  received_taking (Cancel number t) =
      of_walks (Cancel number t) _ refl (cancelled_walks line c d (frame_may d (Cancel number t))
      was t refl refl number was)
  received_taking (TakingOver number t) =
      of_walks (TakingOver number t) _ refl
      (taking_over_walks line c (frame_may d (TakingOver number t)) was t refl d number refl was)
  received_taking (Yield number t heard has_data is_ended place hand) =
      of_walks (Yield number t heard has_data is_ended place hand) _ refl (by_place (carried_place place) refl)
    where
      may : May
      may = frame_may d (Yield number t heard has_data is_ended place hand)

      by_place : (o : Option Place) → carried_place place ≡ o
          → Walk line c may was was (option_map_or (yielded line c d number t hand heard has_data is_ended) o rest was)
      by_place None none = resting line c may was was
      by_place (Some at) placed = yielded_walks line c d may was t refl refl number hand heard has_data
          is_ended place at refl placed
