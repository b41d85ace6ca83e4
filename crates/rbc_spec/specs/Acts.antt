-- The acts that make up a step of a centre. Their frames, messages and replies keep the order of the acts.
use Rattle.std.specs.List.{filter, range_with_len}
use Rattle.std.specs.Option.{option_map_or}
use Rattle.std.specs.Prelude.{[], if◌then◌else◌, ◌&&◌, ◌*◌, ◌++◌, ◌+◌, ◌-◌, ◌==◌, ◌||◌, ◌∷◌, Bool, false, is_none, List}
use Rattle.std.specs.Prelude.{map, min, nat_le, None, not, Option, option_map, Some, true, ℕ}
use Rattle.rbc_spec.specs.Centre.{Centre, Entry, Handing, is_registrar_of, is_taken_for, is_up, Mission, Open, Out}
use Rattle.rbc_spec.specs.Centre.{Shut}
use Rattle.rbc_spec.specs.Frame.{Announce, Body, Cancel, ReturnRight, RouteAsk, RouteReturn, Yield, yielded_place}
use Rattle.rbc_spec.specs.Line.{is_home, Line, registrar, start}
use Rattle.rbc_spec.specs.Maps.{put}
use Rattle.rbc_spec.specs.Message.{EndSession, ShorteningRequest, TrackBody, TrainMessage, Transition, unknown_group}
use Rattle.rbc_spec.specs.Outcome.{Saying, Told, Word}
use Rattle.rbc_spec.specs.Place.{covered, group_start, has_room, Place}
use Rattle.rbc_spec.specs.SectionRuns.{is_empty, most_in_hand, next_after, no_run, SectionRun, shared, within}
use Rattle.rbc_spec.specs.Sections.{home_run, nid_rbc}

infixr 0 ◌$◌
abbrev pub ◌$◌ : {X Y : Type 0} → (X → Y) → X → Y
f $ x = f x

-- The result of an act: the new state, the bodies of frames to each centre, the messages to trains, and the replies to
-- the interlocking.
pub record Reply : Type 0 where
  pub state : Centre
  pub frames : ℕ → List Body
  pub sayings : List Saying
  pub words : List Word

-- Rules: AC-1
abbrev pub Act : Type 0
Act = Centre → Reply

-- an act that only changes the state
abbrev pub become : (Centre → Centre) → Act
become change k = record { state = change k; frames = λ d. []; sayings = []; words = [] }

abbrev pub rest : Act
rest = become (λ k. k)

-- one act, then another from the state that the first leaves
infixl 5 ◌>>◌
-- Rules: AC-1
unfoldable pub ◌>>◌ : Act → Act → Act
(first >> second) k =
    let a = first k in
    let b = second a.state in
    record {
      state = b.state;
      frames = λ d. a.frames d ++ b.frames d;
      sayings = a.sayings ++ b.sayings;
      words = a.words ++ b.words;
    }

-- the act if the test holds of the state; else no change
abbrev pub where_so : (Centre → Bool) → Act → Act
where_so test act k = if test k then act k else rest k

-- the act with a value that the state has; no change if there is none
abbrev pub with_some : {X : Type 0} → (Centre → Option X) → (X → Act) → Act
with_some value act k = option_map_or (λ x. act x k) (value k) (rest k)

-- the act with the train's mission; no change if it has none here
abbrev pub with_mission : ℕ → (Mission → Act) → Act
with_mission t = with_some (λ k. k.mission t)

-- sends a body to centre d
abbrev pub send : ℕ → Body → Act
send d body k = record { state = k; frames = λ e. if e == d then body ∷ [] else []; sayings = []; words = [] }

-- records T_TRAIN of the message as the last that was received from the train
-- Rules: SI-4
abbrev pub hear : TrainMessage → Act
hear m = become (λ k. record k { heard = put k.heard m.nid_engine (Some m.t_train) })

-- Sends a message to a train. Its T_TRAIN counts the messages of this centre to that train.
-- Rules: MS-3
abbrev pub say : ℕ → ℕ → TrackBody → Act
say t group body k =
    let count = k.said t + 1 in
    record {
      state = record k { said = put k.said t count };
      frames = λ d. [];
      sayings = record { nid_engine = t; message = record { t_train = count; nid_lrbg = group; body = body } } ∷ [];
      words = [];
    }

-- ## The book

-- sets the entry of each section of the run whose entry passes the test
-- Rules: AC-2
abbrev pub booked : (Entry → Bool) → Entry → SectionRun → Act
booked is_meant entry r =
    become (λ k. record k { book = λ s. if within r s && is_meant (k.book s) then entry else k.book s })

-- Gives sections of home c back: those of the run whose entry passes the test. Each becomes open. If it was wished
-- back, it becomes shut instead, the wish ends, and the interlocking gets a reply `Told`.
-- Rules: AC-3
abbrev pub freed : Line → ℕ → (Entry → Bool) → SectionRun → Act
freed line c is_meant r k =
    let is_freed : ℕ → Bool = λ s. (within r s && is_home line c s) && is_meant (k.book s) in
    record {
      state = record k {
        book = λ s. if is_freed s then (if k.wish s then Shut else Open) else k.book s;
        wish = λ s. not (is_freed s) && k.wish s;
      };
      frames = λ d. [];
      sayings = [];
      words = map (λ s. Told s) (filter (λ s. is_freed s && k.wish s) (range_with_len r.first r.count));
    }

-- Returns the lent sections of the run: one frame to each home that has some of them. The sections of one home are
-- consecutive.
-- Rules: AC-4
abbrev pub returned : Line → ℕ → ℕ → ℕ → SectionRun → Act
returned line c t track r k = record {
  state = k;
  frames = λ d. let part = shared r (home_run line d track)
      in if (d == c) || is_empty part then [] else RouteReturn t part ∷ [];
  sayings = [];
  words = [];
}

-- takes sections from the train: those of home c are given back, lent ones are returned to their homes
-- Rules: PR-3
abbrev pub leave : Line → ℕ → ℕ → ℕ → SectionRun → Act
leave line c t track r = freed line c (is_taken_for t) r >> returned line c t track r

-- ## Missions

abbrev pub set_mission : ℕ → Option Mission → Act
set_mission t mission = become (λ k. record k { mission = put k.mission t mission })

-- changes the train's mission, if it has one here
abbrev pub change_mission : ℕ → (Mission → Mission) → Act
change_mission t change = become (λ k. record k { mission = put k.mission t (option_map change (k.mission t)) })

-- Returns the pool to its home. Sections that were taken off the end of the hand are returned before that.
abbrev pub return_pool : Line → ℕ → ℕ → Mission → Act
return_pool line c t mission =
    returned line c t mission.place.track mission.pool >> change_mission t (λ n. record n { pool = no_run })

-- cancels the pending handover, if there is one
abbrev pub cancel : ℕ → Mission → Act
cancel t mission =
    option_map_or (λ h. send h.to (Cancel h.number t)
    >> change_mission t (λ n. record n { handing = None })) mission.handing rest

-- gives the train's right back: the registrar keeps it, another centre sends it to the registrar
abbrev pub return_right : Line → ℕ → ℕ → Act
return_right line c t =
    if is_registrar_of line c t
    then become (λ k. record k { has_right = put k.has_right t true })
    else option_map_or (λ r. send r (ReturnRight t)) (registrar line t) rest

-- Closes a mission, after all sections of its hand and pool have left it. A handover is cancelled, and the right goes
-- back to the registrar.
-- Rules: PR-4
abbrev pub close : Line → ℕ → ℕ → Mission → Act
close line c t mission = (set_mission t None >> cancel t mission) >> return_right line c t

-- a new mission: its hand is the sections that its place covers
abbrev pub begun : Line → Place → Mission
begun line place =
    record {
      place = place;
      hand = covered line place;
      pool = no_run;
      has_data = false;
      is_ended = false;
      proposal = None;
      handing = None;
    }

-- ## Shortening (3.8.6)

-- A request to shorten the authority to the start of section s may be sent if all of this holds. The session is up, the
-- mission is not ended, and no request is pending. Section s is in the hand, and is not its first. The front is not
-- past the start of s, and that start is within the range of L_ENDSECTION.
-- Rules: CS-1
abbrev pub may_propose : Line → ℕ → ℕ → Mission → Centre → Bool
may_propose line t s m k =
    ((is_up (k.phase t) && not m.is_ended) && is_none m.proposal)
    && (((within m.hand s && not (s == m.hand.first)) && nat_le m.place.front (10 * start line s))
    && has_room line m.place (start line s))

-- Rules: CS-2
abbrev pub propose : Line → ℕ → ℕ → Mission → Act
propose line t s m k =
    (say t m.place.group (ShorteningRequest (start line s - group_start line m.place))
    >> change_mission t (λ n. record n { proposal = Some (record { stamp = k.said t + 1; last_kept = s - 1 }) })) k

-- sends message 9 for section s of the train's hand, if it may be sent
abbrev pub propose_if_so : Line → ℕ → ℕ → Act
propose_if_so line t s = with_mission t (λ m. where_so (may_propose line t s m) (propose line t s m))

-- ## Handing over (3.15.1)

-- the sections of the hand that are of home d
abbrev pub part_at : Line → ℕ → ℕ → SectionRun → SectionRun
part_at line d track hand = shared hand (home_run line d track)

-- Announces a handover to centre d: d gets an Announce, and the train gets the distance to the border (packet 131). The
-- hand has a section of d, and no handover is pending.
-- Rules: HO-2
abbrev pub announce : Line → ℕ → ℕ → ℕ → Mission → Act
announce line t group d m k =
    let number = k.announced + 1 in
    let border = (part_at line d m.place.track m.hand).first in
    ((send d (Announce number t m.place.track)
    >> become (λ j. record j { announced = number }))
    >> change_mission t (λ n. record n { handing = Some (record { number = number; to = d }) }))
    >> say t group (Transition (start line border - group_start line m.place) line.nid_c (nid_rbc line d))
    $ k

-- asks centre d for the sections in advance of the hand, as many as the hand has room for
-- Rules: RT-1
abbrev pub ask_route : ℕ → ℕ → Mission → Act
ask_route t d m =
    let first = next_after m.hand in
    send d (RouteAsk t first (min (most_in_hand - m.hand.count) (512 - first)))
    >> become (λ k. record k { route_ask = put k.route_ask t (Some first) })

-- orders the train to terminate its session with c, if the session is up
abbrev pub end_order : Line → ℕ → ℕ → Act
end_order line c t = where_so (λ k. is_up (k.phase t)) (say t unknown_group (EndSession line.nid_c (nid_rbc line c)))

-- Hands the supervision over. The pool is returned, own sections of the hand are lent, and one frame carries the
-- mission. If the hand has no section of home c, the train is ordered to end its session here.
-- Rules: HO-5, HO-6, HO-7, HO-8
abbrev pub yield : Line → ℕ → ℕ → Mission → Handing → Act
yield line c t m h k =
    ((returned line c t m.place.track m.pool >> booked (is_taken_for t) (Out t) m.hand)
    >> (set_mission t None >> send h.to
    (Yield h.number t (option_map_or (λ n. n) (k.heard t) 0) m.has_data m.is_ended (yielded_place m.place) m.hand)))
    >> (if is_empty (part_at line c m.place.track m.hand) then end_order line c t else rest)
    $ k
