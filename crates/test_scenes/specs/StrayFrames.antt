-- Frames that no world sends: a centre takes them, and they have no effect.
use Rattle.std.specs.List.{filter, filter_map, range_with_len}
use Rattle.std.specs.Prelude.{[], ◌++◌, ◌-ℤ◌, ◌∷◌, Bool, Err, false, List, map, None, Ok, Option, pos, Result, Some}
use Rattle.std.specs.Prelude.{true, ℕ, ℤ}
use Rattle.rbc_spec.specs.Acts.{Reply}
use Rattle.rbc_spec.specs.Centre.{Centre, Closed, Entry, Expectation, Handing, Mission, Out, Phase, Shut, Taken, Up}
use Rattle.rbc_spec.specs.Frame.{Announce, AskRight, Body, Cancel, GiveRight, RefuseRight, ReturnRight, RouteAsk}
use Rattle.rbc_spec.specs.Frame.{RouteInfo, RouteReturn, RouteWithdraw, TakingOver, Yield}
use Rattle.rbc_spec.specs.Line.{Line}
use Rattle.rbc_spec.specs.Links.{received}
use Rattle.rbc_spec.specs.Message.{Report}
use Rattle.rbc_spec.specs.Outcome.{Next, Outcome, Saying, Taken as LinkAnswer, Word}
use Rattle.rbc_spec.specs.Place.{Place}
use Rattle.rbc_spec.specs.SectionRuns.{no_run, SectionRun}
use Rattle.rbc_spec.specs.Sections.{section_count}
use Rattle.rbc_spec.specs.Step.{Deliver, Refusal, step}
use Rattle.rbc_spec.specs.World.{Answer, Delivery, new_world, World, world_run}
use Rattle.test_scenes.specs.Handover.{announced, the_yield}
use Rattle.test_scenes.specs.Pieces.{event_of}
use Rattle.test_scenes.specs.Requests.{route_on_the_way}
use Rattle.test_scenes.specs.Scene.{all_centres, at, group_1, Happens, line, Scene, session, train}

-- ## The effect of a frame

-- a centre's record of a train
pub record OfTrain : Type 0 where
  pub phase : Phase
  pub heard : Option ℕ
  pub said : ℕ
  pub mission : Option Mission
  pub wait : Option Place
  pub rights : List Bool
  pub route_ask : Option ℕ
  pub expects : List (Option Expectation)

-- a centre's state, with its messages, replies and frames to each centre
pub record Effect : Type 0 where
  pub book : List Entry
  pub wished : List ℕ
  pub trains : List OfTrain
  pub announced : ℕ
  pub frames : List (List Body)
  pub sayings : List Saying
  pub words : List Word

abbrev pub of_train : Line → Centre → ℕ → OfTrain
of_train l k t = record {
  phase = k.phase t;
  heard = k.heard t;
  said = k.said t;
  mission = k.mission t;
  wait = k.wait t;
  rights = k.has_asked t ∷ k.has_right t ∷ [];
  route_ask = k.route_ask t;
  expects = map (λ d. k.expects d t) (all_centres l);
}

abbrev pub effect_of : Line → Reply → Effect
effect_of l reply = record {
  book = map reply.state.book (range_with_len 0 (section_count l));
  wished = filter reply.state.wish (range_with_len 0 (section_count l));
  trains = map (of_train l reply.state) (1 ∷ 2 ∷ 3 ∷ []);
  announced = reply.state.announced;
  frames = map reply.frames (all_centres l);
  sayings = reply.sayings;
  words = reply.words;
}

-- the effect of each of these bodies from centre d at centre c
abbrev pub effects : Line → (c d : ℕ) → Centre → List Body → List Effect
effects l c d k bodies = map (λ body. effect_of l (received l c d body k)) bodies

-- The link's answer to a frame, the count of frames taken from its sender, and the centre's state with its messages,
-- replies and frames.
pub record Delivered : Type 0 where
  pub link : Option LinkAnswer
  pub taken : ℕ
  pub effect : Effect

abbrev pub delivered_as : Line → ℕ → Result (Outcome × Centre) Refusal → Option Delivered
delivered_as l d (Ok (o, k)) = Some (record {
  link = o.link;
  taken = k.taken d;
  effect = effect_of l (record {
    state = k;
    frames = λ e. map (λ f. f.body) (o.frames e);
    sayings = o.sayings;
    words = o.words;
  });
})
delivered_as l d (Err why) = None

-- the effect of each frame with this number from centre d at centre c
abbrev pub deliveries : Line → (c d number : ℕ) → Centre → List Body → List (Option Delivered)
deliveries l c d number k bodies =
    map (λ body. delivered_as l d (step l c (Deliver d (record { number = number; stamp = 1; body = body })) k)) bodies

-- ## Centres in the midst of scenes

abbrev pub world_in : World → Result (List Answer × World) Refusal → World
world_in w (Ok (answers, after)) = after
world_in w (Err why) = w

-- a centre of the line after a scene
unfoldable pub centre_after : List Scene → ℕ → Centre
centre_after scene c = (world_in (new_world line) (world_run line (new_world line) (filter_map event_of scene))).at c

-- A waits for sections from 4 on, with sections 1 to 3 in train 1's hand
abbrev pub asking : Centre
asking = centre_after route_on_the_way 0

-- A has announced train 1 to B, which expects it
abbrev pub announcing : Centre
announcing = centre_after announced 0

abbrev pub expecting : Centre
expecting = centre_after announced 1

-- B has replied that it takes over
abbrev pub taking_over : Centre
taking_over = centre_after
    (announced
    ++ session 1 1 7
    ++ train 1 1 9 (Report (at 104 100 (Some 200))) ∷ Happens (Delivery 1 0 2) ∷ Happens (Delivery 1 0 3) ∷ [])
    1

-- ## The states after a frame without effect

-- a train of which a centre knows only whether its right is here
abbrev pub unknown_train : Bool → OfTrain
unknown_train has_right = record {
  phase = Closed;
  heard = None;
  said = 0;
  mission = None;
  wait = None;
  rights = false ∷ has_right ∷ [];
  route_ask = None;
  expects = None ∷ None ∷ [];
}

-- at A: its book of sections 1 to 3, train 1 with a mission and this question, and the count of announced handovers
abbrev pub calm_at_a : Mission → (heard said : ℕ) → Option ℕ → ℕ → Effect
calm_at_a m heard said route_ask count = record {
  book = Shut ∷ Taken 1 ∷ Taken 1 ∷ Taken 1 ∷ Shut ∷ Shut ∷ Shut ∷ Shut ∷ [];
  wished = [];
  trains = record {
    phase = Up;
    heard = Some heard;
    said = said;
    mission = Some m;
    wait = None;
    rights = false ∷ false ∷ [];
    route_ask = route_ask;
    expects = None ∷ None ∷ [];
  } ∷ unknown_train false ∷ unknown_train false ∷ [];
  announced = count;
  frames = [] ∷ [] ∷ [];
  sayings = [];
  words = [];
}

-- at B: sections 4 to 6 are out, train 1 has this session and expectation, and train 2's right is here
abbrev pub calm_at_b : Phase → Option ℕ → (said : ℕ) → Expectation → Effect
calm_at_b phase heard said e = record {
  book = Shut ∷ Shut ∷ Shut ∷ Shut ∷ Out 1 ∷ Out 1 ∷ Out 1 ∷ Shut ∷ [];
  wished = [];
  trains = record {
    phase = phase;
    heard = heard;
    said = said;
    mission = None;
    wait = None;
    rights = false ∷ false ∷ [];
    route_ask = None;
    expects = Some e ∷ None ∷ [];
  } ∷ unknown_train true ∷ unknown_train false ∷ [];
  announced = 0;
  frames = [] ∷ [] ∷ [];
  sayings = [];
  words = [];
}

-- train 1's mission at A with this hand and handover
abbrev pub mission_at_a : SectionRun → SectionRun → Option Handing → Mission
mission_at_a hand pool handing = record {
  place = record { track = 0; group = group_1; front = 16200; rear = Some (pos 13900) };
  hand = hand;
  pool = pool;
  has_data = true;
  is_ended = false;
  proposal = None;
  handing = handing;
}

-- ## Frames

-- Frames about an engine, section or track that is not of the line. Frames that answer no pending question, or name
-- another first section. Frames about a right that is here, or has another registrar. Frames about no handover.
abbrev pub strays_to_a : List Body
strays_to_a =
    AskRight 2 ∷ AskRight 3 ∷ GiveRight 1 ∷ GiveRight 3 ∷ RefuseRight 1 ∷ ReturnRight 1 ∷ ReturnRight 2
    ∷ RouteAsk 1 8 5 ∷ RouteAsk 3 1 5
    ∷ RouteInfo 1 (record { first = 5; count = 1 }) ∷ RouteInfo 1 (record { first = 4; count = 5 })
    ∷ RouteInfo 2 (record { first = 4; count = 1 })
    ∷ RouteInfo 3 (record { first = 4; count = 1 })
    ∷ RouteWithdraw 1 7 ∷ RouteWithdraw 1 9 ∷ RouteWithdraw 2 2
    ∷ RouteReturn 1 (record { first = 1; count = 1 }) ∷ RouteReturn 1 (record { first = 7; count = 2 })
    ∷ RouteReturn 2 (record { first = 1; count = 3 })
    ∷ Announce 1 1 1 ∷ Announce 1 3 0 ∷ Cancel 1 1 ∷ TakingOver 1 1 ∷ the_yield ∷ []

-- a section of B, lent by another centre than its home
abbrev pub strays_from_c : List Body
strays_from_c = RouteInfo 1 (record { first = 4; count = 1 }) ∷ []

-- the reply that the train is taken over, with another number of the handover, or for another train
abbrev pub strays_to_the_announcing : List Body
strays_to_the_announcing = TakingOver 2 1 ∷ TakingOver 1 2 ∷ TakingOver 1 3 ∷ []

-- a second announcement, another number, and a Yield before B has replied that it takes over
abbrev pub strays_to_the_expecting : List Body
strays_to_the_expecting = Announce 2 1 0 ∷ Cancel 2 1 ∷ Cancel 1 2 ∷ the_yield ∷ []

-- a Yield of this number, train and hand, with this track, group and front in its place
abbrev pub yield_of : (number t track group : ℕ) → ℤ → SectionRun → Body
yield_of number t track group front hand =
    Yield number t 6 true false (record { track = track; group = group; front = front; rear = Some (pos 13900) }) hand

abbrev pub one_to_six : SectionRun
one_to_six = record { first = 1; count = 6 }

-- Yields with another number, or of another train. With a track that is not the hand's, with a group that is not of the
-- line, or with a front before the group. With an own section that is not out, or with sections that are not of the
-- line.
abbrev pub strays_to_the_taking : List Body
strays_to_the_taking =
    yield_of 2 1 0 group_1 (pos 16200) one_to_six ∷ yield_of 1 2 0 group_1 (pos 16200) one_to_six
    ∷ yield_of 1 3 0 group_1 (pos 16200) one_to_six
    ∷ yield_of 1 1 1 group_1 (pos 16200) one_to_six ∷ yield_of 1 1 0 82100 (pos 16200) one_to_six
    ∷ yield_of 1 1 0 group_1 (pos 9999) one_to_six
    ∷ yield_of 1 1 0 group_1 (pos 16200) (record { first = 1; count = 7 })
    ∷ yield_of 1 1 0 group_1 (pos 16200) (record { first = 5; count = 5 }) ∷ []

-- fronts before the track: by one decimetre, and by the most that four bytes can spell
abbrev pub fronts_before_the_track : List Body
fronts_before_the_track =
    yield_of 1 1 0 group_1 (pos 0 -ℤ pos 1) one_to_six ∷ yield_of 1 1 0 group_1 (pos 0 -ℤ pos 2147483648) one_to_six
    ∷ []

-- a front at the start of its group is accepted
abbrev pub least_front : Body
least_front = yield_of 1 1 0 group_1 (pos 10000) one_to_six

abbrev pub missions_taken : List (Option Mission)
missions_taken = map (λ body. (received line 1 0 body taking_over).state.mission 1) (the_yield ∷ least_front ∷ [])

abbrev pub mission_at : ℕ → Mission
mission_at front =
    record (mission_at_a one_to_six no_run None) {
      place = record {
        track = 0;
        group = group_1;
        front = front;
        rear = Some (pos 13900);
      };
    }

-- ## The effects

-- train 1 has asked for sections in advance of its hand of three sections
abbrev pub calm_asking : Effect
calm_asking = calm_at_a (mission_at_a (record { first = 1; count = 3 }) no_run None) 5 4 (Some 4) 0

-- its hand of six is announced to B
abbrev pub calm_announcing : Effect
calm_announcing =
    calm_at_a (mission_at_a one_to_six (record { first = 7; count = 0 }) (Some (record { number = 1; to = 1 }))) 6 6
    (Some 7) 1

abbrev pub calm_expecting : Effect
calm_expecting = calm_at_b Closed None 0 (record { number = 1; is_taking = false })

abbrev pub calm_taking : Effect
calm_taking = calm_at_b Up (Some 9) 1 (record { number = 1; is_taking = true })

-- a frame without effect is still the next of its link
abbrev pub taken_without_effect : ℕ → Effect → Option Delivered
taken_without_effect number effect = Some (record { link = Some Next; taken = number; effect = effect })
