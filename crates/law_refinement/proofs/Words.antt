-- The words, the work and the clock of a step.
use Rattle.std.proofs.Common.{[], ◌++◌, ◌==◌, ◌∙◌, ◌∷◌, ◌≡◌, ap, Bool, false, if◌then◌else◌, List, None, Option, refl}
use Rattle.std.proofs.Common.{Some, subst, sym, true, ℕ}
use Rattle.std.specs.Option.{option_map_or}
use Rattle.law_base.proofs.CountingLemmas.Network.{way_acted_none}
use Rattle.law_base.proofs.CountingLemmas.Resource.{carried_none}
use Rattle.law_base.proofs.CountingLemmas.Sums.{put_same}
use Rattle.law_base.proofs.WalkLemmas.Acts.{end_order_walks, propose_if_walks, return_right_walks}
use Rattle.law_base.proofs.WalkLemmas.Causes.{May, still}
use Rattle.law_base.proofs.WalkLemmas.FrameAnswers.{of_taking, received_taking}
use Rattle.law_base.proofs.WalkLemmas.Frames.{frame_may, frame_speaks}
use Rattle.law_base.proofs.WalkLemmas.Moves.{Answer, drops, frees, Move, of_walk, tells, Walk}
use Rattle.law_base.specs.Counting.Network.{acted, TakesHead, took}
use Rattle.law_base.specs.Counting.Resource.{placed}
use Rattle.law_invariants.proofs.FlowLemmas.Shown.{acted_twice}
use Rattle.law_invariants.proofs.FlowLemmas.Steps.{aside_sound}
use Rattle.law_invariants.specs.Flow.Counts.{hands, missions}
use Rattle.law_invariants.specs.Flow.Flow.{Flow, took_frame}
use Rattle.law_invariants.specs.Flow.Keeping.{nothing_came}
use Rattle.law_invariants.specs.Flow.Leads.{HeardAs, Leads, replied}
use Rattle.law_invariants.specs.Flow.Shows.{Shows}
use Rattle.law_invariants.specs.Flow.Sound.{IsFlowSound}
use Rattle.law_refinement.proofs.AbstractionLemmas.Shows.{by_itself, part_stays, unseen_shown}
use Rattle.law_refinement.specs.Routes.Interlocking.{LeadsFrom}
use Rattle.rbc_spec.specs.Acts.{◌>>◌, Act, cancel, close, end_order, propose_if_so, Reply, rest, return_right, where_so}
use Rattle.rbc_spec.specs.Acts.{with_some}
use Rattle.rbc_spec.specs.Centre.{Centre, Entry, Mission, Open, Out, Phase, Shut, Taken}
use Rattle.rbc_spec.specs.Frame.{Body, Frame}
use Rattle.rbc_spec.specs.Line.{is_centre, is_linked, Line}
use Rattle.rbc_spec.specs.LineCentre.{hears, LineState}
use Rattle.rbc_spec.specs.Links.{received}
use Rattle.rbc_spec.specs.Maps.{put}
use Rattle.rbc_spec.specs.Message.{TrainBody, TrainMessage}
use Rattle.rbc_spec.specs.Outcome.{Word}
use Rattle.rbc_spec.specs.Step as step
use Rattle.rbc_spec.specs.Step.{ticked, wished}

-- # The replies of acts to the interlocking: most acts have none.

-- in every state of the centre, the replies of the act have the property P
pub record Tells (P : List Word → Type 0) (act : Act) : Type 0 where
  pub each : (k : Centre) → P (act k).words

abbrev pub IsNone : List Word → Type 0
IsNone words = words ≡ []

abbrev pub IsSilent : Act → Type 0
IsSilent act = Tells IsNone act

pub both : (a b : Act) → IsSilent a → IsSilent b → IsSilent (a >> b)
unfolding ◌>>◌
both a b first second = record {
  each = λ k. ap (λ (ws : List Word). ws ++ (b (a k).state).words) (first.each k)
      ∙ second.each (a k).state;
}

-- ## Of one act or another

module _ (P : List Word → Type 0) (none : P []) where
  pub branch : (z : Bool) (a b : Act) → Tells P a → Tells P b → Tells P (if z then a else b)
  branch true a b one other = one
  branch false a b one other = other

  pub when : (test : Centre → Bool) (a : Act) → Tells P a → Tells P (where_so test a)
  when test a said = record { each = λ k. by_test k (test k) }
    where
      by_test : (k : Centre) (z : Bool) → P (if z then a k else rest k).words
      by_test k true = said.each k
      by_test k false = none

  pub of_some : {X : Type 0} (value : Centre → Option X) (act : X → Act) → ((x : X) → Tells P (act x))
      → Tells P (with_some value act)
  of_some value act said = record { each = λ k. by_value k (value k) }
    where
      by_value : (k : Centre) (o : Option _) → P (option_map_or (λ x. act x k) o (rest k)).words
      by_value k None = none
      by_value k (Some x) = (said x).each k

  pub of_option : {X : Type 0} (o : Option X) (act : X → Act) (a : Act) → ((x : X) → Tells P (act x)) → Tells P a
      → Tells P (option_map_or act o a)
  of_option None act a each other = other
  of_option (Some x) act a each other = each x

-- ## A walk that may not speak is silent

module _ (line : Line) (c : ℕ) where
  abbrev NoWords : Centre → Reply → Type 0
  NoWords k q = IsNone q.words

  moves : (may : May) → may.speaks ≡ false → (was k : Centre) (q : Reply) → Move line c may was k q → NoWords k q
  moves may quiet was _ _ (tells word k so) = cc
  moves may quiet was _ _ (frees is_meant r k so) = cc
  moves may quiet was k q move = refl

  joins : (a b : Act) (k : Centre) → NoWords k (a k) → NoWords (a k).state (b (a k).state) → NoWords k ((a >> b) k)
  unfolding ◌>>◌
  joins a b k one two = ap (λ (ws : List Word). ws ++ (b (a k).state).words) one ∙ two

  pub silent : (may : May) → may.speaks ≡ false → (was k : Centre) (q : Reply)
      → Walk line c may was k q → IsNone q.words
  silent may quiet was = of_walk line c may was NoWords (record { moves = moves may quiet was; joins = joins })

  -- an answer that may not speak has no reply to the interlocking
  answers : (may : May) → may.speaks ≡ false → (was : Centre) (d : ℕ) (body : Body) (q : Reply)
      → Answer line c may was d body q → NoWords was q
  answers may quiet was d _ _ (drops t place so asked waits) = cc
  answers may quiet was d body q answer = refl

  pub silent_frame : (d : ℕ) (body : Body) → frame_speaks body ≡ false → IsSilent (received line c d body)
  silent_frame d body quiet = record {
    each = λ k. of_taking line c d k body NoWords (record { moves = moves (frame_may d body) quiet k; joins = joins })
        (answers (frame_may d body) quiet k d body) (received line c d body k) (received_taking line c d k body);
  }

  pub cancel_silent : (t : ℕ) (m : Mission) → IsSilent (cancel t m)
  cancel_silent t m = of_option IsNone refl m.handing _ _
      (λ h. both _ _ (record { each = λ k. refl }) (record { each = λ k. refl })) (record { each = λ k. refl })

  pub close_silent : (t : ℕ) (m : Mission) → IsSilent (close line c t m)
  close_silent t m = both _ _ (both _ _ (record { each = λ k. refl }) (cancel_silent t m))
      (record {
        each = λ k. silent (still t) refl k k (return_right line c t k)
            (return_right_walks line c (still t) k t refl k);
      })

  pub end_silent : (t : ℕ) → IsSilent (end_order line c t)
  end_silent t =
      record { each = λ k. silent (still t) refl k k (end_order line c t k) (end_order_walks line c (still t) k t k) }

  pub wished_silent : (s : ℕ) (e : Entry) → IsSilent (wished line c s e)
  wished_silent s Shut = record { each = λ k. refl }
  wished_silent s Open = record { each = λ k. refl }
  wished_silent s (Taken t) =
      record {
        each = λ k. silent (still t) refl k k (propose_if_so line t s k)
            (propose_if_walks line c (still t) k t s k);
      }
  wished_silent s (Out t) = record { each = λ k. refl }

-- # The effect of a message, a set, an unset or a frame on the one line centre. A centre of the line acts in a sound
-- flow.

-- centre c, which is k, acts in a sound flow that v shows
pub record IsAtWork (line : Line) (w : Flow) (c : ℕ) (k : Centre) (v : LineState) : Type 0 where
  pub sound : IsFlowSound line w
  pub shows : Shows line w v
  pub to : is_centre line c ≡ true
  pub state : w.at c ≡ k

-- on the next frame of its link from a
pub record IsBrought (line : Line) (w : Flow) (a c : ℕ) (f : Body) (k : Centre) (v : LineState) : Type 0 where
  pub at_work : IsAtWork line w c k v
  pub from : is_centre line a ≡ true
  pub linked : is_linked line c a ≡ true
  pub head : TakesHead w a c f

abbrev pub message : ℕ → ℕ → TrainBody → TrainMessage
message t_train t body = record { t_train = t_train; nid_engine = t; body = body }

-- the effect of a message that is not silent
abbrev pub Answers : Line → TrainBody → Type 0
Answers line body = (w : Flow) (c : ℕ) (k : Centre) (v : LineState) (t_train t : ℕ) → IsAtWork line w c k v
    → step.silence line c k (message t_train t body) ≡ None
    → LeadsFrom line w c (HeardAs line (hears c (message t_train t body) v) c (message t_train t body) body)
    (step.hear_and_answer line c (message t_train t body) k)

-- the effect of the next frame of a link
abbrev pub Brings : Line → Body → Type 0
Brings line f = (w : Flow) (a c number : ℕ) (k : Centre) (v : LineState) → IsBrought line w a c f k v
    → Leads line (took w a c) c (received line c a f (took_frame a number k)) v

-- # A centre's clock, and the state of its links, are not shown.

-- the centre with another clock and other links
abbrev pub stamped : Centre → ℕ → (ℕ → List Frame) → (ℕ → ℕ) → Centre
stamped k clock sent taken = record k { clock = clock; sent = sent; taken = taken }

-- each centre so
abbrev restamped : Flow → (ℕ → Centre) → Flow
restamped w links =
    record { at = λ d. stamped (w.at d) (links d).clock (links d).sent (links d).taken; sent = w.sent; taken = w.taken }

shows_restamped : (line : Line) (w : Flow) (links : ℕ → Centre) (v : LineState) → Shows line w v
    → Shows line (restamped w links) v
unfolding placed
shows_restamped line w links v sees = record {
  phase = sees.phase;
  heard = sees.heard;
  said = sees.said;
  wait = sees.wait;
  wish = sees.wish;
  mark = sees.mark;
  no_section = sees.no_section;
  no_wish = sees.no_wish;
  mission = sees.mission;
  on_way = sees.on_way;
  no_mission = sees.no_mission;
}

-- a state that shows the flow after an act shows it with another clock and other links of the centre
pub shows_stamped : (line : Line) (w : Flow) (c : ℕ) (k : Centre) (frames : ℕ → List Body) (clock : ℕ) (sent : ℕ
    → List Frame) (taken : ℕ → ℕ) (v : LineState)
    → Shows line (acted w c k frames) v → Shows line (acted w c (stamped k clock sent taken) frames) v
shows_stamped line w c k frames clock sent taken v sees =
    subst (λ (u : Flow). Shows line u v)
    (λ i. record { at = λ d. same d i; sent = (acted w c k frames).sent; taken = w.taken })
    (shows_restamped line (acted w c k frames) (put w.at c (stamped k clock sent taken)) v sees)
  where
    same : (d : ℕ) → stamped (put w.at c k d) (put w.at c (stamped k clock sent taken) d).clock
        (put w.at c (stamped k clock sent taken) d).sent (put w.at c (stamped k clock sent taken) d).taken
        ≡ put w.at c (stamped k clock sent taken) d
    same d = by_here (d == c)
      where
        by_here : (b : Bool)
            → stamped (if b then k else w.at d) (if b then stamped k clock sent taken else w.at d).clock
            (if b then stamped k clock sent taken else w.at d).sent
            (if b then stamped k clock sent taken else w.at d).taken
            ≡ (if b then stamped k clock sent taken else w.at d)
        by_here true = refl
        by_here false = refl

-- ## A step begins with its clock

module _ (line : Line) (w : Flow) (c : ℕ) (v : LineState) (stamp : ℕ) (at_work : IsAtWork line w c (w.at c) v) where
  abbrev pub k : Centre
  k = ticked stamp (w.at c)

  -- the flow in which the clock of the centre shows the stamp
  abbrev pub begun : Flow
  begun = acted w c k (λ d. [])

  begun_sound : IsFlowSound line begun
  begun_sound = aside_sound line w at_work.sound c at_work.to k
      (record {
        book = refl;
        wish = refl;
        mission = refl;
        wait = refl;
        has_right = refl;
        expects = refl;
        announced = refl;
        asks = λ t first is. is;
        heard = λ t h. h;
      })

  pub begun_shown : Shows line begun v
  begun_shown = unseen_shown line w c nothing_came k (λ d. []) begun v v.phase v.heard v.said
      at_work.sound at_work.shows at_work.to
      (by_itself line w c k (λ d. []) at_work.sound.counted at_work.to)
      (record {
        book = λ s. refl;
        wish = λ s. refl;
        wait = λ t. refl;
        mission = λ t. refl;
        hand = λ t s. refl;
        no_mission_came = λ t. refl;
        no_hand_came = λ t s. refl;
        no_mission_sent = λ t d. carried_none (missions t) c d;
        no_hand_sent = λ t s d. carried_none (hands t s) c d;
      })
      (part_stays Phase c v.phase k.phase (λ t. at_work.shows.phase t c))
      (part_stays (Option ℕ) c v.heard k.heard (λ t. at_work.shows.heard t c))
      (part_stays ℕ c v.said k.said (λ t. at_work.shows.said t c))

  pub begun_at_work : IsAtWork line begun c k v
  begun_at_work = record { sound = begun_sound; shows = begun_shown; to = at_work.to; state = put_same w.at c k }

  pub begun_brought : (a : ℕ) (f : Body) → is_centre line a ≡ true → is_linked line c a ≡ true → TakesHead w a c f
      → IsBrought line begun a c f k v
  begun_brought a f from linked takes = record {
    at_work = begun_at_work;
    from = from;
    linked = linked;
    head = record {
      head = way_acted_none w c k a c ∙ takes.head
          ∙ ap (λ fs. f ∷ fs) (sym (way_acted_none (took w a c) c k a c));
    };
  }

  -- the flow after a reply is that after it without the clock
  pub begun_replied : (r : Reply) → replied begun c r ≡ replied w c r
  begun_replied r = acted_twice w c k r.state (λ d. []) r.frames

  pub begun_taken : (a : ℕ) (r : Reply) → replied (took begun a c) c r ≡ replied (took w a c) c r
  begun_taken a r = acted_twice (took w a c) c k r.state (λ d. []) r.frames
