-- A frame that is the next of its link, at its receiver: the invariants that it keeps, and its parts that are not seen.
use Rattle.std.proofs.Common.{[], ◌∙◌, ◌≡◌, ap, arith, Bool, false, if◌then◌else◌, List, Option, refl, sym, true, ℕ}
use Rattle.law_base.proofs.CountingLemmas.Resource.{carried_none}
use Rattle.law_base.proofs.LocalLemmas.Worlds.{is_ordered}
use Rattle.law_base.specs.Counting.Network.{TakesHead, took}
use Rattle.law_base.specs.Counting.Resource.{IsFair, Resource}
use Rattle.law_invariants.proofs.HandoverLemmas.Frames.{Fits, goes_received}
use Rattle.law_invariants.proofs.NoCopyLemmas.Frames.{fair_received}
use Rattle.law_invariants.proofs.NoCopyLemmas.Ready.{Ready, ready_again}
use Rattle.law_invariants.proofs.NoCopyLemmas.Rights.{rights_counted, rights_ready, rights_tally}
use Rattle.law_invariants.proofs.NoCopyLemmas.Tally.{IsTally, Tally}
use Rattle.law_invariants.proofs.NoCopyLemmas.Tokens.{tokens_counted, tokens_ready, tokens_tally}
use Rattle.law_invariants.proofs.SoundLemmas.Again.{free_sound}
use Rattle.law_invariants.specs.Flow.Counts.{hands, missions, wait_has}
use Rattle.law_invariants.specs.Flow.Flow.{centre_count, Flow}
use Rattle.law_invariants.specs.Flow.Keeping.{came_with, IsFairAct, LeavesSound, nothing_came}
use Rattle.law_invariants.specs.Flow.Leads.{Leads, replied, said_by}
use Rattle.law_invariants.specs.Flow.Shows.{Shows}
use Rattle.law_invariants.specs.Flow.Sound.{IsCentreSound, IsFlowSound}
use Rattle.law_invariants.specs.Handover.Orderly.{IsTakenWith}
use Rattle.law_refinement.proofs.AbstractionLemmas.Shows.{at_head, part_stays, unseen_shown}
use Rattle.law_refinement.proofs.FollowupsLemmas.Keeps.{head_keeps}
use Rattle.law_refinement.proofs.FollowupsLemmas.Moves.{unseen_still}
use Rattle.law_refinement.specs.Abstraction.After.{IsUnseen}
use Rattle.rbc_spec.specs.Acts.{Act, Reply, rest}
use Rattle.rbc_spec.specs.Centre.{Centre, Phase}
use Rattle.rbc_spec.specs.Frame.{Body}
use Rattle.rbc_spec.specs.Line.{is_centre, IsLine, Line}
use Rattle.rbc_spec.specs.LineCentre.{LineState, nothing}
use Rattle.rbc_spec.specs.Links.{received}
use Rattle.rbc_spec.specs.Maps.{put}

-- The centre in the state that the frame from a finds, with these sessions. The frame is counted, and the clock shows
-- the stamp of the step.
abbrev pub met : Flow → ℕ → ℕ → (ℕ → Phase) → ℕ → ℕ → Centre
met w a c phase number stamp = record (w.at c) { phase = phase; clock = stamp; taken = put (w.at c).taken a number }

-- ## Invariants

module _ (line : Line) (ok : IsLine line) (w : Flow) (sound : IsFlowSound line w) (a c : ℕ)
    (to : is_centre line c ≡ true) (phase : ℕ → Phase) (number stamp : ℕ) where
  abbrev j : Centre
  j = met w a c phase number stamp

  pub met_sound : IsCentreSound line c (met w a c phase number stamp)
  met_sound = free_sound line c (w.at c) (sound.centres c to) j refl refl refl refl (λ u is. is)
      (omega arith) (sound.centres c to).asks

  module _ (f : Body) where
    abbrev q : Reply
    q = received line c a f j

    fair_of : (y : Tally) → IsTally line c y → Ready line c y (w.at c) → y.exact ≡ false
        → IsFair y.res (centre_count line) c (w.at c) (came_with a c f y.res) q.state q.frames
    fair_of y is ready unlike = record {
      law = omega (
        arith,
        (fair_received line c y is a f j
            (λ t place waits covers. (sound.centres c to).wait_home t y.section
            (ap (λ o. wait_has line o y.section) waits ∙ covers))
            (ready_again line c y (w.at c) j refl refl refl ready)
            (λ so. absurd (let wrong : true ≡ false = sym so ∙ unlike in cc))
            (λ so. absurd (let wrong : true ≡ false = sym so ∙ unlike in cc))).law,
        is.held (w.at c),
        is.cap (w.at c),
        is.held q.state,
        is.cap q.state,
      );
    }

    -- the centre makes no more of it than arrived
    pub received_fair : IsFairAct line c (w.at c) (came_with a c f)
        (received line c a f (met w a c phase number stamp)).state
        (received line c a f (met w a c phase number stamp)).frames
    received_fair = record {
      rights = λ t. fair_of (rights_tally line c t) (rights_counted line c t) (rights_ready line c t (w.at c)) refl;
      tokens = λ t s. fair_of (tokens_tally line c t s) (tokens_counted line (is_ordered line ok) c t s)
          (tokens_ready line (is_ordered line ok) c t s (w.at c)) refl;
    }

    module _ (fits : Fits line c a f j) where
      -- the frame is taken in order
      pub received_taken : IsTakenWith a f (w.at c) (received line c a f (met w a c phase number stamp)).state
          (received line c a f (met w a c phase number stamp)).frames
      received_taken = let comes = goes_received line c a f j fits in record {
        y = comes.y;
        taking = record {
          leads = comes.taking.leads;
          expected = comes.taking.expected;
          waits = comes.taking.waits;
          announced = comes.taking.announced;
          number = comes.taking.number;
          handing = comes.taking.handing;
        };
        after = comes.after;
      }

      pub received_kept : is_centre line a ≡ true → TakesHead w a c f
          → LeavesSound line c (received line c a f (met w a c phase number stamp)).state
          (received line c a f (met w a c phase number stamp)).frames
          → IsFlowSound line (replied (took w a c) c (received line c a f (met w a c phase number stamp)))
      received_kept from head leaves = head_keeps line ok c w sound to q leaves a f from head
          received_fair received_taken

-- ## Values that are not shown

-- a reply that changes no shown value, without messages and replies
pub record IsUnshown (c : ℕ) (k : Centre) (came : Resource Centre Body → ℕ) (q : Reply) : Type 0 where
  pub silent : said_by q ≡ nothing
  pub unseen : IsUnseen c k came q.state q.frames
  pub phase : q.state.phase ≡ k.phase
  pub heard : q.state.heard ≡ k.heard
  pub said : q.state.said ≡ k.said

module _ (c : ℕ) (k : Centre) (came : Resource Centre Body → ℕ) where
  pub unshown_if : (b : Bool) (p q : Reply) → IsUnshown c k came p → IsUnshown c k came q
      → IsUnshown c k came (if b then p else q)
  unshown_if true p q one two = one
  unshown_if false p q one two = two

  pub unshown_if_act : (b : Bool) (f g : Act) (x : Centre) → IsUnshown c k came (f x) → IsUnshown c k came (g x)
      → IsUnshown c k came ((if b then f else g) x)
  unshown_if_act true f g x one two = one
  unshown_if_act false f g x one two = two

  -- if no part of a hand or a mission arrived, it is as if nothing arrived
  pub head_unseen : (y : Centre) (frames : ℕ → List Body) → IsUnseen c k nothing_came y frames
      → ((t : ℕ) → came (missions t) ≡ 0) → ((t s : ℕ) → came (hands t s) ≡ 0) → IsUnseen c k came y frames
  head_unseen y frames same no_mission no_hand = record {
    book = same.book;
    wish = same.wish;
    wait = same.wait;
    mission = same.mission;
    hand = same.hand;
    no_mission_came = no_mission;
    no_hand_came = no_hand;
    no_mission_sent = same.no_mission_sent;
    no_hand_sent = same.no_hand_sent;
  }

  -- only a state, whose shown parts are the same
  pub unshown_state : (y : Centre) → y.book ≡ k.book → y.wish ≡ k.wish → y.wait ≡ k.wait → y.mission ≡ k.mission
      → y.phase ≡ k.phase → y.heard ≡ k.heard → y.said ≡ k.said
      → ((t : ℕ) → came (missions t) ≡ 0) → ((t s : ℕ) → came (hands t s) ≡ 0) → IsUnshown c k came (rest y)
  unshown_state y book wish wait mission phase heard said no_mission no_hand = record {
    silent = refl;
    unseen = head_unseen y (λ d. []) (unseen_still c k y (λ d. []) book wish wait mission
        (λ t d. carried_none (missions t) c d) (λ t s d. carried_none (hands t s) c d)) no_mission no_hand;
    phase = phase;
    heard = heard;
    said = said;
  }

-- it has no quiet step
module _ (line : Line) (w : Flow) (sound : IsFlowSound line w) (v : LineState) (sees : Shows line w v) (a c : ℕ)
    (from : is_centre line a ≡ true) (to : is_centre line c ≡ true) (f : Body)
    (head : TakesHead w a c f) where
  pub unshown_leads : (q : Reply) → IsUnshown c (w.at c) (came_with a c f) q
      → IsFlowSound line (replied (took w a c) c q) → Leads line (took w a c) c q v
  unshown_leads q apart kept = record {
    quiets = [];
    new = v;
    takes = (apart.silent, refl);
    own_centre = refl;
    shows = unseen_shown line w c (came_with a c f) q.state q.frames (replied (took w a c) c q) v v.phase
        v.heard v.said sound sees to
        (at_head line w a c f q.state q.frames sound.counted from to head) apart.unseen
        (part_stays Phase c v.phase q.state.phase (λ t. sees.phase t c ∙ ap (λ (g : ℕ → Phase). g t) (sym apart.phase)))
        (part_stays (Option ℕ) c v.heard q.state.heard (λ t. sees.heard t c
        ∙ ap (λ (g : ℕ → Option ℕ). g t) (sym apart.heard)))
        (part_stays ℕ c v.said q.state.said (λ t. sees.said t c ∙ ap (λ (g : ℕ → ℕ). g t) (sym apart.said)));
    sound = kept;
  }
