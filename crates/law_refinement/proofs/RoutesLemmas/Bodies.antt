-- The next frame of a link is taken. Its effect keeps all sound, and a body that changes no shown value leads to no
-- quiet step.
use Rattle.std.proofs.Common.{[], ◌∙◌, ◌≡◌, ap, arith, Bool, false, if◌then◌else◌, List, None, Option, option_map, refl}
use Rattle.std.proofs.Common.{Some, subst, sym, true, ℕ}
use Rattle.std.specs.Option.{option_map_or}
use Rattle.law_base.proofs.CountingLemmas.Resource.{carried_none}
use Rattle.law_base.proofs.LocalLemmas.Worlds.{is_ordered}
use Rattle.law_base.specs.Counting.Network.{TakesHead, took}
use Rattle.law_base.specs.Counting.Resource.{IsFair}
use Rattle.law_base.specs.Local.Local.{hand_has}
use Rattle.law_invariants.proofs.HandoverLemmas.Frames.{Fits, goes_received, passes}
use Rattle.law_invariants.proofs.HandoverLemmas.Orderly.{still}
use Rattle.law_invariants.proofs.NoCopyLemmas.Frames.{fair_received}
use Rattle.law_invariants.proofs.NoCopyLemmas.Ready.{Ready, ready_again}
use Rattle.law_invariants.proofs.NoCopyLemmas.Rights.{rights_counted, rights_ready, rights_tally}
use Rattle.law_invariants.proofs.NoCopyLemmas.Tally.{eased, Fair, fair_rest, IsTally, Tally}
use Rattle.law_invariants.proofs.NoCopyLemmas.Tokens.{tokens_counted, tokens_ready, tokens_tally}
use Rattle.law_invariants.proofs.SoundLemmas.Again.{free_sound}
use Rattle.law_invariants.proofs.SoundLemmas.Sends.{if_sound, rest_sound, Sound}
use Rattle.law_invariants.specs.Flow.Counts.{hands, missions, wait_has}
use Rattle.law_invariants.specs.Flow.Flow.{centre_count, Flow, took_frame}
use Rattle.law_invariants.specs.Flow.Keeping.{came_with, IsFairAct}
use Rattle.law_invariants.specs.Flow.Leads.{Leads, replied, said_by}
use Rattle.law_invariants.specs.Flow.Pairs.{follows}
use Rattle.law_invariants.specs.Flow.Shows.{Shows}
use Rattle.law_invariants.specs.Flow.Sound.{IsCentreSound, IsFlowSound}
use Rattle.law_invariants.specs.Handover.Orderly.{IsTakenWith}
use Rattle.law_refinement.proofs.AbstractionLemmas.Shows.{at_head, part_stays, unseen_shown}
use Rattle.law_refinement.proofs.FollowupsLemmas.Keeps.{head_keeps}
use Rattle.law_refinement.specs.Abstraction.Acts.{SendsNone}
use Rattle.law_refinement.specs.Abstraction.After.{IsUnseen}
use Rattle.rbc_spec.specs.Acts.{Act, Reply, rest}
use Rattle.rbc_spec.specs.Centre.{Centre, Entry, Mission, Phase}
use Rattle.rbc_spec.specs.Frame.{Body}
use Rattle.rbc_spec.specs.Line.{is_centre, IsLine, Line}
use Rattle.rbc_spec.specs.LineCentre.{LineState, nothing}
use Rattle.rbc_spec.specs.Links.{is_train, of_train, received}
use Rattle.rbc_spec.specs.Place.{Place}
use Rattle.rbc_spec.specs.ReadOff.{seen}

-- a body that hands over no mission and no hand, and does not announce or cancel a handover
pub record IsAside (f : Body) : Type 0 where
  pub follows : (t : ℕ) (n : Option ℕ) → follows t f n ≡ Some n
  pub mission : (a c t : ℕ) → (missions t).inside a c f ≡ 0
  pub hand : (a c t s : ℕ) → (hands t s).inside a c f ≡ 0

-- ## By cases, sound as they are

module _ (line : Line) (w : Flow) (c : ℕ) (v : LineState) where
  pub leads_if : (b : Bool) (p q : Reply) → IsFlowSound line (replied w c (if b then p else q))
      → (b ≡ true → IsFlowSound line (replied w c p) → Leads line w c p v)
      → (b ≡ false → IsFlowSound line (replied w c q) → Leads line w c q v) → Leads line w c (if b then p else q) v
  leads_if true p q sound one two = one refl sound
  leads_if false p q sound one two = two refl sound

  pub leads_or : {X : Type 0} (o : Option X) (f : X → Reply) (q : Reply)
      → IsFlowSound line (replied w c (option_map_or f o q))
      → ((x : X) → o ≡ Some x → IsFlowSound line (replied w c (f x)) → Leads line w c (f x) v)
      → (o ≡ None → IsFlowSound line (replied w c q) → Leads line w c q v)
      → Leads line w c (option_map_or f o q) v
  leads_or None f q sound some none = none refl sound
  leads_or (Some x) f q sound some none = some x refl sound

  pub leads_if_act : (b : Bool) (f g : Act) (k : Centre) → IsFlowSound line (replied w c ((if b then f else g) k))
      → (b ≡ true → IsFlowSound line (replied w c (f k)) → Leads line w c (f k) v)
      → (b ≡ false → IsFlowSound line (replied w c (g k)) → Leads line w c (g k) v)
      → Leads line w c ((if b then f else g) k) v
  leads_if_act true f g k sound one two = one refl sound
  leads_if_act false f g k sound one two = two refl sound

  pub leads_or_act : {X : Type 0} (o : Option X) (f : X → Act) (g : Act) (k : Centre)
      → IsFlowSound line (replied w c (option_map_or f o g k))
      → ((x : X) → o ≡ Some x → IsFlowSound line (replied w c (f x k)) → Leads line w c (f x k) v)
      → (o ≡ None → IsFlowSound line (replied w c (g k)) → Leads line w c (g k) v)
      → Leads line w c (option_map_or f o g k) v
  leads_or_act None f g k sound some none = none refl sound
  leads_or_act (Some x) f g k sound some none = some x refl sound

-- ## At the head of a link

module _ (line : Line) (ok : IsLine line) (w : Flow) (sound : IsFlowSound line w) (a c number : ℕ)
    (from : is_centre line a ≡ true) (to : is_centre line c ≡ true) (f : Body) (head : TakesHead w a c f) where
  -- the centre that has counted the frame as taken
  abbrev pub k : Centre
  k = took_frame a number (w.at c)

  pub sound_here : IsCentreSound line c (took_frame a number (w.at c))
  sound_here = free_sound line c (w.at c) (sound.centres c to) (took_frame a number (w.at c)) refl refl refl refl
      (λ u is. is) (omega arith) (sound.centres c to).asks

  -- for each counted amount the reply makes no more than arrived with the frame, if losses are not counted
  abbrev pub MakesNoMore : Reply → Type 0
  MakesNoMore q = (y : Tally) → IsTally line c y → Ready line c y (took_frame a number (w.at c)) → (y.exact ≡ true → ⊥)
      → Fair line c y (took_frame a number (w.at c)) (y.res.inside a c f) 0 q

  made_fair : (q : Reply) → MakesNoMore q → IsFairAct line c (w.at c) (came_with a c f) q.state q.frames
  made_fair q makes = record {
    rights = λ t. counted (rights_tally line c t) (rights_counted line c t) (rights_ready line c t (w.at c)) (λ so. cc);
    tokens = λ t s. counted (tokens_tally line c t s) (tokens_counted line (is_ordered line ok) c t s)
        (tokens_ready line (is_ordered line ok) c t s (w.at c)) (λ so. cc);
  }
    where
      counted : (y : Tally) → IsTally line c y → Ready line c y (w.at c) → (y.exact ≡ true → ⊥)
          → IsFair y.res (centre_count line) c (w.at c) (y.res.inside a c f) q.state q.frames
      counted y is ready unlike = record {
        law = omega (
          arith,
          (makes y is (ready_again line c y (w.at c) (took_frame a number (w.at c)) refl refl refl ready)
              unlike).law,
          is.held (w.at c),
          is.cap (w.at c),
          is.held q.state,
          is.cap q.state,
        );
      }

  -- such a reply, which leaves sound parts and is orderly, keeps all sound
  pub reply_keeps : (q : Reply) → Sound line c q → MakesNoMore q → IsTakenWith a f (w.at c) q.state q.frames
      → IsFlowSound line (replied (took w a c) c q)
  reply_keeps q leaves makes taken = head_keeps line ok c w sound to q leaves a f from head (made_fair q makes) taken

  -- the effect of the frame keeps all sound
  pub received_keeps : Fits line c a f (took_frame a number (w.at c))
      → Sound line c (received line c a f (took_frame a number (w.at c)))
      → IsFlowSound line (replied (took w a c) c (received line c a f (took_frame a number (w.at c))))
  received_keeps fits leaves = reply_keeps (received line c a f k) leaves
      (λ y is ready unlike. fair_received line c y is a f (took_frame a number (w.at c))
      (λ t place waits covers. (sound.centres c to).wait_home t y.section
      (ap (λ o. wait_has line o y.section) waits ∙ covers)) ready
      (λ so. absurd (unlike so)) (λ so. absurd (unlike so)))
      taken
    where
      taken : IsTakenWith a f (w.at c) (received line c a f (took_frame a number (w.at c))).state
          (received line c a f (took_frame a number (w.at c))).frames
      taken = let comes = goes_received line c a f (took_frame a number (w.at c)) fits in record {
        y = comes.y;
        taking = record {
          leads = comes.taking.leads;
          expected = comes.taking.expected;
          waits = comes.taking.waits;
          announced = comes.taking.announced;
          number = comes.taking.number;
          handing = comes.taking.handing;
        };
        after = comes.after;
      }

  -- of a train of the line
  pub act_keeps : (t : ℕ) (act : Act) → is_train line t ≡ true
      → IsFlowSound line (replied (took w a c) c (of_train line t act (took_frame a number (w.at c))))
      → IsFlowSound line (replied (took w a c) c (act (took_frame a number (w.at c))))
  act_keeps t act known keeps =
      subst (λ b. IsFlowSound line (replied (took w a c) c ((if b then act else rest) (took_frame a number (w.at c)))))
      known keeps

  pub trained : (t : ℕ) (act : Act) → (is_train line t ≡ true → Sound line c (act (took_frame a number (w.at c))))
      → Sound line c (of_train line t act (took_frame a number (w.at c)))
  trained t act leaves = if_sound line c (is_train line t) act rest (took_frame a number (w.at c)) leaves
      (λ foreign. rest_sound line c (took_frame a number (w.at c)) sound_here)

  module _ (aside : IsAside f) (v : LineState) (sees : Shows line w v) where
    -- ## Unseen

    -- a reply that changes no shown value, without messages and replies
    pub unseen_leads : (q : Reply) → IsFlowSound line (replied (took w a c) c q) → said_by q ≡ nothing
        → IsUnseen c (w.at c) (came_with a c f) q.state q.frames
        → q.state.phase ≡ (w.at c).phase → q.state.heard ≡ (w.at c).heard → q.state.said ≡ (w.at c).said
        → Leads line (took w a c) c q v
    unseen_leads q keeps silent same phase heard said = record {
      quiets = [];
      new = v;
      takes = (silent, refl);
      own_centre = refl;
      shows = unseen_shown line w c (came_with a c f) q.state q.frames (replied (took w a c) c q) v v.phase v.heard
          v.said sound sees to (at_head line w a c f q.state q.frames sound.counted from to head) same
          (part_stays Phase c v.phase q.state.phase (λ t. sees.phase t c ∙ ap (λ (g : ℕ → Phase). g t) (sym phase)))
          (part_stays (Option ℕ) c v.heard q.state.heard (λ t. sees.heard t c
          ∙ ap (λ (g : ℕ → Option ℕ). g t) (sym heard)))
          (part_stays ℕ c v.said q.state.said (λ t. sees.said t c ∙ ap (λ (g : ℕ → ℕ). g t) (sym said)));
      sound = keeps;
    }

    -- a state with the same book, wishes, starts that wait and missions, after frames without missions and hands
    pub unseen_by : (y : Centre) (frames : ℕ → List Body) → y.book ≡ (w.at c).book → y.wish ≡ (w.at c).wish
        → y.wait ≡ (w.at c).wait → y.mission ≡ (w.at c).mission
        → ((t : ℕ) → SendsNone (missions t) c frames) → ((t s : ℕ) → SendsNone (hands t s) c frames)
        → IsUnseen c (w.at c) (came_with a c f) y frames
    unseen_by y frames book wish waits mission none_sent no_hand = record {
      book = λ s. ap (λ (g : ℕ → Entry). g s) book;
      wish = λ s. ap (λ (g : ℕ → Bool). g s) wish;
      wait = λ t. ap (λ (g : ℕ → Option Place). g t) waits;
      mission = λ t. ap (λ (g : ℕ → Option Mission). option_map (seen c) (g t)) mission;
      hand = λ t s. ap (λ (g : ℕ → Option Mission). hand_has (g t) s) mission;
      no_mission_came = λ t. aside.mission a c t;
      no_hand_came = λ t s. aside.hand a c t s;
      no_mission_sent = none_sent;
      no_hand_sent = no_hand;
    }

    -- a frame without an effect: its train, section or track is not of the line
    pub rest_keeps : IsFlowSound line (replied (took w a c) c (rest (took_frame a number (w.at c))))
    rest_keeps = reply_keeps (rest k) (rest_sound line c (took_frame a number (w.at c)) sound_here)
        (λ y is ready unlike. eased line c y (y.res.inside a c f) 0 (took_frame a number (w.at c)) (rest k)
        (omega arith) (λ so. absurd (unlike so)) (fair_rest line c y (took_frame a number (w.at c))))
        (passes line c a f (w.at c) aside.follows (still (w.at c) (took_frame a number (w.at c)) refl refl refl))

    pub rest_leads : Leads line (took w a c) c (rest (took_frame a number (w.at c))) v
    rest_leads = unseen_leads (rest (took_frame a number (w.at c))) rest_keeps refl
        (unseen_by (took_frame a number (w.at c)) (λ d. []) refl refl refl refl (λ t d. carried_none (missions t) c d)
        (λ t s d. carried_none (hands t s) c d)) refl refl refl

    -- a frame with an act for a train of the line
    pub of_train_leads : (t : ℕ) (act : Act)
        → (is_train line t ≡ true → Leads line (took w a c) c (act (took_frame a number (w.at c))) v)
        → Leads line (took w a c) c (of_train line t act (took_frame a number (w.at c))) v
    of_train_leads t act leads = by_train (is_train line t) leads
      where
        by_train : (b : Bool) → (b ≡ true → Leads line (took w a c) c (act (took_frame a number (w.at c))) v)
            → Leads line (took w a c) c ((if b then act else rest) (took_frame a number (w.at c))) v
        by_train true known = known refl
        by_train false known = rest_leads
