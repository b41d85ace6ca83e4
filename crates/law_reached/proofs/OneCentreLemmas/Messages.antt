-- Messages and requests to shorten on a one-centre line leave no choice.
use Rattle.std.proofs.Common.{[], ⊎_elim, ◌&&◌, ◌*◌, ◌+◌, ◌==◌, ◌∙◌, ◌≡◌, ◌≢◌, ap, append-nil, arith, Bool, eqb-true}
use Rattle.std.proofs.Common.{false, inl, inr, is_none, is_some, le-leb, List, nat_le, None, not, Ok, Option, refl}
use Rattle.std.proofs.Common.{Some, subst, sym, true, ℕ}
use Rattle.std.proofs.lemmas.Bool.Decides.{eqb_tells}
use Rattle.std.proofs.lemmas.Option.{same_Some}
use Rattle.std.specs.Option.{option_map_or}
use Rattle.law_base.specs.Local.Local.{hand_has, IsLocal}
use Rattle.law_invariants.proofs.FlowLemmas.Shown.{own_of}
use Rattle.law_invariants.proofs.FlowLemmas.Takes.{train_keeps}
use Rattle.law_invariants.specs.Flow.Flow.{flow_of, in_world}
use Rattle.law_invariants.specs.Flow.Leads.{said_by}
use Rattle.law_invariants.specs.Flow.Shows.{Shows}
use Rattle.law_reached.proofs.OneCentreLemmas.Alone.{accepted, alone, heard_alike}
use Rattle.law_refinement.proofs.AbstractionLemmas.Marks.{hand_at_centre}
use Rattle.law_refinement.proofs.InOrderSteps.{effect_in_order}
use Rattle.law_refinement.proofs.SessionsLemmas.Changes.{supervises_is}
use Rattle.law_refinement.proofs.Silence.{silent_by_clock}
use Rattle.law_refinement.proofs.Still.{shown_after, silent_met}
use Rattle.law_refinement.specs.Meets.{Meets}
use Rattle.rbc_spec.proofs.Lists.{itself, put_there}
use Rattle.rbc_spec.proofs.Runs.{within_from, within_true}
use Rattle.rbc_spec.specs.Acts.{may_propose, rest}
use Rattle.rbc_spec.specs.Centre as centre
use Rattle.rbc_spec.specs.Centre.{Centre, is_taken_for, is_up}
use Rattle.rbc_spec.specs.Line.{is_centre, is_home, IsLine, Line, start}
use Rattle.rbc_spec.specs.LineCentre as line_centre
use Rattle.rbc_spec.specs.LineCentre.{At, Given, is_at, is_given_to, Kept, LineState, Mark, nothing, Open, Said, Shut}
use Rattle.rbc_spec.specs.LineCentre.{supervises}
use Rattle.rbc_spec.specs.Message.{TrainMessage}
use Rattle.rbc_spec.specs.Outcome.{Outcome, Reason}
use Rattle.rbc_spec.specs.OwnSteps.{set_mark, wished_back}
use Rattle.rbc_spec.specs.Place.{group_start}
use Rattle.rbc_spec.specs.Quiet.{Proposes}
use Rattle.rbc_spec.specs.ReadOff.{seen}
use Rattle.rbc_spec.specs.Run as run
use Rattle.rbc_spec.specs.Run.{heard, listened, Piece, silent, Steps, TellsInOrder}
use Rattle.rbc_spec.specs.SectionRuns.{SectionRun, within}
use Rattle.rbc_spec.specs.Step as step
use Rattle.rbc_spec.specs.Step.{Effect, effect, outcome_of, state_after}
use Rattle.rbc_spec.specs.Theorems.{ForcedPiece, IsOneCentreLine, MayPropose}
use Rattle.rbc_spec.specs.World.{Bytes, Event, World}

-- # If the one line centre may send a train a request to shorten, the centre with the train's mission does so.

given_to_one : (mark : Mark) (t u : ℕ) → is_given_to t mark ≡ true → is_given_to u mark ≡ true → t ≡ u
given_to_one (Given e) t u one other = sym (eqb-true e t one) ∙ eqb-true e u other
given_to_one Shut t u one other = cc
given_to_one Open t u one other = cc
given_to_one (Kept e) t u one other = cc

all_hold : (up ended none inside first near reach : Bool) → up ≡ true → ended ≡ false → none ≡ true → inside ≡ true
    → first ≡ false → near ≡ true → reach ≡ true
    → (((up && not ended) && none) && (((inside && not first) && near) && reach)) ≡ true
all_hold up ended none inside first near reach a b d e f g h = rw (a, b) (rw (d, e) (rw (f, g) (rw h refl)))

not_equal : (a b : ℕ) → a ≢ b → (a == b) ≡ false
not_equal a b apart = elim (eqb_tells a b) [ inl e ↦ absurd (apart e.1) | inr e ↦ e.0 ]

module _ (line : Line) (w : World) (v : LineState) (meets : Meets line w v) (local : IsLocal line w) (c : ℕ) where
  -- the centre has the mission that is supervised there
  record Has (t : ℕ) (mission : line_centre.LineMission) : Type 0 where
    m : centre.Mission
    has : (w.at c).mission t ≡ Some m
    is : seen c m ≡ mission

  has_it : (t : ℕ) (mission : line_centre.LineMission) → v.mission t ≡ Some mission
      → mission.supervisor ≡ At c → Has t mission
  has_it t mission of_train here = by_mission ((w.at c).mission t) refl
    where
      supervised : supervises v c t ≡ true
      supervised = ap (λ (o : Option line_centre.LineMission). option_map_or (λ n. is_at c n.supervisor) o false)
          of_train ∙ ap (is_at c) here ∙ itself c

      by_mission : (o : Option centre.Mission) → (w.at c).mission t ≡ o → Has t mission
      by_mission None none = absurd
          (let wrong : true ≡ false = sym supervised ∙ supervises_is line (flow_of w) v meets.sound.flow meets.shows c t
          ∙ ap is_some none in cc)
      by_mission (Some m) has =
          record {
            m = m;
            has = has;
            is = same_Some (seen c m) mission
                (sym (meets.shows.mission t c m has) ∙ of_train);
          }

  pub given_is_hand : (t : ℕ) (m : centre.Mission) → (w.at c).mission t ≡ Some m → (s : ℕ)
      → is_given_to t (v.mark s) ≡ within m.hand s
  given_is_hand t m has s = (hand_at_centre line (flow_of w) v t meets.sound.flow meets.shows c m has).each s

  hand_is_home : (t : ℕ) (m : centre.Mission) → (w.at c).mission t ≡ Some m → (s : ℕ) → within m.hand s ≡ true
      → is_home line c s ≡ true
  hand_is_home t m has s in_hand = by_home (is_home line c s) refl
    where
      by_home : (b : Bool) → is_home line c s ≡ b → b ≡ true
      by_home true is = refl
      by_home false is = absurd (
          let taken : is_taken_for t ((w.at c).book s) ≡ true = (local.each c).taken s t
          ∙ ap (λ (o : Option centre.Mission). hand_has o s) has ∙ in_hand in
          let no : false ≡ true = sym (ap (is_taken_for t) ((local.each c).foreign s is)) ∙ taken in cc)

  module _ (s : ℕ) where
    -- a section of another home is in no hand here
    pub none_elsewhere : is_home line c s ≡ false → (t : ℕ) → MayPropose line v t c s → ⊥
    none_elsewhere away t may =
        let p = may.2 in
        let h = has_it t p.mission p.of_train p.supervises in
        let in_hand : within h.m.hand s ≡ true = sym (given_is_hand t h.m h.has s) ∙ p.is_hand.each s ∙ p.in_hand in
        let wrong : false ≡ true = sym away ∙ hand_is_home t h.m h.has s in_hand in
        cc

    -- nor is one that is shut
    pub none_shut : (t : ℕ) → MayPropose line (set_mark s Shut v) t c s → ⊥
    none_shut t may =
        let p = may.2 in
        let wrong : false ≡ true = sym (ap (is_given_to t) (put_there v.mark s Shut)) ∙ p.is_hand.each s ∙ p.in_hand in
        cc

    module _ (t : ℕ) (m : centre.Mission) (has : (w.at c).mission t ≡ Some m)
        (given : is_given_to t (v.mark s) ≡ true) where
      -- if the request may be sent, the centre sends it
      asked_so : (hand : SectionRun) (said : Said) (new : LineState)
          → Proposes line (wished_back s true v) t c s said new → may_propose line t s m (w.at c) ≡ true
      asked_so hand said new p =
          let h = has_it t p.mission p.of_train p.supervises in
          let same : seen c m ≡ p.mission = ap (seen c) (same_Some m h.m (sym has ∙ h.has)) ∙ h.is in
          let ends = within_true p.hand s p.in_hand in
          let inside : (j : ℕ) → within p.hand j ≡ true → within m.hand j ≡ true = λ j is. sym (given_is_hand t m has j)
          ∙ p.is_hand.each j ∙ is in
          let first =
          within_true m.hand p.hand.first
          (inside p.hand.first (within_from p.hand p.hand.first (omega arith)
          (omega (arith, ends, p.not_first)))) in
          all_hold (is_up ((w.at c).phase t)) m.is_ended (is_none m.proposal) (within m.hand s) (s == m.hand.first)
          (nat_le m.place.front (10 * start line s)) (nat_le (start line s) (group_start line m.place + 32767))
          (ap is_up (sym (meets.shows.phase t c) ∙ p.is_up))
          (ap (λ (n : line_centre.LineMission). n.is_ended) same ∙ p.goes_on)
          (ap (λ (n : line_centre.LineMission). is_none n.proposal) same ∙ ap is_none p.none_stands)
          (inside s p.in_hand)
          (not_equal s m.hand.first (λ e. omega (arith, e, first, p.not_first)))
          (ap (λ (n : line_centre.LineMission). nat_le n.place.front (10 * start line s)) same
          ∙ le-leb p.mission.place.front (10 * start line s) p.not_past)
          (ap (λ (n : line_centre.LineMission). nat_le (start line s) (group_start line n.place + 32767)) same
          ∙ le-leb (start line s) (group_start line p.mission.place + 32767) p.within_reach)

      -- if the centre sends no request to shorten, none may be sent to any train
      pub none_in_hand : may_propose line t s m (w.at c) ≡ false → (u : ℕ)
          → MayPropose line (wished_back s true v) u c s → ⊥
      none_in_hand may u other =
          let same : t ≡ u = given_to_one (v.mark s) t u given (other.2.is_hand.each s ∙ other.2.in_hand) in
          let here : MayPropose line (wished_back s true v) t c s =
          subst (λ (x : ℕ). MayPropose line (wished_back s true v) x c s) (sym same) other in
          let wrong : false ≡ true = sym may ∙ asked_so here.2.hand here.0 here.1 here.2 in
          cc

-- # A message at a centre of a one-centre line leaves no choice: it is silent for its reason, or only the own step
-- answers it.

-- the reason of a silent message is that of the one line centre
reason_is : (line : Line) (v : LineState) (c : ℕ) (m : TrainMessage) (said : Said) (new : LineState)
    (why : Option Reason) (reason : Reason) → why ≡ Some reason
    → Steps line v c m said new why → why ≡ run.silence line v c m
reason_is line v c m said new why reason is (silent other so same none stays) = same ∙ sym so
reason_is line v c m said new why reason is (heard so none hears) =
    absurd (let wrong : None ≡ Some reason = sym none ∙ is in cc)
reason_is line v c m said new why reason is (listened may none says stays) =
    absurd (let wrong : None ≡ Some reason = sym none ∙ is in cc)

-- a piece of a message that is silent has no choice
silent_forced : (line : Line) (v : LineState) (c : ℕ) (m : TrainMessage) (outcome : Outcome) (new : LineState)
    (reason : Reason) → outcome.silence ≡ Some reason
    → Piece line v (Bytes c (Ok m)) outcome new → ForcedPiece line v (Bytes c (Ok m)) outcome new
silent_forced line v c m outcome new reason is p =
    record {
      piece = p;
      own_step = record {
        silent = reason_is line v c m p.own p.mid outcome.silence reason is p.own_step.1;
        starts = λ none. absurd (let wrong : None ≡ Some reason = sym none ∙ is in cc);
      };
      quiet_steps =
          ⊎_elim (λ (none : outcome.silence ≡ None). absurd (let wrong : None ≡ Some reason = sym none ∙ is in cc))
          (λ (none : p.quiets ≡ []). none) p.none_if_silent;
    }

module _ (line : Line) (ok : IsLine line) (d : ℕ) (one : IsOneCentreLine line d) (w : World) (v : LineState)
    (meets : Meets line w v) (local : IsLocal line w) (c : ℕ) (to : is_centre line c ≡ true)
    (stamp : ℕ) (trains : List ℕ) where
  abbrev k : Centre
  k = step.ticked stamp (w.at c)

  -- the effect of an event
  abbrev pub IsForced : Event → Effect → Type 0
  IsForced event e = (new : LineState) × ForcedPiece line v event (outcome_of stamp (w.at c) e) new
      × Shows line (flow_of (in_world w c (state_after stamp (w.at c) e) trains)) new

  abbrev of_silence : TrainMessage → Option Reason → Effect
  of_silence m o = option_map_or {U = Effect} (λ why. record { reply = rest k; link = None; silence = Some why }) o
      (record { reply = step.hear_and_answer line c m k; link = None; silence = None })

  by_silence : (m : TrainMessage) (o : Option Reason) → step.silence line c k m ≡ o
      → (of_silence m o).reply.state.taken ≡ (w.at c).taken → TellsInOrder (of_silence m o).reply.words
      → IsForced (Bytes c (Ok m)) (of_silence m o)
  by_silence m (Some why) is still order =
      let stays = silent_met line w v meets c to stamp trains m why is in
      (v, silent_forced line v c m (outcome_of stamp (w.at c) (of_silence m (Some why))) v why refl stays.0, stays.1)
  by_silence m None is still order =
      let a = alone line ok d one w v meets local c to stamp m.t_train m.nid_engine m.body is in
      let said : Said = said_by (step.hear_and_answer line c m k) in
      let hears : run.silence line v c m ≡ None =
      heard_alike line w v meets local c m.t_train m.nid_engine m.body
      (sym (silent_by_clock line c stamp (w.at c) m) ∙ is) in (
        a.mid,
        record {
          piece = record {
            own = said;
            mid = a.mid;
            quiets = [];
            later = nothing;
            own_step = (to, heard hears refl (own_of line v c m.t_train m.nid_engine said a.mid m.body hears a.own));
            quiet_steps = (refl, refl);
            own_centre = refl;
            none_if_silent = inl refl;
            in_order = order;
            says = λ i. record { sayings = sym (append-nil said.sayings) i; words = sym (append-nil said.words) i };
          };
          own_step =
              record {
                silent = sym hears;
                starts = λ none. accepted line ok d one w v meets local c to stamp
                    m.t_train m.nid_engine m.body a;
              };
          quiet_steps = refl;
        },
        shown_after line w v meets c to stamp trains (of_silence m None) a.mid still a.shows,
      )

  pub message_forced : (m : TrainMessage) → IsForced (Bytes c (Ok m)) (effect line c k (step.Train m))
  message_forced m = by_silence m (step.silence line c k m) refl (train_keeps line c m k)
      (effect_in_order line c k (step.Train m))
