-- A message that is silent, and a frame that is not the next of its link, lead nowhere.
use Rattle.std.proofs.Common.{[], ◌∙◌, ◌≡◌, ap, inl, inr, List, None, Ok, refl, Some, subst, sym, true, ℕ}
use Rattle.law_base.proofs.PiecesLemmas.GivenSections.{none_in_order}
use Rattle.law_invariants.proofs.FlowLemmas.Steps.{by_itself}
use Rattle.law_invariants.specs.Flow.Flow.{Flow, flow_of, in_world}
use Rattle.law_invariants.specs.Flow.Leads.{replied, said_by}
use Rattle.law_invariants.specs.Flow.Shows.{Shows}
use Rattle.law_refinement.proofs.Silence as silence
use Rattle.law_refinement.proofs.Words.{begun_shown, IsAtWork, shows_stamped}
use Rattle.law_refinement.specs.Meets.{Meets}
use Rattle.rbc_spec.specs.Acts.{rest}
use Rattle.rbc_spec.specs.Centre.{Centre}
use Rattle.rbc_spec.specs.Frame.{Frame}
use Rattle.rbc_spec.specs.Line.{is_centre, Line}
use Rattle.rbc_spec.specs.LineCentre.{LineState, nothing}
use Rattle.rbc_spec.specs.Message.{TrainMessage}
use Rattle.rbc_spec.specs.Outcome as outcome
use Rattle.rbc_spec.specs.Outcome.{Reason}
use Rattle.rbc_spec.specs.Run.{Piece, silent, TellsInOrder}
use Rattle.rbc_spec.specs.Step as step
use Rattle.rbc_spec.specs.Step.{Effect, outcome_of, state_after, taken_by}
use Rattle.rbc_spec.specs.World.{Bytes, Delivery, Event, World}

module _ (line : Line) (w : World) (v : LineState) (meets : Meets line w v) (c : ℕ) (to : is_centre line c ≡ true)
    (stamp : ℕ) (trains : List ℕ) where
  pub at_work : IsAtWork line (flow_of w) c (w.at c) v
  at_work = record { sound = meets.sound.flow; shows = meets.shows; to = to; state = refl }

  abbrev pub k : Centre
  k = step.ticked stamp (w.at c)

  abbrev pub after : Effect → World
  after e = in_world w c (state_after stamp (w.at c) e) trains

  -- the effect of an event
  abbrev pub Met : Event → Effect → Type 0
  Met event e = (new : LineState) × Piece line v event (outcome_of stamp (w.at c) e) new
      × Shows line (flow_of (after e)) new

  pub shown_after : (e : Effect) (new : LineState) → e.reply.state.taken ≡ (w.at c).taken
      → Shows line (replied (flow_of w) c e.reply) new → Shows line (flow_of (after e)) new
  shown_after e new still shows = subst (λ (f : Flow). Shows line f new)
      (sym (by_itself w c stamp (w.at c) e trains (λ d. refl) (λ a. ap (λ (g : ℕ → ℕ). g a) still)))
      (shows_stamped line (flow_of w) c e.reply.state e.reply.frames e.reply.state.clock
      (state_after stamp (w.at c) e).sent e.reply.state.taken new shows)

  -- a step that does nothing
  nothing_shown : (e : Effect) → e.reply ≡ rest k → Shows line (flow_of (after e)) v
  nothing_shown e is = shown_after e v (ap (λ (r : _). r.state.taken) is)
      (subst (λ (r : _). Shows line (replied (flow_of w) c r) v) (sym is)
      (begun_shown line (flow_of w) c v stamp at_work))

  -- a step after which the one line centre has the same state
  abbrev pub Stays : Event → Effect → Type 0
  Stays event e = Piece line v event (outcome_of stamp (w.at c) e) v × Shows line (flow_of (after e)) v

  -- a silent message has no answer, and nothing changes
  pub silent_met : (m : TrainMessage) (why : Reason) → step.silence line c k m ≡ Some why
      → Stays (Bytes c (Ok m)) (record { reply = rest k; link = None; silence = Some why })
  silent_met m why is = (
    record {
      own = nothing;
      mid = v;
      quiets = [];
      later = nothing;
      own_step = (
        to,
        silent why (silence.silent line w v meets.sound.flow meets.shows c m why
            (sym (silence.silent_by_clock line c stamp (w.at c) m) ∙ is)) refl refl refl,
      );
      quiet_steps = (refl, refl);
      own_centre = refl;
      none_if_silent = inr refl;
      in_order = none_in_order;
      says = refl;
    },
    nothing_shown (record { reply = rest k; link = None; silence = Some why }) refl,
  )

  -- nor by a frame that is not the next of its link
  pub stray_met : (a number : ℕ) (f : Frame) (o : outcome.Taken) → taken_by line c a f o k ≡ rest k
      → Stays (Delivery a c number) (record { reply = taken_by line c a f o k; link = Some o; silence = None })
  stray_met a number f o is = (
    record {
      own = nothing;
      mid = v;
      quiets = [];
      later = nothing;
      own_step = (refl, refl, refl);
      quiet_steps = (refl, refl);
      own_centre = refl;
      none_if_silent = inl refl;
      in_order = subst (λ (r : _). TellsInOrder r.words) (sym is) none_in_order;
      says = λ i. said_by (is i);
    },
    nothing_shown (record { reply = taken_by line c a f o k; link = Some o; silence = None }) is,
  )
