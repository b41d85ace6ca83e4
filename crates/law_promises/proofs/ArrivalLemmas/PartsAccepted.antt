-- The part of an acceptance that reaches a train.
use Rattle.std.proofs.Common.{◌*◌, ◌<◌, ◌==◌, ◌∙◌, ◌≡◌, ◌≤◌, ap, arith, Bool, eqb-true, false, if◌then◌else◌, int_lt}
use Rattle.std.proofs.Common.{max, None, Option, pos, refl, Some, subst, sym, true, ℕ}
use Rattle.std.proofs.lemmas.Option.{none-some, same_Some}
use Rattle.std.specs.Option.{option_and_then}
use Rattle.law_outside.specs.Outside.{accepted, gets, is_told, starts, Stretch, View}
use Rattle.law_promises.proofs.ArrivalLemmas.Arrives.{Lies, lies_then}
use Rattle.law_promises.proofs.ArrivalLemmas.ArrivesTold.{accepted_both, true_false}
use Rattle.law_promises.proofs.ArrivalLemmas.Parts.{authority_came, authority_lost, rel_later, request_came}
use Rattle.law_promises.proofs.ArrivalLemmas.Parts.{request_lost}
use Rattle.law_promises.proofs.ArrivalLemmas.Reached.{begins_both, begins_but, ends_out, Fit, is_nothing, is_part}
use Rattle.law_promises.proofs.ArrivalLemmas.Reached.{none_plain, out_less, Rel, rel_changed, rel_ended, rel_starts}
use Rattle.law_promises.proofs.Spans.{Ends, rear_other}
use Rattle.law_promises.specs.Arrival.Received.{after_coming, after_loss, Known, may_come}
use Rattle.rbc_spec.proofs.Lists.{put_other, put_there}
use Rattle.rbc_spec.specs.Line.{Line}
use Rattle.rbc_spec.specs.Maps.{put}
use Rattle.rbc_spec.specs.Message.{Authority, DataAcknowledged, EndSession, ShorteningRequest, SystemVersion}
use Rattle.rbc_spec.specs.Message.{TerminationAcknowledged, TrackBody, TrainAccepted, TrainRejected, Transition}
use Rattle.rbc_spec.specs.Outcome.{Saying}
use Rattle.rbc_spec.specs.World.{centre_of, Event}

-- ## Acceptance

accepted_plain : (o : Option Stretch) (f z : Stretch) → f.asked ≡ None → accepted o f ≡ Some z → z.asked ≡ None
accepted_plain None f z plain is = sym (ap (λ (y : Stretch). y.asked) (same_Some f z is)) ∙ plain
accepted_plain (Some x) f z plain is = by_runs (int_lt x.rear (pos (10 * x.end))) (x.track == f.track) is
  where
    by_runs : (b d : Bool)
        → (if b then (if d then Some
        (record f
        { rear = if int_lt x.rear f.rear then x.rear else f.rear; end = max x.end f.end; since = max x.since f.since })
        else None) else Some f) ≡ Some z → z.asked ≡ None
    by_runs true true so = sym (ap (λ (y : Stretch). y.asked) (same_Some _ z so)) ∙ plain
    by_runs true false so = absurd (none-some z so)
    by_runs false d so = sym (ap (λ (y : Stretch). y.asked) (same_Some f z so)) ∙ plain

-- the stretch of a start is within the one that the train has after it
start_lies : (o : Option Stretch) (f z : Stretch) → accepted o f ≡ Some z → Lies f z
start_lies o f z is = let r = accepted_both None o f z (λ y none. absurd (none-some y none)) is in
    subst (λ (y : Stretch). Lies y z) (sym (same_Some f r.0 r.1)) r.2

-- a train that may still run goes on
goes_on : (x f z : Stretch) → int_lt x.rear (pos (10 * x.end)) ≡ true → accepted (Some x) f ≡ Some z → Lies x z
goes_on x f z runs is = by_runs (int_lt x.rear (pos (10 * x.end))) (x.track == f.track) runs refl is
  where
    whole : Stretch
    whole = record f
        { rear = if int_lt x.rear f.rear then x.rear else f.rear; end = max x.end f.end; since = max x.since f.since }

    by_rear : (b : Bool) → int_lt x.rear f.rear ≡ b → (n : ℕ) → int_lt x.rear (pos n) ≡ true
        → int_lt (if b then x.rear else f.rear) (pos n) ≡ true
    by_rear true so n past = past
    by_rear false so n past = rear_other x.rear f.rear n so past

    by_runs : (b d : Bool) → b ≡ true → (x.track == f.track) ≡ d
        → (if b then (if d then Some whole else None) else Some f) ≡ Some z → Lies x z
    by_runs true true one on so = subst (Lies x) (same_Some whole z so)
        (record {
          track = eqb-true x.track f.track on;
          end = (omega arith);
          since = (omega arith);
          past = by_rear (int_lt x.rear f.rear) refl;
        })
    by_runs true false one on so = absurd (none-some z so)
    by_runs false d one on so = true_false (sym one)

-- a train that has run out begins from its start
out_begins : (y f : Stretch) → int_lt y.rear (pos (10 * y.end)) ≡ false → accepted (Some y) f ≡ Some f
out_begins y f over = by_runs (int_lt y.rear (pos (10 * y.end))) over
  where
    by_runs : (b : Bool) → b ≡ false
        → (if b then (if y.track == f.track then Some
        (record f
        { rear = if int_lt y.rear f.rear then y.rear else f.rear; end = max y.end f.end; since = max y.since f.since })
        else None) else Some f) ≡ Some f
    by_runs true so = true_false so
    by_runs false so = refl

-- a start that is accepted
pub record Began (v : View) (t c : ℕ) : Type 0 where
  pub f : Stretch
  pub z : Stretch
  pub at : v.start t c ≡ Some f
  pub is : accepted (v.stretch t) f ≡ Some z
  pub same : gets t (option_and_then (accepted (v.stretch t)) (v.start t c)) (starts t c None v)
      ≡ record (starts t c None v) { stretch = put v.stretch t (Some z) }

began : (v : View) (t c : ℕ)
    → (gets t (option_and_then (accepted (v.stretch t)) (v.start t c)) (starts t c None v)).stray ≡ false → Began v t c
began v t c founded = by_start (v.start t c) refl founded
  where
    by_accepted : (f : Stretch) → v.start t c ≡ Some f → (o : Option Stretch) → accepted (v.stretch t) f ≡ o
        → (gets t o (starts t c None v)).stray ≡ false → Began v t c
    by_accepted f at None is founded = true_false founded
    by_accepted f at (Some z) is founded = record {
      f = f;
      z = z;
      at = at;
      is = is;
      same = ap (λ (o : Option Stretch). gets t (option_and_then (accepted (v.stretch t)) o) (starts t c None v)) at
          ∙ ap (λ (o : Option Stretch). gets t o (starts t c None v)) is;
    }

    by_start : (o : Option Stretch) → v.start t c ≡ o
        → (gets t (option_and_then (accepted (v.stretch t)) o) (starts t c None v)).stray ≡ false → Began v t c
    by_start None none founded = true_false founded
    by_start (Some f) at founded = by_accepted f at (accepted (v.stretch t) f) refl founded

module _ (line : Line) (event : Event) (p : Saying) (v w : View) (k : Known) (said count : ℕ → ℕ → ℕ)
    (old : Rel line v w k said) (rises : (u d : ℕ) → said u d ≤ count u d) where
  abbrev train : ℕ
  train = p.nid_engine

  abbrev centre : ℕ
  centre = centre_of event

  counted_on : (u d n : ℕ) → k.requested u d n ≡ true → n ≤ count u d
  counted_on u d n is = let low = old.said u d n is in let up = rises u d in omega (arith, low, up)

  acceptance_came : (is_told line event p TrainAccepted v).stray ≡ false
      → Rel line (is_told line event p TrainAccepted v) (is_told line event p TrainAccepted w)
      (after_coming centre p TrainAccepted k) count
  acceptance_came founded =
      let g = began v train centre founded in
      let r = accepted_there g (w.stretch train) refl in
      subst (λ (y : View). Rel line y (is_told line event p TrainAccepted w)
      (after_coming centre p TrainAccepted k) count) (sym g.same)
      (subst (λ (y : View). Rel line (after g) y (after_coming centre p TrainAccepted k) count)
      (sym (ap (λ (o : Option Stretch). gets train (option_and_then (accepted (w.stretch train)) o)
      (starts train centre None w)) (old.start train centre g.f g.at)
      ∙ ap (λ (o : Option Stretch). gets train o (starts train centre None w)) r.1))
      (rel_changed line v w k said old train (after g)
      (record (starts train centre None w) { stretch = put w.stretch train (Some (r.0)) })
      (after_coming centre p TrainAccepted k) count
      (λ u apart. put_other v.stretch train u (Some g.z) apart)
      (λ u apart. put_other w.stretch train u (Some (r.0)) apart)
      (λ u apart. put_other k.misses train u false apart) (λ u apart d n. refl)
      (λ q is. is_part g.z (put_there v.stretch train (Some g.z))
      (subst (λ (x : Stretch). Lies x g.z)
      (same_Some r.0 q (sym (put_there w.stretch train (Some (r.0))) ∙ is)) r.2)
      (λ a asked came.
      absurd (none-some a (sym (accepted_plain (v.stretch train) g.f g.z (old.plain train centre g.f g.at) g.is)
      ∙ asked))))
      (begins_both line v w k said old train centre None (none_plain line v w k said old)) old.released counted_on))
    where
      after : Began v train centre → View
      after g = record (starts train centre None v) { stretch = put v.stretch train (Some g.z) }

      by_fit : (g : Began v train centre) (y : Stretch)
          → Fit line (v.stretch train) (k.misses train) (k.requested train) y → (q : Stretch)
          × (accepted (Some y) g.f ≡ Some q) × Lies q g.z
      by_fit g y (is_part x at lies asked) =
          accepted_both (Some y) (v.stretch train) g.f g.z
          (λ e same. (x, at, subst (λ (q : Stretch). Lies q x) (same_Some y e same) lies)) g.is
      by_fit g y (is_nothing missed out) =
          (g.f, out_begins y g.f out.run_out, start_lies (v.stretch train) g.f g.z g.is)

      accepted_there : (g : Began v train centre) (o : Option Stretch) → w.stretch train ≡ o → (q : Stretch)
          × (accepted (w.stretch train) g.f ≡ Some q) × Lies q g.z
      accepted_there g None none =
          (g.f, ap (λ (o : Option Stretch). accepted o g.f) none, start_lies (v.stretch train) g.f g.z g.is)
      accepted_there g (Some y) at = let r = by_fit g y (old.stretch train y at) in
          (r.0, ap (λ (o : Option Stretch). accepted o g.f) at ∙ r.1, r.2)

  acceptance_lost : ((x : Stretch) → v.stretch train ≡ Some x → Ends line x)
      → (is_told line event p TrainAccepted v).stray ≡ false
      → Rel line (is_told line event p TrainAccepted v) w (after_loss p TrainAccepted k) count
  acceptance_lost ends founded =
      let g = began v train centre founded in
      subst (λ (y : View). Rel line y w (after_loss p TrainAccepted k) count) (sym g.same)
      (rel_changed line v w k said old train
      (record (starts train centre None v) { stretch = put v.stretch train (Some g.z) }) w
      (after_loss p TrainAccepted k) count
      (λ u apart. put_other v.stretch train u (Some g.z) apart) (λ u apart. refl)
      (λ u apart. put_other k.misses train u true apart) (λ u apart d n. refl)
      (λ q is. subst (λ (o : Option Stretch). Fit line o (put k.misses train true train) (k.requested train) q)
      (sym (put_there v.stretch train (Some g.z))) (by_fit g q (old.stretch train q is)))
      (begins_but line v w k said old train centre) old.released counted_on)
    where
      by_runs : (g : Began v train centre) (q x : Stretch) → v.stretch train ≡ Some x → Lies q x → (b : Bool)
          → int_lt x.rear (pos (10 * x.end)) ≡ b
          → Fit line (Some g.z) (put k.misses train true train) (k.requested train) q
      by_runs g q x at lies true runs =
          is_part g.z refl
          (lies_then q x g.z lies
          (goes_on x g.f g.z runs (sym (ap (λ (o : Option Stretch). accepted o g.f) at) ∙ g.is)))
          (λ a asked came.
          absurd (none-some a (sym (accepted_plain (v.stretch train) g.f g.z (old.plain train centre g.f g.at) g.is)
          ∙ asked)))
      by_runs g q x at lies false over =
          is_nothing (put_there k.misses train true) (out_less line q x lies (ends_out line x (ends x at) over))

      by_fit : (g : Began v train centre) (q : Stretch)
          → Fit line (v.stretch train) (k.misses train) (k.requested train) q
          → Fit line (Some g.z) (put k.misses train true train) (k.requested train) q
      by_fit g q (is_part x at lies asked) = by_runs g q x at lies (int_lt x.rear (pos (10 * x.end))) refl
      by_fit g q (is_nothing missed out) = is_nothing (put_there k.misses train true) out

  -- ## Any message

  pub rel_came : (body : TrackBody) → may_come k p body ≡ true → p.message.t_train ≤ count train centre
      → (is_told line event p body v).stray ≡ false
      → Rel line (is_told line event p body v) (is_told line event p body w) (after_coming centre p body k) count
  rel_came (Authority l) may counted founded = authority_came line event p v w k said count old rises l may founded
  rel_came (ShorteningRequest l) may counted founded =
      request_came line event p v w k said count old rises l counted founded
  rel_came TrainAccepted may counted founded = acceptance_came founded
  rel_came TrainRejected may counted founded = let r = rel_later line event p v w k said count old rises in
      rel_starts line v w k count r train centre None (none_plain line v w k count r)
  rel_came (DataAcknowledged stamp) may counted founded = rel_later line event p v w k said count old rises
  rel_came (Transition d n r) may counted founded = rel_later line event p v w k said count old rises
  rel_came (EndSession n r) may counted founded = rel_later line event p v w k said count old rises
  rel_came SystemVersion may counted founded = rel_later line event p v w k said count old rises
  rel_came TerminationAcknowledged may counted founded = rel_later line event p v w k said count old rises

  pub rel_lost : (body : TrackBody) → (body ≡ TrainAccepted → (x : Stretch) → v.stretch train ≡ Some x → Ends line x)
      → said train centre < p.message.t_train → (is_told line event p body v).stray ≡ false
      → Rel line (is_told line event p body v) w (after_loss p body k) count
  rel_lost (Authority l) ends fresh founded = authority_lost line event p v w k said count old rises l founded
  rel_lost (ShorteningRequest l) ends fresh founded =
      request_lost line event p v w k said count old rises l fresh founded
  rel_lost TrainAccepted ends fresh founded = acceptance_lost (ends refl) founded
  rel_lost TrainRejected ends fresh founded =
      rel_ended line v w k count (rel_later line event p v w k said count old rises) train centre
  rel_lost (DataAcknowledged stamp) ends fresh founded = rel_later line event p v w k said count old rises
  rel_lost (Transition d n r) ends fresh founded = rel_later line event p v w k said count old rises
  rel_lost (EndSession n r) ends fresh founded = rel_later line event p v w k said count old rises
  rel_lost SystemVersion ends fresh founded = rel_later line event p v w k said count old rises
  rel_lost TerminationAcknowledged ends fresh founded = rel_later line event p v w k said count old rises
