-- An event that announces no handover leaves none if there was none.
use Rattle.std.proofs.Common.{[], ⊎_elim, ◌&&◌, ◌+◌, ◌<◌, ◌==◌, ◌∙◌, ◌∷◌, ◌≡◌, ◌≢◌, ◌≤◌, ◌⊎◌, ap, arith, Bool, Err}
use Rattle.std.proofs.Common.{false, if◌then◌else◌, inl, inr, is_some, List, None, Ok, Option, option_and_then, refl}
use Rattle.std.proofs.Common.{Result, Some, subst, sym, true, ℕ}
use Rattle.std.proofs.lemmas.Bool.{cases_eq}
use Rattle.std.specs.Option.{option_map_or}
use Rattle.law_base.proofs.CountingLemmas.Sums.{put_other, put_same}
use Rattle.law_base.proofs.LocalLemmas.Worlds.{world_of}
use Rattle.law_base.specs.Counting.Chain.{after_all}
use Rattle.law_base.specs.Counting.Sums.{one_if}
use Rattle.law_invariants.proofs.HandoverLemmas.Steps.{step_orderly, step_taken}
use Rattle.law_invariants.proofs.NoUnaskedLemmas.Worlds.{world_step_keeps}
use Rattle.law_invariants.specs.Flow.Flow.{Flow, flow_of}
use Rattle.law_invariants.specs.Flow.Pairs.{announces, count_if, follows, handing_to}
use Rattle.law_invariants.specs.Handover.Orderly.{Allowance, IsOrderlyWith, IsTakenWith, number_announced}
use Rattle.law_invariants.specs.Handover.Steps.{left_by, sent_by}
use Rattle.law_invariants.specs.Handover.Worlds.{IsWorldSound}
use Rattle.law_progress.proofs.Announced.{heard_keeps, taken_keeps}
use Rattle.law_progress.specs.Ends.{is_handing, IsGoingOn}
use Rattle.rbc_spec.proofs.Lists.{itself, put_keeps}
use Rattle.rbc_spec.specs.Acts.{rest}
use Rattle.rbc_spec.specs.Centre.{Centre, Handing, Mission}
use Rattle.rbc_spec.specs.Frame.{Announce, AskRight, Body, Cancel, Frame, GiveRight, RefuseRight, ReturnRight, RouteAsk}
use Rattle.rbc_spec.specs.Frame.{RouteInfo, RouteReturn, RouteWithdraw, TakingOver, Yield}
use Rattle.rbc_spec.specs.Line.{is_centre, IsLine, Line}
use Rattle.rbc_spec.specs.Maps.{put}
use Rattle.rbc_spec.specs.Message.{TrainMessage}
use Rattle.rbc_spec.specs.Outcome.{Outcome, Reason}
use Rattle.rbc_spec.specs.Step as centre
use Rattle.rbc_spec.specs.Step.{Effect, hear_and_answer, link_answer, Refusal, refusal, silence, stamp_of, step, taken}
use Rattle.rbc_spec.specs.Step.{ticked}
use Rattle.rbc_spec.specs.World.{Answer, Bytes, Delivery, Event, frame_sent, mention, NoCentre, NotSent, Set, stepped}
use Rattle.rbc_spec.specs.World.{takes, Unset, World, world_step}

-- ## A handover that is announced has a number

pub none_to : (d : ℕ) (o : Option Mission) → is_handing o ≡ false → number_announced (handing_to d o) ≡ None
none_to d None is = refl
none_to d (Some m) is = by_handing m.handing is
  where
    by_handing : (h : Option Handing) → is_some h ≡ false
        → number_announced (option_map_or (λ x. if x.to == d then Some x else None) h None) ≡ None
    by_handing None none = refl
    by_handing (Some h) none = cc

none_from : (o : Option Mission) → ((d : ℕ) → number_announced (handing_to d o) ≡ None) → is_handing o ≡ false
none_from None none = refl
none_from (Some m) none = by_handing m.handing none
  where
    wrong : (h : Handing) (b : Bool) → b ≡ true → number_announced (if b then Some h else None) ≡ None → ⊥
    wrong h true is e = cc
    wrong h false is e = cc

    by_handing : (h : Option Handing)
        → ((d : ℕ) → number_announced (option_map_or (λ x. if x.to == d then Some x else None) h None) ≡ None)
        → is_some h ≡ false
    by_handing None each = refl
    by_handing (Some h) each = absurd (wrong h (h.to == h.to) (itself h.to) (each h.to))

-- ## Frames that announce none

same_state : (x y : Option ℕ) → ◌≡◌ {A = Option (Option ℕ)} (Some x) (Some y) → x ≡ y
same_state x y e = cc

not_counted : (b : Bool) → one_if b ≡ 0 → b ≡ false
not_counted true none = absurd (omega (arith, none))
not_counted false none = refl

module _ (t : ℕ) where
  follows_none : (f : Body) → ((h : ℕ) → announces t h f ≡ false) → (mid : Option ℕ)
      → follows t f None ≡ Some mid → mid ≡ None
  follows_none (Announce h u track) none mid is = by_train (u == t) (none h) is
    where
      by_train : (b : Bool) → (b && (h == h)) ≡ false
          → ◌≡◌ {A = Option (Option ℕ)} (if b then Some (Some h) else Some None) (Some mid) → mid ≡ None
      by_train true fails e = absurd (let wrong : true ≡ false = sym (itself h) ∙ fails in cc)
      by_train false fails e = sym (same_state None mid e)
  follows_none (Cancel h u) none mid is = by_train (u == t) is
    where
      by_train : (b : Bool) → ◌≡◌ {A = Option (Option ℕ)} (if b then None else Some None) (Some mid) → mid ≡ None
      by_train true e = cc
      by_train false e = sym (same_state None mid e)
  follows_none (Yield h u heard has_data is_ended place hand) none mid is = by_train (u == t) is
    where
      by_train : (b : Bool) → ◌≡◌ {A = Option (Option ℕ)} (if b then None else Some None) (Some mid) → mid ≡ None
      by_train true e = cc
      by_train false e = sym (same_state None mid e)
  follows_none (AskRight u) none mid is = sym (same_state None mid is)
  follows_none (GiveRight u) none mid is = sym (same_state None mid is)
  follows_none (RefuseRight u) none mid is = sym (same_state None mid is)
  follows_none (ReturnRight u) none mid is = sym (same_state None mid is)
  follows_none (RouteAsk u first most) none mid is = sym (same_state None mid is)
  follows_none (RouteInfo u r) none mid is = sym (same_state None mid is)
  follows_none (RouteWithdraw u s) none mid is = sym (same_state None mid is)
  follows_none (RouteReturn u r) none mid is = sym (same_state None mid is)
  follows_none (TakingOver h u) none mid is = sym (same_state None mid is)

  none_after : (fs : List Body) (last : Option ℕ) → ((h : ℕ) → count_if (announces t h) fs ≡ 0)
      → after_all (follows t) fs None ≡ Some last → last ≡ None
  unfolding after_all
  none_after [] last none is = sym (same_state None last is)
  none_after (f ∷ fs) last none is =
      by_frame (follows t f None) refl is (none_after fs last (λ h. omega (arith, parts h)))
    where
      parts : (h : ℕ) → one_if (announces t h f) + count_if (announces t h) fs ≡ 0
      parts h = none h

      by_frame : (o : Option (Option ℕ)) → follows t f None ≡ o
          → option_and_then (after_all (follows t) fs) o ≡ Some last
          → (after_all (follows t) fs None ≡ Some last → last ≡ None) → last ≡ None
      by_frame None at e later = cc
      by_frame (Some mid) at e later =
          later (subst (λ x. after_all (follows t) fs x ≡ Some last)
          (follows_none f (λ h. not_counted (announces t h f) (omega (arith, parts h))) mid at) e)

-- ## An act

module _ (t : ℕ) where
  orderly_none : {allow : Allowance} (k y : Centre) (frames : ℕ → List Body) → IsOrderlyWith allow k y frames
      → y.announced ≡ k.announced → is_handing (k.mission t) ≡ false → is_handing (y.mission t) ≡ false
  orderly_none k y frames is same none =
      none_from (y.mission t) (λ d. none_after t (frames d) (number_announced (handing_to d (y.mission t)))
      (λ h. counted d h (is.anew d t h))
      (subst (λ x. after_all (follows t) (frames d) x ≡ Some (number_announced (handing_to d (y.mission t))))
      (none_to d (k.mission t) none) (is.leads d t).leads))
    where
      counted : (d h : ℕ) → (count_if (announces t h) (frames d) ≡ 0)
          ⊎ ((k.announced < h) × (h ≤ y.announced) × (count_if (announces t h) (frames d) ≤ 1))
          → count_if (announces t h) (frames d) ≡ 0
      counted d h (inl is_none) = is_none
      counted d h (inr anew) = absurd (omega (arith, anew.0, anew.1, same))

  taken_none : (a : ℕ) (f : Body) (k new : Centre) (frames : ℕ → List Body) → IsTakenWith a f k new frames
      → new.announced ≡ k.announced → is_handing (k.mission t) ≡ false → is_handing (new.mission t) ≡ false
  taken_none a f k new frames is same none =
      orderly_none is.y new frames is.after (same ∙ sym is.taking.announced) (none_from (is.y.mission t) (λ d. ⊎_elim
      (λ (here : d ≡ a). subst (λ x. number_announced (handing_to x (is.y.mission t)) ≡ None) (sym here)
      (is.taking.number t ∙ none_to a (k.mission t) none))
      (λ (apart : d ≢ a). ap number_announced (is.taking.handing d t apart) ∙ none_to d (k.mission t) none)
      (cases_eq d a)))

-- ## A step of the world that announces none at c

module _ (line : Line) (ok : IsLine line) (w : World) (sound : IsWorldSound line w) (c t : ℕ)
    (none : is_handing ((w.at c).mission t) ≡ false) where
  abbrev IsNone : Flow → Type 0
  IsNone u = (u.at c).announced ≡ (w.at c).announced → is_handing ((u.at c).mission t) ≡ false

  acted_none : (e : ℕ) (new : Centre) → (new.announced ≡ (w.at e).announced → is_handing ((w.at e).mission t) ≡ false
      → is_handing (new.mission t) ≡ false)
      → (put w.at e new c).announced ≡ (w.at c).announced → is_handing ((put w.at e new c).mission t) ≡ false
  acted_none e new act same = ⊎_elim (λ (here : c ≡ e). at_itself here)
      (λ (apart : c ≢ e). subst (λ (z : Centre). is_handing (z.mission t) ≡ false)
      (sym (put_other w.at e new c apart)) none) (cases_eq c e)
    where
      at_itself : c ≡ e → is_handing ((put w.at e new c).mission t) ≡ false
      at_itself here = subst (λ (z : Centre). is_handing (z.mission t) ≡ false) (sym at)
          (act (ap (λ (z : Centre). z.announced) (sym at) ∙ same ∙ ap (λ x. (w.at x).announced) here)
          (subst (λ x. is_handing ((w.at x).mission t) ≡ false) here none))
        where
          at : put w.at e new c ≡ new
          at = ap (put w.at e new) here ∙ put_same w.at e new

  pub none_anew : (event : Event) (answer : Answer) (new : World) → world_step line w event ≡ Ok (answer, new)
      → (new.at c).announced ≡ (w.at c).announced → is_handing ((new.at c).mission t) ≡ false
  none_anew = world_step_keeps line w sound.flow sound.numbered IsNone (λ same. none)
      (λ e to event alone. acted_none e (left_by line e (w.at e) event)
      (orderly_none t (w.at e) (left_by line e (w.at e) event) (sent_by line e (w.at e) event)
      (step_orderly line e event (w.at e) alone)))
      (λ a e from to f head next. acted_none e (left_by line e (w.at e) (centre.Deliver a f))
      (taken_none t a f.body (w.at e) (left_by line e (w.at e) (centre.Deliver a f))
      (sent_by line e (w.at e) (centre.Deliver a f))
      (step_taken line ok (flow_of w) sound.flow a e from to f head next)))

-- ## An event that goes on

module _ (line : Line) (w : World) (answer : Answer) (new : World) (d : ℕ) where
  abbrev IsSame : Type 0
  IsSame = (new.at d).announced ≡ (w.at d).announced

  stays_same : (other : Answer) → ◌≡◌ {A = Result (Answer × World) Refusal} (Ok (other, w)) (Ok (answer, new)) → IsSame
  stays_same other is = subst (λ (x : World). (x.at d).announced ≡ (w.at d).announced) (ap (λ r. world_of w r) is) refl

  stepped_same : (e : ℕ) (trains : List ℕ) (o : Option Refusal) (x : Outcome × Centre)
      → x.1.announced ≡ (w.at e).announced → stepped w e trains (option_map_or (λ why. Err why) o (Ok x))
      ≡ Ok (answer, new) → IsSame
  stepped_same e trains (Some why) x same is = cc
  stepped_same e trains None x same is = subst (λ (y : World). (y.at d).announced ≡ (w.at d).announced)
      (ap (λ r. world_of w r) is) (put_keeps (λ (k : Centre). k.announced) w.at e x.1 same d)

  takes_same : (e : ℕ) (trains : List ℕ) (event : centre.Event)
      → (left_by line e (w.at e) event).announced ≡ (w.at e).announced
      → takes line w e trains event ≡ Ok (answer, new) → IsSame
  unfolding step
  takes_same e trains event same is = stepped_same e trains (refusal line e (w.at e) event)
      (taken line e event (w.at e)) same is

  message_same : (e : ℕ) (m : TrainMessage) (k : Centre) (o : Option Reason) → IsGoingOn (Bytes e (Ok m))
      → (option_map_or {U = Effect} (λ why. record { reply = rest k; link = None; silence = Some why }) o
      (record { reply = hear_and_answer line e m k; link = None; silence = None })).reply.state.announced
      ≡ k.announced
  message_same e m k (Some why) on = refl
  message_same e m k None on = (heard_keeps line e m on.0 k).law

  at_same : (b : Bool) (r : Result (Answer × World) Refusal) → (r ≡ Ok (answer, new) → IsSame)
      → (if b then r else Ok (NoCentre, w)) ≡ Ok (answer, new) → IsSame
  at_same true r same is = same is
  at_same false r same is = stays_same NoCentre is

  sent_same : (a b : ℕ) (o : Option Frame)
      → option_map_or (λ f. takes line w b w.trains (centre.Deliver a f)) o (Ok (NotSent, w))
      ≡ Ok (answer, new) → IsSame
  sent_same a b None is = stays_same NotSent is
  sent_same a b (Some f) is = takes_same b w.trains (centre.Deliver a f)
      ((taken_keeps line b a f (link_answer line b (ticked (stamp_of (w.at b) (centre.Deliver a f)) (w.at b)) a f)
      (ticked (stamp_of (w.at b) (centre.Deliver a f)) (w.at b))).law) is

  pub announced_same : (event : Event) → IsGoingOn event → world_step line w event ≡ Ok (answer, new) → IsSame
  unfolding world_step
  announced_same (Bytes e (Ok m)) on is =
      at_same (is_centre line e) (takes line w e (mention line m.nid_engine w.trains) (centre.Train m))
      (takes_same e (mention line m.nid_engine w.trains) (centre.Train m)
      (message_same e m (ticked (stamp_of (w.at e) (centre.Train m)) (w.at e))
      (silence line e (ticked (stamp_of (w.at e) (centre.Train m)) (w.at e)) m) on)) is
  announced_same (Bytes e (Err number)) on is = absurd on
  announced_same (Set e s) on is = absurd on
  announced_same (Unset e s) on is = absurd on
  announced_same (Delivery a b number) on is = sent_same a b (frame_sent w a b number) is

-- no new handover is pending after such an event
pub none_new : (line : Line) → IsLine line → (w : World) → IsWorldSound line w → (event : Event) → IsGoingOn event
    → (answer : Answer) (new : World) → world_step line w event ≡ Ok (answer, new)
    → (c t : ℕ) → is_handing ((w.at c).mission t) ≡ false → is_handing ((new.at c).mission t) ≡ false
none_new line ok w sound event on answer new is c t none =
    none_anew line ok w sound c t none event answer new is (announced_same line w answer new c event on is)
