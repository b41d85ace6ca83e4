-- Each small move loses no question. Each answer takes up the question or the answer that arrived, if the frame is due.
use Rattle.std.proofs.Common.{[], ⊎_elim, ◌&&◌, ◌++◌, ◌+◌, ◌-◌, ◌<◌, ◌==◌, ◌∙◌, ◌∷◌, ◌≡◌, ◌≢◌, ◌≤◌, All, ap, arith}
use Rattle.std.proofs.Common.{Bool, false, if◌then◌else◌, is_none, is_some, ltb-true, min, None, not, Option, refl}
use Rattle.std.proofs.Common.{Some, subst, sym, true, ℕ}
use Rattle.std.proofs.lemmas.Bool.{and_from, and_parts, cases_eq, eqb-true}
use Rattle.std.proofs.lemmas.List.Elements.{All-append, All-cons, All-nil}
use Rattle.std.specs.Option.{option_map_or}
use Rattle.law_base.proofs.CountingLemmas.Sums.{put_other, put_same}
use Rattle.law_base.proofs.WalkLemmas.Causes.{goes_back, goes_home, May, MaySend, to_some}
use Rattle.law_base.proofs.WalkLemmas.Frames.{answers, answers_then, foreign, frame_may, Idle, idle, no_place}
use Rattle.law_base.proofs.WalkLemmas.Frames.{no_registrar, no_section, not_asked, not_refused, Taking, walks}
use Rattle.law_base.proofs.WalkLemmas.Moves.{announces, Answer, asks_right, asks_route, begins_at, books, closes_handed}
use Rattle.law_base.proofs.WalkLemmas.Moves.{drops, frees, gives, lends, lends_some, makes, Move, not_needed}
use Rattle.law_base.proofs.WalkLemmas.Moves.{nothing_waits, of_walk, recalls, refuses, returns, sends, takes_over, told}
use Rattle.law_base.proofs.WalkLemmas.Moves.{waits as start_waits, waits_no_more as none_waits, Walk, withdraws, yields}
use Rattle.law_base.specs.Counting.Sums.{one_if}
use Rattle.law_base.specs.Walk.Trains.{train_of}
use Rattle.law_invariants.proofs.FlowLemmas.Neighbours.{home_below}
use Rattle.law_invariants.proofs.HandoverLemmas.Moves.{one_alone}
use Rattle.law_invariants.proofs.NoCopyLemmas.Tally.{HasRegistrar}
use Rattle.law_invariants.proofs.NoLossLemmas.Rights.{registrar_known, rights_kept}
use Rattle.law_invariants.proofs.NoStrayLemmas.Acts.{aside, Comes, comes_then, ends_one, freed_less, Goes, goes_send}
use Rattle.law_invariants.proofs.NoStrayLemmas.Acts.{goes_then, IsAnswering, returned_known, sends_one, stays_in, still}
use Rattle.law_invariants.proofs.NoStrayLemmas.Acts.{to_only, waits_no_more}
use Rattle.law_invariants.proofs.NoUnaskedLemmas.Asking.{comes_with, IsOfLine, named, none_comes, none_inside, of_line}
use Rattle.law_invariants.proofs.NoUnaskedLemmas.Asking.{other_named, put_apart}
use Rattle.law_invariants.proofs.NoUnaskedLemmas.Moves.{refused_too}
use Rattle.law_invariants.specs.Flow.Flow.{centre_count}
use Rattle.law_invariants.specs.NoStray.Due.{IsDue}
use Rattle.law_invariants.specs.NoStray.Questions.{HasAsked, HasKnownOuts, IsBodyKnown}
use Rattle.law_invariants.specs.NoUnasked.Asked.{OfRight, OfRoute, Question, questions}
use Rattle.rbc_spec.proofs.Lists.{itself}
use Rattle.rbc_spec.specs.Acts.{◌>>◌, Act, booked, freed, Reply, returned}
use Rattle.rbc_spec.specs.Centre.{Centre, Entry, Expectation, is_open, is_out_for, is_taken_for, Out, Taken}
use Rattle.rbc_spec.specs.Frame.{Announce, AskRight, Body, Cancel, GiveRight, RefuseRight, RouteAsk, RouteInfo}
use Rattle.rbc_spec.specs.Frame.{RouteWithdraw, TakingOver, Yield, yielded_place}
use Rattle.rbc_spec.specs.Line.{is_centre, is_home, is_linked, IsLine, Line, registrar, Section, section}
use Rattle.rbc_spec.specs.Links.{is_train, lendable}
use Rattle.rbc_spec.specs.Maps.{has, put}
use Rattle.rbc_spec.specs.Place.{covered, Place}
use Rattle.rbc_spec.specs.Rules.{take_over}
use Rattle.rbc_spec.specs.SectionRuns.{most_in_hand, next_after, SectionRun}
use Rattle.rbc_spec.specs.Step.{make, withdraw}

-- a question that becomes pending is asked
stands_anew : (z e o n : Bool) → (z ≡ false → n ≡ o) → 0 + one_if (e && n) ≤ (one_if (z && e) + 0) + one_if (e && o)
stands_anew true true o true same = omega arith
stands_anew true true o false same = omega arith
stands_anew true false o n same = omega arith
stands_anew false true o n same = omega (arith, ap one_if (same refl))
stands_anew false false o n same = omega arith

-- after its answer a question is not pending, and any other stays as before
ends_standing : (z e o n : Bool) → (z ≡ true → (o ≡ true) × (n ≡ false)) → (z ≡ false → n ≡ o)
    → (0 + one_if (z && e)) + one_if (e && n) ≤ one_if (e && o)
ends_standing true true o n now same = omega (arith, ap one_if (now refl).0, ap one_if (now refl).1)
ends_standing true false o n now same = omega arith
ends_standing false true o n now same = omega (arith, ap one_if (same refl))
ends_standing false false o n now same = omega arith

-- a section that becomes out is out for a train of the line
known_outs : (line : Line) (t : ℕ) (test : Entry → Bool) (r : SectionRun) (k : Centre) → is_train line t ≡ true
    → HasKnownOuts line k → HasKnownOuts line (booked test (Out t) r k).state
known_outs line t test r k known old = record { each = λ s u out. by_test _ (k.book s) u (old.each s u) out }
  where
    by_test : (b : Bool) (g : Entry) (u : ℕ) → (is_out_for u g ≡ true → is_train line u ≡ true)
        → is_out_for u (if b then Out t else g) ≡ true → is_train line u ≡ true
    by_test false g u before out = before out
    by_test true g u before out = subst (λ v. is_train line v ≡ true) (eqb-true t u out) known

-- the home of a section is a centre of the line
home_small : (line : Line) → IsLine line → (c s : ℕ) → is_home line c s ≡ true → c < centre_count line
home_small line ok c s = by_section (section line s) refl
  where
    by_section : (o : Option Section) → section line s ≡ o → has (λ p. p.home == c) o ≡ true → c < centre_count line
    by_section None at home = cc
    by_section (Some p) at home =
        ltb-true c (centre_count line) (subst (λ d. is_centre line d ≡ true) (eqb-true p.home c home)
        (home_below line ok s p at))

there_is : (line : Line) (c s : ℕ) → is_home line c s ≡ true → is_some (section line s) ≡ true
there_is line c s = by_section (section line s)
  where
    by_section : (o : Option Section) → has (λ p. p.home == c) o ≡ true → is_some o ≡ true
    by_section None home = cc
    by_section (Some p) home = refl

-- a start that waits, of which the right was asked for
waits_asked : (t : ℕ) (wait new : ℕ → Option Place) (asked : ℕ → Bool) (place : Place) → asked t ≡ true
    → ((u : ℕ) → new u ≡ put wait t (Some place) u)
    → ((u : ℕ) → u ≢ t → is_some (wait u) ≡ true → asked u ≡ true) → (u : ℕ) → is_some (new u) ≡ true → asked u ≡ true
waits_asked t wait new asked place is same old u some = ⊎_elim
    (λ (here : u ≡ t). ap asked here ∙ is)
    (λ (other : u ≢ t). old u other (sym (ap is_some (same u ∙ put_other wait t (Some place) u other)) ∙ some))
    (cases_eq u t)

module _ (line : Line) (ok : IsLine line) (c : ℕ) where
  -- ## Bodies that neither ask nor answer

  sent_known : (may : May) → IsOfLine line may → (d : ℕ) (body : Body) → MaySend line c may d body
      → IsBodyKnown line c d body
  sent_known may known d _ (goes_back t its away is) = record { known = known t its; sent = record {} }
  sent_known may known d _ (goes_home t r its some home came) = record { known = known t its; sent = record {} }

  alone_known : (d : ℕ) (body : Body) → IsBodyKnown line c d body → (e : ℕ)
      → All (IsBodyKnown line c e) (to_some (Some d) body e ++ [])
  alone_known d body is e = All-append (IsBodyKnown line c e) (to_some (Some d) body e) [] (to_only line c d body is e)
      (All-nil (IsBodyKnown line c e))

  goes_withdraw : (t s : ℕ) (k : Centre) → is_home line c s ≡ true → is_train line t ≡ true
      → Goes line c k (withdraw line c t s k)
  goes_withdraw t s k home known = aside line c k k (withdraw line c t s k).frames refl refl refl (λ old. old)
      (λ d. by_link d (is_linked line c d))
    where
      by_link : (d : ℕ) (b : Bool) → All (IsBodyKnown line c d) (if b then RouteWithdraw t s ∷ [] else [])
      by_link d true = All-cons (IsBodyKnown line c d) (RouteWithdraw t s) [] (record { known = known; sent = home })
          (All-nil (IsBodyKnown line c d))
      by_link d false = All-nil (IsBodyKnown line c d)

  goes_take_over : (t : ℕ) (k : Centre) → is_train line t ≡ true → Goes line c k (take_over line t k)
  goes_take_over t k known = aside line c k (take_over line t k).state (take_over line t k).frames refl refl refl
      (λ old. record { each = old.each })
      (λ d. by_expected d (k.expects d t) (is_centre line d && has (λ e. not e.is_taking) (k.expects d t)))
    where
      by_expected : (d : ℕ) (o : Option Expectation) (b : Bool)
          → All (IsBodyKnown line c d) (option_map_or (λ e. if b then TakingOver e.number t ∷ [] else []) o [])
      by_expected d None b = All-nil (IsBodyKnown line c d)
      by_expected d (Some e) true = All-cons (IsBodyKnown line c d) (TakingOver e.number t) []
          (record { known = known; sent = record {} }) (All-nil (IsBodyKnown line c d))
      by_expected d (Some e) false = All-nil (IsBodyKnown line c d)

  -- ## Questions

  -- a train of the line has a registrar
  registered : (t : ℕ) → is_train line t ≡ true → HasRegistrar line t
  registered t known = registrar_known line ok c (rights_kept line c t) known

  -- a start that waits, and the right for it, asked of the registrar
  right_asked_for : (t : ℕ) (place : Place) (to : Option ℕ) (k : Centre) → is_train line t ≡ true
      → registrar line t ≡ to → k.has_asked t ≡ false
      → IsAnswering line c none_comes k
      (record k { wait = put k.wait t (Some place); has_asked = put k.has_asked t true })
      (λ e. to_some to (AskRight t) e ++ [])
  right_asked_for t place to k known is none =
      subst (λ o. IsAnswering line c none_comes k y (λ e. to_some o (AskRight t) e ++ [])) (sym r.is ∙ is)
      (sends_one line c none_comes r.centre (AskRight t) k y _ r.below
      (λ e. one_alone (e == r.centre) (AskRight t)) counts
      (record { known = known; sent = ap (has (λ d. d == r.centre)) r.is ∙ itself r.centre })
      (λ old. record { each = old.each })
      (λ old. record {
        each = waits_asked t k.wait (put k.wait t (Some place)) (put k.has_asked t true) place
            (put_same k.has_asked t true) (λ u. refl)
            (λ u other some. put_other k.has_asked t true u other ∙ old.each u some);
      }))
    where
      r : HasRegistrar line t
      r = registered t known

      y : Centre
      y = record k { wait = put k.wait t (Some place); has_asked = put k.has_asked t true }

      counts : (x : Question) (d : ℕ) → 0 + (questions x d).cap c y ≤ (questions x d).inside c r.centre (AskRight t)
          + (questions x d).cap c k
      counts (OfRight u) d = stands_anew (t == u) (c == d) (k.has_asked u) (put k.has_asked t true u)
          (put_apart k.has_asked t true u)
      counts (OfRoute u first) d = omega arith

  -- sections in advance of the hand are asked for, of the home of the first
  route_asked_for : (t d first most : ℕ) (k : Centre) → is_train line t ≡ true
      → is_home line d first ≡ true → k.route_ask t ≡ None
      → IsAnswering line c none_comes k (record k { route_ask = put k.route_ask t (Some first) })
      (λ e. to_some (Some d) (RouteAsk t first most) e ++ [])
  route_asked_for t d first most k known home none =
      sends_one line c none_comes d (RouteAsk t first most) k y _ (home_small line ok d first home)
      (λ e. one_alone (e == d) (RouteAsk t first most)) counts (record { known = known; sent = record {} })
      (λ old. record { each = old.each }) (λ old. record { each = old.each })
    where
      y : Centre
      y = record k { route_ask = put k.route_ask t (Some first) }

      counts : (x : Question) (e : ℕ) → 0 + (questions x e).cap c y ≤ (questions x e).inside c d (RouteAsk t first most)
          + (questions x e).cap c k
      counts (OfRight u) e = omega arith
      counts (OfRoute u n) e = stands_anew ((t == u) && (first == n)) (c == e) (named n (k.route_ask u))
          (named n (put k.route_ask t (Some first) u))
          (other_named first k.route_ask t (Some first) u n (λ apart. apart ∙ sym (ap (named n) none)))

  -- no question changes, and the start of a train waits or waits no more
  goes_wait : (t : ℕ) (new : Option Place) (k : Centre) → (HasAsked k → HasAsked (record k { wait = put k.wait t new }))
      → IsAnswering line c none_comes k (record k { wait = put k.wait t new }) (λ d. [])
  goes_wait t new k waits = ends_one line c none_comes k (record k { wait = put k.wait t new })
      counts (λ s u out. out) waits
    where
      counts : (x : Question) (d : ℕ) → 0 + (questions x d).cap c (record k { wait = put k.wait t new })
          ≤ (questions x d).cap c k
      counts (OfRight u) d = omega arith
      counts (OfRoute u n) d = omega arith

  -- ## Each small move

  -- if each section that is out is out for a train of the line
  abbrev Holds : Centre → Reply → Type 0
  Holds k q = HasKnownOuts line k → Goes line c k q

  moves : (may : May) → IsOfLine line may → (was k : Centre) (q : Reply) → Move line c may was k q → Holds k q
  moves may known was _ _ (sends d body k why) old = goes_send line c d body k (sent_known may known d body why)
  moves may known was _ _ (returns t track r m k its has few) old =
      aside line c k k (returned line c t track r k).frames refl refl refl (λ outs. outs)
      (returned_known line c t track r k (known t its))
  moves may known was _ _ (withdraws t s k home at) old =
      goes_withdraw t s k home (old.each s t (ap (is_out_for t) at ∙ itself t))
  moves may known was _ _ (takes_over t k its) old = goes_take_over t k (known t its)
  moves may known was _ _ (books test t r k) old =
      still line c k (booked test (Taken t) r k).state refl refl refl
      (λ s u out. stays_in line c _ (Taken t) (k.book s) u refl out)
  moves may known was _ _ (lends test t r k its) old =
      aside line c k (booked test (Out t) r k).state (λ d. []) refl refl refl (known_outs line t test r k (known t its))
      (λ d. All-nil (IsBodyKnown line c d))
  moves may known was _ _ (frees test r k so) old =
      still line c k (freed line c test r k).state refl refl refl (freed_less line c test r k)
  moves may known was _ _ (makes s entry wish k unused) old =
      still line c k (make s entry wish k).state refl refl refl
      (λ e t out. stays_in line c (e == s) entry (k.book e) t (unused t) out)
  moves may known was _ _ (start_waits t place k fits asked) old =
      goes_wait t (Some place) k
      (λ waits. record {
        each = waits_asked t k.wait (put k.wait t (Some place)) k.has_asked place asked (λ u. refl)
            (λ u other some. waits.each u some);
      })
  moves may known was _ _ (none_waits t k) old =
      goes_wait t None k (λ waits. record { each = λ u some. waits.each u (waits_no_more t k.wait u some).1 })
  moves may known was _ _ (asks_right t place to k its fits away is none) old =
      right_asked_for t place to k (known t its) is none
  moves may known was _ _ (asks_route t d m k its has empty home none ahead more) old =
      route_asked_for t d (next_after m.hand) (min (most_in_hand - m.hand.count) (512 - next_after m.hand))
      k (known t its) home none
  moves may known was _ _ (announces t d m k its so has none ahead same) old =
      aside line c k _ _ refl refl refl (λ outs. record { each = outs.each })
      (λ e. All-append (IsBodyKnown line c e) (to_some (Some d) (Announce (k.announced + 1) t m.place.track) e ++ []) []
      (alone_known d (Announce (k.announced + 1) t m.place.track) (record { known = known t its; sent = record {} })
      e) (All-nil (IsBodyKnown line c e)))
  moves may known was _ _ (recalls t m h k its has stands none) old =
      aside line c k _ _ refl refl refl (λ outs. record { each = outs.each })
      (alone_known h.to (Cancel h.number t) (record { known = known t its; sent = record {} }))
  moves may known was _ _ (closes_handed t m h k its has stands) old =
      aside line c k _ _ refl refl refl (λ outs. record { each = outs.each })
      (alone_known h.to (Cancel h.number t) (record { known = known t its; sent = record {} }))
  moves may known was _ _ (yields t m h k its so has stands) old =
      aside line c k _ _ refl refl refl (λ outs. record { each = outs.each })
      (to_only line c h.to (Yield h.number t (option_map_or (λ n. n) (k.heard t) 0) m.has_data m.is_ended
      (yielded_place m.place) m.hand) (record { known = known t its; sent = record {} }))
  moves may known was k q move old = still line c k q.state refl refl refl (λ s u out. out)

  joins : (a b : Act) (k : Centre) → Holds k (a k) → Holds (a k).state (b (a k).state) → Holds k ((a >> b) k)
  joins a b k one two old = let first = one old in goes_then line c a b k first (two (first.outs old))

  pub of_moves : (may : May) → IsOfLine line may → (was k : Centre) (q : Reply) → Walk line c may was k q
      → HasKnownOuts line k → Goes line c k q
  of_moves may known was = of_walk line c may was Holds (record { moves = moves may known was; joins = joins })

  -- ## Answers

  -- a right that is given or refused is asked for no more, and no start waits for it
  module _ (t : ℕ) (was : Centre) (asked : was.has_asked t ≡ true) where
    others_ask : (wait : ℕ → Option Place)
        → ((u : ℕ) → is_some (wait u) ≡ true → (u ≢ t) × (is_some (was.wait u) ≡ true)) → HasAsked was → (u : ℕ)
        → is_some (wait u) ≡ true → put was.has_asked t false u ≡ true
    others_ask wait less old u some = let is = less u some in put_other was.has_asked t false u is.0 ∙ old.each u is.1

    no_start : was.wait t ≡ None → (u : ℕ) → is_some (was.wait u) ≡ true → (u ≢ t) × (is_some (was.wait u) ≡ true)
    no_start none u some =
        (λ same. let wrong : true ≡ false = sym some ∙ ap is_some (ap was.wait same ∙ none) in cc, some)

    right_ends : (came : Question → ℕ → ℕ) (d : ℕ) (y : Centre)
        → ((x : Question) (e : ℕ) → came x e ≡ comes_with d c (GiveRight t) x e)
        → y.has_asked ≡ put was.has_asked t false → y.route_ask ≡ was.route_ask
        → ((s u : ℕ) → is_out_for u (y.book s) ≡ true → is_out_for u (was.book s) ≡ true)
        → ((u : ℕ) → is_some (y.wait u) ≡ true → (u ≢ t) × (is_some (was.wait u) ≡ true))
        → IsAnswering line c came was y (λ e. [])
    right_ends came d y same rights routes less waits =
        ends_one line c came was y (λ x e. omega (arith, same x e, counts x e)) less
        (λ old. record { each = λ u some. ap (λ (f : ℕ → Bool). f u) rights ∙ others_ask y.wait waits old u some })
      where
        counts : (x : Question) (e : ℕ) → comes_with d c (GiveRight t) x e + (questions x e).cap c y
            ≤ (questions x e).cap c was
        counts (OfRight u) e = omega (
          arith,
          ends_standing (t == u) (c == e) (was.has_asked u) (put was.has_asked t false u)
              (λ this. let is = eqb-true t u this in (
                subst (λ v. was.has_asked v ≡ true) is asked,
                subst (λ v. put was.has_asked t false v ≡ false) is (put_same was.has_asked t false),
              ))
              (put_apart was.has_asked t false u),
          ap (λ (f : ℕ → Bool). one_if ((c == e) && f u)) rights,
        )
        counts (OfRoute u n) e = omega (arith, ap (λ (f : ℕ → Option ℕ). one_if ((c == e) && named n (f u))) routes)

  pub answered : (may : May) (was : Centre) (d : ℕ) (body : Body) (q : Reply) → d < centre_count line
      → is_train line (train_of body) ≡ true → IsDue line d c was body → Answer line c may was d body q
      → Comes line c (comes_with d c body) was q
  answered may was d _ _ below known due (gives t here has) =
      sends_one line c (comes_with d c (AskRight t)) d (GiveRight t) was
      (record was { has_right = put was.has_right t false }) _ below (λ e. refl) counts
      (record { known = known; sent = record {} })
      (λ old. record { each = old.each }) (λ old. record { each = old.each })
    where
      counts : (x : Question) (e : ℕ) → (questions x e).inside d c (AskRight t)
          + (questions x e).cap c (record was { has_right = put was.has_right t false })
          ≤ (questions x e).inside c d (GiveRight t) + (questions x e).cap c was
      counts (OfRight u) e = omega arith
      counts (OfRoute u n) e = omega arith
  answered may was d _ _ below known due (refuses t here) =
      sends_one line c (comes_with d c (AskRight t)) d (RefuseRight t) was was _ below (λ e. refl) counts
      (record { known = known; sent = record {} }) (λ old. old) (λ old. old)
    where
      counts : (x : Question) (e : ℕ) → (questions x e).inside d c (AskRight t) + (questions x e).cap c was
          ≤ (questions x e).inside c d (RefuseRight t) + (questions x e).cap c was
      counts (OfRight u) e = omega arith
      counts (OfRoute u n) e = omega arith
  answered may was d _ _ below known due (begins_at t place asked waits none) =
      right_ends t was asked (comes_with d c (GiveRight t)) d _ (λ x e. refl) refl refl (λ s u out. out)
      (waits_no_more t was.wait)
  answered may was d _ _ below known due (not_needed t asked none) =
      right_ends t was asked (comes_with d c (GiveRight t)) d _ (λ x e. refl) refl refl (λ s u out. out)
      (no_start t was asked (no_wait (was.wait t) none))
    where
      no_wait : (o : Option Place) → (is_some o && is_none (was.mission t)) ≡ false → o ≡ None
      no_wait None so = refl
      no_wait (Some place) so = let wrong : true ≡ false = sym (ap is_none due.2) ∙ so in cc
  answered may was d _ _ below known due (drops t place so asked waits) =
      right_ends t was asked (comes_with d c (RefuseRight t)) d _ (refused_too line ok c d t) refl refl
      (freed_less line c (is_taken_for t) (covered line place) was) (waits_no_more t was.wait)
  answered may was d _ _ below known due (nothing_waits t asked none) =
      right_ends t was asked (comes_with d c (RefuseRight t)) d _ (refused_too line ok c d t) refl refl (λ s u out. out)
      (no_start t was asked none)
  answered may was d _ _ below known due (lends_some t first most there) =
      sends_one line c (comes_with d c (RouteAsk t first most)) d (RouteInfo t (lendable line c was first most)) was
      lent _ below (λ e. refl) counts (record { known = known; sent = record {} })
      (known_outs line t is_open (lendable line c was first most) was known) (λ old. record { each = old.each })
    where
      lent : Centre
      lent = (booked is_open (Out t) (lendable line c was first most) was).state

      counts : (x : Question) (e : ℕ) → (questions x e).inside d c (RouteAsk t first most) + (questions x e).cap c lent
          ≤ (questions x e).inside c d (RouteInfo t (lendable line c was first most)) + (questions x e).cap c was
      counts (OfRight u) e = omega arith
      counts (OfRoute u n) e = omega arith
  answered may was d _ _ below known due (told t r so) =
      ends_one line c (comes_with d c (RouteInfo t r)) was (record was { route_ask = put was.route_ask t None }) counts
      (λ s u out. out) (λ old. record { each = old.each })
    where
      now : (u n : ℕ) → ((t == u) && (r.first == n)) ≡ true → (named n (was.route_ask u) ≡ true)
          × (named n (put was.route_ask t None u) ≡ false)
      now u n same = let both = and_parts (t == u) (r.first == n) same in let is = eqb-true t u both.0 in (
        subst (λ v. named n (was.route_ask v) ≡ true) is (ap (named n) due.0 ∙ both.1),
        subst (λ v. named n (put was.route_ask t None v) ≡ false) is (ap (named n) (put_same was.route_ask t None)),
      )

      counts : (x : Question) (e : ℕ) → (questions x e).inside d c (RouteInfo t r)
          + (questions x e).cap c (record was { route_ask = put was.route_ask t None }) ≤ (questions x e).cap c was
      counts (OfRight u) e = omega arith
      counts (OfRoute u n) e = ends_standing ((t == u) && (r.first == n)) (c == e) (named n (was.route_ask u))
          (named n (put was.route_ask t None u)) (now u n)
          (other_named r.first was.route_ask t None u n (λ apart. sym (ap (named n) due.0 ∙ apart)))

  -- ## A frame

  -- a frame that is due has its effect
  due_acts : (d : ℕ) (was : Centre) (body : Body) → IsDue line d c was body → Idle line c d was body → ⊥
  due_acts d was _ due (no_registrar t away) = let wrong : true ≡ false = sym due ∙ away in cc
  due_acts d was _ due (not_asked t none) = let wrong : true ≡ false = sym due.0 ∙ none in cc
  due_acts d was _ due (not_refused t none) = let wrong : true ≡ false = sym due ∙ none in cc
  due_acts d was _ due (no_section t first most none) = let wrong : true ≡ false =
      sym (there_is line c first due) ∙ none in cc
  due_acts d was _ due (no_place t r away) =
      let wrong : true ≡ false =
      sym (and_from _ _ (and_from _ _ (ap (named r.first) due.0 ∙ itself r.first) (and_from _ _ due.1 due.2)) due.3)
      ∙ away in cc

  -- a frame that neither asks nor answers
  comes_aside : (came : Question → ℕ → ℕ) (k : Centre) (q : Reply) → ((x : Question) (d : ℕ) → came x d ≡ 0)
      → Goes line c k q → Comes line c came k q
  comes_aside came k q none goes =
      record {
        law = λ x d. omega (arith, none x d, goes.law x d);
        bodies = goes.bodies;
        outs = goes.outs;
        waits = goes.waits;
      }

  pub comes_taken : (d : ℕ) (body : Body) (was : Centre) (q : Reply) → d < centre_count line
      → is_train line (train_of body) ≡ true → IsDue line d c was body → HasKnownOuts line was
      → Taking line c d was body q → Comes line c (comes_with d c body) was q
  comes_taken d body was _ below known due outs (foreign away) =
      absurd (let wrong : true ≡ false = sym known ∙ away in cc)
  comes_taken d body was _ below known due outs (idle why) = absurd (due_acts d was body due why)
  comes_taken d body was _ below known due outs (walks q so none walk) =
      comes_aside (comes_with d c body) was q (none_inside d c body none)
      (of_moves (frame_may d body) (of_line line (frame_may d body) (train_of body) refl known) was was q walk outs)
  comes_taken d body was _ below known due outs (answers q so answer) =
      answered (frame_may d body) was d body q below known due answer
  comes_taken d body was _ below known due outs (answers_then a b so answer walk) = let first =
      answered (frame_may d body) was d body (a was) below known due answer in
      comes_then line c (comes_with d c body) a b was first
      (of_moves (frame_may d body) (of_line line (frame_may d body) (train_of body) refl known) was (a was).state
      (b (a was).state) walk (first.outs outs))
