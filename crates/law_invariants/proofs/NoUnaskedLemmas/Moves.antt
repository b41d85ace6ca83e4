use Rattle.std.proofs.Common.{[], ◌&&◌, ◌++◌, ◌+◌, ◌-◌, ◌==◌, ◌∙◌, ◌∷◌, ◌≡◌, ◌≤◌, All, ap, arith, Bool, false}
use Rattle.std.proofs.Common.{if◌then◌else◌, is_some, min, None, not, Option, refl, Some, subst, sym, true, ℕ}
use Rattle.std.proofs.lemmas.Bool.{and_parts, eqb-true}
use Rattle.std.proofs.lemmas.List.Elements.{All-append, All-cons, All-nil}
use Rattle.std.specs.Option.{option_map_or}
use Rattle.law_base.proofs.CountingLemmas.Sums.{put_same}
use Rattle.law_base.proofs.WalkLemmas.Causes.{goes_back, goes_home, May, MaySend, to_some}
use Rattle.law_base.proofs.WalkLemmas.Frames.{answers, answers_then, foreign, frame_may, idle, Taking, walks}
use Rattle.law_base.proofs.WalkLemmas.Moves.{announces, Answer, asks_right, asks_route, begins_at, closes_handed, drops}
use Rattle.law_base.proofs.WalkLemmas.Moves.{gives, lends_some, Move, not_needed, nothing_waits, of_walk, recalls}
use Rattle.law_base.proofs.WalkLemmas.Moves.{refuses, returns, sends, takes_over, told, Walk, withdraws, yields}
use Rattle.law_base.specs.Counting.Sums.{one_if}
use Rattle.law_base.specs.Walk.Trains.{train_of}
use Rattle.law_invariants.proofs.HandoverLemmas.Moves.{one_alone}
use Rattle.law_invariants.proofs.NoUnaskedLemmas.Asking.{aside, Comes, comes_then, comes_too, comes_with, ends_one}
use Rattle.law_invariants.proofs.NoUnaskedLemmas.Asking.{Goes, goes_rest, goes_send, goes_then, IsAside, IsAsking}
use Rattle.law_invariants.proofs.NoUnaskedLemmas.Asking.{IsOfLine, less_stands, more_stands, named, none_comes, of_line}
use Rattle.law_invariants.proofs.NoUnaskedLemmas.Asking.{other_named, put_apart, return_aside, returned_aside}
use Rattle.law_invariants.proofs.NoUnaskedLemmas.Asking.{sends_one, still}
use Rattle.law_invariants.specs.NoUnasked.Asked.{IsBodyAsked, OfRight, OfRoute, Question, questions}
use Rattle.rbc_spec.proofs.Lists.{itself}
use Rattle.rbc_spec.proofs.Runs.{all_within, longest_is}
use Rattle.rbc_spec.specs.Acts.{booked, Reply, rest, returned}
use Rattle.rbc_spec.specs.Centre.{Centre, Expectation, is_free, is_open, Out}
use Rattle.rbc_spec.specs.Frame.{Announce, AskRight, Body, Cancel, GiveRight, RefuseRight, RouteAsk, RouteInfo}
use Rattle.rbc_spec.specs.Frame.{RouteWithdraw, TakingOver, Yield, yielded_place}
use Rattle.rbc_spec.specs.Line.{is_centre, is_home, is_linked, IsLine, Line, Section, section}
use Rattle.rbc_spec.specs.Links.{is_of_line, is_train, lendable}
use Rattle.rbc_spec.specs.Maps.{has, put}
use Rattle.rbc_spec.specs.Place.{Place}
use Rattle.rbc_spec.specs.Rules.{take_over}
use Rattle.rbc_spec.specs.SectionRuns.{all_of, most_in_hand, next_after}
use Rattle.rbc_spec.specs.Sections.{is_on, is_on_track}
use Rattle.rbc_spec.specs.Step.{withdraw}

module _ (line : Line) (ok : IsLine line) (c : ℕ) where
  -- ## Bodies that neither ask nor answer

  sent_aside : (may : May) → IsOfLine line may → (d : ℕ) (body : Body)
      → MaySend line c may d body → IsAside line c d body
  sent_aside may known d _ (goes_back t its away is) =
      record { none = refl; body = ap (has (λ r. r == d)) is ∙ itself d }
  sent_aside may known d _ (goes_home t r its some home came) = return_aside line c d t r (known t its) some home

  -- a body to one centre
  to_one_aside : (d : ℕ) (body : Body) → IsAside line c d body → (e : ℕ)
      → All (IsAside line c e) (to_some (Some d) body e)
  to_one_aside d body aside e = by_same (e == d) refl
    where
      by_same : (b : Bool) → (e == d) ≡ b → All (IsAside line c e) (if b then body ∷ [] else [])
      by_same true is = All-cons (IsAside line c e) body []
          (subst (λ x. IsAside line c x body) (sym (eqb-true e d is)) aside) (All-nil (IsAside line c e))
      by_same false is = All-nil (IsAside line c e)

  alone_aside : (d : ℕ) (body : Body) → IsAside line c d body → (e : ℕ)
      → All (IsAside line c e) (to_some (Some d) body e ++ [])
  alone_aside d body aside e = All-append (IsAside line c e) (to_some (Some d) body e) [] (to_one_aside d body aside e)
      (All-nil (IsAside line c e))

  goes_withdraw : (t s : ℕ) (k : Centre) → Goes line c k (withdraw line c t s k)
  goes_withdraw t s k = aside line c k k (withdraw line c t s k).frames refl refl (λ d. by_link d (is_linked line c d))
    where
      by_link : (d : ℕ) (b : Bool) → All (IsAside line c d) (if b then RouteWithdraw t s ∷ [] else [])
      by_link d true = All-cons (IsAside line c d) (RouteWithdraw t s) [] (record { none = refl; body = record {} })
          (All-nil (IsAside line c d))
      by_link d false = All-nil (IsAside line c d)

  goes_take_over : (t : ℕ) (k : Centre) → Goes line c k (take_over line t k)
  goes_take_over t k = aside line c k (take_over line t k).state (take_over line t k).frames refl refl
      (λ d. by_expected d (k.expects d t) (is_centre line d && has (λ e. not e.is_taking) (k.expects d t)))
    where
      by_expected : (d : ℕ) (o : Option Expectation) (b : Bool)
          → All (IsAside line c d) (option_map_or (λ e. if b then TakingOver e.number t ∷ [] else []) o [])
      by_expected d None b = All-nil (IsAside line c d)
      by_expected d (Some e) true = All-cons (IsAside line c d) (TakingOver e.number t) []
          (record { none = refl; body = record {} }) (All-nil (IsAside line c d))
      by_expected d (Some e) false = All-nil (IsAside line c d)

  -- ## Questions

  -- a right that was not asked for is asked for
  right_asked_for : (t : ℕ) (place : Place) (to : Option ℕ) (k : Centre) → k.has_asked t ≡ false
      → IsAsking line c none_comes k (record k { wait = put k.wait t (Some place); has_asked = put k.has_asked t true })
      (λ e. to_some to (AskRight t) e ++ [])
  right_asked_for t place to k none = by_registrar to
    where
      y : Centre
      y = record k { wait = put k.wait t (Some place); has_asked = put k.has_asked t true }

      counts : (r : ℕ) (x : Question) (d : ℕ) → (questions x d).inside c r (AskRight t) + (questions x d).cap c k
          ≤ 0 + (questions x d).cap c y
      counts r (OfRight u) d = more_stands (t == u) (c == d) (k.has_asked u) (put k.has_asked t true u)
          (λ same. let is = eqb-true t u same in (
            subst (λ v. k.has_asked v ≡ false) is none,
            subst (λ v. put k.has_asked t true v ≡ true) is (put_same k.has_asked t true),
          ))
          (put_apart k.has_asked t true u)
      counts r (OfRoute u first) d = omega arith

      by_registrar : (o : Option ℕ) → IsAsking line c none_comes k y (λ e. to_some o (AskRight t) e ++ [])
      by_registrar None = ends_one line c none_comes k y (λ x d. omega (arith, counts 0 x d))
      by_registrar (Some r) = sends_one line c none_comes r (AskRight t) k y _
          (λ e. one_alone (e == r) (AskRight t)) (counts r) (record {})

  -- sections that were not asked for are asked for, of the home of the first
  route_asked_for : (t d first most : ℕ) (k : Centre) → is_home line d first ≡ true → k.route_ask t ≡ None
      → IsAsking line c none_comes k (record k { route_ask = put k.route_ask t (Some first) })
      (λ e. to_some (Some d) (RouteAsk t first most) e ++ [])
  route_asked_for t d first most k home none =
      sends_one line c none_comes d (RouteAsk t first most) k y _
      (λ e. one_alone (e == d) (RouteAsk t first most)) counts home
    where
      y : Centre
      y = record k { route_ask = put k.route_ask t (Some first) }

      counts : (x : Question) (e : ℕ) → (questions x e).inside c d (RouteAsk t first most) + (questions x e).cap c k
          ≤ 0 + (questions x e).cap c y
      counts (OfRight u) e = omega arith
      counts (OfRoute u n) e = more_stands ((t == u) && (first == n)) (c == e) (named n (k.route_ask u))
          (named n (put k.route_ask t (Some first) u))
          (λ same. let both = and_parts (t == u) (first == n) same in let is = eqb-true t u both.0 in (
            subst (λ v. named n (k.route_ask v) ≡ false) is (ap (named n) none),
            subst (λ v. named n (put k.route_ask t (Some first) v) ≡ true) is
                (ap (named n) (put_same k.route_ask t (Some first)) ∙ both.1),
          ))
          (other_named first k.route_ask t (Some first) u n (λ apart. apart ∙ sym (ap (named n) none)))

  -- ## Each small move

  moves : (may : May) → IsOfLine line may → (was k : Centre) (q : Reply) → Move line c may was k q → Goes line c k q
  moves may known was _ _ (sends d body k why) = goes_send line c d body k (sent_aside may known d body why)
  moves may known was _ _ (returns t track r m k its has few) =
      aside line c k k (returned line c t track r k).frames refl refl
      (returned_aside line c ok t track r k (known t its))
  moves may known was _ _ (withdraws t s k home at) = goes_withdraw t s k
  moves may known was _ _ (takes_over t k its) = goes_take_over t k
  moves may known was _ _ (asks_right t place to k its fits away is none) = right_asked_for t place to k none
  moves may known was _ _ (asks_route t d m k its has empty home none ahead more) =
      route_asked_for t d (next_after m.hand) (min (most_in_hand - m.hand.count) (512 - next_after m.hand)) k home none
  moves may known was _ _ (announces t d m k its so has none ahead same) = aside line c k _ _ refl refl
      (λ e. All-append (IsAside line c e) (to_some (Some d) (Announce (k.announced + 1) t m.place.track) e ++ []) []
      (alone_aside d (Announce (k.announced + 1) t m.place.track) (record { none = refl; body = record {} }) e)
      (All-nil (IsAside line c e)))
  moves may known was _ _ (recalls t m h k its has stands none) =
      aside line c k _ _ refl refl (alone_aside h.to (Cancel h.number t) (record { none = refl; body = record {} }))
  moves may known was _ _ (closes_handed t m h k its has stands) =
      aside line c k _ _ refl refl (alone_aside h.to (Cancel h.number t) (record { none = refl; body = record {} }))
  moves may known was _ _ (yields t m h k its so has stands) = aside line c k _ _ refl refl
      (to_one_aside h.to (Yield h.number t (option_map_or (λ n. n) (k.heard t) 0) m.has_data m.is_ended
      (yielded_place m.place) m.hand) (record { none = refl; body = record {} }))
  moves may known was k q move = still line c k q.state refl refl

  pub of_moves : (may : May) → IsOfLine line may → (was k : Centre) (q : Reply)
      → Walk line c may was k q → Goes line c k q
  of_moves may known was = of_walk line c may was (Goes line c)
      (record { moves = moves may known was; joins = goes_then line c })

  -- ## Answers

  -- lent sections are of the own home, all on one track of the line
  lent_home : (k : Centre) (first most : ℕ) → all_of (is_home line c) (lendable line c k first most) ≡ true
  lent_home k first most = all_within (is_home line c) (lendable line c k first most) (λ s in_run.
      (and_parts (is_home line c s) (is_open (k.book s))
      (and_parts (is_free line c k s) (has (λ p. is_on line p.track s) (section line first))
      ((longest_is (λ e. is_free line c k e && has (λ p. is_on line p.track e) (section line first)) first most).each
      s in_run)).0).0)

  lent_of_line : (k : Centre) (first most : ℕ) → is_some (section line first) ≡ true
      → is_of_line line (lendable line c k first most) ≡ true
  lent_of_line k first most there = by_section (section line first) refl there
    where
      by_section : (o : Option Section) → section line first ≡ o → is_some o ≡ true
          → has (λ p. is_on_track line p.track (lendable line c k first most)) o ≡ true
      by_section None at is = cc
      by_section (Some p) at is = all_within (λ s. is_on line p.track s) (lendable line c k first most) (λ s in_run.
          ap (λ o. has (λ q. is_on line q.track s) o) (sym at)
          ∙ (and_parts (is_free line c k s) (has (λ q. is_on line q.track s) (section line first))
          ((longest_is (λ e. is_free line c k e && has (λ q. is_on line q.track e) (section line first))
          first most).each s in_run)).1)

  -- a right that is given or refused is asked for no more
  pub refused_too : (d t : ℕ) (x : Question) (e : ℕ) → comes_with d c (RefuseRight t) x e
      ≡ comes_with d c (GiveRight t) x e
  refused_too d t (OfRight u) e = refl
  refused_too d t (OfRoute u n) e = refl

  right_ends : (came : Question → ℕ → ℕ) (d t : ℕ) (was y : Centre)
      → ((x : Question) (e : ℕ) → came x e ≡ comes_with d c (GiveRight t) x e)
      → y.has_asked ≡ put was.has_asked t false → y.route_ask ≡ was.route_ask → IsAsking line c came was y (λ e. [])
  right_ends came d t was y same rights routes = ends_one line c came was y (λ x e. omega (arith, same x e, counts x e))
    where
      counts : (x : Question) (e : ℕ) → (questions x e).cap c was ≤ comes_with d c (GiveRight t) x e
          + (questions x e).cap c y
      counts (OfRight u) e =
          omega (
            arith,
            less_stands (t == u) (c == e) (was.has_asked u) (put was.has_asked t false u)
                (put_apart was.has_asked t false u),
            ap (λ (f : ℕ → Bool). one_if ((c == e) && f u)) rights,
          )
      counts (OfRoute u n) e = omega (arith, ap (λ (f : ℕ → Option ℕ). one_if ((c == e) && named n (f u))) routes)

  pub answered : (may : May) (was : Centre) (d : ℕ) (body : Body) (q : Reply) → is_train line (train_of body) ≡ true
      → IsBodyAsked line d c body → Answer line c may was d body q
      → Comes line c (comes_with d c body) was q
  answered may was d _ _ known is (gives t here has) =
      sends_one line c (comes_with d c (AskRight t)) d (GiveRight t) was
      (record was { has_right = put was.has_right t false }) _ (λ e. refl) counts (record {})
    where
      counts : (x : Question) (e : ℕ) → (questions x e).inside c d (GiveRight t) + (questions x e).cap c was
          ≤ (questions x e).inside d c (AskRight t) + (questions x e).cap c
          (record was { has_right = put was.has_right t false })
      counts (OfRight u) e = omega arith
      counts (OfRoute u n) e = omega arith
  answered may was d _ _ known is (refuses t here) =
      sends_one line c (comes_with d c (AskRight t)) d (RefuseRight t) was was _ (λ e. refl) counts (record {})
    where
      counts : (x : Question) (e : ℕ) → (questions x e).inside c d (RefuseRight t) + (questions x e).cap c was
          ≤ (questions x e).inside d c (AskRight t) + (questions x e).cap c was
      counts (OfRight u) e = omega arith
      counts (OfRoute u n) e = omega arith
  answered may was d _ _ known is (begins_at t place asked waits none) =
      right_ends (comes_with d c (GiveRight t)) d t was _ (λ x e. refl) refl refl
  answered may was d _ _ known is (not_needed t asked none) =
      right_ends (comes_with d c (GiveRight t)) d t was _ (λ x e. refl) refl refl
  answered may was d _ _ known is (drops t place so asked waits) =
      right_ends (comes_with d c (RefuseRight t)) d t was _ (refused_too d t) refl refl
  answered may was d _ _ known is (nothing_waits t asked none) =
      right_ends (comes_with d c (RefuseRight t)) d t was _ (refused_too d t) refl refl
  answered may was d _ _ known is (lends_some t first most there) =
      sends_one line c (comes_with d c (RouteAsk t first most)) d (RouteInfo t (lendable line c was first most))
      was lent _ (λ e. refl) counts
      (known, lent_of_line was first most there, is, lent_home was first most)
    where
      lent : Centre
      lent = (booked is_open (Out t) (lendable line c was first most) was).state

      counts : (x : Question) (e : ℕ) → (questions x e).inside c d (RouteInfo t (lendable line c was first most))
          + (questions x e).cap c was
          ≤ (questions x e).inside d c (RouteAsk t first most) + (questions x e).cap c lent
      counts (OfRight u) e = omega arith
      counts (OfRoute u n) e = omega arith
  answered may was d _ _ known is (told t r so) = ends_one line c (comes_with d c (RouteInfo t r)) was ended counts
    where
      ended : Centre
      ended = record was { route_ask = put was.route_ask t None }

      asked : named r.first (was.route_ask t) ≡ true
      asked = (and_parts (named r.first (was.route_ask t)) (is_of_line line r && is_home line d r.first)
          (and_parts _ (all_of (is_home line d) r) so).0).0

      not_named : (n : ℕ) (o : Option ℕ) → named r.first o ≡ true → (r.first == n) ≡ false → named n o ≡ false
      not_named n None so other = cc
      not_named n (Some q) so other = ap (λ v. v == n) (eqb-true q r.first so) ∙ other

      counts : (x : Question) (e : ℕ) → (questions x e).cap c was ≤ (questions x e).inside d c (RouteInfo t r)
          + (questions x e).cap c ended
      counts (OfRight u) e = omega arith
      counts (OfRoute u n) e = less_stands ((t == u) && (r.first == n)) (c == e) (named n (was.route_ask u))
          (named n (put was.route_ask t None u))
          (other_named r.first was.route_ask t None u n (λ apart. sym (not_named n (was.route_ask t) asked apart)))

  -- ## A frame

  pub comes_taken : (d : ℕ) (body : Body) (was : Centre) (q : Reply) → IsBodyAsked line d c body
      → Taking line c d was body q → Comes line c (comes_with d c body) was q
  comes_taken d body was _ is (foreign away) =
      comes_too line c (comes_with d c body) was (rest was) (goes_rest line c was)
  comes_taken d body was _ is (idle why) = comes_too line c (comes_with d c body) was (rest was) (goes_rest line c was)
  comes_taken d body was _ is (walks q known none walk) =
      comes_too line c (comes_with d c body) was q
      (of_moves (frame_may d body) (of_line line (frame_may d body) (train_of body) refl known) was was q walk)
  comes_taken d body was _ is (answers q known answer) = answered (frame_may d body) was d body q known is answer
  comes_taken d body was _ is (answers_then a b known answer walk) =
      comes_then line c (comes_with d c body) a b was (answered (frame_may d body) was d body (a was) known is answer)
      (of_moves (frame_may d body) (of_line line (frame_may d body) (train_of body) refl known) was
      (a was).state (b (a was).state) walk)
