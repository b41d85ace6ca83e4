-- The frame that a question causes, and the state after its answer.
use Rattle.std.proofs.Common.{[], ◌&&◌, ◌==◌, ◌∙◌, ◌∷◌, ◌≡◌, ap, Bool, false, if◌then◌else◌, is_none, is_some, List}
use Rattle.std.proofs.Common.{None}
use Rattle.std.proofs.Common.{Option, refl, Some, sym, true, ℕ}
use Rattle.std.proofs.lemmas.Bool.{and_parts, eqb-true}
use Rattle.std.specs.Option.{option_map_or}
use Rattle.law_base.specs.Walk.Trains.{train_of}
use Rattle.law_invariants.specs.NoStray.Due.{IsDue}
use Rattle.law_invariants.specs.NoUnasked.Asked.{answers, asks, OfRight, OfRoute, Question, stands}
use Rattle.rbc_spec.proofs.Lists.{itself, put_here}
use Rattle.rbc_spec.specs.Acts.{◌>>◌, Act, become, change_mission, freed, rest, return_right, send, with_some}
use Rattle.rbc_spec.specs.Centre.{Centre, is_registrar_of, is_taken_for}
use Rattle.rbc_spec.specs.Frame.{AskRight, Body, GiveRight, RefuseRight, ReturnRight, RouteAsk, RouteInfo, RouteReturn}
use Rattle.rbc_spec.specs.Line.{is_home, Line, registrar, section}
use Rattle.rbc_spec.specs.Links.{answered_ask, is_of_line, is_train, is_wanted, lendable, received}
use Rattle.rbc_spec.specs.Maps.{has, put}
use Rattle.rbc_spec.specs.Place.{covered, Place}
use Rattle.rbc_spec.specs.Rules.{begin, drop_wait, reject}
use Rattle.rbc_spec.specs.SectionRuns.{all_of, is_empty, SectionRun}

-- one body is sent, and it answers the question
pub record IsAnswer (x : Question) (bodies : List Body) : Type 0 where
  pub body : Body
  pub alone : bodies ≡ body ∷ []
  pub answers_it : answers x body ≡ true

has_some : {X : Type 0} (test : X → Bool) (o : Option X) → has test o ≡ true → is_some o ≡ true
has_some test None is = cc
has_some test (Some x) is = refl

has_equal : (n : ℕ) (o : Option ℕ) → o ≡ Some n → has (λ m. m == n) o ≡ true
has_equal n o is = ap (has (λ m. m == n)) is ∙ itself n

module _ (line : Line) where
  -- ## A question

  module _ (d c : ℕ) (j : Centre) where
    right_sent : (t u : ℕ) → (u == t) ≡ true → is_train line u ≡ true → is_registrar_of line d u ≡ true
        → IsAnswer (OfRight t) ((received line d c (AskRight u) j).frames c)
    unfolding ◌>>◌
    right_sent t u is known here = rw (known, here) (by_right (j.has_right u))
      where
        by_right : (b : Bool) → IsAnswer (OfRight t)
            ((if b then (become (λ k. record k { has_right = put k.has_right u false }) >> send c (GiveRight u)) j
            else send c (RefuseRight u) j).frames c)
        by_right true = record {
          body = GiveRight u;
          alone = ap (λ (b : Bool). if b then GiveRight u ∷ [] else []) (itself c);
          answers_it = is;
        }
        by_right false = record {
          body = RefuseRight u;
          alone = ap (λ (b : Bool). if b then RefuseRight u ∷ [] else []) (itself c);
          answers_it = is;
        }

    route_sent : (t first u n most : ℕ) → ((u == t) && (n == first)) ≡ true → is_train line u ≡ true
        → is_home line d n ≡ true
        → IsAnswer (OfRoute t first) ((received line d c (RouteAsk u n most) j).frames c)
    unfolding ◌>>◌
    route_sent t first u n most is known here = rw (known, has_some (λ p. p.home == d) (section line n) here) (record {
      body = RouteInfo u (lendable line d j n most);
      alone = ap (λ (b : Bool). if b then RouteInfo u (lendable line d j n most) ∷ [] else []) (itself c);
      answers_it = is;
    })

    pub answer_sent : (x : Question) (body : Body) → asks x body ≡ true → is_train line (train_of body) ≡ true
        → IsDue line c d j body → IsAnswer x ((received line d c body j).frames c)
    answer_sent (OfRight t) (AskRight u) is known due = right_sent t u is known due
    answer_sent (OfRoute t first) (RouteAsk u n most) is known due = route_sent t first u n most is known due
    answer_sent (OfRight t) body is known due = cc
    answer_sent (OfRoute t first) body is known due = cc

  -- ## An answer

  module _ (c d : ℕ) (j : Centre) where
    -- the right arrives: a start begins, or the right goes back
    given_ends : (u : ℕ) → is_train line u ≡ true → j.has_asked u ≡ true
        → (received line c d (GiveRight u) j).state.has_asked ≡ put j.has_asked u false
    unfolding ◌>>◌
    given_ends u known asked = rw (known, asked) (by_wait (is_some (j.wait u) && is_none (j.mission u)))
      where
        i : Centre
        i = (answered_ask u j).state

        begins : Place → Act
        begins place = become (λ k. record k { wait = put k.wait u None }) >> begin line u place

        by_place : (o : Option Place) → (option_map_or (λ place. begins place i) o (rest i)).state.has_asked
            ≡ i.has_asked
        by_place None = refl
        by_place (Some place) = refl

        back : (b : Bool) (o : Option ℕ)
            → ((if b then become (λ k. record k { has_right = put k.has_right u true })
            else option_map_or (λ r. send r (ReturnRight u)) o rest) i).state.has_asked ≡ i.has_asked
        back true o = refl
        back false None = refl
        back false (Some r) = refl

        by_wait : (b : Bool)
            → (if b then with_some (λ k. k.wait u) begins i else return_right line c u i).state.has_asked ≡ i.has_asked
        by_wait true = by_place (j.wait u)
        by_wait false = back (is_registrar_of line c u) (registrar line u)

    -- the right is refused: a start that waits is rejected
    refused_ends : (u : ℕ) → is_train line u ≡ true → j.has_asked u ≡ true
        → (received line c d (RefuseRight u) j).state.has_asked ≡ put j.has_asked u false
    unfolding ◌>>◌
    refused_ends u known asked = rw (known, asked) (by_wait (j.wait u))
      where
        i : Centre
        i = (answered_ask u j).state

        by_wait : (o : Option Place)
            → (if is_some o then (drop_wait line c u >> reject u) i else rest i).state.has_asked
            ≡ i.has_asked
        by_wait None = refl
        by_wait (Some place) = by_place (j.wait u)
          where
            by_place : (o : Option Place)
                → (option_map_or
                (λ at. (freed line c (is_taken_for u) (covered line at)
                >> become (λ k. record k { wait = put k.wait u None })) i) o (rest i)).state.has_asked ≡ i.has_asked
            by_place None = refl
            by_place (Some at) = refl

    -- sections arrive: they are in the pool then, or go back
    told_ends : (u : ℕ) (r : SectionRun) → is_train line u ≡ true → j.route_ask u ≡ Some r.first
        → is_of_line line r ≡ true → is_home line d r.first ≡ true → all_of (is_home line d) r ≡ true
        → (received line c d (RouteInfo u r) j).state.route_ask ≡ put j.route_ask u None
    unfolding ◌>>◌
    told_ends u r known asked on home homes =
        rw (known, has_equal r.first (j.route_ask u) asked, on, home, homes)
        (by_use (has (is_wanted line r) (j.mission u)))
      where
        i : Centre
        i = record j { route_ask = put j.route_ask u None }

        back : (b : Bool) → ((if b then rest else send d (RouteReturn u r)) i).state.route_ask ≡ i.route_ask
        back true = refl
        back false = refl

        by_use : (b : Bool)
            → (if b then change_mission u (λ m. record m { pool = r }) i
            else (if is_empty r then rest else send d (RouteReturn u r)) i).state.route_ask ≡ i.route_ask
        by_use true = refl
        by_use false = back (is_empty r)

    right_ends : (t u : ℕ) (y : Centre) → (u == t) ≡ true → y.has_asked ≡ put j.has_asked u false
        → stands (OfRight t) y ≡ false
    right_ends t u y is same = ap (λ (f : ℕ → Bool). f t) same
        ∙ put_here j.has_asked u t false (sym (eqb-true u t is))

    route_ends : (t first u : ℕ) (y : Centre) → (u == t) ≡ true → y.route_ask ≡ put j.route_ask u None
        → stands (OfRoute t first) y ≡ false
    route_ends t first u y is same = ap (has (λ n. n == first))
        (ap (λ (f : ℕ → Option ℕ). f t) same ∙ put_here j.route_ask u t None (sym (eqb-true u t is)))

    pub answer_ends : (x : Question) (body : Body) → answers x body ≡ true → is_train line (train_of body) ≡ true
        → IsDue line d c j body → stands x (received line c d body j).state ≡ false
    answer_ends (OfRight t) (GiveRight u) is known due = right_ends t u (received line c d (GiveRight u) j).state is
        (given_ends u known due.0)
    answer_ends (OfRight t) (RefuseRight u) is known due = right_ends t u (received line c d (RefuseRight u) j).state is
        (refused_ends u known due)
    answer_ends (OfRoute t first) (RouteInfo u r) is known due =
        route_ends t first u (received line c d (RouteInfo u r) j).state (and_parts (u == t) (r.first == first) is).0
        (told_ends u r known due.0 due.1 due.2 due.3)
    answer_ends (OfRight t) body is known due = cc
    answer_ends (OfRoute t first) body is known due = cc
