-- The centre that supervises a train, sought among the trains of the view.
use Rattle.std.proofs.Common.{[], ◌++◌, ◌+◌, ◌<◌, ◌==◌, ◌∙◌, ◌∷◌, ◌≡◌, ◌≢◌, ap, arith, Bool, cond, drop, eq-eqb, false}
use Rattle.std.proofs.Common.{get_or, length, List, None, Option, option_and_then, option_map, refl, slice_get, Some}
use Rattle.std.proofs.Common.{suc, sym, take, true, ℕ}
use Rattle.std.proofs.lemmas.Bool.{eqb-true, ne_eqb}
use Rattle.std.proofs.lemmas.List.{drop_more, take-append-drop, take_more}
use Rattle.std.specs.List.{find}
use Rattle.rbc_spec.specs.Line.{Line, Train}
use Rattle.rbc_spec.specs.LineCentre.{LineState}
use Rattle.rbc_world.specs.declared.view.LineView.{LineView}
use Rattle.rbc_world.specs.declared.view.MissionView.{MissionView}
use Rattle.rbc_world.specs.declared.view.TrainView.{TrainView}
use Rattle.rbc_world.specs.View.{centre_in, mission_shown, seat_of, Shows, supervisor_shown}
use Rattle.text_script.specs.Print.Shown.{seat_at, seat_in}

-- a train that is not found in a front is sought after it
find_after : (p : TrainView → Bool) (xs ys : List TrainView) → find p xs ≡ None → find p (xs ++ ys) ≡ find p ys
find_after p [] ys none = refl
find_after p (x ∷ xs) ys none = by (find_after p xs ys) (p x) none
  where
    by : (find p xs ≡ None → find p (xs ++ ys) ≡ find p ys) → (b : Bool) → cond b (Some x) (find p xs) ≡ None
        → cond b (Some x) (find p (xs ++ ys)) ≡ find p ys
    by after true is = cc
    by after false is = after is

module _ (t : ℕ) (xs : List TrainView) (i : ℕ) (d : TrainView) (low : i < length xs)
    (none : find (λ x. x.nid_engine == t) (take i xs) ≡ None) where
  abbrev is_it : TrainView → Bool
  is_it x = x.nid_engine == t

  -- the train at the next place is another train, or is found
  none_more : (get_or xs i d).nid_engine ≢ t → find is_it (take (i + 1) xs) ≡ None
  none_more other =
      ap (find is_it) (take_more xs i d low) ∙ find_after is_it (take i xs) (get_or xs i d ∷ []) none
      ∙ ap (λ (b : Bool). cond b (Some (get_or xs i d)) None) (ne_eqb (get_or xs i d).nid_engine t other)

  some_here : (get_or xs i d).nid_engine ≡ t → find is_it xs ≡ Some (get_or xs i d)
  some_here same =
      ap (find is_it) (sym (take-append-drop i xs)) ∙ find_after is_it (take i xs) (drop i xs) none
      ∙ ap (find is_it) (drop_more xs i d low)
      ∙ ap (λ (b : Bool). cond b (Some (get_or xs i d)) (find is_it (drop (i + 1) xs)))
      (eq-eqb (get_or xs i d).nid_engine t same)

  -- the same for the train at that place
  pub none_next : d ≡ get_or xs i d → d.nid_engine ≢ t → find is_it (take (i + 1) xs) ≡ None
  none_next is other = none_more (λ same. other (ap (λ (x : TrainView). x.nid_engine) is ∙ same))

  pub some_next : d ≡ get_or xs i d → d.nid_engine ≡ t → find is_it xs ≡ Some d
  some_next is same =
      some_here (sym (ap (λ (x : TrainView). x.nid_engine) is) ∙ same) ∙ ap (λ (x : TrainView). Some x) (sym is)

-- the centre that supervises the train is the one of the train that is found
pub seat_here : (t : ℕ) (xs whole : List TrainView) (i : ℕ) (d : TrainView) (seat : Option ℕ) → xs ≡ whole
    → i < length xs →
    find (λ x. x.nid_engine == t) (take i xs) ≡ None → d ≡ get_or xs i d → d.nid_engine ≡ t → seat ≡ seat_of d →
    seat ≡ option_and_then seat_of (find (λ x. x.nid_engine == t) whole)
seat_here t xs whole i d seat all low none at same is =
    is
    ∙ sym
    (ap (option_and_then seat_of) (sym (ap (find (λ x. x.nid_engine == t)) all) ∙ some_next t xs i d low none at same))

module _ (v : LineState) (t : ℕ) where
  moved : (o : Option MissionView)
      → option_and_then (λ m. centre_in (supervisor_shown m.supervisor)) o
      ≡ option_and_then (λ m. centre_in m.supervisor) (option_map mission_shown o)
  moved None = refl
  moved (Some m) = refl

  one : (x : TrainView) → option_map mission_shown x.mission ≡ v.mission x.nid_engine → x.nid_engine ≡ t
      → seat_of x ≡ seat_in v t
  one x shown same = moved x.mission ∙ ap (option_and_then (λ m. centre_in m.supervisor)) (shown ∙ ap v.mission same)

  some_engine : (n m : ℕ) → ◌≡◌ {A = Option ℕ} (Some n) (Some m) → n ≡ m
  some_engine n m e = cc

  choose : (b c : Bool) (x : TrainView) (p : Train) (o : Option TrainView) (q : Option Train) → b ≡ c
      → (b ≡ true → seat_of x ≡ seat_in v t) →
      option_and_then seat_of o ≡ option_and_then (λ (r : Train). seat_in v t) q →
      option_and_then seat_of (cond b (Some x) o) ≡ option_and_then (λ (r : Train). seat_in v t) (cond c (Some p) q)
  choose true true x p o q e is others = is refl
  choose false false x p o q e is others = others
  choose true false x p o q e is others = cc
  choose false true x p o q e is others = cc

  pub found : (trains : List Train) (views : List TrainView) → length views ≡ length trains →
      ((i : ℕ) (x : TrainView) → slice_get views i ≡ Some x
      → option_map (λ p. p.nid_engine) (slice_get trains i) ≡ Some x.nid_engine) →
      ((i : ℕ) (x : TrainView) → slice_get views i ≡ Some x
      → option_map mission_shown x.mission ≡ v.mission x.nid_engine) →
      option_and_then seat_of (find (λ x. x.nid_engine == t) views)
      ≡ option_and_then (λ (r : Train). seat_in v t) (find (λ p. p.nid_engine == t) trains)
  found [] [] same engines missions = refl
  found [] (x ∷ views) same engines missions = absurd (let no : ⊥ = omega (arith, same) in no)
  found (p ∷ trains) [] same engines missions = absurd (let no : ⊥ = omega (arith, same) in no)
  found (p ∷ trains) (x ∷ views) same engines missions =
      let engine : p.nid_engine ≡ x.nid_engine = some_engine p.nid_engine x.nid_engine (engines 0 x refl) in
      choose (x.nid_engine == t) (p.nid_engine == t) x p _ _ (ap (λ (n : ℕ). n == t) (sym engine))
      (λ is. one x (missions 0 x refl) (eqb-true x.nid_engine t is))
      (found trains views (omega (arith, same)) (λ i y at. engines (suc i) y at) (λ i y at. missions (suc i) y at))

-- the train that is found
pub seat_found : (line : Line) (v : LineState) (view : LineView) (t : ℕ) → Shows line v view →
    option_and_then seat_of (find (λ x. x.nid_engine == t) view.trains.items) ≡ seat_at line v t
seat_found line v view t shows =
    found v t line.trains view.trains.items shows.trains.count (λ i x at. (shows.trains.each i x at).engine)
    (λ i x at. (shows.trains.each i x at).mission)
