-- Trains that messages name for the first time.
use Rattle.std.proofs.Common.{[], ◌++◌, ◌==◌, ◌||◌, ◌∙◌, ◌∷◌, ◌≡◌, ◌≢◌, ◌≤◌, ap, arith, Bool, false}
use Rattle.std.proofs.Common.{if◌then◌else◌, inl, inr, is_none, length, List, map, nat_eq, None, Option, refl}
use Rattle.std.proofs.Common.{Some, subst, sym, true, ℕ}
use Rattle.std.proofs.lemmas.Bool.Decides.{eqb_tells, nat_tests}
use Rattle.std.proofs.lemmas.Cmp.{nat_eq_equiv}
use Rattle.std.proofs.lemmas.List.{length-map}
use Rattle.std.proofs.lemmas.List.Folds.{list_any-append, list_any_at}
use Rattle.std.proofs.lemmas.List.Quantifiers.{position-Some}
use Rattle.std.proofs.lemmas.Map.Keys.{IsDistinct-cons}
use Rattle.std.proofs.lemmas.Map.Steps.{length-le_from_keys}
use Rattle.std.specs.List.{AllByRecursion, IsDistinct, list_any, position}
use Rattle.std.specs.Map.{lookup}
use Rattle.std.specs.Option.{IfSome, IsSome}
use Rattle.rbc_centre.specs.declared.event.Event.{Event}
use Rattle.rbc_centre.specs.declared.event.Event.TheVariants as code
use Rattle.rbc_spec.specs.Line.{Line, Train, train_number}
use Rattle.rbc_spec.specs.World.{mention}
use Rattle.rbc_world.specs.Named.{AreOfLine, mentioned, NamesFirst}

-- ## A mention and the list

pub first_names : (line : Line) (t i : ℕ) (trains : List ℕ) → train_number line t ≡ Some i
    → list_any (λ u. t == u) trains ≡ false → mention line t trains ≡ trains ++ t ∷ []
first_names line t i trains at new = rw (at, new) refl

kept_if : {T : Type 0} (foreign listed : Bool) (old new : T) → (foreign ≡ false → listed ≡ false → ⊥)
    → (if foreign then old else (if listed then old else new)) ≡ old
kept_if true listed old new never = refl
kept_if false true old new never = refl
kept_if false false old new never = absurd (never refl refl)

pub listed_mention : (line : Line) (t : ℕ) (trains : List ℕ) → list_any (λ u. t == u) trains ≡ true
    → mention line t trains ≡ trains
listed_mention line t trains listed =
    kept_if (is_none (train_number line t)) (list_any (λ u. t == u) trains) trains (trains ++ t ∷ [])
    (λ here new. let wrong : true ≡ false = sym listed ∙ new in cc)

-- the first mention that was looked for needs memory
pub named_if : (line : Line) (event : Event) (trains : List ℕ) (first : Option ℕ) → IsSome first
    → IfSome first (λ t. NamesFirst line event trains) → NamesFirst line event trains
named_if line event trains (Some t) some names = names
named_if line event trains None some names = cc

-- ## The trains of the line

or_false : (b : Bool) → (b || false) ≡ b
or_false true = refl
or_false false = refl

neither : (a b : Bool) → (a || b) ≡ false → (a ≡ false) × (b ≡ false)
neither true b h = cc
neither false b h = (refl, h)

-- no train that was named is of another line, after a mention too
listed_other : (u t : ℕ) (trains : List ℕ) → (u == t) ≡ false
    → list_any (λ v. u == v) (trains ++ t ∷ []) ≡ list_any (λ v. u == v) trains
listed_other u t trains apart =
    list_any-append (λ v. u == v) trains (t ∷ [])
    ∙ ap (λ x. list_any (λ v. u == v) trains || x) (ap (λ b. b || false) apart)
    ∙ or_false (list_any (λ v. u == v) trains)

more_of_line : (line : Line) (t : ℕ) (trains : List ℕ) → is_none (train_number line t) ≡ false → AreOfLine line trains
    → AreOfLine line (trains ++ t ∷ [])
more_of_line line t trains here are u listed = elim (eqb_tells u t) as (λ _. is_none (train_number line u) ≡ false) [
  | inl e ↦ ap (λ v. is_none (train_number line v)) (e.1) ∙ here
  | inr e ↦ are u (sym (listed_other u t trains (e.0)) ∙ listed)
]

by_mention : (line : Line) (t : ℕ) (trains : List ℕ) (foreign listed : Bool) → is_none (train_number line t) ≡ foreign
    → AreOfLine line trains
    → AreOfLine line (if foreign then trains else (if listed then trains else trains ++ t ∷ []))
by_mention line t trains true listed is are = are
by_mention line t trains false true is are = are
by_mention line t trains false false is are = more_of_line line t trains is are

still_of_line : (line : Line) (t : ℕ) (trains : List ℕ) → AreOfLine line trains
    → AreOfLine line (mention line t trains)
still_of_line line t trains are =
    by_mention line t trains (is_none (train_number line t)) (list_any (λ u. t == u) trains) refl are

pub still_mentioned : (line : Line) (event : Event) (trains : List ℕ) → AreOfLine line trains
    → AreOfLine line (mentioned line event trains)
still_mentioned line (code.Train m) trains are = still_of_line line m.nid_engine trains are
still_mentioned line (code.Set s) trains are = are
still_mentioned line (code.Unset s) trains are = are
still_mentioned line (code.Deliver from frame) trains are = are

-- no train was named
pub none_named : (line : Line) (trains : List ℕ) → trains ≡ [] → AreOfLine line trains
none_named line trains none = subst (AreOfLine line) (sym none) (λ t listed. cc)

-- ## All trains of the line were named

-- the trains of a line with their NID_ENGINEs as keys
abbrev paired : List Train → List (ℕ × ℕ)
paired ts = map (λ (p : Train). (p.nid_engine, p.registrar)) ts

abbrev IsPaired : ℕ → List Train → Type 0
IsPaired q ts = IsSome (lookup (λ u. q == u) (paired ts))

looked_up : (q : ℕ) (ts : List Train) → list_any (λ p. p.nid_engine == q) ts ≡ true → IsPaired q ts
looked_up q [] h = cc
looked_up q (p ∷ ts) h = elim (eqb_tells q p.nid_engine) as (λ _. IsPaired q (p ∷ ts)) [
  | inl e ↦ rw (e.0) refl
  | inr e ↦
      let differ : q ≢ p.nid_engine = e.1 in
      let apart : (p.nid_engine == q) ≡ false = grind (arith, nat_tests) in
      rw (e.0) (looked_up q ts (rw apart at h))
]

at_place : (q : ℕ) (ts : List Train) (o : Option ℕ) → position (λ p. p.nid_engine == q) ts ≡ o → is_none o ≡ false
    → list_any (λ p. p.nid_engine == q) ts ≡ true
at_place q ts None at some = cc
at_place q ts (Some i) at some =
    let none : Train = record { nid_engine = 0; registrar = 0 } in
    let found = position-Some (λ (p : Train). p.nid_engine == q) ts i none at in
    list_any_at (λ (p : Train). p.nid_engine == q) ts i none found.0 found.1

apart_from : (t : ℕ) (us : List ℕ) → list_any (λ u. t == u) us ≡ false → AllByRecursion (λ u. (t == u) ≡ false) us
apart_from t [] h = tt
apart_from t (u ∷ us) h = let both = neither (t == u) (list_any (λ v. t == v) us) h in (both.0, apart_from t us both.1)

module _ (line : Line) (t : ℕ) (trains : List ℕ) (here : is_none (train_number line t) ≡ false)
    (are : AreOfLine line trains) where
  of_line : (q : ℕ) → list_any (λ u. q == u) (t ∷ trains) ≡ true → IsPaired q line.trains
  of_line q listed = elim (eqb_tells q t) as (λ _. IsPaired q line.trains) [
    | inl e ↦
        looked_up q line.trains (at_place q line.trains (train_number line q) refl
        (ap (λ v. is_none (train_number line v)) (e.1) ∙ here))
    | inr e ↦ looked_up q line.trains (at_place q line.trains (train_number line q) refl (are q (rw (e.0) at listed)))
  ]

  -- a train that is not in the list is one more than the list has
  one_more : list_any (λ u. t == u) trains ≡ false → IsDistinct nat_eq trains
      → length (t ∷ trains) ≤ length (paired line.trains)
  one_more new distinct =
      length-le_from_keys nat_eq_equiv (t ∷ trains) (paired line.trains)
      (IsDistinct-cons nat_eq t trains (apart_from t trains new) distinct) of_line

-- if as many were named as the line has, no mention is a first one
pub all_named : (line : Line) (event : Event) (trains : List ℕ) → IsDistinct nat_eq trains → AreOfLine line trains
    → length line.trains ≤ length trains → trains ≡ mentioned line event trains
all_named line (code.Train m) trains distinct are all =
    let t = m.nid_engine in
    sym (kept_if (is_none (train_number line t)) (list_any (λ u. t == u) trains) trains (trains ++ t ∷ [])
    (λ here new.
    let more = one_more line t trains here are new distinct in
    let same = length-map {B = ℕ × ℕ} line.trains (λ (p : Train). (p.nid_engine, p.registrar)) in
    omega (arith, more, same, all)))
all_named line (code.Set s) trains distinct are all = refl
all_named line (code.Unset s) trains distinct are all = refl
all_named line (code.Deliver from frame) trains distinct are all = refl
