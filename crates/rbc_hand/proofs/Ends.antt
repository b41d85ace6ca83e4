-- Sections that are cut off a hand, and sections that are added to it.
use Rattle.std.proofs.Common.{[], ◌++◌, ◌+◌, ◌-◌, ◌∙◌, ◌∷◌, ◌≡◌, ap, arith, IfSome, length, length-append, List, map}
use Rattle.std.proofs.Common.{MatchOption, None, Option, option_map, option_to_list, refl, slice_get, Some, subst, suc}
use Rattle.std.proofs.Common.{sym, zero, ℕ}
use Rattle.std.proofs.lemmas.List.{append-nil, length-map, map-append}
use Rattle.std.specs.List.{AllByRecursion}
use Rattle.rbc_hand.specs.declared.token.Token.{Token}
use Rattle.rbc_hand.specs.declared.token.Token.TheVariants as code
use Rattle.rbc_hand.specs.Hands.{back, Follow, Holding, holding, IsAllOwn, IsHand}
use Rattle.rbc_hand.specs.Tokens.{Held, held_of, Own, section_of, token_of}
use Rattle.rbc_spec.specs.SectionRuns.{next_after}

-- a token is given by its section and its holding
token_of_parts : (token : Token) → token_of (section_of token) (held_of token) ≡ token
token_of_parts (code.Own c) = refl
token_of_parts (code.Name lent) = refl

-- ## Lists

slice_get-last : {X : Type 0} (xs : List X) (x : X) → slice_get (xs ++ x ∷ []) (length xs) ≡ Some x
slice_get-last [] x = refl
slice_get-last (y ∷ ys) x = slice_get-last ys x

each-at : {X : Type 0} (P : X → Type 0) (xs : List X) (k : ℕ) → AllByRecursion P xs → IfSome (slice_get xs k) P
each-at P [] k h = tt
each-at P (x ∷ xs) zero h = h.0
each-at P (x ∷ xs) (suc k) h = each-at P xs k h.1

-- ## Consecutive sections

follow-front : (first : ℕ) (xs ys : List Token) → Follow first (xs ++ ys) → Follow first xs
follow-front first [] ys h = tt
follow-front first (x ∷ xs) ys h = (h.0, follow-front (first + 1) xs ys h.1)

follow-last : (first : ℕ) (xs : List Token) (x : Token) → Follow first (xs ++ x ∷ []) → section_of x ≡ first + length xs
follow-last first [] x h = omega (arith, h.0)
follow-last first (y ∷ ys) x h = let rest = follow-last (first + 1) ys x h.1 in omega (arith, rest)

pub follow-push : (first : ℕ) (xs : List Token) (x : Token) → Follow first xs → section_of x ≡ first + length xs
    → Follow first (xs ++ x ∷ [])
follow-push first [] x h at = (omega (arith, at), tt)
follow-push first (y ∷ ys) x h at = (h.0, follow-push (first + 1) ys x h.1 (omega (arith, at)))

-- ## The last section is cut off

-- the hand after its last section was cut off, and the token
pub record CutsBack (first : ℕ) (old new : List Token) (room : ℕ) (r : Option Token) : Type 0 where
  pub hand : IsHand first new room
  pub token : r ≡ back (holding first old)

cut_some : (first : ℕ) (new : List Token) (room : ℕ) (x : Token) → IsHand first (new ++ x ∷ []) room
    → CutsBack first (new ++ x ∷ []) new room (Some x)
cut_some first new room x is =
    let long : length (new ++ x ∷ []) ≡ length new + 1 = length-append new (x ∷ []) in
    record {
      hand = record {
        sections = follow-front first new (x ∷ []) is.sections;
        count = omega (arith, long, is.count);
        room = is.room;
        next_after = omega (arith, long, is.next_after);
      };
      token = sym (at_last (map held_of (new ++ x ∷ [])) (map-append held_of new (x ∷ [])));
    }
  where
    at_last : (holds : List Held) → holds ≡ map held_of new ++ held_of x ∷ []
        → option_map (token_of (first + (length holds - 1))) (slice_get holds (length holds - 1)) ≡ Some x
    at_last holds split =
        let count : length holds - 1 ≡ length new =
        let all : length (map held_of new ++ held_of x ∷ []) ≡ length (map held_of new) + 1 =
        length-append (map held_of new) (held_of x ∷ []) in
        let held : length (map held_of new) ≡ length new = length-map new held_of in
        let same : length holds ≡ length (map held_of new ++ held_of x ∷ []) = ap length split in
        omega (arith, all, held, same) in
        let found : slice_get holds (length holds - 1) ≡ Some (held_of x) =
        ap (slice_get holds) (count ∙ sym (length-map new held_of))
        ∙ ap (λ hs. slice_get hs (length (map held_of new))) split ∙ slice_get-last (map held_of new) (held_of x) in
        ap (option_map (token_of (first + (length holds - 1)))) found
        ∙ ap (λ n. Some (token_of (first + n) (held_of x))) count
        ∙ ap (λ s. Some (token_of s (held_of x))) (sym (follow-last first new x is.sections))
        ∙ ap (λ y. Some y) (token_of_parts x)

pub cuts_back : (first : ℕ) (old new : List Token) (room : ℕ) (r : Option Token) (len left : ℕ)
    → old ≡ new ++ option_to_list r → IsHand first old room → len ≡ length old
    → MatchOption r ((len ≡ 0) × (left ≡ 0)) (λ _. left + 1 ≡ len) → CutsBack first old new room r
cuts_back first old new room (Some x) len left split is long some =
    subst (λ xs. CutsBack first xs new room (Some x)) (sym split)
    (cut_some first new room x (subst (λ xs. IsHand first xs room) split is))
cuts_back first old new room None len left split is long none =
    let same : old ≡ new = split ∙ append-nil new in
    record {
      hand = subst (λ xs. IsHand first xs room) same is;
      token = no_back old (sym long ∙ none.0);
    }
  where
    no_back : (xs : List Token) → length xs ≡ 0 → None ≡ back (holding first xs)
    no_back [] h = refl
    no_back (x ∷ xs) h = absurd (let no : ⊥ = omega (arith, h) in no)

-- in a hand of only own sections the last one is own, and so are those before it
pub back_own : (h : Holding) (t : ℕ) (r : Option Token) → r ≡ back h → IsAllOwn t h
    → IfSome r (λ token. token ≡ token_of (h.first + (length h.holds - 1)) (Own t))
back_own h t r is all = subst (λ o. IfSome o (λ token. token ≡ token_of (h.first + (length h.holds - 1)) (Own t)))
    (sym is) (by (slice_get h.holds (length h.holds - 1)) (each-at _ h.holds (length h.holds - 1) all))
  where
    by : (o : Option Held) → IfSome o (λ held. held ≡ Own t)
        → IfSome (option_map (token_of (h.first + (length h.holds - 1))) o)
        (λ token. token ≡ token_of (h.first + (length h.holds - 1)) (Own t))
    by None _ = tt
    by (Some held) e = ap (token_of (h.first + (length h.holds - 1))) e

pub front_own : (t first : ℕ) (xs ys : List Token) → IsAllOwn t (holding first (xs ++ ys))
    → IsAllOwn t (holding first xs)
front_own t first [] ys all = tt
front_own t first (x ∷ xs) ys all = (all.0, front_own t first xs ys all.1)
