-- The homes of sections, and one section more.
use denote.Ref.{Bor}
use Rattle.std.specs.HashSet.{contains_by}
use Rattle.std.specs.List.{last_or, list_any}
use Rattle.std.proofs.Common.{[], ◌++◌, ◌∙◌, ◌∷◌, ◌≡◌, ◌||◌, ap, Bool, bytes_eq, cond, false, is_some, List, None}
use Rattle.std.proofs.Common.{Option, option_map, refl, Some, sym, true, ℕ}
use Rattle.std.proofs.lemmas.Bool.{true≢false}
use Rattle.std.proofs.lemmas.List.Folds.{list_any-append}
use Rattle.std.proofs.lemmas.Slice.Eq.{bytes_eq-Decides}
use Rattle.cli_commands.specs.declared.inspecting.homes.Homes.{Homes}
use Rattle.cli_commands.specs.Inspecting.Homes.{IsAfter}

last_added : {A : Type 0} (o : Option A) (xs : List A) (x : A) → last_or o (xs ++ (x ∷ [])) ≡ Some x
last_added o [] x = refl
last_added o (y ∷ ys) x = last_added (Some y) ys x

abbrev value_or : {A : Type 0} → A → Option A → A
value_or other None = other
value_or other (Some it) = it

or_twice : (a b : Bool) → (a || (a || b)) ≡ (a || b)
or_twice true b = refl
or_twice false b = refl

or_within : (a b c : Bool) → (a || c) ≡ c → (a || (b || c)) ≡ (b || c)
or_within true true c is = refl
or_within true false c is = is
or_within false b c is = refl

or_after : (a b : Bool) → (b || a) ≡ a → (a || (b || false)) ≡ a
or_after true b is = refl
or_after false true is = is
or_after false false is = refl

-- the last of some is one of them
any_of_last : {A : Type 0} (test : A → Bool) (first : A) (more : List A) (x : A)
    → last_or (Some first) more ≡ Some x → (test x || list_any test (first ∷ more)) ≡ list_any test (first ∷ more)
any_of_last test first [] x is =
    ap (λ y. test y || (test first || false)) (sym (ap (value_or first) is)) ∙ or_twice (test first) false
any_of_last test first (next ∷ more) x is = or_within (test x) (test first) _ (any_of_last test next more x is)

any_of_last_of : {A : Type 0} (test : A → Bool) (xs : List A) (x : A)
    → last_or None xs ≡ Some x → (list_any test xs || (test x || false)) ≡ list_any test xs
any_of_last_of test [] x is = absurd (true≢false (sym (ap is_some is)))
any_of_last_of test (first ∷ more) x is =
    or_after (list_any test (first ∷ more)) (test x) (any_of_last test first more x is)

-- a section of the home of the section before it
pub added_again : (homes : List (List ℕ)) (value : Homes) (home : List ℕ) → IsAfter homes value
    → option_map (λ h. h.now) value.last ≡ Some home → IsAfter (homes ++ (home ∷ [])) value
added_again homes value home are same = record {
  last = same ∙ sym (last_added None homes home);
  begun = λ q.
      are.begun q ∙ sym (any_of_last_of (bytes_eq q) homes home (sym are.last ∙ same))
      ∙ sym (list_any-append (bytes_eq q) homes (home ∷ []));
}

same_bool : (a b : Bool) → (a ≡ true → b ≡ true) → (b ≡ true → a ≡ true) → a ≡ b
same_bool true b to from = sym (to refl)
same_bool false true to from = from refl
same_bool false false to from = refl

eq_sym : (a b : List ℕ) → bytes_eq a b ≡ bytes_eq b a
eq_sym a b =
    same_bool _ _ (λ is. (bytes_eq-Decides b a).1 (sym ((bytes_eq-Decides a b).0 is)))
    (λ is. (bytes_eq-Decides a b).1 (sym ((bytes_eq-Decides b a).0 is)))

or_swap : (a b : Bool) → cond a true b ≡ (b || (a || false))
or_swap true true = refl
or_swap true false = refl
or_swap false true = refl
or_swap false false = refl

-- a section of another home than that of the section before it
pub added_new : (homes : List (List ℕ)) (old new : Homes) (home : Bor (List ℕ)) → IsAfter homes old
    → new.last ≡ Some home
    → ((q : Bor (List ℕ)) → contains_by (λ h. bytes_eq q.now h.now) new.begun
    ≡ cond (bytes_eq home.now q.now) true (contains_by (λ h. bytes_eq q.now h.now) old.begun))
    → IsAfter (homes ++ (home.now ∷ [])) new
added_new homes old new home are last begun = record {
  last = ap (option_map (λ h. h.now)) last ∙ sym (last_added None homes home.now);
  begun = λ q.
      begun (record { ref_ptr = home.ref_ptr; now = q })
      ∙ ap (λ b. cond (bytes_eq home.now q) true b) (are.begun q)
      ∙ or_swap (bytes_eq home.now q) (list_any (bytes_eq q) homes)
      ∙ ap (λ b. list_any (bytes_eq q) homes || (b || false)) (eq_sym home.now q)
      ∙ sym (list_any-append (bytes_eq q) homes (home.now ∷ []));
}
