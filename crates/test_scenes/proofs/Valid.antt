-- A property of the result of a computation, if there is a result; and the conclusions from tests.
use Rattle.std.proofs.Common.{◌≡◌, Bool, false, if◌then◌else◌, None, Option, refl, Some, sym, true}
use Rattle.std.proofs.lemmas.Bool.{not-true}
use Rattle.std.specs.Bool.{MatchBool}
use Rattle.std.specs.Option.{option_map_or}
use Rattle.test_scenes.specs.Turns.{allowed, is_same}

-- P holds for the value, if there is one
abbrev pub Valid : {X : Type 0} → (X → Type 0) → Option X → Type 0
Valid P None = Unit {0}
Valid P (Some x) = P x

pub valid_allowed : {X : Type 0} (P : X → Type 0) (is_allowed : Bool) (x : X) → (is_allowed ≡ true → P x)
    → Valid P (allowed is_allowed x)
valid_allowed P true x so = so refl
valid_allowed P false x so = tt

-- P holds for the result of f, if there is a value
pub valid_some : {X Y : Type 0} (P : Y → Type 0) (f : X → Option Y) (o : Option X)
    → ((x : X) → o ≡ Some x → Valid P (f x)) → Valid P (option_map_or f o None)
valid_some P f None so = tt
valid_some P f (Some x) so = so x refl

-- the same, if Q holds for the value
pub valid_then : {X Y : Type 0} (Q : X → Type 0) (P : Y → Type 0) (f : X → Option Y) (o : Option X)
    → Valid Q o → ((x : X) → Q x → Valid P (f x)) → Valid P (option_map_or f o None)
valid_then Q P f None is so = tt
valid_then Q P f (Some x) is so = so x is

pub valid_map : {X : Type 0} (P Q : X → Type 0) (o : Option X) → Valid P o → ((x : X) → P x → Q x) → Valid Q o
valid_map P Q None is so = tt
valid_map P Q (Some x) is so = so x is

pub valid_when : {X : Type 0} (P : X → Type 0) (b : Bool) (x : Option X) → (b ≡ true → Valid P x)
    → Valid P (if b then x else None)
valid_when P true x so = so refl
valid_when P false x so = tt

-- the property holds in both branches of a test
pub valid_if : {X : Type 0} (P Q R : X → Type 0) (b : Bool) (x y : Option X)
    → Valid (λ r. P r × R r) x → Valid (λ r. Q r × R r) y
    → Valid (λ r. MatchBool b (P r) (Q r) × R r) (if b then x else y)
valid_if P Q R true x y one two = one
valid_if P Q R false x y one two = two

-- ## Tests

pub same : (a b : Bool) → is_same a b ≡ true → a ≡ b
same true b so = sym so
same false b so = sym (not-true b so)
