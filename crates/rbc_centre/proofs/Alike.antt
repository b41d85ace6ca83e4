-- Two outcomes that are the same.
use Rattle.std.proofs.Common.{[], ◌∷◌, ◌≡◌, ap, Bool, List, map, refl}
use Rattle.std.proofs.lemmas.Slice.Eq.{slice_eq-Decides}
use Rattle.std.specs.Bool.{Decides}
use Rattle.std.specs.Cmp.Lexicographic.{pointwise}
use Rattle.rbc_centre.specs.declared.outcome.Word.{Word}
use Rattle.rbc_centre.specs.declared.outcome.Word.TheVariants.{Asked, Done, NotHome, Told}
use Rattle.rbc_centre.specs.Views.{word_of}
use Rattle.rbc_train.specs.declared.saying.Saying.{Saying}
use Rattle.rbc_train.specs.Sayings.{saying_of}

map_apart : {A B : Type 0} (f : A → B) → ((a b : A) → f a ≡ f b → a ≡ b) → (xs ys : List A)
    → map f xs ≡ map f ys → xs ≡ ys
map_apart f apart [] [] e = refl
map_apart f apart [] (y ∷ ys) e = cc
map_apart f apart (x ∷ xs) [] e = cc
map_apart f apart (x ∷ xs) (y ∷ ys) e =
    let head : f x ≡ f y = cc in
    let tail : map f xs ≡ map f ys = cc in
    let first = apart x y head in
    let rest = map_apart f apart xs ys tail in cc

-- the elements' `==` decides whether they are one, and a view keeps them apart: then `==` of the lists decides whether
-- they look alike
pub alike : {A B : Type 0} (f : A → B) (E : A → A → Bool) → ((a b : A) → Decides (E a b) (a ≡ b))
    → ((a b : A) → f a ≡ f b → a ≡ b)
    → (xs ys : List A) (r : Bool) → r ≡ pointwise E xs ys → Decides r (map f xs ≡ map f ys)
alike f E decides apart xs ys r h =
    let d = slice_eq-Decides decides xs ys r h in (λ t. ap (map f) (d.0 t), λ e. d.1 (map_apart f apart xs ys e))

pub words_apart : (a b : Word) → word_of a ≡ word_of b → a ≡ b
words_apart (Done s) (Done t) e = cc
words_apart (Done s) (Asked t) e = cc
words_apart (Done s) (NotHome t) e = cc
words_apart (Done s) (Told t) e = cc
words_apart (Asked s) (Done t) e = cc
words_apart (Asked s) (Asked t) e = cc
words_apart (Asked s) (NotHome t) e = cc
words_apart (Asked s) (Told t) e = cc
words_apart (NotHome s) (Done t) e = cc
words_apart (NotHome s) (Asked t) e = cc
words_apart (NotHome s) (NotHome t) e = cc
words_apart (NotHome s) (Told t) e = cc
words_apart (Told s) (Done t) e = cc
words_apart (Told s) (Asked t) e = cc
words_apart (Told s) (NotHome t) e = cc
words_apart (Told s) (Told t) e = cc

pub sayings_apart : (a b : Saying) → saying_of a ≡ saying_of b → a ≡ b
sayings_apart a b e = λ i. record { nid_engine = (ap (λ s. s.nid_engine) e) i; message = (ap (λ s. s.message) e) i }
