-- Lists over the first numbers, and over the elements that pass a test.
use Rattle.std.proofs.Common.{[], ◌++◌, ◌+◌, ◌<◌, ◌∙◌, ◌∷◌, ◌≡◌}
use Rattle.std.proofs.Common.{ap, append-nil, append_assoc, arith, Bool, cond, false, get_or}
use Rattle.std.proofs.Common.{length, List, map, refl, suc, sym, take, true, zero, ℕ}
use Rattle.std.proofs.lemmas.List.{flat_map_more, map-append, take_more}
use Rattle.std.proofs.lemmas.List.Concat.{flat_map-append}
use Rattle.std.proofs.lemmas.List.Elements.{filter_more}
use Rattle.std.proofs.lemmas.List.FromFn.{map-range_with_len_more}
use Rattle.std.specs.List.{filter, flat_map, range_with_len}

range_more : (a n j : ℕ) → a + n ≡ j → range_with_len a (n + 1) ≡ range_with_len a n ++ j ∷ []
range_more a zero j is_next = ap (λ (m : ℕ). m ∷ []) (let e : a ≡ j = omega arith in e)
range_more a (suc n) j is_next =
    let e : suc n + 1 ≡ suc (n + 1) = omega arith in
    let next : a + 1 + n ≡ j = omega arith in
    ap (range_with_len a) e ∙ ap (λ (xs : List ℕ). a ∷ xs) (range_more (a + 1) n j next)

-- a list with one element more at its end, seen by g
pub map_last :
    {X Y : Type 0} (g : X → Y) (xs ys : List X) (x : X) (front : List Y) (y : Y)
    → ys ≡ xs ++ x ∷ [] → g x ≡ y → map g xs ≡ front → map g ys ≡ front ++ y ∷ []
map_last {X} {Y} g xs ys x front y put is so_far =
    ap (map g) put ∙ map-append g xs (x ∷ []) ∙ ap (λ (zs : List Y). zs ++ g x ∷ []) so_far
    ∙ ap (λ (z : Y). front ++ z ∷ []) is

-- the next number, after the first n
pub map_next :
    {X Y : Type 0} (g : X → Y) (f : ℕ → Y) (n : ℕ) (xs ys : List X) (x : X)
    → ys ≡ xs ++ x ∷ [] → g x ≡ f n → map g xs ≡ map f (range_with_len 0 n)
    → map g ys ≡ map f (range_with_len 0 (n + 1))
map_next g f n xs ys x put is so_far =
    let here : 0 + n ≡ n = omega arith in
    map_last g xs ys x (map f (range_with_len 0 n)) (f n) put is so_far ∙ sym (map-range_with_len_more f 0 n n here)

-- the list of the next number, after those of the first n
pub flat_next :
    {Y : Type 0} (f : ℕ → List Y) (n : ℕ) (xs next ys : List Y)
    → ys ≡ xs ++ next → next ≡ f n → xs ≡ flat_map f (range_with_len 0 n) → ys ≡ flat_map f (range_with_len 0 (n + 1))
flat_next {Y} f n xs next ys put is so_far =
    let here : 0 + n ≡ n = omega arith in
    put ∙ ap (λ (zs : List Y). xs ++ zs) is ∙ ap (λ (zs : List Y). zs ++ f n) so_far
    ∙ sym
    (ap (flat_map f) (range_more 0 n n here) ∙ flat_map-append f (range_with_len 0 n) (n ∷ [])
    ∙ ap (λ (zs : List Y). flat_map f (range_with_len 0 n) ++ zs) (append-nil (f n)))

-- the list of the next number, after a first part and those of the first n
pub flat_after :
    {Y : Type 0} (f : ℕ → List Y) (n : ℕ) (first xs next ys : List Y)
    → ys ≡ xs ++ next → next ≡ f n → xs ≡ first ++ flat_map f (range_with_len 0 n)
    → ys ≡ first ++ flat_map f (range_with_len 0 (n + 1))
flat_after {Y} f n first xs next ys put is so_far =
    put ∙ ap (λ (zs : List Y). zs ++ next) so_far
    ∙ append_assoc first (flat_map f (range_with_len 0 n)) next
    ∙ ap (λ (zs : List Y). first ++ zs) (flat_next f n (flat_map f (range_with_len 0 n)) next _ refl is refl)

-- the list of the next element, after a first part and those of the first i
pub flat_item :
    {X Y : Type 0} (f : X → List Y) (items : List X) (i : ℕ) (x : X) (first xs ys : List Y)
    → i < length items → x ≡ get_or items i x → ys ≡ xs ++ f x → xs ≡ first ++ flat_map f (take i items)
    → ys ≡ first ++ flat_map f (take (i + 1) items)
flat_item {X} {Y} f items i x first xs ys low is put so_far =
    let front : take (i + 1) items ≡ take i items ++ x ∷ [] =
    take_more items i x low ∙ ap (λ (y : X). take i items ++ y ∷ []) (sym is)
    in
    put ∙ ap (λ (zs : List Y). zs ++ f x) so_far ∙ flat_map_more f first (take i items) x
    ∙ ap (λ (zs : List X). first ++ flat_map f zs) (sym front)

-- the next element passes the test, and is put after those of the first i that pass it
pub filter_put :
    {X Y : Type 0} (g : Y → X) (p : X → Bool) (xs : List X) (i : ℕ) (x : X) (ys zs : List Y) (y : Y)
    → i < length xs → x ≡ get_or xs i x → p x ≡ true → zs ≡ ys ++ y ∷ [] → g y ≡ x
    → map g ys ≡ filter p (take i xs) → map g zs ≡ filter p (take (i + 1) xs)
filter_put {X} g p xs i x ys zs y low is passes put same so_far =
    map_last g ys zs y (filter p (take i xs)) x put same so_far
    ∙ sym
    (filter_more p xs i x low
    ∙ ap (λ (z : X). filter p (take i xs) ++ cond (p z) (z ∷ []) []) (sym is)
    ∙ ap (λ (b : Bool). filter p (take i xs) ++ cond b (x ∷ []) []) passes)

-- the next element does not pass the test
pub filter_skip :
    {X Y : Type 0} (g : Y → X) (p : X → Bool) (xs : List X) (i : ℕ) (x : X) (ys : List Y)
    → i < length xs → x ≡ get_or xs i x → p x ≡ false
    → map g ys ≡ filter p (take i xs) → map g ys ≡ filter p (take (i + 1) xs)
filter_skip {X} g p xs i x ys low is fails so_far =
    so_far
    ∙ sym
    (filter_more p xs i x low
    ∙ ap (λ (z : X). filter p (take i xs) ++ cond (p z) (z ∷ []) []) (sym is)
    ∙ ap (λ (b : Bool). filter p (take i xs) ++ cond b (x ∷ []) []) fails
    ∙ append-nil (filter p (take i xs)))
