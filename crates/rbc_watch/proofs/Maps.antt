-- Maps in memory as functions of numbers.
use Rattle.std.proofs.Common.{⊎_elim, ◌&&◌, ◌==◌, ◌∙◌, ◌≡◌, ap, Bool, cond, eq-eqb, false, if◌then◌else◌}
use Rattle.std.proofs.Common.{Option, option_map, refl, subst, sym, true, ℕ}
use Rattle.std.proofs.lemmas.Bool.{cases_eq, cond-false, cond-true, ne_eqb}
use Rattle.indexmap.specs.IndexMap as map
use Rattle.indexmap.specs.IndexMap.{IndexMap}
use Rattle.rbc_spec.specs.Maps.{put, put_pair}
use Rattle.rbc_watch.specs.Seen.{pair_eq}

flip : (a b : ℕ) → (a == b) ≡ (b == a)
flip a b = ⊎_elim
    (λ (e : a ≡ b). eq-eqb a b e ∙ sym (eq-eqb b a (sym e)))
    (λ (ne : a ≡ b → ⊥). ne_eqb a b ne ∙ sym (ne_eqb b a (λ e. ne (sym e))))
    (cases_eq a b)

mapped_cond : {X Y : Type 0} (f : X → Y) (b : Bool) (w r : Option X)
    → option_map f (cond b w r) ≡ (if b then option_map f w else option_map f r)
mapped_cond f true w r = refl
mapped_cond f false w r = refl

-- the change at a pair of numbers
at_same : {Y : Type 0} (t c d : ℕ) (start : ℕ → ℕ → Y) (w : Y)
    → (if (t == t) && (c == d) then w else start t d) ≡ put_pair start t c w t d
at_same {Y = Y} t c d start w =
    ap (λ (b : Bool). if b && (c == d) then w else start t d) (eq-eqb t t refl)
    ∙ ap (λ (b : Bool). if b then w else start t d) (flip c d)
    ∙ ap (λ (f : ℕ → Y). f d) (sym (cond-true (t == t) (put (start t) c w) (start t) (eq-eqb t t refl)))

pair_cond : {Y : Type 0} (t c u d : ℕ) (start : ℕ → ℕ → Y) (w : Y)
    → (if (t == u) && (c == d) then w else start u d) ≡ put_pair start t c w u d
pair_cond {Y = Y} t c u d start w = ⊎_elim
    (λ (same : t ≡ u).
    subst (λ (v : ℕ). (if (t == v) && (c == d) then w else start v d) ≡ put_pair start t c w v d) same
    (at_same t c d start w))
    (λ (other : t ≡ u → ⊥).
    ap (λ (b : Bool). if b && (c == d) then w else start u d) (ne_eqb t u other)
    ∙ ap (λ (f : ℕ → Y). f d)
    (sym (cond-false (u == t) (put (start t) c w) (start u) (ne_eqb u t (λ e. other (sym e))))))
    (cases_eq t u)

-- a map of pairs after one is set or removed
pub mapped_put_pair : {X Y S : Type 0} (f : X → Y) (m n : IndexMap (ℕ × ℕ) X S) (t c : ℕ) (w : Option X)
    → map.Updates pair_eq m n (t, c) w
    → (λ u d. option_map f (map.get pair_eq n (u, d)))
    ≡ put_pair (λ u d. option_map f (map.get pair_eq m (u, d))) t c (option_map f w)
mapped_put_pair f m n t c w h = λ i u d. at u d i
  where
    at : (u d : ℕ) → option_map f (map.get pair_eq n (u, d))
        ≡ put_pair (λ v e. option_map f (map.get pair_eq m (v, e))) t c (option_map f w) u d
    at u d =
        ap (option_map f) (h.0 (u, d)) ∙ mapped_cond f ((t == u) && (c == d)) w (map.get pair_eq m (u, d))
        ∙ pair_cond t c u d (λ v e. option_map f (map.get pair_eq m (v, e))) (option_map f w)

-- a value that is there already
put_same : {X : Type 0} (f : ℕ → X) (t : ℕ) (x : X) → f t ≡ x → (u : ℕ) → f u ≡ put f t x u
put_same f t x there u = ⊎_elim
    (λ (same : u ≡ t). ap f same ∙ there ∙ sym (cond-true (u == t) x (f u) (eq-eqb u t same)))
    (λ (other : u ≡ t → ⊥). sym (cond-false (u == t) x (f u) (ne_eqb u t other)))
    (cases_eq u t)

pub put_there : {X : Type 0} (f : ℕ → X) (t : ℕ) (x : X) → f t ≡ x → f ≡ put f t x
put_there f t x there = λ i u. put_same f t x there u i
