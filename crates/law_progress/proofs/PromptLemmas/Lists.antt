-- Places in a queue of frames.
use Rattle.std.proofs.Common.{[], ◌++◌, ◌+◌, ◌<◌, ◌∙◌, ◌∷◌, ◌≡◌, ap, arith, Bool, drop, false, length, List, map, refl}
use Rattle.std.proofs.Common.{slice_get, Some, suc, true, zero, ℕ}
use Rattle.std.proofs.lemmas.Option.{same_Some}
use Rattle.std.specs.List.{count_by, flat_map, range_with_len}
use Rattle.law_base.proofs.CountingLemmas.Sums.{sum_some}
use Rattle.law_base.specs.Counting.Sums.{one_if, sum_below}
use Rattle.law_invariants.proofs.FlowLemmas.Lists.{count_added, count_more, flat_sum}
use Rattle.rbc_spec.specs.Frame.{Frame}

pub some_left : (xs : List Frame) (i : ℕ) → i < length xs → (f : Frame) × (drop i xs ≡ f ∷ drop (suc i) xs)
some_left [] i small = absurd (omega (arith, small))
some_left (x ∷ xs) zero small = (x, refl)
some_left (x ∷ xs) (suc i) small = some_left xs i (omega (arith, small))

pub got_small : (xs : List Frame) (i : ℕ) (f : Frame) → slice_get xs i ≡ Some f → i < length xs
got_small [] i f is = cc
got_small (x ∷ xs) zero f is = omega arith
got_small (x ∷ xs) (suc i) f is = omega (arith, got_small xs i f is)

pub get_drop : (n : ℕ) (xs : List Frame) (i : ℕ) → slice_get (drop n xs) i ≡ slice_get xs (n + i)
get_drop zero xs i = let here : i ≡ 0 + i = omega arith in ap (slice_get xs) here
get_drop (suc n) [] i = refl
get_drop (suc n) (x ∷ xs) i = let there : suc (n + i) ≡ suc n + i = omega arith in
    get_drop n xs i ∙ ap (slice_get (x ∷ xs)) there

pub got_body : (fs : List Frame) (i : ℕ) (f : Frame) → slice_get fs i ≡ Some f
    → slice_get (map (λ (g : Frame). g.body) fs) i ≡ Some f.body
got_body [] i f is = cc
got_body (g ∷ fs) zero f is = ap (λ (h : Frame). Some h.body) (same_Some g f is)
got_body (g ∷ fs) (suc i) f is = got_body fs i f is

pub got_last : (xs : List Frame) (f : Frame) → slice_get (xs ++ f ∷ []) (length xs) ≡ Some f
got_last [] f = refl
got_last (x ∷ xs) f = got_last xs f

-- a frame of the list that passes the test
pub record Passes (test : Frame → Bool) (fs : List Frame) : Type 0 where
  pub i : ℕ
  pub frame : Frame
  pub got : slice_get fs i ≡ Some frame
  pub passes : test frame ≡ true

pub some_passes : (test : Frame → Bool) (fs : List Frame) → 0 < count_by test fs → Passes test fs
some_passes test [] some = absurd (omega (arith, some))
some_passes test (f ∷ fs) some = by_test (λ more. some_passes test fs more) (test f) refl
  where
    by_test : (0 < count_by test fs → Passes test fs) → (b : Bool) → test f ≡ b → Passes test (f ∷ fs)
    by_test later true is = record { i = 0; frame = f; got = refl; passes = is }
    by_test later false is = let it = later (omega (arith, some, count_more test f fs, ap one_if is)) in
        record { i = suc it.i; frame = it.frame; got = it.got; passes = it.passes }

-- a frame of one of n lists
pub some_list : (test : Frame → Bool) (lists : ℕ → List Frame) (n : ℕ)
    → 0 < count_by test (flat_map lists (range_with_len 0 n)) → (b : ℕ) × (b < n) × Passes test (lists b)
some_list test lists n some = let sums : count_by test (flat_map lists (range_with_len 0 n))
    ≡ sum_below n (λ i. count_by test (lists i)) = flat_sum (count_by test) (count_added test) lists n in
    let it = sum_some n (λ i. count_by test (lists i)) (omega (arith, some, sums)) in
    (it.0, it.1, some_passes test (lists it.0) it.2)
