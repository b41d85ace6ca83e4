-- Bytes that are read into the first part of a buffer, and then into the part after it.
use Rattle.std.proofs.Common.{◌+◌, ◌++◌, ◌-◌, ◌∙◌, ◌≡◌, ap, append_assoc, arith, drop, length, length-append, List}
use Rattle.std.proofs.Common.{sym, take, ℕ}
use Rattle.std.proofs.lemmas.List.{take_at}
use borrow.Rule.Slice.PartMut.{post_of, put_mid}

pub two_parts : (n : ℕ) (old head rest : List ℕ) → length head ≡ 3 → length rest + 3 ≡ n
    → take n (put_mid 3 (n - 3) (head ++ drop 3 old) rest) ≡ head ++ rest
two_parts n old head rest h r =
    let after = post_of 3 (n - 3) (head ++ drop 3 old) in
    let all : length (head ++ rest) ≡ n = omega (arith, length-append head rest) in
    ap (λ (zs : List ℕ). take n (zs ++ (rest ++ after))) (take_at head (drop 3 old) 3 h)
    ∙ ap (take n) (sym (append_assoc head rest after)) ∙ take_at (head ++ rest) after n all
