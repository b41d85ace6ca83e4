use Rattle.std.proofs.Common.{◌≡◌, ◌≤◌, arith, Bool, cond, false, length, ltb-false, nat_lt, None}
use Rattle.std.proofs.Common.{not, refl, Some, true, ℕ}
use Rattle.std.proofs.lemmas.List.Sums.{prefix_len-le-length}
use Rattle.std.specs.List.{position_or_len}
use Rattle.serve_line.proofs.clients.rows.end_of_row.Goals as goal
use Rattle.serve_line.specs.Rows.{is_feed}

found_at : (b : Bool) (n p : ℕ) → Some p ≡ cond b (Some n) None → p ≡ n
found_at true n p found = cc
found_at false n p found = absurd (cc)

none_at : (b : Bool) (n len : ℕ) → nat_lt n len ≡ b → None ≡ cond b (Some n) None → n ≤ len → len ≡ n
none_at true n len less none within = absurd (cc)
none_at false n len less none within = let more : len ≤ n = ltb-false n len less in omega arith

pub returns-in-Some-clause-place : goal.returns-in-Some-clause-place
returns-in-Some-clause-place c =
    let bytes = c.args.bytes.now in
    found_at (nat_lt (position_or_len is_feed bytes) (length bytes)) (position_or_len is_feed bytes) c.in-Some.place
    c.in-Some.ensures.place

pub returns-in-None-clause-place : goal.returns-in-None-clause-place
returns-in-None-clause-place c =
    let bytes = c.args.bytes.now in
    none_at (nat_lt (position_or_len is_feed bytes) (length bytes)) (position_or_len is_feed bytes) (length bytes) refl
    c.in-None.ensures.place (prefix_len-le-length (λ (x : ℕ). not (is_feed x)) bytes)
