use Rattle.std.proofs.Common.{ℕ, ◌+◌, ◌==◌, length, take, drop, sym, ap, ◌∙◌, arith, rules, take_all}
use Rattle.std.proofs.lemmas.List.Sums.{position_or_len_is}
use Rattle.std.proofs.lemmas.List.{take_rest, drop_all}
use Rattle.serve_page.proofs.request.path_and_query.Goals as goal

pub returns-in-Some : goal.returns-in-Some
returns-in-Some c =
    let address = c.args.address.now in
    let found =
    position_or_len_is (λ (b : ℕ). b == 63) address c.in-Some.end 0 (search rules) (search rules) (search rules) in
    record {
      path = ap (λ n. take n address) (sym found);
      query = take_rest address _ ∙ ap (λ n. drop (n + 1) address) (sym found);
    }

pub returns-in-None : goal.returns-in-None
returns-in-None c =
    let address = c.args.address.now in
    let none = position_or_len_is
    (λ (b : ℕ). b == 63) address (length address) 0 (omega arith) (search rules) (search rules) in
    record {
      path = sym (ap (λ n. take n address) none ∙ take_all (length address) address (omega arith));
      query = sym (ap (λ n. drop (n + 1) address) none ∙ drop_all (length address + 1) address (omega arith));
    }
