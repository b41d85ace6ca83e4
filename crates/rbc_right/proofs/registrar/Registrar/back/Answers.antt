use Rattle.std.proofs.Common.{◌<◌, ◌∙◌, ◌≡◌, ◌≤◌, ap, arith, le-ltb, length, lt-ltb, nat_lt, set, sym, true, ℕ}
use Rattle.rbc_right.proofs.registrar.Registrar.back.Goals as goal
use Rattle.rbc_right.proofs.Rights.{here-same, here-set, past_is_away}
use Rattle.rbc_right.specs.Rights.{is_here, number_of_right, Rights}
use Rattle.rbc_spec.specs.Maps.{put}

-- the right of a train of the line is given back
came : (rights : Rights) (i n : ℕ) → i ≡ n → i < length rights → (j : ℕ)
    → is_here (set rights i true) j ≡ put (is_here rights) n (nat_lt n (length rights)) j
came rights i n same within j =
    here-set rights i true within j
    ∙ ap (λ b. put (is_here rights) i b j) (sym (lt-ltb i (length rights) within))
    ∙ ap (λ m. put (is_here rights) m (nat_lt m (length rights)) j) same

-- a right of a train past the last makes no difference
strayed : (rights : Rights) (n : ℕ) → length rights ≤ n → (j : ℕ)
    → is_here rights j ≡ put (is_here rights) n (nat_lt n (length rights)) j
strayed rights n past =
    here-same rights n (nat_lt n (length rights)) (past_is_away rights n past ∙ sym (le-ltb n (length rights) past))

pub returns-then-train-len-clause-here : goal.returns-then-train-len-clause-here
returns-then-train-len-clause-here c =
    let within : c.send-train.result < length c.self.inside.rights.items =
    omega (arith, c.if-train-len.true, c.len.ensures, c.self.inside.rights.ok.0) in
    rw (← c.self.view_is)
    (came c.self.inside.rights.items c.send-train.result (number_of_right c.args.right) c.send-train.ensures within)

pub returns-else-train-len-clause-here : goal.returns-else-train-len-clause-here
returns-else-train-len-clause-here c =
    let past : length c.self.inside.rights.items ≤ number_of_right c.args.right =
    omega (arith, c.if-train-len.false, c.len.ensures, c.send-train.ensures, c.self.inside.rights.ok.0) in
    rw (← c.self.view_is) (strayed c.self.inside.rights.items (number_of_right c.args.right) past)
