-- A reply that was submitted and had room waits until its turn is over.
use Rattle.std.proofs.Common.{[], ◌++◌, ◌+◌, ◌<◌, ◌∙◌, ◌∷◌, ◌≡◌, ◌≢◌, ◌≤◌, ◌⊎◌, All, ap, arith, Bool, Contains, false}
use Rattle.std.proofs.Common.{inl, inr, List, nat_le, nat_lt, None, Option, refl, Some, subst, sym, true, zero, ℕ}
use Rattle.std.proofs.Common.{⊎_elim}
use Rattle.std.proofs.lemmas.Bool.{cond_both, ltb-false}
use Rattle.std.proofs.lemmas.Bool.Decides.{nat_tests}
use Rattle.std.proofs.lemmas.List.Elements.{All-contains, Contains-append_cases, Contains-append_left}
use Rattle.std.proofs.lemmas.List.Elements.{Contains-append_right, Contains-push}
use Rattle.std.specs.List.{filter}
use Rattle.serve_workers.proofs.WritingLemmas.Lane.{member, not_back}
use Rattle.serve_workers.specs.declared.writing.reply.Reply.{Reply}
use Rattle.serve_workers.specs.Writing.Lane.{Call, early_after, Goes, handed, is_due, is_served_by, IsTurn, kept}
use Rattle.serve_workers.specs.Writing.Lane.{Leaves, LetsOut, Says, serving_after, taken, turn_after, without}

-- the turn of a reply is over, or it is one of these
abbrev pub OverOrIn : ℕ → List Reply → Reply → Type 0
OverOrIn next waiting r = (r.message.t_train < next) ⊎ Contains waiting r

here : (x : Reply) (xs : List Reply) (r : Reply) → x ≡ r → Contains (x ∷ xs) r
here x xs r same = (zero, omega arith, same)

-- of the replies that wait only those before a turn are dropped
due_kept : (t : ℕ) (xs : List Reply) (r : Reply) → Contains xs r → OverOrIn t (filter (is_due t) xs) r
due_kept t [] r (k, low, is) = absurd (let no : ⊥ = omega (arith, low) in no)
due_kept t (x ∷ xs) r holds =
    ⊎_elim
    (λ (same : x ≡ r).
    cond_both (is_due t x) (x ∷ filter (is_due t) xs) (filter (is_due t) xs) (λ ys. OverOrIn t ys r)
    (λ e. inr (here x (filter (is_due t) xs) r same))
    (λ e. inl (let early : nat_le t x.message.t_train ≡ false = e in
    let older : x.message.t_train < t = grind (arith, early, nat_tests) in
    subst (λ (y : Reply). y.message.t_train < t) same older)))
    (λ (after : Contains xs r).
    ⊎_elim
    (λ (older : r.message.t_train < t). inl older)
    (λ (held : Contains (filter (is_due t) xs) r).
    cond_both (is_due t x) (x ∷ filter (is_due t) xs) (filter (is_due t) xs) (λ ys. OverOrIn t ys r)
    (λ e. inr (Contains-append_right (x ∷ []) (filter (is_due t) xs) r held))
    (λ e. inr held))
    (due_kept t xs r after))
    (member x xs r holds)

-- so does an initiation
begun : (begins : Option ℕ) (t next : ℕ) (serving : Option ℕ) (early : List Reply) (r : Reply) → OverOrIn next early r
    → OverOrIn (turn_after begins t next serving) (early_after begins t next serving early) r
begun None t next serving early r is = is
begun (Some c) t next serving early r is = by (is_served_by c serving) refl (nat_lt t next) refl
  where
    moved : next ≤ t → OverOrIn t (filter (is_due t) early) r
    moved low =
        ⊎_elim
        (λ (older : r.message.t_train < next). inl (omega (arith, low, older)))
        (λ (holds : Contains early r). due_kept t early r holds)
        is

    by : (a : Bool) → is_served_by c serving ≡ a → (b : Bool) → nat_lt t next ≡ b
        → OverOrIn (turn_after (Some c) t next serving) (early_after (Some c) t next serving early) r
    by true p b q = rw p is
    by false p true q = rw (p, q) is
    by false p false q = rw (p, q) (moved (ltb-false t next q))

handed_on : (is_taken : Bool) (next : ℕ) (s : Reply) (early : List Reply) (r : Reply) → OverOrIn next early r
    → OverOrIn next (handed is_taken next s early) r
handed_on false next s early r is = is
handed_on true next s early r is =
    cond_both (nat_lt s.message.t_train next) early (early ++ s ∷ []) (λ ys. OverOrIn next ys r)
    (λ e. is)
    (λ e. ⊎_elim
    (λ (older : r.message.t_train < next). inl older)
    (λ (holds : Contains early r). inr (Contains-append_left early (s ∷ []) r holds))
    is)

handed_new : (next : ℕ) (s : Reply) (early : List Reply) → OverOrIn next (kept next s early) s
handed_new next s early =
    cond_both (nat_lt s.message.t_train next) early (early ++ s ∷ []) (λ ys. OverOrIn next ys s)
    (λ e. inl (grind (arith, e, nat_tests)))
    (λ e. inr (Contains-push early s))

let_out_one : (next : ℕ) (s : Reply) (early left : List Reply) (r : Reply) → IsTurn next s early left
    → OverOrIn next early r → OverOrIn (next + 1) left r
let_out_one next s early left r turn is =
    ⊎_elim
    (λ (older : r.message.t_train < next). inl (omega (arith, older)))
    (λ (holds : Contains early r).
    let parts : Contains (turn.before ++ s ∷ turn.after) r = subst (λ ys. Contains ys r) turn.waited holds in
    ⊎_elim
    (λ (one : Contains turn.before r).
    inr (subst (λ ys. Contains ys r) (sym turn.others) (Contains-append_left turn.before turn.after r one)))
    (λ (rest : Contains (s ∷ turn.after) r).
    ⊎_elim
    (λ (same : s ≡ r). inl (let number : r.message.t_train ≡ next =
    ap (λ (x : Reply). x.message.t_train) (sym same) ∙ turn.number in omega (arith, number)))
    (λ (one : Contains turn.after r).
    inr (subst (λ ys. Contains ys r) (sym turn.others) (Contains-append_right turn.before turn.after r one)))
    (member s turn.after r rest))
    (Contains-append_cases turn.before (s ∷ turn.after) r parts))
    is

stays : (calls : List Call) (next : ℕ) (serving : Option ℕ) (early : List Reply) (last : ℕ) (left : List Reply)
    (r : Reply) → Goes calls next serving early last left → OverOrIn next early r → OverOrIn last left r
stays [] next serving early last left r goes is =
    subst (λ n. OverOrIn n left r) (sym goes.0) (subst (λ ys. OverOrIn next ys r) (sym goes.1) is)
stays (Says begins s is_taken ∷ calls) next serving early last left r goes is =
    let t = s.message.t_train in
    let turn = turn_after begins t next serving in
    let on = handed_on is_taken turn s (early_after begins t next serving early) r
    (begun begins t next serving early r is) in
    stays calls turn (serving_after begins t next serving) goes.0 last left r goes.2
    (subst (λ ys. OverOrIn turn ys r) (sym goes.1) on)
stays (Leaves d ∷ calls) next serving early last left r goes is =
    stays calls next (without d serving) goes.0 last left r goes.2
    (subst (λ ys. OverOrIn next ys r) (sym goes.1) is)
stays (LetsOut s ∷ calls) next serving early last left r goes is =
    stays calls (next + 1) serving goes.0 last left r goes.2 (let_out_one next s early goes.0 r goes.1 is)

taken_stays : (calls : List Call) (next : ℕ) (serving : Option ℕ) (early : List Reply) (last : ℕ) (left : List Reply)
    (r : Reply) → Goes calls next serving early last left → Contains (taken calls) r → OverOrIn last left r
taken_stays [] next serving early last left r goes (k, low, is) = absurd (let no : ⊥ = omega (arith, low) in no)
taken_stays (Says begins s true ∷ calls) next serving early last left r goes holds =
    let t = s.message.t_train in
    let turn = turn_after begins t next serving in
    let new = handed_new turn s (early_after begins t next serving early) in
    ⊎_elim
    (λ (same : s ≡ r).
    stays calls turn (serving_after begins t next serving) goes.0 last left r goes.2
    (subst (λ (x : Reply). OverOrIn turn goes.0 x) same (subst (λ ys. OverOrIn turn ys s) (sym goes.1) new)))
    (λ (after : Contains (taken calls) r).
    taken_stays calls turn (serving_after begins t next serving) goes.0 last left r goes.2 after)
    (member s (taken calls) r holds)
taken_stays (Says begins s false ∷ calls) next serving early last left r goes holds =
    let t = s.message.t_train in
    taken_stays calls (turn_after begins t next serving) (serving_after begins t next serving) goes.0 last left r goes.2
    holds
taken_stays (Leaves d ∷ calls) next serving early last left r goes holds =
    taken_stays calls next (without d serving) goes.0 last left r goes.2 holds
taken_stays (LetsOut s ∷ calls) next serving early last left r goes holds =
    taken_stays calls (next + 1) serving goes.0 last left r goes.2 holds

no_fall : (calls : List Call) (next : ℕ) (serving : Option ℕ) (early : List Reply) (last : ℕ) (left : List Reply)
    → Goes calls next serving early last left → next ≤ last
no_fall [] next serving early last left goes = let same : last ≡ next = goes.0 in omega (arith, same)
no_fall (Says begins s is_taken ∷ calls) next serving early last left goes =
    let t = s.message.t_train in
    let turn = turn_after begins t next serving in
    let one : next ≤ turn = not_back begins t next serving in
    let others : turn ≤ last = no_fall calls turn (serving_after begins t next serving) goes.0 last left goes.2 in
    omega (arith, one, others)
no_fall (Leaves d ∷ calls) next serving early last left goes =
    no_fall calls next (without d serving) goes.0 last left goes.2
no_fall (LetsOut s ∷ calls) next serving early last left goes =
    let others : next + 1 ≤ last = no_fall calls (next + 1) serving goes.0 last left goes.2 in omega (arith, others)

pub nobody_waits : (next last n : ℕ) (serving : Option ℕ) (early left : List Reply) (calls : List Call)
    → Goes calls next serving early last left → All (λ (r : Reply). r.message.t_train ≢ last) left
    → ((t : ℕ) → next ≤ t → t ≤ n → (r : Reply) × (r.message.t_train ≡ t) × Contains (taken calls) r) → n < last
nobody_waits next last n serving early left calls goes none each = by (nat_lt n last) refl
  where
    by : (b : Bool) → nat_lt n last ≡ b → n < last
    by true is = grind (arith, is, nat_tests)
    by false is =
        let low : last ≤ n = ltb-false n last is in
        let up : next ≤ last = no_fall calls next serving early last left goes in
        let it = each last up low in
        ⊎_elim
        (λ (older : it.0.message.t_train < last).
        absurd (let number : it.0.message.t_train ≡ last = it.1 in let no : ⊥ = omega (arith, older, number) in no))
        (λ (waits : Contains left it.0).
        absurd (All-contains (λ (r : Reply). r.message.t_train ≢ last) left it.0 none waits it.1))
        (taken_stays calls next serving early last left it.0 goes it.2)
