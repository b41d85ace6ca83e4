-- The replies that a lane releases, in the order of their T_TRAINs.
use Rattle.std.proofs.Common.{[], ◌++◌, ◌+◌, ◌<◌, ◌==◌, ◌∙◌, ◌∷◌, ◌≡◌, ◌≤◌, ◌⊎◌, All, ap, arith, Bool, Contains, drop}
use Rattle.std.proofs.Common.{false, HoldsAt, if◌then◌else◌, inl, inr, length, List, nat_lt, None, Option, refl, remove}
use Rattle.std.proofs.Common.{slice_index_or, Some, subst, suc, sym, take, true, zero, ℕ, ⊎_elim}
use Rattle.std.proofs.lemmas.Bool.{cond_both, ltb-false}
use Rattle.std.proofs.lemmas.Bool.Decides.{nat_tests}
use Rattle.std.proofs.lemmas.List.{drop_more, take-append-drop}
use Rattle.std.proofs.lemmas.List.Elements.{All-append, All-cons, All-head, All-nil, All-push, All-tail, All-weaker}
use Rattle.std.proofs.lemmas.Option.{same_Some}
use Rattle.serve_workers.specs.declared.writing.reply.Reply.{Reply}
use Rattle.serve_workers.specs.Writing.Lane.{Call, early_after, Goes, handed, is_served_by, IsCounted, IsSaidBy, IsTurn}
use Rattle.serve_workers.specs.Writing.Lane.{Leaves, let_out, LetsOut, Rises, Says, Serves, serving_after, submitted}
use Rattle.serve_workers.specs.Writing.Lane.{turn_after, without}

-- ## They are a beginning of the centre's replies

-- a member of a list that is not its head is in its tail
pub member : (x : Reply) (xs : List Reply) (z : Reply) → Contains (x ∷ xs) z → (x ≡ z) ⊎ Contains xs z
member x xs z (zero, low, is) = inl is
member x xs z (suc k, low, is) = inr (k, omega (arith, low), is)

-- in replies counted from a number, none has a smaller number
not_before : (first : ℕ) (said : List Reply) (r : Reply) → IsCounted first said → Contains said r
    → first ≤ r.message.t_train
not_before first [] r counted (k, low, is) = absurd (let no : ⊥ = omega (arith, low) in no)
not_before first (s ∷ said) r counted holds =
    ⊎_elim
    (λ (same : s ≡ r). let e : r.message.t_train ≡ first =
    ap (λ (x : Reply). x.message.t_train) (sym same) ∙ counted.0 in omega arith)
    (λ (after : Contains said r). let e : first + 1 ≤ r.message.t_train =
    not_before (first + 1) said r counted.1 after in omega arith)
    (member s said r holds)

-- a reply that was sent before a number or from it on was sent before the next number or from that on
said_on : (first : ℕ) (s : Reply) (said : List Reply) (r : Reply) → s.message.t_train ≡ first →
    IsSaidBy first (s ∷ said) r → IsSaidBy (first + 1) said r
said_on first s said r number is =
    ⊎_elim
    (λ (older : r.message.t_train < first). inl (omega arith))
    (λ (holds : Contains (s ∷ said) r).
    ⊎_elim
    (λ (same : s ≡ r). inl (let e : r.message.t_train ≡ first =
    ap (λ (x : Reply). x.message.t_train) (sym same) ∙ number in omega arith))
    (λ (after : Contains said r). inr after)
    (member s said r holds))
    is

-- the reply of the current turn is the first of the list
turn : (first : ℕ) (s : Reply) (said : List Reply) (r : Reply) → IsCounted first (s ∷ said) → r.message.t_train ≡ first
    → IsSaidBy first (s ∷ said) r → s ≡ r
turn first s said r counted number is =
    ⊎_elim
    (λ (older : r.message.t_train < first). absurd (let no : ⊥ = omega arith in no))
    (λ (holds : Contains (s ∷ said) r).
    ⊎_elim
    (λ (same : s ≡ r). same)
    (λ (after : Contains said r).
    absurd (let e : first + 1 ≤ r.message.t_train = not_before (first + 1) said r counted.1 after in let no : ⊥ =
    omega arith in no))
    (member s said r holds))
    is

-- if no further reply was sent, none has the current turn
no_turn : (first : ℕ) (r : Reply) → r.message.t_train ≡ first → IsSaidBy first [] r → ⊥
no_turn first r number is =
    ⊎_elim
    (λ (older : r.message.t_train < first). let no : ⊥ = omega arith in no)
    (λ (holds : Contains [] r). let low : holds.0 < 0 = holds.1 in let no : ⊥ = omega (arith, low) in no)
    is

all_handed : (P : Reply → Type 0) (is_taken : Bool) (next : ℕ) (r : Reply) (early : List Reply) → P r → All P early
    → All P (handed is_taken next r early)
all_handed P true next r early is all =
    cond_both (nat_lt r.message.t_train next) early (early ++ r ∷ []) (All P) (λ e. all)
    (λ e. All-push P early r all is)
all_handed P false next r early is all = all

all_apart : (P : Reply → Type 0) (r : Reply) (before after : List Reply) → All P (before ++ r ∷ after)
    → All P before × P r × All P after
all_apart P r [] after all = (All-nil P, All-head P r after all, All-tail P r after all)
all_apart P r (x ∷ before) after all =
    let apart = all_apart P r before after (All-tail P x (before ++ r ∷ after) all) in
    (All-cons P x before (All-head P x (before ++ r ∷ after) all) apart.0, apart.1, apart.2)

-- a property of all waiting replies holds for the released reply and for the remaining ones
all_left : (P : Reply → Type 0) (next : ℕ) (r : Reply) (early left : List Reply) → IsTurn next r early left
    → All P early → P r × All P left
all_left P next r early left is all =
    let parts : All P (is.before ++ r ∷ is.after) = subst (All P) is.waited all in
    let apart = all_apart P r is.before is.after parts in
    (apart.1, subst (All P) (sym is.others) (All-append P is.before is.after apart.0 apart.2))

same : (n m : ℕ) → n ≡ m → (n == m) ≡ true
same n m is = grind (arith, is, nat_tests)

-- if a connection serves the train before and after an initiation, this has changed nothing
unchanged : (c : ℕ) (begins : Option ℕ) (t next : ℕ) (serving : Option ℕ) (early : List Reply) → serving ≡ Some c
    → serving_after begins t next serving ≡ Some c
    → (turn_after begins t next serving ≡ next) × (early_after begins t next serving early ≡ early)
unchanged c None t next serving early was is = (refl, refl)
unchanged c (Some d) t next serving early was is = by (is_served_by d serving) refl (nat_lt t next) refl
  where
    by : (a : Bool) → is_served_by d serving ≡ a → (b : Bool) → nat_lt t next ≡ b
        → (turn_after (Some d) t next serving ≡ next) × (early_after (Some d) t next serving early ≡ early)
    by true p b q = rw p (refl, refl)
    by false p true q = rw (p, q) (refl, refl)
    by false p false q =
        let one : (if nat_lt t next then serving else Some d) ≡ Some c =
        subst (λ a. (if a then serving else if nat_lt t next then serving else Some d) ≡ Some c) p is in
        let two : Some d ≡ Some c = subst (λ b. (if b then serving else Some d) ≡ Some c) q one in
        let own : (c == d) ≡ true = same c d (sym (same_Some d c two)) in
        let other : (c == d) ≡ false = subst (λ s. is_served_by d s ≡ false) was p in
        absurd (cc (own, other))

serves_now : (c : ℕ) (calls : List Call) (next : ℕ) (serving : Option ℕ) → Serves c calls next serving
    → serving ≡ Some c
serves_now c [] next serving serves = serves
serves_now c (call ∷ calls) next serving serves = serves.0

-- The released replies are counted from the turn at the beginning. A property of all replies that waited or were
-- submitted holds for them.
pub released : (P : Reply → Type 0) (first c : ℕ) (serving : Option ℕ) (early : List Reply) (calls : List Call)
    → All P early → All P (submitted calls) → (last : ℕ) (left : List Reply)
    → Goes calls first serving early last left → Serves c calls first serving
    → IsCounted first (let_out calls) × All P (let_out calls)
released P first c serving early [] waits come last left goes serves = (tt, All-nil P)
released P first c serving early (Says begins r is_taken ∷ calls) waits come last left goes serves =
    let t = r.message.t_train in
    let then_serves = serves_now c calls (turn_after begins t first serving) (serving_after begins t first serving)
    serves.1 in
    let no_change = unchanged c begins t first serving early serves.0 then_serves in
    let all : All P (handed is_taken first r early) =
    all_handed P is_taken first r early (All-head P r (submitted calls) come) waits in
    let left_is : goes.0 ≡ handed is_taken first r early =
    goes.1
    ∙ ap (λ n. handed is_taken n r (early_after begins t first serving early)) no_change.0
    ∙ ap (handed is_taken first r) no_change.1 in
    released P first c (serving_after begins t first serving) goes.0 calls (subst (All P) (sym left_is) all)
    (All-tail P r (submitted calls) come) last left
    (subst (λ n. Goes calls n (serving_after begins t first serving) goes.0 last left) no_change.0 goes.2)
    (subst (λ n. Serves c calls n (serving_after begins t first serving)) no_change.0 serves.1)
released P first c serving early (Leaves d ∷ calls) waits come last left goes serves =
    released P first c (without d serving) goes.0 calls (subst (All P) (sym goes.1) waits) come last left goes.2
    serves.1
released P first c serving early (LetsOut r ∷ calls) waits come last left goes serves =
    let held = all_left P first r early goes.0 goes.1 waits in
    let later = released P (first + 1) c serving goes.0 calls held.1 come last left goes.2 serves.1 in
    ((goes.1.number, later.0), All-cons P r (let_out calls) held.0 later.1)

-- replies of the centre that are counted from a number are a beginning of all its replies from that number on
begins_with : (first : ℕ) (said outs : List Reply) → IsCounted first said → IsCounted first outs
    → All (IsSaidBy first said) outs → (rest : List Reply) × (said ≡ outs ++ rest)
begins_with first said [] counted out all = (said, refl)
begins_with first [] (r ∷ outs) counted out all =
    absurd (no_turn first r out.0 (All-head (IsSaidBy first []) r outs all))
begins_with first (s ∷ said) (r ∷ outs) counted out all =
    let on : (x : Reply) → IsSaidBy first (s ∷ said) x → IsSaidBy (first + 1) said x =
    λ x is. said_on first s said x counted.0 is in
    let is_first : s ≡ r =
    turn first s said r counted out.0 (All-head (IsSaidBy first (s ∷ said)) r outs all) in
    let later = begins_with (first + 1) said outs counted.1 out.1
    (All-weaker _ _ on outs (All-tail (IsSaidBy first (s ∷ said)) r outs all)) in
    (later.0, ap (λ x. x ∷ said) is_first ∙ ap (λ xs. r ∷ xs) later.1)

pub beginning : (said : List Reply) (first c : ℕ) (serving : Option ℕ) (early : List Reply) (calls : List Call)
    → IsCounted first said → All (IsSaidBy first said) early → All (IsSaidBy first said) (submitted calls)
    → (last : ℕ) (left : List Reply) → Goes calls first serving early last left → Serves c calls first serving
    → (rest : List Reply) × (said ≡ let_out calls ++ rest)
beginning said first c serving early calls counted waits come last left goes serves =
    let out = released (IsSaidBy first said) first c serving early calls waits come last left goes serves in
    begins_with first said (let_out calls) counted out.0 out.1

-- ## The reply taken out of the waiting replies is the reply of the current turn

parted : (xs : List Reply) (i : ℕ) (r : Reply) → i < length xs → r ≡ slice_index_or xs i r
    → xs ≡ take i xs ++ r ∷ drop (i + 1) xs
parted xs i r low is =
    sym (take-append-drop i xs) ∙ ap (λ ys. take i xs ++ ys)
    (drop_more xs i r low ∙ ap (λ x. x ∷ drop (i + 1) xs) (sym is))

pub turn_of : (next : ℕ) (xs ys : List Reply) (i : ℕ) (r : Reply) → i < length xs → r ≡ slice_index_or xs i r →
    HoldsAt (λ reply. reply.message.t_train ≡ next) xs i → ys ≡ remove xs i → IsTurn next r xs ys
turn_of next xs ys i r low is number left = let step : suc i ≡ i + 1 = omega arith in record {
  number = ap (λ (reply : Reply). reply.message.t_train) is ∙ number r;
  before = take i xs;
  after = drop (i + 1) xs;
  waited = parted xs i r low is;
  others = left ∙ ap (λ n. take i xs ++ drop n xs) step;
}

-- ## The T_TRAINs of the replies that a lane releases rise, over all connections of its train

-- the turn does not go back
pub not_back : (begins : Option ℕ) (t next : ℕ) (serving : Option ℕ) → next ≤ turn_after begins t next serving
not_back None t next serving = omega arith
not_back (Some c) t next serving =
    cond_both (is_served_by c serving) next (if nat_lt t next then next else t) (λ n. next ≤ n) (λ e. omega arith)
    (λ e. cond_both (nat_lt t next) next t (λ n. next ≤ n) (λ e. omega arith) (λ e. ltb-false t next e))

pub rising : (calls : List Call) (least next : ℕ) (serving : Option ℕ) (early : List Reply) → least ≤ next
    → (last : ℕ) (left : List Reply) → Goes calls next serving early last left → Rises least (let_out calls)
rising [] least next serving early low last left goes = tt
rising (Says begins r is_taken ∷ calls) least next serving early low last left goes =
    let t = r.message.t_train in
    let on : next ≤ turn_after begins t next serving = not_back begins t next serving in
    rising calls least (turn_after begins t next serving) (serving_after begins t next serving) goes.0
    (omega arith) last
    left goes.2
rising (Leaves d ∷ calls) least next serving early low last left goes =
    rising calls least next (without d serving) goes.0 low last left goes.2
rising (LetsOut r ∷ calls) least next serving early low last left goes =
    let number : r.message.t_train ≡ next = goes.1.number in
    (omega arith, rising calls (r.message.t_train + 1) (next + 1) serving goes.0 (omega arith) last left goes.2)
