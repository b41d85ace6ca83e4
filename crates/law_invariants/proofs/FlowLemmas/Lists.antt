-- Homes, entries, frames, and lists made of ranges.
use Rattle.std.proofs.Common.{[], ◌&&◌, ◌++◌, ◌+◌, ◌<◌, ◌==◌, ◌∙◌, ◌∷◌, ◌≡◌, ◌≢◌, ◌≤◌, ap, arith, Bool, cond, false}
use Rattle.std.proofs.Common.{inl, inr, is_none, is_some, length, length-append, List, ltb-true, map, nat_lt, ne_eqb}
use Rattle.std.proofs.Common.{None, not, Option, refl, slice_get, Some, subst, suc, sym, true, zero, ℕ}
use Rattle.std.proofs.lemmas.Bool.Decides.{eqb_tells}
use Rattle.std.proofs.lemmas.List.Elements.{Contains-append_left, Contains-append_right, filter_map-append}
use Rattle.std.proofs.lemmas.List.Sums.{sum_by-append, sum_by-cons}
use Rattle.std.proofs.lemmas.Option.{same_Some}
use Rattle.std.specs.List.{count_by, filter_map, flat_map, position_or_len, range_with_len}
use Rattle.std.specs.Prelude.{Contains}
use Rattle.law_base.proofs.CountingLemmas.Sums.{sum_more, sum_none, sum_some}
use Rattle.law_base.specs.Counting.Resource.{allowed, carried, Resource}
use Rattle.law_base.specs.Counting.Sums.{one_if, put, sum_below}
use Rattle.law_invariants.specs.Flow.Counts.{missions, right_inside, rights, yield_inside}
use Rattle.law_invariants.specs.Flow.Flow.{Flow}
use Rattle.rbc_spec.proofs.Lists.{put_at_pair}
pub use Rattle.rbc_spec.proofs.Lists.{itself, one_home, registrar_below, taken_is}
pub use Rattle.rbc_spec.proofs.Runs.{all_within}
use Rattle.rbc_spec.specs.Centre as centre
use Rattle.rbc_spec.specs.Centre.{Centre, Entry, is_used_for}
use Rattle.rbc_spec.specs.Frame.{Announce, AskRight, Body, Cancel, GiveRight, RefuseRight, ReturnRight, RouteAsk}
use Rattle.rbc_spec.specs.Frame.{RouteInfo, RouteReturn, RouteWithdraw, TakingOver, Yield}
use Rattle.rbc_spec.specs.Line.{AreDistinct, Line, Train, train_number}
use Rattle.rbc_spec.specs.Maps.{put_pair}
use Rattle.rbc_spec.specs.Promises.{once, user}

-- # Small laws of homes, of changes of one entry, and of the amounts in frames.

pub neither : (m : Bool) (r : Bool) → one_if r + one_if m ≡ 0 → (not m && not r) ≡ true
neither true r h = absurd (let no : ⊥ = omega arith in no)
neither false true h = absurd (let no : ⊥ = omega arith in no)
neither false false h = refl

pub none_is_not_some : {X : Type 0} (o : Option X) → is_none o ≡ not (is_some o)
none_is_not_some None = refl
none_is_not_some (Some x) = refl

-- a part of the centres' states for each train, of which one entry is changed
pub pair_put : {Y : Type 0} (f : Centre → ℕ → Y) (g : ℕ → ℕ → Y) (at : ℕ → Centre) (c : ℕ) (new : Centre) (t : ℕ)
    (x : Y) → ((u d : ℕ) → g u d ≡ f (at d) u)
    → ((u : ℕ) → f new u ≡ put (f (at c)) t x u) → (u d : ℕ) → put_pair g t c x u d ≡ f (put at c new d) u
pair_put f g at c new t x same now u d = ap (λ (h : ℕ → ℕ → _). put_pair h t c x u d) (λ i v b. same v b i)
    ∙ sym (put_at_pair f at c new t x now u d)

-- a mission on its way has the train's right with it
pub missions_le : (line : Line) (t i j : ℕ) (fs : List Body)
    → carried (missions t) i j fs ≤ carried (rights line t) i j fs
unfolding carried
missions_le line t i j [] = omega arith
missions_le line t i j (f ∷ fs) = let more = missions_le line t i j fs in by_body f more
  where
    by_body : (g : Body) → carried (missions t) i j fs ≤ carried (rights line t) i j fs
        → yield_inside t g + carried (missions t) i j fs ≤ right_inside t g + carried (rights line t) i j fs
    by_body (AskRight u) more = omega (arith, more)
    by_body (GiveRight u) more = omega (arith, more)
    by_body (RefuseRight u) more = omega (arith, more)
    by_body (ReturnRight u) more = omega (arith, more)
    by_body (RouteAsk u first most) more = omega (arith, more)
    by_body (RouteInfo u r) more = omega (arith, more)
    by_body (RouteWithdraw u s) more = omega (arith, more)
    by_body (RouteReturn u r) more = omega (arith, more)
    by_body (Announce h u track) more = omega (arith, more)
    by_body (Cancel h u) more = omega (arith, more)
    by_body (TakingOver h u) more = omega (arith, more)
    by_body (Yield h u heard has_data is_ended place hand) more = omega (arith, more)

-- a frame among them carries something
pub carried_contains : (r : Resource Centre Body) (a b : ℕ) (fs : List Body) (f : Body) → Contains fs f
    → r.inside a b f ≤ carried r a b fs
unfolding carried
carried_contains r a b [] f is = absurd (omega (arith, is.1))
carried_contains r a b (g ∷ fs) f (zero, low, is) = omega (arith, ap (r.inside a b) is)
carried_contains r a b (g ∷ fs) f (suc k, low, is) =
    omega (arith, carried_contains r a b fs f (k, omega (arith, low), is))

-- if some amount is allowed, some centre allows it
pub some_cap : (r : Resource Centre Body) (n : ℕ) (w : Flow) → 0 < allowed r n w
    → (h : ℕ) × (h < n) × (0 < r.cap h (w.at h))
unfolding allowed
some_cap r n w some = sum_some n (λ h. r.cap h (w.at h)) some

-- # Lists made of ranges: their elements and their lengths.

-- ## Their elements

pub contains_flat_map : {X Y : Type 0} (f : X → List Y) (xs : List X) (x : X) (y : Y) → Contains xs x → Contains (f x) y
    → Contains (flat_map f xs) y
contains_flat_map f [] x y is has = absurd (let no : ⊥ = omega (arith, is.1) in no)
contains_flat_map f (z ∷ zs) x y (zero, low, is) has =
    Contains-append_left (f z) (flat_map f zs) y (subst (λ v. Contains (f v) y) (sym is) has)
contains_flat_map f (z ∷ zs) x y (suc k, low, is) has =
    Contains-append_right (f z) (flat_map f zs) y (contains_flat_map f zs x y (k, omega (arith, low), is) has)

-- ## Counts over them

-- a number for each list; for a joined list it is the sum of both
pub record IsAdded {X : Type 0} (count : List X → ℕ) : Type 0 where
  pub none : count [] ≡ 0
  pub both : (xs ys : List X) → count (xs ++ ys) ≡ count xs + count ys

-- the sum over the numbers from a on
abbrev pub total : (ℕ → ℕ) → ℕ → ℕ → ℕ
total f a zero = 0
total f a (suc n) = f a + total f (a + 1) n

total_last : (f : ℕ → ℕ) (a n : ℕ) → total f a (suc n) ≡ total f a n + f (a + n)
total_last f a zero =
    let at : a + 0 ≡ a = omega arith in
    let same : f (a + 0) ≡ f a = ap f at in omega (arith, same)
total_last f a (suc n) =
    let at : a + 1 + n ≡ a + suc n = omega arith in
    let same : f (a + 1 + n) ≡ f (a + suc n) = ap f at in omega (arith, total_last f (a + 1) n, same)

pub total_is : (f : ℕ → ℕ) (n : ℕ) → total f 0 n ≡ sum_below n f
total_is f zero = sym (sum_none f)
total_is f (suc n) =
    let at : 0 + n ≡ n = omega arith in
    let same : f (0 + n) ≡ f n = ap f at in omega (arith, total_last f 0 n, total_is f n, sum_more n f, same)

flat_total : {X : Type 0} (count : List X → ℕ) → IsAdded count → (f : ℕ → List X) (a n : ℕ)
    → count (flat_map f (range_with_len a n)) ≡ total (λ i. count (f i)) a n
flat_total count is f a zero = is.none
flat_total count is f a (suc n) =
    omega (arith, is.both (f a) (flat_map f (range_with_len (a + 1) n)), flat_total count is f (a + 1) n)

-- over the lists of a range
pub flat_sum : {X : Type 0} (count : List X → ℕ) → IsAdded count → (f : ℕ → List X) (n : ℕ)
    → count (flat_map f (range_with_len 0 n)) ≡ sum_below n (λ i. count (f i))
flat_sum count is f n = flat_total count is f 0 n ∙ total_is (λ i. count (f i)) n

some_total : {Y : Type 0} (f : ℕ → Option Y) (a n : ℕ) → length (filter_map f (range_with_len a n))
    ≡ total (λ i. one_if (is_some (f i))) a n
some_total f a zero = refl
some_total f a (suc n) = by_head (f a) refl (some_total f (a + 1) n)
  where
    by_head : (o : Option _) → f a ≡ o → length (filter_map f (range_with_len (a + 1) n))
        ≡ total (λ i. one_if (is_some (f i))) (a + 1) n
        → length (filter_map f (range_with_len a (suc n))) ≡ total (λ i. one_if (is_some (f i))) a (suc n)
    by_head None e more = rw e (omega (arith, more))
    by_head (Some v) e more = rw e (omega (arith, more))

-- and how many of a range give something
pub some_sum : {Y : Type 0} (f : ℕ → Option Y) (n : ℕ) → length (filter_map f (range_with_len 0 n))
    ≡ sum_below n (λ i. one_if (is_some (f i)))
some_sum f n = some_total f 0 n ∙ total_is (λ i. one_if (is_some (f i))) n

pub length_added : {X Y : Type 0} (f : X → Option Y) → IsAdded (λ xs. length (filter_map f xs))
length_added f =
    record {
      none = refl;
      both = λ xs ys. ap length (filter_map-append f xs ys)
          ∙ length-append (filter_map f xs) (filter_map f ys);
    }

-- # Lists of trains: how often each train is in them.

-- ## Counts of a list

one_is : (b : Bool) → cond b 1 0 ≡ one_if b
one_is true = refl
one_is false = refl

pub count_more : {X : Type 0} (test : X → Bool) (x : X) (xs : List X)
    → count_by test (x ∷ xs) ≡ one_if (test x) + count_by test xs
count_more test x xs = omega (arith, sum_by-cons (λ y. cond (test y) 1 0) x xs, one_is (test x))

pub count_both : {X : Type 0} (test : X → Bool) (xs ys : List X)
    → count_by test (xs ++ ys) ≡ count_by test xs + count_by test ys
count_both test xs ys = sum_by-append (λ y. cond (test y) 1 0) xs ys

pub count_added : {X : Type 0} (test : X → Bool) → IsAdded (count_by test)
count_added test = record { none = refl; both = count_both test }

count_total : (test : ℕ → Bool) (a n : ℕ) → count_by test (range_with_len a n) ≡ total (λ i. one_if (test i)) a n
count_total test a zero = refl
count_total test a (suc n) = omega (arith, count_more test a (range_with_len (a + 1) n), count_total test (a + 1) n)

pub count_sum : (test : ℕ → Bool) (n : ℕ) → count_by test (range_with_len 0 n) ≡ sum_below n (λ i. one_if (test i))
count_sum test n = count_total test 0 n ∙ total_is (λ i. one_if (test i)) n

-- how often t is in a list
abbrev pub times : ℕ → List ℕ → ℕ
times t us = count_by (λ u. u == t) us

none_of : (us : List ℕ) → ((t : ℕ) → times t us ≡ 0) → us ≡ []
none_of [] none = refl
none_of (u ∷ us) none =
    absurd (let no : ⊥ = omega (arith, none u, count_more (λ x. x == u) u us, ap one_if (itself u)) in no)

one_of : (t : ℕ) (us : List ℕ) → ((x : ℕ) → times x us ≡ one_if (t == x)) → us ≡ t ∷ []
one_of t [] is = absurd (let no : ⊥ = omega (arith, is t, ap one_if (itself t)) in no)
one_of t (u ∷ us) is = elim (eqb_tells t u) [
  | inr e ↦
      absurd (let no : ⊥ = omega (arith, is u, count_more (λ x. x == u) u us, ap one_if (itself u), ap one_if e.0) in
      no)
  | inl e ↦ let others : us ≡ [] =
      none_of us (λ x. omega (arith, is x, count_more (λ y. y == x) u us, ap (λ y. one_if (y == x)) e.1)) in
      ap (λ xs. u ∷ xs) others ∙ ap (λ (x : ℕ). x ∷ []) (sym e.1)
]

-- a list that counts each train as the entry is in use for it is the entry's user
pub is_user : (us : List ℕ) (e : Entry) → ((t : ℕ) → times t us ≡ one_if (is_used_for t e)) → us ≡ user e
is_user us centre.Shut is = none_of us is
is_user us centre.Open is = none_of us is
is_user us (centre.Taken t) is = one_of t us is
is_user us (centre.Out t) is = one_of t us is

pub times_once : (b : Bool) (u t : ℕ) → times t (once b u) ≡ one_if ((u == t) && b)
times_once true u t = omega (arith, count_more (λ x. x == t) u [], both (u == t))
  where
    both : (z : Bool) → one_if z ≡ one_if (z && true)
    both true = refl
    both false = refl
times_once false u t = none (u == t)
  where
    none : (z : Bool) → 0 ≡ one_if (z && false)
    none true = refl
    none false = refl

-- ## Trains of the line

no_position : (test : Train → Bool) (ps : List Train) → ((i : ℕ) (p : Train) → slice_get ps i ≡ Some p → test p ≡ false)
    → position_or_len test ps ≡ length ps
no_position test [] none = refl
no_position test (p ∷ ps) none = rw (none 0 p refl) (omega (arith, no_position test ps (λ i q at. none (suc i) q at)))

pub is_there : (n m : ℕ) → is_some (cond (nat_lt n m) (Some n) None) ≡ true → n < m
is_there n m is = by_test (nat_lt n m) refl is
  where
    by_test : (b : Bool) → nat_lt n m ≡ b → is_some (cond b (Some n) None) ≡ true → n < m
    by_test true e h = ltb-true n m e
    by_test false e h = cc

-- a train that the line numbers is one of the line's
pub known_there : (line : Line) (t : ℕ) → is_some (train_number line t) ≡ true
    → ((i : ℕ) (p : Train) → slice_get line.trains i ≡ Some p → p.nid_engine ≢ t) → ⊥
known_there line t known apart = omega (
  arith,
  is_there (position_or_len (λ p. p.nid_engine == t) line.trains) (length line.trains) known,
  no_position (λ p. p.nid_engine == t) line.trains (λ i p at. ne_eqb p.nid_engine t (apart i p at)),
)

module _ (t h : ℕ) (list : ℕ → List ℕ) (others : (u : ℕ) → u ≢ t → times t (list u) ≡ 0)
    (here : times t (list t) ≡ h) where
  none_there : (ps : List Train) → ((i : ℕ) (p : Train) → slice_get ps i ≡ Some p → p.nid_engine ≢ t)
      → times t (flat_map list (map (λ p. p.nid_engine) ps)) ≡ 0
  none_there [] apart = refl
  none_there (p ∷ ps) apart = omega (
    arith,
    count_both (λ x. x == t) (list p.nid_engine) (flat_map list (map (λ q. q.nid_engine) ps)),
    others p.nid_engine (apart 0 p refl),
    none_there ps (λ i q at. apart (suc i) q at),
  )

  -- over distinct trains, which include t if t has something
  pub over_trains : (ps : List Train) → AreDistinct (λ p. p.nid_engine) ps
      → (((i : ℕ) (p : Train) → slice_get ps i ≡ Some p → p.nid_engine ≢ t) → h ≡ 0)
      → times t (flat_map list (map (λ p. p.nid_engine) ps)) ≡ h
  over_trains [] distinct absent = sym (absent (λ i p is. cc))
  over_trains (p ∷ ps) distinct absent = elim (eqb_tells p.nid_engine t) [
    | inl e ↦ omega (
      arith,
      count_both (λ x. x == t) (list p.nid_engine) (flat_map list (map (λ q. q.nid_engine) ps)),
      ap (λ x. times t (list x)) e.1,
      here,
      none_there ps (λ i q at same. let next : zero ≡ suc i = distinct zero (suc i) p q refl at (e.1 ∙ sym same) in
          let no : ⊥ = omega (arith, next) in no),
    )
    | inr e ↦ omega (
      arith,
      count_both (λ x. x == t) (list p.nid_engine) (flat_map list (map (λ q. q.nid_engine) ps)),
      others p.nid_engine e.1,
      over_trains ps (λ i j x y at_i at_j same. let next : suc i
          ≡ suc j = distinct (suc i) (suc j) x y at_i at_j same in
          omega (arith, next)) (λ apart. absent (by_place apart e.1)),
    )
  ]
    where
      by_place : ((i : ℕ) (q : Train) → slice_get ps i ≡ Some q → q.nid_engine ≢ t) → p.nid_engine ≢ t
          → (i : ℕ) (q : Train) → slice_get (p ∷ ps) i ≡ Some q → q.nid_engine ≢ t
      by_place apart first zero q at same = first (ap (λ (x : Train). x.nid_engine) (same_Some p q at) ∙ same)
      by_place apart first (suc i) q at same = apart i q at same
