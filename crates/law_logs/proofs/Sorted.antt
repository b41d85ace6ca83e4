-- Parts of logs, steps by their stamps, and a list in order that merges logs.
use Rattle.std.proofs.Common.{[], ⊎_elim, ◌++◌, ◌+◌, ◌-◌, ◌<◌, ◌==◌, ◌∙◌, ◌∷◌, ◌≡◌, ◌≤◌, ◌⊎◌, All, AllPairs, ap}
use Rattle.std.proofs.Common.{append-nil, append_assoc, arith, Bool, cond, Contains, Err, false, filter, inl, inr}
use Rattle.std.proofs.Common.{IsPermutation, length, length-append, List, None, Ok, Option, refl, Result, slice_get}
use Rattle.std.proofs.Common.{Some, subst, suc, sym, true, zero, ℕ}
use Rattle.std.proofs.lemmas.Bool.{cases_Bool, cond-true, cond_both}
use Rattle.std.proofs.lemmas.List.Elements.{All-append, All-cons, All-contains, All-contains_itself, All-filter}
use Rattle.std.proofs.lemmas.List.Elements.{All-head, All-nil, All-tail, filter_passes}
use Rattle.std.proofs.lemmas.List.Kept.{AllPairs-cons, AllPairs-filter}
use Rattle.std.proofs.lemmas.List.Sorted.{Contains-permutation, sum_by-IsPermutation}
use Rattle.std.proofs.lemmas.List.Sums.{length-filter}
use Rattle.std.proofs.lemmas.Option.{slice_get_read}
use Rattle.std.specs.Option.{option_map_or}
use Rattle.law_base.proofs.WalkLemmas.Steps.{clock_kept, stamp_above}
use Rattle.law_logs.specs.Logs.{AreLogs, entries_of, IsAboveItsFrame, IsInOrder, IsMerge, IsStamped, LogEntry, Replays}
use Rattle.law_logs.specs.Logs.{sent_to}
use Rattle.rbc_spec.proofs.Lists.{get_append}
use Rattle.rbc_spec.proofs.Worlds.{numbered_at}
use Rattle.rbc_spec.specs.Centre.{beginning, Centre}
use Rattle.rbc_spec.specs.Frame.{Body, Frame}
use Rattle.rbc_spec.specs.Line.{is_centre, Line}
use Rattle.rbc_spec.specs.Outcome.{Outcome}
use Rattle.rbc_spec.specs.Step.{Deliver, effect, Event, numbered, Refusal, refusal, Set, stamp_of, step, taken, ticked}
use Rattle.rbc_spec.specs.Step.{Train, Unset}

-- # A step by its stamp.

numbered_stamp : (stamp count : ℕ) (bodies : List Body)
    → All (λ (f : Frame). f.stamp ≡ stamp) (numbered stamp count bodies)
numbered_stamp stamp count [] = All-nil (λ (f : Frame). f.stamp ≡ stamp)
numbered_stamp stamp count (b ∷ bs) = All-cons (λ (f : Frame). f.stamp ≡ stamp) _ _ refl
    (numbered_stamp stamp (count + 1) bs)

above_frame : (k : Centre) (event : Event) → IsAboveItsFrame event (stamp_of k event)
above_frame k (Train m) = tt
above_frame k (Set s) = tt
above_frame k (Unset s) = tt
above_frame k (Deliver d f) = omega arith

taken_stamped : (line : Line) (c : ℕ) (event : Event) (k : Centre)
    → IsStamped k event (taken line c event k).0 (taken line c event k).1
taken_stamped line c event k = record {
  clock = clock_kept line c event (ticked (stamp_of k event) k);
  above_clock = stamp_above k event;
  above_frame = above_frame k event;
  sent = λ d. refl;
  frames = λ d. numbered_stamp (stamp_of k event) _
      ((effect line c (ticked (stamp_of k event) k) event).reply.frames d);
  numbers = λ d i f is. numbered_at (stamp_of k event) (length (k.sent d))
      ((effect line c (ticked (stamp_of k event) k) event).reply.frames d) i f is;
}

-- a step that was not refused was taken
pub not_refused : (o : Option Refusal) (x y : Outcome × Centre)
    → option_map_or {U = Result (Outcome × Centre) Refusal} (λ why. Err why) o (Ok x) ≡ Ok y → x ≡ y
not_refused (Some why) x y is = cc
not_refused None x y is = cc

pub stamped : (line : Line) (c : ℕ) (event : Event) (k new : Centre) (outcome : Outcome)
    → step line c event k ≡ Ok (outcome, new) → IsStamped k event outcome new
unfolding step
stamped line c event k new outcome is =
    subst (λ (x : Outcome × Centre). IsStamped k event x.0 x.1)
    (not_refused (refusal line c k event) (taken line c event k) (outcome, new) is) (taken_stamped line c event k)

-- # The rest of a log, and the position of a delivered frame.

module _ (line : Line) (c : ℕ) where
  -- the frames that were sent on the way
  pub sent_replayed : (d : ℕ) (k : Centre) (es : List LogEntry) (last : Centre) → Replays line c k es last
      → last.sent d ≡ k.sent d ++ sent_to d es
  sent_replayed d k [] last r = ap (λ (x : Centre). x.sent d) r ∙ sym (append-nil (k.sent d))
  sent_replayed d k (e ∷ es) last r =
      sent_replayed d r.0 es last r.3
      ∙ ap (λ xs. xs ++ sent_to d es) ((stamped line c e.event k r.0 e.outcome r.2).sent d)
      ∙ append_assoc (k.sent d) (e.outcome.frames d) (sent_to d es)

  -- frames of entries from a stamp on have stamps from there on
  pub frames_late : (least d : ℕ) (k : Centre) (es : List LogEntry) (last : Centre) → Replays line c k es last
      → All (λ (e : LogEntry). least ≤ e.outcome.stamp) es
      → All (λ (f : Frame). least ≤ f.stamp) (sent_to d es)
  frames_late least d k [] last r late = All-nil (λ (f : Frame). least ≤ f.stamp)
  frames_late least d k (e ∷ es) last r late =
      All-append (λ (f : Frame). least ≤ f.stamp) (e.outcome.frames d) (sent_to d es)
      (λ i f low. let same = (stamped line c e.event k r.0 e.outcome r.2).frames d i f low in
      let first = All-head (λ (e : LogEntry). least ≤ e.outcome.stamp) e es late in omega (arith, same, first))
      (frames_late least d r.0 es last r.3 (All-tail (λ (e : LogEntry). least ≤ e.outcome.stamp) e es late))

  -- the frames sent on the way are numbered after those sent before
  numbers_replayed : (d : ℕ) (k : Centre) (es : List LogEntry) (last : Centre) → Replays line c k es last
      → (i : ℕ) (f : Frame) → slice_get (sent_to d es) i ≡ Some f
      → f.number ≡ length (k.sent d) + i + 1
  numbers_replayed d k [] last r i f is = cc
  numbers_replayed d k (e ∷ es) last r i f is =
      let it = stamped line c e.event k r.0 e.outcome r.2 in
      let long : length (r.0.sent d) ≡ length (k.sent d) + length (e.outcome.frames d) = ap length (it.sent d)
      ∙ length-append (k.sent d) (e.outcome.frames d) in
      ⊎_elim
      (λ (front : slice_get (e.outcome.frames d) i ≡ Some f). it.numbers d i f front)
      (λ (back : (j : ℕ) × (i ≡ length (e.outcome.frames d) + j) × (slice_get (sent_to d es) j ≡ Some f)).
      omega (arith, back.1, long, numbers_replayed d r.0 es last r.3 back.0 f back.2))
      (get_append (e.outcome.frames d) (sent_to d es) i f is)

  -- from the initial state: each frame of a log is under its number among the frames of its centre
  pub sent_under : (d : ℕ) (es : List LogEntry) (last : Centre) (f : Frame) → Replays line c (beginning line c) es last
      → Contains (sent_to d es) f
      → (1 ≤ f.number) × (slice_get (last.sent d) (f.number - 1) ≡ Some f)
  unfolding beginning
  sent_under d es last f r there =
      let found : slice_get (sent_to d es) there.0 ≡ Some f =
      slice_get_read (sent_to d es) (length (sent_to d es)) there.0 f refl there.1 (sym there.2) in
      let number : f.number ≡ there.0 + 1 =
      omega (arith, numbers_replayed d (beginning line c) es last r there.0 f found) in
      let place : there.0 ≡ f.number - 1 = omega (arith, number) in
      let grown : last.sent d ≡ sent_to d es = sent_replayed d (beginning line c) es last r in (
        omega (arith, number),
        ap (λ xs. slice_get xs (f.number - 1)) grown
            ∙ subst (λ i. slice_get (sent_to d es) i ≡ Some f) place found,
      )

-- an item that is not one of the last ones is one of the first ones
pub get_early : {X : Type 0} (P : X → Type 0) (xs ys : List X) (i : ℕ) (x : X) → slice_get (xs ++ ys) i ≡ Some x
    → All P ys → (P x → ⊥) → slice_get xs i ≡ Some x
get_early P [] [] i x at late not_late = at
get_early P [] (y ∷ ys) zero x at late not_late = let same : y ≡ x = cc in
    absurd (not_late (subst P same (All-head P y ys late)))
get_early P [] (y ∷ ys) (suc i) x at late not_late =
    let more : slice_get [] i ≡ Some x = get_early P [] ys i x at (All-tail P y ys late) not_late in
    absurd (let wrong : ◌≡◌ {A = Option _} None (Some x) = more in cc)
get_early P (z ∷ xs) ys zero x at late not_late = at
get_early P (z ∷ xs) ys (suc i) x at late not_late = get_early P xs ys i x at late not_late

-- # A list of all entries of all logs, each once, merges the logs if it is in order. Two lists of one log with the same
-- entries are equal.

-- ## Items of a list

item_here : (x : LogEntry) (xs : List LogEntry) → Contains (x ∷ xs) x
item_here x xs = (0, omega arith, refl)

item_later : (x : LogEntry) (xs : List LogEntry) (z : LogEntry) → Contains xs z → Contains (x ∷ xs) z
item_later x xs z h = (suc h.0, omega (arith, h.1), h.2)

item_of : (x : LogEntry) (xs : List LogEntry) (z : LogEntry) → Contains (x ∷ xs) z → (x ≡ z) ⊎ Contains xs z
item_of x xs z (zero, within, is) = inl is
item_of x xs z (suc k, within, is) = inr (k, omega (arith, within), is)

no_item : (z : LogEntry) → Contains [] z → ⊥
no_item z h = omega (arith, h.1)

-- an item that passes is kept
item_kept : (p : LogEntry → Bool) (xs : List LogEntry) (z : LogEntry) → Contains xs z → p z ≡ true
    → Contains (filter p xs) z
item_kept p [] z h passes = absurd (no_item z h)
item_kept p (x ∷ xs) z h passes = ⊎_elim
    (λ (same : x ≡ z). subst (λ l. Contains l z)
    (sym (cond-true (p x) (x ∷ filter p xs) (filter p xs) (ap p same ∙ passes)))
    (subst (λ y. Contains (x ∷ filter p xs) y) same (item_here x (filter p xs))))
    (λ (later : Contains xs z).
    let rest = item_kept p xs z later passes in
    cond_both (p x) (x ∷ filter p xs) (filter p xs) (λ l. Contains l z)
    (λ _. item_later x (filter p xs) z rest) (λ _. rest))
    (item_of x xs z h)

-- ## Lists by stamps

abbrev IsUpTo : LogEntry → LogEntry → Type 0
IsUpTo a b = a.outcome.stamp ≤ b.outcome.stamp

abbrev IsBelow : LogEntry → LogEntry → Type 0
IsBelow a b = a.outcome.stamp < b.outcome.stamp

-- an empty list rises
nothing : AllPairs IsBelow []
nothing i j d under within = absurd (let wrong : ⊥ = omega (arith, within) in wrong)

pairs_head : (R : LogEntry → LogEntry → Type 0) (x : LogEntry) (xs : List LogEntry) → AllPairs R (x ∷ xs) → All (R x) xs
pairs_head R x xs h k d within = h zero (suc k) d (omega arith) (omega (arith, within))

pairs_tail : (R : LogEntry → LogEntry → Type 0) (x : LogEntry) (xs : List LogEntry)
    → AllPairs R (x ∷ xs) → AllPairs R xs
pairs_tail R x xs h i j d under within = h (suc i) (suc j) d (omega (arith, under)) (omega (arith, within))

-- the first has the least stamp
least : (x : LogEntry) (xs : List LogEntry) → AllPairs IsUpTo (x ∷ xs) → (z : LogEntry) → Contains (x ∷ xs) z
    → x.outcome.stamp ≤ z.outcome.stamp
least x xs up z h = ⊎_elim
    (λ (same : x ≡ z). omega (arith, ap (λ (e : LogEntry). e.outcome.stamp) same))
    (λ (later : Contains xs z). All-contains (IsUpTo x) xs z (pairs_head IsUpTo x xs up) later)
    (item_of x xs z h)

abbrev HasAll : List LogEntry → List LogEntry → Type 0
HasAll xs ys = (z : LogEntry) → Contains ys z → Contains xs z

-- in a rising list the items after the first are after it
has_rest : (x y : LogEntry) (xs ys : List LogEntry) → AllPairs IsUpTo (x ∷ xs) → AllPairs IsBelow (y ∷ ys)
    → HasAll (x ∷ xs) (y ∷ ys) → HasAll xs ys
has_rest x y xs ys up rise has z h =
    let low : x.outcome.stamp ≤ y.outcome.stamp = least x xs up y (has y (item_here y ys)) in
    let high : y.outcome.stamp < z.outcome.stamp = All-contains (IsBelow y) ys z (pairs_head IsBelow y ys rise) h in
    ⊎_elim
    (λ (same : x ≡ z). absurd (omega (arith, low, high, ap (λ (e : LogEntry). e.outcome.stamp) same)))
    (λ (later : Contains xs z). later)
    (item_of x xs z (has z (item_later y ys z h)))

-- a list that has all of a list that rises is as long
fits : (xs ys : List LogEntry) → AllPairs IsUpTo xs → AllPairs IsBelow ys → HasAll xs ys → length ys ≤ length xs
fits xs [] up rise has = omega arith
fits [] (y ∷ ys) up rise has = absurd (no_item y (has y (item_here y ys)))
fits (x ∷ xs) (y ∷ ys) up rise has =
    omega (
      arith,
      fits xs ys (pairs_tail IsUpTo x xs up) (pairs_tail IsBelow y ys rise)
          (has_rest x y xs ys up rise has),
    )

-- and the same, if it is not longer
same_list : (xs ys : List LogEntry) → AllPairs IsUpTo xs → AllPairs IsBelow ys → HasAll xs ys
    → length xs ≡ length ys → xs ≡ ys
same_list [] [] up rise has long = refl
same_list [] (y ∷ ys) up rise has long = absurd (no_item y (has y (item_here y ys)))
same_list (x ∷ xs) [] up rise has long = absurd (let wrong : ⊥ = omega (arith, long) in wrong)
same_list (x ∷ xs) (y ∷ ys) up rise has long =
    let more : HasAll xs ys = has_rest x y xs ys up rise has in
    let first : x ≡ y = ⊎_elim
    (λ (same : x ≡ y). same)
    (λ (later : Contains xs y). absurd (omega (
      arith,
      long,
      fits xs (y ∷ ys) (pairs_tail IsUpTo x xs up) rise
          (λ z h. ⊎_elim (λ (same : y ≡ z). subst (λ u. Contains xs u) same later)
          (λ (after : Contains ys z). more z after) (item_of y ys z h)),
    )))
    (item_of x xs y (has y (item_here y ys))) in
    let rest : xs ≡ ys = same_list xs ys (pairs_tail IsUpTo x xs up) (pairs_tail IsBelow y ys rise)
    more (omega (arith, long)) in
    ap (λ e. e ∷ xs) first ∙ ap (λ es. y ∷ es) rest

-- ## The stamps of a log rise

module _ (line : Line) (c : ℕ) where
  above : (k : Centre) (es : List LogEntry) (last : Centre) → Replays line c k es last → (stamp : ℕ) → stamp ≤ k.clock
      → All (λ (e : LogEntry). stamp < e.outcome.stamp) es
  above k [] last r stamp low = All-nil (λ (e : LogEntry). stamp < e.outcome.stamp)
  above k (e ∷ es) last r stamp low =
      let it = stamped line c e.event k r.0 e.outcome r.2 in
      All-cons (λ (f : LogEntry). stamp < f.outcome.stamp) e es (omega (arith, low, it.above_clock))
      (above r.0 es last r.3 stamp (omega (arith, low, it.above_clock, it.clock)))

  log_rises : (k : Centre) (es : List LogEntry) (last : Centre) → Replays line c k es last → AllPairs IsBelow es
  log_rises k [] last r = nothing
  log_rises k (e ∷ es) last r =
      let it = stamped line c e.event k r.0 e.outcome r.2 in
      AllPairs-cons IsBelow e es (above r.0 es last r.3 e.outcome.stamp (omega (arith, it.clock)))
      (log_rises r.0 es last r.3)

-- ## A list in order

module _ (line : Line) (logs : ℕ → List LogEntry) (ends : ℕ → Centre) (are : AreLogs line logs ends) where
  each_rises : (c : ℕ) → AllPairs IsBelow (logs c)
  each_rises c = ⊎_elim
      (λ (t : is_centre line c ≡ true). log_rises line c (beginning line c) (logs c) (ends c) (are.replays c t))
      (λ (f : is_centre line c ≡ false). subst (λ es. AllPairs IsBelow es) (sym (are.no_other c f)) nothing)
      (cases_Bool (is_centre line c))

  pub merges : (together sorted : List LogEntry) → ((c : ℕ) → entries_of c together ≡ logs c)
      → IsPermutation together sorted → IsInOrder sorted → IsMerge logs sorted
  merges together sorted given moved up = record { each = each; in_order = up }
    where
      has_all : (c : ℕ) → HasAll (entries_of c sorted) (entries_of c together)
      has_all c z h =
          let passes : (z.centre == c) ≡ true =
          All-contains (λ (e : LogEntry). (e.centre == c) ≡ true) (entries_of c together) z
          (filter_passes (λ (e : LogEntry). e.centre == c) together) h in
          let inside : Contains together z = All-contains (Contains together) (entries_of c together) z
          (All-filter (λ (e : LogEntry). e.centre == c) (Contains together) together (All-contains_itself together))
          h in
          item_kept (λ (e : LogEntry). e.centre == c) sorted z
          (Contains-permutation together sorted z moved inside) passes

      long : (c : ℕ) → length (entries_of c sorted) ≡ length (entries_of c together)
      long c = length-filter (λ (e : LogEntry). e.centre == c) sorted
          ∙ (sum_by-IsPermutation (λ (e : LogEntry). cond (e.centre == c) 1 0) together sorted moved
          ∙ sym (length-filter (λ (e : LogEntry). e.centre == c) together))

      each : (c : ℕ) → entries_of c sorted ≡ logs c
      each c = same_list (entries_of c sorted) (entries_of c together)
          (AllPairs-filter IsUpTo (λ (e : LogEntry). e.centre == c) sorted
          (λ i j d under within. (up i j d under within).0))
          (subst (λ es. AllPairs IsBelow es) (sym (given c)) (each_rises c)) (has_all c) (long c) ∙ given c
