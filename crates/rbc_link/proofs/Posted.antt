-- The links of a centre at the beginning, full links, and frames that are posted in one step.
use Rattle.std.proofs.Common.{[], if◌then◌else◌, ◌&&◌, ◌++◌, ◌+◌, ◌<◌, ◌==◌, ◌||◌, ◌∙◌, ◌∷◌, ◌≡◌, ◌≢◌, ◌≤◌, ap}
use Rattle.std.proofs.Common.{append_assoc, arith, Bool, false, inl, inr, le-ltb, length, length-append, List, lt-ltb}
use Rattle.std.proofs.Common.{nat_lt, None, Option, refl, slice_get, Some, suc, sym, true, zero, ℕ}
use Rattle.std.proofs.lemmas.Bool.{cases_lt}
use Rattle.std.proofs.lemmas.Bool.Decides.{eqb_tells}
use Rattle.std.proofs.lemmas.List.{append-nil, length-map}
use Rattle.std.proofs.lemmas.Option.{slice_get_past}
use Rattle.std.specs.List.{list_any, range_with_len}
use Rattle.std.specs.Option.{option_map_or}
use Rattle.rbc_link.specs.declared.link.Link.{Link}
use Rattle.rbc_link.specs.Links.{has_link, room_to, sent_to, taken_from}
use Rattle.rbc_link.specs.Outgoing.{frame_by, frames_by}
use Rattle.rbc_link.specs.Posted.{HasPosted}
use Rattle.rbc_spec.specs.Centre.{Centre}
use Rattle.rbc_spec.specs.Frame.{Body}
use Rattle.rbc_spec.specs.Line.{is_centre, is_linked, Line}
use Rattle.rbc_spec.specs.Maps.{put}
use Rattle.rbc_spec.specs.Step.{has_full_link, numbered}

-- # The links of a centre at the beginning, made in order.

get_last : {X : Type 0} (xs : List X) (x : X) → slice_get (xs ++ x ∷ []) (length xs) ≡ Some x
get_last [] x = refl
get_last (y ∷ ys) x = get_last ys x

get_other : {X : Type 0} (xs : List X) (x : X) (d : ℕ) → d ≢ length xs → slice_get (xs ++ x ∷ []) d ≡ slice_get xs d
get_other [] x zero h = absurd (h refl)
get_other [] x (suc d) h = refl
get_other (y ∷ ys) x zero h = refl
get_other (y ∷ ys) x (suc d) h = get_other ys x d (λ e. h (ap suc e))

-- a part of each item, after one more
part_more : {X Y : Type 0} (part : X → Y) (none : Y) (xs : List X) (x : X) (d : ℕ)
    → option_map_or part (slice_get (xs ++ x ∷ []) d) none
    ≡ put (λ k. option_map_or part (slice_get xs k) none) (length xs) (part x) d
part_more part none xs x d =
    elim (eqb_tells d (length xs)) as (λ _. option_map_or part (slice_get (xs ++ x ∷ []) d) none
    ≡ put (λ k. option_map_or part (slice_get xs k) none) (length xs) (part x) d) [
      | inl e ↦ rw (e.0, e.1) (ap (λ o. option_map_or part o none) (get_last xs x))
      | inr e ↦ rw (e.0) (ap (λ o. option_map_or part o none) (get_other xs x d e.1))
    ]

-- the links with the first centres, on which nothing was taken or sent
pub record HasLinks {B : Type 0} (line : Line) (c n : ℕ) (links : List (Link B)) : Type 0 where
  pub count : length links ≡ n
  pub linked : (d : ℕ) → d < n → has_link links d ≡ is_linked line c d
  pub taken : (d : ℕ) → taken_from links d ≡ 0
  pub sent : (d : ℕ) → sent_to links d ≡ []

module _ {B : Type 0} (links : List (Link B)) (link : Link B) where
  linked_more : (d : ℕ) → has_link (links ++ link ∷ []) d ≡ put (has_link links) (length links) link.is_linked d
  unfolding has_link
  linked_more = part_more (λ l. l.is_linked) false links link

  taken_more : (d : ℕ) → taken_from (links ++ link ∷ []) d ≡ put (taken_from links) (length links) link.inbox d
  unfolding taken_from
  taken_more = part_more (λ l. l.inbox) 0 links link

  sent_more : (d : ℕ) → sent_to (links ++ link ∷ []) d ≡ put (sent_to links) (length links) link.outbox.frames d
  unfolding sent_to
  sent_more = part_more (λ l. l.outbox.frames) [] links link

put_is : {X : Type 0} (f : ℕ → X) (i : ℕ) (x y : X) (d : ℕ) → x ≡ y → f d ≡ y → put f i x d ≡ y
put_is f i x y d new old = elim (eqb_tells d i) as (λ _. put f i x d ≡ y) [
  | inl e ↦ rw (e.0) new
  | inr e ↦ rw (e.0) old
]

pub HasLinks-more : {B : Type 0} (line : Line) (c n : ℕ) (links more : List (Link B)) (link : Link B)
    → more ≡ links ++ link ∷ []
    → link.is_linked ≡ is_linked line c n → link.inbox ≡ 0 → link.outbox.frames ≡ [] → HasLinks line c n links
    → HasLinks line c (n + 1) more
HasLinks-more line c n links more link pushed linked taken sent so_far = record {
  count = rw pushed (simp (length-append) (omega (arith, so_far.count)));
  linked = λ d within. rw pushed (linked_more links link d
      ∙ (elim (eqb_tells d (length links)) as (λ _. put (has_link links) (length links) link.is_linked d
      ≡ is_linked line c d) [
        | inl e ↦ let is_n : d ≡ n = e.1 ∙ so_far.count in rw (e.0) (linked ∙ ap (is_linked line c) (sym is_n))
        | inr e ↦ rw (e.0) (elim (cases_lt d n) [
          | inl before ↦ so_far.linked d before
          | inr past ↦ absurd (e.1 (omega (arith, so_far.count)))
        ])
      ]));
  taken = λ d. rw pushed (taken_more links link d
      ∙ put_is (taken_from links) (length links) link.inbox 0 d taken (so_far.taken d));
  sent = λ d. rw pushed (sent_more links link d
      ∙ put_is (sent_to links) (length links) link.outbox.frames [] d sent (so_far.sent d));
}

no_and : (a x : Bool) → (a && false) && x ≡ false
no_and true x = refl
no_and false x = refl

past_none : {B : Type 0} (links : List (Link B)) (d : ℕ) → length links ≤ d → has_link links d ≡ false
unfolding has_link
past_none links d past = ap (λ o. option_map_or (λ (l : Link _). l.is_linked) o false) (slice_get_past links d past)

taken_past : {B : Type 0} (links : List (Link B)) (d : ℕ) → length links ≤ d → taken_from links d ≡ 0
unfolding taken_from
taken_past links d past = ap (λ o. option_map_or (λ (l : Link _). l.inbox) o 0) (slice_get_past links d past)

sent_past : {B : Type 0} (links : List (Link B)) (d : ℕ) → length links ≤ d → sent_to links d ≡ []
unfolding sent_to
sent_past links d past = ap (λ o. option_map_or (λ (l : Link _). l.outbox.frames) o []) (slice_get_past links d past)

-- a number past the last centre is linked with none
pub all_linked : {B : Type 0} (line : Line) (c n : ℕ) (links : List (Link B)) → n ≡ length line.centres
    → HasLinks line c n links → (d : ℕ) → has_link links d ≡ is_linked line c d
all_linked line c n links all whole d =
    elim (cases_lt d n) [
      | inl within ↦ whole.linked d within
      | inr past ↦
          let none : is_centre line d ≡ false = le-ltb d (length line.centres) (omega (arith, all)) in
          past_none links d (omega (arith, whole.count)) ∙ sym (rw none (no_and (is_centre line c) _))
    ]

pub none_linked : {B : Type 0} (line : Line) (c : ℕ) (links : List (Link B)) → links ≡ [] → HasLinks line c 0 links
none_linked {B} line c links empty = record {
  count = rw empty refl;
  linked = λ d within. absurd (let no : ⊥ = omega arith in no);
  taken = λ d. taken_past links d (rw empty (omega arith));
  sent = λ d. sent_past links d (rw empty (omega arith));
}

-- # Whether some link is full: by the links in memory, and by the numbers of centres.

any_same : {X : Type 0} (p q : X → Bool) (xs : List X) → ((x : X) → p x ≡ q x) → list_any p xs ≡ list_any q xs
any_same p q [] same = refl
any_same p q (x ∷ xs) same = rw (same x, any_same p q xs same) refl

get_after : {X : Type 0} (front xs : List X) (x : X) → slice_get (front ++ x ∷ xs) (length front) ≡ Some x
get_after [] xs x = refl
get_after (y ∷ front) xs x = get_after front xs x

-- the test of some item is that of the item at some place
any_at : {X : Type 0} (test : X → Bool) (front xs : List X) (n : ℕ) → n ≡ length front
    → list_any test xs ≡ list_any (λ d. option_map_or test (slice_get (front ++ xs) d) false)
    (range_with_len n (length xs))
any_at test front [] n at = refl
any_at test front (x ∷ xs) n at =
    let here : slice_get (front ++ x ∷ xs) n ≡ Some x = ap (slice_get (front ++ x ∷ xs)) at ∙ get_after front xs x in
    let next : n + 1 ≡ length (front ++ x ∷ []) = simp (length-append) (omega (arith, at)) in
    let rest = any_at test (front ++ x ∷ []) xs (n + 1) next in
    let joined : (front ++ x ∷ []) ++ xs ≡ front ++ x ∷ xs = append_assoc front (x ∷ []) xs in
    rw (here)
    (ap (λ b. test x || b) (rest
    ∙ ap (λ ys. list_any (λ d. option_map_or test (slice_get ys d) false) (range_with_len (n + 1) (length xs)))
    joined))

four_left : (n : ℕ) → nat_lt 65536 (n + 4) ≡ nat_lt 65532 n
four_left n =
    elim (cases_lt 65532 n) [
      | inl more ↦ lt-ltb 65536 (n + 4) (omega arith) ∙ sym (lt-ltb 65532 n more)
      | inr less ↦ le-ltb 65536 (n + 4) (omega arith) ∙ sym (le-ltb 65532 n less)
    ]

full_at : {B : Type 0} (links : List (Link B)) (d : ℕ)
    → option_map_or (λ l. l.is_linked && nat_lt 65536 (length l.outbox.frames + 4)) (slice_get links d) false
    ≡ has_link links d && nat_lt 65532 (length (sent_to links d))
unfolding has_link sent_to
full_at {B} links d = by_link (slice_get links d)
  where
    by_link : (o : Option (Link B))
        → option_map_or (λ l. l.is_linked && nat_lt 65536 (length l.outbox.frames + 4)) o false
        ≡ option_map_or (λ l. l.is_linked) o false && nat_lt 65532 (length (option_map_or (λ l. l.outbox.frames) o []))
    by_link None = refl
    by_link (Some l) = ap (λ b. l.is_linked && b) (four_left (length l.outbox.frames))

pub is_full_at : {B : Type 0} (links : List (Link B))
    → list_any (λ (l : Link B). l.is_linked && nat_lt 65536 (length l.outbox.frames + 4)) links
    ≡ list_any (λ d. has_link links d && nat_lt 65532 (length (sent_to links d))) (range_with_len 0 (length links))
is_full_at {B} links = any_at (λ (l : Link B). l.is_linked && nat_lt 65536 (length l.outbox.frames + 4)) [] links 0 refl
    ∙ any_same (λ d. option_map_or (λ (l : Link B). l.is_linked && nat_lt 65536 (length l.outbox.frames + 4))
    (slice_get links d) false) _ (range_with_len 0 (length links)) (full_at links)

-- if the links are those of a state, this is the rule's test whether some link is full
pub is_full_link : {B : Type 0} (meaning : B → Body) (line : Line) (c : ℕ) (k : Centre) (links : List (Link B))
    → length links ≡ length line.centres
    → ((d : ℕ) → has_link links d ≡ is_linked line c d) → ((d : ℕ) → k.sent d ≡ frames_by meaning (sent_to links d))
    → list_any (λ d. has_link links d && nat_lt 65532 (length (sent_to links d))) (range_with_len 0 (length links))
    ≡ has_full_link line c k
is_full_link meaning line c k links count linked sent =
    any_same _ (λ d. is_linked line c d && nat_lt 65532 (length (k.sent d))) (range_with_len 0 (length links)) (λ d.
    let same : length (sent_to links d) ≡ length (k.sent d) = sym (length-map (sent_to links d) (frame_by meaning))
    ∙ ap length (sym (sent d)) in
    rw (linked d) (ap (λ n. is_linked line c d && nat_lt 65532 n) same))
    ∙ ap (λ n. list_any (λ d. is_linked line c d && nat_lt 65532 (length (k.sent d))) (range_with_len 0 n)) count

-- # Laws of frames that are sent in order in one step.

pub length_numbered : (stamp n : ℕ) (bodies : List Body) → length (numbered stamp n bodies) ≡ length bodies
length_numbered stamp n [] = refl
length_numbered stamp n (b ∷ bs) = ap suc (length_numbered stamp (n + 1) bs)

-- in a joined list of bodies the second list is numbered after the first
pub numbered_append : (stamp n : ℕ) (xs ys : List Body) → numbered stamp n (xs ++ ys) ≡ numbered stamp n xs
    ++ numbered stamp (n + length xs) ys
numbered_append stamp n [] ys = ap (λ m. numbered stamp m ys) (let e : n ≡ n + 0 = omega arith in e)
numbered_append stamp n (x ∷ xs) ys =
    let later : (n + 1) + length xs ≡ n + suc (length xs) = omega arith in
    ap (λ fs. record { number = n + 1; stamp = stamp; body = x } ∷ fs) (numbered_append stamp (n + 1) xs ys
    ∙ ap (λ m. numbered stamp (n + 1) xs ++ numbered stamp m ys) later)

module _ {B : Type 0} (meaning : B → Body) (stamp : ℕ) where
  -- nothing is posted
  pub posted_none : (links : List (Link B)) → HasPosted meaning stamp (λ d. []) links links
  posted_none links = record {
    count = refl;
    linked = λ d. refl;
    taken = λ d. refl;
    sent = λ d. sym (append-nil (frames_by meaning (sent_to links d)));
    room = λ d. omega arith;
  }

  -- one frame, by the clauses of sending it
  pub posted_one : (to : ℕ) (body : B) (old new : List (Link B)) → length new ≡ length old
      → ((d : ℕ) → has_link new d ≡ has_link old d)
      → ((d : ℕ) → taken_from new d ≡ taken_from old d)
      → ((d : ℕ) → frames_by meaning (sent_to new d)
      ≡ frames_by meaning (sent_to old d) ++ numbered stamp (length (sent_to old d))
      (if d == to then meaning body ∷ [] else []))
      → ((d : ℕ) → room_to old d ≡ room_to new d + (if d == to then 1 else 0))
      → HasPosted meaning stamp (λ d. if d == to then meaning body ∷ [] else []) old new
  posted_one to body old new count linked taken sent room = record {
    count = count;
    linked = linked;
    taken = taken;
    sent = sent;
    room = λ d. elim (eqb_tells d to) as (λ _. room_to old d ≡ room_to new d
        + length (if d == to then meaning body ∷ [] else [])) [
          | inl e ↦ let one : room_to old d ≡ room_to new d + 1 = room d ∙ rw (e.0) refl in rw (e.0) one
          | inr e ↦ let none : room_to old d ≡ room_to new d + 0 = room d ∙ rw (e.0) refl in rw (e.0) none
        ];
  }

  -- how many frames were sent to each centre then
  pub posted_count : (xs : ℕ → List Body) (old new : List (Link B)) → HasPosted meaning stamp xs old new
      → (d : ℕ) → length (sent_to new d) ≡ length (sent_to old d) + length (xs d)
  posted_count xs old new posted d =
      let after : length (frames_by meaning (sent_to new d)) ≡ length (sent_to new d) =
      length-map (sent_to new d) (frame_by meaning) in
      let before : length (frames_by meaning (sent_to old d)) ≡ length (sent_to old d) =
      length-map (sent_to old d) (frame_by meaning) in
      let more : length (numbered stamp (length (sent_to old d)) (xs d)) ≡ length (xs d) =
      length_numbered stamp (length (sent_to old d)) (xs d) in
      let all : length (frames_by meaning (sent_to new d))
      ≡ length (frames_by meaning (sent_to old d)) + length (numbered stamp (length (sent_to old d)) (xs d))
      = ap length (posted.sent d) ∙ length-append (frames_by meaning (sent_to old d))
      (numbered stamp (length (sent_to old d)) (xs d)) in
      omega (arith, after, before, more, all)

  -- some frames, and then others
  pub posted_join : (xs ys : ℕ → List Body) (old mid new : List (Link B)) → HasPosted meaning stamp xs old mid
      → HasPosted meaning stamp ys mid new
      → HasPosted meaning stamp (λ d. xs d ++ ys d) old new
  posted_join xs ys old mid new first second = record {
    count = second.count ∙ first.count;
    linked = λ d. second.linked d ∙ first.linked d;
    taken = λ d. second.taken d ∙ first.taken d;
    sent = λ d.
        let front = frames_by meaning (sent_to old d) in
        let here = numbered stamp (length (sent_to old d)) (xs d) in
        let later = numbered stamp (length (sent_to old d) + length (xs d)) (ys d) in
        let from : frames_by meaning (sent_to new d) ≡ frames_by meaning (sent_to mid d) ++ later
        = second.sent d ∙ ap (λ n. frames_by meaning (sent_to mid d) ++ numbered stamp n (ys d))
        (posted_count xs old mid first d) in
        from ∙ ap (λ fs. fs ++ later) (first.sent d) ∙ append_assoc front here later
        ∙ ap (λ fs. front ++ fs) (sym (numbered_append stamp (length (sent_to old d)) (xs d) (ys d)));
    room = λ d. let sum : length (xs d ++ ys d) ≡ length (xs d) + length (ys d) = length-append (xs d) (ys d) in
        omega (arith, first.room d, second.room d, sum);
  }
