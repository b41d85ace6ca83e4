-- The links of a centre after a change of one, and room on each.
use Rattle.std.proofs.Common.{[], if◌then◌else◌, ◌&&◌, ◌++◌, ◌+◌, ◌<◌, ◌==◌, ◌||◌, ◌∙◌, ◌∷◌, ◌≡◌, ◌≢◌, ◌≤◌, ap, arith}
use Rattle.std.proofs.Common.{Bool, false, inl, inr, le-ltb, length, List, nat_lt, refl, set, slice_get, Some, suc, sym}
use Rattle.std.proofs.Common.{true, zero, ℕ}
use Rattle.std.proofs.lemmas.Bool.{cases_lt, false≢true}
use Rattle.std.proofs.lemmas.Bool.Decides.{eqb_tells}
use Rattle.std.proofs.lemmas.List.{append-nil}
use Rattle.std.proofs.lemmas.Option.{slice_get_past}
use Rattle.std.proofs.Math.ListN.{length-set}
use Rattle.std.specs.List.{list_any, range_with_len}
use Rattle.std.specs.Option.{option_map_or}
use Rattle.rbc_link.specs.declared.link.Link.{Link}
use Rattle.rbc_link.specs.Links.{has_link, HasRoom, is_some_full, IsReady, KeepsLinks, room_to, sent_to, taken_from}
use Rattle.rbc_link.specs.Outgoing.{frames_by}
use Rattle.rbc_spec.specs.Frame.{Body}
use Rattle.rbc_spec.specs.Maps.{put}
use Rattle.rbc_spec.specs.Step.{numbered}

-- # The links of a centre, after the link with one centre has changed.

-- ## One item of a list is another

pub get-set_same : {X : Type 0} (xs : List X) (i : ℕ) (x : X) → i < length xs → slice_get (set xs i x) i ≡ Some x
get-set_same [] i x h = absurd (let no : ⊥ = omega arith in no)
get-set_same (y ∷ ys) zero x h = refl
get-set_same (y ∷ ys) (suc i) x h = get-set_same ys i x (omega arith)

get-set_other : {X : Type 0} (xs : List X) (i j : ℕ) (x : X) → j ≢ i → slice_get (set xs i x) j ≡ slice_get xs j
get-set_other [] i j x h = refl
get-set_other (y ∷ ys) zero zero x h = absurd (h refl)
get-set_other (y ∷ ys) zero (suc j) x h = refl
get-set_other (y ∷ ys) (suc i) zero x h = refl
get-set_other (y ∷ ys) (suc i) (suc j) x h = get-set_other ys i j x (λ e. h (ap suc e))

-- a part of each item; the given value without an item
abbrev part_at : {X Y : Type 0} → (X → Y) → Y → List X → ℕ → Y
part_at part none xs d = option_map_or part (slice_get xs d) none

pub part_put : {X Y : Type 0} (part : X → Y) (none : Y) (xs : List X) (i : ℕ) (x : X) → i < length xs → (d : ℕ)
    → option_map_or part (slice_get (set xs i x) d) none
    ≡ put (λ k. option_map_or part (slice_get xs k) none) i (part x) d
part_put part none xs i x within d =
    elim (eqb_tells d i) as (λ _. part_at part none (set xs i x) d ≡ put (part_at part none xs) i (part x) d) [
      | inl e ↦ rw (e.0, e.1) (ap (λ o. option_map_or part o none) (get-set_same xs i x within))
      | inr e ↦ rw (e.0) (ap (λ o. option_map_or part o none) (get-set_other xs i d x e.1))
    ]

-- a part that stays as it was
pub part_same : {X Y : Type 0} (part : X → Y) (none : Y) (xs : List X) (i : ℕ) (old x : X) → i < length xs
    → slice_get xs i ≡ Some old → part x ≡ part old → (d : ℕ)
    → option_map_or part (slice_get (set xs i x) d) none ≡ option_map_or part (slice_get xs d) none
part_same part none xs i old x within at same d =
    elim (eqb_tells d i) as (λ _. part_at part none (set xs i x) d ≡ part_at part none xs d) [
      | inl e ↦ rw (e.1) (ap (λ o. option_map_or part o none) (get-set_same xs i x within) ∙ same
          ∙ ap (λ o. option_map_or part o none) (sym at))
      | inr e ↦ ap (λ o. option_map_or part o none) (get-set_other xs i d x e.1)
    ]

-- ## The links

pub linked_within : {B : Type 0} (links : List (Link B)) (i : ℕ) → has_link links i ≡ true → i < length links
unfolding has_link
linked_within links i is =
    elim (cases_lt i (length links)) [
      | inl within ↦ within
      | inr past ↦
          absurd (false≢true (ap (λ o. option_map_or (λ (l : Link _). l.is_linked) o false)
          (sym (slice_get_past links i past)) ∙ is))
    ]

module _ {B : Type 0} (links : List (Link B)) (i : ℕ) (old new : Link B) (within : i < length links)
    (at : slice_get links i ≡ Some old) where
  pub linked_is : has_link links i ≡ old.is_linked
  unfolding has_link
  linked_is = ap (λ o. option_map_or (λ (l : Link B). l.is_linked) o false) at

  pub taken_is : taken_from links i ≡ old.inbox
  unfolding taken_from
  taken_is = ap (λ o. option_map_or (λ (l : Link B). l.inbox) o 0) at

  pub sent_is : sent_to links i ≡ old.outbox.frames
  unfolding sent_to
  sent_is = ap (λ o. option_map_or (λ (l : Link B). l.outbox.frames) o []) at

  pub room_is : room_to links i ≡ old.outbox.room
  unfolding room_to
  room_is = ap (λ o. option_map_or (λ (l : Link B). l.outbox.room) o 0) at

  pub linked_same : new.is_linked ≡ old.is_linked → (d : ℕ) → has_link (set links i new) d ≡ has_link links d
  unfolding has_link
  linked_same same = part_same (λ l. l.is_linked) false links i old new within at same

  pub taken_same : new.inbox ≡ old.inbox → (d : ℕ) → taken_from (set links i new) d ≡ taken_from links d
  unfolding taken_from
  taken_same same = part_same (λ l. l.inbox) 0 links i old new within at same

  pub taken_put : (n : ℕ) → new.inbox ≡ n → (d : ℕ) → taken_from (set links i new) d ≡ put (taken_from links) i n d
  unfolding taken_from
  taken_put n is d = part_put (λ l. l.inbox) 0 links i new within d
      ∙ ap (λ m. put (λ k. option_map_or (λ (l : Link B). l.inbox) (slice_get links k) 0) i m d) is

  pub sent_same : new.outbox.frames ≡ old.outbox.frames → (d : ℕ) → sent_to (set links i new) d ≡ sent_to links d
  unfolding sent_to
  sent_same same = part_same (λ l. l.outbox.frames) [] links i old new within at same

  pub sent_put : (d : ℕ) → sent_to (set links i new) d ≡ put (sent_to links) i new.outbox.frames d
  unfolding sent_to
  sent_put = part_put (λ l. l.outbox.frames) [] links i new within

  pub room_same : new.outbox.room ≡ old.outbox.room → (d : ℕ) → room_to (set links i new) d ≡ room_to links d
  unfolding room_to
  room_same same = part_same (λ l. l.outbox.room) 0 links i old new within at same

  pub room_put : (d : ℕ) → room_to (set links i new) d ≡ put (room_to links) i new.outbox.room d
  unfolding room_to
  room_put = part_put (λ l. l.outbox.room) 0 links i new within

  -- one frame less has room
  pub room_less : new.outbox.room + 1 ≡ old.outbox.room → (d : ℕ)
      → room_to links d ≡ room_to (set links i new) d + (if d == i then 1 else 0)
  room_less less d =
      elim (eqb_tells d i) as (λ _. room_to links d ≡ room_to (set links i new) d + (if d == i then 1 else 0)) [
        | inl e ↦ let after : room_to (set links i new) d ≡ new.outbox.room = room_put d ∙ rw (e.0) refl in
            let before : room_to links d ≡ old.outbox.room = ap (room_to links) e.1 ∙ room_is in
            rw (e.0) (omega (arith, after, before, less))
        | inr e ↦ let after : room_to (set links i new) d ≡ room_to links d = room_put d ∙ rw (e.0) refl in
            rw (e.0) (omega (arith, after))
      ]

  -- the frames sent to each centre grow by the frame, if it is to that centre
  pub sent_more : (meaning : B → Body) (stamp : ℕ) (body : B)
      → frames_by meaning new.outbox.frames ≡ frames_by meaning old.outbox.frames
      ++ numbered stamp (length old.outbox.frames) (meaning body ∷ [])
      → (d : ℕ) → frames_by meaning (sent_to (set links i new) d) ≡ frames_by meaning (sent_to links d)
      ++ numbered stamp (length (sent_to links d)) (if d == i then meaning body ∷ [] else [])
  sent_more meaning stamp body more d =
      elim (eqb_tells d i) as (λ _. frames_by meaning (sent_to (set links i new) d)
      ≡ frames_by meaning (sent_to links d) ++ numbered stamp (length (sent_to links d))
      (if d == i then meaning body ∷ [] else [])) [
        | inl e ↦ let after : sent_to (set links i new) d ≡ new.outbox.frames = sent_put d ∙ rw (e.0) refl in
            let before : sent_to links d ≡ old.outbox.frames = ap (sent_to links) e.1 ∙ sent_is in
            rw (e.0, after, before) more
        | inr e ↦ let after : sent_to (set links i new) d ≡ sent_to links d = sent_put d ∙ rw (e.0) refl in
            rw (e.0, after) (sym (append-nil (frames_by meaning (sent_to links d))))
      ]

-- # Links that are ready for a step stay so, if one of them changes.

or_left : (a b : Bool) → a || b ≡ false → a ≡ false
or_left false b none = refl
or_left true b none = none

or_right : (a b : Bool) → a || b ≡ false → b ≡ false
or_right false b none = none
or_right true b none = absurd (false≢true (sym none))

none_of : {X : Type 0} (p q : X → Bool) (xs : List X) → ((x : X) → p x ≡ false → q x ≡ false)
    → list_any p xs ≡ false → list_any q xs ≡ false
none_of p q [] kept none = refl
none_of p q (x ∷ xs) kept none =
    rw (kept x (or_left (p x) (list_any p xs) none), none_of p q xs kept (or_right (p x) (list_any p xs) none)) refl

and_false : (b : Bool) → b && false ≡ false
and_false true = refl
and_false false = refl

-- a link is full
abbrev is_full_to : {B : Type 0} → List (Link B) → ℕ → Bool
is_full_to links d = has_link links d && nat_lt 65532 (length (sent_to links d))

module _ {B : Type 0} (links : List (Link B)) (i : ℕ) (old new : Link B) (within : i < length links)
    (at : slice_get links i ≡ Some old)
    (linked : new.is_linked ≡ old.is_linked) where
  -- if no link was full, none is, if that holds of each
  none_full : ((d : ℕ) → is_full_to links d ≡ false → is_full_to (set links i new) d ≡ false)
      → is_some_full links ≡ false → is_some_full (set links i new) ≡ false
  none_full kept none =
      ap (λ n. list_any (is_full_to (set links i new)) (range_with_len 0 n)) (length-set links i new)
      ∙ none_of (is_full_to links) (is_full_to (set links i new)) (range_with_len 0 (length links)) kept none

  -- the item at the position of the changed link
  pub is_new : (x : Link B) → slice_get (set links i new) i ≡ Some x → x ≡ new
  is_new x read = ap (λ o. option_map_or (λ y. y) o x) (sym read ∙ get-set_same links i new within)

  -- the outbox is the same
  pub ready_same : new.outbox ≡ old.outbox → IsReady links → IsReady (set links i new)
  ready_same same ready = record {
    room = λ d is. rw (room_same links i old new within at (ap (λ o. o.room) same) d)
        (ready.room d (sym (linked_same links i old new within at linked d) ∙ is));
    numbers =
        none_full
        (λ d none.
        rw (
          linked_same links i old new within at linked d,
          sent_same links i old new within at (ap (λ o. o.frames) same) d,
        ) none) ready.numbers;
  }

  -- the outbox has room and numbers still
  pub ready_still : 4 ≤ new.outbox.room → length new.outbox.frames ≤ 65532 → IsReady links → IsReady (set links i new)
  ready_still rooms numbers ready = record {
    room = λ d is. elim (eqb_tells d i) as (λ _. 4 ≤ room_to (set links i new) d) [
      | inl e ↦ let now : room_to (set links i new) d ≡ new.outbox.room =
          room_put links i old new within at d ∙ rw (e.0) refl in
          omega (arith, now, rooms)
      | inr e ↦ let now : room_to (set links i new) d ≡ room_to links d =
          room_put links i old new within at d ∙ rw (e.0) refl in
          let had : 4 ≤ room_to links d = ready.room d (sym (linked_same links i old new within at linked d) ∙ is) in
          omega (arith, now, had)
    ];
    numbers = none_full (λ d none. elim (eqb_tells d i) as (λ _. is_full_to (set links i new) d ≡ false) [
      | inl e ↦ let now : sent_to (set links i new) d ≡ new.outbox.frames =
          sent_put links i old new within at d ∙ rw (e.0) refl in
          rw (now, le-ltb 65532 (length new.outbox.frames) numbers) (and_false (has_link (set links i new) d))
      | inr e ↦ let now : sent_to (set links i new) d ≡ sent_to links d =
          sent_put links i old new within at d ∙ rw (e.0) refl in
          rw (linked_same links i old new within at linked d, now) none
    ]) ready.numbers;
  }

-- # Room is made on each link of a centre, in order.

module _ {B : Type 0} (old now : List (Link B)) (i : ℕ) (before after : Link B) (within : i < length now)
    (at : slice_get now i ≡ Some before)
    (changed : after ≡ record before { outbox = record before.outbox { room = after.outbox.room } })
    (grown : before.outbox.room ≤ after.outbox.room) where
  room_after : (d : ℕ) → room_to now d ≤ room_to (set now i after) d
  room_after d =
      elim (eqb_tells d i) as (λ _. room_to now d ≤ room_to (set now i after) d) [
        | inl e ↦ let new : room_to (set now i after) d ≡ after.outbox.room =
            room_put now i before after within at d ∙ rw (e.0) refl in
            let was : room_to now d ≡ before.outbox.room = ap (room_to now) e.1
            ∙ room_is now i before after within at in
            omega (arith, new, was, grown)
        | inr e ↦ let same : room_to (set now i after) d ≡ room_to now d =
            room_put now i before after within at d ∙ rw (e.0) refl in
            omega (arith, same)
      ]

  pub keeps_more : KeepsLinks old now → KeepsLinks old (set now i after)
  keeps_more keeps = record {
    count = length-set now i after ∙ keeps.count;
    linked = λ d. linked_same now i before after within at (ap (λ (l : Link B). l.is_linked) changed) d
        ∙ keeps.linked d;
    taken = λ d. taken_same now i before after within at (ap (λ (l : Link B). l.inbox) changed) d ∙ keeps.taken d;
    sent = λ d. sent_same now i before after within at (ap (λ (l : Link B). l.outbox.frames) changed) d ∙ keeps.sent d;
    room = λ d. omega (arith, keeps.room d, room_after d);
  }

  pub rooms_more : (count : ℕ) → (before.is_linked ≡ true → count ≤ after.outbox.room)
      → ((d : ℕ) → d < i → has_link now d ≡ true → count ≤ room_to now d)
      → (d : ℕ) → d < i + 1 → has_link (set now i after) d ≡ true → count ≤ room_to (set now i after) d
  rooms_more count here earlier d low linked =
      let was : has_link now d ≡ true =
      sym (linked_same now i before after within at (ap (λ (l : Link B). l.is_linked) changed) d) ∙ linked in
      elim (eqb_tells d i) as (λ _. count ≤ room_to (set now i after) d) [
        | inl e ↦ let new : room_to (set now i after) d ≡ after.outbox.room =
            room_put now i before after within at d ∙ rw (e.0) refl in
            let is : before.is_linked ≡ true = sym (linked_is now i before after within at)
            ∙ ap (has_link now) (sym e.1) ∙ was in
            let room : count ≤ after.outbox.room = here is in
            omega (arith, new, room)
        | inr e ↦ elim (cases_lt d i) [
          | inl less ↦ let had : count ≤ room_to now d = earlier d less was in omega (arith, had, room_after d)
          | inr more ↦ absurd (e.1 (omega arith))
        ]
      ]

  -- a link that had the room at first has it still
  pub had_room : (count : ℕ) → KeepsLinks old now → HasRoom old count → before.is_linked ≡ true
      → count ≤ before.outbox.room
  had_room count keeps has is =
      let linked : has_link old i ≡ true = sym (keeps.linked i) ∙ linked_is now i before after within at ∙ is in
      let first : count ≤ room_to old i = has i linked in
      let was : room_to now i ≡ before.outbox.room = room_is now i before after within at in
      omega (arith, first, was, keeps.room i)

pub all_rooms : {B : Type 0} (now : List (Link B)) (count n : ℕ) → length now ≤ n
    → ((d : ℕ) → d < n → has_link now d ≡ true → count ≤ room_to now d) → HasRoom now count
all_rooms now count n all rooms d linked = let within : d < length now = linked_within now d linked in
    rooms d (omega (arith, within, all)) linked
