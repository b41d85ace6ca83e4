-- The links of a centre, by the numbers of the other centres.
use Rattle.std.specs.Prelude.{ℕ, ◌≤◌, ◌≡◌, ◌&&◌, nat_lt, Bool, true, false, List, [], length, slice_get}
use Rattle.std.specs.List.{list_any, range_with_len}
use Rattle.std.specs.Option.{option_map_or}
use Rattle.rbc_link.specs.declared.sent.Sent.{Sent}
use Rattle.rbc_link.specs.declared.link.Link.{Link}

-- there is a link with the centre
unfoldable pub has_link : {B : Type 0} → List (Link B) → ℕ → Bool
has_link links d = option_map_or (λ l. l.is_linked) (slice_get links d) false

-- how many frames of the centre were taken
unfoldable pub taken_from : {B : Type 0} → List (Link B) → ℕ → ℕ
taken_from links d = option_map_or (λ l. l.inbox) (slice_get links d) 0

-- the frames that were sent to the centre
unfoldable pub sent_to : {B : Type 0} → List (Link B) → ℕ → List (Sent B)
sent_to links d = option_map_or (λ l. l.outbox.frames) (slice_get links d) []

-- how many further frames to the centre have room
unfoldable pub room_to : {B : Type 0} → List (Link B) → ℕ → ℕ
room_to links d = option_map_or (λ l. l.outbox.room) (slice_get links d) 0

-- the links are the same but for the room, and no room is lost
pub record KeepsLinks {B : Type 0} (old new : List (Link B)) : Type 0 where
  pub count : length new ≡ length old
  pub linked : (d : ℕ) → has_link new d ≡ has_link old d
  pub taken : (d : ℕ) → taken_from new d ≡ taken_from old d
  pub sent : (d : ℕ) → sent_to new d ≡ sent_to old d
  pub room : (d : ℕ) → room_to old d ≤ room_to new d

-- each link has room for `count` further frames
abbrev pub HasRoom : {B : Type 0} → List (Link B) → ℕ → Type 0
HasRoom links count = (d : ℕ) → has_link links d ≡ true → count ≤ room_to links d

-- some link has fewer than four numbers left
abbrev pub is_some_full : {B : Type 0} → List (Link B) → Bool
is_some_full links =
    list_any (λ d. has_link links d && nat_lt 65532 (length (sent_to links d))) (range_with_len 0 (length links))

-- a step may send its frames: no link is full, and each has room for four further frames
pub record IsReady {B : Type 0} (links : List (Link B)) : Type 0 where
  pub room : HasRoom links 4
  pub numbers : is_some_full links ≡ false
