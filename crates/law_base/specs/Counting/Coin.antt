-- An example: one coin that travels between centres, in letters that may arrive again, late or early.
use Rattle.std.specs.Prelude.{[], ◌&&◌, ◌+◌, ◌-◌, ◌<◌, ◌==◌, ◌∷◌, ◌≡◌, ◌⊎◌, Bool, false, if◌then◌else◌, List, nat_lt}
use Rattle.std.specs.Prelude.{None, Option, slice_get, Some, true, ℕ}
use Rattle.law_base.specs.Counting.Chain.{Chain}
use Rattle.law_base.specs.Counting.Network.{acted, came, Net, numbered, to_one, way}
use Rattle.law_base.specs.Counting.Resource.{OnlyHeld, OnlyOnTheWay, Resource}
use Rattle.law_base.specs.Counting.Sums.{one_if, put}

-- a centre: its coins, how many letters it wrote to each other, and how many it opened from each
pub record Purse : Type 0 where
  pub coins : ℕ
  pub wrote : ℕ → ℕ
  pub opened : ℕ → ℕ

-- a letter, perhaps with a coin inside, and the number of letters that were written to the same centre before it
pub record Letter : Type 0 where
  pub full : Bool
  pub page : ℕ

-- centre c writes to d, or loses a coin, or a letter that was ever sent from a to b arrives, by its number
pub data Event : Type 0 where
  Writes : (c d : ℕ) → Event
  Loses : (c : ℕ) → Event
  Comes : (a b number : ℕ) → Event

-- a coin is lost
abbrev pub is_loss : Event → Bool
is_loss (Loses c) = true
is_loss _ = false

-- the letter to d, with a coin inside if there is one
abbrev pub letter : ℕ → Purse → Letter
letter d x = record { full = nat_lt 0 x.coins; page = x.wrote d }

-- the purse after the letter to d is written
abbrev pub after_writing : ℕ → Purse → Purse
after_writing d x = record { coins = x.coins - 1; wrote = put x.wrote d (x.wrote d + 1); opened = x.opened }

-- the purse after a coin is lost
abbrev pub after_losing : Purse → Purse
after_losing x = record { coins = x.coins - 1; wrote = x.wrote; opened = x.opened }

-- the purse after a letter from a is opened
abbrev pub after_opening : ℕ → Letter → Purse → Purse
after_opening a f x =
    record {
      coins = x.coins + one_if f.full;
      wrote = x.wrote;
      opened = put x.opened a (x.opened a + 1);
    }

-- the purse after a letter arrives: the next is opened, and an old or early one is not
abbrev pub after_coming : Net Purse Letter → ℕ → ℕ → ℕ → Letter → Purse
after_coming w a b number f = if number == w.taken a b + 1 then after_opening a f (w.at b) else w.at b

-- only a letter that was sent arrives
abbrev pub comes : Net Purse Letter → ℕ → ℕ → ℕ → Option Letter → Net Purse Letter
comes w a b number None = w
comes w a b number (Some f) = acted (came w a b number) b (after_coming w a b number f) (λ d. [])

-- the network after an event, if the centres of the event are below n
abbrev pub happens : ℕ → Net Purse Letter → Event → Net Purse Letter
happens n w (Writes c d) =
    if nat_lt c n && nat_lt d n then acted w c (after_writing d (w.at c)) (to_one d (letter d (w.at c) ∷ [])) else w
happens n w (Loses c) = if nat_lt c n then acted w c (after_losing (w.at c)) (λ d. []) else w
happens n w (Comes a b number) =
    if nat_lt a n && nat_lt b n then comes w a b number (numbered (w.sent a b) number) else w

-- a whole schedule
abbrev pub run : ℕ → List Event → Net Purse Letter → Net Purse Letter
run n [] w = w
run n (e ∷ es) w = run n es (happens n w e)

-- centre 0 has the coin, and nothing was sent
abbrev pub start : Net Purse Letter
start =
    record {
      at = λ c. record { coins = one_if (c == 0); wrote = λ d. 0; opened = λ a. 0 };
      sent = λ a b. [];
      taken = λ a b. 0;
    }

-- coins as a resource, of which centre 0 let one be out
abbrev pub coin : Resource Purse Letter
coin = record { held = λ c x. x.coins; inside = λ a b f. one_if f.full; cap = λ c x. one_if (c == 0) }

-- the coin is in one place: only one centre has it, or it is on the way on one link
abbrev pub IsInOnePlace : ℕ → Net Purse Letter → Type 0
IsInOnePlace n w =
    ((c : ℕ) × (c < n) × OnlyHeld coin n w c) ⊎ ((a : ℕ) × (b : ℕ) × (a < n) × (b < n) × OnlyOnTheWay coin n w a b)

-- the coin is in at most one place: if a centre or a letter on the way has it, nobody else does
pub record IsInOnePlaceAtMost (n : ℕ) (w : Net Purse Letter) : Type 0 where
  pub centres : (c : ℕ) → c < n → 0 < (w.at c).coins → OnlyHeld coin n w c
  pub letters : (a b k : ℕ) (f : Letter) → a < n → b < n → slice_get (way w a b) k ≡ Some f → f.full ≡ true
      → OnlyOnTheWay coin n w a b

-- a letter is opened if as many letters were opened before it as it names
abbrev pub turn : Letter → ℕ → Option ℕ
turn f opened = if f.page == opened then Some (opened + 1) else None

-- on each link, the letters on the way lead from the count of opened letters to the count of written ones
pub record IsInTurn (w : Net Purse Letter) : Type 0 where
  pub chain : (a b : ℕ) → Chain turn (way w a b) ((w.at b).opened a) ((w.at a).wrote b)
