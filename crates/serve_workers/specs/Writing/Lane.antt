-- The lane of a train at a centre: the order of the centre's replies to it, and the connection that serves it. T_TRAIN
-- counts the centre's messages to the train.
use Rattle.std.specs.Prelude.{[], ◌++◌, ◌+◌, ◌<◌, ◌==◌, ◌∷◌, ◌≡◌, ◌≤◌, ◌⊎◌, Bool, Contains, false, filter}
use Rattle.std.specs.Prelude.{if◌then◌else◌, List, nat_le, nat_lt, None, Option, Some, true, ℕ}
use Rattle.serve_workers.specs.declared.writing.reply.Reply.{Reply}

-- this connection serves the train
abbrev pub is_served_by : ℕ → Option ℕ → Bool
is_served_by c None = false
is_served_by c (Some d) = d == c

-- the connection that serves the train, after this one has left
abbrev pub without : ℕ → Option ℕ → Option ℕ
without c None = None
without c (Some d) = if d == c then None else Some d

-- its turn is this one or a later one
abbrev pub is_due : ℕ → Reply → Bool
is_due next reply = nat_le next reply.message.t_train

-- ## An initiation over a connection, whose answer has this T_TRAIN

-- It changes nothing if its connection serves the train already, or the turn of its answer is over. Then a later
-- session has begun over another connection. Else its connection serves the train from its answer on.

-- the turn after it
abbrev pub turn_after : Option ℕ → ℕ → ℕ → Option ℕ → ℕ
turn_after None t next serving = next
turn_after (Some c) t next serving = if is_served_by c serving then next else if nat_lt t next then next else t

-- the connection that serves the train after it
abbrev pub serving_after : Option ℕ → ℕ → ℕ → Option ℕ → Option ℕ
serving_after None t next serving = serving
serving_after (Some c) t next serving =
    if is_served_by c serving then serving else if nat_lt t next then serving else Some c

-- the connection that ends: its own, if a later session has begun, or else the one that served the train before
abbrev pub ended_by : Option ℕ → ℕ → ℕ → Option ℕ → Option ℕ
ended_by None t next serving = None
ended_by (Some c) t next serving = if is_served_by c serving then None else if nat_lt t next then Some c else serving

-- the replies that wait after it: those of the session before are dropped
abbrev pub early_after : Option ℕ → ℕ → ℕ → Option ℕ → List Reply → List Reply
early_after None t next serving early = early
early_after (Some c) t next serving early =
    if is_served_by c serving then early else if nat_lt t next then early else filter (is_due t) early

-- ## Replies

-- the waiting replies after one was submitted at this turn: a reply whose turn is over does not wait
abbrev pub kept : ℕ → Reply → List Reply → List Reply
kept next reply early = if nat_lt reply.message.t_train next then early else early ++ reply ∷ []

-- the reply of the current turn was one of the waiting ones, and the others still wait
pub record IsTurn (next : ℕ) (reply : Reply) (early left : List Reply) : Type 0 where
  pub number : reply.message.t_train ≡ next
  pub before : List Reply
  pub after : List Reply
  pub waited : early ≡ before ++ reply ∷ after
  pub others : left ≡ before ++ after

-- ## Any sequence of calls

-- A reply is submitted, as the answer to an initiation over a connection or not, and is taken or has no room. A reply
-- is released. A connection leaves.
pub data Call : Type 0 where
  Says : (begins : Option ℕ) → (reply : Reply) → (is_taken : Bool) → Call
  LetsOut : (reply : Reply) → Call
  Leaves : (c : ℕ) → Call

-- the turn after a call
abbrev pub turn_then : Call → ℕ → Option ℕ → ℕ
turn_then (Says begins reply is_taken) next serving = turn_after begins reply.message.t_train next serving
turn_then (LetsOut reply) next serving = next + 1
turn_then (Leaves c) next serving = next

-- the connection that serves the train after a call
abbrev pub serving_then : Call → ℕ → Option ℕ → Option ℕ
serving_then (Says begins reply is_taken) next serving = serving_after begins reply.message.t_train next serving
serving_then (LetsOut reply) next serving = serving
serving_then (Leaves c) next serving = without c serving

-- the waiting replies after one was taken, or had no room
abbrev pub handed : Bool → ℕ → Reply → List Reply → List Reply
handed true next reply early = kept next reply early
handed false next reply early = early

-- the lane permits this call, and the replies in `left` wait after it
abbrev pub Waits : Call → ℕ → Option ℕ → List Reply → List Reply → Type 0
Waits (Says begins reply is_taken) next serving early left =
    left
    ≡ handed is_taken (turn_after begins reply.message.t_train next serving) reply
    (early_after begins reply.message.t_train next serving early)
Waits (LetsOut reply) next serving early left = IsTurn next reply early left
Waits (Leaves c) next serving early left = left ≡ early

-- A lane with this turn, this connection and these waiting replies permits these calls. After them its turn is `last`,
-- and the replies in `left` wait.
abbrev pub Goes : List Call → ℕ → Option ℕ → List Reply → ℕ → List Reply → Type 0
Goes [] next serving early last left = (last ≡ next) × (left ≡ early)
Goes (call ∷ calls) next serving early last left =
    (waiting : List Reply) × Waits call next serving early waiting
    × Goes calls (turn_then call next serving) (serving_then call next serving) waiting last left

-- this connection serves the train before, between and after these calls
abbrev pub Serves : ℕ → List Call → ℕ → Option ℕ → Type 0
Serves c [] next serving = serving ≡ Some c
Serves c (call ∷ calls) next serving =
    (serving ≡ Some c) × Serves c calls (turn_then call next serving) (serving_then call next serving)

-- the replies that were submitted
abbrev pub submitted : List Call → List Reply
submitted [] = []
submitted (Says begins reply is_taken ∷ calls) = reply ∷ submitted calls
submitted (LetsOut reply ∷ calls) = submitted calls
submitted (Leaves c ∷ calls) = submitted calls

-- the replies that were submitted and had room
abbrev pub taken : List Call → List Reply
taken [] = []
taken (Says begins reply true ∷ calls) = reply ∷ taken calls
taken (Says begins reply false ∷ calls) = taken calls
taken (LetsOut reply ∷ calls) = taken calls
taken (Leaves c ∷ calls) = taken calls

-- the replies that were released
abbrev pub let_out : List Call → List Reply
let_out [] = []
let_out (Says begins reply is_taken ∷ calls) = let_out calls
let_out (LetsOut reply ∷ calls) = reply ∷ let_out calls
let_out (Leaves c ∷ calls) = let_out calls

-- the replies are counted from this number, as a centre counts its messages to a train
abbrev pub IsCounted : ℕ → List Reply → Type 0
IsCounted first [] = Unit {0}
IsCounted first (reply ∷ others) = (reply.message.t_train ≡ first) × IsCounted (first + 1) others

-- the centre sent it: before this number, or among these replies
abbrev pub IsSaidBy : ℕ → List Reply → Reply → Type 0
IsSaidBy first said reply = (reply.message.t_train < first) ⊎ Contains said reply

-- each T_TRAIN is at least this one, and greater than those before it
abbrev pub Rises : ℕ → List Reply → Type 0
Rises least [] = Unit {0}
Rises least (reply ∷ later) = (least ≤ reply.message.t_train) × Rises (reply.message.t_train + 1) later
