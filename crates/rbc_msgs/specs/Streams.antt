-- The consecutive messages of a train on a stream of bytes, which arrive in pieces of any size (profile).
use Rattle.std.specs.Prelude.{[], if◌then◌else◌, ◌++◌, ◌<◌, ◌∷◌, ◌≡◌, ◌≢◌, ◌≤◌, ◌⊎◌, Err, length, List, nat_lt, None}
use Rattle.std.specs.Prelude.{Ok, Option, Result, Some, take, ℕ}
use Rattle.rbc_msgs.specs.declared.fault.MsgFault.{MsgFault}
use Rattle.rbc_msgs.specs.declared.fault.MsgFault.TheVariants as message
use Rattle.rbc_msgs.specs.declared.fault.StreamFault.{StreamFault}
use Rattle.rbc_msgs.specs.declared.fault.StreamFault.TheVariants.{Failed, Message}
use Rattle.rbc_msgs.specs.Numbers.{least_train_length, train_of_number}
use Rattle.rbc_msgs.specs.Reading.{start_at}
use Rattle.rbc_msgs.specs.TrainReading.{read_train}
use Rattle.rbc_msgs.specs.TrainSpelling.{SpellsTrain}
use Rattle.rbc_msgs.specs.TrainText.{TrainText}
use Rattle.rbc_packets.specs.Steps.{◌>>=◌, refuse}

-- ## The end of a message, and the bytes that suffice to refuse it

-- L_MESSAGE of a message that begins so: its number has to be known, and L_MESSAGE as long as it needs
unfoldable pub l_message_at : List ℕ → Result ℕ MsgFault
l_message_at bytes = do
  start ← start_at bytes
  number ← train_of_number start.0
  _ ← refuse (nat_lt start.1 (least_train_length number)) message.Length
  Ok start.1

-- The number of bytes that the next decision needs: the three that hold NID_MESSAGE and L_MESSAGE, and then L_MESSAGE.
unfoldable pub needed_at : List ℕ → Result ℕ MsgFault
needed_at bytes = if nat_lt (length bytes) 3 then Ok 3 else l_message_at bytes

-- the first bytes of a message, fewer than it needs, without a fault so far
pub record IsRest (bytes : List ℕ) : Type 0 where
  pub needed : ℕ
  pub at : needed_at bytes ≡ Ok needed
  pub fewer : length bytes < needed

-- the fault is there with the message's last byte, with any bytes after it
pub record ShowsAtLast (bytes : List ℕ) (fault : MsgFault) : Type 0 where
  pub l_message : ℕ
  pub at : needed_at bytes ≡ Ok l_message
  pub whole : l_message ≤ length bytes
  pub refused : read_train (take l_message bytes) ≡ Err fault

-- The message that begins there shows this fault. An unknown number and a too small L_MESSAGE are shown by its third
-- byte, any other fault by its last.
abbrev pub ShowsFault : List ℕ → MsgFault → Type 0
ShowsFault bytes fault = (needed_at bytes ≡ Err fault) ⊎ ShowsAtLast bytes fault

-- ## Whole streams

-- the bytes are the spellings of these messages, in order, followed by the rest
abbrev pub Spell : List ℕ → List TrainText → List ℕ → Type 0
Spell bytes [] rest = bytes ≡ rest
Spell bytes (m ∷ others) rest =
    (first : List ℕ) × (later : List ℕ) × (bytes ≡ first ++ later) × SpellsTrain first m × Spell later others rest

-- `new` is `old`, followed by the messages that the bytes spell before the rest
pub record Adds (old new : List TrainText) (bytes rest : List ℕ) : Type 0 where
  pub messages : List TrainText
  pub added : new ≡ old ++ messages
  pub spelled : Spell bytes messages rest

-- messages are added; then the message that begins next shows the fault, or memory ran out there
pub record Halts (old new : List TrainText) (bytes : List ℕ) (fault : MsgFault) : Type 0 where
  pub rest : List ℕ
  pub adds : Adds old new bytes rest
  pub shows : fault ≢ message.Memory → ShowsFault rest fault

-- ## An arriving piece: the kept bytes, the piece, the messages before and after, the answer, and the bytes kept now.
-- After a fault nothing is kept.

-- the messages that are whole now are appended, and the rest of the bytes is kept
pub record Continues (before : Option (List ℕ)) (piece : List ℕ) (old new : List TrainText)
    (after : Option (List ℕ)) : Type 0 where
  pub kept : List ℕ
  pub rest : List ℕ
  pub was : before ≡ Some kept
  pub now : after ≡ Some rest
  pub adds : Adds old new (kept ++ piece) rest
  pub ends : IsRest rest

-- the messages before the fault are appended
pub record Stops (before : Option (List ℕ)) (piece : List ℕ) (old new : List TrainText) (fault : MsgFault)
    (after : Option (List ℕ)) : Type 0 where
  pub kept : List ℕ
  pub was : before ≡ Some kept
  pub now : after ≡ None
  pub halts : Halts old new (kept ++ piece) fault

-- after a fault a stream takes no further bytes
pub record HasStopped (before : Option (List ℕ)) (old new : List TrainText) (after : Option (List ℕ)) : Type 0 where
  pub was : before ≡ None
  pub now : after ≡ None
  pub same : new ≡ old

abbrev pub Fed : Option (List ℕ) → List ℕ → List TrainText → List TrainText → Result (Unit {0}) StreamFault
    → Option (List ℕ) → Type 0
Fed before piece old new (Ok _) after = Continues before piece old new after
Fed before piece old new (Err (Message fault)) after = Stops before piece old new fault after
Fed before piece old new (Err Failed) after = HasStopped before old new after

-- ## Laws

-- a list of spellings can go no further: a rest, or a fault
abbrev pub IsEnd : List ℕ → Type 0
IsEnd bytes = IsRest bytes ⊎ ((fault : MsgFault) × ShowsFault bytes fault)

-- memory did not run out
abbrev pub HadMemory : Result (Unit {0}) StreamFault → Type 0
HadMemory result = result ≢ Err (Message message.Memory)

-- the decoder of whole messages gives the fault for the shortest first part of the bytes that is not too short for it
pub record IsFirstFault (bytes : List ℕ) (fault : MsgFault) : Type 0 where
  pub count : ℕ
  pub there : count ≤ length bytes
  pub found : read_train (take count bytes) ≡ Err fault
  pub told : fault ≢ message.Short
  pub before : (k : ℕ) → k < count → read_train (take k bytes) ≡ Err message.Short
