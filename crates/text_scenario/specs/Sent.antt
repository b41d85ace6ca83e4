-- The event of a statement, and the T_TRAIN of its message.
use Rattle.std.specs.Prelude.{◌<◌, ◌≡◌, ◌≢◌, ◌⊎◌, Err, Ok, Result, ℕ}
use Rattle.rbc_msgs.specs.TrainSpelling.{SpellsTrain, train_length}
use Rattle.rbc_msgs.specs.TrainText.{TrainText}
use Rattle.rbc_world.specs.declared.event.WorldEvent.{WorldEvent}
use Rattle.rbc_world.specs.declared.event.WorldEvent.TheVariants.{Train}
use Rattle.text_scenario.specs.declared.fault.SentFault.{SentFault}
use Rattle.text_scenario.specs.declared.fault.SentFault.TheVariants.{Memory, TooLong}
use Rattle.text_scenario.specs.declared.sent.Sent.{Sent}
use Rattle.text_scenario.specs.Named.{message_named}

-- the result is the named one, unless memory ran out
abbrev pub Gives : {A : Type 0} → Result A SentFault → Result A SentFault → Type 0
Gives (Ok x) named = named ≡ Ok x
Gives (Err fault) named = fault ≢ Memory → named ≡ Err fault

-- the bytes reach the centre of the statement, and spell the message that it names
abbrev pub Sends : Sent → ℕ → WorldEvent → Type 0
Sends s t_train (Train centre bytes) =
    (centre ≡ s.centre) × ((m : TrainText) × (message_named s t_train ≡ Ok m) × SpellsTrain bytes.items m)
Sends s t_train other = ⊥

-- the statement names no message, or one that is too long
abbrev pub IsUnsent : Sent → ℕ → SentFault → Type 0
IsUnsent s t_train fault =
    fault ≢ Memory → (message_named s t_train ≡ Err fault)
    ⊎ ((fault ≡ TooLong) × ((m : TrainText) × (message_named s t_train ≡ Ok m) × (1023 < train_length m)))
