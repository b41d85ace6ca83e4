-- The messages that are left without an answer.
use Rattle.std.specs.Prelude.{◌+◌, ◌-◌, ◌<◌, ◌==◌, ◌^◌, ◌≡◌, Bool, count_by, List, min, slice_index, ℕ}
use Rattle.rbc_log.specs.declared.entry.Entry.{Entry}
use Rattle.rbc_spec.specs.Maps.{has}
use Rattle.text_script.specs.rbc_centre.rbc_train.Reasons.{number_of_reason}

-- the event is a message that is silent for the reason with this printed number
abbrev pub is_silent_for : ℕ → Entry → Bool
is_silent_for number e = has (λ reason. number_of_reason reason == number) e.outcome.silence

-- the count of each reason, at its printed number less 1, has grown by the silent messages among these entries
abbrev pub HasCounted : List Entry → List ℕ → List ℕ → Type 0
HasCounted entries old new =
    (k : ℕ) → k < 10
    → slice_index new k ≡ min (slice_index old k + count_by (λ e. is_silent_for (k + 1) e) entries) (2 ^ 64 - 1)
