-- The trains that messages to the centres have named.
use Rattle.std.specs.List.{fold}
use Rattle.std.specs.List.Sorted.{IsNonDecreasingBy}
use Rattle.std.specs.Option.{option_map_or}
use Rattle.std.specs.Prelude.{[], ◌*◌, ◌+◌, ◌∷◌, ◌≡◌, drop, if◌then◌else◌, IsPermutation, List, map}
use Rattle.std.specs.Prelude.{nat_le, None, Option, option_and_then, slice_get, slice_set, Some, take, ℕ}
use Rattle.rbc_log.specs.declared.entry.Entry.{Entry}
use Rattle.rbc_log.specs.Log.{LogValue}
use Rattle.rbc_spec.specs.Line.{Line, train_number}
use Rattle.rbc_spec.specs.Step.{Event, Train}
use Rattle.serve_line.specs.declared.status.mention_order.Mention.{Mention}
use Rattle.text_script.specs.rbc_centre.States.{number_of}
use Rattle.text_script.specs.rbc_centre.Views.{event_of}

-- the place of a message in the order of all messages: by its stamp, and then by its centre's number
abbrev pub place_of : Mention → ℕ
place_of mention = mention.stamp * 256 + mention.centre

-- the place in the line file of the train that an event names
abbrev pub named_by : Line → Event → Option ℕ
named_by line (Train m) = train_number line m.nid_engine
named_by line event = None

abbrev pub earlier : Option Mention → Mention → Mention
earlier None next = next
earlier (Some first) next = if nat_le (place_of first) (place_of next) then first else next

-- The first message of each train, after one more event. `first` is by the trains' places in the line file.
abbrev pub named_after : Line → List (Option Mention) → Entry → List (Option Mention)
named_after line first e =
    option_map_or
    (λ t. slice_set first t (Some (earlier (option_and_then (λ m. m) (slice_get first t))
    (record { stamp = e.outcome.stamp; centre = e.centre }))))
    (named_by line (event_of e.event)) first

-- the same after the events of these entries, in order
abbrev pub named_in : Line → List (Option Mention) → List Entry → List (Option Mention)
named_in line first entries = fold (named_after line) first entries

-- the entries of a log that are read next, by the number of those that were read of each centre's log
abbrev pub new_entries : List ℕ → LogValue → List Entry
new_entries looked l =
    option_map_or (λ read. take 4096 (drop read l.entries)) (slice_get looked (number_of l.core)) []

-- the first messages of the trains that were named, each with the place of its train; the first train is at place i
abbrev pub heard_from : ℕ → List (Option Mention) → List (Mention × ℕ)
heard_from i [] = []
heard_from i (Some mention ∷ first) = (mention, i) ∷ heard_from (i + 1) first
heard_from i (None ∷ first) = heard_from (i + 1) first

-- the trains that were named, in the order of their first messages
pub record AreInOrder (first : List (Option Mention)) (trains : List ℕ) : Type 0 where
  pub heard : List (Mention × ℕ)
  pub all : IsPermutation (heard_from 0 first) heard
  pub sorted : IsNonDecreasingBy (λ item. place_of item.0) heard
  pub are : trains ≡ map (λ item. item.1) heard
