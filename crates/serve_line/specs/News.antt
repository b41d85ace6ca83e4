-- The notable events of the page.
use Rattle.std.specs.List.{list_any}
use Rattle.std.specs.Option.{option_map_or}
use Rattle.std.specs.Prelude.{◌||◌, ◌≡◌, Bool, false, is_some, List, not, Option, option_map, slice_get, true, ℕ}
use Rattle.rbc_log.specs.declared.entry.Entry.{Entry}
use Rattle.rbc_spec.specs.Frame.{Announce, Body, Cancel, TakingOver, Yield}
use Rattle.rbc_spec.specs.Message.{Report, Request, SessionEstablished, TrainBody, TrainData}
use Rattle.rbc_spec.specs.Step.{Deliver, Event, Set, Train, Unset}
use Rattle.serve_line.specs.declared.looking.news.Told.{Told}
use Rattle.text_page.specs.declared.view.EventNow.{EventNow}
use Rattle.text_script.specs.rbc_centre.declared.sent_frame.SentFrame.{SentFrame}
use Rattle.text_script.specs.rbc_centre.Listed.{list_of}
use Rattle.text_script.specs.rbc_centre.Views.{event_of}

-- a message that a train repeats while it runs: its data, a request, a report, or the answer to a session
abbrev pub is_routine : TrainBody → Bool
is_routine (TrainData position) = true
is_routine (Request position) = true
is_routine (Report position) = true
is_routine SessionEstablished = true
is_routine body = false

-- a frame about a handover
abbrev pub is_of_handover : Body → Bool
is_of_handover (Announce number t track) = true
is_of_handover (Cancel number t) = true
is_of_handover (TakingOver number t) = true
is_of_handover (Yield number t heard has_data is_ended place hand) = true
is_of_handover body = false

abbrev pub is_sent_for_handover : SentFrame → Bool
is_sent_for_handover sent = is_of_handover sent.frame.body

-- the kind of an event is notable
abbrev pub is_notable : Event → Bool
is_notable (Set s) = true
is_notable (Unset s) = true
is_notable (Train m) = not (is_routine m.body)
is_notable (Deliver d frame) = is_of_handover frame.body

-- A silent message is notable, and so is an event that led to a frame about a handover.
abbrev pub is_news : Entry → Bool
is_news e =
    (is_some e.outcome.silence || list_any is_sent_for_handover (list_of e.outcome.frames.list))
    || is_notable (event_of e.event)

-- the time that is known of the event at place i: that of these events, or else its own
abbrev pub time_at : List Told → ℕ → Option EventNow → Option (Option ℕ)
time_at told i event = option_map (λ e. option_map_or (λ t. t.time_ms) (slice_get told i) e.time_ms) event

-- it is the same event, and a time that was known stays
pub record KeepsEvent (old new : Told) : Type 0 where
  pub centre : new.centre ≡ old.centre
  pub place : new.place ≡ old.place
  pub words : new.words ≡ old.words
  pub time : is_some old.time_ms ≡ true → new.time_ms ≡ old.time_ms
