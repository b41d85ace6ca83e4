-- The facts of a centre's log that notes report.
use Rattle.std.specs.List.{flat_map}
use Rattle.std.specs.Option.{option_map_or}
use Rattle.std.specs.Prelude.{[], ◌++◌, ◌∷◌, ◌≡◌, Bool, codes}
use Rattle.std.specs.Prelude.{false, if◌then◌else◌, is_none, List, None, Option, option_map}
use Rattle.std.specs.Prelude.{Some, true, ℕ}
use Rattle.rbc_log.specs.declared.entry.Entry.{Entry}
use Rattle.rbc_spec.specs.Frame.{Body, Yield}
use Rattle.rbc_spec.specs.Line.{Line}
use Rattle.rbc_spec.specs.Message.{EndOfMission, TrackBody, TrainAccepted, TrainBody}
use Rattle.rbc_spec.specs.Outcome.{Next, Outcome, Taken, Told, Word}
use Rattle.rbc_spec.specs.Step.{Deliver, Event, Train}
use Rattle.serve_line.specs.declared.fact_notes.Facts.{Facts}
use Rattle.serve_line.specs.declared.fact_notes.FactText.{FactText}
use Rattle.serve_line.specs.declared.status.facts.Fact.{Fact}
use Rattle.serve_line.specs.declared.status.facts.Fact.TheVariants as fact
use Rattle.serve_notes.specs.declared.kinds.Kind.{Kind}
use Rattle.serve_notes.specs.declared.kinds.Kind.TheVariants as kind
use Rattle.text_script.specs.Print.Rows.{name_at}
use Rattle.text_script.specs.rbc_centre.Listed.{list_of}
use Rattle.text_script.specs.rbc_centre.Views.{event_of, outcome_of}

-- train t ends its mission by message 150
abbrev pub ended_by : ℕ → TrainBody → Option Fact
ended_by t (EndOfMission position) = Some (fact.Ended t)
ended_by t body = None

-- a Yield from centre d carries the mission of train t
abbrev pub taken_over : ℕ → Body → Option Fact
taken_over d (Yield number t heard has_data is_ended place hand) = Some (fact.TakenOver t d)
taken_over d body = None

-- the frame is the next of its link
abbrev pub is_next : Option Taken → Bool
is_next (Some Next) = true
is_next answer = false

-- A message that is answered may end a mission. A Yield that is the next of its link is taken: that is the law
-- `each_yield_is_taken`.
abbrev pub fact_of_event : Event → Outcome → Option Fact
fact_of_event (Train m) o = if is_none o.silence then ended_by m.nid_engine m.body else None
fact_of_event (Deliver from frame) o = if is_next o.link then taken_over from frame.body else None
fact_of_event event o = None

-- message 41 begins the mission of train t
abbrev pub fact_of_message : ℕ → TrackBody → Option Fact
fact_of_message t TrainAccepted = Some (fact.Begun t)
fact_of_message t body = None

-- a Yield to centre d hands train t over
abbrev pub fact_of_frame : ℕ → Body → Option Fact
fact_of_frame d (Yield number t heard has_data is_ended place hand) = Some (fact.HandedOver t d)
fact_of_frame d body = None

-- section s is reported back to the interlocking
abbrev pub fact_of_word : Word → Option Fact
fact_of_word (Told s) = Some (fact.Told s)
fact_of_word word = None

-- ## The facts of entries

abbrev pub fact_list : Option Fact → List Fact
fact_list found = option_map_or (λ f. f ∷ []) found []

-- the facts of an entry: that of its event, and those of its messages, of its frames and of its replies
abbrev pub facts_of : Entry → List Fact
facts_of e =
    fact_list (fact_of_event (event_of e.event) (outcome_of e.outcome))
    ++ flat_map (λ s. fact_list (fact_of_message s.nid_engine s.message.body)) e.outcome.sayings.items
    ++ flat_map (λ f. fact_list (fact_of_frame f.to f.frame.body)) (list_of e.outcome.frames.list)
    ++ flat_map (λ w. fact_list (fact_of_word w)) (outcome_of e.outcome).words

-- if no fact was lost, those that were found are the earlier ones, and then these
abbrev pub Adds : List Fact → Facts → Facts → Type 0
Adds facts old new = new.lost ≡ 0 → (old.lost ≡ 0) × (new.found.items ≡ old.found.items ++ facts)

-- ## The notes of facts

abbrev pub kind_of : Fact → Kind
kind_of (fact.Begun t) = kind.MissionBegin
kind_of (fact.Ended t) = kind.MissionEnd
kind_of (fact.HandedOver t d) = kind.Handover
kind_of (fact.TakenOver t d) = kind.Handover
kind_of (fact.Told s) = kind.Section

-- the engine of the train that the fact is about
abbrev pub engine_of : Fact → Option ℕ
engine_of (fact.Begun t) = Some t
engine_of (fact.Ended t) = Some t
engine_of (fact.HandedOver t d) = Some t
engine_of (fact.TakenOver t d) = Some t
engine_of (fact.Told s) = None

-- the thing that the fact is about, its number, the words after it, and the name of the other centre
abbrev pub Text : Type 0
Text = List ℕ × ℕ × List ℕ × Option (List ℕ)

abbrev pub text_of : Line → Fact → Text
text_of line (fact.Begun t) = (codes "train", t, codes "begins its mission", None)
text_of line (fact.Ended t) = (codes "train", t, codes "ends its mission", None)
text_of line (fact.HandedOver t d) = (codes "train", t, codes "is handed over to", Some (name_at line d))
text_of line (fact.TakenOver t d) = (codes "train", t, codes "is taken over from", Some (name_at line d))
text_of line (fact.Told s) = (codes "section", s, codes "was wished back, and is shut now", None)

abbrev pub parts_of : FactText → Text
parts_of text = (text.thing.now, text.number, text.told.now, option_map (λ name. name.now) text.other)
