-- The relation between a view of a line and its state.
use Rattle.std.specs.Prelude.{◌≡◌, Bool, IfSome, length, List, None, Option, option_and_then, option_map, slice_get}
use Rattle.std.specs.Prelude.{Some, ℕ}
use Rattle.law_invariants.specs.Flow.Shows.{shown}
use Rattle.rbc_book.specs.declared.mark.Mark.{Mark}
use Rattle.rbc_book.specs.declared.mark.Mark.TheVariants as mark
use Rattle.rbc_book.specs.declared.mark.SectionView.{SectionView}
use Rattle.rbc_book.specs.declared.page.Entry.{Entry}
use Rattle.rbc_book.specs.Entries.{entry_of}
use Rattle.rbc_centre.specs.rbc_place.Places.{place_of}
use Rattle.rbc_centre.specs.rbc_session.SessionStates.{phase_of}
use Rattle.rbc_centre.specs.rbc_shorten.Facts.{standing_of}
use Rattle.rbc_line.specs.SectionRuns.{run_of}
use Rattle.rbc_spec.specs.Line.{Line}
use Rattle.rbc_spec.specs.LineCentre as line_centre
use Rattle.rbc_spec.specs.LineCentre.{IsHand, LineState}
use Rattle.rbc_spec.specs.ReadOff.{Held, held, read_off}
use Rattle.rbc_spec.specs.World.{World}
use Rattle.rbc_world.specs.declared.view.LineView.{LineView}
use Rattle.rbc_world.specs.declared.view.MissionView.{MissionView}
use Rattle.rbc_world.specs.declared.view.SessionView.{SessionView}
use Rattle.rbc_world.specs.declared.view.Supervisor.{Supervisor}
use Rattle.rbc_world.specs.declared.view.Supervisor.TheVariants as supervisor
use Rattle.rbc_world.specs.declared.view.TrainView.{TrainView}

abbrev pub mark_shown : Mark → line_centre.Mark
mark_shown mark.Shut = line_centre.Shut
mark_shown mark.Open = line_centre.Open
mark_shown (mark.Kept t) = line_centre.Kept t
mark_shown (mark.Given t) = line_centre.Given t

-- the mark of a section with this entry in its home's book, if `given` holds of the trains that have it in their
-- movement authorities
abbrev pub mark_by : Entry → (ℕ → Bool) → line_centre.Mark
mark_by e given = shown (entry_of e) given

abbrev pub supervisor_shown : Supervisor → line_centre.Supervisor
supervisor_shown (supervisor.At c) = line_centre.At c
supervisor_shown (supervisor.Parted heard) = line_centre.Parted heard

-- a mission, and who supervises it
abbrev pub mission_shown : MissionView → line_centre.LineMission
mission_shown m = record {
  place = place_of m.facts.place;
  has_data = m.facts.has_data;
  is_ended = m.facts.is_ended;
  proposal = standing_of m.facts.proposal;
  supervisor = supervisor_shown m.supervisor;
}

-- a mission, and its hand
abbrev pub held_shown : MissionView → Held
held_shown m = record { mission = mission_shown m; hand = run_of m.hand }

-- the centre that supervises it
abbrev pub centre_in : line_centre.Supervisor → Option ℕ
centre_in (line_centre.At c) = Some c
centre_in (line_centre.Parted heard) = None

-- the centre that supervises the train
abbrev pub seat_of : TrainView → Option ℕ
seat_of train = option_and_then (λ m. centre_in (supervisor_shown m.supervisor)) train.mission

-- the list has n items, each with property P at its position
pub record EachOf {X : Type 0} (P : ℕ → X → Type 0) (n : ℕ) (xs : List X) : Type 0 where
  pub count : length xs ≡ n
  pub each : (i : ℕ) (x : X) → slice_get xs i ≡ Some x → P i x

pub record ShowsSection (v : LineState) (s : ℕ) (shown : SectionView) : Type 0 where
  pub mark : mark_shown shown.mark ≡ v.mark s
  pub wish : shown.is_wished ≡ v.wish s

-- the session of centre c with train t
pub record ShowsSession (v : LineState) (t c : ℕ) (shown : SessionView) : Type 0 where
  pub phase : phase_of shown.phase ≡ v.phase t c
  pub heard : shown.heard ≡ v.heard t c
  pub said : shown.said ≡ v.said t c
  pub wait : option_map place_of shown.waiting ≡ v.wait t c

-- the train at place i of the line file: its mission, whose hand is the sections that are given to it
pub record ShowsTrain (line : Line) (v : LineState) (i : ℕ) (shown : TrainView) : Type 0 where
  pub engine : option_map (λ p. p.nid_engine) (slice_get line.trains i) ≡ Some shown.nid_engine
  pub sessions : EachOf (λ c p. ShowsSession v shown.nid_engine c p) (length line.centres) shown.sessions.items
  pub mission : option_map mission_shown shown.mission ≡ v.mission shown.nid_engine
  pub hand : IfSome shown.mission (λ m. IsHand v shown.nid_engine (run_of m.hand))

-- all sections and trains of the line
pub record Shows (line : Line) (v : LineState) (shown : LineView) : Type 0 where
  pub sections : EachOf (λ s p. ShowsSection v s p) (length line.sections) shown.sections.items
  pub trains : EachOf (λ i p. ShowsTrain line v i p) (length line.trains) shown.trains.items

-- ## How it is found

-- the train at position i of the line file: its mission with its hand, at a centre or on the way
pub record IsTrainSeen (line : Line) (w : World) (i : ℕ) (shown : TrainView) : Type 0 where
  pub engine : option_map (λ p. p.nid_engine) (slice_get line.trains i) ≡ Some shown.nid_engine
  pub sessions : EachOf (λ c p. ShowsSession (read_off line w) shown.nid_engine c p)
      (length line.centres) shown.sessions.items
  pub mission : option_map held_shown shown.mission ≡ held line w shown.nid_engine

abbrev pub AreTrainsSeen : Line → World → List TrainView → Type 0
AreTrainsSeen line w trains = EachOf (IsTrainSeen line w) (length line.trains) trains
