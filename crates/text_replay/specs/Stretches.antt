-- The bars of a diagram for a section.
use Rattle.std.specs.List.{All}
use Rattle.std.specs.Prelude.{[], ◌&&◌, ◌<◌, ◌∷◌, ◌≡◌, ◌≤◌, false, if◌then◌else◌, List, nat_le, nat_lt, None, Option}
use Rattle.std.specs.Prelude.{slice_get, Some, unwrap_or, ℕ}
use Rattle.text_replay.specs.declared.stretch.Stretch.{Stretch}
use Rattle.text_script.specs.rbc_book.declared.mark.Mark.TheVariants as mark
use Rattle.text_script.specs.rbc_book.declared.mark.SectionView.{SectionView}
use Rattle.text_script.specs.rbc_world.declared.view.LineView.{LineView}

-- the view of a section; a section that is not of the line is shut
abbrev pub seen_in : ℕ → LineView → SectionView
seen_in s view = unwrap_or (slice_get view.sections.items s) (record { mark = mark.Shut; is_wished = false })

-- the view of the stretches at an event: that of the first stretch that covers it
abbrev pub shown_at : ℕ → List Stretch → Option SectionView
shown_at e [] = None
shown_at e (b ∷ stretches) = if nat_le b.since e && nat_lt e b.until then Some b.seen else shown_at e stretches

-- this view is the view in each event of the stretch
abbrev pub IsSeen : List SectionView → Stretch → Type 0
IsSeen seen b = (e : ℕ) → b.since ≤ e → e < b.until → slice_get seen e ≡ Some b.seen

-- Each stretch has the view of its events, and each event is in a stretch.
pub record AreStretchesOf (seen : List SectionView) (stretches : List Stretch) : Type 0 where
  pub sound : All (IsSeen seen) stretches
  pub whole : (e : ℕ) → shown_at e stretches ≡ slice_get seen e
