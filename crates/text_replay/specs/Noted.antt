-- The changes of a section's view, as they are noted event by event, and the stretches that they give.
use Rattle.std.specs.declared.alloc.Global.{Global}
use Rattle.std.specs.Prelude.{[], ◌&&◌, ◌++◌, ◌+◌, ◌-◌, ◌<◌, ◌==◌, ◌∷◌, ◌≡◌, Bool, false, if◌then◌else◌, length}
use Rattle.std.specs.Prelude.{List, map, None, not, Option, option_map, slice_get, Some, true, Vec, ℕ}
use Rattle.text_replay.specs.declared.changes.Change.{Change}
use Rattle.text_replay.specs.declared.changes.SectionChanges.{SectionChanges}
use Rattle.text_replay.specs.declared.stretch.Stretch.{Stretch}
use Rattle.text_replay.specs.Stretches.{seen_in}
use Rattle.text_script.specs.rbc_book.declared.mark.Mark.{Mark}
use Rattle.text_script.specs.rbc_book.declared.mark.Mark.TheVariants as mark
use Rattle.text_script.specs.rbc_book.declared.mark.SectionView.{SectionView}
use Rattle.text_script.specs.rbc_world.declared.view.LineView.{LineView}

abbrev pub same_mark : Mark → Mark → Bool
same_mark mark.Shut mark.Shut = true
same_mark mark.Open mark.Open = true
same_mark (mark.Kept t) (mark.Kept u) = t == u
same_mark (mark.Given t) (mark.Given u) = t == u
same_mark m n = false

abbrev pub same_flag : Bool → Bool → Bool
same_flag true b = b
same_flag false b = not b

abbrev pub same_view : SectionView → SectionView → Bool
same_view v w = same_flag v.is_wished w.is_wished && same_mark v.mark w.mark

-- whether the view is that of the change
abbrev pub is_seen : SectionView → Option Change → Bool
is_seen v (Some c) = same_view c.seen v
is_seen v None = false

-- the changes with the view after event e: one more, if the view differs from that of the last change
abbrev pub noted : ℕ → SectionView → List Change → List Change
noted e v changes =
    if is_seen v (slice_get changes (length changes - 1)) then changes
    else changes ++ record { seen = v; since = e } ∷ []

-- the changes with the views after event e and the next ones
abbrev pub changes_from : ℕ → List Change → List SectionView → List Change
changes_from e changes [] = changes
changes_from e changes (v ∷ seen) = changes_from (e + 1) (noted e v changes) seen

-- the changes of these views, by event
abbrev pub changes_of : List SectionView → List Change
changes_of seen = changes_from 0 [] seen

-- the stretch of each change, up to the next change; the last is up to event `until`
abbrev pub stretches_to : ℕ → List Change → List Stretch
stretches_to until [] = []
stretches_to until (c ∷ []) = record { seen = c.seen; since = c.since; until = until } ∷ []
stretches_to until (c ∷ d ∷ changes) =
    record { seen = c.seen; since = c.since; until = d.since } ∷ stretches_to until (d ∷ changes)

-- the changes in the list of a section
abbrev pub changes_at : ℕ → List (Vec Change Global) → Option (List Change)
changes_at s lists = option_map (λ list. list.items) (slice_get lists s)

-- The list of each section has the view after event e.
abbrev pub AreAllNoted : ℕ → LineView → List (Vec Change Global) → List (Vec Change Global) → Type 0
AreAllNoted e view old new =
    (s : ℕ) → changes_at s new ≡ option_map (noted e (seen_in s view)) (changes_at s old)

-- The list of each of n sections has the changes of the section's views.
pub record AreKept (n : ℕ) (views : List LineView) (changes : SectionChanges) : Type 0 where
  pub each : (s : ℕ) → s < n → changes_at s changes.lists.items ≡ Some (changes_of (map (seen_in s) views))
