-- The marks of QuietMarks, computed. No other quiet step gives or frees a section.
use Rattle.rbc_spec.specs.Line.{end, start as line_start}
use Rattle.rbc_spec.specs.LineCentre.{Given, Kept, line_beginning, LineState, Mark, Open, Said}
use Rattle.rbc_spec.specs.Quiet.{Admit, Dismiss, Keep, TakesQuiet, Unkeep}
use Rattle.rbc_spec.specs.SectionRuns.{longest, within}
use Rattle.std.proofs.Common.{[], ◌∙◌, ◌∷◌, ◌≡◌, ap, None, refl, Some, sym}
use Rattle.test_scenes.specs.QuietMarks.{marks_after, start_waits}
use Rattle.test_scenes.specs.Scene.{line}

pub keeps : marks_after (Keep 1 4) ≡ Some (Kept 1 ∷ Kept 1 ∷ Kept 1 ∷ Given 2 ∷ [])
unfolding within longest line_start end line_beginning
keeps = refl

pub admits : marks_after (Admit 1 1) ≡ Some (Open ∷ Given 1 ∷ Kept 1 ∷ Given 2 ∷ [])
unfolding within longest line_start end line_beginning
admits = refl

pub dismisses : marks_after (Dismiss 1 1) ≡ Some (Open ∷ Open ∷ Kept 1 ∷ Given 2 ∷ [])
unfolding within longest line_start end line_beginning
dismisses = refl

pub unkeeps : marks_after (Unkeep 1 6) ≡ Some (Open ∷ Kept 1 ∷ Open ∷ Given 2 ∷ [])
unfolding within longest line_start end line_beginning
unkeeps = refl

pub no_other_start : marks_after (Admit 2 1) ≡ None
unfolding within longest line_start end line_beginning
no_other_start = refl

pub waited_for : marks_after (Unkeep 1 5) ≡ None
unfolding within longest line_start end line_beginning
waited_for = refl

pub given : marks_after (Unkeep 2 7) ≡ None
unfolding within longest line_start end line_beginning
given = refl

pub given_to_another : marks_after (Keep 1 7) ≡ None
unfolding within longest line_start end line_beginning
given_to_another = refl

pub never_given : (said : Said) (new : LineState) → TakesQuiet line start_waits (Keep 1 4) said new
    → new.mark 4 ≡ Given 1 → ⊥
never_given said new h given =
    let wrong : ◌≡◌ {A = Mark} (Kept 1) (Given 1) = sym (ap (λ (x : LineState). x.mark 4) h.leaves.new_is) ∙ given in cc

pub never_freed : (said : Said) (new : LineState) → TakesQuiet line start_waits (Unkeep 2 7) said new → ⊥
never_freed said new h = let wrong : ◌≡◌ {A = Mark} (Given 2) (Kept 2) = h.is_kept in cc
