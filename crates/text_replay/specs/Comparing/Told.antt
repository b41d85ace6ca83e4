-- The result of a comparison for a print, by the lines that still arrive.
use Rattle.std.specs.Prelude.{ℕ, ◌+◌, ◌&&◌, Bool, List, [], ◌∷◌, ◌++◌, length, Option, Some, None, is_none}
use Rattle.std.specs.Option.{option_or}
use Rattle.text_replay.specs.declared.comparing.part.Part.{Part}
use Rattle.text_replay.specs.declared.comparing.comparison.Comparison.{Comparison}
use Rattle.text_replay.specs.Comparing.Lines.{is_over}
use Rattle.text_replay.specs.Comparing.Part.{found, found_after}
use Rattle.text_replay.specs.Comparing.Blocks.{Block, differs_in}

-- in the last part: the lines that end the print are known, or these lines end it
abbrev pub found_at_end : Option Part → Part → ℕ → List (List ℕ) → List (List ℕ) → Option ℕ
found_at_end (Some ending) part n rows other = found ending n rows
found_at_end None part n rows other = found_after part.differs (part.due ++ other) n rows

-- in this part and in the later ones
abbrev pub found_in : Comparison → List (List ℕ) → List (List ℕ) → List Block → Option ℕ
found_in c rows ending [] = found_at_end c.ending c.part c.next rows ending
found_in c rows ending (block ∷ blocks) =
    option_or (found c.part c.next rows) (differs_in (c.next + length rows) (block ∷ blocks))

-- the final result, if these lines still arrive in the part, then these parts, and these lines end the print
abbrev pub told : Comparison → List (List ℕ) → List (List ℕ) → List Block → Option ℕ
told c rows ending blocks = option_or c.differs (found_in c rows ending blocks)

-- exactly the lines of the part have arrived, and the lines that end the print are not known
abbrev pub wants_ending : Comparison → Bool
wants_ending c = is_none c.differs && (is_none c.ending && (is_none c.part.differs && is_over c.part.due))
