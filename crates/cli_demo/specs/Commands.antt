-- The commands of the interlocking in a demo.
use Rattle.std.specs.Option.{option_map_or}
use Rattle.std.specs.Prelude.{[], ◌++◌, ◌∷◌, Bool, false, List, min, None, Option, Some, suc, true, zero, ℕ}
use Rattle.rbc_line.specs.Views.{placed_section}
use Rattle.rbc_spec.specs.Line.{Line}
use Rattle.rbc_line.specs.declared.parts.Section.{Section}
use Rattle.text_script.specs.rbc_centre.declared.outcome.Word.{Word}
use Rattle.text_script.specs.rbc_centre.declared.outcome.Word.TheVariants.{Done}
use Rattle.text_script.specs.rbc_world.declared.event.WorldEvent.{WorldEvent}
use Rattle.text_script.specs.rbc_world.declared.event.WorldEvent.TheVariants.{Set, Unset}

-- a section is released, or taken back, at its home
abbrev pub command_for : ℕ → Bool → Section → WorldEvent
command_for s true section = Set section.home (min s 65535)
command_for s false section = Unset section.home (min s 65535)

-- the first sections of a line, this many
abbrev pub sections_among : Line → ℕ → List Section
sections_among line zero = []
sections_among line (suc s) = sections_among line s ++ option_map_or (λ p. p ∷ []) (placed_section line s) []

-- the section that a command has released (true) or taken back, by the reply of its home: only `Done` does it
abbrev pub done_by : WorldEvent → Option Word → Option (ℕ × Bool)
done_by (Set centre s) (Some (Done section)) = Some (section, true)
done_by (Unset centre s) (Some (Done section)) = Some (section, false)
done_by event word = None
