-- The levels that a line can name without a national system.
use Rattle.rbc_packets.specs.declared.level.Level.{Level}
use Rattle.rbc_packets.specs.declared.level.Level.TheVariants as level
use Rattle.text_scenario.specs.declared.field.Plain.{Plain}
use Rattle.text_scenario.specs.declared.field.Plain.TheVariants as plain

abbrev pub level_of : Plain → Level
level_of plain.Level0 = level.Level0
level_of plain.Level1 = level.Level1
level_of plain.Level2 = level.Level2
level_of plain.Level3 = level.Level3
level_of plain.Spare5 = level.Spare5
level_of plain.Spare6 = level.Spare6
level_of plain.Spare7 = level.Spare7
