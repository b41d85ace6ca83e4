-- The answers of a book.
use Rattle.std.specs.Prelude.{Bool, if◌then◌else◌}
use Rattle.rbc_spec.specs.Centre.{Entry, is_unused}
use Rattle.rbc_book.specs.declared.answer.Unset.{Unset}
use Rattle.rbc_book.specs.declared.answer.Unset.TheVariants.{Done, Asked}
use Rattle.rbc_book.specs.declared.answer.Back.{Back}
use Rattle.rbc_book.specs.declared.answer.Back.TheVariants.{Open, Told}

-- to an unset of a section with this entry
abbrev pub unset_answer : Entry → Unset
unset_answer entry = if is_unused entry then Done else Asked

-- to a section given back, which was wished back or not
abbrev pub back_answer : Bool → Back
back_answer is_wished = if is_wished then Told else Open
