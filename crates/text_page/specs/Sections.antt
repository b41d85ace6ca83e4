-- The use of a section, as the page names it.
use Rattle.std.specs.Prelude.{codes, List, None, Option, Some, ℕ}
use Rattle.rbc_book.specs.declared.mark.Mark.{Mark}
use Rattle.rbc_book.specs.declared.mark.Mark.TheVariants as mark

-- the word for the use of a section
abbrev pub mark_word : Mark → List ℕ
mark_word mark.Shut = codes "shut"
mark_word mark.Open = codes "open"
mark_word (mark.Kept t) = codes "kept"
mark_word (mark.Given t) = codes "given"

-- the train that uses a section, if one does
abbrev pub user_of : Mark → Option ℕ
user_of mark.Shut = None
user_of mark.Open = None
user_of (mark.Kept t) = Some t
user_of (mark.Given t) = Some t
