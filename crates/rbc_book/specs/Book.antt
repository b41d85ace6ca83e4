-- The pages of a book, by the numbers of sections over the whole line.
use Rattle.std.specs.Prelude.{ℕ, List, Bool, false, Option, option_and_then, is_some, slice_get}
use Rattle.std.specs.Option.{option_map_or}
use Rattle.rbc_spec.specs.Centre.{Entry, Shut}
use Rattle.rbc_book.specs.Entries.{entry_of}
use Rattle.rbc_book.specs.declared.page.Page.{Page}

-- for each section of the line its page, if the section is of the book's home
abbrev pub Pages : Type 0
Pages = List (Option Page)

abbrev pub page_of : Pages → ℕ → Option Page
page_of pages s = option_and_then (λ page. page) (slice_get pages s)

-- the section is of the book's home
unfoldable pub is_own : Pages → ℕ → Bool
is_own pages s = is_some (page_of pages s)

-- the entry of a section; one of another home is shut
unfoldable pub entry_at : Pages → ℕ → Entry
entry_at pages s = option_map_or (λ page. entry_of page.entry) (page_of pages s) Shut

-- the interlocking wishes the section back
unfoldable pub wish_at : Pages → ℕ → Bool
wish_at pages s = option_map_or (λ page. page.is_wished) (page_of pages s) false
