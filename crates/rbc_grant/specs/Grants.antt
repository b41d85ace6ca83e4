-- The answer to a request for a movement authority (3.8).
use Rattle.std.specs.Prelude.{ℕ, ◌+◌, ◌-◌, ◌*◌, Bool, ◌&&◌, ◌||◌, nat_le}
use Rattle.rbc_spec.specs.SectionRuns.{SectionRun, next_after, within}
use Rattle.rbc_spec.specs.Line.{Line, end}
use Rattle.rbc_spec.specs.Sections.{is_on}
use Rattle.rbc_spec.specs.Centre.{is_open}
use Rattle.rbc_spec.specs.Place.{Place, group_start}
use Rattle.rbc_book.specs.Book.{Pages, entry_at}

-- the safe front end is not past the hand's end, which has room in L_ENDSECTION
abbrev pub may_request : Line → SectionRun → Place → Bool
may_request line hand place =
    nat_le place.front (10 * end line (next_after hand - 1))
    && nat_le (end line (next_after hand - 1)) (group_start line place + 32767)

-- the section may follow in the hand: on the track, open in this book or of the pool, and its end has room in
-- L_ENDSECTION
abbrev pub may_follow : Line → Pages → SectionRun → Place → ℕ → Bool
may_follow line book pool place s =
    (is_on line place.track s && (is_open (entry_at book s) || within pool s))
    && nat_le (end line s) (group_start line place + 32767)
