-- Trains on sections, only by their true ends.
use Rattle.std.specs.Prelude.{◌&&◌, ◌*◌, ◌+◌, ◌==◌, Bool, int_lt, nat_le, nat_lt, pos}
use Rattle.rbc_line.specs.declared.parts.Section.{Section}
use Rattle.train_unit.specs.declared.ends.Ends.{Ends}

-- some part of the train is on the section
abbrev pub stands_on : Section → Ends → Bool
stands_on section x =
    (section.track == x.track && nat_lt (10 * section.start) x.front)
    && int_lt x.rear (pos (10 * section.start + 10 * section.metres))

-- the front end of the train is on the section
abbrev pub has_front : Section → Ends → Bool
has_front section x =
    (section.track == x.track && nat_lt (10 * section.start) x.front)
    && nat_le x.front (10 * section.start + 10 * section.metres)
