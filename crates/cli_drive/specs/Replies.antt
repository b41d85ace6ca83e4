-- The replies of the control endpoint.
use Rattle.std.specs.Prelude.{codes, if◌then◌else◌, List, None, Option, Some, ℕ}
use Rattle.std.specs.Str.{bytes_eq}
use Rattle.cli_drive.specs.declared.trains.replies.Reply.{Reply}
use Rattle.cli_drive.specs.declared.trains.replies.Reply.TheVariants.{Released, Shut}

-- the reply of a word for a section; none of any other word
abbrev pub said : List ℕ → ℕ → Option Reply
said word section =
    if bytes_eq word (codes "Done") then Some (Released section)
    else if bytes_eq word (codes "Told") then Some (Shut section)
    else None

-- the section of a reply
abbrev pub section_of : Reply → ℕ
section_of (Released section) = section
section_of (Shut section) = section
