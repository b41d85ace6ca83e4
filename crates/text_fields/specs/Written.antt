-- Fields to be written as bytes.
use Rattle.std.specs.Prelude.{List, map}
use Rattle.text_fields.specs.declared.written.Written.{Written}
use Rattle.text_fields.specs.Named.{Named}

-- a field to be written
abbrev pub written_named : Written → Named
written_named written = record { name = written.name.now; field = (written.width, written.value) }

-- all of them
abbrev pub all_written : List Written → List Named
all_written list = map written_named list
