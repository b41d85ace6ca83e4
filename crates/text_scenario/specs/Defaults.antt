-- The values of earlier lines, and the numbers that a line leaves out.
use Rattle.std.specs.HashMap.{get}
use Rattle.std.specs.Option.{option_map_or}
use Rattle.std.specs.Prelude.{◌*◌, ◌+◌, ◌==◌, if◌then◌else◌, nat_eq, None, Option, Some, unwrap_or, ℕ}
use Rattle.rbc_spec.specs.Message.{unknown_time}
use Rattle.text_scenario.specs.declared.known.Defaults.{Defaults}
use Rattle.text_scenario.specs.declared.known.Known.{Known}
use Rattle.text_scenario.specs.declared.sent.Sent.{Sent}

-- the last message of a train
abbrev pub known_of : Defaults → ℕ → Option Known
known_of d t = get nat_eq d.trains t

-- T_TRAIN of the train's last message, or 0
abbrev pub last_time : Defaults → ℕ → ℕ
last_time d t = option_map_or (λ k. k.t_train) (known_of d t) 0

-- the frames of a link up to this number are delivered in order
abbrev pub last_frame : Defaults → ℕ → ℕ → ℕ
last_frame d from to = unwrap_or (get nat_eq d.frames (from * 256 + to)) 0

-- the next number: 4 294 967 295 is the last that 32 bits have room for
abbrev pub next_of : ℕ → ℕ
next_of n = if n == unknown_time then n else n + 1

-- the number of a line, or the next after the last
abbrev pub number_or_next : Option ℕ → ℕ → ℕ
number_or_next (Some n) last = n
number_or_next None last = next_of last

-- the trains after a message
abbrev pub known_after : Sent → ℕ → Defaults → ℕ → Option Known
known_after s t_train d t =
    if nat_eq t s.nid_engine then Some (record { t_train = t_train; centre = s.centre; report = s.report })
    else known_of d t

-- the frames that are delivered in order after this one
abbrev pub last_after : ℕ → ℕ → ℕ
last_after number last = if number == next_of last then number else last
