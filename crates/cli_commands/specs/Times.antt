-- The times of events that are shown.
use Rattle.clap.specs.declared.parser.matches.ArgMatches.{ArgMatches}
use Rattle.jiff.specs.Words.{parse_timestamp}
use Rattle.std.specs.Prelude.{◌-◌, ◌==◌, ◌||◌, ◌≡◌, ◌<◌, ◌≤◌, Bool, codes, if◌then◌else◌, int_div, is_some, List}
use Rattle.std.specs.Prelude.{MatchOption, negsuc, None, Option, option_and_then, option_map, pos, slice_get, Some, ℕ}
use Rattle.std.specs.Prelude.{ℤ}
use Rattle.std.specs.Result.{result_ok}
use Rattle.cli_commands.specs.declared.requests.TimeRange.{TimeRange}
use Rattle.cli_commands.specs.Words.{value}

-- the time of the event of this number, from 1; none if it is not known
abbrev pub time_at : List (Option ℕ) → ℕ → Option ℕ
time_at times number =
    option_and_then (λ time. time) (if number == 0 then None else slice_get times (number - 1))

-- the range has a beginning or an end
abbrev pub is_bounded : TimeRange → Bool
is_bounded range = is_some range.since_ms || is_some range.until_ms

-- milliseconds since 1970; 0 for an earlier time
abbrev pub since_1970 : ℤ → ℕ
since_1970 (pos ms) = ms
since_1970 (negsuc ms) = 0

-- the time that a text spells, in milliseconds since 1970; none if it spells no time
abbrev pub spelled_ms : List ℕ → Option ℕ
spelled_ms text = option_map (λ nanos. since_1970 (int_div nanos (pos 1_000_000))) (result_ok (parse_timestamp text))

-- the range of the options `--since` and `--until`
abbrev pub range_in : ArgMatches → TimeRange
range_in words = record {
  since_ms = option_and_then spelled_ms (value words (codes "since"));
  until_ms = option_and_then spelled_ms (value words (codes "until"));
}

-- the range that is drawn over time, if time is asked for by its own option or by a bound
abbrev pub axis : Bool → TimeRange → Option TimeRange
axis is_asked range = if is_asked || is_bounded range then Some range else None

-- The time is not before the range's beginning, and before its end. An unknown time is only in the range without
-- bounds.
abbrev pub IsWithin : TimeRange → Option ℕ → Type 0
IsWithin range None = (range.since_ms ≡ None) × (range.until_ms ≡ None)
IsWithin range (Some time) =
    MatchOption range.since_ms (Unit {0}) (λ since. since ≤ time)
    × MatchOption range.until_ms (Unit {0}) (λ until. time < until)
