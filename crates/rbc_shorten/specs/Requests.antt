-- Requests for co-operative shortening of MA.
use Rattle.std.specs.Prelude.{ℕ, ◌+◌, ◌-◌, ◌*◌, ◌==◌, Bool, ◌&&◌, not, is_none, nat_le}
use Rattle.rbc_spec.specs.SectionRuns.{SectionRun, within}
use Rattle.rbc_spec.specs.Line.{Line, start}
use Rattle.rbc_line.specs.SectionRuns.{run_of}
use Rattle.rbc_shorten.specs.declared.facts.ShorteningFacts.{ShorteningFacts}
use Rattle.rbc_shorten.specs.declared.facts.Shortening.{Shortening}

-- a request may be sent for the mission: its session is up, it is not ended, and no request is pending
abbrev pub is_free : ShorteningFacts → Bool
is_free m = (m.is_up && not m.is_ended) && is_none m.proposal

-- the section is in the hand, and not its first
abbrev pub is_cut_after_first : SectionRun → ℕ → Bool
is_cut_after_first hand s = within hand s && not (s == hand.first)

-- a request to shorten before section s, which starts there, may be made
unfoldable pub may_shorten_at : ℕ → ShorteningFacts → ℕ → Bool
may_shorten_at metres m s =
    is_free m && ((is_cut_after_first (run_of m.hand) s && nat_le m.front (10 * metres))
    && nat_le metres (m.group_start + 32767))

-- the request
abbrev pub shortening_at : ℕ → ShorteningFacts → ℕ → Shortening
shortening_at metres m s = record { l_endsection = metres - m.group_start; last_kept = s - 1 }

-- a request to shorten before section s of the line may be made
abbrev pub may_shorten : Line → ShorteningFacts → ℕ → Bool
may_shorten line m s = may_shorten_at (start line s) m s

abbrev pub shortening : Line → ShorteningFacts → ℕ → Shortening
shortening line m s = shortening_at (start line s) m s
