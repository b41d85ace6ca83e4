-- The cut of a hand at standstill.
use Rattle.std.specs.Prelude.{ℕ, ◌+◌, ◌-◌, ◌*◌, ◌==◌, Bool, ◌||◌, if◌then◌else◌, nat_lt}
use Rattle.rbc_spec.specs.SectionRuns.{SectionRun, passing}
use Rattle.rbc_spec.specs.Line.{Line, start}
use Rattle.rbc_spec.specs.Centre.{Mission}
use Rattle.rbc_spec.specs.Acts.{Act, rest}
use Rattle.rbc_spec.specs.Rules.{cut}
use Rattle.rbc_shorten.specs.declared.answer.Cut.{Cut}
use Rattle.rbc_shorten.specs.declared.answer.Cut.TheVariants.{Nothing, Keep}

-- the section begins before the front
abbrev pub begins_before : Line → ℕ → ℕ → Bool
begins_before line front s = nat_lt (10 * start line s) front

-- the cut of the hand with this front
abbrev pub ahead_of : Line → SectionRun → ℕ → Cut
ahead_of line hand front =
    let n = passing (begins_before line front) hand in if (n == 0) || (n == hand.count) then Nothing else Keep n

-- a centre's act on the hand of mission m, with this cut
abbrev pub standing_act : Line → ℕ → ℕ → Mission → Cut → Act
standing_act line c t m Nothing = rest
standing_act line c t m (Keep n) = cut line c t (m.hand.first + n - 1) m
