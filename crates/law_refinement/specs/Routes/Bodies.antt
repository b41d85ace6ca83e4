-- The effect of a frame that is the next of its link.
use Rattle.std.specs.Prelude.{◌≡◌, ℕ, true}
use Rattle.law_base.specs.Counting.Network.{took, TakesHead}
use Rattle.rbc_spec.specs.Line.{Line, IsLine, is_centre, is_linked}
use Rattle.rbc_spec.specs.Frame.{Body}
use Rattle.rbc_spec.specs.Links.{received}
use Rattle.rbc_spec.specs.LineCentre.{LineState}
use Rattle.law_invariants.specs.Flow.Flow.{Flow, took_frame}
use Rattle.law_invariants.specs.Flow.Sound.{IsFlowSound}
use Rattle.law_invariants.specs.Flow.Shows.{Shows}
use Rattle.law_invariants.specs.Flow.Leads.{Leads}

-- In every sound flow, the body leads the one line centre on by quiet steps of the centre at which it arrives. That
-- centre has counted the frame as taken. Its clock shows the stamp of the step by then; a clock is neither shown nor
-- counted.
abbrev pub LeadsByBody : Line → Body → Type 0
LeadsByBody line f = (w : Flow) (v : LineState) (a c number : ℕ) → IsLine line → IsFlowSound line w → Shows line w v
    → is_centre line a ≡ true → is_centre line c ≡ true → TakesHead w a c f
    → Leads line (took w a c) c (received line c a f (took_frame a number (w.at c))) v

-- in every sound flow, the body leads the one line centre on, if the two centres are linked
abbrev pub LeadsByLinked : Line → Body → Type 0
LeadsByLinked line f = (w : Flow) (v : LineState) (a c number : ℕ) → IsLine line → IsFlowSound line w → Shows line w v
    → is_linked line c a ≡ true → TakesHead w a c f
    → Leads line (took w a c) c (received line c a f (took_frame a number (w.at c))) v
