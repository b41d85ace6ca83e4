-- The effect of a reply of a centre, as a part of an own step of the one line centre.
use Rattle.std.specs.Prelude.{◌≡◌, ℕ, true, None}
use Rattle.rbc_spec.specs.Line.{Line}
use Rattle.rbc_spec.specs.Centre.{Mission}
use Rattle.rbc_spec.specs.Acts.{Act, Reply, ◌>>◌, change_mission, return_pool}
use Rattle.rbc_spec.specs.LineCentre.{LineState, nothing}
use Rattle.law_invariants.specs.Flow.Flow.{Flow}
use Rattle.law_invariants.specs.Flow.Sound.{IsFlowSound}
use Rattle.law_invariants.specs.Flow.Shows.{Shows}
use Rattle.law_invariants.specs.Flow.Leads.{said_by, replied}

-- the reply has no message and no word; the world after it shows this state, and is sound
pub record IsShownSo (line : Line) (w : Flow) (c : ℕ) (r : Reply) (new : LineState) : Type 0 where
  pub silent : said_by r ≡ nothing
  pub shows : Shows line (replied w c r) new
  pub sound : IsFlowSound line (replied w c r)

-- the last part of an end of mission: the pool is returned, and the mission is ended
abbrev pub ends : Line → ℕ → ℕ → Mission → Act
ends line c t m = return_pool line c t m >> change_mission t (λ n. record n { is_ended = true; proposal = None })
