-- The effect of a set or an unset of the interlocking.
use Rattle.std.specs.Prelude.{◌≡◌, ℕ, true, if◌then◌else◌, List, [], ◌∷◌}
use Rattle.std.specs.List.{list_all}
use Rattle.rbc_spec.specs.Maps.{has}
use Rattle.rbc_spec.specs.Line.{Line, is_home}
use Rattle.rbc_spec.specs.Centre.{Centre, Entry, Taken}
use Rattle.rbc_spec.specs.Acts.{Reply, may_propose}
use Rattle.rbc_spec.specs.LineCentre.{LineState, Said}
use Rattle.rbc_spec.specs.OwnSteps.{Sets, Unsets}
use Rattle.rbc_spec.specs.Quiet.{Quiet, Propose, is_of_centre, TakesAll, both}
use Rattle.law_invariants.specs.Flow.Flow.{Flow}
use Rattle.law_invariants.specs.Flow.Shows.{Shows}
use Rattle.law_invariants.specs.Flow.Leads.{said_by, replied}

-- an own step of the one line centre, then quiet steps of the centre, together with the messages and replies of the act
pub record LeadsFrom (line : Line) (w : Flow) (c : ℕ) (Own : Said → LineState → Type 0) (r : Reply) : Type 0 where
  pub said : Said
  pub mid : LineState
  pub own : Own said mid
  pub quiets : List Quiet
  pub later : Said
  pub new : LineState
  pub takes : TakesAll line mid quiets later new
  pub own_centre : list_all (is_of_centre line c) quiets ≡ true
  pub says : said_by r ≡ both said later
  pub shows : Shows line (replied w c r) new

-- the own step without quiet steps, with all messages and replies of the act
pub record LeadsAtOnce (line : Line) (w : Flow) (c : ℕ) (Own : Said → LineState → Type 0) (r : Reply) : Type 0 where
  pub mid : LineState
  pub own : Own (said_by r) mid
  pub shows : Shows line (replied w c r) mid

-- the own step is the set of section s, from the shown state
abbrev pub LeadsSet : Line → Flow → ℕ → ℕ → Reply → LineState → Type 0
LeadsSet line w c s r v = LeadsAtOnce line w c (Sets line v c s) r

-- the request to shorten before section s that the centre sends to the train of the entry, if it may
abbrev pub asked_for : Line → ℕ → ℕ → Centre → Entry → List Quiet
asked_for line c s k (Taken t) = if has (λ m. may_propose line t s m k) (k.mission t) then Propose t c s ∷ [] else []
asked_for line c s k entry = []

-- the own step is the unset of section s, followed only by that request
pub record LeadsUnset (line : Line) (w : Flow) (c s : ℕ) (r : Reply) (v : LineState) : Type 0 where
  pub leads : LeadsFrom line w c (Unsets line v c s) r
  pub asks : leads.quiets ≡ (if is_home line c s then asked_for line c s (w.at c) ((w.at c).book s) else [])
