use Rattle.std.proofs.Common.{refl}
use Rattle.law_base.proofs.LocalLemmas.Worlds.{is_ordered}
use Rattle.law_invariants.proofs.no_copy.laws.no_step_makes_a_token.Goals as goal
use Rattle.law_invariants.proofs.NoCopyLemmas.Steps.{step_fair}
use Rattle.law_invariants.proofs.NoCopyLemmas.Tokens.{tokens_counted, tokens_ready, tokens_tally}

pub returns : goal.returns
returns ctx line c t s k event ok sound =
    step_fair line c (tokens_tally line c t s) (tokens_counted line (is_ordered line ok) c t s) k event sound
    (tokens_ready line (is_ordered line ok) c t s k) refl
