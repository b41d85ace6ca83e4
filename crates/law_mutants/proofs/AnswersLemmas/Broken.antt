-- The wrong answers break the laws on a small line, computed.
use Rattle.std.proofs.Common.{◌==◌, ◌≡◌, eqb-true, leb-true, ltb-true, nat_le, nat_lt, refl, true}
use Rattle.law_base.specs.Counting.Network.{TakesHead, took}
use Rattle.law_base.specs.Counting.Resource.{allowed, carried, placed, Resource}
use Rattle.law_base.specs.Counting.Sums.{sum_below, sum_links}
use Rattle.law_invariants.specs.Flow.Counts.{rights, tokens}
use Rattle.law_invariants.specs.Flow.Flow.{centre_count, Flow}
use Rattle.law_invariants.specs.Flow.Leads.{replied}
use Rattle.law_invariants.specs.NoUnasked.Asked.{OfRight, questions}
use Rattle.law_mutants.specs.Answers.Rules.{asking_again, keeping_right, staying_silent, swallowing_return}
use Rattle.law_mutants.specs.Answers.Worlds.{asking, asking_in_vain, FallsShort, giving_up}
use Rattle.law_mutants.specs.Past.{GoesPast}
use Rattle.law_mutants.specs.Small.{flow, in_section_1, only, returning, small, world_after}
use Rattle.rbc_spec.specs.Acts.{◌>>◌}
use Rattle.rbc_spec.specs.Centre.{beginning, Centre}
use Rattle.rbc_spec.specs.Frame.{AskRight, Body, RouteReturn}
use Rattle.rbc_spec.specs.Line.{end, Line, start as line_start}
use Rattle.rbc_spec.specs.Place.{extent}
use Rattle.rbc_spec.specs.SectionRuns.{longest, within}
use Rattle.rbc_spec.specs.Step.{step}
use Rattle.rbc_spec.specs.World.{new_world, world_run, world_step}

goes_past : (r : Resource Centre Body) (line : Line) (w v : Flow)
    → nat_le (placed r (centre_count line) w) (allowed r (centre_count line) w) ≡ true
    → nat_lt (allowed r (centre_count line) v) (placed r (centre_count line) v) ≡ true → GoesPast r line w v
goes_past r line w v first then = record {
  before = record { law = leb-true (placed r (centre_count line) w) (allowed r (centre_count line) w) first };
  after = ltb-true (allowed r (centre_count line) v) (placed r (centre_count line) v) then;
}

falls_short : (r : Resource Centre Body) (line : Line) (w v : Flow)
    → (placed r (centre_count line) w == allowed r (centre_count line) w) ≡ true
    → nat_lt (placed r (centre_count line) v) (allowed r (centre_count line) v) ≡ true → FallsShort r line w v
falls_short r line w v first then = record {
  before = record { law = eqb-true (placed r (centre_count line) w) (allowed r (centre_count line) w) first };
  after = ltb-true (placed r (centre_count line) v) (allowed r (centre_count line) v) then;
}

pub question_comes : TakesHead (flow asking) 1 0 (AskRight 1)
unfolding within longest line_start end extent beginning ◌>>◌ step new_world world_step world_run world_after
question_comes = record { head = refl }

pub given_and_kept : GoesPast (rights small 1) small (flow asking)
    (replied (took (flow asking) 1 0) 0 (keeping_right small 0 1 1 ((flow asking).at 0)))
unfolding within longest line_start end extent beginning ◌>>◌ step new_world world_step world_run world_after placed
    allowed sum_below sum_links carried
given_and_kept = goes_past (rights small 1) small (flow asking)
    (replied (took (flow asking) 1 0) 0 (keeping_right small 0 1 1 ((flow asking).at 0))) refl refl

pub vain_question_comes : TakesHead (flow asking_in_vain) 1 0 (AskRight 1)
unfolding within longest line_start end extent beginning ◌>>◌ step new_world world_step world_run world_after
vain_question_comes = record { head = refl }

pub met_by_silence : FallsShort (questions (OfRight 1) 1) small (flow asking_in_vain)
    (replied (took (flow asking_in_vain) 1 0) 0 (staying_silent small 0 1 1 ((flow asking_in_vain).at 0)))
unfolding within longest line_start end extent beginning ◌>>◌ step new_world world_step world_run world_after placed
    allowed sum_below sum_links carried
met_by_silence = falls_short (questions (OfRight 1) 1) small (flow asking_in_vain)
    (replied (took (flow asking_in_vain) 1 0) 0 (staying_silent small 0 1 1 ((flow asking_in_vain).at 0))) refl refl

pub asked_twice : GoesPast (questions (OfRight 1) 1) small (flow giving_up)
    (replied (flow giving_up) 1 (asking_again small 1 in_section_1 ((flow giving_up).at 1)))
unfolding within longest line_start end extent beginning ◌>>◌ step new_world world_step world_run world_after placed
    allowed sum_below sum_links carried
asked_twice = goes_past (questions (OfRight 1) 1) small (flow giving_up)
    (replied (flow giving_up) 1 (asking_again small 1 in_section_1 ((flow giving_up).at 1))) refl refl

pub return_comes : TakesHead (flow returning) 0 1 (RouteReturn 1 (only 2))
unfolding within longest line_start end extent beginning ◌>>◌ step new_world world_step world_run world_after
return_comes = record { head = refl }

pub swallowed : FallsShort (tokens small 1 2) small (flow returning)
    (replied (took (flow returning) 0 1) 1 (swallowing_return small 1 0 1 (only 2) ((flow returning).at 1)))
unfolding within longest line_start end extent beginning ◌>>◌ step new_world world_step world_run world_after placed
    allowed sum_below sum_links carried
swallowed = falls_short (tokens small 1 2) small (flow returning)
    (replied (took (flow returning) 0 1) 1 (swallowing_return small 1 0 1 (only 2) ((flow returning).at 1))) refl refl
