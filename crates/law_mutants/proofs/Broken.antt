-- The wrong rules break the laws on a small line, computed.
use Rattle.std.proofs.Common.{◌≡◌, false, leb-true, ltb-true, nat_le, nat_lt, refl, true}
use Rattle.law_base.specs.Counting.Network.{TakesHead, took}
use Rattle.law_base.specs.Counting.Resource.{allowed, carried, placed, Resource}
use Rattle.law_base.specs.Counting.Sums.{sum_below, sum_links}
use Rattle.law_invariants.specs.Flow.Counts.{rights, tokens}
use Rattle.law_invariants.specs.Flow.Flow.{centre_count, Flow}
use Rattle.law_invariants.specs.Flow.Leads.{replied}
use Rattle.law_mutants.specs.Past.{GoesPast}
use Rattle.law_mutants.specs.Rules.{cancelling_any, giving_back_all, handed_over_by, keeping_older, keeping_pool}
use Rattle.law_mutants.specs.Rules.{keeping_yield, lending_again, sent_home_by, shutting_at_once, starting_at_once}
use Rattle.law_mutants.specs.Small.{at_the_other, expecting, flow, in_section_0, in_section_1, only, pooled, returning}
use Rattle.law_mutants.specs.Small.{small, taking, world_after}
use Rattle.rbc_spec.specs.Acts.{◌>>◌, begun}
use Rattle.rbc_spec.specs.Centre.{beginning, Centre}
use Rattle.rbc_spec.specs.Frame.{Body, RouteReturn}
use Rattle.rbc_spec.specs.Line.{end, Line, start as line_start}
use Rattle.rbc_spec.specs.Links.{may_take}
use Rattle.rbc_spec.specs.Message.{is_stale}
use Rattle.rbc_spec.specs.Place.{extent}
use Rattle.rbc_spec.specs.SectionRuns.{longest, within}
use Rattle.rbc_spec.specs.Step.{step}
use Rattle.rbc_spec.specs.World.{new_world, world_run, world_step}

goes_past : (r : Resource Centre Body) (line : Line) (w v : Flow)
    → nat_le (placed r (centre_count line) w) (allowed r (centre_count line) w) ≡ true
    → nat_lt (allowed r (centre_count line) v) (placed r (centre_count line) v) ≡ true → GoesPast r line w v
goes_past r line w v first then = record {
  before = record { law = leb-true (placed r (centre_count line) w) (allowed r (centre_count line) w) first };
  after = ltb-true (allowed r (centre_count line) v) (placed r (centre_count line) v) then;
}

pub lent_twice : GoesPast (tokens small 1 1) small (flow pooled)
    (replied (flow pooled) 1 (lending_again small 1 0 2 1 1 ((flow pooled).at 1)))
unfolding within longest line_start end extent beginning ◌>>◌ step new_world world_step world_run world_after placed
    allowed sum_below sum_links carried
lent_twice = goes_past (tokens small 1 1) small (flow pooled)
    (replied (flow pooled) 1 (lending_again small 1 0 2 1 1 ((flow pooled).at 1))) refl refl

pub shut_early : GoesPast (tokens small 1 1) small (flow pooled)
    (replied (flow pooled) 1 (shutting_at_once small 1 1 ((flow pooled).at 1)))
unfolding within longest line_start end extent beginning ◌>>◌ step new_world world_step world_run world_after placed
    allowed sum_below sum_links carried
shut_early = goes_past (tokens small 1 1) small (flow pooled)
    (replied (flow pooled) 1 (shutting_at_once small 1 1 ((flow pooled).at 1))) refl refl

pub return_comes : TakesHead (flow returning) 0 1 (RouteReturn 1 (only 2))
unfolding within longest line_start end extent beginning ◌>>◌ step new_world world_step world_run world_after
return_comes = record { head = refl }

pub opened_early : GoesPast (tokens small 1 1) small (flow returning)
    (replied (took (flow returning) 0 1) 1 (giving_back_all small 1 1 (only 2) ((flow returning).at 1)))
unfolding within longest line_start end extent beginning ◌>>◌ step new_world world_step world_run world_after placed
    allowed sum_below sum_links carried
opened_early = goes_past (tokens small 1 1) small (flow returning)
    (replied (took (flow returning) 0 1) 1 (giving_back_all small 1 1 (only 2) ((flow returning).at 1))) refl refl

pub pool_kept : GoesPast (tokens small 1 1) small (flow pooled)
    (replied (flow pooled) 0 (sent_home_by (keeping_pool small 0 1) 1 ((flow pooled).at 0)))
unfolding within longest line_start end extent beginning ◌>>◌ step new_world world_step world_run world_after placed
    allowed sum_below sum_links carried
pool_kept = goes_past (tokens small 1 1) small (flow pooled)
    (replied (flow pooled) 0 (sent_home_by (keeping_pool small 0 1) 1 ((flow pooled).at 0))) refl refl

pub mission_kept : GoesPast (rights small 1) small (flow taking)
    (replied (flow taking) 0 (handed_over_by (keeping_yield small 0 1) 1 ((flow taking).at 0)))
unfolding within longest line_start end extent beginning ◌>>◌ step new_world world_step world_run world_after placed
    allowed sum_below sum_links carried
mission_kept = goes_past (rights small 1) small (flow taking)
    (replied (flow taking) 0 (handed_over_by (keeping_yield small 0 1) 1 ((flow taking).at 0))) refl refl

pub begun_early : GoesPast (rights small 1) small (flow at_the_other)
    (replied (flow at_the_other) 1 (starting_at_once small 1 in_section_1 ((flow at_the_other).at 1)))
unfolding within longest line_start end extent beginning ◌>>◌ step new_world world_step world_run world_after placed
    allowed sum_below sum_links carried
begun_early = goes_past (rights small 1) small (flow at_the_other)
    (replied (flow at_the_other) 1 (starting_at_once small 1 in_section_1 ((flow at_the_other).at 1))) refl refl

pub heard_before : is_stale 9 (((flow taking).at 1).heard 1) ≡ true
unfolding within longest line_start end extent beginning ◌>>◌ step new_world world_step world_run world_after
heard_before = refl

pub heard_again : is_stale 9
    ((keeping_older small 1 0 1 6 (begun small in_section_1) ((flow taking).at 1)).state.heard 1) ≡ false
unfolding within longest line_start end extent beginning ◌>>◌ step new_world world_step world_run world_after
heard_again = refl

pub taken_before : may_take small 1 expecting 0 2 1 in_section_0 (only 0) ≡ true
unfolding within longest line_start end beginning ◌>>◌
taken_before = refl

pub lost_then : may_take small 1 (cancelling_any 0 1 1 expecting).state 0 2 1 in_section_0 (only 0) ≡ false
unfolding within longest line_start end beginning ◌>>◌
lost_then = refl
