use Rattle.std.proofs.Common.{◌<◌, ◌≡◌, ◌≤◌, ap, is_some, length, List, rules, slice_get, sym, true, false, ℕ}
use Rattle.std.proofs.lemmas.Bool.{ltb-true}
use Rattle.std.proofs.lemmas.List.{get_or_default}
use Rattle.std.proofs.lemmas.Option.{slice_get-get_or, slice_get_past}
use Rattle.serve_line.proofs.Ranges.{filter_put, filter_skip}
use Rattle.serve_line.proofs.state.build.links_in.Goals as goal
use Rattle.serve_line.proofs.state.build.links_in.Goals.{in-Some+in_ok-push, in_default}
use Rattle.serve_line.specs.Building.{direction_of, has_node}

is_within : {X : Type 0} (xs : List X) (i : ℕ) (x : X) → i < length xs → is_some (slice_get xs i) ≡ true
is_within xs i x low = ap is_some (slice_get-get_or xs i x low)

is_past : {X : Type 0} (xs : List X) (i : ℕ) → length xs ≤ i → is_some (slice_get xs i) ≡ false
is_past xs i high = ap is_some (slice_get_past xs i high)

pub loop-direction-preserved : goal.loop-direction-preserved
loop-direction-preserved c = elim c.match-get.branch [
  | in-Some+in_ok-push w ↦ filter_put direction_of (has_node c.args.nodes.now) c.args.directions.now
      c.loop-direction.direction-index _ c.loop-direction.links.items c.match-get.links.items w.link_of.result
      c.loop-direction-test.true (get_or_default _ _ _ _ c.loop-direction-test.true)
      (is_within c.args.nodes.now _ w.in-Some.node.now (ltb-true _ _ (sym w.in-Some.ensures.lookup.0)))
      (search rules) w.link_of.ensures c.loop-direction.invariant
  | in_default w ↦ filter_skip direction_of (has_node c.args.nodes.now) c.args.directions.now
      c.loop-direction.direction-index _ c.match-get.links.items
      c.loop-direction-test.true (get_or_default _ _ _ _ c.loop-direction-test.true)
      (is_past c.args.nodes.now _ w.in_default.ensures.lookup.3)
      (search rules)
]
