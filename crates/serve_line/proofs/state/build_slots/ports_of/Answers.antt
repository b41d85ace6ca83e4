use Rattle.std.proofs.Common.{◌∙◌, ap, map, rules}
use Rattle.serve_line.proofs.Ranges.{map_next}
use Rattle.serve_line.proofs.state.build_slots.ports_of.Goals as goal
use Rattle.serve_line.specs.Building.{peer_at, place_of, seats_at, seats_of}

pub loop-number-preserved : goal.loop-number-preserved
loop-number-preserved c =
    let line = c.args.line.now in
    let nodes = c.args.nodes.now in
    let n = c.loop-number.number in
    let endpoint = c.in_ok-endpoint.endpoint in
    record {
      left = search rules;
      seats = map_next seats_of (seats_at line nodes) n _ _ endpoint c.in_ok-push.ensures.items
          (ap (λ peer. (peer, map place_of endpoint.slots.items)) c.in_ok-endpoint.ensures.peer
          ∙ ap (λ places. (peer_at nodes n, places)) c.in_ok-endpoint.ensures.slots)
          c.loop-number.invariant.seats;
    }
