use Rattle.std.proofs.Common.{◌∙◌, ◌≡◌, arith, length}
use Rattle.rbc_link.proofs.links.Links.new.Goals as goal
use Rattle.rbc_link.proofs.Posted.{all_linked, HasLinks-more, none_linked}

pub loop-d-init : goal.loop-d-init
loop-d-init g c = record {
  len = c.in_ok-links.ensures.len;
  room = c.in_ok-links.ensures.exact;
  made = none_linked c.args.line.now c.args.centre c.in_ok-links.links.items c.in_ok-links.ensures.items;
}

pub loop-d-preserved : goal.loop-d-preserved
loop-d-preserved g c = record {
  len = omega (arith, c.push_reserved.ensures.len, c.loop-d.invariant.len);
  room = omega (arith, c.push_reserved.ensures.capacity, c.loop-d.invariant.room);
  made = HasLinks-more c.args.line.now c.args.centre c.loop-d.d c.loop-d.links.items c.push_reserved.new.self.items
      c.new.result c.push_reserved.ensures.items
      (c.new.ensures.linked ∙ c.linked.ensures) c.new.ensures.taken c.new.ensures.sent c.loop-d.invariant.made;
}

pub returns-clause-linked : goal.returns-clause-linked
returns-clause-linked g c =
    let all : c.loop-d.d ≡ length c.args.line.now.centres = omega (arith, c.centre_count-count.ensures.value) in
    all_linked c.args.line.now c.args.centre c.loop-d.d c.loop-d.links.items all c.loop-d.invariant.made
