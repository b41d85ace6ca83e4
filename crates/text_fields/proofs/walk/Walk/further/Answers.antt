use Rattle.std.proofs.Common.{◌+◌, ◌-◌, ◌<◌, ◌∙◌, ◌≡◌, ◌≤◌, ap, arith, length, subst, sym}
use Rattle.text_fields.proofs.Further.{all_passed, one_passed, Passed}
use Rattle.text_fields.proofs.walk.Walk.further.Goals as goal
use Rattle.text_fields.specs.Shown.{all_bits}

pub loop-preserved : goal.loop-preserved
loop-preserved c = record {
  bits = ap all_bits c.note_further.ensures.look ∙ (c.in_ok-number.ensures.bits ∙ c.loop.invariant.bits);
  passed = λ packets rest laid less e n.
      let p = c.loop.invariant.passed packets rest laid less e n in
      let q = one_passed c.args.side packets rest c.args.self.now.look c.loop.self.look c.packet.new.self.look
      c.args.self.now.end c.loop.self.end c.packet.new.self.end c.loop.counter p
      (omega (arith, c.room.ensures, c.if-room-lt8.false)) less e c.in_ok-number.ensures.shows in
      subst (λ look. Passed c.args.side packets rest c.args.self.now.look look c.args.self.now.end
      c.note_further.new.self.end (c.loop.counter + 1)) (sym c.note_further.ensures.look)
      (subst (λ end. Passed c.args.side packets rest c.args.self.now.look c.packet.new.self.look c.args.self.now.end
      end (c.loop.counter + 1)) (sym c.note_further.ensures.end) q);
}

pub returns-after-loop-clause-shows : goal.returns-after-loop-clause-shows
returns-after-loop-clause-shows c = λ packets rest laid less e n.
    let p = c.loop.invariant.passed packets rest laid less e n in
    all_passed c.args.side packets rest c.args.self.now.look c.loop.self.look c.args.self.now.end c.loop.self.end
    c.loop.counter p (omega (arith, p.few, c.loop-test.false, c.room-end.ensures, e))

pub returns-then-room-lt8-clause-shows : goal.returns-then-room-lt8-clause-shows
returns-then-room-lt8-clause-shows c = λ packets rest laid less e n.
    all_passed c.args.side packets rest c.args.self.now.look c.loop.self.look c.args.self.now.end c.loop.self.end
    c.loop.counter (c.loop.invariant.passed packets rest laid less e n)
    (omega (arith, c.room.ensures, c.if-room-lt8.true))
