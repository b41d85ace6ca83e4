use Rattle.std.proofs.Common.{◌-◌, ◌<◌, ◌∙◌, ◌≡◌, ◌≤◌, ap, arith, length, length-append}
use Rattle.text_fields.proofs.Unread.{ahead-long, all_bits_shown, more_bits}
use Rattle.text_fields.proofs.walk.Walk.unread.Goals as goal

pub loop-preserved : goal.loop-preserved
loop-preserved c = record {
  bits = c.in_ok-take.ensures.bits ∙ c.loop.invariant.bits;
  none = λ h.
      let same = c.loop.invariant.none h in
      absurd (omega (
        arith,
        h,
        ap (λ look. length look.1) same.0,
        same.1,
        c.room.ensures,
        c.min-width.ensures,
        c.if-width-eq0.false,
      ));
  unread = λ bits rest e n.
      let u = c.loop.invariant.unread bits rest e n in
      let long = ahead-long bits rest c.args.self.now.look c.loop.self.look c.loop.self.end c.loop.counter u in
      more_bits c.min-width.result bits rest c.args.self.now.look c.loop.self.look c.take.new.self.look
      c.loop.self.end c.take.new.self.end c.loop.counter c.in_ok-take.field-0 u
      (omega (arith, c.if-width-eq0.false))
      (omega (arith, c.min-width.ensures))
      (omega (arith, c.min-width.ensures, c.room.ensures, long))
      (λ few. omega (arith, few, c.min-width.ensures, c.room.ensures, long))
      c.in_ok-take.ensures.shows;
}

pub returns-after-loop-clause-shows : goal.returns-after-loop-clause-shows
returns-after-loop-clause-shows c = λ bits rest e n.
    let u = c.loop.invariant.unread bits rest e n in
    all_bits_shown bits rest c.args.self.now.look c.loop.self.look c.loop.self.end c.loop.counter u
    (omega (
      arith,
      u.few,
      c.loop-test.false,
      c.room-end.ensures,
      ap length e,
      length-append bits rest,
      n,
    ))

pub returns-then-width-eq0-clause-shows : goal.returns-then-width-eq0-clause-shows
returns-then-width-eq0-clause-shows c = λ bits rest e n.
    let u = c.loop.invariant.unread bits rest e n in
    let long = ahead-long bits rest c.args.self.now.look c.loop.self.look c.loop.self.end c.loop.counter u in
    all_bits_shown bits rest c.args.self.now.look c.loop.self.look c.loop.self.end c.loop.counter u
    (omega (arith, c.min-width.ensures, c.room.ensures, long, c.if-width-eq0.true))
