use Rattle.std.proofs.Common.{◌+◌, ◌∙◌, drop, get_or, refl, subst, sym, true≢false}
use Rattle.text_fields.proofs.Along.{all_shown, Along, along, cut, drop_all, no_row}
use Rattle.text_fields.proofs.walk.Walk.rows.Goals as goal
use Rattle.text_fields.specs.Senses.{AreKinds}

pub returns-then-not-branch-clause-shows : goal.returns-then-not-branch-clause-shows
returns-then-not-branch-clause-shows c = λ fields are rest n.
    let i = c.loop-name.name-index in
    let s = along (get_or c.args.rows.now i no_row) (drop (i + 1) c.args.rows.now) fields rest c.args.self.now.look
    c.args.self.now.end c.args.self.now.last
    c.loop-name.self.look c.take.new.self.look c.loop-name.self.end c.take.new.self.end c.loop-name.self.last
    c.take.new.self.last c.in_ok-take.field-0
    (subst (λ rows. Along rows fields rest c.args.self.now.look c.args.self.now.end c.args.self.now.last
    c.loop-name.self.look c.loop-name.self.end c.loop-name.self.last)
    (cut c.args.rows.now i c.loop-name-test.true) (c.loop-name.invariant.along fields rest are n))
    c.in_ok-take.ensures.shows c.in_ok-take.ensures.last in
    absurd (true≢false (sym s.0 ∙ c.if-not-branch.true))

pub returns-then-not-branch-clause-last : goal.returns-then-not-branch-clause-last
returns-then-not-branch-clause-last c = λ fields rest are n.
    let i = c.loop-name.name-index in
    let s = along (get_or c.args.rows.now i no_row) (drop (i + 1) c.args.rows.now) fields rest c.args.self.now.look
    c.args.self.now.end c.args.self.now.last
    c.loop-name.self.look c.take.new.self.look c.loop-name.self.end c.take.new.self.end c.loop-name.self.last
    c.take.new.self.last c.in_ok-take.field-0
    (subst (λ rows. Along rows fields rest c.args.self.now.look c.args.self.now.end c.args.self.now.last
    c.loop-name.self.look c.loop-name.self.end c.loop-name.self.last)
    (cut c.args.rows.now i c.loop-name-test.true) (c.loop-name.invariant.along fields rest are n))
    c.in_ok-take.ensures.shows c.in_ok-take.ensures.last in
    absurd (true≢false (sym s.0 ∙ c.if-not-branch.true))

pub take-requires : goal.take-requires
take-requires c =
    (subst AreKinds (cut c.args.rows.now c.loop-name.name-index c.loop-name-test.true) c.loop-name.invariant.kinds).0

pub loop-name-preserved : goal.loop-name-preserved
loop-name-preserved c = record {
  kinds =
      (subst AreKinds (cut c.args.rows.now c.loop-name.name-index c.loop-name-test.true) c.loop-name.invariant.kinds).1;
  bits = c.in_ok-take.ensures.bits ∙ c.loop-name.invariant.bits;
  along = λ fields rest are n.
      let i = c.loop-name.name-index in
      (along (get_or c.args.rows.now i no_row) (drop (i + 1) c.args.rows.now) fields rest c.args.self.now.look
      c.args.self.now.end c.args.self.now.last
      c.loop-name.self.look c.take.new.self.look c.loop-name.self.end c.take.new.self.end c.loop-name.self.last
      c.take.new.self.last c.in_ok-take.field-0
      (subst (λ rows. Along rows fields rest c.args.self.now.look c.args.self.now.end c.args.self.now.last
      c.loop-name.self.look c.loop-name.self.end c.loop-name.self.last)
      (cut c.args.rows.now i c.loop-name-test.true) (c.loop-name.invariant.along fields rest are n))
      c.in_ok-take.ensures.shows c.in_ok-take.ensures.last).1;
}

pub returns-clause-shows : goal.returns-clause-shows
returns-clause-shows c = λ fields are rest n.
    let s = all_shown fields rest c.args.self.now.look c.args.self.now.end c.args.self.now.last c.loop-name.self.look
    c.loop-name.self.end c.loop-name.self.last
    (subst (λ rows. Along rows fields rest c.args.self.now.look c.args.self.now.end c.args.self.now.last
    c.loop-name.self.look c.loop-name.self.end c.loop-name.self.last)
    (drop_all c.args.rows.now c.loop-name.name-index c.loop-name-test.false)
    (c.loop-name.invariant.along fields rest are n)) in
    (refl, s.0, s.1)
