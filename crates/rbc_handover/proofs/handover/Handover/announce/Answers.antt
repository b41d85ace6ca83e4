use Rattle.std.proofs.Common.{◌∙◌, ap, Some, sym}
use Rattle.rbc_handover.proofs.Gives.{announces_next, announces_no_more}
use Rattle.rbc_handover.proofs.handover.Handover.announce.Goals as goal
use Rattle.rbc_handover.specs.Handings.{handing_of}

pub returns-then-stands-clause-exact : goal.returns-then-stands-clause-exact
returns-then-stands-clause-exact c line t m k is counted some =
    announces_no_more line t c.args.to m k (handing_of c.args.self.now) c.args.count.now
    (sym c.stands.ensures ∙ c.if-stands.true) is counted

pub returns-clause-exact : goal.returns-clause-exact
returns-clause-exact c line t m k is counted some =
    announces_next line t c.args.to m k (handing_of c.args.self.now)
    (handing_of c.hold.new.held) c.args.count.now c.take_next-number.result c.take_next-number.new.self
    (sym c.stands.ensures ∙ c.if-stands.false) is counted some c.take_next-number.ensures.number
    (ap handing_of c.hold.ensures
    ∙ (λ i. Some (record {
      number = (c.begin.ensures.number ∙ c.take_next-number.ensures.number) i;
      to = c.begin.ensures.centre i;
    })))
    c.take_next-number.ensures.count
