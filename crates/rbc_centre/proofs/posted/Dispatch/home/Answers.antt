use Rattle.std.proofs.Common.{◌∙◌, refl, sym}
use Rattle.rbc_centre.proofs.posted.Dispatch.home.Goals as goal
use Rattle.rbc_spec.specs.Centre.{beginning}

pub returns-then-is_empty : goal.returns-then-is_empty
returns-then-is_empty c = let none = sym c.is_empty.ensures ∙ c.if-is_empty.true in rw none refl

pub returns-in_err-run : goal.returns-in_err-run
returns-in_err-run c =
    let p = c.args.self.now in
    let some = sym c.is_empty.ensures ∙ c.if-is_empty.false in
    let none = c.in_err-run.ensures.exact p.nid_engine (beginning p.line.now p.centre) in
    rw (c.from_residual.ensures, some, none) refl

pub returns : goal.returns
returns c =
    let p = c.args.self.now in
    let some = sym c.is_empty.ensures ∙ c.if-is_empty.false in
    let there = c.in_ok-run.ensures.exact p.nid_engine (beginning p.line.now p.centre) in
    rw (some, there) refl
