use Rattle.std.proofs.Common.{◌∙◌, sym}
use Rattle.rbc_link.proofs.links.Links.is_full.Goals as goal
use Rattle.rbc_link.proofs.Posted.{is_full_at}

pub returns : goal.returns
returns g c = rw (← c.self.view_is) (c.is_some_full.ensures
    ∙ rw (c.as_slice.ensures.value) (is_full_at c.self.inside.links.items))

pub returns-then-self : goal.returns-then-self
returns-then-self g c = rw (← c.self.view_is) (sym (c.self.invariant (c.if-self.true)).numbers)
