use Rattle.std.proofs.Common.{◌==◌, ◌∙◌, ap, length, sym}
use Rattle.rbc_centre.proofs.frames.Frames.is_empty.Goals as goal
use Rattle.rbc_centre.proofs.Rows.{none_listed, none_long}
use Rattle.rbc_centre.specs.Listed.{frames_in}

pub returns : goal.returns
returns c =
    let list = c.as_slice.result.now in (
      λ is d. sym (ap (λ f. f d) c.as_slice.ensures.value)
          ∙ ap (λ l. frames_in l d) (none_long list (sym c.is_empty.ensures ∙ is)),
      λ none. c.is_empty.ensures ∙ ap (λ l. length l == 0)
          (none_listed list (λ d. ap (λ f. f d) c.as_slice.ensures.value ∙ none d)),
    )
