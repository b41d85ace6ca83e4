use Rattle.text_prints.proofs.reader.Reader.row.Goals as goal
use Rattle.text_prints.specs.Exchanges.{Begins}

pub returns-in_ok-next-in-Some : goal.returns-in_ok-next-in-Some
returns-in_ok-next-in-Some c =
    Begins c.in-Some.text.now c.in-Some.ensures c.take-complete.ensures.value c.in_ok-next-in-Some.ensures
