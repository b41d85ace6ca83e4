use Rattle.std.proofs.Common.{◌+◌, ◌++◌, ◌-◌, ◌^◌, ◌≡◌, min}
use Rattle.cli_demo.proofs.radio.Radio.answer.Given as goal
use Rattle.cli_demo.specs.Flights.{sent_down}

-- the first messages are sent
abbrev pub invariant-loop-which : goal.invariant-loop-which
invariant-loop-which l =
    (l.self.loss ≡ l.fn.self.loss)
    × (l.self.sent ≡ min (l.fn.self.sent + l.which) (2 ^ 64 - 1))
    × (l.fn.self.loss ≡ 0 → l.self.flights.items ≡ l.fn.self.flights.items ++ sent_down l.answer l.which)
