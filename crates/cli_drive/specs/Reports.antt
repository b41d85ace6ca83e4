-- The print of trains over TCP.
use Rattle.std.specs.Fmt.{decimal}
use Rattle.std.specs.Prelude.{[], ◌++◌, ◌-◌, ◌^◌, ◌∷◌, ◌≡◌, ◌≤◌, Bool, codes, if◌then◌else◌, length, List, min, nat_lt}
use Rattle.std.specs.Prelude.{sum_by, ℕ}
use Rattle.rbc_spec.specs.Line.{Line}
use Rattle.cli_drive.specs.Rows.{AreTrainRows}
use Rattle.cli_drive.specs.declared.trains.calls.Calls.{Calls}
use Rattle.cli_drive.specs.declared.trains.radio.Radio.{Radio}
use Rattle.cli_drive.specs.declared.trains.train.Train.{Train}

-- the verdict on all seconds
abbrev pub verdict : Bool → List ℕ
verdict are_apart =
    if are_apart then codes "At no second were two trains on one section."
    else codes "FAILED: two trains were on one section."

-- the second at which the trains were shown last: this one, if 60 seconds or more have passed
abbrev pub shown_again : ℕ → ℕ → ℕ
shown_again shown second = if nat_lt (second - shown) 60 then shown else second

-- how many connections were opened
abbrev pub opened : Calls → ℕ
opened calls = min (sum_by (λ connection. connection.opened) calls.connections.items) (2 ^ 64 - 1)

-- the line with the counts of the run: its seconds, its messages, its connections and its handovers
abbrev pub counts_row : ℕ → Radio → Calls → ℕ → List ℕ
counts_row seconds radio calls handovers =
    decimal seconds ++ (codes " seconds, " ++ (decimal radio.sent ++ (codes " messages, " ++ (decimal radio.lost
    ++ (codes " lost, " ++ (decimal radio.delayed ++ (codes " late, " ++ (decimal (opened calls)
    ++ (codes " connections, " ++ (decimal handovers ++ (codes " handovers" ++ 10 ∷ [])))))))))))

-- the line with how many of the trains have arrived
abbrev pub arrivals_row : ℕ → ℕ → List ℕ
arrivals_row arrived trains =
    decimal arrived ++ (codes " of " ++ (decimal trains ++ (codes " trains arrived" ++ 10 ∷ [])))

-- the last lines at a second: a line for each train, the counts, the arrivals, and the verdict
abbrev pub IsEnding : Line → ℕ → List Train → List ℕ → Bool → List ℕ → Type 0
IsEnding line second trains counts are_apart text =
    (rows : List ℕ) × (arrived : ℕ) × AreTrainRows line second trains rows × (arrived ≤ length trains)
    × (text ≡ rows ++ (counts ++ (arrivals_row arrived (length trains) ++ (verdict are_apart ++ 10 ∷ []))))
