-- The ports of connections that are added one after the other.
use Rattle.std.proofs.Common.{[], ◌++◌, ◌+◌, ◌∙◌, ◌∷◌, ◌≡◌, ap, append_assoc, arith, List, map, suc, sym, ℕ}
use Rattle.std.proofs.lemmas.List.{map-append}
use Rattle.cli_drive.specs.Calls.{ports, ports_of_trains}
use Rattle.cli_drive.specs.declared.trains.connection.Connection.{Connection}

ports_on : (first i : ℕ) → ports first (i + 1) ≡ ports first i ++ (first + i) ∷ []
ports_on first i = let more : i + 1 ≡ suc i = omega arith in ap (λ n. ports first n) more

pub trains_on : (first centres i : ℕ)
    → ports_of_trains first centres (i + 1) ≡ ports_of_trains first centres i ++ ports first centres
trains_on first centres i =
    let more : i + 1 ≡ suc i = omega arith in ap (λ n. ports_of_trains first centres n) more

pub port_on : (first i : ℕ) (old xs : List Connection) (x : Connection)
    → map (λ (x : Connection). x.port) xs ≡ map (λ (x : Connection). x.port) old ++ ports first i
    → x.port ≡ first + i
    → map (λ (x : Connection). x.port) (xs ++ x ∷ [])
    ≡ map (λ (x : Connection). x.port) old ++ ports first (i + 1)
port_on first i old xs x before at =
    map-append (λ (x : Connection). x.port) xs (x ∷ [])
    ∙ ap (λ ps. ps ++ (x.port ∷ [])) before
    ∙ append_assoc (map (λ (x : Connection). x.port) old) (ports first i) (x.port ∷ [])
    ∙ ap (λ p. map (λ (x : Connection). x.port) old ++ (ports first i ++ (p ∷ []))) at
    ∙ ap (λ ps. map (λ (x : Connection). x.port) old ++ ps) (sym (ports_on first i))
