use Rattle.std.proofs.Common.{◌+◌, ◌≡◌, arith, length, length-append, length-drop, length-take, subst, sym, ℕ}
use Rattle.std.specs.Io.KnownBytes.{Consumes}
use Rattle.cli_drive.proofs.Buffers.{two_parts}
use Rattle.cli_drive.proofs.MessagePrints.{takes_both}
use Rattle.cli_drive.proofs.connection.next_bytes.Goals as goal

pub returns-clause-read : goal.returns-clause-read
returns-clause-read g c =
    let head = c.read_exact.new.buf in
    let rest = c.read_exact-2.new.buf in
    let n = c.length_of-length.result in
    let first : length head ≡ 3 = omega (arith, c.read_exact.auto.buf, length-take {A = ℕ}) in
    let second : length rest + 3 ≡ n =
    omega (arith, c.read_exact-2.auto.buf, length-take {A = ℕ}, length-drop {A = ℕ}, length-append {A = ℕ}) in
    subst (Consumes _ _) (sym (two_parts n c.args.buffer.now head rest first second))
    (takes_both _ _ _ head rest c.in_ok-read_exact.ensures.bytes c.in_ok-read_exact-2.ensures.bytes)
