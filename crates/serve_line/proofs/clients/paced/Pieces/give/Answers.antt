use Rattle.std.proofs.Common.{◌+◌, ◌<◌, ◌≡◌, ◌≢◌, ◌∙◌, ap, arith, below_more, get_or, get_or-set_other, get_or-set_same}
use Rattle.std.proofs.Common.{length, List, rules, slice_get, Some, ℕ}
use Rattle.std.proofs.lemmas.Option.{slice_get-get_or, slice_get_within}
use Rattle.serve_line.proofs.clients.paced.Pieces.give.Goals as goal
use Rattle.serve_line.proofs.clients.paced.Pieces.give.Goals.{in_default-take}
use Rattle.serve_line.proofs.clients.paced.Pieces.give.Goals.{in-Some-take+else-count-gt0+else-not-admits}

-- the number at a place
byte_at : (xs : List ℕ) (i j byte : ℕ) → slice_get xs i ≡ Some byte → i ≡ j → byte ≡ get_or xs j 0
byte_at xs i j byte is there =
    let here : slice_get xs i ≡ Some (get_or xs i 0) = slice_get-get_or xs i 0 (slice_get_within xs i byte is) in
    let same : byte ≡ get_or xs i 0 = cc in
    same ∙ ap (λ (k : ℕ). get_or xs k 0) there

pub loop-place-preserved : goal.loop-place-preserved
loop-place-preserved g c =
    let same-given : c.match-take.self.given ≡ c.loop-place.self.given = elim c.match-take.branch [
      | in-Some-take+else-count-gt0+else-not-admits w ↦ search rules
      | in_default-take w ↦ search rules
    ] in
    let same-piece : c.match-take.self.piece ≡ c.loop-place.self.piece = elim c.match-take.branch [
      | in-Some-take+else-count-gt0+else-not-admits w ↦ search rules
      | in_default-take w ↦ search rules
    ] in
    let within : c.loop-place.self.given < length c.loop-place.self.piece =
    slice_get_within c.loop-place.self.piece c.loop-place.self.given c.in-Some.byte c.in-Some.ensures.some.1
    in
    let whole : length c.args.self.now.piece ≡ 4096 = omega arith in
    let long : length c.loop-place.self.piece ≡ 4096 = ap length c.loop-place.invariant.piece ∙ whole in
    let place : c.loop-place.place-index < length c.loop-place.buffer = omega arith in
    record {
      given = omega (arith, within, long, same-given);
      count = omega arith;
      piece = same-piece ∙ c.loop-place.invariant.piece;
      copied = below_more _ _
          (λ k low. let other : k ≢ c.loop-place.place-index = omega arith in
          rw get_or-set_other (c.loop-place.invariant.copied k low))
          (rw get_or-set_same
          (byte_at c.loop-place.self.piece c.loop-place.self.given
          (c.args.self.now.given + c.loop-place.place-index) c.in-Some.byte c.in-Some.ensures.some.1
          c.loop-place.invariant.given
          ∙ ap (λ (xs : List ℕ). get_or xs (c.args.self.now.given + c.loop-place.place-index) 0)
          c.loop-place.invariant.piece));
    }
