use Rattle.std.proofs.Common.{◌&&◌, ◌<◌, ◌∙◌, ◌≡◌, ◌≤◌, ap, arith, Bool, length, sym, ℕ, ⊎_elim}
use Rattle.std.proofs.lemmas.Bool.{cases_lt}
use Rattle.rbc_place.specs.Places.{place_of}
use Rattle.rbc_spec.proofs.Lists.{any-range, any-range_none}
use Rattle.rbc_spec.specs.Line.{is_home}
use Rattle.rbc_spec.specs.Place.{has_front}
use Rattle.rbc_train.proofs.front.has_front_home.Goals as goal

pub loop-s-preserved : goal.loop-s-preserved
loop-s-preserved c s high =
    let test : ℕ → Bool =
    λ e. is_home c.args.line.now c.args.centre e && has_front c.args.line.now (place_of c.args.place) e in
    ⊎_elim
    (λ (before : s < c.loop-s.s). c.loop-s.invariant s before)
    (λ (last : c.loop-s.s ≤ s). let same : s ≡ c.loop-s.s = omega (arith, last, high) in
    ap test same ∙ sym c.is_front_at.ensures ∙ c.if-is_front_at.false)
    (cases_lt s c.loop-s.s)

pub returns-then-is_front_at : goal.returns-then-is_front_at
returns-then-is_front_at c =
    let test : ℕ → Bool =
    λ e. is_home c.args.line.now c.args.centre e && has_front c.args.line.now (place_of c.args.place) e in
    let count = c.section_count-s-end.ensures.value in
    let before = c.loop-s-test.true in
    sym (any-range test 0 (length c.args.line.now.sections) c.loop-s.s (omega arith) (omega (arith, before, count))
    (sym c.is_front_at.ensures ∙ c.if-is_front_at.true))

pub returns : goal.returns
returns c =
    let test : ℕ → Bool =
    λ e. is_home c.args.line.now c.args.centre e && has_front c.args.line.now (place_of c.args.place) e in
    let count = c.section_count-s-end.ensures.value in
    let past = c.loop-s-test.false in
    sym (any-range_none test 0 (length c.args.line.now.sections)
    (λ s low high. c.loop-s.invariant s (omega (arith, high, past, count))))
