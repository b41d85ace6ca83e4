use Rattle.std.proofs.Common.{◌∙◌, ◌≡◌, ap, Global, length, subst, sym, Vec}
use Rattle.std.proofs.lemmas.Result.{IfOk-weaker}
use Rattle.std.specs.Prelude.{map}
use Rattle.text_replay.proofs.changes.SectionChanges.stretches.Goals as goal
use Rattle.text_replay.proofs.Kept.{given_at, none_at}
use Rattle.text_replay.specs.declared.stretch.Stretch.{Stretch}
use Rattle.text_replay.specs.Noted.{stretches_to}
use Rattle.text_replay.specs.Stretches.{AreStretchesOf, seen_in}

pub returns-in-Some : goal.returns-in-Some
returns-in-Some c = λ n views k len lt.
    let at = c.in-Some.ensures.lookup in
    let list = c.in-Some.changes.now in
    let told : stretches_to c.args.events c.deref-in-Some.result.now ≡ stretches_to (length views) list.items =
    ap (stretches_to c.args.events) c.deref-in-Some.ensures.value ∙ ap (λ e. stretches_to e list.items) (sym len) in
    IfOk-weaker c.stretches_to.result
    (λ (w : Vec Stretch Global). w.items ≡ stretches_to c.args.events c.deref-in-Some.result.now)
    (λ (w : Vec Stretch Global). AreStretchesOf (map (seen_in c.args.section) views) w.items)
    (λ w it. subst (AreStretchesOf (map (seen_in c.args.section) views)) (sym (it ∙ told))
    (given_at n c.args.section views c.args.self.now c.deref.result.now list k lt c.deref.ensures.value at.3.0 at.1))
    c.stretches_to.ensures

pub returns-in-None : goal.returns-in-None
returns-in-None c = λ n views k len lt.
    absurd (none_at n c.args.section views c.args.self.now c.deref.result.now k lt c.deref.ensures.value
    c.in-None.ensures.lookup.3)
