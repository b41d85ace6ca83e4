use Rattle.std.proofs.Common.{[], ◌++◌, ◌∙◌, ◌∷◌, ◌≡◌, ap, append-nil, append_assoc, arith, List, refl, reverse, subst}
use Rattle.std.proofs.Common.{sym}
use Rattle.std.proofs.lemmas.List.{nil_from_length, reverse-append, reverse-reverse}
use Rattle.std.proofs.lemmas.Result.{err_from_is_err_and}
use Rattle.rbc_centre.specs.declared.event.Event.TheVariants.{Train}
use Rattle.rbc_msgs.specs.TrainText.{TrainText}
use Rattle.rbc_node.specs.Node.{centre_of, RefusesAt}
use Rattle.rbc_node.specs.Receipts.{ShareValue}
use Rattle.serve_workers.proofs.session.commit_all.Goals as goal
use Rattle.serve_workers.proofs.Turns.{joins-none, joins-same, joins-then}
use Rattle.serve_workers.specs.Session.{Joins}

-- the next message is the first of the remaining ones
next_of : (old new : List TrainText) (m : TrainText) → old ≡ new ++ m ∷ [] → reverse old ≡ m ∷ reverse new
next_of old new m h = ap reverse h ∙ reverse-append new (m ∷ [])

-- a reversed list, reversed again
forwards : (given turned : List TrainText) → turned ≡ reverse given → given ≡ reverse turned
forwards given turned h = sym (reverse-reverse given) ∙ ap reverse (sym h)

pub loop-message-init : goal.loop-message-init
loop-message-init g c = ([], joins-none (centre_of c.args.node.now) c.args.share.now, refl)

pub loop-message-preserved : goal.loop-message-preserved
loop-message-preserved g c =
    let before = c.loop-message.invariant in
    let m : TrainText = c.in-Some.message in
    let left : List TrainText = c.pop.new.self.items in
    let next : reverse c.loop-message.messages.items ≡ m ∷ reverse left =
    next_of c.loop-message.messages.items left m c.in-Some.ensures.items in (
      before.0 ++ m ∷ [],
      joins-then (centre_of c.args.node.now) c.args.share.now c.loop-message.share c.commit_one.new.share before.0
          (m ∷ []) before.1 c.in_ok-commit_one.ensures.joins,
      before.2 ∙ ap (λ xs. before.0 ++ xs) next ∙ sym (append_assoc before.0 (m ∷ []) (reverse left)),
    )

pub returns-in_err-commit_one-clause-commits : goal.returns-in_err-commit_one-clause-commits
returns-in_err-commit_one-clause-commits g c =
    let p = err_from_is_err_and c.from_residual.result c.from_residual.ensures.1 in
    let before = c.loop-message.invariant in
    let m : TrainText = c.in-Some.message in
    let left : List TrainText = c.pop.new.self.items in
    let next : reverse c.loop-message.messages.items ≡ m ∷ reverse left =
    next_of c.loop-message.messages.items left m c.in-Some.ensures.items in
    let same : c.commit_one.new.share ≡ c.loop-message.share = c.in_err-commit_one.ensures.err in
    let all : c.args.messages.now.items ≡ before.0 ++ m ∷ reverse left =
    forwards c.args.messages.now.items c.reverse.new.self.items c.reverse.ensures.items ∙ before.2
    ∙ ap (λ xs. before.0 ++ xs) next in
    let refused : RefusesAt (centre_of c.args.node.now) c.commit_one.new.share (Train m) c.in_err-commit_one.field-0.0 =
    subst (λ (s : ShareValue). RefusesAt (centre_of c.args.node.now) s (Train m) c.in_err-commit_one.field-0.0)
    (sym same) c.in_err-commit_one.ensures.refused in
    rw (p.1, p.2) (
      before.0,
      m,
      reverse left,
      all,
      joins-same (centre_of c.args.node.now) c.args.share.now c.loop-message.share c.commit_one.new.share before.0
          same before.1,
      refused,
    )

pub returns-clause-commits : goal.returns-clause-commits
returns-clause-commits g c =
    let before = c.loop-message.invariant in
    let empty : c.loop-message.messages.items ≡ [] =
    nil_from_length c.loop-message.messages.items (omega (arith, c.in_default.ensures.cases.0)) in
    let all : before.0 ≡ c.args.messages.now.items =
    sym (forwards c.args.messages.now.items c.reverse.new.self.items c.reverse.ensures.items ∙ before.2
    ∙ ap (λ xs. before.0 ++ reverse xs) empty ∙ append-nil before.0) in
    subst (λ (ms : List TrainText). Joins (centre_of c.args.node.now) c.args.share.now c.loop-message.share ms)
    all before.1
