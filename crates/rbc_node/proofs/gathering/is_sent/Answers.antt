use Rattle.std.proofs.Common.{◌<◌, ◌≡◌, ◌≤◌, ap, false, IsTrue, length, None, refl, rules, slice_get, slice_index_or}
use Rattle.std.proofs.Common.{Some, subst, sym}
use Rattle.std.proofs.lemmas.Option.{slice_get_past, slice_get_read}
use Rattle.std.specs.Bool.{Decides}
use Rattle.rbc_centre.proofs.SameFrames.{same_frames}
use Rattle.rbc_centre.specs.declared.event.Event.{Event}
use Rattle.rbc_log.specs.Log.{LogValue}
use Rattle.rbc_node.proofs.Gathered.{not_sent, sent_if}
use Rattle.rbc_node.proofs.gathering.is_sent.Goals as goal
use Rattle.rbc_node.specs.Sent.{IsSent}
use Rattle.rbc_spec.specs.Frame.{Frame}

one_frame : (f g : Frame) → Some f ≡ Some g → f ≡ g
one_frame f g e = cc

pub returns-in-Some-frame : goal.returns-in-Some-frame
returns-in-Some-frame c =
    let logs = c.args.logs.now in
    let l : LogValue = c.in-Some.sender.now in
    let within : c.in-Deliver.from < length logs = search rules in
    let there : l ≡ slice_index_or logs c.in-Deliver.from l = search rules in
    let here : slice_get logs c.in-Deliver.from ≡ Some l =
    slice_get_read logs (length logs) c.in-Deliver.from l refl within there in
    let same : Decides c.eq.result (c.in-Some-frame.sent ≡ c.in-Deliver.frame) = search (rules, same_frames) in
    subst (λ (e : Event). (IsTrue c.eq.result → IsSent logs c.args.centre e)
    × (IsSent logs c.args.centre e → IsTrue c.eq.result)) (sym c.in-Deliver.is)
    (sent_if logs c.args.centre c.in-Deliver.from c.in-Deliver.frame l (Some c.in-Some-frame.sent) c.eq.result here
    (search rules)
    ((λ t. ap Some (same.0 t)), λ e. same.1 (one_frame c.in-Some-frame.sent c.in-Deliver.frame e)))

pub returns-in-None-frame : goal.returns-in-None-frame
returns-in-None-frame c =
    let logs = c.args.logs.now in
    let l : LogValue = c.in-Some.sender.now in
    let within : c.in-Deliver.from < length logs = search rules in
    let there : l ≡ slice_index_or logs c.in-Deliver.from l = search rules in
    let here : slice_get logs c.in-Deliver.from ≡ Some l =
    slice_get_read logs (length logs) c.in-Deliver.from l refl within there in
    subst (λ (e : Event). (IsTrue false → IsSent logs c.args.centre e) × (IsSent logs c.args.centre e → IsTrue false))
    (sym c.in-Deliver.is)
    (sent_if logs c.args.centre c.in-Deliver.from c.in-Deliver.frame l None false here (search rules)
    ((λ h. absurd cc), λ h. absurd cc))

pub returns-in-None : goal.returns-in-None
returns-in-None c =
    let logs = c.args.logs.now in
    let past : length logs ≤ c.in-Deliver.from = search rules in
    subst (λ (e : Event). (IsTrue false → IsSent logs c.args.centre e) × (IsSent logs c.args.centre e → IsTrue false))
    (sym c.in-Deliver.is) (
      (λ h. absurd cc),
      λ h. absurd
          (not_sent logs c.args.centre c.in-Deliver.from c.in-Deliver.frame
          (slice_get_past logs c.in-Deliver.from past) h),
    )
