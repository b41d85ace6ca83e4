use Rattle.std.proofs.Common.{◌<◌, ◌∙◌, ◌≡◌, ◌≤◌, length, refl, rules, slice_get, Some}
use Rattle.std.proofs.lemmas.Option.{slice_get_read}
use Rattle.rbc_centre.specs.Views.{frame_number}
use Rattle.rbc_world.proofs.Known.{receiver, world_known}
use Rattle.rbc_world.proofs.Shown.{seen_at, unsent_past}
use Rattle.rbc_world.proofs.world.World.frame_sent.Goals as goal
use Rattle.rbc_world.specs.World.{line_of, state_of}

pub returns-then-from-len-clause-value : goal.returns-then-from-len-clause-value
returns-then-from-len-clause-value c =
    let w = c.args.self.now in
    let within : c.args.from < length w.centres.items = search rules in
    let at : slice_get w.centres.items c.args.from ≡ Some c.index.result.now =
    slice_get_read _ _ _ _ refl within c.index.ensures in
    c.frame.ensures ∙ seen_at w.line w.centres.items w.trains.keys c.args.from
    (λ k. frame_number (k.sent c.args.to) c.args.number) c.index.result.now at

pub returns-then-from-len-clause-receiver : goal.returns-then-from-len-clause-receiver
returns-then-from-len-clause-receiver c =
    let w = c.args.self.now in
    let within : c.args.from < length w.centres.items = search rules in
    let at : slice_get w.centres.items c.args.from ≡ Some c.index.result.now =
    slice_get_read _ _ _ _ refl within c.index.ensures in
    receiver (line_of w) (state_of w) c.args.from c.args.to c.args.number
    (world_known (line_of w) (state_of w) c.known_line.ensures w.reached) c.frame.result
    (c.frame.ensures ∙ seen_at w.line w.centres.items w.trains.keys c.args.from
    (λ k. frame_number (k.sent c.args.to) c.args.number) c.index.result.now at)

pub returns-else-from-len-clause-value : goal.returns-else-from-len-clause-value
returns-else-from-len-clause-value c =
    let w = c.args.self.now in
    let past : length w.centres.items ≤ c.args.from = search rules in
    unsent_past w.line w.centres.items w.trains.keys c.args.from c.args.to c.args.number past
