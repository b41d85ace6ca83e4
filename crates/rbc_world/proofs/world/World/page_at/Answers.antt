use Rattle.std.proofs.Common.{◌<◌, ◌∙◌, ◌≡◌, ◌≤◌, length, refl, rules, slice_get, Some}
use Rattle.std.proofs.lemmas.Option.{slice_get_read}
use Rattle.rbc_world.proofs.Shown.{seen_at, shut_past, unwished_past}
use Rattle.rbc_world.proofs.world.World.page_at.Goals as goal

pub returns-then-c-len-clause-entry : goal.returns-then-c-len-clause-entry
returns-then-c-len-clause-entry c =
    let within : c.args.c < length c.args.self.now.centres.items = search rules in
    let at : slice_get c.args.self.now.centres.items c.args.c ≡ Some c.index.result.now =
    slice_get_read _ _ _ _ refl within c.index.ensures in
    c.page.ensures.entry ∙ seen_at c.args.self.now.line c.args.self.now.centres.items c.args.self.now.trains.keys
    c.args.c (λ k. k.book c.args.s) c.index.result.now at

pub returns-then-c-len-clause-wish : goal.returns-then-c-len-clause-wish
returns-then-c-len-clause-wish c =
    let within : c.args.c < length c.args.self.now.centres.items = search rules in
    let at : slice_get c.args.self.now.centres.items c.args.c ≡ Some c.index.result.now =
    slice_get_read _ _ _ _ refl within c.index.ensures in
    c.page.ensures.wish ∙ seen_at c.args.self.now.line c.args.self.now.centres.items c.args.self.now.trains.keys
    c.args.c (λ k. k.wish c.args.s) c.index.result.now at

pub returns-else-c-len-clause-entry : goal.returns-else-c-len-clause-entry
returns-else-c-len-clause-entry c =
    let past : length c.args.self.now.centres.items ≤ c.args.c = search rules in
    shut_past c.args.self.now.line c.args.self.now.centres.items c.args.self.now.trains.keys c.args.c c.args.s past

pub returns-else-c-len-clause-wish : goal.returns-else-c-len-clause-wish
returns-else-c-len-clause-wish c =
    let past : length c.args.self.now.centres.items ≤ c.args.c = search rules in
    unwished_past c.args.self.now.line c.args.self.now.centres.items c.args.self.now.trains.keys c.args.c c.args.s past
