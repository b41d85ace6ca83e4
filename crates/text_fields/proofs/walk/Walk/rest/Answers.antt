use Rattle.std.proofs.Common.{[], ◌<◌, ◌∙◌, ◌≡◌, arith, length, subst, sym}
use Rattle.std.proofs.lemmas.Result.{on_ok_weaker}
use Rattle.text_fields.proofs.Steps.{after_filling, at_end, both, first, second}
use Rattle.text_fields.proofs.walk.Walk.rest.Goals as goal
use Rattle.text_fields.specs.Messages.{filling_fields, packets_shown}
use Rattle.text_fields.specs.Walks.{after, Next, rest_shown, Shows}

pub returns-clause-shows : goal.returns-clause-shows
returns-clause-shows c =
    on_ok_weaker c.filling.result (λ h fill packets laid few e n.
    let noted = c.note_beyond.new.self in
    let same = c.note_beyond.ensures.look in
    let its = packets_shown c.args.side packets in
    let last = filling_fields fill in
    let begun : Next (rest_shown c.args.side packets fill) [] noted.look 0 = subst
    (λ look. Next (rest_shown c.args.side packets fill) [] look 0) (sym same) n in
    let zero : noted.end ≡ 0 = c.note_beyond.ensures.end ∙ e in
    let more = c.in_ok-further.ensures.shows packets (after last []) laid (omega (arith, after_filling fill, few)) zero
    (at_end its (after last []) noted.look noted.end zero (first its last [] noted.look 0 begun)) in
    let left = second its last [] noted.look c.further.new.self.look 0 0 begun more.0 (omega arith) in
    subst (λ look. Shows (rest_shown c.args.side packets fill) [] look c.filling.new.self.look) same
    (both its last [] noted.look c.further.new.self.look c.filling.new.self.look more.0
    (h fill (more.1 ∙ zero) left))) c.filling.ensures.shows
