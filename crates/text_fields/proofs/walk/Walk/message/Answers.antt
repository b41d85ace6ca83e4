use Rattle.std.proofs.Common.{[], ◌++◌, ◌∙◌, ◌≡◌, ap, length, subst, sym, true≢false}
use Rattle.std.proofs.lemmas.Result.{on_ok_weaker}
use Rattle.std.specs.List.{AllByRecursion}
use Rattle.std.specs.Prelude.{MatchOption}
use Rattle.text_fields.proofs.Message.{goes, nid_message}
use Rattle.text_fields.proofs.Steps.{both}
use Rattle.text_fields.proofs.walk.Walk.message.Goals as goal
use Rattle.text_fields.specs.declared.bodies.Body.{Body}
use Rattle.text_fields.specs.declared.bodies.TheConstants as tables
use Rattle.text_fields.specs.declared.messages.Side.{Side}
use Rattle.text_fields.specs.Messages.{packets_shown}
use Rattle.text_fields.specs.Walks.{body_at, count_of, IsHead, IsLaidPacket, IsOwn, Next, rest_shown, Shows, side_of}

pub returns-then-not-branch-clause-shows : goal.returns-then-not-branch-clause-shows
returns-then-not-branch-clause-shows c = λ n fill head own packets further laid few e next.
    let t =
    goes (nid_message n) (head ++ (own ++ (packets_shown (side_of n) packets ++ rest_shown (side_of n) further fill)))
    c.args.self.now.look c.take.new.self.look c.args.self.now.end c.take.new.self.end
    c.in_ok-take.field-0 (c.in_ok-take.ensures.shows n) e next in
    absurd (true≢false (sym t.is_there ∙ c.if-not-branch.true))

pub returns-then-not-branch-2-clause-shows : goal.returns-then-not-branch-2-clause-shows
returns-then-not-branch-2-clause-shows c = λ n fill head own packets further laid few e next.
    let t =
    goes (nid_message n) (head ++ (own ++ (packets_shown (side_of n) packets ++ rest_shown (side_of n) further fill)))
    c.args.self.now.look c.take.new.self.look c.args.self.now.end c.take.new.self.end
    c.in_ok-take.field-0 (c.in_ok-take.ensures.shows n) e next in
    let number = c.in_ok-take.ensures.last n _ t.its in
    let side : side_of n ≡ c.of-side.result = sym (c.of-side.ensures ∙ ap side_of number) in
    let u = goes head (own ++ (packets_shown (side_of n) packets ++ rest_shown (side_of n) further fill))
    c.take.new.self.look
    c.header.new.self.look c.take.new.self.end c.header.new.self.end
    c.in_ok-header.field-0 (c.in_ok-header.ensures.shows head
    (subst (λ (s : Side). IsHead s head) side laid.head_is)) t.end_is t.next in
    absurd (true≢false (sym u.is_there ∙ c.if-not-branch-2.true))

pub returns-in-None-clause-shows : goal.returns-in-None-clause-shows
returns-in-None-clause-shows c = λ n fill head own packets further laid few e next.
    let t =
    goes (nid_message n) (head ++ (own ++ (packets_shown (side_of n) packets ++ rest_shown (side_of n) further fill)))
    c.args.self.now.look c.take.new.self.look c.args.self.now.end c.take.new.self.end
    c.in_ok-take.field-0 (c.in_ok-take.ensures.shows n) e next in
    let number = c.in_ok-take.ensures.last n _ t.its in
    let found = subst (λ found. MatchOption found ⊥ (λ (body : Body). IsOwn body.own own
    × (length packets ≡ count_of body.packets)))
    (ap (λ k. body_at k tables.BODIES.now) (sym number) ∙ (sym c.body_of.ensures ∙ c.in-None.is)) laid.body in
    absurd found

pub returns-in-Some-clause-shows : goal.returns-in-Some-clause-shows
returns-in-Some-clause-shows c =
    on_ok_weaker c.body.result (λ h n fill head own packets further laid few e next.
    let t =
    goes (nid_message n) (head ++ (own ++ (packets_shown (side_of n) packets ++ rest_shown (side_of n) further fill)))
    c.args.self.now.look c.take.new.self.look c.args.self.now.end c.take.new.self.end
    c.in_ok-take.field-0 (c.in_ok-take.ensures.shows n) e next in
    let number = c.in_ok-take.ensures.last n _ t.its in
    let side : side_of n ≡ c.of-side.result = sym (c.of-side.ensures ∙ ap side_of number) in
    let u = goes head (own ++ (packets_shown (side_of n) packets ++ rest_shown (side_of n) further fill))
    c.take.new.self.look
    c.header.new.self.look c.take.new.self.end c.header.new.self.end
    c.in_ok-header.field-0 (c.in_ok-header.ensures.shows head
    (subst (λ (s : Side). IsHead s head) side laid.head_is)) t.end_is t.next in
    let found = subst (λ found. MatchOption found ⊥ (λ (body : Body). IsOwn body.own own
    × (length packets ≡ count_of body.packets)))
    (ap (λ k. body_at k tables.BODIES.now) (sym number) ∙ (sym c.body_of.ensures ∙ c.in-Some.is)) laid.body in
    let last = subst (λ (s : Side). Shows (own ++ (packets_shown s packets ++ rest_shown s further fill)) []
    c.header.new.self.look c.body.new.self.look) (sym side)
    (h fill own packets further found.0 found.1 (subst (λ (s : Side). AllByRecursion (IsLaidPacket s) packets) side
    laid.packets_are) (subst (λ (s : Side). AllByRecursion (IsLaidPacket s) further) side laid.further_are) few u.end_is
    (subst (λ (s : Side). Next (own ++ (packets_shown s packets ++ rest_shown s further fill)) []
    c.header.new.self.look 0)
    side u.next)) in
    both (nid_message n) (head ++ (own ++ (packets_shown (side_of n) packets ++ rest_shown (side_of n) further fill)))
    []
    c.args.self.now.look c.take.new.self.look c.body.new.self.look t.shows
    (both head (own ++ (packets_shown (side_of n) packets ++ rest_shown (side_of n) further fill)) []
    c.take.new.self.look
    c.header.new.self.look c.body.new.self.look u.shows last)) c.body.ensures.shows
