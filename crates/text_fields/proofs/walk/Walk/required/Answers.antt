use Rattle.std.proofs.Common.{◌∙◌, ap}
use Rattle.std.proofs.lemmas.Result.{on_ok_weaker}
use Rattle.text_fields.specs.Walks.{count_of}
use Rattle.text_fields.proofs.Wanted.{no_packet, one_packet, two_packets}
use Rattle.text_fields.proofs.walk.Walk.required.Goals as goal

pub returns-in-None-clause-shows : goal.returns-in-None-clause-shows
returns-in-None-clause-shows c = λ packets count laid e.
    no_packet c.args.side packets c.args.self.now.look c.args.self.now.end (count ∙ ap count_of c.in-None.is)

pub returns-in-Position-clause-shows : goal.returns-in-Position-clause-shows
returns-in-Position-clause-shows c =
    on_ok_weaker c.wanted.result (λ h packets count laid e.
    one_packet c.args.side packets c.args.self.now.look c.wanted.new.self.look c.args.self.now.end c.wanted.new.self.end
    (count ∙ ap count_of c.in-Position.is) laid (λ n content is. h n content is e)) c.wanted.ensures.shows

pub returns-in-Authority-clause-shows : goal.returns-in-Authority-clause-shows
returns-in-Authority-clause-shows c =
    on_ok_weaker c.wanted-in-Authority.result (λ h packets count laid e.
    one_packet c.args.side packets c.args.self.now.look c.wanted-in-Authority.new.self.look c.args.self.now.end
    c.wanted-in-Authority.new.self.end
    (count ∙ ap count_of c.in-Authority.is) laid (λ n content is. h n content is e)) c.wanted-in-Authority.ensures.shows

pub returns-in-Order-clause-shows : goal.returns-in-Order-clause-shows
returns-in-Order-clause-shows c =
    on_ok_weaker c.wanted-in-Order.result (λ h packets count laid e.
    one_packet c.args.side packets c.args.self.now.look c.wanted-in-Order.new.self.look c.args.self.now.end
    c.wanted-in-Order.new.self.end
    (count ∙ ap count_of c.in-Order.is) laid (λ n content is. h n content is e)) c.wanted-in-Order.ensures.shows

pub returns-in_ok-wanted-in-PositionAndData-clause-shows : goal.returns-in_ok-wanted-in-PositionAndData-clause-shows
returns-in_ok-wanted-in-PositionAndData-clause-shows c =
    on_ok_weaker c.wanted-in-PositionAndData-2.result (λ h packets count laid e.
    two_packets c.args.side packets c.args.self.now.look c.wanted-in-PositionAndData.new.self.look
    c.wanted-in-PositionAndData-2.new.self.look
    c.args.self.now.end c.wanted-in-PositionAndData.new.self.end c.wanted-in-PositionAndData-2.new.self.end
    (count ∙ ap count_of c.in-PositionAndData.is) laid e
    (λ n content is. c.in_ok-wanted-in-PositionAndData.ensures.shows n content is e)
    (λ n content is m. h n content is m))
    c.wanted-in-PositionAndData-2.ensures.shows
