use Rattle.std.proofs.Common.{◌≡◌, rules}
use Rattle.std.specs.Bool.{Decides}
use Rattle.rbc_centre.proofs.Alike.{alike, sayings_apart}
use Rattle.rbc_centre.proofs.same.same_sayings.Goals as goal
use Rattle.rbc_msgs.specs.contracts.track.TrackMsgPartialEq.TheImpl as messages
use Rattle.rbc_spec.specs.Message.{TrackMessage}
use Rattle.rbc_train.specs.contracts.saying.SayingPartialEq.TheImpl as sayings
use Rattle.rbc_train.specs.Sayings.{saying_of}

same_messages : (a b : TrackMessage) → Decides (messages.eq-value.it a b) (a ≡ b)
same_messages a b = search rules

pub returns : goal.returns
returns c =
    alike saying_of sayings.eq-value.it (λ a b. search (rules, same_messages)) sayings_apart c.args.sayings.now
    c.args.others.now c.eq.result c.eq.ensures
