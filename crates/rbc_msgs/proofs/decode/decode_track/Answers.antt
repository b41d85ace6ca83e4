use Rattle.std.proofs.Common.{◌∙◌, sym}
use Rattle.rbc_msgs.proofs.decode.decode_track.Goals as goal
use Rattle.rbc_msgs.proofs.TrackLaws.{read_track-again}

pub returns-in-Some-clause-only : goal.returns-in-Some-clause-only
returns-in-Some-clause-only c = λ m s. sym c.in-Some.ensures.exact ∙ read_track-again c.args.bytes.now m s

pub returns-in-Some-transition-clause-only : goal.returns-in-Some-transition-clause-only
returns-in-Some-transition-clause-only c =
    λ m s. sym c.in-Some-transition.ensures.exact ∙ read_track-again c.args.bytes.now m s

pub returns-in-Some-bare-clause-only : goal.returns-in-Some-bare-clause-only
returns-in-Some-bare-clause-only c = λ m s. sym c.in-Some-bare.ensures.exact ∙ read_track-again c.args.bytes.now m s

pub returns-in-Some-end_of_session-clause-only : goal.returns-in-Some-end_of_session-clause-only
returns-in-Some-end_of_session-clause-only c =
    λ m s. sym c.in-Some-end_of_session.ensures.exact ∙ read_track-again c.args.bytes.now m s

pub returns-in-Ok-clause-only : goal.returns-in-Ok-clause-only
returns-in-Ok-clause-only c = λ m s. c.in-Ok.ensures.exact ∙ read_track-again c.args.bytes.now m s

pub returns-in-Err-clause-only : goal.returns-in-Err-clause-only
returns-in-Err-clause-only c = λ m s. c.in-Err.ensures.exact ∙ read_track-again c.args.bytes.now m s
