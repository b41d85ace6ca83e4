use Rattle.std.proofs.Common.{◌≢◌, All, take}
use Rattle.serve_workers.proofs.writing.lane.place_of.Given as goal

abbrev pub invariant-loop-place : goal.invariant-loop-place
invariant-loop-place l = All (λ reply. reply.message.t_train ≢ l.t_train) (take l.place l.replies)
