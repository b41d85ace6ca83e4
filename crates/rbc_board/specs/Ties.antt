-- The relation between the notes of a caller and the queue of its link.
use Rattle.std.specs.Prelude.{◌≡◌, ◌≤◌, true, Option}
use Rattle.crossbeam_queue.specs.Passes.{view, IsPassOf}
use Rattle.crossbeam_queue.specs.declared.array_queue.Doing.{Doing}
use Rattle.crossbeam_queue.specs.declared.array_queue.Slotted.{Slotted}
use Rattle.rbc_linkmsg.specs.declared.frame.Frame.{Frame}
use Rattle.rbc_board.specs.declared.view.View.{View}
use Rattle.rbc_board.specs.declared.queue.QueueSeen.{QueueSeen}
use Rattle.rbc_board.specs.InStep.{Mem}

-- Its pass is of this queue, and knows the noted frames. The putting caller has its last number, and no number is above
-- that.
pub record IsTied {Q A : Type 0} (q : Slotted (Option Frame) (Doing Frame View) Q A) (s : QueueSeen) : Type 0 where
  pub pass : IsPassOf q s.pass
  pub known : (f : Frame) → Mem f s.known.items → Mem f (view s.pass).known
  pub puts : s.puts ≡ true → ((view s.pass).puts ≡ true) × ((view s.pass).last ≡ s.last)
  pub below : (f : Frame) → Mem f s.known.items → f.number ≤ s.last
