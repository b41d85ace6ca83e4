-- The links of a centre, after the frames of one step were sent in order.
use Rattle.std.specs.Prelude.{ℕ, ◌≡◌, ◌+◌, List, ◌++◌, length}
use Rattle.rbc_spec.specs.Frame.{Body}
use Rattle.rbc_spec.specs.Step.{numbered}
use Rattle.rbc_link.specs.declared.link.Link.{Link}
use Rattle.rbc_link.specs.Outgoing.{frames_by}
use Rattle.rbc_link.specs.Links.{has_link, taken_from, sent_to, room_to}

-- each centre was sent these bodies, numbered in order after the frames sent before; each took the room of one
pub record HasPosted {B : Type 0} (meaning : B → Body) (stamp : ℕ) (bodies : ℕ → List Body)
    (old new : List (Link B)) : Type 0 where
  pub count : length new ≡ length old
  pub linked : (d : ℕ) → has_link new d ≡ has_link old d
  pub taken : (d : ℕ) → taken_from new d ≡ taken_from old d
  pub sent : (d : ℕ) → frames_by meaning (sent_to new d)
      ≡ frames_by meaning (sent_to old d) ++ numbered stamp (length (sent_to old d)) (bodies d)
  pub room : (d : ℕ) → room_to old d ≡ room_to new d + length (bodies d)
