-- The deliveries of a demo.
use Rattle.cli_storm.specs.Links.{last_number}
use Rattle.rbc_spec.specs.Frame.{Frame}
use Rattle.std.specs.Prelude.{[], ◌&&◌, ◌++◌, ◌<◌, ◌==◌, ◌∷◌, ◌≡◌, ◌≤◌, if◌then◌else◌, List, suc, zero, ℕ}
use Rattle.cli_demo.specs.declared.links.Link.{Link}
use Rattle.text_script.specs.rbc_world.declared.event.WorldEvent.{WorldEvent}
use Rattle.text_script.specs.rbc_world.declared.event.WorldEvent.TheVariants.{Deliver}

-- the links from a centre to the first centres, this many, before any frame is sent
abbrev pub links_to : ℕ → ℕ → List Link
links_to from zero = []
links_to from (suc to) = links_to from to ++ record { from = from; to = to; sent = 0; taken = 0 } ∷ []

-- the links from the first centres, this many, to each of a line's centres
abbrev pub links_from : ℕ → ℕ → List Link
links_from count zero = []
links_from count (suc from) = links_from count from ++ links_to from count

-- it delivers a frame that was sent on this link
abbrev pub IsSentOn : Link → WorldEvent → Type 0
IsSentOn link (Deliver from to number) =
    (from ≡ link.from) × (to ≡ link.to) × (0 < number) × (number ≤ link.sent)
IsSentOn link event = ⊥

-- a link after a step of this centre that sent these frames
abbrev pub sent_from : ℕ → (ℕ → List Frame) → Link → Link
sent_from c frames link =
    if link.from == c
    then record { from = link.from; to = link.to; sent = last_number link.sent (frames link.to); taken = link.taken }
    else link

-- a link after a centre has taken the frame of this number from another centre
abbrev pub taken_by : ℕ → ℕ → ℕ → Link → Link
taken_by from to number link =
    if (link.from == from) && (link.to == to)
    then record { from = from; to = to; sent = link.sent; taken = number }
    else link
