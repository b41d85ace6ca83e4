-- The sent frames of a line's links, and the delivery that is drawn by them.
use Rattle.std.specs.List.{filter, range_with_len}
use Rattle.std.specs.Prelude.{[], ◌%◌, ◌*◌, ◌+◌, ◌/◌, ◌==◌, ◌∷◌, Bool, if◌then◌else◌, length, List, map, nat_lt, None}
use Rattle.std.specs.Prelude.{Option, option_map, slice_get, ℕ}
use Rattle.cli_storm.specs.declared.links.Link.{Link}
use Rattle.cli_storm.specs.Draws.{drawn, next}
use Rattle.rbc_spec.specs.Frame.{Frame}
use Rattle.rbc_spec.specs.Line.{Line}
use Rattle.rbc_spec.specs.World.{Answer, Answered, Fault, NoCentre, NotSent, World}
use Rattle.text_script.specs.rbc_world.declared.event.WorldEvent.{WorldEvent}
use Rattle.text_script.specs.rbc_world.declared.event.WorldEvent.TheVariants.{Deliver}

-- the link at a place, for this many centres
abbrev pub link_at : ℕ → World → ℕ → Link
link_at centres w k =
    record { from = k / centres; to = k % centres; sent = length ((w.at (k / centres)).sent (k % centres)) }

-- the links from each centre of the line to each, by sender and then by receiver, with the number of sent frames
abbrev pub all_links : Line → World → List Link
all_links line w = map (link_at (length line.centres) w) (range_with_len 0 (length line.centres * length line.centres))

abbrev pub has_sent : Link → Bool
has_sent l = nat_lt 0 l.sent

-- the links that have sent a frame
abbrev pub sending : Line → World → List Link
sending line w = filter has_sent (all_links line w)

-- The delivery drawn from links that have sent a frame, and the state after the draws. Nothing is drawn if there is no
-- such link. Otherwise one of the links is drawn, and the number of one of its frames or the next number.
abbrev pub delivery : List Link → ℕ → Option WorldEvent × ℕ
delivery from x =
    if length from == 0 then (None, x)
    else (
      option_map (λ l. Deliver l.from l.to (drawn (next (next x)) % (l.sent + 1) + 1))
          (slice_get from (drawn (next x) % length from)),
      next (next x),
    )

-- the number of the last frame, or n if there is none
abbrev pub last_number : ℕ → List Frame → ℕ
last_number n [] = n
last_number n (f ∷ frames) = last_number f.number frames

-- a link after a step of this centre that sent these frames
abbrev pub counted : ℕ → (ℕ → List Frame) → Link → Link
counted c frames l =
    if l.from == c then record { from = l.from; to = l.to; sent = last_number l.sent (frames l.to) } else l

-- the links after an answer at this centre
abbrev pub counted_by : ℕ → Answer → List Link → List Link
counted_by c (Answered o) ls = map (counted c o.frames) ls
counted_by c NoCentre ls = ls
counted_by c NotSent ls = ls
counted_by c (Fault number) ls = ls
