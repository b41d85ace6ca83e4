-- The missions of a diagram.
use Rattle.std.specs.Option.{option_map_or}
use Rattle.std.specs.Prelude.{◌&&◌, ◌+◌, ◌-◌, ◌==◌, ◌^◌, ◌||◌, Bool, codes, false, if◌then◌else◌, List, nat_lt}
use Rattle.std.specs.Prelude.{None, not, Option, option_and_then, option_map, Some, true, unwrap_or, ℕ}
use Rattle.cli_picture.specs.declared.marks.Sign.{Sign}
use Rattle.cli_picture.specs.declared.marks.Sign.TheVariants.{Asked, Dropped, Ended, Granted, Handover}
use Rattle.rbc_place.specs.declared.place.Place.{Place}
use Rattle.text_script.specs.rbc_world.declared.view.MissionView.{MissionView}
use Rattle.text_script.specs.rbc_world.declared.view.Supervisor.{Supervisor}
use Rattle.text_script.specs.rbc_world.declared.view.Supervisor.TheVariants.{At, Parted}

-- the centre of a supervisor; none while the mission is on the way to the next centre
abbrev pub centre_of : Supervisor → Option ℕ
centre_of (At centre) = Some centre
centre_of (Parted heard) = None

-- the place of a mission that is on the way
abbrev pub way_at : Supervisor → Place → Option Place
way_at (At centre) place = None
way_at (Parted heard) place = Some place

-- the pending request to shorten: its stamp, and the last section to keep
abbrev pub last_kept_in : Option MissionView → Option (ℕ × ℕ)
last_kept_in mission =
    option_and_then (λ m. option_map {U = ℕ × ℕ} (λ p. (p.stamp, p.last_kept)) m.facts.proposal) mission

-- the number of the section in advance of a mission's hand; without a mission the highest number
abbrev pub end_of : Option MissionView → ℕ
end_of mission = unwrap_or (option_map (λ m. m.hand.first + m.hand.count) mission) (2 ^ 32 - 1)

-- the sign of the end of a request: the train accepts it if its authority ends earlier from then on
abbrev pub answer_of : Option MissionView → Option MissionView → Sign
answer_of before after = if nat_lt (end_of after) (end_of before) then Granted else Dropped

abbrev pub is_dropped : Sign → Bool
is_dropped Asked = false
is_dropped Granted = false
is_dropped Dropped = true
is_dropped Handover = false
is_dropped Ended = false

-- a mission that is not ended
abbrev pub goes_on : Option MissionView → Bool
goes_on mission = option_map_or (λ m. not m.facts.is_ended) mission false

-- the class of a sign, and its path from the point that it marks
abbrev pub shape_of : Sign → List ℕ × List ℕ
shape_of Asked = (codes "sign hollow", codes "l-6 -10h12z")
shape_of Granted = (codes "sign", codes "l-6 -10h12z")
shape_of Dropped = (codes "sign hollow", codes "m-5 -5l10 10m0 -10l-10 10")
shape_of Handover = (codes "sign hollow", codes "m0 -7l7 7l-7 7l-7 -7z")
shape_of Ended = (codes "sign", codes "m-4 -4h8v8h-8z")

-- the place at which a mission ends: the reported one, or else that of the mission before
abbrev pub end_place : Option MissionView → Option MissionView → Option Place → Option Place
end_place before after reported =
    option_and_then
    (λ m. if m.facts.is_ended || goes_on after then None else Some (unwrap_or reported m.facts.place)) before

-- two requests are the same one, or neither is there
abbrev pub is_same : Option (ℕ × ℕ) → Option (ℕ × ℕ) → Bool
is_same (Some p) (Some q) = (p.0 == q.0) && (p.1 == q.1)
is_same None None = true
is_same request other = false

-- the centre is that of the option
abbrev pub is_centre : ℕ → Option ℕ → Bool
is_centre centre (Some other) = centre == other
is_centre centre None = false

-- The centre that begins to supervise a mission in an event, and the place of the mission. In event 0 it is the centre
-- that supervises the mission then.
abbrev pub new_seat : Option MissionView → Option MissionView → ℕ → Option (ℕ × Place)
new_seat before after event =
    option_and_then (λ m. option_and_then {U = ℕ × Place} (λ centre.
    if event == 0 || not (is_centre centre (option_and_then (λ b. centre_of b.supervisor) before))
    then Some (centre, m.facts.place) else None) (centre_of m.supervisor)) after
