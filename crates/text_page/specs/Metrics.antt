-- The values of the metrics.
use Rattle.std.specs.Option.{is_some, option_map_or}
use Rattle.std.specs.Prelude.{◌==◌, ◌&&◌, Bool, count_by, false, if◌then◌else◌, Option, option_and_then, slice_get, ℕ}
use Rattle.text_page.specs.declared.counters.OfWait.{OfWait}
use Rattle.text_page.specs.declared.counters.OfWait.TheVariants as wait
use Rattle.text_page.specs.declared.metrics.OfCentre.{OfCentre}
use Rattle.text_page.specs.declared.metrics.OfCentre.TheVariants as centre
use Rattle.text_page.specs.declared.metrics.OfLink.{OfLink}
use Rattle.text_page.specs.declared.metrics.OfLink.TheVariants as link
use Rattle.text_page.specs.declared.view.CentreCounts.{CentreCounts}
use Rattle.text_page.specs.declared.view.CentreNow.{CentreNow}
use Rattle.text_page.specs.declared.view.LineNow.{LineNow}
use Rattle.text_page.specs.declared.view.LinkNow.{LinkNow}
use Rattle.text_page.specs.declared.view.MissionNow.{MissionNow}

-- a mission that the centre of this number supervises
abbrev pub is_at : Option MissionNow → ℕ → Bool
is_at mission number = option_map_or (λ c. c == number) (option_and_then (λ m. m.supervisor) mission) false

-- a mission whose handover is announced
abbrev pub is_announced : Option MissionNow → Bool
is_announced mission = is_some (option_and_then (λ m. m.handover) mission)

-- 1 for yes, and 0 for no
abbrev pub number_if : Bool → ℕ
number_if b = if b then 1 else 0

-- the value of a metric of the centre with this number
abbrev pub centre_value : OfCentre → LineNow → ℕ → CentreNow → ℕ
centre_value centre.Events now number c = c.entries
centre_value centre.EventsLimit now number c = c.limits.entries
centre_value centre.Stamp now number c = c.clock
centre_value centre.StampLimit now number c = c.limits.clock
centre_value centre.Connections now number c = c.taken
centre_value centre.Seats now number c = c.seats
centre_value centre.Sessions now number c = count_by (λ session. session.centre == number) now.sessions.items
centre_value centre.Missions now number c = count_by (λ mission. is_at mission number) now.missions.items
centre_value centre.Handovers now number c =
    count_by (λ mission. is_at mission number && is_announced mission) now.missions.items
centre_value centre.JournalStuck now number c = number_if c.is_stuck
centre_value centre.Ended now number c = number_if (is_some c.end)

-- the value of a metric of a link; its limit is that of the centre that sends
abbrev pub link_value : OfLink → LineNow → LinkNow → ℕ
link_value link.Sent now l = l.sent
link_value link.Taken now l = l.taken
link_value link.Limit now l = option_map_or (λ c. c.limits.frames) (slice_get now.centres.items l.from) 0

-- the value of a metric of the answers that wait for a journal
abbrev pub wait_value : OfWait → CentreCounts → ℕ
wait_value wait.Lag c = c.unwritten
wait_value wait.Late c = c.late
