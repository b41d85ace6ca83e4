-- Wrong rules of answers. Each is an act as the rules have it, but for one part.
use Rattle.std.specs.Prelude.{ℕ, ◌&&◌, not, true, false, Some, is_none}
use Rattle.std.specs.Option.{option_map_or}
use Rattle.rbc_spec.specs.Maps.{put}
use Rattle.rbc_spec.specs.SectionRuns.{SectionRun}
use Rattle.rbc_spec.specs.Line.{Line, registrar}
use Rattle.rbc_spec.specs.Place.{Place, covered}
use Rattle.rbc_spec.specs.Frame.{AskRight, GiveRight, RefuseRight}
use Rattle.rbc_spec.specs.Centre.{Taken, is_open, is_registrar_of, is_expected, uses_some}
use Rattle.rbc_spec.specs.Acts.{Act, become, rest, ◌>>◌, where_so, send, booked, end_order}
use Rattle.rbc_spec.specs.Rules.{choose}

-- as `right_asked`, but the right that is given stays too
abbrev pub keeping_right : Line → ℕ → ℕ → ℕ → Act
keeping_right line c d t =
    where_so (λ k. is_registrar_of line c t)
    (choose (λ k. k.has_right t) (send d (GiveRight t)) (send d (RefuseRight t)))

-- as `right_asked`, but a right that is not there is not refused
abbrev pub staying_silent : Line → ℕ → ℕ → ℕ → Act
staying_silent line c d t = where_so (λ k. is_registrar_of line c t)
    (choose (λ k. k.has_right t)
    (become (λ k. record k { has_right = put k.has_right t false }) >> send d (GiveRight t)) rest)

-- as `start_waiting`, but the right is asked for again
abbrev pub asking_again : Line → ℕ → Place → Act
asking_again line t place =
    (booked is_open (Taken t) (covered line place) >> become (λ k. record k { wait = put k.wait t (Some place) }))
    >> (option_map_or (λ r. send r (AskRight t)) (registrar line t) rest
    >> become (λ k. record k { has_asked = put k.has_asked t true }))

-- as `route_returned`, but the returned sections stay in use
abbrev pub swallowing_return : Line → ℕ → ℕ → ℕ → SectionRun → Act
swallowing_return line c d t r =
    where_so (λ k. not (uses_some line c k t)
    && ((is_none (k.mission t) && is_none (k.wait t)) && not (is_expected line k t))) (end_order line c t)
