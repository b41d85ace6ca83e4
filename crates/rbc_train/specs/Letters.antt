-- The bodies for other centres, as the rules have them.
use Rattle.std.specs.Prelude.{ℕ, ◌==◌, Bool, List, [], ◌∷◌, ◌++◌, true, false, if◌then◌else◌, Option, Some, None}
use Rattle.rbc_spec.specs.SectionRuns.{SectionRun, is_empty}
use Rattle.rbc_spec.specs.Line.{Line}
use Rattle.rbc_spec.specs.Message.{TrainBody, StartOfMission, Request, Report, ShorteningGranted, EndOfMission}
use Rattle.rbc_spec.specs.Frame.{Body, Announce, Cancel}
use Rattle.rbc_spec.specs.Centre.{Expectation, beginning}
use Rattle.rbc_spec.specs.Acts.{returned}
use Rattle.rbc_line.specs.SectionRuns.{run_of}
use Rattle.rbc_line.specs.declared.section_run.SectionRun.{SectionRun as SectionRunCode}
use Rattle.rbc_linkmsg.specs.Bodies.{body_of}
use Rattle.rbc_linkmsg.specs.declared.body.Body.{Body as BodyCode}
use Rattle.rbc_handover.specs.Expectations.{claims}
use Rattle.rbc_handover.specs.declared.handing.HandoverName.{HandoverName}
use Rattle.rbc_train.specs.declared.letter.Letter.{Letter}
use Rattle.rbc_train.specs.declared.mail.Mail.{Mail}
use Rattle.rbc_train.specs.declared.mail.Notice.{Notice}
use Rattle.rbc_train.specs.declared.mail.Notice.TheVariants as notice

-- A train's message that may cause a frame to another centre. It may ask for the right or for sections, or return them.
-- Or a handover is announced, claimed, cancelled or yielded.
abbrev pub tells_others : TrainBody → Bool
tells_others (StartOfMission is_valid position) = true
tells_others (Request position) = true
tells_others (Report position) = true
tells_others (ShorteningGranted stamp position) = true
tells_others (EndOfMission position) = true
tells_others body = false

-- one body or none
abbrev pub bodies_in : Option BodyCode → List Body
bodies_in None = []
bodies_in (Some body) = body_of body ∷ []

-- the bodies of at most one letter for each centre
abbrev pub letters : Option Letter → ℕ → List Body
letters None d = []
letters (Some l) d = if d == l.to then body_of l.body ∷ [] else []

-- the bodies of a notice of a handover of train t for each centre, with these expectations
abbrev pub notices : ℕ → (ℕ → Option Expectation) → Notice → ℕ → List Body
notices t e notice.Nothing d = []
notices t e (notice.Announce name track) d = if d == name.to then Announce name.number t track ∷ [] else []
notices t e (notice.Cancel name) d = if d == name.to then Cancel name.number t ∷ [] else []
notices t e (notice.TakingOver told) d = claims t told e d

-- The bodies that return the sections of a run from centre c, for each centre. They do not depend on the state of the
-- centre.
abbrev pub going_home : Line → ℕ → ℕ → ℕ → SectionRun → ℕ → List Body
going_home line c t track r d = if is_empty r then [] else (returned line c t track r (beginning line c)).frames d

-- the bodies of the mail about train t for each centre, with these expectations
abbrev pub mail_to : Line → ℕ → ℕ → (ℕ → Option Expectation) → Mail → ℕ → List Body
mail_to line c t e mail d =
    going_home line c t mail.track (run_of mail.first) d
    ++ (going_home line c t mail.track (run_of mail.second) d ++ (notices t e mail.notice d ++ letters mail.letter d))

-- no section
abbrev pub no_sections : SectionRunCode
no_sections = record { first = 0; count = 0 }

-- these sections of a track, a notice, and a letter or none
abbrev pub mail_home : ℕ → SectionRunCode → Notice → Option Letter → Mail
mail_home track sections notice letter =
    record { track = track; first = sections; second = no_sections; notice = notice; letter = letter }

-- a letter or none, and no section
abbrev pub mail_of : Option Letter → Mail
mail_of letter = mail_home 0 no_sections notice.Nothing letter

-- cancels the pending handover, if there is one
abbrev pub cancel_of : Option HandoverName → Notice
cancel_of None = notice.Nothing
cancel_of (Some name) = notice.Cancel name
