-- The meaning of the arguments: the command of a request, and the options of `serve`.
use Rattle.clap.specs.declared.parser.matches.ArgMatches.{ArgMatches}
use Rattle.clap.specs.declared.error.Error.{Error}
use Rattle.clap.specs.declared.error.kind.ErrorKind.{ErrorKind}
use Rattle.clap.specs.declared.error.kind.ErrorKind.TheVariants as kind
use Rattle.clap.specs.Matches.{first_value, found_of, matched_of, one_text, raw_values}
use Rattle.std.specs.Option.{option_or}
use Rattle.std.specs.Prelude.{[], ◌<◌, ◌^◌, ◌≡◌, Bool, codes, Err, false, if◌then◌else◌, is_some, List, None, Ok}
use Rattle.std.specs.Prelude.{Option, option_map, Result, Some, true, unwrap_or, ℕ}
use Rattle.std.specs.Str.Parse.{digits_value, IsNumeral, without_leading_plus}
use Rattle.cli_commands.specs.declared.requests.JournalStart.{JournalStart}
use Rattle.cli_commands.specs.declared.requests.JournalStart.TheVariants.{Begin, Keep, Resume}
use Rattle.cli_commands.specs.declared.requests.Request.{Request}
use Rattle.cli_commands.specs.declared.requests.Request.TheVariants as request
use Rattle.cli_commands.specs.declared.requests.ServeWords.{ServeWords}
use Rattle.cli_commands.specs.declared.requests.TrainsWords.{TrainsWords}
use Rattle.cli_commands.specs.declared.requests.Task.{Task}
use Rattle.cli_commands.specs.declared.requests.Task.TheVariants as task
use Rattle.text_replay.specs.declared.cut.Cut.{Cut}
use Rattle.text_script.specs.declared.status.fault.Fault.{Fault}
use Rattle.text_script.specs.declared.status.fault.Fault.TheVariants.{Step, Usage}
use Rattle.text_script.specs.rbc_centre.declared.fault.StepFault.TheVariants.{Memory}

-- ## The values of arguments

-- the value of an argument, if it is given
abbrev pub value : ArgMatches → List ℕ → Option (List ℕ)
value words name = first_value (found_of words) name

-- whether an option without a value is given
pub record IsFlag (words : ArgMatches) (name : List ℕ) (is_given : Bool) : Type 0 where
  pub none : one_text (found_of words) name ≡ None → is_given ≡ false
  pub given : one_text (found_of words) name ≡ Some (codes "true") → is_given ≡ true
  pub not_given : one_text (found_of words) name ≡ Some (codes "false") → is_given ≡ false

-- all values of an argument, in order
abbrev pub values : ArgMatches → List ℕ → List (List ℕ)
values words name = unwrap_or (option_map raw_values (matched_of (found_of words) name)) []

-- the number of this many bits that a text spells; none if the text spells no such number
abbrev pub Spells : ℕ → List ℕ → Option ℕ → Type 0
Spells bits text (Some number) =
    IsNumeral 10 (without_leading_plus text) × (number ≡ digits_value 10 (without_leading_plus text))
Spells bits text None =
    ¬ (IsNumeral 10 (without_leading_plus text) × (digits_value 10 (without_leading_plus text) < 2 ^ bits))

-- an argument that is a number of this many bits: the number that its text spells; none if it is not given
pub record IsNumber (bits : ℕ) (words : ArgMatches) (name : List ℕ) (number : Option ℕ) : Type 0 where
  pub none : one_text (found_of words) name ≡ None → number ≡ None
  pub given : (text : List ℕ) → one_text (found_of words) name ≡ Some text → Spells bits text number

-- ## The command of a request

abbrev pub task_command : Task → List ℕ
task_command (task.Script text) = codes "script"
task_command (task.Storm script seed) = codes "storm"
task_command (task.Print listing) = codes "print"
task_command (task.Audit printed) = codes "audit"
task_command (task.Watch printed) = codes "watch"
task_command (task.Words listing) = codes "words"
task_command (task.Picture drawing) = codes "picture"
task_command (task.Capture printed first_port) = codes "pcap"

-- the result for arguments that the table of the commands does not match: the version is asked for by such an error
abbrev pub unmatched : ErrorKind → Error → Result Request Fault
unmatched kind.OutOfMemory error = Err (Step Memory)
unmatched kind.DisplayVersion error = Ok request.Version
unmatched other error = Err (Usage error)

-- the command that asks for it; the version is asked for by an option
abbrev pub command_of : Request → List ℕ
command_of request.Version = []
command_of (request.Check file) = codes "check"
command_of (request.Explain file script) = codes "explain"
command_of (request.Run file script) = codes "run"
command_of (request.Test file) = codes "test"
command_of (request.Demo file settings) = codes "demo"
command_of (request.OnLine file t) = task_command t
command_of (request.Serve file port words) = codes "serve"
command_of (request.Drive port file timeout_s) = codes "drive"
command_of (request.Tell words) = codes "tell"
command_of (request.LivePage file page words) = codes "demo"
command_of (request.Trains port file words) = codes "trains"
command_of (request.Decode decoding) = codes "decode"
command_of (request.Encode fields is_frame) = codes "encode"
command_of (request.Message digits) = codes "words"

-- ## The options of `serve`

-- the folder of the journals: that of `--keep`, else of `--resume`, else of `--journal`
abbrev pub folder_of : ArgMatches → Option (List ℕ)
folder_of words =
    option_or (value words (codes "keep"))
    (option_or (value words (codes "resume")) (value words (codes "journal")))

-- their beginning: that of the option which names the folder
abbrev pub start_of : ArgMatches → JournalStart
start_of words =
    if is_some (value words (codes "keep")) then Keep
    else if is_some (value words (codes "resume")) then Resume
    else Begin

-- each of these fields is of the option of its name
pub record AreServeOptions (words : ArgMatches) (options : ServeWords) : Type 0 where
  pub quiet : IsFlag words (codes "quiet") options.is_quiet
  pub journald : IsFlag words (codes "journald") options.is_for_journald
  pub bind : IsFlag words (codes "bind") options.is_bound
  pub tell : IsFlag words (codes "tell") options.is_telling
  pub life : IsFlag words (codes "life") options.shows_life
  pub no_print : IsFlag words (codes "no-print") options.is_unprinted
  pub control : option_map (λ path. path.now) options.control ≡ value words (codes "control")

-- ## The options of the other commands

-- the part of a run that `picture` draws: each bound is of the option of its name
pub record IsCutOf (words : ArgMatches) (cut : Cut) : Type 0 where
  pub from : IsNumber 32 words (codes "from") cut.from
  pub to : IsNumber 32 words (codes "to") cut.to
  pub train : IsNumber 32 words (codes "train") cut.train

-- the options of trains: each of these numbers is of the option of its name
pub record AreTrains (words : ArgMatches) (trains : TrainsWords) : Type 0 where
  pub trains_given : IsNumber 8 words (codes "trains") trains.trains
  pub loss : IsNumber 8 words (codes "loss") trains.loss
  pub seed : IsNumber 64 words (codes "seed") trains.seed
