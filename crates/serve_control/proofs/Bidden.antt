-- The command of a line at the control endpoint is the command of its script's entries.
use Rattle.std.proofs.Common.{[], ◌∙◌, ◌∷◌, ◌≡◌, ◌≢◌, ap, Bool, codes, false, IfErr, IfOk, inr, List, map, None, ok_or}
use Rattle.std.proofs.Common.{Option, refl, Some, sym, true, ℕ}
use Rattle.rbc_spec.specs.Line.{Line}
use Rattle.serve_control.specs.Commands.{AskFor, bidden, bidden_once, Bids, IsNoCommand}
use Rattle.serve_control.specs.declared.command.Command.{Command}
use Rattle.serve_control.specs.declared.command.Command.TheVariants as command
use Rattle.serve_control.specs.declared.command.CommandFault.TheVariants as fault
use Rattle.text_script.specs.declared.script.Entry.{Entry}
use Rattle.text_script.specs.Entries.{AreAsked, asked_of}
use Rattle.text_script.specs.Script as script
use Rattle.text_script.specs.Script.{Asked, rows}

some_asked : (entries : List Entry) → map Some (map asked_of entries) ≡ map (λ e. Some (asked_of e)) entries
some_asked [] = refl
some_asked (e ∷ entries) = ap (λ others. Some (asked_of e) ∷ others) (some_asked entries)

abbrev is_stop : Option Command → Bool
is_stop (Some command.Stop) = true
is_stop (Some command.StopNow) = true
is_stop found = false

no_stop_once : (asked : Asked) → is_stop (bidden_once asked) ≡ false
no_stop_once script.Show = refl
no_stop_once (script.Train centre bytes) = refl
no_stop_once (script.Set centre section) = refl
no_stop_once (script.Unset centre section) = refl
no_stop_once (script.Deliver from to number) = refl

-- no script asks the centres to stop
no_stop : (asked : List Asked) → is_stop (bidden asked) ≡ false
no_stop [] = refl
no_stop (one ∷ []) = no_stop_once one
no_stop (one ∷ next ∷ others) = refl

ask_for : (line : Line) (text : List ℕ) (entries : List Entry) → AreAsked line (rows text) entries
    → AskFor line text (map asked_of entries)
ask_for line text entries asked = some_asked entries ∙ asked

pub bids : (line : Line) (text : List ℕ) (entries : List Entry) (found : Option Command) →
    found ≡ bidden (map asked_of entries) → AreAsked line (rows text) entries
    → IfOk (ok_or found fault.Form) (Bids line text)
bids line text entries None is asked = tt
bids line text entries (Some command.Stop) is asked =
    absurd (let wrong : true ≡ false = ap is_stop is ∙ no_stop (map asked_of entries) in cc)
bids line text entries (Some command.StopNow) is asked =
    absurd (let wrong : true ≡ false = ap is_stop is ∙ no_stop (map asked_of entries) in cc)
bids line text entries (Some command.Nothing) is asked = (map asked_of entries, ask_for line text entries asked, sym is)
bids line text entries (Some (command.Set centre section)) is asked =
    (map asked_of entries, ask_for line text entries asked, sym is)
bids line text entries (Some (command.Unset centre section)) is asked =
    (map asked_of entries, ask_for line text entries asked, sym is)
bids line text entries (Some command.Show) is asked = (map asked_of entries, ask_for line text entries asked, sym is)

pub bids_nothing : (line : Line) (text : List ℕ) (entries : List Entry) (found : Option Command) →
    text ≢ codes "stop" → text ≢ codes "stop now" → found ≡ bidden (map asked_of entries)
    → AreAsked line (rows text) entries → IfErr (ok_or found fault.Form) (IsNoCommand line text)
bids_nothing line text entries None other later is asked =
    (other, later, inr (map asked_of entries, ask_for line text entries asked, sym is))
bids_nothing line text entries (Some c) other later is asked = tt
