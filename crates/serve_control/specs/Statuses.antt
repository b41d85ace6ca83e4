-- The exit statuses of the running centres.
use Rattle.std.specs.Prelude.{ℕ}
use Rattle.text_script.specs.Status.Statuses.{status_of}
use Rattle.serve_control.specs.declared.fault.ServeFault.{ServeFault}
use Rattle.serve_control.specs.declared.fault.ServeFault.TheVariants.{Socket, Gather, Merge, Journal, Run}

abbrev pub status_of_serve : ServeFault → ℕ
status_of_serve Socket = 6
status_of_serve Journal = 6
status_of_serve (Gather fault) = 7
status_of_serve (Merge fault) = 7
status_of_serve (Run fault) = status_of fault
