-- The kinds of frames: the byte that names each, and how many bytes its frames have (profile).
use Rattle.std.specs.List.{find}
use Rattle.std.specs.Option.{ok_or}
use Rattle.std.specs.Prelude.{[], ◌==◌, ◌∷◌, List, Result, ℕ}
use Rattle.rbc_linkmsg.specs.declared.fault.FrameFault.{FrameFault}
use Rattle.rbc_linkmsg.specs.declared.fault.FrameFault.TheVariants.{Kind}
use Rattle.rbc_linkmsg.specs.declared.kind.FrameKind.{FrameKind}
use Rattle.rbc_linkmsg.specs.declared.kind.FrameKind.TheVariants.{Announce, AskRight, Cancel, GiveRight, RefuseRight}
use Rattle.rbc_linkmsg.specs.declared.kind.FrameKind.TheVariants.{ReturnRight, RouteAsk, RouteInfo, RouteReturn}
use Rattle.rbc_linkmsg.specs.declared.kind.FrameKind.TheVariants.{RouteWithdraw, TakingOver, Yield}

abbrev pub kind_number : FrameKind → ℕ
kind_number AskRight = 1
kind_number GiveRight = 2
kind_number RefuseRight = 3
kind_number ReturnRight = 4
kind_number RouteAsk = 5
kind_number RouteInfo = 6
kind_number RouteWithdraw = 7
kind_number RouteReturn = 8
kind_number Announce = 9
kind_number Cancel = 10
kind_number TakingOver = 11
kind_number Yield = 12

abbrev pub kinds : List FrameKind
kinds =
    AskRight ∷ GiveRight ∷ RefuseRight ∷ ReturnRight ∷ RouteAsk ∷ RouteInfo ∷ RouteWithdraw ∷ RouteReturn ∷ Announce
    ∷ Cancel
    ∷ TakingOver ∷ Yield ∷ []

-- the kind that this byte names
unfoldable pub kind_with : ℕ → Result FrameKind FrameFault
kind_with n = ok_or (find (λ k. kind_number k == n) kinds) Kind

abbrev pub kind_length : FrameKind → ℕ
kind_length AskRight = 13
kind_length GiveRight = 13
kind_length RefuseRight = 13
kind_length ReturnRight = 13
kind_length RouteAsk = 16
kind_length RouteInfo = 16
kind_length RouteWithdraw = 15
kind_length RouteReturn = 16
kind_length Announce = 18
kind_length Cancel = 17
kind_length TakingOver = 17
kind_length Yield = 38
