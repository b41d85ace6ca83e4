-- The bytes of a frame determine it.
use Rattle.std.proofs.Common.{◌++◌, ◌<◌, ◌^◌, ◌∙◌, ◌≡◌, ap, arith, List, Ok, refl, sym, ℕ}
use Rattle.std.specs.Prelude.{Result}
use Rattle.byteorder.specs.Endian.{big_bytes}
use Rattle.rbc_linkmsg.proofs.Bodies.{one_body, one_number}
use Rattle.rbc_linkmsg.specs.declared.fault.FrameFault.{FrameFault}
use Rattle.rbc_linkmsg.specs.declared.kind.FrameKind.{FrameKind}
use Rattle.rbc_linkmsg.specs.declared.kind.FrameKind.TheVariants as kinds
use Rattle.rbc_linkmsg.specs.Kinds.{kind_number, kind_with}
use Rattle.rbc_linkmsg.specs.Spelling.{body_fields, frame_fields, kind_of, spelled, Spells}
use Rattle.rbc_spec.specs.Frame.{Body, Frame, HasFrameRanges}

pub kind_again : (k : FrameKind) → kind_with (kind_number k) ≡ Ok k
unfolding kind_with
kind_again kinds.AskRight = refl
kind_again kinds.GiveRight = refl
kind_again kinds.RefuseRight = refl
kind_again kinds.ReturnRight = refl
kind_again kinds.RouteAsk = refl
kind_again kinds.RouteInfo = refl
kind_again kinds.RouteWithdraw = refl
kind_again kinds.RouteReturn = refl
kind_again kinds.Announce = refl
kind_again kinds.Cancel = refl
kind_again kinds.TakingOver = refl
kind_again kinds.Yield = refl

same_ok : (j k : FrameKind) (r : Result FrameKind FrameFault) → r ≡ Ok j → r ≡ Ok k → j ≡ k
same_ok j k r p q = cc

pub one_kind : (j k : FrameKind) → kind_number j ≡ kind_number k → j ≡ k
one_kind j k e = same_ok j k (kind_with (kind_number j)) (kind_again j) (ap kind_with e ∙ kind_again k)

pub kind-fits : (k : FrameKind) → kind_number k < 256 ^ 1
kind-fits kinds.AskRight = omega arith
kind-fits kinds.GiveRight = omega arith
kind-fits kinds.RefuseRight = omega arith
kind-fits kinds.ReturnRight = omega arith
kind-fits kinds.RouteAsk = omega arith
kind-fits kinds.RouteInfo = omega arith
kind-fits kinds.RouteWithdraw = omega arith
kind-fits kinds.RouteReturn = omega arith
kind-fits kinds.Announce = omega arith
kind-fits kinds.Cancel = omega arith
kind-fits kinds.TakingOver = omega arith
kind-fits kinds.Yield = omega arith

-- the header's three numbers, and the body after them
pub frame_parts : (f : Frame) → spelled (frame_fields f) ≡ big_bytes 4 f.number
    ++ (big_bytes 4 f.stamp ++ (big_bytes 1 (kind_number (kind_of f.body)) ++ spelled (body_fields f.body)))
unfolding spelled
frame_parts f = refl

abbrev pub made : ℕ → ℕ → Body → Frame
made number stamp body = record { number = number; stamp = stamp; body = body }

pub same_frame : (n m s r : ℕ) (a b : Body) → n ≡ m → s ≡ r → a ≡ b → made n s a ≡ made m r b
same_frame n m s r a b p q e = rw (p, q, e) refl

-- no two frames share a spelling
pub one_spelled : (a b : Frame) → HasFrameRanges a → HasFrameRanges b
    → spelled (frame_fields a) ≡ spelled (frame_fields b) → a ≡ b
one_spelled a b p q e =
    let number = one_number 4 a.number b.number _ _ (omega (arith, p.number.1)) (omega (arith, q.number.1))
    (sym (frame_parts a) ∙ e ∙ frame_parts b) in
    let stamp = one_number 4 a.stamp b.stamp _ _ (omega (arith, p.stamp.1)) (omega (arith, q.stamp.1)) number.1 in
    let kind = one_number 1 (kind_number (kind_of a.body)) (kind_number (kind_of b.body)) _ _
    (kind-fits (kind_of a.body)) (kind-fits (kind_of b.body)) stamp.1 in
    same_frame a.number b.number a.stamp b.stamp a.body b.body number.0 stamp.0
    (one_body a.body b.body p.body q.body (one_kind (kind_of a.body) (kind_of b.body) kind.0) kind.1)

pub one_frame_of : (bytes : List ℕ) (a b : Frame) → Spells bytes a → Spells bytes b → a ≡ b
one_frame_of bytes a b p q = one_spelled a b p.ranges q.ranges (sym p.text ∙ q.text)
