-- The fields of each kind, the bytes of a frame's header, and the numbers of a Yield.
use Rattle.std.proofs.Common.{[], ◌%◌, ◌++◌, ◌+◌, ◌<◌, ◌^◌, ◌∙◌, ◌∷◌, ◌≡◌, ◌≤◌, ap, arith, Bool, drop, Err, false}
use Rattle.std.proofs.Common.{length, List, mod-eq_of_lt, refl, sym, take, ℕ}
use Rattle.std.proofs.lemmas.Bool.Decides.{nat_tests}
use Rattle.std.specs.Prelude.{if◌then◌else◌, nat_lt, slice_index}
use Rattle.byteorder.specs.Endian.{big_bytes, big_number}
use Rattle.byteorder.specs.Numbers.{big_number-reads_back}
use Rattle.rbc_linkmsg.proofs.Bodies.{body_from, body_from-again, body_widths, fit_body, kind_widths}
use Rattle.rbc_linkmsg.proofs.Bodies.{length-spelled-cons, one_fields, one_number, same_from, widths}
use Rattle.rbc_linkmsg.proofs.Frames.{frame_parts, kind-fits, made, one_kind, same_frame}
use Rattle.rbc_linkmsg.specs.declared.fault.FrameFault.{FrameFault}
use Rattle.rbc_linkmsg.specs.declared.fault.FrameFault.TheVariants.{Short, Value}
use Rattle.rbc_linkmsg.specs.declared.kind.FrameKind.{FrameKind}
use Rattle.rbc_linkmsg.specs.declared.kind.FrameKind.TheVariants as kinds
use Rattle.rbc_linkmsg.specs.Faults.{fault_of_kind, first_fault}
use Rattle.rbc_linkmsg.specs.Kinds.{kind_length, kind_number, kind_with}
use Rattle.rbc_linkmsg.specs.Raw.{number_at, raw_fields, raw_place_fields, raw_run_fields}
use Rattle.rbc_linkmsg.specs.Spelling.{AllFit, body_fields, distance, Field, flags, frame_fields, kind_of, place_fields}
use Rattle.rbc_linkmsg.specs.Spelling.{rear_distance, run_fields, spelled, Spells}
use Rattle.rbc_spec.specs.Frame.{Announce, AskRight, Body, Cancel, Frame, GiveRight, HasBodyRange, HasFrameRanges}
use Rattle.rbc_spec.specs.Frame.{RefuseRight, ReturnRight, RouteAsk, RouteInfo, RouteReturn, RouteWithdraw, TakingOver}
use Rattle.rbc_spec.specs.Frame.{Yield, YieldedPlace}
use Rattle.rbc_spec.specs.SectionRuns.{SectionRun}

-- # The parts of a frame that the bytes of a header and of a body determine.

abbrev pub header : ℕ → ℕ → ℕ → List ℕ → List ℕ
header number stamp kind rest = big_bytes 4 number ++ (big_bytes 4 stamp ++ (big_bytes 1 kind ++ rest))

-- the kind's byte is the ninth
pub header_kind : (bytes rest : List ℕ) (n s k : ℕ) → bytes ≡ header n s k rest → k < 256 ^ 1 → slice_index bytes 8 ≡ k
header_kind bytes rest n s k e h = ap (λ t. slice_index t 8) e ∙ mod-eq_of_lt h

-- the frame has the header's numbers, and the rest is its body
pub record IsHeaderOf (n s : ℕ) (k : FrameKind) (rest : List ℕ) (f : Frame) : Type 0 where
  pub number : f.number ≡ n
  pub stamp : f.stamp ≡ s
  pub kind : kind_of f.body ≡ k
  pub body : rest ≡ spelled (body_fields f.body)

pub header_read : (bytes rest : List ℕ) (n s k : ℕ) (kind : FrameKind) (f : Frame) → bytes ≡ header n s k rest
    → n < 256 ^ 4 → s < 256 ^ 4 → k < 256 ^ 1
    → slice_index bytes 8 ≡ kind_number kind → Spells bytes f → IsHeaderOf n s kind rest f
header_read bytes rest n s k kind f e n-fits s-fits k-fits at p =
    let number = one_number 4 f.number n _ _ (omega (arith, p.ranges.number.1)) n-fits
    (sym (frame_parts f) ∙ sym p.text ∙ e) in
    let stamp = one_number 4 f.stamp s _ _ (omega (arith, p.ranges.stamp.1)) s-fits number.1 in
    let byte = one_number 1 (kind_number (kind_of f.body)) k _ _ (kind-fits (kind_of f.body)) k-fits stamp.1 in
    let same : kind_number (kind_of f.body) ≡ kind_number kind = byte.0
    ∙ sym (header_kind bytes rest n s k e k-fits) ∙ at in
    record { number = number.0; stamp = stamp.0; kind = one_kind (kind_of f.body) kind same; body = sym byte.1 }

same_bytes : (n s k k' : ℕ) (rest rest' : List ℕ) → k ≡ k' → rest ≡ rest' → header n s k rest ≡ header n s k' rest'
same_bytes n s k k' rest rest' p q = rw (p, q) refl

kind_of_same : (b : Body) (kind : FrameKind) → kind_of b ≡ kind → kind_number kind ≡ kind_number (kind_of b)
kind_of_same b kind e = ap kind_number (sym e)

-- the bytes spell the frame that was read
pub spells_read : (bytes rest : List ℕ) (n s k : ℕ) (kind : FrameKind) (b : Body) → bytes ≡ header n s k rest
    → k < 256 ^ 1 → slice_index bytes 8 ≡ kind_number kind
    → kind_of b ≡ kind → rest ≡ spelled (body_fields b) → bytes ≡ spelled (frame_fields (made n s b))
spells_read bytes rest n s k kind b e fits at same body =
    let byte : k ≡ kind_number (kind_of b) = sym (header_kind bytes rest n s k e fits) ∙ at
    ∙ kind_of_same b kind same in
    e ∙ same_bytes n s k (kind_number (kind_of b)) rest (spelled (body_fields b)) byte body
    ∙ sym (frame_parts (made n s b))

pub same_ranges : (f g : Frame) → f ≡ g → HasFrameRanges f → HasFrameRanges g
same_ranges f g e h = rw (sym e) h

-- the bytes spell the frame that was made of their fields
pub made_text : (bytes : List ℕ) (f g : Frame) → bytes ≡ spelled (frame_fields g) → f ≡ g
    → HasFrameRanges g → Spells bytes f
made_text bytes f g t e h =
    record { text = t ∙ ap (λ x. spelled (frame_fields x)) (sym e); ranges = same_ranges g f (sym e) h }

pub frame_is : (n s : ℕ) (k : FrameKind) (rest : List ℕ) (b : Body) (f : Frame) → IsHeaderOf n s k rest f
    → b ≡ f.body → f ≡ made n s b
frame_is n s k rest b f h e = same_frame f.number n f.stamp s f.body b h.number h.stamp (sym e)

-- # The values of the fields of a kind, and the bytes of a frame's header.

-- fields of a kind's widths that have a body's bytes are the body's
pub fields_of : (f : Body) (k : FrameKind) (fields : List Field) → widths fields ≡ kind_widths k → AllFit fields
    → HasBodyRange f → kind_of f ≡ k → spelled fields ≡ spelled (body_fields f) → body_fields f ≡ fields
fields_of f k fields w fits h e s =
    let ws : widths (body_fields f) ≡ widths fields = body_widths f ∙ ap kind_widths e ∙ sym w in
    one_fields (body_fields f) fields ws (fit_body f h) fits (sym s)

-- a body of this kind with these fields is the one that is made of them
pub body_is : (f : Body) (k : FrameKind) (fields : List Field) → HasBodyRange f → kind_of f ≡ k → body_fields f ≡ fields
    → f ≡ body_from k fields
body_is f k fields h e s = sym (body_from-again f h) ∙ same_from (kind_of f) k (body_fields f) fields e s

-- the fields that are read determine the body
pub found_body : (bytes : List ℕ) (k : FrameKind) (fields : List Field) → widths fields ≡ kind_widths k
    → bytes ≡ spelled fields → AllFit fields
    → (f : Body) → HasBodyRange f → kind_of f ≡ k → bytes ≡ spelled (body_fields f) → body_from k fields ≡ f
found_body bytes k fields w t fits f h e s = sym (body_is f k fields h e (fields_of f k fields w fits h e (sym t ∙ s)))

-- a frame's length is its kind's
pub body_length : (b : Body) → 9 + length (spelled (body_fields b)) ≡ kind_length (kind_of b)
unfolding spelled
body_length (AskRight t) = refl
body_length (GiveRight t) = refl
body_length (RefuseRight t) = refl
body_length (ReturnRight t) = refl
body_length (RouteAsk t first most) = refl
body_length (RouteInfo t run) = refl
body_length (RouteWithdraw t s) = refl
body_length (RouteReturn t run) = refl
body_length (Announce number t track) = refl
body_length (Cancel number t) = refl
body_length (TakingOver number t) = refl
body_length (Yield number t heard has_data is_ended place hand) = refl

pub frame_length : (bytes : List ℕ) (f : Frame) → Spells bytes f → length bytes ≡ kind_length (kind_of f.body)
frame_length bytes f p =
    let body = body_fields f.body in
    let kind : Field = (1, kind_number (kind_of f.body)) in
    let all : length bytes ≡ length (spelled (frame_fields f)) = ap length p.text in
    let number = length-spelled-cons 4 f.number ((4, f.stamp) ∷ kind ∷ body) in
    let stamp = length-spelled-cons 4 f.stamp (kind ∷ body) in
    let byte = length-spelled-cons 1 (kind_number (kind_of f.body)) body in
    omega (arith, all, number, stamp, byte, body_length f.body)

kind_byte : (k : FrameKind) → kind_number k % 256 ≡ kind_number k
kind_byte kinds.AskRight = refl
kind_byte kinds.GiveRight = refl
kind_byte kinds.RefuseRight = refl
kind_byte kinds.ReturnRight = refl
kind_byte kinds.RouteAsk = refl
kind_byte kinds.RouteInfo = refl
kind_byte kinds.RouteWithdraw = refl
kind_byte kinds.RouteReturn = refl
kind_byte kinds.Announce = refl
kind_byte kinds.Cancel = refl
kind_byte kinds.TakingOver = refl
kind_byte kinds.Yield = refl

pub frame_kind : (bytes : List ℕ) (f : Frame) → Spells bytes f → slice_index bytes 8 ≡ kind_number (kind_of f.body)
frame_kind bytes f p = ap (λ t. slice_index t 8) (p.text ∙ frame_parts f) ∙ kind_byte (kind_of f.body)

fault_of : (k : FrameKind)
    → (if nat_lt (kind_length k) 9 then Short else fault_of_kind (kind_length k) (kind_with (kind_number k))) ≡ Value
unfolding kind_with
fault_of kinds.AskRight = refl
fault_of kinds.GiveRight = refl
fault_of kinds.RefuseRight = refl
fault_of kinds.ReturnRight = refl
fault_of kinds.RouteAsk = refl
fault_of kinds.RouteInfo = refl
fault_of kinds.RouteWithdraw = refl
fault_of kinds.RouteReturn = refl
fault_of kinds.Announce = refl
fault_of kinds.Cancel = refl
fault_of kinds.TakingOver = refl
fault_of kinds.Yield = refl

fault_at : (n m : ℕ) (k : FrameKind) → n ≡ kind_length k → m ≡ kind_number k
    → (if nat_lt n 9 then Short else fault_of_kind n (kind_with m)) ≡ Value
fault_at n m k p q = rw (p, q) (fault_of k)

-- the bytes of a frame have no other fault
pub no_fault : (bytes : List ℕ) (f : Frame) → Spells bytes f → first_fault bytes ≡ Value
unfolding first_fault
no_fault bytes f p = fault_at (length bytes) (slice_index bytes 8) (kind_of f.body)
    (frame_length bytes f p) (frame_kind bytes f p)

-- a byte that names no kind is the fault of bytes that have a header
pub kind_fault : (bytes : List ℕ) (e : FrameFault) → 9 ≤ length bytes → kind_with (slice_index bytes 8) ≡ Err e
    → first_fault bytes ≡ e
unfolding first_fault
kind_fault bytes e h k =
    let long : nat_lt (length bytes) 9 ≡ false = grind (arith, nat_tests) in
    rw (long, k) refl

-- # The numbers of a Yield are at their positions.

-- the number that the bytes from this place on begin with
number_after : (n place x : ℕ) (bytes rest : List ℕ) → x < 256 ^ n → drop place bytes ≡ big_bytes n x ++ rest
    → x ≡ number_at n place bytes
unfolding number_at
number_after n place x bytes rest fits e = sym (ap (λ t. big_number n t) e ∙ big_number-reads_back n x rest fits)

same_fields : (bytes : List ℕ) (number t heard track n group front rear first count : ℕ) → number ≡ number_at 4 9 bytes
    → t ≡ number_at 4 13 bytes → heard ≡ number_at 4 17 bytes → track ≡ number_at 1 21 bytes
    → n ≡ number_at 1 22 bytes → group ≡ number_at 4 23 bytes → front ≡ number_at 4 27 bytes
    → rear ≡ number_at 4 31 bytes → first ≡ number_at 2 35 bytes → count ≡ number_at 1 37 bytes
    → (4, number) ∷ (4, t) ∷ (4, heard) ∷ (1, track) ∷ (1, n) ∷ (4, group) ∷ (4, front) ∷ (4, rear) ∷ (2, first)
    ∷ (1, count) ∷ [] ≡ raw_fields bytes
same_fields bytes number t heard track n group front rear first count e0 e1 e2 e3 e4 e5 e6 e7 e8 e9 =
    rw (e0, e1, e2, e3, e4, e5, e6, e7, e8, e9) refl

-- bytes that spell a Yield have its fields at their places
yield_fields : (bytes : List ℕ) (n s k number t heard : ℕ) (d e : Bool) (p : YieldedPlace) (hand : SectionRun)
    → HasBodyRange (Yield number t heard d e p hand)
    → bytes ≡ header n s k (spelled (body_fields (Yield number t heard d e p hand)))
    → body_fields (Yield number t heard d e p hand) ≡ raw_fields bytes
unfolding spelled
yield_fields bytes n s k number t heard d e p hand h text =
    let fit = fit_body (Yield number t heard d e p hand) h in
    same_fields bytes number t heard p.track (flags d e p.rear) p.group (distance p.front)
    (rear_distance p.rear) hand.first hand.count
    (number_after 4 9 number bytes _ fit.0 (ap (drop 9) text))
    (number_after 4 13 t bytes _ fit.1.0 (ap (drop 13) text))
    (number_after 4 17 heard bytes _ fit.1.1.0 (ap (drop 17) text))
    (number_after 1 21 p.track bytes _ fit.1.1.1.0 (ap (drop 21) text))
    (number_after 1 22 (flags d e p.rear) bytes _ fit.1.1.1.1.0 (ap (drop 22) text))
    (number_after 4 23 p.group bytes _ fit.1.1.1.1.1.0 (ap (drop 23) text))
    (number_after 4 27 (distance p.front) bytes _ fit.1.1.1.1.1.1.0 (ap (drop 27) text))
    (number_after 4 31 (rear_distance p.rear) bytes _ fit.1.1.1.1.1.1.1.0 (ap (drop 31) text))
    (number_after 2 35 hand.first bytes _ fit.1.1.1.1.1.1.1.1.0 (ap (drop 35) text))
    (number_after 1 37 hand.count bytes _ fit.1.1.1.1.1.1.1.1.1.0 (ap (drop 37) text))

first_value : (n x y : ℕ) (xs ys : List Field) → (n, x) ∷ xs ≡ (n, y) ∷ ys → x ≡ y
first_value n x y xs ys e =
    let first : (n, x) ≡ (n, y) = cc in
    ap (λ (f : Field). f.1) first

-- of these fields, those after the train
pub yielding_fields : (bytes : List ℕ) (number t heard : ℕ) (d e : Bool) (p : YieldedPlace) (hand : SectionRun)
    → body_fields (Yield number t heard d e p hand) ≡ raw_fields bytes
    → (heard ≡ number_at 4 17 bytes) × (place_fields d e p ≡ raw_place_fields bytes)
    × (run_fields hand ≡ raw_run_fields bytes)
yielding_fields bytes number t heard d e p hand same = (
  first_value 4 heard (number_at 4 17 bytes) _ _ (ap (drop 2) same),
  ap (λ (fields : List Field). take 5 (drop 3 fields)) same,
  ap (drop 8) same,
)

-- a property of the fields of each Yield holds if the body is one
case_yield : (bytes : List ℕ) (n s k : ℕ) (P : Type 0)
    → ((number t heard : ℕ) (d e : Bool) (p : YieldedPlace) (hand : SectionRun)
    → HasBodyRange (Yield number t heard d e p hand)
    → body_fields (Yield number t heard d e p hand) ≡ raw_fields bytes → P)
    → (b : Body) → HasBodyRange b → kind_of b ≡ kinds.Yield → bytes ≡ header n s k (spelled (body_fields b)) → P
case_yield bytes n s k P found (AskRight t) h is e = absurd cc
case_yield bytes n s k P found (GiveRight t) h is e = absurd cc
case_yield bytes n s k P found (RefuseRight t) h is e = absurd cc
case_yield bytes n s k P found (ReturnRight t) h is e = absurd cc
case_yield bytes n s k P found (RouteAsk t first most) h is e = absurd cc
case_yield bytes n s k P found (RouteInfo t run) h is e = absurd cc
case_yield bytes n s k P found (RouteWithdraw t section) h is e = absurd cc
case_yield bytes n s k P found (RouteReturn t run) h is e = absurd cc
case_yield bytes n s k P found (Announce number t track) h is e = absurd cc
case_yield bytes n s k P found (Cancel number t) h is e = absurd cc
case_yield bytes n s k P found (TakingOver number t) h is e = absurd cc
case_yield bytes n s k P found (Yield number t heard d e p hand) h is text =
    found number t heard d e p hand h (yield_fields bytes n s k number t heard d e p hand h text)

-- and so if bytes of that kind spell a frame
pub of_yield : (bytes : List ℕ) (P : Type 0)
    → ((number t heard : ℕ) (d e : Bool) (p : YieldedPlace) (hand : SectionRun)
    → HasBodyRange (Yield number t heard d e p hand)
    → body_fields (Yield number t heard d e p hand) ≡ raw_fields bytes → P)
    → slice_index bytes 8 ≡ kind_number kinds.Yield → (f : Frame) → Spells bytes f → P
of_yield bytes P found at f p =
    case_yield bytes f.number f.stamp (kind_number (kind_of f.body)) P found f.body p.ranges.body
    (one_kind (kind_of f.body) kinds.Yield (sym (frame_kind bytes f p) ∙ at)) (p.text ∙ frame_parts f)
