-- Consecutive fields have one reading, and a body is read by its kind.
use Rattle.std.proofs.Common.{[], ◌%◌, ◌++◌, ◌+◌, ◌/◌, ◌<◌, ◌^◌, ◌∙◌, ◌∷◌, ◌≡◌, ap, arith, Bool, drop, false, length}
use Rattle.std.proofs.Common.{length-append, List, negsuc, pos, refl, sym, true, ℕ, ℤ}
use Rattle.std.proofs.lemmas.List.{drop_at}
use Rattle.std.proofs.Math.Facts.{Fits-of_z, to_z-of_z}
use Rattle.std.specs.Int.{cast_signed, w32}
use Rattle.std.specs.Option.{option_map_or}
use Rattle.std.specs.Prelude.{◌==◌, FitsSigned, IsTrue, None, Option, Some}
use Rattle.byteorder.specs.Endian.{big_bytes, big_number}
use Rattle.byteorder.specs.Numbers.{big_number-reads_back, length-bytes_high_first}
use Rattle.rbc_linkmsg.specs.declared.kind.FrameKind.{FrameKind}
use Rattle.rbc_linkmsg.specs.declared.kind.FrameKind.TheVariants as kinds
use Rattle.rbc_linkmsg.specs.Raw.{rear_from}
use Rattle.rbc_linkmsg.specs.Spelling.{AllFit, body_fields, distance, Field, flags, kind_of, rear_distance, spelled}
use Rattle.rbc_spec.specs.Frame.{Announce, AskRight, Body, Cancel, GiveRight, HasBodyRange, is_short_distance}
use Rattle.rbc_spec.specs.Frame.{RefuseRight, ReturnRight, RouteAsk, RouteInfo, RouteReturn, RouteWithdraw, TakingOver}
use Rattle.rbc_spec.specs.Frame.{Yield}
use Rattle.rbc_spec.specs.SectionRuns.{SectionRun}

-- # Consecutive fields: their bytes have one reading.

pub spelled-cons : (f : Field) (fields : List Field) → spelled (f ∷ fields) ≡ big_bytes f.0 f.1 ++ spelled fields
unfolding spelled
spelled-cons f fields = refl

-- the bytes of a number of n bytes and the bytes after it determine both
pub one_number : (n x y : ℕ) (xs ys : List ℕ) → x < 256 ^ n → y < 256 ^ n
    → big_bytes n x ++ xs ≡ big_bytes n y ++ ys → (x ≡ y) × (xs ≡ ys)
one_number n x y xs ys x-fits y-fits e = (
  sym (big_number-reads_back n x xs x-fits) ∙ ap (big_number n) e ∙ big_number-reads_back n y ys y-fits,
  sym (drop_at (big_bytes n x) xs n (length-bytes_high_first n x)) ∙ ap (drop n) e
      ∙ drop_at (big_bytes n y) ys n (length-bytes_high_first n y),
)

abbrev pub widths : List Field → List ℕ
widths [] = []
widths (f ∷ fields) = f.0 ∷ widths fields

heads : (a b : ℕ) (xs ys : List ℕ) → a ∷ xs ≡ b ∷ ys → (a ≡ b) × (xs ≡ ys)
heads a b xs ys e = (cc, cc)

same_field : (n x m y : ℕ) (fs gs : List Field) → n ≡ m → x ≡ y → fs ≡ gs → (n, x) ∷ fs ≡ (m, y) ∷ gs
same_field n x m y fs gs p q r = cc

-- fields of the same widths whose bytes are the same are the same
pub one_fields : (fs gs : List Field) → widths fs ≡ widths gs → AllFit fs → AllFit gs
    → spelled fs ≡ spelled gs → fs ≡ gs
one_fields [] [] w fs-fit gs-fit e = refl
one_fields [] (g ∷ gs) w fs-fit gs-fit e = absurd cc
one_fields (f ∷ fs) [] w fs-fit gs-fit e = absurd cc
one_fields ((n, x) ∷ fs) ((m, y) ∷ gs) w fs-fit gs-fit e =
    let ws = heads n m (widths fs) (widths gs) w in
    let both : big_bytes n x ++ spelled fs ≡ big_bytes n y ++ spelled gs =
    sym (spelled-cons (n, x) fs) ∙ e ∙ spelled-cons (m, y) gs ∙ ap (λ k. big_bytes k y ++ spelled gs) (sym ws.0) in
    let y-fits : y < 256 ^ n = rw ws.0 gs-fit.0 in
    let parts = one_number n x y (spelled fs) (spelled gs) fs-fit.0 y-fits both in
    same_field n x m y fs gs ws.0 parts.0 (one_fields fs gs ws.1 fs-fit.1 gs-fit.1 parts.1)

pub length-spelled-cons : (n v : ℕ) (fields : List Field)
    → length (spelled ((n, v) ∷ fields)) ≡ n + length (spelled fields)
length-spelled-cons n v fields =
    ap length (spelled-cons (n, v) fields) ∙ length-append (big_bytes n v) (spelled fields)
    ∙ ap (λ k. k + length (spelled fields)) (length-bytes_high_first n v)

-- # The kind and the fields of a body determine it.

-- the widths of a kind's fields
abbrev pub kind_widths : FrameKind → List ℕ
kind_widths kinds.AskRight = 4 ∷ []
kind_widths kinds.GiveRight = 4 ∷ []
kind_widths kinds.RefuseRight = 4 ∷ []
kind_widths kinds.ReturnRight = 4 ∷ []
kind_widths kinds.RouteAsk = 4 ∷ 2 ∷ 1 ∷ []
kind_widths kinds.RouteInfo = 4 ∷ 2 ∷ 1 ∷ []
kind_widths kinds.RouteWithdraw = 4 ∷ 2 ∷ []
kind_widths kinds.RouteReturn = 4 ∷ 2 ∷ 1 ∷ []
kind_widths kinds.Announce = 4 ∷ 4 ∷ 1 ∷ []
kind_widths kinds.Cancel = 4 ∷ 4 ∷ []
kind_widths kinds.TakingOver = 4 ∷ 4 ∷ []
kind_widths kinds.Yield = 4 ∷ 4 ∷ 4 ∷ 1 ∷ 1 ∷ 4 ∷ 4 ∷ 4 ∷ 2 ∷ 1 ∷ []

pub body_widths : (b : Body) → widths (body_fields b) ≡ kind_widths (kind_of b)
body_widths (AskRight t) = refl
body_widths (GiveRight t) = refl
body_widths (RefuseRight t) = refl
body_widths (ReturnRight t) = refl
body_widths (RouteAsk t first most) = refl
body_widths (RouteInfo t run) = refl
body_widths (RouteWithdraw t s) = refl
body_widths (RouteReturn t run) = refl
body_widths (Announce number t track) = refl
body_widths (Cancel number t) = refl
body_widths (TakingOver number t) = refl
body_widths (Yield number t heard has_data is_ended place hand) = refl

-- the body of a kind with such fields
abbrev pub body_from : FrameKind → List Field → Body
body_from kinds.AskRight ((_, t) ∷ _) = AskRight t
body_from kinds.GiveRight ((_, t) ∷ _) = GiveRight t
body_from kinds.RefuseRight ((_, t) ∷ _) = RefuseRight t
body_from kinds.ReturnRight ((_, t) ∷ _) = ReturnRight t
body_from kinds.RouteAsk ((_, t) ∷ (_, first) ∷ (_, most) ∷ _) = RouteAsk t first most
body_from kinds.RouteInfo ((_, t) ∷ (_, first) ∷ (_, count) ∷ _) = RouteInfo t (record { first = first; count = count })
body_from kinds.RouteWithdraw ((_, t) ∷ (_, s) ∷ _) = RouteWithdraw t s
body_from kinds.RouteReturn ((_, t) ∷ (_, first) ∷ (_, count) ∷ _) =
    RouteReturn t (record { first = first; count = count })
body_from kinds.Announce ((_, number) ∷ (_, t) ∷ (_, track) ∷ _) = Announce number t track
body_from kinds.Cancel ((_, number) ∷ (_, t) ∷ _) = Cancel number t
body_from kinds.TakingOver ((_, number) ∷ (_, t) ∷ _) = TakingOver number t
body_from kinds.Yield ((_, number) ∷ (_, t) ∷ (_, heard) ∷ (_, track) ∷ (_, n) ∷ (_, group) ∷ (_, front) ∷ (_, rear)
    ∷ (_, first) ∷ (_, count) ∷ _) =
    Yield number t heard (n % 2 == 1) (n / 2 % 2 == 1)
    (record { track = track; group = group; front = cast_signed w32 front; rear = rear_from n rear })
    (record { first = first; count = count })
body_from k fields = AskRight 0

fits_short : (z : ℤ) → IsTrue (is_short_distance z) → FitsSigned w32 z
fits_short (pos n) h = record { sfits = grind (arith, h) }
fits_short (negsuc n) h = record { sfits = grind (arith, h) }

front-again : (z : ℤ) → IsTrue (is_short_distance z) → cast_signed w32 (distance z) ≡ z
front-again z h = to_z-of_z (fits_short z h)

flag-0 : (d e : Bool) (rear : Option ℤ) → (flags d e rear % 2 == 1) ≡ d
flag-0 true true None = refl
flag-0 true true (Some z) = refl
flag-0 true false None = refl
flag-0 true false (Some z) = refl
flag-0 false true None = refl
flag-0 false true (Some z) = refl
flag-0 false false None = refl
flag-0 false false (Some z) = refl

flag-1 : (d e : Bool) (rear : Option ℤ) → (flags d e rear / 2 % 2 == 1) ≡ e
flag-1 true true None = refl
flag-1 true true (Some z) = refl
flag-1 true false None = refl
flag-1 true false (Some z) = refl
flag-1 false true None = refl
flag-1 false true (Some z) = refl
flag-1 false false None = refl
flag-1 false false (Some z) = refl

rear-again : (d e : Bool) (rear : Option ℤ) → IsTrue (option_map_or is_short_distance rear true)
    → rear_from (flags d e rear) (rear_distance rear) ≡ rear
rear-again true true None h = refl
rear-again true true (Some z) h = ap Some (front-again z h)
rear-again true false None h = refl
rear-again true false (Some z) h = ap Some (front-again z h)
rear-again false true None h = refl
rear-again false true (Some z) h = ap Some (front-again z h)
rear-again false false None h = refl
rear-again false false (Some z) h = ap Some (front-again z h)

same_yield : (number t heard track group : ℕ) (d e d' e' : Bool) (front front' : ℤ) (rear rear' : Option ℤ)
    (hand : SectionRun) → d ≡ d' → e ≡ e' → front ≡ front' → rear ≡ rear'
    → Yield number t heard d e (record { track = track; group = group; front = front; rear = rear }) hand
    ≡ Yield number t heard d' e' (record { track = track; group = group; front = front'; rear = rear' }) hand
same_yield number t heard track group d e d' e' front front' rear rear' hand p q r s = rw (p, q, r, s) refl

pub body_from-again : (b : Body) → HasBodyRange b → body_from (kind_of b) (body_fields b) ≡ b
body_from-again (AskRight t) h = refl
body_from-again (GiveRight t) h = refl
body_from-again (RefuseRight t) h = refl
body_from-again (ReturnRight t) h = refl
body_from-again (RouteAsk t first most) h = refl
body_from-again (RouteInfo t run) h = refl
body_from-again (RouteWithdraw t s) h = refl
body_from-again (RouteReturn t run) h = refl
body_from-again (Announce number t track) h = refl
body_from-again (Cancel number t) h = refl
body_from-again (TakingOver number t) h = refl
body_from-again (Yield number t heard d e place hand) h =
    same_yield number t heard place.track place.group (flags d e place.rear % 2 == 1)
    (flags d e place.rear / 2 % 2 == 1) d e
    (cast_signed w32 (distance place.front)) place.front (rear_from (flags d e place.rear) (rear_distance place.rear))
    place.rear hand
    (flag-0 d e place.rear) (flag-1 d e place.rear) (front-again place.front h.3.front)
    (rear-again d e place.rear h.3.rear)

distance-fits : (z : ℤ) → IsTrue (is_short_distance z) → distance z < 256 ^ 4
distance-fits z h = let f = Fits-of_z (fits_short z h) in f.fits

rear-fits : (rear : Option ℤ) → IsTrue (option_map_or is_short_distance rear true) → rear_distance rear < 256 ^ 4
rear-fits None h = omega arith
rear-fits (Some z) h = distance-fits z h

flags-fit : (d e : Bool) (rear : Option ℤ) → flags d e rear < 256 ^ 1
flags-fit true true None = omega arith
flags-fit true true (Some z) = omega arith
flags-fit true false None = omega arith
flags-fit true false (Some z) = omega arith
flags-fit false true None = omega arith
flags-fit false true (Some z) = omega arith
flags-fit false false None = omega arith
flags-fit false false (Some z) = omega arith

pub fit_body : (b : Body) → HasBodyRange b → AllFit (body_fields b)
fit_body (AskRight t) h = (omega (arith, h), tt)
fit_body (GiveRight t) h = (omega (arith, h), tt)
fit_body (RefuseRight t) h = (omega (arith, h), tt)
fit_body (ReturnRight t) h = (omega (arith, h), tt)
fit_body (RouteAsk t first most) h = (omega (arith, h.0), (omega (arith, h.1.first), (omega (arith, h.1.count.1), tt)))
fit_body (RouteInfo t run) h = (omega (arith, h.0), (omega (arith, h.1.first), (omega (arith, h.1.count.1), tt)))
fit_body (RouteWithdraw t s) h = (omega (arith, h.0), (omega (arith, h.1), tt))
fit_body (RouteReturn t run) h = (omega (arith, h.0), (omega (arith, h.1.first), (omega (arith, h.1.count.1), tt)))
fit_body (Announce number t track) h = (omega (arith, h.0.1), (omega (arith, h.1), (omega (arith, h.2), tt)))
fit_body (Cancel number t) h = (omega (arith, h.0.1), (omega (arith, h.1), tt))
fit_body (TakingOver number t) h = (omega (arith, h.0.1), (omega (arith, h.1), tt))
fit_body (Yield number t heard d e place hand) h = (
  omega (arith, h.0.1),
  (
    omega (arith, h.1),
    (
      omega (arith, h.2),
      (
        omega (arith, h.3.track),
        (
          flags-fit d e place.rear,
          (
            omega (arith, h.3.group),
            (
              distance-fits place.front h.3.front,
              (rear-fits place.rear h.3.rear, (omega (arith, h.4.first), (omega (arith, h.4.count.1), tt))),
            ),
          ),
        ),
      ),
    ),
  ),
)

pub same_from : (j k : FrameKind) (fs gs : List Field) → j ≡ k → fs ≡ gs → body_from j fs ≡ body_from k gs
same_from j k fs gs p q = rw (p, q) refl

-- bodies of one kind that have the same bytes are the same
pub one_body : (a b : Body) → HasBodyRange a → HasBodyRange b → kind_of a ≡ kind_of b
    → spelled (body_fields a) ≡ spelled (body_fields b) → a ≡ b
one_body a b p q same e =
    let w : widths (body_fields a) ≡ widths (body_fields b) = body_widths a
    ∙ ap kind_widths same ∙ sym (body_widths b) in
    let fields : body_fields a ≡ body_fields b =
    one_fields (body_fields a) (body_fields b) w (fit_body a p) (fit_body b q) e in
    sym (body_from-again a p) ∙ same_from (kind_of a) (kind_of b) (body_fields a) (body_fields b) same fields
    ∙ body_from-again b q
