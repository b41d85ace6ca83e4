-- Further packets, in order.
use Rattle.std.proofs.Common.{[], ◌++◌, ◌<◌, ◌∙◌, ◌∷◌, ◌≡◌, ◌≢◌, ◌≤◌, All, ap, append_assoc, arith, Bool, Err, false}
use Rattle.std.proofs.Common.{length, length-append, List, ltb, Ok, refl, Result, suc, sym, true, zero, ℕ}
use Rattle.std.proofs.lemmas.Bool.{le-ltb, lt-ltb}
use Rattle.std.proofs.lemmas.List.{append-nil}
use Rattle.std.proofs.lemmas.List.Concat.{flat_map-append, flat_map-cons}
use Rattle.std.proofs.lemmas.List.Elements.{All-from_recursion}
use Rattle.std.specs.List.{AllByRecursion, flat_map}
use Rattle.rbc_msgs.proofs.TrainParts.{length-packet}
use Rattle.rbc_msgs.specs.declared.fault.MsgFault.{MsgFault}
use Rattle.rbc_msgs.specs.declared.train_body.TrainBody.{TrainBody}
use Rattle.rbc_msgs.specs.declared.train_body.TrainBody.TheVariants.{EndOfMission, InitiationOfSession, Report, Request}
use Rattle.rbc_msgs.specs.declared.train_body.TrainBody.TheVariants.{SessionEstablished, ShorteningGranted}
use Rattle.rbc_msgs.specs.declared.train_body.TrainBody.TheVariants.{ShorteningRejected, StartOfMission}
use Rattle.rbc_msgs.specs.declared.train_body.TrainBody.TheVariants.{TerminationOfSession, TrainData}
use Rattle.rbc_msgs.specs.TrainReading.{further_at, further_packet_at}
use Rattle.rbc_msgs.specs.TrainSpelling.{IsFurther, packet_bits, TrainBodyFits}
use Rattle.rbc_msgs.specs.TrainView.{HasItsPackets}
use Rattle.rbc_packets.specs.Packet.{Packet}
use Rattle.rbc_packets.specs.Steps.{◌>>=◌}

-- ---- the packets that a message keeps

pub its-packets : (b : TrainBody) → TrainBodyFits b → HasItsPackets b
its-packets (TrainData position packet) h = h.1
its-packets (Request reason position) h = tt
its-packets (Report position) h = tt
its-packets (ShorteningGranted request position) h = tt
its-packets (ShorteningRejected request position) h = tt
its-packets (EndOfMission position) h = tt
its-packets InitiationOfSession h = tt
its-packets TerminationOfSession h = tt
its-packets (StartOfMission status position) h = tt
its-packets SessionEstablished h = tt

others : (ps : List Packet) → AllByRecursion IsFurther ps → AllByRecursion (λ p. p.nid_packet ≢ 0) ps
others [] h = tt
others (p ∷ ps) h = (h.0.0, others ps h.1)

-- no further packet has the number of a position report
pub their-numbers : (ps : List Packet) → AllByRecursion IsFurther ps → All (λ p. p.nid_packet ≢ 0) ps
their-numbers ps h = All-from_recursion (λ p. p.nid_packet ≢ 0) ps (others ps h)

-- ---- one more packet

pub all-more : (ps : List Packet) (p : Packet) → AllByRecursion IsFurther ps → IsFurther p
    → AllByRecursion IsFurther (ps ++ p ∷ [])
all-more [] p h f = (f, tt)
all-more (q ∷ ps) p h f = (h.0, all-more ps p h.1 f)

pub bits-more : (ps : List Packet) (p : Packet)
    → flat_map packet_bits (ps ++ p ∷ []) ≡ flat_map packet_bits ps ++ packet_bits p
bits-more ps p =
    flat_map-append packet_bits ps (p ∷ [])
    ∙ ap (λ t. flat_map packet_bits ps ++ t) (flat_map-cons packet_bits p [] ∙ append-nil (packet_bits p))

-- ---- reading them in order

-- the packets before those still to be read
abbrev ahead : List Packet → Result (List Packet × List Bool) MsgFault → Result (List Packet × List Bool) MsgFault
ahead front read = read >>= λ x. Ok (front ++ x.0, x.1)

-- these packets were read from the front of all bits, and these bits are left
pub record IsRead (all left : List Bool) (ps : List Packet) : Type 0 where
  pub most : ℕ
  pub enough : length left ≤ most
  pub read : ahead ps (further_at most left) ≡ further_at (length all) all
  pub taken : all ≡ flat_map packet_bits ps ++ left
  pub fits : AllByRecursion IsFurther ps

ahead-none : (r : Result (List Packet × List Bool) MsgFault) → ahead [] r ≡ r
ahead-none (Ok x) = refl
ahead-none (Err e) = refl

pub none-read : (all : List Bool) → IsRead all all []
none-read all =
    record {
      most = length all;
      enough = omega arith;
      read = ahead-none (further_at (length all) all);
      taken = refl;
      fits = tt;
    }

regroup : (ps : List Packet) (p : Packet) (r : Result (List Packet × List Bool) MsgFault)
    → ahead ps (r >>= λ x. Ok (p ∷ x.0, x.1)) ≡ ahead (ps ++ p ∷ []) r
regroup ps p (Ok x) = ap (λ (qs : List Packet). Ok (qs, x.1)) (sym (append_assoc ps (p ∷ []) x.0))
regroup ps p (Err e) = refl

more : (n : ℕ) (left after : List Bool) (ps : List Packet) (p : Packet)
    (total : Result (List Packet × List Bool) MsgFault) → 8 ≤ length left → length left ≤ n
    → left ≡ packet_bits p ++ after → further_packet_at left ≡ Ok (p, after)
    → ahead ps (further_at n left) ≡ total
    → (k : ℕ) × (length after ≤ k) × (ahead (ps ++ p ∷ []) (further_at k after) ≡ total)
unfolding further_at
more zero left after ps p total long enough text first so_far = absurd (omega arith)
more (suc n) left after ps p total long enough text first so_far =
    let test : ltb (length left) 8 ≡ false = le-ltb _ _ long in
    let step : ahead ps (further_at (suc n) left) ≡ ahead (ps ++ p ∷ []) (further_at n after) =
    rw (test, first) (regroup ps p (further_at n after)) in
    (n, omega (arith, ap length text, length-append (packet_bits p) after, length-packet p), sym step ∙ so_far)

pub one-more : (all left after : List Bool) (ps : List Packet) (p : Packet) → IsRead all left ps → 8 ≤ length left
    → left ≡ packet_bits p ++ after → further_packet_at left ≡ Ok (p, after) → IsFurther p
    → IsRead all after (ps ++ p ∷ [])
one-more all left after ps p h long text first fits =
    let m = more h.most left after ps p (further_at (length all) all) long h.enough text first h.read in
    record {
      most = m.0;
      enough = m.1;
      read = m.2;
      taken = h.taken ∙ ap (λ t. flat_map packet_bits ps ++ t) text
          ∙ sym (append_assoc (flat_map packet_bits ps) (packet_bits p) after)
          ∙ ap (λ t. t ++ after) (sym (bits-more ps p));
      fits = all-more ps p h.fits fits;
    }

ends : (n : ℕ) (left : List Bool) (ps : List Packet) (total : Result (List Packet × List Bool) MsgFault)
    → length left < 8 → ahead ps (further_at n left) ≡ total → total ≡ Ok (ps, left)
unfolding further_at
ends zero left ps total few so_far = sym so_far ∙ ap (λ (qs : List Packet). Ok (qs, left)) (append-nil ps)
ends (suc n) left ps total few so_far =
    let test : ltb (length left) 8 ≡ true = lt-ltb _ _ few in
    let step : ahead ps (further_at (suc n) left) ≡ Ok (ps, left) =
    rw test (ap (λ (qs : List Packet). Ok (qs, left)) (append-nil ps)) in
    sym so_far ∙ step

pub all-read : (all left : List Bool) (ps : List Packet) → IsRead all left ps → length left < 8
    → further_at (length all) all ≡ Ok (ps, left)
all-read all left ps h few = ends h.most left ps (further_at (length all) all) few h.read

fails : (n : ℕ) (left : List Bool) (ps : List Packet) (e : MsgFault) (total : Result (List Packet × List Bool) MsgFault)
    → 8 ≤ length left → length left ≤ n → further_packet_at left ≡ Err e → ahead ps (further_at n left) ≡ total
    → total ≡ Err e
unfolding further_at
fails zero left ps e total long enough first so_far = absurd (omega arith)
fails (suc n) left ps e total long enough first so_far =
    let test : ltb (length left) 8 ≡ false = le-ltb _ _ long in
    let step : ahead ps (further_at (suc n) left) ≡ Err e = rw (test, first) refl in
    sym so_far ∙ step

pub none-more : (all left : List Bool) (ps : List Packet) (e : MsgFault) → IsRead all left ps → 8 ≤ length left
    → further_packet_at left ≡ Err e → further_at (length all) all ≡ Err e
none-more all left ps e h long first =
    fails h.most left ps e (further_at (length all) all) long h.enough first h.read
