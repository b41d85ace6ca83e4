-- The message that a statement names. The room of packet 11, and messages that are too long.
use Rattle.std.proofs.Common.{[], ◌*◌, ◌<◌, ◌∙◌, ◌≡◌, ◌≢◌, ◌≤◌, ap, arith, Bool, eq-eqb, Err, inr, length, List}
use Rattle.std.proofs.Common.{Ok, refl, Result, subst, sym, ℕ}
use Rattle.std.proofs.lemmas.Bool.{ne_eqb}
use Rattle.std.specs.Prelude.{if◌then◌else◌}
use Rattle.rbc_bits.proofs.Bytes.{length-bits_of}
use Rattle.rbc_bits.specs.Bits.{bits_of}
use Rattle.rbc_msgs.specs.declared.train_body.TrainBody.{TrainBody}
use Rattle.rbc_msgs.specs.TrainSpelling.{train_length}
use Rattle.rbc_msgs.specs.TrainText.{TrainText}
use Rattle.rbc_packets.specs.Steps.{◌>>=◌}
use Rattle.rbc_spec.specs.Message.{unknown_time}
use Rattle.text_scenario.specs.declared.fault.SentFault.{SentFault}
use Rattle.text_scenario.specs.declared.fault.SentFault.TheVariants.{Time, TooLong}
use Rattle.text_scenario.specs.declared.sent.Sent.{Sent}
use Rattle.text_scenario.specs.Named.{body_of, message_named, position_in, timed}
use Rattle.text_scenario.specs.Sent.{IsUnsent}

-- L_PACKET has room for 1 021 bytes
pub has_room : (bytes : List ℕ) → length bytes ≤ 1021 → length (bits_of bytes) < 8171
has_room bytes few =
    subst (λ n. n < 8171) (sym (length-bits_of bytes)) (let e : 8 * length bytes < 8171 = omega (arith, few) in e)

-- L_MESSAGE has no room for the message
pub too_long : (s : Sent) (t : ℕ) (m : TrainText) → message_named s t ≡ Ok m → 1023 < train_length m
    → IsUnsent s t TooLong
too_long s t m is long = λ fault. inr (refl, (m, is, long))

-- no body is named, so no message is
pub err : (s : Sent) (t : ℕ) (fault : SentFault)
    → body_of s.kind s.content.items (position_in s.report) ≡ Err fault → message_named s t ≡ Err fault
err s t fault is = ap (λ (r : Result TrainBody SentFault). r >>= timed s t) is

-- T_TRAIN is not known
pub late : (s : Sent) (t : ℕ) (b : TrainBody)
    → body_of s.kind s.content.items (position_in s.report) ≡ Ok b → t ≡ unknown_time → message_named s t ≡ Err Time
late s t b is gone =
    ap (λ (r : Result TrainBody SentFault). r >>= timed s t) is
    ∙ ap (λ (c : Bool). if c then Err Time
    else Ok (record { t_train = t; nid_engine = s.nid_engine; body = b; further = [] })) (eq-eqb t unknown_time gone)

-- the message of the body
pub named : (s : Sent) (t : ℕ) (b : TrainBody) (m : TrainText)
    → body_of s.kind s.content.items (position_in s.report) ≡ Ok b → t ≢ unknown_time
    → m ≡ record { t_train = t; nid_engine = s.nid_engine; body = b; further = [] } → message_named s t ≡ Ok m
named s t b m is known same =
    ap (λ (r : Result TrainBody SentFault). r >>= timed s t) is
    ∙ ap (λ (c : Bool). if c then Err Time
    else Ok (record { t_train = t; nid_engine = s.nid_engine; body = b; further = [] })) (ne_eqb t unknown_time known)
    ∙ ap (λ (n : TrainText). Ok n) (sym same)
