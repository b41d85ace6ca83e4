-- A message of a train: late or again, of a foreign engine, or one that is taken.
use Rattle.std.proofs.Common.{[], ◌∙◌, ◌∷◌, ◌≡◌, ap, false, is_none, List, None, refl, Result, Some, true, ℕ}
use Rattle.std.specs.List.{find}
use Rattle.rbc_book.specs.Book.{Pages}
use Rattle.rbc_handover.specs.Giving.{with_count}
use Rattle.rbc_right.specs.Rights.{Rights}
use Rattle.rbc_spec.specs.Acts.{Reply}
use Rattle.rbc_spec.specs.Centre.{Centre}
use Rattle.rbc_spec.specs.Line.{Line, train_number}
use Rattle.rbc_spec.specs.Message.{EndOfMission, InitiationOfSession, is_stale, Report, Request, SessionEstablished}
use Rattle.rbc_spec.specs.Message.{ShorteningGranted, ShorteningRejected, StartOfMission, TerminationOfSession}
use Rattle.rbc_spec.specs.Message.{TrainBody, TrainData, TrainMessage}
use Rattle.rbc_spec.specs.Outcome.{ForeignEngine, Reason, reasons_of, StaleStamp}
use Rattle.rbc_spec.specs.Step.{Effect, effect, holds, silence, Train}
use Rattle.rbc_train.proofs.Desk.{same_parts, silent_effect}
use Rattle.rbc_train.specs.declared.heard.Heard.{Heard}
use Rattle.rbc_train.specs.declared.reason.Reason.{Reason as ReasonCode}
use Rattle.rbc_train.specs.declared.train.TrainState.{TrainState}
use Rattle.rbc_train.specs.Desk.{effect_left, HasParts, replied, with_parts}

-- the first reasons that are checked for every message
reasons_begin : (body : TrainBody) → (rest : List Reason) × (reasons_of body ≡ ForeignEngine ∷ StaleStamp ∷ rest)
reasons_begin InitiationOfSession = (_, refl)
reasons_begin TerminationOfSession = (_, refl)
reasons_begin SessionEstablished = (_, refl)
reasons_begin (StartOfMission is_valid position) = (_, refl)
reasons_begin (TrainData position) = (_, refl)
reasons_begin (Request position) = (_, refl)
reasons_begin (Report position) = (_, refl)
reasons_begin (ShorteningGranted stamp position) = (_, refl)
reasons_begin (ShorteningRejected stamp position) = (_, refl)
reasons_begin (EndOfMission position) = (_, refl)

pub foreign_silence : (line : Line) (c : ℕ) (k : Centre) (m : TrainMessage)
    → is_none (train_number line m.nid_engine) ≡ true → silence line c k m ≡ Some ForeignEngine
foreign_silence line c k m foreign = ap (find (holds line c k m)) (reasons_begin m.body).1 ∙ rw foreign refl

pub stale_silence : (line : Line) (c : ℕ) (k : Centre) (m : TrainMessage)
    → is_none (train_number line m.nid_engine) ≡ false → is_stale m.t_train (k.heard m.nid_engine) ≡ true
    → silence line c k m ≡ Some StaleStamp
stale_silence line c k m known stale = ap (find (holds line c k m)) (reasons_begin m.body).1 ∙ rw (known, stale) refl

-- no handover more was announced
pub announced_same : (k : Centre) (count : ℕ) → k.announced ≡ count → k ≡ with_count count k
announced_same k count is = λ i. record k { announced = is i }

-- a message late or again leaves the parts as they are
pub stale_left : (line : Line) (c : ℕ) (k : Centre) (p : TrainState) (book : Pages) (rights : Rights) (m : TrainMessage)
    → HasParts line c k p book rights → m.nid_engine ≡ p.supervision.engine
    → is_none (train_number line p.supervision.engine) ≡ false → is_stale m.t_train p.heard ≡ true → (count : ℕ)
    → k.announced ≡ count
    → effect line c k (Train m) ≡ record {
      reply = replied (with_count count (with_parts p book rights k)) [] [];
      link = None;
      silence = Some StaleStamp;
    }
stale_left line c k p book rights m has engine known stale count is =
    silent_effect line c k m StaleStamp
    (stale_silence line c k m (ap (λ (t : ℕ). is_none (train_number line t)) engine ∙ known)
    (ap (is_stale m.t_train) (ap k.heard engine ∙ has.has_heard) ∙ stale))
    ∙ ap (λ (r : Reply). record { reply = r; link = None; silence = Some StaleStamp })
    (same_parts line c k p book rights has
    ∙ ap (λ (x : Centre). replied x [] []) (announced_same (with_parts p book rights k) count is))

-- one message and the same
pub heard_same : (line : Line) (c : ℕ) (k : Centre) (m n : TrainMessage) (e : Effect) → effect line c k (Train n) ≡ e
    → m ≡ n → effect line c k (Train m) ≡ e
heard_same line c k m n e is same = ap (λ (x : TrainMessage). effect line c k (Train x)) same ∙ is

-- by which no handover is announced
pub heard_as : (line : Line) (c : ℕ) (k : Centre) (m n : TrainMessage) (t : ℕ) (left : Centre)
    (r : Result Heard ReasonCode) (count : ℕ)
    → effect line c k (Train n) ≡ effect_left line c t left r → m ≡ n → left.announced ≡ count
    → effect line c k (Train m) ≡ effect_left line c t (with_count count left) r
heard_as line c k m n t left r count comes same is =
    heard_same line c k m n _ comes same ∙ ap (λ (x : Centre). effect_left line c t x r) (announced_same left count is)
