-- The written bytes, piece after piece, and the messages that they spell.
use Rattle.std.proofs.Common.{[], ◌++◌, ◌∙◌, ◌∷◌, ◌≡◌, ap, append-nil, append_assoc, Err, List, None, Ok, OnErr, Option}
use Rattle.std.proofs.Common.{refl, Result, Some, subst, sym, ℕ}
use Rattle.std.proofs.Props.{props}
use Rattle.std.specs.Io.KnownBytes.{Appends}
use Rattle.rbc_msgs.specs.TrackSpelling.{SpellsTrack, TrackBodyFits, TrackFits}
use Rattle.rbc_spec.specs.Message.{Authority, DataAcknowledged, EndSession, ShorteningRequest, SystemVersion}
use Rattle.rbc_spec.specs.Message.{TerminationAcknowledged, TrackBody, TrackMessage, TrainAccepted, TrainRejected}
use Rattle.rbc_spec.specs.Message.{Transition}
use Rattle.serve_workers.specs.Writing.Row.{IsRow, SpellRow}

pub Appends-trans : (a b c : Option (List ℕ)) (xs ys : List ℕ) → Appends a b xs → Appends b c ys
    → Appends a c (xs ++ ys)
Appends-trans None b c xs ys h k = tt
Appends-trans (Some p) None c xs ys h k = absurd h
Appends-trans (Some p) (Some q) None xs ys h k = absurd k
Appends-trans (Some p) (Some q) (Some r) xs ys h k = k ∙ ap (λ zs. zs ++ ys) h ∙ append_assoc p xs ys

pub Appends-same : (a b : Option (List ℕ)) (xs ys : List ℕ) → xs ≡ ys → Appends a b xs → Appends a b ys
Appends-same a b xs ys e h = subst (λ zs. Appends a b zs) e h

pub OnErr-intro : {T E : Type 0} {P : Type 0} (r : Result T E) → P → OnErr r P
OnErr-intro (Ok x) p = tt
OnErr-intro (Err e) p = p

-- one more message after those of a list
spell-more : (ms : List TrackMessage) (bytes last : List ℕ) (m : TrackMessage) → SpellRow bytes ms → SpellsTrack last m
    → SpellRow (bytes ++ last) (ms ++ m ∷ [])
spell-more [] bytes last m h s = (last, [], ap (λ xs. xs ++ last) h ∙ sym (append-nil last), s, refl)
spell-more (n ∷ ms) bytes last m h s =
    (h.0, h.1 ++ last, ap (λ xs. xs ++ last) h.2 ∙ append_assoc h.0 h.1 last, h.3, spell-more ms h.1 last m h.4 s)

pub row-more : (bytes last : List ℕ) (m : TrackMessage) → IsRow bytes → SpellsTrack last m → IsRow (bytes ++ last)
row-more bytes last m h s = (h.0 ++ m ∷ [], spell-more h.0 bytes last m h.1 s)

-- ## There is only one proof that bytes spell a message

body-prop : (b : TrackBody) → IsProp (TrackBodyFits b)
body-prop (Authority l) = hlevel props
body-prop (DataAcknowledged stamp) = hlevel props
body-prop (ShorteningRequest l) = hlevel props
body-prop (Transition d c r) = hlevel props
body-prop (EndSession c r) = hlevel props
body-prop SystemVersion = hlevel props
body-prop TerminationAcknowledged = hlevel props
body-prop TrainRejected = hlevel props
body-prop TrainAccepted = hlevel props

fits-prop : (m : TrackMessage) → IsProp (TrackFits m)
fits-prop m = let body : IsProp (TrackBodyFits m.body) = body-prop m.body in hlevel props

pub spells-prop : (bytes : List ℕ) (m : TrackMessage) → IsProp (SpellsTrack bytes m)
spells-prop bytes m = let fits : IsProp (TrackFits m) = fits-prop m in hlevel props
