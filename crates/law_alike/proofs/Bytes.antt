-- The visible part of an outcome has one spelling.
use Rattle.std.proofs.Common.{[], ◌∙◌, ◌∷◌, ◌≡◌, ap, List, refl, sym, ℕ}
use Rattle.law_alike.specs.Alike.{AreFramesWritten, AreMessagesWritten, IsWrittenAs}
use Rattle.rbc_msgs.proofs.TrackLaws.{one_track_spelling}
use Rattle.rbc_spec.specs.Frame.{Frame}
use Rattle.rbc_spec.specs.Outcome.{Outcome, Saying}

messages_alike : (sayings : List Saying) (a b : List (ℕ × List ℕ)) → AreMessagesWritten sayings a
    → AreMessagesWritten sayings b → a ≡ b
messages_alike [] [] [] are also = refl
messages_alike [] [] (n ∷ b) are also = absurd also
messages_alike [] (m ∷ a) b are also = absurd are
messages_alike (s ∷ sayings) [] b are also = absurd are
messages_alike (s ∷ sayings) (m ∷ a) [] are also = absurd also
messages_alike (s ∷ sayings) (m ∷ a) (n ∷ b) are also =
    let train : m.0 ≡ n.0 = are.0 ∙ sym also.0 in
    let bytes : m.1 ≡ n.1 = one_track_spelling m.1 n.1 s.message are.1 also.1 are.2 also.2 in
    (λ i. (train i, bytes i) ∷ a) ∙ ap (λ xs. n ∷ xs) (messages_alike sayings a b are.3 also.3)

frames_alike : (frames : List Frame) (a b : List (List ℕ)) → AreFramesWritten frames a
    → AreFramesWritten frames b → a ≡ b
frames_alike [] [] [] are also = refl
frames_alike [] [] (n ∷ b) are also = absurd also
frames_alike [] (m ∷ a) b are also = absurd are
frames_alike (f ∷ frames) [] b are also = absurd are
frames_alike (f ∷ frames) (m ∷ a) [] are also = absurd also
frames_alike (f ∷ frames) (m ∷ a) (n ∷ b) are also =
    ap (λ x. x ∷ a) (are.0.text ∙ sym also.0.text) ∙ ap (λ xs. n ∷ xs) (frames_alike frames a b are.1 also.1)

pub one_spelling : (o : Outcome) (messages others : List (ℕ × List ℕ)) (frames other_frames : ℕ → List (List ℕ))
    → IsWrittenAs o messages frames → IsWrittenAs o others other_frames
    → (messages ≡ others) × ((d : ℕ) → frames d ≡ other_frames d)
one_spelling o messages others frames other_frames is also = (
  messages_alike o.sayings messages others is.to_trains also.to_trains,
  λ d. frames_alike (o.frames d) (frames d) (other_frames d) (is.to_centres d) (also.to_centres d),
)
