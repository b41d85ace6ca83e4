-- Acts that announce no handover: the taking of a frame, and the answer to each message of a train except a request.
use Rattle.std.proofs.Common.{◌∙◌, ◌≡◌, false, refl, ℕ}
use Rattle.law_base.proofs.WalkLemmas.Causes.{May}
use Rattle.law_base.proofs.WalkLemmas.FrameAnswers.{of_taking, received_taking}
use Rattle.law_base.proofs.WalkLemmas.Frames.{frame_may}
use Rattle.law_base.proofs.WalkLemmas.Moves.{announces, Answer, Move, nothing_waits, of_walk, Walk}
use Rattle.law_base.proofs.WalkLemmas.Steps.{heard_walks, may_announce, may_do}
use Rattle.law_progress.specs.Ends.{IsSessionOrReport}
use Rattle.rbc_spec.specs.Acts.{◌>>◌, Act, hear, Reply}
use Rattle.rbc_spec.specs.Centre.{Centre}
use Rattle.rbc_spec.specs.Frame.{Body, Frame}
use Rattle.rbc_spec.specs.Line.{Line}
use Rattle.rbc_spec.specs.Links.{received}
use Rattle.rbc_spec.specs.Maps.{put}
use Rattle.rbc_spec.specs.Message.{Request, TrainBody, TrainMessage}
use Rattle.rbc_spec.specs.Outcome.{Early, Next, NoLink, Old, Taken as LinkAnswer}
use Rattle.rbc_spec.specs.Step.{hear_and_answer, taken_by}

-- an act of a centre in state k has announced nothing further
pub record Same (k : Centre) (q : Reply) : Type 0 where
  pub law : q.state.announced ≡ k.announced

module _ (line : Line) (c : ℕ) where
  -- in every state the act announces none
  abbrev Keeps : Act → Type 0
  Keeps act = (k : Centre) → Same k (act k)

  moves : (may : May) (was : Centre) → may.announces ≡ false → (k : Centre) (q : Reply)
      → Move line c may was k q → Same k q
  moves may was never _ _ (announces t d m k its so has none ahead same) = cc
  moves may was never k q move = record { law = refl }

  joins : (a b : Act) (k : Centre) → Same k (a k) → Same (a k).state (b (a k).state) → Same k ((a >> b) k)
  unfolding ◌>>◌
  joins a b k one two = record { law = two.law ∙ one.law }

  of_moves : (may : May) (was : Centre) → may.announces ≡ false → (k : Centre) (q : Reply)
      → Walk line c may was k q → Same k q
  of_moves may was never = of_walk line c may was Same (record { moves = moves may was never; joins = joins })

  -- no answer announces anything
  answers : (may : May) (was : Centre) (d : ℕ) (body : Body) (q : Reply) → Answer line c may was d body q → Same was q
  answers may was d _ _ (nothing_waits t asked none) = record { law = refl }
  answers may was d body q answer = record { law = refl }

  -- for each answer of the link
  pub taken_keeps : (d : ℕ) (f : Frame) (answer : LinkAnswer) → Keeps (taken_by line c d f answer)
  unfolding ◌>>◌
  taken_keeps d f Next k = let counted = record k { taken = put k.taken d f.number } in
      record {
        law = (of_taking line c d counted f.body Same
            (record { moves = moves (frame_may d f.body) counted refl; joins = joins })
            (answers (frame_may d f.body) counted d f.body)
            (received line c d f.body counted) (received_taking line c d counted f.body)).law;
      }
  taken_keeps d f Old k = record { law = refl }
  taken_keeps d f Early k = record { law = refl }
  taken_keeps d f NoLink k = record { law = refl }

  no_request : (body : TrainBody) → IsSessionOrReport body → may_announce body ≡ false
  no_request (Request position) is = absurd is
  no_request body is = refl

  pub heard_keeps : (m : TrainMessage) → IsSessionOrReport m.body → Keeps (hear_and_answer line c m)
  heard_keeps m is k = of_moves (may_do m m.body) (hear m k).state (no_request m.body is) k (hear_and_answer line c m k)
      (heard_walks line c m k)
