-- The frames that a link carries, frame by frame and turn by turn.
use Rattle.std.proofs.Common.{[], ◌++◌, ◌+◌, ◌-◌, ◌^◌, ◌∷◌, ◌≡◌, ◌≤◌, arith, Bool, false, List, min, None, Option, refl}
use Rattle.std.proofs.Common.{Some, subst, sym, true, ℕ, ⊎_elim}
use Rattle.std.proofs.Math.Nat.{eq-or-lt_of_le, le_trans}
use Rattle.std.specs.Prelude.{MatchBool}
use Rattle.rbc_node.specs.Node.{IsFrameOf}
use Rattle.rbc_node.specs.Receipts.{ShareValue}
use Rattle.rbc_spec.specs.Frame.{Frame}
use Rattle.serve_workers.specs.Carried.{AreKept, Delivers, IsKept, IsPut, PutsInOrder, TakesTurn, TakesTurns}
use Rattle.serve_workers.specs.declared.order.InOrder.{InOrder}

-- the second notes know each frame that the first knew
abbrev pub Keeps : (ℕ → Option Frame) → (ℕ → Option Frame) → Type 0
Keeps old new = (n : ℕ) (f : Frame) → old n ≡ Some f → new n ≡ Some f

-- ## Sent frames

pub puts-keeps : (old new : ℕ → Option Frame) (c to count : ℕ) → PutsInOrder old c to count → Keeps old new
    → PutsInOrder new c to count
puts-keeps old new c to count before keeps =
    record { each = λ n least most. let it = before.each n least most in (it.0, keeps n it.0 it.1, it.2) }

-- one more frame is put, under the next number
pub puts-one : (old new : ℕ → Option Frame) (c to count number : ℕ) (f : Frame) → number ≡ count + 1
    → PutsInOrder old c to count → Keeps old new
    → new number ≡ Some f → IsFrameOf c to number (Some f) → PutsInOrder new c to number
puts-one old new c to count number f next before keeps known sent = record {
  each = λ n least most. ⊎_elim
      (λ last. subst (IsPut new c to) (sym last) (f, known, sent))
      (λ below. let it = before.each n least (omega (arith, below, next)) in (it.0, keeps n it.0 it.1, it.2))
      (eq-or-lt_of_le most);
}

-- the same frames, with notes that know more and a journal that keeps more
pub kept-keeps : (awaits : ℕ → ℕ) (old new : ℕ → Option Frame) (count kept more : ℕ) → AreKept awaits old count kept
    → Keeps old new → kept ≤ more → AreKept awaits new count more
kept-keeps awaits old new count kept more before keeps grows = record {
  each = λ n least most. let it = before.each n least most in (it.0, keeps n it.0 it.1, le_trans it.2 grows);
}

-- one more frame, which waits for no event that the journal lacks
pub kept-one : (awaits : ℕ → ℕ) (old new : ℕ → Option Frame) (count number kept more : ℕ) (f : Frame)
    → number ≡ count + 1 → AreKept awaits old count kept → Keeps old new → kept ≤ more → new number ≡ Some f
    → awaits f.stamp ≤ more → AreKept awaits new number more
kept-one awaits old new count number kept more f next before keeps grows known event = record {
  each = λ n least most. ⊎_elim
      (λ last. subst (IsKept awaits new more) (sym last) (f, known, event))
      (λ below. let it = before.each n least (omega (arith, below, next)) in
      (it.0, keeps n it.0 it.1, le_trans it.2 grows))
      (eq-or-lt_of_le most);
}

-- ## Received frames

module _ {N : Type 0} (asks : N → ℕ) (follows : N → Bool → ℕ → Type 0) (c from : ℕ) where
  -- a turn under notes that know more
  pub turn-keeps : (old new : ℕ → Option Frame) (o p : N) (s t : ShareValue) (came : Option Bool) → Keeps old new
      → TakesTurn asks follows old c from o p s t came → TakesTurn asks follows new c from o p s t came
  turn-keeps old new o p s t (Some true) keeps (f, outcome, known, commits, goes) =
      (f, outcome, keeps (asks o) f known, commits, goes)
  turn-keeps old new o p s t (Some false) keeps h = h
  turn-keeps old new o p s t None keeps h = h

  -- a further turn, after which the notes know more
  pub turns-one : (old new : ℕ → Option Frame) (o p q : N) (r s t : ShareValue) (turns : List (Option Bool))
      (came : Option Bool) → Keeps old new
      → TakesTurns asks follows old c from o p r s turns → TakesTurn asks follows new c from p q s t came
      → TakesTurns asks follows new c from o q r t (turns ++ came ∷ [])
  turns-one old new o p q r s t [] came keeps (same, stays) turn = (
    q,
    t,
    subst (λ (v : ShareValue). TakesTurn asks follows new c from o q v t came) stays
        (subst (λ (n : N). TakesTurn asks follows new c from n q s t came) same turn),
    (refl, refl),
  )
  turns-one old new o p q r s t (first ∷ turns) came keeps (n, mid, one, rest) turn =
      (n, mid, turn-keeps old new o n r mid first keeps one, turns-one old new n p q mid s t turns came keeps rest turn)

-- ## Turns that ask for the numbers in their order

-- the number that the order asks for, and the next number
abbrev asks : InOrder → ℕ
asks o = o.number

abbrev follows : InOrder → Bool → ℕ → Type 0
follows o is_committed n = MatchBool is_committed (n ≡ min (o.number + 1) (2 ^ 32 - 1)) (n ≡ o.number)

module _ (known : ℕ → Option Frame) (c from : ℕ) where
  -- nothing was committed in a turn
  quiet : (o q : InOrder) (old mid new : ShareValue) → mid ≡ old → q.number ≡ o.number
      → (frames : List Frame) × Delivers known c from q.number mid new frames
      → (frames : List Frame) × Delivers known c from o.number old new frames
  quiet o q old mid new stays same rest = (
    rest.0,
    subst (λ (n : ℕ). Delivers known c from n old new rest.0) same
        (subst (λ (s : ShareValue). Delivers known c from q.number s new rest.0) stays rest.1),
  )

  pub delivers : (o p : InOrder) (old new : ShareValue) (turns : List (Option Bool))
      → TakesTurns asks follows known c from o p old new turns
      → (frames : List Frame) × Delivers known c from o.number old new frames
  delivers o p old new [] (same, stays) = ([], stays)
  delivers o p old new (Some true ∷ turns) (q, mid, (f, outcome, knows, commits, goes), rest) =
      let after = delivers q p mid new turns rest in (
        f ∷ after.0,
        (
          mid,
          outcome,
          knows,
          commits,
          subst (λ (n : ℕ). Delivers known c from n mid new after.0) goes after.1,
        ),
      )
  delivers o p old new (Some false ∷ turns) (q, mid, (stays, goes), rest) =
      quiet o q old mid new stays goes (delivers q p mid new turns rest)
  delivers o p old new (None ∷ turns) (q, mid, (stays, goes), rest) =
      quiet o q old mid new stays goes (delivers q p mid new turns rest)
