-- Each step keeps the rule of the queue: the frames found among known ones, and the frames that notes know.
use Rattle.std.proofs.Common.{[], if◌then◌else◌, ◌++◌, ◌-◌, ◌<◌, ◌==◌, ◌∙◌, ◌∷◌, ◌≡◌, ◌≢◌, ◌≤◌, ◌⊎◌, ap, arith, Bool}
use Rattle.std.proofs.Common.{false, IfSome, inl, inr, length, List, None, Option, refl, set, slice_get, Some, subst}
use Rattle.std.proofs.Common.{suc, sym, true, true≢false, zero, ℕ, ⊎_elim}
use Rattle.std.proofs.lemmas.Bool.Decides.{eqb_tells}
use Rattle.std.proofs.lemmas.Option.{slice_get-get_or, slice_get_within}
use Rattle.std.proofs.Math.ListN.{get_or}
use Rattle.std.specs.Option.{option_and_then}
use lib.ListN.{get_elem?}
use mathlib.Core.Option.{some, some-ne-none}
use Rattle.crossbeam_queue.proofs.Lists.{at_set, at_snoc}
use Rattle.crossbeam_queue.specs.Fifo.{Forks, Learns, Merges, Pops, Pushes}
use Rattle.once_cell.specs.declared.race.note.Note.{Note}
use Rattle.once_cell.specs.declared.race.once_box.OnceBox.{OnceBox}
use Rattle.once_cell.specs.Once.{Agrees}
use Rattle.rbc_board.specs.declared.view.View.{View}
use Rattle.rbc_board.specs.InStep.{AreInOrder, Fits, found, InStep, IsUnique, Mem, viewed}
use Rattle.rbc_board.specs.Known.{AreNotesOf, known_at}
use Rattle.rbc_linkmsg.specs.declared.frame.Frame.{Frame}

-- # Each step keeps the rule of the queue, and the frames found among known ones.

mem-append : (f : Frame) (xs ys : List Frame) → Mem f (xs ++ ys) → Mem f xs ⊎ Mem f ys
mem-append f [] ys m = inr m
mem-append f (x ∷ xs) ys (inl e) = inl (inl e)
mem-append f (x ∷ xs) ys (inr m) = ⊎_elim (λ a. inl (inr a)) (λ b. inr b) (mem-append f xs ys m)

pub mem-left : (f : Frame) (xs ys : List Frame) → Mem f xs → Mem f (xs ++ ys)
mem-left f [] ys m = absurd m
mem-left f (x ∷ xs) ys (inl e) = inl e
mem-left f (x ∷ xs) ys (inr m) = inr (mem-left f xs ys m)

pub mem-right : (f : Frame) (xs ys : List Frame) → Mem f ys → Mem f (xs ++ ys)
mem-right f [] ys m = m
mem-right f (x ∷ xs) ys m = inr (mem-right f xs ys m)

pub mem-push : (f y : Frame) (xs : List Frame) → Mem f (xs ++ y ∷ []) → Mem f xs ⊎ (f ≡ y)
mem-push f y xs m =
    ⊎_elim (λ a. inl a) (λ b. ⊎_elim (λ (e : f ≡ y). inr e) (λ (c : ⊥). absurd c) b) (mem-append f xs (y ∷ []) m)

-- a frame whose number is above all others follows in their order
in_order_push : (x : Frame) (xs : List Frame) → AreInOrder xs → ((f : Frame) → Mem f xs → f.number < x.number)
    → AreInOrder (xs ++ x ∷ [])
in_order_push x [] order low = ((λ g m. absurd m), tt)
in_order_push x (f ∷ fs) order low = (
  (λ g m. ⊎_elim
      (λ (a : Mem g fs). order.0 g a)
      (λ (e : g ≡ x). subst (λ (y : Frame). f.number < y.number) (sym e) (low f (inl refl)))
      (mem-push g x fs m)),
  in_order_push x fs order.1 (λ g m. low g (inr m)),
)

abbrev All : (ℕ → View → Type 0) → List View → Type 0
All F views = (port : ℕ) (v : View) → get_elem? views port ≡ some v → F port v

all_set : (F : ℕ → View → Type 0) (views : List View) (port : ℕ) (w : View) → F port w
    → ((j : ℕ) (u : View) → j ≢ port → get_elem? views j ≡ some u → F j u) → All F (set views port w)
all_set F views port w mine others j u e =
    ⊎_elim (λ (x : (j ≡ port) × (w ≡ u)). subst (λ (y : ℕ × View). F y.0 y.1) (λ i. (sym x.0 i, x.1 i)) mine)
    (λ (x : (j ≢ port) × (get_elem? views j ≡ some u)). others j u x.0 x.1) (at_set views port j w u e)

alone : (j : ℕ) (u : View) → j ≢ 0 → ¬ (get_elem? (viewed true 0 [] ∷ []) j ≡ some u)
alone zero u other e = other refl
alone (suc j) u other e = some-ne-none u (sym e)

pub begins : InStep [] (viewed true 0 [] ∷ [])
begins = (
  0,
  [],
  λ f g m. absurd m,
  λ f m. m,
  tt,
  all_set (Fits 0 []) (viewed true 0 [] ∷ []) 0 (viewed true 0 []) ((λ f m. m), λ _. (refl, λ f m. absurd m))
      (λ j u other e. absurd (alone j u other e)),
)

pub puts : (n port : ℕ) (v : View) (x : Frame) → v.puts ≡ true → v.last < x.number
    → Pushes InStep n port v x (λ w. w ≡ viewed v.puts x.number (x ∷ v.known))
puts n port v x may above items views room h at =
    let seat = h.0 in
    let put = h.1 in
    let unique = h.2 in
    let queued = h.3 in
    let fits = h.5 in
    let w : View = viewed v.puts x.number (x ∷ v.known) in
    let mine = fits port v at in
    let here = mine.1 may in
    let unlike : (f : Frame) → Mem f put → ¬ (f.number ≡ x.number) = λ f m e. let low = (here.1 f m).1 in
    absurd (omega arith) in (
      w,
      (
        seat,
        x ∷ put,
        (λ f g m k e. ⊎_elim
            (λ (a : f ≡ x). ⊎_elim (λ (b : g ≡ x). a ∙ sym b)
            (λ (b : Mem g put). absurd (unlike g b (sym e ∙ ap (λ (y : Frame). y.number) a))) k)
            (λ (a : Mem f put). ⊎_elim (λ (b : g ≡ x). absurd (unlike f a (e ∙ ap (λ (y : Frame). y.number) b)))
            (λ (b : Mem g put). unique f g a b e) k) m),
        (λ f m. ⊎_elim (λ (a : Mem f items). inr (queued f a))
            (λ (b : Mem f (x ∷ [])). ⊎_elim (λ (e : f ≡ x). inl e) (λ (c : ⊥). absurd c) b)
            (mem-append f items (x ∷ []) m)),
        in_order_push x items h.4 (λ f m. let low = (here.1 f (queued f m)).1 in omega arith),
        all_set (Fits seat (x ∷ put)) views port w (
          (λ f m. ⊎_elim (λ (a : f ≡ x). inl a) (λ (b : Mem f v.known). inr (mine.0 f b)) m),
          λ _. (
            here.0,
            λ f m. ⊎_elim
                (λ (a : f ≡ x). (inl a, let e = ap (λ (y : Frame). y.number) a in omega arith))
                (λ (b : Mem f put). (inr (here.1 f b).0, let low = (here.1 f b).1 in omega arith)) m,
          ),
        )
            (λ j u other e. (
              (λ f m. inr ((fits j u e).0 f m)),
              λ p. absurd (other (((fits j u e).1 p).0 ∙ sym here.0)),
            )),
      ),
      refl,
    )

pub takes : (port : ℕ) (v : View) → Pops InStep port v (λ x w. w ≡ viewed v.puts v.last (x ∷ v.known))
takes port v x items views h at =
    let w : View = viewed v.puts v.last (x ∷ v.known) in
    let mine = h.5 port v at in (
      w,
      (
        h.0,
        h.1,
        h.2,
        (λ f m. h.3 f (inr m)),
        h.4.1,
        all_set (Fits h.0 h.1) views port w (
          (λ f m. ⊎_elim (λ (a : f ≡ x). subst (λ y. Mem y h.1) (sym a) (h.3 x (inl refl)))
              (λ (b : Mem f v.known). mine.0 f b) m),
          λ p. ((mine.1 p).0, λ f m. (inr ((mine.1 p).1 f m).0, ((mine.1 p).1 f m).1)),
        )
            (λ j u other e. h.5 j u e),
      ),
      refl,
    )

pub forks : (port : ℕ) (v : View) → Forks InStep port v v (viewed false 0 [])
forks port v items views h at =
    let r : View = viewed false 0 [] in
    let vs : List View = set views port v in
    let old : All (Fits h.0 h.1) vs =
    all_set (Fits h.0 h.1) views port v (h.5 port v at) (λ j u other e. h.5 j u e) in (
      h.0,
      h.1,
      h.2,
      h.3,
      h.4,
      λ j u e. ⊎_elim (λ x. old j u x)
          (λ (is : r ≡ u). (
            (λ f m. absurd (subst (λ (y : View). Mem f y.known) (sym is) m)),
            λ p. absurd (true≢false (sym (ap (λ (y : View). y.puts) is ∙ p))),
          )) (at_snoc vs r u j e),
    )

pub learns : (port : ℕ) (v : View) → Learns InStep port v (λ items. IsUnique v.known)
learns port v items views h at f g m k e = h.2 f g ((h.5 port v at).0 f m) ((h.5 port v at).0 g k) e

pub merges : (port : ℕ) (v : View) (other : ℕ) (u : View)
    → Merges InStep port v other u (viewed v.puts v.last (v.known ++ u.known)) (viewed false 0 [])
merges port v other u items views h at two at' =
    let both : View = viewed v.puts v.last (v.known ++ u.known) in
    let mine = h.5 port v at in
    let vs : List View = set views port both in
    let was : get_elem? views other ≡ some u =
    ⊎_elim (λ x. absurd (two x.0)) (λ x. x.1) (at_set views port other both u at') in
    let theirs = h.5 other u was in
    let now : All (Fits h.0 h.1) vs = all_set (Fits h.0 h.1) views port both (
      (λ f m. ⊎_elim (λ a. mine.0 f a) (λ b. theirs.0 f b) (mem-append f v.known u.known m)),
      λ p. ((mine.1 p).0, λ f m. (mem-left f v.known u.known ((mine.1 p).1 f m).0, ((mine.1 p).1 f m).1)),
    )
    (λ j y _ e. h.5 j y e) in (
      h.0,
      h.1,
      h.2,
      h.3,
      h.4,
      all_set (Fits h.0 h.1) vs other (viewed false 0 []) ((λ f m. absurd m), λ p. absurd (true≢false (sym p)))
          (λ j y apart e. now j y e),
    )

pub found-keeps : (n : ℕ) (f y : Frame) (xs : List Frame) → found n xs ≡ Some f → found n (xs ++ y ∷ []) ≡ Some f
found-keeps n f y [] e = absurd cc
found-keeps n f y (x ∷ xs) e =
    elim (x.number == n) as (λ b. (if b then Some x else found n xs) ≡ Some f
    → (if b then Some x else found n (xs ++ y ∷ [])) ≡ Some f) [ true ↦ λ h. h | false ↦ λ h. found-keeps n f y xs h ] e

pub found-none : (n : ℕ) (y : Frame) (xs : List Frame) → found n xs ≡ None → y.number ≡ n
    → found n (xs ++ y ∷ []) ≡ Some y
found-none n y [] e is =
    elim (eqb_tells y.number n) [ inl h ↦ ap (λ b. if b then Some y else None) h.0 | inr h ↦ absurd (h.1 is) ]
found-none n y (x ∷ xs) e is =
    elim (x.number == n) as (λ b. (if b then Some x else found n xs) ≡ None
    → (if b then Some x else found n (xs ++ y ∷ [])) ≡ Some y) [
      | true ↦ λ h. absurd cc
      | false ↦ λ h. found-none n y xs h is
    ] e

pub found-other : (n : ℕ) (y : Frame) (xs : List Frame) → found n xs ≡ None → ¬ (y.number ≡ n)
    → found n (xs ++ y ∷ []) ≡ None
found-other n y [] e unlike =
    elim (eqb_tells y.number n) [ inl h ↦ absurd (unlike h.1) | inr h ↦ ap (λ b. if b then Some y else None) h.0 ]
found-other n y (x ∷ xs) e unlike =
    elim (x.number == n) as (λ b. (if b then Some x else found n xs) ≡ None
    → (if b then Some x else found n (xs ++ y ∷ [])) ≡ None) [
      | true ↦ λ h. h
      | false ↦ λ h. found-other n y xs h unlike
    ] e

-- no frame is known above all that are known
pub found-above : (n last : ℕ) (xs : List Frame) → ((f : Frame) → Mem f xs → f.number ≤ last) → last < n
    → found n xs ≡ None
found-above n last [] low h = refl
found-above n last (x ∷ xs) low h = elim (eqb_tells x.number n) [
  | inl k ↦ let a = low x (inl refl) in let b = k.1 in absurd (omega arith)
  | inr k ↦ ap (λ b. if b then Some x else found n xs) k.0 ∙ found-above n last xs (λ f m. low f (inr m)) h
]

pub found-mem : (n : ℕ) (f : Frame) (xs : List Frame) → found n xs ≡ Some f → Mem f xs × (f.number ≡ n)
found-mem n f [] e = absurd cc
found-mem n f (x ∷ xs) e = elim (eqb_tells x.number n) [
  | inl k ↦ let same : Some x ≡ Some f = sym (ap (λ b. if b then Some x else found n xs) k.0) ∙ e in
      let is : x ≡ f = cc in (inl (sym is), sym (ap (λ (y : Frame). y.number) is) ∙ k.1)
  | inr k ↦
      let rest = found-mem n f xs (sym (ap (λ b. if b then Some x else found n xs) k.0) ∙ e) in (inr rest.0, rest.1)
]

-- a frame that both know is one frame
pub found-same : (n : ℕ) (f g : Frame) (xs ys ks ls : List Frame) → IsUnique (ks ++ ls)
    → ((h : Frame) → Mem h xs → Mem h ks) → ((h : Frame) → Mem h ys → Mem h ls) → found n xs ≡ Some f
    → found n ys ≡ Some g → f ≡ g
found-same n f g xs ys ks ls unique a b e e' =
    let one = found-mem n f xs e in
    let two = found-mem n g ys e' in
    unique f g (mem-left f ks ls (a f one.0)) (mem-right g ks ls (b g two.0)) (one.1 ∙ sym two.1)

-- # The frames that notes know, by position.

slice_get-exists : {X : Type 0} (xs : List X) (k : ℕ) → k < length xs → (x : X) × (slice_get xs k ≡ Some x)
slice_get-exists [] k h = absurd (omega arith)
slice_get-exists (x ∷ xs) zero h = (x, refl)
slice_get-exists (x ∷ xs) (suc k) h = slice_get-exists xs k (omega arith)

pub same_cell : (cells : List (OnceBox Frame)) (ns ms : List (Note Frame)) (k : ℕ) (n m : Note Frame)
    → AreNotesOf cells ns → AreNotesOf cells ms → slice_get ns k ≡ Some n → slice_get ms k ≡ Some m → n.cell ≡ m.cell
same_cell cells ns ms k n m a b at at' =
    let inside = slice_get_within ns k n at in
    let long = a.long in
    let c = slice_get-exists cells k (omega arith) in a.each k c.0 n c.1 at ∙ sym (b.each k c.0 m c.1 at')

pub known_note : (ns : List (Note Frame)) (number : ℕ) (n : Note Frame) (f : Frame) → known_at ns number ≡ Some f
    → slice_get ns (number - 1) ≡ Some n → n.known ≡ Some f
known_note ns number n f known at =
    elim (eqb_tells number 0) [
      | inl h ↦
          let none : None ≡ Some f =
          sym (ap (λ b. if b then None else option_and_then (λ (n : Note Frame). n.known) (slice_get ns (number - 1)))
          h.0) ∙ known in absurd cc
      | inr h ↦
          sym (ap (λ b. if b then None else option_and_then (λ (n : Note Frame). n.known) (slice_get ns (number - 1)))
          h.0 ∙ ap (option_and_then (λ (n : Note Frame). n.known)) at) ∙ known
    ]

pub slice_get_read : {X : Type 0} (xs : List X) (k : ℕ) (x : X) → k < length xs → x ≡ get_or xs k x
    → slice_get xs k ≡ Some x
slice_get_read xs k x within read = slice_get-get_or xs k x within ∙ ap Some (sym read)

-- if two notes that were compared agree, so do the lists
pub rows_agree : (ns ms : List (Note Frame)) (number : ℕ) (n m : Note Frame) → slice_get ns (number - 1) ≡ Some n
    → slice_get ms (number - 1) ≡ Some m → IfSome m.known (Agrees n.known)
    → (f g : Frame) → known_at ns number ≡ Some f → known_at ms number ≡ Some g → f ≡ g
rows_agree ns ms number n m at at' agree f g known known' =
    let one : n.known ≡ Some f = known_note ns number n f known at in
    let two : m.known ≡ Some g = known_note ms number m g known' at' in
    let same : f ≡ g =
    subst (λ (p : Option Frame × Option Frame). IfSome p.1 (Agrees p.0)) (λ i. (one i, two i)) agree in same

-- ## Notes that know nothing

abbrev pub KnowNothing : List (Note Frame) → Type 0
KnowNothing ns = (k : ℕ) → option_and_then (λ (n : Note Frame). n.known) (slice_get ns k) ≡ None

pub nothing_known : (ns : List (Note Frame)) → KnowNothing ns → (number : ℕ) → known_at ns number ≡ None
nothing_known ns nothing number =
    let read =
    λ (b : Bool). if b then None else option_and_then (λ (n : Note Frame). n.known) (slice_get ns (number - 1)) in
    elim (eqb_tells number 0) [
      | inl h ↦ ap read h.0
      | inr h ↦ ap read h.0 ∙ nothing (number - 1)
    ]
