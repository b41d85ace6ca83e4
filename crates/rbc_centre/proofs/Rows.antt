-- Lists of frames, and those in them to each centre.
use Rattle.std.proofs.Common.{[], ◌++◌, ◌<◌, ◌==◌, ◌∙◌, ◌∷◌, ◌≡◌, ◌≤◌, All, ap, arith, Bool, eq-eqb, false}
use Rattle.std.proofs.Common.{if◌then◌else◌, length, List, map, max, min, nat_cmp, refl, rules, slice_get, Some, suc}
use Rattle.std.proofs.Common.{sym, take, true, zero, ℕ, ⊎_elim}
use Rattle.std.proofs.lemmas.Bool.{cases_lt, eqb-true}
use Rattle.std.proofs.lemmas.List.{map-append}
use Rattle.std.proofs.lemmas.List.Elements.{All-cons, All-head, All-nil, All-tail, filter-append}
use Rattle.std.specs.List.{filter}
use Rattle.std.specs.Ordering.{ord_max, ord_min}
use Rattle.rbc_centre.specs.declared.frames.Frames.{Frames}
use Rattle.rbc_centre.specs.declared.sent_frame.SentFrame.{SentFrame}
use Rattle.rbc_centre.specs.Listed.{frames_in}
use Rattle.rbc_centre.specs.Sent.{frames_to}
use Rattle.rbc_spec.specs.Frame.{Frame}

pub all_first : {X : Type 0} (P : X → Type 0) (xs ys : List X) → All P (xs ++ ys) → All P xs
all_first P [] ys all = All-nil P
all_first P (x ∷ xs) ys all =
    All-cons P x xs (All-head P x (xs ++ ys) all) (all_first P xs ys (All-tail P x (xs ++ ys) all))

pub all_rest : {X : Type 0} (P : X → Type 0) (xs ys : List X) → All P (xs ++ ys) → All P ys
all_rest P [] ys all = all
all_rest P (x ∷ xs) ys all = all_rest P xs ys (All-tail P x (xs ++ ys) all)

-- the later of two numbers, by their order
pub later_of : (a b : ℕ) → ord_max nat_cmp a b ≡ max a b
later_of a b = search rules

pub lesser_of : (a b : ℕ) → ord_min nat_cmp a b ≡ min a b
lesser_of a b = search rules

-- ## One frame more

pub frames_more : (list : List SentFrame) (f : SentFrame) (d : ℕ)
    → frames_in (list ++ f ∷ []) d ≡ frames_in list d ++ (if d == f.to then f.frame ∷ [] else [])
frames_more list f d =
    let is_to : SentFrame → Bool = λ g. d == g.to in
    let frame : SentFrame → Frame = λ g. g.frame in
    ap (map frame) (filter-append is_to list (f ∷ [])) ∙ map-append frame (filter is_to list) (filter is_to (f ∷ []))
    ∙ ap (λ fs. frames_in list d ++ fs) (by (d == f.to))
  where
    by : (b : Bool) → map (λ (g : SentFrame). g.frame) (if b then f ∷ [] else []) ≡ (if b then f.frame ∷ [] else [])
    by true = refl
    by false = refl

-- ## The frames of a step

pub few_to : (f : Frames) (d : ℕ) → length (frames_to f d) ≤ 4
unfolding frames_to
few_to f d = f.few d

-- if no centre is sent a frame, the list is empty
pub none_listed : (list : List SentFrame) → ((d : ℕ) → frames_in list d ≡ []) → list ≡ []
none_listed [] none = refl
none_listed (x ∷ xs) none = absurd (some (x.to == x.to) (eq-eqb x.to x.to refl) (none x.to))
  where
    some : (b : Bool) → b ≡ true
        → map (λ (g : SentFrame). g.frame)
        (if b then x ∷ filter (λ g. x.to == g.to) xs else filter (λ g. x.to == g.to) xs) ≡ [] → ⊥
    some true is e = cc
    some false is e = cc

-- two lists that send the same to each of the first centres, and nothing to others
pub same_all : (f g : Frames) (n : ℕ) → 8 ≤ n → ((d : ℕ) → d < n → frames_to f d ≡ frames_to g d)
    → frames_to f ≡ frames_to g
unfolding frames_to
same_all f g n all same = λ i d. each d i
  where
    each : (d : ℕ) → frames_to f d ≡ frames_to g d
    each d = ⊎_elim
        (λ (low : d < n). same d low)
        (λ (high : n ≤ d). f.near d (omega (arith, all, high)) ∙ sym (g.near d (omega (arith, all, high))))
        (cases_lt d n)

pub none_long : (list : List SentFrame) → (length list == 0) ≡ true → list ≡ []
none_long [] is = refl
none_long (x ∷ xs) is = let none = eqb-true (length (x ∷ xs)) 0 is in absurd (omega (arith, none))

-- a frame to the centre is not among those before it
pub one_more_to : (list : List SentFrame) (i : ℕ) (f : SentFrame) (d : ℕ) → slice_get list i ≡ Some f
    → (d == f.to) ≡ true → length (frames_in (take i list) d) < length (frames_in list d)
one_more_to [] zero f d at is = cc
one_more_to [] (suc i) f d at is = cc
one_more_to (x ∷ xs) zero f d at is =
    some (d == x.to) (let same : x ≡ f = cc in ap (λ (g : SentFrame). d == g.to) same ∙ is)
  where
    some : (b : Bool) → b ≡ true
        → 0 < length (map (λ (g : SentFrame). g.frame)
        (if b then x ∷ filter (λ g. d == g.to) xs else filter (λ g. d == g.to) xs))
    some true is = omega arith
    some false is = cc
one_more_to (x ∷ xs) (suc i) f d at is = by (one_more_to xs i f d at is) (d == x.to)
  where
    by : length (frames_in (take i xs) d) < length (frames_in xs d) → (b : Bool)
        → length (map (λ (g : SentFrame). g.frame)
        (if b then x ∷ filter (λ g. d == g.to) (take i xs) else filter (λ g. d == g.to) (take i xs)))
        < length (map (λ (g : SentFrame). g.frame)
        (if b then x ∷ filter (λ g. d == g.to) xs else filter (λ g. d == g.to) xs))
    by later true = omega (arith, later)
    by later false = later
