-- The mission of a train, at a centre of the line or in a Yield on the way between two centres.
use Rattle.std.proofs.Common.{[], if◌then◌else◌, ◌++◌, ◌+◌, ◌<◌, ◌==◌, ◌∙◌, ◌∷◌, ◌≡◌, ◌≢◌, ◌≤◌, ◌⊎◌, ap, arith, Bool}
use Rattle.std.proofs.Common.{eqb-true, false, inl, inr, length, List, ltb-true, None, Option, option_map, refl}
use Rattle.std.proofs.Common.{slice_get, Some, subst, suc, sym, true, zero, ℕ, ⊎_elim}
use Rattle.std.proofs.lemmas.Bool.{cases_eq}
use Rattle.std.proofs.lemmas.List.Elements.{Contains-append_left, Contains-append_right}
use Rattle.std.proofs.lemmas.Option.{same_Some}
use Rattle.std.specs.List.{cons_option, filter_map, find, range_with_len}
use Rattle.std.specs.Prelude.{Contains}
use Rattle.rbc_spec.specs.Centre as centre
use Rattle.rbc_spec.specs.Frame.{Body, carried_place, Frame, Yield}
use Rattle.rbc_spec.specs.Line.{is_centre, Line}
use Rattle.rbc_spec.specs.LineCentre as line_centre
use Rattle.rbc_spec.specs.LineCentre.{is_at, LineMission, LineState}
use Rattle.rbc_spec.specs.Maps.{has}
use Rattle.rbc_spec.specs.Place.{Place}
use Rattle.rbc_spec.specs.ReadOff.{all_held, centres_of, frames_on_way, handed_over, Held, held, held_at, seen}
use Rattle.rbc_spec.specs.ReadOff.{StandsFor}
use Rattle.rbc_spec.specs.SectionRuns.{SectionRun}
use Rattle.rbc_spec.specs.World.{World}

-- ## Lists

pub contains_head : {X : Type 0} (x : X) (xs : List X) → Contains (x ∷ xs) x
contains_head x xs = (zero, omega arith, refl)

-- an element of the tail of a list is an element of the list
pub contains_more : {X : Type 0} (y x : X) (xs : List X) → Contains xs x → Contains (y ∷ xs) x
contains_more y x xs is = (suc is.0, omega (arith, is.1), is.2)

pub contains_range : (a n i : ℕ) → a ≤ i → i < a + n → Contains (range_with_len a n) i
contains_range a zero i low high = absurd (let no : ⊥ = omega (arith, low, high) in no)
contains_range a (suc n) i low high = ⊎_elim
    (λ (same : a ≡ i). subst (Contains (range_with_len a (suc n))) same (contains_head a (range_with_len (a + 1) n)))
    (λ (other : a ≢ i). contains_more a i (range_with_len (a + 1) n)
    (contains_range (a + 1) n i (omega (arith, low, other)) (omega (arith, high))))
    (cases_eq a i)

pub contains_filter_map : {X Y : Type 0} (f : X → Option Y) (xs : List X) (x : X) (y : Y) → Contains xs x → f x ≡ Some y
    → Contains (filter_map f xs) y
contains_filter_map f [] x y is gives = absurd (let no : ⊥ = omega (arith, is.1) in no)
contains_filter_map f (z ∷ zs) x y (zero, low, is) gives =
    rw (ap f is ∙ gives) (contains_head y (filter_map f zs))
contains_filter_map f (z ∷ zs) x y (suc k, low, is) gives =
    by_head (f z) refl (contains_filter_map f zs x y (k, omega (arith, low), is) gives)
  where
    by_head : (o : Option _) → f z ≡ o → Contains (filter_map f zs) y → Contains (filter_map f (z ∷ zs)) y
    by_head None e more = rw e more
    by_head (Some v) e more = rw e (contains_more v y (filter_map f zs) more)

-- two elements of a list of at most one element are equal
pub only_one : {X : Type 0} (xs : List X) (x y : X) → length xs ≤ 1 → Contains xs x → Contains xs y → x ≡ y
only_one [] x y few one two = absurd (let no : ⊥ = omega (arith, one.1) in no)
only_one (z ∷ []) x y few (zero, low, is) (zero, less, also) = sym is ∙ also
only_one (z ∷ []) x y few (suc k, low, is) two = absurd (let no : ⊥ = omega (arith, low) in no)
only_one (z ∷ []) x y few one (suc k, low, is) = absurd (let no : ⊥ = omega (arith, low) in no)
only_one (z ∷ v ∷ vs) x y few one two = absurd (let no : ⊥ = omega (arith, few) in no)

-- an element of a list of at most one element is the first
pub first_is : {X : Type 0} (xs : List X) (x : X) → length xs ≤ 1 → Contains xs x → slice_get xs 0 ≡ Some x
first_is [] x few is = absurd (let no : ⊥ = omega (arith, is.1) in no)
first_is (z ∷ zs) x few (zero, low, is) = ap (λ y. Some y) is
first_is (z ∷ zs) x few (suc k, low, is) = absurd (let no : ⊥ = omega (arith, few, low) in no)

pub none_first : {X : Type 0} (xs : List X) → length xs ≤ 0 → slice_get xs 0 ≡ None
none_first [] few = refl
none_first (x ∷ xs) few = absurd (let no : ⊥ = omega (arith, few) in no)

-- the first value that two functions give for two lists is given by one of them
first_from : {X Y Z : Type 0} (f : X → Option Z) (xs : List X) (g : Y → Option Z) (ys : List Y) (z : Z)
    → slice_get (filter_map f xs ++ filter_map g ys) 0 ≡ Some z
    → ((x : X) × (f x ≡ Some z)) ⊎ ((y : Y) × (g y ≡ Some z))
first_from f [] g [] z is = cc
first_from f [] g (y ∷ ys) z is = by_value (g y) refl is (first_from f [] g ys z)
  where
    by_value : (o : Option _) → g y ≡ o → slice_get (cons_option o (filter_map g ys)) 0 ≡ Some z
        → (slice_get (filter_map g ys) 0 ≡ Some z → ((x : _) × (f x ≡ Some z)) ⊎ ((v : _) × (g v ≡ Some z)))
        → ((x : _) × (f x ≡ Some z)) ⊎ ((v : _) × (g v ≡ Some z))
    by_value None gives first later = later first
    by_value (Some v) gives first later = inr (y, gives ∙ first)
first_from f (x ∷ xs) g ys z is = by_value (f x) refl is (first_from f xs g ys z)
  where
    by_value : (o : Option _) → f x ≡ o → slice_get (cons_option o (filter_map f xs) ++ filter_map g ys) 0 ≡ Some z
        → (slice_get (filter_map f xs ++ filter_map g ys) 0 ≡ Some z
        → ((u : _) × (f u ≡ Some z)) ⊎ ((y : _) × (g y ≡ Some z)))
        → ((u : _) × (f u ≡ Some z)) ⊎ ((y : _) × (g y ≡ Some z))
    by_value None gives first later = later first
    by_value (Some v) gives first later = inl (x, gives ∙ first)

pub found_passes : (test : ℕ → Bool) (ts : List ℕ) (t : ℕ) → find test ts ≡ Some t → test t ≡ true
found_passes test [] t is = cc
found_passes test (u ∷ us) t is = by_test (test u) refl is (found_passes test us t)
  where
    by_test : (b : Bool) → test u ≡ b → (if b then Some u else find test us) ≡ Some t
        → (find test us ≡ Some t → test t ≡ true) → test t ≡ true
    by_test true passes e later = ap test (sym (same_Some u t e)) ∙ passes
    by_test false fails e later = later e

-- ## Centres, and frames

-- a mission that a frame hands over is at no centre
pub away_if_handed : (t c : ℕ) (body : Body) (h : Held) → handed_over t body ≡ Some h
    → is_at c h.mission.supervisor ≡ false
away_if_handed t c (Yield number u heard has_data is_ended place hand) h is = by_train (u == t) (carried_place place) is
  where
    by_train : (b : Bool) (o : Option Place)
        → (if b
        then option_map (λ at. record {
          mission =
              record {
                place = at;
                has_data = has_data;
                is_ended = is_ended;
                proposal = None;
                supervisor = line_centre.Parted heard;
              };
          hand = hand;
        }) o else None) ≡ Some h
        → is_at c h.mission.supervisor ≡ false
    by_train true (Some place) is = ap (λ (x : Held). is_at c x.mission.supervisor) (sym (same_Some _ h is))
    by_train true None is = cc
    by_train false o is = cc
away_if_handed t c body h is = cc

pub among : (line : Line) (c : ℕ) → is_centre line c ≡ true → Contains (centres_of line) c
among line c at =
    contains_range 0 (length line.centres) c (omega arith) (omega (arith, ltb-true c (length line.centres) at))

-- the mission and the hand together
abbrev pub held_as : LineMission → SectionRun → Held
held_as m hand = record { mission = m; hand = hand }

module _ (line : Line) (w : World) where
  -- the mission of a centre of the line is one of the train's missions
  pub held_there : (t c : ℕ) (m : centre.Mission) → is_centre line c ≡ true → (w.at c).mission t ≡ Some m
      → Contains (all_held line w t) (held_as (seen c m) m.hand)
  held_there t c m at has =
      Contains-append_left (filter_map (held_at w t) (centres_of line))
      (filter_map (λ (f : Frame). handed_over t f.body) (frames_on_way line w)) (held_as (seen c m) m.hand)
      (contains_filter_map (held_at w t) (centres_of line) c (held_as (seen c m) m.hand) (among line c at)
      (ap (option_map (λ (x : centre.Mission). held_as (seen c x) x.hand)) has))

  -- the mission that a frame on the way carries is one of the train's missions
  pub held_on_way : (t : ℕ) (f : Frame) (h : Held) → Contains (frames_on_way line w) f → handed_over t f.body ≡ Some h
      → Contains (all_held line w t) h
  held_on_way t f h on is =
      Contains-append_right (filter_map (held_at w t) (centres_of line))
      (filter_map (λ (g : Frame). handed_over t g.body) (frames_on_way line w)) h
      (contains_filter_map (λ (g : Frame). handed_over t g.body) (frames_on_way line w) f h on is)

module _ (line : Line) (w : World) (v : LineState) (stands : StandsFor line w v) where
  -- the mission of a centre is the train's mission
  pub is_there : (t c : ℕ) (m : centre.Mission) → (w.at c).mission t ≡ Some m
      → Contains (all_held line w t) (held_as (seen c m) m.hand)
  is_there t c m has = by_centre (is_centre line c) refl
    where
      by_centre : (b : Bool) → is_centre line c ≡ b → Contains (all_held line w t) (held_as (seen c m) m.hand)
      by_centre true at = held_there line w t c m at has
      by_centre false at =
          absurd (let wrong : ◌≡◌ {A = Option centre.Mission} None (Some m) = sym (stands.none_else t c at) ∙ has in cc)

  pub held_first : (t : ℕ) (h : Held) → Contains (all_held line w t) h → held line w t ≡ Some h
  held_first t h is = first_is (all_held line w t) h (stands.one_seat t) is

  -- the mission of a centre is that of the line's state
  pub is_seen : (t c : ℕ) (m : centre.Mission) → (w.at c).mission t ≡ Some m → v.mission t ≡ Some (seen c m)
  is_seen t c m has = stands.mission t
      ∙ ap (option_map (λ (h : Held). h.mission)) (held_first t (held_as (seen c m) m.hand) (is_there t c m has))

  -- a mission of the line's state that a centre supervises is that centre's
  pub is_the_centres : (t c : ℕ) (m : LineMission) → v.mission t ≡ Some m → is_at c m.supervisor ≡ true
      → (n : centre.Mission) × ((w.at c).mission t ≡ Some n) × (m ≡ seen c n)
  is_the_centres t c m is at = by_held (held line w t) refl
    where
      at_centre : (h : Held) → m ≡ h.mission → (d : ℕ) (o : Option centre.Mission) → (w.at d).mission t ≡ o
          → option_map (λ (x : centre.Mission). held_as (seen d x) x.hand) o ≡ Some h
          → (n : centre.Mission) × ((w.at c).mission t ≡ Some n) × (m ≡ seen c n)
      at_centre h same d None has gives = cc
      at_centre h same d (Some n) has gives =
          let as_held : m ≡ seen d n =
          same ∙ ap (λ (x : Held). x.mission) (sym (same_Some (held_as (seen d n) n.hand) h gives)) in
          let here : d ≡ c = eqb-true d c (sym (ap (λ (x : LineMission). is_at c x.supervisor) as_held) ∙ at) in
          (n, subst (λ (x : ℕ). (w.at x).mission t ≡ Some n) here has, subst (λ (x : ℕ). m ≡ seen x n) here as_held)

      by_held : (o : Option Held) → held line w t ≡ o
          → (n : centre.Mission) × ((w.at c).mission t ≡ Some n) × (m ≡ seen c n)
      by_held None none =
          absurd (let wrong : ◌≡◌ {A = Option LineMission} None (Some m) =
          sym (stands.mission t ∙ ap (option_map (λ (h : Held). h.mission)) none) ∙ is in cc)
      by_held (Some h) some =
          let same : m ≡ h.mission =
          same_Some m h.mission (sym is ∙ stands.mission t ∙ ap (option_map (λ (x : Held). x.mission)) some) in
          elim (first_from (held_at w t) (centres_of line) (λ (f : Frame). handed_over t f.body)
          (frames_on_way line w) h some) [
            | inl from ↦ at_centre h same from.0 ((w.at from.0).mission t) refl from.1
            | inr from ↦
                absurd (let wrong : true ≡ false = sym at ∙ ap (λ (x : LineMission). is_at c x.supervisor) same
                ∙ away_if_handed t c from.0.body h from.1 in cc)
          ]
