-- The frames of acts on a link, and the numbers of their messages and replies, part by part.
use Rattle.std.proofs.Common.{[], ◌++◌, ◌+◌, ◌<◌, ◌∷◌, ◌≡◌, ◌≤◌, ap, arith, Bool, false, if◌then◌else◌, inl, inr}
use Rattle.std.proofs.Common.{length, length-append, List, ltb-true, nat_lt, None, Option, refl, Some, subst, sym, true}
use Rattle.std.proofs.Common.{ℕ}
use Rattle.std.specs.Bool.{⊤}
use Rattle.std.specs.Option.{option_map_or}
use Rattle.law_base.specs.Rules.Sending.{GoesBefore, GoesBeforeAll, GoInOrder, rank}
use Rattle.rbc_spec.specs.Acts.{◌>>◌, Act, Reply}
use Rattle.rbc_spec.specs.Centre.{Centre}
use Rattle.rbc_spec.specs.Frame.{Body, RouteReturn}
use Rattle.rbc_spec.specs.SectionRuns.{next_after, SectionRun}

-- 0 if the test holds, else 1
abbrev pub side : Bool → ℕ
side b = if b then 0 else 1

-- the ranks of frames; a returned run is ranked by whether a section is in advance of it and before the bound
abbrev pub key : ℕ → Body → ℕ
key bound (RouteReturn t r) = side (nat_lt (next_after r) bound)
key bound body = rank body + 1

pub side_below : (b : Bool) → side b < 2
side_below true = omega arith
side_below false = omega arith

lower_side : (a b : Bool) → side a < side b → (a ≡ true) × (b ≡ false)
lower_side true false h = (refl, refl)
lower_side true true h = absurd (omega (arith, h))
lower_side false true h = absurd (omega (arith, h))
lower_side false false h = absurd (omega (arith, h))

-- a returned run that follows others begins at the bound or past it
abbrev pub IsBeyond : ℕ → ℕ → Body → Type 0
IsBeyond bound low (RouteReturn t r) = 0 < low → bound ≤ r.first
IsBeyond bound low body = ⊤

closer : (bound low low' : ℕ) (body : Body) → low' ≤ low → IsBeyond bound low body → IsBeyond bound low' body
closer bound low low' (RouteReturn t r) less far = λ some. far (omega (arith, less, some))
closer bound low low' body less far = tt

lower_return : (bound mid : ℕ) (r q : SectionRun) → side (nat_lt (next_after r) bound) < mid
    → mid ≤ side (nat_lt (next_after q) bound) → (0 < mid → bound ≤ q.first) → next_after r < q.first
lower_return bound mid r q less least far =
    let both = lower_side (nat_lt (next_after r) bound) (nat_lt (next_after q) bound) (omega (arith, less, least)) in
    let low : next_after r < bound = ltb-true (next_after r) bound both.0 in
    let high : bound ≤ q.first = far (omega (arith, less)) in
    omega (arith, low, high)

goes_before : (bound mid : ℕ) (a b : Body) → key bound a < mid → mid ≤ key bound b
    → IsBeyond bound mid b → GoesBefore a b
goes_before bound mid (RouteReturn t r) (RouteReturn u q) less least far =
    inr (lower_return bound mid r q less least far)
goes_before bound mid (RouteReturn t r) b less least far = inl (omega arith)
goes_before bound mid a (RouteReturn u q) less least far = let below = side_below (nat_lt (next_after q) bound) in
    absurd (omega (arith, less, least, below))
goes_before bound mid a b less least far = inl (omega (arith, less, least))

module _ (bound d : ℕ) where
  -- each body has a key from `low` to below `high`; a returned run that may follow others begins at the bound or past
  -- it
  abbrev pub AreBetween : ℕ → ℕ → List Body → Type 0
  AreBetween low high [] = ⊤
  AreBetween low high (b ∷ bs) = (low ≤ key bound b) × (key bound b < high)
      × IsBeyond bound low b × AreBetween low high bs

  -- the frames on the link to d are in order and few, and so are the messages and replies
  pub record Sends (low high frames sayings words : ℕ) (r : Reply) : Type 0 where
    pub each : AreBetween low high (r.frames d)
    pub order : GoInOrder (r.frames d)
    pub few_frames : length (r.frames d) ≤ frames
    pub few_sayings : length r.sayings ≤ sayings
    pub few_words : length r.words ≤ words

  all_before : (mid high : ℕ) (a : Body) (bs : List Body) → key bound a < mid
      → AreBetween mid high bs → GoesBeforeAll a bs
  all_before mid high a [] less each = tt
  all_before mid high a (b ∷ bs) less each =
      (goes_before bound mid a b less each.0 each.2, all_before mid high a bs less each.3)

  wider : (low high low' high' : ℕ) (bs : List Body) → low' ≤ low → high ≤ high' → AreBetween low high bs
      → AreBetween low' high' bs
  wider low high low' high' [] one two each = tt
  wider low high low' high' (b ∷ bs) one two each = (
    omega (arith, one, each.0),
    omega (arith, two, each.1),
    closer bound low low' b one each.2,
    wider low high low' high' bs one two each.3,
  )

  between_both : (low mid high : ℕ) (xs bs : List Body) → low ≤ mid → mid ≤ high → AreBetween low mid xs
      → AreBetween mid high bs → AreBetween low high (xs ++ bs)
  between_both low mid high [] bs one two left right = wider mid high low high bs one (omega arith) right
  between_both low mid high (a ∷ xs) bs one two left right =
      (left.0, omega (arith, two, left.1), left.2, between_both low mid high xs bs one two left.3 right)

  before_both : (mid high : ℕ) (a : Body) (xs bs : List Body) → key bound a < mid → GoesBeforeAll a xs
      → AreBetween mid high bs → GoesBeforeAll a (xs ++ bs)
  before_both mid high a [] bs less first right = all_before mid high a bs less right
  before_both mid high a (b ∷ xs) bs less first right = (first.0, before_both mid high a xs bs less first.1 right)

  order_both : (low mid high : ℕ) (xs bs : List Body) → AreBetween low mid xs → AreBetween mid high bs → GoInOrder xs
      → GoInOrder bs → GoInOrder (xs ++ bs)
  order_both low mid high [] bs left right one two = two
  order_both low mid high (a ∷ xs) bs left right one two =
      (before_both mid high a xs bs left.1 one.0 right, order_both low mid high xs bs left.3 right one.1 two)

  length_both : {X : Type 0} (xs bs : List X) (m n : ℕ) → length xs ≤ m → length bs ≤ n → length (xs ++ bs) ≤ m + n
  length_both xs bs m n one two = omega (arith, length-append xs bs, one, two)

  -- an act without frames, messages and replies
  pub sends_none : (low high : ℕ) (r : Reply) → r.frames d ≡ [] → r.sayings ≡ [] → r.words ≡ [] → Sends low high 0 0 0 r
  sends_none low high r frames sayings words = record {
    each = subst (AreBetween low high) (sym frames) tt;
    order = subst GoInOrder (sym frames) tt;
    few_frames = let e : length (r.frames d) ≡ 0 = ap length frames in omega (arith, e);
    few_sayings = let e : length r.sayings ≡ 0 = ap length sayings in omega (arith, e);
    few_words = let e : length r.words ≡ 0 = ap length words in omega (arith, e);
  }

  -- one frame to d if the test holds, and no message
  pub sends_yes : (low high : ℕ) (b : Bool) (body : Body) (r : Reply) → r.frames d ≡ (if b then body ∷ [] else [])
      → r.sayings ≡ [] → r.words ≡ []
      → (b ≡ true → (low ≤ key bound body) × (key bound body < high) × IsBeyond bound low body) → Sends low high 1 0 0 r
  sends_yes low high true body r frames sayings words between = record {
    each = subst (AreBetween low high) (sym frames) ((between refl).0, (between refl).1, (between refl).2, tt);
    order = subst GoInOrder (sym frames) (tt, tt);
    few_frames = let e : length (r.frames d) ≡ 1 = ap length frames in omega (arith, e);
    few_sayings = let e : length r.sayings ≡ 0 = ap length sayings in omega (arith, e);
    few_words = let e : length r.words ≡ 0 = ap length words in omega (arith, e);
  }
  sends_yes low high false body r frames sayings words between = record {
    each = subst (AreBetween low high) (sym frames) tt;
    order = subst GoInOrder (sym frames) tt;
    few_frames = let e : length (r.frames d) ≡ 0 = ap length frames in omega (arith, e);
    few_sayings = let e : length r.sayings ≡ 0 = ap length sayings in omega (arith, e);
    few_words = let e : length r.words ≡ 0 = ap length words in omega (arith, e);
  }

  -- replies, and no frame
  pub sends_words : (low high n : ℕ) (r : Reply) → r.frames d ≡ [] → r.sayings ≡ []
      → length r.words ≤ n → Sends low high 0 0 n r
  sends_words low high n r frames sayings words = record {
    each = subst (AreBetween low high) (sym frames) tt;
    order = subst GoInOrder (sym frames) tt;
    few_frames = let e : length (r.frames d) ≡ 0 = ap length frames in omega (arith, e);
    few_sayings = let e : length r.sayings ≡ 0 = ap length sayings in omega (arith, e);
    few_words = words;
  }

  -- a message, and no frame
  pub sends_saying : (low high : ℕ) (r : Reply) → r.frames d ≡ [] → length r.sayings ≤ 1
      → r.words ≡ [] → Sends low high 0 1 0 r
  sends_saying low high r frames sayings words = record {
    each = subst (AreBetween low high) (sym frames) tt;
    order = subst GoInOrder (sym frames) tt;
    few_frames = let e : length (r.frames d) ≡ 0 = ap length frames in omega (arith, e);
    few_sayings = sayings;
    few_words = let e : length r.words ≡ 0 = ap length words in omega (arith, e);
  }

  -- no frame
  pub sends_quiet : (low high frames sayings words : ℕ) (r : Reply) → r.frames d ≡ [] → length r.sayings ≤ sayings
      → length r.words ≤ words → Sends low high frames sayings words r
  sends_quiet low high frames sayings words r none says tells = record {
    each = subst (AreBetween low high) (sym none) tt;
    order = subst GoInOrder (sym none) tt;
    few_frames = let e : length (r.frames d) ≡ 0 = ap length none in omega (arith, e);
    few_sayings = says;
    few_words = tells;
  }

  -- one act and then another
  pub sends_then : (low mid high n m s u w v : ℕ) (f g : Act) (k : Centre) → low ≤ mid → mid ≤ high
      → Sends low mid n s w (f k) → Sends mid high m u v (g (f k).state)
      → Sends low high (n + m) (s + u) (w + v) ((f >> g) k)
  unfolding ◌>>◌
  sends_then low mid high n m s u w v f g k one two left right = record {
    each = between_both low mid high ((f k).frames d) ((g (f k).state).frames d) one two left.each right.each;
    order = order_both low mid high ((f k).frames d) ((g (f k).state).frames d) left.each
        right.each left.order right.order;
    few_frames = length_both ((f k).frames d) ((g (f k).state).frames d) n m left.few_frames right.few_frames;
    few_sayings = length_both (f k).sayings (g (f k).state).sayings s u left.few_sayings right.few_sayings;
    few_words = length_both (f k).words (g (f k).state).words w v left.few_words right.few_words;
  }

  -- less is sent than may be
  pub sends_less : (low high n s w low' high' n' s' w' : ℕ) (r : Reply) → low' ≤ low → high ≤ high' → n ≤ n' → s ≤ s'
      → w ≤ w' → Sends low high n s w r → Sends low' high' n' s' w' r
  sends_less low high n s w low' high' n' s' w' r a b e f g h = record {
    each = wider low high low' high' (r.frames d) a b h.each;
    order = h.order;
    few_frames = omega (arith, e, h.few_frames);
    few_sayings = omega (arith, f, h.few_sayings);
    few_words = omega (arith, g, h.few_words);
  }

  -- one reply or another
  pub sends_if : (low high n s w : ℕ) (b : Bool) (x y : Reply) → (b ≡ true → Sends low high n s w x)
      → (b ≡ false → Sends low high n s w y) → Sends low high n s w (if b then x else y)
  sends_if low high n s w true x y one two = one refl
  sends_if low high n s w false x y one two = two refl

  -- an act with an optional value, or none
  pub sends_some : {X : Type 0} (low high n s w : ℕ) (o : Option X) (f : X → Reply) (none : Reply)
      → ((x : X) → o ≡ Some x → Sends low high n s w (f x)) → (o ≡ None → Sends low high n s w none)
      → Sends low high n s w (option_map_or f o none)
  sends_some low high n s w (Some x) f none one two = one x refl
  sends_some low high n s w None f none one two = two refl
