-- A centre's share of a counted amount, by one train's right, start and mission, and by the entry of one section.
use Rattle.std.proofs.Common.{[], ⊎_elim, ◌&&◌, ◌+◌, ◌<◌, ◌==◌, ◌∙◌, ◌∷◌, ◌≡◌, ◌≢◌, ◌≤◌, ap, arith, Bool, false}
use Rattle.std.proofs.Common.{if◌then◌else◌, List, None, Option, option_map, refl, Some, sym, true, ℕ}
use Rattle.std.proofs.lemmas.Bool.{cases_eq, cases_lt}
use Rattle.std.specs.Option.{option_map_or}
use Rattle.law_base.proofs.CountingLemmas.Network.{to_one_other}
use Rattle.law_base.proofs.CountingLemmas.Resource.{carried_none, sent_append, sent_none, sent_single}
use Rattle.law_base.proofs.CountingLemmas.Sums.{put_other, put_same, sum_zero}
use Rattle.law_base.specs.Counting.Network.{to_one}
use Rattle.law_base.specs.Counting.Resource.{carried, Resource, sent_by}
use Rattle.law_base.specs.Walk.Trains.{train_of}
use Rattle.law_invariants.specs.Flow.Flow.{centre_count}
use Rattle.law_invariants.specs.NoCopy.Stray.{is_plain}
use Rattle.rbc_spec.specs.Acts.{◌>>◌, Act, booked, change_mission, freed, Reply, rest, returned, say, set_mission}
use Rattle.rbc_spec.specs.Centre.{Centre, Entry, is_open, is_out_for, is_taken_for, is_unused, is_used_for, Mission}
use Rattle.rbc_spec.specs.Centre.{Out, Taken}
use Rattle.rbc_spec.specs.Frame.{Body, GiveRight, ReturnRight, RouteInfo, RouteReturn, Yield, YieldedPlace}
use Rattle.rbc_spec.specs.Line.{is_home, Line, registrar}
use Rattle.rbc_spec.specs.Links.{is_train}
use Rattle.rbc_spec.specs.Maps.{put}
use Rattle.rbc_spec.specs.Message.{TrackBody}
use Rattle.rbc_spec.specs.Place.{covered, Place}
use Rattle.rbc_spec.specs.SectionRuns.{is_empty, SectionRun, within}
use Rattle.rbc_spec.specs.Sections.{is_on}

-- the train's registrar is a centre of the line
pub record HasRegistrar (line : Line) (t : ℕ) : Type 0 where
  pub centre : ℕ
  pub is : registrar line t ≡ Some centre
  pub below : centre < centre_count line

pub record Tally : Type 0 where
  pub res : Resource Centre Body
  pub train : ℕ
  pub section : ℕ
  pub one : ℕ  -- what a right counts, alone or in a mission
  pub weight : ℕ  -- what the section counts in a hand or a pool
  pub waiting : ℕ  -- in a start that waits
  pub away : ℕ  -- and in a frame by which it goes home
  pub entry : Entry → ℕ  -- what its home lets be out
  pub outside : Bool  -- the section is counted where it is not at home alone
  pub exact : Bool  -- what is lost is counted too

abbrev pub right_of : Tally → Bool → ℕ
right_of y b = if b then y.one else 0

abbrev pub part : Tally → SectionRun → ℕ
part y r = if within r y.section then y.weight else 0

abbrev pub whole : Tally → SectionRun → SectionRun → ℕ
whole y hand pool = y.one + (part y hand + part y pool)

abbrev pub mission_of : Tally → Option Mission → ℕ
mission_of y None = 0
mission_of y (Some m) = whole y m.hand m.pool

abbrev pub start_of : Tally → SectionRun → ℕ
start_of y r = if within r y.section then y.waiting else 0

abbrev pub wait_of : Line → Tally → Option Place → ℕ
wait_of line y None = 0
wait_of line y (Some place) = start_of y (covered line place)

abbrev pub part_away : Tally → SectionRun → ℕ
part_away y r = if within r y.section then y.away else 0

-- the amount in frames that return the run for train t
abbrev pub gone : Tally → ℕ → SectionRun → ℕ
gone y t r = if t == y.train then part_away y r else 0

-- the amount of a right of train t
abbrev pub back : Tally → ℕ → ℕ
back y t = if t == y.train then y.one else 0

-- the section, if it is an own one in this hand, is taken for the train
abbrev pub MayYield : Line → ℕ → Tally → SectionRun → Entry → Type 0
MayYield line c y hand e = within hand y.section ≡ true → is_home line c y.section ≡ true
    → is_taken_for y.train e ≡ true

-- and they count at least as much, if losses are counted
pub record IsExactTally (line : Line) (c : ℕ) (y : Tally) : Type 0 where
  pub home_goes : (t track : ℕ) (r : SectionRun) (k : Centre)
      → (t ≡ y.train → within r y.section ≡ true → is_on line track y.section ≡ true)
      → gone y t r ≤ sent_by y.res (centre_count line) c (returned line c t track r k).frames
  pub here : (e g : Entry) → is_out_for y.train e ≡ false → is_out_for y.train g ≡ false → y.entry e ≤ y.entry g
  pub named : y.outside ≡ true
  pub registrar : is_train line y.train ≡ true → HasRegistrar line y.train
  pub heavy : y.weight ≤ y.away
  pub waiting : y.waiting ≡ 0
  pub own : is_home line c y.section ≡ true → y.weight ≡ 0
  pub lends : (d : ℕ) (r : SectionRun) (e : Entry) → is_home line c y.section ≡ true
      → within r y.section ≡ true → is_open e ≡ true
      → y.entry (Out y.train) ≤ y.entry e + y.res.inside c d (RouteInfo y.train r)
  pub told : (a : ℕ) (r : SectionRun) → (within r y.section ≡ true → is_home line c y.section ≡ false)
      → y.res.inside a c (RouteInfo y.train r) ≤ part y r
  pub told_back : (a : ℕ) (r : SectionRun) → y.res.inside a c (RouteInfo y.train r)
      ≤ y.res.inside c a (RouteReturn y.train r)
  pub not_told : (a b : ℕ) (r : SectionRun) → is_empty r ≡ true → y.res.inside a b (RouteInfo y.train r) ≡ 0
  pub comes_home : (a : ℕ) (r : SectionRun) (e g : Entry) → is_home line c y.section ≡ true
      → is_out_for y.train e ≡ true → is_unused g ≡ true
      → y.res.inside a c (RouteReturn y.train r) + y.entry g ≤ y.entry e
  pub not_home : (a b : ℕ) (r : SectionRun) → within r y.section ≡ false → y.res.inside a b (RouteReturn y.train r) ≡ 0
  pub yields : (to number heard : ℕ) (has_data is_ended : Bool) (place : YieldedPlace) (hand : SectionRun) (e : Entry)
      → MayYield line c y hand e
      → (y.one + part y hand) + y.entry (if within hand y.section && is_taken_for y.train e then Out y.train else e)
      ≤ y.entry e + y.res.inside c to (Yield number y.train heard has_data is_ended place hand)
  pub takes : (a number heard : ℕ) (has_data is_ended : Bool) (place : YieldedPlace) (hand : SectionRun) (e : Entry)
      → (within hand y.section ≡ true → is_home line c y.section ≡ true → is_out_for y.train e ≡ true)
      → y.res.inside a c (Yield number y.train heard has_data is_ended place hand)
      + y.entry (if within hand y.section && is_out_for y.train e then Taken y.train else e)
      ≤ y.entry e + (y.one + part y hand)

-- these numbers count the resource at centre c
pub record IsTally (line : Line) (c : ℕ) (y : Tally) : Type 0 where
  pub held : (k : Centre) → y.res.held c k ≡ (right_of y (k.has_right y.train) + wait_of line y (k.wait y.train))
      + mission_of y (k.mission y.train)
  pub cap : (k : Centre) → y.res.cap c k ≡ y.entry (k.book y.section)
  pub plain : (a b : ℕ) (body : Body) → is_plain body ≡ true → y.res.inside a b body ≡ 0
  pub others : (a b : ℕ) (body : Body) → train_of body ≢ y.train → y.res.inside a b body ≡ 0
  pub gives : (a b : ℕ) → y.res.inside a b (GiveRight y.train) ≡ y.one
  pub backs : (a b : ℕ) → y.res.inside a b (ReturnRight y.train) ≡ y.one
  pub home_goes : (t track : ℕ) (r : SectionRun) (k : Centre)
      → sent_by y.res (centre_count line) c (returned line c t track r k).frames ≤ gone y t r
  pub unused : (e g : Entry) → is_unused e ≡ true → y.entry e ≤ y.entry g
  pub other : (t : ℕ) (e g : Entry) → t ≢ y.train → is_used_for t e ≡ true → y.entry e ≤ y.entry g
  pub light : y.away ≤ y.weight
  pub opens : (e : Entry) → is_home line c y.section ≡ true → is_open e ≡ true
      → (y.entry e + y.weight ≤ y.entry (Taken y.train)) × (y.entry e + y.waiting ≤ y.entry (Taken y.train))
  pub frees : (e g : Entry) → is_home line c y.section ≡ true → is_taken_for y.train e ≡ true
      → (y.away + y.entry e ≤ y.entry g + y.weight) × (y.entry e ≤ y.entry g + y.waiting)
  pub waits : is_home line c y.section ≡ true → y.weight ≤ y.waiting
  pub lends : (d : ℕ) (r : SectionRun) (e : Entry) → is_home line c y.section ≡ true → is_open e ≡ true
      → y.entry e + y.res.inside c d (RouteInfo y.train r) ≤ y.entry (Out y.train)
  pub names : (a b : ℕ) (r : SectionRun) → within r y.section ≡ false → y.res.inside a b (RouteInfo y.train r) ≡ 0
  pub told : (a : ℕ) (r : SectionRun) → part y r ≤ y.res.inside a c (RouteInfo y.train r)
  pub told_back : (a : ℕ) (r : SectionRun) → y.res.inside c a (RouteReturn y.train r)
      ≤ y.res.inside a c (RouteInfo y.train r)
  pub comes_home : (a : ℕ) (r : SectionRun) (e g : Entry) → is_home line c y.section ≡ true → within r y.section ≡ true
      → is_out_for y.train e ≡ true
      → y.entry e ≤ y.res.inside a c (RouteReturn y.train r) + y.entry g
  pub yields : (to number heard : ℕ) (has_data is_ended : Bool) (place : YieldedPlace) (hand : SectionRun) (e : Entry)
      → (y.outside ≡ true → MayYield line c y hand e)
      → y.entry e + y.res.inside c to (Yield number y.train heard has_data is_ended place hand)
      ≤ (y.one + part y hand) + y.entry (if within hand y.section && is_taken_for y.train e then Out y.train else e)
  pub takes : (a number heard : ℕ) (has_data is_ended : Bool) (place : YieldedPlace) (hand : SectionRun) (e : Entry)
      → y.entry e + (y.one + part y hand)
      ≤ y.res.inside a c (Yield number y.train heard has_data is_ended place hand)
      + y.entry (if within hand y.section && is_out_for y.train e then Taken y.train else e)
  pub back : y.exact ≡ true → IsExactTally line c y

module _ (line : Line) (c : ℕ) (y : Tally) where
  abbrev pub held : Centre → ℕ
  held k = (right_of y (k.has_right y.train) + wait_of line y (k.wait y.train)) + mission_of y (k.mission y.train)

  abbrev pub out : (ℕ → List Body) → ℕ
  out frames = sent_by y.res (centre_count line) c frames

  -- After the act there is at most the amount before and this gain, less this loss. If losses are counted, there is at
  -- least as much.
  pub record Fair (k : Centre) (gain lost : ℕ) (q : Reply) : Type 0 where
    pub law : (held q.state + out q.frames) + (y.entry (k.book y.section) + lost) ≤ (held k + gain)
        + y.entry (q.state.book y.section)
    pub back : y.exact ≡ true → (held k + gain) + y.entry (q.state.book y.section) ≤ (held q.state + out q.frames)
        + (y.entry (k.book y.section) + lost)

  -- it is the same
  pub alike : (k : Centre) (gain lost : ℕ) (q : Reply)
      → (held q.state + out q.frames) + (y.entry (k.book y.section) + lost) ≡ (held k + gain)
      + y.entry (q.state.book y.section) → Fair k gain lost q
  alike k gain lost q same = record { law = omega (arith, same); back = λ so. omega (arith, same) }

  pub fair_plain : (k : Centre) (q : Reply) → q.frames ≡ (λ d. []) → held q.state ≡ held k
      → y.entry (q.state.book y.section) ≡ y.entry (k.book y.section) → Fair k 0 0 q
  fair_plain k q none same still =
      alike k 0 0 q (omega (arith, same, still, ap out none ∙ sent_none y.res (centre_count line) c))

  pub fair_rest : (k : Centre) → Fair k 0 0 (rest k)
  fair_rest k = fair_plain k (rest k) refl refl refl

  pub fair_then : {g l h m : ℕ} (a b : Act) (k : Centre) → Fair k g l (a k) → Fair (a k).state h m (b (a k).state)
      → Fair k (g + h) (l + m) ((a >> b) k)
  unfolding ◌>>◌
  fair_then a b k one two = record {
    law = omega (arith, one.law, two.law, sent_append y.res (centre_count line) c (a k).frames (b (a k).state).frames);
    back = λ so.
        omega (
          arith,
          one.back so,
          two.back so,
          sent_append y.res (centre_count line) c (a k).frames (b (a k).state).frames,
        );
  }

  pub fair_both : (a b : Act) (k : Centre) → Fair k 0 0 (a k) → Fair (a k).state 0 0 (b (a k).state)
      → Fair k 0 0 ((a >> b) k)
  fair_both a b k one two = fair_then a b k one two

  pub eased : {g l : ℕ} (h m : ℕ) (k : Centre) (q : Reply) → g + m ≤ h + l → (y.exact ≡ true → h + l ≤ g + m)
      → Fair k g l q → Fair k h m q
  eased h m k q le back fair =
      record { law = omega (arith, le, fair.law); back = λ so. omega (arith, back so, fair.back so) }

  pub fair_if : {g l : ℕ} (b : Bool) (k : Centre) (p q : Reply) → (b ≡ true → Fair k g l p) → (b ≡ false → Fair k g l q)
      → Fair k g l (if b then p else q)
  fair_if true k p q one two = one refl
  fair_if false k p q one two = two refl

  pub fair_or : {X : Type 0} {g l : ℕ} (o : Option X) (f : X → Reply) (k : Centre) (q : Reply)
      → ((x : X) → o ≡ Some x → Fair k g l (f x)) → (o ≡ None → Fair k g l q) → Fair k g l (option_map_or f o q)
  fair_or None f k q some none = none refl
  fair_or (Some x) f k q some none = some x refl

  pub fair_set : (t : ℕ) (o : Option Mission) (k : Centre)
      → Fair k (mission_of y (put k.mission t o y.train)) (mission_of y (k.mission y.train)) (set_mission t o k)
  fair_set t o k = alike k _ _ (set_mission t o k) (omega (arith, sent_none y.res (centre_count line) c))

  -- a change of a mission that keeps its hand and its pool
  pub fair_change : (t : ℕ) (f : Mission → Mission) (k : Centre)
      → ((m : Mission) → ((f m).hand ≡ m.hand) × ((f m).pool ≡ m.pool)) → Fair k 0 0 (change_mission t f k)
  fair_change t f k keeps =
      alike k 0 0 (change_mission t f k) (omega (arith, sent_none y.res (centre_count line) c, same))
    where
      at_one : (o : Option Mission) → mission_of y (option_map f o) ≡ mission_of y o
      at_one None = refl
      at_one (Some m) = ap (λ r. whole y r (f m).pool) (keeps m).0 ∙ ap (whole y m.hand) (keeps m).1

      same : mission_of y (put k.mission t (option_map f (k.mission t)) y.train) ≡ mission_of y (k.mission y.train)
      same = ⊎_elim
          (λ (here : y.train ≡ t). ap (λ v. mission_of y (put k.mission t (option_map f (k.mission t)) v)) here
          ∙ ap (mission_of y) (put_same k.mission t (option_map f (k.mission t))) ∙ at_one (k.mission t)
          ∙ ap (λ v. mission_of y (k.mission v)) (sym here))
          (λ (other : y.train ≢ t). ap (mission_of y)
          (put_other k.mission t (option_map f (k.mission t)) y.train other))
          (cases_eq y.train t)

  pub fair_booked : (test : Entry → Bool) (e : Entry) (r : SectionRun) (k : Centre)
      → Fair k (y.entry (k.book y.section))
      (y.entry (if within r y.section && test (k.book y.section) then e else k.book y.section)) (booked test e r k)
  fair_booked test e r k = alike k _ _ (booked test e r k) (omega (arith, sent_none y.res (centre_count line) c))

  pub fair_freed : (test : Entry → Bool) (r : SectionRun) (k : Centre)
      → Fair k (y.entry (k.book y.section)) (y.entry ((freed line c test r k).state.book y.section))
      (freed line c test r k)
  fair_freed test r k = alike k _ _ (freed line c test r k) (omega (arith, sent_none y.res (centre_count line) c))

  pub sent_le : (d : ℕ) (body : Body) → out (to_one d (body ∷ [])) ≤ y.res.inside c d body
  unfolding sent_by
  sent_le d body = ⊎_elim
      (λ (below : d < centre_count line). omega (arith, sent_single y.res (centre_count line) c d body below))
      (λ (past : centre_count line ≤ d). omega (
        arith,
        sum_zero (centre_count line) (λ e. carried y.res c e (to_one d (body ∷ []) e))
            (λ e at. ap (carried y.res c e) (to_one_other d (body ∷ []) e (λ same. omega (arith, same, at, past)))
            ∙ carried_none y.res c e),
      ))
      (cases_lt d (centre_count line))

  pub sent_is : (d : ℕ) (body : Body) → d < centre_count line → y.res.inside c d body ≤ out (to_one d (body ∷ []))
  sent_is d body below = omega (arith, sent_single y.res (centre_count line) c d body below)

  pub fair_say : (t group : ℕ) (body : TrackBody) (k : Centre) → Fair k 0 0 (say t group body k)
  fair_say t group body k = fair_plain k (say t group body k) refl refl refl

  -- a changed mission counts as much as it may
  pub mission_put : (k : Centre) (t : ℕ) (o : Option Mission) (x z : ℕ)
      → (t ≡ y.train → x + mission_of y o ≤ z + mission_of y (k.mission t)) → (t ≢ y.train → x ≤ z)
      → x + mission_of y (put k.mission t o y.train) ≤ z + mission_of y (k.mission y.train)
  mission_put k t o x z here other = ⊎_elim
      (λ (same : t ≡ y.train). omega (
        arith,
        here same,
        ap (λ v. mission_of y (put k.mission t o v)) (sym same) ∙ ap (mission_of y) (put_same k.mission t o),
        ap (λ v. mission_of y (k.mission v)) same,
      ))
      (λ (apart : t ≢ y.train).
      omega (arith, other apart, ap (mission_of y) (put_other k.mission t o y.train (λ e. apart (sym e)))))
      (cases_eq t y.train)

  -- and no less
  pub mission_back : (k : Centre) (t : ℕ) (o : Option Mission) (x z : ℕ)
      → (t ≡ y.train → z + mission_of y (k.mission t) ≤ x + mission_of y o) → (t ≢ y.train → z ≤ x)
      → z + mission_of y (k.mission y.train) ≤ x + mission_of y (put k.mission t o y.train)
  mission_back k t o x z here other = ⊎_elim
      (λ (same : t ≡ y.train). omega (
        arith,
        here same,
        ap (λ v. mission_of y (put k.mission t o v)) (sym same) ∙ ap (mission_of y) (put_same k.mission t o),
        ap (λ v. mission_of y (k.mission v)) same,
      ))
      (λ (apart : t ≢ y.train).
      omega (arith, other apart, ap (mission_of y) (put_other k.mission t o y.train (λ e. apart (sym e)))))
      (cases_eq t y.train)
