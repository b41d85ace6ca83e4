-- Sections that are returned, and a Yield on the way.
use Rattle.std.proofs.Common.{[], ⊎_elim, ◌&&◌, ◌*◌, ◌+◌, ◌<◌, ◌==◌, ◌||◌, ◌∙◌, ◌∷◌, ◌≡◌, ◌≤◌, ap, arith, Bool, false}
use Rattle.std.proofs.Common.{if◌then◌else◌, inl, inr, is_some, List, nat_le, None, not, Option, option_map, refl, Some}
use Rattle.std.proofs.Common.{subst, sym, true, ℕ}
use Rattle.std.proofs.lemmas.Bool.{and_from, and_parts, cases_lt, le-leb, lt-ltb, ne_eqb}
use Rattle.std.proofs.lemmas.Bool.Decides.{eqb_tells}
use Rattle.std.specs.Option.{option_map_or}
use Rattle.law_base.proofs.CountingLemmas.Chain.{chain_took}
use Rattle.law_base.proofs.CountingLemmas.Network.{each_head}
use Rattle.law_base.proofs.CountingLemmas.Places.{head_only, held_carried_le_placed}
use Rattle.law_base.proofs.CountingLemmas.Resource.{carried_more, carried_none}
use Rattle.law_base.proofs.CountingLemmas.Sums.{one_if_le, one_if_some, one_if_true, sum_le, sum_only, sum_zero}
use Rattle.law_base.specs.Counting.Network.{TakesHead, took, way}
use Rattle.law_base.specs.Counting.Resource.{allowed, carried, placed, Resource, sent_by}
use Rattle.law_base.specs.Counting.Sums.{one_if, sum_below}
use Rattle.law_base.specs.Local.Local.{IsOrdered}
use Rattle.law_invariants.proofs.FlowLemmas.Lists.{all_within, itself, neither, none_is_not_some, one_home, some_cap}
use Rattle.law_invariants.proofs.FlowLemmas.Neighbours.{one_registrar}
use Rattle.law_invariants.specs.Flow.Counts.{rights, tokens}
use Rattle.law_invariants.specs.Flow.Flow.{centre_count, Flow}
use Rattle.law_invariants.specs.Flow.Pairs.{after, before, count_if, follows, is_number, IsPaired, yields}
use Rattle.law_invariants.specs.Flow.Sound.{IsBodySound, IsFlowSound, IsYieldSound}
use Rattle.rbc_spec.proofs.Places.{section_on}
use Rattle.rbc_spec.proofs.Runs.{within_shared}
use Rattle.rbc_spec.specs.Acts.{returned}
use Rattle.rbc_spec.specs.Centre.{Centre, Entry, Expectation, is_out_for, is_taken_for, is_used_for, Open, Out, Shut}
use Rattle.rbc_spec.specs.Centre.{Taken}
use Rattle.rbc_spec.specs.Frame.{Body, carried_place, RouteReturn, Yield, YieldedPlace}
use Rattle.rbc_spec.specs.Line.{is_centre, is_home, Line, next_centre, Section, section}
use Rattle.rbc_spec.specs.Links.{may_arrive, may_take}
use Rattle.rbc_spec.specs.Place.{group_start, Place}
use Rattle.rbc_spec.specs.SectionRuns.{is_empty, SectionRun, shared, within}
use Rattle.rbc_spec.specs.Sections.{home_run, is_on}

-- # Returned sections: one frame to each home, and each section in at most one of them.

-- a section that two runs share is in both
pub in_both : (a b : SectionRun) (s : ℕ) → within (shared a b) s ≡ true → (within a s ≡ true) × (within b s ≡ true)
in_both a b s is = and_parts (within a s) (within b s) (sym (within_shared a b s) ∙ is)

-- each section has one home at most
pub homes_once : (line : Line) (s n : ℕ) (x : Bool) → sum_below n (λ d. one_if (x && is_home line d s)) ≤ one_if x
homes_once line s n x = by_section (section line s)
  where
    none : (y z : Bool) → z ≡ false → one_if (y && z) ≡ 0
    none true z h = ap one_if h
    none false z h = refl

    le : (y z : Bool) → one_if (y && z) ≤ one_if y
    le true true = omega arith
    le true false = omega arith
    le false z = omega arith

    by_section : (o : Option Section)
        → sum_below n (λ d. one_if (x && option_map_or (λ p. p.home == d) o false)) ≤ one_if x
    by_section None = omega (arith, sum_zero n (λ d. one_if (x && false)) (λ d at. none x false refl))
    by_section (Some p) = ⊎_elim
        (λ (at : p.home < n).
        omega (
          arith,
          le x (p.home == p.home),
          sum_only n (λ d. one_if (x && (p.home == d))) p.home at
              (λ d below apart. none x (p.home == d)
              (elim (eqb_tells p.home d) [ inl e ↦ absurd (apart (sym e.1)) | inr e ↦ e.0 ])),
        ))
        (λ (past : n ≤ p.home).
        omega (
          arith,
          sum_zero n (λ d. one_if (x && (p.home == d)))
              (λ d below. none x (p.home == d)
              (elim (eqb_tells p.home d) [ inl e ↦ absurd (let no : ⊥ = omega (arith, e.1) in no) | inr e ↦ e.0 ])),
        ))
        (cases_lt p.home n)

module _ (line : Line) (ordered : IsOrdered line) (c t track : ℕ) (r : SectionRun) (k : Centre) (u s : ℕ) where
  abbrev frames : ℕ → List Body
  frames = (returned line c t track r k).frames

  one_frame : (d : ℕ) → carried (tokens line u s) c d (frames d) ≤ one_if (((t == u) && within r s) && is_home line d s)
  one_frame d = by_empty ((d == c) || is_empty part)
    where
      part : SectionRun
      part = shared r (home_run line d track)

      named : (b : Bool) → within part s ≡ b → one_if ((t == u) && b)
          ≤ one_if (((t == u) && within r s) && is_home line d s)
      named true is =
          let both = in_both r (home_run line d track) s is in
          let home = and_parts (is_home line d s) (is_on line track s) (sym (ordered.homes_run d track s) ∙ both.1) in
          one_if_le ((t == u) && true) (((t == u) && within r s) && is_home line d s)
          (λ h. and_from _ _ (and_from _ _ (and_parts (t == u) true h).0 both.0) home.0)
      named false is = one_if_le ((t == u) && false) (((t == u) && within r s) && is_home line d s)
          (λ h. absurd (let wrong : false ≡ true = (and_parts (t == u) false h).1 in cc))

      by_empty : (b : Bool) → carried (tokens line u s) c d (if b then [] else RouteReturn t part ∷ [])
          ≤ one_if (((t == u) && within r s) && is_home line d s)
      by_empty true = omega (arith, carried_none (tokens line u s) c d)
      by_empty false =
          omega (
            arith,
            carried_more (tokens line u s) c d (RouteReturn t part) [],
            carried_none (tokens line u s) c d,
            named (within part s) refl,
          )

  -- all frames together name a section once at most, and only one of the run
  pub returned_once : sent_by (tokens line u s) (centre_count line) c frames ≤ one_if ((t == u) && within r s)
  unfolding sent_by
  returned_once = omega (
    arith,
    sum_le (centre_count line) (λ d. carried (tokens line u s) c d (frames d))
        (λ d. one_if (((t == u) && within r s) && is_home line d s)) (λ d at. one_frame d),
    homes_once line s (centre_count line) ((t == u) && within r s),
  )

-- # A Yield on the way is accepted by its receiver.

le_true : (m n : ℕ) → m ≤ n → nat_le m n ≡ true
le_true m n le = le-leb m n le

-- ## A section whose token arrives at its home

-- an entry in use for the train that is not taken is out for it
used_out : (t : ℕ) (e : Entry) → is_used_for t e ≡ true → is_taken_for t e ≡ false → is_out_for t e ≡ true
used_out t Shut used untaken = cc
used_out t Open used untaken = cc
used_out t (Taken u) used untaken = absurd (let wrong : true ≡ false = sym used ∙ untaken in cc)
used_out t (Out u) used untaken = used

-- a section is in use at its home for one train at most, so its token is in one place
pub one_token : (line : Line) (w : Flow) (sound : IsFlowSound line w) (t s : ℕ)
    → placed (tokens line t s) (centre_count line) w ≤ 1
unfolding allowed
one_token line w sound t s = omega (
  arith,
  (sound.tokens t s).law,
  sum_le (centre_count line) (λ c. one_if (is_home line c s && is_used_for t ((w.at c).book s)))
      (λ c. one_if (true && is_home line c s)) (λ c at. one_if_le _ _ (λ h. (and_parts (is_home line c s) _ h).0)),
  homes_once line s (centre_count line) true,
)

-- the next frame of a link to its home has the token: then the section is out for the train
pub token_out : (line : Line) (w : Flow) (sound : IsFlowSound line w) (a c t s : ℕ) (f : Body) → a < centre_count line
    → c < centre_count line → TakesHead w a c f → is_home line c s ≡ true
    → (tokens line t s).inside a c f ≡ 1 → is_out_for t ((w.at c).book s) ≡ true
token_out line w sound a c t s f small below takes home inside =
    let r : Resource Centre Body = tokens line t s in
    let only = head_only r (centre_count line) w a c f (one_token line w sound t s) small below
    takes (omega (arith, inside)) in
    let link : carried r a c (way w a c) ≡ r.inside a c f + carried r a c (way (took w a c) a c) =
    ap (carried r a c) takes.head ∙ carried_more r a c f (way (took w a c) a c) in
    let some : 0 < allowed r (centre_count line) w =
    omega (
      arith,
      inside,
      link,
      held_carried_le_placed r (centre_count line) w a a c small small below,
      (sound.tokens t s).law,
    ) in
    let who = some_cap r (centre_count line) w some in
    let parts = and_parts (is_home line who.0 s) (is_used_for t ((w.at who.0).book s))
    (one_if_some (is_home line who.0 s && is_used_for t ((w.at who.0).book s)) who.2) in
    let used : is_used_for t ((w.at c).book s) ≡ true =
    subst (λ h. is_used_for t ((w.at h).book s) ≡ true) (one_home line who.0 c s parts.0 home) parts.1 in
    used_out t ((w.at c).book s) used (one_if_none (is_taken_for t ((w.at c).book s))
    (omega (arith, only.0.centres c below, (sound.centres c (lt-ltb c (centre_count line) below)).claims s t home)))
  where
    one_if_none : (b : Bool) → one_if b ≡ 0 → b ≡ false
    one_if_none true is = absurd (let no : ⊥ = omega (arith, is) in no)
    one_if_none false is = refl

module _ (line : Line) (w : Flow) (sound : IsFlowSound line w) (a c number t heard : ℕ) (has_data is_ended : Bool)
    (carried_as : YieldedPlace) (hand : SectionRun)
    (from : is_centre line a ≡ true) (to : is_centre line c ≡ true) (small : a < centre_count line)
    (below : c < centre_count line)
    (takes : TakesHead w a c (Yield number t heard has_data is_ended carried_as hand)) where
  abbrev f : Body
  f = Yield number t heard has_data is_ended carried_as hand

  abbrev k : Centre
  k = w.at c

  paired : IsPaired w a c t
  paired = sound.pairs a c t from to

  -- ## Under its number

  expected_so : (e : Option Expectation) → k.expects a t ≡ e → is_number number (option_map (λ x. x.number) e) ≡ true
      → (x : Expectation) × (e ≡ Some x) × ((x.number == number) ≡ true)
  expected_so None is h = cc
  expected_so (Some x) is h = (x, refl, h)

  is_expected : is_number number (option_map (λ x. x.number) (k.expects a t)) ≡ true
  is_expected =
      let led = chain_took (follows t) w a c f _ _ takes paired.chain in
      by_number (is_number number (option_map (λ x. x.number) (k.expects a t))) led.0
      (sym (ap (λ (b : Bool).
      if b then (if is_number number (option_map (λ x. x.number) (k.expects a t)) then Some None else None) else
      Some (option_map (λ x. x.number) (k.expects a t))) (itself t)) ∙ led.1)
    where
      by_number : (b : Bool) (mid : Option ℕ) → (if b then Some None else None) ≡ Some mid → b ≡ true
      by_number true mid h = refl
      by_number false mid h = cc

  yield_counted : 0 < count_if (yields t number) (way w a c)
  yield_counted =
      omega (
        arith,
        ap (count_if (yields t number)) takes.head,
        one_if_true ((t == t) && (number == number)) (and_from (t == t) (number == number) (itself t) (itself number)),
      )

  is_taking : (x : Expectation) → k.expects a t ≡ Some x → (x.number == number) ≡ true → x.is_taking ≡ true
  is_taking x is same = by_taking x.is_taking refl
    where
      by_taking : (b : Bool) → x.is_taking ≡ b → x.is_taking ≡ true
      by_taking true e = e
      by_taking false e =
          let waits : one_if (option_map_or (λ y. (y.number == number) && not y.is_taking) (k.expects a t) false) ≡ 1 =
          rw (is, same, e) refl in
          absurd (⊎_elim (λ (none : before w a c t number ≡ 0). let no : ⊥ = omega (arith, waits) in
          no) (λ (none : after w a c t number ≡ 0). let no : ⊥ = omega (arith, yield_counted) in
          no) (paired.apart number))

  under_number : option_map_or (λ e. (e.number == number) && e.is_taking) (k.expects a t) false ≡ true
  under_number =
      let x = expected_so (k.expects a t) refl is_expected in
      rw (x.1) (and_from (x.0.number == number) x.0.is_taking x.2 (is_taking x.0 x.1 x.2))

  -- ## Neither mission nor right are here

  not_here : one_if (k.has_right t) + one_if (is_some (k.mission t)) ≡ 0
  not_here =
      let few : placed (rights line t) (centre_count line) w ≤ 1 =
      omega (arith, (sound.rights t).law, one_registrar line t (centre_count line) w) in
      let only = head_only (rights line t) (centre_count line) w a c f few small below takes
      (omega (arith, one_if_true (t == t) (itself t))) in
      only.0.centres c below

  -- ## The hand

  pub body_sound : IsYieldSound line a c t carried_as hand
  body_sound = each_head (IsBodySound line) w a c f takes sound.bodies

  -- the place that it carries
  abbrev pub place : Place
  place = body_sound.place

  -- no section of the hand is of the next centre
  not_of_next : (h : ℕ) (o : Option ℕ) → next_centre line c place.track ≡ o
      → ((n : ℕ) → next_centre line c place.track ≡ Some n → (h == n) ≡ false)
      → not (option_map_or (λ n. n == h) o false) ≡ true
  not_of_next h None is apart = refl
  not_of_next h (Some n) is apart = elim (eqb_tells h n) [
    | inl e ↦ absurd (let wrong : true ≡ false = sym e.0 ∙ apart n is in cc)
    | inr e ↦ ap not (ne_eqb n h (λ same. e.1 (sym same)))
  ]

  arrive_at : (s : ℕ) (p : Section) → within hand s ≡ true → section line s ≡ Some p
      → option_map_or (λ q. not (option_map_or (λ n. n == q.home) (next_centre line c place.track) false))
      (section line s) false ≡ true
  arrive_at s p in_hand at =
      ap (λ o. option_map_or
      (λ (q : Section). not (option_map_or (λ n. n == q.home) (next_centre line c place.track) false)) o false) at
      ∙ not_of_next p.home (next_centre line c place.track) refl
      (λ n next. ap (λ o. option_map_or (λ (q : Section). q.home == n) o false) (sym at)
      ∙ body_sound.hand_ends s n next in_hand)

  arrives : (s : ℕ) → within hand s ≡ true → may_arrive line c k t place.track s ≡ true
  arrives s in_hand = by_home (is_home line c s) refl
    where
      by_home : (b : Bool) → is_home line c s ≡ b → may_arrive line c k t place.track s ≡ true
      by_home true home =
          rw home (token_out line w sound a c t s f small below takes home
          (one_if_true ((t == t) && within hand s) (and_from _ _ (itself t) in_hand)))
      by_home false away = let p = section_on line place.track s (body_sound.is_hand.on_track s in_hand) in
          rw away (arrive_at s p.0 in_hand p.1.at)

  pub is_carried : carried_place carried_as ≡ Some place
  is_carried = ap carried_place body_sound.is_carried

  pub is_taken : may_take line c k a number t place hand ≡ true
  is_taken = and_from _ _
      (and_from _ _ under_number (ap (λ (b : Bool). b && not (k.has_right t)) (none_is_not_some (k.mission t))
      ∙ neither (is_some (k.mission t)) (k.has_right t) not_here))
      (and_from _ _ (and_from _ _ (all_within (is_on line place.track) hand body_sound.is_hand.on_track)
      body_sound.is_hand.group)
      (and_from _ _ (le_true (10 * group_start line place) place.front body_sound.is_hand.front)
      (all_within (may_arrive line c k t place.track) hand arrives)))
