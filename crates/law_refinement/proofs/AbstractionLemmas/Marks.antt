-- The state that is read off a flow, and its marks.
use Rattle.std.proofs.Common.{[], ◌&&◌, ◌+◌, ◌<◌, ◌==◌, ◌∙◌, ◌∷◌, ◌≡◌, ap, arith, Bool, false, inl, inr, is_some, List}
use Rattle.std.proofs.Common.{ltb-true, nat_lt, None, not, Option, refl, Some, subst, sym, true, ℕ}
use Rattle.std.proofs.lemmas.Bool.{lt-ltb}
use Rattle.std.specs.Option.{option_map_or}
use Rattle.std.specs.Prelude.{Contains}
use Rattle.law_base.proofs.CountingLemmas.Places.{held_carried_le_placed, held_le_placed}
use Rattle.law_base.proofs.CountingLemmas.Sums.{one_if_true, sum_plus, sum_same}
use Rattle.law_base.specs.Counting.Network.{way}
use Rattle.law_base.specs.Counting.Resource.{carried, placed, Resource}
use Rattle.law_base.specs.Counting.Sums.{one_if, sum_below, sum_links}
use Rattle.law_base.specs.Local.Local.{hand_has}
use Rattle.law_invariants.proofs.FlowLemmas.Lists.{carried_contains, itself, one_home}
use Rattle.law_invariants.proofs.FlowLemmas.Seats.{few_missions, nothing_sent}
use Rattle.law_invariants.proofs.FlowLemmas.Shown.{given_mark, given_shown, only_given_shown, used_in_hand}
use Rattle.law_invariants.proofs.FlowLemmas.Stands.{stands}
use Rattle.law_invariants.specs.Flow.Counts.{hand_inside, hands, missions, right_inside, rights, token_inside, tokens}
use Rattle.law_invariants.specs.Flow.Counts.{yield_inside}
use Rattle.law_invariants.specs.Flow.Flow.{centre_count, Flow, flow_of}
use Rattle.law_invariants.specs.Flow.Shows.{is_in_hand, Shows}
use Rattle.law_invariants.specs.Flow.Sound.{IsFlowSound}
use Rattle.law_refinement.proofs.AbstractionLemmas.Hands.{kept_shown, one_token}
use Rattle.law_refinement.specs.Abstraction.Acts.{IsAct, right_alone_inside, rights_alone, token_aside_inside}
use Rattle.law_refinement.specs.Abstraction.Acts.{tokens_aside}
use Rattle.rbc_spec.proofs.Runs.{same_tests}
use Rattle.rbc_spec.specs.Centre as centre
use Rattle.rbc_spec.specs.Centre.{Centre, is_used_for, Mission}
use Rattle.rbc_spec.specs.Frame.{Body, Yield, YieldedPlace}
use Rattle.rbc_spec.specs.Line.{is_centre, is_home, Line, Section, section}
use Rattle.rbc_spec.specs.LineCentre as line_centre
use Rattle.rbc_spec.specs.LineCentre.{is_given_to, IsHand, LineState}
use Rattle.rbc_spec.specs.Maps.{has}
use Rattle.rbc_spec.specs.ReadOff.{holder, mark_of, read_off, StandsFor}
use Rattle.rbc_spec.specs.SectionRuns.{SectionRun, within}
use Rattle.rbc_spec.specs.World.{World}

-- # A state that shows the flow of a world is the one that is read off it.

module _ (line : Line) (w : World) (sound : IsFlowSound line (flow_of w)) (v : LineState)
    (sees : Shows line (flow_of w) v) where
  stand : StandsFor line w v
  stand = stands line w sound v sees

  pub is_read_off : v ≡ read_off line w
  unfolding read_off
  is_read_off = λ i. record {
    mark = λ s. by_mark s (section line s) refl i;
    wish = λ s. by_wish s (section line s) refl i;
    phase = λ t c. sees.phase t c i;
    heard = λ t c. sees.heard t c i;
    said = λ t c. sees.said t c i;
    wait = λ t c. sees.wait t c i;
    mission = λ t. stand.mission t i;
  }
    where
      home_of : (s : ℕ) (p : Section) → section line s ≡ Some p → is_home line p.home s ≡ true
      home_of s p is = ap (has (λ q. q.home == p.home)) is ∙ itself p.home

      by_mark : (s : ℕ) (o : Option Section) → section line s ≡ o
          → v.mark s ≡ option_map_or (λ p. mark_of (holder line w s) ((w.at p.home).book s))
          (section line s) line_centre.Shut
      by_mark s None is = rw is (sees.no_section s is)
      by_mark s (Some p) is = rw is (stand.mark s p.home (home_of s p is))

      by_wish : (s : ℕ) (o : Option Section) → section line s ≡ o
          → v.wish s ≡ has (λ p. (w.at p.home).wish s) (section line s)
      by_wish s None is = rw is (sees.no_wish s is)
      by_wish s (Some p) is = rw is (sees.wish s p.home (home_of s p is))

-- # A resource that is of two kinds, each counted by itself.

module _ (r p q : Resource Centre Body) (held : (c : ℕ) (k : Centre) → r.held c k ≡ p.held c k + q.held c k)
    (inside : (a b : ℕ) (f : Body) → r.inside a b f ≡ p.inside a b f + q.inside a b f) where
  carried_split : (a b : ℕ) (fs : List Body) → carried r a b fs ≡ carried p a b fs + carried q a b fs
  unfolding carried
  carried_split a b [] = refl
  carried_split a b (f ∷ fs) = omega (arith, carried_split a b fs, inside a b f)

  placed_split : (n : ℕ) (w : Flow) → placed r n w ≡ placed p n w + placed q n w
  unfolding placed sum_links
  placed_split n w = omega (
    arith,
    sum_same n (λ c. r.held c (w.at c)) (λ c. p.held c (w.at c) + q.held c (w.at c)) (λ c below. held c (w.at c)),
    sum_plus n (λ c. p.held c (w.at c)) (λ c. q.held c (w.at c)),
    sum_same n (λ a. sum_below n (all a)) (λ a. sum_below n (one a) + sum_below n (other a))
        (λ a from. sum_same n (all a) (λ b. one a b + other a b) (λ b to. carried_split a b (way w a b))
        ∙ sum_plus n (one a) (other a)),
    sum_plus n (λ a. sum_below n (one a)) (λ a. sum_below n (other a)),
  )
    where
      all : ℕ → ℕ → ℕ
      all a b = carried r a b (way w a b)

      one : ℕ → ℕ → ℕ
      one a b = carried p a b (way w a b)

      other : ℕ → ℕ → ℕ
      other a b = carried q a b (way w a b)

-- a right is in a mission, or outside of missions
pub rights_split : (line : Line) (t n : ℕ) (w : Flow) → placed (rights line t) n w
    ≡ placed (rights_alone t) n w + placed (missions t) n w
rights_split line t = placed_split (rights line t) (rights_alone t) (missions t) (λ c k. refl) (λ a b. by_body)
  where
    by_body : (g : Body) → right_inside t g ≡ right_alone_inside t g + yield_inside t g
    by_body (Yield h u heard has_data is_ended place hand) = omega arith
    by_body g = omega arith

-- a token is in a hand, or aside
pub tokens_split : (line : Line) (t s n : ℕ) (w : Flow) → placed (tokens line t s) n w ≡ placed (hands t s) n w
    + placed (tokens_aside line t s) n w
tokens_split line t s = placed_split (tokens line t s) (hands t s) (tokens_aside line t s)
    (λ c k. omega arith) (λ a b. by_body)
  where
    by_body : (g : Body) → token_inside t s g ≡ hand_inside t s g + token_aside_inside t s g
    by_body (Yield h u heard has_data is_ended place hand) = omega arith
    by_body g = omega arith

-- the missions of a train whose hand does not have the section
abbrev pub without_inside : ℕ → ℕ → Body → ℕ
without_inside t s (Yield number u heard has_data is_ended place hand) = one_if ((u == t) && not (within hand s))
without_inside t s body = 0

abbrev pub without : ℕ → ℕ → Resource Centre Body
without t s =
    record {
      held = λ c k. one_if (is_some (k.mission t) && not (hand_has (k.mission t) s));
      inside = λ a b body. without_inside t s body;
      cap = λ c k. 0;
    }

-- a mission has the section in its hand, or not
pub missions_split : (t s n : ℕ) (w : Flow) → placed (missions t) n w ≡ placed (hands t s) n w
    + placed (without t s) n w
missions_split t s = placed_split (missions t) (hands t s) (without t s)
    (λ c k. by_mission (k.mission t)) (λ a b. by_body)
  where
    either : (a b : Bool) → one_if a ≡ one_if (a && b) + one_if (a && not b)
    either true true = refl
    either true false = refl
    either false b = refl

    by_mission : (o : Option Mission) → one_if (is_some o) ≡ one_if (hand_has o s)
        + one_if (is_some o && not (hand_has o s))
    by_mission None = refl
    by_mission (Some m) = either true (within m.hand s)

    by_body : (g : Body) → yield_inside t g ≡ hand_inside t s g + without_inside t s g
    by_body (Yield h u heard has_data is_ended place hand) = either (u == t) (within hand s)
    by_body g = omega arith

-- # The meaning of the marks of a state for the flow that it shows.

-- a section in a hand is in use at its home
pub in_use : (line : Line) (w : Flow) (t s d : ℕ) → IsFlowSound line w → is_in_hand line w s t ≡ true
    → is_home line d s ≡ true → is_used_for t ((w.at d).book s) ≡ true
in_use line w t s d sound in_hand home =
    let used = used_in_hand line w sound t s in_hand in
    subst (λ h. is_used_for t ((w.at h).book s) ≡ true) (one_home line used.0 d s used.1 home) used.2

-- a section whose token is aside is in no hand
pub in_no_hand : (line : Line) (w : Flow) (c : ℕ) (came : Resource Centre Body → ℕ) (y : Centre) (frames : ℕ
    → List Body) (new : Flow) (t s : ℕ)
    → IsFlowSound line w → IsAct line w c came y frames new
    → 0 < (tokens_aside line t s).held c (w.at c) + came (tokens_aside line t s) → is_in_hand line w s t ≡ false
in_no_hand line w c came y frames new t s sound act aside =
    ap (nat_lt 0) (let none : placed (hands t s) (centre_count line) w ≡ 0 = omega (
      arith,
      aside,
      act.had (tokens_aside line t s),
      tokens_split line t s (centre_count line) w,
      (sound.tokens t s).law,
      one_token line t s (centre_count line) w,
    ) in none)

module _ (line : Line) (w : Flow) (v : LineState) (t : ℕ) (sound : IsFlowSound line w) (sees : Shows line w v) where
  pub given_mark_of : (s : ℕ) → is_in_hand line w s t ≡ true → v.mark s ≡ line_centre.Given t
  given_mark_of s in_hand =
      let used = used_in_hand line w sound t s in_hand in sees.mark s used.0 used.1
      ∙ given_shown ((w.at used.0).book s) (is_in_hand line w s) t used.2 in_hand

  pub kept_mark_of : (s d : ℕ) → is_home line d s ≡ true → is_used_for t ((w.at d).book s) ≡ true
      → is_in_hand line w s t ≡ false → v.mark s ≡ line_centre.Kept t
  kept_mark_of s d home used in_none = sees.mark s d home
      ∙ kept_shown ((w.at d).book s) (is_in_hand line w s) t used in_none

  pub is_given : (s : ℕ) → is_given_to t (v.mark s) ≡ is_in_hand line w s t
  is_given s = same_tests _ _ (λ given. by_section (section line s) refl (given_mark t (v.mark s) given))
      (λ in_hand. ap (is_given_to t) (given_mark_of s in_hand) ∙ itself t)
    where
      by_section : (o : Option Section) → section line s ≡ o → v.mark s ≡ line_centre.Given t
          → is_in_hand line w s t ≡ true
      by_section None none given =
          absurd (let wrong : line_centre.Shut ≡ line_centre.Given t = sym (sees.no_section s none) ∙ given in cc)
      by_section (Some p) at given =
          only_given_shown ((w.at p.home).book s) (is_in_hand line w s) t
          (sym (sees.mark s p.home (ap (has (λ q. q.home == p.home)) at ∙ itself p.home)) ∙ given)

  -- a hand, by whether the one mission of the train has the section in it
  hand_given : (hand : SectionRun) → ((s : ℕ) → within hand s ≡ true → 0 < placed (hands t s) (centre_count line) w)
      → ((s : ℕ) → within hand s ≡ false → 0 < placed (without t s) (centre_count line) w) → IsHand v t hand
  hand_given hand there not_there = record { each = λ s. is_given s ∙ by_hand s (within hand s) refl }
    where
      by_hand : (s : ℕ) (b : Bool) → within hand s ≡ b → is_in_hand line w s t ≡ within hand s
      by_hand s true is = lt-ltb 0 (placed (hands t s) (centre_count line) w) (there s is) ∙ sym is
      by_hand s false is = ap (nat_lt 0) (let none : placed (hands t s) (centre_count line) w ≡ 0 = omega (
        arith,
        not_there s is,
        missions_split t s (centre_count line) w,
        few_missions line w sound t,
      ) in none) ∙ sym is

  pub hand_at_centre : (c : ℕ) (m : centre.Mission) → (w.at c).mission t ≡ Some m → IsHand v t m.hand
  hand_at_centre c m is = by_centre (is_centre line c) refl
    where
      by_centre : (b : Bool) → is_centre line c ≡ b → IsHand v t m.hand
      by_centre true at = hand_given m.hand
          (λ s has. omega (
            arith,
            held_le_placed (hands t s) (centre_count line) w c (ltb-true c (centre_count line) at),
            ap (λ (o : Option centre.Mission). one_if (hand_has o s)) is,
            one_if_true (within m.hand s) has,
          ))
          (λ s not_has. omega (
            arith,
            held_le_placed (without t s) (centre_count line) w c (ltb-true c (centre_count line) at),
            ap (λ (o : Option centre.Mission). one_if (is_some o && not (hand_has o s))) is,
            ap (λ b. one_if (not b)) not_has,
          ))
      by_centre false at =
          absurd (let wrong : ◌≡◌ {A = Option centre.Mission} None (Some m) = sym (sound.no_mission c t at) ∙ is in cc)

  pub hand_on_way : (a b number heard : ℕ) (has_data is_ended : Bool) (place : YieldedPlace) (hand : SectionRun)
      → Contains (way w a b) (Yield number t heard has_data is_ended place hand) → IsHand v t hand
  hand_on_way a b number heard has_data is_ended place hand is =
      by_centres (is_centre line a) (is_centre line b) refl refl
    where
      by_centres : (x z : Bool) → is_centre line a ≡ x → is_centre line b ≡ z → IsHand v t hand
      by_centres true true from to = hand_given hand
          (λ s has. omega (
            arith,
            held_carried_le_placed (hands t s) (centre_count line) w a a b (ltb-true a (centre_count line) from)
                (ltb-true a (centre_count line) from) (ltb-true b (centre_count line) to),
            carried_contains (hands t s) a b (way w a b) (Yield number t heard has_data is_ended place hand) is,
            ap (λ x. one_if (x && within hand s)) (itself t),
            one_if_true (within hand s) has,
          ))
          (λ s not_has. omega (
            arith,
            held_carried_le_placed (without t s) (centre_count line) w a a b (ltb-true a (centre_count line) from)
                (ltb-true a (centre_count line) from) (ltb-true b (centre_count line) to),
            carried_contains (without t s) a b (way w a b) (Yield number t heard has_data is_ended place hand) is,
            ap (λ x. one_if (x && not (within hand s))) (itself t),
            ap (λ x. one_if (not x)) not_has,
          ))
      by_centres false z from to =
          absurd (nothing_sent w a b (sound.no_sent a b (inl from))
          (Yield number t heard has_data is_ended place hand) is)
      by_centres true false from to =
          absurd (nothing_sent w a b (sound.no_sent a b (inr to))
          (Yield number t heard has_data is_ended place hand) is)
