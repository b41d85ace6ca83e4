-- The frames of an act, and the sections in hands after it.
use Rattle.std.proofs.Common.{[], ⊎_elim, ◌&&◌, ◌++◌, ◌+◌, ◌<◌, ◌==◌, ◌||◌, ◌∙◌, ◌∷◌, ◌≡◌, ◌≢◌, ◌≤◌, ap, arith, Bool}
use Rattle.std.proofs.Common.{false, if◌then◌else◌, List, ltb-true, nat_lt, None, Option, option_map, refl, Some, subst}
use Rattle.std.proofs.Common.{suc, sym, true, zero, ℕ}
use Rattle.std.proofs.lemmas.Bool.{cases_eq, cases_lt, cond-false, eqb-true, lt-ltb}
use Rattle.std.proofs.lemmas.List.Elements.{Contains-append_cases, Contains-append_right}
use Rattle.std.specs.Prelude.{Contains}
use Rattle.law_base.proofs.CountingLemmas.Network.{to_one_other, to_one_same}
use Rattle.law_base.proofs.CountingLemmas.Resource.{carried_append, carried_more, carried_none}
use Rattle.law_base.proofs.CountingLemmas.Sums.{one_if_le_one, one_if_true, sum_only, sum_zero, term_le_sum}
use Rattle.law_base.specs.Counting.Network.{to_one}
use Rattle.law_base.specs.Counting.Resource.{allowed, carried, placed, Resource, sent_by}
use Rattle.law_base.specs.Counting.Sums.{one_if, sum_below}
use Rattle.law_base.specs.Local.Local.{hand_has}
use Rattle.law_invariants.proofs.FlowLemmas.Lists.{carried_contains, itself, one_home}
use Rattle.law_invariants.proofs.FlowLemmas.Shown.{given_shown, in_hand_tokens}
use Rattle.law_invariants.specs.Flow.Counts.{hands, missions, tokens}
use Rattle.law_invariants.specs.Flow.Flow.{centre_count, Flow}
use Rattle.law_invariants.specs.Flow.Shows.{is_in_hand, parted, shown}
use Rattle.law_invariants.specs.Flow.Sound.{IsFlowSound}
use Rattle.law_refinement.specs.Abstraction.Acts.{hand_after, hand_before, IsAct, SendsNone}
use Rattle.law_refinement.specs.Abstraction.After.{handed_over, is_given, is_kept, is_opened, is_shut, MarkAfter}
use Rattle.law_refinement.specs.Abstraction.After.{MissionAfter, stays}
use Rattle.rbc_spec.proofs.Held.{contains_head}
use Rattle.rbc_spec.proofs.Lists.{put_here, put_keeps, put_other}
use Rattle.rbc_spec.specs.Acts.{returned}
use Rattle.rbc_spec.specs.Centre as centre
use Rattle.rbc_spec.specs.Centre.{Centre, Entry, is_used_for}
use Rattle.rbc_spec.specs.Frame.{Body, carried_place, RouteReturn, Yield, yielded_place}
use Rattle.rbc_spec.specs.Line.{is_centre, is_home, Line, Section, section}
use Rattle.rbc_spec.specs.LineCentre as line_centre
use Rattle.rbc_spec.specs.LineCentre.{LineMission, Mark}
use Rattle.rbc_spec.specs.Maps.{has}
use Rattle.rbc_spec.specs.Place.{Place}
use Rattle.rbc_spec.specs.SectionRuns.{is_empty, SectionRun, shared}
use Rattle.rbc_spec.specs.Sections.{home_run}

-- # The amounts in the frames of an act.

pub sends_none : (r : Resource Centre Body) (n c : ℕ) (frames : ℕ → List Body) → SendsNone r c frames
    → sent_by r n c frames ≡ 0
unfolding sent_by
sends_none r n c frames none = sum_zero n (λ d. carried r c d (frames d)) (λ d at. none d)

pub sends_some : (r : Resource Centre Body) (n c d : ℕ) (frames : ℕ → List Body) (f : Body) → d < n
    → Contains (frames d) f → r.inside c d f ≤ sent_by r n c frames
unfolding sent_by
sends_some r n c d frames f below is =
    omega (arith, term_le_sum n (λ e. carried r c e (frames e)) d below, carried_contains r c d (frames d) f is)

pub sends_both : (r : Resource Centre Body) (c : ℕ) (first second : ℕ → List Body) → SendsNone r c first
    → SendsNone r c second → SendsNone r c (λ d. first d ++ second d)
sends_both r c first second one two d = omega (arith, carried_append r c d (first d) (second d), one d, two d)

pub sends_single : (r : Resource Centre Body) (c d : ℕ) (f : Body) → r.inside c d f ≡ 0
    → SendsNone r c (to_one d (f ∷ []))
sends_single r c d f none e = ⊎_elim
    (λ (here : e ≡ d). ap (λ x. carried r c x (to_one d (f ∷ []) x)) here ∙ ap (carried r c d) (to_one_same d (f ∷ []))
    ∙ omega (arith, carried_more r c d f [], carried_none r c d, none))
    (λ (apart : e ≢ d). ap (carried r c e) (to_one_other d (f ∷ []) e apart) ∙ carried_none r c e)
    (cases_eq e d)

pub sends_home : (line : Line) (c u t s track : ℕ) (run : SectionRun) (k : Centre)
    → SendsNone (hands t s) c (returned line c u track run k).frames
    × SendsNone (missions t) c (returned line c u track run k).frames
sends_home line c u t s track run k = (home (hands t s) (λ d part. refl), home (missions t) (λ d part. refl))
  where
    by_test : (r : Resource Centre Body) (d : ℕ) (part : SectionRun) (b : Bool) → r.inside c d (RouteReturn u part) ≡ 0
        → carried r c d (if b then [] else RouteReturn u part ∷ []) ≡ 0
    by_test r d part true none = carried_none r c d
    by_test r d part false none = omega (arith, carried_more r c d (RouteReturn u part) [], carried_none r c d, none)

    home : (r : Resource Centre Body) → ((d : ℕ) (part : SectionRun) → r.inside c d (RouteReturn u part) ≡ 0)
        → SendsNone r c (returned line c u track run k).frames
    home r none d = by_test r d (shared run (home_run line d track)) ((d == c)
        || is_empty (shared run (home_run line d track))) (none d (shared run (home_run line d track)))

-- ## A Yield

-- the mission that a body hands over
abbrev parted_of : Body → Option LineMission
parted_of (Yield number t heard has_data is_ended place hand) =
    option_map (parted heard has_data is_ended) (carried_place place)
parted_of body = None

only_of : (f g : Body) → Contains (f ∷ []) g → f ≡ g
only_of f g (zero, low, is) = is
only_of f g (suc k, low, is) = absurd (let no : ⊥ = omega (arith, low) in no)

none_contained : (f : Body) → Contains [] f → ⊥
none_contained f is = omega (arith, is.1)

pub yield_hands_over : (line : Line) (w : Flow) (c : ℕ) (came : Resource Centre Body → ℕ) (y : Centre) (others : ℕ
    → List Body) (d number t heard : ℕ) (has_data is_ended : Bool)
    (place : Place) (hand : SectionRun) (m : centre.Mission) (old : Option LineMission) → is_centre line d ≡ true
    → (w.at c).mission t ≡ Some m → y.mission t ≡ None → SendsNone (missions t) c others
    → MissionAfter line w c came y (λ e. others e
    ++ to_one d (Yield number t heard has_data is_ended (yielded_place place) hand ∷ []) e) t old
    (Some (parted heard has_data is_ended place))
yield_hands_over line w c came y others d number t heard has_data is_ended place hand m old to had gone none =
    handed_over m had gone
    (omega (
      arith,
      sends_some (missions t) (centre_count line) c d frames it (ltb-true d (centre_count line) to)
          (Contains-append_right (others d) (to_one d (it ∷ []) d) it there),
      one_if_true (t == t) (itself t),
    ))
    (λ b number' heard' has_data' is_ended' place' hand' is. ⊎_elim
    (λ (other : Contains (others b) (Yield number' t heard' has_data' is_ended' (yielded_place place') hand')).
    absurd (let no : ⊥ = omega
    (arith, carried_contains (missions t) c b (others b) _ other, none b, one_if_true (t == t) (itself t)) in no))
    (λ (sent : Contains (to_one d (it ∷ []) b)
    (Yield number' t heard' has_data' is_ended' (yielded_place place') hand')). ⊎_elim
    (λ (here : b ≡ d). ap parted_of
    (only_of it (Yield number' t heard' has_data' is_ended' (yielded_place place') hand')
    (subst (λ fs. Contains fs (Yield number' t heard' has_data' is_ended' (yielded_place place') hand'))
    (ap (to_one d (it ∷ [])) here ∙ to_one_same d (it ∷ [])) sent)))
    (λ (apart : b ≢ d).
    absurd (none_contained _
    (subst (λ fs. Contains fs (Yield number' t heard' has_data' is_ended' (yielded_place place') hand'))
    (to_one_other d (it ∷ []) b apart) sent)))
    (cases_eq b d))
    (Contains-append_cases (others b) (to_one d (it ∷ []) b)
    (Yield number' t heard' has_data' is_ended' (yielded_place place') hand') is))
  where
    it : Body
    it = Yield number t heard has_data is_ended (yielded_place place) hand

    frames : ℕ → List Body
    frames e = others e ++ to_one d (it ∷ []) e

    there : Contains (to_one d (it ∷ []) d) it
    there = subst (λ fs. Contains fs it) (sym (to_one_same d (it ∷ []))) (contains_head it [])

-- # Sections in hands after an act, and their marks.

-- ## A token of each section at most

one_home_counts : (line : Line) (s n : ℕ) (test : ℕ → Bool) → sum_below n (λ c. one_if (is_home line c s && test c)) ≤ 1
one_home_counts line s n test = by_section (section line s) refl
  where
    away : (h c : ℕ) (b : Bool) → is_home line c s ≡ b → is_home line h s ≡ true → c ≢ h
        → one_if (is_home line c s && test c) ≡ 0
    away h c true is home apart = absurd (apart (one_home line c h s is home))
    away h c false is home apart = ap (λ b. one_if (b && test c)) is

    by_section : (o : Option Section) → section line s ≡ o → sum_below n (λ c. one_if (is_home line c s && test c)) ≤ 1
    by_section None is =
        omega (
          arith,
          sum_zero n (λ c. one_if (is_home line c s && test c))
              (λ c at. ap (λ o. one_if (has (λ p. p.home == c) o && test c)) is),
        )
    by_section (Some p) is = ⊎_elim
        (λ (at : p.home < n). omega (
          arith,
          sum_only n (λ c. one_if (is_home line c s && test c)) p.home at
              (λ c below apart. away p.home c (is_home line c s) refl home apart),
          one_if_le_one (is_home line p.home s && test p.home),
        ))
        (λ (past : n ≤ p.home).
        omega (
          arith,
          sum_zero n (λ c. one_if (is_home line c s && test c))
              (λ c below. away p.home c (is_home line c s) refl home (λ e. let no : ⊥ = omega (arith, e) in no)),
        ))
        (cases_lt p.home n)
      where
        home : is_home line p.home s ≡ true
        home = ap (has (λ q. q.home == p.home)) is ∙ itself p.home

pub one_token : (line : Line) (t s n : ℕ) (w : Flow) → allowed (tokens line t s) n w ≤ 1
unfolding allowed
one_token line t s n w = one_home_counts line s n (λ c. is_used_for t ((w.at c).book s))

-- ## In hands

module _ (line : Line) (w : Flow) (c : ℕ) (came : Resource Centre Body → ℕ) (y : Centre) (frames : ℕ → List Body)
    (new : Flow) (t s : ℕ) (act : IsAct line w c came y frames new) where
  pub counted : placed (hands t s) (centre_count line) new + hand_before t s (w.at c) came
      ≡ placed (hands t s) (centre_count line) w + hand_after line c t s y frames
  counted = act.changes (hands t s)

  pub same : hand_after line c t s y frames ≡ hand_before t s (w.at c) came
      → is_in_hand line new s t ≡ is_in_hand line w s t
  same as_before = ap (nat_lt 0) (omega (arith, counted, as_before))

  pub unchanged : hand_has (y.mission t) s ≡ hand_has ((w.at c).mission t) s → came (hands t s) ≡ 0
      → SendsNone (hands t s) c frames → is_in_hand line new s t ≡ is_in_hand line w s t
  unchanged hand none sends =
      same (omega (arith, ap one_if hand, none, sends_none (hands t s) (centre_count line) c frames sends))

  pub was : 0 < hand_before t s (w.at c) came → is_in_hand line w s t ≡ true
  was had = lt-ltb 0 (placed (hands t s) (centre_count line) w) (omega (arith, had, act.had (hands t s)))

  pub given : 0 < hand_after line c t s y frames → is_in_hand line new s t ≡ true
  given has = lt-ltb 0 (placed (hands t s) (centre_count line) new) (omega (arith, has, counted, act.had (hands t s)))

  pub left : IsFlowSound line w → 0 < hand_before t s (w.at c) came → hand_after line c t s y frames ≡ 0
      → is_in_hand line new s t ≡ false
  left sound had gone = ap (nat_lt 0) (let none : placed (hands t s) (centre_count line) new ≡ 0 = omega (
    arith,
    had,
    gone,
    counted,
    in_hand_tokens line w t s,
    (sound.tokens t s).law,
    one_token line t s (centre_count line) w,
  ) in none)

-- ## Marks

-- the mark of an entry depends only on the hand of the train for which it is in use
shown_as : (e : Entry) (g h : ℕ → Bool) → ((t : ℕ) → is_used_for t e ≡ true → h t ≡ g t) → shown e g ≡ shown e h
shown_as centre.Shut g h same = refl
shown_as centre.Open g h same = refl
shown_as (centre.Taken t) g h same = ap (λ b. if b then line_centre.Given t else line_centre.Kept t)
    (sym (same t (itself t)))
shown_as (centre.Out t) g h same = ap (λ b. if b then line_centre.Given t else line_centre.Kept t)
    (sym (same t (itself t)))

pub kept_shown : (e : Entry) (g : ℕ → Bool) (t : ℕ) → is_used_for t e ≡ true → g t ≡ false
    → shown e g ≡ line_centre.Kept t
kept_shown centre.Shut g t used is = cc
kept_shown centre.Open g t used is = cc
kept_shown (centre.Taken u) g t used is =
    let same = eqb-true u t used in cond-false (g u) (line_centre.Given u) (line_centre.Kept u) (ap g same ∙ is)
    ∙ ap (λ x. line_centre.Kept x) same
kept_shown (centre.Out u) g t used is =
    let same = eqb-true u t used in cond-false (g u) (line_centre.Given u) (line_centre.Kept u) (ap g same ∙ is)
    ∙ ap (λ x. line_centre.Kept x) same

pub mark_shown : (line : Line) (w new : Flow) (s d : ℕ) (old mark : Mark) → MarkAfter line w new s d old mark
    → old ≡ shown ((w.at d).book s) (is_in_hand line w s) → mark ≡ shown ((new.at d).book s) (is_in_hand line new s)
mark_shown line w new s d old mark (stays as_old book hand) before =
    as_old ∙ before ∙ shown_as ((w.at d).book s) (is_in_hand line w s) (is_in_hand line new s) hand
    ∙ ap (λ (e : Entry). shown e (is_in_hand line new s)) (sym book)
mark_shown line w new s d old mark (is_given t is used hand) before = is
    ∙ sym (given_shown ((new.at d).book s) (is_in_hand line new s) t used hand)
mark_shown line w new s d old mark (is_kept t is used hand) before = is
    ∙ sym (kept_shown ((new.at d).book s) (is_in_hand line new s) t used hand)
mark_shown line w new s d old mark (is_opened is book) before = is
    ∙ sym (ap (λ (e : Entry). shown e (is_in_hand line new s)) book)
mark_shown line w new s d old mark (is_shut is book) before = is
    ∙ sym (ap (λ (e : Entry). shown e (is_in_hand line new s)) book)

-- the states after an act
pub state_here : (line : Line) (w : Flow) (c : ℕ) (came : Resource Centre Body → ℕ) (y : Centre) (frames : ℕ
    → List Body) (new : Flow) → IsAct line w c came y frames new → new.at c ≡ y
state_here line w c came y frames new act = ap (λ (g : ℕ → Centre). g c) act.at ∙ put_here w.at c c y refl

pub state_elsewhere : (line : Line) (w : Flow) (c : ℕ) (came : Resource Centre Body → ℕ) (y : Centre) (frames : ℕ
    → List Body) (new : Flow) (d : ℕ) → IsAct line w c came y frames new
    → d ≢ c → new.at d ≡ w.at d
state_elsewhere line w c came y frames new d act apart = ap (λ (g : ℕ → Centre). g d) act.at
    ∙ put_other w.at c d y apart

pub mark_stays : (line : Line) (w : Flow) (c : ℕ) (came : Resource Centre Body → ℕ) (y : Centre) (frames : ℕ
    → List Body) (new : Flow) (s d : ℕ) (old : Mark)
    → IsAct line w c came y frames new → y.book s ≡ (w.at c).book s
    → ((t : ℕ) → is_used_for t ((w.at d).book s) ≡ true
    → hand_after line c t s y frames ≡ hand_before t s (w.at c) came) → MarkAfter line w new s d old old
mark_stays line w c came y frames new s d old act book hand =
    stays refl (ap (λ (g : ℕ → Centre). (g d).book s) act.at ∙ put_keeps (λ (z : Centre). z.book s) w.at c y book d)
    (λ t used. same line w c came y frames new t s act (hand t used))
