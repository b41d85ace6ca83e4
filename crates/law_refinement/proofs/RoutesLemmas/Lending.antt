-- Sections that are lent over a border are kept for the train.
use Rattle.std.proofs.Common.{⊎_elim, ◌&&◌, ◌+◌, ◌<◌, ◌==◌, ◌∙◌, ◌≡◌, ◌≢◌, ◌≤◌, ap, arith, Bool, eq-eqb, eqb-true}
use Rattle.std.proofs.Common.{false, if◌then◌else◌, is_some, List, map, None, Option, refl, subst, suc, sym, true, zero}
use Rattle.std.proofs.Common.{ℕ}
use Rattle.std.proofs.lemmas.Bool.{and_from, and_parts, cases_eq, false_from_ne_true}
use Rattle.std.specs.List.{list_all, range_with_len}
use Rattle.law_base.specs.Counting.Network.{acted, TakesHead, took}
use Rattle.law_invariants.proofs.SoundLemmas.Routes.{asked_route}
use Rattle.law_invariants.specs.Flow.Counts.{hands, missions}
use Rattle.law_invariants.specs.Flow.Flow.{centre_count, Flow, took_frame}
use Rattle.law_invariants.specs.Flow.Keeping.{came_with}
use Rattle.law_invariants.specs.Flow.Leads.{Leads, replied}
use Rattle.law_invariants.specs.Flow.Shows.{is_in_hand, shown, Shows}
use Rattle.law_invariants.specs.Flow.Sound.{IsFlowSound}
use Rattle.law_refinement.proofs.AbstractionLemmas.Hands.{mark_stays, sends_none, sends_single, unchanged}
use Rattle.law_refinement.proofs.AbstractionLemmas.Marks.{in_use}
use Rattle.law_refinement.proofs.AbstractionLemmas.Shows.{at_head, entry_here, part_stays, shows_after}
use Rattle.law_refinement.proofs.RoutesLemmas.Bodies.{act_keeps, IsAside, leads_if, of_train_leads, received_keeps}
use Rattle.law_refinement.proofs.RoutesLemmas.Bodies.{sound_here, trained}
use Rattle.law_refinement.proofs.RoutesLemmas.Rights.{resting}
use Rattle.law_refinement.specs.Abstraction.Acts.{IsAct, SendsNone}
use Rattle.law_refinement.specs.Abstraction.After.{MarkAfter}
use Rattle.law_refinement.specs.Abstraction.After.MarkAfter.{is_kept}
use Rattle.law_refinement.specs.Abstraction.After.MissionAfter.{stays}
use Rattle.rbc_spec.proofs.Lists.{itself, put_other}
use Rattle.rbc_spec.proofs.Runs.{longest_is, same_tests, within_from, within_none, within_true}
use Rattle.rbc_spec.specs.Acts.{◌>>◌, booked, Reply, rest, send}
use Rattle.rbc_spec.specs.Centre as centre
use Rattle.rbc_spec.specs.Centre.{Centre, Entry, is_free, is_open, is_used_for, Phase}
use Rattle.rbc_spec.specs.Frame.{Body, RouteAsk, RouteInfo}
use Rattle.rbc_spec.specs.Line.{is_centre, is_home, IsLine, Line, section}
use Rattle.rbc_spec.specs.LineCentre as line_centre
use Rattle.rbc_spec.specs.LineCentre.{LineState, mark_all, nothing}
use Rattle.rbc_spec.specs.Links.{lendable, received, route_asked}
use Rattle.rbc_spec.specs.Maps.{has, put}
use Rattle.rbc_spec.specs.Place.{Place}
use Rattle.rbc_spec.specs.Quiet.{is_of_centre, Keep, TakesAll}
use Rattle.rbc_spec.specs.SectionRuns.{SectionRun, within}
use Rattle.rbc_spec.specs.Sections.{is_on}

asks : (t first most : ℕ) → IsAside (RouteAsk t first most)
asks t first most = record { follows = λ u n. refl; mission = λ a c u. refl; hand = λ a c u s. refl }

-- ## Open sections are kept, in order

module _ (line : Line) (t : ℕ) where
  abbrev kept : ℕ → ℕ → LineState → LineState
  kept first n u = mark_all (within (record { first = first; count = n })) (line_centre.Kept t) u

  abbrev one_kept : ℕ → LineState → LineState
  one_kept s u = record u { mark = put u.mark s (line_centre.Kept t) }

  -- the first section is kept, and then the others
  kept_then : (first n : ℕ) (u : LineState) → kept (first + 1) n (one_kept first u) ≡ kept first (suc n) u
  kept_then first n u = λ i. record u { mark = λ s. marks s i }
    where
      marks : (s : ℕ)
          → (if within (record { first = first + 1; count = n }) s then line_centre.Kept t else
          (if s == first then line_centre.Kept t else u.mark s))
          ≡ (if within (record { first = first; count = suc n }) s then line_centre.Kept t else u.mark s)
      marks s = ⊎_elim
          (λ (here : s ≡ first). by_first (within (record { first = first + 1; count = n }) s)
          (s == first) (eq-eqb s first here)
          ∙ ap (λ b. if b then line_centre.Kept t else u.mark s)
          (sym (within_from (record { first = first; count = suc n }) s
          (omega (arith, here)) (omega (arith, here)))))
          (λ (other : s ≢ first).
          ap (λ b. if within (record { first = first + 1; count = n }) s then line_centre.Kept t else
          (if b then line_centre.Kept t else u.mark s))
          (false_from_ne_true (s == first) (λ is. other (eqb-true s first is)))
          ∙ ap (λ b. if b then line_centre.Kept t else u.mark s)
          (same_tests (within (record { first = first + 1; count = n }) s)
          (within (record { first = first; count = suc n }) s)
          (λ is. let ends = within_true (record { first = first + 1; count = n }) s is in
          within_from (record { first = first; count = suc n }) s (omega (arith, ends.0)) (omega (arith, ends.1)))
          (λ is. let ends = within_true (record { first = first; count = suc n }) s is in
          within_from (record { first = first + 1; count = n }) s (omega (arith, ends.0, other))
          (omega (arith, ends.1)))))
          (cases_eq s first)
        where
          by_first : (b x : Bool) → x ≡ true
              → (if b then line_centre.Kept t else (if x then line_centre.Kept t else u.mark s)) ≡ line_centre.Kept t
          by_first true x is = refl
          by_first false true is = refl
          by_first false false is = cc

  pub keep_all : (n first : ℕ) (u : LineState) → ((s : ℕ) → first ≤ s → s < first + n → u.mark s ≡ line_centre.Open)
      → TakesAll line u (map (λ s. Keep t s) (range_with_len first n)) nothing
      (mark_all (within (record { first = first; count = n })) (line_centre.Kept t) u)
  keep_all zero first u all_open = (refl, λ i. record u { mark = λ s. none s i })
    where
      none : (s : ℕ) → (if within (record { first = first; count = 0 }) s then line_centre.Kept t else u.mark s)
          ≡ u.mark s
      none s = ap (λ b. if b then line_centre.Kept t else u.mark s)
          (within_none (record { first = first; count = 0 }) s refl)
  keep_all (suc n) first u all_open = (
    nothing,
    nothing,
    one_kept first u,
    record { is_open = all_open first (omega arith) (omega arith); leaves = record { said_is = refl; new_is = refl } },
    subst (λ (x : LineState). TakesAll line (one_kept first u) (map (λ s. Keep t s) (range_with_len (first + 1) n))
        nothing x) (kept_then first n u)
        (keep_all n (first + 1) (one_kept first u)
        (λ s low high. put_other u.mark first s (line_centre.Kept t) (λ same. omega (arith, low, same))
        ∙ all_open s (omega (arith, low)) (omega (arith, high)))),
    refl,
  )

  pub keep_own : (c n first : ℕ) → ((s : ℕ) → first ≤ s → s < first + n → is_home line c s ≡ true)
      → list_all (is_of_centre line c) (map (λ s. Keep t s) (range_with_len first n)) ≡ true
  keep_own c zero first home = refl
  keep_own c (suc n) first home =
      and_from (is_home line c first)
      (list_all (is_of_centre line c) (map (λ s. Keep t s) (range_with_len (first + 1) n)))
      (home first (omega arith) (omega arith))
      (keep_own c n (first + 1) (λ s low high. home s (omega (arith, low)) (omega (arith, high))))

-- an open section is shown open, and is in no use
open_shown : (e : Entry) (given : ℕ → Bool) → is_open e ≡ true → shown e given ≡ line_centre.Open
open_shown centre.Shut given is = cc
open_shown centre.Open given is = refl
open_shown (centre.Taken t) given is = cc
open_shown (centre.Out t) given is = cc

open_unused : (t : ℕ) (e : Entry) → is_open e ≡ true → is_used_for t e ≡ true → ⊥
open_unused t centre.Shut is used = cc
open_unused t centre.Open is used = cc
open_unused t (centre.Taken u) is used = cc
open_unused t (centre.Out u) is used = cc

module _ (line : Line) (ok : IsLine line) (w : Flow) (sound : IsFlowSound line w) (v : LineState)
    (sees : Shows line w v) (a c number : ℕ) (from : is_centre line a ≡ true) (to : is_centre line c ≡ true)
    (t first most : ℕ) (head : TakesHead w a c (RouteAsk t first most)) where
  abbrev k : Centre
  k = took_frame a number (w.at c)

  abbrev r : SectionRun
  r = lendable line c (took_frame a number (w.at c)) first most

  -- each section of the run is of home, and open
  lends : (s : ℕ) → within r s ≡ true → (is_home line c s ≡ true) × (is_open ((w.at c).book s) ≡ true)
  lends s is = and_parts (is_home line c s) (is_open ((w.at c).book s))
      (and_parts (is_free line c k s) _
      ((longest_is (λ e. is_free line c k e && has (λ p. is_on line p.track e) (section line first))
      first most).each s is)).0

  abbrev lending : Reply
  lending = (booked is_open (centre.Out t) r >> send a (RouteInfo t r)) k

  abbrev y : Centre
  y = record k { book = λ s. if within r s && is_open ((w.at c).book s) then centre.Out t else (w.at c).book s }

  abbrev frames : ℕ → List Body
  frames = (send a (RouteInfo t r) k).frames

  abbrev new : Flow
  new = acted (took w a c) c y frames

  abbrev after : LineState
  after = mark_all (within r) (line_centre.Kept t) v

  act : IsAct line w c (came_with a c (RouteAsk t first most)) y frames (acted (took w a c) c y frames)
  act = at_head line w a c (RouteAsk t first most) y frames sound.counted from to head

  no_mission : (u : ℕ) → SendsNone (missions u) c frames
  no_mission u = sends_single (missions u) c a (RouteInfo t r) refl

  no_hand : (u s : ℕ) → SendsNone (hands u s) c frames
  no_hand u s = sends_single (hands u s) c a (RouteInfo t r) refl

  in_no_hand : (s : ℕ) → within r s ≡ true → is_in_hand line new s t ≡ false
  in_no_hand s is = unchanged line w c (came_with a c (RouteAsk t first most)) y frames new t s
      act refl refl (no_hand t s)
      ∙ false_from_ne_true (is_in_hand line w s t) (λ in_hand. let lent = lends s is in
      open_unused t ((w.at c).book s) lent.1 (in_use line w t s c sound in_hand lent.0))

  marks : (s d : ℕ) → is_home line d s ≡ true → (b : Bool) → within r s ≡ b
      → MarkAfter line w new s d (v.mark s) (if b then line_centre.Kept t else v.mark s)
  marks s d home true is = let lent = lends s is in
      is_kept t refl
      (ap (is_used_for t) (entry_here line w c (came_with a c (RouteAsk t first most)) y
      frames new s d act home lent.0
      ∙ ap (λ b. if b then centre.Out t else (w.at c).book s)
      (and_from (within r s) (is_open ((w.at c).book s)) is lent.1)) ∙ itself t) (in_no_hand s is)
  marks s d home false is = mark_stays line w c (came_with a c (RouteAsk t first most)) y frames new s d (v.mark s) act
      (ap (λ b. if b && is_open ((w.at c).book s) then centre.Out t else (w.at c).book s) is)
      (λ u used. omega (arith, sends_none (hands u s) (centre_count line) c frames (no_hand u s)))

  none_there : (s : ℕ) → section line s ≡ None → within r s ≡ false
  none_there s none = false_from_ne_true (within r s) (λ is. let wrong : false
      ≡ true = sym (ap (has (λ p. p.home == c)) none) ∙ (lends s is).0 in cc)

  shows : Shows line (acted (took w a c) c y frames) (mark_all (within r) (line_centre.Kept t) v)
  shows = shows_after line w c (came_with a c (RouteAsk t first most)) y frames new v after sound sees to act (record {
    phase = part_stays Phase c v.phase y.phase (λ u. sees.phase u c);
    heard = part_stays (Option ℕ) c v.heard y.heard (λ u. sees.heard u c);
    said = part_stays ℕ c v.said y.said (λ u. sees.said u c);
    wait = part_stays (Option Place) c v.wait y.wait (λ u. sees.wait u c);
    wish = λ s home. sees.wish s c home;
    other_wish = λ s away. refl;
    mark = λ s d home. marks s d home (within r s) refl;
    no_section = λ s none. ap (λ b. if b then line_centre.Kept t else v.mark s) (none_there s none);
    mission = λ u. stays refl refl refl (no_mission u);
  })

  lending_leads : IsFlowSound line (replied (took w a c) c lending) → Leads line (took w a c) c lending v
  unfolding ◌>>◌
  lending_leads keeps = record {
    quiets = map (λ s. Keep t s) (range_with_len r.first r.count);
    new = after;
    takes = keep_all line t r.count r.first v (λ s low high. let lent = lends s (within_from r s low high) in
        sees.mark s c lent.0 ∙ open_shown ((w.at c).book s) (is_in_hand line w s) lent.1);
    own_centre = keep_own line t c r.count r.first (λ s low high. (lends s (within_from r s low high)).0);
    shows = shows;
    sound = keeps;
  }

  pub lent_leads : Leads line (took w a c) c
      (received line c a (RouteAsk t first most) (took_frame a number (w.at c))) v
  lent_leads = of_train_leads line ok w sound a c number from to (RouteAsk t first most) head (asks t first most) v sees
      t (route_asked line c a t first most)
      (λ known. leads_if line (took w a c) c v (is_some (section line first)) lending (rest k)
      (act_keeps line ok w sound a c number from to (RouteAsk t first most) head t
      (route_asked line c a t first most) known
      (received_keeps line ok w sound a c number from to (RouteAsk t first most) head (record {})
      (trained line ok w sound a c number from to (RouteAsk t first most) head t (route_asked line c a t first most)
      (λ so. asked_route line ok c a from t first most k
      (sound_here line ok w sound a c number from to (RouteAsk t first most) head)))))
      (λ there keeps. lending_leads keeps)
      (λ none keeps. resting line ok w sound v sees a c number from to (RouteAsk t first most) head (asks t first most)
      k keeps refl refl refl refl refl refl refl))
