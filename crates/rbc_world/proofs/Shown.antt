-- The view of a world.
use Rattle.std.proofs.Common.{[], ◌++◌, ◌+◌, ◌-◌, ◌==◌, ◌∙◌, ◌∷◌, ◌≡◌, ◌≤◌, ap, arith, eqb-true, false, is_some, length}
use Rattle.std.proofs.Common.{length-append, List, None, Option, option_map, refl, slice_get, Some, subst, suc, sym}
use Rattle.std.proofs.Common.{true, zero, ℕ}
use Rattle.std.proofs.lemmas.Bool.Decides.{nat_tests}
use Rattle.std.proofs.lemmas.List.Quantifiers.{position-Some}
use Rattle.std.proofs.lemmas.Option.{get_or_from_slice_get, slice_get_past}
use Rattle.std.specs.List.{filter_map, flat_map}
use Rattle.std.specs.Option.{IfSome, option_map_or, option_or}
use Rattle.law_reached.specs.Seen.{AreMissionsSeen, yielded_on_way}
use Rattle.rbc_centre.specs.declared.centre.Centre.{Centre}
use Rattle.rbc_centre.specs.States as one
use Rattle.rbc_centre.specs.Views.{frame_number}
use Rattle.rbc_line.specs.SectionRuns.{run_of}
use Rattle.rbc_spec.specs.Centre as centre
use Rattle.rbc_spec.specs.Centre.{Mission}
use Rattle.rbc_spec.specs.Frame.{Frame}
use Rattle.rbc_spec.specs.Line.{Line, Section, Train, train_number}
use Rattle.rbc_spec.specs.LineCentre.{IsHand}
use Rattle.rbc_spec.specs.Maps.{has}
use Rattle.rbc_spec.specs.ReadOff.{centres_of, frames_on_way, handed_over, Held, held, held_at, read_off, seen}
use Rattle.rbc_spec.specs.World.{frame_sent, way, World}
use Rattle.rbc_world.proofs.Centres.{centre_at}
use Rattle.rbc_world.proofs.Firsts.{first_of_two, in_lists}
use Rattle.rbc_world.proofs.Known.{none_at}
use Rattle.rbc_world.specs.declared.view.MissionView.{MissionView}
use Rattle.rbc_world.specs.declared.view.TrainView.{TrainView}
use Rattle.rbc_world.specs.Missions.{carried_from, first_given, held_by_a_centre}
use Rattle.rbc_world.specs.States.{stands_for}
use Rattle.rbc_world.specs.View.{AreTrainsSeen, EachOf, held_shown, mission_shown, ShowsTrain}

-- ## The values that are read at a centre

module _ (line : Line) (cs : List Centre) (trains : List ℕ) (c : ℕ) where
  pub seen_at : {X : Type 0} (part : centre.Centre → X) (k : Centre) → slice_get cs c ≡ Some k
      → part (one.state_of k) ≡ part ((stands_for line cs trains).at c)
  unfolding stands_for
  seen_at part k at = ap part (sym (centre_at line cs c k at))

  pub seen_past : {X : Type 0} (part : centre.Centre → X) → length cs ≤ c
      → part (centre.beginning line c) ≡ part ((stands_for line cs trains).at c)
  unfolding stands_for
  seen_past part past =
      ap (λ (o : Option Centre). part (option_map_or one.state_of o (centre.beginning line c)))
      (sym (slice_get_past cs c past))

  pub shut_past : (s : ℕ) → length cs ≤ c → centre.Shut ≡ ((stands_for line cs trains).at c).book s
  unfolding centre.beginning
  shut_past s past = seen_past (λ k. k.book s) past

  pub unwished_past : (s : ℕ) → length cs ≤ c → false ≡ ((stands_for line cs trains).at c).wish s
  unfolding centre.beginning
  unwished_past s past = seen_past (λ k. k.wish s) past

  pub unsent_past : (to number : ℕ) → length cs ≤ c → None ≡ frame_sent (stands_for line cs trains) c to number
  unfolding centre.beginning
  unsent_past to number past = none_at number ∙ seen_past (λ k. frame_number (k.sent to) number) past

-- ## The home of a section

pub has_home : (o : Option Section) (home : ℕ) → option_map (λ p. p.home) o ≡ Some home
    → has (λ p. p.home == home) o ≡ true
has_home (Some p) home e = let same : p.home ≡ home = cc in grind (arith, nat_tests)
has_home None home e = cc

pub no_section : (o : Option Section) → option_map (λ p. p.home) o ≡ None → o ≡ None
no_section (Some p) e = cc
no_section None e = refl

-- ## The mission of a train

-- the mission of centre c, with its hand
abbrev pub held_by : ℕ → Mission → Held
held_by c m = record { mission = seen c m; hand = m.hand }

-- the mission is found at the centres, or else on the way
pub held_is : (line : Line) (w : World) (t : ℕ)
    → held line w t ≡ option_or (held_by_a_centre line w t) (yielded_on_way line w t)
held_is line w t =
    first_of_two (filter_map (held_at w t) (centres_of line))
    (filter_map (λ (f : Frame). handed_over t f.body) (frames_on_way line w))

-- on the way it is found from one centre after another
pub on_way_is : (line : Line) (w : World) (t : ℕ)
    → yielded_on_way line w t ≡ first_given (carried_from line w t) (centres_of line)
on_way_is line w t =
    in_lists (λ (f : Frame). handed_over t f.body) (λ a. flat_map (λ b. way w a b) (centres_of line)) (centres_of line)
    ∙ (λ i. first_given (λ a. in_lists (λ (f : Frame). handed_over t f.body) (way w a) (centres_of line) i)
    (centres_of line))

-- a frame has the number after the count of those before it
pub next_number : (frames : List Frame) (i : ℕ) → frame_number frames (i + 1) ≡ slice_get frames i
next_number frames i =
    let some : ((i + 1) == 0) ≡ false = grind (arith, nat_tests) in let back : (i + 1) - 1 ≡ i = omega arith in
    rw some (ap (slice_get frames) back)

module _ (line : Line) (w : World) (t : ℕ) (missions : AreMissionsSeen line w) where
  -- a mission shown as it is held is the one that is read off
  mission_is : (shown : Option MissionView) → option_map held_shown shown ≡ held line w t
      → option_map mission_shown shown ≡ (read_off line w).mission t
  mission_is (Some m) is = ap (option_map (λ (h : Held). h.mission)) is ∙ sym (missions.mission t)
  mission_is None is = ap (option_map (λ (h : Held). h.mission)) is ∙ sym (missions.mission t)

  -- the hand of a shown mission has the sections that are given to the train
  hand_is : (shown : Option MissionView) → option_map held_shown shown ≡ held line w t
      → IfSome shown (λ m. IsHand (read_off line w) t (run_of m.hand))
  hand_is (Some m) is = missions.hand t (held_shown m) (sym is)
  hand_is None is = tt

  -- a foreign engine has none
  pub none_held : train_number line t ≡ None → held line w t ≡ None
  none_held foreign = by_held (held line w t) refl
    where
      by_held : (o : Option Held) → held line w t ≡ o → held line w t ≡ None
      by_held None is = is
      by_held (Some h) is = absurd (let wrong : false ≡ true = sym (ap is_some foreign) ∙ missions.known t h is in cc)

-- ## The trains of the line

no_train : Train
no_train = record { nid_engine = 0; registrar = 0 }

-- the train at the place that has its number is that train
pub engine_at : (line : Line) (t i e : ℕ) → train_number line t ≡ Some i
    → option_map (λ p. p.nid_engine) (slice_get line.trains i) ≡ Some e → e ≡ t
engine_at line t i e number is = by_train (slice_get line.trains i) refl is
  where
    by_train : (o : Option Train) → slice_get line.trains i ≡ o → option_map (λ p. p.nid_engine) o ≡ Some e → e ≡ t
    by_train None at same = cc
    by_train (Some q) at same =
        let passes : (q.nid_engine == t) ≡ true =
        ap (λ (p : Train). p.nid_engine == t) (sym (get_or_from_slice_get line.trains i q no_train at))
        ∙ (position-Some (λ (p : Train). p.nid_engine == t) line.trains i no_train number).1 in
        let is_e : q.nid_engine ≡ e = cc in
        sym is_e ∙ eqb-true q.nid_engine t passes

-- each is shown as it is seen
pub trains_shown : (line : Line) (w : World) → AreMissionsSeen line w → (trains : List TrainView)
    → AreTrainsSeen line w trains → EachOf (λ i p. ShowsTrain line (read_off line w) i p) (length line.trains) trains
trains_shown line w missions trains seen = record {
  count = seen.count;
  each = λ i p at. let it = seen.each i p at in
      record {
        engine = it.engine;
        sessions = it.sessions;
        mission = mission_is line w p.nid_engine missions p.mission it.mission;
        hand = hand_is line w p.nid_engine missions p.mission it.mission;
      };
}

-- ## Lists in a view

placed : {X : Type 0} (P : ℕ → X → Type 0) (xs : List X) (x : X) → ((i : ℕ) (y : X) → slice_get xs i ≡ Some y → P i y)
    → P (length xs) x → (i : ℕ) (y : X) → slice_get (xs ++ x ∷ []) i ≡ Some y → P i y
placed P [] x each p zero y at = let is : x ≡ y = cc in subst (P 0) is p
placed P [] x each p (suc i) y at = cc
placed P (z ∷ zs) x each p zero y at = each zero y at
placed P (z ∷ zs) x each p (suc i) y at = placed (λ j. P (suc j)) zs x (λ j w h. each (suc j) w h) p i y at

pub one_more_of : {X : Type 0} (P : ℕ → X → Type 0) (n : ℕ) (xs ys : List X) (x : X) → EachOf P n xs → P n x
    → ys ≡ xs ++ x ∷ [] → EachOf P (n + 1) ys
one_more_of P n xs ys x so_far p e = record {
  count = ap length e ∙ length-append xs (x ∷ []) ∙ ap (λ k. k + 1) so_far.count;
  each =
      λ i y at. placed P xs x so_far.each (subst (λ k. P k x) (sym so_far.count) p) i y
      (sym (ap (λ (zs : List _). slice_get zs i) e) ∙ at);
}
