-- Ends of missions at standstill, computed: the views, and the sections that may leave the hand.
use Rattle.std.proofs.Common.{◌*◌, ◌<◌, ◌∙◌, ◌≡◌, ◌≤◌, ◌⊎◌, ap, arith, false, inl, inr, None, Option, option_map, pos}
use Rattle.std.proofs.Common.{refl, Some, subst, suc, sym, true, true≢false, zero, ℕ}
use Rattle.std.proofs.lemmas.Option.{same_Some}
use Rattle.std.specs.Prelude.{is_some}
use Rattle.rbc_spec.proofs.Runs.{within_true}
use Rattle.rbc_spec.specs.Acts.{◌>>◌}
use Rattle.rbc_spec.specs.Centre.{beginning, Mission}
use Rattle.rbc_spec.specs.Line.{end, start as line_start}
use Rattle.rbc_spec.specs.LineCentre.{line_beginning}
use Rattle.rbc_spec.specs.Message.{EndOfMission, TrainBody}
use Rattle.rbc_spec.specs.Place.{extent, is_cleared, Place, place_on, Position}
use Rattle.rbc_spec.specs.Promises.{cleared, is_given, KeepsPromises, MayFree, shortened, stopped}
use Rattle.rbc_spec.specs.ReadOff.{read_off}
use Rattle.rbc_spec.specs.SectionRuns.{longest, within}
use Rattle.rbc_spec.specs.Step.{silence, step}
use Rattle.rbc_spec.specs.World.{Answer, new_world, World, world_run, world_step}
use Rattle.test_scenes.proofs.Pieces.{met_by_run}
use Rattle.test_scenes.specs.Moves.{play}
use Rattle.test_scenes.specs.Pieces.{centres_show, IsMetByRun, line_shows}
use Rattle.test_scenes.specs.Scene.{line, seen, seen_from}
use Rattle.test_scenes.specs.Standstill.{end_at_the_start, end_at_the_start_moves, end_at_the_start_shows, end_message}
use Rattle.test_scenes.specs.Standstill.{end_past_the_start, end_past_the_start_moves, end_past_the_start_shows}
use Rattle.test_scenes.specs.Standstill.{ends_at, in_section_2, six_given}
use Rattle.test_scenes.specs.Turns.{quiet_turns}

-- ## Views

pub at_the_start : seen line end_at_the_start ≡ end_at_the_start_shows
unfolding within longest line_start end extent beginning ◌>>◌ step new_world world_step seen seen_from
at_the_start = refl

pub past_the_start : seen line end_past_the_start ≡ end_past_the_start_shows
unfolding within longest line_start end extent beginning ◌>>◌ step new_world world_step seen seen_from
past_the_start = refl

pub met_at_the_start : IsMetByRun line end_at_the_start end_at_the_start_moves
unfolding within longest line_start end extent beginning ◌>>◌ step new_world world_step line_beginning read_off
    quiet_turns play centres_show line_shows
met_at_the_start = met_by_run line end_at_the_start end_at_the_start_moves refl refl refl

pub met_past_the_start : IsMetByRun line end_past_the_start end_past_the_start_moves
unfolding within longest line_start end extent beginning ◌>>◌ step new_world world_step line_beginning read_off
    quiet_turns play centres_show line_shows
met_past_the_start = met_by_run line end_past_the_start end_past_the_start_moves refl refl refl

-- ## Sections that may leave the hand

-- the hand has sections 1 to 6
hand_is : (r : ℕ) → is_given line six_given 1 r ≡ within (record { first = 1; count = 6 }) r
unfolding within longest line_start end extent beginning ◌>>◌ step new_world world_step world_run six_given
hand_is r = refl

on_track : option_map (λ m. m.place.track) ((six_given.at 0).mission 1) ≡ Some 0
unfolding within longest line_start end extent beginning ◌>>◌ step new_world world_step world_run six_given
on_track = refl

-- the train has a mission
has_mission : is_some ((six_given.at 0).mission 1) ≡ true
unfolding within longest line_start end extent beginning ◌>>◌ step new_world world_step world_run six_given
has_mission = refl

there_is : {X : Type 0} (o : Option X) → is_some o ≡ true → (x : X) × (o ≡ Some x)
there_is None is = cc
there_is (Some x) is = (x, refl)

its_mission : (n : Mission) × ((six_given.at 0).mission 1 ≡ Some n)
its_mission = there_is ((six_given.at 0).mission 1) has_mission

-- the end of its mission is answered
heard_at_2_000 : silence line 0 (six_given.at 0) (end_message (in_section_2 0)) ≡ None
unfolding within longest line_start end extent beginning ◌>>◌ step new_world world_step world_run six_given
heard_at_2_000 = refl

heard_at_2_001 : silence line 0 (six_given.at 0) (end_message (in_section_2 1)) ≡ None
unfolding within longest line_start end extent beginning ◌>>◌ step new_world world_step world_run six_given
heard_at_2_001 = refl

-- the mission's track is 0
its_track : (n : Mission) → (six_given.at 0).mission 1 ≡ Some n → n.place.track ≡ 0
its_track n mission =
    same_Some n.place.track 0 (sym (ap (option_map (λ m. m.place.track)) mission) ∙ on_track)

-- the place of the train, with its front at this number of decimetres from the start of the track
abbrev there : ℕ → Place
there front = record { track = 0; group = 82022; front = front; rear = Some (pos front) }

at_2_000 : place_on line 0 (in_section_2 0) ≡ Some (there 20000)
unfolding line_start end extent
at_2_000 = refl

at_2_001 : place_on line 0 (in_section_2 1) ≡ Some (there 20010)
unfolding line_start end extent
at_2_001 = refl

past_hand : (r : ℕ) → is_given line six_given 1 r ≡ true → 7 ≤ r → ⊥
past_hand r given past =
    let some = within_true (record { first = 1; count = 6 }) r (sym (hand_is r) ∙ given) in
    let below = some.1 in
    omega (arith, below, past)

-- Of the sections that are not cleared, only section 2 can start before the front. In that case the front is in advance
-- of its start.
one_reached : (front : ℕ) → front ≤ 30000 → is_cleared line (there front) 1 ≡ true → (r : ℕ)
    → is_given line six_given 1 r ≡ true → is_cleared line (there front) r ≡ false → 10 * line_start line r < front
    → (r ≡ 2) × (20000 < front)
unfolding line_start end
one_reached front to first zero given left near =
    let some = within_true (record { first = 1; count = 6 }) 0 (sym (hand_is 0) ∙ given) in
    let above = some.0 in
    absurd (omega (arith, above))
one_reached front to first (suc zero) given left near = absurd (true≢false (sym first ∙ left))
one_reached front to first (suc (suc zero)) given left near = (refl, near)
one_reached front to first (suc (suc (suc zero))) given left near = absurd (omega (arith, near, to))
one_reached front to first (suc (suc (suc (suc zero)))) given left near = absurd (omega (arith, near, to))
one_reached front to first (suc (suc (suc (suc (suc zero))))) given left near = absurd (omega (arith, near, to))
one_reached front to first (suc (suc (suc (suc (suc (suc zero)))))) given left near = absurd (omega (arith, near, to))
one_reached front to first (suc (suc (suc (suc (suc (suc (suc r))))))) given left near =
    absurd (past_hand (suc (suc (suc (suc (suc (suc (suc r))))))) given (omega arith))

module _ (position : Position) (front : ℕ) (there_is : place_on line 0 position ≡ Some (there front))
    (to : front ≤ 30000) (first : is_cleared line (there front) 1 ≡ true) where
  on_there : (n : Mission) (p : Position) (place : Place) → (six_given.at 0).mission 1 ≡ Some n
      → ◌≡◌ {A = TrainBody} (EndOfMission position) (EndOfMission p) → place_on line n.place.track p ≡ Some place
      → place ≡ there front
  on_there n p place mission same on =
      let is : p ≡ position = cc in
      same_Some place (there front) (sym on ∙ ap (λ (x : ℕ). place_on line x p) (its_track n mission)
      ∙ ap (place_on line 0) is ∙ there_is)

  -- a section may leave the hand if it is cleared, or in advance of the front in section 2
  pub leaves : (s : ℕ) → MayFree line six_given 1 s (ends_at position)
      → (is_cleared line (there front) s ≡ true) ⊎ ((20000 < front) × (front ≤ 10 * line_start line s))
  leaves s (cleared _ _ p n place train fair mission (inl wrong) on is) = cc
  leaves s (cleared _ _ p n place train fair mission (inr same) on is) =
      inl (subst (λ (x : Place). is_cleared line x s ≡ true) (on_there n p place mission same on) is)
  leaves s (shortened _ _ p n ask place train fair mission asked wrong on time past) = cc
  leaves s (stopped _ _ p n place r train fair mission same still on given left near ahead) =
      let at = on_there n p place mission same on in
      let reached = one_reached front to first r given
      (subst (λ (x : Place). is_cleared line x r ≡ false) at left)
      (subst (λ (x : Place). 10 * line_start line r < x.front) at near) in
      inr (reached.1, subst (λ (x : Place). x.front ≤ 10 * line_start line s) at ahead)

-- ## The promises

first_at_2_000 : is_cleared line (there 20000) 1 ≡ true
unfolding line_start end
first_at_2_000 = refl

first_at_2_001 : is_cleared line (there 20010) 1 ≡ true
unfolding line_start end
first_at_2_001 = refl

-- the front is at the start of section 2, so nothing ahead may leave the hand
pub ahead : (s : ℕ) → 2 ≤ s → s ≤ 6 → MayFree line six_given 1 s (ends_at (in_section_2 0)) → ⊥
unfolding line_start end
ahead s from to may = elim (leaves (in_section_2 0) 20000 at_2_000 (omega arith) first_at_2_000 s may) [
  | inl is ↦ not_cleared s from to is
  | inr reached ↦ let no = reached.0 in omega (arith, no)
]
  where
    not_cleared : (s : ℕ) → 2 ≤ s → s ≤ 6 → is_cleared line (there 20000) s ≡ true → ⊥
    not_cleared zero from to is = omega (arith, from)
    not_cleared (suc zero) from to is = omega (arith, from)
    not_cleared (suc (suc zero)) from to is = cc
    not_cleared (suc (suc (suc zero))) from to is = cc
    not_cleared (suc (suc (suc (suc zero)))) from to is = cc
    not_cleared (suc (suc (suc (suc (suc zero))))) from to is = cc
    not_cleared (suc (suc (suc (suc (suc (suc zero)))))) from to is = cc
    not_cleared (suc (suc (suc (suc (suc (suc (suc s))))))) from to is = omega (arith, to)

-- so section 2 stays in the hand
pub freed : (answer : Answer) (new : World) → is_given line new 1 2 ≡ false
    → KeepsPromises line six_given (ends_at (in_section_2 0)) answer new → ⊥
unfolding within
freed answer new gone kept =
    ahead 2 (omega arith) (omega arith) (kept.freed 1 2 (hand_is 2 ∙ within_2) gone)
  where
    within_2 : within (record { first = 1; count = 6 }) 2 ≡ true
    within_2 = refl

-- section 1 is cleared
pub cleared_section : MayFree line six_given 1 1 (ends_at (in_section_2 0))
cleared_section =
    let n = its_mission in
    cleared 0 (end_message (in_section_2 0)) (in_section_2 0) n.0 (there 20000) refl heard_at_2_000 n.1 (inr refl)
    (ap (λ (x : ℕ). place_on line x (in_section_2 0)) (its_track n.0 n.1) ∙ at_2_000) first_at_2_000

-- with the front one metre in advance of that, section 3 may leave the hand
pub ahead_of_the_front : MayFree line six_given 1 3 (ends_at (in_section_2 1))
unfolding within line_start end
ahead_of_the_front =
    let n = its_mission in
    stopped 0 (end_message (in_section_2 1)) (in_section_2 1) n.0 (there 20010) 2 refl heard_at_2_001 n.1 refl refl
    (ap (λ (x : ℕ). place_on line x (in_section_2 1)) (its_track n.0 n.1) ∙ at_2_001) (hand_is 2) refl (omega arith)
    (omega arith)

-- and section 2 may not
pub section_of_the_front : MayFree line six_given 1 2 (ends_at (in_section_2 1)) → ⊥
unfolding line_start end
section_of_the_front may = elim (leaves (in_section_2 1) 20010 at_2_001 (omega arith) first_at_2_001 2 may) [
  | inl is ↦ true≢false (sym is)
  | inr reached ↦ let no = reached.1 in omega (arith, no)
]
