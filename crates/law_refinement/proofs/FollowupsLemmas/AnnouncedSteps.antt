-- So each step of a centre does: of a message, a word of the interlocking, and a frame.
use Rattle.std.proofs.Common.{◌&&◌, ◌*◌, ◌+◌, ◌∙◌, ◌≡◌, ap, false, nat_le, None, Option, refl, Some, subst, sym, true}
use Rattle.std.proofs.Common.{ℕ}
use Rattle.std.proofs.lemmas.Bool.{and_parts}
use Rattle.std.proofs.lemmas.Option.{same_Some}
use Rattle.std.specs.Option.{option_map_or}
use Rattle.law_base.proofs.LocalLemmas.Worlds.{is_ordered}
use Rattle.law_base.proofs.RulesLemmas.Places.{fit_is, placed_on}
use Rattle.law_base.proofs.WalkLemmas.Causes.{all_free, begins, by_itself, Change, clears, comes, cuts, grows, May}
use Rattle.law_base.proofs.WalkLemmas.Causes.{MayBegin, restarts, setting, still, Turn, waited}
use Rattle.law_base.proofs.WalkLemmas.FrameAnswers.{of_taking, received_taking}
use Rattle.law_base.proofs.WalkLemmas.Frames.{frame_may}
use Rattle.law_base.proofs.WalkLemmas.Messages.{ask_if_walks}
use Rattle.law_base.proofs.WalkLemmas.Moves.{announces, Answer, changes, Closed, closes, closes_handed, Move}
use Rattle.law_base.proofs.WalkLemmas.Moves.{no_handover, nothing_waits, of_walk, recalls, sets, Walk, yields}
use Rattle.law_base.proofs.WalkLemmas.Steps.{answered_walks, may_do, set_walks, unset_walks}
use Rattle.law_invariants.proofs.SoundLemmas.Held.{fit_hand, reported, same_track}
use Rattle.law_invariants.specs.Flow.Counts.{wait_has}
use Rattle.law_invariants.specs.Flow.Sound.{IsCentreSound, IsHandAt}
use Rattle.law_invariants.specs.Handover.Steps.{left_by}
use Rattle.law_refinement.proofs.FollowupsLemmas.Announced.{before_part, came_fits, change_all, Fits, FitsAll}
use Rattle.law_refinement.proofs.FollowupsLemmas.Announced.{from_part, grant_all, moved, own_hand, set_all, unhanded}
use Rattle.law_refinement.specs.Followups.Announced.{AnnouncesAll}
use Rattle.rbc_spec.proofs.Lists.{put_there}
use Rattle.rbc_spec.proofs.Runs.{each_within}
use Rattle.rbc_spec.specs.Acts.{◌>>◌, Act, begun, hear, part_at, Reply, rest, set_mission}
use Rattle.rbc_spec.specs.Centre.{beginning, Centre, Handing, is_free, is_open, Mission}
use Rattle.rbc_spec.specs.Frame.{Body, Frame}
use Rattle.rbc_spec.specs.Line.{is_home, IsLine, Line, next_centre}
use Rattle.rbc_spec.specs.Links.{may_arrive, may_take, received}
use Rattle.rbc_spec.specs.Maps.{put}
use Rattle.rbc_spec.specs.Message.{Request, TrainBody, TrainMessage}
use Rattle.rbc_spec.specs.Outcome.{Early, Next, NoLink, Old, Reason, Taken as LinkAnswer}
use Rattle.rbc_spec.specs.Place.{covered, group_start, Place, place_on}
use Rattle.rbc_spec.specs.Rules.{answered, ask_route_if_due, cleared, grant}
use Rattle.rbc_spec.specs.SectionRuns.{all_of, is_empty, next_after, no_run, SectionRun, within}
use Rattle.rbc_spec.specs.Step as step
use Rattle.rbc_spec.specs.Step.{Deliver, Event, hear_and_answer, link_answer, Set, set, stamp_of, taken_by, Train}
use Rattle.rbc_spec.specs.Step.{Unset, unset}

module _ (line : Line) (ok : IsLine line) (c : ℕ) where
  abbrev H : Centre → Type 0
  H k = FitsAll line ok c k

  abbrev F : Mission → Type 0
  F m = Fits line ok c m

  abbrev Keeps : Centre → Reply → Type 0
  Keeps k q = H k → H q.state

  -- the further conditions on a centre
  abbrev Facts : Centre → Type 0
  Facts k = ((t : ℕ) (m : Mission) → k.mission t ≡ Some m → IsHandAt line m.place m.hand)
      × ((t s : ℕ) → wait_has line (k.wait t) s ≡ true → is_home line c s ≡ true)

  -- ## Each small move but those of a request

  module _ (may : May) (quiet : may.announces ≡ false) (was : Centre) (facts : Facts was) where
    own_covered : (t : ℕ) (place : Place) → MayBegin line c may t was place → (s : ℕ)
        → within (covered line place) s ≡ true → is_home line c s ≡ true
    own_covered t place (waited at) s has = facts.1 t s (ap (λ o. wait_has line o s) at ∙ has)
    own_covered t place (all_free fits free) s has =
        (and_parts (is_home line c s) (is_open (was.book s))
        (each_within (is_free line c was) (covered line place) free s has)).0

    arrives : (d number t : ℕ) (hand : SectionRun) (place : Place) → may_take line c was d number t place hand ≡ true
        → all_of (may_arrive line c was t place.track) hand ≡ true
    arrives d number t hand place may =
        (and_parts _ (all_of (may_arrive line c was t place.track) hand)
        (and_parts _ (nat_le (10 * group_start line place) place.front
        && all_of (may_arrive line c was t place.track) hand) (and_parts _ _ may).1).1).1

    -- the set mission fits, if there is one
    abbrev FitsOption : Option Mission → Type 0
    FitsOption None = Unit {0}
    FitsOption (Some m) = F m

    turned : (t : ℕ) (o : Option Mission) (k : Centre) → H k → Turn line c may was t k o → FitsOption o
    turned t _ k old (begins place why none) =
        unhanded line ok c (begun line place) refl (own_hand line ok c (begun line place) (own_covered t place why))
    turned t _ k old (grows m place position j so has said placed) = cc
    turned t _ k old (clears m place position has said placed some) =
        moved line ok c m _ (placed_on line m.place.track position place placed).track_is refl
        (from_part line ok c (next_after (cleared line place m)) m.hand) (old t m has)
    turned t _ k old (cuts m n last_kept has same some) =
        moved line ok c n _ (ap (λ (q : Mission). q.place.track) (sym same))
        (ap (λ (q : Mission). q.handing) (sym same))
        (λ s kept. subst (λ (q : Mission). within q.hand s ≡ true) (sym same)
        (before_part line ok c (last_kept + 1) m.hand s kept)) (old t n has)
    turned t _ k old (comes d number time carried place hand has_data is_ended so may came carries) =
        let m : Mission =
        record {
          place = place;
          hand = hand;
          pool = no_run;
          has_data = has_data;
          is_ended = is_ended;
          proposal = None;
          handing = None;
        } in
        unhanded line ok c m refl (came_fits line ok c t was d place m refl (arrives d number t hand place may))

    set_to : (t : ℕ) (o : Option Mission) (k : Centre) → H k → FitsOption o → H (set_mission t o k).state
    set_to t o k old fits = set_all line ok c t o k (λ m is. subst FitsOption is fits) old

    -- a mission whose handover ends, if its hand has no section of the next centre
    recalled : (t : ℕ) (n : Mission) (h : Handing) (k : Centre) → k.mission t ≡ Some n → n.handing ≡ Some h
        → is_empty (part_at line h.to n.place.track n.hand) ≡ true → (m : Mission) → k.mission t ≡ Some m
        → F m → F (no_handover m)
    recalled t n h k has stands empty m at fits =
        let same : n ≡ m = same_Some n m (sym has ∙ at) in
        let to : next_centre line c m.place.track ≡ Some h.to =
        fits.onward h (ap (λ (q : Mission). q.handing) (sym same) ∙ stands) in
        unhanded line ok c _ refl
        (λ d none next. subst (λ (q : Mission). is_empty (part_at line d q.place.track q.hand) ≡ true) same
        (subst (λ x. is_empty (part_at line x n.place.track n.hand) ≡ true) (same_Some h.to d (sym to ∙ next)) empty))

    changed : (t : ℕ) (f : Mission → Mission) (k : Centre) → Change line may was t k f → (m : Mission)
        → k.mission t ≡ Some m → F m → F (f m)
    changed t _ k (restarts n place is_valid position has had said fit all) m at fits =
        let fit_at = fit_is line is_valid position place fit in
        let covers : IsHandAt line place (covered line place) =
        fit_hand line (is_ordered line ok) place fit_at.0 (reported line position place fit_at.1) in
        moved line ok c m _ (same_track line n.place place n.hand (facts.0 t n had) covers all
        ∙ ap (λ (q : Mission). q.place.track) (same_Some n m (sym has ∙ at))) refl (λ s there. there) fits
    changed t f k change m at fits = record { announced = fits.announced; onward = fits.onward }

    moves : (k : Centre) (q : Reply) → Move line c may was k q → Keeps k q
    moves _ _ (announces t d m k its so has none ahead same) old = cc
    moves _ _ (recalls t n h k its has stands empty) old =
        change_all line ok c t no_handover k (recalled t n h k has stands empty) old
    moves _ _ (closes t m k has none) old = set_to t None k old tt
    moves _ _ (closes_handed t m h k its has stands) old =
        change_all line ok c t no_handover (set_mission t None k).state
        (λ n at. let wrong : ◌≡◌ {A = Option Mission} None (Some n) = sym (put_there k.mission t None) ∙ at in
        cc) (set_to t None k old tt)
    moves _ _ (yields t m h k its so has stands) old = set_to t None k old tt
    moves _ _ (sets t o k turn) old = set_to t o k old (turned t o k old turn)
    moves _ _ (changes t f k change) old = change_all line ok c t f k (changed t f k change) old
    moves k q move old = old

    joins : (a b : Act) (k : Centre) → Keeps k (a k) → Keeps (a k).state (b (a k).state) → Keeps k ((a >> b) k)
    unfolding ◌>>◌
    joins a b k one two old = two (one old)

    closed : Closed line c may was Keeps
    closed = record { moves = moves; joins = joins }

    of_moves : (k : Centre) (q : Reply) → Walk line c may was k q → Keeps k q
    of_moves = of_walk line c may was Keeps closed

    -- no answer touches a mission
    answers : (d : ℕ) (body : Body) (q : Reply) → Answer line c may was d body q → Keeps was q
    answers d _ _ (nothing_waits t asked none) old = old
    answers d body q answer old = old

  -- ## Messages

  module _ (was : Centre) (facts : Facts was) where
    message_all : (m : TrainMessage) (body : TrainBody) → Keeps was (answered line c m body was)
    message_all m (Request position) old = by_mission (was.mission m.nid_engine) refl
      where
        asks : (e : ℕ) (i : Centre) → H i → H (ask_route_if_due line m.nid_engine e i).state
        asks e i = of_moves (still m.nid_engine) refl was facts i (ask_route_if_due line m.nid_engine e i)
            (ask_if_walks line c (still m.nid_engine) was m.nid_engine refl e (by_itself refl) i)

        by_place : (n : Mission) → was.mission m.nid_engine ≡ Some n → (o : Option Place)
            → place_on line n.place.track position ≡ o
            → H (option_map_or (λ place. grant line c m.nid_engine (record n { place = place })) o rest was).state
        by_place n at None none = old
        by_place n at (Some place) placed =
            grant_all line ok c m.nid_engine n place (placed_on line n.place.track position place placed).track_is
            was at old asks

        by_mission : (o : Option Mission) → was.mission m.nid_engine ≡ o
            → H (option_map_or (λ n. option_map_or (λ place. grant line c m.nid_engine (record n { place = place }))
            (place_on line n.place.track position) rest was) o (rest was)).state
        by_mission None none = old
        by_mission (Some n) at = by_place n at (place_on line n.place.track position) refl
    message_all m body old = of_moves (may_do m body) refl was facts was (answered line c m body was)
        (answered_walks line c was m body) old

  -- ## A step

  train_all : (m : TrainMessage) (k : Centre) → Facts k → H k → (o : Option Reason)
      → H (option_map_or {U = step.Effect} (λ why. record { reply = rest k; link = None; silence = Some why }) o
      (record { reply = hear_and_answer line c m k; link = None; silence = None })).reply.state
  unfolding ◌>>◌
  train_all m k facts old (Some why) = old
  train_all m k facts old None = message_all (hear m k).state facts m m.body old

  taken_all : (d : ℕ) (f : Frame) (answer : LinkAnswer) (k : Centre) → Facts k → H k
      → H (taken_by line c d f answer k).state
  unfolding ◌>>◌
  taken_all d f Next k facts old = let j = record k { taken = put k.taken d f.number } in
      of_taking line c d j f.body Keeps (closed (frame_may d f.body) refl j facts)
      (answers (frame_may d f.body) refl j facts d f.body) (received line c d f.body j)
      (received_taking line c d j f.body) old
  taken_all d f Old k facts old = old
  taken_all d f Early k facts old = old
  taken_all d f NoLink k facts old = old

  facts_of : (k : Centre) → IsCentreSound line c k → Facts k
  facts_of k sound = (λ t m at. (sound.mission t m at).hand, sound.wait_home)

  step_fits : (k : Centre) (event : Event) → IsCentreSound line c k → H k → H (left_by line c k event)
  step_fits k (Train m) sound old = train_all m (step.ticked (stamp_of k (Train m)) k) (facts_of k sound) old
      (step.silence line c (step.ticked (stamp_of k (Train m)) k) m)
  step_fits k (Set s) sound old = let j = step.ticked (stamp_of k (Set s)) k in
      of_moves setting refl j (facts_of k sound) j (set line c s j) (set_walks line c setting j refl s j) old
  step_fits k (Unset s) sound old = let j = step.ticked (stamp_of k (Unset s)) k in
      of_moves setting refl j (facts_of k sound) j (unset line c s j) (unset_walks line c setting j refl s j) old
  step_fits k (Deliver d f) sound old = let j = step.ticked (stamp_of k (Deliver d f)) k in
      taken_all d f (link_answer line c j d f) j (facts_of k sound) old

  pub step_announces : (k : Centre) (event : Event) → IsCentreSound line c k → AnnouncesAll line c k
      → AnnouncesAll line c (left_by line c k event)
  step_announces k event sound old t m at =
      (step_fits k event sound (λ u n is. record { announced = old u n is; onward = (sound.mission u n is).handing_to })
      t m at).announced

  pub begins_announced : AnnouncesAll line c (beginning line c)
  unfolding beginning
  begins_announced t m at = cc
