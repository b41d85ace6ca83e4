-- The quiet steps of a Yield. The supervision is laid down, and the train is ordered to end its session if no own
-- section is left.
use Rattle.std.proofs.Common.{[], ◌&&◌, ◌++◌, ◌+◌, ◌==◌, ◌∙◌, ◌∷◌, ◌≡◌, ◌≤◌, ap, append-nil, Bool, eqb-true, false}
use Rattle.std.proofs.Common.{if◌then◌else◌, is_some, List, None, Option, refl, Some, subst, sym, true, ℕ}
use Rattle.std.proofs.lemmas.Bool.{and_from, and_parts}
use Rattle.std.specs.Option.{option_map_or}
use Rattle.law_base.specs.Counting.Network.{acted, to_one}
use Rattle.law_invariants.proofs.HandoverLemmas.Moves.{goes_taking_over}
use Rattle.law_invariants.proofs.NoCopyLemmas.Leaving.{fair_yield_over}
use Rattle.law_invariants.proofs.SoundLemmas.Leaving.{next_is_centre, yielded_over}
use Rattle.law_invariants.specs.Flow.Flow.{Flow}
use Rattle.law_invariants.specs.Flow.Leads.{Leads}
use Rattle.law_invariants.specs.Flow.Pairs.{before}
use Rattle.law_invariants.specs.Flow.Shows.{Shows}
use Rattle.law_invariants.specs.Flow.Sound.{IsFlowSound}
use Rattle.law_invariants.specs.Handover.Orderly.{allowed_by}
use Rattle.law_refinement.proofs.AbstractionLemmas.Marks.{hand_at_centre}
use Rattle.law_refinement.proofs.AbstractionLemmas.Shows.{part_changes, part_stays}
use Rattle.law_refinement.proofs.FollowupsLemmas.Borders.{none_or}
use Rattle.law_refinement.proofs.FollowupsLemmas.Keeps.{act_sound_with}
use Rattle.law_refinement.proofs.FollowupsLemmas.Moves.{leading, Moves, moves_if, moves_or, one_quiet, rest_moves}
use Rattle.law_refinement.proofs.FollowupsLemmas.Proposals.{up_is}
use Rattle.law_refinement.proofs.FollowupsLemmas.Yields as yields
use Rattle.rbc_spec.proofs.Lists.{itself, put_there}
use Rattle.rbc_spec.proofs.Places.{homes_run}
use Rattle.rbc_spec.proofs.Runs.{within_none, within_shared}
use Rattle.rbc_spec.specs.Acts.{◌>>◌, Act, booked, end_order, part_at, rest, returned, say, send, set_mission, yield}
use Rattle.rbc_spec.specs.Centre.{Centre, Handing, is_taken_for, is_up, Mission, Out}
use Rattle.rbc_spec.specs.Frame.{Body, TakingOver}
use Rattle.rbc_spec.specs.Line.{is_centre, is_home, IsLine, Line}
use Rattle.rbc_spec.specs.LineCentre.{At, is_given_to, LineMission, LineState, nothing, Parted, says}
use Rattle.rbc_spec.specs.Links.{taking_over}
use Rattle.rbc_spec.specs.Maps.{put, put_pair}
use Rattle.rbc_spec.specs.Message.{EndSession, unknown_group}
use Rattle.rbc_spec.specs.Quiet.{EndOrder, EndsSession, LayDown, LaysDown}
use Rattle.rbc_spec.specs.ReadOff.{seen}
use Rattle.rbc_spec.specs.SectionRuns.{is_empty, within}
use Rattle.rbc_spec.specs.Sections.{home_run, is_on, nid_rbc}

tidy : (a b : List Body) → ((a ++ []) ++ b) ++ [] ≡ a ++ b
tidy a b = append-nil ((a ++ []) ++ b) ∙ ap (λ (x : List Body). x ++ b) (append-nil a)

heard_is : (o : Option ℕ) → is_some o ≡ true → o ≡ Some (option_map_or (λ n. n) o 0)
heard_is None is = cc
heard_is (Some n) is = refl

module _ (line : Line) (ok : IsLine line) (w : Flow) (sound : IsFlowSound line w) (v : LineState)
    (sees : Shows line w v) (c : ℕ) (to : is_centre line c ≡ true) (t : ℕ) where
  module _ (m : Mission) (at : (w.at c).mission t ≡ Some m) (h : Handing) (stands : m.handing ≡ Some h) where
    there : is_centre line h.to ≡ true
    there = next_is_centre line ok c h.to m.place.track (((sound.centres c to).mission t m at).handing_to h stands)

    abbrev laid : LineMission
    laid = yields.laid line w sound v sees c to t h.to h.number there m at

    abbrev mid : LineState
    mid = yields.laid_down line w sound v sees c to t h.to h.number there m at

    abbrev frames : ℕ → List Body
    frames = yields.frames line w sound v sees c to t h.to h.number there m at

    lays : LaysDown v t c nothing mid
    lays = record {
      mission = seen c m;
      stamp = option_map_or (λ n. n) ((w.at c).heard t) 0;
      of_train = sees.mission t c m at;
      supervises = refl;
      heard = sees.heard t c ∙ heard_is ((w.at c).heard t) ((sound.centres c to).mission_known t m at).1;
      leaves = record { said_is = refl; new_is = refl };
    }

    -- no own section is given, if none is in the hand
    none_given : is_empty (part_at line c m.place.track m.hand) ≡ true → (s : ℕ)
        → (is_home line c s && is_given_to t (v.mark s)) ≡ false
    none_given empty s = none_or (is_home line c s && is_given_to t (v.mark s)) (λ is.
        let both = and_parts (is_home line c s) (is_given_to t (v.mark s)) is in
        let in_hand : within m.hand s ≡ true = sym ((hand_at_centre line w v t sound sees c m at).each s) ∙ both.1 in
        let on = ((sound.centres c to).mission t m at).hand.on_track s in_hand in
        let in_run : within (home_run line c m.place.track) s ≡ true = homes_run line c m.place.track s ok
        ∙ and_from (is_home line c s) (is_on line m.place.track s) both.0 on in
        let wrong : false ≡ true =
        sym (within_none (part_at line c m.place.track m.hand) s
        (eqb-true (part_at line c m.place.track m.hand).count 0 empty))
        ∙ within_shared m.hand (home_run line c m.place.track) s
        ∙ and_from (within m.hand s) (within (home_run line c m.place.track) s) in_hand in_run in cc)

    not_here : (n : LineMission) → mid.mission t ≡ Some n → n.supervisor ≡ At c → ⊥
    not_here n is by_c =
        let same : ◌≡◌ {A = Option LineMission} (Some laid) (Some n) = sym (put_there v.mission t (Some laid)) ∙ is in
        let of_it : laid ≡ n = cc in
        let wrong : Parted (option_map_or (λ x. x) ((w.at c).heard t) 0) ≡ At c =
        ap (λ (x : LineMission). x.supervisor) of_it ∙ by_c in cc

    -- the state of the centre after it, except for the count of messages
    abbrev left : Centre
    left = record (w.at c) {
      book = λ s. if within m.hand s && is_taken_for t ((w.at c).book s) then Out t else (w.at c).book s;
      mission = put (w.at c).mission t None;
    }

    abbrev told : Centre
    told = record left { said = put (w.at c).said t ((w.at c).said t + 1) }

    shown_left : Shows line (acted w c left frames) mid
    shown_left = yields.yield_shown line w sound v sees c to t h.to h.number there m at left refl
        refl refl refl refl refl v.said
        (part_stays ℕ c v.said (w.at c).said (λ u. sees.said u c))

    shown_told : Shows line (acted w c told frames) (says t c mid)
    shown_told = yields.yield_shown line w sound v sees c to t h.to h.number there m at told refl refl refl refl refl
        refl (put_pair v.said t c (v.said t c + 1))
        (part_changes ℕ c t (v.said t c + 1) v.said (w.at c).said told.said (λ u. sees.said u c)
        (λ u. ap (λ n. put (w.at c).said t (n + 1) u) (sym (sees.said t c))))

    -- frames, in the order of the acts
    abbrev sent : ℕ → List Body
    sent e = (((returned line c t m.place.track m.pool (w.at c)).frames e ++ [])
        ++ to_one h.to (yields.gives line w sound v sees c to t h.to h.number there m at ∷ []) e) ++ []

    sent_is : frames ≡ sent
    sent_is =
        λ i e. sym (tidy ((returned line c t m.place.track m.pool (w.at c)).frames e)
        (to_one h.to (yields.gives line w sound v sees c to t h.to h.number there m at ∷ []) e)) i

    -- without a message
    quietly : Moves line w c (record { state = left; frames = sent; sayings = []; words = [] }) v
    quietly = record {
      quiets = LayDown t c ∷ [];
      new = mid;
      takes = one_quiet line w c v (LayDown t c) nothing mid lays;
      own_centre = and_from (c == c) true (itself c) refl;
      shows = subst (λ (f : ℕ → List Body). Shows line (acted w c left f) mid) sent_is shown_left;
    }

    -- the train is ordered to end its session
    ordering : is_up ((w.at c).phase t) ≡ true → is_empty (part_at line c m.place.track m.hand) ≡ true
        → EndsSession line mid t c
        (record {
          sayings = record {
            nid_engine = t;
            message =
                record {
                  t_train = (w.at c).said t + 1;
                  nid_lrbg = unknown_group;
                  body = EndSession line.nid_c (nid_rbc line c);
                };
          } ∷ [];
          words = [];
        }) (says t c mid)
    ordering up empty = record {
      not_here = not_here;
      is_up = sees.phase t c ∙ up_is ((w.at c).phase t) up;
      none_given = none_given empty;
      says = record {
        said_is =
            ap (λ (n : ℕ).
            record {
              sayings = record {
                nid_engine = t;
                message =
                    record { t_train = n + 1; nid_lrbg = unknown_group; body = EndSession line.nid_c (nid_rbc line c) };
              } ∷ [];
              words = [];
            }) (sym (sees.said t c));
        new_is = refl;
      };
    }

    telling : is_up ((w.at c).phase t) ≡ true → is_empty (part_at line c m.place.track m.hand) ≡ true
        → Moves line w c
        (record {
          state = told;
          frames = sent;
          sayings =
              record {
                nid_engine = t;
                message = record {
                  t_train = (w.at c).said t + 1;
                  nid_lrbg = unknown_group;
                  body = EndSession line.nid_c (nid_rbc line c);
                };
              } ∷ [];
          words = [];
        }) v
    telling up empty = record {
      quiets = LayDown t c ∷ EndOrder t c ∷ [];
      new = says t c mid;
      takes = (nothing, _, mid, lays, one_quiet line w c mid (EndOrder t c) _ (says t c mid) (ordering up empty), refl);
      own_centre = and_from (c == c) _ (itself c) (and_from (c == c) true (itself c) refl);
      shows = subst (λ (f : ℕ → List Body). Shows line (acted w c told f) (says t c mid)) sent_is shown_told;
    }

    abbrev first : Act
    first = (returned line c t m.place.track m.pool >> booked (is_taken_for t) (Out t) m.hand)
        >> (set_mission t None >> send h.to (yields.gives line w sound v sees c to t h.to h.number there m at))

    yield_moves : Moves line w c (yield line c t m h (w.at c)) v
    unfolding ◌>>◌
    yield_moves = by_ends (is_empty (part_at line c m.place.track m.hand)) refl
      where
        by_up : is_empty (part_at line c m.place.track m.hand) ≡ true → (b : Bool) → is_up ((w.at c).phase t) ≡ b
            → Moves line w c
            ((first >> (λ j. if b then say t unknown_group (EndSession line.nid_c (nid_rbc line c)) j else rest j))
            (w.at c)) v
        by_up empty true up = telling up empty
        by_up empty false down = quietly

        by_ends : (e : Bool) → is_empty (part_at line c m.place.track m.hand) ≡ e
            → Moves line w c ((first >> (if e then end_order line c t else rest)) (w.at c)) v
        by_ends true empty = by_up empty (is_up ((w.at c).phase t)) refl
        by_ends false some = quietly

  pub yields_moves : (a number : ℕ) → Moves line w c (taking_over line c a number t (w.at c)) v
  yields_moves a number = moves_or line w c v ((w.at c).mission t) _ (rest (w.at c))
      (λ m at. moves_or line w c v m.handing _ (rest (w.at c))
      (λ h stands. moves_if line w c v ((h.number == number) && (h.to == a))
      (yield line c t m h (w.at c)) (rest (w.at c))
      (λ so. yield_moves m at h stands) (λ other. rest_moves line w sound v sees c to))
      (λ none. rest_moves line w sound v sees c to))
      (λ none. rest_moves line w sound v sees c to)

-- only an announced handover that is taken over may be yielded
abbrev pub MayYieldTo : Flow → ℕ → ℕ → ℕ → ℕ → Centre → Type 0
MayYieldTo w c a number t k = (d u h : ℕ) → allowed_by a (TakingOver number t) d u h ≡ true
    → (before w c d u h ≡ 0) × (h ≤ k.announced)

pub yields_so : (line : Line) (w : Flow) (c a number t : ℕ) (k : Centre) (v : LineState) → IsLine line
    → IsFlowSound line w → Shows line w v → is_centre line c ≡ true → w.at c ≡ k
    → MayYieldTo w c a number t k → Leads line w c (taking_over line c a number t k) v
yields_so line w c a number t k v ok sound sees to is may =
    subst (λ x. Leads line w c (taking_over line c a number t x) v) is
    (leading line w c v (taking_over line c a number t (w.at c)) (yields_moves line ok w sound v sees c to t a number)
    (act_sound_with line ok c w sound to (taking_over line c a number t (w.at c))
    (yielded_over line ok c a number t (w.at c) (sound.centres c to))
    (allowed_by a (TakingOver number t)) (subst (MayYieldTo w c a number t) (sym is) may)
    (λ y counts ready. fair_yield_over line c y counts a number t (w.at c) ready)
    (goes_taking_over line c a number t (w.at c))))
