-- An end of mission is first a report. At standstill the sections ahead of the train are cut off its hand. Then the
-- pool is returned and the mission is ended.
use Rattle.std.proofs.Common.{[], ◌++◌, ◌∙◌, ◌≡◌, ap, Bool, false, if◌then◌else◌, None, Option, option_map, refl, Some}
use Rattle.std.proofs.Common.{subst, sym, true, ℕ}
use Rattle.std.proofs.lemmas.List.{append-nil}
use Rattle.law_invariants.proofs.HandoverLemmas.Orderly.{Goes, goes_change, goes_returned, goes_then}
use Rattle.law_invariants.proofs.NoCopyLemmas.Messages.{fair_return_pool, standing}
use Rattle.law_invariants.proofs.NoCopyLemmas.Tally.{fair_both, fair_change}
use Rattle.law_invariants.proofs.SoundLemmas.Again.{changed_sound}
use Rattle.law_invariants.proofs.SoundLemmas.Reports.{other_words, pool_returned}
use Rattle.law_invariants.proofs.SoundLemmas.Sends.{Sound, then_sound}
use Rattle.law_invariants.specs.Flow.Flow.{Flow}
use Rattle.law_invariants.specs.Flow.Leads.{replied, Reports, said_by}
use Rattle.law_invariants.specs.Flow.Shows.{Shows}
use Rattle.law_invariants.specs.Flow.Sound.{IsFlowSound}
use Rattle.law_refinement.proofs.MissionsLemmas.Heard.{act_sound, Reaches}
use Rattle.law_refinement.proofs.MissionsLemmas.Leaves.{kept_shown}
use Rattle.law_refinement.proofs.MissionsLemmas.Sets.{Sets, sets_change, sets_returned, sets_then}
use Rattle.law_refinement.proofs.MissionsLemmas.Stands.{none_reached, standing_words, stood}
use Rattle.law_refinement.specs.Missions.Parts.{ends}
use Rattle.rbc_spec.proofs.Lists.{put_there}
use Rattle.rbc_spec.specs.Acts.{◌>>◌, Act, change_mission, return_pool, returned}
use Rattle.rbc_spec.specs.Centre.{Centre, Mission}
use Rattle.rbc_spec.specs.Line.{is_centre, IsLine, Line}
use Rattle.rbc_spec.specs.LineCentre.{is_given_to, LineMission, LineState, nothing, release, Said, set_mission}
use Rattle.rbc_spec.specs.OwnSteps.{ended, Ending, is_ahead_of, is_cleared_of, release_words, stopped, stopping_words}
use Rattle.rbc_spec.specs.Place.{Place}
use Rattle.rbc_spec.specs.Quiet.{both}
use Rattle.rbc_spec.specs.SectionRuns.{no_run}

-- the state after two acts
pub then_state : (a b : Act) (k : Centre) → ((a >> b) k).state ≡ (b (a k).state).state
unfolding ◌>>◌
then_state a b k = refl

-- an act without messages and replies adds none
pub said_alone : (a b : Act) (k : Centre) → said_by (b (a k).state) ≡ nothing → said_by ((a >> b) k) ≡ said_by (a k)
unfolding ◌>>◌
said_alone a b k none =
    (λ i. record { sayings = (a k).sayings ++ (none i).sayings; words = (a k).words ++ (none i).words })
    ∙ (λ i. record { sayings = append-nil (a k).sayings i; words = append-nil (a k).words i })

-- ## The mission is ended

module _ (line : Line) (ok : IsLine line) (w : Flow) (sound : IsFlowSound line w) (v : LineState)
    (sees : Shows line w v) (c t : ℕ) (to : is_centre line c ≡ true) (m : Mission)
    (at : (w.at c).mission t ≡ Some m) where
  abbrev k : Centre
  k = w.at c

  abbrev poolless : Mission → Mission
  poolless n = record n { pool = no_run }

  abbrev last : Mission → Mission
  last n = record n { is_ended = true; proposal = None }

  returning : Sets c t (option_map poolless (k.mission t)) k (return_pool line c t m k)
  returning = sets_then c t (k.mission t) (option_map poolless (k.mission t)) (returned line c t m.place.track m.pool)
      (change_mission t poolless) k
      (sets_returned c t line t m.place.track m.pool k)
      (sets_change c t poolless (returned line c t m.place.track m.pool k).state)

  ended_so : option_map last ((return_pool line c t m k).state.mission t) ≡ Some (last (poolless m))
  ended_so = ap (option_map last) (returning.mission t ∙ put_there k.mission t (option_map poolless (k.mission t))
      ∙ ap (option_map poolless) at)

  pub ending_sets : Sets c t (Some (last (poolless m))) k (ends line c t m k)
  ending_sets = sets_then c t (option_map poolless (k.mission t)) (Some (last (poolless m))) (return_pool line c t m)
      (change_mission t last) k returning
      (subst (λ o. Sets c t o (return_pool line c t m k).state (change_mission t last (return_pool line c t m k).state))
      ended_so (sets_change c t last (return_pool line c t m k).state))

  ending_sound : Sound line c (ends line c t m k)
  ending_sound = then_sound line c (return_pool line c t m) (change_mission t last) k
      (pool_returned line ok c t m k (sound.centres c to))
      (λ j is there. changed_sound line c j there t last (λ n has. refl)
      (λ n has. other_words line ok c j n n.has_data true None (there.mission t n has)))

  ending_goes : Goes k (ends line c t m k)
  ending_goes = goes_then (return_pool line c t m) (change_mission t last) k
      (goes_then (returned line c t m.place.track m.pool) (change_mission t poolless) k
      (goes_returned line c t m.place.track m.pool k) (goes_change t poolless _ (λ n. refl)))
      (goes_change t last _ (λ n. refl))

  pub ending_reaches : Reaches line w c (ends line c t m k) (ended t v)
  ending_reaches = record {
    shows = subst (λ o. Shows line (replied w c (ends line c t m k)) (set_mission t o v))
        (sym (ap (option_map (λ (n : LineMission). record n { is_ended = true; proposal = None }))
        (sees.mission t c m at)))
        (kept_shown line w sound v sees c t to m at (last (poolless m)) (ends line c t m k) refl ending_sets);
    sound = act_sound line ok c w sound to (ends line c t m k) ending_sound
        (λ y counts ready. fair_both line c y (return_pool line c t m) (change_mission t last) k
        (fair_return_pool line c y counts t m k at (standing line c y counts t m k at ready))
        (fair_change line c y t last _ (λ n. (refl, refl)))) ending_goes;
  }

-- ## An end of mission

-- the replies of a report, and then of a train at standstill
pub as_ending : (line : Line) (t c : ℕ) (v : LineState) (is_still : Bool) (o : Option Place) (said later : Said)
    (new mid : LineState) → Reports line t c o v said new
    → later ≡ record { sayings = []; words = standing_words line t c is_still o new }
    → ended t mid ≡ ended t (stood line t c is_still o new)
    → Ending line t c is_still o v (both said later) (ended t mid)
as_ending line t c v is_still None said later new mid own silent same =
    record {
      said_is = ap (λ (x : Said). both x later) own.said_is ∙ ap (both nothing) silent;
      new_is = same
          ∙ ap (ended t) own.new_is;
    }
as_ending line t c v false (Some place) said later new mid own silent same = record {
  said_is = ap (λ (x : Said). both x later) own.said_is
      ∙ ap (both (record { sayings = []; words = release_words line c (is_cleared_of line v t place) v })) silent
      ∙ (λ i. record { sayings = []; words = append-nil (release_words line c (is_cleared_of line v t place) v) i });
  new_is = same ∙ ap (ended t) own.new_is;
}
as_ending line t c v true (Some place) said later new mid own silent same = record {
  said_is = ap (λ (x : Said). both x later) own.said_is
      ∙ ap (both (record { sayings = []; words = release_words line c (is_cleared_of line v t place) v }))
      (silent ∙ ap (λ (x : LineState). record { sayings = []; words = stopping_words line t c place x }) own.new_is);
  new_is = same ∙ ap (λ (x : LineState). ended t (stopped line t c place x)) own.new_is;
}

-- if no section is given, none is ahead
pub nothing_ahead : (line : Line) (t c : ℕ) (v : LineState) (is_still : Bool) (o : Option Place)
    → ((place : Place) → o ≡ Some place → (s : ℕ) → is_given_to t (v.mark s) ≡ false)
    → (standing_words line t c is_still o v ≡ []) × (stood line t c is_still o v ≡ v)
nothing_ahead line t c v is_still None none = (refl, refl)
nothing_ahead line t c v false (Some place) none = (refl, refl)
nothing_ahead line t c v true (Some place) none = let out =
    none_reached line t c v place (λ s on. none place refl s) in (
      ap (λ b. if b then release_words line c (is_ahead_of line v t place) v else []) out,
      ap (λ b. if b then release line c t (is_ahead_of line v t place) v else v) out,
    )
