-- A granted shortening in time, one whose request was dropped, and its message.
use Rattle.std.proofs.Common.{[], ◌*◌, ◌∙◌, ◌≡◌, ap, Bool, false, if◌then◌else◌, nat_le, None, Option, option_map, refl}
use Rattle.std.proofs.Common.{Some, subst, sym, true, ℕ}
use Rattle.std.specs.Option.{option_map_or}
use Rattle.law_invariants.proofs.HandoverLemmas.Orderly.{goes_change, goes_rest}
use Rattle.law_invariants.proofs.NoCopyLemmas.Tally.{fair_change, fair_rest}
use Rattle.law_invariants.proofs.SoundLemmas.Again.{changed_sound}
use Rattle.law_invariants.proofs.SoundLemmas.Reports.{other_words}
use Rattle.law_invariants.proofs.SoundLemmas.Sends.{rest_sound}
use Rattle.law_invariants.specs.Flow.Flow.{Flow}
use Rattle.law_invariants.specs.Flow.Leads.{replied, said_by}
use Rattle.law_invariants.specs.Flow.Shows.{Shows}
use Rattle.law_invariants.specs.Flow.Sound.{IsFlowSound}
use Rattle.law_refinement.proofs.MissionsLemmas.Cuts.{cut_keeps, cuts, CutSo, unasked}
use Rattle.law_refinement.proofs.MissionsLemmas.Heard.{act_sound, Reaches, reaches_then, state_then}
use Rattle.law_refinement.proofs.MissionsLemmas.Leaves.{kept_shown}
use Rattle.law_refinement.proofs.MissionsLemmas.Reports.{rest_shown, track_is}
use Rattle.law_refinement.proofs.MissionsLemmas.Sets.{Sets, sets_change}
use Rattle.law_refinement.specs.Missions.Parts.{Answers, cut_in_time, own_granted}
use Rattle.rbc_spec.proofs.Lists.{put_same, put_there}
use Rattle.rbc_spec.specs.Acts.{◌>>◌, Act, change_mission as change_here, Reply, rest}
use Rattle.rbc_spec.specs.Centre.{Centre, Mission, Proposal}
use Rattle.rbc_spec.specs.Line.{end, is_centre, IsLine, Line}
use Rattle.rbc_spec.specs.LineCentre.{close_if_empty, LineMission, LineState, release, set_mission}
use Rattle.rbc_spec.specs.Maps.{put}
use Rattle.rbc_spec.specs.Message.{ShorteningGranted, TrainMessage}
use Rattle.rbc_spec.specs.OwnSteps.{is_cut_of, last_kept_of, release_words, shortened, shortening_words, without_ask}
use Rattle.rbc_spec.specs.Place.{Place, place_on, Position}
use Rattle.rbc_spec.specs.Rules.{cut}

-- ## In time

module _ (line : Line) (ok : IsLine line) (w : Flow) (sound : IsFlowSound line w) (v : LineState)
    (sees : Shows line w v) (c t : ℕ) (to : is_centre line c ≡ true) (last_kept : ℕ)
    (m : Mission) (at : (w.at c).mission t ≡ Some (unasked m)) where
  abbrev now : Centre
  now = w.at c

  -- no request was pending
  unasked_already : without_ask t v ≡ v
  unasked_already = λ i. record v { mission = λ u. same u i }
    where
      same : (u : ℕ) → put v.mission t (option_map (λ (n : LineMission). record n { proposal = None }) (v.mission t)) u
          ≡ v.mission u
      same u = put_same t (option_map (λ (n : LineMission). record n { proposal = None }) (v.mission t)) v.mission
          (sees.mission t c (unasked m) at
          ∙ sym (ap (option_map (λ (n : LineMission). record n { proposal = None }))
          (sees.mission t c (unasked m) at))) u

  cut_now : CutSo line ok w sound v sees c t to last_kept m None at (cut line c t last_kept m now)
  cut_now = cuts line ok w sound v sees c t to last_kept m None at

  cut_shows : Shows line (replied w c (cut line c t last_kept m now))
      (close_if_empty line t (release line c t (is_cut_of v t last_kept) v))
  cut_shows =
      subst (λ (x : LineState). Shows line (replied w c (cut line c t last_kept m now))
      (close_if_empty line t (release line c t (is_cut_of v t last_kept) x))) unasked_already cut_now.shows

  rest_keeps : IsFlowSound line (replied w c (rest now))
  rest_keeps = act_sound line ok c w sound to (rest now) (rest_sound line c now (sound.centres c to))
      (λ y counts ready. fair_rest line c y now) (goes_rest now)

  -- if the report has a place, and in time
  pub record Shortens (o : Option Place) (q : Reply) : Type 0 where
    pub tells : said_by q ≡ record { sayings = []; words = shortening_words line t c o last_kept v }
    pub reaches : Reaches line w c q (shortened line t c o last_kept v)

  rests : Reaches line w c (rest now) v
  rests = record { shows = rest_shown line ok w sound v sees c t to (unasked m) at; sound = rest_keeps }

  pub shortens : (position : Position)
      → Shortens (place_on line m.place.track position) (cut_in_time line c t last_kept position m now)
  shortens position = by_place (place_on line m.place.track position)
    where
      by_place : (o : Option Place)
          → Shortens o
          (option_map_or (λ place. if nat_le place.front (10 * end line last_kept) then cut line c t
          last_kept m else rest) o rest now)
      by_place None = record { tells = refl; reaches = rests }
      by_place (Some place) = let r = by_time (nat_le place.front (10 * end line last_kept)) in
          record { tells = r.0; reaches = r.1 }
        where
          by_time : (b : Bool) → let q = (if b then cut line c t last_kept m else rest) now in
              (said_by q
              ≡ record { sayings = []; words = if b then release_words line c (is_cut_of v t last_kept) v else [] })
              × Reaches line w c q
              (if b then close_if_empty line t (release line c t (is_cut_of v t last_kept) v) else v)
          by_time true = (
            cut_now.tells,
            record { shows = cut_shows; sound = cut_keeps line ok w sound v sees c t to last_kept m None at },
          )
          by_time false = (refl, rests)

-- ## The request ends

module _ (line : Line) (ok : IsLine line) (w : Flow) (sound : IsFlowSound line w) (v : LineState)
    (sees : Shows line w v) (c : ℕ) (to : is_centre line c ≡ true) (t_train t stamp : ℕ) (position : Position)
    (m : Mission) (at : (w.at c).mission t ≡ Some m) (p : Proposal) (asked : m.proposal ≡ Some p) where
  abbrev message : TrainMessage
  message = record { t_train = t_train; nid_engine = t; body = ShorteningGranted stamp position }

  abbrev start : Centre
  start = w.at c

  abbrev first : Act
  first = change_here t unasked

  abbrev mid : Flow
  mid = replied w c (first start)

  first_sets : Sets c t (Some (unasked m)) start (first start)
  first_sets = subst (λ o. Sets c t o start (first start)) (ap (option_map unasked) at) (sets_change c t unasked start)

  mid_shows : Shows line (replied w c (first start)) (without_ask t v)
  mid_shows = subst (λ o. Shows line (replied w c (first start)) (set_mission t o v))
      (sym (ap (option_map (λ (n : LineMission). record n { proposal = None })) (sees.mission t c m at)))
      (kept_shown line w sound v sees c t to m at (unasked m) (first start) refl first_sets)

  mid_sound : IsFlowSound line (replied w c (first start))
  mid_sound = act_sound line ok c w sound to (first start)
      (changed_sound line c start (sound.centres c to) t unasked (λ n has. refl)
      (λ n has. other_words line ok c start n n.has_data n.is_ended None ((sound.centres c to).mission t n has)))
      (λ y counts ready. fair_change line c y t unasked start (λ n. (refl, refl)))
      (goes_change t unasked start (λ n. refl))

  there : (mid.at c).mission t ≡ Some (unasked m)
  there = ap (λ (x : Centre). x.mission t) (state_then w c (first start)) ∙ first_sets.mission t
      ∙ put_there start.mission t (Some (unasked m))

  abbrev second : Act
  second = cut_in_time line c t p.last_kept position m

  done : Shortens line ok mid mid_sound (without_ask t v) mid_shows c t to p.last_kept m there
      (place_on line m.place.track position) (second (mid.at c))
  done = shortens line ok mid mid_sound (without_ask t v) mid_shows c t to p.last_kept m there position

  last_is : last_kept_of v t ≡ p.last_kept
  last_is = ap (λ (o : Option LineMission). option_map_or (λ n. option_map_or (λ q. q.last_kept) n.proposal 0) o 0)
      (sees.mission t c m at) ∙ ap (λ (o : Option Proposal). option_map_or (λ q. q.last_kept) o 0) asked

  same_words : (o : Option Place) → shortening_words line t c o p.last_kept (without_ask t v)
      ≡ shortening_words line t c o p.last_kept v
  same_words None = refl
  same_words (Some place) = refl

  then_second : (x : Centre) → mid.at c ≡ x
      → Reaches line mid c (second x) (shortened line t c (place_on line m.place.track position)
      p.last_kept (without_ask t v))
      × (said_by (second x)
      ≡ record {
        sayings = [];
        words = shortening_words line t c
            (place_on line m.place.track position) p.last_kept v;
      })
  then_second x is =
      subst (λ (z : Centre). Reaches line mid c (second z)
      (shortened line t c (place_on line m.place.track position) p.last_kept (without_ask t v))
      × (said_by (second z)
      ≡ record {
        sayings = [];
        words = shortening_words line t c
            (place_on line m.place.track position) p.last_kept v;
      })) is (
        done.reaches,
        done.tells ∙ ap (λ ws. record { sayings = []; words = ws })
            (same_words (place_on line m.place.track position)),
      )

  both_said : said_by ((first >> second) start) ≡ said_by (second (first start).state)
  unfolding ◌>>◌
  both_said = refl

  granted_so : Answers line w c message ((first >> second) start) v
  granted_so =
      let two = then_second (first start).state (state_then w c (first start)) in
      let reaches = reaches_then line w c first second start
      (shortened line t c (place_on line m.place.track position) p.last_kept (without_ask t v)) two.0 in
      record {
        mid = shortened line t c (place_on line m.place.track position) p.last_kept (without_ask t v);
        own = record {
          said_is = both_said ∙ two.1
              ∙ ap (λ ws. record { sayings = []; words = ws })
              (sym (λ i. shortening_words line t c (track_is line ok w sound v sees c t to m at position i)
              (last_is i) v));
          new_is = sym (λ i. shortened line t c (track_is line ok w sound v sees c t to m at position i)
              (last_is i) (without_ask t v));
        };
        shows = reaches.shows;
        sound = reaches.sound;
      }

  granted_is : own_granted line c t position start ≡ (first >> second) start
  granted_is =
      ap (λ (o : Option Mission). option_map_or
      (λ n. option_map_or (λ q. (change_here t unasked >> cut_in_time line c t q.last_kept position n) start) n.proposal
      (rest start)) o (rest start)) at
      ∙ ap (λ (o : Option Proposal). option_map_or
      (λ q. (change_here t unasked >> cut_in_time line c t q.last_kept position m) start) o (rest start)) asked

  pub granted_answers : Answers line w c message (own_granted line c t position (w.at c)) v
  granted_answers = subst (λ q. Answers line w c message q v) (sym granted_is) granted_so
