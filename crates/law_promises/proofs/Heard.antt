use Rattle.std.proofs.Common.{[], ◌&&◌, ◌*◌, ◌+◌, ◌-◌, ◌<◌, ◌==◌, ◌||◌, ◌∙◌, ◌≡◌, ◌≤◌, ap, arith, Bool, eqb-true, false}
use Rattle.std.proofs.Common.{if◌then◌else◌, inl, inr, leb-true, ltb-true, max, nat_le, nat_lt, None, not, Ok, Option}
use Rattle.std.proofs.Common.{option_map, refl, Some, subst, sym, true, ℕ}
use Rattle.std.proofs.lemmas.Bool.{and_from, and_parts, both_ways, cases_lt, or_cases, or_left, or_right}
use Rattle.std.proofs.lemmas.Option.{same_Some}
use Rattle.std.specs.List.{list_any, range_with_len}
use Rattle.std.specs.Option.{option_and_then, option_map_or}
use Rattle.law_base.proofs.PiecesLemmas.Frees.{by_test}
use Rattle.law_base.proofs.PiecesLemmas.OwnFrees.{closed_mark, closed_wait, own_leaves}
use Rattle.law_base.proofs.PiecesLemmas.Waits.{elsewhere, IsLoose, kept_for, opened, put_at, PutAt, there, WaitsKeep}
use Rattle.law_base.proofs.RulesLemmas.Places.{extent_ahead, IsPlacedOn, placed_on}
use Rattle.law_outside.specs.Outside as outside
use Rattle.law_outside.specs.Outside.{accepted, after_message, all_told, begun, cleared, extended, front_end, gets}
use Rattle.law_outside.specs.Outside.{is_told, metres_from, starts, Stretch, takes_back, up_to, View}
use Rattle.law_promises.proofs.Follows.{after_mission, after_none, after_one, begun_is, changed_there, Follows, given}
use Rattle.law_promises.proofs.Follows.{heard_as, IsSeen, IsStart, metres_is, put_apart, wait_less, wait_none}
use Rattle.law_promises.proofs.Follows.{wait_still}
use Rattle.law_promises.proofs.Marks.{given_moves, if_false, if_true, IsSince, Later, Left, loose_stays, Moves}
use Rattle.law_promises.proofs.Marks.{none_left, released_moves, some_left, Stays, talk_as, Tied, tied_as, under_way}
use Rattle.law_promises.proofs.Marks.{Way}
use Rattle.law_promises.proofs.Promised.{any_one, closed_heard, closed_left, closed_other, found_passes, reported_is}
use Rattle.law_promises.proofs.Promised.{seen_is, start_good, Supervised, supervised_is}
use Rattle.law_promises.proofs.QuietFollows.{accepted_first, accepts_is, begins_follow, free_stays, waiting_loose}
use Rattle.law_promises.proofs.SpansOfStarts.{cleared_less, first_stretch, IsLess}
use Rattle.law_promises.proofs.Standstill.{at_place, by_place, end_less, report_less, stands, stands_less, way_stops}
use Rattle.law_promises.proofs.Tied.{remade, tied_less, way_extends, way_reports, way_restarts, way_shortens}
use Rattle.rbc_spec.proofs.Lists.{itself, on_line, put_other, put_pair_there, put_same, put_there}
use Rattle.rbc_spec.proofs.Places.{ends_rise}
use Rattle.rbc_spec.proofs.Runs.{each_within, same_tests, within_from, within_true}
use Rattle.rbc_spec.specs.Centre.{is_registrar_of, Proposal}
use Rattle.rbc_spec.specs.Line.{end, is_centre, is_home, IsLine, Line, section_of_group, start}
use Rattle.rbc_spec.specs.LineCentre.{At, change_mission, close_if_empty, Given, is_at, is_given_to, is_kept_for}
use Rattle.rbc_spec.specs.LineCentre.{is_mark_open, is_waiting, is_waiting_at, Kept, LineMission, LineState, Mark, Open}
use Rattle.rbc_spec.specs.LineCentre.{release, Said, set_mission, Shut, supervises}
use Rattle.rbc_spec.specs.Maps.{has, put, put_pair}
use Rattle.rbc_spec.specs.Message.{Authority, EndOfMission, InitiationOfSession, Report, Request, SessionEstablished}
use Rattle.rbc_spec.specs.Message.{ShorteningGranted, ShorteningRejected, StartOfMission, TerminationOfSession}
use Rattle.rbc_spec.specs.Message.{TrainBody, TrainData, TrainMessage}
use Rattle.rbc_spec.specs.Outcome.{Saying}
use Rattle.rbc_spec.specs.OwnSteps.{Accepts, begins, ended, Ending, Extends, has_reached, is_ahead_of, is_cleared_of}
use Rattle.rbc_spec.specs.OwnSteps.{is_cut_of, last_kept_of, may_be_given, may_start, Own, Rejects, release_words}
use Rattle.rbc_spec.specs.OwnSteps.{reported, restarted, Restarts, session_ends, shortened, Starts, StartsHere}
use Rattle.rbc_spec.specs.OwnSteps.{StartsNew, stopped, Tells, track_of, waits, without_ask, without_proposal}
use Rattle.rbc_spec.specs.Place.{covered, extent, fit_place, group_start, has_room, is_cleared, Place, place_on}
use Rattle.rbc_spec.specs.Place.{Position}
use Rattle.rbc_spec.specs.Run.{answers_it, last_of_hand, may_request_at}
use Rattle.rbc_spec.specs.SectionRuns.{all_of, next_after, SectionRun, within}
use Rattle.rbc_spec.specs.Sections.{is_on, section_count}
use Rattle.rbc_spec.specs.World.{Bytes, Event}

-- ## A message

module _ (line : Line) (ok : IsLine line) (v : LineState) (x : View) (old : Follows line v x) (c : ℕ)
    (at_centre : is_centre line c ≡ true) (m : TrainMessage) (now : v.heard m.nid_engine c ≡ Some m.t_train)
    (fresh : (n : LineMission) (y : Stretch) → v.mission m.nid_engine ≡ Some n → n.supervisor ≡ At c
    → x.stretch m.nid_engine ≡ Some y → y.since < m.t_train) where
  abbrev t : ℕ
  t = m.nid_engine

  abbrev event : Event
  event = Bytes c (Ok m)

  abbrev changed_view : (Stretch → Stretch) → View
  changed_view change = record x { stretch = put x.stretch t (option_map change (x.stretch t)) }

  keep_of : (body : TrainBody) (said : Said) (new : LineState) → Own line v c m body said new → WaitsKeep line new
  keep_of body said new h = (own_leaves line v old.keep c at_centre m body said new h).waits

  is_now : IsSince m.t_train (v.heard t c)
  is_now = record { last = m.t_train; is = now; le = (omega arith) }

  later_as : (new : LineState) → new.heard ≡ v.heard → (u d : ℕ) → Later (v.heard u d) (new.heard u d)
  later_as new same = heard_as line v x old new same

  -- the stretch of the train changes
  after_stretch : (new : LineState) (change : Stretch → Stretch) → WaitsKeep line new → new.wait ≡ v.wait
      → new.heard ≡ v.heard → ((u : ℕ) → (u ≡ t → ⊥) → (s : ℕ) → given new u s ≡ given v u s)
      → ((u : ℕ) → (u ≡ t → ⊥) → new.mission u ≡ v.mission u)
      → Tied line (given new t) (new.mission t) (option_map change (x.stretch t)) (v.heard t)
      → Follows line new (changed_view change)
  after_stretch new change keep waits heards hands missions tied =
      after_one line v x old t new (changed_view change) old.founded keep
      (wait_still line v x old new (changed_view change) waits refl (later_as new heards)) hands missions
      (λ u apart. put_other x.stretch t u (option_map change (x.stretch t)) apart) (later_as new heards)
      (tied_as line (given new t) (given new t) (new.mission t) (new.mission t) (option_map change (x.stretch t))
      ((changed_view change).stretch t) (v.heard t) (new.heard t) (λ s. refl) refl
      (put_there x.stretch t (option_map change (x.stretch t))) (later_as new heards t) tied)

  -- to this
  changes_to : (k : ℕ → Bool) (o : Option LineMission) (change : Stretch → Stretch) (y z : Stretch)
      → x.stretch t ≡ Some y → change y ≡ z → Tied line k o (Some z) (v.heard t)
      → Tied line k o (option_map change (x.stretch t)) (v.heard t)
  changes_to k o change y z is same h = subst (λ (p : Option Stretch). Tied line k o p (v.heard t))
      (sym (ap (option_map change) is ∙ ap (λ (q : Stretch). Some q) same)) h

  -- a change that changes nothing
  unmoved : (change : Stretch → Stretch) → ((y : Stretch) → change y ≡ y) → changed_view change ≡ x
  unmoved change same =
      λ i. record x {
        stretch = λ u. put_same t (option_map change (x.stretch t)) x.stretch
            (sym (by_stretch (x.stretch t))) u i;
      }
    where
      by_stretch : (o : Option Stretch) → option_map change o ≡ o
      by_stretch None = refl
      by_stretch (Some y) = ap (λ (z : Stretch). Some z) (same y)

  remade_tied : (change : LineMission → LineMission) → ((n : LineMission) → (change n).place ≡ n.place)
      → ((n : LineMission) → (change n).supervisor ≡ n.supervisor)
      → ((n : LineMission) (p : Proposal) → (change n).proposal ≡ Some p → n.proposal ≡ Some p)
      → Tied line (given v t) (option_map change (v.mission t)) (x.stretch t) (v.heard t)
  remade_tied change places supervisors proposals = by_mission (v.mission t) refl
    where
      by_mission : (o : Option LineMission) → v.mission t ≡ o
          → Tied line (given v t) (option_map change o) (x.stretch t) (v.heard t)
      by_mission None is =
          subst (λ (o : Option LineMission). Tied line (given v t) o (x.stretch t) (v.heard t)) is (old.tied t)
      by_mission (Some n) is =
          let w = (old.tied t).way n is in
          subst (λ (o : Option Stretch). Tied line (given v t) (Some (change n)) o (v.heard t)) (sym w.1)
          (under_way line (given v t) (change n) w.0 (v.heard t)
          (remade line (given v t) n (change n) w.0 (v.heard t) (v.heard t) (places n)
          (talk_as line n (change n) w.0 w.0 (v.heard t) (v.heard t) (ap (λ (p : Place). p.track) (places n))
          (supervisors n) (proposals n) refl refl (λ d n h. h) w.2.talk) w.2))

  -- only the mission changes, if there is one
  after_change : (new : LineState) (change : LineMission → LineMission) → WaitsKeep line new → new.wait ≡ v.wait
      → new.mark ≡ v.mark → new.heard ≡ v.heard → new.mission ≡ put v.mission t (option_map change (v.mission t))
      → ((n : LineMission) → (change n).place ≡ n.place) → ((n : LineMission) → (change n).supervisor ≡ n.supervisor)
      → ((n : LineMission) (p : Proposal) → (change n).proposal ≡ Some p → n.proposal ≡ Some p)
      → Follows line new x
  after_change new change keep waits marks heards missions places supervisors proposals =
      after_mission line v x old t new x old.founded keep
      (wait_still line v x old new x waits refl (later_as new heards)) marks
      (λ u apart. ap (λ (f : ℕ → Option LineMission). f u) missions
      ∙ put_other v.mission t u (option_map change (v.mission t)) apart) refl (later_as new heards)
      (tied_as line (given v t) (given v t) (option_map change (v.mission t)) (new.mission t) (x.stretch t)
      (x.stretch t) (v.heard t) (new.heard t) (λ s. refl)
      (ap (λ (f : ℕ → Option LineMission). f t) missions ∙ put_there v.mission t (option_map change (v.mission t))) refl
      (later_as new heards t) (remade_tied change places supervisors proposals))

  -- ## Sessions

  without_place : (n : LineMission) → (without_proposal c n).place ≡ n.place
  without_place n = by_case (is_at c n.supervisor)
    where
      by_case : (b : Bool) → (if b then record n { proposal = None } else n).place ≡ n.place
      by_case true = refl
      by_case false = refl

  without_supervisor : (n : LineMission) → (without_proposal c n).supervisor ≡ n.supervisor
  without_supervisor n = by_case (is_at c n.supervisor)
    where
      by_case : (b : Bool) → (if b then record n { proposal = None } else n).supervisor ≡ n.supervisor
      by_case true = refl
      by_case false = refl

  without_some : (n : LineMission) (p : Proposal) → (without_proposal c n).proposal ≡ Some p → n.proposal ≡ Some p
  without_some n p = by_case (is_at c n.supervisor)
    where
      by_case : (b : Bool) → (if b then record n { proposal = None } else n).proposal ≡ Some p → n.proposal ≡ Some p
      by_case true is = cc
      by_case false is = is

  session_follows : (new : LineState) → WaitsKeep line new → new.mark ≡ (session_ends line t c v).mark
      → new.wait ≡ put_pair v.wait t c None → new.mission ≡ (session_ends line t c v).mission → new.heard ≡ v.heard
      → Follows line new (starts t c None x)
  session_follows new keep marks waits missions heards =
      let stays = free_stays v (is_waiting_at line v t c) (waiting_loose line v old.keep t c) in
      after_one line v x old t new (starts t c None x) old.founded keep
      (wait_less line v x old new (starts t c None x) t c waits (λ u d apart. put_apart x.start t c None u d apart)
      (later_as new heards))
      (λ u apart s. ap (λ (f : ℕ → Mark). is_given_to u (f s)) marks ∙ stays.hands u s)
      (λ u apart. ap (λ (f : ℕ → Option LineMission). f u) missions
      ∙ put_other v.mission t u (option_map (without_proposal c) (v.mission t)) apart)
      (λ u apart. refl) (later_as new heards)
      (tied_as line (given v t) (given new t) (option_map (without_proposal c) (v.mission t)) (new.mission t)
      (x.stretch t) (x.stretch t) (v.heard t) (new.heard t)
      (λ s. ap (λ (f : ℕ → Mark). is_given_to t (f s)) marks ∙ stays.hands t s)
      (ap (λ (f : ℕ → Option LineMission). f t) missions
      ∙ put_there v.mission t (option_map (without_proposal c) (v.mission t))) refl (later_as new heards t)
      (remade_tied (without_proposal c) without_place without_supervisor without_some))

  -- ## A start

  module _ (is_valid : Bool) (position : Position) (no_wait : v.wait t c ≡ None) where
    abbrev reach : Option Stretch
    reach = if is_valid then option_and_then (begun line m.t_train) (extent line position) else None

    abbrev seen : View
    seen = starts t c reach x

    elsewhere_still : (u d : ℕ) → (u ≡ t → d ≡ c → ⊥) → (starts t c None seen).start u d ≡ x.start u d
    elsewhere_still u d apart = put_apart seen.start t c None u d apart ∙ put_apart x.start t c reach u d apart

    rejects_follow : (said : Said) (new : LineState) → WaitsKeep line new → Rejects t c v said new
        → Follows line new (all_told line event said.sayings seen)
    rejects_follow said new keep h =
        let heards = ap (λ (n : LineState). n.heard) h.new_is in
        subst (λ (p : Said). Follows line new (all_told line event p.sayings seen)) (sym h.said_is)
        (after_none line v x old new (starts t c None seen) old.founded keep
        (wait_none line v x old new (starts t c None seen) t c no_wait (ap (λ (n : LineState). n.wait) h.new_is)
        elsewhere_still (later_as new heards))
        (λ u s. ap (λ (n : LineState). is_given_to u (n.mark s)) h.new_is) (ap (λ (n : LineState). n.mission) h.new_is)
        refl (later_as new heards))

    module _ (place : Place) (fits : fit_place line is_valid position ≡ Some place) where
      good : IsStart line place
      good = start_good line is_valid position place fits

      abbrev first : Stretch
      first = first_stretch line ok place good.fit m.t_train

      seen_there : seen.start t c ≡ begun line m.t_train place
      seen_there = put_pair_there x.start t c reach ∙ seen_is line is_valid position place m.t_train fits

      abbrev told : Stretch → View
      told z = record (starts t c None seen) { stretch = put x.stretch t (Some z) }

      told_is : (z : Stretch) (said : Said) (changed new : LineState) → Accepts t c v changed said new
          → accepted (x.stretch t) first ≡ Some z → Follows line new (told z)
          → Follows line new (all_told line event said.sayings seen)
      told_is z said changed new h is f =
          subst (λ (p : Said). Follows line new (all_told line event p.sayings seen)) (sym h.said_is)
          (subst (Follows line new)
          (sym (accepts_is line ok v x old event t (v.said t c + 1) seen z first (seen_there
          ∙ begun_is line ok place good m.t_train) is)) f)

      restarts_follow : (said : Said) (new : LineState) → supervises v c t ≡ true → WaitsKeep line new
          → Restarts line t c place v said new → Follows line new (all_told line event said.sayings seen)
      restarts_follow said new here keep h = by_test (all_of (λ s. is_given_to t (v.mark s)) (covered line place)) _ _
          (λ all a. goes_on all a) (λ _ r. rejects_follow said new keep r) h
        where
          sup : Supervised v c t
          sup = supervised_is v c t here

          change : LineMission → LineMission
          change n = record n { place = place; has_data = false; is_ended = false; proposal = None }

          goes_on : all_of (λ s. is_given_to t (v.mark s)) (covered line place) ≡ true
              → Accepts t c v (restarted t place v) said new → Follows line new (all_told line event said.sayings seen)
          goes_on all a =
              let w = (old.tied t).way sup.m sup.of_train in
              let heards = ap (λ (n : LineState). n.heard) a.new_is in
              let r = way_restarts line ok place good.fit good.ahead m.t_train (given v t) sup.m (change sup.m) w.0
              (v.heard t) (v.heard t) c refl refl sup.at is_now (w.2.talk.since c sup.at)
              (each_within (λ s. is_given_to t (v.mark s)) (covered line place) all) w.2 in
              told_is r.0 said (restarted t place v) new a (ap (λ (o : Option Stretch). accepted o first) w.1 ∙ r.1)
              (after_one line v x old t new (told r.0) old.founded keep
              (wait_none line v x old new (told r.0) t c no_wait (ap (λ (n : LineState). n.wait) a.new_is)
              elsewhere_still (later_as new heards))
              (λ u apart s. ap (λ (n : LineState). is_given_to u (n.mark s)) a.new_is)
              (λ u apart. ap (λ (n : LineState). n.mission u) a.new_is
              ∙ put_other v.mission t u (option_map change (v.mission t)) apart)
              (λ u apart. put_other x.stretch t u (Some (r.0)) apart) (later_as new heards)
              (tied_as line (given v t) (given new t) (Some (change sup.m)) (new.mission t) (Some (r.0))
              ((told r.0).stretch t) (v.heard t) (new.heard t)
              (λ s. ap (λ (n : LineState). is_given_to t (n.mark s)) a.new_is)
              (ap (λ (n : LineState). n.mission t) a.new_is
              ∙ changed_there line v x old t change sup.m sup.of_train)
              (put_there x.stretch t (Some (r.0))) (later_as new heards t)
              (under_way line (given v t) (change sup.m) r.0 (v.heard t) r.2)))

      mark_open : (k : Mark) → is_mark_open k ≡ true → k ≡ Open
      mark_open Shut h = cc
      mark_open Open h = refl
      mark_open (Kept u) h = cc
      mark_open (Given u) h = cc

      may_loose : may_start line v c place ≡ true → (s : ℕ) → within (covered line place) s ≡ true → IsLoose (v.mark s)
      may_loose may s so =
          opened (mark_open (v.mark s) (and_parts (is_home line c s) (is_mark_open (v.mark s))
          (each_within (λ e. is_home line c e && is_mark_open (v.mark e)) (covered line place) may s so)).1)

      here_follows : (said : Said) (new : LineState) → may_start line v c place ≡ true → WaitsKeep line new
          → StartsHere line t c place v said new → Follows line new (all_told line event said.sayings seen)
      here_follows said new may keep (inr h) = rejects_follow said new keep h
      here_follows said new may keep (inl h) =
          let heards = ap (λ (n : LineState). n.heard) h.1.new_is in
          told_is first said (begins line t c place v) new h.1
          (accepted_first line ok v x old event t m.t_train place good h.0)
          (begins_follow line ok v x old event t c m.t_train place good new (told first) old.founded h.0 (may_loose may)
          (ap (λ (n : LineState). n.mark) h.1.new_is) (ap (λ (n : LineState). n.mission) h.1.new_is) keep
          (wait_none line v x old new (told first) t c no_wait (ap (λ (n : LineState). n.wait) h.1.new_is)
          elsewhere_still (later_as new heards)) refl heards is_now)

      waits_stays : may_start line v c place ≡ true → Stays v.mark (waits line t c place v).mark
      waits_stays may = loose_stays v.mark (waits line t c place v).mark (within (covered line place))
          (λ s fails. if_false (within (covered line place) s) (Kept t) (v.mark s) fails) (may_loose may)
          (λ s u so. ap (is_given_to u) (if_true (within (covered line place) s) (Kept t) (v.mark s) so))

      waits_follow : (said : Said) (new : LineState) → may_start line v c place ≡ true → WaitsKeep line new
          → said.sayings ≡ [] → new ≡ waits line t c place v → Follows line new (all_told line event said.sayings seen)
      waits_follow said new may keep none is =
          subst (λ ps. Follows line new (all_told line event ps seen)) (sym none)
          (after_none line v x old new seen old.founded keep waiting
          (λ u s. ap (λ (n : LineState). is_given_to u (n.mark s)) is ∙ (waits_stays may).hands u s)
          (ap (λ (n : LineState). n.mission) is) refl (later_as new heards))
        where
          heards : new.heard ≡ v.heard
          heards = ap (λ (n : LineState). n.heard) is

          waiting : (u d : ℕ) (p : Place) → new.wait u d ≡ Some p → IsSeen line seen (new.heard u d) u d p
          waiting u d p some = by_pair (put_at v.wait t c (Some place) u d) (put_at x.start t c reach u d)
              (sym (ap (λ (n : LineState). n.wait u d) is) ∙ some)
            where
              by_pair : PutAt v.wait t c (Some place) u d → PutAt x.start t c reach u d
                  → put_pair v.wait t c (Some place) u d ≡ Some p → IsSeen line seen (new.heard u d) u d p
              by_pair (there a b at) (there e f put) so = let same : place ≡ p = same_Some place p (sym at ∙ so) in
                  subst (IsSeen line seen (new.heard u d) u d) same (record {
                    since = m.t_train;
                    good = good;
                    seen = put ∙ seen_is line is_valid position place m.t_train fits;
                    now = later_as new heards u d m.t_train
                        (subst (λ (k : ℕ). IsSince m.t_train (v.heard k d)) (sym a)
                        (subst (λ (k : ℕ). IsSince m.t_train (v.heard t k)) (sym b) is_now));
                  })
              by_pair (there a b at) (elsewhere apart put) so = absurd (apart a b)
              by_pair (elsewhere apart at) (there e f put) so = absurd (apart e f)
              by_pair (elsewhere apart at) (elsewhere apart2 put) so = let was = old.waits u d p (sym at ∙ so) in
                  record {
                    since = was.since;
                    good = was.good;
                    seen = put
                        ∙ was.seen;
                    now = later_as new heards u d was.since was.now;
                  }

      new_follows : (said : Said) (new : LineState) → WaitsKeep line new → StartsNew line t c place v said new
          → Follows line new (all_told line event said.sayings seen)
      new_follows said new keep h = by_test (may_start line v c place) _ _
          (λ may n. by_test (is_registrar_of line c t) _ _ (λ _ a. here_follows said new may keep a)
          (λ _ a. waits_follow said new may keep (ap (λ (p : Said). p.sayings) a.said_is) a.new_is) n)
          (λ _ r. rejects_follow said new keep r) h

    starts_follow : (o : Option Place) (said : Said) (new : LineState) → fit_place line is_valid position ≡ o
        → WaitsKeep line new → Starts line t c o v said new → Follows line new (all_told line event said.sayings seen)
    starts_follow None said new fits keep h = rejects_follow said new keep h
    starts_follow (Some place) said new fits keep h =
        by_test (supervises v c t) _ _ (λ here r. restarts_follow place fits said new here keep r)
        (λ _ n. new_follows place fits said new keep n) h

  -- ## A request

  open_or_kept : (s : ℕ) → may_be_given line v c t s ≡ true → IsLoose (v.mark s)
  open_or_kept s may =
      elim (or_cases (is_home line c s && is_mark_open (v.mark s)) (is_kept_for t (v.mark s)
      && not (is_waiting line v t s)) may) [
        | inl o ↦ opened (mark_is_open (v.mark s) (and_parts (is_home line c s) (is_mark_open (v.mark s)) o).1)
        | inr k ↦
            kept_for t
            (mark_is_kept (v.mark s) (and_parts (is_kept_for t (v.mark s)) (not (is_waiting line v t s)) k).0)
      ]
    where
      mark_is_open : (k : Mark) → is_mark_open k ≡ true → k ≡ Open
      mark_is_open Shut h = cc
      mark_is_open Open h = refl
      mark_is_open (Kept u) h = cc
      mark_is_open (Given u) h = cc

      mark_is_kept : (k : Mark) → is_kept_for t k ≡ true → k ≡ Kept t
      mark_is_kept Shut h = cc
      mark_is_kept Open h = cc
      mark_is_kept (Kept u) h = ap (λ (n : ℕ). Kept n) (eqb-true u t h)
      mark_is_kept (Given u) h = cc

  -- the front of the request's place is not past some section of the hand
  pub record IsWithin (place : Place) : Type 0 where
    pub s : ℕ
    pub given_it : is_given_to t (v.mark s) ≡ true
    pub front : place.front ≤ 10 * end line s

  pub within_is : (n : LineMission) (position : Position) (place : Place) → may_request_at line v t n position ≡ true
      → place_on line n.place.track position ≡ Some place → IsWithin place
  within_is n position place may on =
      by_last (last_of_hand line v t) refl
      (subst (λ (o : Option Place). option_map_or
      (λ (p : Place). has (λ s. nat_le p.front (10 * end line s) && has_room line p (end line s))
      (last_of_hand line v t)) o false ≡ true) on may)
    where
      by_last : (o : Option ℕ) → last_of_hand line v t ≡ o
          → option_map_or (λ s. nat_le place.front (10 * end line s) && has_room line place (end line s)) o false ≡ true
          → IsWithin place
      by_last None is h = cc
      by_last (Some s) is h = record {
        s = s;
        given_it =
            (and_parts (is_given_to t (v.mark s)) (not (is_given_to t (v.mark (s + 1))))
            (found_passes (λ e. is_given_to t (v.mark e) && not (is_given_to t (v.mark (e + 1))))
            (range_with_len 0 (section_count line)) s is)).0;
        front = leb-true place.front (10 * end line s)
            (and_parts (nat_le place.front (10 * end line s)) (has_room line place (end line s)) h).0;
      }

  extends_follow : (n : LineMission) (position : Position) (place : Place) (said : Said) (new : LineState)
      → v.mission t ≡ Some n → n.supervisor ≡ At c → n.proposal ≡ None
      → place_on line n.place.track position ≡ Some place → IsWithin place → WaitsKeep line new
      → Extends line v t c place said new → Follows line new (all_told line event said.sayings x)
  extends_follow n position place said new is at none on inside keep h =
      subst (λ (p : Said). Follows line new (all_told line event p.sayings x)) (sym h.says_it.said_is)
      (subst (Follows line new) (sym told_is)
      (after_one line v x old t new y old.founded keep
      (wait_still line v x old new y (ap (λ (w : LineState). w.wait) h.says_it.new_is) refl later)
      (λ u apart s. ap (λ (w : LineState). is_given_to u (w.mark s)) h.says_it.new_is ∙ moves.others u apart s)
      (λ u apart. ap (λ (w : LineState). w.mission u) h.says_it.new_is
      ∙ put_other v.mission t u (option_map change (v.mission t)) apart)
      (λ u apart. put_other x.stretch t u (Some z) apart) later
      (tied_as line (given new t) (given new t) (Some (change n)) (new.mission t) (Some z) (y.stretch t)
      (v.heard t) (new.heard t) (λ s. refl)
      (ap (λ (w : LineState). w.mission t) h.says_it.new_is ∙ changed_there line v x old t change n is)
      (put_there x.stretch t (Some z)) (later t)
      (under_way line (given new t) (change n) z (v.heard t)
      (way_extends line (given v t) (given new t) n (change n) way.0 (v.heard t) h.hand h.count
      (max way.0.since m.t_train) c placed.track_is (reported_is line position place placed.extent_is) none at
      sent_now h.is_hand.each longer_is on_more
      (λ s so. here s ∙ or_right (within more s) (given v t s) so) way.2)))))
    where
      placed : IsPlacedOn line n.place.track position place
      placed = placed_on line n.place.track position place on

      later : (u d : ℕ) → Later (v.heard u d) (new.heard u d)
      later = later_as new (ap (λ (w : LineState). w.heard) h.says_it.new_is)

      more : SectionRun
      more = record { first = next_after h.hand; count = h.count }

      longer : SectionRun
      longer = record { first = h.hand.first; count = h.hand.count + h.count }

      last : ℕ
      last = next_after h.hand + h.count - 1

      change : LineMission → LineMission
      change k = record k { place = place }

      parts : (s : ℕ) → within more s ≡ true → (may_be_given line v c t s ≡ true) × (is_on line place.track s ≡ true)
      parts s so = and_parts (may_be_given line v c t s) (is_on line place.track s)
          (each_within (λ e. may_be_given line v c t e && is_on line place.track e) more h.each s so)

      moves : Moves v.mark (λ s. if within more s then Given t else v.mark s) t (λ s. within more s
          || is_given_to t (v.mark s))
      moves = given_moves v.mark t (within more) (λ s so. open_or_kept s (parts s so).0)

      on_more : (s : ℕ) → within more s ≡ true → is_on line n.place.track s ≡ true
      on_more s so = subst (λ (k : ℕ). is_on line k s ≡ true) placed.track_is (parts s so).1

      here : (s : ℕ) → given new t s ≡ (within more s || given v t s)
      here s = ap (λ (w : LineState). is_given_to t (w.mark s)) h.says_it.new_is ∙ moves.here s

      longer_is : (s : ℕ) → given new t s ≡ within longer s
      longer_is s = same_tests (given new t s) (within longer s)
          (λ so. elim (or_cases (within more s) (given v t s) (sym (here s) ∙ so)) [
            | inl a ↦ let ends = within_true more s a in let low = ends.0 in let high = ends.1 in
                within_from longer s (omega (arith, low)) (omega (arith, high))
            | inr b ↦ let ends = within_true h.hand s (sym (h.is_hand.each s) ∙ b) in let low = ends.0 in
                let high = ends.1 in within_from longer s low (omega (arith, high))
          ])
          (λ so. let ends = within_true longer s so in let low = ends.0 in let high = ends.1 in
          here s ∙ elim (cases_lt s (h.hand.first + h.hand.count)) [
            | inl less ↦ or_right (within more s) (given v t s) (h.is_hand.each s ∙ within_from h.hand s low less)
            | inr past ↦ or_left (within more s) (given v t s) (within_from more s past (omega (arith, high)))
          ])

      way : (y : Stretch) × (x.stretch t ≡ Some y) × Way line (given v t) n y (v.heard t)
      way = (old.tied t).way n is

      sent_now : IsSince (max way.0.since m.t_train) (v.heard t c)
      sent_now =
          record { last = m.t_train; is = now; le = (let less = fresh n way.0 is at way.1 in omega (arith, less)) }

      z : Stretch
      z = record (way.0) { end = max way.0.end (end line last); since = max way.0.since m.t_train; asked = None }

      y : View
      y = record x { stretch = put x.stretch t (Some z) }

      on_hand : (s : ℕ) → given v t s ≡ true → is_on line n.place.track s ≡ true
      on_hand s so = subst (λ (k : ℕ). is_on line k s ≡ true) way.2.track (way.2.spans.on s so)

      ends_hand : (h.hand.first ≤ inside.s) × (inside.s < h.hand.first + h.hand.count)
      ends_hand = within_true h.hand inside.s (sym (h.is_hand.each inside.s) ∙ inside.given_it)

      on_last : is_on line n.place.track last ≡ true
      on_last = let low = ends_hand.0 in let high = ends_hand.1 in elim (cases_lt last (h.hand.first + h.hand.count)) [
        | inl less ↦ on_hand last (h.is_hand.each last ∙ within_from h.hand last (omega (arith, low, high)) less)
        | inr past ↦ on_more last (within_from more last past (omega (arith, low, high)))
      ]

      metres : group_start line place + (end line last - group_start line place) ≡ end line last
      metres =
          let high = ends_hand.1 in
          let rises = ends_rise line n.place.track inside.s last (on_hand inside.s inside.given_it)
          on_last (omega (arith, high)) in
          let ahead = extent_ahead line position place placed.extent_is in
          let front = inside.front in
          omega (arith, rises, ahead, front)

      saying : Saying
      saying = record {
        nid_engine = t;
        message = record {
          t_train = v.said t c + 1;
          nid_lrbg = place.group;
          body = Authority (end line last - group_start line place);
        };
      }

      told_is : is_told line event saying saying.message.body x ≡ y
      told_is =
          ap (λ (o : Option Stretch).
          gets t (option_and_then (extended line event t place.group (end line last - group_start line place)) o)
          x) way.1
          ∙ ap (λ (o : Option ℕ).
          gets t (option_and_then {T = ℕ} {U = Stretch}
          (λ stamp. option_map {T = ℕ} {U = Stretch}
          (λ e. record (way.0) { end = max way.0.end e; since = max way.0.since stamp; asked = None })
          (metres_from line place.group (end line last - group_start line place) way.0)) o) x)
          (if_true (t == t) (Some m.t_train) None (itself t))
          ∙ ap (λ (o : Option ℕ).
          gets t (option_map {T = ℕ} {U = Stretch}
          (λ e. record (way.0) { end = max way.0.end e; since = max way.0.since m.t_train; asked = None }) o) x)
          (metres_is line place (end line last - group_start line place) way.0
          (subst (λ (k : ℕ). has (is_on line k) (section_of_group line place.group) ≡ true) (placed.track_is
          ∙ sym way.2.track) (reported_is line position place placed.extent_is).group)
          ∙ ap (λ (k : ℕ). Some k) metres)

  -- ## Reports

  track_is : (n : LineMission) → v.mission t ≡ Some n → track_of v t ≡ n.place.track
  track_is n is = ap (λ (o : Option LineMission). option_map_or (λ k. k.place.track) o 0) is

  low_of : (n : LineMission) → v.mission t ≡ Some n → (s : ℕ) → given v t s ≡ true → s < section_count line
  low_of n is s so = let w = (old.tied t).way n is in on_line line w.0.track s (w.2.spans.on s so)

  -- nothing is taken back by the line centre
  lesser_follow : (change : Stretch → Stretch) (new : LineState) → ((y : Stretch) → IsLess line y (change y))
      → WaitsKeep line new → new.mark ≡ v.mark → new.wait ≡ v.wait → new.heard ≡ v.heard
      → ((u : ℕ) → (u ≡ t → ⊥) → new.mission u ≡ v.mission u)
      → Tied line (given v t) (new.mission t) (x.stretch t) (v.heard t) → Follows line new (changed_view change)
  lesser_follow change new less keep marks waits heards missions tied =
      after_stretch new change keep waits heards (λ u apart s. ap (λ (f : ℕ → Mark). is_given_to u (f s)) marks)
      missions
      (tied_as line (given v t) (given new t) (new.mission t) (new.mission t) (option_map change (x.stretch t))
      (option_map change (x.stretch t)) (v.heard t) (v.heard t)
      (λ s. ap (λ (f : ℕ → Mark). is_given_to t (f s)) marks) refl refl (λ d n h. h)
      (tied_less line (given v t) (new.mission t) (x.stretch t) (v.heard t) change (λ y is. less y) tied))

  pub listens_follow : (position : Position) (new : LineState) → WaitsKeep line new → new.mark ≡ v.mark
      → new.wait ≡ v.wait → new.heard ≡ v.heard → new.mission ≡ v.mission
      → Follows line new (changed_view (after_message line c m.t_train (Report position)))
  listens_follow position new keep marks waits heards missions =
      lesser_follow (after_message line c m.t_train (Report position)) new (report_less line c m.t_train position) keep
      marks waits heards (λ u apart. ap (λ (f : ℕ → Option LineMission). f u) missions)
      (subst (λ (o : Option LineMission). Tied line (given v t) o (x.stretch t) (v.heard t))
      (sym (ap (λ (f : ℕ → Option LineMission). f t) missions)) (old.tied t))

  left_as : (g k : ℕ → Bool) (n : LineMission) (o : Option LineMission) → ((s : ℕ) → k s ≡ g s)
      → Left g n o → Left k n o
  left_as g k n _ same (some_left one is) = some_left one (same one ∙ is)
  left_as g k n _ same (none_left none) = none_left (λ s. same s ∙ none s)

  silently : (said : Said) (new : LineState) (y : View) → said.sayings ≡ [] → Follows line new y
      → Follows line new (all_told line event said.sayings y)
  silently said new y none h = subst (λ ps. Follows line new (all_told line event ps y)) (sym none) h

  and_again : (a b : Bool) → (a && not (a && b)) ≡ (a && not b)
  and_again true b = refl
  and_again false b = refl

  -- the mission after its end
  abbrev fin_ended : LineMission → LineMission
  fin_ended k = record k { is_ended = true; proposal = None }

  module _ (position : Position) (n : LineMission) (is : v.mission t ≡ Some n) (at : n.supervisor ≡ At c)
      (place : Place) (on : place_on line n.place.track position ≡ Some place) where
    abbrev placed_there : LineMission → LineMission
    placed_there k = record k { place = place }

    abbrev without : LineState
    without = release line c t (is_cleared_of line v t place) v

    abbrev after_report : LineState
    after_report = change_mission t placed_there without

    abbrev past_report : LineState
    past_report = reported line t c place v

    placed : IsPlacedOn line n.place.track position place
    placed = placed_on line n.place.track position place on

    way : (y : Stretch) × (x.stretch t ≡ Some y) × Way line (given v t) n y (v.heard t)
    way = (old.tied t).way n is

    -- the place is on the track of the stretch, and the message is new
    same_track : place.track ≡ way.0.track
    same_track = placed.track_is ∙ sym way.2.track

    is_fresh : way.0.since < m.t_train
    is_fresh = fresh n way.0 is at way.1

    report_is : after_message line c m.t_train (Report position) way.0 ≡ cleared place way.0
    report_is = at_place line m.t_train position (λ p. cleared p way.0) way.0 place placed.extent_is same_track is_fresh

    end_is : after_message line c m.t_train (EndOfMission position) way.0
        ≡ stands line position place (cleared place way.0)
    end_is = at_place line m.t_train position (λ p. stands line position p (cleared p way.0)) way.0 place
        placed.extent_is same_track is_fresh

    report_moves : Moves v.mark without.mark t (λ s. given v t s && not (is_cleared_of line v t place s))
    report_moves = released_moves line c t (is_cleared_of line v t place) v
        (λ s so. (and_parts (is_given_to t (v.mark s)) (is_cleared line place s) so).0)

    report_left : Left (given without t) (placed_there n) (past_report.mission t)
    report_left = closed_left line t after_report (placed_there n)
        (λ s so. low_of n is s (and_parts (given v t s) (not (is_cleared_of line v t place s))
        (sym (report_moves.here s) ∙ so)).0)
        (put_there v.mission t (option_map placed_there (v.mission t)) ∙ ap (option_map placed_there) is)

    after_marks : past_report.mark ≡ without.mark
    after_marks = closed_mark (list_any (λ s. is_given_to t (without.mark s)) (range_with_len 0 (section_count line)))
        after_report (set_mission t None after_report) refl

    after_wait : past_report.wait ≡ v.wait
    after_wait = closed_wait (list_any (λ s. is_given_to t (without.mark s)) (range_with_len 0 (section_count line)))
        after_report (set_mission t None after_report) refl

    after_heard : past_report.heard ≡ v.heard
    after_heard = closed_heard (list_any (λ s. is_given_to t (without.mark s)) (range_with_len 0 (section_count line)))
        after_report (set_mission t None after_report) refl

    after_others : (u : ℕ) → (u ≡ t → ⊥) → (s : ℕ) → given past_report u s ≡ given v u s
    after_others u apart s = ap (λ (f : ℕ → Mark). is_given_to u (f s)) after_marks ∙ report_moves.others u apart s

    after_missions : (u : ℕ) → (u ≡ t → ⊥) → past_report.mission u ≡ v.mission u
    after_missions u apart = closed_other line t u after_report apart
        ∙ put_other v.mission t u (option_map placed_there (v.mission t)) apart

    after_left : Left (given past_report t) (placed_there n) (past_report.mission t)
    after_left = left_as (given without t) (given past_report t) (placed_there n) (past_report.mission t)
        (λ s. ap (λ (f : ℕ → Mark). is_given_to t (f s)) after_marks) report_left

    after_tied : Tied line (given past_report t) (past_report.mission t) (Some (cleared place way.0)) (v.heard t)
    after_tied = way_reports line place (given v t) (given past_report t) n (placed_there n) (past_report.mission t)
        way.0 (v.heard t) refl placed.track_is (reported_is line position place placed.extent_is)
        refl (λ p stands. stands)
        (λ s. ap (λ (f : ℕ → Mark). is_given_to t (f s)) after_marks ∙ report_moves.here s
        ∙ and_again (given v t s) (is_cleared line place s)) after_left way.2

    reported_follow : (new : LineState) → WaitsKeep line new → new ≡ past_report
        → Follows line new (changed_view (after_message line c m.t_train (Report position)))
    reported_follow new keep so =
        after_stretch new (after_message line c m.t_train (Report position)) keep (ap (λ (w : LineState). w.wait) so
        ∙ after_wait) (ap (λ (w : LineState). w.heard) so ∙ after_heard)
        (λ u apart s. ap (λ (w : LineState). is_given_to u (w.mark s)) so ∙ after_others u apart s)
        (λ u apart. ap (λ (w : LineState). w.mission u) so ∙ after_missions u apart)
        (changes_to (given new t) (new.mission t) (after_message line c m.t_train (Report position)) way.0
        (cleared place way.0) way.1 report_is
        (tied_as line (given past_report t) (given new t) (past_report.mission t) (new.mission t)
        (Some (cleared place way.0)) (Some (cleared place way.0)) (v.heard t) (v.heard t)
        (λ s. ap (λ (w : LineState). is_given_to t (w.mark s)) so) (ap (λ (w : LineState). w.mission t) so)
        refl (λ d n h. h) after_tied))

    -- an end of mission
    finished : (k : ℕ → Bool) (o : Option LineMission) (y : Stretch) → Tied line k o (Some y) (v.heard t)
        → Tied line k (option_map fin_ended o) (Some y) (v.heard t)
    finished k None y h = h
    finished k (Some n) y h =
        let w = h.way n refl in
        subst (λ (o : Option Stretch). Tied line k (Some (fin_ended n)) o (v.heard t)) (sym w.1)
        (under_way line k (fin_ended n) w.0 (v.heard t)
        (remade line k n (fin_ended n) w.0 (v.heard t) (v.heard t) refl
        (talk_as line n (fin_ended n) w.0 w.0 (v.heard t) (v.heard t) refl refl (λ p stands. cc) refl refl
        (λ d n h. h) w.2.talk) w.2))

    ends_follow : (stood new : LineState) → WaitsKeep line new → new ≡ ended t stood → stood.wait ≡ v.wait
        → stood.heard ≡ v.heard → ((u : ℕ) → (u ≡ t → ⊥) → (s : ℕ) → given stood u s ≡ given v u s)
        → ((u : ℕ) → (u ≡ t → ⊥) → stood.mission u ≡ v.mission u)
        → Tied line (given stood t) (stood.mission t) (Some (stands line position place (cleared place way.0)))
        (v.heard t) → Follows line new (changed_view (after_message line c m.t_train (EndOfMission position)))
    ends_follow stood new keep so waits heards others missions tied =
        after_stretch new (after_message line c m.t_train (EndOfMission position)) keep
        (ap (λ (w : LineState). w.wait) so ∙ waits) (ap (λ (w : LineState). w.heard) so ∙ heards)
        (λ u apart s. ap (λ (w : LineState). is_given_to u (w.mark s)) so ∙ others u apart s)
        (λ u apart. ap (λ (w : LineState). w.mission u) so
        ∙ put_other stood.mission t u (option_map fin_ended (stood.mission t)) apart ∙ missions u apart)
        (changes_to (given new t) (new.mission t) (after_message line c m.t_train (EndOfMission position)) way.0
        (stands line position place (cleared place way.0)) way.1 end_is
        (tied_as line (given stood t) (given new t) (option_map fin_ended (stood.mission t)) (new.mission t)
        (Some (stands line position place (cleared place way.0)))
        (Some (stands line position place (cleared place way.0))) (v.heard t) (v.heard t)
        (λ s. ap (λ (w : LineState). is_given_to t (w.mark s)) so) (ap (λ (w : LineState). w.mission t) so
        ∙ put_there stood.mission t (option_map fin_ended (stood.mission t))) refl (λ d n h. h)
        (finished (given stood t) (stood.mission t) (stands line position place (cleared place way.0)) tied)))

    -- if it moves
    moving_follow : (position.v_train == 0) ≡ false → (new : LineState) → WaitsKeep line new → new ≡ ended t past_report
        → Follows line new (changed_view (after_message line c m.t_train (EndOfMission position)))
    moving_follow moves new keep so = ends_follow past_report new keep so after_wait after_heard
        after_others after_missions
        (subst (λ (y : Stretch). Tied line (given past_report t) (past_report.mission t) (Some y) (v.heard t))
        (sym (if_false (position.v_train == 0)
        (option_map_or (up_to (cleared place way.0)) (front_end line place (section_count line))
        (cleared place way.0)) (cleared place way.0) moves)) after_tied)

    -- ## At standstill

    abbrev stood : LineState
    stood = stopped line t c place past_report

    abbrev let_go : LineState
    let_go = release line c t (is_ahead_of line past_report t place) past_report

    ahead_moves : Moves past_report.mark let_go.mark t (λ s. given past_report t s
        && not (is_ahead_of line past_report t place s))
    ahead_moves = released_moves line c t (is_ahead_of line past_report t place) past_report
        (λ s so. (and_parts (is_given_to t (past_report.mark s)) (nat_le place.front (10 * start line s)) so).0)

    on_cleared : place.track ≡ (cleared place way.0).track
    on_cleared = same_track ∙ sym (cleared_less line place way.0).track

    stood_tied : position.v_train ≡ 0
        → Tied line (given stood t) (stood.mission t)
        (Some (stands line position place (cleared place way.0))) (v.heard t)
    stood_tied still = by_reached (has_reached line past_report t place) refl
      where
        by_left : (o : Option LineMission) → Left (given past_report t) (placed_there n) o
            → Tied line (given past_report t) o (Some (cleared place way.0)) (v.heard t) → (one : ℕ)
            → given past_report t one ≡ true → 10 * start line one < place.front
            → Tied line (given let_go t) o (Some (stands line position place (cleared place way.0))) (v.heard t)
        by_left _ (none_left none) h one so early = absurd (both_ways (given past_report t one) (none one) so)
        by_left _ (some_left _ _) h one so early =
            let w = h.way (placed_there n) refl in
            let same : cleared place way.0 ≡ w.0 = same_Some (cleared place way.0) w.0 w.1 in
            under_way line (given let_go t) (placed_there n)
            (stands line position place (cleared place way.0)) (v.heard t)
            (way_stops line position place (given past_report t) (given let_go t) (placed_there n) (cleared place way.0)
            (v.heard t) still on_cleared one so early ahead_moves.here
            (subst (λ (y : Stretch). Way line (given past_report t) (placed_there n) y (v.heard t)) (sym same) w.2))

        by_reached : (b : Bool) → has_reached line past_report t place ≡ b
            → Tied line (given (if b then let_go else past_report) t) ((if b then let_go else past_report).mission t)
            (Some (stands line position place (cleared place way.0))) (v.heard t)
        by_reached false none = tied_less line (given past_report t) (past_report.mission t)
            (Some (cleared place way.0)) (v.heard t) (stands line position place)
            (λ y is. stands_less line position place y (on_cleared
            ∙ ap (λ (z : Stretch). z.track) (same_Some (cleared place way.0) y is))) after_tied
        by_reached true some =
            let one = any_one (λ s. is_given_to t (past_report.mark s) && nat_lt (10 * start line s) place.front) 0
            (section_count line) some in
            let parts = and_parts (is_given_to t (past_report.mark one.0))
            (nat_lt (10 * start line one.0) place.front) one.1 in
            by_left (past_report.mission t) after_left after_tied one.0 parts.0
            (ltb-true (10 * start line one.0) place.front parts.1)

    stood_wait : stood.wait ≡ v.wait
    stood_wait = by_reached (has_reached line past_report t place) ∙ after_wait
      where
        by_reached : (b : Bool) → (if b then let_go else past_report).wait ≡ past_report.wait
        by_reached true = refl
        by_reached false = refl

    stood_heard : stood.heard ≡ v.heard
    stood_heard = by_reached (has_reached line past_report t place) ∙ after_heard
      where
        by_reached : (b : Bool) → (if b then let_go else past_report).heard ≡ past_report.heard
        by_reached true = refl
        by_reached false = refl

    stood_missions : (u : ℕ) → (u ≡ t → ⊥) → stood.mission u ≡ v.mission u
    stood_missions u apart = by_reached (has_reached line past_report t place) ∙ after_missions u apart
      where
        by_reached : (b : Bool) → (if b then let_go else past_report).mission u ≡ past_report.mission u
        by_reached true = refl
        by_reached false = refl

    stood_others : (u : ℕ) → (u ≡ t → ⊥) → (s : ℕ) → given stood u s ≡ given v u s
    stood_others u apart s = by_reached (has_reached line past_report t place) ∙ after_others u apart s
      where
        by_reached : (b : Bool) → given (if b then let_go else past_report) u s ≡ given past_report u s
        by_reached true = ahead_moves.others u apart s
        by_reached false = refl

    stopped_follow : position.v_train ≡ 0 → (new : LineState) → WaitsKeep line new → new ≡ ended t stood
        → Follows line new (changed_view (after_message line c m.t_train (EndOfMission position)))
    stopped_follow still new keep so = ends_follow stood new keep so stood_wait stood_heard stood_others
        stood_missions (stood_tied still)

  -- an end of mission that has no place
  ends_unplaced : (position : Position) (n : LineMission) (new : LineState) → v.mission t ≡ Some n → WaitsKeep line new
      → new ≡ ended t v → Follows line new (changed_view (after_message line c m.t_train (EndOfMission position)))
  ends_unplaced position n new is keep so =
      lesser_follow (after_message line c m.t_train (EndOfMission position)) new (end_less line c m.t_train position)
      keep (ap (λ (w : LineState). w.mark) so) (ap (λ (w : LineState). w.wait) so)
      (ap (λ (w : LineState). w.heard) so)
      (λ u apart. ap (λ (w : LineState). w.mission u) so
      ∙ put_other v.mission t u (option_map fin_ended (v.mission t)) apart)
      (subst (λ (o : Option LineMission). Tied line (given v t) o (x.stretch t) (v.heard t))
      (sym (ap (λ (w : LineState). w.mission t) so ∙ put_there v.mission t (option_map fin_ended (v.mission t))))
      (remade_tied fin_ended (λ k. refl) (λ k. refl) (λ k p stands. cc)))

  -- ## A shortening

  module _ (stamp : ℕ) (position : Position) (n : LineMission) (is : v.mission t ≡ Some n) (at : n.supervisor ≡ At c)
      (p : Proposal) (stands_so : n.proposal ≡ Some p) (answers : p.stamp ≡ stamp) where
    abbrev fin : LineMission → LineMission
    fin k = record k { proposal = None }

    abbrev change : Stretch → Stretch
    change = after_message line c m.t_train (ShorteningGranted stamp position)

    granted_way : (y : Stretch) × (x.stretch t ≡ Some y) × Way line (given v t) n y (v.heard t)
    granted_way = (old.tied t).way n is

    last_is : last_kept_of v t ≡ p.last_kept
    last_is = ap (λ (o : Option LineMission). option_map_or (λ k. option_map_or (λ q. q.last_kept) k.proposal 0) o 0) is
        ∙ ap (λ (o : Option Proposal). option_map_or (λ q. q.last_kept) o 0) stands_so

    fin_there : (without_ask t v).mission t ≡ Some (fin n)
    fin_there = put_there v.mission t (option_map fin (v.mission t)) ∙ ap (option_map fin) is

    -- the stretch after the request, by whether the front has passed the proposed end
    request_is : (place : Place) → takes_back line c (ShorteningGranted stamp position) place granted_way.0
        ≡ (if nat_le place.front (10 * end line p.last_kept) then up_to granted_way.0
        (end line p.last_kept) else granted_way.0)
    request_is place =
        let w = granted_way.0 in
        ap (λ (o : Option outside.Shortening). option_map_or (λ a. if ((a.centre == c) && (a.stamp == stamp))
        && nat_le place.front (10 * a.end) then up_to w a.end else w) o w)
        (granted_way.2.talk.asks c p at stands_so).is
        ∙ ap (λ (b : Bool). if b && nat_le place.front (10 * end line p.last_kept) then up_to w
        (end line p.last_kept) else w)
        (and_from (c == c) (p.stamp == stamp) (itself c)
        (subst (λ (k : ℕ). (p.stamp == k) ≡ true) answers (itself p.stamp)))

    too_late : (new : LineState) → WaitsKeep line new → new ≡ without_ask t v
        → ((place : Place) → place_on line n.place.track position ≡ Some place
        → nat_le place.front (10 * end line p.last_kept) ≡ false) → Follows line new (changed_view change)
    too_late new keep so past =
        let w = granted_way.0 in
        after_stretch new change keep (ap (λ (w : LineState). w.wait) so) (ap (λ (w : LineState). w.heard) so)
        (λ u apart s. ap (λ (w : LineState). is_given_to u (w.mark s)) so)
        (λ u apart. ap (λ (w : LineState). w.mission u) so
        ∙ put_other v.mission t u (option_map fin (v.mission t)) apart)
        (changes_to (given new t) (new.mission t) change w w granted_way.1 same
        (tied_as line (given v t) (given new t) (Some (fin n)) (new.mission t) (Some w) (Some w) (v.heard t) (v.heard t)
        (λ s. ap (λ (w : LineState). is_given_to t (w.mark s)) so) (ap (λ (w : LineState). w.mission t) so
        ∙ fin_there) refl (λ d n h. h)
        (under_way line (given v t) (fin n) w (v.heard t)
        (remade line (given v t) n (fin n) w (v.heard t) (v.heard t) refl
        (talk_as line n (fin n) w w (v.heard t) (v.heard t) refl refl (λ p stands. cc) refl refl (λ d n h. h)
        granted_way.2.talk) granted_way.2))))
      where
        on_it : (place : Place) → extent line position ≡ Some place → place.track ≡ n.place.track
            → place_on line n.place.track position ≡ Some place
        on_it place extends same =
            ap (λ (o : Option Place). option_map_or (λ (q : Place). if q.track == n.place.track then Some q else None)
            o None) extends
            ∙ if_true (place.track == n.place.track) (Some place) None
            (subst (λ (k : ℕ). (place.track == k) ≡ true) same (itself place.track))

        same : change granted_way.0 ≡ granted_way.0
        same = by_place line (λ y. y ≡ granted_way.0) m.t_train position
            (λ place. takes_back line c (ShorteningGranted stamp position) place granted_way.0) granted_way.0 refl
            (λ place extends on. request_is place
            ∙ if_false (nat_le place.front (10 * end line p.last_kept)) (up_to granted_way.0 (end line p.last_kept))
            granted_way.0 (past place (on_it place extends (on ∙ granted_way.2.track))))

    in_time : (place : Place) (new : LineState) → WaitsKeep line new → place_on line n.place.track position ≡ Some place
        → nat_le place.front (10 * end line p.last_kept) ≡ true
        → new ≡ close_if_empty line t (release line c t (is_cut_of (without_ask t v) t p.last_kept) (without_ask t v))
        → Follows line new (changed_view change)
    in_time place new keep on time so =
        after_stretch new change keep
        (ap (λ (w : LineState). w.wait) so
        ∙ closed_wait (list_any (λ s. is_given_to t (cut.mark s)) (range_with_len 0 (section_count line))) cut
        (set_mission t None cut) refl)
        (ap (λ (w : LineState). w.heard) so
        ∙ closed_heard (list_any (λ s. is_given_to t (cut.mark s)) (range_with_len 0 (section_count line))) cut
        (set_mission t None cut) refl)
        (λ u apart s. ap (λ (f : ℕ → Mark). is_given_to u (f s)) marks ∙ moves.others u apart s)
        (λ u apart. ap (λ (w : LineState). w.mission u) so ∙ closed_other line t u cut apart
        ∙ put_other v.mission t u (option_map fin (v.mission t)) apart)
        (changes_to (given new t) (new.mission t) change granted_way.0
        (up_to granted_way.0 (end line p.last_kept)) granted_way.1 cut_is
        (way_shortens line p.last_kept (given v t) (given new t) n (fin n) (new.mission t) granted_way.0 (v.heard t)
        refl refl refl (granted_way.2.talk.asks c p at stands_so).on
        (λ s. ap (λ (f : ℕ → Mark). is_given_to t (f s)) marks ∙ moves.here s)
        (left_as (given cut t) (given new t) (fin n) (new.mission t)
        (λ s. ap (λ (f : ℕ → Mark). is_given_to t (f s)) marks)
        (subst (Left (given cut t) (fin n)) (sym (ap (λ (w : LineState). w.mission t) so))
        (closed_left line t cut (fin n)
        (λ s yes. low_of n is s (and_parts (given v t s) (not (is_cut_of v t p.last_kept s))
        (sym (moves.here s) ∙ yes)).0) fin_there)))
        granted_way.2))
      where
        cut : LineState
        cut = release line c t (is_cut_of (without_ask t v) t p.last_kept) (without_ask t v)

        moves : Moves v.mark cut.mark t (λ s. given v t s && not (is_cut_of v t p.last_kept s))
        moves = released_moves line c t (is_cut_of v t p.last_kept) (without_ask t v)
            (λ s yes. (and_parts (is_given_to t (v.mark s)) (nat_lt p.last_kept s) yes).0)

        marks : new.mark ≡ cut.mark
        marks = ap (λ (w : LineState). w.mark) so
            ∙ closed_mark (list_any (λ s. is_given_to t (cut.mark s)) (range_with_len 0 (section_count line))) cut
            (set_mission t None cut) refl

        placed_so : IsPlacedOn line n.place.track position place
        placed_so = placed_on line n.place.track position place on

        cut_is : change granted_way.0 ≡ up_to granted_way.0 (end line p.last_kept)
        cut_is = at_place line m.t_train position
            (λ q. takes_back line c (ShorteningGranted stamp position) q granted_way.0) granted_way.0 place
            placed_so.extent_is (placed_so.track_is ∙ sym granted_way.2.track)
            (fresh n granted_way.0 is at granted_way.1)
            ∙ request_is place ∙ if_true (nat_le place.front (10 * end line p.last_kept))
            (up_to granted_way.0 (end line p.last_kept)) granted_way.0 time

    granted_follow : (o : Option Place) (new : LineState) → place_on line n.place.track position ≡ o
        → WaitsKeep line new → new ≡ shortened line t c o p.last_kept (without_ask t v)
        → Follows line new (changed_view change)
    granted_follow None new on keep so =
        too_late new keep so (λ place is. let wrong : None ≡ Some place = sym on ∙ is in cc)
    granted_follow (Some place) new on keep so = by_time (nat_le place.front (10 * end line p.last_kept)) refl so
      where
        by_time : (b : Bool) → nat_le place.front (10 * end line p.last_kept) ≡ b
            → new ≡ (if b then close_if_empty line t
            (release line c t (is_cut_of (without_ask t v) t p.last_kept) (without_ask t v)) else without_ask t v)
            → Follows line new (changed_view change)
        by_time true time so = in_time place new keep on time so
        by_time false time so = too_late new keep so (λ q is. let same : place ≡ q = same_Some place q (sym on ∙ is) in
            subst (λ (r : Place). nat_le r.front (10 * end line p.last_kept) ≡ false) same time)

  -- ## Each message

  -- the facts of a message with an answer
  abbrev pub Fair : TrainBody → Type 0
  Fair (StartOfMission is_valid position) = v.wait t c ≡ None
  Fair (Request position) = (h : Supervised v c t) × (may_request_at line v t h.m position ≡ true)
      × (h.m.proposal ≡ None)
  Fair (ShorteningGranted stamp position) = (h : Supervised v c t) × (answers_it stamp h.m ≡ true)
  Fair (Report position) = Supervised v c t
  Fair (EndOfMission position) = Supervised v c t
  Fair body = Unit {0}

  answer_is : (stamp : ℕ) (n : LineMission) → answers_it stamp n ≡ true → (p : Proposal)
      × (n.proposal ≡ Some p) × (p.stamp ≡ stamp)
  answer_is stamp n = by_proposal n.proposal
    where
      by_proposal : (o : Option Proposal) → option_map_or (λ p. p.stamp == stamp) o false ≡ true → (p : Proposal)
          × (o ≡ Some p) × (p.stamp ≡ stamp)
      by_proposal None h = cc
      by_proposal (Some p) h = (p, refl, eqb-true p.stamp stamp h)

  reports_follow : (position : Position) (place : Place) (sup : Supervised v c t) (said : Said) (new : LineState)
      → place_on line (track_of v t) position ≡ Some place → WaitsKeep line new
      → Tells (release_words line c (is_cleared_of line v t place) v) (reported line t c place v) said new
      → Follows line new
      (all_told line event said.sayings (changed_view (after_message line c m.t_train (Report position))))
  reports_follow position place sup said new on keep h =
      silently said new (changed_view (after_message line c m.t_train (Report position)))
      (ap (λ (p : Said). p.sayings) h.said_is)
      (reported_follow position sup.m sup.of_train sup.at place
      (sym (ap (λ (k : ℕ). place_on line k position) (track_is sup.m sup.of_train)) ∙ on) new keep h.new_is)

  ending_follow : (position : Position) (b : Bool) (o : Option Place) (sup : Supervised v c t) (said : Said)
      (new : LineState) → (position.v_train == 0) ≡ b → place_on line (track_of v t) position ≡ o
      → WaitsKeep line new → Ending line t c b o v said new
      → Follows line new
      (all_told line event said.sayings (changed_view (after_message line c m.t_train (EndOfMission position))))
  ending_follow position b None sup said new still on keep h =
      silently said new (changed_view (after_message line c m.t_train (EndOfMission position)))
      (ap (λ (p : Said). p.sayings) h.said_is) (ends_unplaced position sup.m new sup.of_train keep h.new_is)
  ending_follow position false (Some place) sup said new moves on keep h =
      silently said new (changed_view (after_message line c m.t_train (EndOfMission position)))
      (ap (λ (p : Said). p.sayings) h.said_is)
      (moving_follow position sup.m sup.of_train sup.at place
      (sym (ap (λ (k : ℕ). place_on line k position) (track_is sup.m sup.of_train)) ∙ on) moves new keep h.new_is)
  ending_follow position true (Some place) sup said new still on keep h =
      silently said new (changed_view (after_message line c m.t_train (EndOfMission position)))
      (ap (λ (p : Said). p.sayings) h.said_is)
      (stopped_follow position sup.m sup.of_train sup.at place
      (sym (ap (λ (k : ℕ). place_on line k position) (track_is sup.m sup.of_train))
      ∙ on) (eqb-true position.v_train 0 still) new keep h.new_is)

  -- nothing is taken back by the message
  plainly : (body : TrainBody) (said : Said) (new : LineState)
      → ((y : Stretch) → after_message line c m.t_train body y ≡ y)
      → Follows line new (all_told line event said.sayings x)
      → Follows line new (all_told line event said.sayings (changed_view (after_message line c m.t_train body)))
  plainly body said new same h = subst (λ (z : View). Follows line new (all_told line event said.sayings z))
      (sym (unmoved (after_message line c m.t_train body) same)) h

  pub own_follows : (body : TrainBody) (said : Said) (new : LineState) → Fair body → Own line v c m body said new
      → Follows line new (all_told line event said.sayings (outside.says line c m body x))
  own_follows InitiationOfSession said new fair h =
      subst (λ (p : Said). Follows line new (all_told line event p.sayings (starts t c None x))) (sym h.said_is)
      (session_follows new (keep_of InitiationOfSession said new h) (ap (λ (w : LineState). w.mark) h.new_is)
      (ap (λ (w : LineState). w.wait) h.new_is) (ap (λ (w : LineState). w.mission) h.new_is)
      (ap (λ (w : LineState). w.heard) h.new_is))
  own_follows TerminationOfSession said new fair h =
      subst (λ (p : Said). Follows line new (all_told line event p.sayings (starts t c None x))) (sym h.said_is)
      (session_follows new (keep_of TerminationOfSession said new h) (ap (λ (w : LineState). w.mark) h.new_is)
      (ap (λ (w : LineState). w.wait) h.new_is) (ap (λ (w : LineState). w.mission) h.new_is)
      (ap (λ (w : LineState). w.heard) h.new_is))
  own_follows SessionEstablished said new fair h =
      let heards = ap (λ (w : LineState). w.heard) h.new_is in
      plainly SessionEstablished said new (λ y. refl)
      (silently said new x (ap (λ (p : Said). p.sayings) h.said_is)
      (after_none line v x old new x old.founded (keep_of SessionEstablished said new h)
      (wait_still line v x old new x (ap (λ (w : LineState). w.wait) h.new_is) refl (later_as new heards))
      (λ u s. ap (λ (w : LineState). is_given_to u (w.mark s)) h.new_is) (ap (λ (w : LineState). w.mission) h.new_is)
      refl (later_as new heards)))
  own_follows (StartOfMission is_valid position) said new fair h =
      starts_follow is_valid position fair (fit_place line is_valid position) said new refl
      (keep_of (StartOfMission is_valid position) said new h) h
  own_follows (TrainData position) said new fair h =
      plainly (TrainData position) said new (λ y. refl)
      (subst (λ (p : Said). Follows line new (all_told line event p.sayings x)) (sym h.said_is)
      (after_change new (λ k. record k { has_data = true }) (keep_of (TrainData position) said new h)
      (ap (λ (w : LineState). w.wait) h.new_is) (ap (λ (w : LineState). w.mark) h.new_is)
      (ap (λ (w : LineState). w.heard) h.new_is) (ap (λ (w : LineState). w.mission) h.new_is)
      (λ k. refl) (λ k. refl) (λ k p stands. stands)))
  own_follows (Request position) said new fair h =
      let on = sym (ap (λ (k : ℕ). place_on line k position) (track_is fair.0.m fair.0.of_train)) ∙ h.1 in
      plainly (Request position) said new (λ y. refl)
      (extends_follow fair.0.m position h.0 said new fair.0.of_train fair.0.at fair.2 on
      (within_is fair.0.m position h.0 fair.1 on) (keep_of (Request position) said new h) h.2)
  own_follows (Report position) said new fair h =
      reports_follow position h.0 fair said new h.1 (keep_of (Report position) said new h) h.2
  own_follows (ShorteningGranted stamp position) said new fair h =
      let sup = fair.0 in
      let p = answer_is stamp sup.m fair.1 in
      silently said new (changed_view (after_message line c m.t_train (ShorteningGranted stamp position)))
      (ap (λ (q : Said). q.sayings) h.said_is)
      (granted_follow stamp position sup.m sup.of_train sup.at p.0 p.1 p.2 (place_on line sup.m.place.track position)
      new refl (keep_of (ShorteningGranted stamp position) said new h)
      (h.new_is ∙ ap (λ (k : ℕ). shortened line t c (place_on line k position) (last_kept_of v t) (without_ask t v))
      (track_is sup.m sup.of_train)
      ∙ ap (λ (k : ℕ). shortened line t c (place_on line sup.m.place.track position) k (without_ask t v))
      (last_is stamp position sup.m sup.of_train sup.at p.0 p.1 p.2)))
  own_follows (ShorteningRejected stamp position) said new fair h =
      plainly (ShorteningRejected stamp position) said new (λ y. refl)
      (silently said new x (ap (λ (p : Said). p.sayings) h.said_is)
      (after_change new (λ k. record k { proposal = None }) (keep_of (ShorteningRejected stamp position) said new h)
      (ap (λ (w : LineState). w.wait) h.new_is) (ap (λ (w : LineState). w.mark) h.new_is)
      (ap (λ (w : LineState). w.heard) h.new_is) (ap (λ (w : LineState). w.mission) h.new_is)
      (λ k. refl) (λ k. refl) (λ k p stands. cc)))
  own_follows (EndOfMission position) said new fair h =
      ending_follow position (position.v_train == 0) (place_on line (track_of v t) position) fair said new refl refl
      (keep_of (EndOfMission position) said new h) h

  -- ## A shut section stays shut

  reported_shut : (place : Place) (s : ℕ) → v.mark s ≡ Shut → (reported line t c place v).mark s ≡ Shut
  reported_shut place s shut =
      ap (λ (f : ℕ → Mark). f s)
      (closed_mark (list_any (λ s. is_given_to t ((release line c t (is_cleared_of line v t place) v).mark s))
      (range_with_len 0 (section_count line)))
      (change_mission t (λ k. record k { place = place }) (release line c t (is_cleared_of line v t place) v))
      (set_mission t None (change_mission t (λ k. record k { place = place })
      (release line c t (is_cleared_of line v t place) v))) refl)
      ∙ (released_moves line c t (is_cleared_of line v t place) v
      (λ s so. (and_parts (is_given_to t (v.mark s)) (is_cleared line place s) so).0)).shut s shut

  stopped_shut : (place : Place) (s : ℕ) → v.mark s ≡ Shut
      → (stopped line t c place (reported line t c place v)).mark s ≡ Shut
  stopped_shut place s shut = by_reached (has_reached line (reported line t c place v) t place)
    where
      by_reached : (b : Bool)
          → (if b then release line c t (is_ahead_of line (reported line t c place v) t place)
          (reported line t c place v) else reported line t c place v).mark s ≡ Shut
      by_reached false = reported_shut place s shut
      by_reached true =
          (released_moves line c t (is_ahead_of line (reported line t c place v) t place) (reported line t c place v)
          (λ e so. (and_parts (is_given_to t ((reported line t c place v).mark e))
          (nat_le place.front (10 * start line e)) so).0)).shut s (reported_shut place s shut)

  ending_shut : (b : Bool) (o : Option Place) (said : Said) (new : LineState) → Ending line t c b o v said new → (s : ℕ)
      → v.mark s ≡ Shut → new.mark s ≡ Shut
  ending_shut b None said new h s shut = ap (λ (w : LineState). w.mark s) h.new_is ∙ shut
  ending_shut false (Some place) said new h s shut = ap (λ (w : LineState). w.mark s) h.new_is
      ∙ reported_shut place s shut
  ending_shut true (Some place) said new h s shut = ap (λ (w : LineState). w.mark s) h.new_is
      ∙ stopped_shut place s shut

  shortened_shut : (o : Option Place) (last : ℕ) (new : LineState) → new ≡ shortened line t c o last (without_ask t v)
      → (s : ℕ) → v.mark s ≡ Shut → new.mark s ≡ Shut
  shortened_shut None last new so s shut = ap (λ (w : LineState). w.mark s) so ∙ shut
  shortened_shut (Some place) last new so s shut = by_time (nat_le place.front (10 * end line last)) so
    where
      cut : LineState
      cut = release line c t (is_cut_of (without_ask t v) t last) (without_ask t v)

      by_time : (b : Bool)
          → new ≡ (if b then close_if_empty line t
          (release line c t (is_cut_of (without_ask t v) t last) (without_ask t v)) else without_ask t v)
          → new.mark s ≡ Shut
      by_time false so = ap (λ (w : LineState). w.mark s) so ∙ shut
      by_time true so = ap (λ (w : LineState). w.mark s) so
          ∙ ap (λ (f : ℕ → Mark). f s)
          (closed_mark (list_any (λ s. is_given_to t (cut.mark s)) (range_with_len 0 (section_count line))) cut
          (set_mission t None cut) refl)
          ∙ (released_moves line c t (is_cut_of v t last) (without_ask t v)
          (λ s yes. (and_parts (is_given_to t (v.mark s)) (nat_lt last s) yes).0)).shut s shut

  may_be_loose : (place : Place) → may_start line v c place ≡ true → (s : ℕ)
      → within (covered line place) s ≡ true → IsLoose (v.mark s)
  may_be_loose place may s so =
      opened (mark_is_open (v.mark s) (and_parts (is_home line c s) (is_mark_open (v.mark s))
      (each_within (λ e. is_home line c e && is_mark_open (v.mark e)) (covered line place) may s so)).1)
    where
      mark_is_open : (k : Mark) → is_mark_open k ≡ true → k ≡ Open
      mark_is_open Shut h = cc
      mark_is_open Open h = refl
      mark_is_open (Kept u) h = cc
      mark_is_open (Given u) h = cc

  starts_shut : (o : Option Place) (said : Said) (new : LineState) → Starts line t c o v said new → (s : ℕ)
      → v.mark s ≡ Shut → new.mark s ≡ Shut
  starts_shut None said new h s shut = ap (λ (w : LineState). w.mark s) h.new_is ∙ shut
  starts_shut (Some place) said new h s shut = by_test (supervises v c t) _ _
      (λ _ r. by_test (all_of (λ s. is_given_to t (v.mark s)) (covered line place)) _ _
      (λ _ a. ap (λ (w : LineState). w.mark s) a.new_is ∙ shut) (λ _ a. rejected a) r)
      (λ _ n. by_test (may_start line v c place) _ _
      (λ may q. by_test (is_registrar_of line c t) _ _ (λ _ a. here may a)
      (λ _ a. ap (λ (w : LineState). w.mark s) a.new_is
      ∙ (loose_stays v.mark (waits line t c place v).mark (within (covered line place))
      (λ s fails. if_false (within (covered line place) s) (Kept t) (v.mark s) fails) (may_be_loose place may)
      (λ s u so. ap (is_given_to u) (if_true (within (covered line place) s) (Kept t) (v.mark s) so))).shut s shut)
      q) (λ _ a. rejected a) n) h
    where
      rejected : Rejects t c v said new → new.mark s ≡ Shut
      rejected a = ap (λ (w : LineState). w.mark s) a.new_is ∙ shut

      here : may_start line v c place ≡ true → StartsHere line t c place v said new → new.mark s ≡ Shut
      here may (inl a) = ap (λ (w : LineState). w.mark s) a.1.new_is
          ∙ (given_moves v.mark t (within (covered line place)) (may_be_loose place may)).shut s shut
      here may (inr a) = rejected a

  pub own_shut : (body : TrainBody) (said : Said) (new : LineState) → Own line v c m body said new → (s : ℕ)
      → v.mark s ≡ Shut → new.mark s ≡ Shut
  own_shut InitiationOfSession said new h s shut = ap (λ (w : LineState). w.mark s) h.new_is
      ∙ (free_stays v (is_waiting_at line v t c) (waiting_loose line v old.keep t c)).shut s shut
  own_shut TerminationOfSession said new h s shut = ap (λ (w : LineState). w.mark s) h.new_is
      ∙ (free_stays v (is_waiting_at line v t c) (waiting_loose line v old.keep t c)).shut s shut
  own_shut SessionEstablished said new h s shut = ap (λ (w : LineState). w.mark s) h.new_is ∙ shut
  own_shut (StartOfMission is_valid position) said new h s shut =
      starts_shut (fit_place line is_valid position) said new h s shut
  own_shut (TrainData position) said new h s shut = ap (λ (w : LineState). w.mark s) h.new_is ∙ shut
  own_shut (Request position) said new h s shut = ap (λ (w : LineState). w.mark s) h.2.says_it.new_is
      ∙ (given_moves v.mark t (within (record { first = next_after h.2.hand; count = h.2.count }))
      (λ e so. open_or_kept e (and_parts (may_be_given line v c t e) (is_on line h.0.track e)
      (each_within (λ k. may_be_given line v c t k && is_on line h.0.track k)
      (record { first = next_after h.2.hand; count = h.2.count }) h.2.each e so)).0)).shut s shut
  own_shut (Report position) said new h s shut = ap (λ (w : LineState). w.mark s) h.2.new_is ∙ reported_shut h.0 s shut
  own_shut (ShorteningGranted stamp position) said new h s shut =
      shortened_shut (place_on line (track_of v t) position) (last_kept_of v t) new h.new_is s shut
  own_shut (ShorteningRejected stamp position) said new h s shut = ap (λ (w : LineState). w.mark s) h.new_is ∙ shut
  own_shut (EndOfMission position) said new h s shut =
      ending_shut (position.v_train == 0) (place_on line (track_of v t) position) said new h s shut
