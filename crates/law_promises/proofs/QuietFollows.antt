-- The view from outside follows the one line centre's quiet steps.
use Rattle.std.proofs.Common.{◌+◌, ◌-◌, ◌==◌, ◌∙◌, ◌≡◌, ◌≤◌, ap, arith, Bool, eqb-true, false, if◌then◌else◌, max, None}
use Rattle.std.proofs.Common.{Option, option_map, refl, Some, subst, sym, true, ℕ}
use Rattle.std.proofs.lemmas.Option.{same_Some}
use Rattle.std.specs.Option.{option_and_then, option_map_or}
use Rattle.law_base.proofs.PiecesLemmas.Waits.{is_waited, IsLoose, kept_for, opened, quiet_leaves, WaitsKeep}
use Rattle.law_outside.specs.Outside.{accepted, all_told, asked_for, gets, is_told, starts, Stretch, View}
use Rattle.law_promises.proofs.Follows.{after_mission, after_none, after_one, begun_is, changed_there, Follows, given}
use Rattle.law_promises.proofs.Follows.{heard_as, IsSeen, IsStart, metres_is, put_apart, put_later, wait_less}
use Rattle.law_promises.proofs.Follows.{wait_still}
use Rattle.law_promises.proofs.Marks.{Asks, given_moves, if_false, if_true, IsSince, Later, loose_stays, plain_stays}
use Rattle.law_promises.proofs.Marks.{Stays, Tied, tied_as, under_way, Way}
use Rattle.law_promises.proofs.SpansOfStarts.{first_stretch}
use Rattle.law_promises.proofs.Tied.{accepted_begins, asked_way, remade, way_begins}
use Rattle.rbc_spec.proofs.Lists.{put_other, put_pair_there, put_there}
use Rattle.rbc_spec.proofs.Places.{before, end_is, section_on, start_is}
use Rattle.rbc_spec.proofs.Runs.{within_from, within_true}
use Rattle.rbc_spec.specs.Centre.{Proposal}
use Rattle.rbc_spec.specs.Line.{end, IsLine, Line, section_of_group, start}
use Rattle.rbc_spec.specs.LineCentre.{At, free, is_given_to, is_waiting_at, Kept, LineMission, LineState, Mark, Open}
use Rattle.rbc_spec.specs.LineCentre.{Parted, Said, Shut, Supervisor}
use Rattle.rbc_spec.specs.Maps.{has, put, put_pair}
use Rattle.rbc_spec.specs.Message.{ShorteningRequest, TrainAccepted, unknown_group}
use Rattle.rbc_spec.specs.Outcome.{Saying}
use Rattle.rbc_spec.specs.OwnSteps.{begins, begun_at}
use Rattle.rbc_spec.specs.Place.{covered, group_start, Place}
use Rattle.rbc_spec.specs.Quiet.{Admit, Admits, Dismiss, EndOrder, is_of_centre, Keep, LayDown, LaysDown, Order}
use Rattle.rbc_spec.specs.Quiet.{Propose, Proposes, Quiet, TakesQuiet, TakesUp, TakeUp, Unkeep}
use Rattle.rbc_spec.specs.SectionRuns.{within}
use Rattle.rbc_spec.specs.Sections.{is_on}
use Rattle.rbc_spec.specs.World.{centre_of, Event}

-- ## Quiet steps

freed_unused : (wish : Bool) (u : ℕ) → is_given_to u (if wish then Shut else Open) ≡ false
freed_unused true u = refl
freed_unused false u = refl

pub free_stays : (v : LineState) (f : ℕ → Bool) → ((s : ℕ) → f s ≡ true → IsLoose (v.mark s))
    → Stays v.mark (free f v).mark
free_stays v f loose = loose_stays v.mark (free f v).mark f
    (λ s fails. if_false (f s) (if v.wish s then Shut else Open) (v.mark s) fails) loose
    (λ s u so. ap (is_given_to u) (if_true (f s) (if v.wish s then Shut else Open) (v.mark s) so)
    ∙ freed_unused (v.wish s) u)

-- a start that waited keeps its sections
pub waiting_loose : (line : Line) (v : LineState) → WaitsKeep line v → (t c s : ℕ)
    → is_waiting_at line v t c s ≡ true → IsLoose (v.mark s)
waiting_loose line v keep t c s is = kept_for t (is_waited line v keep t c s is).kept

module _ (line : Line) (ok : IsLine line) (v : LineState) (x : View) (old : Follows line v x) (event : Event) where
  abbrev d : ℕ
  d = centre_of event

  done : (said p : Said) (new changed : LineState) → said ≡ p → new ≡ changed
      → Follows line changed (all_told line event p.sayings x) → Follows line new (all_told line event said.sayings x)
  done said p new changed tells is h =
      subst (λ (n : LineState). Follows line n (all_told line event said.sayings x)) (sym is)
      (subst (λ (q : Said). Follows line changed (all_told line event q.sayings x)) (sym tells) h)

  keep_of : (q : Quiet) (said : Said) (new : LineState) → TakesQuiet line v q said new → WaitsKeep line new
  keep_of q said new h = (quiet_leaves line v old.keep q said new h).waits

  -- the train gets its acceptance
  pub accepts_is : (t n : ℕ) (y : View) (z f : Stretch) → y.start t d ≡ Some f → accepted (y.stretch t) f ≡ Some z
      → is_told line event
      (record { nid_engine = t; message = record { t_train = n; nid_lrbg = unknown_group; body = TrainAccepted } })
      TrainAccepted y ≡ record (starts t d None y) { stretch = put y.stretch t (Some z) }
  accepts_is t n y z f first is = ap (λ (o : Option Stretch). gets t o (starts t d None y))
      (ap (option_and_then (accepted (y.stretch t))) first ∙ is)

  -- a mission begins for a train that had none
  pub begins_follow : (t c since : ℕ) (place : Place) (good : IsStart line place) (new : LineState) (y : View)
      → y.stray ≡ false → v.mission t ≡ None → ((s : ℕ) → within (covered line place) s ≡ true → IsLoose (v.mark s))
      → new.mark ≡ (begins line t c place v).mark → new.mission ≡ (begins line t c place v).mission → WaitsKeep line new
      → ((u d : ℕ) (p : Place) → new.wait u d ≡ Some p → IsSeen line y (new.heard u d) u d p)
      → y.stretch ≡ put x.stretch t (Some (first_stretch line ok place good.fit since)) → new.heard ≡ v.heard
      → IsSince since (v.heard t c) → Follows line new y
  begins_follow t c since place good new y founded none loose marks missions keep waits stretches heards now =
      let moves = given_moves v.mark t (within (covered line place)) loose in
      let first = first_stretch line ok place good.fit since in
      let later = heard_as line v x old new heards in
      after_one line v x old t new y founded keep waits
      (λ u apart s. ap (λ (f : ℕ → Mark). is_given_to u (f s)) marks ∙ moves.others u apart s)
      (λ u apart. ap (λ (f : ℕ → Option LineMission). f u) missions
      ∙ put_other v.mission t u (Some (begun_at c place)) apart)
      (λ u apart. ap (λ (f : ℕ → Option Stretch). f u) stretches ∙ put_other x.stretch t u (Some first) apart) later
      (tied_as line (given new t) (given new t) (Some (begun_at c place)) (new.mission t) (Some first) (y.stretch t)
      (new.heard t) (new.heard t) (λ s. refl)
      (ap (λ (f : ℕ → Option LineMission). f t) missions ∙ put_there v.mission t (Some (begun_at c place)))
      (ap (λ (f : ℕ → Option Stretch). f t) stretches ∙ put_there x.stretch t (Some first)) (λ c n h. h)
      (under_way line (given new t) (begun_at c place) first (new.heard t)
      (way_begins line ok place good.fit good.ahead since (given v t) (given new t) (begun_at c place) (new.heard t) c
      refl refl refl (later t c since now)
      (λ s. ap (λ (f : ℕ → Mark). is_given_to t (f s)) marks ∙ moves.here s) ((old.tied t).gone none))))

  pub accepted_first : (t since : ℕ) (place : Place) (good : IsStart line place) → v.mission t ≡ None
      → accepted (x.stretch t) (first_stretch line ok place good.fit since)
      ≡ Some (first_stretch line ok place good.fit since)
  accepted_first t since place good none =
      accepted_begins line ok place good.fit good.ahead since (given v t) (x.stretch t) (v.heard t)
      (subst (λ (o : Option LineMission). Tied line (given v t) o (x.stretch t) (v.heard t)) none (old.tied t))

  admits : (t : ℕ) (said : Said) (new : LineState) → Admits line v t d said new → WaitsKeep line new
      → Follows line new (all_told line event said.sayings x)
  admits t said new h keep =
      let was = old.waits t d h.place h.waits in
      let first = first_stretch line ok h.place was.good.fit was.since in
      let y : View = record (starts t d None x) { stretch = put x.stretch t (Some first) } in
      let heards = ap (λ (n : LineState). n.heard) h.says.new_is in
      subst (λ (p : Said). Follows line new (all_told line event p.sayings x)) (sym h.says.said_is)
      (subst (Follows line new)
      (sym (accepts_is t (v.said t d + 1) x first first (was.seen ∙ begun_is line ok h.place was.good was.since)
      (accepted_first t was.since h.place was.good h.no_mission)))
      (begins_follow t d was.since h.place was.good new y old.founded h.no_mission
      (λ s so. kept_for t (old.keep.each t d h.place s h.waits so).kept)
      (ap (λ (n : LineState). n.mark) h.says.new_is) (ap (λ (n : LineState). n.mission) h.says.new_is) keep
      (wait_less line v x old new y t d (ap (λ (n : LineState). n.wait) h.says.new_is)
      (λ u e apart. put_apart x.start t d None u e apart) (heard_as line v x old new heards)) refl heards was.now))

  lays_down : (t c : ℕ) (said : Said) (new : LineState) → LaysDown v t c said new → WaitsKeep line new
      → Follows line new (all_told line event said.sayings x)
  lays_down t c said new h keep =
      let m : LineMission = record (h.mission) { supervisor = Parted h.stamp; proposal = None } in
      let w = (old.tied t).way h.mission h.of_train in
      let later = heard_as line v x old new (ap (λ (n : LineState). n.heard) h.leaves.new_is) in
      let since = w.2.talk.since c h.supervises in
      subst (λ (p : Said). Follows line new (all_told line event p.sayings x)) (sym h.leaves.said_is)
      (after_mission line v x old t new x old.founded keep
      (wait_still line v x old new x (ap (λ (n : LineState). n.wait) h.leaves.new_is) refl later)
      (ap (λ (n : LineState). n.mark) h.leaves.new_is)
      (λ u apart. ap (λ (n : LineState). n.mission u) h.leaves.new_is
      ∙ put_other v.mission t u (Some m) apart) refl later
      (tied_as line (given v t) (given v t) (Some m) (new.mission t) (Some (w.0)) (x.stretch t) (new.heard t)
      (new.heard t) (λ s. refl) (ap (λ (n : LineState). n.mission t) h.leaves.new_is
      ∙ put_there v.mission t (Some m)) w.1 (λ c n h. h)
      (under_way line (given v t) m w.0 (new.heard t)
      (remade line (given v t) h.mission m w.0 (v.heard t) (new.heard t) refl (record {
        asks = λ e p at stands. cc;
        since = λ e at. cc;
        parted = λ stamp at. (refl, parted_le w.0.since h.stamp stamp since (sym h.heard) at);
      }) w.2))))
    where
      parted_is : (a b : ℕ) → ◌≡◌ {A = Supervisor} (Parted a) (Parted b) → a ≡ b
      parted_is a b same = cc

      parted_le : (n a b : ℕ) → IsSince n (v.heard t c) → Some a ≡ v.heard t c
          → ◌≡◌ {A = Supervisor} (Parted a) (Parted b) → n ≤ b
      parted_le n a b since is at = let same : a ≡ since.last = same_Some a since.last (is ∙ since.is) in
          let le = since.le in subst (λ (k : ℕ). n ≤ k) (parted_is a b at) (subst (λ (k : ℕ). n ≤ k) (sym same) le)

  takes_up : (t c : ℕ) (said : Said) (new : LineState) → TakesUp v t c said new → WaitsKeep line new
      → Follows line new (all_told line event said.sayings x)
  takes_up t c said new h keep =
      let m : LineMission = record (h.mission) { supervisor = At c } in
      let w = (old.tied t).way h.mission h.of_train in
      let parted = w.2.talk.parted h.stamp h.parted in
      let heards : new.heard ≡ put_pair v.heard t c (Some both) = ap (λ (n : LineState). n.heard) h.leaves.new_is in
      let later : (u e : ℕ) → Later (v.heard u e) (new.heard u e) =
      λ u e. subst (λ (f : ℕ → ℕ → Option ℕ). Later (v.heard u e) (f u e)) (sym heards)
      (put_later v.heard t c (Some both) (both_later (v.heard t c)) u e) in
      subst (λ (p : Said). Follows line new (all_told line event p.sayings x)) (sym h.leaves.said_is)
      (after_mission line v x old t new x old.founded keep
      (wait_still line v x old new x (ap (λ (n : LineState). n.wait) h.leaves.new_is) refl later)
      (ap (λ (n : LineState). n.mark) h.leaves.new_is)
      (λ u apart. ap (λ (n : LineState). n.mission u) h.leaves.new_is
      ∙ put_other v.mission t u (Some m) apart) refl later
      (tied_as line (given v t) (given v t) (Some m) (new.mission t) (Some (w.0)) (x.stretch t) (new.heard t)
      (new.heard t) (λ s. refl) (ap (λ (n : LineState). n.mission t) h.leaves.new_is
      ∙ put_there v.mission t (Some m)) w.1 (λ c n h. h)
      (under_way line (given v t) m w.0 (new.heard t)
      (remade line (given v t) h.mission m w.0 (v.heard t) (new.heard t) refl (record {
        asks = λ e p at stands. let wrong : None ≡ Some p = sym parted.0 ∙ stands in cc;
        since = λ e at. subst (λ (k : ℕ). IsSince w.0.since (new.heard t k)) (at_is c e at)
            (subst (λ (f : ℕ → ℕ → Option ℕ). IsSince w.0.since (f t c)) (sym heards)
            (record {
              last = both;
              is = put_pair_there v.heard t c (Some both);
              le = both_up w.0.since (v.heard t c) parted.1;
            }));
        parted = λ stamp at. cc;
      }) w.2))))
    where
      at_is : (a b : ℕ) → ◌≡◌ {A = Supervisor} (At a) (At b) → a ≡ b
      at_is a b same = cc

      both : ℕ
      both = option_map_or (max h.stamp) (v.heard t c) h.stamp

      both_later : (o : Option ℕ) → Later o (Some (option_map_or (max h.stamp) o h.stamp))
      both_later None n since = let wrong : None ≡ Some since.last = since.is in cc
      both_later (Some last) n since =
          record {
            last = max h.stamp last;
            is = refl;
            le = (let same : last ≡ since.last = same_Some last since.last since.is in let le = since.le in
                omega (arith, same, le));
          }

      both_up : (n : ℕ) (o : Option ℕ) → n ≤ h.stamp → n ≤ option_map_or (max h.stamp) o h.stamp
      both_up n None le = le
      both_up n (Some last) le = omega (arith, le)

  proposes : (t s : ℕ) (said : Said) (new : LineState) → Proposes line v t d s said new → WaitsKeep line new
      → Follows line new (all_told line event said.sayings x)
  proposes t s said new h keep =
      subst (λ (p : Said). Follows line new (all_told line event p.sayings x)) (sym h.says.said_is)
      (subst (Follows line new) (sym told_is)
      (after_one line v x old t new y old.founded keep
      (wait_still line v x old new y (ap (λ (n : LineState). n.wait) h.says.new_is) refl later)
      (λ u apart e. ap (λ (n : LineState). is_given_to u (n.mark e)) h.says.new_is)
      (λ u apart. ap (λ (n : LineState). n.mission u) h.says.new_is
      ∙ put_other v.mission t u (option_map change (v.mission t)) apart)
      (λ u apart. put_other x.stretch t u (Some z) apart) later
      (tied_as line (given v t) (given new t) (Some (change h.mission)) (new.mission t) (Some z) (y.stretch t)
      (v.heard t) (new.heard t) (λ e. ap (λ (n : LineState). is_given_to t (n.mark e)) h.says.new_is)
      (ap (λ (n : LineState). n.mission t) h.says.new_is ∙ changed_there line v x old t change h.mission h.of_train)
      (put_there x.stretch t (Some z)) (later t)
      (under_way line (given v t) (change h.mission) z (v.heard t)
      (asked_way line (given v t) h.mission (change h.mission) way.0 (v.heard t) z.asked refl (record {
        asks = λ c q at stands. let same : d ≡ c = at_is d c (sym h.supervises ∙ at) in
            subst (λ (e : ℕ). Asks line h.mission.place.track z.asked e q) same
            (subst (Asks line h.mission.place.track z.asked d) (same_Some p q stands) asks);
        since = way.2.talk.since;
        parted = λ stamp at. let wrong : At d ≡ Parted stamp = sym h.supervises ∙ at in cc;
      }) way.2)))))
    where
      p : Proposal
      p = record { stamp = v.said t d + 1; last_kept = s - 1 }

      change : LineMission → LineMission
      change m = record m { proposal = Some p }

      later : (u c : ℕ) → Later (v.heard u c) (new.heard u c)
      later = heard_as line v x old new (ap (λ (n : LineState). n.heard) h.says.new_is)

      way : (z : Stretch) × (x.stretch t ≡ Some z) × Way line (given v t) h.mission z (v.heard t)
      way = (old.tied t).way h.mission h.of_train

      z : Stretch
      z = record (way.0) { asked = Some (record { centre = d; stamp = p.stamp; end = end line (s - 1) }) }

      y : View
      y = record x { stretch = put x.stretch t (Some z) }

      at_is : (a b : ℕ) → ◌≡◌ {A = Supervisor} (At a) (At b) → a ≡ b
      at_is a b same = cc

      on_track : (e : ℕ) → within h.hand e ≡ true → is_on line h.mission.place.track e ≡ true
      on_track e so = subst (λ (k : ℕ). is_on line k e ≡ true) way.2.track (way.2.spans.on e (h.is_hand.each e ∙ so))

      on_last : is_on line h.mission.place.track (s - 1) ≡ true
      on_last = let ends = within_true h.hand s h.in_hand in let b = ends.1 in
          on_track (s - 1) (within_from h.hand (s - 1) (omega (arith, h.not_first)) (omega (arith, b)))

      metres : group_start line h.mission.place + (start line s - group_start line h.mission.place) ≡ end line (s - 1)
      metres =
          let q = section_on line h.mission.place.track s (on_track s h.in_hand) in
          let r = section_on line h.mission.place.track (s - 1) on_last in
          let again : s - 1 + 1 ≡ s = omega (arith, h.not_first) in
          let same : start line s ≡ end line (s - 1) = start_is line h.mission.place.track s q.0 q.1
          ∙ sym (end_is line h.mission.place.track (s - 1) r.0 r.1
          ∙ ap (before line h.mission.place.track) again) in
          let ahead = way.2.ahead.ahead in omega (arith, same, ahead, h.not_past)

      saying : Saying
      saying = record {
        nid_engine = t;
        message = record {
          t_train = v.said t d + 1;
          nid_lrbg = h.mission.place.group;
          body = ShorteningRequest (start line s - group_start line h.mission.place);
        };
      }

      told_is : is_told line event saying saying.message.body x ≡ y
      told_is =
          ap (λ (o : Option Stretch).
          gets t (option_and_then (asked_for line d (v.said t d + 1) h.mission.place.group
          (start line s - group_start line h.mission.place)) o) x) way.1
          ∙ ap (λ (o : Option ℕ).
          gets t (option_map {T = ℕ} {U = Stretch}
          (λ e. record (way.0) { asked = Some (record { centre = d; stamp = p.stamp; end = e }) }) o) x)
          (metres_is line h.mission.place (start line s - group_start line h.mission.place) way.0
          (subst (λ (k : ℕ). has (is_on line k) (section_of_group line h.mission.place.group) ≡ true)
          (sym way.2.track) way.2.ahead.group)
          ∙ ap (λ (n : ℕ). Some n) metres)

      asks : Asks line h.mission.place.track z.asked d p
      asks = record { is = refl; on = on_last }

  plainly : (new : LineState) (y : View) → y.stray ≡ false → WaitsKeep line new → Stays v.mark new.mark
      → new.mission ≡ v.mission → y.stretch ≡ x.stretch → new.heard ≡ v.heard
      → ((u c : ℕ) (place : Place) → new.wait u c ≡ Some place → IsSeen line y (new.heard u c) u c place)
      → Follows line new y
  plainly new y founded keep stays missions stretches heards waits =
      after_none line v x old new y founded keep waits stays.hands missions stretches (heard_as line v x old new heards)

  unchanged : (new : LineState) → new.heard ≡ v.heard → (u c : ℕ) → Later (v.heard u c) (new.heard u c)
  unchanged new same = heard_as line v x old new same

  pub quiet_follows : (q : Quiet) (said : Said) (new : LineState) → is_of_centre line d q ≡ true
      → TakesQuiet line v q said new → Follows line new (all_told line event said.sayings x)
  quiet_follows (Keep t s) said new at h = done said _ new _ h.leaves.said_is h.leaves.new_is
      (plainly (record v { mark = put v.mark s (Kept t) }) x old.founded
      (keep_of (Keep t s) _ _ (record { is_open = h.is_open; leaves = record { said_is = refl; new_is = refl } }))
      (loose_stays v.mark (put v.mark s (Kept t)) (λ e. e == s) (λ e fails. if_false (e == s) (Kept t) (v.mark e) fails)
      (λ e so. opened (ap v.mark (eqb-true e s so) ∙ h.is_open))
      (λ e u so. ap (is_given_to u) (if_true (e == s) (Kept t) (v.mark e) so))) refl refl refl
      (wait_still line v x old (record v { mark = put v.mark s (Kept t) }) x refl refl
      (unchanged (record v { mark = put v.mark s (Kept t) }) refl)))
  quiet_follows (Unkeep t s) said new at h =
      let heards = ap (λ (n : LineState). n.heard) h.tells.new_is in
      subst (λ (p : Said). Follows line new (all_told line event p.sayings x)) (sym h.tells.said_is)
      (plainly new x old.founded (keep_of (Unkeep t s) said new h)
      (subst (λ (n : LineState). Stays v.mark n.mark) (sym h.tells.new_is)
      (free_stays v (λ e. e == s) (λ e so. kept_for t (ap v.mark (eqb-true e s so) ∙ h.is_kept))))
      (ap (λ (n : LineState). n.mission) h.tells.new_is) refl heards
      (wait_still line v x old new x (ap (λ (n : LineState). n.wait) h.tells.new_is) refl (unchanged new heards)))
  quiet_follows (Admit t c) said new at h =
      admits t said new (subst (λ (e : ℕ). Admits line v t e said new) (eqb-true c d at) h)
      (keep_of (Admit t c) said new h)
  quiet_follows (Dismiss t c) said new at h =
      let heards = ap (λ (n : LineState). n.heard) h.says.new_is in
      let same = eqb-true c d at in
      subst (λ (p : Said). Follows line new (all_told line event p.sayings x)) (sym h.says.said_is)
      (plainly new (starts t d None x) old.founded (keep_of (Dismiss t c) said new h)
      (subst (λ (n : LineState). Stays v.mark n.mark) (sym h.says.new_is)
      (free_stays v (is_waiting_at line v t c) (waiting_loose line v old.keep t c)))
      (ap (λ (n : LineState). n.mission) h.says.new_is) refl heards
      (wait_less line v x old new (starts t d None x) t c (ap (λ (n : LineState). n.wait) h.says.new_is)
      (λ u e apart. put_apart x.start t d None u e (λ one two. apart one (two ∙ sym same))) (unchanged new heards)))
  quiet_follows (LayDown t c) said new at h = lays_down t c said new h (keep_of (LayDown t c) said new h)
  quiet_follows (TakeUp t c) said new at h = takes_up t c said new h (keep_of (TakeUp t c) said new h)
  quiet_follows (Propose t c s) said new at h =
      proposes t s said new (subst (λ (e : ℕ). Proposes line v t e s said new) (eqb-true c d at) h)
      (keep_of (Propose t c s) said new h)
  quiet_follows (Order t c) said new at h =
      let heards = ap (λ (n : LineState). n.heard) h.says.new_is in
      subst (λ (p : Said). Follows line new (all_told line event p.sayings x)) (sym h.says.said_is)
      (plainly new x old.founded (keep_of (Order t c) said new h)
      (subst (λ (n : LineState). Stays v.mark n.mark) (sym h.says.new_is) (plain_stays v.mark v.mark (λ s. refl)))
      (ap (λ (n : LineState). n.mission) h.says.new_is) refl heards
      (wait_still line v x old new x (ap (λ (n : LineState). n.wait) h.says.new_is) refl (unchanged new heards)))
  quiet_follows (EndOrder t c) said new at h =
      let heards = ap (λ (n : LineState). n.heard) h.says.new_is in
      subst (λ (p : Said). Follows line new (all_told line event p.sayings x)) (sym h.says.said_is)
      (plainly new x old.founded (keep_of (EndOrder t c) said new h)
      (subst (λ (n : LineState). Stays v.mark n.mark) (sym h.says.new_is) (plain_stays v.mark v.mark (λ s. refl)))
      (ap (λ (n : LineState). n.mission) h.says.new_is) refl heards
      (wait_still line v x old new x (ap (λ (n : LineState). n.wait) h.says.new_is) refl (unchanged new heards)))

  -- a shut section stays shut
  pub quiet_shut : (q : Quiet) (said : Said) (new : LineState) → TakesQuiet line v q said new → (s : ℕ)
      → v.mark s ≡ Shut → new.mark s ≡ Shut
  quiet_shut (Keep t s) said new h e is = ap (λ (n : LineState). n.mark e) h.leaves.new_is
      ∙ (loose_stays v.mark (put v.mark s (Kept t)) (λ e. e == s)
      (λ e fails. if_false (e == s) (Kept t) (v.mark e) fails)
      (λ e so. opened (ap v.mark (eqb-true e s so) ∙ h.is_open))
      (λ e u so. ap (is_given_to u) (if_true (e == s) (Kept t) (v.mark e) so))).shut e is
  quiet_shut (Unkeep t s) said new h e is = ap (λ (n : LineState). n.mark e) h.tells.new_is
      ∙ (free_stays v (λ e. e == s) (λ e so. kept_for t (ap v.mark (eqb-true e s so) ∙ h.is_kept))).shut e is
  quiet_shut (Admit t c) said new h e is = ap (λ (n : LineState). n.mark e) h.says.new_is
      ∙ (given_moves v.mark t (within (covered line h.place))
      (λ s so. kept_for t (old.keep.each t c h.place s h.waits so).kept)).shut e is
  quiet_shut (Dismiss t c) said new h e is = ap (λ (n : LineState). n.mark e) h.says.new_is
      ∙ (free_stays v (is_waiting_at line v t c) (waiting_loose line v old.keep t c)).shut e is
  quiet_shut (LayDown t c) said new h e is = ap (λ (n : LineState). n.mark e) h.leaves.new_is ∙ is
  quiet_shut (TakeUp t c) said new h e is = ap (λ (n : LineState). n.mark e) h.leaves.new_is ∙ is
  quiet_shut (Propose t c s) said new h e is = ap (λ (n : LineState). n.mark e) h.says.new_is ∙ is
  quiet_shut (Order t c) said new h e is = ap (λ (n : LineState). n.mark e) h.says.new_is ∙ is
  quiet_shut (EndOrder t c) said new h e is = ap (λ (n : LineState). n.mark e) h.says.new_is ∙ is
