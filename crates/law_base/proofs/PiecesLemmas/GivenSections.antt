-- Words in the order of sections, given sections, and the supervisor of a train.
use Rattle.std.proofs.Common.{[], ◌&&◌, ◌*◌, ◌++◌, ◌+◌, ◌<◌, ◌==◌, ◌∙◌, ◌∷◌, ◌≡◌, ◌≤◌, ◌⊎◌, ap, arith, Bool, cond}
use Rattle.std.proofs.Common.{eq-eqb, eqb-true, false, inl, inr, leb-true, ltb-true, map, nat_le, nat_lt, None, Ok}
use Rattle.std.proofs.Common.{Option, refl, slice_get, Some, subst, suc, sym, true, zero, ℕ}
use Rattle.std.proofs.lemmas.Bool.{and_parts, not-false}
use Rattle.std.proofs.lemmas.Option.{slice_get_cases}
use Rattle.std.specs.List.{filter, range_with_len}
use Rattle.std.specs.Option.{option_map_or}
use Rattle.law_base.proofs.PiecesLemmas.Frees.{by_cut, by_end, by_report, by_standstill, Frees}
use Rattle.rbc_spec.proofs.Held.{found_passes, is_the_centres}
use Rattle.rbc_spec.proofs.Lists.{none_passes}
use Rattle.rbc_spec.specs.Centre as centre
use Rattle.rbc_spec.specs.Line.{end, is_home, Line, Section, section, start}
use Rattle.rbc_spec.specs.LineCentre.{Given, hears, is_at, is_given_to, Kept, LineMission, LineState, Mark, Open, Shut}
use Rattle.rbc_spec.specs.Message.{EndOfMission, InitiationOfSession, Report, Request, SessionEstablished}
use Rattle.rbc_spec.specs.Message.{ShorteningGranted, ShorteningRejected, StartOfMission, TerminationOfSession}
use Rattle.rbc_spec.specs.Message.{TrainBody, TrainData, TrainMessage}
use Rattle.rbc_spec.specs.Outcome.{NotSupervised, reasons_of, Told, Unasked, Word}
use Rattle.rbc_spec.specs.OwnSteps.{is_unused_mark, last_kept_of}
use Rattle.rbc_spec.specs.Place.{place_on}
use Rattle.rbc_spec.specs.Promises.{cleared, is_given, MayFree, shortened, stopped}
use Rattle.rbc_spec.specs.ReadOff.{holder, mark_of, read_off, seen, StandsFor}
use Rattle.rbc_spec.specs.Run as run
use Rattle.rbc_spec.specs.Run.{answers_it, has_here, TellsInOrder}
use Rattle.rbc_spec.specs.Sections.{section_count}
use Rattle.rbc_spec.specs.Step as step
use Rattle.rbc_spec.specs.World.{Bytes, World}

-- # Reports of the sections of a range are in the order of their numbers.

same_told : (a b : ℕ) → ◌≡◌ {A = Option Word} (Some (Told a)) (Some (Told b)) → a ≡ b
same_told a b h = cc

-- at most one reply
pub none_in_order : TellsInOrder []
none_in_order i j s e less first second = cc

pub one_in_order : (word : Word) → TellsInOrder (word ∷ [])
one_in_order word i zero s e less first second = absurd (let wrong : ⊥ = omega (arith, less) in wrong)
one_in_order word i (suc j) s e less first second = cc

-- a reported section of a range is not before the range
told_from : (test : ℕ → Bool) (a n i e : ℕ) → slice_get (map (λ s. Told s) (filter test (range_with_len a n))) i
    ≡ Some (Told e) → a ≤ e
told_from test a zero i e is = cc
told_from test a (suc n) i e is = by_test (λ j so. told_from test (a + 1) n j e so) (test a) i is
  where
    by_test : ((j : ℕ) → slice_get (map (λ s. Told s) (filter test (range_with_len (a + 1) n))) j ≡ Some (Told e)
        → a + 1 ≤ e) → (b : Bool) (i : ℕ)
        → slice_get
        (map (λ s. Told s) (cond b (a ∷ filter test (range_with_len (a + 1) n))
        (filter test (range_with_len (a + 1) n)))) i ≡ Some (Told e) → a ≤ e
    by_test others true zero h = let same = same_told a e h in omega (arith, same)
    by_test others true (suc i) h = omega (arith, others i h)
    by_test others false i h = omega (arith, others i h)

pub range_in_order : (test : ℕ → Bool) (a n : ℕ) → TellsInOrder (map (λ s. Told s) (filter test (range_with_len a n)))
range_in_order test a zero = none_in_order
range_in_order test a (suc n) = by_test (range_in_order test (a + 1) n) (test a)
  where
    by_test : TellsInOrder (map (λ s. Told s) (filter test (range_with_len (a + 1) n))) → (b : Bool)
        → TellsInOrder
        (map (λ s. Told s) (cond b (a ∷ filter test (range_with_len (a + 1) n))
        (filter test (range_with_len (a + 1) n))))
    by_test others true i zero s e less first second = absurd (let wrong : ⊥ = omega (arith, less) in wrong)
    by_test others true zero (suc j) s e less first second =
        let same = same_told a s first in
        let above = told_from test (a + 1) n j e second in
        omega (arith, same, above)
    by_test others true (suc i) (suc j) s e less first second = others i j s e (omega (arith, less)) first second
    by_test others false i j s e less first second = others i j s e less first second

-- so do those of two ranges, of which the second begins after the first
told_after : (test later : ℕ → Bool) (a n b m i e : ℕ) → a + n ≤ b
    → slice_get (map (λ s. Told s) (filter test (range_with_len a n))
    ++ map (λ s. Told s) (filter later (range_with_len b m))) i ≡ Some (Told e) → a ≤ e
told_after test later a zero b m i e far is = omega (arith, far, told_from later b m i e is)
told_after test later a (suc n) b m i e far is =
    by_test (λ j so. told_after test later (a + 1) n b m j e (omega (arith, far)) so) (test a) i is
  where
    by_test : ((j : ℕ) → slice_get (map (λ s. Told s) (filter test (range_with_len (a + 1) n))
        ++ map (λ s. Told s) (filter later (range_with_len b m))) j ≡ Some (Told e) → a + 1 ≤ e) → (z : Bool) (i : ℕ)
        → slice_get
        (map (λ s. Told s) (cond z (a ∷ filter test (range_with_len (a + 1) n))
        (filter test (range_with_len (a + 1) n))) ++ map (λ s. Told s) (filter later (range_with_len b m))) i
        ≡ Some (Told e) → a ≤ e
    by_test others true zero h = let same = same_told a e h in omega (arith, same)
    by_test others true (suc i) h = omega (arith, others i h)
    by_test others false i h = omega (arith, others i h)

pub ranges_in_order : (test later : ℕ → Bool) (a n b m : ℕ) → a + n ≤ b
    → TellsInOrder (map (λ s. Told s) (filter test (range_with_len a n))
    ++ map (λ s. Told s) (filter later (range_with_len b m)))
ranges_in_order test later a zero b m far = range_in_order later b m
ranges_in_order test later a (suc n) b m far =
    by_test (ranges_in_order test later (a + 1) n b m (omega (arith, far))) (test a)
  where
    by_test : TellsInOrder (map (λ s. Told s) (filter test (range_with_len (a + 1) n))
        ++ map (λ s. Told s) (filter later (range_with_len b m))) → (z : Bool)
        → TellsInOrder
        (map (λ s. Told s) (cond z (a ∷ filter test (range_with_len (a + 1) n))
        (filter test (range_with_len (a + 1) n))) ++ map (λ s. Told s) (filter later (range_with_len b m)))
    by_test others true i zero s e less first second = absurd (let wrong : ⊥ = omega (arith, less) in wrong)
    by_test others true zero (suc j) s e less first second =
        let same = same_told a s first in
        let above = told_after test later (a + 1) n b m j e (omega (arith, far)) second in
        omega (arith, same, above)
    by_test others true (suc i) (suc j) s e less first second = others i j s e (omega (arith, less)) first second
    by_test others false i j s e less first second = others i j s e less first second

-- # Each event keeps its promises, from every state of the one line centre.

pub given_is : (t : ℕ) (m : Mark) → is_given_to t m ≡ true → m ≡ Given t
given_is t Shut h = cc
given_is t Open h = cc
given_is t (Kept u) h = cc
given_is t (Given u) h = ap (λ (x : ℕ). Given x) (eqb-true u t h)

-- a section that is given in a state that is read off has a home
pub given_home : (line : Line) (w : World) (t s : ℕ) → (read_off line w).mark s ≡ Given t
    → (c : ℕ) × (is_home line c s ≡ true)
unfolding read_off
given_home line w t s = by_section (section line s) _
  where
    by_section : (o : Option Section) (mark : Section → Mark) → option_map_or mark o Shut ≡ Given t
        → (c : ℕ) × (option_map_or (λ p. p.home == c) o false ≡ true)
    by_section None mark h = cc
    by_section (Some p) mark h = (p.home, eq-eqb p.home p.home refl)

-- a section that is given is in the hand of its train
pub given_held : (line : Line) (w : World) (v : LineState) → StandsFor line w v → (t s c : ℕ) → is_home line c s ≡ true
    → v.mark s ≡ Given t → is_given line w t s ≡ true
given_held line w v stands t s c home is = by_holder (holder line w s) refl (sym (stands.mark s c home) ∙ is)
  where
    by_entry : (entry : centre.Entry) → mark_of None entry ≡ Given t → ⊥
    by_entry centre.Shut is = cc
    by_entry centre.Open is = cc
    by_entry (centre.Taken u) is = cc
    by_entry (centre.Out u) is = cc

    by_holder : (o : Option ℕ) → holder line w s ≡ o → mark_of o ((w.at c).book s) ≡ Given t
        → is_given line w t s ≡ true
    by_holder None none given = absurd (by_entry ((w.at c).book s) given)
    by_holder (Some u) some given =
        let same : u ≡ t = cc in
        subst (λ (x : ℕ). is_given line w x s ≡ true) same
        (found_passes (λ x. is_given line w x s) (map (λ p. p.nid_engine) line.trains) u some)

-- a section of the line has a home
home_below : (line : Line) (s : ℕ) → s < section_count line → (c : ℕ) × (is_home line c s ≡ true)
home_below line s below = elim (slice_get_cases line.sections s).1 [
  | inl at ↦ (
    at.0.home,
    ap (λ (o : Option Section). option_map_or (λ p. p.home == at.0.home) o false) at.2
        ∙ eq-eqb at.0.home at.0.home refl,
  )
  | inr past ↦ let far = past.0 in absurd (let no : ⊥ = omega (arith, far, below) in no)
]

-- ## The supervisor of a train

-- the mission that the line centre sees at the centre is the centre's
pub record IsSupervisor (w : World) (c t : ℕ) (v : LineState) : Type 0 where
  pub mission : centre.Mission
  pub has : (w.at c).mission t ≡ Some mission
  pub is_seen : v.mission t ≡ Some (seen c mission)

module _ (line : Line) (w : World) (v : LineState) (stands : StandsFor line w v) where
  here_is : (c t : ℕ) (test : LineMission → Bool) → has_here v c t test ≡ true → (h : IsSupervisor w c t v)
      × (test (seen c h.mission) ≡ true)
  here_is c t test = by_mission (v.mission t) refl
    where
      by_mission : (o : Option LineMission) → v.mission t ≡ o
          → option_map_or (λ m. is_at c m.supervisor && test m) o false ≡ true → (h : IsSupervisor w c t v)
          × (test (seen c h.mission) ≡ true)
      by_mission None is h = cc
      by_mission (Some m) is h =
          let parts = and_parts (is_at c m.supervisor) (test m) h in
          let theirs = is_the_centres line w v stands t c m is parts.0 in (
            record { mission = theirs.0; has = theirs.1; is_seen = is ∙ ap (λ x. Some x) theirs.2 },
            sym (ap test theirs.2) ∙ parts.1,
          )

  -- the answered request is pending
  asked_is : (stamp : ℕ) (n : LineMission) → answers_it stamp n ≡ true → (p : centre.Proposal)
      × (n.proposal ≡ Some p) × (stamp ≡ p.stamp)
  asked_is stamp n = by_proposal n.proposal
    where
      by_proposal : (o : Option centre.Proposal) → option_map_or (λ p. p.stamp == stamp) o false ≡ true
          → (p : centre.Proposal) × (o ≡ Some p) × (stamp ≡ p.stamp)
      by_proposal None h = cc
      by_proposal (Some p) h = (p, refl, sym (eqb-true p.stamp stamp h))

  -- the event may free each section that the line's own step frees
  module _ (c : ℕ) (t_train t : ℕ)
      (same : (body : TrainBody) → run.silence line v c (record { t_train = t_train; nid_engine = t; body = body })
      ≡ None → step.silence line c (w.at c) (record { t_train = t_train; nid_engine = t; body = body }) ≡ None) where
    abbrev pub message : TrainBody → TrainMessage
    message body = record { t_train = t_train; nid_engine = t; body = body }

    pub frees_is : (body : TrainBody) → run.silence line v c (message body) ≡ None → (u s : ℕ)
        → Frees line (hears c (message body) v) t u s body → MayFree line w u s (Bytes c (Ok (message body)))
    frees_is (Report position) fair u s (by_report _ place train on is) =
        let h = here_is c t (λ n. true)
        (not-false (has_here v c t (λ n. true))
        (none_passes (run.holds line v c (message (Report position)) (Report position))
        (reasons_of (Report position)) 4 NotSupervised fair refl)) in
        cleared c (message (Report position)) position h.0.mission place train (same (Report position) fair)
        (subst (λ (x : ℕ). (w.at c).mission x ≡ Some h.0.mission) train h.0.has) (inl refl)
        (subst (λ (o : Option LineMission). place_on line (option_map_or (λ n. n.place.track) o 0) position
        ≡ Some place) h.0.is_seen on) is
    frees_is (EndOfMission position) fair u s (by_end _ place train on is) =
        let h = here_is c t (λ n. true)
        (not-false (has_here v c t (λ n. true))
        (none_passes (run.holds line v c (message (EndOfMission position)) (EndOfMission position))
        (reasons_of (EndOfMission position)) 4 NotSupervised fair refl)) in
        cleared c (message (EndOfMission position)) position h.0.mission place train (same (EndOfMission position) fair)
        (subst (λ (x : ℕ). (w.at c).mission x ≡ Some h.0.mission) train h.0.has) (inr refl)
        (subst (λ (o : Option LineMission). place_on line (option_map_or (λ n. n.place.track) o 0) position
        ≡ Some place) h.0.is_seen on) is
    frees_is (EndOfMission position) fair u s (by_standstill _ place r train on still on_line reached left near ahead) =
        let h = here_is c t (λ n. true)
        (not-false (has_here v c t (λ n. true))
        (none_passes (run.holds line v c (message (EndOfMission position)) (EndOfMission position))
        (reasons_of (EndOfMission position)) 4 NotSupervised fair refl)) in
        let home = home_below line r on_line in
        stopped c (message (EndOfMission position)) position h.0.mission place r train
        (same (EndOfMission position) fair)
        (subst (λ (x : ℕ). (w.at c).mission x ≡ Some h.0.mission) train h.0.has) refl
        (eqb-true position.v_train 0 still)
        (subst (λ (o : Option LineMission). place_on line (option_map_or (λ n. n.place.track) o 0) position
        ≡ Some place) h.0.is_seen on)
        (subst (λ (x : ℕ). is_given line w x r ≡ true) train
        (given_held line w v stands t r home.0 home.1 (given_is t (v.mark r) reached)))
        left (ltb-true (10 * start line r) place.front near) (leb-true place.front (10 * start line s) ahead)
    frees_is (ShorteningGranted stamp position) fair u s (by_cut _ _ place train on time past) =
        let h = here_is c t (answers_it stamp)
        (not-false (has_here v c t (answers_it stamp))
        (none_passes (run.holds line v c (message (ShorteningGranted stamp position))
        (ShorteningGranted stamp position)) (reasons_of (ShorteningGranted stamp position)) 5 Unasked fair refl)) in
        let p = asked_is stamp (seen c h.0.mission) h.1 in
        let last : last_kept_of v t ≡ p.0.last_kept =
        ap (λ (o : Option LineMission). option_map_or (λ m. option_map_or (λ q. q.last_kept) m.proposal 0) o 0)
        h.0.is_seen ∙ ap (λ (o : Option centre.Proposal). option_map_or (λ q. q.last_kept) o 0) p.1 in
        shortened c (message (ShorteningGranted stamp position)) position h.0.mission p.0 place train
        (same (ShorteningGranted stamp position) fair)
        (subst (λ (x : ℕ). (w.at c).mission x ≡ Some h.0.mission) train h.0.has)
        p.1 (ap (λ (x : ℕ). ShorteningGranted x position) p.2)
        (subst (λ (o : Option LineMission). place_on line (option_map_or (λ n. n.place.track) o 0) position
        ≡ Some place) h.0.is_seen on)
        (leb-true place.front (10 * end line p.0.last_kept)
        (subst (λ (x : ℕ). nat_le place.front (10 * end line x) ≡ true) last time))
        (ltb-true p.0.last_kept s (subst (λ (x : ℕ). nat_lt x s ≡ true) last past))
    frees_is InitiationOfSession fair u s frees = elim frees [ ]
    frees_is TerminationOfSession fair u s frees = elim frees [ ]
    frees_is SessionEstablished fair u s frees = elim frees [ ]
    frees_is (StartOfMission is_valid position) fair u s frees = elim frees [ ]
    frees_is (TrainData position) fair u s frees = elim frees [ ]
    frees_is (Request position) fair u s frees = elim frees [ ]
    frees_is (ShorteningRejected stamp position) fair u s frees = elim frees [ ]

-- ## An own step

pub is_not_used : (m : Mark) (t : ℕ) → is_unused_mark m ≡ true → (m ≡ Given t) ⊎ (m ≡ Kept t) → ⊥
is_not_used m t unused (inl is) = let wrong : true ≡ false = sym unused ∙ ap is_unused_mark is in cc
is_not_used m t unused (inr is) = let wrong : true ≡ false = sym unused ∙ ap is_unused_mark is in cc
