-- Rights, and tokens outside a section's home.
use Rattle.std.proofs.Common.{◌&&◌, ◌+◌, ◌<◌, ◌==◌, ◌||◌, ◌∙◌, ◌≡◌, ◌≢◌, ap, arith, Bool, false, if◌then◌else◌, is_some}
use Rattle.std.proofs.Common.{length, ltb-true, None, not, Option, option_map, refl, slice_get, Some, sym, true, ℕ}
use Rattle.std.proofs.lemmas.List.Folds.{find_at}
use Rattle.std.proofs.lemmas.Option.{slice_get-get_or}
use Rattle.std.specs.List.{find, position_or_len}
use Rattle.law_base.proofs.CountingLemmas.Sums.{one_if_le_one, one_if_some, one_if_true}
use Rattle.law_base.specs.Counting.Resource.{Resource}
use Rattle.law_base.specs.Counting.Sums.{one_if}
use Rattle.law_base.specs.Local.Local.{hand_has}
use Rattle.law_base.specs.Walk.Trains.{train_of}
use Rattle.law_invariants.proofs.FlowLemmas.Lists.{is_there}
use Rattle.law_invariants.proofs.NoCopyLemmas.Ready.{Ready}
use Rattle.law_invariants.proofs.NoCopyLemmas.Rights.{no_number, rights_counted}
use Rattle.law_invariants.proofs.NoCopyLemmas.Steps as steps
use Rattle.law_invariants.proofs.NoCopyLemmas.Steps.{same_place, step_exact}
use Rattle.law_invariants.proofs.NoCopyLemmas.Tally.{HasRegistrar, IsExactTally, IsTally, Tally}
use Rattle.law_invariants.proofs.SoundLemmas.Events.{linked_apart}
use Rattle.law_invariants.proofs.SoundLemmas.Leaving.{next_is_centre}
use Rattle.law_invariants.specs.Flow.Counts.{pool_has, rights, token_inside}
use Rattle.law_invariants.specs.Flow.Flow.{centre_count}
use Rattle.law_invariants.specs.Flow.Sound.{IsCentreSound}
use Rattle.law_invariants.specs.NoCopy.Steps.{IsExactStep}
use Rattle.law_invariants.specs.NoCopy.Stray.{is_plain}
use Rattle.law_invariants.specs.NoLoss.Keeps.{BringsNoStray, HasRightOnce}
use Rattle.rbc_spec.proofs.Lists.{itself, registrar_below}
use Rattle.rbc_spec.specs.Centre.{Centre, Entry, is_out_for, is_registrar_of, is_taken_for, is_used_for, Open, Out}
use Rattle.rbc_spec.specs.Centre.{Shut, Taken}
use Rattle.rbc_spec.specs.Frame.{Body}
use Rattle.rbc_spec.specs.Line.{is_home, is_linked, IsLine, Line, registrar, section, Train}
use Rattle.rbc_spec.specs.Links.{is_train}
use Rattle.rbc_spec.specs.Outcome.{Next, NoLink}
use Rattle.rbc_spec.specs.SectionRuns.{within}
use Rattle.rbc_spec.specs.Step.{Deliver, Event, offered, Set, stamp_of, ticked, Train as FromTrain, Unset}

-- # A sound centre with each right at most once is ready for the walk that counts losses.

-- a train of the line has a registrar
has_registrar : (line : Line) → IsLine line → (t : ℕ) → is_train line t ≡ true → HasRegistrar line t
has_registrar line ok t known = by_registrar (registrar line t) refl (found known)
  where
    found : is_train line t ≡ true → is_some (registrar line t) ≡ true
    found is = by_find (find (λ p. p.nid_engine == t) line.trains) (find_at (λ p. p.nid_engine == t) line.trains)
        (is_there (position_or_len (λ p. p.nid_engine == t) line.trains) (length line.trains) is)
      where
        by_find : (o : Option Train) → o ≡ slice_get line.trains (position_or_len (λ p. p.nid_engine == t) line.trains)
            → position_or_len (λ p. p.nid_engine == t) line.trains < length line.trains
            → is_some (option_map (λ p. p.registrar) o) ≡ true
        by_find (Some p) at below = refl
        by_find None at below = absurd (let wrong : ◌≡◌ {A = Option Train} None (Some _) = at
            ∙ slice_get-get_or line.trains (position_or_len (λ p. p.nid_engine == t) line.trains)
            (record { nid_engine = 0; registrar = 0 }) below in cc)

    by_registrar : (o : Option ℕ) → registrar line t ≡ o → is_some o ≡ true → HasRegistrar line t
    by_registrar None at some = cc
    by_registrar (Some r) at some = record { centre = r; is = at; below = registrar_below line ok t r at }

module _ (line : Line) (ok : IsLine line) (c : ℕ) (y : Tally) where
  pub registrar_known : is_train line y.train ≡ true → HasRegistrar line y.train
  registrar_known known = has_registrar line ok y.train known

  pub ready_to_count : (k : Centre) → IsCentreSound line c k → HasRightOnce k → Ready line c y k
  ready_to_count k sound once = record {
    claims = λ so in_hand home. one_if_some (is_taken_for y.train (k.book y.section))
        (omega (
          arith,
          sound.claims y.section y.train home,
          one_if_true (hand_has (k.mission y.train) y.section) in_hand,
        ));
    stands = λ so m is. record {
      hand_on = (sound.mission y.train m is).hand.on_track y.section;
      pool_on = (sound.mission y.train m is).pool_on y.section;
      alone = once.alone y.train m is;
      to_registrar = registrar_known (sound.mission_known y.train m is).0;
      to_centre = λ h stands. ltb-true h.to (centre_count line)
          (next_is_centre line ok c h.to m.place.track ((sound.mission y.train m is).handing_to h stands));
    };
  }

  module _ (is : IsTally line c y) where
    pub none_stray : (stamp : ℕ) (k : Centre) (event : Event) → BringsNoStray line c k event
        → steps.BringsNoStray line c y is (ticked stamp k) event
    none_stray stamp k (FromTrain m) due = record {}
    none_stray stamp k (Set s) due = record {}
    none_stray stamp k (Unset s) due = record {}
    none_stray stamp k (Deliver d f) due = λ so next. (
      ends (is_linked line c d) refl next,
      ap (λ b. is_plain f.body || (is_train line (train_of f.body) && b))
          (sym (same_place line c d stamp k.taken k f.body)) ∙ due next,
    )
      where
        ends : (b : Bool) → is_linked line c d ≡ b → (if b then offered (k.taken d) f.number else NoLink) ≡ Next
            → (d < centre_count line) × (c ≢ d)
        ends true linked next = let two = linked_apart line c d linked in (ltb-true d (centre_count line) two.0, two.1)
        ends false linked next = cc

-- # The tokens of a section outside its home: in a hand, a pool or a frame. The home has the section out for the train.

-- at centres that are not its home: in hands and pools; its home has it out for the train
abbrev pub outside : Line → ℕ → ℕ → Resource Centre Body
outside line t s = record {
  held = λ c k. one_if (not (is_home line c s) && hand_has (k.mission t) s)
      + one_if (not (is_home line c s) && pool_has (k.mission t) s);
  inside = λ a b body. token_inside t s body;
  cap = λ c k. one_if (is_home line c s && is_out_for t (k.book s));
}

abbrev pub outside_kept : Line → ℕ → ℕ → ℕ → Tally
outside_kept line c t s = record {
  res = outside line t s;
  train = t;
  section = s;
  one = 0;
  weight = one_if (not (is_home line c s));
  waiting = 0;
  away = one_if (not (is_home line c s));
  entry = λ e. one_if (is_home line c s && is_out_for t e);
  outside = true;
  exact = true;
}

pub away_used : (t : ℕ) (e : Entry) → is_used_for t e ≡ false → is_out_for t e ≡ false
away_used t Shut h = refl
away_used t Open h = refl
away_used t (Taken u) h = refl
away_used t (Out u) h = h

pub taken_at_home : (u t : ℕ) (e : Entry) → is_taken_for u e ≡ true → is_out_for t e ≡ false
taken_at_home u t Shut h = refl
taken_at_home u t Open h = refl
taken_at_home u t (Taken v) h = refl
taken_at_home u t (Out v) h = cc

-- # Rights are counted, and none is lost.

abbrev pub rights_kept : Line → ℕ → ℕ → Tally
rights_kept line c t =
    record {
      res = rights line t;
      train = t;
      section = 0;
      one = 1;
      weight = 0;
      waiting = 0;
      away = 0;
      entry = λ e. one_if (is_registrar_of line c t);
      outside = true;
      exact = true;
    }

module _ (line : Line) (ok : IsLine line) (c t : ℕ) where
  none_gone : (a w : Bool) → ◌≡◌ {A = ℕ} (if a then (if w then 0 else 0) else 0) 0
  none_gone true w = no_number w
  none_gone false w = refl

  exact : IsExactTally line c (rights_kept line c t)
  exact = record {
    home_goes = λ u track r k on. omega (arith, none_gone (u == t) (within r 0));
    here = λ e g one two. omega arith;
    named = refl;
    registrar = registrar_known line ok c (rights_kept line c t);
    heavy = omega arith;
    waiting = refl;
    own = λ home. refl;
    lends = λ d r e home in_run is. omega arith;
    told = λ a r away. omega arith;
    told_back = λ a r. omega arith;
    not_told = λ a b r none. refl;
    comes_home = λ a r e g home out unused. omega arith;
    not_home = λ a b r out. refl;
    yields = λ to number heard has_data is_ended place hand e may.
        omega (arith, one_if_true (t == t) (itself t), no_number (within hand 0));
    takes = λ a number heard has_data is_ended place hand e may.
        omega (arith, one_if_le_one (t == t), no_number (within hand 0));
  }

  pub rights_exact : IsTally line c (rights_kept line c t)
  rights_exact = let old = rights_counted line c t in record {
    held = old.held;
    cap = old.cap;
    plain = old.plain;
    others = old.others;
    gives = old.gives;
    backs = old.backs;
    home_goes = old.home_goes;
    unused = old.unused;
    other = old.other;
    light = old.light;
    opens = old.opens;
    frees = old.frees;
    waits = old.waits;
    lends = old.lends;
    names = old.names;
    told = old.told;
    told_back = old.told_back;
    comes_home = old.comes_home;
    yields = λ to number heard has_data is_ended place hand e may.
        old.yields to number heard has_data is_ended place hand e (λ so. cc);
    takes = old.takes;
    back = λ so. exact;
  }

pub no_right_lost : (line : Line) → IsLine line → (c t : ℕ) (k : Centre) (event : Event) → IsCentreSound line c k
    → HasRightOnce k → BringsNoStray line c k event
    → IsExactStep (rights line t) line c k event
no_right_lost line ok c t k event sound once due =
    step_exact line c (rights_kept line c t) (rights_exact line ok c t) k event sound
    (ready_to_count line ok c (rights_kept line c t) k sound once) refl
    (none_stray line ok c (rights_kept line c t) (rights_exact line ok c t) (stamp_of k event) k event due)
