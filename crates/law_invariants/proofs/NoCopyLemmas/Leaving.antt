-- Acts by which sections leave a mission, and by which it closes or is yielded.
use Rattle.std.proofs.Common.{[], ⊎_elim, ◌&&◌, ◌+◌, ◌<◌, ◌==◌, ◌∙◌, ◌∷◌, ◌≡◌, ◌≢◌, ◌≤◌, ◌⊎◌, ap, arith, Bool, eq-eqb}
use Rattle.std.proofs.Common.{false, if◌then◌else◌, inl, inr, None, Option, refl, Some, subst, sym, true, ℕ}
use Rattle.std.proofs.lemmas.Bool.{cases_eq, ne_eqb}
use Rattle.std.specs.Option.{option_map_or}
use Rattle.law_base.proofs.CountingLemmas.Resource.{sent_none}
use Rattle.law_base.proofs.CountingLemmas.Sums.{put_other, put_same}
use Rattle.law_base.specs.Counting.Network.{to_one}
use Rattle.law_base.specs.Counting.Resource.{sent_by}
use Rattle.law_base.specs.Walk.Trains.{train_of}
use Rattle.law_invariants.proofs.NoCopyLemmas.Parts.{away_part, freed_back, freed_here, freed_other, gone_here}
use Rattle.law_invariants.proofs.NoCopyLemmas.Parts.{gone_other, part_gone, taken_here, used_taken}
use Rattle.law_invariants.proofs.NoCopyLemmas.Ready.{cancel_rights, may_yield, Ready}
use Rattle.law_invariants.proofs.NoCopyLemmas.Tally.{back, eased, Fair, fair_booked, fair_both, fair_change, fair_freed}
use Rattle.law_invariants.proofs.NoCopyLemmas.Tally.{fair_if, fair_or, fair_rest, fair_say, fair_set, fair_then, gone}
use Rattle.law_invariants.proofs.NoCopyLemmas.Tally.{HasRegistrar, IsTally, MayYield, mission_back, mission_of}
use Rattle.law_invariants.proofs.NoCopyLemmas.Tally.{mission_put, part, right_of, sent_is, sent_le, Tally, whole}
use Rattle.law_invariants.specs.Flow.Flow.{centre_count}
use Rattle.law_invariants.specs.NoCopy.Stray.{is_plain}
use Rattle.rbc_spec.specs.Acts.{◌>>◌, become, booked, cancel, change_mission, close, end_order, freed, leave, part_at}
use Rattle.rbc_spec.specs.Acts.{Reply, rest, return_right, returned, say, send, set_mission, yield}
use Rattle.rbc_spec.specs.Centre.{Centre, Entry, Handing, is_registrar_of, is_taken_for, is_up, Mission, Out}
use Rattle.rbc_spec.specs.Frame.{Body, Cancel, GiveRight, ReturnRight, Yield, yielded_place}
use Rattle.rbc_spec.specs.Line.{Line, registrar}
use Rattle.rbc_spec.specs.Links.{taking_over}
use Rattle.rbc_spec.specs.Maps.{put}
use Rattle.rbc_spec.specs.Message.{EndSession, unknown_group}
use Rattle.rbc_spec.specs.SectionRuns.{is_empty, SectionRun, within}
use Rattle.rbc_spec.specs.Sections.{is_on, nid_rbc}

module _ (line : Line) (c : ℕ) (y : Tally) (is : IsTally line c y) where
  -- the act makes nothing
  abbrev pub Makes : Centre → Reply → Type 0
  Makes k q = Fair line c y k 0 0 q

  pub back_own : back y y.train ≡ y.one
  back_own = ap (λ b. if b then y.one else 0) (eq-eqb y.train y.train refl)

  pub back_other : (t : ℕ) → t ≢ y.train → back y t ≡ 0
  back_other t other = ap (λ b. if b then y.one else 0) (ne_eqb t y.train other)

  pub back_le : (t : ℕ) → back y t ≤ y.one
  back_le t = by_train (t == y.train)
    where
      by_train : (b : Bool) → (if b then y.one else 0) ≤ y.one
      by_train true = omega arith
      by_train false = omega arith

  pub gives_back : (a b t : ℕ) → y.res.inside a b (GiveRight t) ≡ back y t
  gives_back a b t = ⊎_elim
      (λ (here : t ≡ y.train). subst (λ v. y.res.inside a b (GiveRight v) ≡ back y v) (sym here)
      (is.gives a b ∙ sym back_own))
      (λ (other : t ≢ y.train). is.others a b (GiveRight t) other ∙ sym (back_other t other)) (cases_eq t y.train)

  pub returns_back : (a b t : ℕ) → y.res.inside a b (ReturnRight t) ≡ back y t
  returns_back a b t = ⊎_elim
      (λ (here : t ≡ y.train). subst (λ v. y.res.inside a b (ReturnRight v) ≡ back y v) (sym here)
      (is.backs a b ∙ sym back_own))
      (λ (other : t ≢ y.train). is.others a b (ReturnRight t) other ∙ sym (back_other t other)) (cases_eq t y.train)

  -- the train's sections of the run are on this track
  abbrev pub IsOnTrack : ℕ → ℕ → SectionRun → Type 0
  IsOnTrack t track r = y.exact ≡ true → t ≡ y.train → within r y.section ≡ true → is_on line track y.section ≡ true

  pub fair_returned : (t track : ℕ) (r : SectionRun) (k : Centre) → IsOnTrack t track r
      → Fair line c y k (gone y t r) 0 (returned line c t track r k)
  fair_returned t track r k on =
      record {
        law = omega (arith, is.home_goes t track r k);
        back = λ so. omega (arith, (is.back so).home_goes t track r k (on so));
      }

  pub sends_plain : (d : ℕ) (body : Body) (k : Centre) → is_plain body ≡ true → Makes k (send d body k)
  sends_plain d body k plain =
      record { law = omega (arith, is.plain c d body plain, sent_le line c y d body); back = λ so. omega arith }

  -- a body of the train that is counted goes to a centre of the line
  pub sends : (d t : ℕ) (body : Body) (k : Centre) → train_of body ≡ t
      → (y.exact ≡ true → t ≡ y.train → d < centre_count line)
      → Fair line c y k (y.res.inside c d body) 0 (send d body k)
  sends d t body k of_it to =
      record {
        law = omega (arith, sent_le line c y d body);
        back = λ so. omega (arith, all_sent so (cases_eq t y.train));
      }
    where
      all_sent : y.exact ≡ true → (t ≡ y.train) ⊎ (t ≢ y.train)
          → y.res.inside c d body ≤ sent_by y.res (centre_count line) c (to_one d (body ∷ []))
      all_sent so (inl here) = sent_is line c y d body (to so here)
      all_sent so (inr other) = omega (arith, is.others c d body (λ same. other (sym of_it ∙ same)))

  pub fair_cancel : (t : ℕ) (m : Mission) (k : Centre) → Makes k (cancel t m k)
  fair_cancel t m k = by_handing m.handing
    where
      by_handing : (o : Option Handing)
          → Makes k (option_map_or (λ h. send h.to (Cancel h.number t)
          >> change_mission t (λ n. record n { handing = None })) o rest k)
      by_handing None = fair_rest line c y k
      by_handing (Some h) = fair_both line c y (send h.to (Cancel h.number t))
          (change_mission t (λ n. record n { handing = None })) k
          (sends_plain h.to (Cancel h.number t) k refl)
          (fair_change line c y t (λ n. record n { handing = None }) k (λ n. (refl, refl)))

  right_put : (t : ℕ) (k : Centre) → right_of y (put k.has_right t true y.train)
      ≤ right_of y (k.has_right y.train) + back y t
  right_put t k = ⊎_elim
      (λ (here : y.train ≡ t).
      omega (
        arith,
        ap (λ v. right_of y (put k.has_right t true v)) here
            ∙ ap (right_of y) (put_same k.has_right t true),
        ap (back y) (sym here) ∙ back_own,
      ))
      (λ (other : y.train ≢ t). omega (arith, ap (right_of y) (put_other k.has_right t true y.train other)))
      (cases_eq y.train t)

  right_back : (t : ℕ) (k : Centre) → (t ≡ y.train → k.has_right y.train ≡ false)
      → right_of y (k.has_right y.train) + back y t ≤ right_of y (put k.has_right t true y.train)
  right_back t k alone = ⊎_elim
      (λ (here : y.train ≡ t).
      omega (
        arith,
        ap (λ v. right_of y (put k.has_right t true v)) here
            ∙ ap (right_of y) (put_same k.has_right t true),
        ap (right_of y) (alone (sym here)),
        back_le t,
      ))
      (λ (other : y.train ≢ t).
      omega (
        arith,
        ap (right_of y) (put_other k.has_right t true y.train other),
        back_other t (λ e. other (sym e)),
      )) (cases_eq y.train t)

  -- the train's right is not here, and has a registrar to which it can return
  abbrev pub MayReturn : ℕ → Centre → Type 0
  MayReturn t k = y.exact ≡ true → t ≡ y.train → (k.has_right y.train ≡ false) × HasRegistrar line y.train

  pub fair_return_right : (t : ℕ) (k : Centre) → MayReturn t k → Fair line c y k (back y t) 0 (return_right line c t k)
  fair_return_right t k may = by_registrar (is_registrar_of line c t) (registrar line t) refl
    where
      sent_back : y.exact ≡ true → (r : ℕ) → registrar line t ≡ Some r → (t ≡ y.train) ⊎ (t ≢ y.train)
          → back y t ≤ sent_by y.res (centre_count line) c (to_one r (ReturnRight t ∷ []))
      sent_back so r at (inl here) = let goes = may so here in
          let same : ◌≡◌ {A = Option ℕ} (Some r) (Some goes.1.centre) = sym at ∙ ap (registrar line) here ∙ goes.1.is in
          let there : goes.1.centre ≡ r = cc in
          omega (
            arith,
            sent_is line c y r (ReturnRight t) (subst (λ v. v < centre_count line) there goes.1.below),
            returns_back c r t,
          )
      sent_back so r at (inr other) = omega (arith, back_other t other)

      none_back : y.exact ≡ true → registrar line t ≡ None → (t ≡ y.train) ⊎ (t ≢ y.train) → back y t ≡ 0
      none_back so at (inl here) = absurd (let goes = may so here in
          let wrong : ◌≡◌ {A = Option ℕ} None (Some goes.1.centre) = sym at
          ∙ ap (registrar line) here ∙ goes.1.is in cc)
      none_back so at (inr other) = back_other t other

      by_registrar : (b : Bool) (o : Option ℕ) → registrar line t ≡ o
          → Fair line c y k (back y t) 0
          ((if b then become (λ j. record j { has_right = put j.has_right t true }) else option_map_or
          (λ r. send r (ReturnRight t)) o rest) k)
      by_registrar true o at = record {
        law = omega (arith, sent_none y.res (centre_count line) c, right_put t k);
        back = λ so. omega (arith, sent_none y.res (centre_count line) c, right_back t k (λ here. (may so here).0));
      }
      by_registrar false (Some r) at =
          record {
            law = omega (arith, sent_le line c y r (ReturnRight t), returns_back c r t);
            back = λ so. omega (arith, sent_back so r at (cases_eq t y.train));
          }
      by_registrar false None at = eased line c y (back y t) 0 k (rest k) (omega arith)
          (λ so. omega (arith, none_back so at (cases_eq t y.train))) (fair_rest line c y k)

  pub fair_close : (t : ℕ) (m : Mission) (k : Centre) → MayReturn t k
      → Fair line c y k (mission_of y (put k.mission t None y.train) + back y t)
      (mission_of y (k.mission y.train)) (close line c t m k)
  unfolding ◌>>◌
  fair_close t m k may = eased line c y _ _ k (close line c t m k) (omega arith) (λ so. omega arith)
      (fair_then line c y (set_mission t None >> cancel t m) (return_right line c t) k
      (fair_then line c y (set_mission t None) (cancel t m) k (fair_set line c y t None k)
      (fair_cancel t m (set_mission t None k).state))
      (fair_return_right t closed still))
    where
      closed : Centre
      closed = ((set_mission t None >> cancel t m) k).state

      still : MayReturn t closed
      still so here = let goes = may so here in
          (ap (λ f. f y.train) (cancel_rights line c y t m (set_mission t None k).state) ∙ goes.0, goes.1)

  -- ## Sections that leave

  pub fair_leave : (t track : ℕ) (r : SectionRun) (k : Centre) → IsOnTrack t track r
      → Fair line c y k (y.entry (k.book y.section) + gone y t r)
      (y.entry ((freed line c (is_taken_for t) r k).state.book y.section) + 0) (leave line c t track r k)
  fair_leave t track r k on = fair_then line c y (freed line c (is_taken_for t) r) (returned line c t track r) k
      (fair_freed line c y (is_taken_for t) r k)
      (fair_returned t track r (freed line c (is_taken_for t) r k).state on)

  pub left_law : (t : ℕ) (k : Centre) (r : SectionRun) (o : Option Mission)
      → mission_of y o + part y r ≤ mission_of y (k.mission t)
      → (y.entry (k.book y.section) + gone y t r) + mission_of y (put k.mission t o y.train)
      ≤ y.entry ((freed line c (is_taken_for t) r k).state.book y.section) + mission_of y (k.mission y.train)
  left_law t k r o le = mission_put line c y k t o (y.entry (k.book y.section) + gone y t r)
      (y.entry ((freed line c (is_taken_for t) r k).state.book y.section))
      (λ here. omega (arith, le, freed_here line c y is t r k here))
      (λ other. omega (arith, freed_other line c y is t r k other))

  pub left_back : y.exact ≡ true → (t : ℕ) (k : Centre) (r : SectionRun) (o : Option Mission)
      → mission_of y (k.mission t) ≤ mission_of y o + part y r
      → y.entry ((freed line c (is_taken_for t) r k).state.book y.section) + mission_of y (k.mission y.train)
      ≤ (y.entry (k.book y.section) + gone y t r) + mission_of y (put k.mission t o y.train)
  left_back so t k r o le = mission_back line c y k t o (y.entry (k.book y.section) + gone y t r)
      (y.entry ((freed line c (is_taken_for t) r k).state.book y.section))
      (λ here. omega (arith, le, freed_back line c y is so t r k, part_gone line c y is so t r here))
      (λ other. omega (arith, freed_back line c y is so t r k))

  closing_law : (t : ℕ) (k : Centre) (r : SectionRun) → y.one + part y r ≤ mission_of y (k.mission t)
      → ((y.entry (k.book y.section) + gone y t r) + back y t) + mission_of y (put k.mission t None y.train)
      ≤ y.entry ((freed line c (is_taken_for t) r k).state.book y.section) + mission_of y (k.mission y.train)
  closing_law t k r le = mission_put line c y k t None ((y.entry (k.book y.section) + gone y t r) + back y t)
      (y.entry ((freed line c (is_taken_for t) r k).state.book y.section))
      (λ here. omega (arith, le, freed_here line c y is t r k here, back_le t))
      (λ other. omega (arith, freed_other line c y is t r k other, back_other t other))

  closing_back : y.exact ≡ true → (t : ℕ) (k : Centre) (r : SectionRun) → mission_of y (k.mission t) ≤ y.one + part y r
      → y.entry ((freed line c (is_taken_for t) r k).state.book y.section) + mission_of y (k.mission y.train)
      ≤ ((y.entry (k.book y.section) + gone y t r) + back y t) + mission_of y (put k.mission t None y.train)
  closing_back so t k r le = mission_back line c y k t None ((y.entry (k.book y.section) + gone y t r) + back y t)
      (y.entry ((freed line c (is_taken_for t) r k).state.book y.section))
      (λ here. omega
      (arith, le, freed_back line c y is so t r k, part_gone line c y is so t r here, ap (back y) here ∙ back_own))
      (λ other. omega (arith, freed_back line c y is so t r k))

  pub leave_close : (t track : ℕ) (r : SectionRun) (m : Mission) (k : Centre)
      → y.one + part y r ≤ mission_of y (k.mission t) → (y.exact ≡ true → mission_of y (k.mission t) ≤ y.one + part y r)
      → IsOnTrack t track r → MayReturn t k → Makes k ((leave line c t track r >> close line c t m) k)
  unfolding ◌>>◌
  leave_close t track r m k le all on may = eased line c y 0 0 k ((leave line c t track r >> close line c t m) k)
      (omega (arith, closing_law t k r le)) (λ so. omega (arith, closing_back so t k r (all so)))
      (fair_then line c y (leave line c t track r) (close line c t m) k (fair_leave t track r k on)
      (fair_close t m (leave line c t track r k).state may))

  pub leave_set : (t track : ℕ) (r : SectionRun) (o : Option Mission) (k : Centre)
      → mission_of y o + part y r ≤ mission_of y (k.mission t)
      → (y.exact ≡ true → mission_of y (k.mission t) ≤ mission_of y o + part y r)
      → IsOnTrack t track r → Makes k ((leave line c t track r >> set_mission t o) k)
  unfolding ◌>>◌
  leave_set t track r o k le all on = eased line c y 0 0 k ((leave line c t track r >> set_mission t o) k)
      (omega (arith, left_law t k r o le)) (λ so. omega (arith, left_back so t k r o (all so)))
      (fair_then line c y (leave line c t track r) (set_mission t o) k (fair_leave t track r k on)
      (fair_set line c y t o (leave line c t track r k).state))

  -- ## Yielding

  pub fair_end_order : (t : ℕ) (k : Centre) → Makes k (end_order line c t k)
  fair_end_order t k = fair_if line c y (is_up (k.phase t)) k
      (say t unknown_group (EndSession line.nid_c (nid_rbc line c)) k) (rest k)
      (λ so. fair_say line c y t unknown_group (EndSession line.nid_c (nid_rbc line c)) k) (λ so. fair_rest line c y k)

  abbrev lent_entry : ℕ → SectionRun → Entry → Entry
  lent_entry t hand e = if within hand y.section && is_taken_for t e then Out t else e

  yielded_law : (t to number heard : ℕ) (m : Mission) (k : Centre) → mission_of y (k.mission t) ≡ whole y m.hand m.pool
      → (t ≡ y.train → y.outside ≡ true → MayYield line c y m.hand (k.book y.section))
      → ((gone y t m.pool + y.entry (k.book y.section))
      + y.res.inside c to (Yield number t heard m.has_data m.is_ended (yielded_place m.place) m.hand))
      + mission_of y (put k.mission t None y.train)
      ≤ y.entry (lent_entry t m.hand (k.book y.section)) + mission_of y (k.mission y.train)
  yielded_law t to number heard m k has may =
      mission_put line c y k t None _ (y.entry (lent_entry t m.hand (k.book y.section)))
      (λ here. omega (
        arith,
        has,
        gone_here line c y is t m.pool,
        away_part line c y is m.pool,
        subst (λ v. y.entry (k.book y.section) + y.res.inside c to
            (Yield number v heard m.has_data m.is_ended (yielded_place m.place) m.hand) ≤ (y.one + part y m.hand)
            + y.entry (lent_entry v m.hand (k.book y.section)))
            (sym here) (is.yields to number heard m.has_data m.is_ended (yielded_place m.place) m.hand
            (k.book y.section) (may here)),
      ))
      (λ other. omega (
        arith,
        gone_other line c y is t m.pool other,
        is.others c to (Yield number t heard m.has_data m.is_ended (yielded_place m.place) m.hand) other,
        by_tests other (within m.hand y.section) (is_taken_for t (k.book y.section)) refl,
      ))
    where
      by_tests : t ≢ y.train → (w x : Bool) → is_taken_for t (k.book y.section) ≡ x
          → y.entry (k.book y.section) ≤ y.entry (if w && x then Out t else k.book y.section)
      by_tests other false x taken = omega arith
      by_tests other true false taken = omega arith
      by_tests other true true taken =
          is.other t (k.book y.section) (Out t) other (used_taken line c y is t (k.book y.section) taken)

  -- the entry becomes that of a section that is out, or stays here
  lent_back : y.exact ≡ true → (t : ℕ) (hand : SectionRun) (e : Entry) → t ≢ y.train
      → y.entry (lent_entry t hand e) ≤ y.entry e
  lent_back so t hand e other = by_tests (within hand y.section) (is_taken_for t e) refl
    where
      by_tests : (w x : Bool) → is_taken_for t e ≡ x → y.entry (if w && x then Out t else e) ≤ y.entry e
      by_tests false x taken = omega arith
      by_tests true false taken = omega arith
      by_tests true true taken = (is.back so).here (Out t) e (ne_eqb t y.train other)
          (taken_here line c y is t y.train e taken)

  yielded_back : y.exact ≡ true → (t to number heard : ℕ) (m : Mission) (k : Centre)
      → mission_of y (k.mission t) ≡ whole y m.hand m.pool → (t ≡ y.train → MayYield line c y m.hand (k.book y.section))
      → y.entry (lent_entry t m.hand (k.book y.section)) + mission_of y (k.mission y.train)
      ≤ ((gone y t m.pool + y.entry (k.book y.section))
      + y.res.inside c to (Yield number t heard m.has_data m.is_ended (yielded_place m.place) m.hand))
      + mission_of y (put k.mission t None y.train)
  yielded_back so t to number heard m k has may =
      mission_back line c y k t None _ (y.entry (lent_entry t m.hand (k.book y.section)))
      (λ here. omega (
        arith,
        has,
        part_gone line c y is so t m.pool here,
        subst (λ v. (y.one + part y m.hand) + y.entry (lent_entry v m.hand (k.book y.section))
            ≤ y.entry (k.book y.section) + y.res.inside c to
            (Yield number v heard m.has_data m.is_ended (yielded_place m.place) m.hand))
            (sym here) ((is.back so).yields to number heard m.has_data m.is_ended (yielded_place m.place) m.hand
            (k.book y.section) (may here)),
      ))
      (λ other. omega (arith, lent_back so t m.hand (k.book y.section) other))

  pub fair_yield : (t : ℕ) (m : Mission) (h : Handing) (k : Centre) → mission_of y (k.mission t) ≡ whole y m.hand m.pool
      → (t ≡ y.train → y.outside ≡ true → MayYield line c y m.hand (k.book y.section))
      → IsOnTrack t m.place.track m.pool
      → (y.exact ≡ true → t ≡ y.train → (y.outside ≡ true) × (h.to < centre_count line))
      → Makes k (yield line c t m h k)
  unfolding ◌>>◌
  fair_yield t m h k has may on can = eased line c y 0 0 k (yield line c t m h k)
      (omega (arith, yielded_law t h.to h.number (option_map_or (λ n. n) (k.heard t) 0) m k has may))
      (λ so. omega (
        arith,
        yielded_back so t h.to h.number (option_map_or (λ n. n) (k.heard t) 0) m k has
            (λ here. may here (can so here).0),
      ))
      (fair_then line c y
      ((returned line c t m.place.track m.pool >> booked (is_taken_for t) (Out t) m.hand)
      >> (set_mission t None >> send h.to gives))
      (if is_empty (part_at line c m.place.track m.hand) then end_order line c t else rest) k
      (fair_then line c y (returned line c t m.place.track m.pool >> booked (is_taken_for t) (Out t) m.hand)
      (set_mission t None >> send h.to gives) k
      (fair_then line c y (returned line c t m.place.track m.pool) (booked (is_taken_for t) (Out t) m.hand) k
      (fair_returned t m.place.track m.pool k on) (fair_booked line c y (is_taken_for t) (Out t) m.hand k))
      (fair_then line c y (set_mission t None) (send h.to gives) middle (fair_set line c y t None middle)
      (sends h.to t gives (set_mission t None middle).state refl (λ so here. (can so here).1))))
      (ends (is_empty (part_at line c m.place.track m.hand)) _))
    where
      gives : Body
      gives = Yield h.number t (option_map_or (λ n. n) (k.heard t) 0) m.has_data m.is_ended
          (yielded_place m.place) m.hand

      middle : Centre
      middle = ((returned line c t m.place.track m.pool >> booked (is_taken_for t) (Out t) m.hand) k).state

      ends : (b : Bool) (j : Centre) → Makes j ((if b then end_order line c t else rest) j)
      ends true j = fair_end_order t j
      ends false j = fair_rest line c y j

  pub fair_yield_over : (d number t : ℕ) (k : Centre) → Ready line c y k → Makes k (taking_over line c d number t k)
  fair_yield_over d number t k ready = fair_or line c y (k.mission t) _ k (rest k)
      (λ m has. fair_or line c y m.handing _ k (rest k)
      (λ h stands. fair_if line c y ((h.number == number) && (h.to == d)) k (yield line c t m h k) (rest k)
      (λ so. fair_yield t m h k (ap (mission_of y) has) (may_yield line c y t m k has ready)
      (λ exact here. (ready.stands exact m (ap (λ v. k.mission v) (sym here) ∙ has)).pool_on)
      (λ exact here.
      ((is.back exact).named, (ready.stands exact m (ap (λ v. k.mission v) (sym here) ∙ has)).to_centre h stands)))
      (λ so. fair_rest line c y k))
      (λ none. fair_rest line c y k))
      (λ none. fair_rest line c y k)
