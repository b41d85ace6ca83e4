-- Starts of mission, and starts that wait.
use Rattle.std.proofs.Common.{⊎_elim, ◌&&◌, ◌+◌, ◌∙◌, ◌≡◌, ◌≢◌, ◌≤◌, ap, arith, Bool, false, if◌then◌else◌, is_none}
use Rattle.std.proofs.Common.{is_some, None, not, Option, refl, Some, subst, sym, true, ℕ}
use Rattle.std.proofs.lemmas.Bool.{and_parts, cases_eq}
use Rattle.std.specs.Option.{option_map_or}
use Rattle.law_base.proofs.CountingLemmas.Resource.{sent_none}
use Rattle.law_base.proofs.CountingLemmas.Sums.{put_other, put_same}
use Rattle.law_invariants.proofs.NoCopyLemmas.Leaving.{back_le, back_other, back_own, fair_return_right, Makes}
use Rattle.law_invariants.proofs.NoCopyLemmas.Leaving.{sends_plain}
use Rattle.law_invariants.proofs.NoCopyLemmas.Parts.{freed_back, freed_other, none_part, open_here, open_unused}
use Rattle.law_invariants.proofs.NoCopyLemmas.Tally.{alike, back, eased, Fair, fair_booked, fair_both, fair_change}
use Rattle.law_invariants.proofs.NoCopyLemmas.Tally.{fair_freed, fair_if, fair_or, fair_plain, fair_rest, fair_say}
use Rattle.law_invariants.proofs.NoCopyLemmas.Tally.{fair_set, fair_then, HasRegistrar, IsTally, mission_back}
use Rattle.law_invariants.proofs.NoCopyLemmas.Tally.{mission_of, mission_put, part, right_of, start_of, Tally, wait_of}
use Rattle.law_invariants.specs.Flow.Flow.{centre_count}
use Rattle.rbc_spec.proofs.Lists.{none_is}
use Rattle.rbc_spec.proofs.Runs.{each_within}
use Rattle.rbc_spec.specs.Acts.{◌>>◌, become, begun, booked, change_mission, freed, Reply, rest, return_right, send}
use Rattle.rbc_spec.specs.Acts.{set_mission, where_so, with_some}
use Rattle.rbc_spec.specs.Centre.{Centre, Closed, Entry, is_free, is_open, is_out_for, is_registrar_of, is_taken_for}
use Rattle.rbc_spec.specs.Centre.{Mission, Open, Shut, Taken}
use Rattle.rbc_spec.specs.Frame.{AskRight}
use Rattle.rbc_spec.specs.Line.{is_home, Line, registrar}
use Rattle.rbc_spec.specs.Links.{answered_ask, right_given, right_refused}
use Rattle.rbc_spec.specs.Maps.{put}
use Rattle.rbc_spec.specs.Message.{TrainAccepted, TrainRejected, unknown_group}
use Rattle.rbc_spec.specs.Place.{covered, fit_place, Place, Position}
use Rattle.rbc_spec.specs.Rules.{accept, begin, choose, close_session, drop_wait, reject, restart, set_phase}
use Rattle.rbc_spec.specs.Rules.{start_here, start_mission, start_new, start_waiting}
use Rattle.rbc_spec.specs.SectionRuns.{all_of, SectionRun, within}

module _ (line : Line) (c : ℕ) (y : Tally) (is : IsTally line c y) where
  -- open sections are put into use for some train
  pub booked_open : (g : Entry) (r : SectionRun) (e : Entry)
      → y.entry e ≤ y.entry (if within r y.section && is_open e then g else e)
  booked_open g r e = by_tests (within r y.section) (is_open e) refl
    where
      by_tests : (w o : Bool) → is_open e ≡ o → y.entry e ≤ y.entry (if w && o then g else e)
      by_tests false o opened = omega arith
      by_tests true false opened = omega arith
      by_tests true true opened = is.unused e g (open_unused e opened)

  pub booked_back : y.exact ≡ true → (g : Entry) (r : SectionRun) (e : Entry) → is_out_for y.train g ≡ false
      → y.entry (if within r y.section && is_open e then g else e) ≤ y.entry e
  booked_back so g r e is_here = by_tests (within r y.section) (is_open e) refl
    where
      by_tests : (w o : Bool) → is_open e ≡ o → y.entry (if w && o then g else e) ≤ y.entry e
      by_tests false o opened = omega arith
      by_tests true false opened = omega arith
      by_tests true true opened = (is.back so).here g e is_here (open_here y.train e opened)

  -- if losses are counted, a waiting start counts nothing: its sections are counted at home
  no_waits : y.exact ≡ true → (o : Option Place) → wait_of line y o ≡ 0
  no_waits so None = refl
  no_waits so (Some place) = by_within (within (covered line place) y.section)
    where
      by_within : (b : Bool) → (if b then y.waiting else 0) ≡ 0
      by_within true = (is.back so).waiting
      by_within false = refl

  -- the sections that a start may begin in: all of home, and open
  abbrev AllOpen : SectionRun → Entry → Type 0
  AllOpen r e = within r y.section ≡ true → (is_home line c y.section ≡ true) × (is_open e ≡ true)

  booked_start : (t : ℕ) (r : SectionRun) (e : Entry) → t ≡ y.train → AllOpen r e
      → (y.entry e + part y r ≤ y.entry (if within r y.section && is_open e then Taken t else e))
      × (y.entry e + start_of y r ≤ y.entry (if within r y.section && is_open e then Taken t else e))
  booked_start t r e here free = by_tests (within r y.section) (is_open e) refl free
    where
      by_tests : (w o : Bool) → is_open e ≡ o → (w ≡ true → (is_home line c y.section ≡ true) × (o ≡ true))
          → (y.entry e + (if w then y.weight else 0) ≤ y.entry (if w && o then Taken t else e))
          × (y.entry e + (if w then y.waiting else 0) ≤ y.entry (if w && o then Taken t else e))
      by_tests false o opened all = (omega arith, omega arith)
      by_tests true false opened all = absurd (let wrong : false ≡ true = (all refl).1 in cc)
      by_tests true true opened all = subst (λ v. (y.entry e + y.weight ≤ y.entry (Taken v))
          × (y.entry e + y.waiting ≤ y.entry (Taken v))) (sym here) (is.opens e (all refl).0 opened)

  pub fair_accept : (t : ℕ) (k : Centre) → Makes line c y is k (accept t k)
  fair_accept t k = fair_say line c y t unknown_group TrainAccepted k

  pub fair_reject : (t : ℕ) (k : Centre) → Makes line c y is k (reject t k)
  fair_reject t k = fair_say line c y t unknown_group TrainRejected k

  pub fair_begin : (t : ℕ) (place : Place) (k : Centre)
      → Fair line c y k (mission_of y (put k.mission t (Some (begun line place)) y.train) + 0)
      (mission_of y (k.mission y.train) + 0) (begin line t place k)
  fair_begin t place k = fair_then line c y (set_mission t (Some (begun line place))) (accept t) k
      (fair_set line c y t (Some (begun line place)) k)
      (fair_accept t (set_mission t (Some (begun line place)) k).state)

  -- ## At the registrar

  right_taken : (t : ℕ) (k : Centre) → k.has_right t ≡ true → right_of y (put k.has_right t false y.train) + back y t
      ≡ right_of y (k.has_right y.train)
  right_taken t k has = ⊎_elim
      (λ (here : y.train ≡ t). omega (
        arith,
        ap (λ v. right_of y (put k.has_right t false v)) here ∙ ap (right_of y) (put_same k.has_right t false),
        ap (back y) (sym here) ∙ back_own line c y is,
        ap (λ v. right_of y (k.has_right v)) here ∙ ap (right_of y) has,
      ))
      (λ (other : y.train ≢ t).
      omega (
        arith,
        ap (right_of y) (put_other k.has_right t false y.train other),
        back_other line c y is t (λ e. other (sym e)),
      )) (cases_eq y.train t)

  pub fair_right_taken : (t : ℕ) (k : Centre) → k.has_right t ≡ true
      → Fair line c y k 0 (back y t) (become (λ j. record j { has_right = put j.has_right t false }) k)
  fair_right_taken t k has =
      alike line c y k 0 (back y t) _ (omega (arith, right_taken t k has, sent_none y.res (centre_count line) c))

  begun_law : (t : ℕ) (place : Place) (k : Centre) → AllOpen (covered line place) (k.book y.section)
      → y.entry (k.book y.section) + mission_of y (put k.mission t (Some (begun line place)) y.train)
      ≤ (y.entry (if within (covered line place) y.section
      && is_open (k.book y.section) then Taken t else k.book y.section) + back y t)
      + mission_of y (k.mission y.train)
  begun_law t place k free = mission_put line c y k t (Some (begun line place)) (y.entry (k.book y.section))
      (y.entry (if within (covered line place) y.section
      && is_open (k.book y.section) then Taken t else k.book y.section) + back y t)
      (λ here. omega (
        arith,
        (booked_start t (covered line place) (k.book y.section) here free).0,
        none_part y,
        ap (back y) here
            ∙ back_own line c y is,
      ))
      (λ other. omega (arith, booked_open (Taken t) (covered line place) (k.book y.section)))

  begun_back : y.exact ≡ true → (t : ℕ) (place : Place) (k : Centre) → k.mission t ≡ None
      → (y.entry (if within (covered line place) y.section
      && is_open (k.book y.section) then Taken t else k.book y.section) + back y t)
      + mission_of y (k.mission y.train)
      ≤ y.entry (k.book y.section) + mission_of y (put k.mission t (Some (begun line place)) y.train)
  begun_back so t place k none = mission_back line c y k t (Some (begun line place)) (y.entry (k.book y.section))
      (y.entry (if within (covered line place) y.section
      && is_open (k.book y.section) then Taken t else k.book y.section) + back y t)
      (λ here. omega (
        arith,
        booked_back so (Taken t) (covered line place) (k.book y.section) refl,
        back_le line c y is t,
        ap (mission_of y) none,
      ))
      (λ other.
      omega (
        arith,
        booked_back so (Taken t) (covered line place) (k.book y.section) refl,
        back_other line c y is t other,
      ))

  pub fair_start_here : (t : ℕ) (place : Place) (k : Centre) → AllOpen (covered line place) (k.book y.section)
      → k.mission t ≡ None → Makes line c y is k (start_here line t place k)
  unfolding ◌>>◌
  fair_start_here t place k free none = by_right (k.has_right t) refl
    where
      middle : Centre
      middle = (booked is_open (Taken t) (covered line place) k).state

      by_right : (b : Bool) → k.has_right t ≡ b
          → Makes line c y is k
          (if b then ((booked is_open (Taken t) (covered line place)
          >> become (λ j. record j { has_right = put j.has_right t false }))
          >> begin line t place) k else reject t k)
      by_right true has = eased line c y 0 0 k _ (omega (arith, begun_law t place k free))
          (λ so. omega (arith, begun_back so t place k none))
          (fair_then line c y (booked is_open (Taken t) (covered line place)
          >> become (λ j. record j { has_right = put j.has_right t false })) (begin line t place) k
          (fair_then line c y (booked is_open (Taken t) (covered line place))
          (become (λ j. record j { has_right = put j.has_right t false })) k
          (fair_booked line c y is_open (Taken t) (covered line place) k) (fair_right_taken t middle has))
          (fair_begin t place ((booked is_open (Taken t) (covered line place)
          >> become (λ j. record j { has_right = put j.has_right t false })) k).state))
      by_right false has = fair_reject t k

  -- ## Elsewhere

  pub fair_wait : (t : ℕ) (o : Option Place) (k : Centre)
      → Fair line c y k (wait_of line y (put k.wait t o y.train)) (wait_of line y (k.wait y.train))
      (become (λ j. record j { wait = put j.wait t o }) k)
  fair_wait t o k = alike line c y k _ _ (become (λ j. record j { wait = put j.wait t o }) k)
      (omega (arith, sent_none y.res (centre_count line) c))

  wait_put : (k : Centre) (t : ℕ) (o : Option Place) (x z : ℕ)
      → (t ≡ y.train → x + wait_of line y o ≤ z + wait_of line y (k.wait t)) → (t ≢ y.train → x ≤ z)
      → x + wait_of line y (put k.wait t o y.train) ≤ z + wait_of line y (k.wait y.train)
  wait_put k t o x z here other = ⊎_elim
      (λ (same : t ≡ y.train). omega (
        arith,
        here same,
        ap (λ v. wait_of line y (put k.wait t o v)) (sym same) ∙ ap (wait_of line y) (put_same k.wait t o),
        ap (λ v. wait_of line y (k.wait v)) same,
      ))
      (λ (apart : t ≢ y.train).
      omega (arith, other apart, ap (wait_of line y) (put_other k.wait t o y.train (λ e. apart (sym e)))))
      (cases_eq t y.train)

  pub fair_start_waiting : (t : ℕ) (place : Place) (k : Centre) → AllOpen (covered line place) (k.book y.section)
      → Makes line c y is k (start_waiting line t place k)
  unfolding ◌>>◌
  fair_start_waiting t place k free = eased line c y 0 0 k (start_waiting line t place k)
      (omega (
        arith,
        wait_put k t (Some place) (y.entry (k.book y.section))
            (y.entry (if within (covered line place) y.section
            && is_open (k.book y.section) then Taken t else k.book y.section))
            (λ here. omega (arith, (booked_start t (covered line place) (k.book y.section) here free).1))
            (λ other. omega (arith, booked_open (Taken t) (covered line place) (k.book y.section))),
      ))
      (λ so. omega (
        arith,
        no_waits so (put k.wait t (Some place) y.train),
        no_waits so (k.wait y.train),
        booked_back so (Taken t) (covered line place) (k.book y.section) refl,
      ))
      (fair_then line c y (booked is_open (Taken t) (covered line place)
      >> become (λ j. record j { wait = put j.wait t (Some place) })) (where_so (λ j. not (j.has_asked t)) asks) k
      (fair_then line c y (booked is_open (Taken t) (covered line place))
      (become (λ j. record j { wait = put j.wait t (Some place) })) k
      (fair_booked line c y is_open (Taken t) (covered line place) k)
      (fair_wait t (Some place) (booked is_open (Taken t) (covered line place) k).state))
      (fair_if line c y (not (k.has_asked t)) _ (asks _) (rest _) (λ so. asks_fair _) (λ so. fair_rest line c y _)))
    where
      asks : Centre → Reply
      asks = option_map_or (λ r. send r (AskRight t)) (registrar line t) rest
          >> become (λ j. record j { has_asked = put j.has_asked t true })

      by_registrar : (o : Option ℕ) (j : Centre)
          → Makes line c y is j ((option_map_or (λ r. send r (AskRight t)) o rest
          >> become (λ i. record i { has_asked = put i.has_asked t true })) j)
      by_registrar None j = fair_both line c y rest (become (λ i. record i { has_asked = put i.has_asked t true })) j
          (fair_rest line c y j) (fair_plain line c y j _ refl refl refl)
      by_registrar (Some r) j = fair_both line c y (send r (AskRight t))
          (become (λ i. record i { has_asked = put i.has_asked t true })) j
          (sends_plain line c y is r (AskRight t) j refl) (fair_plain line c y j _ refl refl refl)

      asks_fair : (j : Centre) → Makes line c y is j (asks j)
      asks_fair j = by_registrar (registrar line t) j

  -- ## A start begins or is dropped

  pub fair_drop_wait : (t : ℕ) (k : Centre) → Makes line c y is k (drop_wait line c t k)
  unfolding ◌>>◌
  fair_drop_wait t k = fair_or line c y (k.wait t) _ k (rest k) (λ place waits. dropped place waits)
      (λ none. fair_rest line c y k)
    where
      here_law : (place : Place) → t ≡ y.train
          → y.entry (k.book y.section)
          ≤ y.entry ((freed line c (is_taken_for t) (covered line place) k).state.book y.section)
          + start_of y (covered line place)
      here_law place here = by_tests (within (covered line place) y.section) (is_home line c y.section) refl
          (is_taken_for t (k.book y.section)) refl
        where
          by_tests : (w h : Bool) → is_home line c y.section ≡ h → (x : Bool) → is_taken_for t (k.book y.section) ≡ x
              → y.entry (k.book y.section) ≤ y.entry (if (w && h)
              && x then (if k.wish y.section then Shut else Open) else k.book y.section)
              + (if w then y.waiting else 0)
          by_tests false h home x taken = omega arith
          by_tests true false home x taken = omega arith
          by_tests true true home false taken = omega arith
          by_tests true true home true taken =
              (is.frees (k.book y.section) (if k.wish y.section then Shut else Open) home
              (subst (λ u. is_taken_for u (k.book y.section) ≡ true) here taken)).1

      dropped : (place : Place) → k.wait t ≡ Some place
          → Makes line c y is k ((freed line c (is_taken_for t) (covered line place)
          >> become (λ j. record j { wait = put j.wait t None })) k)
      dropped place waits = eased line c y 0 0 k _
          (omega (
            arith,
            wait_put k t None (y.entry (k.book y.section))
                (y.entry ((freed line c (is_taken_for t) (covered line place) k).state.book y.section))
                (λ here. omega (arith, here_law place here, ap (wait_of line y) waits))
                (λ other. omega (arith, freed_other line c y is t (covered line place) k other)),
          ))
          (λ so. omega (
            arith,
            no_waits so (put k.wait t None y.train),
            no_waits so (k.wait y.train),
            freed_back line c y is so t (covered line place) k,
          ))
          (fair_then line c y (freed line c (is_taken_for t) (covered line place))
          (become (λ j. record j { wait = put j.wait t None })) k
          (fair_freed line c y (is_taken_for t) (covered line place) k)
          (fair_wait t None (freed line c (is_taken_for t) (covered line place) k).state))

  pub fair_close_session : (t : ℕ) (k : Centre) → Makes line c y is k (close_session line c t k)
  fair_close_session t k = fair_both line c y (set_phase t Closed
      >> change_mission t (λ m. record m { proposal = None })) (drop_wait line c t) k
      (fair_both line c y (set_phase t Closed) (change_mission t (λ m. record m { proposal = None })) k
      (fair_plain line c y k _ refl refl refl)
      (fair_change line c y t (λ m. record m { proposal = None }) _ (λ m. (refl, refl)))) (fair_drop_wait t _)

  -- the sections of a start that waits are of home
  abbrev pub WaitsHome : ℕ → Centre → Type 0
  WaitsHome t k = (place : Place) → k.wait t ≡ Some place → within (covered line place) y.section ≡ true
      → is_home line c y.section ≡ true

  admitted_law : (t : ℕ) (place : Place) (k : Centre) → k.wait t ≡ Some place → WaitsHome t k
      → wait_of line y (put k.wait t None y.train) + mission_of y (put k.mission t (Some (begun line place)) y.train)
      ≤ (wait_of line y (k.wait y.train) + back y t) + mission_of y (k.mission y.train)
  admitted_law t place k waits home = mission_put line c y k t (Some (begun line place))
      (wait_of line y (put k.wait t None y.train)) (wait_of line y (k.wait y.train) + back y t)
      (λ here. omega (
        arith,
        none_part y,
        ap (back y) here ∙ back_own line c y is,
        ap (λ v. wait_of line y (put k.wait t None v)) (sym here) ∙ ap (wait_of line y) (put_same k.wait t None),
        ap (λ v. wait_of line y (k.wait v)) (sym here) ∙ ap (wait_of line y) waits,
        in_start (within (covered line place) y.section) (home place waits),
      ))
      (λ other. omega (arith, ap (wait_of line y) (put_other k.wait t None y.train (λ e. other (sym e)))))
    where
      in_start : (b : Bool) → (b ≡ true → is_home line c y.section ≡ true)
          → (if b then y.weight else 0) ≤ (if b then y.waiting else 0)
      in_start true at = is.waits (at refl)
      in_start false at = omega arith

  admitted_back : y.exact ≡ true → (t : ℕ) (place : Place) (k : Centre) → k.mission t ≡ None
      → (wait_of line y (k.wait y.train) + back y t) + mission_of y (k.mission y.train)
      ≤ wait_of line y (put k.wait t None y.train)
      + mission_of y (put k.mission t (Some (begun line place)) y.train)
  admitted_back so t place k none = mission_back line c y k t (Some (begun line place))
      (wait_of line y (put k.wait t None y.train)) (wait_of line y (k.wait y.train) + back y t)
      (λ here. omega (arith, no_waits so (k.wait y.train), back_le line c y is t, ap (mission_of y) none))
      (λ other. omega (arith, no_waits so (k.wait y.train), back_other line c y is t other))

  -- if losses are counted, an arriving right was asked for, is not here already, and has a registrar
  abbrev pub IsAskedFor : ℕ → Centre → Type 0
  IsAskedFor t k = y.exact ≡ true → t ≡ y.train → (k.has_asked t ≡ true) × (k.has_right y.train ≡ false)
      × HasRegistrar line y.train

  pub fair_given : (t : ℕ) (k : Centre) → WaitsHome t k → IsAskedFor t k
      → Fair line c y k (back y t) 0 (right_given line c t k)
  unfolding ◌>>◌
  fair_given t k home asked = fair_if line c y (k.has_asked t) k _ (rest k)
      (λ so. eased line c y (back y t) 0 k _ (omega arith) (λ exact. omega arith)
      (fair_then line c y (answered_ask t) answers k (fair_plain line c y k _ refl refl refl)
      (chosen (is_some (k.wait t)) refl (is_none (k.mission t)) refl)))
      (λ so. eased line c y (back y t) 0 k (rest k) (omega arith) (λ exact. omega (arith, not_asked exact so))
      (fair_rest line c y k))
    where
      not_asked : y.exact ≡ true → k.has_asked t ≡ false → back y t ≡ 0
      not_asked exact so =
          ⊎_elim (λ (here : t ≡ y.train). absurd (let wrong : true ≡ false = sym (asked exact here).0 ∙ so in cc))
          (back_other line c y is t) (cases_eq t y.train)

      begins : Centre → Reply
      begins = with_some (λ j. j.wait t) (λ place. become (λ j. record j { wait = put j.wait t None })
          >> begin line t place)

      answers : Centre → Reply
      answers = choose (λ j. is_some (j.wait t) && is_none (j.mission t)) begins (return_right line c t)

      middle : Centre
      middle = (answered_ask t k).state

      begins_fair : is_some (k.wait t) ≡ true → k.mission t ≡ None → Fair line c y middle (back y t) 0 (begins middle)
      begins_fair waiting none = fair_or line c y (middle.wait t) _ middle (rest middle)
          (λ place waits. eased line c y (back y t) 0 middle _ (omega (arith, admitted_law t place middle waits home))
          (λ exact. omega (arith, admitted_back exact t place middle none))
          (fair_then line c y (become (λ j. record j { wait = put j.wait t None })) (begin line t place) middle
          (fair_wait t None middle)
          (fair_begin t place (become (λ j. record j { wait = put j.wait t None }) middle).state)))
          (λ missing. absurd (let wrong : true ≡ false = sym waiting ∙ ap is_some missing in cc))

      returns : Fair line c y middle (back y t) 0 (return_right line c t middle)
      returns = fair_return_right line c y is t middle (λ exact here. let may = asked exact here in (may.1, may.2))

      chosen : (b : Bool) → is_some (k.wait t) ≡ b → (n : Bool) → is_none (k.mission t) ≡ n
          → Fair line c y middle (back y t) 0 (if b && n then begins middle else return_right line c t middle)
      chosen true waiting true none = begins_fair waiting (none_is (k.mission t) none)
      chosen true waiting false some = returns
      chosen false waiting n is_so = returns

  pub fair_refused : (t : ℕ) (k : Centre) → Makes line c y is k (right_refused line c t k)
  fair_refused t k = fair_if line c y (k.has_asked t) k _ (rest k)
      (λ so. fair_both line c y (answered_ask t) _ k (fair_plain line c y k _ refl refl refl)
      (fair_if line c y (is_some ((answered_ask t k).state.wait t)) _ _ (rest _)
      (λ w. fair_both line c y (drop_wait line c t) (reject t) _ (fair_drop_wait t _) (fair_reject t _))
      (λ w. fair_rest line c y _)))
      (λ so. fair_rest line c y k)

  -- ## The message

  fair_restart : (t : ℕ) (place : Place) (m : Mission) (k : Centre) → Makes line c y is k (restart line t place m k)
  fair_restart t place m k = by_test (all_of (within m.hand) (covered line place))
    where
      by_test : (b : Bool)
          → Makes line c y is k
          ((if b then (change_mission t
          (λ n. record n { place = place; has_data = false; is_ended = false; proposal = None })
          >> accept t) else reject t) k)
      by_test true =
          fair_both line c y
          (change_mission t (λ n. record n { place = place; has_data = false; is_ended = false; proposal = None }))
          (accept t) k
          (fair_change line c y t (λ n. record n { place = place; has_data = false; is_ended = false; proposal = None })
          k (λ n. (refl, refl))) (fair_accept t _)
      by_test false = fair_reject t k

  fair_start_new : (t : ℕ) (place : Place) (k : Centre) → k.mission t ≡ None
      → Makes line c y is k (start_new line c t place k)
  fair_start_new t place k none = fair_if line c y (all_of (is_free line c k) (covered line place)) k _ (reject t k)
      (λ free. at_home (is_registrar_of line c t)
      (λ in_place. and_parts (is_home line c y.section) (is_open (k.book y.section))
      (each_within (is_free line c k) (covered line place) free y.section in_place)))
      (λ so. fair_reject t k)
    where
      at_home : (b : Bool) → AllOpen (covered line place) (k.book y.section)
          → Makes line c y is k ((if b then start_here line t place else start_waiting line t place) k)
      at_home true free = fair_start_here t place k free none
      at_home false free = fair_start_waiting t place k free

  pub fair_start : (t : ℕ) (is_valid : Bool) (position : Position) (k : Centre)
      → Makes line c y is k (start_mission line c t is_valid position k)
  fair_start t is_valid position k = fair_or line c y (fit_place line is_valid position) _ k (reject t k)
      (λ place at. fair_or line c y (k.mission t) _ k (start_new line c t place k) (λ m has. fair_restart t place m k)
      (λ none. fair_start_new t place k none))
      (λ none. fair_reject t k)
