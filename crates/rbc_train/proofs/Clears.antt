-- The sections that a train has cleared leave its hand.
use Rattle.std.proofs.Common.{[], if◌then◌else◌, ◌+◌, ◌-◌, ◌<◌, ◌==◌, ◌∙◌, ◌≡◌, ap, arith, Bool, false, length, List}
use Rattle.std.proofs.Common.{max, None, Option, option_and_then, option_map, refl, Some, subst, sym, true, ℕ}
use Rattle.std.proofs.lemmas.Bool.Decides.{nat_tests}
use Rattle.rbc_allocation.specs.Sections.{FreesRun, front_of, rest_of, wished}
use Rattle.rbc_book.specs.Book.{is_own, Pages}
use Rattle.rbc_hand.specs.Hands.{Holding}
use Rattle.rbc_handover.specs.declared.handing.HandoverName.{HandoverName}
use Rattle.rbc_handover.specs.Handings.{handover_name}
use Rattle.rbc_line.specs.declared.section_run.SectionRun.{SectionRun as SectionRunCode}
use Rattle.rbc_line.specs.SectionRuns.{run_of}
use Rattle.rbc_mission.specs.Supervisions.{cleared_run, hand_of, handover_left, right_left, SupervisionState}
use Rattle.rbc_mission.specs.Supervisions.{without_front}
use Rattle.rbc_right.specs.Rights.{Rights}
use Rattle.rbc_spec.proofs.Runs.{longest_few}
use Rattle.rbc_spec.specs.Acts.{◌>>◌, close, leave, set_mission}
use Rattle.rbc_spec.specs.Centre.{Centre, Expectation, Mission}
use Rattle.rbc_spec.specs.Line.{Line}
use Rattle.rbc_spec.specs.Place.{is_cleared, Place}
use Rattle.rbc_spec.specs.Rules.{clear, cleared}
use Rattle.rbc_spec.specs.SectionRuns.{joined, next_after, part_from, SectionRun, within}
use Rattle.rbc_train.proofs.Frees.{frees_joined, part_leaves, tells_joined, whole_leaves}
use Rattle.rbc_train.proofs.Kept.{not_left}
use Rattle.rbc_train.specs.declared.letter.Letter.{Letter}
use Rattle.rbc_train.specs.declared.mail.Notice.TheVariants as notice
use Rattle.rbc_train.specs.declared.train.TrainState.{TrainState}
use Rattle.rbc_train.specs.Desk.{HasParts, posted, replied, with_parts}
use Rattle.rbc_train.specs.Homes.{GoesHome}
use Rattle.rbc_train.specs.Letters.{cancel_of, mail_home, mail_to}

module _ (line : Line) (c : ℕ) (k : Centre) (old : TrainState) (book : Pages) (rights : Rights)
    (has : HasParts line c k old book rights) (n : Mission) (there : old.supervision.mission ≡ Some n) (place : Place)
    (few : old.supervision.number < length rights) (e : ℕ → Option Expectation) (left : SupervisionState)
    (hand : Holding) (book' : Pages) (rights' : Rights) (told : List ℕ) (cancelled : Option HandoverName)
    (letter : Option Letter) (count : ℕ) (counts : count ≡ (cleared line place n).count)
    (is : left ≡ record old.supervision {
      mission = option_and_then (without_front place count) old.supervision.mission;
      hand = hand;
    }) (frees : FreesRun old.supervision.engine (front_of count (hand_of old.supervision)) book book')
    (is_told : told ≡ wished old.supervision.engine (front_of count (hand_of old.supervision)) book)
    (sections : SectionRunCode) (goes : run_of sections ≡ cleared_run count old.supervision)
    (cancels : cancelled ≡ handover_left old.supervision left)
    (home : GoesHome line c old.supervision.engine (right_left old.supervision left) letter rights rights') where
  abbrev t : ℕ
  t = old.supervision.engine

  abbrev front : SectionRun
  front = cleared line place n

  run_is : front_of count (hand_of old.supervision) ≡ front
  run_is = λ i. front_of (counts i) (hand_of (record old.supervision { mission = there i }))

  left_is : left ≡ record old.supervision { mission = without_front place front.count n; hand = hand }
  left_is =
      is
      ∙ (λ i. record old.supervision {
        mission = option_and_then (without_front place (counts i)) (there i);
        hand = hand;
      })

  goes_is : run_of sections ≡ (if front.count == n.hand.count then joined n.hand n.pool else front)
  goes_is = goes ∙ (λ i. cleared_run (counts i) (record old.supervision { mission = there i }))

  rest_is : rest_of front.count n.hand ≡ part_from (next_after front) n.hand
  rest_is =
      let less = longest_few (is_cleared line place) n.hand.first n.hand.count in
      let a : n.hand.first + front.count ≡ max n.hand.first (n.hand.first + front.count) = omega arith in
      let b : n.hand.count - front.count ≡ n.hand.first + n.hand.count - max n.hand.first (n.hand.first + front.count) =
      omega (arith, less) in
      λ i. record { first = a i; count = b i }

  frees_front : FreesRun t front book book'
  frees_front = subst (λ (r : SectionRun). FreesRun t r book book') run_is frees

  tells_front : told ≡ wished t front book
  tells_front = is_told ∙ ap (λ r. wished t r book) run_is

  -- of a pool of other homes no section is of the book
  away : (s : ℕ) → within n.pool s ≡ true → is_own book s ≡ false
  away s here = has.homes s ∙ has.kept.pool.away n there s here

  whole : (front.count == n.hand.count) ≡ true → front ≡ n.hand
  whole all = let same : front.count ≡ n.hand.count = grind (arith, nat_tests) in
      λ i. record { first = n.hand.first; count = same i }

  -- with the whole hand its handover goes, and with a part it stays
  is_cancelled : without_front place front.count n ≡ None → cancelled ≡ option_map handover_name n.handing
  is_cancelled none =
      cancels
      ∙ (λ i. handover_left (record old.supervision { mission = there i })
      (record old.supervision { mission = (ap (λ (x : SupervisionState). x.mission) left_is ∙ none) i; hand = hand }))

  stays : without_front place front.count n ≡ Some (record n { place = place; hand = rest_of front.count n.hand })
      → cancelled ≡ None
  stays some = cancels ∙ not_left old.supervision left
      (ap (option_and_then (λ (x : Mission). x.handing)) (ap (λ (x : SupervisionState). x.mission) left_is ∙ some)
      ∙ ap (option_and_then (λ (x : Mission). x.handing)) (sym there))

  by_rest : (b : Bool) → (front.count == n.hand.count) ≡ b
      → clear line c t n place k
      ≡ posted (mail_to line c t e (mail_home n.place.track sections (cancel_of cancelled) letter))
      (replied (with_parts (record old { supervision = left }) book' rights' k) [] told)
  by_rest true all =
      let run : run_of sections ≡ joined n.hand n.pool = goes_is ∙ (rw all refl) in
      let from =
      frees_joined t n.hand n.pool book (has.kept.pool.follows n there) away book'
      (subst (λ (r : SectionRun). FreesRun t r book book') (whole all) frees_front) in
      let words = tells_front ∙ ap (λ r. wished t r book) (whole all)
      ∙ tells_joined t n.hand n.pool book (has.kept.pool.follows n there) away in
      rw all (ap (λ r. (leave line c t n.place.track r >> close line c t n) k) (sym run)
      ∙ whole_leaves line c k old book rights has n there few e left
      (without_front place front.count n) hand book' rights' told letter sections left_is
      (subst (λ (r : SectionRun). FreesRun t r book book') (sym run) from)
      (words ∙ ap (λ r. wished t r book) (sym run)) home n.place.track n (rw all refl)
      ∙ ap (λ o. posted (mail_to line c t e (mail_home n.place.track sections (cancel_of o) letter))
      (replied (with_parts (record old { supervision = left }) book' rights' k) [] told))
      (sym (is_cancelled (rw all refl))))
  by_rest false part =
      let run : run_of sections ≡ front = goes_is ∙ (rw part refl) in
      rw part
      ((λ i.
      (leave line c t n.place.track (sym run i)
      >> set_mission t (Some (record n { place = place; hand = sym rest_is i }))) k)
      ∙ part_leaves line c k old book rights has n there few e left
      (without_front place front.count n) hand book' rights' told letter sections left_is
      (subst (λ (r : SectionRun). FreesRun t r book book') (sym run) frees_front)
      (tells_front ∙ ap (λ r. wished t r book) (sym run)) home n.place.track
      (record n { place = place; hand = rest_of front.count n.hand }) notice.Nothing
      (set_mission t (Some (record n { place = place; hand = rest_of front.count n.hand }))) (rw part refl) refl
      ∙ ap (λ o. posted (mail_to line c t e (mail_home n.place.track sections (cancel_of o) letter))
      (replied (with_parts (record old { supervision = left }) book' rights' k) [] told)) (sym (stays (rw part refl))))

  pub clears : clear line c t n place k
      ≡ posted (mail_to line c t e (mail_home n.place.track sections (cancel_of cancelled) letter))
      (replied (with_parts (record old { supervision = left }) book' rights' k) [] told)
  clears = by_rest (front.count == n.hand.count) refl
