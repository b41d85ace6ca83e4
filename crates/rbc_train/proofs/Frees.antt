-- A pool that follows sections of a hand, and sections that leave a train.
use Rattle.std.proofs.Common.{[], if◌then◌else◌, ◌&&◌, ◌++◌, ◌+◌, ◌<◌, ◌==◌, ◌||◌, ◌∙◌, ◌∷◌, ◌≡◌, ap, arith, Bool}
use Rattle.std.proofs.Common.{false, inl, inr, is_none, is_some, length, List, map, None, not, Option, option_map, refl}
use Rattle.std.proofs.Common.{Some, sym, true, ℕ}
use Rattle.std.proofs.lemmas.Bool.{cases_Bool, cases_eq, cond-false, cond-true, ne_eqb}
use Rattle.std.proofs.lemmas.List.{append-nil}
use Rattle.std.proofs.lemmas.List.Elements.{filter-append}
use Rattle.std.specs.List.{filter, range_with_len}
use Rattle.std.specs.Option.{option_map_or}
use Rattle.rbc_allocation.specs.Sections.{FreesRun, wished}
use Rattle.rbc_book.proofs.Pages.{foreign_is_shut}
use Rattle.rbc_book.specs.Book.{entry_at, is_own, Pages, wish_at}
use Rattle.rbc_hand.specs.Hands.{Holding}
use Rattle.rbc_handover.specs.declared.handing.HandoverName.{HandoverName}
use Rattle.rbc_handover.specs.Handings.{handover_name}
use Rattle.rbc_line.specs.declared.section_run.SectionRun.{SectionRun as SectionRunCode}
use Rattle.rbc_line.specs.SectionRuns.{run_of}
use Rattle.rbc_mission.specs.declared.held.HeldRight.TheVariants.{Held, Nothing}
use Rattle.rbc_mission.specs.Supervisions.{right_left, SupervisionState}
use Rattle.rbc_pending_start.proofs.Dropped.{freed_is}
use Rattle.rbc_right.specs.Rights.{is_here, right_of, Rights}
use Rattle.rbc_spec.proofs.Lists.{filter-range_none, put_over, put_there, range-append}
use Rattle.rbc_spec.proofs.Runs.{joined_empty, within_from, within_joined}
use Rattle.rbc_spec.specs.Acts.{◌>>◌, Act, cancel, change_mission, close, freed, leave, rest, return_right, returned}
use Rattle.rbc_spec.specs.Acts.{send, set_mission}
use Rattle.rbc_spec.specs.Centre.{Centre, Expectation, Handing, is_taken_for, Mission, Open, Shut}
use Rattle.rbc_spec.specs.Frame.{Body, Cancel}
use Rattle.rbc_spec.specs.Line.{Line}
use Rattle.rbc_spec.specs.Maps.{put}
use Rattle.rbc_spec.specs.Outcome.{Told}
use Rattle.rbc_spec.specs.SectionRuns.{is_empty, joined, next_after, SectionRun, within}
use Rattle.rbc_train.proofs.Desk.{mission_left, same_right}
use Rattle.rbc_train.proofs.Letters.{sends_home}
use Rattle.rbc_train.proofs.Turns.{in_turn}
use Rattle.rbc_train.specs.declared.letter.Letter.{Letter}
use Rattle.rbc_train.specs.declared.mail.Notice.{Notice}
use Rattle.rbc_train.specs.declared.train.TrainState.{TrainState}
use Rattle.rbc_train.specs.Desk.{HasParts, posted, replied, with_parts}
use Rattle.rbc_train.specs.Homes.{GoesHome}
use Rattle.rbc_train.specs.Letters.{cancel_of, letters, mail_home, mail_to, notices}

-- # A pool that follows sections of a hand. It is of other homes, so the book changes in the same way with and without
-- it.

module _ (t : ℕ) (a pool : SectionRun) (book : Pages) (follows : is_empty pool ≡ false → pool.first ≡ next_after a)
    (away : (s : ℕ) → within pool s ≡ true → is_own book s ≡ false) where
  idle : (s : ℕ) → within pool s ≡ true → is_taken_for t (entry_at book s) ≡ false
  idle s here = ap (is_taken_for t) (foreign_is_shut book s (away s here))

  no_more : (x y z : Bool) → (y ≡ true → z ≡ false) → ((x || y) && z) ≡ (x && z)
  no_more true y z h = refl
  no_more false true z h = h refl
  no_more false false z h = refl

  same : (s : ℕ) → (within a s && is_taken_for t (entry_at book s))
      ≡ (within (joined a pool) s && is_taken_for t (entry_at book s))
  same s = elim (cases_Bool (is_empty pool)) [
    | inl none ↦ ap (λ x. x && is_taken_for t (entry_at book s)) (sym (joined_empty a pool s none))
    | inr some ↦
        sym (ap (λ x. x && is_taken_for t (entry_at book s)) (within_joined a pool s (follows some))
        ∙ no_more (within a s) (within pool s) (is_taken_for t (entry_at book s)) (idle s))
  ]

  pub frees_joined : (book' : Pages) → FreesRun t a book book' → FreesRun t (joined a pool) book book'
  frees_joined book' frees = record {
    homes = frees.homes;
    entry = λ s. frees.entry s
        ∙ ap (λ (x : Bool). if x then (if wish_at book s then Shut else Open) else entry_at book s) (same s);
    wish = λ s. frees.wish s ∙ ap (λ (x : Bool). not x && wish_at book s) (same s);
  }

  abbrev test : ℕ → Bool
  test s = is_taken_for t (entry_at book s) && wish_at book s

  fails : (s : ℕ) → within pool s ≡ true → test s ≡ false
  fails s here = ap (λ x. x && wish_at book s) (idle s here)

  none_of_pool : filter test (range_with_len pool.first pool.count) ≡ []
  none_of_pool = filter-range_none test pool.first pool.count (λ s low high. fails s (within_from pool s low high))

  none_after : filter test (range_with_len (a.first + a.count) pool.count) ≡ []
  none_after = filter-range_none test (a.first + a.count) pool.count (λ s low high.
      let first : pool.first ≡ a.first + a.count =
      follows (ne_eqb pool.count 0 (λ none. omega (arith, none, low, high))) in
      fails s (within_from pool s (omega (arith, low, first)) (omega (arith, high, first))))

  pub tells_joined : wished t a book ≡ wished t (joined a pool) book
  tells_joined = elim (cases_eq a.count 0) [
    | inl none ↦
        ap (λ n. filter test (range_with_len a.first n)) none
        ∙ sym (ap (λ (r : SectionRun). wished t r book)
        (cond-true (is_empty a) pool (record { first = a.first; count = a.count + pool.count }) (ap (λ n. n == 0) none))
        ∙ none_of_pool)
    | inr some ↦
        sym (append-nil (wished t a book)) ∙ ap (λ xs. wished t a book ++ xs) (sym none_after)
        ∙ sym (filter-append test (range_with_len a.first a.count) (range_with_len (a.first + a.count) pool.count))
        ∙ ap (filter test) (sym (range-append a.first a.count pool.count))
        ∙ ap (λ (r : SectionRun). wished t r book)
        (sym (cond-false (is_empty a) pool (record { first = a.first; count = a.count + pool.count })
        (ne_eqb a.count 0 some)))
  ]

-- # Sections that leave a train: the acts of the rules on the book, on the right, and on returned sections.

-- a mission closes: its handover is cancelled, and the right is returned
module _ (line : Line) (c t : ℕ) (e : ℕ → Option Expectation) (m : Mission) (k : Centre) where
  abbrev closed_at : Centre
  closed_at = record k { mission = put k.mission t None }

  abbrev cancelled : Option HandoverName
  cancelled = option_map handover_name m.handing

  cancels_closed : (set_mission t None >> cancel t m) k
      ≡ posted (notices t e (cancel_of cancelled)) (replied closed_at [] [])
  unfolding ◌>>◌
  cancels_closed = by m.handing refl
    where
      gone : put (put k.mission t None) t
          (option_map (λ (n : Mission). record n { handing = None }) (put k.mission t None t)) ≡ put k.mission t None
      gone =
          (λ i. put (put k.mission t None) t
          (option_map (λ (n : Mission). record n { handing = None }) (put_there k.mission t None i)))
          ∙ (λ i u. put_over t None None k.mission u i)

      by : (o : Option Handing) → m.handing ≡ o
          → (set_mission t None >> cancel t m) k ≡ posted (notices t e (cancel_of cancelled)) (replied closed_at [] [])
      by None is =
          (λ i.
          (set_mission t None
          >> option_map_or (λ h. send h.to (Cancel h.number t) >> change_mission t (λ n. record n { handing = None }))
          (is i) rest) k)
          ∙ (λ i. posted (notices t e (cancel_of (option_map handover_name (sym is i)))) (replied closed_at [] []))
      by (Some h) is =
          (λ i.
          (set_mission t None
          >> option_map_or (λ h. send h.to (Cancel h.number t) >> change_mission t (λ n. record n { handing = None }))
          (is i) rest) k)
          ∙ (λ i. posted (λ d. append-nil (if d == h.to then Cancel h.number t ∷ [] else []) i)
          (replied (record k { mission = gone i }) [] []))
          ∙ (λ i. posted (notices t e (cancel_of (option_map handover_name (sym is i)))) (replied closed_at [] []))

  closes : (j : Centre) (letter : Option Letter)
      → return_right line c t closed_at ≡ posted (letters letter) (replied j [] [])
      → close line c t m k ≡ posted (λ d. notices t e (cancel_of cancelled) d ++ letters letter d) (replied j [] [])
  closes j letter returns =
      in_turn (set_mission t None >> cancel t m) (return_right line c t) k _ _ cancels_closed returns

module _ (line : Line) (c : ℕ) (k : Centre) (old : TrainState) (book : Pages) (rights : Rights)
    (has : HasParts line c k old book rights) (n : Mission) (there : old.supervision.mission ≡ Some n)
    (few : old.supervision.number < length rights) (e : ℕ → Option Expectation) (left : SupervisionState)
    (mission : Option Mission) (hand : Holding) (book' : Pages) (rights' : Rights) (told : List ℕ)
    (letter : Option Letter) (sections : SectionRunCode)
    (is : left ≡ record old.supervision { mission = mission; hand = hand })
    (frees : FreesRun old.supervision.engine (run_of sections) book book')
    (is_told : told ≡ wished old.supervision.engine (run_of sections) book)
    (home : GoesHome line c old.supervision.engine (right_left old.supervision left) letter rights rights') where
  abbrev t : ℕ
  t = old.supervision.engine

  abbrev freed_at : Centre
  freed_at = record k { book = entry_at book'; wish = wish_at book' }

  abbrev goes : ℕ → ℕ → List Body
  goes track d = (returned line c t track (run_of sections) freed_at).frames d

  freed_here : freed line c (is_taken_for t) (run_of sections) k ≡ replied freed_at [] told
  freed_here = freed_is line c t (run_of sections) k book book' told has.homes has.has_book has.has_wish frees is_told

  leaves : (track : ℕ) → leave line c t track (run_of sections) k ≡ posted (goes track) (replied freed_at [] told)
  leaves track =
      in_turn (freed line c (is_taken_for t) (run_of sections)) (returned line c t track (run_of sections)) k
      (replied freed_at [] told) (returned line c t track (run_of sections) freed_at) freed_here refl
      ∙ (λ i. record {
        state = freed_at;
        frames = goes track;
        sayings = [];
        words = append-nil (map (λ s. Told s) told) i;
      })

  -- the sections leave, and a notice and a letter are sent
  leaves_then : (track : ℕ) (notice : Notice) (act : Act) (j : Centre)
      → act freed_at ≡ posted (λ d. notices t e notice d ++ letters letter d) (replied j [] [])
      → (leave line c t track (run_of sections) >> act) k
      ≡ posted (mail_to line c t e (mail_home track sections notice letter)) (replied j [] told)
  leaves_then track notice act j next =
      in_turn (leave line c t track (run_of sections)) act k (posted (goes track) (replied freed_at [] told))
      (posted (λ d. notices t e notice d ++ letters letter d) (replied j [] [])) (leaves track) next
      ∙ (λ i. record {
        state = j;
        frames =
            λ d. sym (sends_home line c t track (run_of sections) freed_at d) i
            ++ (notices t e notice d ++ letters letter d);
        sayings = [];
        words = append-nil (map (λ s. Told s) told) i;
      })

  -- the right after it
  right_by : right_left old.supervision left
      ≡ (if is_none mission then Held (right_of old.supervision.number) else Nothing)
  right_by =
      λ i. if is_some (there i) && is_none (is i).mission then Held (right_of old.supervision.number) else Nothing

  abbrev new : TrainState
  new = record old { supervision = left }

  -- the mission goes on as this, and its handover may be cancelled
  pub part_leaves : (track : ℕ) (p : Mission) (notice : Notice) (act : Act) → mission ≡ Some p
      → act freed_at ≡ posted (notices t e notice)
      (replied (record freed_at { mission = put k.mission t (Some p) }) [] [])
      → (leave line c t track (run_of sections) >> act) k
      ≡ posted (mail_to line c t e (mail_home track sections notice letter))
      (replied (with_parts new book' rights' k) [] told)
  part_leaves track p notice act goes_on next =
      let stays =
      home.nothing (right_by
      ∙ (λ i. if is_none (goes_on i) then Held (right_of old.supervision.number) else Nothing)) in
      let j : Centre = record freed_at { mission = put k.mission t (Some p) } in
      leaves_then track notice act j
      (next ∙ (λ i. posted (λ d. sym (append-nil (notices t e notice d)) i) (replied j [] []))
      ∙ (λ i. posted (λ d. notices t e notice d ++ letters (sym stays.0 i) d) (replied j [] [])))
      ∙ ap (λ (x : Centre). posted (mail_to line c t e (mail_home track sections notice letter)) (replied x [] told))
      ((λ i. record freed_at {
        mission = put k.mission t (sym goes_on i);
        has_right = λ u. same_right line c k old book rights has u i;
      })
      ∙ mission_left line c k old book rights has mission hand left book' rights is
      ∙ (λ i. with_parts new book' (sym stays.1 i) k))

  -- the mission closes
  pub whole_leaves : (track : ℕ) (m : Mission) → mission ≡ None
      → (leave line c t track (run_of sections) >> close line c t m) k
      ≡ posted (mail_to line c t e (mail_home track sections (cancel_of (option_map handover_name m.handing)) letter))
      (replied (with_parts new book' rights' k) [] told)
  whole_leaves track m ends =
      let gone : right_left old.supervision left ≡ Held (right_of old.supervision.number) =
      right_by ∙ (λ i. if is_none (ends i) then Held (right_of old.supervision.number) else Nothing) in
      let j : Centre =
      record freed_at {
        mission = put k.mission t None;
        has_right = put k.has_right t (is_here rights' old.supervision.number);
      } in
      let notice = cancel_of (option_map handover_name m.handing) in
      leaves_then track notice (close line c t m) j
      (closes line c t e m freed_at j letter
      (home.goes old.supervision.number (record freed_at { mission = put k.mission t None }) gone few has.has_right))
      ∙ ap (λ (x : Centre). posted (mail_to line c t e (mail_home track sections notice letter)) (replied x [] told))
      ((λ i. record freed_at {
        mission = put k.mission t (sym ends i);
        has_right = put k.has_right t (is_here rights' old.supervision.number);
      })
      ∙ mission_left line c k old book rights has mission hand left book' rights' is)
