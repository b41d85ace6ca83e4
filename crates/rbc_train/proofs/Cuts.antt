-- A hand is cut, after a grant or at standstill: the cut is that of its definition.
use Rattle.std.proofs.Common.{[], if◌then◌else◌, ◌+◌, ◌-◌, ◌<◌, ◌==◌, ◌||◌, ◌∙◌, ◌∷◌, ◌≡◌, ◌≤◌, ap, arith, Bool, eq-eqb}
use Rattle.std.proofs.Common.{eqb-true, false, is_some, length, List, max, None, Option, option_and_then, option_map}
use Rattle.std.proofs.Common.{refl, Some, subst, sym, true, ℕ}
use Rattle.std.proofs.lemmas.Bool.{cond-true, eqb-false}
use Rattle.std.proofs.lemmas.List.{append-nil}
use Rattle.std.specs.Option.{option_map_or}
use Rattle.rbc_allocation.specs.Sections.{FreesRun, rest_of, wished}
use Rattle.rbc_book.specs.Book.{entry_at, is_own, Pages, wish_at}
use Rattle.rbc_hand.specs.Hands.{Holding}
use Rattle.rbc_handover.specs.declared.handing.HandoverName.{HandoverName}
use Rattle.rbc_handover.specs.Handings.{handover_name}
use Rattle.rbc_line.specs.declared.section_run.SectionRun.{SectionRun as SectionRunCode}
use Rattle.rbc_line.specs.SectionRuns.{run_of}
use Rattle.rbc_mission.specs.Supervisions.{handover_left, HasRouteForm, right_left, still_handing, SupervisionState}
use Rattle.rbc_mission.specs.Supervisions.{with_front}
use Rattle.rbc_right.specs.Rights.{Rights}
use Rattle.rbc_shorten.specs.declared.answer.Cut.TheVariants.{Keep, Nothing}
use Rattle.rbc_shorten.specs.Standstill.{ahead_of, begins_before}
use Rattle.rbc_spec.proofs.Lists.{put_over, put_there}
use Rattle.rbc_spec.proofs.Runs.{longest_few, same_tests}
use Rattle.rbc_spec.specs.Acts.{◌>>◌, Act, cancel, close, leave, part_at, rest, set_mission}
use Rattle.rbc_spec.specs.Centre.{Centre, Expectation, Handing, Mission, Proposal}
use Rattle.rbc_spec.specs.Frame.{Cancel}
use Rattle.rbc_spec.specs.Line.{Line}
use Rattle.rbc_spec.specs.Maps.{put}
use Rattle.rbc_spec.specs.Rules.{cut}
use Rattle.rbc_spec.specs.SectionRuns.{is_empty, joined, next_after, no_run, part_before, part_from, passing}
use Rattle.rbc_spec.specs.SectionRuns.{SectionRun, within}
use Rattle.rbc_train.proofs.Frees.{frees_joined, part_leaves, tells_joined, whole_leaves}
use Rattle.rbc_train.specs.declared.letter.Letter.{Letter}
use Rattle.rbc_train.specs.declared.train.TrainState.{TrainState}
use Rattle.rbc_train.specs.Desk.{HasParts, posted, replied, with_parts}
use Rattle.rbc_train.specs.Homes.{GoesHome}
use Rattle.rbc_train.specs.Letters.{cancel_of, mail_home, mail_to, notices}

-- # A hand is cut, after a grant or at standstill: the cut is that of its definition.

-- the sections of the hand in advance of those that are kept
module _ (last : ℕ) (hand : SectionRun) where
  abbrev tail : SectionRun
  tail = part_from (last + 1) hand

  abbrev pub kept_of : ℕ
  kept_of = (part_before (last + 1) hand).count

  none_kept : 1 ≤ hand.count → (tail.count == hand.count) ≡ (kept_of == 0)
  none_kept some = same_tests _ _
      (λ all. let same = eqb-true tail.count hand.count all in eq-eqb kept_of 0 (omega (arith, same, some)))
      (λ none. let same = eqb-true kept_of 0 none in eq-eqb tail.count hand.count (omega (arith, same, some)))

  tail_is : (tail.count == 0) ≡ false → rest_of kept_of hand ≡ tail
  tail_is some =
      let apart = eqb-false tail.count 0 some in
      let first : hand.first + kept_of ≡ max hand.first (last + 1) = omega (arith, apart) in
      let count : hand.count - kept_of ≡ tail.count = omega (arith, apart) in
      λ i. record { first = first i; count = count i }

  nothing_left : (tail.count == 0) ≡ true → (rest_of kept_of hand).count ≡ 0
  nothing_left none = let same = eqb-true tail.count 0 none in omega (arith, same)

  -- a pool leaves with both alike
  same_joined : (pool : SectionRun) → joined (rest_of kept_of hand) pool ≡ joined tail pool
  same_joined pool = by (tail.count == 0) refl
    where
      by : (b : Bool) → (tail.count == 0) ≡ b → joined (rest_of kept_of hand) pool ≡ joined tail pool
      by true none =
          cond-true (is_empty (rest_of kept_of hand)) pool
          (record { first = (rest_of kept_of hand).first; count = (rest_of kept_of hand).count + pool.count })
          (eq-eqb (rest_of kept_of hand).count 0 (nothing_left none))
          ∙ sym (cond-true (is_empty tail) pool (record { first = tail.first; count = tail.count + pool.count }) none)
      by false some = ap (λ (r : SectionRun). joined r pool) (tail_is some)

  ends_alike : next_after (rest_of kept_of hand) ≡ next_after hand
  ends_alike = omega arith

-- ## The cut

-- a mission goes on with this hand; its handover is cancelled if no section of the accepting centre is left
module _ (line : Line) (t : ℕ) (e : ℕ → Option Expectation) (k : Centre) where
  abbrev pub goes_on : Mission → Act
  goes_on m =
      set_mission t (Some m) >> option_map_or (λ h. if is_empty (part_at line h.to m.place.track m.hand) then cancel t m
      else rest) m.handing rest

  abbrev stays : Mission → Option Handing
  stays m = still_handing line m.place.track m.hand m.handing

  abbrev GoesOn : Mission → Type 0
  GoesOn m =
      goes_on m k
      ≡ posted (notices t e (cancel_of (if is_some (stays m) then None else option_map handover_name m.handing)))
      (replied (record k { mission = put k.mission t (Some (record m { handing = stays m })) }) [] [])

  with_one : (m : Mission) (h : Handing) (b : Bool)
      → (set_mission t (Some (record m { handing = Some h }))
      >> (if b then cancel t (record m { handing = Some h }) else rest)) k
      ≡ posted (notices t e (cancel_of (if is_some (if b then None else Some h) then None else Some (handover_name h))))
      (replied (record k { mission = put k.mission t (Some (record m { handing = if b then None else Some h })) }) []
      [])
  unfolding ◌>>◌
  with_one m h false = refl
  with_one m h true =
      λ i. posted (λ d. append-nil (if d == h.to then Cancel h.number t ∷ [] else []) i)
      (replied (record k { mission = λ u. gone u i }) [] [])
    where
      gone : (u : ℕ) → put (put k.mission t (Some (record m { handing = Some h }))) t
          (option_map (λ (n : Mission). record n { handing = None })
          (put k.mission t (Some (record m { handing = Some h })) t)) u
          ≡ put k.mission t (Some (record m { handing = None })) u
      gone u =
          (λ i. put (put k.mission t (Some (record m { handing = Some h }))) t
          (option_map (λ (n : Mission). record n { handing = None })
          (put_there k.mission t (Some (record m { handing = Some h })) i)) u)
          ∙ put_over t (Some (record m { handing = None })) (Some (record m { handing = Some h })) k.mission u

  by_handing : (m : Mission) (o : Option Handing) → GoesOn (record m { handing = o })
  unfolding ◌>>◌
  by_handing m None = refl
  by_handing m (Some h) = with_one m h (is_empty (part_at line h.to m.place.track m.hand))

  pub cuts_off : (m : Mission) → GoesOn m
  cuts_off m = by_handing m m.handing

module _ (line : Line) (c : ℕ) (k : Centre) (old : TrainState) (book : Pages) (rights : Rights)
    (has : HasParts line c k old book rights) (n : Mission) (asked : Option Proposal) (last : ℕ)
    (there : old.supervision.mission ≡ Some (record n { proposal = asked }))
    (few : old.supervision.number < length rights) (e : ℕ → Option Expectation) (left : SupervisionState)
    (hand : Holding) (book' : Pages) (rights' : Rights) (told : List ℕ) (cancelled : Option HandoverName)
    (letter : Option Letter) (sections : SectionRunCode)
    (is : left ≡ record old.supervision { mission = with_front line (kept_of last n.hand) n; hand = hand })
    (cancels : cancelled ≡ handover_left old.supervision left)
    (frees : FreesRun old.supervision.engine (rest_of (kept_of last n.hand) n.hand) book book')
    (is_told : told ≡ wished old.supervision.engine (rest_of (kept_of last n.hand) n.hand) book)
    (goes : run_of sections ≡ joined (rest_of (kept_of last n.hand) n.hand) n.pool)
    (home : GoesHome line c old.supervision.engine (right_left old.supervision left) letter rights rights') where
  abbrev t : ℕ
  t = old.supervision.engine

  abbrev rear : SectionRun
  rear = part_from (last + 1) n.hand

  abbrev still : SectionRun
  still = rest_of (kept_of last n.hand) n.hand

  abbrev kept : Mission
  kept = record n { hand = part_before (last + 1) n.hand; pool = no_run; proposal = None }

  -- with any pending request
  abbrev standing : Mission
  standing = record n { proposal = asked }

  form : HasRouteForm standing
  form = has.kept.form standing there

  away : (s : ℕ) → within n.pool s ≡ true → is_own book s ≡ false
  away s here = has.homes s ∙ has.kept.pool.away standing there s here

  follows : is_empty n.pool ≡ false → n.pool.first ≡ next_after still
  follows some = has.kept.pool.follows standing there some ∙ sym (ends_alike last n.hand)

  run : run_of sections ≡ joined rear n.pool
  run = goes ∙ same_joined last n.hand n.pool

  frees_all : FreesRun t (run_of sections) book book'
  frees_all =
      subst (λ (r : SectionRun). FreesRun t r book book') (sym goes)
      (frees_joined t still n.pool book follows away book' frees)

  tells_all : told ≡ wished t (run_of sections) book
  tells_all = is_told ∙ tells_joined t still n.pool book follows away ∙ ap (λ r. wished t r book) (sym goes)

  -- the handover that stays, and the name of one that does not
  abbrev still_stands : Option Handing
  still_stands = still_handing line n.place.track kept.hand n.handing

  name_left : (o : Option Mission) → with_front line (kept_of last n.hand) n ≡ o
      → cancelled
      ≡ (if is_some (option_and_then (λ (x : Mission). x.handing) o) then None else option_map handover_name n.handing)
  name_left o left_is =
      cancels
      ∙ (λ i. handover_left (record old.supervision { mission = there i })
      (record old.supervision { mission = (ap (λ (x : SupervisionState). x.mission) is ∙ left_is) i; hand = hand }))

  by_rest : (b : Bool) → (kept_of last n.hand == 0) ≡ b
      → cut line c t last n k
      ≡ posted (mail_to line c t e (mail_home n.place.track sections (cancel_of cancelled) letter))
      (replied (with_parts (record old { supervision = left }) book' rights' k) [] told)
  by_rest true none =
      rw (none_kept last n.hand form.some ∙ none)
      (ap (λ r. (leave line c t n.place.track r >> close line c t n) k) (sym run)
      ∙ whole_leaves line c k old book rights has standing there few e left
      (with_front line (kept_of last n.hand) n) hand book' rights' told letter sections is frees_all tells_all home
      n.place.track n (rw none refl)
      ∙ ap (λ o. posted (mail_to line c t e (mail_home n.place.track sections (cancel_of o) letter))
      (replied (with_parts (record old { supervision = left }) book' rights' k) [] told))
      (sym (name_left None (rw none refl))))
  by_rest false some =
      rw (none_kept last n.hand form.some ∙ some)
      (ap (λ r. (leave line c t n.place.track r >> goes_on line t e k kept) k) (sym run)
      ∙ part_leaves line c k old book rights has standing there few e left
      (with_front line (kept_of last n.hand) n) hand book' rights' told letter sections is frees_all tells_all home
      n.place.track (record kept { handing = still_stands })
      (cancel_of (if is_some still_stands then None else option_map handover_name n.handing)) (goes_on line t e k kept)
      (rw some refl)
      (cuts_off line t e (record k { book = entry_at book'; wish = wish_at book' }) kept)
      ∙ ap (λ o. posted (mail_to line c t e (mail_home n.place.track sections (cancel_of o) letter))
      (replied (with_parts (record old { supervision = left }) book' rights' k) [] told))
      (sym (name_left (Some (record kept { handing = still_stands })) (rw some refl))))

  pub cuts : cut line c t last n k
      ≡ posted (mail_to line c t e (mail_home n.place.track sections (cancel_of cancelled) letter))
      (replied (with_parts (record old { supervision = left }) book' rights' k) [] told)
  cuts = by_rest (kept_of last n.hand == 0) refl

-- if something is cut off, some sections are kept, but not all
pub keeps_some : (line : Line) (r : SectionRun) (front keep : ℕ) → ahead_of line r front ≡ Keep keep
    → (1 ≤ keep) × (keep < r.count)
keeps_some line r front keep is =
    by (passing (begins_before line front) r == 0) (passing (begins_before line front) r == r.count) refl refl is
  where
    by : (a b : Bool) → (passing (begins_before line front) r == 0) ≡ a
        → (passing (begins_before line front) r == r.count) ≡ b
        → (if a || b then Nothing else Keep (passing (begins_before line front) r)) ≡ Keep keep
        → (1 ≤ keep) × (keep < r.count)
    by true b none whole e = cc
    by false true none whole e = cc
    by false false none whole e =
        let some = eqb-false (passing (begins_before line front) r) 0 none in
        let part = eqb-false (passing (begins_before line front) r) r.count whole in
        let few = longest_few (begins_before line front) r.first r.count in
        let same : passing (begins_before line front) r ≡ keep = cc in
        (omega (arith, some, same), omega (arith, part, few, same))

-- the last section that is kept of a hand
pub kept_at : (keep : ℕ) (hand : SectionRun) → 1 ≤ keep → keep ≤ hand.count
    → keep ≡ kept_of (hand.first + keep - 1) hand
kept_at keep hand some few = omega (arith, some, few)
