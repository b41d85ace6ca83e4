-- The sections that leave the hand of a train that ends its mission at standstill, after the cleared ones.
use Rattle.std.proofs.Common.{if◌then◌else◌, ◌&&◌, ◌++◌, ◌+◌, ◌-◌, ◌<◌, ◌==◌, ◌∙◌, ◌∷◌, ◌≡◌, ◌≤◌, ap, arith, Bool}
use Rattle.std.proofs.Common.{eqb-true, false, is_none, is_some, List, None, not, Option, option_and_then, refl, Some}
use Rattle.std.proofs.Common.{subst, suc, sym, true, zero, ℕ}
use Rattle.std.proofs.lemmas.Bool.{eqb-false, false≢true, ne_eqb}
use Rattle.std.proofs.lemmas.Option.{same_Some}
use Rattle.std.specs.List.{filter, range_with_len}
use Rattle.std.specs.Option.{option_map_or}
use Rattle.rbc_allocation.specs.Sections.{FreesRun, front_of, rest_of, wished}
use Rattle.rbc_book.specs.Book.{entry_at, Pages, wish_at}
use Rattle.rbc_hand.specs.Hands.{Holding}
use Rattle.rbc_mission.specs.declared.held.HeldRight.TheVariants.{Held, Nothing as HeldNothing}
use Rattle.rbc_mission.specs.Supervisions.{hand_of, HasRouteForm, right_left, still_handing, SupervisionState}
use Rattle.rbc_mission.specs.Supervisions.{with_front, without_front}
use Rattle.rbc_right.specs.Rights.{right_of}
use Rattle.rbc_shorten.proofs.Requests.{ahead_is_cut}
use Rattle.rbc_shorten.specs.declared.answer.Cut.TheVariants.{Nothing}
use Rattle.rbc_shorten.specs.Standstill.{ahead_of, standing_act}
use Rattle.rbc_spec.proofs.Runs.{within_after, within_none}
use Rattle.rbc_spec.specs.Acts.{rest}
use Rattle.rbc_spec.specs.Centre.{is_taken_for, Mission, Open, Shut}
use Rattle.rbc_spec.specs.Line.{Line}
use Rattle.rbc_spec.specs.Place.{Place, place_on, Position}
use Rattle.rbc_spec.specs.Rules.{cut_ahead, stand_still}
use Rattle.rbc_spec.specs.SectionRuns.{is_empty, no_run, SectionRun, within}
use Rattle.rbc_train.proofs.Cuts.{keeps_some}
use Rattle.rbc_train.specs.declared.train.TrainState.{TrainState}
use Rattle.rbc_train.specs.Desk.{IsKeptAt}
use Rattle.rbc_train.specs.Standstill.{cleared_count, IsAhead, LeavesFront, left_ahead, uncleared}

-- ## The rest of the mission

front_left : (line : Line) (keep : ℕ) (o : Option Mission) (m : Mission)
    → option_and_then (with_front line keep) o ≡ Some m
    → (n : Mission) × (o ≡ Some n) × (keep ≡ 0 → ⊥)
    × (record n {
      hand = front_of keep n.hand;
      pool = no_run;
      proposal = None;
      handing = still_handing line n.place.track (front_of keep n.hand) n.handing;
    } ≡ m)
front_left line keep None m is = cc
front_left line keep (Some n) m is = by (keep == 0) refl is
  where
    by : (b : Bool) → (keep == 0) ≡ b
        → (if b then None
        else Some (record n {
          hand = front_of keep n.hand;
          pool = no_run;
          proposal = None;
          handing = still_handing line n.place.track (front_of keep n.hand) n.handing;
        })) ≡ Some m
        → (x : Mission) × (Some n ≡ Some x) × (keep ≡ 0 → ⊥)
        × (record x {
          hand = front_of keep x.hand;
          pool = no_run;
          proposal = None;
          handing = still_handing line x.place.track (front_of keep x.hand) x.handing;
        } ≡ m)
    by true none e = cc
    by false some e = (
      n,
      refl,
      eqb-false keep 0 some,
      same_Some (record n {
        hand = front_of keep n.hand;
        pool = no_run;
        proposal = None;
        handing = still_handing line n.place.track (front_of keep n.hand) n.handing;
      }) m e,
    )

-- its pool has gone
pub pool_gone : (line : Line) (keep : ℕ) (o : Option Mission)
    → option_map_or (λ (m : Mission). m.pool) (option_and_then (with_front line keep) o) no_run ≡ no_run
pool_gone line keep None = refl
pool_gone line keep (Some n) = by (keep == 0)
  where
    by : (b : Bool) → option_map_or (λ (m : Mission). m.pool) (if b then None
        else Some (record n {
          hand = front_of keep n.hand;
          pool = no_run;
          proposal = None;
          handing = still_handing line n.place.track (front_of keep n.hand) n.handing;
        })) no_run ≡ no_run
    by true = refl
    by false = refl

-- no right is returned
pub none_back : (line : Line) (keep : ℕ) → 1 ≤ keep → (old left : SupervisionState)
    → left.mission ≡ option_and_then (with_front line keep) old.mission → right_left old left ≡ HeldNothing
none_back line keep some old left is =
    (λ i. if is_some old.mission && is_none (is i) then Held (right_of old.number) else HeldNothing) ∙ by old.mission
  where
    by : (o : Option Mission)
        → (if is_some o && is_none (option_and_then (with_front line keep) o) then Held (right_of old.number)
        else HeldNothing) ≡ HeldNothing
    by None = refl
    by (Some n) =
        ap (λ b. if is_none (if b then None
        else Some (record n {
          hand = front_of keep n.hand;
          pool = no_run;
          proposal = None;
          handing = still_handing line n.place.track (front_of keep n.hand) n.handing;
        })) then Held (right_of old.number) else HeldNothing)
        (ne_eqb keep 0 (λ none. omega (arith, none, some)))

-- all but its first sections have left it
pub kept_cut : (line : Line) (c : ℕ) (p : TrainState) (left : SupervisionState) (hand : Holding) (keep : ℕ)
    → keep ≤ (hand_of p.supervision).count
    → left ≡ record p.supervision {
      mission = option_and_then (with_front line keep) p.supervision.mission;
      hand = hand;
    } → IsKeptAt line c p → IsKeptAt line c (record p { supervision = left })
kept_cut line c p left hand keep few is kept =
    subst (λ (x : SupervisionState). IsKeptAt line c (record p { supervision = x })) (sym is) (record {
      one_train = kept.one_train;
      form = λ m here. let n = front_left line keep p.supervision.mission m here in
          subst HasRouteForm n.3 (form n.0 (kept.form n.0 n.1) (within_hand n.0 n.1) n.2);
      pool = record {
        follows = λ m here some. let n = front_left line keep p.supervision.mission m here in
            absurd (false≢true (sym some ∙ ap (λ (x : Mission). is_empty x.pool) (sym n.3)));
        away = λ m here s in_pool. let n = front_left line keep p.supervision.mission m here in
            absurd (false≢true (sym (within_none no_run s refl) ∙ ap (λ (x : Mission). within x.pool s) n.3 ∙ in_pool));
      };
      covers = kept.covers;
      expected = kept.expected;
    })
  where
    within_hand : (n : Mission) → p.supervision.mission ≡ Some n → keep ≤ n.hand.count
    within_hand n there = subst (λ (o : Option Mission). keep ≤ (option_map_or (λ m. m.hand) o no_run).count) there few

    form : (n : Mission) → HasRouteForm n → keep ≤ n.hand.count → (keep ≡ 0 → ⊥)
        → HasRouteForm (record n {
          hand = front_of keep n.hand;
          pool = no_run;
          proposal = None;
          handing = still_handing line n.place.track (front_of keep n.hand) n.handing;
        })
    form n has few apart = record {
      some = omega (arith, apart);
      most = let most = has.most in omega (arith, most, few);
      numbers = let numbers = has.numbers in omega (arith, numbers, few);
      few = omega arith;
    }

-- if something is cut off, the mission goes on with the sections that the train has not cleared
pub goes_so : (line : Line) (t track : ℕ) (position : Position) (book book' : Pages) (old mid : SupervisionState)
    (n : Mission) (keep : ℕ) (told all : List ℕ) → old.mission ≡ Some n
    → (a : IsAhead line t track position (hand_of old) book keep all) → LeavesFront line a.place old mid told book book'
    → mid.mission ≡ Some (record n { place = a.place; hand = uncleared line a.place n.hand })
goes_so line t track position book book' old mid n keep told all there a leaves =
    ap (λ (x : SupervisionState). x.mission) leaves.supervision
    ∙ (λ i.
    option_and_then (without_front a.place (cleared_count line a.place (hand_of (record old { mission = there i }))))
    (there i))
    ∙ by (cleared_count line a.place n.hand == n.hand.count) refl
  where
    less : (1 ≤ keep) × (keep < (uncleared line a.place n.hand).count)
    less =
        keeps_some line (uncleared line a.place n.hand) a.place.front keep
        ((λ i. ahead_of line (uncleared line a.place (hand_of (record old { mission = sym there i }))) a.place.front)
        ∙ a.cut)

    by : (b : Bool) → (cleared_count line a.place n.hand == n.hand.count) ≡ b
        → (if b then None else Some (record n { place = a.place; hand = uncleared line a.place n.hand }))
        ≡ Some (record n { place = a.place; hand = uncleared line a.place n.hand })
    by true all = let same = eqb-true (cleared_count line a.place n.hand) n.hand.count all in
        absurd (let no : ⊥ = omega (arith, same, less.1) in no)
    by false some = refl

-- as many of its sections are kept as it has, at most
pub keeps_fit : (line : Line) (t track : ℕ) (position : Position) (book book' : Pages) (old mid : SupervisionState)
    (n : Mission) (keep : ℕ) (told all : List ℕ) → old.mission ≡ Some n
    → (a : IsAhead line t track position (hand_of old) book keep all) → LeavesFront line a.place old mid told book book'
    → keep ≤ (hand_of mid).count
keeps_fit line t track position book book' old mid n keep told all there a leaves =
    let less =
    keeps_some line (uncleared line a.place n.hand) a.place.front keep
    ((λ i. ahead_of line (uncleared line a.place (hand_of (record old { mission = sym there i }))) a.place.front)
    ∙ a.cut) in
    subst (λ (o : Option Mission). keep ≤ (option_map_or (λ m. m.hand) o no_run).count)
    (sym (goes_so line t track position book book' old mid n keep told all there a leaves)) (omega (arith, less.1))

-- the hand of a mission that is still here
pub left_hand : (line : Line) (p : Place) (old mid : SupervisionState) (n y : Mission) (told : List ℕ)
    (book book' : Pages) → old.mission ≡ Some n → LeavesFront line p old mid told book book'
    → mid.mission ≡ Some y → y.hand ≡ uncleared line p n.hand
left_hand line p old mid n y told book book' there leaves stays =
    by (cleared_count line p n.hand == n.hand.count)
    ((λ i. option_and_then (without_front p (cleared_count line p (hand_of (record old { mission = sym there i }))))
    (sym there i)) ∙ sym (ap (λ (x : SupervisionState). x.mission) leaves.supervision) ∙ stays)
  where
    by : (b : Bool) → (if b then None else Some (record n { place = p; hand = uncleared line p n.hand })) ≡ Some y
        → y.hand ≡ uncleared line p n.hand
    by true e = cc
    by false e =
        ap (λ (x : Mission). x.hand) (sym (same_Some (record n { place = p; hand = uncleared line p n.hand }) y e))

-- if no section is ahead, nothing is cut
pub still_by : (line : Line) (c t : ℕ) (position : Position) (track : ℕ) (hand : SectionRun)
    → left_ahead line track position hand ≡ Nothing → (y : Mission) → y.place.track ≡ track
    → ((p : Place) → place_on line track position ≡ Some p → y.hand ≡ uncleared line p hand)
    → stand_still line c t position y ≡ rest
still_by line c t position track hand nothing y on left = by (position.v_train == 0) nothing
  where
    by_place : (o : Option Place) → place_on line track position ≡ o
        → option_map_or (λ p. ahead_of line (uncleared line p hand) p.front) o Nothing ≡ Nothing
        → option_map_or (cut_ahead line c t y) o rest ≡ rest
    by_place None is none = refl
    by_place (Some p) is none =
        ahead_is_cut line c t y p ∙ ap (standing_act line c t y) ((λ i. ahead_of line (left p is i) p.front) ∙ none)

    by : (b : Bool)
        → (if b then option_map_or (λ p. ahead_of line (uncleared line p hand) p.front)
        (place_on line track position) Nothing else Nothing) ≡ Nothing
        → (if b then option_map_or (cut_ahead line c t y) (place_on line y.place.track position) rest else rest) ≡ rest
    by false none = refl
    by true none = ap (λ (u : ℕ). option_map_or (cut_ahead line c t y) (place_on line u position) rest) on
        ∙ by_place (place_on line track position) refl none

-- ## The reports

filter-range_same : (p q : ℕ → Bool) (a n : ℕ) → ((s : ℕ) → a ≤ s → s < a + n → p s ≡ q s)
    → filter p (range_with_len a n) ≡ filter q (range_with_len a n)
filter-range_same p q a zero same = refl
filter-range_same p q a (suc n) same =
    let later = filter-range_same p q (a + 1) n (λ s low high. same s (omega arith) (omega arith)) in
    ap (λ b. if b then a ∷ filter p (range_with_len (a + 1) n) else filter p (range_with_len (a + 1) n))
    (same a (omega arith) (omega arith))
    ∙ ap (λ xs. if q a then a ∷ xs else xs) later

-- sections that were not given back are wished as before
pub wished_after : (t : ℕ) (front r : SectionRun) (book book' : Pages) → FreesRun t front book book'
    → front.first + front.count ≤ r.first → wished t r book' ≡ wished t r book
wished_after t front r book book' frees apart =
    filter-range_same _ _ r.first r.count (λ s low high. same s (within_past s low))
  where
    within_past : (s : ℕ) → r.first ≤ s → within front s ≡ false
    within_past s low = within_after front s (omega (arith, apart, low))

    same : (s : ℕ) → within front s ≡ false
        → (is_taken_for t (entry_at book' s) && wish_at book' s) ≡ (is_taken_for t (entry_at book s) && wish_at book s)
    same s past =
        (λ i. is_taken_for t (frees.entry s i) && frees.wish s i)
        ∙ (λ i. is_taken_for t (if past i && is_taken_for t (entry_at book s)
        then (if wish_at book s then Shut else Open) else entry_at book s)
        && (not (past i && is_taken_for t (entry_at book s)) && wish_at book s))

-- the reports of both are those of all that leave
pub tells_all : (line : Line) (track : ℕ) (position : Position) (book book' : Pages) (old mid : SupervisionState)
    (n : Mission) (keep : ℕ) (told later all : List ℕ) → old.mission ≡ Some n
    → (a : IsAhead line old.engine track position (hand_of old) book keep all)
    → LeavesFront line a.place old mid told book book'
    → later ≡ wished old.engine (rest_of keep (uncleared line a.place n.hand)) book'
    → told ≡ wished old.engine (front_of (cleared_count line a.place (hand_of old)) (hand_of old)) book
    → told ++ later ≡ all
tells_all line track position book book' old mid n keep told later all there a leaves later_is told_is =
    (λ i. told_is i ++ (later_is
    ∙ wished_after old.engine (front_of (cleared_count line a.place n.hand) n.hand)
    (rest_of keep (uncleared line a.place n.hand)) book book' frees (omega arith)) i)
    ∙ (λ i. wished old.engine
    (front_of (cleared_count line a.place (hand_of (record old { mission = there i })))
    (hand_of (record old { mission = there i }))) book ++ wished old.engine (runs i) book)
    ∙ (λ i. wished old.engine
    (front_of (cleared_count line a.place (hand_of (record old { mission = sym there i })))
    (hand_of (record old { mission = sym there i }))) book
    ++ wished old.engine
    (rest_of (cleared_count line a.place (hand_of (record old { mission = sym there i })) + keep)
    (hand_of (record old { mission = sym there i }))) book)
    ∙ sym a.told
  where
    frees : FreesRun old.engine (front_of (cleared_count line a.place n.hand) n.hand) book book'
    frees =
        subst (λ (o : Option Mission).
        FreesRun old.engine
        (front_of (cleared_count line a.place (option_map_or (λ m. m.hand) o no_run))
        (option_map_or (λ m. m.hand) o no_run)) book book') there leaves.book

    runs : rest_of keep (uncleared line a.place n.hand) ≡ rest_of (cleared_count line a.place n.hand + keep) n.hand
    runs =
        let first : n.hand.first + cleared_count line a.place n.hand + keep
        ≡ n.hand.first + (cleared_count line a.place n.hand + keep) = omega arith in
        let left : n.hand.count - cleared_count line a.place n.hand - keep
        ≡ n.hand.count - (cleared_count line a.place n.hand + keep) = omega arith in
        λ i. record { first = first i; count = left i }
