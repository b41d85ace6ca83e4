-- A train at the border, by the acts of the rules.
use Rattle.std.proofs.Common.{[], if◌then◌else◌, ◌&&◌, ◌-◌, ◌==◌, ◌∙◌, ◌∷◌, ◌≡◌, ap, arith, Bool, cond, false, is_none}
use Rattle.std.proofs.Common.{length, min, nat_lt, None, not, Option, option_map, refl, replicate, Some, sym, take}
use Rattle.std.proofs.Common.{true, ℕ}
use Rattle.std.proofs.lemmas.List.{append-nil, length-take-le, take-replicate}
use Rattle.std.specs.Option.{option_map_or}
use Rattle.rbc_border.proofs.Lists.{and_false}
use Rattle.rbc_border.specs.Border.{answers, BorderState, GoesOn, HasBorder, is_due, IsBorder, IsWayOf, wants}
use Rattle.rbc_border.specs.Border.{with_border}
use Rattle.rbc_border.specs.declared.way.Way.{Way}
use Rattle.rbc_hand.specs.Hands.{Holding}
use Rattle.rbc_hand.specs.Tokens.{Name}
use Rattle.rbc_line.specs.SectionRuns.{run_of}
use Rattle.rbc_spec.proofs.Lists.{put_same}
use Rattle.rbc_spec.proofs.Runs.{same_run, within_true}
use Rattle.rbc_spec.specs.Acts.{◌>>◌, ask_route, become, change_mission, propose_if_so, Reply, rest, return_pool}
use Rattle.rbc_spec.specs.Acts.{returned, send}
use Rattle.rbc_spec.specs.Centre.{Centre, Mission}
use Rattle.rbc_spec.specs.Frame.{RouteAsk, RouteReturn}
use Rattle.rbc_spec.specs.Line.{is_home, Line}
use Rattle.rbc_spec.specs.Links.{is_of_line, is_wanted, route_told, route_withdrawn}
use Rattle.rbc_spec.specs.Maps.{has, put}
use Rattle.rbc_spec.specs.Rules.{ask_route_if_due, choose}
use Rattle.rbc_spec.specs.SectionRuns.{all_of, is_empty, most_in_hand, next_after, no_run, part_before, part_from}
use Rattle.rbc_spec.specs.SectionRuns.{SectionRun, within}
use Rattle.rbc_spec.specs.Sections.{is_on}

-- ## The same state

-- a mission that has the pool is the same with it
pub same_pool : (o : Option Mission) (pool : SectionRun) → ((m : Mission) → o ≡ Some m → m.pool ≡ pool)
    → o ≡ option_map (λ (m : Mission). record m { pool = pool }) o
same_pool None pool has = refl
same_pool (Some m) pool has = λ i. Some (record m { pool = has m refl i })

module _ (k : Centre) (b : BorderState) (border : HasBorder k b) where
  -- missions, and questions, that are put again
  missions : (u : ℕ) → put k.mission b.engine
      (option_map (λ (m : Mission). record m { pool = b.pool }) (k.mission b.engine)) u ≡ k.mission u
  missions u =
      put_same b.engine (option_map (λ (m : Mission). record m { pool = b.pool }) (k.mission b.engine)) k.mission
      (same_pool (k.mission b.engine) b.pool border.has_pool) u

  questions : (u : ℕ) → put k.route_ask b.engine b.asked u ≡ k.route_ask u
  questions u = put_same b.engine b.asked k.route_ask border.has_ask u

  pub same_border : k ≡ with_border b k
  same_border = λ i. record k { mission = λ u. sym (missions u) i; route_ask = λ u. sym (questions u) i }

  -- another question, with the pool as it is
  pub with_question : (o : Option ℕ)
      → record k { route_ask = put k.route_ask b.engine o } ≡ with_border (record b { asked = o }) k
  with_question o = λ i. record k { mission = λ u. sym (missions u) i; route_ask = put k.route_ask b.engine o }

  -- a change of the pool, if the train has a mission here
  pub with_pool : (m : Mission) (change : Mission → SectionRun) (pool : SectionRun) → k.mission b.engine ≡ Some m
      → change m ≡ pool
      → record k {
        mission = put k.mission b.engine
            (option_map (λ (n : Mission). record n { pool = change n }) (k.mission b.engine));
      } ≡ with_border (record b { pool = pool }) k
  with_pool m change pool is to = λ i. record k {
    mission =
        put k.mission b.engine
        ((ap (option_map (λ (n : Mission). record n { pool = change n })) is ∙ (λ j. Some (record m { pool = to j }))
        ∙ ap (option_map (λ (n : Mission). record n { pool = pool })) (sym is)) i);
    route_ask = λ u. sym (questions u) i;
  }

-- ## The question

module _ (line : Line) (next : ℕ) (way : Way) (k : Centre) (b : BorderState) (m : Mission) (border : HasBorder k b)
    (is : k.mission b.engine ≡ Some m) (of : IsWayOf way m) where
  -- a question is due, by the mission and its track
  abbrev due_at : Mission → Centre → Bool
  due_at n j =
      ((is_home line next (next_after n.hand) && is_on line n.place.track (next_after n.hand))
      && nat_lt n.hand.count most_in_hand) && (is_empty n.pool && is_none (j.route_ask b.engine))

  due_same : due_at m k ≡ is_due line next way b
  due_same =
      λ i.
      ((is_home line next (next_after (of.sections i)) && is_on line (of.on i) (next_after (of.sections i)))
      && nat_lt (of.sections i).count most_in_hand) && (is_empty (border.has_pool m is i) && is_none (border.has_ask i))

  asked_so : (x : Bool) → is_due line next way b ≡ x
      → ask_route_if_due line b.engine next k ≡ cond x (ask_route b.engine next m k) (rest k)
  asked_so x is_so =
      ap (λ (o : Option Mission).
      option_map_or (λ (n : Mission). cond (due_at n k) (ask_route b.engine next n k) (rest k)) o (rest k)) is
      ∙ ap (λ y. cond y (ask_route b.engine next m k) (rest k)) (due_same ∙ is_so)

  pub not_due : is_due line next way b ≡ false → ask_route_if_due line b.engine next k ≡ rest (with_border b k)
  not_due is_so = asked_so false is_so ∙ ap rest (same_border k b border)

  pub due : (first most : ℕ) → is_due line next way b ≡ true → first ≡ next_after (run_of way.hand)
      → most ≡ min (32 - way.hand.count) (512 - next_after (run_of way.hand))
      → ask_route_if_due line b.engine next k
      ≡ send next (RouteAsk b.engine first most) (with_border (record b { asked = Some first }) k)
  unfolding ◌>>◌
  due first most is_so first_is most_is =
      let first_of : next_after m.hand ≡ first = ap next_after of.sections ∙ sym first_is in
      let most_of : min (most_in_hand - m.hand.count) (512 - next_after m.hand) ≡ most =
      ap (λ (r : SectionRun). min (most_in_hand - r.count) (512 - next_after r)) of.sections ∙ sym most_is in
      asked_so true is_so
      ∙ (λ i. record {
        state = record k { route_ask = put k.route_ask b.engine (Some (first_of i)) };
        frames = λ e. append-nil (if e == next then RouteAsk b.engine (first_of i) (most_of i) ∷ [] else []) i;
        sayings = [];
        words = [];
      })
      ∙ ap (send next (RouteAsk b.engine first most)) (with_question k b border (Some first))

-- ## The answer

-- the answer to the question, and the properties of the sections
pub answers_is : (line : Line) (from : ℕ) (r : SectionRun) (b : BorderState)
    → answers line from r b
    ≡ (has (λ first. first == r.first) b.asked
    && ((is_of_line line r && is_home line from r.first) && all_of (is_home line from) r))
answers_is line from r b =
    turned (has (λ first. first == r.first) b.asked) (is_of_line line r && is_home line from r.first)
    (all_of (is_home line from) r)
  where
    turned : (x y z : Bool) → ((x && y) && z) ≡ (x && (y && z))
    turned true y z = refl
    turned false y z = refl

pub not_asked_for : (line : Line) (from : ℕ) (r : SectionRun) (b : BorderState)
    → has (λ first. first == r.first) b.asked ≡ false → answers line from r b ≡ false
not_asked_for line from r b is = answers_is line from r b
    ∙ ap (λ x. x && ((is_of_line line r && is_home line from r.first) && all_of (is_home line from) r)) is

pub not_of_home : (line : Line) (from : ℕ) (r : SectionRun) (b : BorderState)
    → ((is_of_line line r && is_home line from r.first) && all_of (is_home line from) r) ≡ false
    → answers line from r b ≡ false
not_of_home line from r b is = answers_is line from r b ∙ ap (λ x. has (λ first. first == r.first) b.asked && x) is
    ∙ and_false (has (λ first. first == r.first) b.asked)

pub an_answer : (line : Line) (from : ℕ) (r : SectionRun) (b : BorderState)
    → has (λ first. first == r.first) b.asked ≡ true
    → ((is_of_line line r && is_home line from r.first) && all_of (is_home line from) r) ≡ true
    → answers line from r b ≡ true
an_answer line from r b asked home = answers_is line from r b ∙ (λ i. asked i && home i)

-- whether the mission can use the sections, by its track
pub wanted_is : (line : Line) (r : SectionRun) (way : Option Way) (o : Option Mission) (b : BorderState) → GoesOn way o
    → ((m : Mission) → o ≡ Some m → m.pool ≡ b.pool) → has (is_wanted line r) o ≡ wants line r way b
wanted_is line r None None b goes pool = refl
wanted_is line r None (Some m) b goes pool =
    ap (λ x. ((r.first == next_after m.hand) && is_on line m.place.track r.first) && (not x && is_empty m.pool)) goes
    ∙ and_false ((r.first == next_after m.hand) && is_on line m.place.track r.first)
wanted_is line r (Some way) None b goes pool = absurd goes
wanted_is line r (Some way) (Some m) b goes pool =
    λ i. ((r.first == next_after (goes.1.sections i)) && is_on line (goes.1.on i) r.first)
    && (not (goes.0 i) && is_empty (pool m refl i))

module _ (line : Line) (c from : ℕ) (r : SectionRun) (way : Option Way) (k : Centre) (b : BorderState)
    (border : HasBorder k b) (goes : GoesOn way (k.mission b.engine)) where
  abbrev taken : Centre → Reply
  taken j = (become (λ h. record h { route_ask = put h.route_ask b.engine None })
      >> choose (λ h. has (is_wanted line r) (h.mission b.engine))
      (change_mission b.engine (λ m. record m { pool = r }))
      (if is_empty r then rest else send from (RouteReturn b.engine r))) j

  told_so : (x : Bool) → answers line from r b ≡ x → route_told line c from b.engine r k ≡ cond x (taken k) (rest k)
  told_so x is =
      ap
      (λ (o : Option ℕ). cond ((has (λ first. first == r.first) o && (is_of_line line r && is_home line from r.first))
      && all_of (is_home line from) r) (taken k) (rest k)) border.has_ask
      ∙ ap (λ y. cond y (taken k) (rest k)) is

  pub unasked : answers line from r b ≡ false → route_told line c from b.engine r k ≡ rest (with_border b k)
  unasked is = told_so false is ∙ ap rest (same_border k b border)

  abbrev answered : Centre
  answered = record k { route_ask = put k.route_ask b.engine None }

  taken_so : (x : Bool) → wants line r way b ≡ x
      → taken k ≡ cond x (change_mission b.engine (λ m. record m { pool = r }) answered)
      ((if is_empty r then rest else send from (RouteReturn b.engine r)) answered)
  unfolding ◌>>◌
  taken_so x is =
      ap (λ y. cond y (change_mission b.engine (λ m. record m { pool = r }) answered)
      ((if is_empty r then rest else send from (RouteReturn b.engine r)) answered))
      (wanted_is line r way (k.mission b.engine) b goes border.has_pool ∙ is)

  pub wanted : answers line from r b ≡ true → wants line r way b ≡ true
      → route_told line c from b.engine r k ≡ rest (with_border (record b { lender = from; pool = r; asked = None }) k)
  wanted is wants_it = told_so true is ∙ taken_so true wants_it

  pub unwanted : answers line from r b ≡ true → wants line r way b ≡ false
      → route_told line c from b.engine r k
      ≡ (if is_empty r then rest else send from (RouteReturn b.engine r)) (with_border (record b { asked = None }) k)
  unwanted is wants_not = told_so true is ∙ taken_so false wants_not
      ∙ ap (if is_empty r then rest else send from (RouteReturn b.engine r)) (with_question k b border None)

-- ## The pool is returned

module _ (line : Line) (c : ℕ) (k : Centre) (b : BorderState) (m : Mission) (border : HasBorder k b)
    (is : k.mission b.engine ≡ Some m) where
  -- a run is returned, and the pool changes
  goes_home : (r : SectionRun) (change : Mission → SectionRun) (pool : SectionRun) → change m ≡ pool
      → (returned line c b.engine m.place.track r >> change_mission b.engine (λ n. record n { pool = change n })) k
      ≡ returned line c b.engine m.place.track r (with_border (record b { pool = pool }) k)
  unfolding ◌>>◌
  goes_home r change pool to = λ i. record {
    state = with_pool k b border m change pool is to i;
    frames = λ d. append-nil ((returned line c b.engine m.place.track r k).frames d) i;
    sayings = [];
    words = [];
  }

  pub returns_pool : (r : SectionRun) → r ≡ b.pool
      → return_pool line c b.engine m k
      ≡ returned line c b.engine m.place.track r (with_border (record b { pool = no_run }) k)
  returns_pool r all =
      ap
      (λ (q : SectionRun).
      (returned line c b.engine m.place.track q >> change_mission b.engine (λ n. record n { pool = no_run })) k)
      (border.has_pool m is ∙ sym all)
      ∙ goes_home r (λ n. no_run) no_run refl

  withdrawn_so : (s : ℕ) (x : Bool) → within b.pool s ≡ x → route_withdrawn line c b.engine s k
      ≡ (if x then returned line c b.engine m.place.track (part_from s b.pool)
      >> change_mission b.engine (λ n. record n { pool = part_before s n.pool }) else propose_if_so line b.engine s) k
  withdrawn_so s x in_pool =
      ap (λ (o : Option Mission).
      option_map_or (λ (n : Mission).
      (if within n.pool s then returned line c b.engine n.place.track (part_from s n.pool)
      >> change_mission b.engine (λ n. record n { pool = part_before s n.pool }) else propose_if_so line b.engine s) k)
      o (rest k)) is
      ∙ ap (λ (q : SectionRun).
      (if within q s then returned line c b.engine m.place.track (part_from s q)
      >> change_mission b.engine (λ n. record n { pool = part_before s n.pool }) else propose_if_so line b.engine s) k)
      (border.has_pool m is)
      ∙ ap
      (λ y.
      (if y then returned line c b.engine m.place.track (part_from s b.pool)
      >> change_mission b.engine (λ n. record n { pool = part_before s n.pool }) else propose_if_so line b.engine s) k)
      in_pool

  pub withdrawn : (s : ℕ) (r : SectionRun) → within b.pool s ≡ true → r ≡ part_from s b.pool
      → route_withdrawn line c b.engine s k
      ≡ returned line c b.engine m.place.track r (with_border (record b { pool = part_before s b.pool }) k)
  withdrawn s r in_pool part =
      withdrawn_so s true in_pool
      ∙ ap (λ (q : SectionRun).
      (returned line c b.engine m.place.track q
      >> change_mission b.engine (λ n. record n { pool = part_before s n.pool })) k) (sym part)
      ∙ goes_home r (λ n. part_before s n.pool) (part_before s b.pool) (ap (part_before s) (border.has_pool m is))

  pub not_withdrawn : (s : ℕ) → within b.pool s ≡ false
      → route_withdrawn line c b.engine s k ≡ propose_if_so line b.engine s (with_border b k)
  not_withdrawn s out = withdrawn_so s false out ∙ ap (propose_if_so line b.engine s) (same_border k b border)

-- the part from a section of the pool on, and the part before it
pub parts_at : (pool : SectionRun) (s : ℕ) → within pool s ≡ true
    → (part_from s pool ≡ record { first = s; count = pool.count - (s - pool.first) })
    × (part_before s pool ≡ record { first = pool.first; count = pool.count - (pool.count - (s - pool.first)) })
parts_at pool s in_pool =
    let ends = within_true pool s in_pool in (
      same_run (part_from s pool) (record { first = s; count = pool.count - (s - pool.first) }) (omega arith)
          (omega arith),
      same_run (part_before s pool)
          (record { first = pool.first; count = pool.count - (pool.count - (s - pool.first)) }) refl (omega arith),
    )

-- ## In memory

-- the last `count` names of a pool ended
pub cut_border : (t lender first : ℕ) (names new : Holding) (count : ℕ) → IsBorder t lender first names
    → new ≡ record names { holds = take (length names.holds - count) names.holds } → IsBorder t lender first new
cut_border t lender first names new count ok cut =
    let n = length names.holds in
    let held : new.holds ≡ take (n - count) names.holds = ap (λ (h : Holding). h.holds) cut in
    let long : length new.holds ≡ n - count = ap length held ∙ length-take-le (n - count) names.holds (omega arith) in
    record {
      lent = held ∙ ap (take (n - count)) ok.lent ∙ take-replicate (n - count) n (Name t lender) (omega arith)
          ∙ ap (λ k. replicate k (Name t lender)) (sym long);
      begins = λ some. ap (λ (h : Holding). h.first) cut ∙ ok.begins (omega (arith, some, long));
      most = omega (arith, long, ok.most);
      last = λ some. omega (arith, some, long, ok.last (omega (arith, some, long)));
    }
