-- Acts that do nothing, and the reply of a centre that stays local.
use Rattle.std.proofs.Common.{[], ⊎_elim, ◌&&◌, ◌++◌, ◌+◌, ◌<◌, ◌==◌, ◌||◌, ◌∙◌, ◌∷◌, ◌≡◌, ◌≤◌, ap, arith, Bool, eq-eqb}
use Rattle.std.proofs.Common.{eqb-true, false, if◌then◌else◌, is_none, nat_le, nat_lt, None, not, Option, option_map}
use Rattle.std.proofs.Common.{refl, Some, subst, sym, true, ℕ}
use Rattle.std.proofs.lemmas.Bool.{and_from, and_parts, and_right, cases_Bool, cases_eq, cases_lt, cond-false}
use Rattle.std.proofs.lemmas.Bool.{cond-true, le-leb, lt-ltb, or_left, or_right}
use Rattle.std.specs.Option.{option_map_or}
use Rattle.law_base.specs.Local.Local.{hand_has, IsLocalAt, IsLocalMission, IsOrdered}
use Rattle.rbc_spec.proofs.Lists.{put_here, put_other}
use Rattle.rbc_spec.proofs.Worlds.{alike_then, resting_then, then_resting}
use Rattle.rbc_spec.specs.Acts.{◌>>◌, Act, become, cancel, change_mission, close, freed, leave, Reply, rest}
use Rattle.rbc_spec.specs.Acts.{return_pool, return_right, returned, send, set_mission}
use Rattle.rbc_spec.specs.Centre.{Centre, Entry, is_out_for, is_registrar_of, is_taken_for, is_unused, Mission, Phase}
use Rattle.rbc_spec.specs.Centre.{Shut}
use Rattle.rbc_spec.specs.Frame.{Cancel, RouteReturn, TakingOver}
use Rattle.rbc_spec.specs.Line.{is_centre, is_home, Line, Section, section}
use Rattle.rbc_spec.specs.Maps.{put}
use Rattle.rbc_spec.specs.Place.{covered}
use Rattle.rbc_spec.specs.Rules.{drop_wait, take_over, taking}
use Rattle.rbc_spec.specs.SectionRuns.{is_empty, no_run, SectionRun, shared, within}
use Rattle.rbc_spec.specs.Sections.{home_run, is_on}

-- # Acts without an effect if no other centre has a part: each equals the act that does nothing, or a shorter one.

-- ## Nothing is pending

-- no handover, so none is cancelled
pub no_cancel : (t : ℕ) (m : Mission) (k : Centre) → m.handing ≡ None → cancel t m k ≡ rest k
no_cancel t m k none =
    ap (λ o. option_map_or (λ h. send h.to (Cancel h.number t) >> change_mission t (λ n. record n { handing = None }))
    o rest k) none

-- no start waits, so none is dropped
pub no_wait_dropped : (line : Line) (c t : ℕ) (k : Centre) → k.wait t ≡ None → drop_wait line c t k ≡ rest k
no_wait_dropped line c t k none =
    ap (λ o. option_map_or (λ place. (freed line c (is_taken_for t) (covered line place)
    >> become (λ j. record j { wait = put j.wait t None })) k) o (rest k)) none

-- ## Nothing is returned

-- the parts of the run at other homes are empty
abbrev pub IsAllHome : Line → ℕ → ℕ → SectionRun → Type 0
IsAllHome line c track r = (d : ℕ) → (d == c || is_empty (shared r (home_run line d track))) ≡ true

-- no section of the run is lent, so none is returned
pub none_returned : (line : Line) (c t track : ℕ) (r : SectionRun) (k : Centre) → IsAllHome line c track r
    → returned line c t track r k ≡ rest k
none_returned line c t track r k home = λ i. record {
  state = k;
  frames = λ d. cond-true (d == c || is_empty (shared r (home_run line d track))) []
      (RouteReturn t (shared r (home_run line d track)) ∷ []) (home d) i;
  sayings = [];
  words = [];
}

-- an empty run has no parts
pub all_home_none : (line : Line) (c track : ℕ) → IsAllHome line c track no_run
all_home_none line c track d =
    or_right (d == c) _ (eq-eqb (shared no_run (home_run line d track)).count 0 (omega arith))

-- the first of the sections that two runs share is within both
shared_first : (a b : SectionRun) → 0 < (shared a b).count → (within a (shared a b).first ≡ true)
    × (within b (shared a b).first ≡ true)
unfolding within
shared_first a b some = (
  and_from (nat_le a.first (shared a b).first) (nat_lt (shared a b).first (a.first + a.count))
      (le-leb a.first (shared a b).first (omega arith)) (lt-ltb (shared a b).first (a.first + a.count) (omega arith)),
  and_from (nat_le b.first (shared a b).first) (nat_lt (shared a b).first (b.first + b.count))
      (le-leb b.first (shared a b).first (omega arith)) (lt-ltb (shared a b).first (b.first + b.count) (omega arith)),
)

same_home : (o : Option Section) (c d : ℕ) → option_map_or (λ p. p.home == c) o false ≡ true
    → option_map_or (λ p. p.home == d) o false ≡ true → d ≡ c
same_home (Some p) c d one two = sym (eqb-true p.home d two) ∙ eqb-true p.home c one
same_home None c d one two = cc

-- a run of sections of only the own home
pub all_home : (line : Line) (c track : ℕ) (r : SectionRun) → IsOrdered line
    → ((s : ℕ) → within r s ≡ true → is_home line c s ≡ true) → IsAllHome line c track r
all_home line c track r ordered home d = ⊎_elim
    (λ (some : 0 < (shared r (home_run line d track)).count).
    let s : ℕ = (shared r (home_run line d track)).first in
    let both = shared_first r (home_run line d track) some in
    let there = and_parts (is_home line d s) (is_on line track s) (sym (ordered.homes_run d track s) ∙ both.1) in
    or_left (d == c) _ (eq-eqb d c (same_home (section line s) c d (home s both.0) there.0)))
    (λ (none : (shared r (home_run line d track)).count ≤ 0).
    or_right (d == c) _ (eq-eqb (shared r (home_run line d track)).count 0 (omega arith)))
    (cases_lt 0 (shared r (home_run line d track)).count)

-- sections of home that leave are given back, and that is all
pub leave_home : (line : Line) (c t track : ℕ) (r : SectionRun) (k : Centre) → IsAllHome line c track r
    → leave line c t track r k ≡ freed line c (is_taken_for t) r k
leave_home line c t track r k home =
    then_resting (freed line c (is_taken_for t) r) (returned line c t track r) k
    (none_returned line c t track r (freed line c (is_taken_for t) r k).state home)

-- ## Missions

put_same : {X : Type 0} (f : ℕ → X) (t : ℕ) (x : X) → x ≡ f t → (u : ℕ) → put f t x u ≡ f u
put_same f t x e u = ⊎_elim
    (λ (here : (u == t) ≡ true). cond-true (u == t) x (f u) here ∙ e ∙ ap f (sym (eqb-true u t here)))
    (λ (other : (u == t) ≡ false). cond-false (u == t) x (f u) other)
    (cases_Bool (u == t))

-- a change that changes nothing of the mission
pub no_change : (t : ℕ) (change : Mission → Mission) (k : Centre) → option_map change (k.mission t) ≡ k.mission t
    → change_mission t change k ≡ rest k
no_change t change k same = λ i. record {
  state = record k { mission = λ u. put_same k.mission t (option_map change (k.mission t)) same u i };
  frames = λ d. [];
  sayings = [];
  words = [];
}

without_pool : (m : Mission) → m.pool ≡ no_run → record m { pool = no_run } ≡ m
without_pool m none = λ i. record m { pool = sym none i }

-- an empty pool is not returned
pub no_pool_returned : (line : Line) (c t : ℕ) (m : Mission) (k : Centre) → k.mission t ≡ Some m → m.pool ≡ no_run
    → return_pool line c t m k ≡ rest k
no_pool_returned line c t m k at none =
    resting_then (returned line c t m.place.track m.pool) (change_mission t (λ n. record n { pool = no_run })) k
    (ap (λ r. returned line c t m.place.track r k) none
    ∙ none_returned line c t m.place.track no_run k (all_home_none line c m.place.track))
    ∙ no_change t (λ n. record n { pool = no_run }) k
    (ap (λ o. option_map (λ (n : Mission). record n { pool = no_run }) o) at
    ∙ ap Some (without_pool m none) ∙ sym at)

-- at the registrar a mission without a handover closes, and the right is back
pub close_here : (line : Line) (c t : ℕ) (m : Mission) (k : Centre) → m.handing ≡ None → is_registrar_of line c t ≡ true
    → close line c t m k
    ≡ become (λ j. record j { mission = put j.mission t None; has_right = put j.has_right t true }) k
unfolding ◌>>◌
close_here line c t m k none here =
    alike_then (set_mission t None >> cancel t m) (set_mission t None) (return_right line c t) k
    (then_resting (set_mission t None) (cancel t m) k (no_cancel t m (set_mission t None k).state none))
    ∙ ap (λ (act : Act). (set_mission t None >> act) k) (cond-true (is_registrar_of line c t) _ _ here)

-- no train is expected, so no TakingOver is sent
pub no_take_over : (line : Line) (t : ℕ) (k : Centre) → ((d : ℕ) → k.expects d t ≡ None) → take_over line t k ≡ rest k
no_take_over line t k none =
    let is_new : ℕ → Bool = λ d. is_centre line d && option_map_or (λ e. not e.is_taking) (k.expects d t) false in
    λ i. record {
      state = record k {
        expects = λ d. cond-false (is_new d) (put (k.expects d) t (option_map taking (k.expects d t))) (k.expects d)
            (and_right (is_centre line d) _ (ap (λ o. option_map_or (λ e. not e.is_taking) o false) (none d))) i;
      };
      frames = λ d. ap (λ o. option_map_or (λ e. if is_new d then TakingOver e.number t ∷ [] else []) o []) (none d) i;
      sayings = [];
      words = [];
    }

-- # The duties of a reply of a local centre: the centre stays local, and sends no frame.

pub record Stays (line : Line) (c : ℕ) (r : Reply) : Type 0 where
  pub state : IsLocalAt line c r.state
  pub frames : (d : ℕ) → r.frames d ≡ []

pub by_same : {P : Type 0} (m n : ℕ) → (m ≡ n → P) → ((m ≡ n → ⊥) → P) → P
by_same m n f g = ⊎_elim f g (cases_eq m n)

module _ (line : Line) (c : ℕ) where
  -- ## Acts together

  pub rest_stays : (k : Centre) → IsLocalAt line c k → Stays line c (rest k)
  rest_stays k local = record { state = local; frames = λ d. refl }

  pub then_stays : (a b : Act) (k : Centre) → ((d : ℕ) → (a k).frames d ≡ []) → Stays line c (b (a k).state)
      → Stays line c ((a >> b) k)
  unfolding ◌>>◌
  then_stays a b k one two =
      record { state = two.state; frames = λ d. ap (λ xs. xs ++ (b (a k).state).frames d) (one d) ∙ two.frames d }

  pub alike_stays : (r q : Reply) → r ≡ q → Stays line c q → Stays line c r
  alike_stays r q e stays = subst (Stays line c) (sym e) stays

  pub if_stays : (b : Bool) (r q : Reply) → (b ≡ true → Stays line c r) → (b ≡ false → Stays line c q)
      → Stays line c (if b then r else q)
  if_stays true r q one two = one refl
  if_stays false r q one two = two refl

  pub or_stays : {X : Type 0} (o : Option X) (f : X → Reply) (r : Reply) → ((x : X) → o ≡ Some x → Stays line c (f x))
      → (o ≡ None → Stays line c r) → Stays line c (option_map_or f o r)
  or_stays (Some x) f r one two = one x refl
  or_stays None f r one two = two refl

  -- ## States

  -- clock, sessions and counts are free
  pub other_parts : (k : Centre) (clock : ℕ) (phase : ℕ → Phase) (heard : ℕ → Option ℕ) (said : ℕ
      → ℕ) (announced : ℕ) (taken : ℕ → ℕ)
      → IsLocalAt line c k
      → IsLocalAt line c
      (record k { clock = clock; phase = phase; heard = heard; said = said; announced = announced; taken = taken })
  other_parts k clock phase heard said announced taken h = record {
    taken = h.taken;
    not_out = h.not_out;
    foreign = h.foreign;
    unwished = h.unwished;
    right = h.right;
    at_registrar = h.at_registrar;
    mission = h.mission;
    no_wait = h.no_wait;
    not_asked = h.not_asked;
    no_route_ask = h.no_route_ask;
    not_expected = h.not_expected;
    none_sent = h.none_sent;
  }

  -- the duties of another book, other wishes, another mission of train t and other rights
  pub record Remade (k : Centre) (t : ℕ) (book : ℕ → Entry) (wish : ℕ → Bool) (mission : Option Mission) (has_right : ℕ
      → Bool) : Type 0 where
    pub taken : (s : ℕ) → is_taken_for t (book s) ≡ hand_has mission s
    pub others : (s u : ℕ) → (u ≡ t → ⊥) → is_taken_for u (book s) ≡ is_taken_for u (k.book s)
    pub not_out : (s u : ℕ) → is_out_for u (book s) ≡ false
    pub foreign : (s : ℕ) → is_home line c s ≡ false → book s ≡ Shut
    pub unwished : (s : ℕ) → is_unused (book s) ≡ true → wish s ≡ false
    pub right : has_right t ≡ (is_registrar_of line c t && is_none mission)
    pub rights : (u : ℕ) → (u ≡ t → ⊥) → has_right u ≡ k.has_right u
    pub at_registrar : is_registrar_of line c t ≡ false → mission ≡ None
    pub local : (m : Mission) → mission ≡ Some m → IsLocalMission line m

  pub remade : (k : Centre) (t : ℕ) (book : ℕ → Entry) (wish : ℕ → Bool)
      (mission : Option Mission) (has_right : ℕ → Bool)
      → IsLocalAt line c k → Remade k t book wish mission has_right
      → IsLocalAt line c
      (record k { book = book; wish = wish; mission = put k.mission t mission; has_right = has_right })
  remade k t book wish mission has_right h new = record {
    taken = λ s u. by_same u t
        (λ here. ap (λ v. is_taken_for v (book s)) here ∙ new.taken s
        ∙ sym (ap (λ o. hand_has o s) (put_here k.mission t u mission here)))
        (λ apart. new.others s u apart ∙ h.taken s u
        ∙ sym (ap (λ o. hand_has o s) (put_other k.mission t u mission apart)));
    not_out = new.not_out;
    foreign = new.foreign;
    unwished = new.unwished;
    right = λ u. by_same u t
        (λ here. ap has_right here ∙ new.right ∙ ap (λ v. is_registrar_of line c v && is_none mission) (sym here)
        ∙ sym (ap (λ o. is_registrar_of line c u && is_none o) (put_here k.mission t u mission here)))
        (λ apart. new.rights u apart ∙ h.right u
        ∙ sym (ap (λ o. is_registrar_of line c u && is_none o) (put_other k.mission t u mission apart)));
    at_registrar = λ u away. by_same u t
        (λ here. put_here k.mission t u mission here ∙ new.at_registrar (ap (is_registrar_of line c) (sym here) ∙ away))
        (λ apart. put_other k.mission t u mission apart ∙ h.at_registrar u away);
    mission = λ u m at. by_same u t
        (λ here. new.local m (sym (put_here k.mission t u mission here) ∙ at))
        (λ apart. h.mission u m (sym (put_other k.mission t u mission apart) ∙ at));
    no_wait = h.no_wait;
    not_asked = h.not_asked;
    no_route_ask = h.no_route_ask;
    not_expected = h.not_expected;
    none_sent = h.none_sent;
  }
