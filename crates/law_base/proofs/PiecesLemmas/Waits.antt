-- A start that waits keeps its sections, and no quiet step frees a given section.
use Rattle.std.proofs.Common.{[], ◌&&◌, ◌==◌, ◌∙◌, ◌∷◌, ◌≡◌, ap, arith, Bool, eqb-true, false, if◌then◌else◌, inl, inr}
use Rattle.std.proofs.Common.{length, List, ltb-true, None, not, Option, refl, Some, subst, sym, true, ℕ}
use Rattle.std.proofs.lemmas.Bool.Decides.{eqb_tells}
use Rattle.std.specs.Option.{option_map_or}
use Rattle.rbc_spec.proofs.Lists.{any-range, one_home}
use Rattle.rbc_spec.specs.Line.{is_centre, is_home, Line}
use Rattle.rbc_spec.specs.LineCentre.{free, Given, is_waiting, is_waiting_at, Kept, LineState, Mark, Open, Said, says}
use Rattle.rbc_spec.specs.LineCentre.{Shut}
use Rattle.rbc_spec.specs.Maps.{put, put_pair}
use Rattle.rbc_spec.specs.OwnSteps.{begins}
use Rattle.rbc_spec.specs.Place.{covered, Place}
use Rattle.rbc_spec.specs.Quiet.{Admit, Dismiss, EndOrder, Keep, LayDown, Order, Propose, Quiet, TakesAll, TakesQuiet}
use Rattle.rbc_spec.specs.Quiet.{TakeUp, Unkeep}
use Rattle.rbc_spec.specs.SectionRuns.{within}

-- a section that a start of the train waits for at the centre
pub record IsWaited (line : Line) (v : LineState) (t c s : ℕ) : Type 0 where
  pub kept : v.mark s ≡ Kept t
  pub home : is_home line c s ≡ true
  pub centre : is_centre line c ≡ true
  pub waits : is_waiting_at line v t c s ≡ true

pub record WaitsKeep (line : Line) (v : LineState) : Type 0 where
  pub each : (t c : ℕ) (place : Place) (s : ℕ) → v.wait t c ≡ Some place → within (covered line place) s ≡ true
      → IsWaited line v t c s

pub if_not : {X : Type 0} (b : Bool) (x y : X) → (b ≡ true → ⊥) → (if b then x else y) ≡ y
if_not true x y never = absurd (never refl)
if_not false x y never = refl

pub kept_is : (t u : ℕ) → ◌≡◌ {A = Mark} (Kept t) (Kept u) → t ≡ u
kept_is t u h = cc

pub waiting_is : (line : Line) (v : LineState) (t c s : ℕ) → is_waiting_at line v t c s ≡ true → (place : Place)
    × (v.wait t c ≡ Some place) × (within (covered line place) s ≡ true)
waiting_is line v t c s = by_place (v.wait t c)
  where
    by_place : (o : Option Place) → option_map_or (λ place. within (covered line place) s) o false ≡ true
        → (place : Place) × (o ≡ Some place) × (within (covered line place) s ≡ true)
    by_place None h = cc
    by_place (Some place) h = (place, refl, h)

pub waiting_at : (line : Line) (v : LineState) (t c s : ℕ) (place : Place) → v.wait t c ≡ Some place
    → within (covered line place) s ≡ true → is_waiting_at line v t c s ≡ true
waiting_at line v t c s place waits in_place =
    ap (λ (o : Option Place). option_map_or (λ p. within (covered line p) s) o false) waits ∙ in_place

-- the value put at a pair, and the values elsewhere
pub data PutAt {X : Type 0} (f : ℕ → ℕ → X) (j k : ℕ) (value : X) (a b : ℕ) : Type 0 where
  there : a ≡ j → b ≡ k → put_pair f j k value a b ≡ value → PutAt f j k value a b
  elsewhere : (a ≡ j → b ≡ k → ⊥) → put_pair f j k value a b ≡ f a b → PutAt f j k value a b

pub put_at : {X : Type 0} (f : ℕ → ℕ → X) (j k : ℕ) (value : X) (a b : ℕ) → PutAt f j k value a b
put_at f j k value a b = elim (eqb_tells a j) [
  | inr e ↦ elsewhere (λ same other. e.1 same) (rw (e.0) refl)
  | inl e ↦ elim (eqb_tells b k) [
    | inl g ↦ there (e.1) (g.1) (rw (e.0) (rw (g.0) refl))
    | inr g ↦ elsewhere (λ same other. g.1 other) (rw (e.0) (rw (g.0) (ap (λ (x : ℕ). f x b) (sym (e.1)))))
  ]
]

module _ (line : Line) (v : LineState) (keep : WaitsKeep line v) where
  -- starts wait on, and their sections stay as they are
  pub wait_on : (new : LineState) → new.wait ≡ v.wait → ((t c s : ℕ) → IsWaited line v t c s → new.mark s ≡ v.mark s)
      → WaitsKeep line new
  wait_on new same stay = record {
    each = λ t c place s waits in_place.
        let was = keep.each t c place s (sym (ap (λ (f : ℕ → ℕ → Option Place). f t c) same) ∙ waits) in_place in
        record {
          kept = stay t c s was ∙ was.kept;
          home = was.home;
          centre = was.centre;
          waits = waiting_at line new t c s place waits in_place;
        };
  }

  -- a start waits no longer, and only its sections change
  pub wait_ends : (new : LineState) (t c : ℕ) → new.wait ≡ put_pair v.wait t c None
      → ((s : ℕ) → (IsWaited line v t c s → ⊥) → new.mark s ≡ v.mark s) → WaitsKeep line new
  wait_ends new t c same stay =
      record {
        each = λ u d place s waits in_place. by_pair u d place s (put_at v.wait t c None u d)
            (sym (ap (λ (f : ℕ → ℕ → Option Place). f u d) same) ∙ waits) in_place
            (waiting_at line new u d s place waits in_place);
      }
    where
      by_pair : (u d : ℕ) (place : Place) (s : ℕ) → PutAt v.wait t c None u d
          → put_pair v.wait t c None u d ≡ Some place → within (covered line place) s ≡ true
          → is_waiting_at line new u d s ≡ true → IsWaited line new u d s
      by_pair u d place s (there a b is) waits in_place now = let wrong : None ≡ Some place = sym is ∙ waits in cc
      by_pair u d place s (elsewhere apart is) waits in_place now =
          let was = keep.each u d place s (sym is ∙ waits) in_place in
          let other : IsWaited line v t c s
          → ⊥ = λ w. apart (kept_is u t (sym was.kept ∙ w.kept)) (one_home line d c s was.home w.home) in
          record { kept = stay s other ∙ was.kept; home = was.home; centre = was.centre; waits = now }

  pub is_waited : (t c s : ℕ) → is_waiting_at line v t c s ≡ true → IsWaited line v t c s
  is_waited t c s is = let waits = waiting_is line v t c s is in keep.each t c waits.0 s waits.1 waits.2

-- ## Quiet steps

-- an open or a kept section, which nothing is lost with
pub data IsLoose (mark : Mark) : Type 0 where
  opened : mark ≡ Open → IsLoose mark
  kept_for : (t : ℕ) → mark ≡ Kept t → IsLoose mark

loose_not_given : (mark : Mark) (u : ℕ) → IsLoose mark → mark ≡ Given u → ⊥
loose_not_given mark u (opened is) given = let wrong : Open ≡ Given u = sym is ∙ given in cc
loose_not_given mark u (kept_for t is) given = let wrong : Kept t ≡ Given u = sym is ∙ given in cc

loose_not_shut : (mark : Mark) → IsLoose mark → mark ≡ Shut → ⊥
loose_not_shut mark (opened is) shut = let wrong : Open ≡ Shut = sym is ∙ shut in cc
loose_not_shut mark (kept_for t is) shut = let wrong : Kept t ≡ Shut = sym is ∙ shut in cc

-- a given section stays given, one that is shut and not wished back stays so, and starts that wait keep theirs
pub record Leaves (line : Line) (v new : LineState) : Type 0 where
  pub given : (u s : ℕ) → v.mark s ≡ Given u → new.mark s ≡ Given u
  pub shut : (s : ℕ) → v.mark s ≡ Shut → v.wish s ≡ false → (new.mark s ≡ Shut) × (new.wish s ≡ false)
  pub waits : WaitsKeep line new

module _ (line : Line) (v : LineState) (keep : WaitsKeep line v) where
  -- if only open and kept sections change
  pub loose_leaves : (new : LineState) (test : ℕ → Bool) → ((s : ℕ) → (test s ≡ true → ⊥) → new.mark s ≡ v.mark s)
      → ((s : ℕ) → test s ≡ true → IsLoose (v.mark s))
      → ((s : ℕ) → v.wish s ≡ false → new.wish s ≡ false) → WaitsKeep line new → Leaves line v new
  loose_leaves new test stay loose unwished waits = record {
    given = λ u s is. stay s (λ so. loose_not_given (v.mark s) u (loose s so) is) ∙ is;
    shut = λ s is not_wished. (stay s (λ so. loose_not_shut (v.mark s) (loose s so) is) ∙ is, unwished s not_wished);
    waits = waits;
  }

  pub plain_leaves : (new : LineState) → new.mark ≡ v.mark → new.wish ≡ v.wish → new.wait ≡ v.wait → Leaves line v new
  plain_leaves new marks wishes waits = record {
    given = λ u s is. ap (λ (f : ℕ → Mark). f s) marks ∙ is;
    shut = λ s is not_wished. (ap (λ (f : ℕ → Mark). f s) marks ∙ is, ap (λ (f : ℕ → Bool). f s) wishes ∙ not_wished);
    waits = wait_on line v keep new waits (λ t c s waited. ap (λ (f : ℕ → Mark). f s) marks);
  }

  freed_unwished : (b wish : Bool) → wish ≡ false → (b && wish) ≡ false
  freed_unwished true wish is = is
  freed_unwished false wish is = refl

  -- a section that is not the start's own for which it waits
  pub not_waiting_kept : (t s : ℕ) → v.mark s ≡ Kept t → is_waiting line v t s ≡ false → (u d e : ℕ)
      → IsWaited line v u d e → e ≡ s → ⊥
  not_waiting_kept t s kept none u d e waited same =
      let train : u ≡ t = kept_is u t (sym waited.kept ∙ ap v.mark same ∙ kept) in
      let is : is_waiting_at line v t d s ≡ true =
      sym (ap (λ (x : ℕ). is_waiting_at line v x d e) train ∙ ap (is_waiting_at line v t d) same) ∙ waited.waits in
      let low = ltb-true d (length line.centres) waited.centre in
      let wrong : true ≡ false =
      sym (any-range (λ x. is_waiting_at line v t x s) 0 (length line.centres) d (omega arith)
      (omega (arith, low)) is) ∙ none in
      cc

  keep_leaves : (t s : ℕ) → v.mark s ≡ Open → Leaves line v (record v { mark = put v.mark s (Kept t) })
  keep_leaves t s is = loose_leaves (record v { mark = put v.mark s (Kept t) }) (λ e. e == s)
      (λ e other. if_not (e == s) (Kept t) (v.mark e) other) (λ e so. opened (ap v.mark (eqb-true e s so) ∙ is))
      (λ e unwished. unwished)
      (wait_on line v keep (record v { mark = put v.mark s (Kept t) }) refl
      (λ u d e waited. if_not (e == s) (Kept t) (v.mark e) (λ so. let wrong : Kept u ≡ Open = sym waited.kept
      ∙ ap v.mark (eqb-true e s so) ∙ is in cc)))

  unkeep_leaves : (t s : ℕ) → v.mark s ≡ Kept t → is_waiting line v t s ≡ false → Leaves line v (free (λ e. e == s) v)
  unkeep_leaves t s is none = loose_leaves (free (λ e. e == s) v) (λ e. e == s)
      (λ e other. if_not (e == s) (if v.wish e then Shut else Open) (v.mark e) other)
      (λ e so. kept_for t (ap v.mark (eqb-true e s so) ∙ is))
      (λ e unwished. freed_unwished (not (e == s)) (v.wish e) unwished)
      (wait_on line v keep (free (λ e. e == s) v) refl
      (λ u d e waited. if_not (e == s) (if v.wish e then Shut else Open) (v.mark e)
      (λ so. not_waiting_kept t s is none u d e waited (eqb-true e s so))))

  admit_leaves : (t c : ℕ) (place : Place) → v.wait t c ≡ Some place
      → Leaves line v (says t c (record (begins line t c place v) { wait = put_pair v.wait t c None }))
  admit_leaves t c place waits =
      let new : LineState = says t c (record (begins line t c place v) { wait = put_pair v.wait t c None }) in
      loose_leaves new (within (covered line place))
      (λ e other. if_not (within (covered line place) e) (Given t) (v.mark e) other)
      (λ e so. kept_for t (keep.each t c place e waits so).kept) (λ e unwished. unwished)
      (wait_ends line v keep new t c refl (λ e other. if_not (within (covered line place) e) (Given t) (v.mark e)
      (λ so. other (keep.each t c place e waits so))))

  -- a start ends, and the sections for which it waited are freed
  pub end_leaves : (t c : ℕ) (new : LineState) → new.mark ≡ (free (is_waiting_at line v t c) v).mark
      → new.wish ≡ (free (is_waiting_at line v t c) v).wish → new.wait ≡ put_pair v.wait t c None → Leaves line v new
  end_leaves t c new marks wishes waits =
      loose_leaves new (is_waiting_at line v t c) stay (λ e so. kept_for t (is_waited line v keep t c e so).kept)
      (λ e unwished. ap (λ (f : ℕ → Bool). f e) wishes
      ∙ freed_unwished (not (is_waiting_at line v t c e)) (v.wish e) unwished)
      (wait_ends line v keep new t c waits (λ e other. stay e (λ so. other (is_waited line v keep t c e so))))
    where
      stay : (e : ℕ) → (is_waiting_at line v t c e ≡ true → ⊥) → new.mark e ≡ v.mark e
      stay e other = ap (λ (f : ℕ → Mark). f e) marks
          ∙ if_not (is_waiting_at line v t c e) (if v.wish e then Shut else Open) (v.mark e) other

  pub quiet_leaves : (q : Quiet) (said : Said) (new : LineState) → TakesQuiet line v q said new → Leaves line v new
  quiet_leaves (Keep t s) said new h = subst (Leaves line v) (sym h.leaves.new_is) (keep_leaves t s h.is_open)
  quiet_leaves (Unkeep t s) said new h =
      subst (Leaves line v) (sym h.tells.new_is) (unkeep_leaves t s h.is_kept h.not_waiting)
  quiet_leaves (Admit t c) said new h = subst (Leaves line v) (sym h.says.new_is) (admit_leaves t c h.place h.waits)
  quiet_leaves (Dismiss t c) said new h = subst (Leaves line v) (sym h.says.new_is) (end_leaves t c _ refl refl refl)
  quiet_leaves (LayDown t c) said new h = subst (Leaves line v) (sym h.leaves.new_is) (plain_leaves _ refl refl refl)
  quiet_leaves (TakeUp t c) said new h = subst (Leaves line v) (sym h.leaves.new_is) (plain_leaves _ refl refl refl)
  quiet_leaves (Propose t c s) said new h = subst (Leaves line v) (sym h.says.new_is) (plain_leaves _ refl refl refl)
  quiet_leaves (Order t c) said new h = subst (Leaves line v) (sym h.says.new_is) (plain_leaves _ refl refl refl)
  quiet_leaves (EndOrder t c) said new h = subst (Leaves line v) (sym h.says.new_is) (plain_leaves _ refl refl refl)

pub quiets_leave : (line : Line) (v : LineState) → WaitsKeep line v → (qs : List Quiet) (said : Said) (new : LineState)
    → TakesAll line v qs said new → Leaves line v new
quiets_leave line v keep [] said new h = plain_leaves line v keep new (ap (λ (x : LineState). x.mark) h.1)
    (ap (λ (x : LineState). x.wish) h.1) (ap (λ (x : LineState). x.wait) h.1)
quiets_leave line v keep (q ∷ qs) said new (first, others, mid, step, rest, same) =
    let one = quiet_leaves line v keep q first mid step in
    let two = quiets_leave line mid one.waits qs others new rest in
    record {
      given = λ u s is. two.given u s (one.given u s is);
      shut = λ s is unwished. let p = one.shut s is unwished in two.shut s p.0 p.1;
      waits = two.waits;
    }
