-- The quiet steps that give or free a section, and wrong ones beside them.
use Rattle.rbc_spec.specs.Line.{is_centre, is_home, Line}
use Rattle.rbc_spec.specs.LineCentre.{free, Given, is_waiting, is_waiting_at, Kept, line_beginning, LineState, mark_all}
use Rattle.rbc_spec.specs.LineCentre.{Open, Said, told}
use Rattle.rbc_spec.specs.Maps.{put}
use Rattle.rbc_spec.specs.OwnSteps.{SaysNothing, Tells}
use Rattle.rbc_spec.specs.Quiet.{Keep, Quiet, TakesQuiet, Unkeep}
use Rattle.std.specs.Prelude.{◌==◌, ◌≡◌, false, true, ℕ}

-- The sections of each waiting start are kept for its train. It waits at their home, which is a centre of the line.
pub record StartsAreKept (line : Line) (v : LineState) : Type 0 where
  pub kept : (t c s : ℕ) → is_waiting_at line v t c s ≡ true → v.mark s ≡ Kept t
  pub home : (t c s : ℕ) → is_waiting_at line v t c s ≡ true → is_home line c s ≡ true
  pub centre : (t c s : ℕ) → is_waiting_at line v t c s ≡ true → is_centre line c ≡ true

-- ## Wrong steps

-- as `TakesQuiet`, but `Keep` gives the open section to the train at once
abbrev pub GivesAtOnce : Line → LineState → Quiet → Said → LineState → Type 0
GivesAtOnce line v (Keep t s) said new =
    (v.mark s ≡ Open) × SaysNothing (record v { mark = put v.mark s (Given t) }) said new
GivesAtOnce line v q said new = TakesQuiet line v q said new

-- as `TakesQuiet`, but `Unkeep` frees each section that no start waits for
abbrev pub FreesAny : Line → LineState → Quiet → Said → LineState → Type 0
FreesAny line v (Unkeep t s) said new =
    (is_waiting line v t s ≡ false) × Tells (told line (λ e. e == s) v) (free (λ e. e == s) v) said new
FreesAny line v q said new = TakesQuiet line v q said new

-- ## States

-- only section 1 is open; it is given to train 1; it is freed
abbrev pub one_open : LineState
one_open = mark_all (λ s. s == 1) Open line_beginning

abbrev pub one_given : LineState
one_given = record one_open { mark = put one_open.mark 1 (Given 1) }

abbrev pub one_freed : LineState
one_freed = free (λ s. s == 1) one_given
