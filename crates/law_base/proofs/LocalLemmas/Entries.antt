-- Entries of the book as sections are taken and given back.
use Rattle.std.proofs.Common.{◌&&◌, ◌||◌, ◌∙◌, ◌≡◌, ap, Bool, eq-eqb, eqb-true, false, if◌then◌else◌, not, refl, sym}
use Rattle.std.proofs.Common.{true, ℕ}
use Rattle.std.proofs.lemmas.Bool.{both_ways, false_from_ne_true, ne_eqb, or_right}
use Rattle.rbc_spec.specs.Centre.{Entry, is_open, is_out_for, is_taken_for, is_unused, Open, Out, Shut, Taken}

-- the entry after a return: open, or shut if it is wished back
abbrev pub given : Bool → Bool → Entry → Entry
given back wish e = if back then (if wish then Shut else Open) else e

pub taken_given : (u : ℕ) (back wish : Bool) (e : Entry)
    → is_taken_for u (given back wish e) ≡ (not back && is_taken_for u e)
taken_given u true true e = refl
taken_given u true false e = refl
taken_given u false wish e = refl

pub out_given : (u : ℕ) (back wish : Bool) (e : Entry) → is_out_for u (given back wish e) ≡ (not back && is_out_for u e)
out_given u true true e = refl
out_given u true false e = refl
out_given u false wish e = refl

-- an entry is taken for at most one train
pub taken_once : (t u : ℕ) (e : Entry) → is_taken_for t e ≡ true → is_taken_for u e ≡ true → u ≡ t
taken_once t u Shut one two = cc
taken_once t u Open one two = cc
taken_once t u (Taken v) one two = sym (eqb-true v u two) ∙ eqb-true v t one
taken_once t u (Out v) one two = cc

pub taken_for_one : (t u : ℕ) (e : Entry) → (u ≡ t → ⊥) → is_taken_for t e ≡ true → is_taken_for u e ≡ false
taken_for_one t u e apart one = false_from_ne_true (is_taken_for u e) (λ two. apart (taken_once t u e one two))

-- the sections given back leave the rest of the hand
pub hand_given : (within home taken hand : Bool) → taken ≡ hand → (home ≡ false → taken ≡ false)
    → (not ((within && home) && taken) && taken) ≡ (hand && not within)
hand_given true true true hand e away = ap (λ b. b && false) e
hand_given true true false hand e away = ap (λ b. b && false) e
hand_given true false true hand e away = absurd (both_ways true (away refl) refl)
hand_given true false false hand e away = ap (λ b. b && false) e
hand_given false true true hand e away = ap (λ b. b && true) e
hand_given false true false hand e away = ap (λ b. b && true) e
hand_given false false true hand e away = absurd (both_ways true (away refl) refl)
hand_given false false false hand e away = ap (λ b. b && true) e

-- sections that are given back change nothing for other trains
pub others_given : (there mine other : Bool) → (mine ≡ true → other ≡ false) → (not (there && mine) && other) ≡ other
others_given true true other apart = sym (apart refl)
others_given true false other apart = refl
others_given false mine other apart = refl

-- the entry of an open section, taken for t
abbrev pub booked_for : ℕ → Bool → Entry → Entry
booked_for t there e = if there then Taken t else e

pub open_taken : (u : ℕ) (e : Entry) → is_open e ≡ true → is_taken_for u e ≡ false
open_taken u Shut free = refl
open_taken u Open free = refl
open_taken u (Taken v) free = cc
open_taken u (Out v) free = refl

pub taken_here : (t : ℕ) (there hand : Bool) (e : Entry) → is_taken_for t e ≡ hand → (there ≡ true → is_open e ≡ true)
    → is_taken_for t (booked_for t there e) ≡ (hand || there)
taken_here t true hand e is is_free = eq-eqb t t refl ∙ sym (or_right hand true refl)
taken_here t false hand e is is_free = is ∙ or_none hand
  where
    or_none : (b : Bool) → b ≡ (b || false)
    or_none true = refl
    or_none false = refl

pub taken_elsewhere : (t u : ℕ) (there : Bool) (e : Entry) → (u ≡ t → ⊥) → (there ≡ true → is_open e ≡ true)
    → is_taken_for u (booked_for t there e) ≡ is_taken_for u e
taken_elsewhere t u true e apart is_free = ne_eqb t u (λ same. apart (sym same)) ∙ sym (open_taken u e (is_free refl))
taken_elsewhere t u false e apart is_free = refl

pub out_booked : (t u : ℕ) (there : Bool) (e : Entry) → is_out_for u e ≡ false
    → is_out_for u (booked_for t there e) ≡ false
out_booked t u true e is = refl
out_booked t u false e is = is

pub unused_booked : (t : ℕ) (there wish : Bool) (e : Entry) → (is_unused e ≡ true → wish ≡ false)
    → is_unused (booked_for t there e) ≡ true → wish ≡ false
unused_booked t true wish e is unused = cc
unused_booked t false wish e is unused = is unused

-- an unused entry is taken for none and is not out
pub unused_taken : (u : ℕ) (e : Entry) → is_unused e ≡ true → is_taken_for u e ≡ false
unused_taken u Shut unused = refl
unused_taken u Open unused = refl
unused_taken u (Taken v) unused = cc
unused_taken u (Out v) unused = refl

pub unused_out : (u : ℕ) (e : Entry) → is_unused e ≡ true → is_out_for u e ≡ false
unused_out u Shut unused = refl
unused_out u Open unused = refl
unused_out u (Taken v) unused = refl
unused_out u (Out v) unused = cc
