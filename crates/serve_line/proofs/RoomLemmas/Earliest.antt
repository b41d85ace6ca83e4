-- The earliest of the slots that were looked at.
use Rattle.std.proofs.Common.{◌+◌, ◌<◌, ◌≡◌, ◌≤◌, All, arith, Bool, false, get_or, if◌then◌else◌, leb-false, leb-true}
use Rattle.std.proofs.Common.{length, List, nat_le, None, Option, refl, slice_get, Some, subst, sym, take, true, ℕ}
use Rattle.std.proofs.lemmas.List.Elements.{All-more, All-weaker}
use Rattle.std.proofs.lemmas.Option.{slice_get-get_or}
use Rattle.serve_line.specs.declared.state.room.SlotState.{SlotState}
use Rattle.serve_line.specs.Rooms.{earlier, found_after, IsEarliest, may_leave}

-- this slot may not have to leave
abbrev pub Stays : SlotState → Type 0
Stays slot = may_leave slot ≡ false

-- if this slot may have to leave, it was not active before that time
abbrev pub IsLater : ℕ → SlotState → Type 0
IsLater heard other = may_leave other ≡ true → heard ≤ other.heard

-- the slot with its time is the earliest of those that were looked at
pub record IsEarliestOf (slots seen : List SlotState) (p heard : ℕ) : Type 0 where
  pub slot : SlotState
  pub there : slice_get slots p ≡ Some slot
  pub leaves : may_leave slot ≡ true
  pub time : slot.heard ≡ heard
  pub first : All (IsLater heard) seen

abbrev pub Finds : List SlotState → List SlotState → Option (ℕ × ℕ) → Type 0
Finds slots seen None = All Stays seen
Finds slots seen (Some found) = IsEarliestOf slots seen found.0 found.1

-- the next slot does not have to leave
finds_on :
    (slots : List SlotState) (i : ℕ) (d : SlotState) (found : Option (ℕ × ℕ))
    → i < length slots → may_leave (get_or slots i d) ≡ false → Finds slots (take i slots) found
    → Finds slots (take (i + 1) slots) found
finds_on slots i d None low stays before = All-more Stays slots i d low before stays
finds_on slots i d (Some found) low stays before = record {
  slot = before.slot;
  there = before.there;
  leaves = before.leaves;
  time = before.time;
  first = All-more (IsLater found.1) slots i d low before.first
      (λ (leaves : may_leave (get_or slots i d) ≡ true). absurd (cc));
}

-- the next slot is the earliest
first_at :
    (slots : List SlotState) (i : ℕ) (d : SlotState)
    → i < length slots → may_leave (get_or slots i d) ≡ true → All (IsLater (get_or slots i d).heard) (take i slots)
    → IsEarliestOf slots (take (i + 1) slots) i (get_or slots i d).heard
first_at slots i d low leaves before = record {
  slot = get_or slots i d;
  there = slice_get-get_or slots i d low;
  leaves = leaves;
  time = refl;
  first = All-more (IsLater (get_or slots i d).heard) slots i d low before
      (λ (leaves : may_leave (get_or slots i d) ≡ true). (omega arith));
}

picked :
    (slots : List SlotState) (i : ℕ) (d : SlotState) (found : ℕ × ℕ) (b : Bool)
    → i < length slots → may_leave (get_or slots i d) ≡ true → IsEarliestOf slots (take i slots) found.0 found.1
    → nat_le found.1 (get_or slots i d).heard ≡ b
    → Finds slots (take (i + 1) slots) (if b then Some found else Some (i, (get_or slots i d).heard))
picked slots i d found true low leaves before le = record {
  slot = before.slot;
  there = before.there;
  leaves = before.leaves;
  time = before.time;
  first = All-more (IsLater found.1) slots i d low before.first
      (λ (leaves : may_leave (get_or slots i d) ≡ true). leb-true found.1 (get_or slots i d).heard le);
}
picked slots i d found false low leaves before le =
    let less : (get_or slots i d).heard < found.1 = leb-false found.1 (get_or slots i d).heard le in
    first_at slots i d low leaves
    (All-weaker (IsLater found.1) (IsLater (get_or slots i d).heard)
    (λ (x : SlotState) (later : IsLater found.1 x) (leaves : may_leave x ≡ true).
    let h : found.1 ≤ x.heard = later leaves in omega arith)
    (take i slots) before.first)

-- the next slot may have to leave
finds_next :
    (slots : List SlotState) (i : ℕ) (d : SlotState) (found : Option (ℕ × ℕ))
    → i < length slots → may_leave (get_or slots i d) ≡ true → Finds slots (take i slots) found
    → Finds slots (take (i + 1) slots) (earlier found i (get_or slots i d).heard)
finds_next slots i d None low leaves before =
    first_at slots i d low leaves
    (All-weaker Stays (IsLater (get_or slots i d).heard)
    (λ (x : SlotState) (stays : Stays x) (leaves : may_leave x ≡ true). absurd (cc)) (take i slots) before)
finds_next slots i d (Some found) low leaves before =
    picked slots i d found (nat_le found.1 (get_or slots i d).heard) low leaves before refl

finds_by :
    (slots : List SlotState) (i : ℕ) (d : SlotState) (found : Option (ℕ × ℕ)) (b : Bool)
    → i < length slots → may_leave (get_or slots i d) ≡ b → Finds slots (take i slots) found
    → Finds slots (take (i + 1) slots) (if b then earlier found i (get_or slots i d).heard else found)
finds_by slots i d found true low leaves before = finds_next slots i d found low leaves before
finds_by slots i d found false low leaves before = finds_on slots i d found low leaves before

-- the next slot
pub finds_after :
    (slots : List SlotState) (i : ℕ) (d : SlotState) (found : Option (ℕ × ℕ))
    → i < length slots → Finds slots (take i slots) found
    → Finds slots (take (i + 1) slots) (found_after found i (get_or slots i d))
finds_after slots i d found low before = finds_by slots i d found (may_leave (get_or slots i d)) low refl before

earliest_of : (slots : List SlotState) (p heard : ℕ) → IsEarliestOf slots slots p heard → IsEarliest slots p
earliest_of slots p heard is = record {
  slot = is.slot;
  there = is.there;
  leaves = is.leaves;
  first = subst (λ (n : ℕ). All (IsLater n) slots) (sym is.time) is.first;
}

-- the slot that was found when all were looked at
pub found_of :
    (slots : List SlotState) (found : Option (ℕ × ℕ)) (p heard : ℕ) → found ≡ Some (p, heard) → Finds slots slots found
    → IsEarliest slots p
found_of slots found p heard is finds =
    earliest_of slots p heard (subst (λ (o : Option (ℕ × ℕ)). Finds slots slots o) is finds)

-- no slot was found when all were looked at
pub none_of :
    (slots : List SlotState) (found : Option (ℕ × ℕ)) → found ≡ None → Finds slots slots found → All Stays slots
none_of slots found is finds = subst (λ (o : Option (ℕ × ℕ)). Finds slots slots o) is finds
