-- A field, and a second one that is there only for some of its values.
use Rattle.std.proofs.Common.{◌≡◌, ◌⊎◌, inl, inr, ◌∙◌, sym, refl, subst, ap, ℕ, Bool, true, false, List, [], ◌∷◌}
use Rattle.std.proofs.Common.{arith}
use Rattle.std.specs.Prelude.{codes}
use Rattle.rbc_packets.specs.declared.train_length.TrainLength.{TrainLength}
use Rattle.rbc_packets.specs.declared.train_length.TrainLength.TheVariants as train_length
use Rattle.rbc_packets.specs.declared.level.Level.{Level}
use Rattle.rbc_packets.specs.declared.level.Level.TheVariants as level
use Rattle.text_fields.specs.Named.{Named}
use Rattle.text_fields.specs.Messages.{length_shown, level_shown}
use Rattle.text_fields.specs.Walks.{Next, Takes, after}
use Rattle.text_fields.specs.declared.shown.Shown.{Shown}
use Rattle.text_fields.proofs.Steps.{first, takes_both, not_taken}

abbrev pub m_level : ℕ → Named
m_level v = record { name = codes "M_LEVEL"; field = (3, v) }

abbrev pub nid_ntc : ℕ → Named
nid_ntc v = record { name = codes "NID_NTC"; field = (8, v) }

abbrev pub q_length : ℕ → Named
q_length v = record { name = codes "Q_LENGTH"; field = (2, v) }

abbrev pub l_trainint : ℕ → Named
l_trainint v = record { name = codes "L_TRAININT"; field = (15, v) }

-- a first field of this value, and the others
pub record Split (one other : ℕ → Named) (IsTwo : ℕ → Type 0) (fields : List Named) : Type 0 where
  pub value : ℕ
  pub others : List Named
  pub is : fields ≡ one value ∷ others
  pub two : IsTwo value → (k : ℕ) × (others ≡ other k ∷ [])
  pub alone : (IsTwo value → ⊥) → others ≡ []

pub level_split : (l : Level) → Split m_level nid_ntc (λ v. v ≡ 1) (level_shown l)
level_split level.Level0 = record {
  value = 0;
  others = [];
  is = refl;
  two = λ e. absurd (omega (
    arith,
    e,
  ));
  alone = λ e. refl;
}
level_split (level.Ntc n) = record {
  value = 1;
  others = nid_ntc n ∷ [];
  is = refl;
  two = λ e. (
    n,
    refl,
  );
  alone = λ e. absurd (e refl);
}
level_split level.Level1 = record {
  value = 2;
  others = [];
  is = refl;
  two = λ e. absurd (omega (
    arith,
    e,
  ));
  alone = λ e. refl;
}
level_split level.Level2 = record {
  value = 3;
  others = [];
  is = refl;
  two = λ e. absurd (omega (
    arith,
    e,
  ));
  alone = λ e. refl;
}
level_split level.Level3 = record {
  value = 4;
  others = [];
  is = refl;
  two = λ e. absurd (omega (
    arith,
    e,
  ));
  alone = λ e. refl;
}
level_split level.Spare5 = record {
  value = 5;
  others = [];
  is = refl;
  two = λ e. absurd (omega (
    arith,
    e,
  ));
  alone = λ e. refl;
}
level_split level.Spare6 = record {
  value = 6;
  others = [];
  is = refl;
  two = λ e. absurd (omega (
    arith,
    e,
  ));
  alone = λ e. refl;
}
level_split level.Spare7 = record {
  value = 7;
  others = [];
  is = refl;
  two = λ e. absurd (omega (
    arith,
    e,
  ));
  alone = λ e. refl;
}

pub length_split : (t : TrainLength) → Split q_length l_trainint (λ v. (v ≡ 1) ⊎ (v ≡ 2)) (length_shown t)
length_split train_length.NoInformation = record {
  value = 0;
  others = [];
  is = refl;
  two = λ e. absurd
      (omega (arith, e));
  alone = λ e. refl;
}
length_split (train_length.ConfirmedByDevice n) = record {
  value = 1;
  others = l_trainint n ∷ [];
  is = refl;
  two = λ
      e. (n, refl);
  alone = λ e. absurd (e (inl refl));
}
length_split (train_length.ConfirmedByDriver n) = record {
  value = 2;
  others = l_trainint n ∷ [];
  is = refl;
  two = λ
      e. (n, refl);
  alone = λ e. absurd (e (inr refl));
}
length_split train_length.Lost = record {
  value = 3;
  others = [];
  is = refl;
  two = λ e. absurd (omega (
    arith,
    e,
  ));
  alone = λ e. refl;
}

-- the first field is not there
pub no_first : (one other : ℕ → Named) (IsTwo : ℕ → Type 0) (fields : List Named) (x y z : List Shown
    × List Bool) (end mid last : ℕ) (there : Bool)
    → Split one other IsTwo fields → ((v : ℕ) → Takes (one v ∷ []) x end y mid there) → there ≡ false
    → Takes fields x end z last false
no_first one other IsTwo fields x y z end mid last there s take e =
    subst (λ (list : List Named). Takes list x end z last false) (sym s.is)
    (not_taken (one s.value ∷ []) s.others x y z end mid last
    (subst (λ (b : Bool). Takes (one s.value ∷ []) x end y mid b) e (take s.value)))

-- both fields are
pub has_two : (one other : ℕ → Named) (IsTwo : ℕ → Type 0) (fields : List Named) (x y z : List Shown
    × List Bool) (end mid last value : ℕ) (there second : Bool)
    → Split one other IsTwo fields → ((v : ℕ) → Takes (one v ∷ []) x end y mid there) → there ≡ true
    → ((v : ℕ) (rest : List Bool) → Next (one v ∷ []) rest x end → value ≡ v) → IsTwo value
    → ((v : ℕ) → Takes (other v ∷ []) y mid z last second) → Takes fields x end z last second
has_two one other IsTwo fields x y z end mid last value there second s take e is two more rest n =
    let whole : Next (one s.value ∷ s.others) rest x end = subst (λ (list : List Named). Next list rest x end) s.is n in
    let same = is s.value (after s.others rest) (first (one s.value ∷ []) s.others rest x end whole) in
    let pair = s.two (subst IsTwo same two) in
    subst (λ (list : List Named). Takes list x end z last second) (sym s.is)
    (takes_both (one s.value ∷ []) s.others x y z end mid last second
    (subst (λ (b : Bool). Takes (one s.value ∷ []) x end y mid b) e (take s.value))
    (subst (λ (list : List Named). Takes list y mid z last second) (sym pair.1) (more pair.0)))
    rest n

-- the second field is left out
pub has_one : (one other : ℕ → Named) (IsTwo : ℕ → Type 0) (fields : List Named) (x y : List Shown
    × List Bool) (end mid value : ℕ) (there : Bool)
    → Split one other IsTwo fields → ((v : ℕ) → Takes (one v ∷ []) x end y mid there) → there ≡ true
    → ((v : ℕ) (rest : List Bool) → Next (one v ∷ []) rest x end → value ≡ v) → (IsTwo value → ⊥)
    → Takes fields x end y mid true
has_one one other IsTwo fields x y end mid value there s take e is not_two rest n =
    let whole : Next (one s.value ∷ s.others) rest x end = subst (λ (list : List Named). Next list rest x end) s.is n in
    let same = is s.value (after s.others rest) (first (one s.value ∷ []) s.others rest x end whole) in
    let others = s.alone (λ two. not_two (subst IsTwo (sym same) two)) in
    subst (λ (list : List Named). Takes list x end y mid true) (sym (s.is
    ∙ ap (λ (list : List Named). one s.value ∷ list) others))
    (subst (λ (b : Bool). Takes (one s.value ∷ []) x end y mid b) e (take s.value)) rest n
