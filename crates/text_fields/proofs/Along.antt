-- A walk along the entries of a table.
use Rattle.std.proofs.Common.{◌≡◌, ◌∙◌, sym, ap, refl, subst, ℕ, zero, suc, ◌≤◌, Bool, true, List, [], ◌∷◌, ◌++◌, ◌+◌}
use Rattle.std.proofs.Common.{◌<◌, length, drop, get_or, drop-cons, append_assoc, append-nil, arith}
use denote.Ref.{Bor}
use Rattle.rbc_packets.proofs.Again.{joined-nil}
use Rattle.text_fields.specs.Named.{Named, all_named}
use Rattle.text_fields.specs.Walks.{Next, Shows, Takes, AreRows, last_of, after}
use Rattle.text_fields.specs.declared.kind.Kind.{Kind}
use Rattle.text_fields.specs.declared.kind.Kind.TheVariants.{Number}
use Rattle.text_fields.specs.declared.shown.Shown.{Shown}
use Rattle.text_fields.proofs.Steps.{first, second}

-- the fields of these entries are ahead, in a walk that began with all fields
pub record Along (rows : List (Bor (List ℕ) × ℕ × Kind)) (fields : List Named) (rest : List Bool)
    (began : List Shown × List Bool) (end_then last_then : ℕ) (look : List Shown
    × List Bool) (end last : ℕ) : Type 0 where
  pub ahead : List Named
  pub are_rows : AreRows rows ahead
  pub next : Next ahead rest look end
  pub shown : all_named look.0 ++ ahead ≡ all_named began.0 ++ fields
  pub end_is : end ≡ end_then
  pub last_is : last_of last ahead ≡ last_of last_then fields

pub begins : (rows : List (Bor (List ℕ) × ℕ × Kind)) (fields : List Named) (rest : List Bool) (look : List Shown
    × List Bool) (end last : ℕ)
    → AreRows rows fields → Next fields rest look end → Along rows fields rest look end last look end last
begins rows fields rest look end last are n =
    record { ahead = fields; are_rows = are; next = n; shown = refl; end_is = refl; last_is = refl }

goes_on : (row : Bor (List ℕ) × ℕ × Kind) (rows : List (Bor (List ℕ) × ℕ
    × Kind)) (fields : List Named) (rest : List Bool)
    (began : List Shown × List Bool) (end_then last_then : ℕ) (look new : List Shown
    × List Bool) (end new_end last new_last : ℕ) (there : Bool)
    (ahead : List Named) → AreRows (row ∷ rows) ahead → Next ahead rest look end
    → all_named look.0 ++ ahead ≡ all_named began.0 ++ fields
    → end ≡ end_then → last_of last ahead ≡ last_of last_then fields
    → ((v : ℕ) → Takes (record { name = row.0.now; field = (row.1, v) } ∷ []) look end new new_end there)
    → ((v : ℕ) (others : List Bool) → Next (record { name = row.0.now; field = (row.1, v) } ∷ []) others look end
    → new_last ≡ v)
    → (there ≡ true) × Along rows fields rest began end_then last_then new new_end new_last
goes_on row rows fields rest began end_then last_then look new end new_end last new_last there [] are n shown e l
    take value = absurd are
goes_on row rows fields rest began end_then last_then look new end new_end last new_last there (f ∷ ahead) are n
    shown e l take value =
    let one : record { name = row.0.now; field = (row.1, f.field.1) } ≡ f
    = ap (λ (w : ℕ). record { name = row.0.now; field = (w, f.field.1) }) (sym are.1)
    ∙ ap (λ (name : List ℕ). record { name = name; field = f.field }) (sym are.0) in
    let whole : Next (record { name = row.0.now; field = (row.1, f.field.1) } ∷ ahead) rest look end
    = subst (λ (g : Named). Next (g ∷ ahead) rest look end) (sym one) n in
    let its = first (record { name = row.0.now; field = (row.1, f.field.1) } ∷ []) ahead rest look end whole in
    let s = take f.field.1 (after ahead rest) its in (
      s.0,
      record {
        ahead = ahead;
        are_rows = are.2;
        next = second (record {
          name = row.0.now;
          field = (
            row.1,
            f.field.1,
          );
        } ∷ []) ahead rest look new end new_end whole s.1
            (omega (arith, s.2, n.within));
        shown = ap (λ list. list ++ ahead) s.1.shown
            ∙ (append_assoc (all_named look.0) (record { name = row.0.now; field = (row.1, f.field.1) } ∷ []) ahead
            ∙ (ap (λ (g : Named). all_named look.0 ++ (g ∷ ahead)) one ∙ shown));
        end_is = s.2 ∙ e;
        last_is = ap (λ v. last_of v ahead) (value f.field.1 (after ahead rest) its) ∙ l;
      },
    )

-- one more entry
pub along : (row : Bor (List ℕ) × ℕ × Kind) (rows : List (Bor (List ℕ) × ℕ
    × Kind)) (fields : List Named) (rest : List Bool)
    (began : List Shown × List Bool) (end_then last_then : ℕ) (look new : List Shown
    × List Bool) (end new_end last new_last : ℕ) (there : Bool)
    → Along (row ∷ rows) fields rest began end_then last_then look end last
    → ((v : ℕ) → Takes (record { name = row.0.now; field = (row.1, v) } ∷ []) look end new new_end there)
    → ((v : ℕ) (others : List Bool) → Next (record { name = row.0.now; field = (row.1, v) } ∷ []) others look end
    → new_last ≡ v)
    → (there ≡ true) × Along rows fields rest began end_then last_then new new_end new_last
along row rows fields rest began end_then last_then look new end new_end last new_last there a take value =
    goes_on row rows fields rest began end_then last_then look new end new_end last new_last there a.ahead a.are_rows
    a.next a.shown a.end_is a.last_is take value

no_more : (ahead : List Named) → AreRows [] ahead → ahead ≡ []
no_more [] h = refl
no_more (f ∷ ahead) h = absurd h

abbrev pub no_row : Bor (List ℕ) × ℕ × Kind
no_row = (record { ref_ptr = (0, 0); now = [] }, 0, Number)

-- the entry at a place, and those after it
pub cut : (rows : List (Bor (List ℕ) × ℕ × Kind)) (i : ℕ) → i < length rows
    → drop i rows ≡ get_or rows i no_row ∷ drop (i + 1) rows
cut rows i h =
    let next : suc i ≡ i + 1 = omega arith in
    drop-cons rows i no_row h ∙ ap (λ (k : ℕ). get_or rows i no_row ∷ drop k rows) next

pub drop_all : {X : Type 0} (xs : List X) (i : ℕ) → length xs ≤ i → drop i xs ≡ []
drop_all [] zero h = refl
drop_all [] (suc i) h = refl
drop_all (x ∷ xs) zero h = absurd (omega (arith, h))
drop_all (x ∷ xs) (suc i) h = drop_all xs i (omega (arith, h))

-- at the end all fields are shown
pub all_shown : (fields : List Named) (rest : List Bool) (began : List Shown
    × List Bool) (end_then last_then : ℕ) (look : List Shown × List Bool) (end last : ℕ)
    → Along [] fields rest began end_then last_then look end last
    → Shows fields rest began look × (end ≡ end_then) × (last ≡ last_of last_then fields)
all_shown fields rest began end_then last_then look end last a =
    let e = no_more a.ahead a.are_rows in (
      record {
        shown = sym (append-nil (all_named look.0)) ∙ (ap (λ list. all_named look.0 ++ list) (sym e) ∙ a.shown);
        left = a.next.bits ∙ (ap (λ list. after list rest) e ∙ ap (λ bits. bits ++ rest) joined-nil);
      },
      a.end_is,
      ap (λ list. last_of last list) (sym e) ∙ a.last_is,
    )
