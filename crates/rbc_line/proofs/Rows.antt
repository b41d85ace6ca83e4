-- Lists in memory, and their line.
use Rattle.std.proofs.Common.{◌&&◌, ◌*◌, ◌+◌, ◌<◌, ◌==◌, ◌∙◌, ◌≡◌, ◌≤◌, ◌⊎◌, ap, arith, Bool, drop, false, get_or}
use Rattle.std.proofs.Common.{IfSome, inl, inr, length, List, map, None, not, Option, option_map, refl, Some, subst}
use Rattle.std.proofs.Common.{sym, take, true, ℕ}
use Rattle.std.proofs.lemmas.Bool.Decides.{nat_tests}
use Rattle.std.proofs.lemmas.List.{length-take}
use Rattle.std.proofs.lemmas.List.Elements.{All-take}
use Rattle.std.proofs.lemmas.Option.{get_or_from_slice_get, slice_get-map, slice_get_within}
use Rattle.std.specs.List.{All, slice_get}
use Rattle.rbc_line.proofs.Lists.{find-position_none, find-position_some, find-zip_none, sum_by-filter_le}
use Rattle.rbc_line.proofs.TableSteps.{key_at}
use Rattle.rbc_line.specs.declared.parts.Section.{Section as SectionRow}
use Rattle.rbc_line.specs.declared.parts.Train.{Train as TrainRow}
use Rattle.rbc_line.specs.Tables.{HasStarts}
use Rattle.rbc_line.specs.Views.{listed_train, section_of, train_of}
use Rattle.rbc_spec.specs.Line.{IsLine, Line, next_centre, registrar, Section, section, section_of_group, start, Train}
use Rattle.rbc_spec.specs.Line.{train_number}

at_index : {X : Type 0} (P : X → Type 0) (xs : List X) (i : ℕ) (x : X) → All P xs → slice_get xs i ≡ Some x → P x
at_index P xs i x holds found =
    let same : get_or xs i x ≡ x = get_or_from_slice_get xs i x x found in
    subst P same (holds i x (slice_get_within xs i x found))

-- the ranges of every section of a line
abbrev pub InRange : Line → Section → Type 0
InRange line p = (p.track < length line.tracks) × (100 ≤ p.metres) × (p.metres ≤ 2000) × (p.home < length line.centres)
    × (p.balise ≤ 16382)

pub section-in_range : (line : Line) (s : ℕ) (p : Section) → IsLine line → section line s ≡ Some p → InRange line p
section-in_range line s p rules found = at_index (InRange line) line.sections s p rules.ranges.sections found

-- the start of a section is at most 2 000 metres for each section before it
start-le : (line : Line) (s : ℕ) (p : Section) → IsLine line → section line s ≡ Some p
    → start line s ≤ 2000 * length (take s line.sections)
unfolding start
start-le line s p rules found =
    let small : (i : ℕ) (q : Section) → slice_get (take s line.sections) i ≡ Some q → q.metres ≤ 2000 =
    λ i q h.
    (at_index (InRange line) (take s line.sections) i q
    (All-take (InRange line) s line.sections rules.ranges.sections) h).2 in
    rw found (sum_by-filter_le (λ q. q.metres) (λ q. q.track == p.track) (take s line.sections) small)

section_ends : (line : Line) (s : ℕ) (p : Section) → IsLine line → section line s ≡ Some p
    → start line s + p.metres ≤ 1024000
section_ends line s p rules found =
    let before = start-le line s p rules found in
    let within : s < length line.sections = slice_get_within line.sections s p found in
    let own = section-in_range line s p rules found in
    omega (arith, length-take s line.sections, own.2, rules.limits.sections)

-- a section in memory ends within 1 024 kilometres
pub row_ends : (line : Line) (rows : List SectionRow) (s : ℕ) (o : Option SectionRow) → IsLine line
    → line.sections ≡ map section_of rows → HasStarts line rows → o ≡ slice_get rows s
    → IfSome o (λ row. row.start + row.metres ≤ 1024000)
row_ends line rows s None rules same starts found = tt
row_ends line rows s (Some row) rules same starts found =
    let is_section : section line s ≡ Some (section_of row) =
    rw same (slice_get-map section_of rows s ∙ ap (option_map section_of) (sym found)) in
    rw (starts s row (sym found)) (section_ends line s (section_of row) rules is_section)

fails_by : (joint on_track of_home other : Bool) → (on_track ≡ false) ⊎ (of_home ≡ false)
    → (((joint && on_track) && of_home) && other) ≡ false
fails_by false on_track of_home other h = refl
fails_by true false of_home other h = refl
fails_by true true false other h = refl
fails_by true true true other (inl h) = cc
fails_by true true true other (inr h) = cc

-- a number that is of no centre, or of no track, has no centre that follows
pub next_centre-none : (line : Line) (c k : ℕ) → IsLine line → (length line.centres ≤ c) ⊎ (length line.tracks ≤ k)
    → None ≡ next_centre line c k
next_centre-none line c k rules past =
    let fails : (i : ℕ) (x y : Section) → slice_get line.sections i ≡ Some x
    → ((((x.track == y.track) && (x.track == k)) && (x.home == c)) && not (y.home == c)) ≡ false =
    λ i x y h.
    let own = section-in_range line i x rules h in
    fails_by (x.track == y.track) (x.track == k) (x.home == c) (not (y.home == c))
    (elim past [
      | inl beyond ↦ inr (let lt : x.home < length line.centres = own.3 in grind (arith, nat_tests))
      | inr beyond ↦ inl (let lt : x.track < length line.tracks = own.0 in grind (arith, nat_tests))
    ]) in
    sym (ap (option_map (λ seam. seam.1.home)) (find-zip_none _ line.sections (drop 1 line.sections) fails))

abbrev row_of : Train → TrainRow
row_of p = record { nid_engine = p.nid_engine; registrar = p.registrar }

registrar_of : (o : Option Train)
    → option_map (λ (row : TrainRow). row.registrar) (option_map row_of o) ≡ option_map (λ p. p.registrar) o
registrar_of None = refl
registrar_of (Some p) = refl

-- the train at the engine's place has its registrar
pub registrar-at : (line : Line) (t i : ℕ) → Some i ≡ train_number line t
    → option_map (λ row. row.registrar) (listed_train line i) ≡ registrar line t
registrar-at line t i placed =
    registrar_of (slice_get line.trains i)
    ∙ sym (ap (option_map (λ p. p.registrar)) (find-position_some (λ p. p.nid_engine == t) line.trains i (sym placed)))

pub registrar-none : (line : Line) (t : ℕ) → None ≡ train_number line t → None ≡ registrar line t
registrar-none line t none =
    sym (ap (option_map (λ p. p.registrar)) (find-position_none (λ p. p.nid_engine == t) line.trains (sym none)))

-- the item with the engine is the train's position
pub train_number-at : (line : Line) (rows : List TrainRow) (i t : ℕ) (row : TrainRow) → IsLine line
    → line.trains ≡ map train_of rows → slice_get rows i ≡ Some row → row.nid_engine ≡ t → Some i ≡ train_number line t
train_number-at line rows i t row rules same at engine =
    let is_train : slice_get line.trains i ≡ Some (train_of row) =
    rw same (slice_get-map train_of rows i ∙ ap (option_map train_of) at) in
    sym (key_at (λ p. p.nid_engine) line.trains i (train_of row) t rules.distinct.engines is_train engine)

-- the item with the balise group is its section
pub section_of_group-at : (line : Line) (rows : List SectionRow) (s q : ℕ) (row : SectionRow) → IsLine line
    → line.sections ≡ map section_of rows → slice_get rows s ≡ Some row → line.nid_c * 16384 + row.balise ≡ q
    → Some s ≡ section_of_group line q
section_of_group-at line rows s q row rules same at group =
    let is_section : slice_get line.sections s ≡ Some (section_of row) =
    rw same (slice_get-map section_of rows s ∙ ap (option_map section_of) at) in
    sym (key_at (λ p. line.nid_c * 16384 + p.balise) line.sections s (section_of row) q
    (λ i j x y a b e. rules.distinct.balises i j x y a b (omega (arith, e))) is_section group)
