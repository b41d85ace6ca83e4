-- A line file to which no fault applies names a line.
use Rattle.std.proofs.Common.{[], ◌&&◌, ◌<◌, ◌==◌, ◌∙◌, ◌∷◌, ◌≡◌, ◌≤◌, ap, arith, Bool, false, inl, inr, IsTrue, leb}
use Rattle.std.proofs.Common.{length, List, map, not, option_map, pos, refl, Some, subst, suc, sym, true, unwrap_or}
use Rattle.std.proofs.Common.{zero, ℕ, ℤ}
use Rattle.std.proofs.lemmas.Bool.{cases_Bool, cases_lt, false≢true}
use Rattle.std.proofs.lemmas.Bool.Decides.{Decides-int_eq, nat_tests}
use Rattle.std.proofs.lemmas.List.{length-map}
use Rattle.std.proofs.lemmas.Option.{none-some, same_Some, slice_get-map, slice_get_within}
use Rattle.std.proofs.lemmas.Slice.Eq.{bytes_eq-Decides}
use Rattle.std.specs.Char.{is_ascii_alphanumeric}
use Rattle.std.specs.List.{All, list_all, list_any, slice_get}
use Rattle.std.specs.Ordering.{int_eq}
use Rattle.std.specs.Str.{bytes_eq}
use Rattle.rbc_line.proofs.FileFacts.{All-made, AreDistinct-from, AreDistinct-made, count_fits, element_of, none_at}
use Rattle.rbc_line.proofs.FileFacts.{not_true, number_fits, or_false, position_found}
use Rattle.rbc_line.proofs.Numbered.{Ascends-at, Ascends-order}
use Rattle.rbc_line.specs.declared.fault.LineFault.TheVariants.{Centres, Home, Length, Number, Sections, Tracks, Trains}
use Rattle.rbc_line.specs.declared.fault.LineFault.TheVariants.{Twice}
use Rattle.rbc_line.specs.Faults.{AppliesToFile, has_home_fault, has_length_fault, has_number_fault, has_twice}
use Rattle.rbc_line.specs.Faults.{has_twice_fault, HasNoneBelow, HasSectionsFault, is_name, is_outside}
use Rattle.rbc_line.specs.LineFile.{centre_number, FileCentre, line_centre, line_of, line_section, line_train, LineFile}
use Rattle.rbc_line.specs.LineFile.{number}
use Rattle.rbc_line.specs.Tested.{Ascends, IsTested}
use Rattle.rbc_spec.specs.Line.{AreDistinct, FollowsTracks, HasConsecutiveHomes, HasDistinctNames, HasLimits, HasRanges}
use Rattle.rbc_spec.specs.Line.{IsLine, IsName, Line}

-- ## All rules of a line

and_true : (a b : Bool) → (a && b) ≡ true → (a ≡ true) × (b ≡ true)
and_true true b h = (refl, h)
and_true false b h = absurd (false≢true h)

All-each : {X : Type 0} (P : X → Type 0) (xs : List X) → ((i : ℕ) (x : X) → slice_get xs i ≡ Some x → P x) → All P xs
All-each P [] holds k d h = absurd (omega arith)
All-each P (x ∷ xs) holds zero d h = holds 0 x refl
All-each P (x ∷ xs) holds (suc k) d h = All-each P xs (λ i. holds (suc i)) k d (omega arith)

all_at : {X : Type 0} (p : X → Bool) (xs : List X) (i : ℕ) (x : X) → list_all p xs ≡ true → slice_get xs i ≡ Some x
    → p x ≡ true
all_at p [] i x all at = absurd (none-some x at)
all_at p (y ∷ ys) zero x all at = subst (λ v. p v ≡ true) (same_Some y x at) (and_true (p y) (list_all p ys) all).0
all_at p (y ∷ ys) (suc i) x all at = all_at p ys i x (and_true (p y) (list_all p ys) all).1 at

name_holds : (name : List ℕ) → is_name name ≡ true → IsName name
name_holds name h =
    let parts = and_true (leb 1 (length name) && leb (length name) 16) (list_all is_ascii_alphanumeric name) h in
    let sizes = and_true (leb 1 (length name)) (leb (length name) 16) parts.0 in
    let low = sizes.0 in
    let high = sizes.1 in (
      grind (arith, nat_tests),
      grind (arith, nat_tests),
      All-each (λ c. IsTrue (is_ascii_alphanumeric c)) name
          (λ i c at. all_at is_ascii_alphanumeric name i c parts.1 at),
    )

true_of_not : (b : Bool) → not b ≡ false → b ≡ true
true_of_not true h = refl
true_of_not false h = absurd (false≢true (sym h))

has_section_of : (file : LineFile) → ¬ HasSectionsFault file
    → ((k : ℕ) → k < length file.tracks.names → list_any (λ s. s.track == k) file.tracks.sections ≡ true)
    × (length file.tracks.sections ≤ 512)
unfolding HasSectionsFault
has_section_of file none = (
  λ k within. elim (cases_Bool (list_any (λ s. s.track == k) file.tracks.sections)) [
    | inl some ↦ some
    | inr missing ↦ absurd (none (inl (k, within, missing)))
  ],
  elim (cases_lt 512 (length file.tracks.sections)) [ inl many ↦ absurd (none (inr many)) | inr few ↦ few ],
)

lengths_of : (file : LineFile) → ¬ IsTrue (has_length_fault file)
    → list_any (λ s. is_outside 100 2000 s.metres) file.tracks.sections ≡ false
unfolding has_length_fault
lengths_of file none = not_true _ none

homes_of : (file : LineFile) → ¬ IsTrue (has_home_fault file)
    → (list_any (λ s. not (list_any (λ c. bytes_eq c.name s.home) file.centres)) file.tracks.sections ≡ false)
    × (list_any (λ t. not (list_any (λ c. bytes_eq c.name t.registrar) file.centres)) file.trains ≡ false)
unfolding has_home_fault
homes_of file none = or_false _ _ none

pub tested : (file : LineFile) → HasNoneBelow (AppliesToFile file) 12 → IsTested file
unfolding has_number_fault has_twice_fault
tested file none =
    let sections = has_section_of file (none Sections (omega arith)) in
    let homes = homes_of file (none Home (omega arith)) in
    let n1 = or_false _ _ (none Number (omega arith)) in
    let n2 = or_false _ _ (λ h. false≢true (sym n1.0 ∙ h)) in
    let n3 = or_false _ _ (λ h. false≢true (sym n2.0 ∙ h)) in
    let n4 = or_false _ _ (λ h. false≢true (sym n3.0 ∙ h)) in
    let t1 = or_false _ _ (none Twice (omega arith)) in
    let t2 = or_false _ _ (λ h. false≢true (sym t1.0 ∙ h)) in
    let t3 = or_false _ _ (λ h. false≢true (sym t2.0 ∙ h)) in
    let t4 = or_false _ _ (λ h. false≢true (sym t3.0 ∙ h)) in
    record {
      centres = count_fits 2 8 (length file.centres) (none Centres (omega arith));
      tracks = count_fits 1 4 (length file.tracks.names) (none Tracks (omega arith));
      has_section = sections.0;
      sections = sections.1;
      trains = count_fits 1 64 (length file.trains) (none Trains (omega arith));
      lengths = lengths_of file (none Length (omega arith));
      nid_c = n4.0;
      centre_values = n4.1;
      track_names = n3.1;
      balises = n2.1;
      engines = n1.1;
      centre_once = t4.0;
      track_once = t4.1;
      nid_rbc_once = t3.1;
      balise_once = t2.1;
      engine_once = t1.1;
      homes = homes.0;
      registrars = homes.1;
    }

-- a name that is a centre's has that centre's number
pub centre_number-found : (file : LineFile) (name : List ℕ) → list_any (λ c. bytes_eq c.name name) file.centres ≡ true
    → (x : FileCentre) × (slice_get file.centres (centre_number file.centres name) ≡ Some x) × (x.name ≡ name)
centre_number-found file name known =
    let found = position_found (λ c. bytes_eq c.name name) file.centres known in
    let same : centre_number file.centres name ≡ found.0 = ap (λ o. unwrap_or o 0) found.2 in
    (found.1, ap (slice_get file.centres) same ∙ found.3, (bytes_eq-Decides found.1.name name).0 found.4)

pub centre_number-below : (file : LineFile) (name : List ℕ) → list_any (λ c. bytes_eq c.name name) file.centres ≡ true
    → centre_number file.centres name < length file.centres
centre_number-below file name known =
    let found = centre_number-found file name known in
    slice_get_within file.centres (centre_number file.centres name) found.0 found.1

limits_of : (file : LineFile) → IsTested file → HasLimits (line_of file)
unfolding line_of
limits_of file t = record {
  centres = (
    omega (arith, t.centres, length-map file.centres line_centre),
    omega (arith, t.centres, length-map file.centres line_centre),
  );
  tracks = t.tracks;
  sections = omega (arith, t.sections, length-map file.tracks.sections (line_section file.centres));
  trains = (
    omega (arith, t.trains, length-map file.trains (line_train file.centres)),
    omega (arith, t.trains, length-map file.trains (line_train file.centres)),
  );
}

ranges_of : (file : LineFile) → IsTested file → Ascends 0 (length file.tracks.names) file.tracks.sections
    → HasRanges (line_of file)
unfolding line_of
ranges_of file t order =
    let few = length-map file.centres line_centre in
    record {
      nid_c = (number_fits 0 1023 file.nid_c t.nid_c).1;
      centres = All-made (λ p. IsName p.name × (p.nid_rbc ≤ 16382)) line_centre file.centres (λ i c at.
          let parts =
          or_false (is_outside 0 16382 c.nid_rbc) (not (is_name c.name))
          (λ h. false≢true (sym (none_at _ file.centres i c t.centre_values at) ∙ h)) in
          (name_holds c.name (true_of_not (is_name c.name) parts.1), (number_fits 0 16382 c.nid_rbc parts.0).1));
      tracks =
          All-each IsName file.tracks.names
          (λ i name at. name_holds name
          (true_of_not (is_name name) (none_at _ file.tracks.names i name t.track_names at)));
      sections =
          All-made (λ p. (p.track < length file.tracks.names) × (100 ≤ p.metres) × (p.metres ≤ 2000)
          × (p.home < length (map line_centre file.centres)) × (p.balise ≤ 16382))
          (line_section file.centres) file.tracks.sections (λ i s at.
          let metres = number_fits 100 2000 s.metres (none_at _ file.tracks.sections i s t.lengths at) in
          let known = true_of_not _ (none_at _ file.tracks.sections i s t.homes at) in (
            (Ascends-at 0 (length file.tracks.names) file.tracks.sections i s order at).1,
            metres.0,
            metres.1,
            omega (arith, few, centre_number-below file s.home known),
            (number_fits 0 16382 s.balise (none_at _ file.tracks.sections i s t.balises at)).1,
          ));
      trains =
          All-made (λ p. (p.nid_engine ≤ 16777215) × (p.registrar < length (map line_centre file.centres)))
          (line_train file.centres) file.trains (λ i x at.
          let known = true_of_not _ (none_at _ file.trains i x t.registrars at) in (
            (number_fits 0 16777215 x.engine (none_at _ file.trains i x t.engines at)).1,
            omega (arith, few, centre_number-below file x.registrar known),
          ));
    }

bytes_same : (k l : List ℕ) → k ≡ l → bytes_eq k l ≡ true
bytes_same k l e = (bytes_eq-Decides k l).1 e

map_same : (names : List (List ℕ)) → map (λ name. name) names ≡ names
map_same [] = refl
map_same (name ∷ names) = ap (λ rest. name ∷ rest) (map_same names)

AreDistinct-each : (names : List (List ℕ)) → has_twice bytes_eq names ≡ false → AreDistinct (λ name. name) names
AreDistinct-each names none = AreDistinct-from bytes_eq (λ name. name) names bytes_same (rw (map_same names) none)

ints_same : (k l : ℤ) → k ≡ l → int_eq k l ≡ true
ints_same k l e = (Decides-int_eq k l).1 e

-- two tested numbers with one value are one
same_number : (low high : ℕ) (x y : ℤ) → is_outside low high x ≡ false → is_outside low high y ≡ false
    → number x ≡ number y → x ≡ y
same_number low high x y a b e = (number_fits low high x a).2 ∙ ap pos e ∙ sym (number_fits low high y b).2

distinct_of : (file : LineFile) → IsTested file → HasDistinctNames (line_of file)
unfolding line_of
distinct_of file t = record {
  centres =
      AreDistinct-made line_centre (λ p. p.name) (λ c. c.name) file.centres (λ i j x y a b e. e)
      (AreDistinct-from bytes_eq (λ c. c.name) file.centres bytes_same t.centre_once);
  tracks = AreDistinct-each file.tracks.names t.track_once;
  nid_rbcs = AreDistinct-made line_centre (λ p. p.nid_rbc) (λ c. c.nid_rbc) file.centres (λ i j x y a b e.
      same_number 0 16382 x.nid_rbc y.nid_rbc
      (or_false _ _ (λ h. false≢true (sym (none_at _ file.centres i x t.centre_values a) ∙ h))).0
      (or_false _ _ (λ h. false≢true (sym (none_at _ file.centres j y t.centre_values b) ∙ h))).0 e)
      (AreDistinct-from int_eq (λ c. c.nid_rbc) file.centres ints_same t.nid_rbc_once);
  balises =
      AreDistinct-made (line_section file.centres) (λ p. p.balise) (λ s. s.balise) file.tracks.sections
      (λ i j x y a b e.
      same_number 0 16382 x.balise y.balise (none_at _ file.tracks.sections i x t.balises a)
      (none_at _ file.tracks.sections j y t.balises b) e)
      (AreDistinct-from int_eq (λ s. s.balise) file.tracks.sections ints_same t.balise_once);
  engines = AreDistinct-made (line_train file.centres) (λ p. p.nid_engine) (λ x. x.engine) file.trains (λ i j x y a b e.
      same_number 0 16777215 x.engine y.engine (none_at _ file.trains i x t.engines a)
      (none_at _ file.trains j y t.engines b) e)
      (AreDistinct-from int_eq (λ x. x.engine) file.trains ints_same t.engine_once);
}

tracks_of : (file : LineFile) → IsTested file → Ascends 0 (length file.tracks.names) file.tracks.sections
    → FollowsTracks (line_of file)
unfolding line_of
tracks_of file t order = record {
  in_order = λ s e p q le at_s at_e.
      let a = element_of (line_section file.centres) file.tracks.sections s p at_s in
      let b = element_of (line_section file.centres) file.tracks.sections e q at_e in
      omega (
        arith,
        Ascends-order 0 (length file.tracks.names) file.tracks.sections s e a.0 b.0 order le a.1 b.1,
        ap (λ v. v.track) a.2,
        ap (λ v. v.track) b.2,
      );
  each = λ k within.
      let found = position_found (λ s. s.track == k) file.tracks.sections (t.has_section k within) in (
        found.0,
        line_section file.centres found.1,
        slice_get-map (line_section file.centres) file.tracks.sections found.0
            ∙ ap (λ o. option_map (line_section file.centres) o) found.3,
        let passes = found.4 in grind (arith, nat_tests),
      );
}

-- with its homes in order a tested line file names a line
pub sound : (file : LineFile) (line : Line) → HasNoneBelow (AppliesToFile file) 12
    → Ascends 0 (length file.tracks.names) file.tracks.sections → line ≡ line_of file → HasConsecutiveHomes line
    → IsLine line
sound file line none order same homes =
    let t = tested file none in
    subst IsLine (sym same) (record {
      limits = limits_of file t;
      ranges = ranges_of file t order;
      distinct = distinct_of file t;
      tracks = tracks_of file t order;
      homes = subst HasConsecutiveHomes same homes;
    })
