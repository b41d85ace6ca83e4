-- The sections of a line file are numbered track by track.
use Rattle.std.proofs.Common.{[], ◌++◌, ◌+◌, ◌<◌, ◌∙◌, ◌∷◌, ◌≡◌, ◌≤◌, ap, arith, codes, length, List, None, Option}
use Rattle.std.proofs.Common.{option_and_then, option_map, refl, Some, subst, suc, sym, zero, ℕ}
use Rattle.std.proofs.lemmas.Option.{none-some, same_Some}
use Rattle.std.specs.List.{slice_get}
use Rattle.rbc_line.specs.LineFile.{at, each_of, file_centre, file_parts, file_section, file_track, file_train}
use Rattle.rbc_line.specs.LineFile.{FileSection, FileTracks, line_file, LineFile, table_with, track_parts, tracks_from}
use Rattle.rbc_line.specs.Tested.{Ascends}
use Rattle.toml.specs.Data.{as_integer, as_str, Data, item, Items, Members, no_items}

pub Ascends-at : (low high : ℕ) (ps : List FileSection) (s : ℕ) (p : FileSection) → Ascends low high ps
    → slice_get ps s ≡ Some p → (low ≤ p.track) × (p.track < high)
Ascends-at low high [] s p h at = absurd (none-some p at)
Ascends-at low high (x ∷ xs) zero p h at = subst (λ v. (low ≤ v.track) × (v.track < high)) (same_Some x p at) (h.0, h.1)
Ascends-at low high (x ∷ xs) (suc s) p h at = let rest = Ascends-at x.track high xs s p h.2 at in (omega arith, rest.1)

pub Ascends-order : (low high : ℕ) (ps : List FileSection) (s e : ℕ) (p q : FileSection) → Ascends low high ps → s ≤ e
    → slice_get ps s ≡ Some p → slice_get ps e ≡ Some q → p.track ≤ q.track
Ascends-order low high [] s e p q h le at_s at_e = absurd (none-some p at_s)
Ascends-order low high (x ∷ xs) zero zero p q h le at_s at_e = let same : p ≡ q = same_Some p q (sym at_s ∙ at_e) in
    omega (arith, ap (λ v. v.track) same)
Ascends-order low high (x ∷ xs) zero (suc e) p q h le at_s at_e =
    let first : x ≡ p = same_Some x p at_s in
    let later = Ascends-at x.track high xs e q h.2 at_e in
    omega (arith, ap (λ v. v.track) first, later.0)
Ascends-order low high (x ∷ xs) (suc s) zero p q h le at_s at_e = absurd (omega arith)
Ascends-order low high (x ∷ xs) (suc s) (suc e) p q h le at_s at_e =
    Ascends-order x.track high xs s e p q h.2 (omega arith) at_s at_e

-- all sections of one track
abbrev OnTrack : ℕ → List FileSection → Type 0
OnTrack k [] = Unit {0}
OnTrack k (p ∷ ps) = (p.track ≡ k) × OnTrack k ps

weaker : (low low' high : ℕ) (ps : List FileSection) → low ≤ low' → Ascends low' high ps → Ascends low high ps
weaker low low' high [] le h = tt
weaker low low' high (p ∷ ps) le h = (omega (arith, h.0), h.1, h.2)

Ascends-append : (k high : ℕ) (own more : List FileSection) → k < high → OnTrack k own → Ascends (k + 1) high more
    → Ascends k high (own ++ more)
Ascends-append k high [] more lt on h = weaker k (k + 1) high more (omega arith) h
Ascends-append k high (p ∷ ps) more lt on h = (
  omega (arith, on.0),
  omega (arith, on.0),
  subst (λ t. Ascends t high (ps ++ more)) (sym on.0) (Ascends-append k high ps more lt on.1 h),
)

bind_some : {A B P : Type 0} (o : Option A) (f : A → Option B) (y : B) → option_and_then f o ≡ Some y
    → ((x : A) → o ≡ Some x → f x ≡ Some y → P) → P
bind_some None f y h use_it = absurd (none-some y h)
bind_some (Some x) f y h use_it = use_it x refl h

map_some : {A B P : Type 0} (o : Option A) (f : A → B) (y : B) → option_map f o ≡ Some y
    → ((x : A) → o ≡ Some x → f x ≡ y → P) → P
map_some None f y h use_it = absurd (none-some y h)
map_some (Some x) f y h use_it = use_it x refl (same_Some (f x) y h)

section_track : (k : ℕ) (d : Data) (p : FileSection) → file_section k d ≡ Some p → p.track ≡ k
unfolding file_section
section_track k d p h =
    bind_some (table_with 3 d) _ p h (λ ms _ h1.
    bind_some (at as_integer (codes "length") ms) _ p h1 (λ metres _ h2.
    bind_some (at as_str (codes "home") ms) _ p h2 (λ home _ h3.
    map_some (at as_integer (codes "balise") ms) _ p h3 (λ balise _ e. sym (ap (λ v. v.track) e)))))

each_on_track : (k : ℕ) (items : Items) (ps : List FileSection) → each_of (file_section k) items ≡ Some ps
    → OnTrack k ps
each_on_track k no_items ps h = subst (OnTrack k) (same_Some [] ps h) tt
each_on_track k (item d ds) ps h =
    bind_some (file_section k d) _ ps h (λ p read more.
    map_some (each_of (file_section k) ds) _ ps more
    (λ rest read_rest e. subst (OnTrack k) e (section_track k d p read, each_on_track k ds rest read_rest)))

track_on_track : (k : ℕ) (d : Data) (t : List ℕ × List FileSection) → file_track k d ≡ Some t → OnTrack k t.1
unfolding file_track
track_on_track k d t h =
    bind_some (track_parts d) _ t h (λ parts _ more.
    map_some (each_of (file_section k) parts.1) _ t more
    (λ sections read e. subst (λ v. OnTrack k v.1) e (each_on_track k parts.1 sections read)))

tracks_ascend : (k high : ℕ) (items : Items) (t : FileTracks) → tracks_from k items ≡ Some t → k + length t.names ≤ high
    → Ascends k high t.sections
tracks_ascend k high no_items t h le = subst (λ v. Ascends k high v.sections) (same_Some _ t h) tt
tracks_ascend k high (item d ds) t h le =
    bind_some (file_track k d) _ t h (λ own read_own rest.
    map_some (tracks_from (k + 1) ds) _ t rest (λ more read_more e.
    let names = ap (λ v. length v.names) e in
    subst (λ v. Ascends k high v.sections) e
    (Ascends-append k high own.1 more.sections (omega (arith, names)) (track_on_track k d own read_own)
    (tracks_ascend (k + 1) high ds more read_more (omega (arith, names))))))

-- the content of the tables of a text has its sections in order
pub file_ascends : (ms : Members) (file : LineFile) → line_file ms ≡ Some file
    → Ascends 0 (length file.tracks.names) file.tracks.sections
unfolding line_file
file_ascends ms file h =
    bind_some (file_parts ms) _ file h (λ parts _ h1.
    bind_some (each_of file_centre parts.centres) _ file h1 (λ centres _ h2.
    bind_some (tracks_from 0 parts.tracks) _ file h2 (λ tracks read h3.
    map_some (each_of file_train parts.trains) _ file h3 (λ trains _ e.
    subst (λ v. Ascends 0 (length v.tracks.names) v.tracks.sections) e
    (tracks_ascend 0 (length tracks.names) parts.tracks tracks read (omega arith))))))
