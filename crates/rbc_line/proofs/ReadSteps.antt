-- The items of an array are read in order.
use Rattle.std.proofs.Common.{[], ◌++◌, ◌+◌, ◌<◌, ◌==◌, ◌∙◌, ◌∷◌, ◌≡◌, ◌≢◌, ◌≤◌, ap, append-nil, append_assoc, arith}
use Rattle.std.proofs.Common.{drop, false, get_or, length, List, map, None, Option, option_map, refl, Some, suc, sym}
use Rattle.std.proofs.Common.{true, ℕ}
use Rattle.std.proofs.lemmas.Bool.Decides.{nat_tests}
use Rattle.std.proofs.lemmas.List.{drop_all, map-append}
use Rattle.rbc_line.specs.LineFile.{each_of, file_track, FileSection, FileTracks, key_count, tracks_from, with_keys}
use Rattle.toml.proofs.Views.{Entry, items_view-drop}
use Rattle.toml.specs.Data.{Data}
use Rattle.toml.specs.declared.value.Value.{Value}
use Rattle.toml.specs.View.{items_view, members_view, view}

-- the items before, joined to the items that are read
abbrev pub joined : {A : Type 0} → List A → Option (List A) → Option (List A)
joined xs o = option_map (λ ys. xs ++ ys) o

joined-push : {A : Type 0} (xs : List A) (x : A) (o : Option (List A))
    → joined xs (option_map (λ ys. x ∷ ys) o) ≡ joined (xs ++ x ∷ []) o
joined-push xs x None = refl
joined-push xs x (Some ys) = ap Some (sym (append_assoc xs (x ∷ []) ys))

joined-none : {A : Type 0} (xs : List A) → joined xs (Some []) ≡ Some xs
joined-none xs = ap Some (append-nil xs)

-- one more item that reads
pub each_more : {R A : Type 0} (f : R → A) (read : Data → Option A) (whole : Option (List A)) (vs : List Value) (i : ℕ)
    (v : Value) (rows more : List R) (row : R)
    → i < length vs → v ≡ get_or vs i v → Some (f row) ≡ read (view v) → more ≡ rows ++ row ∷ []
    → whole ≡ joined (map f rows) (each_of read (items_view (drop i vs)))
    → whole ≡ joined (map f more) (each_of read (items_view (drop (i + 1) vs)))
each_more f read whole vs i v rows more row within at found pushed so_far =
    let rest = each_of read (items_view (drop (i + 1) vs)) in
    so_far ∙ rw (items_view-drop vs i v within, ← at, ← found)
    (joined-push (map f rows) (f row) rest
    ∙ ap (λ xs. joined xs rest) (sym (ap (map f) pushed ∙ map-append f rows (row ∷ []))))

-- an item that does not read
pub each_stop : {A : Type 0} (read : Data → Option A) (whole : Option (List A)) (vs : List Value) (i : ℕ) (v : Value)
    (xs : List A)
    → i < length vs → v ≡ get_or vs i v → None ≡ read (view v)
    → whole ≡ joined xs (each_of read (items_view (drop i vs))) → None ≡ whole
each_stop read whole vs i v xs within at found so_far = sym (so_far ∙ rw (items_view-drop vs i v within, ← at, ← found))

-- no item is left
pub each_end : {A : Type 0} (read : Data → Option A) (whole : Option (List A)) (vs : List Value) (i : ℕ) (xs : List A)
    → length vs ≤ i
    → whole ≡ joined xs (each_of read (items_view (drop i vs))) → Some xs ≡ whole
each_end read whole vs i xs past so_far = sym (so_far ∙ rw (drop_all i vs past) (joined-none xs))

-- ## Tracks, each with its sections

-- the tracks before joined to those that are read after them
abbrev pub joined_tracks : List (List ℕ) → List FileSection → Option FileTracks → Option FileTracks
joined_tracks names sections o =
    option_map (λ more. record { names = names ++ more.names; sections = sections ++ more.sections }) o

joined_tracks-more : (names : List (List ℕ)) (sections : List FileSection) (name : List ℕ) (own : List FileSection)
    (o : Option FileTracks)
    → joined_tracks names sections
    (option_map (λ more. record { names = name ∷ more.names; sections = own ++ more.sections }) o)
    ≡ joined_tracks (names ++ name ∷ []) (sections ++ own) o
joined_tracks-more names sections name own None = refl
joined_tracks-more names sections name own (Some more) =
    let e = sym (append_assoc names (name ∷ []) more.names) in
    let f = sym (append_assoc sections own more.sections) in
    λ i. Some (record { names = e i; sections = f i })

joined_tracks-none : (names : List (List ℕ)) (sections : List FileSection)
    → joined_tracks names sections (Some (record { names = []; sections = [] }))
    ≡ Some (record { names = names; sections = sections })
joined_tracks-none names sections = let e = append-nil names in let f = append-nil sections in
    λ i. Some (record { names = e i; sections = f i })

-- one more track
pub tracks_more : (whole : Option FileTracks) (vs : List Value) (i : ℕ) (v : Value) (names names' : List (List ℕ))
    (sections sections' : List FileSection) (t : List ℕ × List FileSection)
    → i < length vs → v ≡ get_or vs i v → Some t ≡ file_track i (view v) → names' ≡ names ++ t.0 ∷ []
    → sections' ≡ sections ++ t.1
    → whole ≡ joined_tracks names sections (tracks_from i (items_view (drop i vs)))
    → whole ≡ joined_tracks names' sections' (tracks_from (i + 1) (items_view (drop (i + 1) vs)))
tracks_more whole vs i v names names' sections sections' t within at found e f so_far =
    so_far ∙ rw (items_view-drop vs i v within, ← at, ← found)
    (joined_tracks-more names sections t.0 t.1 (tracks_from (i + 1) (items_view (drop (i + 1) vs)))
    ∙ (λ j. joined_tracks (sym e j) (sym f j) (tracks_from (i + 1) (items_view (drop (i + 1) vs)))))

-- a track that does not read
pub tracks_stop : (whole : Option FileTracks) (vs : List Value) (i : ℕ) (v : Value) (names : List (List ℕ))
    (sections : List FileSection)
    → i < length vs → v ≡ get_or vs i v → None ≡ file_track i (view v)
    → whole ≡ joined_tracks names sections (tracks_from i (items_view (drop i vs))) → None ≡ whole
tracks_stop whole vs i v names sections within at found so_far =
    sym (so_far ∙ rw (items_view-drop vs i v within, ← at, ← found))

-- no track is left
pub tracks_end : (whole : Option FileTracks) (vs : List Value) (i : ℕ) (names : List (List ℕ))
    (sections : List FileSection) → length vs ≤ i
    → whole ≡ joined_tracks names sections (tracks_from i (items_view (drop i vs)))
    → Some (record { names = names; sections = sections }) ≡ whole
tracks_end whole vs i names sections past so_far =
    sym (so_far ∙ rw (drop_all i vs past) (joined_tracks-none names sections))

-- ## A table of n keys

key_count-view : (es : List Entry) → key_count (members_view es) ≡ length es
key_count-view [] = refl
key_count-view (e ∷ es) = ap suc (key_count-view es)

pub with_keys-found : (es : List Entry) (n : ℕ) → length es ≡ n → Some (members_view es) ≡ with_keys n (members_view es)
unfolding with_keys
with_keys-found es n count =
    let same : (key_count (members_view es) == n) ≡ true = rw (key_count-view es, count) (grind (arith, nat_tests)) in
    rw same

pub with_keys-other : (es : List Entry) (n : ℕ) → length es ≢ n → None ≡ with_keys n (members_view es)
unfolding with_keys
with_keys-other es n count =
    let other : (key_count (members_view es) == n) ≡ false = rw (key_count-view es) (grind (arith, nat_tests)) in
    rw other
