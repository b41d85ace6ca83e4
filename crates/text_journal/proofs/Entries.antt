-- Properties of notes, for entries in memory.
use Rattle.std.proofs.Common.{[], ◌++◌, ◌∙◌, ◌∷◌, ◌≡◌, ◌≢◌, ap, append_assoc, arith, Bool, Bor, Err, Global, inl, inr}
use Rattle.std.proofs.Common.{List, map, None, Ok, Option, refl, Result, rules, Some, subst, suc, sym, take, true, Vec}
use Rattle.std.proofs.Common.{zero, ℕ}
use Rattle.std.proofs.lemmas.List.{append_cancel_right}
use Rattle.std.proofs.lemmas.Slice.Eq.{bytes_eq-Decides}
use Rattle.std.specs.Fmt.{decimal}
use Rattle.std.specs.List.{AllByRecursion, flat_map}
use Rattle.std.specs.Prelude.{codes, IfErr, IfOk, IsTrue, MatchOption}
use Rattle.std.specs.Str.{bytes_eq}
use Rattle.hex.specs.Hex.{encode_upper}
use Rattle.rbc_spec.specs.Line.{is_centre, IsLine, Line}
use Rattle.text_journal.proofs.Asking.{name_is_word, three, verb, words_of}
use Rattle.text_journal.proofs.Letters.{lacks_append, no_cut, one_cut}
use Rattle.text_journal.proofs.Lines.{checksum_is_word, cut_after, cut_lines, digest_is_word, lacks_take, line_of}
use Rattle.text_journal.proofs.Lines.{lines_of, no_reading, one_reading, some_same, told_of, words_read}
use Rattle.text_journal.specs.declared.entry.Entry.{Entry}
use Rattle.text_journal.specs.declared.fault.JournalFault.{JournalFault}
use Rattle.text_journal.specs.declared.fault.JournalFault.TheVariants.{Memory}
use Rattle.text_journal.specs.Journal.{checksum, digest, digested, entry_line, first_line, journal, time_text, told, V1}
use Rattle.text_journal.specs.Journal.{V2, Version, version_words}
use Rattle.text_journal.specs.Reading.{ArePartsOf, Begins, early, Follows, IsAt, IsNote, Lacks, Noted, noted_of, torn}
use Rattle.text_script.specs.Entries.{event_of}
use Rattle.text_script.specs.Print.Rows.{event_row, name_at}
use Rattle.text_script.specs.rbc_world.declared.event.WorldEvent.{WorldEvent}
use Rattle.text_script.specs.rbc_world.declared.event.WorldEvent.TheVariants as event
use Rattle.text_script.specs.Script.{row_asks, Show}

-- three words, and a line feed
three_ended : (a b r : List ℕ) → a ++ (codes " " ++ (b ++ (codes " " ++ (r ++ 10 ∷ [])))) ≡ three a b r ++ 10 ∷ []
three_ended a b r =
    sym (append_assoc a (32 ∷ (b ++ 32 ∷ r)) (10 ∷ [])
    ∙ ap (λ (t : List ℕ). a ++ 32 ∷ t) (append_assoc b (32 ∷ r) (10 ∷ [])))

pub row_is : (line : Line) (e : WorldEvent) → event_row line e ≡ 62 ∷ 32 ∷ (words_of line (event_of e) ++ 10 ∷ [])
row_is line (event.Train c bytes) =
    ap (λ (t : List ℕ). 62 ∷ 32 ∷ t) (three_ended (codes "train") (name_at line c) (encode_upper bytes.items))
row_is line (event.Set c s) = ap (λ (t : List ℕ). 62 ∷ 32 ∷ t) (three_ended (codes "set") (name_at line c) (decimal s))
row_is line (event.Unset c s) =
    ap (λ (t : List ℕ). 62 ∷ 32 ∷ t) (three_ended (codes "unset") (name_at line c) (decimal s))
row_is line (event.Deliver from to n) =
    ap (λ (t : List ℕ). codes "> deliver " ++ t) (three_ended (name_at line from) (name_at line to) (decimal n))

told_is : (line : Line) (e : Entry) → told line e ≡ told_of line (noted_of e) ++ 10 ∷ []
told_is line e =
    let time = time_text e.time_ms in
    let row : List ℕ = 62 ∷ 32 ∷ words_of line (event_of e.event) in
    ap (λ (t : List ℕ). decimal e.stamp ++ 32 ∷ (time ++ t)) (row_is line e.event)
    ∙ sym (append_assoc (decimal e.stamp) (32 ∷ (time ++ row)) (10 ∷ [])
    ∙ ap (λ (t : List ℕ). decimal e.stamp ++ 32 ∷ t) (append_assoc time row (10 ∷ [])))

pub entry_line_is : (line : Line) (e : Entry) → entry_line line e ≡ line_of line (noted_of e) ++ 10 ∷ []
entry_line_is line e =
    ap (λ (t : List ℕ). checksum t ++ 32 ∷ t) (told_is line e)
    ∙ sym (append_assoc (checksum (told_of line (noted_of e) ++ 10 ∷ [])) (32 ∷ told_of line (noted_of e)) (10 ∷ []))

pub entry_lines_are : (line : Line) (es : List Entry) → flat_map (entry_line line) es ≡ lines_of line (map noted_of es)
entry_lines_are line [] = refl
entry_lines_are line (e ∷ es) = λ i. entry_line_is line e i ++ entry_lines_are line es i

noted_each : (line : Line) (c : ℕ) (es : List Entry) → AllByRecursion (λ e. IsNote line c (noted_of e)) es
    → AllByRecursion (IsNote line c) (map noted_of es)
noted_each line c [] h = tt
noted_each line c (e ∷ es) h = (h.0, noted_each line c es h.1)

each_noted : (line : Line) (c : ℕ) (es : List Entry) (k : ℕ) → AllByRecursion (λ e. IsNote line c (noted_of e)) es
    → AllByRecursion (λ e. IsNote line c (noted_of e)) (take k es)
each_noted line c es zero h = tt
each_noted line c [] (suc k) h = tt
each_noted line c (e ∷ es) (suc k) h = (h.0, each_noted line c es k h.1)

map_take : (k : ℕ) (es : List Entry) → take k (map noted_of es) ≡ map noted_of (take k es)
map_take zero es = refl
map_take (suc k) [] = refl
map_take (suc k) (e ∷ es) = ap (λ (xs : List Noted). noted_of e ∷ xs) (map_take k es)

-- ## One reading

pub one_following : (line : Line) → IsLine line → (c : ℕ) (text : List ℕ) (es fs : List Entry) → Follows line c text es
    → Follows line c text fs → map noted_of es ≡ map noted_of fs
one_following line good c text es fs h k =
    one_reading line good c (map noted_of es) (map noted_of fs) h.rest k.rest (noted_each line c es h.each)
    (noted_each line c fs k.each) h.unended k.unended
    (ap (λ (t : List ℕ). t ++ h.rest) (sym (entry_lines_are line es)) ∙ sym h.whole ∙ k.whole
    ∙ ap (λ (t : List ℕ). t ++ k.rest) (entry_lines_are line fs))

start_feed : (v : Version) → Lacks 10 (version_words v)
start_feed V1 = lacks_append 10 (codes "journal") (codes " 1 ") (verb (codes "journal") refl).feed
    (λ e. omega arith, (λ e. omega arith, (λ e. omega arith, tt)))
start_feed V2 = lacks_append 10 (codes "journal") (codes " 2 ") (verb (codes "journal") refl).feed
    (λ e. omega arith, (λ e. omega arith, (λ e. omega arith, tt)))

-- the first line contains no line feed
pub first_feed : (v : Version) (line : Line) → IsLine line → (c : ℕ) (file : List ℕ) → is_centre line c ≡ true
    → Lacks 10 (first_line v line c file)
first_feed v line good c file it =
    lacks_append 10 (version_words v) (name_at line c ++ 32 ∷ digest (digested v line file)) (start_feed v)
    (lacks_append 10 (name_at line c) (32 ∷ digest (digested v line file)) (name_is_word line good c it).feed
    (λ e. omega arith, (digest_is_word (digested v line file)).feed))

unended : (v w : Version) (line : Line) → IsLine line → (c : ℕ) (file rest : List ℕ) (n : ℕ) → is_centre line c ≡ true
    → take n (first_line v line c file) ≡ first_line w line c file ++ 10 ∷ rest → ⊥
unended v w line good c file rest n it e =
    no_cut 10 (first_line w line c file) rest
    (subst (Lacks 10) e (lacks_take 10 n _ (first_feed v line good c file it)))

same_rest : (v w : Version) (line : Line) → IsLine line → (c : ℕ) (file rest other : List ℕ) → is_centre line c ≡ true
    → first_line v line c file ++ 10 ∷ rest ≡ first_line w line c file ++ 10 ∷ other → rest ≡ other
same_rest v w line good c file rest other it e =
    (one_cut 10 (first_line v line c file) (first_line w line c file) rest other (first_feed v line good c file it)
    (first_feed w line good c file it) e).1

pub one_beginning : (v w : Version) (line : Line) → IsLine line → (c : ℕ) (file text : List ℕ) (es fs : List Entry)
    → is_centre line c ≡ true →
    Begins v line c file text es → Begins w line c file text fs → map noted_of es ≡ map noted_of fs
one_beginning v w line good c file text es fs it (torn rest e h) (torn other f k) =
    one_following line good c rest es fs h
    (subst (λ (t : List ℕ). Follows line c t fs) (sym (same_rest v w line good c file rest other it (sym e ∙ f))) k)
one_beginning v w line good c file text es fs it (torn rest e h) (early n f none) =
    absurd (unended w v line good c file rest n it (sym f ∙ e))
one_beginning v w line good c file text es fs it (early n e none) (torn rest f k) =
    absurd (unended v w line good c file rest n it (sym e ∙ f))
one_beginning v w line good c file text es fs it (early n e none) (early m f other) =
    ap (map noted_of) (none ∙ sym other)

-- ## A cut

pub cut_following : (line : Line) → IsLine line → (c : ℕ) (es : List Entry) (n : ℕ)
    → AllByRecursion (λ e. IsNote line c (noted_of e)) es →
    (k : ℕ) × Follows line c (take n (flat_map (entry_line line) es)) (take k es)
cut_following line good c es n h =
    let cut = cut_lines line good c (map noted_of es) n (noted_each line c es h) in (
      cut.0,
      record {
        rest = cut.1;
        each = each_noted line c es cut.0 h;
        unended = cut.2;
        whole = ap (take n) (entry_lines_are line es) ∙ cut.3
            ∙ ap (λ (t : List ℕ). t ++ cut.1)
            (ap (lines_of line) (map_take cut.0 es) ∙ sym (entry_lines_are line (take cut.0 es)));
      },
    )

pub cut_journal : (v : Version) (line : Line) → IsLine line → (c : ℕ) (file : List ℕ) (es : List Entry) (n : ℕ)
    → AllByRecursion (λ e. IsNote line c (noted_of e)) es →
    (k : ℕ) × Begins v line c file (take n (journal v line c file es)) (take k es)
cut_journal v line good c file es n h = elim (cut_after (first_line v line c file) (flat_map (entry_line line) es) n) [
  | inl e ↦ (0, early n e refl)
  | inr d ↦ let cut = cut_following line good c es d.0 h in
      (cut.0, torn (take d.0 (flat_map (entry_line line) es)) d.1 cut.1)
]

-- ## Reading on

-- the text is the lines of the entries that are read, and the rest
pub record Reads (line : Line) (c : ℕ) (text : List ℕ) (es : List Entry) (rest : List ℕ) : Type 0 where
  pub each : AllByRecursion (λ e. IsNote line c (noted_of e)) es
  pub whole : text ≡ flat_map (entry_line line) es ++ rest

never : (line : Line) (c : ℕ) (row : List ℕ) (fs : List Entry)
    → ((e : Entry) → IsNote line c (noted_of e) → entry_line line e ≡ row ++ 10 ∷ [] → ⊥) →
    AllByRecursion (λ e. IsNote line c (noted_of e)) fs
    → AllByRecursion (λ x. line_of line x ≡ row → ⊥) (map noted_of fs)
never line c row [] bad h = tt
never line c row (e ∷ fs) bad h =
    (λ same. bad e h.0 (entry_line_is line e ∙ ap (λ (t : List ℕ). t ++ 10 ∷ []) same), never line c row fs bad h.1)

-- if no entry has a line, the text has no entries
pub stuck : (line : Line) → IsLine line → (c : ℕ) (text : List ℕ) (es : List Entry) (rest row others : List ℕ)
    → Reads line c text es rest →
    rest ≡ row ++ 10 ∷ others → Lacks 10 row
    → ((e : Entry) → IsNote line c (noted_of e) → entry_line line e ≡ row ++ 10 ∷ [] → ⊥) →
    (fs : List Entry) → Follows line c text fs → ⊥
stuck line good c text es rest row others r cut clean bad fs h =
    no_reading line good c (map noted_of fs) (map noted_of es) h.rest row others (noted_each line c fs h.each)
    (noted_each line c es r.each) h.unended clean
    (never line c row fs bad h.each)
    (ap (λ (t : List ℕ). t ++ h.rest) (sym (entry_lines_are line fs)) ∙ sym h.whole ∙ r.whole
    ∙ ap (λ (t : List ℕ). t ++ rest) (entry_lines_are line es)
    ∙ ap (λ (t : List ℕ). lines_of line (map noted_of es) ++ t) cut)

-- ## A line that is guessed

pub row_of : (line : Line) (e : Entry) (row : List ℕ) → entry_line line e ≡ row ++ 10 ∷ []
    → row ≡ line_of line (noted_of e)
row_of line e row h = append_cancel_right row (line_of line (noted_of e)) (10 ∷ []) (sym h ∙ entry_line_is line e)

pub guess_parts : (line : Line) (c : ℕ) (e : Entry) (row : List ℕ) (found : Option (ℕ × Option ℕ × Bor (List ℕ)))
    → ArePartsOf row found →
    IsNote line c (noted_of e) → entry_line line e ≡ row ++ 10 ∷ [] →
    MatchOption found ⊥ (λ x. (x.0 ≡ e.stamp) × (x.1 ≡ e.time_ms) × (x.2.now ≡ words_of line (event_of e.event)))
guess_parts line c e row found parts note h =
    parts (checksum (told_of line (noted_of e) ++ 10 ∷ [])) (words_of line (event_of e.event)) e.stamp e.time_ms
    (checksum_is_word _).blank note.stamp note.time (row_of line e row h)

pub guess_asks : (line : Line) → IsLine line → (c : ℕ) (e : Entry) (words : List ℕ) → IsNote line c (noted_of e)
    → words ≡ words_of line (event_of e.event) →
    row_asks line words ≡ Some (event_of e.event)
guess_asks line good c e words note same =
    ap (row_asks line) same ∙ words_read line good c (event_of e.event) note.centre note.at

pub no_show : (line : Line) (c : ℕ) (e : Entry) → IsNote line c (noted_of e) → Some Show ≡ Some (event_of e.event) → ⊥
no_show line c e note same = subst (IsAt line c) (some_same _ _ (sym same)) note.at

pub not_none : {X : Type 0} (x : X) → None ≡ Some x → ⊥
not_none x e = cc

-- ## The first line

torn_text : (v : Version) (line : Line) (c : ℕ) (file text rest : List ℕ) (es : List Entry)
    → text ≡ first_line v line c file ++ 10 ∷ rest → Follows line c rest es → Begins v line c file text es
torn_text v line c file text rest es e h = torn rest e h

torn_rest : (v w : Version) (line : Line) → IsLine line → (c : ℕ) (file text rest : List ℕ) (es : List Entry)
    → is_centre line c ≡ true → text ≡ first_line v line c file ++ 10 ∷ rest →
    Begins w line c file text es → Follows line c rest es
torn_rest v w line good c file text rest es it e (torn other f k) =
    subst (λ (t : List ℕ). Follows line c t es) (same_rest w v line good c file other rest it (sym f ∙ e)) k
torn_rest v w line good c file text rest es it e (early n f none) =
    absurd (unended w v line good c file rest n it (sym f ∙ e))

pub found_torn : (v : Version) (line : Line) (c : ℕ) (file text rest : List ℕ)
    (r : Result (Vec Entry Global) JournalFault) → text ≡ first_line v line c file ++ 10 ∷ rest →
    IfOk r (λ read. Follows line c rest read.items)
    → IfOk r (λ read. (w : Version) × Begins w line c file text read.items)
found_torn v line c file text rest (Ok read) e h = (v, torn_text v line c file text rest read.items e h)
found_torn v line c file text rest (Err why) e h = tt

pub only_torn : (v : Version) (line : Line) → IsLine line
    → (c : ℕ) (file text rest : List ℕ) (r : Result (Vec Entry Global) JournalFault) → is_centre line c ≡ true →
    text ≡ first_line v line c file ++ 10 ∷ rest → IfOk r (λ read. Follows line c rest read.items) →
    IfOk r (λ read. (w : Version) (es : List Entry) → Begins w line c file text es
    → map noted_of read.items ≡ map noted_of es)
only_torn v line good c file text rest (Ok read) it e h = λ w es k.
    one_beginning v w line good c file text read.items es it (torn_text v line c file text rest read.items e h) k
only_torn v line good c file text rest (Err why) it e h = tt

pub refused_torn : (v : Version) (line : Line) → IsLine line
    → (c : ℕ) (file text rest : List ℕ) (r : Result (Vec Entry Global) JournalFault) → is_centre line c ≡ true →
    text ≡ first_line v line c file ++ 10 ∷ rest
    → IfErr r (λ why. why ≢ Memory → (es : List Entry) → Follows line c rest es → ⊥) →
    IfErr r (λ why. why ≢ Memory → (w : Version) (es : List Entry) → Begins w line c file text es → ⊥)
refused_torn v line good c file text rest (Ok read) it e h = tt
refused_torn v line good c file text rest (Err why) it e h =
    λ other w es k. h other es (torn_rest v w line good c file text rest es it e k)

-- a different first line begins no journal of this centre
pub foreign_row : (line : Line) → IsLine line → (c : ℕ) (file text row rest : List ℕ) → is_centre line c ≡ true
    → text ≡ row ++ 10 ∷ rest → Lacks 10 row → ((v : Version) → row ≢ first_line v line c file)
    → (v : Version) (es : List Entry) → Begins v line c file text es → ⊥
foreign_row line good c file text row rest it e clean other v es (torn more f k) =
    other v (one_cut 10 row (first_line v line c file) rest more clean (first_feed v line good c file it) (sym e ∙ f)).0
foreign_row line good c file text row rest it e clean other v es (early n f none) =
    no_cut 10 row rest (subst (Lacks 10) (sym f ∙ e) (lacks_take 10 n _ (first_feed v line good c file it)))

-- a text without a line feed with which no first line begins
pub foreign_start : (line : Line) (c : ℕ) (file text : List ℕ) → Lacks 10 text
    → ((v : Version) (n : ℕ) → text ≢ take n (first_line v line c file))
    → (v : Version) (es : List Entry) → Begins v line c file text es → ⊥
foreign_start line c file text clean other v es (torn rest e h) =
    no_cut 10 (first_line v line c file) rest (subst (Lacks 10) e clean)
foreign_start line c file text clean other v es (early n e none) = other v n e

-- ## A line and its line feed

pub is_true : (b : Bool) → IsTrue b → b ≡ true
is_true b h = search rules

pub true_is : (b : Bool) → b ≡ true → IsTrue b
true_is b h = search rules

pub ended : (text front row : List ℕ) (last : ℕ) (b : Bool) → text ≡ front ++ last ∷ [] → last ≡ 10
    → b ≡ bytes_eq front row →
    (IsTrue b → text ≡ row ++ 10 ∷ []) × (text ≡ row ++ 10 ∷ [] → IsTrue b)
ended text front row last b e feed told =
    let whole : text ≡ front ++ 10 ∷ [] = e ∙ ap (λ n. front ++ n ∷ []) feed in (
      λ h. whole ∙ ap (λ (t : List ℕ). t ++ 10 ∷ []) ((bytes_eq-Decides front row).0 (sym told ∙ is_true b h)),
      λ h. true_is b (told ∙ (bytes_eq-Decides front row).1 (append_cancel_right front row (10 ∷ []) (sym whole ∙ h))),
    )
