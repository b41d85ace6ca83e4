-- The lists of a tested line file, and the faults of a text.
use Rattle.std.proofs.Common.{[], ◌+◌, ◌==◌, ◌∙◌, ◌∷◌, ◌≡◌, ap, arith, filter, inl, inr, length, List, map, MatchOption}
use Rattle.std.proofs.Common.{not, option_map, refl, Some, sum_by, sym, take, true, ℕ}
use Rattle.std.proofs.lemmas.Bool.{cases_Bool}
use Rattle.std.proofs.lemmas.List.{take-map}
use Rattle.std.proofs.lemmas.List.Sums.{sum_by-cons}
use Rattle.std.proofs.lemmas.Option.{same_Some, slice_get-map}
use Rattle.std.specs.List.{list_any, slice_get}
use Rattle.std.specs.Str.{bytes_eq}
use Rattle.rbc_line.proofs.BuildSteps.{true_of_not}
use Rattle.rbc_line.proofs.FileFacts.{element_of, none_at}
use Rattle.rbc_line.proofs.Numbered.{Ascends-order}
use Rattle.rbc_line.proofs.Sound.{centre_number-found}
use Rattle.rbc_line.specs.declared.fault.LineFault.{LineFault}
use Rattle.rbc_line.specs.declared.fault.LineFault.TheVariants.{Centres, Home, Length, Memory, Number, Order, Sections}
use Rattle.rbc_line.specs.declared.fault.LineFault.TheVariants.{Shape, Text, Tracks, Trains, Twice}
use Rattle.rbc_line.specs.declared.parts.Rows.{Rows}
use Rattle.rbc_line.specs.declared.parts.Section.{Section as SectionRow}
use Rattle.rbc_line.specs.Faults.{AppliesToFile, AppliesToTables, HasNoneBelow, HasOrderFault, IsLowest, Names}
use Rattle.rbc_line.specs.Homes.{HasOwnStarts, IsAscending, IsSplit, IsUnsplit}
use Rattle.rbc_line.specs.LineFile.{centre_number, FileSection, line_file, line_of, line_section, LineFile}
use Rattle.rbc_line.specs.Tables.{HasStarts}
use Rattle.rbc_line.specs.Tested.{Ascends, IsTested}
use Rattle.rbc_line.specs.Views.{line_of_rows, section_of}
use Rattle.rbc_spec.specs.Line.{HasConsecutiveHomes, Line, Section, section, start}
use Rattle.toml.specs.Data.{Members}
use Rattle.toml.specs.Parse.{parse_document}

-- ## Lists and the content of the file

pub sections_same : (rows : Rows) (file : LineFile) → line_of_rows rows ≡ line_of file
    → map section_of rows.sections.items ≡ map (line_section file.centres) file.tracks.sections
unfolding line_of
sections_same rows file same = ap (λ line. line.sections) same

-- the section of the file from which a section in memory was made
pub written : (file : LineFile) (rows : List SectionRow) (s : ℕ) (p : SectionRow)
    → map section_of rows ≡ map (line_section file.centres) file.tracks.sections → slice_get rows s ≡ Some p
    → (x : FileSection) × (slice_get file.tracks.sections s ≡ Some x) × (line_section file.centres x ≡ section_of p)
written file rows s p same at =
    element_of (line_section file.centres) file.tracks.sections s (section_of p)
    (sym (ap (λ xs. slice_get xs s) same) ∙ slice_get-map section_of rows s ∙ ap (option_map section_of) at)

pub ascending : (file : LineFile) (rows : List SectionRow)
    → map section_of rows ≡ map (line_section file.centres) file.tracks.sections
    → Ascends 0 (length file.tracks.names) file.tracks.sections → IsAscending rows
ascending file rows same order s e p q le at_s at_e =
    let a = written file rows s p same at_s in
    let b = written file rows e q same at_e in
    omega (
      arith,
      Ascends-order 0 (length file.tracks.names) file.tracks.sections s e a.0 b.0 order le a.1 b.1,
      ap (λ v. v.track) a.2,
      ap (λ v. v.track) b.2,
    )

home_known : (file : LineFile) (s : ℕ) (x : FileSection) → IsTested file → slice_get file.tracks.sections s ≡ Some x
    → list_any (λ c. bytes_eq c.name x.home) file.centres ≡ true
home_known file s x tested at =
    true_of_not _
    (none_at (λ v. not (list_any (λ c. bytes_eq c.name v.home) file.centres)) file.tracks.sections s x tested.homes at)

-- two homes of one number have one name
one_name : (file : LineFile) (s e : ℕ) (x y : FileSection) → IsTested file → slice_get file.tracks.sections s ≡ Some x
    → slice_get file.tracks.sections e ≡ Some y
    → centre_number file.centres x.home ≡ centre_number file.centres y.home → x.home ≡ y.home
one_name file s e x y tested at_s at_e same =
    let a = centre_number-found file x.home (home_known file s x tested at_s) in
    let b = centre_number-found file y.home (home_known file e y tested at_e) in
    let one : a.0 ≡ b.0 = same_Some a.0 b.0 (sym a.1 ∙ ap (slice_get file.centres) same ∙ b.1) in
    sym a.2 ∙ ap (λ c. c.name) one ∙ b.2

pub order_fault : (file : LineFile) (rows : List SectionRow) → IsTested file
    → map section_of rows ≡ map (line_section file.centres) file.tracks.sections → IsSplit rows → HasOrderFault file
unfolding HasOrderFault
order_fault file rows tested same (s, m, e, p, n, q, s_m, m_e, at_s, at_m, at_e, track, home, other) =
    let a = written file rows s p same at_s in
    let b = written file rows m n same at_m in
    let c = written file rows e q same at_e in
    let homes : centre_number file.centres a.0.home ≡ centre_number file.centres c.0.home =
    ap (λ v. v.home) a.2 ∙ home ∙ sym (ap (λ v. v.home) c.2) in (
      s,
      m,
      e,
      a.0,
      b.0,
      c.0,
      s_m,
      m_e,
      a.1,
      b.1,
      c.1,
      ap (λ v. v.track) a.2 ∙ track ∙ sym (ap (λ v. v.track) c.2),
      one_name file s e a.0 c.0 tested a.1 c.1 homes,
      λ equal. other (sym (ap (λ v. v.home) b.2) ∙ ap (centre_number file.centres) equal ∙ ap (λ v. v.home) a.2),
    )

pub consecutive : (rows : Rows) → IsUnsplit rows.sections.items → HasConsecutiveHomes (line_of_rows rows)
consecutive rows unsplit s m e p n q s_m m_e at_s at_m at_e track home =
    let a = element_of section_of rows.sections.items s p at_s in
    let b = element_of section_of rows.sections.items m n at_m in
    let c = element_of section_of rows.sections.items e q at_e in
    sym (ap (λ v. v.home) b.2)
    ∙ unsplit s m e a.0 b.0 c.0 s_m m_e a.1 b.1 c.1 (ap (λ v. v.track) a.2 ∙ track ∙ sym (ap (λ v. v.track) c.2))
    (ap (λ v. v.home) a.2 ∙ home ∙ sym (ap (λ v. v.home) c.2))
    ∙ ap (λ v. v.home) a.2

pub no_order_fault : (file : LineFile) → IsTested file → HasConsecutiveHomes (line_of file) → ¬ HasOrderFault file
unfolding HasOrderFault line_of
no_order_fault file tested homes (s, m, e, p, n, q, s_m, m_e, at_s, at_m, at_e, track, home, other) =
    let made =
    λ (i : ℕ) (x : FileSection) (at : slice_get file.tracks.sections i ≡ Some x).
    slice_get-map (line_section file.centres) file.tracks.sections i ∙ ap (option_map (line_section file.centres)) at in
    other (one_name file m s n p tested at_m at_s
    (homes s m e (line_section file.centres p) (line_section file.centres n) (line_section file.centres q)
    (omega (arith, s_m)) (omega (arith, m_e)) (made s p at_s) (made m n at_m) (made e q at_e) track
    (ap (centre_number file.centres) home)))

metres_of_map : (k : ℕ) (rows : List SectionRow)
    → sum_by (λ (q : SectionRow). q.metres) (filter (λ (q : SectionRow). q.track == k) rows)
    ≡ sum_by (λ (q : Section). q.metres) (filter (λ (q : Section). q.track == k) (map section_of rows))
metres_of_map k [] = refl
metres_of_map k (row ∷ rows) =
    let rest = metres_of_map k rows in
    elim (cases_Bool (row.track == k)) [
      | inl passes ↦
          rw passes
          (rw (
            sum_by-cons (λ (q : SectionRow). q.metres) row (filter (λ (q : SectionRow). q.track == k) rows),
            sum_by-cons (λ (q : Section). q.metres) (section_of row)
                (filter (λ (q : Section). q.track == k) (map section_of rows)),
          ) (ap (λ n. row.metres + n) rest))
      | inr fails ↦ rw fails rest
    ]

pub own_starts : (rows : Rows) → HasOwnStarts rows.sections.items → HasStarts (line_of_rows rows) rows.sections.items
unfolding start
own_starts rows own s row at =
    let found : section (line_of_rows rows) s ≡ Some (section_of row) =
    slice_get-map section_of rows.sections.items s ∙ ap (option_map section_of) at in
    rw found (own s row at ∙ metres_of_map row.track (take s rows.sections.items)
    ∙ ap (λ xs. sum_by (λ q. q.metres) (filter (λ q. q.track == row.track) xs))
    (sym (take-map section_of s rows.sections.items)))

-- ## Faults

pub none_at_all : (file : LineFile) → HasNoneBelow (AppliesToFile file) 12 → ¬ HasOrderFault file → (fault : LineFault)
    → ¬ AppliesToFile file fault
none_at_all file none order Memory found = found
none_at_all file none order Text found = found
none_at_all file none order Shape found = found
none_at_all file none order Centres found = none Centres (omega arith) found
none_at_all file none order Tracks found = none Tracks (omega arith) found
none_at_all file none order Sections found = none Sections (omega arith) found
none_at_all file none order Trains found = none Trains (omega arith) found
none_at_all file none order Length found = none Length (omega arith) found
none_at_all file none order Number found = none Number (omega arith) found
none_at_all file none order Twice found = none Twice (omega arith) found
none_at_all file none order Home found = none Home (omega arith) found
none_at_all file none order Order found = order found

pub named : (text : List ℕ) (ms : Members) (line : Line) → parse_document text ≡ Some ms
    → ((fault : LineFault) → ¬ AppliesToTables ms fault) → MatchOption (line_file ms) ⊥ (λ file. line ≡ line_of file)
    → Names text line
named text ms line some none is_line =
    record { sound = λ fault found. none fault (rw some at found); named = rw some is_line }

-- the order of homes is the last fault
pub at_order : (file : LineFile) → HasNoneBelow (AppliesToFile file) 12 → HasOrderFault file
    → IsLowest (AppliesToFile file) Order
at_order file none order = record { found = order; lowest = none }
