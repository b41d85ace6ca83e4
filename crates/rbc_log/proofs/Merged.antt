-- A sorted list of all entries is a merge, and one run.
use Rattle.std.proofs.Common.{[], ◌∷◌, ◌≡◌, ◌≤◌, All, arith, Bool, false, IsPermutation, length, List, map}
use Rattle.std.proofs.Common.{slice_index_or, subst, sym, ℕ}
use Rattle.std.proofs.lemmas.Bool.Decides.{nat_tests}
use Rattle.std.proofs.lemmas.Cmp.{nat_cmp_total, on_total, then_total}
use Rattle.std.proofs.lemmas.List.{get_or-map, length-map}
use Rattle.std.proofs.lemmas.List.Sorted.{ranks_by, sorted_far}
use Rattle.std.specs.Cmp.{IsStrictWeakOrder}
use Rattle.std.specs.List.Sorted.{IsSortedBy}
use Rattle.std.specs.Ordering.{is_lt, nat_cmp, ordering_then}
use Rattle.law_logs.proofs.Merged.{family}
use Rattle.law_logs.proofs.Sorted.{merges}
use Rattle.law_logs.specs.Logs.{answered, ComesBefore, happened, IsInOrder, IsMerge, IsWorldRun, LogEntry}
use Rattle.law_promises.proofs.Pieces.{run_safe}
use Rattle.law_refinement.proofs.Promises.{run_sound, the_run}
use Rattle.rbc_log.proofs.Sides.{are_logs, by_centre, moved}
use Rattle.rbc_log.specs.declared.entry.Entry.{Entry}
use Rattle.rbc_log.specs.Entries.{entry_of, written_of}
use Rattle.rbc_log.specs.Log.{IsReplaying, LogValue}
use Rattle.rbc_log.specs.Merge.{all_entries, AreOfCentres, AreOfOneLine, ends_by, IsMerged, logs_by, MakesOneRun}
use Rattle.rbc_spec.specs.ReadOff.{IsLineRun}

-- ## By stamp and centre

abbrev pub earlier : ℕ → ℕ → ℕ → ℕ → Bool
earlier s c t d = is_lt (ordering_then (nat_cmp s t) (nat_cmp c d))

not_earlier : (s c t d : ℕ) → earlier s c t d ≡ false → (t ≤ s) × (t ≡ s → d ≤ c)
not_earlier s c t d = grind (arith, nat_tests)

abbrev pub entry_before : Entry → Entry → Bool
entry_before a b = earlier a.outcome.stamp a.centre b.outcome.stamp b.centre

entries_order : IsStrictWeakOrder entry_before
entries_order =
    ranks_by (then_total (on_total (λ (e : Entry). e.outcome.stamp) nat_cmp_total)
    (on_total (λ (e : Entry). e.centre) nat_cmp_total)) (λ (e : Entry). e)

pub ordered : (es : List Entry) → IsSortedBy entry_before es → IsInOrder (map entry_of es)
ordered [] up i j d under within = absurd (let wrong : ⊥ = omega (arith, within) in wrong)
ordered (e ∷ es) up i j d under within =
    let all : List Entry = e ∷ es in
    let long : length (map entry_of all) ≡ length all = length-map all entry_of in
    let at_i = get_or-map entry_of all i e d (omega (arith, under, within, long)) in
    let at_j = get_or-map entry_of all j e d (omega (arith, within, long)) in
    let before : ComesBefore (entry_of (slice_index_or all i e)) (entry_of (slice_index_or all j e)) =
    not_earlier _ _ _ _ (sorted_far entry_before entries_order all up i j e (omega (arith, under))
    (omega (arith, within, long))) in
    subst (λ (a : LogEntry). ComesBefore a (slice_index_or (map entry_of all) j d)) (sym at_i)
    (subst (λ (b : LogEntry). ComesBefore (entry_of (slice_index_or all i e)) b) (sym at_j) before)

-- ## The result of a merge

pub merged : (logs : List LogValue) (es : List Entry) → AreOfCentres logs → AreOfOneLine logs → All IsReplaying logs
    → IsPermutation (map written_of (all_entries logs)) (map written_of es)
    → IsInOrder (map entry_of es) → IsMerged logs es
merged logs es centres one r once up =
    let is : IsMerge (logs_by logs) (map entry_of es) = merges one.0 (logs_by logs) (ends_by one.0 logs)
    (are_logs one.0 logs one.1 r) (map entry_of (all_entries logs)) (map entry_of es)
    (by_centre logs centres r) (moved (all_entries logs) es once) up in
    record { centres = centres; line = one; once = once; merge = is }

pub one_run : (logs : List LogValue) (es : List Entry) → All IsReplaying logs → IsMerged logs es → MakesOneRun logs es
one_run logs es r is line ok same legal =
    let world : IsWorldRun line (map entry_of es) (ends_by line logs) =
    family line (logs_by logs) (ends_by line logs) (are_logs line logs same r) legal (map entry_of es) is.merge in
    let run : IsLineRun line (map happened (map entry_of es)) (map answered (map entry_of es)) world.last =
    the_run line ok (map happened (map entry_of es)) (map answered (map entry_of es)) world.last world.runs in
    record {
      world = world;
      line_centre = run;
      outside = run_safe line ok (map happened (map entry_of es)) (map answered (map entry_of es)) run.last run.is_run;
      sound = run_sound line ok (map happened (map entry_of es)) (map answered (map entry_of es)) world.last world.runs;
    }
