-- A crash, and any number of crashes.
use Rattle.std.proofs.Common.{[], ◌∙◌, ◌∷◌, ◌≡◌, ◌≤◌, All, AllPairs, ap, arith, drop, List, map, Ok, refl, subst}
use Rattle.std.proofs.Common.{sym, take}
use Rattle.std.proofs.Common.{ℕ}
use Rattle.std.proofs.lemmas.List.Elements.{All-cons, All-nil, All-take, All-weaker}
use Rattle.std.proofs.lemmas.List.Kept.{AllPairs-cons}
use Rattle.law_crash.proofs.Cuts.{all_parts, from_longer, from_same, from_whole, kept_same, same_less, take_less}
use Rattle.law_crash.proofs.Orders.{Between, runs_on}
use Rattle.law_crash.specs.Crashes.{ArePeriods, AreSafe, CrashesTheorem, CrashTheorem, Follows, KeepsSentOut}
use Rattle.law_crash.specs.Crashes.{IsSafePeriod, IsSafeRun, IsWrittenFirst, no_period}
use Rattle.law_crash.specs.Crashes.{IsOrder, Period}
use Rattle.law_logs.proofs.BeginningsLemmas.Written.{cut_logs}
use Rattle.law_logs.proofs.Merged.{ended, family, replayed}
use Rattle.law_logs.specs.Beginnings.Beginnings.{cut}
use Rattle.law_logs.specs.Logs.{answered, AreLogs, happened, IsFromLog, IsLegal, LogEntry, Replays}
use Rattle.law_promises.proofs.ArrivalLemmas.Runs.{received_safe}
use Rattle.law_promises.proofs.Pieces.{run_safe}
use Rattle.law_refinement.proofs.Promises.{whole_line}
use Rattle.rbc_spec.specs.Centre.{beginning, Centre}
use Rattle.rbc_spec.specs.Line.{IsLine, Line}
use Rattle.rbc_spec.specs.Step.{Event}
use Rattle.rbc_spec.specs.World.{new_world, World, world_run}

-- ## Logs that are legal are safe

module _ (line : Line) (ok : IsLine line) where
  safe_run : (entries : List LogEntry) (last : World)
      → world_run line (new_world line) (map happened entries) ≡ Ok (map answered entries, last)
      → IsSafeRun line entries
  safe_run entries last runs =
      let whole = whole_line line (map happened entries) (map answered entries) last ok runs in
      record {
        last = last;
        runs = runs;
        outside = run_safe line ok (map happened entries) (map answered entries) whole.last whole.is_run;
        received = λ came h.
            received_safe line ok (map happened entries) (map answered entries) came whole.last whole.is_run h;
      }

  module _ (logs : ℕ → List LogEntry) (ends : ℕ → Centre) (are : AreLogs line logs ends) where
    begins : (entries : List LogEntry) → IsOrder logs entries
        → Between line (ended line ends) (new_world line) [] entries
    unfolding new_world
    begins entries is = record {
      past = λ d. refl;
      left = λ d. subst (λ (es : List LogEntry). Replays line d (beginning line d) es (ended line ends d))
          (sym (is.each d)) (replayed line logs ends are d);
      known = λ d none. is.each d ∙ are.no_other d none;
    }

    pub safe_logs : IsLegal logs → AreSafe line logs
    safe_logs legal = record {
      legal = legal;
      merge = λ merged is.
          let run = family line logs ends are legal merged is in
          safe_run merged run.last run.runs;
      order = λ entries is.
          let run = runs_on line (ended line ends) (new_world line) [] entries (begins entries is) is.sent_before in
          safe_run entries run.0 run.1;
    }

-- ## One crash

-- Logs begin with the entries of the journals. If other logs have all frames that were sent out, they have each frame
-- that was taken.
legal_on : (logs again others : ℕ → List LogEntry) (out kept : ℕ → ℕ)
    → ((c : ℕ) → cut kept again c ≡ cut kept logs c)
    → ((c : ℕ) → All (λ (e : LogEntry). IsFromLog (cut out logs) c e.event) (cut kept logs c))
    → ((c : ℕ) (event : Event) → IsFromLog (cut out logs) c event → IsFromLog others c event)
    → ((c : ℕ) → All (λ (e : LogEntry). IsFromLog others c e.event) (drop (kept c) (again c)))
    → (c : ℕ) → All (λ (e : LogEntry). IsFromLog others c e.event) (again c)
legal_on logs again others out kept same framed on rest c =
    all_parts (λ (e : LogEntry). IsFromLog others c e.event) (kept c) (again c)
    (subst (λ (es : List LogEntry). All (λ (e : LogEntry). IsFromLog others c e.event) es) (sym (same c))
    (All-weaker (λ (e : LogEntry). IsFromLog (cut out logs) c e.event) (λ (e : LogEntry). IsFromLog others c e.event)
    (λ e h. on c e.event h) (cut kept logs c) (framed c)))
    (rest c)

-- First parts of logs that have all that was sent out are legal and safe.
module _ (line : Line) (ok : IsLine line) (logs : ℕ → List LogEntry) (ends : ℕ → Centre) (out count : ℕ → ℕ)
    (are : AreLogs line logs ends)
    (framed : (c : ℕ) → All (λ (e : LogEntry). IsFromLog (cut out logs) c e.event) (cut count logs c))
    (less : (c : ℕ) → out c ≤ count c) where
  legal_parts : IsLegal (cut count logs)
  legal_parts c =
      All-weaker (λ (e : LogEntry). IsFromLog (cut out logs) c e.event)
      (λ (e : LogEntry). IsFromLog (cut count logs) c e.event)
      (λ e h. from_longer out count logs less c e.event h) (cut count logs c) (framed c)

  safe_parts : AreSafe line (cut count logs)
  safe_parts = let part = cut_logs line logs ends count are in
      safe_logs line ok (cut count logs) part.0 part.1 legal_parts

pub after_a_crash : CrashTheorem
after_a_crash line logs again ends stops out kept ok are crash others restart =
    let same = kept_same line logs again ends stops kept are others restart.resumed in
    let out_again : (c : ℕ) → cut out again c ≡ cut out logs c =
    λ c. same_less (out c) (kept c) (again c) (logs c) (crash.first_written c) (same c) in
    record {
      kept_again = same;
      out_again = out_again;
      safe = safe_logs line ok again stops others
          (legal_on logs again again out kept same crash.framed
          (λ c event h. from_whole out again c event
          (from_same (cut out logs) (cut out again) (λ d. sym (out_again d)) c event h))
          restart.framed);
      journals = safe_parts line ok logs ends out kept are crash.framed crash.first_written;
    }

-- ## Any number of crashes

module _ (line : Line) where
  -- the properties of each period
  record Known (p : Period) : Type 0 where
    ends : ℕ → Centre
    are : AreLogs line p.logs ends
    framed : (c : ℕ) → All (λ (e : LogEntry). IsFromLog (cut p.out p.logs) c e.event) (p.logs c)
    first : IsWrittenFirst p

  -- each first part of the logs of a period took frames that were sent out
  parts_framed : (p : Period) → Known p → (count : ℕ → ℕ) (c : ℕ)
      → All (λ (e : LogEntry). IsFromLog (cut p.out p.logs) c e.event) (cut count p.logs c)
  parts_framed p known count c =
      All-take (λ (e : LogEntry). IsFromLog (cut p.out p.logs) c e.event) (count c) (p.logs c) (known.framed c)

  none_known : Known no_period
  none_known = record {
    ends = beginning line;
    are = record { replays = λ c t. refl; no_other = λ c f. refl };
    framed = λ c. All-nil (λ (e : LogEntry). IsFromLog (cut no_period.out no_period.logs) c e.event);
    first = λ c. omega arith;
  }

  module _ (before now : Period) (known : Known before) (h : Follows line before now) (first : IsWrittenFirst now) where
    same_kept : (c : ℕ) → cut before.kept now.logs c ≡ cut before.kept before.logs c
    same_kept = kept_same line before.logs now.logs known.ends h.replays.0 before.kept known.are h.replays.1 h.resumed

    same_out : KeepsSentOut before now
    same_out c = same_less (before.out c) (before.kept c) (now.logs c) (before.logs c) (known.first c) (same_kept c)

    known_on : Known now
    known_on = record {
      ends = h.replays.0;
      are = h.replays.1;
      framed = legal_on before.logs now.logs (cut now.out now.logs) before.out before.kept same_kept
          (parts_framed before known before.kept)
          (λ c event is. from_longer before.out now.out now.logs h.still_out c event
          (from_same (cut before.out before.logs) (cut before.out now.logs) (λ d. sym (same_out d)) c event is))
          h.framed;
      first = first;
    }

  -- all later periods have all that was sent out by now
  out_later : (before : Period) (periods : List Period) → Known before → ArePeriods line before periods
      → All (KeepsSentOut before) periods
  out_later before [] known h = All-nil (KeepsSentOut before)
  out_later before (now ∷ later) known h =
      All-cons (KeepsSentOut before) now later (same_out before now known h.0 h.1)
      (All-weaker (KeepsSentOut now) (KeepsSentOut before)
      (λ p has c. sym (take_less (before.out c) (now.out c) (p.logs c) (h.0.still_out c))
      ∙ (ap (take (before.out c)) (has c)
      ∙ (take_less (before.out c) (now.out c) (now.logs c) (h.0.still_out c)
      ∙ same_out before now known h.0 h.1 c)))
      later (out_later now later (known_on before now known h.0 h.1) h.2))

  all_out : (before : Period) (periods : List Period) → Known before → ArePeriods line before periods
      → AllPairs KeepsSentOut periods
  all_out before [] known h = λ i j d under within. absurd (let wrong : ⊥ = omega (arith, within) in wrong)
  all_out before (now ∷ later) known h =
      AllPairs-cons KeepsSentOut now later (out_later now later (known_on before now known h.0 h.1) h.2)
      (all_out now later (known_on before now known h.0 h.1) h.2)

  all_safe : IsLine line → (before : Period) (periods : List Period) → Known before → ArePeriods line before periods
      → All (IsSafePeriod line) periods
  all_safe ok before [] known h = All-nil (IsSafePeriod line)
  all_safe ok before (now ∷ later) known h =
      let it = known_on before now known h.0 h.1 in
      All-cons (IsSafePeriod line) now later
      (record {
        logs = safe_logs line ok now.logs it.ends it.are
            (λ c. All-weaker (λ (e : LogEntry). IsFromLog (cut now.out now.logs) c e.event)
            (λ (e : LogEntry). IsFromLog now.logs c e.event)
            (λ e is. from_whole now.out now.logs c e.event is) (now.logs c) (it.framed c));
        out = safe_parts line ok now.logs it.ends now.out now.out it.are (parts_framed now it now.out)
            (λ c. omega arith);
        journals = safe_parts line ok now.logs it.ends now.out now.kept it.are (parts_framed now it now.kept) it.first;
      })
      (all_safe ok now later it h.2)

pub after_crashes : CrashesTheorem
after_crashes line periods ok h = (
  all_out line no_period periods (none_known line) h,
  all_safe line ok no_period periods (none_known line) h,
)
