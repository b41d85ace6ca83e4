-- The frames that a log's centre has sent, by the log's entries.
use Rattle.std.proofs.Common.{◌-◌, ◌==◌, ◌∙◌, ◌≡◌, arith, Contains, if◌then◌else◌, inl, inr, List, map, ne_eqb, None}
use Rattle.std.proofs.Common.{Option, slice_get, Some, subst, ℕ}
use Rattle.std.proofs.lemmas.Bool.{cond-false}
use Rattle.std.proofs.lemmas.Bool.Decides.{eqb_tells}
use Rattle.std.proofs.lemmas.Option.{get_or_from_slice_get, slice_get_within}
use Rattle.law_logs.proofs.Sorted.{sent_replayed, sent_under}
use Rattle.law_logs.specs.Logs.{sent_to}
use Rattle.rbc_centre.specs.States.{line_of, number_of, state_of}
use Rattle.rbc_centre.specs.Views.{frame_number}
use Rattle.rbc_log.specs.Entries.{entry_of}
use Rattle.rbc_log.specs.Log.{IsReplaying, LogValue}
use Rattle.rbc_spec.specs.Centre.{beginning}
use Rattle.rbc_spec.specs.Frame.{Frame}

pub sent_is : (l : LogValue) → IsReplaying l → (d : ℕ) → (state_of l.core).sent d ≡ sent_to d (map entry_of l.entries)
unfolding beginning
sent_is l r d =
    sent_replayed (line_of l.core) (number_of l.core) d (beginning (line_of l.core) (number_of l.core))
    (map entry_of l.entries) (state_of l.core) r

-- a frame of the log is found under its number
pub sent_number : (l : LogValue) → IsReplaying l → (d : ℕ) (f : Frame) → Contains (sent_to d (map entry_of l.entries)) f
    → frame_number (sent_to d (map entry_of l.entries)) f.number ≡ Some f
sent_number l r d f there =
    let frames : List Frame = sent_to d (map entry_of l.entries) in
    let it = sent_under (line_of l.core) (number_of l.core) d (map entry_of l.entries) (state_of l.core) f r there in
    cond-false (f.number == 0) None (slice_get frames (f.number - 1))
    (ne_eqb f.number 0 (λ (h : f.number ≡ 0). absurd (omega (arith, h, it.0))))
    ∙ subst (λ (xs : List Frame). slice_get xs (f.number - 1) ≡ Some f) (sent_is l r d) it.1

pub is_contained : (frames : List Frame) (n : ℕ) (f : Frame) → frame_number frames n ≡ Some f → Contains frames f
is_contained frames n f is = elim (eqb_tells n 0) [
  | inl t ↦ let none : ◌≡◌ {A = Option Frame} None (Some f) =
      subst (λ b. (if b then None else slice_get frames (n - 1)) ≡ Some f) t.0 is in absurd cc
  | inr h ↦
      let at : slice_get frames (n - 1) ≡ Some f =
      subst (λ b. (if b then None else slice_get frames (n - 1)) ≡ Some f) h.0 is in
      (n - 1, slice_get_within frames (n - 1) f at, get_or_from_slice_get frames (n - 1) f f at)
]
