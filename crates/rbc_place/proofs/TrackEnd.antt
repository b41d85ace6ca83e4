-- The end of a track, section by section.
use Rattle.std.proofs.Common.{[], ◌++◌, ◌+◌, ◌-◌, ◌<◌, ◌==◌, ◌∙◌, ◌∷◌, ◌≡◌, ◌≤◌, ap, arith, Bool, cond, false, inl, inr}
use Rattle.std.proofs.Common.{length, List, None, Option, refl, Some, suc, sym, take, true, zero, ℕ}
use Rattle.std.proofs.lemmas.Bool.{false≢true}
use Rattle.std.proofs.lemmas.Bool.Decides.{eqb_tells}
use Rattle.std.proofs.lemmas.List.{take_all, take_more}
use Rattle.std.proofs.lemmas.List.Elements.{filter-append}
use Rattle.std.proofs.lemmas.List.Sums.{sum_by-append, sum_by-cons}
use Rattle.std.proofs.lemmas.Option.{get_or_from_slice_get, none-some, slice_get_within}
use Rattle.std.specs.List.{filter, slice_get, sum_by}
use Rattle.std.specs.Option.{option_map_or}
use Rattle.rbc_place.proofs.CoveredSections.{ahead_off, earlier_off}
use Rattle.rbc_place.specs.Places.{is_in_rear}
use Rattle.rbc_spec.specs.Line.{end, IsLine, Line, Section, section, start}
use Rattle.rbc_spec.specs.Sections.{is_on, track_end}

-- # The end of a track, section by section.

-- the lengths of the track's sections among these
abbrev pub metres_of : ℕ → List Section → ℕ
metres_of track ps = sum_by (λ (p : Section). p.metres) (filter (λ (p : Section). p.track == track) ps)

take_found : (ps : List Section) (s : ℕ) (p : Section) → slice_get ps s ≡ Some p → take (s + 1) ps ≡ take s ps ++ p ∷ []
take_found ps s p found =
    let within : s < length ps = slice_get_within ps s p found in
    take_more ps s p within ∙ ap (λ q. take s ps ++ q ∷ []) (get_or_from_slice_get ps s p p found)

metres_more : (track : ℕ) (ps : List Section) (p : Section)
    → metres_of track (ps ++ p ∷ []) ≡ metres_of track ps + cond (p.track == track) p.metres 0
metres_more track ps p =
    ap (sum_by (λ (q : Section). q.metres)) (filter-append (λ (q : Section). q.track == track) ps (p ∷ []))
    ∙ sum_by-append (λ (q : Section). q.metres) (filter (λ (q : Section). q.track == track) ps)
    (filter (λ (q : Section). q.track == track) (p ∷ []))
    ∙ ap (λ n. metres_of track ps + n) (one (p.track == track))
  where
    one : (b : Bool) → sum_by (λ (q : Section). q.metres) (cond b (p ∷ []) []) ≡ cond b p.metres 0
    one true = sum_by-cons (λ (q : Section). q.metres) p [] ∙ (omega arith)
    one false = refl

here_at : (line : Line) (track s : ℕ) (o : Option Section) → section line s ≡ o
    → option_map_or (λ (p : Section). p.track == track) o false ≡ true
    → end line s ≡ metres_of track (take (s + 1) line.sections)
unfolding start end
here_at line track s None found on = absurd (false≢true on)
here_at line track s (Some p) found on =
    elim (eqb_tells p.track track) [
      | inl e ↦
          rw found
          (ap (λ k. metres_of k (take s line.sections) + p.metres) e.1
          ∙ sym (ap (metres_of track) (take_found line.sections s p found) ∙ metres_more track (take s line.sections) p
          ∙ ap (λ b. metres_of track (take s line.sections) + cond b p.metres 0) e.0))
      | inr e ↦ absurd (false≢true (sym e.0 ∙ on))
    ]

-- the track goes on to the end of a section of it
pub ends_here : (line : Line) (track s : ℕ) → is_on line track s ≡ true
    → end line s ≡ metres_of track (take (s + 1) line.sections)
ends_here line track s on = here_at line track s (section line s) refl on

past_at : (line : Line) (track s : ℕ) (o : Option Section) → section line s ≡ o → s < length line.sections
    → option_map_or (λ (p : Section). p.track == track) o false ≡ false
    → metres_of track (take s line.sections) ≡ metres_of track (take (s + 1) line.sections)
past_at line track s None found within off = absurd (none_within line.sections s within found)
  where
    none_within : (ps : List Section) (i : ℕ) → i < length ps → slice_get ps i ≡ None → ⊥
    none_within [] i lt none = omega arith
    none_within (p ∷ ps) zero lt none = none-some p (sym none)
    none_within (p ∷ ps) (suc i) lt none = none_within ps i (omega arith) none
past_at line track s (Some p) found within off =
    sym (ap (metres_of track) (take_found line.sections s p found) ∙ metres_more track (take s line.sections) p
    ∙ ap (λ b. metres_of track (take s line.sections) + cond b p.metres 0) off ∙ (omega arith))

-- a section of another track does not lengthen the track
pub ends_before : (line : Line) (track s : ℕ) → s < length line.sections → is_on line track s ≡ false
    → metres_of track (take s line.sections) ≡ metres_of track (take (s + 1) line.sections)
ends_before line track s within off = past_at line track s (section line s) refl within off

-- sections that are not on the track add nothing to it
pub ends_past : (line : Line) (track s k : ℕ) → s + k ≤ length line.sections
    → ((m : ℕ) → s ≤ m → m < s + k → is_on line track m ≡ false)
    → metres_of track (take s line.sections) ≡ metres_of track (take (s + k) line.sections)
ends_past line track s zero within off = let e : s + zero ≡ s = omega arith in rw e refl
ends_past line track s (suc k) within off =
    let e : s + suc k ≡ s + k + 1 = omega arith in
    rw e (ends_past line track s k (omega arith) (λ m low high. off m low (omega arith))
    ∙ ends_before line track (s + k) (omega arith) (off (s + k) (omega arith) (omega arith)))

-- # The end of a track, by the last section that is not of a later one.

-- all of a track is before the first section of a later one
whole : (line : Line) (track r : ℕ) → r ≤ length line.sections
    → ((s : ℕ) → r ≤ s → is_in_rear line track None s ≡ false)
    → metres_of track (take r line.sections) ≡ track_end line track
whole line track r bound ahead =
    let rest : r + (length line.sections - r) ≡ length line.sections = omega arith in
    ends_past line track r (length line.sections - r) (omega arith) (λ s low high. ahead_off line track s (ahead s low))
    ∙ ap (λ n. metres_of track (take n line.sections)) rest
    ∙ ap (metres_of track) (take_all (length line.sections) line.sections (omega arith))

-- a track ends with its last section
pub ends_with : (line : Line) (track r : ℕ) → r ≤ length line.sections
    → ((s : ℕ) → r ≤ s → is_in_rear line track None s ≡ false)
    → 0 < r → is_on line track (r - 1) ≡ true → end line (r - 1) ≡ track_end line track
ends_with line track r bound ahead some on =
    let next : r - 1 + 1 ≡ r = omega arith in
    ends_here line track (r - 1) on ∙ ap (λ n. metres_of track (take n line.sections)) next
    ∙ whole line track r bound ahead

-- if the last section before those of later tracks is not of the track, the track has none
pub ends_nowhere : (line : Line) → IsLine line → (track r : ℕ) → r ≤ length line.sections
    → ((s : ℕ) → s < r → is_in_rear line track None s ≡ true)
    → ((s : ℕ) → r ≤ s → is_in_rear line track None s ≡ false) → (0 < r → is_on line track (r - 1) ≡ false)
    → 0 ≡ track_end line track
ends_nowhere line ok track r bound in_rear ahead off =
    let all : 0 + r ≡ r = omega arith in
    ends_past line track 0 r (omega arith)
    (λ s low high. earlier_off line ok track s (r - 1) (omega arith) (in_rear (r - 1) (omega arith))
    (off (omega arith)))
    ∙ ap (λ n. metres_of track (take n line.sections)) all ∙ whole line track r bound ahead
