-- The section that has the front of a place.
use Rattle.std.proofs.Common.{◌≡◌, ℕ, zero, suc, ◌+◌, ◌-◌, ◌*◌, ◌<◌, ◌≤◌, ◌==◌, true, false, List, [], ◌∷◌, length}
use Rattle.std.proofs.Common.{take, filter, slice_get, Some, refl, ap, arith, ⊎_elim, eqb-true}
use Rattle.std.proofs.lemmas.Bool.{cases_lt, cases_Bool}
use Rattle.std.proofs.Math.Seq.{take-length}
use Rattle.std.specs.List.{sum_by}
use Rattle.law_outside.specs.Outside.{front_end, Stretch}
use Rattle.law_promises.proofs.Spans.{Ends}
use Rattle.law_promises.proofs.Standstill.{front_at}
use Rattle.rbc_spec.proofs.Lists.{on_line}
use Rattle.rbc_spec.proofs.Places.{IsAt, on_section, section_on, start_is, end_is, end_of, ends_rise, before}
use Rattle.rbc_spec.proofs.Sums.{sum_up_to, sum_kept, sum_left, sum_rises}
use Rattle.rbc_spec.specs.Line.{Line, Section}
use Rattle.rbc_spec.specs.Place.{Place}
use Rattle.rbc_spec.specs.Sections.{section_count, track_end}

-- the section of a track that has a point
record Has (track r : ℕ) (xs : List Section) : Type 0 where
  pub i : ℕ
  pub x : Section
  pub at : slice_get xs i ≡ Some x
  pub on : (x.track == track) ≡ true
  pub from : 10 * sum_up_to (λ q. q.metres) (λ q. q.track == track) xs i ≤ r
  pub to : r < 10 * (sum_up_to (λ q. q.metres) (λ q. q.track == track) xs i + x.metres)

lies_in : (track : ℕ) (xs : List Section) (r : ℕ) → r < 10 * sum_by (λ q. q.metres) (filter (λ q. q.track == track) xs)
    → Has track r xs
lies_in track [] r low = absurd (omega arith)
lies_in track (x ∷ xs) r low = ⊎_elim
    (λ (is : (x.track == track) ≡ true). ⊎_elim
    (λ (here : r < 10 * x.metres).
    record { i = 0; x = x; at = refl; on = is; from = omega arith; to = omega (arith, here) })
    (λ (later : 10 * x.metres ≤ r). deeper is later
    (lies_in track xs (r - 10 * x.metres)
    (omega (arith, sum_kept (λ (q : Section). q.metres) (λ q. q.track == track) x xs is))))
    (cases_lt r (10 * x.metres)))
    (λ (fails : (x.track == track) ≡ false). beside fails
    (lies_in track xs r (omega (arith, sum_left (λ (q : Section). q.metres) (λ q. q.track == track) x xs fails))))
    (cases_Bool (x.track == track))
  where
    deeper : (x.track == track) ≡ true → 10 * x.metres ≤ r → Has track (r - 10 * x.metres) xs → Has track r (x ∷ xs)
    deeper is later h =
        let e = sum_kept (λ (q : Section). q.metres) (λ q. q.track == track) x (take h.i xs) is in
        record {
          i = suc h.i;
          x = h.x;
          at = h.at;
          on = h.on;
          from = omega (arith, e, h.from);
          to = omega
              (arith, e, h.to);
        }

    beside : (x.track == track) ≡ false → Has track r xs → Has track r (x ∷ xs)
    beside fails h =
        let e = sum_left (λ (q : Section). q.metres) (λ q. q.track == track) x (take h.i xs) fails in
        record {
          i = suc h.i;
          x = h.x;
          at = h.at;
          on = h.on;
          from = omega (arith, e, h.from);
          to = omega
              (arith, e, h.to);
        }

module _ (line : Line) where
  -- A point is not in advance of the front, and not of the end of the track. Then it is not in advance of the section
  -- that has the front.
  pub reaches : (place : Place) (e point : ℕ) → front_end line place (section_count line) ≡ Some e
      → point ≤ place.front → point ≤ 10 * track_end line place.track → point ≤ 10 * e
  reaches place e zero is front low = omega arith
  reaches place e (suc r) is front low =
      let h = lies_in place.track line.sections r (omega (arith, low)) in
      let at : IsAt line place.track h.i h.x = record { at = h.at; on = eqb-true h.x.track place.track h.on } in
      let on = on_section line place.track h.i h.x at in
      let f = front_at line place (section_count line) e is in
      let start_at = start_is line place.track h.i h.x at in
      let end_at = end_of line place.track h.i h.x at in
      let from = h.from in
      let to = h.to in
      let no_later = f.later h.i (on_line line place.track h.i on) on (omega (arith, start_at, from, front)) in
      let rises = ends_rise line place.track h.i f.last on f.on no_later in
      let last = f.is in
      omega (arith, rises, last, end_at, to)

  pub end_low : (z : Stretch) → Ends line z → z.end ≤ track_end line z.track
  end_low z ends =
      let p = section_on line z.track ends.last ends.on in
      let is = ends.is in
      let end_at = end_is line z.track ends.last p.0 p.1 in
      let low = on_line line z.track ends.last ends.on in
      let rises = sum_rises (λ (q : Section). q.metres) (λ q. q.track == z.track) line.sections (ends.last + 1)
      (length line.sections) (omega (arith, low)) in
      let whole : before line z.track (length line.sections) ≡ track_end line z.track =
      ap (λ (xs : List Section). sum_by (λ q. q.metres) (filter (λ q. q.track == z.track) xs))
      (take-length line.sections) in
      omega (arith, is, end_at, rises, whole)
