-- A walk over bits without a meaning.
use Rattle.std.proofs.Common.{[], ◌++◌, ◌+◌, ◌-◌, ◌<◌, ◌^◌, ◌∙◌, ◌∷◌, ◌≡◌, ◌≤◌, ap, append-nil, append_assoc, arith}
use Rattle.std.proofs.Common.{Bool, drop, length, length-append, List, refl, subst, sym, take, true, ℕ}
use Rattle.std.proofs.lemmas.List.{length-drop, length-take-le, take-append-drop}
use Rattle.std.specs.Prelude.{codes}
use Rattle.rbc_bits.proofs.Fields.{field-value_of, value_of-fits}
use Rattle.rbc_bits.specs.Bits.{field, value_of}
use Rattle.rbc_packets.proofs.Again.{joined-cons, joined-nil}
use Rattle.rbc_packets.specs.Layout.{joined}
use Rattle.text_fields.proofs.Kept.{kept-none, next-bits}
use Rattle.text_fields.specs.declared.shown.Shown.{Shown}
use Rattle.text_fields.specs.Messages.{bits_field, kept_content}
use Rattle.text_fields.specs.Named.{all_named, Named}
use Rattle.text_fields.specs.Walks.{Next, Shows, Takes}

-- of these bits those ahead are not shown yet
pub record Unread (bits rest : List Bool) (began look : List Shown × List Bool) (end count : ℕ) : Type 0 where
  pub ahead : List Bool
  pub left : look.1 ≡ ahead ++ rest
  pub shown : all_named look.0 ++ kept_content ahead ≡ all_named began.0 ++ kept_content bits
  pub end_is : end ≡ length rest
  pub few : count + length ahead ≤ length bits

pub no_bits : (bits rest : List Bool) (look : List Shown × List Bool) (end : ℕ) → look.1 ≡ bits ++ rest
    → end ≡ length rest → Unread bits rest look look end 0
no_bits bits rest look end e n = record { ahead = bits; left = e; shown = refl; end_is = n; few = omega arith }

pub ahead-long : (bits rest : List Bool) (began look : List Shown × List Bool) (end count : ℕ)
    (u : Unread bits rest began look end count) → length look.1 - end ≡ length u.ahead
ahead-long bits rest began look end count u = omega (
  arith,
  ap length u.left,
  length-append u.ahead rest,
  u.end_is,
)

-- the next of them are
abbrev first_bits : ℕ → List Bool → List Named
first_bits w ahead = record { name = codes "bits"; field = (w, value_of (take w ahead)) } ∷ []

bits-next : (w : ℕ) (ahead rest : List Bool) (look : List Shown × List Bool) (end : ℕ) → look.1 ≡ ahead ++ rest
    → end ≡ length rest → w ≤ length ahead → w ≤ 64 → Next (first_bits w ahead) (drop w ahead ++ rest) look end
bits-next w ahead rest look end e n within most =
    let long : length (take w ahead) ≡ w = length-take-le w ahead within in
    let value = value_of (take w ahead) in
    let own : joined ((w, value) ∷ []) ≡ take w ahead =
    joined-cons (w, value) [] ∙ (ap (λ t. field w value ++ t) joined-nil ∙ (append-nil (field w value)
    ∙ (ap (λ k. field k value) (sym long) ∙ field-value_of (take w ahead)))) in
    record {
      bits = e ∙ (ap (λ t. t ++ rest) (sym (take-append-drop w ahead))
          ∙ (append_assoc (take w ahead) (drop w ahead) rest ∙ ap (λ t. t ++ (drop w ahead ++ rest)) (sym own)));
      fit = ((most, subst (λ (k : ℕ). value_of (take w ahead) < 2 ^ k) long (value_of-fits (take w ahead))), tt);
      within = omega (arith, n, length-append (drop w ahead) rest);
    }

pub more_bits : (w : ℕ) (bits rest : List Bool) (began look new : List Shown × List Bool) (end new_end count : ℕ)
    (there : Bool) (u : Unread bits rest began look end count)
    → 0 < w → w ≤ 64 → w ≤ length u.ahead → (w < 64 → w ≡ length u.ahead)
    → ((v : ℕ) → Takes (record { name = codes "bits"; field = (w, v) } ∷ []) look end new new_end there)
    → Unread bits rest began new new_end (count + 1)
more_bits w bits rest began look new end new_end count there u some most within last takes =
    let s = takes (value_of (take w u.ahead)) (drop w u.ahead ++ rest)
    (bits-next w u.ahead rest look end u.left u.end_is within most) in
    let one : bits_field (take w u.ahead) ≡ record { name = codes "bits"; field = (w, value_of (take w u.ahead)) } =
    ap (λ (k : ℕ). record { name = codes "bits"; field = (k, value_of (take w u.ahead)) })
    (length-take-le w u.ahead within) in
    record {
      ahead = drop w u.ahead;
      left = s.1.left;
      shown = ap (λ list. list ++ kept_content (drop w u.ahead)) s.1.shown
          ∙ (append_assoc (all_named look.0) (first_bits w u.ahead) (kept_content (drop w u.ahead))
          ∙ (ap (λ (f : Named). all_named look.0 ++ (f ∷ kept_content (drop w u.ahead))) (sym one)
          ∙ (ap (λ list. all_named look.0 ++ list) (sym (next-bits w u.ahead within most some last)) ∙ u.shown)));
      end_is = s.2 ∙ u.end_is;
      few = omega (arith, u.few, length-drop w u.ahead, some, within);
    }

none_ahead : (ahead rest : List Bool) (began look : List Shown × List Bool) (shown : List Named) → length ahead ≡ 0
    → look.1 ≡ ahead ++ rest → all_named look.0 ++ kept_content ahead ≡ all_named began.0 ++ shown
    → (look.1 ≡ rest) × (all_named look.0 ≡ all_named began.0 ++ shown)
none_ahead [] rest began look shown h e s = (
  e,
  sym (append-nil (all_named look.0)) ∙ (ap (λ list. all_named look.0 ++ list) (sym kept-none) ∙ s),
)
none_ahead (b ∷ ahead) rest began look shown h e s = absurd (omega (arith, h))

-- if none is ahead, all are shown
pub all_bits_shown : (bits rest : List Bool) (began look : List Shown × List Bool) (end count : ℕ)
    (u : Unread bits rest began look end count) → length u.ahead ≡ 0 → Shows (kept_content bits) rest began look
all_bits_shown bits rest began look end count u h =
    let s = none_ahead u.ahead rest began look (kept_content bits) h u.left u.shown in
    record { shown = s.1; left = s.0 }
