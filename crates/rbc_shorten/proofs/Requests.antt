-- Requests to shorten an authority, and the cut of a hand at standstill.
use Rattle.std.proofs.Common.{if◌then◌else◌, ◌&&◌, ◌*◌, ◌+◌, ◌-◌, ◌==◌, ◌||◌, ◌∙◌, ◌≡◌, ap, Bool, cond, false, is_none}
use Rattle.std.proofs.Common.{nat_le, None, not, Option, refl, Some, sym, true, ℕ}
use Rattle.rbc_shorten.specs.declared.answer.Cut.TheVariants.{Keep, Nothing}
use Rattle.rbc_shorten.specs.declared.facts.Proposal.{Proposal as ProposalCode}
use Rattle.rbc_shorten.specs.declared.facts.Shortening.{Shortening}
use Rattle.rbc_shorten.specs.declared.facts.ShorteningFacts.{ShorteningFacts}
use Rattle.rbc_shorten.specs.Facts.{AreFactsOf, standing_of}
use Rattle.rbc_shorten.specs.Requests.{may_shorten, may_shorten_at, shortening}
use Rattle.rbc_shorten.specs.Standstill.{ahead_of, begins_before, standing_act}
use Rattle.rbc_spec.specs.Acts.{may_propose, rest}
use Rattle.rbc_spec.specs.Centre.{Centre, Mission}
use Rattle.rbc_spec.specs.Line.{Line, start}
use Rattle.rbc_spec.specs.Place.{group_start, Place}
use Rattle.rbc_spec.specs.Rules.{cut_ahead}
use Rattle.rbc_spec.specs.SectionRuns.{passing, SectionRun, within}

-- # A request to shorten by the facts of a mission is one by the rules.

standing_alike : (p : Option ProposalCode) → is_none p ≡ is_none (standing_of p)
standing_alike None = refl
standing_alike (Some p) = refl

-- the test by its parts
abbrev test : Line → ℕ → Bool → Bool → Bool → SectionRun → ℕ → ℕ → Bool
test line s up ended none hand front group =
    ((up && not ended) && none)
    && (((within hand s && not (s == hand.first)) && nat_le front (10 * start line s))
    && nat_le (start line s) (group + 32767))

module _ (line : Line) (t s : ℕ) (m : Mission) (k : Centre) (facts : ShorteningFacts)
    (are : AreFactsOf line t m k facts) where
  may_alike : may_shorten line facts s ≡ may_propose line t s m k
  unfolding may_shorten_at
  may_alike i =
      test line s (are.session i) (are.is_ended i) ((standing_alike facts.proposal ∙ ap is_none are.proposal) i)
      (are.hand i) (are.front i) (are.group i)

  -- the request, if it may be sent
  pub by_rules : (asked : Option Shortening)
      → asked ≡ cond (may_shorten line facts s) (Some (shortening line facts s)) None
      → asked ≡ cond (may_propose line t s m k)
      (Some (record { l_endsection = start line s - group_start line m.place; last_kept = s - 1 })) None
  by_rules asked is =
      is
      ∙ (λ i. cond (may_alike i) (Some (record { l_endsection = start line s - are.group i; last_kept = s - 1 })) None)

-- at a start that was found
pub found : (line : Line) (facts : ShorteningFacts) (s metres : ℕ) (b c : Bool) → b ≡ c
    → b ≡ may_shorten_at metres facts s → metres ≡ start line s → may_shorten line facts s ≡ c
found line facts s metres b c is may at = ap (λ n. may_shorten_at n facts s) (sym at) ∙ sym may ∙ is

-- # A centre's act at an end of mission at standstill is the cut of the hand.

is_cut : (line : Line) (c t : ℕ) (m : Mission) (n : ℕ) (b : Bool)
    → (if b then rest else standing_act line c t m (Keep n)) ≡ standing_act line c t m (if b then Nothing else Keep n)
is_cut line c t m n true = refl
is_cut line c t m n false = refl

pub ahead_is_cut : (line : Line) (c t : ℕ) (m : Mission) (place : Place)
    → cut_ahead line c t m place ≡ standing_act line c t m (ahead_of line m.hand place.front)
ahead_is_cut line c t m place = let n = passing (begins_before line place.front) m.hand in
    is_cut line c t m n ((n == 0) || (n == m.hand.count))
