-- Answers to a request to shorten.
use Rattle.std.specs.Option.{option_map_or}
use Rattle.std.specs.Prelude.{if◌then◌else◌, ◌*◌, ◌+◌, ◌==◌, ◌≡◌, Err, nat_le, None, Ok, Option, option_map, Result}
use Rattle.std.specs.Prelude.{Some, ℕ}
use Rattle.rbc_shorten.specs.declared.answer.Cut.{Cut}
use Rattle.rbc_shorten.specs.declared.answer.Cut.TheVariants.{Keep, Nothing}
use Rattle.rbc_shorten.specs.declared.answer.Unasked.{Unasked}
use Rattle.rbc_shorten.specs.declared.facts.Proposal.{Proposal as ProposalCode}
use Rattle.rbc_shorten.specs.Facts.{standing_of}
use Rattle.rbc_spec.specs.Acts.{Act, rest}
use Rattle.rbc_spec.specs.Centre.{Mission, Proposal}
use Rattle.rbc_spec.specs.Line.{end, Line}
use Rattle.rbc_spec.specs.Place.{place_on, Position}
use Rattle.rbc_spec.specs.Rules.{cut}
use Rattle.rbc_spec.specs.SectionRuns.{part_before, SectionRun}

abbrev pub unasked : Unasked
unasked = record {}

-- the result for the pending request, if the answer is to it
abbrev pub on_asked : {X : Type 0} → (ProposalCode → X) → Option ProposalCode → ℕ → Result X Unasked
on_asked f None stamp = Err unasked
on_asked f (Some p) stamp = if p.stamp == stamp then Ok (f p) else Err unasked

-- the cut of the hand of a train that has granted the request, with this front
abbrev pub cut_of : Line → SectionRun → Option ℕ → ProposalCode → Cut
cut_of line hand front p =
    option_map_or (λ f. if nat_le f (10 * end line p.last_kept) then Keep ((part_before (p.last_kept + 1) hand).count)
    else Nothing) front Nothing

-- a centre's act on the hand of mission m when the train has granted request p
abbrev pub freeing : Line → ℕ → ℕ → Position → Mission → Proposal → Act
freeing line c t position m p = option_map_or
    (λ place. if nat_le place.front (10 * end line p.last_kept) then cut line c t p.last_kept m else rest)
    (place_on line m.place.track position) rest

-- the centre's act for this cut of the hand
abbrev pub act_of : Line → ℕ → ℕ → Mission → Proposal → Cut → Act
act_of line c t m p Nothing = rest
act_of line c t m p (Keep n) = cut line c t p.last_kept m

-- the facts of a mission m with the pending request p, and of the report in an answer
pub record IsAnswer (line : Line) (position : Position) (m : Mission) (p : Proposal) (standing : Option ProposalCode)
    (front : Option ℕ) : Type 0 where
  pub proposal : standing_of standing ≡ Some p
  pub place : front ≡ option_map (λ place. place.front) (place_on line m.place.track position)
