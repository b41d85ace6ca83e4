-- The facts of a mission that decide about a request to shorten, in memory and by the rules.
use Rattle.std.specs.Prelude.{◌≡◌, ℕ, Option, option_map}
use Rattle.rbc_spec.specs.Line.{Line}
use Rattle.rbc_spec.specs.Place.{group_start}
use Rattle.rbc_spec.specs.Centre.{Centre, Mission, Proposal, is_up}
use Rattle.rbc_line.specs.SectionRuns.{run_of}
use Rattle.rbc_shorten.specs.declared.facts.ShorteningFacts.{ShorteningFacts}
use Rattle.rbc_shorten.specs.declared.facts.Proposal.{Proposal as ProposalCode}

-- a request to shorten in memory as one of the rules
abbrev pub proposal_of : ProposalCode → Proposal
proposal_of p = record { stamp = p.stamp; last_kept = p.last_kept }

abbrev pub standing_of : Option ProposalCode → Option Proposal
standing_of = option_map proposal_of

-- these are the facts of the train's mission m at the centre k
pub record AreFactsOf (line : Line) (t : ℕ) (m : Mission) (k : Centre) (facts : ShorteningFacts) : Type 0 where
  pub session : facts.is_up ≡ is_up (k.phase t)
  pub is_ended : facts.is_ended ≡ m.is_ended
  pub proposal : standing_of facts.proposal ≡ m.proposal
  pub hand : run_of facts.hand ≡ m.hand
  pub front : facts.front ≡ m.place.front
  pub group : facts.group_start ≡ group_start line m.place
