-- The plain data of a claim.
use Rattle.std.specs.Prelude.{ℕ, Bool, Option, Some, None, if◌then◌else◌}
use Rattle.rbc_spec.specs.Centre.{is_taken_for}
use Rattle.rbc_spec.specs.SectionRuns.{SectionRun}
use Rattle.rbc_book.specs.Book.{Pages, entry_at}
use Rattle.rbc_book.specs.declared.claim.Claim.{Claim}
use Rattle.rbc_book.specs.declared.claim.Claims.{Claims}

abbrev pub section_of : Claim → ℕ
section_of claim = claim.section

abbrev pub train_of : Claim → ℕ
train_of claim = claim.nid_engine

-- the claim on a section for a train
abbrev pub claim_on : ℕ → ℕ → Claim
claim_on s t = record { section = s; nid_engine = t }

-- the claims on consecutive sections: which these are, and for which train
abbrev pub claimed : Claims → SectionRun
claimed claims = record { first = claims.first; count = claims.count }

abbrev pub claims_train : Claims → ℕ
claims_train claims = claims.nid_engine

abbrev pub claims_on : SectionRun → ℕ → Claims
claims_on r t = record { first = r.first; count = r.count; nid_engine = t }

-- a claim if the test holds, and else none
abbrev pub claim_if : Bool → ℕ → ℕ → Option Claim
claim_if test s t = if test then Some (claim_on s t) else None

-- the section of the claim is taken for its train
abbrev pub is_taken_by : Pages → Claim → Bool
is_taken_by pages claim = is_taken_for (train_of claim) (entry_at pages (section_of claim))
