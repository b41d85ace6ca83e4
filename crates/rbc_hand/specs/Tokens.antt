-- The tokens that a centre has for the sections in a train's movement authority.
use Rattle.std.specs.Prelude.{ℕ}
use Rattle.rbc_book.specs.Claim as claim
use Rattle.rbc_hand.specs.declared.lent.Lent.{Lent}
use Rattle.rbc_hand.specs.declared.token.Token.{Token}
use Rattle.rbc_hand.specs.declared.token.Token.TheVariants as code

-- the name of a section that its home has lent to a train
abbrev pub lent_on : ℕ → ℕ → ℕ → Lent
lent_on s t home = record { section = s; nid_engine = t; home = home }

abbrev pub lent_section : Lent → ℕ
lent_section lent = lent.section

abbrev pub lent_train : Lent → ℕ
lent_train lent = lent.nid_engine

abbrev pub lent_home : Lent → ℕ
lent_home lent = lent.home

-- the token of a section: the claim of its home for a train, or the name that another home has lent to the train
pub data Held : Type 0 where
  Own : (t : ℕ) → Held
  Name : (t home : ℕ) → Held

abbrev pub section_of : Token → ℕ
section_of (code.Own c) = claim.section_of c
section_of (code.Name lent) = lent_section lent

abbrev pub held_of : Token → Held
held_of (code.Own c) = Own (claim.train_of c)
held_of (code.Name lent) = Name (lent_train lent) (lent_home lent)

-- the token of a section that is held so
abbrev pub token_of : ℕ → Held → Token
token_of s (Own t) = code.Own (claim.claim_on s t)
token_of s (Name t home) = code.Name (lent_on s t home)
