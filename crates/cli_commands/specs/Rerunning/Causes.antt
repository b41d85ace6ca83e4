-- The entries whose delivered frames were all sent.
use Rattle.cli_commands.specs.declared.rerunning.causes.Caused.{Caused}
use Rattle.std.specs.Prelude.{[], ◌++◌, ◌+◌, ◌∷◌, ◌⊎◌, ◌≡◌, length, List}
use Rattle.text_journal.specs.declared.entry.Entry.{Entry}

-- one more entry is kept at the end, or left out
abbrev pub KeepsOrLeaves : List Entry → Entry → List Entry → Type 0
KeepsOrLeaves old entry new = (new ≡ old ++ entry ∷ []) ⊎ (new ≡ old)

-- some of these entries, in their order
abbrev pub AreSomeOf : List Entry → List Entry → Type 0
AreSomeOf [] kept = kept ≡ []
AreSomeOf (e ∷ all) kept = (rest : List Entry) × ((kept ≡ e ∷ rest) ⊎ (kept ≡ rest)) × AreSomeOf all rest

-- of these entries some are kept, in their order, and the others are counted
pub record IsCutOf (all : List Entry) (caused : Caused) : Type 0 where
  pub kept : AreSomeOf all caused.entries.items
  pub counted : length caused.entries.items + caused.left_out ≡ length all
