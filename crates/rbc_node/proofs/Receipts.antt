-- Whether the entry at a receipt's place has its event and its outcome.
use Rattle.std.proofs.Common.{◌↔◌, ◌∙◌, ◌≡◌, Bool, false, IsTrue, List, None, slice_get, Some, subst, sym, true}
use Rattle.std.proofs.lemmas.Option.{none-some, same_Some}
use Rattle.rbc_centre.specs.Views.{outcome_of}
use Rattle.rbc_log.specs.declared.entry.Entry.{Entry}
use Rattle.rbc_node.specs.declared.receipt.Receipt.{Receipt}
use Rattle.rbc_node.specs.Receipts.{Has}

module _ (entries : List Entry) (r : Receipt) (e : Entry) (there : slice_get entries r.place ≡ Some e) where
  is_it : (has : Has entries r) → has.entry ≡ e
  is_it has = same_Some has.entry e (sym has.there ∙ there)

  -- the event is the same, and so is the outcome
  pub has_if_same : (b : Bool) → e.event ≡ r.event → (IsTrue b ↔ (outcome_of e.outcome ≡ outcome_of r.outcome))
      → (IsTrue b ↔ Has entries r)
  has_if_same b event tells = (
    λ is. record { entry = e; there = there; event = event; outcome = tells.0 is },
    λ has. tells.1 (subst (λ (x : Entry). outcome_of x.outcome ≡ outcome_of r.outcome) (is_it has) has.outcome),
  )

  -- the event is another
  pub has_not : (b : Bool) → b ≡ false → (IsTrue b ↔ (e.event ≡ r.event)) → (IsTrue b ↔ Has entries r)
  has_not b other tells = (
    λ is. absurd (let wrong : true ≡ false = sym is ∙ other in cc),
    λ has. tells.1 (subst (λ (x : Entry). x.event ≡ r.event) (is_it has) has.event),
  )

pub has_none : (entries : List Entry) (r : Receipt) → slice_get entries r.place ≡ None → (IsTrue false ↔ Has entries r)
has_none entries r none = (
  λ is. absurd (let wrong : true ≡ false = sym is in cc),
  λ has. absurd (none-some has.entry (sym none ∙ has.there)),
)
