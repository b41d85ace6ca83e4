use Rattle.std.proofs.Common.{◌≡◌, ◌∷◌, [], ◌++◌, List, ap, ◌∙◌, append_assoc}
use Rattle.text_words.specs.declared.fields.Fields.{Fields}
use Rattle.text_words.specs.Fields.{Adds, shown_in, Variable, within}
use Rattle.text_words.proofs.message.add_start.Goals as goal

after_both : {A : Type 0} (s t u : List A) (x y : A) → t ≡ s ++ x ∷ [] → u ≡ t ++ y ∷ [] → u ≡ s ++ x ∷ y ∷ []
after_both s t u x y p q = q ∙ (ap (λ v. v ++ y ∷ []) p ∙ append_assoc s (x ∷ []) (y ∷ []))

adds_both : (a b d : Fields) (x y z : Variable) → Adds a b (x ∷ []) → Adds b d (y ∷ []) → x ≡ z → Adds a d (z ∷ y ∷ [])
adds_both a b d x y z p q e = (
  after_both (shown_in a) (shown_in b) (shown_in d) (within a.is_in_packet z) (within a.is_in_packet y)
      (rw e at p.0) (rw p.1 at q.0),
  q.1 ∙ p.1,
)

pub returns : goal.returns
returns c =
    adds_both c.args.fields.now c.add.new.self c.add-2.new.self _ _ _ c.in_ok-add.ensures c.in_ok-add-2.ensures
    (ap (λ s. s.1) c.field_of_number-first.ensures)
