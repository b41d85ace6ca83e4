-- One more field is shown.
use Rattle.std.proofs.Common.{[], ◌++◌, ◌∙◌, ◌∷◌, ◌≡◌, ap, List, refl, sym, ℕ}
use Rattle.std.proofs.lemmas.List.Elements.{All-append, All-cons, All-nil}
use Rattle.text_fields.specs.declared.shown.Shown.{Shown}
use Rattle.text_fields.specs.Looked.{IsLooked}
use Rattle.text_fields.specs.Senses.{HaveSenses, IsKindOf, last_scale, scale_after}
use Rattle.text_fields.specs.Shown.{Fits}

scale-more : (scale : ℕ) (fields : List Shown) (f : Shown)
    → last_scale scale (fields ++ f ∷ []) ≡ scale_after f.field.name.now f.value (last_scale scale fields)
scale-more scale [] f = refl
scale-more scale (g ∷ fields) f = scale-more (scale_after g.field.name.now g.value scale) fields f

senses-more : (scale : ℕ) (fields : List Shown) (f : Shown) → HaveSenses scale fields
    → IsKindOf f.field.name.now f.field.kind → f.scale ≡ last_scale scale fields → HaveSenses scale (fields ++ f ∷ [])
senses-more scale [] f have is e = (is, e, tt)
senses-more scale (g ∷ fields) f have is e = (
  have.0,
  have.1,
  senses-more (scale_after g.field.name.now g.value scale) fields f have.2 is e,
)

pub looked-more : (shown : List Shown) (scale : ℕ) (f : Shown) → IsLooked shown scale → Fits f
    → IsKindOf f.field.name.now f.field.kind → f.scale ≡ scale
    → IsLooked (shown ++ f ∷ []) (scale_after f.field.name.now f.value scale)
looked-more shown scale f looked fits is e = record {
  fit = All-append Fits shown (f ∷ []) looked.fit (All-cons Fits f [] fits (All-nil Fits));
  senses = senses-more 0 shown f looked.senses is (e ∙ sym looked.scale_is);
  scale_is = scale-more 0 shown f ∙ ap (scale_after f.field.name.now f.value) looked.scale_is;
}
