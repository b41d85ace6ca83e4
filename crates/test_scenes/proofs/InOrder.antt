-- Replies that pass the test of Moves name sections in their order.
use Rattle.std.proofs.Common.{[], ◌<◌, ◌∙◌, ◌∷◌, ◌≡◌, ap, arith, List, slice_get, Some, subst, suc, sym, true, zero, ℕ}
use Rattle.std.proofs.lemmas.Bool.{and_parts, ltb-true}
use Rattle.std.proofs.lemmas.Option.{none-some, same_Some}
use Rattle.std.specs.List.{list_all}
use Rattle.rbc_spec.specs.Outcome.{Asked, Done, NotHome, Told, Word}
use Rattle.rbc_spec.specs.Run.{TellsInOrder}
use Rattle.test_scenes.specs.Moves.{is_below, tells_in_order}

below : (s : ℕ) (words : List Word) (j e : ℕ) → list_all (is_below s) words ≡ true
    → slice_get words j ≡ Some (Told e) → s < e
below s [] j e all is = absurd (none-some (Told e) is)
below s (word ∷ words) zero e all is =
    ltb-true s e (sym (ap (is_below s) (same_Some word (Told e) is))
    ∙ (and_parts (is_below s word) (list_all (is_below s) words) all).0)
below s (word ∷ words) (suc j) e all is =
    below s words j e (and_parts (is_below s word) (list_all (is_below s) words) all).1 is

after_first : (word : Word) (words : List Word) → tells_in_order (word ∷ words) ≡ true → tells_in_order words ≡ true
after_first (Done s) words so = so
after_first (Asked s) words so = so
after_first (NotHome s) words so = so
after_first (Told s) words so = (and_parts (list_all (is_below s) words) (tells_in_order words) so).1

pub in_order : (words : List Word) → tells_in_order words ≡ true → TellsInOrder words
in_order [] so i j s e less first second = absurd (none-some (Told s) first)
in_order (word ∷ words) so i zero s e less first second = absurd (omega (arith, less))
in_order (word ∷ words) so zero (suc j) s e less first second =
    let told : tells_in_order (Told s ∷ words) ≡ true =
    subst (λ w. tells_in_order (w ∷ words) ≡ true) (same_Some word (Told s) first) so in
    below s words j e (and_parts (list_all (is_below s) words) (tells_in_order words) told).0 second
in_order (word ∷ words) so (suc i) (suc j) s e less first second =
    in_order words (after_first word words so) i j s e (omega (arith, less)) first second
