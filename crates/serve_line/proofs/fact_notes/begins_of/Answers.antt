use Rattle.std.proofs.Common.{⊎_elim, ◌+◌, ◌<◌, ◌∙◌, ◌≡◌, ◌≢◌, ap, arith, get_or-set_other, get_or-set_same, length}
use Rattle.std.proofs.Common.{length-set, List, slice_get, slice_index, slice_set, sym, ℕ}
use Rattle.std.proofs.lemmas.Bool.{cases_eq}
use Rattle.std.specs.Option.{option_map_or}
use Rattle.serve_line.proofs.fact_notes.begins_of.Goals as goal

-- the first numbers of a list are those of f, and so is the next one after it is set
next_set :
    (f : ℕ → ℕ) (xs : List ℕ) (n x : ℕ) → n < length xs → x ≡ f n → ((c : ℕ) → c < n → slice_index xs c ≡ f c)
    → (c : ℕ) → c < n + 1 → slice_index (slice_set xs n x) c ≡ f c
next_set f xs n x low is so_far c lt =
    ⊎_elim
    (λ (same : c ≡ n). ap (slice_index (slice_set xs n x)) same ∙ get_or-set_same xs n x 0 low ∙ is ∙ ap f (sym same))
    (λ (other : c ≢ n). get_or-set_other xs n c x 0 other ∙ so_far c (let lower : c < n = omega arith in lower))
    (cases_eq c n)

pub loop-c-preserved : goal.loop-c-preserved
loop-c-preserved c =
    let long = c.loop-c.invariant.long in
    let low : c.loop-c.c < length c.loop-c.begins = omega arith in
    record {
      long = length-set c.loop-c.begins c.loop-c.c c.begins_at.result ∙ long;
      done = next_set (λ at. option_map_or (λ journal. journal.begins) (slice_get c.args.journals.now at) 0)
          c.loop-c.begins c.loop-c.c c.begins_at.result low c.begins_at.ensures c.loop-c.invariant.done;
    }
