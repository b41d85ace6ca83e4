use Rattle.std.proofs.Common.{◌∙◌, ◌≡◌, ap, length, max, refl, subst, sym, ℕ}
use Rattle.rbc_log.specs.Log.{LogValue}
use Rattle.rbc_node.specs.Node.{centre_of, IsLogOf}
use Rattle.serve_line.specs.Lives.{used_of}
use Rattle.serve_line.specs.Usage.{mark_of}
use Rattle.serve_line.proofs.status.life.Life.look.Goals as goal

-- the highest mark so far, by a usage and a limit that are known
noted_of :
    (old new used most usage limit : ℕ)
    → new ≡ max old (mark_of used most) → used ≡ usage → most ≡ limit → new ≡ max old (mark_of usage limit)
noted_of old new used most usage limit is same high =
    is ∙ ap (λ (n : ℕ). max old (mark_of n most)) same ∙ ap (λ (n : ℕ). max old (mark_of usage n)) high

pub returns : goal.returns
returns g c =
    let used : c.used_of-entries.result ≡ used_of c.log.result.now (length c.args.line.now.centres) =
    c.used_of-entries.ensures ∙ ap (used_of c.log.result.now) c.centre_count.ensures.value
    in (
      c.log.result.now,
      subst (λ (l : LogValue). IsLogOf (centre_of c.args.node.now) l) (sym c.log.ensures) c.look-look.ensures,
      record {
        log = noted_of _ _ c.used_of-entries.result.0 1000000 _ 1000000 c.tell.ensures
            (ap (λ (u : ℕ × ℕ × ℕ). u.0) used) refl;
        clock = noted_of _ _ c.used_of-entries.result.1 c.from.result _ 1073741823 c.tell-2.ensures
            (ap (λ (u : ℕ × ℕ × ℕ). u.1) used) c.from.ensures;
        link = noted_of _ _ c.used_of-entries.result.2 c.from-2.result _ 65536 c.tell-3.ensures
            (ap (λ (u : ℕ × ℕ × ℕ). u.2) used) c.from-2.ensures;
      },
    )
