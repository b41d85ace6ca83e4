use Rattle.std.proofs.Common.{[], ◌++◌, ◌∙◌, ◌≡◌, ap, append-nil, false, refl, sym, true}
use Rattle.serve_line.proofs.clients.answer.show_text.Goals as goal
use Rattle.serve_line.proofs.clients.answer.show_text.Goals.{else-server, then-server+in_ok-write_life}

pub returns : goal.returns
returns g c =
    let shown = c.in_ok-show.ensures.0 in
    let begun : c.show.new.text.items ≡ shown =
    c.in_ok-show.ensures.2 ∙ ap (λ text. text ++ shown) c.new-text.ensures.items in
    elim c.if-server.branch [
      | then-server+in_ok-write_life w ↦
          let usage = w.in_ok-write_life.ensures.0 in (
            shown,
            usage,
            c.in_ok-show.ensures.1,
            ap (λ t. t.items) w.text-is ∙ w.in_ok-write_life.ensures.1 ∙ ap (λ text. text ++ usage) begun,
            λ off. let none : true ≡ false = sym w.if-server.true ∙ off in absurd cc,
          )
      | else-server w ↦ (
        shown,
        [],
        c.in_ok-show.ensures.1,
        ap (λ t. t.items) w.text-is ∙ begun ∙ sym (append-nil shown),
        λ off. refl,
      )
    ]
