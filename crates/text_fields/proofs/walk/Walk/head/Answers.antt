use Rattle.std.proofs.Common.{◌≡◌, sym, subst, refl, ◌+◌}
use Rattle.std.proofs.lemmas.Result.{IfOk-weaker, on_ok_weaker}
use Rattle.rbc_packets.specs.Layout.{widths}
use Rattle.text_fields.specs.Named.{fields_in}
use Rattle.text_fields.specs.Messages.{packet_head}
use Rattle.text_fields.specs.Walks.{Next, Takes}
use Rattle.text_fields.specs.declared.messages.Side.{Side}
use Rattle.text_fields.specs.declared.messages.Side.TheVariants.{Train, Centre}
use Rattle.text_fields.proofs.walk.Walk.head.Goals as goal

pub returns-in-Train-clause-shows : goal.returns-in-Train-clause-shows
returns-in-Train-clause-shows c =
    IfOk-weaker c.rows.result _ _ (λ there h count.
    subst (λ (s : Side). Takes (packet_head s count) c.args.self.now.look c.args.self.now.end c.rows.new.self.look
    c.rows.new.self.end there)
    (sym c.in-Train.is) (h (packet_head Train count) (refl, refl, tt))) c.rows.ensures.shows

pub returns-in-Train-clause-last : goal.returns-in-Train-clause-last
returns-in-Train-clause-last c =
    on_ok_weaker c.rows.result (λ h count rest n.
    subst (λ (s : Side). c.rows.new.self.last ≡ 8 + widths (fields_in (packet_head s count)) + count)
    (sym c.in-Train.is)
    (h (packet_head Train count) rest (refl, refl, tt) (subst
    (λ (s : Side). Next (packet_head s count) rest c.args.self.now.look c.args.self.now.end) c.in-Train.is n)))
    c.rows.ensures.last

pub returns-in-Centre-clause-shows : goal.returns-in-Centre-clause-shows
returns-in-Centre-clause-shows c =
    IfOk-weaker c.rows-in-Centre.result _ _ (λ there h count.
    subst (λ (s : Side). Takes (packet_head s count) c.args.self.now.look c.args.self.now.end
    c.rows-in-Centre.new.self.look c.rows-in-Centre.new.self.end there)
    (sym c.in-Centre.is) (h (packet_head Centre count) (refl, refl, (refl, refl, tt)))) c.rows-in-Centre.ensures.shows

pub returns-in-Centre-clause-last : goal.returns-in-Centre-clause-last
returns-in-Centre-clause-last c =
    on_ok_weaker c.rows-in-Centre.result (λ h count rest n.
    subst (λ (s : Side). c.rows-in-Centre.new.self.last ≡ 8 + widths (fields_in (packet_head s count)) + count)
    (sym c.in-Centre.is)
    (h (packet_head Centre count) rest (
      refl,
      refl,
      (
        refl,
        refl,
        tt,
      ),
    ) (subst (λ (s : Side). Next (packet_head s count) rest c.args.self.now.look c.args.self.now.end)
    c.in-Centre.is n))) c.rows-in-Centre.ensures.last
