use Rattle.std.proofs.Common.{[], ◌++◌, ◌<◌, ◌^◌, ◌∙◌, ◌∷◌, ◌≡◌, arith, length, refl, subst, sym, ℕ}
use Rattle.std.specs.Prelude.{MatchOption}
use Rattle.rbc_bits.specs.Bits.{field}
use Rattle.text_fields.proofs.Fields.{is_there, takes_one}
use Rattle.text_fields.proofs.walk.Walk.take.Goals as goal
use Rattle.text_fields.proofs.walk.Walk.take.Goals.{then-width-gt-MOST-via-else-width-gt-MOST+then-room-width}
use Rattle.text_fields.proofs.walk.Walk.take.Goals.{then-width-gt-MOST-via-then-width-gt-MOST}
use Rattle.text_fields.specs.Senses.{last_scale}
use Rattle.text_fields.specs.Shown.{packet_of}
use Rattle.text_fields.specs.Walks.{Shows}

pub returns-then-width-gt-MOST-clause-shows : goal.returns-then-width-gt-MOST-clause-shows
returns-then-width-gt-MOST-clause-shows c = λ v rest n.
    let t = is_there c.args.name.now c.args.width v rest c.args.self.now.look c.args.self.now.end n in
    elim c.then-width-gt-MOST.branch [
      | then-width-gt-MOST-via-then-width-gt-MOST w ↦ absurd (omega (arith, t.0, w.if-width-gt-MOST.true))
      | then-width-gt-MOST-via-else-width-gt-MOST+then-room-width w ↦ absurd (omega (
        arith,
        t.1,
        w.room.ensures,
        w.if-room-width.true,
      ))
    ]

pub returns-then-width-gt-MOST-clause-last : goal.returns-then-width-gt-MOST-clause-last
returns-then-width-gt-MOST-clause-last c = λ v rest n.
    let t = is_there c.args.name.now c.args.width v rest c.args.self.now.look c.args.self.now.end n in
    elim c.then-width-gt-MOST.branch [
      | then-width-gt-MOST-via-then-width-gt-MOST w ↦ absurd (omega (arith, t.0, w.if-width-gt-MOST.true))
      | then-width-gt-MOST-via-else-width-gt-MOST+then-room-width w ↦ absurd (omega (
        arith,
        t.1,
        w.room.ensures,
        w.if-room-width.true,
      ))
    ]

pub returns-clause-shows : goal.returns-clause-shows
returns-clause-shows c = λ v rest n.
    let old = c.args.self.now in
    let new = c.take.new.self in
    let seen = subst (λ found. MatchOption found ((length old.look.1 < c.args.width) × (new ≡ old.look))
    (λ (x : ℕ). (old.look.1 ≡ field c.args.width x ++ new.1) × (x < 2 ^ c.args.width)
    × (new.0 ≡ old.look.0 ++ record {
      field = record { name = c.args.name; kind = c.args.kind };
      width = c.args.width;
      value = x;
      packet = packet_of c.args.kind old.packet x;
      scale = last_scale 0 old.look.0;
    } ∷ []))) c.in-Some.is c.in_ok-value.ensures.shown in
    let t = takes_one c.args.name.now c.args.width v rest old.look new old.end _ n refl seen.1 seen.0 seen.2 in (
      refl,
      subst (λ look. Shows (record {
        name = c.args.name.now;
        field = (
          c.args.width,
          v,
        );
      } ∷ []) rest old.look look) (sym c.note.ensures.look) t.1,
      c.note.ensures.end,
    )

pub returns-clause-last : goal.returns-clause-last
returns-clause-last c = λ v rest n.
    let old = c.args.self.now in
    let new = c.take.new.self in
    let seen = subst (λ found. MatchOption found ((length old.look.1 < c.args.width) × (new ≡ old.look))
    (λ (x : ℕ). (old.look.1 ≡ field c.args.width x ++ new.1) × (x < 2 ^ c.args.width)
    × (new.0 ≡ old.look.0 ++ record {
      field = record { name = c.args.name; kind = c.args.kind };
      width = c.args.width;
      value = x;
      packet = packet_of c.args.kind old.packet x;
      scale = last_scale 0 old.look.0;
    } ∷ []))) c.in-Some.is c.in_ok-value.ensures.shown in
    let t = takes_one c.args.name.now c.args.width v rest old.look new old.end _ n refl seen.1 seen.0 seen.2 in
    c.note.ensures.last ∙ t.0
