use Rattle.std.proofs.Common.{[], ◌+◌, ◌∷◌, arith, false, if◌then◌else◌, None, refl, rules, true}
use Rattle.rbc_book.specs.Book.{entry_at, is_own}
use Rattle.rbc_centre.proofs.centre.Centre.set.Goals as goal
use Rattle.rbc_centre.proofs.Kept.{left_by, trains_still}
use Rattle.rbc_centre.proofs.Steps.{outcome_with, set_stands}
use Rattle.rbc_centre.proofs.Turns.{in_time, set_stamp}
use Rattle.rbc_centre.proofs.Wishes.{set_turns}
use Rattle.rbc_spec.specs.Centre.{is_unused}
use Rattle.rbc_spec.specs.Outcome.{Done, NotHome}
use Rattle.rbc_spec.specs.Step.{Set}

pub overflow_add-self : goal.overflow_add-self
overflow_add-self c =
    let k = c.args.self.now in
    let early = in_time k (Set c.args.s) k.clock (set_stamp k c.args.s) c.requires.allowed in
    search (rules, early)

pub invariant_of-self : goal.invariant_of-self
invariant_of-self c =
    let k = c.args.self.now in
    let s = c.args.s in
    let words = (if is_own k.book s then Done s else NotHome s) ∷ [] in
    let is =
    set_stands k.line k.number k.clock k.book c.set.new.self k.desk k.links k.trains.items k.trains.items [] words
    (outcome_with (k.clock + 1) (λ d. []) [] words None None) s refl
    (set_turns k.line k.number (k.clock + 1) k.book c.set.new.self k.desk k.links k.trains.items s
    (k.rules.own_sections s) c.set.ensures.entry c.set.ensures.wish
    (is_own k.book s) (is_unused (entry_at k.book s)) refl refl) in
    record {
      rules =
          left_by k (Set s) (k.clock + 1) c.set.new.self k.desk k.sessions k.links k.trains.items _ is
          c.requires.allowed tt
          c.set.ensures.homes refl k.rules.all_links
          (trains_still k.line k.number k.clock (k.clock + 1) k.sessions k.trains.items (omega arith)
          k.rules.all_trains);
    }

pub returns-in-Ok-clause-exact : goal.returns-in-Ok-clause-exact
returns-in-Ok-clause-exact c =
    let k = c.args.self.now in
    let s = c.args.s in
    set_stands k.line k.number k.clock k.book c.set.new.self k.desk k.links k.trains.items k.trains.items _ _ _ s
    c.write_told.ensures
    (set_turns k.line k.number (k.clock + 1) k.book c.set.new.self k.desk k.links k.trains.items s
    (k.rules.own_sections s) c.set.ensures.entry c.set.ensures.wish true (is_unused (entry_at k.book s))
    c.in-Ok.ensures.own refl)

pub returns-in-Err-clause-exact : goal.returns-in-Err-clause-exact
returns-in-Err-clause-exact c =
    let k = c.args.self.now in
    let s = c.args.s in
    set_stands k.line k.number k.clock k.book c.set.new.self k.desk k.links k.trains.items k.trains.items _ _ _ s
    c.write_told-in-Err.ensures
    (set_turns k.line k.number (k.clock + 1) k.book c.set.new.self k.desk k.links k.trains.items s
    (k.rules.own_sections s) c.set.ensures.entry c.set.ensures.wish false (is_unused (entry_at k.book s))
    c.in-Err.ensures.own refl)
