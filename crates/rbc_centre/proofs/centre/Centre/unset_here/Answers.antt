use Rattle.std.proofs.Common.{[], ◌+◌, ◌∙◌, ◌∷◌, ◌≡◌, arith, false, List, None, refl, rules, set, subst, sym, true, ℕ}
use Rattle.std.proofs.lemmas.Option.{slice_get_read}
use Rattle.rbc_book.specs.Book.{entry_at}
use Rattle.rbc_centre.proofs.centre.Centre.unset_here.Goals as goal
use Rattle.rbc_centre.proofs.centre.Centre.unset_here.Goals.{in-None, in-Some}
use Rattle.rbc_centre.proofs.Kept.{left_by, trains_set, trains_still}
use Rattle.rbc_centre.proofs.States.{asked_train}
use Rattle.rbc_centre.proofs.Steps.{outcome_with, unset_stands}
use Rattle.rbc_centre.proofs.Turns.{unset_early}
use Rattle.rbc_centre.proofs.Wishes.{asked_turns, done_unused, no_user, unset_turns, user_at, user_of}
use Rattle.rbc_centre.specs.States.{state_of}
use Rattle.rbc_centre.specs.Views.{outcome_of}
use Rattle.rbc_spec.specs.Acts.{propose_if_so}
use Rattle.rbc_spec.specs.Centre as centre
use Rattle.rbc_spec.specs.Outcome.{Asked, Done, NotHome, Word}
use Rattle.rbc_spec.specs.Step.{Unset}
use Rattle.rbc_train.specs.Sayings.{sayings_of}
use Rattle.rbc_train.specs.Trains.{asked, HasTrain}

pub overflow_add-self : goal.overflow_add-self
overflow_add-self c = let early = unset_early c.args.self.now c.args.s c.requires.allowed in search (rules, early)

pub invariant_of-self : goal.invariant_of-self
invariant_of-self c =
    let k = c.args.self.now in
    let s = c.args.s in
    let words : List Word = Done s ∷ [] in
    let is = unset_stands k.line k.number k.clock k.book c.unset.new.self k.desk k.links k.trains.items
    k.trains.items [] words
    (outcome_with (k.clock + 1) (λ d. []) [] words None None) s refl
    (unset_turns k.line k.number (k.clock + 1) k.book c.unset.new.self k.desk k.links k.trains.items s
    (k.rules.own_sections s) c.unset.ensures.entry c.unset.ensures.wish true c.in-Ok-Done.ensures.own
    (λ _. done_unused (entry_at k.book s) (sym c.in-Ok-Done.field-0-is ∙ c.in-Ok-Done.ensures.answer))) in
    record {
      rules =
          left_by k (Unset s) (k.clock + 1) c.unset.new.self k.desk k.sessions k.links k.trains.items _ is
          c.requires.allowed tt
          c.unset.ensures.homes refl k.rules.all_links
          (trains_still k.line k.number k.clock (k.clock + 1) k.sessions k.trains.items (omega arith)
          k.rules.all_trains);
    }

pub invariant_of-self-in-Err : goal.invariant_of-self-in-Err
invariant_of-self-in-Err c =
    let k = c.args.self.now in
    let s = c.args.s in
    let words : List Word = NotHome s ∷ [] in
    let is = unset_stands k.line k.number k.clock k.book c.unset.new.self k.desk k.links k.trains.items
    k.trains.items [] words
    (outcome_with (k.clock + 1) (λ d. []) [] words None None) s refl
    (unset_turns k.line k.number (k.clock + 1) k.book c.unset.new.self k.desk k.links k.trains.items s
    (k.rules.own_sections s) c.unset.ensures.entry c.unset.ensures.wish false c.in-Err.ensures.own (λ e. cc)) in
    record {
      rules =
          left_by k (Unset s) (k.clock + 1) c.unset.new.self k.desk k.sessions k.links k.trains.items _ is
          c.requires.allowed tt
          c.unset.ensures.homes refl k.rules.all_links
          (trains_still k.line k.number k.clock (k.clock + 1) k.sessions k.trains.items (omega arith)
          k.rules.all_trains);
    }

pub returns-in-Ok-Done-clause-exact : goal.returns-in-Ok-Done-clause-exact
returns-in-Ok-Done-clause-exact c =
    let k = c.args.self.now in
    let s = c.args.s in
    unset_stands k.line k.number k.clock k.book c.unset.new.self k.desk k.links k.trains.items k.trains.items _ _ _ s
    c.write_told.ensures
    (unset_turns k.line k.number (k.clock + 1) k.book c.unset.new.self k.desk k.links k.trains.items s
    (k.rules.own_sections s) c.unset.ensures.entry c.unset.ensures.wish true c.in-Ok-Done.ensures.own
    (λ _. done_unused (entry_at k.book s) (sym c.in-Ok-Done.field-0-is ∙ c.in-Ok-Done.ensures.answer)))

pub returns-in-Err-clause-exact : goal.returns-in-Err-clause-exact
returns-in-Err-clause-exact c =
    let k = c.args.self.now in
    let s = c.args.s in
    unset_stands k.line k.number k.clock k.book c.unset.new.self k.desk k.links k.trains.items k.trains.items _ _ _ s
    c.write_told-in-Err.ensures
    (unset_turns k.line k.number (k.clock + 1) k.book c.unset.new.self k.desk k.links k.trains.items s
    (k.rules.own_sections s) c.unset.ensures.entry c.unset.ensures.wish false c.in-Err.ensures.own (λ e. cc))

-- ## A section in use

pub ask_back-request-requires : goal.ask_back-request-requires
ask_back-request-requires c =
    let k = c.args.self.now in
    let user = user_at k c.args.s c.in-Some.i c.index_mut.result.now c.requires.here
    (sym c.in-Ok-Asked.field-0-is ∙ c.in-Ok-Asked.ensures.answer)
    (λ t taken. sym (c.user_of-user.ensures.value t (c.requires.entry ∙ taken)) ∙ c.in-Some.is)
    (λ within. slice_get_read _ _ _ _ refl within c.index_mut.ensures.value) in
    let few = k.rules.all_trains.said c.in-Some.i c.index_mut.result.now user.at in
    let early = unset_early c.args.self.now c.args.s c.requires.allowed in
    record { count = omega (arith, few, early) }

pub invariant_of-self-in-Some : goal.invariant_of-self-in-Some
invariant_of-self-in-Some c =
    let k = c.args.self.now in
    let s = c.args.s in
    let i = c.in-Some.i in
    let states = k.trains.items in
    let before = c.index_mut.result.now in
    let after = c.ask_back-request.new.self in
    let ask = c.ask_back-request.ensures in
    let asked_for = sym c.in-Ok-Asked.field-0-is ∙ c.in-Ok-Asked.ensures.answer in
    let user = user_at k s i before c.requires.here asked_for
    (λ t taken. sym (c.user_of-user.ensures.value t (c.requires.entry ∙ taken)) ∙ c.in-Some.is)
    (λ within. slice_get_read _ _ _ _ refl within c.index_mut.ensures.value) in
    let t = (user_of k s c.requires.here asked_for).0 in
    let sayings = sayings_of c.ask_back-request.result in
    let asks : (j : centre.Centre) → HasTrain j t before → propose_if_so k.line t s j ≡ asked t after sayings j =
    subst (λ (n : ℕ). (j : centre.Centre) → HasTrain j n before → propose_if_so k.line n s j ≡ asked n after sayings j)
    user.engine ask.exact
    in
    let words : List Word = Asked s ∷ [] in
    let is = unset_stands k.line k.number k.clock k.book c.unset.new.self k.desk k.links states (set states i after)
    sayings words
    (outcome_with (k.clock + 1) (λ d. []) sayings words None None) s refl
    (asked_turns k.line k.number (k.clock + 1) k.book c.unset.new.self k.desk k.links states s (k.rules.own_sections s)
    c.unset.ensures.entry c.unset.ensures.wish
    t i before after sayings c.in-Ok-Asked.ensures.own user.taken user.number user.at user.within ask.session_state
    ask.heard ask.question ask.waiting ask.expectations asks) in
    let said = ask.said in
    record {
      rules =
          left_by k (Unset s) (k.clock + 1) c.unset.new.self k.desk k.sessions k.links (set states i after) _ is
          c.requires.allowed tt
          c.unset.ensures.homes refl k.rules.all_links
          (trains_set k.line k.number k.clock (k.clock + 1) k.sessions k.sessions states t i before after (omega arith)
          user.number user.at (omega (arith, said))
          (asked_train k.line k.number k.sessions t i before after
          (k.rules.all_trains.each t i before user.number user.at) ask.number ask.engine ask.waiting ask.session_state
          ask.hand ask.expectations)
          (λ u j p apart same. same) k.rules.all_trains);
    }

pub invariant_of-self-in-None : goal.invariant_of-self-in-None
invariant_of-self-in-None c =
    absurd (no_user c.args.self.now c.args.s c.requires.here
    (sym c.in-Ok-Asked.field-0-is ∙ c.in-Ok-Asked.ensures.answer)
    (λ t taken. sym (c.user_of-user.ensures.value t (c.requires.entry ∙ taken)) ∙ c.in-None.is))

pub returns-after-user-clause-exact : goal.returns-after-user-clause-exact
returns-after-user-clause-exact c = elim c.match-user.branch [
  | in-Some w ↦
      let k = c.args.self.now in
      let s = c.args.s in
      let states = k.trains.items in
      let before = w.index_mut.result.now in
      let after = w.ask_back-request.new.self in
      let asked_for = sym c.in-Ok-Asked.field-0-is ∙ c.in-Ok-Asked.ensures.answer in
      let user = user_at k s w.in-Some.i before c.requires.here asked_for
      (λ t taken. sym (c.user_of-user.ensures.value t (c.requires.entry ∙ taken)) ∙ w.in-Some.is)
      (λ within. slice_get_read _ _ _ _ refl within w.index_mut.ensures.value) in
      let t = (user_of k s c.requires.here asked_for).0 in
      let ask = w.ask_back-request.ensures in
      let sayings = sayings_of w.ask_back-request.result in
      let asks : (j : centre.Centre) → HasTrain j t before → propose_if_so k.line t s j ≡ asked t after sayings j =
      subst (λ (n : ℕ). (j : centre.Centre) → HasTrain j n before
      → propose_if_so k.line n s j ≡ asked n after sayings j) user.engine ask.exact
      in
      (λ i. (outcome_of c.write_told-in-Ok-Asked.new.self, state_of (w.self-is i)))
      ∙ unset_stands k.line k.number k.clock k.book c.unset.new.self k.desk k.links states
      (set states w.in-Some.i after) sayings (Asked s ∷ []) _ s
      (c.write_told-in-Ok-Asked.ensures
      ∙ (λ i. outcome_with ((w.self-is i).clock) (λ d. []) (sayings_of (w.request-is i)) (Asked s ∷ []) None None))
      (asked_turns k.line k.number (k.clock + 1) k.book c.unset.new.self k.desk k.links states s
      (k.rules.own_sections s) c.unset.ensures.entry c.unset.ensures.wish
      t w.in-Some.i before after sayings c.in-Ok-Asked.ensures.own user.taken user.number user.at user.within
      ask.session_state ask.heard ask.question ask.waiting ask.expectations asks)
  | in-None w ↦
      absurd (no_user c.args.self.now c.args.s c.requires.here
      (sym c.in-Ok-Asked.field-0-is ∙ c.in-Ok-Asked.ensures.answer)
      (λ t taken. sym (c.user_of-user.ensures.value t (c.requires.entry ∙ taken)) ∙ w.in-None.is))
]
