use Rattle.std.proofs.Common.{◌∙◌, ◌≡◌, ap, arith, eq-eqb, refl, sym}
use Rattle.rbc_allocation.proofs.Held.{held_more}
use Rattle.rbc_allocation.proofs.Runs.{grows, HasGrown, takes_all}
use Rattle.rbc_allocation.proofs.sections.take_run.Goals as goal
use Rattle.rbc_book.specs.Book.{is_own}
use Rattle.rbc_book.specs.Claim.{claimed}
use Rattle.rbc_book.specs.declared.claim.Claims.{Claims}
use Rattle.rbc_hand.specs.Tokens.{Own}
use Rattle.rbc_line.specs.SectionRuns.{run_of}

pub extend_own-requires-clause-room : goal.extend_own-requires-clause-room
extend_own-requires-clause-room c =
    let count : (claimed c.take_run-claims.result).count ≡ c.args.sections.count =
    ap (λ (x : Claims). (claimed x).count) c.take_run-claims.ensures.claims in
    omega (arith, count, c.requires.room)

pub extend_own-requires-clause-numbers : goal.extend_own-requires-clause-numbers
extend_own-requires-clause-numbers c =
    let first : (claimed c.take_run-claims.result).first ≡ c.args.sections.first =
    ap (λ (x : Claims). (claimed x).first) c.take_run-claims.ensures.claims in
    let count : (claimed c.take_run-claims.result).count ≡ c.args.sections.count =
    ap (λ (x : Claims). (claimed x).count) c.take_run-claims.ensures.claims in
    omega (arith, first, count, c.requires.numbers)

pub extend_own-requires-clause-next : goal.extend_own-requires-clause-next
extend_own-requires-clause-next c some =
    c.requires.next some ∙ sym (ap (λ (x : Claims). (claimed x).first) c.take_run-claims.ensures.claims)

pub returns-clause-count : goal.returns-clause-count
returns-clause-count c =
    (grows c.args.hand.now c.extend_own.new.self c.args.sections.first c.args.sections.count c.args.nid_engine
    c.take_run-claims.result c.take_run-claims.ensures.claims c.requires.next c.extend_own.ensures).long

pub returns-clause-first : goal.returns-clause-first
returns-clause-first c some =
    (grows c.args.hand.now c.extend_own.new.self c.args.sections.first c.args.sections.count c.args.nid_engine
    c.take_run-claims.result c.take_run-claims.ensures.claims c.requires.next c.extend_own.ensures).begins

pub returns-clause-holds : goal.returns-clause-holds
returns-clause-holds c =
    (grows c.args.hand.now c.extend_own.new.self c.args.sections.first c.args.sections.count c.args.nid_engine
    c.take_run-claims.result c.take_run-claims.ensures.claims c.requires.next c.extend_own.ensures).holds

pub returns-clause-held : goal.returns-clause-held
returns-clause-held c so =
    let grown : HasGrown c.args.hand.now c.extend_own.new.self c.args.sections.first c.args.sections.count
    c.args.nid_engine =
    grows c.args.hand.now c.extend_own.new.self c.args.sections.first c.args.sections.count c.args.nid_engine
    c.take_run-claims.result c.take_run-claims.ensures.claims c.requires.next c.extend_own.ensures in
    held_more c.args.nid_engine (is_own c.args.book.now)
    (is_own c.take_run-claims.new.self) c.take_run-claims.ensures.homes c.args.hand.now c.extend_own.new.self
    c.args.sections.count (Own c.args.nid_engine)
    (λ some. let before = c.requires.next some in let now = grown.begins in omega (arith, before, now))
    grown.holds
    (λ j lt. eq-eqb c.args.nid_engine c.args.nid_engine refl) so

pub returns-clause-book : goal.returns-clause-book
returns-clause-book c =
    takes_all c.args.nid_engine (run_of c.args.sections) c.args.book.now c.take_run-claims.new.self c.requires.open
    c.take_run-claims.ensures.homes c.take_run-claims.ensures.entry c.take_run-claims.ensures.wish
