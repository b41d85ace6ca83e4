use Rattle.std.proofs.Common.{◌++◌, ◌+◌, ◌-◌, ◌∙◌, ◌≡◌, ap, arith, deque_len, length, refl}
use Rattle.rbc_book.specs.Claim.{claimed, claims_train}
use Rattle.rbc_book.specs.declared.claim.Claims.{Claims}
use Rattle.rbc_hand.proofs.Grows.{pushed_count, pushed_more, pushed_none}
use Rattle.rbc_hand.proofs.hand.push_claims.Goals as goal
use Rattle.rbc_hand.specs.declared.token.Token.TheVariants as code
use Rattle.rbc_hand.specs.Hands.{own_tokens}

pub loop-init : goal.loop-init
loop-init c = (pushed_none c.args.claims c.args.tokens.now.items, refl)

pub cut_front-requires-clause-some : goal.cut_front-requires-clause-some
cut_front-requires-clause-some c =
    let count : (claimed c.loop.claims).count ≡ (claimed c.args.claims).count - c.loop.counter =
    ap (λ (x : Claims). (claimed x).count) c.loop.invariant.0.rest in
    omega (arith, count, c.loop-test.true, c.len-end.ensures)

pub cut_front-requires-clause-numbers : goal.cut_front-requires-clause-numbers
cut_front-requires-clause-numbers c =
    let count : (claimed c.loop.claims).count ≡ (claimed c.args.claims).count - c.loop.counter =
    ap (λ (x : Claims). (claimed x).count) c.loop.invariant.0.rest in
    let first : (claimed c.loop.claims).first ≡ (claimed c.args.claims).first + c.loop.counter =
    ap (λ (x : Claims). (claimed x).first) c.loop.invariant.0.rest in
    omega (arith, count, first, c.loop-test.true, c.len-end.ensures, c.requires.numbers)

pub push_back_reserved-requires : goal.push_back_reserved-requires
push_back_reserved-requires c =
    let long : deque_len c.loop.tokens ≡ length c.loop.tokens.items = c.loop.tokens.ok.0 in
    let pushed = pushed_count c.loop.counter c.args.claims c.loop.claims c.args.tokens.now.items
    c.loop.tokens.items c.loop.invariant.0 in
    omega (arith, long, pushed, c.loop.invariant.1, c.loop-test.true, c.len-end.ensures, c.requires.room)

pub loop-preserved : goal.loop-preserved
loop-preserved c = (
  pushed_more c.loop.counter c.args.claims c.loop.claims c.cut_front.new.self (code.Own c.cut_front.result)
      c.args.tokens.now.items c.loop.tokens.items c.push_back_reserved.new.self.items c.loop.invariant.0
      (ap code.Own c.cut_front.ensures.claim) c.cut_front.ensures.rest c.push_back_reserved.ensures.items,
  c.push_back_reserved.ensures.capacity ∙ c.loop.invariant.1,
)

pub end-requires : goal.end-requires
end-requires c =
    let count : (claimed c.loop.claims).count ≡ (claimed c.args.claims).count - c.loop.counter =
    ap (λ (x : Claims). (claimed x).count) c.loop.invariant.0.rest in
    omega (arith, count, c.loop-test.false, c.len-end.ensures)

pub returns-clause-items : goal.returns-clause-items
returns-clause-items c =
    let all : c.loop.counter ≡ (claimed c.args.claims).count =
    omega (arith, c.loop-test.false, c.loop.auto.counter-end, c.len-end.ensures) in
    c.loop.invariant.0.items
    ∙ ap (λ n. c.args.tokens.now.items ++ own_tokens (claimed c.args.claims).first n (claims_train c.args.claims))
    all
