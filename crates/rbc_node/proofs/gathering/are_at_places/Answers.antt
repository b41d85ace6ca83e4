use Rattle.std.proofs.Common.{◌∙◌, ◌≡◌, ◌≤◌, ap, arith, below_more, length, rules, slice_get, Some, sym}
use Rattle.std.proofs.lemmas.Option.{same_Some, slice_get_read, slice_get_within}
use Rattle.rbc_centre.specs.States.{line_of, number_of}
use Rattle.rbc_log.specs.Log.{IsReplaying, LogValue}
use Rattle.rbc_node.proofs.Gathered.{all_more, all_of}
use Rattle.rbc_node.proofs.gathering.are_at_places.Goals as goal

pub loop-c-preserved : goal.loop-c-preserved
loop-c-preserved c =
    let logs = c.args.logs.now in
    let l : LogValue = c.index-logs-c.result in
    let here : slice_get logs c.loop-c.c ≡ Some l =
    slice_get_read logs (length logs) c.loop-c.c l (search rules) c.loop-c-test.true c.index-logs-c.is in
    record {
      of_line =
          all_more (λ (m : LogValue). line_of m.core ≡ c.args.line.now) logs c.loop-c.c l c.loop-c-test.true
          c.index-logs-c.is c.loop-c.invariant.of_line (search rules);
      replays =
          all_more IsReplaying logs c.loop-c.c l c.loop-c-test.true c.index-logs-c.is c.loop-c.invariant.replays
          c.core.ensures.replays;
      each =
          below_more (λ k. (v : LogValue) → slice_get logs k ≡ Some v → number_of v.core ≡ k) c.loop-c.c
          c.loop-c.invariant.each
          (λ v at. let same : v ≡ l = same_Some v l (sym at ∙ here) in
          ap (λ (m : LogValue). number_of m.core) same ∙ search rules);
    }

pub returns-clause-exact : goal.returns-clause-exact
returns-clause-exact c =
    let past : length c.args.logs.now ≤ c.loop-c.c = omega (arith, c.loop-c-test.false) in (
      λ _. record {
        of_line =
            all_of (λ (m : LogValue). line_of m.core ≡ c.args.line.now) c.args.logs.now c.loop-c.c past
            c.loop-c.invariant.of_line;
        each =
            λ k v at. c.loop-c.invariant.each k
            (let within = slice_get_within c.args.logs.now k v at in omega (arith, within, past)) v at;
      },
      λ _. search rules,
    )

pub returns-clause-replays : goal.returns-clause-replays
returns-clause-replays c _ =
    all_of IsReplaying c.args.logs.now c.loop-c.c (omega (arith, c.loop-c-test.false)) c.loop-c.invariant.replays
