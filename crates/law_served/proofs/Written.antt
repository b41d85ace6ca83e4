-- The bytes to a train spell a beginning of the messages that the log has for it.
use Rattle.std.proofs.Common.{[], ◌++◌, ◌+◌, ◌-◌, ◌<◌, ◌∙◌, ◌∷◌, ◌≡◌, All, ap, arith, Contains, drop, length, List}
use Rattle.std.proofs.Common.{map, Option, refl, slice_index_or, subst, suc, sym, zero, ℕ}
use Rattle.std.proofs.lemmas.List.{drop_more}
use Rattle.std.proofs.lemmas.List.Elements.{All-head, All-tail}
use Rattle.law_logs.proofs.Numbered.{numbered}
use Rattle.law_logs.specs.Logs.{LogEntry, Replays}
use Rattle.law_logs.specs.Messages.{AreNumbered, told_to}
use Rattle.law_served.specs.Served.{IsOf, SpellBeginning, told_from}
use Rattle.rbc_spec.specs.Centre.{beginning, Centre}
use Rattle.rbc_spec.specs.Line.{Line}
use Rattle.rbc_spec.specs.Message.{TrackMessage}
use Rattle.serve_workers.proofs.WritingLemmas.Lane.{released}
use Rattle.serve_workers.specs.declared.writing.reply.Reply.{Reply}
use Rattle.serve_workers.specs.Writing.Lane as lane
use Rattle.serve_workers.specs.Writing.Lane.{Call, Goes, IsCounted, let_out, submitted}
use Rattle.serve_workers.specs.Writing.Row.{SpellRow}

-- the message at a place has the number of the first one plus the place
number_at : (n : ℕ) (told : List TrackMessage) (i : ℕ) (m : TrackMessage) → AreNumbered n told → i < length told
    → (slice_index_or told i m).t_train ≡ n + i
number_at n [] i m numbers within = absurd (let no : ⊥ = omega (arith, within) in no)
number_at n (x ∷ told) zero m numbers within = numbers.0 ∙ omega arith
number_at n (x ∷ told) (suc i) m numbers within =
    number_at (n + 1) told i m numbers.1 (omega (arith, within)) ∙ omega arith

-- replies that are counted from a number, each one of the messages, are these messages from that number on
runs : (told : List TrackMessage) (first : ℕ) (outs : List Reply) → AreNumbered 1 told → IsCounted first outs
    → All (IsOf told) outs
    → (later : List TrackMessage) × (drop (first - 1) told ≡ map (λ (r : Reply). r.message) outs ++ later)
runs told first [] numbers counted all = (drop (first - 1) told, refl)
runs told first (r ∷ outs) numbers counted all =
    let its : Contains told r.message = All-head (IsOf told) r outs all in
    let number : (slice_index_or told its.0 r.message).t_train ≡ 1 + its.0 =
    number_at 1 told its.0 r.message numbers its.1 in
    let same : r.message.t_train ≡ 1 + its.0 = ap (λ (m : TrackMessage). m.t_train) (sym its.2) ∙ number in
    let turn : r.message.t_train ≡ first = counted.0 in
    let place : its.0 ≡ first - 1 = omega (arith, same, turn) in
    let next : first - 1 + 1 ≡ first + 1 - 1 = omega (arith, same, turn) in
    let here : first - 1 < length told = (let within = its.1 in omega (arith, within, place)) in
    let at : slice_index_or told (first - 1) r.message ≡ r.message =
    subst (λ i. slice_index_or told i r.message ≡ r.message) place its.2 in
    let later = runs told (first + 1) outs numbers counted.1 (All-tail (IsOf told) r outs all) in (
      later.0,
      drop_more told (first - 1) r.message here
          ∙ ap (λ m. m ∷ drop (first - 1 + 1) told) at
          ∙ ap (λ n. r.message ∷ drop n told) next
          ∙ ap (λ ms. r.message ∷ ms) later.1,
    )

pub written : (line : Line) (c t : ℕ) (log : List LogEntry) (end : Centre) (first connection last : ℕ)
    (serving : Option ℕ) (early left : List Reply) (calls : List Call) (bytes : List ℕ)
    → Replays line c (beginning line c) log end
    → All (IsOf (told_to t log)) early → All (IsOf (told_to t log)) (submitted calls)
    → Goes calls first serving early last left → lane.Serves connection calls first serving
    → SpellRow bytes (map (λ reply. reply.message) (let_out calls))
    → SpellBeginning bytes (told_from first t log)
written line c t log end first connection last serving early left calls bytes replays waits come goes serves spelled =
    let told : List TrackMessage = told_to t log in
    let out = released (IsOf told) first connection serving early calls waits come last left goes serves in
    let it = runs told first (let_out calls) (numbered line c t log end replays) out.0 out.1 in
    record {
      written = map (λ (r : Reply). r.message) (let_out calls);
      later = it.0;
      begins = it.1;
      spelled = spelled;
    }
