-- The answers to the commands of the interlocking.
use Rattle.std.proofs.Common.{◌∙◌, ◌≡◌, Err, IfErr, IfOk, IfSome, inl, inr, List, None, Ok, OnErr, OnOk}
use Rattle.std.proofs.Common.{Option, refl, Result, slice_get, slice_set, Some, subst, sym, ℕ}
use Rattle.std.specs.Option.{option_map_or}
use Rattle.rbc_node.specs.declared.fault.ShareFault.{ShareFault}
use Rattle.rbc_node.specs.declared.node.Node.{Node}
use Rattle.rbc_node.specs.Node.{centre_of, CommitsAt, RefusesAt}
use Rattle.rbc_node.specs.Receipts.{ShareValue}
use Rattle.serve_control.specs.Answers.{IsCommitPrint}
use Rattle.serve_line.specs.Commits.{IsAnswer, IsShowAnswer, IsShowText, IsTaken, journal_fault, MayBeTaken}
use Rattle.serve_line.specs.declared.clients.answer.Served.{Served}
use Rattle.serve_line.specs.declared.state.server.Server.{Server}
use Rattle.text_script.specs.rbc_centre.declared.event.Event.{Event}
use Rattle.text_script.specs.rbc_centre.declared.outcome.Outcome.{Outcome}
use Rattle.text_script.specs.rbc_centre.Views.{outcome_of}
use Rattle.text_script.specs.rbc_world.declared.event.WorldEvent.{WorldEvent}

-- an answer of a centre through the share in the centre's place
pub taken_by :
    (nodes : List Node) (c : ℕ) (event : Event) (old : List ShareValue) (node : Node) (before after : ShareValue)
    (answer : Result Outcome ShareFault) → slice_get nodes c ≡ Some node → slice_get old c ≡ Some before
    → IfOk answer (λ o. CommitsAt (centre_of node) before after event (outcome_of o))
    → IfErr answer (RefusesAt (centre_of node) before event) → OnErr answer (after ≡ before)
    → IsTaken nodes c event answer old (slice_set old c after)
taken_by nodes c event old node before after (Ok o) there share commits refused same = record {
  node = node;
  before = before;
  after = after;
  there = there;
  share = share;
  given = commits;
  others = refl;
}
taken_by nodes c event old node before after (Err why) there share commits refused same = record {
  node = node;
  before = before;
  after = after;
  there = there;
  share = share;
  given = (refused, same);
  others = refl;
}

-- the print of an answer, if it was opened; else that a journal can't be written
pub answer_is : {T : Type 0} (served : Served) (c : ℕ) (event : Event) (printed : WorldEvent)
    (old new : List ShareValue) (answer : Result Outcome ShareFault) (opened : Option T) (bytes : T → List ℕ)
    (print text : List ℕ) → IsTaken served.server.now.nodes.now c event answer old new
    → IsCommitPrint served.server.now.line.now c printed answer print
    → IfSome opened (λ o. bytes o ≡ print) → text ≡ option_map_or bytes opened journal_fault
    → IsAnswer served c event printed old new text
answer_is served c event printed old new answer None bytes print text taken is same put = inr (answer, taken, inl put)
answer_is served c event printed old new answer (Some o) bytes print text taken is same put =
    inr (answer, taken, inr (subst (IsCommitPrint served.server.now.line.now c printed answer) (sym (put ∙ same)) is))

-- the same, at an error after the answer
pub taken_before :
    {T E : Type 0} (result : Result T E) (nodes : List Node) (c : ℕ) (event : Event) (old : List ShareValue)
    (node : Node) (before after : ShareValue) (answer : Result Outcome ShareFault) → slice_get nodes c ≡ Some node
    → slice_get old c ≡ Some before
    → IfOk answer (λ o. CommitsAt (centre_of node) before after event (outcome_of o))
    → IfErr answer (RefusesAt (centre_of node) before event) → OnErr answer (after ≡ before)
    → OnErr result (MayBeTaken nodes c event old (slice_set old c after))
taken_before (Ok x) nodes c event old node before after answer there share commits refused same = tt
taken_before (Err why) nodes c event old node before after answer there share commits refused same =
    inr (answer, taken_by nodes c event old node before after answer there share commits refused same)

-- a fact holds at success
pub if_ok : {T E A : Type 0} (result : Result T E) → A → OnOk result A
if_ok (Ok x) a = a
if_ok (Err why) a = tt

-- at success a fact leads to another
pub at_ok : {T E A B : Type 0} (result : Result T E) → OnOk result A → (A → B) → OnOk result B
at_ok (Ok x) a f = f a
at_ok (Err why) a f = tt

-- the text of `show`, if it was opened; else that a journal can't be written
pub show_is : {T : Type 0} (server : Server) (opened : Option T) (bytes : T → List ℕ) (print text : List ℕ)
    → IsShowText server.line.now server.nodes.now server.options.shows_life print
    → IfSome opened (λ o. bytes o ≡ print)
    → text ≡ option_map_or bytes opened journal_fault → IsShowAnswer server text
show_is server None bytes print text is same put = inl put
show_is server (Some o) bytes print text is same put =
    inr (subst (IsShowText server.line.now server.nodes.now server.options.shows_life) (sym (put ∙ same)) is)
