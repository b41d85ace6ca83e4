-- A rerun of entries, one by one.
use Rattle.std.proofs.Common.{[], ◌++◌, ◌+◌, ◌<◌, ◌∙◌, ◌∷◌, ◌≡◌, ◌≤◌, ap, arith, drop, Err, get_or, length, List, map}
use Rattle.std.proofs.Common.{Ok, refl, Some, suc, sym, take, zero, ℕ}
use Rattle.std.proofs.lemmas.List.{map-append}
use Rattle.cli_commands.specs.Rerunning.Rerun.{happened, IsRerun, stamp_of}
use Rattle.law_reached.proofs.Known.{run_of_none}
use Rattle.rbc_spec.specs.Line.{Line}
use Rattle.rbc_spec.specs.Step.{ClockEnd as AtClockEnd, LinkFull as AtLinkFull, Refusal}
use Rattle.rbc_spec.specs.World.{Answer, IsRefused, new_world, World, world_run, world_step}
use Rattle.text_journal.specs.declared.entry.Entry.{Entry}
use Rattle.text_script.proofs.rbc_world_lemmas.Loop.{map_push}
use Rattle.text_script.proofs.rbc_world_lemmas.Reached.{run_on}
use Rattle.text_script.specs.rbc_centre.declared.fault.StepFault.{StepFault}
use Rattle.text_script.specs.rbc_centre.declared.fault.StepFault.TheVariants.{ClockEnd, LinkFull, Memory}
use Rattle.text_script.specs.rbc_world.Answers.{IsRefusal, IsRefusedRun}

-- no entries are a run
pub begins : (line : Line) (w : World) → w ≡ new_world line → IsRerun line [] w
begins line w new = record {
  answers = [];
  run = run_of_none line (new_world line) ∙ ap (λ (v : World). Ok ([], v)) (sym new);
  stamps = refl;
}

-- an entry extends a run if the answer to its event has its stamp
pub goes_on : (line : Line) (front : List Entry) (e : Entry) (w x : World) (a : Answer) → IsRerun line front w
    → world_step line w (happened e) ≡ Ok (a, x) → stamp_of a ≡ Some e.stamp → IsRerun line (front ++ e ∷ []) x
goes_on line front e w x a so_far step stamp = record {
  answers = so_far.answers ++ a ∷ [];
  run = ap (world_run line (new_world line)) (map_push happened front e)
      ∙ run_on line (map happened front) (new_world line) w x so_far.answers (happened e) a so_far.run step;
  stamps =
      map_push stamp_of so_far.answers a ∙ (λ i. so_far.stamps i ++ stamp i ∷ [])
      ∙ sym (map_push (λ (d : Entry). Some d.stamp) front e);
}

-- ## A list that is cut at one of its entries

pub cut_at : {X : Type 0} (xs : List X) (k : ℕ) (x : X) → k < length xs → x ≡ get_or xs k x
    → xs ≡ take k xs ++ x ∷ drop (k + 1) xs
cut_at [] k x low is = absurd (let never : ⊥ = omega arith in never)
cut_at (y ∷ ys) zero x low is = ap (λ z. z ∷ ys) (sym is)
cut_at (y ∷ ys) (suc k) x low is =
    let next : suc k + 1 ≡ suc (k + 1) = omega arith in
    rw next (ap (λ zs. y ∷ zs) (cut_at ys k x (omega arith) is))

pub one_more : {X : Type 0} (xs : List X) (k : ℕ) (x : X) → k < length xs → x ≡ get_or xs k x
    → take (k + 1) xs ≡ take k xs ++ x ∷ []
one_more [] k x low is = absurd (let never : ⊥ = omega arith in never)
one_more (y ∷ ys) zero x low is = ap (λ z. z ∷ []) (sym is)
one_more (y ∷ ys) (suc k) x low is =
    let next : suc k + 1 ≡ suc (k + 1) = omega arith in
    rw next (ap (λ zs. y ∷ zs) (one_more ys k x (omega arith) is))

pub all_taken : {X : Type 0} (xs : List X) (k : ℕ) → length xs ≤ k → take k xs ≡ xs
all_taken [] zero low = refl
all_taken [] (suc k) low = refl
all_taken (y ∷ ys) zero low = absurd (let never : ⊥ = omega arith in never)
all_taken (y ∷ ys) (suc k) low = ap (λ zs. y ∷ zs) (all_taken ys k (omega arith))

-- ## Steps that are refused

refused_as : (line : Line) (es front rest : List Entry) (e : Entry) (w : World) (why : Refusal) → es ≡ front ++ e ∷ rest
    → IsRerun line front w
    → world_step line w (happened e) ≡ Err why → IsRefused line (new_world line) (map happened es) why
refused_as line es front rest e w why cut so_far refusal = record {
  front = map happened front;
  event = happened e;
  rest = map happened rest;
  answers = so_far.answers;
  reached = w;
  cut = ap (map happened) cut ∙ map-append happened front (e ∷ rest);
  answered = so_far.run;
  refused = refusal;
}

pub refused : (line : Line) (es front rest : List Entry) (e : Entry) (w : World) (fault : StepFault)
    → es ≡ front ++ e ∷ rest → IsRerun line front w
    → IsRefusal fault (world_step line w (happened e)) → IsRefusedRun line (map happened es) fault
refused line es front rest e w Memory cut so_far refusal = tt
refused line es front rest e w LinkFull cut so_far refusal =
    refused_as line es front rest e w AtLinkFull cut so_far refusal
refused line es front rest e w ClockEnd cut so_far refusal =
    refused_as line es front rest e w AtClockEnd cut so_far refusal
