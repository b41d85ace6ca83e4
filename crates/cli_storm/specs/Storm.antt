-- The entries that a storm plays.
use Rattle.std.specs.Prelude.{ℕ, zero, suc, List, [], ◌∷◌, Option, Some, None, Result, Ok, Err}
use Rattle.rbc_spec.specs.Line.{Line}
use Rattle.rbc_spec.specs.World.{World, Answer, world_step}
use Rattle.rbc_spec.specs.Step.{Refusal}
use Rattle.text_script.specs.rbc_centre.declared.fault.StepFault.{StepFault}
use Rattle.text_script.specs.rbc_world.Views.{event_of}
use Rattle.text_script.specs.rbc_world.declared.event.WorldEvent.{WorldEvent}
use Rattle.text_script.specs.declared.script.Entry.{Entry}
use Rattle.text_script.specs.declared.script.Entry.TheVariants as entry
use Rattle.text_script.specs.declared.play.PlayFault.{PlayFault}
use Rattle.text_script.specs.Played.{Telling, IsPlayed, IsStopped, Leaves}
use Rattle.cli_storm.specs.Links.{delivery, sending}

abbrev pub world_of : World → Result (Answer × World) Refusal → World
world_of w (Ok x) = x.1
world_of w (Err why) = w

-- the world after an event; if its step is refused, nothing is played after it
abbrev pub after : Line → World → WorldEvent → World
after line w event = world_of w (world_step line w (event_of event))

-- The entries after an entry are a function of the world and of the state of the draws.
abbrev pub Rest : Type 0
Rest = World → ℕ → List Entry

abbrev pub with_drawn : Line → World → Option WorldEvent × ℕ → Rest → List Entry
with_drawn line w (None, x) rest = rest w x
with_drawn line w (Some event, x) rest = entry.Event event ∷ rest (after line w event) x

-- a delivery, if one is drawn, and the rest
abbrev pub with_delivery : Line → World → ℕ → Rest → List Entry
with_delivery line w x rest = with_drawn line w (delivery (sending line w) x) rest

-- this many deliveries, and the rest
abbrev pub deliveries : ℕ → Line → World → ℕ → Rest → List Entry
deliveries zero line w x rest = rest w x
deliveries (suc n) line w x rest = with_delivery line w x (λ v y. deliveries n line v y rest)

-- an entry of the script with its drawn deliveries, and the rest: four deliveries after an event, none after `show`
abbrev pub played_by : Line → World → ℕ → Entry → Rest → List Entry
played_by line w x entry.Show rest = entry.Show ∷ rest w x
played_by line w x (entry.Event event) rest = entry.Event event ∷ deliveries 4 line (after line w event) x rest

-- all entries of the script
abbrev pub storm : Line → World → ℕ → List Entry → List Entry
storm line w x [] = []
storm line w x (e ∷ entries) = played_by line w x e (λ v y. storm line v y entries)

-- The remaining entries lead from here to the same result as all entries from the beginning, played or stopped.
abbrev pub Passes : {T : Type 0} → (T → Telling → T → Type 0) → Line → World → T → List Entry → World → T → List Entry
    → Type 0
Passes {T} tells line w t all v u left =
    ((z : World) (r : T) → IsPlayed tells line v u left z r → IsPlayed tells line w t all z r)
    × ((fault : StepFault) (z : World) (r : T) → IsStopped tells line v u left fault z r
    → IsStopped tells line w t all fault z r)

-- The call plays a part. If it succeeds, the rest remains. Otherwise it ends as part and rest end, for each rest.
abbrev pub Continues : {T F : Type 0} → (T → Telling → T → Type 0) → Line → World → T → (Rest → List Entry)
    → Result (Unit {0}) (PlayFault F) → World → T → ℕ → Type 0
Continues tells line w t part (Ok done) v u x = (rest : Rest) → Passes tells line w t (part rest) v u (rest v x)
Continues {F = F} tells line w t part (Err fault) v u x =
    (rest : Rest) → Leaves {F = F} tells line w t (part rest) (Err fault) v u
