-- Changes of a view that change nothing.
use Rattle.std.proofs.Common.{◌∙◌, ◌≡◌, ap, None, Option, option_map, Some, sym, ℕ}
use Rattle.law_outside.specs.Outside as spec
use Rattle.rbc_spec.specs.Line.{Line}
use Rattle.rbc_spec.specs.Maps.{put}
use Rattle.rbc_spec.specs.Message.{TrainMessage}
use Rattle.rbc_watch.proofs.Maps.{put_there}
use Rattle.rbc_watch.specs.Steps.{less}

-- a train without a stretch has nothing to give up
pub nothing_less : (line : Line) (c : ℕ) (m : TrainMessage) (v : spec.View) → v.stretch m.nid_engine ≡ None
    → v ≡ less line c m v
nothing_less line c m v none =
    ap (λ (f : ℕ → Option spec.Stretch). record v { stretch = f })
    (put_there v.stretch m.nid_engine _
    (none ∙ sym (ap (option_map (spec.after_message line c m.t_train m.body)) none)))

-- the rest of a train's stretch
pub one_less : (line : Line) (c : ℕ) (m : TrainMessage) (v : spec.View) (x y : spec.Stretch)
    → v.stretch m.nid_engine ≡ Some x → y ≡ spec.after_message line c m.t_train m.body x
    → spec.gets m.nid_engine (Some y) v ≡ less line c m v
one_less line c m v x y there rest =
    ap (λ (o : Option spec.Stretch). record v { stretch = put v.stretch m.nid_engine o })
    (ap Some rest ∙ sym (ap (option_map (spec.after_message line c m.t_train m.body)) there))
