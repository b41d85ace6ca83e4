-- Parts that are played in order.
use Rattle.std.proofs.Common.{[], ◌+◌, ◌<◌, ◌∙◌, ◌∷◌, ◌≡◌, ap, drop, Err, get_or, length, List, Ok, Option, Result}
use Rattle.std.proofs.Common.{Some, subst, suc, sym, ℕ}
use Rattle.std.proofs.lemmas.List.{drop_more}
use Rattle.std.specs.Result.{OnOk}
use Rattle.cli_storm.specs.Storm.{after, Continues, deliveries, Passes, played_by, Rest, storm, with_delivery}
use Rattle.cli_storm.specs.Storm.{with_drawn}
use Rattle.rbc_spec.specs.Line.{Line}
use Rattle.rbc_spec.specs.World.{World}
use Rattle.text_script.proofs.Playing.{Goes, goes_on, stops}
use Rattle.text_script.specs.declared.play.PlayFault.{PlayFault}
use Rattle.text_script.specs.declared.play.PlayFault.TheVariants.{Refused, Untold}
use Rattle.text_script.specs.declared.script.Entry.{Entry}
use Rattle.text_script.specs.declared.script.Entry.TheVariants as entry
use Rattle.text_script.specs.Played.{IsPlayed, Leaves, Telling}
use Rattle.text_script.specs.rbc_world.declared.event.WorldEvent.{WorldEvent}

module _ {T : Type 0} (tells : T → Telling → T → Type 0) (line : Line) where
  -- nothing is played yet

  itself : (w : World) (t : T) (all : List Entry) → Goes tells line w t all all w t
  itself w t all = record { played = λ v u it. it; stopped = λ fault v u it. it }

  -- one entry is played
  pub passes_one : (e : Entry) (left : List Entry) (w v : World) (t u : T) → IsPlayed tells line w t (e ∷ []) v u
      → Passes tells line w t (e ∷ left) v u left
  passes_one e left w v t u is =
      let more = goes_on tells line w t (e ∷ left) e left w v t u (itself w t (e ∷ left)) is in
      (more.played, more.stopped)

  -- one part is played, and then another
  pub passes_both : (all mid left : List Entry) (w v x : World) (t u s : T) → Passes tells line w t all v u mid
      → Passes tells line v u mid x s left → Passes tells line w t all x s left
  passes_both all mid left w v x t u s one two =
      (λ z r it. one.0 z r (two.0 z r it), λ fault z r it. one.1 fault z r (two.1 fault z r it))

  -- the remaining entries fail
  pub then_fails : {F : Type 0} (all left : List Entry) (w v x : World) (t u s : T) (fault : PlayFault F)
      → Passes tells line w t all v u left
      → Leaves {F = F} tells line v u left (Err fault) x s → Leaves {F = F} tells line w t all (Err fault) x s
  then_fails all left w v x t u s (Refused fault) it stopped = it.1 fault x s stopped
  then_fails all left w v x t u s (Untold why) it stopped = tt

  -- an entry fails, for all entries after it
  pub one_fails : {F : Type 0} (e : Entry) (left : List Entry) (w v : World) (t u : T) (fault : PlayFault F)
      → Leaves {F = F} tells line w t (e ∷ []) (Err fault) v u
      → Leaves {F = F} tells line w t (e ∷ left) (Err fault) v u
  one_fails e left w v t u (Refused fault) stopped =
      stops tells line w t (e ∷ left) e left w v t u fault (itself w t (e ∷ left)) stopped
  one_fails e left w v t u (Untold why) stopped = tt

  -- ## One delivery, and all of them

  -- the drawn delivery is played, for all entries after it
  pub delivered : {F : Type 0} (event : WorldEvent) (w v : World) (t u : T) (y z : ℕ) (d : Option WorldEvent × ℕ)
      → (Some event, y) ≡ d → z ≡ y
      → (result : Result (Unit {0}) (PlayFault F)) → OnOk result (v ≡ after line w event)
      → Leaves {F = F} tells line w t (entry.Event event ∷ []) result v u
      → Continues {F = F} tells line w t (with_drawn line w d) result v u z
  delivered event w v t u y z d is same (Ok done) left told = λ rest.
      subst (λ (q : Option WorldEvent × ℕ). Passes tells line w t (with_drawn line w q rest) v u (rest v z)) is
      (subst (λ (x : World). Passes tells line w t (entry.Event event ∷ rest (after line w event) y) v u (rest x z))
      (sym left)
      (subst (λ n. Passes tells line w t (entry.Event event ∷ rest (after line w event) y) v u
      (rest (after line w event) n)) (sym same)
      (passes_one (entry.Event event) (rest (after line w event) y) w v t u told)))
  delivered {F} event w v t u y z d is same (Err fault) left told = λ rest.
      subst (λ (q : Option WorldEvent × ℕ). Leaves {F = F} tells line w t (with_drawn line w q rest) (Err fault) v u) is
      (one_fails {F = F} (entry.Event event) (rest (after line w event) y) w v t u fault told)

  -- no delivery is left
  pub all_delivered : (first w : World) (begun t : T) (x : ℕ) (all : Rest → List Entry) (n : ℕ) → n ≡ 0
      → ((rest : Rest) → Passes tells line first begun (all rest) w t (deliveries n line w x rest))
      → (rest : Rest) → Passes tells line first begun (all rest) w t (rest w x)
  all_delivered first w begun t x all n none so_far rest =
      subst (λ k. Passes tells line first begun (all rest) w t (deliveries k line w x rest)) none (so_far rest)

  -- after the entries played from the beginning, one more part is played
  module _ (l : Line) (same : l ≡ line) (first : World) (begun : T) (w v : World) (t u : T) (x y : ℕ) where
    -- a part of the remaining deliveries
    module _ (all : Rest → List Entry) (n m : ℕ) (count : n ≡ suc m)
        (so_far : (rest : Rest) → Passes tells line first begun (all rest) w t (deliveries n line w x rest)) where
      pub one_delivered : ((rest : Rest) → Passes tells l w t (with_delivery l w x rest) v u (rest v y)) → (rest : Rest)
          → Passes tells line first begun (all rest) v u (deliveries m line v y rest)
      one_delivered one rest =
          passes_both (all rest) (deliveries n line w x rest) (deliveries m line v y rest) first w v begun t u
          (so_far rest)
          (subst (λ k. Passes tells line w t (deliveries k line w x rest) v u (deliveries m line v y rest)) (sym count)
          (subst (λ (k : Line). (others : Rest) → Passes tells k w t (with_delivery k w x others) v u (others v y)) same
          one (λ z j. deliveries m line z j rest)))

      pub delivery_fails : {F : Type 0} (fault : PlayFault F)
          → ((rest : Rest) → Leaves {F = F} tells l w t (with_delivery l w x rest) (Err fault) v u)
          → (rest : Rest) → Leaves {F = F} tells line first begun (all rest) (Err fault) v u
      delivery_fails {F} fault fails rest =
          then_fails {F = F} (all rest) (deliveries n line w x rest) first w v begun t u fault (so_far rest)
          (subst (λ k. Leaves {F = F} tells line w t (deliveries k line w x rest) (Err fault) v u) (sym count)
          (subst (λ (k : Line). (others : Rest)
          → Leaves {F = F} tells k w t (with_delivery k w x others) (Err fault) v u) same fails
          (λ z j. deliveries m line z j rest)))

    -- a part of the entries of a script
    module _ (entries all : List Entry) (i : ℕ) (e : Entry) (some : i < length entries) (is : e ≡ get_or entries i e)
        (so_far : Passes tells line first begun all w t (storm line w x (drop i entries))) where
      next_entry : Passes tells line first begun all w t (storm line w x (e ∷ drop (i + 1) entries))
      next_entry =
          subst (λ (es : List Entry). Passes tells line first begun all w t (storm line w x es))
          (drop_more entries i e some ∙ ap (λ (it : Entry). it ∷ drop (i + 1) entries) (sym is)) so_far

      pub one_played : ((rest : Rest) → Passes tells l w t (played_by l w x e rest) v u (rest v y))
          → Passes tells line first begun all v u (storm line v y (drop (i + 1) entries))
      one_played one =
          passes_both all (storm line w x (e ∷ drop (i + 1) entries)) (storm line v y (drop (i + 1) entries)) first w v
          begun t u next_entry
          (subst (λ (k : Line). (others : Rest) → Passes tells k w t (played_by k w x e others) v u (others v y)) same
          one (λ z j. storm line z j (drop (i + 1) entries)))

      pub entry_fails : {F : Type 0} (fault : PlayFault F)
          → ((rest : Rest) → Leaves {F = F} tells l w t (played_by l w x e rest) (Err fault) v u)
          → Leaves {F = F} tells line first begun all (Err fault) v u
      entry_fails {F} fault fails =
          then_fails {F = F} all (storm line w x (e ∷ drop (i + 1) entries)) first w v begun t u fault next_entry
          (subst (λ (k : Line). (others : Rest) → Leaves {F = F} tells k w t (played_by k w x e others) (Err fault) v u)
          same fails (λ z j. storm line z j (drop (i + 1) entries)))

  -- ## One entry of a script

  -- an event is played, and then the deliveries after it
  pub event_then : {F : Type 0} (l : Line) → l ≡ line → (event : WorldEvent) (w v z : World) (t u s : T) (x k y : ℕ)
      → k ≡ x → v ≡ after line w event → IsPlayed tells line w t (entry.Event event ∷ []) v u
      → (result : Result (Unit {0}) (PlayFault F)) → Continues {F = F} tells l v u (deliveries 4 l v k) result z s y
      → Continues {F = F} tells line w t (played_by line w x (entry.Event event)) result z s y
  event_then l same event w v z t u s x k y kept left told (Ok done) more = λ rest.
      passes_both (entry.Event event ∷ deliveries 4 line (after line w event) x rest) (deliveries 4 line v x rest)
      (rest z y) w v z t u s
      (subst (λ (q : World). Passes tells line w t (entry.Event event ∷ deliveries 4 line q x rest) v u
      (deliveries 4 line v x rest)) left
      (passes_one (entry.Event event) (deliveries 4 line v x rest) w v t u told))
      (subst (λ (it : Line). Passes tells it v u (deliveries 4 it v x rest) z s (rest z y)) same
      (subst (λ n. Passes tells l v u (deliveries 4 l v n rest) z s (rest z y)) kept (more rest)))
  event_then {F} l same event w v z t u s x k y kept left told (Err fault) more = λ rest.
      then_fails {F = F} (entry.Event event ∷ deliveries 4 line (after line w event) x rest)
      (deliveries 4 line v x rest) w v z t u s fault
      (subst (λ (q : World). Passes tells line w t (entry.Event event ∷ deliveries 4 line q x rest) v u
      (deliveries 4 line v x rest)) left
      (passes_one (entry.Event event) (deliveries 4 line v x rest) w v t u told))
      (subst (λ (it : Line). Leaves {F = F} tells it v u (deliveries 4 it v x rest) (Err fault) z s) same
      (subst (λ n. Leaves {F = F} tells l v u (deliveries 4 l v n rest) (Err fault) z s) kept (more rest)))

  -- the event is not played
  pub event_fails : {F : Type 0} (event : WorldEvent) (w v : World) (t u : T) (x y : ℕ) (fault : PlayFault F)
      → Leaves {F = F} tells line w t (entry.Event event ∷ []) (Err fault) v u
      → Continues {F = F} tells line w t (played_by line w x (entry.Event event)) (Err fault) v u y
  event_fails {F} event w v t u x y fault told =
      λ rest. one_fails {F = F} (entry.Event event) (deliveries 4 line (after line w event) x rest) w v t u fault told

  -- the line is shown
  pub shown : {F : Type 0} (w v : World) (t u : T) (x y : ℕ) → v ≡ w → y ≡ x
      → (result : Result (Unit {0}) (PlayFault F)) → Leaves {F = F} tells line w t (entry.Show ∷ []) result v u
      → Continues {F = F} tells line w t (played_by line w x entry.Show) result v u y
  shown w v t u x y stays same (Ok done) told = λ rest.
      subst (λ (q : World). Passes tells line w t (entry.Show ∷ rest w x) v u (rest q y)) (sym stays)
      (subst (λ n. Passes tells line w t (entry.Show ∷ rest w x) v u (rest w n)) (sym same)
      (passes_one entry.Show (rest w x) w v t u told))
  shown {F} w v t u x y stays same (Err fault) told = λ rest. one_fails {F = F} entry.Show (rest w x) w v t u fault told
