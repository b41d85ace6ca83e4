-- A step of the world adds to the frames that its links have sent.
use Rattle.std.proofs.Common.{[], ◌%◌, ◌*◌, ◌+◌, ◌/◌, ◌∙◌, ◌∷◌, ◌≡◌, ap, arith, Bool, Err, false, if◌then◌else◌, inl}
use Rattle.std.proofs.Common.{inr, length, length-append, List, map, None, Ok, Option, refl, Result, slice_get, Some}
use Rattle.std.proofs.Common.{subst, suc, sym, true, ℕ}
use Rattle.std.proofs.lemmas.Bool.Decides.{eqb_tells}
use Rattle.std.specs.List.{range_with_len}
use Rattle.std.specs.Option.{option_map_or}
use Rattle.cli_storm.specs.declared.links.Link.{Link}
use Rattle.cli_storm.specs.Links.{all_links, counted, counted_by, last_number, link_at}
use Rattle.law_logs.proofs.Sorted.{stamped}
use Rattle.rbc_spec.specs.Centre.{beginning, Centre}
use Rattle.rbc_spec.specs.Frame.{Frame}
use Rattle.rbc_spec.specs.Line.{is_centre, Line}
use Rattle.rbc_spec.specs.Maps.{put}
use Rattle.rbc_spec.specs.Outcome.{Outcome}
use Rattle.rbc_spec.specs.Step as centre
use Rattle.rbc_spec.specs.Step.{Refusal, step}
use Rattle.rbc_spec.specs.World.{Answer, at_centre, Bytes, centre_of, Delivery, Event, Fault, frame_sent, mention}
use Rattle.rbc_spec.specs.World.{new_world, NoCentre, NotSent, Set, stepped, takes, Unset, World, world_step}

-- a new line has sent no frame
pub begins : (line : Line) (n k : ℕ) → link_at n (new_world line) k ≡ record { from = k / n; to = k % n; sent = 0 }
unfolding new_world beginning
begins line n k = refl

-- the last frame of a list that is numbered from m + 1 has the number of all frames
last_grown : (m : ℕ) (frames : List Frame) → ((i : ℕ) (f : Frame) → slice_get frames i ≡ Some f → f.number ≡ m + i + 1)
    → last_number m frames ≡ m + length frames
last_grown m [] numbers = omega arith
last_grown m (f ∷ frames) numbers =
    let first : f.number ≡ m + 1 = omega (arith, numbers 0 f refl) in
    subst (λ n. last_number n frames ≡ m + suc (length frames)) (sym first)
    (last_grown (m + 1) frames (λ i g is. omega (arith, numbers (suc i) g is)) ∙ omega arith)

map_over : {X : Type 0} (f : Link → Link) (g h : X → Link) → ((x : X) → f (g x) ≡ h x) → (xs : List X)
    → map f (map g xs) ≡ map h xs
map_over f g h same [] = refl
map_over f g h same (x ∷ xs) = ap (λ y. y ∷ map f (map g xs)) (same x) ∙ ap (λ ys. h x ∷ ys) (map_over f g h same xs)

module _ (line : Line) (w : World) where
  -- centre c takes a step
  module _ (c : ℕ) (k : Centre) (o : Outcome) (trains : List ℕ)
      (it : (d : ℕ) → last_number (length ((w.at c).sent d)) (o.frames d) ≡ length (k.sent d)) where
    one_counted : (a b : ℕ)
        → counted c o.frames (record { from = a; to = b; sent = length ((w.at a).sent b) })
        ≡ record { from = a; to = b; sent = length ((put w.at c k a).sent b) }
    one_counted a b =
        elim (eqb_tells a c) as (λ _. counted c o.frames (record { from = a; to = b; sent = length ((w.at a).sent b) })
        ≡ record { from = a; to = b; sent = length ((put w.at c k a).sent b) }) [
          | inl e ↦
              rw (e.0) (ap (λ n. record { from = a; to = b; sent = n })
              (subst (λ d. last_number (length ((w.at d).sent b)) (o.frames b) ≡ length (k.sent b)) (sym e.1) (it b)))
          | inr e ↦ rw (e.0) refl
        ]

    all_counted : map (counted c o.frames) (all_links line w)
        ≡ all_links line (record { at = put w.at c k; trains = trains })
    all_counted =
        map_over (counted c o.frames) (link_at (length line.centres) w)
        (link_at (length line.centres) (record { at = put w.at c k; trains = trains }))
        (λ j. one_counted (j / length line.centres) (j % length line.centres))
        (range_with_len 0 (length line.centres * length line.centres))

  abbrev Adds : ℕ → Result (Answer × World) Refusal → Type 0
  Adds c r = (a : Answer) (v : World) → r ≡ Ok (a, v) → counted_by c a (all_links line w) ≡ all_links line v

  answered : (c : ℕ) (x : Answer × World) → counted_by c x.0 (all_links line w) ≡ all_links line x.1 → Adds c (Ok x)
  answered c x h a v is =
      subst (λ (y : Answer × World). counted_by c y.0 (all_links line w) ≡ all_links line y.1) same h
    where
      same : x ≡ (a, v)
      same = cc

  refused : (c : ℕ) (why : Refusal) → Adds c (Err why)
  refused c why a v is = cc

  grown : (c : ℕ) (event : centre.Event) (k : Centre) (o : Outcome) → step line c event (w.at c) ≡ Ok (o, k) → (d : ℕ)
      → last_number (length ((w.at c).sent d)) (o.frames d) ≡ length (k.sent d)
  grown c event k o is d =
      let it = stamped line c event (w.at c) k o is in
      last_grown (length ((w.at c).sent d)) (o.frames d) (it.numbers d)
      ∙ sym (ap length (it.sent d) ∙ length-append ((w.at c).sent d) (o.frames d))

  stepped_adds : (c : ℕ) (trains : List ℕ) (event : centre.Event) (r : Result (Outcome × Centre) Refusal)
      → step line c event (w.at c) ≡ r → Adds c (stepped w c trains r)
  stepped_adds c trains event (Ok x) is = answered c _ (all_counted c x.1 x.0 trains (grown c event x.1 x.0 is))
  stepped_adds c trains event (Err why) is = refused c why

  takes_adds : (c : ℕ) (trains : List ℕ) (event : centre.Event) → Adds c (takes line w c trains event)
  takes_adds c trains event = stepped_adds c trains event (step line c event (w.at c)) refl

  at_adds : (c : ℕ) (done : Result (Answer × World) Refusal) → Adds c done → Adds c (at_centre line w c done)
  at_adds c done h = chosen (is_centre line c)
    where
      chosen : (b : Bool) → Adds c (if b then done else Ok (NoCentre, w))
      chosen true = h
      chosen false = answered c (NoCentre, w) refl

  delivered_adds : (a b : ℕ) (o : Option Frame)
      → Adds b (option_map_or (λ f. takes line w b w.trains (centre.Deliver a f)) o (Ok (NotSent, w)))
  delivered_adds a b (Some f) = takes_adds b w.trains (centre.Deliver a f)
  delivered_adds a b None = answered b (NotSent, w) refl

  -- the answer contains the frames that were sent
  pub adds : (e : Event) → Adds (centre_of e) (world_step line w e)
  unfolding world_step
  adds (Bytes c (Ok m)) = at_adds c _ (takes_adds c (mention line m.nid_engine w.trains) (centre.Train m))
  adds (Bytes c (Err number)) = at_adds c _ (answered c (Fault number, w) refl)
  adds (Set c s) = at_adds c _ (takes_adds c w.trains (centre.Set s))
  adds (Unset c s) = at_adds c _ (takes_adds c w.trains (centre.Unset s))
  adds (Delivery a b number) = delivered_adds a b (frame_sent w a b number)
