-- The rules keep rights, questions and tokens.
use Rattle.std.proofs.Common.{[], ◌++◌, ◌+◌, ◌<◌, ◌==◌, ◌∙◌, ◌∷◌, ◌≡◌, ◌≤◌, ap, arith, Bool, false, if◌then◌else◌, List}
use Rattle.std.proofs.Common.{ltb-true, None, not, Ok, Option, refl, Some, subst, sym, true, ℕ}
use Rattle.std.proofs.lemmas.Bool.{eqb-true}
use Rattle.std.specs.Option.{option_map_or}
use Rattle.law_base.proofs.CountingLemmas.Resource.{placed_exact_took, placed_sound, placed_sound_took}
use Rattle.law_base.proofs.CountingLemmas.Sums.{put_other, put_same}
use Rattle.law_base.proofs.WalkLemmas.Causes.{still as still_for}
use Rattle.law_base.proofs.WalkLemmas.Moves.{Answer as TakenUp, gives, refuses}
use Rattle.law_base.specs.Counting.Network.{IsCounted, TakesHead, took}
use Rattle.law_base.specs.Counting.Resource.{IsAtCap, IsWithinCap}
use Rattle.law_invariants.proofs.NoCopyLemmas.Rights.{fair_asked, rights_counted, rights_tally}
use Rattle.law_invariants.proofs.NoCopyLemmas.Tally.{Fair, IsTally}
use Rattle.law_invariants.proofs.NoLossLemmas.Worlds.{never_lost, step_loses_nothing}
use Rattle.law_invariants.proofs.NoStrayLemmas.Acts as answering
use Rattle.law_invariants.proofs.NoStrayLemmas.Moves as answering_moves
use Rattle.law_invariants.proofs.NoStrayLemmas.Worlds.{each_reached}
use Rattle.law_invariants.proofs.NoUnaskedLemmas.Asking.{Comes, comes_with, ends_one, Goes, goes_if, goes_rest}
use Rattle.law_invariants.proofs.NoUnaskedLemmas.Asking.{goes_taken, goes_then, more_stands, none_comes, sends_one}
use Rattle.law_invariants.proofs.NoUnaskedLemmas.Asking.{still}
use Rattle.law_invariants.proofs.NoUnaskedLemmas.Moves as asking
use Rattle.law_invariants.specs.Flow.Counts.{rights, tokens}
use Rattle.law_invariants.specs.Flow.Flow.{centre_count, Flow, flow_of}
use Rattle.law_invariants.specs.Flow.Leads.{replied}
use Rattle.law_invariants.specs.NoUnasked.Asked.{OfRight, OfRoute, Question, questions}
use Rattle.rbc_spec.proofs.Lists.{itself}
use Rattle.rbc_spec.specs.Acts.{◌>>◌, Act, become, booked, Reply, rest, send, where_so}
use Rattle.rbc_spec.specs.Centre.{Centre, is_open, is_registrar_of, Taken}
use Rattle.rbc_spec.specs.Frame.{AskRight, RefuseRight}
use Rattle.rbc_spec.specs.Line.{is_centre, IsLine, Line, registrar}
use Rattle.rbc_spec.specs.Links.{is_train, right_asked}
use Rattle.rbc_spec.specs.Maps.{put}
use Rattle.rbc_spec.specs.Place.{covered, Place}
use Rattle.rbc_spec.specs.Rules.{start_waiting}
use Rattle.rbc_spec.specs.World.{Answer, Event, new_world, World, world_run, world_step}

-- ## Rights

pub given_once : (line : Line) (c t : ℕ) (w : Flow) (a u : ℕ) → IsCounted w → is_centre line a ≡ true
    → is_centre line c ≡ true → TakesHead w a c (AskRight u)
    → IsWithinCap (rights line t) (centre_count line) w
    → IsWithinCap (rights line t) (centre_count line) (replied (took w a c) c (right_asked line c a u (w.at c)))
given_once line c t w a u counted from to takes within =
    placed_sound_took (rights line t) (centre_count line) w a c (AskRight u) q.state q.frames counted
    (ltb-true a (centre_count line) from) (ltb-true c (centre_count line) to) takes
    (record { law = omega (arith, fair.law, is.held (w.at c), is.cap (w.at c), is.held q.state, is.cap q.state) })
    within
  where
    is : IsTally line c (rights_tally line c t)
    is = rights_counted line c t

    q : Reply
    q = right_asked line c a u (w.at c)

    fair : Fair line c (rights_tally line c t) (w.at c) 0 0 q
    fair = fair_asked line c (rights_tally line c t) is a u (w.at c) (λ so. cc)

-- ## Questions

by_bool : (P : Reply → Type 0) (b : Bool) (p q : Reply) → (b ≡ true → P p) → (b ≡ false → P q) → P (if b then p else q)
by_bool P true p q one other = one refl
by_bool P false p q one other = other refl

-- the registrar answers an arriving question once, and no question is lost
asked : (line : Line) → IsLine line → (c d t : ℕ) (k : Centre) → is_train line t ≡ true
    → is_registrar_of line c t ≡ true
    → Comes line c (comes_with d c (AskRight t)) k (right_asked line c d t k)
    × (d < centre_count line → answering.Comes line c (comes_with d c (AskRight t)) k (right_asked line c d t k))
unfolding ◌>>◌
asked line ok c d t k known here = (
  of_right (Comes line c (comes_with d c (AskRight t)) k)
      (λ q answer. asking.answered line ok c (still_for t) k d (AskRight t) q known (record {}) answer),
  λ below. of_right (answering.Comes line c (comes_with d c (AskRight t)) k)
      (λ q answer. answering_moves.answered line ok c (still_for t) k d (AskRight t) q below known here answer),
)
  where
    of_right : (P : Reply → Type 0) → ((q : Reply) → TakenUp line c (still_for t) k d (AskRight t) q → P q)
        → P (right_asked line c d t k)
    of_right P each = by_bool P (is_registrar_of line c t) _ (rest k)
        (λ so. by_bool P (k.has_right t) _ (send d (RefuseRight t) k) (λ has. each _ (gives t so has))
        (λ none. each _ (refuses t so)))
        (λ away. absurd (let wrong : true ≡ false = sym here ∙ away in cc))

pub answered : (line : Line) → IsLine line → (w : Flow) (a c t : ℕ) → IsCounted w → is_centre line a ≡ true
    → is_centre line c ≡ true → TakesHead w a c (AskRight t) → is_train line t ≡ true
    → is_registrar_of line c t ≡ true → (x : Question) (d : ℕ) → IsAtCap (questions x d) (centre_count line) w
    → IsAtCap (questions x d) (centre_count line) (replied (took w a c) c (right_asked line c a t (w.at c)))
answered line ok w a c t counted from to takes known here x d full =
    placed_exact_took (questions x d) (centre_count line) w a c (AskRight t) (right_asked line c a t (w.at c)).state
    (right_asked line c a t (w.at c)).frames counted
    (ltb-true a (centre_count line) from) (ltb-true c (centre_count line) to) takes
    (record {
      law = omega (
        arith,
        ((asked line ok c a t (w.at c) known here).0.fair x d).law,
        ((asked line ok c a t (w.at c) known here).1 (ltb-true a (centre_count line) from)).law x d,
      );
    }) full

module _ (line : Line) (ok : IsLine line) (c : ℕ) where
  -- the registrar is asked for the right of a waiting start, if it was not asked yet
  asks_right : (t : ℕ) (j : Centre) → j.has_asked t ≡ false
      → Goes line c j ((option_map_or (λ r. send r (AskRight t)) (registrar line t) rest
      >> become (λ i. record i { has_asked = put i.has_asked t true })) j)
  unfolding ◌>>◌
  asks_right t j none = by_registrar (registrar line t)
    where
      y : Centre
      y = record j { has_asked = put j.has_asked t true }

      counts : (r : ℕ) (x : Question) (d : ℕ) → (questions x d).inside c r (AskRight t) + (questions x d).cap c j
          ≤ 0 + (questions x d).cap c y
      counts r (OfRight u) d = more_stands (t == u) (c == d) (j.has_asked u) (put j.has_asked t true u)
          (λ same. let is = eqb-true t u same in (
            subst (λ v. j.has_asked v ≡ false) is none,
            subst (λ v. put j.has_asked t true v ≡ true) is (put_same j.has_asked t true),
          ))
          (λ other. put_other j.has_asked t true u (λ is. let wrong : true ≡ false = sym (itself t)
          ∙ ap (λ v. t == v) (sym is) ∙ other in cc))
      counts r (OfRoute u first) d = omega arith

      now : (x : Question) (d : ℕ) → (questions x d).cap c j ≤ 0 + (questions x d).cap c y
      now x d = omega (arith, counts 0 x d)

      more : (b : Bool) → (if b then AskRight t ∷ [] else []) ++ [] ≡ (if b then AskRight t ∷ [] else [])
      more true = refl
      more false = refl

      by_registrar : (o : Option ℕ)
          → Goes line c j ((option_map_or (λ r. send r (AskRight t)) o rest
          >> become (λ i. record i { has_asked = put i.has_asked t true })) j)
      by_registrar None = ends_one line c none_comes j y now
      by_registrar (Some r) = sends_one line c none_comes r (AskRight t) j y _
          (λ d. more (d == r)) (counts r) (record {})

  waits_asked : (t : ℕ) (place : Place) (k : Centre) → Goes line c k (start_waiting line t place k)
  waits_asked t place k = goes_then line c waits (where_so (λ j. not (j.has_asked t)) asks_it) k
      (goes_then line c (booked is_open (Taken t) (covered line place))
      (become (λ j. record j { wait = put j.wait t (Some place) })) k
      (goes_taken line c is_open t (covered line place) k)
      (still line c _ _ refl refl))
      (goes_if line c (not ((waits k).state.has_asked t)) (waits k).state
      (asks_it (waits k).state) (rest (waits k).state)
      (λ so. asks_right t (waits k).state (not_so ((waits k).state.has_asked t) so))
      (λ so. goes_rest line c (waits k).state))
    where
      waits : Act
      waits = booked is_open (Taken t) (covered line place)
          >> become (λ j. record j { wait = put j.wait t (Some place) })

      asks_it : Act
      asks_it = option_map_or (λ r. send r (AskRight t)) (registrar line t) rest
          >> become (λ j. record j { has_asked = put j.has_asked t true })

      not_so : (b : Bool) → not b ≡ true → b ≡ false
      not_so true is = cc
      not_so false is = refl

  pub asked_once : (w : Flow) (t d : ℕ) (place : Place) (x : Question) → IsCounted w → is_centre line c ≡ true
      → IsWithinCap (questions x d) (centre_count line) w
      → IsWithinCap (questions x d) (centre_count line) (replied w c (start_waiting line t place (w.at c)))
  asked_once w t d place x counted to = placed_sound (questions x d) (centre_count line) w c
      (start_waiting line t place (w.at c)).state (start_waiting line t place (w.at c)).frames counted
      (ltb-true c (centre_count line) to) ((waits_asked t place (w.at c)).fair x d)

-- ## Tokens

pub none_lost : (line : Line) → IsLine line → (events : List Event) (answers : List Answer) (w : World)
    → world_run line (new_world line) events ≡ Ok (answers, w)
    → (event : Event) (answer : Answer) (new : World) → world_step line w event ≡ Ok (answer, new) → (t s : ℕ)
    → IsAtCap (tokens line t s) (centre_count line) (flow_of new)
none_lost line ok events answers w before event answer new is t s = let reached =
    each_reached line ok events answers w before in
    (step_loses_nothing line ok w reached.sound reached.asked (never_lost line ok events answers w before)
    event answer new is).tokens t s
