-- The messages that a centre has sent, and those that it has received.
use Rattle.std.proofs.Common.{[], ◌+◌, ◌≤◌, ◌++◌, ◌∙◌, ◌∷◌, ◌≡◌, ap, arith, inl, inr, List, refl, subst, sym, ℕ}
use Rattle.std.specs.Prelude.{Contains}
use Rattle.law_promises.proofs.Marks.{IsSince, Later}
use Rattle.law_trains.proofs.Keeps.{Tolds, contains_cases}
use Rattle.law_trains.proofs.Speech.{Speaks, no_word, one_word, Speech, said_rises}
use Rattle.law_trains.specs.Trains.{and_told}
use Rattle.rbc_spec.proofs.Lists.{put_pair_there}
use Rattle.rbc_spec.specs.LineCentre.{LineState, saying_of}
use Rattle.rbc_spec.specs.Message.{DataAcknowledged, TrackBody}
use Rattle.rbc_spec.specs.Outcome.{Saying}

pub record Known (v : LineState) (told : Tolds) : Type 0 where
  -- T_TRAIN of each message counts the messages of its centre to its train
  pub below : (c : ℕ) (p : Saying) → Contains told (c, p) → p.message.t_train ≤ v.said p.nid_engine c
  -- train data that a centre acknowledged have a T_TRAIN not above the last one received
  pub heard : (c : ℕ) (p : Saying) (s : ℕ) → Contains told (c, p) → p.message.body ≡ DataAcknowledged s
      → IsSince s (v.heard p.nid_engine c)

pub known_as : (v new : LineState) (told : Tolds) → ((t d : ℕ) → v.said t d ≤ new.said t d)
    → ((t d : ℕ) → Later (v.heard t d) (new.heard t d)) → Known v told → Known new told
known_as v new told said heard h = record {
  below = λ c p sent. let one = h.below c p sent in let two = said p.nid_engine c in omega (arith, one, two);
  heard = λ c p s sent body. heard p.nid_engine c s (h.heard c p s sent body);
}

pub known_after : (P : TrackBody → ℕ → Type 0) (c : ℕ) (v : LineState) (sayings : List Saying) (new : LineState)
    (told : Tolds) → Speech P c v sayings new
    → ((t s : ℕ) → P (DataAcknowledged s) t → IsSince s (new.heard t c))
    → Known v told → Known new (and_told c sayings told)
known_after P c v sayings new told speech acknowledged h = by_word speech.speaks
  where
    still : Known new told
    still = known_as v new told (said_rises P c v sayings new speech.speaks) speech.heard h

    by_word : Speaks P c v sayings new → Known new (and_told c sayings told)
    by_word (no_word none same) = subst (λ (ps : List Saying). Known new (and_told c ps told)) (sym none) still
    by_word (one_word t group body may is same) =
        subst (λ (ps : List Saying). Known new (and_told c ps told)) (sym is) (record {
          below = λ d p sent. elim (contains_cases (c, saying_of t c group body v) (d, p) told sent) [
            | inl here ↦ subst (λ (q : ℕ × Saying). q.1.message.t_train ≤ new.said q.1.nid_engine q.0) here
                (let now = ap (λ (f : ℕ → ℕ → ℕ). f t c) same ∙ put_pair_there v.said t c (v.said t c + 1) in
                omega (arith, now))
            | inr old ↦ still.below d p old
          ];
          heard = λ d p s sent names. elim (contains_cases (c, saying_of t c group body v) (d, p) told sent) [
            | inl here ↦ subst (λ (q : ℕ × Saying). IsSince s (new.heard q.1.nid_engine q.0)) here
                (acknowledged t s (subst (λ (b : TrackBody). P b t)
                (ap (λ (q : ℕ × Saying). q.1.message.body) here ∙ names) may))
            | inr old ↦ still.heard d p s old names
          ];
        })

pub told_all : (c : ℕ) (ps qs : List Saying) (told : Tolds)
    → and_told c (ps ++ qs) told ≡ and_told c qs (and_told c ps told)
told_all c [] qs told = refl
told_all c (p ∷ ps) qs told = told_all c ps qs ((c, p) ∷ told)
