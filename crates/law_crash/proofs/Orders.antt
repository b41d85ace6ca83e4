-- Entries of logs in an order in which each frame is taken after it was sent are a run of the world.
use Rattle.std.proofs.Common.{[], ⊎_elim, ◌++◌, ◌-◌, ◌==◌, ◌∙◌, ◌∷◌, ◌≡◌, ap, append-nil, arith}
use Rattle.std.proofs.Common.{false, if◌then◌else◌, inl, inr, List, map, ne_eqb, None, Ok, refl, slice_get, subst, sym}
use Rattle.std.proofs.Common.{true, ℕ}
use Rattle.std.proofs.lemmas.Bool.{cases_Bool, cond-false}
use Rattle.std.proofs.lemmas.Bool.Decides.{eqb_tells}
use Rattle.std.proofs.lemmas.List.Elements.{filter-append}
use Rattle.law_logs.proofs.Merged.{answers, IsThere, run_on}
use Rattle.law_logs.proofs.Sorted.{sent_under}
use Rattle.law_logs.specs.Beginnings.Beginnings.{IsWrittenAfter}
use Rattle.law_logs.specs.Logs.{answered, entries_of, happened, IsFromLog, LogEntry, Replays}
use Rattle.rbc_spec.proofs.Lists.{itself, put_other, put_there}
use Rattle.rbc_spec.specs.Centre.{beginning, Centre}
use Rattle.rbc_spec.specs.Line.{is_centre, Line}
use Rattle.rbc_spec.specs.Maps.{put}
use Rattle.rbc_spec.specs.Step.{Deliver, Event, Set, step, Train, Unset}
use Rattle.rbc_spec.specs.World.{World, world_run}

not_empty : (e : LogEntry) (es : List LogEntry) → e ∷ es ≡ [] → ⊥
not_empty e es is = cc

module _ (line : Line) where
  -- a log with one entry more
  replays_more : (c : ℕ) (k mid last : Centre) (es : List LogEntry) (e : LogEntry) → Replays line c k es mid
      → e.centre ≡ c → step line c e.event mid ≡ Ok (e.outcome, last) → Replays line c k (es ++ e ∷ []) last
  replays_more c k mid last [] e r own is = (last, own, sym (ap (λ (x : Centre). step line c e.event x) r) ∙ is, refl)
  replays_more c k mid last (d ∷ es) e r own is = (r.0, r.1, r.2, replays_more c r.0 mid last es e r.3 own is)

  -- a frame of the entries before is in the world
  there : (w : World) (before : List LogEntry)
      → ((d : ℕ) → Replays line d (beginning line d) (entries_of d before) (w.at d)) → (c : ℕ) (event : Event)
      → IsFromLog (λ a. entries_of a before) c event → IsThere w c event
  there w before past c (Train m) h = tt
  there w before past c (Set s) h = tt
  there w before past c (Unset s) h = tt
  there w before past c (Deliver from f) h =
      let it = sent_under line from c (entries_of from before) (w.at from) f (past from) h in
      cond-false (f.number == 0) None (slice_get ((w.at from).sent c) (f.number - 1))
      (ne_eqb f.number 0 (λ (no : f.number ≡ 0). absurd (omega (arith, no, it.0)))) ∙ it.1

  module _ (v : ℕ → Centre) where
    -- a world after some entries of logs, and the rests of the logs
    pub record Between (w : World) (before es : List LogEntry) : Type 0 where
      pub past : (d : ℕ) → Replays line d (beginning line d) (entries_of d before) (w.at d)
      pub left : (d : ℕ) → Replays line d (w.at d) (entries_of d es) (v d)
      pub known : (d : ℕ) → is_centre line d ≡ false → entries_of d es ≡ []

    module _ (w : World) (before es : List LogEntry) (e : LogEntry) (h : Between w before (e ∷ es)) where
      mine : Replays line e.centre (w.at e.centre) (e ∷ entries_of e.centre es) (v e.centre)
      mine = subst (λ b. Replays line e.centre (w.at e.centre)
          (if b then (e ∷ entries_of e.centre es) else entries_of e.centre es) (v e.centre))
          (itself e.centre) (h.left e.centre)

      own : is_centre line e.centre ≡ true
      own = ⊎_elim (λ (t : is_centre line e.centre ≡ true). t)
          (λ (f : is_centre line e.centre ≡ false). absurd (not_empty e (entries_of e.centre es)
          (subst (λ b. (if b then (e ∷ entries_of e.centre es) else entries_of e.centre es) ≡ [])
          (itself e.centre) (h.known e.centre f))))
          (cases_Bool (is_centre line e.centre))

      after : List ℕ → World
      after trains = record { at = put w.at e.centre mine.0; trains = trains }

      past_own : (trains : List ℕ)
          → Replays line e.centre (beginning line e.centre) (entries_of e.centre (before ++ e ∷ []))
          ((after trains).at e.centre)
      unfolding after
      past_own trains =
          subst (λ k. Replays line e.centre (beginning line e.centre) (entries_of e.centre (before ++ e ∷ [])) k)
          (sym (put_there w.at e.centre mine.0))
          (subst (λ (xs : List LogEntry). Replays line e.centre (beginning line e.centre) xs mine.0)
          (sym (filter-append (λ d. d.centre == e.centre) before (e ∷ [])
          ∙ ap (λ b. entries_of e.centre before ++ (if b then (e ∷ []) else [])) (itself e.centre)))
          (replays_more e.centre (beginning line e.centre) (w.at e.centre) mine.0 (entries_of e.centre before) e
          (h.past e.centre) refl mine.2))

      past_other : (trains : List ℕ) (d : ℕ) → (e.centre == d) ≡ false → (e.centre ≡ d → ⊥)
          → Replays line d (beginning line d) (entries_of d (before ++ e ∷ [])) ((after trains).at d)
      unfolding after
      past_other trains d differs other =
          subst (λ k. Replays line d (beginning line d) (entries_of d (before ++ e ∷ [])) k)
          (sym (put_other w.at e.centre d mine.0 (λ is. other (sym is))))
          (subst (λ (xs : List LogEntry). Replays line d (beginning line d) xs (w.at d))
          (sym (filter-append (λ x. x.centre == d) before (e ∷ [])
          ∙ (ap (λ b. entries_of d before ++ (if b then (e ∷ []) else [])) differs ∙ append-nil (entries_of d before))))
          (h.past d))

      between : (trains : List ℕ) → Between (after trains) (before ++ e ∷ []) es
      unfolding after
      between trains = record { past = past; left = left; known = known }
        where
          past : (d : ℕ) → Replays line d (beginning line d) (entries_of d (before ++ e ∷ [])) ((after trains).at d)
          past d = elim (eqb_tells e.centre d) [
            | inl is ↦
                subst (λ x. Replays line x (beginning line x) (entries_of x (before ++ e ∷ [])) ((after trains).at x))
                is.1 (past_own trains)
            | inr is ↦ past_other trains d is.0 is.1
          ]

          left : (d : ℕ) → Replays line d ((after trains).at d) (entries_of d es) (v d)
          left d = elim (eqb_tells e.centre d) [
            | inl is ↦ subst (λ x. Replays line x ((after trains).at x) (entries_of x es) (v x)) is.1
                (subst (λ k. Replays line e.centre k (entries_of e.centre es) (v e.centre))
                (sym (put_there w.at e.centre mine.0)) mine.3)
            | inr is ↦ subst (λ k. Replays line d k (entries_of d es) (v d))
                (sym (put_other w.at e.centre d mine.0 (λ same. is.1 (sym same))))
                (subst (λ b. Replays line d (w.at d) (if b then (e ∷ entries_of d es) else entries_of d es) (v d))
                is.0 (h.left d))
          ]

          known : (d : ℕ) → is_centre line d ≡ false → entries_of d es ≡ []
          known d none = elim (eqb_tells e.centre d) [
            | inl is ↦ absurd (let wrong : true ≡ false = sym (ap (is_centre line) (sym is.1) ∙ own) ∙ none in cc)
            | inr is ↦ subst (λ b. (if b then (e ∷ entries_of d es) else entries_of d es) ≡ []) is.0 (h.known d none)
          ]

    -- the rest of the entries, from a world on
    pub runs_on : (w : World) (before es : List LogEntry) → Between w before es → IsWrittenAfter before es
        → (last : World) × (world_run line w (map happened es) ≡ Ok (map answered es, last))
    unfolding world_run after
    runs_on w before [] h order = (w, refl)
    runs_on w before (e ∷ es) h order =
        let it = mine w before es e h in
        let first = answers line w e.centre e.event e.outcome it.0 (own w before es e h) it.2
        (there w before h.past e.centre e.event order.0) in
        let rest = runs_on (after w before es e h first.0) (before ++ e ∷ []) es (between w before es e h first.0)
        order.1 in (
          rest.0,
          run_on line w (after w before es e h first.0) rest.0 (happened e) (map happened es) (answered e)
              (map answered es) first.1 rest.1,
        )
