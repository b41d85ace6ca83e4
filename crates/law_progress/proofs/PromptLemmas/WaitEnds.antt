-- The effects that end a wait: the answer of the right, or a session of its train that begins or ends.
use Rattle.std.proofs.Common.{[], ◌&&◌, ◌+◌, ◌==◌, ◌||◌, ◌∙◌, ◌∷◌, ◌≡◌, ◌≢◌, ◌⊎◌, ap, Bool, false, if◌then◌else◌, inl}
use Rattle.std.proofs.Common.{inr, is_none, is_some, None, not, Option, refl, Some, subst, sym, true, ℕ}
use Rattle.std.specs.List.{list_any}
use Rattle.std.specs.Option.{option_map_or}
use Rattle.law_invariants.proofs.FlowLemmas.Takes.{given_is}
use Rattle.law_progress.proofs.PromptLemmas.Waits.{Still}
use Rattle.law_progress.specs.Prompt.Answering.{is_start_answer}
use Rattle.rbc_spec.proofs.Lists.{itself, put_other}
use Rattle.rbc_spec.specs.Acts.{◌>>◌, Act, become, booked, change_mission, freed, Reply, rest, return_right}
use Rattle.rbc_spec.specs.Acts.{send, where_so, with_some}
use Rattle.rbc_spec.specs.Centre.{Centre, is_closed, is_free, is_open, is_registrar_of, is_taken_for, Mission, Taken}
use Rattle.rbc_spec.specs.Frame.{AskRight, GiveRight, RefuseRight, ReturnRight}
use Rattle.rbc_spec.specs.Line.{Line, registrar}
use Rattle.rbc_spec.specs.Links.{answered_ask, is_train, received}
use Rattle.rbc_spec.specs.Maps.{put}
use Rattle.rbc_spec.specs.Message.{TrackBody, TrainAccepted, TrainRejected}
use Rattle.rbc_spec.specs.Message.{unknown_group}
use Rattle.rbc_spec.specs.Outcome.{Saying}
use Rattle.rbc_spec.specs.Place.{covered, fit_place, Place, Position}
use Rattle.rbc_spec.specs.Rules.{answered, begin, close_session, drop_wait, reject, restart, set_phase, start_here}
use Rattle.rbc_spec.specs.Rules.{start_mission, start_new, start_waiting}
use Rattle.rbc_spec.specs.SectionRuns.{all_of, within}

-- some message of these answers the train's start
abbrev pub tells : ℕ → Rattle.std.proofs.Common.List Saying → Bool
tells t sayings = list_any (λ s. (s.nid_engine == t) && is_start_answer s.message.body) sayings

module _ (line : Line) (c t : ℕ) where
  -- the start of train t that waits is as in state k
  pub record Keeps (k : Centre) (q : Reply) : Type 0 where
    pub law : q.state.wait t ≡ k.wait t

  pub of_still : (act : Act) (k : Centre) → Still act → Keeps k (act k)
  of_still act k is = record { law = ap (λ (f : ℕ → Option Place). f t) (is k).law }

  -- ## Rights of another train

  module _ (u : ℕ) (apart : t ≢ u) where
    pub given_other : (d : ℕ) (k : Centre) → Keeps k (received line c d (GiveRight u) k)
    unfolding ◌>>◌
    given_other d k = by_train (is_train line u)
      where
        i : Centre
        i = (answered_ask u k).state

        begins : Place → Act
        begins place = become (λ j. record j { wait = put j.wait u None }) >> begin line u place

        by_place : (o : Option Place) → Keeps k (option_map_or (λ place. begins place i) o (rest i))
        by_place None = record { law = refl }
        by_place (Some place) = record { law = put_other k.wait u t None apart }

        back : (b : Bool) (o : Option ℕ)
            → Keeps k ((if b then become (λ j. record j { has_right = put j.has_right u true })
            else option_map_or (λ r. send r (ReturnRight u)) o rest) i)
        back true o = record { law = refl }
        back false None = record { law = refl }
        back false (Some r) = record { law = refl }

        by_wait : (b : Bool) → Keeps k (if b then with_some (λ j. j.wait u) begins i else return_right line c u i)
        by_wait true = by_place (k.wait u)
        by_wait false = back (is_registrar_of line c u) (registrar line u)

        by_ask : (b : Bool) → Keeps k (if b then (answered_ask u >> Rattle.rbc_spec.specs.Rules.choose
            (λ j. is_some (j.wait u) && is_none (j.mission u)) (with_some (λ j. j.wait u) begins)
            (return_right line c u)) k else rest k)
        by_ask true = record { law = (by_wait (is_some (k.wait u) && is_none (k.mission u))).law }
        by_ask false = record { law = refl }

        by_train : (b : Bool) → Keeps k ((if b then Rattle.rbc_spec.specs.Links.right_given line c u else rest) k)
        by_train true = by_ask (k.has_asked u)
        by_train false = record { law = refl }

    pub refused_other : (d : ℕ) (k : Centre) → Keeps k (received line c d (RefuseRight u) k)
    unfolding ◌>>◌
    refused_other d k = by_train (is_train line u)
      where
        i : Centre
        i = (answered_ask u k).state

        by_place : (o : Option Place)
            → Keeps k (option_map_or (λ place. (freed line c (is_taken_for u) (covered line place)
            >> become (λ j. record j { wait = put j.wait u None })) i) o (rest i))
        by_place None = record { law = refl }
        by_place (Some place) = record { law = put_other k.wait u t None apart }

        by_wait : (b : Bool) → Keeps k (if b then (drop_wait line c u >> reject u) i else rest i)
        by_wait true = record { law = (by_place (k.wait u)).law }
        by_wait false = record { law = refl }

        by_ask : (b : Bool) → Keeps k (if b then (answered_ask u >> where_so (λ j. is_some (j.wait u))
            (drop_wait line c u >> reject u)) k else rest k)
        by_ask true = record { law = (by_wait (is_some (k.wait u))).law }
        by_ask false = record { law = refl }

        by_train : (b : Bool) → Keeps k ((if b then Rattle.rbc_spec.specs.Links.right_refused line c u else rest) k)
        by_train true = by_ask (k.has_asked u)
        by_train false = record { law = refl }

    -- ## Messages of another train

    drop_other : (k : Centre) → Keeps k (drop_wait line c u k)
    unfolding ◌>>◌
    drop_other k = by_place (k.wait u)
      where
        by_place : (o : Option Place)
            → Keeps k (option_map_or (λ place. (freed line c (is_taken_for u) (covered line place)
            >> become (λ j. record j { wait = put j.wait u None })) k) o (rest k))
        by_place None = record { law = refl }
        by_place (Some place) = record { law = put_other k.wait u t None apart }

    pub close_other : (k : Centre) → Keeps k (close_session line c u k)
    unfolding ◌>>◌
    close_other k = record {
      law = (drop_other ((set_phase u Rattle.rbc_spec.specs.Centre.Closed
          >> change_mission u (λ m. record m { proposal = None })) k).state).law;
    }

    waiting_other : (place : Place) (k : Centre) → Keeps k (start_waiting line u place k)
    unfolding ◌>>◌
    waiting_other place k = by_ask (not (k.has_asked u)) (registrar line u)
      where
        i : Centre
        i = ((booked is_open (Taken u) (covered line place)
            >> become (λ j. record j { wait = put j.wait u (Some place) })) k).state

        by_ask : (b : Bool) (o : Option ℕ) → Keeps k (if b then (option_map_or (λ r. send r (AskRight u)) o rest
            >> become (λ j. record j { has_asked = put j.has_asked u true })) i else rest i)
        by_ask true None = record { law = put_other k.wait u t (Some place) apart }
        by_ask true (Some r) = record { law = put_other k.wait u t (Some place) apart }
        by_ask false o = record { law = put_other k.wait u t (Some place) apart }

    here_other : (place : Place) (k : Centre) → Keeps k (start_here line u place k)
    unfolding ◌>>◌
    here_other place k = by_right (k.has_right u)
      where
        by_right : (b : Bool) → Keeps k (if b then ((booked is_open (Taken u) (covered line place)
            >> become (λ j. record j { has_right = put j.has_right u false })) >> begin line u place) k else reject u k)
        by_right true = record { law = refl }
        by_right false = record { law = refl }

    pub start_other : (is_valid : Bool) (position : Position) (k : Centre)
        → Keeps k (start_mission line c u is_valid position k)
    unfolding ◌>>◌
    start_other is_valid position k = by_place (fit_place line is_valid position)
      where
        by_fit : (place : Place) (m : Mission) (b : Bool) → Keeps k ((if b then (change_mission u (λ n. record n {
          place = place;
          has_data = false;
          is_ended = false;
          proposal = None;
        }) >> Rattle.rbc_spec.specs.Rules.accept u) else reject u) k)
        by_fit place m true = record { law = refl }
        by_fit place m false = record { law = refl }

        by_registrar : (place : Place) (b : Bool)
            → Keeps k ((if b then start_here line u place else start_waiting line u place) k)
        by_registrar place true = here_other place k
        by_registrar place false = waiting_other place k

        by_free : (place : Place) (b : Bool)
            → Keeps k (if b then (if is_registrar_of line c u then start_here line u place
            else start_waiting line u place) k else reject u k)
        by_free place true = by_registrar place (is_registrar_of line c u)
        by_free place false = record { law = refl }

        by_mission : (place : Place) (o : Option Mission)
            → Keeps k (option_map_or (λ m. restart line u place m k) o (start_new line c u place k))
        by_mission place None = by_free place (all_of (is_free line c k) (covered line place))
        by_mission place (Some m) = by_fit place m (all_of (within m.hand) (covered line place))

        by_place : (o : Option Place)
            → Keeps k (option_map_or (λ place. option_map_or (λ m. restart line u place m k) (k.mission u)
            (start_new line c u place k)) o (reject u k))
        by_place None = record { law = refl }
        by_place (Some place) = by_mission place (k.mission u)

  -- ## The answer of the right

  one_told : (count group : ℕ) (body : TrackBody) → is_start_answer body ≡ true
      → tells t (record {
        nid_engine = t;
        message = record { t_train = count; nid_lrbg = group; body = body };
      } ∷ []) ≡ true
  one_told count group body is = rw (itself t, is) refl

  pub given_tells : (d : ℕ) (place : Place) (k : Centre) → is_train line t ≡ true → k.has_asked t ≡ true
      → k.wait t ≡ Some place → k.mission t ≡ None → tells t (received line c d (GiveRight t) k).sayings ≡ true
  given_tells d place k known asked waits none =
      ap (λ (q : Reply). tells t q.sayings) (given_is line c d t place k known asked waits none)
      ∙ one_told (k.said t + 1) unknown_group TrainAccepted refl

  pub refused_tells : (d : ℕ) (place : Place) (k : Centre) → is_train line t ≡ true → k.has_asked t ≡ true
      → k.wait t ≡ Some place → tells t (received line c d (RefuseRight t) k).sayings ≡ true
  unfolding ◌>>◌
  refused_tells d place k known asked waits =
      rw (known, asked, waits) (one_told (k.said t + 1) unknown_group TrainRejected refl)
