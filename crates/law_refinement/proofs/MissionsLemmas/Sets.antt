-- Acts that change a train's mission and no other shown value, without messages and replies.
use Rattle.std.proofs.Common.{[], ⊎_elim, ◌++◌, ◌==◌, ◌∙◌, ◌∷◌, ◌≡◌, ◌≢◌, ◌⊎◌, ap, arith, Bool, false, if◌then◌else◌}
use Rattle.std.proofs.Common.{inl, inr, None, Option, option_map, refl, Some, subst, sym, true, ℕ}
use Rattle.std.proofs.lemmas.Bool.{cases_eq}
use Rattle.std.specs.Option.{option_map_or}
use Rattle.law_base.proofs.CountingLemmas.Resource.{carried_more, carried_none}
use Rattle.law_base.specs.Counting.Resource.{carried, Resource}
use Rattle.law_invariants.specs.Flow.Counts.{hands, missions}
use Rattle.law_refinement.proofs.AbstractionLemmas.Hands.{sends_both, sends_home}
use Rattle.law_refinement.specs.Abstraction.Acts.{SendsNone}
use Rattle.rbc_spec.proofs.Lists.{put_here, put_other, put_same, put_there}
use Rattle.rbc_spec.specs.Acts.{◌>>◌, Act, become, cancel, change_mission, close, Reply, rest, return_right, returned}
use Rattle.rbc_spec.specs.Acts.{send, set_mission}
use Rattle.rbc_spec.specs.Centre.{Centre, Handing, is_registrar_of, Mission}
use Rattle.rbc_spec.specs.Frame.{Body, Cancel, ReturnRight}
use Rattle.rbc_spec.specs.Line.{Line, registrar}
use Rattle.rbc_spec.specs.Maps.{put}
use Rattle.rbc_spec.specs.SectionRuns.{SectionRun}

-- From state j the reply sets this mission of the train. All other shown values stay, and no message or reply is sent.
-- No frame carries a hand or a mission.
pub record Sets (c t : ℕ) (o : Option Mission) (j : Centre) (q : Reply) : Type 0 where
  pub phase : q.state.phase ≡ j.phase
  pub heard : q.state.heard ≡ j.heard
  pub said : q.state.said ≡ j.said
  pub wait : q.state.wait ≡ j.wait
  pub wish : q.state.wish ≡ j.wish
  pub book : q.state.book ≡ j.book
  pub mission : (u : ℕ) → q.state.mission u ≡ put j.mission t o u
  pub sayings : q.sayings ≡ []
  pub words : q.words ≡ []
  pub no_hand : (u s : ℕ) → SendsNone (hands u s) c q.frames
  pub no_mission : (u : ℕ) → SendsNone (missions u) c q.frames

module _ (c t : ℕ) where
  silent : (r : Resource Centre Body) → SendsNone r c (λ d. [])
  silent r d = carried_none r c d

  pub sets_rest : (j : Centre) → Sets c t (j.mission t) j (rest j)
  sets_rest j = record {
    phase = refl;
    heard = refl;
    said = refl;
    wait = refl;
    wish = refl;
    book = refl;
    mission = λ u. sym (put_same t (j.mission t) j.mission refl u);
    sayings = refl;
    words = refl;
    no_hand = λ u s. silent (hands u s);
    no_mission = λ u. silent (missions u);
  }

  pub sets_mission : (o : Option Mission) (j : Centre) → Sets c t o j (set_mission t o j)
  sets_mission o j = record {
    phase = refl;
    heard = refl;
    said = refl;
    wait = refl;
    wish = refl;
    book = refl;
    mission = λ u. refl;
    sayings = refl;
    words = refl;
    no_hand = λ u s. silent (hands u s);
    no_mission = λ u. silent (missions u);
  }

  pub sets_change : (f : Mission → Mission) (j : Centre)
      → Sets c t (option_map f (j.mission t)) j (change_mission t f j)
  sets_change f j = sets_mission (option_map f (j.mission t)) j

  one_sent : (r : Resource Centre Body) (d : ℕ) (body : Body) → ((e : ℕ) → r.inside c e body ≡ 0)
      → SendsNone r c (λ e. if e == d then body ∷ [] else [])
  one_sent r d body none e = by_one (e == d)
    where
      by_one : (b : Bool) → carried r c e (if b then body ∷ [] else []) ≡ 0
      by_one true = omega (arith, carried_more r c e body [], carried_none r c e, none e)
      by_one false = carried_none r c e

  -- a frame that carries neither
  pub sets_send : (d : ℕ) (body : Body) (j : Centre) → ((e u s : ℕ) → (hands u s).inside c e body ≡ 0)
      → ((e u : ℕ) → (missions u).inside c e body ≡ 0) → Sets c t (j.mission t) j (send d body j)
  sets_send d body j no_hand no_mission = record {
    phase = refl;
    heard = refl;
    said = refl;
    wait = refl;
    wish = refl;
    book = refl;
    mission = λ u. sym (put_same t (j.mission t) j.mission refl u);
    sayings = refl;
    words = refl;
    no_hand = λ u s. one_sent (hands u s) d body (λ e. no_hand e u s);
    no_mission = λ u. one_sent (missions u) d body (λ e. no_mission e u);
  }

  pub sets_returned : (line : Line) (u track : ℕ) (r : SectionRun) (j : Centre)
      → Sets c t (j.mission t) j (returned line c u track r j)
  sets_returned line u track r j = record {
    phase = refl;
    heard = refl;
    said = refl;
    wait = refl;
    wish = refl;
    book = refl;
    mission = λ v. sym (put_same t (j.mission t) j.mission refl v);
    sayings = refl;
    words = refl;
    no_hand = λ v s. (sends_home line c u v s track r j).0;
    no_mission = λ v. (sends_home line c u v 0 track r j).1;
  }

  -- one and then another
  pub sets_then : (first o : Option Mission) (a b : Act) (j : Centre) → Sets c t first j (a j)
      → Sets c t o (a j).state (b (a j).state) → Sets c t o j ((a >> b) j)
  unfolding ◌>>◌
  sets_then first o a b j one two = record {
    phase = two.phase ∙ one.phase;
    heard = two.heard ∙ one.heard;
    said = two.said ∙ one.said;
    wait = two.wait ∙ one.wait;
    wish = two.wish ∙ one.wish;
    book = two.book ∙ one.book;
    mission = λ u. two.mission u ∙ ⊎_elim
        (λ (here : u ≡ t). put_here (a j).state.mission t u o here ∙ sym (put_here j.mission t u o here))
        (λ (other : u ≢ t). put_other (a j).state.mission t u o other ∙ one.mission u
        ∙ put_other j.mission t u first other ∙ sym (put_other j.mission t u o other))
        (cases_eq u t);
    sayings = (λ i. one.sayings i ++ two.sayings i);
    words = (λ i. one.words i ++ two.words i);
    no_hand = λ u s. sends_both (hands u s) c (a j).frames (b (a j).state).frames (one.no_hand u s) (two.no_hand u s);
    no_mission = λ u. sends_both (missions u) c (a j).frames (b (a j).state).frames
        (one.no_mission u) (two.no_mission u);
  }

  -- and another that keeps the mission that was set
  pub sets_keeping : (o : Option Mission) (a b : Act) (j : Centre) → Sets c t o j (a j)
      → Sets c t ((a j).state.mission t) (a j).state (b (a j).state) → Sets c t o j ((a >> b) j)
  sets_keeping o a b j one two =
      sets_then o o a b j one (subst (λ x. Sets c t x (a j).state (b (a j).state)) (one.mission t
      ∙ put_there j.mission t o) two)

  -- ## Close

  pub sets_return_right : (line : Line) (j : Centre) → Sets c t (j.mission t) j (return_right line c t j)
  sets_return_right line j = by_test (is_registrar_of line c t) (registrar line t)
    where
      by_test : (b : Bool) (o : Option ℕ)
          → Sets c t (j.mission t) j
          ((if b then become (λ k. record k { has_right = put k.has_right t true }) else option_map_or
          (λ r. send r (ReturnRight t)) o rest) j)
      by_test true o = record {
        phase = refl;
        heard = refl;
        said = refl;
        wait = refl;
        wish = refl;
        book = refl;
        mission = λ u. sym (put_same t (j.mission t) j.mission refl u);
        sayings = refl;
        words = refl;
        no_hand = λ u s. silent (hands u s);
        no_mission = λ u. silent (missions u);
      }
      by_test false (Some r) = sets_send r (ReturnRight t) j (λ e u s. refl) (λ e u. refl)
      by_test false None = sets_rest j

  -- the handover ends, if the mission announced one
  pub sets_cancel : (m : Mission) (j : Centre)
      → Sets c t (option_map (λ (n : Mission). record n { handing = None }) (j.mission t)) j (cancel t m j)
      ⊎ Sets c t (j.mission t) j (cancel t m j)
  sets_cancel m j = by_handing m.handing
    where
      by_handing : (o : Option Handing) → let q =
          option_map_or (λ (h : Handing). send h.to (Cancel h.number t)
          >> change_mission t (λ n. record n { handing = None })) o rest j in
          Sets c t (option_map (λ (n : Mission). record n { handing = None }) (j.mission t)) j q
          ⊎ Sets c t (j.mission t) j q
      by_handing (Some h) =
          inl (sets_then (j.mission t) _ (send h.to (Cancel h.number t))
          (change_mission t (λ n. record n { handing = None })) j
          (sets_send h.to (Cancel h.number t) j (λ e u s. refl) (λ e u. refl))
          (sets_change (λ n. record n { handing = None }) (send h.to (Cancel h.number t) j).state))
      by_handing None = inr (sets_rest j)

  pub sets_close : (line : Line) (m : Mission) (j : Centre) → Sets c t None j (close line c t m j)
  sets_close line m j = sets_keeping None (set_mission t None >> cancel t m) (return_right line c t) j
      (sets_then None None (set_mission t None) (cancel t m) j (sets_mission None j)
      (⊎_elim
      (λ (one : Sets c t (option_map (λ (n : Mission). record n { handing = None }) (put j.mission t None t))
      gone (cancel t m gone)).
      subst (λ o. Sets c t o gone (cancel t m gone))
      (ap (option_map (λ (n : Mission). record n { handing = None })) (put_there j.mission t None)) one)
      (λ (two : Sets c t (put j.mission t None t) gone (cancel t m gone)).
      subst (λ o. Sets c t o gone (cancel t m gone)) (put_there j.mission t None) two)
      (sets_cancel m gone)))
      (sets_return_right line ((set_mission t None >> cancel t m) j).state)
    where
      gone : Centre
      gone = (set_mission t None j).state
