use Rattle.std.proofs.Common.{[], ◌&&◌, ◌++◌, ◌<◌, ◌==◌, ◌||◌, ◌∙◌, ◌∷◌, ◌≡◌, ap, arith, Bool, eqb-true, Err, false}
use Rattle.std.proofs.Common.{if◌then◌else◌, inl, inr, is_none, is_some, le-leb, List, map, nat_le, None, not, Ok}
use Rattle.std.proofs.Common.{Option, refl, Some, subst, sym, true, ℕ}
use Rattle.std.proofs.lemmas.Bool.{and_parts, both_ways, cases_lt, not-false}
use Rattle.std.proofs.lemmas.Bool.Decides.{eqb_tells}
use Rattle.std.proofs.lemmas.List.Elements.{All-nil}
use Rattle.std.proofs.lemmas.Option.{same_Some}
use Rattle.std.specs.List.{All, list_all}
use Rattle.std.specs.Option.{option_map_or}
use Rattle.law_base.proofs.PiecesLemmas.Frees.{by_test}
use Rattle.law_base.proofs.PiecesLemmas.Waits.{wait_on}
use Rattle.law_base.proofs.PiecesLemmas.Words.{Fits, own_fits, quiets_fit}
use Rattle.law_outside.specs.Outside as outside
use Rattle.law_outside.specs.Outside.{all_heard, all_told, is_in, IsSafeOutside, may_run_over, nothing_seen, said_by}
use Rattle.law_outside.specs.Outside.{sees, sees_all, spoken_of, Stretch, View}
use Rattle.law_promises.proofs.Follows.{after_none, Follows, given, heard_as, put_later, wait_still}
use Rattle.law_promises.proofs.Heard.{Fair, listens_follow, own_follows, own_shut}
use Rattle.law_promises.proofs.Marks.{if_true, IsSince, Later, not_under_way}
use Rattle.law_promises.proofs.Promised.{here_is}
use Rattle.law_promises.proofs.QuietFollows.{quiet_follows, quiet_shut}
use Rattle.law_promises.proofs.Released.{all_released, all_same, follows_as, heard_both, IsLater, later_other}
use Rattle.law_promises.proofs.Released.{quiets_later, Released, released_on, says_released, told_both}
use Rattle.rbc_spec.proofs.Lists.{itself, none_passes, put_here, put_other, put_pair_there}
use Rattle.rbc_spec.specs.Centre.{Proposal}
use Rattle.rbc_spec.specs.Line.{is_centre, is_home, IsLine, Line}
use Rattle.rbc_spec.specs.LineCentre.{At, Given, hears, is_at, is_given_to, Kept, line_beginning, LineMission}
use Rattle.rbc_spec.specs.LineCentre.{LineState, Mark, nothing, Open, Said, Shut}
use Rattle.rbc_spec.specs.Maps.{has, put}
use Rattle.rbc_spec.specs.Message.{EndOfMission, InitiationOfSession, is_stale, Report, Request, SessionEstablished}
use Rattle.rbc_spec.specs.Message.{ShorteningGranted, ShorteningRejected, StartOfMission, TerminationOfSession}
use Rattle.rbc_spec.specs.Message.{TrainBody, TrainData, TrainMessage}
use Rattle.rbc_spec.specs.Outcome.{Asked, Done, ForeignEngine, NoPlace, NotHome, NotSupervised, Outcome}
use Rattle.rbc_spec.specs.Outcome.{ProposalPending, Reason, reasons_of, StaleStamp, Unasked, Word, WrongPhase}
use Rattle.rbc_spec.specs.OwnSteps.{is_unused_mark, Own, set_mark, Sets, Unsets, wished_back}
use Rattle.rbc_spec.specs.Place.{Place}
use Rattle.rbc_spec.specs.Quiet.{both, is_of_centre, Quiet, TakesAll}
use Rattle.rbc_spec.specs.Run.{answers_it, Goes, has_here, heard, holds, listened, may_listen, may_request_at, OwnStep}
use Rattle.rbc_spec.specs.Run.{Piece, Run, silence, silent, Steps}
use Rattle.rbc_spec.specs.World.{Answer, Answered, Bytes, centre_of, Delivery, Event, Fault, NoCentre, NotSent, Set}
use Rattle.rbc_spec.specs.World.{Unset}

-- ## Quiet steps

module _ (line : Line) (ok : IsLine line) where
  quiets_follow : (event : Event) (qs : List Quiet) (v : LineState) (x : View) (said : Said) (new : LineState)
      → list_all (is_of_centre line (centre_of event)) qs ≡ true → TakesAll line v qs said new → Follows line v x
      → Follows line new (all_told line event said.sayings x)
  quiets_follow event [] v x said new at h old =
      subst (λ (p : Said). Follows line new (all_told line event p.sayings x)) (sym h.0)
      (subst (λ (w : LineState). Follows line w x) (sym h.1) old)
  quiets_follow event (q ∷ qs) v x said new at (first, others, mid, step, rest, same) old =
      let parts = and_parts (is_of_centre line (centre_of event) q)
      (list_all (is_of_centre line (centre_of event)) qs) at in
      subst (λ (p : Said). Follows line new (all_told line event p.sayings x)) (sym same)
      (subst (Follows line new) (sym (told_both line event first.sayings others.sayings x))
      (quiets_follow event qs mid (all_told line event first.sayings x) others new parts.1 rest
      (quiet_follows line ok v x old event q first mid parts.0 step)))

  quiets_shut : (event : Event) (qs : List Quiet) (v : LineState) (x : View) (said : Said) (new : LineState)
      → list_all (is_of_centre line (centre_of event)) qs ≡ true → TakesAll line v qs said new → Follows line v x
      → (s : ℕ) → v.mark s ≡ Shut → new.mark s ≡ Shut
  quiets_shut event [] v x said new at h old s is = ap (λ (w : LineState). w.mark s) h.1 ∙ is
  quiets_shut event (q ∷ qs) v x said new at (first, others, mid, step, rest, same) old s is =
      let parts = and_parts (is_of_centre line (centre_of event) q)
      (list_all (is_of_centre line (centre_of event)) qs) at in
      quiets_shut event qs mid (all_told line event first.sayings x) others new parts.1 rest
      (quiet_follows line ok v x old event q first mid parts.0 step) s
      (quiet_shut line ok v x old event q first mid step s is)

  -- ## Own steps

  -- a message that is not stale is later than the last recorded one
  stale_below : (n : ℕ) (o : Option ℕ) → is_stale n o ≡ false → (k : ℕ) → IsSince k o → k < n
  stale_below n None fresh k since = let wrong : None ≡ Some since.last = since.is in cc
  stale_below n (Some last) fresh k since = elim (cases_lt last n) [
    | inl less ↦ let same : last ≡ since.last = same_Some last since.last since.is in let le = since.le in
        omega (arith, same, le, less)
    | inr le ↦ absurd (both_ways (nat_le n last) fresh (le-leb n last le))
  ]

  not_stale : (n : ℕ) (o : Option ℕ) → is_stale n o ≡ false → Later o (Some n)
  not_stale n o fresh k since =
      record { last = n; is = refl; le = (let less = stale_below n o fresh k since in omega (arith, less)) }

  -- the centre records a message
  hears_follow : (c : ℕ) (m : TrainMessage) (v : LineState) (x : View)
      → is_stale m.t_train (v.heard m.nid_engine c) ≡ false → Follows line v x → Follows line (hears c m v) x
  hears_follow c m v x fresh old =
      let later = put_later v.heard m.nid_engine c (Some m.t_train)
      (not_stale m.t_train (v.heard m.nid_engine c) fresh) in
      after_none line v x old (hears c m v) x old.founded
      (wait_on line v old.keep (hears c m v) refl (λ t d s waited. refl))
      (wait_still line v x old (hears c m v) x refl refl later) (λ u s. refl) refl refl later

  -- both invariants
  pub record Both (v : LineState) (x : View) : Type 0 where
    pub follows : Follows line v x
    pub released : Released v x

  module _ (v : LineState) (x : View) (old : Follows line v x) (c : ℕ)
      (at_centre : is_centre line c ≡ true) (t_train t : ℕ) where
    abbrev pub message : TrainBody → TrainMessage
    message body = record { t_train = t_train; nid_engine = t; body = body }

    abbrev after_hearing : TrainBody → LineState
    after_hearing body = hears c (message body) v

    not_there : (o : Option Place) → is_some o ≡ false → o ≡ None
    not_there None is = refl
    not_there (Some place) is = cc

    or_right_false : (a b : Bool) → (a || b) ≡ false → b ≡ false
    or_right_false true b is = cc
    or_right_false false b is = is

    and_not_false : (a b : Bool) → a ≡ true → (a && not b) ≡ false → b ≡ true
    and_not_false true b one is = not-false b is
    and_not_false false b one is = cc

    at_there : (n : LineMission) → n.supervisor ≡ At c → is_at c n.supervisor ≡ true
    at_there n at = ap (is_at c) at ∙ itself c

    no_proposal : (b : Bool) (o : Option Proposal) → b ≡ true → (b && is_some o) ≡ false → o ≡ None
    no_proposal true None at none = refl
    no_proposal true (Some p) at none = cc
    no_proposal false o at none = cc

    heard_now : (body : TrainBody) → (after_hearing body).heard t c ≡ Some t_train
    heard_now body = put_pair_there v.heard t c (Some t_train)

    -- the message was sent after each recorded message
    module _ (not_late : is_stale t_train (v.heard t c) ≡ false) where
      heard_then : (body : TrainBody) → Follows line (after_hearing body) x
      heard_then body = hears_follow c (message body) v x not_late old

      heard_fresh : (body : TrainBody) (n : LineMission) (y : Stretch) → (after_hearing body).mission t ≡ Some n
          → n.supervisor ≡ At c → x.stretch t ≡ Some y → y.since < t_train
      heard_fresh body n y is at there =
          let w = (old.tied t).way n is in
          let same : w.0 ≡ y = same_Some w.0 y (sym w.1 ∙ there) in
          subst (λ (z : Stretch). z.since < t_train) same
          (stale_below t_train (v.heard t c) not_late w.0.since (w.2.talk.since c at))

      -- the facts of a message that is not silent
      fair_is : (body : TrainBody) → silence line v c (message body) ≡ None
          → Fair line ok (after_hearing body) x (heard_then body) c at_centre (message body)
          (heard_now body) (heard_fresh body) body
      fair_is InitiationOfSession is = tt
      fair_is TerminationOfSession is = tt
      fair_is SessionEstablished is = tt
      fair_is (StartOfMission is_valid position) is =
          not_there (v.wait t c) (or_right_false _ (is_some (v.wait t c))
          (none_passes (holds line v c (message (StartOfMission is_valid position))
          (StartOfMission is_valid position)) (reasons_of (StartOfMission is_valid position)) 3 WrongPhase is refl))
      fair_is (TrainData position) is = tt
      fair_is (Request position) is =
          let h = here_is (after_hearing (Request position)) c t (λ n. true)
          (not-false (has_here v c t (λ n. true))
          (none_passes (holds line v c (message (Request position)) (Request position))
          (reasons_of (Request position)) 4 NotSupervised is refl)) in
          let placed = none_passes (holds line v c (message (Request position)) (Request position))
          (reasons_of (Request position)) 8 NoPlace is refl in (
            h.0,
            and_not_false (is_at c h.0.m.supervisor) (may_request_at line v t h.0.m position) (at_there h.0.m h.0.at)
                (subst (λ (o : Option LineMission). option_map_or (λ n. is_at c n.supervisor
                && not (may_request_at line v t n position)) o false ≡ false) h.0.of_train placed),
            no_proposal (is_at c h.0.m.supervisor) h.0.m.proposal (at_there h.0.m h.0.at)
                (subst (λ (o : Option LineMission). option_map_or (λ n. is_at c n.supervisor && is_some n.proposal) o
                false ≡ false) h.0.of_train
                (none_passes (holds line v c (message (Request position)) (Request position))
                (reasons_of (Request position)) 7 ProposalPending is refl)),
          )
      fair_is (Report position) is =
          let h = here_is (after_hearing (Report position)) c t (λ n. true)
          (not-false (has_here v c t (λ n. true))
          (none_passes (holds line v c (message (Report position)) (Report position)) (reasons_of (Report position))
          4 NotSupervised is refl)) in
          h.0
      fair_is (ShorteningGranted stamp position) is =
          here_is (after_hearing (ShorteningGranted stamp position)) c t (answers_it stamp)
          (not-false (has_here v c t (answers_it stamp))
          (none_passes (holds line v c (message (ShorteningGranted stamp position))
          (ShorteningGranted stamp position)) (reasons_of (ShorteningGranted stamp position)) 5 Unasked is refl))
      fair_is (ShorteningRejected stamp position) is = tt
      fair_is (EndOfMission position) is =
          let h = here_is (after_hearing (EndOfMission position)) c t (λ n. true)
          (not-false (has_here v c t (λ n. true))
          (none_passes (holds line v c (message (EndOfMission position)) (EndOfMission position))
          (reasons_of (EndOfMission position)) 4 NotSupervised is refl)) in
          h.0

      -- a report of a train that is supervised elsewhere
      listen_follows : (body : TrainBody) (reason : Option Reason) → may_listen line c body reason ≡ true
          → Follows line (after_hearing body) (outside.says line c (message body) body x)
      listen_follows (Report position) reason may =
          listens_follow line ok (after_hearing (Report position)) x (heard_then (Report position)) c at_centre
          (message (Report position)) (heard_now (Report position)) (heard_fresh (Report position)) position
          (after_hearing (Report position)) (heard_then (Report position)).keep refl refl refl refl
      listen_follows InitiationOfSession reason may = cc
      listen_follows TerminationOfSession reason may = cc
      listen_follows SessionEstablished reason may = cc
      listen_follows (StartOfMission is_valid position) reason may = cc
      listen_follows (TrainData position) reason may = cc
      listen_follows (Request position) reason may = cc
      listen_follows (ShorteningGranted stamp position) reason may = cc
      listen_follows (ShorteningRejected stamp position) reason may = cc
      listen_follows (EndOfMission position) reason may = cc

      own_heard : (body : TrainBody) (said : Said) (mid : LineState) → silence line v c (message body) ≡ None
          → Own line (after_hearing body) c (message body) body said mid
          → Follows line mid (all_told line (Bytes c (Ok (message body))) said.sayings
          (outside.says line c (message body) body x))
      own_heard body said mid is hearing = own_follows line ok (after_hearing body) x (heard_then body) c at_centre
          (message body) (heard_now body) (heard_fresh body) body said mid (fair_is body is) hearing

      heard_shut : (body : TrainBody) (said : Said) (mid : LineState)
          → Own line (after_hearing body) c (message body) body said mid → (s : ℕ) → v.mark s ≡ Shut → mid.mark s ≡ Shut
      heard_shut body said mid hearing = own_shut line ok (after_hearing body) x (heard_then body) c at_centre
          (message body) (heard_now body) (heard_fresh body) body said mid hearing

    -- a message with an answer is not stale
    fresh_is : (body : TrainBody) → silence line v c (message body) ≡ None → is_stale t_train (v.heard t c) ≡ false
    fresh_is InitiationOfSession is = none_passes (holds line v c (message InitiationOfSession) InitiationOfSession)
        (reasons_of InitiationOfSession) 1 StaleStamp is refl
    fresh_is TerminationOfSession is = none_passes (holds line v c (message TerminationOfSession) TerminationOfSession)
        (reasons_of TerminationOfSession) 1 StaleStamp is refl
    fresh_is SessionEstablished is = none_passes (holds line v c (message SessionEstablished) SessionEstablished)
        (reasons_of SessionEstablished) 1 StaleStamp is refl
    fresh_is (StartOfMission is_valid position) is =
        none_passes (holds line v c (message (StartOfMission is_valid position)) (StartOfMission is_valid position))
        (reasons_of (StartOfMission is_valid position)) 1 StaleStamp is refl
    fresh_is (TrainData position) is = none_passes (holds line v c (message (TrainData position)) (TrainData position))
        (reasons_of (TrainData position)) 1 StaleStamp is refl
    fresh_is (Request position) is = none_passes (holds line v c (message (Request position)) (Request position))
        (reasons_of (Request position)) 1 StaleStamp is refl
    fresh_is (Report position) is = none_passes (holds line v c (message (Report position)) (Report position))
        (reasons_of (Report position)) 1 StaleStamp is refl
    fresh_is (ShorteningGranted stamp position) is =
        none_passes (holds line v c (message (ShorteningGranted stamp position)) (ShorteningGranted stamp position))
        (reasons_of (ShorteningGranted stamp position)) 1 StaleStamp is refl
    fresh_is (ShorteningRejected stamp position) is =
        none_passes (holds line v c (message (ShorteningRejected stamp position)) (ShorteningRejected stamp position))
        (reasons_of (ShorteningRejected stamp position)) 1 StaleStamp is refl
    fresh_is (EndOfMission position) is =
        none_passes (holds line v c (message (EndOfMission position)) (EndOfMission position))
        (reasons_of (EndOfMission position)) 1 StaleStamp is refl

    fresh_if_listened : (body : TrainBody) → may_listen line c body (silence line v c (message body)) ≡ true
        → is_stale t_train (v.heard t c) ≡ false
    fresh_if_listened (Report position) may =
        by_two (holds line v c (message (Report position)) (Report position) ForeignEngine)
        (is_stale t_train (v.heard t c)) _ may
      where
        by_two : (a b : Bool) (rest : Option Reason)
            → may_listen line c (Report position)
            (if a then Some ForeignEngine else (if b then Some StaleStamp else rest)) ≡ true → b ≡ false
        by_two true b rest may = cc
        by_two false true rest may = cc
        by_two false false rest may = refl
    fresh_if_listened InitiationOfSession may = cc
    fresh_if_listened TerminationOfSession may = cc
    fresh_if_listened SessionEstablished may = cc
    fresh_if_listened (StartOfMission is_valid position) may = cc
    fresh_if_listened (TrainData position) may = cc
    fresh_if_listened (Request position) may = cc
    fresh_if_listened (ShorteningGranted stamp position) may = cc
    fresh_if_listened (ShorteningRejected stamp position) may = cc
    fresh_if_listened (EndOfMission position) may = cc

    abbrev pub spoken : TrainBody → Option Reason → View
    spoken body why = said_by line (Bytes c (Ok (message body))) (is_none why) x

    pub steps_follow : (body : TrainBody) (said : Said) (mid : LineState) (why : Option Reason)
        → Steps line v c (message body) said mid why
        → Follows line mid (all_told line (Bytes c (Ok (message body))) said.sayings (spoken body why))
    steps_follow body said mid why (silent reason is so none new) =
        subst (λ (o : Option Reason). Follows line mid
        (all_told line (Bytes c (Ok (message body))) said.sayings (spoken body o))) (sym so)
        (subst (λ (p : Said). Follows line mid (all_told line (Bytes c (Ok (message body))) p.sayings x)) (sym none)
        (subst (λ (w : LineState). Follows line w x) (sym new) old))
    steps_follow body said mid why (heard is so hearing) =
        subst (λ (o : Option Reason). Follows line mid
        (all_told line (Bytes c (Ok (message body))) said.sayings (spoken body o))) (sym so)
        (own_heard (fresh_is body is) body said mid is hearing)
    steps_follow body said mid why (listened may so none new) =
        subst (λ (o : Option Reason). Follows line mid
        (all_told line (Bytes c (Ok (message body))) said.sayings (spoken body o))) (sym so)
        (subst (λ (p : Said). Follows line mid
        (all_told line (Bytes c (Ok (message body))) p.sayings (spoken body None))) (sym none)
        (subst (λ (w : LineState). Follows line w (spoken body None)) (sym new)
        (listen_follows (fresh_if_listened body may) body (silence line v c (message body)) may)))

    no_words_fit : (mid : LineState) (said : Said) → said ≡ nothing → All (Fits line (Set 0 0) mid) said.words
    no_words_fit mid said none = subst (λ (p : Said). All (Fits line (Set 0 0) mid) p.words) (sym none)
        (All-nil (Fits line (Set 0 0) mid))

    not_unset : (body : TrainBody) (ws : List Word) → All (IsLater (Bytes c (Ok (message body)))) ws
    not_unset body ws = later_other (Bytes c (Ok (message body))) (λ d s same. cc) ws

    steps_released : (body : TrainBody) (said : Said) (mid : LineState) (why : Option Reason) (z : View)
        → Steps line v c (message body) said mid why → Released v z
        → Released mid (all_heard (Bytes c (Ok (message body))) said.words z)
    steps_released body said mid why z (silent reason is so none new) good =
        released_on line (Bytes c (Ok (message body))) v mid said.words z
        (λ s shut. ap (λ (w : LineState). w.mark s) new ∙ shut) (no_words_fit mid said none)
        (not_unset body said.words) good
    steps_released body said mid why z (listened may so none new) good =
        released_on line (Bytes c (Ok (message body))) v mid said.words z
        (λ s shut. ap (λ (w : LineState). w.mark s) new ∙ shut) (no_words_fit mid said none)
        (not_unset body said.words) good
    steps_released body said mid why z (heard is so hearing) good =
        released_on line (Bytes c (Ok (message body))) v mid said.words z
        (heard_shut (fresh_is body is) body said mid hearing)
        (own_fits line (Set 0 0) (after_hearing body) c said mid (message body) body hearing)
        (not_unset body said.words) good

  -- ## Set and unset

  module _ (v : LineState) (x : View) (old : Follows line v x) where
    unused_free : (m : Mark) (u : ℕ) → is_unused_mark m ≡ true → is_given_to u m ≡ false
    unused_free Shut u is = refl
    unused_free Open u is = refl
    unused_free (Kept t) u is = cc
    unused_free (Given t) u is = cc

    unused_kept : (m : Mark) (t : ℕ) → is_unused_mark m ≡ true → m ≡ Kept t → ⊥
    unused_kept m t is kept = let wrong : false ≡ true = sym (ap is_unused_mark kept) ∙ is in cc

    entered : (s : ℕ) (mark : Mark) (mid : LineState) → is_unused_mark mark ≡ true → is_unused_mark (v.mark s) ≡ true
        → mid ≡ set_mark s mark v → Follows line mid x
    entered s mark mid unused was is = subst (λ (w : LineState). Follows line w x) (sym is)
        (after_none line v x old (set_mark s mark v) x old.founded
        (wait_on line v old.keep (set_mark s mark v) refl
        (λ t d e waited. put_other v.mark s e mark
        (λ same. unused_kept (v.mark s) t was (ap v.mark (sym same) ∙ waited.kept))))
        (wait_still line v x old (set_mark s mark v) x refl refl (heard_as line v x old (set_mark s mark v) refl))
        (λ u e. elim (eqb_tells e s) [
          | inl h ↦ ap (is_given_to u) (put_here v.mark s e mark (h.1)) ∙ unused_free mark u unused
              ∙ sym (ap (λ (k : ℕ). is_given_to u (v.mark k)) (h.1) ∙ unused_free (v.mark s) u was)
          | inr h ↦ ap (is_given_to u) (put_other v.mark s e mark (h.1))
        ]) refl refl (heard_as line v x old (set_mark s mark v) refl))

    wished : (s : ℕ) (wish : Bool) (mid : LineState) → mid ≡ wished_back s wish v → Follows line mid x
    wished s wish mid is = subst (λ (w : LineState). Follows line w x) (sym is)
        (after_none line v x old (wished_back s wish v) x old.founded
        (wait_on line v old.keep (wished_back s wish v) refl (λ t d e waited. refl))
        (wait_still line v x old (wished_back s wish v) x refl refl
        (heard_as line v x old (wished_back s wish v) refl)) (λ u e. refl) refl refl
        (heard_as line v x old (wished_back s wish v) refl))

    no_sayings : (event : Event) (words : List Word) (said : Said) (mid : LineState)
        → said ≡ record { sayings = []; words = words } → Follows line mid x
        → Follows line mid (all_told line event said.sayings x)
    no_sayings event words said mid is h =
        subst (λ (p : Said). Follows line mid (all_told line event p.sayings x)) (sym is) h

    pub sets_follow : (c s : ℕ) (said : Said) (mid : LineState) → Sets line v c s said mid
        → Follows line mid (all_told line (Set c s) said.sayings x)
    sets_follow c s said mid h = by_test (is_home line c s) _ _
        (λ _ n. no_sayings (Set c s) (Done s ∷ []) said mid n.said_is
        (by_use (is_unused_mark (v.mark s)) refl n.new_is))
        (λ _ n. no_sayings (Set c s) (NotHome s ∷ []) said mid n.said_is
        (subst (λ (w : LineState). Follows line w x) (sym n.new_is) old)) h
      where
        by_use : (b : Bool) → is_unused_mark (v.mark s) ≡ b
            → mid ≡ (if b then set_mark s Open v else wished_back s false v) → Follows line mid x
        by_use true unused is = entered s Open mid refl unused is
        by_use false used is = wished s false mid is

    pub unsets_follow : (c s : ℕ) (said : Said) (mid : LineState) → Unsets line v c s said mid
        → Follows line mid (all_told line (Unset c s) said.sayings x)
    unsets_follow c s said mid h = by_test (is_home line c s) _ _
        (λ _ n. by_test (is_unused_mark (v.mark s)) _ _
        (λ unused q. no_sayings (Unset c s) (Done s ∷ []) said mid q.said_is (entered s Shut mid refl unused q.new_is))
        (λ _ q. no_sayings (Unset c s) (Asked s ∷ []) said mid q.said_is (wished s true mid q.new_is)) n)
        (λ _ n. no_sayings (Unset c s) (NotHome s ∷ []) said mid n.said_is
        (subst (λ (w : LineState). Follows line w x) (sym n.new_is) old)) h

  module _ (v : LineState) (z : View) (good : Released v z) where
    heard_of : (event : Event) (words : List Word) (said : Said) (mid : LineState)
        → said ≡ record { sayings = []; words = words } → Released mid (all_heard event words z)
        → Released mid (all_heard event said.words z)
    heard_of event words said mid is h = subst (λ (p : Said). Released mid (all_heard event p.words z)) (sym is) h

    still : (mid : LineState) → mid.mark ≡ v.mark → Released mid z
    still mid marks = record { each = λ e opened. good.each e (λ is. opened (ap (λ (f : ℕ → Mark). f e) marks ∙ is)) }

    set_there : (s : ℕ) (mid : LineState) → ((e : ℕ) → (e ≡ s → ⊥) → mid.mark e ≡ v.mark e)
        → Released mid (record z { released = put z.released s true })
    set_there s mid marks = record {
      each = λ e opened. elim (eqb_tells e s) [
        | inl h ↦ put_here z.released s e true (h.1)
        | inr h ↦ put_other z.released s e true (h.1) ∙ good.each e (λ is. opened (marks e (h.1) ∙ is))
      ];
    }

    sets_released : (c s : ℕ) (said : Said) (mid : LineState) → Sets line v c s said mid
        → Released mid (all_heard (Set c s) said.words z)
    sets_released c s said mid h = by_test (is_home line c s) _ _
        (λ _ n. heard_of (Set c s) (Done s ∷ []) said mid n.said_is
        (subst (λ (y : View). Released mid y)
        (sym (if_true (s == s) (record z { released = put z.released s true }) z (itself s)))
        (by_use (is_unused_mark (v.mark s)) n.new_is)))
        (λ _ n. heard_of (Set c s) (NotHome s ∷ []) said mid n.said_is
        (still mid (ap (λ (w : LineState). w.mark) n.new_is))) h
      where
        by_use : (b : Bool) → mid ≡ (if b then set_mark s Open v else wished_back s false v)
            → Released mid (record z { released = put z.released s true })
        by_use true is = set_there s mid (λ e apart. ap (λ (w : LineState). w.mark e) is
            ∙ put_other v.mark s e Open apart)
        by_use false is = set_there s mid (λ e apart. ap (λ (w : LineState). w.mark e) is)

    taken_back : (s : ℕ) (mid : LineState) → mid ≡ set_mark s Shut v
        → Released mid (record z { released = put z.released s false })
    taken_back s mid is = record {
      each = λ e opened. elim (eqb_tells e s) [
        | inl h ↦ absurd (opened (ap (λ (w : LineState). w.mark e) is ∙ put_here v.mark s e Shut (h.1)))
        | inr h ↦ put_other z.released s e false (h.1)
            ∙ good.each e (λ shut. opened (ap (λ (w : LineState). w.mark e) is
            ∙ put_other v.mark s e Shut (h.1) ∙ shut))
      ];
    }

    unsets_released : (c s : ℕ) (said : Said) (mid : LineState) → Unsets line v c s said mid
        → Released mid (all_heard (Unset c s) said.words z)
    unsets_released c s said mid h = by_test (is_home line c s) _ _
        (λ _ n. by_test (is_unused_mark (v.mark s)) _ _
        (λ _ q. heard_of (Unset c s) (Done s ∷ []) said mid q.said_is (taken_back s mid q.new_is))
        (λ _ q. heard_of (Unset c s) (Asked s ∷ []) said mid q.said_is
        (still mid (ap (λ (w : LineState). w.mark) q.new_is))) n)
        (λ _ n. heard_of (Unset c s) (NotHome s ∷ []) said mid n.said_is
        (still mid (ap (λ (w : LineState). w.mark) n.new_is))) h

  -- ## An event

  module _ (v : LineState) (x : View) (old : Follows line v x) (good : Released v x) where
    own_follow : (event : Event) (o : Outcome) (said : Said) (mid : LineState) (why : Option Reason) → o.silence ≡ why
        → OwnStep line v event said mid why
        → Follows line mid (all_told line event said.sayings (said_by line event (is_none o.silence) x))
    own_follow (Bytes c (Ok m)) o said mid why is h =
        subst (λ (r : Option Reason). Follows line mid
        (all_told line (Bytes c (Ok m)) said.sayings (said_by line (Bytes c (Ok m)) (is_none r) x))) (sym is)
        (steps_follow v x old c h.0 m.t_train m.nid_engine m.body said mid why h.1)
    own_follow (Bytes c (Err number)) o said mid why is h = absurd h
    own_follow (Set c s) o said mid why is h = sets_follow v x old c s said mid h.1
    own_follow (Unset c s) o said mid why is h = unsets_follow v x old c s said mid h.1
    own_follow (Delivery from to number) o said mid why is h =
        subst (λ (p : Said). Follows line mid (all_told line (Delivery from to number) p.sayings x)) (sym h.0)
        (subst (λ (w : LineState). Follows line w x) (sym h.1) old)

    own_released : (event : Event) (said : Said) (mid : LineState) (why : Option Reason) (z : View)
        → OwnStep line v event said mid why → Released v z → Released mid (all_heard event said.words z)
    own_released (Bytes c (Ok m)) said mid why z h is =
        steps_released v x old c h.0 m.t_train m.nid_engine m.body said mid why z h.1 is
    own_released (Bytes c (Err number)) said mid why z h is = absurd h
    own_released (Set c s) said mid why z h is = sets_released v z is c s said mid h.1
    own_released (Unset c s) said mid why z h is = unsets_released v z is c s said mid h.1
    own_released (Delivery from to number) said mid why z h is =
        subst (λ (p : Said). Released mid (all_heard (Delivery from to number) p.words z)) (sym h.0)
        (subst (λ (w : LineState). Released w z) (sym h.1) is)

    said_released : (event : Event) (b : Bool) → (said_by line event b x).released ≡ x.released
    said_released (Bytes c (Ok m)) true = says_released line c m m.body x
    said_released (Bytes c (Ok m)) false = refl
    said_released (Bytes c (Err number)) b = refl
    said_released (Set c s) b = refl
    said_released (Unset c s) b = refl
    said_released (Delivery from to number) b = refl

    piece_both : (event : Event) (o : Outcome) (new : LineState) → Piece line v event o new
        → Both new (sees line event (spoken_of (Answered o)) x)
    piece_both event o new h = record {
      follows = follows_as line new told_all (sees line event (spoken_of (Answered o)) x)
          (all_same event o.words told_all)
          (subst (λ ps. Follows line new (all_told line event ps start)) (sym sayings)
          (subst (Follows line new) (sym (told_both line event h.own.sayings h.later.sayings start))
          (quiets_follow event h.quiets h.mid between h.later new h.own_centre h.quiet_steps mid_follows)));
      released = subst (λ ws. Released new (all_heard event ws told_all)) (sym words)
          (subst (Released new) (sym (heard_both event h.own.words h.later.words told_all))
          (released_on line event h.mid new h.later.words (all_heard event h.own.words told_all)
          (quiets_shut event h.quiets h.mid between h.later new h.own_centre h.quiet_steps mid_follows)
          (quiets_fit line (Set 0 0) h.mid mid_follows.keep h.quiets h.later new h.quiet_steps)
          (quiets_later line event h.mid h.quiets h.later new h.quiet_steps)
          (own_released event h.own h.mid o.silence told_all h.own_step
          (record {
            each = λ s opened. ap (λ (f : ℕ → Bool). f s) (all_released line event o.sayings start
                ∙ said_released event (is_none o.silence)) ∙ good.each s opened;
          }))));
    }
      where
        start : View
        start = said_by line event (is_none o.silence) x

        told_all : View
        told_all = all_told line event o.sayings start

        between : View
        between = all_told line event h.own.sayings start

        sayings : o.sayings ≡ h.own.sayings ++ h.later.sayings
        sayings = ap (λ (p : Said). p.sayings) h.says

        words : o.words ≡ h.own.words ++ h.later.words
        words = ap (λ (p : Said). p.words) h.says

        mid_follows : Follows line h.mid between
        mid_follows = own_follow event o h.own h.mid o.silence refl h.own_step

    same_both : (new : LineState) → new ≡ v → Both new x
    same_both new is = subst (λ (w : LineState). Both w x) (sym is) (record { follows = old; released = good })

    goes_both : (event : Event) (answer : Answer) (new : LineState) → Goes line v event answer new
        → Both new (sees line event (spoken_of answer) x)
    goes_both (Bytes c (Ok m)) (Answered o) new h = piece_both (Bytes c (Ok m)) o new h
    goes_both (Bytes c (Err number)) (Answered o) new h = piece_both (Bytes c (Err number)) o new h
    goes_both (Set c s) (Answered o) new h = piece_both (Set c s) o new h
    goes_both (Unset c s) (Answered o) new h = piece_both (Unset c s) o new h
    goes_both (Delivery from to number) (Answered o) new h = piece_both (Delivery from to number) o new h
    goes_both (Bytes c (Err number)) (Fault n) new h = same_both new h.2
    goes_both (Bytes c (Ok m)) (Fault n) new h = absurd h
    goes_both (Bytes c (Ok m)) NoCentre new h = same_both new h.1
    goes_both (Bytes c (Err number)) NoCentre new h = same_both new h.1
    goes_both (Bytes c (Ok m)) NotSent new h = absurd h
    goes_both (Bytes c (Err number)) NotSent new h = absurd h
    goes_both (Set c s) NoCentre new h = same_both new h.1
    goes_both (Set c s) NotSent new h = absurd h
    goes_both (Set c s) (Fault n) new h = absurd h
    goes_both (Unset c s) NoCentre new h = same_both new h.1
    goes_both (Unset c s) NotSent new h = absurd h
    goes_both (Unset c s) (Fault n) new h = absurd h
    goes_both (Delivery from to number) NoCentre new h = absurd h
    goes_both (Delivery from to number) NotSent new h = same_both new h
    goes_both (Delivery from to number) (Fault n) new h = absurd h

  -- ## A run

  begins_both : Both line_beginning nothing_seen
  unfolding line_beginning
  begins_both = record {
    follows = record {
      keep = record { each = λ t c place s waits. cc };
      founded = refl;
      waits = λ t c place is. cc;
      tied = λ t. not_under_way line _ None _ (λ y is. cc) (λ s. refl);
    };
    released = record { each = λ s opened. absurd (opened refl) };
  }

  run_both : (events : List Event) (answers : List Answer) (v new : LineState) (x : View)
      → Run line v events answers new → Both v x → Both new (sees_all line events (map spoken_of answers) x)
  run_both [] [] v new x h both = subst (λ (w : LineState). Both w x) (sym h) both
  run_both [] (answer ∷ answers) v new x h both = absurd h
  run_both (event ∷ events) [] v new x h both = absurd h
  run_both (event ∷ events) (answer ∷ answers) v new x (mid, goes, rest) both =
      run_both events answers mid new (sees line event (spoken_of answer) x) rest
      (goes_both v x both.follows both.released event answer mid goes)

  -- ## Safety

  given_to_one : (m : Mark) (t u : ℕ) → is_given_to t m ≡ true → is_given_to u m ≡ true → t ≡ u
  given_to_one Shut t u one two = cc
  given_to_one Open t u one two = cc
  given_to_one (Kept k) t u one two = cc
  given_to_one (Given k) t u one two = sym (eqb-true k t one) ∙ eqb-true k u two

  given_opened : (m : Mark) (t : ℕ) → is_given_to t m ≡ true → m ≡ Shut → ⊥
  given_opened m t given is = let wrong : false ≡ true = sym (ap (is_given_to t) is) ∙ given in cc

  over_given : (v : LineState) (x : View) → Follows line v x → (t s : ℕ)
      → may_run_over line x t s ≡ true → given v t s ≡ true
  over_given v x h t s is = by_stretch (x.stretch t) refl is
    where
      by_stretch : (o : Option Stretch) → x.stretch t ≡ o → has (is_in line s) o ≡ true → given v t s ≡ true
      by_stretch None at is = cc
      by_stretch (Some y) at is = ((h.tied t).spans y at).over s is

  both_safe : (v : LineState) (x : View) → Both v x → IsSafeOutside line x
  both_safe v x h = record {
    one_train = λ t u s one two. given_to_one (v.mark s) t u (over_given v x h.follows t s one)
        (over_given v x h.follows u s two);
    released = λ t s is. h.released.each s (given_opened (v.mark s) t (over_given v x h.follows t s is));
    founded = h.follows.founded;
  }

  pub run_safe : (events : List Event) (answers : List Answer) (v : LineState)
      → Run line line_beginning events answers v
      → IsSafeOutside line (sees_all line events (map spoken_of answers) nothing_seen)
  run_safe events answers v h = both_safe v (sees_all line events (map spoken_of answers) nothing_seen)
      (run_both events answers line_beginning v nothing_seen h begins_both)
