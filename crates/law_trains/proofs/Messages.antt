-- A centre receives a message of a train.
use Rattle.std.proofs.Common.{◌==◌, ◌∙◌, ◌≡◌, ap, arith, Bool, eqb-true, false, if◌then◌else◌, inl, inr, is_none, List}
use Rattle.std.proofs.Common.{None, Ok, Option, refl, Some, subst, sym, true, ℕ}
use Rattle.std.proofs.lemmas.Bool.Decides.{eqb_tells}
use Rattle.std.proofs.lemmas.Option.{same_Some}
use Rattle.std.specs.Prelude.{Contains}
use Rattle.law_base.proofs.PiecesLemmas.Waits.{elsewhere, put_at, PutAt, there}
use Rattle.law_outside.specs.Outside as outside
use Rattle.law_outside.specs.Outside.{all_told, said_by, starts, stamp_of, Stretch, View}
use Rattle.law_promises.proofs.ArrivalLemmas.Ends.{ends_there}
use Rattle.law_promises.proofs.Follows.{Follows}
use Rattle.law_promises.proofs.Marks.{IsSince}
use Rattle.law_promises.proofs.Pieces.{steps_follow}
use Rattle.law_trains.proofs.Events.{All, any_words, as_seen, InTime, one_told, State}
use Rattle.law_trains.proofs.Keeps.{Saids, Tolds, Keeps}
use Rattle.law_trains.proofs.Known.{Known, known_after, known_as}
use Rattle.law_trains.proofs.Others.{said_apart}
use Rattle.law_trains.proofs.Received.{fresh_if_listened, fresh_is, hears_later, stale_below}
use Rattle.law_trains.proofs.SeenSteps.{any_said, IsGood}
use Rattle.law_trains.proofs.Speech.{MaySay, own_speaks}
use Rattle.law_trains.proofs.ToldSteps.{start_less}
use Rattle.law_trains.specs.Trains.{and_told, Train}
use Rattle.rbc_spec.proofs.Lists.{put_pair_there}
use Rattle.rbc_spec.specs.Line.{is_centre, IsLine, Line}
use Rattle.rbc_spec.specs.LineCentre.{hears, LineState, Said}
use Rattle.rbc_spec.specs.Maps.{put_pair}
use Rattle.rbc_spec.specs.Message.{is_stale, TrainBody, TrainMessage, TrainRejected, unknown_group}
use Rattle.rbc_spec.specs.Message.{EndOfMission, InitiationOfSession, Report, Request, SessionEstablished}
use Rattle.rbc_spec.specs.Message.{ShorteningGranted, ShorteningRejected, StartOfMission, TerminationOfSession}
use Rattle.rbc_spec.specs.Message.{TrainData}
use Rattle.rbc_spec.specs.Outcome.{Reason, Saying}
use Rattle.rbc_spec.specs.OwnSteps.{Own, Rejects, Starts}
use Rattle.rbc_spec.specs.Place.{fit_place, Place}
use Rattle.rbc_spec.specs.Run.{heard, listened, may_listen, silence, silent, Steps}
use Rattle.rbc_spec.specs.World.{Bytes, Event}

-- a start that is rejected waits no longer
rejected_less : (f : ℕ → ℕ → Option Stretch) (t c u d : ℕ) (r : Option Stretch) (q : Stretch)
    → put_pair (put_pair f t c r) t c None u d ≡ Some q → put_pair f t c None u d ≡ Some q
rejected_less f t c u d r q is = by_outer (put_at (put_pair f t c r) t c None u d)
  where
    by_last : (u ≡ t → d ≡ c → ⊥) → f u d ≡ Some q → PutAt f t c None u d → put_pair f t c None u d ≡ Some q
    by_last apart at (there a b one) = absurd (apart a b)
    by_last apart at (elsewhere other one) = one ∙ at

    by_inner : (u ≡ t → d ≡ c → ⊥) → put_pair f t c r u d ≡ Some q → PutAt f t c r u d
        → put_pair f t c None u d ≡ Some q
    by_inner apart at (there a b one) = absurd (apart a b)
    by_inner apart at (elsewhere other one) = by_last apart (sym one ∙ at) (put_at f t c None u d)

    by_outer : PutAt (put_pair f t c r) t c None u d → put_pair f t c None u d ≡ Some q
    by_outer (there a b one) = let wrong : None ≡ Some q = sym one ∙ is in cc
    by_outer (elsewhere apart one) = by_inner apart (sym one ∙ is) (put_at f t c r u d)

module _ (line : Line) (ok : IsLine line) (obeys : ℕ → Bool) (train : ℕ
    → Train) (said : Saids) (v : LineState) (y : View)
    (told : Tolds) (old : State line ok obeys train said v y told) (c : ℕ) (at : is_centre line c ≡ true)
    (m : TrainMessage) (sent : obeys m.nid_engine ≡ true → Contains said (c, m)) where
  abbrev t : ℕ
  t = m.nid_engine

  abbrev event : Event
  event = Bytes c (Ok m)

  abbrev Every : View → Tolds → Type 0
  Every = All line ok obeys train said

  keeps_said : IsGood line m.body → Every (outside.says line c m m.body y) told
  keeps_said good u obeys_u = elim (eqb_tells u t) [
    | inl same ↦
        let its : obeys t ≡ true = subst (λ (k : ℕ). obeys k ≡ true) same.1 obeys_u in
        subst (λ (k : ℕ). Keeps line k (train k) ((outside.says line c m m.body y).stretch k)
        ((outside.says line c m m.body y).start k) said told) (sym same.1)
        (any_said line t (train t) said told c m.t_train y (old.keeps t its) (ends_there line v y old.follows t)
        m.body (sent its) good)
    | inr apart ↦ as_seen line ok obeys train said u y (outside.says line c m m.body y) told
        (said_apart line u c m m.body y apart.1) (old.keeps u obeys_u)
  ]

  module _ (fresh : is_stale m.t_train (v.heard t c) ≡ false) where
    abbrev heard_it : LineState
    heard_it = hears c m v

    known_then : Known heard_it told
    known_then = known_as v heard_it told (λ u d. omega arith) (hears_later line v c m fresh) old.known

    in_time : (u : ℕ) → InTime line ok obeys train said event told u
    in_time u n stamp k s is body =
        let r = by_train (t == u) refl stamp in
        let since = old.known.heard c (record { nid_engine = u; message = k }) s is body in
        let less = stale_below m.t_train (v.heard t c) fresh s
        (subst (λ (e : ℕ). IsSince s (v.heard e c)) (sym r.0) since) in
        let same = r.1 in omega (arith, less, same)
      where
        by_train : (b : Bool) → (t == u) ≡ b → (if b then Some m.t_train else None) ≡ Some n
            → (t ≡ u) × (m.t_train ≡ n)
        by_train true is at = (eqb-true t u is, same_Some m.t_train n at)
        by_train false is at = cc

    module _ (q : Said) (mid : LineState) where
      known_now : Own line heard_it c m m.body q mid → Known mid (and_told c q.sayings told)
      known_now own = let speech = own_speaks line c heard_it m q mid m.body own in
          known_after (MaySay m) c heard_it q.sayings mid told speech
          (λ u s may. speech.heard u c s (subst (λ (e : ℕ). IsSince s (heard_it.heard e c)) (sym may.0) (record {
            last = m.t_train;
            is = put_pair_there v.heard t c (Some m.t_train);
            le = (let same = may.1 in omega (arith, same));
          }))) known_then

      good_keeps : IsGood line m.body → Own line heard_it c m m.body q mid
          → (all_told line event q.sayings (outside.says line c m m.body y)).stray ≡ false
          → Every (all_told line event q.sayings (outside.says line c m m.body y)) (and_told c q.sayings told)
      good_keeps good own founded =
          any_words line ok obeys train said event (MaySay m) heard_it
          (outside.says line c m m.body y) told q.sayings mid
          known_then (keeps_said good) (own_speaks line c heard_it m q mid m.body own).speaks
          (λ u l may. in_time u) founded

      -- a start at a place that is not fit is rejected
      rejected_keeps : (r : Option Stretch) → Rejects t c heard_it q mid
          → (all_told line event q.sayings (starts t c r y)).stray ≡ false
          → Every (all_told line event q.sayings (starts t c r y)) (and_told c q.sayings told)
      rejected_keeps r h founded =
          let is = ap (λ (p : Said). p.sayings) h.said_is in
          subst (λ (ps : List Saying). Every (all_told line event ps (starts t c r y)) (and_told c ps told)) (sym is)
          (λ u its. start_less line u (train u) (y.stretch u) (put_pair y.start t c None u)
          (put_pair (put_pair y.start t c r) t c None u) said _
          (λ d w at. rejected_less y.start t c u d r w at)
          (one_told line ok obeys train said event heard_it y told known_then old.keeps t unknown_group TrainRejected
          (λ l wrong. cc) (subst (λ (ps : List Saying). (all_told line event ps (starts t c r y)).stray ≡ false) is
          founded) u its))

      own_keeps : (b : TrainBody) → m.body ≡ b → Own line heard_it c m b q mid
          → (all_told line event q.sayings (outside.says line c m b y)).stray ≡ false
          → Every (all_told line event q.sayings (outside.says line c m b y)) (and_told c q.sayings told)
      own_keeps b is own founded = by_good b is own founded
        where
          well : (b : TrainBody) → m.body ≡ b → IsGood line b → Own line heard_it c m b q mid
              → (all_told line event q.sayings (outside.says line c m b y)).stray ≡ false
              → Every (all_told line event q.sayings (outside.says line c m b y)) (and_told c q.sayings told)
          well b is good own founded =
              subst (λ (e : TrainBody). Every (all_told line event q.sayings (outside.says line c m e y))
              (and_told c q.sayings told)) is
              (good_keeps (subst (IsGood line) (sym is) good)
              (subst (λ (e : TrainBody). Own line heard_it c m e q mid) (sym is) own)
              (subst (λ (e : TrainBody). (all_told line event q.sayings (outside.says line c m e y)).stray ≡ false)
              (sym is) founded))

          by_fit : (is_valid : Bool) (position : _) → m.body ≡ StartOfMission is_valid position → (o : Option Place)
              → fit_place line is_valid position ≡ o → Starts line t c o heard_it q mid
              → (all_told line event q.sayings (outside.says line c m
              (StartOfMission is_valid position) y)).stray ≡ false
              → Every (all_told line event q.sayings (outside.says line c m (StartOfMission is_valid position) y))
              (and_told c q.sayings told)
          by_fit is_valid position is None fits own founded = rejected_keeps _ own founded
          by_fit is_valid position is (Some place) fits own founded =
              well (StartOfMission is_valid position) is (place, fits)
              (subst (λ (o : Option Place). Starts line t c o heard_it q mid) (sym fits) own) founded

          by_good : (b : TrainBody) → m.body ≡ b → Own line heard_it c m b q mid
              → (all_told line event q.sayings (outside.says line c m b y)).stray ≡ false
              → Every (all_told line event q.sayings (outside.says line c m b y)) (and_told c q.sayings told)
          by_good (StartOfMission is_valid position) is own founded =
              by_fit is_valid position is (fit_place line is_valid position) refl own founded
          by_good InitiationOfSession is own founded = well InitiationOfSession is tt own founded
          by_good TerminationOfSession is own founded = well TerminationOfSession is tt own founded
          by_good SessionEstablished is own founded = well SessionEstablished is tt own founded
          by_good (TrainData position) is own founded = well (TrainData position) is tt own founded
          by_good (Request position) is own founded = well (Request position) is tt own founded
          by_good (Report position) is own founded = well (Report position) is tt own founded
          by_good (ShorteningGranted stamp position) is own founded =
              well (ShorteningGranted stamp position) is tt own founded
          by_good (ShorteningRejected stamp position) is own founded =
              well (ShorteningRejected stamp position) is tt own founded
          by_good (EndOfMission position) is own founded = well (EndOfMission position) is tt own founded

  good_if_listened : (b : TrainBody) (reason : Option Reason) → may_listen line c b reason ≡ true → IsGood line b
  good_if_listened (Report position) reason may = tt
  good_if_listened InitiationOfSession reason may = tt
  good_if_listened TerminationOfSession reason may = tt
  good_if_listened SessionEstablished reason may = tt
  good_if_listened (StartOfMission is_valid position) reason may = cc
  good_if_listened (TrainData position) reason may = tt
  good_if_listened (Request position) reason may = tt
  good_if_listened (ShorteningGranted stamp position) reason may = tt
  good_if_listened (ShorteningRejected stamp position) reason may = tt
  good_if_listened (EndOfMission position) reason may = tt

  abbrev Then : LineState → Said → Option Reason → Type 0
  Then mid q why = State line ok obeys train said mid (all_told line event q.sayings (said_by line event
      (is_none why) y))
      (and_told c q.sayings told)

  pub message_on : (q : Said) (mid : LineState) (why : Option Reason) → Steps line v c m q mid why → Then mid q why
  message_on q mid why h = by_step h
      (steps_follow line ok v y old.follows c at m.t_train m.nid_engine m.body q mid why h)
    where
      by_step : Steps line v c m q mid why
          → Follows line mid (all_told line event q.sayings (said_by line event (is_none why) y)) → Then mid q why
      by_step (silent reason is so none new) follows =
          subst (λ (o : Option Reason). Then mid q o) (sym so)
          (subst (λ (p : Said). Then mid p (Some reason)) (sym none)
          (subst (λ (w : LineState). State line ok obeys train said w y told) (sym new) old))
      by_step (listened may so none new) follows =
          subst (λ (o : Option Reason). Then mid q o) (sym so)
          (subst (λ (p : Said). Then mid p None) (sym none) (record {
            follows = subst (λ (p : Said). Follows line mid (all_told line event p.sayings
                (said_by line event true y))) none (subst (λ (o : Option Reason). Follows line mid
                (all_told line event q.sayings (said_by line event (is_none o) y))) so follows);
            known = subst (λ (w : LineState). Known w told) (sym new)
                (known_then (fresh_if_listened line v c m may));
            keeps = keeps_said (good_if_listened m.body (silence line v c m) may);
          }))
      by_step (heard is so own) follows =
          subst (λ (o : Option Reason). Then mid q o) (sym so)
          (let now = subst (λ (o : Option Reason). Follows line mid
          (all_told line event q.sayings (said_by line event (is_none o) y))) so follows in record {
            follows = now;
            known = known_now (fresh_is line v c m is) q mid own;
            keeps = own_keeps (fresh_is line v c m is) q mid m.body refl own now.founded;
          })
