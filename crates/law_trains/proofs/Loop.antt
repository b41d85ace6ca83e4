-- The whole loop.
use Rattle.std.proofs.Common.{[], ◌++◌, ◌∙◌, ◌∷◌, ◌≡◌, ap, Bool, Err, inl, inr, is_none, List, map, None, Ok, Option}
use Rattle.std.proofs.Common.{refl, Some, subst, sym, true, ℕ}
use Rattle.std.proofs.lemmas.Bool.Decides.{eqb_tells}
use Rattle.std.specs.Prelude.{Contains}
use Rattle.law_outside.specs.Outside.{all_told, IsSafeOutside, said_by, sees, sees_all, spoken_of, Stretch, View}
use Rattle.law_promises.proofs.Marks.{not_under_way}
use Rattle.law_promises.proofs.Pieces.{run_safe, sets_follow, unsets_follow}
use Rattle.law_promises.proofs.Released.{all_same, follows_as, SameTrains, told_both}
use Rattle.law_trains.proofs.Events.{as_seen, plain_step, quiets_on, State}
use Rattle.law_trains.proofs.Hearing.{any_heard}
use Rattle.law_trains.proofs.Keeps.{contains_none, Keeps, Saids, Tolds}
use Rattle.law_trains.proofs.Known.{told_all}
use Rattle.law_trains.proofs.Messages.{message_on}
use Rattle.law_trains.proofs.Moments.{runs_on}
use Rattle.law_trains.proofs.Others.{said_other}
use Rattle.law_trains.proofs.SayingSteps.{any_sent}
use Rattle.law_trains.proofs.Speech.{sets_say, unsets_say}
use Rattle.law_trains.proofs.Within.{forward_is, loop_safe}
use Rattle.law_trains.specs.Trains.{after, all_after, AllMay, and_told, answers_of, at_first, events_of, Happens, hears}
use Rattle.law_trains.specs.Trains.{Hears, IsNew, IsSafeLoop, Loop, May, Moment, Runs, says, Says, told_after, Train}
use Rattle.rbc_spec.proofs.Lists.{put_here, put_other}
use Rattle.rbc_spec.specs.Line.{IsLine, Line}
use Rattle.rbc_spec.specs.LineCentre.{line_beginning, LineState, Said}
use Rattle.rbc_spec.specs.Maps.{put}
use Rattle.rbc_spec.specs.Message.{TrackMessage, TrainMessage}
use Rattle.rbc_spec.specs.Outcome.{Outcome, Reason, Saying}
use Rattle.rbc_spec.specs.Run.{Goes, OwnStep, Piece, Run}
use Rattle.rbc_spec.specs.World.{Answer, Answered, Bytes, centre_of, Delivery, Event, Fault, NoCentre, NotSent, Set}
use Rattle.rbc_spec.specs.World.{Unset}

module _ (line : Line) (ok : IsLine line) (obeys : ℕ → Bool) where
  -- ## An event

  module _ (train : ℕ → Train) (said : Saids) (v : LineState) (y : View) (told : Tolds)
      (old : State line ok obeys train said v y told) where
    abbrev Now : LineState → View → Tolds → Type 0
    Now = State line ok obeys train said

    -- a message in the name of a train that obeys was sent by it
    abbrev IsSent : Event → Type 0
    IsSent (Bytes c (Ok m)) = obeys m.nid_engine ≡ true → Contains said (c, m)
    IsSent event = Unit {0}

    own_on : (event : Event) → IsSent event → (o : Outcome) (q : Said) (mid : LineState) (why : Option Reason)
        → o.silence ≡ why → OwnStep line v event q mid why
        → Now mid (all_told line event q.sayings (said_by line event (is_none o.silence) y))
        (and_told (centre_of event) q.sayings told)
    own_on (Bytes c (Ok m)) sent o q mid why is h =
        subst (λ (r : Option Reason). Now mid
        (all_told line (Bytes c (Ok m)) q.sayings (said_by line (Bytes c (Ok m)) (is_none r) y))
        (and_told c q.sayings told)) (sym is)
        (message_on line ok obeys train said v y told old c h.0 m sent q mid why h.1)
    own_on (Bytes c (Err number)) sent o q mid why is h = absurd h
    own_on (Set c s) sent o q mid why is h =
        plain_step line ok obeys train said (Set c s) v y told q.sayings mid old.known old.keeps
        (sets_say line v c s q mid h.1) (sets_follow line ok v y old.follows c s q mid h.1)
    own_on (Unset c s) sent o q mid why is h =
        plain_step line ok obeys train said (Unset c s) v y told q.sayings mid old.known old.keeps
        (unsets_say line v c s q mid h.1) (unsets_follow line ok v y old.follows c s q mid h.1)
    own_on (Delivery from to number) sent o q mid why is h =
        subst (λ (p : Said). Now mid (all_told line (Delivery from to number) p.sayings y) (and_told to p.sayings told))
        (sym h.0) (subst (λ (w : LineState). Now w y told) (sym h.1) old)

    piece_on : (event : Event) → IsSent event → (o : Outcome) (new : LineState) → Piece line v event o new
        → Now new (sees line event (spoken_of (Answered o)) y) (and_told (centre_of event) o.sayings told)
    piece_on event sent o new h = record {
      follows = follows_as line new told_now (sees line event (spoken_of (Answered o)) y) same told_state.follows;
      known = told_state.known;
      keeps = λ u its. as_seen line ok obeys train said u told_now (sees line event (spoken_of (Answered o)) y)
          (and_told (centre_of event) o.sayings told) (record {
            stretch = ap (λ (f : ℕ → Option Stretch). f u) same.stretch;
            start = ap (λ (f : ℕ → ℕ → Option Stretch). f u) same.start;
          }) (told_state.keeps u its);
    }
      where
        c : ℕ
        c = centre_of event

        start : View
        start = said_by line event (is_none o.silence) y

        told_now : View
        told_now = all_told line event o.sayings start

        same : SameTrains told_now (sees line event (spoken_of (Answered o)) y)
        same = all_same event o.words told_now

        sayings : o.sayings ≡ h.own.sayings ++ h.later.sayings
        sayings = ap (λ (p : Said). p.sayings) h.says

        mid_state : Now h.mid (all_told line event h.own.sayings start) (and_told c h.own.sayings told)
        mid_state = own_on event sent o h.own h.mid o.silence refl h.own_step

        told_state : Now new told_now (and_told c o.sayings told)
        told_state =
            subst (λ (ps : List Saying). Now new (all_told line event ps start) (and_told c ps told)) (sym sayings)
            (subst (λ (w : View). Now new w (and_told c (h.own.sayings ++ h.later.sayings) told))
            (sym (told_both line event h.own.sayings h.later.sayings start))
            (subst (λ (l : Tolds). Now new
            (all_told line event h.later.sayings (all_told line event h.own.sayings start)) l)
            (sym (told_all c h.own.sayings h.later.sayings told))
            (quiets_on line ok obeys train said event h.quiets h.mid (all_told line event h.own.sayings start)
            (and_told c h.own.sayings told) h.later new h.own_centre h.quiet_steps mid_state)))

    same_on : (new : LineState) → new ≡ v → Now new y told
    same_on new is = subst (λ (w : LineState). Now w y told) (sym is) old

    goes_on : (event : Event) (answer : Answer) (new : LineState) → IsSent event → Goes line v event answer new
        → Now new (sees line event (spoken_of answer) y) (told_after event answer told)
    goes_on (Bytes c (Ok m)) (Answered o) new sent h = piece_on (Bytes c (Ok m)) sent o new h
    goes_on (Bytes c (Err number)) (Answered o) new sent h = piece_on (Bytes c (Err number)) sent o new h
    goes_on (Set c s) (Answered o) new sent h = piece_on (Set c s) sent o new h
    goes_on (Unset c s) (Answered o) new sent h = piece_on (Unset c s) sent o new h
    goes_on (Delivery from to number) (Answered o) new sent h = piece_on (Delivery from to number) sent o new h
    goes_on (Bytes c (Err number)) (Fault n) new sent h = same_on new h.2
    goes_on (Bytes c (Ok m)) (Fault n) new sent h = absurd h
    goes_on (Bytes c (Ok m)) NoCentre new sent h = same_on new h.1
    goes_on (Bytes c (Err number)) NoCentre new sent h = same_on new h.1
    goes_on (Bytes c (Ok m)) NotSent new sent h = absurd h
    goes_on (Bytes c (Err number)) NotSent new sent h = absurd h
    goes_on (Set c s) NoCentre new sent h = same_on new h.1
    goes_on (Set c s) NotSent new sent h = absurd h
    goes_on (Set c s) (Fault n) new sent h = absurd h
    goes_on (Unset c s) NoCentre new sent h = same_on new h.1
    goes_on (Unset c s) NotSent new sent h = absurd h
    goes_on (Unset c s) (Fault n) new sent h = absurd h
    goes_on (Delivery from to number) NoCentre new sent h = absurd h
    goes_on (Delivery from to number) NotSent new sent h = same_on new h
    goes_on (Delivery from to number) (Fault n) new sent h = absurd h

  -- ## A moment

  abbrev LoopState : LineState → Loop → Type 0
  LoopState v k = State line ok obeys k.train k.said v k.seen k.told

  -- one train changes
  train_put : (k : Loop) (v : LineState) (t : ℕ) (x : Train) (more : Saids) → LoopState v k
      → (obeys t ≡ true → Keeps line t x (k.seen.stretch t) (k.seen.start t) more k.told)
      → ((u : ℕ) → obeys u ≡ true → (u ≡ t → ⊥)
      → Keeps line u (k.train u) (k.seen.stretch u) (k.seen.start u) more k.told)
      → LoopState v (record k { train = put k.train t x; said = more })
  train_put k v t x more old here others = record {
    follows = old.follows;
    known = old.known;
    keeps = λ u its. elim (eqb_tells u t) [
      | inl same ↦
          subst (λ (z : Train). Keeps line u z (k.seen.stretch u) (k.seen.start u) more k.told)
          (sym (put_here k.train t u x same.1))
          (subst (λ (n : ℕ). Keeps line n x (k.seen.stretch n) (k.seen.start n) more k.told) (sym same.1)
          (here (subst (λ (n : ℕ). obeys n ≡ true) same.1 its)))
      | inr apart ↦
          subst (λ (z : Train). Keeps line u z (k.seen.stretch u) (k.seen.start u) more k.told)
          (sym (put_other k.train t u x apart.1)) (others u its apart.1)
    ];
  }

  says_on : (k : Loop) (v : LineState) (c : ℕ) (m : TrainMessage) → LoopState v k → May line obeys k (Says c m)
      → LoopState v (after line (Says c m) k)
  says_on k v c m old may = train_put k v m.nid_engine (says c m (k.train m.nid_engine)) ((c, m) ∷ k.said) old
      (λ its. any_sent line m.nid_engine (k.train m.nid_engine) (k.seen.stretch m.nid_engine)
      (k.seen.start m.nid_engine) k.said k.told (old.keeps m.nid_engine its) c m.t_train m.body (may its))
      (λ u its apart. said_other line u (k.train u) (k.seen.stretch u) (k.seen.start u) k.said k.told
      (old.keeps u its) c m apart)

  hears_on : (k : Loop) (v : LineState) (t c : ℕ) (m : TrackMessage) → LoopState v k → May line obeys k (Hears t c m)
      → LoopState v (after line (Hears t c m) k)
  hears_on k v t c m old may = train_put k v t (hears line c m m.body (k.train t)) k.said old
      (λ its. any_heard line t (k.train t) (k.seen.stretch t) (k.seen.start t) k.said k.told (old.keeps t its) c m may
      m.body refl)
      (λ u its apart. old.keeps u its)

  run_on : (k : Loop) (v : LineState) (t front : ℕ) (rear : _) → LoopState v k → May line obeys k (Runs t front rear)
      → LoopState v (after line (Runs t front rear) k)
  run_on k v t front rear old may = train_put k v t (record (k.train t) { front = front; rear = rear }) k.said old
      (λ its. runs_on line t (k.train t) (k.seen.stretch t) (k.seen.start t) k.said k.told (old.keeps t its) front rear
      (forward_is (k.train t) front rear (may its)))
      (λ u its apart. old.keeps u its)

  happens_on : (k : Loop) (v new : LineState) (event : Event) (answer : Answer) → LoopState v k
      → May line obeys k (Happens event answer) → Goes line v event answer new
      → LoopState new (after line (Happens event answer) k)
  happens_on k v new (Bytes c (Ok m)) answer old may h =
      goes_on k.train k.said v k.seen k.told old (Bytes c (Ok m)) answer new may h
  happens_on k v new (Bytes c (Err number)) answer old may h =
      goes_on k.train k.said v k.seen k.told old (Bytes c (Err number)) answer new tt h
  happens_on k v new (Set c s) answer old may h =
      goes_on k.train k.said v k.seen k.told old (Set c s) answer new tt h
  happens_on k v new (Unset c s) answer old may h =
      goes_on k.train k.said v k.seen k.told old (Unset c s) answer new tt h
  happens_on k v new (Delivery from to number) answer old may h =
      goes_on k.train k.said v k.seen k.told old (Delivery from to number) answer new tt h

  -- ## All moments

  all_on : (ms : List Moment) (k : Loop) (v last : LineState) → LoopState v k → AllMay line obeys k ms
      → Run line v (events_of ms) (answers_of ms) last → LoopState last (all_after line ms k)
  all_on [] k v last old may h = subst (λ (w : LineState). LoopState w k) (sym h) old
  all_on (Says c m ∷ ms) k v last old may h =
      all_on ms (after line (Says c m) k) v last (says_on k v c m old may.0) may.1 h
  all_on (Hears t c m ∷ ms) k v last old may h =
      all_on ms (after line (Hears t c m) k) v last (hears_on k v t c m old may.0) may.1 h
  all_on (Runs t front rear ∷ ms) k v last old may h =
      all_on ms (after line (Runs t front rear) k) v last (run_on k v t front rear old may.0) may.1 h
  all_on (Happens event answer ∷ ms) k v last old may (mid, goes, rest) =
      all_on ms (after line (Happens event answer) k) mid last
      (happens_on k v mid event answer old may.0 goes) may.1 rest

  -- the view is that of the events and answers
  seen_all : (ms : List Moment) (k : Loop)
      → (all_after line ms k).seen ≡ sees_all line (events_of ms) (map spoken_of (answers_of ms)) k.seen
  seen_all [] k = refl
  seen_all (Says c m ∷ ms) k = seen_all ms (after line (Says c m) k)
  seen_all (Hears t c m ∷ ms) k = seen_all ms (after line (Hears t c m) k)
  seen_all (Runs t front rear ∷ ms) k = seen_all ms (after line (Runs t front rear) k)
  seen_all (Happens event answer ∷ ms) k = seen_all ms (after line (Happens event answer) k)

  at_first_state : (train : ℕ → Train) → ((t : ℕ) → IsNew (train t)) → LoopState line_beginning (at_first train)
  unfolding line_beginning
  at_first_state train new = record {
    follows = record {
      keep = record { each = λ t c place s waits. cc };
      founded = refl;
      waits = λ t c place is. cc;
      tied = λ t. not_under_way line _ None _ (λ y is. cc) (λ s. refl);
    };
    known = record {
      below = λ c p sent. absurd (contains_none sent);
      heard = λ c p s sent body. absurd
          (contains_none sent);
    };
    keeps = λ t its. let x = new t in record {
      honest = record {
        clock = λ c n b sent. absurd (contains_none sent);
        gave = λ c n b sent gives. absurd (contains_none sent);
        length = x.has_length;
        started = λ c n is_valid position sent. absurd (contains_none sent);
        past = λ c n b position place sent at is. absurd (contains_none sent);
      };
      none = λ is. record {
        end = x.no_authority;
        front = λ c n is_valid position place sent is. absurd (contains_none sent);
        none_told = λ c m l sent body. contains_none sent;
      };
      some = λ z is. cc;
      granted = λ c n stamp position sent live. absurd (contains_none sent);
      ended = λ c n position sent still live. absurd (contains_none sent);
      begun = λ c q is. cc;
      follows = λ f is. let wrong : None ≡ Some f = sym x.follows_none ∙ is in cc;
      asked = λ c a is. let wrong : None ≡ Some a = sym (x.none_asked c) ∙ is in cc;
    };
  }

  pub trains_safe : (train : ℕ → Train) (ms : List Moment) (last : LineState) → ((t : ℕ) → IsNew (train t))
      → AllMay line obeys (at_first train) ms → Run line line_beginning (events_of ms) (answers_of ms) last
      → IsSafeLoop line obeys (all_after line ms (at_first train))
  trains_safe train ms last new may h =
      let state = all_on ms (at_first train) line_beginning last (at_first_state train new) may h in
      loop_safe line obeys (all_after line ms (at_first train))
      (λ t z its is. ((state.keeps t its).some z is).within)
      (subst (IsSafeOutside line) (sym (seen_all ms (at_first train)))
      (run_safe line ok (events_of ms) (answers_of ms) last h))
