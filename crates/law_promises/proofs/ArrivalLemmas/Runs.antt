use Rattle.std.proofs.Common.{[], ◌++◌, ◌∙◌, ◌∷◌, ◌≡◌, ap, Bool, Err, false, is_none, List, map, None, Ok, Option, refl}
use Rattle.std.proofs.Common.{Some, subst, sym, true, ℕ}
use Rattle.std.proofs.lemmas.Option.{none-some, same_Some}
use Rattle.law_outside.specs.Outside as outside
use Rattle.law_outside.specs.Outside.{all_heard, all_told, is_in, IsSafeOutside, may_run_over, nothing_seen, said_by}
use Rattle.law_outside.specs.Outside.{sees, sees_all, Spoken, spoken_of, Stretch, View}
use Rattle.law_promises.proofs.ArrivalLemmas.Ends.{After, ends_there, quiets_on, step_on, words_both}
use Rattle.law_promises.proofs.ArrivalLemmas.Reached.{covers_less, Fit, is_nothing, is_part, Rel}
use Rattle.law_promises.proofs.ArrivalLemmas.ReachedSaid.{rel_said}
use Rattle.law_promises.proofs.ArrivalLemmas.Speaks.{IsStart, no_word, own_speaks, sets_say, unsets_say}
use Rattle.law_promises.proofs.Follows.{Follows}
use Rattle.law_promises.proofs.Marks.{not_under_way}
use Rattle.law_promises.proofs.Pieces.{run_safe, sets_follow, steps_follow, unsets_follow}
use Rattle.law_promises.proofs.Released.{all_same, follows_as, told_both}
use Rattle.law_promises.proofs.Spans.{Ends}
use Rattle.law_promises.specs.Arrival.Arrival.{IsSafeByWhatCame}
use Rattle.law_promises.specs.Arrival.Received.{AreReceived, Known, may_happen, nothing_known, nothing_spoken}
use Rattle.law_promises.specs.Arrival.Received.{part_reaches, PartReaches, Reaches}
use Rattle.rbc_spec.specs.Line.{is_centre, IsLine, Line}
use Rattle.rbc_spec.specs.LineCentre.{hears, line_beginning, LineState, Said}
use Rattle.rbc_spec.specs.Maps.{has}
use Rattle.rbc_spec.specs.Message.{StartOfMission, TrainBody, TrainMessage}
use Rattle.rbc_spec.specs.Outcome.{Outcome, Reason, Saying, Word}
use Rattle.rbc_spec.specs.Run.{Goes, heard, listened, OwnStep, Piece, Run, silent, Steps}
use Rattle.rbc_spec.specs.World.{Answer, Answered, Bytes, centre_of, Delivery, Event, Fault, NoCentre, NotSent, Set}
use Rattle.rbc_spec.specs.World.{Unset}

-- ## An own step

-- only a start is accepted, and it changes no stretch
start_ends : (line : Line) (v : LineState) (x : View) → Follows line v x → (c : ℕ) (m : TrainMessage) (body : TrainBody)
    → IsStart body → (t : ℕ) (y : Stretch) → (outside.says line c m body x).stretch t ≡ Some y → Ends line y
start_ends line v x h c m (StartOfMission is_valid position) is t y at = ends_there line v x h t y at
start_ends line v x h c m outside_body is t y at = absurd is

module _ (line : Line) (ok : IsLine line) (new : Known) (v : LineState) (x w : View) (old : Follows line v x)
    (k : Known) (rel : Rel line x w k v.said) where
  message_on : (c : ℕ) (m : TrainMessage) (said : Said) (mid : LineState) (why : Option Reason)
      → is_centre line c ≡ true → Steps line v c m said mid why → may_happen k (Bytes c (Ok m)) ≡ true
      → (rest some : List Saying)
      → Reaches c new k (said.sayings ++ rest) some
      → Follows line mid (all_told line (Bytes c (Ok m)) said.sayings (said_by line (Bytes c (Ok m)) (is_none why) x))
      → After line (Bytes c (Ok m)) new
      (all_told line (Bytes c (Ok m)) said.sayings (said_by line (Bytes c (Ok m)) (is_none why) x))
      (said_by line (Bytes c (Ok m)) (is_none why) w) mid.said rest some
  message_on c m said mid why at (silent reason is so none same) may rest some more follows =
      step_on line (Bytes c (Ok m)) new ⊥ v mid (said_by line (Bytes c (Ok m)) (is_none why) x)
      (said_by line (Bytes c (Ok m)) (is_none why) w) said.sayings
      (no_word (ap (λ (p : Said). p.sayings) none) (ap (λ (u : LineState). u.said) same)) (λ never. absurd never)
      follows.founded k (rel_said line (Bytes c (Ok m)) (is_none why) x w k v.said rel may) rest some more
  message_on c m said mid why at (listened listens so none same) may rest some more follows =
      step_on line (Bytes c (Ok m)) new ⊥ v mid (said_by line (Bytes c (Ok m)) (is_none why) x)
      (said_by line (Bytes c (Ok m)) (is_none why) w) said.sayings
      (no_word (ap (λ (p : Said). p.sayings) none) (ap (λ (u : LineState). u.said) same)) (λ never. absurd never)
      follows.founded k (rel_said line (Bytes c (Ok m)) (is_none why) x w k v.said rel may) rest some more
  message_on c m said mid why at (heard is so own) may rest some more follows =
      step_on line (Bytes c (Ok m)) new (IsStart m.body) (hears c m v) mid
      (said_by line (Bytes c (Ok m)) (is_none why) x) (said_by line (Bytes c (Ok m)) (is_none why) w) said.sayings
      (own_speaks line c (hears c m v) m said mid m.body own)
      (subst (λ (o : Option Reason). IsStart m.body → (t : ℕ) (y : Stretch)
      → (said_by line (Bytes c (Ok m)) (is_none o) x).stretch t ≡ Some y
      → Ends line y) (sym so) (start_ends line v x old c m m.body))
      follows.founded k (rel_said line (Bytes c (Ok m)) (is_none why) x w k v.said rel may) rest some more

  own_follow : (event : Event) (said : Said) (mid : LineState) (why : Option Reason) → OwnStep line v event said mid why
      → Follows line mid (all_told line event said.sayings (said_by line event (is_none why) x))
  own_follow (Bytes c (Ok m)) said mid why h =
      steps_follow line ok v x old c h.0 m.t_train m.nid_engine m.body said mid why h.1
  own_follow (Bytes c (Err number)) said mid why h = absurd h
  own_follow (Set c s) said mid why h = sets_follow line ok v x old c s said mid h.1
  own_follow (Unset c s) said mid why h = unsets_follow line ok v x old c s said mid h.1
  own_follow (Delivery from to number) said mid why h =
      subst (λ (p : Said). Follows line mid (all_told line (Delivery from to number) p.sayings x)) (sym h.0)
      (subst (λ (u : LineState). Follows line u x) (sym h.1) old)

  own_on : (event : Event) (said : Said) (mid : LineState) (why : Option Reason) → OwnStep line v event said mid why
      → may_happen k event ≡ true → (rest some : List Saying)
      → Reaches (centre_of event) new k (said.sayings ++ rest) some
      → After line event new (all_told line event said.sayings (said_by line event (is_none why) x))
      (said_by line event (is_none why) w) mid.said rest some
  own_on (Bytes c (Ok m)) said mid why h may rest some more =
      message_on c m said mid why h.0 h.1 may rest some more (own_follow (Bytes c (Ok m)) said mid why h)
  own_on (Bytes c (Err number)) said mid why h may rest some more = absurd h
  own_on (Set c s) said mid why h may rest some more =
      step_on line (Set c s) new ⊥ v mid x w said.sayings (sets_say line v c s said mid ⊥ h.1) (λ never. absurd never)
      (own_follow (Set c s) said mid why h).founded k rel rest some more
  own_on (Unset c s) said mid why h may rest some more =
      step_on line (Unset c s) new ⊥ v mid x w said.sayings (unsets_say line v c s said mid ⊥ h.1)
      (λ never. absurd never) (own_follow (Unset c s) said mid why h).founded k rel rest some more
  own_on (Delivery from to number) said mid why h may rest some more =
      step_on line (Delivery from to number) new ⊥ v mid x w said.sayings
      (no_word (ap (λ (p : Said). p.sayings) h.0) (ap (λ (u : LineState). u.said) h.1)) (λ never. absurd never)
      (own_follow (Delivery from to number) said mid why h).founded k rel rest some more

  -- ## An event

  piece_on : (event : Event) (o : Outcome) (last : LineState) → Piece line v event o last → may_happen k event ≡ true
      → (some : List Saying) → Reaches (centre_of event) new k o.sayings some
      → Follows line last (all_told line event o.sayings (said_by line event (is_none o.silence) x))
      × Rel line (all_told line event o.sayings (said_by line event (is_none o.silence) x))
      (all_told line event some (said_by line event (is_none o.silence) w)) new last.said
  piece_on event o last h may some more =
      let follows = own_follow event h.own h.mid o.silence h.own_step in
      let a = own_on event h.own h.mid o.silence h.own_step may h.later.sayings some
      (subst (λ (ps : List Saying). Reaches (centre_of event) new k ps some) sayings more) in
      let b = quiets_on line event new ok h.quiets h.mid last (all_told line event h.own.sayings start) a.z h.later
      h.own_centre h.quiet_steps follows a.k a.rel a.part a.left in
      subst (λ (ps : List Saying). Follows line last (all_told line event ps start)
      × Rel line (all_told line event ps start)
      (all_told line event some (said_by line event (is_none o.silence) w)) new last.said) (sym sayings)
      (subst (λ (y : View). Follows line last y
      × Rel line y (all_told line event some (said_by line event (is_none o.silence) w)) new last.said)
      (sym (told_both line event h.own.sayings h.later.sayings start))
      (subst (λ (z : View). Follows line last
      (all_told line event h.later.sayings (all_told line event h.own.sayings start))
      × Rel line (all_told line event h.later.sayings (all_told line event h.own.sayings start)) z new
      last.said) (sym a.same) b))
    where
      start : View
      start = said_by line event (is_none o.silence) x

      sayings : o.sayings ≡ h.own.sayings ++ h.later.sayings
      sayings = ap (λ (p : Said). p.sayings) h.says

  words_on : (event : Event) (words : List Word) (last : LineState) (y z : View) (j : Known) → Follows line last y
      × Rel line y z j last.said → Follows line last (all_heard event words y)
      × Rel line (all_heard event words y) (all_heard event words z) j last.said
  words_on event words last y z j h =
      let a = all_same event words y in
      let b = all_same event words z in (
        follows_as line last y (all_heard event words y) a h.0,
        record {
          stretch = λ t q is. subst (λ (f : ℕ → Option Stretch). Fit line (f t) (j.misses t) (j.requested t) q)
              (sym a.stretch) (h.1.stretch t q (sym (ap (λ (f : ℕ → Option Stretch). f t) b.stretch) ∙ is));
          start = λ t c f is. ap (λ (g : ℕ → ℕ → Option Stretch). g t c) b.start
              ∙ h.1.start t c f (sym (ap (λ (g : ℕ → ℕ → Option Stretch). g t c) a.start) ∙ is);
          plain = λ t c f is. h.1.plain t c f (sym (ap (λ (g : ℕ → ℕ → Option Stretch). g t c) a.start) ∙ is);
          released = words_both event words y z h.1.released;
          said = h.1.said;
        },
      )

  -- the part of the messages that arrives
  partly_is : (event : Event) (j : Known) (s part : Option Spoken) → PartReaches (centre_of event) new j s part
      → (o : Spoken) → s ≡ Some o
      → (some : List Saying) × (part ≡ Some (record { is_heard = o.is_heard; sayings = some; words = o.words }))
      × Reaches (centre_of event) new j o.sayings some
  partly_is event _ _ _ nothing_spoken o is = absurd (none-some o is)
  partly_is event j _ _ (part_reaches _ is_heard told some words more) o is =
      let same = same_Some (record { is_heard = is_heard; sayings = told; words = words }) o is in (
        some,
        ap (λ (p : Spoken). Some (record { is_heard = p.is_heard; sayings = some; words = p.words })) same,
        subst (λ (p : Spoken). Reaches (centre_of event) new j p.sayings some) same more,
      )

  partly_none : (event : Event) (j : Known) (s part : Option Spoken) → PartReaches (centre_of event) new j s part
      → s ≡ None → (part ≡ None) × (j ≡ new)
  partly_none event _ _ _ nothing_spoken is = (refl, refl)
  partly_none event j _ _ (part_reaches _ is_heard told some words more) is =
      absurd (none-some (record { is_heard = is_heard; sayings = told; words = words }) (sym is))

  answered_on : (event : Event) (o : Outcome) (last : LineState) (part : Option Spoken) → Piece line v event o last
      → may_happen k event ≡ true → PartReaches (centre_of event) new k (spoken_of (Answered o)) part
      → Follows line last (sees line event (spoken_of (Answered o)) x)
      × Rel line (sees line event (spoken_of (Answered o)) x) (sees line event part w) new last.said
  answered_on event o last part h may parts =
      let r = partly_is event k (spoken_of (Answered o)) part parts
      (record { is_heard = is_none o.silence; sayings = o.sayings; words = o.words }) refl in
      subst (λ (p : Option Spoken). Follows line last (sees line event (spoken_of (Answered o)) x)
      × Rel line (sees line event (spoken_of (Answered o)) x) (sees line event p w) new last.said) (sym r.1)
      (words_on event o.words last _ _ new (piece_on event o last h may r.0 r.2))

  none_on : (event : Event) (last : LineState) (part : Option Spoken) → last ≡ v
      → PartReaches (centre_of event) new k None part → Follows line last x
      × Rel line x (sees line event part w) new last.said
  none_on event last part same parts =
      let r = partly_none event k None part parts refl in
      subst (λ (u : LineState). Follows line u x × Rel line x (sees line event part w) new u.said) (sym same)
      (subst (λ (p : Option Spoken). Follows line v x × Rel line x (sees line event p w) new v.said) (sym r.0)
      (old, subst (λ (j : Known). Rel line x w j v.said) r.1 rel))

  goes_on : (event : Event) (answer : Answer) (last : LineState) (part : Option Spoken) → Goes line v event answer last
      → may_happen k event ≡ true → PartReaches (centre_of event) new k (spoken_of answer) part
      → Follows line last (sees line event (spoken_of answer) x)
      × Rel line (sees line event (spoken_of answer) x) (sees line event part w) new last.said
  goes_on event (Answered o) last part h may parts = answered_on event o last part (piece_of event h) may parts
    where
      piece_of : (e : Event) → Goes line v e (Answered o) last → Piece line v e o last
      piece_of (Bytes c (Ok m)) h = h
      piece_of (Bytes c (Err number)) h = h
      piece_of (Set c s) h = h
      piece_of (Unset c s) h = h
      piece_of (Delivery from to number) h = h
  goes_on (Bytes c (Err number)) (Fault n) last part h may parts = none_on (Bytes c (Err number)) last part h.2 parts
  goes_on (Bytes c (Ok m)) (Fault n) last part h may parts = absurd h
  goes_on (Bytes c (Ok m)) NoCentre last part h may parts = none_on (Bytes c (Ok m)) last part h.1 parts
  goes_on (Bytes c (Err number)) NoCentre last part h may parts = none_on (Bytes c (Err number)) last part h.1 parts
  goes_on (Bytes c (Ok m)) NotSent last part h may parts = absurd h
  goes_on (Bytes c (Err number)) NotSent last part h may parts = absurd h
  goes_on (Set c s) NoCentre last part h may parts = none_on (Set c s) last part h.1 parts
  goes_on (Set c s) NotSent last part h may parts = absurd h
  goes_on (Set c s) (Fault n) last part h may parts = absurd h
  goes_on (Unset c s) NoCentre last part h may parts = none_on (Unset c s) last part h.1 parts
  goes_on (Unset c s) NotSent last part h may parts = absurd h
  goes_on (Unset c s) (Fault n) last part h may parts = absurd h
  goes_on (Delivery from to number) NoCentre last part h may parts = absurd h
  goes_on (Delivery from to number) NotSent last part h may parts = none_on (Delivery from to number) last part h parts
  goes_on (Delivery from to number) (Fault n) last part h may parts = absurd h

-- ## A run

-- if a train may run over a section by the part, it may by all messages, and the section is released there
over_too : (line : Line) (v w : View) (k : Known) (count : ℕ → ℕ → ℕ) → Rel line v w k count → (t s : ℕ)
    → may_run_over line w t s ≡ true → may_run_over line v t s ≡ true
over_too line v w k count rel t s is = by_came (w.stretch t) refl is
  where
    by_fit : (y : Stretch) → Fit line (v.stretch t) (k.misses t) (k.requested t) y → is_in line s y ≡ true
        → may_run_over line v t s ≡ true
    by_fit y (is_part x at lies asked) so = ap (has (is_in line s)) at ∙ covers_less line y x lies s so
    by_fit y (is_nothing missed out) so = absurd (out.none s so)

    by_came : (o : Option Stretch) → w.stretch t ≡ o → has (is_in line s) o ≡ true → may_run_over line v t s ≡ true
    by_came None at so = cc
    by_came (Some y) at so = by_fit y (rel.stretch t y at) so

rel_safe : (line : Line) (v w : View) (k : Known) (count : ℕ → ℕ → ℕ) → Rel line v w k count → IsSafeOutside line v
    → IsSafeByWhatCame line w
rel_safe line v w k count rel safe = record {
  one_train = λ t u s one two. safe.one_train t u s (over_too line v w k count rel t s one)
      (over_too line v w k count rel u s two);
  released = λ t s is. rel.released s ∙ safe.released t s (over_too line v w k count rel t s is);
}

module _ (line : Line) (ok : IsLine line) where
  run_on : (events : List Event) (answers : List Answer) (came : List (Option Spoken)) (v last : LineState) (x w : View)
      (k : Known) → Run line v events answers last → Follows line v x → Rel line x w k v.said
      → AreReceived k events (map spoken_of answers) came → (j : Known)
      × Rel line (sees_all line events (map spoken_of answers) x) (sees_all line events came w) j last.said
  run_on [] [] [] v last x w k h old rel received = (k, subst (λ (u : LineState). Rel line x w k u.said) (sym h) rel)
  run_on [] [] (part ∷ came) v last x w k h old rel received = absurd received
  run_on [] (answer ∷ answers) came v last x w k h old rel received = absurd h
  run_on (event ∷ events) [] came v last x w k h old rel received = absurd h
  run_on (event ∷ events) (answer ∷ answers) [] v last x w k h old rel received = absurd received
  run_on (event ∷ events) (answer ∷ answers) (part ∷ came) v last x w k (mid, goes, rest) old rel
      (may, (new, parts, others)) =
      let b = goes_on line ok new v x w old k rel event answer mid part goes may parts in
      run_on events answers came mid last (sees line event (spoken_of answer) x)
      (sees line event part w) new rest b.0 b.1 others

  begins_followed : Follows line line_beginning nothing_seen
  unfolding line_beginning
  begins_followed = record {
    keep = record { each = λ t c place s waits. cc };
    founded = refl;
    waits = λ t c place is. cc;
    tied = λ t. not_under_way line _ None _ (λ y is. cc) (λ s. refl);
  }

  begins_rel : Rel line nothing_seen nothing_seen nothing_known line_beginning.said
  begins_rel = record {
    stretch = λ t y is. absurd (none-some y is);
    start = λ t c f is. is;
    plain = λ t c f is. absurd (none-some f is);
    released = λ s. refl;
    said = λ t c n is. absurd (false_true is);
  }
    where
      false_true : ◌≡◌ {A = Bool} false true → ⊥
      false_true is = cc

  pub received_safe : (events : List Event) (answers : List Answer) (came : List (Option Spoken)) (last : LineState)
      → Run line line_beginning events answers last → AreReceived nothing_known events (map spoken_of answers) came
      → IsSafeByWhatCame line (sees_all line events came nothing_seen)
  received_safe events answers came last h received =
      let r = run_on events answers came line_beginning last nothing_seen nothing_seen nothing_known h
      begins_followed begins_rel received in
      rel_safe line (sees_all line events (map spoken_of answers) nothing_seen) (sees_all line events came nothing_seen)
      r.0 last.said r.1 (run_safe line ok events answers last h)
