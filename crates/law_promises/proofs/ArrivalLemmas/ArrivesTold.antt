-- Trains and the messages that they receive.
use Rattle.std.proofs.Common.{[], ◌*◌, ◌==◌, ◌∙◌, ◌∷◌, ◌≡◌, ap, arith, Bool, Err, false, if◌then◌else◌, inl, inr}
use Rattle.std.proofs.Common.{int_lt, List, max, None, Ok, Option, option_map, pos, refl, Some, subst, sym, true, ℕ}
use Rattle.std.proofs.lemmas.Bool.{both_ways}
use Rattle.std.proofs.lemmas.Bool.Decides.{eqb_tells}
use Rattle.std.proofs.lemmas.Option.{none-some, same_Some}
use Rattle.law_base.proofs.PiecesLemmas.Waits.{elsewhere, put_at, PutAt, there}
use Rattle.law_outside.specs.Outside as outside
use Rattle.law_outside.specs.Outside.{accepted, after_message, all_told, gets, is_told, said_by, sees, Shortening}
use Rattle.law_outside.specs.Outside.{Spoken, starts, Stretch, View}
use Rattle.law_promises.proofs.ArrivalLemmas.Arrives.{Lies, lies_itself, message_both}
use Rattle.law_promises.proofs.Marks.{if_true}
use Rattle.law_promises.proofs.Released.{all_same}
use Rattle.law_promises.proofs.Spans.{lt_up, rear_later, rear_other}
use Rattle.law_promises.specs.Arrival.Arrival.{GrantsWhatCame}
use Rattle.rbc_spec.proofs.Lists.{put_here, put_other}
use Rattle.rbc_spec.specs.Line.{end, Line, start}
use Rattle.rbc_spec.specs.Maps.{put, put_pair}
use Rattle.rbc_spec.specs.Message.{Authority, DataAcknowledged, EndOfMission, EndSession, InitiationOfSession, Report}
use Rattle.rbc_spec.specs.Message.{Request, SessionEstablished, ShorteningGranted, ShorteningRejected}
use Rattle.rbc_spec.specs.Message.{ShorteningRequest, StartOfMission, SystemVersion, TerminationAcknowledged}
use Rattle.rbc_spec.specs.Message.{TerminationOfSession, TrackBody, TrainAccepted, TrainBody, TrainData, TrainMessage}
use Rattle.rbc_spec.specs.Message.{TrainRejected, Transition}
use Rattle.rbc_spec.specs.Outcome.{Saying}
use Rattle.rbc_spec.specs.Place.{Position}
use Rattle.rbc_spec.specs.World.{Bytes, centre_of, Delivery, Event, Set, Unset}

-- ## Messages to a train

pub hull : Stretch → Stretch → Stretch
hull x f =
    record f {
      rear = if int_lt x.rear f.rear then x.rear else f.rear;
      end = max x.end f.end;
      since = max x.since f.since;
    }

pub start_in_hull : (x f : Stretch) → Lies f (hull x f)
unfolding hull
start_in_hull x f =
    record { track = refl; end = (omega arith); since = (omega arith); past = by_rear (int_lt x.rear f.rear) refl }
  where
    by_rear : (b : Bool) → int_lt x.rear f.rear ≡ b → (n : ℕ) → int_lt f.rear (pos n) ≡ true
        → int_lt (if b then x.rear else f.rear) (pos n) ≡ true
    by_rear true is n past = rear_later x.rear f.rear n is past
    by_rear false is n past = past

hull_both : (y x f : Stretch) → Lies y x → Lies (hull y f) (hull x f)
unfolding hull
hull_both y x f lies = record {
  track = refl;
  end = (let le = lies.end in omega (arith, le));
  since = (let le = lies.since in omega (arith, le));
  past = by_rears (int_lt y.rear f.rear) (int_lt x.rear f.rear) refl refl;
}
  where
    by_rears : (a b : Bool) → int_lt y.rear f.rear ≡ a → int_lt x.rear f.rear ≡ b → (n : ℕ)
        → int_lt (if a then y.rear else f.rear) (pos n) ≡ true → int_lt (if b then x.rear else f.rear) (pos n) ≡ true
    by_rears true true one two n past = lies.past n past
    by_rears true false one two n past = rear_other x.rear f.rear n two (lies.past n past)
    by_rears false true one two n past = rear_later x.rear f.rear n two past
    by_rears false false one two n past = past

-- a stretch that has run out is not more than one that has not
pub runs_both : (y x : Stretch) → Lies y x → int_lt y.rear (pos (10 * y.end)) ≡ true
    → int_lt x.rear (pos (10 * x.end)) ≡ true
runs_both y x lies runs = let le = lies.end in
    lt_up x.rear (10 * y.end) (10 * x.end) (omega (arith, le)) (lies.past (10 * y.end) runs)

pub accepted_both : (o : Option Stretch) (x : Option Stretch) (f z : Stretch)
    → ((y : Stretch) → o ≡ Some y → (x' : Stretch) × (x ≡ Some x') × Lies y x') → accepted x f ≡ Some z → (y : Stretch)
    × (accepted o f ≡ Some y) × Lies y z
unfolding hull
accepted_both None None f z within is = (f, refl, subst (Lies f) (same_Some f z is) (lies_itself f))
accepted_both None (Some x) f z within is =
    (f, refl, by_runs (int_lt x.rear (pos (10 * x.end))) (x.track == f.track) is)
  where
    by_runs : (b t : Bool) → (if b then (if t then Some (hull x f) else None) else Some f) ≡ Some z → Lies f z
    by_runs true true so = subst (Lies f) (same_Some (hull x f) z so) (start_in_hull x f)
    by_runs true false so = absurd (none-some z so)
    by_runs false t so = subst (Lies f) (same_Some f z so) (lies_itself f)
accepted_both (Some y) None f z within is = let w = within y refl in absurd (none-some w.0 w.1)
accepted_both (Some y) (Some x) f z within is =
    by_runs (int_lt y.rear (pos (10 * y.end))) (int_lt x.rear (pos (10 * x.end))) (x.track == f.track) refl refl refl is
  where
    lies : Lies y x
    lies = let w = within y refl in subst (Lies y) (sym (same_Some x w.0 w.1)) w.2

    by_runs : (a b t : Bool) → int_lt y.rear (pos (10 * y.end)) ≡ a → int_lt x.rear (pos (10 * x.end)) ≡ b
        → (x.track == f.track) ≡ t → (if b then (if t then Some (hull x f) else None) else Some f) ≡ Some z
        → (k : Stretch) × ((if a then (if y.track == f.track then Some (hull y f) else None) else Some f) ≡ Some k)
        × Lies k z
    by_runs true true true one two on so = (
      hull y f,
      if_true (y.track == f.track) (Some (hull y f)) None
          (subst (λ (k : ℕ). (k == f.track) ≡ true) (sym lies.track) on),
      subst (Lies (hull y f)) (same_Some (hull x f) z so) (hull_both y x f lies),
    )
    by_runs a true false one two on so = absurd (none-some z so)
    by_runs true false t one two on so =
        absurd (both_ways (int_lt x.rear (pos (10 * x.end))) two (runs_both y x lies one))
    by_runs false true true one two on so = (f, refl, subst (Lies f) (same_Some (hull x f) z so) (start_in_hull x f))
    by_runs false false t one two on so = (f, refl, subst (Lies f) (same_Some f z so) (lies_itself f))

-- ## The two views

-- the stretch by the messages that arrived is within the one by all messages
pub record Within (v w : View) : Type 0 where
  pub stretch : (t : ℕ) (y : Stretch) → w.stretch t ≡ Some y → (x : Stretch) × (v.stretch t ≡ Some x) × Lies y x
  pub start : (t c : ℕ) (f : Stretch) → v.start t c ≡ Some f → w.start t c ≡ Some f
  pub released : (s : ℕ) → w.released s ≡ v.released s

module _ (v w : View) (old : Within v w) where
  pub within_stray : Within v (record w { stray = true })
  within_stray = record { stretch = old.stretch; start = old.start; released = old.released }

  pub within_put : (t : ℕ) (ox ow : Option Stretch)
      → ((y : Stretch) → ow ≡ Some y → (x : Stretch) × (ox ≡ Some x) × Lies y x)
      → Within (record v { stretch = put v.stretch t ox }) (record w { stretch = put w.stretch t ow })
  within_put t ox ow lies = record {
    stretch = λ u y is. elim (eqb_tells u t) [
      | inl h ↦ let r = lies y (sym (put_here w.stretch t u ow (h.1)) ∙ is) in
          (r.0, put_here v.stretch t u ox (h.1) ∙ r.1, r.2)
      | inr h ↦ let r = old.stretch u y (sym (put_other w.stretch t u ow (h.1)) ∙ is) in
          (r.0, put_other v.stretch t u ox (h.1) ∙ r.1, r.2)
    ];
    start = old.start;
    released = old.released;
  }

  -- one train is sent more, and none of it arrives
  pub within_more : (t : ℕ) (x : Stretch) → ((y : Stretch) → w.stretch t ≡ Some y → Lies y x)
      → Within (record v { stretch = put v.stretch t (Some x) }) w
  within_more t x lies = record {
    stretch = λ u y is. elim (eqb_tells u t) [
      | inl h ↦ (x, put_here v.stretch t u (Some x) (h.1), lies y (sym (ap w.stretch (h.1)) ∙ is))
      | inr h ↦ let r = old.stretch u y is in (r.0, put_other v.stretch t u (Some x) (h.1) ∙ r.1, r.2)
    ];
    start = old.start;
    released = old.released;
  }

  pub within_start : (t c : ℕ) (o : Option Stretch) → Within (starts t c o v) (starts t c o w)
  within_start t c o =
      record {
        stretch = old.stretch;
        start = λ u d f is. by_pair u d f (put_at v.start t c o u d)
            (put_at w.start t c o u d) is;
        released = old.released;
      }
    where
      by_pair : (u d : ℕ) (f : Stretch) → PutAt v.start t c o u d → PutAt w.start t c o u d
          → put_pair v.start t c o u d ≡ Some f → put_pair w.start t c o u d ≡ Some f
      by_pair u d f (there a b one) (there a2 b2 two) is = two ∙ sym one ∙ is
      by_pair u d f (there a b one) (elsewhere apart two) is = absurd (apart a b)
      by_pair u d f (elsewhere apart one) (there a b two) is = absurd (apart a b)
      by_pair u d f (elsewhere apart one) (elsewhere apart2 two) is = two ∙ old.start u d f (sym one ∙ is)

  -- a rejection does not arrive
  pub within_ended : (t c : ℕ) → Within (starts t c None v) w
  within_ended t c =
      record {
        stretch = old.stretch;
        start = λ u d f is. by_pair u d f (put_at v.start t c None u d) is;
        released = old.released;
      }
    where
      by_pair : (u d : ℕ) (f : Stretch) → PutAt v.start t c None u d → put_pair v.start t c None u d ≡ Some f
          → w.start u d ≡ Some f
      by_pair u d f (there a b one) is = absurd (none-some f (sym one ∙ is))
      by_pair u d f (elsewhere apart one) is = old.start u d f (sym one ∙ is)

-- ## Messages of trains

module _ (line : Line) (c : ℕ) (m : TrainMessage) (v w : View) (old : Within v w) where
  abbrev Grants : TrainBody → Type 0
  Grants body = (position : Position) (x y : Stretch) (a : Shortening)
      → body ≡ ShorteningGranted a.stamp position → a.centre ≡ c
      → v.stretch m.nid_engine ≡ Some x → w.stretch m.nid_engine ≡ Some y → x.asked ≡ Some a → y.asked ≡ Some a

  message_within : (body : TrainBody) → Grants body
      → Within (record v {
        stretch = put v.stretch m.nid_engine
            (option_map (after_message line c m.t_train body) (v.stretch m.nid_engine));
      })
      (record w {
        stretch = put w.stretch m.nid_engine
            (option_map (after_message line c m.t_train body) (w.stretch m.nid_engine));
      })
  message_within body grants = within_put v w old m.nid_engine (option_map after (v.stretch m.nid_engine))
      (option_map after (w.stretch m.nid_engine)) (by_came (w.stretch m.nid_engine) refl)
    where
      after : Stretch → Stretch
      after = after_message line c m.t_train body

      by_came : (o : Option Stretch) → w.stretch m.nid_engine ≡ o → (y : Stretch) → option_map after o ≡ Some y
          → (x : Stretch) × (option_map after (v.stretch m.nid_engine) ≡ Some x) × Lies y x
      by_came None at y is = absurd (none-some y is)
      by_came (Some k) at y is =
          let r = old.stretch m.nid_engine k at in (
            after r.0,
            ap (option_map after) r.1,
            subst (λ (z : Stretch). Lies z (after r.0)) (same_Some (after k) y is)
                (message_both line c k r.0 r.2 m.t_train body
                (λ stamp position a so names centre asked. grants position r.0 k a (so
                ∙ ap (λ (n : ℕ). ShorteningGranted n position) (sym names)) centre r.1 at asked)),
          )

  says_within : (body : TrainBody) → Grants body → Within (outside.says line c m body v) (outside.says line c m body w)
  says_within (StartOfMission is_valid position) grants = within_start v w old m.nid_engine c _
  says_within InitiationOfSession grants = within_start v w old m.nid_engine c None
  says_within TerminationOfSession grants = within_start v w old m.nid_engine c None
  says_within SessionEstablished grants = message_within SessionEstablished grants
  says_within (TrainData position) grants = message_within (TrainData position) grants
  says_within (Request position) grants = message_within (Request position) grants
  says_within (Report position) grants = message_within (Report position) grants
  says_within (ShorteningGranted stamp position) grants = message_within (ShorteningGranted stamp position) grants
  says_within (ShorteningRejected stamp position) grants = message_within (ShorteningRejected stamp position) grants
  says_within (EndOfMission position) grants = message_within (EndOfMission position) grants

pub said_within : (line : Line) (event : Event) (b : Bool) (v w : View) → Within v w → GrantsWhatCame event v w
    → Within (said_by line event b v) (said_by line event b w)
said_within line (Bytes c (Ok m)) true v w old grants = says_within line c m v w old m.body grants
said_within line (Bytes c (Ok m)) false v w old grants = old
said_within line (Bytes c (Err number)) b v w old grants = old
said_within line (Set c s) b v w old grants = old
said_within line (Unset c s) b v w old grants = old
said_within line (Delivery from to number) b v w old grants = old

-- ## Messages that cannot be placed

pub true_false : {P : Type 0} → ◌≡◌ {A = Bool} true false → P
true_false is = cc

gets_stray : (t : ℕ) (o : Option Stretch) (v : View) → (gets t o v).stray ≡ false → v.stray ≡ false
gets_stray t None v is = true_false is
gets_stray t (Some x) v is = is

told_stray : (line : Line) (event : Event) (p : Saying) (body : TrackBody) (v : View)
    → (is_told line event p body v).stray ≡ false → v.stray ≡ false
told_stray line event p (Authority l) v is = gets_stray p.nid_engine _ v is
told_stray line event p (DataAcknowledged stamp) v is = is
told_stray line event p (ShorteningRequest l) v is = gets_stray p.nid_engine _ v is
told_stray line event p (Transition d n r) v is = is
told_stray line event p (EndSession n r) v is = is
told_stray line event p SystemVersion v is = is
told_stray line event p TerminationAcknowledged v is = is
told_stray line event p TrainRejected v is = is
told_stray line event p TrainAccepted v is = gets_stray p.nid_engine _ (starts p.nid_engine (centre_of event) None v) is

pub all_stray : (line : Line) (event : Event) (ps : List Saying) (v : View)
    → (all_told line event ps v).stray ≡ false → v.stray ≡ false
all_stray line event [] v is = is
all_stray line event (p ∷ ps) v is = told_stray line event p p.message.body v
    (all_stray line event ps (is_told line event p p.message.body v) is)

says_stray : (line : Line) (c : ℕ) (m : TrainMessage) (body : TrainBody) (v : View)
    → (outside.says line c m body v).stray ≡ v.stray
says_stray line c m (StartOfMission is_valid position) v = refl
says_stray line c m InitiationOfSession v = refl
says_stray line c m TerminationOfSession v = refl
says_stray line c m SessionEstablished v = refl
says_stray line c m (TrainData position) v = refl
says_stray line c m (Request position) v = refl
says_stray line c m (Report position) v = refl
says_stray line c m (ShorteningGranted stamp position) v = refl
says_stray line c m (ShorteningRejected stamp position) v = refl
says_stray line c m (EndOfMission position) v = refl

said_stray : (line : Line) (event : Event) (b : Bool) (v : View) → (said_by line event b v).stray ≡ v.stray
said_stray line (Bytes c (Ok m)) true v = says_stray line c m m.body v
said_stray line (Bytes c (Ok m)) false v = refl
said_stray line (Bytes c (Err number)) b v = refl
said_stray line (Set c s) b v = refl
said_stray line (Unset c s) b v = refl
said_stray line (Delivery from to number) b v = refl

pub sees_stray : (line : Line) (event : Event) (spoken : Option Spoken) (v : View)
    → (sees line event spoken v).stray ≡ false → v.stray ≡ false
sees_stray line event None v is = is
sees_stray line event (Some o) v is =
    sym (said_stray line event o.is_heard v)
    ∙ all_stray line event o.sayings (said_by line event o.is_heard v)
    (sym (all_same event o.words (all_told line event o.sayings (said_by line event o.is_heard v))).stray ∙ is)
