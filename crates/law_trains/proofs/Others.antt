-- A message of another train or to another train changes nothing.
use Rattle.std.proofs.Common.{◌≡◌, ℕ, ◌∙◌, ◌∷◌, Option, Some, None, refl, sym, ap, inl, inr}
use Rattle.std.specs.Option.{option_and_then}
use Rattle.law_outside.specs.Outside.{Stretch, View, gets, says, starts, is_told, accepted}
use Rattle.law_trains.proofs.Keeps.{Saids, Tolds, contains_cases, contains_later, IsSaid, IsTold, IsRequest, HasStarted}
use Rattle.law_trains.proofs.Keeps.{IsEarly, Keeps}
use Rattle.law_trains.specs.Trains.{Train}
use Rattle.rbc_spec.proofs.Lists.{put_other}
use Rattle.rbc_spec.specs.Line.{Line}
use Rattle.rbc_spec.specs.Maps.{put}
use Rattle.rbc_spec.specs.Message.{TrainBody, TrainMessage, TrainData, Request, Report, ShorteningGranted}
use Rattle.rbc_spec.specs.Message.{ShorteningRejected, EndOfMission, InitiationOfSession, TerminationOfSession}
use Rattle.rbc_spec.specs.Message.{StartOfMission, SessionEstablished, TrackBody, TrackMessage, Authority}
use Rattle.rbc_spec.specs.Message.{DataAcknowledged, ShorteningRequest, Transition, EndSession, SystemVersion}
use Rattle.rbc_spec.specs.Message.{TerminationAcknowledged, TrainRejected, TrainAccepted}
use Rattle.rbc_spec.specs.Outcome.{Saying}
use Rattle.rbc_spec.specs.World.{Event, centre_of}

-- the lists have the same messages of one train
module _ (line : Line) (t : ℕ) (x : Train) (o : Option Stretch) (first : ℕ → Option Stretch) (said more : Saids)
    (told all : Tolds) (to : (c n : ℕ) (b : TrainBody) → IsSaid line t said c n b → IsSaid line t more c n b)
    (from : (c n : ℕ) (b : TrainBody) → IsSaid line t more c n b → IsSaid line t said c n b)
    (up : (c : ℕ) (m : TrackMessage) → IsTold line t told c m → IsTold line t all c m)
    (down : (c : ℕ) (m : TrackMessage) → IsTold line t all c m → IsTold line t told c m) where
  request_up : (c n e : ℕ) → IsRequest line t told c n e → IsRequest line t all c n e
  request_up c n e r =
      record { m = r.m; l = r.l; told = up c r.m r.told; stamp = r.stamp; body = r.body; end = r.end }

  started_to : (k : ℕ) → HasStarted line t said k → HasStarted line t more k
  started_to k s = record {
    centre = s.centre;
    stamp = s.stamp;
    is_valid = s.is_valid;
    position = s.position;
    is = to s.centre s.stamp (StartOfMission s.is_valid s.position) s.is;
    le = s.le;
  }

  early_to : (n : ℕ) → IsEarly line t said n → IsEarly line t more n
  early_to n early c k is_valid position sent = early c k is_valid position
      (from c k (StartOfMission is_valid position) sent)

  pub same_lists : Keeps line t x o first said told → Keeps line t x o first more all
  same_lists h = record {
    honest = record {
      clock = λ c n b sent. h.honest.clock c n b (from c n b sent);
      gave = λ c n b sent. h.honest.gave c n b (from c n b sent);
      length = h.honest.length;
      started = λ c n is_valid position sent. h.honest.started c n is_valid position
          (from c n (StartOfMission is_valid position) sent);
      past = λ c n b position place sent. h.honest.past c n b position place (from c n b sent);
    };
    none = λ is. let was = h.none is in record {
      end = was.end;
      front = λ c n is_valid position place sent. was.front c n is_valid position place
          (from c n (StartOfMission is_valid position) sent);
      none_told = λ c m l sent. was.none_told c m l (down c m sent);
    };
    some = λ z is. let u = h.some z is in record {
      within = u.within;
      ends = u.ends;
      started = started_to z.since u.started;
      fresh = λ c m k l s sent body acknowledged names lt.
          let f = u.fresh c m k l s (down c m sent) body (down c k acknowledged) names lt in record {
            since = f.since;
            end = λ gave. f.end (λ d n b is. gave d n b (to d n b is));
          };
      asked = record {
        named = λ a asks. request_up a.centre a.stamp a.end (u.asked.named a asks);
        only = λ a asks m l e sent. u.asked.only a asks m l e (down a.centre m sent);
      };
    };
    granted = λ c n stamp position sent live. elim
        (h.granted c n stamp position (from c n (ShorteningGranted stamp position) sent) live) [
          | inl early ↦ inl (early_to n early)
          | inr g ↦ inr (record {
            end = g.end;
            request = request_up c stamp g.end g.request;
            front = g.front;
            ends = g.ends;
          })
        ];
    ended = λ c n position sent still live. elim
        (h.ended c n position (from c n (EndOfMission position) sent) still live) [
          | inl early ↦ inl (early_to n early)
          | inr g ↦ inr g
        ];
    begun = λ c q is. let b = h.begun c q is in record {
      track = b.track;
      rear = b.rear;
      front = b.front;
      asked = b.asked;
      started = started_to q.since b.started;
    };
    follows = λ f is. let q = h.follows f is in record {
      m = q.m;
      s = q.s;
      told = up f.centre q.m q.told;
      stamp = q.stamp;
      body = q.body;
      after = q.after;
    };
    asked = λ c a is. request_up c a.stamp a.end (h.asked c a is);
  }

module _ (line : Line) (u : ℕ) (x : Train) (o : Option Stretch) (first : ℕ → Option Stretch) (said : Saids)
    (told : Tolds) (h : Keeps line u x o first said told) where
  -- another train is sent a message
  pub told_other : (c : ℕ) (p : Saying) → (u ≡ p.nid_engine → ⊥) → Keeps line u x o first said ((c, p) ∷ told)
  told_other c p apart = same_lists line u x o first said said told ((c, p) ∷ told) (λ d n b sent. sent)
      (λ d n b sent. sent)
      (λ d m sent. contains_later (c, p) (d, record { nid_engine = u; message = m }) told sent)
      (λ d m sent. elim (contains_cases (c, p) (d, record { nid_engine = u; message = m }) told sent) [
        | inl same ↦ absurd (apart (ap (λ (q : ℕ × Saying). q.1.nid_engine) (sym same)))
        | inr old ↦ old
      ]) h

  -- another train sends a message
  pub said_other : (c : ℕ) (m : TrainMessage) → (u ≡ m.nid_engine → ⊥) → Keeps line u x o first ((c, m) ∷ said) told
  said_other c m apart = same_lists line u x o first said ((c, m) ∷ said) told told
      (λ d n b sent. contains_later (c, m) (d, record { t_train = n; nid_engine = u; body = b }) said sent)
      (λ d n b sent. elim
      (contains_cases (c, m) (d, record { t_train = n; nid_engine = u; body = b }) said sent) [
        | inl same ↦ absurd (apart (ap (λ (q : ℕ × TrainMessage). q.1.nid_engine) (sym same)))
        | inr old ↦ old
      ])
      (λ d k sent. sent) (λ d k sent. sent) h

-- ## The view of other trains

pub record IsSame (u : ℕ) (y w : View) : Type 0 where
  pub stretch : w.stretch u ≡ y.stretch u
  pub start : w.start u ≡ y.start u

starts_other : (u t c : ℕ) (o : Option Stretch) (y : View) → (u ≡ t → ⊥) → IsSame u y (starts t c o y)
starts_other u t c o y apart =
    record { stretch = refl; start = put_other y.start t u (put (y.start t) c o) apart }

gets_other : (u t : ℕ) (o : Option Stretch) (y : View) → (u ≡ t → ⊥) → IsSame u y (gets t o y)
gets_other u t None y apart = record { stretch = refl; start = refl }
gets_other u t (Some z) y apart = record { stretch = put_other y.stretch t u (Some z) apart; start = refl }

unchanged : (u : ℕ) (y : View) → IsSame u y y
unchanged u y = record { stretch = refl; start = refl }

pub told_apart : (line : Line) (u : ℕ) (event : Event) (p : Saying) (body : TrackBody) (y : View)
    → (u ≡ p.nid_engine → ⊥) → IsSame u y (is_told line event p body y)
told_apart line u event p (Authority l) y apart = gets_other u p.nid_engine _ y apart
told_apart line u event p (ShorteningRequest l) y apart = gets_other u p.nid_engine _ y apart
told_apart line u event p TrainRejected y apart = starts_other u p.nid_engine (centre_of event) None y apart
told_apart line u event p TrainAccepted y apart =
    let one = starts_other u p.nid_engine (centre_of event) None y apart in
    let two = gets_other u p.nid_engine
    (option_and_then (accepted (y.stretch p.nid_engine)) (y.start p.nid_engine (centre_of event)))
    (starts p.nid_engine (centre_of event) None y) apart in
    record { stretch = two.stretch ∙ one.stretch; start = two.start ∙ one.start }
told_apart line u event p (DataAcknowledged s) y apart = unchanged u y
told_apart line u event p (Transition d a b) y apart = unchanged u y
told_apart line u event p (EndSession a b) y apart = unchanged u y
told_apart line u event p SystemVersion y apart = unchanged u y
told_apart line u event p TerminationAcknowledged y apart = unchanged u y

pub said_apart : (line : Line) (u c : ℕ) (m : TrainMessage) (body : TrainBody) (y : View) → (u ≡ m.nid_engine → ⊥)
    → IsSame u y (says line c m body y)
said_apart line u c m (StartOfMission is_valid position) y apart = starts_other u m.nid_engine c _ y apart
said_apart line u c m InitiationOfSession y apart = starts_other u m.nid_engine c None y apart
said_apart line u c m TerminationOfSession y apart = starts_other u m.nid_engine c None y apart
said_apart line u c m (TrainData position) y apart =
    record { stretch = put_other y.stretch m.nid_engine u _ apart; start = refl }
said_apart line u c m (Request position) y apart =
    record { stretch = put_other y.stretch m.nid_engine u _ apart; start = refl }
said_apart line u c m (Report position) y apart =
    record { stretch = put_other y.stretch m.nid_engine u _ apart; start = refl }
said_apart line u c m (ShorteningGranted stamp position) y apart =
    record { stretch = put_other y.stretch m.nid_engine u _ apart; start = refl }
said_apart line u c m (ShorteningRejected stamp position) y apart =
    record { stretch = put_other y.stretch m.nid_engine u _ apart; start = refl }
said_apart line u c m (EndOfMission position) y apart =
    record { stretch = put_other y.stretch m.nid_engine u _ apart; start = refl }
said_apart line u c m SessionEstablished y apart =
    record { stretch = put_other y.stretch m.nid_engine u _ apart; start = refl }
