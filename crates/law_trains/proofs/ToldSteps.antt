-- A message to a train, as it is seen from outside.
use Rattle.std.proofs.Common.{◌≡◌, ℕ, ◌*◌, ◌<◌, ◌≤◌, ◌==◌, ◌∙◌, Bool, true, false, if◌then◌else◌, max, Option, Some}
use Rattle.std.proofs.Common.{None, option_map, pos, int_lt, int_le, refl, sym, ap, subst, inl, inr, arith}
use Rattle.std.specs.Option.{option_and_then}
use Rattle.law_base.proofs.PiecesLemmas.Waits.{elsewhere, put_at, PutAt, there}
use Rattle.law_outside.specs.Outside.{Stretch, View, gets, starts, is_told, accepted, extended, asked_for, metres_from}
use Rattle.law_outside.specs.Outside.{stamp_of}
use Rattle.law_promises.proofs.Marks.{if_true}
use Rattle.law_trains.proofs.Keeps.{Saids, Tolds, IsTold, IsAsked, UnderWay, HasBegun, Keeps}
use Rattle.law_trains.proofs.Told.{ends_same, saying, more, cases, asked_none, asked_new, under_more, to_under}
use Rattle.law_trains.proofs.Told.{keeps_more}
use Rattle.law_trains.proofs.Within.{rear_after, rear_up, rear_itself, not_less}
use Rattle.law_trains.specs.Trains.{Train, end_from}
use Rattle.rbc_spec.proofs.Lists.{put_there}
use Rattle.rbc_spec.specs.Line.{Line}
use Rattle.rbc_spec.specs.Maps.{put, put_pair}
use Rattle.rbc_spec.specs.Message.{TrackBody, TrackMessage, Authority, DataAcknowledged, ShorteningRequest, Transition}
use Rattle.rbc_spec.specs.Message.{EndSession, SystemVersion, TerminationAcknowledged, TrainRejected, TrainAccepted}
use Rattle.rbc_spec.specs.World.{Event, centre_of}

-- fewer starts wait
pub start_less : (line : Line) (t : ℕ) (x : Train) (o : Option Stretch) (first second : ℕ
    → Option Stretch) (said : Saids)
    (told : Tolds) → ((d : ℕ) (q : Stretch) → second d ≡ Some q → first d ≡ Some q) → Keeps line t x o first said told
    → Keeps line t x o second said told
start_less line t x o first second said told less h = record {
  honest = h.honest;
  none = h.none;
  some = h.some;
  granted = h.granted;
  ended = h.ended;
  begun = λ d q is. h.begun d q (less d q is);
  follows = h.follows;
  asked = h.asked;
}

pub put_none : (f : ℕ → ℕ → Option Stretch) (t c d : ℕ) (q : Stretch) → put_pair f t c None t d ≡ Some q
    → f t d ≡ Some q
put_none f t c d q is = by_pair (put_at f t c None t d)
  where
    by_pair : PutAt f t c None t d → f t d ≡ Some q
    by_pair (there a b one) = let wrong : None ≡ Some q = sym one ∙ is in cc
    by_pair (elsewhere apart one) = sym one ∙ is

module _ (line : Line) (t : ℕ) (x : Train) (said : Saids) (told : Tolds) (event : Event) (m : TrackMessage)
    (newest : (k : TrackMessage) → IsTold line t told (centre_of event) k → k.t_train < m.t_train) (y : View)
    (h : Keeps line t x (y.stretch t) (y.start t) said told) where
  abbrev c : ℕ
  c = centre_of event

  abbrev now : Tolds
  now = more line t x said told c m

  -- this is the train's stretch from then on
  placed : (z : Stretch) (first : ℕ → Option Stretch) → Keeps line t x (Some z) first said now
      → Keeps line t x (put y.stretch t (Some z) t) first said now
  placed z first = subst (λ (o : Option Stretch). Keeps line t x o first said now) (sym (put_there y.stretch t
      (Some z)))

  since_up : (o : Option Stretch) (z w : Stretch) → o ≡ Some z → z.since ≤ w.since → (q : Stretch) → o ≡ Some q
      → q.since ≤ w.since
  since_up o z w is le q at = let same : Some z ≡ Some q = sym is ∙ at in
      let one : z.since ≡ q.since = cc in omega (arith, one, le)

  abbrev after : Option Stretch → View
  after o = gets t o y

  abbrev Then : Option Stretch → Type 0
  Then o = (after o).stray ≡ false → Keeps line t x ((after o).stretch t) ((after o).start t) said now

  abbrev asked : Stretch → ℕ → Stretch
  asked z e = record z { asked = Some (record { centre = c; stamp = m.t_train; end = e }) }

  abbrev longer : Stretch → (n e : ℕ) → Stretch
  longer z n e = record z { end = max z.end e; since = max z.since n; asked = None }

  -- ## An authority

  module _ (l : ℕ) (body : m.body ≡ Authority l)
      (in_time : (n : ℕ) → stamp_of event t ≡ Some n → (k : TrackMessage) (s : ℕ) → IsTold line t told c k
      → k.body ≡ DataAcknowledged s → s < n) where
    authority_there : (z : Stretch) (n e : ℕ) → y.stretch t ≡ Some z → stamp_of event t ≡ Some n
        → metres_from line m.nid_lrbg l z ≡ Some e → Keeps line t x
        (Some (longer z n e)) (y.start t) said now
    authority_there z n e at stamp end =
        let w : Stretch = longer z n e in
        to_under line t x said told c m newest (y.stretch t) (y.start t) w
        (under_more line t x said told c m newest z w (h.some z at) refl (omega arith) (rear_itself z.rear)
        (omega arith) (asked_none line t x said told c m now)
        (λ j is k s sent acknowledged. record {
          since = (let lt = in_time n stamp k s sent acknowledged in omega (arith, lt));
          end = λ gave f ends.
              let same : Authority j ≡ Authority l = sym is ∙ body in
              let one : j ≡ l = cc in
              let two : Some f ≡ Some e =
              sym ends ∙ ap (λ (i : ℕ). end_from line m.nid_lrbg i) one
              ∙ ends_same line m.nid_lrbg l e z end in
              let three : f ≡ e = cc in omega (arith, three);
        }))
        (since_up (y.stretch t) z w at (omega arith)) h

    pub authority_told : (is_told line event (saying line t x said told c m) (Authority l) y).stray ≡ false
        → Keeps line t x ((is_told line event (saying line t x said told c m) (Authority l) y).stretch t)
        ((is_told line event (saying line t x said told c m) (Authority l) y).start t) said now
    authority_told founded = by_stretch (y.stretch t) refl founded
      where
        by_end : (z : Stretch) (n : ℕ) → y.stretch t ≡ Some z → stamp_of event t ≡ Some n → (o : Option ℕ)
            → metres_from line m.nid_lrbg l z ≡ o → Then (option_map (longer z n) o)
        by_end z n at stamp None is founded = cc
        by_end z n at stamp (Some e) is founded =
            placed (longer z n e) (y.start t) (authority_there z n e at stamp is)

        by_stamp : (z : Stretch) → y.stretch t ≡ Some z → (o : Option ℕ) → stamp_of event t ≡ o
            → Then (option_and_then (λ n. option_map (longer z n) (metres_from line m.nid_lrbg l z)) o)
        by_stamp z at None is founded = cc
        by_stamp z at (Some n) is founded = by_end z n at is (metres_from line m.nid_lrbg l z) refl founded

        by_stretch : (o : Option Stretch) → y.stretch t ≡ o
            → Then (option_and_then (extended line event t m.nid_lrbg l) o)
        by_stretch None at founded = cc
        by_stretch (Some z) at founded = by_stamp z at (stamp_of event t) refl founded

  -- ## A request to shorten

  pub request_told : (l : ℕ) → m.body ≡ ShorteningRequest l
      → (is_told line event (saying line t x said told c m) (ShorteningRequest l) y).stray ≡ false
      → Keeps line t x ((is_told line event (saying line t x said told c m) (ShorteningRequest l) y).stretch t)
      ((is_told line event (saying line t x said told c m) (ShorteningRequest l) y).start t) said now
  request_told l body founded = by_stretch (y.stretch t) refl founded
    where
      by_end : (z : Stretch) → y.stretch t ≡ Some z → (o : Option ℕ) → metres_from line m.nid_lrbg l z ≡ o
          → Then (option_map (asked z) o)
      by_end z at None is founded = cc
      by_end z at (Some e) is founded = placed (asked z e) (y.start t)
          (to_under line t x said told c m newest (y.stretch t) (y.start t) (asked z e)
          (under_more line t x said told c m newest z (asked z e) (h.some z at) refl (omega arith)
          (rear_itself z.rear) (omega arith)
          (asked_new line t x said told c m newest l e body (ends_same line m.nid_lrbg l e z is))
          (λ j is. let wrong : Authority j ≡ ShorteningRequest l = sym is ∙ body in cc))
          (since_up (y.stretch t) z (asked z e) at (omega arith)) h)

      by_stretch : (o : Option Stretch) → y.stretch t ≡ o
          → Then (option_and_then (asked_for line c m.t_train m.nid_lrbg l) o)
      by_stretch None at founded = cc
      by_stretch (Some z) at founded = by_end z at (metres_from line m.nid_lrbg l z) refl founded

  -- ## A start

  -- the train has no stretch yet
  first_accepted : m.body ≡ TrainAccepted → (b : Stretch) → y.stretch t ≡ None → HasBegun line t x (y.stretch t) b said
      → UnderWay line t x b said now
  first_accepted body b none at = record {
    within = record { track = at.track; front = at.front none; rear = at.rear };
    ends = λ e is. let wrong : None ≡ Some e = sym (h.none none).end ∙ is in cc;
    started = at.started;
    fresh = λ d j k l s sent is acknowledged names before. elim (cases line t x said told c m d j sent) [
      | inl new ↦
          let wrong : Authority l ≡ TrainAccepted = sym is ∙ ap (λ (q : TrackMessage). q.body) new.1 ∙ body in cc
      | inr old ↦ absurd ((h.none none).none_told d j l old is)
    ];
    asked = subst (λ (o : Option _). IsAsked line t o now) (sym at.asked) (asked_none line t x said told c m now);
  }

  -- it has one, and goes on
  abbrev hull : (b z : Stretch) → Stretch
  hull b z = record b {
    rear = if int_lt z.rear b.rear then z.rear else b.rear;
    end = max z.end b.end;
    since = max z.since b.since;
  }

  again_accepted : m.body ≡ TrainAccepted → (b z : Stretch) → y.stretch t ≡ Some z
      → HasBegun line t x (y.stretch t) b said → UnderWay line t x
      (hull b z) said now
  again_accepted body b z at begun =
      let u = h.some z at in
      under_more line t x said told c m newest z
      (hull b z) u (begun.track ∙ sym u.within.track) (omega arith) (rear_less (int_lt z.rear b.rear) refl)
      (omega arith)
      (subst (λ (o : Option _). IsAsked line t o now) (sym begun.asked) (asked_none line t x said told c m now))
      (λ l is. let wrong : Authority l ≡ TrainAccepted = sym is ∙ body in cc)
    where
      rear_less : (a : Bool) → int_lt z.rear b.rear ≡ a → int_le (if a then z.rear else b.rear) z.rear ≡ true
      rear_less true is = rear_itself z.rear
      rear_less false is = not_less z.rear b.rear is

  -- a stretch that has a train in it is not empty
  not_empty : (z : Stretch) → y.stretch t ≡ Some z → int_lt z.rear (pos (10 * z.end)) ≡ true
  not_empty z at = let w = (h.some z at).within in
      rear_up z.rear x.front (10 * z.end) w.front (rear_after z.rear x.rear x.front w.rear h.honest.length)

  abbrev waits_less : ℕ → Option Stretch
  waits_less = put_pair y.start t c None t

  less : Keeps line t x (y.stretch t) waits_less said told
  less = start_less line t x (y.stretch t) (y.start t) waits_less said told (put_none y.start t c) h

  abbrev Accepted : Option Stretch → Type 0
  Accepted o = (gets t o (starts t c None y)).stray ≡ false
      → Keeps line t x ((gets t o (starts t c None y)).stretch t) ((gets t o (starts t c None y)).start t) said now

  pub accepted_told : m.body ≡ TrainAccepted
      → Accepted (option_and_then (accepted (y.stretch t)) (y.start t c))
  accepted_told body = by_start (y.start t c) refl
    where
      by_track : (b z : Stretch) → y.stretch t ≡ Some z → HasBegun line t x (y.stretch t) b said → (a : Bool)
          → Accepted (if a then Some (hull b z) else None)
      by_track b z at begun true founded = placed (hull b z) waits_less
          (to_under line t x said told c m newest (y.stretch t) waits_less (hull b z) (again_accepted body b z at begun)
          (since_up (y.stretch t) z (hull b z) at (omega arith)) less)
      by_track b z at begun false founded = cc

      by_stretch : (b : Stretch) → HasBegun line t x (y.stretch t) b said → (o : Option Stretch) → y.stretch t ≡ o
          → Accepted (accepted o b)
      by_stretch b begun None at = λ founded. placed b waits_less
          (to_under line t x said told c m newest (y.stretch t) waits_less b (first_accepted body b at begun)
          (λ q is. let wrong : None ≡ Some q = sym at ∙ is in cc) less)
      by_stretch b begun (Some z) at = subst Accepted
          (sym (if_true (int_lt z.rear (pos (10 * z.end))) _ (Some b) (not_empty z at)))
          (by_track b z at begun (z.track == b.track))

      by_start : (o : Option Stretch) → y.start t c ≡ o → Accepted (option_and_then (accepted (y.stretch t)) o)
      by_start None is = λ founded. cc
      by_start (Some b) is = by_stretch b (h.begun c b is) (y.stretch t) refl

  -- ## All messages

  abbrev Told : TrackBody → Type 0
  Told body = (is_told line event (saying line t x said told c m) body y).stray ≡ false
      → Keeps line t x ((is_told line event (saying line t x said told c m) body y).stretch t)
      ((is_told line event (saying line t x said told c m) body y).start t) said now

  other : (body : TrackBody) → m.body ≡ body → ((l : ℕ) → body ≡ Authority l → ⊥)
      → Keeps line t x (y.stretch t) (y.start t) said now
  other body is apart =
      keeps_more line t x said told c m newest (y.stretch t) (y.start t) (λ l at. apart l (sym is ∙ at)) h

  pub any_told : ((l n : ℕ) → m.body ≡ Authority l → stamp_of event t ≡ Some n → (k : TrackMessage) (s : ℕ)
      → IsTold line t told c k → k.body ≡ DataAcknowledged s → s < n) → (body : TrackBody) → m.body ≡ body → Told body
  any_told in_time (Authority l) is = authority_told l is (λ n. in_time l n is)
  any_told in_time (DataAcknowledged s) is = λ founded. other (DataAcknowledged s) is (λ l wrong. cc)
  any_told in_time (ShorteningRequest l) is = request_told l is
  any_told in_time (Transition d a b) is = λ founded. other (Transition d a b) is (λ l wrong. cc)
  any_told in_time (EndSession a b) is = λ founded. other (EndSession a b) is (λ l wrong. cc)
  any_told in_time SystemVersion is = λ founded. other SystemVersion is (λ l wrong. cc)
  any_told in_time TerminationAcknowledged is = λ founded. other TerminationAcknowledged is (λ l wrong. cc)
  any_told in_time TrainRejected is = λ founded.
      start_less line t x (y.stretch t) (y.start t) waits_less said now (put_none y.start t c)
      (other TrainRejected is (λ l wrong. cc))
  any_told in_time TrainAccepted is = accepted_told is
