-- A message to a train.
use Rattle.std.proofs.Common.{◌≡◌, ℕ, ◌+◌, ◌<◌, ◌≤◌, ◌⊎◌, ◌∙◌, Bool, true, false, if◌then◌else◌, ◌∷◌, Option, Some}
use Rattle.std.proofs.Common.{None, option_map, int_le, refl, sym, ap, subst, inl, inr, arith}
use Rattle.std.proofs.lemmas.Option.{same_Some}
use Rattle.std.specs.Option.{option_and_then}
use Rattle.rbc_spec.specs.Line.{Line, section_of_group, start}
use Rattle.rbc_spec.specs.Sections.{is_on}
use Rattle.rbc_spec.specs.Message.{TrackMessage, Authority, DataAcknowledged, ShorteningRequest}
use Rattle.rbc_spec.specs.Outcome.{Saying}
use Rattle.law_outside.specs.Outside.{Shortening, Stretch, metres_from}
use Rattle.law_trains.specs.Trains.{Train, end_from}
use Rattle.law_trains.proofs.Within.{rear_itself, no_farther_back}
use Rattle.law_trains.proofs.Keeps.{Saids, Tolds, contains_cases, contains_later, contains_here, IsTold, IsRequest}
use Rattle.law_trains.proofs.Keeps.{IsAsked, IsFresh, UnderWay, HasGranted, IsLive, Keeps}

-- the end that a message names is the same from outside and on board
pub ends_same : (line : Line) (group l e : ℕ) (z : Stretch) → metres_from line group l z ≡ Some e
    → end_from line group l ≡ Some e
ends_same line group l e z = by_group (section_of_group line group)
  where
    by_on : (b : Bool) (n : ℕ) → (if b then Some n else None) ≡ Some e → Some n ≡ Some e
    by_on true n is = is
    by_on false n is = cc

    by_group : (o : Option ℕ)
        → option_and_then (λ s. if is_on line z.track s then Some (start line s + l) else None) o ≡ Some e
        → option_map (λ s. start line s + l) o ≡ Some e
    by_group None is = cc
    by_group (Some s) is = by_on (is_on line z.track s) (start line s + l) is

module _ (line : Line) (t : ℕ) (x : Train) (said : Saids) (told : Tolds) (c : ℕ) (m : TrackMessage) where
  abbrev pub saying : Saying
  saying = record { nid_engine = t; message = m }

  abbrev pub more : Tolds
  more = (c, saying) ∷ told

  pub later : (d : ℕ) (k : TrackMessage) → IsTold line t told d k → IsTold line t more d k
  later d k h = contains_later (c, saying) (d, record { nid_engine = t; message = k }) told h

  pub cases : (d : ℕ) (k : TrackMessage) → IsTold line t more d k → ((d ≡ c) × (k ≡ m)) ⊎ IsTold line t told d k
  cases d k h = elim (contains_cases (c, saying) (d, record { nid_engine = t; message = k }) told h) [
    | inl same ↦ inl (
      ap (λ (q : ℕ × Saying). q.0) (sym same),
      ap (λ (q : ℕ × Saying). q.1.message) (sym same),
    )
    | inr old ↦ inr old
  ]

  pub request_later : (d n e : ℕ) → IsRequest line t told d n e → IsRequest line t more d n e
  request_later d n e h =
      record { m = h.m; l = h.l; told = later d h.m h.told; stamp = h.stamp; body = h.body; end = h.end }

  granted_later : (d n : ℕ) (position : _) → HasGranted line t x told d n position
      → HasGranted line t x more d n position
  granted_later d n position h =
      record { end = h.end; request = request_later d n h.end h.request; front = h.front; ends = h.ends }

  pub asked_none : (told : Tolds) → IsAsked line t None told
  asked_none told = record { named = λ a is. cc; only = λ a is k l e h stamp body end. cc }

  -- the message is the last that the centre has sent to the train
  module _ (newest : (k : TrackMessage) → IsTold line t told c k → k.t_train < m.t_train) where
    pub asked_more : (o : Option Shortening) → IsAsked line t o told → IsAsked line t o more
    asked_more o h = record {
      named = λ a is. request_later a.centre a.stamp a.end (h.named a is);
      only = λ a is k l e sent stamp body end. elim (cases a.centre k sent) [
        | inl new ↦
            let r = h.named a is in
            let before : r.m.t_train < m.t_train = newest r.m (subst (λ
            (d : ℕ). IsTold line t told d r.m) new.0 r.told) in
            let now : k.t_train ≡ m.t_train = ap (λ (q : TrackMessage). q.t_train) new.1 in
            let was = r.stamp in
            absurd (let no : ⊥ = omega (arith, before, now, was, stamp) in no)
        | inr old ↦ h.only a is k l e old stamp body end
      ];
    }

    pub asked_new : (l e : ℕ) → m.body ≡ ShorteningRequest l → end_from line m.nid_lrbg l ≡ Some e
        → IsAsked line t (Some (record { centre = c; stamp = m.t_train; end = e })) more
    asked_new l e body end = record {
      named = λ a is. subst (λ (b : Shortening). IsRequest line t more b.centre b.stamp b.end) (same_Some _ a is)
          (record { m = m; l = l; told = contains_here (c, saying) told; stamp = refl; body = body; end = end });
      only = λ a is k j f sent stamp names ends.
          let same : record { centre = c; stamp = m.t_train; end = e } ≡ a = same_Some _ a is in
          let ended : e ≡ a.end = ap (λ (b : Shortening). b.end) same in
          let stamped : m.t_train ≡ a.stamp = ap (λ (b : Shortening). b.stamp) same in
          elim (cases a.centre k sent) [
            | inl new ↦
                let one : ShorteningRequest j ≡ ShorteningRequest l =
                sym names ∙ ap (λ (q : TrackMessage). q.body) new.1 ∙ body in
                let here : j ≡ l = cc in
                let is_end : Some f ≡ Some e =
                sym ends ∙ ap (λ (q : TrackMessage). end_from line q.nid_lrbg j) new.1
                ∙ ap (end_from line m.nid_lrbg) here ∙ end in
                same_Some f e is_end ∙ ended
            | inr old ↦
                let centre : a.centre ≡ c = ap (λ (b : Shortening). b.centre) (sym same) in
                let before : k.t_train < m.t_train = newest k (subst (λ (d : ℕ). IsTold line t told d k) centre old) in
                absurd (let no : ⊥ = omega (arith, before, stamped, stamp) in no)
          ];
    }

    -- the stretch does not shrink
    pub under_more : (z y : Stretch) → UnderWay line t x z said told → y.track ≡ z.track → z.end ≤ y.end
        → int_le y.rear z.rear ≡ true → z.since ≤ y.since → IsAsked line t y.asked more
        → ((l : ℕ) → m.body ≡ Authority l → (k : TrackMessage) (s : ℕ) → IsTold line t told c k
        → k.body ≡ DataAcknowledged s → IsFresh line t said y s m l)
        → UnderWay line t x y said more
    under_more z y h track end rear since asked fresh = record {
      within = record {
        track = track ∙ h.within.track;
        front = (let far = h.within.front in omega (arith, far, end));
        rear = no_farther_back y.rear z.rear x.rear rear h.within.rear;
      };
      ends = λ e is. (let le = h.ends e is in omega (arith, le, end));
      started = record {
        centre = h.started.centre;
        stamp = h.started.stamp;
        is_valid = h.started.is_valid;
        position = h.started.position;
        is = h.started.is;
        le = (let le = h.started.le in omega (arith, le, since));
      };
      fresh = λ d j k l s sent is acknowledged body before. elim (cases d j sent) [
        | inl new ↦ elim (cases d k acknowledged) [
          | inl now ↦
              let one = ap (λ (q : TrackMessage). q.t_train) new.1 in
              let two = ap (λ (q : TrackMessage). q.t_train) now.1 in
              absurd (let no : ⊥ = omega (arith, one, two, before) in no)
          | inr old ↦ subst (λ (q : TrackMessage). IsFresh line t said y s q l) (sym new.1)
              (fresh l (ap (λ (q : TrackMessage). q.body) (sym new.1) ∙ is) k s
              (subst (λ (e : ℕ). IsTold line t told e k) new.0 old) body)
        ]
        | inr old ↦ elim (cases d k acknowledged) [
          | inl now ↦
              let one = ap (λ (q : TrackMessage). q.t_train) now.1 in
              let less : j.t_train < m.t_train = newest j (subst (λ (e : ℕ). IsTold line t told e j) now.0 old) in
              absurd (let no : ⊥ = omega (arith, one, less, before) in no)
          | inr was ↦
              let f = h.fresh d j k l s old is was body before in
              record {
                since = (let lt = f.since in omega (arith, lt, since));
                end = λ gave e ends. (let le = f.end gave e ends in omega (arith, le, end));
              }
        ]
      ];
      asked = asked;
    }

    -- from then on the train has this stretch
    pub to_under : (o : Option Stretch) (first : ℕ → Option Stretch) (y : Stretch) → UnderWay line t x y said more
        → ((z : Stretch) → o ≡ Some z → z.since ≤ y.since) → Keeps line t x o first said told
        → Keeps line t x (Some y) first said more
    to_under o first y under since h = record {
      honest = h.honest;
      none = λ is. cc;
      some = λ z is. subst (λ (q : Stretch). UnderWay line t x q said more) (same_Some y z is) under;
      granted = λ d n stamp position sent live. elim (h.granted d n stamp position sent (before n live)) [
        | inl early ↦ inl early
        | inr is ↦ inr (granted_later d stamp position is)
      ];
      ended = λ d n position sent still live. h.ended d n position sent still (before n live);
      begun = λ d q is. let b = h.begun d q is in record {
        track = b.track;
        rear = b.rear;
        front = λ none. cc;
        asked = b.asked;
        started = b.started;
      };
      follows = λ f is. let q = h.follows f is in record {
        m = q.m;
        s = q.s;
        told = later f.centre q.m q.told;
        stamp = q.stamp;
        body = q.body;
        after = q.after;
      };
      asked = λ d a is. request_later d a.stamp a.end (h.asked d a is);
    }
      where
        before : (n : ℕ) → IsLive line t (Some y) n → IsLive line t o n
        before n live z is = let lt = live y refl in let le = since z is in omega (arith, lt, le)

    -- any message other than an authority changes nothing
    pub keeps_more : (o : Option Stretch) (first : ℕ → Option Stretch) → ((l : ℕ) → m.body ≡ Authority l → ⊥)
        → Keeps line t x o first said told → Keeps line t x o first said more
    keeps_more None first other h = record {
      honest = h.honest;
      none = λ is. let n = h.none refl in record {
        end = n.end;
        front = n.front;
        none_told = λ d k l sent is. elim (cases d k sent) [
          | inl new ↦ other l (ap (λ (q : TrackMessage). q.body) (sym new.1) ∙ is)
          | inr old ↦ n.none_told d k l old is
        ];
      };
      some = λ z is. cc;
      granted = λ d n stamp position sent live. elim (h.granted d n stamp position sent live) [
        | inl early ↦ inl early
        | inr is ↦ inr (granted_later d stamp position is)
      ];
      ended = h.ended;
      begun = h.begun;
      follows = λ f is. let q = h.follows f is in record {
        m = q.m;
        s = q.s;
        told = later f.centre q.m q.told;
        stamp = q.stamp;
        body = q.body;
        after = q.after;
      };
      asked = λ d a is. request_later d a.stamp a.end (h.asked d a is);
    }
    keeps_more (Some z) first other h =
        let u = h.some z refl in
        to_under (Some z) first z
        (under_more z z u refl (omega arith) (rear_itself z.rear) (omega arith) (asked_more z.asked u.asked)
        (λ l is. absurd (other l is)))
        (λ q is. let same = ap (λ (s : Stretch). s.since) (same_Some z q is) in omega (arith, same)) h
