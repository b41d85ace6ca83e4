-- A train sends a message.
use Rattle.std.proofs.Common.{◌≡◌, ℕ, ◌*◌, ◌<◌, ◌≤◌, ◌⊎◌, ◌==◌, ◌∙◌, ◌&&◌, ◌∷◌, Bool, true, nat_le, Option, Some, None}
use Rattle.std.proofs.Common.{ℤ, pos, int_le, int_lt, refl, sym, ap, subst, inl, inr, arith, eqb-true, leb-true}
use Rattle.std.proofs.lemmas.Bool.{and_parts}
use Rattle.std.proofs.lemmas.Option.{same_Some}
use Rattle.std.specs.Option.{option_map_or}
use Rattle.rbc_spec.specs.Line.{Line}
use Rattle.rbc_spec.specs.Message.{TrainBody, TrainMessage, ShorteningGranted, EndOfMission, StartOfMission}
use Rattle.rbc_spec.specs.Place.{Place, Position, extent}
use Rattle.law_outside.specs.Outside.{Stretch}
use Rattle.law_trains.specs.Trains.{Train, Followed, position_of, is_in_place, is_true_of}
use Rattle.law_trains.proofs.Keeps.{Saids, Tolds, contains_cases, contains_later, GivesBack, IsPast, IsSaid, UnderWay}
use Rattle.law_trains.proofs.Keeps.{HasStarted, HasGranted, HasEnded, IsEarly, IsHonest, Keeps}

-- the train is within the place
pub record IsTrue (x : Train) (place : Place) : Type 0 where
  pub past : IsPast x place
  pub front : x.front ≤ place.front

pub true_is : (line : Line) (x : Train) (body : TrainBody) → is_true_of line x body ≡ true → (position : Position)
    (place : Place) → position_of body ≡ Some position → extent line position ≡ Some place → IsTrue x place
true_is line x body holds position place at there =
    by_place (subst (λ (p : Option Place). option_map_or (is_in_place x) p true ≡ true) there
    (subst (λ (p : Option Position). option_map_or
    (λ q. option_map_or (is_in_place x) (extent line q) true) p true ≡ true) at holds))
  where
    by_rear : (p : Option ℤ) → option_map_or (λ r. int_le r x.rear) p true ≡ true → (r : ℤ) → p ≡ Some r
        → int_le r x.rear ≡ true
    by_rear None so r is = cc
    by_rear (Some q) so r is = subst (λ (k : ℤ). int_le k x.rear ≡ true) (same_Some q r is) so

    by_place : is_in_place x place ≡ true → IsTrue x place
    by_place so =
        let both = and_parts (place.track == x.track && nat_le x.front place.front)
        (option_map_or (λ rear. int_le rear x.rear) place.rear true) so in
        let parts = and_parts (place.track == x.track) (nat_le x.front place.front) both.0 in
        record {
          past = record { track = eqb-true place.track x.track parts.0; rear = by_rear place.rear both.1 };
          front = leb-true x.front place.front parts.1;
        }

-- the changes on board by a message of the train
pub record Gives (x y : Train) (n : ℕ) (body : TrainBody) : Type 0 where
  pub track : y.track ≡ x.track
  pub front : y.front ≡ x.front
  pub rear : y.rear ≡ x.rear
  pub clock : y.clock ≡ n
  pub less : (k : ℕ) → y.end ≡ Some k → (j : ℕ) × (x.end ≡ Some j) × (k ≤ j)
  pub follows : (f : Followed) → y.follows ≡ Some f → (x.follows ≡ Some f) × (y.gave_back ≡ x.gave_back)
  pub gave : (k : ℕ) → k ≤ x.clock → k ≤ x.gave_back → k ≤ y.gave_back
  pub gives : GivesBack body → n ≤ y.gave_back
  pub started : x.has_started ≡ true → y.has_started ≡ true
  pub starts : (is_valid : Bool) (position : Position) → body ≡ StartOfMission is_valid position → y.has_started ≡ true
  pub asked : (c : ℕ) → y.asked c ≡ x.asked c

module _ (line : Line) (t : ℕ) (x : Train) (o : Option Stretch) (first : ℕ
    → Option Stretch) (said : Saids) (told : Tolds)
    (h : Keeps line t x o first said told) (c n : ℕ) (body : TrainBody) where
  abbrev pub message : TrainMessage
  message = record { t_train = n; nid_engine = t; body = body }

  abbrev pub more : Saids
  more = (c, message) ∷ said

  module _ (later : x.clock < n) (true_of : is_true_of line x body ≡ true) (y : Train) (g : Gives x y n body) where
    record IsNow (d k : ℕ) (b : TrainBody) : Type 0 where
      pub centre : d ≡ c
      pub stamp : k ≡ n
      pub is : b ≡ body

    cases : (d k : ℕ) (b : TrainBody) → IsSaid line t more d k b → IsNow d k b ⊎ IsSaid line t said d k b
    cases d k b sent =
        elim (contains_cases (c, message) (d, record { t_train = k; nid_engine = t; body = b }) said sent) [
          | inl same ↦ inl (record {
            centre = ap (λ (q : ℕ × TrainMessage). q.0) (sym same);
            stamp = ap (λ (q : ℕ × TrainMessage). q.1.t_train) (sym same);
            is = ap (λ (q : ℕ × TrainMessage). q.1.body) (sym same);
          })
          | inr old ↦ inr old
        ]

    wider : (d k : ℕ) (b : TrainBody) → IsSaid line t said d k b → IsSaid line t more d k b
    wider d k b sent = contains_later (c, message) (d, record { t_train = k; nid_engine = t; body = b }) said sent

    early_still : (d k : ℕ) (b : TrainBody) → IsSaid line t said d k b → IsEarly line t said k → IsEarly line t more k
    early_still d k b sent early e j is_valid position start =
        elim (cases e j (StartOfMission is_valid position) start) [
          | inl now ↦
              let below = h.honest.clock d k b sent in
              let stamp = now.stamp in
              omega (arith, below, stamp, later)
          | inr old ↦ early e j is_valid position old
        ]

    started_still : (k : ℕ) → HasStarted line t said k → HasStarted line t more k
    started_still k s = record {
      centre = s.centre;
      stamp = s.stamp;
      is_valid = s.is_valid;
      position = s.position;
      is = wider s.centre s.stamp (StartOfMission s.is_valid s.position) s.is;
      le = s.le;
    }

    past_same : (place : Place) → IsPast x place → IsPast y place
    past_same place p = record {
      track = p.track ∙ sym g.track;
      rear = λ r is. subst (λ (k : ℤ). int_le r k ≡ true) (sym g.rear) (p.rear r is);
    }

    front_low : (most : ℕ) → x.front ≤ most → y.front ≤ most
    front_low most le = let same = g.front in omega (arith, le, same)

    honest_now : IsHonest line t y more
    honest_now = record {
      clock = λ d k b sent. let clock = g.clock in elim (cases d k b sent) [
        | inl now ↦ let stamp = now.stamp in omega (arith, clock, stamp)
        | inr old ↦ let below = h.honest.clock d k b old in omega (arith, clock, below, later)
      ];
      gave = λ d k b sent gives. elim (cases d k b sent) [
        | inl now ↦
            let up = g.gives (subst GivesBack now.is gives) in let stamp = now.stamp in omega (arith, up, stamp)
        | inr old ↦ g.gave k (h.honest.clock d k b old) (h.honest.gave d k b old gives)
      ];
      length = subst (λ (k : ℕ). int_lt y.rear (pos k) ≡ true) (sym g.front)
          (subst (λ (r : ℤ). int_lt r (pos x.front) ≡ true) (sym g.rear) h.honest.length);
      started = λ d k is_valid position sent. elim (cases d k (StartOfMission is_valid position) sent) [
        | inl now ↦ g.starts is_valid position (sym now.is)
        | inr old ↦ g.started (h.honest.started d k is_valid position old)
      ];
      past = λ d k b position place sent at there. past_same place (elim (cases d k b sent) [
        | inl now ↦ (true_is line x body true_of position place
            (ap position_of (sym now.is) ∙ at) there).past
        | inr old ↦ h.honest.past d k b position place old at there
      ]);
    }

    end_none : x.end ≡ None → y.end ≡ None
    end_none none = by_end y.end refl
      where
        by_end : (p : Option ℕ) → y.end ≡ p → p ≡ None
        by_end None is = refl
        by_end (Some k) is = let l = g.less k is in let wrong : None ≡ Some l.0 = sym none ∙ l.1 in cc

    ends_less : (most : ℕ) → ((k : ℕ) → x.end ≡ Some k → k ≤ most) → (k : ℕ) → y.end ≡ Some k → k ≤ most
    ends_less most ends k is = let l = g.less k is in let le = ends l.0 l.1 in let less = l.2 in omega (arith, le, less)

    under_now : (z : Stretch) → UnderWay line t x z said told → UnderWay line t y z more told
    under_now z u = record {
      within = record {
        track = u.within.track ∙ sym g.track;
        front = front_low (10 * z.end) u.within.front;
        rear = subst (λ (r : ℤ). int_le z.rear r ≡ true) (sym g.rear) u.within.rear;
      };
      ends = ends_less z.end u.ends;
      started = started_still z.since u.started;
      fresh = λ d m k l s sent is acknowledged names lt.
          let f = u.fresh d m k l s sent is acknowledged names lt in
          record { since = f.since; end = λ gave. f.end (λ e j b was. gave e j b (wider e j b was)) };
      asked = u.asked;
    }

    pub sends : ((stamp : ℕ) (position : Position) → body ≡ ShorteningGranted stamp position
        → HasGranted line t y told c stamp position)
        → ((position : Position) → body ≡ EndOfMission position → position.v_train ≡ 0 → HasEnded line t y position)
        → Keeps line t y o first more told
    sends granted ended = record {
      honest = honest_now;
      none = λ is. let was = h.none is in record {
        end = end_none was.end;
        front = λ d k is_valid position place sent there. front_low place.front
            (elim (cases d k (StartOfMission is_valid position) sent) [
              | inl now ↦ (true_is line x body true_of position place (ap position_of (sym now.is)) there).front
              | inr old ↦ was.front d k is_valid position place old there
            ]);
        none_told = was.none_told;
      };
      some = λ z is. under_now z (h.some z is);
      granted = λ d k stamp position sent live. elim (cases d k (ShorteningGranted stamp position) sent) [
        | inl now ↦ inr (subst (λ (e : ℕ). HasGranted line t y told e stamp position) (sym now.centre)
            (granted stamp position (sym now.is)))
        | inr old ↦ elim (h.granted d k stamp position old live) [
          | inl early ↦ inl (early_still d k (ShorteningGranted stamp position) old early)
          | inr q ↦ inr (record {
            end = q.end;
            request = q.request;
            front = λ place there low. front_low (10 * q.end) (q.front place there low);
            ends = ends_less q.end q.ends;
          })
        ]
      ];
      ended = λ d k position sent still live. elim (cases d k (EndOfMission position) sent) [
        | inl now ↦ inr (ended position (sym now.is) still)
        | inr old ↦ elim (h.ended d k position old still live) [
          | inl early ↦ inl (early_still d k (EndOfMission position) old early)
          | inr q ↦ inr (record {
            end = end_none q.end;
            front = λ place there. front_low place.front (q.front place there);
          })
        ]
      ];
      begun = λ d q is. let b = h.begun d q is in record {
        track = b.track ∙ sym g.track;
        rear = subst (λ (r : ℤ). int_le q.rear r ≡ true) (sym g.rear) b.rear;
        front = λ none. front_low (10 * q.end) (b.front none);
        asked = b.asked;
        started = started_still q.since b.started;
      };
      follows = λ f is. let w = g.follows f is in let q = h.follows f w.0 in record {
        m = q.m;
        s = q.s;
        told = q.told;
        stamp = q.stamp;
        body = q.body;
        after = (let after = q.after in let same = w.1 in omega (arith, after, same));
      };
      asked = λ d a is. h.asked d a (sym (g.asked d) ∙ is);
    }
