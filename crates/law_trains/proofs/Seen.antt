-- A message of a train, as it is seen from outside.
use Rattle.std.proofs.Common.{◌≡◌, ℕ, ◌*◌, ◌<◌, ◌≤◌, ◌==◌, ◌∙◌, ◌&&◌, Bool, true, false, if◌then◌else◌, nat_lt, nat_le}
use Rattle.std.proofs.Common.{Option, Some, None, ℤ, int_lt, refl, sym, ap, subst, inl, inr, arith, eqb-true, ltb-true}
use Rattle.std.proofs.Common.{leb-true}
use Rattle.std.proofs.lemmas.Bool.{and_parts}
use Rattle.std.proofs.lemmas.Option.{same_Some}
use Rattle.std.specs.Option.{option_map_or}
use Rattle.law_promises.proofs.Spans.{Ends}
use Rattle.rbc_spec.specs.Line.{Line}
use Rattle.rbc_spec.specs.Message.{TrainBody, Report, ShorteningGranted, EndOfMission}
use Rattle.rbc_spec.specs.Place.{Place, Position, extent}
use Rattle.rbc_spec.specs.Sections.{section_count, track_end}
use Rattle.law_outside.specs.Outside as outside
use Rattle.law_outside.specs.Outside.{Shortening, Stretch, View, after_message, begun, cleared, up_to, front_end}
use Rattle.law_trains.specs.Trains.{Train}
use Rattle.law_trains.proofs.Keeps.{Saids, Tolds, GivesBack, IsPast, IsSaid, IsTold, UnderWay, IsLive, IsEarly, Keeps}
use Rattle.law_trains.proofs.Reach.{reaches, end_low}

module _ (line : Line) (t : ℕ) (x : Train) (said : Saids) (told : Tolds) where
  -- ## The stretch is less

  -- the train has this stretch now, in place of another one
  pub still_under : (first : ℕ → Option Stretch) (z w : Stretch) → w.since ≡ z.since → UnderWay line t x w said told
      → Keeps line t x (Some z) first said told → Keeps line t x (Some w) first said told
  still_under first z w since under h = record {
    honest = h.honest;
    none = λ is. cc;
    some = λ q is. subst (λ (p : Stretch). UnderWay line t x p said told) (same_Some w q is) under;
    granted = λ c n stamp position sent live. h.granted c n stamp position sent (before n live);
    ended = λ c n position sent still live. h.ended c n position sent still (before n live);
    begun = λ c q is. let b = h.begun c q is in record {
      track = b.track;
      rear = b.rear;
      front = λ none. cc;
      asked = b.asked;
      started = b.started;
    };
    follows = h.follows;
    asked = h.asked;
  }
    where
      before : (n : ℕ) → IsLive line t (Some w) n → IsLive line t (Some z) n
      before n live q is =
          let lt = live w refl in
          let same = ap (λ (s : Stretch). s.since) (same_Some z q is) in
          omega (arith, lt, since, same)

  -- a report from its place
  cleared_under : (z : Stretch) (place : Place) → IsPast x place → UnderWay line t x z said told
      → UnderWay line t x (cleared place z) said told × ((cleared place z).since ≡ z.since)
  cleared_under z place past u = by_rear place.rear refl
    where
      by_later : (r : ℤ) → place.rear ≡ Some r → (b : Bool)
          → UnderWay line t x (if b then record z { rear = r } else z) said told
          × ((if b then record z { rear = r } else z).since ≡ z.since)
      by_later r is false = (u, refl)
      by_later r is true = (
        record {
          within = record { track = u.within.track; front = u.within.front; rear = past.rear r is };
          ends = u.ends;
          started = u.started;
          fresh = λ c m k l s sent body acknowledged names lt.
              let f = u.fresh c m k l s sent body acknowledged names lt in
              record { since = f.since; end = f.end };
          asked = u.asked;
        },
        refl,
      )

      by_rear : (o : Option ℤ) → place.rear ≡ o
          → UnderWay line t x (option_map_or (λ r. if int_lt z.rear r then record z { rear = r } else z) o z) said told
          × ((option_map_or (λ r. if int_lt z.rear r then record z { rear = r } else z) o z).since ≡ z.since)
      by_rear None is = (u, refl)
      by_rear (Some r) is = by_later r is (int_lt z.rear r)

  -- the part in advance of a point is taken back, by a message later than all that was answered
  up_to_under : (z : Stretch) (e n : ℕ) → z.since < n → (c : ℕ) (b : TrainBody) → IsSaid line t said c n b
      → GivesBack b → x.front ≤ 10 * e
      → ((k : ℕ) → x.end ≡ Some k → k ≤ e) → UnderWay line t x z said told → UnderWay line t x (up_to z e) said told
  up_to_under z e n lt d b now gives front ends u = record {
    within = record {
      track = u.within.track;
      front = (let far = u.within.front in omega (arith, far, front));
      rear = u.within.rear;
    };
    ends = λ k is. (let one = ends k is in let two = u.ends k is in omega (arith, one, two));
    started = u.started;
    fresh = λ c m k l s sent body acknowledged names before.
        let f = u.fresh c m k l s sent body acknowledged names before in
        let since = f.since in
        record {
          since = since;
          end = λ before_it j is.
              let less = before_it d n b now gives in absurd (let no : ⊥ = omega (arith, lt, since, less) in no);
        };
    asked = u.asked;
  }

  abbrev pub Less : Stretch → Stretch → Type 0
  Less z w = UnderWay line t x w said told × (w.since ≡ z.since)

  -- a place counts only if it is on the track, and the message is later than all that was answered
  at_place : (z : Stretch) (n : ℕ) (position : Position) (f : Place → Stretch) → UnderWay line t x z said told
      → ((place : Place) → extent line position ≡ Some place → place.track ≡ z.track → z.since < n → Less z (f place))
      → Less z (option_map_or (λ place. if (place.track == z.track) && nat_lt z.since n then f place else z)
      (extent line position) z)
  at_place z n position f u less = by_extent (extent line position) refl
    where
      by_both : (place : Place) → extent line position ≡ Some place → (b : Bool)
          → ((place.track == z.track) && nat_lt z.since n) ≡ b → Less z (if b then f place else z)
      by_both place is false so = (u, refl)
      by_both place is true so =
          let parts = and_parts (place.track == z.track) (nat_lt z.since n) so in
          less place is (eqb-true place.track z.track parts.0) (ltb-true z.since n parts.1)

      by_extent : (o : Option Place) → extent line position ≡ o
          → Less z (option_map_or (λ place. if (place.track == z.track) && nat_lt z.since n then f place else z) o z)
      by_extent None is = (u, refl)
      by_extent (Some place) is = by_both place is ((place.track == z.track) && nat_lt z.since n) refl

  module _ (c n : ℕ) (y : View) (h : Keeps line t x (y.stretch t) (y.start t) said told) where
    abbrev live_is : (z : Stretch) → y.stretch t ≡ Some z → z.since < n → IsLive line t (y.stretch t) n
    live_is z at lt q is =
        let same : Some z ≡ Some q = sym at ∙ is in
        let one = ap (λ (s : Stretch). s.since) (same_Some z q same) in
        omega (arith, one, lt)

    not_early : (z : Stretch) → y.stretch t ≡ Some z → z.since < n → IsEarly line t said n → ⊥
    not_early z at lt early =
        let s = (h.some z at).started in
        let less = early s.centre s.stamp s.is_valid s.position s.is in
        let le = s.le in
        omega (arith, less, le, lt)

    -- ## Messages that take something back

    pub report_less : (position : Position) → IsSaid line t said c n (Report position) → (z : Stretch)
        → y.stretch t ≡ Some z → Less z (after_message line c n (Report position) z)
    report_less position sent z at = at_place z n position (λ place. cleared place z) (h.some z at)
        (λ place is on lt. cleared_under z place
        (h.honest.past c n (Report position) position place sent refl is) (h.some z at))

    pub granted_less : (stamp : ℕ) (position : Position) → IsSaid line t said c n (ShorteningGranted stamp position)
        → (z : Stretch) → y.stretch t ≡ Some z → Less z (after_message line c n (ShorteningGranted stamp position) z)
    granted_less stamp position sent z at = at_place z n position
        (λ place. outside.takes_back line c (ShorteningGranted stamp position) place z) u
        (λ place is on lt. by_asked place is lt z.asked refl)
      where
        u : UnderWay line t x z said told
        u = h.some z at

        by_test : (place : Place) → extent line position ≡ Some place → z.since < n → (a : Shortening)
            → z.asked ≡ Some a → (b : Bool)
            → (((a.centre == c) && (a.stamp == stamp)) && nat_le place.front (10 * a.end)) ≡ b
            → Less z (if b then up_to z a.end else z)
        by_test place is lt a asks false so = (u, refl)
        by_test place is lt a asks true so =
            let both = and_parts ((a.centre == c) && (a.stamp == stamp)) (nat_le place.front (10 * a.end)) so in
            let parts = and_parts (a.centre == c) (a.stamp == stamp) both.0 in
            let centre = eqb-true a.centre c parts.0 in
            let stamped = eqb-true a.stamp stamp parts.1 in
            elim (h.granted c n stamp position sent (live_is z at lt)) [
              | inl early ↦ absurd (not_early z at lt early)
              | inr g ↦
                  let r = g.request in
                  let same : g.end ≡ a.end = u.asked.only a asks r.m r.l g.end
                  (subst (λ (d : ℕ). IsTold line t told d r.m) (sym centre) r.told) (r.stamp ∙ sym stamped)
                  r.body r.end in
                  let low = leb-true place.front (10 * a.end) both.1 in
                  let front = g.front place is (omega (arith, low, same)) in (
                    up_to_under z a.end n lt c (ShorteningGranted stamp position) sent tt
                        (omega (arith, front, same))
                        (λ k ends. (let le = g.ends k ends in omega (arith, le, same))) u,
                    refl,
                  )
            ]

        by_asked : (place : Place) → extent line position ≡ Some place → z.since < n → (o : Option Shortening)
            → z.asked ≡ o → Less z (option_map_or
            (λ a. if ((a.centre == c) && (a.stamp == stamp)) && nat_le place.front
            (10 * a.end) then up_to z a.end else z)
            o z)
        by_asked place is lt None asks = (u, refl)
        by_asked place is lt (Some a) asks = by_test place is lt a asks
            (((a.centre == c) && (a.stamp == stamp)) && nat_le place.front (10 * a.end)) refl

    pub ended_less : (position : Position) → IsSaid line t said c n (EndOfMission position) → (z : Stretch)
        → y.stretch t ≡ Some z → Ends line z → Less z (after_message line c n (EndOfMission position) z)
    ended_less position sent z at ends = at_place z n position
        (λ place. outside.takes_back line c (EndOfMission position) place z) u
        (λ place is on lt. by_still place is on lt (position.v_train == 0) refl)
      where
        u : UnderWay line t x z said told
        u = h.some z at

        past : (place : Place) → extent line position ≡ Some place → Less z (cleared place z)
        past place is = cleared_under z place
            (h.honest.past c n (EndOfMission position) position place sent refl is) u

        by_end : (place : Place) → extent line position ≡ Some place → place.track ≡ z.track → z.since < n
            → position.v_train ≡ 0 → (o : Option ℕ) → front_end line place (section_count line) ≡ o
            → Less z (option_map_or (up_to (cleared place z)) o (cleared place z))
        by_end place is on lt still None so = past place is
        by_end place is on lt still (Some e) so =
            let p = past place is in
            let since = p.1 in
            elim (h.ended c n position sent still (live_is z at lt)) [
              | inl early ↦ absurd (not_early z at lt early)
              | inr g ↦ (
                up_to_under (cleared place z) e n (omega (arith, since, lt))
                    c (EndOfMission position) sent still
                    (let low = end_low line z ends in
                    let far = u.within.front in
                    let track = subst (λ (k : ℕ). z.end ≤ track_end line k) (sym on) low in
                    reaches line place e x.front so (g.front place is) (omega (arith, far, track)))
                    (λ k has. let wrong : None ≡ Some k = sym g.end ∙ has in cc) p.0,
                since,
              )
            ]

        by_still : (place : Place) → extent line position ≡ Some place → place.track ≡ z.track → z.since < n
            → (b : Bool)
            → (position.v_train == 0) ≡ b
            → Less z (if b then option_map_or (up_to (cleared place z)) (front_end line place (section_count line))
            (cleared place z) else cleared place z)
        by_still place is on lt false so = past place is
        by_still place is on lt true so = by_end place is on lt (eqb-true position.v_train 0 so)
            (front_end line place (section_count line)) refl
