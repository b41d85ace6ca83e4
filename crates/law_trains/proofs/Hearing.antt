-- A train receives a message.
use Rattle.std.proofs.Common.{◌≡◌, ℕ, ◌<◌, ◌≤◌, ◌==◌, ◌∙◌, ◌&&◌, Bool, true, false, if◌then◌else◌, nat_lt, Option, Some}
use Rattle.std.proofs.Common.{None, refl, sym, subst, inl, inr, arith, eqb-true, ltb-true}
use Rattle.std.proofs.lemmas.Bool.{and_parts}
use Rattle.std.proofs.lemmas.Bool.Decides.{eqb_tells}
use Rattle.std.proofs.lemmas.Option.{same_Some}
use Rattle.std.specs.Option.{option_map_or}
use Rattle.law_outside.specs.Outside.{Stretch}
use Rattle.law_trains.proofs.Keeps.{Saids, Tolds, IsTold, IsRequest, IsFollowed, Keeps}
use Rattle.law_trains.proofs.Moments.{on_board, IsOver}
use Rattle.law_trains.specs.Trains.{Train, Followed, Asked, end_from, hears, takes}
use Rattle.rbc_spec.proofs.Lists.{put_here, put_other}
use Rattle.rbc_spec.specs.Line.{Line}
use Rattle.rbc_spec.specs.Maps.{has, put}
use Rattle.rbc_spec.specs.Message.{TrackMessage, TrackBody, Authority, DataAcknowledged, ShorteningRequest, Transition}
use Rattle.rbc_spec.specs.Message.{EndSession, SystemVersion, TerminationAcknowledged, TrainRejected, TrainAccepted}

module _ (line : Line) (t : ℕ) (x : Train) (o : Option Stretch) (first : ℕ
    → Option Stretch) (said : Saids) (told : Tolds)
    (h : Keeps line t x o first said told) (c : ℕ) (m : TrackMessage) (sent : IsTold line t told c m) where
  ends_old : (z : Stretch) → o ≡ Some z → (k : ℕ) → x.end ≡ Some k → k ≤ z.end
  ends_old z is = (h.some z is).ends

  none_old : o ≡ None → x.end ≡ None
  none_old is = (h.none is).end

  -- ## Train data are acknowledged

  follows_now : (s : ℕ) → m.body ≡ DataAcknowledged s → (b : Bool) → nat_lt x.gave_back s ≡ b
      → Keeps line t (if b then record x {
        follows = Some
            (record { centre = c; stamp = m.t_train });
      } else x) o first said
      told
  follows_now s body false is = h
  follows_now s body true is = on_board line t x o first said told h x.end
      (Some (record { centre = c; stamp = m.t_train })) x.asked ends_old none_old (inl refl)
      (λ g at. subst (λ (f : Followed). IsFollowed line t x told f) (same_Some _ g at) (record {
        m = m;
        s = s;
        told = sent;
        stamp = refl;
        body = body;
        after = ltb-true x.gave_back s is;
      })) h.asked

  -- ## An authority

  module _ (l : ℕ) (body : m.body ≡ Authority l) where
    record IsTaken : Type 0 where
      pub f : Followed
      pub is : x.follows ≡ Some f
      pub centre : f.centre ≡ c
      pub later : f.stamp < m.t_train

    taken_is : takes c m.t_train x ≡ true → IsTaken
    taken_is so = by_follows x.follows refl so
      where
        by_follows : (p : Option Followed) → x.follows ≡ p
            → has (λ f. f.centre == c && nat_lt f.stamp m.t_train) p ≡ true → IsTaken
        by_follows None is so = cc
        by_follows (Some f) is so =
            let parts = and_parts (f.centre == c) (nat_lt f.stamp m.t_train) so in
            record { f = f; is = is; centre = eqb-true f.centre c parts.0; later = ltb-true f.stamp m.t_train parts.1 }

    module _ (taken : IsTaken) (e : ℕ) (end_is : end_from line m.nid_lrbg l ≡ Some e) where
      abbrev q : IsFollowed line t x told taken.f
      q = h.follows taken.f taken.is

      -- it answers a message later than those by which the train gave something back
      since_is : (z : Stretch) → o ≡ Some z → (q.s < z.since) × (e ≤ z.end)
      since_is z is =
          let stamp = q.stamp in
          let later = taken.later in
          let fresh = (h.some z is).fresh c m q.m l q.s sent body
          (subst (λ (d : ℕ). IsTold line t told d q.m) taken.centre q.told) q.body (omega (arith, stamp, later)) in (
            fresh.since,
            fresh.end (λ d n b is gives.
                let low = h.honest.gave d n b is gives in let after = q.after in omega (arith, low, after)) e end_is,
          )

      over : IsOver line t x o first said told h
      over n gave live = by_stretch o refl
        where
          by_stretch : (p : Option Stretch) → o ≡ p → ⊥
          by_stretch None is = (h.none is).none_told c m l sent body
          by_stretch (Some z) is =
              let lt = live z is in
              let since = (since_is z is).0 in
              let after = q.after in
              omega (arith, lt, since, after, gave)

      takes_now : Keeps line t (record x { end = Some e }) o first said told
      takes_now = on_board line t x o first said told h (Some e) x.follows x.asked
          (λ z is k has. let le = (since_is z is).1 in let same = same_Some e k has in omega (arith, le, same))
          (λ is. absurd ((h.none is).none_told c m l sent body)) (inr over) h.follows h.asked

    authority_now : (b : Bool) → takes c m.t_train x ≡ b → (p : Option ℕ) → end_from line m.nid_lrbg l ≡ p
        → Keeps line t (if b then option_map_or (λ e. record x { end = Some e }) p x else x) o first said told
    authority_now false is p at = h
    authority_now true is None at = h
    authority_now true is (Some e) at = takes_now (taken_is is) e at

  -- ## A request to shorten

  asked_now : (l : ℕ) → m.body ≡ ShorteningRequest l → (p : Option ℕ) → end_from line m.nid_lrbg l ≡ p
      → Keeps line t
      (option_map_or (λ e. record x { asked = put x.asked c (Some (record { stamp = m.t_train; end = e })) }) p x)
      o first said told
  asked_now l body None at = h
  asked_now l body (Some e) at = on_board line t x o first said told h x.end x.follows
      (put x.asked c (Some (record { stamp = m.t_train; end = e }))) ends_old none_old (inl refl) h.follows
      (λ d a is. elim (eqb_tells d c) [
        | inl same ↦
            subst (λ (q : Asked). IsRequest line t told d q.stamp q.end)
            (same_Some _ a (sym (put_here x.asked c d (Some (record { stamp = m.t_train; end = e })) same.1) ∙ is))
            (record {
              m = m;
              l = l;
              told = subst (λ (k : ℕ). IsTold line t told k m) (sym same.1) sent;
              stamp = refl;
              body = body;
              end = at;
            })
        | inr apart ↦
            h.asked d a (sym (put_other x.asked c d (Some (record { stamp = m.t_train; end = e })) apart.1) ∙ is)
      ])

  pub any_heard : (body : TrackBody) → m.body ≡ body → Keeps line t (hears line c m body x) o first said told
  any_heard (DataAcknowledged s) is = follows_now s is (nat_lt x.gave_back s) refl
  any_heard (Authority l) is = authority_now l is (takes c m.t_train x) refl (end_from line m.nid_lrbg l) refl
  any_heard (ShorteningRequest l) is = asked_now l is (end_from line m.nid_lrbg l) refl
  any_heard (Transition d a b) is = h
  any_heard (EndSession a b) is = h
  any_heard SystemVersion is = h
  any_heard TerminationAcknowledged is = h
  any_heard TrainRejected is = h
  any_heard TrainAccepted is = h
