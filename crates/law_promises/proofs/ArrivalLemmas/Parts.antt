-- A message to a train, if it arrives and if it is lost.
use Rattle.std.proofs.Common.{◌&&◌, ◌<◌, ◌==◌, ◌||◌, ◌∙◌, ◌≡◌, ◌≤◌, ap, arith, Bool, eqb-true, false, inl, inr, max}
use Rattle.std.proofs.Common.{None, not, Option, option_map, refl, Some, subst, sym, true, ℕ}
use Rattle.std.proofs.lemmas.Bool.{and_parts, ne_eqb, or_cases}
use Rattle.std.proofs.lemmas.Option.{none-some, same_Some}
use Rattle.std.specs.Option.{option_and_then}
use Rattle.law_outside.specs.Outside.{asked_for, extended, gets, is_told, metres_from, Shortening, stamp_of, Stretch}
use Rattle.law_outside.specs.Outside.{View}
use Rattle.law_promises.proofs.ArrivalLemmas.Arrives.{Lies, lies_then}
use Rattle.law_promises.proofs.ArrivalLemmas.ArrivesSeen.{asked_grows, extended_grows, Grows, metres_same}
use Rattle.law_promises.proofs.ArrivalLemmas.ArrivesTold.{true_false}
use Rattle.law_promises.proofs.ArrivalLemmas.Reached.{begins_on, Fit, is_nothing, is_part, IsOut, Rel, rel_changed}
use Rattle.law_promises.proofs.ArrivalLemmas.Reached.{SameAsked}
use Rattle.law_promises.specs.Arrival.Received.{after_coming, Known}
use Rattle.rbc_spec.proofs.Lists.{put_other, put_there}
use Rattle.rbc_spec.specs.Line.{Line}
use Rattle.rbc_spec.specs.Maps.{put}
use Rattle.rbc_spec.specs.Message.{Authority, ShorteningRequest}
use Rattle.rbc_spec.specs.Outcome.{Saying}
use Rattle.rbc_spec.specs.World.{centre_of, Event}

-- ## Extensions

-- the message to a train that has a stretch
pub record Grew (v : View) (t : ℕ) (grow : Stretch → Option Stretch) : Type 0 where
  pub x : Stretch
  pub z : Stretch
  pub at : v.stretch t ≡ Some x
  pub is : grow x ≡ Some z
  pub same : gets t (option_and_then grow (v.stretch t)) v ≡ record v { stretch = put v.stretch t (Some z) }

grew : (v : View) (t : ℕ) (grow : Stretch → Option Stretch)
    → (gets t (option_and_then grow (v.stretch t)) v).stray ≡ false → Grew v t grow
grew v t grow founded = by_told (v.stretch t) refl founded
  where
    by_grown : (x : Stretch) → v.stretch t ≡ Some x → (o : Option Stretch) → grow x ≡ o
        → (gets t o v).stray ≡ false → Grew v t grow
    by_grown x at None is founded = true_false founded
    by_grown x at (Some z) is founded =
        record {
          x = x;
          z = z;
          at = at;
          is = is;
          same = ap (λ (o : Option Stretch). gets t (option_and_then grow o) v)
              at ∙ ap (λ (o : Option Stretch). gets t o v) is;
        }

    by_told : (o : Option Stretch) → v.stretch t ≡ o → (gets t (option_and_then grow o) v).stray ≡ false → Grew v t grow
    by_told None none founded = true_false founded
    by_told (Some x) at founded = by_grown x at (grow x) refl founded

-- the authority takes the request away
extended_asks : (line : Line) (event : Event) (t group l : ℕ) (x z : Stretch)
    → extended line event t group l x ≡ Some z → z.asked ≡ None
extended_asks line event t group l x z is = by_stamp (stamp_of event t) is
  where
    longer : ℕ → ℕ → Stretch
    longer stamp e = record x { end = max x.end e; since = max x.since stamp; asked = None }

    by_metres : (o : Option ℕ) (stamp : ℕ) → option_map {T = ℕ} {U = Stretch} (longer stamp) o ≡ Some z → z.asked ≡ None
    by_metres None stamp so = absurd (none-some z so)
    by_metres (Some e) stamp so = sym (ap (λ (y : Stretch). y.asked) (same_Some (longer stamp e) z so))

    by_stamp : (o : Option ℕ)
        → option_and_then {T = ℕ} {U = Stretch}
        (λ stamp. option_map {T = ℕ} {U = Stretch} (longer stamp) (metres_from line group l x)) o ≡ Some z
        → z.asked ≡ None
    by_stamp None so = absurd (none-some z so)
    by_stamp (Some stamp) so = by_metres (metres_from line group l x) stamp so

-- of a request
pub record IsAsked (line : Line) (c stamp group l : ℕ) (x z : Stretch) : Type 0 where
  pub e : ℕ
  pub metres : metres_from line group l x ≡ Some e
  pub is : z ≡ record x { asked = Some (record { centre = c; stamp = stamp; end = e }) }

asked_is : (line : Line) (c stamp group l : ℕ) (x z : Stretch) → asked_for line c stamp group l x ≡ Some z
    → IsAsked line c stamp group l x z
asked_is line c stamp group l x z is = by_metres (metres_from line group l x) refl is
  where
    asking : ℕ → Stretch
    asking e = record x { asked = Some (record { centre = c; stamp = stamp; end = e }) }

    by_metres : (o : Option ℕ) → metres_from line group l x ≡ o → option_map {T = ℕ} {U = Stretch} asking o ≡ Some z
        → IsAsked line c stamp group l x z
    by_metres None none so = absurd (none-some z so)
    by_metres (Some e) at so = record { e = e; metres = at; is = sym (same_Some (asking e) z so) }

some_same : {X : Type 0} (a b : X) (o : Option X) → o ≡ Some a → o ≡ Some b → a ≡ b
some_same a b o one two = same_Some a b (sym one ∙ two)

-- ## A message to train t

module _ (line : Line) (event : Event) (p : Saying) (v w : View) (k : Known) (said count : ℕ → ℕ → ℕ)
    (old : Rel line v w k said) (rises : (u d : ℕ) → said u d ≤ count u d) where
  abbrev pub t : ℕ
  t = p.nid_engine

  abbrev pub c : ℕ
  c = centre_of event

  rises_on : (u d n : ℕ) → k.requested u d n ≡ true → n ≤ count u d
  rises_on u d n is = let low = old.said u d n is in let up = rises u d in omega (arith, low, up)

  -- nothing further is known, and no message was sent
  pub rel_later : Rel line v w k count
  rel_later =
      record { stretch = old.stretch; start = old.start; plain = old.plain; released = old.released; said = rises_on }

  -- the message extends the stretch, and does not arrive
  lost_grown : (grow : Stretch → Option Stretch) → Grows grow
      → ((x z : Stretch) → grow x ≡ Some z → (a : Shortening) → z.asked ≡ Some a
      → k.requested t a.centre a.stamp ≡ true → ⊥)
      → (gets t (option_and_then grow (v.stretch t)) v).stray ≡ false
      → Rel line (gets t (option_and_then grow (v.stretch t)) v) w k count
  lost_grown grow grows fresh founded =
      let g = grew v t grow founded in
      subst (λ (y : View). Rel line y w k count) (sym g.same)
      (rel_changed line v w k said old t (record v { stretch = put v.stretch t (Some g.z) }) w k count
      (λ u apart. put_other v.stretch t u (Some g.z) apart) (λ u apart. refl)
      (λ u apart. refl) (λ u apart d n. refl)
      (λ q is. subst (λ (o : Option Stretch). Fit line o (k.misses t) (k.requested t) q)
      (sym (put_there v.stretch t (Some g.z))) (fits g q (old.stretch t q is)))
      (begins_on line v w k said old) old.released rises_on)
    where
      fits : (g : Grew v t grow) (q : Stretch) → Fit line (v.stretch t) (k.misses t) (k.requested t) q
          → Fit line (Some g.z) (k.misses t) (k.requested t) q
      fits g q (is_part x at lies asked) =
          is_part g.z refl
          (lies_then q x g.z lies (subst (λ (y : Stretch). Lies y g.z) (some_same g.x x (v.stretch t) g.at at)
          (grows.more g.x g.z g.is)))
          (λ a is came. absurd (fresh g.x g.z g.is a is came))
      fits g q (is_nothing missed out) = is_nothing missed out

  -- the message extends the stretch, and arrives
  came_grown : (j : Known) (grow : Stretch → Option Stretch) → Grows grow → j.misses ≡ k.misses
      → ((u : ℕ) → (u ≡ t → ⊥) → (d n : ℕ) → j.requested u d n ≡ k.requested u d n)
      → ((u d n : ℕ) → j.requested u d n ≡ true → n ≤ count u d)
      → ((y x q z : Stretch) → Lies y x → grow x ≡ Some z → grow y ≡ Some q → SameAsked (j.requested t) q z)
      → ((y q : Stretch) → k.misses t ≡ true → IsOut line y → grow y ≡ Some q → IsOut line q)
      → (gets t (option_and_then grow (v.stretch t)) v).stray ≡ false
      → Rel line (gets t (option_and_then grow (v.stretch t)) v)
      (gets t (option_and_then grow (w.stretch t)) w) j count
  came_grown j grow grows misses requested counted same_asked stays_out founded =
      let g = grew v t grow founded in
      subst (λ (y : View). Rel line y (gets t (option_and_then grow (w.stretch t)) w) j count) (sym g.same)
      (rel_changed line v w k said old t (record v { stretch = put v.stretch t (Some g.z) })
      (gets t (option_and_then grow (w.stretch t)) w) j count (λ u apart. put_other v.stretch t u (Some g.z) apart)
      (gets_other (option_and_then grow (w.stretch t))) (λ u apart. ap (λ (f : ℕ → Bool). f u) misses) requested
      (λ q is. subst (λ (o : Option Stretch). Fit line o (j.misses t) (j.requested t) q)
      (sym (put_there v.stretch t (Some g.z))) (by_came g (w.stretch t) refl q is))
      (gets_start (option_and_then grow (w.stretch t))) (gets_released (option_and_then grow (w.stretch t))) counted)
    where
      gets_other : (o : Option Stretch) (u : ℕ) → (u ≡ t → ⊥) → (gets t o w).stretch u ≡ w.stretch u
      gets_other None u apart = refl
      gets_other (Some q) u apart = put_other w.stretch t u (Some q) apart

      gets_start : (o : Option Stretch) (u d : ℕ) (f : Stretch) → v.start u d ≡ Some f
          → ((gets t o w).start u d ≡ Some f) × (f.asked ≡ None)
      gets_start None = begins_on line v w k said old
      gets_start (Some q) = begins_on line v w k said old

      gets_released : (o : Option Stretch) (s : ℕ) → (gets t o w).released s ≡ v.released s
      gets_released None = old.released
      gets_released (Some q) = old.released

      -- a train that has run out, of which a request may not be placed
      out_after : (g : Grew v t grow) (y : Stretch) → w.stretch t ≡ Some y → k.misses t ≡ true → IsOut line y
          → (o : Option Stretch) → grow y ≡ o → (q : Stretch) → (gets t o w).stretch t ≡ Some q
          → Fit line (Some g.z) (j.misses t) (j.requested t) q
      out_after g y at missed out None none q is =
          is_nothing (ap (λ (f : ℕ → Bool). f t) misses ∙ missed)
          (subst (IsOut line) (some_same y q (w.stretch t) at is) out)
      out_after g y at missed out (Some r) grown q is = is_nothing (ap (λ (f : ℕ → Bool). f t) misses ∙ missed)
          (subst (IsOut line) (same_Some r q (sym (put_there w.stretch t (Some r)) ∙ is))
          (stays_out y r missed out grown))

      fits : (g : Grew v t grow) (y : Stretch) → w.stretch t ≡ Some y
          → Fit line (v.stretch t) (k.misses t) (k.requested t) y → (q : Stretch)
          → (gets t (grow y) w).stretch t ≡ Some q → Fit line (Some g.z) (j.misses t) (j.requested t) q
      fits g y at (is_part x there lies asked) q is =
          let low = subst (Lies y) (some_same x g.x (v.stretch t) there g.at) lies in
          let r = grows.both y g.x g.z low g.is in
          let same : r.0 ≡ q = same_Some r.0 q (sym (put_there w.stretch t (Some r.0))
          ∙ sym (ap (λ (o : Option Stretch). (gets t o w).stretch t) r.1) ∙ is) in
          is_part g.z refl (subst (λ (x : Stretch). Lies x g.z) same r.2)
          (same_asked y g.x q g.z low g.is (r.1 ∙ ap (λ (x : Stretch). Some x) same))
      fits g y at (is_nothing missed out) q is = out_after g y at missed out (grow y) refl q is

      by_came : (g : Grew v t grow) (o : Option Stretch) → w.stretch t ≡ o → (q : Stretch)
          → (gets t (option_and_then grow o) w).stretch t ≡ Some q → Fit line (Some g.z) (j.misses t) (j.requested t) q
      by_came g None none q is = absurd (none-some q (sym none ∙ is))
      by_came g (Some y) at q is = fits g y at (old.stretch t y at) q is

  -- ## Authority and request

  pub authority_came : (l : ℕ) → not (k.misses t) ≡ true → (is_told line event p (Authority l) v).stray ≡ false
      → Rel line (is_told line event p (Authority l) v) (is_told line event p (Authority l) w) k count
  authority_came l may founded = came_grown k (extended line event t p.message.nid_lrbg l)
      (extended_grows line event t p.message.nid_lrbg l) refl (λ u apart d n. refl) rises_on
      (λ y x q z lies is grown a asked came.
      absurd (none-some a (sym (extended_asks line event t p.message.nid_lrbg l x z is) ∙ asked)))
      (λ y q missed out grown. absurd (wrong (k.misses t) missed may)) founded
    where
      wrong : (b : Bool) → b ≡ true → not b ≡ true → ⊥
      wrong true one two = cc
      wrong false one two = cc

  pub authority_lost : (l : ℕ) → (is_told line event p (Authority l) v).stray ≡ false
      → Rel line (is_told line event p (Authority l) v) w k count
  authority_lost l founded = lost_grown (extended line event t p.message.nid_lrbg l)
      (extended_grows line event t p.message.nid_lrbg l)
      (λ x z is a asked came. none-some a (sym (extended_asks line event t p.message.nid_lrbg l x z is) ∙ asked))
      founded

  pub request_lost : (l : ℕ) → said t c < p.message.t_train → (is_told line event p (ShorteningRequest l) v).stray
      ≡ false → Rel line (is_told line event p (ShorteningRequest l) v) w k count
  request_lost l fresh founded = lost_grown (asked_for line c p.message.t_train p.message.nid_lrbg l)
      (asked_grows line c p.message.t_train p.message.nid_lrbg l) by_fresh founded
    where
      by_fresh : (x z : Stretch) → asked_for line c p.message.t_train p.message.nid_lrbg l x ≡ Some z → (a : Shortening)
          → z.asked ≡ Some a → k.requested t a.centre a.stamp ≡ true → ⊥
      by_fresh x z is a asked came =
          let h = asked_is line c p.message.t_train p.message.nid_lrbg l x z is in
          let one : record { centre = c; stamp = p.message.t_train; end = h.e } ≡ a =
          same_Some _ a (sym (ap (λ (y : Stretch). y.asked) h.is) ∙ asked) in
          let low =
          old.said t c p.message.t_train (ap (λ (b : Shortening). k.requested t b.centre b.stamp) one ∙ came) in
          omega (arith, low, fresh)

  pub request_came : (l : ℕ) → p.message.t_train ≤ count t c
      → (is_told line event p (ShorteningRequest l) v).stray ≡ false
      → Rel line (is_told line event p (ShorteningRequest l) v) (is_told line event p (ShorteningRequest l) w)
      (after_coming c p (ShorteningRequest l) k) count
  request_came l counted founded = came_grown (after_coming c p (ShorteningRequest l) k) grow
      (asked_grows line c p.message.t_train p.message.nid_lrbg l) refl others all_counted same_request still_out founded
    where
      grow : Stretch → Option Stretch
      grow = asked_for line c p.message.t_train p.message.nid_lrbg l

      others : (u : ℕ) → (u ≡ t → ⊥) → (d n : ℕ) → (((u == t && d == c) && n == p.message.t_train) || k.requested u d n)
          ≡ k.requested u d n
      others u apart d n = ap (λ (b : Bool). ((b && d == c) && n == p.message.t_train)
          || k.requested u d n) (ne_eqb u t apart)

      all_counted : (u d n : ℕ) → (((u == t && d == c) && n == p.message.t_train) || k.requested u d n) ≡ true
          → n ≤ count u d
      all_counted u d n is = elim (or_cases ((u == t && d == c) && n == p.message.t_train) (k.requested u d n) is) [
        | inl h ↦ let both = and_parts (u == t && d == c) (n == p.message.t_train) h in
            let pair = and_parts (u == t) (d == c) both.0 in
            let low = counted in
            subst (λ (e : ℕ). e ≤ count u d) (sym (eqb-true n p.message.t_train both.1))
            (subst (λ (e : ℕ). p.message.t_train ≤ count u e) (sym (eqb-true d c pair.1))
            (subst (λ (e : ℕ). p.message.t_train ≤ count e c) (sym (eqb-true u t pair.0)) low))
        | inr h ↦ rises_on u d n h
      ]

      same_request : (y x q z : Stretch) → Lies y x → grow x ≡ Some z → grow y ≡ Some q → (a : Shortening)
          → z.asked ≡ Some a → (after_coming c p (ShorteningRequest l) k).requested t a.centre a.stamp ≡ true
          → q.asked ≡ Some a
      same_request y x q z lies is grown a asked came =
          let h = asked_is line c p.message.t_train p.message.nid_lrbg l x z is in
          let g = asked_is line c p.message.t_train p.message.nid_lrbg l y q grown in
          let ends : g.e ≡ h.e = some_same g.e h.e (metres_from line p.message.nid_lrbg l y) g.metres
          (metres_same line p.message.nid_lrbg l y x lies.track ∙ h.metres) in
          ap (λ (s : Stretch). s.asked) g.is
          ∙ ap (λ (e : ℕ). Some (record { centre = c; stamp = p.message.t_train; end = e })) ends
          ∙ sym (ap (λ (s : Stretch). s.asked) h.is) ∙ asked

      still_out : (y q : Stretch) → k.misses t ≡ true → IsOut line y → grow y ≡ Some q → IsOut line q
      still_out y q missed out grown =
          let g = asked_is line c p.message.t_train p.message.nid_lrbg l y q grown in
          subst (IsOut line) (sym g.is) (record { run_out = out.run_out; none = out.none })
