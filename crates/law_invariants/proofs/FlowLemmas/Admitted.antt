-- The state that the one line centre shows after the act: the start is admitted.
use Rattle.std.proofs.Common.{[], ⊎_elim, ◌+◌, ◌<◌, ◌==◌, ◌∙◌, ◌∷◌, ◌≡◌, ◌≢◌, ap, arith, Bool, eq-eqb, false}
use Rattle.std.proofs.Common.{if◌then◌else◌, inl, inr, is_some, nat_lt, None, Option, refl, Some, subst, sym, true, ℕ}
use Rattle.std.proofs.lemmas.Bool.{and_from, cases_eq, cond-true, lt-ltb, ltb-true}
use Rattle.std.specs.Prelude.{Contains}
use Rattle.law_base.proofs.CountingLemmas.Network.{counted_took, way_acted_none, way_took_other}
use Rattle.law_base.proofs.CountingLemmas.Resource.{placed_acted, placed_took, sent_none}
use Rattle.law_base.proofs.CountingLemmas.Sums.{cases_link, one_if_true, put_keeps, put_other, put_same}
use Rattle.law_base.specs.Counting.Network.{acted, TakesHead, took, way}
use Rattle.law_base.specs.Counting.Resource.{carried, placed}
use Rattle.law_base.specs.Counting.Sums.{one_if, put}
use Rattle.law_base.specs.Local.Local.{hand_has}
use Rattle.law_invariants.proofs.FlowLemmas.AdmittedSound as kept
use Rattle.law_invariants.proofs.FlowLemmas.Lists.{carried_contains, one_home, pair_put, taken_is}
use Rattle.law_invariants.proofs.FlowLemmas.Seats.{nothing_sent}
use Rattle.law_invariants.proofs.FlowLemmas.Takes.{given_is}
use Rattle.law_invariants.specs.Flow.Counts.{hands, missions, yield_inside}
use Rattle.law_invariants.specs.Flow.Flow.{centre_count, Flow}
use Rattle.law_invariants.specs.Flow.Leads.{Leads, one_message}
use Rattle.law_invariants.specs.Flow.Shows.{is_in_hand, shown, Shows}
use Rattle.law_invariants.specs.Flow.Sound.{IsFlowSound}
use Rattle.rbc_spec.proofs.Held.{contains_more}
use Rattle.rbc_spec.specs.Acts.{begun}
use Rattle.rbc_spec.specs.Centre as centre
use Rattle.rbc_spec.specs.Centre.{Centre, Entry, is_taken_for}
use Rattle.rbc_spec.specs.Frame.{Body, GiveRight, Yield, yielded_place}
use Rattle.rbc_spec.specs.Line.{is_centre, is_home, Line, section}
use Rattle.rbc_spec.specs.LineCentre as line_centre
use Rattle.rbc_spec.specs.LineCentre.{LineState, nothing, Said, says}
use Rattle.rbc_spec.specs.Links.{received}
use Rattle.rbc_spec.specs.Maps.{has, put_pair}
use Rattle.rbc_spec.specs.Message.{TrainAccepted, unknown_group}
use Rattle.rbc_spec.specs.OwnSteps.{begins, begun_at}
use Rattle.rbc_spec.specs.Place.{covered, Place}
use Rattle.rbc_spec.specs.Quiet.{Admit, TakesAll}
use Rattle.rbc_spec.specs.ReadOff.{seen}
use Rattle.rbc_spec.specs.SectionRuns.{within}

module _ (line : Line) (w : Flow) (sound : IsFlowSound line w) (v : LineState) (sees : Shows line w v)
    (a c t number : ℕ) (place : Place) (from : is_centre line a ≡ true) (to : is_centre line c ≡ true)
    (takes : TakesHead w a c (GiveRight t)) (waits : (w.at c).wait t ≡ Some place) where
  abbrev k : Centre
  k = w.at c

  abbrev y : Centre
  y = kept.y line w sound a c t number place from to takes waits

  abbrev new : Flow
  new = acted (took w a c) c y (λ d. [])

  small : a < centre_count line
  small = ltb-true a (centre_count line) from

  below : c < centre_count line
  below = ltb-true c (centre_count line) to

  no_right : (d : ℕ) → d < centre_count line → one_if ((w.at d).has_right t) + one_if (is_some ((w.at d).mission t)) ≡ 0
  no_right = kept.no_right line w sound a c t number place from to takes waits

  none_here : k.mission t ≡ None
  none_here = kept.none_here line w sound a c t number place from to takes waits

  taken_here : (s : ℕ) → within (covered line place) s ≡ true → is_taken_for t (k.book s) ≡ true
  taken_here = kept.taken_here line w sound a c t number place from to takes waits

  home_here : (s : ℕ) → within (covered line place) s ≡ true → is_home line c s ≡ true
  home_here = kept.home_here line w sound a c t number place from to takes waits

  none_on_way : (i j : ℕ) → i < centre_count line → j < centre_count line → carried (missions t) i j (way w i j) ≡ 0
  none_on_way = kept.none_on_way line w sound a c t number place from to takes waits

  no_missions : placed (missions t) (centre_count line) w ≡ 0
  no_missions = kept.no_missions line w sound a c t number place from to takes waits

  abbrev after : LineState
  after = says t c (record (begins line t c place v) { wait = put_pair v.wait t c None })

  -- ## Sections in hands

  in_hands : (u s : ℕ) → placed (hands u s) (centre_count line) new + one_if (hand_has (k.mission u) s)
      ≡ placed (hands u s) (centre_count line) w + one_if (hand_has (y.mission u) s)
  in_hands u s = omega (
    arith,
    placed_acted (hands u s) (centre_count line) (took w a c) c y (λ d. [])
        (counted_took w a c (GiveRight t) takes sound.counted) below,
    placed_took (hands u s) (centre_count line) w a c (GiveRight t) takes small below,
    sent_none (hands u s) (centre_count line) c,
  )

  others_same : (u s : ℕ) → (u ≡ t → within (covered line place) s ≡ false)
      → is_in_hand line new s u ≡ is_in_hand line w s u
  others_same u s apart = ap (nat_lt 0) (⊎_elim
      (λ (here : u ≡ t). omega (
        arith,
        in_hands u s,
        ap (λ x. one_if (hand_has (k.mission x) s)) here
            ∙ ap (λ (o : Option centre.Mission). one_if (hand_has o s)) none_here,
        ap (λ x. one_if (hand_has (y.mission x) s)) here
            ∙ ap (λ (o : Option centre.Mission). one_if (hand_has o s)) (put_same k.mission t (Some (begun line place)))
            ∙ ap one_if (apart here),
      ))
      (λ (other : u ≢ t).
      omega (
        arith,
        in_hands u s,
        ap (λ (o : Option centre.Mission). one_if (hand_has o s))
            (put_other k.mission t (Some (begun line place)) u other),
      ))
      (cases_eq u t))

  now_given : (s : ℕ) → within (covered line place) s ≡ true → is_in_hand line new s t ≡ true
  now_given s is = lt-ltb 0 (placed (hands t s) (centre_count line) new) (omega (
    arith,
    in_hands t s,
    ap (λ (o : Option centre.Mission). one_if (hand_has o s)) none_here,
    ap (λ (o : Option centre.Mission). one_if (hand_has o s)) (put_same k.mission t (Some (begun line place))),
    one_if_true (within (covered line place) s) is,
  ))

  book_kept : (d s : ℕ) → (put w.at c y d).book s ≡ (w.at d).book s
  book_kept d s = put_keeps (λ j (z : Centre). z.book s) w.at c y refl d

  given_same : (s : ℕ) → within (covered line place) s ≡ false → is_in_hand line new s ≡ is_in_hand line w s
  given_same s is = λ i u. others_same u s (λ e. is) i

  marks : (s d : ℕ) → is_home line d s ≡ true → after.mark s ≡ shown ((new.at d).book s) (is_in_hand line new s)
  marks s d home = by_cover (within (covered line place) s) refl
    where
      by_cover : (b : Bool) → within (covered line place) s ≡ b
          → (if b then line_centre.Given t else v.mark s) ≡ shown ((new.at d).book s) (is_in_hand line new s)
      by_cover true is =
          let same : d ≡ c = one_home line d c s home (home_here s is) in
          sym (ap (λ (e : Entry). shown e (is_in_hand line new s)) (book_kept d s ∙ ap (λ x. (w.at x).book s) same
          ∙ taken_is t (k.book s) (taken_here s is))
          ∙ cond-true (is_in_hand line new s t) (line_centre.Given t) (line_centre.Kept t) (now_given s is))
      by_cover false is = sees.mark s d home ∙ ap (λ e. shown e (is_in_hand line w s)) (sym (book_kept d s))
          ∙ ap (shown ((new.at d).book s)) (sym (given_same s is))

  in_missions : (u : ℕ) → placed (missions u) (centre_count line) new + one_if (is_some (k.mission u))
      ≡ placed (missions u) (centre_count line) w + one_if (is_some (y.mission u))
  in_missions u = omega (
    arith,
    placed_acted (missions u) (centre_count line) (took w a c) c y (λ d. [])
        (counted_took w a c (GiveRight t) takes sound.counted) below,
    placed_took (missions u) (centre_count line) w a c (GiveRight t) takes small below,
    sent_none (missions u) (centre_count line) c,
  )

  some_mission : placed (missions t) (centre_count line) new ≡ 0 → ⊥
  some_mission none =
      omega (
        arith,
        none,
        in_missions t,
        ap (λ (o : Option centre.Mission). one_if (is_some o)) none_here,
        ap (λ (o : Option centre.Mission). one_if (is_some o)) (put_same k.mission t (Some (begun line place))),
      )

  in_way : (i j : ℕ) (f : Body) → Contains (way new i j) f → Contains (way w i j) f
  in_way i j f is = ⊎_elim
      (λ (here : (i ≡ a) × (j ≡ c)). subst (λ x. Contains (way w x j) f) (sym here.0)
      (subst (λ x. Contains (way w a x) f) (sym here.1)
      (subst (λ fs. Contains fs f) (sym takes.head) (contains_more (GiveRight t) f (way (took w a c) a c)
      (subst (λ x. Contains (way (took w a c) a x) f) here.1
      (subst (λ x. Contains (way (took w a c) x j) f) here.0 is_there))))))
      (λ (apart : i ≡ a → j ≢ c). subst (λ fs. Contains fs f) (way_took_other w a c i j apart) is_there)
      (cases_link i j a c)
    where
      is_there : Contains (way (took w a c) i j) f
      is_there = subst (λ fs. Contains fs f) (way_acted_none (took w a c) c y i j) is

  by_section : (s : ℕ) → section line s ≡ None → (b : Bool) → within (covered line place) s ≡ b
      → (if b then line_centre.Given t else v.mark s) ≡ line_centre.Shut
  by_section s none true is = absurd (let wrong : false ≡ true = sym (ap (has (λ p. p.home == c)) none)
      ∙ home_here s is in cc)
  by_section s none false is = sees.no_section s none

  none_at : (d : ℕ) (b : Bool) → is_centre line d ≡ b → is_some ((w.at d).mission t) ≡ true → ⊥
  none_at d true at is = omega (arith, no_right d (ltb-true d (centre_count line) at), one_if_true _ is)
  none_at d false at is = let wrong : false ≡ true = sym (ap is_some (sound.no_mission d t at)) ∙ is in cc

  none_yields : (i j : ℕ) (b e : Bool) → is_centre line i ≡ b → is_centre line j ≡ e → (f : Body)
      → Contains (way w i j) f → yield_inside t f ≡ 1 → ⊥
  none_yields i j true true from at f is one =
      omega (
        arith,
        carried_contains (missions t) i j (way w i j) f is,
        one,
        none_on_way i j (ltb-true i (centre_count line) from) (ltb-true j (centre_count line) at),
      )
  none_yields i j false e from at f is one = nothing_sent w i j (sound.no_sent i j (inl from)) f is
  none_yields i j true false from at f is one = nothing_sent w i j (sound.no_sent i j (inr at)) f is

  missions_seen : (u d : ℕ) (m : centre.Mission) → (put w.at c y d).mission u ≡ Some m
      → put v.mission t (Some (begun_at c place)) u ≡ Some (seen d m)
  missions_seen u d m is = ⊎_elim
      (λ (here : u ≡ t). ⊎_elim
      (λ (at : d ≡ c). let begun_is : ◌≡◌ {A = Option centre.Mission} (Some (begun line place)) (Some m) =
      sym (cond-true (u == t) (Some (begun line place)) (k.mission u) (eq-eqb u t here))
      ∙ sym (ap (λ (z : Centre). z.mission u) (cond-true (d == c) y (w.at d) (eq-eqb d c at))) ∙ is in
      cond-true (u == t) (Some (begun_at c place)) (v.mission u) (eq-eqb u t here) ∙ seen_so m d begun_is at)
      (λ (apart : d ≢ c). absurd (none_at d (is_centre line d) refl (ap (λ x. is_some ((w.at d).mission x)) (sym here)
      ∙ ap is_some (sym (ap (λ (z : Centre). z.mission u) (put_other w.at c y d apart)) ∙ is))))
      (cases_eq d c))
      (λ (other : u ≢ t). put_other v.mission t (Some (begun_at c place)) u other
      ∙ sees.mission u d m
      (sym (put_keeps (λ j (z : Centre). z.mission u) w.at c y
      (put_other k.mission t (Some (begun line place)) u other) d) ∙ is))
      (cases_eq u t)
    where
      seen_so : (x : centre.Mission) (e : ℕ) → ◌≡◌ {A = Option centre.Mission} (Some (begun line place)) (Some x)
          → e ≡ c → Some (begun_at c place) ≡ Some (seen e x)
      seen_so x e same at = let what : begun line place ≡ x = cc in ap (λ z. Some (seen c z)) what
          ∙ ap (λ z. Some (seen z x)) (sym at)

  pub shows : Shows line new after
  shows = record {
    phase = λ u d. sees.phase u d ∙ sym (put_keeps (λ j (z : Centre). z.phase u) w.at c y refl d);
    heard = λ u d. sees.heard u d ∙ sym (put_keeps (λ j (z : Centre). z.heard u) w.at c y refl d);
    said = pair_put (λ z. z.said) v.said w.at c y t (v.said t c + 1) sees.said
        (λ u. ap (λ m. put k.said t (m + 1) u) (sym (sees.said t c)));
    wait = pair_put (λ z. z.wait) v.wait w.at c y t None sees.wait (λ u. refl);
    wish = λ s d home. sees.wish s d home ∙ sym (put_keeps (λ j (z : Centre). z.wish s) w.at c y refl d);
    mark = marks;
    no_section = λ s none. by_section s none (within (covered line place) s) refl;
    no_wish = sees.no_wish;
    mission = missions_seen;
    on_way = λ i j h u heard has_data is_ended p hand is.
        ⊎_elim (λ (here : u ≡ t).
        absurd (none_yields i j (is_centre line i) (is_centre line j) refl refl _
        (in_way i j (Yield h u heard has_data is_ended (yielded_place p) hand) is)
        (one_if_true (u == t) (eq-eqb u t here))))
        (λ (other : u ≢ t). put_other v.mission t (Some (begun_at c place)) u other
        ∙ sees.on_way i j h u heard has_data is_ended p hand
        (in_way i j (Yield h u heard has_data is_ended (yielded_place p) hand) is)) (cases_eq u t);
    no_mission =
        λ u none.
        ⊎_elim (λ (here : u ≡ t).
        absurd (some_mission (subst (λ x. placed (missions x) (centre_count line) new ≡ 0) here none)))
        (λ (other : u ≢ t). put_other v.mission t (Some (begun_at c place)) u other
        ∙ sees.no_mission u
        (omega (
          arith,
          none,
          in_missions u,
          ap (λ (o : Option centre.Mission). one_if (is_some o))
              (put_other k.mission t (Some (begun line place)) u other),
        ))) (cases_eq u t);
  }

  -- the start is admitted
  pub admits : TakesAll line v (Admit t c ∷ []) (one_message t c unknown_group TrainAccepted [] v) after
  admits = (
    one_message t c unknown_group TrainAccepted [] v,
    nothing,
    after,
    record {
      place = place;
      waits = sees.wait t c ∙ waits;
      no_mission = sees.no_mission t no_missions;
      says = record { said_is = refl; new_is = refl };
    },
    (refl, refl),
    refl,
  )

  -- ## As an act

  said_so : one_message t c unknown_group TrainAccepted [] v
      ≡ record {
        sayings = record {
          nid_engine = t;
          message = record { t_train = k.said t + 1; nid_lrbg = unknown_group; body = TrainAccepted };
        } ∷ [];
        words = [];
      }
  said_so =
      ap (λ n. record {
        sayings = record {
          nid_engine = t;
          message = record { t_train = n + 1; nid_lrbg = unknown_group; body = TrainAccepted };
        } ∷ [];
        words = [];
      }) (sees.said t c)

  pub leads : k.has_asked t ≡ true
      → Leads line (took w a c) c (received line c a (GiveRight t) (record k { taken = put k.taken a number })) v
  leads asked = subst (λ r. Leads line (took w a c) c r v)
      (sym (given_is line c a t place (record k { taken = put k.taken a number })
      ((sound.centres c to).wait_known t place waits).0 asked waits none_here))
      (record {
        quiets = Admit t c ∷ [];
        new = after;
        takes = subst (λ (said : Said). TakesAll line v (Admit t c ∷ []) said after) said_so admits;
        own_centre = and_from (c == c) true (eq-eqb c c refl) refl;
        shows = shows;
        sound = kept.keeps line w sound a c t number place from to takes waits;
      })
