-- A sound centre stays so as its interlocking sets and unsets sections, and as sections are lent and returned.
use Rattle.std.proofs.Common.{[], ⊎_elim, ◌&&◌, ◌+◌, ◌-◌, ◌==◌, ◌∙◌, ◌∷◌, ◌≡◌, ◌≢◌, All, ap, arith, Bool, eqb-true}
use Rattle.std.proofs.Common.{false, if◌then◌else◌, is_none, is_some, None, not, Option, refl, Some, subst, sym, true}
use Rattle.std.proofs.Common.{ℕ}
use Rattle.std.proofs.lemmas.Bool.{and_parts, and_right, both_ways, cases_eq, eqb-false, false_from_ne_true, ne_eqb}
use Rattle.std.proofs.lemmas.Bool.{not-false}
use Rattle.std.proofs.lemmas.List.Elements.{All-cons, All-nil}
use Rattle.std.specs.Option.{option_map_or}
use Rattle.law_base.proofs.LocalLemmas.Entries.{given, taken_given, unused_taken}
use Rattle.law_invariants.proofs.SoundLemmas.Again.{book_sound, changed_sound, free_sound, said_sound}
use Rattle.law_invariants.proofs.SoundLemmas.Leaving.{ordered_end}
use Rattle.law_invariants.proofs.SoundLemmas.Reports.{other_words}
use Rattle.law_invariants.proofs.SoundLemmas.Sends.{away, given_unused, if_reply, if_sound, leaves, lent_for}
use Rattle.law_invariants.proofs.SoundLemmas.Sends.{lent_unused, none_sent, one_sent, or_reply, rest_sound}
use Rattle.law_invariants.proofs.SoundLemmas.Sends.{returned_sent, shut_unbooked, Sound, then_sound}
use Rattle.law_invariants.specs.Flow.Sound.{IsBodySound, IsCentreSound, IsMissionAt, IsOfNext}
use Rattle.rbc_spec.proofs.Lists.{one_home, put_here, put_other}
use Rattle.rbc_spec.proofs.Runs.{each_within, within_from, within_true}
use Rattle.rbc_spec.specs.Acts.{◌>>◌, become, booked, change_mission, end_order, freed, may_propose, propose}
use Rattle.rbc_spec.specs.Acts.{propose_if_so, rest, returned, send, where_so}
use Rattle.rbc_spec.specs.Centre.{Centre, Entry, is_expected, is_open, is_out_for, is_taken_for, is_unused, Mission}
use Rattle.rbc_spec.specs.Centre.{Open, Out, Shut, Taken, uses_some}
use Rattle.rbc_spec.specs.Frame.{RouteInfo, RouteReturn, RouteWithdraw}
use Rattle.rbc_spec.specs.Line.{is_centre, is_home, is_linked, IsLine, Line, Section, section}
use Rattle.rbc_spec.specs.Links.{is_of_line, is_wanted, lendable, route_asked, route_returned, route_told}
use Rattle.rbc_spec.specs.Links.{route_withdrawn}
use Rattle.rbc_spec.specs.Maps.{has, put}
use Rattle.rbc_spec.specs.Outcome.{Asked, Done, NotHome, Word}
use Rattle.rbc_spec.specs.Rules.{tell}
use Rattle.rbc_spec.specs.SectionRuns.{all_of, is_empty, next_after, part_before, part_from, SectionRun, within}
use Rattle.rbc_spec.specs.Sections.{is_on, is_on_track}
use Rattle.rbc_spec.specs.Step.{make, set, unset, wished, withdraw}

-- # A sound centre stays so as its interlocking sets and unsets sections, and as requests to shorten are made.

module _ (line : Line) (ok : IsLine line) (c : ℕ) where
  -- ## Shortening

  pub propose_sound : (t s : ℕ) (k : Centre) → IsCentreSound line c k → Sound line c (propose_if_so line t s k)
  propose_sound t s k old = or_reply line c (k.mission t) _ (rest k)
      (λ m at. if_reply line c (may_propose line t s m k) (propose line t s m k) (rest k)
      (λ may. then_sound line c _
      (change_mission t (λ n. record n { proposal = Some (record { stamp = k.said t + 1; last_kept = s - 1 }) })) k
      (said_sound line c k old t)
      (λ j is sound. changed_sound line c j sound t
      (λ n. record n { proposal = Some (record { stamp = k.said t + 1; last_kept = s - 1 }) }) (λ n there. refl)
      (λ n there. other_words line ok c j n n.has_data n.is_ended
      (Some (record { stamp = k.said t + 1; last_kept = s - 1 })) (sound.mission t n there))))
      (λ no. rest_sound line c k old))
      (λ none. rest_sound line c k old)

  told : (word : Word) (k : Centre) → IsCentreSound line c k → Sound line c (tell word k)
  told word k old = leaves line c old (none_sent line c)

  -- ## Set and unset

  -- one unused section has another unused entry, and is not wished back
  made : (s : ℕ) (entry : Entry) (k : Centre) → is_unused entry ≡ true → is_unused (k.book s) ≡ true
      → is_home line c s ≡ true → IsCentreSound line c k → Sound line c (make s entry false k)
  made s entry k new unused home old = leaves line c (book_sound line c k old (put k.book s entry) (put k.wish s false)
      (λ x away. by_section x (λ e. absurd (both_ways (is_home line c x) away (ap (is_home line c) e ∙ home)))
      (λ other. put_other k.book s x entry other ∙ old.foreign x away))
      (λ x is. by_section x (λ e. put_here k.wish s x false e) (λ other. put_other k.wish s x false other
      ∙ old.unwished x (sym (ap is_unused (put_other k.book s x entry other)) ∙ is)))
      (λ x u. by_section x
      (λ e. ap (is_taken_for u) (put_here k.book s x entry e) ∙ unused_taken u entry new
      ∙ sym (ap (λ i. is_taken_for u (k.book i)) e ∙ unused_taken u (k.book s) unused))
      (λ other. ap (is_taken_for u) (put_other k.book s x entry other)))) (none_sent line c)
    where
      by_section : {P : Type 0} (x : ℕ) → (x ≡ s → P) → (x ≢ s → P) → P
      by_section x here other = ⊎_elim here other (cases_eq x s)

  -- another wish, of a section that is wished back only if it is used
  wished_sound : (s : ℕ) (wish : Bool) (k : Centre) → (is_unused (k.book s) ≡ true → wish ≡ false)
      → IsCentreSound line c k → IsCentreSound line c (record k { wish = put k.wish s wish })
  wished_sound s wish k used old = book_sound line c k old k.book (put k.wish s wish) old.foreign
      (λ x is. ⊎_elim
      (λ (e : x ≡ s). put_here k.wish s x wish e ∙ used (ap (λ i. is_unused (k.book i)) (sym e) ∙ is))
      (λ (other : x ≢ s). put_other k.wish s x wish other ∙ old.unwished x is)
      (cases_eq x s))
      (λ x u. refl)

  pub set_sound : (s : ℕ) (k : Centre) → IsCentreSound line c k → Sound line c (set line c s k)
  set_sound s k old = if_reply line c (not (is_home line c s)) (tell (NotHome s) k) _ (λ away. told (NotHome s) k old)
      (λ at. let home = not-false (is_home line c s) at in
      then_sound line c (become (λ j. record j { wish = put j.wish s false }))
      ((if is_unused (k.book s) then make s Open false else rest) >> tell (Done s)) k
      (leaves line c (wished_sound s false k (λ unused. refl) old) (none_sent line c))
      (λ j is sound. then_sound line c (if is_unused (k.book s) then make s Open false else rest) (tell (Done s)) j
      (if_sound line c (is_unused (k.book s)) (make s Open false) rest j
      (λ unused. made s Open j refl (ap (λ (x : Centre). is_unused (x.book s)) is ∙ unused) home sound)
      (λ used. rest_sound line c j sound))
      (λ i same last. told (Done s) i last)))

  -- a section is withdrawn from centres of the line
  withdraw_sound : (t s : ℕ) (k : Centre) → IsCentreSound line c k → Sound line c (withdraw line c t s k)
  withdraw_sound t s k old =
      leaves line c old
      (record {
        inside = λ d out. none_outside d (is_linked line c d) refl out;
        bodies = λ d. each d (is_linked line c d);
      })
    where
      none_outside : (d : ℕ) (b : Bool) → is_linked line c d ≡ b → is_centre line d ≡ false
          → (if b then RouteWithdraw t s ∷ [] else []) ≡ []
      none_outside d true linked out =
          absurd (both_ways (is_centre line d) out
          (and_parts (is_centre line c) (is_centre line d)
          (and_parts (is_centre line c && is_centre line d) (not (c == d)) linked).0).1)
      none_outside d false apart out = refl

      each : (d : ℕ) (b : Bool) → All (IsBodySound line c d) (if b then RouteWithdraw t s ∷ [] else [])
      each d true = All-cons (IsBodySound line c d) (RouteWithdraw t s) [] (record {}) (All-nil (IsBodySound line c d))
      each d false = All-nil (IsBodySound line c d)

  withdrawn : (s : ℕ) (e : Entry) (k : Centre) → IsCentreSound line c k → Sound line c (wished line c s e k)
  withdrawn s (Taken t) k old = propose_sound t s k old
  withdrawn s (Out t) k old = withdraw_sound t s k old
  withdrawn s Shut k old = rest_sound line c k old
  withdrawn s Open k old = rest_sound line c k old

  pub unset_sound : (s : ℕ) (k : Centre) → IsCentreSound line c k → Sound line c (unset line c s k)
  unset_sound s k old = if_reply line c (not (is_home line c s)) (tell (NotHome s) k) _ (λ away. told (NotHome s) k old)
      (λ at. let home = not-false (is_home line c s) at in
      if_sound line c (is_unused (k.book s)) (make s Shut false >> tell (Done s))
      ((become (λ j. record j { wish = put j.wish s true }) >> tell (Asked s)) >> wished line c s (k.book s)) k
      (λ unused. then_sound line c (make s Shut false) (tell (Done s)) k (made s Shut k refl unused home old)
      (λ j is sound. told (Done s) j sound))
      (λ used. then_sound line c (become (λ j. record j { wish = put j.wish s true }) >> tell (Asked s))
      (wished line c s (k.book s)) k
      (then_sound line c (become (λ j. record j { wish = put j.wish s true })) (tell (Asked s)) k
      (leaves line c (wished_sound s true k (λ unused. absurd (both_ways (is_unused (k.book s)) used unused)) old)
      (none_sent line c))
      (λ j is sound. told (Asked s) j sound))
      (λ j is sound. withdrawn s (k.book s) j sound)))

-- # A sound centre stays sound while sections are lent over a border, and returned.

-- an open section that is lent was taken for no train, and is taken for none
open_lent : (t u : ℕ) (b : Bool) (e : Entry) → is_taken_for u (lent_for t (b && is_open e) e) ≡ is_taken_for u e
open_lent t u true Shut = refl
open_lent t u true Open = refl
open_lent t u true (Taken v) = refl
open_lent t u true (Out v) = refl
open_lent t u false e = refl

-- a section that was out and is returned was taken for no train, and is taken for none
out_home : (t u : ℕ) (b : Bool) (e : Entry) → (not (b && is_out_for t e) && is_taken_for u e) ≡ is_taken_for u e
out_home t u true (Taken v) = refl
out_home t u true Shut = refl
out_home t u true Open = refl
out_home t u true (Out v) = and_right (not (is_out_for t (Out v))) false refl
out_home t u false e = refl

asked_first : {n : ℕ} (o : Option ℕ) → has (λ first. first == n) o ≡ true → o ≡ Some n
asked_first None is = cc
asked_first {n} (Some first) is = ap (λ x. Some x) (eqb-true first n is)

-- an ask that ends leaves the others
unasked : (t u first : ℕ) (k : Centre) → put k.route_ask t None u ≡ Some first → k.route_ask u ≡ Some first
unasked t u first k asks = ⊎_elim
    (λ (here : u ≡ t). let wrong : None ≡ Some first = sym (put_here k.route_ask t u None here) ∙ asks in cc)
    (λ (other : u ≢ t). sym (put_other k.route_ask t u None other) ∙ asks)
    (cases_eq u t)

module _ (line : Line) (ok : IsLine line) (c d : ℕ) (to : is_centre line d ≡ true) where
  pub asked_route : (t first most : ℕ) (k : Centre) → IsCentreSound line c k
      → Sound line c (route_asked line c d t first most k)
  asked_route t first most k old =
      let r : SectionRun = lendable line c k first most in
      if_reply line c (is_some (section line first)) _ (rest k)
      (λ there. then_sound line c (booked is_open (Out t) r) (send d (RouteInfo t r)) k
      (leaves line c (book_sound line c k old (λ s. lent_for t (within r s && is_open (k.book s)) (k.book s)) k.wish
      (λ s out. shut_unbooked (within r s) (Out t) (k.book s) (old.foreign s out) is_open refl)
      (λ s unused. lent_unused t (within r s && is_open (k.book s)) (k.wish s) (k.book s) (old.unwished s) unused)
      (λ s u. open_lent t u (within r s) (k.book s))) (none_sent line c))
      (λ j is sound. leaves line c sound (one_sent line c d (RouteInfo t r) j to (record {}))))
      (λ none. rest_sound line c k old)

  -- from another centre
  pub told_route : c ≢ d → (t : ℕ) (r : SectionRun) (k : Centre) → IsCentreSound line c k
      → Sound line c (route_told line c d t r k)
  told_route apart t r k old =
      if_reply line c ((has (λ first. first == r.first) (k.route_ask t)
      && (is_of_line line r && is_home line d r.first)) && all_of (is_home line d) r) _ (rest k)
      (λ mine. then_sound line c (become (λ j. record j { route_ask = put j.route_ask t None })) _ k
      (leaves line c (free_sound line c k old (record k { route_ask = put k.route_ask t None }) refl refl refl refl
      (λ u is. is) (omega arith) (λ u first asks. old.asks u first (unasked t u first k asks))) (none_sent line c))
      (λ j is sound. if_reply line c (has (is_wanted line r) (j.mission t)) _ _
      (λ wanted. changed_sound line c j sound t (λ m. record m { pool = r }) (λ n at. refl)
      (λ n at. pooled j n (ap (λ o. option_map_or (is_wanted line r) o false) (sym at) ∙ wanted)
      (and_parts (is_of_line line r) (is_home line d r.first)
      (and_parts (has (λ first. first == r.first) (k.route_ask t)) (is_of_line line r && is_home line d r.first)
      (and_parts _ (all_of (is_home line d) r) mine).0).1).0
      (and_parts _ (all_of (is_home line d) r) mine).1
      (and_parts (is_of_line line r) (is_home line d r.first)
      (and_parts (has (λ first. first == r.first) (k.route_ask t)) (is_of_line line r && is_home line d r.first)
      (and_parts _ (all_of (is_home line d) r) mine).0).1).1
      (old.asks t r.first
      (asked_first (k.route_ask t) (and_parts (has (λ first. first == r.first) (k.route_ask t)) (is_of_line line r
      && is_home line d r.first) (and_parts _ (all_of (is_home line d) r) mine).0).0))
      (sound.mission t n at)))
      (λ no. if_sound line c (is_empty r) rest (send d (RouteReturn t r)) j (λ none. rest_sound line c j sound)
      (λ some. leaves line c sound (one_sent line c d (RouteReturn t r) j to (record {}))))))
      (λ not_mine. rest_sound line c k old)
    where
      -- a run of one track that begins on this one is on it
      on_track : (track : ℕ) → is_of_line line r ≡ true → is_on line track r.first ≡ true → (s : ℕ) → within r s ≡ true
          → is_on line track s ≡ true
      on_track track of_line first s has = by_section (section line r.first) of_line first
        where
          by_section : (o : Option Section) → option_map_or (λ p. is_on_track line p.track r) o false ≡ true
              → option_map_or (λ p. p.track == track) o false ≡ true → is_on line track s ≡ true
          by_section None all at = cc
          by_section (Some p) all at = subst (λ x. is_on line x s ≡ true) (eqb-true p.track track at)
              (each_within (λ x. is_on line p.track x) r all s has)

      pooled : (j : Centre) (n : Mission) → is_wanted line r n ≡ true → is_of_line line r ≡ true
          → all_of (is_home line d) r ≡ true → is_home line d r.first ≡ true → IsOfNext line c r.first
          → IsMissionAt line c j n → IsMissionAt line c j (record n { pool = r })
      pooled j n wanted of_line homes first_home asked is = record {
        hand = is.hand;
        pool_follows = λ some. eqb-true r.first (next_after n.hand)
            (and_parts (r.first == next_after n.hand) (is_on line n.place.track r.first)
            (and_parts ((r.first == next_after n.hand) && is_on line n.place.track r.first) _ wanted).0).0;
        pool_on =
            on_track n.place.track of_line (and_parts (r.first == next_after n.hand) (is_on line n.place.track r.first)
            (and_parts ((r.first == next_after n.hand) && is_on line n.place.track r.first) _ wanted).0).1;
        pool_away = λ s has. false_from_ne_true (is_home line c s)
            (λ home. apart (one_home line c d s home (each_within (is_home line d) r homes s has)));
        pool_next = λ s e next has. subst (λ x. is_home line x s ≡ true)
            (one_home line d e r.first first_home (asked.home n.place.track e
            (and_parts (r.first == next_after n.hand) (is_on line n.place.track r.first)
            (and_parts ((r.first == next_after n.hand) && is_on line n.place.track r.first) _ wanted).0).1 next))
            (each_within (is_home line d) r homes s has);
        handing_to = is.handing_to;
        handing_number = is.handing_number;
        hand_ends = is.hand_ends;
      }

  pub withdrawn_route : (t s : ℕ) (k : Centre) → IsCentreSound line c k → Sound line c (route_withdrawn line c t s k)
  withdrawn_route t s k old = or_reply line c (k.mission t) _ (rest k)
      (λ m at. if_sound line c (within m.pool s) (returned line c t m.place.track (part_from s m.pool)
      >> change_mission t (λ n. record n { pool = part_before s n.pool })) (propose_if_so line t s) k
      (λ pooled. then_sound line c (returned line c t m.place.track (part_from s m.pool))
      (change_mission t (λ n. record n { pool = part_before s n.pool })) k
      (leaves line c old (returned_sent line c ok t m.place.track (part_from s m.pool) k))
      (λ j is sound. changed_sound line c j sound t (λ n. record n { pool = part_before s n.pool }) (λ n there. refl)
      (λ n there. shorter j n (sound.mission t n there))))
      (λ no. propose_sound line ok c t s k old))
      (λ none. rest_sound line c k old)
    where
      shorter : (j : Centre) (n : Mission) → IsMissionAt line c j n
          → IsMissionAt line c j (record n { pool = part_before s n.pool })
      shorter j n is = record {
        hand = is.hand;
        pool_follows =
            λ some. is.pool_follows
            (ne_eqb n.pool.count 0 (λ none. eqb-false (part_before s n.pool).count 0 some (omega (arith, none))));
        pool_away = λ x has. let ends = within_true (part_before s n.pool) x has in
            is.pool_away x (within_from n.pool x (omega (arith, ends)) (omega (arith, ends)));
        pool_on = λ x has. let ends = within_true (part_before s n.pool) x has in
            is.pool_on x (within_from n.pool x (omega (arith, ends)) (omega (arith, ends)));
        pool_next = λ x e next has. let ends = within_true (part_before s n.pool) x has in
            is.pool_next x e next (within_from n.pool x (omega (arith, ends)) (omega (arith, ends)));
        handing_to = is.handing_to;
        handing_number = is.handing_number;
        hand_ends = is.hand_ends;
      }

  pub returned_route : (t : ℕ) (r : SectionRun) (k : Centre) → IsCentreSound line c k
      → Sound line c (route_returned line c t r k)
  returned_route t r k old =
      let back : ℕ → Bool = λ s. (within r s && is_home line c s) && is_out_for t (k.book s) in
      then_sound line c (freed line c (is_out_for t) r)
      (where_so (λ j. not (uses_some line c j t)
      && ((is_none (j.mission t) && is_none (j.wait t)) && not (is_expected line j t))) (end_order line c t)) k
      (leaves line c (book_sound line c k old (λ s. given (back s) (k.wish s) (k.book s))
      (λ s. not (back s) && k.wish s)
      (λ s out. ap (λ b. given b (k.wish s) (k.book s))
      (away (within r s) (is_home line c s) (is_out_for t (k.book s)) out) ∙ old.foreign s out)
      (λ s unused. given_unused (back s) (k.wish s) (k.book s) (old.unwished s) unused)
      (λ s u. taken_given u (back s) (k.wish s) (k.book s) ∙ out_home t u (within r s && is_home line c s) (k.book s)))
      (none_sent line c))
      (λ j is sound. if_reply line c (not (uses_some line c j t)
      && ((is_none (j.mission t) && is_none (j.wait t)) && not (is_expected line j t))) _ (rest j)
      (λ gone. ordered_end line ok c t j sound) (λ stays. rest_sound line c j sound))
