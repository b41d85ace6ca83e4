-- Returned sections are freed, and the train may be ordered to end its session.
use Rattle.std.proofs.Common.{[], ◌&&◌, ◌<◌, ◌==◌, ◌∙◌, ◌≡◌, ap, arith, Bool, false, if◌then◌else◌, is_none, is_some}
use Rattle.std.proofs.Common.{length, not, Option, refl, subst, sym, true, ℕ}
use Rattle.std.proofs.lemmas.Bool.{and_from, and_parts, both_ways, false_from_ne_true, lt-ltb, not-true}
use Rattle.law_base.proofs.CountingLemmas.Resource.{carried_none}
use Rattle.law_base.proofs.CountingLemmas.Sums.{one_if_true}
use Rattle.law_base.proofs.LocalLemmas.Entries.{given, others_given, taken_given}
use Rattle.law_base.specs.Counting.Network.{acted, TakesHead, took}
use Rattle.law_base.specs.Counting.Sums.{one_if}
use Rattle.law_invariants.proofs.FlowLemmas.Shown.{acted_twice, leads_rest, leads_then}
use Rattle.law_invariants.proofs.HandoverLemmas.Frames.{passes}
use Rattle.law_invariants.proofs.HandoverLemmas.Orderly.{still}
use Rattle.law_invariants.proofs.NoCopyLemmas.Rights.{used_out}
use Rattle.law_invariants.proofs.NoCopyLemmas.Routes.{home_law}
use Rattle.law_invariants.proofs.NoCopyLemmas.Tally.{eased, fair_freed}
use Rattle.law_invariants.proofs.SoundLemmas.Again.{book_sound}
use Rattle.law_invariants.proofs.SoundLemmas.Handovers.{out_untaken}
use Rattle.law_invariants.proofs.SoundLemmas.Sends.{away, given_unused, leaves, none_sent}
use Rattle.law_invariants.specs.Flow.Counts.{hands, missions, wait_has}
use Rattle.law_invariants.specs.Flow.Flow.{centre_count, Flow, took_frame}
use Rattle.law_invariants.specs.Flow.Keeping.{came_with}
use Rattle.law_invariants.specs.Flow.Leads.{Leads}
use Rattle.law_invariants.specs.Flow.Shows.{is_in_hand, Shows}
use Rattle.law_invariants.specs.Flow.Sound.{IsCentreSound, IsFlowSound}
use Rattle.law_refinement.proofs.AbstractionLemmas.Hands.{sends_none}
use Rattle.law_refinement.proofs.AbstractionLemmas.Marks.{in_no_hand, in_use, is_given, kept_mark_of}
use Rattle.law_refinement.proofs.AbstractionLemmas.Shows.{at_head, part_stays, shows_after}
use Rattle.law_refinement.proofs.FollowupsLemmas.EndOrders.{end_leads}
use Rattle.law_refinement.proofs.RoutesLemmas.Bodies.{IsAside, of_train_leads, reply_keeps, rest_leads, sound_here}
use Rattle.law_refinement.proofs.RoutesLemmas.Rights.{freed_mark, freed_no_section, freed_other_wish, freed_wish}
use Rattle.law_refinement.proofs.RoutesLemmas.Rights.{home_known, known_below}
use Rattle.law_refinement.proofs.RoutesLemmas.Unkept.{part, saying, steps, unkeep_all, unkeep_own, words}
use Rattle.law_refinement.specs.Abstraction.Acts.{IsAct}
use Rattle.law_refinement.specs.Abstraction.After.MissionAfter.{stays}
use Rattle.rbc_spec.proofs.Lists.{any-range, any-range_none, itself, none_is, one_home, put_there}
use Rattle.rbc_spec.proofs.Runs.{each_within, within_from}
use Rattle.rbc_spec.specs.Acts.{end_order, freed, Reply, rest, where_so}
use Rattle.rbc_spec.specs.Centre as centre
use Rattle.rbc_spec.specs.Centre.{Centre, is_expected, is_out_for, is_taken_for, is_used_for, Phase, uses_some}
use Rattle.rbc_spec.specs.Frame.{RouteReturn}
use Rattle.rbc_spec.specs.Line.{is_centre, is_home, IsLine, Line, section}
use Rattle.rbc_spec.specs.LineCentre as line_centre
use Rattle.rbc_spec.specs.LineCentre.{free, is_given_to, is_waiting, is_waiting_at, LineState}
use Rattle.rbc_spec.specs.Links.{received, route_returned}
use Rattle.rbc_spec.specs.Place.{Place}
use Rattle.rbc_spec.specs.Quiet.{TakesAll}
use Rattle.rbc_spec.specs.SectionRuns.{all_of, SectionRun, within}
use Rattle.rbc_spec.specs.Sections.{section_count}

comes_home : (t : ℕ) (r : SectionRun) → IsAside (RouteReturn t r)
comes_home t r = record { follows = λ u n. refl; mission = λ a c u. refl; hand = λ a c u s. refl }

module _ (line : Line) (ok : IsLine line) (w : Flow) (sound : IsFlowSound line w) (v : LineState)
    (sees : Shows line w v) (a c number : ℕ) (from : is_centre line a ≡ true) (to : is_centre line c ≡ true)
    (t : ℕ) (r : SectionRun) (head : TakesHead w a c (RouteReturn t r)) where
  abbrev k : Centre
  k = took_frame a number (w.at c)

  module _ (known : all_of (λ s. is_some (section line s)) r ≡ true) where
    -- the sections that are returned here
    abbrev is_back : ℕ → Bool
    is_back s = (within r s && is_home line c s) && is_out_for t ((w.at c).book s)

    back_parts : (s : ℕ) → is_back s ≡ true → ((within r s ≡ true) × (is_home line c s ≡ true))
        × (is_out_for t ((w.at c).book s) ≡ true)
    back_parts s is = let both = and_parts (within r s && is_home line c s) (is_out_for t ((w.at c).book s)) is in
        (and_parts (within r s) (is_home line c s) both.0, both.1)

    homes : (s : ℕ) → is_back s ≡ true → is_home line c s ≡ true
    homes s is = (back_parts s is).0.1

    abbrev freeing : Reply
    freeing = freed line c (is_out_for t) r (took_frame a number (w.at c))

    abbrev y : Centre
    y = record k {
      book = λ s. if is_back s then (if (w.at c).wish s then centre.Shut else centre.Open) else (w.at c).book s;
      wish = λ s. not (is_back s) && (w.at c).wish s;
    }

    abbrev new : Flow
    new = acted (took w a c) c y (λ d. [])

    abbrev freed_state : LineState
    freed_state = free is_back v

    act : IsAct line w c (came_with a c (RouteReturn t r)) y (λ d. []) (acted (took w a c) c y (λ d. []))
    act = at_head line w a c (RouteReturn t r) y (λ d. []) sound.counted from to head

    -- ## All stays sound

    here : IsCentreSound line c (took_frame a number (w.at c))
    here = sound_here line ok w sound a c number from to (RouteReturn t r) head

    freeing_keeps : IsFlowSound line (acted (took w a c) c y (λ d. []))
    freeing_keeps = reply_keeps line ok w sound a c number from to (RouteReturn t r) head freeing
        (leaves line c (book_sound line c k here y.book y.wish
        (λ s out. ap (λ b. given b (k.wish s) (k.book s))
        (away (within r s) (is_home line c s) (is_out_for t (k.book s)) out) ∙ here.foreign s out)
        (λ s unused. given_unused (is_back s) (k.wish s) (k.book s) (here.unwished s) unused)
        (λ s u. taken_given u (is_back s) (k.wish s) (k.book s)
        ∙ others_given (within r s && is_home line c s) (is_out_for t (k.book s)) (is_taken_for u (k.book s))
        (out_untaken t u (k.book s)))) (none_sent line c))
        (λ z is ready unlike. eased line c z (z.res.inside a c (RouteReturn t r)) 0 k freeing
        (omega (arith, home_law line c z is a t r k)) (λ so. absurd (unlike so))
        (fair_freed line c z (is_out_for t) r k))
        (passes line c a (RouteReturn t r) (w.at c) (λ u n. refl) (still (w.at c) y refl refl refl))

    -- ## They were kept, and no start waited for them

    back_kept : (s : ℕ) → is_back s ≡ true → v.mark s ≡ line_centre.Kept t
    back_kept s is = kept_mark_of line w v t sound sees s c (homes s is)
        (used_out t ((w.at c).book s) (back_parts s is).1)
        (in_no_hand line w c (came_with a c (RouteReturn t r)) y (λ d. []) new t s sound act
        (omega (
          arith,
          one_if_true ((t == t) && within r s)
              (and_from (t == t) (within r s) (itself t) (back_parts s is).0.0),
        )))

    back_free : (s : ℕ) → is_back s ≡ true → is_waiting line v t s ≡ false
    back_free s is = any-range_none (λ d. is_waiting_at line v t d s) 0 (length line.centres)
        (λ d low high. false_from_ne_true (is_waiting_at line v t d s) (λ waits. nobody d (omega (arith, high)) waits))
      where
        nobody : (d : ℕ) → d < length line.centres → is_waiting_at line v t d s ≡ true → ⊥
        nobody d high waits =
            let there : wait_has line ((w.at d).wait t) s ≡ true =
            ap (λ o. wait_has line o s) (sym (sees.wait t d)) ∙ waits in
            let same = one_home line d c s ((sound.centres d (lt-ltb d (length line.centres) high)).wait_home t s there)
            (homes s is) in
            let at_home : wait_has line ((w.at c).wait t) s ≡ true =
            ap (λ x. wait_has line ((w.at x).wait t) s) (sym same) ∙ there in
            omega (
              arith,
              (sound.centres c to).claims s t (homes s is),
              one_if_true (wait_has line ((w.at c).wait t) s) at_home,
              ap one_if (out_untaken t t ((w.at c).book s) (back_parts s is).1),
            )

    -- ## They are freed

    shows : Shows line (acted (took w a c) c y (λ d. [])) (free is_back v)
    shows = shows_after line w c (came_with a c (RouteReturn t r)) y (λ d. []) new v freed_state
        sound sees to act (record {
          phase = part_stays Phase c v.phase y.phase (λ u. sees.phase u c);
          heard = part_stays (Option ℕ) c v.heard y.heard (λ u. sees.heard u c);
          said = part_stays ℕ c v.said y.said (λ u. sees.said u c);
          wait = part_stays (Option Place) c v.wait y.wait (λ u. sees.wait u c);
          wish = freed_wish line w v sees c is_back homes;
          other_wish = freed_other_wish line w v sees c is_back homes;
          mark = freed_mark line w v sees c is_back homes (came_with a c (RouteReturn t r)) y
              (λ d. []) new act (λ s. refl)
              (λ u s. omega
              (arith, sends_none (hands u s) (centre_count line) c (λ d. []) (λ d. carried_none (hands u s) c d)));
          no_section = freed_no_section line w v sees c is_back homes;
          mission = λ u. stays refl refl refl (λ d. carried_none (missions u) c d);
        })

    all_of_run : free (part line t is_back (w.at c).wish r.first r.count) v ≡ free is_back v
    all_of_run = ap (λ (test : ℕ → Bool). free test v) (λ i s. same s i)
      where
        same : (s : ℕ) → (is_back s && within r s) ≡ is_back s
        same s = by_back (is_back s) refl
          where
            by_back : (b : Bool) → is_back s ≡ b → (b && within r s) ≡ b
            by_back true is = (back_parts s is).0.0
            by_back false is = refl

    unkept : TakesAll line v (steps line t is_back (w.at c).wish r.first r.count)
        (saying line t is_back (w.at c).wish (words line t is_back (w.at c).wish r.first r.count)) (free is_back v)
    unkept = subst (TakesAll line v (steps line t is_back (w.at c).wish r.first r.count)
        (saying line t is_back (w.at c).wish (words line t is_back (w.at c).wish r.first r.count))) all_of_run
        (unkeep_all line t is_back (w.at c).wish r.count r.first v
        (λ s low high is. (
          sees.wish s c (homes s is),
          known_below line s (each_within (λ e. is_some (section line e)) r known s (within_from r s low high)),
        ))
        (λ s low high is. (back_kept s is, back_free s is)))

    first : Leads line (took w a c) c (freed line c (is_out_for t) r (took_frame a number (w.at c))) v
    first = record {
      quiets = steps line t is_back (w.at c).wish r.first r.count;
      new = freed_state;
      takes = unkept;
      own_centre = unkeep_own line t is_back (w.at c).wish c r.count r.first homes;
      shows = shows;
      sound = freeing_keeps;
    }

    -- ## The end of the session

    abbrev leaves_here : Centre → Bool
    leaves_here j = not (uses_some line c j t)
        && ((is_none (j.mission t) && is_none (j.wait t)) && not (is_expected line j t))

    not_used : uses_some line c y t ≡ false → (s : ℕ)
        → (is_home line c s && is_given_to t ((free is_back v).mark s)) ≡ false
    not_used none s = false_from_ne_true (is_home line c s && is_given_to t ((free is_back v).mark s))
        (λ both. nowhere (and_parts (is_home line c s) (is_given_to t ((free is_back v).mark s)) both).0
        (and_parts (is_home line c s) (is_given_to t ((free is_back v).mark s)) both).1)
      where
        nowhere : is_home line c s ≡ true → is_given_to t ((free is_back v).mark s) ≡ true → ⊥
        nowhere home given_here =
            let in_hand : is_in_hand line new s t ≡ true = sym (is_given line new freed_state t freeing_keeps shows s)
            ∙ given_here in
            let used : is_used_for t (y.book s) ≡ true =
            ap (λ (z : Centre). is_used_for t (z.book s)) (sym (put_there w.at c y))
            ∙ in_use line new t s c freeing_keeps in_hand home in
            both_ways (uses_some line c y t) none
            (any-range (λ e. is_home line c e && is_used_for t (y.book e)) 0 (section_count line) s (omega arith)
            (omega (arith, known_below line s (home_known line c s home)))
            (and_from (is_home line c s) (is_used_for t (y.book s)) home used))

    then_told : (b : Bool) → leaves_here y ≡ b
        → Leads line (acted (took w a c) c y (λ d. [])) c (if b then end_order line c t y else rest y) (free is_back v)
    then_told true is = let parts = and_parts (not (uses_some line c y t))
        ((is_none (y.mission t) && is_none (y.wait t)) && not (is_expected line y t)) is in
        let none = and_parts (is_none (y.mission t) && is_none (y.wait t)) (not (is_expected line y t)) parts.1 in
        end_leads line new c t y freed_state ok freeing_keeps shows to (put_there w.at c y)
        (none_is (y.mission t) (and_parts (is_none (y.mission t)) (is_none (y.wait t)) none.0).0)
        (not_used (not-true (uses_some line c y t) parts.0))
    then_told false is = leads_rest line new c y freed_state
        (subst (IsFlowSound line) (sym (acted_twice (took w a c) c y y (λ d. []) (λ d. []))) freeing_keeps)
        (subst (λ u. Shows line u freed_state) (sym (acted_twice (took w a c) c y y (λ d. []) (λ d. []))) shows)

    back_leads : Leads line (took w a c) c (route_returned line c t r (took_frame a number (w.at c))) v
    unfolding first
    back_leads = leads_then line (took w a c) c k v (freed line c (is_out_for t) r)
        (where_so leaves_here (end_order line c t)) first (then_told (leaves_here y) refl)

  pub home_leads : Leads line (took w a c) c (received line c a (RouteReturn t r) (took_frame a number (w.at c))) v
  home_leads = of_train_leads line ok w sound a c number from to (RouteReturn t r) head (comes_home t r) v sees t
      (if all_of (λ s. is_some (section line s)) r then route_returned line c t r else rest)
      (λ so. by_sections (all_of (λ s. is_some (section line s)) r) refl)
    where
      by_sections : (b : Bool) → all_of (λ s. is_some (section line s)) r ≡ b
          → Leads line (took w a c) c ((if b then route_returned line c t r else rest) (took_frame a number (w.at c))) v
      by_sections true known = back_leads known
      by_sections false none = rest_leads line ok w sound a c number from to (RouteReturn t r)
          head (comes_home t r) v sees
