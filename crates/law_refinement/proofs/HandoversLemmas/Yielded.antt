-- An arriving Yield is accepted: the one line centre takes the mission up, and may then send a request to shorten.
use Rattle.std.proofs.Common.{[], ◌&&◌, ◌*◌, ◌==◌, ◌∙◌, ◌∷◌, ◌≡◌, ◌≤◌, ap, arith, Bool, if◌then◌else◌, is_none, is_some}
use Rattle.std.proofs.Common.{max, nat_le, None, not, Option, refl, Some, subst, sym, true, ℕ}
use Rattle.std.proofs.lemmas.Bool.{and_from, and_parts, cond-true}
use Rattle.std.proofs.lemmas.Option.{same_Some}
use Rattle.std.specs.List.{find, range_with_len}
use Rattle.std.specs.Option.{option_map_or}
use Rattle.law_base.proofs.CountingLemmas.Network.{each_head}
use Rattle.law_base.proofs.CountingLemmas.Sums.{put_same}
use Rattle.law_base.specs.Counting.Network.{TakesHead, took}
use Rattle.law_invariants.proofs.FlowLemmas.Shown.{leads_then}
use Rattle.law_invariants.proofs.HandoverLemmas.Orderly.{goes_rest}
use Rattle.law_invariants.proofs.HandoverLemmas.Steps.{fits_head}
use Rattle.law_invariants.proofs.NoCopyLemmas.Tally.{fair_rest}
use Rattle.law_invariants.proofs.SoundLemmas.Again.{free_sound}
use Rattle.law_invariants.proofs.SoundLemmas.Handovers.{yielded_sound}
use Rattle.law_invariants.proofs.SoundLemmas.Sends.{leaves, none_sent, rest_sound}
use Rattle.law_invariants.specs.Flow.Flow.{Flow, took_frame}
use Rattle.law_invariants.specs.Flow.Keeping.{came_with, IsFairAct, LeavesSound}
use Rattle.law_invariants.specs.Flow.Leads.{Leads, replied}
use Rattle.law_invariants.specs.Flow.Shows.{parted, Shows}
use Rattle.law_invariants.specs.Flow.Sound.{IsBodySound, IsFlowSound, IsYieldSound}
use Rattle.law_invariants.specs.Handover.Orderly.{IsTakenWith}
use Rattle.law_refinement.proofs.FollowupsLemmas.Keeps.{act_sound, head_keeps}
use Rattle.law_refinement.proofs.FollowupsLemmas.Moves.{leading, one_quiet, rest_moves}
use Rattle.law_refinement.proofs.FollowupsLemmas.Proposals.{propose_leads}
use Rattle.law_refinement.proofs.HandoversLemmas.Heads.{met, met_sound, received_fair, received_taken}
use Rattle.law_refinement.proofs.HandoversLemmas.TakenUp.{later, taken_up_shown, taking_up}
use Rattle.rbc_spec.proofs.Lists.{itself}
use Rattle.rbc_spec.proofs.Runs.{each_within}
use Rattle.rbc_spec.specs.Acts.{◌>>◌, Act, become, booked, may_propose, propose, propose_if_so, Reply, rest}
use Rattle.rbc_spec.specs.Acts.{set_mission, where_so, with_some}
use Rattle.rbc_spec.specs.Centre.{Centre, Closed, is_out_for, Mission, Phase, Taken}
use Rattle.rbc_spec.specs.Frame.{Body, carried_place, Yield, yielded_place, YieldedPlace}
use Rattle.rbc_spec.specs.Line.{is_centre, is_home, IsLine, Line, section_of_group, train_number}
use Rattle.rbc_spec.specs.LineCentre as line_centre
use Rattle.rbc_spec.specs.LineCentre.{At, LineState, nothing}
use Rattle.rbc_spec.specs.Links.{expect, may_arrive, may_take, received, take_mission, yielded}
use Rattle.rbc_spec.specs.Maps.{has, put, put_pair}
use Rattle.rbc_spec.specs.Place.{group_start, Place}
use Rattle.rbc_spec.specs.Quiet.{TakeUp}
use Rattle.rbc_spec.specs.SectionRuns.{all_of, most_in_hand, no_run, SectionRun, within}
use Rattle.rbc_spec.specs.Sections.{is_on, is_on_track}
use Rattle.rbc_spec.specs.Step.{ticked}

module _ (line : Line) (w : Flow) (v : LineState) (a c h t heard number stamp : ℕ) (has_data is_ended : Bool)
    (carried : YieldedPlace) (hand : SectionRun)
    (ok : IsLine line) (sound : IsFlowSound line w) (sees : Shows line w v) (from : is_centre line a ≡ true)
    (to : is_centre line c ≡ true) (head : TakesHead w a c (Yield h t heard has_data is_ended carried hand)) where
  abbrev f : Body
  f = Yield h t heard has_data is_ended carried hand

  abbrev found : (ℕ → Phase) → Centre
  found phase = met w a c phase number stamp

  module _ (place : Place) (holds : carried_place carried ≡ Some place) (is_carried : carried ≡ yielded_place place)
      (may : may_take line c (w.at c) a h t place hand ≡ true)
      (known : is_some (train_number line t) ≡ true) (range : (1 ≤ hand.count) × (hand.count ≤ most_in_hand)) where
    abbrev m : Mission
    m = record {
      place = place;
      hand = hand;
      pool = no_run;
      has_data = has_data;
      is_ended = is_ended;
      proposal = None;
      handing = None;
    }

    abbrev takes : Act
    takes = (booked (is_out_for t) (Taken t) m.hand >> set_mission t (Some m))
        >> (become (λ k. record k { heard = put k.heard t (Some (option_map_or (max heard) (k.heard t) heard)) })
        >> expect a t None)

    abbrev proposes : Act
    proposes = with_some (λ k. find (λ s. is_home line c s && k.wish s) (range_with_len m.hand.first m.hand.count))
        (propose_if_so line t)

    -- the centre with the mission
    abbrev y : (ℕ → Phase) → Centre
    y phase = record (found phase) {
      book = λ s. if within hand s && is_out_for t ((w.at c).book s) then Taken t else (w.at c).book s;
      mission = put (w.at c).mission t (Some m);
      heard = put (w.at c).heard t (later heard ((w.at c).heard t));
      expects = put_pair (w.at c).expects a t None;
    }

    takes_is : (phase : ℕ → Phase) → takes (found phase) ≡ rest (y phase)
    unfolding ◌>>◌
    takes_is phase = refl

    yielded_is : (phase : ℕ → Phase) → yielded line c a h t hand heard has_data is_ended place (found phase)
        ≡ (takes >> proposes) (found phase)
    yielded_is phase = ap (λ b. if b then take_mission line c a t heard m (found phase) else rest (found phase)) may

    received_is : (phase : ℕ → Phase) → received line c a f (found phase) ≡ (takes >> proposes) (found phase)
    received_is phase =
        ap (λ b. (if b then option_map_or (yielded line c a h t hand heard has_data is_ended) (carried_place carried)
        rest else rest) (found phase)) known
        ∙ ap (λ o. option_map_or (yielded line c a h t hand heard has_data is_ended) o rest (found phase)) holds
        ∙ yielded_is phase

    -- ## The invariants that the taking up keeps: it is the whole act if the session is closed

    abbrev closed : ℕ → Phase
    closed u = Closed

    none_proposed : proposes (y closed) ≡ rest (y closed)
    none_proposed = by_found (find (λ s. is_home line c s && (y closed).wish s) (range_with_len hand.first hand.count))
      where
        by_mission : (s : ℕ) (o : Option Mission)
            → option_map_or (λ n. where_so (may_propose line t s n) (propose line t s n) (y closed)) o (rest (y closed))
            ≡ rest (y closed)
        by_mission s None = refl
        by_mission s (Some n) = refl

        by_found : (o : Option ℕ) → option_map_or (λ s. propose_if_so line t s (y closed)) o (rest (y closed))
            ≡ rest (y closed)
        by_found None = refl
        by_found (Some s) = by_mission s ((y closed).mission t)

    quietly : (takes >> proposes) (found closed) ≡ rest (y closed)
    unfolding ◌>>◌
    quietly =
        ap (λ (r : Reply). record { state = r.state; frames = λ d. r.frames d; sayings = r.sayings; words = r.words })
        none_proposed

    leaves_so : LeavesSound line c (y (w.at c).phase) (λ d. [])
    leaves_so = leaves line c
        (free_sound line c (y closed)
        (subst (λ (r : Reply). LeavesSound line c r.state r.frames) (yielded_is closed ∙ quietly)
        (yielded_sound line ok c a h t heard hand has_data is_ended place (found closed)
        (met_sound line ok w sound a c to closed number stamp) known range)).centre
        (y (w.at c).phase) refl refl refl refl (λ u is. is) (omega arith) (sound.centres c to).asks)
        (none_sent line c)

    fair_so : IsFairAct line c (w.at c) (came_with a c f) (y (w.at c).phase) (λ d. [])
    fair_so = let fair = subst (λ (r : Reply). IsFairAct line c (w.at c) (came_with a c f) r.state r.frames)
        (received_is closed ∙ quietly)
        (received_fair line ok w sound a c to closed number stamp f) in record {
          rights = λ u. record { law = (fair.rights u).law };
          tokens = λ u s. record { law = (fair.tokens u s).law };
        }

    taken_so : IsTakenWith a f (w.at c) (y (w.at c).phase) (λ d. [])
    taken_so = let is = subst (λ (r : Reply). IsTakenWith a f (w.at c) r.state r.frames) (received_is closed ∙ quietly)
        (received_taken line ok w sound a c to closed number stamp f (fits_head line ok w sound a c from to f head)) in
        let orderly = is.after in record {
          y = is.y;
          taking = is.taking;
          after = record {
            leads = orderly.leads;
            expected = orderly.expected;
            announced = orderly.announced;
            yielded = orderly.yielded;
            anew = orderly.anew;
            takes = orderly.takes;
          };
        }

    kept : IsFlowSound line (replied (took w a c) c (rest (y (w.at c).phase)))
    kept = head_keeps line ok c w sound to (rest (y (w.at c).phase)) leaves_so a f from head fair_so taken_so

    -- ## The taking up

    out : (s : ℕ) → is_home line c s ≡ true → within hand s ≡ true → is_out_for t ((w.at c).book s) ≡ true
    out s home is = sym (cond-true (is_home line c s) (is_out_for t ((w.at c).book s)) _ home)
        ∙ each_within (may_arrive line c (w.at c) t place.track) hand arrives s is
      where
        parts : ((has (λ e. (e.number == h) && e.is_taking) ((w.at c).expects a t)
            && (is_none ((w.at c).mission t) && not ((w.at c).has_right t))) ≡ true)
            × (((is_on_track line place.track hand && has (is_on line place.track) (section_of_group line place.group))
            && (nat_le (10 * group_start line place) place.front
            && all_of (may_arrive line c (w.at c) t place.track) hand)) ≡ true)
        parts = and_parts _ _ may

        arrives : all_of (may_arrive line c (w.at c) t place.track) hand ≡ true
        arrives =
            (and_parts (nat_le (10 * group_start line place) place.front)
            (all_of (may_arrive line c (w.at c) t place.track) hand)
            (and_parts (is_on_track line place.track hand
            && has (is_on line place.track) (section_of_group line place.group))
            (nat_le (10 * group_start line place) place.front
            && all_of (may_arrive line c (w.at c) t place.track) hand) parts.1).1).1

    taken_up : Leads line (took w a c) c (rest (y (w.at c).phase)) v
    taken_up = record {
      quiets = TakeUp t c ∷ [];
      new = record (line_centre.set_mission t
          (Some (record (parted heard has_data is_ended place) { supervisor = At c })) v)
          { heard = put_pair v.heard t c (later heard (v.heard t c)) };
      takes = one_quiet line (took w a c) c v (TakeUp t c) nothing _
          (taking_up line w v sound sees a c h t heard has_data is_ended place carried hand is_carried from to head out
          (y (w.at c).phase) refl refl refl refl refl refl (λ s. refl));
      own_centre = and_from (c == c) true (itself c) refl;
      shows = taken_up_shown line w v sound sees a c h t heard has_data is_ended place carried hand
          is_carried from to head out
          (y (w.at c).phase) refl refl refl refl refl refl (λ s. refl);
      sound = kept;
    }

    -- ## The acts after it

    proposed : (u : Flow) (k : Centre) (x : LineState) → IsFlowSound line u → Shows line u x → u.at c ≡ k
        → Leads line u c (proposes k) x
    proposed u k x well shows at =
        by_found (find (λ s. is_home line c s && k.wish s) (range_with_len hand.first hand.count))
      where
        none : Leads line u c (rest (u.at c)) x
        none = leading line u c x (rest (u.at c)) (rest_moves line u well x shows c to)
            (act_sound line ok c u well to (rest (u.at c)) (rest_sound line c (u.at c) (well.centres c to))
            (λ z is ready. fair_rest line c z (u.at c)) (goes_rest (u.at c)))

        by_found : (o : Option ℕ) → Leads line u c (option_map_or (λ s. propose_if_so line t s k) o (rest k)) x
        by_found None = subst (λ z. Leads line u c (rest z) x) at none
        by_found (Some s) = propose_leads line u c t s k x ok well shows to at

    first : Leads line (took w a c) c (takes (found (w.at c).phase)) v
    first = subst (λ (r : Reply). Leads line (took w a c) c r v) (sym (takes_is (w.at c).phase)) taken_up

    yield_taken : Leads line (took w a c) c (received line c a f (found (w.at c).phase)) v
    yield_taken = subst (λ (r : Reply). Leads line (took w a c) c r v) (sym (received_is (w.at c).phase))
        (leads_then line (took w a c) c (found (w.at c).phase) v takes proposes first
        (proposed (replied (took w a c) c (takes (found (w.at c).phase))) (takes (found (w.at c).phase)).state
        first.new first.sound first.shows
        (put_same (took w a c).at c (takes (found (w.at c).phase)).state)))

  pub yield_leads : Leads line (took w a c) c
      (received line c a (Yield h t heard has_data is_ended carried hand) (took_frame a number (ticked stamp (w.at c))))
      v
  yield_leads =
      let body : IsYieldSound line a c t carried hand = each_head (IsBodySound line) w a c f head sound.bodies in
      let fits = fits_head line ok w sound a c from to f head in
      let same : body.place ≡ fits.1.0 =
      same_Some body.place fits.1.0 (sym (ap carried_place body.is_carried) ∙ fits.1.1) in
      yield_taken fits.1.0 fits.1.1 (body.is_carried ∙ ap yielded_place same) fits.1.2 fits.0
      (body.is_hand.some, body.is_hand.few)
