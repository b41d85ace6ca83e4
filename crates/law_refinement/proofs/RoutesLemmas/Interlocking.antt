-- A set and an unset: the own step of the one line centre. After an unset of a section in use a request to shorten
-- follows, or nothing.
use Rattle.std.proofs.Common.{[], ⊎_elim, ◌==◌, ◌∙◌, ◌∷◌, ◌≡◌, ◌≢◌, ap, append-nil, arith, Bool, eq-eqb, false}
use Rattle.std.proofs.Common.{if◌then◌else◌, List, None, not, Option, refl, Some, subst, sym, true, ℕ}
use Rattle.std.proofs.lemmas.Bool.{and_from, cases_eq}
use Rattle.std.specs.Option.{option_map_or}
use Rattle.std.specs.Prelude.{MatchBool}
use Rattle.law_base.proofs.CountingLemmas.Resource.{carried_more, carried_none}
use Rattle.law_base.specs.Counting.Network.{acted}
use Rattle.law_base.specs.Counting.Resource.{carried, Resource}
use Rattle.law_invariants.proofs.FlowLemmas.Shown.{acted_twice}
use Rattle.law_invariants.proofs.HandoverLemmas.Orderly.{still}
use Rattle.law_invariants.proofs.NoCopyLemmas.Tally.{fair_plain}
use Rattle.law_invariants.proofs.SoundLemmas.Again.{book_sound}
use Rattle.law_invariants.proofs.SoundLemmas.Sends.{leaves, none_sent}
use Rattle.law_invariants.specs.Flow.Counts.{hands, missions}
use Rattle.law_invariants.specs.Flow.Flow.{centre_count, Flow}
use Rattle.law_invariants.specs.Flow.Keeping.{nothing_came}
use Rattle.law_invariants.specs.Flow.Leads.{replied, said_by}
use Rattle.law_invariants.specs.Flow.Shows.{is_in_hand, shown, Shows}
use Rattle.law_invariants.specs.Flow.Sound.{IsCentreSound, IsFlowSound}
use Rattle.law_refinement.proofs.AbstractionLemmas.Hands.{mark_stays, sends_none}
use Rattle.law_refinement.proofs.AbstractionLemmas.Shows.{by_itself, opened, part_stays, shows_after, shut}
use Rattle.law_refinement.proofs.AbstractionLemmas.Shows.{unseen_shown}
use Rattle.law_refinement.proofs.FollowupsLemmas.Keeps.{act_sound}
use Rattle.law_refinement.proofs.FollowupsLemmas.Proposals.{proposal_takes}
use Rattle.law_refinement.specs.Abstraction.Acts.{IsAct, SendsNone}
use Rattle.law_refinement.specs.Abstraction.After.{MarkAfter}
use Rattle.law_refinement.specs.Abstraction.After.MissionAfter.{stays}
use Rattle.law_refinement.specs.Routes.Interlocking.{asked_for, LeadsAtOnce, LeadsFrom, LeadsUnset}
use Rattle.rbc_spec.proofs.Lists.{put_here, put_other, put_over}
use Rattle.rbc_spec.specs.Acts.{◌>>◌, Act, become, may_propose, propose, Reply, rest, where_so}
use Rattle.rbc_spec.specs.Centre as centre
use Rattle.rbc_spec.specs.Centre.{Centre, Entry, is_unused, Mission, Phase}
use Rattle.rbc_spec.specs.Frame.{Body, RouteWithdraw}
use Rattle.rbc_spec.specs.Line.{is_centre, is_home, is_linked, IsLine, Line, section}
use Rattle.rbc_spec.specs.LineCentre as line_centre
use Rattle.rbc_spec.specs.LineCentre.{LineState, Mark, nothing, Said}
use Rattle.rbc_spec.specs.Maps.{has, put}
use Rattle.rbc_spec.specs.Outcome.{Asked, Done, NotHome}
use Rattle.rbc_spec.specs.OwnSteps.{is_unused_mark, set_mark, Tells, wished_back}
use Rattle.rbc_spec.specs.Place.{Place}
use Rattle.rbc_spec.specs.Quiet.{Propose, Quiet, TakesAll}
use Rattle.rbc_spec.specs.Rules.{tell}
use Rattle.rbc_spec.specs.Step.{make, set, unset, wished, withdraw}

-- a section that is used at its home is so marked
same_use : (e : Entry) (given : ℕ → Bool) → is_unused_mark (shown e given) ≡ is_unused e
same_use centre.Shut given = refl
same_use centre.Open given = refl
same_use (centre.Taken t) given = by_given (given t)
  where
    by_given : (b : Bool) → is_unused_mark (if b then line_centre.Given t else line_centre.Kept t) ≡ false
    by_given true = refl
    by_given false = refl
same_use (centre.Out t) given = by_given (given t)
  where
    by_given : (b : Bool) → is_unused_mark (if b then line_centre.Given t else line_centre.Kept t) ≡ false
    by_given true = refl
    by_given false = refl

-- only an own step
abbrev pub from_once : (line : Line) (w : Flow) (c : ℕ) (Own : Said → LineState → Type 0) (r : Reply)
    → LeadsAtOnce line w c Own r → LeadsFrom line w c Own r
from_once line w c Own r once = record {
  said = said_by r;
  mid = once.mid;
  own = once.own;
  quiets = [];
  later = nothing;
  new = once.mid;
  takes = (refl, refl);
  own_centre = refl;
  says = λ i. record { sayings = sym (append-nil r.sayings) i; words = sym (append-nil r.words) i };
  shows = once.shows;
}

module _ (line : Line) (w : Flow) (sound : IsFlowSound line w) (v : LineState) (sees : Shows line w v) (c s : ℕ)
    (to : is_centre line c ≡ true) where
  abbrev at_once : (Own : Said → LineState → Type 0) (r : Reply) (new : LineState) → Own (said_by r) new
      → Shows line (replied w c r) new → LeadsAtOnce line w c Own r
  at_once Own r new own shows = record { mid = new; own = own; shows = shows }

  -- an own step, followed by these quiet steps
  abbrev FollowedBy : (Said → LineState → Type 0) → List Quiet → Reply → Type 0
  FollowedBy Own quiets r = (h : LeadsFrom line w c Own r) × (h.quiets ≡ quiets)

  -- ## The shown state

  -- a centre that does nothing
  still_shows : Shows line (acted w c (w.at c) (λ d. [])) v
  still_shows = unseen_shown line w c nothing_came (w.at c) (λ d. []) (acted w c (w.at c) (λ d. [])) v v.phase v.heard
      v.said sound sees to (by_itself line w c (w.at c) (λ d. []) sound.counted to)
      (record {
        book = λ j. refl;
        wish = λ j. refl;
        wait = λ u. refl;
        mission = λ u. refl;
        hand = λ u j. refl;
        no_mission_came = λ u. refl;
        no_hand_came = λ u j. refl;
        no_mission_sent = λ u d. carried_none (missions u) c d;
        no_hand_sent = λ u j d. carried_none (hands u j) c d;
      })
      (part_stays Phase c v.phase (w.at c).phase (λ u. sees.phase u c))
      (part_stays (Option ℕ) c v.heard (w.at c).heard (λ u. sees.heard u c))
      (part_stays ℕ c v.said (w.at c).said (λ u. sees.said u c))

  module _ (home : is_home line c s ≡ true) where
    other_home : (j : ℕ) → is_home line c j ≡ false → j ≢ s
    other_home j away same = let wrong : false ≡ true = sym away ∙ ap (is_home line c) same ∙ home in cc

    known : (j : ℕ) → section line j ≡ None → j ≢ s
    known j none = other_home j (ap (has (λ p. p.home == c)) none)

    -- another wish, and frames without a mission or a hand
    module _ (wish : Bool) (frames : ℕ → List Body) where
      abbrev wished_here : Centre
      wished_here = record (w.at c) { wish = put (w.at c).wish s wish }

      wish_act : IsAct line w c nothing_came wished_here frames (acted w c wished_here frames)
      wish_act = by_itself line w c wished_here frames sound.counted to

      wish_shows : ((t : ℕ) → SendsNone (missions t) c frames) → ((t e : ℕ) → SendsNone (hands t e) c frames)
          → Shows line (acted w c (record (w.at c) { wish = put (w.at c).wish s wish }) frames) (wished_back s wish v)
      wish_shows no_mission no_hand = shows_after line w c nothing_came wished_here frames
          (acted w c wished_here frames) v (wished_back s wish v) sound sees to wish_act (record {
            phase = part_stays Phase c v.phase wished_here.phase (λ u. sees.phase u c);
            heard = part_stays (Option ℕ) c v.heard wished_here.heard (λ u. sees.heard u c);
            said = part_stays ℕ c v.said wished_here.said (λ u. sees.said u c);
            wait = part_stays (Option Place) c v.wait wished_here.wait (λ u. sees.wait u c);
            wish = λ j here. ap (λ b. if j == s then wish else b) (sees.wish j c here);
            other_wish = λ j away. put_other v.wish s j wish (other_home j away);
            mark = λ j d there. mark_stays line w c nothing_came wished_here frames (acted w c wished_here frames) j d
                (v.mark j) wish_act refl
                (λ t used. omega (arith, sends_none (hands t j) (centre_count line) c frames (no_hand t j)));
            no_section = λ j none. refl;
            mission = λ u. stays refl refl refl (no_mission u);
          })

    -- another unused entry, without a wish
    module _ (entry : Entry) (mark : Mark) where
      abbrev made : Centre
      made = record (w.at c) { book = put (w.at c).book s entry; wish = put (w.at c).wish s false }

      abbrev made_flow : Flow
      made_flow = acted w c made (λ d. [])

      made_act : IsAct line w c nothing_came made (λ d. []) (acted w c made (λ d. []))
      made_act = by_itself line w c made (λ d. []) sound.counted to

      -- the section is marked so at its home
      abbrev IsMarked : Type 0
      IsMarked = (d : ℕ) → is_home line d s ≡ true → made.book s ≡ entry
          → MarkAfter line w made_flow s d (v.mark s) mark

      made_marks : IsMarked → (j d : ℕ) → is_home line d j ≡ true
          → MarkAfter line w made_flow j d (v.mark j) (put v.mark s mark j)
      made_marks marked j d there = ⊎_elim
          (λ (here : j ≡ s). subst (λ x. MarkAfter line w made_flow x d (v.mark x) (put v.mark s mark x)) (sym here)
          (subst (MarkAfter line w made_flow s d (v.mark s)) (sym (put_here v.mark s s mark refl))
          (marked d (ap (is_home line d) (sym here) ∙ there) (put_here (w.at c).book s s entry refl))))
          (λ (other : j ≢ s). subst (MarkAfter line w made_flow j d (v.mark j)) (sym (put_other v.mark s j mark other))
          (mark_stays line w c nothing_came made (λ e. []) made_flow j d (v.mark j) made_act
          (put_other (w.at c).book s j entry other)
          (λ t used.
          omega (
            arith,
            sends_none (hands t j) (centre_count line) c (λ e. [])
                (λ e. carried_none (hands t j) c e),
          ))))
          (cases_eq j s)

      entry_shows : IsMarked
          → Shows line
          (acted w c (record (w.at c) { book = put (w.at c).book s entry; wish = put (w.at c).wish s false }) (λ d. []))
          (set_mark s mark v)
      entry_shows marked = shows_after line w c nothing_came made (λ d. []) made_flow v (set_mark s mark v)
          sound sees to made_act (record {
            phase = part_stays Phase c v.phase made.phase (λ u. sees.phase u c);
            heard = part_stays (Option ℕ) c v.heard made.heard (λ u. sees.heard u c);
            said = part_stays ℕ c v.said made.said (λ u. sees.said u c);
            wait = part_stays (Option Place) c v.wait made.wait (λ u. sees.wait u c);
            wish = λ j here. ap (λ b. if j == s then false else b) (sees.wish j c here);
            other_wish = λ j away. put_other v.wish s j false (other_home j away);
            mark = made_marks marked;
            no_section = λ j none. put_other v.mark s j mark (known j none);
            mission = λ u. stays refl refl refl (λ d. carried_none (missions u) c d);
          })

    use_shown : is_unused_mark (v.mark s) ≡ is_unused ((w.at c).book s)
    use_shown = ap is_unused_mark (sees.mark s c home) ∙ same_use ((w.at c).book s) (is_in_hand line w s)

    none_sent_now : (t : ℕ) → SendsNone (missions t) c (λ d. [])
    none_sent_now t d = carried_none (missions t) c d

    no_hand_now : (t e : ℕ) → SendsNone (hands t e) c (λ d. [])
    no_hand_now t e d = carried_none (hands t e) c d

    -- ## Of a section in use

    module _ (ok : IsLine line) (used : is_unused ((w.at c).book s) ≡ false) where
      abbrev asks : Act
      asks = become (λ j. record j { wish = put j.wish s true }) >> tell (Asked s)

      abbrev wishing : Centre
      wishing = record (w.at c) { wish = put (w.at c).wish s true }

      -- all stays sound when the section is wished back
      wishing_sound : IsFlowSound line
          (replied w c (record { state = wishing; frames = λ d. []; sayings = []; words = Asked s ∷ [] }))
      wishing_sound =
          act_sound line ok c w sound to
          (record { state = wishing; frames = λ d. []; sayings = []; words = Asked s ∷ [] })
          (leaves line c (book_sound line c (w.at c) old (w.at c).book (put (w.at c).wish s true) old.foreign
          (λ j unused. ⊎_elim
          (λ (here : j ≡ s). absurd (let wrong : false ≡ true = sym used
          ∙ ap (λ x. is_unused ((w.at c).book x)) (sym here) ∙ unused in cc))
          (λ (other : j ≢ s). put_other (w.at c).wish s j true other ∙ old.unwished j unused)
          (cases_eq j s))
          (λ j u. refl)) (none_sent line c))
          (λ y counts ready. fair_plain line c y (w.at c)
          (record { state = wishing; frames = λ d. []; sayings = []; words = Asked s ∷ [] }) refl refl refl)
          (still (w.at c) wishing refl refl refl)
        where
          old : IsCentreSound line c (w.at c)
          old = sound.centres c to

      abbrev Asking : Said → LineState → Type 0
      Asking = Tells (Asked s ∷ []) (wished_back s true v)

      asked_once : (r : Reply) → said_by r ≡ record { sayings = []; words = Asked s ∷ [] }
          → Shows line (replied w c r) (wished_back s true v) → FollowedBy Asking [] r
      asked_once r says shows = (
        from_once line w c Asking r
            (at_once Asking r (wished_back s true v) (record { said_is = says; new_is = refl }) shows),
        refl,
      )

      abbrev proposing : ℕ → Mission → Bool → Act
      proposing t m b j = if b then propose line t s m j else rest j

      -- the own step, and then the act for the entry
      wished_leads : (e : Entry) → is_unused e ≡ false
          → FollowedBy Asking (asked_for line c s (w.at c) e) ((asks >> wished line c s e) (w.at c))
      unfolding ◌>>◌
      wished_leads centre.Shut so = cc
      wished_leads centre.Open so = cc
      wished_leads (centre.Out t) so = asked_once ((asks >> withdraw line c t s) (w.at c)) refl
          (wish_shows true (withdraw line c t s (w.at c)).frames (λ u. none_inside (missions u) (λ d. refl))
          (λ u x. none_inside (hands u x) (λ d. refl)))
        where
          none_inside : (r : Resource Centre Body) → ((d : ℕ) → r.inside c d (RouteWithdraw t s) ≡ 0)
              → SendsNone r c (withdraw line c t s (w.at c)).frames
          none_inside r nothing d = by_link (is_linked line c d)
            where
              by_link : (b : Bool) → carried r c d (if b then RouteWithdraw t s ∷ [] else []) ≡ 0
              by_link true = omega (arith, carried_more r c d (RouteWithdraw t s) [], carried_none r c d, nothing d)
              by_link false = carried_none r c d
      wished_leads (centre.Taken t) so = by_mission ((w.at c).mission t) refl
        where
          still : FollowedBy Asking [] ((asks >> rest) (w.at c))
          still = asked_once ((asks >> rest) (w.at c)) refl (wish_shows true (λ d. []) none_sent_now no_hand_now)

          by_may : (m : Mission) → (w.at c).mission t ≡ Some m → (b : Bool) → may_propose line t s m wishing ≡ b
              → FollowedBy Asking (if b then Propose t c s ∷ [] else []) ((asks >> proposing t m b) (w.at c))
          by_may m at false may = still
          by_may m at true may = (
            record {
              said = record { sayings = []; words = Asked s ∷ [] };
              mid = wished_back s true v;
              own = record { said_is = refl; new_is = refl };
              quiets = Propose t c s ∷ [];
              later = said_by (propose line t s m wishing);
              new = two.0;
              takes = two.1;
              own_centre = and_from (c == c) true (eq-eqb c c refl) refl;
              says = refl;
              shows = subst (λ u. Shows line u two.0)
                  (acted_twice w c wishing (propose line t s m wishing).state (λ d. [])
                  (propose line t s m wishing).frames) two.2;
            },
            refl,
          )
            where
              two : (new : LineState) × TakesAll line (wished_back s true v) (Propose t c s ∷ [])
                  (said_by (propose line t s m wishing)) new
                  × Shows line (replied (acted w c wishing (λ d. [])) c (propose line t s m wishing)) new
              two = proposal_takes line (acted w c wishing (λ d. [])) c t s wishing (wished_back s true v) wishing_sound
                  (wish_shows true (λ d. []) none_sent_now no_hand_now) to (put_here w.at c c wishing refl)
                  m at may

          by_mission : (o : Option Mission) → (w.at c).mission t ≡ o
              → FollowedBy Asking (if has (λ m. may_propose line t s m (w.at c)) o then Propose t c s ∷ [] else [])
              ((asks >> (λ j. option_map_or (λ m. where_so (may_propose line t s m) (propose line t s m) j) o (rest j)))
              (w.at c))
          by_mission None at = still
          by_mission (Some m) at = by_may m at (may_propose line t s m wishing) refl

  -- ## Set

  abbrev SetsSo : Bool → Bool → Said → LineState → Type 0
  SetsSo h m said new =
      MatchBool h (Tells (Done s ∷ []) (if m then set_mark s line_centre.Open v else wished_back s false v) said new)
      (Tells (NotHome s ∷ []) v said new)

  pub set_leads : LeadsAtOnce line w c (SetsSo (is_home line c s) (is_unused_mark (v.mark s))) (set line c s (w.at c))
  unfolding ◌>>◌
  set_leads = by_home (is_home line c s) refl (is_unused_mark (v.mark s)) refl (is_unused ((w.at c).book s)) refl
    where
      by_home : (h : Bool) → is_home line c s ≡ h → (m : Bool) → is_unused_mark (v.mark s) ≡ m → (u : Bool)
          → is_unused ((w.at c).book s) ≡ u
          → LeadsAtOnce line w c (SetsSo h m)
          (if not h then tell (NotHome s) (w.at c) else (become (λ j. record j { wish = put j.wish s false })
          >> ((if u then make s centre.Open false else rest) >> tell (Done s))) (w.at c))
      by_home false away m marked u is =
          at_once (SetsSo false m) (tell (NotHome s) (w.at c)) v (record { said_is = refl; new_is = refl }) still_shows
      by_home true home true marked true unused =
          at_once (SetsSo true true) _ (set_mark s line_centre.Open v) (record { said_is = refl; new_is = refl })
          (subst (λ (g : ℕ → Bool).
          Shows line (acted w c (record (w.at c) { book = put (w.at c).book s centre.Open; wish = g }) (λ d. []))
          (set_mark s line_centre.Open v)) (λ i j. sym (put_over s false false (w.at c).wish j) i)
          (entry_shows home centre.Open line_centre.Open
          (λ d there book. opened line w c nothing_came (made home centre.Open line_centre.Open) (λ e. [])
          (made_flow home centre.Open line_centre.Open) s d (made_act home centre.Open line_centre.Open)
          there (v.mark s) home book)))
      by_home true home false marked false used =
          at_once (SetsSo true false) _ (wished_back s false v) (record { said_is = refl; new_is = refl })
          (wish_shows home false (λ d. []) (none_sent_now home) (no_hand_now home))
      by_home true home true marked false used =
          absurd (let wrong : true ≡ false = sym marked ∙ use_shown home ∙ used in cc)
      by_home true home false marked true unused =
          absurd (let wrong : false ≡ true = sym marked ∙ use_shown home ∙ unused in cc)

  -- ## Unset

  abbrev UnsetsSo : Bool → Bool → Said → LineState → Type 0
  UnsetsSo h m said new =
      MatchBool h (MatchBool m (Tells (Done s ∷ []) (set_mark s line_centre.Shut v) said new)
      (Tells (Asked s ∷ []) (wished_back s true v) said new)) (Tells (NotHome s ∷ []) v said new)

  unused_unasked : (e : Entry) → is_unused e ≡ true → asked_for line c s (w.at c) e ≡ []
  unused_unasked centre.Shut unused = refl
  unused_unasked centre.Open unused = refl
  unused_unasked (centre.Taken t) unused = cc
  unused_unasked (centre.Out t) unused = cc

  pub unset_leads : IsLine line → LeadsUnset line w c s (unset line c s (w.at c)) v
  unfolding ◌>>◌
  unset_leads ok = let leads = by_home (is_home line c s) refl (is_unused_mark (v.mark s)) refl
      (is_unused ((w.at c).book s)) refl in record { leads = leads.0; asks = leads.1 }
    where
      by_home : (h : Bool) → is_home line c s ≡ h → (m : Bool) → is_unused_mark (v.mark s) ≡ m → (u : Bool)
          → is_unused ((w.at c).book s) ≡ u
          → FollowedBy (UnsetsSo h m) (if h then asked_for line c s (w.at c) ((w.at c).book s) else [])
          (if not h then tell (NotHome s) (w.at c) else
          (if u then (make s centre.Shut false >> tell (Done s)) else
          ((become (λ j. record j { wish = put j.wish s true }) >> tell (Asked s))
          >> wished line c s ((w.at c).book s))) (w.at c))
      by_home false away m marked u is = (
        from_once line w c (UnsetsSo false m) (tell (NotHome s) (w.at c))
            (at_once (UnsetsSo false m) (tell (NotHome s) (w.at c)) v
            (record { said_is = refl; new_is = refl }) still_shows),
        refl,
      )
      by_home true home true marked true unused = (
        from_once line w c (UnsetsSo true true) _
            (at_once (UnsetsSo true true) _ (set_mark s line_centre.Shut v) (record { said_is = refl; new_is = refl })
            (entry_shows home centre.Shut line_centre.Shut
            (λ d there book. shut line w c nothing_came (made home centre.Shut line_centre.Shut) (λ e. [])
            (made_flow home centre.Shut line_centre.Shut) s d (made_act home centre.Shut line_centre.Shut)
            there (v.mark s) home book))),
        sym (unused_unasked ((w.at c).book s) unused),
      )
      by_home true home false marked false used = wished_leads home ok used ((w.at c).book s) used
      by_home true home true marked false used =
          absurd (let wrong : true ≡ false = sym marked ∙ use_shown home ∙ used in cc)
      by_home true home false marked true unused =
          absurd (let wrong : false ≡ true = sym marked ∙ use_shown home ∙ unused in cc)
