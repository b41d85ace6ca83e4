-- Sections that are lent or wished back over a border: only a request to shorten is shown.
use Rattle.std.proofs.Common.{[], ⊎_elim, ◌&&◌, ◌==◌, ◌∙◌, ◌≡◌, ◌≢◌, ap, if◌then◌else◌, is_some, List, None, Option}
use Rattle.std.proofs.Common.{option_map, refl, Some, subst, sym, true, ℕ}
use Rattle.std.proofs.lemmas.Bool.{cases_eq}
use Rattle.law_base.proofs.CountingLemmas.Resource.{carried_none}
use Rattle.law_base.specs.Counting.Network.{TakesHead, took}
use Rattle.law_base.specs.Local.Local.{hand_has}
use Rattle.law_invariants.proofs.FlowLemmas.Shown.{leads_then}
use Rattle.law_invariants.proofs.SoundLemmas.Routes.{told_route, withdrawn_route}
use Rattle.law_invariants.proofs.SoundLemmas.Sends.{if_sound, rest_sound}
use Rattle.law_invariants.specs.Flow.Counts.{hands, missions}
use Rattle.law_invariants.specs.Flow.Flow.{Flow, took_frame}
use Rattle.law_invariants.specs.Flow.Keeping.{came_with}
use Rattle.law_invariants.specs.Flow.Leads.{Leads, replied}
use Rattle.law_invariants.specs.Flow.Shows.{Shows}
use Rattle.law_invariants.specs.Flow.Sound.{IsCentreSound, IsFlowSound}
use Rattle.law_refinement.proofs.AbstractionLemmas.Hands.{sends_both, sends_home}
use Rattle.law_refinement.proofs.FollowupsLemmas.Proposals.{propose_leads}
use Rattle.law_refinement.proofs.RoutesLemmas.Bodies.{act_keeps, IsAside, leads_if, leads_if_act, leads_or}
use Rattle.law_refinement.proofs.RoutesLemmas.Bodies.{of_train_leads, received_keeps, rest_leads, sound_here, trained}
use Rattle.law_refinement.proofs.RoutesLemmas.Bodies.{unseen_leads}
use Rattle.law_refinement.proofs.RoutesLemmas.Rights.{after_change, resting, sending}
use Rattle.law_refinement.specs.Abstraction.Acts.{SendsNone}
use Rattle.law_refinement.specs.Abstraction.After.{IsUnseen}
use Rattle.rbc_spec.proofs.Lists.{put_here, put_other, put_there}
use Rattle.rbc_spec.proofs.Worlds.{rest_then}
use Rattle.rbc_spec.specs.Acts.{◌>>◌, Act, change_mission, propose_if_so, rest, returned, send}
use Rattle.rbc_spec.specs.Centre.{Centre, Mission}
use Rattle.rbc_spec.specs.Frame.{Body, RouteInfo, RouteReturn, RouteWithdraw}
use Rattle.rbc_spec.specs.Line.{is_centre, is_home, IsLine, Line, section}
use Rattle.rbc_spec.specs.LineCentre.{LineMission, LineState}
use Rattle.rbc_spec.specs.Links.{is_of_line, is_wanted, received, route_told, route_withdrawn}
use Rattle.rbc_spec.specs.Maps.{has, put}
use Rattle.rbc_spec.specs.ReadOff.{seen}
use Rattle.rbc_spec.specs.SectionRuns.{all_of, is_empty, part_before, part_from, SectionRun, within}

tells : (t : ℕ) (r : SectionRun) → IsAside (RouteInfo t r)
tells t r = record { follows = λ u n. refl; mission = λ a c u. refl; hand = λ a c u s. refl }

withdraws : (t s : ℕ) → IsAside (RouteWithdraw t s)
withdraws t s = record { follows = λ u n. refl; mission = λ a c u. refl; hand = λ a c u e. refl }

-- a mission with another pool, or another field that is not shown, is seen as before
module _ (c t : ℕ) (f : Mission → Mission) (same : (m : Mission) → seen c (f m) ≡ seen c m)
    (hand : (m : Mission) → (f m).hand ≡ m.hand) (k : Centre) where
  seen_still : (o : Option Mission) → option_map (seen c) (option_map f o) ≡ option_map (seen c) o
  seen_still None = refl
  seen_still (Some m) = ap (λ (x : LineMission). Some x) (same m)

  hand_still : (s : ℕ) (o : Option Mission) → hand_has (option_map f o) s ≡ hand_has o s
  hand_still s None = refl
  hand_still s (Some m) = ap (λ r. within r s) (hand m)

  changed_seen : (u : ℕ) → option_map (seen c) (put k.mission t (option_map f (k.mission t)) u)
      ≡ option_map (seen c) (k.mission u)
  changed_seen u = ⊎_elim
      (λ (here : u ≡ t). ap (option_map (seen c)) (put_here k.mission t u (option_map f (k.mission t)) here)
      ∙ seen_still (k.mission t) ∙ ap (λ x. option_map (seen c) (k.mission x)) (sym here))
      (λ (other : u ≢ t). ap (option_map (seen c)) (put_other k.mission t u (option_map f (k.mission t)) other))
      (cases_eq u t)

  changed_hand : (u s : ℕ) → hand_has (put k.mission t (option_map f (k.mission t)) u) s ≡ hand_has (k.mission u) s
  changed_hand u s = ⊎_elim
      (λ (here : u ≡ t). ap (λ (o : Option Mission). hand_has o s)
      (put_here k.mission t u (option_map f (k.mission t)) here) ∙ hand_still s (k.mission t)
      ∙ ap (λ x. hand_has (k.mission x) s) (sym here))
      (λ (other : u ≢ t). ap (λ (o : Option Mission). hand_has o s)
      (put_other k.mission t u (option_map f (k.mission t)) other))
      (cases_eq u t)

module _ (line : Line) (ok : IsLine line) (w : Flow) (sound : IsFlowSound line w) (v : LineState)
    (sees : Shows line w v) (a c number : ℕ) (from : is_centre line a ≡ true) (to : is_centre line c ≡ true) where
  abbrev k : Centre
  k = took_frame a number (w.at c)

  -- another pool of a mission, after frames without a mission or a hand
  pooled : (f : Body) → IsAside f → (t : ℕ) (pool : Mission → SectionRun) (y : Centre) (frames : ℕ → List Body)
      → y.book ≡ (w.at c).book → y.wish ≡ (w.at c).wish → y.wait ≡ (w.at c).wait
      → y.mission ≡ put (w.at c).mission t
      (option_map (λ (m : Mission). record m { pool = pool m }) ((w.at c).mission t))
      → ((u : ℕ) → SendsNone (missions u) c frames) → ((u s : ℕ) → SendsNone (hands u s) c frames)
      → IsUnseen c (w.at c) (came_with a c f) y frames
  pooled f aside t pool y frames book wish waits mission no_mission no_hand = record {
    book = λ s. ap (λ g. g s) book;
    wish = λ s. ap (λ g. g s) wish;
    wait = λ u. ap (λ g. g u) waits;
    mission = λ u. ap (λ (g : ℕ → Option Mission). option_map (seen c) (g u)) mission
        ∙ changed_seen c t (λ m. record m { pool = pool m }) (λ m. refl) (λ m. refl) (w.at c) u;
    hand = λ u s. ap (λ (g : ℕ → Option Mission). hand_has (g u) s) mission
        ∙ changed_hand c t (λ m. record m { pool = pool m }) (λ m. refl) (λ m. refl) (w.at c) u s;
    no_mission_came = λ u. aside.mission a c u;
    no_hand_came = λ u s. aside.hand a c u s;
    no_mission_sent = no_mission;
    no_hand_sent = no_hand;
  }

  -- ## Told of

  -- by another centre
  pub told_leads : c ≢ a → (t : ℕ) (r : SectionRun) → TakesHead w a c (RouteInfo t r)
      → Leads line (took w a c) c (received line c a (RouteInfo t r) (took_frame a number (w.at c))) v
  told_leads apart t r head = of_train_leads line ok w sound a c number from to (RouteInfo t r) head (tells t r) v sees
      t (route_told line c a t r)
      (λ known. leads_if line (took w a c) c v
      ((has (λ first. first == r.first) (k.route_ask t) && (is_of_line line r && is_home line a r.first))
      && all_of (is_home line a) r) _ (rest k)
      (act_keeps line ok w sound a c number from to (RouteInfo t r) head t (route_told line c a t r) known
      (received_keeps line ok w sound a c number from to (RouteInfo t r) head (record {})
      (trained line ok w sound a c number from to (RouteInfo t r) head t (route_told line c a t r)
      (λ so. told_route line ok c a from apart t r k
      (sound_here line ok w sound a c number from to (RouteInfo t r) head)))))
      (λ mine keeps. subst (λ q. Leads line (took w a c) c q v)
      (sym (after_change (λ j. record j { route_ask = put j.route_ask t None }) _ k))
      (leads_if line (took w a c) c v (has (is_wanted line r) (k.mission t))
      (change_mission t (λ m. record m { pool = r }) answered)
      ((if is_empty r then rest else send a (RouteReturn t r)) answered)
      (subst (λ q. IsFlowSound line (replied (took w a c) c q))
      (after_change (λ j. record j { route_ask = put j.route_ask t None }) _ k) keeps)
      (λ wanted there. unseen_leads line ok w sound a c number from to (RouteInfo t r) head (tells t r) v sees
      (change_mission t (λ m. record m { pool = r }) answered) there refl
      (pooled (RouteInfo t r) (tells t r) t (λ m. r) (change_mission t (λ m. record m { pool = r }) answered).state
      (λ d. []) refl refl refl refl (λ u d. carried_none (missions u) c d)
      (λ u s d. carried_none (hands u s) c d)) refl refl refl)
      (λ unwanted there. leads_if_act line (took w a c) c v (is_empty r) rest (send a (RouteReturn t r)) answered there
      (λ none here. resting line ok w sound v sees a c number from to (RouteInfo t r) head (tells t r) answered here
      refl refl refl refl refl refl refl)
      (λ some here. sending line ok w sound v sees a c number from to (RouteInfo t r) head (tells t r) a
      (RouteReturn t r) answered (λ u. refl) (λ u s. refl) here refl refl refl refl refl refl refl))))
      (λ other keeps. resting line ok w sound v sees a c number from to (RouteInfo t r) head (tells t r) k keeps refl
      refl refl refl refl refl refl))
    where
      answered : Centre
      answered = record k { route_ask = put k.route_ask t None }

  -- ## Wished back

  module _ (t s : ℕ) (head : TakesHead w a c (RouteWithdraw t s)) where
    first : Leads line (took w a c) c (rest (took_frame a number (w.at c))) v
    first = rest_leads line ok w sound a c number from to (RouteWithdraw t s) head (withdraws t s) v sees

    -- the hand is proposed to be cut
    proposed : Leads line (took w a c) c (propose_if_so line t s (took_frame a number (w.at c))) v
    proposed = subst (λ q. Leads line (took w a c) c q v) (rest_then (propose_if_so line t s) k)
        (leads_then line (took w a c) c k v rest (propose_if_so line t s) first
        (propose_leads line (replied (took w a c) c (rest k)) c t s k first.new ok first.sound
        first.shows to (put_there w.at c k)))

    -- the pool is returned from the section on
    abbrev gone : Mission → Act
    gone m = returned line c t m.place.track (part_from s m.pool)
        >> change_mission t (λ n. record n { pool = part_before s n.pool })

    gone_leads : (m : Mission) → IsFlowSound line (replied (took w a c) c (gone m (took_frame a number (w.at c))))
        → Leads line (took w a c) c (gone m (took_frame a number (w.at c))) v
    unfolding ◌>>◌
    gone_leads m keeps = unseen_leads line ok w sound a c number from to (RouteWithdraw t s) head (withdraws t s)
        v sees (gone m k) keeps refl
        (pooled (RouteWithdraw t s) (withdraws t s) t (λ n. part_before s n.pool) (gone m k).state
        (gone m k).frames refl refl refl refl
        (λ u. sends_both (missions u) c (returned line c t m.place.track (part_from s m.pool) k).frames (λ d. [])
        (sends_home line c t u 0 m.place.track (part_from s m.pool) k).1 (λ d. carried_none (missions u) c d))
        (λ u x. sends_both (hands u x) c (returned line c t m.place.track (part_from s m.pool) k).frames (λ d. [])
        (sends_home line c t u x m.place.track (part_from s m.pool) k).0 (λ d. carried_none (hands u x) c d)))
        refl refl refl

    withdrawal : IsFlowSound line (replied (took w a c) c (route_withdrawn line c t s (took_frame a number (w.at c))))
        → Leads line (took w a c) c (route_withdrawn line c t s (took_frame a number (w.at c))) v
    withdrawal keeps = leads_or line (took w a c) c v (k.mission t)
        (λ m. (if within m.pool s then gone m else propose_if_so line t s) k) (rest k) keeps
        (λ m at there. leads_if_act line (took w a c) c v (within m.pool s) (gone m) (propose_if_so line t s) k there
        (λ pooled here. gone_leads m here) (λ no here. proposed))
        (λ none there. resting line ok w sound v sees a c number from to (RouteWithdraw t s) head (withdraws t s) k
        there refl refl refl refl refl refl refl)

    pub withdrawn_leads : Leads line (took w a c) c
        (received line c a (RouteWithdraw t s) (took_frame a number (w.at c))) v
    withdrawn_leads = of_train_leads line ok w sound a c number from to (RouteWithdraw t s) head (withdraws t s) v sees
        t (if is_some (section line s) then route_withdrawn line c t s else rest)
        (λ known. leads_if_act line (took w a c) c v (is_some (section line s)) (route_withdrawn line c t s) rest k
        (act_keeps line ok w sound a c number from to (RouteWithdraw t s) head t
        (if is_some (section line s) then route_withdrawn line c t s else rest) known
        (received_keeps line ok w sound a c number from to (RouteWithdraw t s) head (record {})
        (trained line ok w sound a c number from to (RouteWithdraw t s) head t
        (if is_some (section line s) then route_withdrawn line c t s else rest)
        (λ so. if_sound line c (is_some (section line s)) (route_withdrawn line c t s) rest k
        (λ there. withdrawn_route line ok c a from t s k here) (λ none. rest_sound line c k here)))))
        (λ there keeps. withdrawal keeps)
        (λ none keeps. resting line ok w sound v sees a c number from to (RouteWithdraw t s) head (withdraws t s) k
        keeps refl refl refl refl refl refl refl))
      where
        here : IsCentreSound line c (took_frame a number (w.at c))
        here = sound_here line ok w sound a c number from to (RouteWithdraw t s) head
