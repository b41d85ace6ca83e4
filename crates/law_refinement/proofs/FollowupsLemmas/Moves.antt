-- The quiet steps of a reply, and acts that change nothing that is seen.
use Rattle.std.proofs.Common.{[], ⊎_elim, ◌+◌, ◌∙◌, ◌∷◌, ◌≡◌, ◌≢◌, ap, append-nil, arith, Bool, false, if◌then◌else◌}
use Rattle.std.proofs.Common.{List, None, Option, option_map, refl, Some, subst, sym, true, ℕ}
use Rattle.std.proofs.lemmas.Bool.{and_from, cases_eq}
use Rattle.std.specs.List.{list_all}
use Rattle.std.specs.Option.{option_map_or}
use Rattle.law_base.proofs.CountingLemmas.Resource.{carried_none}
use Rattle.law_base.specs.Counting.Network.{acted}
use Rattle.law_base.specs.Counting.Sums.{one_if}
use Rattle.law_base.specs.Local.Local.{hand_has}
use Rattle.law_invariants.specs.Flow.Counts.{hands, missions}
use Rattle.law_invariants.specs.Flow.Flow.{centre_count, Flow}
use Rattle.law_invariants.specs.Flow.Keeping.{nothing_came}
use Rattle.law_invariants.specs.Flow.Leads.{Leads, replied, said_by}
use Rattle.law_invariants.specs.Flow.Shows.{Shows}
use Rattle.law_invariants.specs.Flow.Sound.{IsFlowSound}
use Rattle.law_refinement.proofs.AbstractionLemmas.Hands.{mark_stays, sends_none}
use Rattle.law_refinement.proofs.AbstractionLemmas.Missions.{supervised}
use Rattle.law_refinement.proofs.AbstractionLemmas.Shows.{by_itself, part_changes, part_stays, shows_after}
use Rattle.law_refinement.proofs.AbstractionLemmas.Shows.{unseen_shown}
use Rattle.law_refinement.specs.Abstraction.Acts.{IsAct, SendsNone}
use Rattle.law_refinement.specs.Abstraction.After.{IsUnseen, MissionAfter, PartAfter}
use Rattle.law_refinement.specs.Abstraction.After.MissionAfter.{is_here, stays}
use Rattle.rbc_spec.proofs.Lists.{put_here, put_other, put_there}
use Rattle.rbc_spec.specs.Acts.{Act, Reply}
use Rattle.rbc_spec.specs.Centre as centre
use Rattle.rbc_spec.specs.Centre.{Centre, Entry, Mission, Phase}
use Rattle.rbc_spec.specs.Frame.{Body}
use Rattle.rbc_spec.specs.Line.{is_centre, Line}
use Rattle.rbc_spec.specs.LineCentre as line_centre
use Rattle.rbc_spec.specs.LineCentre.{LineMission, LineState, nothing, Said, says}
use Rattle.rbc_spec.specs.Maps.{put, put_pair}
use Rattle.rbc_spec.specs.Place.{Place}
use Rattle.rbc_spec.specs.Quiet.{is_of_centre, Quiet, TakesAll, TakesQuiet}
use Rattle.rbc_spec.specs.ReadOff.{seen}
use Rattle.rbc_spec.specs.SectionRuns.{within}

-- # The quiet steps of a centre's reply, and the state that is shown after it.

-- the effect of an act, except that all stays sound
pub record Moves (line : Line) (w : Flow) (c : ℕ) (r : Reply) (v : LineState) : Type 0 where
  pub quiets : List Quiet
  pub new : LineState
  pub takes : TakesAll line v quiets (said_by r) new
  pub own_centre : list_all (is_of_centre line c) quiets ≡ true
  pub shows : Shows line (replied w c r) new

module _ (line : Line) (w : Flow) (c : ℕ) (v : LineState) where
  pub leading : (r : Reply) → Moves line w c r v → IsFlowSound line (replied w c r) → Leads line w c r v
  leading r moves sound =
      record {
        quiets = moves.quiets;
        new = moves.new;
        takes = moves.takes;
        own_centre = moves.own_centre;
        shows = moves.shows;
        sound = sound;
      }

  -- ## By cases

  pub moves_if : (b : Bool) (r q : Reply) → (b ≡ true → Moves line w c r v) → (b ≡ false → Moves line w c q v)
      → Moves line w c (if b then r else q) v
  moves_if true r q one two = one refl
  moves_if false r q one two = two refl

  pub moves_or : {X : Type 0} (o : Option X) (f : X → Reply) (q : Reply)
      → ((x : X) → o ≡ Some x → Moves line w c (f x) v) → (o ≡ None → Moves line w c q v)
      → Moves line w c (option_map_or f o q) v
  moves_or None f q some none = none refl
  moves_or (Some x) f q some none = some x refl

  pub leads_or_act : {X : Type 0} (o : Option X) (f : X → Act) (g : Act) (k : Centre)
      → ((x : X) → o ≡ Some x → Leads line w c (f x k) v) → (o ≡ None → Leads line w c (g k) v)
      → Leads line w c (option_map_or f o g k) v
  leads_or_act None f g k some none = none refl
  leads_or_act (Some x) f g k some none = some x refl

  -- ## One quiet step

  pub one_quiet : (quiet : Quiet) (said : Said) (new : LineState) → TakesQuiet line v quiet said new
      → TakesAll line v (quiet ∷ []) said new
  one_quiet quiet said new takes = (
    said,
    nothing,
    new,
    takes,
    (refl, refl),
    λ i. record { sayings = sym (append-nil said.sayings) i; words = sym (append-nil said.words) i },
  )

module _ (line : Line) (w : Flow) (sound : IsFlowSound line w) (v : LineState) (sees : Shows line w v) (c : ℕ)
    (to : is_centre line c ≡ true) where
  abbrev k : Centre
  k = w.at c

  -- ## Unseen

  -- an act that changes no shown value, without messages and replies
  pub unseen_moves : (q : Reply) → said_by q ≡ nothing → IsUnseen c (w.at c) nothing_came q.state q.frames
      → q.state.phase ≡ (w.at c).phase → q.state.heard ≡ (w.at c).heard
      → q.state.said ≡ (w.at c).said → Moves line w c q v
  unseen_moves q silent same phase heard said = record {
    quiets = [];
    new = v;
    takes = (silent, refl);
    own_centre = refl;
    shows = unseen_shown line w c nothing_came q.state q.frames (replied w c q) v v.phase v.heard v.said sound sees to
        (by_itself line w c q.state q.frames sound.counted to) same
        (part_stays Phase c v.phase q.state.phase (λ t. sees.phase t c ∙ ap (λ (g : ℕ → Phase). g t) (sym phase)))
        (part_stays (Option ℕ) c v.heard q.state.heard (λ t. sees.heard t c
        ∙ ap (λ (g : ℕ → Option ℕ). g t) (sym heard)))
        (part_stays ℕ c v.said q.state.said (λ t. sees.said t c ∙ ap (λ (g : ℕ → ℕ). g t) (sym said)));
  }

  pub rest_moves : Moves line w c (record { state = w.at c; frames = λ d. []; sayings = []; words = [] }) v
  rest_moves = unseen_moves (record { state = w.at c; frames = λ d. []; sayings = []; words = [] })
      refl unchanged refl refl refl
    where
      unchanged : IsUnseen c (w.at c) nothing_came (w.at c) (λ d. [])
      unchanged = record {
        book = λ s. refl;
        wish = λ s. refl;
        wait = λ t. refl;
        mission = λ t. refl;
        hand = λ t s. refl;
        no_mission_came = λ t. refl;
        no_hand_came = λ t s. refl;
        no_mission_sent = λ t d. carried_none (missions t) c d;
        no_hand_sent = λ t s d. carried_none (hands t s) c d;
      }

  -- one message is sent, by one quiet step that changes nothing else of the line
  pub said_moves : (t : ℕ) (quiet : Quiet) (q : Reply) → is_of_centre line c quiet ≡ true
      → TakesQuiet line v quiet (said_by q) (says t c v)
      → IsUnseen c (w.at c) nothing_came q.state q.frames → q.state.phase ≡ (w.at c).phase
      → q.state.heard ≡ (w.at c).heard
      → q.state.said ≡ put (w.at c).said t ((w.at c).said t + 1) → Moves line w c q v
  said_moves t quiet q own takes same phase heard said = record {
    quiets = quiet ∷ [];
    new = says t c v;
    takes = one_quiet line w c v quiet (said_by q) (says t c v) takes;
    own_centre = and_from (is_of_centre line c quiet) true own refl;
    shows = unseen_shown line w c nothing_came q.state q.frames (replied w c q) v v.phase v.heard
        (put_pair v.said t c (v.said t c + 1)) sound sees to (by_itself line w c q.state q.frames sound.counted to) same
        (part_stays Phase c v.phase q.state.phase (λ u. sees.phase u c ∙ ap (λ (g : ℕ → Phase). g u) (sym phase)))
        (part_stays (Option ℕ) c v.heard q.state.heard (λ u. sees.heard u c
        ∙ ap (λ (g : ℕ → Option ℕ). g u) (sym heard)))
        (part_changes ℕ c t (v.said t c + 1) v.said (w.at c).said q.state.said (λ u. sees.said u c)
        (λ u. ap (λ (g : ℕ → ℕ). g u) said ∙ ap (λ n. put (w.at c).said t (n + 1) u) (sym (sees.said t c))));
  }

  -- ## A mission that is seen otherwise

  -- An act changes the train's mission m to n, which has the same hand, and the count of messages. No hand and no
  -- mission is sent.
  module _ (t : ℕ) (m n : Mission) (y : Centre) (frames : ℕ → List Body)
      (no_mission : (u : ℕ) → SendsNone (missions u) c frames) (no_hand : (u s : ℕ) → SendsNone (hands u s) c frames)
      (at : (w.at c).mission t ≡ Some m) (hand : n.hand ≡ m.hand) (phase : y.phase ≡ (w.at c).phase)
      (heard : y.heard ≡ (w.at c).heard)
      (count : ℕ → ℕ → ℕ) (said : PartAfter c v.said y.said count) (wait : y.wait ≡ (w.at c).wait)
      (wish : y.wish ≡ (w.at c).wish) (book : y.book ≡ (w.at c).book)
      (mission : y.mission ≡ put (w.at c).mission t (Some n)) where
    abbrev new : Flow
    new = acted w c y frames

    abbrev after : LineState
    after = record (line_centre.set_mission t (Some (seen c n)) v) { said = count }

    act : IsAct line w c nothing_came y frames (acted w c y frames)
    act = by_itself line w c y frames sound.counted to

    same_hand : (u s : ℕ) → hand_has (y.mission u) s ≡ hand_has ((w.at c).mission u) s
    same_hand u s = ap (λ (g : ℕ → Option Mission). hand_has (g u) s) mission ∙ ⊎_elim
        (λ (here : u ≡ t). ap (λ (o : Option Mission). hand_has o s) (put_here (w.at c).mission t u (Some n) here)
        ∙ ap (λ r. within r s) hand
        ∙ sym (ap (λ x. hand_has ((w.at c).mission x) s) here ∙ ap (λ (o : Option Mission). hand_has o s) at))
        (λ (other : u ≢ t). ap (λ (o : Option Mission). hand_has o s) (put_other (w.at c).mission t u (Some n) other))
        (cases_eq u t)

    missions_after : (u : ℕ) → MissionAfter line w c nothing_came y frames u (v.mission u) (after.mission u)
    missions_after u = ⊎_elim
        (λ (here : u ≡ t). subst (λ x. MissionAfter line w c nothing_came y frames x (v.mission x) (after.mission x))
        (sym here)
        (is_here n (put_there v.mission t (Some (seen c n))) (ap (λ (g : ℕ → Option Mission). g t) mission
        ∙ put_there (w.at c).mission t (Some n))
        (supervised line w c nothing_came y frames new t sound act m at) (no_mission t)))
        (λ (other : u ≢ t). stays (put_other v.mission t u (Some (seen c n)) other)
        (ap (λ (g : ℕ → Option Mission). option_map (seen c) (g u)) mission
        ∙ ap (option_map (seen c)) (put_other (w.at c).mission t u (Some n) other)) refl (no_mission u))
        (cases_eq u t)

    pub changed_shown : Shows line (acted w c y frames)
        (record (line_centre.set_mission t (Some (seen c n)) v) { said = count })
    changed_shown = shows_after line w c nothing_came y frames new v after sound sees to act (record {
      phase = part_stays Phase c v.phase y.phase (λ u. sees.phase u c ∙ ap (λ (g : ℕ → Phase). g u) (sym phase));
      heard = part_stays (Option ℕ) c v.heard y.heard (λ u. sees.heard u c
          ∙ ap (λ (g : ℕ → Option ℕ). g u) (sym heard));
      said = said;
      wait = part_stays (Option Place) c v.wait y.wait (λ u. sees.wait u c
          ∙ ap (λ (g : ℕ → Option Place). g u) (sym wait));
      wish = λ s home. sees.wish s c home ∙ ap (λ (g : ℕ → Bool). g s) (sym wish);
      other_wish = λ s away. refl;
      mark = λ s d home. mark_stays line w c nothing_came y frames new s d (v.mark s) act
          (ap (λ (g : ℕ → centre.Entry). g s) book)
          (λ u used.
          omega (
            arith,
            ap one_if (same_hand u s),
            sends_none (hands u s) (centre_count line) c frames (no_hand u s),
          ));
      no_section = λ s none. refl;
      mission = missions_after;
    })

-- # Acts that change no shown value, except the count of messages.

-- a change of a mission that is not seen, and keeps its hand
pub record IsHidden (c : ℕ) (change : Mission → Mission) : Type 0 where
  pub seen_same : (m : Mission) → seen c (change m) ≡ seen c m
  pub hand_same : (m : Mission) → (change m).hand ≡ m.hand

pub unseen_change : (c t : ℕ) (change : Mission → Mission) (k y : Centre) (frames : ℕ → List Body) → IsHidden c change
    → y.book ≡ k.book → y.wish ≡ k.wish → y.wait ≡ k.wait
    → y.mission ≡ put k.mission t (option_map change (k.mission t)) → ((u : ℕ) → SendsNone (missions u) c frames)
    → ((u s : ℕ) → SendsNone (hands u s) c frames)
    → IsUnseen c k nothing_came y frames
unseen_change c t change k y frames hidden book wish wait mission no_mission no_hand = record {
  book = λ s. ap (λ (f : ℕ → Entry). f s) book;
  wish = λ s. ap (λ (f : ℕ → Bool). f s) wish;
  wait = λ u. ap (λ (f : ℕ → Option Place). f u) wait;
  mission = λ u. ap (λ (f : ℕ → Option Mission). option_map (seen c) (f u)) mission ∙ seen_put u;
  hand = λ u s. ap (λ (f : ℕ → Option Mission). hand_has (f u) s) mission ∙ hand_put u s;
  no_mission_came = λ u. refl;
  no_hand_came = λ u s. refl;
  no_mission_sent = no_mission;
  no_hand_sent = no_hand;
}
  where
    seen_one : (o : Option Mission) → option_map (seen c) (option_map change o) ≡ option_map (seen c) o
    seen_one None = refl
    seen_one (Some m) = ap (λ (x : LineMission). Some x) (hidden.seen_same m)

    hand_one : (s : ℕ) (o : Option Mission) → hand_has (option_map change o) s ≡ hand_has o s
    hand_one s None = refl
    hand_one s (Some m) = ap (λ r. within r s) (hidden.hand_same m)

    seen_put : (u : ℕ) → option_map (seen c) (put k.mission t (option_map change (k.mission t)) u)
        ≡ option_map (seen c) (k.mission u)
    seen_put u = ⊎_elim
        (λ (here : u ≡ t). ap (option_map (seen c)) (put_here k.mission t u (option_map change (k.mission t)) here)
        ∙ seen_one (k.mission t) ∙ ap (λ x. option_map (seen c) (k.mission x)) (sym here))
        (λ (other : u ≢ t). ap (option_map (seen c)) (put_other k.mission t u (option_map change (k.mission t)) other))
        (cases_eq u t)

    hand_put : (u s : ℕ) → hand_has (put k.mission t (option_map change (k.mission t)) u) s ≡ hand_has (k.mission u) s
    hand_put u s = ⊎_elim
        (λ (here : u ≡ t). ap (λ o. hand_has o s) (put_here k.mission t u (option_map change (k.mission t)) here)
        ∙ hand_one s (k.mission t) ∙ ap (λ x. hand_has (k.mission x) s) (sym here))
        (λ (other : u ≢ t). ap (λ o. hand_has o s) (put_other k.mission t u (option_map change (k.mission t)) other))
        (cases_eq u t)

-- if missions stay
pub unseen_still : (c : ℕ) (k y : Centre) (frames : ℕ → List Body) → y.book ≡ k.book → y.wish ≡ k.wish
    → y.wait ≡ k.wait → y.mission ≡ k.mission
    → ((u : ℕ) → SendsNone (missions u) c frames) → ((u s : ℕ) → SendsNone (hands u s) c frames)
    → IsUnseen c k nothing_came y frames
unseen_still c k y frames book wish wait mission no_mission no_hand = record {
  book = λ s. ap (λ (f : ℕ → Entry). f s) book;
  wish = λ s. ap (λ (f : ℕ → Bool). f s) wish;
  wait = λ u. ap (λ (f : ℕ → Option Place). f u) wait;
  mission = λ u. ap (λ (f : ℕ → Option Mission). option_map (seen c) (f u)) mission;
  hand = λ u s. ap (λ (f : ℕ → Option Mission). hand_has (f u) s) mission;
  no_mission_came = λ u. refl;
  no_hand_came = λ u s. refl;
  no_mission_sent = no_mission;
  no_hand_sent = no_hand;
}
