-- Linked centres, own sections that are freed, and rights to supervise.
use Rattle.std.proofs.Common.{[], ◌&&◌, ◌<◌, ◌==◌, ◌∙◌, ◌≡◌, ◌≢◌, ap, Bool, false, if◌then◌else◌, is_none, is_some}
use Rattle.std.proofs.Common.{List, map, None, not, Option, refl, Some, subst, sym, true, ℕ}
use Rattle.std.proofs.lemmas.Bool.{and_parts}
use Rattle.std.proofs.lemmas.Option.{slice_get_within}
use Rattle.std.specs.List.{filter, range_with_len}
use Rattle.std.specs.Option.{option_map_or}
use Rattle.law_base.proofs.CountingLemmas.Resource.{carried_none}
use Rattle.law_base.specs.Counting.Network.{TakesHead, took}
use Rattle.law_base.specs.Counting.Resource.{Resource}
use Rattle.law_invariants.proofs.FlowLemmas.Admitted as admitted
use Rattle.law_invariants.proofs.SoundLemmas.Events.{linked_apart}
use Rattle.law_invariants.proofs.SoundLemmas.Starts.{asked_sound, given_sound, returned_sound}
use Rattle.law_invariants.specs.Flow.Counts.{hands, missions}
use Rattle.law_invariants.specs.Flow.Flow.{Flow, took_frame}
use Rattle.law_invariants.specs.Flow.Leads.{Leads, replied}
use Rattle.law_invariants.specs.Flow.Shows.{Shows}
use Rattle.law_invariants.specs.Flow.Sound.{IsFlowSound}
use Rattle.law_refinement.proofs.AbstractionLemmas.Hands.{mark_stays, sends_single}
use Rattle.law_refinement.proofs.AbstractionLemmas.Shows.{opened, shut}
use Rattle.law_refinement.proofs.RoutesLemmas.Bodies.{act_keeps, IsAside, leads_if, leads_if_act, leads_or_act}
use Rattle.law_refinement.proofs.RoutesLemmas.Bodies.{of_train_leads, received_keeps, sound_here, trained, unseen_by}
use Rattle.law_refinement.proofs.RoutesLemmas.Bodies.{unseen_leads}
use Rattle.law_refinement.specs.Abstraction.Acts.{hand_after, hand_before, IsAct, SendsNone}
use Rattle.law_refinement.specs.Abstraction.After.{MarkAfter}
use Rattle.rbc_spec.proofs.Runs.{filter_run}
use Rattle.rbc_spec.specs.Acts.{◌>>◌, Act, become, rest, return_right, send}
use Rattle.rbc_spec.specs.Centre as centre
use Rattle.rbc_spec.specs.Centre.{Centre, is_registrar_of}
use Rattle.rbc_spec.specs.Frame.{AskRight, Body, GiveRight, RefuseRight, ReturnRight}
use Rattle.rbc_spec.specs.Line.{is_centre, is_home, is_linked, IsLine, Line, registrar, Section, section}
use Rattle.rbc_spec.specs.LineCentre as line_centre
use Rattle.rbc_spec.specs.LineCentre.{free, LineState, told}
use Rattle.rbc_spec.specs.Links.{received, right_asked, right_given, right_returned}
use Rattle.rbc_spec.specs.Maps.{has, put}
use Rattle.rbc_spec.specs.Outcome.{Told}
use Rattle.rbc_spec.specs.Place.{Place}
use Rattle.rbc_spec.specs.SectionRuns.{SectionRun, within}
use Rattle.rbc_spec.specs.Sections.{section_count}

-- # Own sections that are freed: their shown marks, and the replies.

-- a section with a home is of the line
pub home_known : (line : Line) (c s : ℕ) → is_home line c s ≡ true → is_some (section line s) ≡ true
home_known line c s home = by_section (section line s) home
  where
    by_section : (o : Option Section) → option_map_or (λ p. p.home == c) o false ≡ true → is_some o ≡ true
    by_section None is = cc
    by_section (Some p) is = refl

pub known_below : (line : Line) (s : ℕ) → is_some (section line s) ≡ true → s < section_count line
known_below line s known = by_section (section line s) refl known
  where
    by_section : (o : Option Section) → section line s ≡ o → is_some o ≡ true → s < section_count line
    by_section None at is = cc
    by_section (Some p) at is = slice_get_within line.sections s p at

module _ (line : Line) (w : Flow) (v : LineState) (sees : Shows line w v) (c : ℕ) (is_freed : ℕ → Bool)
    (homes : (s : ℕ) → is_freed s ≡ true → is_home line c s ≡ true) where
  -- no section of another home
  pub not_freed : (s : ℕ) → is_home line c s ≡ false → is_freed s ≡ false
  not_freed s away = by_test (is_freed s) refl
    where
      by_test : (b : Bool) → is_freed s ≡ b → b ≡ false
      by_test true is = absurd (let wrong : false ≡ true = sym away ∙ homes s is in cc)
      by_test false is = refl

  pub freed_wish : (s : ℕ) → is_home line c s ≡ true → (free is_freed v).wish s ≡ (not (is_freed s) && (w.at c).wish s)
  freed_wish s home = ap (λ b. not (is_freed s) && b) (sees.wish s c home)

  pub freed_other_wish : (s : ℕ) → is_home line c s ≡ false → (free is_freed v).wish s ≡ v.wish s
  freed_other_wish s away = ap (λ b. not b && v.wish s) (not_freed s away)

  pub freed_no_section : (s : ℕ) → section line s ≡ None → (free is_freed v).mark s ≡ v.mark s
  freed_no_section s none = ap (λ b. if b then (if v.wish s then line_centre.Shut else line_centre.Open) else v.mark s)
      (not_freed s (ap (has (λ p. p.home == c)) none))

  -- ## The replies

  same_wish : (s : ℕ) → (is_freed s && v.wish s) ≡ (is_freed s && (w.at c).wish s)
  same_wish s = by_test (is_freed s) refl
    where
      by_test : (b : Bool) → is_freed s ≡ b → (b && v.wish s) ≡ (b && (w.at c).wish s)
      by_test true is = sees.wish s c (homes s is)
      by_test false is = refl

  -- the line reports the freed sections of a run in order
  pub freed_told : (r : SectionRun) → ((s : ℕ) → is_freed s ≡ true → within r s ≡ true)
      → ((s : ℕ) → within r s ≡ true → s < section_count line)
      → told line is_freed v
      ≡ map (λ s. Told s) (filter (λ s. is_freed s && (w.at c).wish s) (range_with_len r.first r.count))
  freed_told r only inside =
      ap (map (λ s. Told s)) (ap (λ (test : ℕ → Bool). filter test (range_with_len 0 (section_count line)))
      (λ i s. same_wish s i)
      ∙ filter_run (λ s. is_freed s && (w.at c).wish s) r (section_count line)
      (λ s passes. only s (and_parts (is_freed s) ((w.at c).wish s) passes).0) inside)

  -- ## Marks

  module _ (came : Resource Centre Body → ℕ) (y : Centre) (frames : ℕ → List Body) (new : Flow)
      (act : IsAct line w c came y frames new)
      (book : (s : ℕ)
      → y.book s ≡ (if is_freed s then (if (w.at c).wish s then centre.Shut else centre.Open) else (w.at c).book s))
      (hand : (t s : ℕ) → hand_after line c t s y frames ≡ hand_before t s (w.at c) came) where
    pub freed_mark : (s d : ℕ) → is_home line d s ≡ true
        → MarkAfter line w new s d (v.mark s)
        (if is_freed s then (if v.wish s then line_centre.Shut else line_centre.Open) else v.mark s)
    freed_mark s d home = by_test (is_freed s) refl
      where
        by_test : (b : Bool) → is_freed s ≡ b
            → MarkAfter line w new s d (v.mark s)
            (if b then (if v.wish s then line_centre.Shut else line_centre.Open) else v.mark s)
        by_test true is = by_wish (v.wish s) (sym (sees.wish s c (homes s is)))
          where
            entry : y.book s ≡ (if (w.at c).wish s then centre.Shut else centre.Open)
            entry = book s
                ∙ ap (λ b. if b then (if (w.at c).wish s then centre.Shut else centre.Open) else (w.at c).book s) is

            by_wish : (b : Bool) → (w.at c).wish s ≡ b
                → MarkAfter line w new s d (v.mark s) (if b then line_centre.Shut else line_centre.Open)
            by_wish true wished = shut line w c came y frames new s d act home (v.mark s) (homes s is) (entry
                ∙ ap (λ b. if b then centre.Shut else centre.Open) wished)
            by_wish false unwished = opened line w c came y frames new s d act home (v.mark s) (homes s is) (entry
                ∙ ap (λ b. if b then centre.Shut else centre.Open) unwished)
        by_test false is = mark_stays line w c came y frames new s d (v.mark s) act (book s
            ∙ ap (λ b. if b then (if (w.at c).wish s then centre.Shut else centre.Open) else (w.at c).book s)
            is) (λ t used. hand t s)

-- # Two centres that are linked.

-- both are centres of the line, and they are two
pub ends : (line : Line) (c a : ℕ) → is_linked line c a ≡ true
    → ((is_centre line c ≡ true) × (is_centre line a ≡ true)) × (c ≢ a)
ends line c a linked =
    let both = and_parts (is_centre line c && is_centre line a) (not (c == a)) linked in
    (and_parts (is_centre line c) (is_centre line a) both.0, (linked_apart line c a linked).1)

-- # Rights to supervise that are asked for, given and given back: nothing of them is shown, but for a start that waits.

asks : (t : ℕ) → IsAside (AskRight t)
asks t = record { follows = λ u n. refl; mission = λ a c u. refl; hand = λ a c u s. refl }

gives : (t : ℕ) → IsAside (GiveRight t)
gives t = record { follows = λ u n. refl; mission = λ a c u. refl; hand = λ a c u s. refl }

returns : (t : ℕ) → IsAside (ReturnRight t)
returns t = record { follows = λ u n. refl; mission = λ a c u. refl; hand = λ a c u s. refl }

-- an act after an act that only changes the state
pub after_change : (change : Centre → Centre) (act : Act) (k : Centre) → (become change >> act) k ≡ act (change k)
unfolding ◌>>◌
after_change change act k = refl

module _ (line : Line) (ok : IsLine line) (w : Flow) (sound : IsFlowSound line w) (v : LineState)
    (sees : Shows line w v) (a c number : ℕ) (from : is_centre line a ≡ true) (to : is_centre line c ≡ true) where
  abbrev k : Centre
  k = took_frame a number (w.at c)

  -- a reply that changes only rights and questions, and sends at most one frame about them
  module _ (f : Body) (head : TakesHead w a c f) (aside : IsAside f) where
    silent_leads : (y : Centre) (frames : ℕ → List Body)
        → IsFlowSound line (replied (took w a c) c (record { state = y; frames = frames; sayings = []; words = [] }))
        → y.book ≡ (w.at c).book → y.wish ≡ (w.at c).wish → y.wait ≡ (w.at c).wait → y.mission ≡ (w.at c).mission
        → y.phase ≡ (w.at c).phase → y.heard ≡ (w.at c).heard → y.said ≡ (w.at c).said
        → ((t : ℕ) → SendsNone (missions t) c frames) → ((t s : ℕ) → SendsNone (hands t s) c frames)
        → Leads line (took w a c) c (record { state = y; frames = frames; sayings = []; words = [] }) v
    silent_leads y frames keeps book wish waits mission phase heard said no_mission no_hand =
        unseen_leads line ok w sound a c number from to f head aside v sees
        (record { state = y; frames = frames; sayings = []; words = [] }) keeps refl
        (unseen_by line ok w sound a c number from to f head aside v sees y frames book wish waits mission
        no_mission no_hand) phase heard said

    pub resting : (y : Centre) → IsFlowSound line (replied (took w a c) c (rest y))
        → y.book ≡ (w.at c).book → y.wish ≡ (w.at c).wish → y.wait ≡ (w.at c).wait → y.mission ≡ (w.at c).mission
        → y.phase ≡ (w.at c).phase → y.heard ≡ (w.at c).heard → y.said ≡ (w.at c).said
        → Leads line (took w a c) c (rest y) v
    resting y keeps book wish waits mission phase heard said =
        silent_leads y (λ d. []) keeps book wish waits mission phase heard said (λ t d. carried_none (missions t) c d)
        (λ t s d. carried_none (hands t s) c d)

    pub sending : (d : ℕ) (body : Body) (y : Centre) → ((t : ℕ) → (missions t).inside c d body ≡ 0)
        → ((t s : ℕ) → (hands t s).inside c d body ≡ 0)
        → IsFlowSound line (replied (took w a c) c (send d body y))
        → y.book ≡ (w.at c).book → y.wish ≡ (w.at c).wish → y.wait ≡ (w.at c).wait → y.mission ≡ (w.at c).mission
        → y.phase ≡ (w.at c).phase → y.heard ≡ (w.at c).heard → y.said ≡ (w.at c).said
        → Leads line (took w a c) c (send d body y) v
    sending d body y no_mission no_hand keeps book wish waits mission phase heard said =
        silent_leads y (send d body y).frames keeps book wish waits mission phase heard said
        (λ t. sends_single (missions t) c d body (no_mission t))
        (λ t s. sends_single (hands t s) c d body (no_hand t s))

    -- the right is returned
    back_leads : (t : ℕ) (y : Centre) → IsFlowSound line (replied (took w a c) c (return_right line c t y))
        → y.book ≡ (w.at c).book → y.wish ≡ (w.at c).wish → y.wait ≡ (w.at c).wait → y.mission ≡ (w.at c).mission
        → y.phase ≡ (w.at c).phase → y.heard ≡ (w.at c).heard → y.said ≡ (w.at c).said
        → Leads line (took w a c) c (return_right line c t y) v
    back_leads t y keeps book wish waits mission phase heard said =
        leads_if_act line (took w a c) c v (is_registrar_of line c t)
        (become (λ j. record j { has_right = put j.has_right t true }))
        (option_map_or (λ r. send r (ReturnRight t)) (registrar line t) rest) y keeps
        (λ so here. resting (record y { has_right = put y.has_right t true }) here book wish
        waits mission phase heard said)
        (λ so here. leads_or_act line (took w a c) c v (registrar line t) (λ r. send r (ReturnRight t)) rest y here
        (λ r is there. sending r (ReturnRight t) y (λ u. refl) (λ u s. refl) there book wish
        waits mission phase heard said)
        (λ none there. resting y there book wish waits mission phase heard said))

  -- ## Asked for

  pub asked_leads : (t : ℕ) → TakesHead w a c (AskRight t)
      → Leads line (took w a c) c (received line c a (AskRight t) (took_frame a number (w.at c))) v
  asked_leads t head = of_train_leads line ok w sound a c number from to (AskRight t) head (asks t) v
      sees t (right_asked line c a t)
      (λ known. leads_if line (took w a c) c v (is_registrar_of line c t)
      (if k.has_right t then (become (λ j. record j { has_right = put j.has_right t false })
      >> send a (GiveRight t)) k else send a (RefuseRight t) k) (rest k)
      (act_keeps line ok w sound a c number from to (AskRight t) head t (right_asked line c a t) known
      (received_keeps line ok w sound a c number from to (AskRight t) head (record {})
      (trained line ok w sound a c number from to (AskRight t) head t (right_asked line c a t)
      (λ so. asked_sound line ok c a t k from (sound_here line ok w sound a c number from to (AskRight t) head)))))
      (λ here keeps. leads_if line (took w a c) c v (k.has_right t)
      ((become (λ j. record j { has_right = put j.has_right t false }) >> send a (GiveRight t)) k)
      (send a (RefuseRight t) k) keeps
      (λ has there. subst (λ q. Leads line (took w a c) c q v)
      (sym (after_change (λ j. record j { has_right = put j.has_right t false }) (send a (GiveRight t)) k))
      (sending (AskRight t) head (asks t) a (GiveRight t) (record k { has_right = put k.has_right t false })
      (λ u. refl) (λ u s. refl)
      (subst (λ q. IsFlowSound line (replied (took w a c) c q))
      (after_change (λ j. record j { has_right = put j.has_right t false }) (send a (GiveRight t)) k) there) refl
      refl refl refl refl refl refl))
      (λ gone there. sending (AskRight t) head (asks t) a (RefuseRight t) k (λ u. refl) (λ u s. refl) there refl
      refl refl refl refl refl refl))
      (λ away keeps. resting (AskRight t) head (asks t) k keeps refl refl refl refl refl refl refl))

  -- ## Given back

  pub returned_leads : (t : ℕ) → TakesHead w a c (ReturnRight t)
      → Leads line (took w a c) c (received line c a (ReturnRight t) (took_frame a number (w.at c))) v
  returned_leads t head = of_train_leads line ok w sound a c number from to (ReturnRight t) head (returns t) v sees
      t (right_returned line c t)
      (λ known. leads_if line (took w a c) c v (is_registrar_of line c t
      && (not (k.has_right t) && is_none (k.mission t))) (return_right line c t k) (rest k)
      (act_keeps line ok w sound a c number from to (ReturnRight t) head t (right_returned line c t) known
      (received_keeps line ok w sound a c number from to (ReturnRight t) head (record {})
      (trained line ok w sound a c number from to (ReturnRight t) head t (right_returned line c t)
      (λ so. returned_sound line ok c t k (sound_here line ok w sound a c number from to (ReturnRight t) head)))))
      (λ here keeps. back_leads (ReturnRight t) head (returns t) t k keeps refl refl refl refl refl refl refl)
      (λ away keeps. resting (ReturnRight t) head (returns t) k keeps refl refl refl refl refl refl refl))

  -- ## Given

  -- if nothing waits for it, or it was not asked for
  unwanted_leads : (t : ℕ) → TakesHead w a c (GiveRight t) → ((w.at c).has_asked t ≡ true → (w.at c).wait t ≡ None)
      → Leads line (took w a c) c (received line c a (GiveRight t) (took_frame a number (w.at c))) v
  unwanted_leads t head none = of_train_leads line ok w sound a c number from to (GiveRight t) head (gives t) v
      sees t (right_given line c t)
      (λ known. leads_if line (took w a c) c v (k.has_asked t) _ (rest k)
      (act_keeps line ok w sound a c number from to (GiveRight t) head t (right_given line c t) known
      (received_keeps line ok w sound a c number from to (GiveRight t) head (record {})
      (trained line ok w sound a c number from to (GiveRight t) head t (right_given line c t)
      (λ so. given_sound line ok c t k (sound_here line ok w sound a c number from to (GiveRight t) head)))))
      (λ asked keeps. subst (λ q. Leads line (took w a c) c q v)
      (sym (after_change (λ j. record j { has_asked = put j.has_asked t false }) _ k))
      (leads_if line (took w a c) c v (is_some (k.wait t) && is_none (k.mission t)) _
      (return_right line c t (record k { has_asked = put k.has_asked t false }))
      (subst (λ q. IsFlowSound line (replied (took w a c) c q))
      (after_change (λ j. record j { has_asked = put j.has_asked t false }) _ k) keeps)
      (λ waits there. absurd (let wrong : false
      ≡ true = sym (ap (λ (o : Option Place). is_some o && is_none (k.mission t)) (none asked)) ∙ waits in cc))
      (λ no there. back_leads (GiveRight t) head (gives t) t (record k { has_asked = put k.has_asked t false }) there
      refl refl refl refl refl refl refl)))
      (λ unasked keeps. resting (GiveRight t) head (gives t) k keeps refl refl refl refl refl refl refl))

  pub given_leads : (t : ℕ) → TakesHead w a c (GiveRight t)
      → Leads line (took w a c) c (received line c a (GiveRight t) (took_frame a number (w.at c))) v
  given_leads t head = by_wait ((w.at c).wait t) refl ((w.at c).has_asked t) refl
    where
      by_wait : (o : Option Place) → (w.at c).wait t ≡ o → (b : Bool) → (w.at c).has_asked t ≡ b
          → Leads line (took w a c) c (received line c a (GiveRight t) (took_frame a number (w.at c))) v
      by_wait None none b asked = unwanted_leads t head (λ so. none)
      by_wait (Some place) waits true asked =
          admitted.leads line w sound v sees a c t number place from to head waits asked
      by_wait (Some place) waits false unasked =
          unwanted_leads t head (λ asked. absurd (let wrong : false ≡ true = sym unasked ∙ asked in cc))
