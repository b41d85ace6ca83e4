-- Sections that leave a hand, a mission that closes, and one that is yielded.
use Rattle.std.proofs.Common.{[], ◌&&◌, ◌+◌, ◌==◌, ◌≡◌, ◌≤◌, ap, arith, Bool, false, if◌then◌else◌, inl, is_some}
use Rattle.std.proofs.Common.{lt-ltb, None, not, Option, option_map, refl, Some, subst, true, ℕ}
use Rattle.std.proofs.lemmas.Bool.{and_parts}
use Rattle.std.proofs.lemmas.Option.{same_Some}
use Rattle.std.specs.Option.{option_map_or}
use Rattle.law_base.specs.Counting.Sums.{one_if}
use Rattle.law_base.specs.Local.Local.{hand_has}
use Rattle.law_invariants.proofs.FlowLemmas.Neighbours.{neighbours}
use Rattle.law_invariants.proofs.SoundLemmas.Again.{again, gone_law, left_law, said_sound}
use Rattle.law_invariants.proofs.SoundLemmas.Held.{held, held_aside, held_freed, held_lent, held_mission}
use Rattle.law_invariants.proofs.SoundLemmas.Sends.{Held, if_reply, if_sound, leaves, none_sent, one_sent, or_reply}
use Rattle.law_invariants.proofs.SoundLemmas.Sends.{rest_sound, returned_sent, Sends, sends_of, Sound, then_sent}
use Rattle.law_invariants.specs.Flow.Counts.{wait_has}
use Rattle.law_invariants.specs.Flow.Sound.{IsCentreSound, IsMissionAt, IsYieldSound}
use Rattle.rbc_spec.proofs.Lists.{registrar_below}
use Rattle.rbc_spec.specs.Acts.{◌>>◌, Act, become, booked, cancel, change_mission, close, end_order, leave, part_at}
use Rattle.rbc_spec.specs.Acts.{rest, return_right, send, set_mission, where_so, yield}
use Rattle.rbc_spec.specs.Centre.{Centre, Handing, is_registrar_of, is_taken_for, is_up, Mission, Out}
use Rattle.rbc_spec.specs.Frame.{Cancel, ReturnRight, yielded_place}
use Rattle.rbc_spec.specs.Line.{is_centre, is_home, IsLine, Line, next_centre, registrar, train_number}
use Rattle.rbc_spec.specs.Links.{taking_over}
use Rattle.rbc_spec.specs.Maps.{put}
use Rattle.rbc_spec.specs.Place.{Place}
use Rattle.rbc_spec.specs.SectionRuns.{is_empty, SectionRun, within}

-- the next centre is of the line
pub next_is_centre : (line : Line) → IsLine line → (c d track : ℕ) → next_centre line c track ≡ Some d
    → is_centre line d ≡ true
next_is_centre line ok c d track next =
    let linked = (neighbours line ok).linked c d track next in
    let centres = and_parts (is_centre line d && is_centre line c) (not (d == c)) linked in
    (and_parts (is_centre line d) (is_centre line c) centres.0).0

-- the registrar of a train is a centre of the line
pub registrar_is_centre : (line : Line) → IsLine line → (t r : ℕ) → registrar line t ≡ Some r → is_centre line r ≡ true
registrar_is_centre line ok t r is = lt-ltb r _ (registrar_below line ok t r is)

module _ (line : Line) (c : ℕ) (k : Centre) (t : ℕ) (mine : ℕ → Bool) (wait : Option Place) where
  pub held_changed : (mission : Option Mission) (y : Centre) → Held line c k t mine wait mission y
      → (change : Mission → Mission)
      → Held line c k t mine wait (option_map change mission) (change_mission t change y).state
  held_changed mission y h change = subst (λ o. Held line c k t mine wait o (change_mission t change y).state)
      (ap (option_map change) h.mission)
      (held_mission line c k t mine wait mission y h (option_map change (y.mission t)))

  -- ## Close

  held_cancelled : (o : Option Handing) (y : Centre) → Held line c k t mine wait None y
      → Held line c k t mine wait None
      (option_map_or (λ h. send h.to (Cancel h.number t) >> change_mission t (λ n. record n { handing = None }))
      o rest y).state
  unfolding ◌>>◌
  held_cancelled (Some i) y h = held_changed None y h (λ n. record n { handing = None })
  held_cancelled None y h = h

  held_right : (y : Centre) → Held line c k t mine wait None y
      → Held line c k t mine wait None (return_right line c t y).state
  held_right y h = by_test (is_registrar_of line c t)
    where
      by_registrar : (o : Option ℕ)
          → Held line c k t mine wait None (option_map_or (λ r. send r (ReturnRight t)) o rest y).state
      by_registrar (Some r) = h
      by_registrar None = h

      by_test : (b : Bool)
          → Held line c k t mine wait None
          ((if b then become (λ j. record j { has_right = put j.has_right t true }) else option_map_or
          (λ r. send r (ReturnRight t)) (registrar line t) rest) y).state
      by_test true = held_aside line c k t mine wait None y h (record y { has_right = put y.has_right t true }) refl
          refl refl refl (λ u is. is) (omega arith) h.asks
      by_test false = by_registrar (registrar line t)

  pub held_closed : (mission : Option Mission) (m : Mission) (y : Centre) → Held line c k t mine wait mission y
      → Held line c k t mine wait None (close line c t m y).state
  unfolding ◌>>◌
  held_closed mission m y h = held_right (cancel t m (set_mission t None y).state).state
      (held_cancelled m.handing (set_mission t None y).state (held_mission line c k t mine wait mission y h None))

module _ (line : Line) (ok : IsLine line) (c : ℕ) where
  -- ## Its frames

  pub right_sent : (t : ℕ) (k : Centre) → Sends line c (return_right line c t k).frames
  right_sent t k = by_test (is_registrar_of line c t)
    where
      by_registrar : (o : Option ℕ) → registrar line t ≡ o
          → Sends line c (option_map_or (λ r. send r (ReturnRight t)) o rest k).frames
      by_registrar (Some r) is = one_sent line c r (ReturnRight t) k (registrar_is_centre line ok t r is) (record {})
      by_registrar None is = none_sent line c

      by_test : (b : Bool)
          → Sends line c
          ((if b then become (λ j. record j { has_right = put j.has_right t true }) else option_map_or
          (λ r. send r (ReturnRight t)) (registrar line t) rest) k).frames
      by_test true = none_sent line c
      by_test false = by_registrar (registrar line t) refl

  -- the handover that the mission announced is to a centre of the line
  abbrev pub ToCentre : Mission → Type 0
  ToCentre m = (h : Handing) → m.handing ≡ Some h → is_centre line h.to ≡ true

  pub to_centre : (k : Centre) (m : Mission) → IsMissionAt line c k m → ToCentre m
  to_centre k m is h at = next_is_centre line ok c h.to m.place.track (is.handing_to h at)

  pub cancel_sent : (t : ℕ) (m : Mission) (k : Centre) → ToCentre m → is_some (train_number line t) ≡ true
      → Sends line c (cancel t m k).frames
  unfolding ◌>>◌
  cancel_sent t m k to known = by_handing m.handing refl
    where
      by_handing : (o : Option Handing) → m.handing ≡ o
          → Sends line c (option_map_or (λ h. send h.to (Cancel h.number t)
          >> change_mission t (λ n. record n { handing = None })) o rest k).frames
      by_handing (Some h) at = then_sent line c (send h.to (Cancel h.number t) k).frames (λ d. [])
          (one_sent line c h.to (Cancel h.number t) k (to h at) known) (none_sent line c)
      by_handing None at = none_sent line c

  pub close_sent : (t : ℕ) (m : Mission) (k : Centre) → ToCentre m → is_some (train_number line t) ≡ true
      → Sends line c (close line c t m k).frames
  unfolding ◌>>◌
  close_sent t m k to known =
      let j : Centre = (set_mission t None k).state in
      then_sent line c _ _ (then_sent line c (λ d. []) (cancel t m j).frames (none_sent line c)
      (cancel_sent t m j to known)) (right_sent t (cancel t m j).state)

  module _ (k : Centre) (old : IsCentreSound line c k) (t : ℕ) (n : Mission) (at : k.mission t ≡ Some n) where
    claims : (s : ℕ) → is_home line c s ≡ true → one_if (is_taken_for t (k.book s))
        ≡ one_if (wait_has line (k.wait t) s) + one_if (within n.hand s)
    claims s home = omega (arith, old.claims s t home, ap (λ (o : Option Mission). one_if (hand_has o s)) at)

    now : Held line c k t (λ s. is_taken_for t (k.book s)) (k.wait t) (Some n) k
    now = held line c k t (k.wait t) (Some n) old refl at

    -- ## Leave

    -- the whole hand leaves, and the mission closes
    pub whole_leaves : (m : Mission) (track : ℕ) (r : SectionRun)
        → ((s : ℕ) → is_home line c s ≡ true → within r s ≡ within n.hand s) → ToCentre m
        → Sound line c ((leave line c t track r >> close line c t m) k)
    unfolding ◌>>◌
    whole_leaves m track r same to = leaves line c
        (again line c k old t _ None _ (held_closed line c k t _ (k.wait t) (Some n) m (leave line c t track r k).state
        (held_freed line c k t _ (k.wait t) (Some n) k now r))
        (λ s home. gone_law (within r s) (is_taken_for t (k.book s)) (wait_has line (k.wait t) s) (within n.hand s)
        (claims s home) (same s home)) (λ p is. cc))
        (then_sent line c _ _ (then_sent line c (λ d. []) _ (none_sent line c) (returned_sent line c ok t track r k))
        (close_sent t m _ to (old.mission_known t n at).0))

    -- a part of the hand leaves
    pub part_held : (p : Mission) (track : ℕ) (r : SectionRun)
        → ((s : ℕ) → is_home line c s ≡ true → within r s ≡ true → within n.hand s ≡ true)
        → ((s : ℕ) → is_home line c s ≡ true → within p.hand s ≡ (within n.hand s && not (within r s)))
        → IsMissionAt line c k p
        → IsCentreSound line c ((leave line c t track r >> set_mission t (Some p)) k).state
    unfolding ◌>>◌
    part_held p track r part left sound =
        again line c k old t _ (Some p) _
        (held_mission line c k t _ (k.wait t) (Some n) (leave line c t track r k).state
        (held_freed line c k t _ (k.wait t) (Some n) k now r) (Some p))
        (λ s home. omega (
          arith,
          left_law (within r s) (is_taken_for t (k.book s)) (wait_has line (k.wait t) s) (within n.hand s)
              (claims s home) (part s home),
          ap one_if (left s home),
        ))
        (λ q is. (subst (IsMissionAt line c k) (same_Some p q is) sound, old.mission_known t n at))

    pub part_leaves : (p : Mission) (track : ℕ) (r : SectionRun)
        → ((s : ℕ) → is_home line c s ≡ true → within r s ≡ true → within n.hand s ≡ true)
        → ((s : ℕ) → is_home line c s ≡ true → within p.hand s ≡ (within n.hand s && not (within r s)))
        → IsMissionAt line c k p
        → Sound line c ((leave line c t track r >> set_mission t (Some p)) k)
    unfolding ◌>>◌
    part_leaves p track r part left sound = leaves line c (part_held p track r part left sound)
        (then_sent line c _ (λ d. []) (then_sent line c (λ d. []) _ (none_sent line c)
        (returned_sent line c ok t track r k)) (none_sent line c))

    -- a part of the hand leaves, and another act follows
    pub part_then : (p : Mission) (track : ℕ) (r : SectionRun) (act : Act)
        → ((s : ℕ) → is_home line c s ≡ true → within r s ≡ true → within n.hand s ≡ true)
        → ((s : ℕ) → is_home line c s ≡ true → within p.hand s ≡ (within n.hand s && not (within r s)))
        → IsMissionAt line c k p
        → ((j : Centre) → IsCentreSound line c j → j.mission t ≡ Some p
        → k.announced ≤ j.announced → Sound line c (act j))
        → Sound line c ((leave line c t track r >> (set_mission t (Some p) >> act)) k)
    unfolding ◌>>◌
    part_then p track r act part left sound next =
        let j : Centre = ((leave line c t track r >> set_mission t (Some p)) k).state in
        let h = held_mission line c k t _ (k.wait t) (Some n) (leave line c t track r k).state
        (held_freed line c k t _ (k.wait t) (Some n) k now r) (Some p) in
        let after = next j (part_held p track r part left sound) h.mission (omega arith) in
        leaves line c after.centre
        (then_sent line c _ _ (then_sent line c (λ d. []) _ (none_sent line c) (returned_sent line c ok t track r k))
        (then_sent line c (λ d. []) (act j).frames (none_sent line c) (sends_of line c after)))

    -- ## Yield

    pub yielded_centre : IsCentreSound line c
        (set_mission t None (booked (is_taken_for t) (Out t) n.hand k).state).state
    yielded_centre =
        again line c k old t _ None _ (held_mission line c k t _ (k.wait t) (Some n)
        (booked (is_taken_for t) (Out t) n.hand k).state
        (held_lent line c k t _ (k.wait t) (Some n) k now n.hand) None)
        (λ s home. gone_law (within n.hand s) (is_taken_for t (k.book s)) (wait_has line (k.wait t) s) (within n.hand s)
        (claims s home) refl) (λ p is. cc)

  pub ordered_end : (t : ℕ) (k : Centre) → IsCentreSound line c k → Sound line c (end_order line c t k)
  ordered_end t k old = if_reply line c (is_up (k.phase t)) _ (rest k) (λ up. said_sound line c k old t)
      (λ down. rest_sound line c k old)

  -- a mission is yielded to the next centre
  pub yield_sound : (t : ℕ) (m : Mission) (h : Handing) (k : Centre) → IsCentreSound line c k → k.mission t ≡ Some m
      → m.handing ≡ Some h → Sound line c (yield line c t m h k)
  unfolding ◌>>◌
  yield_sound t m h k old at handed =
      let is = old.mission t m at in
      let to = to_centre k m is h handed in
      let j : Centre = (set_mission t None (booked (is_taken_for t) (Out t) m.hand k).state).state in
      let done = yielded_centre k old t m at in
      let after = if_sound line c (is_empty (part_at line c m.place.track m.hand)) (end_order line c t) rest j
      (λ none. ordered_end t j done) (λ some. rest_sound line c j done) in
      leaves line c after.centre
      (then_sent line c _ _
      (then_sent line c _ _ (then_sent line c _ (λ d. []) (returned_sent line c ok t m.place.track m.pool k)
      (none_sent line c))
      (then_sent line c (λ d. []) _ (none_sent line c)
      (one_sent line c h.to _ j to (body k is (old.mission_known t m at).0))))
      (sends_of line c after))
    where
      body : (z : Centre) → IsMissionAt line c z m → is_some (train_number line t) ≡ true
          → IsYieldSound line c h.to t (yielded_place m.place) m.hand
      body z is known = record {
        place = m.place;
        is_carried = refl;
        is_hand = is.hand;
        to_next = is.handing_to h handed;
        known = known;
        hand_ends = λ s n beyond has. is.hand_ends s h.to n (is.handing_to h handed) beyond
            (inl (ap is_some handed)) has;
      }

  pub yielded_over : (d number t : ℕ) (k : Centre) → IsCentreSound line c k
      → Sound line c (taking_over line c d number t k)
  yielded_over d number t k old = or_reply line c (k.mission t) _ (rest k)
      (λ m at. or_reply line c m.handing (λ h. where_so (λ j. (h.number == number) && (h.to == d))
      (yield line c t m h) k) (rest k)
      (λ h handed. if_reply line c ((h.number == number) && (h.to == d)) (yield line c t m h k) (rest k)
      (λ so. yield_sound t m h k old at handed)
      (λ other. rest_sound line c k old))
      (λ none. rest_sound line c k old))
      (λ none. rest_sound line c k old)
