-- A centre that is sound again after an act.
use Rattle.std.proofs.Common.{[], ◌&&◌, ◌+◌, ◌||◌, ◌≡◌, ◌≤◌, ap, arith, Bool, false, is_some, None, not, Option}
use Rattle.std.proofs.Common.{option_map, refl, Some, subst, true, ℕ}
use Rattle.std.proofs.lemmas.Option.{same_Some}
use Rattle.law_base.specs.Counting.Sums.{one_if}
use Rattle.law_base.specs.Local.Local.{hand_has}
use Rattle.law_invariants.proofs.SoundLemmas.Held.{held, held_aside, held_freed, held_mission, held_wait, sound_again}
use Rattle.law_invariants.proofs.SoundLemmas.Held.{still}
use Rattle.law_invariants.proofs.SoundLemmas.Sends.{Held, leaves, none_sent, or_reply, rest_sound, Sound}
use Rattle.law_invariants.specs.Flow.Counts.{wait_has}
use Rattle.law_invariants.specs.Flow.Keeping.{LeavesSound}
use Rattle.law_invariants.specs.Flow.Sound.{IsCentreSound, IsMissionAt, IsOfNext}
use Rattle.rbc_spec.specs.Acts.{◌>>◌, change_mission, freed}
use Rattle.rbc_spec.specs.Centre.{Centre, Entry, is_taken_for, is_unused, Mission, Phase, Shut}
use Rattle.rbc_spec.specs.Line.{is_home, Line, train_number}
use Rattle.rbc_spec.specs.Maps.{put}
use Rattle.rbc_spec.specs.Place.{covered, Place}
use Rattle.rbc_spec.specs.Rules.{drop_wait, set_phase}
use Rattle.rbc_spec.specs.SectionRuns.{within}

-- ## Home sections are taken if a waiting start or the hand has them

-- some leave the hand
pub left_law : (w taken wait hand : Bool) → one_if taken ≡ one_if wait + one_if hand → (w ≡ true → hand ≡ true)
    → one_if (taken && not w) ≡ one_if wait + one_if (hand && not w)
left_law false true wait true e to = e
left_law false true wait false e to = e
left_law false false wait true e to = e
left_law false false wait false e to = e
left_law true taken wait false e to = absurd (let wrong : false ≡ true = to refl in cc)
left_law true true true true e to = absurd (omega (arith, e))
left_law true false true true e to = absurd (omega (arith, e))
left_law true true false true e to = refl
left_law true false false true e to = absurd (omega (arith, e))

-- all of the hand leaves
pub gone_law : (w taken wait hand : Bool) → one_if taken ≡ one_if wait + one_if hand → w ≡ hand
    → one_if (taken && not w) ≡ one_if wait + one_if false
gone_law true true true hand e same = absurd (omega (arith, e, ap one_if same))
gone_law true true false hand e same = refl
gone_law true false wait hand e same = absurd (omega (arith, e, ap one_if same))
gone_law false true wait hand e same = omega (arith, e, ap one_if same)
gone_law false false wait hand e same = omega (arith, e, ap one_if same)

-- all of the start that waits leaves
pub dropped_law : (w taken hand : Bool) → one_if taken ≡ one_if w + one_if hand
    → one_if (taken && not w) ≡ one_if false + one_if hand
dropped_law true true true e = absurd (omega (arith, e))
dropped_law true true false e = refl
dropped_law true false hand e = absurd (omega (arith, e))
dropped_law false true hand e = e
dropped_law false false hand e = e

-- sections that were not taken join the hand
pub grown_law : (w taken wait hand : Bool) → one_if taken ≡ one_if wait + one_if hand → (w ≡ true → taken ≡ false)
    → one_if (taken || w) ≡ one_if wait + one_if (hand || w)
grown_law false true wait true e to = e
grown_law false true wait false e to = e
grown_law false false wait true e to = e
grown_law false false wait false e to = e
grown_law true true wait hand e to = absurd (let wrong : true ≡ false = to refl in cc)
grown_law true false true hand e to = absurd (omega (arith, e))
grown_law true false false true e to = refl
grown_law true false false false e to = refl

-- or the waiting start, if there was none
pub waiting_law : (w taken hand : Bool) → one_if taken ≡ one_if false + one_if hand → (w ≡ true → taken ≡ false)
    → one_if (taken || w) ≡ one_if w + one_if hand
waiting_law false true hand e to = e
waiting_law false false hand e to = e
waiting_law true true hand e to = absurd (let wrong : true ≡ false = to refl in cc)
waiting_law true false true e to = absurd (omega (arith, e))
waiting_law true false false e to = refl

-- the train is of the line, and a message of it was received
abbrev pub IsKnown : Line → Centre → ℕ → Type 0
IsKnown line k t = (is_some (train_number line t) ≡ true) × (is_some (k.heard t) ≡ true)

module _ (line : Line) (c : ℕ) (k : Centre) (old : IsCentreSound line c k) where
  -- ## If the waiting start stays

  pub again : (t : ℕ) (mine : ℕ → Bool) (mission : Option Mission) (y : Centre)
      → Held line c k t mine (k.wait t) mission y
      → ((s : ℕ) → is_home line c s ≡ true → one_if (mine s) ≡ one_if (wait_has line (k.wait t) s)
      + one_if (hand_has mission s))
      → ((m : Mission) → mission ≡ Some m → IsMissionAt line c k m × IsKnown line k t) → IsCentreSound line c y
  again t mine mission y h claims missions = sound_again line c k t mine (k.wait t) mission y old h (record {
    claims = claims;
    wait_home = old.wait_home t;
    wait_fits = old.wait_fits t;
    wait_known = λ place is. let known = old.wait_known t place is in (known.0, h.heard t known.1);
    mission = λ m is. still line c k y m h.announced (missions m is).0;
    mission_known = λ m is. let known = (missions m is).1 in (known.0, h.heard t known.1);
  })

  -- book, wishes, waits and missions as they are
  pub free_sound : (y : Centre) → y.book ≡ k.book → y.wish ≡ k.wish → y.wait ≡ k.wait → y.mission ≡ k.mission
      → ((u : ℕ) → is_some (k.heard u) ≡ true → is_some (y.heard u) ≡ true) → k.announced ≤ y.announced
      → ((u first : ℕ) → y.route_ask u ≡ Some first → IsOfNext line c first) → IsCentreSound line c y
  free_sound y book wish waits missions heard announced asks =
      again 0 (λ s. is_taken_for 0 (k.book s)) (k.mission 0) y
      (held_aside line c k 0 (λ s. is_taken_for 0 (k.book s)) (k.wait 0) (k.mission 0) k
      (held line c k 0 (k.wait 0) (k.mission 0) old refl refl) y book wish waits missions heard announced asks)
      (λ s home. old.claims s 0 home)
      (λ m is. (old.mission 0 m is, old.mission_known 0 m is))

  -- another book, with the same sections taken for each train
  pub book_sound : (book : ℕ → Entry) (wish : ℕ → Bool) → ((s : ℕ) → is_home line c s ≡ false → book s ≡ Shut)
      → ((s : ℕ) → is_unused (book s) ≡ true → wish s ≡ false)
      → ((s u : ℕ) → is_taken_for u (book s) ≡ is_taken_for u (k.book s))
      → IsCentreSound line c (record k { book = book; wish = wish })
  book_sound book wish foreign unwished same =
      again 0 (λ s. is_taken_for 0 (k.book s)) (k.mission 0) (record k { book = book; wish = wish })
      (record {
        foreign = foreign;
        asks = old.asks;
        unwished = unwished;
        mine = λ s home. same s 0;
        others = λ s u apart. same s u;
        wait = refl;
        waits = λ u apart. refl;
        mission = refl;
        missions = λ u apart. refl;
        heard = λ u is. is;
        announced = omega arith;
      })
      (λ s home. old.claims s 0 home)
      (λ m is. (old.mission 0 m is, old.mission_known 0 m is))

  pub said_sound : (t : ℕ) → LeavesSound line c (record k { said = put k.said t (k.said t + 1) }) (λ d. [])
  said_sound t = leaves line c
      (free_sound (record k { said = put k.said t (k.said t + 1) }) refl refl refl refl (λ u is. is) (omega arith)
      old.asks) (none_sent line c)

  pub phase_sound : (t : ℕ) (phase : Phase) → Sound line c (set_phase t phase k)
  phase_sound t phase =
      leaves line c (free_sound (set_phase t phase k).state refl refl refl refl (λ u is. is) (omega arith) old.asks)
      (none_sent line c)

  -- ## Missions

  held_now : (t : ℕ) (mission : Option Mission) → k.mission t ≡ mission
      → Held line c k t (λ s. is_taken_for t (k.book s)) (k.wait t) mission k
  held_now t mission at = held line c k t (k.wait t) mission old refl at

  -- the train has a mission, whose hand stays
  pub same_hand : (t : ℕ) (m n : Mission) (y : Centre) → k.mission t ≡ Some m
      → Held line c k t (λ s. is_taken_for t (k.book s)) (k.wait t) (Some n) y → n.hand ≡ m.hand
      → IsMissionAt line c y n → IsCentreSound line c y
  same_hand t m n y at h same sound = sound_again line c k t (λ s. is_taken_for t (k.book s)) (k.wait t)
      (Some n) y old h (record {
        claims = λ s home.
            omega (
              arith,
              old.claims s t home,
              ap (λ (o : Option Mission). one_if (hand_has o s)) at,
              ap (λ r. one_if (within r s)) same,
            );
        wait_home = old.wait_home t;
        wait_fits = old.wait_fits t;
        wait_known = λ place is. let known = old.wait_known t place is in (known.0, h.heard t known.1);
        mission = λ p is. subst (IsMissionAt line c y) (same_Some n p is) sound;
        mission_known = λ p is. let known = old.mission_known t m at in (known.0, h.heard t known.1);
      })

  -- a change of a mission that leaves its hand
  pub changed_sound : (t : ℕ) (change : Mission → Mission)
      → ((m : Mission) → k.mission t ≡ Some m → (change m).hand ≡ m.hand)
      → ((m : Mission) → k.mission t ≡ Some m → IsMissionAt line c k (change m))
      → Sound line c (change_mission t change k)
  changed_sound t change same sound = leaves line c (by_mission (k.mission t) refl) (none_sent line c)
    where
      by_mission : (o : Option Mission) → k.mission t ≡ o
          → IsCentreSound line c (record k { mission = put k.mission t (option_map change o) })
      by_mission (Some m) at =
          same_hand t m (change m) _ at (held_mission line c k t _ _ _ k (held_now t (Some m) at) (Some (change m)))
          (same m at)
          (still line c k (record k { mission = put k.mission t (Some (change m)) }) (change m)
          (omega arith) (sound m at))
      by_mission None at = again t _ None _ (held_mission line c k t _ _ _ k (held_now t None at) None)
          (λ s home. omega (arith, old.claims s t home, ap (λ (o : Option Mission). one_if (hand_has o s)) at))
          (λ m is. cc)

  -- ## A start that waits is dropped

  pub dropped_sound : (t : ℕ) → Sound line c (drop_wait line c t k)
  unfolding ◌>>◌
  dropped_sound t = or_reply line c (k.wait t) _ _ (λ place at. leaves line c (without place at) (none_sent line c))
      (λ none. rest_sound line c k old)
    where
      without : (place : Place) → k.wait t ≡ Some place
          → IsCentreSound line c (record ((freed line c (is_taken_for t) (covered line place) k).state)
          { wait = put k.wait t None })
      without place at =
          let y : Centre = (freed line c (is_taken_for t) (covered line place) k).state in
          let mine : ℕ → Bool = λ s. is_taken_for t (k.book s) in
          let h = held_freed line c k t mine (Some place) (k.mission t) k
          (held line c k t (Some place) (k.mission t) old at refl) (covered line place) in
          let g = held_wait line c k t (λ s. mine s && not (within (covered line place) s))
          (Some place) (k.mission t) y h None in
          sound_again line c k t (λ s. mine s && not (within (covered line place) s)) None
          (k.mission t) _ old g (record {
            claims = λ s home. dropped_law (within (covered line place) s) (mine s) (hand_has (k.mission t) s)
                (omega (arith, old.claims s t home, ap (λ (o : Option Place). one_if (wait_has line o s)) at));
            wait_home = λ s is. cc;
            wait_fits = λ p is. cc;
            wait_known = λ p is. cc;
            mission = λ m is. still line c k _ m (omega arith) (old.mission t m is);
            mission_known = λ m is. old.mission_known t m is;
          })
