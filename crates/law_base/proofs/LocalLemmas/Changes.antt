-- Changes of the book and of one train's mission that leave a centre local.
use Rattle.std.proofs.Common.{◌&&◌, ◌||◌, ◌∙◌, ◌≡◌, ap, Bool, false, if◌then◌else◌, is_none, None, not, Option}
use Rattle.std.proofs.Common.{option_map, refl, Some, subst, sym, true, ℕ}
use Rattle.std.proofs.lemmas.Bool.{and_left, and_parts, and_right, both_ways, true_from_ne_false}
use Rattle.std.proofs.lemmas.Option.{same_Some}
use Rattle.std.proofs.Math.Bool.{and-true}
use Rattle.law_base.proofs.LocalLemmas.Entries.{booked_for, given, hand_given, others_given, out_booked, out_given}
use Rattle.law_base.proofs.LocalLemmas.Entries.{taken_elsewhere, taken_for_one, taken_given, taken_here, unused_booked}
use Rattle.law_base.proofs.LocalLemmas.Stays.{remade, Stays}
use Rattle.law_base.specs.Local.Local.{hand_has, IsLocalAt, IsLocalMission}
use Rattle.rbc_spec.proofs.Lists.{put_here, put_other}
use Rattle.rbc_spec.specs.Acts.{change_mission}
use Rattle.rbc_spec.specs.Centre.{Centre, Entry, is_free, is_open, is_registrar_of, is_taken_for, is_unused, Mission}
use Rattle.rbc_spec.specs.Centre.{Open, Shut, Taken}
use Rattle.rbc_spec.specs.Line.{is_home, Line}
use Rattle.rbc_spec.specs.Maps.{put}
use Rattle.rbc_spec.specs.SectionRuns.{SectionRun, within}

hand_changed : (change : Mission → Mission) (o : Option Mission) (s : ℕ)
    → ((m : Mission) → o ≡ Some m → (change m).hand ≡ m.hand)
    → hand_has (option_map change o) s ≡ hand_has o s
hand_changed change (Some m) s same = ap (λ r. within r s) (same m refl)
hand_changed change None s same = refl

none_changed : (change : Mission → Mission) (o : Option Mission) → is_none (option_map change o) ≡ is_none o
none_changed change (Some m) = refl
none_changed change None = refl

local_changed : (line : Line) (change : Mission → Mission) (o : Option Mission)
    → ((m : Mission) → o ≡ Some m → IsLocalMission line (change m))
    → (n : Mission) → option_map change o ≡ Some n → IsLocalMission line n
local_changed line change (Some m) local n is = subst (IsLocalMission line) (same_Some (change m) n is) (local m refl)
local_changed line change None local n is = cc

and_same : (a b : Bool) → (a ≡ true → b ≡ true) → (a && b) ≡ a
and_same true b h = h refl
and_same false b h = refl

away_stays : (b home mine : Bool) → home ≡ false → ((b && home) && mine) ≡ false
away_stays b home mine away = and_left (b && home) mine (and_right b home away)

unwished_given : (back wish : Bool) (e : Entry) → (is_unused e ≡ true → wish ≡ false)
    → is_unused (given back wish e) ≡ true → (not back && wish) ≡ false
unwished_given true wish e is unused = refl
unwished_given false wish e is unused = is unused

module _ (line : Line) (c : ℕ) where
  -- ## Facts of a local state

  pub registrar_of_mission : (k : Centre) (t : ℕ) (m : Mission) → IsLocalAt line c k → k.mission t ≡ Some m
      → is_registrar_of line c t ≡ true
  registrar_of_mission k t m h at = true_from_ne_false (is_registrar_of line c t)
      (λ away. let none : k.mission t ≡ None = h.at_registrar t away in cc)

  pub hand_taken : (k : Centre) (t : ℕ) (m : Mission) (s : ℕ) → IsLocalAt line c k → k.mission t ≡ Some m
      → is_taken_for t (k.book s) ≡ within m.hand s
  hand_taken k t m s h at = h.taken s t ∙ ap (λ o. hand_has o s) at

  -- a section of another home is taken for no train
  pub away_untaken : (k : Centre) (t s : ℕ) → IsLocalAt line c k → is_home line c s ≡ false
      → is_taken_for t (k.book s) ≡ false
  away_untaken k t s h away = ap (is_taken_for t) (h.foreign s away)

  -- a hand has only sections of the home
  pub hand_home : (k : Centre) (t : ℕ) (m : Mission) → IsLocalAt line c k → k.mission t ≡ Some m → (s : ℕ)
      → within m.hand s ≡ true → is_home line c s ≡ true
  hand_home k t m h at s has = true_from_ne_false (is_home line c s)
      (λ away. both_ways (is_taken_for t (k.book s)) (away_untaken k t s h away) (hand_taken k t m s h at ∙ has))

  -- ## The duties of a new mission and new rights

  pub record Follows (k : Centre) (t : ℕ) (mission : Option Mission) (has_right : ℕ → Bool) : Type 0 where
    pub right : has_right t ≡ (is_registrar_of line c t && is_none mission)
    pub rights : (u : ℕ) → (u ≡ t → ⊥) → has_right u ≡ k.has_right u
    pub at_registrar : is_registrar_of line c t ≡ false → mission ≡ None
    pub local : (m : Mission) → mission ≡ Some m → IsLocalMission line m

  -- a mission goes on
  pub goes_on : (k : Centre) (t : ℕ) (m n : Mission) → IsLocalAt line c k → k.mission t ≡ Some m → IsLocalMission line n
      → Follows k t (Some n) k.has_right
  goes_on k t m n h at local = record {
    right = h.right t ∙ ap (λ o. is_registrar_of line c t && is_none o) at;
    rights = λ u apart. refl;
    at_registrar = λ away. absurd (both_ways (is_registrar_of line c t) away (registrar_of_mission k t m h at));
    local = λ p is. subst (IsLocalMission line) (same_Some n p is) local;
  }

  -- a mission ends at the registrar, and the right is back
  pub ends_here : (k : Centre) (t : ℕ) → is_registrar_of line c t ≡ true → Follows k t None (put k.has_right t true)
  ends_here k t here = record {
    right = put_here k.has_right t t true refl ∙ sym here ∙ sym (and-true (is_registrar_of line c t));
    rights = λ u apart. put_other k.has_right t u true apart;
    at_registrar = λ away. refl;
    local = λ m is. cc;
  }

  -- a mission begins at the registrar, and the right is in it
  pub starts_here : (k : Centre) (t : ℕ) (n : Mission) → is_registrar_of line c t ≡ true → IsLocalMission line n
      → Follows k t (Some n) (put k.has_right t false)
  starts_here k t n here local = record {
    right = put_here k.has_right t t false refl ∙ sym (and_right (is_registrar_of line c t) false refl);
    rights = λ u apart. put_other k.has_right t u false apart;
    at_registrar = λ away. absurd (both_ways (is_registrar_of line c t) away here);
    local = λ p is. subst (IsLocalMission line) (same_Some n p is) local;
  }

  -- ## Changes

  -- a change of the mission that leaves its hand
  pub changed : (t : ℕ) (change : Mission → Mission) (k : Centre) → IsLocalAt line c k
      → ((m : Mission) → k.mission t ≡ Some m → (change m).hand ≡ m.hand)
      → ((m : Mission) → k.mission t ≡ Some m → IsLocalMission line (change m))
      → Stays line c (change_mission t change k)
  changed t change k h same local = record {
    state = remade line c k t k.book k.wish (option_map change (k.mission t)) k.has_right h (record {
      taken = λ s. h.taken s t ∙ sym (hand_changed change (k.mission t) s same);
      others = λ s u apart. refl;
      not_out = h.not_out;
      foreign = h.foreign;
      unwished = h.unwished;
      right = h.right t ∙ ap (λ b. is_registrar_of line c t && b) (sym (none_changed change (k.mission t)));
      rights = λ u apart. refl;
      at_registrar = λ away. ap (option_map change) (h.at_registrar t away);
      local = local_changed line change (k.mission t) local;
    });
    frames = λ d. refl;
  }

  -- free sections are taken for the train, whose hand has them now
  pub booked_local : (k : Centre) (t : ℕ) (r : SectionRun) (mission : Option Mission) (has_right : ℕ → Bool)
      → IsLocalAt line c k
      → ((s : ℕ) → within r s ≡ true → is_free line c k s ≡ true)
      → ((s : ℕ) → hand_has mission s ≡ (hand_has (k.mission t) s || within r s))
      → Follows k t mission has_right
      → IsLocalAt line c
      (record k {
        book = λ s. if within r s && is_open (k.book s) then Taken t else k.book s;
        mission = put k.mission t mission;
        has_right = has_right;
      })
  booked_local k t r mission has_right h free hand follows =
      let opened : (s : ℕ) → within r s ≡ true → is_open (k.book s) ≡ true =
      λ s in_run. (and_parts (is_home line c s) (is_open (k.book s)) (free s in_run)).1 in
      let there : (s : ℕ) → (within r s && is_open (k.book s)) ≡ within r s =
      λ s. and_same (within r s) (is_open (k.book s)) (opened s) in
      let is_there : (s : ℕ) → (within r s && is_open (k.book s)) ≡ true
      → is_open (k.book s) ≡ true = λ s is. (and_parts (within r s) (is_open (k.book s)) is).1 in
      remade line c k t (λ s. booked_for t (within r s && is_open (k.book s)) (k.book s)) k.wish
      mission has_right h (record {
        taken = λ s. taken_here t (within r s && is_open (k.book s)) (hand_has (k.mission t) s) (k.book s)
            (h.taken s t) (is_there s)
            ∙ ap (λ b. hand_has (k.mission t) s || b) (there s) ∙ sym (hand s);
        others = λ s u apart. taken_elsewhere t u (within r s && is_open (k.book s)) (k.book s) apart (is_there s);
        not_out = λ s u. out_booked t u (within r s && is_open (k.book s)) (k.book s) (h.not_out s u);
        foreign = λ s away. ap (λ b. booked_for t b (k.book s)) (not_booked k s (within r s) away (opened s) (free s))
            ∙ h.foreign s away;
        unwished = λ s unused. unused_booked t (within r s && is_open (k.book s)) (k.wish s)
            (k.book s) (h.unwished s) unused;
        right = follows.right;
        rights = follows.rights;
        at_registrar = follows.at_registrar;
        local = follows.local;
      })
    where
      not_booked : (k : Centre) (s : ℕ) (b : Bool) → is_home line c s ≡ false → (b ≡ true → is_open (k.book s) ≡ true)
          → (b ≡ true → is_free line c k s ≡ true) → (b && is_open (k.book s)) ≡ false
      not_booked k s true away opened free =
          absurd (both_ways (is_home line c s) away (and_parts (is_home line c s) (is_open (k.book s)) (free refl)).0)
      not_booked k s false away opened free = refl

  -- sections of the hand are given back, and the hand has them no more
  pub freed_local : (k : Centre) (t : ℕ) (r : SectionRun) (mission : Option Mission) (has_right : ℕ → Bool)
      → IsLocalAt line c k
      → ((s : ℕ) → hand_has mission s ≡ (hand_has (k.mission t) s && not (within r s)))
      → Follows k t mission has_right
      → IsLocalAt line c (record k {
        book = λ s. if (within r s && is_home line c s)
            && is_taken_for t (k.book s) then (if k.wish s then Shut else Open) else k.book s;
        wish = λ s. not ((within r s && is_home line c s) && is_taken_for t (k.book s)) && k.wish s;
        mission = put k.mission t mission;
        has_right = has_right;
      })
  freed_local k t r mission has_right h hand follows =
      let back : ℕ → Bool = λ s. (within r s && is_home line c s) && is_taken_for t (k.book s) in
      remade line c k t (λ s. given (back s) (k.wish s) (k.book s)) (λ s. not (back s) && k.wish s)
      mission has_right h (record {
        taken = λ s. taken_given t (back s) (k.wish s) (k.book s)
            ∙ hand_given (within r s) (is_home line c s) (is_taken_for t (k.book s)) (hand_has (k.mission t) s)
            (h.taken s t) (away_untaken k t s h) ∙ sym (hand s);
        others = λ s u apart. taken_given u (back s) (k.wish s) (k.book s)
            ∙ others_given (within r s && is_home line c s) (is_taken_for t (k.book s)) (is_taken_for u (k.book s))
            (taken_for_one t u (k.book s) apart);
        not_out = λ s u. out_given u (back s) (k.wish s) (k.book s) ∙ and_right (not (back s)) _ (h.not_out s u);
        foreign = λ s away. ap (λ b. given b (k.wish s) (k.book s))
            (away_stays (within r s) (is_home line c s) (is_taken_for t (k.book s)) away) ∙ h.foreign s away;
        unwished = λ s unused. unwished_given (back s) (k.wish s) (k.book s) (h.unwished s) unused;
        right = follows.right;
        rights = follows.rights;
        at_registrar = follows.at_registrar;
        local = follows.local;
      })
