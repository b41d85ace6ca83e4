-- A local centre: no other centre has a part in its missions. This file has the invariants of such a centre.
use Rattle.std.specs.Prelude.{◌≡◌, ℕ, ◌≤◌, Bool, true, false, ◌&&◌, [], Option, Some, None, is_none}
use Rattle.std.specs.Option.{option_map_or}
use Rattle.rbc_spec.specs.SectionRuns.{no_run, within}
use Rattle.rbc_spec.specs.Line.{Line, is_home, end}
use Rattle.rbc_spec.specs.Sections.{is_on, home_run}
use Rattle.rbc_spec.specs.Place.{Place, covers, covered}
use Rattle.rbc_spec.specs.Centre.{Centre, Mission, is_unused, is_taken_for, is_out_for, is_registrar_of}
use Rattle.rbc_spec.specs.Centre as centre
use Rattle.rbc_spec.specs.World.{World}

-- Facts that follow from the order of a line's sections. The sections that a place covers are a run, and so are those
-- of one home on a track. On one track the ends rise.
pub record IsOrdered (line : Line) : Type 0 where
  pub covers_run : (place : Place) (s : ℕ) → within (covered line place) s ≡ covers line place s
  pub homes_run : (d track s : ℕ) → within (home_run line d track) s ≡ (is_home line d s && is_on line track s)
  pub ends_rise : (track s e : ℕ) → s ≤ e → is_on line track s ≡ true → is_on line track e ≡ true
      → end line s ≤ end line e

-- the section is in the hand of the mission, if there is one
abbrev pub hand_has : Option Mission → ℕ → Bool
hand_has mission s = option_map_or (λ m. within m.hand s) mission false

-- a mission with a hand of 1 to 32 sections of its track, which no other centre has a part in
pub record IsLocalMission (line : Line) (m : Mission) : Type 0 where
  pub no_pool : m.pool ≡ no_run
  pub no_handing : m.handing ≡ None
  pub some : 1 ≤ m.hand.count
  pub few : m.hand.count ≤ 32
  pub on_track : (s : ℕ) → within m.hand s ≡ true → is_on line m.place.track s ≡ true

-- Centre c of the line is local. Its sections are taken if and only if the hands of its missions have them, and none is
-- out. Only sections in use are wished back. Each mission is of a train of which c is the registrar, and has the
-- train's right. Nothing is pending with another centre.
pub record IsLocalAt (line : Line) (c : ℕ) (k : Centre) : Type 0 where
  pub taken : (s t : ℕ) → is_taken_for t (k.book s) ≡ hand_has (k.mission t) s
  pub not_out : (s t : ℕ) → is_out_for t (k.book s) ≡ false
  pub foreign : (s : ℕ) → is_home line c s ≡ false → k.book s ≡ centre.Shut
  pub unwished : (s : ℕ) → is_unused (k.book s) ≡ true → k.wish s ≡ false
  pub right : (t : ℕ) → k.has_right t ≡ (is_registrar_of line c t && is_none (k.mission t))
  pub at_registrar : (t : ℕ) → is_registrar_of line c t ≡ false → k.mission t ≡ None
  pub mission : (t : ℕ) (m : Mission) → k.mission t ≡ Some m → IsLocalMission line m
  pub no_wait : (t : ℕ) → k.wait t ≡ None
  pub not_asked : (t : ℕ) → k.has_asked t ≡ false
  pub no_route_ask : (t : ℕ) → k.route_ask t ≡ None
  pub not_expected : (d t : ℕ) → k.expects d t ≡ None
  pub none_sent : (d : ℕ) → k.sent d ≡ []

-- each centre of the world is so
pub record IsLocal (line : Line) (w : World) : Type 0 where
  pub each : (c : ℕ) → IsLocalAt line c (w.at c)
