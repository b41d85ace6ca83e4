-- A world that some state represents is safe, and at most one state represents a world.
use Rattle.std.proofs.Common.{◌∙◌, ◌≡◌, ap, eq-eqb, eqb-true, false, None, Option, refl, Some, subst, sym, true, ℕ}
use Rattle.std.specs.Prelude.{Contains}
use Rattle.rbc_spec.proofs.Held.{away_if_handed, held_as, held_on_way, is_seen, is_there, only_one}
use Rattle.rbc_spec.specs.Centre as centre
use Rattle.rbc_spec.specs.Centre.{Entry, is_used_for}
use Rattle.rbc_spec.specs.Frame.{Frame}
use Rattle.rbc_spec.specs.Line.{is_home, Line}
use Rattle.rbc_spec.specs.LineCentre.{At, Given, is_at, is_given_to, Kept, LineMission, LineState, Mark, Open, Shut}
use Rattle.rbc_spec.specs.Maps.{has}
use Rattle.rbc_spec.specs.Promises.{is_given, IsSafe}
use Rattle.rbc_spec.specs.ReadOff.{all_held, frames_on_way, handed_over, Held, held, holder, mark_of, seen, StandsFor}
use Rattle.rbc_spec.specs.SectionRuns.{within}
use Rattle.rbc_spec.specs.World.{World}

module _ (line : Line) (w : World) (v : LineState) (stands : StandsFor line w v) where
  -- two missions of one train are one
  one_mission : (t : ℕ) (m n : LineMission) → v.mission t ≡ Some m → v.mission t ≡ Some n → m ≡ n
  one_mission t m n a b = let same : Some m ≡ Some n = sym a ∙ b in cc

  -- a section in a hand is given to the train of the hand
  pub given_mark : (t s : ℕ) → is_given line w t s ≡ true → is_given_to t (v.mark s) ≡ true
  given_mark t s given = by_held (held line w t) refl given
    where
      by_held : (o : Option Held) → held line w t ≡ o → has (λ (h : Held). within h.hand s) o ≡ true
          → is_given_to t (v.mark s) ≡ true
      by_held None none inside = cc
      by_held (Some h) some inside = (stands.hands t h some).each s ∙ inside

  one_train : (t u : ℕ) (m : Mark) → is_given_to t m ≡ true → is_given_to u m ≡ true → t ≡ u
  one_train t u (Given x) one two = sym (eqb-true x t one) ∙ eqb-true x u two
  one_train t u Shut one two = cc
  one_train t u Open one two = cc
  one_train t u (Kept x) one two = cc

  not_given : (t : ℕ) (entry : Entry) → is_given_to t (mark_of None entry) ≡ true → ⊥
  not_given t centre.Shut is = cc
  not_given t centre.Open is = cc
  not_given t (centre.Taken u) is = cc
  not_given t (centre.Out u) is = cc

  in_use : (t s c : ℕ) → is_home line c s ≡ true → is_given line w t s ≡ true → is_used_for t ((w.at c).book s) ≡ true
  in_use t s c home given = by_holder (holder line w s) refl
    where
      marked : is_given_to t (mark_of (holder line w s) ((w.at c).book s)) ≡ true
      marked = sym (ap (is_given_to t) (stands.mark s c home)) ∙ given_mark t s given

      by_holder : (o : Option ℕ) → holder line w s ≡ o → is_used_for t ((w.at c).book s) ≡ true
      by_holder None none =
          absurd (not_given t ((w.at c).book s)
          (sym (ap (λ (x : Option ℕ). is_given_to t (mark_of x ((w.at c).book s))) none) ∙ marked))
      by_holder (Some u) some = subst (λ (x : ℕ). is_used_for x ((w.at c).book s) ≡ true)
          (eqb-true u t (sym (ap (λ (x : Option ℕ). is_given_to t (mark_of x ((w.at c).book s))) some) ∙ marked))
          (stands.in_use s c u home some)

  none_handed : (t c : ℕ) (m : centre.Mission) (f : Frame) → (w.at c).mission t ≡ Some m
      → Contains (frames_on_way line w) f → handed_over t f.body ≡ None
  none_handed t c m f at on = by_frame (handed_over t f.body) refl
    where
      by_frame : (o : Option Held) → handed_over t f.body ≡ o → handed_over t f.body ≡ None
      by_frame None is = is
      by_frame (Some h) is = absurd (
          let same : held_as (seen c m) m.hand ≡ h =
          only_one (all_held line w t) (held_as (seen c m) m.hand) h (stands.one_seat t)
          (is_there line w v stands t c m at) (held_on_way line w t f h on is) in
          let wrong : is_at c (At c) ≡ false = ap (λ (x : Held). is_at c x.mission.supervisor) same
          ∙ away_if_handed t c f.body h is in
          let no : true ≡ false = sym (eq-eqb c c refl) ∙ wrong in cc)

  pub safe : IsSafe line w
  safe = record {
    one_supervisor = λ t c d m n at there.
        let same : At c ≡ At d =
        ap (λ (x : LineMission). x.supervisor)
        (one_mission t (seen c m) (seen d n) (is_seen line w v stands t c m at)
        (is_seen line w v stands t d n there)) in cc;
    none_meanwhile = none_handed;
    one_train = λ t u s one two. one_train t u (v.mark s) (given_mark t s one) (given_mark u s two);
    in_use = in_use;
  }

module _ (line : Line) (w : World) (u v : LineState) where
  pub same_sessions : (t c : ℕ) → StandsFor line w u → StandsFor line w v
      → (u.phase t c ≡ v.phase t c) × (u.heard t c ≡ v.heard t c) × (u.said t c ≡ v.said t c)
      × (u.wait t c ≡ v.wait t c)
  same_sessions t c one two = (
    one.phase t c ∙ sym (two.phase t c),
    one.heard t c ∙ sym (two.heard t c),
    one.said t c ∙ sym (two.said t c),
    one.wait t c ∙ sym (two.wait t c),
  )

  pub same_mission : (t : ℕ) → StandsFor line w u → StandsFor line w v → u.mission t ≡ v.mission t
  same_mission t one two = one.mission t ∙ sym (two.mission t)

  pub same_section : (s c : ℕ) → is_home line c s ≡ true → StandsFor line w u → StandsFor line w v
      → (u.mark s ≡ v.mark s) × (u.wish s ≡ v.wish s)
  same_section s c home one two =
      (one.mark s c home ∙ sym (two.mark s c home), one.wish s c home ∙ sym (two.wish s c home))
