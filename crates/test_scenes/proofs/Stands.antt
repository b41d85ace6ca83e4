-- The state of the one line centre that represents the world after a start of mission.
use Rattle.std.proofs.Common.{◌<◌, ◌==◌, ◌∙◌, ◌≡◌, ◌≢◌, ◌≤◌, arith, eq-eqb, false, length, nat_le, nat_lt, ne_eqb, None}
use Rattle.std.proofs.Common.{option_map, pos, refl, Some, subst, suc, sym, true, true≢false, zero, ℕ, ⊎_elim}
use Rattle.std.proofs.lemmas.Bool.{and_parts, cases_Bool, cases_eq, eqb-true, leb-true, ltb-true}
use Rattle.std.proofs.lemmas.Option.{none-some, same_Some}
use Rattle.rbc_spec.specs.Acts.{◌>>◌}
use Rattle.rbc_spec.specs.Centre as centre
use Rattle.rbc_spec.specs.Centre.{beginning}
use Rattle.rbc_spec.specs.Line.{end, is_centre, is_home, start as line_start}
use Rattle.rbc_spec.specs.LineCentre.{is_given_to, IsHand, line_beginning, LineState}
use Rattle.rbc_spec.specs.Place.{extent}
use Rattle.rbc_spec.specs.ReadOff.{all_held, Held, held, holder, mark_of, read_off, seen, StandsFor}
use Rattle.rbc_spec.specs.SectionRuns.{longest, no_run, SectionRun, within}
use Rattle.rbc_spec.specs.Step.{step}
use Rattle.rbc_spec.specs.World.{new_world, World, world_step}
use Rattle.test_scenes.proofs.Bounds.{home_within}
use Rattle.test_scenes.proofs.Pieces.{answers_of, beginning_within, met, state_after, world_after}
use Rattle.test_scenes.specs.Moves.{play}
use Rattle.test_scenes.specs.Pieces.{centres_show, IsLineRunOf, line_shows}
use Rattle.test_scenes.specs.Scene.{group_1, line}
use Rattle.test_scenes.specs.SceneMoves.{start_moves}
use Rattle.test_scenes.specs.Starts.{start_at_the_registrar}
use Rattle.test_scenes.specs.Turns.{quiet_turns}

-- the world and the state
abbrev w : World
w = world_after line (new_world line) start_moves

abbrev v : LineState
v = state_after line line_beginning start_moves

-- a number is k or another
at_or : (P : ℕ → Type 0) (k n : ℕ) → P k → ((n == k) ≡ false → P n) → P n
at_or P k n here other =
    ⊎_elim (λ (is : n ≡ k). subst P (sym is) here) (λ (apart : n ≢ k). other (ne_eqb n k apart)) (cases_eq n k)

-- ## The records of all trains

phase_is : (t c : ℕ) → v.phase t c ≡ (w.at c).phase t
unfolding within longest line_start end extent beginning ◌>>◌ step new_world world_step line_beginning quiet_turns play
    world_after state_after
phase_is t c = at_or (λ d. v.phase t d ≡ (w.at d).phase t) 0 c
    (at_or (λ u. v.phase u 0 ≡ (w.at 0).phase u) 1 t refl (λ apart. rw apart refl))
    (λ far. at_or (λ u. v.phase u c ≡ (w.at c).phase u) 1 t (rw far refl) (λ apart. rw (far, apart) refl))

heard_is : (t c : ℕ) → v.heard t c ≡ (w.at c).heard t
unfolding within longest line_start end extent beginning ◌>>◌ step new_world world_step line_beginning quiet_turns play
    world_after state_after
heard_is t c = at_or (λ d. v.heard t d ≡ (w.at d).heard t) 0 c
    (at_or (λ u. v.heard u 0 ≡ (w.at 0).heard u) 1 t refl (λ apart. rw apart refl))
    (λ far. at_or (λ u. v.heard u c ≡ (w.at c).heard u) 1 t (rw far refl) (λ apart. rw (far, apart) refl))

said_is : (t c : ℕ) → v.said t c ≡ (w.at c).said t
unfolding within longest line_start end extent beginning ◌>>◌ step new_world world_step line_beginning quiet_turns play
    world_after state_after
said_is t c = at_or (λ d. v.said t d ≡ (w.at d).said t) 0 c
    (at_or (λ u. v.said u 0 ≡ (w.at 0).said u) 1 t refl (λ apart. rw apart refl))
    (λ far. at_or (λ u. v.said u c ≡ (w.at c).said u) 1 t (rw far refl) (λ apart. rw (far, apart) refl))

wait_is : (t c : ℕ) → v.wait t c ≡ (w.at c).wait t
unfolding within longest line_start end extent beginning ◌>>◌ step new_world world_step line_beginning quiet_turns play
    world_after state_after
wait_is t c = at_or (λ d. v.wait t d ≡ (w.at d).wait t) 0 c
    (at_or (λ u. v.wait u 0 ≡ (w.at 0).wait u) 1 t refl (λ apart. rw apart refl))
    (λ far. at_or (λ u. v.wait u c ≡ (w.at c).wait u) 1 t (rw far refl) (λ apart. rw (far, apart) refl))

-- ## Sections

-- each section of the line with its home
each_section : (P : ℕ → ℕ → Type 0) → P 0 0 → P 1 0 → P 2 0 → P 3 0 → P 4 1 → P 5 1 → P 6 1 → P 7 1 → (s c : ℕ)
    → is_home line c s ≡ true → P s c
each_section P a b d e f g h i zero c home = subst (P 0) (eqb-true 0 c home) a
each_section P a b d e f g h i (suc zero) c home = subst (P 1) (eqb-true 0 c home) b
each_section P a b d e f g h i (suc (suc zero)) c home = subst (P 2) (eqb-true 0 c home) d
each_section P a b d e f g h i (suc (suc (suc zero))) c home = subst (P 3) (eqb-true 0 c home) e
each_section P a b d e f g h i (suc (suc (suc (suc zero)))) c home = subst (P 4) (eqb-true 1 c home) f
each_section P a b d e f g h i (suc (suc (suc (suc (suc zero))))) c home = subst (P 5) (eqb-true 1 c home) g
each_section P a b d e f g h i (suc (suc (suc (suc (suc (suc zero)))))) c home = subst (P 6) (eqb-true 1 c home) h
each_section P a b d e f g h i (suc (suc (suc (suc (suc (suc (suc zero))))))) c home = subst (P 7) (eqb-true 1 c home) i
each_section P a b d e f g h i (suc (suc (suc (suc (suc (suc (suc (suc s)))))))) c home =
    let small : suc (suc (suc (suc (suc (suc (suc (suc s))))))) < 8 =
    home_within line c (suc (suc (suc (suc (suc (suc (suc (suc s)))))))) home in
    absurd (omega (arith, small))

wish_is : (s c : ℕ) → is_home line c s ≡ true → v.wish s ≡ (w.at c).wish s
unfolding within longest line_start end extent beginning ◌>>◌ step new_world world_step line_beginning quiet_turns play
    world_after state_after
wish_is = each_section (λ s c. v.wish s ≡ (w.at c).wish s) refl refl refl refl refl refl refl refl

-- ## The mission

-- train 1 has a mission in section 1
its_mission : centre.Mission
its_mission = record {
  place = record { track = 0; group = group_1; front = 16200; rear = Some (pos 13900) };
  hand = record { first = 1; count = 1 };
  pool = no_run;
  has_data = false;
  is_ended = false;
  proposal = None;
  handing = None;
}

mission_is : (t : ℕ) → v.mission t ≡ option_map (λ (h : Held). h.mission) (held line w t)
unfolding its_mission within longest line_start end extent beginning ◌>>◌ step new_world world_step line_beginning
    quiet_turns play world_after state_after
mission_is t =
    at_or (λ u. v.mission u ≡ option_map (λ (h : Held). h.mission) (held line w u)) 1 t refl (λ apart. rw apart refl)

none_else : (t c : ℕ) → is_centre line c ≡ false → (w.at c).mission t ≡ None
unfolding its_mission within longest line_start end extent beginning ◌>>◌ step new_world world_step line_beginning
    quiet_turns play world_after state_after
none_else t c =
    at_or (λ d. is_centre line d ≡ false → (w.at d).mission t ≡ None) 0 c (λ no. absurd (true≢false no))
    (λ far. rw far (λ no. refl))

-- ## Marks

mark_is : (s c : ℕ) → is_home line c s ≡ true → v.mark s ≡ mark_of (holder line w s) ((w.at c).book s)
unfolding its_mission within longest line_start end extent beginning ◌>>◌ step new_world world_step line_beginning
    quiet_turns play world_after state_after
mark_is =
    each_section (λ s c. v.mark s ≡ mark_of (holder line w s) ((w.at c).book s)) refl refl refl refl refl refl refl refl

-- section 1 is in use for train 1, and no other section is in a hand
in_use : (s c t : ℕ) → is_home line c s ≡ true → holder line w s ≡ Some t
    → centre.is_used_for t ((w.at c).book s) ≡ true
unfolding its_mission within longest line_start end extent beginning ◌>>◌ step new_world world_step line_beginning
    quiet_turns play world_after state_after
in_use s c t home = each_section (λ s c. holder line w s ≡ Some t → centre.is_used_for t ((w.at c).book s) ≡ true)
    (λ so. absurd (none-some t so)) (λ so. eq-eqb 1 t (same_Some 1 t so)) (λ so. absurd (none-some t so))
    (λ so. absurd (none-some t so))
    (λ so. absurd (none-some t so)) (λ so. absurd (none-some t so)) (λ so. absurd (none-some t so))
    (λ so. absurd (none-some t so)) s c home

-- ## One supervisor, and the given hand

seats : (t : ℕ) → length (all_held line w t) ≤ 1
unfolding its_mission within longest line_start end extent beginning ◌>>◌ step new_world world_step line_beginning
    quiet_turns play world_after state_after
seats t = at_or (λ u. length (all_held line w u) ≤ 1) 1 t (omega arith) (λ apart. rw apart (omega arith))

-- section 1 is in the hand, and no other
one : SectionRun
one = record { first = 1; count = 1 }

not_in_one : (s : ℕ) → (s == 1) ≡ false → within one s ≡ false
unfolding one within
not_in_one s apart = ⊎_elim
    (λ (is : within one s ≡ true). let ends = and_parts (nat_le 1 s) (nat_lt s 2) is in
    absurd (true≢false (sym (eq-eqb s 1 (omega (arith, leb-true 1 s ends.0, ltb-true s 2 ends.1))) ∙ apart)))
    (λ (is : within one s ≡ false). is)
    (cases_Bool (within one s))

given_one : (s : ℕ) → is_given_to 1 (v.mark s) ≡ within one s
unfolding one its_mission within longest line_start end extent beginning ◌>>◌ step new_world world_step line_beginning
    quiet_turns play world_after state_after
given_one s =
    at_or (λ e. is_given_to 1 (v.mark e) ≡ within one e) 1 s refl (λ apart. rw (not_in_one s apart, apart) refl)

hands_are : (t : ℕ) (h : Held) → held line w t ≡ Some h → IsHand v t h.hand
unfolding one its_mission within longest line_start end extent beginning ◌>>◌ step new_world world_step line_beginning
    quiet_turns play world_after state_after
hands_are t h = at_or (λ u. held line w u ≡ Some h → IsHand v u h.hand) 1 t
    (λ so. subst (λ (x : Held). IsHand v 1 x.hand)
    (same_Some (record { mission = seen 0 its_mission; hand = one }) h so) (record { each = given_one }))
    (λ apart. rw apart (λ so. absurd (none-some h so)))

-- ## The whole state

pub start_stands : StandsFor line w v
start_stands = record {
  phase = phase_is;
  heard = heard_is;
  said = said_is;
  wait = wait_is;
  wish = wish_is;
  mark = mark_is;
  in_use = in_use;
  mission = mission_is;
  none_else = none_else;
  one_seat = seats;
  hands = hands_are;
}

pub start_is_line_run : IsLineRunOf line start_at_the_registrar
unfolding within longest line_start end extent beginning ◌>>◌ step new_world world_step line_beginning read_off
    quiet_turns play centres_show line_shows world_after state_after
start_is_line_run =
    let by_moves = met line start_moves (new_world line) line_beginning (beginning_within line) refl in
    record {
      answers = answers_of line (new_world line) start_moves;
      after = w;
      ran = by_moves.ran;
      is_line_run = record { last = v; is_run = by_moves.is_run; stands = start_stands };
    }
