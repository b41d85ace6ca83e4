-- The acts that leave each start of mission that waits as it is.
use Rattle.std.proofs.Common.{◌&&◌, ◌*◌, ◌+◌, ◌-◌, ◌==◌, ◌∙◌, ◌≡◌, Bool, false, if◌then◌else◌}
use Rattle.std.proofs.Common.{is_none, nat_le, nat_lt, None, not, Option, refl, Some, true, ℕ}
use Rattle.std.specs.Option.{option_map_or}
use Rattle.rbc_spec.specs.Acts.{◌>>◌, Act, ask_route, announce, cancel, close, end_order}
use Rattle.rbc_spec.specs.Acts.{leave, may_propose, part_at, propose, propose_if_so, Reply, rest}
use Rattle.rbc_spec.specs.Acts.{return_right, say, send, where_so, with_some}
use Rattle.rbc_spec.specs.Centre.{Centre, is_registrar_of, is_up, Mission}
use Rattle.rbc_spec.specs.Frame.{ReturnRight}
use Rattle.rbc_spec.specs.Line.{end, is_home, Line, next_centre, registrar}
use Rattle.rbc_spec.specs.Message.{EndSession, unknown_group}
use Rattle.rbc_spec.specs.Place.{Place, place_on, Position}
use Rattle.rbc_spec.specs.Rules.{announce_if_due, answer_granted, ask_route_if_due, at_border, choose, clear, cut}
use Rattle.rbc_spec.specs.Rules.{cut_ahead}
use Rattle.rbc_spec.specs.Rules.{end_mission, grant, reached, report, report_here, request, stand_still, take_over}
use Rattle.rbc_spec.specs.SectionRuns.{is_empty, most_in_hand, next_after, no_run, part_before, SectionRun}
use Rattle.rbc_spec.specs.Sections.{is_on, nid_rbc}

-- the reply leaves the starts that wait as they are in state k
pub record Leaves (k : Centre) (q : Reply) : Type 0 where
  pub law : q.state.wait ≡ k.wait

-- in every state the act leaves them
abbrev pub Still : Act → Type 0
Still act = (k : Centre) → Leaves k (act k)

pub plain : {k : Centre} {q : Reply} → q.state.wait ≡ k.wait → Leaves k q
plain is = record { law = is }

pub then_still : (a b : Act) (k : Centre) → Leaves k (a k) → Still b → Leaves k ((a >> b) k)
unfolding ◌>>◌
then_still a b k one two = record { law = (two (a k).state).law ∙ one.law }

pub both : (a b : Act) → Still a → Still b → Still (a >> b)
both a b one two k = then_still a b k (one k) two

pub if_act : (b : Bool) (f g : Act) → Still f → Still g → Still (if b then f else g)
if_act true f g one two = one
if_act false f g one two = two

pub or_act : {X : Type 0} (o : Option X) (f : X → Act) (g : Act) → ((x : X) → Still (f x)) → Still g
    → Still (option_map_or f o g)
or_act None f g some none = none
or_act (Some x) f g some none = some x

pub if_reply : (k : Centre) (b : Bool) (p q : Reply) → Leaves k p → Leaves k q → Leaves k (if b then p else q)
if_reply k true p q one two = one
if_reply k false p q one two = two

pub or_reply : {X : Type 0} (k : Centre) (o : Option X) (f : X → Reply) (q : Reply) → ((x : X) → Leaves k (f x))
    → Leaves k q → Leaves k (option_map_or f o q)
or_reply k None f q some none = none
or_reply k (Some x) f q some none = some x

pub when : (test : Centre → Bool) (act : Act) → Still act → Still (where_so test act)
when test act is k = if_reply k (test k) (act k) (rest k) (is k) (plain refl)

pub chosen : (test : Centre → Bool) (f g : Act) → Still f → Still g → Still (choose test f g)
chosen test f g one two k = if_reply k (test k) (f k) (g k) (one k) (two k)

pub some_act : {X : Type 0} (value : Centre → Option X) (act : X → Act) → ((x : X) → Still (act x))
    → Still (with_some value act)
some_act value act is k = or_reply k (value k) (λ x. act x k) (rest k) (λ x. is x k) (plain refl)

pub still_rest : Still rest
still_rest k = plain refl

module _ (line : Line) (c : ℕ) where
  -- ## Parts of rules

  still_ask_shorter : (t s : ℕ) (m : Mission) → Still (propose line t s m)
  unfolding ◌>>◌
  still_ask_shorter t s m k = plain refl

  still_announce : (t group d : ℕ) (m : Mission) → Still (announce line t group d m)
  unfolding ◌>>◌
  still_announce t group d m k = plain refl

  still_ask : (t d : ℕ) (m : Mission) → Still (ask_route t d m)
  unfolding ◌>>◌
  still_ask t d m k = plain refl

  pub still_propose : (t s : ℕ) → Still (propose_if_so line t s)
  still_propose t s = some_act (λ k. k.mission t) (λ m. where_so (may_propose line t s m) (propose line t s m))
      (λ m. when (may_propose line t s m) (propose line t s m) (still_ask_shorter t s m))

  pub still_right : (t : ℕ) → Still (return_right line c t)
  still_right t = if_act (is_registrar_of line c t) _ _ (λ k. plain refl)
      (or_act (registrar line t) (λ r. send r (ReturnRight t)) rest (λ r k. plain refl) still_rest)

  pub still_end : (t : ℕ) → Still (end_order line c t)
  still_end t = when (λ k. is_up (k.phase t)) (say t unknown_group (EndSession line.nid_c (nid_rbc line c)))
      (λ k. plain refl)

  pub still_leave : (t track : ℕ) (r : SectionRun) → Still (leave line c t track r)
  still_leave t track r = both _ _ (λ k. plain refl) (λ k. plain refl)

  still_cancel : (t : ℕ) (m : Mission) → Still (cancel t m)
  still_cancel t m = or_act m.handing _ rest (λ h. both _ _ (λ k. plain refl) (λ k. plain refl)) still_rest

  still_close : (t : ℕ) (m : Mission) → Still (close line c t m)
  still_close t m = both _ _ (both _ _ (λ k. plain refl) (still_cancel t m)) (still_right t)

  still_cut : (t last : ℕ) (m : Mission) → Still (cut line c t last m)
  still_cut t last m =
      let kept : Mission =
      record m { hand = part_before (last + 1) m.hand; pool = no_run; proposal = None } in
      both _ _ (still_leave t m.place.track _)
      (if_act _ _ _ (still_close t m) (both _ _ (λ k. plain refl)
      (or_act m.handing (λ h. if is_empty (part_at line h.to m.place.track kept.hand) then cancel t kept else rest) rest
      (λ h. if_act (is_empty (part_at line h.to m.place.track kept.hand)) (cancel t kept) rest (still_cancel t kept)
      still_rest) still_rest)))

  still_clear : (t : ℕ) (m : Mission) (place : Place) → Still (clear line c t m place)
  still_clear t m place = if_act _ _ _ (both _ _ (still_leave t m.place.track _) (still_close t m))
      (both _ _ (still_leave t m.place.track _) (λ k. plain refl))

  still_here : (t : ℕ) (position : Position) (m : Mission) → Still (report_here line c t position m)
  still_here t position m =
      or_act (place_on line m.place.track position) (clear line c t m) rest (still_clear t m) still_rest

  abbrev is_due : ℕ → ℕ → Mission → Centre → Bool
  is_due t d m k = ((is_home line d (next_after m.hand) && is_on line m.place.track (next_after m.hand))
      && nat_lt m.hand.count most_in_hand) && (is_empty m.pool && is_none (k.route_ask t))

  still_border : (t d : ℕ) → Still (at_border line c t d)
  still_border t d = both (announce_if_due line t d) (ask_route_if_due line t d)
      (some_act (λ k. k.mission t) (λ m. where_so
      (λ k. is_none m.handing && not (is_empty (part_at line d m.place.track m.hand)))
      (announce line t m.place.group d m))
      (λ m. when (λ k. is_none m.handing && not (is_empty (part_at line d m.place.track m.hand)))
      (announce line t m.place.group d m) (still_announce t m.place.group d m)))
      (some_act (λ k. k.mission t) (λ m. where_so (is_due t d m) (ask_route t d m))
      (λ m. when (is_due t d m) (ask_route t d m) (still_ask t d m)))

  -- ## Messages

  still_grant : (t : ℕ) (m : Mission) → Still (grant line c t m)
  still_grant t m k = then_still _ _ k (then_still _ _ k (then_still _ _ k (plain refl) (λ j. plain refl))
      (λ j. plain refl))
      (or_act (next_centre line c m.place.track) (at_border line c t) rest (still_border t) still_rest)

  pub still_request : (t : ℕ) (position : Position) → Still (request line c t position)
  still_request t position = some_act (λ k. k.mission t) _ (λ m. or_act (place_on line m.place.track position)
      (λ place. grant line c t (record m { place = place })) rest
      (λ place. still_grant t (record m { place = place })) still_rest)

  pub still_report : (t : ℕ) (position : Position) → Still (report line c t position)
  still_report t position k = or_reply k (k.mission t) (λ m. report_here line c t position m k) (take_over line t k)
      (λ m. still_here t position m k) (plain refl)

  pub still_granted : (t : ℕ) (position : Position) → Still (answer_granted line c t position)
  still_granted t position = some_act (λ k. k.mission t) _ (λ m. some_act (λ k. m.proposal) _
      (λ p. both _ _ (λ k. plain refl) (or_act (place_on line m.place.track position)
      (λ place. if nat_le place.front (10 * end line p.last_kept) then cut line c t p.last_kept m else rest) rest
      (λ place. if_act (nat_le place.front (10 * end line p.last_kept)) (cut line c t p.last_kept m) rest
      (still_cut t p.last_kept m) still_rest) still_rest)))

  still_ahead : (t : ℕ) (m : Mission) (place : Place) → Still (cut_ahead line c t m place)
  still_ahead t m place = if_act _ rest (cut line c t (m.hand.first + reached line place m - 1) m) still_rest
      (still_cut t (m.hand.first + reached line place m - 1) m)

  still_stand : (t : ℕ) (position : Position) (m : Mission) → Still (stand_still line c t position m)
  still_stand t position m = if_act (position.v_train == 0)
      (option_map_or (cut_ahead line c t m) (place_on line m.place.track position) rest) rest
      (or_act (place_on line m.place.track position) (cut_ahead line c t m) rest (still_ahead t m) still_rest)
      still_rest

  pub still_end_mission : (t : ℕ) (position : Position) → Still (end_mission line c t position)
  still_end_mission t position = both _ _
      (both _ _ (some_act (λ k. k.mission t) (report_here line c t position) (still_here t position))
      (some_act (λ k. k.mission t) (stand_still line c t position) (still_stand t position)))
      (some_act (λ k. k.mission t) _ (λ m. both _ _ (both _ _ (λ k. plain refl) (λ k. plain refl)) (λ k. plain refl)))
