-- Quiet steps, reports, and marks of the one line centre.
use Rattle.std.proofs.Common.{[], ⊎_elim, ◌&&◌, ◌++◌, ◌==◌, ◌∙◌, ◌∷◌, ◌≡◌, ◌≢◌, ◌≤◌, ap, append_assoc, arith, Bool}
use Rattle.std.proofs.Common.{false, if◌then◌else◌, is_none, List, None, Option, refl, Some, subst, sym, true, ℕ}
use Rattle.std.proofs.lemmas.Bool.{and_from, and_parts, cases_eq, cond-true, eqb-true, ltb-true, not-false}
use Rattle.std.proofs.lemmas.List.Folds.{list_all-append}
use Rattle.std.specs.Bool.{MatchBool}
use Rattle.std.specs.List.{list_all}
use Rattle.std.specs.Option.{option_map_or}
use Rattle.law_base.proofs.CountingLemmas.Sums.{one_if_some, put_other, put_same, sum_le}
use Rattle.law_base.specs.Counting.Network.{acted, Net, way}
use Rattle.law_base.specs.Counting.Resource.{carried, placed}
use Rattle.law_base.specs.Counting.Sums.{put, sum_below, sum_links}
use Rattle.law_invariants.proofs.FlowLemmas.Lists.{some_cap}
use Rattle.law_invariants.specs.Flow.Counts.{hand_inside, hands, token_inside, tokens}
use Rattle.law_invariants.specs.Flow.Flow.{centre_count, Flow}
use Rattle.law_invariants.specs.Flow.Leads.{HeardAs, Leads, LeadsHeard, LeadsOwn, replied, Reports, said_by}
use Rattle.law_invariants.specs.Flow.Shows.{is_in_hand, shown, Shows}
use Rattle.law_invariants.specs.Flow.Sound.{IsFlowSound}
use Rattle.rbc_spec.proofs.Lists.{none_passes}
use Rattle.rbc_spec.specs.Acts.{◌>>◌, Act, rest}
use Rattle.rbc_spec.specs.Centre.{Centre, Entry, is_used_for, Open, Out, Shut, Taken}
use Rattle.rbc_spec.specs.Frame.{Body, Yield}
use Rattle.rbc_spec.specs.Line.{is_home, Line}
use Rattle.rbc_spec.specs.LineCentre as line_centre
use Rattle.rbc_spec.specs.LineCentre.{hears, is_at, is_given_to, LineMission, LineState, Mark, Said}
use Rattle.rbc_spec.specs.Message.{Report, TrainBody, TrainMessage}
use Rattle.rbc_spec.specs.Outcome.{NoPlace, NotSupervised, reasons_of}
use Rattle.rbc_spec.specs.OwnSteps.{Own, SaysNothing, track_of}
use Rattle.rbc_spec.specs.Place.{Place, place_on, Position}
use Rattle.rbc_spec.specs.Quiet.{both, is_of_centre, Quiet, TakesAll}
use Rattle.rbc_spec.specs.ReadOff.{held}
use Rattle.rbc_spec.specs.Run as run

-- # Acts in order, and the quiet steps that follow from them.

pub both_both : (a b c : Said) → both (both a b) c ≡ both a (both b c)
both_both a b c =
    λ i. record {
      sayings = append_assoc a.sayings b.sayings c.sayings i;
      words = append_assoc a.words b.words c.words i;
    }

pub takes_append : (line : Line) (v mid new : LineState) (qs rs : List Quiet) (a b : Said) → TakesAll line v qs a mid
    → TakesAll line mid rs b new
    → TakesAll line v (qs ++ rs) (both a b) new
takes_append line v mid new [] rs a b one two =
    subst (λ (x : Said). TakesAll line v rs x new) (sym (ap (λ (x : Said). both x b) one.0))
    (subst (λ (u : LineState). TakesAll line u rs b new) one.1 two)
takes_append line v mid new (q ∷ qs) rs a b one two = (
  one.0,
  both one.1 b,
  one.2,
  one.3,
  takes_append line one.2 mid new qs rs one.1 b one.4 two,
  ap (λ (x : Said). both x b) one.5 ∙ both_both one.0 one.1 b,
)

-- two acts of one centre are one
pub acted_twice : {X F : Type 0} (w : Net X F) (c : ℕ) (x y : X) (fs gs : ℕ → List F)
    → acted (acted w c x fs) c y gs ≡ acted w c y (λ d. fs d ++ gs d)
acted_twice {F = F} w c x y fs gs = λ i. record { at = λ j. ats j i; sent = λ a b. sents a b i; taken = w.taken }
  where
    ats : (j : ℕ) → put (put w.at c x) c y j ≡ put w.at c y j
    ats j = by_here (j == c)
      where
        by_here : (b : Bool) → (if b then y else (if b then x else w.at j)) ≡ (if b then y else w.at j)
        by_here true = refl
        by_here false = refl

    sents : (a b : ℕ) → (acted (acted w c x fs) c y gs).sent a b ≡ (acted w c y (λ d. fs d ++ gs d)).sent a b
    sents a b = ⊎_elim
        (λ (here : a ≡ c). subst (λ e. (acted (acted w c x fs) c y gs).sent e b
        ≡ (acted w c y (λ d. fs d ++ gs d)).sent e b) (sym here) at_c)
        (λ (apart : a ≢ c). ap (λ row. row b)
        (put_other (put w.sent c one) c (λ d. (put w.sent c one) c d ++ gs d) a apart
        ∙ put_other w.sent c one a apart ∙ sym (put_other w.sent c both_of a apart)))
        (cases_eq a c)
      where
        one : ℕ → List F
        one d = w.sent c d ++ fs d

        both_of : ℕ → List F
        both_of d = w.sent c d ++ (fs d ++ gs d)

        at_c : (acted (acted w c x fs) c y gs).sent c b ≡ (acted w c y (λ d. fs d ++ gs d)).sent c b
        at_c = ap (λ row. row b) (put_same (put w.sent c one) c (λ d. (put w.sent c one) c d ++ gs d))
            ∙ ap (λ (row : ℕ → List F). row b ++ gs b) (put_same w.sent c one)
            ∙ append_assoc (w.sent c b) (fs b) (gs b) ∙ sym (ap (λ row. row b) (put_same w.sent c both_of))

module _ (line : Line) (w : Flow) (c : ℕ) (k : Centre) (v : LineState) where
  pub leads_rest : IsFlowSound line (replied w c (rest k)) → Shows line (replied w c (rest k)) v
      → Leads line w c (rest k) v
  leads_rest sound shows =
      record { quiets = []; new = v; takes = (refl, refl); own_centre = refl; shows = shows; sound = sound }

  pub leads_then : (a b : Act) (one : Leads line w c (a k) v) → Leads line (replied w c (a k)) c (b (a k).state) one.new
      → Leads line w c ((a >> b) k) v
  unfolding ◌>>◌
  leads_then a b one two = record {
    quiets = one.quiets ++ two.quiets;
    new = two.new;
    takes = takes_append line v one.new two.new one.quiets two.quiets (said_by (a k))
        (said_by (b (a k).state)) one.takes two.takes;
    own_centre = list_all-append (is_of_centre line c) one.quiets two.quiets
        ∙ and_from (list_all (is_of_centre line c) one.quiets) (list_all (is_of_centre line c) two.quiets)
        one.own_centre two.own_centre;
    shows = subst (λ u. Shows line u two.new)
        (acted_twice w c (a k).state (b (a k).state).state (a k).frames (b (a k).state).frames) two.shows;
    sound = subst (IsFlowSound line) (acted_twice w c (a k).state (b (a k).state).state (a k).frames
        (b (a k).state).frames) two.sound;
  }

-- ## A message with an answer

module _ (line : Line) (w : Flow) (c : ℕ) (m : TrainMessage) (k : Centre) (v : LineState) where
  -- the own step, and the acts after it
  pub heard_then : (a b : Act) (one : LeadsOwn line w c m (a k) v)
      → Leads line (replied w c (a k)) c (b (a k).state) one.mid → LeadsHeard line w c m ((a >> b) k) v
  unfolding ◌>>◌
  heard_then a b one two = record {
    said = said_by (a k);
    mid = one.mid;
    own = one.own;
    quiets = two.quiets;
    later = said_by (b (a k).state);
    new = two.new;
    takes = two.takes;
    own_centre = two.own_centre;
    says = refl;
    shows = subst (λ u. Shows line u two.new)
        (acted_twice w c (a k).state (b (a k).state).state (a k).frames (b (a k).state).frames) two.shows;
  }

-- # A report that the one line centre answers is of a train that it supervises there, and has a place.

module _ (line : Line) (v : LineState) (c t_train t : ℕ) (said : Said) (mid : LineState) where
  abbrev message : TrainBody → TrainMessage
  message body = record { t_train = t_train; nid_engine = t; body = body }

  module _ (position : Position) where
    abbrev after : LineState
    after = hears c (message (Report position)) v

    of_mission : (o : Option LineMission) → v.mission t ≡ o
        → option_map_or (λ m. is_at c m.supervisor && true) o false ≡ true
        → option_map_or (λ m. is_at c m.supervisor && is_none (place_on line m.place.track position)) o false ≡ false
        → HeardAs line after c (message (Report position)) (Report position) said mid
        → Own line after c (message (Report position)) (Report position) said mid
    of_mission None is here placed heard = cc
    of_mission (Some n) is here placed heard = by_place (place_on line n.place.track position) refl
      where
        at : is_at c n.supervisor ≡ true
        at = (and_parts (is_at c n.supervisor) true here).0

        reports : Reports line t c (place_on line (track_of after t) position) after said mid
        reports =
            subst (λ (b : Bool).
            MatchBool b (Reports line t c (place_on line (track_of after t) position) after said mid)
            (SaysNothing after said mid))
            (ap (λ (o : Option LineMission). option_map_or (λ m. is_at c m.supervisor) o false) is ∙ at) heard

        by_place : (o : Option Place) → place_on line n.place.track position ≡ o
            → Own line after c (message (Report position)) (Report position) said mid
        by_place None none = absurd (let wrong : true ≡ false = sym (ap (λ b. b && true) at)
            ∙ ap (λ (o : Option Place). is_at c n.supervisor && is_none o) (sym none) ∙ placed in cc)
        by_place (Some place) on =
            let there : place_on line (track_of after t) position ≡ Some place =
            ap (λ (o : Option LineMission). place_on line (option_map_or (λ m. m.place.track) o 0) position) is
            ∙ on in
            (place, there, subst (λ (o : Option Place). Reports line t c o after said mid) there reports)

  -- a message without a reason of silence is an own step
  pub own_of : (body : TrainBody) → run.silence line v c (message body) ≡ None
      → HeardAs line (hears c (message body) v) c (message body) body said mid
      → Own line (hears c (message body) v) c (message body) body said mid
  own_of (Report position) none heard = of_mission position (v.mission t) refl
      (not-false (run.has_here v c t (λ n. true))
      (none_passes (run.holds line v c (message (Report position)) (Report position)) (reasons_of (Report position))
      4 NotSupervised none refl))
      (none_passes (run.holds line v c (message (Report position)) (Report position)) (reasons_of (Report position))
      5 NoPlace none refl) heard
  own_of body none heard = heard

-- # A state of the one line centre that shows the flow of a world represents the world.

-- a hand's section has its token there
hands_le : (line : Line) (t s i j : ℕ) (fs : List Body) → carried (hands t s) i j fs ≤ carried (tokens line t s) i j fs
unfolding carried
hands_le line t s i j [] = omega arith
hands_le line t s i j (f ∷ fs) = omega (arith, hands_le line t s i j fs, by_body f)
  where
    by_body : (g : Body) → hand_inside t s g ≤ token_inside t s g
    by_body (Yield h u heard has_data is_ended place hand) = omega arith
    by_body g = omega arith

pub in_hand_tokens : (line : Line) (w : Flow) (t s : ℕ)
    → placed (hands t s) (centre_count line) w ≤ placed (tokens line t s) (centre_count line) w
unfolding placed sum_links
in_hand_tokens line w t s = omega (
  arith,
  sum_le (centre_count line) (λ c. (hands t s).held c (w.at c)) (λ c. (tokens line t s).held c (w.at c))
      (λ c at. omega arith),
  sum_le (centre_count line) (λ a. sum_below (centre_count line) (λ b. carried (hands t s) a b (way w a b)))
      (λ a. sum_below (centre_count line) (λ b. carried (tokens line t s) a b (way w a b)))
      (λ a from. sum_le (centre_count line) _ _ (λ b to. hands_le line t s a b (way w a b))),
)

pub only_given_shown : (e : Entry) (g : ℕ → Bool) (t : ℕ) → shown e g ≡ line_centre.Given t → g t ≡ true
only_given_shown Shut g t is = cc
only_given_shown Open g t is = cc
only_given_shown (Taken u) g t is = by_given (g u) refl is
  where
    by_given : (b : Bool) → g u ≡ b → (if b then line_centre.Given u else line_centre.Kept u)
        ≡ line_centre.Given t → g t ≡ true
    by_given true h is = let same : u ≡ t = cc in ap g (sym same) ∙ h
    by_given false h is = cc
only_given_shown (Out u) g t is = by_given (g u) refl is
  where
    by_given : (b : Bool) → g u ≡ b → (if b then line_centre.Given u else line_centre.Kept u)
        ≡ line_centre.Given t → g t ≡ true
    by_given true h is = let same : u ≡ t = cc in ap g (sym same) ∙ h
    by_given false h is = cc

pub given_shown : (e : Entry) (g : ℕ → Bool) (t : ℕ) → is_used_for t e ≡ true → g t ≡ true
    → shown e g ≡ line_centre.Given t
given_shown Shut g t used is = cc
given_shown Open g t used is = cc
given_shown (Taken u) g t used is = let same = eqb-true u t used in
    cond-true (g u) (line_centre.Given u) (line_centre.Kept u) (ap g same ∙ is) ∙ ap (λ x. line_centre.Given x) same
given_shown (Out u) g t used is = let same = eqb-true u t used in
    cond-true (g u) (line_centre.Given u) (line_centre.Kept u) (ap g same ∙ is) ∙ ap (λ x. line_centre.Given x) same

pub given_mark : (t : ℕ) (m : Mark) → is_given_to t m ≡ true → m ≡ line_centre.Given t
given_mark t line_centre.Shut is = cc
given_mark t line_centre.Open is = cc
given_mark t (line_centre.Kept u) is = cc
given_mark t (line_centre.Given u) is = ap (λ x. line_centre.Given x) (eqb-true u t is)

-- if a section is in a hand, its home has it in use for that train
pub used_in_hand : (line : Line) (w : Flow) → IsFlowSound line w → (t s : ℕ) → is_in_hand line w s t ≡ true
    → (h : ℕ) × (is_home line h s ≡ true) × (is_used_for t ((w.at h).book s) ≡ true)
used_in_hand line w sound t s is =
    let who = some_cap (tokens line t s) (centre_count line) w
    (omega (
      arith,
      ltb-true 0 (placed (hands t s) (centre_count line) w) is,
      in_hand_tokens line w t s,
      (sound.tokens t s).law,
    )) in
    let both = and_parts (is_home line who.0 s) (is_used_for t ((w.at who.0).book s)) (one_if_some _ who.2) in
    (who.0, both.0, both.1)
