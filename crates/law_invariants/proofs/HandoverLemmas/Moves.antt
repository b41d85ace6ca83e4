-- Each small move is orderly, except one that changes an expectation. So are a train's message, an event of the
-- interlocking, and their parts.
use Rattle.std.proofs.Common.{[], ◌&&◌, ◌++◌, ◌+◌, ◌-◌, ◌==◌, ◌∙◌, ◌∷◌, ◌≡◌, ◌≢◌, All, ap, Bool, false, if◌then◌else◌}
use Rattle.std.proofs.Common.{min, None, Option, option_map, refl, Some, subst, sym, true, ℕ}
use Rattle.std.proofs.lemmas.Bool.{and_from, and_parts, eqb-true}
use Rattle.std.proofs.lemmas.List.Elements.{All-append, All-cons, All-nil}
use Rattle.std.proofs.lemmas.Option.{same_Some}
use Rattle.std.specs.Option.{option_map_or}
use Rattle.law_base.proofs.CountingLemmas.Sums.{put_other, put_same}
use Rattle.law_base.proofs.WalkLemmas.Acts.{end_order_walks, propose_if_walks, taking_over_walks}
use Rattle.law_base.proofs.WalkLemmas.Causes.{asking, begins, by_itself, Change, clears, comes, cuts, goes_back}
use Rattle.law_base.proofs.WalkLemmas.Causes.{goes_home, grows, May, MaySend, no_proposal, speaking, still as of_train}
use Rattle.law_base.proofs.WalkLemmas.Causes.{to_some, Turn}
use Rattle.law_base.proofs.WalkLemmas.Frames.{frame_expects, frame_may, frame_yields}
use Rattle.law_base.proofs.WalkLemmas.Messages.{announce_if_walks, ask_if_walks, cut_walks, report_here_walks}
use Rattle.law_base.proofs.WalkLemmas.Moves.{announces, Answer, asks_right, asks_route, changes, Closed, closes}
use Rattle.law_base.proofs.WalkLemmas.Moves.{closes_handed, expects, gives, lends_some, Move, no_handover, of_walk}
use Rattle.law_base.proofs.WalkLemmas.Moves.{recalls, refuses, returns, sends, sets, takes_over, Walk, withdraws}
use Rattle.law_base.proofs.WalkLemmas.Moves.{yields}
use Rattle.law_invariants.proofs.HandoverLemmas.Handing.{announce_sent, cancel_sent, none_handed, yield_sent}
use Rattle.law_invariants.proofs.HandoverLemmas.Orderly.{apart, Goes, goes_change, goes_returned, goes_send, goes_sent}
use Rattle.law_invariants.proofs.HandoverLemmas.Orderly.{goes_set, goes_set_some, goes_then, goes_then_with, GoesWith}
use Rattle.law_invariants.proofs.HandoverLemmas.Orderly.{loosened, still}
use Rattle.law_invariants.proofs.HandoverLemmas.Taking.{goes_take_over}
use Rattle.law_invariants.specs.Flow.Keeping.{IsNeutral}
use Rattle.law_invariants.specs.Flow.Pairs.{handing_to}
use Rattle.law_invariants.specs.Handover.Orderly.{Allowance, allowed_by, IsOrderly, none_allowed}
use Rattle.rbc_spec.proofs.Lists.{itself}
use Rattle.rbc_spec.specs.Acts.{◌>>◌, booked, change_mission, end_order, propose_if_so, Reply, say, set_mission}
use Rattle.rbc_spec.specs.Centre.{Centre, Handing, is_open, Mission, Taken}
use Rattle.rbc_spec.specs.Frame.{Announce, AskRight, Body, Cancel, GiveRight, RefuseRight, RouteAsk, RouteInfo}
use Rattle.rbc_spec.specs.Frame.{RouteWithdraw, TakingOver, Yield, yielded_place}
use Rattle.rbc_spec.specs.Line.{is_linked, Line}
use Rattle.rbc_spec.specs.Links.{lendable, taking_over}
use Rattle.rbc_spec.specs.Message.{Authority}
use Rattle.rbc_spec.specs.Place.{Position}
use Rattle.rbc_spec.specs.Rules.{announce_if_due, ask_route_if_due, authority, cut, extended_by, extension, report_here}
use Rattle.rbc_spec.specs.SectionRuns.{most_in_hand, next_after, SectionRun}
use Rattle.rbc_spec.specs.Step.{withdraw}

-- each handover that the event may yield is allowed
abbrev pub IsAllowed : Allowance → May → Type 0
IsAllowed allow may = (t : ℕ) (h : Handing) → may.train ≡ Some t → may.yields ≡ Some h → allow h.to t h.number ≡ true

-- a body that is not about a handover
neutral : (body : Body) → frame_expects body ≡ false → frame_yields 0 body ≡ None → IsNeutral body
neutral (Announce number t track) none nothing = cc
neutral (Cancel number t) none nothing = cc
neutral (Yield number t heard has_data is_ended place hand) none nothing = cc
neutral (TakingOver number t) none nothing = cc
neutral body none nothing =
    record { follows = λ u n. refl; announces = λ u h. refl; takes_over = λ u h. refl; yields = λ u h. refl }

pub one_alone : (b : Bool) (body : Body) → (if b then body ∷ [] else []) ++ [] ≡ (if b then body ∷ [] else [])
one_alone true body = refl
one_alone false body = refl

-- a body that is not about a handover, to at most one centre
all_neutral : (to : Option ℕ) (body : Body) → IsNeutral body → (e : ℕ) → All IsNeutral (to_some to body e)
all_neutral None body is e = All-nil IsNeutral
all_neutral (Some d) body is e = by_same (e == d)
  where
    by_same : (b : Bool) → All IsNeutral (if b then body ∷ [] else [])
    by_same true = All-cons IsNeutral body [] is (All-nil IsNeutral)
    by_same false = All-nil IsNeutral

and_nothing : (to : Option ℕ) (body : Body) → IsNeutral body → (e : ℕ) → All IsNeutral (to_some to body e ++ [])
and_nothing to body is e = All-append IsNeutral (to_some to body e) [] (all_neutral to body is e) (All-nil IsNeutral)

module _ (line : Line) (c : ℕ) where
  sent_neutral : (may : May) (d : ℕ) (body : Body) → MaySend line c may d body → IsNeutral body
  sent_neutral may d _ (goes_back t its away is) = neutral _ refl refl
  sent_neutral may d _ (goes_home t r its some home came) = neutral _ refl refl

  goes_withdraw : (t s : ℕ) (k : Centre) → Goes k (withdraw line c t s k)
  goes_withdraw t s k = apart k k (withdraw line c t s k).frames
      (record { expects = λ a u. refl; announced = refl; handing = λ b u. refl }) (λ d. by_link (is_linked line c d))
    where
      by_link : (b : Bool) → All IsNeutral (if b then RouteWithdraw t s ∷ [] else [])
      by_link true = All-cons IsNeutral (RouteWithdraw t s) [] (neutral _ refl refl) (All-nil IsNeutral)
      by_link false = All-nil IsNeutral

  -- ## Missions

  module _ (may : May) (still_expected : may.expects ≡ false) (was : Centre) where
    goes_turn : (t : ℕ) (o : Option Mission) (k : Centre) → Turn line c may was t k o → Goes k (set_mission t o k)
    goes_turn t _ k (begins place why none) = goes_set t _ k (λ b. sym (ap (handing_to b) none))
    goes_turn t _ k (grows m place position j so has said placed) = goes_set_some t m _ k has refl
    goes_turn t _ k (clears m place position has said placed some) = goes_set_some t m _ k has refl
    goes_turn t _ k (cuts m n last_kept has same some) =
        goes_set_some t n _ k has (sym (ap (λ (q : Mission). q.handing) same))
    goes_turn t _ k (comes d number time carried place hand has_data is_ended so taken came carries) = cc

    same_handing : (t : ℕ) (f : Mission → Mission) (k : Centre) → Change line may was t k f → (m : Mission)
        → (f m).handing ≡ m.handing
    same_handing t _ k no_proposal m = refl
    same_handing t f k change m = refl

    goes_recall : (t : ℕ) (m : Mission) (h : Handing) (k y : Centre) → k.mission t ≡ Some m → m.handing ≡ Some h
        → ((u : ℕ) → u ≢ t → y.mission u ≡ k.mission u) → ((e : ℕ) → handing_to e (y.mission t) ≡ None)
        → y.announced ≡ k.announced → y.expects ≡ k.expects
        → IsOrderly k y (λ e. to_some (Some h.to) (Cancel h.number t) e ++ [])
    goes_recall t m h k y has stands other ended same_count same_rows =
        goes_sent none_allowed h.to t (Cancel h.number t) k y _
        (cancel_sent t m h k y has stands other ended same_count same_rows)
        (λ e. one_alone (e == h.to) (Cancel h.number t))

    -- ## Each small move

    moves : (allow : Allowance) → IsAllowed allow may → (k : Centre) (q : Reply)
        → Move line c may was k q → GoesWith allow k q
    moves allow allowed _ _ (sends d body k why) =
        loosened allow k _ _ (goes_send d body k (sent_neutral may d body why))
    moves allow allowed _ _ (returns t track r m k its has few) =
        loosened allow k _ _ (goes_returned line c t track r k)
    moves allow allowed _ _ (withdraws t s k home at) = loosened allow k _ _ (goes_withdraw t s k)
    moves allow allowed _ _ (takes_over t k its) = loosened allow k _ _ (goes_take_over line t k)
    moves allow allowed _ _ (asks_right t place to k its fits away is none) =
        loosened allow k _ _ (apart k _ _ (record { expects = λ a u. refl; announced = refl; handing = λ b u. refl })
        (and_nothing to (AskRight t) (neutral _ refl refl)))
    moves allow allowed _ _ (asks_route t d m k its has empty home none ahead more) =
        loosened allow k _ _ (apart k _ _ (record { expects = λ a u. refl; announced = refl; handing = λ b u. refl })
        (and_nothing (Some d)
        (RouteAsk t (next_after m.hand) (min (most_in_hand - m.hand.count) (512 - next_after m.hand)))
        (neutral _ refl refl)))
    moves allow allowed _ _ (announces t d m k its so has none ahead same) = loosened allow k _ _
        (goes_sent none_allowed d t (Announce (k.announced + 1) t m.place.track) k _ _
        (announce_sent t d m.place.track m k _ has none refl refl refl) (λ e. twice (e == d)))
      where
        twice : (b : Bool) → ((if b then Announce (k.announced + 1) t m.place.track ∷ [] else []) ++ [])
            ++ [] ≡ (if b then Announce (k.announced + 1) t m.place.track ∷ [] else [])
        twice true = refl
        twice false = refl
    moves allow allowed _ _ (recalls t m h k its has stands none) =
        loosened allow k _ _
        (goes_recall t m h k _ has stands
        (λ u other. put_other k.mission t (option_map no_handover (k.mission t)) u other)
        (λ e. ap (handing_to e) (put_same k.mission t (option_map no_handover (k.mission t))
        ∙ ap (option_map no_handover) has)) refl refl)
    moves allow allowed _ _ (closes t m k has none) =
        loosened allow k _ _ (goes_set t None k (λ b. sym (ap (handing_to b) has ∙ none_handed b m none)))
    moves allow allowed _ _ (closes_handed t m h k its has stands) =
        loosened allow k _ _ (goes_recall t m h k (change_mission t no_handover gone).state has stands
        (λ u other. put_other gone.mission t (option_map no_handover (gone.mission t)) u other
        ∙ put_other k.mission t None u other)
        (λ e. ap (handing_to e) (put_same gone.mission t (option_map no_handover (gone.mission t))
        ∙ ap (option_map no_handover) (put_same k.mission t None))) refl refl)
      where
        gone : Centre
        gone = (set_mission t None k).state
    moves allow allowed _ _ (yields t m h k its so has stands) = goes_sent allow h.to t _ k _ _
        (yield_sent t m h k _ has stands (λ u other. put_other k.mission t None u other)
        (λ e. ap (handing_to e) (put_same k.mission t None)) refl refl
        (option_map_or (λ n. n) (k.heard t) 0) m.has_data m.is_ended (yielded_place m.place) m.hand allow
        (λ x is. subst (λ v. allow h.to t v ≡ true) (eqb-true h.number x (and_parts (t == t) (h.number == x) is).1)
        (allowed t h its so)))
        (λ e. refl)
    moves allow allowed _ _ (expects d t e k so why) = cc
    moves allow allowed _ _ (sets t o k turn) = loosened allow k _ _ (goes_turn t o k turn)
    moves allow allowed _ _ (changes t f k change) =
        loosened allow k _ _ (goes_change t f k (same_handing t f k change))
    moves allow allowed k q move = loosened allow k q.state _ (still k q.state refl refl refl)

    pub closed : (allow : Allowance) → IsAllowed allow may → Closed line c may was (GoesWith allow)
    closed allow allowed = record { moves = moves allow allowed; joins = goes_then_with allow }

    -- no answer is about a handover
    pub answered : (allow : Allowance) (d : ℕ) (body : Body) (q : Reply)
        → Answer line c may was d body q → GoesWith allow was q
    answered allow d _ _ (gives t here has) =
        loosened allow was _ _
        (apart was _ _ (record { expects = λ a u. refl; announced = refl; handing = λ b u. refl })
        (all_neutral (Some d) (GiveRight t) (neutral _ refl refl)))
    answered allow d _ _ (refuses t here) =
        loosened allow was _ _ (goes_send d (RefuseRight t) was (neutral _ refl refl))
    answered allow d _ _ (lends_some t first most there) =
        loosened allow was _ _
        (apart was _ _ (record { expects = λ a u. refl; announced = refl; handing = λ b u. refl })
        (all_neutral (Some d) (RouteInfo t (lendable line c was first most)) (neutral _ refl refl)))
    answered allow d body q answer = loosened allow was q.state _ (still was q.state refl refl refl)

    pub none_yields : may.yields ≡ None → IsAllowed none_allowed may
    none_yields none t h its so = let wrong : ◌≡◌ {A = Option Handing} None (Some h) = sym none ∙ so in cc

    -- a walk that yields nothing
    pub of_moves : may.yields ≡ None → (k : Centre) (q : Reply) → Walk line c may was k q → Goes k q
    of_moves none = of_walk line c may was (GoesWith none_allowed) (closed none_allowed (none_yields none))

-- ## Parts of events

-- the handover that a TakingOver may cause to be yielded
pub over_allowed : (a number t : ℕ) → IsAllowed (allowed_by a (TakingOver number t)) (frame_may a (TakingOver number t))
over_allowed a number t u h its so =
    let this = same_Some (record { number = number; to = a }) h so in
    subst (λ (x : Handing). ((x.to == a) && ((t == u) && (number == x.number))) ≡ true) this
    (and_from (a == a) ((t == u) && (number == number)) (itself a)
    (and_from (t == u) (number == number) (subst (λ v. (t == v) ≡ true) (same_Some t u its) (itself t))
    (itself number)))

module _ (line : Line) where
  pub goes_propose_if : (t s : ℕ) (k : Centre) → Goes k (propose_if_so line t s k)
  goes_propose_if t s k = of_moves line 0 (of_train t) refl k refl k _ (propose_if_walks line 0 (of_train t) k t s k)

  pub goes_end_order : (c t : ℕ) (k : Centre) → Goes k (end_order line c t k)
  goes_end_order c t k = of_moves line c (of_train t) refl k refl k _ (end_order_walks line c (of_train t) k t k)

  pub goes_announce_if : (t d : ℕ) (k : Centre) → Goes k (announce_if_due line t d k)
  goes_announce_if t d k = of_moves line 0 (asking t) refl k refl k _
      (announce_if_walks line 0 (asking t) k t refl refl d (by_itself refl) k refl)

  pub goes_ask_if : (t d : ℕ) (k : Centre) → Goes k (ask_route_if_due line t d k)
  goes_ask_if t d k = of_moves line 0 (of_train t) refl k refl k _
      (ask_if_walks line 0 (of_train t) k t refl d (by_itself refl) k)

  pub goes_report_here : (c t : ℕ) (position : Position) (m : Mission) (k : Centre) → k.mission t ≡ Some m
      → Goes k (report_here line c t position m k)
  goes_report_here c t position m k at =
      of_moves line c (speaking t) refl k refl k _
      (report_here_walks line c (speaking t) k t refl refl position (record {}) m k at)

  pub goes_cut : (c t last_kept : ℕ) (m n : Mission) (k : Centre) → k.mission t ≡ Some n
      → record n { proposal = None } ≡ record m { proposal = None } → Goes k (cut line c t last_kept m k)
  goes_cut c t last_kept m n k at same =
      of_moves line c (speaking t) refl k refl k _ (cut_walks line c (speaking t) k t refl refl last_kept m n k at same)

  pub goes_taking_over : (c a number t : ℕ) (k : Centre)
      → GoesWith (allowed_by a (TakingOver number t)) k (taking_over line c a number t k)
  goes_taking_over c a number t k = of_walk line c (frame_may a (TakingOver number t)) k
      (GoesWith (allowed_by a (TakingOver number t))) (closed line c (frame_may a (TakingOver number t)) refl k
      (allowed_by a (TakingOver number t)) (over_allowed a number t)) k _
      (taking_over_walks line c (frame_may a (TakingOver number t)) k t refl a number refl k)

  -- the hand is extended, and the authority for it is sent
  pub goes_extend : (c t : ℕ) (m n : Mission) (k : Centre) → k.mission t ≡ Some n → m.handing ≡ n.handing
      → let more : SectionRun = extension line c k m in
      Goes k (((booked is_open (Taken t) more >> set_mission t (Some (extended_by more m)))
      >> say t m.place.group (Authority (authority line (extended_by more m)))) k)
  unfolding ◌>>◌
  goes_extend c t m n k at same = let more : SectionRun = extension line c k m in
      goes_then (booked is_open (Taken t) more >> set_mission t (Some (extended_by more m)))
      (say t m.place.group (Authority (authority line (extended_by more m)))) k
      (goes_then (booked is_open (Taken t) more) (set_mission t (Some (extended_by more m))) k
      (still k _ refl refl refl) (goes_set_some t n (extended_by more m) _ at same))
      (still _ _ refl refl refl)
