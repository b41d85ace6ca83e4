-- A request to shorten of a train with a mission at a centre: the whole reply.
use Rattle.std.proofs.Common.{[], ◌&&◌, ◌*◌, ◌+◌, ◌-◌, ◌∙◌, ◌∷◌, ◌≡◌, ◌≤◌, ap, arith, Bool, cond, false, leb-true}
use Rattle.std.proofs.Common.{nat_le, None, Option, option_map, refl, Some, sym, true, ℕ}
use Rattle.std.specs.Option.{option_map_or}
use Rattle.rbc_line.specs.SectionRuns.{run_of}
use Rattle.rbc_shorten.specs.declared.facts.Shortening.{Shortening}
use Rattle.rbc_shorten.specs.declared.facts.ShorteningFacts.{ShorteningFacts}
use Rattle.rbc_shorten.specs.Requests.{is_cut_after_first, is_free, may_shorten_at, shortening_at}
use Rattle.rbc_spec.specs.Acts.{◌>>◌, may_propose, propose, propose_if_so, Reply, rest, where_so}
use Rattle.rbc_spec.specs.Centre.{Centre, Mission, Proposal}
use Rattle.rbc_spec.specs.Line.{Line, start}
use Rattle.rbc_spec.specs.Maps.{put}
use Rattle.rbc_spec.specs.Message.{ShorteningRequest}
use Rattle.rbc_spec.specs.Place.{group_start}
use Rattle.rbc_train.proofs.Fits.{and_right}

-- ## By the rules

-- message 9 with this group and this end, and the pending request after it
abbrev pub proposed : ℕ → Centre → ℕ → ℕ → Proposal → Reply
proposed t k group metres p = record {
  state = record k {
    said = put k.said t (k.said t + 1);
    mission = put k.mission t (option_map (λ (m : Mission). record m { proposal = Some p }) (k.mission t));
  };
  frames = λ d. [];
  sayings =
      record {
        nid_engine = t;
        message = record { t_train = k.said t + 1; nid_lrbg = group; body = ShorteningRequest metres };
      } ∷ [];
  words = [];
}

said_and_stands : (line : Line) (t s : ℕ) (m : Mission) (k : Centre)
    → propose line t s m k ≡ proposed t k m.place.group (start line s - group_start line m.place)
    (record { stamp = k.said t + 1; last_kept = s - 1 })
unfolding ◌>>◌
said_and_stands line t s m k = refl

-- the reply for a mission, by the test
by_test : (line : Line) (t s : ℕ) (m : Mission) (k : Centre) (b : Bool) → k.mission t ≡ Some m
    → may_propose line t s m k ≡ b
    → propose_if_so line t s k
    ≡ cond b
    (proposed t k m.place.group (start line s - group_start line m.place)
    (record { stamp = k.said t + 1; last_kept = s - 1 })) (rest k)
by_test line t s m k b there may =
    ap (λ o. option_map_or (λ n. where_so (may_propose line t s n) (propose line t s n) k) o (rest k)) there
    ∙ (λ i. cond (may i) (said_and_stands line t s m k i) (rest k))

-- without a mission no request is sent
pub none_to_ask : (line : Line) (t s : ℕ) (k : Centre) → k.mission t ≡ None → propose_if_so line t s k ≡ rest k
none_to_ask line t s k none =
    ap (λ o. option_map_or (λ n. where_so (may_propose line t s n) (propose line t s n) k) o (rest k)) none

-- ## As it is found

some_only : {X : Type 0} (b : Bool) (x y : X) → cond b (Some x) None ≡ Some y → (b ≡ true) × (x ≡ y)
some_only true x y is = (refl, cc)
some_only false x y is = cc

none_only : {X : Type 0} (b : Bool) (x : X) → cond b (Some x) None ≡ None → b ≡ false
none_only true x is = cc
none_only false x is = refl

module _ (line : Line) (t s : ℕ) (m : Mission) (k : Centre) (there : k.mission t ≡ Some m) (found : Option Shortening)
    (rules : found ≡ cond (may_propose line t s m k)
    (Some (record { l_endsection = start line s - group_start line m.place; last_kept = s - 1 })) None) where
  -- no request may be made
  pub none_made : found ≡ None → propose_if_so line t s k ≡ rest k
  none_made none = by_test line t s m k false there (none_only _ _ (sym rules ∙ none))

  -- this request is made
  pub made : (x : Shortening) → found ≡ Some x
      → propose_if_so line t s k
      ≡ proposed t k m.place.group x.l_endsection (record { stamp = k.said t + 1; last_kept = x.last_kept })
  made x some =
      let parts = some_only _ _ x (sym rules ∙ some) in
      by_test line t s m k true there parts.0
      ∙ (λ i. proposed t k m.place.group (parts.1 i).l_endsection
      (record { stamp = k.said t + 1; last_kept = (parts.1 i).last_kept }))

-- the end that is asked for has room in L_ENDSECTION
pub has_room : (metres s : ℕ) (facts : ShorteningFacts) (x : Shortening)
    → cond (may_shorten_at metres facts s) (Some (shortening_at metres facts s)) None ≡ Some x → x.l_endsection ≤ 32767
unfolding may_shorten_at
has_room metres s facts x is =
    let parts = some_only _ _ x is in
    let near : metres ≤ facts.group_start + 32767 = leb-true metres (facts.group_start + 32767)
    (and_right (is_cut_after_first (run_of facts.hand) s && nat_le facts.front (10 * metres))
    (nat_le metres (facts.group_start + 32767))
    (and_right (is_free facts)
    ((is_cut_after_first (run_of facts.hand) s && nat_le facts.front (10 * metres))
    && nat_le metres (facts.group_start + 32767)) parts.0)) in
    let same : metres - facts.group_start ≡ x.l_endsection = ap (λ (y : Shortening). y.l_endsection) parts.1 in
    omega (arith, near, same)
