-- The handover of a train that a centre supervises, by the acts of the rules.
use Rattle.std.proofs.Common.{[], if◌then◌else◌, ◌&&◌, ◌++◌, ◌+◌, ◌==◌, ◌∙◌, ◌∷◌, ◌≡◌, ap, cond, false, is_none}
use Rattle.std.proofs.Common.{is_some, List, None, not, Option, option_map, refl, Some, sym, true, ℕ}
use Rattle.std.proofs.lemmas.Bool.{false≢true}
use Rattle.std.proofs.lemmas.List.{append-nil}
use Rattle.std.specs.Option.{option_and_then, option_map_or}
use Rattle.rbc_handover.specs.declared.handing.HandoverName.{HandoverName}
use Rattle.rbc_handover.specs.Giving.{announcing, begun, cancelling, HasMission, with_count, with_handover}
use Rattle.rbc_handover.specs.Handings.{handover_name}
use Rattle.rbc_spec.proofs.Lists.{put_same}
use Rattle.rbc_spec.specs.Acts.{◌>>◌, announce, cancel, change_mission, part_at, Reply, rest, send}
use Rattle.rbc_spec.specs.Centre.{Centre, Handing, Mission}
use Rattle.rbc_spec.specs.Frame.{Announce, Body, Cancel}
use Rattle.rbc_spec.specs.Line.{Line}
use Rattle.rbc_spec.specs.Maps.{has}
use Rattle.rbc_spec.specs.Rules.{announce_if_due}
use Rattle.rbc_spec.specs.SectionRuns.{is_empty}

-- a centre that has a handover is the same with it
pub same_handover : (t : ℕ) (k : Centre) (h : Option Handing)
    → option_and_then (λ (m : Mission). m.handing) (k.mission t) ≡ h → with_handover t h k ≡ k
same_handover t k h has =
    λ i.
    record k {
      mission = λ u. put_same t
          (option_map (λ (m : Mission). record m { handing = h }) (k.mission t)) k.mission (kept (k.mission t) has) u i;
    }
  where
    kept : (o : Option Mission) → option_and_then (λ (m : Mission). m.handing) o ≡ h
        → o ≡ option_map (λ (m : Mission). record m { handing = h }) o
    kept None is = refl
    kept (Some m) is = λ i. Some (record m { handing = is i })

-- ## Announced

module _ (line : Line) (t d : ℕ) (m : Mission) (k : Centre) where
  abbrev announcing_if : Option Handing → Reply
  announcing_if h =
      cond (is_none h && not (is_empty (part_at line d m.place.track m.hand))) (announce line t m.place.group d m k)
      (rest k)

  at_mission : (h : Option Handing) → HasMission t k m h → announce_if_due line t d k ≡ announcing_if h
  at_mission h is =
      ap
      (λ o.
      option_map_or (λ n. cond (is_none n.handing && not (is_empty (part_at line d n.place.track n.hand)))
      (announce line t n.place.group d n k) (rest k)) o (rest k)) is.mission
      ∙ ap announcing_if is.handing

  -- if a handover is pending, no other is announced
  pub stands_already : (h : Handing) → HasMission t k m (Some h) → announce_if_due line t d k ≡ rest k
  stands_already h is = at_mission (Some h) is

  three_times : (xs : List Body) → ((xs ++ []) ++ []) ++ [] ≡ xs
  three_times xs = append-nil ((xs ++ []) ++ []) ∙ append-nil (xs ++ []) ∙ append-nil xs

  pub announces : HasMission t k m None → is_empty (part_at line d m.place.track m.hand) ≡ false
      → announce_if_due line t d k
      ≡ announcing line t d m (Some (k.announced + 1))
      (with_handover t (Some (begun d (k.announced + 1))) (with_count (k.announced + 1) k))
  unfolding ◌>>◌
  announces is some =
      at_mission None is
      ∙ ap (λ b. cond (not b) (announce line t m.place.group d m k) (rest k)) some
      ∙ (λ i.
      record (announcing line t d m (Some (k.announced + 1))
      (with_handover t (Some (begun d (k.announced + 1))) (with_count (k.announced + 1) k))) {
        frames = λ e. three_times (if e == d then Announce (k.announced + 1) t m.place.track ∷ [] else []) i;
      })

  -- if a handover is pending, nothing changes
  pub announces_no_more : (h : Option Handing) (n : ℕ) → is_some h ≡ true → HasMission t k m h → k.announced ≡ n
      → announce_if_due line t d k ≡ rest (with_handover t h (with_count n k))
  announces_no_more None n stands is counted = absurd (false≢true stands)
  announces_no_more (Some h) n stands is counted =
      stands_already h is
      ∙ ap rest ((λ i. record k { announced = counted i })
      ∙ sym (same_handover t (with_count n k) (Some h)
      (ap (option_and_then (λ (x : Mission). x.handing)) is.mission ∙ is.handing)))

  -- if none is pending, the next number is announced
  pub announces_next : (h now : Option Handing) (n number count : ℕ) → is_some h ≡ false → HasMission t k m h
      → k.announced ≡ n
      → is_empty (part_at line d m.place.track m.hand) ≡ false → number ≡ n + 1 → now ≡ Some (begun d (n + 1))
      → count ≡ n + 1
      → announce_if_due line t d k ≡ announcing line t d m (Some number) (with_handover t now (with_count count k))
  announces_next (Some h) now n number count none is counted some numbered begins counts =
      absurd (false≢true (sym none))
  announces_next None now n number count none is counted some numbered begins counts =
      let next : k.announced + 1 ≡ n + 1 = ap (λ x. x + 1) counted in
      announces is some
      ∙ (λ i. announcing line t d m (Some ((next ∙ sym numbered) i))
      (with_handover t ((ap (λ x. Some (begun d x)) next ∙ sym begins) i) (with_count ((next ∙ sym counts) i) k)))

-- ## Yielded

-- ## Cancelled

abbrev cancelling_of : ℕ → Centre → Option Handing → Reply
cancelling_of t k o =
    option_map_or (λ h. send h.to (Cancel h.number t)
    >> change_mission t (λ (n : Mission). record n { handing = None })) o rest k

cancels_one : (t : ℕ) (k : Centre) (h : Handing) → cancelling_of t k (Some h) ≡ cancelling t (Some (handover_name h)) k
unfolding ◌>>◌
cancels_one t k h =
    λ i.
    record (cancelling t (Some (handover_name h)) k) {
      frames = λ e.
          append-nil (if e == h.to then Cancel h.number t ∷ [] else []) i;
    }

pub cancels : (t : ℕ) (m : Mission) (k : Centre) (old : Option Handing) (result : Option HandoverName) → m.handing ≡ old
    → result ≡ option_map handover_name old
    → cancel t m k ≡ cancelling t result k
cancels t m k old result is named = ap (cancelling_of t k) is ∙ by old ∙ ap (λ o. cancelling t o k) (sym named)
  where
    by : (o : Option Handing) → cancelling_of t k o ≡ cancelling t (option_map handover_name o) k
    by None = refl
    by (Some h) = cancels_one t k h
