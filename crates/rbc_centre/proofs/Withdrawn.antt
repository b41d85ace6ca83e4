-- A section that is out and is taken back: each other centre is asked for it.
use Rattle.std.proofs.Common.{[], ◌&&◌, ◌+◌, ◌==◌, ◌∙◌, ◌∷◌, ◌≡◌, ◌≤◌, ap, arith, Bool, false, if◌then◌else◌, length}
use Rattle.std.proofs.Common.{None, not, refl, sym, true, ℕ}
use Rattle.rbc_book.specs.Book.{entry_at, is_own, Pages, wish_at}
use Rattle.rbc_centre.proofs.Steps.{effect_of, replied, ticked_is}
use Rattle.rbc_centre.proofs.Turns.{may_be_sent, unset_stamp}
use Rattle.rbc_centre.proofs.Wishes.{out_at_home, out_turns}
use Rattle.rbc_centre.specs.declared.centre.Centre.{Centre as CentreCode}
use Rattle.rbc_centre.specs.Posts.{MayPost, to_others}
use Rattle.rbc_centre.specs.State.{stands_for}
use Rattle.rbc_centre.specs.States.{state_of}
use Rattle.rbc_link.specs.Links.{HasRoom}
use Rattle.rbc_spec.specs.Acts.{Reply}
use Rattle.rbc_spec.specs.Centre.{is_unused, Out, Shut}
use Rattle.rbc_spec.specs.Frame.{Body, RouteWithdraw}
use Rattle.rbc_spec.specs.Line.{is_linked}
use Rattle.rbc_spec.specs.Outcome.{Asked}
use Rattle.rbc_spec.specs.Step as step
use Rattle.rbc_spec.specs.Step.{Unset}

-- each gets at most one request
pub told_once : (b : Bool) (body : Body) → length (if b then body ∷ [] else []) ≤ 1
told_once true body = omega arith
told_once false body = omega arith

module _ (k : CentreCode) (s t : ℕ) (book : Pages) (out : entry_at k.book s ≡ Out t)
    (entry : (n : ℕ)
    → entry_at book n ≡ (if (is_own k.book s && is_unused (entry_at k.book s)) && (n == s) then Shut
    else entry_at k.book n))
    (wish : (n : ℕ)
    → wish_at book n ≡ (if is_own k.book s && (n == s) then not (is_unused (entry_at k.book s))
    else wish_at k.book n)) where
  -- the effect of the wish is a request to all others
  pub withdraws : step.effect k.line k.number (step.ticked (k.clock + 1) (state_of k)) (Unset s)
      ≡ effect_of (replied (stands_for k.line k.number (k.clock + 1) book k.desk k.links k.trains.items)
      (to_others k.line k.number (RouteWithdraw t s)) [] (Asked s ∷ [])) None None
  withdraws =
      let own = out_at_home k.book s t out in
      ap (λ (r : Reply). effect_of r None None)
      (ap (step.unset k.line k.number s)
      (ticked_is k.line k.number k.clock (k.clock + 1) k.book k.desk k.links k.trains.items)
      ∙ sym (out_turns k.line k.number (k.clock + 1) k.book book k.desk k.links k.trains.items s
      (k.rules.own_sections s) entry wish t own out))

  pub may_withdraw : step.refusal k.line k.number (state_of k) (Unset s) ≡ None → HasRoom k.links 4 → (d : ℕ)
      → MayPost k.links d (to_others k.line k.number (RouteWithdraw t s) d)
  may_withdraw allowed room d =
      may_be_sent k (Unset s) (k.clock + 1) k.links _ (to_others k.line k.number (RouteWithdraw t s)) [] (Asked s ∷ [])
      None None (unset_stamp k s) (λ e. refl) withdraws
      allowed tt k.rules.all_links.linked
      (λ e. let once = told_once (is_linked k.line k.number e) (RouteWithdraw t s) in omega (arith, once))
      (λ e linked. let most = room e linked in let count =
      told_once (is_linked k.line k.number e) (RouteWithdraw t s) in omega (arith, most, count)) d
