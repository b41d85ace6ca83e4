-- An announcement of a handover, and its cancellation: the centre's expectation changes, which is not shown.
use Rattle.std.proofs.Common.{◌≡◌, false, if◌then◌else◌, is_none, length, nat_lt, None, refl, Some, true, ℕ}
use Rattle.law_base.specs.Counting.Network.{TakesHead, took}
use Rattle.law_base.specs.Counting.Resource.{Resource}
use Rattle.law_invariants.proofs.HandoverLemmas.Steps.{fits_head}
use Rattle.law_invariants.proofs.SoundLemmas.Handovers.{announced_sound, cancelled_sound}
use Rattle.law_invariants.proofs.SoundLemmas.Sends.{if_sound, rest_sound, Sound}
use Rattle.law_invariants.specs.Flow.Flow.{Flow, took_frame}
use Rattle.law_invariants.specs.Flow.Keeping.{came_with}
use Rattle.law_invariants.specs.Flow.Leads.{Leads}
use Rattle.law_invariants.specs.Flow.Shows.{Shows}
use Rattle.law_invariants.specs.Flow.Sound.{IsCentreSound, IsFlowSound}
use Rattle.law_refinement.proofs.HandoversLemmas.Heads.{IsUnshown, met, met_sound, received_kept, unshown_if}
use Rattle.law_refinement.proofs.HandoversLemmas.Heads.{unshown_if_act, unshown_leads, unshown_state}
use Rattle.rbc_spec.specs.Acts.{rest}
use Rattle.rbc_spec.specs.Centre.{Centre, Expectation}
use Rattle.rbc_spec.specs.Frame.{Announce, Body, Cancel}
use Rattle.rbc_spec.specs.Line.{is_centre, IsLine, Line}
use Rattle.rbc_spec.specs.LineCentre.{LineState}
use Rattle.rbc_spec.specs.Links.{announced, cancelled, expect, is_train, is_under, received}
use Rattle.rbc_spec.specs.Step.{ticked}

module _ (line : Line) (w : Flow) (v : LineState) (a c h t number stamp : ℕ) (ok : IsLine line)
    (sound : IsFlowSound line w) (sees : Shows line w v)
    (from : is_centre line a ≡ true) (to : is_centre line c ≡ true) where
  abbrev j : Centre
  j = met w a c (w.at c).phase number stamp

  well : IsCentreSound line c j
  well = met_sound line ok w sound a c to (w.at c).phase number stamp

  module _ (track : ℕ) (head : TakesHead w a c (Announce h t track)) where
    abbrev came : Resource Centre Body → ℕ
    came = came_with a c (Announce h t track)

    announce_sound : Sound line c (received line c a (Announce h t track) j)
    announce_sound =
        if_sound line c (is_train line t) (if nat_lt track (length line.tracks) then announced a h t else rest) rest j
        (λ known. if_sound line c (nat_lt track (length line.tracks)) (announced a h t) rest j
        (λ there. announced_sound line ok c a h t j well)
        (λ none. rest_sound line c j well))
        (λ foreign. rest_sound line c j well)

    aside : IsUnshown c (w.at c) came (rest j)
    aside = unshown_state c (w.at c) came j refl refl refl refl refl refl refl (λ u. refl) (λ u s. refl)

    abbrev new : Expectation
    new = record { number = h; is_taking = false }

    expecting : IsUnshown c (w.at c) came (expect a t (Some new) j)
    expecting = unshown_state c (w.at c) came (expect a t (Some new) j).state refl refl refl refl refl refl
        refl (λ u. refl) (λ u s. refl)

    unshown : IsUnshown c (w.at c) came (received line c a (Announce h t track) j)
    unshown = unshown_if_act c (w.at c) came (is_train line t)
        (if nat_lt track (length line.tracks) then announced a h t else rest) rest j
        (unshown_if_act c (w.at c) came (nat_lt track (length line.tracks)) (announced a h t) rest j
        (unshown_if c (w.at c) came (is_none (j.expects a t)) (expect a t (Some new) j) (rest j) expecting aside)
        aside) aside

    pub announce_leads : Leads line (took w a c) c
        (received line c a (Announce h t track) (took_frame a number (ticked stamp (w.at c)))) v
    announce_leads = unshown_leads line w sound v sees a c from to (Announce h t track) head
        (received line c a (Announce h t track) j) unshown
        (received_kept line ok w sound a c to (w.at c).phase number stamp (Announce h t track)
        (fits_head line ok w sound a c from to (Announce h t track) head) from head announce_sound)

  module _ (head : TakesHead w a c (Cancel h t)) where
    abbrev ended : Resource Centre Body → ℕ
    ended = came_with a c (Cancel h t)

    cancel_sound : Sound line c (received line c a (Cancel h t) j)
    cancel_sound = if_sound line c (is_train line t) (cancelled a h t) rest j
        (λ known. cancelled_sound line ok c a h t j well)
        (λ foreign. rest_sound line c j well)

    still : IsUnshown c (w.at c) ended (rest j)
    still = unshown_state c (w.at c) ended j refl refl refl refl refl refl refl (λ u. refl) (λ u s. refl)

    expecting_none : IsUnshown c (w.at c) ended (expect a t None j)
    expecting_none = unshown_state c (w.at c) ended (expect a t None j).state refl refl refl refl refl refl
        refl (λ u. refl) (λ u s. refl)

    ended_unshown : IsUnshown c (w.at c) ended (received line c a (Cancel h t) j)
    ended_unshown = unshown_if_act c (w.at c) ended (is_train line t) (cancelled a h t) rest j
        (unshown_if c (w.at c) ended (is_under h (j.expects a t)) (expect a t None j) (rest j) expecting_none still)
        still

    pub cancel_leads : Leads line (took w a c) c
        (received line c a (Cancel h t) (took_frame a number (ticked stamp (w.at c)))) v
    cancel_leads = unshown_leads line w sound v sees a c from to (Cancel h t) head
        (received line c a (Cancel h t) j) ended_unshown
        (received_kept line ok w sound a c to (w.at c).phase number stamp (Cancel h t)
        (fits_head line ok w sound a c from to (Cancel h t) head) from head cancel_sound)
