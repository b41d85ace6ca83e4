-- The view of a train that misses messages.
use Rattle.std.proofs.Common.{[], ◌+◌, ◌∙◌, ◌∷◌, ◌≡◌, ap, arith, false, if◌then◌else◌, List, max, None, Option}
use Rattle.std.proofs.Common.{option_map, refl, Some, subst, sym, ℕ}
use Rattle.std.proofs.lemmas.Option.{none-some, same_Some}
use Rattle.std.specs.Option.{option_and_then}
use Rattle.law_outside.specs.Outside.{accepted, all_told, asked_for, extended, gets, is_told, metres_from, sees}
use Rattle.law_outside.specs.Outside.{sees_all, Spoken, stamp_of, starts, Stretch, View}
use Rattle.law_promises.proofs.ArrivalLemmas.Arrives.{Lies, lies_then}
use Rattle.law_promises.proofs.ArrivalLemmas.ArrivesTold.{accepted_both, all_stray, sees_stray, true_false, Within}
use Rattle.law_promises.proofs.ArrivalLemmas.ArrivesTold.{within_ended, within_more, within_put, within_start}
use Rattle.law_promises.proofs.ArrivalLemmas.ArrivesTold.{within_stray}
use Rattle.law_promises.specs.Arrival.Arrival.{Comes, comes, is_acceptance, is_lost, no_more}
use Rattle.rbc_spec.specs.Line.{end, Line, section_of_group, start}
use Rattle.rbc_spec.specs.Maps.{put}
use Rattle.rbc_spec.specs.Message.{Authority, DataAcknowledged, EndSession, ShorteningRequest, SystemVersion}
use Rattle.rbc_spec.specs.Message.{TerminationAcknowledged, TrackBody, TrainAccepted, TrainRejected, Transition}
use Rattle.rbc_spec.specs.Outcome.{Saying}
use Rattle.rbc_spec.specs.Sections.{is_on}
use Rattle.rbc_spec.specs.World.{centre_of, Event}

pub all_seen_stray : (line : Line) (events : List Event) (spoken : List (Option Spoken)) (v : View)
    → (sees_all line events spoken v).stray ≡ false → v.stray ≡ false
all_seen_stray line [] [] v is = is
all_seen_stray line [] (o ∷ os) v is = true_false is
all_seen_stray line (event ∷ events) [] v is = true_false is
all_seen_stray line (event ∷ events) (o ∷ os) v is =
    sees_stray line event o v (all_seen_stray line events os (sees line event o v) is)

-- ## Messages to trains

-- a message to a train extends its stretch, and the result is within that for a greater stretch
pub record Grows (grow : Stretch → Option Stretch) : Type 0 where
  pub both : (y x z : Stretch) → Lies y x → grow x ≡ Some z → (k : Stretch) × (grow y ≡ Some k) × Lies k z
  pub more : (x z : Stretch) → grow x ≡ Some z → Lies x z

pub metres_same : (line : Line) (group l : ℕ) (y x : Stretch) → y.track ≡ x.track
    → metres_from line group l y ≡ metres_from line group l x
metres_same line group l y x same =
    ap (λ (k : ℕ). option_and_then (λ s. if is_on line k s then Some (start line s + l) else None)
    (section_of_group line group)) same

pub extended_grows : (line : Line) (event : Event) (t group l : ℕ) → Grows (extended line event t group l)
extended_grows line event t group l = record { both = both_of; more = more_of }
  where
    longer : ℕ → ℕ → Stretch → Stretch
    longer stamp e x = record x { end = max x.end e; since = max x.since stamp; asked = None }

    by_metres : (o : Option ℕ) (stamp : ℕ) (y x z : Stretch) → Lies y x
        → option_map {T = ℕ} {U = Stretch} (λ e. longer stamp e x) o ≡ Some z → (k : Stretch)
        × (option_map {T = ℕ} {U = Stretch} (λ e. longer stamp e y) o ≡ Some k) × Lies k z
    by_metres None stamp y x z lies is = absurd (none-some z is)
    by_metres (Some e) stamp y x z lies is = (
      longer stamp e y,
      refl,
      subst (Lies (longer stamp e y)) (same_Some (longer stamp e x) z is)
          (record {
            track = lies.track;
            end = (let le = lies.end in omega (arith, le));
            since = (let le = lies.since in omega (arith, le));
            past = lies.past;
          }),
    )

    by_stamp : (o : Option ℕ) (y x z : Stretch) → Lies y x
        → option_and_then {T = ℕ} {U = Stretch}
        (λ stamp. option_map {T = ℕ} {U = Stretch} (λ e. longer stamp e x) (metres_from line group l x)) o ≡ Some z
        → (k : Stretch)
        × (option_and_then {T = ℕ} {U = Stretch}
        (λ stamp. option_map {T = ℕ} {U = Stretch} (λ e. longer stamp e y) (metres_from line group l y)) o ≡ Some k)
        × Lies k z
    by_stamp None y x z lies is = absurd (none-some z is)
    by_stamp (Some stamp) y x z lies is =
        let r = by_metres (metres_from line group l x) stamp y x z lies is in (
          r.0,
          ap (option_map {T = ℕ} {U = Stretch} (λ e. longer stamp e y)) (metres_same line group l y x lies.track)
              ∙ r.1,
          r.2,
        )

    both_of : (y x z : Stretch) → Lies y x → extended line event t group l x ≡ Some z → (k : Stretch)
        × (extended line event t group l y ≡ Some k) × Lies k z
    both_of y x z lies is = by_stamp (stamp_of event t) y x z lies is

    more_metres : (o : Option ℕ) (stamp : ℕ) (x z : Stretch)
        → option_map {T = ℕ} {U = Stretch} (λ e. longer stamp e x) o ≡ Some z → Lies x z
    more_metres None stamp x z is = absurd (none-some z is)
    more_metres (Some e) stamp x z is =
        subst (Lies x) (same_Some (longer stamp e x) z is)
        (record { track = refl; end = (omega arith); since = (omega arith); past = λ n past. past })

    more_stamp : (o : Option ℕ) (x z : Stretch)
        → option_and_then {T = ℕ} {U = Stretch}
        (λ stamp. option_map {T = ℕ} {U = Stretch} (λ e. longer stamp e x) (metres_from line group l x)) o ≡ Some z
        → Lies x z
    more_stamp None x z is = absurd (none-some z is)
    more_stamp (Some stamp) x z is = more_metres (metres_from line group l x) stamp x z is

    more_of : (x z : Stretch) → extended line event t group l x ≡ Some z → Lies x z
    more_of x z is = more_stamp (stamp_of event t) x z is

pub asked_grows : (line : Line) (c stamp group l : ℕ) → Grows (asked_for line c stamp group l)
asked_grows line c stamp group l =
    record { both = both_of; more = λ x z is. by_more (metres_from line group l x) x z is }
  where
    standing : ℕ → Stretch → Stretch
    standing e x = record x { asked = Some (record { centre = c; stamp = stamp; end = e }) }

    by_metres : (o : Option ℕ) (y x z : Stretch) → Lies y x → option_map {T = ℕ} {U = Stretch} (λ e. standing e x) o
        ≡ Some z → (k : Stretch) × (option_map {T = ℕ} {U = Stretch} (λ e. standing e y) o ≡ Some k) × Lies k z
    by_metres None y x z lies is = absurd (none-some z is)
    by_metres (Some e) y x z lies is = (
      standing e y,
      refl,
      subst (Lies (standing e y)) (same_Some (standing e x) z is)
          (record { track = lies.track; end = lies.end; since = lies.since; past = lies.past }),
    )

    both_of : (y x z : Stretch) → Lies y x → asked_for line c stamp group l x ≡ Some z → (k : Stretch)
        × (asked_for line c stamp group l y ≡ Some k) × Lies k z
    both_of y x z lies is =
        let r = by_metres (metres_from line group l x) y x z lies is in (
          r.0,
          ap (option_map {T = ℕ} {U = Stretch} (λ e. standing e y)) (metres_same line group l y x lies.track)
              ∙ r.1,
          r.2,
        )

    by_more : (o : Option ℕ) (x z : Stretch) → option_map {T = ℕ} {U = Stretch} (λ e. standing e x) o ≡ Some z
        → Lies x z
    by_more None x z is = absurd (none-some z is)
    by_more (Some e) x z is = subst (Lies x) (same_Some (standing e x) z is)
        (record { track = refl; end = (omega arith); since = (omega arith); past = λ n past. past })

module _ (v w : View) (old : Within v w) (t : ℕ) (grow : Stretch → Option Stretch) (grows : Grows grow) where
  grown_within : (gets t (option_and_then grow (v.stretch t)) v).stray ≡ false
      → Within (gets t (option_and_then grow (v.stretch t)) v) (gets t (option_and_then grow (w.stretch t)) w)
  grown_within = by_told (v.stretch t) refl
    where
      by_came : (x z : Stretch) → v.stretch t ≡ Some x → grow x ≡ Some z → (o : Option Stretch) → w.stretch t ≡ o
          → Within (record v { stretch = put v.stretch t (Some z) }) (gets t (option_and_then grow o) w)
      by_came x z at is None none = within_stray (record v { stretch = put v.stretch t (Some z) }) w
          (within_more v w old t z (λ y so. absurd (none-some y (sym none ∙ so))))
      by_came x z at is (Some y) so =
          let r = old.stretch t y so in
          let k = grows.both y x z (subst (Lies y) (same_Some r.0 x (sym r.1 ∙ at)) r.2) is in
          subst (λ (o : Option Stretch). Within (record v { stretch = put v.stretch t (Some z) }) (gets t o w))
          (sym k.1)
          (within_put v w old t (Some z) (Some (k.0))
          (λ e same. (z, refl, subst (λ (q : Stretch). Lies q z) (same_Some k.0 e same) k.2)))

      by_grown : (x : Stretch) → v.stretch t ≡ Some x → (o : Option Stretch) → grow x ≡ o → (gets t o v).stray ≡ false
          → Within (gets t o v) (gets t (option_and_then grow (w.stretch t)) w)
      by_grown x at None is founded = true_false founded
      by_grown x at (Some z) is founded = by_came x z at is (w.stretch t) refl

      by_told : (o : Option Stretch) → v.stretch t ≡ o → (gets t (option_and_then grow o) v).stray ≡ false
          → Within (gets t (option_and_then grow o) v) (gets t (option_and_then grow (w.stretch t)) w)
      by_told None none founded = true_false founded
      by_told (Some x) at founded = by_grown x at (grow x) refl founded

  lost_within : (gets t (option_and_then grow (v.stretch t)) v).stray ≡ false
      → Within (gets t (option_and_then grow (v.stretch t)) v) w
  lost_within = by_told (v.stretch t) refl
    where
      by_grown : (x : Stretch) → v.stretch t ≡ Some x → (o : Option Stretch) → grow x ≡ o
          → (gets t o v).stray ≡ false → Within (gets t o v) w
      by_grown x at None is founded = true_false founded
      by_grown x at (Some z) is founded = within_more v w old t z
          (λ y so. let r = old.stretch t y so in
          lies_then y x z (subst (Lies y) (same_Some r.0 x (sym r.1 ∙ at)) r.2) (grows.more x z is))

      by_told : (o : Option Stretch) → v.stretch t ≡ o → (gets t (option_and_then grow o) v).stray ≡ false
          → Within (gets t (option_and_then grow o) v) w
      by_told None none founded = true_false founded
      by_told (Some x) at founded = by_grown x at (grow x) refl founded

module _ (line : Line) (event : Event) (p : Saying) (v w : View) (old : Within v w) where
  abbrev t : ℕ
  t = p.nid_engine

  abbrev c : ℕ
  c = centre_of event

  accepted_within : (gets t (option_and_then (accepted (v.stretch t)) (v.start t c)) (starts t c None v)).stray ≡ false
      → Within (gets t (option_and_then (accepted (v.stretch t)) (v.start t c)) (starts t c None v))
      (gets t (option_and_then (accepted (w.stretch t)) (w.start t c)) (starts t c None w))
  accepted_within = by_start (v.start t c) refl
    where
      by_accepted : (f : Stretch) → v.start t c ≡ Some f → (o : Option Stretch) → accepted (v.stretch t) f ≡ o
          → (gets t o (starts t c None v)).stray ≡ false
          → Within (gets t o (starts t c None v))
          (gets t (option_and_then (accepted (w.stretch t)) (w.start t c)) (starts t c None w))
      by_accepted f at None is founded = true_false founded
      by_accepted f at (Some z) is founded =
          let r = accepted_both (w.stretch t) (v.stretch t) f z (old.stretch t) is in
          subst (λ (o : Option Stretch). Within (gets t (Some z) (starts t c None v)) (gets t o (starts t c None w)))
          (sym (ap (option_and_then (accepted (w.stretch t))) (old.start t c f at) ∙ r.1))
          (within_put (starts t c None v) (starts t c None w) (within_start v w old t c None) t (Some z) (Some (r.0))
          (λ e same. (z, refl, subst (λ (q : Stretch). Lies q z) (same_Some r.0 e same) r.2)))

      by_start : (o : Option Stretch) → v.start t c ≡ o
          → (gets t (option_and_then (accepted (v.stretch t)) o) (starts t c None v)).stray ≡ false
          → Within (gets t (option_and_then (accepted (v.stretch t)) o) (starts t c None v))
          (gets t (option_and_then (accepted (w.stretch t)) (w.start t c)) (starts t c None w))
      by_start None none founded = true_false founded
      by_start (Some f) at founded = by_accepted f at (accepted (v.stretch t) f) refl founded

  told_within : (body : TrackBody) → (is_told line event p body v).stray ≡ false
      → Within (is_told line event p body v) (is_told line event p body w)
  told_within (Authority l) founded = grown_within v w old t (extended line event t p.message.nid_lrbg l)
      (extended_grows line event t p.message.nid_lrbg l) founded
  told_within (DataAcknowledged stamp) founded = old
  told_within (ShorteningRequest l) founded =
      grown_within v w old t (asked_for line c p.message.t_train p.message.nid_lrbg l)
      (asked_grows line c p.message.t_train p.message.nid_lrbg l) founded
  told_within (Transition d n r) founded = old
  told_within (EndSession n r) founded = old
  told_within SystemVersion founded = old
  told_within TerminationAcknowledged founded = old
  told_within TrainRejected founded = within_start v w old t c None
  told_within TrainAccepted founded = accepted_within founded

  not_told_within : (body : TrackBody) → is_acceptance body ≡ false → (is_told line event p body v).stray ≡ false
      → Within (is_told line event p body v) w
  not_told_within (Authority l) may founded =
      lost_within v w old t (extended line event t p.message.nid_lrbg l)
      (extended_grows line event t p.message.nid_lrbg l) founded
  not_told_within (DataAcknowledged stamp) may founded = old
  not_told_within (ShorteningRequest l) may founded =
      lost_within v w old t (asked_for line c p.message.t_train p.message.nid_lrbg l)
      (asked_grows line c p.message.t_train p.message.nid_lrbg l) founded
  not_told_within (Transition d n r) may founded = old
  not_told_within (EndSession n r) may founded = old
  not_told_within SystemVersion may founded = old
  not_told_within TerminationAcknowledged may founded = old
  not_told_within TrainRejected may founded = within_ended v w old t c
  not_told_within TrainAccepted may founded = true_false may

pub all_within : (line : Line) (event : Event) (told some : List Saying) (v w : View) → Comes told some
    → (all_told line event told v).stray ≡ false → Within v w
    → Within (all_told line event told v) (all_told line event some w)
all_within line event _ _ v w no_more founded old = old
all_within line event _ _ v w (comes p told some more) founded old =
    all_within line event told some (is_told line event p p.message.body v)
    (is_told line event p p.message.body w) more founded
    (told_within line event p v w old p.message.body
    (all_stray line event told (is_told line event p p.message.body v) founded))
all_within line event _ _ v w (is_lost p told some may more) founded old =
    all_within line event told some (is_told line event p p.message.body v) w more founded
    (not_told_within line event p v w old p.message.body may
    (all_stray line event told (is_told line event p p.message.body v) founded))
