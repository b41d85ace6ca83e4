use Rattle.std.proofs.Common.{ℤ, ◌&&◌, ◌*◌, ◌+◌, ◌-◌, ◌==◌, ◌||◌, ◌∙◌, ◌≡◌, ◌≤◌, ◌⊎◌, ap, arith, Bool, false}
use Rattle.std.proofs.Common.{if◌then◌else◌, inl, inr, int_le, int_lt, max, nat_lt, None, not, Option, option_map, pos}
use Rattle.std.proofs.Common.{refl, Some, subst, sym, true, ℕ}
use Rattle.std.proofs.lemmas.Bool.{and_from, and_parts, both_ways, le-ltb, ltb-false, not-true, or_cases, or_left}
use Rattle.std.proofs.lemmas.Option.{same_Some}
use Rattle.std.specs.Option.{option_map_or}
use Rattle.law_base.proofs.LocalLemmas.Homes.{fit_covers, IsFit}
use Rattle.law_outside.specs.Outside.{accepted, cleared, Shortening, Stretch, up_to}
use Rattle.law_promises.proofs.Marks.{by, if_false, if_true, IsReported, IsSince, Left, no_later, none_left}
use Rattle.law_promises.proofs.Marks.{not_under_way, some_left, Talk, talk_as, Tied, under_way, Way}
use Rattle.law_promises.proofs.Spans.{cut_back, in_from, lengthened, not_in_rear, rear_other, rear_up, some_metres}
use Rattle.law_promises.proofs.Spans.{Spans, trimmed}
use Rattle.law_promises.proofs.SpansOfStarts.{begun_spans, cleared_less, first_stretch, goes_on_spans, IsLess}
use Rattle.law_promises.proofs.SpansOfStarts.{spans_less}
use Rattle.rbc_spec.proofs.Lists.{itself, one_track}
use Rattle.rbc_spec.proofs.Places.{covers_convex, covers_parts, covers_run, ends_rise}
use Rattle.rbc_spec.specs.Centre.{Proposal}
use Rattle.rbc_spec.specs.Line.{end, IsLine, Line}
use Rattle.rbc_spec.specs.LineCentre.{At, LineMission, Parted, Supervisor}
use Rattle.rbc_spec.specs.Maps.{has}
use Rattle.rbc_spec.specs.Place.{covered, covers, is_cleared, Place}
use Rattle.rbc_spec.specs.SectionRuns.{next_after, SectionRun, within}
use Rattle.rbc_spec.specs.Sections.{is_on}

module _ (line : Line) where
  -- a change outside the place
  pub remade : (g : ℕ → Bool) (m n : LineMission) (x : Stretch) (a b : ℕ → Option ℕ) → n.place ≡ m.place
      → Talk line n x b → Way line g m x a → Way line g n x b
  remade g m n x a b place talk w = record {
    spans = w.spans;
    track = w.track ∙ ap (λ (p : Place). p.track) (sym place);
    one = w.one;
    given = w.given;
    ahead = subst (IsReported line) (sym place) w.ahead;
    talk = talk;
  }

  -- a request is pending, and no hand has changed
  pub asked_way : (g : ℕ → Bool) (m n : LineMission) (x : Stretch) (heard : ℕ → Option ℕ) (asked : Option Shortening)
      → n.place ≡ m.place → Talk line n (record x { asked = asked }) heard → Way line g m x heard
      → Way line g n (record x { asked = asked }) heard
  asked_way g m n x heard asked place talk w = record {
    spans = record {
      ends = record { last = w.spans.ends.last; on = w.spans.ends.on; is = w.spans.ends.is };
      over = w.spans.over;
      on = w.spans.on;
      between = w.spans.between;
      in_rear = w.spans.in_rear;
    };
    track = w.track ∙ ap (λ (p : Place). p.track) (sym place);
    one = w.one;
    given = w.given;
    ahead = subst (IsReported line) (sym place) w.ahead;
    talk = talk;
  }

  -- the stretch is less, and no hand has changed
  pub way_less : (g : ℕ → Bool) (m : LineMission) (x y : Stretch) (heard : ℕ → Option ℕ) → IsLess line x y
      → Way line g m x heard → Way line g m y heard
  way_less g m x y heard less w = record {
    spans = spans_less line g x y less w.spans;
    track = less.track ∙ w.track;
    one = w.one;
    given = w.given;
    ahead = w.ahead;
    talk = talk_as line m m x y heard heard refl refl (λ p stands. stands) less.asked
        less.since (no_later heard) w.talk;
  }

  pub tied_less : (g : ℕ → Bool) (m : Option LineMission) (o : Option Stretch) (heard : ℕ → Option ℕ) (f : Stretch
      → Stretch) → ((x : Stretch) → o ≡ Some x → IsLess line x (f x)) → Tied line g m o heard
      → Tied line g m (option_map f o) heard
  tied_less g m o heard f less h = record {
    spans = λ y is. by_stretch o h.spans less y is;
    gone = h.gone;
    way = λ n is. let w = h.way n is in
        (f w.0, ap (option_map f) w.1, way_less g n w.0 (f w.0) heard (less w.0 w.1) w.2);
  }
    where
      by_stretch : (o : Option Stretch) → ((x : Stretch) → o ≡ Some x → Spans line g x)
          → ((x : Stretch) → o ≡ Some x → IsLess line x (f x)) → (y : Stretch)
          → option_map f o ≡ Some y → Spans line g y
      by_stretch None spans less y is = cc
      by_stretch (Some x) spans less y is =
          subst (Spans line g) (same_Some (f x) y is) (spans_less line g x (f x) (less x refl) (spans x refl))

  -- ## A start

  module _ (ok : IsLine line) (place : Place) (fit : IsFit line place) (ahead : IsReported line place) (since : ℕ) where
    abbrev first : Stretch
    first = first_stretch line ok place fit since

    abbrev first_one : ℕ
    first_one = (fit_covers line place fit).0

    first_so : covers line place first_one ≡ true
    first_so = (fit_covers line place fit).1

    on_track : (s : ℕ) → covers line place s ≡ true → is_on line place.track s ≡ true
    on_track s is = (covers_parts line place s is).on

    -- the stretch that a train has not run to the end of has a section
    has_last : (g : ℕ → Bool) (x : Stretch) (spans : Spans line g x) → int_lt x.rear (pos (10 * x.end)) ≡ true
        → g spans.ends.last ≡ true
    has_last g x spans past =
        let last : ℕ = spans.ends.last in
        spans.over last (in_from line x last (record {
          on = spans.ends.on;
          before = (let is = spans.ends.is in omega (arith, is, some_metres line ok x.track last spans.ends.on));
          past = subst (λ (n : ℕ). int_lt x.rear (pos (10 * n)) ≡ true) spans.ends.is past;
        }))

    -- after a start no request is pending, and the centre has recorded the train's stamp
    starts_talk : (m : LineMission) (y : Stretch) (b : ℕ → Option ℕ) (c : ℕ) → m.supervisor ≡ At c → m.proposal ≡ None
        → IsSince y.since (b c) → Talk line m y b
    starts_talk m y b c at none heard = record {
      asks = λ d p there stands. let wrong : None ≡ Some p = sym none ∙ stands in cc;
      since = λ d there. let same : c ≡ d = at_is c d (sym at ∙ there) in
          subst (λ (e : ℕ). IsSince y.since (b e)) same heard;
      parted = λ stamp there. let wrong : At c ≡ Parted stamp = sym at ∙ there in cc;
    }
      where
        at_is : (a b : ℕ) → ◌≡◌ {A = Supervisor} (At a) (At b) → a ≡ b
        at_is a b same = cc

    -- a train that has no mission begins one
    pub accepted_begins : (g : ℕ → Bool) (o : Option Stretch) (a : ℕ → Option ℕ) → Tied line g None o a
        → accepted o first ≡ Some first
    accepted_begins g o a h = by_stretch o h.spans
      where
        by_stretch : (o : Option Stretch) → ((x : Stretch) → o ≡ Some x → Spans line g x)
            → accepted o first ≡ Some first
        by_stretch None spans = refl
        by_stretch (Some x) spans = if_false (int_lt x.rear (pos (10 * x.end))) _ (Some first)
            (by (int_lt x.rear (pos (10 * x.end)))
            (λ past. absurd (both_ways (g _) (h.gone refl _) (has_last g x (spans x refl) past))) (λ fails. fails))

    pub way_begins : (g k : ℕ → Bool) (m : LineMission) (b : ℕ → Option ℕ) (c : ℕ) → m.place ≡ place → m.proposal ≡ None
        → m.supervisor ≡ At c → IsSince since (b c)
        → ((s : ℕ) → k s ≡ (within (covered line place) s || g s)) → ((s : ℕ) → g s ≡ false) → Way line k m first b
    way_begins g k m b c at none there heard is gone = record {
      spans = begun_spans line ok place fit k since all (λ s so. on_track s (only s so))
          (λ s m e from to one two. all m (covers_convex line ok place s m e from to (only s one) (only e two)));
      track = ap (λ (p : Place). p.track) (sym at);
      one = first_one;
      given = all first_one first_so;
      ahead = subst (IsReported line) (sym at) ahead;
      talk = starts_talk m first b c there none heard;
    }
      where
        all : (s : ℕ) → covers line place s ≡ true → k s ≡ true
        all s so = is s ∙ or_left (within (covered line place) s) (g s) (covers_run line place s ok ∙ so)

        only : (s : ℕ) → k s ≡ true → covers line place s ≡ true
        only s so = elim (or_cases (within (covered line place) s) (g s) (sym (is s) ∙ so)) [
          | inl there ↦ sym (covers_run line place s ok) ∙ there
          | inr old ↦ absurd (both_ways (g s) (gone s) old)
        ]

    -- a train starts again within its hand
    pub way_restarts : (g : ℕ → Bool) (m n : LineMission) (x : Stretch) (a b : ℕ → Option ℕ) (c : ℕ) → n.place ≡ place
        → n.proposal ≡ None → n.supervisor ≡ At c → IsSince since (b c) → IsSince x.since (b c)
        → ((s : ℕ) → within (covered line place) s ≡ true → g s ≡ true) → Way line g m x a → (y : Stretch)
        × (accepted (Some x) first ≡ Some y) × Way line g n y b
    way_restarts g m n x a b c at none there heard before all w = by_past (int_lt x.rear (pos (10 * x.end))) refl
      where
        all_covered : (s : ℕ) → covers line place s ≡ true → g s ≡ true
        all_covered s so = all s (covers_run line place s ok ∙ so)

        same : x.track ≡ place.track
        same = one_track line first_one x.track place.track (w.spans.on first_one (all_covered first_one first_so))
            (on_track first_one first_so)

        goes_on : (y : Stretch) → Spans line g y → y.track ≡ place.track → IsSince y.since (b c) → Way line g n y b
        goes_on y spans track now = record {
          spans = spans;
          track = track ∙ ap (λ (p : Place). p.track) (sym at);
          one = first_one;
          given = all_covered first_one first_so;
          ahead = subst (IsReported line) (sym at) ahead;
          talk = starts_talk n y b c there none now;
        }

        either : (b' : Bool) (n : ℕ) → int_lt (if b' then x.rear else first.rear) (pos n) ≡ true
            → ((int_lt x.rear (pos n) ≡ true) ⊎ (int_lt (pos fit.rear) (pos n) ≡ true))
        either true n past = inl past
        either false n past = inr past

        later : IsSince (max x.since since) (b c)
        later = record {
          last = heard.last;
          is = heard.is;
          le = (let one = heard.le in let two = before.le in
              let same : before.last ≡ heard.last = same_Some before.last heard.last (sym before.is ∙ heard.is) in
              omega (arith, one, two, same));
        }

        hull : Stretch
        hull = record first {
          rear = if int_lt x.rear first.rear then x.rear else first.rear;
          end = max x.end first.end;
          since = max x.since since;
        }

        by_past : (b' : Bool) → int_lt x.rear (pos (10 * x.end)) ≡ b'
            → (y : Stretch) × ((if b' then (if x.track == first.track then Some hull else None) else Some first)
            ≡ Some y) × Way line g n y b
        by_past true past = (
          hull,
          if_true (x.track == first.track) (Some hull) None
              ((subst (λ (k : ℕ). (x.track == k) ≡ true) same (itself x.track))),
          goes_on hull (goes_on_spans line ok place fit g x w.spans (max x.since since)
              (if int_lt x.rear first.rear then x.rear else first.rear) (has_last g x w.spans past) same all_covered
              (either (int_lt x.rear first.rear))) refl later,
        )
        by_past false past = (
          first,
          refl,
          goes_on first (begun_spans line ok place fit g since all_covered
              (λ s so. subst (λ (track : ℕ). is_on line track s ≡ true) same (w.spans.on s so))
              w.spans.between) refl heard,
        )

  -- ## A request

  pub way_extends : (g k : ℕ → Bool) (m n : LineMission) (x : Stretch) (a : ℕ → Option ℕ) (hand : SectionRun)
      (count since c : ℕ) → n.place.track ≡ m.place.track → IsReported line n.place
      → n.proposal ≡ None → n.supervisor ≡ At c → IsSince since (a c)
      → ((s : ℕ) → g s ≡ within hand s)
      → ((s : ℕ) → k s ≡ within (record { first = hand.first; count = hand.count + count }) s)
      → ((s : ℕ) → within (record { first = next_after hand; count = count }) s ≡ true
      → is_on line m.place.track s ≡ true)
      → ((s : ℕ) → g s ≡ true → k s ≡ true)
      → Way line g m x a
      → Way line k n
      (record x { end = max x.end (end line (next_after hand + count - 1)); since = since; asked = None }) a
  way_extends g k m n x a hand count since c track ahead none there heard is_hand is_longer on_more more w = record {
    spans = lengthened line g x w.spans k hand count since is_hand is_longer w.one w.given
        (λ s so. subst (λ (t : ℕ). is_on line t s ≡ true) (sym w.track) (on_more s so));
    track = w.track ∙ sym track;
    one = w.one;
    given = more w.one w.given;
    ahead = ahead;
    talk = record {
      asks = λ d p at stands. let wrong : None ≡ Some p = sym none ∙ stands in cc;
      since = λ d at. subst (λ (e : ℕ). IsSince since (a e)) (at_is c d (sym there ∙ at)) heard;
      parted = λ stamp at. let wrong : At c ≡ Parted stamp = sym there ∙ at in cc;
    };
  }
    where
      at_is : (a b : ℕ) → ◌≡◌ {A = Supervisor} (At a) (At b) → a ≡ b
      at_is a b same = cc

  -- ## Reports

  -- the sections that a report clears are in rear of the rear end
  reports_clear : (x : Stretch) (place : Place) (s : ℕ) → is_cleared line place s ≡ true
      → int_lt (cleared place x).rear (pos (10 * end line s)) ≡ true → ⊥
  reports_clear x place s so past = by_rear place.rear so past
    where
      by_later : (rear : ℤ) (b : Bool) → int_lt x.rear rear ≡ b → int_le (pos (10 * end line s)) rear ≡ true
          → int_lt (if b then record x { rear = rear } else x).rear (pos (10 * end line s)) ≡ true → ⊥
      by_later rear true is so past = not_in_rear rear (10 * end line s) so past
      by_later rear false is so past =
          not_in_rear rear (10 * end line s) so (rear_other x.rear rear (10 * end line s) is past)

      by_rear : (o : Option ℤ) → has (λ rear. int_le (pos (10 * end line s)) rear) o ≡ true
          → int_lt (option_map_or (λ rear. if int_lt x.rear rear then record x { rear = rear } else x) o x).rear
          (pos (10 * end line s)) ≡ true → ⊥
      by_rear None so past = cc
      by_rear (Some rear) so past = by_later rear (int_lt x.rear rear) refl so past

  cleared_up : (place : Place) (s m : ℕ) → end line s ≤ end line m → is_cleared line place m ≡ true
      → is_cleared line place s ≡ true
  cleared_up place s m le = by_rear place.rear
    where
      by_rear : (o : Option ℤ) → has (λ rear. int_le (pos (10 * end line m)) rear) o ≡ true
          → has (λ rear. int_le (pos (10 * end line s)) rear) o ≡ true
      by_rear None so = cc
      by_rear (Some rear) so = rear_up rear (10 * end line s) (10 * end line m) (omega (arith, le)) so

  cleared_end : (place : Place) (x : Stretch) → (cleared place x).end ≡ x.end
  cleared_end place x = by_rear place.rear
    where
      by_later : (rear : ℤ) (b : Bool) → (if b then record x { rear = rear } else x).end ≡ x.end
      by_later rear true = refl
      by_later rear false = refl

      by_rear : (o : Option ℤ)
          → (option_map_or (λ rear. if int_lt x.rear rear then record x { rear = rear } else x) o x).end ≡ x.end
      by_rear None = refl
      by_rear (Some rear) = by_later rear (int_lt x.rear rear)

  pub way_reports : (place : Place) (g k : ℕ → Bool) (m n : LineMission) (left : Option LineMission)
      (x : Stretch) (a : ℕ → Option ℕ)
      → n.place ≡ place → place.track ≡ m.place.track → IsReported line place → n.supervisor ≡ m.supervisor
      → ((p : Proposal) → n.proposal ≡ Some p → m.proposal ≡ Some p)
      → ((s : ℕ) → k s ≡ (g s && not (is_cleared line place s))) → Left k n left → Way line g m x a
      → Tied line k left (Some (cleared place x)) a
  way_reports place g k m n left x a at track ahead supervisor proposals is remains w = by_left left remains
    where
      parts : (s : ℕ) → k s ≡ true → (g s ≡ true) × (not (is_cleared line place s) ≡ true)
      parts s so = and_parts (g s) (not (is_cleared line place s)) (sym (is s) ∙ so)

      not_cleared : (b : Bool) → (b ≡ true → ⊥) → not b ≡ true
      not_cleared true never = absurd (never refl)
      not_cleared false never = refl

      less : IsLess line x (cleared place x)
      less = cleared_less line place x

      spans_on : Spans line k (cleared place x)
      spans_on =
          trimmed line g x w.spans k (cleared place x) less.track (cleared_end place x)
          less.past (λ s so. (parts s so).0)
          (λ s so past. is s ∙ and_from (g s) (not (is_cleared line place s)) so
          (not_cleared (is_cleared line place s) (λ gone. reports_clear x place s gone past)))
          (λ s e le one two. is e ∙ and_from (g e) (not (is_cleared line place e)) two
          (not_cleared (is_cleared line place e)
          (λ gone. both_ways (is_cleared line place s) (not-true (is_cleared line place s) (parts s one).1)
          (cleared_up place s e (ends_rise line x.track s e (w.spans.on s (parts s one).0) (w.spans.on e two) le)
          gone))))

      track_is : n.place.track ≡ m.place.track
      track_is = ap (λ (p : Place). p.track) at ∙ track

      by_left : (left : Option LineMission) → Left k n left → Tied line k left (Some (cleared place x)) a
      by_left _ (none_left none) =
          not_under_way line k _ a (λ y is. subst (Spans line k) (same_Some (cleared place x) y is) spans_on) none
      by_left _ (some_left one given) = under_way line k n (cleared place x) a (record {
        spans = spans_on;
        track = less.track ∙ w.track ∙ sym track_is;
        one = one;
        given = given;
        ahead = subst (IsReported line) (sym at) ahead;
        talk = talk_as line m n x (cleared place x) a a track_is supervisor proposals less.asked
            less.since (no_later a) w.talk;
      })

  -- ## A shortening

  pub way_shortens : (last : ℕ) (g k : ℕ → Bool) (m n : LineMission) (left : Option LineMission)
      (x : Stretch) (a : ℕ → Option ℕ)
      → n.place ≡ m.place → n.supervisor ≡ m.supervisor → n.proposal ≡ None → is_on line m.place.track last ≡ true
      → ((s : ℕ) → k s ≡ (g s && not (g s && nat_lt last s))) → Left k n left → Way line g m x a
      → Tied line k left (Some (up_to x (end line last))) a
  way_shortens last g k m n left x a at supervisor none on_last is remains w = by_left left remains
    where
      kept : (b c : Bool) → (b && not (b && c)) ≡ true → (b ≡ true) × (c ≡ false)
      kept true true is = cc
      kept true false is = (refl, refl)
      kept false c is = cc

      keeps : (b c : Bool) → b ≡ true → c ≡ false → (b && not (b && c)) ≡ true
      keeps true true one two = cc
      keeps true false one two = refl
      keeps false c one two = cc

      new : Stretch
      new = up_to x (end line last)

      spans_on : Spans line k new
      spans_on = cut_back line g x w.spans k last (subst (λ (t : ℕ). is_on line t last ≡ true) (sym w.track) on_last)
          (λ s so. let h = kept (g s) (nat_lt last s) (sym (is s) ∙ so) in (h.0, ltb-false last s h.1))
          (λ s so le. is s ∙ keeps (g s) (nat_lt last s) so (le-ltb last s le))

      by_left : (left : Option LineMission) → Left k n left → Tied line k left (Some new) a
      by_left _ (none_left nothing) =
          not_under_way line k _ a (λ z is. subst (Spans line k) (same_Some new z is) spans_on) nothing
      by_left _ (some_left one given) = under_way line k n new a (record {
        spans = spans_on;
        track = w.track ∙ ap (λ (p : Place). p.track) (sym at);
        one = one;
        given = given;
        ahead = subst (IsReported line) (sym at) w.ahead;
        talk = talk_as line m n x new a a (ap (λ (p : Place). p.track) at) supervisor
            (λ p stands. let wrong : None ≡ Some p = sym none ∙ stands in cc) refl refl (no_later a) w.talk;
      })
