-- The part that a message takes back if its place is on the train's track, and an end of mission at standstill.
use Rattle.std.proofs.Common.{◌&&◌, ◌*◌, ◌<◌, ◌==◌, ◌∙◌, ◌≡◌, ◌≤◌, ap, arith, Bool, eqb-true, false, if◌then◌else◌, inl}
use Rattle.std.proofs.Common.{inr, le-leb, leb-true, lt-ltb, ltb-true, nat_le, nat_lt, None, not, Option, refl, Some}
use Rattle.std.proofs.Common.{subst, suc, sym, true, zero, ℕ}
use Rattle.std.proofs.lemmas.Bool.{and_from, and_parts, both_ways, cases_lt}
use Rattle.std.proofs.lemmas.Option.{none-some, same_Some}
use Rattle.std.specs.Option.{option_map_or}
use Rattle.law_outside.specs.Outside.{after_message, cleared, front_end, Stretch, up_to}
use Rattle.law_promises.proofs.Marks.{by, if_true, talk_as, Way}
use Rattle.law_promises.proofs.Spans.{in_parts, no_later, Spans}
use Rattle.law_promises.proofs.SpansOfStarts.{cleared_less, IsLess, less_itself, less_then, up_to_less}
use Rattle.rbc_spec.proofs.Lists.{itself, on_line}
use Rattle.rbc_spec.proofs.Places.{starts_rise}
use Rattle.rbc_spec.specs.Line.{end, Line, start}
use Rattle.rbc_spec.specs.LineCentre.{LineMission}
use Rattle.rbc_spec.specs.Message.{EndOfMission, Report}
use Rattle.rbc_spec.specs.Place.{extent, Place, Position}
use Rattle.rbc_spec.specs.Sections.{is_on, section_count}

module _ (line : Line) where
  -- ## If a message's place is on the track

  pub by_place : (P : Stretch → Type 0) (n : ℕ) (position : Position) (f : Place → Stretch) (x : Stretch) → P x
      → ((place : Place) → extent line position ≡ Some place → place.track ≡ x.track → P (f place))
      → P (option_map_or (λ place. if (place.track == x.track) && nat_lt x.since n then f place else x)
      (extent line position) x)
  by_place P n position f x same less = by_extent (extent line position) refl
    where
      by_test : (place : Place) → extent line position ≡ Some place → (b : Bool)
          → ((place.track == x.track) && nat_lt x.since n) ≡ b → P (if b then f place else x)
      by_test place is false so = same
      by_test place is true so =
          less place is (eqb-true place.track x.track (and_parts (place.track == x.track) (nat_lt x.since n) so).0)

      by_extent : (o : Option Place) → extent line position ≡ o
          → P (option_map_or (λ place. if (place.track == x.track) && nat_lt x.since n then f place else x) o x)
      by_extent None is = same
      by_extent (Some place) is = by_test place is ((place.track == x.track) && nat_lt x.since n) refl

  pub at_place : (n : ℕ) (position : Position) (f : Place → Stretch) (x : Stretch) (place : Place)
      → extent line position ≡ Some place → place.track ≡ x.track → x.since < n
      → option_map_or (λ place. if (place.track == x.track) && nat_lt x.since n then f place else x)
      (extent line position) x ≡ f place
  at_place n position f x place is same early =
      ap (λ (o : Option Place). option_map_or (λ place. if (place.track == x.track)
      && nat_lt x.since n then f place else x) o x) is
      ∙ if_true ((place.track == x.track) && nat_lt x.since n) (f place) x
      (and_from (place.track == x.track) (nat_lt x.since n)
      (subst (λ (k : ℕ). (place.track == k) ≡ true) same (itself place.track)) (lt-ltb x.since n early))

  -- ## The last section that begins before the front

  pub record IsFront (place : Place) (n e : ℕ) : Type 0 where
    pub last : ℕ
    pub is : e ≡ end line last
    pub on : is_on line place.track last ≡ true
    pub early : 10 * start line last < place.front
    pub later : (s : ℕ) → s < n → is_on line place.track s ≡ true → 10 * start line s < place.front → s ≤ last

  pub front_at : (place : Place) (n e : ℕ) → front_end line place n ≡ Some e → IsFront place n e
  unfolding front_end
  front_at place zero e is = absurd (none-some e is)
  front_at place (suc n) e is = by_test (is_on line place.track n && nat_lt (10 * start line n) place.front) refl is
      (λ so. front_at place n e so)
    where
      by_test : (b : Bool) → (is_on line place.track n && nat_lt (10 * start line n) place.front) ≡ b
          → (if b then Some (end line n) else front_end line place n) ≡ Some e
          → (front_end line place n ≡ Some e → IsFront place n e) → IsFront place (suc n) e
      by_test true so is others =
          let h = and_parts (is_on line place.track n) (nat_lt (10 * start line n) place.front) so in
          record {
            last = n;
            is = sym (same_Some (end line n) e is);
            on = h.0;
            early = ltb-true (10 * start line n) place.front h.1;
            later = λ s low on early. omega (arith, low);
          }
      by_test false fails is others =
          let h = others is in
          record {
            last = h.last;
            is = h.is;
            on = h.on;
            early = h.early;
            later = λ s low on early. elim (cases_lt s n) [
              | inl less ↦ h.later s less on early
              | inr past ↦
                  let same : s ≡ n = omega (arith, past, low) in
                  absurd (both_ways (is_on line place.track n && nat_lt (10 * start line n) place.front) fails
                  (subst (λ (k : ℕ). (is_on line place.track k && nat_lt (10 * start line k) place.front) ≡ true) same
                  (and_from (is_on line place.track s) (nat_lt (10 * start line s) place.front) on
                  (lt-ltb (10 * start line s) place.front early))))
            ];
          }

  pub has_front : (place : Place) (n s : ℕ) → s < n → is_on line place.track s ≡ true → 10 * start line s < place.front
      → (e : ℕ) × (front_end line place n ≡ Some e)
  unfolding front_end
  has_front place zero s low on early = absurd (let no : ⊥ = omega (arith, low) in no)
  has_front place (suc n) s low on early = by_test (is_on line place.track n && nat_lt (10 * start line n) place.front)
      refl (λ less. has_front place n s less on early)
    where
      by_test : (b : Bool) → (is_on line place.track n && nat_lt (10 * start line n) place.front) ≡ b
          → (s < n → (e : ℕ) × (front_end line place n ≡ Some e)) → (e : ℕ)
          × ((if b then Some (end line n) else front_end line place n) ≡ Some e)
      by_test true so others = (end line n, refl)
      by_test false fails others = elim (cases_lt s n) [
        | inl less ↦ others less
        | inr past ↦
            let same : s ≡ n = omega (arith, past, low) in
            absurd (both_ways (is_on line place.track n && nat_lt (10 * start line n) place.front) fails
            (subst (λ (k : ℕ). (is_on line place.track k && nat_lt (10 * start line k) place.front) ≡ true) same
            (and_from (is_on line place.track s) (nat_lt (10 * start line s) place.front) on
            (lt-ltb (10 * start line s) place.front early))))
      ]

  -- ## The part that is taken back without a change of a hand

  abbrev pub stands : Position → Place → Stretch → Stretch
  stands position place y = if position.v_train == 0 then option_map_or (up_to y)
      (front_end line place (section_count line)) y else y

  pub stands_less : (position : Position) (place : Place) (y : Stretch) → place.track ≡ y.track
      → IsLess line y (stands position place y)
  stands_less position place y same = by_still (position.v_train == 0)
    where
      by_front : (o : Option ℕ) → front_end line place (section_count line) ≡ o
          → IsLess line y (option_map_or (up_to y) o y)
      by_front None is = less_itself line y
      by_front (Some e) is =
          let f = front_at place (section_count line) e is in
          subst (λ (n : ℕ). IsLess line y (up_to y n)) (sym f.is)
          (up_to_less line y f.last (subst (λ (k : ℕ). is_on line k f.last ≡ true) same f.on))

      by_still : (b : Bool)
          → IsLess line y (if b then option_map_or (up_to y) (front_end line place (section_count line)) y else y)
      by_still true = by_front (front_end line place (section_count line)) refl
      by_still false = less_itself line y

  pub report_less : (c n : ℕ) (position : Position) (x : Stretch)
      → IsLess line x (after_message line c n (Report position) x)
  report_less c n position x = by_place (IsLess line x) n position (λ place. cleared place x) x (less_itself line x)
      (λ place is same. cleared_less line place x)

  pub end_less : (c n : ℕ) (position : Position) (x : Stretch)
      → IsLess line x (after_message line c n (EndOfMission position) x)
  end_less c n position x = by_place (IsLess line x) n position (λ place. stands position place (cleared place x))
      x (less_itself line x)
      (λ place is same. let less = cleared_less line place x in
      less_then line x (cleared place x) (stands position place (cleared place x)) less
      (stands_less position place (cleared place x) (same ∙ sym less.track)))

  -- ## The sections in advance of the front are given no longer

  module _ (position : Position) (place : Place) (g k : ℕ → Bool) (m : LineMission) (x : Stretch) (a : ℕ → Option ℕ)
      (still : position.v_train ≡ 0) (same : place.track ≡ x.track)
      (one : ℕ) (given : g one ≡ true) (early : 10 * start line one < place.front) (is : (s : ℕ)
      → k s ≡ (g s && not (g s && nat_le place.front (10 * start line s)))) (w : Way line g m x a) where
    kept : (b c : Bool) → (b && not (b && c)) ≡ true → (b ≡ true) × (c ≡ false)
    kept true true so = cc
    kept true false so = (refl, refl)
    kept false c so = cc

    keeps : (b c : Bool) → b ≡ true → c ≡ false → (b && not (b && c)) ≡ true
    keeps true true so fails = cc
    keeps true false so fails = refl
    keeps false c so fails = cc

    not_ahead : (s : ℕ) → 10 * start line s < place.front → nat_le place.front (10 * start line s) ≡ false
    not_ahead s less = by (nat_le place.front (10 * start line s))
        (λ so. let le = leb-true place.front (10 * start line s) so in
        absurd (let no : ⊥ = omega (arith, le, less) in no)) (λ fails. fails)

    is_early : (s : ℕ) → nat_le place.front (10 * start line s) ≡ false → 10 * start line s < place.front
    is_early s fails = elim (cases_lt (10 * start line s) place.front) [
      | inl less ↦ less
      | inr le ↦
          absurd (both_ways (nat_le place.front (10 * start line s)) fails (le-leb place.front (10 * start line s) le))
    ]

    parts : (s : ℕ) → k s ≡ true → (g s ≡ true) × (10 * start line s < place.front)
    parts s so = let p = kept (g s) (nat_le place.front (10 * start line s)) (sym (is s) ∙ so) in (p.0, is_early s p.1)

    from : (s : ℕ) → g s ≡ true → 10 * start line s < place.front → k s ≡ true
    from s so less = is s ∙ keeps (g s) (nat_le place.front (10 * start line s)) so (not_ahead s less)

    old : Spans line g x
    old = w.spans

    -- a section that is not later on the track does not start later
    earlier : (s e : ℕ) → is_on line x.track s ≡ true → is_on line x.track e ≡ true → s ≤ e
        → 10 * start line e < place.front → 10 * start line s < place.front
    earlier s e a b le less = let rises = starts_rise line x.track s e a b le in omega (arith, rises, less)

    front : (e : ℕ) × (front_end line place (section_count line) ≡ Some e)
    front = has_front place (section_count line) one (on_line line x.track one (old.on one given))
        (subst (λ (t : ℕ). is_on line t one ≡ true) (sym same) (old.on one given)) early

    front_is : IsFront place (section_count line) front.0
    front_is = front_at place (section_count line) front.0 front.1

    abbrev last : ℕ
    last = front_is.last

    last_on : is_on line x.track last ≡ true
    last_on = subst (λ (t : ℕ). is_on line t last ≡ true) same front_is.on

    abbrev new : Stretch
    new = up_to x (end line last)

    stands_is : stands position place x ≡ new
    stands_is =
        ap (λ (v : ℕ). if v == 0 then option_map_or (up_to x) (front_end line place (section_count line)) x else x)
        still
        ∙ ap (λ (o : Option ℕ). option_map_or (up_to x) o x) front.1
        ∙ ap (up_to x) front_is.is

    less : IsLess line x new
    less = up_to_less line x last last_on

    spans : Spans line k new
    spans = record {
      ends = less.ends old.ends;
      over = λ s in_it. let p = in_parts line new s in_it in let before = p.before in
          from s (old.over s (less.over s in_it))
          (earlier s last p.on last_on (no_later line x.track s last p.on last_on (omega (arith, before)))
          front_is.early);
      on = λ s so. old.on s (parts s so).0;
      between = λ s n e low high b d. let mid = old.between s n e low high (parts s b).0 (parts e d).0 in
          from n mid (earlier n e (old.on n mid) (old.on e (parts e d).0) high (parts e d).1);
      in_rear = λ s e le d there past. from s (old.in_rear s e le (parts e d).0 there past)
          (earlier s e there (old.on e (parts e d).0) le (parts e d).1);
    }

    pub way_stops : Way line k m (stands position place x) a
    way_stops = subst (λ (y : Stretch). Way line k m y a) (sym stands_is) (record {
      spans = spans;
      track = w.track;
      one = one;
      given = from one given early;
      ahead = w.ahead;
      talk = talk_as line m m x new a a refl refl (λ p stands. stands) refl refl (λ c n h. h) w.talk;
    })
