-- By the part of the messages that arrived, trains may run over no more than by all messages, also if an acceptance is
-- lost.
use Rattle.std.proofs.Common.{◌*◌, ◌∙◌, ◌≡◌, ◌≤◌, ap, arith, Bool, false, inl, inr, int_lt, None, Option, pos, refl}
use Rattle.std.proofs.Common.{Some, subst, sym, true, ℕ}
use Rattle.std.proofs.lemmas.Bool.{both_ways}
use Rattle.std.proofs.lemmas.Bool.Decides.{eqb_tells}
use Rattle.std.proofs.lemmas.Option.{none-some}
use Rattle.law_base.proofs.PiecesLemmas.Waits.{elsewhere, put_at, PutAt, there}
use Rattle.law_outside.specs.Outside.{is_in, Shortening, starts, Stretch, View}
use Rattle.law_promises.proofs.ArrivalLemmas.Arrives.{Lies}
use Rattle.law_promises.proofs.ArrivalLemmas.ArrivesTold.{runs_both}
use Rattle.law_promises.proofs.Spans.{Ends, in_from, in_parts, lt_up, no_later}
use Rattle.law_promises.specs.Arrival.Received.{Known}
use Rattle.rbc_spec.proofs.Places.{ends_rise}
use Rattle.rbc_spec.specs.Line.{end, Line}
use Rattle.rbc_spec.specs.Maps.{put_pair}
use Rattle.rbc_spec.specs.Sections.{is_on}

-- ## The stretch by which a train runs

-- the stretch has run out, and covers no section
pub record IsOut (line : Line) (y : Stretch) : Type 0 where
  pub run_out : int_lt y.rear (pos (10 * y.end)) ≡ false
  pub none : (s : ℕ) → is_in line s y ≡ true → ⊥

-- a request that has arrived at the train is pending in both views
abbrev pub SameAsked : (ℕ → ℕ → Bool) → Stretch → Stretch → Type 0
SameAsked requested y x = (a : Shortening) → x.asked ≡ Some a → requested a.centre a.stamp ≡ true → y.asked ≡ Some a

-- the stretch by which a train runs is within the one by all messages, or is empty
pub data Fit (line : Line) (o : Option Stretch) (misses : Bool) (requested : ℕ → ℕ → Bool) (y : Stretch) : Type 0 where
  is_part : (x : Stretch) → o ≡ Some x → Lies y x → SameAsked requested y x → Fit line o misses requested y
  is_nothing : misses ≡ true → IsOut line y → Fit line o misses requested y

pub record Rel (line : Line) (v w : View) (k : Known) (count : ℕ → ℕ → ℕ) : Type 0 where
  pub stretch : (t : ℕ) (y : Stretch) → w.stretch t ≡ Some y → Fit line (v.stretch t) (k.misses t) (k.requested t) y
  pub start : (t c : ℕ) (f : Stretch) → v.start t c ≡ Some f → w.start t c ≡ Some f
  pub plain : (t c : ℕ) (f : Stretch) → v.start t c ≡ Some f → f.asked ≡ None
  pub released : (s : ℕ) → w.released s ≡ v.released s
  pub said : (t c n : ℕ) → k.requested t c n ≡ true → n ≤ count t c

pub fit_as : (line : Line) (o p : Option Stretch) (a b : Bool) (f g : ℕ → ℕ → Bool) (y : Stretch) → p ≡ o → b ≡ a
    → ((c n : ℕ) → g c n ≡ f c n) → Fit line o a f y → Fit line p b g y
fit_as line o p a b f g y same misses requested (is_part x at lies asked) =
    is_part x (same ∙ at) lies (λ s is came. asked s is (sym (requested s.centre s.stamp) ∙ came))
fit_as line o p a b f g y same misses requested (is_nothing missed out) = is_nothing (misses ∙ missed) out

-- a stretch within another covers no more sections
pub covers_less : (line : Line) (y x : Stretch) → Lies y x → (s : ℕ) → is_in line s y ≡ true → is_in line s x ≡ true
covers_less line y x lies s is =
    let p = in_parts line y s is in
    let before = p.before in
    let le = lies.end in
    in_from line x s
    (record {
      on = subst (λ (k : ℕ). is_on line k s ≡ true) lies.track p.on;
      before = omega (arith, before, le);
      past = lies.past (10 * end line s) p.past;
    })

pub not_true : (b : Bool) → (b ≡ true → ⊥) → b ≡ false
not_true true wrong = absurd (wrong refl)
not_true false wrong = refl

pub out_less : (line : Line) (y x : Stretch) → Lies y x → IsOut line x → IsOut line y
out_less line y x lies out = record {
  run_out = not_true (int_lt y.rear (pos (10 * y.end)))
      (λ runs. both_ways (int_lt x.rear (pos (10 * x.end))) out.run_out (runs_both y x lies runs));
  none = λ s is. out.none s (covers_less line y x lies s is);
}

-- a stretch that ends with a section covers none if it has run out
pub ends_out : (line : Line) (x : Stretch) → Ends line x → int_lt x.rear (pos (10 * x.end)) ≡ false → IsOut line x
ends_out line x ends over = record {
  run_out = over;
  none = λ s is.
      let p = in_parts line x s is in
      let le = no_later line x.track s ends.last p.on ends.on (let before = p.before in let same = ends.is in
      omega (arith, before, same)) in
      let up = ends_rise line x.track s ends.last p.on ends.on le in
      both_ways (int_lt x.rear (pos (10 * x.end))) over
      (lt_up x.rear (10 * end line s) (10 * x.end) (let same = ends.is in omega (arith, up, same)) p.past);
}

-- ## One train changes

module _ (line : Line) (v w : View) (k : Known) (said : ℕ → ℕ → ℕ) (old : Rel line v w k said) where
  -- the change is of train t
  pub rel_changed : (t : ℕ) (y z : View) (j : Known) (count : ℕ → ℕ → ℕ)
      → ((u : ℕ) → (u ≡ t → ⊥) → y.stretch u ≡ v.stretch u) → ((u : ℕ) → (u ≡ t → ⊥) → z.stretch u ≡ w.stretch u)
      → ((u : ℕ) → (u ≡ t → ⊥) → j.misses u ≡ k.misses u)
      → ((u : ℕ) → (u ≡ t → ⊥) → (c n : ℕ) → j.requested u c n ≡ k.requested u c n)
      → ((q : Stretch) → z.stretch t ≡ Some q → Fit line (y.stretch t) (j.misses t) (j.requested t) q)
      → ((u c : ℕ) (f : Stretch) → y.start u c ≡ Some f → (z.start u c ≡ Some f) × (f.asked ≡ None))
      → ((s : ℕ) → z.released s ≡ y.released s) → ((u c n : ℕ) → j.requested u c n ≡ true → n ≤ count u c)
      → Rel line y z j count
  rel_changed t y z j count stretches others misses requested here begins released counted = record {
    stretch = λ u q is. elim (eqb_tells u t) [
      | inl h ↦ subst (λ (n : ℕ). Fit line (y.stretch n) (j.misses n) (j.requested n) q) (sym (h.1))
          (here q (sym (ap z.stretch (h.1)) ∙ is))
      | inr h ↦ fit_as line (v.stretch u) (y.stretch u) (k.misses u) (j.misses u) (k.requested u) (j.requested u) q
          (stretches u (h.1)) (misses u (h.1)) (requested u (h.1)) (old.stretch u q (sym (others u (h.1)) ∙ is))
    ];
    start = λ u c f is. (begins u c f is).0;
    plain = λ u c f is. (begins u c f is).1;
    released = released;
    said = counted;
  }

  pub begins_on : (u c : ℕ) (f : Stretch) → v.start u c ≡ Some f → (w.start u c ≡ Some f) × (f.asked ≡ None)
  begins_on u c f is = (old.start u c f is, old.plain u c f is)

  -- a start is seen by both
  pub begins_both : (t c : ℕ) (o : Option Stretch) → ((f : Stretch) → o ≡ Some f → f.asked ≡ None)
      → (u d : ℕ) (f : Stretch) → put_pair v.start t c o u d ≡ Some f
      → (put_pair w.start t c o u d ≡ Some f) × (f.asked ≡ None)
  begins_both t c o plain u d f is = by_pair (put_at v.start t c o u d) (put_at w.start t c o u d)
    where
      by_pair : PutAt v.start t c o u d → PutAt w.start t c o u d
          → (put_pair w.start t c o u d ≡ Some f) × (f.asked ≡ None)
      by_pair (there a b one) (there a2 b2 two) = (two ∙ sym one ∙ is, plain f (sym one ∙ is))
      by_pair (there a b one) (elsewhere apart two) = absurd (apart a b)
      by_pair (elsewhere apart one) (there a b two) = absurd (apart a b)
      by_pair (elsewhere apart one) (elsewhere apart2 two) = let h = begins_on u d f (sym one ∙ is) in (two ∙ h.0, h.1)

  -- its end does not reach the train
  pub begins_but : (t c u d : ℕ) (f : Stretch) → put_pair v.start t c None u d ≡ Some f
      → (w.start u d ≡ Some f) × (f.asked ≡ None)
  begins_but t c u d f is = by_pair (put_at v.start t c None u d)
    where
      by_pair : PutAt v.start t c None u d → (w.start u d ≡ Some f) × (f.asked ≡ None)
      by_pair (there a b one) = absurd (none-some f (sym one ∙ is))
      by_pair (elsewhere apart one) = begins_on u d f (sym one ∙ is)

  pub rel_starts : (t c : ℕ) (o : Option Stretch) → ((f : Stretch) → o ≡ Some f → f.asked ≡ None)
      → Rel line (starts t c o v) (starts t c o w) k said
  rel_starts t c o plain =
      record {
        stretch = old.stretch;
        start = λ u d f is. (begins_both t c o plain u d f is).0;
        plain = λ u d f is. (begins_both t c o plain u d f is).1;
        released = old.released;
        said = old.said;
      }

  pub none_plain : (f : Stretch) → ◌≡◌ {A = Option Stretch} None (Some f) → f.asked ≡ None
  none_plain f is = absurd (none-some f is)

  pub rel_ended : (t c : ℕ) → Rel line (starts t c None v) w k said
  rel_ended t c =
      record {
        stretch = old.stretch;
        start = λ u d f is. (begins_but t c u d f is).0;
        plain = λ u d f is. (begins_but t c u d f is).1;
        released = old.released;
        said = old.said;
      }
