-- A train that is within its stretch is on no other section. It stays within it as it runs by the rules.
use Rattle.std.proofs.Common.{◌≡◌, ℕ, ◌*◌, ◌≤◌, ◌&&◌, ◌||◌, not, Bool, true, false, nat_lt, nat_le, Option, Some, None}
use Rattle.std.proofs.Common.{is_some, ℤ, pos, negsuc, int_lt, int_le, refl, sym, subst, arith, ltb-true, leb-true}
use Rattle.std.proofs.Common.{lt-ltb, le-leb}
use Rattle.std.proofs.lemmas.Bool.{and_parts, and_from, ltb-false}
use Rattle.rbc_spec.specs.Maps.{has}
use Rattle.rbc_spec.specs.Line.{Line, start, end}
use Rattle.rbc_spec.specs.Sections.{is_on}
use Rattle.law_outside.specs.Outside.{Stretch, is_in, may_run_over, IsSafeOutside}
use Rattle.law_trains.specs.Trains.{Train, Loop, stands_on, is_accepted, IsSafeLoop, may_run, may_reach}

-- ## Numbers

pub no_farther_back : (a b c : ℤ) → int_le a b ≡ true → int_le b c ≡ true → int_le a c ≡ true
no_farther_back (pos a) (pos b) (pos c) one two = le-leb a c (omega (arith, leb-true a b one, leb-true b c two))
no_farther_back (pos a) (pos b) (negsuc c) one two = cc
no_farther_back (pos a) (negsuc b) c one two = cc
no_farther_back (negsuc a) (pos b) (pos c) one two = refl
no_farther_back (negsuc a) (pos b) (negsuc c) one two = cc
no_farther_back (negsuc a) (negsuc b) (pos c) one two = refl
no_farther_back (negsuc a) (negsuc b) (negsuc c) one two =
    le-leb c a (omega (arith, leb-true b a one, leb-true c b two))

pub rear_after : (a b : ℤ) (n : ℕ) → int_le a b ≡ true → int_lt b (pos n) ≡ true → int_lt a (pos n) ≡ true
rear_after (pos a) (pos b) n one two = lt-ltb a n (omega (arith, leb-true a b one, ltb-true b n two))
rear_after (pos a) (negsuc b) n one two = cc
rear_after (negsuc a) b n one two = refl

pub rear_up : (a : ℤ) (m n : ℕ) → m ≤ n → int_lt a (pos m) ≡ true → int_lt a (pos n) ≡ true
rear_up (pos a) m n le is = lt-ltb a n (omega (arith, le, ltb-true a m is))
rear_up (negsuc a) m n le is = refl

pub rear_itself : (a : ℤ) → int_le a a ≡ true
rear_itself (pos n) = le-leb n n (omega arith)
rear_itself (negsuc n) = le-leb n n (omega arith)

pub not_less : (a b : ℤ) → int_lt a b ≡ false → int_le b a ≡ true
not_less (pos a) (pos b) is = le-leb b a (ltb-false a b is)
not_less (pos a) (negsuc b) is = refl
not_less (negsuc a) (pos b) is = cc
not_less (negsuc a) (negsuc b) is = le-leb a b (ltb-false b a is)

-- ## Within a stretch

pub record IsWithin (x : Train) (z : Stretch) : Type 0 where
  pub track : z.track ≡ x.track
  pub front : x.front ≤ 10 * z.end
  pub rear : int_le z.rear x.rear ≡ true

pub inside : (line : Line) (x : Train) (z : Stretch) (s : ℕ) → IsWithin x z → stands_on line x s ≡ true
    → is_in line s z ≡ true
inside line x z s h over =
    let both = and_parts (is_on line x.track s && nat_lt (10 * start line s) x.front)
    (int_lt x.rear (pos (10 * end line s))) over in
    let before = and_parts (is_on line x.track s) (nat_lt (10 * start line s) x.front) both.0 in
    and_from (is_on line z.track s && nat_lt (start line s) z.end) (int_lt z.rear (pos (10 * end line s)))
    (and_from (is_on line z.track s) (nat_lt (start line s) z.end)
    (subst (λ track. is_on line track s ≡ true) (sym h.track) before.0)
    (lt-ltb (start line s) z.end
    (let far = h.front in omega (arith, far, ltb-true (10 * start line s) x.front before.1))))
    (rear_after z.rear x.rear (10 * end line s) h.rear both.1)

-- each accepted train that obeys is within its stretch
abbrev pub AllWithin : (ℕ → Bool) → Loop → Type 0
AllWithin obeys k = (t : ℕ) (z : Stretch) → obeys t ≡ true → k.seen.stretch t ≡ Some z → IsWithin (k.train t) z

module _ (line : Line) (obeys : ℕ → Bool) (k : Loop) (all : AllWithin obeys k) where
  -- the section under a train is one over which it may run
  over_its_own : (t s : ℕ) → obeys t ≡ true → is_accepted k t ≡ true → stands_on line (k.train t) s ≡ true
      → may_run_over line k.seen t s ≡ true
  over_its_own t s so = by_stretch (k.seen.stretch t) refl
    where
      by_stretch : (o : Option Stretch) → k.seen.stretch t ≡ o → is_some o ≡ true → stands_on line (k.train t) s ≡ true
          → has (is_in line s) o ≡ true
      by_stretch (Some z) is some over = inside line (k.train t) z s (all t z so is) over
      by_stretch None is some over = cc

  pub loop_safe : IsSafeOutside line k.seen → IsSafeLoop line obeys k
  loop_safe safe = record {
    never_meet = λ t u s so also told heard over under.
        safe.one_train t u s (over_its_own t s so told over) (over_its_own u s also heard under);
    released = λ t s so told over. safe.released t s (over_its_own t s so told over);
  }

-- ## A train runs

-- its authority ends within its stretch
abbrev pub EndsWithin : Train → Stretch → Type 0
EndsWithin x z = (e : ℕ) → x.end ≡ Some e → e ≤ z.end

-- the front end moves no farther than to a point that is not in rear of it, nor of the end of the authority
pub reached : (x : Train) (front most : ℕ) → x.has_started ≡ true → x.front ≤ most
    → ((e : ℕ) → x.end ≡ Some e → 10 * e ≤ most) → may_reach front x ≡ true → front ≤ most
reached x front most started far ends may =
    by_front (nat_le front x.front) refl
    (subst (λ (b : Bool). ((not b || nat_le front x.front) || has (λ e. nat_le front
    (10 * e)) x.end) ≡ true) started may)
  where
    by_end : (o : Option ℕ) → x.end ≡ o → has (λ e. nat_le front (10 * e)) o ≡ true → front ≤ most
    by_end None so h = cc
    by_end (Some e) so h = let le = ends e so in let near = leb-true front (10 * e) h in omega (arith, le, near)

    by_front : (b : Bool) → nat_le front x.front ≡ b → (b || has (λ e. nat_le front (10 * e)) x.end) ≡ true
        → front ≤ most
    by_front true so h = let near = leb-true front x.front so in omega (arith, near, far)
    by_front false so h = by_end x.end refl h

pub record Forward (x : Train) (f : ℕ) (r : ℤ) : Type 0 where
  pub front : x.front ≤ f
  pub rear : int_le x.rear r ≡ true
  pub length : int_lt r (pos f) ≡ true
  pub may : may_reach f x ≡ true

pub forward_is : (x : Train) (front : ℕ) (rear : ℤ) → may_run front rear x ≡ true → Forward x front rear
forward_is x front rear may =
    let both = and_parts ((nat_le x.front front && int_le x.rear rear) && int_lt rear (pos front))
    (may_reach front x) may in
    let parts = and_parts (nat_le x.front front && int_le x.rear rear) (int_lt rear (pos front)) both.0 in
    let forward = and_parts (nat_le x.front front) (int_le x.rear rear) parts.0 in
    record { front = leb-true x.front front forward.0; rear = forward.1; length = parts.1; may = both.1 }
