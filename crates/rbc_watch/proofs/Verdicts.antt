-- The verdict on a list, one event at a time.
use Rattle.std.proofs.Common.{[], ⊎_elim, ◌++◌, ◌+◌, ◌<◌, ◌∙◌, ◌∷◌, ◌≡◌, ◌≤◌, ap, arith, Err, get_or, length, List, map}
use Rattle.std.proofs.Common.{option_map, Option, refl, subst, subst₂, sym, take, ℕ}
use Rattle.std.proofs.lemmas.Bool.{cases_eq}
use Rattle.law_outside.specs.Outside.{IsSafeOutside, nothing_seen, sees, sees_all, Spoken, View}
use Rattle.rbc_spec.specs.Line.{Line}
use Rattle.rbc_watch.proofs.Lists.{take_more}
use Rattle.rbc_watch.specs.declared.event.Exchange.{Exchange}
use Rattle.rbc_watch.specs.declared.fault.Breach.{Breach}
use Rattle.rbc_watch.specs.declared.fault.Breach.TheVariants as breach
use Rattle.rbc_watch.specs.declared.watch.Watch.{Watch}
use Rattle.rbc_watch.specs.Dangers.{Breaks}
use Rattle.rbc_watch.specs.Events.{event_of, sees_exchange, spoken_of}
use Rattle.rbc_watch.specs.Seen.{line_of, seen_by}
use Rattle.rbc_watch.specs.Verdicts.{IsBreach, IsSafeUpTo, IsVerdict, view_after}

-- nothing that is seen is safe
pub nothing_is_safe : (line : Line) → IsSafeOutside line nothing_seen
nothing_is_safe line = record {
  one_train = λ t u s one two. cc;
  released = λ t s over. cc;
  founded = refl;
}

abbrev spoken_in : Exchange → Option Spoken
spoken_in x = option_map spoken_of x.spoken

-- one more event at the end
sees_last : (line : Line) (xs : List Exchange) (x : Exchange) (v : View)
    → sees_all line (map (λ y. event_of y.event) (xs ++ x ∷ [])) (map spoken_in (xs ++ x ∷ [])) v
    ≡ sees line (event_of x.event) (spoken_in x) (sees_all line (map (λ y. event_of y.event) xs) (map spoken_in xs) v)
sees_last line [] x v = refl
sees_last line (y ∷ ys) x v = sees_last line ys x (sees line (event_of y.event) (spoken_in y) v)

pub view_more : (line : Line) (xs : List Exchange) (i : ℕ) (x : Exchange) → i < length xs → x ≡ get_or xs i x
    → view_after line (take (i + 1) xs) ≡ sees line (event_of x.event) (spoken_in x) (view_after line (take i xs))
view_more line xs i x lt at =
    ap (view_after line) (take_more xs i x lt at) ∙ sees_last line (take i xs) x nothing_seen

pub safe_at_first : (line : Line) (xs : List Exchange) → IsSafeUpTo line xs 0
safe_at_first line xs n le =
    let none : 0 ≡ n = omega (arith, le) in
    subst (λ k. IsSafeOutside line (view_after line (take k xs))) none (nothing_is_safe line)

pub safe_more : (line : Line) (xs : List Exchange) (i : ℕ) → IsSafeUpTo line xs i
    → IsSafeOutside line (view_after line (take (i + 1) xs)) → IsSafeUpTo line xs (i + 1)
safe_more line xs i before here n le = ⊎_elim
    (λ (same : n ≡ i + 1). subst (λ k. IsSafeOutside line (view_after line (take k xs))) (sym same) here)
    (λ (other : n ≡ i + 1 → ⊥). before n (omega (arith, le, other)))
    (cases_eq n (i + 1))

-- a monitor that has watched the first i events
pub record IsWatched (line : Line) (xs : List Exchange) (w : Watch) (i : ℕ) : Type 0 where
  pub same : line_of w ≡ line
  pub seen : seen_by w ≡ view_after line (take i xs)
  pub safe : IsSafeUpTo line xs i

pub begins : (line : Line) (xs : List Exchange) (w : Watch) → line_of w ≡ line → seen_by w ≡ nothing_seen
    → IsWatched line xs w 0
begins line xs w same none = record { same = same; seen = none; safe = safe_at_first line xs }

seen_next : (line : Line) (xs : List Exchange) (w : Watch) (i : ℕ) (x : Exchange) → i < length xs
    → x ≡ get_or xs i x → IsWatched line xs w i → (v : View) → v ≡ sees_exchange (line_of w) x (seen_by w)
    → v ≡ view_after line (take (i + 1) xs)
seen_next line xs w i x lt at h v sees =
    sees ∙ ap (λ (l : Line). sees_exchange l x (seen_by w)) h.same ∙ ap (sees_exchange line x) h.seen
    ∙ sym (view_more line xs i x lt at)

pub goes_on : (line : Line) (xs : List Exchange) (w new : Watch) (i : ℕ) (x : Exchange) → i < length xs
    → x ≡ get_or xs i x → IsWatched line xs w i → line_of new ≡ line_of w
    → seen_by new ≡ sees_exchange (line_of w) x (seen_by w) → IsSafeOutside (line_of new) (seen_by new)
    → IsWatched line xs new (i + 1)
goes_on line xs w new i x lt at h same sees safe =
    let seen = seen_next line xs w i x lt at h (seen_by new) sees in
    record {
      same = same ∙ h.same;
      seen = seen;
      safe = safe_more line xs i h.safe (subst₂ (λ (l : Line) (v : View). IsSafeOutside l v) (same ∙ h.same) seen safe);
    }

pub ends : (line : Line) (xs : List Exchange) (w : Watch) (i : ℕ) → length xs ≤ i → IsWatched line xs w i
    → IsSafeUpTo line xs (length xs)
ends line xs w i all h n le = h.safe n (omega (arith, all, le))

pub breaks : (X : Type 0) (line : Line) (xs : List Exchange) (w : Watch) (i : ℕ) (x : Exchange) (why : Breach)
    → i < length xs → x ≡ get_or xs i x → IsWatched line xs w i
    → IsBreach (line_of w) i (sees_exchange (line_of w) x (seen_by w)) why → IsVerdict {X = X} line xs (Err why)
breaks X line xs w i x breach.Memory lt at h why = tt
breaks X line xs w i x (breach.Broken n danger) lt at h why =
    let seen = seen_next line xs w i x lt at h (sees_exchange (line_of w) x (seen_by w)) refl in
    let is : Breaks line (view_after line (take (i + 1) xs)) danger =
    subst₂ (λ (l : Line) (v : View). Breaks l v danger) h.same seen why.1 in
    subst (λ (k : ℕ). (k < length xs) × IsSafeUpTo line xs k × Breaks line (view_after line (take (k + 1) xs)) danger)
    (sym why.0) (lt, h.safe, is)
