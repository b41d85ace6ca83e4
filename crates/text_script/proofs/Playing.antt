-- Entries that are played in order.
use Rattle.std.proofs.Common.{[], ◌++◌, ◌+◌, ◌<◌, ◌∙◌, ◌∷◌, ◌≡◌, ap, append_assoc, drop, Err, get_or, length, List}
use Rattle.std.proofs.Common.{subst, sym, ℕ}
use Rattle.std.proofs.lemmas.List.{drop_more}
use Rattle.rbc_spec.specs.Line.{Line}
use Rattle.rbc_spec.specs.World.{World}
use Rattle.rbc_world.specs.rbc_centre.declared.fault.StepFault.{StepFault}
use Rattle.text_script.specs.declared.play.PlayFault.{PlayFault}
use Rattle.text_script.specs.declared.play.PlayFault.TheVariants.{Refused, Untold}
use Rattle.text_script.specs.declared.script.Entry.{Entry}
use Rattle.text_script.specs.declared.script.Entry.TheVariants as entry
use Rattle.text_script.specs.Played.{IsPlayed, IsStopped, Leaves, Telling}

-- the remaining entries lead from here to the same result as all entries from the beginning
pub record Goes {T : Type 0} (tells : T → Telling → T → Type 0) (line : Line) (w : World) (t : T)
    (entries left : List Entry) (x : World) (s : T) : Type 0 where
  pub played : (v : World) (u : T) → IsPlayed tells line x s left v u → IsPlayed tells line w t entries v u
  pub stopped : (fault : StepFault) (v : World) (u : T) → IsStopped tells line x s left fault v u
      → IsStopped tells line w t entries fault v u

module _ {T : Type 0} (tells : T → Telling → T → Type 0) (line : Line) (w : World) (t : T) (entries : List Entry) where
  -- a played entry is followed by the remaining ones
  pub then_played : (e : Entry) (left : List Entry) (x y v : World) (s r u : T) → IsPlayed tells line x s (e ∷ []) y r
      → IsPlayed tells line y r left v u → IsPlayed tells line x s (e ∷ left) v u
  then_played entry.Show left x y v s r u (q, told, (same, one))
      rest = (
        q,
        told,
        subst (λ z. IsPlayed tells line z q left v u) same
            (subst (λ z. IsPlayed tells line y z left v u) one rest),
      )
  then_played (entry.Event event) left x y v s r u (answer, z, p, q, done, comes, answers, (same, one)) rest = (
    answer,
    z,
    p,
    q,
    done,
    comes,
    answers,
    subst (λ a. IsPlayed tells line a q left v u) same
        (subst (λ a. IsPlayed tells line y a left v u) one rest),
  )

  -- the same if the play stops after it
  then_stopped : (e : Entry) (left : List Entry) (x y v : World) (s r u : T) (fault : StepFault)
      → IsPlayed tells line x s (e ∷ []) y r → IsStopped tells line y r left fault v u
      → IsStopped tells line x s (e ∷ left) fault v u
  then_stopped e left x y v s r u fault is (front, rest, event, q, cut, played, comes, refused) = (
    e ∷ front,
    rest,
    event,
    q,
    ap (λ (es : List Entry). e ∷ es) cut,
    then_played e front x y v s r q is played,
    comes,
    refused,
  )

  pub goes_on : (e : Entry) (left : List Entry) (x y : World) (s r : T) → Goes tells line w t entries (e ∷ left) x s
      → IsPlayed tells line x s (e ∷ []) y r → Goes tells line w t entries left y r
  goes_on e left x y s r so_far is = record {
    played = λ v u rest. so_far.played v u (then_played e left x y v s r u is rest);
    stopped = λ fault v u rest. so_far.stopped fault v u (then_stopped e left x y v s r u fault is rest);
  }

  -- an entry at which the play stops is followed by nothing
  pub stops : (e : Entry) (left : List Entry) (x v : World) (s u : T) (fault : StepFault)
      → Goes tells line w t entries (e ∷ left) x s → IsStopped tells line x s (e ∷ []) fault v u
      → IsStopped tells line w t entries fault v u
  stops e left x v s u fault so_far (front, rest, event, q, cut, played, comes, refused) = so_far.stopped fault v u (
    front,
    rest ++ left,
    event,
    q,
    ap (λ (es : List Entry). es ++ left) cut ∙ append_assoc front (entry.Event event ∷ rest) left,
    played,
    comes,
    refused,
  )

  -- entry n, which is played next, or at which the play stops
  module _ (l : Line) (n : ℕ) (e : Entry) (x : World) (s : T) (some : n < length entries) (is : e ≡ get_or entries n e)
      (same : l ≡ line) (so_far : Goes tells line w t entries (drop n entries) x s) where
    here : Goes tells line w t entries (e ∷ drop (n + 1) entries) x s
    here =
        subst (λ (es : List Entry). Goes tells line w t entries es x s)
        (drop_more entries n e some ∙ ap (λ (first : Entry). first ∷ drop (n + 1) entries) (sym is)) so_far

    pub one_more : (y : World) (r : T) → IsPlayed tells l x s (e ∷ []) y r
        → Goes tells line w t entries (drop (n + 1) entries) y r
    one_more y r played =
        goes_on e (drop (n + 1) entries) x y s r here (subst (λ k. IsPlayed tells k x s (e ∷ []) y r) same played)

    pub halts : {F : Type 0} (v : World) (u : T) (fault : PlayFault F) → Leaves tells l x s (e ∷ []) (Err fault) v u
        → Leaves tells line w t entries (Err fault) v u
    halts v u (Refused fault) stopped =
        stops e (drop (n + 1) entries) x v s u fault here
        (subst (λ k. IsStopped tells k x s (e ∷ []) fault v u) same stopped)
    halts v u (Untold why) stopped = tt
