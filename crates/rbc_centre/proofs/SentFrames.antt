-- The frames that are sent: each is in its ranges, is got again under its number, and is on the list of the step.
use Rattle.std.proofs.Common.{[], ◌++◌, ◌+◌, ◌-◌, ◌==◌, ◌∙◌, ◌∷◌, ◌≡◌, ◌≤◌, All, ap, append-nil, append_assoc, arith}
use Rattle.std.proofs.Common.{Bool, false, if◌then◌else◌, inl, inr, length, List, map, None, option_map, refl}
use Rattle.std.proofs.Common.{slice_get, Some, subst, suc, sym, true, zero, ℕ}
use Rattle.std.proofs.lemmas.Bool.Decides.{eqb_tells}
use Rattle.std.proofs.lemmas.List.Elements.{All-append, All-cons, All-head, All-nil, All-tail, All-weaker}
use Rattle.rbc_centre.proofs.Rows.{frames_more}
use Rattle.rbc_centre.specs.declared.sent_frame.SentFrame.{SentFrame}
use Rattle.rbc_centre.specs.Listed.{frames_in}
use Rattle.rbc_centre.specs.Posts.{HasSent, IsFit, MayPost, only}
use Rattle.rbc_centre.specs.Views.{frame_number}
use Rattle.rbc_link.proofs.Posted.{numbered_append, posted_count, posted_join, posted_none}
use Rattle.rbc_link.specs.declared.link.Link.{Link}
use Rattle.rbc_link.specs.declared.sent.Sent.{Sent}
use Rattle.rbc_link.specs.Links.{sent_to}
use Rattle.rbc_link.specs.Outgoing as outgoing
use Rattle.rbc_link.specs.Outgoing.{frame_by, frames_by}
use Rattle.rbc_link.specs.Posted.{HasPosted}
use Rattle.rbc_linkmsg.specs.Bodies.{body_of}
use Rattle.rbc_linkmsg.specs.declared.body.Body.{Body}
use Rattle.rbc_spec.proofs.Lists.{each_at}
use Rattle.rbc_spec.specs.Frame as spec
use Rattle.rbc_spec.specs.Frame.{HasBodyRange, HasFrameRanges, last_stamp}
use Rattle.rbc_spec.specs.Step.{numbered}

-- ## The frames that are sent then

in_range : (stamp count : ℕ) (bodies : List spec.Body) → 1 ≤ stamp → stamp ≤ last_stamp → count + length bodies ≤ 65536
    → All HasBodyRange bodies → All HasFrameRanges (numbered stamp count bodies)
in_range stamp count [] low high few all = All-nil HasFrameRanges
in_range stamp count (b ∷ bs) low high few all =
    All-cons HasFrameRanges (record { number = count + 1; stamp = stamp; body = b }) (numbered stamp (count + 1) bs)
    (record { number = (omega arith, omega (arith, few)); stamp = (low, high); body = All-head HasBodyRange b bs all })
    (in_range stamp (count + 1) bs low high (omega (arith, few)) (All-tail HasBodyRange b bs all))

-- each frame of bodies that may be sent is in its ranges
pub posted_in_range : (stamp : ℕ) (bodies : ℕ → List spec.Body) (links : List (Link Body)) → 1 ≤ stamp
    → stamp ≤ last_stamp → ((d : ℕ) → MayPost links d (bodies d))
    → (d : ℕ) → All HasFrameRanges (numbered stamp (length (sent_to links d)) (bodies d))
posted_in_range stamp bodies links low high may d = of_bodies (bodies d) (may d)
  where
    of_bodies : (xs : List spec.Body) → MayPost links d xs
        → All HasFrameRanges (numbered stamp (length (sent_to links d)) xs)
    of_bodies [] may = All-nil HasFrameRanges
    of_bodies (x ∷ xs) may =
        let numbers = may.numbers (All-head (IsFit links d) x xs may.each).linked in
        in_range stamp (length (sent_to links d)) (x ∷ xs) low high numbers
        (All-weaker (IsFit links d) HasBodyRange (λ b fit. fit.range) (x ∷ xs) may.each)

-- after those that were sent too
pub each_frame_after : (stamp : ℕ) (bodies : ℕ → List spec.Body) (old new : List (Link Body)) → 1 ≤ stamp
    → stamp ≤ last_stamp → ((d : ℕ) → MayPost old d (bodies d))
    → HasPosted body_of stamp bodies old new → ((d : ℕ) → All HasFrameRanges (frames_by body_of (sent_to old d)))
    → (d : ℕ) → All HasFrameRanges (frames_by body_of (sent_to new d))
each_frame_after stamp bodies old new low high may posted each d =
    subst (All HasFrameRanges) (sym (posted.sent d))
    (All-append HasFrameRanges (frames_by body_of (sent_to old d)) (numbered stamp (length (sent_to old d)) (bodies d))
    (each d) (posted_in_range stamp bodies old low high may d))

-- ## A frame that was sent

get-map : {X Y : Type 0} (f : X → Y) (xs : List X) (i : ℕ) → slice_get (map f xs) i ≡ option_map f (slice_get xs i)
get-map f [] i = refl
get-map f (x ∷ xs) zero = refl
get-map f (x ∷ xs) (suc i) = get-map f xs i

-- the result of the links is the frame of that number
pub frame_number-by : (frames : List (Sent Body)) (number : ℕ)
    → option_map (frame_by body_of) (outgoing.frame_number frames number)
    ≡ frame_number (frames_by body_of frames) number
frame_number-by frames number = by_test (number == 0)
  where
    by_test : (b : Bool)
        → option_map (frame_by body_of) (if b then None else slice_get frames (number - 1))
        ≡ (if b then None else slice_get (frames_by body_of frames) (number - 1))
    by_test true = refl
    by_test false = sym (get-map (frame_by body_of) frames (number - 1))

-- the frame of that number is in its ranges
pub frame_in_range : (frames : List (Sent Body)) (number : ℕ) (sent : Sent Body)
    → All HasFrameRanges (frames_by body_of frames) → outgoing.frame_number frames number ≡ Some sent
    → HasFrameRanges (frame_by body_of sent)
frame_in_range frames number sent all is = by_test (number == 0) is
  where
    by_test : (b : Bool) → (if b then None else slice_get frames (number - 1)) ≡ Some sent
        → HasFrameRanges (frame_by body_of sent)
    by_test true at = cc
    by_test false at =
        each_at HasFrameRanges (frames_by body_of frames) (number - 1) (frame_by body_of sent) all
        (get-map (frame_by body_of) frames (number - 1) ∙ ap (option_map (frame_by body_of)) at)

-- ## The frames that were sent, on the links and on the list

module _ (stamp : ℕ) where
  -- the same for equal bodies
  pub sent_as : (xs ys : ℕ → List spec.Body) (old new : List (Link Body)) (before after : List SentFrame)
      → ((d : ℕ) → xs d ≡ ys d) → HasSent stamp xs old new before after → HasSent stamp ys old new before after
  sent_as xs ys old new before after same sent =
      subst (λ (bodies : ℕ → List spec.Body). HasSent stamp bodies old new before after) (λ i d. same d i) sent

  pub none_sent : (links : List (Link Body)) (list : List SentFrame) → HasSent stamp (λ d. []) links links list list
  none_sent links list =
      record { posted = posted_none body_of stamp links; frames = λ d. sym (append-nil (frames_in list d)) }

  -- some frames, and then others
  pub sent_join : (xs ys : ℕ → List spec.Body) (old mid new : List (Link Body)) (a b c : List SentFrame)
      → HasSent stamp xs old mid a b → HasSent stamp ys mid new b c → HasSent stamp (λ d. xs d ++ ys d) old new a c
  sent_join xs ys old mid new a b c first second = record {
    posted = posted_join body_of stamp xs ys old mid new first.posted second.posted;
    frames = λ d.
        let count = posted_count body_of stamp xs old mid first.posted d in
        let n = length (sent_to old d) in
        second.frames d
        ∙ (λ i. first.frames d i ++ numbered stamp (count i) (ys d))
        ∙ append_assoc (frames_in a d) (numbered stamp n (xs d)) (numbered stamp (n + length (xs d)) (ys d))
        ∙ ap (λ fs. frames_in a d ++ fs) (sym (numbered_append stamp n (xs d) (ys d)));
  }

  none_only : (to d : ℕ) → [] ≡ only to [] d
  none_only to d = by (d == to) []
    where
      by : (b : Bool) (xs : List spec.Body) → xs ≡ (if b then xs else xs)
      by true xs = refl
      by false xs = refl

  -- no body for a centre
  pub none_sent_to : (to : ℕ) (links : List (Link Body)) (list : List SentFrame)
      → HasSent stamp (only to []) links links list list
  none_sent_to to links list =
      sent_as (λ d. []) (only to []) links links list list (none_only to) (none_sent links list)

  only_joined : (to : ℕ) (xs ys : List spec.Body) (d : ℕ) → only to xs d ++ only to ys d ≡ only to (xs ++ ys) d
  only_joined to xs ys d = by (d == to)
    where
      by : (b : Bool) → (if b then xs else []) ++ (if b then ys else []) ≡ (if b then xs ++ ys else [])
      by true = refl
      by false = refl

  -- two parts for one centre
  pub sent_more : (to : ℕ) (xs ys : List spec.Body) (old mid new : List (Link Body)) (a b c : List SentFrame)
      → HasSent stamp (only to xs) old mid a b → HasSent stamp (only to ys) mid new b c
      → HasSent stamp (only to (xs ++ ys)) old new a c
  sent_more to xs ys old mid new a b c first second =
      sent_as (λ d. only to xs d ++ only to ys d) (only to (xs ++ ys)) old new a c (only_joined to xs ys)
      (sent_join (only to xs) (only to ys) old mid new a b c first second)

  -- one frame
  pub sent_one : (to : ℕ) (b : Body) (old new : List (Link Body)) (list more : List SentFrame) (f : SentFrame)
      → HasPosted body_of stamp (only to (body_of b ∷ [])) old new → more ≡ list ++ f ∷ [] → f.to ≡ to
      → f.frame ≡ record { number = length (sent_to old to) + 1; stamp = stamp; body = body_of b }
      → HasSent stamp (only to (body_of b ∷ [])) old new list more
  sent_one to b old new list more f posted is goes frame = record {
    posted = posted;
    frames =
        λ d. ap (λ fs. frames_in fs d) is ∙ frames_more list f d
        ∙ ap (λ fs. frames_in list d ++ fs) (ap (λ (n : ℕ). if d == n then f.frame ∷ [] else []) goes ∙ here d);
  }
    where
      here : (d : ℕ)
          → (if d == to then f.frame ∷ [] else [])
          ≡ numbered stamp (length (sent_to old d)) (only to (body_of b ∷ []) d)
      here d =
          elim (eqb_tells d to) as (λ _. (if d == to then f.frame ∷ [] else [])
          ≡ numbered stamp (length (sent_to old d)) (only to (body_of b ∷ []) d)) [
            | inl e ↦
                rw (e.0)
                (ap (λ x. x ∷ [])
                (frame ∙ ap (λ (n : ℕ). record { number = length (sent_to old n) + 1; stamp = stamp; body = body_of b })
                (sym (e.1))))
            | inr e ↦ rw (e.0) refl
          ]
