-- The frames of a step: frames on the links, and the list of them.
use Rattle.std.proofs.Common.{[], ◌&&◌, ◌++◌, ◌+◌, ◌<◌, ◌==◌, ◌||◌, ◌∙◌, ◌∷◌, ◌≡◌, ◌≤◌, ◌⊎◌, All, ap, append-nil, arith}
use Rattle.std.proofs.Common.{Bool, false, if◌then◌else◌, inl, inr, length, length-append, List, ltb-true, nat_lt, None}
use Rattle.std.proofs.Common.{not, Option, refl, Some, sym, true, ℕ, ⊎_elim}
use Rattle.std.proofs.lemmas.Bool.{and_from, and_parts, both_ways, cases_Bool, cases_lt, ltb-false}
use Rattle.std.proofs.lemmas.Bool.Decides.{eqb_tells, nat_tests}
use Rattle.std.proofs.lemmas.List.{length-map}
use Rattle.std.proofs.lemmas.List.Elements.{All-head, All-weaker}
use Rattle.std.specs.Option.{option_map_or}
use Rattle.law_invariants.specs.Ranges.Ranges.{IsSentInRange}
use Rattle.rbc_book.specs.Book.{Pages}
use Rattle.rbc_centre.proofs.Rows.{all_first, all_rest}
use Rattle.rbc_centre.proofs.SentFrames.{none_sent, sent_as, sent_join}
use Rattle.rbc_centre.specs.declared.desk.Desk.{Desk}
use Rattle.rbc_centre.specs.declared.sent_frame.SentFrame.{SentFrame}
use Rattle.rbc_centre.specs.Posts.{HasSent, IsFit, MayPost, only}
use Rattle.rbc_centre.specs.State.{stands_for}
use Rattle.rbc_handover.specs.Expectations.{is_told}
use Rattle.rbc_line.specs.declared.section_run.SectionRun.{SectionRun as SectionRunCode}
use Rattle.rbc_line.specs.SectionRuns.{run_of}
use Rattle.rbc_link.proofs.Posted.{posted_count}
use Rattle.rbc_link.specs.declared.link.Link.{Link}
use Rattle.rbc_link.specs.Links.{has_link, room_to, sent_to}
use Rattle.rbc_link.specs.Outgoing.{frame_by, frames_by}
use Rattle.rbc_link.specs.Posted.{HasPosted}
use Rattle.rbc_linkmsg.specs.Bodies.{body_of}
use Rattle.rbc_linkmsg.specs.declared.body.Body.{Body}
use Rattle.rbc_spec.proofs.Lists.{any-range}
use Rattle.rbc_spec.specs.Centre as centre
use Rattle.rbc_spec.specs.Centre.{Expectation}
use Rattle.rbc_spec.specs.Frame as spec
use Rattle.rbc_spec.specs.Frame.{RouteReturn}
use Rattle.rbc_spec.specs.Line.{is_centre, is_linked, Line}
use Rattle.rbc_spec.specs.SectionRuns.{is_empty, shared}
use Rattle.rbc_spec.specs.Sections.{home_run}
use Rattle.rbc_spec.specs.Step.{has_full_link}
use Rattle.rbc_train.specs.declared.letter.Letter.{Letter}
use Rattle.rbc_train.specs.declared.mail.Mail.{Mail}
use Rattle.rbc_train.specs.declared.mail.Notice.{Notice}
use Rattle.rbc_train.specs.declared.mail.Notice.TheVariants as notice
use Rattle.rbc_train.specs.declared.train.TrainState.{TrainState}
use Rattle.rbc_train.specs.Letters.{going_home, letters, mail_to, notices}

-- ## Whether it may be sent

-- a link is to a centre of the line
pub linked_below : (line : Line) (c d : ℕ) → is_linked line c d ≡ true → d < length line.centres
linked_below line c d linked =
    let both = (and_parts (is_centre line c && is_centre line d) (not (c == d)) linked).0 in
    ltb-true d (length line.centres) (and_parts (is_centre line c) (is_centre line d) both).1

pub linked_centre : (line : Line) (c d : ℕ) → is_linked line c d ≡ true → is_centre line d ≡ true
linked_centre line c d linked =
    (and_parts (is_centre line c) (is_centre line d)
    (and_parts (is_centre line c && is_centre line d) (not (c == d)) linked).0).1

-- if no link is full, each has numbers left
has_numbers : (line : Line) (c d : ℕ) (k : centre.Centre) → is_linked line c d ≡ true → has_full_link line c k ≡ false
    → length (k.sent d) ≤ 65532
has_numbers line c d k linked none = elim (cases_Bool (nat_lt 65532 (length (k.sent d)))) [
  | inl full ↦ absurd (both_ways (has_full_link line c k) none
      (any-range (λ e. is_linked line c e && nat_lt 65532 (length (k.sent e))) 0 (length line.centres) d (omega arith)
      (omega (arith, linked_below line c d linked))
      (and_from (is_linked line c d) (nat_lt 65532 (length (k.sent d))) linked full)))
  | inr room ↦ ltb-false 65532 (length (k.sent d)) room
]

-- no mail has more than four bodies for a centre
pub mail_few : (line : Line) (c t : ℕ) (e : ℕ → Option Expectation) (mail : Mail) (d : ℕ)
    → length (mail_to line c t e mail d) ≤ 4
mail_few line c t e mail d =
    let first = going_home line c t mail.track (run_of mail.first) d in
    let second = going_home line c t mail.track (run_of mail.second) d in
    let third = notices t e mail.notice d in
    let one = home_few mail.first in
    let two = home_few mail.second in
    let three = notice_few mail.notice in
    let last = letter_few mail.letter in
    let inmost = length-append third (letters mail.letter d) in
    let inner = length-append second (third ++ letters mail.letter d) in
    let all = length-append first (second ++ (third ++ letters mail.letter d)) in
    omega (arith, one, two, three, last, inmost, inner, all)
  where
    one_at_most : (a b : Bool) (body : spec.Body) → length (if a then [] else (if b then [] else body ∷ [])) ≤ 1
    one_at_most true b body = omega arith
    one_at_most false true body = omega arith
    one_at_most false false body = omega arith

    one_or_none : (a : Bool) (body : spec.Body) → length (if a then body ∷ [] else []) ≤ 1
    one_or_none true body = omega arith
    one_or_none false body = omega arith

    home_few : (r : SectionRunCode) → length (going_home line c t mail.track (run_of r) d) ≤ 1
    home_few r =
        one_at_most (is_empty (run_of r)) ((d == c) || is_empty (shared (run_of r) (home_run line d mail.track)))
        (RouteReturn t (shared (run_of r) (home_run line d mail.track)))

    claim_few : (a : Bool) (o : Option Expectation)
        → length (if a then option_map_or (λ (x : Expectation). spec.TakingOver x.number t ∷ []) o [] else []) ≤ 1
    claim_few true (Some x) = omega arith
    claim_few true None = omega arith
    claim_few false o = omega arith

    notice_few : (n : Notice) → length (notices t e n d) ≤ 1
    notice_few notice.Nothing = omega arith
    notice_few (notice.Announce name track) = one_or_none (d == name.to) (spec.Announce name.number t track)
    notice_few (notice.Cancel name) = one_or_none (d == name.to) (spec.Cancel name.number t)
    notice_few (notice.TakingOver told) = claim_few (is_told told d) (e d)

    letter_few : (o : Option Letter) → length (letters o d) ≤ 1
    letter_few None = omega arith
    letter_few (Some l) = one_or_none (d == l.to) (body_of l.body)

-- bodies to linked centres, each in its ranges, may be sent if no link is full and each has room for them
pub may_post : (line : Line) (c clock : ℕ) (pages : Pages) (desk : Desk) (old links : List (Link Body))
    (states : List TrainState) (d : ℕ) (bodies : List spec.Body)
    → has_full_link line c (stands_for line c clock pages desk old states) ≡ false
    → has_link links d ≡ is_linked line c d → sent_to links d ≡ sent_to old d
    → All (IsSentInRange line c d) bodies → length bodies ≤ 4
    → (has_link links d ≡ true → length bodies ≤ room_to links d) → MayPost links d bodies
unfolding stands_for
may_post line c clock pages desk old links states d bodies none linked same sent few room = record {
  each =
      All-weaker (IsSentInRange line c d) (IsFit links d)
      (λ b is. record { linked = linked ∙ is.linked; range = is.body }) bodies sent;
  room = room;
  numbers = λ has.
      let numbers : length (frames_by body_of (sent_to old d)) ≤ 65532 =
      has_numbers line c d (stands_for line c clock pages desk old states) (sym linked ∙ has) none in
      let count : length (frames_by body_of (sent_to old d)) ≡ length (sent_to old d) =
      length-map (sent_to old d) (frame_by body_of) in
      let now : length (sent_to links d) ≡ length (sent_to old d) = ap length same in
      omega (arith, numbers, count, now, few);
}

-- ## One part and then another

pub may_first : (links : List (Link Body)) (d : ℕ) (xs ys : List spec.Body) → MayPost links d (xs ++ ys)
    → MayPost links d xs
may_first links d xs ys may =
    let sum = length-append xs ys in
    record {
      each = all_first (IsFit links d) xs ys may.each;
      room = λ has. let room = may.room has in omega (arith, room, sum);
      numbers = λ has. let numbers = may.numbers has in omega (arith, numbers, sum);
    }

-- the rest, after a first part
pub may_after : (stamp : ℕ) (sent : ℕ → List spec.Body) (old new : List (Link Body)) (d : ℕ) (xs ys : List spec.Body)
    → HasPosted body_of stamp sent old new → sent d ≡ xs
    → MayPost old d (xs ++ ys) → MayPost new d ys
may_after stamp sent old new d xs ys posted is may =
    let sum = length-append xs ys in
    let count = ap length is in
    let more = posted_count body_of stamp sent old new posted d in
    let left = posted.room d in
    record {
      each =
          All-weaker (IsFit old d) (IsFit new d)
          (λ b fit. record { linked = posted.linked d ∙ fit.linked; range = fit.range }) ys
          (all_rest (IsFit old d) xs ys may.each);
      room = λ has. let room = may.room (sym (posted.linked d) ∙ has) in omega (arith, room, sum, count, left);
      numbers = λ has. let numbers = may.numbers (sym (posted.linked d) ∙ has) in
          omega (arith, numbers, sum, count, more);
    }

pub only_here : (to : ℕ) (bodies : List spec.Body) → only to bodies to ≡ bodies
only_here to bodies =
    elim (eqb_tells to to) as (λ _. only to bodies to ≡ bodies) [ inl e ↦ rw (e.0) refl | inr e ↦ absurd (e.1 refl) ]

-- if one of four parts has a body, all four together have one
pub some_of : {R : Type 0} (xs ys zs us : List spec.Body) → 1 ≤ length xs + (length ys + (length zs + length us))
    → (xs ++ (ys ++ (zs ++ us)) ≡ []) ⊎ R → R
some_of xs ys zs us some (inr r) = r
some_of xs ys zs us some (inl none) =
    let outer = length-append xs (ys ++ (zs ++ us)) in
    let inner = length-append ys (zs ++ us) in
    let inmost = length-append zs us in
    let all = ap length none in
    absurd (omega (arith, outer, inner, inmost, all, some))

-- ## One centre after another

-- the bodies for the centres below a number
abbrev pub below : (ℕ → List spec.Body) → ℕ → ℕ → List spec.Body
below bodies n d = if nat_lt d n then bodies d else []

-- if those below it get nothing
pub none_below : (stamp : ℕ) (bodies : ℕ → List spec.Body) (n : ℕ) (links : List (Link Body)) (list : List SentFrame)
    → ((d : ℕ) → d < n → bodies d ≡ []) → HasSent stamp (below bodies n) links links list list
none_below stamp bodies n links list none =
    sent_as stamp (λ d. []) (below bodies n) links links list list before (none_sent stamp links list)
  where
    before : (d : ℕ) → [] ≡ below bodies n d
    before d = ⊎_elim
        (λ (low : d < n). let is : nat_lt d n ≡ true = grind (arith, nat_tests, low) in rw is (sym (none d low)))
        (λ (high : n ≤ d). let not : nat_lt d n ≡ false = grind (arith, nat_tests, high) in rw not refl)
        (cases_lt d n)

module _ (bodies : ℕ → List spec.Body) (n d : ℕ) where
  earlier : d < n → (nat_lt d n ≡ true) × (nat_lt d (n + 1) ≡ true)
  earlier low = (grind (arith, nat_tests, low), grind (arith, nat_tests, low))

  later : n < d → (nat_lt d n ≡ false) × (nat_lt d (n + 1) ≡ false)
  later high = (grind (arith, nat_tests, high), grind (arith, nat_tests, high))

  here : d ≡ n → (nat_lt d n ≡ false) × (nat_lt d (n + 1) ≡ true)
  here same = (grind (arith, nat_tests, same), grind (arith, nat_tests, same))

  -- one of three
  where_is : (P : Type 0) → (d < n → P) → (d ≡ n → P) → (n < d → P) → P
  where_is P low same high = ⊎_elim low (λ (not : n ≤ d). elim (eqb_tells d n) as (λ _. P) [
    | inl e ↦ same e.1
    | inr e ↦ let apart = e.1 in high (omega (arith, not, apart))
  ]) (cases_lt d n)

pub one_more : (stamp : ℕ) (bodies : ℕ → List spec.Body) (n : ℕ) (old mid new : List (Link Body))
    (a b c : List SentFrame) → HasSent stamp (below bodies n) old mid a b
    → HasSent stamp (only n (bodies n)) mid new b c
    → HasSent stamp (below bodies (n + 1)) old new a c
one_more stamp bodies n old mid new a b c first second =
    sent_as stamp (λ d. below bodies n d ++ only n (bodies n) d) (below bodies (n + 1)) old new a c same
    (sent_join stamp (below bodies n) (only n (bodies n)) old mid new a b c first second)
  where
    same : (d : ℕ) → below bodies n d ++ only n (bodies n) d ≡ below bodies (n + 1) d
    same d = elim (eqb_tells d n) as (λ _. below bodies n d ++ only n (bodies n) d ≡ below bodies (n + 1) d) [
      | inl e ↦ let at = here bodies n d (e.1) in rw (at.0, at.1, e.0) (ap bodies (sym (e.1)))
      | inr e ↦ where_is bodies n d (below bodies n d ++ only n (bodies n) d ≡ below bodies (n + 1) d)
          (λ low. let at = earlier bodies n d low in rw (at.0, at.1, e.0) (append-nil (bodies d)))
          (λ same. absurd (e.1 same))
          (λ high. let at = later bodies n d high in rw (at.0, at.1, e.0) refl)
    ]

-- if no centre from a number on gets anything
pub all_below : (bodies : ℕ → List spec.Body) (n : ℕ) → ((d : ℕ) → n ≤ d → bodies d ≡ []) → (d : ℕ)
    → below bodies n d ≡ bodies d
all_below bodies n none d = ⊎_elim
    (λ (low : d < n). let is : nat_lt d n ≡ true = grind (arith, nat_tests, low) in rw is refl)
    (λ (high : n ≤ d). let not : nat_lt d n ≡ false = grind (arith, nat_tests, high) in rw not (sym (none d high)))
    (cases_lt d n)

-- no centre past the last is sent anything
pub none_past : (line : Line) (c : ℕ) (bodies : ℕ → List spec.Body) (links : List (Link Body))
    → ((d : ℕ) → has_link links d ≡ is_linked line c d)
    → ((d : ℕ) → MayPost links d (bodies d)) → (d : ℕ) → length line.centres ≤ d → bodies d ≡ []
none_past line c bodies links linked may d past = nothing (bodies d) (may d).each
  where
    nothing : (xs : List spec.Body) → All (IsFit links d) xs → xs ≡ []
    nothing [] all = refl
    nothing (x ∷ xs) all =
        let fit = All-head (IsFit links d) x xs all in
        let low = linked_below line c d (sym (linked d) ∙ fit.linked) in
        absurd (omega (arith, past, low))
