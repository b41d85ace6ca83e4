-- The view if messages are lost, computed, and parts that trains do not receive.
use Rattle.std.proofs.Common.{[], ◌∙◌, ◌∷◌, ◌≡◌, ap, Bool, false, List, not, Option, refl, Some, subst, sym, true, ℕ}
use Rattle.std.proofs.lemmas.Option.{none-some, same_Some}
use Rattle.law_outside.specs.Outside.{front_end, may_run_over, nothing_seen, Spoken}
use Rattle.law_outside.specs.Scenes.{events_of, granted, in_section, line, released, seen_of, spoken_after, starts_in_1}
use Rattle.law_outside.specs.Scenes.{talk, the_authority_is_lost, train_1_asks, train_1_runs}
use Rattle.law_promises.specs.Arrival.Arrival.{Arrive, comes, is_lost, IsSafeByWhatCame, no_more, PartOf, some_spoken}
use Rattle.law_promises.specs.Arrival.Received.{after_coming, after_loss, AreReceived, Known, lost, may_come, none_left}
use Rattle.law_promises.specs.Arrival.Received.{nothing_known, nothing_spoken, part_reaches, PartReaches, Reaches}
use Rattle.law_promises.specs.Arrival.Received.{reaches}
use Rattle.law_promises.specs.Arrival.Scenes.{accepted_at_last, accepted_twice, moved_on, the_acceptance_is_lost}
use Rattle.law_promises.specs.Arrival.Scenes.{the_request_is_lost, the_second_acceptance_is_lost}
use Rattle.rbc_spec.specs.Line.{end, start as line_start}
use Rattle.rbc_spec.specs.Maps.{put}
use Rattle.rbc_spec.specs.Message.{Request, TrainAccepted}
use Rattle.rbc_spec.specs.Outcome.{Saying}
use Rattle.rbc_spec.specs.Place.{extent}
use Rattle.rbc_spec.specs.SectionRuns.{longest, within}

pub lost_third : may_run_over line (seen_of the_authority_is_lost) 1 3 ≡ false
unfolding within longest line_start end extent front_end seen_of
lost_third = refl

pub lost_first : may_run_over line (seen_of the_authority_is_lost) 1 1 ≡ true
unfolding within longest line_start end extent front_end seen_of
lost_first = refl

pub lost_part : Arrive line (events_of train_1_runs) (spoken_after train_1_runs) (spoken_after the_authority_is_lost)
    nothing_seen nothing_seen
lost_part = (
  word,
  tt,
  (
    word,
    tt,
    (
      word,
      tt,
      (
        start,
        (λ position x y a is centre told came asked. cc),
        (asks, (λ position x y a is centre told came asked. cc), tt),
      ),
    ),
  ),
)
  where
    word : {s : ℕ} → PartOf (released s).spoken (released s).spoken
    word = some_spoken true [] [] _ no_more

    start : PartOf (starts_in_1 1 1 (TrainAccepted ∷ [])).spoken (starts_in_1 1 1 (TrainAccepted ∷ [])).spoken
    start = some_spoken true _ _ [] (comes _ [] [] no_more)

    asks : PartOf (train_1_asks 3000).spoken (talk 1 2 (Request (in_section 1)) [] []).spoken
    asks = some_spoken true _ _ [] (is_lost _ [] [] refl no_more)

-- ## Parts that are received

pub lost_received : AreReceived nothing_known (events_of train_1_runs) (spoken_after train_1_runs)
    (spoken_after the_authority_is_lost)
lost_received = (
  refl,
  (
    _,
    word,
    (
      refl,
      (
        _,
        word,
        (
          refl,
          (
            _,
            word,
            (
              refl,
              (
                _,
                part_reaches _ true _ _ [] (reaches _ _ [] [] refl none_left),
                (refl, (_, part_reaches _ true _ _ [] (lost _ _ [] [] none_left), tt)),
              ),
            ),
          ),
        ),
      ),
    ),
  ),
)
  where
    word : {s : ℕ} → PartReaches 0 nothing_known nothing_known (released s).spoken (released s).spoken
    word = part_reaches nothing_known true [] [] _ none_left

pub accepted_received : AreReceived nothing_known (events_of accepted_twice) (spoken_after accepted_twice)
    (spoken_after accepted_at_last)
accepted_received = (
  refl,
  (
    _,
    word,
    (
      refl,
      (
        _,
        word,
        (
          refl,
          (
            _,
            part_reaches _ true _ _ [] (lost _ _ [] [] none_left),
            (
              refl,
              (
                _,
                part_reaches _ true _ _ [] (reaches _ _ [] [] refl none_left),
                (refl, (_, part_reaches _ true _ _ [] (reaches _ _ [] [] refl none_left), tt)),
              ),
            ),
          ),
        ),
      ),
    ),
  ),
)
  where
    word : {s : ℕ} → PartReaches 0 nothing_known nothing_known (released s).spoken (released s).spoken
    word = part_reaches nothing_known true [] [] _ none_left

pub not_accepted_first : may_run_over line (seen_of the_acceptance_is_lost) 1 1 ≡ false
unfolding within longest line_start end extent front_end seen_of
not_accepted_first = refl

pub accepted_second : may_run_over line (seen_of accepted_at_last) 1 2 ≡ true
unfolding within longest line_start end extent front_end seen_of
accepted_second = refl

-- ## Parts that are not received

of_partly : (c : ℕ) (new k : Known) (s part : Option Spoken) → PartReaches c new k s part → (o q : Spoken) → s ≡ Some o
    → part ≡ Some q → Reaches c new k o.sayings q.sayings
of_partly c new _ _ _ nothing_spoken o q one two = absurd (none-some o one)
of_partly c new k _ _ (part_reaches _ is_heard told some words more) o q one two =
    let told_is =
    ap (λ (p : Spoken). p.sayings)
    (same_Some (record { is_heard = is_heard; sayings = told; words = words }) o one) in
    let some_is =
    ap (λ (p : Spoken). p.sayings)
    (same_Some (record { is_heard = is_heard; sayings = some; words = words }) q two) in
    subst (λ (ps : List Saying). Reaches c new k ps q.sayings) told_is
    (subst (λ (ps : List Saying). Reaches c new k told ps) some_is more)

-- no message was sent
after_none : (c : ℕ) (new k : Known) → Reaches c new k [] [] → k ≡ new
after_none c new _ none_left = refl

never : (c : ℕ) (new k : Known) (q : Saying) → Reaches c new k [] (q ∷ []) → ⊥
never c new k q h = elim h [ ]

-- there was one message, and it is lost
after_one_lost : (c : ℕ) (new k : Known) (p : Saying) → Reaches c new k (p ∷ []) []
    → after_loss p p.message.body k ≡ new
after_one_lost c new k p (lost _ _ _ _ more) = after_none c new (after_loss p p.message.body k) more

-- there was one message, and it arrives
after_one_came : (c : ℕ) (new k : Known) (p q : Saying) → Reaches c new k (p ∷ []) (q ∷ [])
    → (may_come k p p.message.body ≡ true) × (after_coming c p p.message.body k ≡ new)
after_one_came c new k p _ (reaches _ _ _ _ may more) = (may, after_none c new (after_coming c p p.message.body k) more)
after_one_came c new k p q (lost _ _ _ _ more) = absurd (never c new (after_loss p p.message.body k) q more)

pub authority_refused : AreReceived nothing_known (events_of moved_on) (spoken_after moved_on)
    (spoken_after the_second_acceptance_is_lost) → ⊥
authority_refused h =
    let start = h.1.2.1.2.1.2.1.2.1.2 in
    let missed = after_one_lost 0 start.1.0 _ _ (of_partly 0 _ _ _ _ start.1.1 _ _ refl refl) in
    let second = start.1.2 in
    let came = (after_one_came 0 second.1.0 _ _ _ (of_partly 0 _ _ _ _ second.1.1 _ _ refl refl)).1 in
    let authority = second.1.2 in
    let may = (after_one_came 0 authority.1.0 _ _ _ (of_partly 0 _ _ _ _ authority.1.1 _ _ refl refl)).0 in
    let misses : false ≡ not (second.1.0.misses 1) = ap (λ (k : Known). not (put k.misses 2 false 1)) missed
    ∙ ap (λ (k : Known). not (k.misses 1)) came in
    let wrong : false ≡ true = misses ∙ may in
    cc

second_first : may_run_over line (seen_of the_second_acceptance_is_lost) 1 2 ≡ true
unfolding within longest line_start end extent front_end seen_of
second_first = refl

second_second : may_run_over line (seen_of the_second_acceptance_is_lost) 2 2 ≡ true
unfolding within longest line_start end extent front_end seen_of
second_second = refl

pub authority_two_trains : IsSafeByWhatCame line (seen_of the_second_acceptance_is_lost) → ⊥
authority_two_trains h = let same : ◌≡◌ {A = ℕ} 1 2 = h.one_train 1 2 2 second_first second_second in cc

pub grant_refused : AreReceived nothing_known (events_of granted) (spoken_after granted)
    (spoken_after the_request_is_lost) → ⊥
grant_refused h =
    let a = h in
    let b = a.1.2 in
    let c = b.1.2 in
    let d = c.1.2 in
    let e = d.1.2 in
    let f = e.1.2 in
    let g = f.1.2 in
    let one = after_none 0 a.1.0 _ (of_partly 0 _ _ _ _ a.1.1 _ _ refl refl) in
    let two = after_none 0 b.1.0 _ (of_partly 0 _ _ _ _ b.1.1 _ _ refl refl) in
    let three = after_none 0 c.1.0 _ (of_partly 0 _ _ _ _ c.1.1 _ _ refl refl) in
    let four = (after_one_came 0 d.1.0 _ _ _ (of_partly 0 _ _ _ _ d.1.1 _ _ refl refl)).1 in
    let five = (after_one_came 0 e.1.0 _ _ _ (of_partly 0 _ _ _ _ e.1.1 _ _ refl refl)).1 in
    let six = after_one_lost 0 f.1.0 _ _ (of_partly 0 _ _ _ _ f.1.1 _ _ refl refl) in
    let asks : Known → Bool = λ k. k.requested 1 0 5 in
    let wrong : false ≡ true = ap asks one ∙ ap asks two ∙ ap asks three ∙ ap asks four
    ∙ ap asks five ∙ ap asks six ∙ g.0 in
    cc

request_runs : may_run_over line (seen_of the_request_is_lost) 1 3 ≡ true
unfolding within longest line_start end extent front_end seen_of
request_runs = refl

request_back : (seen_of the_request_is_lost).released 3 ≡ false
unfolding within longest line_start end extent front_end seen_of
request_back = refl

pub grant_had_back : IsSafeByWhatCame line (seen_of the_request_is_lost) → ⊥
grant_had_back h = let wrong : false ≡ true = sym request_back ∙ h.released 1 3 request_runs in cc
