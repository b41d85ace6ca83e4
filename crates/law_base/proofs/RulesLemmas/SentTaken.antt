-- Steps send few frames on a link, numbered and stamped in range.
use Rattle.std.proofs.Common.{[], ⊎_elim, ◌&&◌, ◌+◌, ◌<◌, ◌==◌, ◌∷◌, ◌≡◌, ◌≤◌, ap, arith, Bool, false, if◌then◌else◌}
use Rattle.std.proofs.Common.{length, List, ltb-true, map, nat_lt, None, not, Option, refl, Some, subst, suc, sym, true}
use Rattle.std.proofs.Common.{ℕ}
use Rattle.std.proofs.lemmas.Bool.{and_from, and_parts, both_ways, cases_Bool, ltb-false}
use Rattle.std.proofs.lemmas.List.Elements.{All-cons, All-nil}
use Rattle.std.specs.List.{All}
use Rattle.std.specs.Option.{option_map_or}
use Rattle.law_base.proofs.RulesLemmas.Sends.{Sends, sends_less, sends_quiet, sends_then, sends_yes}
use Rattle.law_base.proofs.RulesLemmas.SentActs.{propose_sends}
use Rattle.law_base.proofs.RulesLemmas.SentEvents.{IsFew, plain, taken_few}
use Rattle.law_base.proofs.RulesLemmas.SentFrames.{answer_few, Few, few, few_if, quiet}
use Rattle.law_base.specs.Rules.Sending.{GoInOrder, HoldsFew, IsCountedInRange, TakesFew}
use Rattle.rbc_spec.proofs.Lists.{any-range}
use Rattle.rbc_spec.specs.Acts.{◌>>◌, Act, become, hear, rest}
use Rattle.rbc_spec.specs.Centre.{Centre, Entry, is_unused, Open, Out, Shut, Taken}
use Rattle.rbc_spec.specs.Frame.{Body, Frame, last_stamp, RouteWithdraw}
use Rattle.rbc_spec.specs.Line.{is_centre, is_home, is_linked, Line}
use Rattle.rbc_spec.specs.Maps.{put}
use Rattle.rbc_spec.specs.Message.{TrainMessage}
use Rattle.rbc_spec.specs.Outcome.{Asked, Done, NotHome, Reason}
use Rattle.rbc_spec.specs.Rules.{answered, tell}
use Rattle.rbc_spec.specs.Step.{ClockEnd, Deliver, Effect, effect, Event, has_full_link, hear_and_answer, link_answer}
use Rattle.rbc_spec.specs.Step.{LinkFull, make, numbered, refusal, Set, set, silence, stamp_of, taken, ticked, Train}
use Rattle.rbc_spec.specs.Step.{Unset, unset, wished, withdraw}

-- # A step sends few frames on a link, in order, few messages and few replies.

module _ (d : ℕ) (line : Line) (c : ℕ) where
  -- ## The interlocking

  set_few : (s : ℕ) (k : Centre) → Few d line c 0 (set line c s k)
  unfolding ◌>>◌
  set_few s k = few_if d line c 0 (not (is_home line c s)) _ _
      (quiet d line c 0 (tell (NotHome s) k) refl (omega arith) (omega arith)) (opens (is_unused (k.book s)))
    where
      opens : (b : Bool)
          → Few d line c 0 ((become (λ j. record j { wish = put j.wish s false })
          >> ((if b then make s Open false else rest) >> tell (Done s))) k)
      opens true = quiet d line c 0 _ refl (omega arith) (omega arith)
      opens false = quiet d line c 0 _ refl (omega arith) (omega arith)

  abbrev asks_back : ℕ → Act
  asks_back s = become (λ j. record j { wish = put j.wish s true }) >> tell (Asked s)

  asks_back_sends : (s : ℕ) (k : Centre) → Sends 0 d 0 0 0 0 1 (asks_back s k)
  unfolding ◌>>◌
  asks_back_sends s k = sends_quiet 0 d 0 0 0 0 1 (asks_back s k) refl (omega arith) (omega arith)

  wished_sends : (s : ℕ) (entry : Entry) (j : Centre) → Sends 0 d 0 8 1 1 0 (wished line c s entry j)
  wished_sends s Shut j = sends_quiet 0 d 0 8 1 1 0 (rest j) refl (omega arith) (omega arith)
  wished_sends s Open j = sends_quiet 0 d 0 8 1 1 0 (rest j) refl (omega arith) (omega arith)
  wished_sends s (Taken t) j = sends_less 0 d 0 8 0 1 0 0 8 1 1 0 _ (omega arith) (omega arith) (omega arith)
      (omega arith) (omega arith) (propose_sends 0 d line c t 0 8 s j)
  wished_sends s (Out t) j = sends_less 0 d 0 8 1 0 0 0 8 1 1 0 _ (omega arith) (omega arith) (omega arith)
      (omega arith) (omega arith)
      (sends_yes 0 d 0 8 (is_linked line c d) (RouteWithdraw t s) (withdraw line c t s j) refl refl refl
      (λ linked. (omega arith, omega arith, tt)))

  unset_few : (s : ℕ) (k : Centre) → Few d line c 0 (unset line c s k)
  unfolding ◌>>◌
  unset_few s k = few_if d line c 0 (not (is_home line c s)) _ _
      (quiet d line c 0 (tell (NotHome s) k) refl (omega arith) (omega arith)) (back (is_unused (k.book s)))
    where
      back : (b : Bool)
          → Few d line c 0
          ((if b then (make s Shut false >> tell (Done s)) else (asks_back s >> wished line c s (k.book s))) k)
      back true = quiet d line c 0 _ refl (omega arith) (omega arith)
      back false = few d line c 0 0 8 1 1 1 _ (omega arith) (omega arith) (omega arith) (omega arith)
          (sends_then 0 d 0 0 8 0 1 0 1 1 0 (asks_back s) (wished line c s (k.book s)) k (omega arith) (omega arith)
          (asks_back_sends s k) (wished_sends s (k.book s) (asks_back s k).state))

  -- ## The step

  heard_few : (m : TrainMessage) (k : Centre) → HoldsFew line k → IsFew d line c (hear_and_answer line c m k)
  unfolding ◌>>◌
  heard_few m k h = plain d line c m.nid_engine (answered line c m m.body (hear m k).state)
      (answer_few d line c m.nid_engine m m.body (hear m k).state
      (record { missions = h.missions; pools = h.pools; waits = h.waits }))

  abbrev heard_effect : TrainMessage → Centre → Effect
  heard_effect m k = record { reply = hear_and_answer line c m k; link = None; silence = None }

  effect_few : (event : Event) (k : Centre) → HoldsFew line k → TakesFew event
      → IsFew d line c (effect line c k event).reply
  effect_few (Train m) k h few = by_silence (silence line c k m)
    where
      by_silence : (o : Option Reason)
          → IsFew d line c
          (option_map_or {U = Effect} (λ why. record { reply = rest k; link = None; silence = Some why })
          o (heard_effect m k)).reply
      by_silence (Some why) = plain d line c 0 (rest k) (quiet d line c 0 (rest k) refl (omega arith) (omega arith))
      by_silence None = heard_few m k h
  effect_few (Set s) k h few = plain d line c 0 (set line c s k) (set_few s k)
  effect_few (Unset s) k h few = plain d line c 0 (unset line c s k) (unset_few s k)
  effect_few (Deliver e f) k h few = taken_few d line c e f (link_answer line c k e f) k h few

  bodies_numbered : (stamp count : ℕ) (bodies : List Body)
      → map (λ (f : Frame). f.body) (numbered stamp count bodies) ≡ bodies
  bodies_numbered stamp count [] = refl
  bodies_numbered stamp count (b ∷ bs) = ap (λ xs. b ∷ xs) (bodies_numbered stamp (count + 1) bs)

  length_numbered : (stamp count : ℕ) (bodies : List Body) → length (numbered stamp count bodies) ≡ length bodies
  length_numbered stamp count [] = refl
  length_numbered stamp count (b ∷ bs) = ap suc (length_numbered stamp (count + 1) bs)

  module _ (k : Centre) (event : Event) (h : HoldsFew line k) (few : TakesFew event) where
    abbrev j : Centre
    j = ticked (stamp_of k event) k

    pub done : IsFew d line c (effect line c j event).reply
    done = effect_few event j (record { missions = h.missions; pools = h.pools; waits = h.waits }) few

    pub few_frames : length ((taken line c event k).0.frames d) ≤ 3
    few_frames = let e = length_numbered (stamp_of k event) (length (k.sent d))
        ((effect line c j event).reply.frames d) in omega (arith, e, done.frames)

    pub few_sayings : length (taken line c event k).0.sayings ≤ 2
    few_sayings = done.sayings

    pub few_words : length (taken line c event k).0.words ≤ 64
    few_words = done.words

    pub in_order : GoInOrder (map (λ (f : Frame). f.body) ((taken line c event k).0.frames d))
    in_order =
        subst GoInOrder
        (sym (bodies_numbered (stamp_of k event) (length (k.sent d)) ((effect line c j event).reply.frames d)))
        done.order

-- # The frames of a step are numbered and stamped in range.

numbered_in : (stamp count : ℕ) (bodies : List Body) → 1 ≤ stamp → stamp ≤ last_stamp → count + length bodies ≤ 65536
    → All IsCountedInRange (numbered stamp count bodies)
numbered_in stamp count [] low high few = All-nil IsCountedInRange
numbered_in stamp count (b ∷ bs) low high few =
    All-cons IsCountedInRange (record { number = count + 1; stamp = stamp; body = b }) (numbered stamp (count + 1) bs)
    (record { number = (omega arith, omega (arith, few)); stamp = (low, high) })
    (numbered_in stamp (count + 1) bs low high (omega (arith, few)))

some_stamp : (k : Centre) (event : Event) → 1 ≤ stamp_of k event
some_stamp k (Train m) = omega arith
some_stamp k (Set s) = omega arith
some_stamp k (Unset s) = omega arith
some_stamp k (Deliver d f) = omega arith

not_refused : (a b : Bool) → (if a then Some ClockEnd else (if b then Some LinkFull else None)) ≡ None
    → (a ≡ false) × (b ≡ false)
not_refused true b h = cc
not_refused false true h = cc
not_refused false false h = (refl, refl)

-- a link is to a centre of the line
linked_below : (line : Line) (c d : ℕ) → is_linked line c d ≡ true → d < length line.centres
linked_below line c d linked =
    let both = (and_parts (is_centre line c && is_centre line d) (not (c == d)) linked).0 in
    ltb-true d (length line.centres) (and_parts (is_centre line c) (is_centre line d) both).1

-- if no link is full, there is room on each
has_room : (line : Line) (c d : ℕ) (k : Centre) → is_linked line c d ≡ true → has_full_link line c k ≡ false
    → length (k.sent d) ≤ 65532
has_room line c d k linked none = ⊎_elim
    (λ (full : nat_lt 65532 (length (k.sent d)) ≡ true). absurd (both_ways (has_full_link line c k) none
    (any-range (λ e. is_linked line c e && nat_lt 65532 (length (k.sent e))) 0 (length line.centres) d (omega arith)
    (omega (arith, linked_below line c d linked))
    (and_from (is_linked line c d) (nat_lt 65532 (length (k.sent d))) linked full))))
    (λ (room : nat_lt 65532 (length (k.sent d)) ≡ false). ltb-false 65532 (length (k.sent d)) room)
    (cases_Bool (nat_lt 65532 (length (k.sent d))))

pub counted : (d : ℕ) (line : Line) (c : ℕ) (k : Centre) (event : Event) → HoldsFew line k → TakesFew event
    → is_linked line c d ≡ true
    → refusal line c k event ≡ None → All IsCountedInRange ((taken line c event k).0.frames d)
counted d line c k event h few linked none =
    let both = not_refused (nat_lt last_stamp (stamp_of k event)) (has_full_link line c k) none in
    let room = has_room line c d k linked both.1 in
    let frames = (done d line c k event h few).frames in
    numbered_in (stamp_of k event) (length (k.sent d))
    ((effect line c (ticked (stamp_of k event) k) event).reply.frames d) (some_stamp k event)
    (ltb-false last_stamp (stamp_of k event) both.0) (omega (arith, room, frames))
