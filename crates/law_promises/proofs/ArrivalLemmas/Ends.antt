-- Whole lists of events, and trains that do not meet.
use Rattle.std.proofs.Common.{[], ℤ, ◌&&◌, ◌*◌, ◌++◌, ◌+◌, ◌<◌, ◌==◌, ◌∙◌, ◌∷◌, ◌≡◌, ◌≤◌, ap, arith, Bool, false}
use Rattle.std.proofs.Common.{if◌then◌else◌, int_le, int_lt, leb-true, List, lt-ltb, ltb-true, nat_lt, negsuc, None}
use Rattle.std.proofs.Common.{Option, pos, refl, Some, subst, sym, true, ℕ}
use Rattle.std.proofs.lemmas.Bool.{and_parts}
use Rattle.std.proofs.lemmas.Option.{none-some}
use Rattle.std.specs.List.{list_all}
use Rattle.law_outside.specs.Outside as outside
use Rattle.law_outside.specs.Outside.{all_heard, all_told, is_in, is_told, IsSafeOutside, may_run_over, nothing_seen}
use Rattle.law_outside.specs.Outside.{said_by, sees, sees_all, Spoken, Stretch, View}
use Rattle.law_promises.proofs.ArrivalLemmas.ArrivesSeen.{all_seen_stray, all_within}
use Rattle.law_promises.proofs.ArrivalLemmas.ArrivesTold.{said_within, Within}
use Rattle.law_promises.proofs.ArrivalLemmas.PartsAccepted.{rel_came, rel_lost}
use Rattle.law_promises.proofs.ArrivalLemmas.Reached.{Rel}
use Rattle.law_promises.proofs.ArrivalLemmas.Speaks.{no_word, one_word, quiet_speaks, said_rises, Speaks}
use Rattle.law_promises.proofs.Follows.{Follows}
use Rattle.law_promises.proofs.QuietFollows.{quiet_follows}
use Rattle.law_promises.proofs.Released.{all_same, told_both}
use Rattle.law_promises.proofs.Spans.{Ends, in_from, in_parts}
use Rattle.law_promises.specs.Arrival.Arrival.{Arrive, GrantsWhatCame, IsSafeByWhatCame, none_spoken, PartOf}
use Rattle.law_promises.specs.Arrival.Arrival.{some_spoken}
use Rattle.law_promises.specs.Arrival.Meeting.{DoNotMeet, Extent, is_over, IsTruthful, IsWithin}
use Rattle.law_promises.specs.Arrival.Received.{after_coming, after_loss, Known, lost, none_left, Reaches, reaches}
use Rattle.rbc_spec.proofs.Lists.{put_pair_there}
use Rattle.rbc_spec.specs.Line.{end, IsLine, Line, start}
use Rattle.rbc_spec.specs.LineCentre.{LineState, Said, saying_of}
use Rattle.rbc_spec.specs.Maps.{has, put}
use Rattle.rbc_spec.specs.Message.{TrainAccepted}
use Rattle.rbc_spec.specs.Outcome.{Asked, Done, NotHome, Saying, Told, Word}
use Rattle.rbc_spec.specs.Quiet.{is_of_centre, Quiet, TakesAll}
use Rattle.rbc_spec.specs.Sections.{is_on}
use Rattle.rbc_spec.specs.World.{Bytes, centre_of, Delivery, Event, Set, Unset}

-- ## Replies to the interlocking

put_both : (f g : ℕ → Bool) (k : ℕ) (b : Bool) → ((s : ℕ) → g s ≡ f s) → (s : ℕ) → put g k b s ≡ put f k b s
put_both f g k b same s = ap (λ (r : Bool). if s == k then b else r) (same s)

word_both : (event : Event) (word : Word) (v w : View) → ((s : ℕ) → w.released s ≡ v.released s) → (s : ℕ)
    → (outside.hears event word w).released s ≡ (outside.hears event word v).released s
word_both (Bytes c read) (Done e) v w same s = same s
word_both (Bytes c read) (Asked e) v w same s = same s
word_both (Bytes c read) (NotHome e) v w same s = same s
word_both (Bytes c read) (Told e) v w same s = put_both v.released w.released e false same s
word_both (Set c d) (Done e) v w same s = by_same (e == d)
  where
    by_same : (b : Bool) → (if b then record w { released = put w.released e true } else w).released s
        ≡ (if b then record v { released = put v.released e true } else v).released s
    by_same true = put_both v.released w.released e true same s
    by_same false = same s
word_both (Set c d) (Asked e) v w same s = same s
word_both (Set c d) (NotHome e) v w same s = same s
word_both (Set c d) (Told e) v w same s = put_both v.released w.released e false same s
word_both (Unset c d) (Done e) v w same s = put_both v.released w.released d false same s
word_both (Unset c d) (Asked e) v w same s = same s
word_both (Unset c d) (NotHome e) v w same s = same s
word_both (Unset c d) (Told e) v w same s = put_both v.released w.released e false same s
word_both (Delivery from to number) (Done e) v w same s = same s
word_both (Delivery from to number) (Asked e) v w same s = same s
word_both (Delivery from to number) (NotHome e) v w same s = same s
word_both (Delivery from to number) (Told e) v w same s = put_both v.released w.released e false same s

pub words_both : (event : Event) (words : List Word) (v w : View) → ((s : ℕ) → w.released s ≡ v.released s) → (s : ℕ)
    → (all_heard event words w).released s ≡ (all_heard event words v).released s
words_both event [] v w same s = same s
words_both event (word ∷ words) v w same s =
    words_both event words (outside.hears event word v) (outside.hears event word w) (word_both event word v w same) s

words_within : (event : Event) (words : List Word) (v w : View) → Within v w
    → Within (all_heard event words v) (all_heard event words w)
words_within event words v w old =
    let a = all_same event words v in
    let b = all_same event words w in record {
      stretch = λ t y is. let r = old.stretch t y (sym (ap (λ (f : ℕ → Option Stretch). f t) b.stretch) ∙ is) in
          (r.0, ap (λ (f : ℕ → Option Stretch). f t) a.stretch ∙ r.1, r.2);
      start = λ t c f is. ap (λ (g : ℕ → ℕ → Option Stretch). g t c) b.start
          ∙ old.start t c f (sym (ap (λ (g : ℕ → ℕ → Option Stretch). g t c) a.start) ∙ is);
      released = words_both event words v w old.released;
    }

-- ## A list of events

seen_within : (line : Line) (event : Event) (spoken part : Option Spoken) (v w : View) → PartOf spoken part
    → GrantsWhatCame event v w → (sees line event spoken v).stray ≡ false → Within v w
    → Within (sees line event spoken v) (sees line event part w)
seen_within line event _ _ v w none_spoken grants founded old = old
seen_within line event _ _ v w (some_spoken is_heard told some words parts) grants founded old =
    words_within event words (all_told line event told (said_by line event is_heard v))
    (all_told line event some (said_by line event is_heard w))
    (all_within line event told some (said_by line event is_heard v) (said_by line event is_heard w) parts
    (sym (all_same event words (all_told line event told (said_by line event is_heard v))).stray ∙ founded)
    (said_within line event is_heard v w old grants))

arrive_within : (line : Line) (events : List Event) (spoken came : List (Option Spoken)) (v w : View)
    → Arrive line events spoken came v w → (sees_all line events spoken v).stray ≡ false → Within v w
    → Within (sees_all line events spoken v) (sees_all line events came w)
arrive_within line [] [] [] v w h founded old = old
arrive_within line [] [] (o ∷ os) v w h founded old = absurd h
arrive_within line [] (o ∷ os) came v w h founded old = absurd h
arrive_within line (event ∷ events) [] came v w h founded old = absurd h
arrive_within line (event ∷ events) (o ∷ os) [] v w h founded old = absurd h
arrive_within line (event ∷ events) (o ∷ os) (k ∷ ks) v w h founded old =
    arrive_within line events os ks (sees line event o v) (sees line event k w) h.2 founded
    (seen_within line event o k v w h.0 h.1 (all_seen_stray line events os (sees line event o v) founded) old)

-- ## Safety

over_too : (line : Line) (v w : View) → Within v w → (t s : ℕ) → may_run_over line w t s ≡ true
    → may_run_over line v t s ≡ true
over_too line v w h t s is = by_came (w.stretch t) refl is
  where
    by_came : (o : Option Stretch) → w.stretch t ≡ o → has (is_in line s) o ≡ true → may_run_over line v t s ≡ true
    by_came None at is = absurd (none_there is)
      where
        none_there : ◌≡◌ {A = Bool} false true → ⊥
        none_there is = cc
    by_came (Some y) at is =
        let r = h.stretch t y at in
        let p = in_parts line y s is in
        let before = p.before in
        let le = r.2.end in
        ap (has (is_in line s)) r.1
        ∙ in_from line r.0 s
        (record {
          on = subst (λ (k : ℕ). is_on line k s ≡ true) r.2.track p.on;
          before = omega (arith, before, le);
          past = r.2.past (10 * end line s) p.past;
        })

pub come_safe : (line : Line) (events : List Event) (spoken came : List (Option Spoken))
    → IsSafeOutside line (sees_all line events spoken nothing_seen)
    → Arrive line events spoken came nothing_seen nothing_seen
    → IsSafeByWhatCame line (sees_all line events came nothing_seen)
come_safe line events spoken came safe h =
    let within = arrive_within line events spoken came nothing_seen nothing_seen h safe.founded
    (record { stretch = λ t y is. absurd (none-some y is); start = λ t c f is. is; released = λ s. refl }) in
    let v = sees_all line events spoken nothing_seen in
    let w = sees_all line events came nothing_seen in record {
      one_train = λ t u s one two. safe.one_train t u s (over_too line v w within t s one)
          (over_too line v w within u s two);
      released = λ t s is. within.released s ∙ safe.released t s (over_too line v w within t s is);
    }

-- # Trains that are within the stretches by which they run do not meet.

-- a point past the rear end is past each point further back
past_back : (a b : ℤ) (n : ℕ) → int_le a b ≡ true → int_lt b (pos n) ≡ true → int_lt a (pos n) ≡ true
past_back (pos a) (pos b) n one two = lt-ltb a n (let le = leb-true a b one in
    let lt = ltb-true b n two in omega (arith, le, lt))
past_back (pos a) (negsuc b) n one two = cc
past_back (negsuc a) b n one two = refl

over_in : (line : Line) (x : Stretch) (e : Extent) (s : ℕ) → IsWithin x e
    → is_over line s e ≡ true → is_in line s x ≡ true
over_in line x e s within is =
    let both = and_parts (is_on line e.track s && nat_lt (10 * start line s) e.front)
    (int_lt e.rear (pos (10 * end line s))) is in
    let on = and_parts (is_on line e.track s) (nat_lt (10 * start line s) e.front) both.0 in
    in_from line x s (record {
      on = subst (λ (k : ℕ). is_on line k s ≡ true) within.track on.0;
      before = (let lt = ltb-true (10 * start line s) e.front on.1 in let le = within.front in omega (arith, lt, le));
      past = past_back x.rear e.rear (10 * end line s) within.rear both.1;
    })

may_be : (line : Line) (w : View) (extents : ℕ → Option Extent) → IsTruthful w extents → (t s : ℕ) (e : Extent)
    → extents t ≡ Some e → is_over line s e ≡ true → may_run_over line w t s ≡ true
may_be line w extents truthful t s e at is = let h = truthful t e at in ap (has (is_in line s)) h.1
    ∙ over_in line h.0 e s h.2 is

pub do_not_meet : (line : Line) (w : View) (extents : ℕ → Option Extent) → IsSafeByWhatCame line w
    → IsTruthful w extents → DoNotMeet line w extents
do_not_meet line w extents safe truthful = record {
  one_train = λ t u s d e one two over also. safe.one_train t u s (may_be line w extents truthful t s d one over)
      (may_be line w extents truthful u s e two also);
  released = λ t s e at over. safe.released t s (may_be line w extents truthful t s e at over);
}

-- # Through each run of the one line centre: by the messages that arrive, trains may run over no more than by all
-- messages.

-- the end of each stretch is the end of a section of its track
pub ends_there : (line : Line) (v : LineState) (x : View) → Follows line v x → (t : ℕ) (y : Stretch)
    → x.stretch t ≡ Some y → Ends line y
ends_there line v x h t y is = ((h.tied t).spans y is).ends

-- ## One step

-- the messages that have still to arrive after a step, and the view by which trains run
pub record After (line : Line) (event : Event) (new : Known) (x w : View) (count : ℕ → ℕ
    → ℕ) (rest some : List Saying) : Type 0 where
  pub k : Known
  pub part : List Saying
  pub z : View
  pub left : Reaches (centre_of event) new k rest part
  pub rel : Rel line x z k count
  pub same : all_told line event some w ≡ all_told line event part z

module _ (line : Line) (event : Event) (new : Known) where
  one_on : (p : Saying) (x w : View) (said count : ℕ → ℕ → ℕ) → ((u d : ℕ) → said u d ≤ count u d)
      → said p.nid_engine (centre_of event) < p.message.t_train
      → p.message.t_train ≤ count p.nid_engine (centre_of event)
      → (p.message.body ≡ TrainAccepted → (t : ℕ) (y : Stretch) → x.stretch t ≡ Some y → Ends line y)
      → (is_told line event p p.message.body x).stray ≡ false
      → (k : Known) → Rel line x w k said → (rest some : List Saying) → Reaches (centre_of event) new k (p ∷ rest) some
      → After line event new (is_told line event p p.message.body x) w count rest some
  one_on p x w said count rises fresh counted ends founded k old rest _ (reaches _ _ _ some may more) = record {
    k = after_coming (centre_of event) p p.message.body k;
    part = some;
    z = is_told line event p p.message.body w;
    left = more;
    rel = rel_came line event p x w k said count old rises p.message.body may counted founded;
    same = refl;
  }
  one_on p x w said count rises fresh counted ends founded k old rest some (lost _ _ _ _ more) = record {
    k = after_loss p p.message.body k;
    part = some;
    z = w;
    left = more;
    rel = rel_lost line event p x w k said count old rises p.message.body (λ is. ends is p.nid_engine) fresh founded;
    same = refl;
  }

  -- a step of the line centre
  pub step_on : (may : Type 0) (v mid : LineState) (x w : View) (said : List Saying)
      → Speaks may (centre_of event) v said mid → (may → (t : ℕ) (y : Stretch) → x.stretch t ≡ Some y → Ends line y)
      → (all_told line event said x).stray ≡ false → (k : Known) → Rel line x w k v.said → (rest some : List Saying)
      → Reaches (centre_of event) new k (said ++ rest) some
      → After line event new (all_told line event said x) w mid.said rest some
  step_on may v mid x w said (no_word none same) ends founded k old rest some more =
      subst (λ (ps : List Saying). After line event new (all_told line event ps x) w mid.said rest some)
      (sym none) (record {
        k = k;
        part = some;
        z = w;
        left = subst (λ (ps : List Saying). Reaches (centre_of event) new k (ps ++ rest) some) none more;
        rel = subst (λ (f : ℕ → ℕ → ℕ). Rel line x w k f) (sym same) old;
        same = refl;
      })
  step_on may v mid x w said (one_word t group body accepts is same) ends founded k old rest some more =
      subst (λ (ps : List Saying). After line event new (all_told line event ps x) w mid.said rest some) (sym is)
      (one_on (saying_of t (centre_of event) group body v) x w v.said mid.said
      (said_rises v mid (centre_of event) said may (one_word t group body accepts is same)) (omega arith)
      (let now = ap (λ (f : ℕ → ℕ → ℕ). f t (centre_of event)) same
      ∙ put_pair_there v.said t (centre_of event) (v.said t (centre_of event) + 1) in omega (arith, now))
      (λ accepted. ends (accepts accepted)) (subst (λ (ps : List Saying). (all_told line event ps x).stray ≡ false)
      is founded) k old rest some
      (subst (λ (ps : List Saying). Reaches (centre_of event) new k (ps ++ rest) some) is more))

  -- the last messages arrive, or are lost
  ends_on : (k : Known) (some : List Saying) → Reaches (centre_of event) new k [] some → (k ≡ new) × (some ≡ [])
  ends_on _ _ none_left = (refl, refl)

  pub quiets_on : (ok : IsLine line) (qs : List Quiet) (v last : LineState) (x w : View) (said : Said)
      → list_all (is_of_centre line (centre_of event)) qs ≡ true → TakesAll line v qs said last → Follows line v x
      → (k : Known) → Rel line x w k v.said → (some : List Saying) → Reaches (centre_of event) new k said.sayings some
      → Follows line last (all_told line event said.sayings x)
      × Rel line (all_told line event said.sayings x) (all_told line event some w) new last.said
  quiets_on ok [] v last x w said at h old k rel some more =
      let over = ends_on k some (subst (λ (p : Said). Reaches (centre_of event) new k p.sayings some) h.0 more) in
      subst (λ (p : Said). Follows line last (all_told line event p.sayings x)
      × Rel line (all_told line event p.sayings x) (all_told line event some w) new last.said) (sym h.0)
      (subst (λ (u : LineState). Follows line u x × Rel line x (all_told line event some w) new u.said) (sym h.1) (
        old,
        subst (λ (ps : List Saying). Rel line x (all_told line event ps w) new v.said) (sym over.1)
            (subst (λ (j : Known). Rel line x w j v.said) over.0 rel),
      ))
  quiets_on ok (q ∷ qs) v last x w said at (first, others, mid, step, rest, same) old k rel some more =
      let parts = and_parts (is_of_centre line (centre_of event) q)
      (list_all (is_of_centre line (centre_of event)) qs) at in
      let follows = quiet_follows line ok v x old event q first mid parts.0 step in
      let a = step_on (Unit {0}) v mid x w first.sayings
      (quiet_speaks line (centre_of event) v q first mid parts.0 step) (λ may. ends_there line v x old)
      follows.founded k rel others.sayings some
      (subst (λ (p : Said). Reaches (centre_of event) new k p.sayings some) same more) in
      let b = quiets_on ok qs mid last (all_told line event first.sayings x) a.z others parts.1 rest follows
      a.k a.rel a.part a.left in
      subst (λ (p : Said). Follows line last (all_told line event p.sayings x)
      × Rel line (all_told line event p.sayings x) (all_told line event some w) new last.said) (sym same)
      (subst (λ (y : View). Follows line last y × Rel line y (all_told line event some w) new last.said)
      (sym (told_both line event first.sayings others.sayings x))
      (subst (λ (z : View). Follows line last (all_told line event others.sayings (all_told line event first.sayings x))
      × Rel line (all_told line event others.sayings (all_told line event first.sayings x)) z new
      last.said) (sym a.same) b))
