-- The view from outside follows the one line centre's state through each event. So it is safe.
use Rattle.std.proofs.Common.{[], ◌++◌, ◌==◌, ◌∙◌, ◌∷◌, ◌≡◌, ap, Bool, false, if◌then◌else◌, inl, inr, List, map, None}
use Rattle.std.proofs.Common.{Option, refl, Some, subst, sym, true, ℕ}
use Rattle.std.proofs.lemmas.Bool.Decides.{eqb_tells}
use Rattle.std.proofs.lemmas.List.Elements.{All-append, All-cons, All-head, All-nil, All-tail}
use Rattle.std.specs.List.{All}
use Rattle.law_base.proofs.PiecesLemmas.Words.{Fits}
use Rattle.law_outside.specs.Outside as outside
use Rattle.law_outside.specs.Outside.{all_heard, all_told, gets, is_told, starts, Stretch, View}
use Rattle.law_promises.proofs.Follows.{after_none, Follows, heard_as, wait_still}
use Rattle.rbc_spec.proofs.Lists.{put_here, put_other}
use Rattle.rbc_spec.specs.Line.{Line}
use Rattle.rbc_spec.specs.LineCentre.{hears, LineState, Said, Shut}
use Rattle.rbc_spec.specs.Maps.{put}
use Rattle.rbc_spec.specs.Message.{Authority, DataAcknowledged, EndOfMission, EndSession, InitiationOfSession, Report}
use Rattle.rbc_spec.specs.Message.{Request, SessionEstablished, ShorteningGranted, ShorteningRejected}
use Rattle.rbc_spec.specs.Message.{ShorteningRequest, StartOfMission, SystemVersion, TerminationAcknowledged}
use Rattle.rbc_spec.specs.Message.{TerminationOfSession, TrackBody, TrainAccepted, TrainBody, TrainData, TrainMessage}
use Rattle.rbc_spec.specs.Message.{TrainRejected, Transition}
use Rattle.rbc_spec.specs.Outcome.{Asked, Done, NotHome, Saying, Told, Word}
use Rattle.rbc_spec.specs.Quiet.{Admit, Dismiss, EndOrder, Keep, LayDown, Order, Propose, Quiet, TakesAll, TakesQuiet}
use Rattle.rbc_spec.specs.Quiet.{TakeUp, Unkeep}
use Rattle.rbc_spec.specs.World.{Bytes, centre_of, Delivery, Event, Set, Unset}

-- ## The changes of a view

-- the messages of trains and to trains are the same
pub record SameTrains (x y : View) : Type 0 where
  pub stretch : y.stretch ≡ x.stretch
  pub start : y.start ≡ x.start
  pub stray : y.stray ≡ x.stray

same_view : (x : View) → SameTrains x x
same_view x = record { stretch = refl; start = refl; stray = refl }

hears_same : (event : Event) (w : Word) (x : View) → SameTrains x (outside.hears event w x)
hears_same (Bytes c read) (Done s) x = same_view x
hears_same (Bytes c read) (Asked s) x = same_view x
hears_same (Bytes c read) (NotHome s) x = same_view x
hears_same (Bytes c read) (Told s) x = record { stretch = refl; start = refl; stray = refl }
hears_same (Set c e) (Done s) x = by_same (s == e)
  where
    by_same : (b : Bool) → SameTrains x (if b then record x { released = put x.released s true } else x)
    by_same true = record { stretch = refl; start = refl; stray = refl }
    by_same false = same_view x
hears_same (Set c e) (Asked s) x = same_view x
hears_same (Set c e) (NotHome s) x = same_view x
hears_same (Set c e) (Told s) x = record { stretch = refl; start = refl; stray = refl }
hears_same (Unset c e) (Done s) x = record { stretch = refl; start = refl; stray = refl }
hears_same (Unset c e) (Asked s) x = same_view x
hears_same (Unset c e) (NotHome s) x = same_view x
hears_same (Unset c e) (Told s) x = record { stretch = refl; start = refl; stray = refl }
hears_same (Delivery from to number) (Done s) x = same_view x
hears_same (Delivery from to number) (Asked s) x = same_view x
hears_same (Delivery from to number) (NotHome s) x = same_view x
hears_same (Delivery from to number) (Told s) x = record { stretch = refl; start = refl; stray = refl }

pub all_same : (event : Event) (ws : List Word) (x : View) → SameTrains x (all_heard event ws x)
all_same event [] x = same_view x
all_same event (w ∷ ws) x =
    let one = hears_same event w x in
    let two = all_same event ws (outside.hears event w x) in
    record { stretch = two.stretch ∙ one.stretch; start = two.start ∙ one.start; stray = two.stray ∙ one.stray }

pub follows_as : (line : Line) (v : LineState) (x y : View) → SameTrains x y → Follows line v x → Follows line v y
follows_as line v x y same old =
    let later = heard_as line v x old v refl in
    after_none line v x old v y (same.stray ∙ old.founded) old.keep (wait_still line v x old v y refl same.start later)
    (λ u s. refl) refl same.stretch later

-- messages to trains do not change the view of the interlocking
gets_released : (t : ℕ) (o : Option Stretch) (x : View) → (gets t o x).released ≡ x.released
gets_released t None x = refl
gets_released t (Some y) x = refl

told_released : (line : Line) (event : Event) (p : Saying) (body : TrackBody) (x : View)
    → (is_told line event p body x).released ≡ x.released
told_released line event p (Authority l) x = gets_released p.nid_engine _ x
told_released line event p (DataAcknowledged stamp) x = refl
told_released line event p (ShorteningRequest l) x = gets_released p.nid_engine _ x
told_released line event p (Transition d n r) x = refl
told_released line event p (EndSession n r) x = refl
told_released line event p SystemVersion x = refl
told_released line event p TerminationAcknowledged x = refl
told_released line event p TrainRejected x = refl
told_released line event p TrainAccepted x = gets_released p.nid_engine _ (starts p.nid_engine (centre_of event) None x)

pub all_released : (line : Line) (event : Event) (ps : List Saying) (x : View)
    → (all_told line event ps x).released ≡ x.released
all_released line event [] x = refl
all_released line event (p ∷ ps) x = all_released line event ps (is_told line event p p.message.body x)
    ∙ told_released line event p p.message.body x

pub says_released : (line : Line) (c : ℕ) (m : TrainMessage) (body : TrainBody) (x : View)
    → (outside.says line c m body x).released ≡ x.released
says_released line c m InitiationOfSession x = refl
says_released line c m TerminationOfSession x = refl
says_released line c m SessionEstablished x = refl
says_released line c m (StartOfMission is_valid position) x = refl
says_released line c m (TrainData position) x = refl
says_released line c m (Request position) x = refl
says_released line c m (Report position) x = refl
says_released line c m (ShorteningRejected stamp position) x = refl
says_released line c m (EndOfMission position) x = refl
says_released line c m (ShorteningGranted stamp position) x = refl

pub told_both : (line : Line) (event : Event) (ps qs : List Saying) (x : View)
    → all_told line event (ps ++ qs) x ≡ all_told line event qs (all_told line event ps x)
told_both line event [] qs x = refl
told_both line event (p ∷ ps) qs x = told_both line event ps qs (is_told line event p p.message.body x)

pub heard_both : (event : Event) (ws us : List Word) (x : View)
    → all_heard event (ws ++ us) x ≡ all_heard event us (all_heard event ws x)
heard_both event [] us x = refl
heard_both event (w ∷ ws) us x = heard_both event ws us (outside.hears event w x)

-- ## Sections that are released

abbrev pub IsNotShut : LineState → ℕ → Type 0
IsNotShut v s = v.mark s ≡ Shut → ⊥

-- a section that is not shut was released
pub record Released (v : LineState) (x : View) : Type 0 where
  pub each : (s : ℕ) → IsNotShut v s → x.released s ≡ true

-- the reply is not `Done`: only an unset's own step replies that a section is taken back
abbrev pub IsNotDone : Word → Type 0
IsNotDone (Done s) = ⊥
IsNotDone word = Unit {0}

-- a reply after an event that is not an unset, or one that is not `Done`
abbrev pub IsLater : Event → Word → Type 0
IsLater (Unset c s) word = IsNotDone word
IsLater event word = Unit {0}

-- a true reply takes back only a section that is shut
word_keeps : (line : Line) (event : Event) (new : LineState) (w : Word) (x : View) (s : ℕ) → Fits line (Set 0 0) new w
    → IsLater event w → IsNotShut new s → x.released s ≡ true → (outside.hears event w x).released s ≡ true
word_keeps line (Bytes c read) new (Done e) x s fits later opened is = is
word_keeps line (Bytes c read) new (Asked e) x s fits later opened is = is
word_keeps line (Bytes c read) new (NotHome e) x s fits later opened is = is
word_keeps line (Bytes c read) new (Told e) x s fits later opened is =
    put_other x.released e s false (λ same. opened (ap new.mark same ∙ fits.0)) ∙ is
word_keeps line (Set c d) new (Done e) x s fits later opened is = by_same (e == d)
  where
    by_same : (b : Bool) → (if b then record x { released = put x.released e true } else x).released s ≡ true
    by_same true = elim (eqb_tells s e) [
      | inl h ↦ put_here x.released e s true (h.1)
      | inr h ↦ put_other x.released e s true (h.1) ∙ is
    ]
    by_same false = is
word_keeps line (Set c d) new (Asked e) x s fits later opened is = is
word_keeps line (Set c d) new (NotHome e) x s fits later opened is = is
word_keeps line (Set c d) new (Told e) x s fits later opened is =
    put_other x.released e s false (λ same. opened (ap new.mark same ∙ fits.0)) ∙ is
word_keeps line (Unset c d) new (Done e) x s fits later opened is = absurd later
word_keeps line (Unset c d) new (Asked e) x s fits later opened is = is
word_keeps line (Unset c d) new (NotHome e) x s fits later opened is = is
word_keeps line (Unset c d) new (Told e) x s fits later opened is =
    put_other x.released e s false (λ same. opened (ap new.mark same ∙ fits.0)) ∙ is
word_keeps line (Delivery from to number) new (Done e) x s fits later opened is = is
word_keeps line (Delivery from to number) new (Asked e) x s fits later opened is = is
word_keeps line (Delivery from to number) new (NotHome e) x s fits later opened is = is
word_keeps line (Delivery from to number) new (Told e) x s fits later opened is =
    put_other x.released e s false (λ same. opened (ap new.mark same ∙ fits.0)) ∙ is

words_keep : (line : Line) (event : Event) (new : LineState) (ws : List Word) (x : View) (s : ℕ)
    → All (Fits line (Set 0 0) new) ws → All (IsLater event) ws → IsNotShut new s → x.released s ≡ true
    → (all_heard event ws x).released s ≡ true
words_keep line event new [] x s fits later opened is = is
words_keep line event new (w ∷ ws) x s fits later opened is =
    words_keep line event new ws (outside.hears event w x) s (All-tail (Fits line (Set 0 0) new) w ws fits)
    (All-tail (IsLater event) w ws later) opened
    (word_keeps line event new w x s (All-head (Fits line (Set 0 0) new) w ws fits)
    (All-head (IsLater event) w ws later) opened is)

-- replies after an event that is not an unset
pub later_other : (event : Event) → ((c s : ℕ) → event ≡ Unset c s → ⊥) → (ws : List Word) → All (IsLater event) ws
later_other event other [] = All-nil (IsLater event)
later_other (Bytes c read) other (w ∷ ws) =
    All-cons (IsLater (Bytes c read)) w ws tt (later_other (Bytes c read) other ws)
later_other (Set c s) other (w ∷ ws) = All-cons (IsLater (Set c s)) w ws tt (later_other (Set c s) other ws)
later_other (Unset c s) other (w ∷ ws) = absurd (other c s refl)
later_other (Delivery from to number) other (w ∷ ws) =
    All-cons (IsLater (Delivery from to number)) w ws tt (later_other (Delivery from to number) other ws)

told_later : (event : Event) (s : ℕ) → IsLater event (Told s)
told_later (Bytes c read) s = tt
told_later (Set c e) s = tt
told_later (Unset c e) s = tt
told_later (Delivery from to number) s = tt

-- reports of sections are not `Done`
all_later : (event : Event) (ss : List ℕ) → All (IsLater event) (map (λ s. Told s) ss)
all_later event [] = All-nil (IsLater event)
all_later event (s ∷ ss) = All-cons (IsLater event) (Told s) (map (λ e. Told e) ss)
    (told_later event s) (all_later event ss)

module _ (line : Line) (event : Event) where
  same_words : (said other : Said) → said ≡ other → All (IsLater event) other.words → All (IsLater event) said.words
  same_words said other is h = subst (λ (p : Said). All (IsLater event) p.words) (sym is) h

  quiet_later : (v : LineState) (q : Quiet) (said : Said) (new : LineState) → TakesQuiet line v q said new
      → All (IsLater event) said.words
  quiet_later v (Keep t s) said new h = same_words said _ h.leaves.said_is (All-nil (IsLater event))
  quiet_later v (Unkeep t s) said new h = same_words said _ h.tells.said_is (all_later event _)
  quiet_later v (Admit t c) said new h = same_words said _ h.says.said_is (All-nil (IsLater event))
  quiet_later v (Dismiss t c) said new h = same_words said _ h.says.said_is (all_later event _)
  quiet_later v (LayDown t c) said new h = same_words said _ h.leaves.said_is (All-nil (IsLater event))
  quiet_later v (TakeUp t c) said new h = same_words said _ h.leaves.said_is (All-nil (IsLater event))
  quiet_later v (Propose t c s) said new h = same_words said _ h.says.said_is (All-nil (IsLater event))
  quiet_later v (Order t c) said new h = same_words said _ h.says.said_is (All-nil (IsLater event))
  quiet_later v (EndOrder t c) said new h = same_words said _ h.says.said_is (All-nil (IsLater event))

  pub quiets_later : (v : LineState) (qs : List Quiet) (said : Said) (new : LineState) → TakesAll line v qs said new
      → All (IsLater event) said.words
  quiets_later v [] said new h = same_words said _ h.0 (All-nil (IsLater event))
  quiets_later v (q ∷ qs) said new (first, others, mid, step, rest, same) =
      same_words said _ same (All-append (IsLater event) first.words others.words (quiet_later v q first mid step)
      (quiets_later mid qs others new rest))

-- a step that opens nothing, with true replies
pub released_on : (line : Line) (event : Event) (v new : LineState) (ws : List Word) (x : View)
    → ((s : ℕ) → v.mark s ≡ Shut → new.mark s ≡ Shut) → All (Fits line (Set 0 0) new) ws → All (IsLater event) ws
    → Released v x → Released new (all_heard event ws x)
released_on line event v new ws x shut fits later old =
    record {
      each = λ s opened. words_keep line event new ws x s fits later opened
          (old.each s (λ is. opened (shut s is)));
    }
