-- The one line centre's replies to the interlocking are true after the piece.
use Rattle.std.proofs.Common.{[], ◌&&◌, ◌*◌, ◌++◌, ◌+◌, ◌==◌, ◌∙◌, ◌∷◌, ◌≡◌, ap, Bool, cond, false, if◌then◌else◌, inl}
use Rattle.std.proofs.Common.{inr, List, map, nat_le, None, not, Option, refl, Some, subst, suc, sym, true, zero, ℕ}
use Rattle.std.proofs.lemmas.Bool.{and_parts}
use Rattle.std.proofs.lemmas.List.Elements.{All-append, All-cons, All-nil, All-weaker}
use Rattle.std.specs.List.{All, filter, range_with_len}
use Rattle.law_base.proofs.PiecesLemmas.Frees.{by_test}
use Rattle.law_base.proofs.PiecesLemmas.OwnFrees.{closed_mark}
use Rattle.law_base.proofs.PiecesLemmas.Waits.{Leaves, quiet_leaves, quiets_leave, WaitsKeep}
use Rattle.rbc_spec.specs.Centre.{is_registrar_of}
use Rattle.rbc_spec.specs.Line.{end, is_home, Line, start}
use Rattle.rbc_spec.specs.LineCentre.{close_if_empty, free, is_given_to, is_waiting_at, Kept, LineState, Mark, mark_all}
use Rattle.rbc_spec.specs.LineCentre.{release, Said, Shut, supervises, told}
use Rattle.rbc_spec.specs.Message.{EndOfMission, InitiationOfSession, Report, Request, SessionEstablished}
use Rattle.rbc_spec.specs.Message.{ShorteningGranted, ShorteningRejected, StartOfMission, TerminationOfSession}
use Rattle.rbc_spec.specs.Message.{TrainBody, TrainData, TrainMessage}
use Rattle.rbc_spec.specs.Outcome.{Asked, Done, NotHome, Told, Word}
use Rattle.rbc_spec.specs.OwnSteps.{ended, Ending, has_reached, is_ahead_of, is_cleared_of, is_cut_of, last_kept_of}
use Rattle.rbc_spec.specs.OwnSteps.{may_start, Own, Rejects, release_words, reported, shortened, shortening_words}
use Rattle.rbc_spec.specs.OwnSteps.{Starts, StartsHere, stopped, stopping_words, Tells, track_of, without_ask}
use Rattle.rbc_spec.specs.Place.{covered, fit_place, Place, place_on}
use Rattle.rbc_spec.specs.Quiet.{Admit, Dismiss, EndOrder, Keep, LayDown, Order, Propose, Quiet, TakesAll, TakesQuiet}
use Rattle.rbc_spec.specs.Quiet.{TakeUp, Unkeep}
use Rattle.rbc_spec.specs.SectionRuns.{all_of}
use Rattle.rbc_spec.specs.Sections.{section_count}
use Rattle.rbc_spec.specs.World.{Event, Unset}

-- the section is shut, and not wished back
abbrev pub IsShut : LineState → ℕ → Type 0
IsShut new s = (new.mark s ≡ Shut) × (new.wish s ≡ false)

-- the reply is true after the event
abbrev pub Fits : Line → Event → LineState → Word → Type 0
Fits line event new (Told s) = IsShut new s
Fits line event new (Done s) = (c : ℕ) → event ≡ Unset c s → IsShut new s × (is_home line c s ≡ true)
Fits line event new (Asked s) = Unit {0}
Fits line event new (NotHome s) = Unit {0}

fits_still : (line : Line) (event : Event) (v new : LineState) → ((s : ℕ) → IsShut v s → IsShut new s) → (word : Word)
    → Fits line event v word → Fits line event new word
fits_still line event v new still (Told s) h = still s h
fits_still line event v new still (Done s) h = λ c is. (still s (h c is).0, (h c is).1)
fits_still line event v new still (Asked s) h = h
fits_still line event v new still (NotHome s) h = h

closed_wish : (b : Bool) (x y : LineState) → y.wish ≡ x.wish → (if b then x else y).wish ≡ x.wish
closed_wish true x y same = refl
closed_wish false x y same = same

module _ (line : Line) (event : Event) where
  pub no_words : (new : LineState) → All (Fits line event new) []
  no_words new = All-nil (Fits line event new)

  -- a freed section is shut if it was wished back
  told_fits : (v base new : LineState) (f : ℕ → Bool) → new.mark ≡ (free f base).mark → new.wish ≡ (free f base).wish
      → base.wish ≡ v.wish → All (Fits line event new) (told line f v)
  told_fits v base new f marks wishes same = each 0 (section_count line)
    where
      is_shut : (s : ℕ) → f s ≡ true → v.wish s ≡ true → IsShut new s
      is_shut s so wished =
          let was : base.wish s ≡ true = ap (λ (g : ℕ → Bool). g s) same ∙ wished in
          let mark : (free f base).mark s ≡ Shut = rw (so) (rw (was) refl) in
          let wish : (free f base).wish s ≡ false = rw (so) refl in
          (ap (λ (g : ℕ → Mark). g s) marks ∙ mark, ap (λ (g : ℕ → Bool). g s) wishes ∙ wish)

      by_one : (a n : ℕ) (b : Bool) → (f a && v.wish a) ≡ b
          → All (Fits line event new) (map (λ s. Told s) (filter (λ s. f s && v.wish s) (range_with_len (a + 1) n)))
          → All (Fits line event new)
          (map (λ s. Told s) (cond b (a ∷ filter (λ s. f s && v.wish s) (range_with_len (a + 1) n))
          (filter (λ s. f s && v.wish s) (range_with_len (a + 1) n))))
      by_one a n true is others = let parts = and_parts (f a) (v.wish a) is in
          All-cons (Fits line event new) (Told a) _ (is_shut a parts.0 parts.1) others
      by_one a n false is others = others

      each : (a n : ℕ)
          → All (Fits line event new) (map (λ s. Told s) (filter (λ s. f s && v.wish s) (range_with_len a n)))
      each a zero = no_words new
      each a (suc n) = by_one a n (f a && v.wish a) refl (each (a + 1) n)

  pub fits_said : (new : LineState) (said other : Said) → said ≡ other → All (Fits line event new) other.words
      → All (Fits line event new) said.words
  fits_said new said other is fits = subst (λ (x : Said). All (Fits line event new) x.words) (sym is) fits

  -- ## Quiet steps

  quiet_fits : (v : LineState) (q : Quiet) (said : Said) (new : LineState) → TakesQuiet line v q said new
      → All (Fits line event new) said.words
  quiet_fits v (Keep t s) said new h = fits_said new said _ h.leaves.said_is (no_words new)
  quiet_fits v (Unkeep t s) said new h =
      fits_said new said _ h.tells.said_is
      (told_fits v v new (λ e. e == s) (ap (λ (x : LineState). x.mark) h.tells.new_is)
      (ap (λ (x : LineState). x.wish) h.tells.new_is) refl)
  quiet_fits v (Admit t c) said new h = fits_said new said _ h.says.said_is (no_words new)
  quiet_fits v (Dismiss t c) said new h =
      fits_said new said _ h.says.said_is
      (told_fits v v new (is_waiting_at line v t c) (ap (λ (x : LineState). x.mark) h.says.new_is)
      (ap (λ (x : LineState). x.wish) h.says.new_is) refl)
  quiet_fits v (LayDown t c) said new h = fits_said new said _ h.leaves.said_is (no_words new)
  quiet_fits v (TakeUp t c) said new h = fits_said new said _ h.leaves.said_is (no_words new)
  quiet_fits v (Propose t c s) said new h = fits_said new said _ h.says.said_is (no_words new)
  quiet_fits v (Order t c) said new h = fits_said new said _ h.says.said_is (no_words new)
  quiet_fits v (EndOrder t c) said new h = fits_said new said _ h.says.said_is (no_words new)

  pub fits_on : (v new : LineState) (words : List Word) → Leaves line v new → All (Fits line event v) words
      → All (Fits line event new) words
  fits_on v new words leaves fits = All-weaker (Fits line event v) (Fits line event new)
      (fits_still line event v new (λ s is. leaves.shut s is.0 is.1)) words fits

  pub quiets_fit : (v : LineState) → WaitsKeep line v → (qs : List Quiet) (said : Said) (new : LineState)
      → TakesAll line v qs said new → All (Fits line event new) said.words
  quiets_fit v keep [] said new h = fits_said new said _ h.0 (no_words new)
  quiets_fit v keep (q ∷ qs) said new (first, others, mid, step, rest, same) =
      let one = quiet_leaves line v keep q first mid step in
      let two = quiets_leave line mid one.waits qs others new rest in
      fits_said new said _ same (All-append (Fits line event new) first.words others.words
      (fits_on mid new first.words two (quiet_fits v q first mid step))
      (quiets_fit mid one.waits qs others new rest))

  -- ## Own steps

  -- sections of the hand are released, from a state with the same wishes
  let_go : (v base new : LineState) (c t : ℕ) (f : ℕ → Bool) → base.wish ≡ v.wish
      → new.mark ≡ (release line c t f base).mark → new.wish ≡ (release line c t f base).wish
      → All (Fits line event new) (release_words line c f v)
  let_go v base new c t f same marks wishes =
      told_fits v (mark_all (λ s. f s && not (is_home line c s)) (Kept t) base) new
      (λ s. f s && is_home line c s) marks wishes same

  -- other changes follow: a shut section stays shut
  shut_still : (v new : LineState) (c t : ℕ) (f : ℕ → Bool) → ((s : ℕ) → f s ≡ true → is_given_to t (v.mark s) ≡ true)
      → new.mark ≡ (release line c t f v).mark → new.wish ≡ (release line c t f v).wish
      → (s : ℕ) → IsShut v s → IsShut new s
  shut_still v new c t f of_hand marks wishes s is = by_released (f s) refl
    where
      by_released : (b : Bool) → f s ≡ b → IsShut new s
      by_released true so = absurd (let wrong : true ≡ false = sym (of_hand s so) ∙ ap (is_given_to t) is.0 in cc)
      by_released false so =
          let mark : (release line c t f v).mark s ≡ v.mark s = rw (so) refl in
          let wish : (release line c t f v).wish s ≡ v.wish s = rw (so) refl in
          (ap (λ (g : ℕ → Mark). g s) marks ∙ mark ∙ is.0, ap (λ (g : ℕ → Bool). g s) wishes ∙ wish ∙ is.1)

  reported_fits : (v : LineState) (c t : ℕ) (place : Place)
      → All (Fits line event (reported line t c place v)) (release_words line c (is_cleared_of line v t place) v)
  reported_fits v c t place = let_go v v (reported line t c place v) c t (is_cleared_of line v t place) refl
      (closed_mark _ _ _ refl) (closed_wish _ _ _ refl)

  stopped_fits : (v : LineState) (c : ℕ) (new : LineState) (t : ℕ) (place : Place)
      → new ≡ ended t (stopped line t c place (reported line t c place v))
      → All (Fits line event new) (release_words line c (is_cleared_of line v t place) v
      ++ stopping_words line t c place (reported line t c place v))
  stopped_fits v c new t place is = by_reached (has_reached line there t place) is
    where
      there : LineState
      there = reported line t c place v

      by_reached : (b : Bool)
          → new ≡ ended t (if b then release line c t (is_ahead_of line there t place) there else there)
          → All (Fits line event new) (release_words line c (is_cleared_of line v t place) v
          ++ (if b then release_words line c (is_ahead_of line there t place) there else []))
      by_reached false is = All-append (Fits line event new) _ []
          (All-weaker (Fits line event there) (Fits line event new)
          (fits_still line event there new
          (λ s so. (ap (λ (x : LineState). x.mark s) is ∙ so.0, ap (λ (x : LineState). x.wish s) is ∙ so.1))) _
          (reported_fits v c t place)) (no_words new)
      by_reached true is = All-append (Fits line event new) _ _
          (All-weaker (Fits line event there) (Fits line event new) (fits_still line event there new
          (shut_still there new c t (is_ahead_of line there t place)
          (λ s so. (and_parts (is_given_to t (there.mark s)) (nat_le place.front (10 * start line s)) so).0)
          (ap (λ (x : LineState). x.mark) is) (ap (λ (x : LineState). x.wish) is))) _ (reported_fits v c t place))
          (let_go there there new c t (is_ahead_of line there t place) refl (ap (λ (x : LineState). x.mark) is)
          (ap (λ (x : LineState). x.wish) is))

  module _ (v : LineState) (c : ℕ) (said : Said) (new : LineState) where
    reject_fits : (t : ℕ) → Rejects t c v said new → All (Fits line event new) said.words
    reject_fits t h = fits_said new said _ h.said_is (no_words new)

    here_fits : (t : ℕ) (place : Place) → StartsHere line t c place v said new → All (Fits line event new) said.words
    here_fits t place (inl h) = fits_said new said _ h.1.said_is (no_words new)
    here_fits t place (inr h) = reject_fits t h

    starts_fit : (t : ℕ) (o : Option Place) → Starts line t c o v said new → All (Fits line event new) said.words
    starts_fit t None h = reject_fits t h
    starts_fit t (Some place) h = by_test (supervises v c t) _ _
        (λ _ r. by_test (all_of (λ s. is_given_to t (v.mark s)) (covered line place)) _ _
        (λ _ a. fits_said new said _ a.said_is (no_words new)) (λ _ a. reject_fits t a) r)
        (λ _ n. by_test (may_start line v c place) _ _
        (λ _ m. by_test (is_registrar_of line c t) _ _ (λ _ a. here_fits t place a)
        (λ _ a. fits_said new said _ a.said_is (no_words new)) m) (λ _ a. reject_fits t a) n) h

    release_fits : (t : ℕ) (f : ℕ → Bool) (base : LineState) → base.wish ≡ v.wish
        → new.mark ≡ (release line c t f base).mark → new.wish ≡ (release line c t f base).wish
        → All (Fits line event new) (release_words line c f v)
    release_fits t f base = let_go v base new c t f

    reports_fit : (t : ℕ) (place : Place)
        → Tells (release_words line c (is_cleared_of line v t place) v) (reported line t c place v) said new
        → All (Fits line event new) said.words
    reports_fit t place h = fits_said new said _ h.said_is (release_fits t (is_cleared_of line v t place) v refl
        (ap (λ (x : LineState). x.mark) h.new_is ∙ closed_mark _ _ _ refl) (ap (λ (x : LineState). x.wish) h.new_is
        ∙ closed_wish _ _ _ refl))

    ending_fits : (t : ℕ) (still : Bool) (o : Option Place) → Ending line t c still o v said new
        → All (Fits line event new) said.words
    ending_fits t still None h = fits_said new said _ h.said_is (no_words new)
    ending_fits t false (Some place) h =
        fits_said new said _ h.said_is (release_fits t (is_cleared_of line v t place) v refl
        (ap (λ (x : LineState). x.mark) h.new_is ∙ closed_mark _ _ _ refl) (ap (λ (x : LineState). x.wish) h.new_is
        ∙ closed_wish _ _ _ refl))
    ending_fits t true (Some place) h = fits_said new said _ h.said_is (stopped_fits v c new t place h.new_is)

    cut_fits : (t last_kept : ℕ) (o : Option Place) → new ≡ shortened line t c o last_kept (without_ask t v)
        → All (Fits line event new) (shortening_words line t c o last_kept v)
    cut_fits t last_kept None h = no_words new
    cut_fits t last_kept (Some place) h = by_time (nat_le place.front (10 * end line last_kept)) h
      where
        by_time : (b : Bool)
            → new ≡ (if b then close_if_empty line t
            (release line c t (is_cut_of (without_ask t v) t last_kept) (without_ask t v)) else without_ask t v)
            → All (Fits line event new) (if b then release_words line c (is_cut_of v t last_kept) v else [])
        by_time false is = no_words new
        by_time true is = release_fits t (is_cut_of v t last_kept) (without_ask t v) refl
            (ap (λ (x : LineState). x.mark) is ∙ closed_mark _ _ _ refl) (ap (λ (x : LineState). x.wish) is
            ∙ closed_wish _ _ _ refl)

    pub own_fits : (m : TrainMessage) (body : TrainBody) → Own line v c m body said new
        → All (Fits line event new) said.words
    own_fits m InitiationOfSession h =
        fits_said new said _ h.said_is (told_fits v v new (is_waiting_at line v m.nid_engine c)
        (ap (λ (x : LineState). x.mark) h.new_is) (ap (λ (x : LineState). x.wish) h.new_is) refl)
    own_fits m TerminationOfSession h =
        fits_said new said _ h.said_is (told_fits v v new (is_waiting_at line v m.nid_engine c)
        (ap (λ (x : LineState). x.mark) h.new_is) (ap (λ (x : LineState). x.wish) h.new_is) refl)
    own_fits m SessionEstablished h = fits_said new said _ h.said_is (no_words new)
    own_fits m (StartOfMission is_valid position) h = starts_fit m.nid_engine (fit_place line is_valid position) h
    own_fits m (TrainData position) h = fits_said new said _ h.said_is (no_words new)
    own_fits m (Request position) h = fits_said new said _ h.2.says_it.said_is (no_words new)
    own_fits m (Report position) h = reports_fit m.nid_engine h.0 h.2
    own_fits m (ShorteningGranted stamp position) h =
        fits_said new said _ h.said_is (cut_fits m.nid_engine (last_kept_of v m.nid_engine)
        (place_on line (track_of v m.nid_engine) position) h.new_is)
    own_fits m (ShorteningRejected stamp position) h = fits_said new said _ h.said_is (no_words new)
    own_fits m (EndOfMission position) h =
        ending_fits m.nid_engine (position.v_train == 0) (place_on line (track_of v m.nid_engine) position) h
