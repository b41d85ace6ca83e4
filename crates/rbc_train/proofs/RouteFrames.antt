-- Frames about lent sections have the effect of their definitions.
use Rattle.std.proofs.Common.{[], if◌then◌else◌, ◌+◌, ◌-◌, ◌<◌, ◌∙◌, ◌∷◌, ◌≡◌, ◌≤◌, ap, arith, Bool, false, is_some}
use Rattle.std.proofs.Common.{length, List, map, None, Option, option_map, refl, slice_get, Some, subst, suc, sym, true}
use Rattle.std.proofs.Common.{zero, ℕ}
use Rattle.std.proofs.lemmas.List.{append-nil}
use Rattle.std.proofs.lemmas.Option.{none-some, slice_get_past}
use Rattle.rbc_book.specs.Book.{is_own, Pages}
use Rattle.rbc_border.specs.Lending.{HasBook, sending, telling, with_book}
use Rattle.rbc_line.specs.declared.section_run.SectionRun.{SectionRun as SectionRunCode}
use Rattle.rbc_line.specs.SectionRuns.{run_of}
use Rattle.rbc_linkmsg.specs.Bodies.{body_of}
use Rattle.rbc_linkmsg.specs.declared.body.Body.{Body}
use Rattle.rbc_mission.specs.Supervisions.{pool_of, SupervisionState, with_pool, with_supervision, without_section}
use Rattle.rbc_right.specs.Rights.{Rights}
use Rattle.rbc_spec.specs.Acts.{◌>>◌, Act, freed, propose_if_so, rest, returned, send}
use Rattle.rbc_spec.specs.Centre.{Centre, is_out_for, uses_some}
use Rattle.rbc_spec.specs.Frame.{RouteInfo}
use Rattle.rbc_spec.specs.Line.{Line, section}
use Rattle.rbc_spec.specs.Links.{route_asked, route_withdrawn}
use Rattle.rbc_spec.specs.Outcome.{Saying, Told}
use Rattle.rbc_spec.specs.SectionRuns.{all_of, part_before, part_from, SectionRun, within}
use Rattle.rbc_train.proofs.Desk.{asked_is, book_left, has_train, same_mission, same_parts, same_question}
use Rattle.rbc_train.proofs.Letters.{sends_home}
use Rattle.rbc_train.proofs.Runs.{all_each, all_fails}
use Rattle.rbc_train.proofs.Turns.{has_left, in_turn, parts_over}
use Rattle.rbc_train.specs.declared.heard.Heard.{Heard}
use Rattle.rbc_train.specs.declared.mail.Notice.TheVariants as notice
use Rattle.rbc_train.specs.declared.train.TrainState.{TrainState}
use Rattle.rbc_train.specs.Desk.{HasParts, posted, replied, reply_left, with_parts}
use Rattle.rbc_train.specs.Letters.{going_home, mail_home, mail_of}
use Rattle.rbc_train.specs.Trains.{asked, HasTrain}

-- a centre gets a body about the train, by the number that was read
pub told_as : (line : Line) (c t d u : ℕ) (make : ℕ → Body) (k : Centre) (h : Heard) → u ≡ t
    → h ≡ record { saying = None; order = None; mail = mail_of (Some (record { to = d; body = make u })); told = [] }
    → send d (body_of (make t)) k ≡ reply_left line c t k h
told_as line c t d u make k h same is = λ i. reply_left line c t k
    ((ap (λ (e : ℕ). record {
      saying = None;
      order = None;
      mail = mail_of (Some (record { to = d; body = make e }));
      told = [];
    }) (sym same) ∙ sym is) i)

-- sections are returned, without a message
pub goes_back : (line : Line) (c t track : ℕ) (sections : SectionRunCode) (k : Centre) (h : Heard)
    → h ≡ record { saying = None; order = None; mail = mail_home track sections notice.Nothing None; told = [] }
    → returned line c t track (run_of sections) k ≡ reply_left line c t k h
goes_back line c t track sections k h is =
    (λ i.
    posted
    (λ d. (sym (sends_home line c t track (run_of sections) k d)
    ∙ sym (append-nil (going_home line c t track (run_of sections) d))) i) (replied k [] []))
    ∙ ap (reply_left line c t k) (sym is)

-- whether some section is in use, by the number that was read of the train
pub same_use : (line : Line) (c : ℕ) (k : Centre) (u t : ℕ) (b : Bool) → u ≡ t → b ≡ uses_some line c k u
    → uses_some line c k t ≡ b
same_use line c k u t b same is = ap (uses_some line c k) (sym same) ∙ sym is

-- the train from which a section was withdrawn is the same train
pub same_train : (s : ℕ) (old left : SupervisionState) → left ≡ without_section s old
    → (left.engine ≡ old.engine) × (left.number ≡ old.number)
same_train s old left is = by (within (pool_of old) s) is
  where
    by : (b : Bool) → left ≡ (if b then with_pool (part_before s (pool_of old)) old else old)
        → (left.engine ≡ old.engine) × (left.number ≡ old.number)
    by true e = (ap (λ (x : SupervisionState). x.engine) e, ap (λ (x : SupervisionState). x.number) e)
    by false e = (ap (λ (x : SupervisionState). x.engine) e, ap (λ (x : SupervisionState). x.number) e)

-- ## Sections of the line

section_there : (line : Line) (s : ℕ) → s < length line.sections → is_some (section line s) ≡ true
section_there line s few = by line.sections s few
  where
    by : {X : Type 0} (xs : List X) (i : ℕ) → i < length xs → is_some (slice_get xs i) ≡ true
    by [] i lt = absurd (omega (arith, lt))
    by (x ∷ xs) zero lt = refl
    by (x ∷ xs) (suc i) lt = by xs i (omega (arith, lt))

pub no_section : (line : Line) (s : ℕ) → length line.sections ≤ s → is_some (section line s) ≡ false
no_section line s past = ap is_some (slice_get_past line.sections s past)

pub some_section : (line : Line) (s : ℕ) → s < length line.sections → is_some (section line s) ≡ true
some_section line s few = section_there line s few

pub all_sections : (line : Line) (r : SectionRun) → r.first + r.count ≤ length line.sections
    → all_of (λ s. is_some (section line s)) r ≡ true
all_sections line r few =
    all_each (λ s. is_some (section line s)) r.count r.first
    (λ j lt. section_there line (r.first + j) (omega (arith, few, lt)))

pub not_all_sections : (line : Line) (r : SectionRun) → 1 ≤ r.count → length line.sections < r.first + r.count
    → all_of (λ s. is_some (section line s)) r ≡ false
not_all_sections line r some past =
    all_fails (λ s. is_some (section line s)) r.count r.first (r.count - 1) (omega (arith, some))
    (no_section line (r.first + (r.count - 1)) (omega (arith, some, past)))

module _ (line : Line) (c : ℕ) (k : Centre) (p : TrainState) (book : Pages) (rights : Rights)
    (has : HasParts line c k p book rights) where
  abbrev t : ℕ
  t = p.supervision.engine

  -- the centre's part of its book
  pub has_pages : HasBook line c k book
  has_pages = record { homes = has.homes; has_book = has.has_book; has_wish = has.has_wish }

  -- ## Sections are lent

  pub lends : (d u first most : ℕ) (o : Option SectionRunCode) (book' : Pages) → u ≡ t
      → route_asked line c d u first most k
      ≡ sending d (option_map (λ run. RouteInfo u (run_of run)) o) (with_book book' k)
      → route_asked line c d t first most k
      ≡ sending d (option_map (λ run. RouteInfo t (run_of run)) o) (with_parts p book' rights k)
  lends d u first most o book' same is =
      ap (λ (e : ℕ). route_asked line c d e first most k) (sym same) ∙ is
      ∙ (λ i. sending d (option_map (λ run. RouteInfo (same i) (run_of run)) o)
      (book_left line c k p book rights has book' i))

  -- ## One is wished back

  pub unsupervised : (s : ℕ) (b : Bool) → p.supervision.mission ≡ None
      → (if b then route_withdrawn line c t s else rest) k ≡ replied (with_parts p book rights k) [] []
  unsupervised s false none = same_parts line c k p book rights has
  unsupervised s true none = let missing : k.mission t ≡ None = has.has_mission ∙ none in
      rw missing (same_parts line c k p book rights has)

  -- with its own supervision a centre is as it was
  same_supervision : with_supervision p.supervision k ≡ k
  same_supervision =
      λ i. record k {
        mission = λ u. sym (same_mission line c k p book rights has u) i;
        route_ask = λ u. sym (same_question line c k p book rights has u) i;
      }

  -- if the section is not in the pool, nothing leaves the pool
  pub kept_pool : (s : ℕ) (o : Option SectionRunCode) (left : SupervisionState) → o ≡ None
      → option_map run_of o
      ≡ (if within (pool_of p.supervision) s then Some (part_from s (pool_of p.supervision)) else None)
      → left ≡ without_section s p.supervision → left ≡ p.supervision
  kept_pool s o left none run is = is ∙ by (within (pool_of p.supervision) s) (sym (ap (option_map run_of) none) ∙ run)
    where
      by : (b : Bool) → None ≡ (if b then Some (part_from s (pool_of p.supervision)) else None)
          → (if b then with_pool (part_before s (pool_of p.supervision)) p.supervision else p.supervision)
          ≡ p.supervision
      by true e = absurd (none-some _ e)
      by false e = refl

  pub asks_back : (s : ℕ) (left : SupervisionState) (q : TrainState) (sayings : List Saying) → left ≡ p.supervision
      → route_withdrawn line c t s k ≡ propose_if_so line t s (with_supervision left k)
      → ((j : Centre) → HasTrain j left.engine (record p { supervision = left })
      → propose_if_so line left.engine s j ≡ asked left.engine q sayings j)
      → q.supervision.engine ≡ left.engine → q.supervision.number ≡ left.number → q.supervision.asked ≡ left.asked
      → q.session_state ≡ p.session_state → q.heard ≡ p.heard → q.waiting ≡ p.waiting → q.expectations ≡ p.expectations
      → route_withdrawn line c t s k ≡ replied (with_parts q book rights k) sayings []
  asks_back s left q sayings same is asks engine number question session heard waiting expectations =
      is ∙ (λ i. propose_if_so line t s (with_supervision (same i) k)) ∙ ap (propose_if_so line t s) same_supervision
      ∙ subst (λ (x : SupervisionState). (j : Centre) → HasTrain j x.engine (record p { supervision = x })
      → propose_if_so line x.engine s j ≡ asked x.engine q sayings j) same asks k (has_train line c k p book rights has)
      ∙ asked_is line c k p book rights has q sayings (engine ∙ ap (λ (x : SupervisionState). x.engine) same)
      (number ∙ ap (λ (x : SupervisionState). x.number) same)
      (question ∙ ap (λ (x : SupervisionState). x.asked) same) session heard waiting expectations

  -- ## Sections are returned

  pub comes_home : (u : ℕ) (r : SectionRun) (book' : Pages) (told : List ℕ) (after : Act) (q : TrainState)
      (sayings : List Saying) → u ≡ t → freed line c (is_out_for u) r k ≡ telling told (with_book book' k)
      → ((s : ℕ) → is_own book' s ≡ is_own book s) → q.supervision.engine ≡ t
      → ((j : Centre) → HasParts line c j p book' rights → after j ≡ replied (with_parts q book' rights j) sayings [])
      → (freed line c (is_out_for t) r >> after) k ≡ replied (with_parts q book' rights k) sayings told
  comes_home u r book' told after q sayings same frees homes engine next =
      let j : Centre = with_parts p book' rights k in
      in_turn (freed line c (is_out_for t) r) after k (replied j [] told)
      (replied (with_parts q book' rights j) sayings [])
      (ap (λ (e : ℕ). freed line c (is_out_for e) r k) (sym same) ∙ frees
      ∙ ap (λ (x : Centre). replied x [] told) (book_left line c k p book rights has book'))
      (next j (has_left line c k p p book book' rights rights has homes has.kept))
      ∙ (λ i. record {
        state = parts_over p q book' book' rights rights k engine i;
        frames = λ d. [];
        sayings = sayings;
        words = append-nil (map (λ s. Told s) told) i;
      })
