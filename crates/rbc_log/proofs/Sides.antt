-- Logs side by side: the entries of each centre, and its last state.
use Rattle.std.proofs.Common.{[], ◌++◌, ◌==◌, ◌||◌, ◌∙◌, ◌∷◌, ◌≡◌, All, ap, append-nil, arith, Bool, false}
use Rattle.std.proofs.Common.{if◌then◌else◌, inl, inr, IsPermutation, IsTrue, length, List, map, None, refl, slice_get}
use Rattle.std.proofs.Common.{Some, subst, suc, sym, true, zero, ℕ}
use Rattle.std.proofs.lemmas.Bool.{eq-eqb}
use Rattle.std.proofs.lemmas.Bool.Decides.{eqb_tells}
use Rattle.std.proofs.lemmas.List.{map-append}
use Rattle.std.proofs.lemmas.List.Elements.{All-cons, All-head, All-nil, All-tail, filter-append}
use Rattle.std.proofs.lemmas.List.Sorted.{IsPermutation-map}
use Rattle.std.proofs.lemmas.Option.{same_Some}
use Rattle.std.specs.List.{list_any}
use Rattle.std.specs.Option.{option_map_or}
use Rattle.law_logs.specs.Logs.{AreLogs, entries_of, LogEntry, Replays}
use Rattle.rbc_centre.specs.States.{line_of, number_of, state_of}
use Rattle.rbc_centre.specs.Views.{event_of}
use Rattle.rbc_log.specs.declared.entry.Entry.{Entry}
use Rattle.rbc_log.specs.Entries.{entry_of, Written, written_of}
use Rattle.rbc_log.specs.Log.{IsReplaying, LogValue}
use Rattle.rbc_log.specs.Merge.{all_entries, AreOfCentres, AreOfLine, AreOfOneLine, ends_by, log_of, logs_by}
use Rattle.rbc_spec.specs.Centre.{beginning, Centre}
use Rattle.rbc_spec.specs.Line.{is_centre, Line}

-- ## Entries of one centre

own : (line : Line) (c : ℕ) (k : Centre) (es : List LogEntry) (last : Centre) → Replays line c k es last
    → All (λ (e : LogEntry). e.centre ≡ c) es
own line c k [] last r = All-nil (λ (e : LogEntry). e.centre ≡ c)
own line c k (e ∷ es) last r = All-cons (λ (f : LogEntry). f.centre ≡ c) e es r.1 (own line c r.0 es last r.3)

all_own : (c : ℕ) (es : List LogEntry) → All (λ (e : LogEntry). e.centre ≡ c) es → entries_of c es ≡ es
all_own c [] all = refl
all_own c (e ∷ es) all =
    ap (λ b. if b then (e ∷ entries_of c es) else entries_of c es)
    (eq-eqb e.centre c (All-head (λ (f : LogEntry). f.centre ≡ c) e es all))
    ∙ ap (λ zs. e ∷ zs) (all_own c es (All-tail (λ (f : LogEntry). f.centre ≡ c) e es all))

none_own : (c d : ℕ) (es : List LogEntry) → (d == c) ≡ false → All (λ (e : LogEntry). e.centre ≡ d) es
    → entries_of c es ≡ []
none_own c d [] apart all = refl
none_own c d (e ∷ es) apart all =
    ap (λ b. if b then (e ∷ entries_of c es) else entries_of c es)
    (ap (λ x. x == c) (All-head (λ (f : LogEntry). f.centre ≡ d) e es all) ∙ apart)
    ∙ none_own c d es apart (All-tail (λ (f : LogEntry). f.centre ≡ d) e es all)

own_log : (l : LogValue) → IsReplaying l → All (λ (e : LogEntry). e.centre ≡ number_of l.core) (map entry_of l.entries)
own_log l r =
    own (line_of l.core) (number_of l.core) (beginning (line_of l.core) (number_of l.core)) (map entry_of l.entries)
    (state_of l.core) r

-- ## No two logs of one centre

abbrev pub has_log : ℕ → List LogValue → Bool
has_log c logs = list_any (λ (l : LogValue). number_of l.core == c) logs

or_parts : (a b : Bool) → (a || b) ≡ false → (a ≡ false) × (b ≡ false)
or_parts true b h = absurd cc
or_parts false b h = (refl, h)

-- a log of the centre is found, and none if there is none
has_log_at : (c : ℕ) (logs : List LogValue) (j : ℕ) (m : LogValue) → slice_get logs j ≡ Some m → number_of m.core ≡ c
    → has_log c logs ≡ true
has_log_at c [] j m at is = absurd cc
has_log_at c (l ∷ ls) zero m at is =
    let here : number_of l.core ≡ c = ap (λ (x : LogValue). number_of x.core) (same_Some l m at) ∙ is in
    ap (λ b. b || has_log c ls) (eq-eqb (number_of l.core) c here)
has_log_at c (l ∷ ls) (suc j) m at is =
    let there : has_log c ls ≡ true = has_log_at c ls j m at is in
    ap (λ b. (number_of l.core == c) || b) there ∙ either (number_of l.core == c)
  where
    either : (b : Bool) → (b || true) ≡ true
    either true = refl
    either false = refl

log_there : (c : ℕ) (logs : List LogValue) → has_log c logs ≡ true
    → (j : ℕ) × (m : LogValue) × (slice_get logs j ≡ Some m) × (number_of m.core ≡ c)
log_there c [] h = absurd cc
log_there c (l ∷ ls) h = elim (eqb_tells (number_of l.core) c) [
  | inl t ↦ (0, l, refl, t.1)
  | inr f ↦
      let rest = log_there c ls (subst (λ b. (b || has_log c ls) ≡ true) f.0 h) in
      (suc rest.0, rest.1, rest.2, rest.3)
]

no_log : (c : ℕ) (logs : List LogValue) → has_log c logs ≡ false → log_of c logs ≡ None
no_log c [] h = refl
no_log c (l ∷ ls) h =
    let parts = or_parts (number_of l.core == c) (has_log c ls) h in
    ap (λ b. if b then Some l else log_of c ls) parts.0 ∙ no_log c ls parts.1

pub distinct_cons : (l : LogValue) (ls : List LogValue) → has_log (number_of l.core) ls ≡ false → AreOfCentres ls
    → AreOfCentres (l ∷ ls)
distinct_cons l ls none rest zero zero x y at_i at_j same = refl
distinct_cons l ls none rest zero (suc j) x y at_i at_j same =
    let mine : number_of y.core ≡ number_of l.core =
    sym same ∙ ap (λ (z : LogValue). number_of z.core) (sym (same_Some l x at_i)) in
    let found = has_log_at (number_of l.core) ls j y at_j mine in absurd cc
distinct_cons l ls none rest (suc i) zero x y at_i at_j same =
    let mine : number_of x.core ≡ number_of l.core =
    same ∙ ap (λ (z : LogValue). number_of z.core) (sym (same_Some l y at_j)) in
    let found = has_log_at (number_of l.core) ls i x at_i mine in absurd cc
distinct_cons l ls none rest (suc i) (suc j) x y at_i at_j same = ap suc (rest i j x y at_i at_j same)

pub distinct_head : (l : LogValue) (ls : List LogValue) → AreOfCentres (l ∷ ls) → has_log (number_of l.core) ls ≡ false
distinct_head l ls all = by_case (has_log (number_of l.core) ls) refl
  where
    by_case : (b : Bool) → has_log (number_of l.core) ls ≡ b → has_log (number_of l.core) ls ≡ false
    by_case false is = is
    by_case true is =
        let it = log_there (number_of l.core) ls is in
        let wrong : 0 ≡ suc it.0 = all 0 (suc it.0) l it.1 refl it.2 (sym it.3) in
        absurd (let never : ⊥ = omega (arith, wrong) in never)

pub distinct_tail : (l : LogValue) (ls : List LogValue) → AreOfCentres (l ∷ ls) → AreOfCentres ls
distinct_tail l ls all i j x y at_i at_j same =
    let next : suc i ≡ suc j = all (suc i) (suc j) x y at_i at_j same in omega (arith, next)

-- ## The results of the tests of a merge

module _ (logs : List LogValue) (l : LogValue) (ls : List LogValue) (is : logs ≡ l ∷ ls) where
  pub distinct_then : (c : ℕ) (found answer : Bool) → c ≡ number_of l.core → found ≡ has_log c ls → found ≡ false
      → (IsTrue answer → AreOfCentres ls) × (AreOfCentres ls → IsTrue answer)
      → (IsTrue answer → AreOfCentres logs) × (AreOfCentres logs → IsTrue answer)
  distinct_then c found answer number says none tells =
      let none_of : has_log (number_of l.core) ls ≡ false = ap (λ x. has_log x ls) (sym number) ∙ sym says ∙ none in (
        λ h. subst (λ (ms : List LogValue). AreOfCentres ms) (sym is) (distinct_cons l ls none_of (tells.0 h)),
        λ h. tells.1 (distinct_tail l ls (subst (λ (ms : List LogValue). AreOfCentres ms) is h)),
      )

  pub distinct_else : (c : ℕ) (found : Bool) → c ≡ number_of l.core → found ≡ has_log c ls → found ≡ true
      → AreOfCentres logs → ⊥
  distinct_else c found number says some h =
      let none_of : has_log (number_of l.core) ls ≡ false =
      distinct_head l ls (subst (λ (ms : List LogValue). AreOfCentres ms) is h) in
      let some_of : has_log (number_of l.core) ls ≡ true = ap (λ x. has_log x ls) (sym number) ∙ sym says ∙ some in
      let wrong : true ≡ false = sym some_of ∙ none_of in absurd cc

  pub of_line_then : (line : Line) (answer : Bool) → line_of l.core ≡ line
      → (IsTrue answer → AreOfLine line ls) × (AreOfLine line ls → IsTrue answer)
      → (IsTrue answer → AreOfLine line logs) × (AreOfLine line logs → IsTrue answer)
  of_line_then line answer here tells = (
    λ h. subst (λ (ms : List LogValue). AreOfLine line ms) (sym is)
        (All-cons (λ (m : LogValue). line_of m.core ≡ line) l ls here (tells.0 h)),
    λ h. tells.1 (All-tail (λ (m : LogValue). line_of m.core ≡ line) l ls
        (subst (λ (ms : List LogValue). AreOfLine line ms) is h)),
  )

  pub one_line_some : (line : Line) (answer : Bool) → line ≡ line_of l.core
      → (IsTrue answer → AreOfLine line ls) × (AreOfLine line ls → IsTrue answer)
      → (IsTrue answer → AreOfOneLine logs) × (AreOfOneLine logs → IsTrue answer)
  one_line_some line answer here tells = (
    λ h. (
      line,
      subst (λ (ms : List LogValue). AreOfLine line ms) (sym is)
          (All-cons (λ (m : LogValue). line_of m.core ≡ line) l ls (sym here) (tells.0 h)),
    ),
    λ h.
        let all : AreOfLine h.0 (l ∷ ls) = subst (λ (ms : List LogValue). AreOfLine h.0 ms) is h.1 in
        let same : line ≡ h.0 = here ∙ All-head (λ (m : LogValue). line_of m.core ≡ h.0) l ls all in
        tells.1 (subst (λ (x : Line). AreOfLine x ls) (sym same)
        (All-tail (λ (m : LogValue). line_of m.core ≡ h.0) l ls all)),
  )

-- no log at all
pub one_line_none : (logs : List LogValue) → length logs ≡ 0 → AreOfOneLine logs
one_line_none logs none = (
  record { nid_c = 0; centres = []; tracks = []; sections = []; trains = [] },
  λ k d within. absurd (let wrong : ⊥ = omega (arith, within, none) in wrong),
)

-- ## The logs by their centres

pub by_centre : (logs : List LogValue) → AreOfCentres logs → All IsReplaying logs → (c : ℕ)
    → entries_of c (map entry_of (all_entries logs)) ≡ logs_by logs c
by_centre [] apart r c = refl
by_centre (l ∷ ls) apart r c =
    let mine : List LogEntry = map entry_of l.entries in
    let others : List LogEntry = map entry_of (all_entries ls) in
    let parts : entries_of c (map entry_of (all_entries (l ∷ ls))) ≡ entries_of c mine ++ entries_of c others =
    ap (entries_of c) (map-append entry_of l.entries (all_entries ls))
    ∙ filter-append (λ (e : LogEntry). e.centre == c) mine others in
    let all : All (λ (e : LogEntry). e.centre ≡ number_of l.core) mine = own_log l (All-head IsReplaying l ls r) in
    let rest : entries_of c others ≡ logs_by ls c =
    by_centre ls (distinct_tail l ls apart) (All-tail IsReplaying l ls r) c in
    elim (eqb_tells (number_of l.core) c) [
      | inl t ↦
          let none : logs_by ls c ≡ [] = ap (λ o. option_map_or (λ (m : LogValue). map entry_of m.entries) o [])
          (no_log c ls (subst (λ x. has_log x ls ≡ false) t.1 (distinct_head l ls apart))) in
          parts ∙ (λ i. all_own c mine (subst (λ x. All (λ (e : LogEntry). e.centre ≡ x) mine) t.1 all) i
          ++ (rest ∙ none) i) ∙ append-nil mine
          ∙ sym
          (ap (λ b. option_map_or (λ (m : LogValue). map entry_of m.entries) (if b then Some l else log_of c ls) [])
          t.0)
      | inr f ↦
          parts ∙ (λ i. none_own c (number_of l.core) mine f.0 all i ++ rest i)
          ∙ sym
          (ap (λ b. option_map_or (λ (m : LogValue). map entry_of m.entries) (if b then Some l else log_of c ls) [])
          f.0)
    ]

module _ (line : Line) where
  replays_by : (logs : List LogValue) → AreOfLine line logs → All IsReplaying logs → (c : ℕ)
      → Replays line c (beginning line c) (logs_by logs c) (ends_by line logs c)
  replays_by [] same r c = refl
  replays_by (l ∷ ls) same r c =
      let here : line_of l.core ≡ line = All-head (λ (m : LogValue). line_of m.core ≡ line) l ls same in
      let mine : IsReplaying l = All-head IsReplaying l ls r in
      elim (eqb_tells (number_of l.core) c) [
        | inl t ↦
            subst (λ b. Replays line c (beginning line c)
            (option_map_or (λ (m : LogValue). map entry_of m.entries) (if b then Some l else log_of c ls) [])
            (option_map_or (λ (m : LogValue). state_of m.core) (if b then Some l else log_of c ls) (beginning line c)))
            (sym t.0)
            (subst (λ x. Replays line x (beginning line x) (map entry_of l.entries) (state_of l.core)) t.1
            (subst (λ x. Replays x (number_of l.core) (beginning x (number_of l.core)) (map entry_of l.entries)
            (state_of l.core)) here mine))
        | inr f ↦
            subst (λ b. Replays line c (beginning line c)
            (option_map_or (λ (m : LogValue). map entry_of m.entries) (if b then Some l else log_of c ls) [])
            (option_map_or (λ (m : LogValue). state_of m.core) (if b then Some l else log_of c ls) (beginning line c)))
            (sym f.0)
            (replays_by ls (All-tail (λ (m : LogValue). line_of m.core ≡ line) l ls same)
            (All-tail IsReplaying l ls r) c)
      ]

  -- no log is of a number that is not a centre's
  no_other : (logs : List LogValue) → AreOfLine line logs → (c : ℕ) → is_centre line c ≡ false → logs_by logs c ≡ []
  no_other [] same c none = refl
  no_other (l ∷ ls) same c none =
      let here : line_of l.core ≡ line = All-head (λ (m : LogValue). line_of m.core ≡ line) l ls same in
      elim (eqb_tells (number_of l.core) c) [
        | inl t ↦
            let same_centre : is_centre line c ≡ is_centre (line_of l.core) (number_of l.core) =
            λ i. is_centre (sym here i) (sym t.1 i) in
            let there : is_centre line c ≡ true = same_centre ∙ l.core.rules.of_line in absurd cc
        | inr f ↦
            ap (λ b. option_map_or (λ (m : LogValue). map entry_of m.entries) (if b then Some l else log_of c ls) [])
            f.0
            ∙ no_other ls (All-tail (λ (m : LogValue). line_of m.core ≡ line) l ls same) c none
      ]

  pub are_logs : (logs : List LogValue) → AreOfLine line logs → All IsReplaying logs
      → AreLogs line (logs_by logs) (ends_by line logs)
  are_logs logs same r = record { replays = λ c is. replays_by logs same r c; no_other = no_other logs same }

-- ## A written entry determines its plain data

abbrev said : Written → LogEntry
said w = record { centre = w.centre; event = event_of w.event; outcome = w.outcome }

pub said_written : (es : List Entry) → map said (map written_of es) ≡ map entry_of es
said_written [] = refl
said_written (e ∷ es) = ap (λ zs. entry_of e ∷ zs) (said_written es)

pub moved : (xs ys : List Entry) → IsPermutation (map written_of xs) (map written_of ys)
    → IsPermutation (map entry_of xs) (map entry_of ys)
moved xs ys is = subst (λ zs. IsPermutation (map entry_of xs) zs) (said_written ys)
    (subst (λ zs. IsPermutation zs (map said (map written_of ys))) (said_written xs)
    (IsPermutation-map said (map written_of xs) (map written_of ys) is))
