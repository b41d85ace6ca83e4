-- The reading of journals.
use Rattle.text_journal.proofs.Letters.{lacks_at}
use Rattle.text_journal.specs.Journal.{Version}
use Rattle.text_journal.specs.Order.{IsFirstFallen, stamps_of}
use Rattle.text_journal.specs.Reading.{Begins, noted_of}
use Rattle.text_journal.specs.Whole.{AreWhole}
use Rattle.text_journal.specs.declared.entry.Entry.{Entry}
use Rattle.text_script.specs.declared.status.fault.Fault.{Fault}
use Rattle.text_journal.specs.declared.fault.JournalFault.{JournalFault}
use Rattle.text_journal.specs.declared.fault.JournalFault.TheVariants.{Memory}
use Rattle.cli_commands.specs.declared.line_file.LineFile.{LineFile}
use Rattle.cli_commands.specs.Journals.{AreEntries, AreNone, IsReading, IsRefused, read_part}
use Rattle.std.proofs.Common.{[], ◌+◌, ◌-◌, ◌<◌, ◌∙◌, ◌∷◌, ◌≡◌, ◌≢◌, ap, arith, drop, Err, get_or, IfErr, IfOk, inl}
use Rattle.std.proofs.Common.{inr, length-drop, List, map, None, Ok, refl, Result, string_bytes, subst, suc, sym, take}
use Rattle.std.proofs.Common.{Vec, zero, ℕ}
use Rattle.std.proofs.lemmas.Bool.{cases_lt}
use Rattle.std.proofs.lemmas.List.{get_or-drop}
use Rattle.std.specs.declared.alloc.Global.{Global}
use Rattle.std.specs.Str.{IsUtf8}

-- the text begins a journal of centre c with these entries, in one of the versions
abbrev BeginsOne : LineFile → ℕ → List ℕ → List ℕ → List Entry → Type 0
BeginsOne given c file text es = (v : Version) × Begins v given.line c file text es

to_bytes : (given : LineFile) (c : ℕ) (es : List Entry) {file text bytes : List ℕ}
    → file ≡ string_bytes given.text → text ≡ bytes → BeginsOne given c file text es → AreEntries given c bytes es
to_bytes given c es {file} {text} {bytes} same is begins =
    subst (λ t. AreEntries given c t es) is (subst (λ f. BeginsOne given c f text es) same begins)

to_text : (given : LineFile) (c : ℕ) (es : List Entry) {file text bytes : List ℕ}
    → file ≡ string_bytes given.text → text ≡ bytes → AreEntries given c bytes es → BeginsOne given c file text es
to_text given c es {file} {text} {bytes} same is are =
    subst (λ f. BeginsOne given c f text es) (sym same) (subst (λ t. AreEntries given c t es) (sym is) are)

-- the result of reading a text is that of reading the bytes that are this text
pub reading : (r : Result (Vec Entry Global) JournalFault) (given : LineFile) (c : ℕ) {file text bytes : List ℕ}
    → file ≡ string_bytes given.text → text ≡ bytes → IfOk r (λ read. BeginsOne given c file text read.items)
    → IfOk r (λ read. (v : Version) (es : List Entry) → Begins v given.line c file text es
    → map noted_of read.items ≡ map noted_of es)
    → IfErr r (λ why. why ≢ Memory → (v : Version) (es : List Entry) → Begins v given.line c file text es → ⊥)
    → IsReading given c bytes r
reading (Ok read) given c same is found only refused = (
  to_bytes given c read.items same is found,
  λ es are. only (to_text given c es same is are).0 es (to_text given c es same is are).1,
)
reading (Err why) given c same is found only refused =
    λ other utf8 es are. refused other (to_text given c es same is are).0 es (to_text given c es same is are).1

all_part : (bytes : List ℕ) (n : ℕ) → n ≡ 0 → bytes ≡ read_part bytes n
all_part bytes zero is = refl
all_part bytes (suc n) is = absurd (omega (arith, is))

lines_part : (bytes : List ℕ) (n : ℕ) → ¬ (n ≡ 0) → take n bytes ≡ read_part bytes n
lines_part bytes zero some = absurd (some refl)
lines_part bytes (suc n) some = refl

-- of a journal without a whole line all bytes are read
pub read_all : (r : Result (Vec Entry Global) JournalFault) (given : LineFile) (c : ℕ) (bytes : List ℕ) (n : ℕ)
    → n ≡ 0 → IsReading given c bytes r → IsReading given c (read_part bytes n) r
read_all r given c bytes n is read = subst (λ b. IsReading given c b r) (all_part bytes n is) read

-- of another journal the whole lines are read
pub read_lines : (r : Result (Vec Entry Global) JournalFault) (given : LineFile) (c : ℕ) (bytes : List ℕ) (n : ℕ)
    → ¬ (n ≡ 0) → IsReading given c (take n bytes) r → IsReading given c (read_part bytes n) r
read_lines r given c bytes n some read = subst (λ b. IsReading given c b r) (lines_part bytes n some) read

-- ## The bytes that are refused

not_below : (text : List ℕ) (n m : ℕ) → AreWhole text n → AreWhole text m → ¬ (n < m)
not_below text n m low high less =
    let at : n + (m - 1 - n) ≡ m - 1 = omega (arith, less) in
    elim high.ended [
      | inl none ↦ absurd (let never : ⊥ = omega (arith, none, less) in never)
      | inr feed ↦
          lacks_at 10 (drop n text) low.unended (m - 1 - n) (omega (arith, less, high.within, length-drop n text))
          (get_or-drop n text (m - 1 - n) 0 ∙ ap (λ i. get_or text i 0) at ∙ feed)
    ]

-- the length of the whole lines is one number
one_whole : (text : List ℕ) (n m : ℕ) → AreWhole text n → AreWhole text m → n ≡ m
one_whole text n m a b = elim (cases_lt n m) [
  | inl less ↦ absurd (not_below text n m a b less)
  | inr high ↦ elim (cases_lt m n) [
    | inl less ↦ absurd (not_below text m n b a less)
    | inr low ↦ omega (arith, high, low)
  ]
]

noted_stamps : (es : List Entry) → map (λ x. x.stamp) (map noted_of es) ≡ stamps_of es
noted_stamps [] = refl
noted_stamps (e ∷ es) = ap (λ stamps. e.stamp ∷ stamps) (noted_stamps es)

same_stamps : (es fs : List Entry) → map noted_of es ≡ map noted_of fs → stamps_of es ≡ stamps_of fs
same_stamps es fs same = sym (noted_stamps es) ∙ ap (map (λ x. x.stamp)) same ∙ noted_stamps fs

-- a journal that is not read has no entries
pub not_read : (given : LineFile) (c : ℕ) (bytes : List ℕ) (n : ℕ) (why : Fault) → AreWhole bytes n
    → AreNone given c (read_part bytes n)
    → (m : ℕ) → AreWhole bytes m → IsRefused given c (read_part bytes m) why
not_read given c bytes n why is none m whole other utf8 es are rising =
    let same : m ≡ n = one_whole bytes m n whole is in
    none (subst (λ k. IsUtf8 (read_part bytes k)) same utf8) es
    (subst (λ k. AreEntries given c (read_part bytes k) es) same are)

-- the stamps of a journal do not rise
pub not_rising : (given : LineFile) (c : ℕ) (bytes : List ℕ) (n : ℕ) (why : Fault) (read : List Entry)
    → AreWhole bytes n
    → ((es : List Entry) → AreEntries given c (read_part bytes n) es → map noted_of read ≡ map noted_of es)
    → ¬ IsFirstFallen (stamps_of read) None
    → (m : ℕ) → AreWhole bytes m → IsRefused given c (read_part bytes m) why
not_rising given c bytes n why read is only fallen m whole other utf8 es are rising =
    let same : m ≡ n = one_whole bytes m n whole is in
    let noted : map noted_of read ≡ map noted_of es =
    only es (subst (λ k. AreEntries given c (read_part bytes k) es) same are) in
    fallen (subst (λ stamps. IsFirstFallen stamps None) (sym (same_stamps read es noted)) rising)
