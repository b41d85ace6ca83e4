-- Hands: consecutive sections, and the token of each.
use Rattle.std.specs.List.{AllByRecursion}
use Rattle.std.specs.Prelude.{[], ◌&&◌, ◌++◌, ◌+◌, ◌-◌, ◌==◌, ◌||◌, ◌∷◌, ◌≡◌, ◌≤◌, Bool, drop, if◌then◌else◌, length}
use Rattle.std.specs.Prelude.{List, map, nat_lt, Option, option_map, slice_get, suc, take, zero, ℕ}
use Rattle.rbc_hand.specs.declared.token.Token.{Token}
use Rattle.rbc_hand.specs.Tokens.{Held, held_of, Own, section_of, token_of}
use Rattle.rbc_spec.specs.SectionRuns.{is_empty, next_after, SectionRun}

-- The first section, and the tokens of it and of each section after it. An empty hand keeps the first that it had when
-- it became empty.
pub record Holding : Type 0 where
  pub first : ℕ
  pub holds : List Held

abbrev pub run : Holding → SectionRun
run h = record { first = h.first; count = length h.holds }

abbrev pub nothing : Holding
nothing = record { first = 0; holds = [] }

-- the token of the k-th section, from 0
abbrev pub token_at : Holding → ℕ → Option Token
token_at h k = option_map (token_of (h.first + k)) (slice_get h.holds k)

abbrev pub front : Holding → Option Token
front h = token_at h 0

abbrev pub back : Holding → Option Token
back h = token_at h (length h.holds - 1)

-- the hand without its first section, and without its last; an empty one stays as it is
abbrev pub without_front : Holding → Holding
without_front h = if length h.holds == 0 then h else record { first = h.first + 1; holds = drop 1 h.holds }

abbrev pub without_back : Holding → Holding
without_back h = record h { holds = take (length h.holds - 1) h.holds }

-- the run of a hand without its first section
abbrev pub shorter_in_front : SectionRun → SectionRun
shorter_in_front r = record { first = r.first + 1; count = r.count - 1 }

abbrev pub run_without_front : SectionRun → SectionRun
run_without_front r = if is_empty r then r else shorter_in_front r

abbrev pub run_without_back : SectionRun → SectionRun
run_without_back r = record r { count = r.count - 1 }

-- The section may be added after the last of a hand: there is room, and it follows the last, or the hand is empty. No
-- line has a section 65 535.
unfoldable pub takes : SectionRun → ℕ → Bool
takes r s = (nat_lt r.count 32 && nat_lt s 65535) && (is_empty r || (s == next_after r))

-- the hand with one section more
abbrev pub extended : Holding → ℕ → Held → Holding
extended h s held = record { first = if length h.holds == 0 then s else h.first; holds = h.holds ++ held ∷ [] }

abbrev pub longer : SectionRun → SectionRun
longer r = record r { count = r.count + 1 }

abbrev pub one : ℕ → SectionRun
one s = record { first = s; count = 1 }

-- each section is an own one of the hand's centre, with its claim for the train
abbrev pub IsAllOwn : ℕ → Holding → Type 0
IsAllOwn t h = AllByRecursion (λ held. held ≡ Own t) h.holds

-- ## In memory

-- tokens of consecutive sections, from a first
abbrev pub Follow : ℕ → List Token → Type 0
Follow first [] = Unit {0}
Follow first (token ∷ tokens) = (section_of token ≡ first) × Follow (first + 1) tokens

-- the tokens of n own sections from a first, for a train
abbrev pub own_tokens : ℕ → ℕ → ℕ → List Token
own_tokens first zero t = []
own_tokens first (suc n) t = token_of first (Own t) ∷ own_tokens (first + 1) n t

-- the holding of these tokens, from a first
abbrev pub holding : ℕ → List Token → Holding
holding first tokens = record { first = first; holds = map held_of tokens }

-- tokens of at most 32 consecutive sections, with room for 32
pub record IsHand (first : ℕ) (tokens : List Token) (capacity : ℕ) : Type 0 where
  pub sections : Follow first tokens
  pub count : length tokens ≤ 32
  pub room : 32 ≤ capacity
  pub next_after : first + length tokens ≤ 65535
