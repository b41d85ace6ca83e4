-- Acts that are only of one train.
use Rattle.std.proofs.Common.{[], ◌++◌, ◌∙◌, ◌≡◌, ap, Bool, false, List, refl, subst, sym, true, ℕ}
use Rattle.std.proofs.lemmas.List.Elements.{All-append, All-nil, All-weaker}
use Rattle.std.specs.List.{All}
use Rattle.law_base.specs.Walk.Trains.{train_of}
use Rattle.law_promises.specs.Apart.Apart.{IsSameOf, IsToldOf}
use Rattle.rbc_spec.specs.Acts.{◌>>◌, Act, Reply}
use Rattle.rbc_spec.specs.Centre.{Centre, is_used_for}
use Rattle.rbc_spec.specs.Frame.{Body}
use Rattle.rbc_spec.specs.Outcome.{Asked, Done, NotHome, Saying, Told, Word}

pub same_itself : (u : ℕ) (k : Centre) → IsSameOf u k k
same_itself u k = record {
  phase = refl;
  heard = refl;
  said = refl;
  mission = refl;
  wait = refl;
  has_asked = refl;
  has_right = refl;
  route_ask = refl;
  expects = λ d. refl;
  used = λ s. refl;
  entries = λ s is. refl;
}

pub same_then : (u : ℕ) (a b c : Centre) → IsSameOf u a b → IsSameOf u b c → IsSameOf u a c
same_then u a b c one two = record {
  phase = two.phase ∙ one.phase;
  heard = two.heard ∙ one.heard;
  said = two.said ∙ one.said;
  mission = two.mission ∙ one.mission;
  wait = two.wait ∙ one.wait;
  has_asked = two.has_asked ∙ one.has_asked;
  has_right = two.has_right ∙ one.has_right;
  route_ask = two.route_ask ∙ one.route_ask;
  expects = λ d. two.expects d ∙ one.expects d;
  used = λ s. two.used s ∙ one.used s;
  entries = λ s is. two.entries s (one.used s ∙ is) ∙ one.entries s is;
}

-- no section gets into use for the train, and each reply is of a section that was
pub record Frees (t : ℕ) (k : Centre) (r : Reply) : Type 0 where
  pub used : (s : ℕ) → is_used_for t (r.state.book s) ≡ true → is_used_for t (k.book s) ≡ true
  pub words : All (IsToldOf t k) r.words

-- an act takes sections for the train and has no replies; or it takes none
abbrev pub Speaks : Bool → ℕ → Centre → Reply → Type 0
Speaks true t k r = r.words ≡ []
Speaks false t k r = Frees t k r

-- an act for train t: the state of each other train stays, and all messages are for t
pub record IsOf (takes : Bool) (t : ℕ) (k : Centre) (r : Reply) : Type 0 where
  pub others : (u : ℕ) → (u ≡ t → ⊥) → IsSameOf u k r.state
  pub sayings : All (λ (p : Saying). p.nid_engine ≡ t) r.sayings
  pub frames : (d : ℕ) → All (λ (b : Body). train_of b ≡ t) (r.frames d)
  pub speaks : Speaks takes t k r

pub words_of : (takes : Bool) (t : ℕ) (k : Centre) (r : Reply) → Speaks takes t k r → All (IsToldOf t k) r.words
words_of true t k r none = subst (All (IsToldOf t k)) (sym none) (All-nil (IsToldOf t k))
words_of false t k r frees = frees.words

told_before : (t : ℕ) (k j : Centre) → ((s : ℕ) → is_used_for t (j.book s) ≡ true → is_used_for t (k.book s) ≡ true)
    → (word : Word) → IsToldOf t j word → IsToldOf t k word
told_before t k j used (Told s) is = used s is
told_before t k j used (Done s) is = is
told_before t k j used (Asked s) is = is
told_before t k j used (NotHome s) is = is

-- an act without replies that keeps the book
pub quiet : (takes : Bool) (t : ℕ) (k : Centre) (r : Reply) → r.words ≡ []
    → ((s : ℕ) → r.state.book s ≡ k.book s) → Speaks takes t k r
quiet true t k r none same = none
quiet false t k r none same = record {
  used = λ s is. sym (ap (is_used_for t) (same s)) ∙ is;
  words = subst (All (IsToldOf t k)) (sym none) (All-nil (IsToldOf t k));
}

pub speaks_then : (takes : Bool) (t : ℕ) (k : Centre) (a b : Act) → Speaks takes t k (a k)
    → Speaks takes t (a k).state (b (a k).state) → Speaks takes t k ((a >> b) k)
unfolding ◌>>◌
speaks_then true t k a b one two = ap (λ (ws : List Word). ws ++ (b (a k).state).words) one ∙ two
speaks_then false t k a b one two = record {
  used = λ s is. one.used s (two.used s is);
  words = All-append (IsToldOf t k) (a k).words (b (a k).state).words one.words
      (All-weaker (IsToldOf t (a k).state) (IsToldOf t k) (told_before t k (a k).state one.used)
      (b (a k).state).words two.words);
}
