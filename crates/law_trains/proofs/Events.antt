-- An event at the centres.
use Rattle.std.proofs.Common.{[], ◌<◌, ◌++◌, ◌∷◌, ◌≡◌, arith, Bool, false, inl, inr, List, Option, refl, Some, subst}
use Rattle.std.proofs.Common.{sym, true, ℕ}
use Rattle.std.proofs.lemmas.Bool.{and_parts}
use Rattle.std.proofs.lemmas.Bool.Decides.{eqb_tells}
use Rattle.std.specs.List.{list_all}
use Rattle.law_outside.specs.Outside.{all_told, is_told, stamp_of, Stretch, View}
use Rattle.law_promises.proofs.Follows.{Follows}
use Rattle.law_promises.proofs.QuietFollows.{quiet_follows}
use Rattle.law_promises.proofs.Released.{told_both}
use Rattle.law_trains.proofs.Keeps.{Saids, Tolds, IsTold, Keeps}
use Rattle.law_trains.proofs.Known.{Known, known_after, told_all}
use Rattle.law_trains.proofs.Others.{IsSame, told_apart, told_other}
use Rattle.law_trains.proofs.Speech.{IsPlain, no_word, one_word, quiet_speaks, Speaks, Speech}
use Rattle.law_trains.proofs.ToldSteps.{any_told}
use Rattle.law_trains.specs.Trains.{and_told, Train}
use Rattle.rbc_spec.specs.Line.{IsLine, Line}
use Rattle.rbc_spec.specs.LineCentre.{LineState, Said, saying_of}
use Rattle.rbc_spec.specs.Message.{Authority, DataAcknowledged, TrackBody, TrackMessage}
use Rattle.rbc_spec.specs.Outcome.{Saying}
use Rattle.rbc_spec.specs.Quiet.{is_of_centre, Quiet, TakesAll}
use Rattle.rbc_spec.specs.World.{centre_of, Event}

module _ (line : Line) (ok : IsLine line) (obeys : ℕ → Bool) (train : ℕ → Train) (said : Saids) where
  -- of each train that obeys
  abbrev pub All : View → Tolds → Type 0
  All y told = (u : ℕ) → obeys u ≡ true → Keeps line u (train u) (y.stretch u) (y.start u) said told

  pub record State (v : LineState) (y : View) (told : Tolds) : Type 0 where
    pub follows : Follows line v y
    pub known : Known v told
    pub keeps : All y told

  -- another view of the same stretches and starts
  pub as_seen : (u : ℕ) (y w : View) (told : Tolds) → IsSame u y w
      → Keeps line u (train u) (y.stretch u) (y.start u) said told
      → Keeps line u (train u) (w.stretch u) (w.start u) said told
  as_seen u y w told same h =
      subst (λ (f : ℕ → Option Stretch). Keeps line u (train u) (w.stretch u) f said told) (sym same.start)
      (subst (λ (o : Option Stretch). Keeps line u (train u) o (y.start u) said told) (sym same.stretch) h)

  -- ## Messages to trains

  module _ (event : Event) where
    abbrev pub c : ℕ
    c = centre_of event

    -- an authority answers a message later than all train data that the centre acknowledged
    abbrev pub InTime : Tolds → ℕ → Type 0
    InTime told t = (n : ℕ) → stamp_of event t ≡ Some n → (k : TrackMessage) (s : ℕ) → IsTold line t told c k
        → k.body ≡ DataAcknowledged s → s < n

    pub one_told : (v : LineState) (y : View) (told : Tolds) → Known v told → All y told
        → (t group : ℕ) (body : TrackBody)
        → ((l : ℕ) → body ≡ Authority l → InTime told t)
        → (is_told line event (saying_of t c group body v) body y).stray ≡ false
        → All (is_told line event (saying_of t c group body v) body y) ((c, saying_of t c group body v) ∷ told)
    one_told v y told known all t group body in_time founded u obeys_u = elim (eqb_tells u t) [
      | inl same ↦ subst (λ (k : ℕ). Keeps line k (train k) (after.stretch k) (after.start k) said ((c, p) ∷ told))
          (sym same.1)
          (any_told line t (train t) said told event p.message
          (λ k sent. let low = known.below c (record { nid_engine = t; message = k }) sent in omega (arith, low)) y
          (all t (subst (λ (k : ℕ). obeys k ≡ true) same.1 obeys_u))
          (λ l n is. in_time l is n) body refl founded)
      | inr apart ↦ as_seen u y after ((c, p) ∷ told) (told_apart line u event p body y apart.1)
          (told_other line u (train u) (y.stretch u) (y.start u) said told (all u obeys_u) c p apart.1)
    ]
      where
        p : Saying
        p = saying_of t c group body v

        after : View
        after = is_told line event p body y

    pub any_words : (P : TrackBody → ℕ → Type 0) (v : LineState) (y : View) (told : Tolds) (sayings : List Saying)
        (new : LineState) → Known v told → All y told → Speaks P c v sayings new
        → ((t l : ℕ) → P (Authority l) t → InTime told t) → (all_told line event sayings y).stray ≡ false
        → All (all_told line event sayings y) (and_told c sayings told)
    any_words P v y told sayings new known all (no_word none same) in_time founded =
        subst (λ (ps : List Saying). All (all_told line event ps y) (and_told c ps told)) (sym none) all
    any_words P v y told sayings new known all (one_word t group body may is same) in_time founded =
        subst (λ (ps : List Saying). All (all_told line event ps y) (and_told c ps told)) (sym is)
        (one_told v y told known all t group body
        (λ l names. in_time t l (subst (λ (b : TrackBody). P b t) names may))
        (subst (λ (ps : List Saying). (all_told line event ps y).stray ≡ false) is founded))

    -- a step in which no train data are acknowledged, and no authority is sent
    pub plain_step : (v : LineState) (y : View) (told : Tolds) (sayings : List Saying) (new : LineState)
        → Known v told → All y told → Speech IsPlain c v sayings new
        → Follows line new (all_told line event sayings y)
        → State new (all_told line event sayings y) (and_told c sayings told)
    plain_step v y told sayings new known all speech follows = record {
      follows = follows;
      known = known_after IsPlain c v sayings new told speech (λ t s wrong. absurd wrong) known;
      keeps = any_words IsPlain v y told sayings new known all speech.speaks (λ t l wrong. absurd wrong)
          follows.founded;
    }

    pub quiets_on : (qs : List Quiet) (v : LineState) (y : View) (told : Tolds) (q : Said) (new : LineState)
        → list_all (is_of_centre line c) qs ≡ true → TakesAll line v qs q new → State v y told
        → State new (all_told line event q.sayings y) (and_told c q.sayings told)
    quiets_on [] v y told q new at h old =
        subst (λ (p : Said). State new (all_told line event p.sayings y) (and_told c p.sayings told)) (sym h.0)
        (subst (λ (w : LineState). State w y told) (sym h.1) old)
    quiets_on (step ∷ qs) v y told q new at (one, others, mid, taken, rest, same) old =
        let parts = and_parts (is_of_centre line c step) (list_all (is_of_centre line c) qs) at in
        let next = plain_step v y told one.sayings mid old.known old.keeps
        (quiet_speaks line c v step one mid parts.0 taken)
        (quiet_follows line ok v y old.follows event step one mid parts.0 taken) in
        subst (λ (p : Said). State new (all_told line event p.sayings y) (and_told c p.sayings told)) (sym same)
        (subst (λ (w : View). State new w (and_told c (one.sayings ++ others.sayings) told))
        (sym (told_both line event one.sayings others.sayings y))
        (subst (λ (l : Tolds). State new (all_told line event others.sayings (all_told line event one.sayings y)) l)
        (sym (told_all c one.sayings others.sayings told))
        (quiets_on qs mid (all_told line event one.sayings y)
        (and_told c one.sayings told) others new parts.1 rest next)))
