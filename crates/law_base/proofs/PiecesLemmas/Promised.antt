use Rattle.std.proofs.Common.{[], ◌++◌, ◌==◌, ◌∙◌, ◌∷◌, ◌≡◌, ap, Bool, eqb-true, Err, false, if◌then◌else◌, inl, inr}
use Rattle.std.proofs.Common.{List, None, Ok, Option, refl, Some, subst, sym, true, ℕ}
use Rattle.std.proofs.lemmas.List.Elements.{All-append, All-cons, All-contains}
use Rattle.std.specs.List.{All}
use Rattle.law_base.proofs.PiecesLemmas.Frees.{by_test, Frees, of_leaves, OwnLeaves}
use Rattle.law_base.proofs.PiecesLemmas.GivenSections.{frees_is, given_held, given_home, given_is, is_not_used}
use Rattle.law_base.proofs.PiecesLemmas.OwnFrees.{own_leaves}
use Rattle.law_base.proofs.PiecesLemmas.Waits.{if_not, Leaves, plain_leaves, quiets_leave, wait_on, WaitsKeep}
use Rattle.law_base.proofs.PiecesLemmas.Words.{Fits, fits_on, IsShut, no_words, own_fits, quiets_fit}
use Rattle.rbc_spec.proofs.Lists.{put_there}
use Rattle.rbc_spec.proofs.Safe.{given_mark}
use Rattle.rbc_spec.specs.Centre as centre
use Rattle.rbc_spec.specs.Line.{is_centre, is_home, Line}
use Rattle.rbc_spec.specs.LineCentre.{Given, hears, LineState, Mark, Open, Said, Shut}
use Rattle.rbc_spec.specs.Message.{TrainMessage}
use Rattle.rbc_spec.specs.Outcome.{Asked, Done, NotHome, Outcome, Reason, Told, Word}
use Rattle.rbc_spec.specs.OwnSteps.{is_unused_mark, set_mark, Sets, Unsets, wished_back}
use Rattle.rbc_spec.specs.Promises.{is_given, KeepsPromises, MayFree}
use Rattle.rbc_spec.specs.ReadOff.{holder, mark_of, read_off, StandsFor}
use Rattle.rbc_spec.specs.Run as run
use Rattle.rbc_spec.specs.Run.{Goes, heard, listened, OwnStep, Piece, silent, Steps}
use Rattle.rbc_spec.specs.Step as step
use Rattle.rbc_spec.specs.World.{Answer, Answered, Bytes, Delivery, Event, Fault, NoCentre, NotSent, Set, Unset, World}

module _ (line : Line) (w : World) (v : LineState) (keep : WaitsKeep line v) (stands : StandsFor line w v)
    (same : (c : ℕ) (m : TrainMessage) → run.silence line v c m ≡ None → step.silence line c (w.at c) m ≡ None) where
  -- the freed sections and the replies of an own step keep the promises
  pub record Keeps (event : Event) (said : Said) (mid : LineState) : Type 0 where
    pub leaves : OwnLeaves line v mid (λ t s. MayFree line w t s event)
    pub fits : All (Fits line event mid) said.words

  unchanged : (event : Event) (words : List Word) (said : Said) (mid changed : LineState)
      → All (Fits line event mid) words → said.words ≡ words → mid ≡ changed → changed.mark ≡ v.mark
      → changed.wish ≡ v.wish → changed.wait ≡ v.wait
      → Keeps event said mid
  unchanged event words said mid changed fits are is marks wishes waits = record {
    leaves = of_leaves line v mid _
        (subst (Leaves line v) (sym is) (plain_leaves line v keep changed marks wishes waits));
    fits = subst (All (Fits line event mid)) (sym are) fits;
  }

  heard_keeps : (c : ℕ) (m : TrainMessage) (said : Said) (mid : LineState)
      → OwnLeaves line (hears c m v) mid (λ t s. Frees line (hears c m v) m.nid_engine t s m.body)
      → run.silence line v c m ≡ None → OwnLeaves line v mid (λ t s. MayFree line w t s (Bytes c (Ok m)))
  heard_keeps c m said mid leaves fair = record {
    given = λ t s is. elim (leaves.given t s is) [
      | inl stays ↦ inl stays
      | inr frees ↦
          inr (frees_is line w v stands c m.t_train m.nid_engine (λ body. same c (record m { body = body }))
          m.body fair t s frees)
    ];
    waits = leaves.waits;
  }

  steps_keep : (c : ℕ) (m : TrainMessage) (said : Said) (mid : LineState) (why : Option Reason)
      → is_centre line c ≡ true → Steps line v c m said mid why → Keeps (Bytes c (Ok m)) said mid
  steps_keep c m said mid why at (silent reason is so none new) =
      unchanged (Bytes c (Ok m)) [] said mid v (no_words line (Bytes c (Ok m)) mid)
      (ap (λ (x : Said). x.words) none) new refl refl refl
  steps_keep c m said mid why at (listened may so none new) =
      unchanged (Bytes c (Ok m)) [] said mid (hears c m v) (no_words line (Bytes c (Ok m)) mid)
      (ap (λ (x : Said). x.words) none) new refl refl refl
  steps_keep c m said mid why at (heard is so hearing) =
      let still = wait_on line v keep (hears c m v) refl (λ t d s waited. refl) in
      record {
        leaves = heard_keeps c m said mid (own_leaves line (hears c m v) still c at m m.body said mid hearing) is;
        fits = own_fits line (Bytes c (Ok m)) (hears c m v) c said mid m m.body hearing;
      }

  -- an unused section gets another mark
  entered : (event : Event) (words : List Word) (said : Said) (mid : LineState) (s : ℕ) (mark : Mark)
      → All (Fits line event mid) words → said.words ≡ words → mid ≡ set_mark s mark v
      → is_unused_mark (v.mark s) ≡ true → Keeps event said mid
  entered event words said mid s mark fits are is unused = record {
    leaves = record {
      given = λ t e given. inl (ap (λ (x : LineState). x.mark e) is
          ∙ if_not (e == s) mark (v.mark e)
          (λ so. is_not_used (v.mark s) t unused (inl (ap v.mark (sym (eqb-true e s so)) ∙ given))) ∙ given);
      waits = wait_on line v keep mid (ap (λ (x : LineState). x.wait) is)
          (λ t d e waited. ap (λ (x : LineState). x.mark e) is
          ∙ if_not (e == s) mark (v.mark e)
          (λ so. is_not_used (v.mark s) t unused (inr (ap v.mark (sym (eqb-true e s so)) ∙ waited.kept))));
    };
    fits = subst (All (Fits line event mid)) (sym are) fits;
  }

  -- a section is wished back, or not any more
  wished : (event : Event) (words : List Word) (said : Said) (mid : LineState) (s : ℕ) (wish : Bool)
      → All (Fits line event mid) words → said.words ≡ words → mid ≡ wished_back s wish v → Keeps event said mid
  wished event words said mid s wish fits are is = record {
    leaves = record {
      given = λ t e given. inl (ap (λ (x : LineState). x.mark e) is ∙ given);
      waits = wait_on line v keep mid (ap (λ (x : LineState). x.wait) is)
          (λ t d e waited. ap (λ (x : LineState). x.mark e) is);
    };
    fits = subst (All (Fits line event mid)) (sym are) fits;
  }

  one_word : (event : Event) (mid : LineState) (word : Word) → Fits line event mid word
      → All (Fits line event mid) (word ∷ [])
  one_word event mid word fits = All-cons (Fits line event mid) word [] fits (no_words line event mid)

  set_fits : (c s : ℕ) (mid : LineState) → Fits line (Set c s) mid (Done s)
  set_fits c s mid = λ d is. cc

  sets_keep : (c s : ℕ) (said : Said) (mid : LineState) → Sets line v c s said mid → Keeps (Set c s) said mid
  sets_keep c s said mid h = by_test (is_home line c s) _ _
      (λ _ tells. by_use (is_unused_mark (v.mark s)) refl (ap (λ (x : Said). x.words) tells.said_is) tells.new_is)
      (λ _ tells. unchanged (Set c s) (NotHome s ∷ []) said mid v (one_word (Set c s) mid (NotHome s) tt)
      (ap (λ (x : Said). x.words) tells.said_is) tells.new_is refl refl refl) h
    where
      by_use : (b : Bool) → is_unused_mark (v.mark s) ≡ b → said.words ≡ Done s ∷ []
          → mid ≡ (if b then set_mark s Open v else wished_back s false v) → Keeps (Set c s) said mid
      by_use true unused are is = entered (Set c s) (Done s ∷ []) said mid s Open
          (one_word (Set c s) mid (Done s) (set_fits c s mid)) are is unused
      by_use false used are is = wished (Set c s) (Done s ∷ []) said mid s false
          (one_word (Set c s) mid (Done s) (set_fits c s mid)) are is

  unsets_keep : (c s : ℕ) (said : Said) (mid : LineState) → Unsets line v c s said mid → Keeps (Unset c s) said mid
  unsets_keep c s said mid h = by_test (is_home line c s) _ _
      (λ home n. by_test (is_unused_mark (v.mark s)) _ _
      (λ unused tells. entered (Unset c s) (Done s ∷ []) said mid s Shut
      (one_word (Unset c s) mid (Done s)
      (λ d is. (shut tells.new_is, subst (λ (x : ℕ). is_home line x s ≡ true) (same_centre d is) home)))
      (ap (λ (x : Said). x.words) tells.said_is) tells.new_is unused)
      (λ _ tells. wished (Unset c s) (Asked s ∷ []) said mid s true (one_word (Unset c s) mid (Asked s) tt)
      (ap (λ (x : Said). x.words) tells.said_is) tells.new_is) n)
      (λ _ tells. unchanged (Unset c s) (NotHome s ∷ []) said mid v (one_word (Unset c s) mid (NotHome s) tt)
      (ap (λ (x : Said). x.words) tells.said_is) tells.new_is refl refl refl) h
    where
      same_centre : (d : ℕ) → Unset c s ≡ Unset d s → c ≡ d
      same_centre d is = cc

      shut : mid ≡ set_mark s Shut v → IsShut mid s
      shut is = (
        ap (λ (x : LineState). x.mark s) is ∙ put_there v.mark s Shut,
        ap (λ (x : LineState). x.wish s) is
            ∙ put_there v.wish s false,
      )

  pub own_keeps : (event : Event) (said : Said) (mid : LineState) (why : Option Reason)
      → OwnStep line v event said mid why → Keeps event said mid
  own_keeps (Bytes c (Ok m)) said mid why h = steps_keep c m said mid why h.0 h.1
  own_keeps (Bytes c (Err n)) said mid why h = absurd h
  own_keeps (Set c s) said mid why h = sets_keep c s said mid h.1
  own_keeps (Unset c s) said mid why h = unsets_keep c s said mid h.1
  own_keeps (Delivery a b n) said mid why h =
      unchanged (Delivery a b n) [] said mid v (no_words line (Delivery a b n) mid)
      (ap (λ (x : Said). x.words) h.0) h.1 refl refl refl

  -- ## A piece, and each event

  -- the state after the event
  pub record Ends (event : Event) (answer : Answer) (u : LineState) : Type 0 where
    pub leaves : OwnLeaves line v u (λ t s. MayFree line w t s event)
    pub fits : (o : Outcome) → answer ≡ Answered o → All (Fits line event u) o.words

  piece_ends : (event : Event) (o : Outcome) (u : LineState) → Piece line v event o u → Ends event (Answered o) u
  piece_ends event o u p =
      let own = own_keeps event p.own p.mid o.silence p.own_step in
      let rest = quiets_leave line p.mid own.leaves.waits p.quiets p.later u p.quiet_steps in
      let words : o.words ≡ p.own.words ++ p.later.words = ap (λ (x : Said). x.words) p.says in
      let fits : All (Fits line event u) o.words = subst (All (Fits line event u)) (sym words)
      (All-append (Fits line event u) p.own.words p.later.words (fits_on line event p.mid u p.own.words rest own.fits)
      (quiets_fit line event p.mid own.leaves.waits p.quiets p.later u p.quiet_steps))
      in
      record {
        leaves = record {
          given = λ t s is. elim (own.leaves.given t s is) [
            | inl stays ↦ inl (rest.given t s stays)
            | inr may ↦ inr may
          ];
          waits = rest.waits;
        };
        fits = λ q is. subst (λ (x : Outcome). All (Fits line event u) x.words) (same_outcome o q is) fits;
      }
    where
      same_outcome : (a b : Outcome) → Answered a ≡ Answered b → a ≡ b
      same_outcome a b is = cc

  nothing_ends : (event : Event) (answer : Answer) (u : LineState) → u ≡ v
      → ((o : Outcome) → answer ≡ Answered o → ⊥) → Ends event answer u
  nothing_ends event answer u is none = record {
    leaves = of_leaves line v u _ (subst (Leaves line v) (sym is) (plain_leaves line v keep v refl refl refl));
    fits = λ o answered. absurd (none o answered);
  }

  pub event_ends : (event : Event) (answer : Answer) (u : LineState) → Goes line v event answer u → Ends event answer u
  event_ends event (Answered o) u h = piece_ends event o u h
  event_ends (Bytes c (Err n)) (Fault k) u h = nothing_ends (Bytes c (Err n)) (Fault k) u h.2 (λ o is. cc)
  event_ends (Bytes c read) NoCentre u h = nothing_ends (Bytes c read) NoCentre u h.1 (λ o is. cc)
  event_ends (Set c s) NoCentre u h = nothing_ends (Set c s) NoCentre u h.1 (λ o is. cc)
  event_ends (Unset c s) NoCentre u h = nothing_ends (Unset c s) NoCentre u h.1 (λ o is. cc)
  event_ends (Delivery a b n) NotSent u h = nothing_ends (Delivery a b n) NotSent u h (λ o is. cc)
  event_ends (Bytes c (Ok m)) (Fault k) u h = absurd h
  event_ends (Set c s) (Fault k) u h = absurd h
  event_ends (Unset c s) (Fault k) u h = absurd h
  event_ends (Delivery a b n) (Fault k) u h = absurd h
  event_ends (Delivery a b n) NoCentre u h = absurd h
  event_ends (Bytes c read) NotSent u h = absurd h
  event_ends (Set c s) NotSent u h = absurd h
  event_ends (Unset c s) NotSent u h = absurd h

-- ## Worlds

-- a section whose mark is shut is shut at its home
shut_at : (line : Line) (new : World) (v : LineState) → StandsFor line new v → (s c : ℕ) → is_home line c s ≡ true
    → v.mark s ≡ Shut → (new.at c).book s ≡ centre.Shut
shut_at line new v ends s c home is = by_mark (holder line new s) ((new.at c).book s) (sym (ends.mark s c home) ∙ is)
  where
    by_mark : (o : Option ℕ) (entry : centre.Entry) → mark_of o entry ≡ Shut → entry ≡ centre.Shut
    by_mark (Some t) entry shut = cc
    by_mark None centre.Shut shut = refl
    by_mark None centre.Open shut = cc
    by_mark None (centre.Taken t) shut = cc
    by_mark None (centre.Out t) shut = cc

-- Each event between worlds that states represent keeps its promises. Premises: waiting starts keep their sections, and
-- the reasons of silence agree.
pub keeps_promises : (line : Line) (w new : World) (event : Event) (answer : Answer) → WaitsKeep line (read_off line w)
    → ((c : ℕ) (m : TrainMessage) → run.silence line (read_off line w) c m ≡ None
    → step.silence line c (w.at c) m ≡ None)
    → StandsFor line w (read_off line w) → StandsFor line new (read_off line new)
    → Goes line (read_off line w) event answer (read_off line new) → KeepsPromises line w event answer new
keeps_promises line w new event answer keep same stands ends goes = record {
  freed = λ t s given gone. elim (all.leaves.given t s (given_in t s given)) [
    | inl stays ↦
        absurd (let wrong : true ≡ false = sym (given_new t s stays) ∙ gone in cc)
    | inr may ↦ may
  ];
  told = λ o s c is home says. let fits =
      All-contains (Fits line event (read_off line new)) o.words (Told s) (all.fits o is) says in
      (shut_at line new (read_off line new) ends s c home fits.0, sym (ends.wish s c home) ∙ fits.1);
  done = λ o s c is unset says. let fits = All-contains (Fits line event (read_off line new)) o.words (Done s)
      (all.fits o is) says c unset in
      shut_at line new (read_off line new) ends s c fits.1 fits.0.0;
}
  where
    all : Ends line w (read_off line w) keep stands same event answer (read_off line new)
    all = event_ends line w (read_off line w) keep stands same event answer (read_off line new) goes

    given_in : (t s : ℕ) → is_given line w t s ≡ true → (read_off line w).mark s ≡ Given t
    given_in t s given = given_is t ((read_off line w).mark s) (given_mark line w (read_off line w) stands t s given)

    given_new : (t s : ℕ) → (read_off line new).mark s ≡ Given t → is_given line new t s ≡ true
    given_new t s is = let home = given_home line new t s is in
        given_held line new (read_off line new) ends t s home.0 home.1 is
