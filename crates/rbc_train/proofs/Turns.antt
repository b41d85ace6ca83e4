-- One act and then another at a centre, by the parts of its state that they change.
use Rattle.std.proofs.Common.{[], ◌++◌, ◌+◌, ◌∙◌, ◌∷◌, ◌≡◌, ap, List, refl, Some, subst, sym, ℕ}
use Rattle.rbc_book.specs.Book.{entry_at, is_own, Pages, wish_at}
use Rattle.rbc_handover.specs.Expectations.{expected_from}
use Rattle.rbc_right.specs.Rights.{is_here, Rights}
use Rattle.rbc_session.specs.SessionStates.{session_phase}
use Rattle.rbc_spec.proofs.Lists.{put_over, put_there}
use Rattle.rbc_spec.specs.Acts.{◌>>◌, Act, Reply, say}
use Rattle.rbc_spec.specs.Centre.{Centre}
use Rattle.rbc_spec.specs.Frame.{Body}
use Rattle.rbc_spec.specs.Line.{Line}
use Rattle.rbc_spec.specs.Maps.{put}
use Rattle.rbc_spec.specs.Message.{TrackBody}
use Rattle.rbc_spec.specs.Outcome.{Saying}
use Rattle.rbc_train.proofs.Desk.{same_state}
use Rattle.rbc_train.specs.declared.train.TrainState.{TrainState}
use Rattle.rbc_train.specs.Desk.{HasParts, IsKeptAt, posted, replied, with_parts}

-- by the effect of each
pub in_turn : (a b : Act) (k : Centre) (r q : Reply) → a k ≡ r → b r.state ≡ q
    → (a >> b) k ≡ record {
      state = q.state;
      frames = λ d. r.frames d ++ q.frames d;
      sayings = r.sayings ++ q.sayings;
      words = r.words ++ q.words;
    }
unfolding ◌>>◌
in_turn a b k r q first second =
    ap (λ (x : Reply). record {
      state = (b x.state).state;
      frames = λ d. x.frames d ++ (b x.state).frames d;
      sayings = x.sayings ++ (b x.state).sayings;
      words = x.words ++ (b x.state).words;
    }) first
    ∙ ap (λ (x : Reply). record {
      state = x.state;
      frames = λ d. r.frames d ++ x.frames d;
      sayings = r.sayings ++ x.sayings;
      words = r.words ++ x.words;
    }) second

-- parts that are left over others
pub parts_over : (mid new : TrainState) (book book' : Pages) (rights rights' : Rights) (k : Centre)
    → new.supervision.engine ≡ mid.supervision.engine
    → with_parts new book' rights' (with_parts mid book rights k) ≡ with_parts new book' rights' k
parts_over mid new book book' rights rights' k engine = λ i. record k {
  book = entry_at book';
  wish = wish_at book';
  phase = λ u. over (session_phase new.session_state) (session_phase mid.session_state) k.phase u i;
  heard = λ u. over new.heard mid.heard k.heard u i;
  said = λ u. over new.said mid.said k.said u i;
  mission = λ u. over new.supervision.mission mid.supervision.mission k.mission u i;
  route_ask = λ u. over new.supervision.asked mid.supervision.asked k.route_ask u i;
  wait = λ u. over new.waiting.wait mid.waiting.wait k.wait u i;
  has_asked = λ u. over new.waiting.has_asked mid.waiting.has_asked k.has_asked u i;
  has_right =
      λ u. over (is_here rights' new.supervision.number) (is_here rights mid.supervision.number) k.has_right u i;
  expects = λ d u. over (expected_from new.expectations d) (expected_from mid.expectations d) (k.expects d) u i;
}
  where
    over : {X : Type 0} (x y : X) (f : ℕ → X) (u : ℕ)
        → put (put f mid.supervision.engine y) new.supervision.engine x u ≡ put f new.supervision.engine x u
    over x y f u = (λ l. put (put f (sym engine l) y) new.supervision.engine x u)
        ∙ put_over new.supervision.engine x y f u

-- an act without messages, reports and frames, and then another
pub does_then : (a b : Act) (k : Centre) (mid new : TrainState) (book book' : Pages) (rights rights' : Rights)
    (sayings : List Saying) (told : List ℕ) (frames : ℕ → List Body)
    → new.supervision.engine ≡ mid.supervision.engine → a k ≡ replied (with_parts mid book rights k) [] []
    → b (with_parts mid book rights k)
    ≡ posted frames (replied (with_parts new book' rights' (with_parts mid book rights k)) sayings told)
    → (a >> b) k ≡ posted frames (replied (with_parts new book' rights' k) sayings told)
unfolding ◌>>◌
does_then a b k mid new book book' rights rights' sayings told frames engine first second =
    ap (λ (r : Reply). record {
      state = (b r.state).state;
      frames = λ d. r.frames d ++ (b r.state).frames d;
      sayings = r.sayings ++ (b r.state).sayings;
      words = r.words ++ (b r.state).words;
    }) first
    ∙ second ∙ ap (λ (x : Centre). posted frames (replied x sayings told))
    (parts_over mid new book book' rights rights' k engine)

-- a centre with parts that were left has them
pub has_left : (line : Line) (c : ℕ) (k : Centre) (old mid : TrainState) (book book' : Pages) (rights rights' : Rights)
    → HasParts line c k old book rights
    → ((s : ℕ) → is_own book' s ≡ is_own book s) → IsKeptAt line c mid
    → HasParts line c (with_parts mid book' rights' k) mid book' rights'
has_left line c k old mid book book' rights rights' has homes kept = record {
  ordered = has.ordered;
  kept = kept;
  homes = λ s. homes s ∙ has.homes s;
  has_book = λ s. refl;
  has_wish = λ s. refl;
  has_phase = put_there k.phase mid.supervision.engine (session_phase mid.session_state);
  has_heard = put_there k.heard mid.supervision.engine mid.heard;
  has_said = put_there k.said mid.supervision.engine mid.said;
  has_mission = put_there k.mission mid.supervision.engine mid.supervision.mission;
  has_route_ask = put_there k.route_ask mid.supervision.engine mid.supervision.asked;
  has_wait = put_there k.wait mid.supervision.engine mid.waiting.wait;
  has_ask = put_there k.has_asked mid.supervision.engine mid.waiting.has_asked;
  has_right = put_there k.has_right mid.supervision.engine (is_here rights' mid.supervision.number);
  has_expects = λ d. put_there (k.expects d) mid.supervision.engine (expected_from mid.expectations d);
}

-- a recorded message, and then its answer
module _ (line : Line) (c : ℕ) (k : Centre) (stamp : ℕ) (old : TrainState) (book : Pages) (rights : Rights)
    (has : HasParts line c k old book rights) where
  abbrev pub heard_at : Centre
  heard_at = record k { heard = put k.heard old.supervision.engine (Some stamp) }

  heard_is : heard_at ≡ with_parts (record old { heard = Some stamp }) book rights k
  heard_is =
      λ i.
      record (same_state line c k old book rights has i) { heard = put k.heard old.supervision.engine (Some stamp) }

  pub parts_heard : HasParts line c heard_at (record old { heard = Some stamp }) book rights
  parts_heard =
      let kept : IsKeptAt line c (record old { heard = Some stamp }) =
      record {
        one_train = has.kept.one_train;
        form = has.kept.form;
        pool = has.kept.pool;
        covers = has.kept.covers;
        expected = has.kept.expected;
      } in
      subst (λ (j : Centre). HasParts line c j (record old { heard = Some stamp }) book rights) (sym heard_is)
      (has_left line c k old (record old { heard = Some stamp }) book book rights rights has (λ s. refl) kept)

  pub left_heard : (new : TrainState) (book' : Pages) (rights' : Rights)
      → new.supervision.engine ≡ old.supervision.engine
      → with_parts new book' rights' heard_at ≡ with_parts new book' rights' k
  left_heard new book' rights' engine = ap (with_parts new book' rights') heard_is
      ∙ parts_over (record old { heard = Some stamp }) new book book' rights rights' k engine

-- a message is sent to the train after that
pub says : (t group : ℕ) (body : TrackBody) (p : TrainState) (book : Pages) (rights : Rights) (k : Centre)
    → p.supervision.engine ≡ t
    → say t group body (with_parts p book rights k)
    ≡ replied (with_parts (record p { said = p.said + 1 }) book rights k)
    (record { nid_engine = t; message = record { t_train = p.said + 1; nid_lrbg = group; body = body } } ∷ []) []
says t group body p book rights k engine =
    let e = p.supervision.engine in
    let count : put k.said e p.said t ≡ p.said = ap (put k.said e p.said) (sym engine) ∙ put_there k.said e p.said in
    λ i. replied (record (with_parts p book rights k) {
      said =
          λ u. ((λ l. put (put k.said e p.said) (sym engine l) (count l + 1) u)
          ∙ put_over e (p.said + 1) p.said k.said u) i;
    }) (record { nid_engine = t; message = record { t_train = count i + 1; nid_lrbg = group; body = body } } ∷ []) []
