use Rattle.std.proofs.Common.{[], ◌&&◌, ◌+◌, ◌==◌, ◌||◌, ◌∙◌, ◌∷◌, ◌≡◌, ap, Bool, eqb-true, false, if◌then◌else◌, List}
use Rattle.std.proofs.Common.{None, not, Option, option_map, refl, Some, sym, true, ℕ}
use Rattle.std.proofs.lemmas.Bool.{and_parts, ne_eqb}
use Rattle.std.proofs.lemmas.List.Elements.{All-append, All-cons, All-map, All-nil, All-weaker, filter_passes}
use Rattle.std.specs.List.{All, range_with_len}
use Rattle.std.specs.Option.{option_map_or}
use Rattle.law_base.specs.Walk.Trains.{train_of}
use Rattle.law_promises.proofs.ApartLemmas.Speaks.{IsOf, quiet, same_itself, same_then, speaks_then}
use Rattle.law_promises.specs.Apart.Apart.{IsSameOf, IsToldOf}
use Rattle.rbc_spec.proofs.Lists.{put_other}
use Rattle.rbc_spec.specs.Acts.{◌>>◌, Act, become, booked, freed, Reply, rest, returned, say, send, where_so, with_some}
use Rattle.rbc_spec.specs.Centre.{Centre, Entry, Expectation, is_open, is_taken_for, is_used_for, Mission, Open, Out}
use Rattle.rbc_spec.specs.Centre.{Phase, Shut, Taken}
use Rattle.rbc_spec.specs.Frame.{Body, RouteReturn, TakingOver}
use Rattle.rbc_spec.specs.Line.{is_centre, is_home, Line}
use Rattle.rbc_spec.specs.Maps.{has, put}
use Rattle.rbc_spec.specs.Message.{TrackBody}
use Rattle.rbc_spec.specs.Outcome.{Saying, Told}
use Rattle.rbc_spec.specs.Place.{Place}
use Rattle.rbc_spec.specs.Rules.{choose, take_over, taking}
use Rattle.rbc_spec.specs.SectionRuns.{is_empty, SectionRun, shared, within}
use Rattle.rbc_spec.specs.Sections.{home_run}

module _ (takes : Bool) (t : ℕ) where
  abbrev pub Its : Act → Type 0
  Its act = (k : Centre) → IsOf takes t k (act k)

  no_sayings : All (λ (p : Saying). p.nid_engine ≡ t) []
  no_sayings = All-nil (λ (p : Saying). p.nid_engine ≡ t)

  no_frames : All (λ (b : Body). train_of b ≡ t) []
  no_frames = All-nil (λ (b : Body). train_of b ≡ t)

  frames_if : (b : Bool) (xs ys : List Body) → All (λ (b : Body). train_of b ≡ t) xs
      → All (λ (b : Body). train_of b ≡ t) ys → All (λ (b : Body). train_of b ≡ t) (if b then xs else ys)
  frames_if true xs ys one two = one
  frames_if false xs ys one two = two

  pub its_become : (change : Centre → Centre) → ((k : Centre) (s : ℕ) → (change k).book s ≡ k.book s)
      → ((k : Centre) (u : ℕ) → (u ≡ t → ⊥) → IsSameOf u k (change k)) → Its (become change)
  its_become change book same k =
      record {
        others = same k;
        sayings = no_sayings;
        frames = λ d. no_frames;
        speaks = quiet takes t k (become change k) refl (book k);
      }

  pub its_rest : Its rest
  its_rest = its_become (λ k. k) (λ k s. refl) (λ k u apart. same_itself u k)

  pub its_then : (a b : Act) → Its a → Its b → Its (a >> b)
  unfolding ◌>>◌
  its_then a b one two k =
      let first = one k in
      let second = two (a k).state in
      record {
        others = λ u apart. same_then u k (a k).state (b (a k).state).state
            (first.others u apart) (second.others u apart);
        sayings = All-append (λ (p : Saying). p.nid_engine ≡ t) (a k).sayings (b (a k).state).sayings
            first.sayings second.sayings;
        frames = λ d. All-append (λ (b : Body). train_of b ≡ t) ((a k).frames d) ((b (a k).state).frames d)
            (first.frames d) (second.frames d);
        speaks = speaks_then takes t k a b first.speaks second.speaks;
      }

  pub of_if : (b : Bool) (k : Centre) (x y : Reply) → IsOf takes t k x → IsOf takes t k y
      → IsOf takes t k (if b then x else y)
  of_if true k x y one two = one
  of_if false k x y one two = two

  pub its_if : (b : Bool) (x y : Act) → Its x → Its y → Its (if b then x else y)
  its_if true x y one two = one
  its_if false x y one two = two

  pub of_option : {X : Type 0} (o : Option X) (k : Centre) (f : X → Reply) (none : Reply)
      → ((x : X) → IsOf takes t k (f x)) → IsOf takes t k none → IsOf takes t k (option_map_or f o none)
  of_option None k f none some other = other
  of_option (Some x) k f none some other = some x

  pub its_option : {X : Type 0} (o : Option X) (f : X → Act) (none : Act) → ((x : X) → Its (f x)) → Its none
      → Its (option_map_or f o none)
  its_option None f none some other = other
  its_option (Some x) f none some other = some x

  pub its_where : (test : Centre → Bool) (act : Act) → Its act → Its (where_so test act)
  its_where test act one k = of_if (test k) k (act k) (rest k) (one k) (its_rest k)

  pub its_choose : (test : Centre → Bool) (x y : Act) → Its x → Its y → Its (choose test x y)
  its_choose test x y one two k = of_if (test k) k (x k) (y k) (one k) (two k)

  pub its_with : {X : Type 0} (value : Centre → Option X) (act : X → Act) → ((x : X) → Its (act x))
      → Its (with_some value act)
  its_with value act one k = of_option (value k) k (λ x. act x k) (rest k) (λ x. one x k) (its_rest k)

  -- ## The state that is kept of the train

  pub same_phase : (k : Centre) (value : Phase) (u : ℕ) → (u ≡ t → ⊥)
      → IsSameOf u k (record k { phase = put k.phase t value })
  same_phase k value u apart = record {
    phase = put_other k.phase t u value apart;
    heard = refl;
    said = refl;
    mission = refl;
    wait = refl;
    has_asked = refl;
    has_right = refl;
    route_ask = refl;
    expects = λ d. refl;
    used = λ s. refl;
    entries = λ s is. refl;
  }

  pub same_heard : (k : Centre) (value : Option ℕ) (u : ℕ) → (u ≡ t → ⊥)
      → IsSameOf u k (record k { heard = put k.heard t value })
  same_heard k value u apart = record {
    phase = refl;
    heard = put_other k.heard t u value apart;
    said = refl;
    mission = refl;
    wait = refl;
    has_asked = refl;
    has_right = refl;
    route_ask = refl;
    expects = λ d. refl;
    used = λ s. refl;
    entries = λ s is. refl;
  }

  pub same_said : (k : Centre) (value : ℕ) (u : ℕ) → (u ≡ t → ⊥) → IsSameOf u k (record k { said = put k.said t value })
  same_said k value u apart = record {
    phase = refl;
    heard = refl;
    said = put_other k.said t u value apart;
    mission = refl;
    wait = refl;
    has_asked = refl;
    has_right = refl;
    route_ask = refl;
    expects = λ d. refl;
    used = λ s. refl;
    entries = λ s is. refl;
  }

  pub same_mission : (k : Centre) (value : Option Mission) (u : ℕ) → (u ≡ t → ⊥)
      → IsSameOf u k (record k { mission = put k.mission t value })
  same_mission k value u apart = record {
    phase = refl;
    heard = refl;
    said = refl;
    mission = put_other k.mission t u value apart;
    wait = refl;
    has_asked = refl;
    has_right = refl;
    route_ask = refl;
    expects = λ d. refl;
    used = λ s. refl;
    entries = λ s is. refl;
  }

  pub same_wait : (k : Centre) (value : Option Place) (u : ℕ) → (u ≡ t → ⊥)
      → IsSameOf u k (record k { wait = put k.wait t value })
  same_wait k value u apart = record {
    phase = refl;
    heard = refl;
    said = refl;
    mission = refl;
    wait = put_other k.wait t u value apart;
    has_asked = refl;
    has_right = refl;
    route_ask = refl;
    expects = λ d. refl;
    used = λ s. refl;
    entries = λ s is. refl;
  }

  pub same_has_asked : (k : Centre) (value : Bool) (u : ℕ) → (u ≡ t → ⊥)
      → IsSameOf u k (record k { has_asked = put k.has_asked t value })
  same_has_asked k value u apart = record {
    phase = refl;
    heard = refl;
    said = refl;
    mission = refl;
    wait = refl;
    has_asked = put_other k.has_asked t u value apart;
    has_right = refl;
    route_ask = refl;
    expects = λ d. refl;
    used = λ s. refl;
    entries = λ s is. refl;
  }

  pub same_has_right : (k : Centre) (value : Bool) (u : ℕ) → (u ≡ t → ⊥)
      → IsSameOf u k (record k { has_right = put k.has_right t value })
  same_has_right k value u apart = record {
    phase = refl;
    heard = refl;
    said = refl;
    mission = refl;
    wait = refl;
    has_asked = refl;
    has_right = put_other k.has_right t u value apart;
    route_ask = refl;
    expects = λ d. refl;
    used = λ s. refl;
    entries = λ s is. refl;
  }

  pub same_route_ask : (k : Centre) (value : Option ℕ) (u : ℕ) → (u ≡ t → ⊥)
      → IsSameOf u k (record k { route_ask = put k.route_ask t value })
  same_route_ask k value u apart = record {
    phase = refl;
    heard = refl;
    said = refl;
    mission = refl;
    wait = refl;
    has_asked = refl;
    has_right = refl;
    route_ask = put_other k.route_ask t u value apart;
    expects = λ d. refl;
    used = λ s. refl;
    entries = λ s is. refl;
  }

  pub its_say : (group : ℕ) (body : TrackBody) → Its (say t group body)
  its_say group body k = record {
    others = same_said k (k.said t + 1);
    sayings = All-cons (λ (p : Saying). p.nid_engine ≡ t) _ [] refl no_sayings;
    frames = λ d. no_frames;
    speaks = quiet takes t k (say t group body k) refl (λ s. refl);
  }

  pub its_send : (d : ℕ) (body : Body) → train_of body ≡ t → Its (send d body)
  its_send d body is k = record {
    others = λ u apart. same_itself u k;
    sayings = no_sayings;
    frames = λ e. frames_if (e == d) (body ∷ []) [] (All-cons (λ (b : Body). train_of b ≡ t) body [] is no_frames)
        no_frames;
    speaks = quiet takes t k (send d body k) refl (λ s. refl);
  }

  -- ## The book

  other_entry : (e : Entry) (u : ℕ) → (u ≡ t → ⊥) → is_taken_for t e ≡ true → is_used_for u e ≡ false
  other_entry Shut u apart is = cc
  other_entry Open u apart is = cc
  other_entry (Taken x) u apart is = ne_eqb x u (λ same. apart (sym same ∙ eqb-true x t is))
  other_entry (Out x) u apart is = cc

  open_unused : (e : Entry) (u : ℕ) → is_open e ≡ true → is_used_for u e ≡ false
  open_unused Shut u is = cc
  open_unused Open u is = refl
  open_unused (Taken x) u is = cc
  open_unused (Out x) u is = cc

  wrong : {P : Type 0} (a : Bool) → a ≡ false → a ≡ true → P
  wrong true one two = cc
  wrong false one two = cc

  -- sections that are in no use for another train get an entry that is none
  same_book : (k new : Centre) (test : ℕ → Bool) (entry : ℕ → Entry) (u : ℕ) → new.phase u ≡ k.phase u
      → new.heard u ≡ k.heard u → new.said u ≡ k.said u → new.mission u ≡ k.mission u → new.wait u ≡ k.wait u
      → new.has_asked u ≡ k.has_asked u → new.has_right u ≡ k.has_right u → new.route_ask u ≡ k.route_ask u
      → ((d : ℕ) → new.expects d u ≡ k.expects d u)
      → ((s : ℕ) → new.book s ≡ (if test s then entry s else k.book s))
      → ((s : ℕ) → test s ≡ true → is_used_for u (k.book s) ≡ false)
      → ((s : ℕ) → is_used_for u (entry s) ≡ false) → IsSameOf u k new
  same_book k new test entry u phase heard said mission wait has_asked has_right route_ask expects is unused none =
      record {
        phase = phase;
        heard = heard;
        said = said;
        mission = mission;
        wait = wait;
        has_asked = has_asked;
        has_right = has_right;
        route_ask = route_ask;
        expects = expects;
        used = λ s. ap (is_used_for u) (is s) ∙ by_used s (test s) refl;
        entries = λ s used. is s ∙ by_entry s (test s) refl used;
      }
    where
      by_used : (s : ℕ) (b : Bool) → test s ≡ b → is_used_for u (if b then entry s else k.book s)
          ≡ is_used_for u (k.book s)
      by_used s true so = none s ∙ sym (unused s so)
      by_used s false so = refl

      by_entry : (s : ℕ) (b : Bool) → test s ≡ b → is_used_for u (k.book s) ≡ true
          → (if b then entry s else k.book s) ≡ k.book s
      by_entry s true so used = wrong (is_used_for u (k.book s)) (unused s so) used
      by_entry s false so used = refl

  shut_or_open : (b : Bool) (u : ℕ) → is_used_for u (if b then Shut else Open) ≡ false
  shut_or_open true u = refl
  shut_or_open false u = refl

  pub its_returned : (line : Line) (c track : ℕ) (r : SectionRun) → Its (returned line c t track r)
  its_returned line c track r k = record {
    others = λ u apart. same_itself u k;
    sayings = no_sayings;
    frames = λ d. frames_if ((d == c) || is_empty (shared r (home_run line d track))) []
        (RouteReturn t (shared r (home_run line d track)) ∷ []) no_frames
        (All-cons (λ (b : Body). train_of b ≡ t) (RouteReturn t (shared r (home_run line d track))) [] refl no_frames);
    speaks = quiet takes t k (returned line c t track r k) refl (λ s. refl);
  }

  -- ## Taking over

  pub its_take_over : (line : Line) → Its (take_over line t)
  its_take_over line k = record {
    others = λ u apart. record {
      phase = refl;
      heard = refl;
      said = refl;
      mission = refl;
      wait = refl;
      has_asked = refl;
      has_right = refl;
      route_ask = refl;
      expects = λ d. by_new d u apart (is_centre line d && has (λ e. not e.is_taking) (k.expects d t));
      used = λ s. refl;
      entries = λ s is. refl;
    };
    sayings = no_sayings;
    frames = λ d. by_expected (is_centre line d && has (λ e. not e.is_taking) (k.expects d t)) (k.expects d t);
    speaks = quiet takes t k (take_over line t k) refl (λ s. refl);
  }
    where
      by_new : (d u : ℕ) → (u ≡ t → ⊥) → (b : Bool)
          → (if b then put (k.expects d) t (option_map taking (k.expects d t)) else k.expects d) u ≡ k.expects d u
      by_new d u apart true = put_other (k.expects d) t u (option_map taking (k.expects d t)) apart
      by_new d u apart false = refl

      by_expected : (b : Bool) (o : Option Expectation)
          → All (λ (b : Body). train_of b ≡ t) (option_map_or (λ e. if b then TakingOver e.number t ∷ [] else []) o [])
      by_expected b None = no_frames
      by_expected b (Some e) = frames_if b (TakingOver e.number t ∷ []) []
          (All-cons (λ (b : Body). train_of b ≡ t) (TakingOver e.number t) [] refl no_frames) no_frames

-- ## Sections are taken and returned

module _ (t : ℕ) where
  pub its_booked : (r : SectionRun) → Its true t (booked is_open (Taken t) r)
  its_booked r k = record {
    others = λ u apart. same_book true t k (booked is_open (Taken t) r k).state (λ s. within r s && is_open (k.book s))
        (λ s. Taken t) u refl refl refl refl refl refl refl refl (λ d. refl) (λ s. refl)
        (λ s so. open_unused true t (k.book s) u (and_parts (within r s) (is_open (k.book s)) so).1)
        (λ s. ne_eqb t u (λ same. apart (sym same)));
    sayings = no_sayings true t;
    frames = λ d. no_frames true t;
    speaks = refl;
  }

  pub its_freed : (line : Line) (c : ℕ) (r : SectionRun) → Its false t (freed line c (is_taken_for t) r)
  its_freed line c r k = record {
    others = λ u apart. same_book false t k (freed line c (is_taken_for t) r k).state
        (λ s. (within r s && is_home line c s) && is_taken_for t (k.book s)) (λ s. if k.wish s then Shut else Open) u
        refl refl refl refl refl refl refl refl (λ d. refl) (λ s. refl)
        (λ s so. other_entry false t (k.book s) u apart
        (and_parts (within r s && is_home line c s) (is_taken_for t (k.book s)) so).1)
        (λ s. shut_or_open false t (k.wish s) u);
    sayings = no_sayings false t;
    frames = λ d. no_frames false t;
    speaks = record {
      used = λ s. by_used s (is_freed s);
      words = All-map (IsToldOf t k) (λ s. Told s) _
          (All-weaker (λ s. (is_freed s && k.wish s) ≡ true) (λ s. IsToldOf t k (Told s)) of_it _
          (filter_passes (λ s. is_freed s && k.wish s) (range_with_len r.first r.count)));
    };
  }
    where
      is_freed : ℕ → Bool
      is_freed s = (within r s && is_home line c s) && is_taken_for t (k.book s)

      by_used : (s : ℕ) (b : Bool) → is_used_for t (if b then (if k.wish s then Shut else Open) else k.book s) ≡ true
          → is_used_for t (k.book s) ≡ true
      by_used s true is = wrong false t (is_used_for t (if k.wish s then Shut else Open))
          (shut_or_open false t (k.wish s) t) is
      by_used s false is = is

      taken_used : (e : Entry) → is_taken_for t e ≡ true → is_used_for t e ≡ true
      taken_used Shut is = cc
      taken_used Open is = cc
      taken_used (Taken u) is = is
      taken_used (Out u) is = cc

      of_it : (s : ℕ) → (is_freed s && k.wish s) ≡ true → is_used_for t (k.book s) ≡ true
      of_it s is =
          taken_used (k.book s) (and_parts (within r s && is_home line c s) (is_taken_for t (k.book s))
          (and_parts (is_freed s) (k.wish s) is).0).1
