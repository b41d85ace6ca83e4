use Rattle.std.proofs.Common.{[], ◌+◌, ◌∙◌, ◌∷◌, ap, arith, option_map, Some, sym}
use Rattle.rbc_spec.specs.Centre.{Mission}
use Rattle.rbc_spec.specs.Line.{start}
use Rattle.rbc_spec.specs.Maps.{put}
use Rattle.rbc_spec.specs.Message.{ShorteningRequest}
use Rattle.rbc_train.proofs.Asks.{has_room, made, none_made, none_to_ask}
use Rattle.rbc_train.proofs.Desk.{asked_nothing}
use Rattle.rbc_train.proofs.train.TrainState.ask_back.Goals as goal
use Rattle.rbc_train.specs.Guards.{mission_in}
use Rattle.rbc_train.specs.Sayings.{sayings_of}
use Rattle.rbc_train.specs.Trains.{asked}

pub returns-in_err-mission-clause-exact : goal.returns-in_err-mission-clause-exact
returns-in_err-mission-clause-exact c = λ k has.
    let old = c.args.self.now in
    let t = old.supervision.engine in
    none_to_ask c.args.line.now t c.args.s k
    (has.mission_is ∙ sym c.mission.ensures.value ∙ ap (option_map (mission_in old.supervision)) c.in_err-mission.was)
    ∙ sym (asked_nothing t k old has) ∙ (λ i. asked t old (sayings_of (sym c.from_residual.ensures i)) k)

pub returns-in_err-shortening-clause-exact : goal.returns-in_err-shortening-clause-exact
returns-in_err-shortening-clause-exact c = λ k has.
    let old = c.args.self.now in
    let t = old.supervision.engine in
    let m = mission_in old.supervision c.in_ok-mission.mission in
    none_made c.args.line.now t c.args.s m k
    (has.mission_is ∙ sym c.mission.ensures.value ∙ ap (option_map (mission_in old.supervision)) c.in_ok-mission.was)
    c.propose.result (c.propose.ensures.rules t m k (c.facts.ensures k has.phase_is)) c.in_err-shortening.was
    ∙ sym (asked_nothing t k old has)
    ∙ (λ i. asked t old (sayings_of (sym c.from_residual-in_err-shortening.ensures i)) k)

pub new-requires : goal.new-requires
new-requires c =
    let room =
    has_room (start c.args.line.now c.args.s) c.args.s c.facts.result c.in_ok-shortening.shortening
    (sym c.propose.ensures.exact ∙ c.in_ok-shortening.was) in
    let same = c.from.ensures in
    omega (arith, room, same)

pub returns-clause-exact : goal.returns-clause-exact
returns-clause-exact c = λ k has.
    let old = c.args.self.now in
    let t = old.supervision.engine in
    let m = mission_in old.supervision c.in_ok-mission.mission in
    let x = c.in_ok-shortening.shortening in
    made c.args.line.now t c.args.s m k
    (has.mission_is ∙ sym c.mission.ensures.value ∙ ap (option_map (mission_in old.supervision)) c.in_ok-mission.was)
    c.propose.result (c.propose.ensures.rules t m k (c.facts.ensures k has.phase_is)) x c.in_ok-shortening.was
    ∙ (λ i. record {
      state = record k {
        said = put k.said t (has.said_is i + 1);
        mission =
            put k.mission t
            (option_map (λ (n : Mission).
            record n { proposal = Some (record { stamp = has.said_is i + 1; last_kept = x.last_kept }) })
            (has.mission_is i));
      };
      frames = λ d. [];
      sayings =
          record {
            nid_engine = t;
            message =
                record {
                  t_train = has.said_is i + 1;
                  nid_lrbg = m.place.group;
                  body = ShorteningRequest x.l_endsection;
                };
          } ∷ [];
      words = [];
    })
    ∙ (λ i.
    asked t
    (sym (c.answer.ensures.counted ∙ (λ l. record old { said = old.said + 1; supervision = c.propose-2.ensures l })) i)
    (sym (c.answer.ensures.saying
    ∙ (λ l. record {
      nid_engine = (c.propose-2.ensures l).engine;
      message =
          record {
            t_train = old.said + 1;
            nid_lrbg = m.place.group;
            body = ShorteningRequest ((c.new.ensures ∙ c.from.ensures) l);
          };
    })) i ∷ []) k)
