use Rattle.std.proofs.Common.{if◌then◌else◌, ◌∙◌, ◌≡◌, ◌≢◌, ap, arith, IfSome, length, None, Option, option_map}
use Rattle.std.proofs.Common.{replicate, subst, sym, true}
use Rattle.std.proofs.lemmas.Bool.{eqb-false}
use Rattle.std.proofs.lemmas.List.{length-replicate}
use Rattle.rbc_border.proofs.border.Border.info.Goals as goal
use Rattle.rbc_border.proofs.border.Border.info.Goals.{else-is_wanted+else-is_empty, else-is_wanted+then-is_empty}
use Rattle.rbc_border.proofs.border.Border.info.Goals.{Joined-is_wanted, then-is_wanted}
use Rattle.rbc_border.proofs.border.Border.info.Goals.{then-not-is_asked-via-else-not-is_asked+then-not-is_of_one_home}
use Rattle.rbc_border.proofs.border.Border.info.Goals.{then-not-is_asked-via-then-not-is_asked}
use Rattle.rbc_border.proofs.Borders.{an_answer, not_asked_for, not_of_home, unasked, unwanted, wanted}
use Rattle.rbc_border.proofs.HomeParts.{first_home, one_home_below}
use Rattle.rbc_border.specs.Border.{answers, border_state, BorderState, IsBorder, wants, with_border}
use Rattle.rbc_border.specs.declared.border.Border.TheInside.{Inside}
use Rattle.rbc_border.specs.Lending.{sending}
use Rattle.rbc_hand.specs.Tokens.{Name}
use Rattle.rbc_line.specs.declared.section_run.SectionRun.{SectionRun as SectionRunCode}
use Rattle.rbc_line.specs.SectionRuns.{run_of}
use Rattle.rbc_spec.specs.Acts.{rest, send}
use Rattle.rbc_spec.specs.Frame.{Body, HasRunRange, RouteReturn}

pub returns-then-not-is_asked-clause-exact : goal.returns-then-not-is_asked-clause-exact
returns-then-not-is_asked-clause-exact c centre k border goes =
    unasked c.args.line.now centre c.args.from (run_of c.args.sections) c.args.way k c.args.self.now border goes
    (elim c.then-not-is_asked.branch [
      | then-not-is_asked-via-then-not-is_asked w ↦
          not_asked_for c.args.line.now c.args.from (run_of c.args.sections) c.args.self.now
          (sym c.is_asked.ensures ∙ w.if-not-is_asked.true)
      | then-not-is_asked-via-else-not-is_asked+then-not-is_of_one_home w ↦
          not_of_home c.args.line.now c.args.from (run_of c.args.sections) c.args.self.now
          (sym w.is_of_one_home.ensures.value ∙ w.if-not-is_of_one_home.true)
    ])

answered : (c : Joined-is_wanted) → answers c.args.line.now c.args.from (run_of c.args.sections) c.args.self.now ≡ true
answered c =
    an_answer c.args.line.now c.args.from (run_of c.args.sections) c.args.self.now
    (sym c.is_asked.ensures ∙ c.if-not-is_asked.false)
    (sym c.is_of_one_home.ensures.value ∙ c.if-not-is_of_one_home.false)

decided : (c : Joined-is_wanted)
    → c.wants-is_wanted.result ≡ wants c.args.line.now (run_of c.args.sections) c.args.way c.args.self.now
decided c =
    c.wants-is_wanted.ensures
    (first_home c.args.line.now c.args.from (run_of c.args.sections)
    (sym c.is_of_one_home.ensures.value ∙ c.if-not-is_of_one_home.false))

abbrev IsSound : Inside → Type 0
IsSound x = IsBorder x.nid_engine x.lender x.first x.names

pub invariant_of-self : goal.invariant_of-self
invariant_of-self c =
    elim c.if-is_wanted.branch [
      | then-is_wanted w ↦
          let name = Name c.self.inside.nid_engine c.args.from in
          let long : length w.fill.new.names.holds ≡ c.args.sections.count =
          ap length w.fill.ensures.holds ∙ length-replicate c.args.sections.count name in
          let below =
          one_home_below c.args.line.now c.args.from (run_of c.args.sections) c.is_of_one_home.ensures.line
          (sym c.is_of_one_home.ensures.value ∙ c.if-not-is_of_one_home.false) in
          subst IsSound (sym w.self-inside-is)
          (record {
            lent = w.fill.ensures.holds ∙ ap (λ n. replicate n name) (sym long);
            begins = λ some. w.fill.ensures.first (omega (arith, some, long));
            most = omega (arith, long, c.requires);
            last = omega (arith, long, below);
          })
      | else-is_wanted+then-is_empty w ↦ subst IsSound (sym w.self-inside-is)
          (record {
            lent = c.self.invariant.lent;
            begins = c.self.invariant.begins;
            most = c.self.invariant.most;
            last = c.self.invariant.last;
          })
      | else-is_wanted+else-is_empty w ↦ subst IsSound (sym w.self-inside-is)
          (record {
            lent = c.self.invariant.lent;
            begins = c.self.invariant.begins;
            most = c.self.invariant.most;
            last = c.self.invariant.last;
          })
    ]

abbrev IsReturned : Option SectionRunCode → Type 0
IsReturned o = IfSome o (λ run. HasRunRange 1 31 (run_of run))

pub returns-clause-range : goal.returns-clause-range
returns-clause-range c =
    elim c.if-is_wanted.branch [
      | then-is_wanted w ↦ subst IsReturned (sym w.result-is) tt
      | else-is_wanted+then-is_empty w ↦ subst IsReturned (sym w.result-is) tt
      | else-is_wanted+else-is_empty w ↦
          let below =
          one_home_below c.args.line.now c.args.from (run_of c.args.sections) c.is_of_one_home.ensures.line
          (sym c.is_of_one_home.ensures.value ∙ c.if-not-is_of_one_home.false) in
          let some : c.args.sections.count ≢ 0 =
          eqb-false c.args.sections.count 0 (sym w.is_empty.ensures ∙ w.if-is_empty.false) in
          subst IsReturned (sym w.result-is)
          (record { first = omega (arith, below, some); count = (omega (arith, some), c.requires); last = below })
    ]

-- the state that is left, from the one that is to be left
abbrev seen : Inside → BorderState
seen x = border_state x.nid_engine x.lender x.first x.names x.asked

pub returns-clause-exact : goal.returns-clause-exact
returns-clause-exact c centre k border goes =
    let line = c.args.line.now in
    let r = run_of c.args.sections in
    let b = c.args.self.now in
    let t = c.args.self.now.engine in
    let back : c.args.self.now ≡ seen c.self.inside = sym c.self.view_is in
    let body : SectionRunCode → Body = λ run. RouteReturn t (run_of run) in
    elim c.if-is_wanted.branch [
      | then-is_wanted w ↦
          let long : c.args.sections.count ≡ length w.fill.new.names.holds =
          sym (ap length w.fill.ensures.holds
          ∙ length-replicate c.args.sections.count (Name c.self.inside.nid_engine c.args.from)) in
          let state : record b { lender = c.args.from; pool = r; asked = None } ≡ seen c.if-is_wanted.self-inside
          =
          (λ i. record {
            engine = (back i).engine;
            lender = c.args.from;
            pool = record { first = c.args.sections.first; count = long i };
            asked = None;
          }) ∙ ap seen (sym w.self-inside-is) in
          wanted line centre c.args.from r c.args.way k b border goes (answered c)
          (sym (decided c) ∙ w.if-is_wanted.true)
          ∙ (λ i. sending c.args.from (option_map body (sym w.result-is i)) (with_border (state i) k))
      | else-is_wanted+then-is_empty w ↦
          let state : record b { asked = None } ≡ seen c.if-is_wanted.self-inside =
          (λ i. record (back i) { asked = None }) ∙ ap seen (sym w.self-inside-is) in
          unwanted line centre c.args.from r c.args.way k b border goes (answered c)
          (sym (decided c) ∙ w.if-is_wanted.false)
          ∙ ap (λ x. (if x then rest else send c.args.from (RouteReturn t r))
          (with_border (record b { asked = None }) k)) (sym w.is_empty.ensures ∙ w.if-is_empty.true)
          ∙ (λ i. sending c.args.from (option_map body (sym w.result-is i)) (with_border (state i) k))
      | else-is_wanted+else-is_empty w ↦
          let state : record b { asked = None } ≡ seen c.if-is_wanted.self-inside =
          (λ i. record (back i) { asked = None }) ∙ ap seen (sym w.self-inside-is) in
          unwanted line centre c.args.from r c.args.way k b border goes (answered c)
          (sym (decided c) ∙ w.if-is_wanted.false)
          ∙ ap (λ x. (if x then rest else send c.args.from (RouteReturn t r))
          (with_border (record b { asked = None }) k)) (sym w.is_empty.ensures ∙ w.if-is_empty.false)
          ∙ (λ i. sending c.args.from (option_map body (sym w.result-is i)) (with_border (state i) k))
    ]
