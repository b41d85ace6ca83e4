-- Returned things: a right, and lent sections.
use Rattle.std.proofs.Common.{[], ◌==◌, ◌||◌, ◌∙◌, ◌∷◌, ◌≡◌, arith, eq-eqb, eqb-true, inl, inr, Option, subst, sym, ℕ}
use Rattle.std.proofs.lemmas.Bool.{cases_Bool, cond-false, cond-true, or_right}
use Rattle.rbc_line.specs.declared.section_run.SectionRun.{SectionRun as SectionRunCode}
use Rattle.rbc_mission.specs.declared.held.HeldRight.{HeldRight}
use Rattle.rbc_right.specs.Rights.{Rights}
use Rattle.rbc_spec.specs.Acts.{returned}
use Rattle.rbc_spec.specs.Centre.{beginning, Centre}
use Rattle.rbc_spec.specs.Frame.{RouteReturn}
use Rattle.rbc_spec.specs.Line.{Line}
use Rattle.rbc_spec.specs.SectionRuns.{is_empty, SectionRun, shared}
use Rattle.rbc_spec.specs.Sections.{home_run}
use Rattle.rbc_train.specs.declared.letter.Letter.{Letter}
use Rattle.rbc_train.specs.declared.mail.Mail.{Mail}
use Rattle.rbc_train.specs.declared.mail.Notice.{Notice}
use Rattle.rbc_train.specs.Homes.{GoesHome}
use Rattle.rbc_train.specs.Letters.{going_home, mail_home}

-- a right of this train is returned
pub goes_as : (line : Line) (c t u : ℕ) (right right' : HeldRight) (letter : Option Letter) (rights rights' : Rights)
    → u ≡ t → right ≡ right' → GoesHome line c u right letter rights rights'
    → GoesHome line c t right' letter rights rights'
goes_as line c t u right right' letter rights rights' engine same home =
    subst (λ (x : HeldRight). GoesHome line c t x letter rights rights') same
    (subst (λ (x : ℕ). GoesHome line c x right letter rights rights') engine home)

-- the frames of returned sections are those of the rules' act in every state
pub sends_home : (line : Line) (c t track : ℕ) (r : SectionRun) (k : Centre) (d : ℕ)
    → going_home line c t track r d ≡ (returned line c t track r k).frames d
sends_home line c t track r k d = elim (cases_Bool (is_empty r)) [
  | inl none ↦
      let count = eqb-true r.count 0 none in
      cond-true (is_empty r) [] ((returned line c t track r (beginning line c)).frames d) none
      ∙ sym (cond-true (d == c || is_empty (shared r (home_run line d track))) []
      (RouteReturn t (shared r (home_run line d track)) ∷ [])
      (or_right (d == c) _ (eq-eqb (shared r (home_run line d track)).count 0 (omega (arith, count)))))
  | inr some ↦ cond-false (is_empty r) [] ((returned line c t track r (beginning line c)).frames d) some
]

-- mail of sections, a notice and a letter is made of these
pub sent_home : (track : ℕ) (sections : SectionRunCode) (notice : Notice) (mail : Mail)
    → mail ≡ mail_home track sections notice mail.letter → mail ≡ mail_home track mail.first mail.notice mail.letter
sent_home track sections notice mail is = is ∙ (λ i. mail_home track (sym is i).first (sym is i).notice mail.letter)
