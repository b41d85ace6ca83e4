use Rattle.std.proofs.Common.{◌∙◌, sym}
use Rattle.rbc_spec.specs.Line.{section}
use Rattle.rbc_world.proofs.Known.{world_sections}
use Rattle.rbc_world.proofs.Shown.{has_home, no_section}
use Rattle.rbc_world.proofs.world.World.section_view.Goals as goal
use Rattle.rbc_world.specs.World.{line_of, state_of}

pub returns-in-Some : goal.returns-in-Some
returns-in-Some c =
    let w = c.args.self.now in
    let sections = world_sections (line_of w) (state_of w) c.known_line.ensures w.reached in
    let home = has_home (section (line_of w) c.args.s) c.in-Some.home (sym c.home_of.ensures ∙ c.in-Some.is) in
    record {
      mark = c.seen_at.ensures.mark ∙ sym (sections.mark c.args.s c.in-Some.home home);
      wish = c.seen_at.ensures.wish ∙ sym (sections.wish c.args.s c.in-Some.home home);
    }

pub returns-in-None : goal.returns-in-None
returns-in-None c =
    let w = c.args.self.now in
    let sections = world_sections (line_of w) (state_of w) c.known_line.ensures w.reached in
    let none = no_section (section (line_of w) c.args.s) (sym c.home_of.ensures ∙ c.in-None.is) in
    record { mark = sym (sections.no_mark c.args.s none); wish = sym (sections.no_wish c.args.s none) }
