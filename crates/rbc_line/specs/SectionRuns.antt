-- Runs of sections in memory.
use Rattle.rbc_spec.specs.SectionRuns.{SectionRun}
use Rattle.rbc_line.specs.declared.section_run.SectionRun.{SectionRun as SectionRunCode}

abbrev pub run_of : SectionRunCode → SectionRun
run_of r = record { first = r.first; count = r.count }
