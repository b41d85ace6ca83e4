use Rattle.std.proofs.Common.{arith}
use Rattle.text_script.proofs.script.entry_in.Goals as goal
use Rattle.text_script.proofs.script.entry_in.Goals.{in_default-via-else-words-lt1+else-words-lt2+else-words-lt3+else-words-lt4+else-words-lt5}
use Rattle.text_script.proofs.script.entry_in.Goals.{in_default-via-else-words-lt1+else-words-lt2+then-words-lt3}
use Rattle.text_script.proofs.script.entry_in.Goals.{in_default-via-then-words-lt1}
use Rattle.text_script.proofs.Scripts.{asked_none}

pub returns-in_default : goal.returns-in_default
returns-in_default c =
    elim c.in_default.branch [
      | in_default-via-then-words-lt1 w ↦
          λ _. asked_none c.args.line.now c.args.words.now (λ one. grind arith) (λ three. grind arith)
          (λ four. grind arith)
      | in_default-via-else-words-lt1+else-words-lt2+then-words-lt3 w ↦
          λ _. asked_none c.args.line.now c.args.words.now (λ one. grind arith) (λ three. grind arith)
          (λ four. grind arith)
      | in_default-via-else-words-lt1+else-words-lt2+else-words-lt3+else-words-lt4+else-words-lt5 w ↦
          λ _. asked_none c.args.line.now c.args.words.now (λ one. grind arith) (λ three. grind arith)
          (λ four. grind arith)
    ]
