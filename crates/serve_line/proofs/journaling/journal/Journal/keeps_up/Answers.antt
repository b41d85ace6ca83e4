use Rattle.std.proofs.Common.{◌&&◌, ◌-◌, ◌<◌, ◌==◌, ◌≡◌, ◌≤◌, arith, Bool, false, if◌then◌else◌, IfSome, leb-false}
use Rattle.std.proofs.Common.{leb-true, nat_le, None, Option, refl, Some, subst, sym, true, ℕ}
use Rattle.std.proofs.lemmas.Bool.{le-leb}
use Rattle.serve_journal.specs.declared.kept.Kept.{Kept}
use Rattle.serve_journal.specs.Shown.{shows}
use Rattle.serve_line.proofs.journaling.journal.Journal.keeps_up.Goals as goal
use Rattle.serve_line.specs.Journaling.Waiting.{awaited}

later_by :
    (p q : Bool) (b m s : ℕ) → nat_le m b ≡ p → nat_le s b ≡ q → m ≤ s → (if p then 0 else m) ≤ (if q then 0 else s)
later_by true q b m s before after le = omega arith
later_by false true b m s before after le =
    let low : b < m = leb-false m b before in
    let high : s ≤ b = leb-true s b after in
    absurd (omega arith)
later_by false false b m s before after le = le

-- an answer to a later event waits for no earlier event
later : (b m s : ℕ) → m ≤ s → awaited (Some b) m ≤ awaited (Some b) s
later b m s le = later_by (nat_le m b) (nat_le s b) b m s refl refl le

needs : (is_stuck : Bool) (b s : ℕ) → awaited (Some b) (s - 4096) ≤ awaited (Some b) (if is_stuck then s else s - 4096)
needs true b s = later b (s - 4096) s (omega arith)
needs false b s = later b (s - 4096) (s - 4096) (omega arith)

fewer : (p : Bool) (k m n : ℕ) → m ≤ n → (p && nat_le n k) ≡ true → (p && nat_le m k) ≡ true
fewer true k m n le shown =
    let high : n ≤ k = leb-true n k shown in
    le-leb m k (omega arith)
fewer false k m n le shown = shown

-- a token that shows an event shows each earlier one too
more :
    (kept : Option Kept) (c m n : ℕ) → m ≤ n → IfSome kept (λ k. shows k c n ≡ true)
    → IfSome kept (λ k. shows k c m ≡ true)
more None c m n le shown = tt
more (Some k) c m n le shown = fewer (k.centre == c) k.stamp m n le shown

pub returns : goal.returns
returns g c =
    more c.wait_for.result c.args.centre (awaited (Some c.args.self.now.begun) (c.args.stamp - 4096)) c.needed.result
    (subst (λ (n : ℕ). awaited (Some c.args.self.now.begun) (c.args.stamp - 4096) ≤ n) (sym c.needed.ensures)
    (needs _ c.args.self.now.begun c.args.stamp))
    c.wait_for.ensures
