use Rattle.std.proofs.Common.{◌≡◌, ◌++◌, List, ℕ, length}
use Rattle.record_lines.specs.{LineMachine.{HasTaken, IsHeld, IsShort}, Words.NoEnd}
use Rattle.record_lines.proofs.text.line_machine.Pieces.feed.Given as goal

abbrev pub invariant-loop-end : goal.invariant-loop-end
invariant-loop-end g l = record {
  no_end : NoEnd l.self.pending.items;
  short : IsShort g.L.TakesLines.fits l.fn.self.pending.items → IsShort g.L.TakesLines.fits l.self.pending.items;
  held : IsHeld g.L.TakesLines.takes l.fn.self.lines l.fn.self.pending.items → IsHeld g.L.TakesLines.takes l.self.lines l.self.pending.items;
  taken : (start : g.row.L.Denot) (text : List ℕ) → HasTaken g.L.TakesLines.takes start text l.fn.self.lines l.fn.self.number l.fn.self.passing l.fn.self.pending.items → (done : List ℕ) × (done ++ l.rest ≡ text ++ l.fn.piece) × HasTaken g.L.TakesLines.takes start done l.self.lines l.self.number l.self.passing l.self.pending.items;
}

abbrev pub decreases-loop-end : goal.decreases-loop-end
decreases-loop-end g l = length l.rest
