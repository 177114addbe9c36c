-- Callers of a cell.
use Rattle.std.specs.Prelude.{◌≡◌, ℕ, ◌==◌}
use Rattle.word_rule.specs.Cell.{Caller}
use Rattle.mcs_lock.specs.declared.cell.McsCell.{McsCell}
use Rattle.guarded_cell.specs.declared.cell.AnyCell.{AnyCell}
use Rattle.guarded_cell.specs.declared.cell.AnyCell.TheVariants as cells

module _ {O P C R : Type 0} where
  -- the cell has an MCS lock, and Q holds of it
  abbrev pub IfMcs : AnyCell O P C R → (McsCell O P C R → Type 0) → Type 0
  IfMcs (cells.Ticket c) Q = ⊥
  IfMcs (cells.Mcs c) Q = Q c

  -- the caller owns no other CPU than the one that it acts as
  pub record IsOne (caller : Caller O P C R) : Type 0 where
    pub each : (k : ℕ) → caller.owned k ≡ (k == caller.acting)
