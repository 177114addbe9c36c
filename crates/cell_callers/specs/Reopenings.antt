-- A cell is opened on the object that a closed one has left, and its log continues.
use Rattle.std.specs.Prelude.{◌≡◌, ℕ, ◌^◌, ◌-◌, Bool, true, false, Option, Some, Result, Ok, Err}
use Rattle.event_log.specs.History.{History}
use Rattle.sound_run.specs.declared.lock_kind.LockKind.{LockKind}
use Rattle.cell_callers.specs.{declared.cell_content.CellContent.CellContent, declared.cell_content.CellContent.TheVariants.{Cell, Ended}, declared.opening.NotOpened.NotOpened, declared.opening.NotOpened.TheVariants.{NotEmpty, BadOpening, OutOfMemory}, NewCells.IsOpenedOn, Openings.{lock_numbered, cpus_numbered}}

abbrev pub has_ended : CellContent → Bool
has_ended (Ended h) = true
has_ended content = false

-- a lock and a count of CPUs that fit
abbrev pub fit : Option LockKind → Option ℕ → Bool
fit (Some lock) (Some n) = true
fit lock n = false

-- a closed cell was reopened with its log; or nothing has changed: no cell was closed, a number didn't fit, or there was no memory
abbrev pub IsReopenedAs : CellContent → Option LockKind → Option ℕ → Result (Unit {0}) NotOpened → CellContent → Type 0
IsReopenedAs (Ended h) (Some lock) (Some n) (Ok u) (Cell c) = IsOpenedOn lock n h c
IsReopenedAs before lock n (Ok u) after = ⊥
IsReopenedAs before lock n (Err NotEmpty) after = (has_ended before ≡ false) × (after ≡ before)
IsReopenedAs before lock n (Err BadOpening) after = (has_ended before ≡ true) × (fit lock n ≡ false) × (after ≡ before)
IsReopenedAs before lock n (Err OutOfMemory) after = (has_ended before ≡ true) × (fit lock n ≡ true) × (after ≡ before)

-- the same, of their numbers
abbrev pub IsReopenedBy : CellContent → ℕ → ℕ → Result (Unit {0}) NotOpened → CellContent → Type 0
IsReopenedBy before lock n reported after = IsReopenedAs before (lock_numbered lock) (cpus_numbered n) reported after

-- the log continues with the highest limit, and isn't kept in memory any more
abbrev pub without_log : {O P C R : Type 0} → History O P C R → History O P C R
without_log h = record { params = h.params; limit = 2 ^ 64 - 1; log = h.log; state = h.state }

-- the log of a closed cell isn't kept any more, or nothing has changed
abbrev pub IsForgotten : CellContent → Bool → CellContent → Type 0
IsForgotten (Ended h) true (Ended k) = k ≡ without_log h
IsForgotten before reported after = (has_ended before ≡ false) × (reported ≡ false) × (after ≡ before)
