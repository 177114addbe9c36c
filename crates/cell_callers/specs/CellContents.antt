-- Effects on the content of a cell's handle: a cell is opened, gives passes out, takes callers back and is closed, or nothing is done.
use Rattle.std.specs.Prelude.{◌≡◌, ℕ, nat_lt, Bool, true, false, Option, Some, None, Result, Ok, Err, if◌then◌else◌}
use Rattle.event_log.specs.declared.logged.TheConstants.{MOST_EVENTS}
use Rattle.std_alloc.specs.Arc.{arc_value}
use Rattle.cell_callers.specs.{declared.cell_content.CellContent.CellContent, declared.cell_content.CellContent.TheVariants.{Empty, Cell, Ended}, declared.opening.Opening.Opening, declared.opening.NotOpened.NotOpened, declared.opening.NotOpened.TheVariants.NotEmpty, declared.cell_lifetime.NoNewCaller.NoNewCaller, declared.cell_lifetime.NoNewCaller.TheVariants.NoneLeft, declared.cell_lifetime.NotClosed.NotClosed, declared.cell_lifetime.NotClosed.TheVariants.NotAllBack, declared.logged_step.LoggedStep.LoggedStep, KernelCallers.KernelCaller, LoggedSteps.logged_step, Ends.{IsSame, IsNewCaller, IsReturned, HasClosed, IsWhyOpen}, Openings.{IsOpened, IsUnfit}}

abbrev pub is_empty : CellContent → Bool
is_empty Empty = true
is_empty content = false

-- an empty handle has a new cell; or nothing has changed, since it wasn't empty, or since a number or the memory didn't fit
abbrev pub IsOpenedBy : CellContent → Opening → Result (Unit {0}) NotOpened → CellContent → Type 0
IsOpenedBy Empty o (Ok u) (Cell c) = IsOpened o c
IsOpenedBy before o (Ok u) after = ⊥
IsOpenedBy before o (Err NotEmpty) after = (is_empty before ≡ false) × (after ≡ before)
IsOpenedBy before o (Err why) after = (is_empty before ≡ true) × (after ≡ before)

-- the handle is empty, and a number of the opening doesn't fit
abbrev pub IsBadOpening : CellContent → Opening → Type 0
IsBadOpening before o = (before ≡ Empty) × IsUnfit o

-- a cell gave a pass out, or nothing has changed
abbrev pub IsNewCallerIn : CellContent → Result KernelCaller NoNewCaller → CellContent → Type 0
IsNewCallerIn (Cell c) reported (Cell d) = IsNewCaller c reported d
IsNewCallerIn before reported after = (reported ≡ Err NoneLeft) × (after ≡ before)

-- a caller that is returned to a cell is of it
abbrev pub IsOwn : CellContent → KernelCaller → Type 0
IsOwn (Cell o) c = arc_value c.cell ≡ arc_value o.cell
IsOwn before c = Unit {0}

-- a cell took the caller back, or nothing has changed
abbrev pub IsReturnedTo : CellContent → KernelCaller → Option KernelCaller → CellContent → Type 0
IsReturnedTo (Cell o) c reported (Cell p) = IsReturned o c reported p
IsReturnedTo before c reported after = (reported ≡ Some c) × (after ≡ before)

-- a cell was closed, or nothing has changed
abbrev pub IsClosedBy : CellContent → Result (Unit {0}) NotClosed → CellContent → Type 0
IsClosedBy (Cell o) (Ok u) (Ended h) = HasClosed o h
IsClosedBy (Cell o) (Err why) (Cell p) = IsSame o p × IsWhyOpen o why
IsClosedBy before (Ok u) after = ⊥
IsClosedBy before (Err why) after = (why ≡ NotAllBack) × (after ≡ before)

-- a step of the log that a closed cell has left; a log with a limit above 65,536 events isn't kept in memory, and can't be read
abbrev pub step_of : CellContent → ℕ → ℕ → Option LoggedStep
step_of (Ended h) i j = if nat_lt MOST_EVENTS h.limit then None else logged_step h.log i j
step_of before i j = None
