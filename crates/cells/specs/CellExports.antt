-- The effect and the result of each export on a cell.
use Rattle.std.specs.Prelude.{◌≡◌, ℕ, Bool, true, false, Option, Some, None, Result, Ok, Err}
use Rattle.cell_callers.specs.{declared.report_codes.TheConstants.{REFUSED, BUSY, DONE, NOT_FOUND}, declared.report_codes.TheConstants.NO_MEMORY, Codes.opening_code, declared.caller_content.CallerContent.CallerContent, declared.caller_content.CallerContent.TheVariants.{Empty, Caller}, declared.cell_content.CellContent.CellContent, declared.opening.Opening.Opening, declared.opening.NotOpened.NotOpened, declared.cell_lifetime.NoNewCaller.NoNewCaller, declared.cell_lifetime.NoNewCaller.TheVariants.{NoneLeft, NoShare}, declared.cell_lifetime.NotClosed.NotClosed, declared.cell_lifetime.NotClosed.TheVariants.{NotAllBack, Shared}, KernelCallers.KernelCaller, declared.logged_step.LoggedStep.LoggedStep, Reopenings.{IsReopenedBy, IsForgotten}, CellContents.{IsOpenedBy, IsNewCallerIn, IsOwn, IsReturnedTo, IsClosedBy, step_of}, CallerContents.may_be_freed}

abbrev pub ReportsOpening : CellContent → Opening → ℕ → CellContent → Type 0
ReportsOpening before o n after = (reported : Result (Unit {0}) NotOpened) × (n ≡ opening_code reported) × IsOpenedBy before o reported after

-- the effect and the result of reopening a closed cell
abbrev pub ReportsReopening : CellContent → ℕ → ℕ → ℕ → CellContent → Type 0
ReportsReopening before lock cpus n after = (reported : Result (Unit {0}) NotOpened) × (n ≡ opening_code reported) × IsReopenedBy before lock cpus reported after

-- the content of a caller's handle, which may be empty
abbrev pub content_from : Option KernelCaller → CallerContent
content_from (Some c) = Caller c
content_from None = Empty

-- refused: the cell and the caller are unchanged
abbrev pub ReportsRefusal : CellContent → CallerContent → ℕ → CellContent → CallerContent → Type 0
ReportsRefusal cell caller n cell' caller' = (n ≡ REFUSED) × (cell' ≡ cell) × (caller' ≡ caller)

abbrev pub new_caller_code : Result KernelCaller NoNewCaller → ℕ
new_caller_code (Ok c) = DONE
new_caller_code (Err NoneLeft) = REFUSED
new_caller_code (Err NoShare) = NO_MEMORY

abbrev pub content_of_new : Result KernelCaller NoNewCaller → CallerContent
content_of_new (Ok c) = Caller c
content_of_new (Err why) = Empty

-- the empty handle has a new caller of the cell, or nothing was done
abbrev pub ReportsNewCaller : CellContent → CallerContent → ℕ → CellContent → CallerContent → Type 0
ReportsNewCaller cell Empty n cell' caller' = (reported : Result KernelCaller NoNewCaller) × (n ≡ new_caller_code reported) × IsNewCallerIn cell reported cell' × (caller' ≡ content_of_new reported)
ReportsNewCaller cell caller n cell' caller' = ReportsRefusal cell caller n cell' caller'

-- a caller that is returned is of the cell
abbrev pub owns_back : CellContent → CallerContent → Type 0
owns_back cell (Caller c) = IsOwn cell c
owns_back cell caller = Unit {0}

abbrev pub return_code : Option KernelCaller → ℕ
return_code (Some c) = REFUSED
return_code None = DONE

-- the caller was returned and its handle is empty, or nothing was done
abbrev pub ReportsReturn : CellContent → CallerContent → ℕ → CellContent → CallerContent → Type 0
ReportsReturn cell (Caller c) n cell' caller' = (reported : Option KernelCaller) × (n ≡ return_code reported) × IsReturnedTo cell c reported cell' × (caller' ≡ content_from reported)
ReportsReturn cell caller n cell' caller' = ReportsRefusal cell caller n cell' caller'

abbrev pub close_code : Result (Unit {0}) NotClosed → ℕ
close_code (Ok u) = DONE
close_code (Err NotAllBack) = REFUSED
close_code (Err Shared) = BUSY

-- the cell was closed and its log is left, or nothing was done
abbrev pub ReportsClosing : CellContent → ℕ → CellContent → Type 0
ReportsClosing before n after = (reported : Result (Unit {0}) NotClosed) × (n ≡ close_code reported) × IsClosedBy before reported after

abbrev pub done_code : Bool → ℕ
done_code true = DONE
done_code false = REFUSED

-- whether a closed cell's log was dropped
abbrev pub ReportsForgetting : CellContent → ℕ → CellContent → Type 0
ReportsForgetting before n after = (reported : Bool) × (n ≡ done_code reported) × IsForgotten before reported after

-- freeing a handle is refused exactly if it has a caller that isn't idle
abbrev pub ReportsFreeing : CallerContent → ℕ → Type 0
ReportsFreeing content n = n ≡ done_code (may_be_freed content)

-- the result of reading a step, and the step, which is written if it exists
abbrev pub step_code : LoggedStep → Option LoggedStep → ℕ × LoggedStep
step_code old (Some s) = (DONE, s)
step_code old None = (NOT_FOUND, old)

abbrev pub ReportsStep : CellContent → ℕ → ℕ → LoggedStep → ℕ → CellContent → LoggedStep → Type 0
ReportsStep before i j old n after new = ((n, new) ≡ step_code old (step_of before i j)) × (after ≡ before)
