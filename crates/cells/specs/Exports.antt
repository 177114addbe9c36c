-- The effect and the result of each export on a caller.
use Rattle.std.specs.Prelude.{◌≡◌, ℕ, ◌==◌, ◌||◌, nat_lt, List, Bool, true, false, Option, Some, None, Result}
use Rattle.core.specs.Mem.{manually_drop_value}
use Rattle.event_log.specs.{declared.logged.NoRoom.NoRoom, declared.event.TheConstants.MOST_CALLS}
use Rattle.kernel_object.specs.{declared.call.KCall.KCall, declared.call.KReply.KReply}
use Rattle.word_rule.specs.declared.progress.Progress.{Progress}
use Rattle.cell_callers.specs.{declared.caller_content.CallerContent.CallerContent, declared.cell_content.CellContent.CellContent, declared.call_numbers.Asked.Asked, declared.call_numbers.Answered.Answered, declared.report_codes.TheConstants.{REFUSED, NOT_FOUND}, declared.batching.Batch.Batch, declared.batching.Replies.Replies, BatchCodes.{batch_calls, ReportsWhole}, declared.whole.Whole.Whole, declared.whole.TriedCall.TriedCall, declared.caller_handle.CallerHandle.CallerHandle, declared.cell_handle.CellHandle.CellHandle, CallerContents.{IsAcquireStepIn, IsReleaseStepIn, IsTryIn, IsApplyIn, IsBatchIn, IsTryCallIn}, KernelCallers.KernelSteps, Coding.called_of, CallReports.ReportsCallOf, Codes.{progress_code, try_code, apply_code, try_call_code, looks_after, has_looked}}

-- the content of a handle
abbrev pub cell_of : CellHandle → CellContent
cell_of h = manually_drop_value h.slot

abbrev pub caller_of : CallerHandle → CallerContent
caller_of h = manually_drop_value h.slot

-- a step was done or refused, and n is its result
abbrev pub ReportsAcquireStep : CallerContent → ℕ → CallerContent → Type 0
ReportsAcquireStep before n after = (reported : Option Progress) × (n ≡ progress_code reported) × IsAcquireStepIn before reported after

abbrev pub ReportsReleaseStep : CallerContent → ℕ → CallerContent → Type 0
ReportsReleaseStep before n after = (reported : Option Progress) × (n ≡ progress_code reported) × IsReleaseStepIn before reported after

abbrev pub ReportsTry : CallerContent → ℕ → CallerContent → Type 0
ReportsTry before n after = (reported : Option Bool) × (n ≡ try_code reported) × IsTryIn before reported after

-- Q holds of the call with these numbers; if there is no such call, the result says so, and nothing was done or written
abbrev pub IfCall : {S : Type 0} → Option KCall → (KCall → Type 0) → CallerContent → S → ℕ → CallerContent → S → Type 0
IfCall (Some call) Q before old n after new = Q call
IfCall None Q before old n after new = (n ≡ NOT_FOUND) × (after ≡ before) × (new ≡ old)

abbrev pub ReportsApply : CallerContent → Asked → Answered → ℕ → CallerContent → Answered → Type 0
ReportsApply before asked old n after new = IfCall (called_of asked) (λ call. (reported : Option (Result KReply NoRoom)) × ((n, new) ≡ apply_code old reported) × IsApplyIn call before reported after) before old n after new

-- the same of a whole call, with the looks before and after
abbrev pub ReportsCall : CallerContent → Asked → Answered × ℕ → ℕ → CallerContent → Answered × ℕ → Type 0
ReportsCall before asked old n after new = IfCall (called_of asked) (λ call. ReportsCallOf call before old n after new) before old n after new

-- the batch of these calls; if one of them doesn't exist, the result says so, and nothing was done or written
abbrev pub ReportsBatchOf : Option (List KCall) → CallerContent → Replies × ℕ → ℕ → CallerContent → Replies × ℕ → Type 0
ReportsBatchOf (Some calls) before old n after new = (reported : Whole (Result KernelSteps NoRoom)) × ReportsWhole reported n old.0 new.0 × (new.1 ≡ looks_after (has_looked reported) old.1) × IsBatchIn calls before reported after
ReportsBatchOf None before old n after new = (n ≡ NOT_FOUND) × (after ≡ before) × (new ≡ old)

-- it has no call, or more than 8
abbrev pub is_unfit : Batch → Bool
is_unfit batch = (batch.count == 0) || nat_lt MOST_CALLS batch.count

-- a batch that is unfit is refused
abbrev pub ReportsBatchIf : Bool → Batch → CallerContent → Replies × ℕ → ℕ → CallerContent → Replies × ℕ → Type 0
ReportsBatchIf true batch before old n after new = (n ≡ REFUSED) × (after ≡ before) × (new ≡ old)
ReportsBatchIf false batch before old n after new = ReportsBatchOf (batch_calls batch) before old n after new

abbrev pub ReportsBatch : CallerContent → Batch → Replies × ℕ → ℕ → CallerContent → Replies × ℕ → Type 0
ReportsBatch before batch old n after new = ReportsBatchIf (is_unfit batch) batch before old n after new

abbrev pub ReportsTryCall : CallerContent → Asked → Answered → ℕ → CallerContent → Answered → Type 0
ReportsTryCall before asked old n after new = IfCall (called_of asked) (λ call. (reported : TriedCall (Result KReply NoRoom)) × ((n, new) ≡ try_call_code old reported) × IsTryCallIn call before reported after) before old n after new
