-- The result of a whole call whose numbers are decoded.
use Rattle.std.specs.Prelude.{◌≡◌, ℕ, Bool, true, false, Some, Result}
use Rattle.event_log.specs.{declared.logged.NoRoom.NoRoom}
use Rattle.kernel_object.specs.{declared.call.KCall.KCall, declared.call.KReply.KReply, contracts.object.KernelObjectSeqObject.TheImpl.ghosts, declared.call.KParams.KParams, declared.object.KernelObject.KernelObject}
use Rattle.word_rule.specs.{CallerState.CallerState, Mcs.Steps.{IsClear, IsEnter}, Passes.state_of_hold, Polls.IsRelease}
use Rattle.mcs_lock.specs.{declared.cell.McsCell.McsCell, Passes.state_of_ready}
use Rattle.guarded_cell.specs.{AnyCallers.{IsCallerOf, state_of_caller}, Kinds.kind_of}
use Rattle.cell_callers.specs.{declared.call_numbers.Answered.Answered, declared.whole.Whole.Whole, declared.caller_content.CallerContent.CallerContent, KernelCallers.{KernelCell, KernelHold, KernelPlace, KernelReady, KernelState}, Codes.{call_code, has_looked, kept_code, looks_after}, CallerContents.IsCallIn, Places.{Between, place_of}, Wholes.IsCalled}
use Rattle.guarded_cell.specs.declared.cell.AnyCell.TheVariants as cells

abbrev state : KernelState → CallerState KernelObject KParams KCall KReply
state = state_of_caller

-- the result, the reply and the looks are those of a call that reported this
abbrev pub IsReportOf : Whole (Result KReply NoRoom) → Answered × ℕ → ℕ → Answered × ℕ → Type 0
IsReportOf reported old n new = ((n, new.0) ≡ call_code old.0 reported) × (new.1 ≡ looks_after (has_looked reported) old.1)

-- the result of a call whose lock is released, or is still held
abbrev pub left_code : Bool → ℕ → ℕ
left_code true reported = reported
left_code false reported = kept_code reported

-- a caller in state b has cleared its `next` and then entered the queue of an MCS lock, as the first or behind another
abbrev pub HasEntered : CallerState KernelObject KParams KCall KReply → Bool → CallerState KernelObject KParams KCall KReply → Type 0
HasEntered b first a = (r : KernelReady) × IsClear ghosts b (state_of_ready r) × IsEnter ghosts (state_of_ready r) a first

-- a holder of an MCS lock, whose call has that result, has released the lock, or will, and stands in that place
abbrev pub HasLeft : McsCell KernelObject KParams KCall KReply → KernelHold → ℕ → ℕ → KernelPlace → Type 0
HasLeft cell h reported n after = (is_back : Bool) × (q : KernelState) × (place_of (cells.Mcs cell) after ≡ Some q) × IsCallerOf (cells.Mcs cell) q × ((state q).caller ≡ (state_of_hold h).caller) × IsRelease ghosts state (kind_of (cells.Mcs cell)) (state_of_hold h) is_back (state q) × (n ≡ left_code is_back reported)

-- a caller p has called, and is a new one in that place
abbrev pub ReportsCalledAt : KernelCell → KCall → KernelState → Answered × ℕ → ℕ → KernelPlace → Answered × ℕ → Type 0
ReportsCalledAt cell call p old n after new = (reported : Whole (Result KReply NoRoom)) × (q : KernelState) × IsReportOf reported old n new × (place_of cell after ≡ Some q) × IsCalled ghosts cell p call reported q

-- the same of the caller that was in a place
abbrev pub ReportsCalled : KernelCell → KCall → KernelPlace → Answered × ℕ → ℕ → KernelPlace → Answered × ℕ → Type 0
ReportsCalled cell call before old n after new = (reported : Whole (Result KReply NoRoom)) × IsReportOf reported old n new × Between cell before after (λ p q. IsCalled ghosts cell p call reported q)

-- the same for the content of a handle
abbrev pub ReportsCallOf : KCall → CallerContent → Answered × ℕ → ℕ → CallerContent → Answered × ℕ → Type 0
ReportsCallOf call before old n after new = (reported : Whole (Result KReply NoRoom)) × IsReportOf reported old n new × IsCallIn call before reported after
