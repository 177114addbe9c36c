-- The result of a batch, whose replies are written if its calls are done.
use Rattle.std.specs.Prelude.{◌≡◌, ℕ, Bool, true, false, List, Result}
use Rattle.event_log.specs.declared.logged.NoRoom.{NoRoom}
use Rattle.kernel_object.specs.{declared.call.KCall.KCall, contracts.object.KernelObjectSeqObject.TheImpl.ghosts}
use Rattle.cell_callers.specs.{declared.batching.Replies.Replies, declared.report_codes.TheConstants.{DONE, LOG_FULL, DONE_HELD, LOG_FULL_HELD}, declared.caller_content.CallerContent.CallerContent, declared.whole.Whole.Whole, Applies.IsHeldBatch, BatchCodes.{ReportsAll, ReportsWhole}, Codes.{looks_after, has_looked}, KernelCallers.{KernelCell, KernelHold, KernelPlace, KernelState, KernelSteps}, CallerContents.IsBatchIn, Places.Between, Wholes.{IsBatched, IsHeldCall}}

-- the calls were done under the hold, or the log was full: the result, and the replies before and after
abbrev pub IsRepliedHeld : List KCall → Replies → ℕ → Replies → KernelHold → KernelHold → Type 0
IsRepliedHeld calls old n new h k = (said : Result KernelSteps NoRoom) × ReportsAll DONE LOG_FULL said n old new × IsHeldBatch ghosts h calls said k

-- the result of a batch whose lock is released, or is still held
abbrev pub ReportsEnd : Bool → Result KernelSteps NoRoom → ℕ → Replies → Replies → Type 0
ReportsEnd true said n old new = ReportsAll DONE LOG_FULL said n old new
ReportsEnd false said n old new = ReportsAll DONE_HELD LOG_FULL_HELD said n old new

-- a holder has done the calls, and then released the lock, or will
abbrev pub ReportsHeldBatch : KernelCell → KernelHold → List KCall → Replies → ℕ → Replies → KernelState → Type 0
ReportsHeldBatch cell h calls old n new q = (said : Result KernelSteps NoRoom) × (is_back : Bool) × ReportsEnd is_back said n old new × IsHeldCall ghosts (λ j k. IsHeldBatch ghosts j calls said k) cell h is_back q

-- a caller p has called, and is q now: the result, with the replies and the looks before and after
abbrev pub ReportsBatchedAt : KernelCell → KernelState → List KCall → Replies × ℕ → ℕ → KernelState → Replies × ℕ → Type 0
ReportsBatchedAt cell p calls old n q new = (reported : Whole (Result KernelSteps NoRoom)) × ReportsWhole reported n old.0 new.0 × (new.1 ≡ looks_after (has_looked reported) old.1) × IsBatched ghosts cell p calls reported q

-- the same for a caller in its place
abbrev pub ReportsBatched : KernelCell → List KCall → KernelPlace → Replies × ℕ → ℕ → KernelPlace → Replies × ℕ → Type 0
ReportsBatched cell calls before old n after new = (reported : Whole (Result KernelSteps NoRoom)) × ReportsWhole reported n old.0 new.0 × (new.1 ≡ looks_after (has_looked reported) old.1) × Between cell before after (λ p q. IsBatched ghosts cell p calls reported q)

-- and for the content of a handle
abbrev pub ReportsBatchIn : List KCall → CallerContent → Replies × ℕ → ℕ → CallerContent → Replies × ℕ → Type 0
ReportsBatchIn calls before old n after new = (reported : Whole (Result KernelSteps NoRoom)) × ReportsWhole reported n old.0 new.0 × (new.1 ≡ looks_after (has_looked reported) old.1) × IsBatchIn calls before reported after
