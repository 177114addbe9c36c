-- A batch under a hold, and how its caller came there.
use Rattle.std.proofs.Common.{◌≡◌, ◌∙◌, ℕ, Bool, true, false, ap, List, Result, Ok, Err}
use Rattle.event_log.specs.declared.logged.NoRoom.{NoRoom}
use Rattle.kernel_object.specs.{declared.call.KCall.KCall, contracts.object.KernelObjectSeqObject.TheImpl.ghosts}
use Rattle.word_rule.specs.{Passes.state_of_hold, Polls.{GoesThere, got_by}}
use Rattle.guarded_cell.specs.{AnyCallers.state_of_caller, Kinds.kind_of}
use Rattle.cell_callers.specs.{declared.batching.Replies.Replies, declared.report_codes.TheConstants.{DONE, LOG_FULL, DONE_HELD, LOG_FULL_HELD}, BatchCodes.ReportsAll, BatchReports.{ReportsHeldBatch, ReportsBatchedAt}, Codes.{kept_code, looks_after}, KernelCallers.{KernelCell, KernelHold, KernelState, KernelSteps}}
use Rattle.cell_callers.specs.declared.whole.Whole.TheVariants as whole

-- the result where the lock isn't released yet
pub kept_all : (said : Result KernelSteps NoRoom) (old new : Replies) (n m : ℕ) → ReportsAll DONE LOG_FULL said n old new → m ≡ kept_code n → ReportsAll DONE_HELD LOG_FULL_HELD said m old new
kept_all (Ok steps) old new n m reported kept = (kept ∙ ap kept_code reported.0, reported.1)
kept_all (Err why) old new n m reported kept = (kept ∙ ap kept_code reported.0, reported.1)

-- the batch that was done under a hold is the batch of the caller that came to that hold
pub batch_done : (cell : KernelCell) (p : KernelState) (calls : List KCall) (hold : KernelHold) (looked : Bool) (old new : Replies × ℕ) (n : ℕ) (q : KernelState)
    → (m : ℕ) × GoesThere ghosts (λ (z : KernelState). state_of_caller z) (kind_of cell) (state_of_caller p) m (got_by looked) (state_of_hold hold) → ReportsHeldBatch cell hold calls old.0 n new.0 q → new.1 ≡ looks_after looked old.1 → ReportsBatchedAt cell p calls old n q new
batch_done cell p calls hold looked old new n q there (said, true, reported, held) looks = (whole.Done said looked, reported, looks, record { steps = there.0; got = hold; there = there.1; held = held })
batch_done cell p calls hold looked old new n q there (said, false, reported, held) looks = (whole.Kept said looked, reported, looks, record { steps = there.0; got = hold; there = there.1; held = held })
