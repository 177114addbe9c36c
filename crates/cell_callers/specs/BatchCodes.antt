-- Batches of calls, by the numbers that C has for them.
use Rattle.std.specs.Prelude.{◌≡◌, ℕ, List, [], ◌∷◌, length, take, map, Option, Some, None, Result, Ok, Err}
use Rattle.event_log.specs.declared.logged.NoRoom.{NoRoom}
use Rattle.kernel_object.specs.{declared.call.KCall.KCall, KernelTypes.KernelStep}
use Rattle.cell_callers.specs.{declared.call_numbers.Asked.Asked, declared.batching.Batch.Batch, declared.batching.Replies.Replies, declared.report_codes.TheConstants.{AGAIN, REFUSED, DONE, LOG_FULL, DONE_HELD, LOG_FULL_HELD}, declared.whole.Whole.Whole, Coding.{called_of, reply_code}, KernelCallers.KernelSteps}
use Rattle.cell_callers.specs.declared.whole.Whole.TheVariants as whole

abbrev pub with_call : Option KCall → Option (List KCall) → Option (List KCall)
with_call (Some c) (Some cs) = Some (c ∷ cs)
with_call c cs = None

-- the calls of these numbers, if each exists
abbrev pub calls_of : List Asked → Option (List KCall)
calls_of [] = Some []
calls_of (a ∷ more) = with_call (called_of a) (calls_of more)

abbrev pub batch_calls : Batch → Option (List KCall)
batch_calls b = calls_of (take b.count b.calls)

-- the replies of the steps, in order
pub record AreRepliesTo (steps : List KernelStep) (replies : Replies) : Type 0 where
  pub count : replies.count ≡ length steps
  pub list : take (length steps) replies.list ≡ map (λ s. reply_code s.reply) steps

-- the result of a batch, given the numbers for done and for full, and the replies, which are written if it was done
abbrev pub ReportsAll : ℕ → ℕ → Result KernelSteps NoRoom → ℕ → Replies → Replies → Type 0
ReportsAll done full (Ok steps) n old new = (n ≡ done) × AreRepliesTo steps.list.items new
ReportsAll done full (Err why) n old new = (n ≡ full) × (new ≡ old)

abbrev pub ReportsWhole : Whole (Result KernelSteps NoRoom) → ℕ → Replies → Replies → Type 0
ReportsWhole (whole.Done said looked) n old new = ReportsAll DONE LOG_FULL said n old new
ReportsWhole (whole.Kept said looked) n old new = ReportsAll DONE_HELD LOG_FULL_HELD said n old new
ReportsWhole whole.Waits n old new = (n ≡ AGAIN) × (new ≡ old)
ReportsWhole whole.Refused n old new = (n ≡ REFUSED) × (new ≡ old)
