-- The results of calls, as the numbers that C gets.
use Rattle.std.specs.Prelude.{ℕ, ◌+◌, ◌%◌, ◌^◌, ◌==◌, Bool, true, false, Option, Some, None, Result, Ok, Err, if◌then◌else◌}
use Rattle.event_log.specs.declared.logged.NoRoom.{NoRoom}
use Rattle.kernel_object.specs.declared.call.KReply.{KReply}
use Rattle.cell_callers.specs.{declared.call_numbers.Answered.Answered, declared.report_codes.TheConstants.{STEPPED, AGAIN, ACQUIRED, ACQUIRED_BY_LOOK, RELEASED, REFUSED, BUSY, DONE, LOG_FULL, DONE_HELD, LOG_FULL_HELD, NO_MEMORY, BAD_PARAM}, declared.opening.NotOpened.NotOpened, declared.opening.NotOpened.TheVariants.{NotEmpty, BadOpening, OutOfMemory}, declared.whole.Whole.Whole, declared.whole.TriedCall.TriedCall, Coding.reply_code}
use Rattle.word_rule.specs.declared.progress.Progress.{Progress}
use Rattle.word_rule.specs.declared.progress.Progress.TheVariants as reported
use Rattle.cell_callers.specs.declared.whole.Whole.TheVariants as whole
use Rattle.cell_callers.specs.declared.whole.TriedCall.TheVariants as tried

abbrev pub progress_code : Option Progress → ℕ
progress_code (Some reported.Stepped) = STEPPED
progress_code (Some reported.Looked) = AGAIN
progress_code (Some reported.Entered) = ACQUIRED
progress_code (Some reported.Found) = ACQUIRED_BY_LOOK
progress_code (Some reported.Left) = RELEASED
progress_code None = REFUSED

abbrev pub try_code : Option Bool → ℕ
try_code (Some true) = ACQUIRED_BY_LOOK
try_code (Some false) = BUSY
try_code None = REFUSED

-- the result of an answer, given the numbers for done and for full, and the reply, which is written if the call was done
abbrev pub answer_code : ℕ → ℕ → Answered → Result KReply NoRoom → ℕ × Answered
answer_code done full old (Ok reply) = (done, reply_code reply)
answer_code done full old (Err why) = (full, old)

abbrev pub apply_code : Answered → Option (Result KReply NoRoom) → ℕ × Answered
apply_code old (Some said) = answer_code DONE LOG_FULL old said
apply_code old None = (REFUSED, old)

-- the result of a call whose lock isn't released yet, from its result otherwise
abbrev pub kept_code : ℕ → ℕ
kept_code reported = if reported == DONE then DONE_HELD else LOG_FULL_HELD

abbrev pub call_code : Answered → Whole (Result KReply NoRoom) → ℕ × Answered
call_code old (whole.Done said looked) = answer_code DONE LOG_FULL old said
call_code old (whole.Kept said looked) = answer_code DONE_HELD LOG_FULL_HELD old said
call_code old whole.Waits = (AGAIN, old)
call_code old whole.Refused = (REFUSED, old)

abbrev pub try_call_code : Answered → TriedCall (Result KReply NoRoom) → ℕ × Answered
try_call_code old (tried.Done said) = answer_code DONE LOG_FULL old said
try_call_code old (tried.Kept said) = answer_code DONE_HELD LOG_FULL_HELD old said
try_call_code old tried.Busy = (BUSY, old)
try_call_code old tried.Refused = (REFUSED, old)

-- the looks, one more if there was a look; after 2^64 - 1 comes 0
abbrev pub looks_after : Bool → ℕ → ℕ
looks_after true n = (n + 1) % 2 ^ 64
looks_after false n = n

abbrev pub has_looked : {D : Type 0} → Whole D → Bool
has_looked (whole.Done said looked) = looked
has_looked (whole.Kept said looked) = looked
has_looked whole.Waits = true
has_looked whole.Refused = false

-- the result of an opening
abbrev pub opening_code : Result (Unit {0}) NotOpened → ℕ
opening_code (Ok u) = DONE
opening_code (Err NotEmpty) = REFUSED
opening_code (Err OutOfMemory) = NO_MEMORY
opening_code (Err BadOpening) = BAD_PARAM
