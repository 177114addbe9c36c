-- Calls and replies whose numbers are in their ranges, in a log.
use Rattle.std.specs.{Prelude.{Bool, List, ◌≡◌, ◌<◌, ◌≤◌, true, length}, List.list_all}
use Rattle.event_log.specs.{declared.event.Step.Step, declared.event.Event.Event, declared.event.TheConstants.MOST_CALLS, declared.entry.Done.TheVariants.{Steps, NoRoom}}
use Rattle.kernel_object.specs.{declared.call.KCall.KCall, declared.call.KReply.KReply, KernelTypes.{KernelStep, KernelDone}}
use Rattle.kernel_words.specs.{Row.row_fits, Rows.{call_row, reply_row}}

-- each number of the call is in its range
abbrev pub call_fits : KCall → Bool
call_fits c = row_fits (call_row c)

-- each number of the reply
abbrev pub reply_fits : KReply → Bool
reply_fits r = row_fits (reply_row r)

module _ {O P C R : Type 0} where
  -- every call of the steps passes
  abbrev pub steps_ask : (C → Bool) → List (Step O P C R) → Bool
  steps_ask fits steps = list_all (λ x. fits x.call) steps

  -- every reply of the steps passes
  abbrev pub steps_answer : (R → Bool) → List (Step O P C R) → Bool
  steps_answer fits steps = list_all (λ x. fits x.reply) steps

  -- every call of the log passes
  abbrev pub log_asks : (C → Bool) → List (Event O P C R) → Bool
  log_asks fits log = list_all (λ e. steps_ask fits e.steps.list.items) log

  -- every reply of the log passes
  abbrev pub log_answers : (R → Bool) → List (Event O P C R) → Bool
  log_answers fits log = list_all (λ e. steps_answer fits e.steps.list.items) log

-- 1 to 8 steps, their calls and replies in range
pub record StepsFit (steps : List KernelStep) : Type 0 where
  pub some : 0 < length steps
  pub few : length steps ≤ MOST_CALLS
  pub calls : steps_ask call_fits steps ≡ true
  pub replies : steps_answer reply_fits steps ≡ true

-- steps that fit, or none
abbrev pub DoneFits : KernelDone → Type 0
DoneFits (Steps s) = StepsFit s.list.items
DoneFits NoRoom = Unit {0}
