-- Reading calls, replies and steps from left to right.
use Rattle.std.specs.{Prelude.{ℕ, List, Option, Some, codes, ◌-◌}, Option.option_map_or}
use Rattle.event_log.specs.declared.entry.Done.TheVariants.{Steps, NoRoom}
use Rattle.kernel_object.specs.{declared.call.KCall.KCall, declared.call.KReply.KReply, KernelTypes.{KernelStep, KernelDone}}
use Rattle.record_lines.specs.{Reading.{◌>>=◌, key_at}, LineParts.list_at}
use Rattle.kernel_words.specs.{Row.value_at, Rows.{call_row, call_samples, call_filled, reply_row, reply_samples, reply_filled}}

-- a call
abbrev pub call_at : List (List ℕ) → Option (KCall × List (List ℕ))
call_at ws = value_at call_row call_samples call_filled ws

-- a reply
abbrev pub reply_at : List (List ℕ) → Option (KReply × List (List ℕ))
reply_at ws = value_at reply_row reply_samples reply_filled ws

-- a call and its reply
unfoldable pub step_at : List (List ℕ) → Option (KernelStep × List (List ℕ))
step_at ws = do
  call ← call_at ws
  rest ← key_at (codes "=") call.1
  reply ← reply_at rest
  Some (record { call = call.0; reply = reply.0 }, reply.1)

-- `noroom`, or steps
unfoldable pub done_at : List (List ℕ) → Option (KernelDone × List (List ℕ))
done_at ws = option_map_or (λ rest. Some (NoRoom, rest)) (key_at (codes "noroom") ws) (list_at step_at ws >>= λ steps. Some (Steps (record { list = record { items = steps.0 } }), steps.1))
