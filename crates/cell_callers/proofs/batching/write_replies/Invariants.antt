use Rattle.std.proofs.Common.{◌≡◌, map, take, length}
use Rattle.cell_callers.specs.Coding.{reply_code}
use Rattle.cell_callers.proofs.batching.write_replies.Given as goal

abbrev pub invariant-loop-step : goal.invariant-loop-step
invariant-loop-step l = (l.count ≡ l.step-index) × (length l.replies.list ≡ 8) × (take l.step-index l.replies.list ≡ map (λ s. reply_code s.reply) (take l.step-index l.steps))
