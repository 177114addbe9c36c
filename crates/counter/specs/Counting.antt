-- What a counter has counted.
use Rattle.std.specs.Prelude.{ℕ, ◌+◌, List, [], ◌∷◌}
use Rattle.event_log.specs.declared.event.Step.{Step}
use Rattle.counter.specs.{declared.call.CounterCall.CounterCall, declared.call.CounterReply.CounterReply, declared.call.CounterReply.TheVariants.{Ok, Full, Value}}

-- how many a call with this reply has counted
abbrev pub count_of : CounterReply → ℕ
count_of Ok = 1
count_of Full = 0
count_of (Value n) = 0

-- how many of the steps were answered Ok
abbrev pub ok_count : {O P : Type 0} → List (Step O P CounterCall CounterReply) → ℕ
ok_count [] = 0
ok_count (step ∷ steps) = count_of step.reply + ok_count steps
