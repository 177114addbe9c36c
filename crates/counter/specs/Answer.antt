-- What a counter answers.
use Rattle.std.specs.Prelude.{◌+◌, nat_lt, Bool, true, false, if◌then◌else◌}
use Rattle.counter.specs.{State.CounterState, declared.call.CounterCall.CounterCall, declared.call.CounterCall.TheVariants.{Increase, Read}, declared.call.CounterReply.CounterReply, declared.call.CounterReply.TheVariants.{Ok, Full, Value}}

-- the state after a call, and the reply: below the bound one more is counted, and at the bound that is refused
abbrev pub counter_answer : CounterState → CounterCall → CounterState × CounterReply
counter_answer c Increase = if nat_lt c.value c.most then (record c { value = c.value + 1 }, Ok) else (c, Full)
counter_answer c Read = (c, Value c.value)

-- whether a reply refuses its call
abbrev pub is_refusing : CounterReply → Bool
is_refusing Ok = false
is_refusing Full = true
is_refusing (Value n) = false
