-- A run of one CPU that is judged: it counts once on a counter for 3, and then reads a value.
use Rattle.std.specs.Prelude.{ℕ, [], ◌∷◌}
use Rattle.event_log.specs.{Log.one_step, declared.event.Event.Event, declared.entry.Entry.Entry, declared.entry.Run.Run}
use Rattle.counter.specs.{State.CounterState, declared.call.CounterCall.CounterCall, declared.call.CounterCall.TheVariants.{Increase, Read}, declared.call.CounterReply.CounterReply, declared.call.CounterReply.TheVariants.{Ok, Value}}
use Rattle.event_log.specs.declared.entry.Done.TheVariants as done

-- an event of CPU 0, of one call
abbrev pub one_event : CounterCall → CounterReply → Event CounterState ℕ CounterCall CounterReply
one_event call reply = record { cpu = 0; steps = one_step call reply }

-- the entry that goes with it, of a CPU that looked once
abbrev pub one_entry : CounterCall → CounterReply → Entry CounterState ℕ CounterCall CounterReply
one_entry call reply = record { object = 0; asked = record { items = call ∷ [] }; done = done.Steps (one_step call reply); looks = 1 }

-- the run in which that value is read
abbrev pub read_after_one : ℕ → Run CounterState ℕ CounterCall CounterReply
read_after_one value = record {
  logs = (one_event Increase Ok ∷ one_event Read (Value value) ∷ []) ∷ [];
  transcripts = (one_entry Increase Ok ∷ one_entry Read (Value value) ∷ []) ∷ [];
}
