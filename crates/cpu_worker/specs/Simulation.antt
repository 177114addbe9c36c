-- What a simulation does: scripts on the objects of the settings, one atomic step at a time, in the order of a schedule.
use Rattle.std.specs.Prelude.{ℕ, List, [], map}
use Rattle.kernel_object.specs.{declared.call.KParams.KParams, declared.call.KCall.KCall, declared.call.KReply.KReply, declared.object.KernelObject.KernelObject, contracts.object.KernelObjectSeqObject.TheImpl.{ghosts as kernel}, KernelTypes.{KernelTodo, KernelRun}}
use Rattle.word_rule.specs.{Locks.opening_lock, Machine.Opening.opening_cpu, Machine.World.{World, CellState, run, run_of}}
use Rattle.records.specs.Settings.{Settings, ObjectSettings}

abbrev pub KernelWorld : Type 0
KernelWorld = World KernelObject KParams KCall KReply

abbrev pub MachineCell : Type 0
MachineCell = CellState KernelObject KParams KCall KReply

-- an object of the settings behind its lock, with the first ticket 0 and an empty log
abbrev pub new_cell : ObjectSettings → MachineCell
new_cell o = record { opened = record { params = o.params; limit = o.events }; lock = opening_lock o.lock 0; log = [] }

-- the objects of the settings, and each CPU with its script, before the first step
abbrev pub new_world : Settings → List (List KernelTodo) → KernelWorld
new_world settings scripts = record { cells = map new_cell settings.objects; cpus = map opening_cpu scripts }

-- the run whose steps are done in the order of the schedule
unfoldable pub simulated : Settings → List (List KernelTodo) → List ℕ → KernelRun
simulated settings scripts steps = run_of (run kernel steps (new_world settings scripts))
