-- The numbers with which C opens a cell.
use Rattle.std.specs.{declared.cmp.PartialEq.{Ghosts as Eq}, declared.default.Default.{Ghosts as Default}, Prelude.{◌≡◌, ◌==◌, ◌<◌, ◌^◌, ◌-◌, ◌⊎◌, ◌||◌, nat_lt, ℕ, Bool, false, [], ◌∷◌, Option, Some, None, slice_get, if◌then◌else◌}}
use Rattle.event_log.specs.{declared.logged.TheConstants.MOST_EVENTS, History.opened_history}
use Rattle.sound_run.specs.{declared.limits.TheConstants.MOST_CPUS, declared.lock_kind.LockKind.LockKind, declared.lock_kind.LockKind.TheVariants.{Ticket, Mcs}}
use Rattle.kernel_object.specs.{declared.call.KParams.KParams, declared.call.KParams.TheVariants.{Queue, Pool, Console, Sched}, declared.call.KCall.KCall, declared.call.KReply.KReply, declared.object.KernelObject.KernelObject, contracts.object.KernelObjectSeqObject.TheImpl.ghosts, Kernel.{kernel_opening, kernel_in_range}}
use Rattle.cell_callers.specs.{declared.opening.Opening.Opening, declared.open_cell.OpenCell.OpenCell, NewCells.IsOpenedOn}

-- the parameters of an object of that kind, and the lock
abbrev pub params_of : Opening → Option KParams
params_of o = slice_get (Queue o.size ∷ Pool (record { pages = o.size; quotas = o.quotas }) ∷ Console o.size ∷ Sched (record { threads = o.size; channels = o.channels }) ∷ []) o.kind

abbrev pub lock_numbered : ℕ → Option LockKind
lock_numbered n = slice_get (Ticket ∷ Mcs ∷ []) n

abbrev pub lock_of : Opening → Option LockKind
lock_of o = lock_numbered o.lock

-- n CPUs, if a cell can have them
abbrev pub cpus_numbered : ℕ → Option ℕ
cpus_numbered n = if (n == 0) || nat_lt MOST_CPUS n then None else Some n

-- the limit of the log in events; 0 asks for a log that isn't kept in memory, whose limit is 2^64 - 1
abbrev pub limit_of : ℕ → ℕ
limit_of events = if events == 0 then 2 ^ 64 - 1 else events

abbrev pub are_in_range : Option KParams → Bool
are_in_range (Some params) = kernel_in_range params
are_in_range None = false

-- a number of the opening doesn't fit
abbrev pub IsUnfit : Opening → Type 0
IsUnfit o = (lock_of o ≡ None) ⊎ (are_in_range (params_of o) ≡ false) ⊎ (o.cpus ≡ 0) ⊎ (MOST_CPUS < o.cpus) ⊎ (MOST_EVENTS < o.events)

module _ {call_eq : Eq KCall} {call_default : Default KCall} {reply_eq : Eq KReply} {reply_default : Default KReply} where
  -- a new cell of the given CPUs and lock, around a new object with the given parameters and an empty log with its limit
  pub record IsOpened (o : Opening) (c : OpenCell KernelObject KParams KCall KReply ghosts call_eq call_default reply_eq reply_default) : Type 0 where
    pub params : KParams
    pub is_params : params_of o ≡ Some params
    pub lock : LockKind
    pub is_lock : lock_of o ≡ Some lock
    pub cell : IsOpenedOn lock o.cpus (opened_history params (limit_of o.events) (kernel_opening params)) c
