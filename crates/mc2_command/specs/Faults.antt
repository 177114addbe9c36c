-- Which refusal of the program each cause becomes, and the status that it ends with.
use Rattle.std.specs.Prelude.{ℕ, Bool, false, Result, Ok, Err}
use Rattle.cpu_worker.specs.declared.threads.RunFault.{RunFault}
use Rattle.program.specs.declared.refusal.Refusal.{Refusal}
use Rattle.mc2_command.specs.declared.fault.CommandFault.{CommandFault}
use Rattle.cpu_worker.specs.declared.threads.RunFault.TheVariants as run
use Rattle.program.specs.Refusals as common
use Rattle.program.specs.declared.refusal.Refusal.TheVariants as refusal
use Rattle.mc2_command.specs.declared.fault.CommandFault.TheVariants as fault

abbrev pub of_refusal : Refusal → CommandFault
of_refusal cause = fault.Common cause

abbrev pub of_run : RunFault → CommandFault
of_run run.OutOfMemory = fault.Common refusal.OutOfMemory
of_run (run.NoThreadStarted cpu) = fault.NoThreadStarted cpu

-- 1 for what was found of a record, 3 for a thread that wasn't started, and that of a refusal which programs share
abbrev pub status_of : CommandFault → ℕ
status_of (fault.Common cause) = common.status_of cause
status_of (fault.NoThreadStarted cpu) = 3
status_of (fault.Unsound text) = 1
status_of (fault.Cycle text) = 1

-- the refusal says that an opening or a read failed
abbrev pub reports_read_failed : {X : Type 0} → Result X CommandFault → Bool
reports_read_failed (Ok x) = false
reports_read_failed (Err (fault.Common cause)) = common.reports_read_failed cause
reports_read_failed (Err _) = false
