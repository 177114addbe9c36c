use Rattle.std.proofs.Common.{◌≡◌, ℕ, ◌+◌, ◌++◌, drop, length, string_bytes}
use Rattle.kernel_object.specs.contracts.object.KernelObjectSeqObject.TheImpl.{ghosts as kernel}
use Rattle.records.specs.Runs.{opened_of}
use Rattle.word_rule.specs.Machine.Shown.{Represents, opened_by}
use Rattle.word_rule.proofs.WorldSteps.{left_to}
use Rattle.cpu_worker.specs.Simulation.{KernelWorld}
use Rattle.steps.specs.Lines.{lines_from, steps_text}
use Rattle.steps.proofs.Left.{left_at}
use Rattle.steps.proofs.lines.lines.Given as goal

-- the machine keeps a world, from which the lines that are left come behind those so far
abbrev pub invariant-loop-place : goal.invariant-loop-place
invariant-loop-place l = record {
  world : KernelWorld;
  shows : Represents kernel l.machine world;
  opened : opened_by l.machine ≡ opened_of l.settings;
  cpus : length l.machine.scripts ≡ l.settings.cpus;
  count : length l.left.items ≡ l.settings.cpus;
  each : (j : ℕ) → left_at l.left.items j ≡ left_to j world;
  lines : string_bytes l.text ++ lines_from l.settings (l.place + 1) (drop l.place l.cpu-items) world ≡ steps_text l.settings l.scripts l.schedule;
}
