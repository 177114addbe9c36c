-- What is reported of a log whose object is of one of the kernel's four kinds.
use Rattle.std.specs.Prelude.{◌≡◌, ℕ, List}
use Rattle.custom_kernel.specs.Lines.{IsKernelCount, NoKernelLog}
use Rattle.judge.specs.{Report.report, declared.report.Report.Report}

-- what becomes of a text and two places
pub data KernelOutcome : Type 0 where
  counted : ℕ → KernelOutcome
  none : KernelOutcome
  out_of_memory : KernelOutcome

-- so many steps are right; no such object's line begins there, or no head of a log
abbrev pub IsKernelOutcome : List ℕ → ℕ → ℕ → KernelOutcome → Type 0
IsKernelOutcome bytes object log (counted n) = IsKernelCount bytes object log n
IsKernelOutcome bytes object log none = NoKernelLog bytes object log
IsKernelOutcome bytes object log out_of_memory = Unit {0}

-- what is reported of an outcome
abbrev pub kernel_report : KernelOutcome → Report
kernel_report (counted n) = report 13 n 0 0
kernel_report none = report 12 0 0 0
kernel_report out_of_memory = report 9 0 0 0

-- what is reported is what becomes of the bytes and the places
pub record IsKernelReported (bytes : List ℕ) (object log : ℕ) (t : Report) : Type 0 where
  pub outcome : KernelOutcome
  pub right : IsKernelOutcome bytes object log outcome
  pub same : t ≡ kernel_report outcome
