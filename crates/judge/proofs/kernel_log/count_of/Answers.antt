use Rattle.std.proofs.Common.{◌≡◌, Some, subst, MatchOption}
use Rattle.custom_kernel.specs.Lines.{IsKernelCount, NoKernelLog}
use Rattle.judge.specs.KernelLogs.{counted}
use Rattle.judge.proofs.kernel_log.count_of.Goals as goal

pub returns-in-Ok-Some : goal.returns-in-Ok-Some
returns-in-Ok-Some c =
    let text = c.args.text.now in
    let is : c.in-Ok-Some.field-0 ≡ Some c.in-Ok-Some.right = cc in
    record {
      outcome = counted c.in-Ok-Some.right;
      right = subst (λ found. MatchOption found (NoKernelLog text c.args.object c.args.log) (λ n. IsKernelCount text c.args.object c.args.log n)) is c.in-Ok-Some.ensures;
      same = c.new.ensures;
    }
