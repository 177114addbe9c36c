use Rattle.std.proofs.Common.{arith}
use Rattle.cpu_worker.proofs.Reports.{within_all}
use Rattle.cpu_worker.proofs.report_lines.count.Goals as goal

pub overflow_add-entries : goal.overflow_add-entries
overflow_add-entries c =
    let within = within_all c.args.transcripts.now c.loop-transcript.transcript-index c.transcript-item.result c.loop-transcript-test.true c.transcript-item.is in
    rw c.as_slice.ensures (omega (arith, within))
