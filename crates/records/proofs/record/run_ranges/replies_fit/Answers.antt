use Rattle.kernel_words.proofs.{KernelRanges.kernel_replies_fit, KindLaws.Console.console_keeps, KindLaws.Pool.pool_keeps, KindLaws.Queue.queue_keeps, KindLaws.Sched.sched_keeps}
use Rattle.records.proofs.record.run_ranges.replies_fit.Goals as goal

pub returns : goal.returns
returns c = kernel_replies_fit
    (queue_keeps c.stays_distinct.ensures.opening c.stays_distinct.ensures.call)
    (pool_keeps c.stays_whole.ensures.opening c.stays_whole.ensures.call)
    (console_keeps c.stays_within.ensures.opening c.stays_within.ensures.call)
    (sched_keeps c.stays_once.ensures.opening c.stays_once.ensures.call)
