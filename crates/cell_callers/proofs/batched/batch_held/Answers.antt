use Rattle.std.proofs.Common.{rules, true, false}
use Rattle.cell_callers.proofs.Batches.{kept_all}
use Rattle.cell_callers.proofs.batched.batch_held.Goals as goal

pub returns-in_default-true-clause-reports : goal.returns-in_default-true-clause-reports
returns-in_default-true-clause-reports c =
    let did = c.apply_all_held-reported in
    let reported = did.ensures.applied in
    (reported.0, true, reported.1, record { left = did.new.hold; done = reported.2; back = let gone = c.poll_release.ensures.released in search rules })

pub returns-in_default-false-clause-reports : goal.returns-in_default-false-clause-reports
returns-in_default-false-clause-reports c =
    let did = c.apply_all_held-reported in
    let reported = did.ensures.applied in
    let kept = kept_all reported.0 c.args.replies.now did.new.replies did.result c.kept_code.result reported.1 c.kept_code.ensures in
    (reported.0, false, kept, record { left = did.new.hold; done = reported.2; back = let gone = c.poll_release.ensures.released in search rules })
