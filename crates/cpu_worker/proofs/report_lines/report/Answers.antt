use Rattle.std.proofs.Common.{◌≡◌, ◌∙◌, ap}
use Rattle.kernel_object.specs.KernelTypes.{KernelRun}
use Rattle.cpu_worker.specs.Report.{all_entries}
use Rattle.cpu_worker.proofs.Reports.{few_entries, object_more, report_whole}
use Rattle.cpu_worker.proofs.report_lines.report.Goals as goal

pub of-requires : goal.of-requires
of-requires c = rw (c.as_slice-transcripts.ensures, c.run.ensures.run) (few_entries c.args.record.now c.run.ensures.fit)

pub loop-place-preserved : goal.loop-place-preserved
loop-place-preserved c =
    let next = object_more (all_entries c.as_slice-transcripts.result.now) c.objects-object-items.result.now c.loop-place.place c.object-item.result c.loop-place-test.true c.object-item.is in
    cc (c.of.ensures, c.in_ok-put_object.ensures, c.loop-place.invariant)

pub count-requires : goal.count-requires
count-requires c = rw (c.as_slice-transcripts.ensures, c.run.ensures.run) (few_entries c.args.record.now c.run.ensures.fit)

pub returns : goal.returns
returns c =
    let transcripts : c.as_slice-transcripts.result.now ≡ c.args.record.now.run.transcripts = c.as_slice-transcripts.ensures ∙ ap (λ (r : KernelRun). r.transcripts) c.run.ensures.run in
    let objects = rw c.settings-settings.ensures.settings at c.objects-object-items.ensures.objects in
    let cpus = rw c.settings-settings.ensures.settings at c.cpus.ensures.cpus in
    record {
      text = report_whole c.args.record.now c.as_slice-transcripts.result.now c.objects-object-items.result.now c.loop-place.place _ _ c.cpus.result c.count.result transcripts objects
          c.loop-place-test.false c.loop-place.invariant cpus c.count.ensures c.in_ok-put_run.ensures;
    }
