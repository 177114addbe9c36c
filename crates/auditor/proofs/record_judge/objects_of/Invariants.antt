use Rattle.std.proofs.Common.{◌≡◌, ◌≤◌, length, map, take, vec_capacity}
use Rattle.auditor.specs.Transcripts.{opened_by}
use Rattle.auditor.proofs.RecordRuns.{object_opened}
use Rattle.auditor.proofs.record_judge.objects_of.Given as goal

abbrev pub invariant-loop-object : goal.invariant-loop-object
invariant-loop-object l = record {
  opened_objects : opened_by l.opened_objects.items ≡ map object_opened (take l.object-index l.objects);
  room : length l.objects ≤ vec_capacity l.opened_objects;
}
