use Rattle.std.proofs.Common.{◌≡◌, ◌≤◌, length, map, take, vec_capacity}
use Rattle.custom_records.specs.Settings.{CustomSettings}
use Rattle.judge.proofs.custom_judge.limits_of.Given as goal

abbrev pub invariant-loop-object : goal.invariant-loop-object
invariant-loop-object l = record {
  limits : l.limits.items ≡ map (λ (o : CustomSettings). o.events) (take l.object-index l.objects);
  room : length l.objects ≤ vec_capacity l.limits;
}
