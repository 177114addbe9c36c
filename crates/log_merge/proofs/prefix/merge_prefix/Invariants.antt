use Rattle.log_merge.specs.{Prefixes.IsPrefix, Least.TakesTheLeast, Nexts.{IsReady, left_in}, WhoCanCome.SaysWhoCanCome}
use Rattle.log_merge.proofs.prefix.merge_prefix.Given as goal

abbrev pub invariant-loop-cpu : goal.invariant-loop-cpu
invariant-loop-cpu g l = record {
  ready : IsReady (g.S.RunShape.run l.shape) l.at.items l.placed.items;
  front : IsPrefix (g.S.RunShape.run l.shape) l.places.items l.at.items l.placed.items;
  least : TakesTheLeast (g.S.RunShape.run l.shape) l.places.items;
  flags : SaysWhoCanCome (g.S.RunShape.run l.shape) l.at.items l.placed.items l.flags;
}

abbrev pub decreases-loop-cpu : goal.decreases-loop-cpu
decreases-loop-cpu g l = left_in (g.S.RunShape.run l.shape).transcripts l.at.items
