use Rattle.std.proofs.Common.{◌≡◌, ◌≤◌, [], vec_len, vec_capacity}
use Rattle.word_rule.specs.{Cell.{EachAt, opening_pass}, Passes.{IsPassAt, view_of_pass, run_of_pass}}
use Rattle.word_rule.proofs.Dealing.{undealt}
use Rattle.word_rule.proofs.lock_table.LockTable.deal.Given as goal

abbrev pub invariant-loop-cpu : goal.invariant-loop-cpu
invariant-loop-cpu g l = record {
  seat : (l.seat.table_id ≡ l.self.table.shared.table_id) × (l.seat.me ≡ (undealt l.key l.cpu, []));
  made : EachAt (λ k p. IsPassAt l.self p × (view_of_pass p ≡ opening_pass l.key k)) l.passes.items × (vec_len l.passes ≡ l.cpu) × (l.cpus ≤ vec_capacity l.passes);
  runs : EachAt (λ k p. run_of_pass p ≡ []) l.passes.items;
}
