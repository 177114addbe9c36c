use Rattle.std.proofs.{Common.{rules, ◌+◌, ◌*◌, arith}, lemmas.List.take-replicate}
use Rattle.sound_run.specs.declared.limits.TheConstants.{MOST_CPUS}
use Rattle.word_rule.specs.{LockDefinition.opening_state, Mcs.Definition.mcs_lock}
use Rattle.word_rule.proofs.{Mcs.Turns.starts_mcs, ShownLocks.tied_lock}
use Rattle.sound_run.specs.declared.lock_kind.LockKind.TheVariants as kinds
use Rattle.mcs_lock.proofs.cell.McsCell.new.Goals as goal

pub open-requires : goal.open-requires
open-requires g c = let n = c.args.cpus in let few = c.requires.few in
    record { some = search rules; defined = tied_lock kinds.Mcs n _ (opening_state mcs_lock 0) (starts_mcs n 0 _ (take-replicate (1 + 2 * n) (1 + 2 * MOST_CPUS) 0 (omega arith))) }
