use Rattle.std.proofs.Common.{rules}
use Rattle.word_rule.proofs.lock_table.LockTable.arrive_swapping.Goals as goal

pub swap-requires : goal.swap-requires
swap-requires g c = (search rules, search rules, λ s r len there small. let x = c.requires.2 s r len there small in (x.0, x.1, x.2, x.3, x.4))
