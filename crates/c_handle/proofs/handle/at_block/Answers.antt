use Rattle.std.proofs.Common.{rules}
use Rattle.c_handle.proofs.handle.at_block.Goals as goal

pub returns : goal.returns
returns g c = (c.deref_mut-2.result, _, search rules, c.f-done.ensures, search rules)
