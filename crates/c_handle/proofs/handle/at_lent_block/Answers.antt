use Rattle.std.proofs.Common.{rules}
use Rattle.c_handle.proofs.handle.at_lent_block.Goals as goal

pub returns : goal.returns
returns g c = record { place = c.deref_mut-2.result; lent = _; other_lent = _; shows = search rules; left = _; back = _; other_back = _; met = c.f-done.ensures; leaves = search rules }
