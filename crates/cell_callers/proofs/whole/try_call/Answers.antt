use Rattle.std.proofs.Common.{rules}
use Rattle.cell_callers.proofs.whole.try_call.Goals as goal

pub returns-in_default-default-true-clause-called : goal.returns-in_default-default-true-clause-called
returns-in_default-default-true-clause-called g c = record { got = c.in-Held.hold; there = c.in-Held.ensures.tried; held = let was = c.call_held.ensures.called in let back = was.back in record { left = was.left; done = was.done; back = search rules } }

pub returns-in_default-default-false-clause-called : goal.returns-in_default-default-false-clause-called
returns-in_default-default-false-clause-called g c = record { got = c.in-Held.hold; there = c.in-Held.ensures.tried; held = let was = c.call_held.ensures.called in let back = was.back in record { left = was.left; done = was.done; back = search rules } }
