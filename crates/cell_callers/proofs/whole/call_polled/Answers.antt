use Rattle.std.proofs.Common.{rules}
use Rattle.cell_callers.proofs.whole.call_polled.Goals as goal

pub returns-in_default-default-true-clause-called : goal.returns-in_default-default-true-clause-called
returns-in_default-default-true-clause-called g c = λ p polled.
    let there = rw c.in-Held.is at polled in
    record { steps = there.0; got = c.in-Held.hold; there = there.1; held = let was = c.call_held.ensures.called in let back = was.back in record { left = was.left; done = was.done; back = search rules } }

pub returns-in_default-default-false-clause-called : goal.returns-in_default-default-false-clause-called
returns-in_default-default-false-clause-called g c = λ p polled.
    let there = rw c.in-Held.is at polled in
    record { steps = there.0; got = c.in-Held.hold; there = there.1; held = let was = c.call_held.ensures.called in let back = was.back in record { left = was.left; done = was.done; back = search rules } }
