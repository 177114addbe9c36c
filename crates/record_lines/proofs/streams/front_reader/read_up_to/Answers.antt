use Rattle.std.proofs.Common.{rules, ◌≤◌, arith}
use Rattle.record_lines.proofs.Consuming.{read_after}
use Rattle.record_lines.proofs.streams.front_reader.read_up_to.Goals as goal

pub returns-then-is_err-clause-few_read : goal.returns-then-is_err-clause-few_read
returns-then-is_err-clause-few_read g c =
    let small : c.in-Ok.count ≤ c.loop-left.left = search rules in
    let all = c.loop-left.invariant.so_many in
    read_after c.args.most c.in-Ok.count _ _ _ c.loop-left.bytes.items c.read.new.buffer c.loop-left.invariant.consumed c.in-Ok.ensures.bytes.0 c.in-Ok.ensures.bound (omega (arith, small, all))
