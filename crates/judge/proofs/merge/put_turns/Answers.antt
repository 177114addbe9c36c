use Rattle.std.proofs.Common.{◌≡◌, ◌++◌, suc, ◌+◌, map, take, drop, ◌∙◌, ap, subst, arith, slice_index_or, slice_set}
use Rattle.sound_run.specs.declared.place.Place.{Place}
use Rattle.judge.proofs.Fronts.{one_more}
use Rattle.judge.specs.Orders.{turn_of}
use Rattle.judge.proofs.merge.put_turns.Goals as goal

pub loop-i-preserved : goal.loop-i-preserved
loop-i-preserved c =
    let places = c.args.places.now in let room = c.args.room.now in let i = c.loop-i.i in let other : Place = record { cpu = 0; entry = 0 } in
    let next = one_more turn_of places room i other (omega (arith, c.loop-i-test.true)) c.requires in
    let now = ap (λ r. slice_set r i (turn_of (slice_index_or places i other))) c.loop-i.invariant.written in
    let plus : suc i ≡ i + 1 = omega arith in
    record { written = now ∙ subst (λ n. slice_set (map turn_of (take i places) ++ drop i room) i (turn_of (slice_index_or places i other)) ≡ map turn_of (take n places) ++ drop n room) plus next }
