use Rattle.std.proofs.Common.{◌∙◌, subst, sym}
use Rattle.cell_callers.specs.Callers.{IsOne}
use Rattle.cell_callers.proofs.Places.{at_place}
use Rattle.cell_callers.proofs.straight.go_on.Goals as goal

pub returns : goal.returns
returns c =
    let done = c.call_polled-caller in
    let one = (at_place c.args.cell.now c.args.place.now c.take.result c.requires c.take.ensures.state).1 in
    record {
      place = (done.result.0, c.put.ensures, done.ensures.of, subst IsOne (sym (done.ensures.caller ∙ c.poll_acquire-polled.ensures.caller)) one);
      reports = (done.result.1, (c.call_code.ensures.code, c.call_code.ensures.looks), (c.take.result, done.result.0, c.take.ensures.state, c.put.ensures, done.ensures.called c.take.result c.poll_acquire-polled.ensures.polled));
    }
