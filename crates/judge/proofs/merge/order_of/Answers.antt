use Rattle.std.proofs.Common.{◌≡◌, refl, subst, length, ◌∙◌, ap}
use Rattle.records.specs.{RecordFaults.NamesBadLine, RecordStates.received_record}
use Rattle.record_lines.specs.declared.text.fault.LinesFault.TheVariants.{Line}
use Rattle.judge.specs.Orders.{order, cycle, unsound, bad_line, places_report, room_with}
use Rattle.judge.proofs.merge.order_of.Goals as goal

pub returns-in-Err-Line : goal.returns-in-Err-Line
returns-in-Err-Line c =
    let is : c.in-Err-Line.field-0 ≡ Line c.in-Err-Line.line = cc in record {
      outcome = bad_line c.in-Err-Line.line;
      right = subst (NamesBadLine c.args.text.now) is c.in-Err-Line.ensures.fault;
      same = cc;
      room = refl;
    }

pub returns-in-Ok-into_merged : goal.returns-in-Ok-into_merged
returns-in-Ok-into_merged c = let p = c.in-Ok.read.1 in
    let same_places : c.as_slice.result.now ≡ c.in-Ok-into_merged.ordered.1.places = c.as_slice.ensures in record {
      outcome = order c.in-Ok-into_merged.ordered.1.places;
      right = (received_record p, c.in-Ok.ensures.found, c.in-Ok-into_merged.ensures.order);
      same = c.report_turns.ensures.report ∙ ap (λ q. places_report 0 (length c.args.room.now) q) same_places;
      room = c.report_turns.ensures.room ∙ ap (λ q. room_with q c.args.room.now) same_places;
    }

pub returns-in-Err-Cycle : goal.returns-in-Err-Cycle
returns-in-Err-Cycle c = let p = c.in-Ok.read.1 in
    let same_places : c.as_slice-in-Err-Cycle.result.now ≡ c.in-Err-Cycle.cycle = c.as_slice-in-Err-Cycle.ensures in record {
      outcome = cycle c.in-Err-Cycle.cycle;
      right = (received_record p, c.in-Ok.ensures.found, c.in-Err-Cycle.ensures.cycle c.in-Err-Cycle.cycle cc);
      same = c.report_turns-in-Err-Cycle.ensures.report ∙ ap (λ q. places_report 7 (length c.args.room.now) q) same_places;
      room = c.report_turns-in-Err-Cycle.ensures.room ∙ ap (λ q. room_with q c.args.room.now) same_places;
    }

pub returns-in-Err-Unsound : goal.returns-in-Err-Unsound
returns-in-Err-Unsound c = let p = c.in-Ok.read.1 in
    record {
      outcome = unsound c.in-Err-Unsound.fault;
      right = (received_record p, c.in-Ok.ensures.found, c.in-Err-Unsound.ensures.unsound c.in-Err-Unsound.fault cc);
      same = c.of_fault.ensures;
      room = refl;
    }
