use Rattle.std.proofs.Common.{◌≡◌, ℕ, List, length, Err, refl, sym, subst, ap, ◌∙◌}
use Rattle.judge.specs.{Merged.{IsMergedBy, HasCycleBy}, Models.{Model, AreCounts, IsFirstFaultBy, IsMistold}, Orders.{places_report, room_with}, OwnOrders.{order, cycle, unsound, mistold, bad_line}, OwnReport.AreFitting}
use Rattle.custom_records.specs.{CustomReceived.received_custom, RecordFaults.NamesBadCustomLine}
use Rattle.record_lines.specs.declared.text.fault.LinesFault.TheVariants.{Line}
use Rattle.judge.proofs.MistoldCounts.{order_isnt, cycle_isnt, fault_isnt, same_counts}
use Rattle.judge.specs.declared.custom_merge_judge.CustomMergeFault.TheVariants as fault
use Rattle.judge.proofs.custom_merge.order_of.Goals as goal

pub returns-in-Err-Line : goal.returns-in-Err-Line
returns-in-Err-Line c =
    let is : c.in-Err-Line.field-0 ≡ Line c.in-Err-Line.line = cc in
    record { outcome = bad_line c.in-Err-Line.line; right = subst (NamesBadCustomLine c.args.text.now) is c.in-Err-Line.ensures.fault; same = cc; room = refl }

pub returns-in-Ok-into_merged : goal.returns-in-Ok-into_merged
returns-in-Ok-into_merged c =
    let j = c.in-Ok-read_custom.read.1 in let r = received_custom j.parts in
    let same : j.counts ≡ c.args.right.now = sym c.right.ensures ∙ same_counts c.right.result.now c.args.right.now c.ne.result c.ne.ensures c.if-ne.false in
    let places = c.in-Ok-into_merged.places in
    let fitting : AreFitting r j.counts = λ x m. order_isnt places (record { object = x }) ((c.in-Ok-into_merged.ensures.mistold x).1 m) in
    let same_places : c.as_slice.result.now ≡ places = c.as_slice.ensures in
    record {
      outcome = order places;
      right = (r, c.in-Ok-read_custom.ensures.found, subst (λ (n : List ℕ). AreFitting r n) same fitting, subst (λ (n : List ℕ). (model : Model) → AreCounts model r n → IsMergedBy model r places) same c.in-Ok-into_merged.ensures.order);
      same = c.report_turns.ensures.report ∙ ap (λ q. places_report 0 (length c.args.room.now) q) same_places;
      room = c.report_turns.ensures.room ∙ ap (λ q. room_with q c.args.room.now) same_places;
    }

pub returns-in-Err-Cycle : goal.returns-in-Err-Cycle
returns-in-Err-Cycle c =
    let j = c.in-Ok-read_custom.read.1 in let r = received_custom j.parts in
    let same : j.counts ≡ c.args.right.now = sym c.right.ensures ∙ same_counts c.right.result.now c.args.right.now c.ne.result c.ne.ensures c.if-ne.false in
    let places = c.in-Err-Cycle.cycle in
    let is : c.in-Err-Cycle.field-0 ≡ fault.Cycle places = cc in
    let fitting : AreFitting r j.counts = λ x m. cycle_isnt places (record { object = x }) (sym (ap Err is) ∙ (c.in-Err-Cycle.ensures.mistold x).1 m) in
    let same_places : c.as_slice-in-Err-Cycle.result.now ≡ places = c.as_slice-in-Err-Cycle.ensures in
    record {
      outcome = cycle places;
      right = (r, c.in-Ok-read_custom.ensures.found, subst (λ (n : List ℕ). AreFitting r n) same fitting, subst (λ (n : List ℕ). (model : Model) → AreCounts model r n → HasCycleBy model r places) same (c.in-Err-Cycle.ensures.cycle places cc));
      same = c.report_turns-in-Err-Cycle.ensures.report ∙ ap (λ q. places_report 7 (length c.args.room.now) q) same_places;
      room = c.report_turns-in-Err-Cycle.ensures.room ∙ ap (λ q. room_with q c.args.room.now) same_places;
    }

pub returns-in-Err-Unsound : goal.returns-in-Err-Unsound
returns-in-Err-Unsound c =
    let j = c.in-Ok-read_custom.read.1 in let r = received_custom j.parts in
    let same : j.counts ≡ c.args.right.now = sym c.right.ensures ∙ same_counts c.right.result.now c.args.right.now c.ne.result c.ne.ensures c.if-ne.false in
    let f = c.in-Err-Unsound.fault in
    let is : c.in-Err-Unsound.field-0 ≡ fault.Unsound f = cc in
    let fitting : AreFitting r j.counts = λ x m. fault_isnt f (record { object = x }) (sym (ap Err is) ∙ (c.in-Err-Unsound.ensures.mistold x).1 m) in
    record {
      outcome = unsound f;
      right = (r, c.in-Ok-read_custom.ensures.found, subst (λ (n : List ℕ). AreFitting r n) same fitting, subst (λ (n : List ℕ). (model : Model) → AreCounts model r n → IsFirstFaultBy model r f) same (c.in-Err-Unsound.ensures.unsound f cc));
      same = c.of_fault.ensures;
      room = refl;
    }

pub returns-in-Err-Mistold : goal.returns-in-Err-Mistold
returns-in-Err-Mistold c =
    let j = c.in-Ok-read_custom.read.1 in let r = received_custom j.parts in
    let same : j.counts ≡ c.args.right.now = sym c.right.ensures ∙ same_counts c.right.result.now c.args.right.now c.ne.result c.ne.ensures c.if-ne.false in
    let x = c.in-Err-Mistold.mistold.object in
    record {
      outcome = mistold x;
      right = (r, c.in-Ok-read_custom.ensures.found, subst (λ (n : List ℕ). IsMistold r n x) same ((c.in-Err-Mistold.ensures.mistold x).0 cc));
      same = c.new-in-Err-Mistold.ensures;
      room = refl;
    }
