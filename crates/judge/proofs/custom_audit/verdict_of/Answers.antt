use Rattle.std.proofs.Common.{◌≡◌, ℕ, List, sym, subst, ◌∙◌}
use Rattle.judge.specs.{Models.{IsMistold, IsVerdictByCounts}, OwnReport.{judged, mistold, bad_line, AreFitting}}
use Rattle.custom_records.specs.{CustomReceived.received_custom, RecordFaults.NamesBadCustomLine}
use Rattle.record_lines.specs.declared.text.fault.LinesFault.TheVariants.{Line}
use Rattle.judge.proofs.MistoldCounts.{verdict_isnt, same_counts}
use Rattle.judge.proofs.custom_audit.verdict_of.Goals as goal

pub returns-in-Err-Line : goal.returns-in-Err-Line
returns-in-Err-Line c =
    let is : c.in-Err-Line.field-0 ≡ Line c.in-Err-Line.line = cc in
    record { outcome = bad_line c.in-Err-Line.line; right = subst (NamesBadCustomLine c.args.text.now) is c.in-Err-Line.ensures.fault; same = cc }

pub returns-in-Ok-verdict : goal.returns-in-Ok-verdict
returns-in-Ok-verdict c =
    let j = c.in-Ok-read_custom.read.1 in let r = received_custom j.parts in let v = c.in-Ok-verdict.verdict in
    let same : j.counts ≡ c.args.right.now = sym c.right.ensures ∙ same_counts c.right.result.now c.args.right.now c.ne.result c.ne.ensures c.if-ne.false in
    let fitting : AreFitting r j.counts = λ x m. verdict_isnt v (record { object = x }) ((c.in-Ok-verdict.ensures.mistold x).1 m) in
    record {
      outcome = judged v;
      right = (r, c.in-Ok-read_custom.ensures.found, subst (λ (n : List ℕ). AreFitting r n) same fitting, subst (λ (n : List ℕ). IsVerdictByCounts r n v) same c.in-Ok-verdict.ensures.verdict);
      same = c.of_verdict.ensures;
    }

pub returns : goal.returns
returns c =
    let j = c.in-Ok-read_custom.read.1 in let r = received_custom j.parts in let x = c.in-Err.mistold.object in
    let same : j.counts ≡ c.args.right.now = sym c.right.ensures ∙ same_counts c.right.result.now c.args.right.now c.ne.result c.ne.ensures c.if-ne.false in
    record {
      outcome = mistold x;
      right = (r, c.in-Ok-read_custom.ensures.found, subst (λ (n : List ℕ). IsMistold r n x) same ((c.in-Err.ensures.mistold x).0 cc));
      same = c.new-in-Err.ensures;
    }
