use Rattle.std.proofs.{Common.{◌≡◌, true, false, true≢false, sym, ◌∙◌, ap, length, take, arith, eq-eqb}, lemmas.Bool.eqb-true}
use Rattle.event_log.specs.Log.{calls_of, last_refuses}
use Rattle.auditor.proofs.{Compares.{not_true, differ, calls_next, last_next, call_at, not_longer, fulfils_if, whole_if}, Splits.take_all}
use Rattle.auditor.proofs.compare.fulfil.Goals as goal

pub loop-i-preserved : goal.loop-i-preserved
loop-i-preserved g c = record {
  calls = calls_next g.O.SeqObject c.args.steps.now c.args.asked.now c.loop-i.i c.index-steps-i.result c.index-asked-i.result c.loop-i-test.true c.index-steps-i.is (omega arith) c.index-asked-i.is
      (g.met.O.SeqObject.call_equality _ _ (not_true _ c.ne.result c.ne.ensures c.if-ne.false)) c.loop-i.invariant.calls;
  refused = c.refuses-refused.ensures ∙ sym (last_next g.O.SeqObject c.args.steps.now c.loop-i.i c.index-steps-i.result c.loop-i-test.true c.index-steps-i.is);
}

pub returns-then-ne : goal.returns-then-ne
returns-then-ne g c = (
  (λ h. absurd (cc)),
  λ f. absurd (differ g.O.Call.PartialEq.eq c.ne.result c.index-steps-i.result.call c.index-asked-i.result (g.met.O.Call.Eq.laws.refl c.index-steps-i.result.call) c.ne.ensures c.if-ne.true
      (call_at g.O.SeqObject c.args.steps.now c.args.asked.now c.loop-i.i c.index-steps-i.result c.index-asked-i.result c.loop-i-test.true c.index-steps-i.is c.index-asked-i.is f.beginning.start)),
)

pub returns-then-steps-asked : goal.returns-then-steps-asked
returns-then-steps-asked g c = ((λ h. absurd (cc)), λ f. let t = not_longer g.O.SeqObject c.args.steps.now c.args.asked.now f.beginning.start in absurd (omega arith))

pub returns-then-refused : goal.returns-then-refused
returns-then-refused g c =
    let i : c.loop-i.i ≡ length c.args.steps.now = omega arith in
    let calls = ap (λ n. calls_of (take n c.args.steps.now)) (sym i) ∙ (c.loop-i.invariant.calls ∙ ap (λ n. take n c.args.asked.now) i) in
    let last : last_refuses g.O.SeqObject c.args.steps.now ≡ true = ap (λ l. last_refuses g.O.SeqObject l) (sym (take_all c.args.steps.now c.loop-i.i c.loop-i-test.false)) ∙ (sym c.loop-i.invariant.refused ∙ c.if-refused.true) in
    ((λ _. fulfils_if g.O.SeqObject c.args.steps.now c.args.asked.now (omega arith) calls (λ goes. absurd (true≢false (sym last ∙ goes)))), λ _. c.if-refused.true)

pub returns-else-refused : goal.returns-else-refused
returns-else-refused g c =
    let i : c.loop-i.i ≡ length c.args.steps.now = omega arith in
    let calls = ap (λ n. calls_of (take n c.args.steps.now)) (sym i) ∙ (c.loop-i.invariant.calls ∙ ap (λ n. take n c.args.asked.now) i) in
    let last : last_refuses g.O.SeqObject c.args.steps.now ≡ false = ap (λ l. last_refuses g.O.SeqObject l) (sym (take_all c.args.steps.now c.loop-i.i c.loop-i-test.false)) ∙ (sym c.loop-i.invariant.refused ∙ c.if-refused.false) in
    ((λ h. fulfils_if g.O.SeqObject c.args.steps.now c.args.asked.now (omega arith) calls (λ _. eqb-true (length c.args.steps.now) (length c.args.asked.now) h)), λ f. eq-eqb (length c.args.steps.now) (length c.args.asked.now) (whole_if g.O.SeqObject c.args.steps.now c.args.asked.now f last))
