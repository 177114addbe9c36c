use Rattle.std.proofs.Common.{refl, sym, ◌∙◌, ap, arith}
use Rattle.auditor.proofs.{Compares.{not_true, differ, same_next, same_place}, Splits.take_all}
use Rattle.auditor.proofs.compare.are_same.Goals as goal

pub loop-i-preserved : goal.loop-i-preserved
loop-i-preserved g c =
    same_next c.args.a.now c.args.b.now c.loop-i.i c.index-a-i.result c.index-b-i.result c.loop-i-test.true c.index-a-i.is (omega arith) c.index-b-i.is
    (g.met.O.SeqObject.call_equality _ _ (not_true _ c.ne.result c.ne.ensures c.if-ne.false))
    (g.met.O.SeqObject.reply_equality _ _ (not_true _ c.ne-in-loop-i.result c.ne-in-loop-i.ensures c.if-ne-2.false))
    c.loop-i.invariant

pub returns : goal.returns
returns g c =
    let a = c.args.a.now in
    let b = c.args.b.now in
    ((λ _. sym (take_all a c.loop-i.i c.loop-i-test.false) ∙ (c.loop-i.invariant ∙ take_all b c.loop-i.i (omega arith))), λ _. refl)

pub returns-then-ne : goal.returns-then-ne
returns-then-ne g c = (
  (λ h. absurd (cc)),
  λ e. absurd (differ g.O.Call.PartialEq.eq c.ne.result c.index-a-i.result.call c.index-b-i.result.call (g.met.O.Call.Eq.laws.refl c.index-a-i.result.call) c.ne.ensures c.if-ne.true
      (ap (λ s. s.call) (same_place c.args.a.now c.args.b.now c.loop-i.i c.index-a-i.result c.index-b-i.result c.index-a-i.is c.loop-i-test.true c.index-b-i.is e))),
)

pub returns-then-ne-2 : goal.returns-then-ne-2
returns-then-ne-2 g c = (
  (λ h. absurd (cc)),
  λ e. absurd (differ g.O.Reply.PartialEq.eq c.ne-in-loop-i.result c.index-a-i.result.reply c.index-b-i.result.reply (g.met.O.Reply.Eq.laws.refl c.index-a-i.result.reply) c.ne-in-loop-i.ensures c.if-ne-2.true
      (ap (λ s. s.reply) (same_place c.args.a.now c.args.b.now c.loop-i.i c.index-a-i.result c.index-b-i.result c.index-a-i.is c.loop-i-test.true c.index-b-i.is e))),
)
