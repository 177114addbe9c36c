use Rattle.std.proofs.{Common.{option_map, ap, sym, ◌∙◌, arith}, lemmas.Bool.false≢true}
use Rattle.custom_records.proofs.NameSteps.{has_letter, has_more, none_empty, none_first, none_full, none_other, ends, ends_before}
use Rattle.custom_records.proofs.said.word_in_front.Goals as goal

pub returns-in_err-first-clause-read : goal.returns-in_err-first-clause-read
returns-in_err-first-clause-read c = ap (option_map _) c.from_residual.ensures ∙ none_empty c.args.bytes.now c.in_err-first.ensures.cases

pub returns-then-not-is_letter-clause-read : goal.returns-then-not-is_letter-clause-read
returns-then-not-is_letter-clause-read c = none_first c.args.bytes.now c.in_ok-first.rest.now c.in_ok-first.first.now c.in_ok-first.ensures.cases.0 (sym c.is_letter.ensures ∙ c.if-not-is_letter.true)

pub loop-left-init : goal.loop-left-init
loop-left-init c = has_letter c.args.bytes.now c.in_ok-first.rest.now c.in_ok-first.first.now c.of_letter-said.result c.in_ok-first.ensures.cases.0 (sym c.is_letter.ensures ∙ c.if-not-is_letter.false) c.of_letter-said.ensures

pub returns-then-byte-eq32-clause-read : goal.returns-then-byte-eq32-clause-read
returns-then-byte-eq32-clause-read c = ends_before c.args.bytes.now c.loop-left.left.now c.loop-left.said c.loop-left.invariant c.in-len1-up.len_at_least c.if-byte-eq32.true

pub returns-then-is_full-clause-read : goal.returns-then-is_full-clause-read
returns-then-is_full-clause-read c = none_full c.args.bytes.now c.loop-left.left.now c.loop-left.said c.loop-left.invariant c.in-len1-up.len_at_least c.if-byte-eq32.false (c.is_full.ensures.0 c.if-is_full.true)

pub returns-then-not-is_plain-clause-read : goal.returns-then-not-is_plain-clause-read
returns-then-not-is_plain-clause-read c = none_other c.args.bytes.now c.loop-left.left.now c.loop-left.said c.loop-left.invariant c.in-len1-up.len_at_least c.if-byte-eq32.false (sym c.is_plain.ensures ∙ c.if-not-is_plain.true)

pub loop-left-preserved : goal.loop-left-preserved
loop-left-preserved c = has_more c.args.bytes.now c.loop-left.left.now c.loop-left.said c.loop-left.invariant c.in-len1-up.len_at_least c.if-byte-eq32.false
    c.push_letter.new.self (λ full. false≢true (sym c.if-is_full.false ∙ c.is_full.ensures.1 full)) (sym c.is_plain.ensures ∙ c.if-not-is_plain.false) c.push_letter.ensures

pub returns-clause-read : goal.returns-clause-read
returns-clause-read c = ends c.args.bytes.now c.loop-left.left.now c.loop-left.said c.loop-left.invariant (let none = c.in_default.len_below in omega (arith, none))
