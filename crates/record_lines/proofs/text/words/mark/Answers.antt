use Rattle.std.proofs.Common.{◌∷◌, [], sym, ap, ◌∙◌, option_map, ne_eqb, Some}
use Rattle.record_lines.specs.Reading.{left, key_at, word_at}
use Rattle.record_lines.proofs.Behind.{no_mark, space_no_mark, mark_first, no_word}
use Rattle.record_lines.proofs.text.words.mark.Goals as goal

pub returns-in_err-at : goal.returns-in_err-at
unfolding key_at word_at
returns-in_err-at c = ap (option_map left) c.from_residual.ensures ∙ sym (ap (λ at. key_at (c.args.mark ∷ []) (left at)) c.in_err-at.was)

pub returns-in_err-first : goal.returns-in_err-first
returns-in_err-first c = ap (option_map left) c.from_residual-in_err-first.ensures ∙ sym (ap (λ at. key_at (c.args.mark ∷ []) (left at)) c.in_ok-at.was ∙ no_word c.in_ok-at.field-0.now c.args.mark c.in_err-first.ensures.cases)

pub returns-then-first-mark : goal.returns-then-first-mark
returns-then-first-mark c = sym (ap (λ at. key_at (c.args.mark ∷ []) (left at)) c.in_ok-at.was ∙ no_mark c.in_ok-at.field-0.now c.in_ok-first.rest.now c.in_ok-first.first.now c.args.mark c.in_ok-first.ensures.cases.0 (ne_eqb _ _ c.if-first-mark.true))

pub returns-then-mark-eq32 : goal.returns-then-mark-eq32
returns-then-mark-eq32 c = sym (ap (λ at. key_at (c.args.mark ∷ []) (left at)) c.in_ok-at.was ∙ (ap (λ m. key_at (m ∷ []) (left (Some c.in_ok-at.field-0))) c.if-mark-eq32.true ∙ space_no_mark c.in_ok-at.field-0.now))

pub returns : goal.returns
returns c = c.behind.ensures ∙ sym (ap (λ at. key_at (c.args.mark ∷ []) (left at)) c.in_ok-at.was ∙ mark_first c.in_ok-at.field-0.now c.in_ok-first.rest.now c.args.mark (c.in_ok-first.ensures.cases.0 ∙ ap (λ b. b ∷ c.in_ok-first.rest.now) c.if-first-mark.false) (ne_eqb _ _ c.if-mark-eq32.false))
