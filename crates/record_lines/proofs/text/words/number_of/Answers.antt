use Rattle.std.proofs.Common.{◌≡◌, ◌<◌, ◌≤◌, ◌⊎◌, inl, inr, ℕ, List, length, get_or, arith, sym, ◌∙◌}
use Rattle.record_lines.proofs.Digits.{answers_none, answers_digits, empty_none, zero_none, nothing_first}
use Rattle.record_lines.proofs.text.words.number_of.Goals as goal

-- a zero in front stands alone
alone : (first : ℕ) (word : List ℕ) → 0 < length word → first ≡ get_or word 0 0 → ((first ≡ 48) × (length word ≤ 1)) ⊎ (first ≡ 48 → ⊥) → get_or word 0 0 ≡ 48 → length word ≡ 1
alone first word some here either zero = elim either [
  | inl both ↦ omega (arith, some, both.1)
  | inr other ↦ absurd (other (here ∙ zero))
]

pub returns-in_err-first-clause-value : goal.returns-in_err-first-clause-value
returns-in_err-first-clause-value c = c.from_residual.ensures ∙ (answers_none c.args.high c.args.word.now (empty_none c.args.high c.args.word.now c.ranges.high.fits (nothing_first c.args.word.now c.in_err-first.ensures.value))).value

pub returns-in_err-first-clause-only : goal.returns-in_err-first-clause-only
returns-in_err-first-clause-only c = λ n few text. absurd (empty_none c.args.high c.args.word.now c.ranges.high.fits (nothing_first c.args.word.now c.in_err-first.ensures.value) n few text)

pub returns-then-word-gt1-clause-value : goal.returns-then-word-gt1-clause-value
returns-then-word-gt1-clause-value c = (answers_none c.args.high c.args.word.now (zero_none c.args.high c.args.word.now c.ranges.high.fits (sym (c.in_ok-first.ensures.item.3.1 0) ∙ c.if-first-eq48.true) c.if-word-gt1.true)).value

pub returns-then-word-gt1-clause-only : goal.returns-then-word-gt1-clause-only
returns-then-word-gt1-clause-only c = λ n few text. absurd (zero_none c.args.high c.args.word.now c.ranges.high.fits (sym (c.in_ok-first.ensures.item.3.1 0) ∙ c.if-first-eq48.true) c.if-word-gt1.true n few text)

pub returns : goal.returns
returns c =
    let item = c.in_ok-first.ensures.item.3 in
    let answer = answers_digits c.args.high c.args.word.now c.ranges.high.fits c.digits.result item.0 (alone c.in_ok-first.first.now c.args.word.now item.0 (item.1 0) c.else-first-eq48.either) c.digits.ensures.digits c.digits.ensures.value c.digits.ensures.bound c.digits.ensures.none in
    record { value = answer.value; bound = c.digits.ensures.bound; found = answer.found; only = answer.only }
