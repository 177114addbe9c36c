use Rattle.std.proofs.Common.{rules, ◌≡◌, ◌<◌, ◌+◌, ◌*◌, ℕ, List, length, w64, get_or, refl, ◌∙◌, subst, arith}
use Rattle.std.specs.Int.{trailing_zeros}
use Rattle.log_merge.specs.Flags.{HasFlag}
use Rattle.log_merge.proofs.Flagged.{least_flag, none_set}
use Rattle.log_merge.proofs.number_flags.Flags.least.Goals as goal

pub returns-then-word-ne0 : goal.returns-then-word-ne0
returns-then-word-ne0 c =
    let words = c.as_slice-words.result.now in
    let i = c.loop-i.i in
    let w = get_or words i 0 in
    let ne = c.if-word-ne0.true in
    let fits : w < 18446744073709551616 = search rules in
    let some : 0 < w = omega (arith, ne) in
    subst (λ (l : List ℕ). HasFlag l (64 * i + trailing_zeros w64 w) × ((number : ℕ) → number < 64 * i + trailing_zeros w64 w → HasFlag l number → ⊥)) (c.as_slice-words.ensures.value ∙ c.self.view_is)
    (least_flag words i c.loop-i.invariant w refl some fits)

pub returns : goal.returns
returns c =
    let words = c.as_slice-words.result.now in
    let zeros : (k : ℕ) → k < length words → get_or words k 0 ≡ 0 = λ k lt. c.loop-i.invariant k (omega (arith, lt)) in
    subst (λ (l : List ℕ). (number : ℕ) → HasFlag l number → ⊥) (c.as_slice-words.ensures.value ∙ c.self.view_is) (none_set words zeros)
