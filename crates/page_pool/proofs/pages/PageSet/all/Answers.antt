use Rattle.std.proofs.{Common.{◌≡◌, ◌<◌, ◌-◌, length, get_or, set, replicate, ap, ◌∙◌, arith, rules}, lemmas.List.{length-replicate, get_or-replicate, length-set}}
use Rattle.page_pool.proofs.Topped.{all_has, all_members, all_topped}
use Rattle.page_pool.proofs.pages.PageSet.all.Goals as goal

made : (c : goal.After-below-2) → c.in_ok-words.words.items ≡ replicate c.div_ceil-count.result 18446744073709551615
made c = search rules

pub invariant_of-result : goal.invariant_of-result
invariant_of-result c =
    let count = c.div_ceil-count.result in
    let words = c.in_ok-words.words.items in
    let is = made c in
    let len : length words ≡ count = ap length is ∙ length-replicate count 18446744073709551615 in
    let some : 0 < count = omega (arith, c.div_ceil-count.ensures, c.requires.some) in
    let filled = all_has words (count - 1) c.args.size c.below.result (λ w l. ap (λ xs. get_or xs w 0) is ∙ get_or-replicate count w 18446744073709551615 0 (omega (arith, l))) (omega (arith, len, some)) (omega (arith, c.div_ceil-count.ensures, some)) (omega (arith, c.div_ceil-count.ensures, some)) c.below.ensures in
    all_topped (set words (count - 1) c.below.result) c.below-2.result count c.args.size (length-set words (count - 1) c.below.result ∙ len) (omega (arith, c.div_ceil-count.ensures, c.requires.few)) (omega (arith, c.div_ceil-count.ensures)) (omega (arith, c.div_ceil-count.ensures)) filled c.below-2.ensures

pub returns : goal.returns
returns c =
    let count = c.div_ceil-count.result in
    let words = c.in_ok-words.words.items in
    let is = made c in
    let len : length words ≡ count = ap length is ∙ length-replicate count 18446744073709551615 in
    let some : 0 < count = omega (arith, c.div_ceil-count.ensures, c.requires.some) in
    let filled = all_has words (count - 1) c.args.size c.below.result (λ w l. ap (λ xs. get_or xs w 0) is ∙ get_or-replicate count w 18446744073709551615 0 (omega (arith, l))) (omega (arith, len, some)) (omega (arith, c.div_ceil-count.ensures, some)) (omega (arith, c.div_ceil-count.ensures, some)) c.below.ensures in
    all_members (set words (count - 1) c.below.result) c.args.size filled
