use Rattle.std.proofs.Common.{◌≡◌, ◌≤◌, ◌<◌, List, [], ◌∷◌, length, get_or, map, decimal, refl, ap, ◌∙◌, subst, arith}
use Rattle.record_lines.specs.Output.{PutsWords}
use Rattle.record_lines.proofs.Lines.{words_then, words_same}
use Rattle.kernel_words.specs.declared.tables.field.Field.{Field}
use Rattle.kernel_words.proofs.tables.write.put_value.Goals as goal

one_field : (fs : List Field) (d : Field) → 1 ≤ length fs → length fs < 2 → get_or fs 0 d ∷ [] ≡ fs
one_field [] d some few = absurd (omega (arith, some))
one_field (f ∷ []) d some few = refl
one_field (f ∷ g ∷ fs) d some few = absurd (omega (arith, few))

two_fields : (fs : List Field) (d : Field) → 2 ≤ length fs → length fs ≤ 2 → get_or fs 0 d ∷ get_or fs 1 d ∷ [] ≡ fs
two_fields [] d some few = absurd (omega (arith, some))
two_fields (f ∷ []) d some few = absurd (omega (arith, some))
two_fields (f ∷ g ∷ []) d some few = refl
two_fields (f ∷ g ∷ h ∷ fs) d some few = absurd (omega (arith, few))

pub returns-in-len1 : goal.returns-in-len1
returns-in-len1 g c =
    let word = subst (λ w. PutsWords g.W.Sink c.args.text.now c.put_word.new.text (w ∷ [])) c.spelling-spelling.ensures.word c.put_word.ensures in
    let number = subst (λ n. PutsWords g.W.Sink c.put_word.new.text c.put_number.new.text (decimal n ∷ [])) c.from.ensures c.put_number.ensures in
    let fields = one_field c.as_slice.result.now (record { low = 0; high = 0; value = 0 }) c.in-len1.len_at_least c.in-len1.len_below ∙ (c.as_slice.ensures.value ∙ c.spelling-spelling.ensures.fields) in
    words_same g.W.Sink {b = c.put_number.new.text} (ap (λ fs. (g.T.Spelled.row_of c.args.value.now).word ∷ map (λ f. decimal f.value) fs) fields) (words_then g.W.Sink word number)

pub returns-in-len2-up : goal.returns-in-len2-up
returns-in-len2-up g c =
    let word = subst (λ w. PutsWords g.W.Sink c.args.text.now c.put_word.new.text (w ∷ [])) c.spelling-spelling.ensures.word c.put_word.ensures in
    let first = subst (λ n. PutsWords g.W.Sink c.put_word.new.text c.put_number-in-len2-up.new.text (decimal n ∷ [])) c.from-in-len2-up.ensures c.put_number-in-len2-up.ensures in
    let second = subst (λ n. PutsWords g.W.Sink c.put_number-in-len2-up.new.text c.put_number-in-len2-up-2.new.text (decimal n ∷ [])) c.from-in-len2-up-2.ensures c.put_number-in-len2-up-2.ensures in
    let fields = two_fields c.as_slice.result.now (record { low = 0; high = 0; value = 0 }) c.in-len2-up.len_at_least c.as_slice.ensures.fits ∙ (c.as_slice.ensures.value ∙ c.spelling-spelling.ensures.fields) in
    words_same g.W.Sink {b = c.put_number-in-len2-up-2.new.text} (ap (λ fs. (g.T.Spelled.row_of c.args.value.now).word ∷ map (λ f. decimal f.value) fs) fields) (words_then g.W.Sink word (words_then g.W.Sink first second))
