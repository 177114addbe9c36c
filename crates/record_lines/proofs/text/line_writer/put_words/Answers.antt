use Rattle.std.proofs.Common.{◌≡◌, List, [], ◌∷◌, ℕ, false, sym, ap, ◌∙◌}
use Rattle.record_lines.specs.{Reading.words, LineParts.is_nil, Words.{sentence, spaced}}
use Rattle.record_lines.proofs.{Lines.sentence_spaced, Outputs.{puts_then, puts_same}, Sentences.{words_some, sentence_words}}
use Rattle.record_lines.proofs.text.line_writer.put_words.Goals as goal

-- a sentence behind a space is its words, each behind a space
behind_space : (ws : List (List ℕ)) → is_nil ws ≡ false → 32 ∷ sentence ws ≡ spaced ws
behind_space [] e = absurd cc
behind_space (w ∷ ws) e = ap (λ l. 32 ∷ l) (sentence_spaced w ws)

pub returns : goal.returns
returns g c =
    let line = c.args.line.now in
    let same : 32 ∷ line ≡ spaced (words line) = ap (λ l. 32 ∷ l) (sym (sentence_words line)) ∙ behind_space (words line) (words_some line) in
    record { puts = puts_same g.W.Sink _ _ (32 ∷ line) (spaced (words line)) same (puts_then g.W.Sink _ _ _ (32 ∷ []) line c.put.ensures c.put-2.ensures) }
