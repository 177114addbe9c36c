-- The head of a log of whatever name is read as what it spells.
use Rattle.std.proofs.Common.{◌≡◌, ℕ, ◌≤◌, true, Some, List, [], ◌∷◌, refl, sym, ap, subst, ◌∙◌, decimal, rules, arith}
use Rattle.std.specs.List.{AllByRecursion}
use Rattle.custom_records.specs.{LineReading.log_at, LineText.log_words, Ranges.most_lines}
use Rattle.custom_records.proofs.LineLaws.{reads_log}
use Rattle.record_lines.specs.{FormLaws.ReadsLine, LineParts.name_word_at, Names.is_name, Reading.{words, word_at}, Words.{IsPlain, NoEnd, sentence}}
use Rattle.record_lines.proofs.{Names.{name_plain, name_takes, name_again}, Readings.{bind_some, plain_decimal}, Sentences.words_sentence}
use Rattle.judge.specs.OwnLines.{any_log_at}

abbrev LogFits : List ℕ × ℕ → Type 0
LogFits l = (is_name l.0 ≡ true) × (l.1 ≤ most_lines)

log_takes : (line : List ℕ) (l : List ℕ × ℕ) → any_log_at (words line) ≡ Some l → (line ≡ sentence (log_words l.0 l.1)) × LogFits l
unfolding any_log_at
log_takes line l e =
    bind_some (word_at (words line)) _ l e (λ first found_first behind_first.
    bind_some (name_word_at first.1) _ l behind_first (λ name found_name behind_name.
    bind_some (log_at name.0 (words line)) _ l behind_name (λ count found_count last.
    let is : ◌≡◌ {A = List ℕ × ℕ} (name.0, count) l = cc in
    let named = (name_takes first.1 name found_name).1 in
    let law = (reads_log name.0 named).takes line count found_count in
    subst (λ (p : List ℕ × ℕ). (line ≡ sentence (log_words p.0 p.1)) × LogFits p) is (law.0, (named, law.1)))))

log_again : (l : List ℕ × ℕ) → LogFits l → any_log_at (words (sentence (log_words l.0 l.1))) ≡ Some l
unfolding any_log_at word_at
log_again (name, count) fit =
    let few = fit.1 in
    let law = (reads_log name fit.0).again count fit.1 in
    let plain : AllByRecursion IsPlain (log_words name count) = (search (rules, arith), (name_plain name fit.0, (plain_decimal count (omega (arith, few)), tt))) in
    let all : words (sentence (log_words name count)) ≡ log_words name count = words_sentence (log_words name count) (omega arith) plain in
    let count_at : log_at name (log_words name count) ≡ Some count = ap (log_at name) (sym all) ∙ law in
    rw (all, name_again name (decimal count ∷ []) fit.0, count_at) refl

pub reads_any_log : ReadsLine NoEnd (λ (l : List ℕ × ℕ). sentence (log_words l.0 l.1)) LogFits (λ line. any_log_at (words line))
reads_any_log = record { takes = log_takes; again = log_again; plain = λ l fit. (reads_log l.0 fit.0).plain l.1 fit.1 }
