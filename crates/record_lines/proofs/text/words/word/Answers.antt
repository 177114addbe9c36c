use Rattle.std.proofs.Common.{◌∙◌, sym, ap}
use Rattle.record_lines.specs.Reading.{word_at, left}
use Rattle.record_lines.proofs.Cuts.{words_cut, words_whole}
use Rattle.record_lines.proofs.text.words.word.Goals as goal

pub returns-in-Some : goal.returns-in-Some
unfolding word_at
returns-in-Some c = sym (ap word_at (ap left c.in_ok-bytes.was ∙ words_cut c.in_ok-bytes.bytes.now c.in-Some.word.now c.in-Some.rest.now c.in-Some.ensures.found.0 c.in-Some.ensures.found.1))

pub returns-in-None : goal.returns-in-None
unfolding word_at
returns-in-None c = sym (ap word_at (ap left c.in_ok-bytes.was ∙ words_whole c.in_ok-bytes.bytes.now c.in-None.ensures.none))
