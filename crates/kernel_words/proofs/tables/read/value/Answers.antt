use Rattle.std.proofs.Common.{sym, ◌∙◌, ap, option_map}
use Rattle.record_lines.specs.Reading.{left}
use Rattle.kernel_words.specs.Row.{value_at}
use Rattle.record_lines.proofs.Readings.{if_some}
use Rattle.kernel_words.proofs.Spellings.{value_takes, value_again}
use Rattle.kernel_words.proofs.tables.read.value.Goals as goal

pub returns-clause-found : goal.returns-clause-found
returns-clause-found g c = if_some _ c.next_value.result (λ r is.
    let read = sym c.next_value.ensures ∙ ap (option_map (λ x. (x.0, left x.1))) is in
    let spells = value_takes g.T.Spelled.row_of g.T.Spelled.table g.T.Spelled.filled g.met.T.Spelled.right (left c.args.at) (r.0, left r.1) read in
    (spells.text, spells.fits))

pub returns-clause-only : goal.returns-clause-only
returns-clause-only g c = λ x rest fits words. c.next_value.ensures ∙ (ap (λ ws. value_at g.T.Spelled.row_of g.T.Spelled.table g.T.Spelled.filled ws) words ∙ value_again g.T.Spelled.row_of g.T.Spelled.table g.T.Spelled.filled g.met.T.Spelled.right x rest fits)
