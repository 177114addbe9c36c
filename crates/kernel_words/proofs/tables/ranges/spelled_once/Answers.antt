use Rattle.kernel_words.proofs.Spellings.{spelled_once}
use Rattle.kernel_words.proofs.tables.ranges.spelled_once.Goals as goal

pub returns : goal.returns
returns g c = spelled_once g.T.Spelled.row_of g.T.Spelled.table g.T.Spelled.filled g.met.T.Spelled.right
