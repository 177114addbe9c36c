use Rattle.custom_kernel.proofs.LinesAt.{split_is}
use Rattle.custom_kernel.proofs.lines.first_line.Goals as goal

pub returns : goal.returns
returns c = split_is c.args.text.now c.split_line.result c.split_line.ensures.found c.split_line.ensures.none
