use Rattle.record_lines.specs.Names.{is_name}
use Rattle.record_lines.proofs.Names.{name_utf8, no_name}
use Rattle.record_lines.proofs.text.name.name_in.Goals as goal

pub returns-in-Err : goal.returns-in-Err
returns-in-Err c = no_name (is_name c.args.bytes.now) c.args.bytes.now (λ e. c.in-Err.ensures.cases.0 (name_utf8 c.args.bytes.now e))
