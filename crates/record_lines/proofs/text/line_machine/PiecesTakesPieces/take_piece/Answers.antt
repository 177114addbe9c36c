use Rattle.record_lines.proofs.Consuming.{on_both}
use Rattle.record_lines.proofs.text.line_machine.PiecesTakesPieces.take_piece.Goals as goal

pub returns-clause-ok : goal.returns-clause-ok
returns-clause-ok g c = λ first text h. on_both c.feed.result (c.feed.ensures.ok first.lines text h.0) (c.feed.ensures.held h.1) (λ fed held. (fed, held))
