use Rattle.std.proofs.Common.{List, [], ◌∷◌, ◌++◌, sym, subst, ◌∙◌, Option, Some}
use Rattle.atomic_table.specs.Table.{opening}
use Rattle.event_log.specs.History.{History}
use Rattle.word_rule.specs.{Rule.CellInvariant.CellInvariant, Rule.Seats.first_view}
use Rattle.word_rule.proofs.lock_table.LockTable.make.Goals as goal

pub new-requires : goal.new-requires
new-requires g c =
    let h = c.args.key.now in
    subst (λ (z : List (Option (History g.row.O.Denot g.row.O-Params.Denot g.row.O-Call.Denot g.row.O-Reply.Denot))). CellInvariant g.O.SeqObject h.kind h (opening c.args.words.now z (first_view h)))
    (sym (c.push_reserved.ensures.items ∙ (λ i. c.in-Ok.ensures.items i ++ Some c.args.logged ∷ []))) c.requires
