use Rattle.std.proofs.Common.{◌<◌, length, sym, subst, ◌∙◌}
use Rattle.word_rule.specs.Machine.Shown.{Represents}
use Rattle.word_rule.proofs.MachineSteps.{words_shown}
use Rattle.word_rule.proofs.machine.Machine.words.Goals as goal

pub returns : goal.returns
returns g c = λ w d h there.
    let shown = subst (λ m. Represents g.O.SeqObject m w) (sym c.self.view_is) h in
    let below : c.args.cell < length c.self.inside.cells.items = subst (λ m. c.args.cell < length m.cells) (sym c.self.view_is) c.requires in
    c.as_slice.ensures.value ∙ (words_shown g.O.SeqObject c.self.inside.cells.items c.self.inside.locks.items c.self.inside.scripts.items c.self.inside.done.items c.args.cell below c.index.result.now c.index.ensures w shown d there).tied.words
