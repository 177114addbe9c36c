use Rattle.std.proofs.Common.{◌∙◌, sym, subst}
use Rattle.word_rule.specs.Machine.Shown.{Represents}
use Rattle.word_rule.proofs.MachineKeeps.{run_take}
use Rattle.word_rule.proofs.machine.Machine.run.Goals as goal

pub loop-cpu-preserved : goal.loop-cpu-preserved
loop-cpu-preserved g c =
    let i = c.loop-cpu.invariant in
    record {
      shows = λ w h. subst (λ v. Represents g.O.SeqObject c.step.new.self v) (sym (run_take g.O.SeqObject c.args.schedule.now c.loop-cpu.cpu-index w c.loop-cpu-test.true)) (c.step.ensures.shows _ (i.shows w h));
      scripts = c.step.ensures.scripts ∙ i.scripts;
      opened = c.step.ensures.opened ∙ i.opened;
    }
