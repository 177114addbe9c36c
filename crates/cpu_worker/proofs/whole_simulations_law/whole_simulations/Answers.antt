use Rattle.std.proofs.Common.{◌*◌, subst, sym, []}
use Rattle.word_rule.specs.Machine.Rounds.{HasRounds, entries_to_do, most_steps}
use Rattle.cpu_worker.specs.Simulation.{new_world}
use Rattle.cpu_worker.proofs.WholeSimulations.{whole, is_opening, cpu_count}
use Rattle.cpu_worker.proofs.whole_simulations_law.whole_simulations.Goals as goal

pub returns-clause-done : goal.returns-clause-done
returns-clause-done c = λ settings scripts steps none. whole settings scripts steps none

pub returns-clause-rounds : goal.returns-clause-rounds
returns-clause-rounds c = λ settings scripts steps fit all rounds.
    let w = new_world settings scripts in
    whole settings scripts steps (c.scripts_end.ensures.ends w (is_opening settings scripts fit all) [] steps
    (subst (λ n. HasRounds n (most_steps * entries_to_do w.cpus) steps) (sym (cpu_count settings scripts fit all)) rounds))
