use Rattle.std.proofs.Common.{◌≡◌, ◌<◌, ◌≤◌, ◌^◌, Some, None, sym, ◌∙◌, ap, arith}
use Rattle.record_lines.specs.Reading.{number_in}
use Rattle.record_lines.proofs.{Cuts.{number_takes, number_again}, Readings.if_none}
use Rattle.scripts.proofs.schedule.step_reader.cpu_of.Goals as goal

pub returns-in_err-number-clause-none : goal.returns-in_err-number-clause-none
returns-in_err-number-clause-none c = if_none c.from_residual.result (λ cpu less is.
    let last : cpu ≤ c.from-last.result = omega (arith, less, c.requires, c.from-last.ensures) in
    let few : cpu < 2 ^ 64 = omega (arith, less, c.ranges.cpus) in
    let found : Some cpu ≡ None = sym (number_again c.from-last.result cpu last few) ∙ (ap (number_in c.from-last.result) (sym is) ∙ (sym c.number_of.ensures.value ∙ c.in_err-number.was)) in
    absurd cc)

pub returns-clause-found : goal.returns-clause-found
returns-clause-found c =
    let takes = number_takes c.from-last.result c.args.word.now c.in_ok-number.number (sym c.number_of.ensures.value ∙ c.in_ok-number.was) in
    (takes.0, omega (arith, takes.1, c.requires, c.from-last.ensures))
