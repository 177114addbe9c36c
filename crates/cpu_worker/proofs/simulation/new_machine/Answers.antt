use Rattle.std.proofs.{Common.{◌≡◌, ℕ, List, map, length, vec_len, sym, ap, subst, ◌∙◌, arith, lit<, Vec, Global}, lemmas.List.length-map}
use Rattle.std.specs.List.{AllByRecursion}
use Rattle.kernel_object.specs.{contracts.object.KernelObjectSeqObject.TheImpl.{ghosts as kernel}, KernelTypes.KernelTodo}
use Rattle.scripts.specs.ScriptText.{ScriptFits}
use Rattle.word_rule.specs.{Machine.Opening.{opening_cell, opening_world}, Machine.Shown.Represents}
use Rattle.cpu_worker.specs.Simulation.{KernelWorld, new_cell, new_world}
use Rattle.cpu_worker.proofs.{Simulations.{opened_cpus, able_lists}, simulation.new_machine.Goals.After-into_lists}
use Rattle.cpu_worker.proofs.simulation.new_machine.Goals as goal

-- as many cells as objects
cell_count : (c : After-into_lists) → vec_len c.in_ok-cells.cells ≡ length c.args.settings.now.objects
cell_count c =
    let cells = c.in_ok-cells.cells.items in
    c.in_ok-cells.cells.ok.0 ∙ (sym (length-map cells (λ d. opening_cell d.kind d.first d.logged)) ∙ (ap length c.in_ok-cells.ensures.cells ∙ length-map c.args.settings.now.objects new_cell))

-- and as many lists as CPUs
list_count : (lists : List (Vec KernelTodo Global)) (scripts : List (List KernelTodo)) (cpus : ℕ) → map (λ l. l.items) lists ≡ scripts → length scripts ≡ cpus → length lists ≡ cpus
list_count lists scripts cpus same count = sym (length-map lists (λ l. l.items)) ∙ (ap length same ∙ count)

pub new-requires : goal.new-requires
new-requires c =
    let objects = cell_count c in
    let lists = c.into_lists.result in
    let cpus = lists.ok.0 ∙ list_count lists.items c.args.scripts c.args.settings.now.cpus c.into_lists.ensures.lists c.requires.0 in
    let fit = c.in_ok-cells.ensures.fit in (
      lit< tt,
      (
        (omega (arith, objects, fit.count.0), omega (arith, objects, fit.count.1)),
        (
          (omega (arith, cpus, fit.cpus.0), omega (arith, cpus, fit.cpus.1)),
          (
            c.in_ok-cells.ensures.empty,
            (
              c.in_ok-cells.ensures.stored,
              able_lists (vec_len c.in_ok-cells.cells) (length c.args.settings.now.objects) objects lists.items (subst (λ (l : List (List KernelTodo)). AllByRecursion (ScriptFits (length c.args.settings.now.objects)) l) (sym c.into_lists.ensures.lists) c.requires.1),
            ),
          ),
        ),
      ),
    )

-- the machine is made of the world before the first step
pub returns-in-Ok-clause-shows : goal.returns-in-Ok-clause-shows
returns-in-Ok-clause-shows c =
    let cells = c.in_ok-cells.ensures.cells in
    let cpus = opened_cpus c.into_lists.result.items c.args.scripts c.into_lists.ensures.lists in
    let made : opening_world c.in_ok-cells.cells.items c.into_lists.result.items ≡ new_world c.args.settings.now c.args.scripts = λ i. record { cells = cells i; cpus = cpus i } in
    subst (λ (w : KernelWorld). Represents kernel c.in-Ok.machine w) made c.in-Ok.ensures.shows

pub returns-in-Ok-clause-opened : goal.returns-in-Ok-clause-opened
returns-in-Ok-clause-opened c = c.in-Ok.ensures.opened ∙ c.in_ok-cells.ensures.opened

pub returns-in-Ok-clause-cpus : goal.returns-in-Ok-clause-cpus
returns-in-Ok-clause-cpus c = ap length c.in-Ok.ensures.scripts ∙ list_count c.into_lists.result.items c.args.scripts c.args.settings.now.cpus c.into_lists.ensures.lists c.requires.0
