use Rattle.std.proofs.Common.{◌≡◌, ℕ, List, length, sym, ap, subst, ◌∙◌}
use Rattle.std.specs.List.{AllByRecursion}
use Rattle.kernel_object.specs.{declared.call.KParams.KParams, contracts.object.KernelObjectSeqObject.TheImpl.{ghosts as kernel}, KernelTypes.KernelRun}
use Rattle.records.specs.{RecordRanges.Record, Runs.{opened_of, AsksFirst, TranscriptAsks}}
use Rattle.word_rule.specs.Machine.World.{run, run_of}
use Rattle.sound_run.specs.Sound.{Sound, Opened}
use Rattle.cpu_worker.specs.Simulation.{new_world, simulated}
use Rattle.cpu_worker.proofs.{Simulations.simulated_asks, simulation.simulate_owned.Goals.After-record}
use Rattle.cpu_worker.proofs.simulation.simulate_owned.Goals as goal

is_simulated : (c : After-record) → c.record.result ≡ simulated c.args.settings c.args.scripts c.args.schedule.now
unfolding simulated
is_simulated c =
    c.record.ensures.shows _ (c.run.ensures.shows _ c.in_ok-machine.ensures.shows)
    ∙ ap (λ (s : List ℕ). run_of (run kernel s (new_world c.args.settings c.args.scripts))) c.steps.ensures.steps

pub new-requires : goal.new-requires
new-requires c =
    let settings = c.args.settings in
    let asks = simulated_asks settings c.args.scripts c.args.schedule.now c.requires.scripts in
    let same = is_simulated c in
    let fit = c.in_ok-machine.ensures.fit in
    let opened = c.run.ensures.opened ∙ c.in_ok-machine.ensures.opened in
    let sound : Sound kernel (opened_of settings) c.record.result = subst (λ (l : List (Opened KParams)). Sound kernel l c.record.result) opened c.record.ensures.sound in
    let count : length c.record.result.transcripts ≡ settings.cpus = ap (λ (r : KernelRun). length r.transcripts) same ∙ asks.count in
    let each : AllByRecursion (TranscriptAsks (length settings.objects)) c.record.result.transcripts = subst (λ (r : KernelRun). AllByRecursion (TranscriptAsks (length settings.objects)) r.transcripts) (sym same) asks.each in
    (fit, c.sound_runs_fit.ensures settings c.record.result fit sound count each)

pub returns-clause-run : goal.returns-clause-run
returns-clause-run c = ap (λ (r : Record). r.run) c.new.ensures ∙ is_simulated c.before

pub returns-clause-asks : goal.returns-clause-asks
returns-clause-asks c =
    let asks = simulated_asks c.args.settings c.args.scripts c.args.schedule.now c.requires.scripts in
    let same : c.new.result.run ≡ simulated c.args.settings c.args.scripts c.args.schedule.now = ap (λ (r : Record). r.run) c.new.ensures ∙ is_simulated c.before in
    subst (λ (r : KernelRun). AsksFirst c.args.scripts r) (sym same) asks.first
