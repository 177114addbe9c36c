use Rattle.std.proofs.{Common.{◌≡◌, ℕ, List, length, map, refl, sym, ap, subst, ◌∙◌, arith, lit<, vec_capacity}, lemmas.List.length-map, lemmas.Slice.Zip.AllZip-long}
use Rattle.std.specs.List.{AllByRecursion}
use Rattle.event_log.specs.Entries.{asked_of}
use Rattle.kernel_object.specs.{contracts.object.KernelObjectSeqObject.TheImpl.{ghosts as kernel}, KernelTypes.{KernelEntry, KernelRun, KernelTodo}}
use Rattle.guarded_cell.specs.{Kinds.IsPassOf, Runs.AllWorked, Workers.ArePasses}
use Rattle.records.specs.{RecordRanges.RunFits, Runs.{opened_of, TranscriptAsks}}
use Rattle.records.proofs.SoundRanges.{all_at as all_by_place}
use Rattle.word_rule.specs.{Cell.OwnsAll, Passes.view_of_pass}
use Rattle.sound_run.specs.Sound.{Sound}
use Rattle.sound_run.proofs.Slices.{map_get}
use Rattle.cpu_worker.specs.{Opening.cells_for, Starts.IsNotStarted, Work.IsDone, declared.run_preparation.Work.Work}
use Rattle.cpu_worker.proofs.{Runs.{all_ready, all_left, all_worked, all_ask, sound_run, stored_passes}, Zips.{zip_right, err_has}, whole_run.work_out.Goals.After-join_passes-passes}
use Rattle.cpu_worker.proofs.whole_run.work_out.Given as given
use Rattle.cpu_worker.proofs.whole_run.work_out.Goals as goal

-- the scripts of the jobs
abbrev todos_of : Work → List (List KernelTodo)
todos_of w = map (λ j. j.todos.items) w.jobs.items

-- as many jobs as scripts
job_count : (w : Work) (n : ℕ) → length (todos_of w) ≡ n → length w.jobs.items ≡ n
job_count w n is = sym (length-map w.jobs.items (λ j. j.todos.items)) ∙ is

pub on_threads-requires-clause-ready : goal.on_threads-requires-clause-ready
on_threads-requires-clause-ready g c κs within =
    let work = c.args.work in
    all_ready IsPassOf view_of_pass c.args.settings.now (todos_of work) work.cells.items (λ j. j.todos.items) (λ j. j.passes.items) (λ j. j.passes.items) work.jobs.items work.jobs.items refl refl c.requires.rows
    (λ j. j.transcript.items) (λ j. vec_capacity j.transcript) c.requires.scripts (sym work.cells.ok.0 ∙ c.requires.cells) c.requires.room

pub returns-in_err-finished-clause-named : goal.returns-in_err-finished-clause-named
returns-in_err-finished-clause-named g c =
    let allows = g.S.Starter.allows c.args.starter.now in
    let count = job_count c.args.work c.args.settings.now.cpus c.requires.scripts.0 in
    let named = subst (λ n. IsNotStarted allows n c.in_err-finished.field-0.0) count c.in_err-finished.ensures.named in
    err_has (IsNotStarted allows c.args.settings.now.cpus) c.from_residual.result c.in_err-finished.field-0.0 c.from_residual.ensures.1 named

pub returns-clause-allowed : goal.returns-clause-allowed
returns-clause-allowed g c cpu lt =
    let count = job_count c.args.work c.args.settings.now.cpus c.requires.scripts.0 in
    c.in_ok-finished.ensures.allowed cpu (omega (arith, lt, count))

pub join_passes-passes-requires : goal.join_passes-passes-requires
join_passes-passes-requires g c =
    let work = c.args.work in
    let finished = c.in_ok-finished in
    let count : length finished.finished.items ≡ c.args.settings.now.cpus = AllZip-long (λ j f. IsDone IsPassOf view_of_pass work.cells.items j.passes.items j.todos.items f.0.items f.1.items) work.jobs.items finished.finished.items finished.ensures.done
    ∙ job_count work c.args.settings.now.cpus c.requires.scripts.0 in
    let some = c.requires.sizes.cpus.0 in
    let room = c.requires.transcripts in
    let fits = room.1 in
    let each = zip_right {Q = λ f. ArePasses IsPassOf work.cells.items f.0.items} (λ j f d. d.passes) work.jobs.items finished.finished.items finished.ensures.done in
    (lit< tt, (omega (arith, count, some), (subst (λ l. AllByRecursion (λ f. ArePasses IsPassOf l f.0.items) finished.finished.items) (sym c.as_slice.ensures.value) each, (room.0, omega (arith, count, fits)))))

-- all workers did their scripts, and joined
worked : (g : given.Over) (c : After-join_passes-passes g) → AllWorked kernel (cells_for c.args.settings.now) (map view_of_pass c.join_passes-passes.result.0.items) c.args.settings.now.cpus (todos_of c.args.work) (map (λ f. f.1.items) c.in_ok-finished.finished.items)
worked g c =
    let work = c.args.work in
    let finished = c.in_ok-finished in
    let joined = c.join_passes-passes in
    let settings = c.args.settings.now in
    let merged = subst (λ l. ArePasses IsPassOf l joined.result.0.items) c.as_slice.ensures.value joined.ensures.merged in
    let count : length finished.finished.items ≡ settings.cpus = AllZip-long (λ j f. IsDone IsPassOf view_of_pass work.cells.items j.passes.items j.todos.items f.0.items f.1.items) work.jobs.items finished.finished.items finished.ensures.done
    ∙ job_count work settings.cpus c.requires.scripts.0 in
    all_worked IsPassOf view_of_pass settings work.cells.items joined.result.0.items (λ cell p is. p.idle.pass_view) (todos_of work) (map (λ f. f.1.items) finished.finished.items) c.requires.sizes c.requires.scripts
    (sym work.cells.ok.0 ∙ c.requires.cells) (length-map finished.finished.items (λ f. f.1.items) ∙ count) merged
    (all_left IsPassOf view_of_pass settings (todos_of work) work.cells.items (λ j. j.todos.items) (λ j. j.passes.items) (λ j. j.passes.items) work.jobs.items work.jobs.items refl refl c.requires.rows
    (λ f. f.0.items) (λ f. f.1.items) finished.finished.items joined.result.0.items finished.ensures.done joined.ensures.each)

pub close_all-requires : goal.close_all-requires
close_all-requires g c =
    let work = c.args.work in
    let joined = c.join_passes-passes in
    let settings = c.args.settings.now in
    let all = worked g c in
    let transcripts = map (λ f. f.1.items) c.in_ok-finished.finished.items in
    let whole = all_by_place (λ p. OwnsAll (view_of_pass p).caller) joined.result.0.items (λ k p at.
    c.joined_runs_are_sound.ensures.whole (cells_for settings) (map view_of_pass joined.result.0.items) settings.cpus (todos_of work) transcripts all k (view_of_pass p) (map_get view_of_pass joined.result.0.items k p at)) in
    let room = c.requires.logs in
    let fits = room.1 in
    let wide : length work.cells.items ≡ length settings.objects = sym work.cells.ok.0 ∙ c.requires.cells in
    (lit< tt, (subst (λ l. ArePasses IsPassOf l joined.result.0.items) c.as_slice.ensures.value joined.ensures.merged, (whole, (stored_passes view_of_pass settings joined.result.0.items (todos_of work) transcripts c.requires.sizes all, (room.0, omega (arith, wide, fits))))))

-- all that they asked for is in its ranges
asking : (g : given.Over) (c : After-join_passes-passes g) → AllByRecursion (TranscriptAsks (length c.args.settings.now.objects)) (map (λ f. f.1.items) c.in_ok-finished.finished.items)
asking g c =
    let work = c.args.work in
    let finished = c.in_ok-finished in
    let joined = c.join_passes-passes in
    let settings = c.args.settings.now in
    let merged = subst (λ l. ArePasses IsPassOf l joined.result.0.items) c.as_slice.ensures.value joined.ensures.merged in
    let count : length finished.finished.items ≡ settings.cpus = AllZip-long (λ j f. IsDone IsPassOf view_of_pass work.cells.items j.passes.items j.todos.items f.0.items f.1.items) work.jobs.items finished.finished.items finished.ensures.done
    ∙ job_count work settings.cpus c.requires.scripts.0 in
    all_ask IsPassOf view_of_pass settings work.cells.items joined.result.0.items (λ cell p is. p.idle.pass_view) (todos_of work) (map (λ f. f.1.items) finished.finished.items) c.requires.sizes c.requires.scripts
    (sym work.cells.ok.0 ∙ c.requires.cells) (length-map finished.finished.items (λ f. f.1.items) ∙ count) merged
    (all_left IsPassOf view_of_pass settings (todos_of work) work.cells.items (λ j. j.todos.items) (λ j. j.passes.items) (λ j. j.passes.items) work.jobs.items work.jobs.items refl refl c.requires.rows
    (λ f. f.0.items) (λ f. f.1.items) finished.finished.items joined.result.0.items finished.ensures.done joined.ensures.each)

-- the run is what the workers left
is_sound : (g : given.Over) (c : goal.After-from_vec-2 g) → Sound kernel (opened_of c.args.settings.now) (record { logs = c.from_vec.result; transcripts = c.from_vec-2.result })
is_sound g c =
    let joined = c.join_passes-passes in
    let settings = c.args.settings.now in
    let transcripts = map (λ f. f.1.items) c.in_ok-finished.finished.items in
    sound_run view_of_pass settings joined.result.0.items transcripts (record { logs = c.from_vec.result; transcripts = c.from_vec-2.result }) (c.from_vec.ensures ∙ c.close_all.ensures) (c.from_vec-2.ensures ∙ joined.ensures.transcripts)
    (c.joined_runs_are_sound.ensures.sound (cells_for settings) (map view_of_pass joined.result.0.items) settings.cpus (todos_of c.args.work) transcripts (worked g c.before.before.before))

pub returns-clause-sound : goal.returns-clause-sound
returns-clause-sound g c = is_sound g c

pub returns-clause-fits : goal.returns-clause-fits
returns-clause-fits g c =
    let settings = c.args.settings.now in
    let transcripts = map (λ f. f.1.items) c.in_ok-finished.finished.items in
    let run : KernelRun = record { logs = c.from_vec.result; transcripts = c.from_vec-2.result } in
    let are : run.transcripts ≡ transcripts = c.from_vec-2.ensures ∙ c.join_passes-passes.ensures.transcripts in
    let all = worked g c.before.before.before in
    let each : AllByRecursion (TranscriptAsks (length settings.objects)) run.transcripts = subst (λ (l : List (List KernelEntry)). AllByRecursion (TranscriptAsks (length settings.objects)) l) (sym are) (asking g c.before.before.before) in
    let fits : RunFits settings run = c.sound_runs_fit.ensures settings run c.requires.sizes (is_sound g c) (ap length are ∙ all.cpus) each in
    fits

pub returns-clause-asks : goal.returns-clause-asks
returns-clause-asks g c =
    let settings = c.args.settings.now in
    let transcripts = map (λ f. f.1.items) c.in_ok-finished.finished.items in
    let are : c.from_vec-2.result ≡ transcripts = c.from_vec-2.ensures ∙ c.join_passes-passes.ensures.transcripts in
    ap (map (λ entries. map asked_of entries)) are
    ∙ c.joined_runs_are_sound.ensures.asks (cells_for settings) (map view_of_pass c.join_passes-passes.result.0.items) settings.cpus (todos_of c.args.work) transcripts (worked g c.before.before.before)
