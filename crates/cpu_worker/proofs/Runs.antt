-- What the workers of all CPUs leave on the cells of the settings.
use Rattle.std.proofs.{Common.{◌≡◌, ℕ, ◌<◌, ◌≤◌, ◌^◌, List, [], length, map, sym, ◌∙◌, ap, subst, arith, slice_get, Some}, lemmas.List.{append-nil, length-map}, lemmas.Simd.map-map, lemmas.Option.slice_get_within}
use Rattle.std.specs.List.{AllByRecursion, AllZip}
use Rattle.event_log.specs.{Entries.asked_of, declared.logged.TheConstants.MOST_EVENTS}
use Rattle.event_log.proofs.{Each.{all_map, each_at}, Lists.some_at}
use Rattle.kernel_object.specs.{declared.call.KParams.KParams, contracts.object.KernelObjectSeqObject.TheImpl.{ghosts as kernel}, KernelTypes.{KernelEntry, KernelTodo, KernelRun}}
use Rattle.guarded_cell.specs.{Workers.{ArePasses, HasDone, opened_of_cell}, Runs.{EachJoins, Worked, AllWorked, run_left}}
use Rattle.guarded_cell.proofs.Workers.{views_of}
use Rattle.records.specs.{Runs.{TranscriptAsks, opened_of}, RecordRanges.TodoFits, Settings.{Settings, SettingsFit, ObjectFits}}
use Rattle.scripts.specs.ScriptText.{ScriptFits, ScriptsFit}
use Rattle.kernel_words.specs.declared.form.TheConstants.{WRITTEN}
use Rattle.records.proofs.SoundRanges.{all_at as all_by_place}
use Rattle.word_rule.specs.{Cell.{EachAt, IsPassView, opening_pass}, Machine.SoundWorld.IsTodo}
use Rattle.sound_run.specs.Sound.{Opened, Sound}
use Rattle.word_rule.proofs.Openings.{zip_at}
use Rattle.sound_run.proofs.Slices.{get_map, map_get}
use Rattle.cpu_worker.proofs.Simulations.{asks_each}
use Rattle.cpu_worker.specs.{Opening.{IsRow, cell_for, cells_for}, Work.{FixedCell, KernelView, IsReady, IsDone}}

-- entries in their ranges can be done on as many cells
pub able : (objects cells : ℕ) → cells ≡ objects → (todos : List KernelTodo) → AllByRecursion (TodoFits objects) todos → AllByRecursion (λ t. IsTodo cells t) todos
able objects cells same todos fit = all_map (λ t h. record { some = h.some; few = h.few; on_cell = let o = h.object in omega (arith, same, o) }) todos fit

-- a transcript that asked for a script in its ranges
module _ (objects : ℕ) where
  asks : (entries : List KernelEntry) (todos : List KernelTodo) → map asked_of entries ≡ todos → ScriptFits objects todos → AllByRecursion (λ e. e.looks < 2 ^ 64) entries → TranscriptAsks objects entries
  asks entries todos is fit looks = let wide = length-map entries asked_of in let long = ap length is in let few = fit.0 in (omega (arith, wide, long, few), asks_each objects entries [] todos (append-nil (map asked_of entries) ∙ is) fit.1 looks)

module _ {T S : Type 0} (is_pass_of : T → S → Type 0) (pass_view : S → KernelView) (settings : Settings) (opened : List T) (passes : List S) where
  -- the worker of CPU k began with new cells, did its script, and its passes were joined to the last ones
  pub record Left (k : ℕ) (todos : List KernelTodo) (entries : List KernelEntry) : Type 0 where
    pub row : List S
    pub after : List S
    pub begun : IsRow is_pass_of pass_view (cells_for settings) opened k row
    pub done : IsDone is_pass_of pass_view opened row todos after entries
    pub joins : EachJoins (map pass_view after) (map pass_view passes)

  module _ (law : (c : T) (p : S) → is_pass_of c p → IsPassView kernel (pass_view p)) (scripts : List (List KernelTodo)) (transcripts : List (List KernelEntry)) (sizes : SettingsFit settings) (fit : ScriptsFit settings.cpus (length settings.objects) scripts) (wide : length opened ≡ length settings.objects) (count : length transcripts ≡ settings.cpus)
      (merged : ArePasses is_pass_of opened passes) (left : (k : ℕ) (todos : List KernelTodo) (entries : List KernelEntry) → slice_get scripts k ≡ Some todos → slice_get transcripts k ≡ Some entries → Left k todos entries) where
    abbrev pub cells : List FixedCell
    cells = cells_for settings

    worked : (k : ℕ) (todos : List KernelTodo) (entries : List KernelEntry) → slice_get scripts k ≡ Some todos → slice_get transcripts k ≡ Some entries → Worked kernel cells (map pass_view passes) k todos entries
    worked k todos entries a b =
        let l = left k todos entries a b in
        record {
          after = map pass_view l.after;
          able = able (length settings.objects) (length cells) (length-map settings.objects (cell_for settings.cpus)) todos (each_at (ScriptFits (length settings.objects)) scripts k todos fit.1 a).1;
          done = subst (λ v. HasDone kernel v todos entries (map pass_view l.after)) l.begun.views l.done.done;
          joins = l.joins;
        }

    opened_for : (x : ℕ) (c : FixedCell) → slice_get cells x ≡ Some c → (c.opening ≡ []) × (c.numbers ≡ settings.cpus)
    opened_for x c e = let o = get_map (cell_for settings.cpus) settings.objects x c e in (ap (λ (d : FixedCell). d.opening) (sym o.2), ap (λ (d : FixedCell). d.numbers) (sym o.2))

    -- the last passes are of the cells: so says the first CPU's worker
    of_cells : (x : ℕ) (c : FixedCell) (j : KernelView) → slice_get cells x ≡ Some c → slice_get (map pass_view passes) x ≡ Some j → j.caller.cell ≡ c
    of_cells x c j a b =
        let some = sizes.cpus.0 in
        let long = fit.0 in
        let todos = some_at scripts 0 (omega (arith, some, long)) in
        let entries = some_at transcripts 0 (omega (arith, some, count)) in
        let w = worked 0 todos.0 entries.0 todos.1 entries.1 in
        let within = slice_get_within cells x c a in
        let afters : length w.after ≡ length cells = w.done.count ∙ length-map cells (λ d. opening_pass d 0) in
        let after = some_at w.after x (omega (arith, within, afters)) in
        let done = w.done.each x (opening_pass c 0) after.0 (map_get (λ d. opening_pass d 0) cells x c a) after.1 in
        (w.joins x after.0 j after.1 b).cell ∙ ap (λ d. d.cell) done.caller

    pub all_worked : AllWorked kernel cells (map pass_view passes) settings.cpus scripts transcripts
    all_worked = record {
      cpus = count;
      long = fit.0;
      objects = length-map passes pass_view ∙ (merged.count ∙ (wide ∙ sym (length-map settings.objects (cell_for settings.cpus))));
      empty = λ x c e. (opened_for x c e).0;
      numbers = λ x c e. (opened_for x c e).1;
      views = views_of kernel is_pass_of pass_view law opened passes merged;
      of_cells = of_cells;
      each = worked;
    }

    -- all that was asked for is in its ranges
    pub all_ask : AllByRecursion (TranscriptAsks (length settings.objects)) transcripts
    all_ask = all_by_place (TranscriptAsks (length settings.objects)) transcripts (λ k entries e.
        let within = slice_get_within transcripts k entries e in
        let long = fit.0 in
        let todos = some_at scripts k (omega (arith, within, count, long)) in
        let w = worked k todos.0 entries todos.1 e in
        asks (length settings.objects) entries todos.0 w.done.asked (each_at (ScriptFits (length settings.objects)) scripts k todos.0 fit.1 todos.1) w.done.looks)

-- jobs, which each have a script of the list and a row of passes, and what became of each
module _ {T S J R : Type 0} (is_pass_of : T → S → Type 0) (pass_view : S → KernelView) (settings : Settings) (scripts : List (List KernelTodo)) (opened : List T) (todos_in : J → List KernelTodo) (passes_in : J → List S) (row_in : R → List S) (jobs : List J) (rows : List R)
    (scripts_are : map todos_in jobs ≡ scripts) (rows_are : map passes_in jobs ≡ map row_in rows) (begun : EachAt (λ k r. IsRow is_pass_of pass_view (cells_for settings) opened k (row_in r)) rows) where
  -- the passes of a job
  pub begins : (k : ℕ) (j : J) → slice_get jobs k ≡ Some j → IsRow is_pass_of pass_view (cells_for settings) opened k (passes_in j)
  begins k j at =
      let r = get_map row_in rows k (passes_in j) (ap (λ l. slice_get l k) (sym rows_are) ∙ map_get passes_in jobs k j at) in
      subst (IsRow is_pass_of pass_view (cells_for settings) opened k) r.2 (begun k r.0 r.1)

  pub all_ready : (transcript_in : J → List KernelEntry) (capacity_in : J → ℕ) → ScriptsFit settings.cpus (length settings.objects) scripts → length opened ≡ length settings.objects → AllByRecursion (λ j. (transcript_in j ≡ []) × (length (todos_in j) ≤ capacity_in j)) jobs
      → AllByRecursion (λ j. IsReady is_pass_of opened (passes_in j) (todos_in j) (transcript_in j) (capacity_in j)) jobs
  all_ready transcript_in capacity_in fit wide room = all_by_place (λ j. IsReady is_pass_of opened (passes_in j) (todos_in j) (transcript_in j) (capacity_in j)) jobs (λ k j at.
      let there : slice_get scripts k ≡ Some (todos_in j) = ap (λ l. slice_get l k) (sym scripts_are) ∙ map_get todos_in jobs k j at in
      let fits = each_at (ScriptFits (length settings.objects)) scripts k (todos_in j) fit.1 there in
      let has = each_at (λ i. (transcript_in i ≡ []) × (length (todos_in i) ≤ capacity_in i)) jobs k j room at in
      record { passes = (begins k j at).passes; able = able (length settings.objects) (length opened) wide (todos_in j) fits.1; few = fits.0; empty = has.0; room = has.1 })

  module _ {F : Type 0} (after_in : F → List S) (entries_in : F → List KernelEntry) (finished : List F) (passes : List S) (done : AllZip (λ j f. IsDone is_pass_of pass_view opened (passes_in j) (todos_in j) (after_in f) (entries_in f)) jobs finished)
      (joins : AllByRecursion (λ f. EachJoins (map pass_view (after_in f)) (map pass_view passes)) finished) where
    pub all_left : (k : ℕ) (todos : List KernelTodo) (entries : List KernelEntry) → slice_get scripts k ≡ Some todos → slice_get (map entries_in finished) k ≡ Some entries → Left is_pass_of pass_view settings opened passes k todos entries
    all_left k todos entries a b =
        let j = get_map todos_in jobs k todos (ap (λ l. slice_get l k) scripts_are ∙ a) in
        let f = get_map entries_in finished k entries b in
        let d = zip_at (λ j f. IsDone is_pass_of pass_view opened (passes_in j) (todos_in j) (after_in f) (entries_in f)) jobs finished k j.0 f.0 done j.1 f.1 in
        record {
          row = passes_in j.0;
          after = after_in f.0;
          begun = begins k j.0 j.1;
          done = subst (λ t. IsDone is_pass_of pass_view opened (passes_in j.0) t (after_in f.0) entries) j.2 (subst (λ e. IsDone is_pass_of pass_view opened (passes_in j.0) (todos_in j.0) (after_in f.0) e) f.2 d);
          joins = each_at (λ f. EachJoins (map pass_view (after_in f)) (map pass_view passes)) finished k f.0 joins f.1;
        }

-- the run that is handed out is the one that was left
module _ {S : Type 0} (pass_view : S → KernelView) (settings : Settings) (passes : List S) (transcripts : List (List KernelEntry)) (run : KernelRun) (logs_are : run.logs ≡ map (λ p. (pass_view p).seen) passes) (transcripts_are : run.transcripts ≡ transcripts) where
  pub sound_run : Sound kernel (map opened_of_cell (cells_for settings)) (run_left (map pass_view passes) transcripts) → Sound kernel (opened_of settings) run
  sound_run sound =
      let objects : map opened_of_cell (cells_for settings) ≡ opened_of settings = map-map opened_of_cell (cell_for settings.cpus) settings.objects in
      let logs : map (λ (j : KernelView). j.seen) (map pass_view passes) ≡ run.logs = map-map (λ (j : KernelView). j.seen) pass_view passes ∙ sym logs_are in
      let is : ◌≡◌ {A = KernelRun} (run_left (map pass_view passes) transcripts) run = λ i. record { logs = logs i; transcripts = sym transcripts_are i } in
      subst (λ (l : List (Opened KParams)). Sound kernel l run) objects (subst (λ (r : KernelRun). Sound kernel (map opened_of_cell (cells_for settings)) r) is sound)

-- the logs of the settings' objects lie in memory
pub stored_passes : {S : Type 0} (pass_view : S → KernelView) (settings : Settings) (passes : List S) (scripts : List (List KernelTodo)) (transcripts : List (List KernelEntry))
    → SettingsFit settings → AllWorked kernel (cells_for settings) (map pass_view passes) settings.cpus scripts transcripts → AllByRecursion (λ p. (pass_view p).caller.cell.limit ≤ MOST_EVENTS) passes
stored_passes pass_view settings passes scripts transcripts fit all = all_by_place (λ p. (pass_view p).caller.cell.limit ≤ MOST_EVENTS) passes (λ k p at.
    let o = some_at settings.objects k (omega (arith, all.objects, length-map passes pass_view, length-map settings.objects (cell_for settings.cpus), slice_get_within passes k p at)) in
    let is = all.of_cells k (cell_for settings.cpus o.0) (pass_view p) (map_get (cell_for settings.cpus) settings.objects k o.0 o.1) (map_get pass_view passes k p at) in
    let fits = each_at (ObjectFits WRITTEN) settings.objects k o.0 fit.each o.1 in
    subst (λ (c : FixedCell). c.limit ≤ MOST_EVENTS) (sym is) fits.events.1)
