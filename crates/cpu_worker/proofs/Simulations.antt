-- A simulation asks for beginnings of the scripts, and is made of the world before the first step.
use Rattle.std.proofs.{Common.{◌≡◌, ℕ, suc, ◌+◌, ◌<◌, ◌^◌, Some, List, [], ◌∷◌, ◌++◌, map, length, refl, sym, ◌∙◌, ap, subst, arith, length-append, Vec, Global}, lemmas.List.length-map, lemmas.Simd.map-map}
use Rattle.std.specs.{Prelude.slice_get, List.{AllByRecursion, AllZip}}
use Rattle.event_log.proofs.Beginnings.{begins_append}
use Rattle.event_log.specs.{Log.Begins, Entries.asked_of}
use Rattle.kernel_object.specs.{declared.call.KParams.KParams, declared.call.KCall.KCall, declared.call.KReply.KReply, declared.object.KernelObject.KernelObject, contracts.object.KernelObjectSeqObject.TheImpl.{ghosts as kernel}, KernelTypes.{KernelEntry, KernelTodo, KernelRun}}
use Rattle.records.specs.{Runs.{AsksFirst, EntryAsks, TranscriptAsks}, RecordRanges.TodoFits, Settings.{Settings, ObjectSettings}}
use Rattle.scripts.specs.ScriptText.{ScriptFits, ScriptsFit}
use Rattle.sound_run.specs.Sound.{Opened}
use Rattle.sound_run.proofs.Slices.{get_map, one_of}
use Rattle.word_rule.specs.{Machine.Opening.opening_cpu, Machine.SoundWorld.IsTodo, Machine.World.{CpuState, run}}
use Rattle.cpu_worker.specs.Simulation.{KernelWorld, new_world, simulated}
use Rattle.cpu_worker.proofs.Worlds.{Keeps, KeepsCpu, run_keeps}

abbrev KernelCpu : Type 0
KernelCpu = CpuState KernelObject KParams KCall KReply

-- nothing was done of the scripts
pub opening_keeps : (settings : Settings) (scripts : List (List KernelTodo)) → Keeps scripts (new_world settings scripts)
opening_keeps settings scripts = record {
  count = length-map scripts opening_cpu;
  each = λ i cpu script here there.
      let opened = get_map opening_cpu scripts i cpu here in
      let same : opened.0 ≡ script = one_of opened.0 script (slice_get scripts i) opened.1 there in
      subst (KeepsCpu script) opened.2 (record { asks = same; looks = omega arith; counted = tt });
}

-- ---- what a world that keeps the scripts hands out

module _ (objects : ℕ) where
  pub asks_each : (entries : List KernelEntry) (todo : List KernelTodo) (script : List KernelTodo) → map asked_of entries ++ todo ≡ script → AllByRecursion (TodoFits objects) script → AllByRecursion (λ e. e.looks < 2 ^ 64) entries → AllByRecursion (EntryAsks objects) entries
  asks_each [] todo script is fit looks = tt
  asks_each (e ∷ entries) todo [] is fit looks = absurd cc
  asks_each (e ∷ entries) todo (t ∷ script) is fit looks =
      let head : asked_of e ≡ t = cc in
      let tail : map asked_of entries ++ todo ≡ script = cc in
      (record { todo = subst (TodoFits objects) (sym head) fit.0; looks = looks.0 }, asks_each entries todo script tail fit.1 looks.1)

  asks_script : (cpu : KernelCpu) (script : List KernelTodo) → KeepsCpu script cpu → ScriptFits objects script → Begins (map asked_of cpu.transcript) script × TranscriptAsks objects cpu.transcript
  asks_script cpu script keeps fit =
      let total : length (map asked_of cpu.transcript) + length cpu.todo ≡ length script = sym (length-append (map asked_of cpu.transcript) cpu.todo) ∙ ap length keeps.asks in (
        subst (λ (l : List KernelTodo). Begins (map asked_of cpu.transcript) l) keeps.asks (begins_append (map asked_of cpu.transcript) cpu.todo),
        (omega (arith, total, length-map cpu.transcript asked_of, fit.0), asks_each cpu.transcript cpu.todo script keeps.asks fit.1 keeps.counted),
      )

  asks_all : (cpus : List KernelCpu) (scripts : List (List KernelTodo)) → length cpus ≡ length scripts → ((i : ℕ) (cpu : KernelCpu) (script : List KernelTodo) → slice_get cpus i ≡ Some cpu → slice_get scripts i ≡ Some script → KeepsCpu script cpu)
      → AllByRecursion (ScriptFits objects) scripts
      → AllZip (λ entries script. Begins (map asked_of entries) script) (map (λ c. c.transcript) cpus) scripts × AllByRecursion (TranscriptAsks objects) (map (λ c. c.transcript) cpus)
  asks_all [] [] count keeps fit = (tt, tt)
  asks_all [] (s ∷ scripts) count keeps fit = absurd (omega (arith, count))
  asks_all (c ∷ cpus) [] count keeps fit = absurd (omega (arith, count))
  asks_all (c ∷ cpus) (s ∷ scripts) count keeps fit =
      let here = asks_script c s (keeps 0 c s refl refl) fit.0 in
      let rest = asks_all cpus scripts (omega (arith, count)) (λ i cpu script p q. keeps (suc i) cpu script p q) fit.1 in
      ((here.0, rest.0), (here.1, rest.1))

-- what a simulation hands out
pub record Asks (settings : Settings) (scripts : List (List KernelTodo)) (done : KernelRun) : Type 0 where
  pub count : length done.transcripts ≡ settings.cpus
  pub first : AsksFirst scripts done
  pub each : AllByRecursion (TranscriptAsks (length settings.objects)) done.transcripts

pub simulated_asks : (settings : Settings) (scripts : List (List KernelTodo)) (steps : List ℕ) → ScriptsFit settings.cpus (length settings.objects) scripts → Asks settings scripts (simulated settings scripts steps)
unfolding simulated
simulated_asks settings scripts steps fit =
    let w : KernelWorld = run kernel steps (new_world settings scripts) in
    let keeps = run_keeps kernel scripts steps (new_world settings scripts) (opening_keeps settings scripts) in
    let both = asks_all (length settings.objects) w.cpus scripts keeps.count keeps.each fit.1 in
    record { count = length-map w.cpus (λ c. c.transcript) ∙ (keeps.count ∙ fit.0); first = both.0; each = both.1 }

-- each CPU's list, as its script
pub opened_cpus : (lists : List (Vec KernelTodo Global)) (scripts : List (List KernelTodo)) → map (λ l. l.items) lists ≡ scripts → map (λ (l : Vec KernelTodo Global). opening_cpu l.items) lists ≡ map opening_cpu scripts
opened_cpus lists scripts is = sym (map-map opening_cpu (λ l. l.items) lists) ∙ ap (map opening_cpu) is

-- what an object of the settings is opened with
abbrev pub object_opened : ObjectSettings → Opened KParams
object_opened o = record { params = o.params; limit = o.events }

-- entries in their ranges can be done
module _ (m n : ℕ) (same : m ≡ n) where
  pub able_todos : (todos : List KernelTodo) → AllByRecursion (TodoFits n) todos → AllByRecursion (λ t. IsTodo m t) todos
  able_todos [] all = tt
  able_todos (t ∷ todos) all = (record { some = all.0.some; few = all.0.few; on_cell = omega (arith, same, all.0.object) }, able_todos todos all.1)

  pub able_lists : (lists : List (Vec KernelTodo Global)) → AllByRecursion (ScriptFits n) (map (λ l. l.items) lists) → AllByRecursion (λ s. AllByRecursion (λ t. IsTodo m t) s.items) lists
  able_lists [] all = tt
  able_lists (l ∷ lists) all = (able_todos l.items all.0.1, able_lists lists all.1)
