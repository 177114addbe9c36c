-- A simulation behind which nothing is left holds all entries; and the world that it begins with is one before its first step.
use Rattle.std.proofs.{Common.{◌≡◌, ◌≤◌, ℕ, suc, Some, List, [], ◌∷◌, ◌++◌, map, length, refl, sym, ◌∙◌, ap, subst, arith}, lemmas.List.{append-nil, length-map}}
use Rattle.std.specs.{Prelude.slice_get, List.AllByRecursion}
use Rattle.event_log.specs.Entries.{asked_of}
use Rattle.event_log.proofs.Each.{each_at}
use Rattle.kernel_object.specs.{declared.call.KParams.KParams, declared.call.KCall.KCall, declared.call.KReply.KReply, declared.object.KernelObject.KernelObject, contracts.object.KernelObjectSeqObject.TheImpl.{ghosts as kernel}, KernelTypes.KernelTodo}
use Rattle.records.specs.{Runs.AsksFor, Settings.{Settings, SettingsFit}}
use Rattle.scripts.specs.ScriptText.{ScriptFits, ScriptsFit}
use Rattle.sound_run.specs.declared.limits.TheConstants.{MOST_CPUS}
use Rattle.sound_run.proofs.Slices.{get_map}
use Rattle.word_rule.proofs.LockLaws.{few_fit}
use Rattle.word_rule.specs.{Machine.Opening.{IsOpening, IsOpeningCell, opening_cpu}, Machine.Rounds.AllDone, Machine.SoundWorld.IsTodo, Machine.World.{CpuState, run}}
use Rattle.cpu_worker.specs.Simulation.{new_cell, new_world, simulated}
use Rattle.cpu_worker.proofs.{Simulations.{able_todos, opening_keeps}, Worlds.{KeepsCpu, run_keeps}}

abbrev KernelCpu : Type 0
KernelCpu = CpuState KernelObject KParams KCall KReply

whole_cpu : (cpu : KernelCpu) (script : List KernelTodo) → KeepsCpu script cpu → cpu.todo ≡ [] → map asked_of cpu.transcript ≡ script
whole_cpu cpu script keeps none = sym (append-nil (map asked_of cpu.transcript)) ∙ (ap (λ l. map asked_of cpu.transcript ++ l) (sym none) ∙ keeps.asks)

whole_all : (cpus : List KernelCpu) (scripts : List (List KernelTodo)) → length cpus ≡ length scripts → ((i : ℕ) (cpu : KernelCpu) (script : List KernelTodo) → slice_get cpus i ≡ Some cpu → slice_get scripts i ≡ Some script → KeepsCpu script cpu)
    → AllByRecursion (λ c. c.todo ≡ []) cpus → map (λ entries. map asked_of entries) (map (λ c. c.transcript) cpus) ≡ scripts
whole_all [] [] count keeps none = refl
whole_all [] (s ∷ scripts) count keeps none = absurd (omega (arith, count))
whole_all (c ∷ cpus) [] count keeps none = absurd (omega (arith, count))
whole_all (c ∷ cpus) (s ∷ scripts) count keeps none =
    let here : map asked_of c.transcript ≡ s = whole_cpu c s (keeps 0 c s refl refl) none.0 in
    let rest : map (λ entries. map asked_of entries) (map (λ c. c.transcript) cpus) ≡ scripts = whole_all cpus scripts (omega (arith, count)) (λ i cpu script p q. keeps (suc i) cpu script p q) none.1 in
    λ j. here j ∷ rest j

module _ (settings : Settings) (scripts : List (List KernelTodo)) where
  -- where nothing is left each CPU has done its script
  pub whole : (steps : List ℕ) → AllDone (run kernel steps (new_world settings scripts)) → AsksFor scripts (simulated settings scripts steps)
  unfolding simulated
  whole steps none =
      let keeps = run_keeps kernel scripts steps (new_world settings scripts) (opening_keeps settings scripts) in
      whole_all (run kernel steps (new_world settings scripts)).cpus scripts keeps.count keeps.each none

  module _ (fit : SettingsFit settings) (all : ScriptsFit settings.cpus (length settings.objects) scripts) where
    pub cpu_count : length (new_world settings scripts).cpus ≡ settings.cpus
    cpu_count = length-map scripts opening_cpu ∙ all.0

    cell_count : length (new_world settings scripts).cells ≡ length settings.objects
    cell_count = length-map settings.objects new_cell

    pub is_opening : IsOpening (new_world settings scripts)
    is_opening = record {
      cells = λ x c e.
          let a = get_map new_cell settings.objects x c e in
          subst (λ k. IsOpeningCell (length (new_world settings scripts).cpus) k) a.2 record { first = 0; fits = few_fit a.0.lock (length (new_world settings scripts).cpus) (subst (λ n. n ≤ MOST_CPUS) (sym cpu_count) fit.cpus.1); free = refl; empty = refl };
      cpus = λ i c e. let a = get_map opening_cpu scripts i c e in subst (λ (k : KernelCpu). k ≡ opening_cpu k.todo) a.2 refl;
      able = λ i c e.
          let a = get_map opening_cpu scripts i c e in
          subst (λ (k : KernelCpu). AllByRecursion (λ t. IsTodo (length (new_world settings scripts).cells) t) k.todo) a.2
          (able_todos (length (new_world settings scripts).cells) (length settings.objects) cell_count a.0 (each_at (ScriptFits (length settings.objects)) scripts i a.0 all.1 a.1).1);
    }
