-- What every step of the machine keeps: what a CPU did and what it has left are its script, and looks are counted.
use Rattle.std.proofs.{Common.{◌≡◌, ℕ, ◌+◌, ◌-◌, ◌<◌, ◌^◌, ◌==◌, min, Bool, true, false, cond, Option, Some, None, List, [], ◌∷◌, ◌++◌, map, length, length-set, refl, sym, ◌∙◌, ap, subst, append_assoc, arith}, lemmas.Bool.{eqb-true, eqb-false}, lemmas.List.map-append}
use Rattle.std.specs.{Prelude.{slice_get, slice_set}, List.AllByRecursion}
use Rattle.event_log.proofs.Each.{all_push}
use Rattle.event_log.specs.{declared.object.SeqObject.Ghosts, declared.entry.Entry.Entry, declared.entry.Done.Done, declared.entry.Todo.Todo, Entries.asked_of}
use Rattle.sound_run.proofs.Slices.{get_set_same, get_set_other}
use Rattle.word_rule.specs.{declared.machine.step_done.StepDone.StepDone, Locks.{Lock, turn}, StepKinds.{ends_hold, is_look}, Machine.World.{World, CellState, CpuState, counted, entry_of, finished, cpu_after, outcome, world_after, step_on, step_of, step_by, step, run}}

looks_fit : (looks : ℕ) (s : StepDone) → looks < 2 ^ 64 → counted looks s < 2 ^ 64
looks_fit looks s less = go (is_look s)
  where
    go : (b : Bool) → cond b (min (looks + 1) (2 ^ 64 - 1)) looks < 2 ^ 64
    go true = omega arith
    go false = less

module _ {O P C R : Type 0} where
  -- what the CPU did and what it has left are the script
  pub record KeepsCpu (script : List (Todo O P C R)) (cpu : CpuState O P C R) : Type 0 where
    pub asks : map asked_of cpu.transcript ++ cpu.todo ≡ script
    pub looks : cpu.looks < 2 ^ 64
    pub counted : AllByRecursion (λ e. e.looks < 2 ^ 64) cpu.transcript

  -- each CPU's script is kept
  pub record Keeps (scripts : List (List (Todo O P C R))) (w : World O P C R) : Type 0 where
    pub count : length w.cpus ≡ length scripts
    pub each : (i : ℕ) (cpu : CpuState O P C R) (script : List (Todo O P C R)) → slice_get w.cpus i ≡ Some cpu → slice_get scripts i ≡ Some script → KeepsCpu script cpu

  finished_keeps : (script : List (Todo O P C R)) (cpu : CpuState O P C R) (todo : Todo O P C R) (more : List (Todo O P C R)) (d : Done O P C R) → cpu.todo ≡ todo ∷ more → KeepsCpu script cpu → KeepsCpu script (finished cpu todo d)
  finished_keeps script cpu todo more d is keeps =
      let e : Entry O P C R = entry_of todo d cpu.looks in
      let left : (finished cpu todo d).todo ≡ more = ap left_of is in
      let asked : map asked_of (cpu.transcript ++ e ∷ []) ≡ map asked_of cpu.transcript ++ todo ∷ [] = map-append asked_of cpu.transcript (e ∷ []) in
      record {
        asks = ap (λ l. l ++ (finished cpu todo d).todo) asked ∙ (ap (λ l. (map asked_of cpu.transcript ++ todo ∷ []) ++ l) left ∙ (append_assoc (map asked_of cpu.transcript) (todo ∷ []) more ∙ (ap (λ l. map asked_of cpu.transcript ++ l) (sym is) ∙ keeps.asks)));
        looks = omega arith;
        counted = all_push (λ f. f.looks < 2 ^ 64) cpu.transcript e keeps.counted keeps.looks;
      }
    where
      left_of : List (Todo O P C R) → List (Todo O P C R)
      left_of [] = []
      left_of (x ∷ xs) = xs

  cpu_keeps : (script : List (Todo O P C R)) (cpu : CpuState O P C R) (todo : Todo O P C R) (more : List (Todo O P C R)) (s : StepDone) (d : Done O P C R) → cpu.todo ≡ todo ∷ more → KeepsCpu script cpu → KeepsCpu script (cpu_after cpu todo s d)
  cpu_keeps script cpu todo more s d is keeps = go (ends_hold s)
    where
      go : (b : Bool) → KeepsCpu script (cond b (finished cpu todo d) (record cpu { looks = counted cpu.looks s }))
      go true = finished_keeps script cpu todo more d is keeps
      go false = record { asks = keeps.asks; looks = looks_fit cpu.looks s keeps.looks; counted = keeps.counted }

  -- another state of a CPU that keeps the script
  set_keeps : (scripts : List (List (Todo O P C R))) (w : World O P C R) (i : ℕ) (old new : CpuState O P C R) (cells : List (CellState O P C R)) → slice_get w.cpus i ≡ Some old → ((script : List (Todo O P C R)) → KeepsCpu script old → KeepsCpu script new)
      → Keeps scripts w → Keeps scripts (record { cells = cells; cpus = slice_set w.cpus i new })
  set_keeps scripts w i old new cells at better keeps = record {
    count = length-set w.cpus i new ∙ keeps.count;
    each = λ j cpu script here there. go j cpu script (j == i) refl here there;
  }
    where
      go : (j : ℕ) (cpu : CpuState O P C R) (script : List (Todo O P C R)) (b : Bool) → (j == i) ≡ b → slice_get (slice_set w.cpus i new) j ≡ Some cpu → slice_get scripts j ≡ Some script → KeepsCpu script cpu
      go j cpu script true e here there =
          let same : j ≡ i = eqb-true j i e in
          let both : Some new ≡ Some cpu = sym (get_set_same w.cpus i new old at) ∙ (ap (λ k. slice_get (slice_set w.cpus i new) k) (sym same) ∙ here) in
          let one : new ≡ cpu = cc in
          subst (KeepsCpu script) one (better script (keeps.each j old script (ap (λ k. slice_get w.cpus k) same ∙ at) there))
      go j cpu script false e here there = keeps.each j cpu script (sym (get_set_other w.cpus i j new (λ s. eqb-false j i e (sym s))) ∙ here) there

module _ {O P C R : Type 0} (meaning : Ghosts O P C R) (scripts : List (List (Todo O P C R))) where
  step_keeps : (w : World O P C R) (i : ℕ) → Keeps scripts w → Keeps scripts (step meaning w i).0
  step_keeps w i keeps = by (slice_get w.cpus i) refl
    where
      on : (cpu : CpuState O P C R) (todo : Todo O P C R) (more : List (Todo O P C R)) → cpu.todo ≡ todo ∷ more → slice_get w.cpus i ≡ Some cpu → (o : Option (CellState O P C R)) → Keeps scripts (step_on meaning w i cpu todo o).0
      on cpu todo more is at None = keeps
      on cpu todo more is at (Some c) =
          let t : Lock × StepDone = turn c.lock i in
          let d : Done O P C R = outcome meaning c.opened c.log todo.calls.items in
          set_keeps scripts w i cpu (cpu_after cpu todo t.1 d) (world_after meaning w i c cpu todo t).cells at (λ script k. cpu_keeps script cpu todo more t.1 d is k) keeps

      of : (cpu : CpuState O P C R) (todos : List (Todo O P C R)) → cpu.todo ≡ todos → slice_get w.cpus i ≡ Some cpu → Keeps scripts (step_of meaning w i cpu todos).0
      of cpu [] is at = keeps
      of cpu (todo ∷ more) is at = on cpu todo more is at (slice_get w.cells todo.object)

      by : (o : Option (CpuState O P C R)) → slice_get w.cpus i ≡ o → Keeps scripts (step_by meaning w i o).0
      by None at = keeps
      by (Some cpu) at = of cpu cpu.todo refl at

  pub run_keeps : (steps : List ℕ) (w : World O P C R) → Keeps scripts w → Keeps scripts (run meaning steps w)
  run_keeps [] w keeps = keeps
  run_keeps (i ∷ steps) w keeps = run_keeps steps (step meaning w i).0 (step_keeps w i keeps)
