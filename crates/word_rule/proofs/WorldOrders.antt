-- Every step keeps an order of a world's entries: one that comes to an end comes last.
use Rattle.std.proofs.{Common.{◌≡◌, ◌≢◌, ℕ, ◌==◌, Bool, true, false, cond, List, [], ◌∷◌, ◌++◌, length, slice_get, Option, Some, None, refl, sym, ap, ◌∙◌, subst, append_assoc}, Math.ListN.set, lemmas.List.{append-nil, map-set}, lemmas.Bool.eqb-false}
use Rattle.event_log.specs.{declared.object.SeqObject.Ghosts, declared.event.Event.Event, declared.event.Steps.Steps, declared.entry.Done.Done, declared.entry.Entry.Entry, declared.entry.Todo.Todo, declared.entry.Run.Run, Log.{answers, replay}}
use Rattle.event_log.proofs.Each.{each_at}
use Rattle.word_rule.specs.{declared.machine.step_done.StepDone.StepDone, Locks.{Lock, turn}, StepKinds.ends_hold, Machine.Opening.IsOpening, Machine.Orders.ended, Machine.SoundWorld.{entries_of, entries_by, SoundWorld}, Machine.World.{World, CellState, CpuState, with_done, entry_of, finished, counted, outcome, world_after, step_on, step_of, step_by, step, run, run_of}}
use Rattle.sound_run.specs.{declared.place.Place.Place, Orders.{entry_at, IsOrder}, Sound.Answers}
use Rattle.word_rule.proofs.{Openings.{opening_sound, opening_order}, OrderedRuns.order_more, SoundRuns.transcript_is, SoundSteps.sound_step}
use Rattle.sound_run.proofs.Slices.{map_get, map_set, one_of}
use Rattle.event_log.specs.declared.entry.Done.TheVariants as done

module _ {O P C R : Type 0} (meaning : Ghosts O P C R) where
  -- what becomes of calls isn't NoRoom where the log isn't full
  not_full : (opened : _) (log : List (Event O P C R)) (calls : List C) (s : Steps O P C R) → outcome meaning opened log calls ≡ done.Steps s → length log ≢ opened.limit
  not_full opened log calls s = by (length log == opened.limit) refl
    where
      steps_now : Steps O P C R
      steps_now = record { list = record { items = answers meaning (replay meaning opened.params log) calls } }

      by : (b : Bool) → (length log == opened.limit) ≡ b → cond b done.NoRoom (done.Steps steps_now) ≡ done.Steps s → length log ≢ opened.limit
      by true e is = cc
      by false e is = eqb-false (length log) opened.limit e

  module _ (w : World O P C R) (h : SoundWorld meaning w) (i : ℕ) (c : CellState O P C R) (cpu : CpuState O P C R) (todo : Todo O P C R) (cell_is : slice_get w.cells todo.object ≡ Some c) (cpu_is : slice_get w.cpus i ≡ Some cpu) (places : List Place) (order : IsOrder (run_of w) places) where
    abbrev d : Done O P C R
    d = outcome meaning c.opened c.log todo.calls.items

    abbrev e : Entry O P C R
    e = entry_of todo d cpu.looks

    log_there : slice_get (run_of w).logs todo.object ≡ Some c.log
    log_there = map_get (λ (c : CellState O P C R). c.log) w.cells todo.object c cell_is

    entries_there : slice_get (run_of w).transcripts i ≡ Some cpu.transcript
    entries_there = map_get (λ (c : CpuState O P C R). c.transcript) w.cpus i cpu cpu_is

    mine : entries_by i w ≡ cpu.transcript
    mine = ap (λ (o : Option (CpuState O P C R)). entries_of o) cpu_is

    -- who found a log full didn't find this one full
    room : (s : Steps O P C R) → d ≡ done.Steps s → (q : Place) (f : Entry O P C R) → entry_at (run_of w) q ≡ Some f → f.done ≡ done.NoRoom → todo.object ≢ f.object
    room s is q f at none same =
        let a = each_at _ (entries_by q.cpu w) q.entry f (h.answers q.cpu) (ap (λ l. slice_get l q.entry) (sym (transcript_is meaning w h q.cpu)) ∙ at) in
        let one : a.cell ≡ c = one_of a.cell c (slice_get w.cells todo.object) (ap (λ k. slice_get w.cells k) same ∙ a.there) cell_is in
        let full : length a.cell.log ≡ a.cell.opened.limit = subst (λ d. Answers meaning a.cell.opened a.cell.log f.asked d) none a.answers in
        not_full c.opened c.log todo.calls.items s is (subst (λ (k : CellState O P C R). length k.log ≡ k.opened.limit) one full)

    order_after : (lock : Lock) (s : StepDone) → IsOrder (run_of (world_after meaning w i c cpu todo (lock, s))) (places ++ cond (ends_hold s) (record { cpu = i; entry = length (entries_by i w) } ∷ []) [])
    order_after lock s = by (ends_hold s)
      where
        by : (b : Bool) → IsOrder (run_of (record {
          cells = set w.cells todo.object (record { opened = c.opened; lock = lock; log = cond b (with_done i c.log d) c.log });
          cpus = set w.cpus i (cond b (finished cpu todo d) (record { todo = cpu.todo; transcript = cpu.transcript; looks = counted cpu.looks s }));
        })) (places ++ cond b (record { cpu = i; entry = length (entries_by i w) } ∷ []) [])
        by true =
            let logs = map-set (λ (c : CellState O P C R). c.log) w.cells todo.object (record { opened = c.opened; lock = lock; log = with_done i c.log d }) in
            let transcripts = map-set (λ (c : CpuState O P C R). c.transcript) w.cpus i (finished cpu todo d) in
            let more = order_more (run_of w) i e c.log cpu.transcript log_there entries_there places order room in
            subst (λ (z : Run O P C R × ℕ). IsOrder z.0 (places ++ record { cpu = i; entry = z.1 } ∷ [])) (λ j. (record { logs = sym logs j; transcripts = sym transcripts j }, length (sym mine j))) more
        by false =
            let logs = map_set (λ (c : CellState O P C R). c.log) w.cells todo.object (record { opened = c.opened; lock = lock; log = c.log }) c cell_is refl in
            let transcripts = map_set (λ (c : CpuState O P C R). c.transcript) w.cpus i (record { todo = cpu.todo; transcript = cpu.transcript; looks = counted cpu.looks s }) cpu cpu_is refl in
            subst (λ (z : Run O P C R × List Place). IsOrder z.0 z.1) (λ j. (record { logs = sym logs j; transcripts = sym transcripts j }, sym (append-nil places) j)) order

  -- a step adds the entry that it brings to its end
  pub order_step : (w : World O P C R) (i : ℕ) → SoundWorld meaning w → (places : List Place) → IsOrder (run_of w) places → IsOrder (run_of (step meaning w i).0) (places ++ cond (ends_hold (step meaning w i).1) (record { cpu = i; entry = length (entries_by i w) } ∷ []) [])
  order_step w i h places order = by_cpu (slice_get w.cpus i) refl
    where
      idle : IsOrder (run_of w) (places ++ [])
      idle = subst (IsOrder (run_of w)) (sym (append-nil places)) order

      by_cell : (cpu : CpuState O P C R) → slice_get w.cpus i ≡ Some cpu → (todo : Todo O P C R) → (o : Option (CellState O P C R)) → slice_get w.cells todo.object ≡ o
          → IsOrder (run_of (step_on meaning w i cpu todo o).0) (places ++ cond (ends_hold (step_on meaning w i cpu todo o).1) (record { cpu = i; entry = length (entries_by i w) } ∷ []) [])
      by_cell cpu at todo None g = idle
      by_cell cpu at todo (Some c) g = order_after w h i c cpu todo g at places order (turn c.lock i).0 (turn c.lock i).1

      by_todo : (cpu : CpuState O P C R) → slice_get w.cpus i ≡ Some cpu → (todos : List (Todo O P C R))
          → IsOrder (run_of (step_of meaning w i cpu todos).0) (places ++ cond (ends_hold (step_of meaning w i cpu todos).1) (record { cpu = i; entry = length (entries_by i w) } ∷ []) [])
      by_todo cpu at [] = idle
      by_todo cpu at (todo ∷ more) = by_cell cpu at todo (slice_get w.cells todo.object) refl

      by_cpu : (o : Option (CpuState O P C R)) → slice_get w.cpus i ≡ o → IsOrder (run_of (step_by meaning w i o).0) (places ++ cond (ends_hold (step_by meaning w i o).1) (record { cpu = i; entry = length (entries_by i w) } ∷ []) [])
      by_cpu None at = idle
      by_cpu (Some cpu) at = by_todo cpu at cpu.todo

  -- a schedule adds the entries that it brings to their ends, in order
  pub order_run : (is : List ℕ) (w : World O P C R) → SoundWorld meaning w → (places : List Place) → IsOrder (run_of w) places → IsOrder (run_of (run meaning is w)) (places ++ ended meaning is w)
  order_run [] w h places order = subst (IsOrder (run_of w)) (sym (append-nil places)) order
  order_run (i ∷ is) w h places order =
      let now = cond (ends_hold (step meaning w i).1) (record { cpu = i; entry = length (entries_by i w) } ∷ []) [] in
      subst (IsOrder (run_of (run meaning is (step meaning w i).0))) (append_assoc places now (ended meaning is (step meaning w i).0)) (order_run is (step meaning w i).0 (sound_step meaning w i h) (places ++ now) (order_step w i h places order))

  -- from the first step on
  pub order_from : (w : World O P C R) → IsOpening w → (schedule : List ℕ) → IsOrder (run_of (run meaning schedule w)) (ended meaning schedule w)
  order_from w o schedule = order_run schedule w (opening_sound meaning w o) [] (opening_order meaning w o)
