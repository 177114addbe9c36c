-- A CPU's step is idle exactly where its script is done, in every run from an opening world.
use Rattle.std.proofs.{Common.{◌≡◌, ◌↔◌, ℕ, ◌<◌, true, false, true≢false, List, [], ◌∷◌, length, slice_get, Option, Some, None, refl, sym, ap, ◌∙◌, subst}, lemmas.Option.slice_get_within}
use Rattle.std.specs.List.{AllByRecursion}
use Rattle.event_log.specs.{declared.object.SeqObject.Ghosts, declared.entry.Todo.Todo}
use Rattle.event_log.proofs.Lists.{some_at}
use Rattle.word_rule.specs.{Locks.{IsLock, Lock, turn}, Machine.Opening.IsOpening, Machine.SoundWorld.IsTodo, Machine.World.{World, CellState, CpuState, step, step_by, step_of, step_on, run}}
use Rattle.word_rule.proofs.{LockInterface.{NoneTries, is_idle}, LockLaws.{begins, turn_acts, turn_whole}, Openings.opening_sound, Orders.{Keeps, AreLocks, IsCell, locks_run, same_cpus}, SoundSteps.sound_run, TurnsKeep.locks_keep}
use Rattle.word_rule.specs.declared.machine.step_done.StepDone.TheVariants as steps

-- a lock for n CPUs, of which none is trying
abbrev pub IsWholeLock : ℕ → Lock → Type 0
IsWholeLock n l = IsLock n l × NoneTries l.line.stage

pub whole_keeps : Keeps IsWholeLock
whole_keeps = record {
  turned = λ n l i h below. let t = locks_keep.turned n l i h.0 below in ((t.0, turn_whole l i h.1), t.1);
  few = λ n l h. locks_keep.few n l h.0;
}

module _ {O P C R : Type 0} (meaning : Ghosts O P C R) (w : World O P C R) (o : IsOpening w) where
  pub free : AreLocks IsWholeLock whole_keeps meaning w
  free = λ x. by x (slice_get w.cells x) refl
    where
      by : (x : ℕ) (q : Option (CellState O P C R)) → slice_get w.cells x ≡ q → IsCell IsWholeLock whole_keeps meaning (length w.cpus) q
      by x None e = tt
      by x (Some c) e = let a = o.cells x c e in subst (λ l. IsWholeLock (length w.cpus) l) (sym a.free) (begins (length w.cpus) a.first c.lock.kind a.fits, λ y. refl)

  module _ (is : List ℕ) (i : ℕ) (cpu : CpuState O P C R) (there : slice_get (run meaning is w).cpus i ≡ Some cpu) where
    abbrev pub v : World O P C R
    v = run meaning is w

    stepped : step meaning v i ≡ step_of meaning v i cpu cpu.todo
    stepped = ap (λ q. step_by meaning v i q) there

    below : i < length w.cpus
    below = subst (λ n. i < n) (same_cpus IsWholeLock whole_keeps meaning is w free) (slice_get_within v.cpus i cpu there)

    on_cell : (todo : Todo O P C R) (c : CellState O P C R) → slice_get v.cells todo.object ≡ Some c → is_idle (turn c.lock i).1 ≡ false
    on_cell todo c e =
        let n : ℕ = length v.cpus in
        let h : IsWholeLock n c.lock = subst (λ (q : Option (CellState O P C R)). IsCell IsWholeLock whole_keeps meaning n q) e (locks_run IsWholeLock whole_keeps meaning is w free todo.object) in
        turn_acts n c.lock h.0 i (slice_get_within v.cpus i cpu there) (h.1 i)

    busy : (todos : List (Todo O P C R)) → cpu.todo ≡ todos → AllByRecursion (λ t. IsTodo (length v.cells) t) todos → is_idle (step_of meaning v i cpu todos).1 ≡ true → todos ≡ []
    busy [] e able idle = refl
    busy (todo ∷ more) e able idle =
        let c = some_at v.cells todo.object able.0.on_cell in
        absurd (true≢false (sym idle ∙ (ap (λ q. is_idle (step_on meaning v i cpu todo q).1) c.1 ∙ on_cell todo c.0 c.1)))

    pub idle_done : ((step meaning v i).1 ≡ steps.Idle) ↔ (cpu.todo ≡ [])
    idle_done = (
      λ idle. busy cpu.todo refl ((sound_run meaning is w (opening_sound meaning w o)).able i cpu there) (sym (ap (λ r. is_idle r.1) stepped) ∙ ap is_idle idle),
      λ done. ap (λ r. r.1) (stepped ∙ ap (λ todos. step_of meaning v i cpu todos) done),
    )
