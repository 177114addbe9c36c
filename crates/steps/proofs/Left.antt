-- What is left of each script, step by step, and the lines of the steps.
use Rattle.std.proofs.{Common.{◌≡◌, ℕ, zero, suc, ◌+◌, ◌<◌, cond, List, [], ◌∷◌, ◌++◌, map, length, get_or, slice_get, drop, Some, None, Option, refl, sym, ap, ◌∙◌, subst, arith, append_assoc}, Math.ListN.set, lemmas.List.drop_more}
use mathlib.Core.Logic.{dite}
use native.Mathlib.Decide.{ℕ_discrete}
use Rattle.std.specs.{Borrow.Bor, List.AllByRecursion, Option.option_map_or}
use Rattle.kernel_object.specs.{contracts.object.KernelObjectSeqObject.TheImpl.{ghosts as kernel}, KernelTypes.KernelTodo}
use Rattle.records.specs.Settings.{Settings}
use Rattle.sound_run.proofs.Slices.{get_set_same, get_set_other}
use Rattle.word_rule.specs.{Machine.Opening.opening_cpu, Machine.Orders.{first_cell, works_on}, Machine.World.{CpuState, left, step}, Replay.entries_left, StepKinds.ends_hold}
use Rattle.word_rule.proofs.WorldSteps.{cpus_stepped, left_to}
use Rattle.cpu_worker.specs.Simulation.{KernelWorld}
use Rattle.steps.specs.Lines.{line_of, lines_from}

-- what is left of script j
abbrev pub left_at : List (Bor (List KernelTodo)) → ℕ → List KernelTodo
left_at lists j = option_map_or (λ l. l.now) (slice_get lists j) []

-- at the start that is all of it
pub all_left : (lists : List (Bor (List KernelTodo))) (j : ℕ) → left_at lists j ≡ entries_left (slice_get (map opening_cpu (map (λ l. l.now) lists)) j)
all_left [] j = refl
all_left (l ∷ lists) zero = refl
all_left (l ∷ lists) (suc j) = all_left lists j

-- the object on which a CPU works is that of the first entry that is left
pub works : {O P C R : Type 0} (cpu : Option (CpuState O P C R)) → first_cell (entries_left cpu) ≡ works_on cpu
works None = refl
works (Some cpu) = refl

module _ (w : KernelWorld) (i : ℕ) (lists : List (Bor (List KernelTodo))) (each : (j : ℕ) → left_at lists j ≡ left_to j w) where
  -- what is left of the script of a CPU
  pub left_of : (old : Bor (List KernelTodo)) → slice_get lists i ≡ Some old → old.now ≡ left_to i w
  left_of old here = sym (ap (λ (o : Option (Bor (List KernelTodo))). option_map_or (λ l. l.now) o []) here) ∙ each i

  -- and behind its step
  pub left_behind : (old new : Bor (List KernelTodo)) → slice_get lists i ≡ Some old → new.now ≡ cond (ends_hold (step kernel w i).1) (left old.now) old.now → (j : ℕ) → left_at (set lists i new) j ≡ left_to j (step kernel w i).0
  left_behind old new here goes j = dite (ℕ_discrete j i)
      (λ is. subst (λ k. left_at (set lists i new) k ≡ left_to k (step kernel w i).0) (sym is)
      (ap (λ (o : Option (Bor (List KernelTodo))). option_map_or (λ l. l.now) o []) (get_set_same lists i new old here)
      ∙ (goes ∙ (ap (λ l. cond (ends_hold (step kernel w i).1) (left l) l) (left_of old here) ∙ sym (cpus_stepped kernel w i).own))))
      (λ ne. ap (λ (o : Option (Bor (List KernelTodo))). option_map_or (λ l. l.now) o []) (get_set_other lists i j new (λ e. ne (sym e))) ∙ (each j ∙ sym ((cpus_stepped kernel w i).others j ne)))

-- each word of a schedule is a CPU
pub is_below : (cpus : ℕ) (steps : List ℕ) (n : ℕ) → AllByRecursion (λ cpu. cpu < cpus) steps → n < length steps → get_or steps n 0 < cpus
is_below cpus [] n each less = absurd (omega (arith, less))
is_below cpus (i ∷ steps) zero each less = each.0
is_below cpus (i ∷ steps) (suc n) each less = is_below cpus steps n each.1 (omega (arith, less))

-- the line of the next step, and those that are left
pub line_more : (settings : Settings) (steps : List ℕ) (n : ℕ) (w : KernelWorld) (text whole : List ℕ) → n < length steps → text ++ lines_from settings (n + 1) (drop n steps) w ≡ whole
    → (text ++ line_of settings (n + 1) (get_or steps n 0) (works_on (slice_get w.cpus (get_or steps n 0))) (step kernel w (get_or steps n 0)).1 (step kernel w (get_or steps n 0)).0) ++ lines_from settings (n + 1 + 1) (drop (n + 1) steps) (step kernel w (get_or steps n 0)).0 ≡ whole
line_more settings steps n w text whole less so_far =
    append_assoc text _ (lines_from settings (n + 1 + 1) (drop (n + 1) steps) (step kernel w (get_or steps n 0)).0)
    ∙ (ap (λ l. text ++ lines_from settings (n + 1) l w) (sym (drop_more steps n 0 less)) ∙ so_far)
