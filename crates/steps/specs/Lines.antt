-- What is printed: a line for each step of the schedule.
use Rattle.std.specs.{Prelude.{ℕ, ◌+◌, ◌/◌, ◌%◌, List, [], ◌∷◌, ◌++◌, length, take, drop, codes, decimal, Option, Some, None, slice_get}, List.flat_map}
use Rattle.kernel_object.specs.{contracts.object.KernelObjectSeqObject.TheImpl.{ghosts as kernel}, KernelTypes.KernelTodo}
use Rattle.word_rule.specs.{Labels.{WordLabels, labels_of}, Locks.lock_words, Machine.Orders.works_on, Machine.World.step, StepNames.{name_of, outcome_of}, Ticket.State.tickets, declared.machine.step_done.StepDone.StepDone}
use Rattle.records.specs.Settings.{Settings, ObjectSettings}
use Rattle.cpu_worker.specs.Simulation.{KernelWorld, MachineCell, new_world}

-- the numbers, each behind a space
abbrev pub spaced : List ℕ → List ℕ
spaced numbers = flat_map (λ n. codes " " ++ decimal n) numbers

-- groups of so many words, each behind its label
abbrev pub groups_text : ℕ → List (List ℕ) → List ℕ → List ℕ
groups_text cpus [] ws = []
groups_text cpus (g ∷ gs) ws = codes " " ++ (g ++ (spaced (take cpus ws) ++ groups_text cpus gs (drop cpus ws)))

-- ` next N serving S` at a ticket lock, and ` tail T next N .. locked L ..` at an MCS lock, a number for each CPU
abbrev pub lock_text : WordLabels → ℕ → List ℕ → List ℕ
lock_text labels cpus [] = []
lock_text (WordLabels.halves high low) cpus (w ∷ ws) = codes " " ++ (high ++ (codes " " ++ (decimal (w / tickets) ++ (codes " " ++ (low ++ (codes " " ++ decimal (w % tickets)))))))
lock_text (WordLabels.groups first others) cpus (w ∷ ws) = codes " " ++ (first ++ (codes " " ++ (decimal w ++ groups_text cpus others ws)))

-- the outcome behind a space, if there is one
abbrev pub outcome_text : List ℕ → List ℕ
outcome_text [] = []
outcome_text (b ∷ bs) = 32 ∷ b ∷ bs

-- `N cpu C NAME KIND OUTCOME | WORDS`
abbrev pub line_at : ℕ → ℕ → ℕ → StepDone → List ℕ → ObjectSettings → List ℕ
line_at cpus n cpu done words o = decimal n ++ (codes " cpu " ++ (decimal cpu ++ (codes " " ++ (o.name ++ (codes " " ++ (name_of done ++ (outcome_text (outcome_of done) ++ (codes " |" ++ (lock_text (labels_of o.lock) cpus words ++ codes "\n")))))))))

-- `N cpu C idle`
abbrev pub line_alone : ℕ → ℕ → StepDone → List ℕ
line_alone n cpu done = decimal n ++ (codes " cpu " ++ (decimal cpu ++ (codes " " ++ (name_of done ++ codes "\n"))))

-- the words of the lock of that cell, if there is one
abbrev pub words_in : ℕ → Option MachineCell → List ℕ
words_in cpus None = []
words_in cpus (Some c) = lock_words cpus c.lock

-- the line of a step at object x of the settings, if there is such an object; the step leaves that world
abbrev pub line_if : Settings → ℕ → ℕ → ℕ → Option ObjectSettings → StepDone → KernelWorld → List ℕ
line_if settings n cpu x None done w = line_alone n cpu done
line_if settings n cpu x (Some o) done w = line_at settings.cpus n cpu done (words_in (length w.cpus) (slice_get w.cells x)) o

-- the line of step n, by the object on which the CPU worked
abbrev pub line_of : Settings → ℕ → ℕ → Option ℕ → StepDone → KernelWorld → List ℕ
line_of settings n cpu None done w = line_alone n cpu done
line_of settings n cpu (Some x) done w = line_if settings n cpu x (slice_get settings.objects x) done w

-- the lines of the steps from step n on: what the step machine answers to each, and the words of the lock behind it
abbrev pub lines_from : Settings → ℕ → List ℕ → KernelWorld → List ℕ
lines_from settings n [] w = []
lines_from settings n (i ∷ is) w = line_of settings n i (works_on (slice_get w.cpus i)) (step kernel w i).1 (step kernel w i).0 ++ lines_from settings (n + 1) is (step kernel w i).0

-- the lines of a whole schedule, from the world with which `sim` begins
unfoldable pub steps_text : Settings → List (List KernelTodo) → List ℕ → List ℕ
steps_text settings scripts steps = lines_from settings 1 steps (new_world settings scripts)
