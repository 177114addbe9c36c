use Rattle.std.proofs.{Common.{◌≡◌, ℕ, ◌+◌, ◌<◌, ◌++◌, cond, List, drop, get_or, length, length-set, map, slice_get, Some, sym, ap, subst, ◌∙◌, rules, string_bytes}, lemmas.List.{append-nil, drop_all, length-map}}
use Rattle.std.specs.{Borrow.Bor, List.AllByRecursion}
use Rattle.sound_run.proofs.Slices.{read_get}
use Rattle.kernel_object.specs.{contracts.object.KernelObjectSeqObject.TheImpl.{ghosts as kernel}, KernelTypes.KernelTodo}
use Rattle.word_rule.specs.{declared.machine.step_done.StepDone.StepDone, Machine.Opening.opening_cpu, Machine.Orders.{first_cell, works_on}, Machine.Shown.Represents, Machine.World.{left, step}, Replay.entries_left, StepKinds.ends_hold}
use Rattle.cpu_worker.specs.Simulation.{KernelWorld, new_world}
use Rattle.steps.specs.Lines.{line_of, lines_from, steps_text}
use Rattle.steps.proofs.Left.{all_left, is_below, left_behind, left_of, line_more, works}
use Rattle.steps.proofs.lines.lines.Goals as goal

pub loop-place-init : goal.loop-place-init
unfolding steps_text
loop-place-init c =
    let settings = c.args.settings.now in
    let scripts = c.args.scripts.now in
    let lists = c.in_ok-left.left.items in
    record {
      world = new_world settings scripts;
      shows = subst (λ (s : List (List KernelTodo)). Represents kernel c.in_ok-machine.machine (new_world settings s)) c.in_ok-copy.ensures c.in_ok-machine.ensures.shows;
      opened = c.in_ok-machine.ensures.opened;
      cpus = c.in_ok-machine.ensures.cpus;
      count = sym (length-map lists (λ l. l.now)) ∙ (ap length c.in_ok-left.ensures ∙ c.requires.scripts.0);
      each = λ j. all_left lists j ∙ ap (λ (s : List (List KernelTodo)). entries_left (slice_get (map opening_cpu s) j)) c.in_ok-left.ensures;
      lines = ap (λ (b : List ℕ). b ++ lines_from settings 1 c.steps-cpu-items.result.now (new_world settings scripts)) c.new-text.ensures.bytes
          ∙ ap (λ (s : List ℕ). lines_from settings 1 s (new_world settings scripts)) c.steps-cpu-items.ensures.steps;
    }

pub loop-place-preserved : goal.loop-place-preserved
loop-place-preserved c =
    let i = c.loop-place.invariant in
    let settings = c.args.settings.now in
    let items = c.steps-cpu-items.result.now in
    let n = c.loop-place.place in
    let cpu = get_or items n 0 in
    let w : KernelWorld = i.world in
    let v : KernelWorld = (step kernel w cpu).0 in
    let lists = c.loop-place.left.items in
    let old : Bor (List KernelTodo) = c.index-todos.result.now in
    let below = is_below settings.cpus items n (subst (λ (s : List ℕ). AllByRecursion (λ i. i < settings.cpus) s) (sym c.steps-cpu-items.ensures.steps) c.requires.schedule) c.loop-place-test.true in
    let within : cpu < length lists = subst (λ m. cpu < m) (sym i.count) below in
    let here : slice_get lists cpu ≡ Some old = read_get lists cpu old within c.index-todos.ensures in
    let done : c.step-done.result ≡ (step kernel w cpu).1 = c.step-done.ensures.done w i.shows in
    let shows : Represents kernel c.step-done.new.self v = c.step-done.ensures.shows w i.shows in
    let goes = c.left_after.ensures ∙ ap (λ (d : StepDone). cond (ends_hold d) (left old.now) old.now) done in
    let object : c.object_of-object.result ≡ works_on (slice_get w.cpus cpu) = c.object_of-object.ensures ∙ (ap first_cell (left_of w cpu lists i.each old here) ∙ works (slice_get w.cpus cpu)) in
    let reported : string_bytes c.put_line.new.text ≡ string_bytes c.loop-place.text ++ line_of settings (n + 1) cpu c.object_of-object.result c.step-done.result v = search rules in
    let line = ap (λ o. line_of settings (n + 1) cpu o c.step-done.result v) object ∙ ap (λ (d : StepDone). line_of settings (n + 1) cpu (works_on (slice_get w.cpus cpu)) d v) done in
    record {
      world = v;
      shows = shows;
      opened = c.step-done.ensures.opened ∙ i.opened;
      cpus = ap length c.step-done.ensures.scripts ∙ i.cpus;
      count = length-set lists cpu c.left_after.result ∙ i.count;
      each = left_behind w cpu lists i.each old c.left_after.result here goes;
      lines = ap (λ (b : List ℕ). b ++ lines_from settings (n + 1 + 1) (drop (n + 1) items) v) (reported ∙ ap (λ (l : List ℕ). string_bytes c.loop-place.text ++ l) line)
          ∙ line_more settings items n w (string_bytes c.loop-place.text) _ c.loop-place-test.true i.lines;
    }

pub returns : goal.returns
returns c =
    let i = c.loop-place.invariant in
    let items = c.steps-cpu-items.result.now in
    sym (append-nil (string_bytes c.loop-place.text))
    ∙ (sym (ap (λ (s : List ℕ). string_bytes c.loop-place.text ++ lines_from c.args.settings.now (c.loop-place.place + 1) s i.world) (drop_all c.loop-place.place items c.loop-place-test.false)) ∙ i.lines)
