-- Scripts within all limits are within those of the settings where each entry's object is one of theirs.
use Rattle.std.specs.{Cmp.Derive.both_true, List.{list_all, AllByRecursion}}
use Rattle.std.proofs.{Common.{◌≡◌, ◌≤◌, ℕ, true, nat_lt, List, [], ◌∷◌, refl, arith}, lemmas.Bool.{and_parts, ltb-true, lt-ltb}}
use Rattle.event_log.proofs.Each.{all_map}
use Rattle.kernel_object.specs.KernelTypes.{KernelTodo}
use Rattle.scripts.specs.ScriptText.{ScriptFits}
use Rattle.records.specs.RecordRanges.{TodoFits}

module _ (n : ℕ) where
  todos_fit : (m : ℕ) (script : List KernelTodo) → AllByRecursion (TodoFits m) script → list_all (λ t. nat_lt t.object n) script ≡ true → AllByRecursion (TodoFits n) script
  todos_fit m [] all on = tt
  todos_fit m (t ∷ script) all on =
      let parts = and_parts (nat_lt t.object n) (list_all (λ u. nat_lt u.object n) script) on in
      (record { object = ltb-true t.object n parts.0; some = all.0.some; few = all.0.few; calls = all.0.calls }, todos_fit m script all.1 parts.1)

  todos_on : (script : List KernelTodo) → AllByRecursion (TodoFits n) script → list_all (λ t. nat_lt t.object n) script ≡ true
  todos_on [] all = refl
  todos_on (t ∷ script) all = both_true (lt-ltb t.object n all.0.object) (todos_on script all.1)

  pub scripts_fit : (m : ℕ) (scripts : List (List KernelTodo)) → AllByRecursion (ScriptFits m) scripts → list_all (λ s. list_all (λ t. nat_lt t.object n) s) scripts ≡ true → AllByRecursion (ScriptFits n) scripts
  scripts_fit m [] all on = tt
  scripts_fit m (s ∷ scripts) all on =
      let parts = and_parts (list_all (λ t. nat_lt t.object n) s) (list_all (λ u. list_all (λ t. nat_lt t.object n) u) scripts) on in
      ((all.0.0, todos_fit m s all.0.1 parts.0), scripts_fit m scripts all.1 parts.1)

  pub scripts_on : (scripts : List (List KernelTodo)) → AllByRecursion (ScriptFits n) scripts → list_all (λ s. list_all (λ t. nat_lt t.object n) s) scripts ≡ true
  scripts_on [] all = refl
  scripts_on (s ∷ scripts) all = both_true (todos_on s all.0.1) (scripts_on scripts all.1)

-- what is within the settings is within all limits
module _ (n m : ℕ) (le : n ≤ m) where
  todos_within : (script : List KernelTodo) → AllByRecursion (TodoFits n) script → AllByRecursion (TodoFits m) script
  todos_within script all = all_map (λ t h. record { object = omega (arith, h.object, le); some = h.some; few = h.few; calls = h.calls }) script all

  pub scripts_within : (scripts : List (List KernelTodo)) → AllByRecursion (ScriptFits n) scripts → AllByRecursion (ScriptFits m) scripts
  scripts_within scripts all = all_map (λ s h. (h.0, todos_within s h.1)) scripts all
