-- Scripts, line by line.
use Rattle.std.proofs.{Common.{◌≡◌, ℕ, ◌+◌, ◌<◌, ◌≤◌, ◌==◌, Bool, true, false, List, [], ◌∷◌, ◌++◌, length, refl, sym, ◌∙◌, ap, subst, append_assoc, arith, cond, inl, inr, Some, slice_get, slice_set}, lemmas.List.append-nil, lemmas.Bool.eqb-true, lemmas.List.FromFn.length-map-range_with_len, lemmas.List.Sums.fold-append}
use Rattle.std.specs.List.{AllByRecursion}
use Rattle.kernel_object.specs.KernelTypes.{KernelTodo}
use Rattle.records.specs.{declared.record.TheConstants.MOST_ENTRIES, RecordRanges.TodoFits, Settings.Settings}
use Rattle.scripts.specs.{ScriptText.{Request, IsBlank, AskFor, IsRefused, AreScripts, ScriptFits, ScriptsFit, count_of, script_of, dealt}, ScriptFaults.{ScriptState, TakesLine, TakesScriptLine, IsNotTaken}}
use Rattle.record_lines.specs.LineMachine.{TakesEach}
use Rattle.scripts.proofs.Dealt.{dealt_push, dealt_get, dealt_all, script_length}

count_by_more : (cpu : ℕ) (requests : List Request) (r : Request) → count_of cpu (requests ++ r ∷ []) ≡ count_of cpu requests + cond (r.cpu == cpu) 1 0
count_by_more cpu requests r = fold-append (λ (n : ℕ) (q : Request). n + cond (q.cpu == cpu) 1 0) 0 requests (r ∷ [])

within_more : (requests : List Request) (r : Request) → ((cpu : ℕ) → count_of cpu requests ≤ MOST_ENTRIES) → count_of r.cpu requests < MOST_ENTRIES → (cpu : ℕ) → count_of cpu (requests ++ r ∷ []) ≤ MOST_ENTRIES
within_more requests r within less cpu =
    let go : (b : Bool) → (r.cpu == cpu) ≡ b → count_of cpu requests + cond b 1 0 ≤ MOST_ENTRIES
    = λ b. elim b as (λ v. (r.cpu == cpu) ≡ v → count_of cpu requests + cond v 1 0 ≤ MOST_ENTRIES) [
      | true ↦ (λ e. let same : r.cpu ≡ cpu = eqb-true r.cpu cpu e in let here : count_of cpu requests < MOST_ENTRIES = subst (λ c. count_of c requests < MOST_ENTRIES) same less in omega (arith, here))
      | false ↦ (λ e. omega (arith, within cpu))
    ] in
    rw (count_by_more cpu requests r) (go (r.cpu == cpu) refl)

module _ (settings : Settings) where
  -- the lines ask for these requests behind others, and add them to what was read
  pub record Asked (before : List Request) (lines : List (List ℕ)) (new : ScriptState) : Type 0 where
    pub requests : List Request
    pub asked : AskFor settings lines requests
    pub within : (cpu : ℕ) → count_of cpu (before ++ requests) ≤ MOST_ENTRIES
    pub each : new.lists ≡ dealt settings.cpus (before ++ requests)
    pub same : new.settings ≡ settings

  -- a line that asks for nothing
  blank_asks : (line : List ℕ) (lines : List (List ℕ)) (requests : List Request) → IsBlank line → AskFor settings lines requests → AskFor settings (line ∷ lines) requests
  blank_asks line lines [] blank asked = (blank, asked)
  blank_asks line lines (r ∷ requests) blank asked = inl (blank, asked)

  own_script : (lists : List (List KernelTodo)) (requests : List Request) (cpu : ℕ) (script : List KernelTodo) → lists ≡ dealt settings.cpus requests → cpu < settings.cpus → slice_get lists cpu ≡ Some script → script ≡ script_of cpu requests
  own_script lists requests cpu script each less found =
      let both : Some script ≡ Some (script_of cpu requests) = sym found ∙ (ap (λ l. slice_get l cpu) each ∙ dealt_get settings.cpus cpu requests less) in
      cc

  -- what lines that are taken ask for
  pub each_taken : (lines : List (List ℕ)) (before : List Request) (old new : ScriptState) → old.settings ≡ settings → old.lists ≡ dealt settings.cpus before → ((cpu : ℕ) → count_of cpu before ≤ MOST_ENTRIES) → TakesEach TakesScriptLine lines old new → Asked before lines new
  each_taken [] before old new is each within takes =
      let none : before ≡ before ++ [] = sym (append-nil before) in
      record { requests = []; asked = refl; within = λ cpu. subst (λ l. count_of cpu l ≤ MOST_ENTRIES) none (within cpu); each = ap (λ (s : ScriptState). s.lists) takes ∙ (each ∙ ap (dealt settings.cpus) none); same = ap (λ (s : ScriptState). s.settings) takes ∙ is }
  each_taken (line ∷ lines) before old new is each within takes = elim (subst (λ (s : Settings). TakesLine s line old.lists takes.0.lists) is takes.1.takes) [
    | inl blank ↦
        let rest = each_taken lines before takes.0 new (takes.1.same ∙ is) (blank.1 ∙ each) within takes.2 in
        record { requests = rest.requests; asked = blank_asks line lines rest.requests blank.0 rest.asked; within = rest.within; each = rest.each; same = rest.same }
    | inr more ↦
        let r = more.0 in
        let adds = more.2 in
        let same : adds.script ≡ script_of r.cpu before = own_script old.lists before r.cpu adds.script each more.1.cpu adds.is in
        let room : count_of r.cpu before < MOST_ENTRIES = omega (arith, adds.room, ap length same, script_length r.cpu before) in
        let added : takes.0.lists ≡ dealt settings.cpus (before ++ r ∷ []) = adds.added ∙ (ap (λ l. slice_set l r.cpu (adds.script ++ r.todo ∷ [])) each ∙ (ap (λ s. slice_set (dealt settings.cpus before) r.cpu (s ++ r.todo ∷ [])) same ∙ sym (dealt_push settings.cpus before r more.1.cpu))) in
        let rest = each_taken lines (before ++ r ∷ []) takes.0 new (takes.1.same ∙ is) added (within_more before r within room) takes.2 in
        let all = append_assoc before (r ∷ []) rest.requests in
        record { requests = r ∷ rest.requests; asked = inr (more.1, rest.asked); within = λ cpu. subst (λ l. count_of cpu l ≤ MOST_ENTRIES) all (rest.within cpu); each = rest.each ∙ ap (dealt settings.cpus) all; same = rest.same }
  ]

  -- a line that isn't taken is refused
  pub refused : (line : List ℕ) (lists : List (List KernelTodo)) (requests : List Request) → lists ≡ dealt settings.cpus requests → ((cpu : ℕ) → count_of cpu requests ≤ MOST_ENTRIES) → IsNotTaken settings line lists → IsRefused settings requests line
  refused line lists requests each within bad = record {
    no_blank = bad.no_blank;
    no_room = λ r asked.
        let full = bad.no_room r asked (script_of r.cpu requests) (ap (λ l. slice_get l r.cpu) each ∙ dealt_get settings.cpus r.cpu requests asked.cpu) in
        omega (arith, full, within r.cpu, script_length r.cpu requests);
  }

  -- each request fits
  asked_fit : (lines : List (List ℕ)) (requests : List Request) → AskFor settings lines requests → AllByRecursion (λ r. TodoFits (length settings.objects) r.todo) requests
  asked_fit [] [] h = tt
  asked_fit [] (r ∷ requests) h = absurd cc
  asked_fit (l ∷ lines) [] h = tt
  asked_fit (l ∷ lines) (r ∷ requests) h = elim h [ inl b ↦ asked_fit lines (r ∷ requests) b.1 | inr b ↦ (b.0.todo, asked_fit lines requests b.1) ]

  -- scripts that a text spells fit the settings
  pub scripts_fit : (text : List ℕ) (scripts : List (List KernelTodo)) → AreScripts settings text scripts → ScriptsFit settings.cpus (length settings.objects) scripts
  scripts_fit text scripts are = (
    ap length are.each ∙ length-map-range_with_len (λ cpu. script_of cpu are.requests) 0 settings.cpus,
    subst (λ (l : List (List KernelTodo)). AllByRecursion (ScriptFits (length settings.objects)) l) (sym are.each) (dealt_all (TodoFits (length settings.objects)) MOST_ENTRIES settings.cpus are.requests (asked_fit are.spelled.lines are.requests are.spelled.asked) are.spelled.within),
  )
