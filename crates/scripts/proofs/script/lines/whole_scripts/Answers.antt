use Rattle.std.proofs.Common.{ℕ, List, sym, subst, ◌∙◌, ap}
use Rattle.kernel_object.specs.KernelTypes.{KernelTodo}
use Rattle.scripts.specs.{ScriptFaults.{ScriptState, no_entries}, ScriptText.{AreScripts, ScriptsWithin, IsFirstBad}}
use Rattle.records.specs.Settings.{SettingsFit}
use Rattle.scripts.proofs.ScriptTexts.{whole_taken, within_all, rest_is_bad}
use Rattle.scripts.proofs.script.lines.whole_scripts.Goals as goal

pub of-requires : goal.of-requires
of-requires c =
    let takes = c.is_whole.ensures.whole (no_entries c.requires.0) c.requires.1 c.requires.2 c.if-not-is_whole.false in
    let fits = subst (λ (s : ScriptState). SettingsFit s.settings) c.into_lines.ensures c.into_lists.ensures.fit in
    subst (λ (l : List (List KernelTodo)). ScriptsWithin l) (sym (c.into_lists.ensures.lists ∙ ap (λ (s : ScriptState). s.lists) c.into_lines.ensures))
    (within_all c.requires.0 c.requires.1 c.args.pieces.lines c.args.pieces.number fits takes)

pub returns-clause-found : goal.returns-clause-found
returns-clause-found c = λ settings text h.
    let takes = c.is_whole.ensures.whole (no_entries settings) text h c.if-not-is_whole.false in
    subst (λ (l : List (List KernelTodo)). AreScripts settings text l) (sym (c.of.ensures ∙ (c.into_lists.ensures.lists ∙ ap (λ (s : ScriptState). s.lists) c.into_lines.ensures)))
    (whole_taken settings text c.args.pieces.lines c.args.pieces.number takes)

pub returns-then-not-is_whole-clause-fault : goal.returns-then-not-is_whole-clause-fault
returns-then-not-is_whole-clause-fault c = λ settings text h.
    subst (λ (n : ℕ). IsFirstBad settings text n) (sym c.number.ensures)
    (rest_is_bad settings text h.unended c.args.pieces.lines c.args.pieces.number h.taken h.no_end (c.is_whole.ensures.unended (no_entries settings) text h c.if-not-is_whole.true))
