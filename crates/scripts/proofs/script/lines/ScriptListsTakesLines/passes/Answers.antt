use Rattle.std.proofs.Common.{subst}
use Rattle.scripts.specs.ScriptFaults.{ScriptState}
use Rattle.records.specs.Settings.{SettingsFit}
use Rattle.scripts.proofs.ScriptTexts.{passes_exactly}
use Rattle.scripts.proofs.script.lines.ScriptListsTakesLines.passes.Goals as goal

pub returns-clause-exactly : goal.returns-clause-exactly
returns-clause-exactly c =
    let fits = subst (λ (s : ScriptState). SettingsFit s.settings) c.self.view_is c.self.invariant.1 in
    passes_exactly c.args.self.now fits c.args.first
