use Rattle.std.proofs.{Common.{◌<◌, subst, arith}, lemmas.Bool.ltb-true}
use Rattle.scripts.specs.ScriptFaults.{ScriptState}
use Rattle.records.specs.Settings.{SettingsFit}
use Rattle.scripts.proofs.ScriptTexts.{long_refused}
use Rattle.scripts.proofs.script.lines.ScriptListsTakesLines.is_too_long.Goals as goal

pub returns-then-first-ne35-clause-refused : goal.returns-then-first-ne35-clause-refused
returns-then-first-ne35-clause-refused c = λ over rest enough.
    let fits = subst (λ (s : ScriptState). SettingsFit s.settings) c.self.view_is c.self.invariant.1 in
    let long : 1024 < c.args.count = ltb-true 1024 c.args.count over in
    long_refused c.args.self.now fits c.args.first rest c.if-first-ne35.true (omega (arith, enough, long))
