use Rattle.std.proofs.Common.{sym, ap, ◌∙◌}
use Rattle.scripts.specs.SettingsText.{keys_of}
use Rattle.scripts.proofs.settings.kinds.keys_of.Goals as goal

pub returns-in-Queue : goal.returns-in-Queue
returns-in-Queue c = c.keys.ensures ∙ ap keys_of (sym c.in-Queue.is)

pub returns-in-Pool : goal.returns-in-Pool
returns-in-Pool c = c.keys-in-Pool.ensures ∙ ap keys_of (sym c.in-Pool.is)

pub returns-in-Console : goal.returns-in-Console
returns-in-Console c = c.keys-in-Console.ensures ∙ ap keys_of (sym c.in-Console.is)

pub returns-in-Sched : goal.returns-in-Sched
returns-in-Sched c = c.keys-in-Sched.ensures ∙ ap keys_of (sym c.in-Sched.is)
