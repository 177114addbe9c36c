use Rattle.std.proofs.{Common.{subst, refl, IsTrue}, lemmas.Bool.false≢true}
use Rattle.scripts.specs.SettingsText.{settings_of, settings_in}
use Rattle.scripts.proofs.SettingsTables.{found_ok, first_fault}
use Rattle.toml.specs.{Parse.parse_document, View.table_view}
use Rattle.scripts.proofs.settings.reading.SettingsReadSettings.read.Goals as goal

pub returns-in-Ok-clause-utf8 : goal.returns-in-Ok-clause-utf8
unfolding settings_of
returns-in-Ok-clause-utf8 c utf8 = rw (c.in-Ok.ensures.ok.1) c.settings.ensures

pub returns-in-Err-2-clause-utf8 : goal.returns-in-Err-2-clause-utf8
unfolding settings_of
returns-in-Err-2-clause-utf8 c utf8 = rw (c.in-Err.ensures.refused (λ memory. false≢true (subst IsTrue c.if-is_memory.false (c.is_memory.ensures.1 memory))) utf8, c.not_toml.ensures) refl

pub returns-in-Err-2-clause-not_utf8 : goal.returns-in-Err-2-clause-not_utf8
unfolding settings_of
returns-in-Err-2-clause-not_utf8 c bad = rw (c.not_toml.ensures) refl

pub returns-in-Ok-clause-found : goal.returns-in-Ok-clause-found
unfolding settings_of
returns-in-Ok-clause-found c = found_ok c.settings.result (settings_in (table_view c.in-Ok.table)) (settings_of (parse_document c.args.text.now)) c.in-Ok.ensures.ok.0 (rw c.in-Ok.ensures.ok.1) c.settings.ensures

pub returns-in-Ok-clause-fault : goal.returns-in-Ok-clause-fault
unfolding settings_of
returns-in-Ok-clause-fault c = first_fault c.settings.result c.args.text.now (settings_in (table_view c.in-Ok.table)) c.in-Ok.ensures.ok.0 (rw c.in-Ok.ensures.ok.1) c.settings.ensures

pub returns-in-Err-2-clause-fault : goal.returns-in-Err-2-clause-fault
unfolding settings_of
returns-in-Err-2-clause-fault c = (returns-in-Err-2-clause-utf8 c, returns-in-Err-2-clause-not_utf8 c)
