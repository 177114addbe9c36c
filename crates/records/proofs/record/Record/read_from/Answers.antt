use Rattle.std.proofs.Common.{sym, subst}
use Rattle.records.specs.RecordSources.{SpellsRecord}
use Rattle.kernel_words.specs.declared.form.Form.TheVariants.{One}
use Rattle.records.proofs.{RecordSources.{spells_one, refused_unread}, SoundBefore.sound_given}
use Rattle.records.proofs.record.Record.read_from.Goals as goal

pub returns-in-Ok-clause-found : goal.returns-in-Ok-clause-found
returns-in-Ok-clause-found g c = subst (SpellsRecord _) (sym c.from_lists.ensures) c.in-Ok.ensures.found

pub returns-in-Ok-clause-only : goal.returns-in-Ok-clause-only
returns-in-Ok-clause-only g c = λ form r fit e. spells_one _ _ form r (returns-in-Ok-clause-found g c) fit e

pub returns-in-Err-clause-only : goal.returns-in-Err-clause-only
returns-in-Err-clause-only g c = λ form r fit e. refused_unread _ _ form r c.in-Err.ensures.fault fit e

pub returns-in-Ok-clause-sound_as_before : goal.returns-in-Ok-clause-sound_as_before
returns-in-Ok-clause-sound_as_before g c = λ r fit e was. sound_given _ r (spells_one _ _ One r (returns-in-Ok-clause-found g c) fit e) ((c.sound_as_before.ensures r fit).1 was)
