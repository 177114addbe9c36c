use Rattle.records.proofs.SoundBefore.{as_before}
use Rattle.records.proofs.record.before_quotas.sound_as_before.Goals as goal

pub returns : goal.returns
returns c = as_before c.stays_whole.ensures.opening c.stays_whole.ensures.call c.unlimited_by_full_quotas.ensures.call
