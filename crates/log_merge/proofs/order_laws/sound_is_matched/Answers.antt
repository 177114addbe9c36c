use Rattle.log_merge.proofs.Matched.{matched_of_sound}
use Rattle.log_merge.proofs.order_laws.sound_is_matched.Goals as goal

pub returns : goal.returns
returns g c = λ objects run sound. matched_of_sound g.O.SeqObject objects run sound
