-- Why a try did nothing, and what its caller has then.
use Rattle.event_log.specs.declared.object.SeqObject.{Ghosts}
use Rattle.word_rule.specs.{Cell.PassView, Answered.{IsBusy, IsRefused}}
use Rattle.guarded_cell.specs.{declared.tries.Declined.Declined, declared.tries.Declined.TheVariants.{Busy, NoRoom}}

-- the object was another's, or a full log was seen
abbrev pub IsDeclined : {O P C R : Type 0} → Ghosts O P C R → Declined → PassView O P C R → PassView O P C R → Type 0
IsDeclined meaning Busy before after = IsBusy before after
IsDeclined meaning NoRoom before after = IsRefused meaning before after
