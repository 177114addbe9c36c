-- The shape of an entry.
use Rattle.std.specs.Prelude.{Bool, true, false}
use Rattle.event_log.specs.{declared.entry.Done.Done, declared.entry.Entry.Entry}
use Rattle.log_merge.specs.declared.run_shape.EntryShape.{EntryShape}
use Rattle.event_log.specs.declared.entry.Done.TheVariants as done

module _ {O P C R : Type 0} where
  -- whether an entry was done
  abbrev pub has_steps : Done O P C R → Bool
  has_steps (done.Steps s) = true
  has_steps done.NoRoom = false

  -- its object, and whether it was done
  abbrev pub shape_of : Entry O P C R → EntryShape
  shape_of e = record { object = e.object; is_done = has_steps e.done }
