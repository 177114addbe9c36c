-- How entries take events, one after the other.
use Rattle.std.specs.Prelude.{◌≡◌, ◌≢◌, ◌⊎◌, ℕ, ◌+◌, ◌<◌, ◌≤◌, List, length, Result, Ok, Err, Some, slice_get}
use Rattle.arrayvec.specs.ArrayVec.{ArrayVec}
use Rattle.event_log.specs.{declared.object.SeqObject.Ghosts, declared.event.Event.Event, declared.entry.Done.Done, declared.entry.Entry.Entry, Log.Fulfils}
use Rattle.sound_run.specs.Sound.{steps_by}
use Rattle.auditor.specs.{NextEvents.IsAt, declared.fault.Fault.Fault}
use Rattle.event_log.specs.declared.entry.Done.TheVariants as done
use Rattle.auditor.specs.declared.fault.Fault.TheVariants as fault

module _ {O P C R : Type 0} where
  -- how many events were taken, after what became of one entry more
  abbrev pub taken : ℕ → Done O P C R → ℕ
  taken k (done.Steps s) = k + 1
  taken k done.NoRoom = k

module _ {O P C R : Type 0} (meaning : Ghosts O P C R) (cpu limit : ℕ) (log : List (Event O P C R)) where
  -- after k entries that were done, this one is as it must be
  abbrev pub IsRight : ℕ → ArrayVec C → Done O P C R → Type 0
  IsRight k asked (done.Steps s) = (slice_get (steps_by cpu log) k ≡ Some s) × Fulfils meaning asked.items s.list.items
  IsRight k asked done.NoRoom = (limit ≤ length log) × (length (steps_by cpu log) ≤ k)

  -- there was no room, says the entry, but there was
  abbrev pub HasRoom : ℕ → Done O P C R → Type 0
  HasRoom k (done.Steps s) = ⊥
  HasRoom k done.NoRoom = (length log < limit) ⊎ (k < length (steps_by cpu log))

  -- the steps aren't those of the CPU's next event
  abbrev pub IsOther : ℕ → Done O P C R → Type 0
  IsOther k (done.Steps s) = slice_get (steps_by cpu log) k ≢ Some s
  IsOther k done.NoRoom = ⊥

  -- they are, and aren't what was asked
  abbrev pub IsUnasked : ℕ → ArrayVec C → Done O P C R → Type 0
  IsUnasked k asked (done.Steps s) = (slice_get (steps_by cpu log) k ≡ Some s) × (Fulfils meaning asked.items s.list.items → ⊥)
  IsUnasked k asked done.NoRoom = ⊥

  -- entry n has this fault
  abbrev pub IsWrong : ℕ → ℕ → Entry O P C R → Fault → Type 0
  IsWrong n k e (fault.RoomWasLeft c m) = (c ≡ cpu) × (m ≡ n) × HasRoom k e.done
  IsWrong n k e (fault.NotItsEvent c m) = (c ≡ cpu) × (m ≡ n) × IsOther k e.done
  IsWrong n k e (fault.NotAsked c m) = (c ≡ cpu) × (m ≡ n) × IsUnasked k e.asked e.done
  IsWrong n k e f = ⊥

  -- what is answered of entry n: the place of the CPU's next event, or what is wrong
  abbrev pub IsJudged : ℕ → ℕ → Entry O P C R → Result ℕ Fault → Type 0
  IsJudged n k e (Ok j) = IsRight k e.asked e.done × IsAt cpu log (taken k e.done) j
  IsJudged n k e (Err f) = IsWrong n k e f
