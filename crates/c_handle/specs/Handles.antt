-- What a handle of a content owns: the same as a `Box<ManuallyDrop<T>>`.
use base.{Fml.Fml, Stored.Coded}
use denote.{RattleType.RattleType, RawPtr.Ptr}
use Rattle.std.specs.{Box.Ownership.box_owns, Global.Global}
use Rattle.std_heap.specs.contracts.GlobalAllocator.TheImpl.{ghosts}
use Rattle.core.specs.contracts.mem.manually_drop.ManuallyDrop as ManuallyDrop

module _ (T : RattleType) where
  -- the content, kept from being dropped
  abbrev pub kept : RattleType
  kept = ManuallyDrop.the_row T

  abbrev pub Slot : Type 0
  Slot = kept.Denot

  abbrev pub slot_coded : Coded Slot
  slot_coded = kept.coded

  -- what lies at the pointer, and the right to free it
  abbrev pub handle_owns : Global → Ptr → Slot → Fml
  handle_owns alloc = box_owns (ghosts.dealloc_token alloc) kept
