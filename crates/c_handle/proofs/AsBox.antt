-- The box of a content, whose parts and whose handle own what it owns.
use mathlib.Core.List.{[]}
use mir.Syntax.{impl, tnil, dnil}
use denote.{RattleType.RattleType, Param.Laws.Laws}
use Rattle.std_alloc.proofs.BoxSteps.Form.{Bx}
use Rattle.std_heap.specs.contracts.GlobalAllocator.TheImpl.{ghosts, dict}
use Rattle.c_handle.specs.Handles.{kept}
use Rattle.std_heap.specs.contracts.Global as Heap
use Rattle.std_heap.proofs.Global.TheLaws as heap
use Rattle.core.proofs.mem.manually_drop.ManuallyDrop.TheLaws as manual
use Rattle.c_handle.specs.contracts.parts.Parts as Parts

abbrev pub as_box : (T : RattleType) → Laws T → Bx
as_box T laws = record { row = kept T; laws = manual.the_row_laws T laws; al = record { row = Heap.the_row; laws = heap.the_row_laws; g = ghosts; d = dict; drops = impl [] tnil dnil } }

abbrev pub parts_row : RattleType → RattleType
parts_row T = Parts.the_row (kept T) Heap.the_row ghosts
