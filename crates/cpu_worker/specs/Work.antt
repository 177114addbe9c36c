-- What a CPU's worker on objects of the kernel is given, and what it leaves.
use Rattle.std.specs.{Prelude.{◌≡◌, ℕ, ◌≤◌, List, [], map, length}, List.AllByRecursion}
use Rattle.kernel_object.specs.{declared.call.KParams.KParams, declared.call.KCall.KCall, declared.call.KReply.KReply, declared.object.KernelObject.KernelObject, contracts.object.KernelObjectSeqObject.TheImpl.{ghosts as kernel}, KernelTypes.{KernelTodo, KernelEntry}}
use Rattle.guarded_cell.specs.Workers.{ArePasses, HasDone}
use Rattle.records.specs.declared.record.TheConstants.{MOST_ENTRIES}
use Rattle.word_rule.specs.{Cell.{Cell, PassView}, Machine.SoundWorld.IsTodo}

-- a caller of a cell around an object of the kernel, and what was fixed when such a cell was opened
abbrev pub KernelView : Type 0
KernelView = PassView KernelObject KParams KCall KReply

abbrev pub FixedCell : Type 0
FixedCell = Cell KernelObject KParams KCall KReply

module _ {T S : Type 0} (is_pass_of : T → S → Type 0) where
  -- a pass of each cell, entries that can be done on them, and an empty transcript that has room for them
  pub record IsReady (cells : List T) (given : List S) (todos : List KernelTodo) (transcript : List KernelEntry) (capacity : ℕ) : Type 0 where
    pub passes : ArePasses is_pass_of cells given
    pub able : AllByRecursion (λ t. IsTodo (length cells) t) todos
    pub few : length todos ≤ MOST_ENTRIES
    pub empty : transcript ≡ []
    pub room : length todos ≤ capacity

  -- a pass of each cell again, and what became of the entries
  pub record IsDone (pass_view : S → KernelView) (cells : List T) (before : List S) (todos : List KernelTodo) (after : List S) (entries : List KernelEntry) : Type 0 where
    pub passes : ArePasses is_pass_of cells after
    pub done : HasDone kernel (map pass_view before) todos entries (map pass_view after)
