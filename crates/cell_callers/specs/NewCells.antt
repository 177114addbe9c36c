-- A cell that was just opened.
use Rattle.std.specs.{declared.cmp.PartialEq.{Ghosts as Eq}, declared.default.Default.{Ghosts as Default}, Prelude.{◌≡◌, ℕ, [], None, vec_len}}
use Rattle.std_alloc.specs.Arc.{arc_value}
use Rattle.event_log.specs.{declared.object.SeqObject.Ghosts, History.History}
use Rattle.sound_run.specs.declared.lock_kind.LockKind.{LockKind}
use Rattle.word_rule.specs.{Cell.{EachAt, first_pass}, Passes.{view_of_pass, run_of_pass}}
use Rattle.guarded_cell.specs.Kinds.{kind_of}
use Rattle.cell_callers.specs.declared.open_cell.OpenCell.{OpenCell}

module _ {O P C R : Type 0} {g : Ghosts O P C R} {call_eq : Eq C} {call_default : Default C} {reply_eq : Eq R} {reply_default : Default R} where
  -- a new cell of n CPUs behind that lock, around an object with that log: one pass per CPU, each with an empty run, and none returned
  pub record IsOpenedOn (lock : LockKind) (n : ℕ) (h : History O P C R) (c : OpenCell O P C R g call_eq call_default reply_eq reply_default) : Type 0 where
    pub kind : kind_of (arc_value c.cell) ≡ lock
    pub count : vec_len c.passes ≡ n
    pub cpus : c.cpus ≡ n
    pub back : c.back ≡ 0
    pub home : c.home ≡ None
    pub passes : EachAt (λ k p. view_of_pass p ≡ first_pass lock 0 h n k) c.passes.items
    pub runs : EachAt (λ k p. run_of_pass p ≡ []) c.passes.items
