-- The life of a cell that C has opened: passes are given out and returned, and it is closed.
use Rattle.std.specs.{declared.cmp.PartialEq.{Ghosts as Eq}, declared.default.Default.{Ghosts as Default}, Prelude.{◌≡◌, ◌==◌, ◌&&◌, nat_lt, ◌<◌, ◌≤◌, ◌+◌, Bool, false, [], ◌∷◌, ◌++◌, Option, Some, None, Result, Ok, Err, vec_len}}
use Rattle.std_alloc.specs.Arc.{arc_value}
use Rattle.event_log.specs.{declared.object.SeqObject.Ghosts, History.History}
use Rattle.word_rule.specs.{declared.pass.Pass.Pass, Cell.stored, LockRuns.{endings_in, arrivals_in}, Passes.{view_of_pass, run_of_pass}, Polls.is_idle}
use Rattle.guarded_cell.specs.{declared.any_caller.AnyCaller.AnyCaller, AnyCallers.{idle_caller, state_of_caller}}
use Rattle.cell_callers.specs.{declared.caller.Caller.Caller, declared.open_cell.OpenCell.OpenCell, declared.cell_lifetime.NoNewCaller.NoNewCaller, declared.cell_lifetime.NoNewCaller.TheVariants.{NoneLeft, NoShare}, declared.cell_lifetime.NotClosed.NotClosed, declared.cell_lifetime.NotClosed.TheVariants.{NotAllBack, Shared}, OpenCells.TakesIn, Places.{place_of, Between, HasWoken}}

module _ {O P C R : Type 0} {g : Ghosts O P C R} {call_eq : Eq C} {call_default : Default C} {reply_eq : Eq R} {reply_default : Default R} where
  -- nothing was done
  pub record IsSame (before after : OpenCell O P C R g call_eq call_default reply_eq reply_default) : Type 0 where
    pub cell : arc_value after.cell ≡ arc_value before.cell
    pub passes : after.passes.items ≡ before.passes.items
    pub home : after.home ≡ before.home
    pub back : after.back ≡ before.back

  -- a caller has the last of the passes
  pub record HasNewCaller (before : OpenCell O P C R g call_eq call_default reply_eq reply_default) (caller : Caller O P C R g call_eq call_default reply_eq reply_default) (after : OpenCell O P C R g call_eq call_default reply_eq reply_default) : Type 0 where
    pub pass : Pass O P C R g call_eq call_default reply_eq reply_default
    pub idle : place_of (arc_value caller.cell) caller.place ≡ Some (idle_caller (arc_value caller.cell) pass)
    pub of : arc_value caller.cell ≡ arc_value before.cell
    pub cell : arc_value after.cell ≡ arc_value before.cell
    pub passes : before.passes.items ≡ after.passes.items ++ pass ∷ []
    pub home : after.home ≡ before.home
    pub back : after.back ≡ before.back

  -- a pass was given out; or nothing was done, since none was left, or since the cell gave no share of itself
  abbrev pub IsNewCaller : OpenCell O P C R g call_eq call_default reply_eq reply_default → Result (Caller O P C R g call_eq call_default reply_eq reply_default) NoNewCaller → OpenCell O P C R g call_eq call_default reply_eq reply_default → Type 0
  IsNewCaller before (Ok caller) after = HasNewCaller before caller after
  IsNewCaller before (Err NoneLeft) after = IsSame before after × (vec_len before.passes ≡ 0)
  IsNewCaller before (Err NoShare) after = IsSame before after × (0 < vec_len before.passes)

  -- the caller is idle, and its CPU is the lowest that wasn't returned yet
  abbrev pub is_next : OpenCell O P C R g call_eq call_default reply_eq reply_default → AnyCaller O P C R g call_eq call_default reply_eq reply_default → Bool
  is_next o p = is_idle (state_of_caller p) && (nat_lt o.back o.cpus && ((state_of_caller p).caller.acting == o.back))

  -- an idle caller's pass was taken in
  pub record HasReturned (before : OpenCell O P C R g call_eq call_default reply_eq reply_default) (caller : Caller O P C R g call_eq call_default reply_eq reply_default) (after : OpenCell O P C R g call_eq call_default reply_eq reply_default) : Type 0 where
    pub pass : Pass O P C R g call_eq call_default reply_eq reply_default
    pub was : AnyCaller O P C R g call_eq call_default reply_eq reply_default
    pub idle : place_of (arc_value before.cell) caller.place ≡ Some was
    pub woken : HasWoken g was pass
    pub cell : arc_value after.cell ≡ arc_value before.cell
    pub passes : after.passes.items ≡ before.passes.items
    pub next : (view_of_pass pass).caller.acting ≡ before.back
    pub home : TakesIn before.home pass after.home
    pub back : after.back ≡ before.back + 1

  -- a caller was returned; or it isn't the next, is unchanged, and nothing was done
  abbrev pub IsReturned : OpenCell O P C R g call_eq call_default reply_eq reply_default → Caller O P C R g call_eq call_default reply_eq reply_default → Option (Caller O P C R g call_eq call_default reply_eq reply_default) → OpenCell O P C R g call_eq call_default reply_eq reply_default → Type 0
  IsReturned before caller None after = HasReturned before caller after
  IsReturned before caller (Some left) after = IsSame before after × (arc_value left.cell ≡ arc_value caller.cell) × Between (arc_value before.cell) caller.place left.place (λ p q. (is_next before p ≡ false) × (q ≡ p))

  -- all callers were returned, the pass of all CPUs has seen the log that is left, and each arrival in line has ended its hold
  pub record HasClosed (before : OpenCell O P C R g call_eq call_default reply_eq reply_default) (left : History O P C R) : Type 0 where
    pub pass : Pass O P C R g call_eq call_default reply_eq reply_default
    pub home : before.home ≡ Some pass
    pub all : before.cpus ≤ before.back
    pub log : left ≡ stored g (view_of_pass pass).caller.cell (view_of_pass pass).seen
    pub run : endings_in (run_of_pass pass) ≡ arrivals_in (run_of_pass pass)

  -- why a cell stays open: a caller wasn't returned, or all were and another shares the cell
  abbrev pub IsWhyOpen : OpenCell O P C R g call_eq call_default reply_eq reply_default → NotClosed → Type 0
  IsWhyOpen o NotAllBack = o.back < o.cpus
  IsWhyOpen o Shared = o.cpus ≤ o.back

  -- the cell was closed, or is unchanged
  abbrev pub IsClosed : OpenCell O P C R g call_eq call_default reply_eq reply_default → Result (History O P C R) (OpenCell O P C R g call_eq call_default reply_eq reply_default × NotClosed) → Type 0
  IsClosed before (Ok left) = HasClosed before left
  IsClosed before (Err left) = IsSame before left.0 × IsWhyOpen before left.1
