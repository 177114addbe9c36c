-- A cell that C has opened: its passes, before they are given out and once they are returned.
use Rattle.std.specs.{declared.cmp.PartialEq.{Ghosts as Eq}, declared.default.Default.{Ghosts as Default}, Prelude.{◌≡◌, ℕ, ◌<◌, true, List, [], Option, Some, None}}
use Rattle.event_log.specs.declared.object.SeqObject.{Ghosts}
use Rattle.word_rule.specs.{declared.pass.Pass.Pass, Cell.{EachAt, Grows}, LockRuns.Extends, Passes.{view_of_pass, run_of_pass}}
use Rattle.guarded_cell.specs.declared.cell.AnyCell.{AnyCell}
use Rattle.guarded_cell.specs.Kinds.{IsPassOf}
use Rattle.cell_callers.specs.Callers.{IsOne}

module _ {O P C R : Type 0} {g : Ghosts O P C R} {call_eq : Eq C} {call_default : Default C} {reply_eq : Eq R} {reply_default : Default R} where
  -- a pass of the cell that owns only that CPU
  pub record IsHome (cell : AnyCell O P C R) (cpu : ℕ) (p : Pass O P C R g call_eq call_default reply_eq reply_default) : Type 0 where
    pub of : IsPassOf cell p
    pub number : (view_of_pass p).caller.acting ≡ cpu
    pub one : IsOne (view_of_pass p).caller

  -- pass k owns the CPU k
  abbrev pub AreHome : AnyCell O P C R → List (Pass O P C R g call_eq call_default reply_eq reply_default) → Type 0
  AreHome cell passes = EachAt (IsHome cell) passes

  -- a pass of the cell that owns the first n CPUs
  pub record OwnsFirst (cell : AnyCell O P C R) (n : ℕ) (p : Pass O P C R g call_eq call_default reply_eq reply_default) : Type 0 where
    pub of : IsPassOf cell p
    pub owned : (k : ℕ) → k < n → (view_of_pass p).caller.owned k ≡ true

  -- the passes that were returned are one pass, of the first n CPUs, or none was returned yet
  abbrev pub IsBack : AnyCell O P C R → ℕ → Option (Pass O P C R g call_eq call_default reply_eq reply_default) → Type 0
  IsBack cell n home = ((p : Pass O P C R g call_eq call_default reply_eq reply_default) → home ≡ Some p → OwnsFirst cell n p) × (home ≡ None → n ≡ 0)

  -- pass b has seen all that pass a had seen, and no more of a's CPUs
  pub record GoesInto (a b : Pass O P C R g call_eq call_default reply_eq reply_default) : Type 0 where
    pub grows : Grows (view_of_pass a).caller.owned (view_of_pass a).seen (view_of_pass b).seen
    pub run : Extends (view_of_pass a).caller.owned (run_of_pass a) [] (run_of_pass b)

  -- a pass was returned after those before it: one pass has taken in both
  abbrev pub TakesIn : Option (Pass O P C R g call_eq call_default reply_eq reply_default) → Pass O P C R g call_eq call_default reply_eq reply_default → Option (Pass O P C R g call_eq call_default reply_eq reply_default) → Type 0
  TakesIn None p (Some b) = b ≡ p
  TakesIn (Some a) p (Some b) = GoesInto a b × GoesInto p b
  TakesIn home p None = ⊥
