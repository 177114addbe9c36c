-- Passes of a cell that nobody has called.
use Rattle.std.specs.{declared.cmp.PartialEq.{Ghosts as Eq}, declared.default.Default.{Ghosts as Default}, Prelude.{◌≡◌, ℕ, true}}
use Rattle.event_log.specs.{declared.object.SeqObject.Ghosts, Log.of}
use Rattle.word_rule.specs.{declared.pass.Pass.Pass, Passes.view_of_pass}
use Rattle.guarded_cell.specs.{declared.cell.AnyCell.AnyCell, Kinds.{IsPassOf, fixed_of}}

module _ {O P C R : Type 0} {g : Ghosts O P C R} {call_eq : Eq C} {call_default : Default C} {reply_eq : Eq R} {reply_default : Default R} where
  -- a pass of the cell whose CPUs have done nothing
  pub record IsUnused (cell : AnyCell O P C R) (p : Pass O P C R g call_eq call_default reply_eq reply_default) : Type 0 where
    pub pass : IsPassOf cell p
    pub none : (k : ℕ) → (view_of_pass p).caller.owned k ≡ true → of k (view_of_pass p).seen ≡ of k (fixed_of cell).opening

  -- pass b owns each CPU that pass a owns
  abbrev pub Covers : Pass O P C R g call_eq call_default reply_eq reply_default → Pass O P C R g call_eq call_default reply_eq reply_default → Type 0
  Covers a b = (k : ℕ) → (view_of_pass a).caller.owned k ≡ true → (view_of_pass b).caller.owned k ≡ true
