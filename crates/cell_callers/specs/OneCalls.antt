-- One call, over all its returns: n of them report a failed look, and the next one reports the result of the call.
use Rattle.std.specs.{declared.cmp.PartialEq.{Ghosts as Eq}, declared.default.Default.{Ghosts as Default}, Prelude.{◌≡◌, ◌⊎◌, ℕ, zero, suc, ◌+◌, ◌-◌, ◌^◌, min, Bool, true, false}}
use Rattle.event_log.specs.declared.object.SeqObject.{Ghosts}
use Rattle.word_rule.specs.{Cell.PassView, Polls.IsStepBack}
use Rattle.guarded_cell.specs.{declared.cell.AnyCell.AnyCell, declared.any_caller.AnyCaller.AnyCaller, AnyCallers.state_of_caller, Kinds.kind_of}
use Rattle.cell_callers.specs.Wholes.{IsCalled}
use Rattle.word_rule.specs.declared.progress.Progress.TheVariants as reported
use Rattle.cell_callers.specs.declared.whole.Whole.TheVariants as whole

-- the looks of a call that had n failed looks, and acquired the lock by one look more or without one
abbrev pub looks_of : ℕ → Bool → ℕ
looks_of n true = min (n + 1) (2 ^ 64 - 1)
looks_of n false = min n (2 ^ 64 - 1)

module _ {O P C R : Type 0} (g : Ghosts O P C R) {call_eq : Eq C} {call_default : Default C} {reply_eq : Eq R} {reply_default : Default R} where
  -- n returns, each of which reported a failed look
  abbrev pub LooksInVain : AnyCell O P C R → AnyCaller O P C R g call_eq call_default reply_eq reply_default → C → ℕ → AnyCaller O P C R g call_eq call_default reply_eq reply_default → Type 0
  LooksInVain c p call zero q = q ≡ p
  LooksInVain c p call (suc n) q = (m : AnyCaller O P C R g call_eq call_default reply_eq reply_default) × IsCalled g c p call whole.Waits m × LooksInVain c m call n q

  -- n steps towards the release, some of which may have looked in vain for the successor, and then the one that released the lock
  abbrev pub ReleasesLater : AnyCell O P C R → AnyCaller O P C R g call_eq call_default reply_eq reply_default → ℕ → AnyCaller O P C R g call_eq call_default reply_eq reply_default → Type 0
  ReleasesLater c p zero q = IsStepBack g (kind_of c) reported.Left (state_of_caller p) (state_of_caller q)
  ReleasesLater c p (suc n) q = (m : AnyCaller O P C R g call_eq call_default reply_eq reply_default) × (IsStepBack g (kind_of c) reported.Stepped (state_of_caller p) (state_of_caller m) ⊎ IsStepBack g (kind_of c) reported.Looked (state_of_caller p) (state_of_caller m)) × ReleasesLater c m n q

module _ {O P C R : Type 0} {g : Ghosts O P C R} {call_eq : Eq C} {call_default : Default C} {reply_eq : Eq R} {reply_default : Default R} where
  -- what a caller has seen
  abbrev pub view_of : AnyCaller O P C R g call_eq call_default reply_eq reply_default → PassView O P C R
  view_of p = record { caller = (state_of_caller p).caller; seen = (state_of_caller p).seen }
