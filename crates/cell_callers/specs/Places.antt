-- A caller in its place, which has three parts.
use Rattle.std.specs.{declared.cmp.PartialEq.{Ghosts as Eq}, declared.default.Default.{Ghosts as Default}, Prelude.{◌≡◌, ℕ, Bool, true, false, [], Option, Some, None}}
use Rattle.event_log.specs.declared.object.SeqObject.{Ghosts}
use Rattle.word_rule.specs.{declared.pass.Pass.Pass, declared.lock_kind.Stage.TheVariants.Idle, CallerState.Moves, Passes.state_of_pass, Polls.is_idle}
use Rattle.mcs_lock.specs.{declared.rested.Rested.Rested, Arrivals.state_of_rested}
use Rattle.guarded_cell.specs.{declared.cell.AnyCell.AnyCell, declared.any_caller.AnyCaller.AnyCaller, AnyCallers.{IsCallerOf, idle_caller, state_of_caller}}
use Rattle.cell_callers.specs.{declared.place.CallerPlace.CallerPlace, Callers.IsOne}
use Rattle.ticket_lock.specs.declared.caller.TicketCaller.TheVariants as at_ticket
use Rattle.mcs_lock.specs.declared.caller.McsCaller.TheVariants as at_mcs
use Rattle.guarded_cell.specs.declared.any_caller.AnyCaller.TheVariants as callers

module _ {O P C R : Type 0} {g : Ghosts O P C R} {call_eq : Eq C} {call_default : Default C} {reply_eq : Eq R} {reply_default : Default R} where
  -- an idle caller isn't in line
  abbrev pub in_line : Bool → AnyCaller O P C R g call_eq call_default reply_eq reply_default → Option (AnyCaller O P C R g call_eq call_default reply_eq reply_default)
  in_line true p = None
  in_line false p = Some p

  -- the caller, unless its call is in progress: idle, by its pass or with its `next` clear, or in line
  abbrev pub stands_at : AnyCell O P C R → Option (Pass O P C R g call_eq call_default reply_eq reply_default) → Option (Rested O P C R g call_eq call_default reply_eq reply_default) → Option (AnyCaller O P C R g call_eq call_default reply_eq reply_default) → Option (AnyCaller O P C R g call_eq call_default reply_eq reply_default)
  stands_at cell (Some pass) None None = Some (idle_caller cell pass)
  stands_at cell None (Some rested) None = Some (callers.Mcs (at_mcs.Rested rested))
  stands_at cell None None (Some p) = in_line (is_idle (state_of_caller p)) p
  stands_at cell pass rested line = None

  abbrev pub place_of : AnyCell O P C R → CallerPlace O P C R g call_eq call_default reply_eq reply_default → Option (AnyCaller O P C R g call_eq call_default reply_eq reply_default)
  place_of cell place = stands_at cell place.pass place.rested place.line

  -- the CPU of an idle caller
  abbrev pub cpu_of : Option (Pass O P C R g call_eq call_default reply_eq reply_default) → Option (Rested O P C R g call_eq call_default reply_eq reply_default) → Option ℕ
  cpu_of (Some pass) rested = Some (state_of_pass pass).caller.acting
  cpu_of None (Some rested) = Some (state_of_rested rested).caller.acting
  cpu_of None None = None

  abbrev pub idle_cpu : CallerPlace O P C R g call_eq call_default reply_eq reply_default → Option ℕ
  idle_cpu place = cpu_of place.pass place.rested

  -- its call is in progress
  abbrev pub IsAway : CallerPlace O P C R g call_eq call_default reply_eq reply_default → Type 0
  IsAway place = (place.pass ≡ None) × (place.rested ≡ None) × (place.line ≡ None)

  -- the caller in that place is of the cell, and owns one CPU
  abbrev pub IsPlaceOf : AnyCell O P C R → CallerPlace O P C R g call_eq call_default reply_eq reply_default → Type 0
  IsPlaceOf cell place = (p : AnyCaller O P C R g call_eq call_default reply_eq reply_default) × (place_of cell place ≡ Some p) × IsCallerOf cell p × IsOne (state_of_caller p).caller

  -- the caller in the one place was p and in the other is q, and Q holds between them
  abbrev pub Between : AnyCell O P C R → CallerPlace O P C R g call_eq call_default reply_eq reply_default → CallerPlace O P C R g call_eq call_default reply_eq reply_default → (AnyCaller O P C R g call_eq call_default reply_eq reply_default → AnyCaller O P C R g call_eq call_default reply_eq reply_default → Type 0) → Type 0
  Between cell before after Q = (p q : AnyCaller O P C R g call_eq call_default reply_eq reply_default) × (place_of cell before ≡ Some p) × (place_of cell after ≡ Some q) × Q p q

module _ {O P C R : Type 0} (g : Ghosts O P C R) {call_eq : Eq C} {call_default : Default C} {reply_eq : Eq R} {reply_default : Default R} where
  -- the pass of an idle caller; one whose `next` was clear has become a pass without a step of the lock
  abbrev pub HasWoken : AnyCaller O P C R g call_eq call_default reply_eq reply_default → Pass O P C R g call_eq call_default reply_eq reply_default → Type 0
  HasWoken (callers.Ticket (at_ticket.Idle p)) q = q ≡ p
  HasWoken (callers.Mcs (at_mcs.Idle p)) q = q ≡ p
  HasWoken (callers.Mcs (at_mcs.Rested r)) q = Moves g Idle Idle [] (state_of_rested r) (state_of_pass q)
  HasWoken p q = ⊥
