-- The rule of a cell's table, where the lock is a state of its definition.
use Rattle.std.proofs.Common.{◌≡◌, ℕ, ◌<◌, true, false, List, length, ap, ◌∙◌, Some}
use mathlib.Core.Option.{some}
use lib.ListN.{get_elem?}
use Rattle.event_log.specs.{declared.object.SeqObject.Ghosts, declared.event.Event.Event, Distinct.has}
use Rattle.sound_run.specs.declared.lock_kind.LockKind.{LockKind}
use Rattle.word_rule.specs.{declared.lock_kind.Stage.Stage, declared.machine.step_done.StepDone.StepDone, declared.view.TraceStep.TraceStep, Cell.{Cell, Lawful, stored}, LockDefinition.{IsTied, LockState}, LockRuns.HasRun, Locks.{Lock, attempt, definition_of, lock_of, turn}, Rule.CellInvariant.{CellInvariant, IsMade, SeatInvariant, Table, SeatView}, Rule.LockStates.IsLockOf, Rule.Seats.Seat}
use Rattle.word_rule.proofs.LockLaws.{at_kind}

module _ (kind : LockKind) where
  pub tied_state : (n : ℕ) (ws : List ℕ) (l : LockState (definition_of kind).Extra) → IsLockOf kind n ws (lock_of kind l) → IsTied (definition_of kind) n ws l
  tied_state n ws l h = record { state = h.state; words = h.words }

  -- what a turn makes of a state it makes of the lock; and so a try
  pub turned_lock : (l : LockState (definition_of kind).Extra) (i : ℕ) (r : LockState (definition_of kind).Extra × StepDone) → (definition_of kind).turn l i ≡ r → turn (lock_of kind l) i ≡ (lock_of kind r.0, r.1)
  turned_lock l i r is = ap (λ z. (lock_of kind z.0, z.1)) is

  pub tried_lock : (l : LockState (definition_of kind).Extra) (i t : ℕ) (r : LockState (definition_of kind).Extra × List StepDone) → (definition_of kind).attempt l i t ≡ r → attempt (lock_of kind l) i t ≡ (lock_of kind r.0, r.1)
  tried_lock l i t r is = ap (λ z. (lock_of kind z.0, z.1)) is

module _ {O P C R : Type 0} (meaning : Ghosts O P C R) (kind : LockKind) (h : Cell O P C R) (s : Table O P C R) where
  -- what the rule says of this lock
  pub record RuleOf (l : Lock) : Type 0 where
    pub committed : List (Event O P C R)
    pub run : List (TraceStep (Event O P C R))
    pub owner : ℕ → ℕ × ℕ
    pub tied : IsLockOf kind h.numbers s.words l
    pub ran : HasRun h committed run
    pub made : IsMade h l run
    pub valid : Lawful meaning h committed
    pub at_home : l.line.out ≡ false → get_elem? s.homes 0 ≡ some (some (Some (stored meaning h committed)))
    pub each : (j : ℕ) (v : SeatView O P C R) → get_elem? s.views j ≡ some v → SeatInvariant h (record { committed = committed; run = run; lock = l; owner = owner }) j v

  abbrev pub rule_of : (l : Lock) → RuleOf l → CellInvariant meaning kind h s
  rule_of l x = record { state = record { committed = x.committed; run = x.run; lock = l; owner = x.owner }; tied = x.tied; ran = x.ran; made = x.made; valid = x.valid; at_home = x.at_home; each = x.each }

  -- what is shown where the lock is a state of its definition is shown of the rule
  pub by_state : (G : CellInvariant meaning kind h s → Type 0) → ((l : LockState (definition_of kind).Extra) (x : RuleOf (lock_of kind l)) → G (rule_of (lock_of kind l) x)) → (r : CellInvariant meaning kind h s) → G r
  by_state G each r = at_kind kind (λ l. (x : RuleOf l) → G (rule_of l x)) each r.state.lock r.tied.kind_is
      record { committed = r.state.committed; run = r.state.run; owner = r.state.owner; tied = r.tied; ran = r.ran; made = r.made; valid = r.valid; at_home = r.at_home; each = r.each }

module _ {O P C R : Type 0} (meaning : Ghosts O P C R) (kind : LockKind) (h : Cell O P C R) (slots id : ℕ) (me : Seat O P C R) where
  -- the seat's caller stands there, in a table with so many slots whose lock has that state
  pub record StandsIn (stage : Stage) (s : Table O P C R) (l : LockState (definition_of kind).Extra) : Type 0 where
    pub rule : RuleOf meaning kind h s (lock_of kind l)
    pub homes : length s.homes ≡ slots
    pub there : get_elem? s.views id ≡ some me.0
    pub tied : IsTied (definition_of kind) h.numbers s.words l
    pub mine : SeatInvariant h (rule_of meaning kind h s (lock_of kind l) rule).state id me.0
    pub below : me.0.main.cpu < h.numbers
    pub at : l.line.stage me.0.main.cpu ≡ stage

  -- what is shown of the caller where the lock is a state of its definition is shown of the rule
  pub by_caller : {stage : Stage} → has me.0.main.cpu me.0.main.owned ≡ true → me.0.main.stage ≡ stage → (G : (s : Table O P C R) → CellInvariant meaning kind h s → Type 0)
      → ((s : Table O P C R) (l : LockState (definition_of kind).Extra) (c : StandsIn stage s l) → G s (rule_of meaning kind h s (lock_of kind l) c.rule))
      → (s : Table O P C R) (r : CellInvariant meaning kind h s) → length s.homes ≡ slots → get_elem? s.views id ≡ some me.0 → G s r
  by_caller acts is G each s r homes there = by_state meaning kind h s (G s) (λ l x.
      let mine = x.each id me.0 there in
      each s l record { rule = x; homes = homes; there = there; tied = tied_state kind h.numbers s.words l x.tied; mine = mine; below = (mine.main.owns me.0.main.cpu acts).1; at = mine.main.stands acts ∙ is }) r
