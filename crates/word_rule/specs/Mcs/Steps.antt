-- The steps of an MCS lock (Mellor-Crummey and Scott 1991), one relation for each kind.
use Rattle.std.specs.Prelude.{ℕ, Bool, true, false, [], ◌∷◌}
use Rattle.event_log.specs.declared.object.SeqObject.{Ghosts}
use Rattle.word_rule.specs.{declared.lock_kind.Stage.TheVariants.{Idle, Mcs, Trying}, declared.lock_kind.McsStage.TheVariants.{Ready, Behind, Armed, Waiting, Holding, Alone, Leaving, Passing}, CallerState.{CallerState, IsOther, Moves, Takes, Gives, NeedsAnother}}
use Rattle.word_rule.specs.declared.machine.step_done.StepDone.TheVariants as steps

module _ {O P C R : Type 0} (meaning : Ghosts O P C R) (before after : CallerState O P C R) where
  -- the caller clears its `next`
  abbrev pub IsClear : Type 0
  IsClear = Moves meaning Idle (Mcs Ready) (steps.Clear ∷ []) before after

  -- the caller swaps itself into the tail: it gets the object where nobody was there, or has a predecessor
  abbrev pub IsEnter : Bool → Type 0
  IsEnter true = Takes meaning (Mcs Ready) (Mcs Holding) (steps.Enter true ∷ []) before after
  IsEnter false = (p : ℕ) × IsOther before.caller p × NeedsAnother meaning (Moves meaning (Mcs Ready) (Mcs (Behind p)) (steps.Enter false ∷ [])) before after

  -- the caller clears its `next` for a try
  abbrev pub IsReady : Type 0
  IsReady = Moves meaning Idle Trying [] before after

  -- the caller swaps itself into the tail if that names nobody: it gets the object, by its clear and an enter, or is idle
  -- again and has done nothing
  abbrev pub IsTryEnter : Bool → Type 0
  IsTryEnter true = Takes meaning Trying (Mcs Holding) (steps.Clear ∷ steps.Enter true ∷ []) before after
  IsTryEnter false = NeedsAnother meaning (Moves meaning Trying Idle []) before after

  -- the caller sets its `locked`
  abbrev pub IsArm : Type 0
  IsArm = (p : ℕ) × IsOther before.caller p × Moves meaning (Mcs (Behind p)) (Mcs (Armed p)) (steps.Arm ∷ []) before after

  -- the caller names itself in its predecessor's `next`
  abbrev pub IsLink : Type 0
  IsLink = (p : ℕ) × IsOther before.caller p × Moves meaning (Mcs (Armed p)) (Mcs Waiting) (steps.Link ∷ []) before after

  -- the caller looks whether its `locked` is clear: it gets the object, or has looked in vain
  abbrev pub IsWaitingLook : Bool → Type 0
  IsWaitingLook true = Takes meaning (Mcs Waiting) (Mcs Holding) (steps.Look true ∷ []) before after
  IsWaitingLook false = NeedsAnother meaning (Moves meaning (Mcs Waiting) (Mcs Waiting) (steps.Look false ∷ [])) before after

  -- the holder looks into its `next`: it sees its successor, or nobody
  abbrev pub IsSee : Bool → Type 0
  IsSee true = (j : ℕ) × IsOther before.caller j × NeedsAnother meaning (Moves meaning (Mcs Holding) (Mcs (Passing j)) (steps.See true ∷ [])) before after
  IsSee false = Moves meaning (Mcs Holding) (Mcs Alone) (steps.See false ∷ []) before after

  -- the same, once it isn't the last: it sees its successor, or that hasn't linked itself yet
  abbrev pub IsSeeAgain : Bool → Type 0
  IsSeeAgain true = (j : ℕ) × IsOther before.caller j × NeedsAnother meaning (Moves meaning (Mcs Leaving) (Mcs (Passing j)) (steps.See true ∷ [])) before after
  IsSeeAgain false = NeedsAnother meaning (Moves meaning (Mcs Leaving) (Mcs Leaving) (steps.See false ∷ [])) before after

  -- the holder swaps nobody into the tail, if the tail names it: the object goes home, or the holder isn't the last
  abbrev pub IsEmpty : Bool → Type 0
  IsEmpty true = Gives meaning (Mcs Alone) Idle (steps.Empty true) before after
  IsEmpty false = NeedsAnother meaning (Moves meaning (Mcs Alone) (Mcs Leaving) (steps.Empty false ∷ [])) before after

  -- the holder clears its successor's `locked`, and gives the object back
  abbrev pub IsPass : Type 0
  IsPass = (j : ℕ) × IsOther before.caller j × Gives meaning (Mcs (Passing j)) Idle steps.Pass before after
