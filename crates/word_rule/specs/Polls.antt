-- Callers that wait outside a cell's functions: how far each function takes a caller.
use Rattle.std.specs.Prelude.{◌≡◌, ℕ, zero, suc, ◌⊎◌, is_some, Bool, true, false, [], Option, Some, None}
use Rattle.event_log.specs.{declared.object.SeqObject.Ghosts, History.History}
use Rattle.sound_run.specs.declared.lock_kind.LockKind.{LockKind}
use Rattle.word_rule.specs.{declared.lock_kind.Stage.{Stage, TheVariants.{Idle, Ticket, Mcs}}, declared.lock_kind.TicketStage.TheVariants.Drawn, declared.lock_kind.McsStage.TheVariants.{Waiting, Alone, Leaving, Passing}, declared.progress.Progress.Progress, declared.progress.Polled.Polled, declared.progress.Tried.Tried, Answered.IsBusy, Cell.{HoldView, Grows}, CallerState.CallerState, LockRuns.Extends, OneHold.HasAcquiredAtOnce}
use Rattle.word_rule.specs.Ticket.Steps.{IsDraw, IsLook, IsServe}
use Rattle.word_rule.specs.Mcs.Steps.{IsClear, IsEnter, IsArm, IsLink, IsWaitingLook, IsSee, IsSeeAgain, IsEmpty, IsPass}
use Rattle.sound_run.specs.declared.lock_kind.LockKind.TheVariants as kinds
use Rattle.word_rule.specs.declared.progress.Progress.TheVariants as reported
use Rattle.word_rule.specs.declared.progress.Polled.TheVariants as polled
use Rattle.word_rule.specs.declared.progress.Tried.TheVariants as tried

-- the report of the step that acquires the lock: by a look, or without one
abbrev pub got_by : Bool → Progress
got_by true = reported.Found
got_by false = reported.Entered

-- a holder is releasing an MCS lock, and its successor has to link itself first
abbrev pub leaving_at : Stage → Bool
leaving_at (Mcs Leaving) = true
leaving_at stage = false

module _ {O P C R : Type 0} where
  -- by the object that it has, if it has one, and its stage: it is neither in line nor holds the lock; it is idle or at a look; it
  -- holds the lock, and hasn't begun to release it
  abbrev pub idle_at : Option (History O P C R) → Stage → Bool
  idle_at None Idle = true
  idle_at has stage = false

  abbrev pub may_poll_at : Option (History O P C R) → Stage → Bool
  may_poll_at None Idle = true
  may_poll_at None (Ticket (Drawn t)) = true
  may_poll_at None (Mcs Waiting) = true
  may_poll_at has stage = false

  abbrev pub holding_at : Option (History O P C R) → Stage → Bool
  holding_at None stage = false
  holding_at (Some h) (Mcs Alone) = false
  holding_at (Some h) (Mcs Leaving) = false
  holding_at (Some h) (Mcs (Passing j)) = false
  holding_at (Some h) stage = true

  abbrev pub is_idle : CallerState O P C R → Bool
  is_idle b = idle_at b.has b.stage

  abbrev pub may_poll : CallerState O P C R → Bool
  may_poll b = may_poll_at b.has b.stage

  abbrev pub is_holding : CallerState O P C R → Bool
  is_holding b = holding_at b.has b.stage

module _ {O P C R : Type 0} (g : Ghosts O P C R) where
  -- a step towards the lock of that kind, with its report
  abbrev pub IsStepThere : LockKind → Progress → CallerState O P C R → CallerState O P C R → Type 0
  IsStepThere kinds.Ticket reported.Stepped b a = IsDraw g b a
  IsStepThere kinds.Ticket reported.Looked b a = IsLook g b a false
  IsStepThere kinds.Ticket reported.Found b a = IsLook g b a true
  IsStepThere kinds.Mcs reported.Stepped b a = IsClear g b a ⊎ (IsEnter g b a false ⊎ (IsArm g b a ⊎ IsLink g b a))
  IsStepThere kinds.Mcs reported.Looked b a = IsWaitingLook g b a false
  IsStepThere kinds.Mcs reported.Entered b a = IsEnter g b a true
  IsStepThere kinds.Mcs reported.Found b a = IsWaitingLook g b a true
  IsStepThere kind t b a = ⊥

  -- a step towards the release of the lock, with its report
  abbrev pub IsStepBack : LockKind → Progress → CallerState O P C R → CallerState O P C R → Type 0
  IsStepBack kinds.Ticket reported.Left b a = IsServe g b a
  IsStepBack kinds.Mcs reported.Stepped b a = (IsSee g b a true ⊎ IsSee g b a false) ⊎ (IsEmpty g b a false ⊎ IsSeeAgain g b a true)
  IsStepBack kinds.Mcs reported.Looked b a = IsSeeAgain g b a false
  IsStepBack kinds.Mcs reported.Left b a = IsEmpty g b a true ⊎ IsPass g b a
  IsStepBack kind t b a = ⊥

-- S is a type of callers, and state_of the state of each.
module _ {O P C R S : Type 0} (g : Ghosts O P C R) (state_of : S → CallerState O P C R) where
  -- from state b to state a by n steps towards the lock that look at nothing, each to a caller, and then by one that reports t
  abbrev pub GoesThere : LockKind → CallerState O P C R → ℕ → Progress → CallerState O P C R → Type 0
  GoesThere k b zero t a = IsStepThere g k t b a
  GoesThere k b (suc n) t a = (m : S) × IsStepThere g k reported.Stepped b (state_of m) × GoesThere k (state_of m) n t a

  -- the same for releasing the lock
  abbrev pub GoesBack : LockKind → CallerState O P C R → ℕ → Progress → CallerState O P C R → Type 0
  GoesBack k b zero t a = IsStepBack g k t b a
  GoesBack k b (suc n) t a = (m : S) × IsStepBack g k reported.Stepped b (state_of m) × GoesBack k (state_of m) n t a

  -- a caller that already has the object is refused, and nothing is done
  abbrev pub IsAcquireStep : LockKind → S → Option Progress → S → Type 0
  IsAcquireStep k p (Some t) q = IsStepThere g k t (state_of p) (state_of q)
  IsAcquireStep k p None q = (is_some (state_of p).has ≡ true) × (q ≡ p)

  -- so is one that doesn't have it
  abbrev pub IsReleaseStep : LockKind → S → Option Progress → S → Type 0
  IsReleaseStep k p (Some t) q = IsStepBack g k t (state_of p) (state_of q)
  IsReleaseStep k p None q = (is_some (state_of p).has ≡ false) × (q ≡ p)

  -- a holder has released the lock; or it waits until its successor has linked itself
  abbrev pub IsRelease : LockKind → CallerState O P C R → Bool → CallerState O P C R → Type 0
  IsRelease k b true a = (n : ℕ) × GoesBack k b n reported.Left a
  IsRelease k b false a = (n : ℕ) × GoesBack k b n reported.Stepped a × (leaving_at a.stage ≡ true)

module _ {O P C R : Type 0} where
  -- the lock was acquired by at most one look, with a log that extends all that the caller had seen
  pub record HasTried (b : CallerState O P C R) (hold : HoldView O P C R) (a : CallerState O P C R) : Type 0 where
    pub caller : hold.caller ≡ b.caller
    pub grows : Grows b.caller.owned b.seen hold.history.log
    pub run : HasAcquiredAtOnce b.caller b.run hold.history.log a.run

  -- another caller held the lock or was in line, and nothing was done
  pub record WasBusy (b a : CallerState O P C R) : Type 0 where
    pub busy : IsBusy (record { caller = b.caller; seen = b.seen }) (record { caller = a.caller; seen = a.seen })
    pub run : Extends b.caller.owned b.run [] a.run

-- H is a type of holders.
module _ {O P C R H S : Type 0} (g : Ghosts O P C R) (hold_state : H → CallerState O P C R) (state_of : S → CallerState O P C R) where
  -- the caller's state then
  abbrev pub after_poll : Polled H S → CallerState O P C R
  after_poll (polled.Held h looked) = hold_state h
  after_poll (polled.Waits q) = state_of q
  after_poll (polled.Refused q) = state_of q

  abbrev pub after_try : Tried H S → CallerState O P C R
  after_try (tried.Held h) = hold_state h
  after_try (tried.Busy q) = state_of q
  after_try (tried.Refused q) = state_of q

  -- from state b a caller has come to hold the lock, or to wait in line after one failed look
  abbrev pub GoesTo : LockKind → CallerState O P C R → Polled H S → Type 0
  GoesTo k b (polled.Held h looked) = (n : ℕ) × GoesThere g state_of k b n (got_by looked) (hold_state h)
  GoesTo k b (polled.Waits q) = (n : ℕ) × GoesThere g state_of k b n reported.Looked (state_of q)
  GoesTo k b (polled.Refused q) = ⊥

  -- the same of a caller that is idle or at a look; any other is refused, and nothing is done
  abbrev pub IsPolled : LockKind → S → Polled H S → Type 0
  IsPolled k p (polled.Held h looked) = GoesTo k (state_of p) (polled.Held h looked)
  IsPolled k p (polled.Waits q) = GoesTo k (state_of p) (polled.Waits q)
  IsPolled k p (polled.Refused q) = (may_poll (state_of p) ≡ false) × (q ≡ p)

  -- whether a try acquired the lock; a caller that isn't idle is refused, and nothing is done
  abbrev pub IsTried : (H → HoldView O P C R) → S → Tried H S → Type 0
  IsTried view p (tried.Held h) = (is_idle (state_of p) ≡ true) × HasTried (state_of p) (view h) (hold_state h)
  IsTried view p (tried.Busy q) = (is_idle (state_of p) ≡ true) × (is_idle (state_of q) ≡ true) × WasBusy (state_of p) (state_of q)
  IsTried view p (tried.Refused q) = (is_idle (state_of p) ≡ false) × (q ≡ p)

-- P holds of a holder, and Q of a caller
abbrev pub OfPolled : {H S : Type 0} → (H → Type 0) → (S → Type 0) → Polled H S → Type 0
OfPolled P Q (polled.Held h looked) = P h
OfPolled P Q (polled.Waits q) = Q q
OfPolled P Q (polled.Refused q) = Q q

abbrev pub OfTried : {H S : Type 0} → (H → Type 0) → (S → Type 0) → Tried H S → Type 0
OfTried P Q (tried.Held h) = P h
OfTried P Q (tried.Busy q) = Q q
OfTried P Q (tried.Refused q) = Q q
