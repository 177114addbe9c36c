-- Calls under a hold, tries and whole calls: the lock is acquired, the call is done, and the lock is released.
use Rattle.std.specs.{declared.cmp.PartialEq.{Ghosts as Eq}, declared.default.Default.{Ghosts as Default}, Prelude.{◌≡◌, ℕ, Bool, true, false, List, Option, Some, None, Result}}
use Rattle.event_log.specs.{declared.object.SeqObject.Ghosts, declared.event.Steps.Steps, declared.logged.NoRoom.NoRoom}
use Rattle.word_rule.specs.{declared.hold.Hold.Hold, CallerState.CallerState, Passes.{state_of_hold, view_of_hold}, Polls.{GoesThere, IsRelease, IsTried, got_by, is_holding, is_idle, may_poll}}
use Rattle.guarded_cell.specs.{declared.cell.AnyCell.AnyCell, declared.any_caller.AnyCaller.AnyCaller, AnyCallers.{holder, state_of_caller}, Kinds.kind_of}
use Rattle.cell_callers.specs.{declared.whole.Whole.Whole, declared.whole.TriedCall.TriedCall, Applies.{IsHeldApply, IsHeldBatch}}
use Rattle.word_rule.specs.declared.progress.Progress.TheVariants as reported
use Rattle.word_rule.specs.declared.progress.Tried.TheVariants as polled
use Rattle.cell_callers.specs.declared.whole.Whole.TheVariants as whole
use Rattle.cell_callers.specs.declared.whole.TriedCall.TheVariants as tried

module _ {O P C R : Type 0} (g : Ghosts O P C R) {call_eq : Eq C} {call_default : Default C} {reply_eq : Eq R} {reply_default : Default R} where
  abbrev state : AnyCaller O P C R g call_eq call_default reply_eq reply_default → CallerState O P C R
  state = state_of_caller

  -- a call under a hold; a caller that doesn't hold the lock is refused, and nothing is done
  abbrev pub IsApplied : AnyCell O P C R → AnyCaller O P C R g call_eq call_default reply_eq reply_default → C → Option (Result R NoRoom) → AnyCaller O P C R g call_eq call_default reply_eq reply_default → Type 0
  IsApplied c p call (Some said) q = (h k : Hold O P C R g call_eq call_default reply_eq reply_default) × (p ≡ holder c h) × IsHeldApply g h call said k × (q ≡ holder c k)
  IsApplied c p call None q = (is_holding (state p) ≡ false) × (q ≡ p)

  -- whether a try acquired the lock; a caller that isn't idle is refused, and nothing is done
  abbrev pub IsTriedBy : AnyCell O P C R → AnyCaller O P C R g call_eq call_default reply_eq reply_default → Option Bool → AnyCaller O P C R g call_eq call_default reply_eq reply_default → Type 0
  IsTriedBy c p (Some true) q = (h : Hold O P C R g call_eq call_default reply_eq reply_default) × (q ≡ holder c h) × IsTried g state_of_hold state view_of_hold p (polled.Held h)
  IsTriedBy c p (Some false) q = IsTried g (λ (h : Hold O P C R g call_eq call_default reply_eq reply_default). state_of_hold h) state view_of_hold p (polled.Busy q)
  IsTriedBy c p None q = IsTried g (λ (h : Hold O P C R g call_eq call_default reply_eq reply_default). state_of_hold h) state view_of_hold p (polled.Refused q)

  -- that was done under the hold, and then the lock was released, or will be
  pub record IsHeldCall (deed : Hold O P C R g call_eq call_default reply_eq reply_default → Hold O P C R g call_eq call_default reply_eq reply_default → Type 0) (c : AnyCell O P C R) (h : Hold O P C R g call_eq call_default reply_eq reply_default) (is_back : Bool) (q : AnyCaller O P C R g call_eq call_default reply_eq reply_default) : Type 0 where
    pub left : Hold O P C R g call_eq call_default reply_eq reply_default
    pub done : deed h left
    pub back : IsRelease g state (kind_of c) (state_of_hold left) is_back (state q)

  -- the lock was acquired by these steps, and then that was done under the hold
  pub record HasCalledWhole (deed : Hold O P C R g call_eq call_default reply_eq reply_default → Hold O P C R g call_eq call_default reply_eq reply_default → Type 0) (c : AnyCell O P C R) (p : AnyCaller O P C R g call_eq call_default reply_eq reply_default) (looked is_back : Bool) (q : AnyCaller O P C R g call_eq call_default reply_eq reply_default) : Type 0 where
    pub steps : ℕ
    pub got : Hold O P C R g call_eq call_default reply_eq reply_default
    pub there : GoesThere g state (kind_of c) (state p) steps (got_by looked) (state_of_hold got)
    pub held : IsHeldCall deed c got is_back q

  -- how far a whole call came, with its answer; if it waits, it only had one failed look; if it is refused, nothing was done
  abbrev pub IsWhole : {D : Type 0} → (D → Hold O P C R g call_eq call_default reply_eq reply_default → Hold O P C R g call_eq call_default reply_eq reply_default → Type 0) → AnyCell O P C R → AnyCaller O P C R g call_eq call_default reply_eq reply_default → Whole D → AnyCaller O P C R g call_eq call_default reply_eq reply_default → Type 0
  IsWhole deed c p (whole.Done said looked) q = HasCalledWhole (deed said) c p looked true q
  IsWhole deed c p (whole.Kept said looked) q = HasCalledWhole (deed said) c p looked false q
  IsWhole deed c p whole.Waits q = (n : ℕ) × GoesThere g state (kind_of c) (state p) n reported.Looked (state q)
  IsWhole deed c p whole.Refused q = (may_poll (state p) ≡ false) × (q ≡ p)

  -- the lock was acquired at once, and then that was done under the hold
  pub record HasTriedCall (deed : Hold O P C R g call_eq call_default reply_eq reply_default → Hold O P C R g call_eq call_default reply_eq reply_default → Type 0) (c : AnyCell O P C R) (p : AnyCaller O P C R g call_eq call_default reply_eq reply_default) (is_back : Bool) (q : AnyCaller O P C R g call_eq call_default reply_eq reply_default) : Type 0 where
    pub got : Hold O P C R g call_eq call_default reply_eq reply_default
    pub there : IsTried g state_of_hold state view_of_hold p (polled.Held got)
    pub held : IsHeldCall deed c got is_back q

  -- how far a whole call by a try came
  abbrev pub IsTriedWhole : {D : Type 0} → (D → Hold O P C R g call_eq call_default reply_eq reply_default → Hold O P C R g call_eq call_default reply_eq reply_default → Type 0) → AnyCell O P C R → AnyCaller O P C R g call_eq call_default reply_eq reply_default → TriedCall D → AnyCaller O P C R g call_eq call_default reply_eq reply_default → Type 0
  IsTriedWhole deed c p (tried.Done said) q = HasTriedCall (deed said) c p true q
  IsTriedWhole deed c p (tried.Kept said) q = HasTriedCall (deed said) c p false q
  IsTriedWhole deed c p tried.Busy q = IsTriedBy c p (Some false) q
  IsTriedWhole deed c p tried.Refused q = (is_idle (state p) ≡ false) × (q ≡ p)

  -- a whole call, a batch, and a call by a try
  abbrev pub IsCalled : AnyCell O P C R → AnyCaller O P C R g call_eq call_default reply_eq reply_default → C → Whole (Result R NoRoom) → AnyCaller O P C R g call_eq call_default reply_eq reply_default → Type 0
  IsCalled c p call w q = IsWhole (λ said h k. IsHeldApply g h call said k) c p w q

  abbrev pub IsBatched : AnyCell O P C R → AnyCaller O P C R g call_eq call_default reply_eq reply_default → List C → Whole (Result (Steps O P C R) NoRoom) → AnyCaller O P C R g call_eq call_default reply_eq reply_default → Type 0
  IsBatched c p calls w q = IsWhole (λ said h k. IsHeldBatch g h calls said k) c p w q

  abbrev pub IsTryCalled : AnyCell O P C R → AnyCaller O P C R g call_eq call_default reply_eq reply_default → C → TriedCall (Result R NoRoom) → AnyCaller O P C R g call_eq call_default reply_eq reply_default → Type 0
  IsTryCalled c p call w q = IsTriedWhole (λ said h k. IsHeldApply g h call said k) c p w q
