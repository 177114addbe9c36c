-- Whole calls of an idle caller, from what its steps have done.
use Rattle.std.specs.{declared.cmp.PartialEq.{Ghosts as Eq}, declared.default.Default.{Ghosts as Default}}
use Rattle.std.proofs.Common.{◌≡◌, ◌∙◌, ℕ, zero, suc, true, false, inl, inr, refl, ap, subst, sym, is_some, Some, Result, Ok, Err}
use Rattle.event_log.specs.{declared.object.SeqObject.Ghosts, declared.logged.NoRoom.NoRoom}
use Rattle.kernel_object.specs.{declared.call.KParams.KParams, declared.call.KCall.KCall, declared.call.KReply.KReply, declared.object.KernelObject.KernelObject, contracts.object.KernelObjectSeqObject.TheImpl.ghosts}
use Rattle.word_rule.specs.{declared.pass.Pass.Pass, declared.hold.Hold.Hold, declared.progress.Polled.Polled, Mcs.Steps.{IsClear, IsEnter}, Passes.{state_of_pass, state_of_hold}, Polls.{GoesTo, IsPolled, after_poll}}
use Rattle.mcs_lock.specs.{declared.cell.McsCell.McsCell, declared.caller.McsCaller.McsCaller, declared.states.Ready.{Ready as ReadyCaller}, declared.states.Behind.{Behind as BehindCaller}, Passes.{state_of_ready, state_of_behind}}
use Rattle.mcs_lock.proofs.McsPolls.{goes_after, goes_polled}
use Rattle.guarded_cell.specs.{declared.cell.AnyCell.AnyCell, AnyCallers.{idle_caller, map_polled, state_of_caller}}
use Rattle.guarded_cell.proofs.PollsOfLocks.{goes_of}
use Rattle.cell_callers.specs.{declared.report_codes.TheConstants.{DONE, LOG_FULL, DONE_HELD, LOG_FULL_HELD}, declared.call_numbers.Answered.Answered, declared.place.CallerPlace.CallerPlace, Applies.IsHeldApply, Callers.IsOne, CallReports.{HasEntered, HasLeft, ReportsCalled, ReportsCalledAt}, Codes.{answer_code, kept_code}, KernelCallers.{KernelCell, KernelHold, KernelPlace, KernelState}, Places.{IsPlaceOf, place_of}}
use Rattle.cell_callers.proofs.Places.{at_place, idle_there}
use Rattle.mcs_lock.specs.Callers as mcs
use Rattle.sound_run.specs.declared.lock_kind.LockKind.TheVariants as kinds
use Rattle.word_rule.specs.declared.progress.Polled.TheVariants as polled
use Rattle.guarded_cell.specs.declared.cell.AnyCell.TheVariants as cells
use Rattle.guarded_cell.specs.declared.any_caller.AnyCaller.TheVariants as callers
use Rattle.mcs_lock.specs.declared.caller.McsCaller.TheVariants as at_mcs
use Rattle.cell_callers.specs.declared.whole.Whole.TheVariants as whole

module _ {O P C R : Type 0} {g : Ghosts O P C R} {call_eq : Eq C} {call_default : Default C} {reply_eq : Eq R} {reply_default : Default R} where
  idle_state : (cell : AnyCell O P C R) (p : Pass O P C R g call_eq call_default reply_eq reply_default) → state_of_caller (idle_caller cell p) ≡ state_of_pass p
  idle_state (cells.Ticket c) p = refl
  idle_state (cells.Mcs c) p = refl

  -- the idle caller of a place with a pass owns one CPU
  pub idle_one : (cell : AnyCell O P C R) (place : CallerPlace O P C R g call_eq call_default reply_eq reply_default) (p : Pass O P C R g call_eq call_default reply_eq reply_default)
      → place.pass ≡ Some p → IsPlaceOf cell place → (place_of cell place ≡ Some (idle_caller cell p)) × IsOne (state_of_pass p).caller
  idle_one cell place p is at =
      let there = (idle_there cell place.pass place.rested place.line p is (ap is_some at.1)).2 in
      (there, subst (λ z. IsOne z.caller) (idle_state cell p) (at_place cell place (idle_caller cell p) at there).1)

  -- a caller of an MCS lock that has lined up is told of as a caller of either kind
  pub lined_caller : (r : Polled (Hold O P C R g call_eq call_default reply_eq reply_default) (McsCaller O P C R g call_eq call_default reply_eq reply_default)) → (after_poll g state_of_hold state_of_caller (map_polled callers.Mcs r)).caller ≡ (after_poll g state_of_hold mcs.state_of_caller r).caller
  lined_caller (polled.Held h looked) = refl
  lined_caller (polled.Waits q) = refl
  lined_caller (polled.Refused q) = refl

  -- it had cleared its `next` and entered behind another
  pub lined_up : (p : callers.the_data O P C R g call_eq call_default reply_eq reply_default) (ready : ReadyCaller O P C R g call_eq call_default reply_eq reply_default) (b : BehindCaller O P C R g call_eq call_default reply_eq reply_default) (r : Polled (Hold O P C R g call_eq call_default reply_eq reply_default) (McsCaller O P C R g call_eq call_default reply_eq reply_default))
      → IsClear g (state_of_caller p) (state_of_ready ready) → IsEnter g (state_of_ready ready) (state_of_behind b) false → GoesTo g state_of_hold mcs.state_of_caller kinds.Mcs (state_of_behind b) r → IsPolled g state_of_hold state_of_caller kinds.Mcs p (map_polled callers.Mcs r)
  lined_up p ready b r clear enter goes =
      goes_polled g state_of_hold state_of_caller p (map_polled callers.Mcs r) (goes_after g state_of_hold state_of_caller (state_of_caller p) (callers.Mcs (at_mcs.Ready ready)) (callers.Mcs (at_mcs.Behind b)) (map_polled callers.Mcs r) (inl clear) (inr (inl enter)) (goes_of g state_of_hold mcs.state_of_caller state_of_caller callers.Mcs (λ s. refl) kinds.Mcs (state_of_behind b) r goes))

-- the caller was in that place, of the same cell
pub called_there : {any cell : KernelCell} (before after : KernelPlace) {p : KernelState} {call : KCall} {old new : Answered} {looks looked n : ℕ}
    → any ≡ cell → place_of cell before ≡ Some p → ReportsCalledAt any call p (old, looks) n after (new, looked) → ReportsCalled cell call before (old, looks) n after (new, looked)
called_there before after {p} {call} {old} {new} {looks} {looked} {n} same there at =
    let done = subst (λ z. ReportsCalledAt z call p (old, looks) n after (new, looked)) same at in
    (done.0, done.2, (p, done.1, there, done.3, done.4))

-- the result where the lock isn't released yet
kept_reported : (said : Result KReply NoRoom) (old new : Answered) (n m : ℕ) → (n, new) ≡ answer_code DONE LOG_FULL old said → m ≡ kept_code n → (m, new) ≡ answer_code DONE_HELD LOG_FULL_HELD old said
kept_reported (Ok reply) old new n m e k = ap (λ z. (z, new)) k ∙ ap (λ z. (kept_code z.0, z.1)) e
kept_reported (Err why) old new n m e k = ap (λ z. (z, new)) k ∙ ap (λ z. (kept_code z.0, z.1)) e

-- a caller of an MCS lock had entered as the first, has done the call, and has left
module _ {any : KernelCell} {cell : McsCell KernelObject KParams KCall KReply} (is : any ≡ cells.Mcs cell) (p : KernelState) (got h : KernelHold) (said : Result KReply NoRoom) (after : KernelPlace) {call : KCall} {old new : Answered} {looks n m : ℕ} where
  pub left : IsOne (state_of_caller p).caller → HasEntered (state_of_caller p) true (state_of_hold got) → (state_of_hold h).caller ≡ (state_of_hold got).caller → IsHeldApply ghosts got call said h → (n, new) ≡ answer_code DONE LOG_FULL old said → HasLeft cell h n m after
      → IsPlaceOf any after × ReportsCalledAt any call p (old, looks) m after (new, looks)
  left one (r, clear, enter) kept done code (true, q, there, of, same, back, coded) = rw is (
    (q, there, of, subst IsOne (sym (same ∙ (kept ∙ (enter.caller ∙ clear.caller)))) one),
    (whole.Done said false, q, (ap (λ z. (z, new)) coded ∙ code, refl), there, record { steps = suc zero; got = got; there = (callers.Mcs (at_mcs.Ready r), inl clear, enter); held = record { left = h; done = done; back = back } }),
  )
  left one (r, clear, enter) kept done code (false, q, there, of, same, back, coded) = rw is (
    (q, there, of, subst IsOne (sym (same ∙ (kept ∙ (enter.caller ∙ clear.caller)))) one),
    (whole.Kept said false, q, (kept_reported said old new n m code coded, refl), there, record { steps = suc zero; got = got; there = (callers.Mcs (at_mcs.Ready r), inl clear, enter); held = record { left = h; done = done; back = back } }),
  )
