-- What a poll or a try does at an MCS lock, step by step.
use Rattle.std.specs.{declared.cmp.PartialEq.{Ghosts as Eq}, declared.default.Default.{Ghosts as Default}}
use Rattle.std.proofs.Common.{◌∙◌, suc, true, false, true≢false, [], ◌∷◌, refl, sym, subst, arith}
use Rattle.event_log.specs.declared.object.SeqObject.{Ghosts}
use Rattle.sound_run.specs.declared.lock_kind.LockKind.TheVariants.{Mcs}
use Rattle.word_rule.specs.{declared.lock_kind.Stage.TheVariants.Idle, declared.hold.Hold.Hold, declared.pass.Pass.Pass, declared.progress.Polled.Polled, Cell.{Caller, Lawful}, CallerState.{CallerState, Moves}, LockRuns.Extends, OneHold.silently, Mcs.Steps.{IsClear, IsReady, IsTryEnter}, Passes.{view_of_hold, state_of_pass, state_of_hold}, Polls.{GoesTo, HasTried, IsPolled, IsStepThere, WasBusy}}
use Rattle.word_rule.proofs.{Acting.{busy_by, takes_log}, CallerFacts.grows_on, OneHolds.acquired_at_once, RunLists.extends_after}
use Rattle.mcs_lock.specs.{declared.states.Trying.{Trying as TryingCaller}, Passes.state_of_trying}
use Rattle.word_rule.specs.declared.machine.step_done.StepDone.TheVariants as steps
use Rattle.word_rule.specs.declared.progress.Polled.TheVariants as polled
use Rattle.word_rule.specs.declared.progress.Progress.TheVariants as reported

module _ {O P C R : Type 0} (g : Ghosts O P C R) where
  -- a caller that rested is made a pass, and clears its `next`
  pub clear_woken : (a b c : CallerState O P C R) → Moves g Idle Idle [] a b → IsClear g b c → IsClear g a c
  clear_woken a b c m n = record {
    caller = n.caller ∙ m.caller;
    from = m.from;
    to = n.to;
    grows = grows_on a b c.seen m.caller m.grows n.grows;
    still = λ holds. absurd (true≢false (sym holds));
    extends = extends_after a.caller.owned a.run b.run (silently a.caller.acting (steps.Clear ∷ [])) c.run m.extends (subst (λ (k : Caller O P C R). Extends k.owned b.run (silently k.acting (steps.Clear ∷ [])) c.run) m.caller n.extends);
    valid = subst (λ (k : Caller O P C R). Lawful g k.cell c.seen) m.caller n.valid;
    has = n.has ∙ m.has;
  }

-- H is a type of holders, and S of callers.
module _ {O P C R H S : Type 0} (g : Ghosts O P C R) (hold_state : H → CallerState O P C R) (state_of : S → CallerState O P C R) where
  -- two steps that look at nothing, and then others
  pub goes_after : (b : CallerState O P C R) (m n : S) (r : Polled H S) → IsStepThere g Mcs reported.Stepped b (state_of m) → IsStepThere g Mcs reported.Stepped (state_of m) (state_of n)
      → GoesTo g hold_state state_of Mcs (state_of n) r → GoesTo g hold_state state_of Mcs b r
  goes_after b m n (polled.Held h looked) first second gone = (suc (suc gone.0), (m, first, (n, second, gone.1)))
  goes_after b m n (polled.Waits q) first second gone = (suc (suc gone.0), (m, first, (n, second, gone.1)))
  goes_after b m n (polled.Refused q) first second gone = gone

  -- a caller that goes there has been polled
  pub goes_polled : (p : S) (r : Polled H S) → GoesTo g hold_state state_of Mcs (state_of p) r → IsPolled g hold_state state_of Mcs p r
  goes_polled p (polled.Held h looked) gone = gone
  goes_polled p (polled.Waits q) gone = gone
  goes_polled p (polled.Refused q) gone = absurd gone

module _ {O P C R : Type 0} (g : Ghosts O P C R) {call_eq : Eq C} {call_default : Default C} {reply_eq : Eq R} {reply_default : Default R} where
  -- a try that acquires the lock, and one that doesn't
  pub has_tried : (b : CallerState O P C R) (t : TryingCaller O P C R g call_eq call_default reply_eq reply_default) (h : Hold O P C R g call_eq call_default reply_eq reply_default) → IsReady g b (state_of_trying t) → IsTryEnter g (state_of_trying t) (state_of_hold h) true → HasTried b (view_of_hold h) (state_of_hold h)
  has_tried b t h m e = record {
    caller = e.caller ∙ m.caller;
    grows = grows_on b (state_of_trying t) h.inside.logged.log m.caller m.grows (takes_log g _ _ _ h.inside.logged (state_of_trying t) (state_of_hold h) e refl);
    run = (
      0,
      omega arith,
      acquired_at_once g b.caller b.run 0 h.inside.logged [] (steps.Clear ∷ steps.Enter true ∷ []) _ _ (state_of_trying t) (state_of_hold h) record { before = steps.Clear ∷ []; last = steps.Enter true; is = refl; got = refl; once = refl; arrived = refl; unended = refl } (omega arith) (m.caller, m.extends) e refl h.holds.ran.left,
    );
  }

  pub was_busy : (b : CallerState O P C R) (t : TryingCaller O P C R g call_eq call_default reply_eq reply_default) (q : Pass O P C R g call_eq call_default reply_eq reply_default) → IsReady g b (state_of_trying t) → IsTryEnter g (state_of_trying t) (state_of_pass q) false → WasBusy b (state_of_pass q)
  was_busy b t q m e = record {
    busy = busy_by g _ _ _ _ _ b (state_of_trying t) (state_of_pass q) m e;
    run = extends_after b.caller.owned b.run (state_of_trying t).run [] (state_of_pass q).run m.extends (subst (λ (k : Caller O P C R). Extends k.owned (state_of_trying t).run [] (state_of_pass q).run) m.caller e.made.extends);
  }
