-- How far a caller comes, told of its lock's own type of callers, is told of callers of either kind.
use Rattle.std.proofs.Common.{◌≡◌, ℕ, zero, suc, Bool, true, false, ap, sym, subst}
use Rattle.event_log.specs.declared.object.SeqObject.{Ghosts}
use Rattle.sound_run.specs.declared.lock_kind.LockKind.{LockKind}
use Rattle.word_rule.specs.{declared.progress.Polled.Polled, declared.progress.Progress.Progress, CallerState.CallerState, Polls.{IsStepThere, IsStepBack, GoesThere, GoesBack, GoesTo, IsPolled, IsRelease, got_by, leaving_at, may_poll}}
use Rattle.guarded_cell.specs.AnyCallers.{map_polled}
use Rattle.word_rule.specs.declared.progress.Polled.TheVariants as polled
use Rattle.word_rule.specs.declared.progress.Progress.TheVariants as reported

-- T has a caller for each of S, in the same state.
module _ {O P C R S T : Type 0} (g : Ghosts O P C R) (state : S → CallerState O P C R) (state' : T → CallerState O P C R) (to : S → T) (same : (s : S) → state' (to s) ≡ state s) where
  pub there_of : (k : LockKind) (b : CallerState O P C R) (n : ℕ) (t : Progress) (a : CallerState O P C R) → GoesThere g state k b n t a → GoesThere g state' k b n t a
  there_of k b zero t a gone = gone
  there_of k b (suc n) t a (m, step, gone) = (to m, subst (λ z. IsStepThere g k reported.Stepped b z) (sym (same m)) step, there_of k (state' (to m)) n t a (subst (λ z. GoesThere g state k z n t a) (sym (same m)) gone))

  pub back_of : (k : LockKind) (b : CallerState O P C R) (n : ℕ) (t : Progress) (a : CallerState O P C R) → GoesBack g state k b n t a → GoesBack g state' k b n t a
  back_of k b zero t a gone = gone
  back_of k b (suc n) t a (m, step, gone) = (to m, subst (λ z. IsStepBack g k reported.Stepped b z) (sym (same m)) step, back_of k (state' (to m)) n t a (subst (λ z. GoesBack g state k z n t a) (sym (same m)) gone))

  pub released_of : (k : LockKind) (b : CallerState O P C R) (is_back : Bool) (q : S) → IsRelease g state k b is_back (state q) → IsRelease g state' k b is_back (state' (to q))
  released_of k b true q (n, gone) = (n, subst (λ z. GoesBack g state' k b n reported.Left z) (sym (same q)) (back_of k b n reported.Left (state q) gone))
  released_of k b false q (n, gone, leaves) = (n, subst (λ z. GoesBack g state' k b n reported.Stepped z) (sym (same q)) (back_of k b n reported.Stepped (state q) gone), subst (λ z. leaving_at z.stage ≡ true) (sym (same q)) leaves)

module _ {O P C R H S T : Type 0} (g : Ghosts O P C R) (hold_state : H → CallerState O P C R) (state : S → CallerState O P C R) (state' : T → CallerState O P C R) (to : S → T) (same : (s : S) → state' (to s) ≡ state s) where
  pub goes_of : (k : LockKind) (b : CallerState O P C R) (r : Polled H S) → GoesTo g hold_state state k b r → GoesTo g hold_state state' k b (map_polled to r)
  goes_of k b (polled.Held h looked) (n, gone) = (n, there_of g state state' to same k b n (got_by looked) (hold_state h) gone)
  goes_of k b (polled.Waits q) (n, gone) = (n, subst (λ z. GoesThere g state' k b n reported.Looked z) (sym (same q)) (there_of g state state' to same k b n reported.Looked (state q) gone))
  goes_of k b (polled.Refused q) gone = gone

  pub polled_of : (k : LockKind) (p : S) (r : Polled H S) → IsPolled g hold_state state k p r → IsPolled g hold_state state' k (to p) (map_polled to r)
  polled_of k p (polled.Held h looked) gone = subst (λ z. GoesTo g hold_state state' k z (polled.Held h looked)) (sym (same p)) (goes_of k (state p) (polled.Held h looked) gone)
  polled_of k p (polled.Waits q) gone = subst (λ z. GoesTo g hold_state state' k z (polled.Waits (to q))) (sym (same p)) (goes_of k (state p) (polled.Waits q) gone)
  polled_of k p (polled.Refused q) (refused, is) = (subst (λ z. may_poll z ≡ false) (sym (same p)) refused, ap to is)
