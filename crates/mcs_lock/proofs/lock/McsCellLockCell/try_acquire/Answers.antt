use Rattle.std.proofs.{Common.{refl, subst, [], ◌∷◌, true, arith}, lemmas.Result.{IfOk-weaker, IfErr-weaker}}
use Rattle.word_rule.specs.{Cell.Grows, LockRuns.Extends, Passes.{view_of_pass, run_of_pass, state_of_pass, state_of_hold}}
use Rattle.word_rule.proofs.{Acting.{takes_log, busy_by}, Lists.grows_then, OneHolds.acquired_at_once, RunLists.extends_after}
use Rattle.mcs_lock.specs.Passes.{state_of_trying}
use Rattle.word_rule.specs.declared.machine.step_done.StepDone.TheVariants as steps
use Rattle.mcs_lock.proofs.lock.McsCellLockCell.try_acquire.Goals as goal

pub returns-clause-grows : goal.returns-clause-grows
returns-clause-grows g c = let p = view_of_pass c.args.pass in let prepare = state_of_trying c.prepare-trying.result in let m = c.prepare-trying.ensures.step in
    IfOk-weaker c.try_enter.result _ _
    (λ h e. grows_then p.caller.owned p.seen prepare.seen h.inside.logged.log m.grows (subst (λ k. Grows k.owned prepare.seen h.inside.logged.log) m.caller (takes_log g.O.SeqObject _ _ _ h.inside.logged prepare (state_of_hold h) e.1 refl)))
    c.try_enter.ensures.got

pub returns-clause-busy : goal.returns-clause-busy
returns-clause-busy g c =
    IfErr-weaker c.try_enter.result _ _ (λ p e. busy_by g.O.SeqObject _ _ _ _ _ (state_of_pass c.args.pass) (state_of_trying c.prepare-trying.result) (state_of_pass p) c.prepare-trying.ensures.step e.1) c.try_enter.ensures.busy

pub returns-clause-run : goal.returns-clause-run
returns-clause-run g c = let p = c.args.pass in let t = state_of_trying c.prepare-trying.result in let m = c.prepare-trying.ensures.step in
    IfOk-weaker c.try_enter.result _ _
    (λ h e. (
      0,
      omega arith,
      acquired_at_once g.O.SeqObject (view_of_pass p).caller (run_of_pass p) 0 h.inside.logged [] (steps.Clear ∷ steps.Enter true ∷ []) _ _ t (state_of_hold h) record { before = steps.Clear ∷ []; last = steps.Enter true; is = refl; got = refl; once = refl; arrived = refl; unended = refl } (omega arith) (m.caller, m.extends) e.1 refl h.holds.ran.left,
    ))
    c.try_enter.ensures.got

pub returns-clause-busy_run : goal.returns-clause-busy_run
returns-clause-busy_run g c = let p = c.args.pass in let t = state_of_trying c.prepare-trying.result in let m = c.prepare-trying.ensures.step in
    IfErr-weaker c.try_enter.result _ _ (λ q e. extends_after (view_of_pass p).caller.owned (run_of_pass p) t.run [] (run_of_pass q) m.extends (subst (λ k. Extends k.owned t.run [] (run_of_pass q)) m.caller e.1.made.extends)) c.try_enter.ensures.busy
