use Rattle.std.proofs.Common.{refl, [], ◌∷◌, true, false, arith}
use Rattle.word_rule.proofs.{Acting.takes_log, CallerFacts.grows_on, OneHolds.{since_moved, acquired_at_once, acquired_queued}}
use Rattle.mcs_lock.specs.Passes.{state_of_ready, state_of_behind}
use Rattle.word_rule.specs.Passes.{view_of_pass, run_of_pass, run_of_hold, state_of_pass, state_of_hold}
use Rattle.word_rule.specs.declared.machine.step_done.StepDone.TheVariants as steps
use Rattle.mcs_lock.proofs.lock.McsCellLockCell.acquire.Goals as goal

pub returns-in-Hold-clause-grows : goal.returns-in-Hold-clause-grows
returns-in-Hold-clause-grows g c = let r = c.clear-ready.result in let h = c.in-Hold.hold in let clear = c.clear-ready.ensures.step in
    grows_on (state_of_pass c.args.pass) (state_of_ready r) h.inside.logged.log clear.caller clear.grows (takes_log g.O.SeqObject _ _ _ h.inside.logged (state_of_ready r) (state_of_hold h) c.in-Hold.ensures.got.1 refl)

pub returns-in-Hold-clause-run : goal.returns-in-Hold-clause-run
returns-in-Hold-clause-run g c = let p = c.args.pass in let clear = c.clear-ready.ensures.step in
    acquired_at_once g.O.SeqObject (view_of_pass p).caller (run_of_pass p) 0 c.in-Hold.hold.inside.logged (steps.Clear ∷ []) (steps.Enter true ∷ []) _ _ (state_of_ready c.clear-ready.result) (state_of_hold c.in-Hold.hold) record { before = steps.Clear ∷ []; last = steps.Enter true; is = refl; got = refl; once = refl; arrived = refl; unended = refl } (omega arith) (clear.caller, clear.extends) c.in-Hold.ensures.got.1 refl c.in-Hold.hold.holds.ran.left

pub returns-in-Behind-clause-grows : goal.returns-in-Behind-clause-grows
returns-in-Behind-clause-grows g c = let r = c.clear-ready.result in let b = c.in-Behind.behind in let h = c.wait_behind.result.0 in let clear = c.clear-ready.ensures.step in let enter = c.in-Behind.ensures.queued.1.2.made in
    grows_on (state_of_pass c.args.pass) (state_of_ready r) h.inside.logged.log clear.caller clear.grows (grows_on (state_of_ready r) (state_of_behind b) h.inside.logged.log enter.caller enter.grows c.wait_behind.ensures.grows)

pub returns-in-Behind-clause-run : goal.returns-in-Behind-clause-run
returns-in-Behind-clause-run g c = let p = c.args.pass in let r = state_of_ready c.clear-ready.result in let b = state_of_behind c.in-Behind.behind in let clear = c.clear-ready.ensures.step in let enter = c.in-Behind.ensures.queued.1.2.made in
    acquired_queued (view_of_pass p).caller (run_of_pass p) (steps.Clear ∷ steps.Enter false ∷ []) [] c.wait_behind.result.1 c.wait_behind.result.0.inside.logged.log (run_of_hold c.wait_behind.result.0) b record { arrived = refl; got = refl; unended = refl; looked = refl } (since_moved g.O.SeqObject (view_of_pass p).caller (run_of_pass p) (steps.Clear ∷ []) (steps.Enter false ∷ []) _ _ r b (clear.caller, clear.extends) enter) c.wait_behind.ensures.run
