use Rattle.std.proofs.Common.{refl, [], ◌∷◌, true, false}
use Rattle.word_rule.specs.{Passes.{view_of_hold, run_of_hold, state_of_pass, state_of_hold}, Rule.Callers.caller_of}
use Rattle.word_rule.proofs.{OneHolds.{HeldSince, held_moved, held_given}, RunLists.extends_self}
use Rattle.mcs_lock.specs.Passes.{state_of_alone, state_of_leaving, state_of_passing}
use Rattle.mcs_lock.proofs.McsActing.{held_seen, releases_seen}
use Rattle.word_rule.specs.declared.machine.step_done.StepDone.TheVariants as steps
use Rattle.mcs_lock.proofs.lock.McsCellLockCell.release.Goals as goal

pub returns-in-Ok-clause-run : goal.returns-in-Ok-clause-run
returns-in-Ok-clause-run g c = let h = c.args.hold in let o = h.inside.outside in let v = view_of_hold h in let run = run_of_hold h in let p = state_of_passing c.in-Ok.passing in
    let start : HeldSince v run [] (state_of_hold h) = record { since = (refl, extends_self (caller_of o.key.value o.seat.me.0).owned run); seen = h.holds.ran.left; has = refl } in
    let saw = held_moved g.O.SeqObject v run [] (steps.See true ∷ []) _ _ (state_of_hold h) p start c.in-Ok.ensures.found.1.2.made refl in
    held_given g.O.SeqObject v run (steps.See true ∷ []) steps.Pass _ _ p (state_of_pass c.pass_on.result) saw record { ended = refl; unended = refl; stays = refl; blind = refl } c.pass_on.ensures.step.2

pub returns-in-Ok-empty-clause-run : goal.returns-in-Ok-empty-clause-run
returns-in-Ok-empty-clause-run g c = let h = c.args.hold in let o = h.inside.outside in let v = view_of_hold h in let run = run_of_hold h in let a = state_of_alone c.in-Err.alone in
    let start : HeldSince v run [] (state_of_hold h) = record { since = (refl, extends_self (caller_of o.key.value o.seat.me.0).owned run); seen = h.holds.ran.left; has = refl } in
    let saw = held_moved g.O.SeqObject v run [] (steps.See false ∷ []) _ _ (state_of_hold h) a start c.in-Err.ensures.none.1 refl in
    held_given g.O.SeqObject v run (steps.See false ∷ []) (steps.Empty true) _ _ a (state_of_pass c.in-Ok-empty.pass) saw record { ended = refl; unended = refl; stays = refl; blind = refl } c.in-Ok-empty.ensures.home.1

pub returns-in-Err-empty-clause-run : goal.returns-in-Err-empty-clause-run
returns-in-Err-empty-clause-run g c = let h = c.args.hold in let o = h.inside.outside in let v = view_of_hold h in let run = run_of_hold h in let a = state_of_alone c.in-Err.alone in let l = state_of_leaving c.in-Err-empty.leaving in let p = state_of_passing c.wait_follower-passing.result in let s = c.wait_follower-passing.ensures.run in
    let start : HeldSince v run [] (state_of_hold h) = record { since = (refl, extends_self (caller_of o.key.value o.seat.me.0).owned run); seen = h.holds.ran.left; has = refl } in
    let saw = held_moved g.O.SeqObject v run [] (steps.See false ∷ []) _ _ (state_of_hold h) a start c.in-Err.ensures.none.1 refl in
    let stayed = held_moved g.O.SeqObject v run (steps.See false ∷ []) (steps.Empty false ∷ []) _ _ a l saw c.in-Err-empty.ensures.missed.1.made refl in
    held_given g.O.SeqObject v run (steps.See false ∷ steps.Empty false ∷ s.done) steps.Pass _ _ p (state_of_pass c.pass_on-in-Err-empty.result) (held_seen g.O.SeqObject v run (steps.See false ∷ steps.Empty false ∷ []) l p stayed s) (releases_seen g.O.SeqObject l p s) c.pass_on-in-Err-empty.ensures.step.2
