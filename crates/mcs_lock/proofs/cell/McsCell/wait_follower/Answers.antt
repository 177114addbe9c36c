use Rattle.std.proofs.Common.{◌∙◌, refl, [], true, false}
use Rattle.word_rule.specs.{declared.lock_kind.Stage.TheVariants.Mcs, declared.lock_kind.McsStage.TheVariants.Leaving}
use Rattle.word_rule.proofs.RunLists.{extends_self}
use Rattle.mcs_lock.specs.Passes.{state_of_leaving, state_of_passing}
use Rattle.mcs_lock.proofs.McsActing.{same_held, seen_more}
use Rattle.mcs_lock.proofs.cell.McsCell.wait_follower.Goals as goal

pub loop-init : goal.loop-init
loop-init g c = let l = state_of_leaving c.args.leaving in
    record { leaving = c.requires; hold_view = refl; seen = record { done = []; arrived = refl; blind = refl; unended = refl; caller = refl; extends = extends_self l.caller.owned l.run; still = refl; has = refl } }

pub returns-in-Ok-clause-run : goal.returns-in-Ok-clause-run
returns-in-Ok-clause-run g c = seen_more g.O.SeqObject true _ _ (state_of_leaving c.args.leaving) (state_of_leaving c.loop.leaving) (state_of_passing c.in-Ok.passing) c.loop.invariant.seen c.in-Ok.ensures.found.1.2.made refl

pub loop-preserved : goal.loop-preserved
loop-preserved g c = let l = c.loop.leaving in let again = c.in-Err.again in let e = c.in-Err.ensures.missed in record {
  leaving = e.0;
  hold_view = same_held g.O.SeqObject l.inside.outside.key.value again.inside.outside.key.value _ _ (Mcs Leaving) (Mcs Leaving) _ l.inside.logged again.inside.logged l.inside.outside.seat.me again.inside.outside.seat.me e.1.made ∙ c.loop.invariant.hold_view;
  seen = seen_more g.O.SeqObject false _ _ (state_of_leaving c.args.leaving) (state_of_leaving l) (state_of_leaving again) c.loop.invariant.seen e.1.made refl;
}
