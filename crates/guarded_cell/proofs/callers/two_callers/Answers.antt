use Rattle.std.proofs.Common.{sym, ap, subst, ◌∙◌}
use Rattle.guarded_cell.proofs.{Called.{called_met, ended, ended_full}, HeldCalls.held_still}
use Rattle.word_rule.specs.LockRuns.{HasRun}
use Rattle.guarded_cell.proofs.callers.two_callers.Goals as goal

pub returns-clause-ended : goal.returns-clause-ended
returns-clause-ended g c =
    let pass_view = g.C.LockCell.pass_view in
    let is_valid = (g.met.C.LockCell g.world.𝓛 g.world.𝓜 g.world.𝓡 ((λ s x. x), (λ x. x), (λ x. x), λ x. x)).pass_is_valid c.args.cell in
    let both = c.call_on_two_threads-first in
    let f = both.ensures.first in
    let s = both.ensures.second in
    let m = c.meet-first in
    let j = c.join-pass in
    let log = (pass_view j.result).seen in
    ended g.O.SeqObject (pass_view j.result) c.close.result (is_valid j.result j.ensures.pass) c.close.ensures.log (pass_view c.args.passes.0) (pass_view c.args.passes.1) _ _
    (j.ensures.first_cell ∙ ap (λ x. x.cell) (m.ensures.first_caller ∙ f.caller))
    (called_met (pass_view c.args.passes.0) (pass_view both.result.0.0) (pass_view m.result.0) _ log (is_valid c.args.passes.0 c.requires.first).caller f.called f.caller m.ensures.first_caller m.ensures.first_grows j.ensures.first_grows)
    (called_met (pass_view c.args.passes.1) (pass_view both.result.1.0) (pass_view m.result.1) _ log (is_valid c.args.passes.1 c.requires.second).caller s.called s.caller m.ensures.second_caller m.ensures.second_grows j.ensures.second_grows)

pub returns-clause-first_full : goal.returns-clause-first_full
returns-clause-first_full g c less =
    let pass_view = g.C.LockCell.pass_view in
    let is_valid = (g.met.C.LockCell g.world.𝓛 g.world.𝓜 g.world.𝓡 ((λ s x. x), (λ x. x), (λ x. x), λ x. x)).pass_is_valid c.args.cell in
    let both = c.call_on_two_threads-first in
    let f = both.ensures.first in
    let m = c.meet-first in
    let j = c.join-pass in
    ended_full g.O.SeqObject (pass_view j.result) c.close.result (is_valid j.result j.ensures.pass) c.close.ensures.log (pass_view both.result.0.0).seen (pass_view c.args.passes.0) (pass_view m.result.0)
    (j.ensures.first_cell ∙ ap (λ x. x.cell) (m.ensures.first_caller ∙ f.caller)) m.ensures.first_grows.begins j.ensures.first_grows.begins (f.full less)

pub returns-clause-second_full : goal.returns-clause-second_full
returns-clause-second_full g c less =
    let pass_view = g.C.LockCell.pass_view in
    let is_valid = (g.met.C.LockCell g.world.𝓛 g.world.𝓜 g.world.𝓡 ((λ s x. x), (λ x. x), (λ x. x), λ x. x)).pass_is_valid c.args.cell in
    let both = c.call_on_two_threads-first in
    let s = both.ensures.second in
    let m = c.meet-first in
    let j = c.join-pass in
    ended_full g.O.SeqObject (pass_view j.result) c.close.result (is_valid j.result j.ensures.pass) c.close.ensures.log (pass_view both.result.1.0).seen (pass_view c.args.passes.1) (pass_view m.result.1)
    (j.ensures.second_cell ∙ ap (λ x. x.cell) (m.ensures.second_caller ∙ s.caller)) m.ensures.second_grows.begins j.ensures.second_grows.begins (s.full less)

pub returns-clause-order_run : goal.returns-clause-order_run
returns-clause-order_run g c =
    let pass_view = g.C.LockCell.pass_view in
    let pass_run = g.C.LockCell.pass_run in
    let has_run = (g.met.C.LockCell g.world.𝓛 g.world.𝓜 g.world.𝓡 ((λ s x. x), (λ x. x), (λ x. x), λ x. x)).pass_has_run c.args.cell in
    let both = c.call_on_two_threads-first in
    let f = both.ensures.first in
    let s = both.ensures.second in
    let m = c.meet-first in
    let j = c.join-pass in
    let first = pass_view c.args.passes.0 in
    let second = pass_view c.args.passes.1 in
    let cell = j.ensures.first_cell ∙ ap (λ x. x.cell) (m.ensures.first_caller ∙ f.caller) in
    let log = ap (λ x. x.log) c.close.ensures.log in
    let ran = subst (λ z. HasRun z (pass_view j.result).seen (pass_run j.result)) cell (has_run j.result j.ensures.pass) in
    let run = pass_run j.result in
    let second_cell = j.ensures.second_cell ∙ ap (λ x. x.cell) (m.ensures.second_caller ∙ s.caller) in
    let same_cell = sym second_cell ∙ cell in
    record {
      run = run;
      ran = subst (λ l. HasRun first.caller.cell l run) (sym log) ran;
      one_cell = same_cell;
      in_order = c.close.ensures.run;
      first_held = held_still g.O.SeqObject first.caller (pass_view m.result.0).caller (pass_run c.args.passes.0) (pass_run m.result.0) run _
          (held_still g.O.SeqObject first.caller (pass_view both.result.0.0).caller (pass_run c.args.passes.0) (pass_run both.result.0.0) (pass_run m.result.0) _ both.ensures.first_run f.caller m.ensures.first_run) (m.ensures.first_caller ∙ f.caller) j.ensures.first_run;
      second_held = held_still g.O.SeqObject second.caller (pass_view m.result.1).caller (pass_run c.args.passes.1) (pass_run m.result.1) run _
          (held_still g.O.SeqObject second.caller (pass_view both.result.1.0).caller (pass_run c.args.passes.1) (pass_run both.result.1.0) (pass_run m.result.1) _ both.ensures.second_run s.caller m.ensures.second_run) (m.ensures.second_caller ∙ s.caller) j.ensures.second_run;
    }
