use Rattle.std.proofs.Common.{◌∙◌, zero, suc, true, ap, refl, subst, sym}
use Rattle.guarded_cell.specs.declared.cell.AnyCell.TheVariants.{Ticket}
use Rattle.cell_callers.specs.Callers.{IsOne}
use Rattle.cell_callers.proofs.Places.{stands_idle, stands_in_line}
use Rattle.ticket_lock.specs.declared.caller.TicketCaller.TheVariants as at_ticket
use Rattle.guarded_cell.specs.declared.any_caller.AnyCaller.TheVariants as callers
use Rattle.cell_callers.specs.declared.whole.Whole.TheVariants as whole
use Rattle.cell_callers.proofs.straight.straight_ticket.Goals as goal

pub serve-requires : goal.serve-requires
serve-requires c = c.apply_held.ensures.of (Ticket c.args.cell.now) c.in-Ok.ensures.got.0

pub returns-in-Ok : goal.returns-in-Ok
returns-in-Ok c =
    let drew = c.in-Ok.ensures.got.1 in
    let idle = callers.Ticket (at_ticket.Idle c.serve.result) in
    let stands = stands_idle (Ticket c.args.cell.now) _ _ _ c.serve.result refl c.requires.away.1 c.requires.away.2 in
    let same = c.serve.ensures.step.1.caller ∙ (c.apply_held.ensures.caller ∙ (drew.3.1.caller ∙ drew.2.1.caller)) in
    record {
      place = (idle, stands, c.serve.ensures.pass, subst IsOne (sym same) c.requires.one);
      reports = (
        whole.Done c.apply_held.result true,
        idle,
        (c.answer_code-reported.ensures, c.count_look.ensures),
        stands,
        record {
          steps = suc zero;
          got = c.in-Ok.hold;
          there = (callers.Ticket (at_ticket.Drawn drew.0), drew.2, drew.3);
          held = record { left = c.apply_held.new.hold; done = c.apply_held.ensures.applied; back = (zero, c.serve.ensures.step) };
        },
      );
    }

pub returns-in-Err : goal.returns-in-Err
returns-in-Err c =
    let drew = c.in-Err.ensures.missed.1 in
    let drawn = callers.Ticket (at_ticket.Drawn c.in-Err.drawn) in
    let stands = stands_in_line (Ticket c.args.cell.now) _ _ _ _ c.requires.away.0 c.requires.away.1 c.wait_drawn.ensures.line refl in
    record {
      place = (drawn, stands, c.in-Err.ensures.missed.0, subst IsOne (sym (drew.3.1.made.caller ∙ drew.2.1.caller)) c.requires.one);
      reports = (whole.Waits, drawn, (ap (λ n. (n, c.args.answered.now)) c.wait_drawn.ensures.reported, c.wait_drawn.ensures.looks), stands, (suc zero, (callers.Ticket (at_ticket.Drawn drew.0), drew.2, drew.3)));
    }
