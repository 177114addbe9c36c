use denote.{Exit.yes, Param.Send.{param_send, arg_send}}
use Rattle.std.proofs.{Common.{rules, ◌≡◌, length, map, Vec, Global, ◌∙◌}, lemmas.List.length-map}
use Rattle.word_rule.specs.{Cell.cell_of, Passes.{view_of_pass, run_of_pass}}
use Rattle.word_rule.proofs.Sends.{pass_send}
use Rattle.guarded_cell.proofs.ManyEnded.{owns_each, carried_out, ordered_run}
use Rattle.guarded_cell.proofs.on_threads.callers_on_threads.Goals as goal

pub call_each-pass-requires-send-C-Pass : goal.call_each-pass-requires-send-C-Pass
call_each-pass-requires-send-C-Pass g c κs within = param_send _ _
    (arg_send _ yes _ (pass_send _ _ _ _ _ _ _ _ _ c.type_bounds.send-O c.type_bounds.send-O-Params c.type_bounds.send-O-Call
    c.type_bounds.send-O-Reply))

pub close-requires-clause-whole : goal.close-requires-clause-whole
close-requires-clause-whole g c =
    let texts = c.args.scripts.now in
    let scripts = map (λ (s : Vec g.row.O-Call.Denot Global). s.items) texts in
    let cell = cell_of c.args.kind 0 (length texts) c.args.object in
    let passes = c.in_ok-cell.passes.items in
    let b = c.call_each-pass in
    let wide : length passes ≡ length texts = search rules in
    owns_each g.O.SeqObject view_of_pass run_of_pass cell passes scripts b.result.1.items b.result.0
    (λ k p at. ((c.in_ok-cell.ensures.passes k p at).1 ∙ search rules, c.in_ok-cell.ensures.runs k p at)) wide
    (length-map texts (λ (s : Vec g.row.O-Call.Denot Global). s.items)) c.requires.some b.ensures.joined

pub returns-clause-carried_out : goal.returns-clause-carried_out
returns-clause-carried_out g c =
    let texts = c.args.scripts.now in
    let scripts = map (λ (s : Vec g.row.O-Call.Denot Global). s.items) texts in
    let cell = cell_of c.args.kind 0 (length texts) c.args.object in
    let passes = c.in_ok-cell.passes.items in
    let b = c.call_each-pass in
    let wide : length passes ≡ length texts = search rules in
    carried_out g.O.SeqObject view_of_pass run_of_pass cell passes scripts b.result.1.items b.result.0
    (λ k p at. ((c.in_ok-cell.ensures.passes k p at).1 ∙ search rules, c.in_ok-cell.ensures.runs k p at)) wide
    (length-map texts (λ (s : Vec g.row.O-Call.Denot Global). s.items)) c.requires.some b.ensures.joined
    c.close.result b.result.0.idle.pass_view c.close.ensures.log

pub returns-clause-ordered : goal.returns-clause-ordered
returns-clause-ordered g c =
    let texts = c.args.scripts.now in
    let scripts = map (λ (s : Vec g.row.O-Call.Denot Global). s.items) texts in
    let cell = cell_of c.args.kind 0 (length texts) c.args.object in
    let passes = c.in_ok-cell.passes.items in
    let b = c.call_each-pass in
    let wide : length passes ≡ length texts = search rules in
    ordered_run g.O.SeqObject view_of_pass run_of_pass cell passes scripts b.result.1.items b.result.0
    (λ k p at. ((c.in_ok-cell.ensures.passes k p at).1 ∙ search rules, c.in_ok-cell.ensures.runs k p at)) wide
    (length-map texts (λ (s : Vec g.row.O-Call.Denot Global). s.items)) c.requires.some b.ensures.joined
    c.close.result b.result.0.idle.pass_view c.close.ensures.log b.result.0.idle.ran c.close.ensures.run
