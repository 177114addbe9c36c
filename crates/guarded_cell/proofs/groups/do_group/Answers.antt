use Rattle.std.proofs.Common.{◌≡◌, [], ◌∷◌, length, sym, subst, arith}
use Rattle.event_log.specs.Log.{Fulfils}
use Rattle.sound_run.proofs.Slices.{read_get}
use Rattle.guarded_cell.proofs.Additions.{fulfils_one, only_one}
use Rattle.guarded_cell.proofs.groups.do_group.Goals as goal

pub returns-clause-asked : goal.returns-clause-asked
returns-clause-asked g c =
    let x = c.index-calls-0.result in
    let calls = c.args.calls.now in
    let one : length calls ≡ 1 = omega (arith, c.if-calls-ne1.false) in
    let all : calls ≡ x ∷ [] = only_one calls x one (read_get calls 0 x (omega (arith, one)) c.index-calls-0.is) in
    subst (λ s. Fulfils g.O.SeqObject calls s.list.items) (sym c.one.ensures) (fulfils_one g.O.SeqObject x c.in_ok-reply.reply calls all)
