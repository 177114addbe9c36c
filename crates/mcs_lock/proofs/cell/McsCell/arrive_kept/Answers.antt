use Rattle.std.proofs.Common.{rules, ℕ, ◌-◌, [], ◌∷◌, subst, arith}
use Rattle.word_rule.specs.{declared.lock_kind.Stage.TheVariants.{Mcs, Trying}, declared.lock_kind.McsStage.TheVariants.{Ready, Behind}, Rule.Callers.{IsWithout, state_without}}
use Rattle.word_rule.proofs.{Acting.{goes_without, moves_without}, CallerFacts.{not_else, is_other, else_now}, KeptSlots.{keeps_from, takes_kept}}
use Rattle.mcs_lock.proofs.{McsActing.named, McsAtOnce.{arrive_now, from_rest}}
use Rattle.word_rule.specs.declared.machine.step_done.StepDone.TheVariants as steps
use Rattle.mcs_lock.proofs.cell.McsCell.arrive_kept.Goals as goal

pub arrive_swapping-found-requires : goal.arrive_swapping-found-requires
arrive_swapping-found-requires g c = let s = c.args.self.now in let a = c.args.rested in let o = a.outside in let words = s.sized.0 in
    (g.met.O.SeqObject.event_fits, (c.requires.table, omega arith, arrive_now g.O.SeqObject s.table.table.shared.key c.args.self.now.kind _ _ o.cpu.number o.seat.me (subst (λ k. IsWithout g.O.SeqObject k o.cpu.number Trying o.seat.me) c.requires.reported a.rests)))

pub invariant_of-result : goal.invariant_of-result
invariant_of-result g c = let a = c.args.rested in let o = a.outside in let t = c.arrive_swapping-found.ensures.2 in
    let w = goes_without g.O.SeqObject o.key.value o.cpu.number _ _ _ o.seat.me t.between a.rests t.clears in
    record { keeps = keeps_from g.O.SeqObject o.key.value o.cpu.number _ _ _ t.between c.arrive_swapping-found.new.seat.me w (t.enters.first c.if-found-eq0.true) }

pub returns-then-found-eq0-clause-got : goal.returns-then-found-eq0-clause-got
returns-then-found-eq0-clause-got g c = let a = c.args.rested in let o = a.outside in let t = c.arrive_swapping-found.ensures.2 in
    let w = goes_without g.O.SeqObject o.key.value o.cpu.number _ _ _ o.seat.me t.between a.rests t.clears in (
      search rules,
      (
        record { outside = record { cpu = o.cpu; key = o.key; seat = record o.seat { me = t.between } }; ready = w },
        c.requires,
        from_rest g.O.SeqObject o.key.value o.seat.me (Mcs Ready) (steps.Clear ∷ []) (state_without o.key.value (Mcs Ready) t.between) (moves_without g.O.SeqObject o.key.value o.cpu.number _ _ _ o.seat.me t.between a.rests t.clears),
        takes_kept g.O.SeqObject o.key.value o.cpu.number _ _ _ t.between c.arrive_swapping-found.new.seat.me w (t.enters.first c.if-found-eq0.true),
      ),
    )

pub invariant_of-result-else-found-eq0 : goal.invariant_of-result-else-found-eq0
invariant_of-result-else-found-eq0 g c = let a = c.args.rested in let o = a.outside in let t = c.arrive_swapping-found.ensures.2 in
    let w = goes_without g.O.SeqObject o.key.value o.cpu.number _ _ _ o.seat.me t.between a.rests t.clears in
    let k : ℕ = c.arrive_swapping-found.result - 1 in
    let b = named g.O.SeqObject (λ p. Mcs (Behind p)) _ c.arrive_swapping-found.result k t.between c.arrive_swapping-found.new.seat.me (t.enters.behind c.if-found-eq0.false) (omega arith) in
    record { behind = goes_without g.O.SeqObject o.key.value o.cpu.number (Mcs Ready) (Mcs (Behind k)) _ t.between c.arrive_swapping-found.new.seat.me w b.0; other = else_now g.O.SeqObject _ _ t.between c.arrive_swapping-found.new.seat.me k b.0 b.1 }

pub returns-else-found-eq0-clause-queued : goal.returns-else-found-eq0-clause-queued
returns-else-found-eq0-clause-queued g c = let a = c.args.rested in let o = a.outside in let t = c.arrive_swapping-found.ensures.2 in
    let w = goes_without g.O.SeqObject o.key.value o.cpu.number _ _ _ o.seat.me t.between a.rests t.clears in
    let k : ℕ = c.arrive_swapping-found.result - 1 in
    let b = named g.O.SeqObject (λ p. Mcs (Behind p)) _ c.arrive_swapping-found.result k t.between c.arrive_swapping-found.new.seat.me (t.enters.behind c.if-found-eq0.false) (omega arith) in (
      search rules,
      (
        record { outside = record { cpu = o.cpu; key = o.key; seat = record o.seat { me = t.between } }; ready = w },
        c.requires,
        from_rest g.O.SeqObject o.key.value o.seat.me (Mcs Ready) (steps.Clear ∷ []) (state_without o.key.value (Mcs Ready) t.between) (moves_without g.O.SeqObject o.key.value o.cpu.number _ _ _ o.seat.me t.between a.rests t.clears),
        (
          k,
          is_other o.key.value t.between k w.at.reported b.1,
          record {
            made = moves_without g.O.SeqObject o.key.value o.cpu.number (Mcs Ready) (Mcs (Behind k)) _ t.between c.arrive_swapping-found.new.seat.me w b.0;
            another = not_else o.key.value t.between k w.at.reported b.1;
          },
        ),
      ),
    )
