use Rattle.std.proofs.{Common.{sym, ◌∙◌, ap, subst, arith, ◌<◌, ◌≤◌, length}, lemmas.Option.slice_get_within}
use Rattle.std.specs.List.{AllByRecursion}
use Rattle.event_log.specs.declared.logged.TheConstants.{MOST_EVENTS}
use Rattle.word_rule.specs.Machine.Shown.{Represents, opened_by}
use Rattle.word_rule.proofs.{MachineKeeps.{at_hand, at_again, not_found, room_at, roomy_next, opened_next, runs_next}, MachineSteps.{Counts, over, shown_cell, shown_lock, lock_ready, done_is, stepped}}
use Rattle.word_rule.proofs.machine.Machine.step.Goals as goal

pub returns-in_default-clause-done : goal.returns-in_default-clause-done
returns-in_default-clause-done g c = λ w h.
    let b = c.self.inside in
    let lt : c.args.cpu < length c.self.inside.scripts.items = subst (λ m. c.args.cpu < length m.scripts) (sym c.self.view_is) c.requires in
    let none = not_found c.deref.result.now c.index-2.result.now.items c.index.result.now.at c.deref.ensures.value c.in_default.ensures.lookup.3 in
    ap (λ r. r.1) (sym (over g.O.SeqObject b.cells.items b.locks.items b.scripts.items b.done.items c.args.cpu lt c.index.result.now c.index.ensures c.index-2.result.now c.index-2.ensures w (subst (λ m. Represents g.O.SeqObject m w) (sym c.self.view_is) h) none))

pub returns-in_default-clause-shows : goal.returns-in_default-clause-shows
returns-in_default-clause-shows g c = λ w h.
    let b = c.self.inside in
    let lt : c.args.cpu < length c.self.inside.scripts.items = subst (λ m. c.args.cpu < length m.scripts) (sym c.self.view_is) c.requires in
    let none = not_found c.deref.result.now c.index-2.result.now.items c.index.result.now.at c.deref.ensures.value c.in_default.ensures.lookup.3 in
    subst (λ r. Represents g.O.SeqObject c.args.self.now r.0) (sym (over g.O.SeqObject b.cells.items b.locks.items b.scripts.items b.done.items c.args.cpu lt c.index.result.now c.index.ensures c.index-2.result.now c.index-2.ensures w (subst (λ m. Represents g.O.SeqObject m w) (sym c.self.view_is) h) none)) h

pub index_mut-requires : goal.index_mut-requires
index_mut-requires g c =
    let b = c.self.inside in let todo = c.in-Some.todo.now in
    let hand = at_hand g.O.SeqObject b.cells.items b.locks.items b.scripts.items b.done.items c.args.cpu c.index.result.now c.index.ensures c.index-2.result.now c.index-2.ensures todo _ c.self.view_is c.self.invariant.0 c.requires c.deref.result.now c.deref.ensures.value c.in-Some.ensures.lookup.3.0 c.in-Some.ensures.lookup.1 in
    let h0 = c.self.invariant.0.shows in let on = hand.2.on_cell in
    omega (arith, on, h0.cells, h0.locks, b.locks.ok.0)

pub index_mut-requires-3 : goal.index_mut-requires-3
index_mut-requires-3 g c =
    let b = c.self.inside in let todo = c.in-Some.todo.now in
    let hand = at_hand g.O.SeqObject b.cells.items b.locks.items b.scripts.items b.done.items c.args.cpu c.index.result.now c.index.ensures c.index-2.result.now c.index-2.ensures todo _ c.self.view_is c.self.invariant.0 c.requires c.deref.result.now c.deref.ensures.value c.in-Some.ensures.lookup.3.0 c.in-Some.ensures.lookup.1 in
    let on = hand.2.on_cell in
    omega (arith, on, b.cells.ok.0)

pub turn-step-requires-clause-shows : goal.turn-step-requires-clause-shows
turn-step-requires-clause-shows g c =
    let b = c.self.inside in let todo = c.in-Some.todo.now in
    let hand = at_hand g.O.SeqObject b.cells.items b.locks.items b.scripts.items b.done.items c.args.cpu c.index.result.now c.index.ensures c.index-2.result.now c.index-2.ensures todo _ c.self.view_is c.self.invariant.0 c.requires c.deref.result.now c.deref.ensures.value c.in-Some.ensures.lookup.3.0 c.in-Some.ensures.lookup.1 in
    let ready = lock_ready g.O.SeqObject b.cells.items b.locks.items b.scripts.items b.done.items todo.object hand.2.on_cell c.index_mut.result.now c.index_mut.ensures.value c.self.invariant.0.world c.self.invariant.0.shows in
    ready.0

pub turn-step-requires-clause-exists : goal.turn-step-requires-clause-exists
turn-step-requires-clause-exists g c =
    let b = c.self.inside in let todo = c.in-Some.todo.now in
    let hand = at_hand g.O.SeqObject b.cells.items b.locks.items b.scripts.items b.done.items c.args.cpu c.index.result.now c.index.ensures c.index-2.result.now c.index-2.ensures todo _ c.self.view_is c.self.invariant.0 c.requires c.deref.result.now c.deref.ensures.value c.in-Some.ensures.lookup.3.0 c.in-Some.ensures.lookup.1 in
    let ready = lock_ready g.O.SeqObject b.cells.items b.locks.items b.scripts.items b.done.items todo.object hand.2.on_cell c.index_mut.result.now c.index_mut.ensures.value c.self.invariant.0.world c.self.invariant.0.shows in
    let h0 = c.self.invariant.0.shows in
    omega (arith, ready.1, hand.0, h0.scripts)

pub turn-step-requires-clause-few : goal.turn-step-requires-clause-few
turn-step-requires-clause-few g c =
    let b = c.self.inside in let todo = c.in-Some.todo.now in
    let hand = at_hand g.O.SeqObject b.cells.items b.locks.items b.scripts.items b.done.items c.args.cpu c.index.result.now c.index.ensures c.index-2.result.now c.index-2.ensures todo _ c.self.view_is c.self.invariant.0 c.requires c.deref.result.now c.deref.ensures.value c.in-Some.ensures.lookup.3.0 c.in-Some.ensures.lookup.1 in
    let ready = lock_ready g.O.SeqObject b.cells.items b.locks.items b.scripts.items b.done.items todo.object hand.2.on_cell c.index_mut.result.now c.index_mut.ensures.value c.self.invariant.0.world c.self.invariant.0.shows in
    let h0 = c.self.invariant.0.shows in let m0 = c.self.invariant.1 in
    omega (arith, ready.1, h0.scripts, m0.cpus)

pub count_step-requires : goal.count_step-requires
count_step-requires g c =
    let b = c.self.inside in let todo = c.in-Some.todo.now in
    let hand = at_hand g.O.SeqObject b.cells.items b.locks.items b.scripts.items b.done.items c.args.cpu c.index.result.now c.index.ensures c.index-2.result.now c.index-2.ensures todo _ c.self.view_is c.self.invariant.0 c.requires c.deref.result.now c.deref.ensures.value c.in-Some.ensures.lookup.3.0 c.in-Some.ensures.lookup.1 in
    let h0 = c.self.invariant.0.shows in let p = c.index_mut-2.result.now in let p_is = c.index_mut-2.ensures.value in
    let at = at_again g.O.SeqObject b.cells.items b.locks.items b.scripts.items b.done.items c.args.cpu c.index.result.now c.index.ensures c.index-2.result.now c.index-2.ensures todo hand.0 (h0.scripts ∙ sym h0.done) hand.1 p p_is in
    let m = c.index_mut-3.result.now in
    let h = shown_cell g.O.SeqObject b.cells.items b.locks.items b.scripts.items b.done.items c.args.cpu hand.0 p p_is c.index-2.result.now c.index-2.ensures todo at hand.2.on_cell c.index_mut-3.result.now c.index_mut-3.ensures.value c.index_mut.result.now c.index_mut.ensures.value c.self.invariant.0.world h0 in
    let r = room_at g.O.SeqObject b.cells.items b.locks.items b.scripts.items b.done.items c.args.cpu hand.0 p p_is c.index-2.result.now c.index-2.ensures todo at c.index_mut-3.result.now c.index_mut-3.ensures.value c.index_mut.result.now c.index_mut.ensures.value _ _ c.self.invariant.0 c.self.invariant.1 in
    let below = slice_get_within c.index-2.result.now.items p.at todo at in
    (g.met.O.SeqObject.todo_fits, (hand.2.some, (hand.2.few, (h.kept, (omega (arith, r.room, below, p.transcript.ok.0), omega (arith, below, c.index-2.result.now.ok.0, c.index-2.result.now.small))))))

pub invariant_of-self : goal.invariant_of-self
invariant_of-self g c =
    let b = c.self.inside in let todo = c.in-Some.todo.now in
    let hand = at_hand g.O.SeqObject b.cells.items b.locks.items b.scripts.items b.done.items c.args.cpu c.index.result.now c.index.ensures c.index-2.result.now c.index-2.ensures todo _ c.self.view_is c.self.invariant.0 c.requires c.deref.result.now c.deref.ensures.value c.in-Some.ensures.lookup.3.0 c.in-Some.ensures.lookup.1 in
    let h0 = c.self.invariant.0.shows in let p = c.index_mut-2.result.now in let p_is = c.index_mut-2.ensures.value in
    let at = at_again g.O.SeqObject b.cells.items b.locks.items b.scripts.items b.done.items c.args.cpu c.index.result.now c.index.ensures c.index-2.result.now c.index-2.ensures todo hand.0 (h0.scripts ∙ sym h0.done) hand.1 p p_is in
    let k : Counts g.O.SeqObject c.args.cpu todo c.turn-step.result c.index_mut-3.result.now.logged c.count_step.new.logged p c.count_step.new.progress = record { params = c.count_step.ensures.params; limit = c.count_step.ensures.limit; log = c.count_step.ensures.log; kept = c.count_step.ensures.kept; at = c.count_step.ensures.at; transcript = c.count_step.ensures.transcript; looks = c.count_step.ensures.looks; room = c.count_step.ensures.room } in
    let r = c.self.invariant.0 in
    let lock = shown_lock g.O.SeqObject b.cells.items b.locks.items b.scripts.items b.done.items c.args.cpu hand.0 p p_is c.index-2.result.now c.index-2.ensures todo at hand.2.on_cell c.index_mut-3.result.now c.index_mut-3.ensures.value c.index_mut.result.now c.index_mut.ensures.value r.world r.shows in (
      runs_next g.O.SeqObject b.cells.items b.locks.items b.scripts.items b.done.items c.args.cpu hand.0 p p_is c.index-2.result.now c.index-2.ensures todo at c.index_mut-3.result.now c.index_mut-3.ensures.value c.index_mut.result.now c.index_mut.ensures.value c.turn-step.result c.turn-step.new.self record { kind = c.index_mut-3.result.now.kind; first = c.index_mut-3.result.now.first; logged = c.count_step.new.logged } c.count_step.new.progress k r hand.2.on_cell (c.turn-step.ensures _ lock).0 (c.turn-step.ensures _ lock).1,
      roomy_next g.O.SeqObject b.cells.items b.locks.items b.scripts.items b.done.items c.args.cpu hand.0 p p_is c.index-2.result.now c.index-2.ensures todo at c.index_mut-3.result.now c.index_mut-3.ensures.value c.index_mut.result.now c.index_mut.ensures.value c.turn-step.result c.turn-step.new.self record { kind = c.index_mut-3.result.now.kind; first = c.index_mut-3.result.now.first; logged = c.count_step.new.logged } c.count_step.new.progress k _ _ r c.self.invariant.1,
      c.self.invariant.2,
      c.self.invariant.3,
      subst (λ os. AllByRecursion (λ o. o.limit ≤ MOST_EVENTS) os) (sym (opened_next g.O.SeqObject b.cells.items b.locks.items b.scripts.items b.done.items c.args.cpu hand.0 p p_is c.index-2.result.now c.index-2.ensures todo at c.index_mut-3.result.now c.index_mut-3.ensures.value c.index_mut.result.now c.index_mut.ensures.value c.turn-step.result c.turn-step.new.self record { kind = c.index_mut-3.result.now.kind; first = c.index_mut-3.result.now.first; logged = c.count_step.new.logged } c.count_step.new.progress k hand.2.on_cell)) c.self.invariant.4,
    )

pub returns-clause-done : goal.returns-clause-done
returns-clause-done g c = λ w h.
    let b = c.self.inside in let todo = c.in-Some.todo.now in
    let hand = at_hand g.O.SeqObject b.cells.items b.locks.items b.scripts.items b.done.items c.args.cpu c.index.result.now c.index.ensures c.index-2.result.now c.index-2.ensures todo _ c.self.view_is c.self.invariant.0 c.requires c.deref.result.now c.deref.ensures.value c.in-Some.ensures.lookup.3.0 c.in-Some.ensures.lookup.1 in
    let h0 = c.self.invariant.0.shows in let p = c.index_mut-2.result.now in let p_is = c.index_mut-2.ensures.value in
    let at = at_again g.O.SeqObject b.cells.items b.locks.items b.scripts.items b.done.items c.args.cpu c.index.result.now c.index.ensures c.index-2.result.now c.index-2.ensures todo hand.0 (h0.scripts ∙ sym h0.done) hand.1 p p_is in
    let shown = subst (λ m. Represents g.O.SeqObject m w) (sym c.self.view_is) h in
    let lock = shown_lock g.O.SeqObject b.cells.items b.locks.items b.scripts.items b.done.items c.args.cpu hand.0 p p_is c.index-2.result.now c.index-2.ensures todo at hand.2.on_cell c.index_mut-3.result.now c.index_mut-3.ensures.value c.index_mut.result.now c.index_mut.ensures.value w shown in
    done_is g.O.SeqObject b.cells.items b.locks.items b.scripts.items b.done.items c.args.cpu hand.0 p p_is c.index-2.result.now c.index-2.ensures todo at hand.2.on_cell c.index_mut-3.result.now c.index_mut-3.ensures.value c.index_mut.result.now c.index_mut.ensures.value w shown c.turn-step.result (c.turn-step.ensures _ lock).0

pub returns-clause-shows : goal.returns-clause-shows
returns-clause-shows g c = λ w h.
    let b = c.self.inside in let todo = c.in-Some.todo.now in
    let hand = at_hand g.O.SeqObject b.cells.items b.locks.items b.scripts.items b.done.items c.args.cpu c.index.result.now c.index.ensures c.index-2.result.now c.index-2.ensures todo _ c.self.view_is c.self.invariant.0 c.requires c.deref.result.now c.deref.ensures.value c.in-Some.ensures.lookup.3.0 c.in-Some.ensures.lookup.1 in
    let h0 = c.self.invariant.0.shows in let p = c.index_mut-2.result.now in let p_is = c.index_mut-2.ensures.value in
    let at = at_again g.O.SeqObject b.cells.items b.locks.items b.scripts.items b.done.items c.args.cpu c.index.result.now c.index.ensures c.index-2.result.now c.index-2.ensures todo hand.0 (h0.scripts ∙ sym h0.done) hand.1 p p_is in
    let k : Counts g.O.SeqObject c.args.cpu todo c.turn-step.result c.index_mut-3.result.now.logged c.count_step.new.logged p c.count_step.new.progress = record { params = c.count_step.ensures.params; limit = c.count_step.ensures.limit; log = c.count_step.ensures.log; kept = c.count_step.ensures.kept; at = c.count_step.ensures.at; transcript = c.count_step.ensures.transcript; looks = c.count_step.ensures.looks; room = c.count_step.ensures.room } in
    let shown = subst (λ m. Represents g.O.SeqObject m w) (sym c.self.view_is) h in
    let lock = shown_lock g.O.SeqObject b.cells.items b.locks.items b.scripts.items b.done.items c.args.cpu hand.0 p p_is c.index-2.result.now c.index-2.ensures todo at hand.2.on_cell c.index_mut-3.result.now c.index_mut-3.ensures.value c.index_mut.result.now c.index_mut.ensures.value w shown in
    stepped g.O.SeqObject b.cells.items b.locks.items b.scripts.items b.done.items c.args.cpu hand.0 p p_is c.index-2.result.now c.index-2.ensures todo at hand.2.on_cell c.index_mut-3.result.now c.index_mut-3.ensures.value c.index_mut.result.now c.index_mut.ensures.value w shown c.turn-step.result c.turn-step.new.self record { kind = c.index_mut-3.result.now.kind; first = c.index_mut-3.result.now.first; logged = c.count_step.new.logged } c.count_step.new.progress (c.turn-step.ensures _ lock).0 (c.turn-step.ensures _ lock).1 k

pub returns-clause-opened : goal.returns-clause-opened
returns-clause-opened g c =
    let b = c.self.inside in let todo = c.in-Some.todo.now in
    let hand = at_hand g.O.SeqObject b.cells.items b.locks.items b.scripts.items b.done.items c.args.cpu c.index.result.now c.index.ensures c.index-2.result.now c.index-2.ensures todo _ c.self.view_is c.self.invariant.0 c.requires c.deref.result.now c.deref.ensures.value c.in-Some.ensures.lookup.3.0 c.in-Some.ensures.lookup.1 in
    let h0 = c.self.invariant.0.shows in let p = c.index_mut-2.result.now in let p_is = c.index_mut-2.ensures.value in
    let at = at_again g.O.SeqObject b.cells.items b.locks.items b.scripts.items b.done.items c.args.cpu c.index.result.now c.index.ensures c.index-2.result.now c.index-2.ensures todo hand.0 (h0.scripts ∙ sym h0.done) hand.1 p p_is in
    let k : Counts g.O.SeqObject c.args.cpu todo c.turn-step.result c.index_mut-3.result.now.logged c.count_step.new.logged p c.count_step.new.progress = record { params = c.count_step.ensures.params; limit = c.count_step.ensures.limit; log = c.count_step.ensures.log; kept = c.count_step.ensures.kept; at = c.count_step.ensures.at; transcript = c.count_step.ensures.transcript; looks = c.count_step.ensures.looks; room = c.count_step.ensures.room } in
    opened_next g.O.SeqObject b.cells.items b.locks.items b.scripts.items b.done.items c.args.cpu hand.0 p p_is c.index-2.result.now c.index-2.ensures todo at c.index_mut-3.result.now c.index_mut-3.ensures.value c.index_mut.result.now c.index_mut.ensures.value c.turn-step.result c.turn-step.new.self record { kind = c.index_mut-3.result.now.kind; first = c.index_mut-3.result.now.first; logged = c.count_step.new.logged } c.count_step.new.progress k hand.2.on_cell ∙ ap opened_by c.self.view_is
