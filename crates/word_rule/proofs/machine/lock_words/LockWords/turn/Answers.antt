use Rattle.std.proofs.{Common.◌∙◌, lemmas.List.take_at}
use Rattle.word_rule.proofs.ShownLocks.{some_kept, turn_kept}
use Rattle.sound_run.specs.declared.lock_kind.LockKind.TheVariants as kinds
use Rattle.word_rule.proofs.machine.lock_words.LockWords.turn.Goals as goal

pub turn_ticket-requires-clause-shows : goal.turn_ticket-requires-clause-shows
turn_ticket-requires-clause-shows c = let w = c.deref_mut.ensures in let s = c.deref_mut-in-Ticket.ensures in
    some_kept kinds.Ticket c.args.self.now.kind c.in-Ticket.is _ _ _ _ _ _ w.value s.value s.len c.requires.shows.0 c.requires.shows.1

pub turn_mcs-requires-clause-shows : goal.turn_mcs-requires-clause-shows
turn_mcs-requires-clause-shows c = let w = c.deref_mut-in-Mcs.ensures in let s = c.deref_mut-in-Mcs-2.ensures in
    some_kept kinds.Mcs c.args.self.now.kind c.in-Mcs.is _ _ _ _ _ _ w.value s.value s.len c.requires.shows.0 c.requires.shows.1

pub returns-in-Ticket : goal.returns-in-Ticket
returns-in-Ticket c = let w = c.deref_mut.ensures in let s = c.deref_mut-in-Ticket.ensures in let t = c.turn_ticket in
    turn_kept kinds.Ticket c.args.self.now.kind c.in-Ticket.is _ _ _ _ _ _ w.value s.value s.len t.new.words _ t.new.stages _ c.args.cpu t.result (take_at t.new.words _ _ (t.auto.words ∙ w.len)) (take_at t.new.stages _ _ (t.auto.stages ∙ s.len)) t.ensures

pub returns-in-Mcs : goal.returns-in-Mcs
returns-in-Mcs c = let w = c.deref_mut-in-Mcs.ensures in let s = c.deref_mut-in-Mcs-2.ensures in let t = c.turn_mcs in
    turn_kept kinds.Mcs c.args.self.now.kind c.in-Mcs.is _ _ _ _ _ _ w.value s.value s.len t.new.words _ t.new.stages _ c.args.cpu t.result (take_at t.new.words _ _ (t.auto.words ∙ w.len)) (take_at t.new.stages _ _ (t.auto.stages ∙ s.len)) t.ensures
