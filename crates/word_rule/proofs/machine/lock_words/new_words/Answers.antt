use Rattle.std.proofs.Common.{◌∷◌, [], ◌∙◌, ap, arith, sym, subst}
use Rattle.word_rule.specs.{LockDefinition.opening_state, Locks.{definition_of, opening_lock}, Rule.LockStates.IsLockOf}
use Rattle.word_rule.proofs.{Mcs.Turns.starts_mcs, ShownLocks.tied_lock, Ticket.Turns.starts_ticket}
use Rattle.sound_run.specs.declared.lock_kind.LockKind.TheVariants as kinds
use Rattle.word_rule.proofs.machine.lock_words.new_words.Goals as goal

pub returns-in_ok-vec-in-Ticket : goal.returns-in_ok-vec-in-Ticket
returns-in_ok-vec-in-Ticket c = subst (λ k. IsLockOf k c.args.cpus c.in_ok-vec-in-Ticket.field-0.items (opening_lock k c.args.first)) (sym c.in-Ticket.is)
    (tied_lock kinds.Ticket c.args.cpus _ (opening_state (definition_of kinds.Ticket) c.args.first) (starts_ticket c.args.cpus c.args.first c.in_ok-vec-in-Ticket.field-0.items (omega (arith, c.requires)) (c.in_ok-vec-in-Ticket.ensures.items_if_clones_equal (λ y e. e) ∙ ap (λ w. w ∷ []) c.word_with.ensures)))

pub returns-in_ok-vec-in-Mcs : goal.returns-in_ok-vec-in-Mcs
returns-in_ok-vec-in-Mcs c = subst (λ k. IsLockOf k c.args.cpus c.in_ok-vec-in-Mcs.field-0.items (opening_lock k c.args.first)) (sym c.in-Mcs.is)
    (tied_lock kinds.Mcs c.args.cpus _ (opening_state (definition_of kinds.Mcs) c.args.first) (starts_mcs c.args.cpus c.args.first c.in_ok-vec-in-Mcs.field-0.items (c.in_ok-vec-in-Mcs.ensures.items_if_clones_equal (λ y e. e))))
