use Rattle.std.proofs.Common.{◌≡◌, ◌<◌, [], ◌∷◌, ap}
use Rattle.word_rule.specs.{declared.lock_kind.Stage.TheVariants.Idle, Locks.{Lock, attempt, lock_of, served, prepare, turn}, Ticket.State.tickets}
use Rattle.word_rule.proofs.LockLaws.{at_kind, prepares, tries}
use Rattle.sound_run.specs.declared.lock_kind.LockKind.TheVariants as kinds
use Rattle.word_rule.proofs.Mcs.Tries as mcs
use Rattle.word_rule.proofs.Ticket.Tries as ticket
use Rattle.word_rule.proofs.lock_law.tries_are_turns.Goals as goal

pub returns-clause-ticket : goal.returns-clause-ticket
returns-clause-ticket c = λ l i t. at_kind kinds.Ticket (λ (l : Lock). l.line.stage i ≡ Idle → l.line.cpus ≡ [] → served l ≡ t → t < tickets → attempt l i t ≡ ((turn (turn l i).0 i).0, (turn l i).1 ∷ (turn (turn l i).0 i).1 ∷ []))
    (λ s idle none now small. ap (λ z. (lock_of kinds.Ticket z.0, z.1)) (ticket.draws_and_looks s i t idle none now small)) l

pub returns-clause-mcs : goal.returns-clause-mcs
returns-clause-mcs c = λ l i t. at_kind kinds.Mcs (λ (l : Lock). l.line.stage i ≡ Idle → l.line.cpus ≡ [] → attempt (prepare l i) i t ≡ ((turn (turn l i).0 i).0, (turn l i).1 ∷ (turn (turn l i).0 i).1 ∷ []))
    (λ s idle none. ap (λ z. (lock_of kinds.Mcs z.0, z.1)) (mcs.clears_and_enters s i idle none)) l

pub returns-clause-busy : goal.returns-clause-busy
returns-clause-busy c = λ l i t. (tries l i t).busy

pub returns-clause-others : goal.returns-clause-others
returns-clause-others c = λ l i t. (tries l i t).others

pub returns-clause-prepared : goal.returns-clause-prepared
returns-clause-prepared c = prepares

pub returns-clause-names : goal.returns-clause-names
returns-clause-names c = λ l i t x ne. mcs.names_still l i x ne
