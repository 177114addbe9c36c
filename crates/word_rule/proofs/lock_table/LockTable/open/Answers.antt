use Rattle.std.proofs.Common.{rules, [], ◌∷◌, sym, ap, subst, ◌∙◌, Some}
use Rattle.atomic_table.specs.Table.{opening}
use Rattle.word_rule.specs.{Cell.{Lawful, opening_pass}, Locks.{Fits, opening_lock}, Rule.CellInvariant.CellInvariant, Rule.Seats.first_view}
use Rattle.word_rule.proofs.{Ends.{opens, opens_valid}, LockLaws.fits}
use Rattle.word_rule.proofs.lock_table.LockTable.open.Goals as goal

pub make-requires : goal.make-requires
make-requires g c = (
  g.met.O.SeqObject.event_fits,
  subst (λ z. CellInvariant g.O.SeqObject z.kind z (opening c.args.words.now (Some c.args.logged ∷ []) (first_view z))) (sym c.of-key.ensures.value)
      (opens g.O.SeqObject c.args.kind c.args.words.now c.args.logged c.args.cpus c.args.first c.of-key.ensures.kept c.requires.defined),
)

pub deal-passes-requires : goal.deal-passes-requires
deal-passes-requires g c = let k = c.of-key.ensures.value in (
  g.met.O.SeqObject.event_fits,
  (
    sym c.in_ok-table.ensures.key,
    (
      search rules,
      (
        (c.in_ok-table.ensures.seat.0, c.in_ok-table.ensures.seat.1, ap (λ z. z.numbers) k),
        (
          search rules,
          (
            subst (λ z. Lawful g.O.SeqObject z z.opening) (sym k) (opens_valid g.O.SeqObject c.args.kind c.args.first c.args.logged c.args.cpus c.of-key.ensures.kept),
            subst (λ z. Fits z.kind z.numbers) (sym k) (fits c.args.cpus (opening_lock c.args.kind c.args.first) c.requires.defined.state),
          ),
        ),
      ),
    ),
  ),
)

pub returns-clause-passes : goal.returns-clause-passes
returns-clause-passes g c k x at = let p = c.deal-passes.ensures.passes k x at in (p.0, p.1 ∙ ap (λ z. opening_pass z k) c.of-key.ensures.value)
