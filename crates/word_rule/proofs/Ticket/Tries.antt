-- A try at a ticket lock that gets the object is a draw and a look at once; one that doesn't changes nobody's place in line.
use Rattle.std.proofs.{Common.{◌≡◌, ◌≢◌, ℕ, ◌+◌, ◌%◌, ◌<◌, ◌==◌, ◌&&◌, Bool, true, false, cond, List, [], ◌∷◌, ◌++◌, length, eq-eqb, refl, sym, ap, ◌∙◌, arith}, Math.Nat.mod-eq_of_lt}
use Rattle.word_rule.specs.{declared.machine.step_done.StepDone.StepDone, declared.lock_kind.Stage.TheVariants.{Idle, Ticket}, declared.lock_kind.TicketStage.TheVariants.{Drawn, Served}, Line.{moved, is_empty, is_first, taking}, Ticket.Acquire.draw, Ticket.Definition.ticket_lock, Ticket.State.{TicketLock, tickets}, Ticket.Try.try_ticket}
use Rattle.word_rule.proofs.{LockInterface.Tries, Moves.{moved_same, moved_else, moved_twice, not_empty}, Ticket.Turns.{hits, succeeds, tried_by, turned}}
use Rattle.word_rule.specs.declared.machine.step_done.StepDone.TheVariants as steps

module _ (l : TicketLock) (i t : ℕ) where
  pub draws_and_looks : l.line.stage i ≡ Idle → l.line.cpus ≡ [] → l.extra ≡ t → t < tickets
      → try_ticket l i t ≡ ((ticket_lock.turn (ticket_lock.turn l i).0 i).0, (ticket_lock.turn l i).1 ∷ (ticket_lock.turn (ticket_lock.turn l i).0 i).1 ∷ [])
  draws_and_looks idle none served small =
      let d : ℕ = (l.extra + length l.line.cpus) % tickets in
      let is : d ≡ t = (λ k. (served k + length (none k)) % tickets) ∙ (ap (λ (z : ℕ). z % tickets) (omega arith) ∙ mod-eq_of_lt small) in
      let l' : TicketLock = draw l i in
      let first : is_first i l'.line.cpus ≡ true = ap (λ z. is_first i (z ++ i ∷ [])) none ∙ eq-eqb i i refl in
      let drawn : ticket_lock.turn l i ≡ (l', steps.Draw) = turned l i Idle idle in
      let stages : moved l'.line.stage i (Ticket (Served d)) ≡ moved l.line.stage i (Ticket (Served t)) = moved_twice l.line.stage i (Ticket (Drawn d)) (Ticket (Served d)) ∙ ap (λ z. moved l.line.stage i (Ticket (Served z))) is in
      let looked : ticket_lock.turn l' i ≡ (record l' { line = taking l'.line i (Ticket (Served d)) }, steps.Look true) = turned l' i (Ticket (Drawn d)) (moved_same l.line.stage i (Ticket (Drawn d))) ∙ hits l' i d first in
      let alone : record l' { line = taking l'.line i (Ticket (Served d)) } ≡ tried_by l i t = λ k. record l { line = record { cpus = none k ++ i ∷ []; out = true; stage = stages k } } in
      succeeds l i t none served ∙ sym (ap (λ (z : TicketLock × StepDone). ((ticket_lock.turn z.0 i).0, z.1 ∷ (ticket_lock.turn z.0 i).1 ∷ [])) drawn ∙ (ap (λ (z : TicketLock × StepDone). (z.0, steps.Draw ∷ z.1 ∷ [])) looked ∙ ap (λ (z : TicketLock). (z, steps.Draw ∷ steps.Look true ∷ [])) alone))

  abbrev Tried : Bool → TicketLock × List StepDone
  Tried b = cond b (tried_by l i t, steps.Draw ∷ steps.Look true ∷ []) (l, [])

  pub tries : Tries ticket_lock l i (try_ticket l i t)
  tries = record {
    busy = λ some_one. let same = ap (λ (b : Bool). Tried (b && l.extra == t)) (not_empty l.line.cpus some_one) in (ap (λ z. z.0.line.cpus) same, ap (λ z. z.0.line.out) same, ap (λ z. z.1) same);
    others = λ x ne. by x ne (is_empty l.line.cpus && l.extra == t);
  }
    where
      by : (x : ℕ) → x ≢ i → (b : Bool) → (Tried b).0.line.stage x ≡ l.line.stage x
      by x ne true = moved_else l.line.stage i (Ticket (Served t)) x ne
      by x ne false = refl
