-- What the step machine keeps of a ticket lock shows it after each turn.
use Rattle.std.proofs.{Common.{◌≡◌, ◌≢◌, ℕ, ◌+◌, ◌/◌, ◌%◌, ◌^◌, ◌<◌, true, false, List, length, get_or, set, refl, ap, ◌∙◌}, lemmas.Bool.false_from_ne_true}
use Rattle.word_rule.specs.{declared.machine.step_done.StepDone.StepDone, declared.lock_kind.Stage.Stage, declared.lock_kind.Stage.TheVariants.{Idle, Ticket}, declared.lock_kind.TicketStage.TheVariants.{Drawn, Served}, Line.{is_first, taking}, Rule.LockStates.RepresentsState, Ticket.Acquire.draw, Ticket.Definition.{ticket_lock, ticket_turn}, Ticket.State.{TicketLock, tickets}}
use Rattle.word_rule.proofs.ShownTurns.{After, at, became, same}
use Rattle.word_rule.specs.declared.machine.step_done.StepDone.TheVariants as steps
use Rattle.word_rule.proofs.Ticket.Turns as ticket

module _ (n : ℕ) (ws : List ℕ) (stages : List Stage) (l : TicketLock) (h : RepresentsState ticket_lock n ws stages l) (i : ℕ) (below : i < n) where
  abbrev AfterTicket : List ℕ → List Stage → StepDone → Type 0
  AfterTicket = After ticket_lock n ws stages l h i below

  abbrev stood : (q : Stage) → get_or stages i Idle ≡ q → l.line.stage i ≡ q
  stood = at ticket_lock n ws stages l h i below

  turn_at : (q : Stage) → get_or stages i Idle ≡ q → ticket_lock.turn l i ≡ ticket_turn l i q
  turn_at q e = ticket.turned l i q (stood q e)

  pub drew : (t : ℕ) → get_or stages i Idle ≡ Idle → t ≡ get_or ws 0 0 / tickets → AfterTicket (set ws 0 ((get_or ws 0 0 + tickets) % 2 ^ 64)) (set stages i (Ticket (Drawn t))) steps.Draw
  drew t e is = became ticket_lock n ws stages l h i below _ _ (Ticket (Drawn ((l.extra + length l.line.cpus) % tickets))) (draw l i, steps.Draw) (turn_at Idle e) (ticket.draws n ws l h.tied i below (stood Idle e)) refl (ap (λ t. Ticket (Drawn t)) (is ∙ ticket.ticket_is n ws l h.tied i below))

  pub won : (t : ℕ) → get_or stages i Idle ≡ Ticket (Drawn t) → get_or ws 0 0 % tickets ≡ t → AfterTicket ws (set stages i (Ticket (Served t))) (steps.Look true)
  won t e hit =
      let p = stood (Ticket (Drawn t)) e in
      let f = ticket.hit_first n ws l h.tied i below t p hit in
      became ticket_lock n ws stages l h i below ws (Ticket (Served t)) (Ticket (Served t)) (record l { line = taking l.line i (Ticket (Served t)) }, steps.Look true) (turn_at (Ticket (Drawn t)) e ∙ ticket.hits l i t f) (ticket.takes n ws l h.tied i below t p f) refl refl

  pub lost : (t : ℕ) → get_or stages i Idle ≡ Ticket (Drawn t) → get_or ws 0 0 % tickets ≢ t → AfterTicket ws stages (steps.Look false)
  lost t e other =
      let p = stood (Ticket (Drawn t)) e in
      same ticket_lock n ws stages l h i below (steps.Look false) (turn_at (Ticket (Drawn t)) e ∙ ticket.misses l i t (false_from_ne_true (is_first i l.line.cpus) (λ f. other (ticket.first_hit n ws l h.tied i below t p f))))
