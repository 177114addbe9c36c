-- A ticket lock serves the first ticket and as many more as holds have ended in its run, and its word goes by what the run makes.
use Rattle.std.proofs.{Common.{◌≡◌, ℕ, ◌+◌, ◌%◌, ◌<◌, Bool, true, false, cond, List, [], ◌∷◌, ◌++◌, length, length-append, refl, sym, ap, ◌∙◌, subst, arith}, Math.Nat.{mod-add-mod, mod-lt, mod-eq_of_lt}}
use Rattle.event_log.specs.declared.object.SeqObject.{Ghosts}
use Rattle.sound_run.specs.declared.lock_kind.LockKind.{LockKind}
use Rattle.word_rule.specs.{declared.view.TraceStep.TraceStep, Cell.Cell, LockRuns.{lock_after, AreTurns, arrivals_in, endings_in}, Locks.{Lock, lock_words, served, opening_lock, turn}, OneHold.leaving, Rule.Callers.caller_of, Rule.CellInvariant.{SeatView, Table, SeatInvariant, CellInvariant}, StepKinds.ends_hold, Ticket.State.{tickets, ticket_word}, Ticket.Steps.HasDrawn}
use Rattle.word_rule.proofs.{Known.same_cell, LockLaws.{at_kind, erased_cpus}, RunOrder.{first_of, behind_of, line_left}, Ticket.Laws.served_after}
use Rattle.sound_run.specs.declared.lock_kind.LockKind.TheVariants as kinds
use Rattle.word_rule.specs.declared.machine.step_done.StepDone.TheVariants as steps

-- one step, which may end a hold, and then so many endings
one_end : (b : Bool) (s i : ℕ) (ended : List ℕ) → (cond b ((s + 1) % tickets) s + length ended) % tickets ≡ (s + length (cond b (i ∷ ended) ended)) % tickets
one_end true s i ended = mod-add-mod (s + 1) tickets (length ended) ∙ ap (λ (k : ℕ). k % tickets) (omega arith)
one_end false s i ended = refl

still_small : (b : Bool) (s : ℕ) → s < tickets → cond b ((s + 1) % tickets) s < tickets
still_small true s small = mod-lt (s + 1) (omega arith)
still_small false s small = small

-- the ticket that a ticket lock serves after a step
served_next : (l : Lock) (i : ℕ) → l.kind ≡ kinds.Ticket → served (turn l i).0 ≡ cond (ends_hold (turn l i).1) ((served l + 1) % tickets) (served l)
served_next l i = at_kind kinds.Ticket (λ l. served (turn l i).0 ≡ cond (ends_hold (turn l i).1) ((served l + 1) % tickets) (served l)) (λ s. served_after s i (s.line.stage i)) l

module _ {E : Type 0} where
  run_serves : (run : List (TraceStep E)) (l : Lock) → l.kind ≡ kinds.Ticket → served l < tickets → AreTurns run l → served (lock_after run l) ≡ (served l + length (endings_in run)) % tickets
  run_serves [] l kind small are = sym (ap (λ (k : ℕ). k % tickets) (omega arith) ∙ mod-eq_of_lt small)
  run_serves (m ∷ ms) l kind small are =
      let step : m.step ≡ (turn l m.cpu).1 = ap (first_of (turn l m.cpu).1) are in
      let now : served (turn l m.cpu).0 ≡ cond (ends_hold m.step) ((served l + 1) % tickets) (served l) = served_next l m.cpu kind ∙ (λ j. cond (ends_hold (sym step j)) ((served l + 1) % tickets) (served l)) in
      let below : served (turn l m.cpu).0 < tickets = subst (λ (k : ℕ). k < tickets) (sym now) (still_small (ends_hold m.step) (served l) small) in
      run_serves ms (turn l m.cpu).0 kind below (ap behind_of are)
      ∙ (ap (λ (k : ℕ). (k + length (endings_in ms)) % tickets) now ∙ one_end (ends_hold m.step) (served l) m.cpu (endings_in ms))

module _ {O P C R : Type 0} (meaning : Ghosts O P C R) (k : LockKind) (h : Cell O P C R) (s : Table O P C R) (r : CellInvariant meaning k h s) (kind : h.kind ≡ kinds.Ticket) where
  pub serves_next : served r.state.lock ≡ (h.first + length (endings_in r.state.run)) % tickets
  serves_next =
      let opens : served (opening_lock h.kind h.first) ≡ h.first % tickets = ap (λ z. served (opening_lock z h.first)) kind in
      let small : served (opening_lock h.kind h.first) < tickets = subst (λ (k : ℕ). k < tickets) (sym opens) (mod-lt h.first (omega arith)) in
      r.made.counts ∙ (run_serves r.state.run (opening_lock h.kind h.first) kind small (r.ran.turns h.first)
      ∙ (ap (λ (k : ℕ). (k + length (endings_in r.state.run)) % tickets) opens ∙ mod-add-mod h.first tickets (length (endings_in r.state.run))))

  -- those who have ended a hold, and those in line, are those who have arrived
  draws_next : (served r.state.lock + length r.state.lock.line.cpus) % tickets ≡ (h.first + length (arrivals_in r.state.run)) % tickets
  draws_next =
      let l : Lock = r.state.lock in
      let ended : List ℕ = endings_in r.state.run in
      let line : l.line.cpus ≡ (lock_after r.state.run (opening_lock h.kind 0)).line.cpus = erased_cpus l (lock_after r.state.run (opening_lock h.kind 0)) (r.made.erased 0) in
      let all : length ended + length l.line.cpus ≡ length (arrivals_in r.state.run) = sym (length-append ended l.line.cpus) ∙ (ap (λ z. length (ended ++ z)) line ∙ ap length (line_left h r.state.committed r.state.run r.ran)) in
      ap (λ (n : ℕ). (n + length l.line.cpus) % tickets) serves_next ∙ (mod-add-mod (h.first + length ended) tickets (length l.line.cpus) ∙ ap (λ (n : ℕ). n % tickets) (omega (arith, all)))

  -- whose draw is the next step of the run has that ticket
  pub has_drawn : (b : ℕ) (v : SeatView O P C R) (g : Cell O P C R) → SeatInvariant h r.state b v → v.reported ≡ g ∷ [] → (ticket : ℕ) → (served r.state.lock + length r.state.lock.line.cpus) % tickets ≡ ticket
      → HasDrawn (caller_of g v) ticket (r.state.run ++ leaving v.main.cpu steps.Draw [] ∷ [])
  has_drawn b v g mine reported ticket same = subst (λ (z : Cell O P C R). HasDrawn (caller_of z v) ticket (r.state.run ++ leaving v.main.cpu steps.Draw [] ∷ [])) (sym (same_cell meaning k h r.state b v g mine reported)) record {
    before = r.state.run;
    is = refl;
    number = sym same ∙ draws_next;
  }

module _ {O P C R : Type 0} (meaning : Ghosts O P C R) (h : Cell O P C R) (s : Table O P C R) (r : CellInvariant meaning h.kind h s) (kind : h.kind ≡ kinds.Ticket) where
  -- the word of a ticket lock, by its number
  word_by : (l : Lock) → l.kind ≡ kinds.Ticket → lock_words h.numbers l ≡ ticket_word ((served l + length l.line.cpus) % tickets) (served l) ∷ []
  word_by = at_kind kinds.Ticket (λ l. lock_words h.numbers l ≡ ticket_word ((served l + length l.line.cpus) % tickets) (served l) ∷ []) (λ s. refl)

  -- the lock that the run makes has the word that the table has
  pub shows_word : s.words ≡ lock_words h.numbers (lock_after r.state.run (opening_lock h.kind h.first))
  shows_word =
      let l : Lock = r.state.lock in
      let l' : Lock = lock_after r.state.run (opening_lock h.kind h.first) in
      let same = r.made.erased h.first in
      let kind' : l'.kind ≡ kinds.Ticket = sym (ap (λ z. z.kind) same) ∙ (r.tied.kind_is ∙ kind) in
      let cpus = erased_cpus l l' same in
      r.tied.words ∙ (word_by l (r.tied.kind_is ∙ kind) ∙ ((λ j. ticket_word ((r.made.counts j + length (cpus j)) % tickets) (r.made.counts j) ∷ []) ∙ sym (word_by l' kind')))
