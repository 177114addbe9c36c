-- At a ticket lock nobody is stuck: a step is in vain only where one looks that isn't the first.
use Rattle.std.proofs.Common.{◌≡◌, ◌≢◌, inl, ℕ, ◌+◌, ◌%◌, ◌<◌, ◌≤◌, Bool, true, false, true≢false, length, refl, sym, ◌∙◌, subst, arith}
use mathlib.Core.Option.{some}
use lib.ListN.{get_elem?}
use Rattle.event_log.specs.Distinct.{has}
use Rattle.word_rule.specs.{declared.lock_kind.Stage.Stage, declared.lock_kind.Stage.TheVariants.{Idle, Ticket}, declared.lock_kind.TicketStage.TheVariants.{Drawn, Served}, Line.{Line, is_first}, LockDefinition.IsState, Locks.holding, Machine.Rounds.most_steps_of, StepKinds.ends_hold, Ticket.Definition.{ticket_lock, ticket_turn}, Ticket.State.{TicketLock, tickets}, Line.moved}
use Rattle.word_rule.proofs.{LineChanges.{never, first_stays}, Lists.{at_first, has_at}, LockProgress.{FirstOn, LockFairness, LockProgress, one_on}, LockStates.stands_at, Moves.{moved_same, moved_else}, Ticket.Laws.{Looked, ticket_laws}}
use Rattle.sound_run.specs.declared.lock_kind.LockKind.TheVariants as kinds

-- a draw, a look that gets the object, and a serve
abbrev left : Stage → ℕ
left Idle = 3
left (Ticket (Drawn t)) = 2
left q = 1

some_left : (q : Stage) → 0 < left q
some_left Idle = omega arith
some_left (Ticket (Drawn t)) = omega arith
some_left q = omega arith

few_left : (q : Stage) → left q ≤ most_steps_of kinds.Ticket
few_left Idle = omega arith
few_left (Ticket (Drawn t)) = omega arith
few_left q = omega arith

-- whether a turn from there gets the CPU on
abbrev on_at : Line → ℕ → Stage → Bool
on_at l i (Ticket (Drawn t)) = is_first i l.cpus
on_at l i q = true

module _ (l : TicketLock) (i : ℕ) where
  near : (q : Stage) (k : ℕ) → left q < k → left (moved l.line.stage i q i) < k
  near q k lt = subst (λ z. left z < k) (sym (moved_same l.line.stage i q)) lt

  look_near : (t : ℕ) (b : Bool) → b ≡ true → left ((Looked l i t b).0.line.stage i) < 2
  look_near t true e = near (Ticket (Served t)) 2 (omega arith)
  look_near t false e = never e

  look_vain : (t : ℕ) (b : Bool) → b ≡ false → ((Looked l i t b).0.line.stage i ≡ l.line.stage i) × (ends_hold (Looked l i t b).1 ≡ false)
  look_vain t true e = never (sym e)
  look_vain t false e = (refl, refl)

  look_else : (x t : ℕ) → x ≢ i → (b : Bool) → (Looked l i t b).0.line.stage x ≡ l.line.stage x
  look_else x t ne true = moved_else l.line.stage i (Ticket (Served t)) x ne
  look_else x t ne false = refl

  look_ends : {X : Type 0} (t : ℕ) (b : Bool) → ends_hold (Looked l i t b).1 ≡ true → X
  look_ends t true e = never e
  look_ends t false e = never e

  others_by : (x : ℕ) → x ≢ i → (q : Stage) → (ticket_turn l i q).0.line.stage x ≡ l.line.stage x
  others_by x ne Idle = moved_else l.line.stage i (Ticket (Drawn ((l.extra + length l.line.cpus) % tickets))) x ne
  others_by x ne (Ticket (Drawn t)) = look_else x t ne (is_first i l.line.cpus)
  others_by x ne (Ticket (Served t)) = moved_else l.line.stage i Idle x ne
  others_by x ne q = refl

  in_vain_by : (q : Stage) → on_at l.line i q ≡ false → ((ticket_turn l i q).0.line.stage i ≡ l.line.stage i) × (ends_hold (ticket_turn l i q).1 ≡ false)
  in_vain_by (Ticket (Drawn t)) off = look_vain t (is_first i l.line.cpus) off
  in_vain_by q off = never (sym off)

  ended_by : (q : Stage) → ends_hold (ticket_turn l i q).1 ≡ true → (holding q ≡ true) × ((ticket_turn l i q).0.line.stage i ≡ Idle)
  ended_by (Ticket (Drawn t)) e = look_ends t (is_first i l.line.cpus) e
  ended_by (Ticket (Served t)) e = (refl, moved_same l.line.stage i Idle)
  ended_by q e = never e

module _ (n : ℕ) (l : TicketLock) (i : ℕ) (h : IsState ticket_lock n l) (below : i < n) where
  nearer_by : (q : Stage) → l.line.stage i ≡ q → on_at l.line i q ≡ true → ends_hold (ticket_turn l i q).1 ≡ false → left ((ticket_turn l i q).0.line.stage i) < left q
  nearer_by Idle e on not = near l i (Ticket (Drawn ((l.extra + length l.line.cpus) % tickets))) 3 (omega arith)
  nearer_by (Ticket (Drawn t)) e on not = look_near l i t (is_first i l.line.cpus) on
  nearer_by (Ticket (Served t)) e on not = never (sym not)
  nearer_by q e on not = absurd (stands_at ticket_lock n l h i q below e)

  outside_by : (q : Stage) → l.line.stage i ≡ q → has i l.line.cpus ≡ false → on_at l.line i q ≡ true
  outside_by (Ticket (Drawn t)) e absent = let s = stands_at ticket_lock n l h i (Ticket (Drawn t)) below e in absurd (true≢false (sym (has_at l.line.cpus s.at i s.there) ∙ absent))
  outside_by q e absent = refl

  stays_by : (j : ℕ) → j ≢ i → (q : Stage) → on_at l.line j q ≡ true → on_at (ticket_lock.turn l i).0.line j q ≡ true
  stays_by j ne (Ticket (Drawn t)) on = first_stays (ticket_lock.turn l i).1 i j l.line.cpus (ticket_lock.turn l i).0.line.cpus (let g = ticket_laws.goes n l i h below in g.line) ne on
  stays_by j ne q on = refl

first_by : (l : TicketLock) (x : ℕ) → get_elem? l.line.cpus 0 ≡ some x → (q : Stage) → on_at l.line x q ≡ true
first_by l x there (Ticket (Drawn t)) = at_first x l.line.cpus there
first_by l x there q = refl

module _ (n : ℕ) (l : TicketLock) (h : IsState ticket_lock n l) where
  stays : (i j : ℕ) → i < n → j ≢ i → on_at l.line j (l.line.stage j) ≡ true → on_at (ticket_lock.turn l i).0.line j ((ticket_lock.turn l i).0.line.stage j) ≡ true
  stays i j below ne on = subst (λ q. on_at (ticket_lock.turn l i).0.line j q ≡ true) (sym (others_by l i j ne (l.line.stage i))) (stays_by n l i h below j ne (l.line.stage j) on)

  outside : (x : ℕ) → x < n → has x l.line.cpus ≡ false → on_at l.line x (l.line.stage x) ≡ true
  outside x below absent = outside_by n l x h below (l.line.stage x) refl absent

  first : (x : ℕ) → get_elem? l.line.cpus 0 ≡ some x → FirstOn l.line.cpus (λ j. on_at l.line j (l.line.stage j)) x
  first x there = inl (first_by l x there (l.line.stage x))

pub ticket_progress : LockProgress ticket_lock (most_steps_of kinds.Ticket)
ticket_progress = record {
  left = left;
  some_left = some_left;
  few_left = few_left;
  gets_on = λ l i. on_at l.line i (l.line.stage i);
  others = λ l i x ne. others_by l i x ne (l.line.stage i);
  nearer = λ n l i h below not on unended. nearer_by n l i h below (l.line.stage i) refl on unended;
  in_vain = λ l i off. in_vain_by l i (l.line.stage i) off;
  ended = λ l i e. ended_by l i (l.line.stage i) e;
  stays_or = λ n l i j h below _ ne on. inl (stays n l h i j below ne on);
  someone = λ n l i h below. one_on l.line.cpus (λ j. on_at l.line j (l.line.stage j)) i (outside n l h i below) (first n l h);
}

pub ticket_fairness : LockFairness ticket_lock (most_steps_of kinds.Ticket) ticket_progress
unfolding ticket_progress
ticket_fairness = record {
  stays = λ n l i j h below _ ne on. stays n l h i j below ne on;
  outside = λ n l x h below absent. outside n l h x below absent;
  first = λ n l x h there. first n l h x there;
}
