-- What a ticket lock proves of its definition.
use Rattle.std.proofs.{Common.{◌≡◌, ℕ, ◌+◌, ◌%◌, ◌<◌, ◌==◌, Bool, true, false, cond, List, [], ◌∷◌, ◌++◌, length, refl, sym, ◌∙◌, arith}, lemmas.Bool.{ltb-true, lt-ltb}}
use Rattle.word_rule.specs.{declared.machine.step_done.StepDone.StepDone, declared.lock_kind.Stage.Stage, declared.lock_kind.Stage.TheVariants.{Idle, Ticket}, declared.lock_kind.TicketStage.TheVariants.{Drawn, Served}, Line.{behind, is_first, lined, taking}, LockDefinition.{IsState, IsTied}, StepKinds.ends_hold, Ticket.Definition.{ticket_lock, ticket_turn}, Ticket.State.{TicketLock, tickets, ticket_words, without_ticket, without_tickets}}
use Rattle.word_rule.proofs.{LockInterface.{Goes, SameTurn, LockLaws, NoneTries, is_idle, moved_whole}, Lists.split_line, LockStates.stands_at, Ticket.Tries.tries, Ticket.Turns.{outside, first_if, draws, takes, holder_first, serves_state, starts_ticket}}
use Rattle.word_rule.specs.declared.machine.step_done.StepDone.TheVariants as steps

-- a look, by whether i is the first
module _ (l : TicketLock) (i t : ℕ) where
  abbrev pub Looked : Bool → TicketLock × StepDone
  Looked b = cond b (record l { line = taking l.line i (Ticket (Served t)) }, steps.Look true) (l, steps.Look false)

module _ (n : ℕ) (l : TicketLock) (i : ℕ) (h : IsState ticket_lock n l) (below : i < n) where
  tied : IsTied ticket_lock n (ticket_words l) l
  tied = record { state = h; words = refl }

  goes_by : (q : Stage) → l.line.stage i ≡ q → Goes ticket_lock n l i (ticket_turn l i q)
  goes_by Idle e = record { state = (draws n (ticket_words l) l tied i below e).state; line = refl }
  goes_by (Ticket (Drawn t)) e = by (is_first i l.line.cpus) refl
    where
      by : (b : Bool) → is_first i l.line.cpus ≡ b → Goes ticket_lock n l i (Looked l i t b)
      by true f = record { state = (takes n (ticket_words l) l tied i below t e f).state; line = refl }
      by false f = record { state = h; line = refl }
  goes_by (Ticket (Served t)) e =
      let r = holder_first n (ticket_words l) l tied i below t e in
      record { state = serves_state n (ticket_words l) l tied i below t e; line = split_line i r.0 l.line.cpus r.1 }
  goes_by q e = record { state = h; line = refl }

  acts_by : (q : Stage) → l.line.stage i ≡ q → is_idle (ticket_turn l i q).1 ≡ false
  acts_by Idle e = refl
  acts_by (Ticket (Drawn t)) e = by (is_first i l.line.cpus)
    where
      by : (b : Bool) → is_idle (Looked l i t b).1 ≡ false
      by true = refl
      by false = refl
  acts_by (Ticket (Served t)) e = refl
  acts_by q e = absurd (stands_at ticket_lock n l h i q below e)

whole_by : (l : TicketLock) (i : ℕ) (q : Stage) → NoneTries l.line.stage → NoneTries (ticket_turn l i q).0.line.stage
whole_by l i Idle h = moved_whole l.line.stage i _ h refl
whole_by l i (Ticket (Drawn t)) h = by (is_first i l.line.cpus)
  where
    by : (b : Bool) → NoneTries (Looked l i t b).0.line.stage
    by true = moved_whole l.line.stage i _ h refl
    by false = h
whole_by l i (Ticket (Served t)) h = moved_whole l.line.stage i _ h refl
whole_by l i q h = h

stage_twice : (q : Stage) → without_ticket (without_ticket q) ≡ without_ticket q
stage_twice (Ticket (Drawn t)) = refl
stage_twice (Ticket (Served t)) = refl
stage_twice q = refl

twice : (l : TicketLock) → without_tickets (without_tickets l) ≡ without_tickets l
twice l k = record { line = record { cpus = l.line.cpus; out = l.line.out; stage = λ x. stage_twice (l.line.stage x) k }; extra = 0 }

module _ (l : TicketLock) (i : ℕ) where
  abbrev P : TicketLock
  P = without_tickets l

  -- i goes elsewhere, where it is alike but for its ticket
  alike : (cpus : List ℕ) (out : Bool) (q q' : Stage) (extra extra' : ℕ) → without_ticket q' ≡ without_ticket q
      → without_tickets record { line = lined cpus out P.line.stage i q'; extra = extra' } ≡ without_tickets record { line = lined cpus out l.line.stage i q; extra = extra }
  alike cpus out q q' extra extra' same k = record { line = record { cpus = cpus; out = out; stage = λ x. by (x == i) (l.line.stage x) k }; extra = 0 }
    where
      by : (b : Bool) (p : Stage) → without_ticket (cond b q' (without_ticket p)) ≡ without_ticket (cond b q p)
      by true p = same
      by false p = stage_twice p

  erased_by : (q : Stage) → SameTurn ticket_lock (ticket_turn l i q) (ticket_turn P i (without_ticket q))
  erased_by Idle = record { step = refl; lock = alike (l.line.cpus ++ i ∷ []) l.line.out (Ticket (Drawn ((l.extra + length l.line.cpus) % tickets))) (Ticket (Drawn ((0 + length l.line.cpus) % tickets))) l.extra 0 refl }
  erased_by (Ticket (Drawn t)) = by (is_first i l.line.cpus)
    where
      by : (b : Bool) → SameTurn ticket_lock (Looked l i t b) (Looked P i 0 b)
      by true = record { step = refl; lock = alike l.line.cpus true (Ticket (Served t)) (Ticket (Served 0)) l.extra 0 refl }
      by false = record { step = refl; lock = twice l }
  erased_by (Ticket (Served t)) = record { step = refl; lock = alike (behind l.line.cpus) false Idle Idle ((l.extra + 1) % tickets) ((0 + 1) % tickets) refl }
  erased_by q = record { step = refl; lock = twice l }

-- the next ticket is served where a hold ends, and else the same
pub served_after : (l : TicketLock) (i : ℕ) (q : Stage) → (ticket_turn l i q).0.extra ≡ cond (ends_hold (ticket_turn l i q).1) ((l.extra + 1) % tickets) l.extra
served_after l i Idle = refl
served_after l i (Ticket (Drawn t)) = by (is_first i l.line.cpus)
  where
    by : (b : Bool) → (Looked l i t b).0.extra ≡ cond (ends_hold (Looked l i t b).1) ((l.extra + 1) % tickets) l.extra
    by true = refl
    by false = refl
served_after l i (Ticket (Served t)) = refl
served_after l i q = refl

pub ticket_laws : LockLaws ticket_lock
ticket_laws = record {
  begins = λ n first few. (starts_ticket n first _ (ltb-true n tickets few) refl).state;
  opens_erased = λ first first'. refl;
  few_fit = λ n few. lt-ltb n tickets (omega arith);
  fits = λ n l h. lt-ltb n tickets h.extra.1;
  outside = λ n. outside;
  first = λ n. first_if;
  holds = λ ticket. refl;
  goes = λ n l i h below. goes_by n l i h below (l.line.stage i) refl;
  whole = λ l i h. whole_by l i (l.line.stage i) h;
  acts = λ n l i h below not. acts_by n l i h below (l.line.stage i) refl;
  erased_twice = twice;
  erased_line = λ l. (refl, refl);
  erased = λ l i not. erased_by l i (l.line.stage i);
  counts = λ l l' i step same. served_after l i (l.line.stage i) ∙ ((λ j. cond (ends_hold (step j)) ((same j + 1) % tickets) (same j)) ∙ sym (served_after l' i (l'.line.stage i)));
  tries = tries;
  prepares = λ l i x ne. refl;
}
