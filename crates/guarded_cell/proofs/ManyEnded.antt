-- Callers that began with the passes of a new cell have joined, and the last pass ended the cell.
use Rattle.std.proofs.{Common.{◌≡◌, ℕ, ◌<◌, ◌==◌, if◌then◌else◌, List, [], length, map, drop, refl, sym, ◌∙◌, ap, subst, arith, slice_get, Some}, lemmas.{Bool.eq-eqb, Option.slice_get_within}}
use Rattle.std.specs.Prelude.{unwrap_or}
use Rattle.event_log.specs.{declared.object.SeqObject.Ghosts, declared.event.Event.Event, declared.entry.Todo.Todo, Log.Begins, History.History}
use Rattle.event_log.proofs.Lists.{some_at}
use Rattle.word_rule.specs.{declared.view.TraceStep.TraceStep, Cell.{Cell, PassView, Lawful, IsPassView, OwnsAll, opening_pass, stored}, LockRuns.{HasRun, arrivals_in, endings_in}, Replay.{AllDoRun, DoesRun, todo_of}}
use Rattle.word_rule.proofs.{EventOrder.events_begin, HoldsPlayed.holds_played, Replays.is_replay}
use Rattle.guarded_cell.specs.{Held.holds_of, ManyCallers.{HasJoined, AllHaveJoined, AreCalledBy, AreCarriedOut, HasOrderedRun, holds_at}}

-- a choice by a number's equality with itself
if_same : {X : Type 0} (k : ℕ) (a b : X) → (if k == k then a else b) ≡ a
if_same k a b = ap (λ t. if t then a else b) (eq-eqb k k refl)

module _ {S O P C R : Type 0} (meaning : Ghosts O P C R) (view : S → PassView O P C R) (run_of : S → List (TraceStep (Event O P C R)))
    (cell : Cell O P C R) (ps : List S) (scripts : List (List C)) (ds : List ℕ) (last : S)
    (new : (k : ℕ) (p : S) → slice_get ps k ≡ Some p → (view p ≡ opening_pass cell k) × (run_of p ≡ []))
    (wide : length ps ≡ cell.numbers) (long : length scripts ≡ cell.numbers) (some : 0 < cell.numbers)
    (all : AllHaveJoined meaning view run_of ps scripts ds last) where
  -- CPU k has joined
  joined_at : (k : ℕ) (calls : List C) (n : ℕ) → k < cell.numbers → slice_get scripts k ≡ Some calls → slice_get ds k ≡ Some n
      → HasJoined meaning (opening_pass cell k) [] calls n (view last) (run_of last)
  joined_at k calls n lt at_calls at_done =
      let p = some_at ps k (omega (arith, lt, wide)) in
      let is = new k p.0 p.1 in
      subst (λ z. HasJoined meaning z [] calls n (view last) (run_of last)) is.0
      (subst (λ z. HasJoined meaning (view p.0) z calls n (view last) (run_of last)) is.1
      (all.each k p.0 calls n p.1 at_calls at_done))

  calls_at : (k : ℕ) → k < cell.numbers → (calls : List C) × (slice_get scripts k ≡ Some calls)
  calls_at k lt = some_at scripts k (omega (arith, lt, long))

  done_at : (k : ℕ) → k < cell.numbers → (n : ℕ) × (slice_get ds k ≡ Some n)
  done_at k lt = let same = all.counts in some_at ds k (omega (arith, lt, same, wide))

  -- CPU k has joined, with its own calls and count
  whole_at : (k : ℕ) (lt : k < cell.numbers) → HasJoined meaning (opening_pass cell k) [] (calls_at k lt).0 (done_at k lt).0
      (view last) (run_of last)
  whole_at k lt = joined_at k (calls_at k lt).0 (done_at k lt).0 lt (calls_at k lt).1 (done_at k lt).1

  -- the last pass is of the cell, and owns every number
  pub same_cell : (view last).caller.cell ≡ cell
  same_cell = (whole_at 0 some).cell

  pub owns_each : OwnsAll (view last).caller
  owns_each = record { each = λ k lt. (whole_at k (subst (λ z. k < z.numbers) same_cell lt)).owned k (eq-eqb k k refl) }

  module _ (h : History O P C R) (part : IsPassView meaning (view last))
      (closed : h ≡ stored meaning (view last).caller.cell (view last).seen) where
    log_is : h.log ≡ (view last).seen
    log_is = ap (λ z. z.log) closed

    valid : Lawful meaning cell h.log
    valid = subst (Lawful meaning cell) (sym log_is) (subst (λ z. Lawful meaning z (view last).seen) same_cell part.valid)

    within_at : (k : ℕ) (calls : List C) → slice_get scripts k ≡ Some calls → k < cell.numbers
    within_at k calls at = let lt = slice_get_within scripts k calls at in omega (arith, lt, long)

    pub carried_out : AreCarriedOut meaning cell scripts ds h
    carried_out = record {
      valid = valid;
      replayed = closed ∙ (ap (λ z. stored meaning z (view last).seen) same_cell ∙ ap (stored meaning cell) (sym log_is));
      counts = all.counts ∙ (wide ∙ sym long);
      each = λ k calls n at_calls at_done.
          let l = joined_at k calls n (within_at k calls at_calls) at_calls at_done in
          subst (AreCalledBy cell k calls n) (sym log_is) (record { mine = l.called.mine; count = l.count; full = l.full });
    }

    -- each CPU has done its script
    abbrev script : ℕ → List (Todo O P C R)
    script k = map todo_of (holds_at scripts ds k)

    all_do : AllDoRun meaning cell (run_of last) script (λ _. [])
    all_do k lt =
        let l = whole_at k lt in
        let c = calls_at k lt in
        let n = done_at k lt in
        let held = holds_played meaning (opening_pass cell k).caller k (eq-eqb k k refl) [] (run_of last)
        (holds_of c.0 n.0) [] l.held refl in
        let is : holds_at scripts ds k ≡ holds_of c.0 n.0 =
        ap (λ o. holds_of (unwrap_or o []) (unwrap_or (slice_get ds k) 0)) c.1 ∙ ap (λ o. holds_of c.0 (unwrap_or o 0)) n.1 in
        subst (λ s. DoesRun meaning k cell.limit cell.opening (run_of last) s [])
        (if_same k (map todo_of (holds_of c.0 n.0)) [] ∙ ap (map todo_of) (sym is)) held

    pub ordered_run : HasRun (view last).caller.cell (view last).seen (run_of last)
        → endings_in (run_of last) ≡ arrivals_in (run_of last) → HasOrderedRun meaning cell scripts ds h.log
    ordered_run has in_order =
        let ran : HasRun cell h.log (run_of last) = subst (λ l. HasRun cell l (run_of last)) (sym log_is)
        (subst (λ z. HasRun z (view last).seen (run_of last)) same_cell has) in
        record {
          run = run_of last;
          ran = ran;
          in_order = in_order;
          events = subst (Begins (map (λ (e : Event O P C R). e.cpu) (drop (length cell.opening) h.log))) in_order
              (events_begin meaning cell h.log (run_of last) script (λ _. []) ran all_do valid.within);
          replayed = λ ticket. is_replay meaning cell (λ _. []) script h.log (run_of last) ran valid.legal valid.within all_do ticket;
        }
