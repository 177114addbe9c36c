-- Operations on a cell's table that aren't a single turn, at any lock: two turns, each with its own report; and the end of a hold
-- after which the caller is at another stage than the turn leaves it, where `erase` makes both locks equal.
use Rattle.std.proofs.Common.{◌≡◌, ℕ, ◌<◌, Bool, true, false, true≢false, List, [], ◌∷◌, ◌++◌, drop, length, set, refl, sym, ap, ◌∙◌, subst, arith, append_assoc, Option, Some}
use mathlib.Core.Option.{some}
use lib.ListN.{get_elem?}
use Rattle.atomic_table.specs.Table.{gives, rest, stepped}
use Rattle.atomic_table.proofs.Lists.{set_here}
use Rattle.event_log.specs.{declared.object.SeqObject.Ghosts, declared.event.Event.Event, Distinct.has, History.History}
use Rattle.event_log.proofs.Beginnings.{begins_rest}
use Rattle.sound_run.specs.declared.lock_kind.LockKind.{LockKind}
use Rattle.word_rule.specs.{declared.machine.step_done.StepDone.StepDone, declared.lock_kind.Stage.Stage, declared.lock_kind.Stage.TheVariants.Idle, declared.view.TraceStep.TraceStep, Cell.{Cell, Lawful, stored}, Line.moved, Mcs.State.untried, LockDefinition.{IsTied, LockDefinition, LockState}, Locks.{Lock, definition_of, erase, holding, lock_of, served, turn}, LockRuns.{Extends, HasRun, IsTraceStep}, OneHold.{leaving, silently}, StepKinds.ends_hold, Rule.Announced.{Gets, Goes, IsElse, Lacks, Learns, Returns}, Rule.AtOnce.{two_turns, unready}, Rule.Callers.AddedBy, Rule.Definition.GoesOn, Rule.CellInvariant.{CellInvariant, IsMade, SeatInvariant, SeatView, Table}, Rule.LockStates.IsLockOf, Rule.Seats.{Seat, moved_on, settled}}
use Rattle.word_rule.proofs.{CallerSteps.Makes, Known.{goes, learned_by, returns, same_cell}, Lists.grows_self, Moves.stays_put, RunLists.extends_by, LockInterface.is_trying, LockLaws.{held_untried, one_holds}, RuleStates.{StandsIn, rule_of, turned_lock}, Runs.{does_so, goes_leaving, made_push, run_push, silent_push}, ShownLocks.tied_lock, Stays.{Restages, changed, own_events, seats_move}}

module _ (kind : LockKind) (m : LockState (definition_of kind).Extra) (p : ℕ) where
  -- an idle CPU has prepared no try
  pub unready_idle : m.line.stage p ≡ Idle → unready (lock_of kind m) p ≡ lock_of kind m
  unready_idle is = ap (λ f. lock_of kind (record { line = record { cpus = m.line.cpus; out = m.line.out; stage = f }; extra = m.extra })) (ap (λ q. moved m.line.stage p (untried q)) is ∙ sym (stays_put m.line.stage p Idle is))

-- two turns, given what each does
pub turns_twice : (l m n : Lock) (p : ℕ) (a b : StepDone) → turn l p ≡ (m, a) → turn m p ≡ (n, b) → two_turns l p ≡ (n, a ∷ b ∷ [])
turns_twice l m n p a b one two = ap (λ (z : Lock × StepDone). ((turn z.0 p).0, z.1 ∷ (turn z.0 p).1 ∷ [])) one ∙ ap (λ (z : Lock × StepDone). (z.0, a ∷ z.1 ∷ [])) two

module _ {O P C R : Type 0} (meaning : Ghosts O P C R) (kind : LockKind) (h : Cell O P C R) where
  abbrev Rule : Table O P C R → Type 0
  Rule = CellInvariant meaning kind h

  -- the run makes both of two locks that `erase` makes equal and that have the same number
  pub made_alike : (l l' : Lock) (run : List (TraceStep (Event O P C R))) → erase l' ≡ erase l → served l' ≡ served l → IsMade h l run → IsMade h l' run
  made_alike l l' run same number made = record { erased = λ first. same ∙ made.erased first; counts = number ∙ made.counts }

  module _ (s : Table O P C R) (r : Rule s) (id : ℕ) (me : Seat O P C R) (acts : has me.0.main.cpu me.0.main.owned ≡ true) (mine : SeatInvariant h r.state id me.0) where
    abbrev ran_by : List StepDone → List (TraceStep (Event O P C R))
    ran_by done = r.state.run ++ silently me.0.main.cpu done

    -- the seat between two steps: the first leaves its caller at this stage
    abbrev pub between : Stage → StepDone → Seat O P C R
    between q a = (moved_on me.0 q r.state.committed (ran_by (a ∷ [])), me.1)

    module _ (q : Stage) (a b : StepDone) (once : HasRun h r.state.committed (ran_by (a ∷ []))) (twice : HasRun h r.state.committed (ran_by (a ∷ b ∷ []))) where
      -- the report of the first step
      pub first_goes : Goes meaning q (a ∷ []) me (between q a)
      first_goes = goes meaning kind h s r id me acts mine q (a ∷ []) once

      second_learns : Learns meaning (between q a).0 (silently me.0.main.cpu (b ∷ [])) r.state.committed (ran_by (a ∷ b ∷ []))
      second_learns =
          let all = learned_by meaning kind h r.state id me.0 (a ∷ b ∷ []) acts r.valid twice mine in
          let owned : ℕ → Bool = λ x. has x me.0.main.owned in record {
            grows = grows_self owned r.state.committed;
            extends = subst (Extends owned (ran_by (a ∷ [])) (silently me.0.main.cpu (b ∷ []))) (append_assoc r.state.run (silently me.0.main.cpu (a ∷ [])) (silently me.0.main.cpu (b ∷ []))) (extends_by owned (ran_by (a ∷ [])) (silently me.0.main.cpu (b ∷ [])));
            others = all.others;
            valid = all.valid;
            ran = all.ran;
          }

      -- the report of the second step, which gets the object, or doesn't
      pub second_gets : (q' : Stage) → Gets meaning q' (b ∷ []) (between q a) (settled me.0 q' r.state.committed (ran_by (a ∷ b ∷ [])), (0, Some (stored meaning h r.state.committed)) ∷ me.1)
      second_gets q' = record {
        object = stored meaning h r.state.committed;
        run = ran_by (a ∷ b ∷ []);
        seat = refl;
        learns = second_learns;
        replayed = λ g is. ap (λ (z : Cell O P C R). stored meaning z r.state.committed) (sym (same_cell meaning kind h r.state id me.0 g mine is));
      }

      pub second_goes : (q' : Stage) → Goes meaning q' (b ∷ []) (between q a) (moved_on me.0 q' r.state.committed (ran_by (a ∷ b ∷ [])), me.1)
      second_goes q' = record { log = r.state.committed; run = ran_by (a ∷ b ∷ []); seat = refl; learns = second_learns; still = λ _. refl }

    -- between the steps the caller lacks the same numbers, and another's number is another's
    pub lacks_between : (q : Stage) (a : StepDone) → Lacks me.0 → Lacks (between q a).0
    lacks_between q a lacking g all = lacking g record { reported = all.reported; each = all.each }

    pub else_between : (q : Stage) (a : StepDone) (x : ℕ) → IsElse me.0 x → IsElse (between q a).0 x
    else_between q a x other = record { other = other.other; inside = other.inside }

  -- one turn of a lock that `erase` makes equal to the current one
  pub turned_alike : (s : Table O P C R) (r : Rule s) (p : ℕ) (l l' : Lock) (step : StepDone) → p < h.numbers
      → erase l ≡ erase r.state.lock → served l ≡ served r.state.lock → is_trying (l.line.stage p) ≡ false → turn l p ≡ (l', step) → HasRun h r.state.committed (r.state.run ++ silently p (step ∷ []))
  turned_alike s r p l l' step below same number not turned = subst (λ (z : StepDone). HasRun h r.state.committed (r.state.run ++ leaving p z [] ∷ [])) (ap (λ z. z.1) turned) (silent_push h l r.state.committed r.state.run p (made_alike r.state.lock l r.state.run same number r.made) r.ran not below)

  -- the seat's first caller ends its hold by this step and returns the object, to whose log only it has added. `erase` makes the
  -- lock equal to the one that the turn makes, and the caller is at this stage
  abbrev pub given_alike : (s : Table O P C R) (r : Rule s) (i n id : ℕ) (v : SeatView O P C R) (more : List (ℕ × Option (History O P C R))) (log : List (Event O P C R)) (l l' : Lock) (q : Stage) (step : StepDone)
      → erase l' ≡ erase l → served l' ≡ served l → Restages r.state.lock l' v.main.cpu q → 0 < length s.homes
      → get_elem? s.views id ≡ some v → has v.main.cpu v.main.owned ≡ true
      → holding (r.state.lock.line.stage v.main.cpu) ≡ true → ((y : ℕ) → y < h.numbers → holding (r.state.lock.line.stage y) ≡ true → y ≡ v.main.cpu)
      → AddedBy v.main.cpu v.main.seen log → Lawful meaning h log → turn r.state.lock v.main.cpu ≡ (l, step) → ends_hold step ≡ true → IsLockOf kind h.numbers (set s.words i n) l'
      → Rule (stepped s i n id ((0, Some (stored meaning h log)) ∷ more) (settled v q log (r.state.run ++ leaving v.main.cpu step (drop (length v.main.seen) log) ∷ [])) gives)
  given_alike s r i n id v more log l l' q step same number stage slot there acts holds alone added valid turned ends tied =
      let b = r.state in
      let p : ℕ = v.main.cpu in
      let mine = r.each id v there in
      let owned = mine.main.owns p acts in
      let events : List (Event O P C R) = drop (length v.main.seen) log in
      let whole : v.main.seen ≡ b.committed = mine.main.whole acts (sym (ap holding (mine.main.stands acts)) ∙ holds) in
      let adds : AddedBy p b.committed log = subst (λ (c : List (Event O P C R)). AddedBy p c log) whole added in
      let longer : b.committed ++ events ≡ log = ap (λ z. z ++ events) (sym whole) ∙ sym (begins_rest v.main.seen log added.begins) in
      let not : is_trying (b.lock.line.stage p) ≡ false = held_untried (b.lock.line.stage p) holds in
      let is : IsTraceStep h.numbers (leaving p (turn b.lock p).1 events) = record { inside = owned.1; own = own_events p v.main.seen log added; silent = λ e. absurd (true≢false (sym ends ∙ (ap (λ z. ends_hold z.1) (sym turned) ∙ e))) } in
      record {
        state = changed b log (b.run ++ leaving p step events ∷ []) l';
        tied = tied;
        ran = subst (λ (z : List (Event O P C R) × StepDone). HasRun h z.0 (b.run ++ leaving p z.1 events ∷ [])) (λ k. (longer k, (turned k).1)) (run_push h b.lock b.committed b.run p events r.made r.ran not is);
        made = made_alike l l' (b.run ++ leaving p step events ∷ []) same number (subst (λ (z : Lock × StepDone). IsMade h z.0 (b.run ++ leaving p z.1 events ∷ [])) turned (made_push h b.lock b.run p events r.made not));
        valid = valid;
        at_home = λ _. set_here s.homes 0 (some (Some (stored meaning h log))) slot;
        each = seats_move meaning kind h s r id v log (leaving p step events ∷ []) l' q stage there acts record { logged = adds; mine = (refl, tt) } (λ y below ne has_it. absurd (ne (alone y below has_it)));
      }

module _ {O P C R : Type 0} (meaning : Ghosts O P C R) (kind : LockKind) (h : Cell O P C R) (slots id : ℕ)
    (me : Seat O P C R) (acts : has me.0.main.cpu me.0.main.owned ≡ true) {old : Stage} (s : Table O P C R) (m : LockState (definition_of kind).Extra) (c : StandsIn meaning kind h slots id me old s m) where
  abbrev d : LockDefinition
  d = definition_of kind

  abbrev p : ℕ
  p = me.0.main.cpu

  module _ (i k : ℕ) (l l' : LockState d.Extra) (tied : IsTied d h.numbers (set s.words i k) l') (step : StepDone)
      (does : d.turn m p ≡ (l, step)) (same : erase (lock_of kind l') ≡ erase (lock_of kind l)) (number : served (lock_of kind l') ≡ served (lock_of kind l))
      (x : History O P C R) (others : List (ℕ × Option (History O P C R))) (one : slots ≡ 1) (carries : me.1 ≡ (0, Some x) ∷ others)
      (added : AddedBy p me.0.main.seen x.log) (valid : Lawful meaning h x.log) (is_stored : x ≡ stored meaning h x.log) where
    abbrev events : List (Event O P C R)
    events = drop (length me.0.main.seen) x.log

    abbrev run' : List (TraceStep (Event O P C R))
    run' = c.rule.run ++ leaving p step events ∷ []

    -- the caller returns the object, and is at this stage
    pub gives_to : (next : Lock → ℕ → Lock × List StepDone) (q : Stage) → holding old ≡ true → l'.line.stage ≡ moved m.line.stage p q → ends_hold step ≡ true → next (lock_of kind m) p ≡ (lock_of kind l', step ∷ [])
        → (reported : Seat O P C R → Type 0)
        → (Returns q step me (settled me.0 q x.log run', rest me.1) → reported (settled me.0 q x.log run', rest me.1))
        → Makes meaning kind h slots id me next s (rule_of meaning kind h s (lock_of kind m) c.rule) i k reported
    gives_to next q has_it stage ends is reported reports =
        let r = rule_of meaning kind h s (lock_of kind m) c.rule in
        let holds = ap holding c.at ∙ has_it in
        let len = c.homes in
        let slot : me.1 ≡ (0, Some (stored meaning h x.log)) ∷ others = carries ∙ ap (λ z. (0, Some z) ∷ others) is_stored in
        let ended = given_alike meaning kind h s r i k id me.0 others x.log (lock_of kind l) (lock_of kind l') q step same number stage (omega (arith, len, one)) c.there acts holds (λ y y_below y_has. one_holds h.numbers (lock_of kind m) c.rule.tied.state y p y_below c.below y_has holds) added valid (turned_lock kind m p (l, step) does) ends (tied_lock kind h.numbers _ l' tied) in
        let so = does_so p c.rule.run (next (lock_of kind m) p) (lock_of kind l') (step ∷ []) run' is (goes_leaving p c.rule.run step events) in
        let now = subst (λ (cs : List (ℕ × Option (History O P C R))). (r' : CellInvariant meaning kind h (stepped s i k id cs (settled me.0 q x.log run') gives)) × (r'.state.lock ≡ (next (lock_of kind m) p).0) × GoesOn p (next (lock_of kind m) p).1 c.rule.run r'.state.run) (sym slot) (ended, so.0, so.1) in
        (settled me.0 q x.log run', gives, tt, now.0, reports (returns meaning kind h s r id me acts c.mine q step x others carries added.begins ended.ran), now.1, now.2)
