-- What a step may report of the object, and of numbers that aren't the seat's: the same at every lock.
use Rattle.std.proofs.{Common.{◌≡◌, ◌≢◌, ℕ, ◌+◌, ◌<◌, ◌≤◌, Bool, true, true≢false, List, [], ◌∷◌, ◌++◌, length, drop, refl, sym, ap, ◌∙◌, subst, arith, Option, Some, None}, lemmas.Bool.false_from_ne_true, lemmas.Bool.Decides.nat_tests, Math.Bool.Bool-discrete}
use Rattle.std.specs.List.{AllByRecursion}
use mathlib.{Core.Logic.dite, Core.Option.some}
use native.Mathlib.Decide.{ℕ_discrete}
use lib.ListN.{get_elem?}
use Rattle.event_log.specs.{declared.object.SeqObject.Ghosts, declared.event.Event.Event, Distinct.has, History.History, Log.Begins}
use Rattle.atomic_table.specs.Table.{rest}
use Rattle.event_log.proofs.Beginnings.{begins_rest}
use Rattle.sound_run.specs.declared.lock_kind.LockKind.{LockKind}
use Rattle.word_rule.specs.{declared.machine.step_done.StepDone.StepDone, declared.lock_kind.Stage.Stage, declared.lock_kind.Stage.TheVariants.Idle, declared.view.TraceStep.TraceStep, Cell.{Cell, Grows, Lawful, stored}, LockRuns.{Extends, HasRun}, OneHold.{leaving, silently}, Rule.CellInvariant.{GhostState, Caller, SeatView, Table, EachFrom, CallerInvariant, SeatInvariant, CellInvariant, callers_in}, Rule.Seats.{Seat, moved_on, settled}, Rule.Announced.{any_has, Lacks, IsElse, Learns, Goes, Gets, Left, Returns}}
use Rattle.word_rule.proofs.{Lists.each_at, LockLaws.{in_line_below, idle_outside}, RunLists.{extends_after, extends_by, extends_beside, silent_own}, Stays.{not_mine, else_place}}

-- where a caller is idle, all its numbers are
pub all_idle : {O P C R : Type 0} (n : ℕ) (b : GhostState O P C R) (j k : ℕ) (c : Caller O P C R) → CallerInvariant n b j k c → c.stage ≡ Idle → (x : ℕ) → has x c.owned ≡ true → b.lock.line.stage x ≡ Idle
all_idle n b j k c s is x hx = dite (ℕ_discrete x c.cpu) (λ e. ap b.lock.line.stage e ∙ (s.stands (subst (λ (z : ℕ). has z c.owned ≡ true) e hx) ∙ is)) (λ ne. s.rests x hx ne)

-- what the rule says of a seat it says of each of its callers
pub caller_known : {O P C R : Type 0} (h : Cell O P C R) (b : GhostState O P C R) (j k : ℕ) (v : SeatView O P C R) (c : Caller O P C R) → SeatInvariant h b j v → get_elem? (callers_in v) k ≡ some c → CallerInvariant h.numbers b j k c
caller_known h b j k v c mine there = let same : 0 + k ≡ k = omega arith in subst (λ z. CallerInvariant h.numbers b j z c) same (each_at (CallerInvariant h.numbers b j) 0 (callers_in v) k c (mine.main, mine.others) there)

module _ {O P C R : Type 0} where
  -- the callers that a seat has taken in are idle
  abbrev pub AllIdle : List (Caller O P C R) → Type 0
  AllIdle cs = EachFrom (λ _ c. c.stage ≡ Idle) 1 cs

  pub idle_alone : (cs : List (Caller O P C R)) → cs ≡ [] → AllIdle cs
  idle_alone cs is = subst AllIdle (sym is) tt

module _ {O P C R : Type 0} where
  -- the object in the slot that comes first, or this one
  abbrev pub value_of : History O P C R → List (ℕ × Option (History O P C R)) → History O P C R
  value_of d [] = d
  value_of d ((n, Some x) ∷ cs) = x
  value_of d ((n, None) ∷ cs) = d

module _ {O P C R : Type 0} (meaning : Ghosts O P C R) (kind : LockKind) (h : Cell O P C R) where
  abbrev pub Rule : Table O P C R → Type 0
  Rule = CellInvariant meaning kind h

  pub same_cell : (b : GhostState O P C R) (id : ℕ) (v : SeatView O P C R) (g : Cell O P C R) → SeatInvariant h b id v → v.reported ≡ g ∷ [] → g ≡ h
  same_cell b id v g mine is = (subst (λ l. EachFrom (λ _ y. y ≡ h) 0 l) is mine.reported).0

  learn_each : (b : GhostState O P C R) (j k : ℕ) (cs : List (Caller O P C R)) → EachFrom (CallerInvariant h.numbers b j) k cs → EachFrom (λ _ c. Grows (λ x. has x c.owned) c.seen b.committed × Extends (λ x. has x c.owned) c.run [] b.run) k cs
  learn_each b j k [] know = tt
  learn_each b j k (c ∷ cs) know = ((know.0.grows, know.0.extends), learn_each b j (k + 1) cs know.1)

  -- all callers of a seat may see the committed log and the run
  pub learned : (b : GhostState O P C R) (id : ℕ) (v : SeatView O P C R) → Lawful meaning h b.committed → HasRun h b.committed b.run → SeatInvariant h b id v → Learns meaning v [] b.committed b.run
  learned b id v valid ran mine = record {
    grows = mine.main.grows;
    extends = mine.main.extends;
    others = learn_each b id 1 v.others mine.others;
    valid = λ g is. subst (λ (z : Cell O P C R). Lawful meaning z b.committed) (sym (same_cell b id v g mine is)) valid;
    ran = λ g is. subst (λ (z : Cell O P C R). HasRun z b.committed b.run) (sym (same_cell b id v g mine is)) ran;
  }

  learn_beside : (b : GhostState O P C R) (id p k : ℕ) (ms : List (TraceStep (Event O P C R))) (cs : List (Caller O P C R)) → b.owner p ≡ (id, 0) → 1 ≤ k → AllByRecursion (λ m. m.cpu ≡ p) ms → EachFrom (CallerInvariant h.numbers b id) k cs
      → EachFrom (λ _ c. Grows (λ x. has x c.owned) c.seen b.committed × Extends (λ x. has x c.owned) c.run [] (b.run ++ ms)) k cs
  learn_beside b id p k ms [] mine le own know = tt
  learn_beside b id p k ms (c ∷ cs) mine le own know = (
    (know.0.grows, extends_beside (λ x. has x c.owned) c.run b.run p ms know.0.extends own (λ x hx. not_mine b.owner p x mine (else_place id k id le) ((know.0.owns x hx).0))),
    learn_beside b id p (k + 1) ms cs mine (omega arith) own know.1,
  )

  -- and the steps that the first of them has done
  pub learned_by : (b : GhostState O P C R) (id : ℕ) (v : SeatView O P C R) (done : List StepDone) → has v.main.cpu v.main.owned ≡ true → Lawful meaning h b.committed → HasRun h b.committed (b.run ++ silently v.main.cpu done) → SeatInvariant h b id v
      → Learns meaning v (silently v.main.cpu done) b.committed (b.run ++ silently v.main.cpu done)
  learned_by b id v done acts valid ran mine =
      let ms : List (TraceStep (Event O P C R)) = silently v.main.cpu done in
      let owned : ℕ → Bool = λ x. has x v.main.owned in
      record {
        grows = mine.main.grows;
        extends = extends_after owned v.main.run b.run ms (b.run ++ ms) mine.main.extends (extends_by owned b.run ms);
        others = learn_beside b id v.main.cpu 1 ms v.others ((mine.main.owns v.main.cpu acts).0) (omega arith) (silent_own (Event O P C R) v.main.cpu done) mine.others;
        valid = λ g is. subst (λ (z : Cell O P C R). Lawful meaning z b.committed) (sym (same_cell b id v g mine is)) valid;
        ran = λ g is. subst (λ (z : Cell O P C R). HasRun z b.committed (b.run ++ ms)) (sym (same_cell b id v g mine is)) ran;
      }

  module _ (s : Table O P C R) (r : Rule s) (id : ℕ) (me : Seat O P C R) (acts : has me.0.main.cpu me.0.main.owned ≡ true) (mine : SeatInvariant h r.state id me.0) where
    abbrev run_by : List StepDone → List (TraceStep (Event O P C R))
    run_by done = r.state.run ++ silently me.0.main.cpu done

    -- the object that is at home is one that a step may give
    pub gets : (stage : Stage) (done : List StepDone) → HasRun h r.state.committed (run_by done) → Gets meaning stage done me (settled me.0 stage r.state.committed (run_by done), (0, Some (stored meaning h r.state.committed)) ∷ me.1)
    gets stage done ran = record {
      object = stored meaning h r.state.committed;
      run = run_by done;
      seat = refl;
      learns = learned_by r.state id me.0 done acts r.valid ran mine;
      replayed = λ g is. ap (λ (z : Cell O P C R). stored meaning z r.state.committed) (sym (same_cell r.state id me.0 g mine is));
    }

    -- what a step reports that moves its caller alone
    pub goes : (stage : Stage) (done : List StepDone) → HasRun h r.state.committed (run_by done) → Goes meaning stage done me (moved_on me.0 stage r.state.committed (run_by done), me.1)
    goes stage done ran = record {
      log = r.state.committed;
      run = run_by done;
      seat = refl;
      learns = learned_by r.state id me.0 done acts r.valid ran mine;
      still = λ holds. sym (mine.main.whole acts holds);
    }

    abbrev events_since : List (Event O P C R) → List (Event O P C R)
    events_since log = drop (length me.0.main.seen) log

    -- what a step reports that ends a hold on the object x
    pub returns : (stage : Stage) (step : StepDone) (x : History O P C R) (more : List (ℕ × Option (History O P C R))) → me.1 ≡ (0, Some x) ∷ more → Begins me.0.main.seen x.log → HasRun h x.log (r.state.run ++ leaving me.0.main.cpu step (events_since x.log) ∷ [])
        → Returns stage step me (settled me.0 stage x.log (r.state.run ++ leaving me.0.main.cpu step (events_since x.log) ∷ []), rest me.1)
    returns stage step x more carries begins ran x' more' e =
        let v = me.0 in
        let owned : ℕ → Bool = λ y. has y v.main.owned in
        let m : TraceStep (Event O P C R) = leaving v.main.cpu step (events_since x.log) in
        let run = r.state.run ++ m ∷ [] in
        let same = sym carries ∙ e in
        subst (λ (z : History O P C R × List (ℕ × Option (History O P C R))). Left stage step v (settled v stage x.log run, rest me.1) z.0 z.1) (λ k. (value_of x (same k), rest (e k))) record {
          run = run;
          events = events_since x.log;
          seat = refl;
          added = begins_rest v.main.seen x.log begins;
          extends = record { before = r.state.run; extends = mine.main.extends; is = refl };
          ran = λ g is. subst (λ (z : Cell O P C R). HasRun z x.log run) (sym (same_cell r.state id v g mine is)) ran;
        }

  -- one in line that isn't the one that the caller acts as isn't the caller's
  pub someone_else : (s : Table O P C R) (r : Rule s) (id : ℕ) (v : SeatView O P C R) (y : ℕ) → SeatInvariant h r.state id v → has y r.state.lock.line.cpus ≡ true → y ≢ v.main.cpu → IsElse v y
  someone_else s r id v y mine in_line ne =
      let l = r.state.lock in
      let below = in_line_below h.numbers l r.tied.state y in_line in
      record {
        other = false_from_ne_true (has y v.main.owned) (λ hy. true≢false (sym in_line ∙ idle_outside h.numbers l r.tied.state y below (mine.main.rests y hy ne)));
        inside = λ g is. subst (λ (z : Cell O P C R). y < z.numbers) (sym (same_cell r.state id v g mine is)) below;
      }

  outs : (b : GhostState O P C R) (j k : ℕ) (cs : List (Caller O P C R)) (y : ℕ) → EachFrom (CallerInvariant h.numbers b j) k cs → EachFrom (λ _ c. c.stage ≡ Idle) k cs → any_has y cs ≡ true → b.lock.line.stage y ≡ Idle
  outs b j k [] y know is hy = absurd (true≢false (sym hy))
  outs b j k (c ∷ cs) y know is hy = dite (Bool-discrete (has y c.owned) true)
      (λ yes. all_idle h.numbers b j k c know.0 is.0 y yes)
      (λ not. outs b j (k + 1) cs y know.1 is.1 (grind (arith, nat_tests)))

  -- so a seat, of whose callers the first alone isn't idle, lacks it
  pub lacks : (s : Table O P C R) (r : Rule s) (id : ℕ) (v : SeatView O P C R) (y : ℕ) → SeatInvariant h r.state id v → AllIdle v.others → has y r.state.lock.line.cpus ≡ true → y ≢ v.main.cpu → Lacks v
  lacks s r id v y mine out in_line ne g has_all =
      let b = r.state in
      let below = in_line_below h.numbers b.lock r.tied.state y in_line in
      let other = someone_else s r id v y mine in_line ne in
      let cover = has_all.each y (other.inside g has_all.reported) in
      let no_mine = other.other in
      true≢false (sym in_line ∙ idle_outside h.numbers b.lock r.tied.state y below (outs b id 1 v.others y mine.others out (grind (arith, nat_tests))))
