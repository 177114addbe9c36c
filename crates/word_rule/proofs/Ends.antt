-- A new cell meets its rule, and at its end a pass with every number finds the object at home: the same at every lock.
use Rattle.std.proofs.{Common.{◌≡◌, ℕ, zero, suc, ◌+◌, ◌<◌, true≢false, List, [], ◌∷◌, refl, sym, ap, ◌∙◌, subst, arith, Option, Some}, Math.Seq.drop-length}
use Rattle.std.specs.List.{AllByRecursion}
use mathlib.{Core.Logic.dite, Core.Option.{some, some-injective, some-ne-none}}
use native.Mathlib.Decide.{dec_lt}
use lib.ListN.{get_elem?}
use Rattle.atomic_table.specs.Table.{opening, Final, Seen}
use Rattle.event_log.specs.{declared.object.SeqObject.Ghosts, declared.event.Event.Event, Distinct.has, History.{History, IsKept}}
use Rattle.event_log.proofs.Beginnings.{begins_self}
use Rattle.sound_run.specs.declared.lock_kind.LockKind.{LockKind}
use Rattle.word_rule.specs.{declared.lock_kind.Stage.TheVariants.Idle, declared.view.TraceStep.TraceStep, Cell.{Cell, cell_of, Lawful, OwnsAll, IsPassView, stored}, LockRuns.{lock_after, arrivals_in, endings_in}, Locks.opening_lock, Rule.LockStates.IsLockOf, Rule.CellInvariant.{GhostState, SeatView, Table, EachFrom, CallerInvariant, SeatInvariant, CellInvariant}, Rule.Seats.{Seat, idle_from, first_view}, Rule.Callers.{caller_of, pass_view_of, IsWithout}}
use Rattle.word_rule.proofs.{Lists.{has_one, grows_self, same_log, of_opening}, Known.all_idle, LockLaws.{fits, idle_home, idle_empty, opens_erased, erased_cpus}, RunLists.{extends_self, same_run, all_inside}, RunOrder.all_ended, Runs.no_run}

module _ {O P C R : Type 0} (h : Cell O P C R) (kind : LockKind) (first : ℕ) where
  abbrev start : GhostState O P C R
  start = record { committed = h.opening; run = []; lock = opening_lock kind first; owner = λ x. (0, x + 1) }

  known : (k m : ℕ) → k + m ≡ h.numbers → EachFrom (CallerInvariant h.numbers start 0) (k + 1) (idle_from k m h.opening)
  known k zero e = tt
  known k (suc m) e = (
    record {
      owns = λ x hx. let is = has_one x k hx in let below : x < h.numbers = omega arith in ((λ i. (0, is i + 1)), below);
      grows = grows_self (λ x. has x (k ∷ [])) h.opening;
      extends = extends_self (λ x. has x (k ∷ [])) [];
      stands = λ _. refl;
      whole = λ _ _. refl;
      rests = λ x _ _. refl;
      finds = λ _ e _. cc;
    },
    known (k + 1) m (omega arith),
  )

  mine : SeatInvariant h start 0 (first_view h)
  mine = record {
    reported = (refl, tt);
    main = record {
      owns = λ y hy. absurd (true≢false (sym hy));
      grows = record { begins = record { start = refl }; own = λ y hy. absurd (true≢false (sym hy)) };
      extends = record { begins = record { start = refl }; own = λ y hy. absurd (true≢false (sym hy)) };
      stands = λ hy. absurd (true≢false (sym hy));
      whole = λ hy _. absurd (true≢false (sym hy));
      rests = λ y hy _. absurd (true≢false (sym hy));
      finds = λ _ e _. cc;
    };
    others = known 0 h.numbers (omega arith);
  }

  one : (j : ℕ) (u : SeatView O P C R) → get_elem? (first_view h ∷ []) j ≡ some u → SeatInvariant h start j u
  one zero u e = subst (SeatInvariant h start 0) (some-injective (first_view h) u e) mine
  one (suc j) u e = absurd (some-ne-none u (sym e))

module _ {O P C R : Type 0} (meaning : Ghosts O P C R) where
  -- the opening log is lawful for the cell
  pub opens_valid : (k : LockKind) (f : ℕ) (x : History O P C R) (n : ℕ) → IsKept meaning x → Lawful meaning (cell_of k f n x) x.log
  opens_valid k f x n kept = record {
    begins = begins_self x.log;
    legal = kept.legal;
    within = kept.within;
    numbered = subst (λ l. AllByRecursion (λ (e : Event O P C R). e.cpu < n) l) (sym (drop-length x.log)) tt;
  }

  -- and what it is made of is what it stores
  pub opens_stored : (k : LockKind) (f : ℕ) (x : History O P C R) (n : ℕ) → IsKept meaning x → x ≡ stored meaning (cell_of k f n x) x.log
  opens_stored k f x n kept i = record { params = x.params; limit = x.limit; log = x.log; state = kept.replayed i }

module _ {O P C R : Type 0} (meaning : Ghosts O P C R) (kind : LockKind) where
  pub opens : (ws : List ℕ) (x : History O P C R) (n first : ℕ) → IsKept meaning x → IsLockOf kind n ws (opening_lock kind first) → CellInvariant meaning kind (cell_of kind first n x) (opening ws (Some x ∷ []) (first_view (cell_of kind first n x)))
  opens ws x n first kept tied = record {
    state = start (cell_of kind first n x) kind first;
    tied = tied;
    ran = no_run (cell_of kind first n x) (fits n (opening_lock kind first) tied.state);
    made = record { erased = λ f. opens_erased kind first f; counts = refl };
    valid = opens_valid meaning kind first x n kept;
    at_home = λ _. ap (λ z. some (some (Some z))) (opens_stored meaning kind first x n kept);
    each = one (cell_of kind first n x) kind first;
  }

  -- what the end of a cell finds where a pass has each number: the object at home, the log and the run that the pass has seen,
  -- and nobody in line
  pub record IsDone (h : Cell O P C R) (v : SeatView O P C R) (s : Table O P C R) : Type 0 where
    pub home : get_elem? s.homes 0 ≡ some (some (Some (stored meaning h v.main.seen)))
    pub ended : endings_in v.main.run ≡ arrivals_in v.main.run

  pub closing : (h : Cell O P C R) (id : ℕ) (v : SeatView O P C R) (s : Table O P C R) → CellInvariant meaning kind h s → get_elem? s.views id ≡ some v → v.main.stage ≡ Idle → IsPassView meaning (pass_view_of h v) → OwnsAll (caller_of h v) → h.kind ≡ kind → IsDone h v s
  closing h id v s r there rests part all kind_is =
      let b = r.state in
      let know = r.each id v there in
      let idle : (x : ℕ) → x < h.numbers → b.lock.line.stage x ≡ Idle = λ x below. all_idle h.numbers b id 0 v.main know.main rests x (all.each x below) in
      let home = idle_home h.numbers b.lock r.tied.state idle in
      let same = same_log v.main.seen b.committed know.main.grows.begins (λ z. dite (dec_lt z h.numbers)
      (λ below. know.main.grows.own z (all.each z below))
      (λ not. of_opening z h.numbers b.committed h.opening (omega arith) r.valid.begins r.valid.numbered ∙ sym (of_opening z h.numbers v.main.seen h.opening (omega arith) part.valid.begins part.valid.numbered))) in
      let whole = same_run h.numbers (λ x. has x v.main.owned) v.main.run b.run know.main.extends all.each (all_inside h.numbers b.run r.ran.each) in
      let none : (lock_after b.run (opening_lock h.kind 0)).line.cpus ≡ [] = sym (erased_cpus b.lock (lock_after b.run (opening_lock h.kind 0)) (r.made.erased 0)) ∙ idle_empty h.numbers b.lock r.tied.state idle in
      record {
        home = r.at_home home ∙ ap (λ l. some (some (Some (stored meaning h l)))) same;
        ended = subst (λ (run : List (TraceStep (Event O P C R))). endings_in run ≡ arrivals_in run) whole (all_ended h b.committed b.run r.ran none);
      }

  pub ended : (h : Cell O P C R) (id cpu : ℕ) (m : Seat O P C R) (ws : List ℕ) (xs : List (Option (History O P C R))) (slot : Option (History O P C R)) → IsWithout meaning h cpu Idle m → OwnsAll (caller_of h m.0) → h.kind ≡ kind
      → Final (Seen (CellInvariant meaning kind h) id m.0) ws xs → get_elem? xs 0 ≡ some slot → (slot ≡ Some (stored meaning h m.0.main.seen)) × (endings_in m.0.main.run ≡ arrivals_in m.0.main.run)
  ended h id cpu m ws xs slot w all kind_is final first =
      let object : History O P C R = stored meaning h m.0.main.seen in
      let done = closing h id m.0 final.0 final.1.0 final.1.1 w.at.stands w.pass_view all kind_is in
      let there = final.4 0 (Some object) done.home in
      (some-injective slot (Some object) (sym first ∙ there), done.ended)
