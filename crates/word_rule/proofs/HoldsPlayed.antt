-- What a caller has held for is what its CPUs do by their scripts.
use Rattle.std.proofs.{Common.{◌≡◌, ◌≢◌, ℕ, ◌==◌, Bool, true, false, cond, List, [], ◌∷◌, ◌++◌, map, length, drop, refl, sym, ap, ◌∙◌, subst, arith, append_assoc, append-nil, eq-eqb, ne_eqb, true≢false}, lemmas.List.append_cancel_left}
use Rattle.std.specs.List.{AllByRecursion, filter}
use mathlib.Core.Logic.{dite}
use native.Mathlib.Decide.{ℕ_discrete}
use Rattle.event_log.specs.{declared.object.SeqObject.Ghosts, declared.event.Event.Event, declared.entry.Todo.Todo}
use Rattle.event_log.proofs.Beginnings.{begins_rest}
use Rattle.word_rule.specs.{declared.machine.step_done.StepDone.StepDone, declared.view.TraceStep.TraceStep, Cell.Caller, Holds.{Leaves, HasHeldEach}, LockRuns.{by_cpu, events_in, Extends}, OneHold.{how_many, leaving, silently, HasHeld}, Replay.{todo_of, entries_for, DoesStep, DoesRun}, StepKinds.ends_hold}
use Rattle.word_rule.proofs.{OneHolds.count_append, RunLists.{by_append, by_other, silent_own}}

-- the step ends no hold
abbrev EndsNone : {E : Type 0} → TraceStep E → Type 0
EndsNone m = ends_hold m.step ≡ false

module _ {E : Type 0} (P : TraceStep E → Type 0) (k : ℕ) where
  -- what holds of all steps holds of those of a CPU
  all_by : (ms : List (TraceStep E)) → AllByRecursion P ms → AllByRecursion P (by_cpu k ms)
  all_by [] all = tt
  all_by (m ∷ ms) all = by (m.cpu == k) (all_by ms all.1)
    where
      by : (b : Bool) → AllByRecursion P (by_cpu k ms) → AllByRecursion P (cond b (m ∷ by_cpu k ms) (by_cpu k ms))
      by true more = (all.0, more)
      by false more = more

  -- and what holds of those holds of each that is the CPU's
  all_own : (ms : List (TraceStep E)) → AllByRecursion P (by_cpu k ms) → AllByRecursion (λ m. m.cpu ≡ k → P m) ms
  all_own [] all = tt
  all_own (m ∷ ms) all = ((λ own. (subst (λ b. AllByRecursion P (cond b (m ∷ by_cpu k ms) (by_cpu k ms))) (eq-eqb m.cpu k own) all).0), all_own ms (by (m.cpu == k) all))
    where
      by : (b : Bool) → AllByRecursion P (cond b (m ∷ by_cpu k ms) (by_cpu k ms)) → AllByRecursion P (by_cpu k ms)
      by true all = all.1
      by false all = all

-- steps of which none ends a hold
none_ends : (E : Type 0) (cpu : ℕ) (done : List StepDone) → how_many ends_hold done ≡ 0 → AllByRecursion EndsNone (silently {E = E} cpu done)
none_ends E cpu [] none = tt
none_ends E cpu (s ∷ ss) none = by (ends_hold s) refl none (none_ends E cpu ss)
  where
    by : (b : Bool) → ends_hold s ≡ b → length (cond b (s ∷ filter ends_hold ss) (filter ends_hold ss)) ≡ 0 → (how_many ends_hold ss ≡ 0 → AllByRecursion EndsNone (silently {E = E} cpu ss)) → AllByRecursion EndsNone (silently {E = E} cpu (s ∷ ss))
    by true is k more = absurd (omega (arith, k))
    by false is k more = (is, more k)

module _ {O P C R : Type 0} (meaning : Ghosts O P C R) (cpu limit : ℕ) where
  -- entries behind those of a script wait until these are done
  step_before : (log : List (Event O P C R)) (m : TraceStep (Event O P C R)) (script rest behind : List (Todo O P C R)) → DoesStep meaning limit log m script rest → DoesStep meaning limit log m (script ++ behind) (rest ++ behind)
  step_before log m script rest behind d = record {
    calls = d.calls;
    more = d.more ++ behind;
    is = ap (λ l. l ++ behind) d.is;
    ended = λ ends. ((d.ended ends).0, ap (λ l. l ++ behind) (d.ended ends).1);
    goes = λ not. ap (λ l. l ++ behind) (d.goes not);
  }

  does_before : (log : List (Event O P C R)) (ms : List (TraceStep (Event O P C R))) (script rest behind : List (Todo O P C R)) → DoesRun meaning cpu limit log ms script rest → DoesRun meaning cpu limit log ms (script ++ behind) (rest ++ behind)
  does_before log [] script rest behind d = ap (λ l. l ++ behind) d
  does_before log (m ∷ ms) script rest behind d = (d.0 ++ behind, (λ own. step_before log m script d.0 behind (d.1 own)), (λ ne. ap (λ l. l ++ behind) (d.2 ne)), does_before (log ++ m.events) ms d.0 rest behind d.3)

  -- one run behind another
  does_both : (log : List (Event O P C R)) (a b : List (TraceStep (Event O P C R))) (script mid rest : List (Todo O P C R)) → DoesRun meaning cpu limit log a script mid → DoesRun meaning cpu limit (log ++ events_in a) b mid rest → DoesRun meaning cpu limit log (a ++ b) script rest
  does_both log [] b script mid rest d e = subst (λ (z : List (Event O P C R) × List (Todo O P C R)). DoesRun meaning cpu limit z.0 b z.1 rest) (λ i. (append-nil log i, sym d i)) e
  does_both log (m ∷ ms) b script mid rest d e = (d.0, d.1, d.2, does_both (log ++ m.events) ms b d.0 mid rest d.3 (subst (λ l. DoesRun meaning cpu limit l b mid rest) (sym (append_assoc log m.events (events_in ms))) e))

  -- steps of the CPU that end no hold, by its first entry
  does_quietly : (log : List (Event O P C R)) (ms : List (TraceStep (Event O P C R))) (calls : List C) (more : List (Todo O P C R)) → AllByRecursion (λ m. m.cpu ≡ cpu → EndsNone m) ms → DoesRun meaning cpu limit log ms (todo_of calls ∷ more) (todo_of calls ∷ more)
  does_quietly log [] calls more quiet = refl
  does_quietly log (m ∷ ms) calls more quiet = (
    todo_of calls ∷ more,
    (λ own. record { calls = calls; more = more; is = refl; ended = λ ends. absurd (true≢false (sym ends ∙ quiet.0 own)); goes = λ _. refl }),
    (λ _. refl),
    does_quietly (log ++ m.events) ms calls more quiet.1,
  )

  -- steps of other CPUs
  does_nothing : (log : List (Event O P C R)) (ms : List (TraceStep (Event O P C R))) (script : List (Todo O P C R)) → AllByRecursion (λ m. m.cpu ≡ cpu → ⊥) ms → DoesRun meaning cpu limit log ms script script
  does_nothing log [] script none = refl
  does_nothing log (m ∷ ms) script none = (script, (λ own. absurd (none.0 own)), (λ _. refl), does_nothing (log ++ m.events) ms script none.1)

module _ {O P C R : Type 0} (caller : Caller O P C R) (k : ℕ) where
  -- the entries of one list of calls, and of more
  entries_none : entries_for caller k [] ≡ []
  entries_none = by (k == caller.acting)
    where
      by : (b : Bool) → cond b (map {B = Todo O P C R} todo_of []) [] ≡ []
      by true = refl
      by false = refl

  entries_more : (calls : List C) (groups : List (List C)) → entries_for caller k (calls ∷ groups) ≡ entries_for caller k (calls ∷ []) ++ entries_for caller k groups
  entries_more calls groups = by (k == caller.acting)
    where
      by : (b : Bool) → cond b (map {B = Todo O P C R} todo_of (calls ∷ groups)) [] ≡ cond b (map {B = Todo O P C R} todo_of (calls ∷ [])) [] ++ cond b (map {B = Todo O P C R} todo_of groups) []
      by true = refl
      by false = refl

module _ {O P C R : Type 0} (meaning : Ghosts O P C R) (caller : Caller O P C R) (k : ℕ) (owns : caller.owned k ≡ true) where
  abbrev Plays : List (TraceStep (Event O P C R)) → List (Todo O P C R) → List (Todo O P C R) → Type 0
  Plays run script rest = DoesRun meaning k caller.cell.limit caller.cell.opening run script rest

  -- what came since, of that CPU
  since : (a added b : List (TraceStep (Event O P C R))) → Extends caller.owned a added b → by_cpu k added ≡ by_cpu k (drop (length a) b)
  since a added b e = append_cancel_left (by_cpu k a) (by_cpu k added) (by_cpu k (drop (length a) b)) (sym (by_append k a added) ∙ (sym (e.own k owns) ∙ (ap (by_cpu k) (begins_rest a b e.begins) ∙ by_append k a (drop (length a) b))))

  -- a CPU of the caller that did none of the steps
  played_beside : (a added b : List (TraceStep (Event O P C R))) (script : List (Todo O P C R)) → Extends caller.owned a added b → by_cpu k added ≡ [] → Plays a script [] → Plays b script []
  played_beside a added b script e none d =
      let more : List (TraceStep (Event O P C R)) = drop (length a) b in
      let others = all_own (λ _. ⊥) k more (subst (AllByRecursion (λ _. ⊥)) (sym none ∙ since a added b e) tt) in
      subst (λ run. Plays run script []) (sym (begins_rest a b e.begins)) (does_both meaning k caller.cell.limit caller.cell.opening a more script [] [] d (does_nothing meaning k caller.cell.limit (caller.cell.opening ++ events_in a) more [] others))

  module _ (before after : List (TraceStep (Event O P C R))) (looks : ℕ) (calls : List C) (events : List (Event O P C R)) (had : List (Todo O P C R)) (h : HasHeld caller before looks events after) where
    abbrev front : List (TraceStep (Event O P C R))
    front = h.extends.before

    abbrev steps : List (TraceStep (Event O P C R))
    steps = silently caller.acting (h.got ++ h.done)

    abbrev last : TraceStep (Event O P C R)
    last = leaving caller.acting h.last events

    unended : how_many ends_hold (h.got ++ h.done) ≡ 0
    unended = let both = count_append ends_hold h.got h.done in let got = h.acquires.unended in let done = h.releases.unended in omega (arith, both, got, done)

    -- the CPU that the caller acts as
    held_own : caller.acting ≡ k → Leaves meaning caller.cell.limit (caller.cell.opening ++ events_in front) calls events → Plays before had [] → Plays after (had ++ todo_of calls ∷ []) []
    held_own is leaves d =
        let l : ℕ = caller.cell.limit in
        let log : List (Event O P C R) = caller.cell.opening in
        let more : List (TraceStep (Event O P C R)) = drop (length before) front in
        let one : List (Todo O P C R) = todo_of calls ∷ [] in
        let quiet = all_own EndsNone k more (subst (AllByRecursion EndsNone) (since before steps front h.extends.extends) (all_by EndsNone k steps (none_ends (Event O P C R) caller.acting (h.got ++ h.done) unended))) in
        let waits : Plays before (had ++ one) one = does_before meaning k l log before had [] one d in
        let goes : Plays front (had ++ one) one = subst (λ run. Plays run (had ++ one) one) (sym (begins_rest before front h.extends.extends.begins)) (does_both meaning k l log before more (had ++ one) one one waits (does_quietly meaning k l (log ++ events_in before) more calls [] quiet)) in
        let ends : DoesRun meaning k l (log ++ events_in front) (last ∷ []) one [] = (
          [],
          (λ _. record { calls = calls; more = []; is = refl; ended = λ _. (leaves, refl); goes = λ not. absurd (true≢false (sym h.releases.ended ∙ not)) }),
          (λ ne. absurd (ne is)),
          refl,
        ) in
        subst (λ run. Plays run (had ++ one) []) (sym h.extends.is) (does_both meaning k l log front (last ∷ []) (had ++ one) one [] goes ends)

    -- and any other of its own
    held_other : caller.acting ≢ k → Plays before had [] → Plays after had []
    held_other ne d =
        let quiet : Plays front had [] = played_beside before steps front had h.extends.extends (by_other k caller.acting steps (silent_own (Event O P C R) caller.acting (h.got ++ h.done)) (λ is. ne (sym is))) d in
        subst (λ run. Plays run had []) (sym h.extends.is) (does_both meaning k caller.cell.limit caller.cell.opening front (last ∷ []) had [] [] quiet (does_nothing meaning k caller.cell.limit (caller.cell.opening ++ events_in front) (last ∷ []) [] (ne, tt)))

    held_played : Leaves meaning caller.cell.limit (caller.cell.opening ++ events_in front) calls events → Plays before had [] → Plays after (had ++ entries_for caller k (calls ∷ [])) []
    held_played leaves d = dite (ℕ_discrete caller.acting k)
        (λ is. subst (λ b. Plays after (had ++ cond b (todo_of calls ∷ []) []) []) (sym (eq-eqb k caller.acting (sym is))) (held_own is leaves d))
        (λ ne. subst (λ b. Plays after (had ++ cond b (todo_of calls ∷ []) []) []) (sym (ne_eqb k caller.acting (λ is. ne (sym is)))) (subst (λ l. Plays after l []) (sym (append-nil had)) (held_other ne d)))

  -- all holds, one after another
  pub holds_played : (before after : List (TraceStep (Event O P C R))) (groups : List (List C)) (had : List (Todo O P C R)) → HasHeldEach meaning caller before groups after → Plays before had [] → Plays after (had ++ entries_for caller k groups) []
  holds_played before after [] had e d = subst (λ l. Plays after l []) (sym (append-nil had) ∙ ap (λ l. had ++ l) (sym (entries_none caller k))) (played_beside before [] after had e refl d)
  holds_played before after (calls ∷ groups) had t d =
      let first : List (Todo O P C R) = entries_for caller k (calls ∷ []) in
      let one = held_played before t.1 t.0 calls t.2 had t.3 t.4 d in
      subst (λ l. Plays after l []) (append_assoc had first (entries_for caller k groups) ∙ ap (λ l. had ++ l) (sym (entries_more caller k calls groups))) (holds_played t.1 after groups (had ++ first) t.5 one)
