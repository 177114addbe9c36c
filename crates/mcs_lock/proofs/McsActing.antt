-- What each step of the code asks of an MCS lock's rule, and what it leaves with a caller.
use Rattle.std.proofs.Common.{◌≡◌, ℕ, ◌+◌, ◌==◌, Bool, true, false, List, [], ◌∷◌, ◌++◌, refl, sym, ◌∙◌, subst, arith, Option, Some, None}
use mathlib.Core.Option.{none}
use prog.Atomic.{either}
use Rattle.atomic_table.specs.Table.{step, rest}
use Rattle.event_log.specs.{declared.object.SeqObject.Ghosts, declared.event.Event.Event, Distinct.has, History.History}
use Rattle.word_rule.specs.{declared.machine.step_done.StepDone.StepDone, declared.lock_kind.Stage.Stage, declared.view.TraceStep.TraceStep, Locks.holding, LockRuns.Extends, OneHold.{silently, Releases}, StepKinds.{arrives, ends_hold, is_look}, declared.lock_kind.Stage.TheVariants.{Idle, Mcs, Trying}, declared.lock_kind.McsStage.TheVariants.{Ready, Behind, Armed, Waiting, Holding, Alone, Leaving, Passing}, Cell.{Cell, HoldView, Grows}, Rule.Definition.{IsTurn, IsTry, IsPreparing}, CallerState.{CallerState, Moves}, Rule.CellInvariant.{Caller, EachFrom}, Rule.Seats.{Seat, shown, at, moved_on, taken_in, keeping, letting}, Rule.Announced.{IsElse, Learns, Goes}, Rule.Callers.{hold_view_of, state_with, IsWithout, IsWith}}
use Rattle.sound_run.specs.declared.lock_kind.LockKind.{LockKind}
use Rattle.word_rule.proofs.{Known.{AllIdle, idle_alone}, OneHolds.{HeldSince, since_more, count_append}}
use Rattle.mcs_lock.specs.{Seen.IsSeen, Steps.{clears, prepares, arms, links, Names, enters, tries, looks, sees, sees_again, empties, passes}}
use Rattle.mcs_lock.proofs.McsRule.{clearing, preparing, entering, trying, arming, linking, looking, seeing, seeing_again, finding, emptying, passing}
use Rattle.word_rule.specs.declared.machine.step_done.StepDone.TheVariants as steps
use Rattle.sound_run.specs.declared.lock_kind.LockKind.TheVariants as kinds

-- the words are those of the number that the code has, at a cell of the MCS lock
module _ {O P C R : Type 0} (meaning : Ghosts O P C R) (h : Cell O P C R) (kind : h.kind ≡ kinds.Mcs) (slots id cpu : ℕ) where
  at_kind : (m : Seat O P C R) (i : ℕ) (f : ℕ → ℕ) (then : ℕ → Seat O P C R → Type 0) → IsTurn meaning kinds.Mcs h slots id m i f then → IsTurn meaning h.kind h slots id m i f then
  at_kind m i f then t = subst (λ k. IsTurn meaning k h slots id m i f then) (sym kind) t

  pub clear_now : (m : Seat O P C R) → IsWithout meaning h cpu Idle m → IsTurn meaning h.kind h slots id m (1 + cpu) (λ _. 0) (λ _. clears meaning (step slots (1 + cpu) 0 0 none) m 0)
  clear_now m w = at_kind m (1 + cpu) (λ _. 0) (λ _. clears meaning (step slots (1 + cpu) 0 0 none) m 0) (subst (λ (z : ℕ). IsTurn meaning kinds.Mcs h slots id m (1 + z) (λ _. 0) (λ _. clears meaning (step slots (1 + z) 0 0 none) m 0)) w.at.number
      (clearing meaning h slots id m w.pass_view.caller.acts w.at.stands))

  pub enter_now : (m : Seat O P C R) → IsWithout meaning h cpu (Mcs Ready) m → IsTurn meaning h.kind h slots id m 0 (λ _. cpu + 1) (enters meaning (step slots 0 (cpu + 1) 0 none) m)
  enter_now m w = at_kind m 0 (λ _. cpu + 1) (enters meaning (step slots 0 (cpu + 1) 0 none) m) (subst (λ (z : ℕ). IsTurn meaning kinds.Mcs h slots id m 0 (λ _. z + 1) (enters meaning (step slots 0 (z + 1) 0 none) m)) w.at.number
      (entering meaning h slots id m w.pass_view.caller.acts w.at.stands))

  pub prepare_now : (m : Seat O P C R) → IsWithout meaning h cpu Idle m → IsPreparing meaning h.kind h slots id m (1 + cpu) (λ _. 0) (λ _. prepares meaning (step slots (1 + cpu) 0 0 none) m 0)
  prepare_now m w =
      let Goal : LockKind × ℕ → Type 0 = λ z. IsPreparing meaning z.0 h slots id m (1 + z.1) (λ _. 0) (λ _. prepares meaning (step slots (1 + z.1) 0 0 none) m 0) in
      subst Goal (λ i. (sym kind i, w.at.number i)) (preparing meaning h slots id m w.pass_view.caller.acts w.at.stands)

  pub try_now : (m : Seat O P C R) → IsWithout meaning h cpu Trying m → IsTry meaning h.kind h 0 slots id m 0 (λ k. either (k == 0) (cpu + 1) k) (tries meaning (step slots 0 0 (cpu + 1) none) m)
  try_now m w =
      let Goal : LockKind × ℕ → Type 0 = λ z. IsTry meaning z.0 h 0 slots id m 0 (λ k. either (k == 0) (z.1 + 1) k) (tries meaning (step slots 0 0 (z.1 + 1) none) m) in
      subst Goal (λ i. (sym kind i, w.at.number i)) (trying meaning h slots id m w.pass_view.caller.acts w.at.stands (idle_alone m.0.others w.at.alone))

  pub arm_now : (n q : ℕ) (m : Seat O P C R) → h.numbers ≡ n → IsWithout meaning h cpu (Mcs (Behind q)) m → IsTurn meaning h.kind h slots id m (1 + n + cpu) (λ _. 1) (λ _. arms meaning (step slots (1 + n + cpu) 1 0 none) m 1)
  arm_now n q m is w = at_kind m (1 + n + cpu) (λ _. 1) (λ _. arms meaning (step slots (1 + n + cpu) 1 0 none) m 1) (subst (λ (z : ℕ × ℕ). IsTurn meaning kinds.Mcs h slots id m (1 + z.0 + z.1) (λ _. 1) (λ _. arms meaning (step slots (1 + z.0 + z.1) 1 0 none) m 1)) (λ i. (is i, w.at.number i))
      (arming meaning h slots id m w.pass_view.caller.acts q w.at.stands))

  pub link_now : (q : ℕ) (m : Seat O P C R) → IsWithout meaning h cpu (Mcs (Armed q)) m → IsTurn meaning h.kind h slots id m (1 + q) (λ _. cpu + 1) (λ _. links meaning (step slots (1 + q) (cpu + 1) 0 none) m (cpu + 1))
  link_now q m w = at_kind m (1 + q) (λ _. cpu + 1) (λ _. links meaning (step slots (1 + q) (cpu + 1) 0 none) m (cpu + 1)) (subst (λ (z : ℕ). IsTurn meaning kinds.Mcs h slots id m (1 + q) (λ _. z + 1) (λ _. links meaning (step slots (1 + q) (z + 1) 0 none) m (z + 1))) w.at.number
      (linking meaning h slots id m w.pass_view.caller.acts q w.at.stands))

  -- a look by a caller, also beside callers that are idle
  pub look_now : (n : ℕ) (m : Seat O P C R) → h.numbers ≡ n → has m.0.main.cpu m.0.main.owned ≡ true → m.0.main.cpu ≡ cpu → m.0.main.stage ≡ Mcs Waiting → AllIdle m.0.others → IsTurn meaning h.kind h slots id m (1 + n + cpu) (λ k. k) (looks meaning (step slots (1 + n + cpu) 0 0 none) m)
  look_now n m is acts number stands idle = at_kind m (1 + n + cpu) (λ k. k) (looks meaning (step slots (1 + n + cpu) 0 0 none) m) (subst (λ (z : ℕ × ℕ). IsTurn meaning kinds.Mcs h slots id m (1 + z.0 + z.1) (λ k. k) (looks meaning (step slots (1 + z.0 + z.1) 0 0 none) m)) (λ i. (is i, number i))
      (looking meaning h slots id m acts stands idle))

  pub see_now : (m : Seat O P C R) (x : History O P C R) → IsWith meaning h cpu (Mcs Holding) x m → IsTurn meaning h.kind h slots id m (1 + cpu) (λ k. k) (sees meaning (step slots (1 + cpu) 0 0 none) m)
  see_now m x w = at_kind m (1 + cpu) (λ k. k) (sees meaning (step slots (1 + cpu) 0 0 none) m) (subst (λ (z : ℕ). IsTurn meaning kinds.Mcs h slots id m (1 + z) (λ k. k) (sees meaning (step slots (1 + z) 0 0 none) m)) w.at.number
      (seeing meaning h slots id m w.hold_view.caller.acts w.at.stands))

  pub see_again_now : (m : Seat O P C R) (x : History O P C R) → IsWith meaning h cpu (Mcs Leaving) x m → IsTurn meaning h.kind h slots id m (1 + cpu) (λ k. k) (sees_again meaning (step slots (1 + cpu) 0 0 none) m)
  see_again_now m x w = at_kind m (1 + cpu) (λ k. k) (sees_again meaning (step slots (1 + cpu) 0 0 none) m) (subst (λ (z : ℕ). IsTurn meaning kinds.Mcs h slots id m (1 + z) (λ k. k) (sees_again meaning (step slots (1 + z) 0 0 none) m)) w.at.number
      (seeing_again meaning h slots id m w.hold_view.caller.acts w.at.stands (idle_alone m.0.others w.at.alone)))

  -- the same beside a caller that waits
  pub find_now : (m : Seat O P C R) (c : Caller O P C R) → has m.0.main.cpu m.0.main.owned ≡ true → m.0.main.cpu ≡ cpu → m.0.main.stage ≡ Mcs Leaving → m.0.others ≡ c ∷ [] → c.stage ≡ Mcs Waiting → IsTurn meaning h.kind h slots id m (1 + cpu) (λ k. k) (sees_again meaning (step slots (1 + cpu) 0 0 none) m)
  find_now m c acts number stands beside waits = at_kind m (1 + cpu) (λ k. k) (sees_again meaning (step slots (1 + cpu) 0 0 none) m) (subst (λ (z : ℕ). IsTurn meaning kinds.Mcs h slots id m (1 + z) (λ k. k) (sees_again meaning (step slots (1 + z) 0 0 none) m)) number
      (finding meaning h slots id m acts c stands beside waits))

  -- a holder that put the object into its slot
  pub empty_now : (x : History O P C R) (m me : Seat O P C R) → IsWith meaning h cpu (Mcs Alone) x m → slots ≡ 1 → me ≡ (m.0, (0, Some x) ∷ rest m.1) → IsTurn meaning h.kind h slots id me 0 (λ k. either (k == (cpu + 1)) 0 k) (empties meaning (step slots 0 (cpu + 1) 0 none) me)
  empty_now x m me w one filled =
      let Goal : ℕ × Seat O P C R → Type 0 = λ z. IsTurn meaning kinds.Mcs h slots id z.1 0 (λ k. either (k == (z.0 + 1)) 0 k) (empties meaning (step slots 0 (z.0 + 1) 0 none) z.1) in
      at_kind me 0 (λ k. either (k == (cpu + 1)) 0 k) (empties meaning (step slots 0 (cpu + 1) 0 none) me) (subst Goal (λ i. (w.at.number i, sym filled i))
      (emptying meaning h slots id (m.0, (0, Some x) ∷ rest m.1) w.hold_view.caller.acts x (rest m.1) one refl w.added w.hold_view.valid w.hold_view.replayed w.at.stands (idle_alone m.0.others w.at.alone)))

  pub pass_now : (n j : ℕ) (x : History O P C R) (m me : Seat O P C R) → h.numbers ≡ n → IsWith meaning h cpu (Mcs (Passing j)) x m → slots ≡ 1 → me ≡ (m.0, (0, Some x) ∷ rest m.1) → IsTurn meaning h.kind h slots id me (1 + n + j) (λ _. 0) (λ _. passes (step slots (1 + n + j) 0 0 none) me 0)
  pass_now n j x m me is w one filled =
      let Goal : ℕ × Seat O P C R → Type 0 = λ z. IsTurn meaning kinds.Mcs h slots id z.1 (1 + z.0 + j) (λ _. 0) (λ _. passes (step slots (1 + z.0 + j) 0 0 none) z.1 0) in
      at_kind me (1 + n + j) (λ _. 0) (λ _. passes (step slots (1 + n + j) 0 0 none) me 0) (subst Goal (λ i. (is i, sym filled i))
      (passing meaning h slots id (m.0, (0, Some x) ∷ rest m.1) w.hold_view.caller.acts x (rest m.1) one refl w.added w.hold_view.valid w.hold_view.replayed j w.at.stands))

module _ {O P C R : Type 0} where
  -- a joined seat has the first caller of the first
  pub else_of : (m w m1 : Seat O P C R) (j : ℕ) → m1 ≡ (taken_in m.0 w.0, m.1) → IsElse m1.0 j → IsElse m.0 j
  else_of m w m1 j e other = let both = subst (λ (z : Seat O P C R). IsElse z.0 j) e other in record { other = both.other; inside = both.inside }

  -- two seats, joined, where the first caller moved, and split again
  pub first_moved : (q : Stage) (log : List (Event O P C R)) (run : List (TraceStep (Event O P C R))) (m w m1 m2 m' : Seat O P C R) → m.0.others ≡ [] → m1 ≡ (taken_in m.0 w.0, m.1) → m2 ≡ (moved_on m1.0 q log run, m1.1) → m' ≡ (keeping m2.0, m2.1) → m' ≡ (moved_on m.0 q log run, m.1)
  first_moved q log run m w m1 m2 m' alone e e' f =
      let both : m2 ≡ (moved_on (taken_in m.0 w.0) q log run, m.1) = e' ∙ (λ i. (moved_on (e i).0 q log run, (e i).1)) in
      f ∙ ((λ i. (keeping (both i).0, (both i).1)) ∙ (λ i. (record { reported = m.0.reported; main = shown log run (at q m.0.main); others = sym alone i }, m.1)))

  pub second_same : (q : Stage) (log : List (Event O P C R)) (run : List (TraceStep (Event O P C R))) (m w m1 m2 w' : Seat O P C R) → w.0.others ≡ [] → w.1 ≡ [] → w.0.reported ≡ m.0.reported → m1 ≡ (taken_in m.0 w.0, m.1) → m2 ≡ (moved_on m1.0 q log run, m1.1) → w' ≡ (letting m2.0, []) → w' ≡ w
  second_same q log run m w m1 m2 w' alone empty reported e e' f =
      let both : m2 ≡ (moved_on (taken_in m.0 w.0) q log run, m.1) = e' ∙ (λ i. (moved_on (e i).0 q log run, (e i).1)) in
      f ∙ ((λ i. (letting (both i).0, [])) ∙ (λ i. (record { reported = sym reported i; main = w.0.main; others = sym alone i }, sym empty i)))

  -- and what the first learned there
  pub first_goes : (meaning : Ghosts O P C R) (q : Stage) (done : List StepDone) (m w m1 m2 m' : Seat O P C R) → m.0.others ≡ [] → m1 ≡ (taken_in m.0 w.0, m.1) → Goes meaning q done m1 m2 → m' ≡ (keeping m2.0, m2.1) → Goes meaning q done m m'
  first_goes meaning q done m w m1 m2 m' alone e g f =
      let l = subst (λ (z : Seat O P C R). Learns meaning z.0 (silently z.0.main.cpu done) g.log g.run) e g.learns in
      record {
        log = g.log;
        run = g.run;
        seat = first_moved q g.log g.run m w m1 m2 m' alone e g.seat f;
        learns = record { grows = l.grows; extends = l.extends; others = subst (λ cs. EachFrom (λ _ (c : Caller O P C R). Grows (λ x. has x c.owned) c.seen g.log × Extends (λ x. has x c.owned) c.run [] g.run) 1 cs) (sym alone) tt; valid = l.valid; ran = l.ran };
        still = subst (λ (z : Seat O P C R). holding z.0.main.stage ≡ true → g.log ≡ z.0.main.seen) e g.still;
      }

  abbrev history_in : History O P C R → Option (History O P C R) → History O P C R
  history_in d None = d
  history_in d (Some x) = x

  -- a holder that moves has the same numbers and the same object
  pub same_held : (meaning : Ghosts O P C R) (h k : Cell O P C R) (p q s t : Stage) (done : List StepDone) (x y : History O P C R) (m m' : Seat O P C R) → Moves meaning p q done (state_with h s x m) (state_with k t y m') → hold_view_of k y m'.0 ≡ hold_view_of h x m.0
  same_held meaning h k p q s t done x y m m' moved = λ i. record { caller = moved.caller i; history = history_in x (moved.has i) }

  -- the CPU that a word named, by the number that the code has
  pub named : (meaning : Ghosts O P C R) (at : ℕ → Stage) (done : List StepDone) (n k : ℕ) (m m' : Seat O P C R) → Names meaning at done m n m' → n ≡ k + 1 → Goes meaning (at k) done m m' × IsElse m.0 k
  named meaning at done n k m m' t is =
      let w = t.word in
      let same : t.cpu ≡ k = omega arith in
      (subst (λ (z : ℕ). Goes meaning (at z) done m m') same t.goes, subst (IsElse m.0) same t.other)

module _ {O P C R : Type 0} (meaning : Ghosts O P C R) where
  -- a holder has looked for its follower once more
  pub seen_more : (found : Bool) (p q : Stage) (a b c : CallerState O P C R) → IsSeen a b → Moves meaning p q (steps.See found ∷ []) b c → holding p ≡ true → IsSeen a c
  seen_more found p q a b c s m holds = record {
    done = s.done ++ steps.See found ∷ [];
    arrived = let n = count_append arrives s.done (steps.See found ∷ []) in let k = s.arrived in omega (arith, k, n);
    blind = let n = count_append is_look s.done (steps.See found ∷ []) in let k = s.blind in omega (arith, k, n);
    unended = let n = count_append ends_hold s.done (steps.See found ∷ []) in let k = s.unended in omega (arith, k, n);
    caller = m.caller ∙ s.caller;
    extends = since_more a.caller a.run c.run s.done (steps.See found ∷ []) b (s.caller, s.extends) m.extends;
    still = m.still holds ∙ s.still;
    has = m.has ∙ s.has;
  }

  -- and has seen it, after it had found that it isn't the last
  pub held_seen : (hold : HoldView O P C R) (before : List (TraceStep (Event O P C R))) (done : List StepDone) (a b : CallerState O P C R) → HeldSince hold before done a → (s : IsSeen a b) → HeldSince hold before (done ++ s.done) b
  held_seen hold before done a b h s = record { since = (s.caller ∙ h.since.0, since_more hold.caller before b.run done s.done a h.since s.extends); seen = s.still ∙ h.seen; has = s.has ∙ h.has }

  pub releases_seen : (a b : CallerState O P C R) (s : IsSeen a b) → Releases (steps.See false ∷ steps.Empty false ∷ s.done) steps.Pass
  releases_seen a b s = record {
    ended = refl;
    unended = s.unended;
    stays = let n = count_append arrives s.done (steps.Pass ∷ []) in let k = s.arrived in omega (arith, k, n);
    blind = let n = count_append is_look s.done (steps.Pass ∷ []) in let k = s.blind in omega (arith, k, n);
  }
