-- Each step of an MCS lock is a turn of the lock's definition, and reports its play.
use Rattle.std.proofs.{Common.{◌≡◌, ◌≢◌, ℕ, ◌+◌, ◌||◌, ◌==◌, true, false, true≢false, List, [], ◌∷◌, get_or, set, refl, sym, ap, ◌∙◌, subst, arith, Option, Some, None}, lemmas.Bool.Decides.nat_tests}
use mathlib.{Core.Logic.dite, Core.Option.{some, none}}
use native.Mathlib.Decide.{ℕ_discrete}
use prog.Atomic.{either}
use lib.{ListN.get_elem?, Seq.set-get_or}
use Rattle.atomic_table.specs.Table.{step}
use Rattle.atomic_table.proofs.Lists.{exchanged}
use Rattle.event_log.specs.{declared.object.SeqObject.Ghosts, Distinct.has, History.History}
use Rattle.word_rule.specs.{declared.machine.step_done.StepDone.StepDone, declared.lock_kind.Stage.Stage, declared.lock_kind.Stage.TheVariants.{Idle, Mcs, Trying}, declared.lock_kind.McsStage.TheVariants.{Ready, Behind, Armed, Waiting, Holding, Alone, Leaving, Passing}, Cell.{Cell, Lawful, stored}, Rule.CellInvariant.{Caller, EachFrom, SeatView, Table, CallerInvariant, CellInvariant}, Rule.Definition.{IsTurn, IsTry, IsPreparing}, Line.{going, taking}, LockDefinition.IsTied, Locks.{holding, Lock, attempt, lock_of, prepare, turn}, Mcs.Acquire.{clear, enter, arm, link}, Mcs.Definition.mcs_lock, Mcs.Release.{see, pass}, Mcs.State.{McsLock, follower}, Mcs.Try.{prepare as prepared}, Rule.Seats.Seat, Rule.Announced.{any_has, Lacks, IsElse, Goes}, Rule.Callers.AddedBy}
use Rattle.word_rule.proofs.{CallerSteps.{Makes, by_turn, else_one, gets_by, gets_it, gives_back, goes_by, goes_on, lacks_one}, Known.AllIdle, Lists.has_at, LockInterface.is_trying, LockLaws.{idle_outside, in_cell}, LockStates.stands_at, Mcs.Erased.{Alike, erased_going, erased_prepared, unprepared, prepared_again}, Mcs.Tries.clears_and_enters, Mcs.Turns.tried_by, Moves.{moved_same, stays_put}, RuleStates.{StandsIn, by_caller, rule_of, tried_lock}, Stays.{turned_twice, not_turned}}
use Rattle.mcs_lock.specs.Steps.{clears, prepares, arms, links, EnterOutcome, enters, TryOutcome, tries, LookOutcome, looks, SeeOutcome, sees, SeeAgainOutcome, sees_again, EmptyOutcome, empties, passes}
use Rattle.sound_run.specs.declared.lock_kind.LockKind.TheVariants as kinds
use Rattle.word_rule.specs.declared.machine.step_done.StepDone.TheVariants as steps
use Rattle.word_rule.proofs.LineEnds as ends
use Rattle.word_rule.proofs.Mcs.States as queue
use Rattle.word_rule.proofs.Mcs.Turns as turns

abbrev cpu_of : Stage → ℕ
cpu_of (Mcs (Behind p)) = p
cpu_of q = 0

-- the MCS lock with this state
abbrev L : McsLock → Lock
L l = lock_of kinds.Mcs l

module _ {O P C R : Type 0} (meaning : Ghosts O P C R) (h : Cell O P C R) (slots id : ℕ) (me : Seat O P C R) (acts : has me.0.main.cpu me.0.main.owned ≡ true) where
  abbrev p : ℕ
  p = me.0.main.cpu

  abbrev v : SeatView O P C R
  v = me.0

  abbrev n : ℕ
  n = h.numbers

  -- the caller stands there, in a table whose lock has that state
  abbrev Here : Stage → Table O P C R → McsLock → Type 0
  Here = StandsIn meaning kinds.Mcs h slots id me

  abbrev rule_at : {old : Stage} (s : Table O P C R) (l : McsLock) → Here old s l → CellInvariant meaning kinds.Mcs h s
  rule_at s l c = rule_of meaning kinds.Mcs h s (L l) c.rule

  -- a word that was read is stored again
  again : (s : Table O P C R) (l : McsLock) (i : ℕ) → IsTied mcs_lock n s.words l → IsTied mcs_lock n (set s.words i (get_or s.words i 0)) l
  again s l i tied = subst (λ (ws : List ℕ). IsTied mcs_lock n ws l) (sym (set-get_or s.words i 0)) tied

  pub clearing : v.main.stage ≡ Idle → IsTurn meaning kinds.Mcs h slots id me (1 + p) (λ _. 0) (λ _. clears meaning (step slots (1 + p) 0 0 none) me 0)
  clearing is = by_caller meaning kinds.Mcs h slots id me acts is _ (λ s l c _.
      goes_on meaning kinds.Mcs h slots id me acts s l c (1 + p) 0 (clear l p) (turns.clears n s.words l c.tied p c.below c.at) refl steps.Clear (turns.turned l p Idle c.at)
      (Mcs Ready) refl refl (clears meaning (step slots (1 + p) 0 0 none) me 0) (λ reported. reported))

  pub preparing : v.main.stage ≡ Idle → IsPreparing meaning kinds.Mcs h slots id me (1 + p) (λ _. 0) (λ _. prepares meaning (step slots (1 + p) 0 0 none) me 0)
  preparing is = by_caller meaning kinds.Mcs h slots id me acts is _ (λ s l c _.
      let runs = not_turned meaning kinds.Mcs h s (rule_at s l c) p (L (prepared l p)) (ap L (erased_prepared l p c.at)) refl in
      goes_by meaning kinds.Mcs h slots id me acts s l c (1 + p) 0 (prepared l p) (turns.prepares n s.words l c.tied p c.below c.at) (λ l i. (prepare l i, []))
      Trying [] refl refl runs refl (prepares meaning (step slots (1 + p) 0 0 none) me 0) (λ reported. reported))

  pub entering : v.main.stage ≡ Mcs Ready → IsTurn meaning kinds.Mcs h slots id me 0 (λ _. p + 1) (enters meaning (step slots 0 (p + 1) 0 none) me)
  entering is = by_caller meaning kinds.Mcs h slots id me acts is _ (λ s l c _.
      let does = turns.turned l p (Mcs Ready) c.at in
      let found : ℕ = get_or s.words 0 0 in
      let reported : Seat O P C R → Type 0 = EnterOutcome meaning me found in
      dite (ℕ_discrete found 0)
      (λ nobody. let none = turns.tail_none n s.words l c.tied nobody in
      gets_it meaning kinds.Mcs h slots id me acts s l c 0 (p + 1) (enter l p None).0 (turns.enters_first n s.words l c.tied p c.below c.at none) refl (steps.Enter true) (does ∙ ap (enter l p) none)
      (Mcs Holding) refl refl (ends.nobody_home mcs_lock n l c.tied.state none) reported (λ got. record { first = λ _. got; behind = λ some_one. absurd (some_one nobody) }))
      (λ some_one. let a = turns.tail_names n s.words l c.tied some_one in
      let other = else_one meaning kinds.Mcs h slots id me acts s l c a.0 (ends.last_in mcs_lock n l c.tied.state a.0 a.1).0 (queue.other_last n l c.tied.state p c.below a.0 c.at a.1) in
      goes_on meaning kinds.Mcs h slots id me acts s l c 0 (p + 1) (enter l p (Some a.0)).0 (turns.enters_behind n s.words l c.tied p c.below a.0 c.at a.1) refl (steps.Enter false) (does ∙ ap (enter l p) a.1)
      (Mcs (Behind a.0)) refl refl reported (λ goes. record { first = λ nobody. absurd (some_one nobody); behind = λ _. record { cpu = a.0; word = a.2; goes = goes; other = other } })))

  pub trying : v.main.stage ≡ Trying → AllIdle v.others → IsTry meaning kinds.Mcs h 0 slots id me 0 (λ k. either (k == 0) (p + 1) k) (tries meaning (step slots 0 0 (p + 1) none) me)
  trying is idle = by_caller meaning kinds.Mcs h slots id me acts is _ (λ s l c _.
      let r = rule_at s l c in
      let found : ℕ = get_or s.words 0 0 in
      let reported : Seat O P C R → Type 0 = TryOutcome meaning me found in
      let back = unprepared l p in
      let erased = ap L (erased_going l p Idle (subst (λ (z : Stage). Alike z Idle (l.extra p) (l.extra p)) (sym c.at) record { stands = refl; names = refl })) in
      let idle_there : back.line.stage p ≡ Idle = moved_same l.line.stage p Idle in
      let done : List StepDone = steps.Clear ∷ steps.Enter true ∷ [] in
      let next : Lock → ℕ → Lock × List StepDone = λ l i. attempt l i 0 in
      exchanged found 0 (p + 1) (λ (k : ℕ). Makes meaning kinds.Mcs h slots id me next s r 0 k reported)
      (λ nobody. let none = turns.tail_none n s.words l c.tied nobody in
      let l' : McsLock = tried_by l p in
      let first = tried_lock kinds.Mcs l p 0 (l', done) (turns.tries_first l p none) in
      let two = ap (λ z. attempt (L z) p 0) (sym (prepared_again l p c.at (queue.trying_clear n l c.tied.state p c.below c.at))) ∙ ap (λ z. (L z.0, z.1)) (clears_and_enters back p idle_there (ends.no_last l.line.cpus none)) in
      let cleared : is_trying ((turn (L back) p).0.line.stage p) ≡ false = ap (λ z. is_trying (z.0.line.stage p)) (turns.turned back p Idle idle_there) ∙ ap is_trying (moved_same back.line.stage p (Mcs Ready)) in
      let runs = turned_twice meaning kinds.Mcs h s r p (L back) (L l') steps.Clear (steps.Enter true) c.below erased refl (ap is_trying idle_there) cleared (sym first ∙ two) in
      gets_by meaning kinds.Mcs h slots id me acts s l c 0 (p + 1) l' (turns.tries_enter n s.words l c.tied p c.below c.at none) next (Mcs Holding) done refl refl (ends.nobody_home mcs_lock n l c.tied.state none) runs first
      reported (λ got. record { first = λ _. got; busy = λ some_one. absurd (some_one nobody) }))
      (λ some_one. let a = turns.tail_names n s.words l c.tied some_one in
      let runs = not_turned meaning kinds.Mcs h s r p (L back) erased refl in
      let lacking = lacks_one meaning kinds.Mcs h slots id me acts s l c idle a.0 (ends.last_in mcs_lock n l c.tied.state a.0 a.1).0 (queue.trying_last n l c.tied.state p c.below a.0 c.at a.1) in
      goes_by meaning kinds.Mcs h slots id me acts s l c 0 found back (again s back 0 (turns.gives_up n s.words l c.tied p c.below c.at)) next Idle [] refl refl runs (tried_lock kinds.Mcs l p 0 (back, []) (turns.tries_busy l p a.0 a.1))
      reported (λ goes. record { first = λ nobody. absurd (some_one nobody); busy = λ _. record { goes = goes; lacks = lacking } })))

  pub arming : (q : ℕ) → v.main.stage ≡ Mcs (Behind q) → IsTurn meaning kinds.Mcs h slots id me (1 + n + p) (λ _. 1) (λ _. arms meaning (step slots (1 + n + p) 1 0 none) me 1)
  arming q is = by_caller meaning kinds.Mcs h slots id me acts is _ (λ s l c _.
      let reported : Seat O P C R → Type 0 = arms meaning (step slots (1 + n + p) 1 0 none) me 1 in
      let same : (m' : Seat O P C R) → Goes meaning (Mcs (Armed q)) (steps.Arm ∷ []) me m' → reported m' = λ m' goes u e. subst (λ (z : ℕ). Goes meaning (Mcs (Armed z)) (steps.Arm ∷ []) me m') (ap cpu_of (sym is ∙ e)) goes in
      goes_on meaning kinds.Mcs h slots id me acts s l c (1 + n + p) 1 (arm l p q) (turns.arms n s.words l c.tied p c.below q c.at) refl steps.Arm (turns.turned l p (Mcs (Behind q)) c.at)
      (Mcs (Armed q)) refl refl reported (same _))

  pub linking : (q : ℕ) → v.main.stage ≡ Mcs (Armed q) → IsTurn meaning kinds.Mcs h slots id me (1 + q) (λ _. p + 1) (λ _. links meaning (step slots (1 + q) (p + 1) 0 none) me (p + 1))
  linking q is = by_caller meaning kinds.Mcs h slots id me acts is _ (λ s l c _.
      goes_on meaning kinds.Mcs h slots id me acts s l c (1 + q) (p + 1) (link l p q) (turns.links n s.words l c.tied p c.below q c.at) refl steps.Link (turns.turned l p (Mcs (Armed q)) c.at)
      (Mcs Waiting) refl refl (links meaning (step slots (1 + q) (p + 1) 0 none) me (p + 1)) (λ reported. reported))

  pub looking : v.main.stage ≡ Mcs Waiting → AllIdle v.others → IsTurn meaning kinds.Mcs h slots id me (1 + n + p) (λ k. k) (looks meaning (step slots (1 + n + p) 0 0 none) me)
  looking is idle = by_caller meaning kinds.Mcs h slots id me acts is _ (λ s l c _.
      let does = turns.turned l p (Mcs Waiting) c.at in
      let i : ℕ = 1 + n + p in
      let found : ℕ = get_or s.words i 0 in
      let reported : Seat O P C R → Type 0 = LookOutcome meaning me found in
      dite (ℕ_discrete found 0)
      (λ hit. let first = turns.free_first n s.words l c.tied p c.below c.at hit in
      let l' : McsLock = record l { line = taking l.line p (Mcs Holding) } in
      gets_it meaning kinds.Mcs h slots id me acts s l c i found l' (again s l' i (turns.gets n s.words l c.tied p c.below c.at first)) refl (steps.Look true) (does ∙ turns.hits l p first)
      (Mcs Holding) refl refl (queue.free n l c.tied.state p c.below c.at first).object reported (λ got. record { hit = λ _. got; miss = λ miss. absurd (miss hit) }))
      (λ miss. let behind_one = turns.locked_behind n s.words l c.tied p c.below c.at miss in
      let a = queue.ahead n l c.tied.state p c.below c.at behind_one in
      goes_on meaning kinds.Mcs h slots id me acts s l c i found l (again s l i c.tied) refl (steps.Look false) (does ∙ turns.misses l p behind_one)
      (Mcs Waiting) (stays_put l.line.stage p (Mcs Waiting) c.at) refl reported (λ goes. record { hit = λ hit. absurd (miss hit); miss = λ _. record { goes = goes; lacks = lacks_one meaning kinds.Mcs h slots id me acts s l c idle a.0 a.1 a.2 } })))

  -- a holder's `next` that isn't 0 names the one behind it
  seen_behind : {stage : Stage} (s : Table O P C R) (l : McsLock) (c : Here stage s l) → holding stage ≡ true → (j : ℕ) → follower l.line ≡ Some j → IsElse v j
  seen_behind s l c has_it j f =
      let at = queue.follower_at n l c.tied.state p c.below j f in
      let head = queue.holder_at n l c.tied.state p c.below (ap holding c.at ∙ has_it) in
      else_one meaning kinds.Mcs h slots id me acts s l c j (has_at l.line.cpus 1 j at) (ends.not_both mcs_lock n l c.tied.state p j head at)

  pub seeing : v.main.stage ≡ Mcs Holding → IsTurn meaning kinds.Mcs h slots id me (1 + p) (λ k. k) (sees meaning (step slots (1 + p) 0 0 none) me)
  seeing is = by_caller meaning kinds.Mcs h slots id me acts is _ (λ s l c _.
      let does = turns.turned l p (Mcs Holding) c.at in
      let found : ℕ = get_or s.words (1 + p) 0 in
      let reported : Seat O P C R → Type 0 = SeeOutcome meaning me found in
      dite (ℕ_discrete found 0)
      (λ nobody. let l' : McsLock = record l { line = going l.line p (Mcs Alone) } in
      goes_on meaning kinds.Mcs h slots id me acts s l c (1 + p) found l' (again s l' (1 + p) (turns.sees_none n s.words l c.tied p c.below c.at)) refl (steps.See false) (does ∙ ap (see l p (Mcs Alone)) (turns.sees_nobody n s.words l c.tied p c.below (ap holding c.at) nobody))
      (Mcs Alone) refl refl reported (λ goes. record { found = λ some_one. absurd (some_one nobody); none = λ _. goes }))
      (λ some_one. let a = turns.sees_one n s.words l c.tied p c.below (ap holding c.at) some_one in
      let l' : McsLock = record l { line = going l.line p (Mcs (Passing a.0)) } in
      goes_on meaning kinds.Mcs h slots id me acts s l c (1 + p) found l' (again s l' (1 + p) (turns.saw n s.words l c.tied p c.below a.0 c.at a.1)) refl (steps.See true) (does ∙ ap (see l p (Mcs Alone)) a.1)
      (Mcs (Passing a.0)) refl refl reported (λ goes. record { found = λ _. record { cpu = a.0; word = a.2; goes = goes; other = seen_behind s l c refl a.0 a.1 }; none = λ nobody. absurd (some_one nobody) })))

  -- a caller that leaves sees one, or lacks a number
  sees_behind : v.main.stage ≡ Mcs Leaving → ((s : Table O P C R) (l : McsLock) → Here (Mcs Leaving) s l → get_or s.words (1 + p) 0 ≡ 0 → Lacks v) → IsTurn meaning kinds.Mcs h slots id me (1 + p) (λ k. k) (sees_again meaning (step slots (1 + p) 0 0 none) me)
  sees_behind is lacking = by_caller meaning kinds.Mcs h slots id me acts is _ (λ s l c _.
      let does = turns.turned l p (Mcs Leaving) c.at in
      let found : ℕ = get_or s.words (1 + p) 0 in
      let reported : Seat O P C R → Type 0 = SeeAgainOutcome meaning me found in
      dite (ℕ_discrete found 0)
      (λ nobody. let l' : McsLock = record l { line = going l.line p (Mcs Leaving) } in
      goes_on meaning kinds.Mcs h slots id me acts s l c (1 + p) found l' (again s l' (1 + p) (turns.still_none n s.words l c.tied p c.below c.at)) refl (steps.See false) (does ∙ ap (see l p (Mcs Leaving)) (turns.sees_nobody n s.words l c.tied p c.below (ap holding c.at) nobody))
      (Mcs Leaving) refl refl reported (λ goes. record { found = λ some_one. absurd (some_one nobody); none = λ _. record { goes = goes; lacks = lacking s l c nobody } }))
      (λ some_one. let a = turns.sees_one n s.words l c.tied p c.below (ap holding c.at) some_one in
      let l' : McsLock = record l { line = going l.line p (Mcs (Passing a.0)) } in
      goes_on meaning kinds.Mcs h slots id me acts s l c (1 + p) found l' (again s l' (1 + p) (turns.saw_again n s.words l c.tied p c.below a.0 c.at a.1)) refl (steps.See true) (does ∙ ap (see l p (Mcs Leaving)) a.1)
      (Mcs (Passing a.0)) refl refl reported (λ goes. record { found = λ _. record { cpu = a.0; word = a.2; goes = goes; other = seen_behind s l c refl a.0 a.1 }; none = λ nobody. absurd (some_one nobody) })))

  -- the one behind a caller that leaves
  behind_it : (s : Table O P C R) (l : McsLock) (c : Here (Mcs Leaving) s l) → (j : ℕ) × (get_elem? l.line.cpus 1 ≡ some j) × (j ≢ p)
  behind_it s l c = let w = stands_at mcs_lock n l c.tied.state p (Mcs Leaving) c.below c.at in ends.another mcs_lock n l c.tied.state p w.0.there w.1

  pub seeing_again : v.main.stage ≡ Mcs Leaving → AllIdle v.others → IsTurn meaning kinds.Mcs h slots id me (1 + p) (λ k. k) (sees_again meaning (step slots (1 + p) 0 0 none) me)
  seeing_again is idle = sees_behind is (λ s l c nobody. let t = behind_it s l c in lacks_one meaning kinds.Mcs h slots id me acts s l c idle t.0 (has_at l.line.cpus 1 t.0 t.1) t.2)

  -- beside one that waits, it sees that one, or lacks a number
  pub finding : (w : Caller O P C R) → v.main.stage ≡ Mcs Leaving → v.others ≡ w ∷ [] → w.stage ≡ Mcs Waiting → IsTurn meaning kinds.Mcs h slots id me (1 + p) (λ k. k) (sees_again meaning (step slots (1 + p) 0 0 none) me)
  finding w is beside waits = sees_behind is (λ s l c nobody g has_all.
      let r = rule_at s l c in
      let t = behind_it s l c in
      let y : ℕ = t.0 in
      let in_line : has y l.line.cpus ≡ true = has_at l.line.cpus 1 y t.1 in
      let other = else_one meaning kinds.Mcs h slots id me acts s l c y in_line t.2 in
      let no_mine = other.other in
      let cover = has_all.each y (other.inside g has_all.reported) in
      let elsewhere : any_has y v.others ≡ true = grind (arith, nat_tests) in
      let one : (has y w.owned || false) ≡ true = ap (any_has y) (sym beside) ∙ elsewhere in
      let owned : has y w.owned ≡ true = grind (arith, nat_tests) in
      let know = (subst (λ (cs : List (Caller O P C R)). EachFrom (CallerInvariant n r.state id) 1 cs) beside c.mine.others).0 in
      dite (ℕ_discrete y w.cpu)
      (λ e.
      let stands : l.line.stage y ≡ Mcs Waiting = ap l.line.stage e ∙ (know.stands (subst (λ (z : ℕ). has z w.owned ≡ true) e owned) ∙ waits) in
      let link = turns.waits_linked n s.words l c.tied p c.below y (ap holding c.at) t.1 stands in
      let z : 0 ≡ y + 1 = sym nobody ∙ link in
      absurd (omega arith))
      (λ ne. absurd (true≢false (sym in_line ∙ idle_outside n (L l) r.tied.state y (in_cell n (L l) r.tied.state 1 y t.1) (know.rests y owned ne)))))

  module _ (x : History O P C R) (others : List (ℕ × Option (History O P C R))) (one : slots ≡ 1) (carries : me.1 ≡ (0, Some x) ∷ others) (added : AddedBy p v.main.seen x.log) (valid : Lawful meaning h x.log) (is_stored : x ≡ stored meaning h x.log) where
    pub emptying : v.main.stage ≡ Mcs Alone → AllIdle v.others → IsTurn meaning kinds.Mcs h slots id me 0 (λ k. either (k == (p + 1)) 0 k) (empties meaning (step slots 0 (p + 1) 0 none) me)
    emptying is idle = by_caller meaning kinds.Mcs h slots id me acts is _ (λ s l c _.
        let does = turns.turned l p (Mcs Alone) c.at in
        let found : ℕ = get_or s.words 0 0 in
        let reported : Seat O P C R → Type 0 = EmptyOutcome meaning (p + 1) me found in
        exchanged found (p + 1) 0 (λ (k : ℕ). Makes meaning kinds.Mcs h slots id me by_turn s (rule_at s l c) 0 k reported)
        (λ hit. gives_back meaning kinds.Mcs h slots id me acts s l c 0 0 (pass l p) (turns.empties n s.words l c.tied p c.below c.at (turns.tail_some n s.words l c.tied p hit)) refl (steps.Empty true) (does ∙ turns.ends_queue l p (turns.last_is n s.words l c.tied p c.below hit))
        x others one carries added valid is_stored refl refl refl reported (λ gave. record { hit = λ _. gave; miss = λ miss. absurd (miss hit) }))
        (λ miss. let l' : McsLock = record l { line = going l.line p (Mcs Leaving) } in
        let other = turns.last_else n s.words l c.tied p c.below miss in
        let f = stands_at mcs_lock n l c.tied.state p (Mcs Alone) c.below c.at in
        let a = ends.another mcs_lock n l c.tied.state p f.there (queue.more n l c.tied.state p c.below c.at other) in
        let lacking = lacks_one meaning kinds.Mcs h slots id me acts s l c idle a.0 (has_at l.line.cpus 1 a.0 a.1) a.2 in
        goes_on meaning kinds.Mcs h slots id me acts s l c 0 found l' (again s l' 0 (turns.stays_on n s.words l c.tied p c.below c.at other)) refl (steps.Empty false) (does ∙ turns.stays_queued l p (turns.not_named n s.words l c.tied p c.below miss))
        (Mcs Leaving) refl refl reported (λ goes. record { hit = λ hit. absurd (miss hit); miss = λ _. record { goes = goes; lacks = lacking } })))

    pub passing : (j : ℕ) → v.main.stage ≡ Mcs (Passing j) → IsTurn meaning kinds.Mcs h slots id me (1 + n + j) (λ _. 0) (λ _. passes (step slots (1 + n + j) 0 0 none) me 0)
    passing j is = by_caller meaning kinds.Mcs h slots id me acts is _ (λ s l c _.
        gives_back meaning kinds.Mcs h slots id me acts s l c (1 + n + j) 0 (pass l p) (turns.passes n s.words l c.tied p c.below j c.at) refl steps.Pass (turns.turned l p (Mcs (Passing j)) c.at)
        x others one carries added valid is_stored refl refl refl (passes (step slots (1 + n + j) 0 0 none) me 0) (λ reported. reported))
