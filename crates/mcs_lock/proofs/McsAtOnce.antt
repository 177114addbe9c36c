-- MCS lock operations that aren't a single turn follow the lock's definition: an arrival is two turns, a clear and an enter; a rest
-- ends a hold and prepares a try; and a wake gives up that try.
use Rattle.std.proofs.Common.{◌≡◌, ℕ, ◌+◌, ◌<◌, ◌==◌, true, false, List, [], ◌∷◌, get_or, set, refl, sym, ap, ◌∙◌, subst, Option, Some, None}
use mathlib.{Core.Logic.dite, Core.Option.none}
use native.Mathlib.Decide.{ℕ_discrete}
use prog.Atomic.{either}
use lib.Seq.{set-get_or}
use Rattle.atomic_table.specs.Table.{step, rest}
use Rattle.atomic_table.proofs.Lists.{exchanged}
use Rattle.event_log.specs.{declared.object.SeqObject.Ghosts, Distinct.has, History.History}
use Rattle.sound_run.specs.declared.lock_kind.LockKind.{LockKind}
use Rattle.word_rule.specs.{declared.machine.step_done.StepDone.StepDone, declared.lock_kind.Stage.Stage, declared.lock_kind.Stage.TheVariants.{Idle, Mcs, Trying}, declared.lock_kind.McsStage.TheVariants.{Ready, Behind, Holding, Alone, Leaving}, Cell.{Cell, Lawful, stored}, CallerState.{CallerState, Gives, Moves}, Rule.AtOnce.{arrives, readied, rests, two_turns, withdraws}, Rule.CellInvariant.{SeatView, Table, CellInvariant}, Keeping.IsKeeping, Rule.Definition.{IsTurn, Makes as MakesAll}, Line.{going, moved}, LockDefinition.IsTied, Locks.{erase, Lock, lock_of, turn}, Mcs.Acquire.{clear, enter}, Mcs.Definition.mcs_lock, Mcs.Release.pass, Mcs.State.{McsLock, untried, word_of}, Mcs.Try.{prepare as prepared}, Rule.Seats.Seat, Rule.Callers.{AddedBy, IsWithout, IsWith, state_without}}
use Rattle.word_rule.proofs.{AtOnce.{between, else_between, first_goes, gives_to, second_gets, second_goes, turned_alike, turns_twice}, CallerSteps.{Makes, else_one, gets_by, goes_by, lacks_one}, Known.{AllIdle, idle_alone}, Lists.has_at, LockInterface.is_trying, LockStates.stands_at, Mcs.Erased.{Alike, erased_going, erased_prepared, unprepared}, Moves.{moved_same, moved_twice}, RuleStates.{StandsIn, by_caller, rule_of, turned_lock}, Stays.{turned_once, turned_twice, not_turned}}
use Rattle.mcs_lock.specs.{AtOnce.{ArriveOutcome, comes, RestOutcome, goes_to_rest, gives_up}, Steps.sees}
use Rattle.mcs_lock.proofs.McsRule.{seeing}
use Rattle.sound_run.specs.declared.lock_kind.LockKind.TheVariants as kinds
use Rattle.word_rule.specs.declared.machine.step_done.StepDone.TheVariants as steps
use Rattle.word_rule.proofs.LineEnds as ends
use Rattle.word_rule.proofs.Mcs.States as queue
use Rattle.word_rule.proofs.Mcs.Turns as turns
use Rattle.word_rule.proofs.Mcs.Words as words

-- the MCS lock with this state
abbrev L : McsLock → Lock
L l = lock_of kinds.Mcs l

-- a `next` that names nobody is cleared again, and no word changes
cleared_again : (n : ℕ) (ws : List ℕ) (l l' : McsLock) (i : ℕ) → IsTied mcs_lock n ws l → i < n → l.extra i ≡ None → IsTied mcs_lock n (set ws (1 + i) 0) l' → IsTied mcs_lock n ws l'
cleared_again n ws l l' i tied below named again =
    let zero : get_or ws (1 + i) 0 ≡ 0 = words.next_word n ws l tied.words i below ∙ ap word_of named in
    subst (λ (z : List ℕ). IsTied mcs_lock n z l') (ap (λ z. set ws (1 + i) z) (sym zero) ∙ set-get_or ws (1 + i) 0) again

module _ {O P C R : Type 0} (meaning : Ghosts O P C R) (h : Cell O P C R) (slots id : ℕ) (me : Seat O P C R) (acts : has me.0.main.cpu me.0.main.owned ≡ true) where
  abbrev p : ℕ
  p = me.0.main.cpu

  abbrev v : SeatView O P C R
  v = me.0

  abbrev n : ℕ
  n = h.numbers

  abbrev Here : Stage → Table O P C R → McsLock → Type 0
  Here = StandsIn meaning kinds.Mcs h slots id me

  abbrev rule_at : {old : Stage} (s : Table O P C R) (l : McsLock) → Here old s l → CellInvariant meaning kinds.Mcs h s
  rule_at s l c = rule_of meaning kinds.Mcs h s (L l) c.rule

  -- a word that was read is stored again
  again : (s : Table O P C R) (l : McsLock) (i : ℕ) → IsTied mcs_lock n s.words l → IsTied mcs_lock n (set s.words i (get_or s.words i 0)) l
  again s l i tied = subst (λ (ws : List ℕ). IsTied mcs_lock n ws l) (sym (set-get_or s.words i 0)) tied

  -- `erase` makes a lock with a prepared try equal to the one in which that CPU is idle
  unprepared_erased : (l : McsLock) → l.line.stage p ≡ Trying → erase (L (unprepared l p)) ≡ erase (L l)
  unprepared_erased l at = ap L (erased_going l p Idle (subst (λ (z : Stage). Alike z Idle (l.extra p) (l.extra p)) (sym at) record { stands = refl; names = refl }))

  pub arriving : v.main.stage ≡ Trying → MakesAll meaning kinds.Mcs h arrives slots id me 0 (λ _. p + 1) (comes meaning (step slots 0 (p + 1) 0 none) me)
  arriving is = by_caller meaning kinds.Mcs h slots id me acts is _ (λ s l c _.
      let r = rule_at s l c in
      let found : ℕ = get_or s.words 0 0 in
      let reported : Seat O P C R → Type 0 = ArriveOutcome meaning me found in
      let back : McsLock = unprepared l p in
      let erased = unprepared_erased l c.at in
      let named : l.extra p ≡ None = queue.trying_clear n l c.tied.state p c.below c.at in
      let idle_there : back.line.stage p ≡ Idle = moved_same l.line.stage p Idle in
      let m : McsLock = clear back p in
      let ready : m.line.stage p ≡ Mcs Ready = moved_same back.line.stage p (Mcs Ready) in
      let cleared : turn (L back) p ≡ (L m, steps.Clear) = turned_lock kinds.Mcs back p (m, steps.Clear) (turns.turned back p Idle idle_there) in
      let tied_back : IsTied mcs_lock n s.words back = turns.gives_up n s.words l c.tied p c.below c.at in
      let tied : IsTied mcs_lock n s.words m = cleared_again n s.words back m p tied_back c.below named (turns.clears n s.words back tied_back p c.below idle_there) in
      let begun : arrives (L l) p ≡ two_turns (L back) p = ap (λ q. two_turns (L (record l { line = going l.line p (untried q) })) p) c.at in
      let untried_now : is_trying ((turn (L back) p).0.line.stage p) ≡ false = ap (λ z. is_trying (z.0.line.stage p)) cleared ∙ ap is_trying ready in
      let once = turned_alike meaning kinds.Mcs h s r p (L back) (L m) steps.Clear c.below erased refl (ap is_trying idle_there) cleared in
      let mid : Seat O P C R = between meaning kinds.Mcs h s r id me acts c.mine (Mcs Ready) steps.Clear in
      let stages : (q : Stage) → moved m.line.stage p q ≡ moved l.line.stage p q = λ q. moved_twice back.line.stage p (Mcs Ready) q ∙ moved_twice l.line.stage p Idle q in
      dite (ℕ_discrete found 0)
      (λ nobody. let none = turns.tail_none n s.words l c.tied nobody in
      let l' : McsLock = (enter m p None).0 in
      let entered : turn (L m) p ≡ (L l', steps.Enter true) = turned_lock kinds.Mcs m p (l', steps.Enter true) (turns.turned m p (Mcs Ready) ready ∙ ap (enter m p) none) in
      let twice = turns_twice (L back) (L m) (L l') p steps.Clear (steps.Enter true) cleared entered in
      let runs = turned_twice meaning kinds.Mcs h s r p (L back) (L l') steps.Clear (steps.Enter true) c.below erased refl (ap is_trying idle_there) untried_now (sym twice) in
      gets_by meaning kinds.Mcs h slots id me acts s l c 0 (p + 1) l' (turns.enters_first n s.words m tied p c.below ready none) arrives (Mcs Holding) (steps.Clear ∷ steps.Enter true ∷ []) (stages (Mcs Holding)) refl (ends.nobody_home mcs_lock n l c.tied.state none) runs (begun ∙ twice)
      reported (λ _. record {
        between = mid;
        clears = first_goes meaning kinds.Mcs h s r id me acts c.mine (Mcs Ready) steps.Clear (steps.Enter true) once runs.ran;
        enters = record { first = λ _. second_gets meaning kinds.Mcs h s r id me acts c.mine (Mcs Ready) steps.Clear (steps.Enter true) once runs.ran (Mcs Holding); behind = λ some_one. absurd (some_one nobody) };
      }))
      (λ some_one. let a = turns.tail_names n s.words l c.tied some_one in
      let l' : McsLock = (enter m p (Some a.0)).0 in
      let entered : turn (L m) p ≡ (L l', steps.Enter false) = turned_lock kinds.Mcs m p (l', steps.Enter false) (turns.turned m p (Mcs Ready) ready ∙ ap (enter m p) a.1) in
      let twice = turns_twice (L back) (L m) (L l') p steps.Clear (steps.Enter false) cleared entered in
      let runs = turned_twice meaning kinds.Mcs h s r p (L back) (L l') steps.Clear (steps.Enter false) c.below erased refl (ap is_trying idle_there) untried_now (sym twice) in
      let other = else_one meaning kinds.Mcs h slots id me acts s l c a.0 (ends.last_in mcs_lock n l c.tied.state a.0 a.1).0 (queue.trying_last n l c.tied.state p c.below a.0 c.at a.1) in
      goes_by meaning kinds.Mcs h slots id me acts s l c 0 (p + 1) l' (turns.enters_behind n s.words m tied p c.below a.0 ready a.1) arrives (Mcs (Behind a.0)) (steps.Clear ∷ steps.Enter false ∷ []) (stages (Mcs (Behind a.0))) refl runs (begun ∙ twice)
      reported (λ _. record {
        between = mid;
        clears = first_goes meaning kinds.Mcs h s r id me acts c.mine (Mcs Ready) steps.Clear (steps.Enter false) once runs.ran;
        enters = record {
          first = λ nobody. absurd (some_one nobody);
          behind = λ _. record {
            cpu = a.0;
            word = a.2;
            goes = second_goes meaning kinds.Mcs h s r id me acts c.mine (Mcs Ready) steps.Clear (steps.Enter false) once runs.ran (Mcs (Behind a.0));
            other = else_between meaning kinds.Mcs h s r id me acts c.mine (Mcs Ready) steps.Clear a.0 other;
          };
        };
      })))

  pub withdrawing : v.main.stage ≡ Trying → MakesAll meaning kinds.Mcs h withdraws slots id me 0 (λ k. k) (gives_up meaning (step slots 0 0 0 none) me)
  withdrawing is = by_caller meaning kinds.Mcs h slots id me acts is _ (λ s l c _.
      let back : McsLock = unprepared l p in
      let runs = not_turned meaning kinds.Mcs h s (rule_at s l c) p (L back) (unprepared_erased l c.at) refl in
      let now : withdraws (L l) p ≡ (L back, []) = ap (λ q. (L (record l { line = going l.line p (untried q) }), [])) c.at in
      goes_by meaning kinds.Mcs h slots id me acts s l c 0 (get_or s.words 0 0) back (again s back 0 (turns.gives_up n s.words l c.tied p c.below c.at)) withdraws Idle [] refl refl runs now
      (gives_up meaning (step slots 0 0 0 none) me (get_or s.words 0 0)) (λ goes. goes))

  module _ (x : History O P C R) (others : List (ℕ × Option (History O P C R))) (one : slots ≡ 1) (carries : me.1 ≡ (0, Some x) ∷ others) (added : AddedBy p v.main.seen x.log) (valid : Lawful meaning h x.log) (is_stored : x ≡ stored meaning h x.log) where
    pub resting : v.main.stage ≡ Mcs Alone → AllIdle v.others → MakesAll meaning kinds.Mcs h rests slots id me 0 (λ k. either (k == (p + 1)) 0 k) (goes_to_rest meaning (step slots 0 (p + 1) 0 none) me)
    resting is idle = by_caller meaning kinds.Mcs h slots id me acts is _ (λ s l c _.
        let r = rule_at s l c in
        let found : ℕ = get_or s.words 0 0 in
        let reported : Seat O P C R → Type 0 = RestOutcome meaning (p + 1) me found in
        let as_rest : Lock × StepDone → Lock × List StepDone = λ z. (readied z.1 z.0 p, z.1 ∷ []) in
        exchanged found (p + 1) 0 (λ (k : ℕ). Makes meaning kinds.Mcs h slots id me rests s r 0 k reported)
        (λ hit. let there = turns.tail_some n s.words l c.tied p hit in
        let left : McsLock = pass l p in
        let l' : McsLock = prepared left p in
        let does : mcs_lock.turn l p ≡ (left, steps.Empty true) = turns.turned l p (Mcs Alone) c.at ∙ turns.ends_queue l p (turns.last_is n s.words l c.tied p c.below hit) in
        let idle_there : left.line.stage p ≡ Idle = moved_same l.line.stage p Idle in
        let ws : List ℕ = set s.words 0 0 in
        let tied_left : IsTied mcs_lock n ws left = turns.empties n s.words l c.tied p c.below c.at there in
        let tied : IsTied mcs_lock n ws l' = cleared_again n ws left l' p tied_left c.below (c.tied.state.extra p there) (turns.prepares n ws left tied_left p c.below idle_there) in
        let now : rests (L l) p ≡ (L l', steps.Empty true ∷ []) = ap as_rest (turned_lock kinds.Mcs l p (left, steps.Empty true) does) in
        gives_to meaning kinds.Mcs h slots id me acts s l c 0 0 left l' tied (steps.Empty true) does (ap L (erased_prepared left p idle_there)) refl
        x others one carries added valid is_stored rests Trying refl (moved_twice l.line.stage p Idle Trying) refl now reported (λ gave. record { hit = λ _. gave; miss = λ miss. absurd (miss hit) }))
        (λ miss. let l' : McsLock = record l { line = going l.line p (Mcs Leaving) } in
        let other = turns.last_else n s.words l c.tied p c.below miss in
        let f = stands_at mcs_lock n l c.tied.state p (Mcs Alone) c.below c.at in
        let a = ends.another mcs_lock n l c.tied.state p f.there (queue.more n l c.tied.state p c.below c.at other) in
        let lacking = lacks_one meaning kinds.Mcs h slots id me acts s l c idle a.0 (has_at l.line.cpus 1 a.0 a.1) a.2 in
        let turned : turn (L l) p ≡ (L l', steps.Empty false) = turned_lock kinds.Mcs l p (l', steps.Empty false) (turns.turned l p (Mcs Alone) c.at ∙ turns.stays_queued l p (turns.not_named n s.words l c.tied p c.below miss)) in
        let runs = turned_once meaning kinds.Mcs h s r p (L l') (steps.Empty false) c.below (ap is_trying c.at) turned in
        goes_by meaning kinds.Mcs h slots id me acts s l c 0 found l' (again s l' 0 (turns.stays_on n s.words l c.tied p c.below c.at other)) rests (Mcs Leaving) (steps.Empty false ∷ []) refl refl runs (ap as_rest turned)
        reported (λ goes. record { hit = λ hit. absurd (miss hit); miss = λ _. record { goes = goes; lacks = lacking } })))

-- the words are those of the number that the code has, at a cell of the MCS lock
module _ {O P C R : Type 0} (meaning : Ghosts O P C R) (h : Cell O P C R) (kind : h.kind ≡ kinds.Mcs) (slots id cpu : ℕ) where
  pub arrive_now : (m : Seat O P C R) → IsWithout meaning h cpu Trying m → MakesAll meaning h.kind h arrives slots id m 0 (λ _. cpu + 1) (comes meaning (step slots 0 (cpu + 1) 0 none) m)
  arrive_now m w =
      let Goal : LockKind × ℕ → Type 0 = λ z. MakesAll meaning z.0 h arrives slots id m 0 (λ _. z.1 + 1) (comes meaning (step slots 0 (z.1 + 1) 0 none) m) in
      subst Goal (λ i. (sym kind i, w.at.number i)) (arriving meaning h slots id m w.pass_view.caller.acts w.at.stands)

  pub withdraw_now : (m : Seat O P C R) → IsWithout meaning h cpu Trying m → MakesAll meaning h.kind h withdraws slots id m 0 (λ k. k) (gives_up meaning (step slots 0 0 0 none) m)
  withdraw_now m w = subst (λ k. MakesAll meaning k h withdraws slots id m 0 (λ k. k) (gives_up meaning (step slots 0 0 0 none) m)) (sym kind) (withdrawing meaning h slots id m w.pass_view.caller.acts w.at.stands)

  -- a holder whose object is in its slot
  pub rest_now : (x : History O P C R) (m me : Seat O P C R) → IsWith meaning h cpu (Mcs Alone) x m → slots ≡ 1 → me ≡ (m.0, (0, Some x) ∷ rest m.1) → MakesAll meaning h.kind h rests slots id me 0 (λ k. either (k == (cpu + 1)) 0 k) (goes_to_rest meaning (step slots 0 (cpu + 1) 0 none) me)
  rest_now x m me w one filled =
      let Goal : LockKind × ℕ × Seat O P C R → Type 0 = λ z. MakesAll meaning z.0 h rests slots id z.2 0 (λ k. either (k == (z.1 + 1)) 0 k) (goes_to_rest meaning (step slots 0 (z.1 + 1) 0 none) z.2) in
      subst Goal (λ i. (sym kind i, w.at.number i, sym filled i))
      (resting meaning h slots id (m.0, (0, Some x) ∷ rest m.1) w.hold_view.caller.acts x (rest m.1) one refl w.added w.hold_view.valid w.hold_view.replayed w.at.stands (idle_alone m.0.others w.at.alone))

  -- a holder looks for a follower with its object in the slot
  pub see_kept_now : (m : Seat O P C R) → IsKeeping meaning h cpu (Mcs Holding) m → IsTurn meaning h.kind h slots id m (1 + cpu) (λ k. k) (sees meaning (step slots (1 + cpu) 0 0 none) m)
  see_kept_now m w =
      let Goal : LockKind × ℕ → Type 0 = λ z. IsTurn meaning z.0 h slots id m (1 + z.1) (λ k. k) (sees meaning (step slots (1 + z.1) 0 0 none) m) in
      subst Goal (λ i. (sym kind i, w.at.number i)) (seeing meaning h slots id m w.pass_view.caller.acts w.at.stands)

-- a caller that rests with its `next` clear is shown as idle
module _ {O P C R : Type 0} (meaning : Ghosts O P C R) (h : Cell O P C R) (m : Seat O P C R) where
  pub from_rest : (q : Stage) (done : List StepDone) (b : CallerState O P C R) → Moves meaning Trying q done (state_without h Trying m) b → Moves meaning Idle q done (state_without h Idle m) b
  from_rest q done b moved = record { caller = moved.caller; from = refl; to = moved.to; grows = moved.grows; still = moved.still; extends = moved.extends; valid = moved.valid; has = moved.has }

  pub to_rest : (q : Stage) (done : StepDone) (a : CallerState O P C R) → Gives meaning q Trying done a (state_without h Trying m) → Gives meaning q Idle done a (state_without h Idle m)
  to_rest q done a gave = record { caller = gave.caller; from = gave.from; to = refl; valid = gave.valid; events = gave.events; added = gave.added; extends = gave.extends; had = gave.had; has = gave.has }
