-- What a step of a seat's first caller makes of a cell's table, whichever lock it has: the caller goes on, gets the object, or
-- gives it back, by a turn or by what belongs to a try.
use Rattle.std.proofs.Common.{◌≡◌, ◌≢◌, ℕ, true, false, List, [], ◌∷◌, ◌++◌, drop, length, set, sym, ap, ◌∙◌, subst, arith, Option, Some}
use Rattle.atomic_table.specs.Table.{Act, keeps, takes, gives, rest, stepped, carried_after, Valid}
use Rattle.event_log.specs.{declared.object.SeqObject.Ghosts, declared.event.Event.Event, Distinct.has, History.History}
use Rattle.sound_run.specs.declared.lock_kind.LockKind.{LockKind}
use Rattle.word_rule.specs.{declared.machine.step_done.StepDone.StepDone, declared.lock_kind.Stage.Stage, declared.lock_kind.Stage.TheVariants.Idle, declared.view.TraceStep.TraceStep, Cell.{Cell, Lawful, stored}, Line.moved, LockDefinition.{IsTied, LockDefinition, LockState}, Locks.{Lock, definition_of, holding, lock_of, turn}, OneHold.{leaving, silently}, StepKinds.ends_hold, Rule.Announced.{Goes, Gets, IsElse, Lacks, Returns}, Rule.Callers.AddedBy, Rule.CellInvariant.{CellInvariant, SeatView, Table}, Rule.Definition.GoesOn, Rule.Seats.{Seat, moved_on, settled}}
use Rattle.word_rule.proofs.{Known.{AllIdle, gets, goes, lacks, returns, someone_else}, LockInterface.is_trying, LockLaws.one_holds, RuleStates.{StandsIn, rule_of, turned_lock}, Runs.{does_so, goes_leaving, goes_silently, turns_so}, ShownLocks.tied_lock, Stays.{Runs, given, kept, taken, turned_once}}

-- what a turn does, as the rule asks of a step
abbrev pub by_turn : Lock → ℕ → Lock × List StepDone
by_turn l i = ((turn l i).0, (turn l i).1 ∷ [])

module _ {O P C R : Type 0} (meaning : Ghosts O P C R) (kind : LockKind) (h : Cell O P C R) (slots id : ℕ) (me : Seat O P C R) where
  abbrev d : LockDefinition
  d = definition_of kind

  abbrev p : ℕ
  p = me.0.main.cpu

  abbrev v : SeatView O P C R
  v = me.0

  abbrev Rule : Table O P C R → Type 0
  Rule = CellInvariant meaning kind h

  -- the caller may step so: word i becomes k, the lock becomes what `next` makes of it, and this is reported to the caller
  abbrev pub Makes : (Lock → ℕ → Lock × List StepDone) → (s : Table O P C R) → Rule s → ℕ → ℕ → (Seat O P C R → Type 0) → Type 0
  Makes next s r i k reported = (w : SeatView O P C R) × (a : Act (Option (History O P C R))) × Valid s.homes me.1 a × (r' : Rule (stepped s i k id me.1 w a)) × reported (w, carried_after me.1 a)
      × (r'.state.lock ≡ (next r.state.lock p).0) × GoesOn p (next r.state.lock p).1 r.state.run r'.state.run

  module _ (acts : has p me.0.main.owned ≡ true) {old : Stage} (s : Table O P C R) (m : LockState d.Extra) (c : StandsIn meaning kind h slots id me old s m) where
    abbrev r : Rule s
    r = rule_of meaning kind h s (lock_of kind m) c.rule

    -- one in line that isn't the caller is another's number; and where all callers of the seat but the first are idle, the
    -- seat lacks a number
    pub else_one : (y : ℕ) → has y m.line.cpus ≡ true → y ≢ p → IsElse v y
    else_one y in_line other = someone_else meaning kind h s r id v y c.mine in_line other

    pub lacks_one : AllIdle v.others → (y : ℕ) → has y m.line.cpus ≡ true → y ≢ p → Lacks v
    lacks_one idle y in_line other = lacks meaning kind h s r id v y c.mine idle in_line other

    module _ (i k : ℕ) (l : LockState d.Extra) (tied : IsTied d h.numbers (set s.words i k) l) where
      abbrev ran : List StepDone → List (TraceStep (Event O P C R))
      ran done = c.rule.run ++ silently p done

      -- the seat where its first caller stands elsewhere, and where it has got the object
      abbrev pub on : Stage → List StepDone → Seat O P C R
      on q done = (moved_on v q c.rule.committed (ran done), me.1)

      abbrev pub with_it : Stage → List StepDone → Seat O P C R
      with_it q done = (settled v q c.rule.committed (ran done), (0, Some (stored meaning h c.rule.committed)) ∷ me.1)

      -- the caller goes on
      pub goes_by : (next : Lock → ℕ → Lock × List StepDone) (q : Stage) (done : List StepDone) → l.line.stage ≡ moved m.line.stage p q → l.line.out ≡ m.line.out → Runs meaning kind h r.state p (lock_of kind l) done → next (lock_of kind m) p ≡ (lock_of kind l, done)
          → (reported : Seat O P C R → Type 0) → (Goes meaning q done me (on q done) → reported (on q done)) → Makes next s r i k reported
      goes_by next q done stage out runs is reported reports =
          let so = does_so p c.rule.run (next (lock_of kind m) p) (lock_of kind l) done (ran done) is (goes_silently p c.rule.run done) in (
            (on q done).0,
            keeps,
            tt,
            kept meaning kind h s r i k id v me.1 (lock_of kind l) q done stage out c.there acts runs (tied_lock kind h.numbers _ l tied),
            reports (goes meaning kind h s r id me acts c.mine q done runs.ran),
            so.0,
            so.1,
          )

      -- the caller gets the object
      pub gets_by : (next : Lock → ℕ → Lock × List StepDone) (q : Stage) (done : List StepDone) → l.line.stage ≡ moved m.line.stage p q → l.line.out ≡ true → m.line.out ≡ false → Runs meaning kind h r.state p (lock_of kind l) done → next (lock_of kind m) p ≡ (lock_of kind l, done)
          → (reported : Seat O P C R → Type 0) → (Gets meaning q done me (with_it q done) → reported (with_it q done)) → Makes next s r i k reported
      gets_by next q done stage out home runs is reported reports =
          let so = does_so p c.rule.run (next (lock_of kind m) p) (lock_of kind l) done (ran done) is (goes_silently p c.rule.run done) in (
            (with_it q done).0,
            takes 0 (Some (stored meaning h c.rule.committed)),
            c.rule.at_home home,
            taken meaning kind h s r i k id v me.1 (lock_of kind l) q done stage out c.there acts runs (tied_lock kind h.numbers _ l tied),
            reports (gets meaning kind h s r id me acts c.mine q done runs.ran),
            so.0,
            so.1,
          )

      module _ (untried : is_trying old ≡ false) (step : StepDone) (does : d.turn m p ≡ (l, step)) where
        turned : turn (lock_of kind m) p ≡ (lock_of kind l, step)
        turned = turned_lock kind m p (l, step) does

        runs_on : Runs meaning kind h r.state p (lock_of kind l) (step ∷ [])
        runs_on = turned_once meaning kind h s r p (lock_of kind l) step c.below (ap is_trying c.at ∙ untried) turned

        as_turn : by_turn (lock_of kind m) p ≡ (lock_of kind l, step ∷ [])
        as_turn = ap (λ (z : Lock × StepDone). (z.0, z.1 ∷ [])) turned

        -- by its turn
        pub goes_on : (q : Stage) → l.line.stage ≡ moved m.line.stage p q → l.line.out ≡ m.line.out → (reported : Seat O P C R → Type 0) → (Goes meaning q (step ∷ []) me (on q (step ∷ [])) → reported (on q (step ∷ []))) → Makes by_turn s r i k reported
        goes_on q stage out reported reports = goes_by by_turn q (step ∷ []) stage out runs_on as_turn reported reports

        pub gets_it : (q : Stage) → l.line.stage ≡ moved m.line.stage p q → l.line.out ≡ true → m.line.out ≡ false → (reported : Seat O P C R → Type 0) → (Gets meaning q (step ∷ []) me (with_it q (step ∷ [])) → reported (with_it q (step ∷ []))) → Makes by_turn s r i k reported
        gets_it q stage out home reported reports = gets_by by_turn q (step ∷ []) stage out home runs_on as_turn reported reports

        module _ (x : History O P C R) (others : List (ℕ × Option (History O P C R))) (one : slots ≡ 1) (carries : me.1 ≡ (0, Some x) ∷ others) (added : AddedBy p v.main.seen x.log) (valid : Lawful meaning h x.log) (is_stored : x ≡ stored meaning h x.log) where
          abbrev pub without_it : Seat O P C R
          without_it = (settled v Idle x.log (c.rule.run ++ leaving p step (drop (length v.main.seen) x.log) ∷ []), rest me.1)

          -- the caller gives the object back, and is idle
          pub gives_back : holding old ≡ true → l.line.stage ≡ moved m.line.stage p Idle → ends_hold step ≡ true → (reported : Seat O P C R → Type 0) → (Returns Idle step me without_it → reported without_it) → Makes by_turn s r i k reported
          gives_back has_it stage ends reported reports =
              let holds = ap holding c.at ∙ has_it in
              let len = c.homes in
              let slot : me.1 ≡ (0, Some (stored meaning h x.log)) ∷ others = carries ∙ ap (λ z. (0, Some z) ∷ others) is_stored in
              let events : List (Event O P C R) = drop (length v.main.seen) x.log in
              let run' = c.rule.run ++ leaving p step events ∷ [] in
              let ended = given meaning kind h s r i k id v others x.log (lock_of kind l) Idle step stage (omega (arith, len, one)) c.there acts holds (λ y y_below y_has. one_holds h.numbers (lock_of kind m) c.rule.tied.state y p y_below c.below y_has holds) added valid turned ends (tied_lock kind h.numbers _ l tied) in
              let so = turns_so p c.rule.run (lock_of kind m) (lock_of kind l) step run' turned (goes_leaving p c.rule.run step events) in
              let now = subst (λ (cs : List (ℕ × Option (History O P C R))). (r' : Rule (stepped s i k id cs (settled v Idle x.log run') gives)) × (r'.state.lock ≡ (turn (lock_of kind m) p).0) × GoesOn p ((turn (lock_of kind m) p).1 ∷ []) c.rule.run r'.state.run) (sym slot) (ended, so.0, so.1) in
              (without_it.0, gives, tt, now.0, reports (returns meaning kind h s r id me acts c.mine Idle step x others carries added.begins ended.ran), now.1, now.2)
