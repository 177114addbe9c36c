-- An arrival at a ticket lock follows the lock's definition: it is two turns, a draw and a look.
use Rattle.std.proofs.{Common.{◌≡◌, ℕ, ◌+◌, ◌/◌, ◌%◌, ◌^◌, ◌<◌, true, false, List, [], ◌∷◌, length, get_or, refl, sym, ap, ◌∙◌, subst, arith}, lemmas.Bool.false_from_ne_true, Math.Nat.mod-lt}
use mathlib.{Core.Logic.dite, Core.Option.{none, some-injective}}
use native.Mathlib.Decide.{ℕ_discrete}
use Rattle.atomic_table.specs.Table.{step}
use Rattle.atomic_table.proofs.Lists.{at_longer}
use Rattle.event_log.specs.{declared.object.SeqObject.Ghosts, Distinct.has}
use Rattle.word_rule.specs.{declared.machine.step_done.StepDone.StepDone, declared.lock_kind.Stage.TheVariants.{Idle, Ticket}, declared.lock_kind.TicketStage.TheVariants.{Drawn, Served}, Cell.Cell, Line.{is_first, moved}, Locks.{Lock, lock_of, turn}, Rule.AtOnce.{arrives, two_turns}, Rule.Definition.Makes, Rule.Announced.Goes, Rule.Callers.{caller_of, state_without, IsWithout}, Rule.Seats.Seat, Ticket.Acquire.draw, Ticket.State.{TicketLock, tickets}, Ticket.Steps.{HasDrawn, IsDraw}}
use Rattle.word_rule.proofs.{Acting.{goes_without, moves_without}, AtOnce.{between, first_goes, lacks_between, second_gets, second_goes, turns_twice, unready_idle}, CallerSteps.{gets_by, goes_by, lacks_one}, Known.AllIdle, Lists.{first_at, has_at}, LockInterface.is_trying, Moves.moved_same, RuleStates.{by_caller, rule_of, tried_lock, turned_lock}, Stays.{turned_once, turned_twice}, Ticket.Served.has_drawn, Ticket.Tries.draws_and_looks, Ticket.Turns.tried_by}
use Rattle.ticket_lock.specs.{AtOnce.{ArriveOutcome, comes}, Steps.{Draws, LookOutcome}}
use Rattle.sound_run.specs.declared.lock_kind.LockKind.TheVariants as kinds
use Rattle.word_rule.specs.declared.machine.step_done.StepDone.TheVariants as steps
use Rattle.word_rule.proofs.Ticket.Turns as turns

abbrev L : TicketLock → Lock
L l = lock_of kinds.Ticket l

module _ {O P C R : Type 0} (meaning : Ghosts O P C R) (h : Cell O P C R) (slots id : ℕ) (me : Seat O P C R) (acts : has me.0.main.cpu me.0.main.owned ≡ true) where
  abbrev p : ℕ
  p = me.0.main.cpu

  arrives_so : (kind : h.kind ≡ kinds.Ticket) → me.0.main.stage ≡ Idle → AllIdle me.0.others → Makes meaning kinds.Ticket h arrives slots id me 0 (λ k. (k + tickets) % 2 ^ 64) (comes meaning (step slots 0 tickets 0 none) me)
  arrives_so kind is idle = by_caller meaning kinds.Ticket h slots id me acts is _ (λ s l c _.
      let r = rule_of meaning kinds.Ticket h s (L l) c.rule in
      let found : ℕ = get_or s.words 0 0 in
      let t : ℕ = found / tickets in
      let new : ℕ = (found + tickets) % 2 ^ 64 in
      let reported : Seat O P C R → Type 0 = ArriveOutcome meaning me found in
      let same : (l.extra + length l.line.cpus) % tickets ≡ t = sym (turns.ticket_is h.numbers s.words l c.tied p c.below) in
      let turned = turned_lock kinds.Ticket l p (draw l p, steps.Draw) (turns.turned l p Idle c.at) in
      let untried : is_trying (l.line.stage p) ≡ false = ap is_trying c.at in
      let drawn : is_trying ((turn (L l) p).0.line.stage p) ≡ false = ap (λ z. is_trying (z.0.line.stage p)) turned ∙ ap is_trying (moved_same l.line.stage p (Ticket (Drawn ((l.extra + length l.line.cpus) % tickets)))) in
      let once = turned_once meaning kinds.Ticket h s r p (L (draw l p)) steps.Draw c.below untried turned in
      let begun : arrives (L l) p ≡ two_turns (L l) p = ap (λ z. two_turns z p) (unready_idle kinds.Ticket l p c.at) in
      let mid : Seat O P C R = between meaning kinds.Ticket h s r id me acts c.mine (Ticket (Drawn t)) steps.Draw in
      dite (ℕ_discrete (found % tickets) t)
      (λ alike. let free = turns.unchanged_free h.numbers s.words l c.tied p c.below c.at found (sym alike) refl in
      let done : List StepDone = steps.Draw ∷ steps.Look true ∷ [] in
      let l' : TicketLock = tried_by l p (found % tickets) in
      let first = tried_lock kinds.Ticket l p (found % tickets) (l', done) (turns.succeeds l p (found % tickets) free.0 free.1) in
      let small_ticket : found % tickets < tickets = mod-lt found (omega arith) in
      let two = ap (λ z. (L z.0, z.1)) (draws_and_looks l p (found % tickets) c.at free.0 free.1 small_ticket) in
      let runs = turned_twice meaning kinds.Ticket h s r p (L l) (L l') steps.Draw (steps.Look true) c.below refl refl untried drawn (sym first ∙ two) in
      let draws : Draws meaning me found mid = record { goes = first_goes meaning kinds.Ticket h s r id me acts c.mine (Ticket (Drawn t)) steps.Draw (steps.Look true) once.ran runs.ran; drawn = λ g stated. has_drawn meaning kinds.Ticket h s r kind id me.0 g c.mine stated t same } in
      gets_by meaning kinds.Ticket h slots id me acts s l c 0 new l' (turns.tries_from h.numbers s.words l c.tied p c.below c.at found new (sym alike) refl refl) arrives (Ticket (Served t)) done (ap (λ (u : ℕ). moved l.line.stage p (Ticket (Served u))) alike) refl (turns.empty_home h.numbers s.words l c.tied p c.below free.0) runs (begun ∙ (sym two ∙ first))
      reported (λ _. record { between = mid; draws = draws; looks = record { hit = λ _. second_gets meaning kinds.Ticket h s r id me acts c.mine (Ticket (Drawn t)) steps.Draw (steps.Look true) once.ran runs.ran (Ticket (Served t)); miss = λ miss. absurd (miss alike) } }))
      (λ differ. let l' : TicketLock = draw l p in
      let u : ℕ = (l.extra + length l.line.cpus) % tickets in
      let f = turns.busy_first h.numbers s.words l c.tied p c.below c.at (λ e. differ (sym e)) in
      let behind_one : is_first p l'.line.cpus ≡ false = false_from_ne_true (is_first p l'.line.cpus) (λ first. f.2 (some-injective f.0 p (sym (at_longer l.line.cpus (p ∷ []) 0 f.0 f.1) ∙ first_at p l'.line.cpus first))) in
      let looked = turned_lock kinds.Ticket l' p (l', steps.Look false) (turns.turned l' p (Ticket (Drawn u)) (moved_same l.line.stage p (Ticket (Drawn u))) ∙ turns.misses l' p u behind_one) in
      let twice : two_turns (L l) p ≡ (L l', steps.Draw ∷ steps.Look false ∷ []) = turns_twice (L l) (L l') (L l') p steps.Draw (steps.Look false) turned looked in
      let runs = turned_twice meaning kinds.Ticket h s r p (L l) (L l') steps.Draw (steps.Look false) c.below refl refl untried drawn (sym twice) in
      let lacking = lacks_one meaning kinds.Ticket h slots id me acts s l c idle f.0 (has_at l.line.cpus 0 f.0 f.1) f.2 in
      let draws : Draws meaning me found mid = record { goes = first_goes meaning kinds.Ticket h s r id me acts c.mine (Ticket (Drawn t)) steps.Draw (steps.Look false) once.ran runs.ran; drawn = λ g stated. has_drawn meaning kinds.Ticket h s r kind id me.0 g c.mine stated t same } in
      goes_by meaning kinds.Ticket h slots id me acts s l c 0 new l' (turns.draws h.numbers s.words l c.tied p c.below c.at) arrives (Ticket (Drawn t)) (steps.Draw ∷ steps.Look false ∷ []) (ap (λ (u : ℕ). moved l.line.stage p (Ticket (Drawn u))) same) refl runs (begun ∙ twice)
      reported (λ _. record { between = mid; draws = draws; looks = record { hit = λ hit. absurd (differ hit); miss = λ _. record { goes = second_goes meaning kinds.Ticket h s r id me acts c.mine (Ticket (Drawn t)) steps.Draw (steps.Look false) once.ran runs.ran (Ticket (Drawn t)); lacks = lacks_between meaning kinds.Ticket h s r id me acts c.mine (Ticket (Drawn t)) steps.Draw lacking } } })))

  pub arriving : h.kind ≡ kinds.Ticket → me.0.main.stage ≡ Idle → AllIdle me.0.others → Makes meaning h.kind h arrives slots id me 0 (λ k. (k + tickets) % 2 ^ 64) (comes meaning (step slots 0 tickets 0 none) me)
  arriving kind is idle = subst (λ z. Makes meaning z h arrives slots id me 0 (λ k. (k + tickets) % 2 ^ 64) (comes meaning (step slots 0 tickets 0 none) me)) (sym kind) (arrives_so kind is idle)

-- an arrival by its two steps, at the ticket that the code has
pub record Arrived {O P C R : Type 0} (meaning : Ghosts O P C R) (h : Cell O P C R) (cpu t n : ℕ) (m b m' : Seat O P C R) : Type 0 where
  pub drawn : IsWithout meaning h cpu (Ticket (Drawn t)) b
  pub draws : IsDraw meaning (state_without h Idle m) (state_without h (Ticket (Drawn t)) b)
  pub looks : LookOutcome meaning t b n m'

pub arrived : {O P C R : Type 0} (meaning : Ghosts O P C R) (h : Cell O P C R) (cpu t n : ℕ) (m m' : Seat O P C R)
    → IsWithout meaning h cpu Idle m → (a : ArriveOutcome meaning m n m') → t ≡ n / tickets → Arrived meaning h cpu t n m a.between m'
arrived meaning h cpu t n m m' w a is =
    let goes = subst (λ (u : ℕ). Goes meaning (Ticket (Drawn u)) (steps.Draw ∷ []) m a.between) (sym is) a.draws.goes in
    let drew = subst (λ (u : ℕ). HasDrawn (caller_of h m.0) u a.between.0.main.run) (sym is) (a.draws.drawn h w.at.reported) in record {
      drawn = goes_without meaning h cpu Idle (Ticket (Drawn t)) (steps.Draw ∷ []) m a.between w goes;
      draws = (t, moves_without meaning h cpu Idle (Ticket (Drawn t)) (steps.Draw ∷ []) m a.between w goes, drew);
      looks = subst (λ (u : ℕ). LookOutcome meaning u a.between n m') (sym is) a.looks;
    }
