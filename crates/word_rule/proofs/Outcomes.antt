-- What becomes of calls at the end of a hold.
use Rattle.std.proofs.{Common.{◌≡◌, ◌↔◌, List, length, refl, ap, sym, ◌∙◌, eq-eqb, ne_eqb, cond, Result, Ok, Err, IsErr, IfOk, OnErr}, lemmas.Bool.false≢true}
use Rattle.event_log.specs.{declared.object.SeqObject.Ghosts, declared.event.Event.Event, declared.event.Steps.Steps, declared.event.Step.Step, declared.entry.Done.Done, Log.{answers, replay}}
use Rattle.sound_run.specs.Sound.{Opened}
use Rattle.word_rule.specs.Machine.World.{outcome}
use Rattle.event_log.specs.declared.entry.Done.TheVariants as done

module _ {O P C R : Type 0} (meaning : Ghosts O P C R) (opened : Opened P) (log : List (Event O P C R)) (asked : List C) where
  abbrev with_items : List (Step O P C R) → Done O P C R
  with_items l = done.Steps record { list = record { items = l } }

  pub done_now : (s : Steps O P C R) → (length log ≡ opened.limit → ⊥) → s.list.items ≡ answers meaning (replay meaning opened.params log) asked → done.Steps s ≡ outcome meaning opened log asked
  done_now s room e = ap with_items e
      ∙ ap (λ b. cond b done.NoRoom (done.Steps record { list = record { items = answers meaning (replay meaning opened.params log) asked } })) (sym (ne_eqb (length log) opened.limit room))

  pub refused_now : length log ≡ opened.limit → done.NoRoom ≡ outcome meaning opened log asked
  refused_now full = ap (λ b. cond b done.NoRoom (done.Steps record { list = record { items = answers meaning (replay meaning opened.params log) asked } })) (sym (eq-eqb (length log) opened.limit full))

  -- what becomes of the calls is what an application answers
  pub outcome_is : {E : Type 0} (applied : Result (Steps O P C R) E) (d : Done O P C R) → IfOk applied (λ s. d ≡ done.Steps s) × OnErr applied (d ≡ done.NoRoom)
      → (IsErr applied ↔ (length log ≡ opened.limit)) → IfOk applied (λ s. s.list.items ≡ answers meaning (replay meaning opened.params log) asked) → d ≡ outcome meaning opened log asked
  outcome_is (Ok s) d is room steps = is.0 ∙ done_now s (λ e. absurd (false≢true (room.1 e))) steps
  outcome_is (Err _) d is room steps = is.1 ∙ refused_now (room.0 refl)
