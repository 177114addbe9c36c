-- Steps by which a caller gets the object and leaves it in its slot, and steps of holders that keep it there.
use Rattle.std.proofs.Common.{◌≡◌, ℕ, ◌<◌, true, List, [], ◌∷◌, map, refl, sym, ap, ◌∙◌, subst, arith, Some, None}
use Rattle.atomic_table.specs.Table.{rest}
use Rattle.event_log.specs.{declared.object.SeqObject.Ghosts, History.History}
use Rattle.event_log.proofs.Beginnings.{begins_self}
use Rattle.word_rule.specs.{declared.machine.step_done.StepDone.StepDone, declared.lock_kind.Stage.Stage, Cell.{Cell, stored}, CallerState.{Moves, Takes}, Locks.holding, LockRuns.HasRun, Rule.Seats.{Seat, moved_on, shown, settled}, Rule.Announced.{Gets, Goes}, Rule.Callers.{caller_of, state_without, state_with, IsWithout, IsWith}, Keeping.IsKeeping}
use Rattle.word_rule.proofs.{Known.value_of, Lists.grows_self}

module _ {O P C R : Type 0} (meaning : Ghosts O P C R) (h : Cell O P C R) (cpu : ℕ) where
  module _ (p q : Stage) (done : List StepDone) (m m' : Seat O P C R) (w : IsWithout meaning h cpu p m) (g : Gets meaning q done m m') where
    -- the seat after the step that brought the object
    now : m' ≡ (settled m.0 q g.object.log g.run, (0, Some (stored meaning h g.object.log)) ∷ [])
    now = g.seat ∙ (λ k. (settled m.0 q g.object.log g.run, (0, Some (g.replayed h w.at.reported k)) ∷ w.at.carries k))

    pub keeps_from : IsKeeping meaning h cpu q m'
    keeps_from = subst (IsKeeping meaning h cpu q) (sym now) record {
      at = record { alone = ap (map (shown g.object.log g.run)) w.at.alone; number = w.at.number; carries = refl; stands = refl; reported = w.at.reported };
      pass_view = record { caller = w.pass_view.caller; valid = g.learns.valid h w.at.reported };
      ran = g.learns.ran h w.at.reported;
    }

    pub takes_kept : Takes meaning p q done (state_without h p m) (state_with h q (stored meaning h m'.0.main.seen) m')
    takes_kept = subst (λ z. Takes meaning p q done (state_without h p m) (state_with h q (stored meaning h z.0.main.seen) z)) (sym now) record {
      caller = refl;
      from = refl;
      to = refl;
      grows = g.learns.grows;
      extends = g.learns.extends;
      valid = g.learns.valid h w.at.reported;
      had = refl;
      has = refl;
    }

  module _ (q : Stage) (m : Seat O P C R) (w : IsKeeping meaning h cpu q m) where
    -- the same caller with the object in its hand
    abbrev pub in_hand : Seat O P C R
    in_hand = (m.0, (0, None) ∷ [])

    pub as_hold : IsWith meaning h cpu q (stored meaning h m.0.main.seen) in_hand
    as_hold = record {
      at = record { alone = w.at.alone; number = w.at.number; carries = refl; stands = w.at.stands; reported = w.at.reported };
      added = record { begins = begins_self m.0.main.seen; others = λ _ _. refl };
      hold_view = record { caller = w.pass_view.caller; valid = w.pass_view.valid; replayed = refl };
      ran = w.ran;
    }

    pub below_kept : (n : ℕ) → h.numbers ≡ n → cpu < n
    below_kept n is = let below = w.pass_view.caller.below m.0.main.cpu w.pass_view.caller.acts in let number = w.at.number in omega arith

    pub filled : m ≡ (m.0, (0, Some (stored meaning h m.0.main.seen)) ∷ [])
    filled = λ k. (m.0, w.at.carries k)

  module _ (p q : Stage) (done : List StepDone) (m m' : Seat O P C R) (w : IsKeeping meaning h cpu p m) (holds : holding p ≡ true) (g : Goes meaning q done m m') where
    -- the seat after a step of a holder
    went : m' ≡ (moved_on m.0 q m.0.main.seen g.run, (0, Some (stored meaning h m.0.main.seen)) ∷ [])
    went = g.seat ∙ (λ k. (moved_on m.0 q (g.still (ap holding w.at.stands ∙ holds) k) g.run, w.at.carries k))

    pub keeps_on : IsKeeping meaning h cpu q m'
    keeps_on = subst (IsKeeping meaning h cpu q) (sym went) record {
      at = record { alone = w.at.alone; number = w.at.number; carries = refl; stands = refl; reported = w.at.reported };
      pass_view = record { caller = w.pass_view.caller; valid = w.pass_view.valid };
      ran = subst (λ z. HasRun h z g.run) (g.still (ap holding w.at.stands ∙ holds)) (g.learns.ran h w.at.reported);
    }

    pub moves_kept : Moves meaning p q done (state_with h p (stored meaning h m.0.main.seen) m) (state_with h q (stored meaning h m'.0.main.seen) m')
    moves_kept = subst (λ z. Moves meaning p q done (state_with h p (stored meaning h m.0.main.seen) m) (state_with h q (stored meaning h z.0.main.seen) z)) (sym went) record {
      caller = refl;
      from = refl;
      to = refl;
      grows = grows_self (caller_of h m.0).owned m.0.main.seen;
      still = λ _. refl;
      extends = g.learns.extends;
      valid = w.pass_view.valid;
      has = refl;
    }

    -- and then the object is taken out of the slot
    module _ (m'' : Seat O P C R) (y : History O P C R) (slot : m'.1 ≡ (0, Some y) ∷ rest m'.1) (out : m'' ≡ (m'.0, (0, None) ∷ rest m'.1)) where
      abbrev pub x : History O P C R
      x = stored meaning h m.0.main.seen

      same : x ≡ y
      same = ap (value_of x) (sym (ap (λ (z : Seat O P C R). z.1) went) ∙ slot)

      now_out : m'' ≡ (moved_on m.0 q m.0.main.seen g.run, (0, None) ∷ [])
      now_out = out ∙ (λ k. ((went k).0, (0, None) ∷ rest (went k).1))

      pub taken_out : IsWith meaning h cpu q y m''
      taken_out = subst (λ (z : History O P C R × Seat O P C R). IsWith meaning h cpu q z.0 z.1) (λ k. (same k, sym now_out k)) record {
        at = record { alone = w.at.alone; number = w.at.number; carries = refl; stands = refl; reported = w.at.reported };
        added = record { begins = begins_self m.0.main.seen; others = λ _ _. refl };
        hold_view = record { caller = w.pass_view.caller; valid = w.pass_view.valid; replayed = refl };
        ran = subst (λ z. HasRun h z g.run) (g.still (ap holding w.at.stands ∙ holds)) (g.learns.ran h w.at.reported);
      }

      pub moves_out : Moves meaning p q done (state_with h p x m) (state_with h q y m'')
      moves_out = subst (λ (z : History O P C R × Seat O P C R). Moves meaning p q done (state_with h p x m) (state_with h q z.0 z.1)) (λ k. (same k, sym now_out k)) record {
        caller = refl;
        from = refl;
        to = refl;
        grows = grows_self (caller_of h m.0).owned m.0.main.seen;
        still = λ _. refl;
        extends = g.learns.extends;
        valid = w.pass_view.valid;
        has = refl;
      }
