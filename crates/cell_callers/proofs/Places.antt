-- The caller that stands in a place.
use Rattle.std.specs.{declared.cmp.PartialEq.{Ghosts as Eq}, declared.default.Default.{Ghosts as Default}}
use Rattle.std.proofs.Common.{◌≡◌, ap, subst, refl, sym, false, Option, Some, None, IsSome, IfSome}
use Rattle.event_log.specs.declared.object.SeqObject.{Ghosts}
use Rattle.word_rule.specs.{declared.pass.Pass.Pass, Polls.is_idle}
use Rattle.mcs_lock.specs.declared.rested.Rested.{Rested}
use Rattle.guarded_cell.specs.{declared.cell.AnyCell.AnyCell, declared.any_caller.AnyCaller.AnyCaller, AnyCallers.{IsCallerOf, idle_caller, state_of_caller}}
use Rattle.cell_callers.specs.{declared.place.CallerPlace.CallerPlace, Callers.IsOne, Places.{IsPlaceOf, place_of, stands_at, in_line}}
use Rattle.mcs_lock.specs.declared.caller.McsCaller.TheVariants as at_mcs
use Rattle.guarded_cell.specs.declared.any_caller.AnyCaller.TheVariants as callers

module _ {O P C R : Type 0} {g : Ghosts O P C R} {call_eq : Eq C} {call_default : Default C} {reply_eq : Eq R} {reply_default : Default R} where
  -- the caller in a place of a cell is of that cell, and owns one CPU
  pub at_place : (cell : AnyCell O P C R) (place : CallerPlace O P C R g call_eq call_default reply_eq reply_default) (p : AnyCaller O P C R g call_eq call_default reply_eq reply_default)
      → IsPlaceOf cell place → place_of cell place ≡ Some p → IsCallerOf cell p × IsOne (state_of_caller p).caller
  at_place cell place p there is =
      let same : there.0 ≡ p = cc (there.1, is) in
      (subst (λ z. IsCallerOf cell z) same there.2, subst (λ z. IsOne (state_of_caller z).caller) same there.3)

  -- a caller stands there, is of that cell and owns one CPU
  pub is_there : (cell : AnyCell O P C R) (o o' : Option (AnyCaller O P C R g call_eq call_default reply_eq reply_default)) → o' ≡ o → IsSome o → IfSome o (λ p. IsCallerOf cell p) → IfSome o (λ p. IsOne (state_of_caller p).caller)
      → (p : AnyCaller O P C R g call_eq call_default reply_eq reply_default) × (o' ≡ Some p) × IsCallerOf cell p × IsOne (state_of_caller p).caller
  is_there cell (Some p) o' same some of one = (p, same, of, one)
  is_there cell None o' same some of one = absurd (cc)

  -- a fact about the caller holds of its place
  pub placed : (o : Option (AnyCaller O P C R g call_eq call_default reply_eq reply_default)) (p : AnyCaller O P C R g call_eq call_default reply_eq reply_default) (Q : AnyCaller O P C R g call_eq call_default reply_eq reply_default → Type 0) → o ≡ Some p → Q p → IfSome o Q
  placed o p Q is holds = subst (λ z. IfSome z Q) (sym is) holds

  -- where one part has a caller and the other two are empty
  pub stands_idle : (cell : AnyCell O P C R) (pass : Option (Pass O P C R g call_eq call_default reply_eq reply_default)) (rested : Option (Rested O P C R g call_eq call_default reply_eq reply_default)) (line : Option (AnyCaller O P C R g call_eq call_default reply_eq reply_default)) (p : Pass O P C R g call_eq call_default reply_eq reply_default)
      → pass ≡ Some p → rested ≡ None → line ≡ None → stands_at cell pass rested line ≡ Some (idle_caller cell p)
  stands_idle cell pass rested line p some none none' = rw some (rw none (rw none' refl))

  pub stands_rested : (cell : AnyCell O P C R) (pass : Option (Pass O P C R g call_eq call_default reply_eq reply_default)) (rested : Option (Rested O P C R g call_eq call_default reply_eq reply_default)) (line : Option (AnyCaller O P C R g call_eq call_default reply_eq reply_default)) (r : Rested O P C R g call_eq call_default reply_eq reply_default)
      → pass ≡ None → rested ≡ Some r → line ≡ None → stands_at cell pass rested line ≡ Some (callers.Mcs (at_mcs.Rested r))
  stands_rested cell pass rested line r none some none' = rw none (rw some (rw none' refl))

  pub stands_in_line : (cell : AnyCell O P C R) (pass : Option (Pass O P C R g call_eq call_default reply_eq reply_default)) (rested : Option (Rested O P C R g call_eq call_default reply_eq reply_default)) (line : Option (AnyCaller O P C R g call_eq call_default reply_eq reply_default)) (p : AnyCaller O P C R g call_eq call_default reply_eq reply_default)
      → pass ≡ None → rested ≡ None → line ≡ Some p → is_idle (state_of_caller p) ≡ false → stands_at cell pass rested line ≡ Some p
  stands_in_line cell pass rested line p none none' some busy = rw none (rw none' (rw some (ap (λ b. in_line b p) busy)))

  -- a caller whose pass is there, or whose `next` is clear there, is that idle caller
  pub idle_there : (cell : AnyCell O P C R) (pass : Option (Pass O P C R g call_eq call_default reply_eq reply_default)) (rested : Option (Rested O P C R g call_eq call_default reply_eq reply_default)) (line : Option (AnyCaller O P C R g call_eq call_default reply_eq reply_default)) (p : Pass O P C R g call_eq call_default reply_eq reply_default)
      → pass ≡ Some p → IsSome (stands_at cell pass rested line) → (rested ≡ None) × (line ≡ None) × (stands_at cell pass rested line ≡ Some (idle_caller cell p))
  idle_there cell None rested line p is some = absurd (cc)
  idle_there cell (Some q) None None p is some = (refl, refl, ap (λ z. stands_at cell z None None) is)
  idle_there cell (Some q) None (Some l) p is some = absurd (cc)
  idle_there cell (Some q) (Some r) line p is some = absurd (cc)

  pub rested_there : (cell : AnyCell O P C R) (pass : Option (Pass O P C R g call_eq call_default reply_eq reply_default)) (rested : Option (Rested O P C R g call_eq call_default reply_eq reply_default)) (line : Option (AnyCaller O P C R g call_eq call_default reply_eq reply_default)) (r : Rested O P C R g call_eq call_default reply_eq reply_default)
      → rested ≡ Some r → IsSome (stands_at cell pass rested line) → (pass ≡ None) × (line ≡ None) × (stands_at cell pass rested line ≡ Some (callers.Mcs (at_mcs.Rested r)))
  rested_there cell pass None line r is some = absurd (cc)
  rested_there cell None (Some q) None r is some = (refl, refl, ap (λ z. stands_at cell None z None) is)
  rested_there cell None (Some q) (Some l) r is some = absurd (cc)
  rested_there cell (Some p) (Some q) line r is some = absurd (cc)
