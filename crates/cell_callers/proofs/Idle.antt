-- The caller in a place is idle where a CPU shows there.
use Rattle.std.specs.{declared.cmp.PartialEq.{Ghosts as Eq}, declared.default.Default.{Ghosts as Default}}
use Rattle.std.proofs.Common.{◌≡◌, ◌∙◌, is_some, ℕ, ap, refl, sym, subst, Bool, true, false, if◌then◌else◌, Option, Some, None, IsSome, IfSome}
use Rattle.std_alloc.specs.Arc.{arc_value}
use Rattle.event_log.specs.declared.object.SeqObject.{Ghosts}
use Rattle.word_rule.specs.{declared.pass.Pass.Pass, CallerState.CallerState, Passes.view_of_pass, Polls.is_idle}
use Rattle.mcs_lock.specs.declared.rested.Rested.{Rested}
use Rattle.guarded_cell.specs.{declared.cell.AnyCell.AnyCell, declared.any_caller.AnyCaller.AnyCaller, AnyCallers.{IsCallerOf, idle_caller, state_of_caller}, Kinds.IsPassOf}
use Rattle.cell_callers.specs.{Callers.IsOne, declared.caller.Caller.Caller, Places.{HasWoken, cpu_of, idle_cpu, in_line, place_of, stands_at}}
use Rattle.guarded_cell.specs.declared.cell.AnyCell.TheVariants as cells

module _ {O P C R : Type 0} where
  -- the CPU that shows for a caller in that state
  abbrev pub shown : CallerState O P C R → Option ℕ
  shown b = if is_idle b then Some b.caller.acting else None

pub shown_some : (idle : Bool) (n m : ℕ) → Some m ≡ (if idle then Some n else None) → n ≡ m
shown_some true n m e = cc
shown_some false n m e = absurd (cc)

pub shown_none : (idle : Bool) (n : ℕ) → None ≡ (if idle then Some n else None) → idle ≡ false
shown_none true n e = absurd (cc)
shown_none false n e = refl

module _ {O P C R : Type 0} {g : Ghosts O P C R} {call_eq : Eq C} {call_default : Default C} {reply_eq : Eq R} {reply_default : Default R} where
  -- the caller in a place with these parts; the pass of an idle one is of the same CPUs
  pub record Stands (cell : AnyCell O P C R) (pass : Option (Pass O P C R g call_eq call_default reply_eq reply_default)) (rested : Option (Rested O P C R g call_eq call_default reply_eq reply_default)) (line : Option (AnyCaller O P C R g call_eq call_default reply_eq reply_default)) : Type 0 where
    pub caller : AnyCaller O P C R g call_eq call_default reply_eq reply_default
    pub is : stands_at cell pass rested line ≡ Some caller
    pub cpu : cpu_of pass rested ≡ shown (state_of_caller caller)
    pub woken : IsSome (cpu_of pass rested) → (q : Pass O P C R g call_eq call_default reply_eq reply_default) → HasWoken g caller q → (view_of_pass q).caller ≡ (state_of_caller caller).caller

  in_line_stands : (cell : AnyCell O P C R) (c : AnyCaller O P C R g call_eq call_default reply_eq reply_default) (idle : Bool) → is_idle (state_of_caller c) ≡ idle → IsSome (in_line idle c) → Stands cell None None (Some c)
  in_line_stands cell c true e some = absurd (cc)
  in_line_stands cell c false e some = record { caller = c; is = ap (λ z. in_line z c) e; cpu = sym (ap (λ z. if z then Some (state_of_caller c).caller.acting else None) e); woken = λ none. absurd (cc) }

  pub stands : (cell : AnyCell O P C R) (pass : Option (Pass O P C R g call_eq call_default reply_eq reply_default)) (rested : Option (Rested O P C R g call_eq call_default reply_eq reply_default)) (line : Option (AnyCaller O P C R g call_eq call_default reply_eq reply_default))
      → IsSome (stands_at cell pass rested line) → Stands cell pass rested line
  stands (cells.Ticket c) (Some p) None None some = record { caller = idle_caller (cells.Ticket c) p; is = refl; cpu = refl; woken = λ s q w. ap (λ z. (view_of_pass z).caller) w }
  stands (cells.Mcs c) (Some p) None None some = record { caller = idle_caller (cells.Mcs c) p; is = refl; cpu = refl; woken = λ s q w. ap (λ z. (view_of_pass z).caller) w }
  stands cell None (Some r) None some = record { caller = _; is = refl; cpu = refl; woken = λ s q w. w.caller }
  stands cell None None (Some c) some = in_line_stands cell c (is_idle (state_of_caller c)) refl some
  stands cell None None None some = absurd (cc)
  stands cell (Some p) (Some r) line some = absurd (cc)
  stands cell (Some p) None (Some c) some = absurd (cc)
  stands cell None (Some r) (Some c) some = absurd (cc)

  -- the idle caller with a pass of the cell
  pub idle_of : (cell : AnyCell O P C R) (p : Pass O P C R g call_eq call_default reply_eq reply_default) → IsPassOf cell p → IsCallerOf cell (idle_caller cell p)
  idle_of (cells.Ticket c) p of = of
  idle_of (cells.Mcs c) p of = of

  pub idle_one : (cell : AnyCell O P C R) (p : Pass O P C R g call_eq call_default reply_eq reply_default) → IsOne (view_of_pass p).caller → IsOne (state_of_caller (idle_caller cell p)).caller
  idle_one (cells.Ticket c) p one = one
  idle_one (cells.Mcs c) p one = one

  -- the pass that an idle caller becomes is of the CPU that shows, and of no other
  pub wakes : (at : Caller O P C R g call_eq call_default reply_eq reply_default) (cell : AnyCell O P C R) (cpu : ℕ) (q : Pass O P C R g call_eq call_default reply_eq reply_default) → cell ≡ arc_value at.cell → IfSome (place_of cell at.place) (λ c. HasWoken g c q)
      → idle_cpu at.place ≡ Some cpu → (c : AnyCaller O P C R g call_eq call_default reply_eq reply_default) × (place_of (arc_value at.cell) at.place ≡ Some c) × HasWoken g c q × ((view_of_pass q).caller.acting ≡ cpu) × IsOne (view_of_pass q).caller
  wakes at cell cpu q of woken shows =
      let s = stands (arc_value at.cell) at.place.pass at.place.rested at.place.line at.there in
      let was = subst (λ o. IfSome o (λ c. HasWoken g c q)) s.is (subst (λ z. IfSome (place_of z at.place) (λ c. HasWoken g c q)) of woken) in
      let same = s.woken (ap is_some shows) q was in
      (s.caller, s.is, was, ap (λ z. z.acting) same ∙ shown_some (is_idle (state_of_caller s.caller)) _ cpu (sym shows ∙ s.cpu), subst IsOne (sym same) (subst (λ o. IfSome o (λ c. IsOne (state_of_caller c).caller)) s.is at.one))
