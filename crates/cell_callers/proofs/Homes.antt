-- The passes of a cell that C has opened: which CPUs they own.
use Rattle.std.proofs.{Common.{◌≡◌, ℕ, ◌+◌, ◌<◌, ◌==◌, ◌||◌, true, List, [], ◌∷◌, ◌++◌, length, refl, sym, ap, subst, ◌∙◌, arith, Some, None}, lemmas.Bool.{eq-eqb, or_right, or_left}}
use Rattle.std.specs.{declared.cmp.PartialEq.{Ghosts as Eq}, declared.default.Default.{Ghosts as Default}}
use mathlib.Core.Logic.{dite}
use native.Mathlib.Decide.{ℕ_discrete}
use Rattle.event_log.specs.{declared.object.SeqObject.Ghosts, History.History}
use Rattle.event_log.proofs.Lists.{some_at, get_front, get_last}
use Rattle.sound_run.specs.declared.lock_kind.LockKind.{LockKind}
use Rattle.word_rule.specs.{declared.pass.Pass.Pass, Cell.{EachAt, OwnsAll, first_pass}, Passes.view_of_pass}
use Rattle.guarded_cell.specs.{declared.cell.AnyCell.AnyCell, Kinds.{IsPassOf, fixed_of}}
use Rattle.guarded_cell.proofs.JoinedPasses.{reported_of}
use Rattle.cell_callers.specs.{OpenCells.{IsHome, AreHome, OwnsFirst, IsBack}}

module _ {O P C R : Type 0} {g : Ghosts O P C R} {call_eq : Eq C} {call_default : Default C} {reply_eq : Eq R} {reply_default : Default R} where
  -- all passes but the last, and the last
  pub front_home : (cell : AnyCell O P C R) (ps : List (Pass O P C R g call_eq call_default reply_eq reply_default)) (p : Pass O P C R g call_eq call_default reply_eq reply_default) → AreHome cell (ps ++ p ∷ []) → AreHome cell ps
  front_home cell ps p homes k x there = homes k x (get_front ps (p ∷ []) k x there)

  pub last_home : (cell : AnyCell O P C R) (ps : List (Pass O P C R g call_eq call_default reply_eq reply_default)) (p : Pass O P C R g call_eq call_default reply_eq reply_default) → AreHome cell (ps ++ p ∷ []) → IsHome cell (length ps) p
  last_home cell ps p homes = homes (length ps) p (get_last ps p)

  -- no pass was returned yet, or those that were returned are one pass
  pub none_back : (cell : AnyCell O P C R) → IsBack {g = g} {call_eq = call_eq} {call_default = call_default} {reply_eq = reply_eq} {reply_default = reply_default} cell 0 None
  none_back cell = ((λ p e. cc), (λ e. refl))

  pub one_back : (cell : AnyCell O P C R) (n : ℕ) (h : Pass O P C R g call_eq call_default reply_eq reply_default) → OwnsFirst cell n h → IsBack cell n (Some h)
  one_back cell n h first = ((λ p e. let same : h ≡ p = cc in subst (OwnsFirst cell n) same first), (λ e. cc))

  -- the first CPU's pass is returned
  pub first_back : (cell : AnyCell O P C R) (n : ℕ) (p : Pass O P C R g call_eq call_default reply_eq reply_default) → IsHome cell n p → n ≡ 0 → OwnsFirst cell (n + 1) p
  first_back cell n p home none = record {
    of = home.of;
    owned = λ k below. let number = home.number in home.one.each k ∙ eq-eqb k (view_of_pass p).caller.acting (omega (arith, below, number, none));
  }

  -- the next CPU's pass is returned, and joined with those before it
  pub next_back : (cell : AnyCell O P C R) (n : ℕ) (a p j : Pass O P C R g call_eq call_default reply_eq reply_default) → OwnsFirst cell n a → IsHome cell n p → IsPassOf cell j
      → ((k : ℕ) → (view_of_pass j).caller.owned k ≡ ((view_of_pass a).caller.owned k || (view_of_pass p).caller.owned k)) → OwnsFirst cell (n + 1) j
  next_back cell n a p j first home of owned = record { of = of; owned = each }
    where
      each : (k : ℕ) → k < n + 1 → (view_of_pass j).caller.owned k ≡ true
      each k below = dite (ℕ_discrete k n)
          (λ e. let number = home.number in owned k ∙ or_right ((view_of_pass a).caller.owned k) ((view_of_pass p).caller.owned k) (home.one.each k ∙ eq-eqb k (view_of_pass p).caller.acting (omega (arith, e, number))))
          (λ ne. owned k ∙ or_left ((view_of_pass a).caller.owned k) ((view_of_pass p).caller.owned k) (first.owned k (omega (arith, below, ne))))

  -- the owner of the first CPUs owns all CPUs if there are no others
  pub owns_all : (cell : AnyCell O P C R) (n : ℕ) (p : Pass O P C R g call_eq call_default reply_eq reply_default) → OwnsFirst cell n p → ((k : ℕ) → k < (fixed_of cell).numbers → k < n) → OwnsAll (view_of_pass p).caller
  owns_all cell n p first all = record { each = λ k below. first.owned k (all k (subst (λ h. k < h.numbers) (reported_of cell p first.of) below)) }

  -- the passes of a new cell
  module _ (kind : LockKind) (logged : History O P C R) (cpus : ℕ) (cell : AnyCell O P C R) (ps : List (Pass O P C R g call_eq call_default reply_eq reply_default))
      (new : EachAt (λ k p. IsPassOf cell p × (view_of_pass p ≡ first_pass kind 0 logged cpus k)) ps) where
    pub new_home : AreHome cell ps
    new_home k p there =
        let is = (new k p there).1 in
        record { of = (new k p there).0; number = ap (λ v. v.caller.acting) is; one = record { each = λ j. ap (λ v. v.caller.owned j) is ∙ sym (ap (λ v. j == v.caller.acting) is) } }

    pub new_numbers : 0 < length ps → (fixed_of cell).numbers ≡ cpus
    new_numbers some =
        let one = some_at ps 0 some in
        let is = new 0 one.0 one.1 in
        sym (ap (λ h. h.numbers) (reported_of cell one.0 is.0)) ∙ ap (λ v. v.caller.cell.numbers) is.1
