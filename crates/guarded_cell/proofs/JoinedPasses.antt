-- The passes of a cell that nobody has called, joined.
use Rattle.std.proofs.{Common.{◌≡◌, ℕ, ◌<◌, ◌||◌, true, List, [], ◌∷◌, ◌++◌, length, refl, sym, ap, subst, ◌∙◌, arith, slice_get, Some, inl, inr}, lemmas.Bool.{eq-eqb, or_right, or_left, or_cases}}
use Rattle.std.specs.{declared.cmp.PartialEq.{Ghosts as Eq}, declared.default.Default.{Ghosts as Default}}
use mathlib.Core.Logic.{dite}
use native.Mathlib.Decide.{dec_lt}
use Rattle.event_log.specs.{declared.object.SeqObject.Ghosts, Log.of, History.{History, IsKept}}
use Rattle.event_log.proofs.Lists.{some_at, get_push, get_front, get_last}
use Rattle.sound_run.specs.declared.lock_kind.LockKind.{LockKind}
use Rattle.word_rule.specs.{declared.pass.Pass.Pass, Cell.{EachAt, Grows, OwnsAll, cell_of, first_pass, stored}, Passes.view_of_pass}
use Rattle.word_rule.proofs.Lists.{same_log, of_opening}
use Rattle.guarded_cell.specs.{declared.cell.AnyCell.AnyCell, Kinds.{IsPassOf, fixed_of}, Unused.{IsUnused, Covers}}
use Rattle.guarded_cell.specs.declared.cell.AnyCell.TheVariants as cells

-- if all items of a list have something, so have all but the last, and the last
pub front_each : {A : Type 0} (Q : A → Type 0) (ps xs : List A) (x : A) → ps ≡ xs ++ x ∷ [] → EachAt (λ _ p. Q p) ps → EachAt (λ _ p. Q p) xs
front_each Q ps xs x split each k y there = each k y (ap (λ l. slice_get l k) split ∙ get_front xs (x ∷ []) k y there)

pub last_each : {A : Type 0} (Q : A → Type 0) (ps xs : List A) (x : A) → ps ≡ xs ++ x ∷ [] → EachAt (λ _ p. Q p) ps → Q x
last_each Q ps xs x split each = each (length xs) x (ap (λ l. slice_get l (length xs)) split ∙ get_last xs x)

module _ {O P C R : Type 0} {g : Ghosts O P C R} {call_eq : Eq C} {call_default : Default C} {reply_eq : Eq R} {reply_default : Default R} where
  -- a pass has received the key that its cell has received
  pub reported_of : (cell : AnyCell O P C R) (p : Pass O P C R g call_eq call_default reply_eq reply_default) → IsPassOf cell p → p.outside.key.value ≡ fixed_of cell
  reported_of (cells.Ticket c) p is = is.reported
  reported_of (cells.Mcs c) p is = is.reported

  -- two passes whose CPUs have done nothing, joined
  pub joined_unused : (cell : AnyCell O P C R) (a b j : Pass O P C R g call_eq call_default reply_eq reply_default) → IsUnused cell a → IsUnused cell b → IsPassOf cell j
      → ((k : ℕ) → (view_of_pass j).caller.owned k ≡ ((view_of_pass a).caller.owned k || (view_of_pass b).caller.owned k))
      → Grows (view_of_pass a).caller.owned (view_of_pass a).seen (view_of_pass j).seen → Grows (view_of_pass b).caller.owned (view_of_pass b).seen (view_of_pass j).seen → IsUnused cell j
  joined_unused cell a b j ua ub of_cell owned ga gb = record {
    pass = of_cell;
    none = λ k mine. elim (or_cases ((view_of_pass a).caller.owned k) ((view_of_pass b).caller.owned k) (sym (owned k) ∙ mine)) [ inl e ↦ ga.own k e ∙ ua.none k e | inr e ↦ gb.own k e ∙ ub.none k e ];
  }

  pub covers_first : (a b j : Pass O P C R g call_eq call_default reply_eq reply_default) → ((k : ℕ) → (view_of_pass j).caller.owned k ≡ ((view_of_pass a).caller.owned k || (view_of_pass b).caller.owned k)) → Covers a j
  covers_first a b j owned k e = owned k ∙ or_left ((view_of_pass a).caller.owned k) ((view_of_pass b).caller.owned k) e

  pub covers_second : (a b j : Pass O P C R g call_eq call_default reply_eq reply_default) → ((k : ℕ) → (view_of_pass j).caller.owned k ≡ ((view_of_pass a).caller.owned k || (view_of_pass b).caller.owned k)) → Covers b j
  covers_second a b j owned k e = owned k ∙ or_right ((view_of_pass a).caller.owned k) ((view_of_pass b).caller.owned k) e

  -- the passes so far, and one more, are covered by the pass that is joined of both
  pub covers_more : (ps : List (Pass O P C R g call_eq call_default reply_eq reply_default)) (a b j : Pass O P C R g call_eq call_default reply_eq reply_default) → ((k : ℕ) → (view_of_pass j).caller.owned k ≡ ((view_of_pass a).caller.owned k || (view_of_pass b).caller.owned k))
      → EachAt (λ _ p. Covers p a) ps → EachAt (λ _ p. Covers p j) (ps ++ b ∷ [])
  covers_more ps a b j owned each k x there = elim (get_push ps b k x there) [ inl e ↦ λ n o. covers_first a b j owned n (each k x e n o) | inr e ↦ subst (λ p. Covers p j) e.1 (covers_second a b j owned) ]

  -- a pass that covers all of them owns each CPU
  pub owns_each : (cell : AnyCell O P C R) (ps rest : List (Pass O P C R g call_eq call_default reply_eq reply_default)) (last whole : Pass O P C R g call_eq call_default reply_eq reply_default) → ps ≡ rest ++ last ∷ [] → IsPassOf cell whole → (fixed_of cell).numbers ≡ length ps
      → EachAt (λ k p. (view_of_pass p).caller.owned k ≡ true) ps → Covers last whole → EachAt (λ _ p. Covers p whole) rest → OwnsAll (view_of_pass whole).caller
  owns_each cell ps rest last whole split is count each first others = record { each = mine }
    where
      mine : (k : ℕ) → k < (view_of_pass whole).caller.cell.numbers → (view_of_pass whole).caller.owned k ≡ true
      mine k below =
          let under : k < length ps = subst (λ n. k < n) count (subst (λ h. k < h.numbers) (reported_of cell whole is) below) in
          let one = some_at ps k under in
          let its = each k one.0 one.1 in
          let covered : Covers one.0 whole = elim (get_push rest last k one.0 (subst (λ l. slice_get l k ≡ Some one.0) split one.1)) [ inl e ↦ others k one.0 e | inr e ↦ subst (λ p. Covers p whole) e.1 first ] in
          covered k its

  -- what a pass of all CPUs has seen, if they have done nothing
  pub nothing_seen : (cell : AnyCell O P C R) (p : Pass O P C R g call_eq call_default reply_eq reply_default) → IsUnused cell p → OwnsAll (view_of_pass p).caller → (view_of_pass p).seen ≡ (fixed_of cell).opening
  nothing_seen cell p unused all =
      let reported = reported_of cell p unused.pass in
      let view = p.idle.pass_view in
      let valid = view.valid in
      let opening : (view_of_pass p).caller.cell.opening ≡ (fixed_of cell).opening = ap (λ h. h.opening) reported in
      same_log (view_of_pass p).caller.cell.opening (view_of_pass p).seen valid.begins
      (λ z. dite (dec_lt z (view_of_pass p).caller.cell.numbers)
      (λ below. unused.none z (all.each z below) ∙ sym (ap (λ l. of z l) opening))
      (λ not. of_opening z (view_of_pass p).caller.cell.numbers (view_of_pass p).seen (view_of_pass p).caller.cell.opening (omega (arith, not)) valid.begins valid.numbered)) ∙ opening

  -- what is left of a cell that nobody has called
  pub left_unused : (cell : AnyCell O P C R) (p : Pass O P C R g call_eq call_default reply_eq reply_default) → IsUnused cell p → OwnsAll (view_of_pass p).caller → stored g (view_of_pass p).caller.cell (view_of_pass p).seen ≡ stored g (fixed_of cell) (fixed_of cell).opening
  left_unused cell p unused all = ap (λ h. stored g h (view_of_pass p).seen) (reported_of cell p unused.pass) ∙ ap (λ l. stored g (fixed_of cell) l) (nothing_seen cell p unused all)

  -- the passes of a new cell
  module _ (kind : LockKind) (logged : History O P C R) (cpus : ℕ) (cell : AnyCell O P C R) (ps : List (Pass O P C R g call_eq call_default reply_eq reply_default))
      (new : EachAt (λ k p. IsPassOf cell p × (view_of_pass p ≡ first_pass kind 0 logged cpus k)) ps) where
    pub new_unused : EachAt (λ _ p. IsUnused cell p) ps
    new_unused k p there =
        let is = new k p there in
        let fixed : fixed_of cell ≡ cell_of kind 0 cpus logged = sym (reported_of cell p is.0) ∙ ap (λ v. v.caller.cell) is.1 in
        record { pass = is.0; none = λ j mine. ap (λ v. of j v.seen) is.1 ∙ sym (ap (λ h. of j h.opening) fixed) }

    pub new_each : EachAt (λ k p. (view_of_pass p).caller.owned k ≡ true) ps
    new_each k p there = ap (λ v. v.caller.owned k) (new k p there).1 ∙ eq-eqb k k refl

    pub new_left : 0 < length ps → IsKept g logged → stored g (fixed_of cell) (fixed_of cell).opening ≡ logged
    new_left some kept =
        let one = some_at ps 0 some in
        let is = new 0 one.0 one.1 in
        let fixed : fixed_of cell ≡ cell_of kind 0 cpus logged = sym (reported_of cell one.0 is.0) ∙ ap (λ v. v.caller.cell) is.1 in
        ap (λ h. stored g h h.opening) fixed ∙ ap (λ s. record logged { state = s }) (sym kept.replayed)
