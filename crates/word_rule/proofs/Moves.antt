-- One CPU stands elsewhere, and the others where they stood.
use Rattle.std.proofs.Common.{◌≡◌, ◌≢◌, ℕ, ◌<◌, ◌==◌, Bool, true, false, cond, List, [], ◌∷◌, eq-eqb, ne_eqb, refl, sym, ap, ◌∙◌, subst}
use mathlib.Core.Logic.{dite}
use native.Mathlib.Decide.{ℕ_discrete}
use Rattle.word_rule.specs.{declared.lock_kind.Stage.Stage, Line.{is_empty, moved}}

module _ (stage : ℕ → Stage) where
  pub moved_same : (p : ℕ) (q : Stage) → moved stage p q p ≡ q
  moved_same p q = let Q : Bool → Type 0 = λ t. cond t q (stage p) ≡ q in subst Q (sym (eq-eqb p p refl)) refl

  pub moved_else : (p : ℕ) (q : Stage) (x : ℕ) → x ≢ p → moved stage p q x ≡ stage x
  moved_else p q x n = let Q : Bool → Type 0 = λ t. cond t q (stage x) ≡ stage x in subst Q (sym (ne_eqb x p n)) refl

  -- p stands where it stood
  pub stays_put : (p : ℕ) (q : Stage) → stage p ≡ q → stage ≡ moved stage p q
  stays_put p q is k x = at x k
    where
      at : (x : ℕ) → stage x ≡ moved stage p q x
      at x = dite (ℕ_discrete x p) (λ same. ap stage same ∙ (is ∙ sym (ap (λ b. cond b q (stage x)) (eq-eqb x p same)))) (λ ne. sym (moved_else p q x ne))

  -- what holds of p at its new place, and of the others where they stood, holds of each number below n
  pub each_moved : (At : ℕ → Stage → Type 0) (n p : ℕ) (q : Stage) → At p q → ((x : ℕ) → x < n → x ≢ p → At x (stage x)) → (x : ℕ) → x < n → At x (moved stage p q x)
  each_moved At n p q mine others x below = dite (ℕ_discrete x p)
      (λ is. subst (λ (y : ℕ). At y (moved stage p q y)) (sym is) (subst (At p) (sym (moved_same p q)) mine))
      (λ ne. subst (At x) (sym (moved_else p q x ne)) (others x below ne))

-- of two moves of one CPU the second counts
pub moved_twice : (stage : ℕ → Stage) (i : ℕ) (p q : Stage) → moved (moved stage i p) i q ≡ moved stage i q
moved_twice stage i p q k x = by (x == i) k
  where
    by : (b : Bool) → cond b q (cond b p (stage x)) ≡ cond b q (stage x)
    by true = refl
    by false = refl

pub not_empty : (cpus : List ℕ) → cpus ≢ [] → is_empty cpus ≡ false
not_empty [] some_one = absurd (some_one refl)
not_empty (x ∷ xs) some_one = refl
