-- The ends of a line: who is first, who is behind the first, who is last.
use Rattle.std.proofs.{Common.{◌≡◌, ◌≢◌, ℕ, zero, suc, ◌<◌, true, eq-eqb, List, [], ◌∷◌, ◌++◌, length, false, refl, sym, ap, ◌∙◌, arith, Some, None}, lemmas.Bool.false_from_ne_true}
use mathlib.Core.Option.{some, some-injective, some-ne-none}
use lib.ListN.{get_elem?}
use Rattle.event_log.specs.Distinct.{has}
use Rattle.word_rule.specs.{Line.{is_named, last, last_from}, LockDefinition.{IsState, LockDefinition, LockState}}
use Rattle.word_rule.proofs.{Lists.{has_at, one_place, there_is}, LockStates.in_cell}

-- the last is at the end
pub last_at : (xs : List ℕ) (p : ℕ) → last xs ≡ Some p → (i : ℕ) × (get_elem? xs i ≡ some p) × (length xs ≡ suc i)
last_at [] p e = cc
last_at (x ∷ xs) p e = go x xs (let f : last_from x xs ≡ p = cc in f)
  where
    go : (x : ℕ) (xs : List ℕ) → last_from x xs ≡ p → (i : ℕ) × (get_elem? (x ∷ xs) i ≡ some p) × (length (x ∷ xs) ≡ suc i)
    go x [] e = (0, ap some e, refl)
    go x (y ∷ ys) e = let t = go y ys e in (suc t.0, t.1, ap suc t.2)

pub at_end : (xs : List ℕ) (i p : ℕ) → get_elem? xs i ≡ some p → length xs ≡ suc i → last xs ≡ Some p
at_end [] i p e long = absurd (some-ne-none p (sym e))
at_end (x ∷ xs) i p e long = ap Some (go x xs i e long)
  where
    go : (x : ℕ) (xs : List ℕ) (i : ℕ) → get_elem? (x ∷ xs) i ≡ some p → length (x ∷ xs) ≡ suc i → last_from x xs ≡ p
    go x [] zero e long = some-injective x p e
    go x [] (suc i) e long = absurd (some-ne-none p (sym e))
    go x (y ∷ ys) zero e long = absurd (omega arith)
    go x (y ∷ ys) (suc i) e long = go y ys i e (omega arith)

pub last_push : (xs : List ℕ) (p : ℕ) → last (xs ++ p ∷ []) ≡ Some p
last_push [] p = refl
last_push (x ∷ xs) p = ap Some (go x xs)
  where
    go : (x : ℕ) (xs : List ℕ) → last_from x (xs ++ p ∷ []) ≡ p
    go x [] = refl
    go x (y ∷ ys) = go y ys

pub no_last : (xs : List ℕ) → last xs ≡ None → xs ≡ []
no_last [] e = refl
no_last (x ∷ xs) e = cc

-- the one that is named is named
pub names_itself : (i : ℕ) → is_named i (Some i) ≡ true
names_itself i = eq-eqb i i refl

module _ (d : LockDefinition) (n : ℕ) (l : LockState d.Extra) (h : IsState d n l) where
  -- the second isn't the first
  pub not_both : (p j : ℕ) → get_elem? l.line.cpus 0 ≡ some p → get_elem? l.line.cpus 1 ≡ some j → j ≢ p
  not_both p j first second e = let k = one_place n l.line.cpus h.distinct 0 1 p first (second ∙ ap some e) in absurd (omega arith)

  -- there is one behind p, the first
  pub another : (p : ℕ) → get_elem? l.line.cpus 0 ≡ some p → 1 < length l.line.cpus → (j : ℕ) × (get_elem? l.line.cpus 1 ≡ some j) × (j ≢ p)
  another p first long = let t = there_is l.line.cpus 1 long in (t.0, t.1, not_both p t.0 first t.1)

  -- the one that is last is in line
  pub last_in : (p : ℕ) → last l.line.cpus ≡ Some p → (has p l.line.cpus ≡ true) × (p < n)
  last_in p e = let t = last_at l.line.cpus p e in (has_at l.line.cpus t.0 p t.1, in_cell d n l h t.0 p t.1)

  -- where nobody is last, the object is at home
  pub nobody_home : last l.line.cpus ≡ None → l.line.out ≡ false
  nobody_home none = false_from_ne_true l.line.out (λ o. let some_one = h.busy o in let long : length l.line.cpus ≡ 0 = ap length (no_last l.line.cpus none) in absurd (omega arith))
