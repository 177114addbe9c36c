-- What holds of each element of a list.
use Rattle.std.proofs.Common.{◌≡◌, ℕ, zero, suc, List, [], ◌∷◌, ◌++◌, Some, slice_get, subst}
use Rattle.std.specs.{Prelude.unwrap_or, List.AllByRecursion}

module _ {X : Type 0} where
  -- what follows from it holds of each too
  pub all_map : {Q S : X → Type 0} → ((x : X) → Q x → S x) → (xs : List X) → AllByRecursion Q xs → AllByRecursion S xs
  all_map f [] h = tt
  all_map f (x ∷ xs) h = (f x h.0, all_map f xs h.1)

  -- what follows from two facts
  pub all_both : {Q S T : X → Type 0} → ((x : X) → Q x × S x → T x) → (xs : List X) → AllByRecursion Q xs → AllByRecursion S xs → AllByRecursion T xs
  all_both f [] h k = tt
  all_both f (x ∷ xs) h k = (f x (h.0, k.0), all_both f xs h.1 k.1)

  -- two lists, one behind the other
  pub all_append : (P : X → Type 0) (xs ys : List X) → AllByRecursion P xs → AllByRecursion P ys → AllByRecursion P (xs ++ ys)
  all_append P [] ys h k = k
  all_append P (x ∷ xs) ys h k = (h.0, all_append P xs ys h.1 k)

  -- one element more
  pub all_push : (P : X → Type 0) (xs : List X) (x : X) → AllByRecursion P xs → P x → AllByRecursion P (xs ++ x ∷ [])
  all_push P xs x h p = all_append P xs (x ∷ []) h (p, tt)

-- what holds of each element holds of the one at a place
pub each_at : {X : Type 0} (P : X → Type 0) (xs : List X) (i : ℕ) (x : X) → AllByRecursion P xs → slice_get xs i ≡ Some x → P x
each_at P [] i x all e = absurd cc
each_at P (y ∷ ys) zero x all e = let is : y ≡ x = cc in subst P is all.0
each_at P (y ∷ ys) (suc i) x all e = each_at P ys i x all.1 e

-- what holds of each list, and of none, holds of the list at a place
pub each_list_at : {X : Type 0} (Q : List X → Type 0) (lists : List (List X)) (i : ℕ) → AllByRecursion Q lists → Q [] → Q (unwrap_or (slice_get lists i) [])
each_list_at Q [] i all none = none
each_list_at Q (l ∷ lists) zero all none = all.0
each_list_at Q (l ∷ lists) (suc i) all none = each_list_at Q lists i all.1 none
