-- What is lent of a list at a place.
use Rattle.std.proofs.{Common.{◌≡◌, ℕ, zero, suc, ◌≤◌, List, [], ◌∷◌, length, slice_get, Option, Some, None, Bor, sym, ap, ◌∙◌, arith}, lemmas.Option.slice_get_past}
use Rattle.std.specs.{Prelude.unwrap_or, List.ItemBy, Option.option_copied}
use Rattle.sound_run.proofs.Slices.{read_get}

-- what is lent stands there
pub lent_at : {E : Type 0} (xs : List E) (i : ℕ) (r : Option (Bor E)) → ItemBy (λ (x : Bor E). x.now) xs i i r → option_copied r ≡ slice_get xs i
lent_at xs i None h = sym (slice_get_past xs i h.3)
lent_at xs i (Some b) h = sym (read_get xs i b.now h.3.0 h.1)

-- so does an element of a list of lists
pub lent_within : {E : Type 0} (lists : List (List E)) (x i : ℕ) (list : List E) (r : Option (Bor E)) → Some list ≡ slice_get lists x → ItemBy (λ (x : Bor E). x.now) list i i r
    → option_copied r ≡ slice_get (unwrap_or (slice_get lists x) []) i
lent_within lists x i list r there h = lent_at list i r h ∙ ap (λ o. slice_get (unwrap_or o []) i) there

-- where nothing stands, the list has ended
pub ended : {E : Type 0} (xs : List E) (i : ℕ) → slice_get xs i ≡ None → length xs ≤ i
ended [] i e = omega arith
ended (x ∷ xs) zero e = cc
ended (x ∷ xs) (suc i) e = let t = ended xs i e in omega (arith, t)
