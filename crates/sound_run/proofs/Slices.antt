-- Lists, read and written at a place.
use Rattle.std.proofs.{Common.{◌≡◌, ℕ, zero, suc, ◌<◌, List, [], ◌∷◌, length, map, get_or, slice_get, Option, Some, None, refl, sym, ap, ◌∙◌, arith}, Math.ListN.set}

module _ {X : Type 0} where
  pub get_set_same : (xs : List X) (j : ℕ) (x y : X) → slice_get xs j ≡ Some y → slice_get (set xs j x) j ≡ Some x
  get_set_same [] j x y e = cc
  get_set_same (z ∷ zs) zero x y e = refl
  get_set_same (z ∷ zs) (suc j) x y e = get_set_same zs j x y e

  pub get_set_other : (xs : List X) (j k : ℕ) (x : X) → (j ≡ k → ⊥) → slice_get (set xs j x) k ≡ slice_get xs k
  get_set_other [] j k x ne = refl
  get_set_other (z ∷ zs) zero zero x ne = absurd (ne refl)
  get_set_other (z ∷ zs) zero (suc k) x ne = refl
  get_set_other (z ∷ zs) (suc j) zero x ne = refl
  get_set_other (z ∷ zs) (suc j) (suc k) x ne = get_set_other zs j k x (λ e. ne (ap suc e))

  -- what is read at a place is there
  pub read_get : (xs : List X) (i : ℕ) (x : X) → i < length xs → x ≡ get_or xs i x → slice_get xs i ≡ Some x
  read_get [] i x lt e = absurd (omega arith)
  read_get (y ∷ ys) zero x lt e = ap (λ z. Some z) (sym e)
  read_get (y ∷ ys) (suc i) x lt e = read_get ys i x (omega arith) e

  pub one_of : (x y : X) (o : Option X) → o ≡ Some x → o ≡ Some y → x ≡ y
  one_of x y o e f = let g : Some x ≡ Some y = sym e ∙ f in cc

  -- reading a mapped list
  pub get_map : {Y : Type 0} (f : X → Y) (xs : List X) (i : ℕ) (y : Y) → slice_get (map f xs) i ≡ Some y → (x : X) × (slice_get xs i ≡ Some x) × (f x ≡ y)
  get_map f [] i y e = cc
  get_map f (x ∷ xs) zero y e = (x, refl, let g : f x ≡ y = cc in g)
  get_map f (x ∷ xs) (suc i) y e = get_map f xs i y e

  pub map_get : {Y : Type 0} (f : X → Y) (xs : List X) (i : ℕ) (x : X) → slice_get xs i ≡ Some x → slice_get (map f xs) i ≡ Some (f x)
  map_get f [] i x e = cc
  map_get f (y ∷ ys) zero x e = ap (λ z. Some (f z)) (let g : y ≡ x = cc in g)
  map_get f (y ∷ ys) (suc i) x e = map_get f ys i x e

  pub map_none : {Y : Type 0} (f : X → Y) (xs : List X) (i : ℕ) → slice_get xs i ≡ None → slice_get (map f xs) i ≡ None
  map_none f [] i e = refl
  map_none f (y ∷ ys) zero e = cc
  map_none f (y ∷ ys) (suc i) e = map_none f ys i e

-- a list of images stays where an element with the same image is written
pub map_set : {X Y : Type 0} (f : X → Y) (xs : List X) (i : ℕ) (x y : X) → slice_get xs i ≡ Some y → f x ≡ f y → map f (set xs i x) ≡ map f xs
map_set f [] i x y e g = refl
map_set f (z ∷ zs) zero x y e g = ap (λ k. k ∷ map f zs) (g ∙ ap f (sym (let s : z ≡ y = cc in s)))
map_set f (z ∷ zs) (suc i) x y e g = ap (λ l. f z ∷ l) (map_set f zs i x y e g)
