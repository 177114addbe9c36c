-- Lists that are related place by place.
use Rattle.std.proofs.Common.{◌≡◌, List, [], ◌∷◌, Result, Ok, Err, IfErr, sym, subst}
use Rattle.std.specs.{List.{AllByRecursion, AllZip}, Result.IsErrAnd}

pub zip_then : {X Y Z : Type 0} {P : X → Y → Type 0} {Q : Y → Z → Type 0} {S : X → Z → Type 0} → ((x : X) (y : Y) (z : Z) → P x y → Q y z → S x z) → (xs : List X) (ys : List Y) (zs : List Z) → AllZip P xs ys → AllZip Q ys zs → AllZip S xs zs
zip_then f [] [] [] p q = tt
zip_then f [] [] (z ∷ zs) p q = absurd q
zip_then f [] (y ∷ ys) zs p q = absurd p
zip_then f (x ∷ xs) [] zs p q = absurd p
zip_then f (x ∷ xs) (y ∷ ys) [] p q = absurd q
zip_then f (x ∷ xs) (y ∷ ys) (z ∷ zs) p q = (f x y z p.0 q.0, zip_then f xs ys zs p.1 q.1)

-- what follows of each right element
pub zip_right : {X Y : Type 0} {P : X → Y → Type 0} {Q : Y → Type 0} → ((x : X) (y : Y) → P x y → Q y) → (xs : List X) (ys : List Y) → AllZip P xs ys → AllByRecursion Q ys
zip_right f [] [] z = tt
zip_right f [] (y ∷ ys) z = absurd z
zip_right f (x ∷ xs) [] z = tt
zip_right f (x ∷ xs) (y ∷ ys) z = (f x y z.0, zip_right f xs ys z.1)

-- what is true of the error that came is true of the one that goes on
pub err_has : {X E : Type 0} (P : E → Type 0) (r : Result X E) (f : E) → IsErrAnd r (λ h. h ≡ f) → P f → IfErr r P
err_has P (Ok x) f is p = tt
err_has P (Err h) f is p = subst P (sym is) p
