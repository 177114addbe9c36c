-- Calls of a batch, one after another.
use Rattle.std.proofs.Common.{◌≡◌, ℕ, zero, suc, ◌<◌, List, [], ◌∷◌, ◌∙◌, length, get_or, map, ap, refl, arith, Option, Some, None}
use Rattle.kernel_object.specs.declared.call.KCall.{KCall}
use Rattle.cell_callers.specs.{declared.call_numbers.Asked.Asked, Coding.called_of, BatchCodes.{with_call, calls_of}}

-- all of these calls exist
pub all_there : (xs : List Asked) (cs : List KCall) → map called_of xs ≡ map (λ c. Some c) cs → calls_of xs ≡ Some cs
all_there [] [] e = refl
all_there [] (c ∷ cs) e = cc
all_there (x ∷ xs) [] e = cc
all_there (x ∷ xs) (c ∷ cs) e =
    let first : called_of x ≡ Some c = cc in
    let others : map called_of xs ≡ map (λ c. Some c) cs = cc in
    ap (λ o. with_call o (calls_of xs)) first ∙ ap (λ r. with_call (Some c) r) (all_there xs cs others)

none_after : (o : Option KCall) → with_call o None ≡ None
none_after (Some c) = refl
none_after None = refl

-- one of these calls doesn't exist
pub one_lacks : (xs : List Asked) (k : ℕ) (d : Asked) → k < length xs → called_of (get_or xs k d) ≡ None → calls_of xs ≡ None
one_lacks [] k d lt none = absurd (omega arith)
one_lacks (x ∷ xs) zero d lt none = ap (λ o. with_call o (calls_of xs)) none
one_lacks (x ∷ xs) (suc k) d lt none = ap (λ r. with_call (called_of x) r) (one_lacks xs k d (omega arith) none) ∙ none_after (called_of x)
