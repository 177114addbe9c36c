-- What is read of a source, piece by piece.
use Rattle.std.proofs.{Common.{◌≡◌, ℕ, List, [], ◌++◌, take, append_assoc, Option, Some, None, refl, sym, ◌∙◌, ap, Result, Ok, Err, ◌+◌, ◌≤◌, length, length-append, arith}, lemmas.List.length-take-le}
use Rattle.std.specs.{Io.KnownBytes.Consumes, Result.OnOk}
use Rattle.record_lines.specs.Sources.{IsRest, ReadsAtMost}

-- known bytes that were consumed in two steps
pub consumes_then : (a b c : Option (List ℕ)) (s t : List ℕ) → Consumes a b s → Consumes b c t → Consumes a c (s ++ t)
consumes_then None b c s t p q = tt
consumes_then (Some xs) None c s t p q = absurd p
consumes_then (Some xs) (Some ys) None s t p q = absurd q
consumes_then (Some xs) (Some ys) (Some zs) s t p q = p ∙ (ap (λ l. s ++ l) q ∙ sym (append_assoc s t zs))

pub consumes_none : (a : Option (List ℕ)) → Consumes a a []
consumes_none None = tt
consumes_none (Some xs) = refl

-- what is so whatever follows is so of the rest of the source
pub of_rest : (P : List ℕ → Type 0) (a b : Option (List ℕ)) (seen : List ℕ) → Consumes a b seen → ((more : List ℕ) → P (seen ++ more)) → (text : List ℕ) × IsRest a text × P text
of_rest P None b seen c h = (seen ++ [], (λ all e. absurd cc), h [])
of_rest P (Some xs) None seen c h = absurd c
of_rest P (Some xs) (Some ys) seen c h = (seen ++ ys, (λ all e. let same : xs ≡ all = cc in sym c ∙ same), h ys)

-- what follows from one fact of a result, or from two
pub on_ok : {A E P Q : Type 0} (r : Result A E) → OnOk r P → (P → Q) → OnOk r Q
on_ok (Ok x) p f = f p
on_ok (Err e) p f = tt

pub on_both : {A E P Q R : Type 0} (r : Result A E) → OnOk r P → OnOk r Q → (P → Q → R) → OnOk r R
on_both (Ok x) p q f = f p q
on_both (Err e) p q f = tt

-- a read more
pub read_after : (most count : ℕ) (a b c : Option (List ℕ)) (bytes front : List ℕ) → Consumes a b bytes → Consumes b c (take count front) → count ≤ length front → length bytes + count ≤ most → ReadsAtMost most a c
read_after most count a b c bytes front p q within few = (bytes ++ take count front, consumes_then a b c bytes (take count front) p q, omega (arith, few, within, length-append bytes (take count front), length-take-le count front within))
