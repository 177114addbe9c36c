-- What the logs of a record are judged by.
use Rattle.std.proofs.Common.{◌≡◌, ℕ, zero, suc, List, [], ◌∷◌, length, drop, Some, slice_get, refl, sym, ap, ◌∙◌}
use Rattle.std.specs.Prelude.{slice_index}
use Rattle.auditor.specs.Terms.{opened_list}
use Rattle.custom_records.specs.Settings.{CustomSettings, CustomHead}
use Rattle.judge.specs.{Judging.{CustomTerms, term_of, custom_terms}, Models.opened}

pub terms_count : (counts : List ℕ) (objects : List CustomSettings) → length (custom_terms counts objects) ≡ length objects
terms_count counts [] = refl
terms_count counts (o ∷ objects) = ap suc (terms_count (drop 1 counts) objects)

count_next : (counts : List ℕ) (x : ℕ) → slice_index (drop 1 counts) x ≡ slice_index counts (suc x)
count_next [] x = refl
count_next (n ∷ counts) x = refl

-- an object's terms at its place
pub term_at : (counts : List ℕ) (objects : List CustomSettings) (x : ℕ) (o : CustomSettings) → slice_get objects x ≡ Some o → slice_get (custom_terms counts objects) x ≡ Some (term_of o (slice_index counts x))
term_at counts [] x o e = cc
term_at counts (u ∷ objects) zero o e = let same : u ≡ o = cc in ap (λ (v : CustomSettings). Some (term_of v (slice_index counts 0))) same
term_at counts (u ∷ objects) (suc x) o e = term_at (drop 1 counts) objects x o e ∙ ap (λ n. Some (term_of o n)) (count_next counts x)

-- the object whose terms they are
pub object_of : (counts : List ℕ) (objects : List CustomSettings) (x : ℕ) (t : CustomTerms) → slice_get (custom_terms counts objects) x ≡ Some t → (o : CustomSettings) × (slice_get objects x ≡ Some o) × (term_of o (slice_index counts x) ≡ t)
object_of counts [] x t e = cc
object_of counts (u ∷ objects) zero t e = (u, refl, let same : term_of u (slice_index counts 0) ≡ t = cc in same)
object_of counts (u ∷ objects) (suc x) t e = let h = object_of (drop 1 counts) objects x t e in (h.0, h.1, ap (term_of h.0) (sym (count_next counts x)) ∙ h.2)

-- without the counts they are what the objects are judged by beside a model
pub same_opened : (counts : List ℕ) (head : CustomHead) → opened_list (custom_terms counts head.objects) ≡ opened head
same_opened counts head = by counts head.objects
  where
    by : (ns : List ℕ) (os : List CustomSettings) → opened_list (custom_terms ns os) ≡ opened (record { cpus = 0; objects = os; refusing = [] })
    by ns [] = refl
    by ns (o ∷ os) = ap (λ l. record { params = tt; limit = o.events } ∷ l) (by (drop 1 ns) os)
