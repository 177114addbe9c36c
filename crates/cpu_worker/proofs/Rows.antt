-- A CPU's passes of cells that are opened one after another.
use Rattle.std.proofs.{Common.{◌≡◌, ◌⊎◌, inl, inr, ℕ, ◌+◌, List, [], ◌∷◌, ◌++◌, length, sym, ap, subst, ◌∙◌, arith, length-append, slice_get, Some}, lemmas.List.map-append, lemmas.Option.slice_get_within}
use Rattle.event_log.proofs.Lists.{get_push}
use Rattle.word_rule.specs.Cell.{opening_pass}
use Rattle.cpu_worker.specs.{Opening.IsRow, Work.{FixedCell, KernelView}}

module _ {T S : Type 0} (is_pass_of : T → S → Type 0) (pass_view : S → KernelView) where
  module _ (cells : List FixedCell) (opened : List T) (k : ℕ) (row : List S) (c : FixedCell) (t : T) (p : S) (r : IsRow is_pass_of pass_view cells opened k row) (fits : is_pass_of t p) (view : pass_view p ≡ opening_pass c k) where
    at_place : (x : ℕ) (d : T) (q : S) → ((slice_get opened x ≡ Some d) ⊎ ((x ≡ length opened) × (t ≡ d))) → ((slice_get row x ≡ Some q) ⊎ ((x ≡ length row) × (p ≡ q))) → is_pass_of d q
    at_place x d q (inl e) (inl f) = r.passes.each x d q e f
    at_place x d q (inl e) (inr f) = let lt = slice_get_within opened x d e in let count = r.passes.count in let last = f.0 in absurd (omega (arith, lt, count, last))
    at_place x d q (inr e) (inl f) = let lt = slice_get_within row x q f in let count = r.passes.count in let last = e.0 in absurd (omega (arith, lt, count, last))
    at_place x d q (inr e) (inr f) = subst (λ z. is_pass_of z q) e.1 (subst (λ z. is_pass_of t z) f.1 fits)

    row_more : IsRow is_pass_of pass_view (cells ++ c ∷ []) (opened ++ t ∷ []) k (row ++ p ∷ [])
    row_more = record {
      passes = record {
        count = length-append row (p ∷ []) ∙ (ap (λ n. n + 1) r.passes.count ∙ sym (length-append opened (t ∷ [])));
        each = λ x d q e f. at_place x d q (get_push opened t x d e) (get_push row p x q f);
      };
      views = map-append pass_view row (p ∷ []) ∙ ((λ i. r.views i ++ view i ∷ []) ∙ sym (map-append (λ d. opening_pass d k) cells (c ∷ [])));
    }

    -- the pass of one cell more
    pub row_next : (all : List FixedCell) (opens : List T) (longer : List S) → all ≡ cells ++ c ∷ [] → opens ≡ opened ++ t ∷ [] → longer ≡ row ++ p ∷ [] → IsRow is_pass_of pass_view all opens k longer
    row_next all opens longer a b l = subst (λ z. IsRow is_pass_of pass_view z opens k longer) (sym a) (subst (λ z. IsRow is_pass_of pass_view (cells ++ c ∷ []) z k longer) (sym b) (subst (λ z. IsRow is_pass_of pass_view (cells ++ c ∷ []) (opened ++ t ∷ []) k z) (sym l) row_more))
