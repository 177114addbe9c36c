-- Many lists as chains in the same cells: one of them changes, and the others stay.
use Rattle.std.proofs.{Common.{◌≡◌, ◌≢◌, ◌==◌, ℕ, zero, suc, ◌+◌, ◌<◌, ◌≤◌, ◌||◌, Bool, true, false, not, List, [], ◌∷◌, ◌++◌, length, get_or, set, replicate, refl, sym, ap, ◌∙◌, subst, inl, inr, arith, length-append, length-set}, lemmas.Bool.{or_from, or_left, or_right, cases_eq, cond_both, not-true, not-false, eqb-true, eq-eqb, ne_eqb}, lemmas.List.{append-nil, length-replicate, get_or-set_same, get_or-set_other, set-get_or}, lemmas.List.Elements.filter-append, lemmas.List.Folds.list_any-append, lemmas.List.Sorted.{IsPermutation-append_comm, IsPermutation-trans, list_any-IsPermutation}}
use Rattle.std.specs.{List.{AllZip, concat}, List.Sorted.IsPermutation}
use Rattle.event_log.specs.{Distinct.{has, without, AreDistinctBelow}, Chain.ChainLists, Links.{IsChain, lists_of, view_of, AreChains, SameOutside, Rewrites, Joins, Cuts}, declared.chain.Ends.Ends}
use Rattle.event_log.proofs.{Distinct.{distinct_rest, distinct_put, distinct_permuted, distinct_filter, distinct_length, distinct_length_missing}, Joined.{put_in, taken_out, concat_none, fits_one_more}, Chained.{there, linked_stays, Apart, apart_parts, apart_sym, in_front, behind, distinct_front, split_at, without_absent, member_below, lists_are, count_is, ends_in, first_out, inner_cells}}

-- a chain stays where the cells of its numbers do
chain_stays : (k : ℕ) (m n p n' p' : List ℕ) (e : Ends) (xs : List ℕ) → AreDistinctBelow k xs → SameOutside m n n' → SameOutside m p p' → Apart m xs → IsChain n p e xs → IsChain n' p' e xs
chain_stays k m n p n' p' e [] q a b d h = h
chain_stays k m n p n' p' e (x ∷ xs) q a b d h =
    (h.0, h.1, h.2, linked_stays k n p n' p' x xs q (λ z i ne. a z (d z i)) (λ z i. b z (d z (there z x xs i))) h.3)

all_stay : (k : ℕ) (m n p n' p' : List ℕ) (es : List Ends) (ls : List (List ℕ)) → AreDistinctBelow k (concat ls) → SameOutside m n n' → SameOutside m p p' → Apart m (concat ls) → AllZip (IsChain n p) es ls → AllZip (IsChain n' p') es ls
all_stay k m n p n' p' [] [] q a b d h = tt
all_stay k m n p n' p' [] (l ∷ ls) q a b d h = absurd h
all_stay k m n p n' p' (e ∷ es) [] q a b d h = absurd h
all_stay k m n p n' p' (e ∷ es) (l ∷ ls) q a b d h =
    (chain_stays k m n p n' p' e l (distinct_front k l (concat ls) q) a b (λ z i. d z (in_front z l (concat ls) i)) h.0, all_stay k m n p n' p' es ls (distinct_rest k l (concat ls) q) a b (λ z i. d z (behind z l (concat ls) i)) h.1)

-- one of the lists in all of them
in_all : (ls : List (List ℕ)) (c : ℕ) (m : List ℕ) (z : ℕ) → c < length ls → has z m ≡ true → has z (concat (set ls c m)) ≡ true
in_all [] c m z lt h = absurd (omega arith)
in_all (l ∷ ls) zero m z lt h = in_front z m (concat ls) h
in_all (l ∷ ls) (suc c) m z lt h = behind z l (concat (set ls c m)) (in_all ls c m z (omega arith) h)

distinct_one : (k : ℕ) (ls : List (List ℕ)) (c : ℕ) (m : List ℕ) → c < length ls → AreDistinctBelow k (concat (set ls c m)) → AreDistinctBelow k m
distinct_one k [] c m lt q = absurd (omega arith)
distinct_one k (l ∷ ls) zero m lt q = distinct_front k m (concat ls) q
distinct_one k (l ∷ ls) (suc c) m lt q = distinct_one k ls c m (omega arith) (distinct_rest k l (concat (set ls c m)) q)

pub distinct_at : (k : ℕ) (ls : List (List ℕ)) (c : ℕ) → c < length ls → AreDistinctBelow k (concat ls) → AreDistinctBelow k (get_or ls c [])
distinct_at k ls c lt q = distinct_one k ls c (get_or ls c []) lt (subst (λ l. AreDistinctBelow k (concat l)) (sym (set-get_or ls c [])) q)

-- a chain changes by writes within m alone, and the others stay
changed : (k : ℕ) (m n p n' p' : List ℕ) (e' : Ends) (l' : List ℕ) (es : List Ends) (ls : List (List ℕ)) (c : ℕ) → Rewrites m n p n' p' e' l' → c < length ls → AreDistinctBelow k (concat (set ls c m)) → AllZip (IsChain n p) es ls → AllZip (IsChain n' p') (set es c e') (set ls c l')
changed k m n p n' p' e' l' [] [] c r lt q h = absurd (omega arith)
changed k m n p n' p' e' l' [] (l ∷ ls) c r lt q h = absurd h
changed k m n p n' p' e' l' (e ∷ es) [] c r lt q h = absurd h
changed k m n p n' p' e' l' (e ∷ es) (l ∷ ls) zero r lt q h =
    (r.chain, all_stay k m n p n' p' es ls (distinct_rest k m (concat ls) q) r.next r.previous (apart_parts k m (concat ls) q) h.1)
changed k m n p n' p' e' l' (e ∷ es) (l ∷ ls) (suc c) r lt q h =
    let at : c < length ls = omega arith in
    let d : Apart l m = λ z i. apart_parts k l (concat (set ls c m)) q z (in_all ls c m z at i) in
    (chain_stays k m n p n' p' e l (distinct_front k l (concat (set ls c m)) q) r.next r.previous (apart_sym l m d) h.0, changed k m n p n' p' e' l' es ls c r at (distinct_rest k l (concat (set ls c m)) q) h.1)

-- the ends of one chain are other ends of another
exchanged : (n p : List ℕ) (e' : Ends) (l' : List ℕ) (es : List Ends) (ls : List (List ℕ)) (c : ℕ) → IsChain n p e' l' → AllZip (IsChain n p) es ls → AllZip (IsChain n p) (set es c e') (set ls c l')
exchanged n p e' l' [] [] c i h = tt
exchanged n p e' l' [] (l ∷ ls) c i h = absurd h
exchanged n p e' l' (e ∷ es) [] c i h = absurd h
exchanged n p e' l' (e ∷ es) (l ∷ ls) zero i h = (i, h.1)
exchanged n p e' l' (e ∷ es) (l ∷ ls) (suc c) i h = (h.0, exchanged n p e' l' es ls c i h.1)

chain_in : (n p : List ℕ) (es : List Ends) (ls : List (List ℕ)) (c : ℕ) (e : Ends) → AllZip (IsChain n p) es ls → c < length ls → e ≡ get_or es c e → IsChain n p e (get_or ls c [])
chain_in n p [] [] c e h lt at = absurd (omega arith)
chain_in n p [] (l ∷ ls) c e h lt at = absurd h
chain_in n p (f ∷ es) [] c e h lt at = absurd h
chain_in n p (f ∷ es) (l ∷ ls) zero e h lt at = subst (λ x. IsChain n p x l) (sym at) h.0
chain_in n p (f ∷ es) (l ∷ ls) (suc c) e h lt at = chain_in n p es ls c e h.1 (omega arith) at

-- chains that hold nothing
abbrev pub no_ends : Ends
no_ends = record { first = 0; last = 0; count = 0 }

none_linked : (n p : List ℕ) (c : ℕ) → AllZip (IsChain n p) (replicate c no_ends) (replicate c [])
none_linked n p zero = tt
none_linked n p (suc c) = (refl, none_linked n p c)

pub none_flagged : (k t : ℕ) → get_or (replicate k false) t false ≡ false
none_flagged zero t = refl
none_flagged (suc k) zero = refl
none_flagged (suc k) (suc t) = none_flagged k t

pub none_chained : (k c : ℕ) → AreChains k (replicate k 0) (replicate k 0) (replicate k false) (replicate c no_ends) (replicate c [])
none_chained k c = record {
  next_long = length-replicate k 0;
  previous_long = length-replicate k 0;
  stands_long = length-replicate k false;
  linked = none_linked (replicate k 0) (replicate k 0) c;
  once = subst (λ l. AreDistinctBelow k l) (sym (concat_none c)) tt;
  flagged = λ t. subst (λ l. get_or (replicate k false) t false ≡ has t l) (sym (concat_none c)) (none_flagged k t);
}

-- a flag is set, and one is cleared
or_none : (b : Bool) → (b || false) ≡ b
or_none true = refl
or_none false = refl

set_flag : (s : List Bool) (t u : ℕ) (b : Bool) → t < length s → get_or s u false ≡ b → get_or (set s t true) u false ≡ (b || ((t == u) || false))
set_flag s t u b lt h =
    elim (cases_eq u t) as (λ _. get_or (set s t true) u false ≡ (b || ((t == u) || false))) [ inl e ↦ subst (λ v. get_or (set s t true) v false ≡ (b || ((t == v) || false))) (sym e) (get_or-set_same s t true false lt ∙ sym (or_right b ((t == t) || false) (or_left (t == t) false (eq-eqb t t refl)))) | inr ne ↦ get_or-set_other s t u true false ne ∙ (h ∙ sym (ap (λ v. b || (v || false)) (ne_eqb t u (λ x. ne (sym x))) ∙ or_none b)) ]

pub gone : (t : ℕ) (xs : List ℕ) → has t (without t xs) ≡ false
gone t [] = refl
gone t (x ∷ xs) = cond_both (not (x == t)) (x ∷ without t xs) (without t xs) (λ l. has t l ≡ false) (λ e. or_from (x == t) (has t (without t xs)) (not-true (x == t) e) (gone t xs)) (λ e. gone t xs)

pub has_without : (t u : ℕ) (xs : List ℕ) → u ≢ t → has u (without t xs) ≡ has u xs
has_without t u [] ne = refl
has_without t u (x ∷ xs) ne =
    cond_both (not (x == t)) (x ∷ without t xs) (without t xs) (λ l. has u l ≡ has u (x ∷ xs)) (λ e. ap (λ b. (x == u) || b) (has_without t u xs ne)) (λ e. has_without t u xs ne ∙ sym (ap (λ b. b || has u xs) (ne_eqb x u (λ k. ne (sym k ∙ eqb-true x t (not-false (x == t) e))))))

clear_flag : (s : List Bool) (t u : ℕ) (xs : List ℕ) → t < length s → get_or s u false ≡ has u xs → get_or (set s t false) u false ≡ has u (without t xs)
clear_flag s t u xs lt h =
    elim (cases_eq u t) as (λ _. get_or (set s t false) u false ≡ has u (without t xs)) [ inl e ↦ subst (λ v. get_or (set s t false) v false ≡ has v (without t xs)) (sym e) (get_or-set_same s t false false lt ∙ sym (gone t xs)) | inr ne ↦ get_or-set_other s t u false false ne ∙ (h ∙ sym (has_without t u xs ne)) ]

-- a number goes out of its list
has_at : (ls : List (List ℕ)) (c t : ℕ) → has t (get_or ls c []) ≡ true → has t (concat ls) ≡ true
has_at [] c t h = h
has_at (l ∷ ls) zero t h = in_front t l (concat ls) h
has_at (l ∷ ls) (suc c) t h = behind t l (concat ls) (has_at ls c t h)

concat_without : (k : ℕ) (ls : List (List ℕ)) (c t : ℕ) → AreDistinctBelow k (concat ls) → has t (get_or ls c []) ≡ true → concat (set ls c (without t (get_or ls c []))) ≡ without t (concat ls)
concat_without k [] c t q h = refl
concat_without k (l ∷ ls) zero t q h =
    let d = apart_sym l (concat ls) (apart_parts k l (concat ls) q) in
    ap (λ r. without t l ++ r) (sym (without_absent t (concat ls) (d t h))) ∙ sym (filter-append (λ y. not (y == t)) l (concat ls))
concat_without k (l ∷ ls) (suc c) t q h =
    let d = apart_parts k l (concat ls) q in
    let rest = concat_without k ls c t (distinct_rest k l (concat ls) q) h in
    ap (λ r. l ++ r) rest ∙ (ap (λ r. r ++ without t (concat ls)) (sym (without_absent t l (d t (has_at ls c t h)))) ∙ sym (filter-append (λ y. not (y == t)) l (concat ls)))

-- one list goes to the end of another
append_move : (ls : List (List ℕ)) (c d : ℕ) → c < length ls → d < length ls → c ≢ d → IsPermutation (concat ls) (concat (set (set ls d []) c (get_or ls c [] ++ get_or ls d [])))
append_move ls c d lc ld ne =
    let x = get_or ls c [] in
    let y = get_or ls d [] in
    let rest = set ls d [] in
    let out : IsPermutation (concat ls) (y ++ concat rest) = taken_out [] ls d y [] ld (sym (append-nil y)) in
    let in' : IsPermutation (concat rest ++ y) (concat (set rest c (get_or rest c [] ++ y))) = put_in [] rest c y (omega (arith, lc, length-set ls d [])) in
    let at_c : IsPermutation (concat rest ++ y) (concat (set rest c (x ++ y))) = subst (λ v. IsPermutation (concat rest ++ y) (concat (set rest c (v ++ y)))) (get_or-set_other ls d c [] [] ne) in' in
    IsPermutation-trans (concat ls) (y ++ concat rest) (concat (set rest c (x ++ y))) out (IsPermutation-trans (y ++ concat rest) (concat rest ++ y) (concat (set rest c (x ++ y))) (IsPermutation-append_comm y (concat rest)) at_c)

-- the ends of a chain of one number
abbrev pub alone : ℕ → Ends
alone t = record { first = t; last = t; count = 1 }

-- what is known of a first number that is taken out
pub record GoesFirst (k c t : ℕ) (ls : List (List ℕ)) : Type 0 where
  pub present : has t (get_or ls c []) ≡ true
  pub first : get_or ls c [] ≡ t ∷ without t (get_or ls c [])
  pub number : t < k
  pub gone : has t (concat (set ls c (without t (get_or ls c [])))) ≡ false

module _ {k : ℕ} {n p : List ℕ} {s : List Bool} {es : List Ends} {ls : List (List ℕ)} (h : AreChains k n p s es ls) where
  -- the chain that was read at that place
  pub chain_at : (c : ℕ) (e : Ends) → c < length ls → e ≡ get_or es c e → IsChain n p e (get_or ls c [])
  chain_at c e lt at = chain_in n p es ls c e h.linked lt at

  pub ends_fit : (c : ℕ) (e : Ends) → c < length ls → e ≡ get_or es c e → 0 < e.count → (e.first < k) × (e.last < k)
  ends_fit c e lt at some =
      let q = distinct_at k ls c lt h.once in
      let i = ends_in n p e (get_or ls c []) (chain_at c e lt at) some in
      (member_below k e.first (get_or ls c []) q i.0, member_below k e.last (get_or ls c []) q i.1)

  -- a new number goes to the end of one list
  pub put_fits : (c t : ℕ) (e : Ends) → c < length ls → t < k → has t (concat ls) ≡ false → e ≡ get_or es c e → e.count < k
  put_fits c t e lt below absent at =
      let few = distinct_length_missing k (concat ls) t h.once below absent in
      omega (arith, count_is n p e (get_or ls c []) (chain_at c e lt at), fits_one_more k [] ls c lt few)

  pub put : (c t : ℕ) (e : Ends) → c < length ls → t < k → has t (concat ls) ≡ false → e ≡ get_or es c e → (n' p' : List ℕ) (e' : Ends) → Joins n p e (alone t) n' p' e'
      → AreChains k n' p' (set s t true) (set es c e') (set ls c (get_or ls c [] ++ t ∷ []))
  put c t e lt below absent at n' p' e' joins =
      let l = get_or ls c [] in
      let m = l ++ t ∷ [] in
      let move : IsPermutation (concat ls ++ t ∷ []) (concat (set ls c m)) = put_in [] ls c (t ∷ []) lt in
      let once = distinct_put k (concat ls) (concat (set ls c m)) t move below absent h.once in
      let r = joins k l (t ∷ []) h.next_long h.previous_long (distinct_one k ls c m lt once) (chain_at c e lt at) (refl, refl, refl, tt) in
      record {
        next_long = r.next_long ∙ h.next_long;
        previous_long = r.previous_long ∙ h.previous_long;
        stands_long = length-set s t true ∙ h.stands_long;
        linked = changed k m n p n' p' e' m es ls c r lt once h.linked;
        once = once;
        flagged = λ u. set_flag s t u (has u (concat ls)) (omega (arith, below, h.stands_long)) (h.flagged u) ∙ (sym (list_any-append (λ z. z == u) (concat ls) (t ∷ [])) ∙ list_any-IsPermutation (λ z. z == u) (concat ls ++ t ∷ []) (concat (set ls c m)) move);
      }

  -- a number goes out of its list
  pub taken_fits : (c t : ℕ) (e : Ends) → c < length ls → has t (get_or ls c []) ≡ true → e ≡ get_or es c e → (t < k) × (t ≢ e.first → t ≢ e.last → (get_or p t 0 < k) × (get_or n t 0 < k))
  taken_fits c t e lt present at =
      let l = get_or ls c [] in
      let q = distinct_at k ls c lt h.once in
      let f = split_at t l present in
      let parts : AreDistinctBelow k (f.0 ++ t ∷ f.1) = subst (λ v. AreDistinctBelow k v) f.2 q in
      let chain : IsChain n p e (f.0 ++ t ∷ f.1) = subst (λ v. IsChain n p e v) f.2 (chain_at c e lt at) in
      (member_below k t l q present, λ a b. inner_cells k n p e f.0 t f.1 parts chain a b)

  pub taken : (c t : ℕ) (e : Ends) → c < length ls → has t (get_or ls c []) ≡ true → e ≡ get_or es c e → (n' p' : List ℕ) (e' : Ends) → Cuts n p e t n' p' e'
      → AreChains k n' p' (set s t false) (set es c e') (set ls c (without t (get_or ls c [])))
  taken c t e lt present at n' p' e' cuts =
      let l = get_or ls c [] in
      let q = distinct_at k ls c lt h.once in
      let r = cuts k l h.next_long h.previous_long q present (chain_at c e lt at) in
      let same = subst (λ v. AreDistinctBelow k (concat v)) (sym (set-get_or ls c [])) h.once in
      let all = concat_without k ls c t h.once present in
      record {
        next_long = r.next_long ∙ h.next_long;
        previous_long = r.previous_long ∙ h.previous_long;
        stands_long = length-set s t false ∙ h.stands_long;
        linked = changed k l n p n' p' e' (without t l) es ls c r lt same h.linked;
        once = subst (λ v. AreDistinctBelow k v) (sym all) (distinct_filter (λ y. not (y == t)) k (concat ls) h.once);
        flagged = λ u. clear_flag s t u (concat ls) (omega (arith, member_below k t l q present, h.stands_long)) (h.flagged u) ∙ ap (has u) (sym all);
      }

  pub goes_first : (c : ℕ) (e : Ends) → c < length ls → 0 < length (get_or ls c []) → e ≡ get_or es c e → GoesFirst k c e.first ls
  goes_first c e lt some at =
      let l = get_or ls c [] in
      let chain = chain_at c e lt at in
      let q = distinct_at k ls c lt h.once in
      let i = (ends_in n p e l chain (omega (arith, some, count_is n p e l chain))).0 in
      record {
        present = i;
        first = first_out k n p e l chain some q;
        number = member_below k e.first l q i;
        gone = ap (has e.first) (concat_without k ls c e.first h.once i) ∙ gone e.first (concat ls);
      }

  -- one list goes to the end of another
  pub appended_fits : (c d : ℕ) (a b : Ends) → c < length ls → d < length ls → c ≢ d → a ≡ get_or es c a → b ≡ get_or es d b → a.count + b.count ≤ k
  appended_fits c d a b lc ld ne at_c at_d =
      let x = get_or ls c [] in
      let y = get_or ls d [] in
      let rest = set ls d [] in
      let once = distinct_permuted k (concat ls) (concat (set rest c (x ++ y))) h.once (append_move ls c d lc ld ne) in
      let few = distinct_length k (x ++ y) (distinct_one k rest c (x ++ y) (omega (arith, lc, length-set ls d [])) once) in
      omega (arith, few, length-append x y, count_is n p a x (chain_at c a lc at_c), count_is n p b y (chain_at d b ld at_d))

  pub appended : (c d : ℕ) (a b : Ends) → c < length ls → d < length ls → c ≢ d → a ≡ get_or es c a → b ≡ get_or es d b → (n' p' : List ℕ) (e' : Ends) → Joins n p a b n' p' e'
      → AreChains k n' p' s (set (set es d no_ends) c e') (set (set ls d []) c (get_or ls c [] ++ get_or ls d []))
  appended c d a b lc ld ne at_c at_d n' p' e' joins =
      let x = get_or ls c [] in
      let y = get_or ls d [] in
      let m = x ++ y in
      let rest = set ls d [] in
      let lt : c < length rest = omega (arith, lc, length-set ls d []) in
      let move = append_move ls c d lc ld ne in
      let once = distinct_permuted k (concat ls) (concat (set rest c m)) h.once move in
      let r = joins k x y h.next_long h.previous_long (distinct_one k rest c m lt once) (chain_at c a lc at_c) (chain_at d b ld at_d) in
      record {
        next_long = r.next_long ∙ h.next_long;
        previous_long = r.previous_long ∙ h.previous_long;
        stands_long = h.stands_long;
        linked = changed k m n p n' p' e' m (set es d no_ends) rest c r lt once (exchanged n p no_ends [] es ls d refl h.linked);
        once = once;
        flagged = λ u. h.flagged u ∙ list_any-IsPermutation (λ z. z == u) (concat ls) (concat (set rest c m)) move;
      }

-- the fields seen as the value that contracts see, and fields that are closed again
pub seen : {k : ℕ} {n p : List ℕ} {s : List Bool} {es : List Ends} {v : ChainLists} → AreChains k n p s es (lists_of n es) → view_of k n es ≡ v → AreChains v.numbers n p s es v.lists
seen {k} {n} {p} {s} {es} {v} h is = subst (λ w. AreChains w.numbers n p s es w.lists) is h

pub closed : {k k' : ℕ} {n p : List ℕ} {s : List Bool} {es : List Ends} {ls : List (List ℕ)} → AreChains k n p s es ls → k' ≡ k → AreChains k' n p s es (lists_of n es) × (view_of k' n es ≡ record { numbers = k; lists = ls })
closed {k} {k'} {n} {p} {s} {es} {ls} h ek =
    let are = lists_are n p es ls h.linked in
    let all : AreChains k n p s es (lists_of n es) = subst (λ v. AreChains k n p s es v) (sym are) h in
    let with_lists : List (List ℕ) → ChainLists = λ l. record { numbers = k; lists = l } in
    let with_numbers : ℕ → ChainLists = λ m. record { numbers = m; lists = lists_of n es } in
    (subst (λ z. AreChains z n p s es (lists_of n es)) (sym ek) all, ap with_numbers ek ∙ ap with_lists are)
