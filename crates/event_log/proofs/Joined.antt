-- Lists that are joined: what goes from one of them to another stays among all, and how many one of them can hold.
use Rattle.std.proofs.{Common.{◌≡◌, ℕ, zero, suc, ◌+◌, ◌<◌, ◌≤◌, List, [], ◌∷◌, ◌++◌, length, get_or, set, replicate, take, drop, refl, sym, ap, ◌∙◌, subst, arith, append_assoc, length-append}, lemmas.List.{set_split, set-get_or}, lemmas.List.Folds.concat-append, lemmas.List.Sorted.{IsPermutation-append_comm, IsPermutation-append_left, IsPermutation-append_right, IsPermutation-trans}}
use Rattle.std.specs.{List.{concat, remove}, List.Sorted.IsPermutation}
use Rattle.event_log.specs.Distinct.{AreDistinctBelow}
use Rattle.event_log.proofs.Distinct.{distinct_length}

-- the lists before that place, joined, and those after it
abbrev before : List (List ℕ) → ℕ → List ℕ
before ls c = concat (take c ls)

abbrev behind : List (List ℕ) → ℕ → List ℕ
behind ls c = concat (drop (suc c) ls)

concat_set : (ls : List (List ℕ)) (c : ℕ) (l : List ℕ) → c < length ls → concat (set ls c l) ≡ before ls c ++ (l ++ behind ls c)
concat_set ls c l lt = ap concat (set_split ls c l lt) ∙ concat-append (take c ls) (l ∷ drop (suc c) ls)

concat_at : (ls : List (List ℕ)) (c : ℕ) → c < length ls → concat ls ≡ before ls c ++ (get_or ls c [] ++ behind ls c)
concat_at ls c lt = ap concat (sym (set-get_or ls c [])) ∙ concat_set ls c (get_or ls c []) lt

-- one of the lists is no longer than all of them
length_at : (ls : List (List ℕ)) (c : ℕ) → c < length ls → length (get_or ls c []) ≤ length (concat ls)
length_at ls c lt =
    omega (arith, ap length (concat_at ls c lt), length-append (before ls c) (get_or ls c [] ++ behind ls c), length-append (get_or ls c []) (behind ls c))

-- what stands at the end goes between
pub between : (a b m : List ℕ) → IsPermutation ((a ++ b) ++ m) ((a ++ m) ++ b)
between a b m =
    subst (λ l. IsPermutation l ((a ++ m) ++ b)) (sym (append_assoc a b m)) (subst (λ l. IsPermutation (a ++ (b ++ m)) l) (sym (append_assoc a m b)) (IsPermutation-append_right a (b ++ m) (m ++ b) (IsPermutation-append_comm b m)))

-- what stands at the end goes to the end of one of the lists
pub put_in : (r : List ℕ) (ls : List (List ℕ)) (c : ℕ) (m : List ℕ) → c < length ls → IsPermutation ((r ++ concat ls) ++ m) (r ++ concat (set ls c (get_or ls c [] ++ m)))
put_in r ls c m lt =
    let x = get_or ls c [] in
    let left : (r ++ (before ls c ++ x)) ++ behind ls c ≡ r ++ concat ls = rw (concat_at ls c lt) (simp append_assoc) in
    let right : ((r ++ (before ls c ++ x)) ++ m) ++ behind ls c ≡ r ++ concat (set ls c (x ++ m)) = rw (concat_set ls c (x ++ m) lt) (simp append_assoc) in
    subst (λ l. IsPermutation (l ++ m) (r ++ concat (set ls c (x ++ m)))) left (subst (λ l. IsPermutation (((r ++ (before ls c ++ x)) ++ behind ls c) ++ m) l) right (between (r ++ (before ls c ++ x)) (behind ls c) m))

-- the beginning of one of the lists goes to the end of r
pub taken_out : (r : List ℕ) (ls : List (List ℕ)) (c : ℕ) (m rest : List ℕ) → c < length ls → get_or ls c [] ≡ m ++ rest → IsPermutation (r ++ concat ls) ((r ++ m) ++ concat (set ls c rest))
taken_out r ls c m rest lt e =
    let after = rest ++ behind ls c in
    let left : ((r ++ before ls c) ++ m) ++ after ≡ r ++ concat ls = rw (concat_at ls c lt) (rw e (simp append_assoc)) in
    let right : ((r ++ m) ++ before ls c) ++ after ≡ (r ++ m) ++ concat (set ls c rest) = rw (concat_set ls c rest lt) (simp append_assoc) in
    subst (λ l. IsPermutation l ((r ++ m) ++ concat (set ls c rest))) left (subst (λ l. IsPermutation (((r ++ before ls c) ++ m) ++ after) l) right (IsPermutation-append_left after ((r ++ before ls c) ++ m) ((r ++ m) ++ before ls c) (between r (before ls c) m)))

-- r and one of the lists are no longer than all together
pub length_with : (r : List ℕ) (ls : List (List ℕ)) (c : ℕ) → c < length ls → length r + length (get_or ls c []) ≤ length (r ++ concat ls)
length_with r ls c lt = omega (arith, length-append r (concat ls), length_at ls c lt)

-- no list holds any
pub concat_none : (n : ℕ) → concat (replicate n []) ≡ []
concat_none zero = refl
concat_none (suc n) = concat_none n

-- where all together are distinct numbers below n, r and one of the lists hold at most n
pub fits_with : (n : ℕ) (r : List ℕ) (ls : List (List ℕ)) (c : ℕ) → c < length ls → AreDistinctBelow n (r ++ concat ls) → length r + length (get_or ls c []) ≤ n
fits_with n r ls c lt q = omega (arith, length_with r ls c lt, distinct_length n (r ++ concat ls) q)

-- where all together are fewer than n, so is one of the lists
pub fits_one_more : (n : ℕ) (r : List ℕ) (ls : List (List ℕ)) (c : ℕ) → c < length ls → length (r ++ concat ls) < n → length (get_or ls c []) < n
fits_one_more n r ls c lt few = omega (arith, length_with r ls c lt, few)

-- a list is its first element and the rest
pub front_and_rest : {X : Type 0} (xs : List X) (x : X) → 0 < length xs → x ≡ get_or xs 0 x → xs ≡ x ∷ remove xs 0
front_and_rest [] x lt e = absurd (omega arith)
front_and_rest (y ∷ ys) x lt e = ap (λ z. z ∷ ys) (sym e)

-- two moves, one after the other
pub both_moves : (h i j o p h1 h2 : List ℕ) → IsPermutation (h ++ i) (o ++ h1) → IsPermutation (h1 ++ j) (p ++ h2) → IsPermutation (h ++ (i ++ j)) ((o ++ p) ++ h2)
both_moves h i j o p h1 h2 a b =
    let first : IsPermutation (h ++ (i ++ j)) (o ++ (h1 ++ j))
    = subst (λ l. IsPermutation l (o ++ (h1 ++ j))) (append_assoc h i j) (subst (λ l. IsPermutation ((h ++ i) ++ j) l) (append_assoc o h1 j) (IsPermutation-append_left j (h ++ i) (o ++ h1) a)) in
    let then' : IsPermutation (o ++ (h1 ++ j)) ((o ++ p) ++ h2)
    = subst (λ l. IsPermutation (o ++ (h1 ++ j)) l) (sym (append_assoc o p h2)) (IsPermutation-append_right o (h1 ++ j) (p ++ h2) b) in
    IsPermutation-trans (h ++ (i ++ j)) (o ++ (h1 ++ j)) ((o ++ p) ++ h2) first then'
