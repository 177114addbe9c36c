-- Chains of numbers: what a write to a cell leaves, two chains that are joined, a number that is taken out of one.
use Rattle.std.proofs.{Common.{◌≡◌, ◌≢◌, ◌==◌, ℕ, suc, ◌+◌, ◌-◌, ◌<◌, true, false, not, List, [], ◌∷◌, ◌++◌, length, get_or, set, refl, sym, ap, ◌∙◌, subst, inl, inr, arith, length-append, length-set}, lemmas.Bool.{or_parts, or_from, or_left, or_right, or_cases, both_ways, eqb-true, eq-eqb, ne_eqb, false_from_ne_true}, lemmas.List.{append-nil, get_or-set_same, get_or-set_other}, lemmas.List.Elements.filter-append, lemmas.List.Folds.list_any-append}
use Rattle.std.specs.List.{AllZip}
use Rattle.event_log.specs.{Distinct.{has, without, AreDistinctBelow}, Links.{walk, chain_of, lists_of, last_of, Linked, IsChain, Rewrites, Joins, Cuts}, declared.chain.Ends.Ends}
use Rattle.event_log.proofs.Distinct.{distinct_rest, distinct_filter}

-- a chain is walked through from its first
walk_is : (n p : List ℕ) (x : ℕ) (xs : List ℕ) → Linked n p x xs → walk n x (suc (length xs)) ≡ x ∷ xs
walk_is n p x [] h = refl
walk_is n p x (y ∷ ys) h = ap (λ l. x ∷ l) (ap (λ z. walk n z (suc (length ys))) h.0 ∙ walk_is n p y ys h.2)

chain_is : (n p : List ℕ) (e : Ends) (xs : List ℕ) → IsChain n p e xs → chain_of n e ≡ xs
chain_is n p e [] h = ap (λ k. walk n e.first k) h
chain_is n p e (x ∷ xs) h = ap (λ k. walk n e.first k) h.2 ∙ (ap (λ z. walk n z (suc (length xs))) h.0 ∙ walk_is n p x xs h.3)

pub lists_are : (n p : List ℕ) (es : List Ends) (ls : List (List ℕ)) → AllZip (IsChain n p) es ls → lists_of n es ≡ ls
lists_are n p [] [] h = refl
lists_are n p [] (l ∷ ls) h = absurd h
lists_are n p (e ∷ es) [] h = absurd h
lists_are n p (e ∷ es) (l ∷ ls) h = ap (λ k. k ∷ lists_of n es) (chain_is n p e l h.0) ∙ ap (λ k. l ∷ k) (lists_are n p es ls h.1)

-- what stands in a list, and what doesn't
pub here : (x : ℕ) (xs : List ℕ) → has x (x ∷ xs) ≡ true
here x xs = or_left (x == x) (has x xs) (eq-eqb x x refl)

pub there : (x y : ℕ) (xs : List ℕ) → has x xs ≡ true → has x (y ∷ xs) ≡ true
there x y xs h = or_right (y == x) (has x xs) h

pub in_front : (x : ℕ) (xs ys : List ℕ) → has x xs ≡ true → has x (xs ++ ys) ≡ true
in_front x xs ys h = list_any-append (λ y. y == x) xs ys ∙ or_left (has x xs) (has x ys) h

pub behind : (x : ℕ) (xs ys : List ℕ) → has x ys ≡ true → has x (xs ++ ys) ≡ true
behind x xs ys h = list_any-append (λ y. y == x) xs ys ∙ or_right (has x xs) (has x ys) h

differ : (x z : ℕ) (xs : List ℕ) → has x xs ≡ false → has z xs ≡ true → x ≢ z
differ x z xs a b e = both_ways (has z xs) (ap (λ k. has k xs) (sym e) ∙ a) b

last_in : (x : ℕ) (xs : List ℕ) → has (last_of x xs) (x ∷ xs) ≡ true
last_in x [] = here x []
last_in x (y ∷ ys) = there (last_of y ys) x (y ∷ ys) (last_in y ys)

pub member_below : (k t : ℕ) (xs : List ℕ) → AreDistinctBelow k xs → has t xs ≡ true → t < k
member_below k t [] q h = absurd (cc)
member_below k t (x ∷ xs) q h =
    elim (or_cases (x == t) (has t xs) h) as (λ _. t < k) [ inl e ↦ subst (λ z. z < k) (eqb-true x t e) q.0 | inr r ↦ member_below k t xs q.2 r ]

-- no number is of both lists
abbrev pub Apart : List ℕ → List ℕ → Type 0
Apart m xs = (x : ℕ) → has x xs ≡ true → has x m ≡ false

pub apart_parts : (k : ℕ) (m r : List ℕ) → AreDistinctBelow k (m ++ r) → Apart m r
apart_parts k [] r q = λ x h. refl
apart_parts k (y ∷ m) r q = λ x h.
    let p = or_parts (has y m) (has y r) (sym (list_any-append (λ z. z == y) m r) ∙ q.1) in
    or_from (y == x) (has x m) (ne_eqb y x (differ y x r p.1 h)) (apart_parts k m r q.2 x h)

pub apart_sym : (m r : List ℕ) → Apart m r → Apart r m
apart_sym m r d = λ x h. false_from_ne_true (has x r) (λ k. both_ways (has x m) (d x k) h)

pub distinct_front : (k : ℕ) (m r : List ℕ) → AreDistinctBelow k (m ++ r) → AreDistinctBelow k m
distinct_front k [] r q = tt
distinct_front k (y ∷ m) r q =
    let p = or_parts (has y m) (has y r) (sym (list_any-append (λ z. z == y) m r) ∙ q.1) in
    (q.0, p.0, distinct_front k m r q.2)

-- a list in two parts
last_append : (x : ℕ) (xs : List ℕ) (y : ℕ) (ys : List ℕ) → last_of x (xs ++ y ∷ ys) ≡ last_of y ys
last_append x [] y ys = refl
last_append x (z ∷ zs) y ys = last_append z zs y ys

linked_front : (n p : List ℕ) (x : ℕ) (xs ys : List ℕ) → Linked n p x (xs ++ ys) → Linked n p x xs
linked_front n p x [] ys h = tt
linked_front n p x (z ∷ zs) ys h = (h.0, h.1, linked_front n p z zs ys h.2)

linked_back : (n p : List ℕ) (x : ℕ) (xs : List ℕ) (y : ℕ) (ys : List ℕ) → Linked n p x (xs ++ y ∷ ys) → Linked n p y ys
linked_back n p x [] y ys h = h.2
linked_back n p x (z ∷ zs) y ys h = linked_back n p z zs y ys h.2

-- where the parts meet
meets : (n p : List ℕ) (x : ℕ) (xs : List ℕ) (y : ℕ) (ys : List ℕ) → Linked n p x (xs ++ y ∷ ys) → (get_or n (last_of x xs) 0 ≡ y) × (get_or p y 0 ≡ last_of x xs)
meets n p x [] y ys h = (h.0, h.1)
meets n p x (z ∷ zs) y ys h = meets n p z zs y ys h.2

linked_both : (n p : List ℕ) (x : ℕ) (xs : List ℕ) (y : ℕ) (ys : List ℕ) → Linked n p x xs → Linked n p y ys → get_or n (last_of x xs) 0 ≡ y → get_or p y 0 ≡ last_of x xs → Linked n p x (xs ++ y ∷ ys)
linked_both n p x [] y ys a b u v = (u, v, b)
linked_both n p x (z ∷ zs) y ys a b u v = (a.0, a.1, linked_both n p z zs y ys a.2 b u v)

-- a list stays linked where its cells do; of its last the next is free, and of its first the previous
pub linked_stays : (k : ℕ) (n p n' p' : List ℕ) (x : ℕ) (xs : List ℕ) → AreDistinctBelow k (x ∷ xs) → ((z : ℕ) → has z (x ∷ xs) ≡ true → z ≢ last_of x xs → get_or n' z 0 ≡ get_or n z 0) → ((z : ℕ) → has z xs ≡ true → get_or p' z 0 ≡ get_or p z 0) → Linked n p x xs → Linked n' p' x xs
linked_stays k n p n' p' x [] q a b h = tt
linked_stays k n p n' p' x (y ∷ ys) q a b h =
    (a x (here x (y ∷ ys)) (differ x (last_of y ys) (y ∷ ys) q.1 (last_in y ys)) ∙ h.0, b y (here y ys) ∙ h.1, linked_stays k n p n' p' y ys q.2 (λ z i. a z (there z x (y ∷ ys) i)) (λ z i. b z (there z y ys i)) h.2)

-- two lists are linked by two writes
linked_written : (k : ℕ) (n p : List ℕ) (x : ℕ) (xs : List ℕ) (y : ℕ) (ys : List ℕ) → length n ≡ k → length p ≡ k → AreDistinctBelow k ((x ∷ xs) ++ y ∷ ys) → Linked n p x xs → Linked n p y ys → Linked (set n (last_of x xs) y) (set p y (last_of x xs)) x (xs ++ y ∷ ys)
linked_written k n p x xs y ys ln lp q a b =
    let l = last_of x xs in
    let n' = set n l y in
    let p' = set p y l in
    let front = distinct_front k (x ∷ xs) (y ∷ ys) q in
    let back = distinct_rest k (x ∷ xs) (y ∷ ys) q in
    let d = apart_parts k (x ∷ xs) (y ∷ ys) q in
    let last_behind = apart_sym (x ∷ xs) (y ∷ ys) d l (last_in x xs) in
    let first_before = (or_parts (x == y) (has y xs) (d y (here y ys))).1 in
    let front_stays = linked_stays k n p n' p' x xs front (λ z i ne. get_or-set_other n l z y 0 ne) (λ z i. get_or-set_other p y z l 0 (λ e. differ y z xs first_before i (sym e))) a in
    let back_stays = linked_stays k n p n' p' y ys back (λ z i ne. get_or-set_other n l z y 0 (λ e. differ l z (y ∷ ys) last_behind i (sym e))) (λ z i. get_or-set_other p y z l 0 (λ e. differ y z ys back.1 i (sym e))) b in
    let last_below : l < length n = omega (arith, ln, member_below k l (x ∷ xs) front (last_in x xs)) in
    let first_below : y < length p = omega (arith, lp, back.0) in
    linked_both n' p' x xs y ys front_stays back_stays (get_or-set_same n l y 0 last_below) (get_or-set_same p y l 0 first_below)

-- no cell was written
unwritten : (m n p : List ℕ) (e : Ends) (xs : List ℕ) → IsChain n p e xs → Rewrites m n p n p e xs
unwritten m n p e xs h = record { chain = h; next = λ z o. refl; previous = λ z o. refl; next_long = refl; previous_long = refl }

-- two chains are joined, neither of them empty
pub joins_both : (n p : List ℕ) (a b : Ends) → a.count ≢ 0 → b.count ≢ 0 → Joins n p a b (set n a.last b.first) (set p b.first a.last) (record { first = a.first; last = b.last; count = a.count + b.count })
joins_both n p a b some_a some_b k [] ys ln lp q ha hb = absurd (some_a ha)
joins_both n p a b some_a some_b k (x ∷ xs) [] ln lp q ha hb = absurd (some_b hb)
joins_both n p a b some_a some_b k (x ∷ xs) (y ∷ ys) ln lp q ha hb =
    let m = (x ∷ xs) ++ y ∷ ys in
    let links = linked_written k n p x xs y ys ln lp q ha.3 hb.3 in
    let at_last : Linked (set n a.last y) (set p y a.last) x (xs ++ y ∷ ys) = subst (λ l. Linked (set n l y) (set p y l) x (xs ++ y ∷ ys)) (sym ha.1) links in
    let at_first : Linked (set n a.last b.first) (set p b.first a.last) x (xs ++ y ∷ ys) = subst (λ f. Linked (set n a.last f) (set p f a.last) x (xs ++ y ∷ ys)) (sym hb.0) at_last in
    let last : has a.last m ≡ true = subst (λ l. has l m ≡ true) (sym ha.1) (in_front (last_of x xs) (x ∷ xs) (y ∷ ys) (last_in x xs)) in
    let first : has b.first m ≡ true = subst (λ f. has f m ≡ true) (sym hb.0) (behind y (x ∷ xs) (y ∷ ys) (here y ys)) in
    let count : a.count + b.count ≡ suc (length (xs ++ y ∷ ys)) = omega (arith, ha.2, hb.2, length-append xs (y ∷ ys)) in
    record {
      chain = (ha.0, hb.1 ∙ sym (last_append x xs y ys), count, at_first);
      next = λ z o. get_or-set_other n a.last z b.first 0 (differ z a.last m o last);
      previous = λ z o. get_or-set_other p b.first z a.last 0 (differ z b.first m o first);
      next_long = length-set n a.last b.first;
      previous_long = length-set p b.first a.last;
    }

-- a number is taken out of a list in which it stands once
pub without_absent : (t : ℕ) (xs : List ℕ) → has t xs ≡ false → without t xs ≡ xs
without_absent t [] h = refl
without_absent t (x ∷ xs) h = let r = or_parts (x == t) (has t xs) h in rw r.0 (ap (λ l. x ∷ l) (without_absent t xs r.1))

without_first : (t : ℕ) (xs : List ℕ) → has t xs ≡ false → without t (t ∷ xs) ≡ xs
without_first t xs h = rw (eq-eqb t t refl) (without_absent t xs h)

pub without_split : (k : ℕ) (us : List ℕ) (t : ℕ) (vs : List ℕ) → AreDistinctBelow k (us ++ t ∷ vs) → without t (us ++ t ∷ vs) ≡ us ++ vs
without_split k us t vs q =
    let front = without_absent t us (apart_parts k us (t ∷ vs) q t (here t vs)) in
    let back = without_first t vs (distinct_rest k us (t ∷ vs) q).1 in
    filter-append (λ y. not (y == t)) us (t ∷ vs) ∙ (ap (λ l. l ++ without t (t ∷ vs)) front ∙ ap (λ l. us ++ l) back)

pub split_at : (t : ℕ) (xs : List ℕ) → has t xs ≡ true → (us : List ℕ) × (vs : List ℕ) × (xs ≡ us ++ t ∷ vs)
split_at t [] h = absurd (cc)
split_at t (x ∷ xs) h =
    elim (or_cases (x == t) (has t xs) h) as (λ _. (us : List ℕ) × (vs : List ℕ) × (x ∷ xs ≡ us ++ t ∷ vs)) [ inl e ↦ ([], xs, ap (λ z. z ∷ xs) (eqb-true x t e)) | inr r ↦ let f = split_at t xs r in (x ∷ f.0, f.1, ap (λ l. x ∷ l) f.2) ]

-- the list in which t stands, in its two parts
over_parts : (k : ℕ) (n p n' p' : List ℕ) (e e' : Ends) (t : ℕ) (xs : List ℕ) → AreDistinctBelow k xs → has t xs ≡ true → IsChain n p e xs → ((us vs : List ℕ) → AreDistinctBelow k (us ++ t ∷ vs) → IsChain n p e (us ++ t ∷ vs) → Rewrites (us ++ t ∷ vs) n p n' p' e' (us ++ vs)) → Rewrites xs n p n' p' e' (without t xs)
over_parts k n p n' p' e e' t xs q present h parts =
    let f = split_at t xs present in
    let distinct : AreDistinctBelow k (f.0 ++ t ∷ f.1) = subst (λ v. AreDistinctBelow k v) f.2 q in
    let chain : IsChain n p e (f.0 ++ t ∷ f.1) = subst (λ v. IsChain n p e v) f.2 h in
    let fewer : without t xs ≡ f.0 ++ f.1 = ap (without t) f.2 ∙ without_split k f.0 t f.1 distinct in
    subst (λ v. Rewrites v n p n' p' e' (without t xs)) (sym f.2) (subst (λ v. Rewrites (f.0 ++ t ∷ f.1) n p n' p' e' v) (sym fewer) (parts f.0 f.1 distinct chain))

-- whether it is the first or the last of them
before_it : (k : ℕ) (n p : List ℕ) (e : Ends) (x : ℕ) (us : List ℕ) (t : ℕ) (vs : List ℕ) → AreDistinctBelow k ((x ∷ us) ++ t ∷ vs) → IsChain n p e ((x ∷ us) ++ t ∷ vs) → t ≢ e.first
before_it k n p e x us t vs q h i = differ x t (us ++ t ∷ vs) q.1 (behind t us (t ∷ vs) (here t vs)) (sym (i ∙ h.0))

ends_with : (n p : List ℕ) (e : Ends) (x : ℕ) (us : List ℕ) (t : ℕ) (vs : List ℕ) → IsChain n p e ((x ∷ us) ++ t ∷ vs) → e.last ≡ last_of t vs
ends_with n p e x us t vs h = h.1 ∙ last_append x us t vs

behind_it : (k : ℕ) (n p : List ℕ) (e : Ends) (x : ℕ) (us : List ℕ) (t v : ℕ) (vs : List ℕ) → AreDistinctBelow k ((x ∷ us) ++ t ∷ v ∷ vs) → IsChain n p e ((x ∷ us) ++ t ∷ v ∷ vs) → t ≢ e.last
behind_it k n p e x us t v vs q h i =
    differ t (last_of v vs) (v ∷ vs) (distinct_rest k (x ∷ us) (t ∷ v ∷ vs) q).1 (last_in v vs) (i ∙ ends_with n p e x us t (v ∷ vs) h)

-- the first, the last, or one between goes out
without_head : (n p : List ℕ) (e : Ends) (t a : ℕ) (vs : List ℕ) → a ≡ get_or n t 0 → IsChain n p e (t ∷ vs) → IsChain n p (record { first = a; last = e.last; count = e.count - 1 }) vs
without_head n p e t a [] at h = omega (arith, h.2)
without_head n p e t a (v ∷ vs) at h = (at ∙ h.3.0, h.1, omega (arith, h.2), h.3.2)

at_first : (k : ℕ) (n p : List ℕ) (e : Ends) (t a : ℕ) → a ≡ get_or n t 0 → t ≡ e.first → (us vs : List ℕ) → AreDistinctBelow k (us ++ t ∷ vs) → IsChain n p e (us ++ t ∷ vs) → Rewrites (us ++ t ∷ vs) n p n p (record { first = a; last = e.last; count = e.count - 1 }) (us ++ vs)
at_first k n p e t a at is [] vs q h = unwritten (t ∷ vs) n p (record { first = a; last = e.last; count = e.count - 1 }) vs (without_head n p e t a vs at h)
at_first k n p e t a at is (x ∷ us) vs q h = absurd (before_it k n p e x us t vs q h is)

at_last : (k : ℕ) (n p : List ℕ) (e : Ends) (t b : ℕ) → b ≡ get_or p t 0 → t ≢ e.first → t ≡ e.last → (us vs : List ℕ) → AreDistinctBelow k (us ++ t ∷ vs) → IsChain n p e (us ++ t ∷ vs) → Rewrites (us ++ t ∷ vs) n p n p (record { first = e.first; last = b; count = e.count - 1 }) (us ++ vs)
at_last k n p e t b at other is [] vs q h = absurd (other (sym h.0))
at_last k n p e t b at other is (x ∷ us) [] q h =
    let e' : Ends = record { first = e.first; last = b; count = e.count - 1 } in
    let count : e.count - 1 ≡ suc (length us) = omega (arith, h.2, length-append us (t ∷ [])) in
    let short : IsChain n p e' (x ∷ us) = (h.0, at ∙ (meets n p x us t [] h.3).1, count, linked_front n p x us (t ∷ []) h.3) in
    unwritten ((x ∷ us) ++ t ∷ []) n p e' ((x ∷ us) ++ []) (subst (λ l. IsChain n p e' l) (sym (append-nil (x ∷ us))) short)
at_last k n p e t b at other is (x ∷ us) (v ∷ vs) q h = absurd (behind_it k n p e x us t v vs q h is)

within : (k : ℕ) (n p : List ℕ) (e : Ends) (t b a : ℕ) → b ≡ get_or p t 0 → a ≡ get_or n t 0 → length n ≡ k → length p ≡ k → t ≢ e.first → t ≢ e.last → (us vs : List ℕ) → AreDistinctBelow k (us ++ t ∷ vs) → IsChain n p e (us ++ t ∷ vs) → Rewrites (us ++ t ∷ vs) n p (set n b a) (set p a b) (record { first = e.first; last = e.last; count = e.count - 1 }) (us ++ vs)
within k n p e t b a eb ea ln lp other inner [] vs q h = absurd (other (sym h.0))
within k n p e t b a eb ea ln lp other inner (x ∷ us) [] q h = absurd (inner (sym (ends_with n p e x us t [] h)))
within k n p e t b a eb ea ln lp other inner (x ∷ us) (v ∷ vs) q h =
    let m = (x ∷ us) ++ t ∷ v ∷ vs in
    let before : b ≡ last_of x us = eb ∙ (meets n p x us t (v ∷ vs) h.3).1 in
    let back = linked_back n p x us t (v ∷ vs) h.3 in
    let after : a ≡ v = ea ∙ back.0 in
    let fewer : AreDistinctBelow k ((x ∷ us) ++ v ∷ vs) = subst (λ l. AreDistinctBelow k l) (without_split k (x ∷ us) t (v ∷ vs) q) (distinct_filter (λ y. not (y == t)) k m q) in
    let links = linked_written k n p x us v vs ln lp fewer (linked_front n p x us (t ∷ v ∷ vs) h.3) back.2 in
    let at_before : Linked (set n b v) (set p v b) x (us ++ v ∷ vs) = subst (λ l. Linked (set n l v) (set p v l) x (us ++ v ∷ vs)) (sym before) links in
    let at_both : Linked (set n b a) (set p a b) x (us ++ v ∷ vs) = subst (λ f. Linked (set n b f) (set p f b) x (us ++ v ∷ vs)) (sym after) at_before in
    let left : has b m ≡ true = subst (λ l. has l m ≡ true) (sym before) (in_front (last_of x us) (x ∷ us) (t ∷ v ∷ vs) (last_in x us)) in
    let right : has a m ≡ true = subst (λ f. has f m ≡ true) (sym after) (behind v (x ∷ us) (t ∷ v ∷ vs) (there v t (v ∷ vs) (here v vs))) in
    let count : e.count - 1 ≡ suc (length (us ++ v ∷ vs)) = omega (arith, h.2, length-append us (t ∷ v ∷ vs), length-append us (v ∷ vs)) in
    record {
      chain = (h.0, ends_with n p e x us t (v ∷ vs) h ∙ sym (last_append x us v vs), count, at_both);
      next = λ z o. get_or-set_other n b z a 0 (differ z b m o left);
      previous = λ z o. get_or-set_other p a z b 0 (differ z a m o right);
      next_long = length-set n b a;
      previous_long = length-set p a b;
    }

pub cuts_first : (n p : List ℕ) (e : Ends) (t a : ℕ) → a ≡ get_or n t 0 → t ≡ e.first → Cuts n p e t n p (record { first = a; last = e.last; count = e.count - 1 })
cuts_first n p e t a at is k xs ln lp q present h =
    over_parts k n p n p e (record { first = a; last = e.last; count = e.count - 1 }) t xs q present h (at_first k n p e t a at is)

pub cuts_last : (n p : List ℕ) (e : Ends) (t b : ℕ) → b ≡ get_or p t 0 → t ≢ e.first → t ≡ e.last → Cuts n p e t n p (record { first = e.first; last = b; count = e.count - 1 })
cuts_last n p e t b at other is k xs ln lp q present h =
    over_parts k n p n p e (record { first = e.first; last = b; count = e.count - 1 }) t xs q present h (at_last k n p e t b at other is)

pub cuts_within : (n p : List ℕ) (e : Ends) (t b a : ℕ) → b ≡ get_or p t 0 → a ≡ get_or n t 0 → t ≢ e.first → t ≢ e.last → Cuts n p e t (set n b a) (set p a b) (record { first = e.first; last = e.last; count = e.count - 1 })
cuts_within n p e t b a eb ea other inner k xs ln lp q present h =
    over_parts k n p (set n b a) (set p a b) e (record { first = e.first; last = e.last; count = e.count - 1 }) t xs q present h (within k n p e t b a eb ea ln lp other inner)

-- the ends and the count of a list's chain
pub count_is : (n p : List ℕ) (e : Ends) (l : List ℕ) → IsChain n p e l → e.count ≡ length l
count_is n p e [] h = h
count_is n p e (x ∷ xs) h = h.2

pub ends_in : (n p : List ℕ) (e : Ends) (l : List ℕ) → IsChain n p e l → 0 < e.count → (has e.first l ≡ true) × (has e.last l ≡ true)
ends_in n p e [] h some = absurd (omega (arith, h))
ends_in n p e (x ∷ xs) h some =
    (subst (λ f. has f (x ∷ xs) ≡ true) (sym h.0) (here x xs), subst (λ l. has l (x ∷ xs) ≡ true) (sym h.1) (last_in x xs))

pub first_out : (k : ℕ) (n p : List ℕ) (e : Ends) (l : List ℕ) → IsChain n p e l → 0 < length l → AreDistinctBelow k l → l ≡ e.first ∷ without e.first l
first_out k n p e [] h some q = absurd (omega arith)
first_out k n p e (x ∷ xs) h some q =
    subst (λ f. x ∷ xs ≡ f ∷ without f (x ∷ xs)) (sym h.0) (ap (λ r. x ∷ r) (sym (without_first x xs q.1)))

-- the cells of a number within a chain name others of it
pub inner_cells : (k : ℕ) (n p : List ℕ) (e : Ends) (us : List ℕ) (t : ℕ) (vs : List ℕ) → AreDistinctBelow k (us ++ t ∷ vs) → IsChain n p e (us ++ t ∷ vs) → t ≢ e.first → t ≢ e.last → (get_or p t 0 < k) × (get_or n t 0 < k)
inner_cells k n p e [] t vs q h a b = absurd (a (sym h.0))
inner_cells k n p e (x ∷ us) t [] q h a b = absurd (b (sym (h.1 ∙ last_append x us t [])))
inner_cells k n p e (x ∷ us) t (v ∷ vs) q h a b =
    let m = (x ∷ us) ++ t ∷ v ∷ vs in
    let before = (meets n p x us t (v ∷ vs) h.3).1 in
    let back = linked_back n p x us t (v ∷ vs) h.3 in
    (subst (λ l. l < k) (sym before) (member_below k (last_of x us) m q (in_front (last_of x us) (x ∷ us) (t ∷ v ∷ vs) (last_in x us))), subst (λ f. f < k) (sym back.0) (member_below k v m q (behind v (x ∷ us) (t ∷ v ∷ vs) (there v t (v ∷ vs) (here v vs)))))
