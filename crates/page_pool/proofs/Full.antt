-- Full quotas: a pool answers as one without quotas. And no owner has more pages than its quota.
use Rattle.std.proofs.{Common.{◌≡◌, ◌≢◌, ℕ, ◌≤◌, ◌==◌, nat_lt, nat_le, Bool, true, false, if◌then◌else◌, Option, None, Some, set, refl, sym, ap, subst, ◌∙◌, ⊎_elim, arith}, lemmas.Bool.{ltb-false, leb-false, lt-leb, cases_eq}, lemmas.List.get_or-replicate}
use Rattle.page_pool.specs.{State.{PoolState, opening_state}, Table.{owner_of, least_free, held_by, quota_of, given}, Answer.{pool_answer, give_answer, release_answer}, Owning.{IsPoolOf, KeepsToQuotas}, Unlimited.{unlimited_answer, unlimited_give, full_quotas}, declared.params.PoolParams.PoolParams, declared.call.PoolCall.PoolCall, declared.call.PoolCall.TheVariants.{Alloc, Free, Left}, declared.call.PoolReply.PoolReply, declared.call.PoolReply.TheVariants.{Ok, Page, OverQuota, BadOwner, BadPage, NotYours}}
use Rattle.page_pool.proofs.{Least.found_free, Held.{held_below, held_more, held_same, held_no_more, held_none}}

-- ---- full quotas
not_over : (n : ℕ) (s : PoolState) (o p : ℕ) → IsPoolOf (full_quotas n) s → o ≤ 15 → least_free s.owners ≡ Some p → nat_le (quota_of s.quotas o) (held_by s.owners o) ≡ false
not_over n s o p h good e =
    let free = found_free s.owners p e in
    let fewer = held_below s.owners p o free.0 free.1 in
    let quota : quota_of s.quotas o ≡ n = ap (λ qs. quota_of qs o) h.quotas ∙ get_or-replicate 16 o n 0 (omega (arith, good)) in
    lt-leb (quota_of s.quotas o) (held_by s.owners o) (omega (arith, fewer, quota, h.whole, h.pages))

give_same : (n : ℕ) (s : PoolState) (o : ℕ) (least : Option ℕ) → IsPoolOf (full_quotas n) s → o ≤ 15 → least_free s.owners ≡ least → give_answer s o least ≡ unlimited_give s o least
give_same n s o None h good e = refl
give_same n s o (Some p) h good e = rw (not_over n s o p h good e) refl

alloc_same : (n : ℕ) (s : PoolState) (o : ℕ) (bad : Bool) → IsPoolOf (full_quotas n) s → nat_lt 15 o ≡ bad → (if bad then (s, BadOwner) else give_answer s o (least_free s.owners)) ≡ (if bad then (s, BadOwner) else unlimited_give s o (least_free s.owners))
alloc_same n s o true h e = refl
alloc_same n s o false h e = give_same n s o (least_free s.owners) h (ltb-false 15 o e) refl

pub same_answer : (n : ℕ) (s : PoolState) (call : PoolCall) → IsPoolOf (full_quotas n) s → pool_answer s call ≡ unlimited_answer s call
same_answer n s (Alloc o) h = alloc_same n s o (nat_lt 15 o) h refl
same_answer n s (Free o p) h = refl
same_answer n s Left h = refl

-- ---- no owner has more than its quota
abbrev Kept : PoolState × PoolReply → Type 0
Kept a = KeepsToQuotas a.0

give_quota : (s : PoolState) (o p : ℕ) → KeepsToQuotas s → least_free s.owners ≡ Some p → nat_le (quota_of s.quotas o) (held_by s.owners o) ≡ false → KeepsToQuotas (record s { owners = given s.owners p o })
give_quota s o p k e under q good =
    let free = found_free s.owners p e in
    let below = leb-false (quota_of s.quotas o) (held_by s.owners o) under in
    ⊎_elim
    (λ (same : q ≡ o). let more = held_more s.owners p o free.0 free.1 in subst (λ x. held_by (given s.owners p o) x ≤ quota_of s.quotas x) (sym same) (omega (arith, more, below)))
    (λ (d : q ≢ o). let kept = held_same s.owners p o q free.0 free.1 d in let was = k q good in omega (arith, kept, was))
    (cases_eq q o)

give_keeps : (s : PoolState) (o : ℕ) (least : Option ℕ) → KeepsToQuotas s → least_free s.owners ≡ least → KeepsToQuotas (give_answer s o least).0
give_keeps s o None k e = k
give_keeps s o (Some p) k e =
    let new : PoolState = record s { owners = given s.owners p o } in
    elim (nat_le (quota_of s.quotas o) (held_by s.owners o)) as (λ b. nat_le (quota_of s.quotas o) (held_by s.owners o) ≡ b → Kept (if b then (s, OverQuota) else (new, Page p))) [ true ↦ λ _. k | false ↦ λ under. give_quota s o p k e under ] refl

put_none : (s : PoolState) (p : ℕ) → KeepsToQuotas s → KeepsToQuotas (record s { owners = set s.owners p None })
put_none s p k q good = let less = held_no_more s.owners p q in let was = k q good in omega (arith, less, was)

release_keeps : (s : PoolState) (o p : ℕ) (owner : Option ℕ) → KeepsToQuotas s → KeepsToQuotas (release_answer s o p owner).0
release_keeps s o p None k = k
release_keeps s o p (Some other) k =
    let new : PoolState = record s { owners = set s.owners p None } in
    elim (other == o) as (λ b. Kept (if b then (new, Ok) else (s, NotYours))) [ true ↦ put_none s p k | false ↦ k ]

alloc_keeps : (s : PoolState) (o : ℕ) (bad : Bool) → KeepsToQuotas s → Kept (if bad then (s, BadOwner) else give_answer s o (least_free s.owners))
alloc_keeps s o true k = k
alloc_keeps s o false k = give_keeps s o (least_free s.owners) k refl

free_keeps : (s : PoolState) (o p : ℕ) (bad_owner bad_page : Bool) → KeepsToQuotas s → Kept (if bad_owner then (s, BadOwner) else if bad_page then (s, BadPage) else release_answer s o p (owner_of s.owners p))
free_keeps s o p true bad_page k = k
free_keeps s o p false true k = k
free_keeps s o p false false k = release_keeps s o p (owner_of s.owners p) k

pub quotas_kept : (s : PoolState) (call : PoolCall) → KeepsToQuotas s → KeepsToQuotas (pool_answer s call).0
quotas_kept s (Alloc o) k = alloc_keeps s o (nat_lt 15 o) k
quotas_kept s (Free o p) k = free_keeps s o p (nat_lt 15 o) (nat_le s.pages p) k
quotas_kept s Left k = k

pub opens_within : (p : PoolParams) → KeepsToQuotas (opening_state p)
opens_within p o good = let none = held_none p.pages o in omega (arith, none)
