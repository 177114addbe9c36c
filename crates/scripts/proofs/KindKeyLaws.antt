-- Parameters of settings are in their ranges.
use Rattle.std.proofs.{Common.{◌≡◌, ℕ, ℤ, pos, negsuc, suc, ◌==◌, true, List, [], ◌∷◌, length, replicate, Ok, Err, refl, ◌∙◌, ap, subst, if◌then◌else◌, int_le, nat_abs, nat_le, ◌&&◌}, lemmas.Bool.{and_parts, le-leb, eqb-true}}
use Rattle.std.specs.List.{list_all}
use Rattle.toml.specs.Data.{Data, Items, no_items, item, Members, as_integer, as_array}
use Rattle.page_pool.specs.{State.is_in_range, declared.params.PoolParams.PoolParams, declared.params.TheConstants.{MOST_PAGES, OWNERS}}
use Rattle.scripts.specs.{declared.settings.fault.SettingsPlace.SettingsPlace, declared.settings.fault.SettingsKey.TheVariants.{Pages, Quotas as QuotasKey, Threads, Channels, Bytes}, KindKeys.Pool.{are_integers, quota_from, each_quota, quotas_from, pool_params_in}, SettingsKeys.{key_in, key_or, number_from, count_items}, KindKeys.Sched.sched_params_in, KindKeys.Definition.KindKeys, KindKeys.All.keys_by}
use Rattle.scripts.proofs.SettingsKeys.{bind_ok, map_or_ok, if_ok, number_in, one_fits, key_or_ok}
use Rattle.kernel_words.proofs.{KindLaws.Pool.{is_quota, full_are, pool_in_range, AreQuotas}, KindLaws.Sched.sched_range}
use Rattle.wake_list.specs.{State.{is_in_range as sched_in_range}, declared.sched.SchedParams.SchedParams, declared.sched.TheConstants.{MOST_THREADS, MOST_CHANNELS}}
use Rattle.shared_queue.specs.declared.queue.TheConstants.{MOST_THREADS as QUEUE_THREADS}
use Rattle.console_ring.specs.declared.console.TheConstants.{MOST_BYTES}
use Rattle.kernel_object.specs.{Kinds.Definition.KindDefinition, declared.kind.Kind.Kind}
use Rattle.kernel_object.specs.declared.kind.Kind.TheVariants as kinds

low_enough : (high : ℕ) (z : ℤ) → (int_le (pos 0) z && int_le z (pos high)) ≡ true → nat_le (nat_abs z) high ≡ true
low_enough high (pos n) e = (and_parts (nat_le 0 n) (nat_le n high) e).1
low_enough high (negsuc n) e = absurd cc

quota_ok : (d : Data) (n : ℕ) → quota_from d ≡ Ok n → nat_le n MOST_PAGES ≡ true
unfolding quota_from
quota_ok d n e =
    let there = map_or_ok (as_integer d) _ _ n e in
    let test = if_ok (int_le (pos 0) there.0 && int_le there.0 (pos MOST_PAGES)) (Ok (nat_abs there.0)) _ n there.2 in
    let same : nat_abs there.0 ≡ n = cc in
    subst (λ m. nat_le m MOST_PAGES ≡ true) same (low_enough MOST_PAGES there.0 test.0)

each_quota_ok : (ds : Items) (qs : List ℕ) → each_quota ds ≡ Ok qs → (length qs ≡ count_items ds) × (list_all is_quota qs ≡ true)
unfolding each_quota
each_quota_ok no_items [] e = (refl, refl)
each_quota_ok no_items (q ∷ qs) e = absurd cc
each_quota_ok (item d ds) qs e =
    let quota = bind_ok (quota_from d) _ qs e in
    let more = bind_ok (each_quota ds) _ qs quota.2 in
    let same : quota.0 ∷ more.0 ≡ qs = cc in
    let all = each_quota_ok ds more.0 more.1 in
    subst (λ x. (length x ≡ suc (count_items ds)) × (list_all is_quota x ≡ true)) same (ap suc all.0, rw (quota_ok d quota.0 quota.1, all.1) refl)

quotas_ok : (d : Data) (qs : List ℕ) → quotas_from d ≡ Ok qs → AreQuotas qs
unfolding quotas_from
quotas_ok d qs e =
    let there = map_or_ok (as_array d) _ _ qs e in
    let integers = if_ok (are_integers there.0) (if count_items there.0 == OWNERS then each_quota there.0 else Err _) _ qs there.2 in
    let counted = if_ok (count_items there.0 == OWNERS) (each_quota there.0) _ qs integers.1 in
    let all = each_quota_ok there.0 qs counted.1 in
    record { count = all.0 ∙ eqb-true (count_items there.0) OWNERS counted.0; each = all.1 }

-- the quotas of a pool of so many pages
quotas_in : (place : SettingsPlace) (ms : Members) (pages : ℕ) (qs : List ℕ) → is_quota pages ≡ true → key_or place QuotasKey quotas_from (replicate OWNERS pages) ms ≡ Ok qs → AreQuotas qs
quotas_in place ms pages qs few e = key_or_ok AreQuotas place QuotasKey quotas_from (replicate OWNERS pages) ms qs (λ d. quotas_ok d qs) (full_are pages few) e

pool_set : (place : SettingsPlace) (ms : Members) (p : PoolParams) → pool_params_in place ms ≡ Ok p → is_in_range p ≡ true
unfolding pool_params_in
pool_set place ms p e =
    let pages = bind_ok (key_in place Pages (number_from MOST_PAGES) ms) _ p e in
    let quotas = bind_ok (key_or place QuotasKey quotas_from (replicate OWNERS pages.0) ms) _ p pages.2 in
    let same : record { pages = pages.0; quotas = quotas.0 } ≡ p = cc in
    let number = number_in place Pages MOST_PAGES ms pages.0 pages.1 in
    let all = quotas_in place ms pages.0 quotas.0 (le-leb pages.0 MOST_PAGES number.1) quotas.1 in
    subst (λ q. is_in_range q ≡ true) same (pool_in_range (record { pages = pages.0; quotas = quotas.0 }) (one_fits pages.0 MOST_PAGES number) all)

sched_set : (place : SettingsPlace) (ms : Members) (p : SchedParams) → sched_params_in place ms ≡ Ok p → sched_in_range p ≡ true
unfolding sched_params_in
sched_set place ms p e =
    let threads = bind_ok (key_in place Threads (number_from MOST_THREADS) ms) _ p e in
    let channels = bind_ok (key_in place Channels (number_from MOST_CHANNELS) ms) _ p threads.2 in
    let same : record { threads = threads.0; channels = channels.0 } ≡ p = cc in
    subst (λ q. sched_in_range q ≡ true) same (sched_range (record { threads = threads.0; channels = channels.0 })
    (one_fits threads.0 MOST_THREADS (number_in place Threads MOST_THREADS ms threads.0 threads.1)) (one_fits channels.0 MOST_CHANNELS (number_in place Channels MOST_CHANNELS ms channels.0 channels.1)))

-- what a table of settings says is in its range
abbrev SetsInRange : {d : KindDefinition} → KindKeys d → Type 0
SetsInRange {d} k = (place : SettingsPlace) (ms : Members) (p : d.Params) → k.params_in place ms ≡ Ok p → d.in_range p ≡ true

pub sets_in_range : (k : Kind) → SetsInRange (keys_by k)
sets_in_range kinds.Queue = λ place ms t e. one_fits t QUEUE_THREADS (number_in place Threads QUEUE_THREADS ms t e)
sets_in_range kinds.Pool = pool_set
sets_in_range kinds.Console = λ place ms b e. one_fits b MOST_BYTES (number_in place Bytes MOST_BYTES ms b e)
sets_in_range kinds.Sched = sched_set
