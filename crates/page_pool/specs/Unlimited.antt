-- What a pool answers that has no quotas: the definition of the records that were written before owners had quotas.
use Rattle.std.specs.Prelude.{ℕ, nat_lt, nat_le, ◌&&◌, Bool, if◌then◌else◌, Option, None, Some, replicate}
use Rattle.event_log.specs.declared.object.SeqObject.{Ghosts}
use Rattle.page_pool.specs.{State.PoolState, Table.{least_free, left_of, given}, Answer.free_answer, declared.params.PoolParams.PoolParams, declared.call.PoolCall.PoolCall, declared.call.PoolCall.TheVariants.{Alloc, Free, Left}, declared.call.PoolReply.PoolReply, declared.call.PoolReply.TheVariants.{Page, NoPage, BadOwner, Count}}

-- what is answered where this is the least free page, or where there is none
abbrev pub unlimited_give : PoolState → ℕ → Option ℕ → PoolState × PoolReply
unlimited_give s o None = (s, NoPage)
unlimited_give s o (Some p) = (record s { owners = given s.owners p o }, Page p)

-- the least free page goes to the owner
abbrev pub unlimited_alloc : PoolState → ℕ → PoolState × PoolReply
unlimited_alloc s o = if nat_lt 15 o then (s, BadOwner) else unlimited_give s o (least_free s.owners)

-- the pool after the call, and the reply
abbrev pub unlimited_answer : PoolState → PoolCall → PoolState × PoolReply
unlimited_answer s (Alloc o) = unlimited_alloc s o
unlimited_answer s (Free o p) = free_answer s o p
unlimited_answer s Left = (s, Count (left_of s.owners))

-- the meaning of a pool, with these answers
abbrev pub unlimited : Ghosts PoolState PoolParams PoolCall PoolReply → Ghosts PoolState PoolParams PoolCall PoolReply
unlimited meaning = record meaning { answer = unlimited_answer }

-- whether such a pool can be opened for n pages
abbrev pub is_unlimited_range : ℕ → Bool
is_unlimited_range n = nat_le 1 n && nat_le n 4096

-- n pages, and n as each owner's quota
abbrev pub full_quotas : ℕ → PoolParams
full_quotas n = record { pages = n; quotas = replicate 16 n }
