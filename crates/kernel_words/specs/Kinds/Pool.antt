-- How a pool of pages is spelled.
use Rattle.std.specs.Prelude.{◌≡◌, ℕ, replicate, List, [], ◌∷◌, map, Option, Some, codes, decimal}
use Rattle.page_pool.specs.{Unlimited.full_quotas, declared.call.PoolCall.PoolCall, declared.call.PoolCall.TheVariants.{Alloc, Free, Left}, declared.params.PoolParams.PoolParams, declared.params.TheConstants.{MOST_PAGES, OWNERS}}
use Rattle.kernel_object.specs.Kinds.Pool.{pool_kind}
use Rattle.kernel_words.specs.{declared.form.Form.Form, declared.form.Form.TheVariants.{One, Two}, Row.{Row, first, others, wide, limit, up_to, field_at, numbers_at}, Kinds.Definition.KindText}
use Rattle.record_lines.specs.Reading.{◌>>=◌}

-- how a call is spelled
abbrev pub pool_row : PoolCall → Row
pool_row (Alloc o) = record { word = codes "alloc"; fields = wide o ∷ [] }
pool_row (Free o p) = record { word = codes "free"; fields = wide o ∷ wide p ∷ [] }
pool_row Left = record { word = codes "left"; fields = [] }

-- the call of the same word with these numbers
abbrev pub pool_filled : PoolCall → List ℕ → PoolCall
pool_filled (Alloc _) ns = Alloc (first ns)
pool_filled (Free _ _) ns = Free (first ns) (first (others ns))
pool_filled Left ns = Left

-- ---- parameters in a record

-- the quotas of a pool, which record 1 doesn't express
abbrev pub quota_words : Form → List ℕ → List (List ℕ)
quota_words One quotas = []
quota_words Two quotas = map decimal quotas

-- the quotas of all owners
unfoldable pub all_quotas_at : List (List ℕ) → Option (List ℕ × List (List ℕ))
all_quotas_at ws = numbers_at (replicate OWNERS (up_to MOST_PAGES 0)) ws

-- a pool's quotas, which in record 1 are its number of pages
unfoldable pub quotas_at : Form → ℕ → List (List ℕ) → Option (List ℕ × List (List ℕ))
quotas_at One pages ws = Some (replicate OWNERS pages, ws)
quotas_at Two pages ws = all_quotas_at ws

-- the pages, and the quotas
unfoldable pub pool_params_at : Form → List (List ℕ) → Option (PoolParams × List (List ℕ))
pool_params_at form ws = do
  pages ← field_at (limit MOST_PAGES 0) ws
  quotas ← quotas_at form pages.0 pages.1
  Some (record { pages = pages.0; quotas = quotas.0 }, quotas.1)

-- ---- parameters in settings

-- ---- the record

abbrev pub pool_text : KindText pool_kind
pool_text = record {
  -- without quotas, only a pool whose quotas are all its number of pages
  ExpressedByFirst = λ p. p ≡ full_quotas p.pages;
  params_words = λ form p. decimal p.pages ∷ quota_words form p.quotas;
  params_at = pool_params_at;
  row = pool_row;
  filled = pool_filled;
  samples = Alloc 0 ∷ Free 0 0 ∷ Left ∷ [];
}
