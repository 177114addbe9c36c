-- What a table of settings says of a pool of pages.
use Rattle.std.specs.{Prelude.{ℕ, pos, nat_abs, int_le, true, false, ◌&&◌, ◌==◌, if◌then◌else◌, Bool, replicate, List, [], ◌∷◌, Result, Ok as Read, Err}, Option.option_map_or}
use Rattle.page_pool.specs.{declared.params.PoolParams.PoolParams, declared.params.TheConstants.{MOST_PAGES, OWNERS}}
use Rattle.toml.specs.Data.{Data, Items, no_items, item, Members, as_integer, as_array}
use Rattle.scripts.specs.{declared.settings.fault.BadSettings.BadSettings, declared.settings.fault.Cause.Cause, declared.settings.fault.Cause.TheVariants.{WrongType, OutOfRange}, declared.settings.fault.SettingsPlace.SettingsPlace, declared.settings.fault.SettingsKey.TheVariants.{Pages, Quotas}, SettingsKeys.{key_in, key_or, number_from, count_items}, KindKeys.Definition.KindKeys}
use Rattle.record_lines.specs.Then.{◌>>=◌ as ◌then◌}
use Rattle.kernel_object.specs.Kinds.Pool.{pool_kind}

-- each item is an integer
unfoldable pub are_integers : Items → Bool
are_integers no_items = true
are_integers (item d ds) = option_map_or (λ z. true) (as_integer d) false && are_integers ds

-- a quota: a whole number from 0 to the most pages
unfoldable pub quota_from : Data → Result ℕ Cause
quota_from d = option_map_or (λ z. if int_le (pos 0) z && int_le z (pos MOST_PAGES) then Read (nat_abs z) else Err OutOfRange) (as_integer d) (Err WrongType)

-- a quota of each item
unfoldable pub each_quota : Items → Result (List ℕ) Cause
each_quota no_items = Read []
each_quota (item d ds) = quota_from d then λ quota. each_quota ds then λ more. Read (quota ∷ more)

-- a quota for each of the 16 owners
unfoldable pub quotas_from : Data → Result (List ℕ) Cause
quotas_from d = option_map_or (λ ds. if are_integers ds then (if count_items ds == OWNERS then each_quota ds else Err OutOfRange) else Err WrongType) (as_array d) (Err WrongType)

-- the pages, and the quotas, which are as many for each owner where the table has none
unfoldable pub pool_params_in : SettingsPlace → Members → Result PoolParams BadSettings
pool_params_in place ms = key_in place Pages (number_from MOST_PAGES) ms then λ pages. key_or place Quotas quotas_from (replicate OWNERS pages) ms then λ quotas. Read (record { pages = pages; quotas = quotas })

abbrev pub pool_keys : KindKeys pool_kind
pool_keys = record {
  params_in = pool_params_in;
  keys = Pages ∷ Quotas ∷ [];
}
