-- What a table of settings says of a scheduler.
use Rattle.std.specs.Prelude.{Result, Ok as Read, [], ◌∷◌}
use Rattle.wake_list.specs.{declared.sched.SchedParams.SchedParams, declared.sched.TheConstants.{MOST_THREADS, MOST_CHANNELS}}
use Rattle.toml.specs.Data.{Members}
use Rattle.scripts.specs.{declared.settings.fault.BadSettings.BadSettings, declared.settings.fault.SettingsPlace.SettingsPlace, declared.settings.fault.SettingsKey.TheVariants.{Threads, Channels}, SettingsKeys.{key_in, number_from}, KindKeys.Definition.KindKeys}
use Rattle.record_lines.specs.Then.{◌>>=◌ as ◌then◌}
use Rattle.kernel_object.specs.Kinds.Sched.{sched_kind}

-- the threads and the channels of settings
unfoldable pub sched_params_in : SettingsPlace → Members → Result SchedParams BadSettings
sched_params_in place ms = key_in place Threads (number_from MOST_THREADS) ms then λ threads. key_in place Channels (number_from MOST_CHANNELS) ms then λ channels. Read (record { threads = threads; channels = channels })

abbrev pub sched_keys : KindKeys sched_kind
sched_keys = record {
  params_in = sched_params_in;
  keys = Threads ∷ Channels ∷ [];
}
