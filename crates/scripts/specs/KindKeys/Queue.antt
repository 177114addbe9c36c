-- What a table of settings says of a queue of threads.
use Rattle.std.specs.Prelude.{[], ◌∷◌}
use Rattle.shared_queue.specs.declared.queue.TheConstants.{MOST_THREADS}
use Rattle.kernel_object.specs.Kinds.Queue.{queue_kind}
use Rattle.scripts.specs.{declared.settings.fault.SettingsKey.TheVariants.Threads, SettingsKeys.{key_in, number_from}, KindKeys.Definition.KindKeys}

abbrev pub queue_keys : KindKeys queue_kind
queue_keys = record {
  params_in = λ place ms. key_in place Threads (number_from MOST_THREADS) ms;
  keys = Threads ∷ [];
}
