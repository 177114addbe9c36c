-- How a scheduler is spelled.
use Rattle.std.specs.Prelude.{ℕ, List, [], ◌∷◌, Option, Some, codes, decimal}
use Rattle.wake_list.specs.{declared.call.SchedCall.SchedCall, declared.call.SchedCall.TheVariants.{Ready, Next, Sleep, Wake, WakeAll}, declared.sched.SchedParams.SchedParams, declared.sched.TheConstants.{MOST_THREADS, MOST_CHANNELS}}
use Rattle.kernel_object.specs.Kinds.Sched.{sched_kind}
use Rattle.record_lines.specs.Reading.{◌>>=◌}
use Rattle.kernel_words.specs.{Row.{Row, first, others, wide, limit, field_at}, Kinds.Definition.KindText}

-- how a call is spelled
abbrev pub sched_row : SchedCall → Row
sched_row (Ready t) = record { word = codes "ready"; fields = wide t ∷ [] }
sched_row Next = record { word = codes "next"; fields = [] }
sched_row (Sleep c t) = record { word = codes "sleep"; fields = wide c ∷ wide t ∷ [] }
sched_row (Wake c) = record { word = codes "wake"; fields = wide c ∷ [] }
sched_row (WakeAll c) = record { word = codes "wakeall"; fields = wide c ∷ [] }

-- the call of the same word with these numbers
abbrev pub sched_filled : SchedCall → List ℕ → SchedCall
sched_filled (Ready _) ns = Ready (first ns)
sched_filled Next ns = Next
sched_filled (Sleep _ _) ns = Sleep (first ns) (first (others ns))
sched_filled (Wake _) ns = Wake (first ns)
sched_filled (WakeAll _) ns = WakeAll (first ns)

-- the threads and the channels that are next
unfoldable pub sched_params_at : List (List ℕ) → Option (SchedParams × List (List ℕ))
sched_params_at ws = do
  threads ← field_at (limit MOST_THREADS 0) ws
  channels ← field_at (limit MOST_CHANNELS 0) threads.1
  Some (record { threads = threads.0; channels = channels.0 }, channels.1)

abbrev pub sched_text : KindText sched_kind
sched_text = record {
  ExpressedByFirst = λ p. Unit {0};
  params_words = λ form p. decimal p.threads ∷ decimal p.channels ∷ [];
  params_at = λ form ws. sched_params_at ws;
  row = sched_row;
  filled = sched_filled;
  samples = Ready 0 ∷ Next ∷ Sleep 0 0 ∷ Wake 0 ∷ WakeAll 0 ∷ [];
}
