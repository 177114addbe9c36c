-- How a queue of threads is spelled.
use Rattle.std.specs.Prelude.{ℕ, List, [], ◌∷◌, codes, decimal}
use Rattle.shared_queue.specs.{declared.call.QueueCall.QueueCall, declared.call.QueueCall.TheVariants.{Enq, Deq, Remove, Len}, declared.queue.TheConstants.MOST_THREADS}
use Rattle.kernel_object.specs.Kinds.Queue.{queue_kind}
use Rattle.kernel_words.specs.{Row.{Row, first, wide, limit, field_at}, Kinds.Definition.KindText}

-- how a call is spelled
abbrev pub queue_row : QueueCall → Row
queue_row (Enq t) = record { word = codes "enq"; fields = wide t ∷ [] }
queue_row Deq = record { word = codes "deq"; fields = [] }
queue_row (Remove t) = record { word = codes "remove"; fields = wide t ∷ [] }
queue_row Len = record { word = codes "len"; fields = [] }

-- the call of the same word with these numbers
abbrev pub queue_filled : QueueCall → List ℕ → QueueCall
queue_filled (Enq _) ns = Enq (first ns)
queue_filled Deq ns = Deq
queue_filled (Remove _) ns = Remove (first ns)
queue_filled Len ns = Len

abbrev pub queue_text : KindText queue_kind
queue_text = record {
  ExpressedByFirst = λ threads. Unit {0};
  params_words = λ form threads. decimal threads ∷ [];
  params_at = λ form ws. field_at (limit MOST_THREADS 0) ws;
  row = queue_row;
  filled = queue_filled;
  samples = Enq 0 ∷ Deq ∷ Remove 0 ∷ Len ∷ [];
}
