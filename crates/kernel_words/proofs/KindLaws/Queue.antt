-- What is proved of queues.
use Rattle.std.proofs.{Common.{◌≡◌, ℕ, ◌≤◌, true, nat_le, arith, rules}, lemmas.Bool.{and_parts, leb-true}}
use Rattle.event_log.proofs.Distinct.{distinct_length}
use Rattle.shared_queue.specs.{State.{QueueState, IsQueueOf, opening_state}, Answer.queue_answer, declared.call.QueueCall.QueueCall, declared.queue.TheConstants.MOST_THREADS}
use Rattle.kernel_object.specs.Kinds.Queue.{of_queue}
use Rattle.kernel_words.specs.{declared.form.Form.Form, Kinds.Definition.Expresses, Kinds.Queue.queue_text, Ranges.reply_fits, Row.limit}
use Rattle.kernel_words.proofs.{KindLaws.Laws.{KindLaws, KindKeeps, all_expressed, limit_again, small_number, wide_fits}, Spellings.field_takes}
use Rattle.record_lines.proofs.{Readings.plain_decimal, Lengths.number_le}

pub queue_expressed : (form : Form) (t : ℕ) → Expresses queue_text form t
queue_expressed form t = all_expressed queue_text (λ p. tt) form t

pub queue_laws : KindLaws queue_text
queue_laws = record {
  take = λ form ws read e. let number = field_takes (limit MOST_THREADS 0) ws read e in record { text = number.text; fits = number.fit; expressed = queue_expressed form read.0 };
  again = λ form t rest fits expressed. limit_again MOST_THREADS t rest (omega arith) fits;
  plain_word = search (rules, arith);
  plain = λ form t fits. (plain_decimal t (small_number t MOST_THREADS (omega arith) fits), tt);
  short_word = omega arith;
  short = λ form t fits. omega (arith, number_le t (small_number t MOST_THREADS (omega arith) fits));
}

queue_fits : (n : ℕ) (q : QueueState) (c : QueueCall) → n ≤ 1024 → IsQueueOf n q → reply_fits (of_queue (queue_answer q c).1) ≡ true
queue_fits = search (rules, distinct_length, wide_fits)

-- by the law of a queue's states
pub queue_keeps : ((n : ℕ) → IsQueueOf n (opening_state n)) → ((n : ℕ) (q : QueueState) (c : QueueCall) → IsQueueOf n q → IsQueueOf n (queue_answer q c).0) → KindKeeps queue_text
queue_keeps opens stays = record {
  Good = λ n q. (n ≤ 1024) × IsQueueOf n q;
  opens = λ n range. (leb-true n 1024 (and_parts (nat_le 1 n) (nat_le n 1024) range).1, opens n);
  keeps = λ n q c good fits. record { good = (good.0, stays n q c good.1); fits = queue_fits n q c good.0 good.1 };
}
