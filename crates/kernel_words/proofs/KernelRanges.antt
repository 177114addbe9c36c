-- The replies of any object are in range where the calls are: by what the states of each kind keep.
use Rattle.std.proofs.Common.{◌≡◌, true, List, refl}
use Rattle.event_log.specs.{Log.Legal, declared.event.Event.Event}
use Rattle.kernel_object.specs.{declared.call.KParams.KParams, declared.call.KCall.KCall, declared.call.KReply.KReply, declared.object.KernelObject.KernelObject, contracts.object.KernelObjectSeqObject.TheImpl.{ghosts as kernel}, Kernel.{kernel_answer, kernel_opening, kernel_in_range}, Kinds.Queue.queue_kind, Kinds.Pool.pool_kind, Kinds.Console.console_kind, Kinds.Sched.sched_kind}
use Rattle.kernel_words.specs.{Kinds.Queue.queue_text, Kinds.Pool.pool_text, Kinds.Console.console_text, Kinds.Sched.sched_text, Ranges.{call_fits, reply_fits, log_asks, log_answers}}
use Rattle.kernel_words.proofs.{KindLaws.Laws.KindKeeps, LogRanges.{Keeps, legal_fits}}
use Rattle.kernel_object.specs.declared.call.KParams.TheVariants as Params
use Rattle.kernel_object.specs.declared.call.KCall.TheVariants as Call
use Rattle.kernel_object.specs.declared.object.KernelObject.TheVariants as Object

-- a kind's answer, as any object's
keeps_as : {S : Type 0} (Good : S → Type 0) (Any : KernelObject → Type 0) (object : S → KernelObject) → ((s : S) → Good s → Any (object s)) → (a : S × KReply) → Keeps Good reply_fits a → Keeps Any reply_fits (object a.0, a.1)
keeps_as Good Any object turn a k = record { good = turn a.0 k.good; fits = k.fits }

module _ (queue : KindKeeps queue_text) (pool : KindKeeps pool_text) (console : KindKeeps console_text) (sched : KindKeeps sched_text) where
  -- a state of an object that was opened with these parameters, which are in range
  abbrev Good : KParams → KernelObject → Type 0
  Good (Params.Queue p) (Object.Queue s) = queue.Good p s
  Good (Params.Pool p) (Object.Pool s) = pool.Good p s
  Good (Params.Console p) (Object.Console s) = console.Good p s
  Good (Params.Sched p) (Object.Sched s) = sched.Good p s
  Good p o = ⊥

  kernel_keeps : (p : KParams) (o : KernelObject) (c : KCall) → Good p o → call_fits c ≡ true → Keeps (Good p) reply_fits (kernel_answer o c)
  kernel_keeps (Params.Queue p) (Object.Queue s) (Call.Queue c) good fits = keeps_as (queue.Good p) (Good (Params.Queue p)) Object.Queue (λ t h. h) (queue_kind.answer s c) (queue.keeps p s c good fits)
  kernel_keeps (Params.Queue p) (Object.Queue s) c good fits = record { good = good; fits = refl }
  kernel_keeps (Params.Pool p) (Object.Pool s) (Call.Pool c) good fits = keeps_as (pool.Good p) (Good (Params.Pool p)) Object.Pool (λ t h. h) (pool_kind.answer s c) (pool.keeps p s c good fits)
  kernel_keeps (Params.Pool p) (Object.Pool s) c good fits = record { good = good; fits = refl }
  kernel_keeps (Params.Console p) (Object.Console s) (Call.Console c) good fits = keeps_as (console.Good p) (Good (Params.Console p)) Object.Console (λ t h. h) (console_kind.answer s c) (console.keeps p s c good fits)
  kernel_keeps (Params.Console p) (Object.Console s) c good fits = record { good = good; fits = refl }
  kernel_keeps (Params.Sched p) (Object.Sched s) (Call.Sched c) good fits = keeps_as (sched.Good p) (Good (Params.Sched p)) Object.Sched (λ t h. h) (sched_kind.answer s c) (sched.keeps p s c good fits)
  kernel_keeps (Params.Sched p) (Object.Sched s) c good fits = record { good = good; fits = refl }
  kernel_keeps p o c good fits = absurd good

  opening_good : (p : KParams) → kernel_in_range p ≡ true → Good p (kernel_opening p)
  opening_good (Params.Queue p) range = queue.opens p range
  opening_good (Params.Pool p) range = pool.opens p range
  opening_good (Params.Console p) range = console.opens p range
  opening_good (Params.Sched p) range = sched.opens p range

  pub kernel_replies_fit : (p : KParams) (log : List (Event KernelObject KParams KCall KReply)) → kernel_in_range p ≡ true → Legal kernel p log → log_asks call_fits log ≡ true → log_answers reply_fits log ≡ true
  kernel_replies_fit p log range legal asks = legal_fits kernel (Good p) call_fits reply_fits (kernel_keeps p) p log (opening_good p range) legal asks
