-- Records that record 1 can express are sound exactly if they were before owners of pages had quotas: a pool with full quotas
-- answers as one without.
use Rattle.std.proofs.Common.{◌≡◌, ◌↔◌, ℕ, false, List, [], ◌∷◌, map, refl, sym, ap, subst, rules}
use Rattle.std.specs.List.{AllByRecursion}
use Rattle.arrayvec.specs.ArrayVec.{ArrayVec}
use Rattle.event_log.proofs.Each.{all_map, each_at}
use Rattle.event_log.specs.{declared.object.SeqObject.Ghosts, declared.event.Step.Step, declared.event.Event.Event, declared.entry.Done.Done, declared.entry.Done.TheVariants.{Steps, NoRoom}, declared.entry.Run.Run, Log.{Legal, last_refuses}}
use Rattle.page_pool.specs.{State.{PoolState, opening_state}, Owning.IsPoolOf, Answer.pool_answer, Unlimited.{unlimited_answer, full_quotas}, declared.params.PoolParams.PoolParams, declared.call.PoolCall.PoolCall}
use Rattle.page_pool.proofs.SameLogs.{legal_same}
use Rattle.sound_run.specs.Sound.{Opened, Sound, EntryIsSound, Answers, transcript_of}
use Rattle.kernel_object.specs.{declared.call.KParams.KParams, declared.call.KCall.KCall, declared.call.KReply.KReply, declared.object.KernelObject.KernelObject, contracts.object.KernelObjectSeqObject.TheImpl.{ghosts as kernel}, Kernel.{kernel_answer, kernel_opening}, Kinds.Pool.of_pool}
use Rattle.kernel_words.specs.{declared.form.Form.TheVariants.One, Forms.ExpressesParams}
use Rattle.records.specs.{RecordRanges.{Record, RecordFitsIn}, Runs.opened_of, Settings.ObjectSettings, Unlimited.{unlimited_kernel_answer, without_quotas, WasSound}}
use Rattle.kernel_object.specs.declared.call.KParams.TheVariants as Params
use Rattle.kernel_object.specs.declared.call.KCall.TheVariants as Call
use Rattle.kernel_object.specs.declared.object.KernelObject.TheVariants as Object

-- ---- two meanings of the same replies that refuse, where the first one's legal logs are the second one's

module _ {O P C R : Type 0} (first second : Ghosts O P C R) (refuse : (r : R) → first.refusing r ≡ second.refusing r) where
  refuses_same : (steps : List (Step O P C R)) → last_refuses first steps ≡ last_refuses second steps
  refuses_same [] = refl
  refuses_same (x ∷ []) = refuse x.reply
  refuses_same (x ∷ y ∷ ys) = refuses_same (y ∷ ys)

  answers_same : (opened : Opened P) (log : List (Event O P C R)) (asked : ArrayVec C) (d : Done O P C R) → Answers first opened log asked d → Answers second opened log asked d
  answers_same opened log asked (Steps s) f = record { beginning = f.beginning; whole = λ last. f.whole (subst (λ b. b ≡ false) (sym (refuses_same s.list.items)) last) }
  answers_same opened log asked NoRoom full = full

  pub sound_same : (objects : List (Opened P)) (run : Run O P C R) → AllByRecursion (λ o. (log : List (Event O P C R)) → Legal first o.params log → Legal second o.params log) objects → Sound first objects run → Sound second objects run
  sound_same objects run legal sound = record {
    counted = sound.counted;
    logs = λ x opened log object logged. let is = sound.logs x opened log object logged in record {
      legal = each_at (λ o. (log : List (Event O P C R)) → Legal first o.params log → Legal second o.params log) objects x opened legal object log is.legal;
      within = is.within;
    };
    taken = sound.taken;
    entries = λ cpu. all_map (λ e (is : EntryIsSound first objects run e). record {
      opened = is.opened;
      log = is.log;
      object = is.object;
      logged = is.logged;
      answers = answers_same is.opened is.log e.asked e.done is.answers;
    }) (transcript_of cpu run) (sound.entries cpu);
    full = sound.full;
  }

-- ---- a pool with full quotas, and any object of another kind

abbrev IsFull : KernelObject → Type 0
IsFull (Object.Pool s) = IsPoolOf (full_quotas s.pages) s
IsFull o = Unit {0}

-- the meaning from before quotas
abbrev before : Ghosts KernelObject KParams KCall KReply
before = without_quotas kernel

module _ (opens : (p : PoolParams) → IsPoolOf p (opening_state p)) (stays : (p : PoolParams) (s : PoolState) (c : PoolCall) → IsPoolOf p s → IsPoolOf p (pool_answer s c).0)
    (same : (n : ℕ) (s : PoolState) (c : PoolCall) → IsPoolOf (full_quotas n) s → pool_answer s c ≡ unlimited_answer s c) where
  answer_same : (o : KernelObject) (c : KCall) → IsFull o → kernel_answer o c ≡ unlimited_kernel_answer o c
  answer_same (Object.Pool s) (Call.Pool c) full = ap (λ (a : PoolState × _). (Object.Pool a.0, of_pool a.1)) (same s.pages s c full)
  answer_same o c full = refl

  stays_full : (o : KernelObject) (c : KCall) → IsFull o → IsFull (kernel_answer o c).0
  stays_full (Object.Pool s) (Call.Pool c) full = let is = stays (full_quotas s.pages) s c full in subst (λ n. IsPoolOf (full_quotas n) (pool_answer s c).0) (sym is.pages) is
  stays_full (Object.Pool s) c full = full
  stays_full o c full = search rules

  opens_full : (p : KParams) → ExpressesParams One p → IsFull (kernel_opening p)
  opens_full (Params.Pool p) expressed = subst (λ q. IsPoolOf q (opening_state p)) expressed (opens p)
  opens_full p expressed = tt

  legal_before : (p : KParams) → ExpressesParams One p → (log : List (Event KernelObject KParams KCall KReply)) → Legal kernel p log → Legal before p log
  legal_before p expressed log = legal_same kernel before IsFull answer_same (λ _. refl) stays_full (kernel_opening p) log (opens_full p expressed)

  legal_now : (p : KParams) → ExpressesParams One p → (log : List (Event KernelObject KParams KCall KReply)) → Legal before p log → Legal kernel p log
  legal_now p expressed log = legal_same before kernel IsFull (λ o c full. sym (answer_same o c full)) (λ _. refl) (λ o c full. subst (λ a. IsFull a.0) (answer_same o c full) (stays_full o c full)) (kernel_opening p) log (opens_full p expressed)

  -- what holds of what each object of the settings is opened with
  of_opened : (P : Opened KParams → Type 0) → ((o : ObjectSettings) → ExpressesParams One o.params → P (record { params = o.params; limit = o.events })) → (os : List ObjectSettings) → AllByRecursion (λ o. ExpressesParams One o.params) os → AllByRecursion P (map (λ o. record { params = o.params; limit = o.events }) os)
  of_opened P f [] all = tt
  of_opened P f (o ∷ os) all = (f o all.0, of_opened P f os all.1)

  pub as_before : (r : Record) → RecordFitsIn One r → Sound kernel (opened_of r.settings) r.run ↔ WasSound kernel r
  as_before r fits =
      let expressed = all_map (λ o h. h.expressed) r.settings.objects fits.0.each in (
        sound_same kernel before (λ _. refl) (opened_of r.settings) r.run (of_opened _ (λ o t. legal_before o.params t) r.settings.objects expressed),
        sound_same before kernel (λ _. refl) (opened_of r.settings) r.run (of_opened _ (λ o t. legal_now o.params t) r.settings.objects expressed),
      )

-- a record that is one that is sound is sound
pub sound_given : (x r : Record) → x ≡ r → Sound kernel (opened_of r.settings) r.run → Sound kernel (opened_of x.settings) x.run
sound_given x r is sound = subst (λ (v : Record). Sound kernel (opened_of v.settings) v.run) (sym is) sound
