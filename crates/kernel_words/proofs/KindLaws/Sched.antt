-- What is proved of schedulers.
use Rattle.std.proofs.{Common.{◌≡◌, ℕ, ◌<◌, ◌≤◌, true, false, Bool, if◌then◌else◌, ◌&&◌, nat_le, Some, List, [], ◌∷◌, length, length-append, append_assoc, refl, ap, subst, ◌∙◌, arith, rules, decimal}, lemmas.Bool.and_parts}
use Rattle.std.specs.{Cmp.Derive.both_true, List.concat}
use Rattle.event_log.specs.Distinct.{AreDistinctBelow}
use Rattle.event_log.proofs.Distinct.{distinct_length, distinct_rest}
use Rattle.wake_list.specs.{State.{SchedState, held, IsSchedOf, is_in_range, opening_state}, Answer.{sched_answer, woken_answer, sleepers}, declared.call.SchedCall.SchedCall, declared.call.SchedCall.TheVariants.{Ready, Next, Sleep, Wake, WakeAll}, declared.call.SchedReply.SchedReply, declared.call.SchedReply.TheVariants.BadChannel, declared.sched.SchedParams.SchedParams, declared.sched.TheConstants.{MOST_THREADS, MOST_CHANNELS}}
use Rattle.kernel_object.specs.Kinds.Sched.{of_sched}
use Rattle.kernel_words.specs.{declared.form.Form.Form, Kinds.Sched.{sched_params_at, sched_text}, Ranges.reply_fits, Row.{limit, field_at}}
use Rattle.kernel_words.proofs.{KindLaws.Laws.{KindLaws, KindKeeps, ReadsParams, all_expressed, limit_again, small_number, wide_fits}, Spellings.field_takes}
use Rattle.record_lines.proofs.{Readings.{bind_some, plain_decimal}, Lengths.number_le}

-- ---- parameters

-- the parts of a scheduler's range
sched_parts : (p : SchedParams) → is_in_range p ≡ true → ((nat_le 1 p.threads && nat_le p.threads MOST_THREADS) ≡ true) × ((nat_le 1 p.channels && nat_le p.channels MOST_CHANNELS) ≡ true)
sched_parts p range =
    let outer = and_parts (nat_le 1 p.threads && nat_le p.threads 1024 && nat_le 1 p.channels) (nat_le p.channels 64) range in
    let inner = and_parts (nat_le 1 p.threads && nat_le p.threads 1024) (nat_le 1 p.channels) outer.0 in
    (inner.0, both_true inner.1 outer.1)

pub sched_range : (p : SchedParams) → (nat_le 1 p.threads && nat_le p.threads MOST_THREADS) ≡ true → (nat_le 1 p.channels && nat_le p.channels MOST_CHANNELS) ≡ true → is_in_range p ≡ true
sched_range p threads channels = let both = and_parts (nat_le 1 p.channels) (nat_le p.channels 64) channels in both_true (both_true threads both.0) both.1

sched_take : (form : Form) (ws : List (List ℕ)) (read : SchedParams × List (List ℕ)) → sched_params_at ws ≡ Some read → ReadsParams sched_text form ws read
unfolding sched_params_at
sched_take form ws read e = bind_some (field_at (limit MOST_THREADS 0) ws) _ read e (λ n found next. bind_some (field_at (limit MOST_CHANNELS 0) n.1) _ read next (λ m more last.
    let is : ◌≡◌ {A = SchedParams × List (List ℕ)} (record { threads = n.0; channels = m.0 }, m.1) read = cc in
    let threads = field_takes (limit MOST_THREADS 0) ws n found in
    let channels = field_takes (limit MOST_CHANNELS 0) n.1 m more in
    subst (ReadsParams sched_text form ws) is (record {
      text = threads.text ∙ ap (λ l. decimal n.0 ∷ l) channels.text;
      fits = sched_range (record { threads = n.0; channels = m.0 }) threads.fit channels.fit;
      expressed = all_expressed sched_text (λ p. tt) form (record { threads = n.0; channels = m.0 });
    })))

sched_again : (p : SchedParams) (rest : List (List ℕ)) → is_in_range p ≡ true → sched_params_at (decimal p.threads ∷ decimal p.channels ∷ rest) ≡ Some (p, rest)
unfolding sched_params_at
sched_again p rest fits =
    let both = sched_parts p fits in
    rw (limit_again MOST_THREADS p.threads (decimal p.channels ∷ rest) (omega arith) both.0, limit_again MOST_CHANNELS p.channels rest (omega arith) both.1) refl

pub sched_laws : KindLaws sched_text
sched_laws = record {
  take = sched_take;
  again = λ form p rest fits expressed. sched_again p rest fits;
  plain_word = search (rules, arith);
  plain = λ form p fits.
      let both = sched_parts p fits in
      (plain_decimal p.threads (small_number p.threads MOST_THREADS (omega arith) both.0), (plain_decimal p.channels (small_number p.channels MOST_CHANNELS (omega arith) both.1), tt));
  short_word = omega arith;
  short = λ form p fits.
      let both = sched_parts p fits in
      omega (arith, number_le p.threads (small_number p.threads MOST_THREADS (omega arith) both.0), number_le p.channels (small_number p.channels MOST_CHANNELS (omega arith) both.1));
}

-- ---- replies

abbrev sched_fits : SchedReply → Bool
sched_fits r = reply_fits (of_sched r)

abbrev Once : ℕ → SchedState × SchedReply → Type 0
Once n a = AreDistinctBelow n (held a.0)

abbrev Fits : SchedState × SchedReply → Type 0
Fits a = sched_fits a.1 ≡ true

-- who is woken stands at the ready end then
woken_fits : (n : ℕ) (s : SchedState) (c : ℕ) (ts : List ℕ) → n ≤ 1024 → Once n (woken_answer s c ts) → Fits (woken_answer s c ts)
woken_fits n s c [] few once = refl
woken_fits n s c (t ∷ rest) few once =
    let after : SchedState = (woken_answer s c (t ∷ rest)).0 in
    let lt : t < n = (distinct_rest n s.ready (t ∷ concat after.channels) (subst (λ l. AreDistinctBelow n l) (append_assoc s.ready (t ∷ []) (concat after.channels)) once)).0 in
    wide_fits t (omega (arith, lt, few))

wake_fits : (n : ℕ) (s : SchedState) (c : ℕ) (a : Bool) → n ≤ 1024 → Once n (if a then (s, BadChannel) else woken_answer s c (sleepers s c)) → Fits (if a then (s, BadChannel) else woken_answer s c (sleepers s c))
wake_fits n s c true few once = refl
wake_fits n s c false few once = woken_fits n s c (sleepers s c) few once

answer_fits : (n : ℕ) (s : SchedState) (c : SchedCall) → n ≤ 1024 → Once n (s, BadChannel) → Once n (sched_answer s c) → Fits (sched_answer s c)
answer_fits n s (Ready t) few had once = search rules
answer_fits n s Next few had once = search (rules, wide_fits)
answer_fits n s (Sleep c t) few had once = search rules
answer_fits n s (Wake c) few had once = wake_fits n s c (nat_le (length s.channels) c) few once
answer_fits n s (WakeAll c) few had once = search (rules, distinct_length, length-append, wide_fits)

-- by the law of a scheduler's states
pub sched_keeps : ((p : SchedParams) → IsSchedOf p (opening_state p)) → ((p : SchedParams) (s : SchedState) (c : SchedCall) → IsSchedOf p s → IsSchedOf p (sched_answer s c).0) → KindKeeps sched_text
sched_keeps opens stays = record {
  Good = λ p s. (p.threads ≤ 1024) × IsSchedOf p s;
  opens = λ p range. (search rules, opens p);
  keeps = λ p s c good fits.
      let t = stays p s c good.1 in
      record { good = (good.0, t); fits = answer_fits p.threads s c good.0 (subst (λ n. AreDistinctBelow n (held s)) good.1.threads good.1.once) (subst (λ n. AreDistinctBelow n (held (sched_answer s c).0)) t.threads t.once) };
}
