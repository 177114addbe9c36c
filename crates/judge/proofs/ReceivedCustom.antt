-- A judge that has received the parts of a record.
use Rattle.std.proofs.{Common.{◌≡◌, ◌⊎◌, ⊎_elim, ℕ, ◌+◌, ◌-◌, ◌<◌, ◌≤◌, Bool, true, false, IsTrue, refl, if◌then◌else◌, List, [], ◌∷◌, ◌++◌, length, map, take, get_or, Option, Some, None, slice_get, sym, ap, ◌∙◌, subst, arith, length-append}, lemmas.Bool.cases_lt, lemmas.List.{length-take-le, take_more, take_all}, lemmas.Option.{slice_get_within, get_or_from_slice_get}}
use Rattle.std.specs.{Prelude.{unwrap_or, slice_index}, List.AllByRecursion}
use Rattle.event_log.specs.Log.{steps_of}
use Rattle.event_log.proofs.{Each.each_at, Lists.{same_front, get_last, some_at}}
use Rattle.sound_run.proofs.Slices.{map_get}
use Rattle.auditor.specs.{ReceivedRun.{log_begun, event_received, entry_received, IsStepsOf, log_ended, transcript_begun, transcript_ended}, SoFar.{IsBeforeLog, IsInLog, HasLogs, IsInTranscripts}}
use Rattle.record_lines.specs.Received.{InLogs, InTranscripts, IsAtHead}
use Rattle.custom_records.specs.{contracts.custom_form.CustomFormRecordForm.TheImpl.{ghosts as custom_form}, Custom.{CustomEvent, CustomEntry, CustomStep}, CustomForm.Head, Ranges.{EventFits, LogFits, StepsFit}, Settings.{CustomSettings, CustomHead}}
use Rattle.judge.specs.Judging.{CustomReceivedRun, CustomTerms, custom_terms, custom_parts, begun_logs, HasCount, IsFirstWithout, IsNextWithout, HasReceivedCustom}
use Rattle.judge.proofs.CustomTerms.{terms_count, term_at}

steps_push : (log : List CustomEvent) (e : CustomEvent) → length (steps_of (log ++ e ∷ [])) ≡ length (steps_of log) + length e.steps.list.items
steps_push [] e = let n = length-append e.steps.list.items [] in omega (arith, n)
steps_push (x ∷ log) e =
    let n = length-append x.steps.list.items (steps_of (log ++ e ∷ [])) in
    let m = length-append x.steps.list.items (steps_of log) in
    let h = steps_push log e in
    omega (arith, n, m, h)

-- the steps of an event of logs that fit
pub steps_fit : (head : CustomHead) (logs : List (List CustomEvent)) (object : ℕ) (steps : List CustomStep) → AllByRecursion (LogFits head) logs → IsStepsOf logs object steps → StepsFit head steps
steps_fit head logs object steps all are =
    let log = each_at (LogFits head) logs object are.log all are.of_object in
    subst (StepsFit head) are.same (each_at (EventFits head) are.log are.place are.event log.1 are.of_log).steps

-- the logs that have no count, one log more
pub without_next : (counts : List ℕ) (logs : List (List CustomEvent)) (events : List CustomEvent) (log rest : ℕ) (old new : Option ℕ) → log ≡ length logs → rest ≡ slice_index counts (length logs) - length (steps_of events) → IsNextWithout counts log rest old new → IsFirstWithout counts logs old → IsFirstWithout counts (logs ++ events ∷ []) new
without_next counts logs events log rest old new here left next before = by old new next before
  where
    keep : (y : ℕ) → y < length logs → HasCount counts logs y → HasCount counts (logs ++ events ∷ []) y
    keep y lt h = record { count = h.count; there = h.there; within = let w = h.within in let n = ap (λ o. length (steps_of (unwrap_or o []))) (same_front logs (events ∷ []) y lt) in omega (arith, w, n) }

    back : (y : ℕ) → y < length logs → HasCount counts (logs ++ events ∷ []) y → HasCount counts logs y
    back y lt h = record { count = h.count; there = h.there; within = let w = h.within in let n = ap (λ o. length (steps_of (unwrap_or o []))) (same_front logs (events ∷ []) y lt) in omega (arith, w, n) }

    longer : length (logs ++ events ∷ []) ≡ length logs + 1
    longer = length-append logs (events ∷ [])

    last_has : HasCount counts (logs ++ events ∷ []) (length logs) → (log < length counts) × (rest ≡ 0)
    last_has h =
        let w = h.within in
        let n = ap (λ o. length (steps_of (unwrap_or o []))) (get_last logs events) in
        let i : slice_index counts (length logs) ≡ h.count = get_or_from_slice_get counts (length logs) h.count 0 h.there in
        let lt = slice_get_within counts (length logs) h.count h.there in
        (omega (arith, lt, here), omega (arith, left, w, n, i))

    has_last : log < length counts → rest ≡ 0 → HasCount counts (logs ++ events ∷ []) (length logs)
    has_last lt none =
        let c = some_at counts (length logs) (omega (arith, lt, here)) in
        let n = ap (λ o. length (steps_of (unwrap_or o []))) (get_last logs events) in
        let i : slice_index counts (length logs) ≡ c.0 = get_or_from_slice_get counts (length logs) c.0 0 c.1 in
        record { count = c.0; there = c.1; within = omega (arith, left, none, n, i) }

    by : (a b : Option ℕ) → IsNextWithout counts log rest a b → IsFirstWithout counts logs a → IsFirstWithout counts (logs ++ events ∷ []) b
    by (Some x) None step first = absurd (cc)
    by (Some x) (Some y) step first =
        let same : x ≡ y = sym (let e : y ≡ x = cc in e) in
        let lt = first.0 in
        subst (λ (z : ℕ). IsFirstWithout counts (logs ++ events ∷ []) (Some z)) same (omega (arith, lt, longer), (λ h. first.1 (back x first.0 h)), (λ z less. keep z (omega (arith, less, lt)) (first.2 z less)))
    by None None step first = λ y lt. ⊎_elim (λ less. keep y less (first y less)) (λ ge. let e : length logs ≡ y = omega (arith, lt, longer, ge) in subst (HasCount counts (logs ++ events ∷ [])) e (has_last step.0 step.1)) (cases_lt y (length logs))
    by None (Some y) step first =
        let same : length logs ≡ y = sym here ∙ sym step.0 in
        subst (λ (z : ℕ). IsFirstWithout counts (logs ++ events ∷ []) (Some z)) same (omega (arith, longer), (λ h. step.1 (last_has h)), (λ z less. keep z less (first z less)))

module _ (head : Head) (begun : Bool) (counts most : List ℕ) (log rest : ℕ) (none : Option ℕ) (d : CustomReceivedRun) (fed : HasReceivedCustom (custom_parts head begun d) counts most log rest none d) where
  abbrev Terms : List CustomTerms
  Terms = custom_terms counts head.so_far.objects

  -- so many logs were begun
  received_count : (n : ℕ) → begun_logs (custom_parts head begun d) ≡ n → n ≤ length head.so_far.objects → length d.opened ≡ n
  received_count n is few = ap length fed.opened ∙ (ap (λ k. length (take k Terms)) is ∙ length-take-le n Terms (omega (arith, few, terms_count counts head.so_far.objects)))

  pub before_log : InLogs custom_form (custom_parts head begun d) → IsAtHead (custom_parts head begun d) d.events → IsBeforeLog d
  before_log at empty =
      let more = at.more in
      record {
        logs = omega (arith, fed.objects, more);
        opened = received_count (length d.logs) (ap (λ b. if b then length d.logs + 1 else length d.logs) empty.2) (omega (arith, more));
        events = empty.0;
        transcripts = at.transcripts;
        entries = at.entries;
      }

  pub in_log : InLogs custom_form (custom_parts head begun d) → begun ≡ true → IsInLog d
  in_log at is =
      let more = at.more in
      received_count (length d.logs + 1) (ap (λ b. if b then length d.logs + 1 else length d.logs) is) (omega (arith, more))

  all_logs : (b : Bool) → length d.logs ≡ length head.so_far.objects → take (if b then length d.logs + 1 else length d.logs) Terms ≡ Terms
  all_logs true all = take_all (length d.logs + 1) Terms (omega (arith, all, terms_count counts head.so_far.objects))
  all_logs false all = take_all (length d.logs) Terms (omega (arith, all, terms_count counts head.so_far.objects))

  pub all_opened : length d.logs ≡ length head.so_far.objects → d.opened ≡ Terms
  all_opened all = fed.opened ∙ all_logs begun all

  pub has_logs : length d.logs ≡ length head.so_far.objects → d.events ≡ [] → HasLogs d
  has_logs all idle = record {
    logs = all ∙ sym fed.objects;
    opened = ap length (all_opened all) ∙ (terms_count counts head.so_far.objects ∙ sym fed.objects);
    events = idle;
  }

  pub in_transcripts : InTranscripts custom_form (custom_parts head begun d) → IsInTranscripts d
  in_transcripts at = let more = at.more in record { logs = has_logs at.log_count at.events; cpus = omega (arith, fed.cpus, more) }

  -- the terms of the object whose log comes
  term_here : (x n left : ℕ) → x < length head.so_far.objects → n ≡ get_or most x n → left ≡ slice_index counts x → slice_get Terms x ≡ Some (record { params = tt; limit = n; state = left })
  term_here x n left lt is this =
      let o = some_at head.so_far.objects x lt in
      let m = map_get (λ (v : CustomSettings). v.events) head.so_far.objects x o.0 o.1 in
      let same : o.0.events ≡ n = sym (is ∙ (ap (λ l. get_or l x n) fed.limits ∙ get_or_from_slice_get (map (λ (v : CustomSettings). v.events) head.so_far.objects) x o.0.events n m)) in
      term_at counts head.so_far.objects x o.0 o.1 ∙ (λ j. Some (record { params = tt; limit = same j; state = sym this j }))

  -- a log begins
  pub log_opened : (n limit : ℕ) → InLogs custom_form (custom_parts head begun d) → IsAtHead (custom_parts head begun d) d.events → limit ≡ get_or most log limit → HasReceivedCustom (custom_parts head true (log_begun d (record { params = tt; limit = limit; state = rest }) n)) counts most log rest none (log_begun d (record { params = tt; limit = limit; state = rest }) n)
  log_opened n limit at empty is =
      let more = at.more in
      let t : CustomTerms = record { params = tt; limit = limit; state = rest } in
      let none_yet = ap (λ l. length (steps_of l)) empty.0 in
      let left : rest ≡ slice_index counts (length d.logs) = omega (arith, fed.left, none_yet) in
      let there : slice_get Terms (length d.logs) ≡ Some t = term_here (length d.logs) limit rest more (is ∙ ap (λ k. get_or most k limit) fed.whole) left in
      let before : d.opened ≡ take (length d.logs) Terms = fed.opened ∙ ap (λ b. take (if b then length d.logs + 1 else length d.logs) Terms) empty.2 in
      record {
        limits = fed.limits;
        whole = fed.whole;
        cpus = fed.cpus;
        objects = fed.objects;
        opened = ap (λ l. l ++ t ∷ []) before ∙ sym (take_more Terms (length d.logs) t (slice_get_within Terms (length d.logs) t there) ∙ ap (λ v. take (length d.logs) Terms ++ v ∷ []) (get_or_from_slice_get Terms (length d.logs) t t there));
        left = fed.left;
        without = fed.without;
      }

  -- an event more
  pub event_more : (e : CustomEvent) (left : ℕ) → left ≡ rest - length e.steps.list.items → HasReceivedCustom (custom_parts head begun (event_received d e)) counts most log left none (event_received d e)
  event_more e left less =
      let n = steps_push d.events e in
      record { limits = fed.limits; whole = fed.whole; cpus = fed.cpus; objects = fed.objects; opened = fed.opened; left = omega (arith, less, n, fed.left); without = fed.without }

  -- an entry more, or none
  pub entry_known : (yes : Bool) (new : CustomReceivedRun) → (IsTrue yes → (e : CustomEntry) × (new ≡ entry_received d e)) → (yes ≡ false → new ≡ d) → HasReceivedCustom (custom_parts head begun new) counts most log rest none new
  entry_known true new known unknown =
      subst (λ (z : CustomReceivedRun). HasReceivedCustom (custom_parts head begun z) counts most log rest none z) (sym (known refl).1)
      (record { limits = fed.limits; whole = fed.whole; cpus = fed.cpus; objects = fed.objects; opened = fed.opened; left = fed.left; without = fed.without })
  entry_known false new known unknown = subst (λ (z : CustomReceivedRun). HasReceivedCustom (custom_parts head begun z) counts most log rest none z) (sym (unknown refl)) fed

  -- the log is whole
  pub log_more : (next left : ℕ) (new : Option ℕ) → begun ≡ true → next ≡ log + 1 → left ≡ slice_index counts next → IsNextWithout counts log rest none new → HasReceivedCustom (custom_parts head false (log_ended d)) counts most next left new (log_ended d)
  log_more next left new is_begun is this step =
      let longer = length-append d.logs (d.events ∷ []) in
      let w = fed.whole in
      record {
        limits = fed.limits;
        whole = omega (arith, is, w, longer);
        cpus = fed.cpus;
        objects = fed.objects;
        opened = fed.opened ∙ (ap (λ b. take (if b then length d.logs + 1 else length d.logs) Terms) is_begun ∙ ap (λ k. take k Terms) (sym longer));
        left = (let same : next ≡ length (d.logs ++ d.events ∷ []) = omega (arith, is, w, longer) in let e = this ∙ ap (slice_index counts) same in omega (arith, e));
        without = without_next counts d.logs d.events log rest none new fed.whole fed.left step fed.without;
      }

  -- a transcript begins, and is whole
  pub transcript_opened : (n : ℕ) → InTranscripts custom_form (custom_parts head begun d) → HasReceivedCustom (custom_parts head true (transcript_begun d n)) counts most log rest none (transcript_begun d n)
  transcript_opened n at = record { limits = fed.limits; whole = fed.whole; cpus = fed.cpus; objects = fed.objects; opened = all_opened at.log_count ∙ sym (all_logs true at.log_count); left = fed.left; without = fed.without }

  pub transcript_more : InTranscripts custom_form (custom_parts head begun d) → HasReceivedCustom (custom_parts head false (transcript_ended d)) counts most log rest none (transcript_ended d)
  transcript_more at = record { limits = fed.limits; whole = fed.whole; cpus = fed.cpus; objects = fed.objects; opened = all_opened at.log_count ∙ sym (all_logs false at.log_count); left = fed.left; without = fed.without }
