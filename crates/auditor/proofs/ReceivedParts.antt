-- A judge that has received the parts of a record.
use Rattle.std.proofs.{Common.{◌≡◌, ◌≤◌, ◌+◌, ◌++◌, ℕ, Bool, true, false, if◌then◌else◌, List, [], ◌∷◌, length, take, Some, slice_get, sym, ap, ◌∙◌, subst, arith}, lemmas.List.{length-map, length-take-le, take_more, take_all}, lemmas.Option.{slice_get_within, get_or_from_slice_get}}
use Rattle.std.specs.List.{AllByRecursion}
use Rattle.sound_run.specs.Sound.{Opened}
use Rattle.sound_run.proofs.Slices.{map_get, get_map}
use Rattle.kernel_object.specs.{declared.call.KParams.KParams, declared.call.KCall.KCall, declared.call.KReply.KReply, declared.object.KernelObject.KernelObject, contracts.object.KernelObjectSeqObject.TheImpl.{ghosts as kernel}, Kernel.kernel_in_range}
use Rattle.kernel_words.specs.declared.form.Form.{Form}
use Rattle.record_lines.specs.Received.{InLogs, InTranscripts, IsAtHead, IsWholeWith}
use Rattle.records.specs.{contracts.record.kernel_form.KernelFormRecordForm.TheImpl.{ghosts as kernel_form}, KernelForm.{Head, settings_in}, RecordRanges.RecordFits, RecordStates.{KernelReceived, received_record}, Runs.opened_of, Settings.ObjectFits}
use Rattle.auditor.specs.{ReceivedRun.{ReceivedRun, log_begun, run_of}, JudgedParts.{judged_parts, begun_logs, HasReceivedParts}, Passes.IsRunOver, SoFar.{IsBeforeLog, IsInLog, HasLogs, IsInTranscripts}, Terms.{Terms, terms_at, start, starts}, Transcripts.judged_by}
use Rattle.auditor.proofs.{JudgeTerms.{started, run_over}, RecordRuns.{KernelTerms, object_opened, record_run}, Verdicts.all_at}

module _ (head : Head) (begun : Bool) (opened : List KernelTerms) (log : ℕ) (d : ReceivedRun KernelObject KernelObject KParams KCall KReply) (fed : HasReceivedParts (judged_parts head begun d) opened log d) where
  abbrev P : KernelReceived
  P = judged_parts head begun d

  -- as many are opened as there are objects
  pub opened_count : length opened ≡ length head.objects
  opened_count = sym (length-map opened judged_by) ∙ (ap length fed.same ∙ length-map head.objects object_opened)

  -- the terms of all of them
  abbrev all : List (Terms KParams KernelObject)
  all = starts kernel (opened_of (settings_in head))

  all_count : length all ≡ length head.objects
  all_count = length-map (opened_of (settings_in head)) (start kernel) ∙ length-map head.objects object_opened

  -- so many logs were begun
  received_count : (n : ℕ) → begun_logs P ≡ n → n ≤ length head.objects → length d.opened ≡ n
  received_count n is few = ap length fed.begun ∙ (ap (λ k. length (take k all)) is ∙ length-take-le n all (omega (arith, few, all_count)))

  -- what is opened at a place has parameters in range
  pub opened_able : (form : Form) (x : ℕ) (t : KernelTerms) → AllByRecursion (ObjectFits form) head.objects → slice_get opened x ≡ Some t → kernel.in_range t.params ≡ true
  opened_able form x t fits at =
      let o = get_map object_opened head.objects x (judged_by t) (ap (λ l. slice_get l x) (sym fed.same) ∙ map_get judged_by opened x t at) in
      let params : o.0.params ≡ t.params = ap (λ (v : Opened KParams). v.params) o.2 in
      ap kernel_in_range (sym params) ∙ (all_at (ObjectFits form) head.objects fits x o.0 o.1).params

  pub before_log : InLogs kernel_form P → IsAtHead P d.events → IsBeforeLog d
  before_log at here =
      let more = at.more in
      record {
        logs = omega (arith, fed.objects, more);
        opened = received_count (length d.logs) (ap (λ b. if b then length d.logs + 1 else length d.logs) here.2) (omega (arith, more));
        events = here.0;
        transcripts = at.transcripts;
        entries = at.entries;
      }

  pub in_log : InLogs kernel_form P → begun ≡ true → IsInLog d
  in_log at is =
      let more = at.more in
      received_count (length d.logs + 1) (ap (λ b. if b then length d.logs + 1 else length d.logs) is) (omega (arith, more))

  all_logs : (b : Bool) → length d.logs ≡ length head.objects → take (if b then length d.logs + 1 else length d.logs) all ≡ all
  all_logs true whole = take_all (length d.logs + 1) all (omega (arith, whole, all_count))
  all_logs false whole = take_all (length d.logs) all (omega (arith, whole, all_count))

  pub all_opened : length d.logs ≡ length head.objects → d.opened ≡ all
  all_opened whole = fed.begun ∙ all_logs begun whole

  pub has_logs : length d.logs ≡ length head.objects → d.events ≡ [] → HasLogs d
  has_logs whole none = record {
    logs = whole ∙ sym fed.objects;
    opened = ap length (all_opened whole) ∙ (all_count ∙ sym fed.objects);
    events = none;
  }

  pub in_transcripts : InTranscripts kernel_form P → IsInTranscripts d
  in_transcripts at = let more = at.more in record { logs = has_logs at.log_count at.events; cpus = omega (arith, fed.cpus, more) }

  -- the terms at a place
  term_here : (t : KernelTerms) → slice_get opened (length d.logs) ≡ Some t → slice_get all (length d.logs) ≡ Some (start kernel (judged_by t))
  term_here t here =
      let at : slice_get (opened_of (settings_in head)) (length d.logs) ≡ Some (judged_by t) = ap (λ l. slice_get l (length d.logs)) (sym fed.same) ∙ map_get judged_by opened (length d.logs) t here in
      map_get (start kernel) (opened_of (settings_in head)) (length d.logs) (judged_by t) at

  -- a log more is begun
  pub begun_more : (t : KernelTerms) → InLogs kernel_form P → begun ≡ false → slice_get opened (length d.logs) ≡ Some t → d.opened ++ start kernel (judged_by t) ∷ [] ≡ take (length d.logs + 1) all
  begun_more t at is here =
      let term = start kernel (judged_by t) in
      let there = term_here t here in
      let before : d.opened ≡ take (length d.logs) all = fed.begun ∙ ap (λ b. take (if b then length d.logs + 1 else length d.logs) all) is in
      ap (λ l. l ++ term ∷ []) before ∙ sym (take_more all (length d.logs) term (slice_get_within all (length d.logs) term there) ∙ ap (λ v. take (length d.logs) all ++ v ∷ []) (get_or_from_slice_get all (length d.logs) term term there))

  pub log_more : (t : KernelTerms) (s : KernelObject) (n : ℕ) → s ≡ kernel.opening t.params → InLogs kernel_form P → begun ≡ false → slice_get opened (length d.logs) ≡ Some t
      → HasReceivedParts (judged_parts head true (log_begun d (terms_at t s) n)) opened log (log_begun d (terms_at t s) n)
  log_more t s n is at idle here = record {
    cpus = fed.cpus;
    objects = fed.objects;
    same = fed.same;
    begun = ap (λ u. d.opened ++ u ∷ []) (started kernel t s is) ∙ begun_more t at idle here;
    whole = fed.whole;
  }

  -- where all is whole, it has received a run over the objects of the settings
  pub whole_run : IsWholeWith head P → RecordFits (received_record P) → HasLogs d × (length d.transcripts ≡ d.cpus) × (d.entries ≡ []) × IsRunOver d.opened (run_of d) × (d.opened ≡ starts kernel (opened_of (settings_in head)))
  whole_run whole fits =
      let run = fits.1 in
      let same = all_opened run.log_count in
      let over = run_over kernel opened (run_of d) (record_run (received_record P) opened fits fed.same) in
      (has_logs run.log_count whole.events, run.transcript_count ∙ sym fed.cpus, whole.entries, subst (λ (ts : List (Terms KParams KernelObject)). IsRunOver ts (run_of d)) (ap (starts kernel) fed.same ∙ sym same) over, same)
