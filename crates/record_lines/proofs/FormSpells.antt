-- What was read of a record spells just the lines that were taken, and stays within all limits.
use Rattle.std.proofs.{Common.{◌≡◌, ℕ, ◌<◌, ◌≤◌, Bool, true, false, if◌then◌else◌, List, [], ◌∷◌, ◌++◌, length, length-append, append_assoc, Option, Some, None, refl, sym, ap, ◌∙◌, subst, arith, nat_lt}, lemmas.Bool.{ltb-true, ltb-false, cond_both}, lemmas.List.append-nil}
use Rattle.std.specs.List.{AllByRecursion}
use Rattle.event_log.proofs.Each.{all_push}
use Rattle.record_lines.specs.{declared.forms.form.RecordForm.Ghosts, declared.forms.place.Next.Next, declared.forms.place.Next.TheVariants.{Head, Log, Event, Cpu, Entry, End, Done}, FormLaws.{ReadsLine, HeadGoesOn, FormLaws}, FormStates.{State, nothing_read, behind_head, behind_log, behind_events, behind_transcript, behind_entries, behind_line_at, TakesLine, LogsFit, TranscriptsFit, FitsAt}, FormText.{part_text, logs_front, transcripts_front}, LineMachine.TakesEach, Reading.◌>>=◌, Received.{LogFits, TranscriptFits, EventsFit, EntriesFit}}
use Rattle.record_lines.proofs.{FormParts.{part_whole, items_more}, Readings.bind_some}

module _ {S H E T : Type 0} (f : Ghosts S H E T) where
  -- ---- what is spelled

  -- the lines of whole logs, and of whole transcripts behind them
  abbrev logs_spelled : State H E T → List (List ℕ)
  logs_spelled s = logs_front f s.head s.logs

  abbrev transcripts_spelled : State H E T → List (List ℕ)
  transcripts_spelled s = transcripts_front f s.head s.logs s.transcripts

  -- the lines that were taken, where that line can come next
  abbrev pub spelled_at : Next → State H E T → List (List ℕ)
  spelled_at Head s = f.head_text s.head
  spelled_at Log s = logs_spelled s
  spelled_at Event s = logs_spelled s ++ part_text (f.log_text s.head) (f.event_text s.head) (length s.logs) s.count s.events
  spelled_at Cpu s = transcripts_spelled s
  spelled_at Entry s = transcripts_spelled s ++ part_text (f.cpu_text s.head) (f.entry_text s.head) (length s.transcripts) s.count s.entries
  spelled_at End s = transcripts_spelled s
  spelled_at Done s = transcripts_spelled s ++ f.end_text ∷ []

  abbrev pub spelled : State H E T → List (List ℕ)
  spelled s = spelled_at s.awaits s

  -- the state is within its limits and spells these lines
  abbrev pub Spells : List (List ℕ) → State H E T → Type 0
  Spells lines s = FitsAt f s.awaits s × (spelled s ≡ lines)

  -- ---- behind the last of a part

  -- behind a line of the head: others, or the first log
  head_spells : (h next : H) (line : List ℕ) → HeadGoesOn f h next line → (f.HeadFits next → 0 < f.objects next) → Spells (f.head_text h ++ line ∷ []) (behind_head f (record (nothing_read f) { head = next }))
  unfolding behind_head
  head_spells h next line on some =
      let lines = f.head_text h ++ line ∷ [] in
      let s : State H E T = record (nothing_read f) { head = next } in
      cond_both (f.is_whole next) (record s { awaits = Log }) s (Spells lines)
      (λ e. let fit = on.whole e in ((record { head = fit; logs = tt; transcripts = refl; entries = refl }, (refl, refl), some fit), append-nil (f.head_text next) ∙ on.text))
      (λ e. (((on.part e, e), refl), on.text))

  -- behind a log: another, or the first transcript
  log_spells : (s : State H E T) (lines : List (List ℕ)) → LogsFit f s → s.events ≡ [] → s.count ≡ 0 → length s.logs ≤ f.objects s.head → 0 < f.cpus s.head → logs_spelled s ≡ lines → Spells lines (behind_log f s)
  unfolding behind_log
  log_spells s lines h none at_none most cpus text =
      cond_both (nat_lt (length s.logs) (f.objects s.head)) (record s { awaits = Log }) (record s { awaits = Cpu }) (Spells lines)
      (λ e. ((record { head = h.head; logs = h.logs; transcripts = h.transcripts; entries = h.entries }, (none, at_none), ltb-true (length s.logs) (f.objects s.head) e), text))
      (λ e. (
        (
          record { head = h.head; log_count = (let least = ltb-false (length s.logs) (f.objects s.head) e in omega (arith, most, least)); logs = h.logs; events = none; transcripts = subst (λ l. AllByRecursion (TranscriptFits f s.head) l) (sym h.transcripts) tt },
          (h.entries, at_none),
          subst (λ l. length l < f.cpus s.head) (sym h.transcripts) cpus,
        ),
        ap (transcripts_front f s.head s.logs) h.transcripts ∙ (append-nil (logs_spelled s) ∙ text),
      ))

  -- behind a transcript: another, or the end
  transcript_spells : (s : State H E T) (lines : List (List ℕ)) → TranscriptsFit f s → s.entries ≡ [] → s.count ≡ 0 → length s.transcripts ≤ f.cpus s.head → transcripts_spelled s ≡ lines → Spells lines (behind_transcript f s)
  unfolding behind_transcript
  transcript_spells s lines h none at_none most text =
      cond_both (nat_lt (length s.transcripts) (f.cpus s.head)) (record s { awaits = Cpu }) (record s { awaits = End }) (Spells lines)
      (λ e. ((record { head = h.head; log_count = h.log_count; logs = h.logs; events = h.events; transcripts = h.transcripts }, (none, at_none), ltb-true (length s.transcripts) (f.cpus s.head) e), text))
      (λ e. (record { fit = record { head = h.head; log_count = h.log_count; logs = h.logs; events = h.events; transcripts = h.transcripts }; none = (none, at_none); all = (let least = ltb-false (length s.transcripts) (f.cpus s.head) e in omega (arith, most, least)) }, text))

  -- behind events: others, or the end of the log
  events_spells : (s : State H E T) (lines : List (List ℕ)) → LogsFit f s → EventsFit f s.head s.events → length s.events ≤ s.count → s.count ≤ f.most_events → length s.logs < f.objects s.head → 0 < f.cpus s.head → spelled_at Event s ≡ lines → Spells lines (behind_events f s)
  unfolding behind_events
  events_spells s lines h each few most more cpus text =
      let closed : State H E T = record s { count = 0; logs = s.logs ++ s.events ∷ []; events = [] } in
      cond_both (nat_lt (length s.events) s.count) (record s { awaits = Event }) (behind_log f closed) (Spells lines)
      (λ e. ((record { head = h.head; logs = h.logs; transcripts = h.transcripts; entries = h.entries }, (each, ltb-true (length s.events) s.count e, most), more), text))
      (λ e.
      let all : length s.events ≡ s.count = (let least = ltb-false (length s.events) s.count e in omega (arith, few, least)) in
      log_spells closed lines
      (record { head = h.head; logs = all_push (LogFits f s.head) s.logs s.events h.logs (omega (arith, all, most), each); transcripts = h.transcripts; entries = h.entries })
      refl refl (omega (arith, more, length-append s.logs (s.events ∷ []))) cpus (part_whole (f.log_text s.head) (f.event_text s.head) (f.head_text s.head) s.logs s.events s.count all ∙ text))

  -- behind entries: others, or the end of the transcript
  entries_spells : (s : State H E T) (lines : List (List ℕ)) → TranscriptsFit f s → EntriesFit f s.head s.entries → length s.entries ≤ s.count → s.count ≤ f.most_entries → length s.transcripts < f.cpus s.head → spelled_at Entry s ≡ lines → Spells lines (behind_entries f s)
  unfolding behind_entries
  entries_spells s lines h each few most more text =
      let closed : State H E T = record s { count = 0; transcripts = s.transcripts ++ s.entries ∷ []; entries = [] } in
      cond_both (nat_lt (length s.entries) s.count) (record s { awaits = Entry }) (behind_transcript f closed) (Spells lines)
      (λ e. ((record { head = h.head; log_count = h.log_count; logs = h.logs; events = h.events; transcripts = h.transcripts }, (each, ltb-true (length s.entries) s.count e, most), more), text))
      (λ e.
      let all : length s.entries ≡ s.count = (let least = ltb-false (length s.entries) s.count e in omega (arith, few, least)) in
      transcript_spells closed lines
      (record { head = h.head; log_count = h.log_count; logs = h.logs; events = h.events; transcripts = all_push (TranscriptFits f s.head) s.transcripts s.entries h.transcripts (omega (arith, all, most), each) })
      refl refl (omega (arith, more, length-append s.transcripts (s.entries ∷ []))) (part_whole (f.cpu_text s.head) (f.entry_text s.head) (logs_spelled s) s.transcripts s.entries s.count all ∙ text))

  -- ---- a line more

  -- what a line that is taken behind others is: a line of the form, and one line more of what is spelled
  abbrev pub Behind : List (List ℕ) → List ℕ → State H E T → Type 0
  Behind front line t = f.IsLine line × Spells (front ++ line ∷ []) t

  -- a line that is read by a law
  by_law : {X : Type 0} {text_of : X → List ℕ} {fits : X → Type 0} {read : List ℕ → Option X} → ReadsLine f.IsLine text_of fits read → (next : X → State H E T) (front : List (List ℕ)) (line : List ℕ) (t : State H E T)
      → (read line >>= λ x. Some (next x)) ≡ Some t → ((x : X) → fits x → Spells (front ++ text_of x ∷ []) (next x)) → Behind front line t
  by_law {X} {text_of} {fits} {read} law next front line t e each = bind_some (read line) (λ x. Some (next x)) t e (λ x found last.
      let is = law.takes line x found in
      let state : next x ≡ t = cc in
      subst (λ l. Behind front l t) (sym is.0) (law.plain x is.1, subst (Spells (front ++ text_of x ∷ [])) state (each x is.1)))

  module _ (laws : FormLaws f) where
    head_behind : (s t : State H E T) (line : List ℕ) → FitsAt f Head s → behind_line_at f Head s line ≡ Some t → Behind (f.head_text s.head) line t
    unfolding behind_line_at
    head_behind s t line h e = bind_some (f.head_after s.head line) (λ n. Some (behind_head f (record s { head = n }))) t e (λ n found last.
        let on = laws.head.goes_on s.head n line h.0.0 (h.0.1, found) in
        let same : ◌≡◌ {A = State H E T} (record s { head = n }) (record (nothing_read f) { head = n }) = ap {A = State H E T} {B = State H E T} (λ x. record x { head = n }) h.1 in
        let state : behind_head f (record s { head = n }) ≡ t = cc in
        (on.plain, subst (Spells (f.head_text s.head ++ line ∷ [])) (sym (ap (behind_head f) same) ∙ state) (head_spells s.head n line on (λ fit. (laws.head.some n fit).0))))

    log_behind : (s t : State H E T) (line : List ℕ) → FitsAt f Log s → behind_line_at f Log s line ≡ Some t → Behind (spelled_at Log s) line t
    unfolding behind_line_at
    log_behind s t line h e =
        by_law (laws.log s.head (length s.logs) h.0.head h.2) (λ n. behind_events f (record s { count = n })) (logs_spelled s) line t e (λ n fits. events_spells (record s { count = n }) _
        (record { head = h.0.head; logs = h.0.logs; transcripts = h.0.transcripts; entries = h.0.entries })
        (subst (λ l. EventsFit f s.head l) (sym h.1.0) tt) (subst (λ (l : List E). length l ≤ n) (sym h.1.0) (omega arith)) fits h.2 (laws.head.some s.head h.0.head).1
        (ap (λ l. logs_spelled s ++ part_text (f.log_text s.head) (f.event_text s.head) (length s.logs) n l) h.1.0))

    cpu_behind : (s t : State H E T) (line : List ℕ) → FitsAt f Cpu s → behind_line_at f Cpu s line ≡ Some t → Behind (spelled_at Cpu s) line t
    unfolding behind_line_at
    cpu_behind s t line h e =
        by_law (laws.cpu s.head (length s.transcripts) h.0.head h.2) (λ n. behind_entries f (record s { count = n })) (transcripts_spelled s) line t e (λ n fits. entries_spells (record s { count = n }) _
        (record { head = h.0.head; log_count = h.0.log_count; logs = h.0.logs; events = h.0.events; transcripts = h.0.transcripts })
        (subst (λ l. EntriesFit f s.head l) (sym h.1.0) tt) (subst (λ (l : List T). length l ≤ n) (sym h.1.0) (omega arith)) fits h.2
        (ap (λ l. transcripts_spelled s ++ part_text (f.cpu_text s.head) (f.entry_text s.head) (length s.transcripts) n l) h.1.0))

    end_behind : (b : Bool) (s t : State H E T) (line : List ℕ) → f.ends line ≡ b → FitsAt f End s → (if b then Some (record s { awaits = Done }) else None) ≡ Some t → Behind (spelled_at End s) line t
    end_behind true s t line is h e =
        let state : ◌≡◌ {A = State H E T} (record s { awaits = Done }) t = cc in
        let text = laws.ends line is in (
          subst f.IsLine (sym text) laws.end_plain,
          subst (Spells (transcripts_spelled s ++ line ∷ [])) state
              (record { fit = record { head = h.fit.head; log_count = h.fit.log_count; logs = h.fit.logs; events = h.fit.events; transcripts = h.fit.transcripts }; none = h.none; all = h.all }, ap (λ l. transcripts_spelled s ++ l ∷ []) (sym text)),
        )
    end_behind false s t line is h e = absurd cc

    -- a line at each place
    line_at : (p : Next) (s t : State H E T) (line : List ℕ) → FitsAt f p s → behind_line_at f p s line ≡ Some t → Behind (spelled_at p s) line t
    unfolding behind_line_at
    line_at Head s t line h e = head_behind s t line h e
    line_at Log s t line h e = log_behind s t line h e
    line_at Event s t line h e =
        let more = h.1.1 in
        by_law (laws.event s.head h.0.head) (λ v. behind_events f (record s { events = s.events ++ v ∷ [] })) (spelled_at Event s) line t e (λ v fits. events_spells (record s { events = s.events ++ v ∷ [] }) _
        (record { head = h.0.head; logs = h.0.logs; transcripts = h.0.transcripts; entries = h.0.entries })
        (all_push (f.EventFits s.head) s.events v h.1.0 fits) (omega (arith, more, length-append s.events (v ∷ []))) h.1.2 h.2 (laws.head.some s.head h.0.head).1
        (items_more (f.log_text s.head) (f.event_text s.head) (logs_spelled s) (length s.logs) s.count s.events (v ∷ [])))
    line_at Cpu s t line h e = cpu_behind s t line h e
    line_at Entry s t line h e =
        let more = h.1.1 in
        by_law (laws.entry s.head h.0.head) (λ v. behind_entries f (record s { entries = s.entries ++ v ∷ [] })) (spelled_at Entry s) line t e (λ v fits. entries_spells (record s { entries = s.entries ++ v ∷ [] }) _
        (record { head = h.0.head; log_count = h.0.log_count; logs = h.0.logs; events = h.0.events; transcripts = h.0.transcripts })
        (all_push (f.EntryFits s.head) s.entries v h.1.0 fits) (omega (arith, more, length-append s.entries (v ∷ []))) h.1.2 h.2
        (items_more (f.cpu_text s.head) (f.entry_text s.head) (transcripts_spelled s) (length s.transcripts) s.count s.entries (v ∷ [])))
    line_at End s t line h e = end_behind (f.ends line) s t line refl h e
    line_at Done s t line h e = absurd cc

    -- a line that is taken is a line of the form, and is one line more of what is spelled
    pub line_spells : (s t : State H E T) (line : List ℕ) → FitsAt f s.awaits s → TakesLine f line s t → Behind (spelled s) line t
    line_spells s t line h e = line_at s.awaits s t line h e

    -- ---- lines

    -- lines that are taken are within the limits, and are what is spelled then
    pub lines_spell : (lines : List (List ℕ)) (s t : State H E T) → FitsAt f s.awaits s → TakesEach (TakesLine f) lines s t → Spells (spelled s ++ lines) t
    lines_spell [] s t h run = subst (Spells (spelled s ++ [])) (sym run) (h, sym (append-nil (spelled s)))
    lines_spell (line ∷ lines) s t h run =
        let one = (line_spells s run.0 line h run.1).1 in
        let rest = lines_spell lines run.0 t one.0 run.2 in
        (rest.0, rest.1 ∙ (ap (λ l. l ++ lines) one.1 ∙ append_assoc (spelled s) (line ∷ []) lines))

    pub lines_are : (lines : List (List ℕ)) (s t : State H E T) → FitsAt f s.awaits s → TakesEach (TakesLine f) lines s t → AllByRecursion f.IsLine lines
    lines_are [] s t h run = tt
    lines_are (line ∷ lines) s t h run = let one = line_spells s run.0 line h run.1 in (one.0, lines_are lines run.0 t one.1.0 run.2)
