-- Whatever was read of a record, some record's lines begin with it.
use Rattle.std.proofs.{Common.{◌≡◌, ℕ, ◌-◌, ◌≤◌, List, [], ◌∷◌, ◌++◌, length, length-append, map, append_assoc, replicate, sym, ap, ◌∙◌, subst, arith}, lemmas.List.{append-nil, length-replicate}}
use Rattle.std.specs.List.{AllByRecursion}
use Rattle.event_log.proofs.Each.{all_append, all_push}
use Rattle.record_lines.specs.{declared.forms.form.RecordForm.Ghosts, declared.forms.place.Next.Next, declared.forms.place.Next.TheVariants.{Head, Log, Event, Cpu, Entry, End, Done}, FormLaws.FormLaws, FormStates.{State, whole_of, AllRead, FitsAt}, FormText.{part_text, parts_text, logs_front, transcripts_front, whole_lines}, Received.{Whole, WholeFits, LogFits, TranscriptFits}}
use Rattle.record_lines.proofs.{FormParts.{parts_append, part_whole, items_more}, FormSpells.spelled_at, Parts.all_same}

module _ {S H E T : Type 0} (f : Ghosts S H E T) where
  -- some record's lines begin with these
  pub record Begins (front : List (List ℕ)) : Type 0 where
    pub shown : Whole H E T
    pub fit : WholeFits f shown
    pub more : List (List ℕ)
    pub lines : whole_lines f shown ≡ front ++ more

  -- and so with fewer
  fewer : (a b : List (List ℕ)) → Begins (a ++ b) → Begins a
  fewer a b on = record { shown = on.shown; fit = on.fit; more = b ++ on.more; lines = on.lines ∙ append_assoc a b on.more }

  -- the last part can be filled up with items of one kind
  part_begins : {I : Type 0} (head : ℕ → ℕ → List ℕ) (text_of : I → List ℕ) (fits : I → Type 0) (x : I) (front : List (List ℕ)) (parts : List (List I)) (n : ℕ) (items : List I) → fits x → length items ≤ n → AllByRecursion fits items
      → ((part : List I) → length part ≡ n → AllByRecursion fits part → Begins (front ++ parts_text head text_of 0 (parts ++ part ∷ []))) → Begins ((front ++ parts_text head text_of 0 parts) ++ part_text head text_of (length parts) n items)
  part_begins {I} head text_of fits x front parts n items fit few each next =
      let rest : List I = replicate (n - length items) x in
      let all : length (items ++ rest) ≡ n = omega (arith, few, length-append items rest, length-replicate {A = I} (n - length items) x) in
      let so_far : List (List ℕ) = front ++ parts_text head text_of 0 parts in
      fewer (so_far ++ part_text head text_of (length parts) n items) (map text_of rest)
      (subst Begins (part_whole head text_of front parts (items ++ rest) n all ∙ items_more head text_of so_far (length parts) n items rest) (next (items ++ rest) all (all_append fits items rest each (all_same fits x (n - length items) fit))))

  module _ (h : H) (fit : f.HeadFits h) where
    -- transcripts can be gone on with by some of no entries
    transcripts_begin : (logs : List (List E)) (ts : List (List T)) → length logs ≡ f.objects h → AllByRecursion (LogFits f h) logs → length ts ≤ f.cpus h → AllByRecursion (TranscriptFits f h) ts → Begins (transcripts_front f h logs ts)
    transcripts_begin logs ts count each few fits =
        let rest : List (List T) = replicate (f.cpus h - length ts) [] in
        fewer (transcripts_front f h logs ts) (parts_text (f.cpu_text h) (f.entry_text h) (length ts) rest) (record {
          shown = record { head = h; logs = logs; transcripts = ts ++ rest };
          fit = record { head = fit; log_count = count; logs = each; transcript_count = omega (arith, few, length-append ts rest, length-replicate {A = List T} (f.cpus h - length ts) []); transcripts = all_append (TranscriptFits f h) ts rest fits (all_same (TranscriptFits f h) [] (f.cpus h - length ts) (omega arith, tt)) };
          more = f.end_text ∷ [];
          lines = ap (λ l. l ++ f.end_text ∷ []) (parts_append (f.cpu_text h) (f.entry_text h) (logs_front f h logs) ts rest);
        })

    -- logs by some of no events, and such transcripts
    logs_begin : (logs : List (List E)) → length logs ≤ f.objects h → AllByRecursion (LogFits f h) logs → Begins (logs_front f h logs)
    logs_begin logs few fits =
        let rest : List (List E) = replicate (f.objects h - length logs) [] in
        let all = all_append (LogFits f h) logs rest fits (all_same (LogFits f h) [] (f.objects h - length logs) (omega arith, tt)) in
        let count : length (logs ++ rest) ≡ f.objects h = omega (arith, few, length-append logs rest, length-replicate {A = List E} (f.objects h - length logs) []) in
        fewer (logs_front f h logs) (parts_text (f.log_text h) (f.event_text h) (length logs) rest)
        (subst Begins (parts_append (f.log_text h) (f.event_text h) (f.head_text h) logs rest) (fewer (logs_front f h (logs ++ rest)) [] (transcripts_begin (logs ++ rest) [] count all (omega arith) tt)))

  -- what was read to the end is a record
  pub done_is : (s : State H E T) → AllRead f s → WholeFits f (whole_of s)
  done_is s h = record { head = h.fit.head; log_count = h.fit.log_count; logs = h.fit.logs; transcript_count = h.all; transcripts = h.fit.transcripts }

  -- whatever was read, some record begins with it
  pub begins_at : FormLaws f → (p : Next) (s : State H E T) → FitsAt f p s → Begins (spelled_at f p s)
  begins_at laws Head s h =
      let on = laws.head.begins s.head h.0.0 h.0.1 in
      fewer (f.head_text s.head) on.more (subst Begins on.text (fewer (f.head_text on.whole) [] (logs_begin on.whole on.fit [] (omega arith) tt)))
  begins_at laws Log s h = let more = h.2 in logs_begin s.head h.0.head s.logs (omega (arith, more)) h.0.logs
  begins_at laws Event s h =
      let more = h.2 in
      let few = h.1.1 in
      let most = h.1.2 in
      let one = laws.an_event s.head h.0.head in
      part_begins (f.log_text s.head) (f.event_text s.head) (f.EventFits s.head) one.0 (f.head_text s.head) s.logs s.count s.events one.1 (omega (arith, few)) h.1.0
      (λ part all each. logs_begin s.head h.0.head (s.logs ++ part ∷ []) (omega (arith, more, length-append s.logs (part ∷ []))) (all_push (LogFits f s.head) s.logs part h.0.logs (omega (arith, all, most), each)))
  begins_at laws Cpu s h = let more = h.2 in transcripts_begin s.head h.0.head s.logs s.transcripts h.0.log_count h.0.logs (omega (arith, more)) h.0.transcripts
  begins_at laws Entry s h =
      let more = h.2 in
      let few = h.1.1 in
      let most = h.1.2 in
      let one = laws.an_entry s.head h.0.head in
      part_begins (f.cpu_text s.head) (f.entry_text s.head) (f.EntryFits s.head) one.0 (logs_front f s.head s.logs) s.transcripts s.count s.entries one.1 (omega (arith, few)) h.1.0
      (λ part all each. transcripts_begin s.head h.0.head s.logs (s.transcripts ++ part ∷ []) h.0.log_count h.0.logs (omega (arith, more, length-append s.transcripts (part ∷ []))) (all_push (TranscriptFits f s.head) s.transcripts part h.0.transcripts (omega (arith, all, most), each)))
  begins_at laws End s h = let all = h.all in transcripts_begin s.head h.fit.head s.logs s.transcripts h.fit.log_count h.fit.logs (omega (arith, all)) h.fit.transcripts
  begins_at laws Done s h = record { shown = whole_of s; fit = done_is s h; more = []; lines = sym (append-nil (spelled_at f Done s)) }
