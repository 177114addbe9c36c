-- The lines of a record take what was read of it to its end.
use Rattle.std.proofs.{Common.{◌≡◌, ℕ, suc, ◌+◌, ◌<◌, ◌≤◌, if◌then◌else◌, List, [], ◌∷◌, ◌++◌, length, length-append, map, append_assoc, true, false, refl, sym, ap, subst, arith, nat_lt}, lemmas.Bool.{lt-ltb, le-ltb}, lemmas.List.append-nil}
use Rattle.std.specs.List.{AllByRecursion}
use Rattle.record_lines.specs.{declared.forms.form.RecordForm.Ghosts, declared.forms.place.Next.Next, declared.forms.place.Next.TheVariants.{Log, Event, Cpu, Entry, End, Done}, FormLaws.{HeadTakes, FormLaws}, FormStates.{State, nothing_read, behind_head, behind_line_at, TakesLine}, FormText.{part_text, parts_text, logs_front, transcripts_front, whole_lines}, LineMachine.TakesEach, Received.{Whole, WholeFits}}
use Rattle.record_lines.proofs.FormSteps.{event_more, event_last, log_some, log_empty, entry_more, entry_last, cpu_some, cpu_empty, end_last}

-- lines behind others
pub each_append : {L S : Type 0} (act : L → S → S → Type 0) (a b : List L) (s t u : S) → TakesEach act a s t → TakesEach act b t u → TakesEach act (a ++ b) s u
each_append act [] b s t u x y = subst (λ v. TakesEach act b v u) x y
each_append act (l ∷ a) b s t u x y = (x.0, x.1, each_append act a b x.0 t u x.2 y)

module _ {S H E T : Type 0} (f : Ghosts S H E T) where
  -- ---- logs and transcripts

  module _ {I : Type 0} (head : ℕ → ℕ → List ℕ) (text_of : I → List ℕ) (fits : I → Type 0) (all most : ℕ) (at : Next → ℕ → List (List I) → List I → State H E T) (this here next : Next) where
    -- behind whole parts: another, or what follows all of them
    abbrev behind : List (List I) → State H E T
    behind parts = at (if nat_lt (length parts) all then this else next) 0 parts []

    -- what the lines of a part do: its head, of some items or of none, one of several items, and the last
    record Moves : Type 0 where
      some : (n : ℕ) (parts : List (List I)) → length parts < all → 0 < n → n ≤ most → TakesLine f (head (length parts) n) (at this 0 parts []) (at here n parts [])
      none : (parts : List (List I)) → length parts < all → TakesLine f (head (length parts) 0) (at this 0 parts []) (behind (parts ++ [] ∷ []))
      more : (n : ℕ) (parts : List (List I)) (items : List I) (x : I) → fits x → length (items ++ x ∷ []) < n → TakesLine f (text_of x) (at here n parts items) (at here n parts (items ++ x ∷ []))
      last : (n : ℕ) (parts : List (List I)) (items : List I) (x : I) → fits x → n ≤ length (items ++ x ∷ []) → TakesLine f (text_of x) (at here n parts items) (behind (parts ++ (items ++ x ∷ []) ∷ []))

    module _ (moves : Moves) where
      items_run : (n : ℕ) (parts : List (List I)) (items : List I) (x : I) (rest : List I) → length items + suc (length rest) ≡ n → AllByRecursion fits (x ∷ rest) → TakesEach (TakesLine f) (map text_of (x ∷ rest)) (at here n parts items) (behind (parts ++ (items ++ x ∷ rest) ∷ []))
      items_run n parts items x [] count fit = (_, moves.last n parts items x fit.0 (omega (arith, count, length-append items (x ∷ []))), refl)
      items_run n parts items x (y ∷ rest) count fit =
          let longer = length-append items (x ∷ []) in
          let others = items_run n parts (items ++ x ∷ []) y rest (omega (arith, count, longer)) fit.1 in
          (_, moves.more n parts items x fit.0 (omega (arith, count, longer)), subst (λ l. TakesEach (TakesLine f) (map text_of (y ∷ rest)) (at here n parts (items ++ x ∷ [])) (behind (parts ++ l ∷ []))) (append_assoc items (x ∷ []) (y ∷ rest)) others)

      part_run : (parts : List (List I)) (part : List I) → length parts < all → (length part ≤ most) × AllByRecursion fits part → TakesEach (TakesLine f) (part_text head text_of (length parts) (length part) part) (at this 0 parts []) (behind (parts ++ part ∷ []))
      part_run parts [] less fit = (_, moves.none parts less, refl)
      part_run parts (x ∷ rest) less fit = (_, moves.some (length (x ∷ rest)) parts less (omega arith) fit.0, items_run (length (x ∷ rest)) parts [] x rest (omega arith) fit.1)

      parts_run : (rest parts : List (List I)) → length parts + length rest ≡ all → AllByRecursion (λ p. (length p ≤ most) × AllByRecursion fits p) rest → TakesEach (TakesLine f) (parts_text head text_of (length parts) rest) (behind parts) (at next 0 (parts ++ rest) [])
      parts_run [] parts count fit = rw (le-ltb (length parts) all (omega (arith, count)), append-nil parts) refl
      parts_run (p ∷ rest) parts count fit =
          let longer = length-append parts (p ∷ []) in
          let one : length (parts ++ p ∷ []) ≡ length parts + 1 = omega (arith, longer) in
          let less : length parts < all = omega (arith, count) in
          let first = subst (λ b. TakesEach (TakesLine f) (part_text head text_of (length parts) (length p) p) (at (if b then this else next) 0 parts []) (behind (parts ++ p ∷ []))) (sym (lt-ltb (length parts) all less)) (part_run parts p less fit.0) in
          let others = parts_run rest (parts ++ p ∷ []) (omega (arith, count, longer)) fit.1 in
          let to_end = subst (λ l. TakesEach (TakesLine f) (parts_text head text_of (length (parts ++ p ∷ [])) rest) (behind (parts ++ p ∷ [])) (at next 0 l [])) (append_assoc parts (p ∷ []) rest) others in
          each_append (TakesLine f) (part_text head text_of (length parts) (length p) p) (parts_text head text_of (length parts + 1) rest) (behind parts) (behind (parts ++ p ∷ [])) (at next 0 (parts ++ p ∷ rest) []) first
          (subst (λ k. TakesEach (TakesLine f) (parts_text head text_of k rest) (behind (parts ++ p ∷ [])) (at next 0 (parts ++ p ∷ rest) [])) one to_end)

      -- all parts
      all_run : (parts : List (List I)) → 0 < all → length parts ≡ all → AllByRecursion (λ p. (length p ≤ most) × AllByRecursion fits p) parts → TakesEach (TakesLine f) (parts_text head text_of 0 parts) (at this 0 [] []) (at next 0 parts [])
      all_run parts some count fit = subst (λ b. TakesEach (TakesLine f) (parts_text head text_of 0 parts) (at (if b then this else next) 0 [] []) (at next 0 parts [])) (lt-ltb 0 all some) (parts_run parts [] (omega (arith, count)) fit)

  -- ---- a record

  -- all was read
  abbrev pub done_with : Whole H E T → State H E T
  done_with w = record { awaits = Done; head = w.head; count = 0; logs = w.logs; events = []; transcripts = w.transcripts; entries = [] }

  module _ (laws : FormLaws f) where
    module _ (h : H) (fit : f.HeadFits h) where
      -- behind these logs, and these events of one of so many
      abbrev at_event : Next → ℕ → List (List E) → List E → State H E T
      at_event awaits count logs es = record { awaits = awaits; head = h; count = count; logs = logs; events = es; transcripts = []; entries = [] }

      logs_move : Moves (f.log_text h) (f.event_text h) (f.EventFits h) (f.objects h) f.most_events at_event Log Event Cpu
      logs_move =
          let law = laws.event h fit in
          record {
            some = λ n logs less some most. log_some f (at_event Log 0 logs []) _ n refl (refl, refl) ((laws.log h (length logs) fit less).again n most) some;
            none = λ logs less. log_empty f (at_event Log 0 logs []) _ 0 refl (refl, refl) ((laws.log h (length logs) fit less).again 0 (omega arith)) (logs ++ [] ∷ []) _ refl refl refl;
            more = λ n logs es e fit less. event_more f (at_event Event n logs es) _ e (es ++ e ∷ []) refl (law.again e fit) refl less;
            last = λ n logs es e fit whole. event_last f (at_event Event n logs es) _ e (es ++ e ∷ []) [] (logs ++ (es ++ e ∷ []) ∷ []) _ refl (law.again e fit) refl whole refl refl refl;
          }

      module _ (logs : List (List E)) where
        -- behind all logs, these transcripts, and these entries of one of so many
        abbrev at_entry : Next → ℕ → List (List T) → List T → State H E T
        at_entry awaits count ts es = record { awaits = awaits; head = h; count = count; logs = logs; events = []; transcripts = ts; entries = es }

        transcripts_move : Moves (f.cpu_text h) (f.entry_text h) (f.EntryFits h) (f.cpus h) f.most_entries at_entry Cpu Entry End
        transcripts_move =
            let law = laws.entry h fit in
            record {
              some = λ n ts less some most. cpu_some f (at_entry Cpu 0 ts []) _ n refl (refl, refl) ((laws.cpu h (length ts) fit less).again n most) some;
              none = λ ts less. cpu_empty f (at_entry Cpu 0 ts []) _ 0 refl (refl, refl) ((laws.cpu h (length ts) fit less).again 0 (omega arith)) (ts ++ [] ∷ []) _ refl refl refl;
              more = λ n ts es e fit less. entry_more f (at_entry Entry n ts es) _ e (es ++ e ∷ []) refl (law.again e fit) refl less;
              last = λ n ts es e fit whole. entry_last f (at_entry Entry n ts es) _ e (es ++ e ∷ []) [] (ts ++ (es ++ e ∷ []) ∷ []) _ refl (law.again e fit) refl whole refl refl refl;
            }

    -- a head, whole or not, that was read behind nothing
    abbrev head_state : H → State H E T
    head_state h = behind_head f (record (nothing_read f) { head = h })

    head_step : (h next : H) (line : List ℕ) → HeadTakes f line h next → TakesLine f line (head_state h) (head_state next)
    unfolding behind_head behind_line_at
    head_step h next line takes = rw (takes.0, takes.1) refl

    heads_run : (lines : List (List ℕ)) (h next : H) → TakesEach (HeadTakes f) lines h next → TakesEach (TakesLine f) lines (head_state h) (head_state next)
    heads_run [] h next run = ap head_state run
    heads_run (line ∷ lines) h next run = (head_state run.0, head_step h run.0 line run.1, heads_run lines run.0 next run.2)

    not_whole : (h : H) → f.is_whole h ≡ false → head_state h ≡ record (nothing_read f) { head = h }
    unfolding behind_head
    not_whole h more = rw more refl

    whole_head : (h : H) → f.is_whole h ≡ true → head_state h ≡ record (nothing_read f) { awaits = Log; head = h }
    unfolding behind_head
    whole_head h whole = rw whole refl

    head_run : (h : H) (fit : f.HeadFits h) → TakesEach (TakesLine f) (f.head_text h) (nothing_read f) (at_event h fit Log 0 [] [])
    head_run h fit =
        let run = heads_run (f.head_text h) f.no_head h (laws.head.again h fit) in
        subst (λ s. TakesEach (TakesLine f) (f.head_text h) (nothing_read f) s) (whole_head h (laws.head.is_whole h fit)) (subst (λ s. TakesEach (TakesLine f) (f.head_text h) s (head_state h)) (not_whole f.no_head laws.head.starts.more) run)

    -- the lines of a record take nothing to all of it
    pub whole_run : (w : Whole H E T) → WholeFits f w → TakesEach (TakesLine f) (whole_lines f w) (nothing_read f) (done_with w)
    whole_run w fit =
        let h = w.head in
        let some = laws.head.some h fit.head in
        let last : TakesLine f f.end_text (at_entry h fit.head w.logs End 0 w.transcripts []) (done_with w) = end_last f (at_entry h fit.head w.logs End 0 w.transcripts []) f.end_text refl laws.end_again in
        let of_logs = all_run (f.log_text h) (f.event_text h) (f.EventFits h) (f.objects h) f.most_events (at_event h fit.head) Log Event Cpu (logs_move h fit.head) w.logs some.0 fit.log_count fit.logs in
        let of_ts = all_run (f.cpu_text h) (f.entry_text h) (f.EntryFits h) (f.cpus h) f.most_entries (at_entry h fit.head w.logs) Cpu Entry End (transcripts_move h fit.head w.logs) w.transcripts some.1 fit.transcript_count fit.transcripts in
        let to_logs = each_append (TakesLine f) (f.head_text h) (parts_text (f.log_text h) (f.event_text h) 0 w.logs) (nothing_read f) _ _ (head_run h fit.head) of_logs in
        let to_end = each_append (TakesLine f) (logs_front f h w.logs) (parts_text (f.cpu_text h) (f.entry_text h) 0 w.transcripts) (nothing_read f) _ _ to_logs of_ts in
        each_append (TakesLine f) (transcripts_front f h w.logs w.transcripts) (f.end_text ∷ []) (nothing_read f) _ (done_with w) to_end (done_with w, last, refl)
