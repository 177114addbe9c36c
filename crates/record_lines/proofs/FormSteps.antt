-- One line of a record in any form, at each place, as the reader's state shows it.
use Rattle.std.proofs.{Common.{◌≡◌, ℕ, ◌<◌, ◌≤◌, Bool, true, false, cond, if◌then◌else◌, List, [], ◌∷◌, ◌++◌, length, Option, Some, refl, sym, ap, ◌∙◌, arith, nat_lt}, lemmas.Bool.{lt-ltb, le-ltb}}
use Rattle.record_lines.specs.{declared.forms.form.RecordForm.Ghosts, declared.forms.place.Next.Next, declared.forms.place.Next.TheVariants.{Head, Log, Event, Cpu, Entry, End, Done}, FormStates.{State, behind_head, behind_log, behind_events, behind_transcript, behind_entries, behind_line_at, TakesLine}}

-- one of two places in the same state
one_place : {X : Type 0} (b : Bool) (f : Next → X) (p q r : Next) → r ≡ (if b then p else q) → ◌≡◌ {A = Option X} (Some (cond b (f p) (f q))) (Some (f r))
one_place true f p q r is = ap (λ v. Some (f v)) (sym is)
one_place false f p q r is = ap (λ v. Some (f v)) (sym is)

module _ {S H E T : Type 0} (f : Ghosts S H E T) (s : State H E T) (line : List ℕ) where
  -- the place, if it is known
  pub at : (p : Next) (t : State H E T) → s.awaits ≡ p → behind_line_at f p s line ≡ Some t → TakesLine f line s t
  at p t is e = ap (λ q. behind_line_at f q s line) is ∙ e

  pub event_more : (e : E) (es : List E) → s.awaits ≡ Event → f.event_at s.head line ≡ Some e → es ≡ s.events ++ e ∷ [] → length es < s.count → TakesLine f line s (record s { events = es })
  unfolding behind_line_at behind_events
  event_more e es is read items more = at Event _ is (rw (read, ← items, lt-ltb (length es) s.count more) (ap {A = Next} {B = Option (State H E T)} (λ p. Some (record s { awaits = p; events = es })) (sym is)))

  pub event_last : (e : E) (es left : List E) (logs : List (List E)) (p : Next) → s.awaits ≡ Event → f.event_at s.head line ≡ Some e → es ≡ s.events ++ e ∷ [] → s.count ≤ length es
      → left ≡ [] → logs ≡ s.logs ++ es ∷ [] → p ≡ (if nat_lt (length logs) (f.objects s.head) then Log else Cpu) → TakesLine f line s (record s { awaits = p; count = 0; logs = logs; events = left })
  unfolding behind_line_at behind_events behind_log
  event_last e es left logs p is read items whole none all next =
      at Event _ is (rw (read, ← items, le-ltb (length es) s.count whole, ← all, none) (one_place (nat_lt (length logs) (f.objects s.head)) (λ q. record s { awaits = q; count = 0; logs = logs; events = [] }) Log Cpu p next))

  pub entry_more : (e : T) (es : List T) → s.awaits ≡ Entry → f.entry_at s.head line ≡ Some e → es ≡ s.entries ++ e ∷ [] → length es < s.count → TakesLine f line s (record s { entries = es })
  unfolding behind_line_at behind_entries
  entry_more e es is read items more = at Entry _ is (rw (read, ← items, lt-ltb (length es) s.count more) (ap {A = Next} {B = Option (State H E T)} (λ p. Some (record s { awaits = p; entries = es })) (sym is)))

  pub entry_last : (e : T) (es left : List T) (ts : List (List T)) (p : Next) → s.awaits ≡ Entry → f.entry_at s.head line ≡ Some e → es ≡ s.entries ++ e ∷ [] → s.count ≤ length es
      → left ≡ [] → ts ≡ s.transcripts ++ es ∷ [] → p ≡ (if nat_lt (length ts) (f.cpus s.head) then Cpu else End) → TakesLine f line s (record s { awaits = p; count = 0; transcripts = ts; entries = left })
  unfolding behind_line_at behind_entries behind_transcript
  entry_last e es left ts p is read items whole none all next =
      at Entry _ is (rw (read, ← items, le-ltb (length es) s.count whole, ← all, none) (one_place (nat_lt (length ts) (f.cpus s.head)) (λ q. record s { awaits = q; count = 0; transcripts = ts; entries = [] }) Cpu End p next))

  module _ (n : ℕ) (is : s.awaits ≡ Log) (none : (s.events ≡ []) × (s.count ≡ 0)) (read : f.log_at s.head (length s.logs) line ≡ Some n) where
    pub log_some : 0 < n → TakesLine f line s (record s { awaits = Event; count = n })
    unfolding behind_line_at behind_events
    log_some some =
        let less : nat_lt (length s.events) n ≡ true = ap (λ (l : List E). nat_lt (length l) n) none.0 ∙ lt-ltb 0 n some in
        at Log _ is (rw (read, less) refl)

    pub log_empty : (logs : List (List E)) (p : Next) → n ≡ 0 → logs ≡ s.logs ++ [] ∷ [] → p ≡ (if nat_lt (length logs) (f.objects s.head) then Log else Cpu) → TakesLine f line s (record s { awaits = p; logs = logs })
    unfolding behind_line_at behind_events behind_log
    log_empty logs p zero_is all next =
        let less : nat_lt (length s.events) n ≡ false = rw zero_is (le-ltb (length s.events) 0 (omega arith)) in
        let same : ◌≡◌ {A = State H E T} (record s { count = 0; logs = s.logs ++ s.events ∷ []; events = [] }) (record s { logs = logs }) = (λ i. record s { count = sym none.1 i; logs = s.logs ++ none.0 i ∷ []; events = sym none.0 i }) ∙ ap {A = List (List E)} {B = State H E T} (λ l. record s { logs = l }) (sym all) in
        at Log _ is (rw (read, less) (ap {A = State H E T} {B = Option (State H E T)} (λ v. Some (behind_log f v)) same ∙ one_place (nat_lt (length logs) (f.objects s.head)) (λ q. record s { awaits = q; logs = logs }) Log Cpu p next))

  -- a head of a transcript
  module _ (n : ℕ) (is : s.awaits ≡ Cpu) (none : (s.entries ≡ []) × (s.count ≡ 0)) (read : f.cpu_at s.head (length s.transcripts) line ≡ Some n) where
    pub cpu_some : 0 < n → TakesLine f line s (record s { awaits = Entry; count = n })
    unfolding behind_line_at behind_entries
    cpu_some some =
        let less : nat_lt (length s.entries) n ≡ true = ap (λ (l : List T). nat_lt (length l) n) none.0 ∙ lt-ltb 0 n some in
        at Cpu _ is (rw (read, less) refl)

    pub cpu_empty : (ts : List (List T)) (p : Next) → n ≡ 0 → ts ≡ s.transcripts ++ [] ∷ [] → p ≡ (if nat_lt (length ts) (f.cpus s.head) then Cpu else End) → TakesLine f line s (record s { awaits = p; transcripts = ts })
    unfolding behind_line_at behind_entries behind_transcript
    cpu_empty ts p zero_is all next =
        let less : nat_lt (length s.entries) n ≡ false = rw zero_is (le-ltb (length s.entries) 0 (omega arith)) in
        let same : ◌≡◌ {A = State H E T} (record s { count = 0; transcripts = s.transcripts ++ s.entries ∷ []; entries = [] }) (record s { transcripts = ts }) = (λ i. record s { count = sym none.1 i; transcripts = s.transcripts ++ none.0 i ∷ []; entries = sym none.0 i }) ∙ ap {A = List (List T)} {B = State H E T} (λ l. record s { transcripts = l }) (sym all) in
        at Cpu _ is (rw (read, less) (ap {A = State H E T} {B = Option (State H E T)} (λ v. Some (behind_transcript f v)) same ∙ one_place (nat_lt (length ts) (f.cpus s.head)) (λ q. record s { awaits = q; transcripts = ts }) Cpu End p next))

  -- a line of the head: others, or the first log
  pub head_more : (h : H) → s.awaits ≡ Head → f.head_after s.head line ≡ Some h → f.is_whole h ≡ false → TakesLine f line s (record s { head = h })
  unfolding behind_line_at behind_head
  head_more h is read more = at Head _ is (rw (read, more) refl)

  pub head_last : (h : H) → s.awaits ≡ Head → f.head_after s.head line ≡ Some h → f.is_whole h ≡ true → TakesLine f line s (record s { awaits = Log; head = h })
  unfolding behind_line_at behind_head
  head_last h is read whole = at Head _ is (rw (read, whole) refl)

  -- the record's end
  pub end_last : s.awaits ≡ End → f.ends line ≡ true → TakesLine f line s (record s { awaits = Done })
  unfolding behind_line_at
  end_last is read = at End _ is (rw read refl)
