-- What the lines of a form owe each other: each is read as what it spells, and nothing else is.
use Rattle.std.specs.Prelude.{ℕ, ◌≡◌, ◌<◌, ◌≤◌, List, [], ◌∷◌, ◌++◌, true, false, Option, Some}
use Rattle.record_lines.specs.{declared.forms.form.RecordForm.Ghosts, LineMachine.TakesEach, Words.NoEnd}

-- a line is read as what it spells, and nothing else is
pub record ReadsLine {X : Type 0} (IsLine : List ℕ → Type 0) (text_of : X → List ℕ) (fits : X → Type 0) (read : List ℕ → Option X) : Type 0 where
  pub takes : (line : List ℕ) (x : X) → read line ≡ Some x → (line ≡ text_of x) × fits x
  pub again : (x : X) → fits x → read (text_of x) ≡ Some x
  pub plain : (x : X) → fits x → IsLine (text_of x)

module _ {S H E T : Type 0} (f : Ghosts S H E T) where
  -- the line goes on with a head that isn't whole
  abbrev pub HeadTakes : List ℕ → H → H → Type 0
  HeadTakes line h next = (f.is_whole h ≡ false) × (f.head_after h line ≡ Some next)

  -- a line that a head takes is one line more of it, and leaves it within its limits
  pub record HeadGoesOn (h next : H) (line : List ℕ) : Type 0 where
    pub plain : f.IsLine line
    pub text : f.head_text next ≡ f.head_text h ++ line ∷ []
    pub part : f.is_whole next ≡ false → f.HeadPart next
    pub whole : f.is_whole next ≡ true → f.HeadFits next

  -- a whole head that begins with the lines of another
  pub record HeadBegins (h : H) : Type 0 where
    pub whole : H
    pub fit : f.HeadFits whole
    pub more : List (List ℕ)
    pub text : f.head_text whole ≡ f.head_text h ++ more

  -- nothing is read of a head at first
  pub record HeadStarts : Type 0 where
    pub part : f.HeadPart f.no_head
    pub more : f.is_whole f.no_head ≡ false
    pub text : f.head_text f.no_head ≡ []

  -- of heads
  pub record HeadLaws : Type 0 where
    pub starts : HeadStarts
    pub goes_on : (h next : H) (line : List ℕ) → f.HeadPart h → HeadTakes line h next → HeadGoesOn h next line
    pub begins : (h : H) → f.HeadPart h → f.is_whole h ≡ false → HeadBegins h
    pub is_whole : (h : H) → f.HeadFits h → f.is_whole h ≡ true
    pub again : (h : H) → f.HeadFits h → TakesEach HeadTakes (f.head_text h) f.no_head h
    pub some : (h : H) → f.HeadFits h → (0 < f.objects h) × (0 < f.cpus h)

  -- of all lines; and of each head there are an event and an entry
  pub record FormLaws : Type 0 where
    pub no_end : (line : List ℕ) → f.IsLine line → NoEnd line
    pub head : HeadLaws
    pub log : (h : H) (i : ℕ) → f.HeadFits h → i < f.objects h → ReadsLine f.IsLine (f.log_text h i) (λ n. n ≤ f.most_events) (f.log_at h i)
    pub event : (h : H) → f.HeadFits h → ReadsLine f.IsLine (f.event_text h) (f.EventFits h) (f.event_at h)
    pub cpu : (h : H) (i : ℕ) → f.HeadFits h → i < f.cpus h → ReadsLine f.IsLine (f.cpu_text h i) (λ n. n ≤ f.most_entries) (f.cpu_at h i)
    pub entry : (h : H) → f.HeadFits h → ReadsLine f.IsLine (f.entry_text h) (f.EntryFits h) (f.entry_at h)
    pub ends : (line : List ℕ) → f.ends line ≡ true → line ≡ f.end_text
    pub end_again : f.ends f.end_text ≡ true
    pub end_plain : f.IsLine f.end_text
    pub an_event : (h : H) → f.HeadFits h → (e : E) × f.EventFits h e
    pub an_entry : (h : H) → f.HeadFits h → (e : T) × f.EntryFits h e
