-- What lines that are taken, one after the other, say of the bytes that they are the front of.
use Rattle.std.proofs.{Common.{◌≡◌, ℕ, ◌-◌, ◌<◌, List, [], ◌∷◌, ◌++◌, length, replicate, Option, Some, None, Result, Ok, Err, refl, sym, ap, ◌∙◌, subst, arith, IsErrAnd, IfOk, IfErr}, lemmas.List.{append-nil, length-replicate}}
use Rattle.record_lines.specs.{declared.text.fault.LinesFault.LinesFault, declared.text.fault.LinesFault.TheVariants.{OutOfMemory, Line}, declared.forms.place.Next.TheVariants.Done, FormStates.{FitsAt, behind_line_at, whole_of}, LineMachine.{ChangesNothing, TakesText, RefusesLine as RefusesAny}, Words.NoEnd}
use Rattle.record_lines.proofs.FormSpells.{line_spells}
use Rattle.kernel_words.specs.declared.form.Form.{Form}
use Rattle.records.specs.{contracts.record.kernel_form.KernelFormRecordForm.TheImpl.{ghosts as kernel_form}, RecordFaults.{Agrees, IsBadLine, text_in, IsWhole, IsFront, IsRead, NamesBadLine}, RecordRanges.{Record, RecordFitsIn}, RecordStates.{RecordState, nothing_read, record_of, TakesLine, RefusesLine, FitsLine}}
use Rattle.records.proofs.{KernelFormLaws.kernel_laws, KernelRecords.{KernelWhole, whole_in, record_in, fits_in, text_as, agrees_of, bad_of, bad_as, text_whole, front_of}}
use Rattle.record_lines.proofs.FormTexts as form

-- a line that is refused isn't taken
pub refused_not : (line other after more : List ℕ) (s t : RecordState) → NoEnd line → NoEnd other → line ++ 10 ∷ after ≡ other ++ 10 ∷ more → RefusesLine line s → TakesLine other s t → ⊥
refused_not line other after more s t p q e bad taken = form.refused_not kernel_form line other after more s t p q e bad taken

-- a line of over 1,024 bytes can't come anywhere
pub long_refused : (s : RecordState) (line : List ℕ) → FitsAt kernel_form s.awaits s → 1024 < length line → RefusesLine line s
long_refused s line fits over = go (behind_line_at kernel_form s.awaits s line) refl
  where
    go : (o : Option RecordState) → behind_line_at kernel_form s.awaits s line ≡ o → o ≡ None
    go None e = refl
    go (Some t) e = let short = (line_spells kernel_form kernel_laws s t line fits e).0.1 in absurd (omega (arith, over, short))

-- no line changes nothing, whatever follows its first byte
pub never_idle : (s : RecordState) → FitsAt kernel_form s.awaits s → (first : ℕ) → ChangesNothing TakesLine s first → ⊥
never_idle s fits first idle =
    let refused = long_refused s (first ∷ replicate 1024 0) fits (omega (arith, length-replicate {A = ℕ} 1024 0)) in
    let both : ◌≡◌ {A = Option RecordState} (Some s) None = sym (idle (replicate 1024 0)) ∙ refused in
    absurd cc

module _ (bytes rest : List ℕ) (s : RecordState) (n : ℕ) (text : TakesText TakesLine bytes nothing_read 1 rest s n) where
  -- where not all was read, and the next line isn't taken, no record stands there
  pub front_not : (f : Form) (r : Record) (rest' : List ℕ) → RecordFitsIn f r → bytes ≡ text_in f r ++ rest' → (s.awaits ≡ Done → ⊥) → ((line after : List ℕ) (t : RecordState) → rest ≡ line ++ 10 ∷ after → NoEnd line → TakesLine line s t → ⊥) → ⊥
  front_not f r rest' fit e not_all not_next = form.front_not kernel_form kernel_laws bytes rest s n text (whole_in f r) rest' (fits_in f r fit) (e ∙ ap (λ t. t ++ rest') (text_as f r fit)) not_all not_next

  -- what was read is within all limits
  pub read_fits : FitsAt kernel_form s.awaits s
  read_fits = form.read_fits kernel_form kernel_laws bytes rest s n text

  -- with nothing behind them the bytes are the record's text
  pub is_whole : s.awaits ≡ Done → rest ≡ [] → IsWhole bytes (record_of s)
  is_whole at none = text_whole bytes (whole_of s) (form.is_whole kernel_form kernel_laws bytes rest s n text at none)

  -- what was read stands at the front
  pub front_found : (k : ℕ) → s.awaits ≡ Done → k ≡ length bytes - length rest → IsFront bytes (record_of s, k)
  front_found k at count = front_of bytes (whole_of s) k (form.front_found kernel_form kernel_laws bytes rest s n text k at count)

  -- and nothing else does
  pub front_only : (f : Form) (r : Record) (rest' : List ℕ) (k : ℕ) → s.awaits ≡ Done → k ≡ length bytes - length rest → RecordFitsIn f r → bytes ≡ text_in f r ++ rest' → ◌≡◌ {A = Record × ℕ} (record_of s, k) (r, length (text_in f r))
  front_only f r rest' k at count fit e =
      let only = form.front_only kernel_form kernel_laws bytes rest s n text (whole_in f r) rest' k at count (fits_in f r fit) (e ∙ ap (λ t. t ++ rest') (text_as f r fit)) in
      let is : record_of s ≡ r = ap (λ (w : KernelWhole). record_in w) only.0 in
      let long : k ≡ length (text_in f r) = only.1 ∙ ap length (sym (text_as f r fit)) in
      λ i. (is i, long i)

  -- some record's text begins with the lines that were taken
  pub agrees_before : (k : ℕ) → k < n → Agrees k bytes
  agrees_before k few = agrees_of k bytes (form.agrees_before kernel_form kernel_laws bytes rest s n text k few)

  -- where not all was read, or bytes follow, a line without an end is the first bad one
  pub end_is_bad : NoEnd rest → (s.awaits ≡ Done → rest ≡ [] → ⊥) → IsBadLine bytes n
  end_is_bad no_end not_all = bad_of bytes n (form.end_is_bad kernel_form kernel_laws bytes rest s n text no_end not_all)

  -- a line that is refused is the first bad one
  pub line_is_bad : (line after : List ℕ) → rest ≡ line ++ 10 ∷ after → NoEnd line → RefusesLine line s → IsBadLine bytes n
  line_is_bad line after is no_end bad = bad_of bytes n (form.line_is_bad kernel_form kernel_laws bytes rest s n text line after is no_end bad)

-- bytes with a line that is refused: whatever follows, it is the first bad one
pub refused_is_bad : (bytes more : List ℕ) (n : ℕ) → RefusesAny TakesLine RefusesLine FitsLine bytes nothing_read 1 n → IsBadLine (bytes ++ more) n
refused_is_bad bytes more n refused = bad_of (bytes ++ more) n (form.refused_is_bad kernel_form kernel_laws FitsLine bytes more n refused)

-- a text with a bad line isn't a record's
pub bad_is_none : (bytes : List ℕ) (n : ℕ) (f : Form) (r : Record) → IsBadLine bytes n → RecordFitsIn f r → bytes ≡ text_in f r → ⊥
bad_is_none bytes n f r is fit e = form.bad_is_none kernel_form kernel_laws bytes n (whole_in f r) (bad_as bytes n is) (fits_in f r fit) (e ∙ text_as f r fit)

-- a record whose text the bytes are is what was read
pub read_is : (bytes : List ℕ) (s : RecordState) (n : ℕ) (f : Form) (r : Record) → TakesText TakesLine bytes nothing_read 1 [] s n → RecordFitsIn f r → bytes ≡ text_in f r → record_of s ≡ r
read_is bytes s n f r text fit e = ap (λ (w : KernelWhole). record_in w) (form.read_is kernel_form kernel_laws bytes s n (whole_in f r) text (fits_in f r fit) (e ∙ text_as f r fit))

-- no record's text begins another's
pub begins_none : (f g : Form) (a b : Record) (rest : List ℕ) → RecordFitsIn f a → RecordFitsIn g b → text_in g b ≡ text_in f a ++ rest → (f ≡ g) × (a ≡ b) × (rest ≡ [])
begins_none f g a b rest fit_a fit_b e =
    let only = form.begins_none kernel_form kernel_laws (whole_in f a) (whole_in g b) rest (fits_in f a fit_a) (fits_in g b fit_b) (sym (text_as g b fit_b) ∙ (e ∙ ap (λ t. t ++ rest) (text_as f a fit_a))) in
    (ap (λ (w : KernelWhole). w.head.form) only.0, ap (λ (w : KernelWhole). record_in w) only.0, only.1)

-- ---- what readers answer

-- a fault that names a bad line alone
pub names_bad : {X : Type 0} (bytes : List ℕ) (result : Result X LinesFault) → ((n : ℕ) → result ≡ Err (Line n) → IsBadLine bytes n) → IfErr result (NamesBadLine bytes)
names_bad bytes (Ok x) bad = tt
names_bad bytes (Err OutOfMemory) bad = tt
names_bad bytes (Err (Line n)) bad = bad n refl

-- no record's text has a bad line
pub only_bad : (bytes : List ℕ) (result : Result Record LinesFault) (fault : LinesFault) (f : Form) (r : Record) → IsErrAnd result (λ f. f ≡ fault) → RecordFitsIn f r → bytes ≡ text_in f r → ((n : ℕ) → result ≡ Err (Line n) → IsBadLine bytes n) → IsRead r result
only_bad bytes (Ok x) fault f r is fit text bad = absurd is
only_bad bytes (Err OutOfMemory) fault f r is fit text bad = tt
only_bad bytes (Err (Line n)) fault f r is fit text bad = bad_is_none bytes n f r (bad n refl) fit text

-- one record alone has these bytes as its text
pub whole_one : (bytes : List ℕ) (x : Record) (f : Form) (r : Record) → IsWhole bytes x → RecordFitsIn f r → bytes ≡ text_in f r → x ≡ r
whole_one bytes x f r whole fit text = (begins_none whole.form f x r [] whole.fit fit (sym text ∙ (whole.text ∙ sym (append-nil (text_in whole.form x))))).1

-- a fault that names a bad line is none of a record's text
pub bad_is_unread : (bytes : List ℕ) (fault : LinesFault) (f : Form) (r : Record) → NamesBadLine bytes fault → RecordFitsIn f r → bytes ≡ text_in f r → IsRead {X = Record} r (Err fault)
bad_is_unread bytes OutOfMemory f r bad fit text = tt
bad_is_unread bytes (Line n) f r bad fit text = bad_is_none bytes n f r bad fit text

-- what holds of the record whose text was read holds of what is given
pub given_as : {X : Type 0} (P : X → Type 0) (x : X) (result : Result X LinesFault) → IsRead x result → P x → IfOk result P
given_as P x (Ok y) is p = subst P (sym is) p
given_as P x (Err OutOfMemory) is p = tt
given_as P x (Err (Line n)) is p = absurd is
