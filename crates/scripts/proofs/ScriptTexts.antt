-- Scripts, text by text.
use Rattle.std.proofs.{Common.{◌≡◌, ◌==◌, ◌↔◌, ℕ, ◌<◌, Bool, true, false, List, [], ◌∷◌, ◌++◌, length, replicate, inl, inr, Result, Ok, Err, refl, sym, ◌∙◌, subst, arith, IsErrAnd, IfOk, IfErr}, lemmas.Bool.{eqb-true, eqb-false}, lemmas.List.{append-nil, length-replicate}}
use Rattle.kernel_object.specs.KernelTypes.{KernelTodo}
use Rattle.record_lines.specs.{declared.text.fault.LinesFault.LinesFault, declared.text.fault.LinesFault.TheVariants.{OutOfMemory, Line}, LineMachine.{TakesText, RefusesText, RefusesLine, ChangesNothing, HasTaken}, Words.{NoEnd, text_of_lines}}
use Rattle.scripts.specs.{ScriptFaults.{ScriptState, TakesScriptLine, RefusesScriptLine, FitsScriptLine, IsNotTaken, NamesFirstBad, HasRead, no_entries}, ScriptText.{AreRequests, IsFirstBad, AreScripts, ScriptsFit, ScriptsWithin}}
use Rattle.records.specs.Settings.{Settings, SettingsFit}
use Rattle.record_lines.proofs.FirstLines.{refused_on}
use Rattle.scripts.proofs.{ScriptLines.{Asked, each_taken, refused, scripts_fit}, ScriptRanges.scripts_within, RequestLaws.long_no_request, ScriptVerdicts.bad_is_not_good}

module _ (settings : Settings) where
  module _ (text rest : List ℕ) (state : ScriptState) (m : ℕ) (takes : TakesText TakesScriptLine text (no_entries settings) 1 rest state m) where
    -- what the lines that were taken ask for
    taken : Asked settings [] takes.lines state
    taken = each_taken settings takes.lines [] (no_entries settings) state refl refl (λ cpu. omega arith) takes.takes

    abbrev good : AreRequests settings (text_of_lines takes.lines) taken.requests
    good = record { lines = takes.lines; text = refl; each = takes.each; asked = taken.asked; within = taken.within }

    -- a text with a line without an end is bad
    pub rest_is_bad : NoEnd rest → 0 < length rest → IsFirstBad settings text m
    rest_is_bad no_end some = record { before = text_of_lines takes.lines; requests = taken.requests; good = good; number = (let count = takes.number in omega (arith, count)); line = rest; no_end = no_end; bad = inl (takes.parts, some) }

  -- so is one with a line that isn't taken
  line_is_bad : (text : List ℕ) (m : ℕ) → RefusesText TakesScriptLine RefusesScriptLine text (no_entries settings) 1 m → IsFirstBad settings text m
  line_is_bad text m r =
      let is = taken text (r.line ++ 10 ∷ r.after) r.new m r.before in
      record {
        before = text_of_lines r.before.lines;
        requests = is.requests;
        good = good text (r.line ++ 10 ∷ r.after) r.new m r.before;
        number = (let count = r.before.number in omega (arith, count));
        line = r.line;
        no_end = r.no_end;
        bad = inr (r.after, r.before.parts, refused settings r.line r.new.lists is.requests is.each is.within (subst (λ (s : Settings). IsNotTaken s r.line r.new.lists) is.same r.bad));
      }

  -- a line that isn't taken, whatever follows, is the first bad one
  pub line_refused : (text more : List ℕ) (m : ℕ) → RefusesLine TakesScriptLine RefusesScriptLine FitsScriptLine text (no_entries settings) 1 m → IsFirstBad settings (text ++ more) m
  line_refused text more m refuses = elim (refused_on TakesScriptLine RefusesScriptLine FitsScriptLine text more (no_entries settings) 1 m refuses) [
    | inl r ↦ line_is_bad (text ++ more) m r
    | inr r ↦ rest_is_bad (text ++ more) r.0 r.1 m r.2 r.3 r.4
  ]

  -- a text of whole lines spells the scripts
  pub whole_taken : (text : List ℕ) (state : ScriptState) (m : ℕ) → TakesText TakesScriptLine text (no_entries settings) 1 [] state m → AreScripts settings text state.lists
  whole_taken text state m takes =
      let is = taken text [] state m takes in
      record { requests = is.requests; spelled = subst (λ t. AreRequests settings t is.requests) (sym (takes.parts ∙ append-nil (text_of_lines takes.lines))) (good text [] state m takes); each = is.each }

  names_by : (text : List ℕ) (fault : LinesFault) → ((m : ℕ) → fault ≡ Line m → IsFirstBad settings text m) → NamesFirstBad settings text fault
  names_by text OutOfMemory first = tt
  names_by text (Line m) first = first m refl

  -- a piece's refusal that is handed on
  pub refusal_names : {X : Type 0} (text : List ℕ) (fault : LinesFault) (r : Result X LinesFault) → IsErrAnd r (λ f. f ≡ fault) → ((m : ℕ) → fault ≡ Line m → IsFirstBad settings text m) → IfErr r (NamesFirstBad settings text)
  refusal_names text fault (Ok x) is first = tt
  refusal_names text fault (Err f) is first = subst (NamesFirstBad settings text) (sym is) (names_by text fault first)

  -- a text that is refused spells no scripts
  pub no_scripts : {X : Type 0} (text : List ℕ) (r : Result X LinesFault) → SettingsFit settings → IfErr r (NamesFirstBad settings text) → (n : ℕ) (scripts : List (List KernelTodo)) → r ≡ Err (Line n) → AreScripts settings text scripts → ⊥
  no_scripts text (Ok x) fit names n scripts is are = absurd cc
  no_scripts text (Err OutOfMemory) fit names n scripts is are = absurd cc
  no_scripts text (Err (Line m)) fit names n scripts is are = bad_is_not_good settings fit text m scripts are names

  -- scripts that were read fit the settings
  pub fit_by : {E : Type 0} (text : List ℕ) (r : Result (List (List KernelTodo)) E) → IfOk r (AreScripts settings text) → IfOk r (ScriptsFit settings.cpus (length settings.objects))
  fit_by text (Ok scripts) are = scripts_fit settings text scripts are
  fit_by text (Err e) are = tt

  -- they are within all limits
  pub within_all : (text : List ℕ) (state : ScriptState) (m : ℕ) → SettingsFit state.settings → TakesText TakesScriptLine text (no_entries settings) 1 [] state m → ScriptsWithin state.lists
  within_all text state m fits takes =
      let limits = subst SettingsFit (taken text [] state m takes).same fits in
      let fit = scripts_fit settings text state.lists (whole_taken text state m takes) in
      (omega (arith, fit.0, limits.cpus.1), scripts_within (length settings.objects) _ limits.count.1 _ fit.1)

  -- what was read from no entries on
  pub has_read : (text : List ℕ) (start state : ScriptState) (number : ℕ) (passing : Bool) (pending : List ℕ) → start ≡ no_entries settings → HasTaken TakesScriptLine start text state number passing pending → HasRead settings text state number passing pending
  has_read text start state number passing pending is taken = subst (λ (s : ScriptState). HasTaken TakesScriptLine s text state number passing pending) is taken

  -- a line of a text that is there whole
  pub text_is_bad : (text : List ℕ) (start : ScriptState) (m : ℕ) → start ≡ no_entries settings → RefusesLine TakesScriptLine RefusesScriptLine FitsScriptLine text start 1 m → IsFirstBad settings text m
  text_is_bad text start m is refuses =
      subst (λ (t : List ℕ). IsFirstBad settings t m) (append-nil text) (line_refused text [] m (subst (λ (s : ScriptState). RefusesLine TakesScriptLine RefusesScriptLine FitsScriptLine text s 1 m) is refuses))

-- a line of more than 1,024 bytes that is no comment isn't taken
pub long_refused : (state : ScriptState) → SettingsFit state.settings → (first : ℕ) (rest : List ℕ) → (first ≡ 35 → ⊥) → 1024 < length (first ∷ rest) → RefusesScriptLine (first ∷ rest) state
long_refused state fit first rest other long = record {
  no_blank = other;
  no_room = λ r is. let short = long_no_request state.settings fit (first ∷ rest) r is in absurd (omega (arith, short, long));
}

-- a comment changes nothing
comment_idle : (state : ScriptState) (first : ℕ) → first ≡ 35 → ChangesNothing TakesScriptLine state first
comment_idle state first is = λ rest. record { same = refl; takes = inl (is, refl) }

-- and nothing else does, whatever follows
idle_comment : (state : ScriptState) → SettingsFit state.settings → (first : ℕ) → ChangesNothing TakesScriptLine state first → (first ≡ 35 → ⊥) → ⊥
idle_comment state fit first idle other =
    let line = first ∷ replicate 1024 0 in
    let taken = idle (replicate 1024 0) in
    elim taken.takes [
      | inl blank ↦ other blank.0
      | inr entry ↦ (let short = long_no_request state.settings fit line entry.0 entry.1 in absurd (omega (arith, short, length-replicate {A = ℕ} 1024 0)))
    ]

idle_is : (state : ScriptState) → SettingsFit state.settings → (first : ℕ) → ChangesNothing TakesScriptLine state first → (b : Bool) → (first == 35) ≡ b → b ≡ true
idle_is state fit first idle true e = refl
idle_is state fit first idle false e = absurd (idle_comment state fit first idle (eqb-false first 35 e))

-- so the lines that begin with the byte change nothing exactly if they are comments
pub passes_exactly : (state : ScriptState) → SettingsFit state.settings → (first : ℕ) → ((first == 35) ≡ true) ↔ ChangesNothing TakesScriptLine state first
passes_exactly state fit first = (λ yes. comment_idle state first (eqb-true first 35 yes), λ idle. idle_is state fit first idle (first == 35) refl)
