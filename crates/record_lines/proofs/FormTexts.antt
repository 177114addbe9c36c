-- What lines that are taken, one after the other, say of the bytes that they are the front of.
use Rattle.std.proofs.{Common.{◌≡◌, ℕ, suc, ◌-◌, ◌⊎◌, ◌<◌, List, [], ◌∷◌, ◌++◌, length, length-append, Option, Some, None, inl, inr, refl, sym, ap, ◌∙◌, subst, arith}, lemmas.List.append-nil}
use Rattle.std.specs.List.{AllByRecursion}
use Rattle.record_lines.specs.{declared.forms.form.RecordForm.Ghosts, declared.forms.place.Next.TheVariants.Done, FirstLines.first_lines, FormLaws.FormLaws, FormStates.{State, nothing_read, whole_of, behind_line_at, TakesLine, RefusesLine, AllRead, FitsAt}, FormText.{whole_lines, whole_text}, LineMachine.{TakesEach, TakesText, RefusesLine as RefusesAny}, Received.{Whole, WholeFits}, WholeFaults.{WholeAgrees, IsWholeBadLine, IsWholeText, IsWholeFront}, Words.{NoEnd, text_of_lines}}
use Rattle.record_lines.proofs.{FirstLines.{text_append, line_behind, same_line, no_such_end, first_within, first_same, first_none, first_is, refused_on}, FormEnds.{begins_at, done_is}, FormRuns.{whole_run, done_with}, FormSpells.{Spells, spelled_at, lines_spell, lines_are}}

module _ {S H E T : Type 0} (f : Ghosts S H E T) where
  -- no line can come where all was read
  not_done : (s t : State H E T) (line : List ℕ) → s.awaits ≡ Done → TakesLine f line s t → ⊥
  unfolding behind_line_at
  not_done s t line at e = let none : ◌≡◌ {A = Option (State H E T)} None (Some t) = sym (ap (λ p. behind_line_at f p s line) at) ∙ e in absurd cc

  -- a line that is refused isn't taken
  pub refused_not : (line other after more : List ℕ) (s t : State H E T) → NoEnd line → NoEnd other → line ++ 10 ∷ after ≡ other ++ 10 ∷ more → RefusesLine f line s → TakesLine f other s t → ⊥
  refused_not line other after more s t p q e bad taken =
      let one = same_line line other after more p q e in
      let both : ◌≡◌ {A = Option (State H E T)} None (Some t) = sym (subst (λ l. RefusesLine f l s) one.0 bad) ∙ taken in
      absurd cc

  module _ (laws : FormLaws f) where
    -- ---- records

    starts : FitsAt f (nothing_read f).awaits (nothing_read f)
    starts = ((laws.head.starts.part, laws.head.starts.more), refl)

    -- their lines have no ends in them
    no_ends : (lines : List (List ℕ)) → AllByRecursion f.IsLine lines → AllByRecursion NoEnd lines
    no_ends [] are = tt
    no_ends (line ∷ lines) are = (laws.no_end line are.0, no_ends lines are.1)

    whole_plain : (w : Whole H E T) → WholeFits f w → AllByRecursion NoEnd (whole_lines f w)
    whole_plain w fit = no_ends (whole_lines f w) (lines_are f laws (whole_lines f w) (nothing_read f) (done_with f w) starts (whole_run f laws w fit))

    -- ---- a record at the front

    -- the lines of a record at the front of the bytes: all were taken, or the next is
    abbrev FrontCases : Whole H E T → List ℕ → State H E T → List ℕ → Type 0
    FrontCases w rest' s rest = ((s ≡ done_with f w) × (rest ≡ rest')) ⊎ ((line : List ℕ) × (after : List ℕ) × (rest ≡ line ++ 10 ∷ after) × NoEnd line × ((t : State H E T) × TakesLine f line s t))

    -- the lines of a record against those that were taken, line by line
    front_cases : (w : Whole H E T) (rest' rest : List ℕ) (xs ls : List (List ℕ)) (u s : State H E T) → TakesEach (TakesLine f) xs u (done_with f w) → TakesEach (TakesLine f) ls u s → AllByRecursion NoEnd xs → AllByRecursion NoEnd ls → text_of_lines xs ++ rest' ≡ text_of_lines ls ++ rest → FrontCases w rest' s rest
    front_cases w rest' rest [] [] u s a b p q e = inl (b ∙ sym a, sym e)
    front_cases w rest' rest [] (l ∷ ls) u s a b p q e = absurd (not_done u b.0 l (ap (λ v. v.awaits) (sym a)) b.1)
    front_cases w rest' rest (x ∷ xs) [] u s a b p q e = inr (x, text_of_lines xs ++ rest', sym e ∙ line_behind x xs rest', p.0, (a.0, subst (λ v. TakesLine f x v a.0) (sym b) a.1))
    front_cases w rest' rest (x ∷ xs) (l ∷ ls) u s a b p q e =
        let cut = same_line x l (text_of_lines xs ++ rest') (text_of_lines ls ++ rest) p.0 q.0 (sym (line_behind x xs rest') ∙ (e ∙ line_behind l ls rest)) in
        let both : ◌≡◌ {A = Option (State H E T)} (Some a.0) (Some b.0) = sym a.1 ∙ (ap (behind_line_at f u.awaits u) cut.0 ∙ b.1) in
        let one : a.0 ≡ b.0 = cc in
        front_cases w rest' rest xs ls b.0 s (subst (λ v. TakesEach (TakesLine f) xs v (done_with f w)) one a.2) b.2 p.1 q.1 cut.1

    module _ (bytes rest : List ℕ) (s : State H E T) (n : ℕ) (text : TakesText (TakesLine f) bytes (nothing_read f) 1 rest s n) where
      -- what a record's text has behind the lines that were taken
      cases_of : (w : Whole H E T) (rest' other : List ℕ) → WholeFits f w → whole_text f w ++ rest' ≡ text_of_lines text.lines ++ other → FrontCases w rest' s other
      cases_of w rest' other fit e = front_cases w rest' other (whole_lines f w) text.lines (nothing_read f) s (whole_run f laws w fit) text.takes (whole_plain w fit) text.each e

      front_is : (w : Whole H E T) (rest' : List ℕ) → WholeFits f w → bytes ≡ whole_text f w ++ rest' → FrontCases w rest' s rest
      front_is w rest' fit e = cases_of w rest' rest fit (sym e ∙ text.parts)

      -- where not all was read, and the next line isn't taken, no record stands there
      pub front_not : (w : Whole H E T) (rest' : List ℕ) → WholeFits f w → bytes ≡ whole_text f w ++ rest' → (s.awaits ≡ Done → ⊥) → ((line after : List ℕ) (t : State H E T) → rest ≡ line ++ 10 ∷ after → NoEnd line → TakesLine f line s t → ⊥) → ⊥
      front_not w rest' fit e not_all not_next = elim (front_is w rest' fit e) [
        | inl all ↦ not_all (ap (λ v. v.awaits) all.0)
        | inr more ↦ not_next more.0 more.1 more.4.0 more.2 more.3 more.4.1
      ]

      -- they spell what was read
      spells : Spells f text.lines s
      spells = subst (λ l. Spells f l s) (ap (λ l. l ++ text.lines) laws.head.starts.text) (lines_spell f laws text.lines (nothing_read f) s starts text.takes)

      -- what was read is within all limits
      pub read_fits : FitsAt f s.awaits s
      read_fits = spells.0

      -- where all was read they are the record's
      front_parts : s.awaits ≡ Done → WholeFits f (whole_of s) × (bytes ≡ whole_text f (whole_of s) ++ rest)
      front_parts at =
          let all : AllRead f s = subst (λ p. FitsAt f p s) at spells.0 in
          let lines : whole_lines f (whole_of s) ≡ text.lines = ap (λ p. spelled_at f p s) (sym at) ∙ spells.1 in
          (done_is f s all, text.parts ∙ ap (λ l. text_of_lines l ++ rest) (sym lines))

      -- with nothing behind them the bytes are the record's text
      pub is_whole : s.awaits ≡ Done → rest ≡ [] → IsWholeText f bytes (whole_of s)
      is_whole at none = let parts = front_parts at in record { fit = parts.0; text = parts.1 ∙ (ap (λ t. whole_text f (whole_of s) ++ t) none ∙ append-nil (whole_text f (whole_of s))) }

      -- what was taken is as long as its text
      front_count : (k : ℕ) → s.awaits ≡ Done → k ≡ length bytes - length rest → k ≡ length (whole_text f (whole_of s))
      front_count k at count = let parts = front_parts at in omega (arith, count, ap length parts.1, length-append (whole_text f (whole_of s)) rest)

      -- what was read stands at the front
      pub front_found : (k : ℕ) → s.awaits ≡ Done → k ≡ length bytes - length rest → IsWholeFront f bytes (whole_of s) k
      front_found k at count =
          let parts = front_parts at in
          record { fit = parts.0; rest = rest; text = parts.1; is = front_count k at count }

      -- and nothing else does
      pub front_only : (w : Whole H E T) (rest' : List ℕ) (k : ℕ) → s.awaits ≡ Done → k ≡ length bytes - length rest → WholeFits f w → bytes ≡ whole_text f w ++ rest' → (whole_of s ≡ w) × (k ≡ length (whole_text f w))
      front_only w rest' k at count fit e = elim (front_is w rest' fit e) [
        | inl all ↦ (let is : whole_of s ≡ w = ap whole_of all.0 in (is, front_count k at count ∙ ap (λ (v : Whole H E T). length (whole_text f v)) is))
        | inr more ↦ absurd (not_done s more.4.0 more.0 at more.4.1)
      ]

      -- ---- the first bad line

      -- some record's text begins with the lines that were taken
      pub agrees_before : (k : ℕ) → k < n → WholeAgrees f k bytes
      agrees_before k few =
          let on = begins_at f laws s.awaits s spells.0 in
          let begin : whole_text f on.shown ≡ text_of_lines text.lines ++ text_of_lines on.more
          = ap text_of_lines (on.lines ∙ ap (λ l. l ++ on.more) spells.1) ∙ text_append text.lines on.more in
          let is = text.number in
          record { shown = on.shown; fit = on.fit; same = ap (first_lines k) text.parts ∙ (first_within k text.lines rest (text_of_lines on.more) text.each (omega (arith, few, is)) ∙ ap (first_lines k) (sym begin)) }

      -- where not all was read, or bytes follow, and the next line isn't taken, it is the first bad one
      is_bad : (s.awaits ≡ Done → rest ≡ [] → ⊥) → ((line after : List ℕ) (t : State H E T) → rest ≡ line ++ 10 ∷ after → NoEnd line → TakesLine f line s t → ⊥) → IsWholeBadLine f bytes n
      is_bad not_all not_next = record { bad = bad; before = agrees_before }
        where
          bad : WholeAgrees f n bytes → ⊥
          bad agrees =
              let ls = text.lines in
              let is : n ≡ suc (length ls) = (let count = text.number in omega (arith, count)) in
              let same = first_same ls rest (whole_text f agrees.shown) text.each (subst (λ k. first_lines k (text_of_lines ls ++ rest) ≡ first_lines k (whole_text f agrees.shown)) is (sym (ap (first_lines n) text.parts) ∙ agrees.same)) in
              elim (cases_of agrees.shown [] same.0 agrees.fit (append-nil (whole_text f agrees.shown) ∙ same.1)) [
                | inl all ↦ not_all (ap (λ v. v.awaits) all.0) (first_none rest (same.2 ∙ ap (first_lines 1) all.1))
                | inr next ↦ (let found = first_is rest next.0 next.1 next.3 (same.2 ∙ ap (first_lines 1) next.2) in not_next next.0 found.0 next.4.0 found.1 next.3 next.4.1)
              ]

      -- where not all was read, or bytes follow, a line without an end is the first bad one
      pub end_is_bad : NoEnd rest → (s.awaits ≡ Done → rest ≡ [] → ⊥) → IsWholeBadLine f bytes n
      end_is_bad no_end not_all = is_bad not_all (λ line after t is plain taken. no_such_end line rest after no_end (sym is))

      -- a line that is refused is the first bad one
      pub line_is_bad : (line after : List ℕ) → rest ≡ line ++ 10 ∷ after → NoEnd line → RefusesLine f line s → IsWholeBadLine f bytes n
      line_is_bad line after is no_end bad = is_bad (λ at none. no_such_end line [] after tt (sym is ∙ none))
          (λ other more t same plain taken. refused_not line other after more s t no_end plain (sym is ∙ same) bad taken)

      -- bytes behind the end are
      pub more_is_bad : s.awaits ≡ Done → (rest ≡ [] → ⊥) → IsWholeBadLine f bytes n
      more_is_bad at some = is_bad (λ done none. some none) (λ line after t is plain taken. not_done s t line at taken)

    -- bytes with a line that is refused: whatever follows, it is the first bad one
    pub refused_is_bad : (fits : ℕ → ℕ → Type 0) (bytes more : List ℕ) (n : ℕ) → RefusesAny (TakesLine f) (RefusesLine f) fits bytes (nothing_read f) 1 n → IsWholeBadLine f (bytes ++ more) n
    refused_is_bad fits bytes more n refused = elim (refused_on (TakesLine f) (RefusesLine f) fits bytes more (nothing_read f) 1 n refused) [
      | inl r ↦ line_is_bad (bytes ++ more) (r.line ++ 10 ∷ r.after) r.new n r.before r.line r.after refl r.no_end r.bad
      | inr r ↦ end_is_bad (bytes ++ more) r.0 r.1 n r.2 r.3 (λ at none. let some = r.4 in absurd (omega (arith, some, ap length none)))
    ]

    -- a text with a bad line isn't a record's
    pub bad_is_none : (bytes : List ℕ) (n : ℕ) (w : Whole H E T) → IsWholeBadLine f bytes n → WholeFits f w → bytes ≡ whole_text f w → ⊥
    bad_is_none bytes n w is fit e = is.bad (record { shown = w; fit = fit; same = ap (first_lines n) e })

    -- a record whose text the bytes are is what was read
    pub read_is : (bytes : List ℕ) (s : State H E T) (n : ℕ) (w : Whole H E T) → TakesText (TakesLine f) bytes (nothing_read f) 1 [] s n → WholeFits f w → bytes ≡ whole_text f w → whole_of s ≡ w
    read_is bytes s n w text fit e = elim (front_is bytes [] s n text w [] fit (e ∙ sym (append-nil (whole_text f w)))) [
      | inl all ↦ ap whole_of all.0
      | inr more ↦ absurd (no_such_end more.0 [] more.1 tt (sym more.2))
    ]

    -- no record's text begins another's
    pub begins_none : (a b : Whole H E T) (rest : List ℕ) → WholeFits f a → WholeFits f b → whole_text f b ≡ whole_text f a ++ rest → (a ≡ b) × (rest ≡ [])
    begins_none a b rest fit_a fit_b e =
        let text : TakesText (TakesLine f) (whole_text f b) (nothing_read f) 1 rest (done_with f a) (suc (length (whole_lines f a))) = record { lines = whole_lines f a; each = whole_plain a fit_a; parts = e; takes = whole_run f laws a fit_a; number = omega arith } in
        elim (front_is (whole_text f b) rest (done_with f a) _ text b [] fit_b (sym (append-nil (whole_text f b)))) [
          | inl all ↦ (ap whole_of all.0, all.1)
          | inr more ↦ absurd (not_done (done_with f a) more.4.0 more.0 refl more.4.1)
        ]
