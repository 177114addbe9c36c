-- Texts, line by line and piece by piece.
use Rattle.std.proofs.{Common.{◌≡◌, ℕ, ◌+◌, ◌<◌, ◌≤◌, get_or, Result, Ok, Err, Bool, true, false, List, [], ◌∷◌, ◌++◌, ◌==◌, length, length-append, append_assoc, refl, sym, ◌∙◌, ap, subst, arith}, lemmas.Grind.flat_map-append, lemmas.List.append-nil}
use Rattle.std.specs.Result.{IsErrAnd}
use Rattle.event_log.proofs.Each.{all_append, all_push}
use Rattle.record_lines.specs.{LineMachine.{TakesEach, TakesText, RefusesText, RefusesRest, Passes, IsKept, IsShort, BeginsIdle, IsHeld, HasTaken}, Words.{NoEnd, text_of_lines}}

pub text_more : (lines : List (List ℕ)) (line : List ℕ) → text_of_lines (lines ++ line ∷ []) ≡ text_of_lines lines ++ (line ++ 10 ∷ [])
text_more lines line = flat_map-append (λ l. l ++ 10 ∷ []) lines (line ∷ []) ∙ ap (λ t. text_of_lines lines ++ t) (append-nil (line ++ 10 ∷ []))

-- a line more of the text was passed
pub line_behind : (done rest whole line after : List ℕ) → done ++ rest ≡ whole → rest ≡ line ++ 10 ∷ after → (done ++ (line ++ 10 ∷ [])) ++ after ≡ whole
line_behind done rest whole line after e is = append_assoc done (line ++ 10 ∷ []) after ∙ (ap (λ r. done ++ r) (append_assoc line (10 ∷ []) after ∙ sym is) ∙ e)

-- the first byte of both
pub first_in_front : (xs ys : List ℕ) → 1 ≤ length xs → (rest : List ℕ) × (xs ++ ys ≡ get_or xs 0 0 ∷ rest)
first_in_front [] ys some = absurd (omega arith)
first_in_front (x ∷ xs) ys some = (xs ++ ys, refl)

pub first_in_back : (xs ys : List ℕ) → length xs < 1 → 1 ≤ length ys → (rest : List ℕ) × (xs ++ ys ≡ get_or ys 0 0 ∷ rest)
first_in_back [] [] none some = absurd (omega arith)
first_in_back [] (y ∷ ys) none some = (ys, refl)
first_in_back (x ∷ xs) ys none some = absurd (omega arith)

-- what is too long has some bytes
pub long_is_some : (fits : ℕ → ℕ → Type 0) (bytes : List ℕ) → (IsShort fits bytes → ⊥) → 0 < length bytes
long_is_some fits [] long = absurd (long tt)
long_is_some fits (b ∷ bytes) long = omega arith

-- a fault that is handed on
pub handed_on : {X E : Type 0} (r : Result X E) (fault e : E) → IsErrAnd r (λ f. f ≡ fault) → r ≡ Err e → fault ≡ e
handed_on (Ok x) fault e is was = absurd cc
handed_on (Err f) fault e is was = let same : f ≡ e = cc in sym is ∙ same

module _ {S : Type 0} (act : List ℕ → S → S → Type 0) where
  each_more : (lines : List (List ℕ)) (line : List ℕ) (old between new : S) → TakesEach act lines old between → act line between new → TakesEach act (lines ++ line ∷ []) old new
  each_more [] line old between new each takes = (new, subst (λ s. act line s new) each takes, refl)
  each_more (l ∷ lines) line old between new each takes = (each.0, each.1, each_more lines line each.0 between new each.2 takes)

  -- as much more behind the text
  pub text_longer : (more text : List ℕ) (old : S) (n : ℕ) (rest : List ℕ) (new : S) (m : ℕ) → TakesText act text old n rest new m → TakesText act (text ++ more) old n (rest ++ more) new m
  text_longer more text old n rest new m so_far = record {
    lines = so_far.lines;
    each = so_far.each;
    parts = ap (λ t. t ++ more) so_far.parts ∙ append_assoc (text_of_lines so_far.lines) rest more;
    takes = so_far.takes;
    number = so_far.number;
  }

  -- a line more
  pub text_more_line : (text rest after line : List ℕ) (old between new : S) (n m : ℕ) → TakesText act text old n rest between m → NoEnd line → rest ≡ line ++ 10 ∷ after → act line between new → TakesText act text old n after new (m + 1)
  text_more_line text rest after line old between new n m so_far no_end is takes = record {
    lines = so_far.lines ++ line ∷ [];
    each = all_push NoEnd so_far.lines line so_far.each no_end;
    parts = so_far.parts ∙ (ap (λ r. text_of_lines so_far.lines ++ r) (is ∙ sym (append_assoc line (10 ∷ []) after)) ∙ (sym (append_assoc (text_of_lines so_far.lines) (line ++ 10 ∷ []) after) ∙ ap (λ t. t ++ after) (sym (text_more so_far.lines line))));
    takes = each_more so_far.lines line old between new so_far.takes takes;
    number = omega (arith, so_far.number, length-append so_far.lines (line ∷ []));
  }

  -- ---- pieces

  -- no end is among what is pending
  pub pending_no_end : (start : S) (text : List ℕ) (state : S) (number : ℕ) (passing : Bool) (pending : List ℕ) → HasTaken act start text state number passing pending → NoEnd pending
  pending_no_end start text state number true pending taken = subst NoEnd (sym (taken.kept.nothing refl)) tt
  pending_no_end start text state number false pending taken = subst NoEnd (sym (taken.kept.whole refl)) taken.no_end

  -- nothing is pending
  pub held_none : (state : S) (pending : List ℕ) → pending ≡ [] → IsHeld act state pending
  held_none state pending none = subst (λ (p : List ℕ). IsHeld act state p) (sym none) (record { few = omega arith; busy = λ never. never })

  -- bytes behind what is pending begin no line that changes nothing
  pub busy_with : (state : S) (pending bytes : List ℕ) → IsHeld act state pending → (pending ≡ [] → BeginsIdle act state bytes → ⊥) → BeginsIdle act state (pending ++ bytes) → ⊥
  busy_with state [] bytes held not = not refl
  busy_with state (b ∷ pending) bytes held not = held.busy

  -- ---- what is kept of a line without an end

  module _ (state : S) (unended : List ℕ) (passing : Bool) (pending : List ℕ) (kept : IsKept act state unended passing pending) (bytes : List ℕ) where
    -- a line that passes goes on
    pub goes_on_passing : passing ≡ true → IsKept act state (unended ++ bytes) passing pending
    goes_on_passing is = record {
      whole = λ e. let both : true ≡ false = sym is ∙ e in absurd cc;
      nothing = kept.nothing;
      passes = λ e. let before = kept.passes e in record {
        some = omega (arith, before.some, length-append unended bytes);
        same = λ more. subst (λ (l : List ℕ). act l state state) (sym (append_assoc unended bytes more)) (before.same (bytes ++ more));
      };
    }

    -- a line begins that passes
    pub begins_passing : passing ≡ false → pending ≡ [] → Passes act state bytes → IsKept act state (unended ++ bytes) true pending
    begins_passing is none passes = record {
      whole = λ e. absurd cc;
      nothing = λ _. none;
      passes = λ _. subst (λ (u : List ℕ). Passes act state (u ++ bytes)) (sym none ∙ kept.whole is) passes;
    }

  module _ (start : S) (text : List ℕ) (state : S) (number : ℕ) (passing : Bool) (pending : List ℕ) (taken : HasTaken act start text state number passing pending) where
    -- the line without an end was ended, and taken
    pub line_ended : (end : List ℕ) (new : S) (next : ℕ) (after_passing : Bool) (after : List ℕ) → NoEnd end → act (taken.unended ++ end) state new → next ≡ number + 1 → after_passing ≡ false → after ≡ [] → HasTaken act start (text ++ (end ++ 10 ∷ [])) new next after_passing after
    line_ended end new next after_passing after no_end takes is stops none = record {
      unended = [];
      taken = subst (λ (m : ℕ). TakesText act (text ++ (end ++ 10 ∷ [])) start 1 [] new m) (sym is)
          (text_more_line (text ++ (end ++ 10 ∷ [])) (taken.unended ++ (end ++ 10 ∷ [])) [] (taken.unended ++ end) start state new 1 number (text_longer (end ++ 10 ∷ []) text start 1 taken.unended state number taken.taken)
          (all_append (λ b. (b == 10) ≡ false) taken.unended end taken.no_end no_end) (sym (append_assoc taken.unended end (10 ∷ []))) takes);
      no_end = tt;
      kept = record { whole = λ _. none; nothing = λ e. let both : true ≡ false = sym e ∙ stops in absurd cc; passes = λ e. let both : true ≡ false = sym e ∙ stops in absurd cc };
    }

    -- more of the line without an end was kept
    pub more_kept : (bytes : List ℕ) (new : S) (same_number : ℕ) (after_passing : Bool) (after : List ℕ) → NoEnd bytes → new ≡ state → same_number ≡ number → IsKept act new (taken.unended ++ bytes) after_passing after → HasTaken act start (text ++ bytes) new same_number after_passing after
    more_kept bytes new same_number after_passing after no_end same is kept = record {
      unended = taken.unended ++ bytes;
      taken = subst (λ (s : S). TakesText act (text ++ bytes) start 1 (taken.unended ++ bytes) s same_number) (sym same)
          (subst (λ (m : ℕ). TakesText act (text ++ bytes) start 1 (taken.unended ++ bytes) state m) (sym is) (text_longer bytes text start 1 taken.unended state number taken.taken));
      no_end = all_append (λ b. (b == 10) ≡ false) taken.unended bytes taken.no_end no_end;
      kept = kept;
    }

  module _ (refuses : List ℕ → S → Type 0) (fits : ℕ → ℕ → Type 0) where
    -- a line that isn't taken
    pub text_bad_line : (text rest after line : List ℕ) (old new : S) (n m : ℕ) → TakesText act text old n rest new m → NoEnd line → rest ≡ line ++ 10 ∷ after → refuses line new → RefusesText act refuses text old n m
    text_bad_line text rest after line old new n m so_far no_end is bad = record {
      line = line;
      after = after;
      new = new;
      no_end = no_end;
      bad = bad;
      before = subst (λ (r : List ℕ). TakesText act text old n r new m) is so_far;
    }

    module _ (start : S) (text : List ℕ) (state : S) (number : ℕ) (passing : Bool) (pending : List ℕ) (taken : HasTaken act start text state number passing pending) where
      -- the line without an end was ended, and isn't taken
      pub end_refused : (end after : List ℕ) → NoEnd end → refuses (taken.unended ++ end) state → RefusesText act refuses (text ++ (end ++ 10 ∷ after)) start 1 number
      end_refused end after no_end bad =
          text_bad_line (text ++ (end ++ 10 ∷ after)) (taken.unended ++ (end ++ 10 ∷ after)) after (taken.unended ++ end) start state 1 number (text_longer (end ++ 10 ∷ after) text start 1 taken.unended state number taken.taken)
          (all_append (λ b. (b == 10) ≡ false) taken.unended end taken.no_end no_end) (sym (append_assoc taken.unended end (10 ∷ after))) bad

      -- the line without an end isn't taken, however it goes on
      pub more_refused : (bytes : List ℕ) → NoEnd bytes → (IsShort fits (taken.unended ++ bytes) → ⊥) → ((more : List ℕ) → refuses ((taken.unended ++ bytes) ++ more) state) → RefusesRest act refuses fits (text ++ bytes) start 1 number
      more_refused bytes no_end long bad = record {
        long = long;
        rest = taken.unended ++ bytes;
        new = state;
        before = text_longer bytes text start 1 taken.unended state number taken.taken;
        no_end = all_append (λ b. (b == 10) ≡ false) taken.unended bytes taken.no_end no_end;
        bad = bad;
      }
