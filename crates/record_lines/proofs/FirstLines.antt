-- The lines of a text, one by one, and its first lines.
use Rattle.std.proofs.{Common.{◌≡◌, ◌⊎◌, inl, inr, ℕ, zero, suc, ◌≤◌, ◌==◌, Bool, true, false, cond, List, [], ◌∷◌, ◌++◌, length, length-append, ◌<◌, refl, sym, ◌∙◌, ap, subst, append_assoc, arith}, lemmas.Bool.eqb-true, lemmas.Grind.flat_map-append, lemmas.List.append_cancel_left}
use Rattle.std.specs.List.{AllByRecursion}
use Rattle.event_log.proofs.Each.{all_append}
use Rattle.record_lines.specs.{LineMachine.{TakesText, RefusesText, RefusesLine}, FirstLines.first_lines, Words.{text_of_lines, NoEnd}}
use Rattle.record_lines.proofs.LineMachine.{text_longer, long_is_some}

-- the first line of a text, if it has a whole one
pub first_line : (text : List ℕ) → NoEnd text ⊎ ((line : List ℕ) × (after : List ℕ) × NoEnd line × (text ≡ line ++ 10 ∷ after))
first_line [] = inl tt
first_line (b ∷ text) =
    let go : (e : Bool) → (b == 10) ≡ e → NoEnd (b ∷ text) ⊎ ((line : List ℕ) × (after : List ℕ) × NoEnd line × (b ∷ text ≡ line ++ 10 ∷ after))
    = λ e. elim e as (λ v. (b == 10) ≡ v → NoEnd (b ∷ text) ⊎ ((line : List ℕ) × (after : List ℕ) × NoEnd line × (b ∷ text ≡ line ++ 10 ∷ after))) [
      | true ↦ (λ is. inr ([], text, tt, ap (λ c. c ∷ text) (eqb-true b 10 is)))
      | false ↦ (λ is. elim (first_line text) [
        | inl none ↦ inl (is, none)
        | inr more ↦ inr (b ∷ more.0, more.1, (is, more.2), ap (λ l. b ∷ l) more.3)
      ])
    ] in
    go (b == 10) refl

-- the text of lines and others behind them is the text of both
pub text_append : (a b : List (List ℕ)) → text_of_lines (a ++ b) ≡ text_of_lines a ++ text_of_lines b
text_append a b = flat_map-append (λ line. line ++ 10 ∷ []) a b

-- a text begins with its first line, and with that line's end
pub line_first : (line : List ℕ) (lines : List (List ℕ)) → text_of_lines (line ∷ lines) ≡ line ++ 10 ∷ text_of_lines lines
line_first line lines = append_assoc line (10 ∷ []) (text_of_lines lines)

-- so does one with a rest
pub line_behind : (line : List ℕ) (ls : List (List ℕ)) (rest : List ℕ) → text_of_lines (line ∷ ls) ++ rest ≡ line ++ 10 ∷ (text_of_lines ls ++ rest)
line_behind line ls rest = ap (λ t. t ++ rest) (line_first line ls) ∙ append_assoc line (10 ∷ text_of_lines ls) rest

-- the first line end of two equal texts is one place
pub same_line : (a b x y : List ℕ) → NoEnd a → NoEnd b → a ++ 10 ∷ x ≡ b ++ 10 ∷ y → (a ≡ b) × (x ≡ y)
same_line [] [] x y p q e = (refl, cc)
same_line [] (c ∷ b) x y p q e = let is : 10 ≡ c = cc in absurd (grind (arith, q.0))
same_line (c ∷ a) [] x y p q e = let is : c ≡ 10 = cc in absurd (grind (arith, p.0))
same_line (c ∷ a) (d ∷ b) x y p q e =
    let head : c ≡ d = cc in
    let tail : a ++ 10 ∷ x ≡ b ++ 10 ∷ y = cc in
    let rest = same_line a b x y p.1 q.1 tail in
    (λ i. head i ∷ rest.0 i, rest.1)

-- a line with an end is no line without one
pub no_such_end : (a b x : List ℕ) → NoEnd b → a ++ 10 ∷ x ≡ b → ⊥
no_such_end [] [] x q e = absurd cc
no_such_end [] (c ∷ b) x q e = let is : 10 ≡ c = cc in absurd (grind (arith, q.0))
no_such_end (c ∷ a) [] x q e = absurd cc
no_such_end (c ∷ a) (d ∷ b) x q e = let tail : a ++ 10 ∷ x ≡ b = cc in no_such_end a b x q.1 tail

-- lines whose text begins with that of others begin with those
pub lines_front : (xs ls : List (List ℕ)) (rest : List ℕ) → AllByRecursion NoEnd xs → AllByRecursion NoEnd ls → text_of_lines xs ≡ text_of_lines ls ++ rest → (more : List (List ℕ)) × (xs ≡ ls ++ more) × (text_of_lines more ≡ rest) × AllByRecursion NoEnd more
lines_front xs [] rest p q e = (xs, refl, e, p)
lines_front [] (l ∷ ls) rest p q e = absurd (no_such_end l [] (text_of_lines ls ++ rest) tt (sym (e ∙ line_behind l ls rest)))
lines_front (x ∷ xs) (l ∷ ls) rest p q e =
    let cut = same_line x l (text_of_lines xs) (text_of_lines ls ++ rest) p.0 q.0 (sym (line_first x xs) ∙ (e ∙ line_behind l ls rest)) in
    let more = lines_front xs ls rest p.1 q.1 cut.1 in
    (more.0, (λ i. cut.0 i ∷ more.1 i), more.2, more.3)

-- a line is the first of the first lines
first_of_line : (n : ℕ) (line rest : List ℕ) → NoEnd line → first_lines (suc n) (line ++ 10 ∷ rest) ≡ line ++ 10 ∷ first_lines n rest
unfolding first_lines
first_of_line n [] rest p = refl
first_of_line n (b ∷ line) rest p = rw p.0 (ap (λ l. b ∷ l) (first_of_line n line rest p.1))

-- it is also where others follow it
first_of_lines : (n : ℕ) (l : List ℕ) (ls : List (List ℕ)) (rest : List ℕ) → NoEnd l → first_lines (suc n) (text_of_lines (l ∷ ls) ++ rest) ≡ l ++ 10 ∷ first_lines n (text_of_lines ls ++ rest)
first_of_lines n l ls rest p = ap (first_lines (suc n)) (line_behind l ls rest) ∙ first_of_line n l (text_of_lines ls ++ rest) p

-- the first lines of a text go on behind lines that it begins with
first_behind : (ls : List (List ℕ)) (rest : List ℕ) → AllByRecursion NoEnd ls → first_lines (suc (length ls)) (text_of_lines ls ++ rest) ≡ text_of_lines ls ++ first_lines 1 rest
first_behind [] rest p = refl
first_behind (l ∷ ls) rest p =
    first_of_lines (suc (length ls)) l ls rest p.0 ∙ (ap (λ t. l ++ 10 ∷ t) (first_behind ls rest p.1) ∙ sym (line_behind l ls (first_lines 1 rest)))

-- where a text begins with as many lines, what follows them doesn't count
pub first_within : (k : ℕ) (ls : List (List ℕ)) (a b : List ℕ) → AllByRecursion NoEnd ls → k ≤ length ls → first_lines k (text_of_lines ls ++ a) ≡ first_lines k (text_of_lines ls ++ b)
unfolding first_lines
first_within zero ls a b p few = refl
first_within (suc k) [] a b p few = absurd (omega (arith, few))
first_within (suc k) (l ∷ ls) a b p few =
    first_of_lines k l ls a p.0 ∙ (ap (λ t. l ++ 10 ∷ t) (first_within k ls a b p.1 (omega (arith, few))) ∙ sym (first_of_lines k l ls b p.0))

-- a text begins with its first lines
first_begins : (k : ℕ) (bytes : List ℕ) → (more : List ℕ) × (bytes ≡ first_lines k bytes ++ more)
unfolding first_lines
first_begins zero bytes = (bytes, refl)
first_begins (suc k) [] = ([], refl)
first_begins (suc k) (b ∷ bytes) = step (b == 10) (first_begins k bytes) (first_begins (suc k) bytes)
  where
    step : (t : Bool) → (more : List ℕ) × (bytes ≡ first_lines k bytes ++ more) → (more : List ℕ) × (bytes ≡ first_lines (suc k) bytes ++ more)
        → (more : List ℕ) × (b ∷ bytes ≡ b ∷ (cond t (first_lines k bytes) (first_lines (suc k) bytes) ++ more))
    step true fewer same = (fewer.0, ap (λ l. b ∷ l) fewer.1)
    step false fewer same = (same.0, ap (λ l. b ∷ l) same.1)

-- a text with the same first lines begins with the same lines, and goes on with the same one
pub first_same : (ls : List (List ℕ)) (rest bytes : List ℕ) → AllByRecursion NoEnd ls → first_lines (suc (length ls)) (text_of_lines ls ++ rest) ≡ first_lines (suc (length ls)) bytes
    → (other : List ℕ) × (bytes ≡ text_of_lines ls ++ other) × (first_lines 1 rest ≡ first_lines 1 other)
first_same ls rest bytes p e =
    let begin = first_begins (suc (length ls)) bytes in
    let other : List ℕ = first_lines 1 rest ++ begin.0 in
    let parts : bytes ≡ text_of_lines ls ++ other = begin.1 ∙ (ap (λ t. t ++ begin.0) (sym e ∙ first_behind ls rest p) ∙ append_assoc (text_of_lines ls) (first_lines 1 rest) begin.0) in
    (other, parts, append_cancel_left (text_of_lines ls) (first_lines 1 rest) (first_lines 1 other) (sym (first_behind ls rest p) ∙ (e ∙ (ap (first_lines (suc (length ls))) parts ∙ first_behind ls other p))))

-- no first line: no bytes
pub first_none : (bytes : List ℕ) → first_lines 1 bytes ≡ first_lines 1 [] → bytes ≡ []
unfolding first_lines
first_none [] e = refl
first_none (b ∷ bytes) e = absurd cc

-- a first line that is there with its end in another text
pub first_is : (bytes line after : List ℕ) → NoEnd line → first_lines 1 bytes ≡ first_lines 1 (line ++ 10 ∷ after) → (more : List ℕ) × (bytes ≡ line ++ 10 ∷ more)
unfolding first_lines
first_is bytes line after plain e =
    let begin = first_begins 1 bytes in
    (begin.0, begin.1 ∙ (ap (λ t. t ++ begin.0) (e ∙ first_of_line 0 line after plain) ∙ append_assoc line (10 ∷ []) begin.0))

-- a line that isn't taken, whatever follows the text: it comes with its end, or the text ends in it
pub refused_on : {S : Type 0} (act : List ℕ → S → S → Type 0) (refuses : List ℕ → S → Type 0) (fits : ℕ → ℕ → Type 0) (text more : List ℕ) (old : S) (n m : ℕ) → RefusesLine act refuses fits text old n m
    → RefusesText act refuses (text ++ more) old n m ⊎ ((rest : List ℕ) × (new : S) × TakesText act (text ++ more) old n rest new m × NoEnd rest × (0 < length rest) × refuses rest new)
refused_on act refuses fits text more old n m (inl r) = inl (record {
  line = r.line;
  after = r.after ++ more;
  new = r.new;
  before = subst (λ l. TakesText act (text ++ more) old n l r.new m) (append_assoc r.line (10 ∷ r.after) more) (text_longer act more text old n (r.line ++ 10 ∷ r.after) r.new m r.before);
  no_end = r.no_end;
  bad = r.bad;
})
refused_on act refuses fits text more old n m (inr r) =
    let longer = text_longer act more text old n r.rest r.new m r.before in
    elim (first_line more) [
      | inl none ↦ (let some = long_is_some fits r.rest r.long in inr (r.rest ++ more, r.new, longer, all_append (λ b. (b == 10) ≡ false) r.rest more r.no_end none, omega (arith, some, length-append r.rest more), r.bad more))
      | inr cut ↦ inl (record {
        line = r.rest ++ cut.0;
        after = cut.1;
        new = r.new;
        before = subst (λ l. TakesText act (text ++ more) old n l r.new m) (ap (λ l. r.rest ++ l) cut.3 ∙ sym (append_assoc r.rest cut.0 (10 ∷ cut.1))) longer;
        no_end = all_append (λ b. (b == 10) ≡ false) r.rest cut.0 r.no_end cut.2;
        bad = r.bad cut.0;
      })
    ]
