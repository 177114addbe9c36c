-- No text is both scripts and one with a first bad line.
use Rattle.std.proofs.{Common.{◌≡◌, ℕ, ◌<◌, ◌≤◌, ◌^◌, ◌==◌, List, [], ◌∷◌, ◌++◌, length, refl, sym, ◌∙◌, ap, subst, arith, cond, decimal, inl, inr}, lemmas.Bool.eq-eqb, lemmas.List.Sums.{sum_by-append, sum_by-cons}}
use Rattle.std.specs.List.{AllByRecursion}
use Rattle.kernel_object.specs.KernelTypes.{KernelTodo}
use Rattle.records.specs.{declared.record.TheConstants.MOST_ENTRIES, Settings.{Settings, SettingsFit}}
use Rattle.record_lines.specs.{Reading.AreDigits, Words.{text_of_lines, NoEnd}}
use Rattle.scripts.specs.ScriptText.{Request, IsBlank, IsRequest, AskFor, AreRequests, AreScripts, IsRefused, IsFirstBad, count_of}
use Rattle.record_lines.proofs.{Digits.{decimal_digits, decimal_some}, FirstLines.{line_first, same_line, no_such_end, lines_front}}
use Rattle.scripts.proofs.RequestLaws.{request_again}

-- a request after others is counted too
counted_after : (before after : List Request) (r : Request) → count_of r.cpu before < count_of r.cpu (before ++ r ∷ after)
counted_after before after r =
    let f : Request → ℕ = λ q. cond (q.cpu == r.cpu) 1 0 in
    let here : f r ≡ 1 = rw (eq-eqb r.cpu r.cpu refl) refl in
    omega (arith, sum_by-append f before (r ∷ after), sum_by-cons f r after, here)

module _ (settings : Settings)
    (one : (line : List ℕ) (q r : Request) → IsRequest settings line q → IsRequest settings line r → q ≡ r)
    (no_blank : (line : List ℕ) (r : Request) → IsRequest settings line r → IsBlank line → ⊥) where
  -- lines that other lines begin with ask for the first of their requests
  asks_front : (ls more : List (List ℕ)) (qs rs : List Request) → AskFor settings ls qs → AskFor settings (ls ++ more) rs → (others : List Request) × (rs ≡ qs ++ others) × AskFor settings more others
  asks_front [] more qs rs asked all = (rs, ap (λ q. q ++ rs) (sym asked), all)
  asks_front (l ∷ ls) more [] [] asked all = asks_front ls more [] [] asked.1 all.1
  asks_front (l ∷ ls) more [] (r ∷ rs) asked all = elim all [
    | inl none ↦ asks_front ls more [] (r ∷ rs) asked.1 none.1
    | inr some ↦ absurd (no_blank l r some.0 asked.0)
  ]
  asks_front (l ∷ ls) more (q ∷ qs) [] asked all = elim asked [
    | inl none ↦ asks_front ls more (q ∷ qs) [] none.1 all.1
    | inr some ↦ absurd (no_blank l q some.0 all.0)
  ]
  asks_front (l ∷ ls) more (q ∷ qs) (r ∷ rs) asked all = elim asked [
    | inl none ↦ elim all [
      | inl also ↦ asks_front ls more (q ∷ qs) (r ∷ rs) none.1 also.1
      | inr some ↦ absurd (no_blank l r some.0 none.0)
    ]
    | inr some ↦ elim all [
      | inl none ↦ absurd (no_blank l q some.0 none.0)
      | inr also ↦
          let rest = asks_front ls more qs rs some.1 also.1 in
          let same : r ≡ q = one l r q also.0 some.0 in
          (rest.0, (λ i. same i ∷ rest.1 i), rest.2)
    ]
  ]

  no_line : (more : List (List ℕ)) (line : List ℕ) → NoEnd line → 0 < length line → text_of_lines more ≡ line → ⊥
  no_line [] line k some e = absurd (omega (arith, ap length e, some))
  no_line (m ∷ more) line k some e = no_such_end m line (text_of_lines more) k (sym (line_first m more) ∙ e)

  refused_line : (more : List (List ℕ)) (others before : List Request) (line rest : List ℕ) → AllByRecursion NoEnd more → AskFor settings more others → NoEnd line
      → text_of_lines more ≡ line ++ 10 ∷ rest → IsRefused settings before line → ((cpu : ℕ) → count_of cpu (before ++ others) ≤ MOST_ENTRIES) → ⊥
  refused_line [] others before line rest h asked k e bad within = no_such_end line [] rest tt (sym e)
  refused_line (m ∷ more) [] before line rest h asked k e bad within =
      let cut = same_line m line (text_of_lines more) rest h.0 k (sym (line_first m more) ∙ e) in
      bad.no_blank (subst IsBlank cut.0 asked.0)
  refused_line (m ∷ more) (r ∷ others) before line rest h asked k e bad within =
      let cut = same_line m line (text_of_lines more) rest h.0 k (sym (line_first m more) ∙ e) in
      elim asked [
        | inl none ↦ bad.no_blank (subst IsBlank cut.0 none.0)
        | inr some ↦
            let last = bad.no_room r (subst (λ (z : List ℕ). IsRequest settings z r) cut.0 some.0) in
            absurd (omega (arith, last, counted_after before others r, within r.cpu))
      ]

  no_both : (bytes : List ℕ) (n : ℕ) (requests : List Request) → AreRequests settings bytes requests → IsFirstBad settings bytes n → ⊥
  no_both bytes n requests good bad = elim bad.bad [
    | inl end ↦
        let front = lines_front good.lines bad.good.lines bad.line good.each bad.good.each (sym good.text ∙ (end.0 ∙ ap (λ t. t ++ bad.line) bad.good.text)) in
        no_line front.0 bad.line bad.no_end end.1 front.2
    | inr line ↦
        let tail : List ℕ = bad.line ++ 10 ∷ line.0 in
        let front = lines_front good.lines bad.good.lines tail good.each bad.good.each (sym good.text ∙ (line.1 ∙ ap (λ t. t ++ tail) bad.good.text)) in
        let asks = asks_front bad.good.lines front.0 bad.requests requests bad.good.asked (subst (λ l. AskFor settings l requests) front.1 good.asked) in
        refused_line front.0 asks.0 bad.requests bad.line line.0 front.3 asks.2 bad.no_end front.2 line.2 (λ cpu. subst (λ (l : List Request). count_of cpu l ≤ MOST_ENTRIES) asks.1 (good.within cpu))
  ]

-- a line that begins with a number is neither empty nor a comment
digits_first : (word rest : List ℕ) → AreDigits word → 0 < length word → IsBlank (word ++ rest) → ⊥
digits_first [] rest are some blank = omega (arith, some)
digits_first (b ∷ word) rest are some blank = let digit = are 0 some in omega (arith, digit.0, blank)

module _ (settings : Settings) (fit : SettingsFit settings) where
  one_request : (line : List ℕ) (q r : Request) → IsRequest settings line q → IsRequest settings line r → q ≡ r
  one_request line q r h k =
      let first = request_again settings fit line q h in
      let second = request_again settings fit line r k in
      cc

  request_no_blank : (line : List ℕ) (r : Request) → IsRequest settings line r → IsBlank line → ⊥
  request_no_blank line r h blank =
      let cpus = fit.cpus in
      let cpu = h.cpu in
      let small : r.cpu < 2 ^ 64 = omega (arith, cpu, cpus.1) in
      digits_first (decimal r.cpu) _ (decimal_digits (decimal r.cpu) r.cpu small refl) (decimal_some (decimal r.cpu) r.cpu small refl) (subst IsBlank h.text blank)

  -- a text with a first bad line is no scripts
  pub bad_is_not_good : (bytes : List ℕ) (n : ℕ) (scripts : List (List KernelTodo)) → AreScripts settings bytes scripts → IsFirstBad settings bytes n → ⊥
  bad_is_not_good bytes n scripts good bad = no_both settings one_request request_no_blank bytes n good.requests good.spelled bad
