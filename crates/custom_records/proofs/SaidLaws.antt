-- Numbers, and what is said, are read as what they spell, and nothing else is.
use Rattle.std.proofs.{Common.{◌≡◌, ℕ, zero, suc, ◌+◌, ◌<◌, ◌≤◌, ◌^◌, Bool, true, false, cond, Some, List, [], ◌∷◌, ◌++◌, length, refl, ◌∙◌, ap, subst, arith, decimal}, lemmas.Bool.le-leb, lemmas.Fmt.decimal_by_steps}
use Rattle.std.specs.{Cmp.Derive.both_true, List.AllByRecursion}
use Rattle.custom_records.specs.{LineReading.{most_number, begins_number, number_next, sizes_at, said_at}, LineText.{number_words, said_words}, declared.spoken.TheConstants.MOST_NUMBERS, Ranges.{IsNumber, SaidFits}, Said.Said}
use Rattle.record_lines.specs.{Reading.{◌>>=◌, number_at}, LineParts.name_word_at, Words.IsPlain, Names.is_digit}
use Rattle.record_lines.proofs.{Names.name_plain, Readings.{bind_some, plain_decimal, number_at_takes, number_at_again}, Names.{name_takes, name_again}}

-- ---- numbers

one_digit : (n : ℕ) → n < 10 → is_digit (48 + n) ≡ true
one_digit n small = both_true (le-leb 48 (48 + n) (omega arith)) (le-leb (48 + n) 57 (omega (arith, small)))

begins_more : (ds more : List ℕ) → begins_number ds ≡ true → begins_number (ds ++ more) ≡ true
begins_more [] more h = absurd cc
begins_more (d ∷ ds) more h = h

-- a number begins with a digit
pub decimal_begins : (n : ℕ) → n < 2 ^ 64 → begins_number (decimal n) ≡ true
decimal_begins n fits = decimal_by_steps (λ n ds. begins_number ds ≡ true) one_digit (λ n ds big h. begins_more ds _ h) n fits

-- the words are those of at most n numbers, and those behind
pub record AreSizes (n : ℕ) (ws : List (List ℕ)) (read : List ℕ × List (List ℕ)) : Type 0 where
  pub text : ws ≡ number_words read.0 ++ read.1
  pub few : length read.0 ≤ n
  pub fit : AllByRecursion IsNumber read.0

no_sizes : (n : ℕ) (ws : List (List ℕ)) (read : List ℕ × List (List ℕ)) → ◌≡◌ {A = List ℕ × List (List ℕ)} ([], ws) read → AreSizes n ws read
no_sizes n ws read is = subst (λ p. AreSizes n ws p) is (record { text = refl; few = omega arith; fit = tt })

-- what is read is what the words spell
pub sizes_take : (n : ℕ) (ws : List (List ℕ)) (read : List ℕ × List (List ℕ)) → sizes_at n ws ≡ Some read → AreSizes n ws read
unfolding sizes_at
sizes_take zero ws read e = no_sizes 0 ws read cc
sizes_take (suc n) ws read e =
    let go : (b : Bool) → cond b (number_at most_number ws >>= λ next. sizes_at n next.1 >>= λ more. Some (next.0 ∷ more.0, more.1)) (Some ([], ws)) ≡ Some read → AreSizes (suc n) ws read
    = λ b. elim b as (λ b. cond b (number_at most_number ws >>= λ next. sizes_at n next.1 >>= λ more. Some (next.0 ∷ more.0, more.1)) (Some ([], ws)) ≡ Some read → AreSizes (suc n) ws read) [
      | true ↦ (λ k. bind_some (number_at most_number ws) _ read k (λ next found following. bind_some (sizes_at n next.1) _ read following (λ more others last.
          let is : ◌≡◌ {A = List ℕ × List (List ℕ)} (next.0 ∷ more.0, more.1) read = cc in
          let number = number_at_takes most_number next.0 ws next.1 found in
          let most = number.1 in
          let left = sizes_take n next.1 more others in
          subst (λ p. AreSizes (suc n) ws p) is (record {
            text = number.0 ∙ ap (λ l. decimal next.0 ∷ l) left.text;
            few = let few = left.few in omega (arith, few);
            fit = (omega (arith, most), left.fit);
          }))))
      | false ↦ (λ k. no_sizes (suc n) ws read cc)
    ] in
    go (number_next ws) e

-- what is spelled is read again, where no number follows
pub sizes_again : (n : ℕ) (ns : List ℕ) (rest : List (List ℕ)) → length ns ≤ n → AllByRecursion IsNumber ns → number_next rest ≡ false → sizes_at n (number_words ns ++ rest) ≡ Some (ns, rest)
unfolding sizes_at
sizes_again zero [] rest few fit ended = refl
sizes_again zero (x ∷ xs) rest few fit ended = absurd (omega (arith, few))
sizes_again (suc n) [] rest few fit ended = rw ended
sizes_again (suc n) (x ∷ xs) rest few fit ended =
    let small = fit.0 in
    rw (decimal_begins x fit.0, number_at_again most_number x (number_words xs ++ rest) (omega (arith, small)) fit.0, sizes_again n xs rest (omega (arith, few)) fit.1 ended)

-- neither a line end nor a space is in the words of numbers
pub sizes_plain : (ns : List ℕ) → AllByRecursion IsNumber ns → AllByRecursion IsPlain (number_words ns)
sizes_plain [] fit = tt
sizes_plain (n ∷ ns) fit = (plain_decimal n fit.0, sizes_plain ns fit.1)

-- ---- a word, and numbers

-- the words are those of what is said, and those behind
pub record IsSaid (ws : List (List ℕ)) (read : Said × List (List ℕ)) : Type 0 where
  pub text : ws ≡ said_words read.0 ++ read.1
  pub fit : SaidFits read.0

-- what is read is what the words spell
pub said_takes : (ws : List (List ℕ)) (read : Said × List (List ℕ)) → said_at ws ≡ Some read → IsSaid ws read
unfolding said_at
said_takes ws read e =
    bind_some (name_word_at ws) _ read e (λ name found_name behind_name.
    bind_some (sizes_at MOST_NUMBERS name.1) _ read behind_name (λ numbers found_numbers last.
    let is : ◌≡◌ {A = Said × List (List ℕ)} (record { word = name.0; numbers = numbers.0 }, numbers.1) read = cc in
    let named = name_takes ws name found_name in
    let sizes = sizes_take MOST_NUMBERS name.1 numbers found_numbers in
    subst (λ p. IsSaid ws p) is (record { text = named.0 ∙ ap (λ l. name.0 ∷ l) sizes.text; fit = record { word = named.1; few = sizes.few; numbers = sizes.fit } })))

-- what is spelled is read again, where no number follows
pub said_again : (s : Said) (rest : List (List ℕ)) → SaidFits s → number_next rest ≡ false → said_at (said_words s ++ rest) ≡ Some (s, rest)
unfolding said_at
said_again s rest fit ended = rw (name_again s.word (number_words s.numbers ++ rest) fit.word, sizes_again MOST_NUMBERS s.numbers rest fit.few fit.numbers ended)

-- neither a line end nor a space is in the words of what is said
pub said_plain : (s : Said) → SaidFits s → AllByRecursion IsPlain (said_words s)
said_plain s fit = (name_plain s.word fit.word, sizes_plain s.numbers fit.numbers)
