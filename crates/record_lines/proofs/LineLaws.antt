-- A line of fixed words, or of these and a number, is read as what it spells, and nothing else is.
use Rattle.std.proofs.{Common.{◌≡◌, ℕ, ◌<◌, ◌≤◌, ◌^◌, true, Option, Some, List, [], ◌∷◌, ◌++◌, length, length-append, refl, sym, ◌∙◌, ap, subst, arith, decimal, nat_le, ◌&&◌}, lemmas.Bool.{and_parts, leb-true, le-leb}, lemmas.List.append-nil, lemmas.Option.cond_some}
use Rattle.std.specs.List.{AllByRecursion}
use Rattle.event_log.proofs.Each.{all_append}
use Rattle.record_lines.specs.{Reading.{key_at, number_at}, LineParts.{is_nil, keys_at, fixed_at, last_at, head_at}, Words.IsPlain}
use Rattle.record_lines.proofs.{ListLaws.{nil_is, key_takes, key_again}, Readings.{bind_some, plain_decimal, number_at_takes, number_at_again}, Lengths.{long, long_append, number_le}}

-- the words make a line of at most 1,024 bytes: there is one, and neither a line end nor a space is in any
pub record IsLine (ws : List (List ℕ)) : Type 0 where
  pub some : 0 < length ws
  pub plain : AllByRecursion IsPlain ws
  pub short : long ws ≤ 1024

-- a line is read as what it spells, and nothing else is
pub record ReadsLines {X : Type 0} (words_of : X → List (List ℕ)) (fits : X → Type 0) (read : List (List ℕ) → Option X) : Type 0 where
  pub takes : (ws : List (List ℕ)) (x : X) → read ws ≡ Some x → (ws ≡ words_of x) × fits x
  pub again : (x : X) → fits x → read (words_of x) ≡ Some x
  pub plain : (x : X) → fits x → IsLine (words_of x)

-- the words with none behind them
pub nothing_behind : (ws rest : List (List ℕ)) → is_nil rest ≡ true → ws ++ rest ≡ ws
nothing_behind ws rest ended = ap (λ l. ws ++ l) (nil_is rest ended) ∙ append-nil ws

-- the keys are next
keys_take : (keys ws rest : List (List ℕ)) → keys_at keys ws ≡ Some rest → ws ≡ keys ++ rest
unfolding keys_at
keys_take [] ws rest e = cc
keys_take (key ∷ keys) ws rest e = bind_some (key_at key ws) (λ l. keys_at keys l) rest e (λ l found last.
    key_takes key ws l found ∙ ap (λ m. key ∷ m) (keys_take keys l rest last))

-- the keys are read again
keys_again : (keys rest : List (List ℕ)) → keys_at keys (keys ++ rest) ≡ Some rest
unfolding keys_at
keys_again [] rest = refl
keys_again (key ∷ keys) rest = rw (key_again key (keys ++ rest), keys_again keys rest)

-- the words are just the keys
pub fixed_takes : (keys ws : List (List ℕ)) (u : Unit {0}) → fixed_at keys ws ≡ Some u → ws ≡ keys
unfolding fixed_at
fixed_takes keys ws u e = bind_some (keys_at keys ws) _ u e (λ rest found last.
    let whole = cond_some (is_nil rest) tt u last in
    keys_take keys ws rest found ∙ nothing_behind keys rest whole.0)

-- just the keys are read
pub fixed_again : (keys : List (List ℕ)) → fixed_at keys keys ≡ Some tt
unfolding fixed_at
fixed_again keys = let read : keys_at keys keys ≡ Some [] = ap (keys_at keys) (sym (append-nil keys)) ∙ keys_again keys [] in rw read

-- a line of fixed words
pub reads_fixed : (keys : List (List ℕ)) → IsLine keys → ReadsLines (λ (u : Unit {0}). keys) (λ u. Unit {0}) (fixed_at keys)
reads_fixed keys line = record { takes = λ ws u e. (fixed_takes keys ws u e, tt); again = λ u fit. fixed_again keys; plain = λ u fit. line }

-- the words are just the number, which is in its range
last_takes : (low high n : ℕ) (ws : List (List ℕ)) → last_at low high ws ≡ Some n → (ws ≡ decimal n ∷ []) × (low ≤ n) × (n ≤ high)
unfolding last_at
last_takes low high n ws e = bind_some (number_at high ws) _ n e (λ m found last.
    let whole = cond_some (nat_le low m.0 && is_nil m.1) m.0 n last in
    let tests = and_parts (nat_le low m.0) (is_nil m.1) whole.0 in
    let number = number_at_takes high m.0 ws m.1 found in
    subst (λ (k : ℕ). (ws ≡ decimal k ∷ []) × (low ≤ k) × (k ≤ high)) whole.1
    (number.0 ∙ ap (λ l. decimal m.0 ∷ l) (nil_is m.1 tests.1), leb-true low m.0 tests.0, number.1))

-- just a number in its range is read
last_again : (low high n : ℕ) → low ≤ n → n ≤ high → high < 2 ^ 64 → last_at low high (decimal n ∷ []) ≡ Some n
unfolding last_at
last_again low high n above below small = rw (number_at_again high n [] below (omega (arith, below, small)), le-leb low n above)

-- the words are the keys and the number, which is in its range
pub head_takes : (keys : List (List ℕ)) (low high n : ℕ) (ws : List (List ℕ)) → head_at keys low high ws ≡ Some n → (ws ≡ keys ++ decimal n ∷ []) × (low ≤ n) × (n ≤ high)
unfolding head_at
head_takes keys low high n ws e = bind_some (keys_at keys ws) (λ rest. last_at low high rest) n e (λ rest found last.
    let number = last_takes low high n rest last in
    (keys_take keys ws rest found ∙ ap (λ l. keys ++ l) number.0, number.1, number.2))

-- the keys and a number in its range are read
pub head_again : (keys : List (List ℕ)) (low high n : ℕ) → low ≤ n → n ≤ high → high < 2 ^ 64 → head_at keys low high (keys ++ decimal n ∷ []) ≡ Some n
unfolding head_at
head_again keys low high n above below small = rw (keys_again keys (decimal n ∷ []), last_again low high n above below small)

-- a line of fixed words and a number
pub reads_head : (keys : List (List ℕ)) (low high : ℕ) → AllByRecursion IsPlain keys → long keys ≤ 100 → high < 2 ^ 64 → ReadsLines (λ n. keys ++ decimal n ∷ []) (λ n. (low ≤ n) × (n ≤ high)) (head_at keys low high)
reads_head keys low high plain few small = record {
  takes = λ ws n e. let is = head_takes keys low high n ws e in (is.0, (is.1, is.2));
  again = λ n fit. head_again keys low high n fit.0 fit.1 small;
  plain = λ n fit.
      let below = fit.1 in
      let fits : n < 2 ^ 64 = omega (arith, below, small) in
      record { some = omega (arith, length-append keys (decimal n ∷ [])); plain = all_append IsPlain keys (decimal n ∷ []) plain (plain_decimal n fits, tt); short = omega (arith, few, number_le n fits, long_append keys (decimal n ∷ [])) };
}
