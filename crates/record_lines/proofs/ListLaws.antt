-- A list of items is read as what it spells, and nothing else is.
use Rattle.std.proofs.{Common.{◌≡◌, ℕ, zero, suc, ◌-◌, ◌<◌, ◌≤◌, Bool, true, false, Option, Some, None, List, [], ◌∷◌, ◌++◌, length, map, refl, sym, ◌∙◌, ap, subst, cond, append_assoc, arith, codes, bytes_eq}, lemmas.Bool.and_parts, lemmas.Option.cond_some, lemmas.Slice.Eq.bytes_eq-Decides}
use Rattle.std.specs.{Cmp.Derive.both_true, List.{AllByRecursion, list_all, flat_map}, Option.option_map_or}
use Rattle.event_log.specs.declared.event.TheConstants.{MOST_CALLS}
use Rattle.event_log.proofs.Each.{all_append}
use Rattle.record_lines.specs.{Reading.{◌>>=◌, word_at, key_at}, Words.IsPlain, Words.separated, LineParts.{is_nil, more_at, list_at}}
use Rattle.record_lines.proofs.Readings.{bind_some, same}

pub nil_is : (ws : List (List ℕ)) → is_nil ws ≡ true → ws ≡ []
nil_is [] e = refl
nil_is (w ∷ ws) e = absurd cc

pub key_takes : (key : List ℕ) (ws rest : List (List ℕ)) → key_at key ws ≡ Some rest → ws ≡ key ∷ rest
unfolding key_at word_at
key_takes key [] rest e = absurd cc
key_takes key (w ∷ ws) rest e =
    let found = cond_some (bytes_eq w key) ws rest e in
    ap (λ v. v ∷ ws) (same w key found.0) ∙ ap (λ l. key ∷ l) found.1

pub key_again : (key : List ℕ) (rest : List (List ℕ)) → key_at key (key ∷ rest) ≡ Some rest
unfolding key_at word_at
key_again key rest = ap (λ b. cond b (Some rest) None) ((bytes_eq-Decides key key).1 refl)

-- another word is next
pub key_other : (key word : List ℕ) (rest : List (List ℕ)) → bytes_eq word key ≡ false → key_at key (word ∷ rest) ≡ None
unfolding key_at word_at
key_other key word rest other = ap (λ b. cond b (Some rest) None) other

-- no word is next
pub key_end : (key : List ℕ) → key_at key [] ≡ None
unfolding key_at word_at
key_end key = refl

module _ {T : Type 0} (words_of : T → List (List ℕ)) (fits : T → Bool) (item_at : List (List ℕ) → Option (T × List (List ℕ))) where
  -- the words are the item's, which is in its ranges, and those behind it
  pub record IsItem (ws : List (List ℕ)) (read : T × List (List ℕ)) : Type 0 where
    pub text : ws ≡ words_of read.0 ++ read.1
    pub fit : fits read.0 ≡ true

  -- items are read as what they spell, and nothing else is
  pub record ReadsItems : Type 0 where
    pub takes : (ws : List (List ℕ)) (read : T × List (List ℕ)) → item_at ws ≡ Some read → IsItem ws read
    pub again : (x : T) (rest : List (List ℕ)) → fits x ≡ true → item_at (words_of x ++ rest) ≡ Some (x, rest)
    pub plain : (x : T) → fits x ≡ true → AllByRecursion IsPlain (words_of x)

  module _ (reads : ReadsItems) where
    -- the items, each behind a semicolon
    abbrev each_behind : List T → List (List ℕ)
    each_behind more = flat_map (λ others. codes ";" ∷ others) (map words_of more)

    record AreMore (n : ℕ) (ws : List (List ℕ)) (read : List T × List (List ℕ)) : Type 0 where
      text : ws ≡ each_behind read.0 ++ read.1
      few : length read.0 ≤ n
      fit : list_all fits read.0 ≡ true

    no_more : (n : ℕ) (ws : List (List ℕ)) (read : List T × List (List ℕ)) → ◌≡◌ {A = List T × List (List ℕ)} ([], ws) read → AreMore n ws read
    no_more n ws read is = subst (λ p. AreMore n ws p) is (record { text = refl; few = omega arith; fit = refl })

    -- the item that is next, and up to n behind it
    abbrev next_of : ℕ → List (List ℕ) → Option (List T × List (List ℕ))
    next_of n rest = item_at rest >>= λ next. more_at item_at n next.1 >>= λ more. Some (next.0 ∷ more.0, more.1)

    more_takes : (n : ℕ) (ws : List (List ℕ)) (read : List T × List (List ℕ)) → more_at item_at n ws ≡ Some read → AreMore n ws read
    unfolding more_at
    more_takes zero ws read e = no_more 0 ws read cc
    more_takes (suc n) ws read e =
        let go : (o : Option (List (List ℕ))) → key_at (codes ";") ws ≡ o → option_map_or (next_of n) o (Some ([], ws)) ≡ Some read → AreMore (suc n) ws read
        = λ o. elim o as (λ o. key_at (codes ";") ws ≡ o → option_map_or (next_of n) o (Some ([], ws)) ≡ Some read → AreMore (suc n) ws read) [
          | None ↦ (λ key k. no_more (suc n) ws read cc)
          | Some rest ↦ (λ key k. bind_some (item_at rest) _ read k (λ next found following. bind_some (more_at item_at n next.1) _ read following (λ more others last.
              let is : ◌≡◌ {A = List T × List (List ℕ)} (next.0 ∷ more.0, more.1) read = cc in
              let item = reads.takes rest next found in
              let left = more_takes n next.1 more others in
              subst (λ p. AreMore (suc n) ws p) is (record {
                text = key_takes (codes ";") ws rest key ∙ ap (λ l. codes ";" ∷ l) (item.text ∙ (ap (λ l. words_of next.0 ++ l) left.text ∙ sym (append_assoc (words_of next.0) (each_behind more.0) more.1)));
                few = let few = left.few in omega (arith, few);
                fit = both_true item.fit left.fit;
              }))))
        ] in
        go (key_at (codes ";") ws) refl e

    more_again : (n : ℕ) (xs : List T) (rest : List (List ℕ)) → length xs ≤ n → list_all fits xs ≡ true → key_at (codes ";") rest ≡ None → more_at item_at n (each_behind xs ++ rest) ≡ Some (xs, rest)
    unfolding more_at
    more_again zero [] rest few fit ended = refl
    more_again zero (x ∷ xs) rest few fit ended = absurd (omega (arith, few))
    more_again (suc n) [] rest few fit ended = rw ended
    more_again (suc n) (x ∷ xs) rest few fit ended =
        let parts = and_parts (fits x) (list_all fits xs) fit in
        let left : List (List ℕ) = each_behind xs ++ rest in
        rw (key_again (codes ";") ((words_of x ++ each_behind xs) ++ rest), append_assoc (words_of x) (each_behind xs) rest, reads.again x left parts.0, more_again n xs rest (omega (arith, few)) parts.1 ended)

    -- the words are 1 to 8 items with semicolons between them, and those behind
    pub record AreItems (ws : List (List ℕ)) (read : List T × List (List ℕ)) : Type 0 where
      pub text : ws ≡ separated (map words_of read.0) ++ read.1
      pub some : 0 < length read.0
      pub few : length read.0 ≤ MOST_CALLS
      pub fit : list_all fits read.0 ≡ true

    -- what is read is what the words spell
    pub list_takes : (ws : List (List ℕ)) (read : List T × List (List ℕ)) → list_at item_at ws ≡ Some read → AreItems ws read
    unfolding list_at
    list_takes ws read e = bind_some (item_at ws) _ read e (λ next found following. bind_some (more_at item_at (MOST_CALLS - 1) next.1) _ read following (λ more others last.
        let is : ◌≡◌ {A = List T × List (List ℕ)} (next.0 ∷ more.0, more.1) read = cc in
        let item = reads.takes ws next found in
        let left = more_takes (MOST_CALLS - 1) next.1 more others in
        subst (λ p. AreItems ws p) is (record {
          text = item.text ∙ (ap (λ l. words_of next.0 ++ l) left.text ∙ sym (append_assoc (words_of next.0) (each_behind more.0) more.1));
          some = omega arith;
          few = let few = left.few in omega (arith, few);
          fit = both_true item.fit left.fit;
        })))

    -- what is spelled is read again, where no semicolon follows
    pub list_again : (xs : List T) (rest : List (List ℕ)) → 0 < length xs → length xs ≤ MOST_CALLS → list_all fits xs ≡ true → key_at (codes ";") rest ≡ None → list_at item_at (separated (map words_of xs) ++ rest) ≡ Some (xs, rest)
    unfolding list_at
    list_again [] rest some few fit ended = absurd (omega (arith, some))
    list_again (x ∷ xs) rest some few fit ended =
        let parts = and_parts (fits x) (list_all fits xs) fit in
        rw (append_assoc (words_of x) (each_behind xs) rest, reads.again x (each_behind xs ++ rest) parts.0, more_again (MOST_CALLS - 1) xs rest (omega (arith, few)) parts.1 ended)

    behind_plain : (xs : List T) → list_all fits xs ≡ true → AllByRecursion IsPlain (each_behind xs)
    behind_plain [] fit = tt
    behind_plain (x ∷ xs) fit =
        let parts = and_parts (fits x) (list_all fits xs) fit in
        ((omega arith, tt), all_append IsPlain (words_of x) (each_behind xs) (reads.plain x parts.0) (behind_plain xs parts.1))

    pub list_plain : (xs : List T) → list_all fits xs ≡ true → AllByRecursion IsPlain (separated (map words_of xs))
    list_plain [] fit = tt
    list_plain (x ∷ xs) fit =
        let parts = and_parts (fits x) (list_all fits xs) fit in
        all_append IsPlain (words_of x) (each_behind xs) (reads.plain x parts.0) (behind_plain xs parts.1)
