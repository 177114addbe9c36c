-- A list of items is read as what it spells, and nothing else is, where no number follows.
use Rattle.std.proofs.Common.{◌≡◌, ℕ, zero, suc, ◌-◌, ◌<◌, ◌≤◌, false, Option, Some, None, List, [], ◌∷◌, ◌++◌, length, map, refl, sym, ◌∙◌, ap, subst, append_assoc, arith, codes}
use Rattle.std.specs.{List.{AllByRecursion, flat_map}, Option.option_map_or}
use Rattle.event_log.specs.declared.event.TheConstants.{MOST_CALLS}
use Rattle.event_log.proofs.Each.{all_append}
use Rattle.custom_records.specs.LineReading.{number_next}
use Rattle.record_lines.specs.{Reading.{◌>>=◌, key_at}, Words.IsPlain, Words.separated, LineParts.{more_at, list_at}}
use Rattle.record_lines.proofs.{ListLaws.{key_takes, key_again}, Readings.bind_some}

module _ {T : Type 0} (words_of : T → List (List ℕ)) (fits : T → Type 0) (item_at : List (List ℕ) → Option (T × List (List ℕ))) where
  -- the words are the item's, which is in its ranges, and those behind it
  pub record IsItem (ws : List (List ℕ)) (read : T × List (List ℕ)) : Type 0 where
    pub text : ws ≡ words_of read.0 ++ read.1
    pub fit : fits read.0

  -- items are read as what they spell, and nothing else is
  pub record ReadsItems : Type 0 where
    pub takes : (ws : List (List ℕ)) (read : T × List (List ℕ)) → item_at ws ≡ Some read → IsItem ws read
    pub again : (x : T) (rest : List (List ℕ)) → fits x → number_next rest ≡ false → item_at (words_of x ++ rest) ≡ Some (x, rest)
    pub plain : (x : T) → fits x → AllByRecursion IsPlain (words_of x)

  module _ (reads : ReadsItems) where
    -- the items, each behind a semicolon
    abbrev each_behind : List T → List (List ℕ)
    each_behind more = flat_map (λ others. codes ";" ∷ others) (map words_of more)

    record AreMore (n : ℕ) (ws : List (List ℕ)) (read : List T × List (List ℕ)) : Type 0 where
      text : ws ≡ each_behind read.0 ++ read.1
      few : length read.0 ≤ n
      fit : AllByRecursion fits read.0

    no_more : (n : ℕ) (ws : List (List ℕ)) (read : List T × List (List ℕ)) → ◌≡◌ {A = List T × List (List ℕ)} ([], ws) read → AreMore n ws read
    no_more n ws read is = subst (λ p. AreMore n ws p) is (record { text = refl; few = omega arith; fit = tt })

    -- the item that is next, and up to n behind it
    abbrev next_of : ℕ → List (List ℕ) → Option (List T × List (List ℕ))
    next_of n rest = item_at rest >>= λ next. more_at item_at n next.1 >>= λ more. Some (next.0 ∷ more.0, more.1)

    more_takes : (n : ℕ) (ws : List (List ℕ)) (read : List T × List (List ℕ)) → more_at item_at n ws ≡ Some read → AreMore n ws read
    unfolding more_at
    more_takes zero ws read e = no_more 0 ws read cc
    more_takes (suc n) ws read e =
        let go : (o : Option (List (List ℕ))) → key_at (codes ";") ws ≡ o → option_map_or (next_of n) o (Some ([], ws)) ≡ Some read → AreMore (suc n) ws read
        = λ o. elim o as (λ o. key_at (codes ";") ws ≡ o → option_map_or (next_of n) o (Some ([], ws)) ≡ Some read → AreMore (suc n) ws read) [
          | None ↦ (λ key k. no_more (suc n) ws read cc)
          | Some rest ↦ (λ key k. bind_some (item_at rest) _ read k (λ next found following. bind_some (more_at item_at n next.1) _ read following (λ more others last.
              let is : ◌≡◌ {A = List T × List (List ℕ)} (next.0 ∷ more.0, more.1) read = cc in
              let item = reads.takes rest next found in
              let left = more_takes n next.1 more others in
              subst (λ p. AreMore (suc n) ws p) is (record {
                text = key_takes (codes ";") ws rest key ∙ ap (λ l. codes ";" ∷ l) (item.text ∙ (ap (λ l. words_of next.0 ++ l) left.text ∙ sym (append_assoc (words_of next.0) (each_behind more.0) more.1)));
                few = let few = left.few in omega (arith, few);
                fit = (item.fit, left.fit);
              }))))
        ] in
        go (key_at (codes ";") ws) refl e

    -- no number is next behind an item
    behind_ended : (xs : List T) (rest : List (List ℕ)) → number_next rest ≡ false → number_next (each_behind xs ++ rest) ≡ false
    behind_ended [] rest last = last
    behind_ended (x ∷ xs) rest last = refl

    more_again : (n : ℕ) (xs : List T) (rest : List (List ℕ)) → length xs ≤ n → AllByRecursion fits xs → key_at (codes ";") rest ≡ None → number_next rest ≡ false → more_at item_at n (each_behind xs ++ rest) ≡ Some (xs, rest)
    unfolding more_at
    more_again zero [] rest few fit ended last = refl
    more_again zero (x ∷ xs) rest few fit ended last = absurd (omega (arith, few))
    more_again (suc n) [] rest few fit ended last = rw ended
    more_again (suc n) (x ∷ xs) rest few fit ended last =
        let left : List (List ℕ) = each_behind xs ++ rest in
        rw (key_again (codes ";") ((words_of x ++ each_behind xs) ++ rest), append_assoc (words_of x) (each_behind xs) rest, reads.again x left fit.0 (behind_ended xs rest last), more_again n xs rest (omega (arith, few)) fit.1 ended last)

    -- the words are 1 to 8 items with semicolons between them, and those behind
    pub record AreItems (ws : List (List ℕ)) (read : List T × List (List ℕ)) : Type 0 where
      pub text : ws ≡ separated (map words_of read.0) ++ read.1
      pub some : 0 < length read.0
      pub few : length read.0 ≤ MOST_CALLS
      pub fit : AllByRecursion fits read.0

    -- what is read is what the words spell
    pub list_takes : (ws : List (List ℕ)) (read : List T × List (List ℕ)) → list_at item_at ws ≡ Some read → AreItems ws read
    unfolding list_at
    list_takes ws read e = bind_some (item_at ws) _ read e (λ next found following. bind_some (more_at item_at (MOST_CALLS - 1) next.1) _ read following (λ more others last.
        let is : ◌≡◌ {A = List T × List (List ℕ)} (next.0 ∷ more.0, more.1) read = cc in
        let item = reads.takes ws next found in
        let left = more_takes (MOST_CALLS - 1) next.1 more others in
        subst (λ p. AreItems ws p) is (record {
          text = item.text ∙ (ap (λ l. words_of next.0 ++ l) left.text ∙ sym (append_assoc (words_of next.0) (each_behind more.0) more.1));
          some = omega arith;
          few = let few = left.few in omega (arith, few);
          fit = (item.fit, left.fit);
        })))

    -- what is spelled is read again, where no semicolon follows
    pub list_again : (xs : List T) (rest : List (List ℕ)) → 0 < length xs → length xs ≤ MOST_CALLS → AllByRecursion fits xs → key_at (codes ";") rest ≡ None → number_next rest ≡ false → list_at item_at (separated (map words_of xs) ++ rest) ≡ Some (xs, rest)
    unfolding list_at
    list_again [] rest some few fit ended last = absurd (omega (arith, some))
    list_again (x ∷ xs) rest some few fit ended last =
        rw (append_assoc (words_of x) (each_behind xs) rest, reads.again x (each_behind xs ++ rest) fit.0 (behind_ended xs rest last), more_again (MOST_CALLS - 1) xs rest (omega (arith, few)) fit.1 ended last)

    behind_plain : (xs : List T) → AllByRecursion fits xs → AllByRecursion IsPlain (each_behind xs)
    behind_plain [] fit = tt
    behind_plain (x ∷ xs) fit =
        ((omega arith, tt), all_append IsPlain (words_of x) (each_behind xs) (reads.plain x fit.0) (behind_plain xs fit.1))

    pub list_plain : (xs : List T) → AllByRecursion fits xs → AllByRecursion IsPlain (separated (map words_of xs))
    list_plain [] fit = tt
    list_plain (x ∷ xs) fit =
        all_append IsPlain (words_of x) (each_behind xs) (reads.plain x fit.0) (behind_plain xs fit.1)
