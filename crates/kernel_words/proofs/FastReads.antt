-- A value that is read fast is the one of the table.
use Rattle.std.proofs.Common.{◌≡◌, ℕ, Some, List, ◌∷◌, ◌++◌, sym, ap, ◌∙◌}
use Rattle.std.specs.List.{list_all}
use Rattle.kernel_words.specs.Row.{Row, IsTable, spelled, in_range, numbers_at, value_at}
use Rattle.kernel_words.proofs.Spellings.{texts, numbers_take, value_again}

module _ {T : Type 0} (row : T → Row) (samples : List T) (filled : T → List ℕ → T) (table : IsTable row samples filled) where
  -- the value of a word, and of the numbers behind it
  pub fast_read : (x : T) (rest : List (List ℕ)) (word : List ℕ) (read : List ℕ × List (List ℕ)) → (row x).word ≡ word → numbers_at (row x).fields rest ≡ Some read → value_at row samples filled (word ∷ rest) ≡ Some (filled x read.0, read.1)
  fast_read x rest word read same numbers =
      let y = filled x read.0 in
      let taken = numbers_take (row x).fields rest read numbers in
      let fields = sym (table.refilled x read.0) in
      let name : word ≡ (row y).word = sym same ∙ sym (table.word_stays x read.0) in
      let text : word ∷ rest ≡ spelled (row y) ++ read.1 = ap (λ v. v ∷ rest) name ∙ ap (λ l. (row y).word ∷ l) (taken.text ∙ ap (λ fs. texts fs ++ read.1) fields) in
      ap (value_at row samples filled) text ∙ value_again row samples filled table y read.1 (ap (λ fs. list_all in_range fs) (sym fields) ∙ taken.fit)
