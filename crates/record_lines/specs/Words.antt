-- Lines of words, and their text.
use Rattle.std.specs.{Prelude.{ℕ, zero, suc, ◌≡◌, ◌==◌, false, List, [], ◌∷◌, ◌++◌, codes, ◌<◌}, List.{flat_map, join_with_byte, AllByRecursion}}

-- the words with single spaces between them
abbrev pub sentence : List (List ℕ) → List ℕ
sentence words = join_with_byte 32 words

-- each word behind a space
abbrev pub spaced : List (List ℕ) → List ℕ
spaced words = flat_map (λ word. 32 ∷ word) words

-- the lists of words, with a semicolon between them
abbrev pub separated : List (List (List ℕ)) → List (List ℕ)
separated [] = []
separated (words ∷ more) = words ++ flat_map (λ others. codes ";" ∷ others) more

-- what stands before the list at that place, from 0
abbrev pub separator : ℕ → List (List ℕ)
separator zero = []
separator (suc place) = codes ";" ∷ []

-- each line with its end
abbrev pub text_of_lines : List (List ℕ) → List ℕ
text_of_lines lines = flat_map (λ line. line ++ 10 ∷ []) lines

-- no line end is among the bytes
abbrev pub NoEnd : List ℕ → Type 0
NoEnd bytes = AllByRecursion (λ b. (b == 10) ≡ false) bytes

-- neither a line end nor a space is in the word
abbrev pub IsPlain : List ℕ → Type 0
IsPlain word = AllByRecursion (λ b. 32 < b) word
