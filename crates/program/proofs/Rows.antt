-- The first value of an id, of the entries and of their rows.
use Rattle.std.proofs.Common.{sym, ◌∙◌, subst, ◌≡◌, ℕ, Bool, true, false, List, [], ◌∷◌, map, Option, Some, refl, option_map, slice_get}
use Rattle.std.specs.{Borrow.Bor, Prelude.{find, option_and_then}, Option.IfSome, Str.bytes_eq}
use Rattle.program.specs.FileNames.{IsFile, is_no_name}
use Rattle.clap.specs.{Facts.Entry, Words.{Row, first_of, first_value, rows_of}, Walk.{row_of, texts}, declared.parser.matches.Found.Found, declared.parser.matches.MatchedArg.MatchedArg}

-- the first of texts
first_text : (values : List (Bor (List ℕ))) → option_map (λ s. s.now) (slice_get values 0) ≡ slice_get (texts values) 0
first_text [] = refl
first_text (v ∷ vs) = refl

abbrev of_entry : MatchedArg → Option (List ℕ)
of_entry a = option_map (λ s. s.now) (slice_get a.vals.items 0)

abbrev of_row : Row → Option (List ℕ)
of_row r = slice_get r.values 0

in_rows : (id : List ℕ) (entries : List Entry)
    → option_and_then of_entry (option_map (λ e. e.1) (find (λ e. bytes_eq e.0.now id) entries)) ≡ option_and_then of_row (find (λ r. bytes_eq r.id id) (map row_of entries))
in_rows id [] = refl
in_rows id (e ∷ entries) = go (bytes_eq e.0.now id) refl (in_rows id entries)
  where
    go : (t : Bool) → bytes_eq e.0.now id ≡ t
        → option_and_then of_entry (option_map (λ x. x.1) (find (λ x. bytes_eq x.0.now id) entries)) ≡ option_and_then of_row (find (λ r. bytes_eq r.id id) (map row_of entries))
        → option_and_then of_entry (option_map (λ x. x.1) (find (λ x. bytes_eq x.0.now id) (e ∷ entries))) ≡ option_and_then of_row (find (λ r. bytes_eq r.id id) (map row_of (e ∷ entries)))
    go true same rest = rw same (first_text e.1.vals.items)
    go false same rest = rw same rest

first_in_rows : (f : Found) (id : List ℕ) → first_value f id ≡ first_of id (rows_of f)
first_in_rows f id = in_rows id f.entries.items

-- the first value is the text that is handed out
pub value_is : (f : Found) (id : List ℕ) (value : Option (Bor (List ℕ))) → option_map (λ n. n.now) value ≡ first_value f id → first_of id (rows_of f) ≡ option_map (λ n. n.now) value
value_is f id value e = sym (e ∙ first_in_rows f id)

-- a word that can't be the name of a file is none
pub not_file : (value : Option (List ℕ)) (word : List ℕ) → value ≡ Some word → is_no_name word ≡ true → (name : Option (List ℕ)) → IsFile value name → ⊥
not_file value word is bad name file =
    let same : name ≡ Some word = sym file.0 ∙ is in
    let good : is_no_name word ≡ false = subst (λ (o : Option (List ℕ)). IfSome o (λ n. is_no_name n ≡ false)) same file.1 in
    cc
