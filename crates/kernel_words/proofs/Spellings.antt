-- A value is read as what it spells, and nothing else is: once for every table.
use Rattle.std.proofs.{Common.{◌≡◌, ℕ, ◌<◌, ◌^◌, Bool, true, false, Option, Some, List, [], ◌∷◌, ◌++◌, map, refl, sym, ◌∙◌, ap, subst, cond, arith, decimal, nat_le, ◌&&◌, bytes_eq}, lemmas.Bool.{and_parts, leb-true}, lemmas.Option.cond_some}
use Rattle.std.specs.{Cmp.Derive.both_true, List.{AllByRecursion, list_all}}
use Rattle.kernel_words.specs.{declared.tables.field.Field.Field, Row.{Row, spelled, in_range, row_fits, values, first, others, refill, field_at, numbers_at, sample_at, value_at, IsTable}}
use Rattle.record_lines.specs.{Reading.{word_at, number_at}, Words.IsPlain}
use Rattle.record_lines.proofs.Readings.{bind_some, plain_decimal, same, number_at_takes, number_at_again}

abbrev pub texts : List Field → List (List ℕ)
texts fs = map (λ f. decimal f.value) fs

abbrev pub are_bounded : List Field → Bool
are_bounded fs = list_all (λ f. nat_le f.high 4294967295) fs

-- a number in its range is below 2^64
record Within (f : Field) : Type 0 where
  low : nat_le f.low f.value ≡ true
  high : nat_le f.value f.high ≡ true
  fits : f.value < 2 ^ 64

within : (f : Field) → in_range f ≡ true → nat_le f.high 4294967295 ≡ true → Within f
within f e bound =
    let ends = and_parts (nat_le f.low f.value) (nat_le f.value f.high) e in
    record { low = ends.0; high = ends.1; fits = let a = leb-true f.value f.high ends.1 in let b = leb-true f.high 4294967295 bound in omega (arith, a, b) }

field_again : (f : Field) (z : ℕ) (rest : List (List ℕ)) → Within f → field_at (record f { value = z }) (decimal f.value ∷ rest) ≡ Some (f.value, rest)
unfolding field_at
field_again f z rest here = rw (number_at_again f.high f.value rest (leb-true f.value f.high here.high) here.fits, here.low)

-- the number's text is next, and it is in the range
pub record IsNumber (f : Field) (ws : List (List ℕ)) (read : ℕ × List (List ℕ)) : Type 0 where
  pub text : ws ≡ decimal read.0 ∷ read.1
  pub fit : (nat_le f.low read.0 && nat_le read.0 f.high) ≡ true

pub field_takes : (f : Field) (ws : List (List ℕ)) (read : ℕ × List (List ℕ)) → field_at f ws ≡ Some read → IsNumber f ws read
unfolding field_at
field_takes f ws read e = bind_some (number_at f.high ws) _ read e (λ n found last.
    let whole = cond_some (nat_le f.low n.0) n read last in
    let number = number_at_takes f.high n.0 ws n.1 found in
    subst (λ p. IsNumber f ws p) whole.1 (record { text = number.0; fit = both_true whole.0 (grind (arith, number.1)) }))

-- numbers are read by any fields of the same ranges
pub numbers_again : (fs : List Field) (zs : List ℕ) (rest : List (List ℕ)) → list_all in_range fs ≡ true → are_bounded fs ≡ true → numbers_at (refill fs zs) (texts fs ++ rest) ≡ Some (map (λ f. f.value) fs, rest)
unfolding numbers_at
numbers_again [] zs rest fit bound = refl
numbers_again (f ∷ fs) zs rest fit bound =
    let fits = and_parts (in_range f) (list_all in_range fs) fit in
    let bounds = and_parts (nat_le f.high 4294967295) (are_bounded fs) bound in
    let here = within f fits.0 bounds.0 in
    rw (field_again f (first zs) (texts fs ++ rest) here, numbers_again fs (others zs) rest fits.1 bounds.1)

-- the fields are filled with what was read
pub record AreFilled (fs : List Field) (ws : List (List ℕ)) (read : List ℕ × List (List ℕ)) : Type 0 where
  pub text : ws ≡ texts (refill fs read.0) ++ read.1
  pub fit : list_all in_range (refill fs read.0) ≡ true

pub numbers_take : (fs : List Field) (ws : List (List ℕ)) (read : List ℕ × List (List ℕ)) → numbers_at fs ws ≡ Some read → AreFilled fs ws read
unfolding numbers_at
numbers_take [] ws read e = let is : ◌≡◌ {A = List ℕ × List (List ℕ)} ([], ws) read = cc in subst (λ p. AreFilled [] ws p) is (record { text = refl; fit = refl })
numbers_take (f ∷ fs) ws read e = bind_some (field_at f ws) _ read e (λ n found next. bind_some (numbers_at fs n.1) _ read next (λ more left last.
    let is : ◌≡◌ {A = List ℕ × List (List ℕ)} (n.0 ∷ more.0, more.1) read = cc in
    let number = field_takes f ws n found in
    let behind = numbers_take fs n.1 more left in
    subst (λ p. AreFilled (f ∷ fs) ws p) is (record {
      text = number.text ∙ ap (λ l. decimal n.0 ∷ l) behind.text;
      fit = both_true number.fit behind.fit;
    })))

-- what holds of the text of every number holds of each field's
pub fields_each : (P : List ℕ → Type 0) → ((n : ℕ) → n < 2 ^ 64 → P (decimal n)) → (fs : List Field) → list_all in_range fs ≡ true → are_bounded fs ≡ true → AllByRecursion P (texts fs)
fields_each P each [] fit bound = tt
fields_each P each (f ∷ fs) fit bound =
    let fits = and_parts (in_range f) (list_all in_range fs) fit in
    let bounds = and_parts (nat_le f.high 4294967295) (are_bounded fs) bound in
    (each f.value (within f fits.0 bounds.0).fits, fields_each P each fs fits.1 bounds.1)

module _ {T : Type 0} (row : T → Row) where
  sample_is : (xs : List T) (word : List ℕ) (x : T) → sample_at row xs word ≡ Some x → word ≡ (row x).word
  unfolding sample_at
  sample_is [] word x e = absurd cc
  sample_is (y ∷ ys) word x e =
      let go : (b : Bool) → bytes_eq (row y).word word ≡ b → cond b (Some y) (sample_at row ys word) ≡ Some x → word ≡ (row x).word
      = λ b. elim b as (λ v. bytes_eq (row y).word word ≡ v → cond v (Some y) (sample_at row ys word) ≡ Some x → word ≡ (row x).word) [
        | true ↦ (λ found is. let one : y ≡ x = cc in sym (same (row y).word word found) ∙ ap (λ v. (row v).word) one)
        | false ↦ (λ none is. sample_is ys word x is)
      ] in
      go (bytes_eq (row y).word word) refl e

  module _ (samples : List T) (filled : T → List ℕ → T) (table : IsTable row samples filled) where
    -- the words are the value's, and each number is in its range
    pub record Spells (ws : List (List ℕ)) (read : T × List (List ℕ)) : Type 0 where
      pub text : ws ≡ spelled (row read.0) ++ read.1
      pub fits : row_fits (row read.0) ≡ true

    -- what is read is what the words spell
    pub value_takes : (ws : List (List ℕ)) (read : T × List (List ℕ)) → value_at row samples filled ws ≡ Some read → Spells ws read
    unfolding value_at word_at
    value_takes [] read e = absurd cc
    value_takes (w ∷ ws) read e = bind_some (sample_at row samples w) _ read e (λ x found next. bind_some (numbers_at (row x).fields ws) _ read next (λ ns numbers last.
        let is : ◌≡◌ {A = T × List (List ℕ)} (filled x ns.0, ns.1) read = cc in
        let taken = numbers_take (row x).fields ws ns numbers in
        let word : w ≡ (row (filled x ns.0)).word = sample_is samples w x found ∙ sym (table.word_stays x ns.0) in
        let fields = sym (table.refilled x ns.0) in
        subst (λ p. Spells (w ∷ ws) p) is (record {
          text = ap (λ v. v ∷ ws) word ∙ ap (λ l. (row (filled x ns.0)).word ∷ l) (taken.text ∙ ap (λ fs. texts fs ++ ns.1) fields);
          fits = ap (λ fs. list_all in_range fs) (sym fields) ∙ taken.fit;
        })))

    -- what is spelled is read again
    pub value_again : (x : T) (rest : List (List ℕ)) → row_fits (row x) ≡ true → value_at row samples filled (spelled (row x) ++ rest) ≡ Some (x, rest)
    unfolding value_at word_at
    value_again x rest fits =
        rw (table.sampled x, table.refilled x [], numbers_again (row x).fields [] rest fits (table.bounded x), table.again x (values (row x)), table.kept x)

    pub value_plain : (x : T) → row_fits (row x) ≡ true → AllByRecursion IsPlain (spelled (row x))
    value_plain x fits = (table.plain x, fields_each IsPlain plain_decimal (row x).fields fits (table.bounded x))

    -- no two values are spelled alike, whatever follows them
    pub spelled_once : (x y : T) (a b : List (List ℕ)) → row_fits (row x) ≡ true → row_fits (row y) ≡ true → spelled (row x) ++ a ≡ spelled (row y) ++ b → (x ≡ y) × (a ≡ b)
    spelled_once x y a b p q e =
        let both : ◌≡◌ {A = Option (T × List (List ℕ))} (Some (x, a)) (Some (y, b)) = sym (value_again x a p) ∙ (ap (value_at row samples filled) e ∙ value_again y b q) in
        let pair : ◌≡◌ {A = T × List (List ℕ)} (x, a) (y, b) = cc both in
        (ap (λ r. r.0) pair, ap (λ r. r.1) pair)
