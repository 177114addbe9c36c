-- What is proved of each kind: the records that each kind gives one value of.
use Rattle.std.proofs.{Common.{◌≡◌, ℕ, ◌<◌, ◌≤◌, ◌^◌, true, ◌&&◌, nat_le, Some, List, ◌∷◌, ◌++◌, length, refl, arith, decimal}, lemmas.Bool.{and_parts, leb-true, le-leb}}
use Rattle.std.specs.List.{AllByRecursion}
use Rattle.kernel_object.specs.Kinds.Definition.{KindDefinition}
use Rattle.kernel_words.specs.{declared.form.Form.Form, declared.form.Form.TheVariants.{One, Two}, Kinds.Definition.{KindText, Expresses}, Ranges.reply_fits, Row.{in_range, row_fits, wide, limit, field_at}}
use Rattle.record_lines.specs.Words.{IsPlain}
use Rattle.kernel_words.proofs.LogRanges.{Keeps}
use Rattle.record_lines.proofs.{Readings.number_at_again, Lengths.long}

-- the words are those of parameters in their ranges, which the form expresses
pub record ReadsParams {d : KindDefinition} (t : KindText d) (form : Form) (ws : List (List ℕ)) (read : d.Params × List (List ℕ)) : Type 0 where
  pub text : ws ≡ t.params_words form read.0 ++ read.1
  pub fits : d.in_range read.0 ≡ true
  pub expressed : Expresses t form read.0

pub record KindLaws {d : KindDefinition} (t : KindText d) : Type 0 where
  -- what is read is what the words spell
  pub take : (form : Form) (ws : List (List ℕ)) (read : d.Params × List (List ℕ)) → t.params_at form ws ≡ Some read → ReadsParams t form ws read
  -- what is spelled is read again
  pub again : (form : Form) (p : d.Params) (rest : List (List ℕ)) → d.in_range p ≡ true → Expresses t form p → t.params_at form (t.params_words form p ++ rest) ≡ Some (p, rest)
  -- neither a line end nor a space is in its words
  pub plain_word : IsPlain d.word
  pub plain : (form : Form) (p : d.Params) → d.in_range p ≡ true → AllByRecursion IsPlain (t.params_words form p)
  -- they are short
  pub short_word : length d.word ≤ 16
  pub short : (form : Form) (p : d.Params) → d.in_range p ≡ true → long (t.params_words form p) ≤ 380

-- what its states keep, from the opening on, so that replies are in range where calls are
pub record KindKeeps {d : KindDefinition} (t : KindText d) : Type 1 where
  pub Good : d.Params → d.State → Type 0
  pub opens : (p : d.Params) → d.in_range p ≡ true → Good p (d.opening p)
  pub keeps : (p : d.Params) (s : d.State) (c : d.Call) → Good p s → row_fits (t.row c) ≡ true → Keeps (Good p) reply_fits (d.answer s c)

-- ---- what kinds have in common

-- a kind all of whose parameters record 1 expresses
pub all_expressed : {d : KindDefinition} (t : KindText d) → ((p : d.Params) → t.ExpressedByFirst p) → (form : Form) (p : d.Params) → Expresses t form p
all_expressed t expressed One p = expressed p
all_expressed t expressed Two p = tt

-- a number in its range is read again
pub limit_again : (high n : ℕ) (rest : List (List ℕ)) → high < 2 ^ 64 → (nat_le 1 n && nat_le n high) ≡ true → field_at (limit high 0) (decimal n ∷ rest) ≡ Some (n, rest)
unfolding field_at
limit_again high n rest small fits =
    let both = and_parts (nat_le 1 n) (nat_le n high) fits in
    let most = leb-true n high both.1 in
    rw (number_at_again high n rest most (omega (arith, most, small)), both.0)

-- a number in a range of at most 4,096
pub small_number : (n high : ℕ) → high ≤ 4096 → (nat_le 1 n && nat_le n high) ≡ true → n < 2 ^ 64
small_number n high few fits = let most = leb-true n high (and_parts (nat_le 1 n) (nat_le n high) fits).1 in omega (arith, most, few)

-- a number that is low enough is in the range of its field
pub wide_fits : (n : ℕ) → n ≤ 4294967295 → (in_range (wide n) && true) ≡ true
wide_fits n le = rw (le-leb 0 n (omega arith), le-leb n 4294967295 le) refl
