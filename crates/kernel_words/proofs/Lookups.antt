-- What the loops of the reader have found so far.
use Rattle.std.proofs.{Common.{◌≡◌, ℕ, ◌<◌, ◌≤◌, ◌+◌, true, false, Option, Some, None, List, [], ◌∷◌, ◌++◌, length, get_or, drop, refl, sym, ◌∙◌, ap, cond, bytes_eq}, lemmas.List.{append-nil, at_drop_more, drop_all}}
use Rattle.kernel_words.specs.{declared.tables.field.Field.Field, Row.{Row, field_at, numbers_at, sample_at}}
use Rattle.record_lines.specs.Reading.{◌>>=◌}
use Rattle.record_lines.proofs.Readings.{bind_grown}

bind_pair : {A B : Type 0} (o : Option (A × B)) → o ≡ (o >>= λ x. Some (x.0, x.1))
bind_pair None = refl
bind_pair (Some x) = refl

-- the numbers that were read, and then those of these fields
abbrev pub behind : List ℕ → List Field → List (List ℕ) → Option (List ℕ × List (List ℕ))
behind front fs ws = numbers_at fs ws >>= λ more. Some (front ++ more.0, more.1)

pub numbers_start : (front : List ℕ) (fs : List Field) (ws : List (List ℕ)) → front ≡ [] → numbers_at fs ws ≡ behind front fs ws
numbers_start front fs ws e = rw e (bind_pair (numbers_at fs ws))

pub numbers_step : (front longer : List ℕ) (fs : List Field) (i : ℕ) (d : Field) (ws rest : List (List ℕ)) (n : ℕ) → longer ≡ front ++ n ∷ [] → i < length fs → field_at (get_or fs i d) ws ≡ Some (n, rest) → behind front (drop i fs) ws ≡ behind longer (drop (i + 1) fs) rest
unfolding numbers_at
numbers_step front longer fs i d ws rest n grown lt e =
    let next : behind front (get_or fs i d ∷ drop (i + 1) fs) ws ≡ behind longer (drop (i + 1) fs) rest = rw e (bind_grown (numbers_at (drop (i + 1) fs) rest) front longer n grown) in
    at_drop_more (λ l. behind front l ws) fs i d lt ∙ next

pub numbers_stop : (front : List ℕ) (fs : List Field) (i : ℕ) (d : Field) (ws : List (List ℕ)) → i < length fs → field_at (get_or fs i d) ws ≡ None → behind front (drop i fs) ws ≡ None
unfolding numbers_at
numbers_stop front fs i d ws lt e =
    let next : behind front (get_or fs i d ∷ drop (i + 1) fs) ws ≡ None = rw e in
    at_drop_more (λ l. behind front l ws) fs i d lt ∙ next

pub numbers_end : (front : List ℕ) (fs : List Field) (i : ℕ) (ws : List (List ℕ)) → length fs ≤ i → behind front (drop i fs) ws ≡ Some (front, ws)
unfolding numbers_at
numbers_end front fs i ws le = ap (λ l. behind front l ws) (drop_all i fs le) ∙ ap (λ l. Some (l, ws)) (append-nil front)

module _ {T : Type 0} (row : T → Row) where
  pub sample_hit : (xs : List T) (word : List ℕ) (i : ℕ) (x : T) → i < length xs → x ≡ get_or xs i x → bytes_eq (row x).word word ≡ true → sample_at row (drop i xs) word ≡ Some x
  unfolding sample_at
  sample_hit xs word i x lt is hit =
      at_drop_more (λ l. sample_at row l word) xs i x lt
      ∙ (ap (λ y. sample_at row (y ∷ drop (i + 1) xs) word) (sym is) ∙ ap (λ b. cond b (Some x) (sample_at row (drop (i + 1) xs) word)) hit)

  pub sample_miss : (xs : List T) (word : List ℕ) (i : ℕ) (x : T) → i < length xs → x ≡ get_or xs i x → bytes_eq (row x).word word ≡ false → sample_at row (drop i xs) word ≡ sample_at row (drop (i + 1) xs) word
  unfolding sample_at
  sample_miss xs word i x lt is miss =
      at_drop_more (λ l. sample_at row l word) xs i x lt
      ∙ (ap (λ y. sample_at row (y ∷ drop (i + 1) xs) word) (sym is) ∙ ap (λ b. cond b (Some x) (sample_at row (drop (i + 1) xs) word)) miss)

  pub sample_none : (xs : List T) (word : List ℕ) (i : ℕ) → length xs ≤ i → sample_at row (drop i xs) word ≡ None
  unfolding sample_at
  sample_none xs word i le = ap (λ l. sample_at row l word) (drop_all i xs le)
