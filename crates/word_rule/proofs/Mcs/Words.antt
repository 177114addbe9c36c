-- The words of an MCS lock, one by one, and where one of them is stored.
use Rattle.std.proofs.{Common.{◌≡◌, ◌≢◌, ◌⊎◌, inl, inr, ℕ, zero, suc, ◌+◌, ◌-◌, ◌*◌, ◌<◌, ◌≤◌, List, length, map, get_or, set, sym, ap, ◌∙◌, arith, length-set, get_or-set_same, get_or-set_other, Option}, lemmas.Bool.cases_lt, lemmas.List.{ext_get_or, get_or_append_left, get_or-append_right, length-append}, lemmas.List.FromFn.{get_or-map-range_with_len, length-map-range_with_len}}
use Rattle.std.specs.List.{range_with_len}
use mathlib.Core.Logic.{dite}
use native.Mathlib.Decide.{ℕ_discrete}
use Rattle.word_rule.specs.{declared.lock_kind.Stage.Stage, Line.{moved, last}, Mcs.State.{McsLock, naming, word_of, locked_by, locked_at, mcs_words}}
use Rattle.word_rule.proofs.{Mcs.Stands.{naming_same, naming_else}, Moves.each_moved}

-- a word that isn't the one that is set
elsewhere : (ws : List ℕ) (i j v : ℕ) → i ≢ j → get_or (set ws i v) j 0 ≡ get_or ws j 0
elsewhere ws i j v ne = get_or-set_other ws i j v 0 (λ e. ne (omega arith))

module _ (n : ℕ) (l : McsLock) where
  abbrev nexts : List ℕ
  nexts = map (λ i. word_of (l.extra i)) (range_with_len 0 n)

  abbrev lockeds : List ℕ
  lockeds = map (λ i. locked_at l.line i) (range_with_len 0 n)

  nexts_long : length nexts ≡ n
  nexts_long = length-map-range_with_len (λ i. word_of (l.extra i)) 0 n

  long : length (mcs_words n l) ≡ 1 + 2 * n
  long = omega (arith, length-append nexts lockeds, nexts_long, length-map-range_with_len (λ i. locked_at l.line i) 0 n)

  next_at : (x : ℕ) → x < n → get_or (mcs_words n l) (1 + x) 0 ≡ word_of (l.extra x)
  next_at x lt =
      ap (λ k. get_or (mcs_words n l) k 0) (let e : 1 + x ≡ suc x = omega arith in e) ∙ (get_or_append_left nexts lockeds 0 x (omega (arith, nexts_long, lt))
      ∙ get_or-map-range_with_len (λ i. word_of (l.extra i)) 0 n x x 0 lt (let e : 0 + x ≡ x = omega arith in e))

  locked_here : (x : ℕ) → x < n → get_or (mcs_words n l) (1 + n + x) 0 ≡ locked_at l.line x
  locked_here x lt =
      ap (λ k. get_or (mcs_words n l) k 0) (let e : 1 + n + x ≡ suc (n + x) = omega arith in e) ∙ (get_or-append_right nexts lockeds n (n + x) 0 nexts_long (omega arith)
      ∙ get_or-map-range_with_len (λ i. locked_at l.line i) 0 n (n + x - n) x 0 (omega (arith, lt)) (let e : 0 + (n + x - n) ≡ x = omega arith in e))

  -- words that are the lock's, one by one, are the lock's
  pub are : (ws : List ℕ) → length ws ≡ 1 + 2 * n → get_or ws 0 0 ≡ word_of (last l.line.cpus) → ((x : ℕ) → x < n → get_or ws (1 + x) 0 ≡ word_of (l.extra x)) → ((x : ℕ) → x < n → get_or ws (1 + n + x) 0 ≡ locked_at l.line x) → ws ≡ mcs_words n l
  are ws wide tail named locked = ext_get_or 0 ws (mcs_words n l) (wide ∙ sym long) at
    where
      behind : (j : ℕ) → suc j < length ws → ((j < n) ⊎ (n ≤ j)) → get_or ws (suc j) 0 ≡ get_or (mcs_words n l) (suc j) 0
      behind j lt (inl a) = let is : suc j ≡ 1 + j = omega arith in ap (λ k. get_or ws k 0) is ∙ (named j a ∙ (sym (next_at j a) ∙ ap (λ k. get_or (mcs_words n l) k 0) (sym is)))
      behind j lt (inr b) =
          let is : suc j ≡ 1 + n + (j - n) = omega (arith, b) in
          let jn : j - n < n = omega (arith, wide, lt, b) in
          ap (λ k. get_or ws k 0) is ∙ (locked (j - n) jn ∙ (sym (locked_here (j - n) jn) ∙ ap (λ k. get_or (mcs_words n l) k 0) (sym is)))

      at : (k : ℕ) → k < length ws → get_or ws k 0 ≡ get_or (mcs_words n l) k 0
      at zero lt = tail
      at (suc j) lt = behind j lt (cases_lt j n)

module _ (n : ℕ) (ws : List ℕ) (l : McsLock) (w : ws ≡ mcs_words n l) where
  pub wide : length ws ≡ 1 + 2 * n
  wide = ap length w ∙ long n l

  pub tail_word : get_or ws 0 0 ≡ word_of (last l.line.cpus)
  tail_word = ap (λ z. get_or z 0 0) w

  pub next_word : (x : ℕ) → x < n → get_or ws (1 + x) 0 ≡ word_of (l.extra x)
  next_word x lt = ap (λ z. get_or z (1 + x) 0) w ∙ next_at n l x lt

  pub locked_word : (x : ℕ) → x < n → get_or ws (1 + n + x) 0 ≡ locked_at l.line x
  locked_word x lt = ap (λ z. get_or z (1 + n + x) 0) w ∙ locked_here n l x lt

  module _ (l' : McsLock) where
    -- a `next` is stored
    pub next_stored : (p : ℕ) (named : Option ℕ) → p < n → l'.extra ≡ naming l.extra p named → last l'.line.cpus ≡ last l.line.cpus → ((x : ℕ) → x < n → locked_at l'.line x ≡ locked_at l.line x) → set ws (1 + p) (word_of named) ≡ mcs_words n l'
    next_stored p named lt next tail locked =
        let v : ℕ = word_of named in
        are n l' (set ws (1 + p) v) (length-set ws (1 + p) v ∙ wide)
        (elsewhere ws (1 + p) 0 v (λ e. absurd (omega arith)) ∙ (tail_word ∙ ap word_of (sym tail)))
        (λ x x_lt. dite (ℕ_discrete x p)
        (λ is. ap (λ k. get_or (set ws (1 + p) v) (1 + k) 0) is ∙ (get_or-set_same ws (1 + p) v 0 (omega (arith, wide, lt)) ∙ ap word_of (sym (ap (λ f. f x) next ∙ (ap (naming l.extra p named) is ∙ naming_same l.extra p named)))))
        (λ ne. elsewhere ws (1 + p) (1 + x) v (λ e. ne (omega (arith, e))) ∙ (next_word x x_lt ∙ ap word_of (sym (ap (λ f. f x) next ∙ naming_else l.extra p named x ne)))))
        (λ x x_lt. elsewhere ws (1 + p) (1 + n + x) v (λ e. absurd (omega (arith, e, lt))) ∙ (locked_word x x_lt ∙ sym (locked x x_lt)))

    -- a `locked` is stored
    pub locked_stored : (p v : ℕ) → p < n → l'.extra ≡ l.extra → last l'.line.cpus ≡ last l.line.cpus → locked_at l'.line p ≡ v → ((x : ℕ) → x < n → x ≢ p → locked_at l'.line x ≡ locked_at l.line x) → set ws (1 + n + p) v ≡ mcs_words n l'
    locked_stored p v lt next tail mine others =
        are n l' (set ws (1 + n + p) v) (length-set ws (1 + n + p) v ∙ wide)
        (elsewhere ws (1 + n + p) 0 v (λ e. absurd (omega arith)) ∙ (tail_word ∙ ap word_of (sym tail)))
        (λ x x_lt. elsewhere ws (1 + n + p) (1 + x) v (λ e. absurd (omega (arith, e, x_lt))) ∙ (next_word x x_lt ∙ ap (λ f. word_of (f x)) (sym next)))
        (λ x x_lt. dite (ℕ_discrete x p)
        (λ is. ap (λ k. get_or (set ws (1 + n + p) v) (1 + n + k) 0) is ∙ (get_or-set_same ws (1 + n + p) v 0 (omega (arith, wide, lt)) ∙ (sym mine ∙ ap (locked_at l'.line) (sym is))))
        (λ ne. elsewhere ws (1 + n + p) (1 + n + x) v (λ e. ne (omega (arith, e))) ∙ (locked_word x x_lt ∙ sym (others x x_lt ne))))

    -- the tail is stored
    pub tail_stored : (v : ℕ) → l'.extra ≡ l.extra → word_of (last l'.line.cpus) ≡ v → ((x : ℕ) → x < n → locked_at l'.line x ≡ locked_at l.line x) → set ws 0 v ≡ mcs_words n l'
    tail_stored v next tail locked =
        are n l' (set ws 0 v) (length-set ws 0 v ∙ wide)
        (get_or-set_same ws 0 v 0 (omega (arith, wide)) ∙ sym tail)
        (λ x x_lt. elsewhere ws 0 (1 + x) v (λ e. absurd (omega arith)) ∙ (next_word x x_lt ∙ ap (λ f. word_of (f x)) (sym next)))
        (λ x x_lt. elsewhere ws 0 (1 + n + x) v (λ e. absurd (omega arith)) ∙ (locked_word x x_lt ∙ sym (locked x x_lt)))

    -- no word changes
    pub words_stay : l'.extra ≡ l.extra → last l'.line.cpus ≡ last l.line.cpus → ((x : ℕ) → x < n → locked_at l'.line x ≡ locked_at l.line x) → ws ≡ mcs_words n l'
    words_stay next tail locked =
        are n l' ws wide (tail_word ∙ ap word_of (sym tail))
        (λ x x_lt. next_word x x_lt ∙ ap (λ f. word_of (f x)) (sym next))
        (λ x x_lt. locked_word x x_lt ∙ sym (locked x x_lt))

-- one CPU stands elsewhere, in another queue, and no `locked` changes
pub locked_moved : (stage : ℕ → Stage) (n i : ℕ) (q : Stage) (cpus cpus' : List ℕ) → locked_by q i cpus' ≡ locked_by (stage i) i cpus → ((x : ℕ) → x < n → x ≢ i → locked_by (stage x) x cpus' ≡ locked_by (stage x) x cpus)
    → (x : ℕ) → x < n → locked_by (moved stage i q x) x cpus' ≡ locked_by (stage x) x cpus
locked_moved stage n i q cpus cpus' mine others = each_moved stage (λ x s. locked_by s x cpus' ≡ locked_by (stage x) x cpus) n i q mine others
