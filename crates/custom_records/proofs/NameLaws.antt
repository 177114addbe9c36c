-- Names, the objects that they name, and words that differ.
use Rattle.std.proofs.{Common.{◌≡◌, ℕ, zero, suc, ◌<◌, ◌≤◌, true, false, eq-or-lt_of_le, Some, List, [], ◌∷◌, ◌++◌, length, length-append, append_assoc, refl, sym, ◌∙◌, ap, subst, arith, position, inl, inr, not, ◌&&◌, ◌||◌, bytes_eq, option_map, unwrap_or}, lemmas.Bool.{and_parts, false_from_ne_true, false≢true, or_right, or_cases, not-true}, lemmas.List.{append-nil, length-map}, lemmas.Option.{cond_some, slice_get-map}, lemmas.Slice.Eq.bytes_eq-Decides}
use Rattle.std.specs.List.{AllByRecursion, slice_get}
use Rattle.event_log.proofs.{Each.each_at, Lists.some_at}
use Rattle.custom_records.specs.{LineReading.{custom_place_at, new_name_in, new_words_at}, Ranges.{CustomSettingsFit, Differ, HeadFits}, Settings.{CustomSettings, CustomHead, names_of, word_in, refuses_word}}
use Rattle.record_lines.specs.{Reading.word_at, Words.IsPlain, Names.is_name}
use Rattle.record_lines.proofs.{Names.{name_plain, named_by, first_at}, Readings.{bind_some, same}}

-- ---- the object at a place

-- the name of the object at a place
named : (head : CustomHead) (i : ℕ) (o : CustomSettings) → slice_get head.objects i ≡ Some o → word_in (names_of head) i ≡ o.name
named head i o at = ap (λ v. unwrap_or v []) (slice_get-map (λ (o : CustomSettings). o.name) head.objects i ∙ ap (option_map (λ (o : CustomSettings). o.name)) at)

-- each object has a name
pub name_of_object : (head : CustomHead) → HeadFits head → (i : ℕ) → i < length head.objects → is_name (word_in (names_of head) i) ≡ true
name_of_object head fit i less =
    let there = some_at head.objects i less in
    let fits : CustomSettingsFit there.0 = each_at CustomSettingsFit head.objects i there.0 fit.each there.1 in
    ap is_name (named head i there.0 there.1) ∙ fits.name

-- the name is next, and it is that of the object at the place
pub record IsNamed (head : CustomHead) (ws : List (List ℕ)) (read : ℕ × List (List ℕ)) : Type 0 where
  pub text : ws ≡ word_in (names_of head) read.0 ∷ read.1
  pub bound : read.0 < length head.objects

pub place_takes : (head : CustomHead) (ws : List (List ℕ)) (read : ℕ × List (List ℕ)) → custom_place_at head.objects ws ≡ Some read → IsNamed head ws read
unfolding custom_place_at word_at
place_takes head [] read e = absurd cc
place_takes head (w ∷ ws) read e = bind_some (position (λ o. bytes_eq o.name w) head.objects) _ read e (λ i found last.
    let is : ◌≡◌ {A = ℕ × List (List ℕ)} (i, ws) read = cc in
    let at = named_by (λ o. bytes_eq o.name w) head.objects i found in
    let name : word_in (names_of head) i ≡ w = named head i at.0 at.1 ∙ same at.0.name w at.2 in
    subst (λ p. IsNamed head (w ∷ ws) p) is (record { text = ap (λ v. v ∷ ws) (sym name); bound = at.3 }))

pub place_again : (head : CustomHead) (i : ℕ) (rest : List (List ℕ)) → Differ (names_of head) → i < length head.objects → custom_place_at head.objects (word_in (names_of head) i ∷ rest) ≡ Some (i, rest)
unfolding custom_place_at word_at
place_again head i rest names less =
    let count = length-map head.objects (λ (o : CustomSettings). o.name) in
    let found = first_at (λ o. bytes_eq o.name (word_in (names_of head) i)) head.objects i less
    (λ k o lower at. false_from_ne_true (bytes_eq o.name (word_in (names_of head) i)) (λ e.
    let one : k ≡ i = names k i (omega (arith, lower, less, count)) (omega (arith, less, count)) (named head k o at ∙ same o.name (word_in (names_of head) i) e) in
    omega (arith, one, lower)))
    (λ o at. (bytes_eq-Decides o.name (word_in (names_of head) i)).1 (sym (named head i o at))) in
    rw found

-- ---- words that differ

pub word_before : (front ws : List (List ℕ)) (i : ℕ) → i < length front → word_in (front ++ ws) i ≡ word_in front i
word_before [] ws i less = absurd (omega (arith, less))
word_before (x ∷ front) ws zero less = refl
word_before (x ∷ front) ws (suc i) less = word_before front ws i (omega (arith, less))

pub word_here : (front ws : List (List ℕ)) (w : List ℕ) → word_in (front ++ w ∷ ws) (length front) ≡ w
word_here [] ws w = refl
word_here (x ∷ front) ws w = word_here front ws w

-- a word that stands somewhere is among them
among : (ws : List (List ℕ)) (i : ℕ) (w : List ℕ) → i < length ws → word_in ws i ≡ w → refuses_word ws w ≡ true
among [] i w less e = absurd (omega (arith, less))
among (x ∷ ws) zero w less e = ap (λ b. b || refuses_word ws w) ((bytes_eq-Decides x w).1 e)
among (x ∷ ws) (suc i) w less e = or_right (bytes_eq x w) (refuses_word ws w) (among ws i w (omega (arith, less)) e)

-- a word that is among them stands somewhere
stands_at : (ws : List (List ℕ)) (w : List ℕ) → refuses_word ws w ≡ true → (i : ℕ) × (i < length ws) × (word_in ws i ≡ w)
stands_at [] w e = absurd cc
stands_at (x ∷ ws) w e = elim (or_cases (bytes_eq x w) (refuses_word ws w) e) [
  | inl here ↦ (0, omega arith, (bytes_eq-Decides x w).0 here)
  | inr later ↦ (let at = stands_at ws w later in (suc at.0, omega (arith, at.1), at.2))
]

-- of words that differ, none is among those before it
pub free : (front ws : List (List ℕ)) (w : List ℕ) → Differ (front ++ w ∷ ws) → refuses_word front w ≡ false
free front ws w differ = false_from_ne_true (refuses_word front w) (λ e.
    let longer = length-append front (w ∷ ws) in
    let at = stands_at front w e in
    let less = at.1 in
    let one : at.0 ≡ length front = differ at.0 (length front) (omega (arith, less, longer)) (omega (arith, longer)) (word_before front (w ∷ ws) at.0 less ∙ (at.2 ∙ sym (word_here front ws w))) in
    omega (arith, one, less))

-- a word more that is none of them
pub differ_more : (ws : List (List ℕ)) (w : List ℕ) → Differ ws → refuses_word ws w ≡ false → Differ (ws ++ w ∷ [])
differ_more ws w differ fresh i j li lj alike =
    let count = length-append ws (w ∷ []) in
    let apart : (k : ℕ) → k < length ws → word_in ws k ≡ w → ⊥ = λ k less e. false≢true (sym fresh ∙ among ws k w less e) in
    let i_end : i ≤ length ws = omega (arith, li, count) in
    let j_end : j ≤ length ws = omega (arith, lj, count) in
    elim (eq-or-lt_of_le i_end) [
      | inl a ↦ elim (eq-or-lt_of_le j_end) [
        | inl b ↦ a ∙ sym b
        | inr b ↦ absurd (apart j b (sym (word_before ws (w ∷ []) j b) ∙ (sym alike ∙ (ap (word_in (ws ++ w ∷ [])) a ∙ word_here ws [] w))))
      ]
      | inr a ↦ elim (eq-or-lt_of_le j_end) [
        | inl b ↦ absurd (apart i a (sym (word_before ws (w ∷ []) i a) ∙ (alike ∙ (ap (word_in (ws ++ w ∷ [])) b ∙ word_here ws [] w))))
        | inr b ↦ differ i j a b (sym (word_before ws (w ∷ []) i a) ∙ (alike ∙ word_before ws (w ∷ []) j b))
      ]
    ]

-- ---- up to n names, each of which differs from those before it

abbrev IsName : List ℕ → Type 0
IsName w = is_name w ≡ true

-- the earlier words and these are all, and they are up to n names that differ
pub record AreNew (earlier : List (List ℕ)) (n : ℕ) (ws all : List (List ℕ)) : Type 0 where
  pub text : earlier ++ ws ≡ all
  pub few : length ws ≤ n
  pub each : AllByRecursion IsName ws
  pub once : Differ earlier → Differ all

pub new_words_take : (earlier : List (List ℕ)) (n : ℕ) (ws all : List (List ℕ)) → new_words_at earlier n ws ≡ Some all → AreNew earlier n ws all
unfolding new_words_at new_name_in
new_words_take earlier zero [] all e = let is : earlier ≡ all = cc in record { text = append-nil earlier ∙ is; few = omega arith; each = tt; once = λ d. subst Differ is d }
new_words_take earlier (suc n) [] all e = let is : earlier ≡ all = cc in record { text = append-nil earlier ∙ is; few = omega arith; each = tt; once = λ d. subst Differ is d }
new_words_take earlier zero (w ∷ ws) all e = absurd cc
new_words_take earlier (suc n) (w ∷ ws) all e = bind_some (new_name_in earlier w) _ all e (λ name found rest.
    let new = cond_some (is_name w && not (refuses_word earlier w)) w name found in
    let tests = and_parts (is_name w) (not (refuses_word earlier w)) new.0 in
    let more = new_words_take (earlier ++ name ∷ []) n ws all rest in
    record {
      text = ap (λ v. earlier ++ v ∷ ws) new.1 ∙ (sym (append_assoc earlier (name ∷ []) ws) ∙ more.text);
      few = let few = more.few in omega (arith, few);
      each = (tests.0, more.each);
      once = λ d. more.once (subst (λ v. Differ (earlier ++ v ∷ [])) new.1 (differ_more earlier w d (not-true (refuses_word earlier w) tests.1)));
    })

pub new_words_again : (earlier : List (List ℕ)) (n : ℕ) (ws : List (List ℕ)) → length ws ≤ n → AllByRecursion IsName ws → Differ (earlier ++ ws) → new_words_at earlier n ws ≡ Some (earlier ++ ws)
unfolding new_words_at new_name_in
new_words_again earlier zero [] few each once = ap Some (sym (append-nil earlier))
new_words_again earlier (suc n) [] few each once = ap Some (sym (append-nil earlier))
new_words_again earlier zero (w ∷ ws) few each once = absurd (omega (arith, few))
new_words_again earlier (suc n) (w ∷ ws) few each once =
    let assoc = append_assoc earlier (w ∷ []) ws in
    let more = new_words_again (earlier ++ w ∷ []) n ws (omega (arith, few)) each.1 (subst Differ (sym assoc) once) in
    rw (each.0, free earlier ws w once) (more ∙ ap Some assoc)

-- neither a line end nor a space is in names
pub names_plain : (ws : List (List ℕ)) → AllByRecursion IsName ws → AllByRecursion IsPlain ws
names_plain [] each = tt
names_plain (w ∷ ws) each = (name_plain w each.0, names_plain ws each.1)
