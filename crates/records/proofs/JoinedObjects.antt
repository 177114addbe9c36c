-- Objects that join others, whose names differ.
use Rattle.std.proofs.{Common.{◌≡◌, ℕ, zero, suc, ◌<◌, ◌≤◌, true, false, List, [], ◌∷◌, ◌++◌, length, length-append, refl, ap, sym, ◌∙◌, arith, inl, inr, ◌||◌, bytes_eq}, Math.Nat.eq-or-lt_of_le, lemmas.Bool.{false≢true, or_right}, lemmas.Slice.Eq.bytes_eq-Decides}
use Rattle.std.specs.{List.{list_any, slice_get, AllByRecursion}, Option.option_map_or}
use Rattle.kernel_words.specs.{declared.form.Form.Form, declared.form.TheConstants.WRITTEN}
use Rattle.records.specs.Settings.{ObjectSettings, ObjectFits}

-- an object within the limits of the form, and of a new name
abbrev pub Joins : Form → List ObjectSettings → ObjectSettings → Type 0
Joins form earlier o = ObjectFits form o × (list_any (λ x. bytes_eq x.name o.name) earlier ≡ false)

abbrev pub name_in : List ObjectSettings → ℕ → List ℕ
name_in os i = option_map_or (λ o. o.name) (slice_get os i) []

abbrev pub Differ : List ObjectSettings → Type 0
Differ os = (i j : ℕ) → i < length os → j < length os → name_in os i ≡ name_in os j → i ≡ j

pub name_before : (front os : List ObjectSettings) (i : ℕ) → i < length front → name_in (front ++ os) i ≡ name_in front i
name_before [] os i less = absurd (omega (arith, less))
name_before (x ∷ front) os zero less = refl
name_before (x ∷ front) os (suc i) less = name_before front os i (omega (arith, less))

pub name_here : (front os : List ObjectSettings) (o : ObjectSettings) → name_in (front ++ o ∷ os) (length front) ≡ o.name
name_here [] os o = refl
name_here (x ∷ front) os o = name_here front os o

pub taken : (os : List ObjectSettings) (i : ℕ) (s : List ℕ) → i < length os → name_in os i ≡ s → list_any (λ o. bytes_eq o.name s) os ≡ true
taken [] i s less e = absurd (omega (arith, less))
taken (x ∷ os) zero s less e = ap (λ b. b || list_any (λ o. bytes_eq o.name s) os) ((bytes_eq-Decides x.name s).1 e)
taken (x ∷ os) (suc i) s less e = or_right (bytes_eq x.name s) (list_any (λ o. bytes_eq o.name s) os) (taken os i s (omega (arith, less)) e)

-- an object of a new name is found by it, and the others are still found
pub differ_more : (os : List ObjectSettings) (o : ObjectSettings) → Differ os → list_any (λ x. bytes_eq x.name o.name) os ≡ false → Differ (os ++ o ∷ [])
differ_more os o differ fresh i j li lj same =
    let count = length-append os (o ∷ []) in
    let apart : (k : ℕ) → k < length os → name_in os k ≡ o.name → ⊥ = λ k less e. false≢true (sym fresh ∙ taken os k o.name less e) in
    let i_end : i ≤ length os = omega (arith, li, count) in
    let j_end : j ≤ length os = omega (arith, lj, count) in
    elim (eq-or-lt_of_le i_end) [
      | inl a ↦ elim (eq-or-lt_of_le j_end) [
        | inl b ↦ a ∙ sym b
        | inr b ↦ absurd (apart j b (sym (name_before os (o ∷ []) j b) ∙ (sym same ∙ (ap (name_in (os ++ o ∷ [])) a ∙ name_here os [] o))))
      ]
      | inr a ↦ elim (eq-or-lt_of_le j_end) [
        | inl b ↦ absurd (apart i a (sym (name_before os (o ∷ []) i a) ∙ (same ∙ (ap (name_in (os ++ o ∷ [])) b ∙ name_here os [] o))))
        | inr b ↦ differ i j a b (sym (name_before os (o ∷ []) i a) ∙ (same ∙ name_before os (o ∷ []) j b))
      ]
    ]

-- the objects, as many as items
pub record AreObjects (count : ℕ) (os : List ObjectSettings) : Type 0 where
  pub count_is : length os ≡ count
  pub each : AllByRecursion (ObjectFits WRITTEN) os
  pub names : Differ os
