-- The objects that names stand for.
use Rattle.std.proofs.{Common.{◌≡◌, ℕ, ◌<◌, Some, List, [], ◌∷◌, length, sym, ◌∙◌, ap, subst, arith, position, inl, inr, bytes_eq, ◌≤◌}, lemmas.Bool.false_from_ne_true, lemmas.Option.slice_get_cases, lemmas.Slice.Eq.bytes_eq-Decides}
use Rattle.std.specs.{List.slice_get, Option.option_map_or}
use Rattle.event_log.proofs.Each.{each_at}
use Rattle.record_lines.specs.{Reading.word_at, Words.IsPlain}
use Rattle.kernel_words.specs.declared.form.Form.{Form}
use Rattle.records.specs.{Settings.{Settings, ObjectSettings, SettingsFitIn, ObjectFits, NamesDiffer, name_at}, RecordReading.place_at}
use Rattle.record_lines.proofs.{Readings.{bind_some, same}, Names.{named_by, first_at, name_plain, name_le}}

-- the object at a place
pub object_there : (settings : Settings) (i : ℕ) → i < length settings.objects → (o : ObjectSettings) × (slice_get settings.objects i ≡ Some o)
object_there settings i less = elim (slice_get_cases settings.objects i).1 [
  | inl h ↦ (h.0, h.2)
  | inr h ↦ absurd (let past = h.0 in omega (arith, past, less))
]

pub name_at_plain : {form : Form} (settings : Settings) → SettingsFitIn form settings → (i : ℕ) → i < length settings.objects → IsPlain (name_at settings i)
name_at_plain {form} settings fit i less =
    let there = object_there settings i less in
    let fits : ObjectFits form there.0 = each_at (ObjectFits form) settings.objects i there.0 fit.each there.1 in
    subst IsPlain (sym (ap (λ o. option_map_or (λ v. v.name) o []) there.1)) (name_plain there.0.name fits.name)

-- the name is next, and it is that of the object at the place
pub record IsNamed (settings : Settings) (ws : List (List ℕ)) (read : ℕ × List (List ℕ)) : Type 0 where
  pub text : ws ≡ name_at settings read.0 ∷ read.1
  pub bound : read.0 < length settings.objects

pub place_takes : (settings : Settings) (ws : List (List ℕ)) (read : ℕ × List (List ℕ)) → place_at settings.objects ws ≡ Some read → IsNamed settings ws read
unfolding place_at word_at
place_takes settings [] read e = absurd cc
place_takes settings (w ∷ ws) read e = bind_some (position (λ o. bytes_eq o.name w) settings.objects) _ read e (λ i found last.
    let is : ◌≡◌ {A = ℕ × List (List ℕ)} (i, ws) read = cc in
    let at = named_by (λ o. bytes_eq o.name w) settings.objects i found in
    let name : name_at settings i ≡ w = ap (λ o. option_map_or (λ v. v.name) o []) at.1 ∙ same at.0.name w at.2 in
    subst (λ p. IsNamed settings (w ∷ ws) p) is (record { text = ap (λ v. v ∷ ws) (sym name); bound = at.3 }))

pub place_again : (settings : Settings) (i : ℕ) (rest : List (List ℕ)) → NamesDiffer settings → i < length settings.objects → place_at settings.objects (name_at settings i ∷ rest) ≡ Some (i, rest)
unfolding place_at word_at
place_again settings i rest names less =
    let named : (k : ℕ) (o : ObjectSettings) → slice_get settings.objects k ≡ Some o → name_at settings k ≡ o.name = λ k o at. ap (λ v. option_map_or (λ u. u.name) v []) at in
    let found = first_at (λ o. bytes_eq o.name (name_at settings i)) settings.objects i less
    (λ k o lower at. false_from_ne_true (bytes_eq o.name (name_at settings i)) (λ e.
    let one : k ≡ i = names k i (omega (arith, lower, less)) less (named k o at ∙ same o.name (name_at settings i) e) in
    omega (arith, one, lower)))
    (λ o at. (bytes_eq-Decides o.name (name_at settings i)).1 (sym (named i o at))) in
    rw found

pub name_at_le : {form : Form} (settings : Settings) → SettingsFitIn form settings → (i : ℕ) → i < length settings.objects → length (name_at settings i) ≤ 16
name_at_le {form} settings fit i less =
    let there = object_there settings i less in
    let fits : ObjectFits form there.0 = each_at (ObjectFits form) settings.objects i there.0 fit.each there.1 in
    omega (arith, ap (λ o. length (option_map_or (λ v. v.name) o [])) there.1, name_le there.0.name fits.name)
