-- Some model has counts of which none is mistold.
use Rattle.std.proofs.{Common.{◌≡◌, inl, inr, ⊎_elim, ℕ, zero, suc, ◌+◌, ◌<◌, ◌≤◌, Bool, true, false, cond, List, [], ◌∷◌, length, take, Option, Some, None, slice_get, refl, sym, ap, ◌∙◌, subst, arith}, lemmas.Bool.{ltb-true, lt-ltb, cases_lt}, lemmas.List.length-map, lemmas.Option.slice_get_within, lemmas.Slice.Eq.bytes_eq-Decides}
use Rattle.std.specs.{Prelude.{ltb, unwrap_or}, Str.bytes_eq}
use Rattle.event_log.specs.Log.{steps_of}
use Rattle.sound_run.specs.Sound.{log_of}
use Rattle.sound_run.proofs.Slices.{map_get, one_of}
use Rattle.auditor.proofs.Splits.{take_length}
use Rattle.custom_records.specs.{Custom.CustomStep, Ranges.{CustomRecord, CustomRecordFits}, Settings.{CustomSettings, names_of, word_in}}
use Rattle.judge.specs.Models.{Model, AreCounts, IsCount, IsCounted, IsMistold}

-- the count of the object of that name
abbrev count_for : List CustomSettings → List ℕ → List ℕ → ℕ
count_for [] counts name = 0
count_for (o ∷ objects) [] name = 0
count_for (o ∷ objects) (n ∷ counts) name = cond (bytes_eq o.name name) n (count_for objects counts name)

-- so many steps of each object are right
abbrev counting : List CustomSettings → List ℕ → Model
counting objects counts o steps = ltb (length steps) (suc (count_for objects counts o.name))

count_found : (objects : List CustomSettings) (counts : List ℕ) (x : ℕ) (o : CustomSettings) (n : ℕ) → slice_get objects x ≡ Some o → slice_get counts x ≡ Some n → ((y : ℕ) (u : CustomSettings) → y < x → slice_get objects y ≡ Some u → bytes_eq u.name o.name ≡ false) → count_for objects counts o.name ≡ n
count_found [] counts x o n on at off = cc
count_found (u ∷ objects) [] x o n on at off = cc
count_found (u ∷ objects) (m ∷ counts) zero o n on at off =
    let same : u ≡ o = cc in
    let is : m ≡ n = cc in
    ap (λ (b : Bool). cond b m (count_for objects counts o.name)) ((bytes_eq-Decides u.name o.name).1 (ap (λ (v : CustomSettings). v.name) same)) ∙ is
count_found (u ∷ objects) (m ∷ counts) (suc x) o n on at off =
    ap (λ (b : Bool). cond b m (count_for objects counts o.name)) (off 0 u (omega arith) refl) ∙ count_found objects counts x o n on at (λ y v lt there. off (suc y) v (omega (arith, lt)) there)

not_less : (a b : ℕ) → b ≤ a → ltb a b ≡ false
not_less a b le = by (ltb a b) refl
  where
    by : (r : Bool) → ltb a b ≡ r → ltb a b ≡ false
    by true e = let lt = ltb-true a b e in absurd (omega (arith, lt, le))
    by false e = e

counts_so : (steps : List CustomStep) (right : List CustomStep → Bool) (n : ℕ) → ((l : List CustomStep) → right l ≡ ltb (length l) (suc n)) → n ≤ length steps → IsCount right steps n
counts_so steps right n is few = record {
  within = few;
  all = λ k lt. is (take (k + 1) steps) ∙ (let e = take_length steps (k + 1) (omega (arith, lt, few)) in lt-ltb (length (take (k + 1) steps)) (suc n) (omega (arith, e, lt)));
  next = λ lt. is (take (n + 1) steps) ∙ (let e = take_length steps (n + 1) (omega (arith, lt)) in not_less (length (take (n + 1) steps)) (suc n) (omega (arith, e)));
}

module _ (r : CustomRecord) (counts : List ℕ) (fit : CustomRecordFits r) (none : (x : ℕ) → IsMistold r counts x → ⊥) where
  -- each object has a count that can be
  counted_below : (n : ℕ) → n ≤ length r.head.objects → (y : ℕ) → y < n → IsCounted r counts y
  counted_below zero le y lt = absurd (omega (arith, lt))
  counted_below (suc n) le y lt =
      let before = counted_below n (omega (arith, le)) in
      let mis : (IsCounted r counts n → ⊥) → IsMistold r counts n = λ no. record { some = inl (omega (arith, le)); wrong = no; first = before } in
      let here : IsCounted r counts n = by n (omega (arith, le)) (λ no. none n (mis no)) (slice_get counts n) refl in
      ⊎_elim (λ less. before y less) (λ ge. let same : n ≡ y = omega (arith, lt, ge) in subst (IsCounted r counts) same here) (cases_lt y n)
    where
      by : (k : ℕ) → k < length r.head.objects → ((IsCounted r counts k → ⊥) → ⊥) → (o : Option ℕ) → slice_get counts k ≡ o → IsCounted r counts k
      by k inside never None at = absurd (never (λ t. let bad : Some t.count ≡ None = sym t.there ∙ at in absurd (cc)))
      by k inside never (Some c) at = ⊎_elim
          (λ less. absurd (never (λ t. let same = one_of t.count c (slice_get counts k) t.there at in let w = t.within in absurd (omega (arith, less, same, w)))))
          (λ le. record { object = inside; count = c; there = at; within = le })
          (cases_lt (length (steps_of (log_of k r.run))) c)

  counted_all : (y : ℕ) → y < length r.head.objects → IsCounted r counts y
  counted_all y lt = counted_below (length r.head.objects) (omega arith) y lt

  as_many : length counts ≡ length r.head.objects
  as_many = ⊎_elim
      (λ less. let t = counted_all (length counts) less in let lt = slice_get_within counts (length counts) t.count t.there in absurd (omega (arith, lt)))
      (λ le. ⊎_elim
      (λ more. absurd (none (length r.head.objects) (record { some = inr more; wrong = (λ t. let lt = t.object in absurd (omega (arith, lt))); first = counted_all })))
      (λ ge. omega (arith, le, ge))
      (cases_lt (length r.head.objects) (length counts)))
      (cases_lt (length counts) (length r.head.objects))

  name_at : (x : ℕ) (o : CustomSettings) → slice_get r.head.objects x ≡ Some o → word_in (names_of r.head) x ≡ o.name
  name_at x o on = ap (λ v. unwrap_or v []) (map_get (λ (v : CustomSettings). v.name) r.head.objects x o on)

  -- no two objects have one name
  names_differ : (x y : ℕ) (o u : CustomSettings) → slice_get r.head.objects x ≡ Some o → y < x → slice_get r.head.objects y ≡ Some u → bytes_eq u.name o.name ≡ false
  names_differ x y o u on lt there = by (bytes_eq u.name o.name) refl
    where
      by : (b : Bool) → bytes_eq u.name o.name ≡ b → bytes_eq u.name o.name ≡ false
      by true e =
          let n = length-map r.head.objects (λ (v : CustomSettings). v.name) in
          let a = slice_get_within r.head.objects x o on in
          let same = fit.0.names y x (omega (arith, n, a, lt)) (omega (arith, n, a)) (name_at y u there ∙ ((bytes_eq-Decides u.name o.name).0 e ∙ sym (name_at x o on))) in
          absurd (omega (arith, same, lt))
      by false e = e

  pub some_model : (model : Model) × AreCounts model r counts
  some_model = (
    counting r.head.objects counts,
    record {
      counted = as_many;
      each = λ x o n on at.
          let t = counted_all x (slice_get_within r.head.objects x o on) in
          let same = one_of t.count n (slice_get counts x) t.there at in
          let few = t.within in
          let found = count_found r.head.objects counts x o n on at (λ y u lt there. names_differ x y o u on lt there) in
          counts_so (steps_of (log_of x r.run)) (counting r.head.objects counts o) n (λ l. ap (λ k. ltb (length l) (suc k)) found) (omega (arith, few, same));
    },
  )
