-- What is proved of pools.
use Rattle.std.proofs.{Common.{◌≡◌, ℕ, zero, suc, ◌*◌, ◌<◌, ◌≤◌, ◌^◌, ◌==◌, Bool, true, Some, List, [], ◌∷◌, ◌++◌, length, map, replicate, refl, sym, ◌∙◌, ap, subst, arith, rules, decimal, nat_le, ◌&&◌}, lemmas.Bool.{and_parts, leb-true, le-leb, eqb-true}, lemmas.List.Quantifiers.position-Some, lemmas.List.Sums.count_by-le-length}
use Rattle.std.specs.{Cmp.Derive.both_true, List.{AllByRecursion, list_all}}
use Rattle.page_pool.specs.{State.{PoolState, is_in_range, opening_state}, Owning.IsPoolOf, Answer.pool_answer, declared.call.PoolCall.PoolCall, declared.params.PoolParams.PoolParams, declared.params.TheConstants.{MOST_PAGES, OWNERS}}
use Rattle.kernel_object.specs.Kinds.Pool.{of_pool}
use Rattle.kernel_words.specs.{declared.form.Form.Form, declared.form.Form.TheVariants.{One, Two}, declared.tables.field.Field.Field, Kinds.Definition.Expresses, Kinds.Pool.{quota_words, all_quotas_at, quotas_at, pool_params_at, pool_text}, Ranges.reply_fits, Row.{in_range, refill, limit, up_to, field_at, numbers_at}}
use Rattle.record_lines.specs.Words.{IsPlain}
use Rattle.kernel_words.proofs.{KindLaws.Laws.{KindLaws, KindKeeps, ReadsParams, limit_again, small_number, wide_fits}, Spellings.{texts, are_bounded, field_takes, numbers_take, numbers_again}}
use Rattle.record_lines.proofs.{Readings.{bind_some, plain_decimal}, Lengths.{long, number_le}}

-- ---- quotas

-- a quota is at most the most pages
abbrev pub is_quota : ℕ → Bool
is_quota q = nat_le q 4096

-- quotas, as the numbers of a row
abbrev fields : List ℕ → List Field
fields qs = map (up_to MOST_PAGES) qs

texts_are : (qs : List ℕ) → texts (fields qs) ≡ map decimal qs
texts_are [] = refl
texts_are (q ∷ qs) = ap (λ l. decimal q ∷ l) (texts_are qs)

values_are : (qs : List ℕ) → map (λ f. f.value) (fields qs) ≡ qs
values_are [] = refl
values_are (q ∷ qs) = ap (λ l. q ∷ l) (values_are qs)

ranges_are : (qs : List ℕ) → list_all in_range (fields qs) ≡ list_all is_quota qs
ranges_are [] = refl
ranges_are (q ∷ qs) = rw (le-leb 0 q (omega arith), ranges_are qs) refl

bounded : (qs : List ℕ) → are_bounded (fields qs) ≡ true
bounded [] = refl
bounded (q ∷ qs) = bounded qs

emptied : (qs : List ℕ) → refill (fields qs) [] ≡ replicate (length qs) (up_to MOST_PAGES 0)
emptied [] = refl
emptied (q ∷ qs) = ap (λ l. up_to MOST_PAGES 0 ∷ l) (emptied qs)

filled : (n : ℕ) (qs : List ℕ) → length qs ≡ n → refill (replicate n (up_to MOST_PAGES 0)) qs ≡ fields qs
filled zero [] e = refl
filled zero (q ∷ qs) e = absurd (omega (arith, e))
filled (suc n) [] e = absurd (omega (arith, e))
filled (suc n) (q ∷ qs) e = ap (λ l. up_to MOST_PAGES q ∷ l) (filled n qs (omega (arith, e)))

-- as many numbers as fields are read
numbers_count : (fs : List Field) (ws : List (List ℕ)) (read : List ℕ × List (List ℕ)) → numbers_at fs ws ≡ Some read → length read.0 ≡ length fs
unfolding numbers_at
numbers_count [] ws read e = let is : ◌≡◌ {A = List ℕ × List (List ℕ)} ([], ws) read = cc in ap (λ p. length p.0) (sym is)
numbers_count (f ∷ fs) ws read e = bind_some (field_at f ws) _ read e (λ n found next. bind_some (numbers_at fs n.1) _ read next (λ more left last.
    let is : ◌≡◌ {A = List ℕ × List (List ℕ)} (n.0 ∷ more.0, more.1) read = cc in
    ap (λ p. length p.0) (sym is) ∙ ap suc (numbers_count fs n.1 more left)))

-- quotas of all owners, each in its range
pub record AreQuotas (qs : List ℕ) : Type 0 where
  pub count : length qs ≡ 16
  pub each : list_all is_quota qs ≡ true

all_quotas_take : (ws : List (List ℕ)) (read : List ℕ × List (List ℕ)) → all_quotas_at ws ≡ Some read → (ws ≡ map decimal read.0 ++ read.1) × AreQuotas read.0
unfolding all_quotas_at
all_quotas_take ws read e =
    let count : length read.0 ≡ 16 = numbers_count (replicate OWNERS (up_to MOST_PAGES 0)) ws read e in
    let taken = numbers_take (replicate OWNERS (up_to MOST_PAGES 0)) ws read e in
    let fs = filled OWNERS read.0 count in (
      taken.text ∙ ap (λ l. l ++ read.1) (ap texts fs ∙ texts_are read.0),
      record { count = count; each = sym (ap (list_all in_range) fs ∙ ranges_are read.0) ∙ taken.fit },
    )

all_quotas_again : (qs : List ℕ) (rest : List (List ℕ)) → AreQuotas qs → all_quotas_at (map decimal qs ++ rest) ≡ Some (qs, rest)
unfolding all_quotas_at
all_quotas_again qs rest are =
    ap (λ n. numbers_at (replicate n (up_to MOST_PAGES 0)) (map decimal qs ++ rest)) (sym are.count)
    ∙ (ap (λ fs. numbers_at fs (map decimal qs ++ rest)) (sym (emptied qs))
    ∙ (ap (λ ws. numbers_at (refill (fields qs) []) (ws ++ rest)) (sym (texts_are qs))
    ∙ (numbers_again (fields qs) [] rest (ranges_are qs ∙ are.each) (bounded qs)
    ∙ ap (λ l. Some (l, rest)) (values_are qs))))

all_full : (n k : ℕ) → is_quota n ≡ true → list_all is_quota (replicate k n) ≡ true
all_full n zero e = refl
all_full n (suc k) e = rw e (all_full n k e)

pub full_are : (n : ℕ) → is_quota n ≡ true → AreQuotas (replicate OWNERS n)
full_are n e = record { count = refl; each = all_full n 16 e }

-- what is read of quotas
record Quotas (form : Form) (n : ℕ) (ws : List (List ℕ)) (read : List ℕ × List (List ℕ)) : Type 0 where
  text : ws ≡ quota_words form read.0 ++ read.1
  are : AreQuotas read.0
  expressed : Expresses pool_text form (record { pages = n; quotas = read.0 })

quotas_take : (form : Form) (n : ℕ) (ws : List (List ℕ)) (read : List ℕ × List (List ℕ)) → is_quota n ≡ true → quotas_at form n ws ≡ Some read → Quotas form n ws read
unfolding quotas_at
quotas_take One n ws read small e =
    let is : ◌≡◌ {A = List ℕ × List (List ℕ)} (replicate OWNERS n, ws) read = cc in
    subst (Quotas One n ws) is (record { text = refl; are = full_are n small; expressed = refl })
quotas_take Two n ws read small e = let taken = all_quotas_take ws read e in record { text = taken.0; are = taken.1; expressed = tt }

quotas_again : (form : Form) (p : PoolParams) (rest : List (List ℕ)) → AreQuotas p.quotas → Expresses pool_text form p → quotas_at form p.pages (quota_words form p.quotas ++ rest) ≡ Some (p.quotas, rest)
unfolding quotas_at
quotas_again One p rest are expressed = ap (λ (q : PoolParams). Some (q.quotas, rest)) (sym expressed)
quotas_again Two p rest are expressed = all_quotas_again p.quotas rest are

-- the parts of a pool's range
pool_parts : (p : PoolParams) → is_in_range p ≡ true → ((nat_le 1 p.pages && nat_le p.pages 4096) ≡ true) × AreQuotas p.quotas
pool_parts p range =
    let outer = and_parts (nat_le 1 p.pages && nat_le p.pages 4096) (length p.quotas == 16 && list_all is_quota p.quotas) range in
    let inner = and_parts (length p.quotas == 16) (list_all is_quota p.quotas) outer.1 in
    (outer.0, record { count = eqb-true (length p.quotas) 16 inner.0; each = inner.1 })

pub pool_in_range : (p : PoolParams) → (nat_le 1 p.pages && nat_le p.pages 4096) ≡ true → AreQuotas p.quotas → is_in_range p ≡ true
pool_in_range p pages are = both_true pages (rw (are.count, are.each) refl)

pool_take : (form : Form) (ws : List (List ℕ)) (read : PoolParams × List (List ℕ)) → pool_params_at form ws ≡ Some read → ReadsParams pool_text form ws read
unfolding pool_params_at
pool_take form ws read e = bind_some (field_at (limit MOST_PAGES 0) ws) _ read e (λ n found next. bind_some (quotas_at form n.0 n.1) _ read next (λ qs more last.
    let is : ◌≡◌ {A = PoolParams × List (List ℕ)} (record { pages = n.0; quotas = qs.0 }, qs.1) read = cc in
    let number = field_takes (limit MOST_PAGES 0) ws n found in
    let quotas = quotas_take form n.0 n.1 qs (and_parts (nat_le 1 n.0) (nat_le n.0 4096) number.fit).1 more in
    subst (ReadsParams pool_text form ws) is (record {
      text = number.text ∙ ap (λ l. decimal n.0 ∷ l) quotas.text;
      fits = pool_in_range (record { pages = n.0; quotas = qs.0 }) number.fit quotas.are;
      expressed = quotas.expressed;
    })))

pool_again : (form : Form) (p : PoolParams) (rest : List (List ℕ)) → is_in_range p ≡ true → Expresses pool_text form p → pool_params_at form (decimal p.pages ∷ quota_words form p.quotas ++ rest) ≡ Some (p, rest)
unfolding pool_params_at
pool_again form p rest fits expressed =
    let parts = pool_parts p fits in
    rw (limit_again MOST_PAGES p.pages (quota_words form p.quotas ++ rest) (omega arith) parts.0, quotas_again form p rest parts.1 expressed) refl

-- ---- their words

small_quota : (q : ℕ) → is_quota q ≡ true → q < 2 ^ 64
small_quota q fits = let most = leb-true q 4096 fits in omega (arith, most)

each_plain : (qs : List ℕ) → list_all is_quota qs ≡ true → AllByRecursion IsPlain (map decimal qs)
each_plain [] fits = tt
each_plain (q ∷ qs) fits = let both = and_parts (is_quota q) (list_all is_quota qs) fits in (plain_decimal q (small_quota q both.0), each_plain qs both.1)

each_le : (qs : List ℕ) → list_all is_quota qs ≡ true → long (map decimal qs) ≤ 21 * length qs
each_le [] fits = omega arith
each_le (q ∷ qs) fits = let both = and_parts (is_quota q) (list_all is_quota qs) fits in omega (arith, number_le q (small_quota q both.0), each_le qs both.1)

quotas_plain : (form : Form) (qs : List ℕ) → AreQuotas qs → AllByRecursion IsPlain (quota_words form qs)
quotas_plain One qs are = tt
quotas_plain Two qs are = each_plain qs are.each

quotas_le : (form : Form) (qs : List ℕ) → AreQuotas qs → long (quota_words form qs) ≤ 336
quotas_le One qs are = omega arith
quotas_le Two qs are = omega (arith, each_le qs are.each, are.count)

-- ---- settings

pub pool_laws : KindLaws pool_text
pool_laws = record {
  take = pool_take;
  again = pool_again;
  plain_word = search (rules, arith);
  plain = λ form p fits. let parts = pool_parts p fits in (plain_decimal p.pages (small_number p.pages 4096 (omega arith) parts.0), quotas_plain form p.quotas parts.1);
  short_word = omega arith;
  short = λ form p fits. let parts = pool_parts p fits in omega (arith, number_le p.pages (small_number p.pages 4096 (omega arith) parts.0), quotas_le form p.quotas parts.1);
}

-- ---- replies

pool_fits : (p : PoolParams) (s : PoolState) (c : PoolCall) → p.pages ≤ 4096 → IsPoolOf p s → reply_fits (of_pool (pool_answer s c).1) ≡ true
pool_fits = search (rules, position-Some, count_by-le-length, wide_fits)

-- by the law of a pool's states
pub pool_keeps : ((p : PoolParams) → IsPoolOf p (opening_state p)) → ((p : PoolParams) (s : PoolState) (c : PoolCall) → IsPoolOf p s → IsPoolOf p (pool_answer s c).0) → KindKeeps pool_text
pool_keeps opens stays = record {
  Good = λ p s. (p.pages ≤ 4096) × IsPoolOf p s;
  opens = λ p range. (search rules, opens p);
  keeps = λ p s c good fits. record { good = (good.0, stays p s c good.1); fits = pool_fits p s c good.0 good.1 };
}
