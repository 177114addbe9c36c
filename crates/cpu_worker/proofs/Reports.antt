-- The sums of entries, one entry and one transcript after another, and the lines of a report.
use Rattle.std.proofs.{Common.{◌≡◌, ℕ, ◌+◌, ◌-◌, ◌*◌, ◌^◌, ◌<◌, ◌≤◌, min, max, suc, add-zero, cond, eqb, List, [], ◌∷◌, ◌++◌, map, length, take, get_or, sym, ap, ◌∙◌, arith}, lemmas.List.{length-append, map-append, take_more, length-take, take_all, flat_map_more}, lemmas.List.Sums.{fold-append, sum_by-append, length-filter, count_by-le-length}, lemmas.List.Elements.filter-append, lemmas.List.Folds.length-flat_map-take}
use Rattle.std.specs.List.{fold, sum, count_by, enumerate_from, AllByRecursion}
use Rattle.kernel_object.specs.KernelTypes.{KernelEntry}
use Rattle.kernel_words.specs.declared.form.TheConstants.{WRITTEN}
use Rattle.records.specs.{RecordRanges.{Record, RecordFits, TranscriptFits}, Settings.ObjectSettings}
use Rattle.record_lines.specs.Words.{sentence, text_of_lines}
use Rattle.sound_run.specs.declared.limits.TheConstants.{MOST_CPUS}
use Rattle.cpu_worker.specs.{declared.sums.Sums.Sums, Report.{all_entries, entries_on, lacks_room, greatest, sums_of, joined, object_words, objects_words, run_words, report_text}}

-- ---- the sums of two lists together
greatest_from : (a : ℕ) (ns : List ℕ) → fold (λ most n. max most n) a ns ≡ max a (greatest ns)
greatest_from a [] = omega arith
greatest_from a (n ∷ ns) =
    let first : fold (λ most n. max most n) (max a n) ns ≡ max (max a n) (greatest ns) = greatest_from (max a n) ns in
    let alone : fold (λ most n. max most n) (max 0 n) ns ≡ max (max 0 n) (greatest ns) = greatest_from (max 0 n) ns in
    omega (arith, first, alone)

greatest-append : (ms ns : List ℕ) → greatest (ms ++ ns) ≡ max (greatest ms) (greatest ns)
greatest-append ms ns = fold-append (λ most n. max most n) 0 ms ns ∙ greatest_from (greatest ms) ns

stays_joined : (most a b : ℕ) → min (a + b) most ≡ min (min a most + min b most) most
stays_joined most a b = omega arith

looks_joined : (xs ys : List KernelEntry)
    → min (sum (map (λ e. e.looks) (xs ++ ys))) (2 ^ 64 - 1)
    ≡ min (min (sum (map (λ e. e.looks) xs)) (2 ^ 64 - 1) + min (sum (map (λ e. e.looks) ys)) (2 ^ 64 - 1)) (2 ^ 64 - 1)
looks_joined xs ys =
    ap (λ ns. min (sum ns) (2 ^ 64 - 1)) (map-append (λ (e : KernelEntry). e.looks) xs ys)
    ∙ (ap (λ n. min n (2 ^ 64 - 1)) (sum_by-append (λ n. n) (map (λ (e : KernelEntry). e.looks) xs) (map (λ (e : KernelEntry). e.looks) ys))
    ∙ stays_joined (2 ^ 64 - 1) (sum (map (λ (e : KernelEntry). e.looks) xs)) (sum (map (λ (e : KernelEntry). e.looks) ys)))

pub sums_joined : (xs ys : List KernelEntry) → sums_of (xs ++ ys) ≡ joined (sums_of xs) (sums_of ys)
sums_joined xs ys =
    let entries : length (xs ++ ys) ≡ length xs + length ys = length-append xs ys in
    let noroom : count_by (λ (e : KernelEntry). lacks_room e.done) (xs ++ ys) ≡ count_by (λ (e : KernelEntry). lacks_room e.done) xs + count_by (λ (e : KernelEntry). lacks_room e.done) ys = sum_by-append (λ (e : KernelEntry). cond (lacks_room e.done) 1 0) xs ys in
    let looks = looks_joined xs ys in
    let most : greatest (map (λ (e : KernelEntry). e.looks) (xs ++ ys)) ≡ max (greatest (map (λ (e : KernelEntry). e.looks) xs)) (greatest (map (λ (e : KernelEntry). e.looks) ys)) = ap greatest (map-append (λ (e : KernelEntry). e.looks) xs ys) ∙ greatest-append (map (λ (e : KernelEntry). e.looks) xs) (map (λ (e : KernelEntry). e.looks) ys) in
    cc

-- ---- room for one more
entries_on-le : (place : ℕ) (entries : List KernelEntry) → length (entries_on place entries) ≤ length entries
entries_on-le place entries =
    let count = length-filter (λ (e : KernelEntry). eqb e.object place) entries in
    let few = count_by-le-length (λ (e : KernelEntry). eqb e.object place) entries in
    omega (arith, count, few)

noroom-le : (entries : List KernelEntry) → (sums_of entries).noroom ≤ length entries
noroom-le entries = count_by-le-length (λ (e : KernelEntry). lacks_room e.done) entries

-- the counts stay within 64 bits when so many entries follow
pub record CountsFit (s : Sums) (more : ℕ) : Type 0 where
  pub entries : s.entries + more < 2 ^ 64
  pub noroom : s.noroom + more < 2 ^ 64

pub room_for_entry : (s : Sums) (place : ℕ) (entries : List KernelEntry) (i : ℕ) → i < length entries → s.entries + length entries < 2 ^ 64 → s.noroom + length entries < 2 ^ 64
    → CountsFit (joined s (sums_of (entries_on place (take i entries)))) 1
room_for_entry s place entries i h room room_too =
    let on = entries_on-le place (take i entries) in
    let without = noroom-le (entries_on place (take i entries)) in
    let some = length-take i entries in
    record { entries = omega (arith, on, some); noroom = omega (arith, on, without, some) }

-- ---- one more transcript
pub all_entries_more : (transcripts : List (List KernelEntry)) (i : ℕ) (t : List KernelEntry) → i < length transcripts → t ≡ get_or transcripts i t
    → all_entries (take (i + 1) transcripts) ≡ all_entries (take i transcripts) ++ t
all_entries_more transcripts i t h is =
    ap all_entries (take_more transcripts i t h ∙ ap (λ x. take i transcripts ++ x ∷ []) (sym is))
    ∙ sym (flat_map_more (λ x. x) [] (take i transcripts) t)

pub transcript_joined : (place : ℕ) (transcripts : List (List KernelEntry)) (i : ℕ) (t : List KernelEntry) → i < length transcripts → t ≡ get_or transcripts i t
    → joined (sums_of (entries_on place (all_entries (take i transcripts)))) (sums_of (entries_on place t)) ≡ sums_of (entries_on place (all_entries (take (i + 1) transcripts)))
transcript_joined place transcripts i t h is =
    sym (sums_joined (entries_on place (all_entries (take i transcripts))) (entries_on place t))
    ∙ ap sums_of (sym (ap (entries_on place) (all_entries_more transcripts i t h is) ∙ filter-append (λ (e : KernelEntry). eqb e.object place) (all_entries (take i transcripts)) t))

-- the entries so far and those of this transcript are among all
pub within_all : (transcripts : List (List KernelEntry)) (i : ℕ) (t : List KernelEntry) → i < length transcripts → t ≡ get_or transcripts i t
    → length (all_entries (take i transcripts)) + length t ≤ length (all_entries transcripts)
within_all transcripts i t h is =
    let all = length-flat_map-take (λ (x : List KernelEntry). x) transcripts i t h in
    let same : length t ≡ length (get_or transcripts i t) = ap length is in
    omega (arith, all, same)

pub room_for_transcript : (place : ℕ) (transcripts : List (List KernelEntry)) (i : ℕ) (t : List KernelEntry) → i < length transcripts → t ≡ get_or transcripts i t
    → length (all_entries transcripts) < 2 ^ 64 → CountsFit (sums_of (entries_on place (all_entries (take i transcripts)))) (length t)
room_for_transcript place transcripts i t h is few =
    let all = within_all transcripts i t h is in
    let on = entries_on-le place (all_entries (take i transcripts)) in
    let without = noroom-le (entries_on place (all_entries (take i transcripts))) in
    record { entries = omega (arith, all, on); noroom = omega (arith, all, on, without) }

-- ---- how many entries a record has
few_of : (objects : ℕ) (transcripts : List (List KernelEntry)) → AllByRecursion (TranscriptFits WRITTEN objects) transcripts → length (all_entries transcripts) ≤ length transcripts * 10000
few_of objects [] fit = omega arith
few_of objects (t ∷ ts) fit =
    let here : length t ≤ 10000 = fit.0.0 in
    let rest : length (all_entries ts) ≤ length ts * 10000 = few_of objects ts fit.1 in
    let whole : length (t ++ all_entries ts) ≡ length t + length (all_entries ts) = length-append t (all_entries ts) in
    omega (arith, here, rest, whole)

pub few_entries : (r : Record) → RecordFits r → length (all_entries r.run.transcripts) < 2 ^ 64
few_entries r fit =
    let few = few_of (length r.settings.objects) r.run.transcripts fit.1.transcripts in
    let count : length r.run.transcripts ≡ r.settings.cpus = fit.1.transcript_count in
    let cpus : r.settings.cpus ≤ MOST_CPUS = fit.0.cpus.1 in
    omega (arith, few, count, cpus)

-- ---- the lines
enumerate_push : (n : ℕ) (os : List ObjectSettings) (o : ObjectSettings) → enumerate_from n (os ++ o ∷ []) ≡ enumerate_from n os ++ (n + length os, o) ∷ []
enumerate_push n [] o = ap (λ k. (k, o) ∷ []) (sym (add-zero n))
enumerate_push n (x ∷ os) o =
    let place : n + 1 + length os ≡ n + suc (length os) = omega arith in
    ap (λ l. (n, x) ∷ l) (enumerate_push (n + 1) os o ∙ ap (λ k. enumerate_from (n + 1) os ++ (k, o) ∷ []) place)

-- the text of lines of words
abbrev pub text_of_words : List (List (List ℕ)) → List ℕ
text_of_words lines = text_of_lines (map sentence lines)

pub line_more : (lines : List (List (List ℕ))) (words : List (List ℕ)) → text_of_words (lines ++ words ∷ []) ≡ text_of_words lines ++ (sentence words ++ 10 ∷ [])
line_more lines words =
    ap text_of_lines (map-append sentence lines (words ∷ []))
    ∙ sym (flat_map_more (λ (line : List ℕ). line ++ 10 ∷ []) [] (map sentence lines) (sentence words))

pub object_more : (entries : List KernelEntry) (objects : List ObjectSettings) (i : ℕ) (o : ObjectSettings) → i < length objects → o ≡ get_or objects i o
    → text_of_words (objects_words entries (take (i + 1) objects)) ≡ text_of_words (objects_words entries (take i objects)) ++ (sentence (object_words o (sums_of (entries_on i entries))) ++ 10 ∷ [])
object_more entries objects i o h is =
    let words = λ (p : ℕ × ObjectSettings). object_words p.1 (sums_of (entries_on p.0 entries)) in
    let place : 0 + length (take i objects) ≡ i = omega (arith, length-take i objects) in
    let front : enumerate_from 0 (take (i + 1) objects) ≡ enumerate_from 0 (take i objects) ++ (i, o) ∷ [] =
    ap (enumerate_from 0) (take_more objects i o h ∙ ap (λ x. take i objects ++ x ∷ []) (sym is))
    ∙ (enumerate_push 0 (take i objects) o ∙ ap (λ k. enumerate_from 0 (take i objects) ++ (k, o) ∷ []) place) in
    ap (λ ps. text_of_words (map words ps)) front
    ∙ (ap text_of_words (map-append words (enumerate_from 0 (take i objects)) ((i, o) ∷ []))
    ∙ line_more (objects_words entries (take i objects)) (words (i, o)))

pub report_whole : (r : Record) (transcripts : List (List KernelEntry)) (objects : List ObjectSettings) (place : ℕ) (front text : List ℕ) (cpus count : ℕ)
    → transcripts ≡ r.run.transcripts → objects ≡ r.settings.objects → length objects ≤ place
    → front ≡ text_of_words (objects_words (all_entries transcripts) (take place objects))
    → cpus ≡ r.settings.cpus → count ≡ length (all_entries transcripts) → text ≡ front ++ (sentence (run_words cpus count) ++ 10 ∷ []) → text ≡ report_text r
unfolding report_text
report_whole r transcripts objects place front text cpus count ts os all so_far n k last =
    let lines = λ (entries : List KernelEntry) (o : List ObjectSettings) (words : List (List ℕ)). text_of_words (objects_words entries o ++ words ∷ []) in
    let whole : front ≡ text_of_words (objects_words (all_entries transcripts) objects) = so_far ∙ ap (λ o. text_of_words (objects_words (all_entries transcripts) o)) (take_all place objects all) in
    let reported : text ≡ lines (all_entries transcripts) objects (run_words cpus count) =
    last ∙ (ap (λ bs. bs ++ (sentence (run_words cpus count) ++ 10 ∷ [])) whole ∙ sym (line_more (objects_words (all_entries transcripts) objects) (run_words cpus count))) in
    reported
    ∙ (ap (λ m. lines (all_entries transcripts) objects (run_words m count)) n
    ∙ (ap (λ m. lines (all_entries transcripts) objects (run_words r.settings.cpus m)) k
    ∙ (ap (λ o. lines (all_entries transcripts) o (run_words r.settings.cpus (length (all_entries transcripts)))) os
    ∙ ap (λ t. lines (all_entries t) r.settings.objects (run_words r.settings.cpus (length (all_entries t)))) ts)))
