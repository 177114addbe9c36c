-- What settings of a TOML table are: within all limits.
use Rattle.std.proofs.{Common.{◌≡◌, ℕ, ◌+◌, ◌≤◌, true, false, ◌&&◌, nat_le, List, [], ◌∷◌, ◌++◌, length, length-append, Ok, Err, refl, sym, ◌∙◌, subst, arith, if◌then◌else◌, bytes_eq}, lemmas.Bool.{and_parts, leb-true}}
use Rattle.std.specs.List.{list_any}
use Rattle.event_log.proofs.Each.{all_push}
use Rattle.toml.specs.Data.{Data, Items, no_items, item, Members, as_str, as_array, as_table}
use Rattle.sound_run.specs.{declared.limits.TheConstants.MOST_CPUS, declared.limits.TheConstants.MOST_CELLS}
use Rattle.event_log.specs.declared.logged.TheConstants.{MOST_EVENTS}
use Rattle.kernel_object.specs.{declared.call.KParams.KParams, declared.kind.Kind.Kind, Kernel.kernel_in_range, Kinds.All.params_of}
use Rattle.kernel_object.proofs.KindLaws.{by_kind_is}
use Rattle.kernel_words.specs.declared.form.TheConstants.{WRITTEN}
use Rattle.scripts.specs.{declared.settings.fault.SettingsPlace.SettingsPlace, declared.settings.fault.SettingsPlace.TheVariants.{Top, Object}, KindKeys.All.keys_by, SettingsKeys.{number_from, count_items, key_in, has_only}, SettingsText.{name_from, items_from, kind_from, lock_from, keys_of, params_by, params_in, object_in, object_from, objects_from, settings_in}}
use Rattle.records.specs.Settings.{Settings, ObjectSettings, ObjectFits, SettingsFit}
use Rattle.record_lines.specs.Names.{is_name}
use Rattle.scripts.proofs.{KindKeyLaws.sets_in_range, SettingsKeys.{bind_ok, key_ok, map_or_ok, if_ok, if_not, number_in}}
use Rattle.kernel_words.proofs.ParameterLaws.{range_of}
use Rattle.records.proofs.JoinedObjects.{Joins, differ_more, AreObjects}
use Rattle.scripts.specs.declared.settings.fault.SettingsKey.TheVariants as Key

-- ---- values

name_ok : (earlier : List ObjectSettings) (d : Data) (s : List ℕ) → name_from earlier d ≡ Ok s → (is_name s ≡ true) × (list_any (λ o. bytes_eq o.name s) earlier ≡ false)
unfolding name_from
name_ok earlier d s e =
    let there = map_or_ok (as_str d) _ _ s e in
    let named = if_ok (is_name there.0) (if list_any (λ o. bytes_eq o.name there.0) earlier then Err _ else Ok there.0) _ s there.2 in
    let fresh = if_not (list_any (λ o. bytes_eq o.name there.0) earlier) (Ok there.0) _ s named.1 in
    let same : there.0 ≡ s = cc in
    subst (λ t. (is_name t ≡ true) × (list_any (λ o. bytes_eq o.name t) earlier ≡ false)) same (named.0, fresh.0)

items_ok : (d : Data) (ds : Items) → items_from d ≡ Ok ds → (1 ≤ count_items ds) × (count_items ds ≤ MOST_CELLS)
unfolding items_from
items_ok d ds e =
    let there = map_or_ok (as_array d) _ _ ds e in
    let test = if_ok (nat_le 1 (count_items there.0) && nat_le (count_items there.0) MOST_CELLS) (Ok there.0) _ ds there.2 in
    let both = and_parts (nat_le 1 (count_items there.0)) (nat_le (count_items there.0) MOST_CELLS) test.0 in
    let same : there.0 ≡ ds = cc in
    subst (λ x. (1 ≤ count_items x) × (count_items x ≤ MOST_CELLS)) same (leb-true 1 (count_items there.0) both.0, leb-true (count_items there.0) MOST_CELLS both.1)

-- ---- parameters

params_ok : (place : SettingsPlace) (kind : Kind) (ms : Members) (p : KParams) → params_in place kind ms ≡ Ok p → kernel_in_range p ≡ true
unfolding params_in
params_ok place kind ms p e =
    let there = bind_ok ((keys_by kind).params_in place ms) _ p (sym (by_kind_is (params_by place ms) kind) ∙ e) in
    let same : params_of kind there.0 ≡ p = cc in
    subst (λ q. kernel_in_range q ≡ true) same (range_of kind there.0 (sets_in_range kind place ms there.0 there.1))

-- ---- objects

object_in_ok : (place : SettingsPlace) (earlier : List ObjectSettings) (ms : Members) (o : ObjectSettings) → object_in place earlier ms ≡ Ok o → Joins WRITTEN earlier o
unfolding object_in
object_in_ok place earlier ms o e =
    let name = bind_ok (key_in place Key.Name (name_from earlier) ms) _ o e in
    let kind = bind_ok (key_in place Key.Kind kind_from ms) _ o name.2 in
    let lock = bind_ok (key_in place Key.Lock lock_from ms) _ o kind.2 in
    let events = bind_ok (key_in place Key.Events (number_from MOST_EVENTS) ms) _ o lock.2 in
    let params = bind_ok (params_in place kind.0 ms) _ o events.2 in
    let end = if_ok (has_only (keys_of kind.0) ms) _ _ o params.2 in
    let same : record { name = name.0; lock = lock.0; events = events.0; params = params.0 } ≡ o = cc in
    let read = key_ok place Key.Name (name_from earlier) ms name.0 name.1 in
    let named = name_ok earlier read.0 name.0 read.1 in
    subst (Joins WRITTEN earlier) same (record { name = named.0; events = number_in place Key.Events MOST_EVENTS ms events.0 events.1; params = params_ok place kind.0 ms params.0 params.1; expressed = tt }, named.1)

object_ok : (earlier : List ObjectSettings) (d : Data) (o : ObjectSettings) → object_from earlier d ≡ Ok o → Joins WRITTEN earlier o
unfolding object_from
object_ok earlier d o e = let there = map_or_ok (as_table d) _ _ o e in object_in_ok (Object (length earlier + 1)) earlier there.0 o there.2

-- ---- names

objects_ok : (ds : Items) (earlier os : List ObjectSettings) (n : ℕ) → AreObjects n earlier → objects_from earlier ds ≡ Ok os → AreObjects (n + count_items ds) os
unfolding objects_from
objects_ok no_items earlier os n are e =
    let same : earlier ≡ os = cc in
    subst (AreObjects (n + 0)) same (record { count_is = omega (arith, are.count_is); each = are.each; names = are.names })
objects_ok (item d ds) earlier os n are e =
    let there = bind_ok (object_from earlier d) _ os e in
    let joins = object_ok earlier d there.0 there.1 in
    let more : AreObjects (n + 1) (earlier ++ there.0 ∷ []) = record { count_is = omega (arith, length-append earlier (there.0 ∷ []), are.count_is); each = all_push (ObjectFits WRITTEN) earlier there.0 are.each joins.0; names = differ_more earlier there.0 are.names joins.1 } in
    let all = objects_ok ds (earlier ++ there.0 ∷ []) os (n + 1) more there.2 in
    subst (λ m. AreObjects m os) (omega arith) all

-- ---- settings

-- what a table spells is within all limits
pub settings_fit : (ms : Members) (s : Settings) → settings_in ms ≡ Ok s → SettingsFit s
unfolding settings_in
settings_fit ms s e =
    let cpus = bind_ok (key_in Top Key.Cpus (number_from MOST_CPUS) ms) _ s e in
    let items = bind_ok (key_in Top Key.Object items_from ms) _ s cpus.2 in
    let objects = bind_ok (objects_from [] items.0) _ s items.2 in
    let end = if_ok (has_only (Key.Cpus ∷ Key.Object ∷ []) ms) _ _ s objects.2 in
    let same : record { cpus = cpus.0; objects = objects.0 } ≡ s = cc in
    let read = key_ok Top Key.Object items_from ms items.0 items.1 in
    let counted = items_ok read.0 items.0 read.1 in
    let none : AreObjects 0 [] = record { count_is = refl; each = tt; names = λ i j li. absurd (omega (arith, li)) } in
    let are = objects_ok items.0 [] objects.0 0 none objects.1 in
    subst SettingsFit same (record {
      cpus = number_in Top Key.Cpus MOST_CPUS ms cpus.0 cpus.1;
      count = (omega (arith, are.count_is, counted.0), omega (arith, are.count_is, counted.1));
      each = are.each;
      names = are.names;
    })
