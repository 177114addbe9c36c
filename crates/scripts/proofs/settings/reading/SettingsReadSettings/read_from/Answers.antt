use Rattle.std.proofs.Common.{◌<◌, ◌≤◌, length, ap, sym, subst, arith}
use Rattle.scripts.specs.declared.settings.reading.TheConstants.{MOST_SETTINGS_BYTES}
use Rattle.record_lines.specs.Sources.{IsRest}
use Rattle.scripts.proofs.SettingsReading.{settings_names, long_refused}
use Rattle.scripts.proofs.settings.reading.SettingsReadSettings.read_from.Goals as goal

pub returns-then-len-gt-MOST_SETTINGS_BYTES-clause-fault : goal.returns-then-len-gt-MOST_SETTINGS_BYTES-clause-fault
returns-then-len-gt-MOST_SETTINGS_BYTES-clause-fault g c =
    let long : MOST_SETTINGS_BYTES < length c.in-Ok.bytes.items = (let over = c.if-len-gt-MOST_SETTINGS_BYTES.true in omega (arith, over, c.len.ensures)) in
    rw (c.not_toml.ensures) (long_refused _ _ c.in-Ok.bytes.items c.in-Ok.ensures.front long)

pub returns-clause-fault : goal.returns-clause-fault
returns-clause-fault g c =
    let few : length c.in-Ok.bytes.items ≤ MOST_SETTINGS_BYTES = (let within = c.if-len-gt-MOST_SETTINGS_BYTES.false in omega (arith, within, c.len.ensures)) in
    let rest = subst (IsRest (g.S.Source.remaining c.args.source.now)) (sym c.as_slice.ensures.value) (c.in-Ok.ensures.whole (omega (arith, few))) in
    settings_names _ c.as_slice.result.now c.in-Err.fault rest (omega (arith, few, ap length c.as_slice.ensures.value)) c.in-Err.ensures.fault
