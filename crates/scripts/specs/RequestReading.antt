-- Reading a line of the scripts from left to right. The laws in proofs/ tie this to the text.
use Rattle.std.specs.Prelude.{ℕ, List, Option, Some, None, if◌then◌else◌, ◌-◌, ◌&&◌, nat_lt}
use Rattle.scripts.specs.ScriptText.{Request}
use Rattle.record_lines.specs.{Reading.{◌>>=◌, number_at}, LineParts.{is_nil, list_at}}
use Rattle.records.specs.{Settings.Settings, RecordReading.place_at}
use Rattle.kernel_words.specs.ItemReading.{call_at}

-- all words, as an entry of the scripts
unfoldable pub request_at : Settings → List (List ℕ) → Option Request
request_at settings ws = do
  cpu ← number_at 255 ws
  object ← place_at settings.objects cpu.1
  calls ← list_at call_at object.1
  if nat_lt cpu.0 settings.cpus && is_nil calls.1 then Some (record { cpu = cpu.0; todo = record { object = object.0; calls = record { items = calls.0 } } }) else None
