-- Which refusal each cause becomes, and the status that a program ends with.
use Rattle.std.specs.Prelude.{ℕ, Bool, true, false}
use Rattle.event_log.specs.declared.object.OutOfMemory.{OutOfMemory}
use Rattle.program.specs.{declared.file_names.BadName.BadName, declared.refusal.Refusal.Refusal}
use Rattle.scripts.specs.{declared.schedule.ScheduleFault.ScheduleFault, declared.settings.fault.SettingsFault.SettingsFault}
use Rattle.record_lines.specs.{declared.streams.text_writer.WriteFailed.WriteFailed, declared.text.fault.TextFault.TextFault}
use Rattle.program.specs.declared.refusal.Refusal.TheVariants as refusal
use Rattle.scripts.specs.declared.schedule.ScheduleFault.TheVariants as schedule
use Rattle.scripts.specs.declared.settings.fault.SettingsFault.TheVariants as settings
use Rattle.record_lines.specs.declared.text.fault.TextFault.TheVariants as text

abbrev pub of_memory : OutOfMemory → Refusal
of_memory e = refusal.OutOfMemory

abbrev pub of_write : WriteFailed → Refusal
of_write e = refusal.WriteFailed

abbrev pub of_settings : SettingsFault → Refusal
of_settings settings.OutOfMemory = refusal.OutOfMemory
of_settings (settings.Refused bad) = refusal.BadSettings bad

abbrev pub of_scripts : TextFault → Refusal
of_scripts text.OutOfMemory = refusal.OutOfMemory
of_scripts text.ReadFailed = refusal.ReadFailed
of_scripts (text.BadLine n) = refusal.BadScripts n

abbrev pub of_schedule : ScheduleFault → Refusal
of_schedule schedule.OutOfMemory = refusal.OutOfMemory
of_schedule (schedule.Word n) = refusal.BadSchedule n

abbrev pub of_record : TextFault → Refusal
of_record text.OutOfMemory = refusal.OutOfMemory
of_record text.ReadFailed = refusal.ReadFailed
of_record (text.BadLine n) = refusal.BadRecord n

abbrev pub of_name : BadName → Refusal
of_name e = refusal.BadWords

-- 2 for what the caller wrote, 3 for what the machine refused
abbrev pub status_of : Refusal → ℕ
status_of refusal.OutOfMemory = 3
status_of (refusal.BadSettings bad) = 2
status_of (refusal.BadScripts n) = 2
status_of (refusal.BadSchedule n) = 2
status_of (refusal.BadRecord n) = 2
status_of refusal.ReadFailed = 3
status_of refusal.WriteFailed = 3
status_of refusal.BadWords = 2

-- the refusal reports that an opening or a read failed
abbrev pub reports_read_failed : Refusal → Bool
reports_read_failed refusal.ReadFailed = true
reports_read_failed _ = false
