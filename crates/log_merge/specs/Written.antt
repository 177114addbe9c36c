-- How many events of each object were written.
use Rattle.std.specs.Prelude.{◌≡◌, ◌<◌, ℕ, List, length, slice_index}
use Rattle.event_log.specs.declared.entry.Run.{Run}
use Rattle.sound_run.specs.{declared.place.Place.Place, Orders.events_in}

-- of each number of a byte, as many events as the object of that number has among the places
pub record AreWritten {O P C R : Type 0} (run : Run O P C R) (places : List Place) (written : List ℕ) : Type 0 where
  pub room : length written ≡ 256
  pub counts : (x : ℕ) → x < 256 → slice_index written x ≡ events_in run places x
