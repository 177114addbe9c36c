-- The numbers that C gets as results, in digits. `enum mc2_result` of include/mc2_result.h has the same.
use Rattle.std.specs.Prelude.{◌≡◌}
use Rattle.cell_callers.specs.declared.report_codes.TheConstants.{DONE, AGAIN, ACQUIRED, ACQUIRED_BY_LOOK, RELEASED, REFUSED, BUSY, STEPPED, LOG_FULL, NOT_FOUND, NO_MEMORY, BAD_PARAM, DONE_HELD, LOG_FULL_HELD}

-- each result is this number, so no two are the same
pub record AreCodeNumbers : Type 0 where
  pub done : DONE ≡ 0
  pub again : AGAIN ≡ 1
  pub acquired : ACQUIRED ≡ 2
  pub acquired_by_look : ACQUIRED_BY_LOOK ≡ 3
  pub released : RELEASED ≡ 4
  pub refused : REFUSED ≡ 5
  pub busy : BUSY ≡ 6
  pub stepped : STEPPED ≡ 7
  pub log_full : LOG_FULL ≡ 8
  pub not_found : NOT_FOUND ≡ 9
  pub no_memory : NO_MEMORY ≡ 10
  pub bad_param : BAD_PARAM ≡ 11
  pub done_held : DONE_HELD ≡ 12
  pub log_full_held : LOG_FULL_HELD ≡ 13
