-- `jobs::whole_input::put_by` meets its contract: the record piece is the front of the text.
use native.Mathlib.Omega.{arith}
use Rattle.jobs.proofs.Works.{is_ok, salvage_puts, count_fits}
use Rattle.jobs.proofs.whole_input.put_by.Goals as goal

pub unwrap-records-requires : goal.unwrap-records-requires
unwrap-records-requires c = is_ok c.requires _ c.salvage.ensures.result_value

pub overflow_mul-result : goal.overflow_mul-result
overflow_mul-result c = omega (arith, count_fits c.requires _ c.salvage.ensures.result_value c.unwrap-records.ensures)

pub returns : goal.returns
returns c = salvage_puts c.requires _ c.salvage.ensures.result_value c.unwrap-records.ensures c.salvage.ensures.records_after
