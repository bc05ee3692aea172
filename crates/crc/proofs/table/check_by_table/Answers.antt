-- `crc::table::check_by_table` meets its contract: the entries by the rule are computed here, and held to the table.
use Rattle.crc.specs.Crc.{shift_bit, shift_bits, add_byte, crc_of}
use Rattle.crc.proofs.TableLaws.{computed_table}
use Rattle.crc.proofs.table.check_by_table.Goals as goal

pub add_bytes-requires : goal.add_bytes-requires
unfolding crc_of add_byte shift_bits shift_bit
add_bytes-requires c = computed_table
