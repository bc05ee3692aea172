-- The definitions that a known answer computes through, named once: where one of these is unfolded, all that its own line names is.
use Rattle.slices.specs.Each.{each}
use Rattle.slices.specs.Same.{same_bytes}
use Rattle.crc.specs.Crc.{shift_bit, shift_bits, add_byte, crc_of}
use Rattle.frame.specs.Stuffing.{unstuff_from, unstuff}
use Rattle.frame.specs.Content.{content_of, judged}
use Rattle.frame.specs.Writing.{framed}
use Rattle.frame.specs.Reading.{read_run}
use Rattle.packet.specs.Names.{between, is_letter, is_name_byte, all_name_bytes, valid_name}
use Rattle.packet.specs.Items.{in_front, items_up_to, items_filling, empty_if_eof, eofs_empty, if_eofs_empty, items_of, count_of, head_of, first_of, behind_of}
use Rattle.packet.specs.Packet.{is_data, with_items, packet_of}
use Rattle.rows.specs.Names.{place_from}
use Rattle.value.specs.Value.{number_of, value_of}
use Rattle.board.specs.Reading.{value_of_item, with_value, with_name, update_of, verdict_of_items, verdict_of, if_watched, reading_of}
use Rattle.ledger.specs.Ledger.{more_at, updated}
use Rattle.ledger.specs.Frames.{turn, taken, frame_of}
use Rattle.ledger.specs.Calls.{step, after}

-- how the board reads a packet
unfoldable pub packet_steps : Unit {0}
unfolding reading_of if_watched verdict_of with_name with_value value_of_item update_of verdict_of_items value_of number_of place_from same_bytes packet_of is_data with_items items_of if_eofs_empty items_filling items_up_to in_front eofs_empty empty_if_eof count_of first_of behind_of head_of valid_name between is_letter is_name_byte all_name_bytes
packet_steps = tt

-- how a frame is written and read
unfoldable pub frame_steps : Unit {0}
unfolding crc_of add_byte shift_bits shift_bit each content_of framed unstuff_from unstuff judged read_run
frame_steps = tt

-- what a call does to the ledger
unfoldable pub ledger_steps : Unit {0}
unfolding turn taken frame_of step after more_at updated
ledger_steps = tt
