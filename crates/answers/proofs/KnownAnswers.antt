-- The known answers hold: both columns of the table compute to the same.
use mathlib.Core.Path.{◌≡◌, refl}
use mathlib.Core.List.{map}
use Rattle.slices.specs.Written.{fitted}
use Rattle.frame.specs.Writing.{write_content, write_frame}
use Rattle.frame.specs.Reading.{first_flag, flagged_bytes, read_frame}
use Rattle.rows.specs.Names.{used}
use Rattle.rows.specs.Rows.{change_at}
use Rattle.board.specs.Reading.{updated, applied, read_board}
use Rattle.link.specs.Reader.{step_of}
use Rattle.link.specs.Walk.{turn_of, walk_of}
use Rattle.link.specs.Closing.{acknowledgement, data_frame, frame_outcome}
use Rattle.link.specs.Receiving.{walk_call, receive_of}
use Rattle.display.specs.Display.{receive_piece}
use Rattle.answers.specs.Table.{Case, Result, table}
use Rattle.answers.proofs.Steps.{packet_steps, frame_steps, ledger_steps}

abbrev computed : Case → Result
computed c = c.computed

abbrev answer : Case → Result
answer c = c.answer

pub known_answers : map computed table ≡ map answer table
unfolding packet_steps frame_steps ledger_steps fitted write_content write_frame read_frame flagged_bytes first_flag acknowledgement receive_piece receive_of walk_call walk_of turn_of step_of frame_outcome data_frame read_board applied updated used change_at
known_answers = refl
