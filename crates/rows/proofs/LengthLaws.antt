-- A board has all its rows: owning an array says how long it is.
use Rattle.std.proofs.Common.{◌≡◌, List, length, arith}
use denote.Laws.{Is}
use denote.Struct.Declared as declared
use mir.Val.{Val}
use Rattle.rows.specs.declared.Board.{Board}
use Rattle.rows.specs.Rows.{row_count}
use Rattle.rows.specs.contracts.Board as board_type

pub board_rows : (board : Board) (vs : List Val) → Is (declared.row board_type.the_type) board vs → length board.rows ≡ row_count
board_rows board vs p = omega arith
