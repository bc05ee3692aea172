-- `history::lines::reply` meets its contract: each turn appends a byte in hex.
use Rattle.history.specs.Lines.{reply_word}
use Rattle.history.specs.Numbers.{hex_byte}
use Rattle.history.proofs.LineLaws.{Line}
use Rattle.history.proofs.lines.reply.Given as goal

abbrev pub invariant-loop-byte : goal.invariant-loop-byte
invariant-loop-byte l = Line hex_byte reply_word l.bytes l.fn.out l.byte-index l.out l.place
