use Rattle.history.specs.Lines.{reply_word}
use Rattle.history.specs.Numbers.{hex_byte}
use Rattle.history.proofs.LineLaws.{line_begins, line_goes_on, line_ends}
use Rattle.history.proofs.lines.reply.Goals as goal

pub loop-byte-init : goal.loop-byte-init
loop-byte-init c = line_begins hex_byte reply_word c.args.bytes.now c.args.out.now c.append-place.ensures

pub loop-byte-preserved : goal.loop-byte-preserved
loop-byte-preserved c =
    line_goes_on hex_byte reply_word c.args.bytes.now c.args.out.now c.loop-byte.invariant c.loop-byte-test.true c.hex-place.ensures

pub returns : goal.returns
returns c = line_ends hex_byte reply_word c.args.bytes.now c.args.out.now c.loop-byte.invariant c.loop-byte-test.false c.append.ensures
