-- `cutter::state::Cutter::join` meets its contract: each answer of the header's tests has its law.
use Rattle.cutter.proofs.JoinLaws.{join_header, join_bad, join_more, join_whole}
use Rattle.cutter.proofs.state.Cutter.join.Goals as goal

pub returns-then-self-lt-HEADER_SIZE : goal.returns-then-self-lt-HEADER_SIZE
returns-then-self-lt-HEADER_SIZE c = join_header c.args.self.now c.requires.room c.requires.inside c.args.byte c.if-self-lt-HEADER_SIZE.true

pub returns-in_default : goal.returns-in_default
returns-in_default c = join_bad c.args.self.now c.requires.room c.requires.inside c.args.byte c.if-self-lt-HEADER_SIZE.false c.in_default.ensures

pub returns-then-self-size : goal.returns-then-self-size
returns-then-self-size c =
    join_more c.args.self.now c.requires.room c.requires.inside c.args.byte c.if-self-lt-HEADER_SIZE.false _ c.in-Some.ensures c.if-self-size.true

pub returns : goal.returns
returns c =
    join_whole c.args.self.now c.requires.room c.requires.inside c.args.byte c.if-self-lt-HEADER_SIZE.false _ c.in-Some.ensures c.if-self-size.false
