-- The link has its 387 bytes of content and the counts their six refusals: owning an array says how long it is.
use Rattle.std.proofs.Common.{◌≡◌, List, length, arith}
use denote.Laws.{Is}
use denote.Struct.Declared as declared
use mir.Val.{Val}
use Rattle.frame.specs.Stuffing.{content_max}
use Rattle.link.specs.declared.counts.Counts.{Counts}
use Rattle.link.specs.declared.receiver.Link.{Link}
use Rattle.link.specs.contracts.counts.Counts as counts_type
use Rattle.link.specs.contracts.receiver.Link as link_type

pub six_refusals : (counts : Counts) (vs : List Val) → Is (declared.row counts_type.the_type) counts vs → length counts.refused ≡ 6
six_refusals counts vs p = omega arith

pub whole_content : (state : Link) (vs : List Val) → Is (declared.row link_type.the_type) state vs → length state.content ≡ content_max
whole_content state vs p = omega arith
