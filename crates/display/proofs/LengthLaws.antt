-- The link that a display holds has its 387 bytes of content: owning the display owns the link.
use mathlib.Core.Path.{◌≡◌}
use mathlib.Core.List.{List}
use lib.ListN.{length}
use denote.Laws.{Is}
use denote.Struct.Declared as declared
use denote.Struct.Laws as struct
use mir.Val.{Val}
use Rattle.frame.specs.Stuffing.{content_max}
use Rattle.link.proofs.LengthLaws.{whole_content}
use Rattle.display.specs.declared.Display.{Display}
use Rattle.display.specs.contracts.Display as display_type
use Rattle.display.proofs.Display.TheLaws as display_laws

pub whole_link : (display : Display) (vs : List Val) → Is (declared.row display_type.the_type) display vs → length display.link.content ≡ content_max
whole_link display vs p =
    let all = struct.owed display_type.the_type display_laws.the_laws display vs p in
    whole_content display.link _ all.0
