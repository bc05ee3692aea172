-- What the steps of the request writers answer. The proofs of the four requests tie these to the definitions of Requests.
use Rattle.std.specs.Prelude.{ℕ, cond, List, ◌∷◌, ◌++◌, length}
use Rattle.refusals.specs.Numbers.{bad_fragment}
use Rattle.slices.specs.Written.{Output, refused, fitted}
use Rattle.packet.specs.ItemTypes.{location_kind}
use Rattle.packet.specs.Packet.{with_head}
use Rattle.packet.specs.Names.{valid_location}

-- the bytes of a packet whose first item has the kind and the value, and whose other items have the bytes further
abbrev pub request_bytes : ℕ → ℕ → ℕ → List ℕ → List ℕ → List ℕ
request_bytes opcode id kind value further = with_head opcode id ((kind ∷ length value ∷ value) ++ further)

-- the two requests for a file: what both write of the location, and the bytes of the further items
unfoldable pub located_request : ℕ → ℕ → List ℕ → List ℕ → ℕ → Output
located_request opcode id location further room =
    cond (valid_location location) (fitted room (request_bytes opcode id location_kind location further)) (refused bad_fragment)
