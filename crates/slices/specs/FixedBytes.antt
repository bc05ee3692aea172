-- Bytes in fixed memory: an array, and how many of its bytes are in use.
use Rattle.std.specs.Prelude.{ℕ, List, length, take, replicate}
use Rattle.slices.specs.Put.{put_at}
use Rattle.slices.specs.declared.fixed_bytes.FixedBytes.{FixedBytes}

-- a string in so much room: zeros behind it, and what passes the room is dropped. The length is the string's.
abbrev pub fixed_of : (room : ℕ) → List ℕ → FixedBytes room
fixed_of room string = record { length = length string; bytes = put_at (replicate room 0) 0 string }

-- the bytes that are in use: as many as the length says
abbrev pub shown : {room : ℕ} → FixedBytes room → List ℕ
shown f = take f.length f.bytes
