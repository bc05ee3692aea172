-- A frame is written in parts: flag, stuffed parts of the content one behind the other, flag.
use mathlib.Core.Path.{◌≡◌, ap, ◌∙◌}
use mathlib.Core.List.{List, [], ◌∷◌, ◌++◌}
use Prim.Native.Nat.{ℕ, suc, ◌+◌, ◌≤◌, ◌<◌}
use native.Mathlib.Omega.{arith}
use lib.ListN.{length, set, length-append}
use borrow.Author.Tests.{lt-ltb, le-ltb}
use Rattle.refusals.specs.Numbers.{short_output, long_payload}
use Rattle.slices.specs.Written.{written, refused}
use Rattle.slices.specs.Put.{put_at}
use Rattle.slices.proofs.EachLaws.{each_append}
use Rattle.slices.proofs.PutLaws.{put_append}
use Rattle.slices.proofs.WrittenLaws.{too_little_room, room_enough}
use Rattle.crc.specs.Crc.{link_start, crc_of, check_bytes}
use Rattle.crc.proofs.CrcLaws.{crc_append}
use Rattle.frame.specs.Stuffing.{flag_byte, stuff_byte, stuff}
use Rattle.frame.specs.Content.{payload_max, content_of}
use Rattle.frame.specs.Writing.{framed, write_content, write_frame}

-- the check over the whole body goes on from that of its first two bytes
pub content_parts : (kind sequence : ℕ) (payload : List ℕ)
    → content_of kind sequence payload ≡ (kind ∷ sequence ∷ []) ++ payload ++ check_bytes (crc_of (crc_of link_start (kind ∷ sequence ∷ [])) payload)
unfolding content_of
content_parts kind sequence payload =
    ap (λ (n : ℕ). (kind ∷ sequence ∷ payload) ++ check_bytes n) (crc_append link_start (kind ∷ sequence ∷ []) payload)

-- the stuffed parts of content in three parts
stuff_parts : (a b c : List ℕ) → stuff (a ++ b ++ c) ≡ stuff a ++ stuff b ++ stuff c
stuff_parts a b c = each_append stuff_byte (a ++ b) c ∙ ap (λ (l : List ℕ). l ++ stuff c) (each_append stuff_byte a b)

-- two flags beside the stuffed content
pub length_framed : (content : List ℕ) → length (framed content) ≡ 2 + length (stuff content)
unfolding framed
length_framed content =
    let closing : length (stuff content ++ (flag_byte ∷ [])) ≡ length (stuff content) + 1 = length-append (stuff content) (flag_byte ∷ []) in
    ap suc closing ∙ omega arith

pub framed_length : (a b c : List ℕ)
    → length (framed (a ++ b ++ c)) ≡ 2 + length (stuff a) + length (stuff b) + length (stuff c)
framed_length a b c =
    let all = ap length (stuff_parts a b c) ∙ length-append (stuff a ++ stuff b) (stuff c) in
    let two = length-append (stuff a) (stuff b) in
    length_framed (a ++ b ++ c) ∙ omega (arith, all, two)

-- the stores of the parts, one behind the other, are the whole frame put at the start
pub assembled : (out a b c : List ℕ) (at_b at_c end : ℕ) (one two three : List ℕ)
    → at_b ≡ 1 + length (stuff a) → at_c ≡ at_b + length (stuff b) → end ≡ at_c + length (stuff c)
    → one ≡ put_at (set out 0 flag_byte) 1 (stuff a) → two ≡ put_at one at_b (stuff b) → three ≡ put_at two at_c (stuff c)
    → set three end flag_byte ≡ put_at out 0 (framed (a ++ b ++ c))
unfolding framed
assembled out a b c at_b at_c end one two three p q r first second third =
    let sa = stuff a in
    let sb = stuff b in
    let sc = stuff c in
    let start = set out 0 flag_byte in
    let size : at_c ≡ 1 + length (sa ++ sb) = rw length-append (omega arith) in
    let size' : end ≡ 1 + length (sa ++ sb ++ sc) = simp length-append (omega arith) in
    rw (third, second, first, stuff_parts a b c, size', size, p, put_append, put_append) (put_append start 1 (sa ++ sb ++ sc) (flag_byte ∷ []))

module _ (room : ℕ) where
  pub content_no_room : (content : List ℕ) (n : ℕ) → length (framed content) ≡ n → room < n → write_content room content ≡ refused short_output
  unfolding write_content
  content_no_room content n e h = too_little_room room (framed content) n e h

  pub content_room : (content : List ℕ) (n : ℕ) → length (framed content) ≡ n → n ≤ room → write_content room content ≡ written (framed content)
  unfolding write_content
  content_room content n e h = room_enough room (framed content) n e h

  module _ (kind sequence : ℕ) (payload : List ℕ) where
    pub payload_too_long : payload_max < length payload → write_frame room kind sequence payload ≡ refused long_payload
    unfolding write_frame
    payload_too_long h = rw (lt-ltb payload_max (length payload) h)

    pub payload_allowed : length payload ≤ payload_max → write_frame room kind sequence payload ≡ write_content room (content_of kind sequence payload)
    unfolding write_frame
    payload_allowed h = rw (le-ltb payload_max (length payload) h)
