-- Every written frame is read back as its type, sequence and payload, since unstuffing undoes stuffing and the check over
-- content with its check is 0; it has flags at its ends alone, since no stuffed byte is one; its length is that of the stuffed
-- content and two flags.
use mathlib.Core.Path.{◌≡◌, refl, sym, ap, ◌∙◌}
use mathlib.Core.Bool.{Bool, true, false, cond}
use mathlib.Core.List.{List, [], ◌∷◌, ◌++◌}
use Prim.Native.Nat.{ℕ, suc, ◌+◌, ◌-◌, ◌*◌, ◌≤◌}
use native.Mathlib.Omega.{arith}
use lib.Dec.{ltb}
use lib.ListN.{length, length-append}
use lib.Seq.{take_at}
use borrow.Author.Tests.{eq-eqb, le-leb}
use Rattle.refusals.specs.Numbers.{bad_framing, short_output, long_payload}
use Rattle.crc.specs.Crc.{link_start, crc_of, check_bytes}
use Rattle.crc.proofs.CrcLaws.{crc_checked}
use Rattle.slices.proofs.Impossible.{impossible}
use Rattle.slices.specs.Written.{written}
use Rattle.slices.proofs.WrittenLaws.{Wrote, wrote}
use Rattle.frame.specs.Stuffing as stuffing
use Rattle.frame.specs.Stuffing.{flag_byte, content_max, stuff, escapes, unstuff}
use Rattle.frame.specs.Content as content
use Rattle.frame.specs.Content.{payload_max, no_place, content_of, frame, judged}
use Rattle.frame.specs.Writing.{between_flags, framed, frame_of, write_content, write_frame}
use Rattle.frame.specs.Reading.{first_flag, flagged_bytes, between, judged_content, read_run, read_frame}
use Rattle.frame.specs.Answers.{read_answer}
use Rattle.frame.proofs.BoundLaws.{unstuff_bounded}
use Rattle.frame.proofs.ContentLaws.{judged_good, answer_frame}
use Rattle.frame.proofs.ReadLaws.{frame_run, run_content}
use Rattle.frame.proofs.WriteLaws.{length_framed}
use Rattle.frame.proofs.StuffLaws.{length_stuff}
use Rattle.frame.proofs.StuffTheorems.{unstuff_stuff, stuffed_length, stuffed_without_flag}

-- THEOREM. A written frame has a flag first, a flag last and none between.
pub framed_flags : (c : List ℕ) → flagged_bytes (framed c) ≡ true
unfolding framed flagged_bytes first_flag
framed_flags c =
    let next = stuffed_without_flag c (flag_byte ∷ []) in
    let size = length-append (stuff c) (flag_byte ∷ []) in
    eq-eqb (suc (first_flag (stuff c ++ (flag_byte ∷ [])))) (length (stuff c ++ (flag_byte ∷ []))) (omega (arith, next, size))

content_length : (kind sequence : ℕ) (payload : List ℕ) → length (content_of kind sequence payload) ≡ length payload + 4
unfolding content_of
content_length kind sequence payload =
    let check = check_bytes (crc_of link_start (kind ∷ sequence ∷ payload)) in
    omega (arith, length-append payload check)

-- THEOREM. The written length is 6 plus the payload length plus the number of 7d and 7e bytes in content.
pub written_length : (kind sequence : ℕ) (payload : List ℕ)
    → length (frame_of kind sequence payload) ≡ 6 + length payload + escapes (content_of kind sequence payload)
written_length kind sequence payload =
    length_framed (content_of kind sequence payload)
    ∙ omega (arith, stuffed_length (content_of kind sequence payload), content_length kind sequence payload)

-- content with its check is judged to be what it was made of
content_judged : (kind sequence : ℕ) (payload : List ℕ) → judged (content_of kind sequence payload) ≡ frame kind sequence payload
unfolding content_of
content_judged kind sequence payload =
    let body = kind ∷ sequence ∷ payload in
    let check = check_bytes (crc_of link_start body) in
    let size = length-append payload check in
    let whole : 4 ≤ length (body ++ check) = omega (arith, size) in
    let payload_size : length payload ≡ length (body ++ check) - 4 = omega (arith, size) in
    judged_good (body ++ check) whole (crc_checked link_start body)
    ∙ ap (frame kind sequence) (take_at payload check (length (body ++ check) - 4) payload_size)

-- what stands between the flags
pub between_flags_law : (run : List ℕ) → between (between_flags run) ≡ run
between_flags_law run =
    let size = length-append run (flag_byte ∷ []) in
    let inner : length run ≡ length (between_flags run) - 2 = omega (arith, size) in
    take_at run (flag_byte ∷ []) (length (between_flags run) - 2) inner

framed_between : (c : List ℕ) → between (framed c) ≡ stuff c
unfolding framed
framed_between c = between_flags_law (stuff c)

-- THEOREM. Every frame of any type and sequence and a payload of 0 to 383 bytes is read back as its type, sequence and payload.
pub frame_read_back : (room kind sequence : ℕ) (payload : List ℕ) → payload_max ≤ room → length payload ≤ payload_max
    → read_frame room (frame_of kind sequence payload) ≡ frame kind sequence payload
frame_read_back room kind sequence payload asked short =
    let c = content_of kind sequence payload in
    let fits : length c ≤ content_max = omega (arith, content_length kind sequence payload) in
    let unstuffed : unstuff (stuff c) ≡ stuffing.content c = unstuff_stuff c ∙ rw (le-leb (length c) content_max fits) in
    frame_run room (framed c) asked (framed_flags c)
    ∙ ap read_run (framed_between c)
    ∙ run_content (stuff c) c unstuffed
    ∙ content_judged kind sequence payload

-- a frame was written only of a payload of at most 383 bytes and into room enough, and it is the frame of the three
pub wrote_frame : (room kind sequence : ℕ) (payload sent : List ℕ) → write_frame room kind sequence payload ≡ written sent
    → Wrote payload_max (length payload) room (frame_of kind sequence payload) sent
unfolding write_frame write_content
wrote_frame room kind sequence payload sent e = wrote payload_max (length payload) room long_payload (frame_of kind sequence payload) sent e

-- THEOREM. Whatever the writer wrote is read back as its type, sequence and payload.
pub written_read_back : (room kind sequence : ℕ) (payload sent : List ℕ) (room₁ : ℕ) → write_frame room kind sequence payload ≡ written sent
    → payload_max ≤ room₁ → read_frame room₁ sent ≡ frame kind sequence payload
written_read_back room kind sequence payload sent room₁ e asked =
    let w = wrote_frame room kind sequence payload sent e in
    rw w.is (frame_read_back room₁ kind sequence payload asked w.short)

-- a frame that was read has a payload of at most 383 bytes, whatever its room and bytes
pub run_bounded : (run : List ℕ) (kind sequence : ℕ) (payload : List ℕ) → read_run run ≡ frame kind sequence payload → length payload ≤ payload_max
unfolding read_run unstuff
run_bounded run kind sequence payload e = cases (unstuff run) refl e
  where
    cases : (found : stuffing.Unstuffed) → unstuff run ≡ found → judged_content found ≡ frame kind sequence payload → length payload ≤ payload_max
    cases (stuffing.refused n place) f e = impossible cc
    cases (stuffing.content c) f e =
        let whole = answer_frame c kind sequence (length payload) (sym (ap read_answer e)) in
        omega (arith, whole.size, unstuff_bounded stuffing.plain 0 0 run c (omega arith) f)

pub read_bounded : (room : ℕ) (bytes : List ℕ) (kind sequence : ℕ) (payload : List ℕ) → read_frame room bytes ≡ frame kind sequence payload
    → length payload ≤ payload_max
unfolding read_frame
read_bounded room bytes kind sequence payload e = cases (ltb room payload_max) (flagged_bytes bytes) e
  where
    cases : (t u : Bool) → cond t (content.refused short_output no_place) (cond u (read_run (between bytes)) (content.refused bad_framing no_place)) ≡ frame kind sequence payload
        → length payload ≤ payload_max
    cases true u e = impossible cc
    cases false true e = run_bounded (between bytes) kind sequence payload e
    cases false false e = impossible cc

-- a frame that was written has at most two bytes for each of content, and its two flags
pub written_bounded : (room kind sequence : ℕ) (payload sent : List ℕ) → write_frame room kind sequence payload ≡ written sent
    → length sent ≤ 2 + 2 * content_max
written_bounded room kind sequence payload sent e =
    let w = wrote_frame room kind sequence payload sent e in
    let c = content_of kind sequence payload in
    rw w.is (omega (arith, w.short, length_framed c, length_stuff c, content_length kind sequence payload))
