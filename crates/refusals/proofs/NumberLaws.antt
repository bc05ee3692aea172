-- The numbers of the refusals: those of the papers, each once, so that a number tells which refusal it is.
use mathlib.Core.Path.{◌≡◌, refl, sym, ap, ◌∙◌}
use mathlib.Core.List.{List, [], ◌∷◌, map}
use Prim.Native.Nat.{ℕ}
use lib.ListN.{get_or}
use Rattle.refusals.specs.Numbers.{bad_framing, long_content, short_content, bad_check, unknown_type, loaded_acknowledgement, short_output, long_payload, no_data_packet, bad_items, other_opcode, bad_name, bad_value, not_watched, bad_list, other_location, wrong_offset, past_length, early_end, bad_fragment, bad_header, bad_length, bad_stuffing, other_check, frame_waiting, reset_ack_awaited, two_frames_held, number_of}
use Rattle.refusals.specs.declared.Refusal.{Refusal}
use Rattle.refusals.specs.declared.Refusal.TheVariants as refusal

-- 01, Refusal numbers, in its order, and those of 02
abbrev in_the_papers : List Refusal
in_the_papers =
    bad_framing ∷ long_content ∷ short_content ∷ bad_check ∷ unknown_type ∷
    loaded_acknowledgement ∷ short_output ∷ long_payload ∷ no_data_packet ∷ bad_items ∷
    other_opcode ∷ bad_name ∷ bad_value ∷ not_watched ∷ bad_list ∷
    other_location ∷ wrong_offset ∷ past_length ∷ early_end ∷ bad_fragment ∷
    bad_header ∷ bad_length ∷ bad_stuffing ∷ other_check ∷ frame_waiting ∷
    reset_ack_awaited ∷ two_frames_held ∷ []

-- THEOREM (01, Refusal numbers; 02, C-11, C-13, C-21). The refusals have these numbers.
pub papers_numbers : map number_of in_the_papers ≡
    1 ∷ 2 ∷ 3 ∷ 4 ∷ 5 ∷ 6 ∷ 7 ∷ 8 ∷ 9 ∷ 10 ∷ 11 ∷ 12 ∷ 13 ∷ 14 ∷
    15 ∷ 16 ∷ 17 ∷ 18 ∷ 19 ∷ 20 ∷ 21 ∷ 22 ∷ 23 ∷ 24 ∷ 25 ∷ 28 ∷ 29 ∷ []
papers_numbers = refl

-- the refusals in the order of their numbers; the numbers of none, 0, 26 and 27, have any
abbrev in_order : List Refusal
in_order =
    refusal.BadFraming ∷ refusal.BadFraming ∷ refusal.LongContent ∷ refusal.ShortContent ∷ refusal.BadCheck ∷
    refusal.UnknownType ∷ refusal.LoadedAcknowledgement ∷ refusal.ShortOutput ∷ refusal.LongPayload ∷ refusal.NoDataPacket ∷
    refusal.BadItems ∷ refusal.OtherOpcode ∷ refusal.BadName ∷ refusal.BadValue ∷ refusal.NotWatched ∷
    refusal.BadList ∷ refusal.OtherLocation ∷ refusal.WrongOffset ∷ refusal.PastLength ∷ refusal.EarlyEnd ∷
    refusal.BadFragment ∷ refusal.BadHeader ∷ refusal.BadLength ∷ refusal.BadStuffing ∷ refusal.OtherCheck ∷
    refusal.FrameWaiting ∷ refusal.BadFraming ∷ refusal.BadFraming ∷ refusal.ResetAckAwaited ∷ refusal.TwoFramesHeld ∷ []

found_again : (n : Refusal) → get_or in_order (number_of n) refusal.BadFraming ≡ n
found_again refusal.BadFraming = refl
found_again refusal.LongContent = refl
found_again refusal.ShortContent = refl
found_again refusal.BadCheck = refl
found_again refusal.UnknownType = refl
found_again refusal.LoadedAcknowledgement = refl
found_again refusal.ShortOutput = refl
found_again refusal.LongPayload = refl
found_again refusal.NoDataPacket = refl
found_again refusal.BadItems = refl
found_again refusal.OtherOpcode = refl
found_again refusal.BadName = refl
found_again refusal.BadValue = refl
found_again refusal.NotWatched = refl
found_again refusal.BadList = refl
found_again refusal.OtherLocation = refl
found_again refusal.WrongOffset = refl
found_again refusal.PastLength = refl
found_again refusal.EarlyEnd = refl
found_again refusal.BadFragment = refl
found_again refusal.BadHeader = refl
found_again refusal.BadLength = refl
found_again refusal.BadStuffing = refl
found_again refusal.OtherCheck = refl
found_again refusal.FrameWaiting = refl
found_again refusal.ResetAckAwaited = refl
found_again refusal.TwoFramesHeld = refl

-- THEOREM. Two refusals have different numbers.
pub same_refusal : (n m : Refusal) → number_of n ≡ number_of m → n ≡ m
same_refusal n m e = sym (found_again n) ∙ ap (λ (i : ℕ). get_or in_order i refusal.BadFraming) e ∙ found_again m
