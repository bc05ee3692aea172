-- 01, Refusal numbers, and those of 02: each refusal under the name that definitions and contracts use, and its number.
use Rattle.std.specs.Prelude.{ℕ}
use Rattle.refusals.specs.declared.Refusal.{Refusal}
use Rattle.refusals.specs.declared.Refusal.TheVariants as refusal

-- an escape byte is followed by a byte other than 5d or 5e, or a whole frame has wrong flags
abbrev pub bad_framing : Refusal
bad_framing = refusal.BadFraming

-- unstuffed content passes 387 bytes
abbrev pub long_content : Refusal
long_content = refusal.LongContent

-- content has 1 to 3 bytes (0 to 3 in the whole-frame reader)
abbrev pub short_content : Refusal
short_content = refusal.ShortContent

-- the check over the whole content is not 0
abbrev pub bad_check : Refusal
bad_check = refusal.BadCheck

-- the type is neither 01 nor 02 (receiver)
abbrev pub unknown_type : Refusal
unknown_type = refusal.UnknownType

-- type 02 with a payload (receiver)
abbrev pub loaded_acknowledgement : Refusal
loaded_acknowledgement = refusal.LoadedAcknowledgement

-- a lent output is too short
abbrev pub short_output : Refusal
short_output = refusal.ShortOutput

-- a payload to be written passes 383 bytes
abbrev pub long_payload : Refusal
long_payload = refusal.LongPayload

-- a packet has under 4 bytes or its first byte is not 1
abbrev pub no_data_packet : Refusal
no_data_packet = refusal.NoDataPacket

-- the items do not fill the packet exactly, or an EOF item has a length other than 0
abbrev pub bad_items : Refusal
bad_items = refusal.BadItems

-- an opcode that this reader does not read
abbrev pub other_opcode : Refusal
other_opcode = refusal.OtherOpcode

-- the Name is missing, twice, or not a valid name
abbrev pub bad_name : Refusal
bad_name = refusal.BadName

-- the value item is missing or bad
abbrev pub bad_value : Refusal
bad_value = refusal.BadValue

-- the name is not watched
abbrev pub not_watched : Refusal
not_watched = refusal.NotWatched

-- a bad watch list or history file
abbrev pub bad_list : Refusal
bad_list = refusal.BadList

-- a fragment of another location
abbrev pub other_location : Refusal
other_location = refusal.OtherLocation

-- the offset is not the next one, or the transfer is complete
abbrev pub wrong_offset : Refusal
wrong_offset = refusal.WrongOffset

-- the fragment or the declared length passes the declared length or the lent buffer
abbrev pub past_length : Refusal
past_length = refusal.PastLength

-- EOF before the declared length
abbrev pub early_end : Refusal
early_end = refusal.EarlyEnd

-- the fragment or a location has a bad form
abbrev pub bad_fragment : Refusal
bad_fragment = refusal.BadFragment

-- 02, C-11: an ASHv3 frame with no or a wrong first byte, reserved header escape bits set, or a header escape needless or missing
abbrev pub bad_header : Refusal
bad_header = refusal.BadHeader

-- 02, C-11: an ASHv3 frame of under 7 bytes, or a payload length over 57 or not the bytes present
abbrev pub bad_length : Refusal
bad_length = refusal.BadLength

-- 02, C-11: in an ASHv3 payload a raw reserved byte, a last escape, or an escape of a byte that needs none
abbrev pub bad_stuffing : Refusal
bad_stuffing = refusal.BadStuffing

-- 02, C-11: the check bytes of an ASHv3 frame are other than the writer's
abbrev pub other_check : Refusal
other_check = refusal.OtherCheck

-- 02, C-13: a frame is still waiting
abbrev pub frame_waiting : Refusal
frame_waiting = refusal.FrameWaiting

-- 02, C-21: data to send while RESET ACK is awaited
abbrev pub reset_ack_awaited : Refusal
reset_ack_awaited = refusal.ResetAckAwaited

-- 02, C-21: data to send while two frames are held
abbrev pub two_frames_held : Refusal
two_frames_held = refusal.TwoFramesHeld

-- the number that the papers give each refusal
abbrev pub number_of : Refusal → ℕ
number_of refusal.BadFraming = 1
number_of refusal.LongContent = 2
number_of refusal.ShortContent = 3
number_of refusal.BadCheck = 4
number_of refusal.UnknownType = 5
number_of refusal.LoadedAcknowledgement = 6
number_of refusal.ShortOutput = 7
number_of refusal.LongPayload = 8
number_of refusal.NoDataPacket = 9
number_of refusal.BadItems = 10
number_of refusal.OtherOpcode = 11
number_of refusal.BadName = 12
number_of refusal.BadValue = 13
number_of refusal.NotWatched = 14
number_of refusal.BadList = 15
number_of refusal.OtherLocation = 16
number_of refusal.WrongOffset = 17
number_of refusal.PastLength = 18
number_of refusal.EarlyEnd = 19
number_of refusal.BadFragment = 20
number_of refusal.BadHeader = 21
number_of refusal.BadLength = 22
number_of refusal.BadStuffing = 23
number_of refusal.OtherCheck = 24
number_of refusal.FrameWaiting = 25
number_of refusal.ResetAckAwaited = 28
number_of refusal.TwoFramesHeld = 29
