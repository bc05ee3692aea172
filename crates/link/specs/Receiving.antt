-- 01, The receiver: a call takes a piece, with a reply buffer and a packet buffer lent beside it.
use Rattle.std.specs.Prelude.{◌≡◌, ℕ, None, cond, List, [], replicate, nat_lt}
use Rattle.refusals.specs.Numbers.{short_output}
use Rattle.slices.specs.Put.{put_at}
use Rattle.frame.specs.Stuffing.{content_max}
use Rattle.frame.specs.Content.{payload_max, no_place}
use Rattle.frame.specs.Answers.{fault_at}
use Rattle.link.specs.declared.counts.Event.TheVariants as event
use Rattle.link.specs.declared.reader.Phase.TheVariants.{Before}
use Rattle.link.specs.declared.receiver.Answer.{Answer}
use Rattle.link.specs.declared.receiver.Answer.TheVariants as says
use Rattle.link.specs.declared.receiver.Link.{Link}
use Rattle.link.specs.declared.receiver.Received.{Received}
use Rattle.link.specs.Counts.{no_counts, count_of}
use Rattle.link.specs.Walk.{Walk, walk_of}
use Rattle.link.specs.Closing.{reply_room, Outcome, close_of}

-- what a call gives: the link after it, the bytes taken, the answer, and the bytes put at the start of the two buffers
pub record Call : Type 0 where
  pub link : Link
  pub taken : ℕ
  pub answer : Answer
  pub reply : List ℕ
  pub packet : List ℕ

-- a call with a short buffer is refused with 7, takes nothing and changes nothing
abbrev pub short_call : Link → Call
short_call state = record { link = state; taken = 0; answer = says.Refused (fault_at short_output no_place); reply = []; packet = [] }

-- how far the walk came, and what the frame did that it ended
abbrev pub call_of : Walk → Outcome → Call
call_of walk o =
    record {
      link = record { content = walk.content; reader = walk.reader; last = o.last; counts = o.counts };
      taken = walk.taken;
      answer = o.answer;
      reply = o.reply;
      packet = o.packet;
    }

unfoldable pub walk_call : Link → Walk → Call
walk_call state walk = call_of walk (close_of walk.ended walk.content state.last state.counts)

-- a reply buffer of at least 9 bytes and a packet buffer of at least 383, whatever the piece
unfoldable pub receive_of : Link → List ℕ → ℕ → ℕ → Call
receive_of state piece reply_size packet_size =
    cond (nat_lt reply_size reply_room) (short_call state)
    (cond (nat_lt packet_size payload_max) (short_call state) (walk_call state (walk_of piece state.content state.reader 0)))

-- at first: before the first flag, no data frame yet, and the counts are 0
abbrev pub fresh_link : Link
fresh_link = record { content = replicate content_max 0; reader = record { phase = Before; length = 0; place = 0 }; last = None; counts = no_counts }

-- 01, Refusal numbers: a packet refused by the board adds one to the unread count
abbrev pub with_unread_packet : Link → Link
with_unread_packet state = record { content = state.content; reader = state.reader; last = state.last; counts = count_of event.Unread state.counts }

-- how the code answers a call
abbrev pub received_by : Call → Received
received_by call = record { link = call.link; taken = call.taken; answer = call.answer }

abbrev pub short_received : Link → Received
short_received state = received_by (short_call state)

pub record ReceivesAs (call : Call) (reply₀ packet₀ : List ℕ) (result : Received) (reply₁ packet₁ : List ℕ) : Type 0 where
  pub answers : result ≡ received_by call
  pub replied : reply₁ ≡ put_at reply₀ 0 call.reply
  pub handed_out : packet₁ ≡ put_at packet₀ 0 call.packet
