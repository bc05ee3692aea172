-- `display::receive` meets its contract: each answer of the link is passed on, and a new packet is what the board reads, since the
-- link put it whole at the start of the packet buffer; an acknowledgement that was heard goes to the sender.
use Rattle.std.proofs.Common.{◌≤◌, length, refl, sym, arith}
use lib.Seq.{length-take-le}
use Rattle.display.proofs.LengthLaws.{whole_link}
use Rattle.display.proofs.DisplayLaws.{kept, new_fits, handed_up}
use Rattle.display.proofs.receive.Goals as goal

pub slice_bounds-read-end : goal.slice_bounds-read-end
slice_bounds-read-end c =
    let fits = new_fits c.args.display c.args.piece.now c.args.reply.now c.args.packet.now _ _ _ c.receive-received.ensures (whole_link c.args.display _ c.well_formed.0) _ _ c.in-New.is in
    omega (arith, c.receive-received.auto.packet)

pub slice_bounds-read-end-in-New : goal.slice_bounds-read-end-in-New
slice_bounds-read-end-in-New c =
    let fits = new_fits c.args.display c.args.piece.now c.args.reply.now c.args.packet.now _ _ _ c.receive-received.ensures (whole_link c.args.display _ c.well_formed.0) _ _ c.in-New.is in
    let within : c.in-New.length ≤ length c.receive-received.new.packet = omega (arith, c.receive-received.auto.packet) in
    sym (length-take-le _ _ within)

pub returns-in-New : goal.returns-in-New
returns-in-New c = handed_up c.args.display c.args.piece.now c.args.reply.now c.args.packet.now _ _ _ c.receive-received.ensures (whole_link c.args.display _ c.well_formed.0) _ _ c.in-New.is _ _ c.read-reading.ensures c.hand_up.ensures

pub returns-in-Nothing : goal.returns-in-Nothing
returns-in-Nothing c = kept c.args.display c.args.piece.now c.args.reply.now c.args.packet.now _ _ _ c.receive-received.ensures _ _ _ _ c.in-Nothing.is refl c.keep.ensures

pub returns-in-Refused : goal.returns-in-Refused
returns-in-Refused c = kept c.args.display c.args.piece.now c.args.reply.now c.args.packet.now _ _ _ c.receive-received.ensures _ _ _ _ c.in-Refused.is refl c.keep-in-Refused.ensures

pub returns-in-Heard : goal.returns-in-Heard
returns-in-Heard c = kept c.args.display c.args.piece.now c.args.reply.now c.args.packet.now _ _ _ c.receive-received.ensures _ _ _ _ c.in-Heard.is refl (rw c.acknowledge-behind.ensures at c.keep-in-Heard.ensures)

pub returns-in-Again : goal.returns-in-Again
returns-in-Again c = kept c.args.display c.args.piece.now c.args.reply.now c.args.packet.now _ _ _ c.receive-received.ensures _ _ _ _ c.in-Again.is refl c.keep-in-Again.ensures
