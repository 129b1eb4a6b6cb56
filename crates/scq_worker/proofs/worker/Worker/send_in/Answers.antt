use Rattle.std.proofs.Common.{◌≡◌, ◌∙◌, ap, suc, length}
use Rattle.scq_queue.specs.Exports.{HeldStanding, having_seen, after_put}
use Rattle.scq_worker.proofs.worker.Worker.send_in.Goals as goal

pub write_load-requires-clause-room : goal.write_load-requires-clause-room
write_load-requires-clause-room g c = rw c.bytes_mut.ensures.bytes c.requires.room

-- what was sent are the bytes that were written
pub returns-in-Ok-clause-sent : goal.returns-in-Ok-clause-sent
returns-in-Ok-clause-sent g c =
    let laws = g.met.B.BufferMut g.world.𝓛 g.world.𝓜 g.world.𝓡 ((λ s x. x), (λ x. x), (λ x. x), (λ x. x)) in
    let held = c.args.held in
    let bytes = c.write_load.new.into in
    let long : length bytes ≡ length (g.B.Buffer.contents held.buffer) = c.write_load.ensures.len ∙ ap length c.bytes_mut.ensures.bytes in
    let is : g.B.Buffer.contents (g.B.BufferMut.written held.buffer bytes) ≡ bytes = laws.written_bytes held.buffer bytes long in (
      c.in-Ok.field-0,
      bytes,
      c.in-Ok.ensures.sent.pass
          ∙ ap (λ w. having_seen c.send.new.pass.seen (after_put (suc c.args.topic) held.index c.in-Ok.field-0 w c.args.self.now.pass)) is,
      record { topic = c.write_load.ensures.topic; carries = c.write_load.ensures.carries },
    )

-- what it held came back
pub returns-in-Err-clause-back : goal.returns-in-Err-clause-back
returns-in-Err-clause-back g c =
    let back = c.in-Err.ensures.back in (
      ap (λ (h : HeldStanding _). h.index) back,
      ap (λ (h : HeldStanding _). h.queue) back,
      (c.in-Err.field-0-1.ticket, (c.in-Err.ensures.spent.drawn c.requires.pass.1).0),
    )
