use Rattle.std.proofs.Common.{◌≡◌, ◌+◌, ◌++◌, ◌∙◌, ap, subst, arith, refl, length, drop}
use Rattle.scq_frames.specs.Exports.{BeginsWith, message_bytes, Part, part_of}
use Rattle.scq_queue.specs.Exports.{having_seen, after_put}
use Rattle.scq_stages.specs.Exports.{whole_of}
use Rattle.scq_stages.proofs.Whole.{whole-part}
use Rattle.scq_stages.proofs.worker.Worker.send_in.Goals as goal

-- what was sent are the bytes of the message, and behind them what stood in the buffer
pub returns-in-Ok-clause-sent : goal.returns-in-Ok-clause-sent
returns-in-Ok-clause-sent g c =
    let m = c.args.message.now in
    let size = c.args.job.now.size in
    let valid = c.args.job.now.valid in
    let p = part_of size m 1 in
    let laws = g.met.B.BufferMut g.world.𝓛 g.world.𝓜 g.world.𝓡 ((λ s x. x), (λ x. x), (λ x. x), (λ x. x)) in
    let bytes = c.encode.new.into in
    let begins : bytes ≡ message_bytes p ++ drop (24 + length p.payload) c.bytes_mut.result.now = c.encode.ensures in
    let long : length bytes ≡ length (g.B.Buffer.contents c.args.held.buffer) = c.encode.auto.into ∙ ap length c.bytes_mut.ensures.bytes in
    let is : g.B.Buffer.contents (g.B.BufferMut.written c.args.held.buffer bytes) ≡ bytes = laws.written_bytes c.args.held.buffer bytes long in
    let sent = c.in-Ok.ensures.sent.pass in
    let whole : p ≡ whole_of m = whole-part size m valid.some_size c.requires.short in (
      c.in-Ok.field-0,
      bytes,
      sent ∙ ap (λ w. having_seen c.send.new.pass.seen (after_put 1 c.args.held.index c.in-Ok.field-0 w c.args.self.now.pass)) is,
      record {
        topic = refl;
        fits = record {
          file = omega arith;
          line = omega arith;
          topic = omega arith;
          payload = omega (arith, c.requires.short, valid.size_fits);
          parts = omega arith;
          numbered = record { first = omega arith; last = omega arith };
        };
        bytes = subst (λ (x : Part). BeginsWith bytes x) whole (drop (24 + length p.payload) c.bytes_mut.result.now, begins);
      },
    )
