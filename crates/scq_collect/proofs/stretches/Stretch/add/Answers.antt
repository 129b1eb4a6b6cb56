use Rattle.std.proofs.Common.{rules, ◌≡◌, arith, ◌+◌, length}
use Rattle.std.proofs.lemmas.List.{length-append, length-map}
use Rattle.scq_collect.specs.Exports.{answers_of, plain, spot_answer}
use Rattle.scq_collect.proofs.Stretched.{few-answers}
use Rattle.scq_collect.proofs.stretches.Stretch.add.Goals as goal

pub push_messages-requires-clause-room : goal.push_messages-requires-clause-room
push_messages-requires-clause-room c =
    let room = c.requires.room in
    let sum : c.in_ok-parts.parts ≡ c.args.self.now.parts + length c.args.spots.now = search rules in
    (room.0, room.1.piece, omega (arith, room.1.few, sum))

pub returns-clause-added : goal.returns-clause-added
returns-clause-added c = λ answers is.
    let spots = c.args.spots.now in
    let more = answers_of c.args.topics.now (plain spots) in
    let sum : c.in_ok-parts.parts ≡ c.args.self.now.parts + length spots = search rules in
    record {
      piece = c.in_ok-push_messages.ensures answers is.piece;
      few = omega (arith, is.few, length-append answers more, few-answers c.args.topics.now (plain spots), length-map spots spot_answer, sum);
    }

pub returns-clause-whole : goal.returns-clause-whole
returns-clause-whole c = c.is_still_whole-self.ensures
