use Rattle.std.proofs.Common.{◌≡◌, ◌∙◌, sym, ap, subst, arith, refl, ◌-◌, List, [], ◌∷◌, ◌++◌, append_assoc, drop, take, length, map}
use Rattle.std.proofs.lemmas.List.{append-nil, length-append, length-map}
use Rattle.scq_collect.specs.Exports.{PartAnswer, answers_of, joined, messages_in_order, Answer, IsPieceOf, plain, spot_answer}
use Rattle.scq_collect.proofs.Cutting.{few-messages, none-left}
use Rattle.scq_collect.proofs.pieces.Piece.push_messages.Goals as goal

pub push_message-requires-clause-room : goal.push_message-requires-clause-room
push_message-requires-clause-room c =
    let topics = c.args.topics.now in
    let members = c.args.spots.now in
    let at = c.messages.at in
    let room = c.requires.room in
    let known = c.messages.invariant.piece room.0 room.1 in
    let left = messages_in_order (plain (drop at members)) in (
      room.0 ++ known.0,
      known.1,
      omega (
        arith,
        room.2,
        ap length known.2,
        length-append room.0 known.0,
        length-append known.0 (answers_of topics (plain (drop at members))),
        length-map left (joined topics),
        ap length c.message_end-end.ensures.message,
        length-map (messages_in_order (plain members)) (joined topics),
        few-messages (plain members),
        length-map members spot_answer,
      ),
    )

pub messages-init : goal.messages-init
messages-init c = record {
  within = omega arith;
  piece = λ answers is. ([], subst (λ (l : List Answer). IsPieceOf c.args.topics.now l c.args.self.now) (sym (append-nil answers)) is, refl);
}

pub messages-preserved : goal.messages-preserved
messages-preserved c =
    let topics = c.args.topics.now in
    let members = c.args.spots.now in
    let at = c.messages.at in
    let end = c.message_end-end.result in
    let a : Answer = joined topics (plain (take (end - at) (drop at members))) in
    record {
      within = c.message_end-end.ensures.within.1;
      piece = λ answers is.
          let known = c.messages.invariant.piece answers is in (
            known.0 ++ a ∷ [],
            subst (λ (l : List Answer). IsPieceOf topics l c.push_message.new.self) (append_assoc answers known.0 (a ∷ []))
                (c.in_ok-push_message.ensures (answers ++ known.0) known.1),
            append_assoc known.0 (a ∷ []) (answers_of topics (plain (drop end members)))
                ∙ ap (λ (rest : List (List PartAnswer)). known.0 ++ map (joined topics) rest) (sym c.message_end-end.ensures.message) ∙ known.2,
          );
    }

pub returns : goal.returns
returns c = λ answers is.
    let topics = c.args.topics.now in
    let members = c.args.spots.now in
    let known = c.messages.invariant.piece answers is in
    let all : known.0 ≡ answers_of topics (plain members) =
    sym (append-nil known.0) ∙ ap (λ (l : List _). known.0 ++ answers_of topics (plain l)) (sym (none-left members c.messages.at (omega (arith, c.messages-test.false))))
    ∙ known.2 in
    subst (λ (l : List Answer). IsPieceOf topics (answers ++ l) c.messages.self) all known.1
