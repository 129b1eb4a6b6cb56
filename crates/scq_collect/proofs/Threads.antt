-- The messages of files, one file behind the other, ascend, and their answers are those of one thread.
use Rattle.std.proofs.Common.{◌≡◌, ◌∙◌, refl, sym, ap, inl, inr, arith, ℕ, ◌+◌, ◌≤◌, List, [], ◌∷◌, ◌++◌, map}
use Rattle.std.specs.List.{All}
use Rattle.std.proofs.lemmas.List.{map-append}
use Rattle.std.proofs.lemmas.List.Elements.{All-nil, All-cons, All-append, All-weaker}
use Rattle.scq_topics.specs.declared.kind.Kind.{Kind}
use Rattle.scq_frames.specs.Exports.{Framed, framed, messages_of, messages_after, messages_from, text_lines, numbered}
use Rattle.scq_topics.specs.Exports.{topic_of}
use Rattle.scq_frames.specs.declared.message.Message.{Message}
use Rattle.scq_collect.specs.Exports.{answer_of, messages_to, IsBefore, position_of, Answer, answer_to, answers_to}
use Rattle.scq_collect.proofs.Orders.{Ascends, ascends-append}

-- messages of one file that ascend, from a line on
record AreOf (file line : ℕ) (messages : List Message) : Type 0 where
  up : Ascends position_of messages
  past : All (λ a. (a.file ≡ file) × (line ≤ a.line)) messages

lines-ascend : (topics : List (List ℕ × Kind)) (file number : ℕ) (lines : List (List ℕ))
    → AreOf file number (map (numbered file (topic_of topics)) (messages_from number lines))
lines-ascend topics file number [] = record { up = tt; past = All-nil (λ (a : Message). (a.file ≡ file) × (number ≤ a.line)) }
lines-ascend topics file number ([] ∷ more) =
    let rest = lines-ascend topics file (number + 1) more in
    record {
      up = rest.up;
      past = All-weaker (λ (a : Message). (a.file ≡ file) × (number + 1 ≤ a.line)) (λ (a : Message). (a.file ≡ file) × (number ≤ a.line))
          (λ a h. (h.0, omega (arith, h.1)))
          (map (numbered file (topic_of topics)) (messages_from (number + 1) more)) rest.past;
    }
lines-ascend topics file number ((b ∷ bs) ∷ more) =
    let rest = lines-ascend topics file (number + 1) more in
    let others = map (numbered file (topic_of topics)) (messages_from (number + 1) more) in
    let first = numbered file (topic_of topics) (framed number (b ∷ bs)) in
    record {
      up = (
        All-weaker (λ (a : Message). (a.file ≡ file) × (number + 1 ≤ a.line)) (λ (a : Message). IsBefore (position_of first) (position_of a))
            (λ a h. inr (sym h.0, inl (omega (arith, h.1)))) others rest.past,
        rest.up,
      );
      past = All-cons (λ (a : Message). (a.file ≡ file) × (number ≤ a.line)) first others (refl, omega arith)
          (All-weaker (λ (a : Message). (a.file ≡ file) × (number + 1 ≤ a.line)) (λ (a : Message). (a.file ≡ file) × (number ≤ a.line))
          (λ a h. (h.0, omega (arith, h.1))) others rest.past);
    }

file-ascends : (topics : List (List ℕ × Kind)) (file : ℕ) (content : List ℕ) → AreOf file 1 (map (numbered file (topic_of topics)) (messages_after 0 content))
unfolding messages_after
file-ascends topics file content = lines-ascend topics file 1 (text_lines content)

-- messages that ascend, of this file and those behind it
record AreFrom (file : ℕ) (messages : List Message) : Type 0 where
  up : Ascends position_of messages
  past : All (λ a. file ≤ a.file) messages

files-ascend : (topics : List (List ℕ × Kind)) (file : ℕ) (contents : List (List ℕ)) → AreFrom file (messages_to topics file contents)
files-ascend topics file [] = record { up = tt; past = All-nil (λ (a : Message). file ≤ a.file) }
files-ascend topics file (content ∷ more) =
    let own = file-ascends topics file content in
    let rest = files-ascend topics (file + 1) more in
    let mine = map (numbered file (topic_of topics)) (messages_after 0 content) in
    let others = messages_to topics (file + 1) more in
    record {
      up = ascends-append position_of mine others own.up rest.up
          (All-weaker (λ (a : Message). (a.file ≡ file) × (1 ≤ a.line)) (λ (x : Message). All (λ y. IsBefore (position_of x) (position_of y)) others)
          (λ x h. All-weaker (λ (a : Message). file + 1 ≤ a.file) (λ (y : Message). IsBefore (position_of x) (position_of y))
          (λ y later. inl (omega (arith, h.0, later))) others rest.past) mine own.past);
      past = All-append (λ (a : Message). file ≤ a.file) mine others
          (All-weaker (λ (a : Message). (a.file ≡ file) × (1 ≤ a.line)) (λ (a : Message). file ≤ a.file) (λ a h. omega (arith, h.0)) mine own.past)
          (All-weaker (λ (a : Message). file + 1 ≤ a.file) (λ (a : Message). file ≤ a.file) (λ a later. omega (arith, later)) others rest.past);
    }

pub messages-ascend : (topics : List (List ℕ × Kind)) (file : ℕ) (contents : List (List ℕ)) → Ascends position_of (messages_to topics file contents)
messages-ascend topics file contents = (files-ascend topics file contents).up

own-answers : (topics : List (List ℕ × Kind)) (file : ℕ) (ms : List Framed)
    → map (answer_of topics) (map (numbered file (topic_of topics)) ms) ≡ map (answer_to topics file) ms
own-answers topics file [] = refl
own-answers topics file (m ∷ ms) = ap (λ (rest : List Answer). answer_to topics file m ∷ rest) (own-answers topics file ms)

pub messages-answered : (topics : List (List ℕ × Kind)) (file : ℕ) (contents : List (List ℕ))
    → map (answer_of topics) (messages_to topics file contents) ≡ answers_to topics file contents
messages-answered topics file [] = refl
messages-answered topics file (content ∷ more) =
    map-append (answer_of topics) (map (numbered file (topic_of topics)) (messages_of content)) (messages_to topics (file + 1) more)
    ∙ ap (λ (front : List Answer). front ++ map (answer_of topics) (messages_to topics (file + 1) more)) (own-answers topics file (messages_of content))
    ∙ ap (λ (last : List Answer). map (answer_to topics file) (messages_of content) ++ last) (messages-answered topics (file + 1) more)
