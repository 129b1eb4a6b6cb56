-- What is pushed in seven steps is the answer's bytes.
use Rattle.std.proofs.Common.{◌≡◌, ◌∙◌, ap, Bool, List, ℕ, ◌+◌, ◌*◌, ◌++◌, [], cond, length, arith}
use Rattle.scq_collect.specs.Exports.{answer_bytes, body_bytes, number_bytes, part_numbers, step, topic_code, viewed_answer}
use Rattle.scq_collect.proofs.CodingLaws.{in-two, pushed}
use Rattle.scq_collect.proofs.coding.push_answer.Goals as goal

pub returns-clause-bytes : goal.returns-clause-bytes
unfolding answer_bytes body_bytes
returns-clause-bytes c =
    let a = viewed_answer c.args.answer in
    let items : List ℕ = c.args.block.now.items in
    let n1 : List ℕ = number_bytes (step c.args.before.0 a.file) in
    let n2 : List ℕ = number_bytes (step c.args.before.1 a.line) in
    let n3 : List ℕ = number_bytes (topic_code a) in
    let n4 : List ℕ = part_numbers a in
    let n5 : List ℕ = number_bytes a.bytes in
    let n6 : List ℕ = number_bytes (length a.text) in
    let code = c.topic_code.ensures ∙ ap (λ (b : Bool). 2 * a.topic + (cond b 0 1)) c.is_alone-alone.ensures in
    let one : c.push_number.new.block.items ≡ items ++ n1 =
    c.push_number.ensures.bytes ∙ ap (λ n. items ++ number_bytes n) c.from.ensures in
    let two = c.push_number-2.ensures.bytes ∙ ap (λ n. c.push_number.new.block.items ++ number_bytes n) c.from-2.ensures in
    let three = c.push_number-3.ensures.bytes ∙ ap (λ n. c.push_number-2.new.block.items ++ number_bytes n) code in
    let four =
    c.push_parts.ensures.bytes
    ∙ ap (λ (b : Bool). c.push_number-3.new.block.items ++ (cond b [] (number_bytes a.part ++ number_bytes a.parts))) c.is_alone-alone.ensures in
    let to_two = pushed items n1 n2 _ _ one two in
    let to_three = pushed items (n1 ++ n2) n3 _ _ to_two three in
    let to_four = pushed items (n1 ++ n2 ++ n3) n4 _ _ to_three four in
    let to_five = pushed items (n1 ++ n2 ++ n3 ++ n4) n5 _ _ to_four c.push_number-4.ensures.bytes in
    let to_six = pushed items (n1 ++ n2 ++ n3 ++ n4 ++ n5) n6 _ _ to_five c.push_number-5.ensures.bytes in
    pushed items (n1 ++ n2 ++ n3 ++ n4 ++ n5 ++ n6) a.text _ _ to_six c.push_bytes.ensures.bytes
    ∙ ap (λ (l : List ℕ). items ++ l) (in-two (n1 ++ n2) n3 n4 n5 n6 a.text)

pub returns-clause-codable : goal.returns-clause-codable
returns-clause-codable c = record {
  file = omega arith;
  line = omega arith;
  topic = omega arith;
  part = omega arith;
  parts = omega arith;
  bytes = omega arith;
  text = omega arith;
}
