-- The bytes that are pushed are the number's, by how large it is.
use Rattle.std.proofs.Common.{◌∙◌, sym, ap, ◌++◌, ◌∷◌, take, drop, arith}
use Rattle.scq_collect.proofs.CodingLaws.{in_one, in_three, in_five, in_nine}
use Rattle.scq_collect.proofs.coding.push_number.Goals as goal

pub returns-then-number-lt253-clause-bytes : goal.returns-then-number-lt253-clause-bytes
returns-then-number-lt253-clause-bytes c =
    c.push_reserved.ensures.items ∙ ap (λ l. c.args.block.now.items ++ l) (sym (in_one c.args.number (omega arith)))

pub returns-then-number-clause-bytes : goal.returns-then-number-clause-bytes
returns-then-number-clause-bytes c =
    c.push_marked.ensures.bytes ∙ ap (λ l. c.args.block.now.items ++ 253 ∷ take 2 (drop 6 l)) c.to_be_bytes-bytes.ensures
    ∙ ap (λ l. c.args.block.now.items ++ l) (sym (in_three c.args.number (omega arith) (omega arith)))

pub returns-then-number-2-clause-bytes : goal.returns-then-number-2-clause-bytes
returns-then-number-2-clause-bytes c =
    c.push_marked-then-number-2.ensures.bytes ∙ ap (λ l. c.args.block.now.items ++ 254 ∷ take 4 (drop 4 l)) c.to_be_bytes-bytes.ensures
    ∙ ap (λ l. c.args.block.now.items ++ l) (sym (in_five c.args.number (omega arith) (omega arith)))

pub returns-else-number-2-clause-bytes : goal.returns-else-number-2-clause-bytes
returns-else-number-2-clause-bytes c =
    c.push_marked-else-number-2.ensures.bytes ∙ ap (λ l. c.args.block.now.items ++ 255 ∷ l) c.to_be_bytes-bytes.ensures
    ∙ ap (λ l. c.args.block.now.items ++ l) (sym (in_nine c.args.number (omega arith)))
