-- Rows of the definitions, worked out by hand.
use Rattle.std.proofs.Common.{◌≡◌, refl, Some, None, true, false, [], ◌∷◌}
use Rattle.std.specs.Prelude.{codes}
use Rattle.scq_frames.specs.Exports.{messages_of, messages_after, parts_of, part_bytes, trouble_of, trouble_after, counted_bytes, LongPayload}
use Rattle.scq_frames.specs.Exports.{ManyBytes}

row-empty : messages_of [] ≡ []
unfolding messages_after
row-empty = refl

row-two : messages_of (codes "a 1 2\nb hello world\n\nabc\n") ≡
    record { line = 1; topic = codes "a"; payload = codes "1 2" }
    ∷ record { line = 2; topic = codes "b"; payload = codes "hello world" }
    ∷ record { line = 4; topic = codes "abc"; payload = [] } ∷ []
unfolding messages_after
row-two = refl

row-three : messages_of (codes "x 12") ≡ record { line = 1; topic = codes "x"; payload = codes "12" } ∷ []
unfolding messages_after
row-three = refl

row-spaces : messages_of (codes "\n\n a  b \n ") ≡
    record { line = 3; topic = []; payload = codes "a  b " } ∷ record { line = 4; topic = []; payload = [] } ∷ []
unfolding messages_after
row-spaces = refl

row-long-first : trouble_of 2 9 false (codes "x 123\nxx") ≡ Some (LongPayload 1 3)
unfolding trouble_after counted_bytes messages_after
row-long-first = refl

row-unended : trouble_of 2 9 false (codes "a\nx 123") ≡ Some (LongPayload 2 3)
unfolding trouble_after counted_bytes messages_after
row-unended = refl

row-failed : trouble_of 2 9 true (codes "a\nx 123") ≡ None
unfolding trouble_after counted_bytes messages_after
row-failed = refl

row-past : trouble_of 2 5 false (codes "a\nx 123") ≡ Some ManyBytes
unfolding trouble_after counted_bytes messages_after
row-past = refl

row-many : trouble_of 16 4 false (codes "a\nb\nc") ≡ Some ManyBytes
unfolding trouble_after counted_bytes messages_after
row-many = refl

row-one-part : parts_of 16 (codes "1234567890123456") ≡ 1
row-one-part = refl

row-two-parts : parts_of 16 (codes "12345678901234567") ≡ 2
row-two-parts = refl

row-no-bytes : parts_of 4 [] ≡ 1
row-no-bytes = refl

row-whole-parts : parts_of 4 (codes "a b cd e") ≡ 2
row-whole-parts = refl

row-first-part : part_bytes 4 1 (codes "a b cd e") ≡ codes "a b "
row-first-part = refl

row-last-part : part_bytes 4 2 (codes "hallo") ≡ codes "o"
row-last-part = refl
