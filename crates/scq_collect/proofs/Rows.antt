-- Rows of the output, worked out by hand.
use Rattle.std.proofs.Common.{◌≡◌, refl, [], ◌∷◌}
use Rattle.std.specs.Prelude.{codes}
use Rattle.std.specs.Fmt.{digits}
use Rattle.scq_topics.specs.declared.kind.Kind.TheVariants.{Words, Sum, Echo}
use Rattle.scq_frames.specs.Exports.{messages_after}
use Rattle.scq_collect.specs.Exports.{one_thread_output}

row-empty : one_thread_output [] ([] ∷ []) ≡ codes "total - 0 0\n"
unfolding messages_after digits
row-empty = refl

row-one : one_thread_output [] (codes "x 1\n" ∷ []) ≡ codes "1:1 - 1\ntotal - 1 1\n"
unfolding messages_after digits
row-one = refl

row-unended : one_thread_output [] (codes "x 12" ∷ []) ≡ codes "1:1 - 2\ntotal - 1 2\n"
unfolding messages_after digits
row-unended = refl

row-spaces : one_thread_output [] (codes "\na  b\n\n \nlong-topic 12345678901\n" ∷ []) ≡
    codes "1:2 - 2\n1:4 - 0\n1:5 - 11\ntotal - 3 13\n"
unfolding messages_after digits
row-spaces = refl

-- with declared topics, several files and other kinds
row-declared : one_thread_output ((codes "a", Sum) ∷ (codes "b", Echo) ∷ []) (codes "a 1 2\n" ∷ [] ∷ codes "b 2\nc\n" ∷ []) ≡
    codes "1:1 a 3\n3:1 b 2\n3:2 - 0\ntotal a 1 3\ntotal b 1 1\ntotal - 1 0\n"
unfolding messages_after digits
row-declared = refl

row-words : one_thread_output ((codes "a", Sum) ∷ (codes "b", Words) ∷ []) (codes "a 1 2\nb hello world\n\nabc\n" ∷ []) ≡
    codes "1:1 a 3\n1:2 b 2\n1:4 - 0\ntotal a 1 3\ntotal b 1 11\ntotal - 1 0\n"
unfolding messages_after digits
row-words = refl
