use Rattle.std.proofs.Common.{◌≡◌, ℕ, List, ◌++◌, append_assoc, ◌∙◌, ap, refl}
use Rattle.scq_replay.specs.Exports.{reply_words}
use Rattle.scq_replay.proofs.printing.add_step.Goals as goal

-- four parts added one after another
joined : (old head ring reply end one two three four : List ℕ) → one ≡ old ++ head → two ≡ one ++ ring → three ≡ two ++ reply → four ≡ three ++ end
    → four ≡ old ++ (head ++ ring ++ reply ++ end)
joined old head ring reply end one two three four a b c d = rw (d, c, b, a) (simp append_assoc refl)

pub returns : goal.returns
returns c =
    joined c.args.text.now.items _ _ _ _ _ _ _ _ c.in_ok-add_head.ensures c.in_ok-add_ring.ensures
    (c.in_ok-add_reply.ensures ∙ ap (λ ended. c.add_ring.new.text.items ++ reply_words ended) c.ended.ensures) c.in_ok-extend_from_slice.ensures.items
