-- What a message is answered with.
use Rattle.std.specs.Prelude.{ℕ, List, length, codes, decimal, Option, Some, None}
use Rattle.sha2.specs.Sha256.{sha256}
use Rattle.hex.specs.Hex.{encode_lower}
use Rattle.scq_topics.specs.Runs.{runs, is_blank, is_space}
use Rattle.scq_topics.specs.Sum.{sum_of}
use Rattle.scq_topics.specs.declared.kind.Kind.{Kind}
use Rattle.scq_topics.specs.declared.kind.Kind.TheVariants.{Len, Words, Sum, Sha256, Echo}

-- a sum in decimal, or `bad` where there is none
abbrev pub sum_text : Option ℕ → List ℕ
sum_text (Some sum) = decimal sum
sum_text None = codes "bad"

-- the reply to a payload: how many bytes, how many words, the sum of its tokens, the digest of
-- FIPS 180-4 in hexadecimal, or the payload
abbrev pub reply_of : Kind → List ℕ → List ℕ
reply_of Len payload = decimal (length payload)
reply_of Words payload = decimal (length (runs is_blank payload))
reply_of Sum payload = sum_text (sum_of (runs is_space payload))
reply_of Sha256 payload = encode_lower (sha256 payload)
reply_of Echo payload = payload
