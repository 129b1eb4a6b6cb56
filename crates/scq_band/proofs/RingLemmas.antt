-- The numbers of words are small.
use Rattle.std.proofs.Common.{◌≡◌, ℕ, ◌*◌, ◌^◌, ◌<◌, ◌≤◌, arith}
use Rattle.std.proofs.Math.Nat.{mul-le-mul_right}
use Rattle.scq_word.specs.declared.setup.Setup.{Setup}
use Rattle.scq_word.specs.Exports.{most_rings}
use Rattle.scq_core.specs.Exports.{Location, tail_of, head_of, threshold_of}
use Rattle.scq_band.specs.declared.ring.Ring.{Ring}
use Rattle.scq_band.specs.Exports.{ring_words, distance, word_count, at, entry_at, IsLocation, IsRing}
use Rattle.scq_band.proofs.EntryOffsets.{columns_few}
use Rattle.scq_band.proofs.Layouts.{at_low}
use Rattle.scq_band.proofs.Grounds.{tail_location, head_location, threshold_location, entry_location}

-- a table has few words
pub few_words : (c : Setup) → word_count c < 2 ^ 32
few_words c =
    let few = columns_few c.order c.order_in_range.1 in
    let rings = c.rings_in_range in
    let le : c.rings * ring_words distance c ≤ most_rings * ring_words distance c = mul-le-mul_right (ring_words distance c) (omega arith) in
    omega arith

pub tail_fits : (c : Setup) (ring : Ring) → IsRing c ring → ring.tail < 2 ^ 32
tail_fits c ring is =
    let low : at c (tail_of ring.number) < word_count c = at_low c (tail_of ring.number) (is.low, tt) in
    let few = few_words c in
    let here = is.tail in
    omega arith

-- a word of a ring is one of the table's
pub word_low : (c : Setup) (l : Location) (word words : ℕ) → IsLocation c l → word ≡ at c l → words ≡ word_count c → word < words
word_low c l word words here is count = let low = at_low c l here in omega arith

-- and so are the words of its rings
pub tail_low : {c : Setup} {ring : Ring} {word words : ℕ} → IsRing c ring → word ≡ at c (tail_of ring.number) → words ≡ word_count c → word < words
tail_low {c} {ring} {word} {words} is here count = word_low c (tail_of ring.number) word words (tail_location c ring.number is.low) here count

pub head_low : {c : Setup} {ring : Ring} {word words : ℕ} → IsRing c ring → word ≡ at c (head_of ring.number) → words ≡ word_count c → word < words
head_low {c} {ring} {word} {words} is here count = word_low c (head_of ring.number) word words (head_location c ring.number is.low) here count

pub threshold_low : {c : Setup} {ring : Ring} {word words : ℕ} → IsRing c ring → word ≡ at c (threshold_of ring.number) → words ≡ word_count c
    → word < words
threshold_low {c} {ring} {word} {words} is here count =
    word_low c (threshold_of ring.number) word words (threshold_location c ring.number is.low) here count

pub entry_low : {c : Setup} {ring : Ring} {word words : ℕ} (ticket : ℕ) → IsRing c ring → word ≡ at c (entry_at c ring.number ticket) → words ≡ word_count c
    → word < words
entry_low {c} {ring} {word} {words} ticket is here count =
    word_low c (entry_at c ring.number ticket) word words (entry_location c ring.number ticket is.low) here count
