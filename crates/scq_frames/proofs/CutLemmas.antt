-- A text whose first topic was cut: where its front stays, which is longer than any name, the messages
-- are the same but for that topic, and so is the trouble.
use Rattle.std.proofs.Common.{◌≡◌, ℕ, suc, ◌+◌, ◌<◌, ◌≤◌, Bool, true, false, not, List, [], ◌∷◌, ◌++◌, length, take, drop, map, refl, sym, ◌∙◌, ap, arith, length-append}
use Rattle.std.specs.List.{All, position_or_len, before_first}
use Rattle.std.proofs.Math.Seq.{take-append-add}
use Rattle.std.proofs.lemmas.Bool.{true≢false, cond-true, eqb-true, eq-eqb}
use Rattle.std.proofs.lemmas.List.{append_assoc, map-append}
use Rattle.std.proofs.lemmas.List.Elements.{All-append, All-head, All-tail, All-nil, All-cons}
use Rattle.scq_topics.specs.Exports.{is_space}
use Rattle.scq_frames.specs.Exports.{HasNoLineFeed, Framed, framed, payload_of, message_in, messages_after, is_line_feed}
use Rattle.scq_frames.proofs.TextLemmas.{messages_after-line, messages_after-last}

-- a message as one sees it who reads no topics
abbrev pub bare : Framed → Framed
bare m = record { line = m.line; topic = []; payload = m.payload }

-- of a topic with at least so many bytes it sees nothing more
abbrev pub Overlooks : {X : Type 0} → ℕ → (Framed → X) → Type 0
Overlooks most h = (line : ℕ) (topic other payload : List ℕ) → most ≤ length topic → most ≤ length other
    → h (record { line = line; topic = topic; payload = payload }) ≡ h (record { line = line; topic = other; payload = payload })

pub bare-overlooks : (most : ℕ) → Overlooks most bare
bare-overlooks most line topic other payload long longer = refl

pub none_of_bare : (ms : List Framed) → map bare ms ≡ [] → ms ≡ []
none_of_bare [] e = refl
none_of_bare (m ∷ ms) e = cc

-- no byte of these ends a topic or a line
pub record IsTopic (bytes : List ℕ) : Type 0 where
  pub no_space : All (λ b. is_space b ≡ false) bytes
  pub no_line_feed : All (λ b. is_line_feed b ≡ false) bytes

pub All-clear : (bytes : List ℕ) → All (λ b. is_line_feed b ≡ false) bytes → HasNoLineFeed bytes 0 (length bytes)
All-clear bytes all k low high is = true≢false (sym (eq-eqb _ 10 is) ∙ all k 0 high)

pub position-append : (p : ℕ → Bool) (a rest : List ℕ) → All (λ b. p b ≡ false) a → position_or_len p (a ++ rest) ≡ length a + position_or_len p rest
position-append p [] rest all = omega arith
position-append p (x ∷ xs) rest all =
    let more : position_or_len p (xs ++ rest) ≡ length xs + position_or_len p rest = position-append p xs rest (All-tail (λ b. p b ≡ false) x xs all) in
    cond-true (not (p x)) (1 + position_or_len p (xs ++ rest)) 0 (ap not (All-head (λ b. p b ≡ false) x xs all)) ∙ omega (arith, more)

drop-append-add : (a rest : List ℕ) (n : ℕ) → drop (length a + n) (a ++ rest) ≡ drop n rest
drop-append-add [] rest n = ap (λ (k : ℕ). drop k rest) zero_more
  where
    zero_more : 0 + n ≡ n
    zero_more = omega arith
drop-append-add (x ∷ xs) rest n =
    let one_less : length (x ∷ xs) + n ≡ suc (length xs + n) = omega arith in
    ap (λ (k : ℕ). drop k (x ∷ (xs ++ rest))) one_less ∙ drop-append-add xs rest n

-- a line that begins with a topic's bytes
framed-append : (number : ℕ) (a rest : List ℕ) → All (λ b. is_space b ≡ false) a
    → framed number (a ++ rest) ≡ record { line = number; topic = a ++ before_first is_space rest; payload = payload_of rest }
framed-append number a rest all =
    let place : position_or_len is_space (a ++ rest) ≡ length a + position_or_len is_space rest = position-append is_space a rest all in
    let behind : position_or_len is_space (a ++ rest) + 1 ≡ length a + (position_or_len is_space rest + 1) = omega (arith, place) in
    let topic : before_first is_space (a ++ rest) ≡ a ++ before_first is_space rest =
    ap (λ (n : ℕ). take n (a ++ rest)) place ∙ take-append-add a rest (position_or_len is_space rest) in
    let payload : payload_of (a ++ rest) ≡ payload_of rest =
    ap (λ (n : ℕ). drop n (a ++ rest)) behind ∙ drop-append-add a rest (position_or_len is_space rest + 1) in
    ap (λ (t : List ℕ). record { line = number; topic = t; payload = payload_of (a ++ rest) }) topic
    ∙ ap (λ (p : List ℕ). record { line = number; topic = a ++ before_first is_space rest; payload = p }) payload

message_in-some : (number : ℕ) (line : List ℕ) → 0 < length line → message_in number line ≡ framed number line ∷ []
message_in-some number [] some = absurd (omega (arith, some))
message_in-some number (b ∷ bs) some = refl

-- a text begins with a whole line, or has none
data Begins (text : List ℕ) : Type 0 where
  with_line : (line rest : List ℕ) → text ≡ line ++ 10 ∷ rest → All (λ b. is_line_feed b ≡ false) line → Begins text
  with_none : All (λ b. is_line_feed b ≡ false) text → Begins text

begins : (text : List ℕ) → Begins text
begins [] = with_none (All-nil (λ b. is_line_feed b ≡ false))
begins (b ∷ bs) = elim (is_line_feed b) as (λ t. is_line_feed b ≡ t → Begins (b ∷ bs)) [
  | true ↦ λ is. with_line [] bs (ap (λ (x : ℕ). x ∷ bs) (eqb-true b 10 is)) (All-nil (λ b. is_line_feed b ≡ false))
  | false ↦ λ is. onto is (begins bs)
] refl
  where
    onto : is_line_feed b ≡ false → Begins bs → Begins (b ∷ bs)
    onto is (with_line line rest e clear) = with_line (b ∷ line) rest (ap (λ (l : List ℕ). b ∷ l) e) (All-cons (λ b. is_line_feed b ≡ false) b line is clear)
    onto is (with_none clear) = with_none (All-cons (λ b. is_line_feed b ≡ false) b bs is clear)

module _ {X : Type 0} (most : ℕ) (h : Framed → X) (over : Overlooks most h) (a b : List ℕ) (topic : IsTopic (a ++ b)) (front : IsTopic a)
    (long : most ≤ length a) (some : 0 < length a) where
  first-cut : (number : ℕ) (rest : List ℕ) → map h (message_in number ((a ++ b) ++ rest)) ≡ map h (message_in number (a ++ rest))
  first-cut number rest =
      ap (map h) (message_in-some number ((a ++ b) ++ rest) (omega (arith, some, length-append (a ++ b) rest, length-append a b)))
      ∙ ap (λ (m : Framed). h m ∷ []) (framed-append number (a ++ b) rest topic.no_space)
      ∙ ap (λ (x : X). x ∷ []) (over number ((a ++ b) ++ before_first is_space rest) (a ++ before_first is_space rest) (payload_of rest)
      (omega (arith, long, length-append (a ++ b) (before_first is_space rest), length-append a b))
      (omega (arith, long, length-append a (before_first is_space rest))))
      ∙ ap (λ (m : Framed). h m ∷ []) (sym (framed-append number a rest front.no_space))
      ∙ ap (map h) (sym (message_in-some number (a ++ rest) (omega (arith, some, length-append a rest))))

  -- where a whole line begins the rest
  line-cut : (passed : ℕ) (line rest : List ℕ) → All (λ b. is_line_feed b ≡ false) line
      → map h (messages_after passed ((a ++ b) ++ (line ++ 10 ∷ rest))) ≡ map h (messages_after passed (a ++ (line ++ 10 ∷ rest)))
  line-cut passed line rest clear =
      let more = messages_after (passed + 1) rest in
      ap (λ (l : List ℕ). map h (messages_after passed l)) (sym (append_assoc (a ++ b) line (10 ∷ rest)))
      ∙ ap (map h) (messages_after-line passed ((a ++ b) ++ line) rest (All-append (λ b. is_line_feed b ≡ false) (a ++ b) line topic.no_line_feed clear))
      ∙ map-append h (message_in (passed + 1) ((a ++ b) ++ line)) more
      ∙ ap (λ (xs : List X). xs ++ map h more) (first-cut (passed + 1) line)
      ∙ sym (map-append h (message_in (passed + 1) (a ++ line)) more)
      ∙ ap (map h) (sym (messages_after-line passed (a ++ line) rest (All-append (λ b. is_line_feed b ≡ false) a line front.no_line_feed clear)))
      ∙ ap (λ (l : List ℕ). map h (messages_after passed l)) (append_assoc a line (10 ∷ rest))

  last-cut : (passed : ℕ) (rest : List ℕ) → All (λ b. is_line_feed b ≡ false) rest
      → map h (messages_after passed ((a ++ b) ++ rest)) ≡ map h (messages_after passed (a ++ rest))
  last-cut passed rest clear =
      ap (map h) (messages_after-last passed ((a ++ b) ++ rest)
      (All-clear ((a ++ b) ++ rest) (All-append (λ b. is_line_feed b ≡ false) (a ++ b) rest topic.no_line_feed clear)))
      ∙ first-cut (passed + 1) rest
      ∙ ap (map h)
      (sym (messages_after-last passed (a ++ rest) (All-clear (a ++ rest) (All-append (λ b. is_line_feed b ≡ false) a rest front.no_line_feed clear))))

  -- the messages of a text whose first topic was cut
  pub messages-cut : (passed : ℕ) (rest : List ℕ) → map h (messages_after passed ((a ++ b) ++ rest)) ≡ map h (messages_after passed (a ++ rest))
  messages-cut passed rest = by_start (begins rest)
    where
      by_start : Begins rest → map h (messages_after passed ((a ++ b) ++ rest)) ≡ map h (messages_after passed (a ++ rest))
      by_start (with_line line more e clear) =
          ap (λ (l : List ℕ). map h (messages_after passed ((a ++ b) ++ l))) e ∙ line-cut passed line more clear
          ∙ ap (λ (l : List ℕ). map h (messages_after passed (a ++ l))) (sym e)
      by_start (with_none clear) = last-cut passed rest clear
