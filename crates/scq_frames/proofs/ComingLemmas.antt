-- What comes first of what a source gave. While no message came, the messages ahead that count stay
-- the same; the line or the read that ends the search says what the first of them is.
use Rattle.std.proofs.Common.{◌≡◌, ℕ, ◌+◌, ◌-◌, ◌≤◌, Bool, true, false, cond, Option, Some, None, Result, Ok, Err, List, [], ◌∷◌, ◌++◌, length, take, drop, map, refl, sym, ◌∙◌, ap, subst, arith, length-append, length-drop}
use Rattle.std.specs.Prelude.{IsTrue}
use Rattle.std.proofs.Math.ListN.{get_or-append}
use Rattle.std.proofs.lemmas.Bool.{true≢false, le-ltb}
use Rattle.std.proofs.lemmas.List.{append-nil, append_assoc, nil_from_length, length-take-le}
use Rattle.scq_frames.specs.declared.message.Message.{Message}
use Rattle.scq_frames.specs.declared.fault.FrameFault.{FrameFault}
use Rattle.scq_frames.specs.declared.fault.FrameFault.TheVariants.{ReadFault, TooLong, TooLarge, NoMemory}
use Rattle.scq_frames.specs.Exports.{EndsAt, HasNoLineFeed, Framed, message_in, messages_after, counted_bytes, whole_lines, Fetched, limit_left}
use Rattle.scq_frames.specs.Exports.{MayFollow, Finds, IsTooLong, counted_ahead, BeginsWithLong, Comes, IsNeeded, Found}
use Rattle.scq_frames.specs.Framing.{Framing}
use Rattle.scq_frames.proofs.TextLemmas.{ended_parts, line-clear, messages_after-line, messages_after-last, messages_after-nil}
use Rattle.scq_frames.proofs.TroubleLemmas.{counted-line, counted-failed, counted-many}
use Rattle.scq_frames.proofs.CutLemmas.{bare, none_of_bare}
use Rattle.scq_frames.proofs.FindingLemmas.{Finds-done, Refuses, ahead-fetched}

-- since a call began the source gave these bytes, which were needed, and no message came. The messages
-- ahead are the same, but that a topic may have been cut
pub record Quiet (first now : Framing) (bytes : List ℕ) : Type 0 where
  pub same : (failed : Bool) (more : List ℕ) → MayFollow now failed more
      → map bare (counted_ahead first failed (bytes ++ more)) ≡ map bare (counted_ahead now failed more)
  pub needed : IsNeeded first bytes

pub Quiet-start : (first now : Framing) → ((failed : Bool) (more : List ℕ) → counted_ahead first failed more ≡ counted_ahead now failed more)
    → Quiet first now []
Quiet-start first now same = record {
  same = λ failed more _. ap (map bare) (same failed more);
  needed = record { early = []; last = []; parts = refl; most = omega arith; none = λ some. absurd (some refl) };
}

-- a whole line's message comes first in what is ahead
counted_ahead-line : (f : Framing) (len weight : ℕ) (failed : Bool) (more : List ℕ) → EndsAt f.held len → f.read ≤ f.most
    → counted_ahead f failed more
    ≡ message_in (f.line + 1) (take len f.held) ++ counted_ahead (record f { line = f.line + 1; held = drop (len + 1) f.held; weight = weight }) failed more
counted_ahead-line f len weight failed more ends within =
    let count : length (take len f.held) ≡ len = length-take-le len f.held (omega (arith, ends.within)) in
    let behind = drop (len + 1) f.held ++ more in
    let rest : limit_left f - (length (take len f.held) + 1) ≡ f.most + length (drop (len + 1) f.held) - f.read =
    omega (arith, ends.within, length-drop (len + 1) f.held) in
    ap (λ (l : List ℕ). messages_after f.line (counted_bytes (limit_left f) failed l)) (ended_parts f.held more len ends)
    ∙ ap (messages_after f.line) (counted-line (limit_left f) failed (take len f.held) behind (omega (arith, ends.within)))
    ∙ messages_after-line f.line (take len f.held) (counted_bytes (limit_left f - (length (take len f.held) + 1)) failed behind) (line-clear f.held len ends)
    ∙ ap (λ (n : ℕ). message_in (f.line + 1) (take len f.held) ++ messages_after (f.line + 1) (counted_bytes n failed behind)) rest

-- a line without a message was passed
pub Quiet-line : (first old : Framing) (bytes : List ℕ) (len weight : ℕ) → Quiet first old bytes → EndsAt old.held len → old.read ≤ old.most
    → message_in (old.line + 1) (take len old.held) ≡ []
    → Quiet first (record old { line = old.line + 1; held = drop (len + 1) old.held; weight = weight }) bytes
Quiet-line first old bytes len weight q ends within none = record {
  same = λ failed more may.
      q.same failed more may ∙ ap (map bare) (counted_ahead-line old len weight failed more ends within
      ∙ ap (λ (ms : List Framed). ms ++ counted_ahead (record old { line = old.line + 1; held = drop (len + 1) old.held; weight = weight }) failed more) none);
  needed = q.needed;
}

-- where no line is whole, no message is, should a read fail next
pub none_whole : (f : Framing) → HasNoLineFeed f.held 0 (length f.held) → f.read ≤ f.most → counted_ahead f true [] ≡ []
none_whole f clear within =
    ap (λ (l : List ℕ). messages_after f.line (counted_bytes (limit_left f) true l)) (append-nil f.held)
    ∙ ap (messages_after f.line) (counted-failed (limit_left f) f.held clear (omega arith)) ∙ messages_after-nil f.line

-- so none is of what came since the call began
pub none_came : (first now : Framing) (bytes more : List ℕ) (failed : Bool) → Quiet first now bytes → now.ended ≡ false → counted_ahead now failed more ≡ []
    → counted_ahead first failed (bytes ++ more) ≡ []
none_came first now bytes more failed q going none =
    none_of_bare (counted_ahead first failed (bytes ++ more)) (q.same failed more (λ h. absurd (true≢false (sym h ∙ going))) ∙ ap (map bare) none)

-- so a read then is needed
pub needed-fetched : (first old new : Framing) (mid after : Option (List ℕ)) (bytes : List ℕ) (q : Quiet first old bytes) (fetched : Fetched old new mid after)
    → HasNoLineFeed old.held 0 (length old.held) → old.ended ≡ false → old.read ≤ old.most → new.read ≤ old.read + 4096
    → IsNeeded first (bytes ++ fetched.bytes)
needed-fetched first old new mid after bytes q fetched clear going within few = record {
  early = bytes;
  last = fetched.bytes;
  parts = refl;
  most = omega (arith, fetched.count);
  none = λ _. ap (counted_ahead first true) (sym (append-nil bytes)) ∙ none_came first old bytes [] true q going (none_whole old clear within);
}

pub Quiet-fetched : (first old new : Framing) (mid after : Option (List ℕ)) (bytes : List ℕ) → Quiet first old bytes → (fetched : Fetched old new mid after)
    → HasNoLineFeed old.held 0 (length old.held) → old.ended ≡ false → old.read ≤ old.most → new.read ≤ old.read + 4096
    → new ≡ record old { held = new.held; read = new.read; ended = new.ended } → Quiet first new (bytes ++ fetched.bytes)
Quiet-fetched first old new mid after bytes q fetched clear going within few same = record {
  same = λ failed more may.
      ap (λ (l : List ℕ). map bare (counted_ahead first failed l)) (append_assoc bytes fetched.bytes more)
      ∙ q.same failed (fetched.bytes ++ more) (λ h. absurd (true≢false (sym h ∙ going)))
      ∙ ahead-fetched (λ size limit line text. map bare (messages_after line (counted_bytes limit failed text))) old new mid after fetched within same more;
  needed = needed-fetched first old new mid after bytes q fetched clear going within few;
}

-- the message of a line that is too long
begins-long : (size number at count : ℕ) (line : List ℕ) (rest : List Framed) → IsTooLong size number line at count
    → BeginsWithLong at count (message_in number line ++ rest)
begins-long size number at count [] rest long = absurd (omega (arith, long.above, long.count))
begins-long size number at count (b ∷ bs) rest long = (sym long.number, sym long.count)

-- who reads no topics sees that a message is too long, and nobody else sees more of it
long_bare : (at count : ℕ) (ms : List Framed) → BeginsWithLong at count ms → BeginsWithLong at count (map bare ms)
long_bare at count [] long = long
long_bare at count (m ∷ ms) long = long

bare_long : (at count : ℕ) (ms : List Framed) → BeginsWithLong at count (map bare ms) → BeginsWithLong at count ms
bare_long at count [] long = long
bare_long at count (m ∷ ms) long = long

pub long_same : (at count : ℕ) (ms ns : List Framed) → map bare ms ≡ map bare ns → BeginsWithLong at count ns → BeginsWithLong at count ms
long_same at count ms ns same long = bare_long at count ms (subst (BeginsWithLong at count) (sym same) (long_bare at count ns long))

-- the first line is too long, whatever follows
pub Comes-long : (first old new : Framing) (len at count : ℕ) (bytes : List ℕ) (q : Quiet first old bytes) → EndsAt old.held len → old.read ≤ old.most
    → (IsTrue old.ended → IsTrue new.ended)
    → IsTooLong old.size (old.line + 1) (take len old.held) at count → Comes first new bytes (Err (TooLong at count))
Comes-long first old new len at count bytes q ends within stays long = λ failed more may.
    let behind = counted_ahead (record old { line = old.line + 1; held = drop (len + 1) old.held; weight = old.weight }) failed more in
    long_same at count (counted_ahead first failed (bytes ++ more)) (message_in (old.line + 1) (take len old.held) ++ behind)
    (q.same failed more (λ h. may (stays h)) ∙ ap (map bare) (counted_ahead-line old len old.weight failed more ends within))
    (begins-long old.size (old.line + 1) at count (take len old.held) behind long)

-- at the end, what is held is the last line
last_ahead : (f : Framing) → HasNoLineFeed f.held 0 (length f.held) → f.read ≤ f.most → counted_ahead f false [] ≡ message_in (f.line + 1) f.held
unfolding counted_bytes
last_ahead f clear within =
    ap (λ (l : List ℕ). messages_after f.line (counted_bytes (limit_left f) false l)) (append-nil f.held)
    ∙ ap (λ (t : Bool). messages_after f.line (cond t (whole_lines (take (limit_left f) f.held)) f.held)) (le-ltb (limit_left f) (length f.held) (omega arith))
    ∙ messages_after-last f.line f.held clear

-- and nothing follows
at_end : (first old : Framing) (bytes : List ℕ) (q : Quiet first old bytes) → HasNoLineFeed old.held 0 (length old.held) → old.read ≤ old.most
    → map bare (counted_ahead first false (bytes ++ [])) ≡ map bare (message_in (old.line + 1) old.held)
at_end first old bytes q clear within = q.same false [] (λ _. (refl, refl)) ∙ ap (map bare) (last_ahead old clear within)

-- the last line is too long
pub Comes-long_last : (first old new : Framing) (at count : ℕ) (bytes : List ℕ) (q : Quiet first old bytes) → HasNoLineFeed old.held 0 (length old.held)
    → old.read ≤ old.most → IsTrue new.ended
    → IsTooLong old.size (old.line + 1) old.held at count → Comes first new bytes (Err (TooLong at count))
Comes-long_last first old new at count bytes q clear within ended long = λ failed more may.
    let nothing = may ended in
    let same : map bare (counted_ahead first failed (bytes ++ more)) ≡ map bare (message_in (old.line + 1) old.held ++ []) =
    ap (λ (l : List ℕ). map bare (counted_ahead first failed (bytes ++ l))) nothing.0
    ∙ ap (λ (b : Bool). map bare (counted_ahead first b (bytes ++ []))) nothing.1
    ∙ at_end first old bytes q clear within ∙ ap (map bare) (sym (append-nil (message_in (old.line + 1) old.held))) in
    long_same at count (counted_ahead first failed (bytes ++ more)) (message_in (old.line + 1) old.held ++ []) same
    (begins-long old.size (old.line + 1) at count old.held [] long)

-- a read was refused: behind what is held, none of which is a whole line
pub Comes-read_err : (first old new : Framing) (mid after : Option (List ℕ)) (fault : FrameFault) (bytes : List ℕ) (q : Quiet first old bytes)
    (fetched : Fetched old new mid after)
    → HasNoLineFeed old.held 0 (length old.held) → old.read ≤ old.most → old.ended ≡ false
    → new ≡ record old { held = new.held; read = new.read; ended = new.ended }
    → Refuses old new fault → Comes first new (bytes ++ fetched.bytes) (Err fault)
Comes-read_err first old new mid after ReadFault bytes q fetched clear within going same why =
    let count : length old.held ≡ length old.held + length fetched.bytes =
    sym (ap (λ (f : Framing). length f.held) (why.unread refl)) ∙ ap length fetched.held ∙ length-append old.held fetched.bytes in
    let nothing : fetched.bytes ≡ [] = nil_from_length fetched.bytes (omega arith) in
    ap (λ (l : List ℕ). counted_ahead first true (bytes ++ l)) nothing ∙ none_came first old bytes [] true q going (none_whole old clear within)
Comes-read_err first old new mid after (TooLong at len) bytes q fetched clear within going same why = absurd (why.long at len refl)
Comes-read_err first old new mid after (TooLarge n) bytes q fetched clear within going same why =
    let facts = why.too_large n refl in
    let full : old.read ≡ old.most = facts.2 in
    let most : new.most ≡ old.most = ap (λ (f : Framing). f.most) same in
    let one : length fetched.bytes ≡ 1 = omega (arith, fetched.count) in
    let text = old.held ++ fetched.bytes in
    let limit : limit_left old ≡ length old.held = omega arith in
    let front : HasNoLineFeed text 0 (limit_left old) =
    λ k low high is. clear k low (omega arith) (sym (get_or-append old.held fetched.bytes 0 k (omega arith)) ∙ is) in
    none_came first old bytes fetched.bytes false q going
    (ap (messages_after old.line) (counted-many (limit_left old) false text front (omega (arith, length-append old.held fetched.bytes)))
    ∙ messages_after-nil old.line)
Comes-read_err first old new mid after NoMemory bytes q fetched clear within going same why = tt

-- the end was read, and nothing was held
pub Comes-none : (first old new : Framing) (bytes : List ℕ) (q : Quiet first old bytes) → HasNoLineFeed old.held 0 (length old.held) → old.read ≤ old.most
    → old.held ≡ [] → Comes first new bytes (Ok None)
Comes-none first old new bytes q clear within none =
    ap (counted_ahead first false) (sym (append-nil bytes))
    ∙ none_of_bare (counted_ahead first false (bytes ++ []))
    (at_end first old bytes q clear within ∙ ap (λ (l : List ℕ). map bare (message_in (old.line + 1) l)) none)

-- whether a call failed doesn't matter to it
Comes-done : (first now : Framing) (bytes : List ℕ) (given : Option Message) (failed : Bool) → Comes first now bytes (Ok given)
    → Comes first (record now { failed = failed }) bytes (Ok given)
Comes-done first now bytes None failed comes = comes
Comes-done first now bytes (Some m) failed comes = comes

-- what a call found where another framer, that read as many bytes, has its place
pub Found-told : {first now other : Framing} {before after : Option (List ℕ)} {result : Result (Option Message) FrameFault}
    (f : Found first now before after result) → other.read ≡ now.read → Finds first other f.bytes result → Comes first other f.bytes result
    → Found first other before after result
Found-told f read finds comes = record {
  bytes = f.bytes;
  count = read ∙ f.count;
  moved = f.moved;
  idle = f.idle;
  needed = f.needed;
  finds = finds;
  comes = comes;
}

-- whether a call failed doesn't matter to it
pub Found-done : (first now : Framing) (before after : Option (List ℕ)) (given : Option Message) (failed : Bool)
    → Found first now before after (Ok given) → Found first (record now { failed = failed }) before after (Ok given)
Found-done first now before after given failed f =
    Found-told f refl (Finds-done first now f.bytes given failed f.finds) (Comes-done first now f.bytes given failed f.comes)
