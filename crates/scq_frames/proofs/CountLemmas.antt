-- A line whose payload is too long: its bytes are counted and dropped. In place of what the framer
-- holds the lemmas have the whole line.
use Rattle.std.proofs.Common.{◌≡◌, ℕ, ◌+◌, ◌-◌, ◌^◌, ◌<◌, ◌≤◌, false, Option, Err, List, [], ◌++◌, length, take, drop, refl, sym, ◌∙◌, ap, subst, ⊎_elim, arith, length-append, length-drop}
use Rattle.std.specs.Prelude.{IsTrue}
use Rattle.std.specs.List.{position_or_len}
use Rattle.std.proofs.Math.ListN.{get_or-append}
use Rattle.std.proofs.Math.Seq.{take-append-add}
use Rattle.std.proofs.lemmas.Bool.{cases_lt}
use Rattle.std.proofs.lemmas.List.{append-nil, append_assoc, length-take-le, get_or-append-add, get_or-append_right}
use Rattle.std.proofs.lemmas.List.Sums.{fails_before_first, passes_at_first, position_or_len_is}
use Rattle.scq_topics.specs.Exports.{is_space}
use Rattle.scq_frames.specs.declared.fault.FrameFault.{FrameFault}
use Rattle.scq_frames.specs.declared.fault.FrameFault.TheVariants.{ReadFault, TooLong, TooLarge, NoMemory}
use Rattle.scq_frames.specs.Exports.{EndsAt, HasNoLineFeed, payload_of, Fetched, visible_size, Finds, IsTooLong, Comes, Found}
use Rattle.scq_frames.specs.Framing.{Framing}
use Rattle.scq_frames.proofs.TrimLemmas.{holding}
use Rattle.scq_frames.proofs.FindingLemmas.{Gave, Gave-start, Gave-fetched, Refuses, refused}
use Rattle.scq_frames.proofs.ComingLemmas.{Quiet, Quiet-start, Quiet-fetched, Found-told}
use Rattle.scq_frames.proofs.FoundLemmas.{Found-long, Found-long_last, Found-read_err}

-- of a line that has not ended these many payload bytes came so far, too many, and none of the line is held
pub record CountsLongLine {S : Type 0} (left : S → Option (List ℕ)) (faults : S → ℕ) (first now : Framing) (source after : S) (count : ℕ) : Type 0 where
  pub line : List ℕ
  pub clear : HasNoLineFeed line 0 (length line)
  pub grows : (more : List ℕ) → length (payload_of (line ++ more)) ≡ count + length more
  pub long : first.size < count
  pub small : count ≤ now.read
  pub limit : first.most ≤ 2 ^ 30
  pub none : now.held ≡ []
  pub same : now ≡ record first { held = []; read = now.read; ended = now.ended }
  pub began : first.ended ≡ false
  pub going : now.ended ≡ false
  pub within : now.read ≤ now.most
  pub kept : faults after ≡ faults source
  pub size : visible_size now (left after) ≡ visible_size first (left source)
  pub gave : Gave first (holding now line) (left source) (left after)
  pub quiet : Quiet first (holding now line) gave.bytes

-- the payload grows with its line
payload-grows : (line more : List ℕ) → 0 < length (payload_of line) → length (payload_of (line ++ more)) ≡ length (payload_of line) + length more
payload-grows line more some =
    let at : ℕ = position_or_len is_space line in
    let inside : at + 1 < length line = omega (arith, some, length-drop (at + 1) line) in
    let whole : length (line ++ more) ≡ length line + length more = length-append line more in
    let place : position_or_len is_space (line ++ more) ≡ at =
    position_or_len_is is_space (line ++ more) at 0 (omega (arith, inside, whole))
    (λ k low. ap is_space (get_or-append line more 0 k (omega (arith, low, inside))) ∙ fails_before_first is_space line k 0 low)
    (λ _. ap is_space (get_or-append line more 0 at (omega (arith, inside))) ∙ passes_at_first is_space line 0 (omega (arith, inside))) in
    ap (λ (n : ℕ). length (drop (n + 1) (line ++ more))) place
    ∙ omega (arith, whole, inside, length-drop (at + 1) (line ++ more), length-drop (at + 1) line)

-- a line that goes on with bytes among which is no line feed
pub clear-more : (line more : List ℕ) → HasNoLineFeed line 0 (length line) → HasNoLineFeed more 0 (length more)
    → HasNoLineFeed (line ++ more) 0 (length (line ++ more))
clear-more line more one two k low high is =
    ⊎_elim
    (λ (h : k < length line). one k low h (sym (get_or-append line more 0 k h) ∙ is))
    (λ (h : length line ≤ k).
    two (k - length line) (omega arith) (omega (arith, h, high, length-append line more)) (sym (get_or-append_right line more (length line) k 0 refl h) ∙ is))
    (cases_lt k (length line))

-- a line that goes on with bytes in which it ends
ends-more : (line more : List ℕ) (len : ℕ) → HasNoLineFeed line 0 (length line) → EndsAt more len → EndsAt (line ++ more) (length line + len)
ends-more line more len clear ends = record {
  within = omega (arith, ends.within, length-append line more);
  line_feed = get_or-append-add line more len 0 ∙ ends.line_feed;
  before =
      λ k low high is.
      ⊎_elim
      (λ (h : k < length line). clear k low h (sym (get_or-append line more 0 k h) ∙ is))
      (λ (h : length line ≤ k). ends.before (k - length line) (omega arith) (omega (arith, h, high))
      (sym (get_or-append_right line more (length line) k 0 refl h) ∙ is))
      (cases_lt k (length line));
}

-- the counting begins: what is held is the line
pub Counts-start : {S : Type 0} (left : S → Option (List ℕ)) (faults : S → ℕ) (first now : Framing) (source : S) (count : ℕ) → now ≡ record first { held = [] }
    → HasNoLineFeed first.held 0 (length first.held) → count ≡ length (payload_of first.held) → first.size < count → count ≤ first.read
    → first.ended ≡ false → first.read ≤ first.most → first.most ≤ 2 ^ 30
    → CountsLongLine left faults first now source source count
Counts-start left faults first now source count same clear is long small going within limit =
    subst (λ (f : Framing). CountsLongLine left faults first f source source count) (sym same) (record {
      line = first.held;
      clear = clear;
      grows = λ more. payload-grows first.held more (omega (arith, is, long)) ∙ ap (λ (n : ℕ). n + length more) (sym is);
      long = long;
      small = small;
      limit = limit;
      none = refl;
      same = refl;
      began = going;
      going = going;
      within = within;
      kept = refl;
      size = refl;
      gave = Gave-start first (holding (record first { held = [] }) first.held) (left source) (λ failed more. refl) refl;
      quiet = Quiet-start first (holding (record first { held = [] }) first.held) (λ failed more. refl);
    })

-- a read as the whole line sees it
module _ (now new : Framing) (before after : Option (List ℕ)) (line : List ℕ) (none : now.held ≡ []) (fetched : Fetched now new before after)
    (same : new ≡ record now { held = new.held; read = new.read; ended = new.ended }) where
  held_is : new.held ≡ fetched.bytes
  held_is = fetched.held ∙ ap (λ (l : List ℕ). l ++ fetched.bytes) none

  pub line_fetched : Fetched (holding now line) (holding new (line ++ new.held)) before after
  line_fetched = record {
    bytes = fetched.bytes;
    held = ap (λ (l : List ℕ). line ++ l) held_is;
    count = fetched.count;
    moved = fetched.moved;
  }

  pub line_same : holding new (line ++ new.held) ≡ record (holding now line) { held = line ++ new.held; read = new.read; ended = new.ended }
  line_same = ap (λ (f : Framing). holding f (line ++ new.held)) same

  pub line_unread : new ≡ now → holding new (line ++ new.held) ≡ holding now line
  line_unread is =
      ap (λ (l : List ℕ). holding new (line ++ l)) (ap (λ (f : Framing). f.held) is ∙ none) ∙ ap (λ (l : List ℕ). holding new l) (append-nil line)
      ∙ ap (λ (f : Framing). holding f line) is

-- of an answer that is a fault it doesn't matter what is held
Found-holding : (first new : Framing) (held : List ℕ) (before after : Option (List ℕ)) (fault : FrameFault)
    → Found first (holding new held) before after (Err fault) → Found first new before after (Err fault)
Found-holding first new held before after fault f = Found-told f refl (finds fault f.bytes f.finds) (comes fault f.bytes f.comes)
  where
    finds : (fault : FrameFault) (bytes : List ℕ) → Finds first (holding new held) bytes (Err fault) → Finds first new bytes (Err fault)
    finds ReadFault bytes h = h
    finds (TooLong line len) bytes h = h
    finds (TooLarge count) bytes h = h
    finds NoMemory bytes h = h

    comes : (fault : FrameFault) (bytes : List ℕ) → Comes first (holding new held) bytes (Err fault) → Comes first new bytes (Err fault)
    comes ReadFault bytes h = h
    comes (TooLong line len) bytes h = h
    comes (TooLarge count) bytes h = h
    comes NoMemory bytes h = h

pub Found-dropped : (first new : Framing) (held : List ℕ) (before after : Option (List ℕ)) (fault : FrameFault) → Found first new before after (Err fault)
    → Found first (holding new held) before after (Err fault)
Found-dropped first new held before after fault f = Found-holding first (holding new held) new.held before after fault f

module _ {S : Type 0} (left : S → Option (List ℕ)) (faults : S → ℕ) (first now new : Framing) (source mid after : S) (count : ℕ)
    (s : CountsLongLine left faults first now source mid count)
    (same : new ≡ record now { held = new.held; read = new.read; ended = new.ended }) (fetched : Fetched now new (left mid) (left after))
    (few : new.read ≤ now.read + 4096) where
  -- the framers as if they held the whole line
  abbrev was : Framing
  was = holding now s.line

  abbrev grown : Framing
  grown = holding new (s.line ++ new.held)

  abbrev more : Fetched was grown (left mid) (left after)
  more = line_fetched now new (left mid) (left after) s.line s.none fetched same

  as_read : grown ≡ record was { held = grown.held; read = grown.read; ended = grown.ended }
  as_read = line_same now new (left mid) (left after) s.line s.none fetched same

  payload_most : new.size ≡ first.size
  payload_most = ap (λ (f : Framing). f.size) same ∙ ap (λ (f : Framing). f.size) s.same

  passed : new.line ≡ first.line
  passed = ap (λ (f : Framing). f.line) same ∙ ap (λ (f : Framing). f.line) s.same

  -- what the source gave since the call began
  abbrev since : Gave first grown (left source) (left after)
  since = Gave-fetched first was grown (left source) (left mid) (left after) s.gave more s.began s.going s.within as_read

  quiet_since : Quiet first grown (s.gave.bytes ++ more.bytes)
  quiet_since = Quiet-fetched first was grown (left mid) (left after) s.gave.bytes s.quiet more s.clear s.going s.within few as_read

  -- the read failed
  pub Counts-fault : (fault : FrameFault) → Refuses now new fault → Found first new (left source) (left after) (Err fault)
  Counts-fault fault why =
      let still : refused fault ≡ refused ReadFault → grown ≡ was =
      λ e. line_unread now new (left mid) (left after) s.line s.none fetched same (why.unread e) in
      Found-holding first new (s.line ++ new.held) (left source) (left after) fault
      (Found-read_err first was grown (left source) (left mid) (left after) fault s.gave s.quiet more s.clear s.began s.going s.within few as_read
      (record { unread = still; too_large = why.too_large; long = why.long }))

  long_line : (line : List ℕ) (total : ℕ) → total ≡ length (payload_of line) → first.size < total
      → IsTooLong new.size (new.line + 1) line (first.line + 1) total
  long_line line total is long = record {
    number = ap (λ (n : ℕ). n + 1) (sym passed);
    count = is;
    above = omega (arith, payload_most, long);
  }

  -- the line ended
  pub Counts-ended : (len : ℕ) → EndsAt new.held len → new.read ≤ new.most
      → Found first new (left source) (left after) (Err (TooLong (first.line + 1) (count + len)))
  Counts-ended len ends within =
      let at : ℕ = length s.line + len in
      let whole = ends-more s.line new.held len s.clear ends in
      let line : take at (s.line ++ new.held) ≡ s.line ++ take len new.held = take-append-add s.line new.held len in
      let total : count + len ≡ length (payload_of (take at (s.line ++ new.held))) =
      sym (ap (λ (l : List ℕ). length (payload_of l)) line ∙ s.grows (take len new.held)
      ∙ ap (λ (n : ℕ). count + n) (length-take-le len new.held (omega (arith, ends.within)))) in
      let long = long_line (take at (s.line ++ new.held)) (count + len) total (omega (arith, s.long)) in
      Found-holding first new (s.line ++ new.held) (left source) (left after) (TooLong (first.line + 1) (count + len))
      (Found-long since quiet_since at (first.line + 1) (count + len) whole within long)

  -- the end was read
  pub Counts-over : HasNoLineFeed new.held 0 (length new.held) → IsTrue new.ended → new.read ≤ new.most
      → Found first new (left source) (left after) (Err (TooLong (first.line + 1) (count + length new.held)))
  Counts-over clear ended within =
      let whole = clear-more s.line new.held s.clear clear in
      let long = long_line (s.line ++ new.held) (count + length new.held) (sym (s.grows new.held)) (omega (arith, s.long)) in
      Found-holding first new (s.line ++ new.held) (left source) (left after) (TooLong (first.line + 1) (count + length new.held))
      (Found-long_last since quiet_since (first.line + 1) (count + length new.held) whole within ended long)

  -- the line goes on
  pub Counts-more : (next : Framing) → next ≡ record new { held = [] } → HasNoLineFeed new.held 0 (length new.held) → new.ended ≡ false → new.read ≤ new.most
      → faults after ≡ faults mid → visible_size new (left after) ≡ visible_size now (left mid)
      → CountsLongLine left faults first next source after (count + length new.held)
  Counts-more next empty clear going within kept size =
      subst (λ (f : Framing). CountsLongLine left faults first f source after (count + length new.held)) (sym empty) (record {
        line = s.line ++ new.held;
        clear = clear-more s.line new.held s.clear clear;
        grows =
            λ rest.
            ap (λ (l : List ℕ). length (payload_of l)) (append_assoc s.line new.held rest) ∙ s.grows (new.held ++ rest)
            ∙ omega (arith, length-append new.held rest);
        long = omega (arith, s.long);
        small = omega (arith, s.small, fetched.count, ap length fetched.held, length-append now.held fetched.bytes, ap length s.none);
        limit = s.limit;
        none = refl;
        same = ap (λ (f : Framing). holding f []) same ∙ ap (λ (f : Framing). record f { held = []; read = new.read; ended = new.ended }) s.same;
        began = s.began;
        going = going;
        within = within;
        kept = kept ∙ s.kept;
        size = size ∙ s.size;
        gave = since;
        quiet = quiet_since;
      })
