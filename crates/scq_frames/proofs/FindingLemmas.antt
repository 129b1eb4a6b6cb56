-- The trouble ahead of a framer, kept through its lines and reads, and found at its faults.
use Rattle.std.proofs.Common.{◌≡◌, ℕ, ◌+◌, ◌-◌, ◌<◌, ◌≤◌, Bool, true, false, Option, Some, None, Result, Ok, Err, List, [], ◌++◌, length, take, drop, refl, sym, ◌∙◌, ap, arith, length-append, length-drop}
use Rattle.std.specs.Prelude.{IsTrue, ◌≢◌}
use Rattle.std.specs.Option.{option_map, option_or}
use Rattle.std.proofs.Math.ListN.{get_or-append}
use Rattle.std.proofs.lemmas.Bool.{true≢false}
use Rattle.std.proofs.lemmas.List.{append-nil, append_assoc, nil_from_length, length-take-le}
use Rattle.scq_frames.specs.declared.message.Message.{Message}
use Rattle.scq_frames.specs.declared.fault.FrameFault.{FrameFault}
use Rattle.scq_frames.specs.declared.fault.FrameFault.TheVariants.{ReadFault, TooLong, TooLarge, NoMemory}
use Rattle.scq_frames.specs.Exports.{EndsAt, HasNoLineFeed, payload_of, message_in, LongPayload, trouble_after, first_too_long, Fetched, limit_left}
use Rattle.scq_frames.specs.Exports.{trouble_ahead, MayFollow, SameTrouble, Finds, IsTooLong, Found}
use Rattle.scq_frames.specs.Trouble.{Trouble}
use Rattle.scq_frames.specs.Framing.{Framing}
use Rattle.scq_frames.proofs.AheadLemmas.{option_map-nothing}
use Rattle.scq_frames.proofs.TextLemmas.{ended_parts, line-clear}
use Rattle.scq_frames.proofs.TroubleLemmas.{trouble_after-line, trouble_after-last, trouble_after-failed, trouble_after-many, first_too_long-fits, first_too_long-long}

-- since a call began the source gave these bytes, and with them the trouble ahead is the same
pub record Gave (first now : Framing) (before after : Option (List ℕ)) : Type 0 where
  pub bytes : List ℕ
  pub count : now.read ≡ first.read + length bytes
  pub moved : before ≡ option_map (λ rest. bytes ++ rest) after
  pub idle : IsTrue first.ended → bytes ≡ []
  pub trouble : SameTrouble first now bytes

pub nothing_moved : (left : Option (List ℕ)) → left ≡ option_map (λ rest. [] ++ rest) left
nothing_moved left = sym (option_map-nothing left)

pub moved-moved : (first second : List ℕ) (before mid after : Option (List ℕ)) → before ≡ option_map (λ rest. first ++ rest) mid
    → mid ≡ option_map (λ rest. second ++ rest) after
    → before ≡ option_map (λ rest. (first ++ second) ++ rest) after
moved-moved first second before mid None one two = one ∙ ap (option_map (λ rest. first ++ rest)) two
moved-moved first second before mid (Some bytes) one two =
    one ∙ ap (option_map (λ rest. first ++ rest)) two ∙ ap Some (sym (append_assoc first second bytes))

abbrev pub Gave-start : (first now : Framing) (left : Option (List ℕ))
    → ((failed : Bool) (more : List ℕ) → trouble_ahead first failed more ≡ trouble_ahead now failed more) → now.read ≡ first.read → Gave first now left left
Gave-start first now left same unread = record {
  bytes = [];
  count = omega arith;
  moved = nothing_moved left;
  idle = λ _. refl;
  trouble = λ failed more _. same failed more;
}

-- a whole line comes first in what is ahead
line_first : (f : Framing) (len : ℕ) (failed : Bool) (more : List ℕ) → EndsAt f.held len → f.read ≤ f.most
    → trouble_ahead f failed more
    ≡ option_or (first_too_long f.size (message_in (f.line + 1) (take len f.held)))
    (trouble_after f.size (limit_left f - (len + 1)) failed (f.line + 1) (drop (len + 1) f.held ++ more))
line_first f len failed more ends within =
    let count : length (take len f.held) ≡ len = length-take-le len f.held (omega (arith, ends.within)) in
    ap (trouble_after f.size (limit_left f) failed f.line) (ended_parts f.held more len ends)
    ∙ trouble_after-line f.size (limit_left f) failed f.line (take len f.held) (drop (len + 1) f.held ++ more) (line-clear f.held len ends)
    (omega (arith, ends.within))
    ∙ ap (λ (n : ℕ). option_or (first_too_long f.size (message_in (f.line + 1) (take len f.held)))
    (trouble_after f.size (limit_left f - (n + 1)) failed (f.line + 1) (drop (len + 1) f.held ++ more))) count

-- a line whose payload fits takes nothing from the trouble ahead
pub trouble_ahead-line : (f : Framing) (len weight : ℕ) (failed : Bool) (more : List ℕ) → EndsAt f.held len → f.read ≤ f.most
    → length (payload_of (take len f.held)) ≤ f.size
    → trouble_ahead f failed more ≡ trouble_ahead (record f { line = f.line + 1; held = drop (len + 1) f.held; weight = weight }) failed more
trouble_ahead-line f len weight failed more ends within fits =
    let rest : limit_left f - (len + 1) ≡ f.most + length (drop (len + 1) f.held) - f.read = omega (arith, ends.within, length-drop (len + 1) f.held) in
    line_first f len failed more ends within
    ∙ ap (λ (o : Option Trouble). option_or o (trouble_after f.size (limit_left f - (len + 1)) failed (f.line + 1) (drop (len + 1) f.held ++ more)))
    (first_too_long-fits f.size (f.line + 1) (take len f.held) fits)
    ∙ ap (λ (n : ℕ). trouble_after f.size n failed (f.line + 1) (drop (len + 1) f.held ++ more)) rest

pub trouble-line : (first old : Framing) (bytes : List ℕ) (len weight : ℕ) → SameTrouble first old bytes → EndsAt old.held len → old.read ≤ old.most
    → length (payload_of (take len old.held)) ≤ old.size
    → SameTrouble first (record old { line = old.line + 1; held = drop (len + 1) old.held; weight = weight }) bytes
trouble-line first old bytes len weight same ends within fits =
    λ failed more may. same failed more may ∙ trouble_ahead-line old len weight failed more ends within fits

-- what was fetched was ahead, in all that the size, the limit, the line and the bytes ahead tell
pub ahead-fetched : {X : Type 0} (told : ℕ → ℕ → ℕ → List ℕ → X) (old new : Framing) (before after : Option (List ℕ))
    (fetched : Fetched old new before after) → old.read ≤ old.most → new ≡ record old { held = new.held; read = new.read; ended = new.ended } → (more : List ℕ)
    → told old.size (limit_left old) old.line (old.held ++ (fetched.bytes ++ more)) ≡ told new.size (limit_left new) new.line (new.held ++ more)
ahead-fetched told old new before after fetched within same more =
    let count : length new.held ≡ length old.held + length fetched.bytes = ap length fetched.held ∙ length-append old.held fetched.bytes in
    let most : new.most ≡ old.most = ap (λ (f : Framing). f.most) same in
    let size : new.size ≡ old.size = ap (λ (f : Framing). f.size) same in
    let line : new.line ≡ old.line = ap (λ (f : Framing). f.line) same in
    let limit : limit_left old ≡ limit_left new = omega (arith, fetched.count) in
    let text : old.held ++ (fetched.bytes ++ more) ≡ new.held ++ more =
    sym (append_assoc old.held fetched.bytes more) ∙ ap (λ (l : List ℕ). l ++ more) (sym fetched.held) in
    cc

abbrev pub Gave-fetched : (first old new : Framing) (before mid after : Option (List ℕ)) → Gave first old before mid → Fetched old new mid after
    → first.ended ≡ false → old.ended ≡ false → old.read ≤ old.most → new ≡ record old { held = new.held; read = new.read; ended = new.ended }
    → Gave first new before after
Gave-fetched first old new before mid after g fetched began going within same = record {
  bytes = g.bytes ++ fetched.bytes;
  count = omega (arith, g.count, fetched.count, length-append g.bytes fetched.bytes);
  moved = moved-moved g.bytes fetched.bytes before mid after g.moved fetched.moved;
  idle = λ h. absurd (true≢false (sym h ∙ began));
  trouble = λ failed more may.
      ap (trouble_ahead first failed) (append_assoc g.bytes fetched.bytes more)
      ∙ g.trouble failed (fetched.bytes ++ more) (λ h. absurd (true≢false (sym h ∙ going)))
      ∙ ahead-fetched (λ size limit line text. trouble_after size limit failed line text) old new mid after fetched within same more;
}

-- the trouble ahead of a call, where nothing more comes
so_far : (first now : Framing) (before after : Option (List ℕ)) (g : Gave first now before after) (failed : Bool) → MayFollow now failed []
    → trouble_ahead first failed g.bytes ≡ trouble_ahead now failed []
so_far first now before after g failed may = ap (trouble_ahead first failed) (sym (append-nil g.bytes)) ∙ g.trouble failed [] may

-- at the end, what is held is the last line
at_end : (f : Framing) → HasNoLineFeed f.held 0 (length f.held) → f.read ≤ f.most
    → trouble_ahead f false [] ≡ first_too_long f.size (message_in (f.line + 1) f.held)
at_end f clear within =
    ap (trouble_after f.size (limit_left f) false f.line) (append-nil f.held) ∙ trouble_after-last f.size (limit_left f) f.line f.held clear (omega arith)

-- behind a failed read it doesn't count
behind_fault : (f : Framing) → HasNoLineFeed f.held 0 (length f.held) → f.read ≤ f.most → trouble_ahead f true [] ≡ None
behind_fault f clear within =
    ap (trouble_after f.size (limit_left f) true f.line) (append-nil f.held) ∙ trouble_after-failed f.size (limit_left f) f.line f.held clear (omega arith)

-- behind the last line nothing is ahead
behind_last : (f : Framing) → f.held ≡ [] → f.read ≤ f.most → trouble_ahead f false [] ≡ None
behind_last f none within =
    at_end f (λ k low high is. absurd (omega (arith, ap length none))) within ∙ ap (λ (l : List ℕ). first_too_long f.size (message_in (f.line + 1) l)) none

-- at the end nothing was held, and there was no trouble
pub Finds-none : (first old new : Framing) (before after : Option (List ℕ)) (g : Gave first old before after)
    → HasNoLineFeed old.held 0 (length old.held) → old.read ≤ old.most → length (payload_of old.held) ≤ old.size → Finds first new g.bytes (Ok None)
Finds-none first old new before after g clear within fits =
    so_far first old before after g false (λ _. (refl, refl)) ∙ at_end old clear within ∙ first_too_long-fits old.size (old.line + 1) old.held fits

-- the last line was passed, and nothing is ahead
pub Finds-last : (first old new : Framing) (before after : Option (List ℕ)) (m : Message) (g : Gave first old before after)
    → HasNoLineFeed old.held 0 (length old.held) → old.read ≤ old.most → length (payload_of old.held) ≤ old.size
    → IsTrue new.ended → new.held ≡ [] → new.read ≤ new.most → Finds first new g.bytes (Ok (Some m))
Finds-last first old new before after m g clear within fits ended none still = λ failed more may.
    let nothing = may ended in
    ap (λ (l : List ℕ). trouble_ahead first failed (g.bytes ++ l)) nothing.0
    ∙ ap (λ (b : Bool). trouble_ahead first b (g.bytes ++ [])) nothing.1
    ∙ g.trouble false [] (λ _. (refl, refl)) ∙ at_end old clear within ∙ first_too_long-fits old.size (old.line + 1) old.held fits
    ∙ sym (behind_last new none still)
    ∙ ap (λ (b : Bool). trouble_ahead new b []) (sym nothing.1)
    ∙ ap (λ (l : List ℕ). trouble_ahead new failed l) (sym nothing.0)

-- whether a call failed doesn't matter to what is ahead
pub Finds-done : (first now : Framing) (bytes : List ℕ) (given : Option Message) (failed : Bool) → Finds first now bytes (Ok given)
    → Finds first (record now { failed = failed }) bytes (Ok given)
Finds-done first now bytes None failed finds = finds
Finds-done first now bytes (Some m) failed finds = finds

-- the first line is too long
pub Finds-long : (first old new : Framing) (before after : Option (List ℕ)) (len at count : ℕ) (g : Gave first old before after) → EndsAt old.held len
    → old.read ≤ old.most
    → IsTooLong old.size (old.line + 1) (take len old.held) at count → Finds first new g.bytes (Err (TooLong at count))
Finds-long first old new before after len at count g ends within long =
    let above : old.size < length (payload_of (take len old.held)) = omega (arith, long.above, long.count) in
    so_far first old before after g false (λ _. (refl, refl)) ∙ line_first old len false [] ends within
    ∙ ap (λ (o : Option Trouble). option_or o (trouble_after old.size (limit_left old - (len + 1)) false (old.line + 1) (drop (len + 1) old.held ++ [])))
    (first_too_long-long old.size (old.line + 1) (take len old.held) above)
    ∙ ap (λ (n : ℕ). Some (LongPayload n (length (payload_of (take len old.held))))) (sym long.number)
    ∙ ap (λ (n : ℕ). Some (LongPayload at n)) (sym long.count)

-- the last line is too long
pub Finds-long_last : (first old new : Framing) (before after : Option (List ℕ)) (at count : ℕ) (g : Gave first old before after)
    → HasNoLineFeed old.held 0 (length old.held) → old.read ≤ old.most
    → IsTooLong old.size (old.line + 1) old.held at count → Finds first new g.bytes (Err (TooLong at count))
Finds-long_last first old new before after at count g clear within long =
    let above : old.size < length (payload_of old.held) = omega (arith, long.above, long.count) in
    so_far first old before after g false (λ _. (refl, refl)) ∙ at_end old clear within ∙ first_too_long-long old.size (old.line + 1) old.held above
    ∙ ap (λ (n : ℕ). Some (LongPayload n (length (payload_of old.held)))) (sym long.number)
    ∙ ap (λ (n : ℕ). Some (LongPayload at n)) (sym long.count)

-- a read failed
pub Finds-read_fault : (first old new : Framing) (before mid after : Option (List ℕ)) (g : Gave first old before mid) (fetched : Fetched old new mid after)
    → HasNoLineFeed old.held 0 (length old.held)
    → old.read ≤ old.most → old.ended ≡ false → new ≡ old → Finds first new (g.bytes ++ fetched.bytes) (Err ReadFault)
Finds-read_fault first old new before mid after g fetched clear within going same =
    let count : length old.held ≡ length old.held + length fetched.bytes =
    sym (ap (λ (f : Framing). length f.held) same) ∙ ap length fetched.held ∙ length-append old.held fetched.bytes in
    let nothing : fetched.bytes ≡ [] = nil_from_length fetched.bytes (omega arith) in
    ap (λ (l : List ℕ). trouble_ahead first true (g.bytes ++ l)) nothing ∙ ap (trouble_ahead first true) (append-nil g.bytes)
    ∙ so_far first old before mid g true (λ h. absurd (true≢false (sym h ∙ going))) ∙ behind_fault old clear within

-- a byte past the limit was read
pub Finds-too_large : (first old new : Framing) (before mid after : Option (List ℕ)) (g : Gave first old before mid) (fetched : Fetched old new mid after)
    (count : ℕ) → HasNoLineFeed old.held 0 (length old.held)
    → old.read ≡ old.most → old.ended ≡ false → new.read ≡ old.most + 1 → Finds first new (g.bytes ++ fetched.bytes) (Err (TooLarge count))
Finds-too_large first old new before mid after g fetched count clear full going past =
    let one : length fetched.bytes ≡ 1 = omega (arith, fetched.count) in
    let text = old.held ++ fetched.bytes in
    let limit : limit_left old ≡ length old.held = omega arith in
    let front : HasNoLineFeed text 0 (limit_left old) =
    λ k low high is. clear k low (omega arith) (sym (get_or-append old.held fetched.bytes 0 k (omega arith)) ∙ is) in
    g.trouble false fetched.bytes (λ h. absurd (true≢false (sym h ∙ going)))
    ∙ trouble_after-many old.size (limit_left old) false old.line text front (omega (arith, length-append old.held fetched.bytes))

-- a read is refused for one of these
abbrev pub refused : FrameFault → Result (Unit {0}) FrameFault
refused fault = Err fault

pub record Refuses (old new : Framing) (fault : FrameFault) : Type 0 where
  pub unread : refused fault ≡ refused ReadFault → new ≡ old
  pub too_large : (n : ℕ) → refused fault ≡ refused (TooLarge n) → (n ≡ new.most + 1) × (new.read ≡ n) × (old.read ≡ old.most)
  pub long : (at len : ℕ) → refused fault ≢ refused (TooLong at len)

pub Finds-read_err : (first old new : Framing) (before mid after : Option (List ℕ)) (fault : FrameFault) (g : Gave first old before mid)
    (fetched : Fetched old new mid after) → HasNoLineFeed old.held 0 (length old.held)
    → old.read ≤ old.most → old.ended ≡ false → new ≡ record old { held = new.held; read = new.read; ended = new.ended }
    → Refuses old new fault → Finds first new (g.bytes ++ fetched.bytes) (Err fault)
Finds-read_err first old new before mid after ReadFault g fetched clear within going same why =
    Finds-read_fault first old new before mid after g fetched clear within going (why.unread refl)
Finds-read_err first old new before mid after (TooLong at len) g fetched clear within going same why = absurd (why.long at len refl)
Finds-read_err first old new before mid after (TooLarge n) g fetched clear within going same why =
    let facts = why.too_large n refl in
    let most : new.most ≡ old.most = ap (λ (f : Framing). f.most) same in
    Finds-too_large first old new before mid after g fetched n clear facts.2 going (omega arith)
Finds-read_err first old new before mid after NoMemory g fetched clear within going same why = tt

-- what an answer says of all the bytes that the source gave since an earlier call
pub record FoundSince (old new : Framing) (before after : Option (List ℕ)) (result : Result (Option Message) FrameFault) : Type 0 where
  pub bytes : List ℕ
  pub count : new.read ≡ old.read + length bytes
  pub moved : before ≡ option_map (λ rest. bytes ++ rest) after
  pub idle : IsTrue old.ended → bytes ≡ []
  pub finds : Finds old new bytes result

-- what a call finds after earlier ones that gave messages, is found of all that the source gave
pub Gave-found : (first old new : Framing) (before mid after : Option (List ℕ)) (result : Result (Option Message) FrameFault) → Gave first old before mid
    → Found old new mid after result
    → (IsTrue first.ended → IsTrue old.ended) → (IsTrue old.ended → IsTrue new.ended) → (result ≡ Err ReadFault → old.ended ≡ false)
    → FoundSince first new before after result
Gave-found first old new before mid after result g f ended stays going = record {
  bytes = g.bytes ++ f.bytes;
  count = omega (arith, g.count, f.count, length-append g.bytes f.bytes);
  moved = moved-moved g.bytes f.bytes before mid after g.moved f.moved;
  idle = λ h. ap (λ (l : List ℕ). l ++ f.bytes) (g.idle h) ∙ f.idle (ended h);
  finds = joined result f.finds going;
}
  where
    calm : (failed : Bool) → (IsTrue old.ended → failed ≡ false) → trouble_ahead first failed (g.bytes ++ f.bytes) ≡ trouble_ahead old failed f.bytes
    calm failed quiet = g.trouble failed f.bytes (λ h. (f.idle h, quiet h))

    joined : (r : Result (Option Message) FrameFault) → Finds old new f.bytes r → (r ≡ Err ReadFault → old.ended ≡ false)
        → Finds first new (g.bytes ++ f.bytes) r
    joined (Ok (Some m)) finds going = λ failed more may.
        ap (trouble_ahead first failed) (append_assoc g.bytes f.bytes more)
        ∙ g.trouble failed (f.bytes ++ more) (λ h. let none = may (stays h) in (ap (λ (l : List ℕ). l ++ more) (f.idle h) ∙ none.0, none.1))
        ∙ finds failed more may
    joined (Ok None) finds going = calm false (λ _. refl) ∙ finds
    joined (Err ReadFault) finds going = calm true (λ h. absurd (true≢false (sym h ∙ going refl))) ∙ finds
    joined (Err (TooLong line len)) finds going = calm false (λ _. refl) ∙ finds
    joined (Err (TooLarge count)) finds going = calm false (λ _. refl) ∙ finds
    joined (Err NoMemory) finds going = tt

-- after a message that came, the calls go on from there
pub Found-gave : (first new : Framing) (before after : Option (List ℕ)) (m : Message) → FoundSince first new before after (Ok (Some m))
    → Gave first new before after
Found-gave first new before after m f = record {
  bytes = f.bytes;
  count = f.count;
  moved = f.moved;
  idle = f.idle;
  trouble = f.finds;
}
