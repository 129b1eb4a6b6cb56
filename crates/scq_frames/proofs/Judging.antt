-- What a framer found of all that a source gave, as what the fault of its file, or none, says of it.
use Rattle.std.proofs.Common.{◌≡◌, ◌∙◌, ℕ, ◌+◌, ◌<◌, ◌^◌, Bool, true, false, refl, sym, ap, subst, arith, List, [], ◌∷◌, ◌++◌, Option, Some, None, Result, Ok, Err, IfSome, length, take, length-append}
use Rattle.std.specs.Prelude.{IsTrue, nat_lt, if◌then◌else◌}
use Rattle.std.specs.Option.{option_map, option_or}
use Rattle.std.proofs.lemmas.List.{take-append-le, append-nil, append_assoc}
use Rattle.std.proofs.lemmas.Bool.{lt-ltb, cond-true}
use Rattle.scq_frames.specs.Exports.{LongPayload, ManyBytes, counted_bytes, trouble_after, whole_lines, first_too_long, Framed, messages_after}
use Rattle.scq_frames.specs.Exports.{NothingLeft, fresh, limit_left, trouble_ahead, Found, BeginsWithLong, counted_ahead, file_trouble}
use Rattle.scq_frames.specs.declared.message.Message.{Message}
use Rattle.scq_frames.specs.declared.fault.FrameFault.{FrameFault}
use Rattle.scq_frames.specs.declared.fault.FrameFault.TheVariants.{ReadFault, TooLong, TooLarge, NoMemory}
use Rattle.scq_frames.specs.Framing.{Framing}
use Rattle.scq_frames.proofs.FindingLemmas.{Gave, FoundSince, moved-moved}
use Rattle.scq_frames.specs.Judged.{Judged}

-- past the limit nothing matters
counted-more : (most : ℕ) (failed : Bool) (text more : List ℕ) → most < length text → counted_bytes most failed (text ++ more) ≡ whole_lines (take most text)
unfolding counted_bytes
counted-more most true text more many = ap whole_lines (take-append-le most text more (omega arith))
counted-more most false text more many =
    ap (λ (b : Bool). if b then whole_lines (take most (text ++ more)) else (text ++ more))
    (lt-ltb most (length (text ++ more)) (omega (arith, length-append text more)))
    ∙ ap whole_lines (take-append-le most text more (omega arith))

pub trouble-more : (size most : ℕ) (failed : Bool) (passed : ℕ) (text more : List ℕ) → most < length text
    → trouble_after size most failed passed (text ++ more)
    ≡ option_or (first_too_long size (messages_after passed (whole_lines (take most text)))) (Some ManyBytes)
unfolding trouble_after
trouble-more size most failed passed text more many =
    ap (λ (c : List ℕ). option_or (first_too_long size (messages_after passed c)) (if nat_lt most (length (text ++ more)) then Some ManyBytes else None))
    (counted-more most failed text more many)
    ∙ ap (λ (b : Bool). option_or (first_too_long size (messages_after passed (whole_lines (take most text)))) (if b then Some ManyBytes else None))
    (lt-ltb most (length (text ++ more)) (omega (arith, length-append text more)))

-- where something is visible, what holds of it
pub if-visible : {A : Type 0} (o : Option A) (P : A → Type 0) → ((x : A) → o ≡ Some x → P x) → IfSome o P
if-visible None P here = tt
if-visible (Some x) P here = here x refl

-- whatever came, want of memory says nothing of it
pub judged-memory : (size : ℕ) (first new : Framing) (before after : Option (List ℕ)) (result : Result (Option Message) FrameFault)
    → FoundSince first new before after result → Judged size before after (Some NoMemory)
judged-memory size first new before after result found = record {
  bytes = found.bytes;
  moved = found.moved;
  judges = if-visible after _ (λ rest e. tt);
}

-- all was read, and nothing is wrong with it
pub judged-end : (size file : ℕ) (new : Framing) (before after : Option (List ℕ)) → FoundSince (fresh file size (2 ^ 30)) new before after (Ok None)
    → Judged size before after None
judged-end size file new before after found = record {
  bytes = found.bytes;
  moved = found.moved;
  judges = if-visible after _ (λ rest e. found.finds);
}

-- how many bytes were read and are left
pub sized : (n read : ℕ) (before after : Option (List ℕ)) → read ≡ n
    → option_map (λ (bytes : List ℕ). read + length bytes) after ≡ option_map (λ (bytes : List ℕ). 0 + length bytes) before
    → option_map length before ≡ option_map (λ (left : List ℕ). n + length left) after
sized n read None None is e = refl
sized n read None (Some a) is e = absurd (cc)
sized n read (Some b) None is e = absurd (cc)
sized n read (Some b) (Some a) is e = let same : read + length a ≡ 0 + length b = cc in ap Some (omega arith)

-- more bytes were read than a file may have
large : (size : ℕ) (bytes rest : List ℕ) (n : ℕ) → 2 ^ 30 < n → length (bytes ++ rest) ≡ n + length rest → file_trouble size false bytes ≡ Some ManyBytes
    → file_trouble size false (bytes ++ rest) ≡ Some ManyBytes
large size bytes rest n many count trouble =
    let past : 2 ^ 30 < length bytes = omega (arith, length-append bytes rest) in
    trouble-more size (2 ^ 30) false 0 bytes rest past ∙ sym (trouble-more size (2 ^ 30) false 0 bytes [] past)
    ∙ ap (file_trouble size false) (append-nil bytes) ∙ trouble

-- where the first message that counts is too long, it is the trouble
long-first : (size line len : ℕ) (ms : List Framed) → BeginsWithLong line len ms → size < len → first_too_long size ms ≡ Some (LongPayload line len)
long-first size line len [] begins above = absurd begins
long-first size line len (m ∷ ms) begins above =
    cond-true (nat_lt size (length m.payload)) (Some (LongPayload m.line (length m.payload))) (first_too_long size ms)
    (lt-ltb size (length m.payload) (omega (arith, begins.1)))
    ∙ ap (λ n. Some (LongPayload n (length m.payload))) begins.0 ∙ ap (λ n. Some (LongPayload line n)) begins.1

trouble-long : (f : Framing) (failed : Bool) (bytes : List ℕ) (line len : ℕ) → BeginsWithLong line len (counted_ahead f failed bytes) → f.size < len
    → trouble_ahead f failed bytes ≡ Some (LongPayload line len)
unfolding trouble_after
trouble-long f failed bytes line len begins above =
    ap (λ o. option_or o (if nat_lt (limit_left f) (length (f.held ++ bytes)) then Some ManyBytes else None))
    (long-first f.size line len (counted_ahead f failed bytes) begins above)

-- a payload is too long, whatever follows its line
pub judged-long : (size file : ℕ) (old new : Framing) (before mid after : Option (List ℕ)) (line len : ℕ) → Gave (fresh file size (2 ^ 30)) old before mid
    → Found old new mid after (Err (TooLong line len)) → old.size < len
    → (IsTrue old.ended → IsTrue new.ended) → (IsTrue new.ended → NothingLeft after) → Judged size before after (Some (TooLong line len))
judged-long size file old new before mid after line len gave found above stays end = record {
  bytes = gave.bytes ++ found.bytes;
  moved = moved-moved gave.bytes found.bytes before mid after gave.moved found.moved;
  judges = if-visible after _
      (λ rest e. (ap (file_trouble size false) (sym (append-nil (gave.bytes ++ found.bytes))) ∙ trouble [] (λ h. refl), trouble rest (λ h. nothing rest e h)));
} where
  nothing : (rest : List ℕ) → after ≡ Some rest → IsTrue new.ended → rest ≡ []
  nothing rest e h = let P : Option (List ℕ) → Type 0 = NothingLeft in subst P e (end h)

  trouble : (more : List ℕ) → (IsTrue new.ended → more ≡ []) → file_trouble size false ((gave.bytes ++ found.bytes) ++ more) ≡ Some (LongPayload line len)
  trouble more none =
      ap (file_trouble size false) (append_assoc gave.bytes found.bytes more)
      ∙ gave.trouble false (found.bytes ++ more) (λ h. (ap (λ (front : List ℕ). front ++ more) (found.idle h) ∙ none (stays h), refl))
      ∙ trouble-long old false (found.bytes ++ more) line len (found.comes false more (λ h. (none h, refl))) above

-- a fault says what is wrong
pub judged-fault : (size file : ℕ) (new : Framing) (before after : Option (List ℕ)) (fault : FrameFault)
    → FoundSince (fresh file size (2 ^ 30)) new before after (Err fault)
    → ((n : ℕ) → fault ≡ TooLarge n → (2 ^ 30 < n) × (option_map length before ≡ option_map (λ left. n + length left) after))
    → ((line len : ℕ) → fault ≡ TooLong line len → Judged size before after (Some (TooLong line len)))
    → Judged size before after (Some fault)
judged-fault size file new before after ReadFault found many long = record {
  bytes = found.bytes;
  moved = found.moved;
  judges = if-visible after _ (λ rest e. found.finds);
}
judged-fault size file new before after (TooLong line len) found many long = long line len refl
judged-fault size file new before after (TooLarge n) found many long = record {
  bytes = found.bytes;
  moved = found.moved;
  judges = if-visible after _ (λ rest e. (found.finds, large size found.bytes rest n (many n refl).0 (counted_all rest e) found.finds));
} where
  counted_all : (rest : List ℕ) → after ≡ Some rest → length (found.bytes ++ rest) ≡ n + length rest
  counted_all rest e =
      let before-is : before ≡ Some (found.bytes ++ rest) = found.moved ∙ ap (option_map (λ r. found.bytes ++ r)) e in
      let same : Some (length (found.bytes ++ rest)) ≡ Some (n + length rest) =
      sym (ap (option_map length) before-is) ∙ (many n refl).1 ∙ ap (option_map (λ left. n + length left)) e in
      cc
judged-fault size file new before after NoMemory found many long = judged-memory size _ new before after (Err NoMemory) found
