-- The messages ahead of a framer, when a line or the last line is passed.
use Rattle.std.proofs.Common.{◌≡◌, ℕ, ◌+◌, ◌≤◌, Bool, Option, Some, None, List, [], ◌∷◌, ◌++◌, length, take, drop, map, refl, sym, ◌∙◌, ap, subst}
use Rattle.std.specs.Prelude.{IsTrue, IfNone, IfSome, sum_by, if◌then◌else◌}
use Rattle.std.specs.Option.{option_map, option_to_list}
use Rattle.std.proofs.lemmas.List.{append-nil, map-append}
use Rattle.scq_frames.specs.Exports.{numbered, EndsAt, HasNoLineFeed, message_in, messages_after, payload_of, GivesFirst, bytes_ahead, visible_ahead}
use Rattle.scq_frames.specs.Exports.{weight_of}
use Rattle.scq_frames.specs.Framing.{Framing}
use Rattle.scq_frames.specs.declared.message.Message.{Message}
use Rattle.scq_frames.proofs.TextLemmas.{messages_after-ended, messages_after-last, messages_after-nil}

pub option_map-nothing : {X : Type 0} (visible : Option (List X)) → option_map (λ rest. [] ++ rest) visible ≡ visible
option_map-nothing None = refl
option_map-nothing (Some xs) = refl

module _ (number : List ℕ → ℕ) where
  -- passing a line takes its message off those ahead
  pub visible_ahead-line : (old : Framing) (len weight : ℕ) (left : Option (List ℕ)) → EndsAt old.held len
      → visible_ahead number old left ≡ option_map (λ rest. map (numbered old.file number) (message_in (old.line + 1) (take len old.held)) ++ rest)
      (visible_ahead number (record old { line = old.line + 1; held = drop (len + 1) old.held; weight = weight }) left)
  visible_ahead-line old len weight None ends = refl
  visible_ahead-line old len weight (Some left) ends =
      let behind = if old.ended then [] else left in
      ap (λ ms. Some (map (numbered old.file number) ms)) (messages_after-ended old.line old.held behind len ends)
      ∙ ap Some (map-append (numbered old.file number) (message_in (old.line + 1) (take len old.held))
      (messages_after (old.line + 1) (drop (len + 1) old.held ++ behind)))

  -- the last line is all that is ahead at the end
  pub visible_ahead-last : (old : Framing) (left : Option (List ℕ)) → IsTrue old.ended → HasNoLineFeed old.held 0 (length old.held)
      → visible_ahead number old left ≡ option_map (λ _. map (numbered old.file number) (message_in (old.line + 1) old.held)) left
  visible_ahead-last old None ended clear = refl
  visible_ahead-last old (Some left) ended clear =
      let none : bytes_ahead old left ≡ old.held = ap (λ (e : Bool). old.held ++ (if e then [] else left)) ended ∙ append-nil old.held in
      ap (λ bytes. Some (map (numbered old.file number) (messages_after old.line bytes))) none
      ∙ ap (λ ms. Some (map (numbered old.file number) ms)) (messages_after-last old.line old.held clear)

  -- nothing is ahead behind it
  pub visible_ahead-over : (f : Framing) (left : Option (List ℕ)) → IsTrue f.ended → f.held ≡ [] → visible_ahead number f left ≡ option_map (λ _. []) left
  visible_ahead-over f None ended none = refl
  visible_ahead-over f (Some left) ended none =
      ap (λ (e : Bool). Some (map (numbered f.file number) (messages_after f.line (f.held ++ (if e then [] else left))))) ended
      ∙ ap (λ (held : List ℕ). Some (map (numbered f.file number) (messages_after f.line (held ++ [])))) none
      ∙ ap (λ ms. Some (map (numbered f.file number) ms)) (messages_after-nil f.line)

  -- a line that was passed has given this
  pub record Passed (old new : Framing) (len : ℕ) (given : Option Message) : Type 0 where
    pub ends : EndsAt old.held len
    pub fits : length (payload_of (take len old.held)) ≤ old.size
    pub gave : option_to_list given ≡ map (numbered old.file number) (message_in (old.line + 1) (take len old.held))
    pub after : new ≡ record old { line = old.line + 1; held = drop (len + 1) old.held; weight = old.weight + sum_by weight_of (option_to_list given) }

  -- where the search for its end left the framer as it was
  pub passed-line : (old new was : Framing) (len : ℕ) (given : Option Message) → old ≡ was → EndsAt was.held len
      → length (payload_of (take len old.held)) ≤ old.size
      → option_to_list given ≡ map (numbered old.file number) (message_in (old.line + 1) (take len old.held))
      → new ≡ record old { line = old.line + 1; held = drop (len + 1) old.held; weight = old.weight + sum_by weight_of (option_to_list given) }
      → Passed old new len given
  passed-line old new was len given same ends fits gave after = record {
    ends = subst (λ (f : Framing). EndsAt f.held len) (sym same) ends;
    fits = fits;
    gave = gave;
    after = after;
  }

  -- what was ahead is what the line gave, and what is ahead behind it
  pub gives-line : (first old new : Framing) (before after : Option (List ℕ)) (len : ℕ) (given : Option Message)
      → visible_ahead number first before ≡ visible_ahead number old after → Passed old new len given
      → visible_ahead number first before ≡ option_map (λ rest. option_to_list given ++ rest) (visible_ahead number new after)
  gives-line first old new before after len given ahead passed =
      ahead ∙ visible_ahead-line old len (old.weight + sum_by weight_of (option_to_list given)) after passed.ends
      ∙ ap (λ (ms : List Message). option_map (λ rest. ms ++ rest)
      (visible_ahead number (record old {
        line = old.line + 1;
        held = drop (len + 1) old.held;
        weight = old.weight + sum_by weight_of (option_to_list given);
      }) after)) (sym passed.gave)
      ∙ ap (λ (f : Framing). option_map (λ rest. option_to_list given ++ rest) (visible_ahead number f after)) (sym passed.after)

  -- a line without a message is empty
  pub no_line : (at file : ℕ) (line : List ℕ) → [] ≡ map (numbered file number) (message_in at line) → line ≡ []
  no_line at file [] e = refl
  no_line at file (b ∷ bs) e = cc

  -- the last line was passed, where there was one
  pub record PassedLast (old new : Framing) (given : Option Message) : Type 0 where
    pub ended : IsTrue old.ended
    pub clear : HasNoLineFeed old.held 0 (length old.held)
    pub gave : option_to_list given ≡ map (numbered old.file number) (message_in (old.line + 1) old.held)
    pub none : IfNone given (new ≡ old)
    pub some : IfSome given (λ m. new ≡ record old { line = old.line + 1; held = []; weight = old.weight + weight_of m })

  pub passed-last : (old new was : Framing) (given : Option Message) → old ≡ was → IsTrue old.ended → HasNoLineFeed was.held 0 (length was.held)
      → option_to_list given ≡ map (numbered old.file number) (message_in (old.line + 1) old.held) → IfNone given (new ≡ old)
      → IfSome given (λ m. new ≡ record old { line = old.line + 1; held = []; weight = old.weight + weight_of m }) → PassedLast old new given
  passed-last old new was given same ended clear gave none some = record {
    ended = ended;
    clear = subst (λ (f : Framing). HasNoLineFeed f.held 0 (length f.held)) (sym same) clear;
    gave = gave;
    none = none;
    some = some;
  }

  -- whether the end was read, and how many bytes were, the last line leaves
  pub last-kept : (old new : Framing) (given : Option Message) → PassedLast old new given → (new.ended ≡ old.ended) × (new.read ≡ old.read)
  last-kept old new None p = (ap (λ (f : Framing). f.ended) p.none, ap (λ (f : Framing). f.read) p.none)
  last-kept old new (Some m) p = (ap (λ (f : Framing). f.ended) p.some, ap (λ (f : Framing). f.read) p.some)

  nothing_behind : (old new : Framing) (given : Option Message) (after : Option (List ℕ)) → PassedLast old new given
      → visible_ahead number new after ≡ option_map (λ _. []) after
  nothing_behind old new None after p =
      ap (λ (f : Framing). visible_ahead number f after) p.none ∙ visible_ahead-over old after p.ended (no_line (old.line + 1) old.file old.held p.gave)
  nothing_behind old new (Some m) after p =
      ap (λ (f : Framing). visible_ahead number f after) p.some
      ∙ visible_ahead-over (record old { line = old.line + 1; held = []; weight = old.weight + weight_of m }) after p.ended refl

  last-only : (first old : Framing) (before after : Option (List ℕ)) (given : Option Message) (new : Framing)
      → visible_ahead number first before ≡ visible_ahead number old after → PassedLast old new given
      → visible_ahead number first before ≡ option_map (λ _. option_to_list given) after
  last-only first old before after given new ahead p =
      ahead ∙ visible_ahead-last old after p.ended p.clear ∙ ap (λ (ms : List Message). option_map (λ _. ms) after) (sym p.gave)

  gives-last : (first old new : Framing) (before after : Option (List ℕ)) (given : Option Message)
      → visible_ahead number first before ≡ visible_ahead number old after → PassedLast old new given
      → visible_ahead number first before ≡ option_map (λ rest. option_to_list given ++ rest) (visible_ahead number new after)
  gives-last first old new before after given ahead p =
      last-only first old before after given new ahead p ∙ joined after
      ∙ ap (option_map (λ rest. option_to_list given ++ rest)) (sym (nothing_behind old new given after p))
    where
      joined : (after : Option (List ℕ)) → option_map (λ _. option_to_list given) after
          ≡ option_map (λ rest. option_to_list given ++ rest) (option_map (λ _. []) after)
      joined None = refl
      joined (Some left) = ap Some (sym (append-nil (option_to_list given)))

  -- a message was passed, which is the first of those ahead
  pub first-line : (first old new : Framing) (before after : Option (List ℕ)) (len : ℕ) (given : Option Message) (m : Message)
      → visible_ahead number first before ≡ visible_ahead number old after → Passed old new len given → given ≡ Some m
      → GivesFirst number first new before after (Some m)
  first-line first old new before after len given m ahead passed some = record {
    gives = subst (λ (o : Option Message). visible_ahead number first before
        ≡ option_map (λ rest. option_to_list o ++ rest) (visible_ahead number new after)) some (gives-line first old new before after len given ahead passed);
    none = tt;
    over = tt;
  }

  -- the last line was passed, or the end gave nothing, and then nothing was ahead
  pub first-last : (first old new : Framing) (before after : Option (List ℕ)) (given : Option Message)
      → visible_ahead number first before ≡ visible_ahead number old after → PassedLast old new given → GivesFirst number first new before after given
  first-last first old new before after given ahead p = record {
    gives = gives-last first old new before after given ahead p;
    none = none-last given ahead p;
    over = over given p;
  }
    where
      none-last : (given : Option Message) → visible_ahead number first before ≡ visible_ahead number old after → PassedLast old new given
          → IfNone given (visible_ahead number first before ≡ option_map (λ _. []) before)
      none-last (Some m) ahead p = tt
      none-last None ahead p = empty before after (last-only first old before after None new ahead p)
        where
          empty : (before after : Option (List ℕ)) → visible_ahead number first before ≡ option_map (λ _. []) after
              → visible_ahead number first before ≡ option_map (λ _. []) before
          empty None after e = refl
          empty (Some left) None e = cc
          empty (Some left) (Some rest) e = e

      over : (given : Option Message) → PassedLast old new given → IfNone given (IsTrue new.ended × (new.held ≡ []))
      over (Some m) p = tt
      over None p = (
        ap (λ (f : Framing). f.ended) p.none ∙ p.ended,
        ap (λ (f : Framing). f.held) p.none ∙ no_line (old.line + 1) old.file old.held p.gave,
      )
