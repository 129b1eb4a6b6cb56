-- The lines of a text that have been read so far, and what follows them.
use Rattle.std.proofs.Common.{◌≡◌, ℕ, ◌+◌, ◌≤◌, true, List, [], ◌∷◌, ◌++◌, length, length-append, append_assoc, Option, Some, None, refl, sym, ◌∙◌, ap, subst, arith}
use Rattle.std.proofs.lemmas.Bool.Decides.{nat_tests}
use Rattle.std.proofs.lemmas.List.Elements.{filter_map-append}
use Rattle.scq_hist.specs.Exports.{IsLawful}
use Rattle.scq_hist.specs.declared.events.Event.{Event}
use Rattle.scq_check.specs.Exports.{line_of, token_of, said_event, tokens_in, events_in, may_follow, may_stand_next, IsHistory, empty, one_more}
use Rattle.scq_check.specs.Exports.{IsUnlawfulLine}
use Rattle.scq_check.specs.declared.line.Line.{Line}
use Rattle.scq_check.specs.declared.line.Line.TheVariants.{Opening, Happens}

-- so many lines were read, which say these tokens and events, and the rest follows
pub record LinesAreRead (lines rest : List (List ℕ)) (tokens : List (List ℕ)) (events : List Event) (number : ℕ) : Type 0 where
  pub before : List (List ℕ)
  pub stands : lines ≡ before ++ rest
  pub numbered : number ≡ length before
  pub history : IsHistory before
  pub tokens_are : tokens ≡ tokens_in before
  pub events_are : events ≡ events_in before
  pub lawful : IsLawful events
  pub counted : number ≡ length tokens + length events
  pub few_tokens : length tokens ≤ 4096
  pub few_events : length events ≤ 1000

-- nothing was read yet
pub read_none : (lines tokens : List (List ℕ)) (events : List Event) → tokens ≡ [] → events ≡ [] → IsLawful [] → LinesAreRead lines lines tokens events 0
read_none lines tokens events t e lawful =
    record {
      before = [];
      stands = refl;
      numbered = refl;
      history = empty;
      tokens_are = t;
      events_are = e;
      lawful = subst IsLawful (sym e) lawful;
      counted = rw (t, e) refl;
      few_tokens = rw t (omega arith);
      few_events = rw e (omega arith);
    }

tokens_one_more : (before : List (List ℕ)) (line : List ℕ) → tokens_in (before ++ line ∷ []) ≡ tokens_in before ++ tokens_in (line ∷ [])
tokens_one_more before line = filter_map-append (λ line. token_of (line_of line)) before (line ∷ [])

events_one_more : (before : List (List ℕ)) (line : List ℕ) → events_in (before ++ line ∷ []) ≡ events_in before ++ events_in (line ∷ [])
events_one_more before line = filter_map-append (λ line. said_event (line_of line)) before (line ∷ [])

-- a line that may follow says a token or an event, and there is room for it
record IsCounted (tokens : List (List ℕ)) (events : List Event) (more_tokens : List (List ℕ)) (more_events : List Event) : Type 0 where
  one : length more_tokens + length more_events ≡ 1
  few_tokens : length tokens + length more_tokens ≤ 4096
  few_events : length events + length more_events ≤ 1000

counted_in : (tokens : List (List ℕ)) (events : List Event) (line : List ℕ) (said : Option Line) → line_of line ≡ said → may_follow tokens events said ≡ true
    → length tokens ≤ 4096 → length events ≤ 1000 → IsCounted tokens events (tokens_in (line ∷ [])) (events_in (line ∷ []))
counted_in tokens events line (Some (Opening content)) is may few_t few_e =
    rw is (record { one = refl; few_tokens = grind (arith, nat_tests); few_events = grind (arith, nat_tests) })
counted_in tokens events line (Some (Happens event)) is may few_t few_e =
    rw is (record { one = refl; few_tokens = grind (arith, nat_tests); few_events = grind (arith, nat_tests) })
counted_in tokens events line None is may few_t few_e = absurd cc

module _ (lines : List (List ℕ)) (line : List ℕ) (rest : List (List ℕ)) (tokens : List (List ℕ)) (events : List Event) (number : ℕ)
    (is : LinesAreRead lines (line ∷ rest) tokens events number) where
  same_next : may_stand_next is.before line ≡ may_follow tokens events (line_of line)
  same_next = rw (is.tokens_are, is.events_are) refl

  events_up_to : events_in (is.before ++ line ∷ []) ≡ events ++ events_in (line ∷ [])
  events_up_to = events_one_more is.before line ∙ ap (λ es. es ++ events_in (line ∷ [])) (sym is.events_are)

  -- the next line is read
  pub read_more : (new_tokens : List (List ℕ)) (new_events : List Event) → may_follow tokens events (line_of line) ≡ true
      → new_tokens ≡ tokens ++ tokens_in (line ∷ []) → new_events ≡ events ++ events_in (line ∷ []) → IsLawful new_events
      → LinesAreRead lines rest new_tokens new_events (number + 1)
  read_more new_tokens new_events may t e lawful =
      let counted = counted_in tokens events line (line_of line) refl may is.few_tokens is.few_events in
      let many_tokens = ap length t ∙ length-append tokens (tokens_in (line ∷ [])) in
      let many_events = ap length e ∙ length-append events (events_in (line ∷ [])) in
      record {
        before = is.before ++ line ∷ [];
        stands = is.stands ∙ sym (append_assoc is.before (line ∷ []) rest);
        numbered = omega (arith, is.numbered, length-append is.before (line ∷ []));
        history = one_more is.before line is.history (same_next ∙ may) (subst IsLawful (e ∙ sym events_up_to) lawful);
        tokens_are = t ∙ ap (λ ts. ts ++ tokens_in (line ∷ [])) is.tokens_are ∙ sym (tokens_one_more is.before line);
        events_are = e ∙ sym events_up_to;
        lawful = lawful;
        counted = omega (arith, is.counted, counted.one, many_tokens, many_events);
        few_tokens = omega (arith, counted.few_tokens, many_tokens);
        few_events = omega (arith, counted.few_events, many_events);
      }

  -- the next line is the first whose event is out of place
  pub found_unlawful : (at : ℕ) → at ≡ number + 1 → may_follow tokens events (line_of line) ≡ true → ¬ IsLawful (events ++ events_in (line ∷ []))
      → IsUnlawfulLine lines at
  found_unlawful at a may unlawful =
      record {
        before = is.before;
        line = line;
        behind = record { after = rest; stands = is.stands; numbered = omega (arith, is.numbered, a); history = is.history };
        next = same_next ∙ may;
        unlawful = λ lawful. unlawful (subst IsLawful events_up_to lawful);
      }
