-- A history that grows by one event: what was recorded stays, and what the new event adds.
use Rattle.std.proofs.Common.{◌≡◌, ◌≢◌, ℕ, zero, suc, ◌+◌, ◌<◌, ◌≤◌, ◌⊎◌, inl, inr, List, [], ◌∷◌, ◌++◌, length, refl, ap, sym, ◌∙◌, subst, arith, eq-eqb, ne_eqb, length-append}
use Rattle.std.specs.Prelude.{Option, Some, None, slice_get}
use Rattle.std.proofs.lemmas.Option.{slice_get_within}
use Rattle.scq_hist.specs.Exports.{under_way, under_way_after, put_start, puts_before, IsCall, IsPut, IsLawful, IsLawfulAt}
use Rattle.scq_hist.specs.declared.events.Call.{Call}
use Rattle.scq_hist.specs.declared.events.Event.{Event}
use Rattle.scq_hist.specs.declared.events.Event.TheVariants.{Start, End}
use Rattle.scq_hist.specs.declared.events.Reply.{Reply}

pub length_grown : {A : Type 0} (xs : List A) (x : A) → length (xs ++ x ∷ []) ≡ suc (length xs)
length_grown xs x = let sum = length-append xs (x ∷ []) in omega arith

pub old_at : {A : Type 0} (xs : List A) (x : A) (i : ℕ) → i < length xs → slice_get (xs ++ x ∷ []) i ≡ slice_get xs i
old_at [] x i low = absurd (omega arith)
old_at (y ∷ ys) x zero low = refl
old_at (y ∷ ys) x (suc i) low = old_at ys x i (omega arith)

pub new_at : {A : Type 0} (xs : List A) (x : A) → slice_get (xs ++ x ∷ []) (length xs) ≡ Some x
new_at [] x = refl
new_at (y ∷ ys) x = new_at ys x

-- an element of the longer list is an old one or the last
pub at_grown : {A : Type 0} (xs : List A) (x : A) (i : ℕ) (y : A) → slice_get (xs ++ x ∷ []) i ≡ Some y
    → (slice_get xs i ≡ Some y) ⊎ ((i ≡ length xs) × (x ≡ y))
at_grown [] x zero y e = inr (refl, cc)
at_grown [] x (suc i) y e = absurd (cc)
at_grown (z ∷ zs) x zero y e = inl e
at_grown (z ∷ zs) x (suc i) y e = elim (at_grown zs x i y e) [ inl old ↦ inl old | inr new ↦ let same = new.0 in inr (omega arith, new.1) ]

pub kept_at : {A : Type 0} (xs : List A) (x : A) (i : ℕ) (y : A) → slice_get xs i ≡ Some y → slice_get (xs ++ x ∷ []) i ≡ Some y
kept_at xs x i y e = old_at xs x i (slice_get_within xs i y e) ∙ e

-- what a seat has under way at the end of the list
abbrev pub under_now : List Event → ℕ → Option ℕ
under_now events seat = under_way events seat (length events)

abbrev pub puts_now : List Event → ℕ → ℕ
puts_now events seat = puts_before events seat (length events)

module _ (events : List Event) (x : Event) where
  abbrev longer : List Event
  longer = events ++ x ∷ []

  pub under_old : (seat m : ℕ) → m ≤ length events → under_way longer seat m ≡ under_way events seat m
  under_old seat zero low = refl
  under_old seat (suc m) low = rw (old_at events x m (omega arith), under_old seat m (omega arith)) refl

  pub under_grown : (seat : ℕ) → under_now longer seat ≡ under_way_after (Some x) (length events) seat (under_now events seat)
  under_grown seat = rw (length_grown events x, new_at events x, under_old seat (length events) (omega arith)) refl

  pub puts_old : (seat m : ℕ) → m ≤ length events → puts_before longer seat m ≡ puts_before events seat m
  puts_old seat zero low = refl
  puts_old seat (suc m) low = rw (old_at events x m (omega arith), puts_old seat m (omega arith)) refl

  pub puts_grown : (seat : ℕ) → puts_now longer seat ≡ puts_now events seat + put_start (Some x) seat
  puts_grown seat = rw (length_grown events x, new_at events x, puts_old seat (length events) (omega arith)) refl

  pub call_grown : (seat : ℕ) (call : Call) (s e : ℕ) (reply : Reply) → IsCall events seat call s e reply → IsCall longer seat call s e reply
  call_grown seat call s e reply is =
      let low = slice_get_within events e (End seat reply) is.ends in
      record {
        starts = kept_at events x s (Start seat call) is.starts;
        under_way_till = under_old seat e (omega arith) ∙ is.under_way_till;
        ends = kept_at events x e (End seat reply) is.ends;
      }

  pub put_grown : (seat number queue : ℕ) (content : List ℕ) (s : ℕ) → IsPut events seat number queue content s → IsPut longer seat number queue content s
  put_grown seat number queue content s is =
      let low = slice_get_within events s _ is.starts in
      record {
        starts = kept_at events x s _ is.starts;
        counted = is.counted ∙ ap suc (sym (puts_old seat s (omega arith)));
      }

  lawful_at_grown : (i : ℕ) (at : Option Event) → i < length events → IsLawfulAt events i at → IsLawfulAt longer i at
  lawful_at_grown i (Some (Start seat call)) low is = under_old seat i (omega arith) ∙ is
  lawful_at_grown i (Some (End seat reply)) low is =
      record { s = is.s; call = is.call; is_call = call_grown seat is.call is.s i reply is.is_call; suits = is.suits }
  lawful_at_grown i None low is = tt

  pub lawful_grown : IsLawful events → IsLawfulAt longer (length events) (Some x) → IsLawful longer
  lawful_grown lawful new i =
      lawful_there (slice_get longer i) refl
    where
      lawful_there : (at : Option Event) → slice_get longer i ≡ at → IsLawfulAt longer i at
      lawful_there None is = tt
      lawful_there (Some y) is =
          elim (at_grown events x i y is) [
            | inl old ↦ lawful_at_grown i (Some y) (slice_get_within events i y old) (subst (λ z. IsLawfulAt events i z) old (lawful i))
            | inr last ↦
                subst
                (λ z. IsLawfulAt longer z (Some y))
                (sym last.0)
                (subst (λ z. IsLawfulAt longer (length events) (Some z)) last.1 new)
          ]

-- the seat of an event
abbrev pub seat_of : Event → ℕ
seat_of (Start seat call) = seat
seat_of (End seat reply) = seat

-- what other seats have under way stays
pub under_else : (events : List Event) (x : Event) (seat : ℕ) → seat_of x ≢ seat → under_now (events ++ x ∷ []) seat ≡ under_now events seat
under_else events (Start k call) seat apart = under_grown events (Start k call) seat ∙ rw (ne_eqb k seat apart) refl
under_else events (End k reply) seat apart = under_grown events (End k reply) seat ∙ rw (ne_eqb k seat apart) refl

pub under_start : (events : List Event) (seat : ℕ) (call : Call) → under_now (events ++ Start seat call ∷ []) seat ≡ Some (length events)
under_start events seat call = under_grown events (Start seat call) seat ∙ rw (eq-eqb seat seat refl) refl

pub under_end : (events : List Event) (seat : ℕ) (reply : Reply) → under_now (events ++ End seat reply ∷ []) seat ≡ None
under_end events seat reply = under_grown events (End seat reply) seat ∙ rw (eq-eqb seat seat refl) refl
