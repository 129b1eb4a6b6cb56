-- Several calls of C, one slot after the other. Plan: what went so far is kept as `WentBelow`, which grows by a slot; a slot that
-- is written leaves the others.
use Rattle.std.proofs.Common.{◌≡◌, ◌≢◌, ℕ, zero, suc, ◌+◌, ◌<◌, ◌≤◌, List, [], ◌∷◌, length, refl, sym, ◌∙◌, subst, arith, length-set}
use Rattle.std.specs.Prelude.{Some, slice_get, slice_set, slice_index_or}
use Rattle.scq_port.specs.Exports.{PortStanding}
use Rattle.scq_port.proofs.Lists.{set_here, set_other}
use Rattle.scq_c.specs.declared.exports.Held.{Held}
use Rattle.scq_c.specs.Exports.{InARow, none_yet, one_more, SlotCall, WentAt, OfMany}

-- so many calls went, and wrote no slot behind theirs
pub record WentBelow (Of : SlotCall) (k : ℕ) (before now : List Held) (old at : PortStanding) : Type 0 where
  pub whole : length now ≡ length before
  pub went : InARow (WentAt Of before now) old k at
  pub rest : (j : ℕ) → k ≤ j → slice_get now j ≡ slice_get before j

-- what is true of each call of a row in other words
row_as : (C D : ℕ → PortStanding → PortStanding → Type 0) (old : PortStanding) (n : ℕ) (at : PortStanding)
    → ((j : ℕ) (a b : PortStanding) → j < n → C j a b → D j a b) → InARow C old n at → InARow D old n at
row_as C D old n at told none_yet = none_yet
row_as C D old n at told (one_more {k} {between} before last) =
    one_more (row_as C D old k between (λ j a b low. told j a b (omega (arith, low))) before) (told k between at (omega arith) last)

there : (hs : List Held) (k : ℕ) (d : Held) → k < length hs → slice_get hs k ≡ Some (slice_index_or hs k d)
there [] k d low = absurd (omega (arith, low))
there (x ∷ xs) zero d low = refl
there (x ∷ xs) (suc k) d low = there xs k d (omega (arith, low))

-- the invariant of a loop over the slots
abbrev pub WentSoFar : SlotCall → ℕ → List Held → List Held → PortStanding → PortStanding → Type 0
WentSoFar Of k before now old at = WentBelow Of k before now old at × (k ≤ length now)

pub none_went : (Of : SlotCall) (slots : List Held) (old : PortStanding) → WentSoFar Of 0 slots slots old old
none_went Of slots old = (record { whole = refl; went = none_yet; rest = λ j far. refl }, omega arith)

-- one more went, and left its slot so in `later`, where the others are as they were
one_went : (Of : SlotCall) (k : ℕ) (before now later : List Held) (old at new : PortStanding) (slot left : Held)
    → WentBelow Of k before now old at → slice_get now k ≡ Some slot → length later ≡ length now → slice_get later k ≡ Some left
    → ((j : ℕ) → j ≢ k → slice_get later j ≡ slice_get now j) → Of 0 slot left at new → WentBelow Of (k + 1) before later old new
one_went Of k before now later old at new slot left so_far here long is others call =
    record {
      whole = long ∙ so_far.whole;
      went =
          subst (λ (n : ℕ). InARow (WentAt Of before later) old n new) (omega arith)
          (one_more (row_as (WentAt Of before now) (WentAt Of before later) old k at
          (λ j a b low w.
          record { slot = w.slot; left = w.left; was = w.was; is = others j (omega (arith, low)) ∙ w.is; went = w.went }) so_far.went)
          (record { slot = slot; left = left; was = sym (so_far.rest k (omega arith)) ∙ here; is = is; went = call }));
      rest = λ j far. others j (omega (arith, far)) ∙ so_far.rest j (omega (arith, far));
    }

-- the same where the slot was set
one_set : (Of : SlotCall) (k : ℕ) (before now : List Held) (old at new : PortStanding) (slot left : Held)
    → WentBelow Of k before now old at → slice_get now k ≡ Some slot → Of 0 slot left at new
    → WentBelow Of (k + 1) before (slice_set now k left) old new
one_set Of k before now old at new slot left so_far here call =
    one_went Of k before now (slice_set now k left) old at new slot left so_far here (length-set now k left)
    (set_here now k slot left here) (λ j other. set_other now k j left other) call

-- all went
all_went : (Of : SlotCall) (k : ℕ) (before now : List Held) (old new : PortStanding) → WentBelow Of k before now old new
    → k ≡ length now → OfMany Of 0 k before now old new
all_went Of k before now old new so_far all =
    record {
      last = new;
      went = so_far.went;
      rest = so_far.rest;
      all = λ ok. (all ∙ so_far.whole, refl);
      refused = λ isnt. absurd (isnt refl);
    }

-- the next was refused
next_refused : (Of : SlotCall) (code k : ℕ) (before now : List Held) (old at new : PortStanding) (slot told : Held)
    → WentBelow Of k before now old at → slice_get now k ≡ Some slot → code ≢ 0 → Of code slot told at new
    → OfMany Of code k before now old new
next_refused Of code k before now old at new slot told so_far here isnt call =
    record {
      last = at;
      went = so_far.went;
      rest = so_far.rest;
      all = λ ok. absurd (isnt ok);
      refused = λ no. (slot, told, sym (so_far.rest k (omega arith)) ∙ here, call);
    }

-- a turn of a loop: a call that went, of a slot that was written, or of one that is only read
pub set_next : (Of : SlotCall) (k code : ℕ) (before now : List Held) (old at new : PortStanding) (d left : Held)
    → WentSoFar Of k before now old at → k < length now → code ≡ 0 → Of code (slice_index_or now k d) left at new
    → WentSoFar Of (k + 1) before (slice_set now k left) old new
set_next Of k code before now old at new d left so_far low ok call = (
  one_set Of k before now old at new (slice_index_or now k d) left so_far.0 (there now k d low)
      (subst (λ (n : ℕ). Of n (slice_index_or now k d) left at new) ok call),
  let long = length-set now k left in omega (arith, long, low),
)

pub read_next : (Of : SlotCall) (k code : ℕ) (slots : List Held) (old at new : PortStanding) (d : Held)
    → WentSoFar Of k slots slots old at → k < length slots → code ≡ 0
    → Of code (slice_index_or slots k d) (slice_index_or slots k d) at new → WentSoFar Of (k + 1) slots slots old new
read_next Of k code slots old at new d so_far low ok call = (
  one_went Of k slots slots slots old at new (slice_index_or slots k d) (slice_index_or slots k d) so_far.0 (there slots k d low) refl
      (there slots k d low) (λ j other. refl) (subst (λ (n : ℕ). Of n (slice_index_or slots k d) (slice_index_or slots k d) at new) ok call),
  omega (arith, low),
)

-- the ways out: all went, or one was refused
pub all_done : (Of : SlotCall) (k : ℕ) (before now : List Held) (old new : PortStanding) → WentSoFar Of k before now old new
    → length now ≤ k → OfMany Of 0 k before now old new
all_done Of k before now old new so_far past =
    all_went Of k before now old new so_far.0 (let low = so_far.1 in omega (arith, past, low))

pub stopped_at : (Of : SlotCall) (k code : ℕ) (before now : List Held) (old at new : PortStanding) (d told : Held)
    → WentSoFar Of k before now old at → k < length now → 0 < code → Of code (slice_index_or now k d) told at new
    → OfMany Of code k before now old new
stopped_at Of k code before now old at new d told so_far low isnt call =
    next_refused Of code k before now old at new (slice_index_or now k d) told so_far.0 (there now k d low) (λ e. omega (arith, isnt, e)) call
