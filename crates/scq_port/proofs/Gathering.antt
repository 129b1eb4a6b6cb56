-- How far the passes that ports left have been gathered, slot by slot, and that they are all where none was missing.
use Rattle.std.proofs.Common.{◌≡◌, ℕ, zero, suc, ◌+◌, ◌<◌, ◌≤◌, List, [], ◌∷◌, ◌++◌, map, length, refl, sym, ◌∙◌, ap, subst, inl, inr, arith}
use Rattle.std.specs.Prelude.{Some, None, slice_get, sum_by}
use Rattle.std.proofs.lemmas.Bool.{cases_eq}
use Rattle.std.proofs.lemmas.List.{length-append}
use Rattle.std.proofs.lemmas.List.Sums.{sum_by-cons, sum_by-append}
use mathlib.Core.Option.{some, some-injective}
use lib.ListN.{get_elem?}
use Rattle.scq_law.specs.Exports.{times}
use Rattle.scq_queue.specs.Exports.{PassStanding, AreTheHeld}
use Rattle.scq_queue.proofs.Leaving.{get_before, get_last}
use Rattle.scq_port.specs.declared.port_buffer.PortBuffer.{PortBuffer}
use Rattle.scq_port.specs.Exports.{PortQueue, Value, Laid, IsPassOf, AreAllPasses, AreAdded}

-- of the slots below i those passes were gathered, with these values. Where none was missing, each stands in the place of its number
pub record PassesAreGathered (queue : PortQueue) (slots : List Laid) (i : ℕ) (passes : List (PassStanding PortBuffer)) (values : List Value) : Type 0 where
  pub few : length passes ≤ i
  pub each : length passes ≡ i → (k : ℕ) → k < i
      → (p : PassStanding PortBuffer) × (get_elem? slots k ≡ some (Some p)) × (slice_get passes k ≡ Some p) × IsPassOf queue k p
  pub held : length passes ≡ i → AreTheHeld queue passes values

pub gathered_none : (queue : PortQueue) (slots : List Laid) (passes : List (PassStanding PortBuffer)) (values : List Value) → passes ≡ [] → values ≡ []
    → PassesAreGathered queue slots 0 passes values
gathered_none queue slots passes values none empty =
    record {
      few = subst (λ (l : List (PassStanding PortBuffer)). length l ≤ 0) (sym none) (omega arith);
      each = λ full k low. absurd (omega (arith, low));
      held =
          λ full.
          subst (λ (l : List (PassStanding PortBuffer)). AreTheHeld queue l values) (sym none)
          (subst (λ (l : List Value). AreTheHeld queue [] l) (sym empty)
          (record { queue_of = λ k h at. let no : None ≡ Some h = at in absurd (cc); all = λ i. refl }));
    }

-- a pass was missing
pub gathered_less : (queue : PortQueue) (slots : List Laid) (i : ℕ) (passes more : List (PassStanding PortBuffer)) (values after : List Value)
    → PassesAreGathered queue slots i passes values → more ≡ passes → PassesAreGathered queue slots (i + 1) more after
gathered_less queue slots i passes more values after before same =
    record { few = omega (arith, few); each = λ full. absurd (missing full); held = λ full. absurd (missing full) }
  where
    few : length more ≤ i
    few = subst (λ (l : List (PassStanding PortBuffer)). length l ≤ i) (sym same) before.few

    missing : length more ≡ i + 1 → ⊥
    missing full = omega (arith, few, full)

-- one more was there
pub gathered_more : (queue : PortQueue) (slots : List Laid) (i : ℕ) (passes more : List (PassStanding PortBuffer)) (values after : List Value)
    (q : PassStanding PortBuffer) → PassesAreGathered queue slots i passes values → get_elem? slots i ≡ some (Some q) → IsPassOf queue i q
    → more ≡ passes ++ q ∷ [] → AreAdded queue q values after → PassesAreGathered queue slots (i + 1) more after
gathered_more queue slots i passes more values after q before here is new added =
    record {
      few = let few = before.few in omega (arith, few, many);
      each =
          λ full k low.
          elim (cases_eq k i) [
            | inl same ↦ (
              q,
              ap (λ (j : ℕ). get_elem? slots j) same ∙ here,
              ap (λ (l : List (PassStanding PortBuffer)). slice_get l k) new
                  ∙ ap (λ (j : ℕ). slice_get (passes ++ q ∷ []) j) (same ∙ sym (was full)) ∙ get_last passes q,
              subst (λ (j : ℕ). IsPassOf queue j q) (sym same) is,
            )
            | inr other ↦
                let e = before.each (was full) k (omega (arith, low, other)) in (
                  e.0,
                  e.1,
                  ap (λ (l : List (PassStanding PortBuffer)). slice_get l k) new ∙ get_before passes q e.0 k e.2,
                  e.3,
                )
          ];
      held =
          λ full.
          let h = before.held (was full) in
          record { queue_of = added.own h.queue_of; all = λ j. sums j (h.all j) };
    }
  where
    many : length more ≡ length passes + 1
    many = ap length new ∙ length-append passes (q ∷ [])

    was : length more ≡ i + 1 → length passes ≡ i
    was full = omega (arith, full, many)

    sums : (j : ℕ) → times j (map (λ (h : Value). h.index) values) ≡ sum_by (λ (p : PassStanding PortBuffer). times j p.held) passes
        → times j (map (λ (h : Value). h.index) after) ≡ sum_by (λ (p : PassStanding PortBuffer). times j p.held) more
    sums j all =
        let f : PassStanding PortBuffer → ℕ = λ p. times j p.held in
        let more_values = added.more j in
        let sum = ap (sum_by f) new ∙ sum_by-append f passes (q ∷ []) in
        let one = sum_by-cons f q [] in
        omega (arith, all, more_values, sum, one)

in_range : {A : Type 0} (xs : List A) (k : ℕ) (x : A) → slice_get xs k ≡ Some x → k < length xs
in_range [] k x at = absurd (let no : None ≡ Some x = at in cc)
in_range (y ∷ ys) zero x at = omega arith
in_range (y ∷ ys) (suc k) x at = let low = in_range ys k x at in omega (arith, low)

-- all slots were looked at, and none was missing
pub gathered_all : (queue : PortQueue) (slots : List Laid) (count : ℕ) (passes : List (PassStanding PortBuffer)) (values : List Value)
    (its : PassStanding PortBuffer) → PassesAreGathered queue slots count passes values → count ≡ queue.setup.seats → (length passes < count → ⊥)
    → its.number < count → get_elem? slots its.number ≡ some (Some its) → AreAllPasses queue its passes values
gathered_all queue slots count passes values its gathered seats none low there =
    record {
      all = full ∙ seats;
      each =
          λ k p at.
          let e = gathered.each full k (let under = in_range passes k p at in omega (arith, under, full)) in
          let both : Some e.0 ≡ Some p = sym e.2 ∙ at in
          let same : e.0 ≡ p = cc in
          subst (λ (q : PassStanding PortBuffer). IsPassOf queue k q) same e.3;
      its_place =
          let e = gathered.each full its.number low in
          let both : Some e.0 ≡ Some its = some-injective (Some e.0) (Some its) (sym e.1 ∙ there) in
          e.2 ∙ both;
      held = gathered.held full;
    }
  where
    full : length passes ≡ count
    full = let few = gathered.few in omega (arith, few, none)
